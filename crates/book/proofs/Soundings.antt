-- The soundings hold: the roots by uniqueness, the rest by computation with these roots.
use Rattle.std.proofs.Common.{◌≡◌, ℕ, zero, suc, ◌+◌, ◌*◌, ◌<◌, ◌≤◌, max, Bool, false, cond, not, eqb, ltb, List, [], ◌∷◌, ℤ, pos, ◌+ℤ◌, ◌-ℤ◌, ◌*ℤ◌, neg_ℤ, nat_abs, sym, refl, ap, arith}
use lib.Signed.{quot_z}
use Rattle.std.proofs.lemmas.Bool.{eqb-true, cond_both}
use Rattle.book.specs.declared.side.Hand.{Hand}
use Rattle.book.specs.declared.side.Hand.TheVariants.{West, East}
use Rattle.book.specs.declared.call.Call.{Call}
use Rattle.book.specs.declared.call.Call.TheVariants.{Step, ChangeSide, AskCell, AskAccount, AskSlowestRate}
use Rattle.book.specs.declared.refusal.Refusal.TheVariants.{OutOfStage, Rate, TooSlow, Brim, FullAccount, NoRate}
use Rattle.book.specs.declared.reply.Reply.{Reply}
use Rattle.book.specs.declared.reply.Reply.TheVariants.{Done, RateIs}
use Rattle.rules.specs.BareBed.{bare_slowed}
use Rattle.rules.specs.Drag.{quot_up, dragged}
use Rattle.rules.specs.Hll.{slow_wave, fast_wave, slowest, fastest, by_waves, fan_water, fan_push, hll_water, hll_push}
use Rattle.rules.specs.Root.{root_of}
use Rattle.rules.specs.Rusanov.{rusanov_water, rusanov_push}
use Rattle.rules.specs.Side.{face_pace, pace_of, discharge, momentum}
use Rattle.rules.specs.Weed.{weed_slowed}
use Rattle.book.specs.Ranges.{max_rate, rate_amiss}
use Rattle.book.specs.Numbers.{share, film, friction_speed}
use Rattle.book.specs.Step.{Rules, cell_after}
use Rattle.book.specs.Sheets.{Table, some_place, some_hand, cell_at, side_at, face, span, new_cell, brim_passed}
use Rattle.book.specs.Accounts.{nothing_passed, passed_by, account_after_step, full}
use Rattle.book.specs.Calls.{Book, Page, fault, fits, judged, unchanged, least_rate, accepted, replies, book_after}
use Rattle.book.specs.Laws.{Still, fed}
use Rattle.book.specs.Soundings.{Soundings, FurtherSoundings, rusanov_over, smooth, one_cell, two_cells, stream, streaming, outlet}
use Rattle.book.specs.Limits.{Limits}
use Rattle.rules.specs.Roots.{short_more, root_only}

-- ---- roots, each the only number that is one

root_is : (d s : ℕ) → 981 * d ≤ 10 * ((s + 1) * (s + 1)) → 10 * (s * s) < 981 * d → root_of d ≡ s + 1
root_is d s h l = sym (root_only d (s + 1) (record { enough = h; least = short_more (981 * d) s l }))

root_0 : root_of 0 ≡ 0
root_0 = sym (root_only 0 0 (record { enough = omega arith; least = λ u h. omega arith }))

root_1 : root_of 1 ≡ 10
root_1 = root_is 1 9 (omega arith) (omega arith)

root_500 : root_of 500 ≡ 222
root_500 = root_is 500 221 (omega arith) (omega arith)

root_1000 : root_of 1000 ≡ 314
root_1000 = root_is 1000 313 (omega arith) (omega arith)

root_2000000 : root_of 2000000 ≡ 14008
root_2000000 = root_is 2000000 14007 (omega arith) (omega arith)

-- ---- the same book with the roots written down, so that it computes

root_at : (d k s rest : ℕ) → root_of k ≡ s → root_of d ≡ rest → root_of d ≡ cond (eqb d k) s rest
root_at d k s rest e f = cond_both (eqb d k) s rest (λ z. root_of d ≡ z) (λ h. rw (eqb-true d k h) e) (λ _. f)

abbrev quick_root : ℕ → ℕ
quick_root d = cond (eqb d 0) 0 (cond (eqb d 500) 222 (cond (eqb d 1000) 314 (cond (eqb d 2000000) 14008 (root_of d))))

abbrev quick_pace : ℕ → ℤ → ℕ → ℤ → ℕ
quick_pace dl nl dr nr = max (nat_abs nl + quick_root dl) (nat_abs nr + quick_root dr)

root_quick : (d : ℕ) → root_of d ≡ quick_root d
root_quick d = root_at d 0 0 _ root_0 (root_at d 500 222 _ root_500 (root_at d 1000 314 _ root_1000 (root_at d 2000000 14008 _ root_2000000 refl)))

pace_quick : face_pace ≡ quick_pace
unfolding face_pace pace_of
pace_quick = λ i dl nl dr nr. max (nat_abs nl + root_quick dl i) (nat_abs nr + root_quick dr i)

abbrev rusanov_at : ℕ → (ℕ → ℤ → ℕ → ℤ → ℕ) → Rules
rusanov_at c m = record {
  number = 1;
  water = λ dl nl dr nr. quot_z ((discharge dl nl +ℤ discharge dr nr) -ℤ (pos (m dl nl dr nr) *ℤ (pos dr -ℤ pos dl))) (pos 2);
  push = λ dl nl dr nr. quot_z ((momentum dl nl +ℤ momentum dr nr) -ℤ (pos (20 * m dl nl dr nr) *ℤ (discharge dr nr -ℤ discharge dl nl))) (pos 2);
  slowed = bare_slowed c;
}

abbrev slow_at : (ℕ → ℤ → ℕ → ℤ → ℕ) → Table → ℕ → Bool
slow_at m t rate = some_place t (λ r c. some_hand (λ hand.
    ltb (span t rate) (4 * m (face t r c hand).left.depth (face t r c hand).left.normal (face t r c hand).right.depth (face t r c hand).right.normal)))

abbrev step_at : (ℕ → ℤ → ℕ → ℤ → ℕ) → Book → ℕ → Page
step_at m b rate =
    judged (fault (not (fits b.stage (Step rate))) OutOfStage
    ∷ fault (rate_amiss rate) Rate
    ∷ fault (slow_at m b.table rate) TooSlow
    ∷ fault (brim_passed (rusanov_at 0 m) b.table rate) Brim
    ∷ fault (full (account_after_step (rusanov_at 0 m) b.table rate b.account)) FullAccount ∷ []) b (accepted (rusanov_at 0 m) b (Step rate))

abbrev slowest_at : (ℕ → ℤ → ℕ → ℤ → ℕ) → Book → Page
slowest_at m b =
    judged (fault (not (fits b.stage AskSlowestRate)) OutOfStage ∷ fault (ltb max_rate (least_rate (slow_at m b.table) 1 max_rate)) NoRate ∷ []) b
    (unchanged b (RateIs (least_rate (slow_at m b.table) 1 max_rate)))

step_quick : (b : Book) (rate : ℕ) (rest : List Call) → replies smooth b (Step rate ∷ rest) ≡ (step_at quick_pace b rate).reply ∷ replies smooth (step_at quick_pace b rate).book rest
unfolding rusanov_water rusanov_push
step_quick b rate rest = ap (λ m. (step_at m b rate).reply ∷ replies smooth (step_at m b rate).book rest) pace_quick

slowest_quick : (b : Book) → replies smooth b (AskSlowestRate ∷ []) ≡ (slowest_at quick_pace b).reply ∷ []
unfolding rusanov_water rusanov_push
slowest_quick b = ap (λ m. (slowest_at m b).reply ∷ []) pace_quick

slowest_step_quick : (b : Book) (rate : ℕ) → replies smooth b (AskSlowestRate ∷ Step rate ∷ []) ≡ (slowest_at quick_pace b).reply ∷ (step_at quick_pace (slowest_at quick_pace b).book rate).reply ∷ []
unfolding rusanov_water rusanov_push
slowest_step_quick b rate = ap (λ m. (slowest_at m b).reply ∷ (step_at m (slowest_at m b).book rate).reply ∷ []) pace_quick

rules_quick : (c : ℕ) → rusanov_over c ≡ rusanov_at c quick_pace
unfolding rusanov_water rusanov_push
rules_quick c = ap (rusanov_at c) pace_quick

-- ---- the still pair

abbrev pair : Table
pair = (book_after smooth (two_cells 1000 (pos 500) 500 [])).table

at_both : (P : ℕ → ℕ → Type 0) → P 0 0 → P 0 1 → (r c : ℕ) → (r < 1) × (c < 2) → P r c
at_both P a b zero zero on = a
at_both P a b zero (suc zero) on = b
at_both P a b r c on = absurd (omega arith)

abbrev Level : Hand → ℕ → ℕ → Type 0
Level hand r c = (face pair r c hand).left.depth ≡ (face pair r c hand).right.depth

pair_still : Still pair
pair_still = record {
  east_still = at_both (λ r c. (cell_at pair r c).east ≡ pos 0) refl refl;
  north_still = at_both (λ r c. (cell_at pair r c).north ≡ pos 0) refl refl;
  level = λ r c on hand. by hand r c on;
  unfed = unfed;
}
  where
    by : (hand : Hand) (r c : ℕ) → (r < 1) × (c < 2) → Level hand r c
    by West = at_both (Level West) refl refl
    by hand = at_both (Level hand) refl refl

    unfed : (hand : Hand) → fed (side_at pair hand) ≡ false
    unfed West = refl
    unfed hand = refl

-- ---- all

-- the calls that are done before the list comes to a step
abbrev four_done : List Reply → List Reply
four_done rs = Done ∷ Done ∷ Done ∷ Done ∷ rs

pub soundings : Soundings
unfolding share film friction_speed face_pace pace_of discharge momentum rusanov_water rusanov_push slow_wave fast_wave slowest fastest by_waves fan_water fan_push hll_water hll_push quot_up dragged bare_slowed weed_slowed
soundings =
    let both : List Call = AskCell 0 0 ∷ AskCell 0 1 ∷ [] in
    record {
      roots = (root_0, root_1, root_500, root_1000, root_2000000);
      pair_still = pair_still;
      pair_rates = ap four_done (slowest_step_quick (book_after smooth (two_cells 1000 (pos 500) 500 [])) 1);
      dam_east = ap four_done (step_quick (book_after smooth (two_cells 1000 (pos 0) 0 [])) 2 both);
      dam_thin = ap four_done (step_quick (book_after smooth (two_cells 1000 (pos 0) 0 [])) 20 both);
      dam_west = ap four_done (step_quick (book_after smooth (two_cells 0 (pos 0) 1000 [])) 2 both);
      rusanov_400 = (simp (root_0, root_1000), simp (root_0, root_1000));
      hll_400 = (simp (root_0, root_1000), simp (root_0, root_1000));
      hll_100 = (simp (root_0, root_1000), simp (root_0, root_1000));
      friction = (refl, refl, refl);
      soaking = refl;
      held_low = ap four_done (step_quick (book_after smooth (one_cell 1000 1000 (ChangeSide 1 2 (pos 0) 0 ∷ []))) 2 (AskCell 0 0 ∷ AskAccount ∷ []));
    }

pub further_soundings : FurtherSoundings
unfolding share film friction_speed discharge momentum quot_up dragged bare_slowed
further_soundings =
    record {
      stages = refl;
      held_below = ap four_done (step_quick (book_after smooth (one_cell 1000 1000 (ChangeSide 1 2 (neg_ℤ (pos 500)) 0 ∷ []))) 2 (AskCell 0 0 ∷ AskAccount ∷ []));
      fed_west = ap four_done (step_quick (book_after smooth (one_cell 1000 0 (ChangeSide 0 3 (pos 1000) 400 ∷ []))) 3 (AskCell 0 0 ∷ AskAccount ∷ []));
      fed_south = ap four_done (step_quick (book_after smooth (one_cell 1000 0 (ChangeSide 2 3 (pos 1000) 400 ∷ []))) 3 (AskCell 0 0 ∷ AskAccount ∷ []));
      kinds = (refl, refl, refl, refl);
      outlet_step = (ap (λ rules. new_cell rules outlet 3 0 0) (rules_quick 0), ap (λ rules. passed_by rules outlet 3 East nothing_passed) (rules_quick 0));
      stream_step = ap (λ rules. cell_after rules (streaming 1000 (pos 7000) (pos 400000)) stream 10000 10) (rules_quick 1000);
    }

pub limits : Limits
unfolding share film friction_speed discharge momentum quot_up dragged bare_slowed
limits = record {
  sizes_taken = refl;
  sizes_refused = refl;
  cells_taken = refl;
  cells_refused = refl;
  sides_taken = refl;
  sides_refused = refl;
  sides_over = refl;
  amounts_taken = refl;
  amounts_refused = refl;
  rates_refused = refl;
  rate_highest = step_quick (book_after smooth (one_cell 10 1000 [])) 1000 [];
  rate_reached = step_quick (book_after smooth (one_cell 1256 1000 [])) 1 [];
  rate_missed = step_quick (book_after smooth (one_cell 1255 1000 [])) 1 [];
  rate_none = slowest_quick (book_after smooth (one_cell 10 2000000 []));
  brim_reached = refl;
  brim_passed = refl;
  film_left = refl;
  film_lost = refl;
  counts_taken = refl;
  counts_refused = refl;
}
