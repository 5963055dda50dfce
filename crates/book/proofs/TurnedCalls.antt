-- One call: the turned book answers the turned call as the book answers the call, turned.
use Rattle.std.proofs.Common.{◌≡◌, ℕ, ◌+◌, ◌*◌, ◌<◌, min, true, false, not, ltb, List, [], ◌∷◌, set, sym, refl, ap, ◌∙◌, subst, ⊎_elim}
use Rattle.std.proofs.lemmas.Bool.{or_parts, cases_Bool}
use Rattle.book.specs.declared.call.Call.{Call}
use Rattle.book.specs.declared.call.Call.TheVariants.{Prepare, Lay, Open as Opening, Step, Rain, Soak, ChangeSide, AskCell, AskStanding, AskSlowestRate}
use Rattle.book.specs.declared.reply.Reply.TheVariants.{Done, RateIs}
use Rattle.rules.specs.Flux.{LawfulFlux}
use Rattle.rules.specs.Friction.{LawfulFriction}
use Rattle.book.specs.declared.turn.Turn.{Turn}
use Rattle.book.specs.Ranges.{max_depth, max_rate}
use Rattle.book.specs.Step.{Rules}
use Rattle.book.specs.Sheets.{cell_at, side_number, with_cells, with_sides, off_sheet, standing}
use Rattle.book.specs.Accounts.{full, poured_only, rain_more, soak_more}
use Rattle.book.specs.Calls.{Book, start, preparing, serving, Page, Fault, unchanged, on_page, soaked_away, fresh, at_rest, rained, soaked, hand_of, side_of, side_amiss, stage_of, fits, judged, faults, accepted, answer, rained_on}
use Rattle.book.specs.Turns.{turned_hand, turned_table, turned_account, turned_call, turned_reply, turned_book}
use Rattle.book.proofs.Sound.{SoundAt, SoundBook}
use Rattle.book.specs.Laws.{OfSize}
use Rattle.book.proofs.Numbers.{inside}
use Rattle.book.proofs.Sums.{sum_turned, some_turned}
use Rattle.book.proofs.Judged.{NoneThere, stage_is}
use Rattle.book.proofs.TurnedFaces.{wide, cell_turned}
use Rattle.book.proofs.TurnedTables.{hand_twice, sent, sent_row, sent_column, came_sent, depth_came, laid_came, standing_turned, mapped_turned, laid_turned, blank_turned, walls_turned, sides_set, held_turned}
use Rattle.book.proofs.TurnedSteps.{too_slow_turned, slowest_turned, brim_passed_turned, step_cells, step_account}
use Rattle.book.proofs.TurnedWords.{full_turned, poured_turned, rain_turned, soak_turned, fresh_turned, rest_turned, rained_turned, soaked_turned, size_turned, product_turned, off_turned, on_row, on_column, number_turned, hand_turned}

abbrev pub turned_page : Turn → Page → Page
turned_page τ p = record { book = turned_book τ p.book; reply = turned_reply τ p.reply }

pub preparing_not : preparing ≡ start → ⊥
preparing_not e = cc

pub serving_not : serving ≡ start → ⊥
serving_not e = cc

-- ---- judged alike

-- each fault alike, where none of those before it is there
abbrev Alike : List Fault → List Fault → Type 0
Alike [] [] = Unit {0}
Alike (x ∷ xs) (y ∷ ys) = (x.there ≡ y.there) × (x.why ≡ y.why) × (y.there ≡ false → Alike xs ys)
Alike xs ys = ⊥

judged_turned : (τ : Turn) (xs ys : List Fault) (b : Book) (p' p : Page) → Alike xs ys → (NoneThere ys → p' ≡ turned_page τ p) → judged xs (turned_book τ b) p' ≡ turned_page τ (judged ys b p)
judged_turned τ [] [] b p' p a h = h tt
judged_turned τ (x ∷ xs) (y ∷ ys) b p' p a h = rw (a.0, a.1) (⊎_elim (λ e. rw e) (λ e. rw e (judged_turned τ xs ys b p' p (a.2 e) (λ n. h (e, n)))) (cases_Bool y.there))
judged_turned τ xs ys b p' p a h = absurd a

-- ---- a call on its sheet

module _ (rules : Rules) (flux : LawfulFlux rules.water rules.push) (friction : LawfulFriction rules.slowed) (τ : Turn) (b : Book) where
  abbrev on_sheet : Call → Call
  on_sheet x = turned_call τ b.table.rows b.table.columns x

  rain_account : (n : ℕ) → rain_more (turned_account τ b.account) (rained_on (turned_table τ b.table) n) ≡ turned_account τ (rain_more b.account (rained_on b.table n))
  rain_account n = rw (product_turned τ b.table.rows b.table.columns) (rain_turned τ b.account (rained_on b.table n))

  soak_account : (n : ℕ) → soak_more (turned_account τ b.account) (soaked_away (turned_table τ b.table) n) ≡ turned_account τ (soak_more b.account (soaked_away b.table n))
  soak_account n = rw (sum_turned τ b.table.rows b.table.columns _ (λ r c. min (cell_at b.table r c).depth n) (λ r c h k. ap (λ d. min d n) (depth_came τ b.table r c h k))) (soak_turned τ b.account (soaked_away b.table n))

  faults_turned : (x : Call) → SoundAt (stage_of x) b.table → Alike (faults rules (turned_book τ b) (on_sheet x)) (faults rules b x)
  faults_turned (Prepare rows columns width) s = (size_turned τ rows columns width, refl, λ _. tt)
  faults_turned (Lay row column bed depth) s = (off_turned τ b.table row column, refl, λ _. (refl, refl, λ _. (refl, refl, λ _. tt)))
  faults_turned Opening s = (some_turned τ b.table.rows b.table.columns _ (λ r c. not (cell_at b.table r c).laid) (λ r c h k. ap not (laid_came τ b.table r c h k)), refl, λ _. tt)
  faults_turned (Step rate) s = (refl, refl, λ _. (too_slow_turned τ b.table rate, refl, λ _. (brim_passed_turned rules flux τ b.table s rate, refl, λ _. (ap full (step_account rules flux τ b.table s rate b.account) ∙ full_turned τ _, refl, λ _. tt))))
  faults_turned (Rain n) s =
      let brim = some_turned τ b.table.rows b.table.columns (λ r c. ltb max_depth ((cell_at (turned_table τ b.table) r c).depth + n)) (λ r c. ltb max_depth ((cell_at b.table r c).depth + n)) (λ r c h k. ap (λ d. ltb max_depth (d + n)) (depth_came τ b.table r c h k)) in
      (refl, refl, λ _. (brim, refl, λ _. (ap full (rain_account n) ∙ full_turned τ _, refl, λ _. tt)))
  faults_turned (Soak n) s = (refl, refl, λ _. (ap full (soak_account n) ∙ full_turned τ _, refl, λ _. tt))
  faults_turned (ChangeSide n kind x y) s =
      (rw (number_turned τ n), refl, λ e. (rw (hand_turned τ n (or_parts (ltb 3 n) (side_amiss kind x y) e).0, held_turned τ b.table s (turned_hand τ (hand_of n)) (side_of kind x y), hand_twice), refl, λ _. tt))
  faults_turned AskSlowestRate s = (ap (ltb max_rate) (slowest_turned τ b.table), refl, λ _. tt)
  faults_turned x s = tt

  accepted_turned : (x : Call) → SoundAt (stage_of x) b.table → NoneThere (faults rules b x) → accepted rules (turned_book τ b) (on_sheet x) ≡ turned_page τ (accepted rules b x)
  accepted_turned (Prepare rows columns width) s n = λ i. on_page preparing (sym (blank_turned τ rows columns width) i) (poured_turned τ 0 i) Done
  accepted_turned (Lay r c bed depth) s n =
      ap (λ xs. on_page preparing (with_cells (turned_table τ b.table) xs) (turned_account τ b.account) Done)
      (ap (set (turned_table τ b.table).cells ((sent τ b.table r c).row * wide τ b.table + (sent τ b.table r c).column)) (fresh_turned τ bed depth)
      ∙ laid_turned τ b.table r c (fresh bed depth) (on_row b.table r c n.0) (on_column b.table r c n.0) s.0.sized)
  accepted_turned Opening s n =
      let poured = ap poured_only (standing_turned τ b.table) ∙ poured_turned τ (standing b.table) in
      λ i. on_page serving (with_sides (with_cells (turned_table τ b.table) (mapped_turned τ b.table at_rest (rest_turned τ) s.0.sized i)) (sym (walls_turned τ) i)) (poured i) Done
  accepted_turned (Step rate) s n =
      let rate_in = inside 1 max_rate rate n.0 in
      λ i. on_page serving (with_cells (turned_table τ b.table) (step_cells rules flux τ b.table s friction rate rate_in.0 rate_in.1 n.1.1.0 i)) (step_account rules flux τ b.table s rate b.account i) Done
  accepted_turned (Rain n) s _ = λ i. on_page serving (with_cells (turned_table τ b.table) (mapped_turned τ b.table (rained n) (rained_turned τ n) s.sized i)) (rain_account n i) Done
  accepted_turned (Soak n) s _ = λ i. on_page serving (with_cells (turned_table τ b.table) (mapped_turned τ b.table (soaked n) (soaked_turned τ n) s.sized i)) (soak_account n i) Done
  accepted_turned (ChangeSide n kind x y) s m =
      ap (λ ss. on_page serving (with_sides (turned_table τ b.table) ss) (turned_account τ b.account) Done)
      (ap (λ hand. set (turned_table τ b.table).sides (side_number hand) (side_of kind x y)) (hand_turned τ n (or_parts (ltb 3 n) (side_amiss kind x y) m.0).0)
      ∙ sym (sides_set τ (hand_of n) b.table.sides (side_of kind x y) s.four))
  accepted_turned (AskCell r c) s n =
      rw (off_turned τ b.table r c)
      (⊎_elim (λ (e : off_sheet b.table r c ≡ true). rw e)
      (λ (e : off_sheet b.table r c ≡ false).
      let h : r < b.table.rows = on_row b.table r c e in
      let k : c < b.table.columns = on_column b.table r c e in
      rw (e, cell_turned τ b.table _ _ (sent_row τ b.table r c h k) (sent_column τ b.table r c h k), came_sent τ b.table r c h k))
      (cases_Bool (off_sheet b.table r c)))
  accepted_turned AskStanding s n = rw (standing_turned τ b.table)
  accepted_turned AskSlowestRate s n = ap (λ r. unchanged (turned_book τ b) (RateIs r)) (slowest_turned τ b.table)
  accepted_turned x s n = refl

-- ---- a call, answered

stage_turned : (τ : Turn) (rows columns : ℕ) (x : Call) → stage_of (turned_call τ rows columns x) ≡ stage_of x
stage_turned τ rows columns (Prepare r c w) = refl
stage_turned τ rows columns x = refl

-- a call that names a place comes to a book with a sheet of that size
module _ (τ : Turn) (rows columns : ℕ) (b : Book) (size : OfSize rows columns b) where
  sheet_size : (b.stage ≡ start → ⊥) → (b.table.rows ≡ rows) × (b.table.columns ≡ columns)
  sheet_size h = ⊎_elim (λ z. absurd (h z)) (λ z. z) size

  same_call : (x : Call) → b.stage ≡ stage_of x → turned_call τ rows columns x ≡ turned_call τ b.table.rows b.table.columns x
  same_call (Lay r c bed depth) e = let z = sheet_size (λ s. cc) in rw (z.0, z.1)
  same_call (AskCell r c) e = let z = sheet_size (λ s. cc) in rw (z.0, z.1)
  same_call x e = refl

  module _ (rules : Rules) (flux : LawfulFlux rules.water rules.push) (friction : LawfulFriction rules.slowed) (sound : SoundBook b) where
    pub answer_turned : (x : Call) → answer rules (turned_book τ b) (turned_call τ rows columns x) ≡ turned_page τ (answer rules b x)
    answer_turned x =
        rw (stage_turned τ rows columns x)
        (⊎_elim
        (λ f.
        let e = stage_is b.stage x f in
        let s : SoundAt (stage_of x) b.table = subst (λ z. SoundAt z b.table) e sound in
        rw (f, same_call x e) (judged_turned τ _ _ b _ _ (faults_turned rules flux friction τ b x s) (accepted_turned rules flux friction τ b x s)))
        (λ f. rw f) (cases_Bool (fits b.stage x)))
