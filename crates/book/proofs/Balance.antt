-- The account adds up: all water that stands, soaked away or left is what was poured, rained or came in.
use Rattle.std.proofs.Common.{inl, inr, ◌≡◌, ℕ, suc, ◌+◌, ◌<◌, min, false, List, map, refl, subst, add-one, arith}
use lib.IntN.{neg_ℤ-neg_ℤ}
use Rattle.std.proofs.lemmas.Bool.{lt-ltb}
use Rattle.book.specs.declared.cell.Cell.{Cell}
use Rattle.book.specs.declared.side.Hand.TheVariants.{West, East, South, North}
use Rattle.book.specs.declared.account.Account.{Account}
use Rattle.book.specs.declared.call.Call.{Call}
use Rattle.book.specs.declared.call.Call.TheVariants.{Prepare, Lay, Open as Opening, Step, Rain, Soak}
use Rattle.rules.specs.Flux.{LawfulFlux}
use Rattle.book.specs.declared.reply.Reply.TheVariants.{Done}
use Rattle.rules.specs.Friction.{LawfulFriction}
use Rattle.book.specs.Faces.{Face}
use Rattle.book.specs.Step.{Rules, gives, takes}
use Rattle.book.specs.Sheets.{Table, cell_at, face, span, sum_places, with_cells, standing, too_slow, stepped}
use Rattle.book.specs.Accounts.{account_after_step}
use Rattle.book.specs.Calls.{on_page, Book, serving, soaked, rained, at_rest, stage_of, faults, accepted, empty_book, book_after}
use Rattle.book.proofs.Sound.{Sound, SoundAt, SoundBook}
use Rattle.book.specs.Laws.{Balanced, Opened}
use Rattle.book.proofs.Sums.{sheet_balance, total_same, total_add, total_even}
use Rattle.book.proofs.Grids.{map_at}
use Rattle.book.proofs.Neighbours.{rows_some, columns_some}
use Rattle.book.proofs.Judged.{NoneThere, after_book}
use Rattle.book.proofs.Steps.{not_overdrawn, stepped_exact}
use Rattle.book.proofs.Soundness.{sound_kept}

-- ---- a face seen from both its cells

east_face : (t : Table) (r c : ℕ) → suc c < t.columns → face t r (suc c) West ≡ face t r c East
east_face t r c h = rw (add-one c, lt-ltb)

north_face : (t : Table) (r c : ℕ) → suc r < t.rows → face t (suc r) c South ≡ face t r c North
north_face t r c h = rw (add-one r, lt-ltb)

-- what one of them takes there the other gives; west and east, or south and north
module _ (rules : Rules) (k : ℕ) (f g : Face) (e : f ≡ g) where
  low_takes : takes rules k West f ≡ gives rules k East g
  low_takes = rw (e, neg_ℤ-neg_ℤ)

  low_gives : gives rules k West f ≡ takes rules k East g
  low_gives = rw e

-- ---- the account after a call

-- the water that stands after every cell is changed alike
standing_map : (t : Table) → Sound t → (f : Cell → Cell) → standing (with_cells t (map f t.cells)) ≡ sum_places t (λ r c. (f (cell_at t r c)).depth)
standing_map t sound f =
    total_same t.rows t.columns _ (λ r c. (f (cell_at t r c)).depth) (λ r c p q. rw (map_at t.rows t.columns t.cells f r c sound.sized p q))

module _ (rules : Rules) (flux : LawfulFlux rules.water rules.push) (t : Table) (sound : Sound t) (rate : ℕ) (paced : too_slow t rate ≡ false) where
  step_balanced : (a : Account) → Balanced (on_page serving t a Done).book → Balanced (on_page serving (stepped rules t rate) (account_after_step rules t rate a) Done).book
  step_balanced a h =
      omega (
        arith,
        sheet_balance t.rows t.columns (rows_some t sound) (columns_some t sound)
            _ _ _ _ _ _ _ _ _ _
            (λ r c p q. stepped_exact rules t rate r c p q (not_overdrawn rules flux t sound rate paced r c p q))
            (λ r c p q. low_takes rules (span t rate) _ _ (east_face t r c q)) (λ r c p q. low_gives rules (span t rate) _ _ (east_face t r c q))
            (λ c r p q. low_takes rules (span t rate) _ _ (north_face t r c q)) (λ c r p q. low_gives rules (span t rate) _ _ (north_face t r c q)),
      )

module _ (rules : Rules) (flux : LawfulFlux rules.water rules.push) (friction : LawfulFriction rules.slowed) where
  accepted_balanced : (b : Book) (x : Call) → SoundAt (stage_of x) b.table → b.stage ≡ stage_of x → (Opened b → Balanced b) → NoneThere (faults rules b x) → Opened (accepted rules b x).book → Balanced (accepted rules b x).book
  accepted_balanced b (Prepare rows columns width) s e h n (inl o) = cc
  accepted_balanced b (Prepare rows columns width) s e h n (inr o) = cc
  accepted_balanced b (Lay row column bed depth) s e h n (inl o) = cc
  accepted_balanced b (Lay row column bed depth) s e h n (inr o) = cc
  accepted_balanced b Opening s e h n o = omega (arith, standing_map b.table s.0 at_rest)
  accepted_balanced b (Step rate) s e h n o = step_balanced rules flux b.table s rate n.1.0 b.account (h (inl e))
  accepted_balanced b (Rain amount) s e h n o =
      omega (arith, h (inl e), standing_map b.table s (rained amount), total_add b.table.rows b.table.columns (λ r c. (cell_at b.table r c).depth) (λ r c. amount), total_even b.table.rows b.table.columns amount)
  accepted_balanced b (Soak amount) s e h n o =
      omega (
        arith,
        h (inl e),
        standing_map b.table s (soaked amount),
        total_add b.table.rows b.table.columns (λ r c. (soaked amount (cell_at b.table r c)).depth) (λ r c. min (cell_at b.table r c).depth amount),
        total_same b.table.rows b.table.columns (λ r c. (soaked amount (cell_at b.table r c)).depth + min (cell_at b.table r c).depth amount) (λ r c. (cell_at b.table r c).depth) (λ r c p q. omega arith),
      )
  accepted_balanced b x s e h n o = h (inl e)

  none_opened : Opened empty_book → Balanced empty_book
  none_opened (inl o) = cc
  none_opened (inr o) = cc

  pub balanced : (calls : List Call) → Opened (book_after rules calls) → Balanced (book_after rules calls)
  balanced calls =
      (after_book rules (λ b. SoundBook b × (Opened b → Balanced b))
      (λ b x h e n. (sound_kept rules friction b x h.0 e n, accepted_balanced b x (subst (λ z. SoundAt z b.table) e h.0) e h.1 n)) empty_book calls (refl, none_opened)).1
