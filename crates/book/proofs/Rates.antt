-- The slowest rate is the least that is not too slow.
use Rattle.std.proofs.Common.{◌≡◌, ℕ, zero, suc, ◌+◌, ◌<◌, ◌≤◌, Bool, true, false, subst, ⊎_elim, arith}
use Rattle.std.proofs.lemmas.Bool.{cond_both, cases_eq}
use Rattle.book.specs.Ranges.{max_rate}
use Rattle.book.specs.Sheets.{Table, too_slow}
use Rattle.book.specs.Calls.{least_rate, slowest_rate}
use Rattle.book.specs.Laws.{Slowest}

suits_from : (slow : ℕ → Bool) (d n : ℕ) → least_rate slow d n < d + n → slow (least_rate slow d n) ≡ false
suits_from slow d zero = λ h. absurd (omega arith)
suits_from slow d (suc n) =
    cond_both (slow d) (least_rate slow (d + 1) n) d (λ r. r < d + suc n → slow r ≡ false) (λ _ h. suits_from slow (d + 1) n (omega arith)) (λ e _. e)

least_from : (slow : ℕ → Bool) (d n e : ℕ) → d ≤ e → e < least_rate slow d n → slow e ≡ true
least_from slow d zero e low = λ h. absurd (omega arith)
least_from slow d (suc n) e low =
    cond_both (slow d) (least_rate slow (d + 1) n) d (λ r. e < r → slow e ≡ true)
    (λ s h. ⊎_elim (λ (q : d ≡ e). subst (λ x. slow x ≡ true) q s) (λ q. least_from slow (d + 1) n e (omega arith) h) (cases_eq d e))
    (λ _ h. absurd (omega arith))

pub slowest_least : (t : Table) → Slowest t (slowest_rate t)
slowest_least t = record { suits = λ h. suits_from (too_slow t) 1 max_rate (omega arith); least = least_from (too_slow t) 1 max_rate }
