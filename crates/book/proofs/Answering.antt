-- How a call comes to be answered: refused for a fault that is there, where those before it are not, or accepted where none is.
use Rattle.std.proofs.Common.{◌≡◌, true, false, not, List, [], ◌∷◌, ◌++◌, sym, refl, ap, ◌∙◌}
use Rattle.book.specs.declared.call.Call.{Call}
use Rattle.book.specs.declared.refusal.Refusal.TheVariants.{OutOfStage}
use Rattle.book.specs.declared.reply.Reply.TheVariants.{Refused}
use Rattle.book.specs.Step.{Rules}
use Rattle.book.specs.Calls.{Book, Page, Fault, fault, unchanged, fits, judged, faults, accepted, answer}
use Rattle.book.specs.Answers.{Answered}
use Rattle.book.proofs.Judged.{NoneThere}

judged_there : (before : List Fault) (x : Fault) (rest : List Fault) (b : Book) (p : Page) → NoneThere before → x.there ≡ true → judged (before ++ (x ∷ rest)) b p ≡ unchanged b (Refused x.why)
judged_there [] x rest b p n e = rw e
judged_there (y ∷ ys) x rest b p n e = rw n.0 (judged_there ys x rest b p n.1 e)

judged_none : (xs : List Fault) (b : Book) (p : Page) → NoneThere xs → judged xs b p ≡ p
judged_none [] b p n = refl
judged_none (x ∷ xs) b p n = rw n.0 (judged_none xs b p n.1)

answered_by : (rules : Rules) (b : Book) (x : Call) (p : Page) → answer rules b x ≡ p → Answered rules b x p.book p.reply
answered_by rules b x p e = record { book = sym (ap (λ (q : Page). q.book) e); reply = sym (ap (λ (q : Page). q.reply) e) }

module _ (rules : Rules) (b : Book) (x : Call) where
  -- a call that does not fit the stage
  pub misplaced : fits b.stage x ≡ false → Answered rules b x b (Refused OutOfStage)
  misplaced e = answered_by rules b x (unchanged b (Refused OutOfStage)) (judged_there [] (fault (not (fits b.stage x)) OutOfStage) (faults rules b x) b (accepted rules b x) tt (ap not e))

  module _ (fit : fits b.stage x ≡ true) where
    -- the faults are split where the first that is there stands
    pub refused : (before : List Fault) (y : Fault) (rest : List Fault) → faults rules b x ≡ before ++ (y ∷ rest) → NoneThere before → y.there ≡ true → Answered rules b x b (Refused y.why)
    refused before y rest e n there =
        answered_by rules b x (unchanged b (Refused y.why))
        (ap (λ ys. judged (fault (not (fits b.stage x)) OutOfStage ∷ ys) b (accepted rules b x)) e
        ∙ judged_there (fault (not (fits b.stage x)) OutOfStage ∷ before) y rest b (accepted rules b x) (ap not fit, n) there)

    pub taken : NoneThere (faults rules b x) → Answered rules b x (accepted rules b x).book (accepted rules b x).reply
    taken n = answered_by rules b x (accepted rules b x) (judged_none (fault (not (fits b.stage x)) OutOfStage ∷ faults rules b x) b (accepted rules b x) (ap not fit, n))
