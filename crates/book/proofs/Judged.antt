-- An answer is a refusal that leaves the book, or the page of a call that fits the stage and has no fault.
use Rattle.std.proofs.Common.{arith, ◌≡◌, true, false, not, List, [], ◌∷◌, refl}
use Rattle.std.proofs.lemmas.Bool.{not-false, cond_both}
use Rattle.book.specs.declared.call.Call.{Call}
use Rattle.book.specs.declared.call.Call.TheVariants.{Prepare, Step}
use Rattle.book.specs.declared.refusal.Refusal.{Refusal}
use Rattle.book.specs.declared.refusal.Refusal.TheVariants.{OutOfStage}
use Rattle.book.specs.declared.reply.Reply.TheVariants.{Done, Refused}
use Rattle.book.specs.Step.{Rules}
use Rattle.book.specs.Calls.{Book, Stage, start, preparing, serving, closed, Page, Fault, fault, unchanged, stage_of, fits, judged, faults, accepted, answer, after}
use Rattle.book.specs.Laws.{is_refusal, InOrder}

-- ---- the stage

pub stage_is : (s : Stage) (x : Call) → fits s x ≡ true → s ≡ stage_of x
stage_is start (Prepare rows columns width) e = cc
stage_is preparing (Prepare rows columns width) e = cc
stage_is serving (Prepare rows columns width) e = cc
stage_is closed (Prepare rows columns width) e = cc
stage_is s x e = cc

-- ---- what an answer can be

abbrev pub NoneThere : List Fault → Type 0
NoneThere [] = Unit {0}
NoneThere (x ∷ xs) = (x.there ≡ false) × NoneThere xs

judged_page : (P : Page → Type 0) (xs : List Fault) (b : Book) (p : Page) → ((why : Refusal) → P (unchanged b (Refused why))) → (NoneThere xs → P p) → P (judged xs b p)
judged_page P [] b p f g = g tt
judged_page P (x ∷ xs) b p f g = cond_both x.there _ _ P (λ _. f x.why) (λ e. judged_page P xs b p f (λ n. g (e, n)))

module _ (rules : Rules) where
  answer_page : (P : Page → Type 0) (b : Book) (x : Call) → ((why : Refusal) → P (unchanged b (Refused why))) → (b.stage ≡ stage_of x → NoneThere (faults rules b x) → P (accepted rules b x)) → P (answer rules b x)
  answer_page P b x f g = judged_page P (fault (not (fits b.stage x)) OutOfStage ∷ faults rules b x) b (accepted rules b x) f (λ n. g (stage_is b.stage x (not-false (fits b.stage x) n.0)) n.1)

  -- what holds of the book and of what an accepted call makes of it holds of the answer's
  pub answer_book : (P : Book → Type 0) (b : Book) (x : Call) → P b → (b.stage ≡ stage_of x → NoneThere (faults rules b x) → P (accepted rules b x).book) → P (answer rules b x).book
  answer_book P b x h g = answer_page (λ p. P p.book) b x (λ _. h) g

  -- and then, from any book that has it, of the book after a list of calls
  pub after_book : (P : Book → Type 0) → ((b : Book) (x : Call) → P b → b.stage ≡ stage_of x → NoneThere (faults rules b x) → P (accepted rules b x).book) → (b : Book) (calls : List Call) → P b → P (after rules b calls)
  after_book P g b [] h = h
  after_book P g b (x ∷ xs) h = after_book P g (answer rules b x).book xs (answer_book P b x h (g b x h))

  -- a call that is done fits the stage and has no fault, and the book is what it makes of it
  pub answer_done : (b : Book) (x : Call) → (answer rules b x).reply ≡ Done → (b.stage ≡ stage_of x) × NoneThere (faults rules b x) × ((answer rules b x).book ≡ (accepted rules b x).book)
  answer_done b x = answer_page (λ p. p.reply ≡ Done → (b.stage ≡ stage_of x) × NoneThere (faults rules b x) × (p.book ≡ (accepted rules b x).book)) b x (λ why e. cc) (λ s n _. (s, n, refl))

  -- ---- a refusal changes nothing

  accepts : (b : Book) (x : Call) → is_refusal (accepted rules b x).reply ≡ false
  accepts b (Prepare rows columns width) = refl
  accepts b x = refl

  pub refusal_leaves : (b : Book) (x : Call) → is_refusal (answer rules b x).reply ≡ true → (answer rules b x).book ≡ b
  refusal_leaves b x = answer_page (λ p. is_refusal p.reply ≡ true → p.book ≡ b) b x (λ _ _. refl) (λ _ _ e. cc (accepts b x))

  -- the faults stand in the order of their numbers
  pub in_order : (b : Book) (x : Call) → InOrder (faults rules b x)
  in_order b (Step rate) = search arith
  in_order b x = search arith
