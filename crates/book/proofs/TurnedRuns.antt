-- Lists of calls and of turns: turned sheets answer alike.
use Rattle.std.proofs.Common.{◌≡◌, ℕ, List, [], ◌∷◌, map, sym, refl, ap, ◌∙◌, subst, ap₂, inl, inr}
use Rattle.book.specs.declared.call.Call.{Call}
use Rattle.book.specs.declared.call.Call.TheVariants.{Prepare}
use Rattle.rules.specs.Flux.{LawfulFlux}
use Rattle.rules.specs.Friction.{LawfulFriction}
use Rattle.book.specs.declared.turn.Turn.{Turn}
use Rattle.book.specs.declared.turn.Turn.TheVariants.{EastWest}
use Rattle.book.specs.Step.{Rules}
use Rattle.book.specs.Calls.{Book, Page, empty_book, stage_of, accepted, answer, after, replies, book_after, replies_to}
use Rattle.book.specs.Turns.{turned_rows, turned_columns, turned_call, turned_reply, turned_book, turned_calls, turned_books, turned_replies}
use Rattle.book.proofs.Sound.{SoundBook}
use Rattle.book.specs.Laws.{OfSize}
use Rattle.book.proofs.Judged.{answer_book}
use Rattle.book.proofs.Soundness.{answer_sound}
use Rattle.book.proofs.TurnedCalls.{answer_turned}

-- ---- the size stays from the preparing on

module _ (rules : Rules) (rows columns : ℕ) where
  size_accepted : (b : Book) (x : Call) → b.stage ≡ stage_of x → OfSize rows columns (accepted rules b x).book → OfSize rows columns b
  size_accepted b (Prepare r c w) e s = inl e
  size_accepted b x e (inl s) = cc
  size_accepted b x e (inr s) = inr s

  size_before : (calls : List Call) (b : Book) → OfSize rows columns (after rules b calls) → OfSize rows columns b
  size_before [] b s = s
  size_before (x ∷ xs) b s = answer_book rules (λ n. OfSize rows columns n → OfSize rows columns b) b x (λ z. z) (λ e _. size_accepted b x e) (size_before xs (answer rules b x).book s)

of_size_turned : (τ : Turn) (rows columns : ℕ) (b : Book) → OfSize rows columns b → OfSize (turned_rows τ rows columns) (turned_columns τ rows columns) (turned_book τ b)
of_size_turned τ rows columns b (inl s) = inl s
of_size_turned τ rows columns b (inr s) = inr (ap₂ (turned_rows τ) s.0 s.1, ap₂ (turned_columns τ) s.0 s.1)

first_turned : (τ : Turn) → empty_book ≡ turned_book τ empty_book
first_turned EastWest = refl
first_turned τ = refl

module _ (rules : Rules) (flux : LawfulFlux rules.water rules.push) (friction : LawfulFriction rules.slowed) where
  -- ---- one turn of a list of calls

  module _ (τ : Turn) (rows columns : ℕ) where
    -- from a book and the turned book on
    run : (calls : List Call) (b b' : Book) → b' ≡ turned_book τ b → SoundBook b → OfSize rows columns (after rules b calls) →
        (after rules b' (map (turned_call τ rows columns) calls) ≡ turned_book τ (after rules b calls)) × (replies rules b' (map (turned_call τ rows columns) calls) ≡ map (turned_reply τ) (replies rules b calls))
    run [] b b' e sound s = (e, refl)
    run (x ∷ xs) b b' e sound s =
        let one = ap (λ c. answer rules c (turned_call τ rows columns x)) e ∙ answer_turned τ rows columns b (size_before rules rows columns (x ∷ xs) b s) rules flux friction sound x in
        let rest = run xs (answer rules b x).book _ (ap (λ (p : Page). p.book) one) (answer_sound rules friction b x sound) s in
        (rest.0, ap₂ (λ r rs. r ∷ rs) (ap (λ (p : Page). p.reply) one) rest.1)

    one_turn : (calls : List Call) → OfSize rows columns (book_after rules calls) →
        (book_after rules (map (turned_call τ rows columns) calls) ≡ turned_book τ (book_after rules calls)) × (replies_to rules (map (turned_call τ rows columns) calls) ≡ map (turned_reply τ) (replies_to rules calls))
    one_turn calls s = run calls empty_book empty_book (first_turned τ) refl s

    size_after_turn : (calls : List Call) → OfSize rows columns (book_after rules calls) →
        OfSize (turned_rows τ rows columns) (turned_columns τ rows columns) (book_after rules (map (turned_call τ rows columns) calls))
    size_after_turn calls s =
        subst (OfSize (turned_rows τ rows columns) (turned_columns τ rows columns)) (sym (one_turn calls s).0) (of_size_turned τ rows columns (book_after rules calls) s)

  -- ---- the two laws

  pub turned_books_alike : (τs : List Turn) (rows columns : ℕ) (calls : List Call) → OfSize rows columns (book_after rules calls) → book_after rules (turned_calls τs rows columns calls) ≡ turned_books τs (book_after rules calls)
  turned_books_alike [] rows columns calls s = refl
  turned_books_alike (τ ∷ τs) rows columns calls s =
      turned_books_alike τs (turned_rows τ rows columns) (turned_columns τ rows columns) (map (turned_call τ rows columns) calls) (size_after_turn τ rows columns calls s)
      ∙ ap (turned_books τs) (one_turn τ rows columns calls s).0

  pub turned_replies_alike : (τs : List Turn) (rows columns : ℕ) (calls : List Call) → OfSize rows columns (book_after rules calls) → replies_to rules (turned_calls τs rows columns calls) ≡ turned_replies τs (replies_to rules calls)
  turned_replies_alike [] rows columns calls s = refl
  turned_replies_alike (τ ∷ τs) rows columns calls s =
      turned_replies_alike τs (turned_rows τ rows columns) (turned_columns τ rows columns) (map (turned_call τ rows columns) calls) (size_after_turn τ rows columns calls s)
      ∙ ap (turned_replies τs) (one_turn τ rows columns calls s).1
