-- What the right answer to a question is, by the meaning of the rule that it asks.
use Rattle.std.specs.Prelude.{◌≡◌, ℕ, ℤ}
use Rattle.rules.specs.Root.{root_of}
use Rattle.rules.specs.Rusanov.{rusanov_water, rusanov_push}
use Rattle.rules.specs.Hll.{hll_water, hll_push}
use Rattle.rules.specs.BareBed.{bare_slowed}
use Rattle.rules.specs.Weed.{weed_slowed}
use Rattle.rules.specs.Face.{of_face}
use Rattle.rules.specs.Stream.{of_stream}
use Rattle.rules.specs.declared.face.Face.{Face}
use Rattle.face.specs.declared.question.FluxName.{FluxName}
use Rattle.face.specs.declared.question.FluxName.TheVariants.{Rusanov, Hll}
use Rattle.face.specs.declared.question.Question.{Question}
use Rattle.face.specs.declared.question.Question.TheVariants.{Root, Flux, Bare, Weed}
use Rattle.face.specs.declared.question.Asked.{Asked}
use Rattle.face.specs.Checks.{plain}
use Rattle.face.specs.declared.answer.Answer.{Answer}
use Rattle.face.specs.declared.answer.Answer.TheVariants.{Wave, Passed, Left}

abbrev pub passed_by : (ℕ → ℤ → ℕ → ℤ → ℤ) → (ℕ → ℤ → ℕ → ℤ → ℤ) → Face → Answer
passed_by water push face = Passed (record { water = of_face water face; push = of_face push face })

abbrev pub flux_answer : FluxName → Face → Answer
flux_answer Rusanov face = passed_by rusanov_water rusanov_push face
flux_answer Hll face = passed_by hll_water hll_push face

abbrev pub answer_to : Question → Answer
answer_to (Root depth) = Wave (root_of depth)
answer_to (Flux name face) = flux_answer name face
answer_to (Bare bed s) = Left (of_stream (bare_slowed bed.coefficient) s)
answer_to (Weed weed s) = Left (weed_slowed weed.strength (of_stream (bare_slowed weed.over.coefficient) s) s.rate)

-- the right answer to a question that has just the numbers that were asked
pub record RightAnswer (asked : Asked) (answer : Answer) : Type 0 where
  pub question : Question
  pub asks : plain question ≡ asked
  pub right : answer ≡ answer_to question
