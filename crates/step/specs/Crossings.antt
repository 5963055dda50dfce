-- What crosses a face in one step, as the water book has it.
use Rattle.std.specs.Prelude.{◌≡◌, ℕ, ◌*◌, ◌<◌, ◌≤◌, Some, None, Option}
use Rattle.book.specs.Numbers.{trunc}
use Rattle.book.specs.Faces.{Face, pace}
use Rattle.book.specs.Step.{Rules, water, push, carried}
use Rattle.sheet.specs.declared.crossing.Crossing.{Crossing}

-- where K is the width of a cell times the rate
pub record Crosses (rules : Rules) (K : ℕ) (f : Face) (x : Crossing) : Type 0 where
  pub passes : x.water ≡ trunc (water rules f) K
  pub pushes : x.push ≡ push rules f
  pub carries : x.carried ≡ carried rules f
  pub left_depth : x.left ≡ f.left.depth
  pub right_depth : x.right ≡ f.right.depth
  pub fast : 4 * pace f ≤ K

-- nothing does where the step is too slow for the face
abbrev pub Crossed : Rules → ℕ → Face → Option Crossing → Type 0
Crossed rules K f (Some x) = Crosses rules K f x
Crossed rules K f None = K < 4 * pace f
