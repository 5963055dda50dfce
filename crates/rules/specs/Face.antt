-- A face of the code by its four numbers: the depth and the normal velocity on the left and on the right.
use Rattle.std.specs.Prelude.{ℕ, ℤ}
use Rattle.rules.specs.declared.face.Face.{Face}

abbrev pub of_face : {A : Type 0} → (ℕ → ℤ → ℕ → ℤ → A) → Face → A
of_face f face = f face.left.depth face.left.normal face.right.depth face.right.normal
