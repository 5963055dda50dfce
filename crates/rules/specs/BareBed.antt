-- Friction of a bare bed, by the law of Darcy and Weisbach.
use Rattle.std.specs.Prelude.{ℕ, ◌*◌, ℤ}
use Rattle.rules.specs.Drag.{dragged}

-- the coefficient c is in thousandths
unfoldable pub bare_slowed : ℕ → ℤ → ℕ → ℕ → ℕ → ℤ
bare_slowed c q u h d = dragged (80 * (d * h)) (c * u) q
