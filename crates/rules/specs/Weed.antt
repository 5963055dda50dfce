-- Friction of weed: what it leaves of the flow that the rule under it leaves.
use Rattle.std.specs.Prelude.{ℕ, ◌-◌, ◌/◌, ℤ, unsigned_abs}
use Rattle.rules.specs.Drag.{with_size}

-- a flow r, its size brought down by g / d, at most to 0
unfoldable pub weed_slowed : ℕ → ℤ → ℕ → ℤ
weed_slowed g r d = with_size r (unsigned_abs r - g / d)
