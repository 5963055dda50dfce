-- The flux of Rusanov: the mean of the two sides, less half the jump between them at the pace of the face.
use Rattle.std.specs.Prelude.{ℕ, ◌*◌, ℤ, pos, ◌+ℤ◌, ◌-ℤ◌, ◌*ℤ◌, int_div}
use Rattle.rules.specs.Side.{face_pace, discharge, momentum}

unfoldable pub rusanov_water : ℕ → ℤ → ℕ → ℤ → ℤ
rusanov_water dl nl dr nr =
    int_div ((discharge dl nl +ℤ discharge dr nr) -ℤ (pos (face_pace dl nl dr nr) *ℤ (pos dr -ℤ pos dl))) (pos 2)

unfoldable pub rusanov_push : ℕ → ℤ → ℕ → ℤ → ℤ
rusanov_push dl nl dr nr =
    int_div ((momentum dl nl +ℤ momentum dr nr) -ℤ (pos (20 * face_pace dl nl dr nr) *ℤ (discharge dr nr -ℤ discharge dl nl))) (pos 2)
