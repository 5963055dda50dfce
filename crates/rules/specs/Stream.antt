-- What a friction rule is given, by its four numbers: the flow, the speed before the step, the depth after it and the rate.
use Rattle.std.specs.Prelude.{ℕ, ℤ}
use Rattle.rules.specs.declared.friction.stream.Stream.{Stream}

abbrev pub of_stream : {A : Type 0} → (ℤ → ℕ → ℕ → ℕ → A) → Stream → A
of_stream f s = f s.flow s.speed s.depth s.rate
