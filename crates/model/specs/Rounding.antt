-- A fraction rounded up, with which the first multiple from a number on is found: contracts of inner functions cite this, and those of no
-- entry point. proofs/Rounding.antt shows that a need is rounded up so too. Assumes nothing.
use Rattle.std.specs.Prelude.{ℕ, ◌+◌, ◌-◌, ◌/◌}

-- A fraction rounded up to a whole number; over 0 it is 0, but no step of seconds is 0.
abbrev pub round_up : ℕ → ℕ → ℕ
round_up a b = (a + (b - 1)) / b
