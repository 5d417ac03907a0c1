-- The generator: its states, and the numbers that are drawn from them.
use Rattle.std.specs.Prelude.{ℕ, ◌+◌, ◌*◌, ◌/◌, ◌%◌, ◌^◌}

-- the state after this one
abbrev pub next : ℕ → ℕ
next state = (5 * state + 7) % 2 ^ 64

-- the number below a bound that the state gives
abbrev pub drawn : ℕ → ℕ → ℕ
drawn bound state = state / 4 % bound
