-- Fractions as text.
use Rattle.std.specs.Prelude.{ℕ, List, ◌∷◌, ◌++◌, decimal, ◌==◌, if◌then◌else◌}
use Rattle.std.specs.Fmt.{signed_decimal}
use Rattle.frac_core.specs.Fraction.{Fraction}

-- the byte `/`; `span_text` has it too, since neither of the two crates stands on the other
abbrev pub slash : ℕ
slash = 47

-- `p/q`, or `p` where q is 1, with `-` before a number below 0
abbrev pub fraction_text : Fraction → List ℕ
fraction_text f = if f.den == 1 then signed_decimal f.num else signed_decimal f.num ++ (slash ∷ decimal f.den)
