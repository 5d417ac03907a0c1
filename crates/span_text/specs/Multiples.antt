-- A number or a ratio, told apart behind their digits.
use Rattle.std.specs.Prelude.{ℕ, ◌-◌, ◌<◌, ◌^◌, ◌==◌, nat_le, Bool, List, length, Result, Ok, Err}
use Rattle.std.specs.Prelude.{if◌then◌else◌}
use Rattle.span_text.specs.Bytes.{slash}
use Rattle.span_text.specs.Reading.{◌>>=◌, starts}
use Rattle.span_text.specs.Tokens.{is_point, number_bound, valued_at, decimals_at, no_decimals_at, below_at}
use Rattle.span_text.specs.declared.limits.TheConstants.{NUMBER_DIGITS, RATIO_DIGITS}
use Rattle.span_text.specs.declared.multiples.Multiple.{Multiple}
use Rattle.span_text.specs.declared.multiples.Multiple.TheVariants.{Number, Ratio}

-- the slash of a RATIO
abbrev pub is_slash : ℕ → Bool
is_slash b = b == slash

-- NUMBER behind its whole digits of this value: its meaning in thousandths, and the text behind it
unfoldable pub number_end_at : ℕ → List ℕ → Result (ℕ × List ℕ) ℕ
number_end_at whole s = if starts is_point s then decimals_at whole s else no_decimals_at whole s

-- the meaning of a NUMBER that was read, as that of a `factor`, with the text behind it
abbrev pub as_number : ℕ × List ℕ → Result (Multiple × List ℕ) ℕ
as_number r = Ok (Number r.0, r.1)

-- the meaning of a RATIO that was read, as that of a `factor`, with the text behind it
abbrev pub as_ratio : ℕ × ℕ × List ℕ → Result (Multiple × List ℕ) ℕ
as_ratio r = Ok (Ratio r.0 r.1, r.2)

-- NUMBER or RATIO, which `factor` is: its meaning, and the text behind it
unfoldable pub multiple_at : List ℕ → Result (Multiple × List ℕ) ℕ
multiple_at s = do
  whole ← valued_at (NUMBER_DIGITS - 1) s
  if starts is_slash whole.2
      then (if nat_le whole.1 RATIO_DIGITS then below_at whole.0 whole.2 >>= as_ratio
      else Err (length whole.2))
      else number_end_at whole.0 whole.2 >>= as_number

-- the bounds that the grammar sets to a multiplier
abbrev pub IsSmall : Multiple → Type 0
IsSmall (Number n) = n < number_bound
IsSmall (Ratio p q) = (p < 10 ^ RATIO_DIGITS) × (0 < q) × (q < 10 ^ RATIO_DIGITS)
