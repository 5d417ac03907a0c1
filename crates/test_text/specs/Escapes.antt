-- What a text line stands for, and how bytes are written as lines.
use Rattle.std.specs.Prelude.{ℕ, ◌+◌, ◌-◌, ◌*◌, ◌<◌, ◌%◌, ◌==◌, ◌&&◌, cond, nat_le, List, [], ◌∷◌, ◌++◌}
use Rattle.std.specs.Prelude.{length, Option, Some, None, slice_get, codes}
use Rattle.span_text.specs.Bytes.{lower_a, newline, tab}
use Rattle.test_text.specs.declared.escapes.Before.{Before}
use Rattle.test_text.specs.declared.escapes.Before.TheVariants as before

-- ---- bytes with a meaning of their own

abbrev pub carriage_return : ℕ
carriage_return = 13

abbrev pub backslash : ℕ
backslash = 92

abbrev pub lower_f : ℕ
lower_f = 102

abbrev pub lower_n : ℕ
lower_n = 110

abbrev pub lower_r : ℕ
lower_r = 114

abbrev pub lower_t : ℕ
lower_t = 116

abbrev pub lower_x : ℕ
lower_x = 120

-- ---- reading

-- the value of a hexadecimal digit, whose letters are small ones; of another byte it is that of the last four
-- bits
abbrev pub digit_value : ℕ → ℕ
digit_value b = cond (nat_le lower_a b && nat_le b lower_f) (b - lower_a + 10) (b % 16)

-- what a byte behind a backslash stands for: itself, but for three letters
abbrev pub named_byte : ℕ → ℕ
named_byte b = cond (b == lower_n) newline
    (cond (b == lower_r) carriage_return (cond (b == lower_t) tab b))

-- the bytes that a text line stands for, its end among them
abbrev mutual
  pub line_bytes : List ℕ → List ℕ
  line_bytes [] = newline ∷ []
  line_bytes (b ∷ more) = cond (b == backslash) (behind_backslash more) (b ∷ line_bytes more)

  pub behind_backslash : List ℕ → List ℕ
  behind_backslash [] = []
  behind_backslash (b ∷ more) = cond (b == lower_x) (behind_x more) (named_byte b ∷ line_bytes more)

  pub behind_x : List ℕ → List ℕ
  behind_x [] = []
  behind_x (b ∷ more) = behind_digit (digit_value b) more

  pub behind_digit : ℕ → List ℕ → List ℕ
  behind_digit high [] = []
  behind_digit high (b ∷ more) = (high * 16 + digit_value b) ∷ line_bytes more

-- those that the rest of a line stands for, where this came before it
abbrev pub bytes_behind : Before → List ℕ → List ℕ
bytes_behind before.Nothing rest = line_bytes rest
bytes_behind before.Backslash rest = behind_backslash rest
bytes_behind before.Hex rest = behind_x rest
bytes_behind (before.Digit high) rest = behind_digit high rest

-- a digit that came before is below 16
abbrev pub IsHalf : Before → Type 0
IsHalf before.Nothing = Unit {0}
IsHalf before.Backslash = Unit {0}
IsHalf before.Hex = Unit {0}
IsHalf (before.Digit high) = high < 16

-- ---- writing

-- what makes a line of a text whose last byte is this: a backslash and an end, unless it has one
abbrev pub missing_end : Option ℕ → List ℕ
missing_end None = []
missing_end (Some b) = cond (b == newline) [] (backslash ∷ newline ∷ [])

-- the line that stands for bytes that are no text
abbrev pub no_text : List ℕ
no_text = codes "bytes that are no text\n"

-- the text as lines
abbrev pub as_lines : List ℕ → List ℕ
as_lines text = text ++ missing_end (slice_get text (length text - 1))
