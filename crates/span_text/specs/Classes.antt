-- The classes of bytes.
use Rattle.std.specs.Prelude.{ℕ, Bool, ◌&&◌, ◌||◌, nat_le, nat_lt, ◌==◌}
use Rattle.span_text.specs.Bytes.{digit_0, digit_9, lower_a, lower_z, upper_a, upper_z}
use Rattle.span_text.specs.Bytes.{space, tab, underscore}

-- a number that is a byte's
abbrev pub is_byte : ℕ → Bool
is_byte b = nat_lt b 256

-- a space or a tab, of which blanks are made
abbrev pub is_space : ℕ → Bool
is_space b = (b == space) || (b == tab)

-- a digit from 0 to 9
abbrev pub is_digit : ℕ → Bool
is_digit b = nat_le digit_0 b && nat_le b digit_9

-- a letter or _
abbrev pub is_letter : ℕ → Bool
is_letter b = (nat_le upper_a b && nat_le b upper_z) || (nat_le lower_a b && nat_le b lower_z)
    || (b == underscore)

-- a letter, a digit or _, with which a NAME may go on
abbrev pub is_word : ℕ → Bool
is_word b = is_letter b || is_digit b
