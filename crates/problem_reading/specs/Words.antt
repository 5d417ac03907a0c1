-- The words of a line, and the parts of a word.
use Rattle.std.specs.Prelude.{ℕ, ◌<◌, ◌≤◌, ◌==◌, List, length, All}
use Rattle.std.specs.Char.{IsAsciiDigit}
use Rattle.std.specs.List.{slice_split}
use Rattle.span_text.specs.Bytes.{space}
use Rattle.span_text.specs.declared.limits.TheConstants.{WHOLE_DIGITS}

-- what stands before, between and behind the bytes of this kind
abbrev pub parts : ℕ → List ℕ → List (List ℕ)
parts end text = slice_split (λ b. b == end) text

-- the words of a line, cut at each single space
abbrev pub words : List ℕ → List (List ℕ)
words line = parts space line

-- one to nineteen digits
pub record AreDigits (word : List ℕ) : Type 0 where
  pub digits : All IsAsciiDigit word
  pub some : 0 < length word
  pub few : length word ≤ WHOLE_DIGITS
