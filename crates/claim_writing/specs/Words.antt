-- The line of some words.
use Rattle.std.specs.Prelude.{ℕ, List}
use Rattle.std.specs.List.{join_with_byte}
use Rattle.span_text.specs.Bytes.{space}

-- the line of these words, with one space between two of them
abbrev pub line_of : List (List ℕ) → List ℕ
line_of ws = join_with_byte space ws
