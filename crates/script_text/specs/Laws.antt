-- The laws of the grammar of lines.
use Rattle.std.specs.Prelude.{◌≡◌, ◌⊎◌, ℕ, List}
use Rattle.span_text.specs.Language.{LeavesAt}
use Rattle.script_text.specs.Grammar.{Line, words_of}
use Rattle.script_text.specs.declared.words.Version.{Version}
use Rattle.script_text.specs.Meaning.{Said}

-- a line has at most one reading
abbrev pub ReadingIsUnique : Type 0
ReadingIsUnique = (version : Version) (line : List ℕ) (m n : Said) → Line (words_of version) line m
    → Line (words_of version) line n → m ≡ n

-- a line leaves the grammar at one place at most
abbrev pub OffsetIsUnique : Type 0
OffsetIsUnique = (version : Version) (line : List ℕ) (m n : ℕ) → LeavesAt (Line (words_of version)) line m
    → LeavesAt (Line (words_of version)) line n → m ≡ n

-- a line has a reading, or it leaves the grammar somewhere
abbrev pub LineReadsOrLeaves : Type 0
LineReadsOrLeaves = (version : Version) (line : List ℕ)
    → ((m : Said) × Line (words_of version) line m)
    ⊎ ((at : ℕ) × LeavesAt (Line (words_of version)) line at)
