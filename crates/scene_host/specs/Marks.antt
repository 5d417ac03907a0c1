-- Texts with a mark in front of each line.
use Rattle.std.specs.Prelude.{ℕ, Bool, true, false, ◌==◌, List, [], ◌∷◌, ◌++◌}
use Rattle.span_text.specs.Bytes.{newline}

-- a byte, with the mark in front of it where a line begins
abbrev pub marked_byte : List ℕ → Bool → ℕ → List ℕ
marked_byte before true b = before ++ b ∷ []
marked_byte before false b = b ∷ []

-- the text with a mark in front of each of its lines; a line begins, or it has begun
abbrev pub marked_from : List ℕ → Bool → List ℕ → List ℕ
marked_from before begins [] = []
marked_from before begins (b ∷ bs) = marked_byte before begins b ++ marked_from before (b == newline) bs

-- the text with a mark in front of each of its lines
abbrev pub marked : List ℕ → List ℕ → List ℕ
marked before text = marked_from before true text
