-- The words of the lines of problems.
use Rattle.std.specs.Prelude.{ℕ, List, [], ◌∷◌, ◌++◌, map, codes, decimal}
use Rattle.std.specs.Fmt.{signed_decimal}
use Rattle.span_text.specs.Bytes.{colon, newline, space}
use Rattle.frac_core.specs.Text.{fraction_text}
use Rattle.problem_core.specs.declared.parts.Term.{Term}
use Rattle.problem_core.specs.declared.parts.Stay.{Stay}
use Rattle.problem_core.specs.Layout.{Row, Problem, rel_word}
use Rattle.claim_writing.specs.Words.{line_of}

-- `ATTR:BY`
abbrev pub term_word : Term → List ℕ
term_word t = decimal t.attr ++ colon ∷ signed_decimal t.by

-- `row ID RANK WEIGHT REL SCALE CONSTANT`, and a word for each term
abbrev pub row_words : Row → List (List ℕ)
row_words r = codes "row" ∷ decimal r.id ∷ decimal r.rank ∷ decimal r.weight ∷ rel_word r.rel
    ∷ decimal r.scale ∷ fraction_text r.constant ∷ map term_word r.terms

-- `stay ATTR TARGET`
abbrev pub stay_words : Stay → List (List ℕ)
stay_words s = codes "stay" ∷ decimal s.attr ∷ fraction_text s.target ∷ []

-- ---- texts

-- the line of a row
abbrev pub row_line : Row → List ℕ
row_line r = line_of (row_words r)

-- the line of a stay
abbrev pub stay_line : Stay → List ℕ
stay_line s = line_of (stay_words s)

-- the text of these lines, each ended by a newline
abbrev pub text_of_lines : List (List ℕ) → List ℕ
text_of_lines [] = []
text_of_lines (line ∷ more) = line ++ newline ∷ text_of_lines more

-- the rows, and then the stays
abbrev pub problem_text : Problem → List ℕ
problem_text p = text_of_lines (map row_line p.rows ++ map stay_line p.stays)

-- each of these words behind a space
abbrev pub spaced : List (List ℕ) → List ℕ
spaced [] = []
spaced (w ∷ ws) = space ∷ w ++ spaced ws

-- what stands before the terms of a row's line
abbrev pub head_line : Row → List ℕ
head_line r = codes "row " ++ (decimal r.id ++ (space
    ∷ (decimal r.rank ++ (space ∷ (decimal r.weight ++ (space
    ∷ (rel_word r.rel ++ (space ∷ (decimal r.scale ++ (space ∷ fraction_text r.constant))))))))))
