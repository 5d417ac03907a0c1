-- The text of a core: rows that clash, and what shows it.
use Rattle.std.specs.Prelude.{ℕ, List, [], ◌∷◌, ◌++◌, codes, decimal}
use Rattle.std.specs.List.{flat_map}
use Rattle.span_text.specs.Bytes.{newline}
use Rattle.frac_core.specs.Fraction.{Fraction}
use Rattle.cert_core.specs.declared.by.By.{By}
use Rattle.claim_writing.specs.ClaimLines.{bys_text, values_text}

-- a word and a row's number
abbrev pub id_line : List ℕ → ℕ → List ℕ
id_line word id = word ++ (decimal id ++ newline ∷ [])

-- `core ID`
abbrev pub core_line : ℕ → List ℕ
core_line = id_line (codes "core ")

-- `without ID`, and the values that satisfy the other rows
abbrev pub without_text : ℕ × List (ℕ × Fraction) → List ℕ
without_text w = id_line (codes "without ") w.0 ++ values_text w.1

-- the rows, their multipliers, and for each row the part without it
abbrev pub core_lines : List ℕ → List By → List (ℕ × List (ℕ × Fraction)) → List ℕ
core_lines ids by values = flat_map core_line ids ++ (bys_text by ++ flat_map without_text values)
