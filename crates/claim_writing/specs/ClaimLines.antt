-- The lines of claims, and their words.
use Rattle.std.specs.Prelude.{◌≢◌, ℕ, List, [], ◌∷◌, ◌++◌, map, codes, decimal, pos}
use Rattle.std.specs.Fmt.{signed_decimal}
use Rattle.frac_core.specs.Fraction.{Fraction, IsKept, IsFitting}
use Rattle.frac_core.specs.Text.{fraction_text}
use Rattle.problem_core.specs.Kept.{IsNumber}
use Rattle.cert_core.specs.declared.by.By.{By}
use Rattle.cert_core.specs.Claims.{BestLevel}
use Rattle.claim_writing.specs.declared.claim.LevelLine.{LevelLine}
use Rattle.claim_writing.specs.declared.claim.Claim.{Claim}
use Rattle.claim_writing.specs.declared.claim.Claim.TheVariants.{IsBest, IsConflict, IsPath}
use Rattle.claim_writing.specs.Words.{line_of}
use Rattle.claim_writing.specs.Lines.{text_of_lines}
use Rattle.claim_writing.specs.Names.{row_word, level_word, IsRowName, IsLevelName}
use Rattle.claim_writing.specs.PathTexts.{path_lines, unfit_lines}

-- `value ATTR FRACTION`
abbrev pub value_words : ℕ × Fraction → List (List ℕ)
value_words v = codes "value" ∷ decimal v.0 ∷ fraction_text v.1 ∷ []

-- `best`
abbrev pub best_words : List (List ℕ)
best_words = codes "best" ∷ []

-- `conflict`
abbrev pub conflict_words : List (List ℕ)
conflict_words = codes "conflict" ∷ []

-- `level LEVEL SCALE`
abbrev pub level_words : LevelLine → List (List ℕ)
level_words l = codes "level" ∷ level_word l.level ∷ signed_decimal l.scale ∷ []

-- `by TIMES row ROW`
abbrev pub by_words : By → List (List ℕ)
by_words b = codes "by" ∷ signed_decimal b.times ∷ codes "row" ∷ row_word b.row ∷ []

-- ---- what the parts are

-- the attribute's number is within the limits, and the value is in lowest terms and fits
pub record IsValue (v : ℕ × Fraction) : Type 0 where
  pub attr : IsNumber v.0
  pub value : IsKept v.1

-- the level may be named, and its scale fits
pub record IsLevelLine (l : LevelLine) : Type 0 where
  pub level : IsLevelName l.level
  pub scale : IsFitting l.scale

-- the row may be named, and its multiplier fits and isn't 0
pub record IsBy (b : By) : Type 0 where
  pub row : IsRowName b.row
  pub times : IsFitting b.times
  pub nonzero : b.times ≢ pos 0

-- ---- texts

-- the line of an attribute's value
abbrev pub value_line : ℕ × Fraction → List ℕ
value_line v = line_of (value_words v)

-- the line of a level and its scale
abbrev pub level_line : LevelLine → List ℕ
level_line l = line_of (level_words l)

-- the line of a multiplier
abbrev pub by_line : By → List ℕ
by_line b = line_of (by_words b)

-- the line of a level, and those of its multipliers
abbrev pub level_lines : BestLevel → List (List ℕ)
level_lines l = level_line (record { level = l.level; scale = l.scale }) ∷ map by_line l.by

-- the lines of several levels, one level's after the other's
abbrev pub lines_of_levels : List BestLevel → List (List ℕ)
lines_of_levels [] = []
lines_of_levels (l ∷ more) = level_lines l ++ lines_of_levels more

-- the lines of values with a certificate
abbrev pub best_lines : List (ℕ × Fraction) → List BestLevel → List (List ℕ)
best_lines values best = map value_line values ++ line_of best_words ∷ lines_of_levels best

-- the lines of a conflict
abbrev pub conflict_lines : List By → List (List ℕ)
conflict_lines bys = line_of conflict_words ∷ map by_line bys

-- the text of multipliers
abbrev pub bys_text : List By → List ℕ
bys_text bys = text_of_lines (map by_line bys)

-- the text of values
abbrev pub values_text : List (ℕ × Fraction) → List ℕ
values_text values = text_of_lines (map value_line values)

-- the lines of a claim
abbrev pub claim_lines : Claim → List (List ℕ)
claim_lines (IsBest values best) = best_lines values best
claim_lines (IsConflict bys) = conflict_lines bys
claim_lines (IsPath path unfit) = path_lines path ++ unfit_lines unfit

-- the lines of a claim, each ended by a newline
abbrev pub claim_text : Claim → List ℕ
claim_text c = text_of_lines (claim_lines c)
