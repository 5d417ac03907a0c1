-- The lines of paths, and of quantities that don't fit.
use Rattle.std.specs.Prelude.{ℕ, ◌<◌, ◌^◌, Bool, true, false, List, [], ◌∷◌, ◌++◌, map, codes, decimal}
use Rattle.std.specs.Prelude.{Option, None, Some}
use Rattle.span_text.specs.Bytes.{newline}
use Rattle.problem_core.specs.declared.parts.Side.{Side}
use Rattle.problem_core.specs.declared.parts.Side.TheVariants.{Under, Over}
use Rattle.problem_core.specs.declared.parts.Mark.{Mark}
use Rattle.problem_core.specs.declared.stops.What as declared_what
use Rattle.problem_core.specs.declared.stops.What.TheVariants as what
use Rattle.problem_core.specs.declared.stops.Quantity as declared_quantity
use Rattle.problem_core.specs.declared.stops.Quantity.TheVariants as quantity
use Rattle.problem_core.specs.Kept.{IsNumber}
use Rattle.problem_core.specs.Corners.{Swap}
use Rattle.cert_core.specs.Paths.{Path}
use Rattle.cert_core.specs.declared.stops.UnfitPath.{UnfitPath}
use Rattle.claim_writing.specs.Words.{line_of}
use Rattle.claim_writing.specs.Lines.{text_of_lines}
use Rattle.claim_writing.specs.Names.{row_word, level_word, IsRowName, IsLevelName}

-- ---- words

-- the sign of a side
abbrev pub side_word : Side → List ℕ
side_word Under = codes "-"
side_word Over = codes "+"

-- a row's name and a side of it, as `7+` or `s5-`
abbrev pub mark_text : Mark → List ℕ
mark_text m = row_word m.row ++ side_word m.side

-- the word for a dual path, or for a primal one
abbrev pub kind_word : Bool → List ℕ
kind_word true = codes "dual"
kind_word false = codes "primal"

-- `path primal` or `path dual`
abbrev pub kind_words : Bool → List (List ℕ)
kind_words dual = codes "path" ∷ kind_word dual ∷ []

-- `in MARK`
abbrev pub in_words : Mark → List (List ℕ)
in_words m = codes "in" ∷ mark_text m ∷ []

-- `swap ENTER LEAVE`
abbrev pub swap_words : Swap → List (List ℕ)
swap_words s = codes "swap" ∷ mark_text s.enter ∷ mark_text s.leave ∷ []

-- `attr ATTR`, `mark MARK` or `level LEVEL`
abbrev pub what_words : declared_what.What → List (List ℕ)
what_words (what.Attr attr) = codes "attr" ∷ decimal attr ∷ []
what_words (what.Mark mark) = codes "mark" ∷ mark_text mark ∷ []
what_words (what.Level level) = codes "level" ∷ level_word level ∷ []

-- what is named; and behind it, where first ones are counted, of which kind and how many
abbrev pub quantity_words : declared_quantity.Quantity → List (List ℕ)
quantity_words (quantity.Plain w) = what_words w
quantity_words (quantity.Terms mark first) =
    what_words (what.Mark mark) ++ codes "terms" ∷ decimal first ∷ []
quantity_words (quantity.Rows level first) =
    what_words (what.Level level) ++ codes "rows" ∷ decimal first ∷ []
quantity_words (quantity.Shifts w first) = what_words w ++ codes "shifts" ∷ decimal first ∷ []

-- `unfit QUANTITY`
abbrev pub unfit_words : declared_quantity.Quantity → List (List ℕ)
unfit_words q = codes "unfit" ∷ quantity_words q

-- ---- what the parts are

-- the attribute, the mark's row or the level may be named
abbrev pub IsWhatName : declared_what.What → Type 0
IsWhatName (what.Attr attr) = IsNumber attr
IsWhatName (what.Mark mark) = IsRowName mark.row
IsWhatName (what.Level level) = IsLevelName level

-- how many of the first are meant
abbrev pub IsCount : ℕ → Type 0
IsCount first = (0 < first) × (first < 2 ^ 32)

-- the quantity may be named: what it is of, and where first ones are counted, their count
abbrev pub IsQuantityName : declared_quantity.Quantity → Type 0
IsQuantityName (quantity.Plain w) = IsWhatName w
IsQuantityName (quantity.Terms mark first) = IsRowName mark.row × IsCount first
IsQuantityName (quantity.Rows level first) = IsLevelName level × IsCount first
IsQuantityName (quantity.Shifts w first) = IsWhatName w × IsCount first

-- the rows of both marks may be named
pub record IsSwapName (s : Swap) : Type 0 where
  pub enter : IsRowName s.enter.row
  pub leave : IsRowName s.leave.row

-- ---- texts

-- the line of a mark inside
abbrev pub in_line : Mark → List ℕ
in_line m = line_of (in_words m)

-- the line of an exchange
abbrev pub swap_line : Swap → List ℕ
swap_line s = line_of (swap_words s)

-- the line of a quantity that doesn't fit
abbrev pub unfit_line : declared_quantity.Quantity → List ℕ
unfit_line q = line_of (unfit_words q)

-- the kind of the path, the marks of its first corner, and its exchanges, each on a line
abbrev pub path_lines : Path → List (List ℕ)
path_lines p = line_of (kind_words p.dual) ∷ map in_line p.corner ++ map swap_line p.swaps

-- the line of the quantity, where there is one
abbrev pub unfit_lines : Option declared_quantity.Quantity → List (List ℕ)
unfit_lines None = []
unfit_lines (Some q) = unfit_line q ∷ []

-- the lines of a path, each ended by a newline
abbrev pub path_text : Path → List ℕ
path_text p = text_of_lines (path_lines p)

-- the line of a quantity that doesn't fit, ended by a newline
abbrev pub unfit_text : declared_quantity.Quantity → List ℕ
unfit_text q = unfit_line q ++ newline ∷ []

-- `unfit breakpoint MARK`, ended as a line
abbrev pub breakpoint_text : Mark → List ℕ
breakpoint_text m = codes "unfit breakpoint " ++ (mark_text m ++ newline ∷ [])

-- the path, and what doesn't fit at its last corner
abbrev pub unfit_path_text : UnfitPath → List ℕ
unfit_path_text at = path_text at.path ++ unfit_text at.quantity

-- ---- what a quantity is written as

-- what is named, its words with a space between
abbrev pub what_text : declared_what.What → List ℕ
what_text (what.Attr attr) = codes "attr " ++ decimal attr
what_text (what.Mark mark) = codes "mark " ++ mark_text mark
what_text (what.Level level) = codes "level " ++ level_word level

-- a quantity, its words with a space between each two
abbrev pub quantity_text : declared_quantity.Quantity → List ℕ
quantity_text (quantity.Plain w) = what_text w
quantity_text (quantity.Terms mark first) = what_text (what.Mark mark) ++ (codes " terms " ++ decimal first)
quantity_text (quantity.Rows level first) = what_text (what.Level level) ++ (codes " rows " ++ decimal first)
quantity_text (quantity.Shifts w first) = what_text w ++ (codes " shifts " ++ decimal first)
