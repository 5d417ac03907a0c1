-- The marks of some lines that are among given ones.
use Rattle.std.specs.Prelude.{List, [], ◌∷◌, ◌++◌, filter}
use Rattle.problem_core.specs.declared.parts.Mark.{Mark}
use Rattle.problem_core.specs.declared.parts.RowName.{RowName}
use Rattle.problem_core.specs.declared.parts.Side.TheVariants.{Under, Over}
use Rattle.problem_core.specs.Corners.{place}
use Rattle.corner_view.specs.Seen.{is_mark}

-- those of the marks that have the column of a first one
abbrev pub marks_among : List Mark → List Mark → List Mark
marks_among first marks = filter (λ m. is_mark first (place m)) marks

-- the same of the marks of the lines of these names
abbrev pub lines_among : List Mark → List RowName → List Mark
lines_among first [] = []
lines_among first (name ∷ names) =
    marks_among first (record { row = name; side = Under } ∷ record { row = name; side = Over } ∷ [])
    ++ lines_among first names
