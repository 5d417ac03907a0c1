-- The text of a sweep, and of what stops one.
use Rattle.std.specs.Prelude.{ℕ, List, [], ◌∷◌, ◌++◌, codes}
use Rattle.std.specs.List.{flat_map}
use Rattle.span_text.specs.Bytes.{newline}
use Rattle.frac_core.specs.Fraction.{Fraction}
use Rattle.view_tree.specs.Views.{LiveView}
use Rattle.cert_core.specs.Paths.{Path}
use Rattle.claim_writing.specs.ClaimLines.{bys_text}
use Rattle.claim_writing.specs.PathTexts.{breakpoint_text, path_text, unfit_text}
use Rattle.sweep_laws.specs.Stretches.{Clash, Piece, Stretch}
use Rattle.sweep_run.specs.declared.stretches.SweepQuantity.{SweepQuantity}
use Rattle.sweep_run.specs.declared.stretches.SweepQuantity.TheVariants.{At, Breakpoint}
use Rattle.reply_texts.specs.Frames.{placed_text, value_text}

-- the word and the two ends of a stretch
abbrev pub range_text : List ℕ → Fraction → Fraction → List ℕ
range_text word from to = word ++ (value_text from ++ (value_text to ++ newline ∷ []))

-- the frames of all views at an end of a piece, each after a word
abbrev pub ends_text : List ℕ → List (ℕ × Fraction) → List LiveView → List ℕ
ends_text word values views = flat_map (placed_text word values) views

-- `piece FROM TO`, and the frames of the views at both ends; or `conflict FROM TO`, and the multipliers
abbrev pub stretch_text : List LiveView → Stretch → List ℕ
stretch_text views (Piece from to low high) = range_text (codes "piece") from to
    ++ (ends_text (codes "from ") low views ++ ends_text (codes "to ") high views)
stretch_text views (Clash from to by) = range_text (codes "conflict") from to ++ bys_text by

-- `sweep WIDTH`
abbrev pub width_line : Fraction → List ℕ
width_line width = codes "sweep" ++ (value_text width ++ newline ∷ [])

-- `unfit QUANTITY`, or `unfit breakpoint MARK`
abbrev pub far_line : SweepQuantity → List ℕ
far_line (At quantity) = unfit_text quantity
far_line (Breakpoint mark) = breakpoint_text mark

-- something that a sweep forms doesn't fit: the width, the path, and what it is
abbrev pub far_text : Fraction → Path → SweepQuantity → List ℕ
far_text width path what = (codes "refused 7 overflow" ++ newline ∷ [])
    ++ (width_line width ++ (path_text path ++ far_line what))
