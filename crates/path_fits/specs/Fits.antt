-- Whether a quantity fits at the corner after an exchange.
use Rattle.std.specs.Prelude.{ℕ, List, length}
use Rattle.problem_core.specs.declared.parts.Mark.{Mark}
use Rattle.problem_core.specs.declared.stops.Quantity.{Quantity}
use Rattle.problem_core.specs.declared.stops.What.TheVariants.{Attr}
use Rattle.problem_core.specs.Layout.{Problem}
use Rattle.problem_core.specs.Corners.{IsExchange, exchanged}
use Rattle.problem_core.specs.Unfit.{IsUnfitAt, IsUnfitWhat}
use Rattle.path_lines.specs.Room.{IsPartOf}
use Rattle.path_lines.specs.Sides.{IsWithin}
use Rattle.path_lines.specs.Tables.{AreSized, swap_of}
use Rattle.path_levels.specs.Corners.{HasSizedLevels}
use Rattle.path_levels.specs.Levels.{AreLevels}
use Rattle.path_levels.specs.Rows.{AreKept}
use Rattle.path_fits.specs.declared.last.Fit.{Fit}
use Rattle.path_fits.specs.declared.last.Fit.TheVariants.{Fits, Unfit, NoRoom}
use Rattle.path_fits.specs.declared.last.Last.{Last}

-- the quantity fits at the corner, or does not, or a part of it does not
abbrev pub IsFitAt : Problem → List Mark → Quantity → Fit → Type 0
IsFitAt p at named Fits = IsUnfitAt p at named → ⊥
IsFitAt p at named Unfit = IsUnfitAt p at named
IsFitAt p at named NoRoom = (q : Quantity) × IsPartOf p named q × IsUnfitAt p at q

-- ---- the corner after an exchange

-- lines and levels have the outline's lengths, and fit
pub record IsSizedLast (last : Last) : Type 0 where
  pub tableau : HasSizedLevels last.tableau
  pub lines : AreSized last.tableau.corner.lines.now
  pub step : IsWithin (length last.tableau.corner.lines.now) last.step

-- each attribute fits at the corner
abbrev pub AllAttrsFit : Problem → List Mark → Type 0
AllAttrsFit p at = (attr : ℕ) → IsUnfitWhat p at (Attr attr) → ⊥

-- lines and levels are kept of the corner before, at which all attributes fit, and this is an exchange there
pub record IsLastAfter (p : Problem) (at : List Mark) (last : Last) : Type 0 where
  pub kept : AreKept p at last.tableau.corner.outline.now last.tableau.corner.lines.now
  pub levels : AreLevels p at last.tableau.corner.outline.now last.tableau.levels.now
  pub attrs : AllAttrsFit p at
  pub exchange : IsExchange p at (swap_of p last.step)

-- the marks inside after the last exchange
abbrev pub marks_after : Problem → Last → List Mark → List Mark
marks_after p last at = exchanged (swap_of p last.step) at
