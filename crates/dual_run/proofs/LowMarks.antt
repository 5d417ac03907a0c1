-- The mark of a line whose value is negative, as a corner tells it.
use Rattle.std.proofs.Common.{◌≡◌, List, IfSome, IfNone, Some, None}
use Rattle.std.specs.declared.option.Option.{Option}
use Rattle.problem_core.specs.declared.parts.Mark.{Mark}
use Rattle.problem_core.specs.declared.parts.RowName.{RowName}
use Rattle.problem_core.specs.Layout.{Problem}
use Rattle.corner_view.specs.Lows.{AreNotLow, IsLowMark}
use Rattle.corner_view.specs.Seen.{IsKeptCorner, IsNamed}
use Rattle.corner_view.proofs.Facts.{named_in}
use Rattle.dual_run.specs.Leaving.{HasNoLow, IsLow}
use Rattle.dual_run.proofs.Lows.{low_value, no_low_value}

pub low_found : (p : Problem) (at : List Mark) (row : RowName) (o : Option Mark) → IfSome o (IsLowMark p at row) → IfSome o (IsLow p at)
low_found p at row None h = h
low_found p at row (Some m) h = low_value p at m h.value h.mark h.above h.has h.low

pub low_row : (p : Problem) (at : List Mark) (row : RowName) (o : Option Mark) → IfSome o (IsLowMark p at row) → IfSome o (λ m. m.row ≡ row)
low_row p at row None h = h
low_row p at row (Some m) h = h.own

pub none_found : (p : Problem) (at : List Mark) (row : RowName) (o : Option Mark) → IsKeptCorner p at → IsNamed p row → IfNone o (AreNotLow p at row) → IfNone o (HasNoLow p at row)
none_found p at row None kept named h = λ side negative.
    let up = h side in
    no_low_value p at (record { row = row; side = side }) up.0 kept (named_in p row side named) up.1 up.2 up.3 negative
none_found p at row (Some m) kept named h = h
