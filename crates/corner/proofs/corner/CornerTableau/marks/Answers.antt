use Rattle.std.proofs.Common.{◌≡◌, ◌∙◌, List, IfOk, ap, subst}
use Rattle.problem_core.specs.declared.parts.Mark.{Mark}
use Rattle.corner_view.specs.Seen.{CornerView}
use Rattle.corner_table.specs.Tables.{lists_of}
use Rattle.corner_table.proofs.Readings.MarkingFacts.{marks_inside}
use Rattle.corner.proofs.corner.CornerTableau.marks.Goals as goal

pub returns : goal.returns
returns c =
    subst (λ (ms : List Mark). IfOk c.marks_with.result (λ marks. marks.items ≡ ms))
    (marks_inside (lists_of c.self.inside.table) ∙ ap (λ (v : CornerView). v.marks) c.self.view_is) c.marks_with.ensures
