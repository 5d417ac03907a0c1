use Rattle.std.proofs.Common.{◌∙◌, ap, subst}
use Rattle.corner_view.specs.Changes.{HasStood}
use Rattle.corner_view.specs.Seen.{CornerView}
use Rattle.corner_table.specs.Tables.{lists_of}
use Rattle.corner_table.specs.Invariants.{view_of}
use Rattle.corner_shifts.proofs.Stays.StoodTables.{has_stood, stood_consistent, stood_names, stood_same_marks}
use Rattle.corner.proofs.corner.CornerTableau.stand.Goals as goal

pub invariant_of-self : goal.invariant_of-self
invariant_of-self c = (
  stood_consistent c.self.inside.table c.stand_known.new.table c.self.inside.listed c.self.invariant.0 c.stand_known.ensures.past c.in-Ok.ensures.lists,
  c.in-Ok.ensures.known,
)

pub returns-in-Ok-clause-stood : goal.returns-in-Ok-clause-stood
returns-in-Ok-clause-stood c =
    subst (λ (v : CornerView). HasStood v (view_of c.stand_known.new.table c.self.inside.listed)) c.self.view_is
    (has_stood c.self.inside.table c.stand_known.new.table c.self.inside.listed c.self.inside.listed c.self.invariant.0.kept c.in-Ok.ensures.lists)

pub returns-in-Ok-clause-marks : goal.returns-in-Ok-clause-marks
returns-in-Ok-clause-marks c =
    stood_same_marks (lists_of c.self.inside.table) (lists_of c.stand_known.new.table) c.in-Ok.ensures.lists
    ∙ ap (λ (v : CornerView). v.marks) c.self.view_is

pub returns-in-Ok-clause-candidates : goal.returns-in-Ok-clause-candidates
returns-in-Ok-clause-candidates c =
    stood_names (lists_of c.self.inside.table) (lists_of c.stand_known.new.table) c.self.inside.listed c.in-Ok.ensures.lists
    ∙ ap (λ (v : CornerView). v.candidates) c.self.view_is

pub invariant_of-self-in-Err : goal.invariant_of-self-in-Err
invariant_of-self-in-Err c = (c.take_back.ensures.consistent, c.forget_known.ensures (lists_of c.take_back.new.table))
