use Rattle.std.proofs.Common.{◌<◌, length, sym, subst}
use Rattle.corner_view.specs.Changes.{scene_of}
use Rattle.corner_view.specs.Moves.{AreMovedSince, HasValueIn}
use Rattle.corner_view.specs.Seen.{CornerView}
use Rattle.corner.proofs.Corners.MovedCorners.{corner_moved, lists_there, then_kept}
use Rattle.corner.proofs.corner.CornerTableau.moved.Goals as goal

pub moved_attrs-requires-clause-marked : goal.moved_attrs-requires-clause-marked
moved_attrs-requires-clause-marked c =
    lists_there c.self.inside.table c.self.invariant.0.alike (subst (λ (v : CornerView). 0 < length v.before) (sym c.self.view_is) c.requires)

pub moved_attrs-requires-clause-then : goal.moved_attrs-requires-clause-then
moved_attrs-requires-clause-then c =
    (then_kept c.self.inside.table c.self.invariant.0.alike
    (lists_there c.self.inside.table c.self.invariant.0.alike (subst (λ (v : CornerView). 0 < length v.before) (sym c.self.view_is) c.requires))
    c.self.invariant.0.before).slots

pub returns : goal.returns
returns c =
    subst (λ (v : CornerView). AreMovedSince HasValueIn v.before (scene_of v) c.in_ok-moved.moved.items) c.self.view_is
    (corner_moved c.self.inside.table c.in_ok-moved.moved.items c.self.invariant.0.alike
    (lists_there c.self.inside.table c.self.invariant.0.alike (subst (λ (v : CornerView). 0 < length v.before) (sym c.self.view_is) c.requires))
    c.self.invariant.0.before c.self.invariant.0.kept c.in_ok-moved.ensures)
