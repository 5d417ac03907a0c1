use Rattle.std.proofs.Common.{◌≡◌, ◌-◌, length, map, take, subst}
use Rattle.corner.proofs.Corners.CornerFacts.{forget_before, forget_kept}
use Rattle.corner_view.specs.Seen.{CornerView}
use Rattle.corner_table.specs.Histories.{lists_before}
use Rattle.corner_table.specs.Tables.{lists_of, scene_at}
use Rattle.corner.proofs.Corners.CornerFacts.{same_known}
use Rattle.corner.proofs.corner.CornerTableau.forget.Goals as goal

pub invariant_of-self : goal.invariant_of-self
invariant_of-self c = (
  forget_kept c.self.inside.table c.forget.new.table c.self.inside.listed (length c.self.inside.table.rows.before - 1) c.self.invariant.0 c.forget.ensures.alike c.forget.ensures.now c.forget.ensures.before,
  same_known (lists_of c.self.inside.table) (lists_of c.forget.new.table) c.self.inside.known c.forget.ensures.now c.self.invariant.1,
)

pub returns-clause-before : goal.returns-clause-before
returns-clause-before c =
    subst (λ (v : CornerView). map scene_at (lists_before c.forget.new.table) ≡ take (length v.before - 1) v.before) c.self.view_is
    (forget_before c.self.inside.table c.forget.new.table c.self.invariant.0.alike c.forget.ensures.before)
