use Rattle.std.proofs.Common.{subst, sym}
use Rattle.problem_core.specs.declared.parts.Level.{Level}
use Rattle.problem_core.specs.declared.parts.Level.TheVariants.{Priority}
use Rattle.corner_view.specs.Growing.{AreGrowersDear}
use Rattle.corner_view.specs.Seen.{CornerView, IsLevelOf}
use Rattle.corner.proofs.corner.CornerTableau.are_growers_dear.Goals as goal

pub are_growers_dear-requires-clause-level : goal.are_growers_dear-requires-clause-level
are_growers_dear-requires-clause-level c = subst (λ (v : CornerView). IsLevelOf v.problem c.args.level) (sym c.self.view_is) c.requires.level

pub returns-then-is_required : goal.returns-then-is_required
returns-then-is_required c = λ yes.
    subst (λ (l : Level). AreGrowersDear c.args.self.now.problem c.args.self.now.marks c.args.mark l) (sym (c.is_required.ensures.0 c.if-is_required.true))
    (subst (λ (v : CornerView). AreGrowersDear v.problem v.marks c.args.mark (Priority 1000)) c.self.view_is (c.is_safe.ensures yes))
