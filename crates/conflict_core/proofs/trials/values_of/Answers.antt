use Rattle.std.proofs.Common.{◌∙◌, subst, sym}
use Rattle.problem_core.specs.Kept.{AreRising}
use Rattle.conflict_core.proofs.Outcomes.{read_rising}
use Rattle.conflict_core.proofs.trials.values_of.Goals as goal

pub of-requires : goal.of-requires
of-requires g c = subst AreRising (sym (c.deref.ensures.value ∙ c.loop-attr.invariant)) (read_rising c.args.e.now.values c.args.attrs.now c.loop-attr.attr-index c.requires.rising)
