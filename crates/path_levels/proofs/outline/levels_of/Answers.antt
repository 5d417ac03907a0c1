use Rattle.std.proofs.Common.{◌∙◌, ◌+◌, ◌<◌, List, length, get_or, sym, ap, subst, arith}
use Rattle.problem_core.specs.declared.parts.Stay.{Stay}
use Rattle.path_levels.specs.declared.outline.LevelFacts.{LevelFacts}
use Rattle.path_levels.specs.OutlineParts.{AreLevelsTo}
use Rattle.path_levels.proofs.OutlineParts.{stay_pushed}
use Rattle.path_levels.proofs.outline.levels_of.Goals as goal

pub loop-stay-preserved : goal.loop-stay-preserved
loop-stay-preserved c = record {
  levels = subst (λ (ls : List LevelFacts). AreLevelsTo c.args.p.now (length c.args.ranks.items) (c.loop-stay.stay-index + 1) ls) (sym c.in_ok-push.ensures.items)
      (stay_pushed c.args.p.now (length c.args.ranks.items) c.loop-stay.stay-index c.loop-stay.number c.stay-item.result c.loop-stay.levels.items
      (subst (λ (ss : List Stay). c.loop-stay.stay-index < length ss) c.stays-stay-items.ensures c.loop-stay-test.true)
      (c.stay-item.is ∙ ap (λ (ss : List Stay). get_or ss c.loop-stay.stay-index c.stay-item.result) c.stays-stay-items.ensures)
      c.loop-stay.invariant.number c.loop-stay.invariant.levels);
  number = omega (arith, c.loop-stay.invariant.number);
}
