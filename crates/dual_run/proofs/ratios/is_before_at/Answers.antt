use Rattle.std.proofs.Common.{slice_index_or}
use Rattle.problem_core.specs.declared.parts.Level.TheVariants.{Priority}
use Rattle.std.specs.declared.cmp.Ordering.TheVariants.{Less, Equal, Greater}
use Rattle.std.proofs.lemmas.Cmp.{int_ranked}
use Rattle.dual_run.proofs.Orders.{all_equal, equal_more, equal_none, equal_turned, got_at, lesser_here}
use Rattle.dual_run.proofs.ratios.is_before_at.Goals as goal

pub loop-level-init : goal.loop-level-init
loop-level-init g c = equal_none c.args.c.now.problem c.args.c.now.marks c.args.levels.now c.args.a c.args.b

pub returns-in-Less-clause-yes : goal.returns-in-Less-clause-yes
returns-in-Less-clause-yes g c = λ _.
    lesser_here c.args.c.now.problem c.args.c.now.marks c.args.levels.now c.args.a c.args.b c.loop-level.level-index (slice_index_or c.args.levels.now c.loop-level.level-index (Priority 0)) c.show_corner.ensures.kept c.requires.levels
    (got_at c.args.levels.now c.loop-level.level-index (Priority 0) c.loop-level-test.true) c.loop-level.invariant
    (λ r k here. int_ranked _ _ Less (c.in-Less.ensures r k here))

pub returns-in-Greater-clause-no : goal.returns-in-Greater-clause-no
returns-in-Greater-clause-no g c = λ _.
    lesser_here c.args.c.now.problem c.args.c.now.marks c.args.levels.now c.args.b c.args.a c.loop-level.level-index (slice_index_or c.args.levels.now c.loop-level.level-index (Priority 0)) c.show_corner.ensures.kept c.requires.levels
    (got_at c.args.levels.now c.loop-level.level-index (Priority 0) c.loop-level-test.true)
    (equal_turned c.args.c.now.problem c.args.c.now.marks c.args.levels.now c.args.a c.args.b c.loop-level.level-index c.loop-level.invariant)
    (λ r k here. int_ranked _ _ Greater (c.in-Greater.ensures r k here))

pub loop-level-preserved : goal.loop-level-preserved
loop-level-preserved g c =
    equal_more c.args.c.now.problem c.args.c.now.marks c.args.levels.now c.args.a c.args.b c.loop-level.level-index (slice_index_or c.args.levels.now c.loop-level.level-index (Priority 0)) c.loop-level.invariant
    (got_at c.args.levels.now c.loop-level.level-index (Priority 0) c.loop-level-test.true)
    (λ r k here. int_ranked _ _ Equal (c.in-Equal.ensures r k here))

pub returns-clause-yes : goal.returns-clause-yes
returns-clause-yes g c = λ _. all_equal c.args.c.now.problem c.args.c.now.marks c.args.levels.now c.args.a c.args.b c.loop-level.level-index c.show_corner.ensures.kept c.requires.levels c.loop-level-test.false c.loop-level.invariant
