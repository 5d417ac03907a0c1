use Rattle.std.proofs.Common.{◌∙◌}
use Rattle.layout_solver.proofs.Removals.LeftRows.{attrs_next, next_free, next_stay}
use Rattle.layout_solver.proofs.removing.drop_attrs.Goals as goal

pub drop_attr-requires-clause-free : goal.drop_attr-requires-clause-free
drop_attr-requires-clause-free g c = record {
  held = next_stay c.args.attrs.now c.loop-attr.attr-index c.args.c.now.problem c.loop-attr.c.problem c.loop-attr.invariant.problem c.requires.apart c.requires.held c.loop-attr-test.true;
  free = next_free c.args.attrs.now c.loop-attr.attr-index c.args.c.now.problem c.loop-attr.c.problem c.loop-attr.invariant.problem c.requires.free c.loop-attr-test.true;
}

pub loop-attr-preserved : goal.loop-attr-preserved
loop-attr-preserved g c = record {
  problem = attrs_next c.args.attrs.now c.loop-attr.attr-index c.args.c.now.problem c.loop-attr.c.problem c.drop_attr.new.self.problem c.loop-attr.invariant.problem c.in_ok-drop_attr.ensures.problem c.loop-attr-test.true;
  marks = c.in_ok-drop_attr.ensures.marks ∙ c.loop-attr.invariant.marks;
  before = c.in_ok-drop_attr.ensures.before ∙ c.loop-attr.invariant.before;
}
