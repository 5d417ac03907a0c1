use Rattle.std.proofs.Common.{rules, ◌≡◌, [], length, refl, arith, ap, subst, ◌∙◌, slice_set}
use Rattle.corner_packing.specs.Moving.{AreCleared}
use Rattle.corner_packing.proofs.PackingFacts.{one_cleared, uncleared}
use Rattle.corner_packing.proofs.moving.clear_rows.Goals as goal

pub loop-w-init : goal.loop-w-init
loop-w-init c = record { cleared = uncleared c.args.count c.args.matrix.now.rows; before = refl }

pub loop-w-preserved : goal.loop-w-preserved
loop-w-preserved c =
    let is : c.put.new.self.rows ≡ slice_set c.loop-w.matrix.rows c.loop-w.w [] = c.in_ok-put.ensures.ok ∙ ap (slice_set c.loop-w.matrix.rows c.loop-w.w) c.empty.ensures in
    record {
      cleared = one_cleared c.args.count c.loop-w.w c.args.matrix.now.rows c.loop-w.matrix.rows c.put.new.self.rows c.loop-w.auto.w (search rules) c.loop-w.invariant.cleared is;
      before = search rules;
    }

pub returns-clause-cleared : goal.returns-clause-cleared
returns-clause-cleared c =
    let end : c.loop-w.w ≡ length c.args.matrix.now.rows = grind (arith, c.loop-w-test.false, c.loop-w.auto.w-end) in
    subst (λ n. AreCleared c.args.count n c.args.matrix.now.rows c.loop-w.matrix.rows) end c.loop-w.invariant.cleared
