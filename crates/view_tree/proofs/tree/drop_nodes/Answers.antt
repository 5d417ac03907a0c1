use Rattle.std.proofs.Common.{◌≡◌, ◌∙◌, List, ℕ, ap, sym, arith}
use Rattle.view_tree.specs.Drops.{is_among}
use Rattle.view_tree.specs.declared.tree.Node.{Node}
use Rattle.view_tree.proofs.DropLemmas.{back, back-all, next-goes, next-stays}
use Rattle.view_tree.proofs.tree.drop_nodes.Goals as goal

pub loop-place-init : goal.loop-place-init
loop-place-init c = record {
  within = omega (arith, c.len-place.ensures.len);
  is = sym (ap (λ n. back (λ (e : List ℕ × Node). is_among c.args.gone.now e.1.id.0) n c.args.table.now) c.len-place.ensures.len ∙ back-all (λ (e : List ℕ × Node). is_among c.args.gone.now e.1.id.0) c.args.table.now);
}

pub loop-place-preserved-then-is_gone : goal.loop-place-preserved-then-is_gone
loop-place-preserved-then-is_gone c = record {
  within = omega (arith, c.loop-place.invariant.within);
  is = c.remove.ensures
      ∙ next-goes (λ (e : List ℕ × Node). is_among c.args.gone.now e.1.id.0) c.args.table.now c.loop-place.place c.loop-place.table c.loop-place-test.true c.loop-place.invariant.within c.loop-place.invariant.is
      (sym c.is_gone.ensures ∙ c.if-is_gone.true);
}

pub loop-place-preserved : goal.loop-place-preserved
loop-place-preserved c = record {
  within = omega (arith, c.loop-place.invariant.within);
  is = next-stays (λ (e : List ℕ × Node). is_among c.args.gone.now e.1.id.0) c.args.table.now c.loop-place.place c.loop-place.table c.loop-place-test.true c.loop-place.invariant.within c.loop-place.invariant.is
      (sym c.is_gone.ensures ∙ c.if-is_gone.false);
}

pub returns : goal.returns
returns c =
    let none : c.loop-place.place ≡ 0 = omega (arith, c.loop-place-test.false) in
    c.loop-place.invariant.is ∙ ap (λ n. back (λ (e : List ℕ × Node). is_among c.args.gone.now e.1.id.0) n c.args.table.now) none
