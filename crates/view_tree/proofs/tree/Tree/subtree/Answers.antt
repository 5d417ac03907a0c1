use Rattle.std.proofs.Common.{◌≡◌, ◌∙◌, [], ◌∷◌, ◌++◌, ap, sym, Some, length, length-append, slice_get, arith, rules}
use Rattle.std.specs.Option.{option_map}
use Rattle.view_tree.specs.Drops.{goes}
use Rattle.view_tree.specs.Views.{LiveView}
use Rattle.view_tree.specs.declared.view.ViewId.{ViewId}
use Rattle.view_tree.proofs.DropLemmas.{grow, grow-end, grow-goes, grow-stays}
use Rattle.view_tree.proofs.tree.Tree.subtree.Goals.{then-goes+in_ok-push, else-goes}
use Rattle.view_tree.proofs.tree.Tree.subtree.Goals as goal

pub returns-clause-going : goal.returns-clause-going
returns-clause-going c =
    grow-end c.args.self.now c.args.root.0 c.loop-place.gone.items c.loop-place.place c.len-place-end.ensures.tree (omega (arith, c.loop-place-test.false, c.loop-place.invariant.is_end)) c.loop-place.invariant.going

pub loop-place-preserved : goal.loop-place-preserved
loop-place-preserved c =
    let v : LiveView = record { id = c.in-Some.view.id.0; name = c.in-Some.view.name.now; parent = option_map (λ (p : ViewId). p.0) c.in-Some.view.parent } in
    let at : Some v ≡ slice_get c.args.self.now.views c.loop-place.place = c.in-Some.ensures in
    let says : c.goes.result ≡ goes c.args.root.0 c.loop-place.gone.items v = rw c.deref.ensures.value at (c.goes.ensures c.in-Some.view.name.now) in
    elim c.if-goes.branch [
      | then-goes+in_ok-push w ↦ let pushed : c.if-goes.gone.items ≡ c.loop-place.gone.items ++ c.in-Some.view.id.0 ∷ [] = search rules in
          record {
            within = omega (arith, c.loop-place-test.true);
            is_end = c.loop-place.invariant.is_end;
            few = omega (arith, ap length pushed, length-append c.loop-place.gone.items (c.in-Some.view.id.0 ∷ []), c.loop-place.invariant.few);
            going = grow-goes c.args.root.0 c.loop-place.gone.items c.if-goes.gone.items c.args.self.now.views c.loop-place.place v (grow c.args.root.0 [] c.args.self.now.views) at (sym says ∙ w.if-goes.true) pushed c.loop-place.invariant.going;
          }
      | else-goes w ↦ let alike : c.if-goes.gone.items ≡ c.loop-place.gone.items = search rules in
          record {
            within = omega (arith, c.loop-place-test.true);
            is_end = c.loop-place.invariant.is_end;
            few = omega (arith, ap length alike, c.loop-place.invariant.few);
            going = grow-stays c.args.root.0 c.loop-place.gone.items c.if-goes.gone.items c.args.self.now.views c.loop-place.place v (grow c.args.root.0 [] c.args.self.now.views) at (sym says ∙ w.if-goes.false) alike c.loop-place.invariant.going;
          }
    ]
