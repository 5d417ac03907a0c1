use Rattle.std.proofs.Common.{◌≡◌, ◌∙◌, ◌∷◌, ◌++◌, [], ap, get_or, subst, sym}
use Rattle.name_tables.specs.Names.{names_of}
use Rattle.view_tree.specs.JsonStops.{AreFree}
use Rattle.view_tree.proofs.JsonLemmas.{AreFree-push, absent, first_held, names_more, names_push, unplanned}
use Rattle.view_tree.proofs.tree.Tree.first_held.Goals as goal

pub returns-then-is_held-clause-held : goal.returns-then-is_held-clause-held
returns-then-is_held-clause-held c =
    first_held c.args.self.now c.args.metrics.now c.args.views.now c.loop-view.view-index unplanned (names_of c.loop-view.before) c.loop-view-test.true c.loop-view.invariant.are c.loop-view.invariant.free
    (sym c.is_held.ensures ∙ c.if-is_held.true)

pub add-requires : goal.add-requires
add-requires c = absent c.args.self.now c.args.metrics.now (names_of c.loop-view.before) _ (sym c.is_held.ensures ∙ c.if-is_held.false)

pub loop-view-preserved : goal.loop-view-preserved
loop-view-preserved c =
    let p = get_or c.args.views.now c.loop-view.view-index unplanned in
    let after : names_of c.add.new.self ≡ names_of c.loop-view.before ++ p.name.now ∷ [] = ap names_of c.in_ok-add.ensures.added ∙ names_push c.loop-view.before p.name.now tt in
    record {
      free = subst (AreFree c.args.self.now c.args.metrics.now []) (sym after)
          (AreFree-push c.args.self.now c.args.metrics.now [] (names_of c.loop-view.before) p.name.now c.loop-view.invariant.free (sym c.is_held.ensures ∙ c.if-is_held.false));
      are = names_more c.args.views.now c.loop-view.view-index unplanned (names_of c.loop-view.before) (names_of c.add.new.self) c.loop-view-test.true c.loop-view.invariant.are after;
    }
