use Rattle.std.proofs.Common.{◌∙◌, ◌+◌, ap, drop, get_or, subst, sym}
use Rattle.view_tree.specs.Plans.{AreNew, grown, id_named, pairs_of}
use Rattle.view_tree.proofs.JsonLemmas.{Next, grows_by, next, unplanned}
use Rattle.view_tree.proofs.tree.Tree.add_all.Goals as goal

pub add_planned-requires-clause-live : goal.add_planned-requires-clause-live
add_planned-requires-clause-live c = (next c.loop-view.self c.args.views.now c.loop-view.view-index unplanned c.loop-view-test.true c.loop-view.invariant.new).live

pub add_planned-requires-clause-new : goal.add_planned-requires-clause-new
add_planned-requires-clause-new c = (next c.loop-view.self c.args.views.now c.loop-view.view-index unplanned c.loop-view-test.true c.loop-view.invariant.new).new

pub loop-view-preserved : goal.loop-view-preserved
loop-view-preserved c =
    let p = get_or c.args.views.now c.loop-view.view-index unplanned in
    let n : Next c.loop-view.self c.args.views.now c.loop-view.view-index p = next c.loop-view.self c.args.views.now c.loop-view.view-index unplanned c.loop-view-test.true c.loop-view.invariant.new in
    record {
      new = subst (λ w. AreNew w (drop (c.loop-view.view-index + 1) (pairs_of c.args.views.now))) (sym c.in-Ok.ensures.added) n.rest;
      same = ap (λ w. grown w (drop (c.loop-view.view-index + 1) (pairs_of c.args.views.now))) c.in-Ok.ensures.added ∙ n.same ∙ c.loop-view.invariant.same;
      later = grows_by c.args.self.now c.loop-view.self c.add_planned.new.self c.loop-view.invariant.later.0 p.name.now (id_named c.loop-view.self p.parent.now) c.loop-view.invariant.later.1 c.in-Ok.ensures.added;
    }
