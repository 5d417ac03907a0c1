use Rattle.std.proofs.Common.{inl, refl}
use Rattle.view_tree.specs.Stops.{MayStop}
use Rattle.view_tree.specs.declared.stops.ViewStop.TheVariants.{Limit, Unknown, Taken}
use Rattle.session_undo.specs.Kept.{session_at}
use Rattle.held_items.proofs.Views.Attributes.{grown-view}
use Rattle.session_undo.proofs.session.Session.views_with.Goals as goal

pub unreachable-requires : goal.unreachable-requires
unreachable-requires g c =
    let old = (session_at c.self.inside.scene c.self.inside.budget c.self.inside.limits c.self.inside.version) in
    let stop : MayStop old.scene.tree c.args.name.now c.args.above.0 Taken =
    rw (c.in-Err-Taken.field-0-is, c.in_ok-tree.ensures, c.tree-views.ensures) at c.in-Err-Taken.ensures.refused in
    (rw (← c.self.view_is) at c.requires.free).free (inl stop.1)

pub unreachable-requires-in-Err-Unknown : goal.unreachable-requires-in-Err-Unknown
unreachable-requires-in-Err-Unknown g c =
    let old = (session_at c.self.inside.scene c.self.inside.budget c.self.inside.limits c.self.inside.version) in
    let stop : MayStop old.scene.tree c.args.name.now c.args.above.0 Unknown =
    rw (c.in-Err-Unknown.field-0-is, c.in_ok-tree.ensures, c.tree-views.ensures) at c.in-Err-Unknown.ensures.refused in
    (rw (← c.self.view_is) at c.requires.live) stop

pub returns-in-Err-Limit-clause-refused : goal.returns-in-Err-Limit-clause-refused
returns-in-Err-Limit-clause-refused g c =
    let old = (session_at c.self.inside.scene c.self.inside.budget c.self.inside.limits c.self.inside.version) in
    let stop : MayStop old.scene.tree c.args.name.now c.args.above.0 (Limit c.in-Err-Limit.word) =
    rw (c.in-Err-Limit.field-0-is, c.in_ok-tree.ensures, c.tree-views.ensures) at c.in-Err-Limit.ensures.refused in
    rw (c.in-Err-Limit.field-0-is, ← c.self.view_is) (c.in-Err-Limit.word, stop, (refl, refl))

pub returns-in-Ok-clause-made : goal.returns-in-Ok-clause-made
returns-in-Ok-clause-made g c =
    let added = rw (c.in_ok-tree.ensures, c.tree-views.ensures) at c.in-Ok.ensures.added in
    let id_is = rw (c.in_ok-tree.ensures, c.tree-views.ensures) at c.in-Ok.ensures.id in
    rw (c.in_ok-own-in-Ok.ensures, ← c.self.view_is) (record {
      fresh = rw (c.in_ok-tree.ensures, c.tree-views.ensures) at c.in-Ok.ensures.new;
      tree_is = added;
      id_is = id_is;
      one = refl;
      coming = grown-view c.self.inside.scene.scene.tree c.add.new.self c.args.name.now c.args.above.0 c.in-Ok.first_view.0 (rw c.tree-views.ensures at c.len-before.ensures.tree) c.len-after.ensures.tree added id_is;
    })
