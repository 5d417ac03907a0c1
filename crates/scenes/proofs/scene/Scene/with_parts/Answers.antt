use Rattle.std.proofs.Common.{ap, arith}
use Rattle.version_lists.specs.Versions.{Versions}
use Rattle.held_items.specs.declared.item.Item as declared
use Rattle.scenes.proofs.First.{first-alike, first-corner, first-history, first-history-kept}
use Rattle.scenes.proofs.Engines.Additions.{first-counted}
use Rattle.scenes.proofs.Engines.Reached.{reached}
use Rattle.scenes.proofs.scene.Scene.with_parts.Goals as goal

pub invariant_of-result : goal.invariant_of-result
invariant_of-result g c = (
  first-history-kept c.args.tree c.args.metrics c.args.items c.in_ok-engine.engine c.args.pasts.items c.args.undo c.requires.metrics c.requires.items c.in_ok-engine.ensures.problem
      (first-counted c.args.tree c.in_ok-engine.engine.problem c.requires.tree c.in_ok-engine.ensures.problem),
  first-alike c.args.undo c.requires.undo c.args.items.before c.in_ok-engine.engine.earlier c.args.pasts.items (ap (λ (v : Versions declared.Item). v.before) c.requires.items) c.in_ok-engine.ensures.earlier c.requires.none,
  omega (arith, c.requires.room),
)

pub returns : goal.returns
returns g c = record {
  corner = first-corner c.in_ok-engine.engine c.in_ok-engine.ensures.problem c.in_ok-engine.ensures.best (reached c.in_ok-engine.engine c.show_layout.ensures.layout);
  first = first-history c.args.tree c.args.metrics c.args.items c.in_ok-engine.engine c.args.pasts.items c.args.undo c.requires.tree c.requires.metrics c.requires.items c.in_ok-engine.ensures.problem c.in_ok-engine.ensures.best;
}
