use Rattle.std.proofs.Common.{subst, sym}
use Rattle.scenes.specs.Drafts.{MayLeave}
use Rattle.scenes.specs.Scene.{History}
use Rattle.scenes.proofs.Removals.LeavingScenes.{small-views}
use Rattle.scenes.proofs.scene.Scene.leaving_request.Goals as goal

pub leaving_attributes-requires : goal.leaving_attributes-requires
leaving_attributes-requires g c = small-views c.self.inside.tree c.args.leaver.now c.len-count.ensures.tree (subst (λ (h : History). MayLeave h.scene.tree.views c.args.leaver.now) (sym c.self.view_is) c.requires)
