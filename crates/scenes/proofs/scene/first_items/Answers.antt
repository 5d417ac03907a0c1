use Rattle.std.proofs.Common.{◌++◌, ◌∷◌, [], ◌∙◌, ap, ap₂}
use Rattle.version_lists.specs.Versions.{Versions}
use Rattle.held_items.specs.declared.item.Item as declared
use Rattle.held_items.specs.declared.item.Item.TheVariants as kind
use Rattle.scenes.proofs.First.{versions}
use Rattle.scenes.proofs.scene.first_items.Goals as goal

pub returns : goal.returns
returns c =
    ap₂ versions
    (c.in_ok-push.ensures.ok ∙ ap (λ (v : Versions declared.Item). v.items ++ kind.OfWindow ∷ []) c.in_ok-items.ensures)
    (c.push.ensures.before ∙ ap (λ (v : Versions declared.Item). v.before) c.in_ok-items.ensures)
