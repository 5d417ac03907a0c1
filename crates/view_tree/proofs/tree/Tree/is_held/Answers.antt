use Rattle.std.proofs.Common.{◌∙◌, ap, is_some, sym}
use Rattle.view_tree.proofs.JsonLemmas.{held_last}
use Rattle.view_tree.proofs.tree.Tree.is_held.Goals.{then-has_name, else-has_name}
use Rattle.view_tree.proofs.tree.Tree.is_held.Goals as goal

pub returns-else-is_some : goal.returns-else-is_some
returns-else-is_some c =
    elim c.if-has_name.branch [
      | then-has_name w ↦ absurd (let yes = w.value-is in let no = c.if-is_some.false in cc)
      | else-has_name w ↦ c.is_some-else-is_some.ensures ∙ ap is_some c.get-else-is_some.ensures
          ∙ held_last c.args.self.now c.args.metrics.now c.args.before.now c.args.name.now (sym c.has_name.ensures ∙ w.if-has_name.false)
          (sym (w.is_some.ensures ∙ ap is_some w.get.ensures) ∙ sym w.value-is ∙ c.if-is_some.false)
    ]
