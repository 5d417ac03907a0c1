use Rattle.std.proofs.Common.{◌∷◌, ◌∙◌, ap, map, take}
use Rattle.version_lists.specs.Numbers.{by_number, Numbers}
use Rattle.version_lists.proofs.Edits.{marked, take_each}
use Rattle.version_lists.proofs.slots.NumberSlots.mark.Goals as goal

pub invariant_of-self : goal.invariant_of-self
invariant_of-self c = marked c.self.inside.kept c.mark.new.self c.self.invariant c.mark.ensures.items c.mark.ensures.before

pub returns-clause-before : goal.returns-clause-before
returns-clause-before c =
    ap (map by_number) c.mark.ensures.before
    ∙ take_each 33 (c.self.inside.kept.items ∷ c.self.inside.kept.before)
    ∙ ap (λ (s : Numbers). s.items ∷ take 32 s.before) c.self.view_is
