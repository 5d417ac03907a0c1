use Rattle.std.proofs.Common.{◌-◌, ◌∙◌, ap, length, map, take, ℕ}
use Rattle.version_lists.specs.Numbers.{by_number, Numbers}
use Rattle.version_lists.proofs.Edits.{length_each, take_each}
use Rattle.version_lists.proofs.slots.NumberSlots.forget.Goals as goal

pub returns-clause-before : goal.returns-clause-before
returns-clause-before c =
    ap (map by_number) c.forget.ensures.before
    ∙ take_each (length c.self.inside.kept.before - 1) c.self.inside.kept.before
    ∙ ap (λ (n : ℕ). take (n - 1) (map by_number c.self.inside.kept.before)) (length_each c.self.inside.kept.before)
    ∙ ap (λ (s : Numbers). take (length s.before - 1) s.before) c.self.view_is
