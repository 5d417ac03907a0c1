use Rattle.std.proofs.Common.{◌∙◌, ◌-◌, ℕ, take, ap}
use Rattle.scenes.proofs.scene.past.forget_oldest.Goals as goal

pub returns-clause-items : goal.returns-clause-items
returns-clause-items g c =
    c.forget.ensures.before ∙ ap (λ (n : ℕ). take (n - 1) c.args.items.now.before) c.requires.items

pub returns-clause-solutions : goal.returns-clause-solutions
returns-clause-solutions g c =
    c.forget-2.ensures.earlier ∙ ap (λ (n : ℕ). take (n - 1) c.args.engine.now.earlier) c.requires.solutions
