use Rattle.std.proofs.Common.{◌≡◌, ◌∙◌, ◌∷◌, ◌++◌, [], ℕ, ℤ, ap, ap₂}
use Rattle.frac_core.specs.Fraction.{Fraction}
use Rattle.problem_core.specs.Kept.{IsRow}
use Rattle.problem_core.specs.Layout.{Row}
use Rattle.problem_core.specs.Window.{required_row, zero_fraction}
use Rattle.held_items.proofs.Lists.{each-snoc}
use Rattle.held_items.proofs.item.rows.push_required.Goals as goal

pub returns-clause-row : goal.returns-clause-row
returns-clause-row c =
    let nought : c.zero.result ≡ zero_fraction = ap₂ (λ (n : ℤ) (d : ℕ). (let f : Fraction = record { num = n; den = d } in f)) c.zero.ensures.num c.zero.ensures.den in
    c.in_ok-push.ensures.items ∙ ap (λ (r : Row). c.args.rows.now.items ++ r ∷ []) (c.in_ok-row.ensures.row ∙ ap (required_row c.args.id c.args.attr c.args.rel) nought)

pub returns-clause-each : goal.returns-clause-each
returns-clause-each c = λ each. each-snoc IsRow c.args.rows.now.items c.push.new.self.items c.in_ok-row.row each c.in_ok-row.ensures.kept c.in_ok-push.ensures.items
