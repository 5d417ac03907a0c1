use Rattle.std.proofs.Common.{◌≡◌, ◌∙◌, ℕ, ap, sym, pos, ℤ, ap₂}
use Rattle.frac_core.specs.Fraction.{Fraction}
use Rattle.problem_core.proofs.GapFacts.Lookups.{look-at, look-next, look-end}
use Rattle.problem_core.proofs.values.Values.value.Goals as goal

zeros : (f : Fraction) → f.num ≡ pos 0 → f.den ≡ 1 → f ≡ record { num = pos 0; den = 1 }
zeros f e g = ap₂ (λ (n : ℤ) (d : ℕ). let f : Fraction = record { num = n; den = d } in f) e g

pub returns-then-number-attr : goal.returns-then-number-attr
returns-then-number-attr c =
    let is = rw c.pairs-number-items.ensures at (sym c.loop-number-item.is) in
    sym (c.loop-number.invariant
    ∙ look-at c.args.self.now c.loop-number.number-index c.args.attr c.loop-number-item.result (rw c.pairs-number-items.ensures at c.loop-number-test.true) (ap (λ (v : ℕ × Fraction). v.0) is ∙ c.if-number-attr.true)
    ∙ ap (λ (v : ℕ × Fraction). v.1) is)

pub loop-number-preserved : goal.loop-number-preserved
loop-number-preserved c =
    let is = rw c.pairs-number-items.ensures at (sym c.loop-number-item.is) in
    c.loop-number.invariant
    ∙ look-next c.args.self.now c.loop-number.number-index c.args.attr c.loop-number-item.result (rw c.pairs-number-items.ensures at c.loop-number-test.true) (λ e. c.if-number-attr.false (sym (ap (λ (v : ℕ × Fraction). v.0) is) ∙ e))

pub returns : goal.returns
returns c =
    let zero : c.zero.result ≡ record { num = pos 0; den = 1 } = zeros c.zero.result c.zero.ensures.num c.zero.ensures.den in
    zero ∙ sym (c.loop-number.invariant ∙ look-end c.args.self.now c.loop-number.number-index c.args.attr (rw c.pairs-number-items.ensures at c.loop-number-test.false))
