use Rattle.std.proofs.Common.{◌≡◌, ℕ, pos, Option, Some, None, IfNone, sym, ◌∙◌}
use Rattle.frac_core.specs.Fraction.{Fraction}
use Rattle.compile_parts.specs.Meaning.{IsRowRank}
use Rattle.compile_parts.proofs.resolved.lookups.rank_of_metric.Goals as goal

inner : (f g : Fraction) → Some f ≡ Some g → f ≡ g
inner f g e = cc

through : (o : Option ℕ) (value : Option Fraction) (f : Fraction) → value ≡ Some f
    → IfNone o ((r : ℕ) → f ≡ record { num = pos r; den = 1 } → IsRowRank r → ⊥)
    → IfNone o ((r : ℕ) → value ≡ Some (record { num = pos r; den = 1 }) → IsRowRank r → ⊥)
through (Some x) value f is none = tt
through None value f is none = λ r e within. none r (inner f (record { num = pos r; den = 1 }) (sym is ∙ e)) within

pub returns-clause-none : goal.returns-clause-none
returns-clause-none c = through c.rank_of_fraction.result c.args.value c.in_ok-value.field-0 c.in_ok-value.was c.rank_of_fraction.ensures.none
