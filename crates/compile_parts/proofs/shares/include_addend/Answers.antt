use Rattle.std.proofs.Common.{◌≡◌, pos, sym, subst}
use Rattle.frac_core.specs.Fraction.{Fraction}
use Rattle.compile_parts.proofs.shares.include_addend.Goals as goal

pub returns-in_ok-include_share-clause-off : goal.returns-in_ok-include_share-clause-off
returns-in_ok-include_share-clause-off c = λ v off.
    let kept = c.in_ok-include_share.ensures.off v off in
    (kept.0, subst (λ (f : Fraction). f.num ≡ pos 0) (sym (c.in-Some.ensures.some v)) kept.1)
