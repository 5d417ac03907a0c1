use Rattle.std.proofs.Common.{◌≡◌, ◌∙◌, ℕ, List, refl, subst, sym}
use Rattle.frac_core.specs.Fraction.{Fraction}
use Rattle.frac_core.proofs.Results.{ok_implies}
use Rattle.problem_core.proofs.StayNumbers.{all_held}
use Rattle.sweep_run.specs.Values.{AreValuesAt}
use Rattle.sweep_run.proofs.Numbers.{all_listed, listed_rise}
use Rattle.sweep_run.proofs.values.values_here.Goals as goal

pub numbers_of-requires : goal.numbers_of-requires
numbers_of-requires g c = rw c.stays.ensures c.show_corner.ensures.kept.whole.apart

pub pairs_here-requires : goal.pairs_here-requires
pairs_here-requires g c = rw c.deref.ensures.value (all_held c.args.c.now.problem.stays c.in_ok-attrs.attrs.items (rw c.stays.ensures at c.in_ok-attrs.ensures))

pub of-requires : goal.of-requires
of-requires g c =
    rw c.deref-2.ensures.value
    (listed_rise c.args.c.now.problem c.args.c.now.problem c.args.c.now.marks c.in_ok-attrs.attrs.items c.in_ok-pairs.pairs.items (rw c.stays.ensures at c.in_ok-attrs.ensures) (rw c.deref.ensures.value at c.in_ok-pairs.ensures))

pub returns : goal.returns
returns g c =
    ok_implies c.of.result (λ (v : List (ℕ × Fraction)). v ≡ c.deref-2.result.now) (AreValuesAt c.args.c.now.problem c.args.c.now.marks)
    (λ v e. subst (AreValuesAt c.args.c.now.problem c.args.c.now.marks) (sym (e ∙ c.deref-2.ensures.value))
    (all_listed c.args.c.now.problem c.args.c.now.problem c.args.c.now.marks c.in_ok-attrs.attrs.items c.in_ok-pairs.pairs.items refl (rw c.stays.ensures at c.in_ok-attrs.ensures) (rw c.deref.ensures.value at c.in_ok-pairs.ensures)))
    c.of.ensures
