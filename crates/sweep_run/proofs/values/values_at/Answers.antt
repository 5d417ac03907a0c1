use Rattle.std.proofs.Common.{◌∙◌, refl, subst, sym}
use Rattle.problem_core.specs.Layout.{Problem}
use Rattle.problem_core.proofs.StayNumbers.{all_held}
use Rattle.corner_lines.specs.Shifts.{with_constant}
use Rattle.sweep_run.specs.Values.{AreValuesAt}
use Rattle.sweep_run.proofs.Numbers.{all_listed, listed_rise}
use Rattle.sweep_run.proofs.values.values_at.Goals as goal

pub numbers_of-requires : goal.numbers_of-requires
numbers_of-requires g c = rw c.stays.ensures c.show_corner.ensures.kept.whole.apart

pub pairs_at-requires-clause-attrs : goal.pairs_at-requires-clause-attrs
pairs_at-requires-clause-attrs g c = rw c.deref.ensures.value (all_held c.args.c.now.problem.stays c.in_ok-attrs.attrs.items (rw c.stays.ensures at c.in_ok-attrs.ensures))

pub of-requires : goal.of-requires
of-requires g c =
    rw c.deref-2.ensures.value
    (listed_rise c.args.c.now.problem (with_constant c.args.way.now.row c.args.place.now.width c.args.c.now.problem) c.args.c.now.marks c.in_ok-attrs.attrs.items c.in_ok-pairs.pairs.items (rw c.stays.ensures at c.in_ok-attrs.ensures) (rw c.deref.ensures.value at c.in_ok-pairs.ensures.values))

pub returns-clause-values : goal.returns-clause-values
returns-clause-values g c =
    let q : Problem = with_constant c.args.way.now.row c.args.place.now.width c.args.c.now.problem in
    subst (AreValuesAt q c.args.c.now.marks) (sym (c.in_ok-of.ensures ∙ c.deref-2.ensures.value))
    (all_listed c.args.c.now.problem q c.args.c.now.marks c.in_ok-attrs.attrs.items c.in_ok-pairs.pairs.items refl (rw c.stays.ensures at c.in_ok-attrs.ensures) (rw c.deref.ensures.value at c.in_ok-pairs.ensures.values))
