use Rattle.std.proofs.Common.{◌∙◌, subst, sym}
use Rattle.problem_core.specs.Numbers.{AreNumbersOf}
use Rattle.conflict_core.proofs.finding.core.Goals as goal

pub numbers_of-requires : goal.numbers_of-requires
numbers_of-requires g c = rw c.stays.ensures c.show_whole.ensures.apart

pub found_anew-requires-clause-trials : goal.found_anew-requires-clause-trials
found_anew-requires-clause-trials g c = record { attrs = c.deref.ensures.value ∙ c.in_ok-attrs.ensures; numbers = subst (AreNumbersOf c.args.p.now.stays) (sym c.deref-2.ensures.value) (rw c.stays.ensures at c.in_ok-numbers.ensures) }

pub found_anew-requires-clause-all : goal.found_anew-requires-clause-all
found_anew-requires-clause-all g c = c.deref-3.ensures.value ∙ c.in_ok-all.ensures
