use Rattle.std.proofs.Common.{◌∙◌, map, refl, subst, sym}
use Rattle.problem_core.specs.Certificates.{required}
use Rattle.problem_core.specs.Numbers.{AreNumbersOf}
use Rattle.conflict_core.proofs.OwnRows.{own_rows_refuted}
use Rattle.conflict_core.proofs.finding.core_among.Goals as goal

pub numbers_of-requires : goal.numbers_of-requires
numbers_of-requires g c = rw c.stays.ensures c.show_whole.ensures.apart

pub found_anew_among-requires-clause-trials : goal.found_anew_among-requires-clause-trials
found_anew_among-requires-clause-trials g c = record { attrs = c.deref.ensures.value ∙ c.in_ok-attrs.ensures; numbers = subst (AreNumbersOf c.args.p.now.stays) (sym c.deref-2.ensures.value) (rw c.stays.ensures at c.in_ok-numbers.ensures) }

pub found_anew_among-requires-clause-refuted : goal.found_anew_among-requires-clause-refuted
found_anew_among-requires-clause-refuted g c = (map (λ r. r.id) (required c.args.p.now), own_rows_refuted c.args.p.now (map (λ r. r.id) (required c.args.p.now)) refl c.args.by c.requires.shown)
