use Rattle.std.proofs.Common.{SFits, w64, rules}
use Rattle.std.proofs.lemmas.Int.{to_z-of_z}
use Rattle.problem_reading.proofs.Maybe.{none_from}
use Rattle.problem_reading.proofs.Numerals.Lowest.{no_other}
use Rattle.problem_reading.proofs.numbers.quotient.Goals as goal

pub returns-clause-none : goal.returns-clause-none
returns-clause-none c =
    let fits : SFits w64 c.in_ok-num.num = search rules in
    none_from c.lowest.result (λ none f kept more above below.
    none (simp to_z-of_z (no_other f c.in_ok-num.num c.in_ok-den.den c.args.above.now c.args.below.now kept c.in_ok-num.ensures.some.0 c.in_ok-den.ensures.some.1
    c.in_ok-num.ensures.some.1 c.in_ok-den.ensures.some.2 above below))) c.lowest.ensures.none
