use Rattle.std.proofs.Common.{SFits, w64, rules}
use Rattle.std.proofs.lemmas.Int.{to_z-of_z}
use Rattle.problem_reading.proofs.Maybe.{none_from}
use Rattle.problem_reading.proofs.Numerals.Lowest.{whole_of}
use Rattle.problem_reading.proofs.numbers.whole.Goals as goal

pub returns-clause-none : goal.returns-clause-none
returns-clause-none c =
    let fits : SFits w64 c.in_ok-num.num = search rules in
    none_from c.lowest.result (λ none f kept one is. none (simp to_z-of_z (whole_of f c.in_ok-num.num c.args.word.now kept (c.in_ok-num.ensures.some.0) c.in_ok-num.ensures.some.1 one is))) c.lowest.ensures.none
