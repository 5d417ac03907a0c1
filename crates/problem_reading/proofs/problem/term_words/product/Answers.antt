use Rattle.std.proofs.Common.{rules, ap, sym, ◌∙◌, SFits, w64, to_z}
use Rattle.std.proofs.lemmas.Int.{to_z-of_z}
use Rattle.problem_reading.proofs.Problems.Terms.{product_none}
use Rattle.problem_reading.proofs.problem.term_words.product.Goals as goal

pub returns-then-by-eq0-clause-none : goal.returns-then-by-eq0-clause-none
returns-then-by-eq0-clause-none c = λ t is attr by.
    let fits : SFits w64 c.in_ok-by.by = search rules in
    let zero = sym (to_z-of_z w64 c.in_ok-by.by fits) ∙ ap (to_z w64) c.if-by-eq0.true in
    product_none t c.args.by.now c.in_ok-by.by c.in_ok-by.ensures.some.0 zero c.in_ok-by.ensures.some.1 is by
