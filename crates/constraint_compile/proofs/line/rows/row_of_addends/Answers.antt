use Rattle.std.proofs.Common.{map, refl}
use Rattle.std.specs.String.{string_bytes}
use Rattle.std.proofs.lemmas.Result.{err_from_is_err_and}
use Rattle.compile_parts.specs.Keeps.{steps_view}
use Rattle.constraint_compile.proofs.Added.{few_is, small_is, terms_is}
use Rattle.constraint_compile.proofs.Lines.{sum_row}
use Rattle.constraint_compile.proofs.line.rows.row_of_addends.Goals as goal

pub returns-in_err-sum-clause-stop : goal.returns-in_err-sum-clause-stop
returns-in_err-sum-clause-stop c =
    let exit = err_from_is_err_and c.from_residual.result c.from_residual.ensures.1 in
    rw (exit.1, exit.2) (λ views terms of. c.in_err-sum.ensures.stop views c.args.metrics.now terms of)

pub returns-then-not-is_constant_small-clause-stop : goal.returns-then-not-is_constant_small-clause-stop
returns-then-not-is_constant_small-clause-stop c = λ views terms of.
    let steps = c.in_ok-named.ensures.steps in
    (few_is views terms c.args.added.now of c.in_ok-sum.ensures.some, small_is views terms c.args.added.now of c.in_ok-sum.ensures.scales.small, (steps_view (map string_bytes c.in_ok-named.named.names.items) c.in_ok-named.named.steps.items, steps views terms of, c.if-not-is_constant_small.ensures.no refl))

pub returns-clause-form : goal.returns-clause-form
returns-clause-form c =
    record { number = c.requires.number; rank = c.requires.rank; weight = c.requires.weight; each = c.in_ok-sum.ensures.each; rising = c.in_ok-sum.ensures.rising; count = c.in_ok-sum.ensures.few; scales = c.in_ok-named.ensures.kept }

pub returns-clause-row : goal.returns-clause-row
returns-clause-row c = λ views terms of.
    let steps = c.in_ok-named.ensures.steps in
    sum_row views terms _ (steps views terms of) (terms_is views terms c.args.added.now c.in_ok-sum.sum.terms.items of c.in_ok-sum.ensures.terms) c.in_ok-sum.ensures.few

pub returns-clause-within : goal.returns-clause-within
returns-clause-within c = λ views terms of.
    record { few = few_is views terms c.args.added.now of c.in_ok-sum.ensures.some; small = small_is views terms c.args.added.now of c.in_ok-sum.ensures.scales.small; constants = c.if-not-is_constant_small.ensures.yes refl }
