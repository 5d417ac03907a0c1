use Rattle.std.proofs.Common.{◌≡◌, ◌∙◌, sym, false}
use Rattle.std.proofs.lemmas.Result.{err_from_is_err_and}
use Rattle.span_text.specs.Objects.{object_view}
use Rattle.script_text.specs.View.{linear_view}
use Rattle.compile_parts.specs.Meaning.{IsRank, has_view_number, terms_of}
use Rattle.constraint_compile.proofs.line.compile_turned.Goals as goal

pub returns-in_err-names-clause-stop : goal.returns-in_err-names-clause-stop
returns-in_err-names-clause-stop c =
    let exit = err_from_is_err_and c.from_residual-in_err-names.result c.from_residual-in_err-names.ensures.1 in
    rw (exit.1, exit.2) (c.in_err-names.ensures.stop c.args.id)

pub returns-in_err-strength-clause-stop : goal.returns-in_err-strength-clause-stop
returns-in_err-strength-clause-stop c =
    let exit = err_from_is_err_and c.from_residual-in_err-strength.result c.from_residual-in_err-strength.ensures.1 in
    rw (exit.1, exit.2) (c.in_ok-names.ensures.known, c.in_err-strength.ensures.stop c.args.tree.now.views c.args.metrics.now c.in_ok-names.ensures.number c.in_ok-names.ensures.some c.in_ok-names.ensures.none)

pub returns-in_err-within_limits-clause-stop : goal.returns-in_err-within_limits-clause-stop
returns-in_err-within_limits-clause-stop c =
    let none : has_view_number c.args.tree.now.views (terms_of (linear_view c.args.line.now)) ≡ false = sym c.in_ok-names.ensures.number ∙ c.in_ok-strength.ensures.numbers in
    let rank : IsRank c.args.tree.now.views c.args.metrics.now (object_view c.args.line.now.priority) c.in_ok-strength.strength.rank = rw c.in_ok-strength.ensures.rank at c.in_ok-names.ensures.some in
    let exit = err_from_is_err_and c.from_residual-in_err-within_limits.result c.from_residual-in_err-within_limits.ensures.1 in
    rw (exit.1, exit.2) (record { known = c.in_ok-names.ensures.known; numbers = none; rank = (c.in_ok-strength.strength.rank, rank); weight = c.in_ok-strength.ensures.weight.1 }, c.in_err-within_limits.ensures.stop c.args.tree.now.views c.args.metrics.now)
