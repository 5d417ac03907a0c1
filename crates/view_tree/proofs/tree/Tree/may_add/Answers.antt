use Rattle.std.proofs.Common.{sym}
use Rattle.std.proofs.lemmas.Result.{err_from_is_err_and}
use Rattle.view_tree.proofs.BranchLemmas.{IsSome-view_of}
use Rattle.view_tree.proofs.JsonLemmas.{limited_by}
use Rattle.view_tree.proofs.tree.Tree.may_add.Goals as goal

pub returns-in_err-parent-clause-stop : goal.returns-in_err-parent-clause-stop
returns-in_err-parent-clause-stop c =
    let exit = err_from_is_err_and c.from_residual.result c.from_residual.ensures.1 in
    rw (exit.1, exit.2) (c.in_err-parent.ensures.stop c.args.metrics.now)

pub plan_limit-requires : goal.plan_limit-requires
plan_limit-requires c = IsSome-view_of c.args.self.now.views c.args.plan.now.place.now c.in_ok-parent.parent.0 (sym c.in_ok-parent.ensures.found)

pub returns-in-Some-clause-stop : goal.returns-in-Some-clause-stop
returns-in-Some-clause-stop c = λ text tree from planned.
    limited_by c.args.self.now c.args.metrics.now c.args.plan.now tree planned text from c.in_ok-parent.parent.0 c.in_ok-parent.ensures.found c.in_ok-holds_none.ensures.free c.in-Some.word (c.in-Some.ensures.passed tree planned)
