use Rattle.std.proofs.Common.{rules}
use Rattle.compile_parts.specs.Addends.{addends_view, sum_of}
use Rattle.constraint_compile.specs.Coefficients.Sums.{HasTooMany}
use Rattle.constraint_compile.proofs.Added.{AreSmallFirst, many_is, few_is, past_is}
use Rattle.constraint_compile.proofs.Lines.{terms_at}
use Rattle.constraint_compile.proofs.line.rows.coefficients_of.Goals as goal

pub returns-clause-terms : goal.returns-clause-terms
returns-clause-terms c = λ k is.
    let sum = rw c.deref-2.ensures.value at (rw c.in-Some.is at c.in_ok-scaled.ensures.sum) in
    let terms = rw c.deref-3.ensures.value at c.in_ok-terms.ensures.terms in
    terms_at (sum_of (addends_view c.args.added.now)) c.in-Some.scaled.sum.scale k c.in_ok-terms.terms.items sum.is_scale is (terms (sum_of (addends_view c.args.added.now)) sum)

pub returns-clause-each : goal.returns-clause-each
returns-clause-each c =
    let sum = rw c.deref-2.ensures.value at (rw c.in-Some.is at c.in_ok-scaled.ensures.sum) in
    let terms = rw c.deref-3.ensures.value at c.in_ok-terms.ensures.terms in
    (terms (sum_of (addends_view c.args.added.now)) sum).each

pub returns-clause-rising : goal.returns-clause-rising
returns-clause-rising c =
    let sum = rw c.deref-2.ensures.value at (rw c.in-Some.is at c.in_ok-scaled.ensures.sum) in
    let terms = rw c.deref-3.ensures.value at c.in_ok-terms.ensures.terms in
    (terms (sum_of (addends_view c.args.added.now)) sum).rising

pub returns-then-branch-clause-stop : goal.returns-then-branch-clause-stop
returns-then-branch-clause-stop c = λ views metrics terms of.
    let many : HasTooMany (sum_of (addends_view c.args.added.now)) = search rules in
    many_is views terms c.args.added.now of many

pub returns-in_default-clause-stop : goal.returns-in_default-clause-stop
returns-in_default-clause-stop c = λ views metrics terms of.
    let few : HasTooMany (sum_of (addends_view c.args.added.now)) → ⊥ = search rules in
    let past : AreSmallFirst c.args.added.now → ⊥ = search rules in
    (few_is views terms c.args.added.now of few, past_is views terms c.args.added.now of past)
