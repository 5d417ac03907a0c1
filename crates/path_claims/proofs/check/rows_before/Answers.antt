use Rattle.std.proofs.Common.{◌≡◌, ◌∙◌, length, get_or, refl, ap, arith, List}
use Rattle.std.proofs.lemmas.List.{get_or_default}
use Rattle.problem_core.specs.Layout.{Row}
use Rattle.path_claims.proofs.LastSteps.{rows_judged}
use Rattle.path_claims.proofs.check.rows_before.Goals as goal

pub returns-then-id : goal.returns-then-id
returns-then-id c =
    let count : length c.rows-rows.result.now ≡ length c.args.p.now.rows = ap (λ (rs : List Row). length rs) c.rows-rows.ensures in
    let here : c.index-rows-at.result ≡ get_or c.args.p.now.rows c.loop-at.at c.index-rows-at.result = c.index-rows-at.is ∙ ap (λ (rs : List Row). get_or rs c.loop-at.at c.index-rows-at.result) c.rows-rows.ensures in
    rows_judged c.args.p.now c.args.p.now.rows c.args.id c.loop-at.at c.show_whole.ensures refl (omega (arith, count, c.loop-at-test.true)) c.loop-at.invariant
    (λ r within.
    let same : c.index-rows-at.result.id ≡ (get_or c.args.p.now.rows c.loop-at.at r).id = ap (λ (s : Row). s.id) (here ∙ get_or_default c.args.p.now.rows c.loop-at.at c.index-rows-at.result r within) in
    omega (arith, same, c.id.ensures, c.if-id.true))

pub returns : goal.returns
returns c =
    let count : length c.rows-rows.result.now ≡ length c.args.p.now.rows = ap (λ (rs : List Row). length rs) c.rows-rows.ensures in
    rows_judged c.args.p.now c.args.p.now.rows c.args.id (length c.rows-rows.result.now) c.show_whole.ensures refl (omega (arith, count)) (λ k r less. c.loop-at.invariant k r (omega (arith, less, c.loop-at-test.false)))
    (λ r within. absurd (omega (arith, within, count)))
