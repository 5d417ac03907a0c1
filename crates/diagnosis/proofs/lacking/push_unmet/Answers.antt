use Rattle.std.proofs.Common.{◌∙◌, ℕ, ◌++◌, ◌∷◌, [], ap, arith}
use Rattle.diagnosis.proofs.UnmetRows.{no_error, own_error, row_rank, some_error, unmet_push, unmet_skip}
use Rattle.diagnosis.proofs.lacking.push_unmet.Goals as goal

pub returns-then-rank-eq-REQUIRED : goal.returns-then-rank-eq-REQUIRED
returns-then-rank-eq-REQUIRED g c rows below are =
    let a = c.if-rank-eq-REQUIRED.true in
    let b = c.rank.ensures in
    unmet_skip rows c.args.e.now.values c.args.out.now.items c.args.row.now (λ low. absurd (omega (arith, low, a, b))) are

pub returns-in_ok-push : goal.returns-in_ok-push
returns-in_ok-push g c rows below are =
    let a = c.if-rank-eq-REQUIRED.false in
    let b = c.rank.ensures in
    unmet_push rows c.args.e.now.values c.args.out.now.items c.push.new.self.items c.args.row.now c.in-Some.error below
    (row_rank c.args.e.now.problem c.args.row.now c.show_layout.ensures.whole c.requires.held (λ same. absurd (omega (arith, a, b, same))))
    (own_error c.args.e.now.problem.rows c.args.e.now.values c.args.row.now c.id.result c.in-Some.error c.show_layout.ensures.whole.rising c.requires.held c.id.ensures c.in-Some.ensures.some)
    c.in-Some.ensures.lowest
    (some_error c.in-Some.error c.of.result c.in-Some.ensures.lowest c.of.ensures.lowest c.of.ensures.value (c.is_same.ensures.no c.if-not-is_same.true))
    (c.in_ok-push.ensures.items ∙ ap (λ (n : ℕ). c.args.out.now.items ++ (n, c.in-Some.error) ∷ []) c.id-then-not-is_same.ensures)
    are

pub returns-else-not-is_same : goal.returns-else-not-is_same
returns-else-not-is_same g c rows below are =
    unmet_skip rows c.args.e.now.values c.args.out.now.items c.args.row.now
    (λ low.
    no_error c.args.e.now.values c.args.row.now c.in-Some.error c.of.result
    (own_error c.args.e.now.problem.rows c.args.e.now.values c.args.row.now c.id.result c.in-Some.error c.show_layout.ensures.whole.rising c.requires.held c.id.ensures c.in-Some.ensures.some)
    (c.is_same.ensures.yes c.if-not-is_same.false) c.of.ensures.lowest c.of.ensures.value)
    are
