use Rattle.std.proofs.Common.{◌≡◌, ◌≢◌, ◌∙◌, rules, length, sym, subst, false, true}
use Rattle.path_lines.proofs.Iffs.{right_then, wrong_then}
use Rattle.path_fits.specs.declared.last.Fit.TheVariants.{Fits, NoRoom}
use Rattle.path_claims.specs.Orders.{IsFitBefore}
use Rattle.path_claims.proofs.Beginning.StartVerdicts.{dual_has_no_room, judged_within, last_fit, primal_has_no_room, until_fits, until_unfit, until_unsound}
use Rattle.path_claims.proofs.start.verdict_until.Goals as goal

pub returns-then-dual : goal.returns-then-dual
returns-then-dual c = dual_has_no_room c.args.p.now c.args.path.now c.args.named c.args.unfit c.args.lines.now (sym c.dual.ensures ∙ c.if-dual.true) c.requires.start c.requires.begun

pub returns-then-eq : goal.returns-then-eq
returns-then-eq c =
    let none : c.fit_before-fit.result ≡ NoRoom = search rules in
    primal_has_no_room c.args.p.now c.args.path.now c.args.named c.args.unfit c.args.lines.now (sym c.dual.ensures ∙ c.if-dual.false) c.requires.start c.requires.begun
    (subst (IsFitBefore c.args.p.now c.args.named c.args.unfit) none c.fit_before-fit.ensures)

pub are_up-requires : goal.are_up-requires
are_up-requires c =
    let some : c.fit_before-fit.result ≢ NoRoom = search rules in
    judged_within c.args.p.now c.args.named c.args.unfit c.fit_before-fit.result (length c.args.lines.now) c.judged_rows.result c.fit_before-fit.ensures some c.requires.begun.reaches c.judged_rows.ensures

pub returns-then-not-are_up : goal.returns-then-not-are_up
returns-then-not-are_up c =
    let down : c.are_up.result ≡ false = search rules in
    let some : c.fit_before-fit.result ≢ NoRoom = search rules in
    until_unsound c.args.p.now c.args.path.now c.args.named c.judged_rows.result c.args.lines.now (sym c.dual.ensures ∙ c.if-dual.false) c.show_whole.ensures c.requires.start c.requires.begun.lines_are
    (judged_within c.args.p.now c.args.named c.args.unfit c.fit_before-fit.result (length c.args.lines.now) c.judged_rows.result c.fit_before-fit.ensures some c.requires.begun.reaches c.judged_rows.ensures) c.judged_rows.ensures
    (wrong_then c.are_up.result down (c.are_up.ensures c.args.p.now c.show_whole.ensures c.requires.begun.lines_are))

pub returns-then-eq-2 : goal.returns-then-eq-2
returns-then-eq-2 c =
    let up : c.are_up.result ≡ true = search rules in
    let some : c.fit_before-fit.result ≢ NoRoom = search rules in
    let fits : c.fit_before-fit.result ≡ Fits = search rules in
    until_fits c.args.p.now c.args.path.now c.args.named c.args.unfit c.judged_rows.result c.args.lines.now (sym c.dual.ensures ∙ c.if-dual.false) c.show_whole.ensures c.requires.start c.requires.begun
    (judged_within c.args.p.now c.args.named c.args.unfit c.fit_before-fit.result (length c.args.lines.now) c.judged_rows.result c.fit_before-fit.ensures some c.requires.begun.reaches c.judged_rows.ensures) c.judged_rows.ensures
    (right_then c.are_up.result up (c.are_up.ensures c.args.p.now c.show_whole.ensures c.requires.begun.lines_are)) (subst (IsFitBefore c.args.p.now c.args.named c.args.unfit) fits c.fit_before-fit.ensures)

pub returns : goal.returns
returns c =
    let up : c.are_up.result ≡ true = search rules in
    let some : c.fit_before-fit.result ≢ NoRoom = search rules in
    let other : c.fit_before-fit.result ≢ Fits = search rules in
    until_unfit c.args.p.now c.args.path.now c.args.named c.args.unfit c.judged_rows.result c.args.lines.now (sym c.dual.ensures ∙ c.if-dual.false) c.show_whole.ensures c.requires.start c.requires.begun
    (judged_within c.args.p.now c.args.named c.args.unfit c.fit_before-fit.result (length c.args.lines.now) c.judged_rows.result c.fit_before-fit.ensures some c.requires.begun.reaches c.judged_rows.ensures) c.judged_rows.ensures
    (right_then c.are_up.result up (c.are_up.ensures c.args.p.now c.show_whole.ensures c.requires.begun.lines_are)) (last_fit c.args.p.now c.args.named c.args.unfit c.fit_before-fit.result c.fit_before-fit.ensures some other)
