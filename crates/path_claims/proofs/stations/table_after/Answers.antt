use Rattle.std.proofs.Common.{◌∙◌, List, length, sym, ap, subst, rules, Option}
use Rattle.std.proofs.lemmas.Result.{err_from_is_err_and}
use Rattle.path_lines.specs.declared.table.Inside.{Inside}
use Rattle.path_lines.specs.Tables.{AreLines}
use Rattle.path_levels.specs.Rows.{AreKept}
use Rattle.path_claims.proofs.StationTables.{attrs_lead_unfit, outline_long, leads_to_table, levels_lead_unfit, lines_lead_unfit}
use Rattle.path_claims.proofs.stations.table_after.Goals as goal

pub attrs_fit-requires : goal.attrs_fit-requires
attrs_fit-requires c =
    ap (λ (zs : List (Option Inside)). length zs) c.deref-2.ensures.value ∙ c.in_ok-lines.ensures.count ∙ c.requires.table.count ∙ outline_long c.args.p.now c.args.outline.now c.requires.outline

pub returns-in_err-levels-clause-unfit : goal.returns-in_err-levels-clause-unfit
returns-in_err-levels-clause-unfit c =
    let exit = err_from_is_err_and c.from_residual.result c.from_residual.ensures.1 in
    rw (exit.1, exit.2) (λ same. levels_lead_unfit c.args.p.now c.args.outline.now c.args.table c.args.step (λ at kept levels ex.
    c.in_err-levels.ensures.unfit same c.args.p.now at (subst (AreKept c.args.p.now at c.args.outline.now) (sym c.deref.ensures.value) kept) levels ex))

pub returns-in_err-lines-clause-unfit : goal.returns-in_err-lines-clause-unfit
returns-in_err-lines-clause-unfit c =
    let exit = err_from_is_err_and c.from_residual-in_err-lines.result c.from_residual-in_err-lines.ensures.1 in
    rw (exit.1, exit.2) (λ same. lines_lead_unfit c.args.p.now c.args.outline.now c.args.table c.args.step (c.in_err-lines.ensures.unfit same))

pub returns-clause-next : goal.returns-clause-next
returns-clause-next c =
    leads_to_table c.args.p.now c.args.outline.now c.args.table (record { lines = c.in_ok-lines.lines; levels = c.in_ok-levels.levels }) c.args.step c.in_ok-lines.ensures.next
    (λ at there are. c.attrs_fit.ensures.fits (search rules) at there (subst (AreLines c.args.p.now at) (sym c.deref-2.ensures.value) are))
    (λ at kept levels ex. c.in_ok-levels.ensures.next c.args.p.now at (subst (AreKept c.args.p.now at c.args.outline.now) (sym c.deref.ensures.value) kept) levels ex)

pub returns-then-not-attrs_fit-clause-unfit : goal.returns-then-not-attrs_fit-clause-unfit
returns-then-not-attrs_fit-clause-unfit c = λ same.
    attrs_lead_unfit c.args.p.now c.args.outline.now c.args.table c.args.step c.in_ok-lines.lines.items c.in_ok-lines.ensures.next (λ at there are. c.attrs_fit.ensures.unfit (search rules) at there (subst (AreLines c.args.p.now at) (sym c.deref-2.ensures.value) are))
