use Rattle.std.proofs.Common.{◌≡◌, ◌<◌, ℕ, List, true, subst, rules}
use Rattle.path_lines.specs.Tables.{line_count}
use Rattle.path_lines.proofs.Exchanges.Leading.{err_then, ok_then}
use Rattle.path_levels.specs.declared.outline.LineFacts.{LineFacts}
use Rattle.path_fits.specs.FirstLines.{IsFirstAt}
use Rattle.path_fits.proofs.last.rows_after.first_line.Goals as goal

pub returns-clause-line : goal.returns-clause-line
returns-clause-line c =
    ok_then c.line_after.result (λ next h first p marks turn lines.
    let within : c.args.at < line_count p = subst (λ (n : ℕ). c.args.at < n) lines.count c.requires.at in
    h p marks turn lines.count within (lines.each c.args.at c.index-corner-at.result within))
    c.line_after.ensures.line

pub returns-clause-unfit : goal.returns-clause-unfit
returns-clause-unfit c =
    let list : c.deref.result.now ≡ c.args.last.tableau.corner.outline.now.lines.items = search rules in
    let up : c.is_first.result ≡ true = search rules in
    let first : IsFirstAt c.args.last.tableau.corner.outline.now.lines.items c.args.firsts c.args.at = subst (λ (fs : List LineFacts). IsFirstAt fs c.args.firsts c.args.at) list (c.is_first.ensures.yes up) in
    err_then c.line_after.result (λ stop h same p marks turn lines.
    let within : c.args.at < line_count p = subst (λ (n : ℕ). c.args.at < n) lines.count c.requires.at in
    record {
      k = c.args.at;
      within = within;
      first = first;
      unfit = h same p marks turn lines.count within (lines.each c.args.at c.index-corner-at.result within);
    })
    c.line_after.ensures.unfit
