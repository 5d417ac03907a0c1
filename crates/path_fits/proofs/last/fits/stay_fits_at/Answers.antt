use Rattle.std.proofs.Common.{◌≡◌, ◌∙◌, ◌+◌, List, length, get_or, sym, ap, subst, refl, arith}
use Rattle.std.proofs.lemmas.List.{get_or_default}
use Rattle.problem_core.specs.declared.parts.Stay.{Stay}
use Rattle.problem_core.specs.Layout.{Row}
use Rattle.problem_core.specs.Corners.{attr_column}
use Rattle.problem_core.specs.Unfit.{HasNoWriting}
use Rattle.path_lines.proofs.Walking.FirstLines.{count_lines}
use Rattle.path_fits.specs.Attrs.{IsStayAt}
use Rattle.path_fits.proofs.LastCorner.AttrsAfter.{line_is, stay_at_place, stay_is_unfit, stay_within}
use Rattle.path_fits.proofs.last.fits.stay_fits_at.Goals as goal

pub bounds-lines-at : goal.bounds-lines-at
bounds-lines-at c =
    let rows : length c.rows.result.now ≡ length c.args.p.now.rows = ap (λ (rs : List Row). length rs) c.rows.ensures in
    omega (arith, rows, c.requires.within, c.requires.count, count_lines c.args.p.now)

read_is : (c : goal.After-stay_fits) → c.index-stays-i.result ≡ get_or c.args.p.now.stays c.args.i c.index-stays-i.result
read_is c = c.index-stays-i.is ∙ ap (λ (ss : List Stay). get_or ss c.args.i c.index-stays-i.result) c.stays.ensures

stay_is : (c : goal.After-stay_fits) → IsStayAt c.args.p.now c.index-stays-i.result.attr (length c.rows.result.now + c.args.i) (get_or c.stays.result.now c.args.i c.index-stays-i.result).target
stay_is c =
    subst (λ (s : Stay). IsStayAt c.args.p.now c.index-stays-i.result.attr (length c.rows.result.now + c.args.i) s.target) c.index-stays-i.is
    (subst (λ (rs : List Row). IsStayAt c.args.p.now c.index-stays-i.result.attr (length rs + c.args.i) c.index-stays-i.result.target) (sym c.rows.ensures)
    (stay_at_place c.args.p.now c.index-stays-i.result.attr c.args.i c.index-stays-i.result.target c.index-stays-i.result c.requires.within (read_is c) refl refl))

pub returns-clause-fits : goal.returns-clause-fits
returns-clause-fits c = λ up s marks there lines none.
    let within = stay_within c.args.p.now c.index-stays-i.result.attr (length c.rows.result.now + c.args.i) _ (stay_is c) in
    let same : get_or c.args.p.now.stays c.args.i s ≡ c.index-stays-i.result = get_or_default c.args.p.now.stays c.args.i s c.index-stays-i.result c.requires.within ∙ sym (read_is c) in
    c.stay_fits.ensures.fits up c.args.p.now marks c.index-stays-i.result.attr (length c.rows.result.now + c.args.i) there (stay_is c)
    (line_is c.args.p.now marks c.args.lines.now (length c.rows.result.now + c.args.i) c.index-lines-at.result lines within c.index-lines-at.is)
    (subst (λ (t : Stay). HasNoWriting c.args.p.now marks (λ x. x (attr_column t.attr))) same none)

pub returns-clause-unfit : goal.returns-clause-unfit
returns-clause-unfit c = λ down marks there lines.
    let within = stay_within c.args.p.now c.index-stays-i.result.attr (length c.rows.result.now + c.args.i) _ (stay_is c) in
    stay_is_unfit c.args.p.now marks c.index-stays-i.result.attr (length c.rows.result.now + c.args.i) _ (stay_is c)
    (c.stay_fits.ensures.unfit down c.args.p.now marks c.index-stays-i.result.attr (length c.rows.result.now + c.args.i) there (stay_is c)
    (line_is c.args.p.now marks c.args.lines.now (length c.rows.result.now + c.args.i) c.index-lines-at.result lines within c.index-lines-at.is))
