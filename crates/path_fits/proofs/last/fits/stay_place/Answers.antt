use Rattle.std.proofs.Common.{◌≡◌, ◌∙◌, ◌+◌, ◌<◌, List, length, get_or, sym, ap, subst, refl}
use Rattle.problem_core.specs.declared.parts.Stay.{Stay}
use Rattle.problem_core.specs.Layout.{Row}
use Rattle.path_fits.specs.Attrs.{IsStayAt}
use Rattle.path_fits.proofs.LastCorner.AttrsAfter.{stay_at_place}
use Rattle.path_fits.proofs.last.fits.stay_place.Goals as goal

pub returns-clause-some : goal.returns-clause-some
returns-clause-some c =
    let is : c.index-stays-i.result ≡ get_or c.args.p.now.stays c.in_ok-i.i c.index-stays-i.result = c.index-stays-i.is ∙ ap (λ (ss : List Stay). get_or ss c.in_ok-i.i c.index-stays-i.result) c.stays-2.ensures in
    let attr_is = ap (λ (s : Stay). s.attr) (c.index-stays-i.is ∙ ap (λ (ss : List Stay). get_or ss c.in_ok-i.i c.index-stays-i.result) (c.stays-2.ensures ∙ sym c.stays.ensures)) ∙ c.in_ok-i.ensures.found c.index-stays-i.result in
    let stay : IsStayAt c.args.p.now c.args.attr (length c.rows.result.now + c.in_ok-i.i) c.index-stays-i.result.target =
    subst (λ (rs : List Row). IsStayAt c.args.p.now c.args.attr (length rs + c.in_ok-i.i) c.index-stays-i.result.target) (sym c.rows.ensures)
    (stay_at_place c.args.p.now c.args.attr c.in_ok-i.i c.index-stays-i.result.target c.index-stays-i.result (subst (λ (ss : List Stay). c.in_ok-i.i < length ss) c.stays.ensures c.in_ok-i.ensures.within) is attr_is refl) in
    subst (λ (s : Stay). IsStayAt c.args.p.now c.args.attr (length c.rows.result.now + c.in_ok-i.i) s.target) c.index-stays-i.is stay
