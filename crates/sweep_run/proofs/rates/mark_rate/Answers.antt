use Rattle.std.proofs.Common.{rules, ◌≡◌, ◌∙◌, SFits, refl, sym, subst, pos, negsuc}
use Rattle.std.specs.Int.{w64}
use Rattle.std.proofs.lemmas.Int.{to_z-of_z}
use Rattle.problem_core.specs.declared.parts.Mark.{Mark}
use Rattle.problem_core.specs.declared.parts.Side.TheVariants.{Over}
use Rattle.problem_core.specs.declared.stops.What.TheVariants.{Mark as MarkOf}
use Rattle.problem_core.specs.Corners.{IsIn, place}
use Rattle.sweep_run.specs.Ways.{IsBackRate, backwards, own}
use Rattle.sweep_run.proofs.BackRates.{rate_own}
use Rattle.sweep_run.proofs.EndFacts.{end_is_kept}
use Rattle.sweep_run.proofs.rates.mark_rate.Goals as goal

pub returns-then-eq : goal.returns-then-eq
returns-then-eq g c =
    let fits : SFits w64 c.backwards.result = search rules in
    let same : c.args.mark ≡ c.over.result = search rules in
    let over : c.args.mark ≡ own c.args.way.now.row Over = same ∙ c.over.ensures in
    let value : c.backwards.result ≡ backwards c.args.way.now.up (negsuc 0) = c.backwards.ensures.value in
    simp to_z-of_z
    (subst (λ (m : Mark). IsBackRate c.args.c.now.problem c.args.c.now.marks c.args.way.now (MarkOf m) (record { n = c.backwards.result; d = pos 1 })) (sym over)
    (rate_own c.args.c.now.problem c.args.c.now.marks c.args.way.now c.show_corner.ensures.kept c.requires.held.held c.requires.held.constant (end_is_kept c.args.way.now c.args.c.now c.requires.held).lowest.above
    (record { n = c.backwards.result; d = pos 1 }) (subst (λ (m : Mark). IsIn (place m) c.args.c.now.marks) over c.requires.inside) value c.backwards.ensures.fits refl))
