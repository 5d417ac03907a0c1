use Rattle.std.proofs.Common.{◌≡◌, ◌∙◌, ℕ, ℤ, Bool, ◌||◌, ◌<◌, nat_eq, nat_abs, get_or, length, pos, SFits, arith, None, false, List, ◌&&◌, subst, take_all}
use Rattle.std.specs.Int.{w64}
use Rattle.std.proofs.lemmas.Int.{to_z-of_z}
use Rattle.std.proofs.lemmas.List.{get_or_default, length-set}
use Rattle.problem_core.specs.declared.parts.Side.TheVariants.{Under, Over}
use Rattle.cert_checker.specs.declared.sums.Weighted.{Weighted}
use Rattle.cert_checker.specs.declared.fronts.Sides.{Sides}
use Rattle.cert_checker.specs.Fronts.{AreFronts, HasFronts, names_line, reduced}
use Rattle.cert_checker.proofs.Certificates.FrontLoops.{fronts-step, fronts-start}
use Rattle.cert_checker.proofs.fronts.enter_lines.Goals as goal
use Rattle.frac_core.proofs.Fitting.{fits-word as fits-w64}

none : Weighted
none = record { at = 0; times = pos 0 }

no_sides : Sides
no_sides = record { under = None; over = None; own = false }

pub loop-line-init : goal.loop-line-init
loop-line-init c = record { count = c.requires.count; fronts = λ m seen are fronts. fronts-start c.args.p.now m seen c.args.sides.now c.args.level fronts }

pub loop-line-preserved : goal.loop-line-preserved
unfolding none no_sides
loop-line-preserved c =
    let at : ℕ = (get_or c.args.weighted.now c.loop-line.line-index none).at in
    let fact = c.requires.below c.loop-line.line-index none c.loop-line-test.true in
    let times_fits : SFits w64 (get_or c.args.weighted.now c.loop-line.line-index none).times = fits-w64 _ fact.1 in
    let below : (get_or c.args.weighted.now c.loop-line.line-index none).at < length c.loop-line.sides = omega (arith, fact.0, c.loop-line.invariant.count) in
    let old : Sides = get_or c.loop-line.sides (get_or c.args.weighted.now c.loop-line.line-index none).at no_sides in
    let is : get_or c.loop-line.sides (get_or c.args.weighted.now c.loop-line.line-index none).at no_sides ≡ get_or c.loop-line.sides (get_or c.args.weighted.now c.loop-line.line-index none).at (get_or c.loop-line.sides (get_or c.args.weighted.now c.loop-line.line-index none).at no_sides) =
    get_or_default c.loop-line.sides (get_or c.args.weighted.now c.loop-line.line-index none).at no_sides _ below in
    let enter : (f g : ℕ → ℤ) (s : ℕ → Bool) → f c.args.level ≡ reduced c.facts_of-facts.result Under c.args.level (nat_abs c.args.scale) (get_or c.args.weighted.now c.loop-line.line-index none).times → g c.args.level ≡ reduced c.facts_of-facts.result Over c.args.level (nat_abs c.args.scale) (get_or c.args.weighted.now c.loop-line.line-index none).times
    → HasFronts f g s c.facts_of-facts.result.own (get_or c.loop-line.sides (get_or c.args.weighted.now c.loop-line.line-index none).at no_sides) → HasFronts f g (λ k. s k || nat_eq k c.args.level) c.facts_of-facts.result.own c.enter.result =
    simp (to_z-of_z, c.ranges.scale, times_fits) at c.enter.ensures in
    record {
      count = length-set c.loop-line.sides _ c.enter.result ∙ c.loop-line.invariant.count;
      fronts = λ m seen are fronts.
          let are_of = simp (to_z-of_z, c.ranges.scale) at are in
          fronts-step c.args.p.now m seen c.loop-line.sides c.args.weighted.now c.loop-line.line-index none c.args.level c.args.scale c.facts_of-facts.result (get_or c.loop-line.sides (get_or c.args.weighted.now c.loop-line.line-index none).at no_sides) c.enter.result
          c.loop-line-test.true are_of c.facts_of-facts.ensures fact.0 is enter (c.loop-line.invariant.fronts m seen are fronts);
    }

pub returns : goal.returns
returns c = λ m seen are fronts.
    subst (λ (ws : List Weighted). AreFronts c.args.p.now m (λ at k. seen at k || (names_line at ws && nat_eq k c.args.level)) c.loop-line.sides) (take_all c.loop-line.line-index c.args.weighted.now c.loop-line-test.false)
    (c.loop-line.invariant.fronts m seen (simp (to_z-of_z, c.ranges.scale) are) fronts)
