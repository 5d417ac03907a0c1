use Rattle.std.proofs.Common.{◌≡◌, ◌*ℤ◌, ◌++◌, [], ◌∷◌, ℤ, pos, arith, map, subst, SFits, rules, ◌∙◌, to_z, of_z}
use Rattle.std.specs.Prelude.{slice_index_or}
use Rattle.std.specs.Int.{w128}
use Rattle.std.proofs.lemmas.Int.{to_z-of_z}
use Rattle.std.proofs.lemmas.List.{take_all}
use Rattle.std.proofs.lemmas.List.Elements.{All-push}
use Rattle.frac_core.specs.Fraction.{IsFitting}
use Rattle.path_lines.proofs.Arithmetic.LowestTerms.{quotients_more}
use Rattle.path_lines.proofs.numbers.quotients.Goals as goal

pub fitting_quotient-requires-clause-divides : goal.fitting_quotient-requires-clause-divides
fitting_quotient-requires-clause-divides c =
    let divisor : SFits w128 c.args.divisor = c.ranges.divisor in
    let number : SFits w128 (slice_index_or c.args.numbers.now c.loop-number.number-index (pos 0)) = search rules in
    simp to_z-of_z (c.requires.divides c.loop-number.number-index (pos 0) c.loop-number-test.true)

pub loop-number-preserved : goal.loop-number-preserved
loop-number-preserved c =
    let fits : SFits w128 (slice_index_or c.args.numbers.now c.loop-number.number-index (pos 0)) = search rules in
    let number : to_z w128 (of_z w128 (slice_index_or c.args.numbers.now c.loop-number.number-index (pos 0))) ≡ slice_index_or c.args.numbers.now c.loop-number.number-index (pos 0) =
    to_z-of_z w128 (slice_index_or c.args.numbers.now c.loop-number.number-index (pos 0)) fits in
    let here : to_z w128 (of_z w128 c.args.divisor) *ℤ c.in-Some.part ≡ slice_index_or c.args.numbers.now c.loop-number.number-index (pos 0) = rw number at c.in-Some.ensures.same in
    let pushed : c.push.new.self.items ≡ c.loop-number.out.items ++ c.in-Some.part ∷ [] = search rules in
    record {
      same = rw pushed (quotients_more (to_z w128 (of_z w128 c.args.divisor)) c.loop-number.out.items c.args.numbers.now c.in-Some.part c.loop-number.number-index c.loop-number-test.true c.loop-number.invariant.same here);
      fits = rw pushed (All-push IsFitting c.loop-number.out.items c.in-Some.part c.loop-number.invariant.fits c.in-Some.ensures.fits);
    }

pub returns-clause-same : goal.returns-clause-same
returns-clause-same c =
    let divisor : to_z w128 (of_z w128 c.args.divisor) ≡ c.args.divisor = to_z-of_z w128 c.args.divisor c.ranges.divisor in
    subst (λ (g : ℤ). map (λ z. g *ℤ z) c.loop-number.out.items ≡ c.args.numbers.now) divisor
    (c.loop-number.invariant.same ∙ take_all c.loop-number.number-index c.args.numbers.now (omega (arith, c.loop-number-test.false)))
