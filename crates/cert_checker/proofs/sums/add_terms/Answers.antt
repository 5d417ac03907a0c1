use Rattle.std.proofs.Common.{◌≡◌, ◌*ℤ◌, get_or, SFits, pos, arith}
use Rattle.std.specs.Int.{w64, w128}
use Rattle.std.proofs.lemmas.Int.{to_z-of_z, fits_signed_from_abs}
use Rattle.problem_core.specs.declared.parts.Term.{Term}
use Rattle.cert_checker.specs.LineSums.{IsAdded}
use Rattle.cert_checker.proofs.Adding.{added-more, grown-more}
use Rattle.cert_checker.proofs.sums.add_terms.Goals as goal

pub loop-term-preserved : goal.loop-term-preserved
loop-term-preserved c =
    let none : Term = record { attr = 0; by = pos 0 } in
    let small = c.requires.terms c.loop-term.term-index none c.loop-term-test.true in
    let fits : SFits w64 (get_or c.args.terms.now c.loop-term.term-index none).by = fits_signed_from_abs w64 _ (omega (arith, small)) in
    let product : c.product.result ≡ c.args.times *ℤ (get_or c.args.terms.now c.loop-term.term-index none).by = simp (to_z-of_z, c.ranges.times, fits) at c.product.ensures.value in
    let whole : SFits w128 c.product.result = record { sfits = c.product.type_inv } in
    let added : IsAdded c.loop-term.sums c.add.new.sums (get_or c.args.terms.now c.loop-term.term-index none).attr c.product.result = simp to_z-of_z at c.in_ok-add.ensures in
    record {
      sums = λ v. simp (to_z-of_z, c.ranges.times) (added-more c.loop-term.sums c.add.new.sums c.args.sums.now c.args.terms.now c.loop-term.term-index none c.args.times c.product.result c.loop-term-test.true product added v (simp (to_z-of_z, c.ranges.times) at (c.loop-term.invariant.sums v)));
      room = λ v. grown-more c.loop-term.sums c.add.new.sums (get_or c.args.terms.now c.loop-term.term-index none).attr c.product.result _ c.loop-term.term-index v added c.product.ensures.small (c.loop-term.invariant.room v);
    }
