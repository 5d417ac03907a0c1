use Rattle.std.proofs.Common.{◌≡◌, ◌+ℤ◌, ◌*ℤ◌, ◌<◌, ◌^◌, pos, ap₂, sym, ◌∙◌, SFits, get_or, to_z, unsigned_abs, rules}
use Rattle.std.specs.Int.{w64, w128}
use Rattle.std.proofs.lemmas.Int.{to_z-of_z}
use Rattle.std.proofs.lemmas.List.Elements.{All-more}
use Rattle.problem_core.specs.declared.parts.Term.{Term}
use Rattle.problem_core.specs.Gaps.{value_of, times_common}
use Rattle.problem_core.proofs.Forms.{sum-more}
use Rattle.problem_core.proofs.GapFacts.Amounts.{small-fits, sum-room}
use Rattle.problem_core.proofs.gaps.sum_over.Goals as goal

none : Term
none = record { attr = 0; by = pos 0 }

pub loop-term-preserved : goal.loop-term-preserved
unfolding none
loop-term-preserved c =
    let by_fits : SFits w64 (get_or c.args.terms.now c.loop-term.term-index none).by = small-fits _ (c.requires.terms c.loop-term.term-index none c.loop-term-test.true) in
    let scaled_fits : SFits w64 c.in_ok-scaled.scaled = search rules in
    let product_fits : SFits w128 c.product.result = record { sfits = c.product.type_inv } in
    let total_fits : SFits w128 c.total-sum.result = record { sfits = c.total-sum.type_inv } in
    let scaled : c.in_ok-scaled.scaled ≡ times_common (value_of c.args.values.now (get_or c.args.terms.now c.loop-term.term-index none).attr) c.args.common = rw c.value.ensures at c.in_ok-scaled.ensures.value in
    let part : c.product.result ≡ (get_or c.args.terms.now c.loop-term.term-index none).by *ℤ times_common (value_of c.args.values.now (get_or c.args.terms.now c.loop-term.term-index none).attr) c.args.common =
    rw scaled at (simp (to_z-of_z, by_fits, scaled_fits) at c.product.ensures.value) in
    let value = simp to_z-of_z at c.total-sum.ensures.value in
    let small = rw scaled at c.in_ok-scaled.ensures.small in
    record {
      sum = simp to_z-of_z (value ∙ ap₂ ◌+ℤ◌ c.loop-term.invariant.sum part ∙ sym (sum-more (λ (t : Term). t.by *ℤ times_common (value_of c.args.values.now t.attr) c.args.common) c.args.terms.now c.loop-term.term-index none c.loop-term-test.true));
      size = simp to_z-of_z (sum-room (unsigned_abs (to_z w128 c.loop-term.sum-bits)) (unsigned_abs c.product.result) (unsigned_abs c.total-sum.result) c.loop-term.term-index c.loop-term.invariant.size c.product.ensures.small (simp to_z-of_z at c.total-sum.ensures.small));
      room = All-more (λ (t : Term). unsigned_abs (times_common (value_of c.args.values.now t.attr) c.args.common) < 2 ^ 62) c.args.terms.now c.loop-term.term-index none c.loop-term-test.true c.loop-term.invariant.room small;
    }
