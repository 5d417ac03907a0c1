use Rattle.std.proofs.Common.{◌≡◌, ◌+ℤ◌, ◌*ℤ◌, ◌/◌, pos, ap₂, sym, ◌∙◌, SFits, get_or, to_z}
use Rattle.std.specs.Int.{w64, w128}
use Rattle.std.proofs.lemmas.Int.{to_z-of_z}
use Rattle.cert_checker.specs.declared.sums.Weighted.{Weighted}
use Rattle.cert_checker.specs.Required.{den_at, num_at}
use Rattle.cert_checker.proofs.Sizes.{sum-room}
use Rattle.cert_checker.proofs.refuting.constants.Goals as goal
use Rattle.problem_core.proofs.Forms.{sum-more}
use Rattle.frac_core.proofs.Fitting.{fits-word as fits-w64}

none : Weighted
none = record { at = 0; times = pos 0 }

pub loop-line-preserved : goal.loop-line-preserved
unfolding none
loop-line-preserved c =
    let fits : SFits w64 (get_or c.args.weighted.now c.loop-line.line-index none).times = fits-w64 _ (c.requires.rows c.loop-line.line-index none c.loop-line-test.true).1 in
    let numfits : SFits w64 c.numerator.result = record { sfits = c.numerator.type_inv } in
    let scaledfits : SFits w128 c.scaled.result = record { sfits = c.scaled.type_inv } in
    let totalfits : SFits w128 c.total-sum.result = record { sfits = c.total-sum.type_inv } in
    let part : c.scaled.result ≡ (get_or c.args.weighted.now c.loop-line.line-index none).times *ℤ (num_at c.args.p.now (get_or c.args.weighted.now c.loop-line.line-index none).at *ℤ pos (c.args.common / den_at c.args.p.now (get_or c.args.weighted.now c.loop-line.line-index none).at)) =
    rw (← c.numerator.ensures.value, ← c.denominator.ensures.value) (simp (to_z-of_z, fits, numfits) at c.scaled.ensures.value) in
    let value = simp to_z-of_z at c.total-sum.ensures.value in
    record {
      sum = simp to_z-of_z (value ∙ ap₂ ◌+ℤ◌ c.loop-line.invariant.sum part ∙ sym (sum-more (λ (w : Weighted). w.times *ℤ (num_at c.args.p.now w.at *ℤ pos (c.args.common / den_at c.args.p.now w.at))) c.args.weighted.now c.loop-line.line-index none c.loop-line-test.true));
      room = simp to_z-of_z (sum-room (to_z w128 c.loop-line.sum-bits) c.scaled.result c.total-sum.result c.loop-line.line-index c.loop-line.invariant.room c.scaled.ensures.small (simp to_z-of_z at c.total-sum.ensures.small));
    }
