use Rattle.std.proofs.Common.{◌≡◌, ◌*ℤ◌, ◌+ℤ◌, ℕ, SFits, pos, List, get_or, take, take_all, arith, sym, ap, ◌∙◌, unsigned_abs}
use Rattle.std.specs.Int.{w64}
use Rattle.std.proofs.lemmas.Int.{to_z-of_z}
use Rattle.cert_checker.specs.declared.sums.Weighted.{Weighted}
use Rattle.problem_core.specs.Layout.{coefficient, sum_of}
use Rattle.cert_checker.specs.LineSums.{sum_at, form_at}
use Rattle.cert_checker.proofs.Sizes.{room-more}
use Rattle.cert_checker.proofs.Zeros.{sums-zero, values-zero, empty-sums}
use Rattle.cert_checker.proofs.sums.cancel.Goals as goal
use Rattle.problem_core.proofs.Forms.{sum-more}
use Rattle.frac_core.proofs.Fitting.{fits-word as fits-w64}

pub loop-line-init : goal.loop-line-init
loop-line-init c = record {
  sums = λ v. empty-sums c.new-sums.result c.new-sums.ensures.empty v;
  room = λ v. omega (arith, ap unsigned_abs (empty-sums c.new-sums.result c.new-sums.ensures.empty v));
}

pub loop-line-preserved : goal.loop-line-preserved
loop-line-preserved c =
    let none : Weighted = record { at = 0; times = pos 0 } in
    let fits : SFits w64 (get_or c.args.weighted.now c.loop-line.line-index none).times = fits-w64 _ (c.requires.weighted c.loop-line.line-index none c.loop-line-test.true).1 in
    let sums = simp (to_z-of_z, fits) at c.in_ok-add_line.ensures.sums in
    record {
      sums = λ v.
          sums v
          ∙ ap (λ t. t +ℤ (get_or c.args.weighted.now c.loop-line.line-index none).times *ℤ coefficient v (form_at c.args.p.now (get_or c.args.weighted.now c.loop-line.line-index none).at)) (c.loop-line.invariant.sums v)
          ∙ sym (sum-more (λ (w : Weighted). w.times *ℤ coefficient v (form_at c.args.p.now w.at)) c.args.weighted.now c.loop-line.line-index none c.loop-line-test.true);
      room = λ v. room-more (unsigned_abs (sum_at c.loop-line.sums v)) (unsigned_abs (sum_at c.add_line.new.sums v)) 0 c.loop-line.line-index (c.loop-line.invariant.room v) (c.in_ok-add_line.ensures.room v);
    }

pub returns : goal.returns
returns c =
    let whole : take c.loop-line.line-index c.args.weighted.now ≡ c.args.weighted.now = take_all _ _ (omega arith) in
    let sums : (v : ℕ) → sum_at c.loop-line.sums v ≡ sum_of (λ (w : Weighted). w.times *ℤ coefficient v (form_at c.args.p.now w.at)) c.args.weighted.now = λ v.
    c.loop-line.invariant.sums v ∙ ap (λ (ws : List Weighted). sum_of (λ (w : Weighted). w.times *ℤ coefficient v (form_at c.args.p.now w.at)) ws) whole in (
      λ yes v. sym (sums v) ∙ sums-zero c.loop-line.sums (c.are_zero.ensures.all.0 yes) v,
      λ h. c.are_zero.ensures.all.1 (values-zero c.loop-line.sums c.are_zero.ensures.ordered (λ v. sums v ∙ h v)),
    )
