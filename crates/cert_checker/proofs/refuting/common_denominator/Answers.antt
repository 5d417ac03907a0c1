use Rattle.std.proofs.Common.{◌≡◌, ℕ, sym, ap, ◌∙◌, ◌<◌, arith, length, get_or, pos}
use Rattle.std.proofs.lemmas.List.{get_or_default}
use Rattle.problem_core.specs.Layout.{Row}
use Rattle.cert_checker.specs.declared.sums.Weighted.{Weighted}
use Rattle.cert_checker.specs.Required.{id_at, den_at}
use Rattle.problem_core.proofs.GapFacts.Multiples.{least-none, least-more}
use Rattle.cert_checker.proofs.Multiples.{id-at}
use Rattle.cert_checker.proofs.refuting.common_denominator.Goals as goal

none : Weighted
none = record { at = 0; times = pos 0 }

pub loop-line-init : goal.loop-line-init
loop-line-init c = record { least = least-none; small = omega arith }

pub loop-line-preserved : goal.loop-line-preserved
unfolding none
loop-line-preserved c = record {
  least = least-more (λ (w : Weighted). den_at c.args.p.now w.at) c.args.weighted.now c.loop-line.line-index none c.loop-line.common c.least_common-common.result c.loop-line-test.true c.loop-line.invariant.least
      c.least_common-common.ensures.above c.least_common-common.ensures.x (rw c.denominator.ensures.value at c.least_common-common.ensures.y) (λ m. rw c.denominator.ensures.value at (c.least_common-common.ensures.least m));
  small = c.if-common-ge-ROOM.false;
}

pub returns-then-common-ge-ROOM-clause-reached : goal.returns-then-common-ge-ROOM-clause-reached
unfolding none
returns-then-common-ge-ROOM-clause-reached c =
    let row : Row = c.index-rows-line.result in
    let at : ℕ = (get_or c.args.weighted.now c.loop-line.line-index none).at in
    let below : (get_or c.args.weighted.now c.loop-line.line-index none).at < length c.args.p.now.rows = (c.requires c.loop-line.line-index none c.loop-line-test.true).row in
    let id : id_at c.args.p.now (get_or c.args.weighted.now c.loop-line.line-index none).at ≡ c.id.result =
    id-at c.args.p.now (get_or c.args.weighted.now c.loop-line.line-index none).at c.index-rows-line.result below
    ∙ ap (λ (r : Row). r.id) (rw c.rows.ensures at (sym c.index-rows-line.is)) ∙ sym c.id.ensures in (
      c.loop-line.line-index,
      c.loop-line-test.true,
      λ d. ap (λ (w : Weighted). id_at c.args.p.now w.at) (get_or_default c.args.weighted.now c.loop-line.line-index d none c.loop-line-test.true) ∙ id,
      (c.loop-line.common, c.loop-line.invariant.small, c.loop-line.invariant.least),
      (
        c.least_common-common.result,
        c.if-common-ge-ROOM.true,
        least-more (λ (w : Weighted). den_at c.args.p.now w.at) c.args.weighted.now c.loop-line.line-index none c.loop-line.common c.least_common-common.result c.loop-line-test.true c.loop-line.invariant.least
            c.least_common-common.ensures.above c.least_common-common.ensures.x (rw c.denominator.ensures.value at c.least_common-common.ensures.y) (λ m. rw c.denominator.ensures.value at (c.least_common-common.ensures.least m)),
      ),
    )
