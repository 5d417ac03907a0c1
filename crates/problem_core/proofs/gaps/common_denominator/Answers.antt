use Rattle.std.proofs.Common.{ap, ◌∙◌, ◌+◌, arith, pos, take}
use Rattle.std.specs.Int.{◌∣◌}
use Rattle.std.proofs.lemmas.List.Elements.{All-take, All-map}
use Rattle.std.proofs.lemmas.Nat.Gcd.{le_of_dvd}
use Rattle.problem_core.specs.declared.parts.Term.{Term}
use Rattle.problem_core.specs.Common.{IsLeastCommon}
use Rattle.problem_core.specs.Gaps.{value_dens, value_of}
use Rattle.problem_core.proofs.GapFacts.Multiples.{least-none, least-more}
use Rattle.problem_core.proofs.gaps.common_denominator.Goals as goal

none : Term
none = record { attr = 0; by = pos 0 }

pub loop-term-init : goal.loop-term-init
loop-term-init c = record { least = least-none; small = omega arith }

pub loop-term-preserved : goal.loop-term-preserved
unfolding none
loop-term-preserved c =
    let den = c.denominator.ensures.value ∙ ap (λ f. f.den) c.value.ensures in
    record {
      least = least-more (λ (t : Term). (value_of c.args.values.now t.attr).den) c.args.terms.now c.loop-term.term-index none c.loop-term.common c.least_common-common.result c.loop-term-test.true c.loop-term.invariant.least
          c.least_common-common.ensures.above c.least_common-common.ensures.x (rw den at c.least_common-common.ensures.y) (λ m. rw den at (c.least_common-common.ensures.least m));
      small = c.if-common-ge-GAP_ROOM.false;
    }

pub returns-then-common-ge-GAP_ROOM-clause-none : goal.returns-then-common-ge-GAP_ROOM-clause-none
unfolding none
returns-then-common-ge-GAP_ROOM-clause-none c =
    let den = c.denominator.ensures.value ∙ ap (λ f. f.den) c.value.ensures in
    let least : IsLeastCommon (value_dens c.args.values.now (take (c.loop-term.term-index + 1) c.args.terms.now)) c.least_common-common.result =
    least-more (λ (t : Term). (value_of c.args.values.now t.attr).den) c.args.terms.now c.loop-term.term-index none c.loop-term.common c.least_common-common.result c.loop-term-test.true c.loop-term.invariant.least
    c.least_common-common.ensures.above c.least_common-common.ensures.x (rw den at c.least_common-common.ensures.y) (λ m. rw den at (c.least_common-common.ensures.least m)) in (
      c.least_common-common.result,
      c.if-common-ge-GAP_ROOM.true,
      λ m some all. le_of_dvd some
          (least.least m (All-map (λ x. x ∣ m) (λ (t : Term). (value_of c.args.values.now t.attr).den) (take (c.loop-term.term-index + 1) c.args.terms.now) (All-take (λ (t : Term). (value_of c.args.values.now t.attr).den ∣ m) (c.loop-term.term-index + 1) c.args.terms.now all))),
    )
