use Rattle.std.proofs.Common.{◌≡◌, ◌≢◌, ◌∙◌, AllPairs, ◌++◌, ◌+◌, List, Option, take, drop, length, ap, subst, sym}
use Rattle.std.proofs.lemmas.List.{take_more}
use Rattle.problem_core.specs.declared.parts.Side.{Side}
use Rattle.problem_core.specs.declared.parts.Mark.{Mark}
use Rattle.problem_core.specs.Corners.{IsCorner, place}
use Rattle.path_claims.proofs.MarkSides.TakenMarks.{apart_more}
use Rattle.path_lines.specs.Tables.{AreSides}
use Rattle.path_lines.proofs.MarkSides.Walks.{settled, split_there}
use Rattle.path_claims.proofs.route.sides_of.Goals as goal

pub returns-then-not-take_mark-clause-none : goal.returns-then-not-take_mark-clause-none
returns-then-not-take_mark-clause-none c = λ p whole same corner.
    c.take_mark.ensures.refused c.if-not-take_mark.true p (take c.loop-mark.mark-index c.args.marks.now) (drop (c.loop-mark.mark-index + 1) c.args.marks.now) whole same
    (subst (λ (s : List (Option Side)). AreSides p (take c.loop-mark.mark-index c.args.marks.now) s) (sym c.deref_mut.ensures.value) (c.loop-mark.invariant.taken p whole same))
    (subst (λ (ms : List Mark). IsCorner p ms) (split_there c.args.marks.now c.loop-mark.mark-index _ c.loop-mark-test.true) corner)

pub loop-mark-preserved : goal.loop-mark-preserved
loop-mark-preserved c =
    let long : length c.take_mark.new.sides ≡ c.loop-mark.sides.len = c.take_mark.ensures.count ∙ c.deref_mut.ensures.len in
    let all : take c.loop-mark.sides.len (c.take_mark.new.sides ++ drop (length c.take_mark.new.sides) c.loop-mark.sides.items) ≡ c.take_mark.new.sides = settled c.loop-mark.sides.len c.take_mark.new.sides c.loop-mark.sides.items long in
    rw all (record {
      count = c.take_mark.ensures.count ∙ ap (λ (z : List (Option Side)). length z) c.deref_mut.ensures.value ∙ c.loop-mark.invariant.count;
      taken = λ p whole same.
          subst (λ (ms : List Mark). AreSides p ms c.take_mark.new.sides) (sym (take_more c.args.marks.now c.loop-mark.mark-index _ c.loop-mark-test.true))
          (c.take_mark.ensures.taken c.if-not-take_mark.false p (take c.loop-mark.mark-index c.args.marks.now) whole same
          (subst (λ (s : List (Option Side)). AreSides p (take c.loop-mark.mark-index c.args.marks.now) s) (sym c.deref_mut.ensures.value) (c.loop-mark.invariant.taken p whole same)));
      apart = λ p whole same.
          subst (λ (ms : List Mark). AllPairs (λ m n. place m ≢ place n) ms) (sym (take_more c.args.marks.now c.loop-mark.mark-index _ c.loop-mark-test.true))
          (apart_more (take c.loop-mark.mark-index c.args.marks.now) _ (c.loop-mark.invariant.apart p whole same)
          (c.take_mark.ensures.fresh c.if-not-take_mark.false p (take c.loop-mark.mark-index c.args.marks.now) whole same
          (subst (λ (s : List (Option Side)). AreSides p (take c.loop-mark.mark-index c.args.marks.now) s) (sym c.deref_mut.ensures.value) (c.loop-mark.invariant.taken p whole same))));
    })
