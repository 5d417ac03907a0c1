use Rattle.std.proofs.Common.{◌≡◌, ◌≢◌, refl, inl, inr, rules, subst, sym}
use Rattle.std.proofs.lemmas.List.Elements.{All-push}
use Rattle.frac_core.specs.Fraction.{IsKept}
use Rattle.constraint_compile.specs.Compiled.{IsFittingSum}
use Rattle.compile_parts.specs.Fractions.{plus, negated}
use Rattle.layout_solver.specs.declared.engine.Change.{Change}
use Rattle.layout_solver.specs.Shifts.{AreKept}
use Rattle.held_items.proofs.Constants.NearMoves.{held-moved, held-still}
use Rattle.held_items.proofs.item.moving.push_change.Goals as goal

pub returns-in_ok-push-clause-near : goal.returns-in_ok-push-clause-near
returns-in_ok-push-clause-near c = λ yes.
    let other : c.index-rows-place.result.constant ≢ c.args.constant.now.constant = search rules in
    let near : IsFittingSum (plus c.args.constant.now.constant (negated c.index-rows-place.result.constant)) = search rules in
    inr (held-moved c.args.rows.now c.in-Some.place c.index-rows-place.result c.args.constant.now c.requires c.in-Some.ensures.within c.index-rows-place.is c.in-Some.ensures.found other near, c.in_ok-push.ensures.items)

pub returns-in_ok-push-clause-kept : goal.returns-in_ok-push-clause-kept
returns-in_ok-push-clause-kept c = λ kept.
    subst AreKept (sym c.in_ok-push.ensures.items) (All-push (λ (t : Change). IsKept t.constant) c.args.to.now.items (record { row = c.args.constant.now.row; constant = c.args.constant.now.constant }) kept c.num-num.ensures.kept)

pub returns-else-ne-clause-near : goal.returns-else-ne-clause-near
returns-else-ne-clause-near c = λ yes.
    let same : c.index-rows-place.result.constant ≡ c.args.constant.now.constant = search rules in
    inl (held-still c.args.rows.now c.in-Some.place c.index-rows-place.result c.args.constant.now c.requires c.in-Some.ensures.within c.index-rows-place.is c.in-Some.ensures.found same, refl)
