use Rattle.std.proofs.Common.{rules, SFits, to_z, of_z, ◌≡◌, ◌∙◌, ◌<ℤ◌, ◌*ℤ◌, ℤ, pos, negsuc, neg_ℤ, sym, ap₂, subst}
use Rattle.std.specs.Int.{w64}
use Rattle.std.proofs.lemmas.Int.{to_z-of_z}
use Rattle.frac_core.specs.Fraction.{IsFitting}
use Rattle.corner_lines.specs.LineEquations.{sign_of}
use Rattle.corner_exchange.specs.Swaps.Exchanges.{IsPivotStop}
use Rattle.corner_exchange.specs.Swaps.LevelChanges.{IsLevelValue, entering_at}
use Rattle.corner_table.specs.Tables.{lists_of, priority_at}
use Rattle.corner_table.specs.Kept.{level_own}
use Rattle.corner_writings.proofs.LevelFacts.LevelReadFacts.{fitting_cost}
use Rattle.corner_exchange.proofs.LevelFacts.LevelWords.{product_fits, product_is}
use Rattle.corner_exchange.proofs.Pivots.LevelCosts.{minus_sign, scale_above, scale_fits, unfit_of, value_of, value_stop}
use Rattle.corner_exchange.proofs.exchange.level_value.Goals as goal
use Rattle.frac_core.proofs.Results.{ok_implies, err_implies as err_all}

pub overflow_mul-own_of_level : goal.overflow_mul-own_of_level
overflow_mul-own_of_level c =
    let t = lists_of c.args.table.now in
    let own : SFits w64 c.own_of_level.result = search rules in
    let unit : SFits w64 c.priority_at.result.unit = search rules in
    let unit-is : c.priority_at.result.unit ≡ (priority_at t c.args.l).unit = search rules in
    product_fits c.own_of_level.result c.priority_at.result.unit (level_own t c.args.l) (priority_at t c.args.l).unit own unit c.own_of_level.ensures.value unit-is
    (fitting_cost (level_own t c.args.l *ℤ (priority_at t c.args.l).unit) (scale_fits t c.args.l c.requires.pivot.kept c.requires.level.0))

pub named_sum-requires-clause-d : goal.named_sum-requires-clause-d
named_sum-requires-clause-d c =
    let t = lists_of c.args.table.now in
    let own : SFits w64 c.own_of_level.result = search rules in
    let unit : SFits w64 c.priority_at.result.unit = search rules in
    let unit-is : c.priority_at.result.unit ≡ (priority_at t c.args.l).unit = search rules in
    let fits : IsFitting (level_own t c.args.l *ℤ (priority_at t c.args.l).unit) = scale_fits t c.args.l c.requires.pivot.kept c.requires.level.0 in
    subst (λ (z : ℤ). IsFitting z)
    (sym (product_is c.own_of_level.result c.priority_at.result.unit (level_own t c.args.l) (priority_at t c.args.l).unit own unit c.own_of_level.ensures.value unit-is (fitting_cost (level_own t c.args.l *ℤ (priority_at t c.args.l).unit) fits))) fits

pub named_sum-requires-clause-above : goal.named_sum-requires-clause-above
named_sum-requires-clause-above c =
    let t = lists_of c.args.table.now in
    let own : SFits w64 c.own_of_level.result = search rules in
    let unit : SFits w64 c.priority_at.result.unit = search rules in
    let unit-is : c.priority_at.result.unit ≡ (priority_at t c.args.l).unit = search rules in
    let fits : IsFitting (level_own t c.args.l *ℤ (priority_at t c.args.l).unit) = scale_fits t c.args.l c.requires.pivot.kept c.requires.level.0 in
    subst (λ (z : ℤ). pos 0 <ℤ z)
    (sym (product_is c.own_of_level.result c.priority_at.result.unit (level_own t c.args.l) (priority_at t c.args.l).unit own unit c.own_of_level.ensures.value unit-is (fitting_cost (level_own t c.args.l *ℤ (priority_at t c.args.l).unit) fits)))
    (scale_above t c.args.l c.requires.pivot.kept c.requires.level.0)

number : (c : goal.After-named_sum) → to_z w64 (of_z w64 c.with_signs.result) ≡ neg_ℤ (entering_at (lists_of c.args.table.now) c.args.pivot.now.pair c.args.l *ℤ sign_of c.args.pivot.now.pair.side)
number c =
    let n : SFits w64 c.with_signs.result = search rules in
    let s : SFits w64 c.sign.result = search rules in
    let entering : SFits w64 c.args.c = search rules in
    to_z-of_z w64 c.with_signs.result n ∙ c.with_signs.ensures.value
    ∙ ap₂ (λ (a b : ℤ). (a *ℤ negsuc 0) *ℤ b) (to_z-of_z w64 c.args.c entering ∙ c.requires.entering) (to_z-of_z w64 c.sign.result s ∙ c.sign.ensures.value)
    ∙ minus_sign (entering_at (lists_of c.args.table.now) c.args.pivot.now.pair c.args.l) (sign_of c.args.pivot.now.pair.side)

scale : (c : goal.After-named_sum) → to_z w64 (of_z w64 (to_z w64 (of_z w64 c.own_of_level.result) *ℤ to_z w64 (of_z w64 c.priority_at.result.unit))) ≡ level_own (lists_of c.args.table.now) c.args.l *ℤ (priority_at (lists_of c.args.table.now) c.args.l).unit
scale c =
    let t = lists_of c.args.table.now in
    let own : SFits w64 c.own_of_level.result = search rules in
    let unit : SFits w64 c.priority_at.result.unit = search rules in
    let unit-is : c.priority_at.result.unit ≡ (priority_at t c.args.l).unit = search rules in
    product_is c.own_of_level.result c.priority_at.result.unit (level_own t c.args.l) (priority_at t c.args.l).unit own unit c.own_of_level.ensures.value unit-is
    (fitting_cost (level_own t c.args.l *ℤ (priority_at t c.args.l).unit) (scale_fits t c.args.l c.requires.pivot.kept c.requires.level.0))

pub returns-clause-ok : goal.returns-clause-ok
returns-clause-ok c =
    ok_implies c.named_sum.result _ (IsLevelValue (lists_of c.args.table.now) c.args.pivot.now c.args.l)
    (λ f ratio. value_of (lists_of c.args.table.now) c.args.pivot.now c.args.l c.value_at.result f (to_z w64 (of_z w64 c.with_signs.result)) (to_z w64 (of_z w64 (to_z w64 (of_z w64 c.own_of_level.result) *ℤ to_z w64 (of_z w64 c.priority_at.result.unit)))) c.value_at.ensures (number c) (scale c) ratio)
    c.named_sum.ensures.ok

pub returns-clause-stop : goal.returns-clause-stop
returns-clause-stop c =
    err_all c.named_sum.result _ (IsPivotStop (lists_of c.args.table.now) c.args.pivot.now)
    (λ stop h s at. value_stop (lists_of c.args.table.now) c.args.pivot.now c.args.l stop c.requires.pivot.kept c.requires.level.0 c.requires.level.1 (h.0 ∙ c.requires.stop)
    (unfit_of (lists_of c.args.table.now) c.args.pivot.now c.args.l c.value_at.result (to_z w64 (of_z w64 c.with_signs.result)) (to_z w64 (of_z w64 (to_z w64 (of_z w64 c.own_of_level.result) *ℤ to_z w64 (of_z w64 c.priority_at.result.unit)))) c.value_at.ensures (number c) (scale c) h.1) s at)
    c.named_sum.ensures.err
