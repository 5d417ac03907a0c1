use Rattle.std.proofs.Common.{◌≡◌, ◌++◌, [], ◌∷◌, ℕ, List, length, SFits, rules, arith, refl, sym, subst, to_z, of_z}
use Rattle.std.specs.Int.{w64}
use Rattle.std.proofs.lemmas.Int.{to_z-of_z}
use Rattle.std.proofs.lemmas.List.{length_push}
use Rattle.problem_core.specs.declared.parts.Mark.{Mark}
use Rattle.problem_core.specs.Layout.{Problem}
use Rattle.path_lines.specs.Exchanges.Pivots.{next_marks}
use Rattle.path_lines.proofs.Iffs.{one_more}
use Rattle.path_levels.specs.declared.columns_after.WideLevel.{WideLevel}
use Rattle.path_levels.specs.Outlines.{IsOutline, number_at}
use Rattle.path_levels.specs.Levels.{AreLevels, IsLevelSum}
use Rattle.path_levels.specs.Exchanges.Pivots.{IsExchangePivot}
use Rattle.path_levels.specs.Exchanges.WideCosts.{IsSizedWide, IsWideAt}
use Rattle.path_levels.proofs.Judging.AfterCosts.{sized_wide, wide_at}
use Rattle.path_levels.proofs.columns_after.wide_levels.Goals as goal

pub loop-place-preserved : goal.loop-place-preserved
loop-place-preserved c =
    let fits : SFits w64 c.index-levels-place.result.unit = search rules in
    let made : WideLevel = record { unit = to_z w64 (of_z w64 c.index-levels-place.result.unit); wide = c.in_ok-wide.wide } in
    let unit : made.unit ≡ c.index-levels-place.result.unit = simp to_z-of_z in
    let pushed : c.push.new.self.items ≡ c.loop-place.out.items ++ made ∷ [] = search rules in
    record {
      length_is = rw pushed (omega (arith, length_push c.loop-place.out.items made, c.loop-place.invariant.length_is));
      sized = rw pushed (one_more (λ (k : ℕ) (d : WideLevel) (x : WideLevel). IsSizedWide (length c.args.outline.now.lines.items) x) c.loop-place.out.items made c.loop-place.place c.loop-place.invariant.length_is c.loop-place.invariant.sized
          (λ d. sized_wide (length c.args.outline.now.lines.items) c.index-levels-place.result.unit c.in_ok-wide.wide made unit refl c.in_ok-wide.ensures.sized));
      each = rw pushed (one_more (λ (k : ℕ) (d : WideLevel) (x : WideLevel). (p : Problem) (at : List Mark) → IsExchangePivot p at c.args.pivot.now → IsOutline p c.args.outline.now → AreLevels p at c.args.outline.now c.args.levels.now
          → IsWideAt p (next_marks p c.args.pivot.now at) (number_at c.args.outline.now.levels.items k) x) c.loop-place.out.items made c.loop-place.place c.loop-place.invariant.length_is c.loop-place.invariant.each
          (λ d p at turn is sums.
          let sum : IsLevelSum p at (number_at c.args.outline.now.levels.items c.loop-place.place) c.index-levels-place.result =
          subst (IsLevelSum p at (number_at c.args.outline.now.levels.items c.loop-place.place)) (sym c.index-levels-place.is) (sums.each c.loop-place.place c.index-levels-place.result (omega (arith, c.loop-place-test.true, sums.count))) in
          wide_at p (next_marks p c.args.pivot.now at) (number_at c.args.outline.now.levels.items c.loop-place.place) c.index-levels-place.result.unit c.in_ok-wide.wide made unit refl
          sum.there.unit_is (c.in_ok-wide.ensures.next p at is turn sum)));
    }

pub returns-clause-next : goal.returns-clause-next
returns-clause-next c = λ p at turn is sums. record {
  count = omega (arith, c.loop-place.invariant.length_is, c.loop-place-test.false, c.loop-place.auto.place-end, sums.count);
  each = λ k d within. c.loop-place.invariant.each k d (omega (arith, within, sums.count, c.loop-place-test.false)) p at turn is sums;
}
