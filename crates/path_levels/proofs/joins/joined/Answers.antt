use Rattle.std.proofs.Common.{◌<ℤ◌, subst, sym, inl, pos, ℤ, List, unsigned_abs, SFits, rules, w64}
use Rattle.std.specs.Int.{w128}
use Rattle.std.proofs.lemmas.Int.{to_z-of_z}
use Rattle.std.proofs.lemmas.Result.{err_from_is_err_and}
use Rattle.frac_core.specs.Fraction.{Fraction}
use Rattle.path_lines.specs.Numbers.{AreFitting, AreLowest}
use Rattle.path_levels.specs.Joins.{IsJoinedCost, IsJoinedList, IsRise}
use Rattle.path_levels.proofs.Joining.JoinShares.{unit_bound}
use Rattle.path_levels.proofs.joins.joined.Goals as goal

pub with_numbers-requires-clause-unit : goal.with_numbers-requires-clause-unit
with_numbers-requires-clause-unit c =
    let ou : SFits w64 c.args.old.now.unit = search rules in
    simp to_z-of_z (unit_bound c.args.old.now.own c.args.old.now.unit _ c.requires.old.own_above c.requires.old.scale)

pub returns-clause-ok : goal.returns-clause-ok
returns-clause-ok c =
    let ou : SFits w64 c.args.old.now.unit = search rules in
    let t : SFits w64 c.times-times.result = search rules in
    let o : SFits w64 c.in_ok-numbers.numbers.own = search rules in
    let wo : SFits w128 c.in_ok-wide.wide.own = search rules in
    let rise : IsRise c.args.line (unsigned_abs c.args.old.now.unit) (unsigned_abs c.times-times.result) = simp to_z-of_z at c.times-times.ensures.rise in
    let list : IsJoinedList c.args.old.now c.args.line c.args.kept.now (unsigned_abs c.times-times.result) c.in_ok-wide.wide.own c.in_ok-wide.wide.by.items = simp to_z-of_z at c.in_ok-wide.ensures.list in
    record {
      times = unsigned_abs c.times-times.result;
      rise = rise;
      unit_is = simp to_z-of_z at c.with_numbers.ensures.unit;
      own = c.in_ok-wide.wide.own;
      out = c.in_ok-wide.wide.by.items;
      list = list;
      lowest = subst (λ (zs : List ℤ). AreLowest c.in_ok-wide.wide.own c.in_ok-wide.wide.by.items c.with_numbers.result.own zs) (sym c.with_numbers.ensures.by)
          (subst (λ (z : ℤ). AreLowest c.in_ok-wide.wide.own c.in_ok-wide.wide.by.items z c.in_ok-numbers.numbers.by.items) (sym c.with_numbers.ensures.own) c.in_ok-numbers.ensures.lowest);
      above = subst (λ (z : ℤ). pos 0 <ℤ z) (sym c.with_numbers.ensures.own) c.in_ok-numbers.ensures.above;
      fits = subst (λ (zs : List ℤ). AreFitting c.with_numbers.result.own zs) (sym c.with_numbers.ensures.by)
          (subst (λ (z : ℤ). AreFitting z c.in_ok-numbers.numbers.by.items) (sym c.with_numbers.ensures.own) c.in_ok-numbers.ensures.fits);
      cost = subst (λ (f : Fraction). IsJoinedCost c.args.old.now.cost c.args.line c.args.kept.now f) (sym c.with_numbers.ensures.cost) c.in_ok-cost.ensures.ok;
    }

pub returns-in_err-numbers-clause-unfit : goal.returns-in_err-numbers-clause-unfit
returns-in_err-numbers-clause-unfit c =
    let exit = err_from_is_err_and c.from_residual-in_err-numbers.result c.from_residual-in_err-numbers.ensures.1 in
    let ou : SFits w64 c.args.old.now.unit = search rules in
    let t : SFits w64 c.times-times.result = search rules in
    let rise : IsRise c.args.line (unsigned_abs c.args.old.now.unit) (unsigned_abs c.times-times.result) = simp to_z-of_z at c.times-times.ensures.rise in
    let list : IsJoinedList c.args.old.now c.args.line c.args.kept.now (unsigned_abs c.times-times.result) c.in_ok-wide.wide.own c.in_ok-wide.wide.by.items = simp to_z-of_z at c.in_ok-wide.ensures.list in
    rw (exit.1, exit.2) (λ stop. record { times = unsigned_abs c.times-times.result; rise = rise; unfit = inl (c.in_ok-wide.wide.own, c.in_ok-wide.wide.by.items, list, c.in_err-numbers.ensures.unfit stop) })
