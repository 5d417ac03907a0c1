use Rattle.std.proofs.Common.{◌≡◌, ◌∙◌, ◌*ℤ◌, ℤ, rules, SFits, subst₂, ap}
use Rattle.std.specs.Int.{w64}
use Rattle.std.proofs.lemmas.Int.{to_z-of_z}
use Rattle.std.proofs.lemmas.Result.{err_from_is_err_and}
use Rattle.frac_core.specs.Fraction.{IsRatio, IsUnfitRatio, sum_den, sum_num}
use Rattle.path_levels.proofs.levels_after.cost_after.Goals as goal

pub returns-clause-cost : goal.returns-clause-cost
returns-clause-cost c =
    let n : SFits w64 c.in-Some.n = search rules in
    let number : SFits w64 c.entering_number.result = record { sfits = c.entering_number.type_inv } in
    let n_raw : c.in-Some.n ≡ c.entering_number.result = simp to_z-of_z at c.in-Some.ensures.some.0 in
    let times_raw : c.ratio_of.result.times ≡ c.in-Some.n *ℤ c.args.pivot.now.times = simp to_z-of_z at c.ratio_of.ensures.times in
    record {
      kept = c.in_ok-moved_value.ensures.kept;
      ratio = subst₂ (λ (t o : ℤ). IsRatio c.in_ok-moved_value.field-0 (sum_num c.args.row.sum.now.cost t o c.args.pivot.now.value) (sum_den c.args.row.sum.now.cost o c.args.pivot.now.value))
          (times_raw ∙ ap (λ (z : ℤ). z *ℤ c.args.pivot.now.times) (n_raw ∙ c.entering_number.ensures.value)) c.ratio_of.ensures.over c.in_ok-moved_value.ensures.value;
    }

pub returns-in_err-moved_value-clause-stop : goal.returns-in_err-moved_value-clause-stop
returns-in_err-moved_value-clause-stop c =
    let n : SFits w64 c.in-Some.n = search rules in
    let number : SFits w64 c.entering_number.result = record { sfits = c.entering_number.type_inv } in
    let n_raw : c.in-Some.n ≡ c.entering_number.result = simp to_z-of_z at c.in-Some.ensures.some.0 in
    let times_raw : c.ratio_of.result.times ≡ c.in-Some.n *ℤ c.args.pivot.now.times = simp to_z-of_z at c.ratio_of.ensures.times in
    let exit = err_from_is_err_and c.from_residual.result c.from_residual.ensures.1 in
    rw (exit.1, exit.2) (
      tt,
      λ fits. subst₂ (λ (t o : ℤ). IsUnfitRatio (sum_num c.args.row.sum.now.cost t o c.args.pivot.now.value) (sum_den c.args.row.sum.now.cost o c.args.pivot.now.value))
          (times_raw ∙ ap (λ (z : ℤ). z *ℤ c.args.pivot.now.times) (n_raw ∙ c.entering_number.ensures.value)) c.ratio_of.ensures.over c.in_err-moved_value.ensures.unfit,
    )
