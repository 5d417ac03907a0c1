use Rattle.std.proofs.Common.{◌≡◌, ◌*◌, ◌≤◌, ◌*ℤ◌, ℤ, List, map, sym, subst, SFits, rules, All, to_z, of_z}
use Rattle.std.specs.Prelude.{unsigned_abs}
use Rattle.std.specs.Int.{w64, w128, ◌∣◌}
use Rattle.std.proofs.lemmas.Int.{to_z-of_z}
use Rattle.std.proofs.lemmas.Result.{err_from_is_err_and}
use Rattle.frac_core.specs.declared.frac.TheConstants.{PART_BOUND}
use Rattle.path_lines.specs.Numbers.{IsCommonDivisor, HasTooLarge}
use Rattle.path_lines.proofs.Arithmetic.LowestTerms.{divided_lowest, unfit_own, unfit_part}
use Rattle.path_lines.proofs.numbers.in_lowest_terms.Goals as goal

pub fitting_quotient-requires-clause-divides : goal.fitting_quotient-requires-clause-divides
fitting_quotient-requires-clause-divides c =
    let own : SFits w128 c.args.wide.now.own = search rules in
    let divisor : SFits w128 c.divisor_of-divisor.result = record { sfits = c.divisor_of-divisor.type_inv } in
    let items : c.deref.result.now ≡ c.args.wide.now.by.items = search rules in
    let raw : IsCommonDivisor c.args.wide.now.own c.deref.result.now c.divisor_of-divisor.result = simp to_z-of_z at c.divisor_of-divisor.ensures in
    let common : IsCommonDivisor c.args.wide.now.own c.args.wide.now.by.items c.divisor_of-divisor.result = subst (λ (xs : List ℤ). IsCommonDivisor c.args.wide.now.own xs c.divisor_of-divisor.result) items raw in
    simp to_z-of_z common.divides.0

pub returns-in_default-clause-unfit : goal.returns-in_default-clause-unfit
returns-in_default-clause-unfit c =
    let own : SFits w128 c.args.wide.now.own = search rules in
    let divisor : SFits w128 c.divisor_of-divisor.result = record { sfits = c.divisor_of-divisor.type_inv } in
    let items : c.deref.result.now ≡ c.args.wide.now.by.items = search rules in
    let raw : IsCommonDivisor c.args.wide.now.own c.deref.result.now c.divisor_of-divisor.result = simp to_z-of_z at c.divisor_of-divisor.ensures in
    let common : IsCommonDivisor c.args.wide.now.own c.args.wide.now.by.items c.divisor_of-divisor.result = subst (λ (xs : List ℤ). IsCommonDivisor c.args.wide.now.own xs c.divisor_of-divisor.result) items raw in
    let large : unsigned_abs c.divisor_of-divisor.result * PART_BOUND ≤ unsigned_abs c.args.wide.now.own = search rules in
    λ same. unfit_own c.args.wide.now.own c.args.wide.now.by.items c.divisor_of-divisor.result common large

pub quotients-requires-clause-divides : goal.quotients-requires-clause-divides
quotients-requires-clause-divides c =
    let own : SFits w128 c.args.wide.now.own = search rules in
    let divisor : SFits w128 c.divisor_of-divisor.result = record { sfits = c.divisor_of-divisor.type_inv } in
    let items : c.deref.result.now ≡ c.args.wide.now.by.items = search rules in
    let raw : IsCommonDivisor c.args.wide.now.own c.deref.result.now c.divisor_of-divisor.result = simp to_z-of_z at c.divisor_of-divisor.ensures in
    let common : IsCommonDivisor c.args.wide.now.own c.args.wide.now.by.items c.divisor_of-divisor.result = subst (λ (xs : List ℤ). IsCommonDivisor c.args.wide.now.own xs c.divisor_of-divisor.result) items raw in
    let second : c.deref-2.result.now ≡ c.args.wide.now.by.items = search rules in
    simp to_z-of_z (subst (λ (xs : List ℤ). All (λ (z : ℤ). unsigned_abs c.divisor_of-divisor.result ∣ unsigned_abs z) xs) (sym second) common.divides.1)

pub returns-in_err-by-clause-unfit : goal.returns-in_err-by-clause-unfit
returns-in_err-by-clause-unfit c =
    let own : SFits w128 c.args.wide.now.own = search rules in
    let divisor : SFits w128 c.divisor_of-divisor.result = record { sfits = c.divisor_of-divisor.type_inv } in
    let items : c.deref.result.now ≡ c.args.wide.now.by.items = search rules in
    let raw : IsCommonDivisor c.args.wide.now.own c.deref.result.now c.divisor_of-divisor.result = simp to_z-of_z at c.divisor_of-divisor.ensures in
    let common : IsCommonDivisor c.args.wide.now.own c.args.wide.now.by.items c.divisor_of-divisor.result = subst (λ (xs : List ℤ). IsCommonDivisor c.args.wide.now.own xs c.divisor_of-divisor.result) items raw in
    let second : c.deref-2.result.now ≡ c.args.wide.now.by.items = search rules in
    let divisor_is : to_z w128 (of_z w128 c.divisor_of-divisor.result) ≡ c.divisor_of-divisor.result = to_z-of_z w128 c.divisor_of-divisor.result divisor in
    let exit = err_from_is_err_and c.from_residual.result c.from_residual.ensures.1 in
    rw (exit.1, exit.2) (λ same.
    let large : HasTooLarge c.divisor_of-divisor.result c.args.wide.now.by.items = rw (divisor_is, second) at (c.in_err-by.ensures.unfit same) in
    unfit_part c.args.wide.now.own c.args.wide.now.by.items c.divisor_of-divisor.result common large)

pub returns-clause-lowest : goal.returns-clause-lowest
returns-clause-lowest c =
    let own : SFits w128 c.args.wide.now.own = search rules in
    let divisor : SFits w128 c.divisor_of-divisor.result = record { sfits = c.divisor_of-divisor.type_inv } in
    let low : SFits w64 c.in-Some.own = search rules in
    let items : c.deref.result.now ≡ c.args.wide.now.by.items = search rules in
    let raw : IsCommonDivisor c.args.wide.now.own c.deref.result.now c.divisor_of-divisor.result = simp to_z-of_z at c.divisor_of-divisor.ensures in
    let common : IsCommonDivisor c.args.wide.now.own c.args.wide.now.by.items c.divisor_of-divisor.result = subst (λ (xs : List ℤ). IsCommonDivisor c.args.wide.now.own xs c.divisor_of-divisor.result) items raw in
    let own_is : c.divisor_of-divisor.result *ℤ c.in-Some.own ≡ c.args.wide.now.own = simp to_z-of_z at c.in-Some.ensures.same in
    let second : c.deref-2.result.now ≡ c.args.wide.now.by.items = search rules in
    let divisor_is : to_z w128 (of_z w128 c.divisor_of-divisor.result) ≡ c.divisor_of-divisor.result = to_z-of_z w128 c.divisor_of-divisor.result divisor in
    let same : map (λ z. c.divisor_of-divisor.result *ℤ z) c.in_ok-by.by.items ≡ c.args.wide.now.by.items = rw (divisor_is, second) at c.in_ok-by.ensures.same in
    simp to_z-of_z (divided_lowest c.args.wide.now.own c.args.wide.now.by.items c.divisor_of-divisor.result c.in-Some.own c.in_ok-by.by.items common own_is same)
