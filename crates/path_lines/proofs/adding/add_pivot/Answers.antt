use Rattle.std.proofs.Common.{◌≡◌, ◌∙◌, ℤ, List, length, pos, ap, refl, subst, subst₂, rules, SFits, true, false}
use Rattle.std.specs.Int.{w64}
use Rattle.std.specs.Vec.{with_items}
use Rattle.std.proofs.lemmas.Int.{to_z-of_z}
use Rattle.frac_core.specs.Fraction.{IsRatio, IsUnfitRatio, sum_den, sum_num}
use Rattle.path_lines.specs.Numbers.{IsCombined, number_at}
use Rattle.path_lines.specs.Adding.{HasLargeSum}
use Rattle.path_lines.proofs.Exchanges.PlainSums.{plain_next, plain_sized, plain_unfit, plain_value_unfit}
use Rattle.path_lines.proofs.MarkSides.Walks.{settled}
use Rattle.path_lines.proofs.adding.add_pivot.Goals as goal

pub returns-in_default-clause-unfit : goal.returns-in_default-clause-unfit
returns-in_default-clause-unfit c =
    let number_is : c.number_of-number.result ≡ number_at c.args.sum.now.by.items c.args.pivot.now.step.enter.at = c.number_of-number.ensures ∙ ap (λ (zs : List ℤ). number_at zs c.args.pivot.now.step.enter.at) c.deref.ensures.value in
    let number : SFits w64 c.number_of-number.result = record { sfits = c.number_of-number.type_inv } in
    let own : SFits w64 c.args.sum.now.own = search rules in
    let raw : IsUnfitRatio (sum_num c.args.sum.now.value c.number_of-number.result c.args.sum.now.own c.args.enters) (sum_den c.args.sum.now.value c.args.sum.now.own c.args.enters) = simp to_z-of_z at c.in_default.ensures.unfit in
    plain_value_unfit c.args.pivot.now c.args.enters c.args.sum.now c.requires.size c.requires.sized.count_is
    (subst (λ (z : ℤ). IsUnfitRatio (sum_num c.args.sum.now.value z c.args.sum.now.own c.args.enters) (sum_den c.args.sum.now.value c.args.sum.now.own c.args.enters)) number_is raw)

pub returns-then-not-add_at-clause-unfit : goal.returns-then-not-add_at-clause-unfit
returns-then-not-add_at-clause-unfit c =
    let number_is : c.number_of-number.result ≡ number_at c.args.sum.now.by.items c.args.pivot.now.step.enter.at = c.number_of-number.ensures ∙ ap (λ (zs : List ℤ). number_at zs c.args.pivot.now.step.enter.at) c.deref.ensures.value in
    let number : SFits w64 c.number_of-number.result = record { sfits = c.number_of-number.type_inv } in
    let down : c.add_at.result ≡ false = search rules in
    let raw : HasLargeSum c.deref_mut.result.now c.number_of-number.result c.deref-2.result.now = simp to_z-of_z at c.add_at.ensures.unfit down in
    plain_unfit c.args.pivot.now c.args.enters c.args.sum.now c.requires.size c.requires.own c.requires.sized.count_is
    (subst (λ (z : ℤ). HasLargeSum c.args.sum.now.by.items z c.args.pivot.now.by.items) number_is
    (subst₂ (λ (xs ys : List ℤ). HasLargeSum xs c.number_of-number.result ys) c.deref_mut.ensures.value c.deref-2.ensures.value raw))

pub returns-clause-sized : goal.returns-clause-sized
returns-clause-sized c =
    let number : SFits w64 c.number_of-number.result = record { sfits = c.number_of-number.type_inv } in
    let up : c.add_at.result ≡ true = search rules in
    let count : length c.add_at.new.by ≡ length c.deref_mut.result.now = (c.add_at.ensures.sum up).count in
    plain_sized (length c.args.pivot.now.by.items) c.args.sum.now (record { own = c.args.sum.now.own; by = with_items c.args.sum.now.by c.add_at.new.by; value = c.in-Ok.value }) c.add_at.new.by c.requires.sized refl
    (settled c.args.sum.now.by.len c.add_at.new.by c.args.sum.now.by.items (count ∙ c.deref_mut.ensures.len)) (count ∙ ap (λ (zs : List ℤ). length zs) c.deref_mut.ensures.value) (c.add_at.ensures.fits up)

pub returns-clause-sum : goal.returns-clause-sum
returns-clause-sum c =
    let number_is : c.number_of-number.result ≡ number_at c.args.sum.now.by.items c.args.pivot.now.step.enter.at = c.number_of-number.ensures ∙ ap (λ (zs : List ℤ). number_at zs c.args.pivot.now.step.enter.at) c.deref.ensures.value in
    let number : SFits w64 c.number_of-number.result = record { sfits = c.number_of-number.type_inv } in
    let own : SFits w64 c.args.sum.now.own = search rules in
    let up : c.add_at.result ≡ true = search rules in
    let count : length c.add_at.new.by ≡ length c.deref_mut.result.now = (c.add_at.ensures.sum up).count in
    let made : IsCombined (pos 1) c.deref_mut.result.now c.number_of-number.result c.deref-2.result.now c.add_at.new.by = simp to_z-of_z at c.add_at.ensures.sum up in
    let here : IsCombined (pos 1) c.args.sum.now.by.items c.number_of-number.result c.args.pivot.now.by.items c.add_at.new.by =
    subst₂ (λ (xs ys : List ℤ). IsCombined (pos 1) xs c.number_of-number.result ys c.add_at.new.by) c.deref_mut.ensures.value c.deref-2.ensures.value made in
    let ratio : IsRatio c.in-Ok.value (sum_num c.args.sum.now.value c.number_of-number.result c.args.sum.now.own c.args.enters) (sum_den c.args.sum.now.value c.args.sum.now.own c.args.enters) = simp to_z-of_z at c.in-Ok.ensures.value in
    plain_next c.args.pivot.now c.args.enters c.args.sum.now (record { own = c.args.sum.now.own; by = with_items c.args.sum.now.by c.add_at.new.by; value = c.in-Ok.value }) c.add_at.new.by c.in-Ok.value c.requires.size c.requires.own refl
    (settled c.args.sum.now.by.len c.add_at.new.by c.args.sum.now.by.items (count ∙ c.deref_mut.ensures.len)) refl
    (subst (λ (z : ℤ). IsCombined (pos 1) c.args.sum.now.by.items z c.args.pivot.now.by.items c.add_at.new.by) number_is here) (c.add_at.ensures.fits up) c.in-Ok.ensures.lowest
    (subst (λ (z : ℤ). IsRatio c.in-Ok.value (sum_num c.args.sum.now.value z c.args.sum.now.own c.args.enters) (sum_den c.args.sum.now.value c.args.sum.now.own c.args.enters)) number_is ratio)
