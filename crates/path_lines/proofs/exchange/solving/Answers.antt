use Rattle.std.proofs.Common.{◌≡◌, ◌≢◌, ◌∙◌, ◌*ℤ◌, ◌<ℤ◌, ◌≤ℤ◌, List, All, Bool, true, false, not, ℤ, pos, neg_ℤ, negsuc, rules, SFits, sym, ap, subst, refl}
use borrow.Author.Differences.{ints}
use Rattle.std.proofs.Common.{arith}
use Rattle.std.specs.Int.{w64}
use Rattle.std.proofs.lemmas.Int.{to_z-of_z}
use Rattle.frac_core.proofs.Integers.{minus-one}
use Rattle.frac_core.specs.Fraction.{IsFitting}
use Rattle.path_lines.specs.Numbers.{IsReplaced, flip_sign, number_at}
use Rattle.path_lines.proofs.exchange.solving.Goals as goal

some_above : (z : ℤ) → z ≢ pos 0 → pos 0 ≤ℤ z → pos 0 <ℤ z
some_above z ne up = omega (arith, ints, ne, up)

size_up : (b : Bool) (z : ℤ) → (b ≡ true → z <ℤ pos 0) → (b ≡ false → pos 0 ≤ℤ z) → z ≢ pos 0 → pos 0 <ℤ (flip_sign b *ℤ z)
size_up true z below above ne = let h : z <ℤ pos 0 = below refl in omega (arith, ints, h)
size_up false z below above ne = let h : pos 0 <ℤ z = some_above z ne (above refl) in omega (arith, ints, h)

pub returns : goal.returns
returns c =
    let list : c.deref.result.now ≡ c.args.leaving.now.by.items = search rules in
    let number_is : c.number_of-number.result ≡ number_at c.args.leaving.now.by.items c.args.step.enter.at = c.number_of-number.ensures ∙ ap (λ (zs : List ℤ). number_at zs c.args.step.enter.at) list in
    let number : SFits w64 c.number_of-number.result = record { sfits = c.number_of-number.type_inv } in
    let own : SFits w64 c.args.leaving.now.own = search rules in
    let size_fits : SFits w64 c.turned-size.result = record { sfits = c.turned-size.type_inv } in
    let own_fits : SFits w64 c.turned-own.result = record { sfits = c.turned-own.type_inv } in
    let times_fits : SFits w64 c.turned-times.result = record { sfits = c.turned-times.type_inv } in
    let size_value : c.turned-size.result ≡ flip_sign c.is_negative-is_below.result *ℤ c.number_of-number.result = simp to_z-of_z at c.turned-size.ensures.value in
    let own_value : c.turned-own.result ≡ flip_sign c.is_negative-is_below.result *ℤ c.args.leaving.now.own = simp to_z-of_z at c.turned-own.ensures.value in
    let times_value : c.turned-times.result ≡ negsuc 0 *ℤ c.turned-own.result = simp to_z-of_z at c.turned-times.ensures.value in
    let below : c.is_negative-is_below.result ≡ true → c.number_of-number.result <ℤ pos 0 = simp to_z-of_z at c.is_negative-is_below.ensures.below in
    let above : c.is_negative-is_below.result ≡ false → pos 0 ≤ℤ c.number_of-number.result = simp to_z-of_z at c.is_negative-is_below.ensures.above in
    let items : c.deref-2.result.now ≡ c.args.leaving.now.by.items = search rules in
    let replaced : IsReplaced (flip_sign (not c.is_negative-is_below.result)) c.deref-2.result.now c.args.step.leave.at c.turned-own.result c.in_ok-by.by.items = simp to_z-of_z at c.in_ok-by.ensures.value in
    let size_same : c.pivot_with.result.size ≡ c.turned-size.result = simp to_z-of_z at c.pivot_with.ensures.size in
    let times_same : c.pivot_with.result.times ≡ c.turned-times.result = simp to_z-of_z at c.pivot_with.ensures.times in
    let some : c.number_of-number.result ≢ pos 0 = λ none. c.requires.some (sym number_is ∙ none) in
    record {
      step_is = c.pivot_with.ensures.step;
      no_turn = c.pivot_with.ensures.turn;
      above = subst (λ (z : ℤ). pos 0 <ℤ z) (sym (size_same ∙ size_value)) (size_up c.is_negative-is_below.result c.number_of-number.result below above some);
      fits = (subst IsFitting (sym size_same) c.turned-size.ensures.fits, subst (λ (zs : List ℤ). All IsFitting zs) (sym c.pivot_with.ensures.by) c.in_ok-by.ensures.fits);
      times_fit = subst IsFitting (sym times_same) c.turned-times.ensures.fits;
      is_below = c.is_negative-is_below.result;
      size_is = size_same ∙ size_value ∙ ap (λ (z : ℤ). flip_sign c.is_negative-is_below.result *ℤ z) number_is;
      value_is = c.pivot_with.ensures.value;
      times_is = times_same ∙ times_value ∙ minus-one c.turned-own.result ∙ ap neg_ℤ own_value;
      by_is = subst (λ (zs : List ℤ). IsReplaced (flip_sign (not c.is_negative-is_below.result)) c.args.leaving.now.by.items c.args.step.leave.at (flip_sign c.is_negative-is_below.result *ℤ c.args.leaving.now.own) zs) (sym c.pivot_with.ensures.by)
          (subst (λ (z : ℤ). IsReplaced (flip_sign (not c.is_negative-is_below.result)) c.args.leaving.now.by.items c.args.step.leave.at z c.in_ok-by.by.items) own_value
          (subst (λ (zs : List ℤ). IsReplaced (flip_sign (not c.is_negative-is_below.result)) zs c.args.step.leave.at c.turned-own.result c.in_ok-by.by.items) items replaced));
    }
