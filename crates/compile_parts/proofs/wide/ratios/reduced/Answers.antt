use Rattle.std.proofs.Common.{◌≡◌, ℕ, ◌<◌, ◌/◌, ◌^◌, ℤ, pos, ◌*ℤ◌, ◌<ℤ◌, SFits, arith, unsigned_abs, sym, subst, ap, ◌∙◌, to_z}
use Prim.Native.Nat.{◌∣◌}
use Rattle.std.specs.Prelude.{FitsSigned}
use Rattle.std.specs.Int.{w128, IsGcd}
use borrow.Author.Differences.{ints}
use Rattle.std.proofs.lemmas.Int.{to_z-of_z, unsigned_abs-mul}
use Rattle.std.proofs.lemmas.Nat.Gcd.{le_of_dvd}
use Rattle.std.proofs.Math.Nat.{mul-div_cancel_left}
use Rattle.frac_core.proofs.Gauss.{Reduces, reduces}
use Rattle.frac_core.proofs.Integers.{positive_from}
use Rattle.compile_parts.specs.Quotients.{IsReduced}
use Rattle.compile_parts.proofs.wide.ratios.reduced.Goals as goal

some_size : (q : ℤ) (w : ℕ) → pos 0 <ℤ q → w ≡ unsigned_abs q → 0 < w
some_size q w above is = omega (arith, ints, above, is)

most : (q : ℤ) (w : ℕ) → pos 0 <ℤ q → FitsSigned w128 q → w ≡ unsigned_abs q → w < 2 ^ 127
most q w above fits is = omega (arith, ints, above, fits, is)

small : (q : ℤ) (w g : ℕ) → pos 0 <ℤ q → FitsSigned w128 q → w ≡ unsigned_abs q → g ∣ w → g < 2 ^ 127
small q w g above fits is divides = omega (arith, le_of_dvd (some_size q w above is) divides, most q w above fits is)

cast : (g : ℕ) → g < 2 ^ 127 → to_z w128 g ≡ pos g
cast g h = omega (arith, ints, h)

share : (p x : ℤ) (g : ℕ) → 0 < g → pos g *ℤ x ≡ p → unsigned_abs x ≡ unsigned_abs p / g
share p x g some is = sym (mul-div_cancel_left (unsigned_abs x) some) ∙ ap (λ (n : ℕ). n / g) (sym (unsigned_abs-mul (pos g) x) ∙ ap unsigned_abs is)

made : (p q x y : ℤ) (g : ℕ) → pos 0 <ℤ q → IsGcd (unsigned_abs p) (unsigned_abs q) g → pos g *ℤ x ≡ p → pos g *ℤ y ≡ q → IsReduced p q x y
made p q x y g above gcd num den =
    let r : Reduces (unsigned_abs p) (unsigned_abs q) g = reduces (unsigned_abs p) (unsigned_abs q) g (omega (arith, ints, above)) gcd in
    record {
      divided = record { divisor = g; above = r.g_above; num = num; den = den; den_above = positive_from g y (rw den above) };
      apart = rw (share p x g r.g_above num, share q y g r.g_above den) r.apart;
    }

pub overflow_cast-divisor : goal.overflow_cast-divisor
overflow_cast-divisor c =
    let whole : c.unsigned_abs-2.result ≡ unsigned_abs c.args.q = simp (to_z-of_z, c.ranges.q) at c.unsigned_abs-2.ensures.value in
    omega (arith, small c.args.q c.unsigned_abs-2.result c.divisor_of-divisor.result c.requires c.ranges.q whole c.divisor_of-divisor.ensures.1)

pub quotient-requires-clause-above : goal.quotient-requires-clause-above
quotient-requires-clause-above c =
    let whole : c.unsigned_abs-2.result ≡ unsigned_abs c.args.q = simp (to_z-of_z, c.ranges.q) at c.unsigned_abs-2.ensures.value in
    let some : 0 < c.divisor_of-divisor.result = (reduces c.unsigned_abs.result c.unsigned_abs-2.result c.divisor_of-divisor.result (some_size c.args.q c.unsigned_abs-2.result c.requires whole) c.divisor_of-divisor.ensures).g_above in
    rw (cast c.divisor_of-divisor.result (small c.args.q c.unsigned_abs-2.result c.divisor_of-divisor.result c.requires c.ranges.q whole c.divisor_of-divisor.ensures.1)) (omega (arith, ints, some))

pub quotient-requires-2-clause-above : goal.quotient-requires-2-clause-above
quotient-requires-2-clause-above c =
    let whole : c.unsigned_abs-2.result ≡ unsigned_abs c.args.q = simp (to_z-of_z, c.ranges.q) at c.unsigned_abs-2.ensures.value in
    let some : 0 < c.divisor_of-divisor.result = (reduces c.unsigned_abs.result c.unsigned_abs-2.result c.divisor_of-divisor.result (some_size c.args.q c.unsigned_abs-2.result c.requires whole) c.divisor_of-divisor.ensures).g_above in
    rw (cast c.divisor_of-divisor.result (small c.args.q c.unsigned_abs-2.result c.divisor_of-divisor.result c.requires c.ranges.q whole c.divisor_of-divisor.ensures.1)) (omega (arith, ints, some))

pub quotient-requires-clause-divides : goal.quotient-requires-clause-divides
quotient-requires-clause-divides c =
    let size : c.unsigned_abs.result ≡ unsigned_abs c.args.p = simp (to_z-of_z, c.ranges.p) at c.unsigned_abs.ensures.value in
    let whole : c.unsigned_abs-2.result ≡ unsigned_abs c.args.q = simp (to_z-of_z, c.ranges.q) at c.unsigned_abs-2.ensures.value in
    let is_cast : to_z w128 c.divisor_of-divisor.result ≡ pos c.divisor_of-divisor.result = cast c.divisor_of-divisor.result (small c.args.q c.unsigned_abs-2.result c.divisor_of-divisor.result c.requires c.ranges.q whole c.divisor_of-divisor.ensures.1) in
    rw is_cast (simp (to_z-of_z, c.ranges.p) (subst (λ (n : ℕ). c.divisor_of-divisor.result ∣ n) size c.divisor_of-divisor.ensures.0))

pub quotient-requires-2-clause-divides : goal.quotient-requires-2-clause-divides
quotient-requires-2-clause-divides c =
    let whole : c.unsigned_abs-2.result ≡ unsigned_abs c.args.q = simp (to_z-of_z, c.ranges.q) at c.unsigned_abs-2.ensures.value in
    let is_cast : to_z w128 c.divisor_of-divisor.result ≡ pos c.divisor_of-divisor.result = cast c.divisor_of-divisor.result (small c.args.q c.unsigned_abs-2.result c.divisor_of-divisor.result c.requires c.ranges.q whole c.divisor_of-divisor.ensures.1) in
    rw is_cast (simp (to_z-of_z, c.ranges.q) (subst (λ (n : ℕ). c.divisor_of-divisor.result ∣ n) whole c.divisor_of-divisor.ensures.1))

pub returns : goal.returns
returns c =
    let size : c.unsigned_abs.result ≡ unsigned_abs c.args.p = simp (to_z-of_z, c.ranges.p) at c.unsigned_abs.ensures.value in
    let whole : c.unsigned_abs-2.result ≡ unsigned_abs c.args.q = simp (to_z-of_z, c.ranges.q) at c.unsigned_abs-2.ensures.value in
    let is_cast : to_z w128 c.divisor_of-divisor.result ≡ pos c.divisor_of-divisor.result = cast c.divisor_of-divisor.result (small c.args.q c.unsigned_abs-2.result c.divisor_of-divisor.result c.requires c.ranges.q whole c.divisor_of-divisor.ensures.1) in
    let x_fits : SFits w128 c.quotient.result = record { sfits = c.quotient.type_inv } in
    let y_fits : SFits w128 c.quotient-2.result = record { sfits = c.quotient-2.type_inv } in
    let gcd : IsGcd (unsigned_abs c.args.p) (unsigned_abs c.args.q) c.divisor_of-divisor.result = rw (size, whole) at c.divisor_of-divisor.ensures in
    let num : pos c.divisor_of-divisor.result *ℤ c.quotient.result ≡ c.args.p = rw is_cast at (simp (to_z-of_z, c.ranges.p) at c.quotient.ensures) in
    let den : pos c.divisor_of-divisor.result *ℤ c.quotient-2.result ≡ c.args.q = rw is_cast at (simp (to_z-of_z, c.ranges.q) at c.quotient-2.ensures) in
    simp (to_z-of_z, x_fits, y_fits) (made c.args.p c.args.q c.quotient.result c.quotient-2.result c.divisor_of-divisor.result c.requires gcd num den)
