-- The order of quotients, by their whole parts and by what is left.
use Rattle.std.proofs.Common.{Ordering, ◌≡◌, ◌≢◌, ℕ, zero, suc, ◌+◌, ◌*◌, ◌/◌, ◌%◌, ◌<◌, ◌≤◌, ◌⊎◌, inl, inr, false, refl, sym, ◌∙◌, ap, ap₂, arith, mul-pos}
use Rattle.std.specs.Ordering.{nat_cmp}
use Rattle.std.specs.BTreeMap.{is_at}
use Rattle.std.proofs.lemmas.Bool.Decides.{nat_tests}
use Rattle.std.proofs.Math.Nat.{div-add-mod, mul-lt-mul_of_pos_right, mul-le-mul_right}

nat_cmp-below : (x y : ℕ) → x < y → nat_cmp x y ≡ Ordering.Less
nat_cmp-below x y h = grind (arith, nat_tests)

nat_cmp-above : (x y : ℕ) → y < x → nat_cmp x y ≡ Ordering.Greater
nat_cmp-above x y h = grind (arith, nat_tests)

nat_cmp-equal : (x y : ℕ) → x ≡ y → nat_cmp x y ≡ Ordering.Equal
nat_cmp-equal x y h = grind (arith, nat_tests)

pub not-at : (x q : ℕ) → x ≢ q → is_at (nat_cmp x) q ≡ false
not-at x q n = grind (arith, nat_tests)

-- the order of two numbers is that of two others which lie alike
data Alike (x y u v : ℕ) : Type 0 where
  both_below : x < y → u < v → Alike x y u v
  both_equal : x ≡ y → u ≡ v → Alike x y u v
  both_above : y < x → v < u → Alike x y u v

alike : (x y u v : ℕ) → Alike x y u v → nat_cmp x y ≡ nat_cmp u v
alike x y u v (both_below h k) = nat_cmp-below x y h ∙ sym (nat_cmp-below u v k)
alike x y u v (both_equal h k) = nat_cmp-equal x y h ∙ sym (nat_cmp-equal u v k)
alike x y u v (both_above h k) = nat_cmp-above x y h ∙ sym (nat_cmp-above u v k)

pub three : (x y : ℕ) → (x < y) ⊎ ((x ≡ y) ⊎ (y < x))
three x y = grind arith

-- a number is below a multiple of b
below_next : (a b s : ℕ) → 0 < b → a / b < s → a < b * s
below_next a b s some less =
    let parts : b * (a / b) + a % b ≡ a = div-add-mod a b in
    let rest : a % b < b = omega arith in
    let scaled : (a / b + 1) * b ≤ s * b = mul-le-mul_right b (omega arith) in
    omega (arith, parts, rest, scaled)

at_least : (c d : ℕ) → d * (c / d) ≤ c
at_least c d =
    let parts : d * (c / d) + c % d ≡ c = div-add-mod c d in
    omega (arith, parts)

cross_below : (a b c d : ℕ) → 0 < b → 0 < d → a / b < c / d → a * d < c * b
cross_below a b c d some_b some_d less =
    let up : a * d < (b * (c / d)) * d = mul-lt-mul_of_pos_right (below_next a b (c / d) some_b less) some_d in
    let down : (d * (c / d)) * b ≤ c * b = mul-le-mul_right b (at_least c d) in
    omega (arith, up, down)

pub by_wholes : (a b c d : ℕ) → 0 < b → 0 < d → a / b ≢ c / d → nat_cmp (a / b) (c / d) ≡ nat_cmp (a * d) (c * b)
by_wholes a b c d some_b some_d apart =
    elim (three (a / b) (c / d)) [
      | inl h ↦ alike _ _ _ _ (both_below h (cross_below a b c d some_b some_d h))
      | inr (inl h) ↦ absurd (apart h)
      | inr (inr h) ↦ alike _ _ _ _ (both_above h (cross_below c d a b some_d some_b h))
    ]

shifted : (k x y : ℕ) → nat_cmp x y ≡ nat_cmp (k + x) (k + y)
shifted k x y =
    elim (three x y) [
      | inl h ↦ alike x y (k + x) (k + y) (both_below h (omega arith))
      | inr (inl h) ↦ alike x y (k + x) (k + y) (both_equal h (omega arith))
      | inr (inr h) ↦ alike x y (k + x) (k + y) (both_above h (omega arith))
    ]

pub by_rests : (a b c d : ℕ) → a / b ≡ c / d → nat_cmp (a * d) (c * b) ≡ nat_cmp ((a % b) * d) ((c % d) * b)
by_rests a b c d same =
    let left : b * (a / b) + a % b ≡ a = div-add-mod a b in
    let right : d * (c / d) + c % d ≡ c = div-add-mod c d in
    let scaled_left : (b * (a / b) + a % b) * d ≡ a * d = ap (λ (k : ℕ). k * d) left in
    let scaled_right : (d * (c / d) + c % d) * b ≡ c * b = ap (λ (k : ℕ). k * b) right in
    let whole : (a / b) * (b * d) ≡ (c / d) * (b * d) = ap (λ (k : ℕ). k * (b * d)) same in
    let first : a * d ≡ (a / b) * (b * d) + (a % b) * d = omega (arith, scaled_left) in
    let second : c * b ≡ (a / b) * (b * d) + (c % d) * b = omega (arith, scaled_right, whole) in
    ap₂ nat_cmp first second ∙ sym (shifted ((a / b) * (b * d)) ((a % b) * d) ((c % d) * b))

positive_product : (x b z : ℕ) → 0 < x → 0 < b → z ≡ 0 → z < x * b
positive_product x b z h k e = omega (arith, mul-pos h k)

pub at_zero : (x y b d : ℕ) → 0 < b → 0 < d → (0 < x → 0 < y → ⊥) → nat_cmp x y ≡ nat_cmp (x * d) (y * b)
at_zero zero zero b d some_b some_d none = alike 0 0 (0 * d) (0 * b) (both_equal refl (omega arith))
at_zero zero (suc y) b d some_b some_d none = alike 0 (suc y) (0 * d) (suc y * b) (both_below (omega arith) (positive_product (suc y) b (0 * d) (omega arith) some_b (omega arith)))
at_zero (suc x) zero b d some_b some_d none = alike (suc x) 0 (suc x * d) (0 * b) (both_above (omega arith) (positive_product (suc x) d (0 * b) (omega arith) some_d (omega arith)))
at_zero (suc x) (suc y) b d some_b some_d none = absurd (none (omega arith) (omega arith))
