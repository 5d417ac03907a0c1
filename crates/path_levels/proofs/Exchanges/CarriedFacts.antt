-- A level's row and a pivot put together: sizes.
use Rattle.std.proofs.Common.{◌≡◌, ◌∙◌, ℕ, ◌*◌, ◌<◌, ◌≤◌, ◌^◌, List, length, set, ℤ, pos, negsuc, ◌+ℤ◌, ◌*ℤ◌, ◌<ℤ◌, unsigned_abs, sym, ap, subst, arith, All}
use Rattle.std.specs.Prelude.{FitsSigned}
use Rattle.std.specs.Int.{w128, IsGcd}
use Rattle.std.proofs.lemmas.Int.{fits_signed_from_abs, ints, unsigned_abs-mul}
use Rattle.std.proofs.lemmas.List.{get_or_default, get_or-set_other, get_or-set_same, length-set}
use Rattle.std.proofs.lemmas.List.Elements.{All-set}
use Rattle.std.proofs.lemmas.Nat.Gcd.{le_of_dvd}
use Rattle.std.proofs.Math.Nat.{mul-le-mul, pos_of_dvd_of_pos}
use lib.IntN.{*ℤ_comm}
use Rattle.frac_core.proofs.Integers.{mul_assoc_ℤ}
use Rattle.frac_core.specs.Fraction.{IsFitting}
use Rattle.path_lines.specs.declared.exchange.Pivot.{Pivot}
use Rattle.path_lines.specs.declared.numbers.Wide.{Wide}
use Rattle.path_lines.specs.Numbers.{IsCombined, number_at}
use Rattle.path_levels.specs.declared.carried.Factors.{Factors}
use Rattle.path_levels.specs.declared.sums.LevelSum.{LevelSum}
use Rattle.path_levels.specs.Exchanges.Carried.{AreSharing, IsCarriedBy, IsCommonOf}
use Rattle.path_levels.specs.Levels.{IsSizedLevel}
use Rattle.path_levels.specs.Exchanges.Pivots.{IsSizedPivot, IsWideLevel}
use Rattle.frac_core.proofs.Products.{most_product}
use Rattle.frac_core.proofs.Divisors.{size_above as some_size}
use Rattle.path_levels.proofs.Exchanges.MovedValues.{above_from_product as positive_right}
use Rattle.frac_core.proofs.Numbers.{product-up as positive_product}

-- ---- factors

pub common_small : (size : ℤ) (m g : ℕ) → pos 0 <ℤ size → IsFitting size → IsGcd (unsigned_abs size) m g → g < 4398046511104
common_small size m g up fits is = let le : g ≤ unsigned_abs size = le_of_dvd (some_size size up) is.0 in omega (arith, le, fits)

pub common_at : (size n : ℤ) (g : ℕ) (z : ℤ) → z ≡ pos g → pos 0 <ℤ size → IsGcd (unsigned_abs size) (unsigned_abs n) g → IsCommonOf size n z
common_at size n g z is up gcd =
    let some : 0 < g = pos_of_dvd_of_pos gcd.0 (some_size size up) in
    subst (λ (y : ℤ). IsCommonOf size n y) (sym is) (record { above = omega (arith, ints, some); of_size = gcd.0; of_n = gcd.1 })

quotient_most : (c q z : ℤ) → pos 0 <ℤ c → c *ℤ q ≡ z → unsigned_abs q ≤ unsigned_abs z
quotient_most c q z up same =
    let some : 1 ≤ unsigned_abs c = some_size c up in
    let h : 1 * unsigned_abs q ≤ unsigned_abs c * unsigned_abs q = mul-le-mul some (omega arith) in
    omega (arith, h, sym (unsigned_abs-mul c q) ∙ ap unsigned_abs same)

shared : (c k m size n : ℤ) → c *ℤ k ≡ size → c *ℤ m ≡ n → m *ℤ size ≡ n *ℤ k
shared c k m size n e f = ap (λ (z : ℤ). m *ℤ z) (sym e) ∙ sym (mul_assoc_ℤ m c k) ∙ ap (λ (z : ℤ). z *ℤ k) (*ℤ_comm m c ∙ f)

pub sharing : (size n c k m : ℤ) → pos 0 <ℤ size → pos 0 <ℤ c → c *ℤ k ≡ size → c *ℤ m ≡ n → AreSharing size n (record { row = k; pivot = m })
sharing size n c k m up above e f = record {
  above = positive_right c k above (subst (λ (z : ℤ). pos 0 <ℤ z) (sym e) up);
  same = shared c k m size n e f;
  row_most = quotient_most c k size above e;
  pivot_most = quotient_most c m n above f;
}

-- ---- sizes

pub product_size : (a b : ℤ) → IsFitting a → unsigned_abs b < 2 ^ 53 → unsigned_abs (a *ℤ b) < 2 ^ 95
product_size a b h k =
    let most : unsigned_abs a * unsigned_abs b ≤ 4398046511103 * 9007199254740991 = most_product (unsigned_abs a) (unsigned_abs b) 4398046511103 9007199254740991 (omega (arith, h)) (omega (arith, k)) in
    omega (arith, unsigned_abs-mul a b, most)

pub product_fits : (a b : ℤ) → IsFitting a → unsigned_abs b < 2 ^ 53 → FitsSigned w128 (a *ℤ b)
product_fits a b h k = fits_signed_from_abs w128 (a *ℤ b) (omega (arith, product_size a b h k))

pub both_size : (x y : ℤ) → unsigned_abs x < 2 ^ 95 → unsigned_abs y < 2 ^ 95 → unsigned_abs (x +ℤ y) < 2 ^ 96
both_size (pos x) (pos y) h k = omega (arith, ints)
both_size (pos x) (negsuc y) h k = omega (arith, ints)
both_size (negsuc x) (pos y) h k = omega (arith, ints)
both_size (negsuc x) (negsuc y) h k = omega (arith, ints)

pub both_fits : (x y : ℤ) → unsigned_abs x < 2 ^ 95 → unsigned_abs y < 2 ^ 95 → FitsSigned w128 (x +ℤ y)
both_fits x y h k = fits_signed_from_abs w128 (x +ℤ y) (omega (arith, both_size x y h k))

-- ---- put together

fits_there : (xs : List ℤ) (k : ℕ) → All IsFitting xs → k < length xs → IsFitting (number_at xs k)
fits_there xs k all within = all k (pos 0) within

combined_small : (k m : ℤ) (left right out : List ℤ) → IsFitting k → unsigned_abs m < 2 ^ 53 → All IsFitting left → All IsFitting right → length right ≡ length left → IsCombined k left m right out → All (λ z. unsigned_abs z < 2 ^ 96) out
combined_small k m left right out k_fits m_small l_fits r_fits long is i d within =
    let here : i < length left = omega (arith, within, is.count) in
    let there : i < length right = omega (arith, here, long) in
    let a : unsigned_abs (number_at left i) < 2 ^ 53 = let h = fits_there left i l_fits here in omega (arith, h) in
    let b : IsFitting (number_at right i) = fits_there right i r_fits there in
    subst (λ (z : ℤ). unsigned_abs z < 2 ^ 96) (sym (is.each i here) ∙ get_or_default out i (pos 0) d within)
    (both_size (k *ℤ number_at left i) (m *ℤ number_at right i) (product_size k (number_at left i) k_fits a)
    (subst (λ (z : ℤ). unsigned_abs z < 2 ^ 95) (*ℤ_comm (number_at right i) m) (product_size (number_at right i) m b m_small)))

scale_size : (row own unit : ℤ) → IsFitting row → IsFitting (own *ℤ unit) → unsigned_abs ((row *ℤ own) *ℤ unit) < 2 ^ 84
scale_size row own unit h k =
    let most : unsigned_abs row * unsigned_abs (own *ℤ unit) ≤ 4398046511103 * 4398046511103 = most_product (unsigned_abs row) (unsigned_abs (own *ℤ unit)) 4398046511103 4398046511103 (omega (arith, h)) (omega (arith, k)) in
    subst (λ (z : ℤ). unsigned_abs z < 2 ^ 84) (sym (mul_assoc_ℤ row own unit)) (omega (arith, unsigned_abs-mul row (own *ℤ unit), most))

pub wide_sized : (pivot : Pivot) (sum : LevelSum) (factors : Factors) (leaving own : ℤ) (by : List ℤ) (wide : Wide) → IsSizedPivot (length sum.by.items) pivot → IsSizedLevel (length sum.by.items) sum → pos 0 <ℤ factors.row → IsFitting factors.row → unsigned_abs factors.pivot < 2 ^ 53
    → unsigned_abs leaving < 2 ^ 96 → IsCombined factors.row sum.by.items factors.pivot pivot.by.items by → wide.own ≡ factors.row *ℤ sum.own → wide.by.items ≡ set (set by pivot.step.leave.at leaving) pivot.step.enter.at (pos 0) → IsWideLevel (length sum.by.items) sum.unit wide
wide_sized pivot sum factors leaving own by wide p s above row factor small is own_is by_is =
    let inner : List ℤ = set by pivot.step.leave.at leaving in
    let zero : unsigned_abs (pos 0) < 2 ^ 96 = omega arith in
    record {
      count_is = ap (λ (zs : List ℤ). length zs) by_is ∙ length-set (set by pivot.step.leave.at leaving) pivot.step.enter.at (pos 0) ∙ length-set by pivot.step.leave.at leaving ∙ is.count;
      above = subst (λ (z : ℤ). pos 0 <ℤ z) (sym own_is) (positive_product factors.row sum.own above s.own_above);
      scale = subst (λ (z : ℤ). unsigned_abs (z *ℤ sum.unit) < 2 ^ 84) (sym own_is) (scale_size factors.row sum.own sum.unit row s.scale);
      small = subst (λ (zs : List ℤ). All (λ z. unsigned_abs z < 2 ^ 96) zs) (sym by_is)
          (All-set (λ z. unsigned_abs z < 2 ^ 96) (set by pivot.step.leave.at leaving) pivot.step.enter.at (pos 0) zero
          (All-set (λ z. unsigned_abs z < 2 ^ 96) by pivot.step.leave.at leaving small (combined_small factors.row factors.pivot sum.by.items pivot.by.items by row factor s.fits p.fits.1 p.count_is is)));
    }

pub wide_carried : (pivot : Pivot) (sum : LevelSum) (factors : Factors) (leaving : ℤ) (by : List ℤ) (wide : Wide) → IsSizedPivot (length sum.by.items) pivot → IsCombined factors.row sum.by.items factors.pivot pivot.by.items by
    → wide.own ≡ factors.row *ℤ sum.own → wide.by.items ≡ set (set by pivot.step.leave.at leaving) pivot.step.enter.at (pos 0) → IsCarriedBy pivot sum factors leaving wide
wide_carried pivot sum factors leaving by wide p is own_is by_is = record {
  own_is = own_is;
  count = ap (λ (zs : List ℤ). length zs) by_is ∙ length-set (set by pivot.step.leave.at leaving) pivot.step.enter.at (pos 0) ∙ length-set by pivot.step.leave.at leaving ∙ is.count;
  enters = ap (λ (zs : List ℤ). number_at zs pivot.step.enter.at) by_is
      ∙ get_or-set_same (set by pivot.step.leave.at leaving) pivot.step.enter.at (pos 0) (pos 0) (omega (arith, p.enter_at, is.count, length-set by pivot.step.leave.at leaving));
  leaves = λ ne. ap (λ (zs : List ℤ). number_at zs pivot.step.leave.at) by_is
      ∙ get_or-set_other (set by pivot.step.leave.at leaving) pivot.step.enter.at pivot.step.leave.at (pos 0) (pos 0) (λ e. ne (sym e))
      ∙ get_or-set_same by pivot.step.leave.at leaving (pos 0) (omega (arith, p.leave_at, is.count));
  others = λ k within ne_e ne_l. ap (λ (zs : List ℤ). number_at zs k) by_is
      ∙ get_or-set_other (set by pivot.step.leave.at leaving) pivot.step.enter.at k (pos 0) (pos 0) ne_e
      ∙ get_or-set_other by pivot.step.leave.at k leaving (pos 0) ne_l
      ∙ is.each k within;
}

pub own_small : (own unit : ℤ) → pos 0 <ℤ unit → IsFitting (own *ℤ unit) → IsFitting own
own_small own unit up fits =
    let some : 1 ≤ unsigned_abs unit = some_size unit up in
    let most : unsigned_abs own * 1 ≤ unsigned_abs own * unsigned_abs unit = mul-le-mul (omega arith) some in
    omega (arith, most, unsigned_abs-mul own unit, fits)
