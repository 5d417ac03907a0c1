-- A value that moves by a multiple of another one: fractions and their sums.
use Rattle.std.proofs.Common.{◌≡◌, ◌∙◌, ℕ, ◌+◌, ◌-◌, ◌*◌, ◌/◌, ◌<◌, ◌≤◌, ℤ, pos, negsuc, ◌+ℤ◌, ◌-ℤ◌, ◌*ℤ◌, ◌<ℤ◌, neg_ℤ, unsigned_abs, sym, ap, ap₂, subst, subst₂, SFits, arith}
use Rattle.std.specs.Int.{◌∣◌, IsGcd, w128}
use borrow.Author.Differences.{ints}
use Rattle.std.proofs.Math.IntN.{*ℤ_comm}
use Rattle.std.proofs.lemmas.Int.{fits_signed_from_abs, unsigned_abs-mul}
use Rattle.std.proofs.lemmas.Nat.Gcd.{le_of_dvd}
use Rattle.std.proofs.Math.Nat.{mul-le-mul, dvd-mul_right, dvd-mul_left, dvd_of_mul-dvd-mul_left, div-mul_cancel}
use Rattle.frac_core.specs.Fraction.{Fraction, Fits, IsFitting, IsKept, IsLowest, IsRatio, IsUnfitRatio, sum_den, sum_num}
use Rattle.frac_core.specs.declared.frac.TheConstants.{PART_BOUND}
use Rattle.frac_core.proofs.Gauss.{gauss, above_left as quotient_above}
use Rattle.frac_core.proofs.Integers.{cancel_mul, diff-add, diff-mul, diff-neg, diff-pos, diff_eq, mul_assoc_ℤ, mul_left_comm_ℤ, mul-add_left, neg-pos, on_2, positive_from}
use Rattle.path_levels.specs.Exchanges.Moved.{IsLowestPart, joint_den, joint_num}
use Rattle.path_lines.proofs.Walking.FirstLines.{abs_sum}
use Rattle.frac_core.proofs.Quotients.{size_opposite}
use Rattle.frac_core.proofs.Fitting.{ratio-up as ratio_up, ratio-down as ratio_down}
use Rattle.frac_core.proofs.Numbers.{pos-size as up}
use Rattle.frac_core.proofs.Divisors.{size_above as some_up}

ruleset ring = (diff-add, diff-mul, diff-neg, diff-pos, neg-pos)

-- ---- multiples

pub unfit_up : (c : ℕ) (n d : ℤ) → 0 < c → IsUnfitRatio n d → IsUnfitRatio (pos c *ℤ n) (pos c *ℤ d)
unfit_up c n d some none f lowest r = none f lowest (ratio_down c f n d some r)

-- ---- signed numbers above 0

pub above_from_product : (d z : ℤ) → pos 0 <ℤ d → pos 0 <ℤ (d *ℤ z) → pos 0 <ℤ z
above_from_product (pos n) z up_d up_p = positive_from n z up_p
above_from_product (negsuc n) z up_d up_p = absurd up_d.lt

-- ---- sizes

abs_minus : (x y : ℤ) (m n : ℕ) → unsigned_abs x ≤ m → unsigned_abs y ≤ n → unsigned_abs (x -ℤ y) ≤ m + n
abs_minus x y m n h k = abs_sum x (neg_ℤ y) m n h (subst (λ (i : ℕ). i ≤ n) (sym (size_opposite y)) k)

pub abs_times : (x y : ℤ) (m n : ℕ) → unsigned_abs x ≤ m → unsigned_abs y ≤ n → unsigned_abs (x *ℤ y) ≤ m * n
abs_times x y m n h k = subst (λ (i : ℕ). i ≤ m * n) (sym (unsigned_abs-mul x y)) (mul-le-mul h k)

-- ---- the difference of two fractions

first_part : (x b : ℤ) (bd fd d : ℕ) → (x *ℤ pos bd -ℤ b *ℤ pos fd) *ℤ pos d ≡ x *ℤ (pos bd *ℤ pos d) -ℤ (b *ℤ pos d) *ℤ pos fd
first_part x b bd fd d = on_2 (λ x b. (x *ℤ pos bd -ℤ b *ℤ pos fd) *ℤ pos d ≡ x *ℤ (pos bd *ℤ pos d) -ℤ (b *ℤ pos d) *ℤ pos fd) (λ a a' c c'. simp ring (diff_eq _ _ _ _ (omega arith))) x b

second_part : (b n : ℤ) (bd fd d : ℕ) → (b *ℤ pos d +ℤ n *ℤ pos bd) *ℤ pos fd ≡ (b *ℤ pos d) *ℤ pos fd +ℤ n *ℤ pos (bd * fd)
second_part b n bd fd d = on_2 (λ b n. (b *ℤ pos d +ℤ n *ℤ pos bd) *ℤ pos fd ≡ (b *ℤ pos d) *ℤ pos fd +ℤ n *ℤ pos (bd * fd)) (λ a a' c c'. simp ring (diff_eq _ _ _ _ (omega arith))) b n

taken : (u v w z : ℤ) → u ≡ v → v ≡ w +ℤ z → z ≡ u -ℤ w
taken u v w z e f = omega (arith, ints, e, f)

-- n/d = x/fd - b/bd
pub difference : (x b n : ℤ) (bd fd d : ℕ) → x *ℤ (pos bd *ℤ pos d) ≡ (b *ℤ pos d +ℤ n *ℤ pos bd) *ℤ pos fd → n *ℤ pos (bd * fd) ≡ (x *ℤ pos bd -ℤ b *ℤ pos fd) *ℤ pos d
difference x b n bd fd d h = taken (x *ℤ (pos bd *ℤ pos d)) ((b *ℤ pos d +ℤ n *ℤ pos bd) *ℤ pos fd) ((b *ℤ pos d) *ℤ pos fd) (n *ℤ pos (bd * fd)) h (second_part b n bd fd d) ∙ sym (first_part x b bd fd d)

abs_difference : (x b n : ℤ) (bd fd d : ℕ) → x *ℤ (pos bd *ℤ pos d) ≡ (b *ℤ pos d +ℤ n *ℤ pos bd) *ℤ pos fd → unsigned_abs n * (bd * fd) ≡ unsigned_abs (x *ℤ pos bd -ℤ b *ℤ pos fd) * d
abs_difference x b n bd fd d h = sym (unsigned_abs-mul n (pos (bd * fd))) ∙ ap unsigned_abs (difference x b n bd fd d h) ∙ unsigned_abs-mul (x *ℤ pos bd -ℤ b *ℤ pos fd) (pos d)

-- its denominator divides the product of theirs
den_divides : (x b n : ℤ) (bd fd d : ℕ) → IsGcd (unsigned_abs n) d 1 → x *ℤ (pos bd *ℤ pos d) ≡ (b *ℤ pos d +ℤ n *ℤ pos bd) *ℤ pos fd → d ∣ bd * fd
den_divides x b n bd fd d lowest h =
    gauss (unsigned_abs n) d (bd * fd) lowest (subst (λ (k : ℕ). d ∣ k) (sym (abs_difference x b n bd fd d h)) (dvd-mul_left d (unsigned_abs (x *ℤ pos bd -ℤ b *ℤ pos fd))))

at_most : (n t d a k : ℕ) → 0 < d → 0 < t → t * d ≡ k → n * k ≡ a * d → n ≤ a
at_most n t d a k some_d some_t e f =
    let g : (n * t) * d ≡ a * d = omega (arith, f, (ap (λ (i : ℕ). n * i) e)) in
    let h : n * t ≡ a = cancel (n * t) a d some_d g in
    let l : n * 1 ≤ n * t = mul-le-mul (let r : n ≤ n = omega arith in r) some_t in
    omega (arith, h, l)
  where
    cancel : (u v d : ℕ) → 0 < d → u * d ≡ v * d → u ≡ v
    cancel u v d some e = ap unsigned_abs (cancel_mul d (pos u) (pos v) some (ap pos (let s : d * u ≡ d * v = omega (arith, e) in s)))

-- its numerator is small where theirs and their denominators are
num_small : (x b n : ℤ) (bd fd d m : ℕ) → 0 < d → 0 < bd → 0 < fd → IsGcd (unsigned_abs n) d 1 → x *ℤ (pos bd *ℤ pos d) ≡ (b *ℤ pos d +ℤ n *ℤ pos bd) *ℤ pos fd
    → unsigned_abs x ≤ m → unsigned_abs b ≤ m → bd ≤ m → fd ≤ m → unsigned_abs n ≤ m * m + m * m
num_small x b n bd fd d m some some_bd some_fd lowest h x_small b_small bd_small fd_small =
    let divides : d ∣ bd * fd = den_divides x b n bd fd d lowest h in
    let whole : (bd * fd / d) * d ≡ bd * fd = div-mul_cancel d divides in
    let above : 0 < bd * fd = product_above bd fd some_bd some_fd in
    let a : unsigned_abs n ≤ unsigned_abs (x *ℤ pos bd -ℤ b *ℤ pos fd) =
    at_most (unsigned_abs n) (bd * fd / d) d (unsigned_abs (x *ℤ pos bd -ℤ b *ℤ pos fd)) (bd * fd) some (quotient_above (bd * fd / d) d (bd * fd) whole above) whole (abs_difference x b n bd fd d h) in
    let c : unsigned_abs (x *ℤ pos bd -ℤ b *ℤ pos fd) ≤ m * m + m * m =
    abs_minus (x *ℤ pos bd) (b *ℤ pos fd) (m * m) (m * m) (abs_times x (pos bd) m m x_small bd_small) (abs_times b (pos fd) m m b_small fd_small) in
    omega (arith, a, c)
  where
    product_above : (a b : ℕ) → 0 < a → 0 < b → 0 < a * b
    product_above a b h k = let l : 1 * 1 ≤ a * b = mul-le-mul h k in omega (arith, l)

-- what is left of its denominator without its common factor with the second one divides the first
rest_small : (x b n : ℤ) (bd fd d c q e : ℕ) → 0 < c → 0 < fd → IsGcd (unsigned_abs n) d 1 → d ≡ c * q → bd ≡ c * e → IsGcd e q 1 → x *ℤ (pos bd *ℤ pos d) ≡ (b *ℤ pos d +ℤ n *ℤ pos bd) *ℤ pos fd → q ≤ fd
rest_small x b n bd fd d c q e some some_fd lowest d_is bd_is apart h =
    let divides : d ∣ bd * fd = den_divides x b n bd fd d lowest h in
    let parts : c * q ∣ c * (e * fd) = subst (λ (k : ℕ). k ∣ c * (e * fd)) d_is (subst (λ (k : ℕ). d ∣ k) (let t : bd * fd ≡ c * (e * fd) = ap (λ (k : ℕ). k * fd) bd_is ∙ assoc c e fd in t) divides) in
    le_of_dvd some_fd (gauss e q fd apart (dvd_of_mul-dvd-mul_left q some parts))
  where
    assoc : (c e f : ℕ) → (c * e) * f ≡ c * (e * f)
    assoc c e f = omega arith

-- both without their greatest common divisor have none
apart_rests : (d bd c q e : ℕ) → 0 < c → IsGcd d bd c → d ≡ c * q → bd ≡ c * e → IsGcd e q 1
apart_rests d bd c q e some common d_is bd_is = (
  one-divides e,
  one-divides q,
  λ k k_e k_q.
      dvd_of_mul-dvd-mul_left k some (subst (λ (i : ℕ). c * k ∣ i) (let o : c ≡ c * 1 = omega arith in o)
      (common.2 (c * k) (subst (λ (i : ℕ). c * k ∣ i) (sym d_is) (mul-dvd c k q k_q)) (subst (λ (i : ℕ). c * k ∣ i) (sym bd_is) (mul-dvd c k e k_e)))),
)
  where
    one-divides : (n : ℕ) → 1 ∣ n
    one-divides n = subst (λ (i : ℕ). 1 ∣ i) (let o : 1 * n ≡ n = omega arith in o) (dvd-mul_right 1 n)

    turned : (w c k n : ℕ) → w * k ≡ n → w * (c * k) ≡ c * n
    turned w c k n e = (let t : w * (c * k) ≡ c * (w * k) = omega arith in t) ∙ ap (λ (i : ℕ). c * i) e

    mul-dvd : (c k n : ℕ) → k ∣ n → c * k ∣ c * n
    mul-dvd c k n h =
        let w : n / k * k ≡ n = div-mul_cancel k h in
        subst (λ (i : ℕ). c * k ∣ i) (let t : (n / k) * (c * k) ≡ c * n = turned (n / k) c k n w in t) (dvd-mul_left (c * k) (n / k))

-- ---- the parts of the code

pub lowest_part_is : (num den g n d : ℤ) → pos 0 <ℤ den → pos 0 <ℤ g → IsGcd (unsigned_abs num) (unsigned_abs den) (unsigned_abs g) → g *ℤ n ≡ num → g *ℤ d ≡ den → IsLowestPart num den n d
lowest_part_is num den g n d den_up g_up gcd num_is den_is =
    let some : 0 < unsigned_abs g = some_up g g_up in
    let g_is : pos (unsigned_abs g) ≡ g = up g g_up in
    let n_abs : unsigned_abs num ≡ unsigned_abs g * unsigned_abs n = ap unsigned_abs (sym num_is) ∙ unsigned_abs-mul g n in
    let d_abs : unsigned_abs den ≡ unsigned_abs g * unsigned_abs d = ap unsigned_abs (sym den_is) ∙ unsigned_abs-mul g d in
    let apart : IsGcd (unsigned_abs d) (unsigned_abs n) 1 = apart_rests (unsigned_abs num) (unsigned_abs den) (unsigned_abs g) (unsigned_abs n) (unsigned_abs d) some gcd n_abs d_abs in
    record {
      factor = unsigned_abs g;
      above = some;
      num_is = ap (λ (z : ℤ). z *ℤ n) g_is ∙ num_is;
      den_is = ap (λ (z : ℤ). z *ℤ d) g_is ∙ den_is;
      up = above_from_product g d g_up (subst (λ (z : ℤ). pos 0 <ℤ z) (sym den_is) den_up);
      lowest = (apart.1, apart.0, λ k k_n k_d. apart.2 k k_d k_n);
    }

-- a fraction that is the sum and fits
fitting_sum : (base : Fraction) (num den rest share : ℤ) (f : Fraction) → IsLowestPart (pos base.den) den share rest → pos 0 <ℤ den → IsGcd (unsigned_abs num) (unsigned_abs den) 1 → IsKept base → IsLowest f → Fits f
    → IsRatio f (joint_num base num den) (joint_den base den) → (unsigned_abs rest < PART_BOUND) × (unsigned_abs num ≤ (PART_BOUND - 1) * (PART_BOUND - 1) + (PART_BOUND - 1) * (PART_BOUND - 1))
fitting_sum base num den rest share f part den_up lowest kept f_lowest fits ratio =
    let d_is : pos (unsigned_abs den) ≡ den = up den den_up in
    let h : f.num *ℤ (pos base.den *ℤ pos (unsigned_abs den)) ≡ (base.num *ℤ pos (unsigned_abs den) +ℤ num *ℤ pos base.den) *ℤ pos f.den =
    subst (λ (z : ℤ). f.num *ℤ (pos base.den *ℤ z) ≡ (base.num *ℤ z +ℤ num *ℤ pos base.den) *ℤ pos f.den) (sym d_is) ratio in
    let den_abs : unsigned_abs den ≡ part.factor * unsigned_abs rest = ap unsigned_abs (sym part.den_is) ∙ unsigned_abs-mul (pos part.factor) rest in
    let base_abs : base.den ≡ part.factor * unsigned_abs share = ap unsigned_abs (sym part.num_is) ∙ unsigned_abs-mul (pos part.factor) share in
    let less : unsigned_abs rest ≤ f.den = rest_small f.num base.num num base.den f.den (unsigned_abs den) part.factor (unsigned_abs rest) (unsigned_abs share) part.above f_lowest.above lowest den_abs base_abs part.lowest h in
    let f_den : f.den < PART_BOUND = fits.den_fits in
    let f_num : unsigned_abs f.num < PART_BOUND = fits.num_fits in
    let b_den : base.den < PART_BOUND = kept.fits.den_fits in
    let b_num : unsigned_abs base.num < PART_BOUND = kept.fits.num_fits in (
      omega (arith, less, f_den),
      num_small f.num base.num num base.den f.den (unsigned_abs den) (PART_BOUND - 1) (some_up den den_up) kept.lowest.above f_lowest.above lowest h
          (below (unsigned_abs f.num) f_num) (below (unsigned_abs base.num) b_num) (below base.den b_den) (below f.den f_den),
    )
  where
    below : (n : ℕ) → n < PART_BOUND → n ≤ PART_BOUND - 1
    below n h = omega (arith, h)

pub rest_unfit : (base : Fraction) (num den rest share : ℤ) → IsLowestPart (pos base.den) den share rest → pos 0 <ℤ den → IsGcd (unsigned_abs num) (unsigned_abs den) 1 → IsKept base → PART_BOUND ≤ unsigned_abs rest → IsUnfitRatio (joint_num base num den) (joint_den base den)
rest_unfit base num den rest share part den_up lowest kept large f f_lowest ratio fits =
    let less = (fitting_sum base num den rest share f part den_up lowest kept f_lowest fits ratio).0 in
    absurd (omega (arith, large, less))

pub num_unfit : (base : Fraction) (num den rest share : ℤ) → IsLowestPart (pos base.den) den share rest → pos 0 <ℤ den → IsGcd (unsigned_abs num) (unsigned_abs den) 1 → IsKept base → 2 * (PART_BOUND - 1) * (PART_BOUND - 1) < unsigned_abs num
    → IsUnfitRatio (joint_num base num den) (joint_den base den)
num_unfit base num den rest share part den_up lowest kept large f f_lowest ratio fits =
    let less = (fitting_sum base num den rest share f part den_up lowest kept f_lowest fits ratio).1 in
    absurd (omega (arith, large, less))

-- the sum with the common factor taken out
num_parts : (b n c q e : ℤ) → c *ℤ (q *ℤ b +ℤ n *ℤ e) ≡ b *ℤ (c *ℤ q) +ℤ n *ℤ (c *ℤ e)
num_parts b n c q e = mul-add_left c (q *ℤ b) (n *ℤ e) ∙ ap₂ ◌+ℤ◌ (sym (mul_assoc_ℤ c q b) ∙ *ℤ_comm (c *ℤ q) b) (mul_left_comm_ℤ c n e)

joint_num_is : (base : Fraction) (num den rest share : ℤ) → (part : IsLowestPart (pos base.den) den share rest) → pos part.factor *ℤ (rest *ℤ base.num +ℤ num *ℤ share) ≡ joint_num base num den
joint_num_is base num den rest share part = num_parts base.num num (pos part.factor) rest share ∙ ap₂ (λ (x y : ℤ). base.num *ℤ x +ℤ num *ℤ y) part.den_is part.num_is

joint_den_is : (base : Fraction) (den rest share : ℤ) → (part : IsLowestPart (pos base.den) den share rest) → pos part.factor *ℤ (rest *ℤ pos base.den) ≡ joint_den base den
joint_den_is base den rest share part = sym (mul_assoc_ℤ (pos part.factor) rest (pos base.den)) ∙ ap (λ (z : ℤ). z *ℤ pos base.den) part.den_is ∙ *ℤ_comm den (pos base.den)

pub joint_ratio : (base f : Fraction) (num den rest share : ℤ) → IsLowestPart (pos base.den) den share rest → IsRatio f (rest *ℤ base.num +ℤ num *ℤ share) (rest *ℤ pos base.den) → IsRatio f (joint_num base num den) (joint_den base den)
joint_ratio base f num den rest share part r =
    subst₂ (λ (x y : ℤ). IsRatio f x y) (joint_num_is base num den rest share part) (joint_den_is base den rest share part) (ratio_up part.factor f (rest *ℤ base.num +ℤ num *ℤ share) (rest *ℤ pos base.den) r)

pub joint_unfit : (base : Fraction) (num den rest share : ℤ) → IsLowestPart (pos base.den) den share rest → IsUnfitRatio (rest *ℤ base.num +ℤ num *ℤ share) (rest *ℤ pos base.den) → IsUnfitRatio (joint_num base num den) (joint_den base den)
joint_unfit base num den rest share part none =
    subst₂ (λ (x y : ℤ). IsUnfitRatio x y) (joint_num_is base num den rest share part) (joint_den_is base den rest share part) (unfit_up part.factor (rest *ℤ base.num +ℤ num *ℤ share) (rest *ℤ pos base.den) part.above none)

-- a factor of a base's denominator is as small as that
pub share_small : (base : Fraction) (den rest share : ℤ) → IsLowestPart (pos base.den) den share rest → IsKept base → unsigned_abs share < PART_BOUND
share_small base den rest share part kept =
    let base_abs : base.den ≡ part.factor * unsigned_abs share = ap unsigned_abs (sym part.num_is) ∙ unsigned_abs-mul (pos part.factor) share in
    let l : 1 * unsigned_abs share ≤ part.factor * unsigned_abs share = mul-le-mul part.above (let r : unsigned_abs share ≤ unsigned_abs share = omega arith in r) in
    let b : base.den < PART_BOUND = kept.fits.den_fits in
    omega (arith, base_abs, l, b)

-- ---- within 128 bits

pub right_small : (num share : ℤ) → unsigned_abs num ≤ 2 * (PART_BOUND - 1) * (PART_BOUND - 1) → unsigned_abs share < PART_BOUND → unsigned_abs (num *ℤ share) ≤ 2 * (PART_BOUND - 1) * (PART_BOUND - 1) * (PART_BOUND - 1)
right_small num share h k = abs_times num share (2 * (PART_BOUND - 1) * (PART_BOUND - 1)) (PART_BOUND - 1) h (omega (arith, k))

pub right_fits : (num share : ℤ) → unsigned_abs num ≤ 2 * (PART_BOUND - 1) * (PART_BOUND - 1) → unsigned_abs share < PART_BOUND → SFits w128 (num *ℤ share)
right_fits num share h k = let l = right_small num share h k in fits_signed_from_abs w128 (num *ℤ share) (omega (arith, l))

pub sum_fits : (rest b num share : ℤ) → unsigned_abs rest < PART_BOUND → IsFitting b → unsigned_abs num ≤ 2 * (PART_BOUND - 1) * (PART_BOUND - 1) → unsigned_abs share < PART_BOUND → SFits w128 (rest *ℤ b +ℤ num *ℤ share)
sum_fits rest b num share less fits h k =
    let l = abs_sum (rest *ℤ b) (num *ℤ share) ((PART_BOUND - 1) * (PART_BOUND - 1)) (2 * (PART_BOUND - 1) * (PART_BOUND - 1) * (PART_BOUND - 1)) (abs_times rest b (PART_BOUND - 1) (PART_BOUND - 1) (omega (arith, less)) (omega (arith, fits))) (right_small num share h k) in
    fits_signed_from_abs w128 (rest *ℤ b +ℤ num *ℤ share) (omega (arith, l))

-- ---- the move

moved_num : (base v : Fraction) (times over g n d : ℤ) → g *ℤ n ≡ times *ℤ v.num → g *ℤ d ≡ over *ℤ pos v.den → g *ℤ joint_num base n d ≡ sum_num base times over v
moved_num base v times over g n d e f =
    mul-add_left g (base.num *ℤ d) (n *ℤ pos base.den)
    ∙ ap₂ ◌+ℤ◌ (mul_left_comm_ℤ g base.num d ∙ ap (λ (z : ℤ). base.num *ℤ z) f)
    (sym (mul_assoc_ℤ g n (pos base.den)) ∙ ap (λ (z : ℤ). z *ℤ pos base.den) e ∙ mul_assoc_ℤ times v.num (pos base.den))

moved_den : (base v : Fraction) (over g d : ℤ) → g *ℤ d ≡ over *ℤ pos v.den → g *ℤ joint_den base d ≡ sum_den base over v
moved_den base v over g d f = mul_left_comm_ℤ g (pos base.den) d ∙ ap (λ (z : ℤ). pos base.den *ℤ z) f

pub moved_ratio : (base v f : Fraction) (times over n d : ℤ) → IsLowestPart (times *ℤ v.num) (over *ℤ pos v.den) n d → IsRatio f (joint_num base n d) (joint_den base d) → IsRatio f (sum_num base times over v) (sum_den base over v)
moved_ratio base v f times over n d part r =
    subst₂ (λ (x y : ℤ). IsRatio f x y) (moved_num base v times over (pos part.factor) n d part.num_is part.den_is) (moved_den base v over (pos part.factor) d part.den_is)
    (ratio_up part.factor f (joint_num base n d) (joint_den base d) r)

pub moved_unfit : (base v : Fraction) (times over n d : ℤ) → IsLowestPart (times *ℤ v.num) (over *ℤ pos v.den) n d → IsUnfitRatio (joint_num base n d) (joint_den base d) → IsUnfitRatio (sum_num base times over v) (sum_den base over v)
moved_unfit base v times over n d part none =
    subst₂ (λ (x y : ℤ). IsUnfitRatio x y) (moved_num base v times over (pos part.factor) n d part.num_is part.den_is) (moved_den base v over (pos part.factor) d part.den_is)
    (unfit_up part.factor (joint_num base n d) (joint_den base d) part.above none)
