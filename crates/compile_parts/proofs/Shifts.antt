-- The sum of two quotients over the parts of the denominators that they don't share.
use Rattle.std.proofs.Common.{◌≡◌, ℕ, ◌+◌, ◌*◌, ◌/◌, ◌%◌, ◌<◌, ◌≤◌, ◌^◌, ℤ, pos, neg_ℤ, ◌+ℤ◌, ◌-ℤ◌, ◌*ℤ◌, ◌<ℤ◌, sym, subst, ap, ap₂, ◌∙◌, arith, mul-pos}
use Prim.Native.Nat.{◌∣◌}
use Rattle.std.specs.Prelude.{unsigned_abs}
use Rattle.std.specs.Int.{IsGcd}
use borrow.Author.Differences.{ints}
use Rattle.std.proofs.lemmas.Int.{unsigned_abs-mul}
use Rattle.std.proofs.lemmas.Nat.Gcd.{le_of_dvd}
use Rattle.std.proofs.Math.Nat.{div-mul-le_self, div-add-mod, dvd-mul_right, dvd_of_mul-dvd-mul_left, mul-le-mul, mul-le-mul_right, le_of_mul-le-mul_right}
use Rattle.frac_core.specs.Fraction.{Fraction, IsLowest, IsRatio}
use Rattle.frac_core.proofs.Gauss.{gauss}
use Rattle.frac_core.proofs.Integers.{on_2, diff_eq, diff-add, diff-mul, diff-neg, diff-pos, neg-pos, cancel_mul, mul-sub_left, mul-add_left, mul_positive, mul_assoc_ℤ, mul_left_comm_ℤ}
use Rattle.compile_parts.specs.Fractions.{plus, IsConstant}
use Rattle.compile_parts.specs.Quotients.{IsDivided, IsReduced}
use Rattle.frac_core.proofs.Numbers.{pos-size as as_pos}

-- ---- what isn't small

-- n/d is a/b + x/y: y divides x*b*d
apart_multiple : (n a x : ℤ) (b y d : ℕ) → n *ℤ (pos b *ℤ pos y) ≡ (a *ℤ pos y +ℤ x *ℤ pos b) *ℤ pos d → x *ℤ pos (b * d) ≡ pos y *ℤ (n *ℤ pos b -ℤ a *ℤ pos d)
apart_multiple n a x b y d ratio =
    taken (x *ℤ pos (b * d)) (pos y *ℤ (n *ℤ pos b)) (pos y *ℤ (a *ℤ pos d)) (sym (left n b y) ∙ ratio ∙ right a x b y d) ∙ sym (mul-sub_left (pos y) (n *ℤ pos b) (a *ℤ pos d))
  where
    left : (n : ℤ) (b y : ℕ) → n *ℤ (pos b *ℤ pos y) ≡ pos y *ℤ (n *ℤ pos b)
    left n b y = on_2 (λ n o. n *ℤ (pos b *ℤ pos y) ≡ pos y *ℤ (n *ℤ pos b)) (λ a a' o o'. simp (diff-add, diff-mul, diff-pos) (diff_eq _ _ _ _ (omega arith))) n n

    right : (a x : ℤ) (b y d : ℕ) → (a *ℤ pos y +ℤ x *ℤ pos b) *ℤ pos d ≡ pos y *ℤ (a *ℤ pos d) +ℤ x *ℤ pos (b * d)
    right a x b y d = on_2 (λ a x. (a *ℤ pos y +ℤ x *ℤ pos b) *ℤ pos d ≡ pos y *ℤ (a *ℤ pos d) +ℤ x *ℤ pos (b * d)) (λ a a' c c'. simp (diff-add, diff-mul, diff-pos) (diff_eq _ _ _ _ (omega arith))) a x

    taken : (z u v : ℤ) → u ≡ v +ℤ z → z ≡ u -ℤ v
    taken z u v e = omega (arith, ints)

-- the sizes: X*b*d = y*w, where w is at most N*b + A*d
sizes_apart : (n a x : ℤ) (b y d : ℕ) → x *ℤ pos (b * d) ≡ pos y *ℤ (n *ℤ pos b -ℤ a *ℤ pos d) → unsigned_abs x * (b * d) ≡ y * unsigned_abs (n *ℤ pos b -ℤ a *ℤ pos d)
sizes_apart n a x b y d same = sym (unsigned_abs-mul x (pos (b * d))) ∙ ap unsigned_abs same ∙ unsigned_abs-mul (pos y) (n *ℤ pos b -ℤ a *ℤ pos d)

size_sub : (u v : ℤ) → unsigned_abs (u -ℤ v) ≤ unsigned_abs u + unsigned_abs v
size_sub u v = omega (arith, ints)

size_apart : (n a : ℤ) (b d : ℕ) → unsigned_abs (n *ℤ pos b -ℤ a *ℤ pos d) ≤ unsigned_abs n * b + unsigned_abs a * d
size_apart n a b d = omega (arith, size_sub (n *ℤ pos b) (a *ℤ pos d), unsigned_abs-mul n (pos b), unsigned_abs-mul a (pos d))

-- the own part of y divides d
own_divides : (X b y B D g d w : ℕ) → 0 < g → g * B ≡ b → g * D ≡ y → IsGcd X y 1 → IsGcd B D 1 → X * (b * d) ≡ y * w → D ∣ d
own_divides X b y B D g d w some b_is y_is low apart same =
    let whole : y ∣ X * (b * d) = subst (λ (n : ℕ). y ∣ n) (sym same) (dvd-mul_right y w) in
    let first : y ∣ b * d = gauss X y (b * d) low whole in
    let grouped : b * d ≡ g * (B * d) = ap (λ (n : ℕ). n * d) (sym b_is) ∙ assoc g B d in
    let second : g * D ∣ g * (B * d) = subst (λ (n : ℕ). n ∣ g * (B * d)) (sym y_is) (subst (λ (n : ℕ). y ∣ n) grouped first) in
    gauss B D d apart (dvd_of_mul-dvd-mul_left D some second)
  where
    assoc : (a b c : ℕ) → (a * b) * c ≡ a * (b * c)
    assoc a b c = omega arith

-- what is left of x's part
own_small : (X b y B D g d w : ℕ) → 0 < g → 0 < d → g * B ≡ b → g * D ≡ y → D ≤ d → X * (b * d) ≡ y * w → X * B ≤ w
own_small X b y B D g d w some some_d b_is y_is less same =
    let scaled : g * ((X * B) * d) ≡ g * (D * w) = sym (left X g B d) ∙ ap (λ (n : ℕ). X * (n * d)) b_is ∙ same ∙ ap (λ (n : ℕ). n * w) (sym y_is) ∙ assoc g D w in
    let equal : (X * B) * d ≡ D * w = cancel g ((X * B) * d) (D * w) some scaled in
    let most : D * w ≤ d * w = mul-le-mul_right w less in
    le_of_mul-le-mul_right (let h : (X * B) * d ≤ w * d = omega (arith, equal, most) in h) some_d
  where
    left : (X g B d : ℕ) → X * ((g * B) * d) ≡ g * ((X * B) * d)
    left X g B d = omega arith

    assoc : (a b c : ℕ) → (a * b) * c ≡ a * (b * c)
    assoc a b c = omega arith

    cancel : (g a b : ℕ) → 0 < g → g * a ≡ g * b → a ≡ b
    cancel g a b h e = antisym a b (lower g a b h e) (lower g b a h (sym e))
      where
        lower : (g a b : ℕ) → 0 < g → g * a ≡ g * b → a ≤ b
        lower g a b h e = le_of_mul-le-mul_right (let k : a * g ≤ b * g = omega (arith, e) in k) h

        antisym : (a b : ℕ) → a ≤ b → b ≤ a → a ≡ b
        antisym a b h k = omega (arith, h, k)

bound : (a b : ℕ) → a < 2 ^ 70 → b < 2 ^ 40 → a * b < 2 ^ 110
bound a b h k = omega (arith, most a b 1180591620717411303423 1099511627775 (omega (arith, h)) (omega (arith, k)))
  where
    most : (a b m n : ℕ) → a ≤ m → b ≤ n → a * b ≤ m * n
    most a b m n h k = mul-le-mul h k

-- where the sum is small, none of the products is past 2^112
pub record AreProductsSmall (A X B D b : ℕ) : Type 0 where
  pub left : A * D < 2 ^ 112
  pub right : X * B < 2 ^ 112
  pub den : b * D < 2 ^ 112

pub products_small : (n a x : ℤ) (b y B D g d : ℕ) → 0 < g → 0 < d → g * B ≡ b → g * D ≡ y → IsGcd (unsigned_abs x) y 1 → IsGcd B D 1
    → n *ℤ (pos b *ℤ pos y) ≡ (a *ℤ pos y +ℤ x *ℤ pos b) *ℤ pos d → unsigned_abs a < 2 ^ 70 → b < 2 ^ 70 → unsigned_abs n < 2 ^ 40 → d < 2 ^ 40 → AreProductsSmall (unsigned_abs a) (unsigned_abs x) B D b
products_small n a x b y B D g d some some_d b_is y_is low apart ratio small_a small_b small_n small_d =
    let same = sizes_apart n a x b y d (apart_multiple n a x b y d ratio) in
    let divides : D ∣ d = own_divides (unsigned_abs x) b y B D g d (unsigned_abs (n *ℤ pos b -ℤ a *ℤ pos d)) some b_is y_is low apart same in
    let less : D ≤ d = le_of_dvd some_d divides in
    let own = own_small (unsigned_abs x) b y B D g d (unsigned_abs (n *ℤ pos b -ℤ a *ℤ pos d)) some some_d b_is y_is less same in
    let own_D : D < 2 ^ 40 = omega (arith, less, small_d) in
    record {
      left = omega (arith, bound (unsigned_abs a) D small_a own_D);
      right = omega (arith, own, size_apart n a b d, bound (unsigned_abs a) d small_a small_d, swapped (unsigned_abs n) b small_n small_b);
      den = omega (arith, bound b D small_b own_D);
    }
  where
    swapped : (n b : ℕ) → n < 2 ^ 40 → b < 2 ^ 70 → n * b < 2 ^ 110
    swapped n b h k = omega (arith, bound b n k h)

-- ---- the constant with a value more

change_left : (c x : ℤ) (k g y ed b : ℕ) → (pos k *ℤ c *ℤ pos y +ℤ x *ℤ pos b) *ℤ pos (ed * (g * y)) ≡ pos (k * (g * (y * y))) *ℤ (c *ℤ pos ed) +ℤ pos (b * (ed * y)) *ℤ (pos g *ℤ x)
change_left c x k g y ed b = on_2 (λ c x. (pos k *ℤ c *ℤ pos y +ℤ x *ℤ pos b) *ℤ pos (ed * (g * y)) ≡ pos (k * (g * (y * y))) *ℤ (c *ℤ pos ed) +ℤ pos (b * (ed * y)) *ℤ (pos g *ℤ x)) (λ a a' b b'. simp (diff-add, diff-mul, diff-pos) (diff_eq _ _ _ _ (omega arith))) c x

change_right : (e p : ℤ) (k j g y ed cd : ℕ) → pos (k * (g * (y * y))) *ℤ (neg_ℤ (pos j *ℤ e) *ℤ pos cd) +ℤ pos ((j * cd) * (ed * y)) *ℤ (neg_ℤ (pos k) *ℤ p) ≡ neg_ℤ (pos k *ℤ (e *ℤ pos (g * y) +ℤ p *ℤ pos ed)) *ℤ pos ((j * cd) * y)
change_right e p k j g y ed cd = on_2 (λ e p. pos (k * (g * (y * y))) *ℤ (neg_ℤ (pos j *ℤ e) *ℤ pos cd) +ℤ pos ((j * cd) * (ed * y)) *ℤ (neg_ℤ (pos k) *ℤ p) ≡ neg_ℤ (pos k *ℤ (e *ℤ pos (g * y) +ℤ p *ℤ pos ed)) *ℤ pos ((j * cd) * y)) (λ a a' b b'. simp (neg-pos, diff-neg, diff-add, diff-mul, diff-pos) (diff_eq _ _ _ _ (omega arith))) e p

-- k'/k*c + x/y is -k'*(e + p), as a cross product
pub change_same : (e p : Fraction) (c : Fraction) (x : ℤ) (k j g y : ℕ) → IsConstant j e c → g * y ≡ p.den → pos g *ℤ x ≡ neg_ℤ (pos k) *ℤ p.num
    → (pos k *ℤ c.num *ℤ pos y +ℤ x *ℤ pos (j * c.den)) *ℤ pos (plus e p).den ≡ neg_ℤ (pos k *ℤ (plus e p).num) *ℤ pos ((j * c.den) * y)
change_same e p c x k j g y is den num =
    ap (λ (n : ℕ). (pos k *ℤ c.num *ℤ pos y +ℤ x *ℤ pos (j * c.den)) *ℤ pos (e.den * n)) (sym den)
    ∙ change_left c.num x k g y e.den (j * c.den)
    ∙ ap₂ (λ (s t : ℤ). pos (k * (g * (y * y))) *ℤ s +ℤ pos ((j * c.den) * (e.den * y)) *ℤ t) is.value num
    ∙ change_right e.num p.num k j g y e.den c.den
    ∙ ap (λ (n : ℕ). neg_ℤ (pos k *ℤ (e.num *ℤ pos n +ℤ p.num *ℤ pos e.den)) *ℤ pos ((j * c.den) * y)) den

-- equal quotients are those of one fraction
pub same_ratio : (f : Fraction) (p r : ℤ) (q s : ℕ) → 0 < q → p *ℤ pos s ≡ r *ℤ pos q → IsRatio f p (pos q) → IsRatio f r (pos s)
same_ratio f p r q s some same is =
    cancel_mul q (f.num *ℤ pos s) (r *ℤ pos f.den) some (swap f.num q s ∙ ap (λ (t : ℤ). pos s *ℤ t) is ∙ swap p s f.den ∙ ap (λ (t : ℤ). pos f.den *ℤ t) same ∙ swap r f.den q)
  where
    swap : (z : ℤ) (q s : ℕ) → pos q *ℤ (z *ℤ pos s) ≡ pos s *ℤ (z *ℤ pos q)
    swap z q s = on_2 (λ z o. pos q *ℤ (z *ℤ pos s) ≡ pos s *ℤ (z *ℤ pos q)) (λ a a' b b'. simp (diff-add, diff-mul, diff-pos) (diff_eq _ _ _ _ (omega arith))) z z

-- ---- a product that is bounded by a quotient

pub within_quotient : (x y m : ℕ) → x ≤ m / y → x * y ≤ m
within_quotient x y m h =
    let most : x * y ≤ m / y * y = mul-le-mul_right y h in
    omega (arith, most, div-mul-le_self m y)

pub past_quotient : (x y m : ℕ) → 0 < y → m / y < x → m < x * y
past_quotient x y m some h =
    let parts : y * (m / y) + m % y ≡ m = div-add-mod m y in
    let rest : m % y < y = omega (arith, some) in
    let more : (m / y + 1) * y ≤ x * y = mul-le-mul_right y (let k : m / y + 1 ≤ x = omega (arith, h) in k) in
    omega (arith, parts, rest, more)

-- ---- the same for what the code keeps

size_shared : (g : ℕ) (x p : ℤ) → pos g *ℤ x ≡ p → g * unsigned_abs x ≡ unsigned_abs p
size_shared g x p is = sym (unsigned_abs-mul (pos g) x) ∙ ap unsigned_abs is

pub common_small : (a b x y s t : ℤ) (f : Fraction) → unsigned_abs a < 2 ^ 70 → unsigned_abs b < 2 ^ 70 → pos 0 <ℤ b → pos 0 <ℤ y → IsGcd (unsigned_abs x) (unsigned_abs y) 1 → IsReduced b y s t
    → IsLowest f → IsRatio f (a *ℤ y +ℤ x *ℤ b) (b *ℤ y) → unsigned_abs f.num < 2 ^ 40 → f.den < 2 ^ 40 → AreProductsSmall (unsigned_abs a) (unsigned_abs x) (unsigned_abs s) (unsigned_abs t) (unsigned_abs b)
common_small a b x y s t f small_a small_b above_b above_y low is lowest ratio num_small den_small =
    products_small f.num a x (unsigned_abs b) (unsigned_abs y) (unsigned_abs s) (unsigned_abs t) is.divided.divisor f.den is.divided.above lowest.above
    (size_shared is.divided.divisor s b is.divided.num) (size_shared is.divided.divisor t y is.divided.den) low is.apart
    (ap₂ (λ (u v : ℤ). f.num *ℤ (u *ℤ v)) (as_pos b above_b) (as_pos y above_y) ∙ ratio ∙ sym (ap₂ (λ (u v : ℤ). (a *ℤ v +ℤ x *ℤ u) *ℤ pos f.den) (as_pos b above_b) (as_pos y above_y))) small_a small_b num_small den_small

pub common_divided : (a b x y s t p q : ℤ) → pos 0 <ℤ b → IsReduced b y s t → p ≡ a *ℤ t +ℤ x *ℤ s → q ≡ b *ℤ t → IsDivided (a *ℤ y +ℤ x *ℤ b) (b *ℤ y) p q
common_divided a b x y s t p q above is num den = record {
  divisor = is.divided.divisor;
  above = is.divided.above;
  num = ap (λ (z : ℤ). pos is.divided.divisor *ℤ z) num ∙ mul-add_left (pos is.divided.divisor) (a *ℤ t) (x *ℤ s) ∙ ap₂ ◌+ℤ◌ (mul_left_comm_ℤ (pos is.divided.divisor) a t ∙ ap (λ (z : ℤ). a *ℤ z) is.divided.den) (mul_left_comm_ℤ (pos is.divided.divisor) x s ∙ ap (λ (z : ℤ). x *ℤ z) is.divided.num);
  den = ap (λ (z : ℤ). pos is.divided.divisor *ℤ z) den ∙ mul_left_comm_ℤ (pos is.divided.divisor) b t ∙ ap (λ (z : ℤ). b *ℤ z) is.divided.den;
  den_above = rw den (subst (λ (z : ℤ). pos 0 <ℤ (z *ℤ t)) (as_pos b above) (mul_positive (unsigned_abs b) t (omega (arith, ints, above)) is.divided.den_above));
}

-- ---- the constant after a value more

-- what a change of the constant starts from
pub record IsMove (k j : ℕ) (e p c : Fraction) (m q a b x y : ℤ) : Type 0 where
  pub above : 0 < e.den
  pub num : m ≡ p.num
  pub den : q ≡ pos p.den
  pub constant : IsConstant j e c
  pub change : IsReduced (neg_ℤ (pos k) *ℤ m) q x y
  pub a_is : a ≡ pos k *ℤ c.num
  pub b_is : b ≡ pos j *ℤ pos c.den
  pub scale : 0 < j

-- the two sums are one value
cross_same : (k j : ℕ) (e p c : Fraction) (m q a b x y : ℤ) → IsMove k j e p c m q a b x y → (a *ℤ y +ℤ x *ℤ b) *ℤ pos (plus e p).den ≡ neg_ℤ (pos k *ℤ (plus e p).num) *ℤ (b *ℤ y)
cross_same k j e p c m q a b x y is =
    let y_is : pos (unsigned_abs y) ≡ y = as_pos y is.change.divided.den_above in
    let den : is.change.divided.divisor * unsigned_abs y ≡ p.den = size_shared is.change.divided.divisor y q is.change.divided.den ∙ ap unsigned_abs is.den in
    let num : pos is.change.divided.divisor *ℤ x ≡ neg_ℤ (pos k) *ℤ p.num = is.change.divided.num ∙ ap (λ (z : ℤ). neg_ℤ (pos k) *ℤ z) is.num in
    let same = change_same e p c x k j is.change.divided.divisor (unsigned_abs y) is.constant den num in
    ap₂ (λ (s t : ℤ). (s *ℤ t +ℤ x *ℤ b) *ℤ pos (plus e p).den) is.a_is (sym y_is)
    ∙ ap (λ (s : ℤ). ((pos k *ℤ c.num) *ℤ pos (unsigned_abs y) +ℤ x *ℤ s) *ℤ pos (plus e p).den) is.b_is
    ∙ same
    ∙ ap₂ (λ (s t : ℤ). neg_ℤ (pos k *ℤ (plus e p).num) *ℤ (s *ℤ t)) (sym is.b_is) y_is

below_above : (k j : ℕ) (e p c : Fraction) (m q a b x y : ℤ) → IsMove k j e p c m q a b x y → pos 0 <ℤ (b *ℤ y)
below_above k j e p c m q a b x y is = rw is.b_is (mul_positive (j * c.den) y (mul-pos is.scale is.constant.lowest.above) is.change.divided.den_above)

-- the value of the sum of a/b and x/y is the constant's
pub moved_to : (k j : ℕ) (e p c : Fraction) (m q a b x y : ℤ) (f : Fraction) → IsMove k j e p c m q a b x y → IsLowest f → IsRatio f (a *ℤ y +ℤ x *ℤ b) (b *ℤ y) → IsConstant k (plus e p) f
moved_to k j e p c m q a b x y f is lowest ratio = record {
  lowest = lowest;
  value =
      let at : pos (unsigned_abs (b *ℤ y)) ≡ b *ℤ y = as_pos (b *ℤ y) (below_above k j e p c m q a b x y is) in
      same_ratio f (a *ℤ y +ℤ x *ℤ b) (neg_ℤ (pos k *ℤ (plus e p).num)) (unsigned_abs (b *ℤ y)) (plus e p).den (omega (arith, ints, below_above k j e p c m q a b x y is))
      (cross_same k j e p c m q a b x y is ∙ ap (λ (z : ℤ). neg_ℤ (pos k *ℤ (plus e p).num) *ℤ z) (sym at)) (rw at ratio);
}

pub moved_from : (k j : ℕ) (e p c : Fraction) (m q a b x y : ℤ) (f : Fraction) → IsMove k j e p c m q a b x y → 0 < p.den → IsConstant k (plus e p) f → IsRatio f (a *ℤ y +ℤ x *ℤ b) (b *ℤ y)
moved_from k j e p c m q a b x y f is some constant =
    let at : pos (unsigned_abs (b *ℤ y)) ≡ b *ℤ y = as_pos (b *ℤ y) (below_above k j e p c m q a b x y is) in
    let ratio = same_ratio f (neg_ℤ (pos k *ℤ (plus e p).num)) (a *ℤ y +ℤ x *ℤ b) (plus e p).den (unsigned_abs (b *ℤ y)) (mul-pos is.above some)
    (ap (λ (z : ℤ). neg_ℤ (pos k *ℤ (plus e p).num) *ℤ z) at ∙ sym (cross_same k j e p c m q a b x y is)) constant.value in
    rw at at ratio

-- a ratio of shared parts is that of the whole
pub whole_ratio : (f : Fraction) (p q x y : ℤ) → IsDivided p q x y → IsRatio f x y → IsRatio f p q
whole_ratio f p q x y is ratio =
    ap (λ (z : ℤ). f.num *ℤ z) (sym is.den) ∙ mul_left_comm_ℤ f.num (pos is.divisor) y ∙ ap (λ (z : ℤ). pos is.divisor *ℤ z) ratio ∙ sym (mul_assoc_ℤ (pos is.divisor) x (pos f.den)) ∙ ap (λ (z : ℤ). z *ℤ pos f.den) is.num

pub shared_ratio : (f : Fraction) (p q x y : ℤ) → IsDivided p q x y → IsRatio f p q → IsRatio f x y
shared_ratio f p q x y is ratio =
    cancel_mul is.divisor (f.num *ℤ y) (x *ℤ pos f.den) is.above
    (mul_left_comm_ℤ (pos is.divisor) f.num y ∙ ap (λ (z : ℤ). f.num *ℤ z) is.den ∙ ratio ∙ ap (λ (z : ℤ). z *ℤ pos f.den) (sym is.num) ∙ mul_assoc_ℤ (pos is.divisor) x (pos f.den))
