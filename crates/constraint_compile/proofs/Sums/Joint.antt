-- A sum over its least scale, and the same with a share more.
use Rattle.std.proofs.Common.{◌≡◌, ℕ, zero, suc, ◌*◌, ◌/◌, ◌<◌, ◌≤◌, ◌^◌, List, [], ◌∷◌, length, get_or, ℤ, pos, ◌+ℤ◌, ◌*ℤ◌, sym, subst, ap, ap₂, ◌∙◌, arith, ◌⊎◌, inl, inr, mul-pos}
use Prim.Native.Nat.{◌∣◌}
use Rattle.std.specs.Prelude.{unsigned_abs}
use borrow.Author.Differences.{ints}
use Rattle.std.proofs.lemmas.Bool.{cases_eq}
use Rattle.std.proofs.lemmas.Int.{unsigned_abs-mul}
use Rattle.std.proofs.lemmas.Nat.Gcd.{le_of_dvd}
use Rattle.std.proofs.lemmas.List.{get_or_default}
use Rattle.std.proofs.lemmas.List.Elements.{All-cons}
use Rattle.std.proofs.Math.Nat.{dvd-mul_right, dvd_of_mul-dvd-mul_right, div-mul_cancel, eq-zero_of_zero-dvd, mul-le-mul_left}
use Rattle.frac_core.specs.Fraction.{Fraction}
use Rattle.frac_core.proofs.Integers.{cancel_mul, mul_assoc_ℤ, mul_left_comm_ℤ, on_2, diff_eq, diff-add, diff-mul, diff-pos, mul-zero_ℤ, zero-mul_ℤ}
use Rattle.problem_core.specs.Layout.{coefficient}
use Rattle.compile_parts.specs.Fractions.{plus, IsOver, IsScale, MakesWhole, AreSmall}
use Rattle.compile_parts.specs.Shares.{IsOff, share_fraction, form}
use Rattle.constraint_compile.specs.Coefficients.Sums.{AreOver, AreKept, HasOnly, IsSum, IsCovered, IsDivisor, AreDivided, IsPast, attr_at, number_at, with_share, with_share_number}
use Rattle.compile_parts.specs.declared.shares.Share.{Share}
use Rattle.constraint_compile.proofs.Sums.Quotients.{has_quotient}
use Rattle.frac_core.proofs.Gauss.{above_left as quotient_above}

-- ---- one number

ring_left : (z w : ℤ) (k d m : ℕ) → (z *ℤ pos m +ℤ pos k *ℤ w) *ℤ pos (d * m) ≡ (z *ℤ pos d) *ℤ pos (m * m) +ℤ pos (k * m) *ℤ (w *ℤ pos d)
ring_left z w k d m = on_2 (λ z w. (z *ℤ pos m +ℤ pos k *ℤ w) *ℤ pos (d * m) ≡ (z *ℤ pos d) *ℤ pos (m * m) +ℤ pos (k * m) *ℤ (w *ℤ pos d)) (λ a a' b b'. simp (diff-add, diff-mul, diff-pos) (diff_eq _ _ _ _ (omega arith))) z w

ring_right : (n w : ℤ) (k d m : ℕ) → pos (k * m) *ℤ (n *ℤ pos m +ℤ w *ℤ pos d) ≡ (pos k *ℤ n) *ℤ pos (m * m) +ℤ pos (k * m) *ℤ (w *ℤ pos d)
ring_right n w k d m = on_2 (λ n w. pos (k * m) *ℤ (n *ℤ pos m +ℤ w *ℤ pos d) ≡ (pos k *ℤ n) *ℤ pos (m * m) +ℤ pos (k * m) *ℤ (w *ℤ pos d)) (λ a a' b b'. simp (diff-add, diff-mul, diff-pos) (diff_eq _ _ _ _ (omega arith))) n w

-- a number over k with another fraction added
over_plus : (k m : ℕ) (f : Fraction) (z w : ℤ) → IsOver k f z → IsOver (k * m) (plus f (record { num = w; den = m })) (z *ℤ pos m +ℤ pos k *ℤ w)
over_plus k m f z w is =
    ring_left z w k f.den m ∙ ap (λ (t : ℤ). t *ℤ pos (m * m) +ℤ pos (k * m) *ℤ (w *ℤ pos f.den)) is ∙ sym (ring_right f.num w k f.den m)

over_share : (k : ℕ) (b : ℕ → Fraction) (s : Share) (v : ℕ) (z : ℤ) → IsOver k (b v) z → IsOver (k * (s.by.den * 2)) (with_share b s v) (with_share_number z k s v)
over_share k b s v z is =
    let h : ℤ = coefficient v (form s.of) in
    ap (λ (t : ℤ). (z *ℤ pos (s.by.den * 2) +ℤ t) *ℤ pos ((b v).den * (s.by.den * 2))) (mul_left_comm_ℤ s.by.num (pos k) h)
    ∙ over_plus k (s.by.den * 2) (b v) z (s.by.num *ℤ h) is

-- the same divided
over_divided : (k g : ℕ) (f : Fraction) (z n : ℤ) → 0 < g → pos g *ℤ n ≡ z → IsOver (k * g) f z → IsOver k f n
over_divided k g f z n some is over =
    cancel_mul g (n *ℤ pos f.den) (pos k *ℤ f.num) some
    (sym (mul_assoc_ℤ (pos g) n (pos f.den)) ∙ ap (λ (t : ℤ). t *ℤ pos f.den) is ∙ over ∙ scaled k g f.num)
  where
    scaled : (k g : ℕ) (n : ℤ) → pos (k * g) *ℤ n ≡ pos g *ℤ (pos k *ℤ n)
    scaled k g n = ap (λ (t : ℕ). pos t *ℤ n) (let e : k * g ≡ g * k = omega arith in e) ∙ mul_assoc_ℤ (pos g) (pos k) n

-- ---- places

pub find_place : (attrs : List ℕ) (v : ℕ) → ((i : ℕ) × (i < length attrs) × (attr_at attrs i ≡ v)) ⊎ IsOff attrs v
find_place [] v = inr (λ k d h. absurd (omega (arith, h)))
find_place (a ∷ attrs) v = elim (cases_eq a v) [
  | inl same ↦ inl (zero, omega arith, same)
  | inr other ↦ further (find_place attrs v) other
]
  where
    further : ((i : ℕ) × (i < length attrs) × (attr_at attrs i ≡ v)) ⊎ IsOff attrs v → (a ≡ v → ⊥) → ((i : ℕ) × (i < length (a ∷ attrs)) × (attr_at (a ∷ attrs) i ≡ v)) ⊎ IsOff (a ∷ attrs) v
    further (inl (i, within, is)) other = inl (suc i, omega (arith, within), is)
    further (inr off) other = inr (All-cons (λ x. x ≡ v → ⊥) a attrs other off)

-- ---- the sum

pub only_share : (b : ℕ → Fraction) (attrs : List ℕ) (s : Share) → HasOnly b attrs → IsCovered attrs s → 0 < s.by.den → HasOnly (with_share b s) attrs
only_share b attrs s only covered some = record {
  off = λ v off. none (b v).num (share_fraction s v).num (b v).den (s.by.den * 2) (only.off v off) (covered v off);
  above = λ v. mul-pos (only.above v) (double s.by.den some);
}
  where
    double : (d : ℕ) → 0 < d → 0 < d * 2
    double d h = omega (arith, h)

    none : (x y : ℤ) (d m : ℕ) → x ≡ pos 0 → y ≡ pos 0 → x *ℤ pos m +ℤ y *ℤ pos d ≡ pos 0
    none x y d m e f = rw (e, f) (ap₂ ◌+ℤ◌ (zero-mul_ℤ (pos m)) (zero-mul_ℤ (pos d)))

pub over_shares : (k : ℕ) (b : ℕ → Fraction) (attrs : List ℕ) (numbers wide : List ℤ) (s : Share) → AreOver k b attrs numbers
    → ((i : ℕ) → i < length attrs → number_at wide i ≡ with_share_number (number_at numbers i) k s (attr_at attrs i))
    → AreOver (k * (s.by.den * 2)) (with_share b s) attrs wide
over_shares k b attrs numbers wide s over each = λ i within. rw (each i within) (over_share k b s (attr_at attrs i) (number_at numbers i) (over i within))

-- where both are whole, x over k and y over j are one fraction
same_fraction : (k j : ℕ) (f : Fraction) (x y : ℤ) → 0 < f.den → IsOver k f x → IsOver j f y → pos k *ℤ y ≡ pos j *ℤ x
same_fraction k j f x y some over_x over_y = cancel_mul f.den (pos k *ℤ y) (pos j *ℤ x) some (left k y f.den ∙ ap (λ (t : ℤ). pos k *ℤ t) over_y ∙ mul_left_comm_ℤ (pos k) (pos j) f.num ∙ ap (λ (t : ℤ). pos j *ℤ t) (sym over_x) ∙ sym (left j x f.den))
  where
    left : (k : ℕ) (y : ℤ) (d : ℕ) → pos d *ℤ (pos k *ℤ y) ≡ pos k *ℤ (y *ℤ pos d)
    left k y d = mul_left_comm_ℤ (pos d) (pos k) y ∙ ap (λ (t : ℤ). pos k *ℤ t) (let e : pos d *ℤ y ≡ y *ℤ pos d = omega (arith, ints) in e)

divides_multiple : (k j : ℕ) (x y : ℤ) → pos k *ℤ y ≡ pos j *ℤ x → k ∣ unsigned_abs x * j
divides_multiple k j x y same =
    let sizes : k * unsigned_abs y ≡ j * unsigned_abs x = sym (unsigned_abs-mul (pos k) y) ∙ ap unsigned_abs same ∙ unsigned_abs-mul (pos j) x in
    let is : k * unsigned_abs y ≡ unsigned_abs x * j = omega (arith, sizes) in
    subst (λ (n : ℕ). k ∣ n) is (dvd-mul_right k (unsigned_abs y))

-- the whole number divided by the common divisor is the scale
pub scale_divided : (b : ℕ → Fraction) (attrs : List ℕ) (whole : ℕ) (wide : List ℤ) (g k : ℕ) → HasOnly b attrs → length wide ≡ length attrs → 0 < whole → AreOver whole b attrs wide → IsDivisor whole wide g → k * g ≡ whole → 0 < g → 0 < k → IsScale b k
scale_divided b attrs whole wide g k only long some over divisor is some_g some_k = record {
  above = some_k;
  whole = λ v. whole_at v (find_place attrs v);
  least = λ j some_j makes.
      let multiple : k * g ∣ g * j = subst (λ (n : ℕ). n ∣ g * j) (sym is) (divisor.greatest whole j (dvd-mul_right whole j) (λ i d within. each i d within j makes)) in
      let factor : k * g ∣ j * g = subst (λ (n : ℕ). k * g ∣ n) (let e : g * j ≡ j * g = omega arith in e) multiple in
      le_of_dvd some_j (dvd_of_mul-dvd-mul_right k some_g factor);
}
  where
    whole_at : (v : ℕ) → ((i : ℕ) × (i < length attrs) × (attr_at attrs i ≡ v)) ⊎ IsOff attrs v → (z : ℤ) × IsOver k (b v) z
    whole_at v (inl (i, within, at)) =
        let quotient = has_quotient (number_at wide i) g (divisor.of_each i (pos 0) (omega (arith, within, long))) in
        (quotient.0, over_divided k g (b v) (number_at wide i) quotient.0 some_g quotient.1 (subst (λ (w : ℕ). IsOver w (b v) (number_at wide i)) (sym is) (subst (λ (w : ℕ). IsOver whole (b w) (number_at wide i)) at (over i within))))
    whole_at v (inr off) = (pos 0, rw (only.off v off) (zero-mul_ℤ (pos (b v).den) ∙ sym (mul-zero_ℤ (pos k))))

    each : (i : ℕ) (d : ℤ) → i < length wide → (j : ℕ) → MakesWhole j b → whole ∣ unsigned_abs (get_or wide i d) * j
    each i d within j makes =
        let y = makes (attr_at attrs i) in
        let inside : i < length attrs = omega (arith, within, long) in
        let same : pos whole *ℤ y.0 ≡ pos j *ℤ number_at wide i = same_fraction whole j (b (attr_at attrs i)) (number_at wide i) y.0 (only.above (attr_at attrs i)) (over i inside) y.1 in
        subst (λ (z : ℤ). whole ∣ unsigned_abs z * j) (get_or_default wide i (pos 0) d within) (divides_multiple whole j (number_at wide i) y.0 same)

-- what the divisor gives, with a share more
pub record IsStep (b : ℕ → Fraction) (attrs : List ℕ) (k : ℕ) (numbers : List ℤ) (s : Share) (wide : List ℤ) (g : ℕ) : Type 0 where
  pub kept : AreKept attrs k numbers
  pub sum : IsSum b attrs k numbers
  pub covered : IsCovered attrs s
  pub den : 0 < s.by.den
  pub long : length wide ≡ length attrs
  pub each : (i : ℕ) → i < length attrs → number_at wide i ≡ with_share_number (number_at numbers i) k s (attr_at attrs i)
  pub divisor : IsDivisor (k * (s.by.den * 2)) wide g

pub divisor_above : (whole g : ℕ) → 0 < whole → g ∣ whole → 0 < g
divisor_above whole zero some divides = absurd (omega (arith, some, eq-zero_of_zero-dvd divides))
divisor_above whole (suc g) some divides = omega arith

above_whole : (k d : ℕ) → 0 < k → 0 < d → 0 < k * (d * 2)
above_whole k d h i = mul-pos h (let e : 0 < d * 2 = omega (arith, i) in e)

step_scale : (b : ℕ → Fraction) (attrs : List ℕ) (k : ℕ) (numbers : List ℤ) (s : Share) (wide : List ℤ) (g : ℕ) → IsStep b attrs k numbers s wide g → IsScale (with_share b s) ((k * (s.by.den * 2)) / g)
step_scale b attrs k numbers s wide g is =
    let whole : ℕ = k * (s.by.den * 2) in
    let some : 0 < whole = above_whole k s.by.den is.kept.above is.den in
    let back : whole / g * g ≡ whole = div-mul_cancel g is.divisor.of_whole in
    scale_divided (with_share b s) attrs whole wide g (whole / g) (only_share b attrs s is.sum.only is.covered is.den) is.long some (over_shares k b attrs numbers wide s is.sum.over is.each) is.divisor back
    (divisor_above whole g some is.divisor.of_whole) (quotient_above (whole / g) g whole back some)

step_over : (b : ℕ → Fraction) (attrs : List ℕ) (k : ℕ) (numbers : List ℤ) (s : Share) (wide : List ℤ) (g i : ℕ) (z : ℤ) → IsStep b attrs k numbers s wide g → i < length attrs → pos g *ℤ z ≡ number_at wide i → IsOver ((k * (s.by.den * 2)) / g) (with_share b s (attr_at attrs i)) z
step_over b attrs k numbers s wide g i z is within same =
    let whole : ℕ = k * (s.by.den * 2) in
    let some : 0 < whole = above_whole k s.by.den is.kept.above is.den in
    let back : whole / g * g ≡ whole = div-mul_cancel g is.divisor.of_whole in
    over_divided (whole / g) g (with_share b s (attr_at attrs i)) (number_at wide i) z (divisor_above whole g some is.divisor.of_whole) same
    (subst (λ (w : ℕ). IsOver w (with_share b s (attr_at attrs i)) (number_at wide i)) (sym back) (over_shares k b attrs numbers wide s is.sum.over is.each i within))

pub step_sum : (b : ℕ → Fraction) (attrs : List ℕ) (k : ℕ) (numbers : List ℤ) (s : Share) (wide : List ℤ) (g : ℕ) (next : List ℤ) → IsStep b attrs k numbers s wide g → AreDivided wide (pos g) next → IsSum (with_share b s) attrs ((k * (s.by.den * 2)) / g) next
step_sum b attrs k numbers s wide g next is divided = record {
  only = only_share b attrs s is.sum.only is.covered is.den;
  over = λ i within. step_over b attrs k numbers s wide g i (number_at next i) is within (divided.each i (omega (arith, within, is.long)));
  is_scale = step_scale b attrs k numbers s wide g is;
}

pub one_scale : (b : ℕ → Fraction) (j k : ℕ) → IsScale b j → IsScale b k → j ≡ k
one_scale b j k is_j is_k = omega (arith, is_j.least k is_k.above is_k.whole, is_k.least j is_j.above is_j.whole)

pub past_scale : (b : ℕ → Fraction) (attrs : List ℕ) (k : ℕ) (numbers : List ℤ) (s : Share) (wide : List ℤ) (g : ℕ) → IsStep b attrs k numbers s wide g → 2 ^ 30 < (k * (s.by.den * 2)) / g → AreSmall (with_share b s) → ⊥
past_scale b attrs k numbers s wide g is past small =
    omega (arith, one_scale (with_share b s) small.scale ((k * (s.by.den * 2)) / g) small.is_scale (step_scale b attrs k numbers s wide g is), small.small_scale, past)

less_factor : (g m : ℕ) (z x : ℤ) → pos g *ℤ z ≡ x → g * m < unsigned_abs x → unsigned_abs z ≤ m → ⊥
less_factor g m z x same less small =
    let size : g * unsigned_abs z ≡ unsigned_abs x = sym (unsigned_abs-mul (pos g) z) ∙ ap unsigned_abs same in
    let most : g * unsigned_abs z ≤ g * m = mul-le-mul_left g small in
    omega (arith, size, most, less)

pub past_number : (b : ℕ → Fraction) (attrs : List ℕ) (k : ℕ) (numbers : List ℤ) (s : Share) (wide : List ℤ) (g : ℕ) → IsStep b attrs k numbers s wide g → IsPast wide (pos g) → AreSmall (with_share b s) → ⊥
past_number b attrs k numbers s wide g is past small =
    let within : past.place < length attrs = omega (arith, past.within, is.long) in
    let quotient = has_quotient (number_at wide past.place) g (is.divisor.of_each past.place (pos 0) past.within) in
    let over = step_over b attrs k numbers s wide g past.place quotient.0 is within quotient.1 in
    let same : small.scale ≡ (k * (s.by.den * 2)) / g = one_scale (with_share b s) small.scale ((k * (s.by.den * 2)) / g) small.is_scale (step_scale b attrs k numbers s wide g is) in
    less_factor g (2 ^ 30) quotient.0 (number_at wide past.place) quotient.1 past.past
    (small.small (attr_at attrs past.place) quotient.0 (subst (λ (w : ℕ). IsOver w (with_share b s (attr_at attrs past.place)) quotient.0) (sym same) over))

pub step_kept : (attrs : List ℕ) (whole g : ℕ) (wide next : List ℤ) → length wide ≡ length attrs → 0 < whole → g ∣ whole → whole / g ≤ 2 ^ 30 → AreDivided wide (pos g) next → AreKept attrs (whole / g) next
step_kept attrs whole g wide next long some divides small divided = record {
  long = divided.long ∙ long;
  above = quotient_above (whole / g) g whole (div-mul_cancel g divides) some;
  small_scale = small;
  small = divided.small;
}
