-- Lists of numbers in lowest terms.
use Rattle.std.proofs.Common.{◌≡◌, ◌≢◌, ℕ, ◌+◌, ◌*◌, ◌<◌, ◌≤◌, ◌^◌, length, map, take, get_or, List, [], ◌∷◌, ◌++◌, inl, inr, ℤ, pos, ◌*ℤ◌, ◌<ℤ◌, sym, subst, ap, ap₂, ◌∙◌, arith, All}
use Rattle.std.specs.Prelude.{◌+ℤ◌, unsigned_abs}
use Rattle.std.specs.Int.{◌∣◌, IsGcd}
use borrow.Author.Differences.{ints}
use Rattle.std.proofs.lemmas.Int.{unsigned_abs-mul}
use Rattle.std.proofs.lemmas.Bool.{cases_lt}
use Rattle.std.proofs.lemmas.List.{get_or-take, get_or_append_left, get_or_push, length-append, length-take-le, map_push, take_more}
use Rattle.std.proofs.lemmas.List.Elements.{All-map, All-more, All-weaker}
use Rattle.std.proofs.lemmas.Nat.Gcd.{dvd_refl, dvd_trans, le_of_dvd}
use Rattle.std.proofs.Math.Nat.{dvd-mul_right, mul-dvd-mul_left, dvd_of_mul-dvd-mul_left, eq-one_of_dvd-one}
use Rattle.frac_core.specs.Fraction.{IsFitting}
use Rattle.frac_core.specs.declared.frac.TheConstants.{PART_BOUND}
use Rattle.path_lines.specs.Numbers.{AreLowest, AreUnfit, DividesAll, HasTooLarge, IsCommonDivisor, IsFactor, IsSmallProduct, number_at}
use Rattle.frac_core.proofs.Numbers.{divisor-above}
use Rattle.frac_core.proofs.Products.{most_product}
use Rattle.frac_core.proofs.Quotients.{positive_is, above_bound}

-- ---- the divisor

-- the greatest common divisor of a number above 0 and of others
pub record IsDivisorSoFar (own : ℤ) (by : List ℤ) (divisor : ℕ) : Type 0 where
  pub above : 0 < divisor
  pub divides : DividesAll divisor own by
  pub greatest : (k : ℕ) → DividesAll k own by → k ∣ divisor
  pub small : divisor < 2 ^ 127

first_of_more : (P : ℤ → Type 0) (by : List ℤ) (i : ℕ) (d : ℤ) → i < length by → All P (take (i + 1) by) → All P (take i by) × P (get_or by i d)
first_of_more P by i d within all = (
  λ k e less.
      let at : k < i = omega (arith, less, length-take-le i by (omega (arith, within))) in
      subst P (get_or-take (i + 1) by k e (omega (arith, at)) ∙ sym (get_or-take i by k e at)) (all k e (omega (arith, at, length-take-le (i + 1) by (omega (arith, within))))),
  subst P (get_or-take (i + 1) by i d (omega arith)) (all i d (omega (arith, length-take-le (i + 1) by (omega (arith, within))))),
)

pub divisor_more : (own : ℤ) (by : List ℤ) (i : ℕ) (e : ℤ) (old new : ℕ) → i < length by → IsDivisorSoFar own (take i by) old → IsGcd (unsigned_abs (get_or by i e)) old new
    → IsDivisorSoFar own (take (i + 1) by) new
divisor_more own by i e old new within is gcd = record {
  above = divisor-above new old is.above gcd.1;
  divides = (
    dvd_trans new gcd.1 is.divides.0,
    All-more (λ z. new ∣ unsigned_abs z) by i e within (All-weaker (λ z. old ∣ unsigned_abs z) (λ z. new ∣ unsigned_abs z) (λ z h. dvd_trans new gcd.1 h) (take i by) is.divides.1) gcd.0,
  );
  greatest = λ k all.
      let parts = first_of_more (λ z. k ∣ unsigned_abs z) by i e within all.1 in
      gcd.2 k parts.1 (is.greatest k (all.0, parts.0));
  small = let le : new ≤ old = le_of_dvd is.above gcd.1 in omega (arith, le, is.small);
}

pub divisor_starts : (own : ℤ) (by : List ℤ) → pos 0 <ℤ own → unsigned_abs own < 2 ^ 127 → IsDivisorSoFar own (take 0 by) (unsigned_abs own)
divisor_starts own by above small = record {
  above = (positive_is own above).1;
  divides = (dvd_refl (unsigned_abs own), λ k d within. absurd (omega arith));
  greatest = λ k all. all.0;
  small = small;
}

-- ---- the quotients

size_of_multiple : (f : ℕ) (z : ℤ) → unsigned_abs (pos f *ℤ z) ≡ f * unsigned_abs z
size_of_multiple f z = unsigned_abs-mul (pos f) z

multiple_divides : (f k : ℕ) (z : ℤ) → k ∣ unsigned_abs z → f * k ∣ unsigned_abs (pos f *ℤ z)
multiple_divides f k z h = subst (λ (n : ℕ). f * k ∣ n) (sym (size_of_multiple f z)) (mul-dvd-mul_left k f h)

factor_divides : (f : ℕ) (z : ℤ) → f ∣ unsigned_abs (pos f *ℤ z)
factor_divides f z = subst (λ (n : ℕ). f ∣ n) (sym (size_of_multiple f z)) (dvd-mul_right f (unsigned_abs z))

-- the factor times a divisor of the parts divides the numbers
lifted : (own : ℤ) (by : List ℤ) (low : ℤ) (part : List ℤ) (f k : ℕ) → pos f *ℤ low ≡ own → map (λ z. pos f *ℤ z) part ≡ by → DividesAll k low part → DividesAll (f * k) own by
lifted own by low part f k own_is same all = (
  subst (λ (z : ℤ). f * k ∣ unsigned_abs z) own_is (multiple_divides f k low all.0),
  subst (λ (zs : List ℤ). All (λ z. f * k ∣ unsigned_abs z) zs) same
      (All-map (λ (z : ℤ). f * k ∣ unsigned_abs z) (λ (z : ℤ). pos f *ℤ z) part (All-weaker (λ (z : ℤ). k ∣ unsigned_abs z) (λ (z : ℤ). f * k ∣ unsigned_abs (pos f *ℤ z)) (λ z h. multiple_divides f k z h) part all.1)),
)

times_one : (n : ℕ) → n ≡ n * 1
times_one n = omega arith

pub divided_lowest : (own : ℤ) (by : List ℤ) (d : ℤ) (low : ℤ) (part : List ℤ) → IsCommonDivisor own by d → d *ℤ low ≡ own → map (λ z. d *ℤ z) part ≡ by → AreLowest own by low part
divided_lowest own by d low part is own_is same =
    let n : ℕ = unsigned_abs d in
    let whole : d ≡ pos n = (positive_is d is.above).0 in
    let own_n : pos n *ℤ low ≡ own = subst (λ (g : ℤ). g *ℤ low ≡ own) whole own_is in
    let same_n : map (λ z. pos n *ℤ z) part ≡ by = subst (λ (g : ℤ). map (λ z. g *ℤ z) part ≡ by) whole same in
    record {
      factor = n;
      above = (positive_is d is.above).1;
      own_is = own_n;
      same = same_n;
      lowest = λ k all.
          let unit : n * k ∣ n * 1 = subst (λ (m : ℕ). n * k ∣ m) (times_one n) (is.greatest (n * k) (lifted own by low part n k own_n same_n all)) in
          eq-one_of_dvd-one (dvd_of_mul-dvd-mul_left k (positive_is d is.above).1 unit);
    }

-- ---- where a quotient is too large

divides_multiples : (own : ℤ) (by : List ℤ) (low : ℤ) (part : List ℤ) (f : ℕ) → pos f *ℤ low ≡ own → map (λ z. pos f *ℤ z) part ≡ by → DividesAll f own by
divides_multiples own by low part f own_is same = (
  subst (λ (z : ℤ). f ∣ unsigned_abs z) own_is (factor_divides f low),
  subst (λ (zs : List ℤ). All (λ z. f ∣ unsigned_abs z) zs) same
      (All-map (λ (z : ℤ). f ∣ unsigned_abs z) (λ (z : ℤ). pos f *ℤ z) part (λ k d within. factor_divides f (get_or part k d))),
)

pub unfit_own : (own : ℤ) (by : List ℤ) (d : ℤ) → IsCommonDivisor own by d → unsigned_abs d * PART_BOUND ≤ unsigned_abs own → AreUnfit own by
unfit_own own by d is large low part are fits =
    let le : are.factor ≤ unsigned_abs d = le_of_dvd (positive_is d is.above).1 (is.greatest are.factor (divides_multiples own by low part are.factor are.own_is are.same)) in
    above_bound (unsigned_abs d) are.factor (unsigned_abs low) (unsigned_abs own) le (ap unsigned_abs (sym are.own_is) ∙ size_of_multiple are.factor low) are.above fits.0 large

abbrev IsBelow : ℕ → ℤ → Type 0
IsBelow f z = (a : ℕ) × (unsigned_abs z ≡ f * a) × (a < PART_BOUND)

pub unfit_part : (own : ℤ) (by : List ℤ) (d : ℤ) → IsCommonDivisor own by d → HasTooLarge d by → AreUnfit own by
unfit_part own by d is has low part are fits =
    let le : are.factor ≤ unsigned_abs d = le_of_dvd (positive_is d is.above).1 (is.greatest are.factor (divides_multiples own by low part are.factor are.own_is are.same)) in
    let all : All (IsBelow are.factor) by =
    subst (λ (zs : List ℤ). All (IsBelow are.factor) zs) are.same
    (All-map (IsBelow are.factor) (λ (z : ℤ). pos are.factor *ℤ z) part (λ k t less. (unsigned_abs (get_or part k t), size_of_multiple are.factor (get_or part k t), fits.1 k t less))) in
    let here : IsBelow are.factor (number_at by has.0) = all has.0 (pos 0) has.1 in
    above_bound (unsigned_abs d) are.factor here.0 (unsigned_abs (number_at by has.0)) le here.1 are.above here.2 has.2

-- ---- sums of products

most : (k y : ℤ) → IsFactor k → IsFitting y → unsigned_abs k * unsigned_abs y ≤ 19342813113834066795298815 * 4398046511103
most k y fits_k fits_y = most_product (unsigned_abs k) (unsigned_abs y) 19342813113834066795298815 4398046511103 (omega arith) (omega arith)

pub factor_product : (k y : ℤ) → IsFactor k → IsFitting y → IsSmallProduct k y
factor_product k y fits_k fits_y = omega (arith, unsigned_abs-mul k y, most k y fits_k fits_y)

-- the numbers so far, and one more
pub combined_more : (k : ℤ) (left : List ℤ) (m : ℤ) (right : List ℤ) (out : List ℤ) (z : ℤ) (at : ℕ) → length out ≡ at → at < length left
    → ((q : ℕ) → q < at → number_at out q ≡ k *ℤ number_at left q +ℤ m *ℤ number_at right q) → z ≡ k *ℤ number_at left at +ℤ m *ℤ number_at right at
    → (q : ℕ) → q < at + 1 → number_at (out ++ z ∷ []) q ≡ k *ℤ number_at left q +ℤ m *ℤ number_at right q
combined_more k left m right out z at count within each here q less =
    elim (cases_lt q at) [
      | inl before ↦ get_or_append_left out (z ∷ []) (pos 0) q (omega (arith, count, before)) ∙ each q before
      | inr from ↦
          let on : q ≡ at = omega (arith, less, from) in
          get_or_push out z (pos 0) q (omega (arith, count, on)) ∙ here ∙ ap (λ (n : ℕ). k *ℤ number_at left n +ℤ m *ℤ number_at right n) (sym on)
    ]

-- a divisor above 0 as a signed number
pub common_is : (own : ℤ) (by : List ℤ) (d : ℕ) (z : ℤ) → z ≡ pos d → 0 < d → DividesAll d own by → ((k : ℕ) → DividesAll k own by → k ∣ d) → IsCommonDivisor own by z
common_is own by d z is some divides greatest =
    subst (λ (y : ℤ). IsCommonDivisor own by y) (sym is) (record { above = omega (arith, ints, some); divides = divides; greatest = greatest })

-- one quotient more
pub quotients_more : (d : ℤ) (out by : List ℤ) (q : ℤ) (i : ℕ) → i < length by → map (λ z. d *ℤ z) out ≡ take i by → d *ℤ q ≡ number_at by i → map (λ z. d *ℤ z) (out ++ q ∷ []) ≡ take (i + 1) by
quotients_more d out by q i within same here =
    map_push (λ (z : ℤ). d *ℤ z) out q ∙ ap₂ (λ (xs : List ℤ) (z : ℤ). xs ++ z ∷ []) same here ∙ sym (take_more by i (pos 0) within)

-- ---- another number at a place

-- the list so far has the number at its place, if it is that long, and the others times the factor
pub record IsReplacedSoFar (times : ℤ) (numbers : List ℤ) (at : ℕ) (number : ℤ) (out : List ℤ) (place : ℕ) : Type 0 where
  pub count : length out ≡ place
  pub here : at < place → number_at out at ≡ number
  pub others : (q : ℕ) → q < place → q ≢ at → number_at out q ≡ times *ℤ number_at numbers q

pub replaced_more : (times : ℤ) (numbers : List ℤ) (at : ℕ) (number : ℤ) (out : List ℤ) (place : ℕ) (z : ℤ) → IsReplacedSoFar times numbers at number out place
    → (place ≡ at → z ≡ number) → (place ≢ at → z ≡ times *ℤ number_at numbers place) → IsReplacedSoFar times numbers at number (out ++ z ∷ []) (place + 1)
replaced_more times numbers at number out place z is there else_where = record {
  count = length-append out (z ∷ []) ∙ ap (λ (n : ℕ). n + 1) is.count;
  here = λ less.
      elim (cases_lt at place) [
        | inl before ↦ get_or_append_left out (z ∷ []) (pos 0) at (omega (arith, is.count, before)) ∙ is.here before
        | inr from ↦
            let on : place ≡ at = omega (arith, less, from) in
            get_or_push out z (pos 0) at (is.count ∙ on) ∙ there on
      ];
  others = λ q less other.
      elim (cases_lt q place) [
        | inl before ↦ get_or_append_left out (z ∷ []) (pos 0) q (omega (arith, is.count, before)) ∙ is.others q before other
        | inr from ↦
            let on : place ≡ q = omega (arith, less, from) in
            get_or_push out z (pos 0) q (is.count ∙ on) ∙ else_where (λ same. other (sym on ∙ same)) ∙ ap (λ (n : ℕ). times *ℤ number_at numbers n) on
      ];
}
