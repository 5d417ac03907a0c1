-- Sums to which a multiple of a pivot's numbers is added in place.
use Rattle.std.proofs.Common.{◌≡◌, ◌≢◌, ◌∙◌, ℕ, zero, suc, ◌+◌, ◌*◌, ◌<◌, ◌≤◌, List, [], ◌∷◌, ◌++◌, set, get_or, length, map, inl, inr, refl, sym, subst, ap, ap₂, arith, All, length-set, get_or-set_same, get_or-set_other, ℤ, pos, ◌*ℤ◌}
use Rattle.std.specs.Prelude.{◌+ℤ◌, unsigned_abs}
use borrow.Author.Differences.{ints}
use Rattle.std.proofs.lemmas.Bool.{cases_eq, cases_lt}
use Rattle.std.proofs.lemmas.List.{get_or_append_left, get_or_default, get_or_push, length-append}
use Rattle.std.proofs.lemmas.List.Elements.{All-push, All-set, All-weaker}
use Rattle.std.proofs.Math.Nat.{eq-one_of_dvd-one, one-dvd}
use Rattle.frac_core.specs.Fraction.{IsFitting}
use Rattle.frac_core.specs.declared.frac.TheConstants.{PART_BOUND}
use Rattle.path_lines.specs.Numbers.{AreLowest, AreUnfit, IsCombined, IsCommonDivisor, number_at}
use Rattle.path_lines.specs.Adding.{ArePlaces, ArePlacesTo, HasLargeSum, IsAmong}
use Rattle.path_lines.proofs.Arithmetic.LowestTerms.{unfit_part}

-- ---- the places

pub places_none : (numbers : List ℤ) → ArePlacesTo 0 numbers []
places_none numbers = record {
  within = λ i d less. absurd (omega arith);
  apart = λ i j d less within. absurd (omega arith);
  each = λ at less. absurd (omega arith);
}

pub places_skip : (at : ℕ) (numbers : List ℤ) (out : List ℕ) → number_at numbers at ≡ pos 0 → ArePlacesTo at numbers out → ArePlacesTo (at + 1) numbers out
places_skip at numbers out none are = record {
  within = All-weaker (λ (k : ℕ). k < at) (λ (k : ℕ). k < at + 1) (λ k less. omega (arith, less)) out are.within;
  apart = are.apart;
  each = λ k less. elim (cases_lt k at) [
    | inl before ↦ are.each k before
    | inr from ↦
        let same : k ≡ at = omega (arith, less, from) in
        inr (
          All-weaker (λ (q : ℕ). q < at) (λ (q : ℕ). q ≢ k) (λ q lower e. absurd (omega (arith, lower, same, e))) out are.within,
          ap (λ (n : ℕ). number_at numbers n) same ∙ none,
        )
  ];
}

among_more : (out : List ℕ) (at k : ℕ) → IsAmong out k → IsAmong (out ++ at ∷ []) k
among_more out at k is = (
  is.0,
  omega (arith, is.1, length-append out (at ∷ [])),
  λ d. get_or_append_left out (at ∷ []) d is.0 is.1 ∙ is.2 d,
)

pub places_push : (at : ℕ) (numbers : List ℤ) (out : List ℕ) → ArePlacesTo at numbers out → ArePlacesTo (at + 1) numbers (out ++ at ∷ [])
places_push at numbers out are = record {
  within = All-push (λ (k : ℕ). k < at + 1) out at (All-weaker (λ (k : ℕ). k < at) (λ (k : ℕ). k < at + 1) (λ k less. omega (arith, less)) out are.within) (omega arith);
  apart = λ i j d less within e.
      let count : length (out ++ at ∷ []) ≡ length out + 1 = length-append out (at ∷ []) in
      let i_in : i < length out = omega (arith, less, within, count) in
      let left : get_or (out ++ at ∷ []) i d ≡ get_or out i d = get_or_append_left out (at ∷ []) d i i_in in
      elim (cases_lt j (length out)) [
        | inl j_in ↦ are.apart i j d less j_in (sym left ∙ e ∙ get_or_append_left out (at ∷ []) d j j_in)
        | inr from ↦
            let last : get_or (out ++ at ∷ []) j d ≡ at = get_or_push out at d j (omega (arith, from, within, count)) in
            let low : get_or out i d < at = are.within i d i_in in
            omega (arith, low, left, e, last)
      ];
  each = λ k less. elim (cases_lt k at) [
    | inl before ↦ elim (are.each k before) [
      | inl is ↦ inl (among_more out at k is)
      | inr none ↦ inr (All-push (λ (q : ℕ). q ≢ k) out at none.0 (λ e. omega (arith, before, e)), none.1)
    ]
    | inr from ↦ inl (length out, omega (arith, length-append out (at ∷ [])), λ d. get_or_push out at d (length out) refl ∙ omega (arith, less, from))
  ];
}

-- ---- numbers added at places

-- those at so many first places are added, and the others are as before
pub record AreAddedTo (i : ℕ) (places : List ℕ) (old : List ℤ) (factor : ℤ) (others out : List ℤ) : Type 0 where
  pub count : length out ≡ length old
  pub fits : All IsFitting out
  pub done : (j d : ℕ) → j < i → number_at out (get_or places j d) ≡ number_at old (get_or places j d) +ℤ factor *ℤ number_at others (get_or places j d)
  pub rest : (k : ℕ) → ((j d : ℕ) → j < i → get_or places j d ≢ k) → number_at out k ≡ number_at old k

pub none_added : (places : List ℕ) (old : List ℤ) (factor : ℤ) (others : List ℤ) → All IsFitting old → AreAddedTo 0 places old factor others old
none_added places old factor others fits = record {
  count = refl;
  fits = fits;
  done = λ j d less. absurd (omega (arith, less));
  rest = λ k other. refl;
}

-- the number at the next place is still as before
pub next_is_old : (i d : ℕ) (places : List ℕ) (old : List ℤ) (factor : ℤ) (others out : List ℤ) → ArePlaces others places → i < length places → AreAddedTo i places old factor others out
    → number_at out (get_or places i d) ≡ number_at old (get_or places i d)
next_is_old i d places old factor others out are within so_far =
    so_far.rest (get_or places i d) (λ j e less same. are.apart j i e less within (same ∙ get_or_default places i d e within))

pub one_added : (i d : ℕ) (places : List ℕ) (old : List ℤ) (factor : ℤ) (others out : List ℤ) (z : ℤ) → ArePlaces others places → length old ≡ length others → i < length places → AreAddedTo i places old factor others out
    → z ≡ number_at out (get_or places i d) +ℤ factor *ℤ number_at others (get_or places i d) → IsFitting z → AreAddedTo (i + 1) places old factor others (set out (get_or places i d) z)
one_added i d places old factor others out z are long within so_far is fits =
    let at : ℕ = get_or places i d in
    let inside : get_or places i d < length out = omega (arith, are.within i d within, long, so_far.count) in
    record {
      count = length-set out (get_or places i d) z ∙ so_far.count;
      fits = All-set IsFitting out (get_or places i d) z fits so_far.fits;
      done = λ j e less. elim (cases_eq j i) [
        | inl same ↦
            let here : get_or places j e ≡ get_or places i d = ap (λ (n : ℕ). get_or places n e) same ∙ get_or_default places i e d within in
            subst (λ (n : ℕ). number_at (set out (get_or places i d) z) n ≡ number_at old n +ℤ factor *ℤ number_at others n) (sym here)
            (get_or-set_same out (get_or places i d) z (pos 0) inside ∙ is ∙ ap (λ (y : ℤ). y +ℤ factor *ℤ number_at others (get_or places i d)) (next_is_old i d places old factor others out are within so_far))
        | inr ne ↦
            let before : j < i = omega (arith, less, ne) in
            get_or-set_other out (get_or places i d) (get_or places j e) z (pos 0) (λ same. are.apart j i e before within (same ∙ get_or_default places i d e within)) ∙ so_far.done j e before
      ];
      rest = λ k other.
          get_or-set_other out (get_or places i d) k z (pos 0) (λ same. other i d (omega arith) (sym same)) ∙ so_far.rest k (λ j e less. other j e (omega (arith, less)));
    }

one_times : (z : ℤ) → z ≡ pos 1 *ℤ z
one_times z = omega (arith, ints)

with_none : (z factor y : ℤ) → y ≡ pos 0 → z ≡ pos 1 *ℤ z +ℤ factor *ℤ y
with_none z factor y none = subst (λ (x : ℤ). z ≡ pos 1 *ℤ z +ℤ factor *ℤ x) (sym none) (omega (arith, ints))

pub all_added : (places : List ℕ) (old : List ℤ) (factor : ℤ) (others out : List ℤ) → ArePlaces others places → length old ≡ length others → AreAddedTo (length places) places old factor others out → IsCombined (pos 1) old factor others out
all_added places old factor others out are long so_far = record {
  count = so_far.count;
  each = λ k within. elim (are.each k (omega (arith, within, long))) [
    | inl is ↦
        subst (λ (n : ℕ). number_at out n ≡ pos 1 *ℤ number_at old n +ℤ factor *ℤ number_at others n) (is.2 0)
        (so_far.done is.0 0 is.1 ∙ ap (λ (z : ℤ). z +ℤ factor *ℤ number_at others (get_or places is.0 0)) (one_times (number_at old (get_or places is.0 0))))
    | inr none ↦ so_far.rest k (λ j d less. none.0 j d less) ∙ with_none (number_at old k) factor (number_at others k) none.1
  ];
}

-- ---- lowest terms beside 1

pub one_common : (by : List ℤ) → IsCommonDivisor (pos 1) by (pos 1)
one_common by = record {
  above = omega (arith, ints);
  divides = (one-dvd 1, λ i d within. one-dvd (unsigned_abs (get_or by i d)));
  greatest = λ k all. all.0;
}

times_all : (zs : List ℤ) → map (λ z. pos 1 *ℤ z) zs ≡ zs
times_all [] = refl
times_all (z ∷ zs) = ap₂ (λ (x : ℤ) (xs : List ℤ). x ∷ xs) (sym (one_times z)) (times_all zs)

pub one_lowest : (by : List ℤ) → AreLowest (pos 1) by (pos 1) by
one_lowest by = record {
  factor = 1;
  above = omega arith;
  own_is = refl;
  same = times_all by;
  lowest = λ k all. eq-one_of_dvd-one all.0;
}

-- the numbers with a multiple of others
pub blended : List ℤ → ℤ → List ℤ → List ℤ
blended [] factor others = []
blended (z ∷ zs) factor [] = []
blended (z ∷ zs) factor (y ∷ ys) = (pos 1 *ℤ z +ℤ factor *ℤ y) ∷ blended zs factor ys

blended_count : (by : List ℤ) (factor : ℤ) (others : List ℤ) → length by ≡ length others → length (blended by factor others) ≡ length by
unfolding blended
blended_count [] factor others same = refl
blended_count (z ∷ zs) factor [] same = absurd (omega (arith, same))
blended_count (z ∷ zs) factor (y ∷ ys) same = ap (λ (n : ℕ). suc n) (blended_count zs factor ys (omega (arith, same)))

blended_at : (by : List ℤ) (factor : ℤ) (others : List ℤ) (at : ℕ) → length by ≡ length others → at < length by → number_at (blended by factor others) at ≡ pos 1 *ℤ number_at by at +ℤ factor *ℤ number_at others at
unfolding blended
blended_at [] factor others at same within = absurd (omega (arith, within))
blended_at (z ∷ zs) factor [] at same within = absurd (omega (arith, same))
blended_at (z ∷ zs) factor (y ∷ ys) zero same within = refl
blended_at (z ∷ zs) factor (y ∷ ys) (suc at) same within = blended_at zs factor ys at (omega (arith, same)) (omega (arith, within))

pub blended_is : (by : List ℤ) (factor : ℤ) (others : List ℤ) → length by ≡ length others → IsCombined (pos 1) by factor others (blended by factor others)
blended_is by factor others same = record {
  count = blended_count by factor others same;
  each = λ at within. blended_at by factor others at same within;
}

pub blended_unfit : (by : List ℤ) (factor : ℤ) (others : List ℤ) → length by ≡ length others → HasLargeSum by factor others → AreUnfit (pos 1) (blended by factor others)
blended_unfit by factor others same has =
    unfit_part (pos 1) (blended by factor others) (pos 1) (one_common (blended by factor others)) (
      has.0,
      omega (arith, has.1, blended_count by factor others same),
      subst (λ (z : ℤ). unsigned_abs (pos 1) * PART_BOUND ≤ unsigned_abs z) (ap (λ (z : ℤ). z +ℤ factor *ℤ number_at others has.0) (one_times (number_at by has.0)) ∙ sym (blended_at by factor others has.0 same has.1)) (omega (arith, has.2)),
    )
