-- The terms of a row, one attribute after another.
use Rattle.std.proofs.Common.{◌≡◌, ℕ, zero, suc, ◌+◌, ◌<◌, ◌≤◌, cond, nat_eq, List, [], ◌∷◌, ◌++◌, length, map, get_or, All, AllPairs, ℤ, pos, ◌+ℤ◌, ◌*ℤ◌, refl, sym, subst, ap, ◌∙◌, arith, ◌⊎◌, inl, inr, eq-eqb, ne_eqb}
use borrow.Author.Differences.{ints}
use Rattle.std.proofs.lemmas.List.{get_or-map, length-map}
use Rattle.std.proofs.lemmas.List.Elements.{All-push}
use Rattle.std.proofs.lemmas.List.Quantifiers.{all_pairs_push}
use Rattle.frac_core.specs.Fraction.{Fraction}
use Rattle.frac_core.proofs.Integers.{mul-zero_ℤ, zero_from_mul}
use Rattle.problem_core.specs.declared.parts.Term.{Term}
use Rattle.problem_core.specs.Layout.{coefficient}
use Rattle.problem_core.specs.Kept.{IsTerm}
use Rattle.frac_core.proofs.Sums.{sum-append}
use Rattle.compile_parts.specs.Fractions.{IsOver}
use Rattle.compile_parts.specs.Shares.{IsOff}
use Rattle.constraint_compile.specs.Coefficients.Sums.{IsSum, HasFirst, AreTerms, HasTooMany, attr_at, number_at}
use Rattle.constraint_compile.proofs.Sums.Joint.{find_place}
use Rattle.constraint_compile.proofs.Sums.Beginnings.{zero_left}
use Rattle.frac_core.proofs.Numbers.{less-or-here as lt_or_eq}

pushed : (v : ℕ) (out : List Term) (t : Term) → coefficient v (out ++ t ∷ []) ≡ coefficient v out +ℤ cond (nat_eq t.attr v) t.by (pos 0)
pushed v out t = sum-append (λ (e : Term). cond (nat_eq e.attr v) e.by (pos 0)) out (t ∷ []) ∙ ap (λ (z : ℤ). coefficient v out +ℤ z) (let e : cond (nat_eq t.attr v) t.by (pos 0) +ℤ pos 0 ≡ cond (nat_eq t.attr v) t.by (pos 0) = omega (arith, ints) in e)

pushed_other : (v : ℕ) (out : List Term) (t : Term) → (t.attr ≡ v → ⊥) → coefficient v (out ++ t ∷ []) ≡ coefficient v out
pushed_other v out t other =
    let no : cond (nat_eq t.attr v) t.by (pos 0) ≡ pos 0 = rw (ne_eqb t.attr v other) refl in
    pushed v out t ∙ ap (λ (z : ℤ). coefficient v out +ℤ z) no ∙ (let e : coefficient v out +ℤ pos 0 ≡ coefficient v out = omega (arith, ints) in e)

pushed_here : (out : List Term) (t : Term) → coefficient t.attr out ≡ pos 0 → coefficient t.attr (out ++ t ∷ []) ≡ t.by
pushed_here out t none =
    let yes : cond (nat_eq t.attr t.attr) t.by (pos 0) ≡ t.by = rw (eq-eqb t.attr t.attr refl) refl in
    omega (arith, ints, pushed t.attr out t, yes, none)

apart : (attrs : List ℕ) (i j : ℕ) → AllPairs (λ a b. a < b) attrs → i < j → j < length attrs → attr_at attrs i ≡ attr_at attrs j → ⊥
apart attrs i j rising less within same = omega (arith, rising i j 0 less within, same)

next_none : (attrs : List ℕ) (numbers : List ℤ) (n : ℕ) (out : List Term) → AllPairs (λ a b. a < b) attrs → n < length attrs → HasFirst attrs numbers n out → coefficient (attr_at attrs n) out ≡ pos 0
next_none attrs numbers n out rising within first = first.none (attr_at attrs n) (λ i less same. apart attrs i n rising less within same)

pub skipped : (attrs : List ℕ) (numbers : List ℤ) (n : ℕ) (out : List Term) → AllPairs (λ a b. a < b) attrs → n < length attrs → number_at numbers n ≡ pos 0 → HasFirst attrs numbers n out → HasFirst attrs numbers (n + 1) out
skipped attrs numbers n out rising within zero_here first = record {
  here = λ i h. here i (lt_or_eq i n h);
  none = λ v other. first.none v (λ i less. other i (omega (arith, less)));
  below = λ k d h j le lt. first.below k d h j (omega (arith, le)) lt;
  terms = first.terms;
  rising = first.rising;
}
  where
    here : (i : ℕ) → (i < n) ⊎ (i ≡ n) → coefficient (attr_at attrs i) out ≡ number_at numbers i
    here i (inl less) = first.here i less
    here i (inr same) = subst (λ (m : ℕ). coefficient (attr_at attrs m) out ≡ number_at numbers m) (sym same) (next_none attrs numbers n out rising within first ∙ sym zero_here)

pub appended : (attrs : List ℕ) (numbers : List ℤ) (n : ℕ) (out : List Term) (t : Term) → AllPairs (λ a b. a < b) attrs → n < length attrs → t.attr ≡ attr_at attrs n → t.by ≡ number_at numbers n → IsTerm t → HasFirst attrs numbers n out → HasFirst attrs numbers (n + 1) (out ++ t ∷ [])
appended attrs numbers n out t rising within attr by is first = record {
  here = λ i h. here i (lt_or_eq i n h);
  none = λ v other. pushed_other v out t (λ same. other n (omega arith) (sym attr ∙ same)) ∙ first.none v (λ i less. other i (omega (arith, less)));
  below = All-push (λ (s : Term). (j : ℕ) → n + 1 ≤ j → j < length attrs → s.attr < attr_at attrs j) out t (λ k d h j le lt. first.below k d h j (omega (arith, le)) lt)
      (λ j le lt. subst (λ (a : ℕ). a < attr_at attrs j) (sym attr) (rising n j 0 (omega (arith, le)) lt));
  terms = All-push IsTerm out t first.terms is;
  rising = all_pairs_push (λ (s u : Term). s.attr < u.attr) out t first.rising (λ k d h. subst (λ (a : ℕ). (get_or out k d).attr < a) (sym attr) (first.below k d h n (omega arith) within));
}
  where
    none_here : coefficient t.attr out ≡ pos 0
    none_here = subst (λ (a : ℕ). coefficient a out ≡ pos 0) (sym attr) (next_none attrs numbers n out rising within first)

    here : (i : ℕ) → (i < n) ⊎ (i ≡ n) → coefficient (attr_at attrs i) (out ++ t ∷ []) ≡ number_at numbers i
    here i (inl less) = pushed_other (attr_at attrs i) out t (λ same. apart attrs i n rising less within (sym same ∙ attr)) ∙ first.here i less
    here i (inr same) = subst (λ (m : ℕ). coefficient (attr_at attrs m) (out ++ t ∷ []) ≡ number_at numbers m) (sym same)
        (subst (λ (a : ℕ). coefficient a (out ++ t ∷ []) ≡ number_at numbers n) attr (pushed_here out t none_here ∙ by))

pub no_terms : (attrs : List ℕ) (numbers : List ℤ) → HasFirst attrs numbers 0 []
no_terms attrs numbers = record {
  here = λ i h. absurd (omega (arith, h));
  none = λ v other. refl;
  below = λ k d h. absurd (omega (arith, h));
  terms = λ k d h. absurd (omega (arith, h));
  rising = λ i j d less h. absurd (omega (arith, h));
}

-- ---- the whole row

pub all_terms : (b : ℕ → Fraction) (attrs : List ℕ) (scale : ℕ) (numbers : List ℤ) (n : ℕ) (out : List Term) → n ≡ length attrs → HasFirst attrs numbers n out → IsSum b attrs scale numbers → AreTerms b scale out
all_terms b attrs scale numbers n out whole first sum = record {
  over = λ v. over_at v (find_place attrs v);
  each = first.terms;
  rising = first.rising;
}
  where
    over_at : (v : ℕ) → ((i : ℕ) × (i < length attrs) × (attr_at attrs i ≡ v)) ⊎ IsOff attrs v → IsOver scale (b v) (coefficient v out)
    over_at v (inl (i, within, at)) = subst (λ (w : ℕ). IsOver scale (b w) (coefficient w out)) at (rw (first.here i (omega (arith, within, whole))) (sum.over i within))
    over_at v (inr off) = rw (first.none v (λ i less. off i 0 (omega (arith, less, whole))), sum.only.off v off) (zero_left (b v).den ∙ sym (mul-zero_ℤ (pos scale)))

absent : (v : ℕ) (terms : List Term) → All (λ t. t.attr ≡ v → ⊥) terms → coefficient v terms ≡ pos 0
absent v [] all = refl
absent v (t ∷ terms) all =
    let no : cond (nat_eq t.attr v) t.by (pos 0) ≡ pos 0 = rw (ne_eqb t.attr v (all zero t (omega arith))) refl in
    omega (arith, ints, no, absent v terms (λ k d h. all (suc k) d (omega (arith, h))))

pub coefficient_at : (terms : List Term) (k : ℕ) (d : Term) → AllPairs (λ (s t : Term). s.attr < t.attr) terms → k < length terms → coefficient (get_or terms k d).attr terms ≡ (get_or terms k d).by
coefficient_at [] k d rising within = absurd (omega (arith, within))
coefficient_at (t ∷ terms) zero d rising within =
    let yes : cond (nat_eq t.attr t.attr) t.by (pos 0) ≡ t.by = rw (eq-eqb t.attr t.attr refl) refl in
    let others : coefficient t.attr terms ≡ pos 0 = absent t.attr terms (λ k e h same. omega (arith, rising zero (suc k) e (omega arith) (omega (arith, h)), same)) in
    omega (arith, ints, yes, others)
coefficient_at (t ∷ terms) (suc k) d rising within =
    let less : t.attr < (get_or terms k d).attr = rising zero (suc k) d (omega arith) within in
    let no : cond (nat_eq t.attr (get_or terms k d).attr) t.by (pos 0) ≡ pos 0 = rw (ne_eqb t.attr (get_or terms k d).attr (λ same. omega (arith, less, same))) refl in
    omega (arith, ints, no, coefficient_at terms k d (λ i j e h l. rising (suc i) (suc j) e (omega (arith, h)) (omega (arith, l))) (omega (arith, within)))

pub is_zero : (k d : ℕ) (z n : ℤ) → 0 < d → z *ℤ pos d ≡ pos k *ℤ n → n ≡ pos 0 → z ≡ pos 0
is_zero k d z n some is none = zero_from_mul d z some (swap ∙ is ∙ ap (λ (t : ℤ). pos k *ℤ t) none ∙ mul-zero_ℤ (pos k))
  where
    swap : pos d *ℤ z ≡ z *ℤ pos d
    swap = omega (arith, ints)

pub too_many : (b : ℕ → Fraction) (scale : ℕ) (terms : List Term) → ((v : ℕ) → 0 < (b v).den) → AreTerms b scale terms → 32 < length terms → HasTooMany b
too_many b scale terms above are many = record {
  attrs = map (λ (t : Term). t.attr) terms;
  rising = λ i j d less within. rising i j d less (omega (arith, within, length-map terms (λ (t : Term). t.attr)));
  nonzero = λ k d within. nonzero k d (omega (arith, within, length-map terms (λ (t : Term). t.attr)));
  many = omega (arith, many, length-map terms (λ (t : Term). t.attr));
}
  where
    none : Term
    none = record { attr = 0; by = pos 0 }

    attr_is : (k d : ℕ) → k < length terms → get_or (map (λ (t : Term). t.attr) terms) k d ≡ (get_or terms k none).attr
    attr_is k d within = get_or-map (λ (t : Term). t.attr) terms k none d within

    rising : (i j d : ℕ) → i < j → j < length terms → get_or (map (λ (t : Term). t.attr) terms) i d < get_or (map (λ (t : Term). t.attr) terms) j d
    rising i j d less within = rw (attr_is i d (omega (arith, less, within)), attr_is j d within) (are.rising i j none less within)

    nonzero : (k d : ℕ) → k < length terms → (b (get_or (map (λ (t : Term). t.attr) terms) k d)).num ≡ pos 0 → ⊥
    nonzero k d within zero_num =
        let here : (b (get_or terms k none).attr).num ≡ pos 0 = rw (attr_is k d within) at zero_num in
        (are.each k none within).nonzero
        (sym (coefficient_at terms k none are.rising within) ∙ is_zero scale (b (get_or terms k none).attr).den (coefficient (get_or terms k none).attr terms) (b (get_or terms k none).attr).num (above (get_or terms k none).attr) (are.over (get_or terms k none).attr) here)
