-- Sums of fractions, and the constants that they make.
use Rattle.std.proofs.Common.{◌≡◌, ℕ, ◌+◌, ◌<◌, ◌≤◌, ◌^◌, List, [], ◌∷◌, ◌++◌, length, take, get_or, ℤ, pos, neg_ℤ, ◌*ℤ◌, refl, sym, subst, ap, ◌∙◌, arith, mul-pos, ◌⊎◌, inl, inr}
use Rattle.std.specs.Prelude.{unsigned_abs}
use Rattle.std.proofs.lemmas.List.{take_more, get_or_default}
use Rattle.frac_core.specs.Fraction.{Fraction}
use Rattle.frac_core.proofs.Integers.{on_1, diff_eq, diff-add, diff-mul, diff-pos, cancel_mul}
use Rattle.compile_parts.specs.Fractions.{plus, IsConstant, IsSmallConstant}
use Rattle.compile_parts.specs.Meaning.{MetricList, part_value}
use Rattle.compile_parts.specs.Steps.{Step, IsSmallAfter, AreSmallSteps, step_sum, last_scale}
use Rattle.compile_parts.proofs.Totals.{total_more}
use Rattle.frac_core.proofs.Made.{same_fraction as one_lowest}
use Rattle.frac_core.proofs.Numbers.{less-or-here as lt_or_eq}

-- ---- equal values

swap_dens : (c : ℤ) (d m : ℕ) → pos d *ℤ (c *ℤ pos m) ≡ pos m *ℤ (c *ℤ pos d)
swap_dens c d m = on_1 (λ c. pos d *ℤ (c *ℤ pos m) ≡ pos m *ℤ (c *ℤ pos d)) (λ a a'. simp (diff-add, diff-mul, diff-pos) (diff_eq _ _ _ _ (omega arith))) c

-- there is one constant
pub one_constant : (k : ℕ) (e c d : Fraction) → 0 < e.den → IsConstant k e c → IsConstant k e d → c ≡ d
one_constant k e c d some is_c is_d =
    one_lowest c d is_c.lowest is_d.lowest (cancel_mul e.den (c.num *ℤ pos d.den) (d.num *ℤ pos c.den) some
    (move c.num e.den d.den ∙ ap (λ (t : ℤ). pos d.den *ℤ t) is_c.value ∙ flip (neg_ℤ (pos k *ℤ e.num)) c.den d.den ∙ ap (λ (t : ℤ). pos c.den *ℤ t) (sym is_d.value) ∙ sym (move d.num e.den c.den)))
  where
    move : (c : ℤ) (d m : ℕ) → pos d *ℤ (c *ℤ pos m) ≡ pos m *ℤ (c *ℤ pos d)
    move c d m = swap_dens c d m

    flip : (z : ℤ) (c d : ℕ) → pos d *ℤ (z *ℤ pos c) ≡ pos c *ℤ (z *ℤ pos d)
    flip z c d = swap_dens z d c

-- ---- step by step

last_pushed : (steps : List Step) (s : Step) → last_scale (steps ++ s ∷ []) ≡ s.scale
last_pushed [] s = refl
last_pushed (t ∷ []) s = refl
last_pushed (t ∷ (u ∷ steps)) s = last_pushed (u ∷ steps) s

pub last_more : (steps : List Step) (i : ℕ) (d : Step) → i < length steps → last_scale (take (i + 1) steps) ≡ (get_or steps i d).scale
last_more steps i d within = ap last_scale (take_more steps i d within) ∙ last_pushed (take i steps) (get_or steps i d)

pub sum_more : (metrics : MetricList) (steps : List Step) (i : ℕ) (d : Step) → i < length steps → step_sum metrics (take (i + 1) steps) ≡ plus (step_sum metrics (take i steps)) (part_value metrics (get_or steps i d).part)
sum_more metrics steps i d within = total_more (λ (s : Step). part_value metrics s.part) steps i d within

-- what holds after the first i steps, with the scale k and the constant c
pub record IsAfter (metrics : MetricList) (steps : List Step) (i k : ℕ) (c : Fraction) : Type 0 where
  pub above : 0 < (step_sum metrics (take i steps)).den
  pub last : last_scale (take i steps) ≡ k
  pub scale : (0 < k) × (k ≤ 2 ^ 30)
  pub num_small : unsigned_abs c.num < 2 ^ 40
  pub den_small : c.den < 2 ^ 40
  pub constant : IsConstant k (step_sum metrics (take i steps)) c
  pub small : (j : ℕ) (d : Step) → j < i → IsSmallAfter metrics steps j (get_or steps j d)

pub more_after : (metrics : MetricList) (steps : List Step) (i k : ℕ) (c : Fraction) (s : Step) (d : Fraction) → i < length steps → s ≡ get_or steps i s → (0 < s.scale) × (s.scale ≤ 2 ^ 30) → IsAfter metrics steps i k c
    → 0 < (part_value metrics s.part).den → ((e : Fraction) → 0 < e.den → IsConstant k e c → IsConstant s.scale (plus e (part_value metrics s.part)) d) → unsigned_abs d.num < 2 ^ 40 → d.den < 2 ^ 40 → IsAfter metrics steps (i + 1) s.scale d
more_after metrics steps i k c s d within here scale after above constant num_small den_small = record {
  above = rw more (mul-pos after.above above);
  last = last_more steps i s within ∙ ap (λ (t : Step). t.scale) (sym here);
  scale = scale;
  num_small = num_small;
  den_small = den_small;
  constant = rw more next;
  small = λ j t h. small_at j t (lt_or_eq j i h);
}
  where
    more : step_sum metrics (take (i + 1) steps) ≡ plus (step_sum metrics (take i steps)) (part_value metrics s.part)
    more = sum_more metrics steps i s within ∙ ap (λ (t : Step). plus (step_sum metrics (take i steps)) (part_value metrics t.part)) (sym here)

    next : IsConstant s.scale (plus (step_sum metrics (take i steps)) (part_value metrics s.part)) d
    next = constant (step_sum metrics (take i steps)) after.above after.constant

    last_small : (t : Step) → IsSmallAfter metrics steps i (get_or steps i t)
    last_small t =
        let same : get_or steps i t ≡ s = get_or_default steps i t s within ∙ sym here in
        rw (same, more) (record { constant = d; is_constant = next; num_small = num_small; den_small = den_small })

    small_at : (j : ℕ) (t : Step) → (j < i) ⊎ (j ≡ i) → IsSmallAfter metrics steps j (get_or steps j t)
    small_at j t (inl less) = after.small j t less
    small_at j t (inr same) = subst (λ (n : ℕ). IsSmallAfter metrics steps n (get_or steps n t)) (sym same) (last_small t)

-- a step whose constant isn't small
pub stops_after : (metrics : MetricList) (steps : List Step) (i k : ℕ) (c : Fraction) (s : Step) → i < length steps → s ≡ get_or steps i s → IsAfter metrics steps i k c
    → ((e : Fraction) → 0 < e.den → IsConstant k e c → IsSmallConstant s.scale (plus e (part_value metrics s.part)) → ⊥) → AreSmallSteps metrics steps → ⊥
stops_after metrics steps i k c s within here after none all =
    let more : step_sum metrics (take (i + 1) steps) ≡ plus (step_sum metrics (take i steps)) (part_value metrics s.part) = sum_more metrics steps i s within ∙ ap (λ (t : Step). plus (step_sum metrics (take i steps)) (part_value metrics t.part)) (sym here) in
    let at : IsSmallAfter metrics steps i s = subst (λ (t : Step). IsSmallAfter metrics steps i t) (sym here) (all i s within) in
    let small : IsSmallConstant s.scale (plus (step_sum metrics (take i steps)) (part_value metrics s.part)) = rw more at at in
    none (step_sum metrics (take i steps)) after.above after.constant small
