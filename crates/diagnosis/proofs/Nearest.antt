-- What the loosely best assignment that is nearest to a value says of all.
use Rattle.std.proofs.Common.{◌≡◌, ◌≢◌, ◌∙◌, ◌⊎◌, inl, inr, ℕ, zero, suc, ◌+◌, ◌*◌, ◌<◌, ℤ, pos, negsuc, ◌+ℤ◌, ◌-ℤ◌, ◌*ℤ◌, neg_ℤ, ◌<ℤ◌, ◌≤ℤ◌, unsigned_abs, refl, sym, ap, arith}
use Rattle.std.proofs.Math.IntN.{negsuc-*ℤ-pos}
use lib.IntN.{*ℤ_comm}
use borrow.Author.Differences.{ints}
use Rattle.frac_core.specs.Fraction.{Fraction}
use Rattle.frac_core.proofs.Integers.{cancel_mul, mul_assoc_ℤ, zero-mul_ℤ}
use Rattle.problem_core.specs.Layout.{Assignment, Problem}
use Rattle.diagnosis.specs.Ambiguity.{GoesAbove, GoesBelow, IsAbove, IsAmbiguous, IsBelow, IsGreatestUp, IsLeastDown, IsLooselyBest, IsMove, Reaches}
use Rattle.diagnosis.specs.Probes.{IsNearest, place}
use Rattle.diagnosis.proofs.Mixes.{mix, mix_reaches}
use Rattle.diagnosis.proofs.Loosely.{mix_loosely}
use Rattle.diagnosis.proofs.Positions.{IsLast, IsNext, above_place, below_place, down_to_last, last_from, next_from, reached_high, reached_low, up_to_next}
use Rattle.frac_core.proofs.Numbers.{low-not-zero as no-zero-low, up-not-zero as no-zero-high, as-natural as natural-high, low-or-up, up-or-low, swap-last as turn-last}

-- ---- signs and sizes

low-sizes : (P Q : ℤ) (d e : ℕ) → (Q ≤ℤ pos 0) → (P *ℤ pos e) <ℤ (Q *ℤ pos d) → unsigned_abs Q * d < unsigned_abs P * e
low-sizes (negsuc n) (negsuc m) d e low h = let a = negsuc-*ℤ-pos n e in let b = negsuc-*ℤ-pos m d in omega (arith, ints, a, b, h)
low-sizes (negsuc n) (pos zero) d e low h = let a = negsuc-*ℤ-pos n e in let b = zero-mul_ℤ (pos d) in omega (arith, ints, a, b, h)
low-sizes (negsuc n) (pos (suc m)) d e low h = absurd (omega (arith, ints, low))
low-sizes (pos n) (negsuc m) d e low h = let b = negsuc-*ℤ-pos m d in absurd (omega (arith, ints, b, h))
low-sizes (pos n) (pos zero) d e low h = let b = zero-mul_ℤ (pos d) in absurd (omega (arith, ints, b, h))
low-sizes (pos n) (pos (suc m)) d e low h = absurd (omega (arith, ints, low))

high-sizes : (P Q : ℤ) (d e : ℕ) → (pos 0 ≤ℤ Q) → (Q *ℤ pos d) <ℤ (P *ℤ pos e) → unsigned_abs Q * d < unsigned_abs P * e
high-sizes P (negsuc m) d e high h = absurd high.le
high-sizes (pos n) (pos m) d e high h = omega (arith, ints, h)
high-sizes (negsuc n) (pos m) d e high h = let a = negsuc-*ℤ-pos n e in absurd (omega (arith, ints, a, h))

size-some : (P : ℤ) → P ≢ pos 0 → 0 < unsigned_abs P
size-some (pos zero) h = absurd (h refl)
size-some (pos (suc n)) h = omega arith
size-some (negsuc n) h = omega arith

-- a place of 0 is nearer than another
zero-nearer : (P Q : ℤ) (d e : ℕ) → Q ≡ pos 0 → P ≢ pos 0 → 0 < e → unsigned_abs Q * d < unsigned_abs P * e
zero-nearer P Q d e none some above =
    let a : unsigned_abs Q * d ≡ 0 = ap (λ (z : ℤ). unsigned_abs z * d) none ∙ (let z : 0 * d ≡ 0 = omega arith in z) in
    let b : 0 < unsigned_abs P * e = product-up (unsigned_abs P) e (size-some P some) above in
    omega (arith, a, b)
  where
    product-up : (m n : ℕ) → 0 < m → 0 < n → 0 < m * n
    product-up (suc m) (suc n) h k = omega arith
    product-up zero n h k = absurd (omega (arith, h))
    product-up (suc m) zero h k = absurd (omega (arith, k))

-- ---- between two on both sides

natural-low : (z : ℤ) → z <ℤ pos 0 → (a : ℕ) × (0 < a) × (z ≡ neg_ℤ (pos a))
natural-low (pos n) h = absurd (omega (arith, ints, h))
natural-low (negsuc n) h = (suc n, omega arith, refl)

some-parts : (a b D E : ℕ) → 0 < b → 0 < D → 0 < b * D + a * E
some-parts a (suc b) (suc D) E h k = omega arith
some-parts a zero D E h k = absurd (omega (arith, h))
some-parts a (suc b) zero E h k = absurd (omega (arith, k))

crossing : (p : Problem) (attr : ℕ) (t : Fraction) (x y : Assignment) → IsLooselyBest p x → IsLooselyBest p y → place attr t x <ℤ pos 0 → pos 0 <ℤ place attr t y → (z : Assignment) × IsLooselyBest p z × (place attr t z ≡ pos 0)
crossing p attr t x y best also low high =
    let a = natural-low (place attr t x) low in
    let b = natural-high (place attr t y) high in
    let some : 0 < b.0 * x.den + a.0 * y.den = some-parts a.0 b.0 x.den y.den b.1 x.positive in
    let left : x.num attr *ℤ pos t.den ≡ t.num *ℤ pos x.den -ℤ pos a.0 = (let e = a.2 in omega (arith, ints, e)) in
    let right : y.num attr *ℤ pos t.den ≡ t.num *ℤ pos y.den +ℤ pos b.0 = (let e = b.2 in omega (arith, ints, e)) in
    let reached = mix_reaches a.0 b.0 x.den y.den t.den (x.num attr) (y.num attr) t.num left right in
    (mix (b.0 * x.den) (a.0 * y.den) some x y, mix_loosely p (b.0 * x.den) (a.0 * y.den) some x y best also, omega (arith, ints, reached))

-- ---- the nearest one

module _ (p : Problem) (attr : ℕ) (t : Fraction) (x : Assignment) (near : IsNearest p attr t x) where
  -- up: where some loosely best one is below t
  not-past : (y : Assignment) → IsLooselyBest p y → place attr t y <ℤ pos 0 → pos 0 <ℤ place attr t x → ⊥
  not-past y best low high =
      let z = crossing p attr t y x best near.loosely low high in
      near.none z.0 z.1 (zero-nearer (place attr t x) (place attr t z.0) x.den z.0.den z.2 (no-zero-high (place attr t x) high) z.0.positive)

  none-higher : (y : Assignment) → IsLooselyBest p y → (place attr t y ≤ℤ pos 0) → (place attr t x *ℤ pos y.den) <ℤ (place attr t y *ℤ pos x.den) → ⊥
  none-higher y best low h = near.none y best (low-sizes (place attr t x) (place attr t y) x.den y.den low h)

  -- down
  not-under : (y : Assignment) → IsLooselyBest p y → pos 0 <ℤ place attr t y → place attr t x <ℤ pos 0 → ⊥
  not-under y best high low =
      let z = crossing p attr t x y near.loosely best low high in
      near.none z.0 z.1 (zero-nearer (place attr t x) (place attr t z.0) x.den z.0.den z.2 (no-zero-low (place attr t x) low) z.0.positive)

  none-lower : (y : Assignment) → IsLooselyBest p y → (pos 0 ≤ℤ place attr t y) → (place attr t y *ℤ pos x.den) <ℤ (place attr t x *ℤ pos y.den) → ⊥
  none-lower y best high h = near.none y best (high-sizes (place attr t x) (place attr t y) x.den y.den high h)

-- ---- against the present value

-- x reaches v, or is above it, or below
against : (x : Assignment) (attr : ℕ) (v : Fraction) → Reaches x attr v ⊎ (IsAbove x attr v ⊎ IsBelow x attr v)
against x attr v = by-difference (x.num attr *ℤ pos v.den -ℤ v.num *ℤ pos x.den) refl
  where
    by-difference : (z : ℤ) → z ≡ x.num attr *ℤ pos v.den -ℤ v.num *ℤ pos x.den → Reaches x attr v ⊎ (IsAbove x attr v ⊎ IsBelow x attr v)
    by-difference (pos zero) e = inl (omega (arith, ints, e))
    by-difference (pos (suc n)) e = inr (inl (omega (arith, ints, e)))
    by-difference (negsuc n) e = inr (inr (omega (arith, ints, e)))

one-value : (x : Assignment) (attr : ℕ) (f v : Fraction) → Reaches x attr f → Reaches x attr v → f.num *ℤ pos v.den ≡ v.num *ℤ pos f.den
one-value x attr f v e h =
    cancel_mul x.den (f.num *ℤ pos v.den) (v.num *ℤ pos f.den) x.positive
    (let l : pos x.den *ℤ (f.num *ℤ pos v.den) ≡ (f.num *ℤ pos x.den) *ℤ pos v.den = sym (mul_assoc_ℤ (pos x.den) f.num (pos v.den)) ∙ ap (λ (z : ℤ). z *ℤ pos v.den) (*ℤ_comm (pos x.den) f.num) in
    let r : (v.num *ℤ pos x.den) *ℤ pos f.den ≡ pos x.den *ℤ (v.num *ℤ pos f.den) = ap (λ (z : ℤ). z *ℤ pos f.den) (*ℤ_comm v.num (pos x.den)) ∙ mul_assoc_ℤ (pos x.den) v.num (pos f.den) in
    l ∙ ap (λ (z : ℤ). z *ℤ pos v.den) (sym e) ∙ turn-last (x.num attr) (pos f.den) (pos v.den) ∙ ap (λ (z : ℤ). z *ℤ pos f.den) h ∙ r)

-- the nearest one to v + 1 is another than v: the attribute moves up
pub nearest_moves_up : (p : Problem) (attr : ℕ) (v t f : Fraction) (x now : Assignment) → 0 < v.den → 0 < t.den → IsNext v t → IsLooselyBest p now → Reaches now attr v → IsNearest p attr t x → Reaches x attr f → (f.num *ℤ pos v.den ≢ v.num *ℤ pos f.den) → GoesAbove p attr v × IsGreatestUp p attr v f
nearest_moves_up p attr v t f x now up some next best here near there other =
    let low = reached_low attr v t now up some next here in
    let above : IsAbove x attr v = elim (against x attr v) [
      | inl same ↦ absurd (other (one-value x attr f v there same))
      | inr (inl above) ↦ above
      | inr (inr below) ↦ absurd (none-higher p attr t x near now best (omega (arith, ints, low)) (below_place attr t v now x some here below))
    ] in (
      (x, near.loosely, above),
      record {
        reached = (x, near.loosely, there, next_from attr v t x up some next (λ high. not-past p attr t x near now best low high));
        greatest = λ y also within higher.
            elim (up-or-low (place attr t y)) [
              | inl high ↦ up_to_next attr v t y up some next within high
              | inr flat ↦ none-higher p attr t x near y also flat (above_place attr t f x y some there higher)
            ];
      },
    )

-- it is at v: nothing is above
pub nearest_stays_up : (p : Problem) (attr : ℕ) (v t : Fraction) (x now : Assignment) → 0 < v.den → 0 < t.den → IsNext v t → IsLooselyBest p now → Reaches now attr v → IsNearest p attr t x → Reaches x attr v → GoesAbove p attr v → ⊥
nearest_stays_up p attr v t x now up some next best here near there (y, also, higher) =
    let low = reached_low attr v t now up some next here in
    let at_x = reached_low attr v t x up some next there in
    elim (up-or-low (place attr t y)) [
      | inl high ↦
          let z = crossing p attr t now y best also low high in
          near.none z.0 z.1 (zero-nearer (place attr t x) (place attr t z.0) x.den z.0.den z.2 (no-zero-low (place attr t x) at_x) z.0.positive)
      | inr flat ↦ none-higher p attr t x near y also flat (above_place attr t v x y some there higher)
    ]

pub nearest_moves_down : (p : Problem) (attr : ℕ) (v t f : Fraction) (x now : Assignment) → 0 < v.den → 0 < t.den → IsLast v t → IsLooselyBest p now → Reaches now attr v → IsNearest p attr t x → Reaches x attr f → (f.num *ℤ pos v.den ≢ v.num *ℤ pos f.den) → GoesBelow p attr v × IsLeastDown p attr v f
nearest_moves_down p attr v t f x now up some last best here near there other =
    let high = reached_high attr v t now up some last here in
    let below : IsBelow x attr v = elim (against x attr v) [
      | inl same ↦ absurd (other (one-value x attr f v there same))
      | inr (inl above) ↦ absurd (none-lower p attr t x near now best (omega (arith, ints, high)) (above_place attr t v now x some here above))
      | inr (inr below) ↦ below
    ] in (
      (x, near.loosely, below),
      record {
        reached = (x, near.loosely, there, last_from attr v t x up some last (λ low. not-under p attr t x near now best high low));
        least = λ y also within lower.
            elim (low-or-up (place attr t y)) [
              | inl low ↦ down_to_last attr v t y up some last within low
              | inr flat ↦ none-lower p attr t x near y also flat (below_place attr t f x y some there lower)
            ];
      },
    )

pub nearest_stays_down : (p : Problem) (attr : ℕ) (v t : Fraction) (x now : Assignment) → 0 < v.den → 0 < t.den → IsLast v t → IsLooselyBest p now → Reaches now attr v → IsNearest p attr t x → Reaches x attr v → GoesBelow p attr v → ⊥
nearest_stays_down p attr v t x now up some last best here near there (y, also, lower) =
    let high = reached_high attr v t now up some last here in
    let at_x = reached_high attr v t x up some last there in
    elim (low-or-up (place attr t y)) [
      | inl low ↦
          let z = crossing p attr t y now also best low high in
          near.none z.0 z.1 (zero-nearer (place attr t x) (place attr t z.0) x.den z.0.den z.2 (no-zero-high (place attr t x) at_x) z.0.positive)
      | inr flat ↦ none-lower p attr t x near y also flat (below_place attr t v x y some there lower)
    ]

-- ---- whether two differ

-- what reach one value are the same
pub same_there : (x y : Assignment) (attr : ℕ) (v : Fraction) → 0 < v.den → Reaches x attr v → Reaches y attr v → x.num attr *ℤ pos y.den ≡ y.num attr *ℤ pos x.den
same_there x y attr v up e h =
    cancel_mul v.den (x.num attr *ℤ pos y.den) (y.num attr *ℤ pos x.den) up
    (*ℤ_comm (pos v.den) (x.num attr *ℤ pos y.den)
    ∙ turn-last (x.num attr) (pos y.den) (pos v.den)
    ∙ ap (λ (z : ℤ). z *ℤ pos y.den) e
    ∙ turn-last v.num (pos x.den) (pos y.den)
    ∙ ap (λ (z : ℤ). z *ℤ pos x.den) (sym h)
    ∙ turn-last (y.num attr) (pos v.den) (pos x.den)
    ∙ *ℤ_comm (y.num attr *ℤ pos x.den) (pos v.den))

-- what is the same as one that reaches v reaches it
reaches-too : (x now : Assignment) (attr : ℕ) (v : Fraction) → Reaches now attr v → x.num attr *ℤ pos now.den ≡ now.num attr *ℤ pos x.den → Reaches x attr v
reaches-too x now attr v here e =
    cancel_mul now.den (x.num attr *ℤ pos v.den) (v.num *ℤ pos x.den) now.positive
    (*ℤ_comm (pos now.den) (x.num attr *ℤ pos v.den)
    ∙ turn-last (x.num attr) (pos v.den) (pos now.den)
    ∙ ap (λ (z : ℤ). z *ℤ pos v.den) e
    ∙ turn-last (now.num attr) (pos x.den) (pos v.den)
    ∙ ap (λ (z : ℤ). z *ℤ pos x.den) here
    ∙ turn-last v.num (pos now.den) (pos x.den)
    ∙ *ℤ_comm (v.num *ℤ pos x.den) (pos now.den))

-- what moves is ambiguous
pub move_ambiguous : (p : Problem) (attr : ℕ) (v f : Fraction) (now : Assignment) → IsLooselyBest p now → Reaches now attr v → IsMove p attr v f → IsAmbiguous p attr
move_ambiguous p attr v f now best here (inl ((x, also, above), rest)) =
    (x, now, also, best, λ e. let same = reaches-too x now attr v here e in absurd (omega (arith, ints, same, above)))
move_ambiguous p attr v f now best here (inr (none, (x, also, below), rest)) =
    (x, now, also, best, λ e. let same = reaches-too x now attr v here e in absurd (omega (arith, ints, same, below)))

-- where nothing is above or below, each loosely best assignment reaches v
all-there : (p : Problem) (attr : ℕ) (v : Fraction) → (GoesAbove p attr v → ⊥) → (GoesBelow p attr v → ⊥) → (x : Assignment) → IsLooselyBest p x → Reaches x attr v
all-there p attr v no_more no_less x best = elim (against x attr v) [
  | inl same ↦ same
  | inr (inl above) ↦ absurd (no_more (x, best, above))
  | inr (inr below) ↦ absurd (no_less (x, best, below))
]

pub neither_fixed : (p : Problem) (attr : ℕ) (v : Fraction) → 0 < v.den → (GoesAbove p attr v → ⊥) → (GoesBelow p attr v → ⊥) → IsAmbiguous p attr → ⊥
neither_fixed p attr v up no_more no_less (x, y, best, also, other) = other (same_there x y attr v up (all-there p attr v no_more no_less x best) (all-there p attr v no_more no_less y also))
