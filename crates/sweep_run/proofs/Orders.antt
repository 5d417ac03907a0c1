-- Which constant comes first on a way, and which place.
use Rattle.std.proofs.Common.{◌≡◌, ◌∙◌, ◌⊎◌, inl, inr, ℕ, ◌*◌, ◌<◌, Bool, true, false, ℤ, pos, negsuc, ◌+ℤ◌, ◌-ℤ◌, ◌*ℤ◌, ◌≤ℤ◌, ap, arith, mul-pos}
use borrow.Author.Differences.{ints}
use Rattle.frac_core.specs.Fraction.{Fraction, IsKept, IsRatio}
use Rattle.frac_core.proofs.Integers.{diff-add, diff-mul, diff-neg, diff-pos, diff_eq, neg-pos, on_1}
use Rattle.frac_core.proofs.Made.{same_fraction}
use Rattle.frac_core.proofs.Numbers.{low-or-up}
use Rattle.sweep_laws.specs.Fractions.{IsLess, IsNoMore}
use Rattle.sweep_run.specs.declared.ways.Place.{Place}
use Rattle.sweep_run.specs.Ways.{ComesBefore, IsNoLater, IsPlace, far_back}
use Rattle.sweep_run.proofs.Backs.{gap-part}
use Rattle.sweep_run.proofs.Soonest.{cancel-far, counts-far, times-right}

ruleset ring = (diff-add, diff-mul, diff-neg, diff-pos, neg-pos)

-- ---- constants

pub no_more_trans : (a b c : Fraction) → 0 < b.den → IsNoMore a b → IsNoMore b c → IsNoMore a c
no_more_trans a b c hb h k = counts-far c.den b.den a.den c.num b.num a.num hb k h

pub no_more_or_less : (a b : Fraction) → IsNoMore a b ⊎ IsLess b a
no_more_or_less a b = elim (low-or-up (b.num *ℤ pos a.den -ℤ a.num *ℤ pos b.den)) [
  | inl low ↦ inr (omega (arith, ints, low))
  | inr up ↦ inl (omega (arith, ints, up))
]

pub never_less : (a b : Fraction) → IsLess a b → IsNoMore b a → ⊥
never_less a b h k = omega (arith, ints, h, k)

pub less_weakly : (a b : Fraction) → IsLess a b → IsNoMore a b
less_weakly a b h = omega (arith, ints, h)

less_first : (a b c : Fraction) → 0 < c.den → IsLess a b → IsNoMore b c → IsLess a c
less_first a b c hc h k = elim (no_more_or_less c a) [
  | inl back ↦ absurd (never_less a b h (no_more_trans b c a hc k back))
  | inr fine ↦ fine
]

less_last : (a b c : Fraction) → 0 < a.den → IsNoMore a b → IsLess b c → IsLess a c
less_last a b c ha h k = elim (no_more_or_less c a) [
  | inl back ↦ absurd (never_less b c k (no_more_trans c a b ha back h))
  | inr fine ↦ fine
]

no-more-self : (z : ℤ) → z ≤ℤ z
no-more-self z = omega (arith, ints)

both-ways : (u v : ℤ) → u ≤ℤ v → v ≤ℤ u → u ≡ v
both-ways u v h k = omega (arith, ints, h, k)

-- ---- on a way

pub no_later_self : (up : Bool) (a : Fraction) → IsNoLater up a a
no_later_self true a = no-more-self (a.num *ℤ pos a.den)
no_later_self false a = no-more-self (a.num *ℤ pos a.den)

pub no_later_trans : (up : Bool) (a b c : Fraction) → 0 < b.den → IsNoLater up a b → IsNoLater up b c → IsNoLater up a c
no_later_trans true a b c hb h k = no_more_trans a b c hb h k
no_later_trans false a b c hb h k = no_more_trans c b a hb k h

pub before_weakly : (up : Bool) (a b : Fraction) → ComesBefore up a b → IsNoLater up a b
before_weakly true a b h = less_weakly a b h
before_weakly false a b h = less_weakly b a h

pub never_before : (up : Bool) (a b : Fraction) → ComesBefore up a b → IsNoLater up b a → ⊥
never_before true a b h k = never_less a b h k
never_before false a b h k = never_less b a h k

pub before_then : (up : Bool) (a b c : Fraction) → 0 < c.den → ComesBefore up a b → IsNoLater up b c → ComesBefore up a c
before_then true a b c hc h k = less_first a b c hc h k
before_then false a b c hc h k = less_last c b a hc k h

pub then_before : (up : Bool) (a b c : Fraction) → 0 < a.den → IsNoLater up a b → ComesBefore up b c → ComesBefore up a c
then_before true a b c ha h k = less_last a b c ha h k
then_before false a b c ha h k = less_first c b a ha k h

pub no_later_or_before : (up : Bool) (a b : Fraction) → IsNoLater up a b ⊎ ComesBefore up b a
no_later_or_before true a b = no_more_or_less a b
no_later_or_before false a b = no_more_or_less b a

pub one_constant : (up : Bool) (a b : Fraction) → IsKept a → IsKept b → IsNoLater up a b → IsNoLater up b a → a ≡ b
one_constant true a b ha hb h k = same_fraction a b ha.lowest hb.lowest (both-ways (a.num *ℤ pos b.den) (b.num *ℤ pos a.den) h k)
one_constant false a b ha hb h k = same_fraction a b ha.lowest hb.lowest (both-ways (a.num *ℤ pos b.den) (b.num *ℤ pos a.den) k h)

-- ---- places

-- (E*(1*a) - A*e)*(e*b) = (E*a)*(e*b) - e*e*(A*b)
far-parts : (e a b : ℕ) (E A : ℤ) → (E *ℤ (pos 1 *ℤ pos a) +ℤ negsuc 0 *ℤ (A *ℤ pos e)) *ℤ pos (e * b) ≡ (E *ℤ pos a) *ℤ pos (e * b) -ℤ pos (e * e) *ℤ (A *ℤ pos b)
far-parts e a b E A = gap-part e a (e * b) E A ∙ ap (λ (z : ℤ). (E *ℤ pos a) *ℤ pos (e * b) -ℤ z) (squares A)
  where
    squares : (A : ℤ) → (A *ℤ pos e) *ℤ pos (e * b) ≡ pos (e * e) *ℤ (A *ℤ pos b)
    squares = on_1 (λ A. (A *ℤ pos e) *ℤ pos (e * b) ≡ pos (e * e) *ℤ (A *ℤ pos b)) (λ a a'. simp ring (diff_eq _ _ _ _ (omega arith)))

-- (A*(1*e) - E*a)*(b*e) = e*e*(A*b) - (E*a)*(e*b)
over-parts : (e a b : ℕ) (E A : ℤ) → (A *ℤ (pos 1 *ℤ pos e) +ℤ negsuc 0 *ℤ (E *ℤ pos a)) *ℤ pos (b * e) ≡ pos (e * e) *ℤ (A *ℤ pos b) -ℤ (E *ℤ pos a) *ℤ pos (e * b)
over-parts e a b E A = gap-part a e (b * e) A E ∙ ap (λ (z : ℤ). z -ℤ (E *ℤ pos a) *ℤ pos (b * e)) (squares A) ∙ ap (λ (n : ℕ). pos (e * e) *ℤ (A *ℤ pos b) -ℤ (E *ℤ pos a) *ℤ pos n) (let t : b * e ≡ e * b = omega arith in t)
  where
    squares : (A : ℤ) → (A *ℤ pos e) *ℤ pos (b * e) ≡ pos (e * e) *ℤ (A *ℤ pos b)
    squares = on_1 (λ A. (A *ℤ pos e) *ℤ pos (b * e) ≡ pos (e * e) *ℤ (A *ℤ pos b)) (λ a a'. simp ring (diff_eq _ _ _ _ (omega arith)))

shared-part : (e a b : ℕ) (E : ℤ) → (E *ℤ pos a) *ℤ pos (e * b) ≡ (E *ℤ pos b) *ℤ pos (e * a)
shared-part e a b = on_1 (λ E. (E *ℤ pos a) *ℤ pos (e * b) ≡ (E *ℤ pos b) *ℤ pos (e * a)) (λ x x'. simp ring (diff_eq _ _ _ _ (omega arith)))

-- of the distances of two constants that is no more whose constant is no earlier
pub farther_back : (up : Bool) (end a b : Fraction) → 0 < end.den → IsNoMore (far_back up a end) (far_back up b end) → IsNoLater up b a
farther_back true end a b he h =
    let p = far-parts end.den a.den b.den end.num a.num in
    let q = far-parts end.den b.den a.den end.num b.num in
    let s = shared-part end.den a.den b.den end.num in
    cancel-far (end.den * end.den) (b.num *ℤ pos a.den) (a.num *ℤ pos b.den) (mul-pos he he) (omega (arith, ints, h, p, q, s))
farther_back false end a b he h =
    let p = over-parts end.den a.den b.den end.num a.num in
    let q = over-parts end.den b.den a.den end.num b.num in
    let s = shared-part end.den a.den b.den end.num in
    cancel-far (end.den * end.den) (a.num *ℤ pos b.den) (b.num *ℤ pos a.den) (mul-pos he he) (omega (arith, ints, h, p, q, s))

left-times : (u v : ℤ) (n : ℕ) → u ≤ℤ v → (pos n *ℤ u) ≤ℤ (pos n *ℤ v)
left-times u v n h =
    let t = times-right u v n h in
    let l : pos n *ℤ u ≡ u *ℤ pos n = turn u in
    let r : pos n *ℤ v ≡ v *ℤ pos n = turn v in
    omega (arith, ints, t, l, r)
  where
    turn : (z : ℤ) → pos n *ℤ z ≡ z *ℤ pos n
    turn = on_1 (λ z. pos n *ℤ z ≡ z *ℤ pos n) (λ a a'. simp ring (diff_eq _ _ _ _ (omega arith)))

pub nearer_back : (up : Bool) (end a b : Fraction) → IsNoLater up b a → IsNoMore (far_back up a end) (far_back up b end)
nearer_back true end a b h =
    let p = far-parts end.den a.den b.den end.num a.num in
    let q = far-parts end.den b.den a.den end.num b.num in
    let s = shared-part end.den a.den b.den end.num in
    let t = left-times (b.num *ℤ pos a.den) (a.num *ℤ pos b.den) (end.den * end.den) h in
    omega (arith, ints, t, p, q, s)
nearer_back false end a b h =
    let p = over-parts end.den a.den b.den end.num a.num in
    let q = over-parts end.den b.den a.den end.num b.num in
    let s = shared-part end.den a.den b.den end.num in
    let t = left-times (a.num *ℤ pos b.den) (b.num *ℤ pos a.den) (end.den * end.den) h in
    omega (arith, ints, t, p, q, s)

as-ratio : (f g : Fraction) → IsRatio f g.num (pos g.den) → f.num *ℤ pos g.den ≡ g.num *ℤ pos f.den
as-ratio f g r = r

far-some : (up : Bool) (w end : Fraction) → 0 < w.den → 0 < end.den → 0 < (far_back up w end).den
far-some true w end hw he = mul-pos he hw
far-some false w end hw he = mul-pos hw he

same-up : (u v : ℤ) → u ≡ v → u ≤ℤ v
same-up u v e = omega (arith, ints, e)

same-down : (u v : ℤ) → u ≡ v → v ≤ℤ u
same-down u v e = omega (arith, ints, e)

module _ (up : Bool) (end : Fraction) (a b : Place) (he : 0 < end.den) (ha : IsPlace up end a) (hb : IsPlace up end b) where
  far_a : Fraction
  far_a = far_back up a.width end

  far_b : Fraction
  far_b = far_back up b.width end

  -- the place with no greater distance is no earlier
  pub no_earlier_place : IsNoMore a.back b.back → IsNoLater up b.width a.width
  unfolding far_a far_b
  no_earlier_place h =
      farther_back up end a.width b.width he
      (no_more_trans far_a a.back far_b ha.back.lowest.above (same-down (a.back.num *ℤ pos far_a.den) (far_a.num *ℤ pos a.back.den) ha.is)
      (no_more_trans a.back b.back far_b hb.back.lowest.above h (same-up (b.back.num *ℤ pos far_b.den) (far_b.num *ℤ pos b.back.den) hb.is)))

  no-more-back : IsNoLater up b.width a.width → IsNoMore a.back b.back
  unfolding far_a far_b
  no-more-back h =
      no_more_trans a.back far_a b.back (far-some up a.width end ha.width.lowest.above he) (same-up (a.back.num *ℤ pos far_a.den) (far_a.num *ℤ pos a.back.den) ha.is)
      (no_more_trans far_a far_b b.back (far-some up b.width end hb.width.lowest.above he) (nearer_back up end a.width b.width h) (same-down (b.back.num *ℤ pos far_b.den) (far_b.num *ℤ pos b.back.den) hb.is))

  -- that with the greater distance is earlier
  pub earlier_place : IsLess b.back a.back → ComesBefore up a.width b.width
  earlier_place h = elim (no_later_or_before up b.width a.width) [
    | inl back ↦ absurd (never_less b.back a.back h (no-more-back back))
    | inr fine ↦ fine
  ]
