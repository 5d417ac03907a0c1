-- The products of places: a constant w/wd, the end's e/ed, and the distance b/bd between them.
use Rattle.std.proofs.Common.{◌≡◌, ◌∙◌, ℕ, ◌*◌, ◌<◌, ℤ, pos, negsuc, ◌+ℤ◌, ◌-ℤ◌, ◌*ℤ◌, ◌≤ℤ◌, ap, subst, arith}
use borrow.Author.Differences.{ints}
use lib.IntN.{*ℤ_comm}
use Rattle.frac_core.proofs.Integers.{diff-add, diff-mul, diff-neg, diff-pos, diff_eq, mul_not_negative, neg-pos, on_1, on_2}
use Rattle.frac_core.proofs.Numbers.{up-from}

ruleset ring = (diff-add, diff-mul, diff-neg, diff-pos, neg-pos)

-- ---- denominators

pub over-both : (a b : ℕ) → pos a *ℤ (pos 1 *ℤ pos b) ≡ pos (a * b)
over-both a b = simp ring (diff_eq _ _ _ _ (omega arith))

-- ---- the three products

-- w*(ed*(1*bd))
width-part : (ed bd : ℕ) (w : ℤ) → w *ℤ (pos ed *ℤ (pos 1 *ℤ pos bd)) ≡ (w *ℤ pos ed) *ℤ pos bd
width-part ed bd = on_1 (λ w. w *ℤ (pos ed *ℤ (pos 1 *ℤ pos bd)) ≡ (w *ℤ pos ed) *ℤ pos bd) (λ a a'. simp ring (diff_eq _ _ _ _ (omega arith)))

minus-one : (z : ℤ) → negsuc 0 *ℤ z ≡ pos 0 -ℤ z
minus-one z = omega (arith, ints)

-- (e*(1*bd) - b*ed)*wd and (e*(1*bd) + b*ed)*wd
less-part : (ed wd bd : ℕ) (e b : ℤ) → (e *ℤ (pos 1 *ℤ pos bd) +ℤ negsuc 0 *ℤ (b *ℤ pos ed)) *ℤ pos wd ≡ (e *ℤ pos wd) *ℤ pos bd -ℤ b *ℤ pos (ed * wd)
less-part ed wd bd e b =
    ap (λ (z : ℤ). (e *ℤ (pos 1 *ℤ pos bd) +ℤ z) *ℤ pos wd) (minus-one (b *ℤ pos ed))
    ∙ on_2 (λ e b. (e *ℤ (pos 1 *ℤ pos bd) +ℤ (pos 0 -ℤ b *ℤ pos ed)) *ℤ pos wd ≡ (e *ℤ pos wd) *ℤ pos bd -ℤ b *ℤ pos (ed * wd)) (λ a a' b b'. simp ring (diff_eq _ _ _ _ (omega arith))) e b

more-part : (ed wd bd : ℕ) (e b : ℤ) → (e *ℤ (pos 1 *ℤ pos bd) +ℤ pos 1 *ℤ (b *ℤ pos ed)) *ℤ pos wd ≡ (e *ℤ pos wd) *ℤ pos bd +ℤ b *ℤ pos (ed * wd)
more-part ed wd bd = on_2 (λ e b. (e *ℤ (pos 1 *ℤ pos bd) +ℤ pos 1 *ℤ (b *ℤ pos ed)) *ℤ pos wd ≡ (e *ℤ pos wd) *ℤ pos bd +ℤ b *ℤ pos (ed * wd)) (λ a a' b b'. simp ring (diff_eq _ _ _ _ (omega arith)))

-- (e*(1*wd) - w*ed)*bd
pub gap-part : (ed wd bd : ℕ) (e w : ℤ) → (e *ℤ (pos 1 *ℤ pos wd) +ℤ negsuc 0 *ℤ (w *ℤ pos ed)) *ℤ pos bd ≡ (e *ℤ pos wd) *ℤ pos bd -ℤ (w *ℤ pos ed) *ℤ pos bd
gap-part ed wd bd e w =
    ap (λ (z : ℤ). (e *ℤ (pos 1 *ℤ pos wd) +ℤ z) *ℤ pos bd) (minus-one (w *ℤ pos ed))
    ∙ on_2 (λ e w. (e *ℤ (pos 1 *ℤ pos wd) +ℤ (pos 0 -ℤ w *ℤ pos ed)) *ℤ pos bd ≡ (e *ℤ pos wd) *ℤ pos bd -ℤ (w *ℤ pos ed) *ℤ pos bd) (λ a a' b b'. simp ring (diff_eq _ _ _ _ (omega arith))) e w

-- (w*(1*ed) - e*wd)*bd
pub over-part : (ed wd bd : ℕ) (e w : ℤ) → (w *ℤ (pos 1 *ℤ pos ed) +ℤ negsuc 0 *ℤ (e *ℤ pos wd)) *ℤ pos bd ≡ (w *ℤ pos ed) *ℤ pos bd -ℤ (e *ℤ pos wd) *ℤ pos bd
over-part ed wd bd e w = gap-part wd ed bd w e

turned : (a b : ℕ) (z : ℤ) → z *ℤ pos (a * b) ≡ z *ℤ pos (b * a)
turned a b z = ap (λ (n : ℕ). z *ℤ pos n) (let e : a * b ≡ b * a = omega arith in e)

-- ---- w = e - b, and b = e - w

abbrev pub IsLessBy : ℤ → ℕ → ℤ → ℕ → ℤ → ℕ → Type 0
IsLessBy w wd e ed b bd = w *ℤ (pos ed *ℤ (pos 1 *ℤ pos bd)) ≡ (e *ℤ (pos 1 *ℤ pos bd) +ℤ negsuc 0 *ℤ (b *ℤ pos ed)) *ℤ pos wd

abbrev pub IsMoreBy : ℤ → ℕ → ℤ → ℕ → ℤ → ℕ → Type 0
IsMoreBy w wd e ed b bd = w *ℤ (pos ed *ℤ (pos 1 *ℤ pos bd)) ≡ (e *ℤ (pos 1 *ℤ pos bd) +ℤ pos 1 *ℤ (b *ℤ pos ed)) *ℤ pos wd

-- the distance of a constant below the end
abbrev pub IsGapUp : ℤ → ℕ → ℤ → ℕ → ℤ → ℕ → Type 0
IsGapUp w wd e ed b bd = b *ℤ pos (ed * wd) ≡ (e *ℤ (pos 1 *ℤ pos wd) +ℤ negsuc 0 *ℤ (w *ℤ pos ed)) *ℤ pos bd

-- of one above it
abbrev pub IsGapDown : ℤ → ℕ → ℤ → ℕ → ℤ → ℕ → Type 0
IsGapDown w wd e ed b bd = b *ℤ pos (wd * ed) ≡ (w *ℤ (pos 1 *ℤ pos ed) +ℤ negsuc 0 *ℤ (e *ℤ pos wd)) *ℤ pos bd

pub gap-up : (w : ℤ) (wd : ℕ) (e : ℤ) (ed : ℕ) (b : ℤ) (bd : ℕ) → IsLessBy w wd e ed b bd → IsGapUp w wd e ed b bd
gap-up w wd e ed b bd h =
    let a = width-part ed bd w in
    let l = less-part ed wd bd e b in
    let g = gap-part ed wd bd e w in
    omega (arith, ints, h, a, l, g)

pub less-by-gap : (w : ℤ) (wd : ℕ) (e : ℤ) (ed : ℕ) (b : ℤ) (bd : ℕ) → IsGapUp w wd e ed b bd → IsLessBy w wd e ed b bd
less-by-gap w wd e ed b bd h =
    let a = width-part ed bd w in
    let l = less-part ed wd bd e b in
    let g = gap-part ed wd bd e w in
    omega (arith, ints, h, a, l, g)

pub gap-down : (w : ℤ) (wd : ℕ) (e : ℤ) (ed : ℕ) (b : ℤ) (bd : ℕ) → IsMoreBy w wd e ed b bd → IsGapDown w wd e ed b bd
gap-down w wd e ed b bd h =
    let a = width-part ed bd w in
    let m = more-part ed wd bd e b in
    let o = over-part ed wd bd e w in
    let t = turned wd ed b in
    omega (arith, ints, h, a, m, o, t)

pub more-by-gap : (w : ℤ) (wd : ℕ) (e : ℤ) (ed : ℕ) (b : ℤ) (bd : ℕ) → IsGapDown w wd e ed b bd → IsMoreBy w wd e ed b bd
more-by-gap w wd e ed b bd h =
    let a = width-part ed bd w in
    let m = more-part ed wd bd e b in
    let o = over-part ed wd bd e w in
    let t = turned wd ed b in
    omega (arith, ints, h, a, m, o, t)

-- ---- which comes first

up-part : (n : ℕ) (z : ℤ) → pos 0 ≤ℤ z → pos 0 ≤ℤ (z *ℤ pos n)
up-part n z h = subst (λ (y : ℤ). pos 0 ≤ℤ y) (*ℤ_comm (pos n) z) (mul_not_negative n z h)

as-gap : (bd : ℕ) (x y : ℤ) → x *ℤ pos bd -ℤ y *ℤ pos bd ≡ pos bd *ℤ (x -ℤ y)
as-gap bd = on_2 (λ x y. x *ℤ pos bd -ℤ y *ℤ pos bd ≡ pos bd *ℤ (x -ℤ y)) (λ a a' b b'. simp ring (diff_eq _ _ _ _ (omega arith)))

-- a gap that isn't negative is none between a greater and a lesser one
gap-none : (bd : ℕ) (x y z : ℤ) → 0 < bd → pos 0 ≤ℤ z → z ≡ x *ℤ pos bd -ℤ y *ℤ pos bd → y ≤ℤ x
gap-none bd x y z above up e =
    let low : pos 0 ≤ℤ (x -ℤ y) = up-from bd (x -ℤ y) above (subst (λ (k : ℤ). pos 0 ≤ℤ k) (e ∙ as-gap bd x y) up) in
    omega (arith, ints, low)

pub no-later-up : (w : ℤ) (wd : ℕ) (e : ℤ) (ed : ℕ) (b : ℤ) (bd : ℕ) → 0 < bd → pos 0 ≤ℤ b → IsGapUp w wd e ed b bd → (w *ℤ pos ed) ≤ℤ (e *ℤ pos wd)
no-later-up w wd e ed b bd above up h = gap-none bd (e *ℤ pos wd) (w *ℤ pos ed) (b *ℤ pos (ed * wd)) above (up-part (ed * wd) b up) (h ∙ gap-part ed wd bd e w)

pub no-later-down : (w : ℤ) (wd : ℕ) (e : ℤ) (ed : ℕ) (b : ℤ) (bd : ℕ) → 0 < bd → pos 0 ≤ℤ b → IsGapDown w wd e ed b bd → (e *ℤ pos wd) ≤ℤ (w *ℤ pos ed)
no-later-down w wd e ed b bd above up h = gap-none bd (w *ℤ pos ed) (e *ℤ pos wd) (b *ℤ pos (wd * ed)) above (up-part (wd * ed) b up) (h ∙ over-part ed wd bd e w)

-- the end is no distance from itself
pub no-gap : (e : ℤ) (ed : ℕ) → pos 0 *ℤ pos (ed * ed) ≡ (e *ℤ (pos 1 *ℤ pos ed) +ℤ negsuc 0 *ℤ (e *ℤ pos ed)) *ℤ pos 1
no-gap e ed =
    let g = gap-part ed ed 1 e e in
    let z : pos 0 *ℤ pos (ed * ed) ≡ pos 0 = omega (arith, ints) in
    omega (arith, ints, g, z)
