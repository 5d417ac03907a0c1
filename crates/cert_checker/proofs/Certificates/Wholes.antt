-- The fronts of whole columns, and what they decide.
use Rattle.std.proofs.Common.{◌≡◌, ℕ, zero, suc, ◌*◌, ◌<◌, Bool, true, false, ◌||◌, cond, nat_eq, ℤ, pos, negsuc, ◌+ℤ◌, ◌-ℤ◌, ◌<ℤ◌, Option, Some, None, refl, sym, ap, ap₂, subst, ◌∙◌, arith, eq-eqb, Ordering}
use Rattle.std.specs.Ordering.{int_cmp}
use Rattle.std.proofs.lemmas.Bool.{eqb-false}
use mathlib.Core.Bool.{not}
use borrow.Author.Differences.{ints}
use Rattle.frac_core.proofs.Integers.{mul-zero_ℤ}
use Rattle.problem_core.specs.declared.parts.Side.TheVariants.{Under, Over}
use Rattle.problem_core.specs.Layout.{Line}
use Rattle.problem_core.specs.Certificates.{Multipliers, under, over, under_weight, over_weight}
use Rattle.cert_checker.specs.declared.fronts.Front.{Front}
use Rattle.cert_checker.specs.declared.fronts.Facts.{Facts}
use Rattle.cert_checker.specs.declared.fronts.Sides.{Sides}
use Rattle.cert_checker.specs.Certifying.{IsFree, IsNotNegative}
use Rattle.cert_checker.specs.Fronts.{HasColumnFronts, HasOwnNumber, IsFront, IsColumnFront, is_below, is_free, is_zero}
use Rattle.cert_checker.proofs.Certificates.Valuing.{more-cmp}
use Rattle.cert_checker.proofs.Certificates.FrontLoops.{under-is, over-is, plain-under, plain-over, column-of, front-lex, lex-front}
use Rattle.frac_core.proofs.Numbers.{pos-no-product as no_cost, pos-product-up as some_cost}
use Rattle.frac_core.proofs.Bools.{neither as none-either}

-- ---- at the line's own level

less-none : (n : ℕ) → pos n -ℤ pos 0 ≡ pos n
less-none n = omega (arith, ints)

more-none : (n : ℕ) → pos n +ℤ pos 0 ≡ pos n
more-none n = omega (arith, ints)

own-under : (m : Multipliers) (l : Line) (facts : Facts) → l.level ≡ facts.own → l.weight ≡ facts.weight → l.rel ≡ facts.rel → pos l.scale ≡ facts.scale → m.times facts.own l.name ≡ pos 0 → under m l facts.own ≡ pos (m.scale facts.own * under_weight facts.rel facts.weight)
own-under m l facts own weight rel scale none =
    under-is m l facts.own facts (m.scale facts.own) (pos 0) own weight rel scale refl none
    ∙ ap₂ (λ (b : Bool) (z : ℤ). pos (m.scale facts.own * under_weight facts.rel (cond b facts.weight 0)) -ℤ z) (eq-eqb facts.own facts.own refl) (mul-zero_ℤ facts.scale)
    ∙ less-none (m.scale facts.own * under_weight facts.rel facts.weight)

own-over : (m : Multipliers) (l : Line) (facts : Facts) → l.level ≡ facts.own → l.weight ≡ facts.weight → l.rel ≡ facts.rel → pos l.scale ≡ facts.scale → m.times facts.own l.name ≡ pos 0 → over m l facts.own ≡ pos (m.scale facts.own * over_weight facts.rel facts.weight)
own-over m l facts own weight rel scale none =
    over-is m l facts.own facts (m.scale facts.own) (pos 0) own weight rel scale refl none
    ∙ ap₂ (λ (b : Bool) (z : ℤ). pos (m.scale facts.own * over_weight facts.rel (cond b facts.weight 0)) +ℤ z) (eq-eqb facts.own facts.own refl) (mul-zero_ℤ facts.scale)
    ∙ more-none (m.scale facts.own * over_weight facts.rel facts.weight)

-- ---- whole columns

pub whole-under : (m : Multipliers) (l : Line) (facts : Facts) (seen : ℕ → Bool) (front result : Option Front) (named : Bool)
    → l.level ≡ facts.own → l.weight ≡ facts.weight → l.rel ≡ facts.rel → pos l.scale ≡ facts.scale
    → 0 < m.scale facts.own → ((k : ℕ) → seen k ≡ false → m.times k l.name ≡ pos 0) → named ≡ seen l.level → IsFront (under m l) seen front
    → ((f : ℕ → ℤ) (s : ℕ → Bool) → named ≡ s facts.own → (s facts.own ≡ false → HasOwnNumber f facts Under) → IsFront f s front → IsFront f (λ k. s k || nat_eq k facts.own) result)
    → IsColumnFront (under m l) result
whole-under m l facts seen front result named own weight rel scale some unseen is_named has whole =
    column-of (under m l) (λ k. seen k || nat_eq k facts.own) result
    (λ k u.
    let both = none-either (seen k) (nat_eq k facts.own) u in
    plain-under m l k (unseen k both.0) (λ e. eqb-false k facts.own both.1 (sym e ∙ own)))
    (whole (under m l) seen (is_named ∙ ap seen own)
    (λ u.
    let is = own-under m l facts own weight rel scale (unseen facts.own u) in
    record {
      free = λ e. is ∙ no_cost (m.scale facts.own) (under_weight facts.rel facts.weight) e;
      costed = λ h. subst (λ (z : ℤ). pos 0 <ℤ z) (sym is) (some_cost (m.scale facts.own) (under_weight facts.rel facts.weight) some h);
    }) has)

pub whole-over : (m : Multipliers) (l : Line) (facts : Facts) (seen : ℕ → Bool) (front result : Option Front) (named : Bool)
    → l.level ≡ facts.own → l.weight ≡ facts.weight → l.rel ≡ facts.rel → pos l.scale ≡ facts.scale
    → 0 < m.scale facts.own → ((k : ℕ) → seen k ≡ false → m.times k l.name ≡ pos 0) → named ≡ seen l.level → IsFront (over m l) seen front
    → ((f : ℕ → ℤ) (s : ℕ → Bool) → named ≡ s facts.own → (s facts.own ≡ false → HasOwnNumber f facts Over) → IsFront f s front → IsFront f (λ k. s k || nat_eq k facts.own) result)
    → IsColumnFront (over m l) result
whole-over m l facts seen front result named own weight rel scale some unseen is_named has whole =
    column-of (over m l) (λ k. seen k || nat_eq k facts.own) result
    (λ k u.
    let both = none-either (seen k) (nat_eq k facts.own) u in
    plain-over m l k (unseen k both.0) (λ e. eqb-false k facts.own both.1 (sym e ∙ own)))
    (whole (over m l) seen (is_named ∙ ap seen own)
    (λ u.
    let is = own-over m l facts own weight rel scale (unseen facts.own u) in
    record {
      free = λ e. is ∙ no_cost (m.scale facts.own) (over_weight facts.rel facts.weight) e;
      costed = λ h. subst (λ (z : ℤ). pos 0 <ℤ z) (sym is) (some_cost (m.scale facts.own) (over_weight facts.rel facts.weight) some h);
    }) has)

-- ---- what fronts decide

pub negative-under : (m : Multipliers) (l : Line) (s : Sides) → HasColumnFronts m l s → is_below s.under ≡ true → IsNotNegative m l → ⊥
negative-under m l s (a, b) e (f, g) = lex-front (under m l) s.under a e f

pub negative-over : (m : Multipliers) (l : Line) (s : Sides) → HasColumnFronts m l s → is_below s.over ≡ true → IsNotNegative m l → ⊥
negative-over m l s (a, b) e (f, g) = lex-front (over m l) s.over b e g

pub not-Negative : (m : Multipliers) (l : Line) (s : Sides) → HasColumnFronts m l s → is_below s.under ≡ false → is_below s.over ≡ false → IsNotNegative m l
not-Negative m l s (a, b) e f = (front-lex (under m l) s.under a e, front-lex (over m l) s.over b f)

zero-column : (f : ℕ → ℤ) (o : Option Front) → IsColumnFront f o → is_zero o ≡ true → (k : ℕ) → f k ≡ pos 0
zero-column f None h e = h
zero-column f (Some q) h e = absurd (let g : false ≡ true = e in cc)

not_zero : (z : ℤ) (b : Bool) → (b ≡ true → z <ℤ pos 0) → (b ≡ false → pos 0 <ℤ z) → z ≡ pos 0 → ⊥
not_zero z true h k e = omega (arith, ints, h refl, e)
not_zero z false h k e = omega (arith, ints, k refl, e)

column-zero : (f : ℕ → ℤ) (o : Option Front) → IsColumnFront f o → ((k : ℕ) → f k ≡ pos 0) → is_zero o ≡ true
column-zero f None h a = refl
column-zero f (Some q) h a = absurd (not_zero (f q.level) q.negative h.0 h.1 (a q.level))

pub free-is : (f g : ℕ → ℤ) (s : Sides) (z : ℤ) (sign : Ordering) → IsColumnFront f s.under → IsColumnFront g s.over → sign ≡ int_cmp z (pos 0) → (is_free s sign ≡ true → IsFree f g z) × (IsFree f g z → is_free s sign ≡ true)
free-is f g s (pos zero) sign a b e = (
  λ h. (λ l. absurd (omega (arith, ints, l)), λ l. absurd (omega (arith, ints, l))),
  λ h. ap (is_free s) e,
)
free-is f g s (pos (suc n)) sign a b e =
    let is : is_free s sign ≡ is_zero s.over = ap (is_free s) (e ∙ more-cmp n) in (
      λ h. (λ l. absurd (omega (arith, ints, l)), λ l. zero-column g s.over b (sym is ∙ h)),
      λ h. is ∙ column-zero g s.over b (h.1 (omega (arith, ints))),
    )
free-is f g s (negsuc n) sign a b e =
    let is : is_free s sign ≡ is_zero s.under = ap (is_free s) e in (
      λ h. (λ l. zero-column f s.under a (sym is ∙ h), λ l. absurd (omega (arith, ints, l))),
      λ h. is ∙ column-zero f s.under a (h.0 (omega (arith, ints))),
    )

-- ---- answers the other way round

pub not-true : (b : Bool) → not b ≡ true → b ≡ false
not-true true e = absurd (let g : false ≡ true = e in cc)
not-true false e = refl

pub true-not : (b : Bool) → (b ≡ true → ⊥) → not b ≡ true
true-not true n = absurd (n refl)
true-not false n = refl

unfoldable pub no_sides : Sides
no_sides = record { under = None; over = None; own = false }
