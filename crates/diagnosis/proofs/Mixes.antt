-- An assignment between two others.
use Rattle.std.proofs.Common.{◌≡◌, ◌∙◌, ℕ, zero, suc, ◌+◌, ◌*◌, ◌<◌, ◌≤◌, nat_eq, List, [], ◌∷◌, ℤ, pos, ◌+ℤ◌, ◌-ℤ◌, ◌*ℤ◌, sym, ap, ap₂, subst, arith}
use borrow.Author.Differences.{ints}
use Rattle.problem_core.specs.declared.parts.Term.{Term}
use Rattle.problem_core.specs.Layout.{Assignment, Line, cost, error, error_of, gap, share, value_at}
use Rattle.frac_core.proofs.Integers.{add-mul_right, diff-add, diff-mul, diff-neg, diff-pos, diff_eq, mul-add_left, neg-pos, on_1, on_3}
use Rattle.problem_core.proofs.Best.Midpoints.{count-mid, weighted-mid, error-mid}

ruleset ring = (diff-add, diff-mul, diff-neg, diff-pos, neg-pos)

pub product-above : (a b c : ℕ) → 0 < a → 0 < b → 0 < c → 0 < a * (b * c)
product-above zero b c h k l = absurd (omega (arith, h))
product-above (suc a) zero c h k l = absurd (omega (arith, k))
product-above (suc a) (suc b) zero h k l = absurd (omega (arith, l))
product-above (suc a) (suc b) (suc c) h k l = omega arith

-- a parts of x and b parts of y
abbrev pub mix : (a b : ℕ) → 0 < a + b → Assignment → Assignment → Assignment
mix a b some x y = record {
  den = (a + b) * (x.den * y.den);
  num = λ v. pos a *ℤ (x.num v *ℤ pos y.den) +ℤ pos b *ℤ (y.num v *ℤ pos x.den);
  positive = product-above (a + b) x.den y.den some x.positive y.positive;
}

-- ---- its errors

term-mix : (a b d e : ℕ) (c n m : ℤ) → c *ℤ (pos a *ℤ (n *ℤ pos e) +ℤ pos b *ℤ (m *ℤ pos d)) ≡ pos a *ℤ ((c *ℤ n) *ℤ pos e) +ℤ pos b *ℤ ((c *ℤ m) *ℤ pos d)
term-mix a b d e = on_3 (λ c n m. c *ℤ (pos a *ℤ (n *ℤ pos e) +ℤ pos b *ℤ (m *ℤ pos d)) ≡ pos a *ℤ ((c *ℤ n) *ℤ pos e) +ℤ pos b *ℤ ((c *ℤ m) *ℤ pos d)) (λ c c' n n' m m'. simp ring (diff_eq _ _ _ _ (omega arith)))

sum-mix : (a b d e : ℕ) (s t u v : ℤ) → (pos a *ℤ (s *ℤ pos e) +ℤ pos b *ℤ (t *ℤ pos d)) +ℤ (pos a *ℤ (u *ℤ pos e) +ℤ pos b *ℤ (v *ℤ pos d)) ≡ pos a *ℤ ((s +ℤ u) *ℤ pos e) +ℤ pos b *ℤ ((t +ℤ v) *ℤ pos d)
sum-mix a b d e s t u v =
    omega (
      arith,
      ints,
      ap (λ (z : ℤ). pos a *ℤ z) (add-mul_right s u (pos e)),
      ap (λ (z : ℤ). pos b *ℤ z) (add-mul_right t v (pos d)),
      mul-add_left (pos a) (s *ℤ pos e) (u *ℤ pos e),
      mul-add_left (pos b) (t *ℤ pos d) (v *ℤ pos d),
    )

value-mix : (a b d e : ℕ) (n m : ℕ → ℤ) (form : List Term) → value_at (λ v. pos a *ℤ (n v *ℤ pos e) +ℤ pos b *ℤ (m v *ℤ pos d)) form ≡ pos a *ℤ (value_at n form *ℤ pos e) +ℤ pos b *ℤ (value_at m form *ℤ pos d)
value-mix a b d e n m [] = omega (arith, ints)
value-mix a b d e n m (t ∷ form) =
    ap₂ ◌+ℤ◌ (term-mix a b d e t.by (n t.attr) (m t.attr)) (value-mix a b d e n m form)
    ∙ sum-mix a b d e (t.by *ℤ n t.attr) (t.by *ℤ m t.attr) (value_at n form) (value_at m form)

gap-of-mix : (q a b d e : ℕ) (u v p : ℤ) → pos q *ℤ (pos a *ℤ (u *ℤ pos e) +ℤ pos b *ℤ (v *ℤ pos d)) -ℤ p *ℤ pos ((a + b) * (d * e)) ≡ pos (a * e) *ℤ (pos q *ℤ u -ℤ p *ℤ pos d) +ℤ pos (b * d) *ℤ (pos q *ℤ v -ℤ p *ℤ pos e)
gap-of-mix q a b d e =
    on_3 (λ u v p. pos q *ℤ (pos a *ℤ (u *ℤ pos e) +ℤ pos b *ℤ (v *ℤ pos d)) -ℤ p *ℤ pos ((a + b) * (d * e)) ≡ pos (a * e) *ℤ (pos q *ℤ u -ℤ p *ℤ pos d) +ℤ pos (b * d) *ℤ (pos q *ℤ v -ℤ p *ℤ pos e))
    (λ u u' v v' p p'. simp ring (diff_eq _ _ _ _ (omega arith)))

pub gap_mix : (a b : ℕ) (some : 0 < a + b) (x y : Assignment) (l : Line) → gap (mix a b some x y) l ≡ pos (a * y.den) *ℤ gap x l +ℤ pos (b * x.den) *ℤ gap y l
gap_mix a b some x y l =
    ap (λ (t : ℤ). pos l.den *ℤ t -ℤ l.num *ℤ pos ((a + b) * (x.den * y.den))) (value-mix a b x.den y.den x.num y.num l.form)
    ∙ gap-of-mix l.den a b x.den y.den (value_at x.num l.form) (value_at y.num l.form) l.num

pub line_error_mix : (a b : ℕ) (some : 0 < a + b) (x y : Assignment) (l : Line) → error (mix a b some x y) l ≤ a * y.den * error x l + b * x.den * error y l
line_error_mix a b some x y l =
    subst (λ (g : ℤ). error_of l.rel g ≤ a * y.den * error x l + b * x.den * error y l) (sym (gap_mix a b some x y l)) (error-mid l.rel (a * y.den) (b * x.den) (gap x l) (gap y l))

pub cost_mix : (ls : List Line) (a b : ℕ) (some : 0 < a + b) (x y : Assignment) (level : ℕ) → cost ls (mix a b some x y) level ≤ a * y.den * cost ls x level + b * x.den * cost ls y level
cost_mix ls a b some x y level =
    count-mid (a * y.den) (b * x.den) _ _ _ ls
    (λ l. weighted-mid (nat_eq l.level level) (a * y.den) (b * x.den) l.weight (error (mix a b some x y) l) (error x l) (error y l) (share ls l) (line_error_mix a b some x y l))

-- ---- its value

left-part : (b D E t : ℕ) (X : ℤ) → (pos (b * D) *ℤ (X *ℤ pos E)) *ℤ pos t ≡ pos (b * D * E) *ℤ (X *ℤ pos t)
left-part b D E t = on_1 (λ X. (pos (b * D) *ℤ (X *ℤ pos E)) *ℤ pos t ≡ pos (b * D * E) *ℤ (X *ℤ pos t)) (λ x x'. simp ring (diff_eq _ _ _ _ (omega arith)))

both-parts : (a b D E : ℕ) (N : ℤ) → pos (b * D * E) *ℤ (N *ℤ pos D -ℤ pos a) +ℤ pos (a * E * D) *ℤ (N *ℤ pos E +ℤ pos b) ≡ N *ℤ pos ((b * D + a * E) * (D * E))
both-parts a b D E = on_1 (λ N. pos (b * D * E) *ℤ (N *ℤ pos D -ℤ pos a) +ℤ pos (a * E * D) *ℤ (N *ℤ pos E +ℤ pos b) ≡ N *ℤ pos ((b * D + a * E) * (D * E))) (λ n n'. simp ring (diff_eq _ _ _ _ (omega arith)))

-- the value N/t between X/D and Y/E
pub mix_reaches : (a b D E t : ℕ) (X Y N : ℤ) → X *ℤ pos t ≡ N *ℤ pos D -ℤ pos a → Y *ℤ pos t ≡ N *ℤ pos E +ℤ pos b
    → (pos (b * D) *ℤ (X *ℤ pos E) +ℤ pos (a * E) *ℤ (Y *ℤ pos D)) *ℤ pos t ≡ N *ℤ pos ((b * D + a * E) * (D * E))
mix_reaches a b D E t X Y N h k =
    add-mul_right (pos (b * D) *ℤ (X *ℤ pos E)) (pos (a * E) *ℤ (Y *ℤ pos D)) (pos t)
    ∙ ap₂ ◌+ℤ◌ (left-part b D E t X ∙ ap (λ (z : ℤ). pos (b * D * E) *ℤ z) h) (left-part a E D t Y ∙ ap (λ (z : ℤ). pos (a * E * D) *ℤ z) k)
    ∙ both-parts a b D E N
