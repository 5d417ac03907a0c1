-- A corner has one list of values.
use Rattle.std.proofs.Common.{◌≡◌, ◌∙◌, ℕ, ◌<◌, List, [], ◌∷◌, map}
use Rattle.std.proofs.Common.{ℤ, pos, ◌*ℤ◌, ◌<ℤ◌, refl, sym, ap, ap₂, subst}
use Rattle.std.proofs.Math.Logic.{∥∥₁_elim, ∥∥₁_prop}
use Rattle.std.specs.Coded.{Coded, Coded-set, code_by, coded_ℕ, coded_ℤ, coded_list, coded×}
use Rattle.std.specs.List.{AllByRecursion as Each}
use Rattle.std.proofs.lemmas.List.Elements.{recursion_from_All}
use lib.IntN.{*ℤ_comm}
use Rattle.frac_core.specs.Fraction.{Fraction, IsLowest}
use Rattle.frac_core.proofs.Integers.{cancel_mul, mul_assoc_ℤ}
use Rattle.problem_core.specs.declared.parts.Mark.{Mark}
use Rattle.problem_core.specs.declared.parts.Stay.{Stay}
use Rattle.problem_core.specs.Layout.{Problem}
use Rattle.problem_core.specs.Corners.{Agree, IsCorner, Point, StandsAt, attr_column, one_column}
use Rattle.frac_core.proofs.Numbers.{as-natural as above-zero}
use Rattle.corner_view.specs.Seen.{HasValueAt, Scene}
use Rattle.layout_solver.specs.Engines.{AreItsValues, HasValues, HaveValues}
use Rattle.frac_core.proofs.OneFraction.{one_value}
use Rattle.frac_core.proofs.Made.{same_fraction}

-- ---- one value

-- the last two of three factors change places
swap-last : (a u v : ℤ) → (a *ℤ u) *ℤ v ≡ (a *ℤ v) *ℤ u
swap-last a u v = mul_assoc_ℤ a u v ∙ ap (λ (z : ℤ). a *ℤ z) (*ℤ_comm u v) ∙ sym (mul_assoc_ℤ a v u)

-- what agrees with one number agrees
both-agree : (p x y : ℤ) (a b c : ℕ) → 0 < c → p *ℤ pos a ≡ x *ℤ pos c → p *ℤ pos b ≡ y *ℤ pos c
    → x *ℤ pos b ≡ y *ℤ pos a
both-agree p x y a b c above hx hy =
    cancel_mul c (x *ℤ pos b) (y *ℤ pos a) above
    (*ℤ_comm (pos c) (x *ℤ pos b) ∙ swap-last x (pos b) (pos c)
    ∙ ap (λ (z : ℤ). z *ℤ pos b) (sym hx) ∙ swap-last p (pos a) (pos b)
    ∙ ap (λ (z : ℤ). z *ℤ pos a) hy ∙ swap-last y (pos c) (pos a)
    ∙ *ℤ_comm (y *ℤ pos a) (pos c))

-- fractions of what agrees with one number are equal by their cross products
numbers-agree : (f g : Fraction) (p p1 x x1 y y1 : ℤ) → pos 0 <ℤ p1 → pos 0 <ℤ x1 → pos 0 <ℤ y1
    → p *ℤ x1 ≡ x *ℤ p1 → p *ℤ y1 ≡ y *ℤ p1
    → x *ℤ pos f.den ≡ f.num *ℤ x1 → y *ℤ pos g.den ≡ g.num *ℤ y1 → f.num *ℤ pos g.den ≡ g.num *ℤ pos f.den
numbers-agree f g p p1 x x1 y y1 above_p above_x above_y hx hy given_f given_g =
    let c = above-zero p1 above_p in
    let a = above-zero x1 above_x in
    let b = above-zero y1 above_y in
    one_value f g x y a.0 b.0 a.1 b.1
    (given_f ∙ ap (λ (z : ℤ). f.num *ℤ z) a.2) (given_g ∙ ap (λ (z : ℤ). g.num *ℤ z) b.2)
    (both-agree p x y a.0 b.0 c.0 c.1
    (ap (λ (z : ℤ). p *ℤ z) (sym a.2) ∙ hx ∙ ap (λ (z : ℤ). x *ℤ z) c.2)
    (ap (λ (z : ℤ). p *ℤ z) (sym b.2) ∙ hy ∙ ap (λ (z : ℤ). y *ℤ z) c.2))

-- the corner fixes what stands in the column
abbrev pub IsFixed : Problem → List Mark → Point → ℕ → Type 0
IsFixed p at x c = (y : Point) → StandsAt p at y → Agree c x y

-- a column that the corner fixes has one value there
pub one_number : (p : Problem) (at : List Mark) (x : Point) (c : ℕ) (f g : Fraction) → IsFixed p at x c
    → IsLowest f → IsLowest g → HasValueAt p at c f → HasValueAt p at c g → f ≡ g
one_number p at x c f g fixed low_f low_g u v =
    same_fraction f g low_f low_g
    (numbers-agree f g (x.num c) (x.num one_column) (u.0.num c) (u.0.num one_column) (v.0.num c)
    (v.0.num one_column) x.positive u.0.positive v.0.positive
    (fixed u.0 u.1) (fixed v.0 v.1) u.2 v.2)

-- ---- one list

-- an attribute with its value
abbrev pair : ℕ → Fraction → ℕ × Fraction
pair n f = (n, f)

-- two lists of values of attributes that the corner fixes are one
same-values : (p : Problem) (at : List Mark) (x : Point) (stays : List Stay) (u v : List (ℕ × Fraction))
    → map (λ w. w.0) u ≡ map (λ s. s.attr) stays → map (λ w. w.0) v ≡ map (λ s. s.attr) stays
    → Each (λ w. IsLowest w.1) u → Each (λ w. IsLowest w.1) v
    → Each (λ w. HasValueAt p at (attr_column w.0) w.1) u
    → Each (λ w. HasValueAt p at (attr_column w.0) w.1) v
    → Each (λ s. IsFixed p at x (attr_column s.attr)) stays → u ≡ v
same-values p at x [] [] [] at_u at_v low_u low_v given_u given_v fixed = refl
same-values p at x [] [] (b ∷ v) at_u at_v low_u low_v given_u given_v fixed = cc
same-values p at x [] (a ∷ u) v at_u at_v low_u low_v given_u given_v fixed = cc
same-values p at x (s ∷ stays) [] v at_u at_v low_u low_v given_u given_v fixed = cc
same-values p at x (s ∷ stays) (a ∷ u) [] at_u at_v low_u low_v given_u given_v fixed = cc
same-values p at x (s ∷ stays) (a ∷ u) (b ∷ v) at_u at_v low_u low_v given_u given_v fixed =
    let head_u : a.0 ≡ s.attr = cc in
    let head_v : b.0 ≡ s.attr = cc in
    let tail_u : map (λ w. w.0) u ≡ map (λ s. s.attr) stays = cc in
    let tail_v : map (λ w. w.0) v ≡ map (λ s. s.attr) stays = cc in
    let number : a.1 ≡ b.1 =
    one_number p at x (attr_column s.attr) a.1 b.1 fixed.0 low_u.0 low_v.0
    (subst (λ (n : ℕ). HasValueAt p at (attr_column n) a.1) head_u given_u.0)
    (subst (λ (n : ℕ). HasValueAt p at (attr_column n) b.1) head_v given_v.0) in
    ap₂ (λ (w : ℕ × Fraction) (ws : List (ℕ × Fraction)). w ∷ ws) (ap₂ pair (head_u ∙ sym head_v) number)
    (same-values p at x stays u v tail_u tail_v low_u.1 low_v.1 given_u.1 given_v.1 fixed.1)

-- a corner fixes each attribute that has a stay
pub fixed_attrs : (p : Problem) (at : List Mark) (corner : IsCorner p at)
    → Each (λ s. IsFixed p at corner.point (attr_column s.attr)) p.stays
fixed_attrs p at corner = recursion_from_All (λ s. IsFixed p at corner.point (attr_column s.attr)) p.stays
    (λ k d within y stands. corner.attrs_fixed y stands k d within)

-- two lists that are the corner's values are one
pub values_are_one : (c : Scene) (u v : List (ℕ × Fraction)) → AreItsValues c u → AreItsValues c v
    → u ≡ v
values_are_one c u v a b =
    same-values c.problem c.marks a.corner.point c.problem.stays u v a.attributes b.attributes
    (recursion_from_All (λ w. IsLowest w.1) u a.lowest) (recursion_from_All (λ w. IsLowest w.1) v b.lowest)
    (recursion_from_All (λ w. HasValueAt c.problem c.marks (attr_column w.0) w.1) u a.stand)
    (recursion_from_All (λ w. HasValueAt c.problem c.marks (attr_column w.0) w.1) v b.stand)
    (fixed_attrs c.problem c.marks a.corner)

-- ---- the fact has one proof

-- a fraction is stored as the pair of its parts
abbrev pub fraction_code : Coded Fraction
fraction_code = code_by (ℤ × ℕ) (coded× coded_ℤ coded_ℕ) (λ f. (f.num, f.den))
    (λ w. record { num = w.0; den = w.1 }) (λ _. refl)

-- a list of values is stored so too, element by element
abbrev pub values_code : Coded (List (ℕ × Fraction))
values_code = coded_list (coded× coded_ℕ fraction_code)

-- the values, with the fact that they are the corner's
abbrev with_proof : (c : Scene) (u : List (ℕ × Fraction)) → ∥ AreItsValues c u ∥₁ → HasValues c
with_proof c u s = (u, s)

-- equal values with that fact are equal, whatever its proofs are
same-pair : (c : Scene) (u v : List (ℕ × Fraction)) (s : ∥ AreItsValues c u ∥₁)
    (t : ∥ AreItsValues c v ∥₁) → u ≡ v → with_proof c u s ≡ with_proof c v t
same-pair c u v s t e =
    subst (λ (w : List (ℕ × Fraction)). (r : ∥ AreItsValues c w ∥₁) → with_proof c u s ≡ with_proof c w r) e
    (λ r. ap (with_proof c u) (∥∥₁_prop s r)) t

-- all proofs that a corner has values are equal
pub one_list : (c : Scene) → IsProp (HasValues c)
one_list c a b =
    same-pair c a.0 b.0 a.1 b.1
    (∥∥₁_elim a.1 (Coded-set values_code a.0 b.0)
    (λ s. ∥∥₁_elim b.1 (Coded-set values_code a.0 b.0) (λ t. values_are_one c a.0 b.0 s t)))

-- ---- the earlier corners' facts have one proof

-- so are all proofs that each of the earlier corners has
pub lists_are_one : (before : List Scene) → IsProp (HaveValues before)
lists_are_one [] a b = refl
lists_are_one (s ∷ before) a b =
    ap₂ (λ (h : HasValues s) (rest : HaveValues before). (h, rest)) (one_list s a.0 b.0)
    (lists_are_one before a.1 b.1)
