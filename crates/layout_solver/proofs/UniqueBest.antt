-- The best values of a problem are one list.
use Rattle.std.proofs.Common.{◌≡◌, ℕ, List, [], ◌∷◌, map, refl, sym, ap, ap₂, ◌∙◌}
use Rattle.std.specs.Prelude.{pos, ◌*ℤ◌}
use Rattle.std.specs.List.{AllByRecursion as Each}
use Rattle.std.proofs.lemmas.List.Elements.{recursion_from_All}
use Rattle.frac_core.specs.Fraction.{Fraction, IsLowest}
use Rattle.problem_core.specs.declared.parts.Stay.{Stay}
use Rattle.problem_core.specs.Layout.{Problem, Assignment, IsProblem}
use Rattle.problem_core.proofs.Best.Midpoints.{best-AreSame}
use Rattle.layout_solver.specs.Layouts.{AreBest}
use Rattle.frac_core.proofs.OneFraction.{one_value}
use Rattle.frac_core.proofs.Made.{same_fraction}

abbrev pair : ℕ → Fraction → ℕ × Fraction
pair n f = (n, f)

same_pair : (s : Stay) (u v : ℕ × Fraction) (x y : Assignment) → u.0 ≡ s.attr → v.0 ≡ s.attr → IsLowest u.1 → IsLowest v.1
    → x.num u.0 *ℤ pos u.1.den ≡ u.1.num *ℤ pos x.den → y.num v.0 *ℤ pos v.1.den ≡ v.1.num *ℤ pos y.den
    → x.num s.attr *ℤ pos y.den ≡ y.num s.attr *ℤ pos x.den → u ≡ v
same_pair s u v x y at_u at_v low_u low_v given_u given_v same =
    ap₂ pair (at_u ∙ sym at_v)
    (same_fraction u.1 v.1 low_u low_v
    (one_value u.1 v.1 (x.num u.0) (y.num v.0) x.den y.den x.positive y.positive given_u given_v
    (ap (λ (n : ℕ). x.num n *ℤ pos y.den) at_u ∙ same ∙ ap (λ (n : ℕ). y.num n *ℤ pos x.den) (sym at_v))))

same_values : (stays : List Stay) (u v : List (ℕ × Fraction)) (x y : Assignment) → map (λ p. p.0) u ≡ map (λ s. s.attr) stays → map (λ p. p.0) v ≡ map (λ s. s.attr) stays
    → Each (λ p. IsLowest p.1) u → Each (λ p. IsLowest p.1) v
    → Each (λ p. x.num p.0 *ℤ pos p.1.den ≡ p.1.num *ℤ pos x.den) u → Each (λ p. y.num p.0 *ℤ pos p.1.den ≡ p.1.num *ℤ pos y.den) v
    → Each (λ s. x.num s.attr *ℤ pos y.den ≡ y.num s.attr *ℤ pos x.den) stays → u ≡ v
same_values [] [] [] x y at_u at_v low_u low_v given_u given_v same = refl
same_values [] [] (b ∷ v) x y at_u at_v low_u low_v given_u given_v same = cc
same_values [] (a ∷ u) v x y at_u at_v low_u low_v given_u given_v same = cc
same_values (s ∷ stays) [] v x y at_u at_v low_u low_v given_u given_v same = cc
same_values (s ∷ stays) (a ∷ u) [] x y at_u at_v low_u low_v given_u given_v same = cc
same_values (s ∷ stays) (a ∷ u) (b ∷ v) x y at_u at_v low_u low_v given_u given_v same =
    let head_u : a.0 ≡ s.attr = cc in
    let head_v : b.0 ≡ s.attr = cc in
    let tail_u : map (λ p. p.0) u ≡ map (λ s. s.attr) stays = cc in
    let tail_v : map (λ p. p.0) v ≡ map (λ s. s.attr) stays = cc in
    ap₂ (λ (p : ℕ × Fraction) (ps : List (ℕ × Fraction)). p ∷ ps) (same_pair s a b x y head_u head_v low_u.0 low_v.0 given_u.0 given_v.0 same.0)
    (same_values stays u v x y tail_u tail_v low_u.1 low_v.1 given_u.1 given_v.1 same.1)

pub best_unique : (p : Problem) → IsProblem p → (u v : List (ℕ × Fraction)) → AreBest p u → AreBest p v → u ≡ v
best_unique p proper u v best_u best_v =
    let x = best_u.best.0 in
    let y = best_v.best.0 in
    same_values p.stays u v x y best_u.attributes best_v.attributes
    (recursion_from_All (λ w. IsLowest w.1) u best_u.lowest)
    (recursion_from_All (λ w. IsLowest w.1) v best_v.lowest)
    (recursion_from_All (λ w. x.num w.0 *ℤ pos w.1.den ≡ w.1.num *ℤ pos x.den) u best_u.best.2)
    (recursion_from_All (λ w. y.num w.0 *ℤ pos w.1.den ≡ w.1.num *ℤ pos y.den) v best_v.best.2)
    (recursion_from_All (λ s. x.num s.attr *ℤ pos y.den ≡ y.num s.attr *ℤ pos x.den) p.stays (best-AreSame p proper x y best_u.best.1 best_v.best.1))
