-- The values by attribute.
use Rattle.std.proofs.Common.{◌≡◌, ◌∙◌, ℕ, zero, suc, List, [], ◌∷◌, map, refl, sym, ap, subst, arith, Any}
use Rattle.std.specs.List.{AllByRecursion as Each}
use Rattle.std.proofs.lemmas.List.Elements.{recursion_from_All}
use Rattle.frac_core.specs.Fraction.{Fraction, IsLowest}
use Rattle.problem_core.specs.declared.parts.Stay.{Stay}
use Rattle.problem_core.specs.Layout.{HasStay}
use Rattle.problem_core.specs.Corners.{attr_column}
use Rattle.problem_core.proofs.Forms.{each-both, each-impl}
use Rattle.corner_view.specs.Seen.{CornerView, HasValueAt}
use Rattle.layout_solver.specs.Layouts.{Layout}
use Rattle.layout_solver.specs.Engines.{IsSolved, layout_of, HaveValues}
use Rattle.layout_solver.specs.ValuesUnique.{IsFixed, one_number}
use Rattle.layout_solver.proofs.Values.{fixed_at}

-- the fraction is the attribute's value
abbrev IsOf : ℕ → Fraction → ℕ × Fraction → Type 0
IsOf attr f v = (v.0 ≡ attr) × (v.1 ≡ f)

later : (attr : ℕ) (f : Fraction) (w : ℕ × Fraction) (values : List (ℕ × Fraction)) → Any (IsOf attr f) values → Any (IsOf attr f) (w ∷ values)
later attr f w values (k, v, within, is, h) = (suc k, v, omega (arith, within), is, h)

pub find : (attr : ℕ) (f : Fraction) (stays : List Stay) (values : List (ℕ × Fraction)) → map (λ v. v.0) values ≡ map (λ s. s.attr) stays → HasStay stays attr → Each (λ v. v.0 ≡ attr → v.1 ≡ f) values → Any (IsOf attr f) values
find attr f [] values e (k, t, within, is, h) same = absurd (omega (arith, within))
find attr f (s ∷ stays) [] e has same = cc
find attr f (s ∷ stays) (v ∷ values) e (zero, t, within, is, h) same =
    let head : v.0 ≡ s.attr = cc in
    let here : v.0 ≡ attr = head ∙ ap (λ (u : Stay). u.attr) is ∙ h in
    (0, v, omega arith, refl, (here, same.0 here))
find attr f (s ∷ stays) (v ∷ values) e (suc k, t, within, is, h) same =
    let tail : map (λ v. v.0) values ≡ map (λ s. s.attr) stays = cc in
    later attr f v values (find attr f stays values tail (k, t, omega (arith, within), is, h) same.1)

pub found : (c : CornerView) (v : List (ℕ × Fraction)) (past : HaveValues c.before) (l : Layout) (attr : ℕ) (f : Fraction) → IsSolved c v past → layout_of c v past ≡ l → IsLowest f → HasStay c.problem.stays attr → HasValueAt c.problem c.marks (attr_column attr) f → Any (λ w. (w.0 ≡ attr) × (w.1 ≡ f)) l.values
found c v past l attr f s view low has value =
    subst (λ (k : Layout). Any (IsOf attr f) k.values) view
    (find attr f c.problem.stays v s.kept.best.attributes has
    (each-impl (λ w. IsFixed c.problem c.marks s.kept.corner.corner.point (attr_column w.0) × (IsLowest w.1 × HasValueAt c.problem c.marks (attr_column w.0) w.1)) (λ w. w.0 ≡ attr → w.1 ≡ f) v
    (λ w k e. one_number c.problem c.marks s.kept.corner.corner.point (attr_column w.0) w.1 f k.0 k.1.0 low k.1.1 (subst (λ (n : ℕ). HasValueAt c.problem c.marks (attr_column n) f) (sym e) value))
    (each-both _ _ v (fixed_at c.problem c.marks s.kept.corner.corner v s.kept.best.attributes)
    (each-both _ _ v (recursion_from_All (λ w. IsLowest w.1) v s.kept.best.lowest) (recursion_from_All (λ w. HasValueAt c.problem c.marks (attr_column w.0) w.1) v s.kept.values)))))
