-- Which attributes have other values than in an earlier solution.
use Rattle.std.proofs.Common.{◌≡◌, ◌∙◌, ℕ, zero, suc, ◌<◌, List, [], ◌∷◌, length, map, get_or, refl, sym, ap, subst, arith, All, Some, None}
use Rattle.std.specs.declared.option.Option.{Option}
use Rattle.std.proofs.lemmas.List.Elements.{recursion_from_All}
use Rattle.frac_core.specs.Fraction.{Fraction, IsLowest}
use Rattle.problem_core.specs.declared.parts.Stay.{Stay}
use Rattle.problem_core.specs.Layout.{HasStay}
use Rattle.problem_core.specs.Corners.{attr_column}
use Rattle.problem_core.proofs.Forms.{each-both, each-impl}
use Rattle.corner_view.specs.Seen.{CornerView, HasValueAt, Scene}
use Rattle.corner_view.specs.Moves.{AreMovedSince, HasValueIn, Shows}
use Rattle.corner_view.specs.Changes.{scene_of}
use Rattle.corner_view.proofs.Facts.{moved_by}
use Rattle.layout_solver.specs.Engines.{HaveValues, IsSolved, solution_at, solutions_at}
use Rattle.layout_solver.specs.Layouts.{IsKeptSolution}
use Rattle.layout_solver.specs.Moves.{HasValueOf}
use Rattle.layout_solver.specs.ValuesUnique.{IsFixed, one_number}
use Rattle.layout_solver.proofs.Attributes.{find}
use Rattle.layout_solver.proofs.Values.{fixed_at}

-- an attribute with a value has a stay
stay-of :
    (stays : List Stay) (values : List (ℕ × Fraction)) → map (λ v. v.0) values ≡ map (λ s. s.attr) stays
    → (k : ℕ) (v : ℕ × Fraction) → k < length values → get_or values k v ≡ v → HasStay stays v.0
stay-of stays [] e k v within is = absurd (omega (arith, within))
stay-of [] (u ∷ values) e k v within is = cc
stay-of (s ∷ stays) (u ∷ values) e zero v within is =
    let head : u.0 ≡ s.attr = cc in
    (zero, s, omega arith, refl, sym head ∙ ap (λ (w : ℕ × Fraction). w.0) is)
stay-of (s ∷ stays) (u ∷ values) e (suc k) v within is =
    let tail : map (λ v. v.0) values ≡ map (λ s. s.attr) stays = cc in
    let rest = stay-of stays values tail k v (omega (arith, within)) is in
    (suc rest.0, rest.1, omega (arith, rest.2), rest.3, rest.4)

-- what is so at the corner is so of the solution
shows-of :
    (s : Scene) (values : List (ℕ × Fraction)) → IsKeptSolution (solution_at s values)
    → (attr : ℕ) (o : Option Fraction) → Shows HasValueIn s attr o → Shows HasValueOf (solution_at s values) attr o
shows-of s values kept attr (Some f) shows =
    find attr f s.problem.stays values kept.best.attributes shows.0
    (each-impl (λ w. IsFixed s.problem s.marks kept.corner.corner.point (attr_column w.0) × (IsLowest w.1 × HasValueAt s.problem s.marks (attr_column w.0) w.1)) (λ w. w.0 ≡ attr → w.1 ≡ f) values
    (λ w k e. one_number s.problem s.marks kept.corner.corner.point (attr_column w.0) w.1 f k.0 k.1.0 shows.1 k.1.1 (subst (λ (n : ℕ). HasValueAt s.problem s.marks (attr_column n) f) (sym e) shows.2))
    (each-both _ _ values (fixed_at s.problem s.marks kept.corner.corner values kept.best.attributes)
    (each-both _ _ values (recursion_from_All (λ w. IsLowest w.1) values kept.best.lowest) (recursion_from_All (λ w. HasValueAt s.problem s.marks (attr_column w.0) w.1) values kept.values))))
shows-of s values kept attr None none = λ f (k, v, within, is, (at, value)).
    let low : IsLowest v.1 = subst (λ (w : ℕ × Fraction). IsLowest w.1) is (kept.best.lowest k v within) in
    let stands : HasValueAt s.problem s.marks (attr_column v.0) v.1 =
    subst (λ (w : ℕ × Fraction). HasValueAt s.problem s.marks (attr_column w.0) w.1) is (kept.values k v within) in
    none v.1 (
      subst (HasStay s.problem.stays) at (stay-of s.problem.stays values kept.best.attributes k v within is),
      low,
      subst (λ (n : ℕ). HasValueAt s.problem s.marks (attr_column n) v.1) at stands,
    )

-- so it is since the latest of the earlier solutions
since :
    (before : List Scene) (past : HaveValues before) (s : Scene) (values : List (ℕ × Fraction)) (attrs : List ℕ)
    → All IsKeptSolution (solutions_at before past) → IsKeptSolution (solution_at s values)
    → AreMovedSince HasValueIn before s attrs → AreMovedSince HasValueOf (solutions_at before past) (solution_at s values) attrs
since [] past s values attrs earlier kept are = are
since (then ∷ rest) past s values attrs earlier kept are =
    moved_by HasValueIn HasValueOf then s (solution_at then past.0.0) (solution_at s values) attrs
    (shows-of then past.0.0 (earlier 0 (solution_at then past.0.0) (omega arith))) (shows-of s values kept) are

pub engine_moved :
    (c : CornerView) (values : List (ℕ × Fraction)) (past : HaveValues c.before) (attrs : List ℕ) → IsSolved c values past
    → AreMovedSince HasValueIn c.before (scene_of c) attrs
    → AreMovedSince HasValueOf (solutions_at c.before past) (solution_at (scene_of c) values) attrs
engine_moved c values past attrs solved are = since c.before past (scene_of c) values attrs solved.earlier solved.kept are
