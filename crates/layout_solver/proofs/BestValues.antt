-- The value of an attribute at a best corner.
use Rattle.std.proofs.Common.{◌≡◌, ◌∙◌, ℕ, zero, suc, List, [], ◌∷◌, ◌++◌, map, ℤ, pos, ◌*ℤ◌, refl, sym, ap, arith, append-nil}
use Rattle.std.proofs.lemmas.List.Elements.{All-from_recursion}
use Rattle.frac_core.specs.Fraction.{Fraction}
use Rattle.problem_core.specs.declared.parts.Mark.{Mark}
use Rattle.problem_core.specs.declared.parts.Stay.{Stay}
use Rattle.problem_core.specs.Layout.{HasStay, Problem, Row}
use Rattle.problem_core.specs.Kept.{IsWhole}
use Rattle.problem_core.specs.Corners.{IsCorner, Point, assignment_at, attr_column, one_column}
use Rattle.corner_laws.proofs.PathEnds.Ends.{end_is_best}
use Rattle.corner_laws.proofs.MarkWritings.LowestForms.{attrs_are_fixed}
use Rattle.corner_view.specs.Seen.{CornerView, HasValueAt}
use Rattle.corner_ends.specs.Runs.{IsBestEnd}
use Rattle.certificates.proofs.ErrorFacts.{turned_value}
use Rattle.layout_solver.specs.Layouts.{IsBestValue, stays_at, zeros}
use Rattle.layout_solver.specs.Starts.{IsMoved}
use Rattle.problem_core.proofs.Corners.Ends.{abs_same}

pub best_value : (p : Problem) (at : List Mark) (attr : ℕ) (f : Fraction) → IsWhole p → IsCorner p at → IsBestEnd p at → HasStay p.stays attr → HasValueAt p at (attr_column attr) f → IsBestValue p attr f
best_value p at attr f whole corner end has (y, there, e) =
    let b = end_is_best p at whole end.values end.columns end.required in
    let x : Point = b.0 in
    let value = turned_value (x.num (attr_column attr)) (y.num (attr_column attr)) (pos f.den) f.num (x.num one_column) (y.num one_column) y.positive (attrs_are_fixed p at attr corner has x y b.1 there) e in (
      assignment_at x,
      b.2,
      All-from_recursion (λ v. (assignment_at x).num v.0 *ℤ pos v.1.den ≡ v.1.num *ℤ pos (assignment_at x).den) ((attr, f) ∷ [])
          (value ∙ ap (λ (z : ℤ). f.num *ℤ z) (sym (abs_same (x.num one_column) x.positive)), tt),
    )

-- ---- the stays of a moved problem

pub attrs-at : (values : List (ℕ × Fraction)) → map (λ s. s.attr) (stays_at values) ≡ map (λ v. v.0) values
attrs-at [] = refl
attrs-at (v ∷ values) = ap (λ (ns : List ℕ). v.0 ∷ ns) (attrs-at values)

pub same-stays : (old new : List Stay) (attr : ℕ) → map (λ s. s.attr) old ≡ map (λ s. s.attr) new → HasStay old attr → HasStay new attr
same-stays [] new attr e (k, s, within, is, h) = absurd (omega (arith, within))
same-stays (o ∷ old) [] attr e has = cc
same-stays (o ∷ old) (n ∷ new) attr e (zero, s, within, is, h) =
    let head : o.attr ≡ n.attr = cc in
    (0, n, omega arith, refl, sym head ∙ ap (λ (t : Stay). t.attr) is ∙ h)
same-stays (o ∷ old) (n ∷ new) attr e (suc k, s, within, is, h) =
    let tail : map (λ s. s.attr) old ≡ map (λ s. s.attr) new = cc in
    let r = same-stays old new attr tail (k, s, omega (arith, within), is, h) in
    (suc r.0, r.1, (let less = r.2 in omega (arith, less)), r.3, r.4)

pub moved_stay : (c : CornerView) (rows : List Row) (p : Problem) (attr : ℕ) → IsMoved c [] rows p → HasStay c.problem.stays attr → HasStay p.stays attr
moved_stay c rows p attr m has =
    same-stays c.problem.stays p.stays attr
    (sym m.attributes ∙ sym (ap (λ (vs : List (ℕ × Fraction)). map (λ v. v.0) vs) (append-nil m.values)) ∙ sym (attrs-at (m.values ++ zeros [])) ∙ ap (λ (q : Problem). map (λ s. s.attr) q.stays) (sym m.is))
    has
