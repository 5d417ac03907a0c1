-- What moves where an outside mark grows, by lines' equations; and which marks can be exchanged.
use Rattle.std.proofs.Common.{◌≡◌, ◌≢◌, ◌∙◌, ◌↔◌, ℕ, ◌<◌, List, [], ◌∷◌, map, ℤ, pos, ◌*ℤ◌, ◌<ℤ◌, refl, sym, ap, ap₂, subst, arith, inl, inr, ◌⊎◌, Contains, ◌+ℤ◌}
use Rattle.std.specs.List.{AllByRecursion as Each}
use Rattle.std.proofs.lemmas.List.Elements.{All-from_recursion, recursion_from_All}
use lib.IntN.{*ℤ_comm}
use borrow.Author.Differences.{ints}
use Rattle.frac_core.proofs.Integers.{mul-zero_ℤ, zero-mul_ℤ, zero_from_mul}
use Rattle.problem_core.specs.declared.parts.Mark.{Mark}
use Rattle.problem_core.specs.declared.parts.RowName.{RowName}
use Rattle.problem_core.specs.declared.parts.Side.{Side}
use Rattle.problem_core.specs.declared.parts.Side.TheVariants.{Under, Over}
use Rattle.problem_core.specs.Layout.{Line, Problem, lines, coefficient, value_at}
use Rattle.problem_core.specs.Kept.{IsWhole}
use Rattle.problem_core.specs.Corners.{IsCorner, IsExchange, IsIn, Swap, equation, marks_of, place, place_of}
use Rattle.problem_core.specs.Rays.{HasRays, IsRay}
use Rattle.problem_core.proofs.Forms.{value-plus}
use Rattle.problem_core.proofs.Corners.Tableaus.{unit_at}
use Rattle.corner_laws.proofs.Counting.{IsSmall, bump, bump_one, bump_other, bump_under, cancels, unit_value}
use Rattle.corner_laws.proofs.MarkWritings.Directions.{writing_moves}
use Rattle.corner_laws.proofs.LinePlaces.{lines_apart}
use Rattle.corner_laws.proofs.Swaps.Pivots.{pivot_is_exchange}
use Rattle.corner_laws.specs.Runs.{other_side}
use Rattle.corner_lines.specs.LineEquations.{IsLineEquation, IsOutsideLine, deviation, inside_form, mark_form, sign_of}
use Rattle.corner_lines.proofs.Lines.MarkForms.{each-coefficient, same-name}
use Rattle.corner_lines.proofs.Lines.LineWritings.{Named, all-small, at-name, inside-named, inside-other, line_writing, mark-named, mark_writing, named-mark, other-out, other_coefficient, no-side}
use Rattle.frac_core.proofs.Numbers.{up-not-zero as above-some, as-natural as above-zero}
use Rattle.frac_core.proofs.Bools.{iff-through as through}
use Rattle.problem_core.proofs.Lines.{name-cases as names}
use Rattle.corner_laws.proofs.ZeroColumns.{bump-over as bump_over}

-- ---- numbers

-- own*r = k*v with own and v above 0: r is 0 where k is
pub moves-with : (own : ℕ) (r k v : ℤ) → 0 < own → pos 0 <ℤ v → pos own *ℤ r ≡ k *ℤ v → (r ≢ pos 0) ↔ (k ≢ pos 0)
moves-with own r k v above up e = (
  λ some none. some (zero_from_mul own r above (e ∙ ap (λ (z : ℤ). z *ℤ v) none ∙ zero-mul_ℤ v)),
  λ some none. some
      (let n = above-zero v up in
      zero_from_mul n.0 k n.1 (*ℤ_comm (pos n.0) k ∙ ap (λ (z : ℤ). k *ℤ z) (sym n.2) ∙ sym e ∙ ap (λ (z : ℤ). pos own *ℤ z) none ∙ mul-zero_ℤ (pos own))),
)

pub signed-iff : (side : Side) (z : ℤ) → (sign_of side *ℤ z ≢ pos 0) ↔ (z ≢ pos 0)
signed-iff side z = (
  λ some none. some (ap (λ (t : ℤ). sign_of side *ℤ t) none ∙ mul-zero_ℤ (sign_of side)),
  λ some none. some (back side z none),
)
  where
    back : (side : Side) (z : ℤ) → sign_of side *ℤ z ≡ pos 0 → z ≡ pos 0
    back Under z e = omega (arith, ints, e)
    back Over z e = omega (arith, ints, e)

-- ---- what moves

-- a column moves on the rays of the lines that stand in its equation
pub line_moves : (p : Problem) (at : List Mark) (name : RowName) (side : Side) (c own : ℕ) (by : RowName → ℤ) (num : ℤ) (den : ℕ) (ray : ℕ → ℤ) → IsWhole p → IsCorner p at → Contains (map place (marks_of (lines p))) (place_of name side)
    → IsRay p at (place_of name side) ray → IsLineEquation p at (λ x. x c) own by num den → (ray c ≢ pos 0) ↔ (by name ≢ pos 0)
line_moves p at name side c own by num den ray whole corner mark r e =
    let number : coefficient (place_of name side) (mark_form by (lines p)) ≡ sign_of side *ℤ by name =
    at-name (λ k. coefficient (place_of k side) (mark_form by (lines p)) ≡ sign_of side *ℤ by k) name (lines p) (mark-named p name side mark) (each-coefficient by side (lines p) (lines_apart p whole)) in
    through
    (moves-with own (ray c) (sign_of side *ℤ by name) (ray (place_of name side)) e.own_positive r.here
    (writing_moves p at c own (mark_form by (lines p)) num den (place_of name side) ray corner (line_writing p at (λ x. x c) own by num den whole e) r ∙ ap (λ (z : ℤ). z *ℤ ray (place_of name side)) number))
    (signed-iff side (by name))

either-side : (a b : Side) → (a ≡ b) ⊎ (a ≡ other_side b)
either-side Under Under = inl refl
either-side Under Over = inr refl
either-side Over Under = inr refl
either-side Over Over = inl refl

-- the line's own mark moves with it
own-moves : (p : Problem) (at : List Mark) (side : Side) (k : RowName) (to : Side) (own : ℕ) (by : RowName → ℤ) (num : ℤ) (den : ℕ) (ray : ℕ → ℤ) → IsWhole p → IsCorner p at → IsIn (place_of k to) at → IsRay p at (place_of k side) ray → IsLineEquation p at (deviation k) own by num den → ray (place_of k to) ≢ pos 0
own-moves p at side k to own by num den ray whole corner inside r e =
    elim (either-side side to) [
      | inl q ↦ above-some (ray (place_of k to)) (subst (λ (t : Side). pos 0 <ℤ ray (place_of k t)) q r.here)
      | inr q ↦ (moves-with own (ray (place_of k to)) (pos own) (ray (place_of k side)) e.own_positive r.here
          (writing_moves p at (place_of k to) own (inside_form to k own by (lines p)) (sign_of to *ℤ num) den (place_of k side) ray corner (mark_writing p at k to own by num den whole corner inside e) r
          ∙ ap (λ (z : ℤ). z *ℤ ray (place_of k side)) (subst (λ (t : Side). coefficient (place_of k t) (inside_form to k own by (lines p)) ≡ pos own) (sym q) (other_coefficient p at k to own by num den whole corner inside e)))).1
          (own-some own e.own_positive)
    ]
  where
    own-some : (n : ℕ) → 0 < n → pos n ≢ pos 0
    own-some n h q = absurd (omega (arith, ints, h, q))

-- an inside mark moves on the rays of the lines that stand in its line's equation, and on that of its own line
pub mark_moves : (p : Problem) (at : List Mark) (name : RowName) (side : Side) (k : RowName) (to : Side) (own : ℕ) (by : RowName → ℤ) (num : ℤ) (den : ℕ) (ray : ℕ → ℤ) → IsWhole p → IsCorner p at → Contains (map place (marks_of (lines p))) (place_of name side)
    → IsIn (place_of k to) at → IsRay p at (place_of name side) ray → IsLineEquation p at (deviation k) own by num den → (ray (place_of k to) ≢ pos 0) ↔ ((by name ≢ pos 0) ⊎ (k ≡ name))
mark_moves p at name side k to own by num den ray whole corner mark inside r e =
    elim (names k name) [
      | inl q ↦ (λ some. inr q, λ h. own-moves p at side k to own by num den ray whole corner inside (subst (λ (n : RowName). IsRay p at (place_of n side) ray) (sym q) r) e)
      | inr ne ↦
          let number : coefficient (place_of name side) (inside_form to k own by (lines p)) ≡ sign_of side *ℤ (sign_of to *ℤ by name) =
          inside-other to k own by (lines p) (place_of name side) (λ q. ne (same-name k name (other_side to) side q))
          ∙ at-name (λ n. coefficient (place_of n side) (mark_form (λ n. sign_of to *ℤ by n) (lines p)) ≡ sign_of side *ℤ (sign_of to *ℤ by n)) name (lines p) (mark-named p name side mark) (each-coefficient (λ n. sign_of to *ℤ by n) side (lines p) (lines_apart p whole)) in
          let all : (ray (place_of k to) ≢ pos 0) ↔ (by name ≢ pos 0) =
          through
          (moves-with own (ray (place_of k to)) (sign_of side *ℤ (sign_of to *ℤ by name)) (ray (place_of name side)) e.own_positive r.here
          (writing_moves p at (place_of k to) own (inside_form to k own by (lines p)) (sign_of to *ℤ num) den (place_of name side) ray corner (mark_writing p at k to own by num den whole corner inside e) r ∙ ap (λ (z : ℤ). z *ℤ ray (place_of name side)) number))
          (through (signed-iff side (sign_of to *ℤ by name)) (signed-iff to (by name))) in (
            λ some. inl (all.0 some),
            λ h. elim h [
              | inl b ↦ all.1 b
              | inr q ↦ absurd (ne q)
            ],
          )
    ]

-- ---- what can be exchanged

-- a mark of a line that stands in the equation of an inside line enters for that line's mark
pub line_is_exchange : (p : Problem) (at : List Mark) (s : Swap) (own : ℕ) (by : RowName → ℤ) (num : ℤ) (den : ℕ) → IsWhole p → IsCorner p at → HasRays p at → Contains (map place (marks_of (lines p))) (place s.enter) → IsIn (place s.leave) at
    → IsLineEquation p at (deviation s.leave.row) own by num den → by s.enter.row ≢ pos 0 → IsExchange p at s
line_is_exchange p at s own by num den whole corner rays mark leaves e some =
    let out : IsIn (place s.enter) at → ⊥ =
    no-side at s.enter.row s.enter.side (at-name (λ k. by k ≢ pos 0 → IsOutsideLine at k) s.enter.row (lines p) (mark-named p s.enter.row s.enter.side mark) (recursion_from_All (λ l. by l.name ≢ pos 0 → IsOutsideLine at l.name) (lines p) e.outside) some) in
    let r = rays (place s.enter) mark out in
    pivot_is_exchange p at s r.0 corner mark out leaves r.1
    ((mark_moves p at s.enter.row s.enter.side s.leave.row s.leave.side own by num den r.0 whole corner mark leaves r.1 e).1 (inl some))

-- ---- a line turns

bump_side : (name : RowName) (side : Side) → bump name (place_of name side) ≡ pos 1
bump_side name Under = bump_under name
bump_side name Over = bump_over name

bump_none : (name : RowName) (side : Side) (v : ℕ) → v ≢ place_of name side → v ≢ place_of name (other_side side) → bump name v ≡ pos 0
bump_none name Under v a b = bump_other name v a b
bump_none name Over v a b = bump_other name v b a

pub one-above : (z : ℤ) → z ≡ pos 1 → pos 0 <ℤ z
one-above z e = omega (arith, ints, e)

-- both marks of a line grow together
pub turn-ray : (p : Problem) (at : List Mark) (name : RowName) (side : Side) → IsSmall name → IsIn (place_of name side) at → IsRay p at (place_of name (other_side side)) (bump name)
turn-ray p at name side small inside = record {
  holds = All-from_recursion (λ l. value_at (bump name) (equation l) ≡ pos 0) (lines p) (each-line (lines p));
  still = bump_one name small;
  here = one-above (bump name (place_of name (other_side side))) (bump_side name (other_side side));
  other = All-from_recursion (λ m. (IsIn (place m) at → ⊥) → place m ≢ place_of name (other_side side) → bump name (place m) ≡ pos 0) (marks_of (lines p))
      (each-mark (marks_of (lines p)));
}
  where
    each-line : (ls : List Line) → Each (λ l. value_at (bump name) (equation l) ≡ pos 0) ls
    each-line [] = tt
    each-line (l ∷ ls) = (
      value-plus (unit_at (place_of name Under)) (unit_at (place_of name Over)) (equation l) ∙ ap₂ ◌+ℤ◌ (unit_value (place_of name Under) (equation l)) (unit_value (place_of name Over) (equation l)) ∙ cancels l name small,
      each-line ls,
    )

    each-mark : (ms : List Mark) → Each (λ m. (IsIn (place m) at → ⊥) → place m ≢ place_of name (other_side side) → bump name (place m) ≡ pos 0) ms
    each-mark [] = tt
    each-mark (m ∷ ms) = ((λ out ne. bump_none name side (place m) (λ e. out (subst (λ (c : ℕ). IsIn c at) (sym e) inside)) ne), each-mark ms)

same-place : (a b : RowName) (s t : Side) → a ≡ b → s ≡ t → place_of a s ≡ place_of b t
same-place a b s t e f = ap₂ place_of e f

-- the two marks of an inside line can be exchanged
pub turn_is_exchange : (p : Problem) (at : List Mark) (s : Swap) → IsWhole p → IsCorner p at → IsIn (place s.leave) at → s.enter.row ≡ s.leave.row → s.enter.side ≡ other_side s.leave.side → IsExchange p at s
turn_is_exchange p at s whole corner leaves row side =
    let named : Named s.leave.row (lines p) = inside-named p at s.leave.row s.leave.side corner leaves in
    let c : place s.enter ≡ place_of s.leave.row (other_side s.leave.side) = same-place s.enter.row s.leave.row s.enter.side (other_side s.leave.side) row side in
    let small : IsSmall s.leave.row = at-name IsSmall s.leave.row (lines p) named (all-small p whole) in
    pivot_is_exchange p at s (bump s.leave.row) corner
    (subst (λ (v : ℕ). Contains (map place (marks_of (lines p))) v) (sym c) (named-mark p s.leave.row (other_side s.leave.side) named))
    (λ i. other-out p at s.leave.row s.leave.side whole corner leaves (subst (λ (v : ℕ). IsIn v at) c i)) leaves
    (subst (λ (v : ℕ). IsRay p at v (bump s.leave.row)) (sym c) (turn-ray p at s.leave.row s.leave.side small leaves))
    (above-some (bump s.leave.row (place s.leave)) (one-above (bump s.leave.row (place s.leave)) (bump_side s.leave.row s.leave.side)))
