-- Where the mark that leaves is 0, the point stands at the marks before the exchange and after it.
use Rattle.std.proofs.Common.{◌≡◌, inl, inr, ℕ, List, map, pos, ◌≤ℤ◌, sym, subst, All, Contains}
use Rattle.std.proofs.lemmas.Bool.{cases_Bool, cases_eq}
use Rattle.std.proofs.lemmas.List.Elements.{All-from_recursion, recursion_from_All}
use Rattle.frac_core.proofs.Numbers.{zero-up}
use Rattle.problem_core.specs.declared.parts.Mark.{Mark}
use Rattle.problem_core.specs.Layout.{Problem, lines}
use Rattle.problem_core.specs.Corners.{IsCorner, IsIn, NoNegativeColumn, Point, SameMarks, StandsAt, Swap, exchanged, marks_of, place}
use Rattle.problem_core.specs.Levels.{CostsAbove}
use Rattle.problem_core.proofs.Corners.CornerFacts.{is_place}
use Rattle.problem_core.proofs.Forms.{each-impl}
use Rattle.problem_core.proofs.Marks.{kept-in}
use Rattle.corner_laws.proofs.Counting.{IsIn-from_is_place}
use Rattle.corner_laws.proofs.WrittenValues.{contains_each, nothing_outside}
use Rattle.corner_laws.proofs.ZeroColumns.{not-in}
use Rattle.corner_ends.specs.Runs.{IsBestEnd}
use Rattle.sweep_laws.proofs.Costs.{costs-there}
use Rattle.sweep_laws.proofs.Mixtures.{IsZeroOutside}

in-new : (a b : List Mark) (c : ℕ) → SameMarks a b → IsIn c a → IsIn c b
in-new a b c same inside = contains_each (λ v. IsIn v b) a c (recursion_from_All (λ m. IsIn (place m) b) a same.0) inside

-- the point stands at the marks after the exchange
pub stands_after : (q : Problem) (at new : List Mark) (s : Swap) (x : Point) → StandsAt q at x → x.num (place s.leave) ≡ pos 0 → SameMarks (exchanged s at) new → StandsAt q new x
stands_after q at new s x stands none same = (
  stands.0,
  All-from_recursion (IsZeroOutside new x.num) (marks_of (lines q))
      (each-impl (IsZeroOutside at x.num) (IsZeroOutside new x.num) (marks_of (lines q))
      (λ m zero out. elim (cases_eq (place m) (place s.leave)) [
        | inl leave ↦ subst (λ (c : ℕ). x.num c ≡ pos 0) (sym leave) none
        | inr other ↦ zero (λ inside. out (in-new (exchanged s at) new (place m) same (kept-in s at (place m) inside other)))
      ])
      (recursion_from_All (IsZeroOutside at x.num) (marks_of (lines q)) stands.1)),
)

-- no mark of the problem is negative there
pub all_up : (q : Problem) (at : List Mark) (x : Point) (c : ℕ) → StandsAt q at x → All (λ m. pos 0 ≤ℤ x.num (place m)) at → Contains (map place (marks_of (lines q))) c → pos 0 ≤ℤ x.num c
all_up q at x c stands up mark = elim (cases_Bool (is_place at c)) [
  | inl i ↦ contains_each (λ v. pos 0 ≤ℤ x.num v) at c (recursion_from_All (λ m. pos 0 ≤ℤ x.num (place m)) at up) (IsIn-from_is_place c at i)
  | inr o ↦ zero-up (x.num c) (nothing_outside q at x c stands mark (not-in at c o))
]

-- so the marks after it are a best end
pub best_after : (q : Problem) (at new : List Mark) (s : Swap) (x : Point) → IsCorner q at → IsCorner q new → StandsAt q at x → All (λ m. pos 0 ≤ℤ x.num (place m)) at → x.num (place s.leave) ≡ pos 0 → SameMarks (exchanged s at) new → NoNegativeColumn q new → (CostsAbove q at 0 → ⊥) → IsBestEnd q new
best_after q at new s x corner next stands up none same columns free =
    let here : StandsAt q new x = stands_after q at new s x stands none same in
    record {
      values = (
        x,
        here,
        All-from_recursion (λ m. pos 0 ≤ℤ x.num (place m)) new
            (each-impl (λ m. Contains (map place (marks_of (lines q))) (place m)) (λ m. pos 0 ≤ℤ x.num (place m)) new (λ m mark. all_up q at x (place m) stands up mark)
            (recursion_from_All (λ m. Contains (map place (marks_of (lines q))) (place m)) new next.marks)),
      );
      columns = columns;
      required = λ (y, there, cost). free (x, stands, costs-there q new y x next there here cost);
    }
