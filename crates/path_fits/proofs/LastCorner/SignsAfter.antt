-- What the signs of values after an exchange say of the corner.
use Rattle.std.proofs.Common.{◌≡◌, ◌∙◌, ◌↔◌, ◌⊎◌, ℕ, ◌<◌, ◌≤◌, List, ℤ, pos, negsuc, ◌*ℤ◌, ◌<ℤ◌, ◌≤ℤ◌, sym, ap, subst, arith, inl, IsTrue, false, Bool}
use Rattle.std.proofs.lemmas.List.Elements.{recursion_from_All}
use borrow.Author.Differences.{ints}
use Rattle.std.proofs.Math.IntN.{*ℤ_comm}
use Rattle.problem_core.specs.declared.parts.Mark.{Mark}
use Rattle.problem_core.specs.declared.parts.RowName.{RowName}
use Rattle.problem_core.specs.declared.parts.Side.{Side}
use Rattle.problem_core.specs.Layout.{Problem, lines}
use Rattle.problem_core.specs.Corners.{Agree, NoNegativeValue, Point, StandsAt, exchanged, marks_of, one_column, place, place_of}
use Rattle.problem_core.specs.Changes.Paths.{IsSound}
use Rattle.cert_core.specs.Stops.{AreNonnegativeBefore, IsBefore}
use Rattle.corner_lines.proofs.LevelRows.LevelExchanges.{by-sides}
use Rattle.path_lines.specs.declared.exchange.Pivot.{Pivot}
use Rattle.path_lines.specs.declared.spots.Step.{Step}
use Rattle.path_lines.specs.Exchanges.Pivots.{next_marks}
use Rattle.path_lines.specs.Tables.{AreJudged, IsThere, IsUp, line_count, name_at, swap_of}
use Rattle.path_lines.proofs.Iffs.{through}
use Rattle.path_lines.proofs.Places.{mark_is_there}
use Rattle.path_lines.proofs.Arithmetic.ValueSigns.{all_up, up_at_all}
use Rattle.path_fits.specs.Sums.{AreUpAfter}
use Rattle.path_levels.specs.Exchanges.Pivots.{IsExchangePivot}
use Rattle.path_fits.specs.Fits.{marks_after}
use Rattle.path_fits.specs.declared.last.Last.{Last}
use Rattle.frac_core.proofs.Numbers.{signs-go as signs_go}
use Rattle.problem_core.proofs.Marks.{mark-there as mark_of_column}
use Rattle.path_levels.proofs.Exchanges.FitFacts.{next_is_there as corner_after}

-- a value is not negative at one point where it is not at another one that agrees
agree_sign : (a b u v : ℤ) → pos 0 <ℤ u → pos 0 <ℤ v → a *ℤ u ≡ b *ℤ v → pos 0 ≤ℤ a → pos 0 ≤ℤ b
agree_sign a b (pos u) (pos v) u_up v_up e = signs_go u v a b (omega (arith, ints, u_up)) (omega (arith, ints, v_up)) (*ℤ_comm (pos u) a ∙ e ∙ *ℤ_comm b (pos v))
agree_sign a b (negsuc u) v u_up v_up e = absurd u_up.lt
agree_sign a b (pos u) (negsuc v) u_up v_up e = absurd v_up.lt

moved_sign : (p : Problem) (at : List Mark) (k : ℕ) (side : Side) (x y : Point) → IsThere p at → k < line_count p → StandsAt p at x → StandsAt p at y → pos 0 ≤ℤ x.num (place_of (name_at p k) side) → pos 0 ≤ℤ y.num (place_of (name_at p k) side)
moved_sign p at k side x y there within x_stands y_stands up =
    let c : ℕ = place_of (name_at p k) side in
    let agrees : (z : Point) → StandsAt p at z → Agree c there.corner.point z =
    λ z stands. let m = mark_of_column (λ m. Agree (place m) there.corner.point z) (marks_of (lines p)) c (recursion_from_All (λ m. Agree (place m) there.corner.point z) (marks_of (lines p)) (there.corner.marks_fixed z stands)) (mark_is_there p k side within) in
    subst (λ (i : ℕ). Agree i there.corner.point z) m.1 m.2 in
    let middle : pos 0 ≤ℤ there.corner.point.num c = agree_sign (x.num c) (there.corner.point.num c) (there.corner.point.num one_column) (x.num one_column) there.corner.point.positive x.positive (sym (agrees x x_stands)) up in
    agree_sign (there.corner.point.num c) (y.num c) (y.num one_column) (there.corner.point.num one_column) y.positive there.corner.point.positive (agrees y y_stands) middle

-- where no judged value is negative, each is so
judged_up : (p : Problem) (at : List Mark) (id judged rows k : ℕ) → IsThere p at → AreJudged p id judged rows → k < line_count p → (k < judged) ⊎ (rows ≤ k) → AreNonnegativeBefore p at id → IsUp p at (name_at p k)
judged_up p at id judged rows k there are within judges up x side stands inside =
    let m : (m : Mark) × (place m ≡ place_of (name_at p k) side) × (IsBefore id m.row → pos 0 ≤ℤ up.0.num (place m)) =
    mark_of_column (λ m. IsBefore id m.row → pos 0 ≤ℤ up.0.num (place m)) at (place_of (name_at p k) side) (recursion_from_All (λ m. IsBefore id m.row → pos 0 ≤ℤ up.0.num (place m)) at up.2) inside in
    let row : m.0.row ≡ name_at p k = (by-sides m.0.row (name_at p k) m.0.side side m.1).0 in
    let here : pos 0 ≤ℤ up.0.num (place_of (name_at p k) side) = subst (λ (c : ℕ). pos 0 ≤ℤ up.0.num c) m.1 (m.2 (subst (λ (n : RowName). IsBefore id n) (sym row) ((are k within).0 judges))) in
    moved_sign p at k side up.0 x there within up.1 stands here

value_up : (p : Problem) (at : List Mark) (k : ℕ) → IsThere p at → k < line_count p → NoNegativeValue p at → IsUp p at (name_at p k)
value_up p at k there within up x side stands inside =
    let m : (m : Mark) × (place m ≡ place_of (name_at p k) side) × (pos 0 ≤ℤ up.0.num (place m)) =
    mark_of_column (λ m. pos 0 ≤ℤ up.0.num (place m)) at (place_of (name_at p k) side) (recursion_from_All (λ m. pos 0 ≤ℤ up.0.num (place m)) at up.2) inside in
    moved_sign p at k side up.0 x there within up.1 stands (subst (λ (c : ℕ). pos 0 ≤ℤ up.0.num c) m.1 m.2)

pub same_next : (p : Problem) (last : Last) (pivot : Pivot) (at : List Mark) → pivot.step ≡ last.step → next_marks p pivot at ≡ marks_after p last at
same_next p last pivot at e = ap (λ (s : Step). exchanged (swap_of p s) at) e

pub before_iff : (p : Problem) (at : List Mark) (last : Last) (pivot : Pivot) (id judged rows : ℕ) (holds : Bool) → IsExchangePivot p at pivot → pivot.step ≡ last.step → AreJudged p id judged rows → IsTrue holds ↔ AreUpAfter p at pivot judged rows
    → IsTrue holds ↔ AreNonnegativeBefore p (marks_after p last at) id
before_iff p at last pivot id judged rows holds is step are up =
    subst (λ (next : List Mark). IsTrue holds ↔ AreNonnegativeBefore p next id) (same_next p last pivot at step)
    (through holds up (
      λ all. up_at_all p (next_marks p pivot at) id judged rows (corner_after p at pivot is) are all,
      λ non k within judges. judged_up p (next_marks p pivot at) id judged rows k (corner_after p at pivot is) are within judges non,
    ))

pub sound_iff : (p : Problem) (at : List Mark) (last : Last) (pivot : Pivot) (judged rows : ℕ) (dual holds : Bool) → dual ≡ false → IsExchangePivot p at pivot → pivot.step ≡ last.step → judged ≡ line_count p → IsTrue holds ↔ AreUpAfter p at pivot judged rows
    → IsTrue holds ↔ IsSound dual p (marks_after p last at)
sound_iff p at last pivot judged rows dual holds primal is step all_judged up =
    subst (λ (d : Bool). IsTrue holds ↔ IsSound d p (marks_after p last at)) (sym primal)
    (subst (λ (next : List Mark). IsTrue holds ↔ NoNegativeValue p next) (same_next p last pivot at step)
    (through holds up (
      λ all. all_up p (next_marks p pivot at) (corner_after p at pivot is) (λ k within. all k within (inl (subst (λ (n : ℕ). k < n) (sym all_judged) within))),
      λ non k within judges. value_up p (next_marks p pivot at) k (corner_after p at pivot is) within non,
    )))
