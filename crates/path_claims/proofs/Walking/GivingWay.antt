-- Which inside mark gives way to one of a path's first corner.
use Rattle.std.proofs.Common.{◌≡◌, ◌≢◌, ℕ, zero, suc, ◌+◌, ◌<◌, ◌≤◌, List, [], ◌∷◌, ◌++◌, map, get_or, length, sym, subst, arith, inl, inr, Option, None, Some, All, AllPairs}
use Rattle.std.specs.Prelude.{slice_index_or}
use Rattle.std.proofs.lemmas.Bool.{cases_lt}
use Rattle.problem_core.specs.declared.parts.Mark.{Mark}
use Rattle.problem_core.specs.declared.parts.RowName.{RowName}
use Rattle.problem_core.specs.declared.parts.RowName.TheVariants.{Held}
use Rattle.problem_core.specs.declared.parts.Side.{Side}
use Rattle.problem_core.specs.declared.parts.Side.TheVariants.{Under, Over}
use Rattle.problem_core.specs.declared.parts.Stay.{Stay}
use Rattle.problem_core.specs.Layout.{Line, Problem, Row, line_of_row, lines, stay_lines}
use Rattle.problem_core.specs.Kept.{IsWhole}
use Rattle.problem_core.specs.Corners.{IsIn, place}
use Rattle.corner_laws.proofs.Counting.{head_pairs}
use Rattle.cert_core.specs.Stops.{ComesBefore}
use Rattle.path_lines.specs.declared.spots.Spot.{Spot}
use Rattle.path_lines.specs.declared.spots.Step.{Step}
use Rattle.path_lines.specs.declared.table.Inside.{Inside}
use Rattle.path_lines.specs.Tables.{AreSides, IsLineAt, IsThere, line_count, mark_of, name_at, swap_of}
use Rattle.path_lines.specs.Route.{GivesWay, MayGiveWay}
use Rattle.path_lines.proofs.Exchanges.Exchanging.{one_side}
use Rattle.path_lines.proofs.Places.{any_line, name_there}
use Rattle.path_lines.proofs.Arithmetic.ValueSigns.{inside_place}
use Rattle.frac_core.proofs.Lists.{pairs-rest as tail_pairs}

-- ---- the order of lines

stay_before : (level : ℕ) (ss : List Stay) (k : ℕ) (d : Line) (name : RowName) → k < length (stay_lines level ss) → ComesBefore (get_or (stay_lines level ss) k d).name name → ⊥
stay_before level [] k d name here before = absurd (omega (arith, here))
stay_before level (s ∷ ss) zero d name here before = before
stay_before level (s ∷ ss) (suc k) d name here before = stay_before (level + 1) ss k d name (omega (arith, here)) before

-- no later line than a row's comes before it
row_first : (r : Row) (rows : List Row) (stays : List Line) (k : ℕ) (d : Line) → All (λ t. r.id < t.id) rows → ((j : ℕ) → j < length stays → ComesBefore (get_or stays j d).name (Held r.id) → ⊥) → k < length (map line_of_row rows ++ stays)
    → ComesBefore (get_or (map line_of_row rows ++ stays) k d).name (Held r.id) → ⊥
row_first r [] stays k d later none here before = none k here before
row_first r (t ∷ rows) stays zero d later none here before = absurd (omega (arith, before, later 0 r (omega arith)))
row_first r (t ∷ rows) stays (suc k) d later none here before = row_first r rows stays k d (λ i e within. later (suc i) e (omega (arith, within))) none (omega (arith, here)) before

in_order : (rows : List Row) (stays : List Line) (j k : ℕ) (d : Line) → AllPairs (λ r s. r.id < s.id) rows → ((i : ℕ) (name : RowName) → i < length stays → ComesBefore (get_or stays i d).name name → ⊥) → j < length (map line_of_row rows ++ stays) → k < length (map line_of_row rows ++ stays) → j ≤ k
    → ComesBefore (get_or (map line_of_row rows ++ stays) k d).name (get_or (map line_of_row rows ++ stays) j d).name → ⊥
in_order [] stays j k d rising none there here after before = none k (get_or stays j d).name here before
in_order (r ∷ rows) stays zero zero d rising none there here after before = absurd (omega (arith, before))
in_order (r ∷ rows) stays zero (suc k) d rising none there here after before =
    row_first r rows stays k d (head_pairs (λ (a b : Row). a.id < b.id) r rows rising) (λ i within. none i (Held r.id) within) (omega (arith, here)) before
in_order (r ∷ rows) stays (suc j) zero d rising none there here after before = absurd (omega (arith, after))
in_order (r ∷ rows) stays (suc j) (suc k) d rising none there here after before = in_order rows stays j k d (tail_pairs (λ (a b : Row). a.id < b.id) r rows rising) none (omega (arith, there)) (omega (arith, here)) (omega (arith, after)) before

-- a line that comes before another has a lesser place
pub before_is_less : (p : Problem) (j k : ℕ) → IsWhole p → j < line_count p → k < line_count p → ComesBefore (name_at p k) (name_at p j) → k < j
before_is_less p j k whole there here before =
    elim (cases_lt k j) [
      | inl less ↦ less
      | inr from ↦
          absurd (in_order p.rows (stay_lines 1001 p.stays) j k any_line whole.rising (λ i name within. stay_before 1001 p.stays i any_line name within) there here from
          (subst (λ (n : RowName). ComesBefore n (get_or (lines p) j any_line).name) (sym (name_there p k any_line here)) (subst (λ (n : RowName). ComesBefore (name_at p k) n) (sym (name_there p j any_line there)) before)))
    ]

-- ---- the mark that gives way

abbrev pub way_at : Problem → Spot → ℕ → Side → Step
way_at p enter at side = record { enter = enter; leave = record { at = at; side = side } }

pub wanted_stays : (p : Problem) (wanted at : List Mark) (sides : List (Option Side)) (step : Step) → AreSides p wanted sides → step.leave.at < line_count p → slice_index_or sides step.leave.at None ≡ Some step.leave.side → MayGiveWay p wanted at (swap_of p step) → ⊥
wanted_stays p wanted at sides step are within is may = may.unwanted ((are.each step.leave.at step.leave.side within).0 is)

pub is_unwanted : (p : Problem) (wanted : List Mark) (sides : List (Option Side)) (step : Step) → AreSides p wanted sides → step.leave.at < line_count p → slice_index_or sides step.leave.at None ≢ Some step.leave.side → IsIn (place (swap_of p step).leave) wanted → ⊥
is_unwanted p wanted sides step are within not i = not ((are.each step.leave.at step.leave.side within).1 i)

-- another side of the line than that which is inside does not give way
pub side_gives : (p : Problem) (wanted at : List Mark) (enter : Spot) (k : ℕ) (inside : Inside) (side : Side) → IsThere p at → IsLineAt p at (name_at p k) (Some inside) → MayGiveWay p wanted at (swap_of p (way_at p enter k side)) → inside.side ≡ side
side_gives p wanted at enter k inside side there line may = one_side p at (name_at p k) inside.side side there line.0 may.exchange.leaves

-- no mark of a line that is outside gives way
pub outside_stays : (p : Problem) (wanted at : List Mark) (enter : Spot) (k : ℕ) (side : Side) → IsLineAt p at (name_at p k) None → MayGiveWay p wanted at (swap_of p (way_at p enter k side)) → ⊥
outside_stays p wanted at enter k Under line may = line.under may.exchange.leaves
outside_stays p wanted at enter k Over line may = line.over may.exchange.leaves

-- none of the lines before gives way, so the one here is the first
pub first_gives : (p : Problem) (wanted at : List Mark) (step : Step) → IsThere p at → step.leave.at < line_count p → MayGiveWay p wanted at (swap_of p step)
    → ((k : ℕ) (side : Side) → k < step.leave.at → MayGiveWay p wanted at (swap_of p (way_at p step.enter k side)) → ⊥) → GivesWay p wanted at (swap_of p step)
first_gives p wanted at step there within may none = record {
  may = may;
  first = λ m gives before.
      let k : (k : ℕ) × (k < line_count p) × (name_at p k ≡ m.row) = inside_place p at m there.corner gives.exchange.leaves in
      none k.0 m.side (before_is_less p step.leave.at k.0 there.whole within k.1 (subst (λ (n : RowName). ComesBefore n (name_at p step.leave.at)) (sym k.2) before))
      (subst (λ (n : RowName). MayGiveWay p wanted at (record { enter = mark_of p step.enter; leave = record { row = n; side = m.side } })) (sym k.2) gives);
}

-- where no line gives way, no mark does
pub no_line_gives : (p : Problem) (wanted at : List Mark) (enter : Spot) → IsThere p at → ((k : ℕ) (side : Side) → k < line_count p → MayGiveWay p wanted at (swap_of p (way_at p enter k side)) → ⊥)
    → (m : Mark) → MayGiveWay p wanted at (record { enter = mark_of p enter; leave = m }) → ⊥
no_line_gives p wanted at enter there none m gives =
    let k : (k : ℕ) × (k < line_count p) × (name_at p k ≡ m.row) = inside_place p at m there.corner gives.exchange.leaves in
    none k.0 m.side k.1 (subst (λ (n : RowName). MayGiveWay p wanted at (record { enter = mark_of p enter; leave = record { row = n; side = m.side } })) (sym k.2) gives)
