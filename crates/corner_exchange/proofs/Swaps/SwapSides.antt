-- The sides of lines after an exchange or a turn.
use Rattle.std.proofs.Common.{◌≡◌, ◌≢◌, ◌∙◌, ◌↔◌, inl, inr, ℕ, Bool, cond, nat_eq, refl, sym, ap, ap₂, subst, Some, None, eq-eqb, ne_eqb}
use Rattle.std.specs.declared.option.Option.{Option}
use Rattle.std.proofs.lemmas.Bool.{cases_eq}
use Rattle.std.proofs.lemmas.List.Elements.{All-from_recursion}
use Rattle.problem_core.specs.declared.parts.Side.{Side}
use Rattle.problem_core.specs.declared.parts.Side.TheVariants.{Over}
use Rattle.problem_core.specs.Layout.{Line, lines}
use Rattle.problem_core.specs.Corners.{IsIn, Swap, place, place_of}
use Rattle.problem_core.proofs.Forms.{each-impl}
use Rattle.corner_laws.proofs.Exchanged.{exchanged_in}
use Rattle.corner_lines.proofs.LevelRows.LevelExchanges.{by-sides}
use Rattle.corner_writings.specs.declared.levels.Pair.{Pair}
use Rattle.corner_table.specs.Tables.{Lists, line_slot, marks_at, problem_of, standing_at}
use Rattle.corner_table.specs.Kept.{IsKept}
use Rattle.corner_view.specs.Seen.{IsNamed}
use Rattle.corner_exchange.specs.Swaps.Exchanges.{IsPair, marks_after}
use Rattle.corner_writings.specs.Fitting.{AreSidesAfter, side_after}
use Rattle.corner_exchange.specs.Swaps.TurnedLevels.{IsTurn}
use Rattle.corner_table.proofs.Readings.MarkFacts.{inside_stands, stands_inside}
use Rattle.corner_table.proofs.Readings.ReadFacts.{is_some}
use Rattle.corner_table.proofs.Readings.WritingFacts.{lines_apart}
use Rattle.corner_exchange.proofs.Pivots.PairFacts.{named_mark, side-stands}
use Rattle.corner_writings.proofs.LevelFacts.LevelNumberFacts.{IsKnown, all-known}
use Rattle.corner_writings.proofs.LevelFacts.LevelRowFacts.{in_line}
use Rattle.problem_core.proofs.Marks.{entered-in as enter_in, kept-in as kept_in}
use Rattle.problem_core.proofs.Sides.{none-not-some as not-some}

-- the slots of an exchange or of a turn: of an entering line that is outside, or the leaving one
pub record IsSwapAt (t : Lists) (pair : Pair) (s : Swap) : Type 0 where
  pub enters : IsNamed (problem_of t) s.enter.row
  pub leaves : IsNamed (problem_of t) s.leave.row
  pub enter_slot : line_slot t s.enter.row ≡ pair.enter
  pub leave_slot : line_slot t s.leave.row ≡ pair.leave
  pub side_is : s.enter.side ≡ pair.side
  pub inside : (standing_at t pair.leave).side ≡ Some s.leave.side
  pub only : (side : Side) → (standing_at t pair.enter).side ≡ Some side → pair.enter ≡ pair.leave

pub pair_swap : (t : Lists) (pair : Pair) (s : Swap) → IsPair t pair s → IsSwapAt t pair s
pair_swap t pair s are = record {
  enters = are.enters;
  leaves = are.leaves;
  enter_slot = are.enter_slot;
  leave_slot = are.leave_slot;
  side_is = are.enter_side;
  inside = are.inside;
  only = λ side e. absurd (not-some side (sym are.outside ∙ e));
}

-- a turn as a pair
abbrev pub turn_pair : ℕ → Side → Pair
turn_pair line side = record { enter = line; side = side; leave = line }

pub turn_swap : (t : Lists) (line : ℕ) (side : Side) (s : Swap) → IsTurn t line side s → IsSwapAt t (turn_pair line side) s
turn_swap t line side s is = record {
  enters = is.enters;
  leaves = subst (IsNamed (problem_of t)) is.row is.enters;
  enter_slot = is.slot;
  leave_slot = ap (line_slot t) (sym is.row) ∙ is.slot;
  side_is = is.side_is;
  inside = is.inside;
  only = λ r e. refl;
}

pub swap_leave_in : (t : Lists) (pair : Pair) (s : Swap) → IsSwapAt t pair s → IsIn (place s.leave) (marks_at t)
swap_leave_in t pair s are = stands_inside t s.leave (named_mark t s.leave are.leaves) (side-stands t s.leave (ap (λ w. (standing_at t w).side) are.leave_slot ∙ are.inside))

abbrev side-like : Option Side → Side
side-like None = Over
side-like (Some side) = side

at-enter : (t : Lists) (pair : Pair) (c : ℕ) → c ≡ pair.enter → side_after t pair c ≡ Some pair.side
at-enter t pair c e = ap (λ (b : Bool). cond b (Some pair.side) (cond (nat_eq c pair.leave) None (standing_at t c).side)) (eq-eqb c pair.enter e)

not-enter : (t : Lists) (pair : Pair) (c : ℕ) → c ≢ pair.enter → side_after t pair c ≡ cond (nat_eq c pair.leave) None (standing_at t c).side
not-enter t pair c n = ap (λ (b : Bool). cond b (Some pair.side) (cond (nat_eq c pair.leave) None (standing_at t c).side)) (ne_eqb c pair.enter n)

pub at_leave : (t : Lists) (pair : Pair) (c : ℕ) → c ≢ pair.enter → c ≡ pair.leave → side_after t pair c ≡ None
at_leave t pair c n e = not-enter t pair c n ∙ ap (λ (b : Bool). cond b None (standing_at t c).side) (eq-eqb c pair.leave e)

pub elsewhere : (t : Lists) (pair : Pair) (c : ℕ) → c ≢ pair.enter → c ≢ pair.leave → side_after t pair c ≡ (standing_at t c).side
elsewhere t pair c n m = not-enter t pair c n ∙ ap (λ (b : Bool). cond b None (standing_at t c).side) (ne_eqb c pair.leave m)

to-side : (t : Lists) (pair : Pair) (s : Swap) (l : Line) (side : Side) → IsKept t → IsSwapAt t pair s → IsKnown t l → IsIn (place_of l.name side) (marks_after t s) → side_after t pair (line_slot t l.name) ≡ Some side
to-side t pair s l side kept are known i =
    elim (exchanged_in s (marks_at t) (place_of l.name side) i) [
      | inl e ↦
          let same = by-sides l.name s.enter.row side s.enter.side e in
          at-enter t pair (line_slot t l.name) (ap (line_slot t) same.0 ∙ are.enter_slot) ∙ ap (λ (d : Side). Some d) (sym are.side_is ∙ sym same.1)
      | inr (before, ne) ↦
          let stands : (standing_at t (line_slot t l.name)).side ≡ Some side = is_some (standing_at t (line_slot t l.name)).side side (inside_stands t (record { row = l.name; side = side }) before) in
          let not_leave : line_slot t l.name ≢ pair.leave = λ e.
          let name : l.name ≡ s.leave.row = lines_apart t l.name s.leave.row kept.slots known.named are.leaves (are.leave_slot ∙ sym e) in
          let same : side ≡ s.leave.side = ap side-like (sym stands ∙ ap (λ w. (standing_at t w).side) e ∙ are.inside) in
          ne (ap₂ place_of name same) in
          let not_enter : line_slot t l.name ≢ pair.enter = λ e. not_leave (e ∙ are.only side (ap (λ w. (standing_at t w).side) (sym e) ∙ stands)) in
          elsewhere t pair (line_slot t l.name) not_enter not_leave ∙ stands
    ]

from-side : (t : Lists) (pair : Pair) (s : Swap) (l : Line) (side : Side) → IsKept t → IsSwapAt t pair s → IsKnown t l → side_after t pair (line_slot t l.name) ≡ Some side → IsIn (place_of l.name side) (marks_after t s)
from-side t pair s l side kept are known after =
    elim (cases_eq (line_slot t l.name) pair.enter) [
      | inl e ↦
          let name : l.name ≡ s.enter.row = lines_apart t l.name s.enter.row kept.slots known.named are.enters (are.enter_slot ∙ sym e) in
          let same : s.enter.side ≡ side = are.side_is ∙ ap side-like (sym (at-enter t pair (line_slot t l.name) e) ∙ after) in
          subst (λ c. IsIn c (marks_after t s)) (ap₂ place_of (sym name) same) (enter_in s (marks_at t) (swap_leave_in t pair s are))
      | inr ne ↦ elim (cases_eq (line_slot t l.name) pair.leave) [
        | inl e ↦ absurd (not-some side (sym (at_leave t pair (line_slot t l.name) ne e) ∙ after))
        | inr nl ↦
            kept_in s (marks_at t) (place_of l.name side) (in_line t l side known (sym (elsewhere t pair (line_slot t l.name) ne nl) ∙ after))
            (λ e. nl (ap (line_slot t) (by-sides l.name s.leave.row side s.leave.side e).0 ∙ are.leave_slot))
      ]
    ]

pub sides_after : (t : Lists) (pair : Pair) (s : Swap) → IsKept t → IsSwapAt t pair s → AreSidesAfter t pair (marks_after t s)
sides_after t pair s kept are =
    All-from_recursion (λ l. (side : Side) → IsIn (place_of l.name side) (marks_after t s) ↔ (side_after t pair (line_slot t l.name) ≡ Some side)) (lines (problem_of t))
    (each-impl (IsKnown t) _ (lines (problem_of t)) (λ l known side. (to-side t pair s l side kept are known, from-side t pair s l side kept are known)) (all-known t kept))
