-- Which exchanges can be made, by what is kept of the lines.
use Rattle.std.proofs.Common.{◌≡◌, ◌≢◌, ◌∙◌, ◌↔◌, ℕ, ◌<◌, List, pos, unsigned_abs, refl, sym, ap, ap₂, subst, None, Some}
use Rattle.problem_core.specs.declared.parts.Mark.{Mark}
use Rattle.problem_core.specs.declared.parts.RowName.{RowName}
use Rattle.problem_core.specs.declared.parts.Side.{Side}
use Rattle.problem_core.specs.declared.parts.Side.TheVariants.{Under, Over}
use Rattle.problem_core.specs.Layout.{Problem, lines}
use Rattle.problem_core.specs.Corners.{IsExchange, IsIn, place_of}
use Rattle.corner_laws.specs.Runs.{other_side}
use Rattle.corner_lines.proofs.Lines.LineMoves.{line_is_exchange, turn_is_exchange}
use Rattle.path_lines.specs.declared.spots.Step.{Step}
use Rattle.path_lines.specs.declared.table.Inside.{Inside}
use Rattle.path_lines.specs.Numbers.{number_at}
use Rattle.path_lines.specs.Tables.{IsLineAt, IsThere, line_count, name_at, numbers_of, swap_of}
use Rattle.path_lines.proofs.Walking.Bringing.{exchange_needs_number, one_mark_of_line}
use Rattle.path_lines.proofs.Places.{mark_is_there, names_differ, number_there}
use Rattle.corner_lines.proofs.Lines.LineWritings.{no-side}

other_from : (a b : Side) → a ≢ b → a ≡ other_side b
other_from Under Under ne = absurd (ne refl)
other_from Under Over ne = refl
other_from Over Under ne = refl
other_from Over Over ne = absurd (ne refl)

-- only one mark of an inside line is inside
pub one_side : (p : Problem) (at : List Mark) (name : RowName) (a b : Side) → IsThere p at → IsIn (place_of name a) at → IsIn (place_of name b) at → a ≡ b
one_side p at name Under Under there x y = refl
one_side p at name Under Over there x y = absurd (one_mark_of_line p at name there.whole there.corner x y)
one_side p at name Over Under there x y = absurd (one_mark_of_line p at name there.whole there.corner y x)
one_side p at name Over Over there x y = refl

same_mark : (p : Problem) (a b : ℕ) (x y : Side) → a ≡ b → x ≡ y → place_of (name_at p a) x ≡ place_of (name_at p b) y
same_mark p a b x y e f = ap₂ place_of (ap (name_at p) e) f

pub turn_iff : (p : Problem) (at : List Mark) (step : Step) (inside : Inside) → IsThere p at → inside.side ≡ step.leave.side → IsLineAt p at (name_at p step.leave.at) (Some inside) → step.enter.at ≡ step.leave.at
    → (step.enter.side ≢ inside.side) ↔ IsExchange p at (swap_of p step)
turn_iff p at step inside there side line turn =
    let leaves : IsIn (place_of (name_at p step.leave.at) step.leave.side) at = subst (λ (s : Side). IsIn (place_of (name_at p step.leave.at) s) at) side line.0 in (
      λ ne. turn_is_exchange p at (swap_of p step) there.whole there.corner leaves (ap (name_at p) turn) (other_from step.enter.side step.leave.side (λ same. ne (same ∙ sym side))),
      λ ex same. ex.enters (subst (λ (c : ℕ). IsIn c at) (sym (same_mark p step.enter.at step.leave.at step.enter.side inside.side turn same)) line.0),
    )

pub other_iff : (p : Problem) (at : List Mark) (step : Step) (inside : Inside) → IsThere p at → step.enter.at < line_count p → step.leave.at < line_count p → inside.side ≡ step.leave.side → IsLineAt p at (name_at p step.leave.at) (Some inside)
    → step.enter.at ≢ step.leave.at → (number_at inside.sum.by.items step.enter.at ≢ pos 0) ↔ IsExchange p at (swap_of p step)
other_iff p at step inside there enter leave side line other =
    let leaves : IsIn (place_of (name_at p step.leave.at) step.leave.side) at = subst (λ (s : Side). IsIn (place_of (name_at p step.leave.at) s) at) side line.0 in
    let number : numbers_of (lines p) inside.sum.by.items (name_at p step.enter.at) ≡ number_at inside.sum.by.items step.enter.at = number_there p inside.sum.by.items step.enter.at there.whole line.1.sized.count_is enter in (
      λ some. line_is_exchange p at (swap_of p step) (unsigned_abs inside.sum.own) (numbers_of (lines p) inside.sum.by.items) inside.sum.value.num inside.sum.value.den there.whole there.corner there.rays
          (mark_is_there p step.enter.at step.enter.side enter) leaves line.1.equation (λ none. some (sym number ∙ none)),
      λ ex none. exchange_needs_number p at (swap_of p step) (unsigned_abs inside.sum.own) (numbers_of (lines p) inside.sum.by.items) inside.sum.value.num inside.sum.value.den there.whole there.corner there.rays
          (mark_is_there p step.enter.at step.enter.side enter) (names_differ p step.enter.at step.leave.at there.whole enter leave other) line.1.equation ex (number ∙ none),
    )

pub none_leaves : (p : Problem) (at : List Mark) (step : Step) → IsLineAt p at (name_at p step.leave.at) None → IsExchange p at (swap_of p step) → ⊥
none_leaves p at step out ex = no-side at (name_at p step.leave.at) step.leave.side out ex.leaves

pub other_leaves : (p : Problem) (at : List Mark) (step : Step) (inside : Inside) → IsThere p at → inside.side ≢ step.leave.side → IsLineAt p at (name_at p step.leave.at) (Some inside) → IsExchange p at (swap_of p step) → ⊥
other_leaves p at step inside there ne line ex = ne (one_side p at (name_at p step.leave.at) inside.side step.leave.side there line.0 ex.leaves)
