-- A row whose mark is inside, or an attribute that no row names, is taken out at a corner.
use Rattle.std.specs.Prelude.{◌≡◌, ◌≢◌, ℕ, List, [], ◌∷◌, true, false, cond, nat_eq, filter, ℤ, pos, All}
use Rattle.problem_core.specs.declared.parts.Mark.{Mark}
use Rattle.problem_core.specs.declared.parts.RowName.{RowName}
use Rattle.problem_core.specs.declared.parts.RowName.TheVariants.{Held, Stay as StayOf}
use Rattle.problem_core.specs.Layout.{HasStay, Problem}
use Rattle.problem_core.specs.Changes.Begins.{without_marks}
use Rattle.corner_lines.specs.LineEquations.{IsLineEquation}

-- the problem without the row
abbrev pub without_row : ℕ → Problem → Problem
without_row id p = record { rows = filter (λ r. cond (nat_eq r.id id) false true) p.rows; stays = p.stays }

-- an equation without a number for the row holds without it
abbrev pub HoldsWithoutRow : Problem → List Mark → ℕ → ((ℕ → ℤ) → ℤ) → Type 0
HoldsWithoutRow p at id quantity = (own : ℕ) (by : RowName → ℤ) (num : ℤ) (den : ℕ)
    → IsLineEquation p at quantity own by num den → by (Held id) ≡ pos 0
    → IsLineEquation (without_row id p) (without_marks (id ∷ []) at) quantity own by num den

-- ---- an attribute that no row names is taken out

-- the problem without the attribute's stay
abbrev pub without_attr : ℕ → Problem → Problem
without_attr attr p =
    record { rows = p.rows; stays = filter (λ s. cond (nat_eq s.attr attr) false true) p.stays }

-- the attribute has a stay, and is in no row
pub record IsFree (p : Problem) (attr : ℕ) : Type 0 where
  pub held : HasStay p.stays attr
  pub free : All (λ r. All (λ t. t.attr ≢ attr) r.terms) p.rows

-- an equation of this quantity holds without it, and has no number for its stay
abbrev pub HoldsWithoutAttr : Problem → List Mark → ℕ → ((ℕ → ℤ) → ℤ) → Type 0
HoldsWithoutAttr p at attr quantity = (own : ℕ) (by : RowName → ℤ) (num : ℤ) (den : ℕ)
    → IsLineEquation p at quantity own by num den
    → IsLineEquation (without_attr attr p) at quantity own by num den × (by (StayOf attr) ≡ pos 0)
