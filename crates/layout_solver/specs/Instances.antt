-- What can leave, and when a removal stops: the row `x >= k` with x at k, and a row `x >= 0`.
use Rattle.std.specs.Prelude.{◌≡◌, ℕ, List, [], ◌∷◌, ◌++◌, pos, false}
use Rattle.std.specs.Global.{Vec}
use Rattle.frac_core.specs.declared.frac.TheConstants.{PART_BOUND}
use Rattle.problem_core.specs.declared.limits.TheConstants.{REQUIRED}
use Rattle.problem_core.specs.declared.parts.Mark.{Mark}
use Rattle.problem_core.specs.declared.parts.Rel.TheVariants.{Ge}
use Rattle.problem_core.specs.Layout.{Problem, Row}
use Rattle.cert_core.specs.Paths.{Path}
use Rattle.cert_core.specs.Stops.{IsPlain}
use Rattle.cert_core.specs.declared.stops.UnfitPath.{UnfitPath}
use Rattle.corner_laws.specs.Examples.{over_row, over_second, over_stay, single, under_row}
use Rattle.marker_remove.specs.Instances.{standing, x_over}
use Rattle.layout_solver.specs.declared.request.RequestStop.TheVariants.{Unfit, Spent}
use Rattle.layout_solver.specs.Removals.{CanLeave, IsHeldPath, IsRemoveStop, Leaving}

-- `x >= 0`
abbrev pub second : Row
second = record {
  id = 2;
  rank = REQUIRED;
  weight = 1;
  rel = Ge;
  scale = 1;
  constant = record { num = pos 0; den = 1 };
  terms = record { attr = 1; by = pos 1 } ∷ [];
}

-- the problem with that row more
abbrev pub with_second : Problem → Problem
with_second p = record { rows = p.rows ++ (second ∷ []); stays = p.stays }

-- what leaves: these rows and these attributes
abbrev pub leaving : List ℕ → List ℕ → Leaving
leaving rows attrs = record { rows = rows; attrs = attrs }

-- both rows with x, or one row without it; but x not without each row that names it, and nothing twice or
-- that is not there
pub record SomeCannotLeave : Type 0 where
  pub all : CanLeave (leaving (2 ∷ 1 ∷ []) (1 ∷ [])) (with_second (standing 5))
  pub row : CanLeave (leaving (2 ∷ []) []) (with_second (standing 5))
  pub named : CanLeave (leaving (2 ∷ []) (1 ∷ [])) (with_second (standing 5)) → ⊥
  pub twice : CanLeave (leaving (2 ∷ 2 ∷ []) []) (with_second (standing 5)) → ⊥
  pub no_row : CanLeave (leaving (3 ∷ []) []) (with_second (standing 5)) → ⊥
  pub no_attr : CanLeave (leaving [] (2 ∷ [])) (with_second (standing 5)) → ⊥

-- both rows' over marks
abbrev pub both_over : List Mark
both_over = over_row ∷ over_second ∷ []

-- the first row is below its bound
abbrev pub below_bound : Path
below_bound = record { dual = false; corner = under_row ∷ []; swaps = [] }

-- what stops some removals, and what is no such stop
pub record SomeRemovalsStop : Type 0 where
  -- a mark of the row has come in, or the second row has gone, while the first is still held
  pub freed : IsHeldPath (standing PART_BOUND) (over_stay ∷ []) (1 ∷ []) (1 ∷ []) x_over
  pub freed_fits : (still : List ℕ) → IsHeldPath (standing 5) (over_stay ∷ []) (1 ∷ []) still x_over → ⊥
  pub held : IsHeldPath (with_second (standing PART_BOUND)) both_over (2 ∷ 1 ∷ []) (1 ∷ []) x_over
  pub fits : (still : List ℕ) → IsHeldPath (with_second (standing 5)) both_over (2 ∷ 1 ∷ []) still x_over → ⊥
  -- a row that does not leave, or leaves first, is not named as still held
  pub not_leaving : (p : Problem) (kept : List Mark) (at : UnfitPath)
      → IsHeldPath p kept (2 ∷ 1 ∷ []) (3 ∷ []) at → ⊥
  pub out_of_order : (p : Problem) (kept : List Mark) (at : UnfitPath)
      → IsHeldPath p kept (2 ∷ 1 ∷ []) (2 ∷ []) at → ⊥
  -- with the first row still held, or with none
  pub one_held : (still : Vec ℕ) → still.items ≡ 1 ∷ [] → IsRemoveStop (with_second (standing PART_BOUND))
      both_over (leaving (2 ∷ 1 ∷ []) (1 ∷ [])) 0 (Unfit still x_over)
  pub none_held : (still : Vec ℕ) → still.items ≡ [] → IsRemoveStop (with_second (standing PART_BOUND))
      both_over (leaving (2 ∷ []) []) 0 (Unfit still x_over)
  pub none_unfit : (still : Vec ℕ) (budget : ℕ) → IsRemoveStop (with_second (standing 5)) both_over
      (leaving (2 ∷ 1 ∷ []) (1 ∷ [])) budget (Unfit still x_over) → ⊥
  -- no exchange is left, or one is
  pub spent : IsRemoveStop (with_second (single 5)) (under_row ∷ over_second ∷ []) (leaving (2 ∷ []) []) 0
      (Spent below_bound)
  pub not_spent : IsRemoveStop (with_second (single 5)) (under_row ∷ over_second ∷ []) (leaving (2 ∷ []) []) 1
      (Spent below_bound) → ⊥

-- whatever leaves, a removal's stop names a whole quantity: no first terms or rows, and no changed constants
abbrev pub RemovalsStopPlainly : Type 0
RemovalsStopPlainly = (p : Problem) (kept : List Mark) (l : Leaving) (budget : ℕ) (still : Vec ℕ)
    (at : UnfitPath) → IsRemoveStop p kept l budget (Unfit still at) → IsPlain at.quantity
