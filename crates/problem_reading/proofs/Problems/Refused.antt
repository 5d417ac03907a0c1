-- A line that may not follow.
use Rattle.std.proofs.Common.{◌≡◌, ℕ, ◌<◌, List, [], length, All, Bool, true, false, IsTrue, ◌↔◌}
use Rattle.std.proofs.lemmas.Bool.{false≢true}
use Rattle.problem_core.specs.Layout.{Row, Problem}
use Rattle.problem_core.specs.declared.parts.Term.{Term}
use Rattle.problem_reading.specs.declared.problem.items.Item.{Item}
use Rattle.problem_reading.specs.Problems.{Says, MayFollow, RowMayFollow, Step}
use Rattle.problem_reading.proofs.Problems.Same.{one_item}

pub may_not : (HasStay : ℕ → Type 0) (old : Problem) (line : List ℕ) (item : Item) (b : Bool) → Says line item → IsTrue b ↔ MayFollow HasStay old item → b ≡ false → (new : Problem) → Step HasStay old line new → ⊥
may_not HasStay old line item b says means no_way new step =
    let same : step.item ≡ item = one_item line step.item item step.says says in
    let may : MayFollow HasStay old item = rw same at step.may in
    false≢true (rw no_way at (means.1 may))

-- a row for which the rest holds may follow where its attributes are covered
pub covered_alone : (HasStay : ℕ → Type 0) (old : Problem) (r : Row) (terms : List Term) (b above takes : Bool) → terms ≡ r.terms
    → IsTrue takes ↔ ((old.stays ≡ []) × (length old.rows < 2001)) → takes ≡ true
    → IsTrue above ↔ All (λ q. q.id < r.id) old.rows → above ≡ true
    → IsTrue b ↔ All (λ t. HasStay t.attr) terms → IsTrue b ↔ RowMayFollow HasStay old r
covered_alone HasStay old r terms b above takes terms_are may_take takes_is rises above_is means =
    let open_for = may_take.0 takes_is in (
      λ yes. record { first = open_for.0; rises = rises.0 above_is; covered = rw terms_are at (means.0 yes); room = open_for.1 },
      λ may. means.1 (rw terms_are may.covered),
    )
