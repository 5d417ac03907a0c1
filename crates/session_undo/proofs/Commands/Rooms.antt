-- Where rows have room, they and their numbers are few enough for a scene.
use Rattle.std.proofs.Common.{ℕ, ◌+◌, ◌^◌, ◌≤◌, length, arith, inl, inr}
use Rattle.std.proofs.lemmas.Bool.{cases_lt}
use Rattle.session_undo.specs.State.{State}
use Rattle.session_undo.specs.Machine.{IsCrowded}
use Rattle.session_undo.specs.Kept.{AreWithin}

pub room-fits : (s : State) (n : ℕ) → AreWithin s.limits → (IsCrowded s n → ⊥) → length s.scene.rows + n ≤ 2000
room-fits s n within room = elim (cases_lt s.limits.rows (length s.scene.rows + n)) [
  | inl more ↦ absurd (room (inl more))
  | inr few ↦ omega (arith, few, within.rows)
]

-- where so many rows have room their numbers are small
pub room-numbers : (s : State) (n : ℕ) → (IsCrowded s n → ⊥) → s.scene.next_row + n ≤ 2 ^ 31
room-numbers s n room = elim (cases_lt (2 ^ 31) (s.scene.next_row + n)) [
  | inl more ↦ absurd (room (inr more))
  | inr few ↦ few
]
