-- The slots that can be listed: each is of something that the problem has.
use Rattle.std.proofs.Common.{◌≡◌, ◌∙◌, ℕ, zero, suc, ◌<◌, ◌+◌, ◌++◌, List, [], ◌∷◌, map, ap, arith, All, Any, Contains}
use Rattle.std.proofs.lemmas.List.Elements.{All-contains}
use Rattle.problem_core.specs.declared.parts.RowName.{RowName}
use Rattle.problem_core.specs.declared.parts.RowName.TheVariants.{Held, Stay as StayOf}
use Rattle.problem_core.specs.declared.parts.Stay.{Stay}
use Rattle.problem_core.specs.Kept.{IsRow, IsWhole}
use Rattle.problem_core.specs.Layout.{Line, Problem, Row, line_of_row, stay_lines}
use Rattle.corner_table.specs.Invariants.{name_of, names_of}
use Rattle.corner_table.specs.Kept.{AreSlots, IsSlot}
use Rattle.corner_table.specs.Tables.{Lists, problem_of, slot_at}
use Rattle.corner_view.specs.Seen.{IsNamed}
use Rattle.corner_table.proofs.Basics.ListFacts.{to_map}
use Rattle.corner_writings.proofs.Readings.FreeSlots.{line_named}
use Rattle.corner_table.specs.Kept.{IsOutsideSlot}

-- the slot can be listed: it is of something that the problem has
abbrev pub CanBeListed : Lists → ℕ → Type 0
CanBeListed t w = IsSlot t w × IsNamed (problem_of t) (name_of (slot_at t w).owner)

pub were_listed : (t : Lists) (ws : List ℕ) → All (IsSlot t) ws → All (IsNamed (problem_of t)) (names_of t ws) → (w : ℕ) → Contains ws w → CanBeListed t w
were_listed t ws slots named w has = (
  All-contains (IsSlot t) ws w slots has,
  All-contains (IsNamed (problem_of t)) (names_of t ws) (name_of (slot_at t w).owner) named (to_map (λ w. name_of (slot_at t w).owner) ws w has),
)

pub outside_listed : (t : Lists) (w : ℕ) → AreSlots t → IsOutsideSlot t w → CanBeListed t w
outside_listed t w slots out = (out.0, line_named t w out.2.0 slots out.2.1)

-- ---- no row has the number 0

abbrev held_number : RowName → ℕ
held_number (Held id) = id
held_number (StayOf attr) = 0

abbrev stay_number : RowName → ℕ
stay_number (Held id) = 0
stay_number (StayOf attr) = attr + 1

stay_not_held : (attr : ℕ) → StayOf attr ≡ Held 0 → ⊥
stay_not_held attr e = let k : attr + 1 ≡ 0 = ap stay_number e in absurd (omega (arith, k))

above_zero : (id : ℕ) → 0 < id → id ≡ 0 → ⊥
above_zero id h e = absurd (omega (arith, h, e))

no_stay : (level : ℕ) (stays : List Stay) → Any (λ l. l.name ≡ Held 0) (stay_lines level stays) → ⊥
no_stay level [] h = absurd (omega (arith, h.2))
no_stay level (s ∷ stays) (zero, y, lt, e, h) = stay_not_held s.attr (ap (λ (l : Line). l.name) e ∙ h)
no_stay level (s ∷ stays) (suc k, y, lt, e, h) = no_stay (level + 1) stays (k, y, omega (arith, lt), e, h)

zero_row : (rows : List Row) (rest : List Line) → All IsRow rows → (Any (λ l. l.name ≡ Held 0) rest → ⊥) → Any (λ l. l.name ≡ Held 0) (map line_of_row rows ++ rest) → ⊥
zero_row [] rest all none h = none h
zero_row (r ∷ rows) rest all none (zero, y, lt, e, h) = above_zero r.id (all zero r (omega arith)).number.0 (ap held_number (ap (λ (l : Line). l.name) e ∙ h))
zero_row (r ∷ rows) rest all none (suc k, y, lt, e, h) = zero_row rows rest (λ i x within. all (suc i) x (omega (arith, within))) none (k, y, omega (arith, lt), e, h)

pub not_zero : (p : Problem) → IsWhole p → IsNamed p (Held 0) → ⊥
not_zero p whole h = zero_row p.rows (stay_lines 1001 p.stays) whole.rows (λ i. no_stay 1001 p.stays i) h
