-- What slots are of, and names that a problem has.
use Rattle.std.proofs.Common.{◌≡◌, ◌∙◌, ℕ, zero, suc, ◌+◌, ◌≤◌, ◌++◌, List, [], ◌∷◌, map, length, refl, sym, ap, subst, arith, inl, inr, pos, Any}
use Rattle.std.proofs.lemmas.Bool.{cases_lt}
use Rattle.std.proofs.lemmas.List.{get_or_past}
use Rattle.problem_core.specs.declared.parts.RowName.{RowName}
use Rattle.problem_core.specs.declared.parts.RowName.TheVariants.{Held, Stay as StayOf}
use Rattle.problem_core.specs.declared.parts.Rel.TheVariants.{Eq}
use Rattle.problem_core.specs.declared.parts.Stay.{Stay}
use Rattle.problem_core.specs.Layout.{HasStay, Line, Problem, Row, line_of_row, line_of_stay, lines, stay_lines}
use Rattle.corner_view.specs.declared.types.Owner.{Owner}
use Rattle.corner_view.specs.declared.types.Owner.TheVariants.{Level as LevelSlot, Attr as AttrSlot, Line as LineSlot}
use Rattle.corner_table.specs.declared.table.Slot.{Slot}
use Rattle.corner_table.specs.declared.table.TheConstants.{LEVELS}
use Rattle.corner_view.specs.Seen.{IsNamed}
use Rattle.corner_table.specs.Tables.{Lists, line_slot, problem_of, slot_at}
use Rattle.corner_table.specs.Kept.{AreSlots, IsOwned, IsSlot, IsStayOwner}

pub past-slots : (t : Lists) (c : ℕ) → length t.slots ≤ c → (slot_at t c).owner ≡ LevelSlot
past-slots t c le = ap (λ (s : Slot). s.owner) (get_or_past t.slots c (record { owner = LevelSlot; home = 0; rank = 0; weight = pos 1; scale = pos 1; rel = Eq }) le)

abbrev pub line-like : Owner → Type 0
line-like LevelSlot = ⊥
line-like (AttrSlot attr) = ⊥
line-like (LineSlot name) = Unit {0}

not-line : (o : Owner) (name : RowName) → o ≡ LineSlot name → line-like o
not-line o name e = subst line-like (sym e) tt

pub line-slot : (t : Lists) (c : ℕ) (name : RowName) → AreSlots t → (slot_at t c).owner ≡ LineSlot name → IsSlot t c
line-slot t c name slots e =
    elim (cases_lt c LEVELS) [
      | inl low ↦ absurd (not-line LevelSlot name (sym (slots.level_owners c low) ∙ e))
      | inr high ↦ elim (cases_lt c (length t.slots)) [
        | inl within ↦ (high, within)
        | inr past ↦ absurd (not-line LevelSlot name (sym (past-slots t c past) ∙ e))
      ]
    ]

pub line-owned : (t : Lists) (c : ℕ) (name : RowName) → AreSlots t → (slot_at t c).owner ≡ LineSlot name → Any (λ l. l.name ≡ name) (lines (problem_of t)) × (line_slot t name ≡ c)
line-owned t c name slots e = subst (λ (o : Owner). IsOwned t c o) e (slots.owners c (line-slot t c name slots e))

pub stay_owner : (o : Owner) → IsStayOwner o → (attr : ℕ) × (o ≡ LineSlot (StayOf attr))
stay_owner LevelSlot h = absurd h
stay_owner (AttrSlot attr) h = absurd h
stay_owner (LineSlot (Held id)) h = absurd h
stay_owner (LineSlot (StayOf attr)) h = (attr, refl)

stays_named : (level b : ℕ) (stays : List Stay) → HasStay stays b → Any (λ l. l.name ≡ StayOf b) (stay_lines level stays)
stays_named level b [] h = absurd (omega (arith, h.2))
stays_named level b (s ∷ stays) (zero, y, lt, e, h) = (0, line_of_stay level s, omega arith, refl, ap (λ (n : ℕ). StayOf n) (ap (λ (x : Stay). x.attr) e ∙ h))
stays_named level b (s ∷ stays) (suc k, y, lt, e, h) = let i = stays_named (level + 1) b stays (k, y, omega (arith, lt), e, h) in (suc i.0, i.1, omega (arith, i.2), i.3, i.4)

rows_named : (rows : List Row) (name : RowName) (rest : List Line) → Any (λ l. l.name ≡ name) rest → Any (λ l. l.name ≡ name) (map line_of_row rows ++ rest)
rows_named [] name rest h = h
rows_named (r ∷ rows) name rest h = let i = rows_named rows name rest h in (suc i.0, i.1, omega (arith, i.2), i.3, i.4)

pub stay_named : (p : Problem) (b : ℕ) → HasStay p.stays b → IsNamed p (StayOf b)
stay_named p b h = rows_named p.rows (StayOf b) (stay_lines 1001 p.stays) (stays_named 1001 b p.stays h)
