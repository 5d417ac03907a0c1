-- No stay goes astray where an attribute or rows join.
use Rattle.std.proofs.Common.{◌≡◌, ◌∙◌, ℕ, ◌<◌, ◌≤◌, ◌⊎◌, ◌+◌, List, length, slice_index_or, sym, ap, subst, inl, inr, pos, All, Contains}
use Rattle.std.proofs.lemmas.List.Elements.{All-push}
use Rattle.frac_core.specs.Fraction.{Fraction}
use Rattle.frac_core.specs.Fraction as fractions
use Rattle.row_core.specs.Rows.{Term}
use Rattle.problem_core.specs.declared.parts.RowName.TheVariants.{Stay as StayOf}
use Rattle.problem_core.specs.declared.parts.Stay.{Stay}
use Rattle.problem_core.specs.Kept.{IsNumber}
use Rattle.problem_core.specs.Layout.{HasStay, Row}
use Rattle.corner_lines.specs.Joins.{new_stay}
use Rattle.corner_table.specs.declared.table.Standing.{Standing}
use Rattle.corner_table.specs.declared.table.TheConstants.{LEVELS}
use Rattle.corner_table.specs.Kept.{AreSlots, IsKept, IsSlot}
use Rattle.corner_table.specs.Tables.{Lists, attr_slot, line_slot, problem_of, standing_at}
use Rattle.corner_table.specs.Joining.{IsWithAttr}
use Rattle.corner_table.proofs.Basics.OwnerFacts.{stay_named}
use Rattle.corner_table.proofs.Basics.SmallFacts.{own_stay}
use Rattle.corner_table.proofs.Readings.SlotFacts.{named_slot}
use Rattle.corner_joins.specs.Additions.CostJoins.{AreAllJoined}
use Rattle.corner_joins.proofs.Attributes.AttrJoins.{IsJoin, joined, named_by, old_standing, stay_here, stay_standing}
use Rattle.corner_joins.proofs.Attributes.AttrLevels.{join_of, joined_is}
use Rattle.corner_shifts.specs.Astray.{AreAstray, NoneGoesAstray}
use Rattle.corner_shifts.specs.Stood.{stay_slot}

-- the line in this slot is at 0, or it is listed
abbrev IsKnownAt : Lists → List ℕ → ℕ → Type 0
IsKnownAt t lines w = ((standing_at t w).value.num ≡ pos 0) ⊎ Contains lines w

still-known : (t u : Lists) (lines : List ℕ) (v w : ℕ) → v ≡ w → standing_at u w ≡ standing_at t w → IsKnownAt t lines w → IsKnownAt u lines v
still-known t u lines v w at same h = subst (IsKnownAt u lines) (sym at) (elim h [
  | inl zero ↦ inl (ap (λ (s : Standing). s.value.num) same ∙ zero)
  | inr has ↦ inr has
])

stay-slot : (t : Lists) (i : ℕ) (s : Stay) → AreSlots t → i < length t.stays → IsSlot t (stay_slot t (slice_index_or t.stays i s).attr)
stay-slot t i s slots lt = named_slot t (StayOf (slice_index_or t.stays i s).attr) slots (stay_named (problem_of t) (slice_index_or t.stays i s).attr (own_stay t.stays i s lt))

-- ---- an attribute joins

joined-stays : (t : Lists) (attr : ℕ) (target : Fraction) (m : List (List Term)) (a : List ℕ) → IsJoin t attr target m a → NoneGoesAstray t (joined t attr target m a)
joined-stays t attr target m a j lines astray =
    let u : Lists = joined t attr target m a in
    All-push (λ (s : Stay). IsKnownAt u lines (stay_slot u s.attr)) t.stays (new_stay attr target)
    (λ i s lt.
    let b : ℕ = (slice_index_or t.stays i s).attr in
    still-known t u lines (stay_slot u b) (stay_slot t b) (named_by t attr target m a (StayOf b) j (stay_named (problem_of t) b (own_stay t.stays i s lt)))
    (old_standing t attr target m a (stay_slot t b) j.kept.slots (stay-slot t i s j.kept.slots lt).1) (astray i s lt))
    (inl (ap (λ (w : ℕ). (standing_at u w).value.num) (stay_here t attr target m a j) ∙ ap (λ (s : Standing). s.value.num) (stay_standing t attr target m a j.kept.slots)))

pub attr_stays : (t u : Lists) (attr : ℕ) (target : Fraction) → IsKept t → IsNumber attr → fractions.IsKept target → (HasStay t.stays attr → ⊥) → length t.stays < 4096 → IsWithAttr attr target t u → NoneGoesAstray t u
attr_stays t u attr target kept is_number value fresh few h =
    subst (NoneGoesAstray t) (sym (joined_is t u attr target h)) (joined-stays t attr target u.matrix u.attr_slots (join_of t u attr target kept is_number value fresh few h))

-- ---- rows join

pub rows_stays : (t u : Lists) (rows : List Row) (old new : List ℕ) → AreSlots t → AreAllJoined rows t old u new → NoneGoesAstray t u
rows_stays t u rows old new slots h lines astray =
    let stays : u.stays ≡ t.stays = h.joined.stays ∙ h.pushed.stays in
    let attrs : u.attr_slots ≡ t.attr_slots = h.joined.attr_slots ∙ h.pushed.attr_slots in
    subst (λ (xs : List Stay). All (λ s. IsKnownAt u lines (stay_slot u s.attr)) xs) (sym stays)
    (λ i s lt.
    let b : ℕ = (slice_index_or t.stays i s).attr in
    let slot = stay-slot t i s slots lt in
    still-known t u lines (stay_slot u b) (stay_slot t b) (ap (λ (xs : List ℕ). slice_index_or xs b 0 + 1) attrs)
    (h.joined.values (stay_slot t b) slot.0 ∙ h.pushed.standings (stay_slot t b) slot.1) (astray i s lt))
