-- The fronts of both marks of a line, at the lowest slot of a level that stands in its column.
use Rattle.std.proofs.Common.{◌≡◌, ◌≢◌, ◌∙◌, ◌⊎◌, ℕ, ◌<◌, ◌≤◌, ◌*ℤ◌, List, ℤ, length, slice_index_or, refl, sym, ap, ap₂, subst, arith, inl, inr, pos, AllPairs, Contains, Some}
use Rattle.std.proofs.lemmas.Bool.{cases_eq, cases_lt}
use borrow.Author.Differences.{ints}
use Rattle.problem_core.specs.declared.parts.Mark.{Mark}
use Rattle.problem_core.specs.declared.parts.Rel.{Rel}
use Rattle.problem_core.specs.declared.parts.Rel.TheVariants.{Eq, Le, Ge}
use Rattle.problem_core.specs.declared.parts.Side.{Side}
use Rattle.problem_core.specs.declared.parts.Side.TheVariants.{Under, Over}
use Rattle.corner_lines.specs.LineEquations.{sign_of}
use Rattle.corner_table.specs.declared.table.Slot.{Slot}
use Rattle.corner_table.specs.declared.table.TheConstants.{LEVELS, OWN_RANK}
use Rattle.corner_table.specs.Tables.{Lists, entry, line_slot, problem_of, slot_at, standing_at}
use Rattle.corner_table.specs.Kept.{HasCost, IsKept}
use Rattle.corner_view.specs.Seen.{IsMarkOf}
use Rattle.corner_table.specs.Reads.LevelNumbers.{HasReducedAt, IsFirstSlot, IsSlotOfLine, own_at, own_cost, reduced_at, share_of, side_share, times_at, unit_at}
use Rattle.corner_writings.specs.Fitting.{counted}
use Rattle.corner_writings.specs.declared.levels.LevelRead.{LevelRead}
use Rattle.corner_writings.specs.Walks.{IsLevelRead, IsLowestCost, IsNextCost, IsNoneAbove, IsNoneBelow, IsStrongestAt, IsStrongestOf, cost_by, dear_side}
use Rattle.corner_view.proofs.Facts.{mark_named}
use Rattle.corner_writings.proofs.LevelFacts.ColumnFronts.{lower_slot}
use Rattle.corner_writings.proofs.LevelFacts.LevelFrontFacts.{before_in, in_column, none_in}
use Rattle.corner_writings.proofs.LevelFacts.LevelReadFacts.{home_level, named_line_slot, nothing_elsewhere, reduced_elsewhere}
use Rattle.corner_writings.proofs.LevelFacts.LevelUseFacts.{cost_slot}

-- ---- the lowest slot

pub home_cost : (t : Lists) (w : ℕ) → IsKept t → IsSlotOfLine t w → HasCost t (slot_at t w).home
home_cost t w kept is =
    let level = home_level t (slot_at t w) kept (w, is, refl) in
    subst (HasCost t) level.1.2 (cost_slot t level.1.0 kept (level.0, level.1.1))

-- where the slot of the line's level is no higher than that which is met
pub home_met : (t : Lists) (w : ℕ) (xs : List ℕ) (n : ℕ) → HasCost t (slot_at t w).home → AllPairs (λ v w. v < w) xs → n < length xs → ((m : ℕ) → entry t m w ≢ pos 0 → Contains xs m)
    → ((j : ℕ) → j < n → HasCost t (slice_index_or xs j 0) → ⊥) → (slot_at t w).home ≤ slice_index_or xs n 0 → IsLowestCost t w (slot_at t w).home
home_met t w xs n cost rising within in-column none le = record {
  cost = cost;
  home = omega arith;
  below = λ m some lt h. before_in (HasCost t) xs n m rising within (omega (arith, lt, le)) (in-column m some) none h;
}

pub cost_met : (t : Lists) (w : ℕ) (xs : List ℕ) (n : ℕ) → HasCost t (slice_index_or xs n 0) → AllPairs (λ v w. v < w) xs → n < length xs → ((m : ℕ) → entry t m w ≢ pos 0 → Contains xs m)
    → ((j : ℕ) → j < n → HasCost t (slice_index_or xs j 0) → ⊥) → slice_index_or xs n 0 ≤ (slot_at t w).home → IsLowestCost t w (slice_index_or xs n 0)
cost_met t w xs n cost rising within in-column none le = record {
  cost = cost;
  home = le;
  below = λ m some lt h. before_in (HasCost t) xs n m rising within lt (in-column m some) none h;
}

pub none_met : (t : Lists) (w : ℕ) (xs : List ℕ) (n : ℕ) → HasCost t (slot_at t w).home → length xs ≤ n → ((m : ℕ) → entry t m w ≢ pos 0 → Contains xs m)
    → ((j : ℕ) → j < n → HasCost t (slice_index_or xs j 0) → ⊥) → IsLowestCost t w (slot_at t w).home
none_met t w xs n cost past in-column none = record {
  cost = cost;
  home = omega arith;
  below = λ m some lt h. none_in (HasCost t) xs m (in-column m some) (λ j within. none j (omega (arith, within, past))) h;
}

-- it is the strongest
pub lowest_is_strongest : (t : Lists) (w l : ℕ) → IsKept t → IsLowestCost t w l → (l < LEVELS) ⊎ (OWN_RANK ≤ (slot_at t l).rank) → IsStrongestOf t w l
lowest_is_strongest t w l kept lowest ends side m less h =
    let before : m < l = lower_slot t l m kept lowest.cost h.0 ends less in
    elim (cases_eq (slot_at t w).home m) [
      | inl e ↦ let le = lowest.home in omega (arith, e, le, before)
      | inr ne ↦ lowest.below m (in_column t m w side ne h) before h.0
    ]

pub strongest_is_first : (t : Lists) (w l : ℕ) (side : Side) → HasCost t l → IsStrongestAt t w side l → reduced_at t l w side ≢ pos 0 → IsFirstSlot t w side l
strongest_is_first t w l side cost none ne = record { there = (cost, ne); first = λ m less h. none m less h }

-- ---- at an inside line's own level

pub own_is_first : (t : Lists) (w home : ℕ) (side inside : Side) → (standing_at t w).side ≡ Some inside → (slot_at t w).home ≡ home → HasCost t home → reduced_at t home w side ≢ pos 0 → IsFirstSlot t w side home
own_is_first t w home side inside stands is cost ne = record {
  there = (cost, ne);
  first = λ m less h. h.1 (nothing_elsewhere t m w inside stands (λ e. let same : (slot_at t home).rank ≡ (slot_at t m).rank = ap (λ (n : ℕ). (slot_at t n).rank) (sym is ∙ e) in omega (arith, same, less)) side);
}

pub own_alone : (t : Lists) (w home : ℕ) (side inside : Side) → (standing_at t w).side ≡ Some inside → (slot_at t w).home ≡ home → reduced_at t home w side ≡ pos 0 → (m : ℕ) → HasReducedAt t w side m → ⊥
own_alone t w home side inside stands is nothing m h = elim (cases_eq (slot_at t w).home m) [
  | inl e ↦ h.1 (subst (λ (n : ℕ). reduced_at t n w side ≡ pos 0) (sym is ∙ e) nothing)
  | inr ne ↦ h.1 (nothing_elsewhere t m w inside stands ne side)
]

-- the slot of a mark's line
pub marks_slot : (t : Lists) (m : Mark) (w : ℕ) → IsMarkOf (problem_of t) m → w ≡ line_slot t m.row → IsSlotOfLine t w
marks_slot t m w mark is = subst (IsSlotOfLine t) (sym is) (named_line_slot t m.row (mark_named (problem_of t) m mark))

-- ---- beyond the line's own level

pub next_met : (t : Lists) (w l : ℕ) (xs : List ℕ) (n : ℕ) → (l < slice_index_or xs n 0) × HasCost t (slice_index_or xs n 0) → AllPairs (λ v w. v < w) xs → n < length xs → ((m : ℕ) → entry t m w ≢ pos 0 → Contains xs m)
    → ((j : ℕ) → j < n → (l < slice_index_or xs j 0) × HasCost t (slice_index_or xs j 0) → ⊥) → IsNextCost t w l (slice_index_or xs n 0)
next_met t w l xs n here rising within in-column none = record {
  cost = here.1;
  above = here.0;
  between = λ m some above lt h. before_in (λ v. (l < v) × HasCost t v) xs n m rising within lt (in-column m some) none (above, h);
}

pub none_above : (t : Lists) (w l : ℕ) (xs : List ℕ) (n : ℕ) → length xs ≤ n → ((m : ℕ) → entry t m w ≢ pos 0 → Contains xs m)
    → ((j : ℕ) → j < n → (l < slice_index_or xs j 0) × HasCost t (slice_index_or xs j 0) → ⊥) → IsNoneAbove t w l
none_above t w l xs n past in-column none m some above h = none_in (λ v. (l < v) × HasCost t v) xs m (in-column m some) (λ j within. none j (omega (arith, within, past))) (above, h)

-- no slot of a level is at the line's own level, or stands in its column below
passed : (t : Lists) (w home m : ℕ) (side : Side) → (slot_at t w).home ≡ home → IsNoneBelow t w home → reduced_at t home w side ≡ pos 0 → HasReducedAt t w side m → (entry t m w ≢ pos 0) × (home < m)
passed t w home m side is below nothing h =
    elim (cases_eq home m) [
      | inl e ↦ absurd (h.1 (subst (λ (k : ℕ). reduced_at t k w side ≡ pos 0) e nothing))
      | inr ne ↦
          let some : entry t m w ≢ pos 0 = in_column t m w side (λ e. ne (sym is ∙ e)) h in
          elim (cases_lt m home) [
            | inl lt ↦ absurd (below m some lt h.0)
            | inr le ↦ (some, omega (arith, le, ne))
          ]
    ]

pub next_is_strongest : (t : Lists) (w home n : ℕ) (side : Side) → IsKept t → (slot_at t w).home ≡ home → IsNoneBelow t w home → reduced_at t home w side ≡ pos 0 → IsNextCost t w home n
    → (n < LEVELS) ⊎ (OWN_RANK ≤ (slot_at t n).rank) → IsStrongestAt t w side n
next_is_strongest t w home n side kept is below nothing next ends m less h =
    let past = passed t w home m side is below nothing h in
    next.between m past.0 past.1 (lower_slot t n m kept next.cost h.0 ends less) h.0

pub nothing_beyond : (t : Lists) (w home : ℕ) (side : Side) → (slot_at t w).home ≡ home → IsNoneBelow t w home → reduced_at t home w side ≡ pos 0 → IsNoneAbove t w home → (m : ℕ) → HasReducedAt t w side m → ⊥
nothing_beyond t w home side is below nothing above m h = let past = passed t w home m side is below nothing h in above m past.0 past.1 h.0

signed-something : (side : Side) (z : ℤ) → z ≢ pos 0 → sign_of side *ℤ z ≢ pos 0
signed-something Under z ne q = ne (omega (arith, ints, q))
signed-something Over z ne q = ne (omega (arith, ints, q))

pub turned_elsewhere : (t : Lists) (n w : ℕ) (side : Side) → (slot_at t w).home ≢ n → times_at t n w ≢ pos 0 → reduced_at t n w side ≢ pos 0
turned_elsewhere t n w side other ne q = signed-something side (times_at t n w) ne (sym (reduced_elsewhere t n w side other) ∙ q)

-- ---- what a line costs

pub times_nothing : (z : ℤ) → pos 0 ≡ z *ℤ pos 0
times_nothing z = omega (arith, ints)

counted-part : (rel : Rel) (side : Side) (z : ℤ) (n : ℕ) → counted rel side (z *ℤ pos (side_share rel (dear_side rel) n)) ≡ z *ℤ pos (side_share rel side n)
counted-part Eq Under z n = refl
counted-part Eq Over z n = refl
counted-part Le Under z n = times_nothing z
counted-part Le Over z n = refl
counted-part Ge Under z n = refl
counted-part Ge Over z n = times_nothing z

pub counted_cost : (t : Lists) (slot : Slot) (side : Side) → counted slot.rel side (own_cost t slot (dear_side slot.rel)) ≡ own_cost t slot side
counted_cost t slot side = counted-part slot.rel side (own_at t slot.home) (share_of slot (unit_at t slot.home))

-- by the numbers of its level
pub cost_read : (t : Lists) (read : LevelRead) (slot : Slot) (side : Side) → IsLevelRead t read → slot.home ≡ read.l → own_cost t slot side ≡ cost_by slot side read.own read.unit
cost_read t read slot side is home =
    ap (λ (h : ℕ). cost_by slot side (own_at t h) (unit_at t h)) home ∙ ap₂ (λ (o u : ℤ). cost_by slot side o u) (sym is.own) (sym is.unit)
