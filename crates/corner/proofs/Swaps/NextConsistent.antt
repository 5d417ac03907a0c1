-- A corner whose lists are those after an exchange or a turn is consistent.
use Rattle.std.proofs.Common.{◌≡◌, ◌≢◌, ◌∙◌, ◌⊎◌, ℕ, ◌<◌, ◌≤◌, List, map, length, refl, sym, ap, ap₂, subst, inl, inr, pos, All, Some}
use Rattle.std.specs.declared.option.Option.{Option}
use Rattle.std.proofs.lemmas.List.Elements.{All-contains}
use Rattle.version_lists.proofs.Indexing.{number_at_column}
use Rattle.problem_core.specs.declared.parts.Mark.{Mark}
use Rattle.problem_core.specs.declared.parts.RowName.{RowName}
use Rattle.problem_core.specs.declared.parts.Side.{Side}
use Rattle.problem_core.specs.declared.parts.Side.TheVariants.{Under, Over}
use Rattle.problem_core.specs.declared.stops.What.TheVariants.{Mark as MarkOf}
use Rattle.problem_core.specs.Corners.{IsExchange, IsIn, SameMarks, Swap, place}
use Rattle.corner_laws.specs.Runs.{other_side}
use Rattle.corner_exchange.specs.declared.exchange.Change.{Change}
use Rattle.corner_exchange.specs.declared.exchange.Exchange.{Exchange}
use Rattle.corner_table.specs.declared.table.Slot.{Slot}
use Rattle.corner_table.specs.declared.table.Table.{Table}
use Rattle.corner_table.specs.declared.table.TheConstants.{LEVELS}
use Rattle.corner_view.specs.Seen.{AreCandidates, IsNamed, IsOutside, MovesWith}
use Rattle.corner_table.specs.Tables.{IsListedOf, Lists, entry, line_slot, lists_of, marks_at, problem_of, row_at, scene_at, slot_at, standing_at}
use Rattle.corner_table.specs.Kept.{AreSlots, IsKept, IsSlot}
use Rattle.corner_table.specs.Histories.{AreAlike, lists_before}
use Rattle.corner_table.specs.Invariants.{IsConsistent, IsEarlier, name_of, names_of}
use Rattle.std.proofs.Common.{slice_index_or, Contains}
use Rattle.problem_core.specs.Layout.{Problem}
use Rattle.corner_exchange.specs.Swaps.Exchanges.{AreListedAfter, IsExchangeOf, IsOutsideAfter, IsPair, exchanged_lists, marks_after, turned_lists}
use Rattle.corner_joins.proofs.Attributes.AttrJoins.{nowhere}
use Rattle.corner_writings.proofs.Readings.FreeSlots.{line_named}
use Rattle.corner_table.proofs.Readings.SlotFacts.{named_slot}
use Rattle.corner_table.proofs.Readings.WritingFacts.{line_owner}
use Rattle.corner_exchange.specs.Swaps.TurnedLevels.{IsTurn}
use Rattle.corner_table.proofs.Corners.HistoryFacts.{sided}
use Rattle.corner.proofs.Attributes.CornerAttrs.{marked_rows}
use Rattle.corner_table.proofs.Readings.MarkFacts.{inside_stands}
use Rattle.corner_table.proofs.Readings.ReadFacts.{is_some}
use Rattle.corner_view.proofs.Facts.{mark_named}
use Rattle.corner_table.proofs.Basics.ListFacts.{all_from, from_map}
use Rattle.corner_table.proofs.Readings.WritingFacts.{in_mark, lines_apart}
use Rattle.corner_table.proofs.Readings.KeptFacts.{row_kept}
use Rattle.corner_writings.proofs.Readings.MovedFacts.{moves_entry}
use Rattle.corner_exchange.proofs.Pivots.PairFacts.{pair_exchange}
use Rattle.corner.proofs.Swaps.CandidatesAfter.{exchanged_candidates, turned_candidates}
use Rattle.corner_exchange.proofs.Swaps.ExchangedFacts.{exchanged_over}
use Rattle.corner_exchange.proofs.Swaps.TurnedFacts.{turn_leaves, turn_named, turned_over}
use Rattle.frac_core.proofs.Lists.{length-mapped as map_length}
use Rattle.corner_exchange.proofs.Swaps.ListedSlots.{CanBeListed, outside_listed, were_listed}
use Rattle.corner_exchange.proofs.Swaps.LevelTurns.{turn_exchange}

-- ---- names

names_named : (t : Lists) (ws : List ℕ) → All (CanBeListed t) ws → All (IsNamed (problem_of t)) (names_of t ws)
names_named t ws h =
    all_from (IsNamed (problem_of t)) (names_of t ws) (λ name c.
    let i = from_map (λ w. name_of (slot_at t w).owner) ws name c in
    subst (IsNamed (problem_of t)) i.is (All-contains (CanBeListed t) ws i.of h i.has).1)

-- lists with the same slots and the same problem
pub record AreSeenAlike (t u : Lists) : Type 0 where
  pub problem : problem_of u ≡ problem_of t
  pub slots : u.slots ≡ t.slots

exchanged_alike : (t : Lists) (made : Exchange) → AreSeenAlike t (exchanged_lists t made)
exchanged_alike t made = record { problem = ap problem_of (exchanged_over t made); slots = ap (λ (x : Lists). x.slots) (exchanged_over t made) }

turned_alike : (t : Lists) (line : ℕ) (side : Side) (change : Option Change) → AreSeenAlike t (turned_lists t line side change)
turned_alike t line side change = record { problem = ap problem_of (turned_over t line side change); slots = ap (λ (x : Lists). x.slots) (turned_over t line side change) }

pub next_consistent : (old new : Table) (listed next : List ℕ) → IsConsistent old listed → AreAlike new → lists_before new ≡ lists_before old → AreSeenAlike (lists_of old) (lists_of new) → IsKept (lists_of new)
    → All (CanBeListed (lists_of old)) next → AreCandidates (problem_of (lists_of new)) (marks_at (lists_of new)) (names_of (lists_of new) next) → IsConsistent new next
next_consistent old new listed next k alike before same kept slots candidates =
    let t : Lists = lists_of old in
    let u : Lists = lists_of new in
    let can : All (CanBeListed u) next = subst (λ (xs : List Slot). All (λ w. ((LEVELS ≤ w) × (w < length xs)) × IsNamed (problem_of u) (name_of (slice_index_or xs w nowhere).owner)) next) (sym same.slots)
    (subst (λ (p : Problem). All (λ w. IsSlot t w × IsNamed p (name_of (slot_at t w).owner)) next) (sym same.problem) slots) in
    record {
      alike = alike;
      before = subst (All IsEarlier) (sym before) k.before;
      kept = kept;
      slots = all_from (IsSlot u) next (λ w has. (All-contains (CanBeListed u) next w can has).0);
      named = names_named u next can;
      candidates = candidates;
    }

-- ---- after an exchange

pub exchanged_seen : (t u : Lists) (made : Exchange) → u ≡ exchanged_lists t made → AreSeenAlike t u
exchanged_seen t u made same = subst (AreSeenAlike t) (sym same) (exchanged_alike t made)

after-listed : (t : Lists) (made : Exchange) (s : Swap) (w : ℕ) → AreSlots t → IsExchangeOf t made s → IsOutsideAfter t made.pair w → CanBeListed t w
after-listed t made s w slots h (inl e) =
    subst (CanBeListed t) (h.pair.leave_slot ∙ sym e) (named_slot t s.leave.row slots h.pair.leaves, line_named t (line_slot t s.leave.row) s.leave.row slots (line_owner t s.leave.row slots h.pair.leaves))
after-listed t made s w slots h (inr (ne, out)) = outside_listed t w slots out

pub exchanged_slots : (t : Lists) (made : Exchange) (s : Swap) (old new : List ℕ) → AreSlots t → IsExchangeOf t made s → AreListedAfter t made old new → ((w : ℕ) → Contains old w → CanBeListed t w) → All (CanBeListed t) new
exchanged_slots t made s old new slots h listed all =
    all_from (CanBeListed t) new (λ w c. elim (listed.others w c) [
      | inl o ↦ all w o
      | inr after ↦ after-listed t made s w slots h after
    ])

pub exchanged_consistent : (old new : Table) (made : Exchange) (s : Swap) (listed next : List ℕ) → IsConsistent old listed → IsExchangeOf (lists_of old) made s → AreAlike new → lists_before new ≡ lists_before old
    → lists_of new ≡ exchanged_lists (lists_of old) made → IsKept (lists_of new) → SameMarks (marks_at (lists_of new)) (marks_after (lists_of old) s) → AreListedAfter (lists_of old) made listed next → IsConsistent new next
exchanged_consistent old new made s listed next k h alike before same kept marks after =
    let t : Lists = lists_of old in
    let seen = exchanged_seen t (lists_of new) made same in
    next_consistent old new listed next k alike before seen kept (exchanged_slots t made s listed next k.kept.slots h after (were_listed t listed k.slots k.named))
    (exchanged_candidates t (lists_of new) made s listed next k.kept h seen.problem seen.slots marks after k.candidates)

-- ---- after a turn

pub turned_seen : (t u : Lists) (line : ℕ) (side : Side) (change : Option Change) → u ≡ turned_lists t line side change → AreSeenAlike t u
turned_seen t u line side change same = subst (AreSeenAlike t) (sym same) (turned_alike t line side change)

turned-slots : (t : Lists) (line : ℕ) (old new : List ℕ) → IsKept t → IsListedOf line (row_at t line) old new → ((w : ℕ) → Contains old w → CanBeListed t w) → All (CanBeListed t) new
turned-slots t line old new kept listed all =
    all_from (CanBeListed t) new (λ w c. elim (listed.others w c) [
      | inl o ↦ all w o
      | inr (le, ne, has) ↦ outside_listed t w kept.slots (kept.outside line w ((number_at_column w (row_at t line) (row_kept t line kept)).1 has) ne)
    ])

pub turned_consistent : (old new : Table) (line : ℕ) (side : Side) (s : Swap) (change : Option Change) (listed next : List ℕ) → IsConsistent old listed → IsTurn (lists_of old) line side s → AreAlike new → lists_before new ≡ lists_before old
    → lists_of new ≡ turned_lists (lists_of old) line side change → IsKept (lists_of new) → SameMarks (marks_at (lists_of new)) (marks_after (lists_of old) s) → IsListedOf line (row_at (lists_of old) line) listed next → IsConsistent new next
turned_consistent old new line side s change listed next k h alike before same kept marks after =
    let t : Lists = lists_of old in
    let seen = turned_seen t (lists_of new) line side change same in
    next_consistent old new listed next k alike before seen kept (turned-slots t line listed next k.kept after (were_listed t listed k.slots k.named))
    (turned_candidates t (lists_of new) s line listed next k.kept (turn_named t line side s h) (turn_leaves t line side s h) h.inside h.row seen.problem seen.slots marks after.keeps
    (λ c some ne. after.has c (k.kept.outside line c some ne).0.0 ne ((number_at_column c (row_at t line) (row_kept t line k.kept)).0 some)) k.candidates)

-- ---- the slots of two marks

-- those of an outside mark and of an inside one that moves with it
pair_of : (t : Lists) (enter leave : Mark) → IsKept t → IsOutside (problem_of t) (marks_at t) enter → IsIn (place leave) (marks_at t) → MovesWith (problem_of t) (marks_at t) enter (MarkOf leave) → enter.row ≢ leave.row
    → IsPair t (record { enter = line_slot t enter.row; side = enter.side; leave = line_slot t leave.row }) (record { enter = enter; leave = leave })
pair_of t enter leave kept out inside moves ne =
    let some : entry t (line_slot t leave.row) (line_slot t enter.row) ≢ pos 0 = moves_entry t enter (MarkOf leave) kept out (λ e. ne (sym e)) moves in
    let named = mark_named (problem_of t) enter out.0 in
    let there = mark_named (problem_of t) leave (in_mark t leave kept inside) in
    record {
      enters = named;
      enter_slot = refl;
      enter_side = refl;
      outside = (kept.outside (line_slot t leave.row) (line_slot t enter.row) some (λ e. ne (lines_apart t enter.row leave.row kept.slots named there (sym e)))).1;
      leaves = there;
      leave_slot = refl;
      inside = is_some (standing_at t (line_slot t leave.row)).side leave.side (inside_stands t leave inside);
      stands = some;
    }

other-of : (a b : Side) → (a ≡ b → ⊥) → a ≡ other_side b
other-of Under Under ne = absurd (ne refl)
other-of Under Over ne = refl
other-of Over Under ne = refl
other-of Over Over ne = absurd (ne refl)

-- that of a line whose outside mark enters for its inside one
turn_at : (t : Lists) (enter leave : Mark) → IsKept t → IsOutside (problem_of t) (marks_at t) enter → IsIn (place leave) (marks_at t) → enter.row ≡ leave.row
    → IsTurn t (line_slot t enter.row) enter.side (record { enter = enter; leave = leave })
turn_at t enter leave kept out inside row = record {
  enters = mark_named (problem_of t) enter out.0;
  slot = refl;
  side_is = refl;
  row = row;
  sides = other-of enter.side leave.side (λ e. out.1 (subst (λ (m : Mark). IsIn (place m) (marks_at t)) (sym (ap₂ (λ (r : RowName) (d : Side). (record { row = r; side = d })) row e)) inside));
  inside = subst (λ (r : RowName). (standing_at t (line_slot t r)).side ≡ Some leave.side) (sym row) (is_some (standing_at t (line_slot t leave.row)).side leave.side (inside_stands t leave inside));
}

pub swap_pair : (t : Lists) (enter leave : Mark) (w v : ℕ) → IsKept t → IsOutside (problem_of t) (marks_at t) enter → IsIn (place leave) (marks_at t) → MovesWith (problem_of t) (marks_at t) enter (MarkOf leave) → enter.row ≢ leave.row
    → w ≡ line_slot t enter.row → v ≡ line_slot t leave.row → IsPair t (record { enter = w; side = enter.side; leave = v }) (record { enter = enter; leave = leave })
swap_pair t enter leave w v kept out inside moves ne e f =
    subst (λ k. IsPair t (record { enter = w; side = enter.side; leave = k }) (record { enter = enter; leave = leave })) (sym f)
    (subst (λ k. IsPair t (record { enter = k; side = enter.side; leave = line_slot t leave.row }) (record { enter = enter; leave = leave })) (sym e) (pair_of t enter leave kept out inside moves ne))

pub swap_turn : (t : Lists) (enter leave : Mark) (w : ℕ) → IsKept t → IsOutside (problem_of t) (marks_at t) enter → IsIn (place leave) (marks_at t) → enter.row ≡ leave.row
    → w ≡ line_slot t enter.row → IsTurn t w enter.side (record { enter = enter; leave = leave })
swap_turn t enter leave w kept out inside row e = subst (λ k. IsTurn t k enter.side (record { enter = enter; leave = leave })) (sym e) (turn_at t enter leave kept out inside row)

-- either way it is an exchange
pub swap_exchange : (t : Lists) (enter leave : Mark) → IsKept t → IsOutside (problem_of t) (marks_at t) enter → IsIn (place leave) (marks_at t) → MovesWith (problem_of t) (marks_at t) enter (MarkOf leave)
    → (enter.row ≡ leave.row) ⊎ (enter.row ≢ leave.row) → IsExchange (problem_of t) (marks_at t) (record { enter = enter; leave = leave })
swap_exchange t enter leave kept out inside moves (inl row) = turn_exchange t (line_slot t enter.row) enter.side (record { enter = enter; leave = leave }) kept (turn_at t enter leave kept out inside row)
swap_exchange t enter leave kept out inside moves (inr ne) = pair_exchange t (record { enter = line_slot t enter.row; side = enter.side; leave = line_slot t leave.row }) (record { enter = enter; leave = leave }) kept (pair_of t enter leave kept out inside moves ne)

-- ---- earlier marks

pub marked_next : (old new : Table) → AreAlike old → 0 < length old.rows.before → lists_before new ≡ lists_before old → 0 < length new.rows.before
marked_next old new alike h same =
    let count : length (map scene_at (lists_before old)) ≡ length old.rows.before = map_length scene_at (lists_before old) ∙ sided old.rows.before old.stays.before old.slots.before old.standings.before old.matrix.before old.attr_slots.before old.row_slots.before old.priorities.before alike.stays alike.slots alike.standings alike.matrix alike.attr_slots alike.row_slots alike.priorities in
    marked_rows new (subst (λ (ls : List Lists). 0 < length (map scene_at ls)) (sym same) (subst (λ n. 0 < n) (sym count) h))
