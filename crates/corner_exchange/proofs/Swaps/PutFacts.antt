-- Slots of lists with other rows and values.
use Rattle.std.proofs.Common.{◌≡◌, ◌∙◌, ℕ, ◌<◌, ◌++◌, List, [], ◌∷◌, length, length-set, refl, sym, ap, subst, arith, All}
use Rattle.std.proofs.lemmas.List.{get_or_append_left, length-append}
use Rattle.std.proofs.lemmas.List.Elements.{All-push}
use Rattle.row_core.specs.Rows.{Term}
use Rattle.corner_exchange.specs.declared.exchange.Change.{Change}
use Rattle.version_lists.specs.Matrices.{IsBelow}
use Rattle.corner_table.specs.declared.table.Slot.{Slot}
use Rattle.corner_table.specs.declared.table.Standing.{Standing}
use Rattle.corner_table.specs.declared.table.Table.{Table}
use Rattle.corner_table.specs.Histories.{AreAlike, lists_before}
use Rattle.corner_table.specs.Tables.{Lists, lists_of}
use Rattle.corner_table.specs.Kept.{AreSlots}
use Rattle.corner_exchange.specs.Swaps.NextLists.{IsKeptChange}
use Rattle.corner_exchange.specs.Swaps.Exchanges.{IsChangeIn, cleared, with_change, with_changes, with_row, with_standing}

pub standing_slots : (t : Lists) (w : ℕ) (standing : Standing) → AreSlots t → AreSlots (with_standing t w standing)
standing_slots t w standing h = record {
  standings = length-set t.standings w standing ∙ h.standings;
  matrix = h.matrix;
  levels = h.levels;
  room = h.room;
  priorities = h.priorities;
  attrs = λ i d within. record { slot = (h.attrs i d within).slot; owner = (h.attrs i d within).owner };
  lines = λ i d within. record {
    slot = (h.lines i d within).slot;
    owner = (h.lines i d within).owner;
    home = (h.lines i d within).home;
    weight = (h.lines i d within).weight;
    scale = (h.lines i d within).scale;
    rel = (h.lines i d within).rel;
  };
  owners = h.owners;
  level_owners = h.level_owners;
  level_homes = h.level_homes;
  level_ranks = h.level_ranks;
  stay_ranks = h.stay_ranks;
  stays_rise = h.stays_rise;
  ranks = h.ranks;
  own_last = h.own_last;
}

pub row_slots : (t : Lists) (w : ℕ) (row : List Term) → AreSlots t → AreSlots (with_row t w row)
row_slots t w row h = record {
  standings = h.standings;
  matrix = length-set t.matrix w row ∙ h.matrix;
  levels = h.levels;
  room = h.room;
  priorities = h.priorities;
  attrs = λ i d within. record { slot = (h.attrs i d within).slot; owner = (h.attrs i d within).owner };
  lines = λ i d within. record {
    slot = (h.lines i d within).slot;
    owner = (h.lines i d within).owner;
    home = (h.lines i d within).home;
    weight = (h.lines i d within).weight;
    scale = (h.lines i d within).scale;
    rel = (h.lines i d within).rel;
  };
  owners = h.owners;
  level_owners = h.level_owners;
  level_homes = h.level_homes;
  level_ranks = h.level_ranks;
  stay_ranks = h.stay_ranks;
  stays_rise = h.stays_rise;
  ranks = h.ranks;
  own_last = h.own_last;
}

pub change_slots : (t : Lists) (change : Change) → AreSlots t → AreSlots (with_change t change)
change_slots t change h =
    row_slots (with_standing t change.at _) change.at change.row (standing_slots t change.at _ h)

-- the last change is put first
pub last_first : (t : Lists) (changes : List Change) (change : Change) → with_changes t (changes ++ change ∷ []) ≡ with_changes (with_change t change) changes
last_first t [] change = refl
last_first t (c ∷ changes) change = ap (λ u. with_change u c) (last_first t changes change)

-- the last changes are put, and the first ones are left
pub record ArePutSoFar (old : Table) (changes : List Change) (now : Table) (left : List Change) : Type 0 where
  pub slots : AreSlots (lists_of now)
  pub changes_in : All (IsChangeIn (lists_of now)) left
  pub put : with_changes (lists_of now) left ≡ with_changes (lists_of old) changes
  pub kept : All IsKeptChange left → All IsKeptChange changes
  pub before : lists_before now ≡ lists_before old
  pub alike : AreAlike old → AreAlike now

pub one_more : (old : Table) (changes : List Change) (now next : Table) (left : List Change) (change : Change) → ArePutSoFar old changes now (left ++ change ∷ []) → IsKeptChange change → lists_of next ≡ with_change (lists_of now) change
    → lists_before next ≡ lists_before now → (AreAlike now → AreAlike next) → ArePutSoFar old changes next left
one_more old changes now next left change h is put before alike = record {
  slots = subst AreSlots (sym put) (change_slots (lists_of now) change h.slots);
  changes_in = subst (λ t. All (IsChangeIn t) left) (sym put) (λ i d within. subst (IsChangeIn (lists_of now)) (get_or_append_left left (change ∷ []) d i within) (h.changes_in i d (subst (λ n. i < n) (sym (length-append left (change ∷ []))) (omega (arith, within)))));
  put = ap (λ t. with_changes t left) put ∙ sym (last_first (lists_of now) left change) ∙ h.put;
  kept = λ all. h.kept (All-push IsKeptChange left change all is);
  before = before ∙ h.before;
  alike = λ a. alike (h.alike a);
}

pub changes_slots : (t : Lists) (changes : List Change) → AreSlots t → AreSlots (with_changes t changes)
changes_slots t [] h = h
changes_slots t (change ∷ changes) h = change_slots (with_changes t changes) change (changes_slots t changes h)

pub changes_keep : (t : Lists) (changes : List Change) → (with_changes t changes).slots ≡ t.slots
changes_keep t [] = refl
changes_keep t (change ∷ changes) = changes_keep t changes

pub cleared_slots : (t : Lists) (w : ℕ) → AreSlots t → AreSlots (cleared t w)
cleared_slots t w h = standing_slots (with_row t w []) w _ (row_slots t w [] h)

pub change_there : (t u : Lists) (change : Change) → u.slots ≡ t.slots → IsChangeIn t change → IsChangeIn u change
change_there t u change same h = subst (λ (ss : List Slot). (change.at < length ss) × IsBelow (length ss) change.row) (sym same) h
