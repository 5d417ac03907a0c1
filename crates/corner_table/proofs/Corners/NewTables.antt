-- The lists of no attribute and no row.
use Rattle.std.proofs.Common.{◌≡◌, ◌∙◌, ◌⊎◌, ℕ, zero, suc, ◌<◌, ◌≤◌, ◌++◌, cond, nat_eq, List, [], ◌∷◌, length, refl, sym, ap, subst, arith, ℤ, pos, None, slice_index_or, inl, inr}
use Rattle.std.proofs.lemmas.List.{get_or_default, get_or_push, length_push}
use Rattle.std.proofs.Math.ListN.{get_or-append}
use Rattle.frac_core.specs.Fraction.{Fraction}
use Rattle.frac_core.specs.Fraction as fractions
use Rattle.row_core.specs.Rows.{IsKeptRow, Term, coefficient}
use Rattle.version_lists.proofs.Indexing.{none_kept}
use Rattle.problem_core.specs.Window.{zero_fraction}
use Rattle.problem_core.specs.declared.parts.Rel.TheVariants.{Eq}
use Rattle.problem_core.specs.Layout.{Problem}
use Rattle.problem_core.specs.Kept.{IsWhole}
use Rattle.problem_core.specs.Corners.{IsCorner, Point, StandsAt}
use Rattle.problem_core.specs.Levels.{IsCostAt}
use Rattle.corner_lines.proofs.LevelRows.LevelJoins.{empty_level_has_row}
use Rattle.corner_view.specs.declared.types.Owner.TheVariants.{Level as LevelSlot}
use Rattle.corner_table.specs.declared.table.Slot.{Slot}
use Rattle.corner_table.specs.declared.table.Standing.{Standing}
use Rattle.corner_table.specs.declared.table.Priority.{Priority}
use Rattle.corner_table.specs.declared.table.TheConstants.{LEVELS}
use Rattle.corner_table.specs.Tables.{Lists, entry, priority_at, row_at, slot_at, standing_at}
use Rattle.corner_table.specs.Kept.{AreSlots, HasLevelNumbers, IsKept, IsLevelKept}
use Rattle.corner_table.specs.Joining.{levels_below, with_level}
use Rattle.corner_table.proofs.Readings.KeptFacts.{zero_kept}

-- what holds of what is pushed and of what stood at the place holds of what stands there then
push_keeps : {X : Type 0} (P : X → Type 0) (xs : List X) (y d : X) (w : ℕ) → P y → P (slice_index_or xs w d) → P (slice_index_or (xs ++ (y ∷ [])) w d)
push_keeps P [] y d zero new old = new
push_keeps P [] y d (suc w) new old = old
push_keeps P (x ∷ xs) y d zero new old = old
push_keeps P (x ∷ xs) y d (suc w) new old = push_keeps P xs y d w new old

-- ---- the levels' slots

abbrev none_slot : Slot
none_slot = record { owner = LevelSlot; home = 0; rank = 0; weight = pos 1; scale = pos 1; rel = Eq }

abbrev none_standing : Standing
none_standing = record { side = None; value = zero_fraction }

abbrev none_priority : Priority
none_priority = record { unit = pos 1; rows = 0 }

pub slot_count : (n : ℕ) → length (levels_below n).slots ≡ n
slot_count zero = refl
slot_count (suc n) = omega (arith, length_push (levels_below n).slots (record { owner = LevelSlot; home = n; rank = n; weight = pos 1; scale = pos 1; rel = Eq }), slot_count n)

standing_count : (n : ℕ) → length (levels_below n).standings ≡ n
standing_count zero = refl
standing_count (suc n) = omega (arith, length_push (levels_below n).standings none_standing, standing_count n)

pub matrix_count : (n : ℕ) → length (levels_below n).matrix ≡ n
matrix_count zero = refl
matrix_count (suc n) = omega (arith, length_push (levels_below n).matrix [], matrix_count n)

priority_count : (n : ℕ) → length (levels_below n).priorities ≡ n
priority_count zero = refl
priority_count (suc n) = omega (arith, length_push (levels_below n).priorities none_priority, priority_count n)

level_row : (n w : ℕ) → row_at (levels_below n) w ≡ []
level_row zero w = refl
level_row (suc n) w = push_keeps (λ (r : List Term). r ≡ []) (levels_below n).matrix [] [] w refl (level_row n w)

level_standing : (n w : ℕ) → standing_at (levels_below n) w ≡ none_standing
level_standing zero w = refl
level_standing (suc n) w = push_keeps (λ (s : Standing). s ≡ none_standing) (levels_below n).standings none_standing none_standing w refl (level_standing n w)

level_priority : (n w : ℕ) → priority_at (levels_below n) w ≡ none_priority
level_priority zero w = refl
level_priority (suc n) w = push_keeps (λ (s : Priority). s ≡ none_priority) (levels_below n).priorities none_priority none_priority w refl (level_priority n w)

level_owner : (n w : ℕ) → (slot_at (levels_below n) w).owner ≡ LevelSlot
level_owner zero w = refl
level_owner (suc n) w = push_keeps (λ (s : Slot). s.owner ≡ LevelSlot) (levels_below n).slots (record { owner = LevelSlot; home = n; rank = n; weight = pos 1; scale = pos 1; rel = Eq }) none_slot w refl (level_owner n w)

lift_or : (n w : ℕ) → (w < n) ⊎ (w ≡ n) → (suc w < suc n) ⊎ (suc w ≡ suc n)
lift_or n w (inl h) = inl (omega (arith, h))
lift_or n w (inr e) = inr (ap (λ (k : ℕ). suc k) e)

pub less_or : (n w : ℕ) → w < suc n → (w < n) ⊎ (w ≡ n)
less_or zero zero h = inr refl
less_or zero (suc w) h = absurd (omega (arith, h))
less_or (suc n) zero h = inl (omega arith)
less_or (suc n) (suc w) h = lift_or n w (less_or n w (omega (arith, h)))

abbrev level_slot : ℕ → Slot
level_slot n = record { owner = LevelSlot; home = n; rank = n; weight = pos 1; scale = pos 1; rel = Eq }

home_at : (n w : ℕ) → (w < n → (slot_at (levels_below n) w).home ≡ w) → (w < n) ⊎ (w ≡ n) → (slot_at (levels_below (suc n)) w).home ≡ w
home_at n w old (inl lt) = ap (λ (s : Slot). s.home) (get_or-append (levels_below n).slots (level_slot n ∷ []) none_slot w (omega (arith, lt, slot_count n))) ∙ old lt
home_at n w old (inr e) = ap (λ (s : Slot). s.home) (get_or_push (levels_below n).slots (level_slot n) none_slot w (omega (arith, e, slot_count n))) ∙ sym e

level_home : (n w : ℕ) → w < n → (slot_at (levels_below n) w).home ≡ w
level_home zero w h = absurd (omega (arith, h))
level_home (suc n) w h = home_at n w (λ lt. level_home n w lt) (less_or n w h)

rank_at : (n w : ℕ) → (w < n → (slot_at (levels_below n) w).rank ≡ w) → (w < n) ⊎ (w ≡ n) → (slot_at (levels_below (suc n)) w).rank ≡ w
rank_at n w old (inl lt) = ap (λ (s : Slot). s.rank) (get_or-append (levels_below n).slots (level_slot n ∷ []) none_slot w (omega (arith, lt, slot_count n))) ∙ old lt
rank_at n w old (inr e) = ap (λ (s : Slot). s.rank) (get_or_push (levels_below n).slots (level_slot n) none_slot w (omega (arith, e, slot_count n))) ∙ sym e

level_rank : (n w : ℕ) → w < n → (slot_at (levels_below n) w).rank ≡ w
level_rank zero w h = absurd (omega (arith, h))
level_rank (suc n) w h = rank_at n w (λ lt. level_rank n w lt) (less_or n w h)

rank_least : (n w : ℕ) → n ≤ LEVELS → (slot_at (levels_below n) w).rank < LEVELS
rank_least zero w h = omega arith
rank_least (suc n) w h = push_keeps (λ (s : Slot). s.rank < LEVELS) (levels_below n).slots (level_slot n) none_slot w (omega (arith, h)) (rank_least n w (omega (arith, h)))

-- ---- what they keep

-- without rows and stays
abbrev bare : Lists → Lists
bare t = record {
  rows = [];
  stays = [];
  slots = t.slots;
  standings = t.standings;
  matrix = t.matrix;
  attr_slots = t.attr_slots;
  row_slots = t.row_slots;
  priorities = t.priorities;
}

levels_bare : (n : ℕ) → levels_below n ≡ bare (levels_below n)
levels_bare zero = refl
levels_bare (suc n) = ap (with_level n) (levels_bare n)

abbrev nothing : Problem
nothing = record { rows = []; stays = [] }

abbrev ones : Point
ones = record { num = λ c. pos 1; positive = record { lt = tt } }

nothing_stands : StandsAt nothing [] ones
nothing_stands = ((λ k x lt. absurd (omega (arith, lt))), (λ k x lt. absurd (omega (arith, lt))))

nothing_corner : IsCorner nothing []
nothing_corner = record {
  count = refl;
  marks = λ k x lt. absurd (omega (arith, lt));
  apart = λ i j d lt within. absurd (omega (arith, within));
  point = ones;
  stands = nothing_stands;
  marks_fixed = λ y s k x lt. absurd (omega (arith, lt));
  attrs_fixed = λ y s k x lt. absurd (omega (arith, lt));
}

nothing_whole : IsWhole nothing
nothing_whole = record {
  rows = λ k x lt. absurd (omega (arith, lt));
  stays = λ k x lt. absurd (omega (arith, lt));
  rising = λ i j d lt within. absurd (omega (arith, within));
  apart = λ i j d lt within. absurd (omega (arith, within));
  covered = λ k x lt. absurd (omega (arith, lt));
  row_count = omega arith;
  stay_count = omega arith;
}

nothing_cost : (k : ℕ) → IsCostAt nothing [] k zero_fraction
nothing_cost k = (ones, nothing_stands, refl)

nothing_numbers : (t : Lists) (k : ℕ) → HasLevelNumbers (bare t) k 1 1
nothing_numbers t k =
    let row = (empty_level_has_row nothing [] k (λ k x lt. absurd (omega (arith, lt)))).1 in
    record {
      by = row.by;
      reduced = λ c. pos 0;
      row = row.row;
      outside = λ k x lt. absurd (omega (arith, lt));
      reduced_by = record { under = λ k x lt. absurd (omega (arith, lt)); over = λ k x lt. absurd (omega (arith, lt)) };
      fits = record {
        scale_fits = omega arith;
        times_fit = λ k x lt. absurd (omega (arith, lt));
        reduced_fit = λ s k x lt. absurd (omega (arith, lt));
      };
    }

bare_level : (t : Lists) (k : ℕ) → row_at t k ≡ [] → standing_at t k ≡ none_standing → priority_at t k ≡ none_priority → IsLevelKept (bare t) k
bare_level t k row standing priority = record {
  unit = 1;
  own = 1;
  unit_is = ap (λ (s : Priority). s.unit) priority;
  own_is = subst (λ (s : Priority). cond (nat_eq s.rows 0) (pos 1) (entry t k k) ≡ pos 1) (sym priority) refl;
  rows = ap (λ (s : Priority). s.rows) priority;
  empty = λ e. row;
  least = (empty_level_has_row nothing [] k (λ k x lt. absurd (omega (arith, lt)))).0;
  numbers = nothing_numbers t k;
  cost = subst (λ (s : Standing). IsCostAt nothing [] k s.value) (sym standing) (nothing_cost k);
}

-- what is asked of slots
record AreLevels (n : ℕ) (t : Lists) : Type 0 where
  slots : length t.slots ≡ n
  standings : length t.standings ≡ n
  matrix : length t.matrix ≡ n
  priorities : length t.priorities ≡ n
  row : (w : ℕ) → row_at t w ≡ []
  standing : (w : ℕ) → standing_at t w ≡ none_standing
  priority : (w : ℕ) → priority_at t w ≡ none_priority
  owner : (w : ℕ) → (slot_at t w).owner ≡ LevelSlot
  home : (w : ℕ) → w < n → (slot_at t w).home ≡ w
  rank : (w : ℕ) → w < n → (slot_at t w).rank ≡ w
  least : (w : ℕ) → (slot_at t w).rank < LEVELS

bare_slots : (n : ℕ) (t : Lists) → n ≡ LEVELS → AreLevels n t → AreSlots (bare t)
bare_slots n t e h = record {
  standings = h.standings ∙ sym h.slots;
  matrix = h.matrix ∙ sym h.slots;
  levels = omega (arith, e, h.slots);
  room = λ k x lt. absurd (omega (arith, lt));
  priorities = h.priorities ∙ e;
  attrs = λ k x lt. absurd (omega (arith, lt));
  lines = λ k x lt. absurd (omega (arith, lt));
  owners = λ w s. absurd (omega (arith, s, e, h.slots));
  level_owners = λ w lt. h.owner w;
  level_homes = λ w lt. h.home w (omega (arith, lt, e));
  level_ranks = λ w lt. h.rank w (omega (arith, lt, e));
  stay_ranks = λ k x lt. absurd (omega (arith, lt));
  stays_rise = λ i j d lt within. absurd (omega (arith, within));
  ranks = λ w. let low = h.least w in omega (arith, low);
  own_last = λ v w lt one two own. let low = h.least v in absurd (omega (arith, low, own));
}

bare_kept : (n : ℕ) (t : Lists) → n ≡ LEVELS → AreLevels n t → IsKept (bare t)
bare_kept n t e h = record {
  whole = nothing_whole;
  corner = nothing_corner;
  rays = λ c i out. absurd (omega (arith, i.2));
  slots = bare_slots n t e h;
  stored = record { few = omega (arith, e, h.slots); empty = λ w high free. h.row w };
  matrix = λ k x lt. subst IsKeptRow (sym (get_or_default t.matrix k x [] lt ∙ h.row k)) none_kept;
  values = λ k x lt. subst (λ (s : Standing). fractions.IsKept s.value) (sym (get_or_default t.standings k x none_standing lt ∙ h.standing k)) zero_kept;
  attrs = λ k x lt. absurd (omega (arith, lt));
  lines = λ k x lt. absurd (omega (arith, lt));
  outside = λ w c ne other. absurd (ne (ap (coefficient c) (h.row w)));
  levels = λ k lt. bare_level t k (h.row k) (h.standing k) (h.priority k);
  stay_levels = λ k x lt. absurd (omega (arith, lt));
}

are_levels : (n : ℕ) → n ≤ LEVELS → AreLevels n (levels_below n)
are_levels n few = record {
  slots = slot_count n;
  standings = standing_count n;
  matrix = matrix_count n;
  priorities = priority_count n;
  row = level_row n;
  standing = level_standing n;
  priority = level_priority n;
  owner = level_owner n;
  home = level_home n;
  rank = level_rank n;
  least = λ w. rank_least n w few;
}

pub levels_kept : (n : ℕ) → n ≡ LEVELS → IsKept (levels_below n)
levels_kept n e = subst IsKept (sym (levels_bare n)) (bare_kept n (levels_below n) e (are_levels n (omega (arith, e))))

pub levels_rows : (n : ℕ) → (levels_below n).rows ≡ []
levels_rows n = ap (λ (t : Lists). t.rows) (levels_bare n)

pub levels_stays : (n : ℕ) → (levels_below n).stays ≡ []
levels_stays n = ap (λ (t : Lists). t.stays) (levels_bare n)

abbrev made : ℤ → ℕ → Fraction
made a c = record { num = a; den = c }

pub zero_is : (f : Fraction) → f.num ≡ pos 0 → f.den ≡ 1 → f ≡ zero_fraction
zero_is f n d = ap (λ z. made z f.den) n ∙ ap (λ k. made (pos 0) k) d
