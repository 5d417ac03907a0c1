-- What is seen of a corner when an attribute joins, and after want of memory.
use Rattle.std.proofs.Common.{◌≡◌, ◌∙◌, ℕ, zero, suc, ◌<◌, ◌≤◌, ◌⊎◌, ◌+◌, List, [], ◌∷◌, map, length, refl, sym, ap, ap₂, subst, arith, inl, inr, slice_index_or, All, pos}
use Rattle.std.proofs.lemmas.List.{get_or_past}
use Rattle.frac_core.specs.Fraction.{Fraction}
use Rattle.frac_core.specs.Fraction as fractions
use Rattle.problem_core.specs.declared.parts.Rel.TheVariants.{Eq}
use Rattle.row_core.specs.Rows.{Term}
use Rattle.problem_core.specs.declared.parts.Mark.{Mark}
use Rattle.problem_core.specs.declared.parts.Stay.{Stay}
use Rattle.problem_core.specs.declared.parts.RowName.{RowName}
use Rattle.problem_core.specs.Layout.{HasStay, Problem, Row}
use Rattle.problem_core.specs.Kept.{IsNumber}
use Rattle.corner_lines.specs.Joins.{with_attr}
use Rattle.corner_view.specs.declared.types.Owner.TheVariants.{Level as LevelSlot}
use Rattle.corner_table.specs.declared.table.Priority.{Priority}
use Rattle.corner_table.specs.declared.table.Slot.{Slot}
use Rattle.corner_table.specs.declared.table.Standing.{Standing}
use Rattle.corner_table.specs.declared.table.Table.{Table}
use Rattle.corner_view.specs.Seen.{AreCandidates, IsNamed}
use Rattle.corner_table.specs.Tables.{Lists, lists_of, marks_at, problem_of, scene_at, slot_at}
use Rattle.corner_table.specs.Kept.{IsKept}
use Rattle.corner_table.specs.Histories.{AreAlike, HasSameHistory, lists_before, side_by_side}
use Rattle.corner_table.specs.Invariants.{IsConsistent, IsEarlier, name_of, names_of}
use Rattle.corner_table.specs.Joining.{IsWithAttr, slot_of_attr, slot_of_stay}
use Rattle.corner_table.proofs.Corners.HistoryFacts.{alike_same, past_same}
use Rattle.corner.proofs.Attributes.AttrColumns.{negative_before, negative_mark}
use Rattle.corner_joins.proofs.Attributes.AttrJoins.{count_two, joined, named_more, old_slot}
use Rattle.corner_joins.proofs.Attributes.AttrLevels.{attr_kept, attr_marks, attr_problem, joined_is}
use Rattle.corner_exchange.proofs.Swaps.ListedSlots.{not_zero}
use Rattle.corner_table.proofs.Basics.SmallFacts.{below_or}

rows_marked : (rs : List (List Row)) (ss : List (List Stay)) (ls : List (List Slot)) (vs : List (List Standing)) (ms : List (List (List Term))) (bs ds : List (List ℕ)) (ps : List (List Priority)) → 0 < length (map scene_at (side_by_side rs ss ls vs ms bs ds ps)) → 0 < length rs
rows_marked [] ss ls vs ms bs ds ps h = h
rows_marked (r ∷ rs) ss ls vs ms bs ds ps h = omega arith

pub marked_rows : (t : Table) → 0 < length (map scene_at (lists_before t)) → 0 < length t.rows.before
marked_rows t h = rows_marked t.rows.before t.stays.before t.slots.before t.standings.before t.matrix.before t.attr_slots.before t.row_slots.before t.priorities.before h

-- ---- back at the newest mark

head_of : (ls : List Lists) (t : Lists) (rest : List Lists) → ls ≡ t ∷ rest → All IsEarlier ls → IsEarlier t
head_of ls t rest e h = subst (All IsEarlier) e h 0 t (omega arith)

pub back_consistent : (t : Table) (before rest : List Lists) → AreAlike t → lists_before t ≡ before → before ≡ lists_of t ∷ rest → All IsEarlier before → IsConsistent t []
back_consistent t before rest alike same head all =
    let here = head_of before (lists_of t) rest head all in
    record {
      alike = alike;
      before = subst (All IsEarlier) (sym same) all;
      kept = here.kept;
      slots = λ k x lt. absurd (omega (arith, lt));
      named = λ k x lt. absurd (omega (arith, lt));
      candidates = here.candidates;
    }

-- ---- the names of listed slots

-- a slot whose name is a line's is one of the lists'
listed_within : (t : Lists) (w : ℕ) → IsKept t → IsNamed (problem_of t) (name_of (slot_at t w).owner) → (w < length t.slots) ⊎ (length t.slots ≤ w) → w < length t.slots
listed_within t w kept named (inl lt) = lt
listed_within t w kept named (inr past) =
    absurd (not_zero (problem_of t) kept.whole (subst (λ (s : Slot). IsNamed (problem_of t) (name_of s.owner)) (get_or_past t.slots w (record { owner = LevelSlot; home = 0; rank = 0; weight = pos 1; scale = pos 1; rel = Eq }) past) named))

names_kept : (t : Lists) (attr : ℕ) (target : Fraction) (m : List (List Term)) (a : List ℕ) (ws : List ℕ) → IsKept t → All (IsNamed (problem_of t)) (names_of t ws) → names_of (joined t attr target m a) ws ≡ names_of t ws
names_kept t attr target m a [] kept named = refl
names_kept t attr target m a (w ∷ ws) kept named =
    ap₂ (λ (n : RowName) (ns : List RowName). n ∷ ns)
    (ap (λ (s : Slot). name_of s.owner) (old_slot t attr target m a w (listed_within t w kept (named zero (name_of (slot_at t w).owner) (omega arith)) (below_or w (length t.slots)))))
    (names_kept t attr target m a ws kept (λ k x lt. named (suc k) x (omega (arith, lt))))

pub attr_names : (t u : Lists) (attr : ℕ) (target : Fraction) (ws : List ℕ) → IsKept t → All (IsNamed (problem_of t)) (names_of t ws) → IsWithAttr attr target t u → names_of u ws ≡ names_of t ws
attr_names t u attr target ws kept named h = ap (λ (l : Lists). names_of l ws) (joined_is t u attr target h) ∙ names_kept t attr target u.matrix u.attr_slots ws kept named

pub attr_consistent : (t u : Table) (attr : ℕ) (target : Fraction) (ws : List ℕ) → IsConsistent t ws → HasSameHistory t u → IsNumber attr → fractions.IsKept target → (HasStay t.stays.items attr → ⊥) → length t.stays.items < 4096 → IsWithAttr attr target (lists_of t) (lists_of u) → IsConsistent u ws
attr_consistent t u attr target ws c past is_number value fresh few h =
    let p : Problem = problem_of (lists_of t) in
    let names = attr_names (lists_of t) (lists_of u) attr target ws c.kept c.named h in
    let count : length u.slots.items ≡ length t.slots.items + 2 =
    ap length h.slots ∙ count_two t.slots.items (slot_of_attr attr (length t.slots.items)) (slot_of_stay attr (length t.slots.items + 1)) in
    let problem : problem_of (lists_of u) ≡ with_attr attr target p = attr_problem (lists_of t) (lists_of u) attr target h in
    let marks : marks_at (lists_of u) ≡ marks_at (lists_of t) = attr_marks (lists_of t) (lists_of u) attr target c.kept is_number value fresh few h in
    record {
      alike = alike_same t u past c.alike;
      before = subst (All IsEarlier) (sym (past_same t u past)) c.before;
      kept = attr_kept (lists_of t) (lists_of u) attr target c.kept is_number value fresh few h;
      slots = λ k x lt. let s = c.slots k x lt in (s.0, omega (arith, s.1, count));
      named = subst (λ (ns : List RowName). All (IsNamed (problem_of (lists_of u))) ns) (sym names)
          (subst (λ (q : Problem). All (IsNamed q) (names_of (lists_of t) ws)) (sym problem) (λ k x lt. named_more p attr target (slice_index_or (names_of (lists_of t) ws) k x) (c.named k x lt)));
      candidates = subst (λ (ns : List RowName). AreCandidates (problem_of (lists_of u)) (marks_at (lists_of u)) ns) (sym names)
          (subst (λ (q : Problem). AreCandidates q (marks_at (lists_of u)) (names_of (lists_of t) ws)) (sym problem)
          (subst (λ (at : List Mark). AreCandidates (with_attr attr target p) at (names_of (lists_of t) ws)) (sym marks)
          (λ m out negative. let n = negative_before p (marks_at (lists_of t)) attr target m c.kept.whole fresh negative in c.candidates m (negative_mark p (marks_at (lists_of t)) m n, out.1) n)));
    }
