-- The tables while the stays move, and what is seen of them then.
use Rattle.std.proofs.Common.{◌≡◌, ◌∙◌, ℕ, zero, suc, ◌+◌, ◌-◌, ◌<◌, ◌≤◌, arith, List, map, length, refl, sym, ap, subst, inl, inr, pos, slice_index_or, All, Contains}
use Rattle.std.proofs.lemmas.List.{get_or_default}
use Rattle.problem_core.specs.Window.{zero_fraction}
use Rattle.problem_core.specs.declared.parts.Mark.{Mark}
use Rattle.problem_core.specs.declared.parts.Stay.{Stay}
use Rattle.problem_core.specs.Layout.{Problem}
use Rattle.problem_core.specs.Corners.{place}
use Rattle.corner_lines.specs.Joins.{with_stays}
use Rattle.corner_table.specs.declared.table.Table.{Table}
use Rattle.corner_view.specs.Seen.{AreCandidates, IsNamed}
use Rattle.corner_table.specs.Tables.{Lists, lists_of, marks_at, problem_of, standing_at}
use Rattle.corner_table.specs.Kept.{AreSlots, IsKept, IsSlot}
use Rattle.corner_table.specs.Histories.{HasSameHistory}
use Rattle.corner_table.specs.Invariants.{IsConsistent, IsEarlier, names_of, view_of}
use Rattle.corner_shifts.specs.Stood.{AreFirstStood, IsAtRest, IsStoodAt, stay_slot, with_moved, with_present}
use Rattle.corner_view.specs.Changes.{HasStood}
use Rattle.corner_table.proofs.Corners.HistoryFacts.{alike_same, past_same}
use Rattle.corner_view.proofs.Seen.SeenColumns.{negative_seen}
use Rattle.corner_shifts.proofs.Stays.StoodKept.{attr_same, first_slots, have_stood, named_after, seen_alike, stood_kept, stood_marks}
use Rattle.corner_lines.specs.Shifts.{AreSeenAlike}
use Rattle.corner_view.proofs.Seen.SeenLines.{marks_seen}
use Rattle.corner_shifts.proofs.Stays.StoodLists.{one_moves, one_rests}

-- ---- the loop

pub first_are_slots : (n : ℕ) (t u : Lists) → AreSlots t → AreFirstStood n t u → AreSlots u
first_are_slots n t u slots h = subst AreSlots (sym h.0) (first_slots n t u.stays u.standings slots h.1)

next_attr : (n attr : ℕ) (t u : Lists) (r : Stay) → n < length t.stays → AreFirstStood n t u → (slice_index_or u.stays n r).attr ≡ attr → (slice_index_or t.stays n r).attr ≡ attr
next_attr n attr t u r within h is = sym (attr_same n t u.stays u.standings h.1 n r within) ∙ is

pub next_stood : (n : ℕ) (t u v : Lists) → IsKept t → n < length t.stays → AreFirstStood n t u → IsStoodAt n u v → AreFirstStood (n + 1) t v
next_stood n t u v kept within h (attr, is, inl (none, same)) =
    let r : Stay = record { attr = 0; target = zero_fraction } in
    let own = next_attr n attr t u r within h (is r) in
    let there : (standing_at (with_moved u.stays u.standings t) (stay_slot t attr)).value.num ≡ pos 0 = subst (λ (w : Lists). (standing_at w (stay_slot w attr)).value.num ≡ pos 0) h.0 none in
    subst (AreFirstStood (n + 1) t) (sym same) (
      h.0,
      one_rests t n u.stays u.standings r kept within
          (subst (λ (a : ℕ). (standing_at (with_moved u.stays u.standings t) (stay_slot t a)).value.num ≡ pos 0) (sym own) there) h.1,
    )
next_stood n t u v kept within h (attr, is, inr moved) =
    let r : Stay = record { attr = 0; target = zero_fraction } in
    let own = next_attr n attr t u r within h (is r) in
    subst (AreFirstStood (n + 1) t) (sym (moved ∙ ap (λ (w : Lists). with_present w n attr) h.0))
    (refl, one_moves t n attr u.stays u.standings r kept within own h.1)

pub none_stood : (t : Lists) → IsKept t → AreFirstStood 0 t t
none_stood t kept = (
  refl,
  record {
    stay_count = refl;
    first = λ i s lt within. absurd (omega (arith, lt));
    later = λ i s from. refl;
    standing_count = refl;
    sides = λ w. refl;
    cleared = λ i s lt within. absurd (omega (arith, lt));
    others = λ w never. refl;
    values = kept.values;
  },
)

next_rests : (n : ℕ) (t u : Lists) → IsKept t → n < length t.stays → n < length u.stays → AreFirstStood n t u → IsAtRest u n → AreFirstStood (n + 1) t u
next_rests n t u kept within there h rest =
    let r : Stay = record { attr = 0; target = zero_fraction } in
    next_stood n t u u kept within h (
      (slice_index_or u.stays n r).attr,
      (λ s. ap (λ (x : Stay). x.attr) (get_or_default u.stays n s r there)),
      inl (rest r, refl),
    )

-- those from n on that stand at their targets
pub more_rest : (m n : ℕ) (t u : Lists) → IsKept t → n + m ≤ length t.stays → AreFirstStood n t u → ((i : ℕ) → n ≤ i → i < n + m → IsAtRest u i) → AreFirstStood (n + m) t u
more_rest zero n t u kept within h rest = subst (λ (k : ℕ). AreFirstStood k t u) (omega arith) h
more_rest (suc m) n t u kept within h rest =
    let some : n < length t.stays = omega (arith, within) in
    let there : n < length u.stays = subst (λ (k : ℕ). n < k) (sym h.1.stay_count) some in
    let next = next_rests n t u kept some there h (rest n (omega arith) (omega arith)) in
    subst (λ (k : ℕ). AreFirstStood k t u) (omega arith)
    (more_rest m (n + 1) t u kept (omega (arith, within)) next (λ i from to. rest i (omega (arith, from)) (omega (arith, to))))

pub all_rest : (n m : ℕ) (t u : Lists) → IsKept t → n ≤ m → m ≤ length t.stays → AreFirstStood n t u → ((i : ℕ) → n ≤ i → i < m → IsAtRest u i) → AreFirstStood m t u
all_rest n m t u kept from most h rest =
    let sum : n + (m - n) ≡ m = omega (arith, from) in
    subst (λ (k : ℕ). AreFirstStood k t u) sum
    (more_rest (m - n) n t u kept (omega (arith, sum, most)) h (λ i low lt. rest i low (omega (arith, lt, sum))))

-- ---- what is seen

pub stood_consistent : (t u : Table) (ws : List ℕ) → IsConsistent t ws → HasSameHistory t u → AreFirstStood (length t.stays.items) (lists_of t) (lists_of u) → IsConsistent u ws
stood_consistent t u ws c past h =
    let old : Lists = lists_of t in
    let new : Lists = with_moved u.stays.items u.standings.items old in
    let p : Problem = problem_of old in
    let q : Problem = with_stays u.stays.items p in
    let alike : AreSeenAlike q p = seen_alike (length t.stays.items) old u.stays.items u.standings.items h.1 in
    let marks = stood_marks old u.stays.items u.standings.items h.1 in
    let now : lists_of u ≡ new = h.0 in
    let candidates : AreCandidates q (marks_at new) (names_of old ws) =
    subst (λ (ms : List Mark). AreCandidates q ms (names_of old ws)) (sym marks)
    (λ m out negative. c.candidates m
    (subst (λ (ms : List Mark). Contains (map place ms) (place m)) (marks_seen q p alike) out.0, out.1)
    (negative_seen q p (marks_at old) m alike negative)) in
    record {
      alike = alike_same t u past c.alike;
      before = subst (All IsEarlier) (sym (past_same t u past)) c.before;
      kept = subst IsKept (sym now) (stood_kept old u.stays.items u.standings.items c.kept h.1);
      slots = subst (λ (l : Lists). All (IsSlot l) ws) (sym now) c.slots;
      named = subst (λ (l : Lists). All (IsNamed (problem_of l)) (names_of l ws)) (sym now)
          (λ k x lt. named_after (length t.stays.items) old u.stays.items u.standings.items h.1 (slice_index_or (names_of old ws) k x) (c.named k x lt));
      candidates = subst (λ (l : Lists). AreCandidates (problem_of l) (marks_at l) (names_of l ws)) (sym now) candidates;
    }

pub stood_same_marks : (t u : Lists) → AreFirstStood (length t.stays) t u → marks_at u ≡ marks_at t
stood_same_marks t u h = ap marks_at h.0 ∙ stood_marks t u.stays u.standings h.1

pub stood_names : (t u : Lists) (ws : List ℕ) → AreFirstStood (length t.stays) t u → names_of u ws ≡ names_of t ws
stood_names t u ws h = ap (λ (l : Lists). names_of l ws) h.0

pub has_stood : (t u : Table) (ws vs : List ℕ) → IsKept (lists_of t) → AreFirstStood (length t.stays.items) (lists_of t) (lists_of u) → HasStood (view_of t ws) (view_of u vs)
has_stood t u ws vs kept h =
    let stood = have_stood (lists_of t) u.stays.items u.standings.items kept h.1 in
    record {
      rows = ap (λ (l : Lists). l.rows) h.0;
      attrs = stood.same;
      targets = stood.values;
    }
