-- The listed lines where slots are packed: `packed_listed`, `packed_names`, `packed_consistent`. A listed slot is taken,
-- since one of nothing would have the name of row 0, which is no row's.
use Rattle.std.proofs.Common.{◌≡◌, ◌≢◌, ℕ, ◌+◌, ◌++◌, List, [], ◌∷◌, map, refl, sym, ap, ap₂, subst, arith, All}
use Rattle.std.specs.List.{AllByRecursion as Each}
use Rattle.std.proofs.lemmas.List.Elements.{All-from_recursion, recursion_from_All}
use Rattle.row_core.specs.Renames.{place_in}
use Rattle.problem_core.specs.declared.parts.Mark.{Mark}
use Rattle.problem_core.specs.declared.parts.RowName.{RowName}
use Rattle.problem_core.specs.declared.parts.RowName.TheVariants.{Held}
use Rattle.problem_core.specs.declared.parts.Stay.{Stay}
use Rattle.problem_core.specs.Kept.{IsRow, IsWhole}
use Rattle.problem_core.specs.Layout.{Problem, Row, line_of_row, lines, stay_lines}
use Rattle.problem_core.proofs.RowNames.{held-same, stay-not-held}
use Rattle.corner_view.specs.declared.types.Owner.{Owner}
use Rattle.corner_table.specs.declared.table.Table.{Table}
use Rattle.corner_table.specs.Histories.{AreAlike, lists_before}
use Rattle.corner_table.specs.Invariants.{IsConsistent, IsEarlier, name_of, names_of}
use Rattle.corner_view.specs.Seen.{AreCandidates, IsNamed}
use Rattle.corner_table.specs.Tables.{Lists, lists_of, marks_at, problem_of, slot_at}
use Rattle.corner_table.specs.Kept.{IsKept, IsSlot}
use Rattle.corner_table.proofs.Readings.SlotFacts.{any_is}
use Rattle.corner_packing.specs.Packing.{ArePacked, ArePlaces, IsTaken}
use Rattle.corner_packing.proofs.PackedPlaces.{IsPacking, owner_taken, owner_there, slot_there}
use Rattle.corner_packing.proofs.PackedKept.{packed_kept, packed_marks, packed_problem}

-- ---- listed slots are taken

no-row : (p : Problem) → IsWhole p → IsNamed p (Held 0) → ⊥
no-row p whole named =
    any_is (λ l. l.name ≢ Held 0) (λ l. l.name ≡ Held 0) (lines p)
    (All-from_recursion (λ l. l.name ≢ Held 0) (lines p) (of-rows p.rows (recursion_from_All IsRow p.rows whole.rows))) named (λ l ne e. ne e)
  where
    of-stays : (level : ℕ) (stays : List Stay) → Each (λ l. l.name ≢ Held 0) (stay_lines level stays)
    of-stays level [] = tt
    of-stays level (s ∷ stays) = (stay-not-held s.attr 0, of-stays (level + 1) stays)

    of-rows : (rows : List Row) → Each IsRow rows → Each (λ l. l.name ≢ Held 0) (map line_of_row rows ++ stay_lines 1001 p.stays)
    of-rows [] are = of-stays 1001 p.stays
    of-rows (r ∷ rows) are = ((λ e. let zero_id = held-same r.id 0 e in let positive = are.0.number.0 in omega (arith, zero_id, positive)), of-rows rows are.1)

pub named_taken : (t : Lists) (w : ℕ) → IsKept t → IsNamed (problem_of t) (name_of (slot_at t w).owner) → IsTaken t w
named_taken t w kept named = owner_taken t w (λ e. no-row (problem_of t) kept.whole (subst (λ (o : Owner). IsNamed (problem_of t) (name_of o)) e named))

each-taken : (t : Lists) (listed : List ℕ) → IsKept t → Each (IsNamed (problem_of t)) (names_of t listed) → Each (IsTaken t) listed
each-taken t [] kept named = tt
each-taken t (w ∷ listed) kept named = (named_taken t w kept named.0, each-taken t listed kept named.1)

listed-taken : (t : Lists) (listed : List ℕ) → IsKept t → All (IsNamed (problem_of t)) (names_of t listed) → Each (IsTaken t) listed
listed-taken t listed kept named = each-taken t listed kept (recursion_from_All (IsNamed (problem_of t)) (names_of t listed) named)

-- ---- their places

slots-there : (places : List ℕ) (count : ℕ) (t u : Lists) (listed : List ℕ) → IsPacking places count t u → Each (IsTaken t) listed → Each (IsSlot t) listed → Each (IsSlot u) (map (λ w. place_in places w) listed)
slots-there places count t u [] f taken slots = tt
slots-there places count t u (w ∷ listed) f taken slots = (slot_there places count t u w f taken.0 slots.0, slots-there places count t u listed f taken.1 slots.1)

names-there : (places : List ℕ) (count : ℕ) (t u : Lists) (listed : List ℕ) → IsPacking places count t u → Each (IsTaken t) listed → names_of u (map (λ w. place_in places w) listed) ≡ names_of t listed
names-there places count t u [] f taken = refl
names-there places count t u (w ∷ listed) f taken = ap₂ ◌∷◌ (ap name_of (owner_there places count t u w f taken.0)) (names-there places count t u listed f taken.1)

pub packed_listed : (places : List ℕ) (count : ℕ) (old new : Lists) (listed : List ℕ) → IsKept old → ArePlaces old places count → ArePacked places count old new
    → All (IsSlot old) listed → All (IsNamed (problem_of old)) (names_of old listed) → All (IsSlot new) (map (λ w. place_in places w) listed)
packed_listed places count old new listed kept are packed slots named =
    All-from_recursion (IsSlot new) (map (λ w. place_in places w) listed)
    (slots-there places count old new listed (record { kept = kept; are = are; packed = packed }) (listed-taken old listed kept named) (recursion_from_All (IsSlot old) listed slots))

pub packed_names : (places : List ℕ) (count : ℕ) (old new : Lists) (listed : List ℕ) → IsKept old → ArePlaces old places count → ArePacked places count old new
    → All (IsSlot old) listed → All (IsNamed (problem_of old)) (names_of old listed) → names_of new (map (λ w. place_in places w) listed) ≡ names_of old listed
packed_names places count old new listed kept are packed slots named =
    names-there places count old new listed (record { kept = kept; are = are; packed = packed }) (listed-taken old listed kept named)

-- ---- all of it

pub packed_consistent : (places : List ℕ) (count : ℕ) (old new : Table) (listed : List ℕ) → IsConsistent old listed → ArePlaces (lists_of old) places count
    → ArePacked places count (lists_of old) (lists_of new) → lists_before new ≡ lists_before old → AreAlike new → IsConsistent new (map (λ w. place_in places w) listed)
packed_consistent places count old new listed is are packed before alike =
    let problem = sym (packed_problem places count (lists_of old) (lists_of new) packed) in
    let marks = sym (packed_marks places count (lists_of old) (lists_of new) is.kept are packed) in
    let names = sym (packed_names places count (lists_of old) (lists_of new) listed is.kept are packed is.slots is.named) in
    record {
      alike = alike;
      before = subst (λ (versions : List Lists). All IsEarlier versions) (sym before) is.before;
      kept = packed_kept places count (lists_of old) (lists_of new) is.kept are packed;
      slots = packed_listed places count (lists_of old) (lists_of new) listed is.kept are packed is.slots is.named;
      named = subst (λ (p : Problem). All (IsNamed p) (names_of (lists_of new) (map (λ w. place_in places w) listed))) problem
          (subst (λ (ns : List RowName). All (IsNamed (problem_of (lists_of old))) ns) names is.named);
      candidates = subst (λ (p : Problem). AreCandidates p (marks_at (lists_of new)) (names_of (lists_of new) (map (λ w. place_in places w) listed))) problem
          (subst (λ (at : List Mark). AreCandidates (problem_of (lists_of old)) at (names_of (lists_of new) (map (λ w. place_in places w) listed))) marks
          (subst (λ (ns : List RowName). AreCandidates (problem_of (lists_of old)) (marks_at (lists_of old)) ns) names is.candidates));
    }
