-- The first level at which a mark has a reduced cost.
use Rattle.std.proofs.Common.{◌≡◌, ◌≢◌, ◌∙◌, ℕ, zero, suc, ◌+◌, ◌-◌, ◌<◌, ◌≤◌, cond, Bool, List, [], ◌∷◌, length, slice_index_or, refl, sym, ap, subst, arith, inl, inr, ℤ, pos, neg_ℤ, ◌*ℤ◌, AllPairs, Contains, Some, None, IfSome, IfNone, ne_eqb}
use Rattle.std.specs.declared.option.Option.{Option}
use Rattle.std.proofs.lemmas.Bool.{cases_eq, cases_lt}
use Rattle.std.proofs.lemmas.List.Elements.{recursion_from_All}
use borrow.Author.Differences.{ints}
use Rattle.problem_core.specs.declared.parts.Side.{Side}
use Rattle.problem_core.specs.declared.parts.Side.TheVariants.{Under, Over}
use Rattle.problem_core.specs.declared.parts.RowName.TheVariants.{Stay as StayOf}
use Rattle.problem_core.specs.declared.parts.Level.{Level}
use Rattle.problem_core.specs.declared.parts.Level.TheVariants.{Priority, Stay as StayLevel}
use Rattle.problem_core.specs.Layout.{lines}
use Rattle.problem_core.specs.Levels.{IsLevelAt}
use Rattle.corner_laws.proofs.Counting.{head_pairs}
use Rattle.corner_lines.specs.LineEquations.{sign_of}
use Rattle.corner_view.specs.declared.types.Owner.TheVariants.{Line as LineSlot}
use Rattle.corner_table.specs.declared.table.TheConstants.{LEVELS}
use Rattle.corner_table.specs.Tables.{Lists, entry, level_slot, line_slot, problem_of, slot_at, standing_at}
use Rattle.corner_table.specs.Kept.{HasCost, IsKept, IsOwned, IsStayOwner}
use Rattle.corner_table.specs.Reads.LevelNumbers.{HasReducedAt, IsFirstInColumn, IsFirstSlot, IsLevelSlot, IsLevelThere, IsNoneInColumn, IsSlotOfLine, outside_times, own_cost, times_at, times_by, turned_inside}
use Rattle.corner_writings.proofs.LevelFacts.LevelNumberFacts.{home_is, named_line, slot_line}
use Rattle.corner_table.proofs.Readings.SlotFacts.{any_impl, named_slot}
use Rattle.corner_writings.proofs.LevelFacts.LevelReadFacts.{reduced_elsewhere}
use Rattle.corner_writings.proofs.LevelFacts.LevelRowFacts.{times-above, times-below}
use Rattle.corner_table.proofs.Basics.OwnerFacts.{stay_owner}
use Rattle.frac_core.proofs.Lists.{each-at, pairs-rest as tail_pairs}

-- ---- lists that rise

pub before_in : (P : ℕ → Type 0) (xs : List ℕ) (i m : ℕ) → AllPairs (λ v w. v < w) xs → i < length xs → m < slice_index_or xs i 0 → Contains xs m → ((j : ℕ) → j < i → P (slice_index_or xs j 0) → ⊥) → P m → ⊥
before_in P [] i m rise lt less c none h = omega (arith, lt)
before_in P (x ∷ xs) zero m rise lt less (zero, within, is) none h = omega (arith, less, is)
before_in P (x ∷ xs) zero m rise lt less (suc k, within, is) none h =
    let more : x < m = each-at (λ w. x < w) xs m (recursion_from_All (λ w. x < w) xs (head_pairs (λ (v w : ℕ). v < w) x xs rise)) (k, omega (arith, within), is) in
    omega (arith, less, more)
before_in P (x ∷ xs) (suc i) m rise lt less (zero, within, is) none h = none 0 (omega arith) (subst P (sym is) h)
before_in P (x ∷ xs) (suc i) m rise lt less (suc k, within, is) none h =
    before_in P xs i m (tail_pairs (λ (v w : ℕ). v < w) x xs rise) (omega (arith, lt)) less (k, omega (arith, within), is) (λ j l. none (suc j) (omega (arith, l))) h

pub none_in : (P : ℕ → Type 0) (xs : List ℕ) (m : ℕ) → Contains xs m → ((j : ℕ) → j < length xs → P (slice_index_or xs j 0) → ⊥) → P m → ⊥
none_in P [] m (k, within, is) none h = omega (arith, within)
none_in P (x ∷ xs) m (zero, within, is) none h = none 0 (omega arith) (subst P (sym is) h)
none_in P (x ∷ xs) m (suc k, within, is) none h = none_in P xs m (k, omega (arith, within), is) (λ j l. none (suc j) (omega (arith, l))) h

-- what holds of none before i and not of i's
pub none_more : (P : ℕ → Type 0) (xs : List ℕ) (i : ℕ) → ((j : ℕ) → j < i → P (slice_index_or xs j 0) → ⊥) → (P (slice_index_or xs i 0) → ⊥) → (j : ℕ) → j < i + 1 → P (slice_index_or xs j 0) → ⊥
none_more P xs i none here j lt h = elim (cases_eq j i) [
  | inl e ↦ here (subst (λ (k : ℕ). P (slice_index_or xs k 0)) e h)
  | inr ne ↦ none j (below j i lt ne) h
]
  where
    below : (j i : ℕ) → j < i + 1 → j ≢ i → j < i
    below j i lt ne = elim (cases_lt j i) [
      | inl l ↦ l
      | inr le ↦ absurd (ne (omega (arith, lt, le)))
    ]

-- ---- slots of levels

past-levels : (t : Lists) (w : ℕ) → IsKept t → IsStayOwner (slot_at t w).owner → LEVELS ≤ w
past-levels t w kept h = elim (cases_lt w LEVELS) [
  | inl lt ↦ absurd (subst IsStayOwner (kept.slots.level_owners w lt) h)
  | inr le ↦ le
]

stay-there : (t : Lists) (w attr : ℕ) → IsKept t → w < length t.slots → LEVELS ≤ w → (slot_at t w).owner ≡ LineSlot (StayOf attr) → IsLevelThere t w (StayLevel attr)
stay-there t w attr kept within le e =
    let owned : IsOwned t w (LineSlot (StayOf attr)) = subst (IsOwned t w) e (kept.slots.owners w (le, within)) in
    (named_line t (StayOf attr) kept owned.0 (λ l known q. (l.level, known.level_is attr q)), owned.1)

pub level_there : (t : Lists) (w : ℕ) (level : Level) → IsKept t → w < length t.slots → HasCost t w → (w < LEVELS → level ≡ Priority (1000 - w)) → ((attr : ℕ) → (slot_at t w).owner ≡ LineSlot (StayOf attr) → level ≡ StayLevel attr) → IsLevelThere t w level
level_there t w level kept within (inl lt) first stay = subst (λ (l : Level). IsLevelThere t w l) (sym (first lt)) ((w, omega (arith, lt)), omega (arith, lt))
level_there t w level kept within (inr h) first stay =
    let o = stay_owner (slot_at t w).owner h in
    subst (λ (l : Level). IsLevelThere t w l) (sym (stay o.0 o.1)) (stay-there t w o.0 kept within (past-levels t w kept h) o.1)

pub cost_level : (t : Lists) (w : ℕ) → IsKept t → w < length t.slots → HasCost t w → IsLevelSlot t w
cost_level t w kept within (inl lt) = (w, (Priority (1000 - w), omega (arith, lt), omega (arith, lt)))
cost_level t w kept within (inr h) =
    let o = stay_owner (slot_at t w).owner h in
    let there = stay-there t w o.0 kept within (past-levels t w kept h) o.1 in
    (there.0.0, (StayLevel o.0, there.0.1, there.1))

-- ---- where nothing stands there is no reduced cost

turned-nothing : (o : Option Side) (z : ℤ) → z ≡ pos 0 → turned_inside o (neg_ℤ z) ≡ pos 0
turned-nothing None z e = refl
turned-nothing (Some Under) z e = omega (arith, ints, e)
turned-nothing (Some Over) z e = omega (arith, ints, e)

outside-nothing : (t : Lists) (l w : ℕ) → entry t l w ≡ pos 0 → outside_times t l w ≡ pos 0
outside-nothing t l w e = elim (cases_lt l LEVELS) [
  | inl lt ↦ times-below t l w lt ∙ (let z : ℤ = entry t l w in omega (arith, ints, e))
  | inr le ↦ times-above t l w le ∙ turned-nothing (standing_at t l).side (entry t l w) e
]

times-nothing : (t : Lists) (l w : ℕ) (o : Option Side) → (slot_at t w).home ≢ l → entry t l w ≡ pos 0 → times_by t o l w ≡ pos 0
times-nothing t l w None ne e = outside-nothing t l w e
times-nothing t l w (Some side) ne e = ap (λ (b : Bool). cond b (neg_ℤ (sign_of side *ℤ own_cost t (slot_at t w) side)) (pos 0)) (ne_eqb (slot_at t w).home l ne)

signed-nothing : (side : Side) (z : ℤ) → z ≡ pos 0 → sign_of side *ℤ z ≡ pos 0
signed-nothing Under z e = omega (arith, ints, e)
signed-nothing Over z e = omega (arith, ints, e)

pub in_column : (t : Lists) (l w : ℕ) (side : Side) → (slot_at t w).home ≢ l → HasReducedAt t w side l → entry t l w ≢ pos 0
in_column t l w side ne h e = h.1 (reduced_elsewhere t l w side ne ∙ signed-nothing side (times_at t l w) (times-nothing t l w (standing_at t w).side ne e))

-- ---- the first slot

pub column_is_first : (t : Lists) (w : ℕ) (side : Side) (l : ℕ) → (HasReducedAt t w side (slot_at t w).home → ⊥) → IsFirstInColumn t w side l → IsFirstSlot t w side l
column_is_first t w side l none f = record {
  there = f.there;
  first = λ m lt h. elim (cases_eq (slot_at t w).home m) [
    | inl e ↦ none (subst (HasReducedAt t w side) (sym e) h)
    | inr ne ↦ f.first m lt (in_column t m w side ne h) h
  ];
}

pub none_at_all : (t : Lists) (w : ℕ) (side : Side) → (HasReducedAt t w side (slot_at t w).home → ⊥) → IsNoneInColumn t w side → (l : ℕ) → HasReducedAt t w side l → ⊥
none_at_all t w side none f l h = elim (cases_eq (slot_at t w).home l) [
  | inl e ↦ none (subst (HasReducedAt t w side) (sym e) h)
  | inr ne ↦ f l (in_column t l w side ne h) h
]

pub column_before_home : (t : Lists) (w : ℕ) (side : Side) (l : ℕ) → (slot_at t l).rank ≤ (slot_at t (slot_at t w).home).rank → IsFirstInColumn t w side l → IsFirstSlot t w side l
column_before_home t w side l le f = record {
  there = f.there;
  first = λ m less h. f.first m less (in_column t m w side (λ e. let same : (slot_at t (slot_at t w).home).rank ≡ (slot_at t m).rank = ap (λ (n : ℕ). (slot_at t n).rank) e in omega (arith, same, le, less)) h) h;
}

pub home_before_column : (t : Lists) (w : ℕ) (side : Side) (l : ℕ) → (slot_at t (slot_at t w).home).rank ≤ (slot_at t l).rank → HasReducedAt t w side (slot_at t w).home → IsFirstInColumn t w side l → IsFirstSlot t w side (slot_at t w).home
home_before_column t w side l not-before here f = record {
  there = here;
  first = λ m less h. f.first m (omega (arith, not-before, less)) (in_column t m w side (λ e. let same : (slot_at t (slot_at t w).home).rank ≡ (slot_at t m).rank = ap (λ (n : ℕ). (slot_at t n).rank) e in omega (arith, same, less)) h) h;
}

pub home_alone : (t : Lists) (w : ℕ) (side : Side) → HasReducedAt t w side (slot_at t w).home → IsNoneInColumn t w side → IsFirstSlot t w side (slot_at t w).home
home_alone t w side here f = record {
  there = here;
  first = λ m less h. f m (in_column t m w side (λ e. let same : (slot_at t (slot_at t w).home).rank ≡ (slot_at t m).rank = ap (λ (n : ℕ). (slot_at t n).rank) e in omega (arith, same, less)) h) h;
}

pub some_so : {X : Type 0} (P Q : X → Type 0) (o : Option X) → ((x : X) → P x → Q x) → IfSome o P → IfSome o Q
some_so P Q None f h = tt
some_so P Q (Some x) f h = f x h

pub none_so : {X : Type 0} (P Q : Type 0) (o : Option X) → (P → Q) → IfNone o P → IfNone o Q
none_so P Q None f h = f h
none_so P Q (Some x) f h = tt

-- a level's slot is one of the lists'
level-within : (t : Lists) (v k : ℕ) (level : Level) → IsKept t → IsLevelAt (problem_of t) level k → level_slot t level ≡ v → v < length t.slots
level-within t v k (Priority r) kept is e = let le = kept.slots.levels in omega (arith, is, e, le)
level-within t v k (StayLevel attr) kept is e = subst (λ n. n < length t.slots) e (named_slot t (StayOf attr) kept.slots (any_impl (λ l. (l.name ≡ StayOf attr) × (l.level ≡ k)) (λ l. l.name ≡ StayOf attr) (lines (problem_of t)) (λ l h. h.0) is)).1

pub level_within : (t : Lists) (v : ℕ) → IsKept t → IsLevelSlot t v → v < length t.slots
level_within t v kept is = level-within t v is.0 is.1.0 kept is.1.1 is.1.2

pub home_within : (t : Lists) (w : ℕ) → IsKept t → IsSlotOfLine t w → (slot_at t w).home < length t.slots
home_within t w kept is = slot_line t w kept is (λ l known e. subst (λ v. (slot_at t v).home < length t.slots) e (let h = home_is t l known in level-within t (slot_at t (line_slot t l.name)).home l.level h.0 kept h.1 h.2))
