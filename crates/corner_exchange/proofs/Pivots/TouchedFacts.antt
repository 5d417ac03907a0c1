-- Levels that an exchange touches by what its lines count there.
use Rattle.std.proofs.Common.{◌≡◌, ◌≢◌, ◌∙◌, ℕ, zero, suc, ◌+◌, ◌*◌, ◌/◌, ◌<◌, ◌≤◌, ◌++◌, inl, inr, cond, nat_eq, Bool, true, false, List, [], ◌∷◌, length, get_or, refl, sym, ap, ap₂, subst, arith, ℤ, pos, neg_ℤ, ◌*ℤ◌, All, Contains, Some, Result, Ok, Err, OnOk, slice_index_or, eq-eqb, ne_eqb, not, of_z, to_z, SFits}
use Rattle.std.specs.Int.{◌∣◌}
use Rattle.std.proofs.lemmas.Bool.{cases_eq, cases_lt}
use Rattle.std.proofs.lemmas.List.{length-append}
use Rattle.std.proofs.Math.Seq.{get_or-append_seam}
use Rattle.std.proofs.lemmas.List.Elements.{All-append, All-from_recursion, recursion_from_All}
use Rattle.std.proofs.Math.Nat.{div-mul_cancel, mul-zero, zero-div, zero-mul}
use Rattle.std.specs.Int.{w64}
use Rattle.std.proofs.lemmas.Int.{to_z-of_z}
use borrow.Author.Differences.{ints}
use Rattle.row_core.specs.Rows.{Term, coefficient}
use Rattle.problem_core.specs.declared.parts.Rel.{Rel}
use Rattle.problem_core.specs.declared.parts.Rel.TheVariants.{Eq, Le, Ge}
use Rattle.problem_core.specs.declared.parts.Side.{Side}
use Rattle.problem_core.specs.declared.parts.Side.TheVariants.{Under, Over}
use Rattle.problem_core.specs.Layout.{Line, lines}
use Rattle.problem_core.specs.Certificates.{weight_at}
use Rattle.problem_core.specs.Corners.{Swap}
use Rattle.problem_core.proofs.Forms.{each-impl, each-both}
use Rattle.corner_laws.specs.Units.{over_share, under_share}
use Rattle.corner_laws.proofs.LevelCosts.LevelSizes.{no-over, no-under}
use Rattle.corner_lines.specs.LineEquations.{sign_of}
use Rattle.corner_lines.specs.Levels.LevelRows.{inside_number}
use Rattle.corner_exchange.specs.declared.exchange.Change.{Change}
use Rattle.corner_exchange.specs.declared.exchange.Exchange.{Exchange}
use Rattle.corner_exchange.specs.declared.exchange.Pivot.{Pivot}
use Rattle.corner_writings.specs.declared.levels.Pair.{Pair}
use Rattle.corner_table.specs.declared.table.Slot.{Slot}
use Rattle.corner_table.specs.declared.table.TheConstants.{LEVELS}
use Rattle.corner_table.specs.Tables.{Lists, entry, line_slot, priority_at, problem_of, slot_at, standing_at}
use Rattle.corner_table.specs.Kept.{IsKept}
use Rattle.corner_table.specs.Reads.LevelNumbers.{count_of, share_of, side_share, unit_at}
use Rattle.corner_exchange.specs.Swaps.LevelChanges.{count_by}
use Rattle.corner_exchange.specs.Swaps.Exchanges.{ArePut, IsChangeBy, IsChangeOf, IsEnteringBy, IsEnteringChange, IsExchangeOf, IsPair, IsPivotAt, IsPivotOf, IsRestUntouched, IsUntouched}
use Rattle.corner_exchange.specs.Swaps.Touched.{AreLevelsPut, CountsNothing, CountsWhereStands, IsPut}
use Rattle.corner_writings.proofs.LevelFacts.LevelNumberFacts.{IsKnown, all-known, home_is}
use Rattle.corner_writings.proofs.LevelFacts.LevelReadFacts.{same_slot}
use Rattle.corner_writings.proofs.LevelFacts.LevelRowFacts.{HasRow, priority_row}
use Rattle.corner_writings.proofs.LevelFacts.LevelWrittenFacts.{share-there}
use Rattle.corner_exchange.proofs.LevelFacts.LevelCounts.{own_slot as level-here}
use Rattle.frac_core.proofs.Numbers.{no-product as no-share}
use Rattle.frac_core.proofs.Bools.{not-both as not_both}
use Rattle.corner_writings.proofs.Basics.SmallFacts.{zero_unless as is_zero}

-- ---- a line that counts nothing in one unit counts nothing in any

zero-factor : (u w : ℕ) → 0 < u → u * w ≡ 0 → w ≡ 0
zero-factor u zero above e = refl
zero-factor zero (suc w) above e = absurd (omega (arith, above))
zero-factor (suc u) (suc w) above e = absurd (omega (arith, e))

in-any-unit : (u w k v : ℕ) → 0 < u → k ∣ u * w → u * w / k ≡ 0 → v * w / k ≡ 0
in-any-unit u w k v above d e =
    let none : u * w ≡ 0 = sym (div-mul_cancel k d) ∙ ap (λ (n : ℕ). n * k) e ∙ zero-mul k in
    ap (λ (n : ℕ). v * n / k) (zero-factor u w above none) ∙ ap (λ (n : ℕ). n / k) (mul-zero v) ∙ zero-div k

side-none : (rel : Rel) (side : Side) (n m : ℕ) → (n ≡ 0 → m ≡ 0) → side_share rel side n ≡ 0 → side_share rel side m ≡ 0
side-none Eq Under n m f e = f e
side-none Eq Over n m f e = f e
side-none Le Under n m f e = refl
side-none Le Over n m f e = f e
side-none Ge Under n m f e = f e
side-none Ge Over n m f e = refl

inside-none : (side : Side) (level unit own : ℕ) (l : Line) → side_share l.rel side (unit * weight_at l level / l.scale) ≡ 0 → inside_number side level unit own l ≡ pos 0
inside-none Under level unit own l e = ap pos (no-share own (under_share unit level l) e)
inside-none Over level unit own l e = ap (λ (n : ℕ). neg_ℤ (pos n)) (no-share own (over_share unit level l) e)

inside-elsewhere : (side : Side) (level unit own : ℕ) (l : Line) → l.level ≢ level → inside_number side level unit own l ≡ pos 0
inside-elsewhere Under level unit own l ne = ap pos (no-share own (under_share unit level l) (no-under unit level l ne))
inside-elsewhere Over level unit own l ne = ap (λ (n : ℕ). neg_ℤ (pos n)) (no-share own (over_share unit level l) (no-over unit level l ne))

unsigned-none : (n : ℕ) (side : Side) → pos n *ℤ sign_of side ≡ pos 0 → n ≡ 0
unsigned-none n Under e = omega (arith, ints, e)
unsigned-none n Over e = omega (arith, ints, e)

line-nothing : (t : Lists) (level : ℕ) (side : Side) (unit own : ℕ) (l : Line) → IsKept t → level < LEVELS → (r : HasRow t level level) → IsKnown t l → l.scale ∣ r.unit * weight_at l level → count_by t level (line_slot t l.name) side ≡ pos 0
    → inside_number side level unit own l ≡ pos 0
line-nothing t level side unit own l kept lt r known whole none =
    let slot : Slot = slot_at t (line_slot t l.name) in
    elim (cases_eq l.level level) [
      | inl e ↦
          let home : slot.home ≡ level = same_slot t slot.home level l.level level kept (home_is t l known) (level-here t level lt) e in
          let share : share_of slot (unit_at t slot.home) ≡ r.unit * weight_at l level / l.scale = share-there slot (unit_at t slot.home) l r.unit level (ap (unit_at t) home ∙ r.unit_is) known.slot.weight known.slot.scale e in
          let count : count_of t slot side ≡ side_share l.rel side (r.unit * weight_at l level / l.scale) = ap₂ (λ (q : Rel) (n : ℕ). side_share q side n) known.slot.rel share in
          let zero_there : count_of t slot side ≡ 0 = unsigned-none (count_of t slot side) side (sym (ap (λ (b : Bool). cond b (pos (count_of t slot side) *ℤ sign_of side) (pos 0)) (eq-eqb slot.home level home)) ∙ none) in
          inside-none side level unit own l
          (side-none l.rel side (r.unit * weight_at l level / l.scale) (unit * weight_at l level / l.scale)
          (λ z. in-any-unit r.unit (weight_at l level) l.scale unit r.least.above whole z) (sym count ∙ zero_there))
      | inr ne ↦ inside-elsewhere side level unit own l ne
    ]

pub counts_nothing : (t : Lists) (level w : ℕ) (side : Side) → IsKept t → level < LEVELS → count_by t level w side ≡ pos 0 → CountsNothing t w side level
counts_nothing t level w side kept lt none unit own =
    let r : HasRow t level level = priority_row t level kept lt in
    All-from_recursion (λ l. line_slot t l.name ≡ w → inside_number side level unit own l ≡ pos 0) (lines (problem_of t))
    (each-impl (λ l. IsKnown t l × (l.scale ∣ r.unit * weight_at l level)) _ (lines (problem_of t))
    (λ l h e. line-nothing t level side unit own l kept lt r h.0 h.1 (subst (λ (v : ℕ). count_by t level v side ≡ pos 0) (sym e) none))
    (each-both _ _ (lines (problem_of t)) (all-known t kept) (recursion_from_All _ (lines (problem_of t)) r.least.whole)))

pub no_zero : (z : ℤ) → z ≡ pos 0 → nat_eq (of_z w64 z) 0 ≡ false → ⊥
no_zero z e h = not_both (nat_eq (of_z w64 z) 0) (ap (λ (x : ℤ). nat_eq (of_z w64 x) 0) e) h

pub zero_by : (z : ℤ) → SFits w64 z → not (nat_eq (of_z w64 z) 0) ≡ false → z ≡ pos 0
zero_by z fits h = elim (cases_eq (of_z w64 z) 0) [
  | inl e ↦ sym (to_z-of_z w64 z fits) ∙ ap (to_z w64) e
  | inr ne ↦ absurd (not_both (not (nat_eq (of_z w64 z) 0)) (ap not (ne_eqb (of_z w64 z) 0 ne)) h)
]

-- where the line counts at its own level alone, if the entering line isn't there
pub untouched_by : (t : Lists) (enter w : ℕ) (side : Side) → IsKept t
    → ((slot_at t w).home < LEVELS → entry t (slot_at t w).home enter ≡ pos 0 → count_by t (slot_at t w).home w side ≡ pos 0) → CountsWhereStands t enter w side
untouched_by t enter w side kept h level lt none = elim (cases_eq (slot_at t w).home level) [
  | inl e ↦ counts_nothing t level w side kept lt
      (subst (λ (k : ℕ). count_by t k w side ≡ pos 0) e (h (subst (λ (k : ℕ). k < LEVELS) (sym e) lt) (subst (λ (k : ℕ). entry t k enter ≡ pos 0) (sym e) none)))
  | inr ne ↦ counts_nothing t level w side kept lt (ap (λ (b : Bool). cond b (pos (count_of t (slot_at t w) side) *ℤ sign_of side) (pos 0)) (ne_eqb (slot_at t w).home level ne))
]

pub counts_elsewhere : (t : Lists) (level w : ℕ) (side : Side) → IsKept t → level < LEVELS → (slot_at t w).home ≢ level → CountsNothing t w side level
counts_elsewhere t level w side kept lt ne = counts_nothing t level w side kept lt (ap (λ (b : Bool). cond b (pos (count_of t (slot_at t w) side) *ℤ sign_of side) (pos 0)) (ne_eqb (slot_at t w).home level ne))

-- ---- levels that have rows

-- so does one in whose row something stands
pub standing_rows : (t : Lists) (w c : ℕ) → IsKept t → w < LEVELS → entry t w c ≢ pos 0 → (priority_at t w).rows ≢ 0
standing_rows t w c kept lt some none = some (ap (λ (row : List Term). coefficient c row) ((kept.levels w lt).empty (sym (kept.levels w lt).rows ∙ none)))

-- ---- changes behind changes

pub put_last : (changes : List Change) (change : Change) → IsPut (changes ++ change ∷ []) change.at
put_last changes change = (length changes, change, (let n = length-append changes (change ∷ []) in omega (arith, n)), get_or-append_seam changes change [] change, refl)

none-put : (changes : List Change) (w : ℕ) → All (λ change. change.at ≢ w) changes → IsPut changes w → ⊥
none-put changes w none h = subst (λ (c : Change). c.at ≢ w) h.3 (none h.0 h.1 h.2) h.4

pub all_pushed : (P : Change → Type 0) (b : Bool) (changes : List Change) (change : Change) → All P changes → P change → All P (cond b (changes ++ change ∷ []) changes)
all_pushed P true changes change all here = All-append P changes (change ∷ []) all (All-from_recursion P (change ∷ []) (here, tt))
all_pushed P false changes change all here = all

pub on_ok : {A E : Type 0} (r : Result A E) (P : Type 0) → P → OnOk r P
on_ok (Ok a) P h = h
on_ok (Err e) P h = tt

pub on_ok_both : {A E : Type 0} (r : Result A E) (P Q R : Type 0) → (P → Q → R) → OnOk r P → OnOk r Q → OnOk r R
on_ok_both (Ok a) P Q R f h k = f h k
on_ok_both (Err e) P Q R f h k = tt

-- ---- the levels of the two lines

pub home_put : (t : Lists) (enter w : ℕ) (side : Side) (changes : List Change) → IsKept t → IsPut changes (slot_at t w).home → AreLevelsPut t enter w side changes
home_put t enter w side changes kept put level lt none = elim (cases_eq (slot_at t w).home level) [
  | inl e ↦ inl (subst (λ (k : ℕ). IsPut changes k) e put)
  | inr ne ↦ inr (counts_elsewhere t level w side kept lt ne)
]

pub more_put : (t : Lists) (enter w : ℕ) (side : Side) (changes more : List Change) → ((v : ℕ) → IsPut changes v → IsPut more v) → AreLevelsPut t enter w side changes → AreLevelsPut t enter w side more
more_put t enter w side changes more keeps put level lt none = elim (put level lt none) [
  | inl h ↦ inl (keeps level h)
  | inr nothing ↦ inr nothing
]

-- ---- the slots in whose rows the entering line stands

-- those before the index have their changes
pub record AreGone (t : Lists) (pivot : Pivot) (slots : List ℕ) (index : ℕ) (changes : List Change) : Type 0 where
  pub changes_by : All (IsChangeBy t pivot) changes
  pub put : (i : ℕ) → i < index → slice_index_or slots i 0 ≢ pivot.pair.leave → IsPut changes (slice_index_or slots i 0)

pub one_gone : (t : Lists) (pivot : Pivot) (slots : List ℕ) (index : ℕ) (changes more : List Change) → AreGone t pivot slots index changes → All (IsChangeBy t pivot) more → ((v : ℕ) → IsPut changes v → IsPut more v)
    → (slice_index_or slots index 0 ≢ pivot.pair.leave → IsPut more (slice_index_or slots index 0)) → AreGone t pivot slots (index + 1) more
one_gone t pivot slots index changes more gone all keeps put = record {
  changes_by = all;
  put = λ i lt ne. elim (cases_eq i index) [
    | inl e ↦ subst (λ (k : ℕ). IsPut more (slice_index_or slots k 0)) (sym e) (put (subst (λ (k : ℕ). slice_index_or slots k 0 ≢ pivot.pair.leave) e ne))
    | inr other ↦ keeps (slice_index_or slots i 0) (gone.put i (below i index lt other) ne)
  ];
}
  where
    below : (i index : ℕ) → i < index + 1 → i ≢ index → i < index
    below i index lt ne = elim (cases_lt i index) [
      | inl h ↦ h
      | inr h ↦ absurd (ne (omega (arith, lt, h)))
    ]

of-each : (P : ℕ → Type 0) (xs : List ℕ) (m : ℕ) → Contains xs m → ((j : ℕ) → j < length xs → P (slice_index_or xs j 0)) → P m
of-each P [] m (k, within, is) h = absurd (omega (arith, within))
of-each P (x ∷ xs) m (zero, within, is) h = subst P is (h 0 (omega arith))
of-each P (x ∷ xs) m (suc k, within, is) h = of-each P xs m (k, omega (arith, within), is) (λ j l. h (suc j) (omega (arith, l)))

pub all_gone : (t : Lists) (pivot : Pivot) (slots : List ℕ) (index : ℕ) (changes : List Change) → AreGone t pivot slots index changes → length slots ≤ index → ((w : ℕ) → entry t w pivot.pair.enter ≢ pos 0 → Contains slots w) → ArePut t pivot.pair changes
all_gone t pivot slots index changes gone le has w nl some =
    of-each (λ (v : ℕ). v ≢ pivot.pair.leave → IsPut changes v) slots w (has w some) (λ j lt ne. gone.put j (omega (arith, lt, le)) ne) nl

-- ---- all other slots

pub rest_untouched : (t : Lists) (pivot : Pivot) (side : Side) (changes : List Change) → IsKept t → ArePut t pivot.pair changes
    → AreLevelsPut t pivot.pair.enter pivot.pair.enter pivot.pair.side changes → AreLevelsPut t pivot.pair.enter pivot.pair.leave side changes
    → ((r : Side) → (standing_at t pivot.pair.leave).side ≡ Some r → side ≡ r) → IsRestUntouched t pivot changes
rest_untouched t pivot side changes kept put enter leave inside s at w within ne nl none =
    let absent : entry t w pivot.pair.enter ≡ pos 0 = is_zero (entry t w pivot.pair.enter) (λ some. none-put changes w none (put w nl some)) in
    record {
      absent = absent;
      comes = λ lt unit own. elim (enter w lt absent) [
        | inl h ↦ absurd (none-put changes w none h)
        | inr nothing ↦ λ i d n e. subst (λ (x : Side). inside_number x w unit own (get_or (lines (problem_of t)) i d) ≡ pos 0) (sym at.pair.enter_side) (nothing unit own i d n (ap (line_slot t) e ∙ at.pair.enter_slot))
      ];
      goes = λ lt unit own. elim (leave w lt absent) [
        | inl h ↦ absurd (none-put changes w none h)
        | inr nothing ↦ λ i d n e. subst (λ (x : Side). inside_number x w unit own (get_or (lines (problem_of t)) i d) ≡ pos 0) (inside s.leave.side at.pair.inside) (nothing unit own i d n (ap (line_slot t) e ∙ at.pair.leave_slot))
      ];
    }

-- ---- the exchange

pub made_exchange : (t : Lists) (pivot : Pivot) (made : Exchange) → pivot.pair ≡ made.pair → IsPivotOf t made.pair pivot → IsEnteringBy t pivot made.entering → All (IsChangeBy t pivot) made.changes.items → IsRestUntouched t pivot made.changes.items
    → (s : Swap) → IsPair t made.pair s → IsExchangeOf t made s
made_exchange t pivot made same of enters changes rest s are =
    let at : IsPivotAt t pivot s = of s are in
    record {
      pair = are;
      enters = subst (λ (pair : Pair). IsEnteringChange t pair s made.entering) same (enters s at);
      changes = λ i d within. subst (λ (pair : Pair). IsChangeOf t pair s (get_or made.changes.items i d)) same (changes i d within s at);
      rest = λ w within ne nl none. subst (λ (pair : Pair). IsUntouched t pair s w) same (rest s at w within (λ e. ne (e ∙ ap (λ (pair : Pair). pair.enter) same)) (λ e. nl (e ∙ ap (λ (pair : Pair). pair.leave) same)) none);
    }
