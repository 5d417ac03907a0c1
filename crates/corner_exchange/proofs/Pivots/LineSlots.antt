-- Attributes and inside lines in whose rows the entering line stands.
use Rattle.std.proofs.Common.{◌≡◌, ◌≢◌, ◌∙◌, ℕ, ◌<◌, ◌≤◌, ◌⊎◌, inl, inr, Result, Ok, Err, IfOk, IfErr, ◌+ℤ◌, List, [], length, refl, sym, ap, ap₂, subst, arith, ℤ, pos, neg_ℤ, ◌*ℤ◌, ◌<ℤ◌, unsigned_abs, Some, None, get_or}
use Rattle.std.specs.declared.option.Option.{Option}
use borrow.Author.Differences.{ints}
use Rattle.frac_core.specs.Fraction.{Fraction, IsFitting, IsLowest, IsRatio, IsUnfitRatio, sum_den, sum_num}
use Rattle.row_core.specs.Rows.{Term, coefficient, combination, IsLowestRow, IsReduced, IsUnfit}
use Rattle.row_core.proofs.Places.{coefficient_at}
use Rattle.row_core.proofs.Lowest.{reduced_same, unfit_same}
use Rattle.std.proofs.lemmas.Option.{unwrap_or-slice_get}
use Rattle.std.specs.Prelude.{slice_get, slice_index_or}
use Rattle.std.specs.Option.{unwrap_or}
use Rattle.version_lists.specs.Matrices.{IsBelow}
use Rattle.problem_core.specs.declared.parts.Mark.{Mark}
use Rattle.problem_core.specs.declared.parts.RowName.{RowName}
use Rattle.problem_core.specs.declared.parts.RowName.TheVariants.{Stay as StayOf}
use Rattle.problem_core.specs.declared.parts.Side.{Side}
use Rattle.problem_core.specs.declared.parts.Side.TheVariants.{Over}
use Rattle.problem_core.specs.declared.parts.Level.TheVariants.{Stay as StayLevel}
use Rattle.problem_core.specs.declared.stops.What.{What}
use Rattle.problem_core.specs.declared.stops.What.TheVariants.{Attr as AttrOf, Mark as MarkOf, Level as LevelOf}
use Rattle.problem_core.specs.Layout.{HasStay, lines}
use Rattle.problem_core.specs.Corners.{IsIn, Swap, attr_column, place, place_of}
use Rattle.problem_core.specs.Unfit.{HasNoWriting, IsUnfitWhat}
use Rattle.corner_lines.specs.LineEquations.{IsLineEquation, deviation, sign_of}
use Rattle.corner_lines.proofs.Lines.LineUnfits.{mark_has_none}
use Rattle.corner_exchange.specs.declared.exchange.Pivot.{Pivot}
use Rattle.corner_writings.specs.declared.levels.Pair.{Pair}
use Rattle.corner_view.specs.declared.types.Owner.{Owner}
use Rattle.corner_view.specs.declared.types.Owner.TheVariants.{Level as LevelSlot, Attr as AttrSlot, Line as LineSlot}
use Rattle.corner_table.specs.declared.table.TheConstants.{LEVELS}
use Rattle.corner_table.specs.Tables.{Lists, attr_slot, entry, line_slot, marks_at, number, problem_of, row_at, sign_of_what, slot_at, standing_at}
use Rattle.corner_table.specs.Kept.{IsEquationAt, IsKept, IsLineRow, IsOwned, IsSlot, IsStayOwner}
use Rattle.corner_view.specs.Seen.{IsNamed}
use Rattle.corner_writings.proofs.Readings.FreeSlots.{not_free}
use Rattle.corner_exchange.specs.Swaps.Exchanges.{AreOutsideAfter, IsChangeOf, IsEntering, IsEquationBy, IsOutsideAfter, IsOwnerRow, IsPair, IsWhatOf, IsWhatAt, marks_after, moved, moved_by, IsPivotAt, IsValueAfter, signed}
use Rattle.corner_table.specs.Kept.{IsOutsideSlot}
use Rattle.corner_writings.specs.Rows.{row_number}
use Rattle.corner_table.proofs.Readings.SlotFacts.{any_is, named_slot}
use Rattle.corner_view.proofs.Facts.{same_mark}
use Rattle.corner_table.proofs.Readings.MarkFacts.{stands_inside}
use Rattle.corner_table.proofs.Readings.ReadFacts.{attr_equation, inside_equation}
use Rattle.corner_table.proofs.Basics.OwnerFacts.{line-owned}
use Rattle.corner_exchange.proofs.Pivots.PairFacts.{named_mark, pair_exchange, pair_rays, side-stands}
use Rattle.corner_exchange.proofs.Pivots.PivotFacts.{enter_owner, leave_within}
use Rattle.corner_table.proofs.Basics.OwnerFacts.{stay_owner}
use Rattle.corner_exchange.proofs.Basics.SumTurns.{turn, turn-lowest}
use Rattle.std.proofs.lemmas.Bool.{cases_eq}
use Rattle.frac_core.proofs.Integers.{zero_from_mul}
use Rattle.corner_exchange.proofs.Pivots.LineChanges.{IsMoving, IsNoOutside, moved_columns, moved_equation, moved_unfit, stay_unfit}
use Rattle.frac_core.proofs.Numbers.{one-times}
use Rattle.problem_core.proofs.Marks.{kept-in as kept_in}

-- ---- slots without a row

outside-row : (t : Lists) (c : ℕ) → IsKept t → IsOutsideSlot t c → row_at t c ≡ []
outside-row t c kept (slot, none, (name, owner)) =
    let owned = line-owned t c name kept.slots owner in
    let side : (standing_at t (line_slot t name)).side ≡ None = ap (λ w. (standing_at t w).side) owned.1 ∙ none in
    let row : IsLineRow t name (standing_at t (line_slot t name)).side =
    any_is (λ l. IsLineRow t l.name (standing_at t (line_slot t l.name)).side) (λ l. l.name ≡ name) (lines (problem_of t)) kept.lines owned.0
    (λ l h e. subst (λ (n : RowName). IsLineRow t n (standing_at t (line_slot t n)).side) e h) in
    let empty : IsLineRow t name None = subst (λ (o : Option Side). IsLineRow t name o) side row in
    ap (row_at t) (sym owned.1) ∙ empty.0

pub stands_apart : (t : Lists) (w c : ℕ) → IsKept t → entry t w c ≢ pos 0 → IsNoOutside t w
stands_apart t w c kept some outside = some (ap (coefficient c) (outside-row t w kept outside))

pub enter_outside : (t : Lists) (pair : Pair) (s : Swap) → IsKept t → IsPair t pair s → IsOutsideSlot t pair.enter
enter_outside t pair s kept are =
    (subst (IsSlot t) are.enter_slot (named_slot t s.enter.row kept.slots are.enters), are.outside, (s.enter.row, enter_owner t pair s kept.slots are))

-- ---- what a slot is of

abbrev pub side_of_what : What → Side
side_of_what (AttrOf attr) = Over
side_of_what (MarkOf m) = m.side
side_of_what (LevelOf level) = Over

pub what_sign : (what : What) → sign_of_what what ≡ sign_of (side_of_what what)
what_sign (AttrOf attr) = refl
what_sign (MarkOf m) = refl
what_sign (LevelOf level) = refl

-- the equation of what the slot is of, and what follows from one at the next corner
pub record HasMoving (t : Lists) (pair : Pair) (s : Swap) (w : ℕ) (what : What) : Type 0 where
  pub quantity : (ℕ → ℤ) → ℤ
  pub own : ℕ
  pub moving : IsMoving t pair w quantity own (side_of_what what)
  pub row_is : (row : List Term) (f : Fraction) → IsEquationBy t (marks_after t s) quantity w row (sign_of (side_of_what what) *ℤ f.num) f.den
      → IsOwnerRow t (marks_after t s) w (slot_at t w).owner (standing_at t w).side row f
  pub unfit : HasNoWriting (problem_of t) (marks_after t s) quantity → IsUnfitWhat (problem_of t) (marks_after t s) what

attr-moving : (t : Lists) (pair : Pair) (s : Swap) (w attr : ℕ) → IsKept t → IsPair t pair s → IsSlot t w → w ≢ pair.leave → IsNoOutside t w → (slot_at t w).owner ≡ AttrSlot attr → HasMoving t pair s w (AttrOf attr)
attr-moving t pair s w attr kept are slot nl apart owner =
    let owned : HasStay t.stays attr × (attr_slot t attr ≡ w) = subst (λ (o : Owner). IsOwned t w o) owner (kept.slots.owners w slot) in
    let e : IsEquationAt t (λ x. x (attr_column attr)) w (standing_at t w).value.num (standing_at t w).value.den =
    subst (λ c. IsEquationAt t (λ x. x (attr_column attr)) c (standing_at t c).value.num (standing_at t c).value.den) owned.1 (attr_equation t attr kept owned.0) in
    record {
      quantity = λ x. x (attr_column attr);
      own = e.0;
      moving = record {
        apart = apart;
        not_leave = nl;
        not_enter = λ z. apart (subst (IsOutsideSlot t) (sym z) (enter_outside t pair s kept are));
        own_is = e.1;
        line = subst (λ (z : ℤ). IsLineEquation (problem_of t) (marks_at t) (λ x. x (attr_column attr)) e.0 (number t w) z (standing_at t w).value.den) (sym (one-times (standing_at t w).value.num)) e.2;
      };
      row_is = λ row f h. subst (λ (o : Owner). IsOwnerRow t (marks_after t s) w o (standing_at t w).side row f) (sym owner)
          (subst (λ (z : ℤ). IsEquationBy t (marks_after t s) (λ x. x (attr_column attr)) w row z f.den) (one-times f.num) h);
      unfit = λ h. (owned.0, h);
    }

line-moving : (t : Lists) (pair : Pair) (s : Swap) (w : ℕ) (name : RowName) (side : Side) → IsKept t → IsPair t pair s → IsSlot t w → w ≢ pair.leave → IsNoOutside t w → (slot_at t w).owner ≡ LineSlot name → (standing_at t w).side ≡ Some side
    → HasMoving t pair s w (MarkOf (record { row = name; side = side }))
line-moving t pair s w name side kept are slot nl apart owner inside =
    let owned = line-owned t w name kept.slots owner in
    let m : Mark = record { row = name; side = side } in
    let marked = named_mark t m owned.0 in
    let stands = side-stands t m (ap (λ c. (standing_at t c).side) owned.1 ∙ inside) in
    let e : IsEquationAt t (deviation name) w (sign_of side *ℤ (standing_at t w).value.num) (standing_at t w).value.den =
    subst (λ c. IsEquationAt t (deviation name) c (sign_of side *ℤ (standing_at t c).value.num) (standing_at t c).value.den) owned.1 (inside_equation t m kept marked stands) in
    let there : IsIn (place m) (marks_after t s) = kept_in s (marks_at t) (place m) (stands_inside t m marked stands)
    (λ z. nl (sym owned.1 ∙ ap (λ (k : Mark). line_slot t k.row) (same_mark m s.leave z) ∙ are.leave_slot)) in
    record {
      quantity = deviation name;
      own = e.0;
      moving = record {
        apart = apart;
        not_leave = nl;
        not_enter = λ z. apart (subst (IsOutsideSlot t) (sym z) (enter_outside t pair s kept are));
        own_is = e.1;
        line = e.2;
      };
      row_is = λ row f h. subst (λ (o : Owner). IsOwnerRow t (marks_after t s) w o (standing_at t w).side row f) (sym owner)
          (subst (λ (o : Option Side). IsOwnerRow t (marks_after t s) w (LineSlot name) o row f) (sym inside) h);
      unfit = λ h. (there, mark_has_none (problem_of t) (marks_after t s) name side kept.whole (pair_exchange t pair s kept are).corner there h);
    }

moving-what : (t : Lists) (pair : Pair) (s : Swap) (w : ℕ) (what : What) (o : Owner) (i : Option Side) → IsKept t → IsPair t pair s → IsSlot t w → w ≢ pair.leave → IsNoOutside t w → (slot_at t w).owner ≡ o → (standing_at t w).side ≡ i → IsWhatOf o i what
    → HasMoving t pair s w what
moving-what t pair s w what LevelSlot i kept are slot nl apart owner inside is = absurd is
moving-what t pair s w what (AttrSlot attr) i kept are slot nl apart owner inside is = subst (HasMoving t pair s w) (sym is) (attr-moving t pair s w attr kept are slot nl apart owner)
moving-what t pair s w what (LineSlot name) None kept are slot nl apart owner inside is = absurd is
moving-what t pair s w what (LineSlot name) (Some side) kept are slot nl apart owner inside is = subst (HasMoving t pair s w) (sym is) (line-moving t pair s w name side kept are slot nl apart owner inside)

pub moving : (t : Lists) (pair : Pair) (s : Swap) (w : ℕ) (what : What) → IsKept t → IsPair t pair s → IsSlot t w → w ≢ pair.leave → entry t w pair.enter ≢ pos 0 → IsWhatAt t w what → HasMoving t pair s w what
moving t pair s w what kept are slot nl some is =
    moving-what t pair s w what (slot_at t w).owner (standing_at t w).side kept are slot nl (stands_apart t w pair.enter kept some) refl refl is

-- what the code finds at the slot
pub what_there : (t : Lists) (w c : ℕ) (what : What) (side : Side) → IsKept t → IsSlot t w → entry t w c ≢ pos 0
    → ((r : Side) → (standing_at t w).side ≡ Some r → side ≡ r)
    → ((attr : ℕ) → (slot_at t w).owner ≡ AttrSlot attr → what ≡ AttrOf attr)
    → ((name : RowName) → (slot_at t w).owner ≡ LineSlot name → what ≡ MarkOf (record { row = name; side = side }))
    → IsWhatAt t w what
what_there t w c what side kept slot some inside attr line =
    there (slot_at t w).owner (standing_at t w).side (not_free t w c kept.stored slot.0 some) refl refl (stands_apart t w c kept some) inside attr line
  where
    there : (o : Owner) (i : Option Side) → ((slot_at t w).owner ≡ LevelSlot → ⊥) → (slot_at t w).owner ≡ o → (standing_at t w).side ≡ i → IsNoOutside t w
        → ((r : Side) → (standing_at t w).side ≡ Some r → side ≡ r)
        → ((attr : ℕ) → (slot_at t w).owner ≡ AttrSlot attr → what ≡ AttrOf attr)
        → ((name : RowName) → (slot_at t w).owner ≡ LineSlot name → what ≡ MarkOf (record { row = name; side = side }))
        → IsWhatOf o i what
    there LevelSlot i owned owner e apart inside attr line = absurd (owned owner)
    there (AttrSlot a) i owned owner e apart inside attr line = attr a owner
    there (LineSlot name) None owned owner e apart inside attr line = absurd (apart (slot, e, (name, owner)))
    there (LineSlot name) (Some r) owned owner e apart inside attr line = line name owner ∙ ap (λ (d : Side). MarkOf (record { row = name; side = d })) (inside r e)

-- ---- the change of a slot

pub moved_value : (t : Lists) (pair : Pair) (s : Swap) (w : ℕ) (what : What) → IsPair t pair s
    → moved_by t pair w what ≡ neg_ℤ ((entry t w pair.enter *ℤ sign_of s.enter.side) *ℤ sign_of (side_of_what what))
moved_value t pair s w what are = ap₂ (λ (d : Side) (z : ℤ). neg_ℤ ((entry t w pair.enter *ℤ sign_of d) *ℤ z)) (sym are.enter_side) (what_sign what)

pub own_above : (t : Lists) (pair : Pair) (s : Swap) (w : ℕ) (what : What) → HasMoving t pair s w what → pos 0 <ℤ entry t w w
own_above t pair s w what has = subst (λ (z : ℤ). pos 0 <ℤ z) (sym has.moving.own_is) (omega (arith, ints, has.moving.line.own_positive))

pub owner_row : (t : Lists) (pair : Pair) (s : Swap) (w : ℕ) (what : What) (pv : Fraction) (row : List Term) (f : Fraction) → IsKept t → IsPair t pair s → HasMoving t pair s w what → IsEntering t pair s pv
    → IsLowestRow row → IsReduced row (moved t pair w) → 0 < f.den → IsRatio f (sum_num (standing_at t w).value (moved_by t pair w what) (entry t w w) pv) (sum_den (standing_at t w).value (entry t w w) pv) → IsOwnerRow t (marks_after t s) w (slot_at t w).owner (standing_at t w).side row f
owner_row t pair s w what pv row f kept are has enters lowest red above ratio =
    has.row_is row f (moved_equation t pair s w has.quantity has.own (side_of_what what) pv (moved_by t pair w what) row f kept are has.moving enters (moved_value t pair s w what are) lowest red above
    (subst (λ (z : ℤ). IsRatio f (sum_num (standing_at t w).value (moved_by t pair w what) z pv) (sum_den (standing_at t w).value z pv)) has.moving.own_is ratio))

pub what_unfit : (t : Lists) (pair : Pair) (s : Swap) (w : ℕ) (what : What) (pv : Fraction) → IsKept t → IsPair t pair s → HasMoving t pair s w what → IsEntering t pair s pv
    → IsUnfit (moved t pair w) ⊎ IsUnfitRatio (sum_num (standing_at t w).value (moved_by t pair w what) (entry t w w) pv) (sum_den (standing_at t w).value (entry t w w) pv)
    → IsUnfitWhat (problem_of t) (marks_after t s) what
what_unfit t pair s w what pv kept are has enters unfit =
    has.unfit (moved_unfit t pair s w has.quantity has.own (side_of_what what) pv (moved_by t pair w what) kept are has.moving enters (moved_value t pair s w what are)
    (subst (λ (z : ℤ). IsUnfit (moved t pair w) ⊎ IsUnfitRatio (sum_num (standing_at t w).value (moved_by t pair w what) z pv) (sum_den (standing_at t w).value z pv)) has.moving.own_is unfit))

some-moved : (t : Lists) (pair : Pair) (w c : ℕ) (row : List Term) → (red : IsReduced row (moved t pair w)) → coefficient c row ≢ pos 0 → moved t pair w c ≢ pos 0
some-moved t pair w c row red some none = some (zero_from_mul red.factor (coefficient c row) red.above (red.same c ∙ none))

pub row_outside : (t : Lists) (pair : Pair) (w : ℕ) (row : List Term) → IsKept t → IsReduced row (moved t pair w) → AreOutsideAfter t pair w row
row_outside t pair w row kept red c some ne = moved_columns t pair w c kept (some-moved t pair w c row red some) ne

after-within : (t : Lists) (pair : Pair) (c : ℕ) → pair.leave < length t.slots → IsOutsideAfter t pair c → c < length t.slots
after-within t pair c leave (inl e) = subst (λ n. n < length t.slots) (sym e) leave
after-within t pair c leave (inr (not_enter, (slot, none, owner))) = slot.1

pub below_slots : (t : Lists) (pair : Pair) (w : ℕ) (row : List Term) → w < length t.slots → pair.leave < length t.slots → IsLowestRow row → AreOutsideAfter t pair w row → IsBelow (length t.slots) row
below_slots t pair w row here leave lowest outside = λ i d within.
    elim (cases_eq (get_or row i d).col w) [
      | inl e ↦ subst (λ n. n < length t.slots) (sym e) here
      | inr ne ↦ after-within t pair (get_or row i d).col leave (outside (get_or row i d).col (λ z. lowest.nonzero i d within (sym (coefficient_at row i d lowest.rising within) ∙ z)) ne)
    ]

inside-after : (t : Lists) (pair : Pair) (s : Swap) (w : ℕ) (name : RowName) (side : Side) → IsKept t → IsPair t pair s → w ≢ pair.leave → (slot_at t w).owner ≡ LineSlot name → (standing_at t w).side ≡ Some side
    → IsNamed (problem_of t) name × IsIn (place_of name side) (marks_after t s)
inside-after t pair s w name side kept are nl owner inside =
    let owned = line-owned t w name kept.slots owner in
    let m : Mark = record { row = name; side = side } in (
      owned.0,
      kept_in s (marks_at t) (place m) (stands_inside t m (named_mark t m owned.0) (side-stands t m (ap (λ c. (standing_at t c).side) owned.1 ∙ inside)))
          (λ z. nl (sym owned.1 ∙ ap (λ (k : Mark). line_slot t k.row) (same_mark m s.leave z) ∙ are.leave_slot)),
    )

stay-large : (t : Lists) (pair : Pair) (s : Swap) (w attr : ℕ) (row : List Term) (f : Fraction) (o : Option Side) → IsKept t → IsPair t pair s → w ≢ pair.leave → (slot_at t w).owner ≡ LineSlot (StayOf attr) → (standing_at t w).side ≡ o
    → IsOwnerRow t (marks_after t s) w (LineSlot (StayOf attr)) o row f → IsLowest f → (IsFitting (pos 2 *ℤ coefficient w row) → ⊥) → IsUnfitWhat (problem_of t) (marks_after t s) (LevelOf (StayLevel attr))
stay-large t pair s w attr row f None kept are nl owner inside is low large = absurd is
stay-large t pair s w attr row f (Some side) kept are nl owner inside is low large =
    let there = inside-after t pair s w (StayOf attr) side kept are nl owner inside in
    stay_unfit (problem_of t) (marks_after t s) attr side is.0 (row_number t w row) (turn side f) kept.whole (pair_exchange t pair s kept are).corner (pair_rays t pair s kept are) there.0 there.1 is.2 (turn-lowest side f low)
    (λ h. large (subst (λ (z : ℤ). IsFitting (pos 2 *ℤ z)) (sym is.1) h))

pub moved_large : (t : Lists) (pair : Pair) (s : Swap) (w : ℕ) (row : List Term) (f : Fraction) → IsKept t → IsPair t pair s → w ≢ pair.leave → IsOwnerRow t (marks_after t s) w (slot_at t w).owner (standing_at t w).side row f → IsLowest f
    → IsStayOwner (slot_at t w).owner → (IsFitting (pos 2 *ℤ coefficient w row) → ⊥) → (attr : ℕ) × ((slot_at t w).owner ≡ LineSlot (StayOf attr)) × IsUnfitWhat (problem_of t) (marks_after t s) (LevelOf (StayLevel attr))
moved_large t pair s w row f kept are nl is low stay large =
    let a = stay_owner (slot_at t w).owner stay in
    (a.0, a.1, stay-large t pair s w a.0 row f (standing_at t w).side kept are nl a.1 refl (subst (λ (o : Owner). IsOwnerRow t (marks_after t s) w o (standing_at t w).side row f) a.1 is) low large)

pub moved_change : (t : Lists) (pair : Pair) (s : Swap) (w : ℕ) (row : List Term) (f : Fraction) → IsKept t → IsPair t pair s → IsSlot t w → w ≢ pair.leave → entry t w pair.enter ≢ pos 0 → IsLowestRow row → IsReduced row (moved t pair w)
    → IsOwnerRow t (marks_after t s) w (slot_at t w).owner (standing_at t w).side row f → (IsStayOwner (slot_at t w).owner → IsFitting (pos 2 *ℤ coefficient w row)) → IsChangeOf t pair s (record { at = w; row = row; value = f })
moved_change t pair s w row f kept are slot nl some lowest red is room = record {
  within = slot.1;
  not_enter = λ z. stands_apart t w pair.enter kept some (subst (IsOutsideSlot t) (sym z) (enter_outside t pair s kept are));
  not_leave = nl;
  below = below_slots t pair w row slot.1 (leave_within t pair s kept.slots are) lowest (row_outside t pair w row kept red);
  outside = row_outside t pair w row kept red;
  row_is = ((λ low. let h : LEVELS ≤ w = slot.0 in absurd (omega (arith, low, h))), (λ high. (is, room)));
  some = λ low. let h : LEVELS ≤ w = slot.0 in absurd (omega (arith, low, h));
}

pub value_after : (t : Lists) (pivot : Pivot) (w : ℕ) (what : What) (a f : Fraction) (n d : ℤ) → a ≡ (standing_at t w).value → n ≡ moved_by t pivot.pair w what → d ≡ entry t w w
    → IsRatio f (sum_num a n d pivot.value) (sum_den a d pivot.value) → IsValueAfter t pivot w what f
value_after t pivot w what a f n d value number own ratio =
    subst (λ (z : ℤ). IsRatio f (sum_num (standing_at t w).value (moved_by t pivot.pair w what) z pivot.value) (sum_den (standing_at t w).value z pivot.value)) own
    (subst (λ (z : ℤ). IsRatio f (sum_num (standing_at t w).value z d pivot.value) (sum_den (standing_at t w).value d pivot.value)) number
    (subst (λ (u : Fraction). IsRatio f (sum_num u n d pivot.value) (sum_den u d pivot.value)) value ratio))

pub unfit_after : (t : Lists) (pivot : Pivot) (w : ℕ) (what : What) (a : Fraction) (n d : ℤ) → a ≡ (standing_at t w).value → n ≡ moved_by t pivot.pair w what → d ≡ entry t w w
    → IsUnfitRatio (sum_num a n d pivot.value) (sum_den a d pivot.value) → IsUnfitRatio (sum_num (standing_at t w).value (moved_by t pivot.pair w what) (entry t w w) pivot.value) (sum_den (standing_at t w).value (entry t w w) pivot.value)
unfit_after t pivot w what a n d value number own unfit =
    subst (λ (z : ℤ). IsUnfitRatio (sum_num (standing_at t w).value (moved_by t pivot.pair w what) z pivot.value) (sum_den (standing_at t w).value z pivot.value)) own
    (subst (λ (z : ℤ). IsUnfitRatio (sum_num (standing_at t w).value z d pivot.value) (sum_den (standing_at t w).value d pivot.value)) number
    (subst (λ (u : Fraction). IsUnfitRatio (sum_num u n d pivot.value) (sum_den u d pivot.value)) value unfit))

pub what_moves : (t : Lists) (pivot : Pivot) (s : Swap) (w : ℕ) (what : What) → IsKept t → IsPivotAt t pivot s → IsSlot t w → w ≢ pivot.pair.leave → entry t w pivot.pair.enter ≢ pos 0 → IsWhatAt t w what → HasMoving t pivot.pair s w what
what_moves t pivot s w what kept at slot nl some is = moving t pivot.pair s w what kept at.pair slot nl some is

pub what_stop : (t : Lists) (pivot : Pivot) (s : Swap) (w : ℕ) (what : What) → IsKept t → IsPivotAt t pivot s → IsSlot t w → w ≢ pivot.pair.leave → entry t w pivot.pair.enter ≢ pos 0 → IsWhatAt t w what
    → IsUnfit (moved t pivot.pair w) ⊎ IsUnfitRatio (sum_num (standing_at t w).value (moved_by t pivot.pair w what) (entry t w w) pivot.value) (sum_den (standing_at t w).value (entry t w w) pivot.value)
    → IsUnfitWhat (problem_of t) (marks_after t s) what
what_stop t pivot s w what kept at slot nl some is unfit = what_unfit t pivot.pair s w what pivot.value kept at.pair (moving t pivot.pair s w what kept at.pair slot nl some is) at.line unfit

pub what_row : (t : Lists) (pivot : Pivot) (s : Swap) (w : ℕ) (what : What) (row : List Term) (f : Fraction) → IsKept t → IsPivotAt t pivot s → IsSlot t w → w ≢ pivot.pair.leave → entry t w pivot.pair.enter ≢ pos 0 → IsWhatAt t w what
    → IsLowestRow row → IsReduced row (moved t pivot.pair w) → IsLowest f → IsValueAfter t pivot w what f → IsOwnerRow t (marks_after t s) w (slot_at t w).owner (standing_at t w).side row f
what_row t pivot s w what row f kept at slot nl some is lowest red low ratio = owner_row t pivot.pair s w what pivot.value row f kept at.pair (moving t pivot.pair s w what kept at.pair slot nl some is) at.line lowest red low.above ratio

-- ---- rows read

pub read_row : (rows : List (List Term)) (w : ℕ) (row : List Term) → slice_get rows w ≡ Some row → slice_index_or rows w [] ≡ row
read_row rows w row e = sym (unwrap_or-slice_get rows w []) ∙ ap (λ (o : Option (List Term)). unwrap_or o []) e

moved-is : (t : Lists) (pair : Pair) (w : ℕ) (k n : ℤ) (r p : List Term) → k ≡ pos (unsigned_abs (entry t pair.leave pair.enter)) → n ≡ neg_ℤ (signed (entry t pair.leave pair.enter) (entry t w pair.enter)) → row_at t w ≡ r → row_at t pair.leave ≡ p
    → (c : ℕ) → combination k r n p c ≡ moved t pair w c
moved-is t pair w k n r p size by here there c = ap₂ ◌+ℤ◌ (ap₂ ◌*ℤ◌ size (ap (coefficient c) (sym here))) (ap₂ ◌*ℤ◌ by (ap (coefficient c) (sym there)))

pub reduced_moved : (t : Lists) (pair : Pair) (w : ℕ) (k n : ℤ) (r p row : List Term) → k ≡ pos (unsigned_abs (entry t pair.leave pair.enter)) → n ≡ neg_ℤ (signed (entry t pair.leave pair.enter) (entry t w pair.enter)) → row_at t w ≡ r → row_at t pair.leave ≡ p
    → IsReduced row (combination k r n p) → IsReduced row (moved t pair w)
reduced_moved t pair w k n r p row size by here there red = reduced_same row (combination k r n p) (moved t pair w) (moved-is t pair w k n r p size by here there) red

pub unfit_moved : (t : Lists) (pair : Pair) (w : ℕ) (k n : ℤ) (r p : List Term) → k ≡ pos (unsigned_abs (entry t pair.leave pair.enter)) → n ≡ neg_ℤ (signed (entry t pair.leave pair.enter) (entry t w pair.enter)) → row_at t w ≡ r → row_at t pair.leave ≡ p
    → IsUnfit (combination k r n p) → IsUnfit (moved t pair w)
unfit_moved t pair w k n r p size by here there unfit = unfit_same (combination k r n p) (moved t pair w) (moved-is t pair w k n r p size by here there) unfit

pub ok_of : {A E : Type 0} (r : Result A E) (a : A) (P : A → Type 0) → r ≡ Ok a → IfOk r P → P a
ok_of r a P e h = subst (λ (x : Result _ _). IfOk x P) e h

pub err_of : {A E : Type 0} (r : Result A E) (a : E) (P : E → Type 0) → r ≡ Err a → IfErr r P → P a
err_of r a P e h = subst (λ (x : Result _ _). IfErr x P) e h
