-- The stays move to the attributes' values one by one.
use Rattle.std.proofs.Common.{◌≡◌, ◌≢◌, ◌∙◌, ℕ, zero, suc, ◌+◌, ◌<◌, List, [], ◌∷◌, length, refl, sym, ap, subst, arith, inl, inr, pos, slice_index_or, slice_set, unsigned_abs, All}
use Rattle.std.proofs.lemmas.Bool.{cases_eq}
use Rattle.std.proofs.lemmas.List.{get_or_default, get_or-set_same, get_or-set_other, length-set}
use Rattle.std.proofs.lemmas.List.Elements.{All-set}
use Rattle.std.proofs.lemmas.Nat.Gcd.{dvd_refl, dvd-zero}
use Rattle.std.proofs.Math.Nat.{eq-one_of_dvd-one}
use Rattle.std.specs.Int.{◌∣◌}
use Rattle.frac_core.specs.Fraction.{Fraction}
use Rattle.frac_core.specs.Fraction as fractions
use Rattle.problem_core.specs.Window.{zero_fraction}
use Rattle.problem_core.specs.declared.parts.RowName.{RowName}
use Rattle.problem_core.specs.declared.parts.RowName.TheVariants.{Held, Stay as StayOf}
use Rattle.problem_core.specs.declared.parts.Stay.{Stay}
use Rattle.problem_core.specs.Layout.{HasStay, lines}
use Rattle.corner_view.specs.declared.types.Owner.{Owner}
use Rattle.corner_view.specs.declared.types.Owner.TheVariants.{Level as LevelSlot, Attr as AttrSlot, Line as LineSlot}
use Rattle.corner_table.specs.declared.table.Standing.{Standing}
use Rattle.corner_table.specs.declared.table.TheConstants.{LEVELS}
use Rattle.corner_table.specs.Tables.{Lists, attr_slot, line_slot, problem_of, slot_at, standing_at, stay_rank}
use Rattle.corner_table.specs.Kept.{AreSlots, IsKept, IsLineSlot}
use Rattle.corner_table.specs.Joining.{at_zero}
use Rattle.corner_shifts.specs.Stood.{HaveFirstStood, IsNoFirst, IsStoodStay, at_present, at_rest, stay_slot, with_moved}
use Rattle.corner_table.proofs.Basics.SmallFacts.{own_stay}
use Rattle.corner_table.proofs.Basics.OwnerFacts.{stay_named}
use Rattle.corner_table.proofs.Readings.KeptFacts.{zero_kept}
use Rattle.corner_table.proofs.Corners.NewTables.{less_or, zero_is}
use Rattle.corner_table.proofs.Readings.SlotFacts.{any_is, named_slot}
use Rattle.corner_table.proofs.Readings.WritingFacts.{attr_owner}

-- ---- slots of stays

pub stay_owner : (t : Lists) (attr : ℕ) → AreSlots t → HasStay t.stays attr → (slot_at t (stay_slot t attr)).owner ≡ LineSlot (StayOf attr)
stay_owner t attr h has =
    any_is (IsLineSlot t) (λ l. l.name ≡ StayOf attr) (lines (problem_of t)) h.lines (stay_named (problem_of t) attr has)
    (λ l s e. subst (λ (n : RowName). (slot_at t (line_slot t n)).owner ≡ LineSlot n) e s.owner)

abbrev kind_of : Owner → ℕ
kind_of LevelSlot = 0
kind_of (AttrSlot attr) = 1
kind_of (LineSlot name) = 2

abbrev pub attr_or : RowName → ℕ
attr_or (Held id) = 0
attr_or (StayOf attr) = attr + 1

abbrev pub line_or : Owner → ℕ
line_or LevelSlot = 0
line_or (AttrSlot attr) = 0
line_or (LineSlot name) = attr_or name

-- the slot of an attribute is no stay's
pub attr_no_stay : (t : Lists) (a b : ℕ) → AreSlots t → HasStay t.stays a → HasStay t.stays b → stay_slot t b ≢ attr_slot t a
attr_no_stay t a b h one two e =
    let k : 2 ≡ 1 = ap kind_of (sym (stay_owner t b h two) ∙ ap (λ (w : ℕ). (slot_at t w).owner) e ∙ attr_owner t a h one) in
    absurd (omega (arith, k))

-- nor is that of a row
pub held_no_stay : (t : Lists) (w id b : ℕ) → AreSlots t → HasStay t.stays b → (slot_at t w).owner ≡ LineSlot (Held id) → stay_slot t b ≢ w
held_no_stay t w id b h two own e =
    let k : b + 1 ≡ 0 = ap line_or (sym (stay_owner t b h two) ∙ ap (λ (v : ℕ). (slot_at t v).owner) e ∙ own) in
    absurd (omega (arith, k))

-- nor is that of a level
pub level_no_stay : (t : Lists) (w b : ℕ) → AreSlots t → HasStay t.stays b → w < LEVELS → stay_slot t b ≢ w
level_no_stay t w b h two lt e =
    let s = named_slot t (StayOf b) h (stay_named (problem_of t) b two) in absurd (omega (arith, s.0, e, lt))

pub first_apart : (t : Lists) (i n : ℕ) (s r : Stay) → AreSlots t → i < n → n < length t.stays → stay_slot t (slice_index_or t.stays i s).attr ≢ stay_slot t (slice_index_or t.stays n r).attr
first_apart t i n s r h lt within e =
    let less = h.stays_rise i n s lt within in
    let same : slice_index_or t.stays n s ≡ slice_index_or t.stays n r = get_or_default t.stays n s r within in
    let at = ap (λ (x : Stay). stay_rank t x.attr) same in
    let slot : stay_rank t (slice_index_or t.stays i s).attr ≡ stay_rank t (slice_index_or t.stays n r).attr = ap (λ (w : ℕ). (slot_at t w).rank) e in
    absurd (omega (arith, less, slot, at))

-- ---- at 0

pub zero_value : (f : Fraction) → fractions.IsKept f → f.num ≡ pos 0 → f ≡ zero_fraction
zero_value f kept e =
    zero_is f e (eq-one_of_dvd-one (kept.lowest.coprime.2 f.den (subst (λ (n : ℕ). f.den ∣ n) (sym (ap unsigned_abs e)) (dvd-zero f.den)) (dvd_refl f.den)))

pub kept_at : (standings : List Standing) (w : ℕ) → All (λ s. fractions.IsKept s.value) standings → fractions.IsKept (slice_index_or standings w at_zero).value
kept_at [] w h = zero_kept
kept_at (s ∷ standings) zero h = h zero s (omega arith)
kept_at (s ∷ standings) (suc w) h = kept_at standings w (λ k x lt. h (suc k) x (omega (arith, lt)))

-- ---- one by one

fewer : (t : Lists) (n w : ℕ) → IsNoFirst t (n + 1) w → IsNoFirst t n w
fewer t n w never i s lt within = never i s (omega (arith, lt)) within

pub no_first_attr : (t : Lists) (n attr : ℕ) → AreSlots t → HasStay t.stays attr → IsNoFirst t n (attr_slot t attr)
no_first_attr t n attr h has i s lt within = attr_no_stay t attr (slice_index_or t.stays i s).attr h has (own_stay t.stays i s within)

-- the next stay is where it was
next_there : (t : Lists) (n : ℕ) (stays : List Stay) (standings : List Standing) (r : Stay) → AreSlots t → n < length t.stays → HaveFirstStood n t stays standings
    → standing_at (with_moved stays standings t) (stay_slot t (slice_index_or t.stays n r).attr) ≡ standing_at t (stay_slot t (slice_index_or t.stays n r).attr)
next_there t n stays standings r slots within h = h.others (stay_slot t (slice_index_or t.stays n r).attr) (λ i s lt few. first_apart t i n s r slots lt within)

-- the next stay is at 0
pub one_rests : (t : Lists) (n : ℕ) (stays : List Stay) (standings : List Standing) (r : Stay) → IsKept t → n < length t.stays
    → (standing_at (with_moved stays standings t) (stay_slot t (slice_index_or t.stays n r).attr)).value.num ≡ pos 0
    → HaveFirstStood n t stays standings → HaveFirstStood (n + 1) t stays standings
one_rests t n stays standings r kept within none h = record {
  stay_count = h.stay_count;
  first = λ i s lt few. elim (less_or n i (omega (arith, lt))) [
    | inl less ↦ h.first i s less few
    | inr e ↦ subst (λ (k : ℕ). IsStoodStay t (slice_index_or t.stays k s) (slice_index_or stays k s)) (sym e) (here s)
  ];
  later = λ i s le. h.later i s (omega (arith, le));
  standing_count = h.standing_count;
  sides = h.sides;
  cleared = λ i s lt few. elim (less_or n i (omega (arith, lt))) [
    | inl less ↦ h.cleared i s less few
    | inr e ↦ subst (λ (k : ℕ). (standing_at (with_moved stays standings t) (stay_slot t (slice_index_or t.stays k s).attr)).value ≡ zero_fraction) (sym e) (at_nothing s)
  ];
  others = λ w never. h.others w (fewer t n w never);
  values = h.values;
}
  where
    any_default : (s : Stay) → slice_index_or t.stays n r ≡ slice_index_or t.stays n s
    any_default s = get_or_default t.stays n r s within

    before : (s : Stay) → (standing_at t (stay_slot t (slice_index_or t.stays n s).attr)).value.num ≡ pos 0
    before s = subst (λ (x : Stay). (standing_at t (stay_slot t x.attr)).value.num ≡ pos 0) (any_default s)
        (ap (λ (x : Standing). x.value.num) (sym (next_there t n stays standings r kept.slots within h)) ∙ none)

    here : (s : Stay) → IsStoodStay t (slice_index_or t.stays n s) (slice_index_or stays n s)
    here s =
        let same = h.later n s (omega arith) in
        (ap (λ (x : Stay). x.attr) same, inl (same, before s))

    at_nothing : (s : Stay) → (standing_at (with_moved stays standings t) (stay_slot t (slice_index_or t.stays n s).attr)).value ≡ zero_fraction
    at_nothing s =
        let w : ℕ = stay_slot t (slice_index_or t.stays n s).attr in
        zero_value (standing_at (with_moved stays standings t) w).value (kept_at standings w h.values)
        (ap (λ (x : Standing). x.value.num) (next_there t n stays standings s kept.slots within h) ∙ before s)

-- the next stay moves
next_moves : (t : Lists) (n : ℕ) (stays : List Stay) (standings : List Standing) (r : Stay) → IsKept t → n < length t.stays → HaveFirstStood n t stays standings
    → HaveFirstStood (n + 1) t (slice_set stays n (at_present (with_moved stays standings t) (slice_index_or t.stays n r).attr))
    (slice_set standings (stay_slot t (slice_index_or t.stays n r).attr) (at_rest (with_moved stays standings t) (stay_slot t (slice_index_or t.stays n r).attr)))
next_moves t n stays standings r kept within h = record {
  stay_count = length-set stays n x ∙ h.stay_count;
  first = λ i s lt few. elim (less_or n i (omega (arith, lt))) [
    | inl less ↦
        subst (IsStoodStay t (slice_index_or t.stays i s)) (sym (get_or-set_other stays n i x s (λ e. absurd (omega (arith, less, e))))) (h.first i s less few)
    | inr e ↦ subst (λ (k : ℕ). IsStoodStay t (slice_index_or t.stays k s) (slice_index_or (slice_set stays n x) k s)) (sym e) (here s)
  ];
  later = λ i s le. get_or-set_other stays n i x s (λ e. absurd (omega (arith, le, e))) ∙ h.later i s (omega (arith, le));
  standing_count = length-set standings w y ∙ h.standing_count;
  sides = λ v. elim (cases_eq v w) [
    | inl e ↦
        subst (λ (k : ℕ). (slice_index_or (slice_set standings w y) k at_zero).side ≡ (standing_at t k).side) (sym e)
        (ap (λ (z : Standing). z.side) (get_or-set_same standings w y at_zero below) ∙ h.sides w)
    | inr ne ↦ ap (λ (z : Standing). z.side) (get_or-set_other standings w v y at_zero ne) ∙ h.sides v
  ];
  cleared = λ i s lt few. elim (less_or n i (omega (arith, lt))) [
    | inl less ↦
        ap (λ (z : Standing). z.value)
        (get_or-set_other standings w (stay_slot t (slice_index_or t.stays i s).attr) y at_zero (first_apart t i n s r kept.slots less within))
        ∙ h.cleared i s less few
    | inr e ↦
        subst (λ (k : ℕ). (slice_index_or (slice_set standings w y) (stay_slot t (slice_index_or t.stays k s).attr) at_zero).value ≡ zero_fraction) (sym e)
        (subst (λ (z : Stay). (slice_index_or (slice_set standings w y) (stay_slot t z.attr) at_zero).value ≡ zero_fraction) (any_default s)
        (ap (λ (z : Standing). z.value) (get_or-set_same standings w y at_zero below)))
  ];
  others = λ v never. get_or-set_other standings w v y at_zero (λ e. never n r (omega arith) within (sym e)) ∙ h.others v (fewer t n v never);
  values = All-set (λ (z : Standing). fractions.IsKept z.value) standings w y zero_kept h.values;
}
  where
    attr : ℕ
    attr = (slice_index_or t.stays n r).attr

    has : HasStay t.stays attr
    has = own_stay t.stays n r within

    w : ℕ
    w = stay_slot t attr

    x : Stay
    x = at_present (with_moved stays standings t) attr

    y : Standing
    y = at_rest (with_moved stays standings t) w

    any_default : (s : Stay) → slice_index_or t.stays n r ≡ slice_index_or t.stays n s
    any_default s = get_or_default t.stays n r s within

    below : w < length standings
    below =
        let s = named_slot t (StayOf attr) kept.slots (stay_named (problem_of t) attr has) in
        omega (arith, s.1, kept.slots.standings, h.standing_count)

    here : (s : Stay) → IsStoodStay t (slice_index_or t.stays n s) (slice_index_or (slice_set stays n x) n s)
    here s =
        subst (IsStoodStay t (slice_index_or t.stays n s)) (sym (get_or-set_same stays n x s (omega (arith, within, h.stay_count))))
        (subst (λ (z : Stay). IsStoodStay t z x) (any_default s)
        (refl, inr (ap (λ (z : Standing). z.value) (h.others (attr_slot t attr) (no_first_attr t n attr kept.slots has)))))

pub one_moves : (t : Lists) (n attr : ℕ) (stays : List Stay) (standings : List Standing) (r : Stay) → IsKept t → n < length t.stays → (slice_index_or t.stays n r).attr ≡ attr
    → HaveFirstStood n t stays standings
    → HaveFirstStood (n + 1) t (slice_set stays n (at_present (with_moved stays standings t) attr)) (slice_set standings (stay_slot t attr) (at_rest (with_moved stays standings t) (stay_slot t attr)))
one_moves t n attr stays standings r kept within is h =
    subst (λ (a : ℕ). HaveFirstStood (n + 1) t (slice_set stays n (at_present (with_moved stays standings t) a)) (slice_set standings (stay_slot t a) (at_rest (with_moved stays standings t) (stay_slot t a)))) is
    (next_moves t n stays standings r kept within h)
