-- What the lists keep where the stays have moved to the attributes' values.
use Rattle.std.proofs.Common.{◌≡◌, ◌∙◌, ℕ, ◌+◌, ◌^◌, ◌*◌, ◌<◌, List, filter, length, refl, sym, ap, subst, arith, inl, inr, ℤ, pos, ◌+ℤ◌, ◌*ℤ◌, ◌-ℤ◌, neg_ℤ, slice_index_or, unsigned_abs, All, Some, None}
use Rattle.std.proofs.lemmas.Bool.{cases_Bool}
use Rattle.std.specs.declared.option.Option.{Option}
use Rattle.std.specs.Int.{◌∣◌}
use Rattle.std.proofs.lemmas.List.{get_or_default}
use Rattle.std.proofs.lemmas.List.Elements.{recursion_from_All}
use lib.IntN.{*ℤ_comm}
use borrow.Author.Differences.{ints}
use Rattle.frac_core.proofs.Integers.{mul-zero_ℤ, zero-mul_ℤ, zero_from_mul}
use Rattle.frac_core.specs.Fraction.{Fraction, IsFitting}
use Rattle.frac_core.specs.Fraction as fractions
use Rattle.problem_core.specs.Window.{zero_fraction}
use Rattle.problem_core.specs.declared.parts.Mark.{Mark}
use Rattle.problem_core.specs.declared.parts.Side.{Side}
use Rattle.problem_core.specs.declared.parts.Side.TheVariants.{Under, Over}
use Rattle.problem_core.specs.declared.parts.Stay.{Stay}
use Rattle.problem_core.specs.declared.parts.RowName.{RowName}
use Rattle.problem_core.specs.declared.parts.RowName.TheVariants.{Held, Stay as StayOf}
use Rattle.problem_core.specs.Layout.{HasStay, Line, Problem, coefficient, lines, value_at}
use Rattle.problem_core.specs.Kept.{IsNumber, IsStay, IsWhole}
use Rattle.problem_core.specs.Corners.{Agree, IsCorner, IsIn, Point, attr_column, equation, marks_of, one_column, place, place_of}
use Rattle.problem_core.specs.Rays.{HasRays}
use Rattle.problem_core.specs.Levels.{IsCostAt}
use Rattle.corner_laws.specs.Units.{IsLevelRow, over_share, under_share}
use Rattle.corner_laws.proofs.WrittenValues.{contains_each, nothing_outside}
use Rattle.corner_lines.specs.LineEquations.{HasValue, IsLineEquation, IsOutsideLine, deviation, sign_of}
use Rattle.corner_lines.specs.Fronts.{constantless}
use Rattle.corner_lines.specs.Levels.LevelRows.{HasLevelRow}
use Rattle.corner_lines.specs.Joins.{HaveStood, with_stays}
use Rattle.corner_lines.proofs.FrontsStay.{moved_levels_stay}
use Rattle.corner_lines.proofs.ProblemChanges.MovedStays.{attr_unmoved, held_unmoved, stay-holds, stood_corner, stood_line, stood_rays, stood_stay}
use Rattle.corner_view.specs.declared.types.Owner.{Owner}
use Rattle.corner_view.specs.declared.types.Owner.TheVariants.{Level as LevelSlot, Attr as AttrSlot, Line as LineSlot}
use Rattle.corner_table.specs.declared.table.Standing.{Standing}
use Rattle.corner_table.specs.declared.table.TheConstants.{LEVELS}
use Rattle.corner_view.specs.Seen.{IsMarkOf, IsNamed}
use Rattle.corner_table.specs.Tables.{Lists, attr_slot, entry, is_side, line_slot, marks_at, number, problem_of, slot_at, standing_at, stands_in, stay_rank}
use Rattle.corner_table.specs.Kept.{AreSlots, HasLevelNumbers, IsAttrRow, IsAttrSlot, IsEquationAt, IsKept, IsLevelKept, IsLineRow, IsLineSlot, IsOwned, home_of}
use Rattle.corner_shifts.specs.Stood.{HaveFirstStood, IsStoodStay, stay_slot, with_moved}
use Rattle.corner_table.proofs.Basics.SmallFacts.{own_name, own_stay}
use Rattle.corner_table.proofs.Basics.OwnerFacts.{stay_named}
use Rattle.corner_table.proofs.Basics.SmallFacts.{below_or}
use Rattle.corner_table.proofs.Readings.KeptFacts.{filter_same, value_kept}
use Rattle.corner_table.proofs.Readings.MarkFacts.{inside_stands}
use Rattle.corner_view.proofs.Facts.{named_in}
use Rattle.corner_table.proofs.Readings.ReadFacts.{value_attr, value_inside}
use Rattle.corner_table.proofs.Readings.SlotFacts.{any_is, named_stay}
use Rattle.corner_shifts.proofs.Stays.StoodLevels.{cost_stood}
use Rattle.corner_lines.specs.Shifts.{AreSeenAlike}
use Rattle.corner_view.proofs.Seen.SeenLines.{any_seen, each_seen, lines_alike, map_same, marks_seen, stay_line, sum_seen}
use Rattle.corner_shifts.proofs.Stays.StoodLists.{held_no_stay, level_no_stay, no_first_attr}
use Rattle.frac_core.proofs.Numbers.{as-natural as above-zero}
use Rattle.frac_core.proofs.Bools.{not-both as not_both}

-- ---- slots while the stays move

pub attr_same : (n : ℕ) (t : Lists) (stays : List Stay) (standings : List Standing) → HaveFirstStood n t stays standings → (i : ℕ) (s : Stay) → i < length t.stays → (slice_index_or stays i s).attr ≡ (slice_index_or t.stays i s).attr
attr_same n t stays standings h i s within = elim (below_or i n) [
  | inl lt ↦ (h.first i s lt within).0
  | inr le ↦ ap (λ (x : Stay). x.attr) (h.later i s le)
]

pub seen_alike : (n : ℕ) (t : Lists) (stays : List Stay) (standings : List Standing) → HaveFirstStood n t stays standings → AreSeenAlike (with_stays stays (problem_of t)) (problem_of t)
seen_alike n t stays standings h = lines_alike t.rows stays t.stays h.stay_count (attr_same n t stays standings h)

pub has_after : (n : ℕ) (t : Lists) (stays : List Stay) (standings : List Standing) → HaveFirstStood n t stays standings → (attr : ℕ) → HasStay t.stays attr → HasStay stays attr
has_after n t stays standings h attr (k, x, lt, e, is) =
    let within : k < length stays = omega (arith, lt, h.stay_count) in
    (k, slice_index_or stays k x, within, get_or_default stays k (slice_index_or stays k x) x within, attr_same n t stays standings h k x lt ∙ ap (λ (s : Stay). s.attr) e ∙ is)

pub named_after : (n : ℕ) (t : Lists) (stays : List Stay) (standings : List Standing) → HaveFirstStood n t stays standings → (name : RowName) → IsNamed (problem_of t) name → IsNamed (with_stays stays (problem_of t)) name
named_after n t stays standings h name named = any_seen (λ l. l.name ≡ name) (problem_of t) (with_stays stays (problem_of t)) (sym (seen_alike n t stays standings h)) named

owned_after : (n : ℕ) (t : Lists) (stays : List Stay) (standings : List Standing) → HaveFirstStood n t stays standings → (w : ℕ) (o : Owner) → IsOwned t w o → IsOwned (with_moved stays standings t) w o
owned_after n t stays standings h w LevelSlot own = own
owned_after n t stays standings h w (AttrSlot attr) own = (has_after n t stays standings h attr own.0, own.1)
owned_after n t stays standings h w (LineSlot name) own = (named_after n t stays standings h name own.0, own.1)

pub home_seen : (t u : Lists) (l : Line) (name : RowName) → ((n : RowName) → line_slot u n ≡ line_slot t n) → home_of u (constantless l) name ≡ home_of t l name
home_seen t u l (Held id) e = refl
home_seen t u l (StayOf attr) e = e (StayOf attr)

slot_seen : (t : Lists) (stays : List Stay) (standings : List Standing) (l : Line) → IsLineSlot t l → IsLineSlot (with_moved stays standings t) (constantless l)
slot_seen t stays standings l s = record {
  slot = s.slot;
  owner = s.owner;
  home = s.home ∙ sym (home_seen t (with_moved stays standings t) l l.name (λ n. refl));
  weight = s.weight;
  scale = s.scale;
  rel = s.rel;
}

pub slot_back : (t : Lists) (l : Line) → IsLineSlot t (constantless l) → IsLineSlot t l
slot_back t l s = record {
  slot = s.slot;
  owner = s.owner;
  home = s.home ∙ home_seen t t l l.name (λ n. refl);
  weight = s.weight;
  scale = s.scale;
  rel = s.rel;
}

pub first_slots : (n : ℕ) (t : Lists) (stays : List Stay) (standings : List Standing) → AreSlots t → HaveFirstStood n t stays standings → AreSlots (with_moved stays standings t)
first_slots n t stays standings slots h = record {
  standings = h.standing_count ∙ slots.standings;
  matrix = slots.matrix;
  levels = slots.levels;
  room = λ i s lt.
      let within : i < length t.stays = omega (arith, lt, h.stay_count) in
      subst (λ (a : ℕ). attr_slot t a + 1 < 2 ^ 32) (sym (attr_same n t stays standings h i s within)) (slots.room i s within);
  priorities = slots.priorities;
  attrs = λ i s lt.
      let within : i < length t.stays = omega (arith, lt, h.stay_count) in
      let is = slots.attrs i s within in
      subst (IsAttrSlot (with_moved stays standings t)) (sym (attr_same n t stays standings h i s within)) (record { slot = is.slot; owner = is.owner });
  lines = after;
  owners = λ w is. owned_after n t stays standings h w (slot_at t w).owner (slots.owners w is);
  level_owners = slots.level_owners;
  level_homes = slots.level_homes;
  level_ranks = slots.level_ranks;
  stay_ranks = λ i s lt.
      let within : i < length t.stays = omega (arith, lt, h.stay_count) in
      let one = ap (stay_rank t) (attr_same n t stays standings h i s within) in
      let is = slots.stay_ranks i s within in
      omega (arith, one, is);
  stays_rise = λ i k s lt within.
      let few : k < length t.stays = omega (arith, within, h.stay_count) in
      let one = ap (stay_rank t) (attr_same n t stays standings h i s (omega (arith, lt, few))) in
      let two = ap (stay_rank t) (attr_same n t stays standings h k s few) in
      let less = slots.stays_rise i k s lt few in
      omega (arith, one, two, less);
  ranks = slots.ranks;
  own_last = slots.own_last;
}
  where
    u : Lists
    u = with_moved stays standings t

    q : Problem
    q = with_stays stays (problem_of t)

    after : All (IsLineSlot u) (lines q)
    after i x lt =
        slot_back u (slice_index_or (lines q) i x)
        (each_seen (IsLineSlot u) (problem_of t) q (sym (seen_alike n t stays standings h)) (λ k y within. slot_seen t stays standings (slice_index_or (lines (problem_of t)) k y) (slots.lines k y within)) i x lt)

-- ---- the values that the stays take

-- a mark whose line is at 0
mark_rests : (t : Lists) (m : Mark) (kept : IsKept t) → IsMarkOf (problem_of t) m → (standing_at t (line_slot t m.row)).value.num ≡ pos 0 → kept.corner.point.num (place m) ≡ pos 0
mark_rests t m kept is none = elim (cases_Bool (stands_in t m)) [
  | inl e ↦
      let (y, stands, value) = value_inside t m kept is e in
      let f : Fraction = (standing_at t (line_slot t m.row)).value in
      let there : y.num (place m) ≡ pos 0 =
      zero_from_mul f.den (y.num (place m)) (value_kept t (line_slot t m.row) kept).lowest.above
      (*ℤ_comm (pos f.den) (y.num (place m)) ∙ value ∙ ap (λ (z : ℤ). z *ℤ y.num one_column) none ∙ zero-mul_ℤ (y.num one_column)) in
      let agree : Agree (place m) kept.corner.point y =
      contains_each (λ v. Agree v kept.corner.point y) (marks_of (lines (problem_of t))) (place m)
      (recursion_from_All (λ n. Agree (place n) kept.corner.point y) (marks_of (lines (problem_of t))) (kept.corner.marks_fixed y stands)) is in
      let one = above-zero (y.num one_column) y.positive in
      zero_from_mul one.0 (kept.corner.point.num (place m)) one.1
      (*ℤ_comm (pos one.0) (kept.corner.point.num (place m)) ∙ ap (λ (z : ℤ). kept.corner.point.num (place m) *ℤ z) (sym one.2) ∙ agree
      ∙ ap (λ (z : ℤ). z *ℤ kept.corner.point.num one_column) there ∙ zero-mul_ℤ (kept.corner.point.num one_column))
  | inr e ↦
      nothing_outside (problem_of t) (marks_at t) kept.corner.point (place m) kept.corner.stands is
      (λ i. not_both (stands_in t m) (inside_stands t m i) e)
]

at_target : (d : ℕ) (k u o a one : ℤ) → pos d *ℤ ((u -ℤ o) +ℤ a) ≡ k *ℤ one → u ≡ pos 0 → o ≡ pos 0 → a *ℤ pos d ≡ k *ℤ one
at_target d k u o a one e f g =
    let same : a ≡ (u -ℤ o) +ℤ a = omega (arith, ints, f, g) in
    *ℤ_comm a (pos d) ∙ ap (λ (z : ℤ). pos d *ℤ z) same ∙ e

-- the target of a stay at 0 is its attribute's value
rest_value : (t : Lists) (i : ℕ) (s : Stay) → IsKept t → i < length t.stays → (standing_at t (stay_slot t (slice_index_or t.stays i s).attr)).value.num ≡ pos 0
    → HasValue (problem_of t) (marks_at t) (λ x. x (attr_column (slice_index_or t.stays i s).attr)) (slice_index_or t.stays i s).target.num (slice_index_or t.stays i s).target.den
rest_value t i s kept within none =
    let r : Stay = slice_index_or t.stays i s in
    let p : Problem = problem_of t in
    let x : Point = kept.corner.point in
    let named : IsNamed p (StayOf r.attr) = stay_named p r.attr (own_stay t.stays i s within) in
    let rests : (side : Side) → x.num (place_of (StayOf r.attr) side) ≡ pos 0 = λ side. mark_rests t (record { row = StayOf r.attr; side = side }) kept (named_in p (StayOf r.attr) side named) none in
    let line = stay_line (λ l. value_at x.num (equation l) ≡ pos 0) p kept.corner.stands.0 i s within in (
      x,
      kept.corner.stands,
      at_target r.target.den r.target.num (x.num (place_of (StayOf r.attr) Under)) (x.num (place_of (StayOf r.attr) Over)) (x.num (attr_column r.attr)) (x.num one_column)
          (stay-holds line.0 r x.num line.1) (rests Under) (rests Over),
    )

stood_value : (t : Lists) (i : ℕ) (s r : Stay) → IsKept t → i < length t.stays → IsStoodStay t (slice_index_or t.stays i s) r → HasValue (problem_of t) (marks_at t) (λ x. x (attr_column r.attr)) r.target.num r.target.den
stood_value t i s r kept within (is, inl (same, none)) =
    subst (λ (y : Stay). HasValue (problem_of t) (marks_at t) (λ x. x (attr_column y.attr)) y.target.num y.target.den) (sym same) (rest_value t i s kept within none)
stood_value t i s r kept within (is, inr e) =
    subst (λ (a : ℕ). HasValue (problem_of t) (marks_at t) (λ x. x (attr_column a)) r.target.num r.target.den) (sym is)
    (subst (λ (f : Fraction). HasValue (problem_of t) (marks_at t) (λ x. x (attr_column (slice_index_or t.stays i s).attr)) f.num f.den) (sym e)
    (value_attr t (slice_index_or t.stays i s).attr kept (own_stay t.stays i s within)))

stood_target : (t : Lists) (i : ℕ) (s r : Stay) → IsKept t → i < length t.stays → IsStoodStay t (slice_index_or t.stays i s) r → IsStay r
stood_target t i s r kept within (is, inl (same, none)) = subst IsStay (sym same) (kept.whole.stays i s within)
stood_target t i s r kept within (is, inr e) = record {
  attr = subst IsNumber (sym is) (kept.whole.stays i s within).attr;
  target = subst fractions.IsKept (sym e) (value_kept t (attr_slot t (slice_index_or t.stays i s).attr) kept);
}

-- ---- all stays have moved

abbrev pub HaveAllStood : Lists → List Stay → List Standing → Type 0
HaveAllStood t stays standings = HaveFirstStood (length t.stays) t stays standings

pub have_stood : (t : Lists) (stays : List Stay) (standings : List Standing) → IsKept t → HaveAllStood t stays standings → HaveStood (problem_of t) (marks_at t) stays
have_stood t stays standings kept h = record {
  same = map_same (λ (s : Stay). s.attr) stays t.stays h.stay_count (attr_same (length t.stays) t stays standings h);
  positive = λ i s lt. let within : i < length t.stays = omega (arith, lt, h.stay_count) in (stood_target t i s (slice_index_or stays i s) kept within (h.first i s within within)).target.lowest.above;
  values = λ i s lt. let within : i < length t.stays = omega (arith, lt, h.stay_count) in stood_value t i s (slice_index_or stays i s) kept within (h.first i s within within);
}

pub stood_marks : (t : Lists) (stays : List Stay) (standings : List Standing) → HaveAllStood t stays standings → marks_at (with_moved stays standings t) ≡ marks_at t
stood_marks t stays standings h =
    ap (filter (stands_in (with_moved stays standings t))) (marks_seen (with_stays stays (problem_of t)) (problem_of t) (seen_alike (length t.stays) t stays standings h))
    ∙ filter_same (stands_in (with_moved stays standings t)) (stands_in t) (marks_of (lines (problem_of t))) (λ m is. ap (λ (o : Option Side). is_side o m.side) (h.sides (line_slot t m.row)))

stood_whole : (t : Lists) (stays : List Stay) (standings : List Standing) → IsKept t → HaveAllStood t stays standings → IsWhole (with_stays stays (problem_of t))
stood_whole t stays standings kept h =
    let w = kept.whole in
    let same = attr_same (length t.stays) t stays standings h in
    record {
      rows = w.rows;
      stays = λ i s lt. let within : i < length t.stays = omega (arith, lt, h.stay_count) in stood_target t i s (slice_index_or stays i s) kept within (h.first i s within within);
      rising = w.rising;
      apart = λ i k s lt within e.
          let few : k < length t.stays = omega (arith, within, h.stay_count) in
          w.apart i k s lt few (sym (same i s (omega (arith, lt, few))) ∙ e ∙ same k s few);
      covered = λ k x lt i y within. has_after (length t.stays) t stays standings h (slice_index_or (slice_index_or t.rows k x).terms i y).attr (w.covered k x lt i y within);
      row_count = w.row_count;
      stay_count = omega (arith, w.stay_count, h.stay_count);
    }

-- ---- equations

-- the marks are the same ones
at_marks : (t : Lists) (stays : List Stay) (standings : List Standing) (quantity : (ℕ → ℤ) → ℤ) (own : ℕ) (by : RowName → ℤ) (num : ℤ) (den : ℕ) → HaveAllStood t stays standings
    → IsLineEquation (with_stays stays (problem_of t)) (marks_at t) quantity own by num den → IsLineEquation (with_stays stays (problem_of t)) (marks_at (with_moved stays standings t)) quantity own by num den
at_marks t stays standings quantity own by num den h e =
    subst (λ (ms : List Mark). IsLineEquation (with_stays stays (problem_of t)) ms quantity own by num den) (sym (stood_marks t stays standings h)) e

attr_stood : (t : Lists) (stays : List Stay) (standings : List Standing) (attr : ℕ) → IsKept t → HaveAllStood t stays standings → HasStay t.stays attr → IsAttrRow t attr → IsAttrRow (with_moved stays standings t) attr
attr_stood t stays standings attr kept h has row =
    let w : ℕ = attr_slot t attr in
    let f : Fraction = (standing_at t w).value in
    let e = stood_line (problem_of t) (marks_at t) stays (λ x. x (attr_column attr)) row.0 (number t w) f.num f.den kept.whole kept.corner (have_stood t stays standings kept h) (attr_unmoved (problem_of t) attr kept.whole) row.2 in
    subst (λ (s : Standing). IsEquationAt (with_moved stays standings t) (λ x. x (attr_column attr)) w s.value.num s.value.den) (sym (h.others w (no_first_attr t (length t.stays) attr kept.slots has)))
    (row.0, row.1, at_marks t stays standings (λ x. x (attr_column attr)) row.0 (number t w) f.num f.den h e)

stay_cleared : (t : Lists) (stays : List Stay) (standings : List Standing) (attr : ℕ) → HaveAllStood t stays standings → HasStay t.stays attr → (standing_at (with_moved stays standings t) (stay_slot t attr)).value ≡ zero_fraction
stay_cleared t stays standings attr h (k, x, lt, e, is) =
    subst (λ (a : ℕ). (standing_at (with_moved stays standings t) (stay_slot t a)).value ≡ zero_fraction) (ap (λ (s : Stay). s.attr) e ∙ is) (h.cleared k x lt lt)

held_same : (t : Lists) (stays : List Stay) (standings : List Standing) (id : ℕ) → IsKept t → HaveAllStood t stays standings → IsNamed (problem_of t) (Held id) → standing_at (with_moved stays standings t) (line_slot t (Held id)) ≡ standing_at t (line_slot t (Held id))
held_same t stays standings id kept h named =
    let own : (slot_at t (line_slot t (Held id))).owner ≡ LineSlot (Held id) =
    any_is (IsLineSlot t) (λ l. l.name ≡ Held id) (lines (problem_of t)) kept.slots.lines named (λ l s e. subst (λ (n : RowName). (slot_at t (line_slot t n)).owner ≡ LineSlot n) e s.owner) in
    h.others (line_slot t (Held id)) (λ i s lt few. held_no_stay t (line_slot t (Held id)) id (slice_index_or t.stays i s).attr kept.slots (own_stay t.stays i s few) own)

line_stood : (t : Lists) (stays : List Stay) (standings : List Standing) (name : RowName) (side : Option Side) → IsKept t → HaveAllStood t stays standings → IsNamed (problem_of t) name → IsLineRow t name side → IsLineRow (with_moved stays standings t) name side
line_stood t stays standings (Held id) (Some side) kept h named row =
    let w : ℕ = line_slot t (Held id) in
    let f : Fraction = (standing_at t w).value in
    let e = stood_line (problem_of t) (marks_at t) stays (deviation (Held id)) row.0 (number t w) (sign_of side *ℤ f.num) f.den kept.whole kept.corner (have_stood t stays standings kept h) (held_unmoved (problem_of t) id) row.2 in
    subst (λ (s : Standing). IsEquationAt (with_moved stays standings t) (deviation (Held id)) w (sign_of side *ℤ s.value.num) s.value.den) (sym (held_same t stays standings id kept h named))
    (row.0, row.1, at_marks t stays standings (deviation (Held id)) row.0 (number t w) (sign_of side *ℤ f.num) f.den h e)
line_stood t stays standings (Held id) None kept h named row = (row.0, ap (λ (s : Standing). s.value) (held_same t stays standings id kept h named) ∙ row.1)
line_stood t stays standings (StayOf attr) (Some side) kept h named row =
    let w : ℕ = stay_slot t attr in
    let f : Fraction = (standing_at t w).value in
    let has = named_stay (problem_of t) attr named in
    let e = stood_stay (problem_of t) (marks_at t) stays attr row.0 (number t w) (sign_of side *ℤ f.num) f.den kept.whole kept.corner (have_stood t stays standings kept h) has row.2 in
    subst (λ (g : Fraction). IsEquationAt (with_moved stays standings t) (deviation (StayOf attr)) w (sign_of side *ℤ g.num) g.den) (sym (stay_cleared t stays standings attr h has)) (
      row.0,
      row.1,
      subst (λ (z : ℤ). IsLineEquation (with_stays stays (problem_of t)) (marks_at (with_moved stays standings t)) (deviation (StayOf attr)) row.0 (number t w) z 1) (sym (mul-zero_ℤ (sign_of side)))
          (at_marks t stays standings (deviation (StayOf attr)) row.0 (number t w) (pos 0) 1 h e),
    )
line_stood t stays standings (StayOf attr) None kept h named row = (row.0, stay_cleared t stays standings attr h (named_stay (problem_of t) attr named))

lines_stood : (t : Lists) (stays : List Stay) (standings : List Standing) → IsKept t → HaveAllStood t stays standings
    → All (λ l. IsLineRow (with_moved stays standings t) l.name (standing_at (with_moved stays standings t) (line_slot t l.name)).side) (lines (with_stays stays (problem_of t)))
lines_stood t stays standings kept h =
    each_seen (λ l. IsLineRow (with_moved stays standings t) l.name (standing_at (with_moved stays standings t) (line_slot t l.name)).side) (problem_of t) (with_stays stays (problem_of t)) (sym (seen_alike (length t.stays) t stays standings h))
    (λ k x lt.
    let name : RowName = (slice_index_or (lines (problem_of t)) k x).name in
    subst (IsLineRow (with_moved stays standings t) name) (sym (h.sides (line_slot t name)))
    (line_stood t stays standings name (standing_at t (line_slot t name)).side kept h (own_name (lines (problem_of t)) k x lt) (kept.lines k x lt)))

-- ---- levels

numbers_stood : (t : Lists) (stays : List Stay) (standings : List Standing) (k unit own : ℕ) → HaveAllStood t stays standings → HasLevelNumbers t k unit own → HasLevelNumbers (with_moved stays standings t) k unit own
numbers_stood t stays standings k unit own h n =
    let p : Problem = problem_of t in
    let q : Problem = with_stays stays p in
    let at : List Mark = marks_at t in
    let same : AreSeenAlike p q = sym (seen_alike (length t.stays) t stays standings h) in
    let marks = stood_marks t stays standings h in
    let row : IsLevelRow q at k unit own n.by = record {
      own_positive = n.row.own_positive;
      cancel = λ v. sym (sum_seen (λ l. n.by l.name *ℤ coefficient v l.form) p q same) ∙ n.row.cancel v;
      under = each_seen (λ l. IsIn (place_of l.name Under) at → n.by l.name ≡ pos (own * under_share unit k l)) p q same n.row.under;
      over = each_seen (λ l. IsIn (place_of l.name Over) at → n.by l.name ≡ neg_ℤ (pos (own * over_share unit k l))) p q same n.row.over;
      lowest = λ d div each. n.row.lowest d div (each_seen (λ l. (IsIn (place_of l.name Under) at → ⊥) → (IsIn (place_of l.name Over) at → ⊥) → d ∣ unsigned_abs (n.by l.name)) q p (sym same) each);
    } in
    let outside : All (λ l. IsOutsideLine at l.name → n.by l.name ≡ number t k l.name) (lines q) = each_seen (λ l. IsOutsideLine at l.name → n.by l.name ≡ number t k l.name) p q same n.outside in
    record {
      by = n.by;
      reduced = n.reduced;
      row = subst (λ (ms : List Mark). IsLevelRow q ms k unit own n.by) (sym marks) row;
      outside = subst (λ (ms : List Mark). All (λ l. IsOutsideLine ms l.name → n.by l.name ≡ number t k l.name) (lines q)) (sym marks) outside;
      reduced_by = record {
        under = each_seen (λ l. n.reduced (place_of l.name Under) ≡ pos (own * under_share unit k l) -ℤ n.by l.name) p q same n.reduced_by.under;
        over = each_seen (λ l. n.reduced (place_of l.name Over) ≡ pos (own * over_share unit k l) +ℤ n.by l.name) p q same n.reduced_by.over;
      };
      fits = record {
        scale_fits = n.fits.scale_fits;
        times_fit = each_seen (λ l. IsFitting (n.by l.name)) p q same n.fits.times_fit;
        reduced_fit = λ side. each_seen (λ l. IsFitting (n.reduced (place_of l.name side))) p q same (n.fits.reduced_fit side);
      };
    }

level_stood : (t : Lists) (stays : List Stay) (standings : List Standing) (k : ℕ) → IsKept t → HaveAllStood t stays standings → k < LEVELS → IsLevelKept t k → IsLevelKept (with_moved stays standings t) k
level_stood t stays standings k kept h lt l =
    let p : Problem = problem_of t in
    let q : Problem = with_stays stays p in
    let alike = seen_alike (length t.stays) t stays standings h in
    let standing = h.others k (λ i s less few. level_no_stay t k (slice_index_or t.stays i s).attr kept.slots (own_stay t.stays i s few) lt) in
    let row : HasLevelRow p (marks_at t) k l.unit l.own (number t k) = record { by = l.numbers.by; row = l.numbers.row; outside = l.numbers.outside } in
    record {
      unit = l.unit;
      own = l.own;
      unit_is = l.unit_is;
      own_is = l.own_is;
      rows = l.rows;
      empty = l.empty;
      least = (moved_levels_stay p q (marks_at t) k l.unit l.own (number t k) (sym alike) l.least row).0;
      numbers = numbers_stood t stays standings k l.unit l.own h l.numbers;
      cost = subst (λ (ms : List Mark). IsCostAt q ms k (standing_at (with_moved stays standings t) k).value) (sym (stood_marks t stays standings h))
          (subst (λ (s : Standing). IsCostAt q (marks_at t) k s.value) (sym standing)
          (cost_stood p (marks_at t) stays k (standing_at t k).value kept.whole kept.corner (have_stood t stays standings kept h) alike lt l.cost));
    }

-- ---- all of it

pub stood_kept : (t : Lists) (stays : List Stay) (standings : List Standing) → IsKept t → HaveAllStood t stays standings → IsKept (with_moved stays standings t)
stood_kept t stays standings kept h =
    let p : Problem = problem_of t in
    let q : Problem = with_stays stays p in
    let ms : marks_at t ≡ marks_at (with_moved stays standings t) = sym (stood_marks t stays standings h) in
    let stood = have_stood t stays standings kept h in
    let same = attr_same (length t.stays) t stays standings h in
    record {
      whole = stood_whole t stays standings kept h;
      corner = subst (IsCorner q) ms (stood_corner p (marks_at t) stays kept.whole kept.corner stood);
      rays = subst (HasRays q) ms (stood_rays p (marks_at t) stays kept.whole kept.corner stood kept.rays);
      slots = first_slots (length t.stays) t stays standings kept.slots h;
      stored = record { few = kept.stored.few; empty = kept.stored.empty };
      matrix = kept.matrix;
      values = h.values;
      attrs = λ i s lt.
          let within : i < length t.stays = omega (arith, lt, h.stay_count) in
          subst (IsAttrRow (with_moved stays standings t)) (sym (same i s within)) (attr_stood t stays standings (slice_index_or t.stays i s).attr kept h (own_stay t.stays i s within) (kept.attrs i s within));
      lines = lines_stood t stays standings kept h;
      outside = λ w c ne other. let out = kept.outside w c ne other in (out.0, h.sides c ∙ out.1, out.2);
      levels = λ k lt. level_stood t stays standings k kept h lt (kept.levels k lt);
      stay_levels = λ i s lt.
          let within : i < length t.stays = omega (arith, lt, h.stay_count) in
          subst (λ (a : ℕ). IsFitting (pos 2 *ℤ entry t (line_slot t (StayOf a)) (line_slot t (StayOf a)))) (sym (same i s within)) (kept.stay_levels i s within);
    }
