-- The equations of attributes and inside lines where a row's constant changes, and what does not fit then.
use Rattle.std.proofs.Common.{◌≡◌, ◌≢◌, ◌∙◌, ℕ, ◌-◌, ◌*◌, ◌<◌, ◌≤◌, Bool, cond, List, [], filter, refl, sym, ap, subst, arith, inl, inr, ℤ, pos, negsuc, ◌+ℤ◌, ◌*ℤ◌, neg_ℤ, mul-pos, Some, None, eq-eqb}
use Rattle.std.specs.declared.option.Option.{Option}
use Rattle.std.proofs.lemmas.Bool.{cases_eq, cases_lt}
use borrow.Author.Differences.{ints}
use Rattle.frac_core.specs.Fraction.{Fraction, IsRatio, IsUnfitRatio, sum_den, sum_num}
use Rattle.frac_core.proofs.Integers.{mul-zero_ℤ}
use Rattle.row_core.specs.Rows.{coefficient}
use Rattle.problem_core.specs.declared.parts.Mark.{Mark}
use Rattle.problem_core.specs.declared.parts.RowName.{RowName}
use Rattle.problem_core.specs.declared.parts.RowName.TheVariants.{Held}
use Rattle.problem_core.specs.declared.parts.Level.TheVariants.{Priority}
use Rattle.problem_core.specs.declared.parts.Side.{Side}
use Rattle.problem_core.specs.declared.parts.Side.TheVariants.{Under, Over}
use Rattle.problem_core.specs.declared.stops.Quantity.{Quantity}
use Rattle.problem_core.specs.Changes.Stops.{TableStop}
use Rattle.frac_core.specs.declared.memory.Stop.TheVariants.{Refused, OutOfMemory as NoMemory}
use Rattle.problem_core.specs.declared.stops.What.{What}
use Rattle.problem_core.specs.declared.stops.What.TheVariants.{Mark as MarkOf, Level as LevelOf}
use Rattle.problem_core.specs.Layout.{HasStay, Problem, lines}
use Rattle.problem_core.specs.Kept.{IsWhole}
use Rattle.problem_core.specs.Corners.{IsCorner, IsIn, attr_column, marks_of, place}
use Rattle.problem_core.specs.Rays.{HasRays}
use Rattle.problem_core.specs.Unfit.{HasNoWriting, IsUnfitWhat}
use Rattle.corner_lines.specs.LineEquations.{IsLineEquation, deviation, sign_of}
use Rattle.corner_lines.specs.LineLaws.{IsUnfitValue}
use Rattle.corner_lines.specs.Shifts.{with_constant}
use Rattle.corner_lines.specs.Levels.StayLevels.{turned}
use Rattle.corner_lines.proofs.Lines.LineUnfits.{line_sum, line_unfit, mark_unfit}
use Rattle.corner_lines.proofs.ProblemChanges.Shifted.{attr_still, deviation_still, shift-small, shift_line, shift_own, shift_rays}
use Rattle.corner_shifts.specs.declared.shifting.Growth.{Growth}
use Rattle.corner_view.specs.declared.types.Owner.{Owner}
use Rattle.corner_view.specs.declared.types.Owner.TheVariants.{Level as LevelSlot, Attr as AttrSlot, Line as LineSlot}
use Rattle.corner_table.specs.declared.table.Standing.{Standing}
use Rattle.corner_table.specs.declared.table.TheConstants.{LEVELS}
use Rattle.corner_table.specs.Tables.{Lists, attr_slot, entry, is_side, line_slot, marks_at, number, problem_of, row_at, slot_at, standing_at, stands_in}
use Rattle.corner_table.specs.Kept.{IsAttrRow, IsAttrSlot, IsKept, IsLineRow, IsOwned}
use Rattle.corner_view.specs.Stops.{IsUnfitStop}
use Rattle.corner_exchange.specs.Swaps.Exchanges.{IsWhatOf}
use Rattle.corner_shifts.specs.Shifting.{AreShifted, IsShiftStop, growth_at, mark_growth, sign_at, sign_there, with_shifted}
use Rattle.corner_view.specs.Seen.{IsNamed}
use Rattle.corner_table.proofs.Readings.KeptFacts.{filter_same}
use Rattle.corner_table.proofs.Readings.MarkFacts.{stands_inside}
use Rattle.corner_exchange.proofs.Pivots.PairFacts.{named_mark, side-stands, sign-times}
use Rattle.corner_table.proofs.Readings.ReadFacts.{attr_equation, inside_equation}
use Rattle.corner_shifts.proofs.Shifts.ShiftCosts.{after_corner, unfit_shifted_cost}
use Rattle.corner_shifts.proofs.Shifts.ShiftGrowths.{IsShiftOf, IsUnfitGrowth, growth_side, level_unfit_growth, number_grows, own_growth, shift_here, shift_line_named, slot_grown, slot_unfit}
use Rattle.corner_view.proofs.Seen.ShiftedLines.{shift_marks, shift_whole}
use Rattle.corner_table.proofs.Readings.SlotFacts.{any_is, named_slot}
use Rattle.corner_shifts.proofs.Stays.StoodLists.{kept_at}
use Rattle.corner_exchange.proofs.Basics.SumTurns.{ratio-turns, sum-turns, turn, unfit-turns}
use Rattle.corner_table.proofs.Readings.WritingFacts.{attr_apart, attr_owner, line_owner, lines_apart, number_is}
use Rattle.frac_core.proofs.Numbers.{one-times}

-- ---- signs

turn-sum : (r : Side) (a t : Fraction) (n b d : ℤ) → n ≡ turned r b → sum_num (turn r a) b d t ≡ turned r (sum_num a n d t)
turn-sum r a t n b d e = ap (λ (z : ℤ). (sign_of r *ℤ a.num) *ℤ (d *ℤ pos t.den) +ℤ b *ℤ (z *ℤ pos a.den)) (sym (one-times t.num)) ∙ sum-turns r Over a t b n d e

turn-ratio : (r : Side) (f a t : Fraction) (n b d : ℤ) → n ≡ turned r b → IsRatio f (sum_num a n d t) (sum_den a d t) → IsRatio (turn r f) (sum_num (turn r a) b d t) (sum_den (turn r a) d t)
turn-ratio r f a t n b d e ratio = ratio-turns r f (sum_num a n d t) (sum_num (turn r a) b d t) (sum_den a d t) (turn-sum r a t n b d e) ratio

back-sign : (s : Side) → neg_ℤ (sign_of s) ≡ turned s (negsuc 0)
back-sign Under = refl
back-sign Over = refl

pub no-zero : (s : Side) → neg_ℤ (sign_of s) ≢ pos 0
no-zero Under e = omega (arith, ints, e)
no-zero Over e = omega (arith, ints, e)

-- ---- the lists after it

pub shift_marks_at : (t : Lists) (id : ℕ) (to more : Fraction) (standings : List Standing) → AreShifted t id more standings → marks_at (with_shifted id to standings t) ≡ marks_at t
shift_marks_at t id to more standings s =
    ap (filter (stands_in (with_shifted id to standings t))) (shift_marks (problem_of t) id to)
    ∙ filter_same (stands_in (with_shifted id to standings t)) (stands_in t) (marks_of (lines (problem_of t))) (λ m is. ap (λ (o : Option Side). is_side o m.side) (s.sides (line_slot t m.row)))

-- the marks are the same ones
at_marks : (t : Lists) (id : ℕ) (to more : Fraction) (standings : List Standing) (quantity : (ℕ → ℤ) → ℤ) (own : ℕ) (by : RowName → ℤ) (num : ℤ) (den : ℕ) → AreShifted t id more standings
    → IsLineEquation (with_constant id to (problem_of t)) (marks_at t) quantity own by num den → IsLineEquation (with_constant id to (problem_of t)) (marks_at (with_shifted id to standings t)) quantity own by num den
at_marks t id to more standings quantity own by num den s e =
    subst (λ (ms : List Mark). IsLineEquation (with_constant id to (problem_of t)) ms quantity own by num den) (sym (shift_marks_at t id to more standings s)) e

value-above : (t : Lists) (id : ℕ) (to more : Fraction) (standings : List Standing) (w : ℕ) → AreShifted t id more standings → 0 < (standing_at (with_shifted id to standings t) w).value.den
value-above t id to more standings w s = (kept_at standings w s.values).lowest.above

-- ---- attributes

-- what is known of the slot of an attribute
record IsAttrHere (t : Lists) (id attr : ℕ) : Type 0 where
  high : LEVELS ≤ attr_slot t attr
  apart : attr_slot t attr ≢ line_slot t (Held id)
  sign : sign_at t (attr_slot t attr) ≡ pos 1

attr-here : (t : Lists) (id attr : ℕ) (from to more : Fraction) → IsShiftOf t id from to more → HasStay t.stays attr → IsAttrHere t id attr
attr-here t id attr from to more h has =
    let owner = attr_owner t attr h.kept.slots has in
    record {
      high = any_is (λ s. IsAttrSlot t s.attr) (λ s. s.attr ≡ attr) t.stays h.kept.slots.attrs has (λ s k e. subst (λ (a : ℕ). LEVELS ≤ attr_slot t a) e k.slot.0);
      apart = λ e. attr_apart t attr (Held id) h.kept.slots has (shift_line_named t id from to more h) (sym e);
      sign = ap (λ (o : Owner). sign_there o (standing_at t (attr_slot t attr)).side) owner;
    }

pub attr_shifted : (t : Lists) (id attr : ℕ) (from to more : Fraction) (standings : List Standing) → IsShiftOf t id from to more → AreShifted t id more standings → HasStay t.stays attr → IsAttrRow (with_shifted id to standings t) attr
attr_shifted t id attr from to more standings h s has =
    let w : ℕ = attr_slot t attr in
    let a : Fraction = (standing_at t w).value in
    let f : Fraction = (standing_at (with_shifted id to standings t) w).value in
    let row : IsAttrRow t attr = attr_equation t attr h.kept has in
    let k = attr-here t id attr from to more h has in
    let plain : sign_at t (attr_slot t attr) *ℤ number t (attr_slot t attr) (Held id) ≡ number t (attr_slot t attr) (Held id) = ap (λ (z : ℤ). z *ℤ number t (attr_slot t attr) (Held id)) k.sign ∙ one-times (number t (attr_slot t attr) (Held id)) in (
      row.0,
      row.1,
      at_marks t id to more standings (λ x. x (attr_column attr)) row.0 (number t w) f.num f.den s
          (shift_line (problem_of t) (marks_at t) id from to more (λ x. x (attr_column attr)) row.0 (number t w) a f.num f.den h.kept.whole h.shift (attr_still id attr (shift-small (problem_of t) id from to more h.kept.whole h.shift)) row.2
          (value-above t id to more standings w s)
          (subst (λ (z : ℤ). IsRatio f (sum_num a z (pos row.0) more) (sum_den a (pos row.0) more)) plain (slot_grown t id from to more standings w row.0 h s k.high k.apart row.1))),
    )

-- where the value does not fit
pub attr_unfit : (t : Lists) (id attr : ℕ) (from to more : Fraction) → IsShiftOf t id from to more → HasStay t.stays attr → (growth_at t (line_slot t (Held id)) (attr_slot t attr)).n ≢ pos 0 → IsUnfitGrowth t id (attr_slot t attr) more
    → HasNoWriting (with_constant id to (problem_of t)) (marks_at t) (λ x. x (attr_column attr))
attr_unfit t id attr from to more h has some unfit =
    let w : ℕ = attr_slot t attr in
    let a : Fraction = (standing_at t w).value in
    let p : Problem = problem_of t in
    let q : Problem = with_constant id to p in
    let row : IsAttrRow t attr = attr_equation t attr h.kept has in
    let k = attr-here t id attr from to more h has in
    let plain : sign_at t (attr_slot t attr) *ℤ number t (attr_slot t attr) (Held id) ≡ number t (attr_slot t attr) (Held id) = ap (λ (z : ℤ). z *ℤ number t (attr_slot t attr) (Held id)) k.sign ∙ one-times (number t (attr_slot t attr) (Held id)) in
    let none : IsUnfitRatio (sum_num a (number t w (Held id)) (pos row.0) more) (sum_den a (pos row.0) more) =
    subst (λ (z : ℤ). IsUnfitRatio (sum_num a z (pos row.0) more) (sum_den a (pos row.0) more)) plain (slot_unfit t id from to more w row.0 h k.high k.apart row.1 some unfit) in
    let num : ℤ = sum_num a (number t w (Held id)) (pos row.0) more in
    let den : ℕ = a.den * (row.0 * more.den) in
    let line = shift_line p (marks_at t) id from to more (λ x. x (attr_column attr)) row.0 (number t w) a num den h.kept.whole h.shift (attr_still id attr (shift-small p id from to more h.kept.whole h.shift)) row.2
    (mul-pos row.2.den_positive (mul-pos row.2.own_positive h.shift.more_positive)) refl in
    line_unfit q (marks_at t) (λ x. x (attr_column attr)) row.0 (number t w) num den (shift_whole p id to h.to_kept h.kept.whole) (after_corner p (marks_at t) id from to more (shift_here t id from to more h)) (shift_rays p (marks_at t) id from to more h.shift h.kept.rays)
    (line_sum q (marks_at t) (λ x. x (attr_column attr)) row.0 (number t w) num den line)
    (λ low part value r ratio fits each kept. none value kept.lowest ratio kept.fits)

-- ---- other lines

record IsLineHere (t : Lists) (name : RowName) (side : Side) : Type 0 where
  high : LEVELS ≤ line_slot t name
  sign : sign_at t (line_slot t name) ≡ sign_of side

line-here : (t : Lists) (name : RowName) (side : Side) → IsKept t → IsNamed (problem_of t) name → (standing_at t (line_slot t name)).side ≡ Some side → IsLineHere t name side
line-here t name side kept named e = record {
  high = (named_slot t name kept.slots named).0;
  sign = ap (λ (o : Owner). sign_there o (standing_at t (line_slot t name)).side) (line_owner t name kept.slots named) ∙ ap (λ (o : Option Side). sign_there (LineSlot name) o) e;
}

other-shifted : (t : Lists) (id : ℕ) (from to more : Fraction) (standings : List Standing) (name : RowName) (side : Side) → IsShiftOf t id from to more → AreShifted t id more standings → IsNamed (problem_of t) name → line_slot t name ≢ line_slot t (Held id)
    → (standing_at t (line_slot t name)).side ≡ Some side → IsLineRow t name (Some side) → IsLineRow (with_shifted id to standings t) name (Some side)
other-shifted t id from to more standings name side h s named ne e row =
    let w : ℕ = line_slot t name in
    let a : Fraction = (standing_at t w).value in
    let f : Fraction = (standing_at (with_shifted id to standings t) w).value in
    let k = line-here t name side h.kept named e in
    let number_is : sign_at t (line_slot t name) *ℤ number t (line_slot t name) (Held id) ≡ turned side (number t (line_slot t name) (Held id)) =
    ap (λ (z : ℤ). z *ℤ number t (line_slot t name) (Held id)) k.sign ∙ sign-times side (number t (line_slot t name) (Held id)) in (
      row.0,
      row.1,
      at_marks t id to more standings (deviation name) row.0 (number t w) (sign_of side *ℤ f.num) f.den s
          (shift_line (problem_of t) (marks_at t) id from to more (deviation name) row.0 (number t w) (turn side a) (sign_of side *ℤ f.num) f.den h.kept.whole h.shift (deviation_still id name (λ q. ne (ap (line_slot t) q))) row.2
          (value-above t id to more standings w s)
          (turn-ratio side f a more (sign_at t w *ℤ number t w (Held id)) (number t w (Held id)) (pos row.0) number_is (slot_grown t id from to more standings w row.0 h s k.high ne row.1))),
    )

-- an outside line has no row, and its value stays
value-stays : (t : Lists) (id : ℕ) (to more : Fraction) (standings : List Standing) (w : ℕ) → AreShifted t id more standings → (growth_at t (line_slot t (Held id)) w).n ≡ pos 0 → (standing_at (with_shifted id to standings t) w).value ≡ (standing_at t w).value
value-stays t id to more standings w s none = ap (λ (x : Standing). x.value) (s.others w none)

outside-stays : (t : Lists) (id : ℕ) (from to more : Fraction) (name : RowName) → IsShiftOf t id from to more → IsNamed (problem_of t) name → line_slot t name ≢ line_slot t (Held id) → row_at t (line_slot t name) ≡ []
    → (growth_at t (line_slot t (Held id)) (line_slot t name)).n ≡ pos 0
outside-stays t id from to more name h named ne empty =
    let w : ℕ = line_slot t name in
    let g = number_grows t id from to more w 0 h (named_slot t name h.kept.slots named).0 ne (ap (coefficient w) empty) in
    let none : number t (line_slot t name) (Held id) ≡ pos 0 = number_is t w (Held id) (λ q. ne (sym q)) ∙ ap neg_ℤ (ap (coefficient (line_slot t (Held id))) empty) in
    g.n ∙ ap (λ (z : ℤ). sign_at t w *ℤ z) none ∙ mul-zero_ℤ (sign_at t w)

-- ---- the row's own line

own-none : (t : Lists) (name : RowName) → number t (line_slot t name) name ≡ pos 0
own-none t name = ap (λ (b : Bool). cond b (pos 0) (neg_ℤ (entry t (line_slot t name) (line_slot t name)))) (eq-eqb (line_slot t name) (line_slot t name) refl)

own-here : (t : Lists) (id : ℕ) (side : Side) → (standing_at t (line_slot t (Held id))).side ≡ Some side → growth_at t (line_slot t (Held id)) (line_slot t (Held id)) ≡ mark_growth side
own-here t id side e = growth_side t (line_slot t (Held id)) (line_slot t (Held id)) (Some side) e ∙ own_growth t (line_slot t (Held id)) side

own-shifted : (t : Lists) (id : ℕ) (from to more : Fraction) (standings : List Standing) (side : Side) → IsShiftOf t id from to more → AreShifted t id more standings → (standing_at t (line_slot t (Held id))).side ≡ Some side
    → IsLineRow t (Held id) (Some side) → IsLineRow (with_shifted id to standings t) (Held id) (Some side)
own-shifted t id from to more standings side h s e row =
    let w : ℕ = line_slot t (Held id) in
    let a : Fraction = (standing_at t w).value in
    let f : Fraction = (standing_at (with_shifted id to standings t) w).value in
    let g = own-here t id side e in
    let some : (growth_at t (line_slot t (Held id)) (line_slot t (Held id))).n ≢ pos 0 = λ z. no-zero side (sym (ap (λ (b : Growth). b.n) g) ∙ z) in
    let ratio : IsRatio f (sum_num a (neg_ℤ (sign_of side)) (pos 1) more) (sum_den a (pos 1) more) =
    subst (λ (b : Growth). IsRatio f (sum_num a b.n b.d more) (sum_den a b.d more)) g (s.grown w some) in (
      row.0,
      row.1,
      at_marks t id to more standings (deviation (Held id)) row.0 (number t w) (sign_of side *ℤ f.num) f.den s
          (shift_own (problem_of t) (marks_at t) id from to more row.0 (number t w) (turn side a) (sign_of side *ℤ f.num) f.den h.kept.whole h.shift row.2 (own-none t (Held id)) (value-above t id to more standings w s)
          (turn-ratio side f a more (neg_ℤ (sign_of side)) (negsuc 0) (pos 1) (back-sign side) ratio)),
    )

own-outside : (t : Lists) (id : ℕ) → (standing_at t (line_slot t (Held id))).side ≡ None → row_at t (line_slot t (Held id)) ≡ [] → (growth_at t (line_slot t (Held id)) (line_slot t (Held id))).n ≡ pos 0
own-outside t id e empty =
    ap (λ (b : Growth). b.n) (growth_side t (line_slot t (Held id)) (line_slot t (Held id)) None e)
    ∙ ap (λ (z : ℤ). neg_ℤ (sign_at t (line_slot t (Held id)) *ℤ z)) (ap (coefficient (line_slot t (Held id))) empty) ∙ ap neg_ℤ (mul-zero_ℤ (sign_at t (line_slot t (Held id))))

-- ---- each line

pub line_shifted : (t : Lists) (id : ℕ) (from to more : Fraction) (standings : List Standing) (name : RowName) (side : Option Side) → IsShiftOf t id from to more → AreShifted t id more standings → IsNamed (problem_of t) name
    → (standing_at t (line_slot t name)).side ≡ side → IsLineRow t name side → IsLineRow (with_shifted id to standings t) name side
line_shifted t id from to more standings name side h s named e row =
    elim (cases_eq (line_slot t name) (line_slot t (Held id))) [
      | inl same ↦
          let is : Held id ≡ name = lines_apart t (Held id) name h.kept.slots (shift_line_named t id from to more h) named same in
          subst (λ (n : RowName). IsLineRow (with_shifted id to standings t) n side) is
          (own side (subst (λ (n : RowName). (standing_at t (line_slot t n)).side ≡ side) (sym is) e) (subst (λ (n : RowName). IsLineRow t n side) (sym is) row))
      | inr ne ↦ other side ne e row
    ]
  where
    own : (o : Option Side) → (standing_at t (line_slot t (Held id))).side ≡ o → IsLineRow t (Held id) o → IsLineRow (with_shifted id to standings t) (Held id) o
    own None q r = (r.0, value-stays t id to more standings (line_slot t (Held id)) s (own-outside t id q r.0) ∙ r.1)
    own (Some i) q r = own-shifted t id from to more standings i h s q r

    other : (o : Option Side) → line_slot t name ≢ line_slot t (Held id) → (standing_at t (line_slot t name)).side ≡ o → IsLineRow t name o → IsLineRow (with_shifted id to standings t) name o
    other None ne q r = (r.0, value-stays t id to more standings (line_slot t name) s (outside-stays t id from to more name h named ne r.0) ∙ r.1)
    other (Some i) ne q r = other-shifted t id from to more standings name i h s named ne q r

-- ---- what does not fit

-- what holds where the constant has changed
record IsThereAfter (q : Problem) (at : List Mark) : Type 0 where
  whole : IsWhole q
  corner : IsCorner q at
  rays : HasRays q at

there-after : (t : Lists) (id : ℕ) (from to more : Fraction) → IsShiftOf t id from to more → IsThereAfter (with_constant id to (problem_of t)) (marks_at t)
there-after t id from to more h = record {
  whole = shift_whole (problem_of t) id to h.to_kept h.kept.whole;
  corner = after_corner (problem_of t) (marks_at t) id from to more (shift_here t id from to more h);
  rays = shift_rays (problem_of t) (marks_at t) id from to more h.shift h.kept.rays;
}

no-writing : (q : Problem) (at : List Mark) (name : RowName) (side : Side) (own : ℕ) (by : RowName → ℤ) (num : ℤ) (den : ℕ) → IsThereAfter q at → IsIn (place (record { row = name; side = side })) at → IsLineEquation q at (deviation name) own by num den → IsUnfitValue num den
    → HasNoWriting q at (λ x. x (place (record { row = name; side = side })))
no-writing q at name side own by num den after inside line unfit =
    mark_unfit q at name side own by num den after.whole after.corner after.rays inside (line_sum q at (deviation name) own by num den line) (λ low part value r ratio fits each kept. unfit value kept.lowest ratio kept.fits)

other-unfit : (t : Lists) (id : ℕ) (from to more : Fraction) (name : RowName) (side : Side) → IsShiftOf t id from to more → IsNamed (problem_of t) name → line_slot t name ≢ line_slot t (Held id) → (standing_at t (line_slot t name)).side ≡ Some side → IsLineRow t name (Some side)
    → IsIn (place (record { row = name; side = side })) (marks_at t) → (growth_at t (line_slot t (Held id)) (line_slot t name)).n ≢ pos 0 → IsUnfitGrowth t id (line_slot t name) more
    → HasNoWriting (with_constant id to (problem_of t)) (marks_at t) (λ x. x (place (record { row = name; side = side })))
other-unfit t id from to more name side h named ne e row inside some unfit =
    let w : ℕ = line_slot t name in
    let a : Fraction = (standing_at t w).value in
    let p : Problem = problem_of t in
    let k = line-here t name side h.kept named e in
    let number_is : sign_at t (line_slot t name) *ℤ number t (line_slot t name) (Held id) ≡ turned side (number t (line_slot t name) (Held id)) =
    ap (λ (z : ℤ). z *ℤ number t (line_slot t name) (Held id)) k.sign ∙ sign-times side (number t (line_slot t name) (Held id)) in
    let num : ℤ = sum_num (turn side a) (number t w (Held id)) (pos row.0) more in
    let den : ℕ = a.den * (row.0 * more.den) in
    let line = shift_line p (marks_at t) id from to more (deviation name) row.0 (number t w) (turn side a) num den h.kept.whole h.shift (deviation_still id name (λ q. ne (ap (line_slot t) q))) row.2
    (mul-pos row.2.den_positive (mul-pos row.2.own_positive h.shift.more_positive)) refl in
    no-writing (with_constant id to p) (marks_at t) name side row.0 (number t w) num den (there-after t id from to more h) inside line
    (unfit-turns side (sum_num a (sign_at t w *ℤ number t w (Held id)) (pos row.0) more) num den (turn-sum side a more (sign_at t w *ℤ number t w (Held id)) (number t w (Held id)) (pos row.0) number_is)
    (slot_unfit t id from to more w row.0 h k.high ne row.1 some unfit))

own-unfit : (t : Lists) (id : ℕ) (from to more : Fraction) (side : Side) → IsShiftOf t id from to more → (standing_at t (line_slot t (Held id))).side ≡ Some side → IsLineRow t (Held id) (Some side)
    → IsIn (place (record { row = Held id; side = side })) (marks_at t) → IsUnfitGrowth t id (line_slot t (Held id)) more
    → HasNoWriting (with_constant id to (problem_of t)) (marks_at t) (λ x. x (place (record { row = Held id; side = side })))
own-unfit t id from to more side h e row inside unfit =
    let w : ℕ = line_slot t (Held id) in
    let a : Fraction = (standing_at t w).value in
    let p : Problem = problem_of t in
    let num : ℤ = sum_num (turn side a) (negsuc 0) (pos 1) more in
    let den : ℕ = a.den * (1 * more.den) in
    let line = shift_own p (marks_at t) id from to more row.0 (number t w) (turn side a) num den h.kept.whole h.shift row.2 (own-none t (Held id))
    (mul-pos row.2.den_positive (mul-pos (omega arith) h.shift.more_positive)) refl in
    no-writing (with_constant id to p) (marks_at t) (Held id) side row.0 (number t w) num den (there-after t id from to more h) inside line
    (unfit-turns side (sum_num a (neg_ℤ (sign_of side)) (pos 1) more) num den (turn-sum side a more (neg_ℤ (sign_of side)) (negsuc 0) (pos 1) (back-sign side))
    (subst (λ (b : Growth). IsUnfitRatio (sum_num a b.n b.d more) (sum_den a b.d more)) (own-here t id side e) unfit))

-- where an inside mark's value does not fit
pub inside_unfit : (t : Lists) (id : ℕ) (from to more : Fraction) (name : RowName) (side : Side) → IsShiftOf t id from to more → IsNamed (problem_of t) name → (standing_at t (line_slot t name)).side ≡ Some side
    → (growth_at t (line_slot t (Held id)) (line_slot t name)).n ≢ pos 0 → IsUnfitGrowth t id (line_slot t name) more → IsUnfitWhat (with_constant id to (problem_of t)) (marks_at t) (MarkOf (record { row = name; side = side }))
inside_unfit t id from to more name side h named e some unfit =
    let m : Mark = record { row = name; side = side } in
    let marked = named_mark t m named in
    let stands = side-stands t m e in
    let inside : IsIn (place m) (marks_at t) = stands_inside t m marked stands in
    let row : IsLineRow t name (Some side) = inside_equation t m h.kept marked stands in (
      inside,
      elim (cases_eq (line_slot t name) (line_slot t (Held id))) [
        | inl same ↦
            let is : Held id ≡ name = lines_apart t (Held id) name h.kept.slots (shift_line_named t id from to more h) named same in
            subst (λ (n : RowName). HasNoWriting (with_constant id to (problem_of t)) (marks_at t) (λ x. x (place (record { row = n; side = side })))) is
            (own-unfit t id from to more side h (subst (λ (n : RowName). (standing_at t (line_slot t n)).side ≡ Some side) (sym is) e) (subst (λ (n : RowName). IsLineRow t n (Some side)) (sym is) row)
            (subst (λ (n : RowName). IsIn (place (record { row = n; side = side })) (marks_at t)) (sym is) inside) (subst (λ (w : ℕ). IsUnfitGrowth t id w more) same unfit))
        | inr ne ↦ other-unfit t id from to more name side h named ne e row inside some unfit
      ],
    )

-- where a level's cost does not fit
pub level_unfit : (t : Lists) (id : ℕ) (from to more : Fraction) (k : ℕ) → IsShiftOf t id from to more → k < LEVELS → (growth_at t (line_slot t (Held id)) k).n ≢ pos 0 → IsUnfitGrowth t id k more
    → IsUnfitWhat (with_constant id to (problem_of t)) (marks_at t) (LevelOf (Priority (1000 - k)))
level_unfit t id from to more k h low some unfit =
    let l = h.kept.levels k low in (
      k,
      omega (arith, low),
      unfit_shifted_cost (problem_of t) (marks_at t) id from to more k l.unit l.own l.numbers.by (standing_at t k).value (shift_here t id from to more h) l.least l.numbers.row l.cost (level_unfit_growth t id from to more k h low some unfit),
    )

slot-unfit : (t : Lists) (id : ℕ) (from to more : Fraction) (w : ℕ) (o : Owner) (i : Option Side) (what : What) → IsShiftOf t id from to more → IsOwned t w o → (standing_at t w).side ≡ i → IsWhatOf o i what → (growth_at t (line_slot t (Held id)) w).n ≢ pos 0 → IsUnfitGrowth t id w more
    → IsUnfitWhat (with_constant id to (problem_of t)) (marks_at t) what
slot-unfit t id from to more w LevelSlot i what h owned e is some unfit = absurd is
slot-unfit t id from to more w (AttrSlot attr) i what h owned e is some unfit =
    subst (IsUnfitWhat (with_constant id to (problem_of t)) (marks_at t)) (sym is)
    (owned.0, attr_unfit t id attr from to more h owned.0 (subst (λ (c : ℕ). (growth_at t (line_slot t (Held id)) c).n ≢ pos 0) (sym owned.1) some) (subst (λ (c : ℕ). IsUnfitGrowth t id c more) (sym owned.1) unfit))
slot-unfit t id from to more w (LineSlot name) None what h owned e is some unfit = absurd is
slot-unfit t id from to more w (LineSlot name) (Some side) what h owned e is some unfit =
    subst (IsUnfitWhat (with_constant id to (problem_of t)) (marks_at t)) (sym is)
    (inside_unfit t id from to more name side h owned.0 (subst (λ (c : ℕ). (standing_at t c).side ≡ Some side) (sym owned.1) e) (subst (λ (c : ℕ). (growth_at t (line_slot t (Held id)) c).n ≢ pos 0) (sym owned.1) some) (subst (λ (c : ℕ). IsUnfitGrowth t id c more) (sym owned.1) unfit))

-- the stop of a change is that of a quantity of the problem with the new constant
pub shift_stop : (t : Lists) (id : ℕ) (from to more : Fraction) (stop : TableStop) → IsShiftOf t id from to more → IsShiftStop t id more stop → IsUnfitStop (with_constant id to (problem_of t)) (marks_at t) stop
shift_stop t id from to more NoMemory h is = tt
shift_stop t id from to more (Refused quantity) h (w, what, within, some, there, same, unfit) =
    subst (λ (k : Quantity). IsUnfitStop (with_constant id to (problem_of t)) (marks_at t) (Refused k)) (sym same)
    (elim (cases_lt w LEVELS) [
      | inl low ↦ subst (IsUnfitWhat (with_constant id to (problem_of t)) (marks_at t)) (sym (there.0 low)) (level_unfit t id from to more w h low some unfit)
      | inr high ↦ slot-unfit t id from to more w (slot_at t w).owner (standing_at t w).side what h (h.kept.slots.owners w (high, within)) refl (there.1 high) some unfit
    ])
