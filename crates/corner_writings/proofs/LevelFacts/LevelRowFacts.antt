-- Each level has a row, whose numbers are those that the lists have.
use Rattle.std.proofs.Common.{◌≡◌, ◌≢◌, ◌∙◌, ℕ, ◌+◌, ◌*◌, ◌<◌, ◌≤◌, cond, Bool, true, false, refl, sym, ap, subst, arith, ℤ, pos, neg_ℤ, ◌*ℤ◌, unsigned_abs, Some, None, lt-ltb, le-ltb}
use Rattle.std.specs.Int.{◌∣◌}
use Rattle.std.specs.declared.option.Option.{Option}
use Rattle.std.proofs.lemmas.List.Elements.{All-from_recursion, recursion_from_All}
use Rattle.frac_core.specs.Fraction.{IsFitting}
use Rattle.problem_core.specs.declared.parts.Mark.{Mark}
use Rattle.problem_core.specs.declared.parts.Side.{Side}
use Rattle.problem_core.specs.declared.parts.Side.TheVariants.{Under, Over}
use Rattle.problem_core.specs.declared.parts.RowName.{RowName}
use Rattle.problem_core.specs.declared.parts.RowName.TheVariants.{Stay as StayOf}
use Rattle.problem_core.specs.declared.parts.Level.{Level}
use Rattle.problem_core.specs.declared.parts.Level.TheVariants.{Priority, Stay as StayLevel}
use Rattle.problem_core.specs.Layout.{HasStay, Line, Problem, lines}
use Rattle.problem_core.specs.Corners.{IsIn, place_of}
use Rattle.problem_core.specs.Levels.{IsLevelAt}
use Rattle.problem_core.proofs.Forms.{each-impl, each-both}
use Rattle.corner_laws.specs.Units.{IsLevelUnit}
use Rattle.corner_lines.specs.LineEquations.{IsOutsideLine, deviation, sign_of}
use Rattle.corner_lines.specs.Levels.LevelRows.{HasLevelRow, line_numbers}
use Rattle.corner_lines.specs.Levels.StayLevels.{IsInsideStay, turned}
use Rattle.corner_lines.proofs.Lines.LinePivots.{equation_is_pivot}
use Rattle.corner_lines.proofs.LevelRows.StayRows.{inside_stay_has_row, outside_stay_has_row, stay_stands_alone}
use Rattle.corner_table.specs.declared.table.TheConstants.{LEVELS}
use Rattle.corner_table.specs.Tables.{Lists, attr_slot, entry, is_side, level_slot, line_slot, marks_at, number, priority_at, problem_of, standing_at, stands_in}
use Rattle.corner_table.specs.Kept.{HasStayRoom, IsEquationAt, IsKept, level_own}
use Rattle.corner_view.specs.Seen.{IsMarkOf, IsNamed}
use Rattle.corner_table.specs.Reads.LevelNumbers.{IsSlotOfLevel, outside_times, own_at, own_inside, turned_inside, unit_at}
use Rattle.corner_table.proofs.Readings.SlotFacts.{any_impl, any_is, level_stay, named_slot}
use Rattle.corner_table.proofs.Readings.MarkFacts.{inside_stands, stands_inside}
use Rattle.corner_table.proofs.Readings.ReadFacts.{inside_equation}
use Rattle.corner_table.proofs.Readings.WritingFacts.{lines_apart, number_is}
use Rattle.corner_writings.proofs.LevelFacts.LevelNumberFacts.{IsKnown, all-known, named_line}
use Rattle.corner_lines.proofs.LevelRows.LevelExchanges.{at-side}
use Rattle.corner_writings.proofs.Basics.SmallFacts.{self_side}
use Rattle.corner_lines.proofs.LevelRows.OtherNumbers.{other-number}
use Rattle.frac_core.proofs.Numbers.{divides-unless-zero as divides-zero}
use Rattle.frac_core.proofs.Bools.{not-both as not_both}

-- ---- by slot

own-below : (t : Lists) (w : ℕ) → w < LEVELS → own_at t w ≡ level_own t w
own-below t w lt = ap (λ (b : Bool). cond b (level_own t w) (own_inside (standing_at t w).side (entry t w w))) (lt-ltb w LEVELS lt)

own-above : (t : Lists) (w : ℕ) → LEVELS ≤ w → own_at t w ≡ own_inside (standing_at t w).side (entry t w w)
own-above t w le = ap (λ (b : Bool). cond b (level_own t w) (own_inside (standing_at t w).side (entry t w w))) (le-ltb w LEVELS le)

pub unit-below : (t : Lists) (w : ℕ) → w < LEVELS → unit_at t w ≡ (priority_at t w).unit
unit-below t w lt = ap (λ (b : Bool). cond b (priority_at t w).unit (pos 1)) (lt-ltb w LEVELS lt)

unit-above : (t : Lists) (w : ℕ) → LEVELS ≤ w → unit_at t w ≡ pos 1
unit-above t w le = ap (λ (b : Bool). cond b (priority_at t w).unit (pos 1)) (le-ltb w LEVELS le)

pub times-below : (t : Lists) (l w : ℕ) → l < LEVELS → outside_times t l w ≡ neg_ℤ (entry t l w)
times-below t l w lt = ap (λ (b : Bool). cond b (neg_ℤ (entry t l w)) (turned_inside (standing_at t l).side (neg_ℤ (entry t l w)))) (lt-ltb l LEVELS lt)

pub times-above : (t : Lists) (l w : ℕ) → LEVELS ≤ l → outside_times t l w ≡ turned_inside (standing_at t l).side (neg_ℤ (entry t l w))
times-above t l w le = ap (λ (b : Bool). cond b (neg_ℤ (entry t l w)) (turned_inside (standing_at t l).side (neg_ℤ (entry t l w)))) (le-ltb l LEVELS le)

-- ---- rows

-- the level's row, with the lists' numbers
pub record HasRow (t : Lists) (w k : ℕ) : Type 0 where
  pub unit : ℕ
  pub own : ℕ
  pub own_is : own_at t w ≡ pos own
  pub unit_is : unit_at t w ≡ pos unit
  pub fits : IsFitting (pos (own * unit))
  pub least : IsLevelUnit (problem_of t) k unit
  pub row : HasLevelRow (problem_of t) (marks_at t) k unit own (λ name. outside_times t w (line_slot t name))

pub priority_row : (t : Lists) (w : ℕ) → IsKept t → w < LEVELS → HasRow t w w
priority_row t w kept lt =
    let k = kept.levels w lt in
    record {
      unit = k.unit;
      own = k.own;
      own_is = own-below t w lt ∙ k.own_is;
      unit_is = unit-below t w lt ∙ k.unit_is;
      fits = k.numbers.fits.scale_fits;
      least = k.least;
      row = record {
        by = k.numbers.by;
        row = k.numbers.row;
        outside = All-from_recursion (λ l. IsOutsideLine (marks_at t) l.name → k.numbers.by l.name ≡ outside_times t w (line_slot t l.name)) (lines (problem_of t))
            (each-impl (λ l. IsKnown t l × (IsOutsideLine (marks_at t) l.name → k.numbers.by l.name ≡ number t w l.name)) _ (lines (problem_of t))
            (λ l h o. h.1 o ∙ number_is t w l.name (λ e. let a = h.0.slot.slot.0 in absurd (omega (arith, e, a, lt))) ∙ sym (times-below t w (line_slot t l.name) lt))
            (each-both _ _ (lines (problem_of t)) (all-known t kept) (recursion_from_All _ (lines (problem_of t)) k.numbers.outside)));
      };
    }

-- ---- lines outside and inside

none-stands : (o : Option Side) (s : Side) → o ≡ None → is_side o s ≡ false
none-stands o s e = ap (λ (x : Option Side). is_side x s) e

some-stands : (o : Option Side) (s : Side) → o ≡ Some s → is_side o s ≡ true
some-stands o s e = ap (λ (x : Option Side). is_side x s) e ∙ self_side s

pub out_line : (t : Lists) (name : RowName) → (standing_at t (line_slot t name)).side ≡ None → IsOutsideLine (marks_at t) name
out_line t name e = record {
  under = λ i. not_both (stands_in t (record { row = name; side = Under })) (inside_stands t (record { row = name; side = Under }) i) (none-stands (standing_at t (line_slot t name)).side Under e);
  over = λ i. not_both (stands_in t (record { row = name; side = Over })) (inside_stands t (record { row = name; side = Over }) i) (none-stands (standing_at t (line_slot t name)).side Over e);
}

pub in_line : (t : Lists) (l : Line) (s : Side) → IsKnown t l → (standing_at t (line_slot t l.name)).side ≡ Some s → IsIn (place_of l.name s) (marks_at t)
in_line t l s k e = stands_inside t (record { row = l.name; side = s }) (k.marks s) (some-stands (standing_at t (line_slot t l.name)).side s e)

-- ---- stays' levels

pub stay-named : (p : Problem) (attr k : ℕ) → IsLevelAt p (StayLevel attr) k → IsNamed p (StayOf attr)
stay-named p attr k is = any_impl (λ l. (l.name ≡ StayOf attr) × (l.level ≡ k)) (λ l. l.name ≡ StayOf attr) (lines p) (λ l h. h.0) is

outside_stay_row : (t : Lists) (attr k : ℕ) → IsKept t → IsLevelAt (problem_of t) (StayLevel attr) k → (standing_at t (attr_slot t attr + 1)).side ≡ None → HasRow t (attr_slot t attr + 1) k
outside_stay_row t attr k kept is side =
    let w : ℕ = attr_slot t attr + 1 in
    let above : LEVELS ≤ w = (named_slot t (StayOf attr) kept.slots (stay-named (problem_of t) attr k is)).0 in
    let given = outside_stay_has_row (problem_of t) (marks_at t) k attr (stay_stands_alone (problem_of t) attr k kept.whole is) (out_line t (StayOf attr) side) in
    record {
      unit = 1;
      own = 1;
      own_is = own-above t w above ∙ ap (λ (o : Option Side). own_inside o (entry t w w)) side;
      unit_is = unit-above t w above;
      fits = omega arith;
      least = given.0;
      row = record {
        by = given.1.by;
        row = given.1.row;
        outside = All-from_recursion (λ l. IsOutsideLine (marks_at t) l.name → given.1.by l.name ≡ outside_times t w (line_slot t l.name)) (lines (problem_of t))
            (each-impl (λ l. IsOutsideLine (marks_at t) l.name → given.1.by l.name ≡ pos 0) _ (lines (problem_of t))
            (λ l h o. h o ∙ sym (times-above t w (line_slot t l.name) above ∙ ap (λ (x : Option Side). turned_inside x (neg_ℤ (entry t w (line_slot t l.name)))) side))
            (recursion_from_All _ (lines (problem_of t)) given.1.outside));
      };
    }

-- the stay inside and its equation
pub inside_stay : (t : Lists) (attr k : ℕ) (s : Side) → IsKept t → (is : IsLevelAt (problem_of t) (StayLevel attr) k) → IsIn (place_of (StayOf attr) s) (marks_at t)
    → (e : IsEquationAt t (deviation (StayOf attr)) (attr_slot t attr + 1) (sign_of s *ℤ (standing_at t (attr_slot t attr + 1)).value.num) (standing_at t (attr_slot t attr + 1)).value.den)
    → IsInsideStay (problem_of t) (marks_at t) k attr s e.0 (line_numbers (StayOf attr) e.0 (number t (attr_slot t attr + 1)))
inside_stay t attr k s kept is inside e =
    let w : ℕ = attr_slot t attr + 1 in
    record {
      whole = kept.whole;
      corner = kept.corner;
      alone = stay_stands_alone (problem_of t) attr k kept.whole is;
      inside = inside;
      line_is = equation_is_pivot (problem_of t) (marks_at t) (record { row = StayOf attr; side = s }) e.0 (number t w) (sign_of s *ℤ (standing_at t w).value.num) (standing_at t w).value.den kept.whole kept.corner inside e.2;
      lowest = λ q d all. e.2.lowest q d (All-from_recursion (λ l. q ∣ unsigned_abs (number t w l.name)) (lines (problem_of t))
          (each-impl (λ l. (IsOutsideLine (marks_at t) l.name → q ∣ unsigned_abs (line_numbers (StayOf attr) e.0 (number t w) l.name)) × (number t w l.name ≢ pos 0 → IsOutsideLine (marks_at t) l.name)) _ (lines (problem_of t))
          (λ l h. divides-zero q (number t w l.name) (λ ne. subst (λ (z : ℤ). q ∣ unsigned_abs z) (other-number (StayOf attr) e.0 (number t w) l.name (λ z. at-side s (marks_at t) l.name (h.1 ne) (subst (λ (n : RowName). IsIn (place_of n s) (marks_at t)) (sym z) inside))) (h.0 (h.1 ne))))
          (each-both _ _ (lines (problem_of t)) (recursion_from_All _ (lines (problem_of t)) all) (recursion_from_All _ (lines (problem_of t)) e.2.outside))));
    }

room : (t : Lists) (attr own : ℕ) → IsKept t → HasStay t.stays attr → entry t (attr_slot t attr + 1) (attr_slot t attr + 1) ≡ pos own → IsFitting (pos (own * 1))
room t attr own kept has e =
    let twice : IsFitting (pos 2 *ℤ entry t (line_slot t (StayOf attr)) (line_slot t (StayOf attr))) =
    any_is (HasStayRoom t) (λ s. s.attr ≡ attr) t.stays kept.stay_levels has (λ s h q. subst (λ (a : ℕ). IsFitting (pos 2 *ℤ entry t (line_slot t (StayOf a)) (line_slot t (StayOf a)))) q h) in
    let there : IsFitting (pos 2 *ℤ pos own) = subst (λ (z : ℤ). IsFitting (pos 2 *ℤ z)) e twice in
    omega (arith, there)

inside_stay_row : (t : Lists) (attr k : ℕ) (s : Side) → IsKept t → IsLevelAt (problem_of t) (StayLevel attr) k → IsIn (place_of (StayOf attr) s) (marks_at t) → (standing_at t (attr_slot t attr + 1)).side ≡ Some s
    → IsEquationAt t (deviation (StayOf attr)) (attr_slot t attr + 1) (sign_of s *ℤ (standing_at t (attr_slot t attr + 1)).value.num) (standing_at t (attr_slot t attr + 1)).value.den → HasRow t (attr_slot t attr + 1) k
inside_stay_row t attr k s kept is inside side e =
    let w : ℕ = attr_slot t attr + 1 in
    let named = stay-named (problem_of t) attr k is in
    let above : LEVELS ≤ w = (named_slot t (StayOf attr) kept.slots named).0 in
    let given = inside_stay_has_row (problem_of t) (marks_at t) k attr s e.0 (line_numbers (StayOf attr) e.0 (number t w)) (inside_stay t attr k s kept is inside e) in
    record {
      unit = 1;
      own = e.0;
      own_is = own-above t w above ∙ ap (λ (o : Option Side). own_inside o (entry t w w)) side ∙ e.1;
      unit_is = unit-above t w above;
      fits = room t attr e.0 kept (level_stay (problem_of t) attr (k, is)) e.1;
      least = given.0;
      row = record {
        by = given.1.by;
        row = given.1.row;
        outside = All-from_recursion (λ l. IsOutsideLine (marks_at t) l.name → given.1.by l.name ≡ outside_times t w (line_slot t l.name)) (lines (problem_of t))
            (each-impl (λ l. IsKnown t l × (IsOutsideLine (marks_at t) l.name → given.1.by l.name ≡ turned s (line_numbers (StayOf attr) e.0 (number t w) l.name))) _ (lines (problem_of t))
            (λ l h o.
            let other : l.name ≢ StayOf attr = λ z. at-side s (marks_at t) l.name o (subst (λ (n : RowName). IsIn (place_of n s) (marks_at t)) (sym z) inside) in
            h.1 o
            ∙ ap (turned s) (other-number (StayOf attr) e.0 (number t w) l.name other ∙ number_is t w l.name (λ z. other (sym (lines_apart t (StayOf attr) l.name kept.slots named h.0.named z))))
            ∙ sym (times-above t w (line_slot t l.name) above ∙ ap (λ (x : Option Side). turned_inside x (neg_ℤ (entry t w (line_slot t l.name)))) side))
            (each-both _ _ (lines (problem_of t)) (all-known t kept) (recursion_from_All _ (lines (problem_of t)) given.1.outside)));
      };
    }

stay_row_by : (t : Lists) (attr k : ℕ) (o : Option Side) → IsKept t → IsLevelAt (problem_of t) (StayLevel attr) k → (standing_at t (attr_slot t attr + 1)).side ≡ o → HasRow t (attr_slot t attr + 1) k
stay_row_by t attr k None kept is side = outside_stay_row t attr k kept is side
stay_row_by t attr k (Some s) kept is side =
    let m : Mark = record { row = StayOf attr; side = s } in
    let stands : stands_in t m ≡ true = some-stands (standing_at t (attr_slot t attr + 1)).side s side in
    let mark : IsMarkOf (problem_of t) m = named_line t (StayOf attr) kept (stay-named (problem_of t) attr k is) (λ l known e. subst (λ (n : RowName). IsMarkOf (problem_of t) (record { row = n; side = s })) e (known.marks s)) in
    inside_stay_row t attr k s kept is (stands_inside t m mark stands) side (inside_equation t m kept mark stands)

level_row_by : (t : Lists) (w k : ℕ) (level : Level) → IsKept t → IsLevelAt (problem_of t) level k → level_slot t level ≡ w → HasRow t w k
level_row_by t w k (Priority rank) kept is e =
    let same : w ≡ k = omega (arith, is, e) in
    subst (HasRow t w) same (priority_row t w kept (omega (arith, is, e)))
level_row_by t w k (StayLevel attr) kept is e = subst (λ (n : ℕ). HasRow t n k) e (stay_row_by t attr k (standing_at t (attr_slot t attr + 1)).side kept is refl)

pub level_row : (t : Lists) (w k : ℕ) → IsKept t → IsSlotOfLevel t w k → HasRow t w k
level_row t w k kept is = level_row_by t w k is.0 kept is.1 is.2
