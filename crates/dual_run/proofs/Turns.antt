-- The mark of a line with which the leaving one grows, and what the required rows decide.
use Rattle.std.proofs.Common.{◌≡◌, ◌≢◌, ◌∙◌, inl, inr, ℕ, zero, suc, ◌<◌, ◌≤◌, List, slice_get, Some, ℤ, pos, negsuc, neg_ℤ, unsigned_abs, ◌*ℤ◌, ◌-ℤ◌, ◌≤ℤ◌, ◌<ℤ◌, refl, sym, ap, subst, arith, All}
use Rattle.std.proofs.lemmas.List.Elements.{recursion_from_All}
use Rattle.std.proofs.Math.Nat.{eq-one_of_dvd-one}
use borrow.Author.Differences.{ints}
use Rattle.frac_core.specs.Fraction.{IsFitting}
use Rattle.frac_core.specs.declared.frac.TheConstants.{PART_BOUND}
use Rattle.frac_core.proofs.Integers.{mul-zero_ℤ}
use Rattle.frac_core.proofs.Orders.{three as order}
use Rattle.problem_core.specs.declared.parts.Mark.{Mark}
use Rattle.problem_core.specs.declared.parts.RowName.{RowName}
use Rattle.problem_core.specs.declared.parts.Side.{Side}
use Rattle.problem_core.specs.declared.parts.Side.TheVariants.{Under, Over}
use Rattle.problem_core.specs.declared.parts.Level.{Level}
use Rattle.problem_core.specs.declared.parts.Level.TheVariants.{Priority}
use Rattle.problem_core.specs.declared.stops.What.TheVariants.{Mark as MarkOf}
use Rattle.problem_core.specs.Layout.{Line, Problem, coefficient, lines}
use Rattle.problem_core.specs.Kept.{IsWhole}
use Rattle.problem_core.specs.Corners.{IsIn, NoNegativeColumn, place, place_of}
use Rattle.problem_core.specs.Levels.{IsLevelWriting}
use Rattle.problem_core.proofs.Corners.Tableaus.{unit_at}
use Rattle.corner_laws.specs.Runs.{IsDualSwap, Writes, Writing, other_mark, other_side}
use Rattle.corner_laws.proofs.RunSteps.ColumnSigns.{mark_line, pick}
use Rattle.corner_laws.proofs.Counting.{IsSmall}
use Rattle.corner_laws.proofs.MarkWritings.Directions.{entries-opposite}
use Rattle.corner_laws.proofs.Swaps.DualChoice.{unused-IsLevelSum}
use Rattle.corner_laws.proofs.LevelCosts.Equal.{numbers_are_equal}
use Rattle.corner_laws.proofs.MarkWritings.LowestForms.{column_has_writing}
use Rattle.corner_lines.proofs.Lines.LineWritings.{all-small}
use Rattle.corner_view.specs.Seen.{CornerView, IsKeptCorner, IsMarkOf, IsNamed, IsOutside, IsReducedAt, MovesWith}
use Rattle.corner_view.specs.Entries.{AreBothOutside, AreEntries, HasEntry}
use Rattle.corner_view.specs.Growing.{AreGrowersDear, GrowsWith}
use Rattle.corner_ends.specs.Columns.{Reduced}
use Rattle.corner_ends.proofs.Fronts.{any_there, reduced_there, some_line}
use Rattle.corner_ends.proofs.Marks.{got_holds, in_mark, one_mark}
use Rattle.corner_ends.proofs.ReadNumbers.{coefficient_is}
use Rattle.dual_run.specs.declared.ratios.Choice.{Choice}
use Rattle.dual_run.specs.Entering.{AreDear, IsBeforeLine, IsBeforeMark, IsChoice, IsDear, IsDearMark, IsFree, IsLesser, IsNoGreater, IsNumberOf, NeverGrows}
use Rattle.dual_run.specs.Leaving.{MayLeave}
use Rattle.dual_run.proofs.Choices.{before_choice, choice_moves, choice_swaps, own_before, own_is_choice}
use Rattle.dual_run.proofs.FrontOrders.{column-up, up-less}
use Rattle.dual_run.proofs.Lesser.{lex_at}
use Rattle.dual_run.proofs.Lows.{same_or_other}
use Rattle.frac_core.proofs.Numbers.{none-below as nothing-before}
use Rattle.frac_core.proofs.Bools.{count-other as cond_other}
use Rattle.corner_view.proofs.Facts.{mark_named, named_in as named_mark}

-- ---- the two marks of a line

named_small : (p : Problem) (name : RowName) → IsWhole p → IsNamed p name → IsSmall name
named_small p name whole (i, x, within, is, e) = subst IsSmall e (pick (λ l. IsSmall l.name) (lines p) i x (all-small p whole) within is)

opposite-of : (s : ℕ) (u o f g : ℤ) → u ≡ pos 0 → o ≡ pos 0 → pos s *ℤ o -ℤ g ≡ neg_ℤ (pos s *ℤ u -ℤ f) → g ≡ neg_ℤ f
opposite-of s u o f g e h k =
    let a : pos s *ℤ u ≡ pos 0 = ap (λ (z : ℤ). pos s *ℤ z) e ∙ mul-zero_ℤ (pos s) in
    let b : pos s *ℤ o ≡ pos 0 = ap (λ (z : ℤ). pos s *ℤ z) h ∙ mul-zero_ℤ (pos s) in
    omega (arith, ints, a, b, k)

-- in the writing of another line's mark they have opposite numbers
pub opposite_numbers : (p : Problem) (at : List Mark) (c : ℕ) (name : RowName) (w : Writing) → IsKeptCorner p at → IsNamed p name → ((side : Side) → place_of name side ≢ c) → Writes p at c w → coefficient (place_of name Over) w.form ≡ neg_ℤ (coefficient (place_of name Under) w.form)
opposite_numbers p at c name w kept named apart writes =
    opposite-of w.scale (unit_at c (place_of name Under)) (unit_at c (place_of name Over)) (coefficient (place_of name Under) w.form) (coefficient (place_of name Over) w.form)
    (cond_other (place_of name Under) c (pos 1) (apart Under)) (cond_other (place_of name Over) c (pos 1) (apart Over))
    (entries-opposite p at c w.scale w.form w.num w.den kept.corner.point name kept.corner.stands.0 writes (named_small p name kept.whole named))

apart_from : (leave : Mark) (name : RowName) (side : Side) → name ≢ leave.row → place_of name side ≢ place leave
apart_from leave name side other e = other (ap (λ (m : Mark). m.row) (one_mark (record { row = name; side = side }) leave (sym e)))

up-opposite : (z a b : ℤ) → pos 0 <ℤ z → z ≡ a → b ≡ neg_ℤ a → pos 0 <ℤ b → ⊥
up-opposite z a b up is e over = omega (arith, ints, up, is, e, over)

-- so the over mark's is the opposite of the under mark's
pub over_number : (p : Problem) (at : List Mark) (leave : Mark) (name : RowName) (z : ℤ) → IsKeptCorner p at → AreBothOutside p at name → name ≢ leave.row → IsNumberOf p at leave (record { row = name; side = Under }) z → IsNumberOf p at leave (record { row = name; side = Over }) (neg_ℤ z)
over_number p at leave name z kept both other is w writes =
    ap neg_ℤ (is w writes) ∙ sym (opposite_numbers p at (place leave) name w kept (mark_named p (record { row = name; side = Under }) (both Under).0) (λ side. apart_from leave name side other) writes)

below-or : (n bound : ℕ) → (bound ≤ n → ⊥) → n < bound
below-or n bound never = elim (order n bound) [
  | inl less ↦ less
  | inr (inl same) ↦ absurd (never (omega (arith, same)))
  | inr (inr more) ↦ absurd (never (omega (arith, more)))
]

not-below : (n bound : ℕ) → bound ≤ n → n < bound → ⊥
not-below n bound over less = omega (arith, over, less)

-- an inside mark's writing fits
pub number_fits : (p : Problem) (at : List Mark) (leave m : Mark) (z : ℤ) → IsKeptCorner p at → IsIn (place leave) at → IsNumberOf p at leave m z → IsFitting z
number_fits p at leave m z kept inside is =
    below-or (unsigned_abs z) PART_BOUND (λ over. kept.fits (MarkOf leave) (
      inside,
      λ scale form value writes unit each fits. not-below (unsigned_abs z) PART_BOUND over
          (subst IsFitting (sym (is (record { scale = scale; form = form; num = value.num; den = value.den }) writes)) (each (place m))),
    ))

-- where the leaving mark grows with a mark this is a choice
pub grown_choice : (p : Problem) (at : List Mark) (leave : Mark) (name : RowName) (side : Side) (z : ℤ) → AreBothOutside p at name → IsNumberOf p at leave (record { row = name; side = side }) z → pos 0 <ℤ z → IsChoice p at leave (record { mark = record { row = name; side = side }; by = z })
grown_choice p at leave name side z both is up = record { outside = both side; above = up; by = is }

-- what holds of the one mark, if the leaving one grows with it, holds of both if it doesn't with the other
line_grown : (p : Problem) (at : List Mark) (leave : Mark) (name : RowName) (m : Mark) (P : Mark → Writing → Type 0) → m.row ≡ name → NeverGrows p at leave (other_mark m)
    → ((w : Writing) → Writes p at (place leave) w → pos 0 <ℤ coefficient (place m) w.form → P m w)
    → (side : Side) (w : Writing) → Writes p at (place leave) w → pos 0 <ℤ coefficient (place_of name side) w.form → P (record { row = name; side = side }) w
line_grown p at leave name m P e never holds side w writes up =
    subst (λ (n : RowName). P (record { row = n; side = side }) w) e
    (elim (same_or_other m.side side) [
      | inl s ↦ subst (λ (d : Side). P (record { row = m.row; side = d }) w) (sym s) (holds w writes (subst (λ (d : Side). pos 0 <ℤ coefficient (place_of m.row d) w.form) s here))
      | inr o ↦ absurd (never w writes (subst (λ (d : Side). pos 0 <ℤ coefficient (place_of m.row d) w.form) o here))
    ])
  where
    here : pos 0 <ℤ coefficient (place_of m.row side) w.form
    here = subst (λ (n : RowName). pos 0 <ℤ coefficient (place_of n side) w.form) (sym e) up

pub before_grown : (p : Problem) (at : List Mark) (leave : Mark) (f : Choice) (name : RowName) (m : Mark) → m.row ≡ name → NeverGrows p at leave (other_mark m) → IsBeforeMark p at leave f m → IsBeforeLine p at leave f name
before_grown p at leave f name m e never before side w writes up =
    line_grown p at leave name m (λ n v. IsBeforeMark p at leave f n) e never (λ v a b. before) side w writes up w writes up

-- what is no greater than a choice of the line is no greater than its marks
pub before_choice_line : (p : Problem) (at : List Mark) (leave : Mark) (a b : Choice) (name : RowName) → IsChoice p at leave b → b.mark.row ≡ name → NeverGrows p at leave (other_mark b.mark) → IsNoGreater p at a b → IsBeforeLine p at leave a name
before_choice_line p at leave a b name x e never h = before_grown p at leave a name b.mark e never (before_choice p at leave a b b.mark x refl h)

pub dear_grown : (p : Problem) (at : List Mark) (leave : Mark) (name : RowName) (m : Mark) → m.row ≡ name → NeverGrows p at leave (other_mark m) → IsDear p at m → (side : Side) → IsDearMark p at leave (record { row = name; side = side })
dear_grown p at leave name m e never dear side w writes up = line_grown p at leave name m (λ n v. IsDear p at n) e never (λ v a b. dear) side w writes up

-- ---- the level of the required rows

-- where no line stands there
zero-writing : (p : Problem) (at : List Mark) → All (λ l. l.level ≢ 0) (lines p) → IsLevelWriting p at 0 1 (λ name. pos 0) (λ v. pos 0)
zero-writing p at none =
    let s = unused-IsLevelSum p at 0 (λ v. pos 0) none (λ v. refl) in
    record {
      scale_positive = s.scale_positive;
      cancel = s.cancel;
      columns = s.columns;
      inside_zero = s.inside_zero;
      lowest = λ k divides all. eq-one_of_dvd-one divides;
    }

zero-at : (side : Side) (l : Line) (q : ℕ → ℤ) (c : ℕ) → place_of l.name side ≡ c → (pos 0 ≡ q (place_of l.name Under)) × (pos 0 ≡ q (place_of l.name Over)) → q c ≡ pos 0
zero-at Under l q c e h = subst (λ (v : ℕ). q v ≡ pos 0) e (sym h.0)
zero-at Over l q c e h = subst (λ (v : ℕ). q v ≡ pos 0) e (sym h.1)

unused-cost : (p : Problem) (at : List Mark) (m : Mark) (z : ℤ) → IsKeptCorner p at → IsMarkOf p m → All (λ l. l.level ≢ 0) (lines p) → IsReducedAt p at (Priority 1000) m z → z ≡ pos 0
unused-cost p at m z kept mark none cost =
    let t = any_there p at 0 m z cost in
    let same = numbers_are_equal p at 0 1 t.0 (λ name. pos 0) t.1 (λ v. pos 0) t.2 kept.whole kept.rays (zero-writing p at none) t.3 in
    let f = mark_line (lines p) (place m) mark in
    t.4 ∙ zero-at f.0 f.2 t.2 (place m) f.5 (pick (λ l. (pos 0 ≡ t.1 l.name) × ((pos 0 ≡ t.2 (place_of l.name Under)) × (pos 0 ≡ t.2 (place_of l.name Over)))) (lines p) f.1 f.2 (recursion_from_All _ (lines p) same.1) f.3 f.4).1

required_cost : (p : Problem) (at : List Mark) (r : Reduced p at) (m : Mark) (z : ℤ) → IsKeptCorner p at → IsMarkOf p m → IsReducedAt p at (Priority 1000) m z → r.costs 0 (place m) ≡ z
required_cost p at r m z kept mark cost =
    elim (some_line (lines p) 0) [
      | inl used ↦ reduced_there p at r (Priority 1000) 0 m z kept.whole kept.rays mark used (omega arith) cost
      | inr none ↦ r.unused 0 none (place m) ∙ sym (unused-cost p at m z kept mark none cost)
    ]

pub dear_cost : (p : Problem) (at : List Mark) (m : Mark) (z : ℤ) → IsKeptCorner p at → IsMarkOf p m → IsReducedAt p at (Priority 1000) m z → pos 0 <ℤ z → IsDear p at m
dear_cost p at m z kept mark cost up r = subst (λ (k : ℤ). pos 0 <ℤ k) (sym (required_cost p at r m z kept mark cost)) up

pub free_cost : (p : Problem) (at : List Mark) (m : Mark) (z : ℤ) → IsKeptCorner p at → IsMarkOf p m → IsReducedAt p at (Priority 1000) m z → z ≤ℤ pos 0 → IsFree p at m
free_cost p at m z kept mark cost low r = subst (λ (k : ℤ). k ≤ℤ pos 0) (sym (required_cost p at r m z kept mark cost)) low

none-between : (z : ℤ) → pos 0 ≤ℤ z → z ≤ℤ pos 0 → z ≡ pos 0
none-between z up low = omega (arith, ints, up, low)

not-up : (z : ℤ) → (pos 0 <ℤ z → ⊥) → z ≤ℤ pos 0
not-up (pos zero) never = omega (arith, ints)
not-up (pos (suc n)) never = absurd (never (omega (arith, ints)))
not-up (negsuc n) never = omega (arith, ints)

none-there : (p : Problem) (at : List Mark) (leave : Mark) (f : Choice) → IsKeptCorner p at → NoNegativeColumn p at → IsChoice p at leave f → IsFree p at f.mark → (r : Reduced p at) → r.costs 0 (place f.mark) ≡ pos 0
none-there p at leave f kept columns choice free r = none-between (r.costs 0 (place f.mark)) (column-up p at r f.mark kept columns choice.outside.0 0 (λ k less. absurd (nothing-before k less))) (free r)

-- what costs there has the greater column
pub free_lesser : (p : Problem) (at : List Mark) (leave : Mark) (f : Choice) (m : Mark) (z : ℤ) → IsKeptCorner p at → NoNegativeColumn p at → IsChoice p at leave f → IsFree p at f.mark → IsDear p at m → (r : Reduced p at) → IsLesser r.costs (place f.mark) f.by (place m) z
free_lesser p at leave f m z kept columns choice free dear r =
    lex_at (λ i. f.by *ℤ r.costs i (place m) -ℤ z *ℤ r.costs i (place f.mark)) 0
    (λ k less. absurd (nothing-before k less))
    (up-less f.by z (r.costs 0 (place m)) (r.costs 0 (place f.mark)) choice.above (dear r) (none-there p at leave f kept columns choice free r))

-- what is no greater than what doesn't cost there doesn't either
pub free_through : (p : Problem) (at : List Mark) (leave : Mark) (a b : Choice) → IsKeptCorner p at → NoNegativeColumn p at → IsChoice p at leave b → IsFree p at b.mark → IsNoGreater p at a b → IsFree p at a.mark
free_through p at leave a b kept columns choice free before r =
    let least = before r 0 (λ k less. absurd (nothing-before k less)) in
    not-up (r.costs 0 (place a.mark))
    (λ up.
    let more = up-less b.by a.by (r.costs 0 (place a.mark)) (r.costs 0 (place b.mark)) choice.above up (none-there p at leave b kept columns choice free r) in
    omega (arith, ints, least, more))

free_before : (p : Problem) (at : List Mark) (leave : Mark) (f : Choice) (m : Mark) → IsKeptCorner p at → NoNegativeColumn p at → IsChoice p at leave f → IsFree p at f.mark → IsDearMark p at leave m → IsBeforeMark p at leave f m
free_before p at leave f m kept columns choice free dear w writes up = free_lesser p at leave f m (coefficient (place m) w.form) kept columns choice free (dear w writes up)

-- ---- the other mark of the leaving one's line

-- it enters, where it alone doesn't cost there
pub record IsTurn (p : Problem) (at : List Mark) (leave enter : Mark) : Type 0 where
  pub outside : IsOutside p at enter
  pub moves : MovesWith p at enter (MarkOf leave)
  pub swap : IsFree p at enter → AreDear p at leave → IsDualSwap p at (record { enter = enter; leave = leave })

pub turn_of : (p : Problem) (at : List Mark) (leave enter : Mark) → IsKeptCorner p at → NoNegativeColumn p at → MayLeave p at leave → enter ≡ other_mark leave → IsTurn p at leave enter
turn_of p at leave enter kept columns may e =
    let t = column_has_writing p at (place leave) kept.corner kept.rays (inl (in_mark p at leave kept may.low.inside)) in
    let f : Choice = record { mark = other_mark leave; by = pos t.0 } in
    let choice : IsChoice p at leave f = own_is_choice p at leave (other_mark leave) (pos t.0) kept may.low.inside refl (place leave, (may.low.inside, refl), (t.0, t.1, record { num = t.2; den = t.3 }, t.4, refl)) in
    subst (IsTurn p at leave) (sym e) (record {
      outside = choice.outside;
      moves = choice_moves p at leave f kept may.low.inside choice;
      swap = λ free dear. choice_swaps p at leave f kept may choice (own_before p at leave f may.low.inside choice refl)
          (λ name entry side. free_before p at leave f (record { row = name; side = side }) kept columns choice free (dear name entry side));
    })

-- ---- the lines of the row

-- where the inside mark grows with the one mark of another line it doesn't with the other
grower_other : (p : Problem) (at : List Mark) (leave m : Mark) → IsKeptCorner p at → IsIn (place leave) at → IsMarkOf p m → m.row ≢ leave.row → GrowsWith p at leave m → NeverGrows p at leave (other_mark m)
grower_other p at leave m kept inside mark other (number, is, above) w writes up =
    up-opposite number (coefficient (place m) w.form) (coefficient (place (other_mark m)) w.form) above (coefficient_is p at leave m number w kept is writes)
    (other_opposite m.side (opposite_numbers p at (place leave) m.row w kept (mark_named p m mark) (λ side. apart_from leave m.row side other) writes)) up
  where
    other_opposite : (side : Side) → coefficient (place_of m.row Over) w.form ≡ neg_ℤ (coefficient (place_of m.row Under) w.form) → coefficient (place_of m.row (other_side side)) w.form ≡ neg_ℤ (coefficient (place_of m.row side) w.form)
    other_opposite Under e = e
    other_opposite Over e = omega (arith, ints, e)

-- where the inside mark grows with marks alone that cost
pub growers_dear : (p : Problem) (at : List Mark) (leave : Mark) (level : Level) → IsKeptCorner p at → IsIn (place leave) at → level ≡ Priority 1000 → AreGrowersDear p at leave level → AreDear p at leave
growers_dear p at leave level kept inside e dear name entry side =
    let d = dear name entry in
    let m : Mark = record { row = name; side = d.side } in
    let mark : IsMarkOf p m = named_mark p name d.side (mark_named p (record { row = name; side = entry.side }) entry.outside.0) in
    dear_grown p at leave name m refl (grower_other p at leave m kept inside mark entry.other d.grows)
    (dear_cost p at m d.cost kept mark (subst (λ (l : Level). IsReducedAt p at l m d.cost) e d.reduced) d.above) side

pub entry_other : (v : CornerView) (leave : Mark) (names : List RowName) (i : ℕ) (row : RowName) → AreEntries v leave names → slice_get names i ≡ Some row → row ≢ leave.row
entry_other v leave names i row are got = (got_holds (HasEntry v.problem v.marks leave) names i row are.have got).other
