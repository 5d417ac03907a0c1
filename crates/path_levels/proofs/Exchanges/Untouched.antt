-- A level's row that an exchange leaves as it is.
use Rattle.std.proofs.Common.{◌≡◌, ◌≢◌, ◌∙◌, ℕ, ◌*◌, ◌<◌, Bool, cond, List, get_or, length, ℤ, pos, ◌+ℤ◌, ◌-ℤ◌, ◌*ℤ◌, neg_ℤ, unsigned_abs, refl, sym, ap, ap₂, subst, arith, inl, inr, Option, mul-zero, ne_eqb}
use Rattle.std.specs.Int.{◌∣◌}
use Rattle.std.proofs.lemmas.Bool.{cases_Bool, cases_eq}
use Rattle.std.proofs.lemmas.Int.{ints}
use Rattle.std.proofs.lemmas.Nat.Gcd.{dvd-zero}
use lib.IntN.{*ℤ_comm}
use Rattle.frac_core.proofs.Integers.{mul_assoc_ℤ, zero-mul_ℤ}
use Rattle.frac_core.specs.Fraction.{IsFitting, IsRatio}
use Rattle.problem_core.specs.declared.parts.Mark.{Mark}
use Rattle.problem_core.specs.declared.parts.RowName.{RowName}
use Rattle.problem_core.specs.declared.parts.Side.{Side}
use Rattle.problem_core.specs.declared.parts.Side.TheVariants.{Under, Over}
use Rattle.problem_core.specs.Layout.{Line, Problem, lines}
use Rattle.problem_core.specs.Corners.{IsIn, exchanged, place_of}
use Rattle.corner_laws.proofs.Exchanged.{exchanged_in}
use Rattle.corner_laws.proofs.LinePlaces.{lines_apart}
use Rattle.corner_lines.specs.LineEquations.{IsOutsideLine}
use Rattle.corner_lines.specs.Levels.LevelRows.{HasLevelRow, sum_by}
use Rattle.corner_lines.specs.Levels.LevelFits.{IsFittingRow}
use Rattle.corner_lines.proofs.LevelRows.LevelDivided.{divided_row_is_row}
use Rattle.corner_lines.proofs.LevelRows.LevelExchanges.{by-sides, exchanged-multiple}
use Rattle.corner_lines.proofs.LevelRows.LevelSound.{whole_is_sound}
use Rattle.corner_lines.proofs.Lines.LineWritings.{no-side}
use Rattle.path_lines.specs.declared.exchange.Pivot.{Pivot}
use Rattle.path_lines.specs.declared.spots.Step.{Step}
use Rattle.path_lines.specs.declared.table.Inside.{Inside}
use Rattle.path_lines.specs.Numbers.{number_at as in_list}
use Rattle.path_lines.specs.Exchanges.Pivots.{next_marks}
use Rattle.path_lines.specs.Tables.{IsThere, line_count, name_at, numbers_of, swap_of}
use Rattle.path_lines.proofs.Exchanges.EnteringLine.{at_place}
use Rattle.path_lines.proofs.Places.{any_line, name_there, names_differ, number_there}
use Rattle.path_levels.specs.declared.outline.Outline.{Outline}
use Rattle.path_levels.specs.declared.outline.LineFacts.{LineFacts}
use Rattle.path_levels.specs.declared.sums.LevelSum.{LevelSum}
use Rattle.path_levels.specs.Exchanges.FitsAfter.{moved_den, moved_num}
use Rattle.path_levels.specs.Exchanges.Pivots.{IsExchangePivot}
use Rattle.path_levels.specs.Levels.{IsLevelSum}
use Rattle.path_levels.specs.Outlines.{IsOutline, number_at}
use Rattle.path_levels.specs.Shares.{counted_of, entering_of, share_of, stood_of}
use Rattle.path_levels.proofs.Counting.LineShares.{own_level}
use Rattle.path_levels.proofs.Exchanges.FitFacts.{next_is_there}
use Rattle.path_levels.proofs.Exchanges.MultipleFacts.{any_level, before_other, before_turn, entering_changes, number_outside, stays_out, stood_there, was_out}
use Rattle.path_levels.proofs.Exchanges.AllNextLevels.{IsNextAt}
use Rattle.path_levels.proofs.Exchanges.NextLevels.{GivesPivot, next_cost}
use Rattle.path_levels.proofs.Parts.PartLines.{facts_at}

-- ---- numbers

plus_none : (y z : ℤ) → z ≡ pos 0 → y +ℤ z ≡ y
plus_none y z e = omega (arith, ints, e)

none_over : (a c x z : ℤ) → z ≡ pos 0 → a *ℤ (c *ℤ x) ≡ (a *ℤ x +ℤ z) *ℤ c
none_over a c x z e = ap (λ (y : ℤ). a *ℤ y) (*ℤ_comm c x) ∙ sym (mul_assoc_ℤ a x c) ∙ ap (λ (y : ℤ). y *ℤ c) (sym (plus_none (a *ℤ x) z e))

none_times : (n t g : ℤ) → n ≡ pos 0 → (n *ℤ t) *ℤ g ≡ pos 0
none_times n t g e = ap (λ (z : ℤ). (z *ℤ t) *ℤ g) e ∙ ap (λ (z : ℤ). z *ℤ g) (zero-mul_ℤ t) ∙ zero-mul_ℤ g

-- what a line of another level counts
no_share : (f : LineFacts) (side : Side) (place : ℕ) (sum : LevelSum) → f.level ≢ place → counted_of f side place sum ≡ 0
no_share f side place sum ne =
    ap (λ (n : ℕ). unsigned_abs sum.own * n) (ap (λ (b : Bool). cond b (share_of side (unsigned_abs sum.unit) f) 0) (ne_eqb f.level place ne)) ∙ mul-zero (unsigned_abs sum.own)

no_stood : (f : LineFacts) (side : Side) (place : ℕ) (sum : LevelSum) → f.level ≢ place → stood_of f side place sum ≡ pos 0
no_stood f Under place sum ne = ap (λ (n : ℕ). pos n) (no_share f Under place sum ne)
no_stood f Over place sum ne = ap (λ (n : ℕ). neg_ℤ (pos n)) (no_share f Over place sum ne)

no_entering : (f : LineFacts) (pivot : Pivot) (place : ℕ) (sum : LevelSum) → f.level ≢ place → in_list sum.by.items pivot.step.enter.at ≡ pos 0 → entering_of f pivot place sum ≡ pos 0
no_entering f pivot place sum ne none =
    ap₂ ◌-ℤ◌
    (elim (cases_Bool pivot.is_turn) [
      | inl one ↦ before_turn f pivot place sum one ∙ no_stood f pivot.step.leave.side place sum ne
      | inr other ↦ before_other f pivot place sum other ∙ none
    ])
    (no_stood f pivot.step.enter.side place sum ne)

same_cost : (n : ℤ) (pivot : Pivot) (sum : LevelSum) → n ≡ pos 0 → IsRatio sum.cost (moved_num n pivot sum) (moved_den pivot sum)
same_cost n pivot sum e =
    none_over sum.cost.num (pos sum.cost.den) (((sum.own *ℤ sum.unit) *ℤ pivot.size) *ℤ pos pivot.value.den) ((n *ℤ pivot.times) *ℤ (pivot.value.num *ℤ pos sum.cost.den))
    (none_times n pivot.times (pivot.value.num *ℤ pos sum.cost.den) e)

-- ---- lines

-- a line of the level is not the one at this place, which is of another
other_place : (p : Problem) (outline : Outline) (place at k : ℕ) (f : LineFacts) (d : Line) → IsOutline p outline → place < length outline.levels.items → f ≡ get_or outline.lines.items at f → f.level ≢ place → k < line_count p → (get_or (lines p) k d).level ≡ number_at outline.levels.items place → k ≢ at
other_place p outline place at k f d outline_is within f_is ne inside own e =
    ne (ap (λ (x : LineFacts). x.level) f_is ∙ ap (λ (j : ℕ). (get_or outline.lines.items j f).level) (sym e)
    ∙ own_level p outline.levels.items place (get_or (lines p) k d) (get_or outline.lines.items k f) any_level outline_is.levels_are within (facts_at outline.levels.items (lines p) outline.lines.items k d f outline_is.lines_are inside) own)

was_in : (p : Problem) (at : List Mark) (pivot : Pivot) (k : ℕ) (side : Side) → IsExchangePivot p at pivot → k < line_count p → k ≢ pivot.step.enter.at → IsIn (place_of (name_at p k) side) (next_marks p pivot at) → IsIn (place_of (name_at p k) side) at
was_in p at pivot k side turn within ne inside =
    elim (exchanged_in (swap_of p pivot.step) at (place_of (name_at p k) side) inside) [
      | inl same ↦ absurd (names_differ p k pivot.step.enter.at turn.there.whole within turn.sized.enter_at ne (by-sides (name_at p k) (name_at p pivot.step.enter.at) side pivot.step.enter.side same).0)
      | inr was ↦ was.0
    ]

-- ---- the row

-- the full row before has the numbers that the outside lines after have
by_is : (p : Problem) (at : List Mark) (outline : Outline) (place : ℕ) (sum : LevelSum) (pivot : Pivot) (leave : LineFacts) (k : ℕ) → place < length outline.levels.items → leave ≡ get_or outline.lines.items pivot.step.leave.at leave → leave.level ≢ place → IsOutline p outline → IsExchangePivot p at pivot
    → (is : IsLevelSum p at (number_at outline.levels.items place) sum) → k < line_count p → IsOutsideLine (next_marks p pivot at) (name_at p k) → is.there.row.by (name_at p k) ≡ numbers_of (lines p) sum.by.items (name_at p k)
by_is p at outline place sum pivot leave k within leave_is ne outline_is turn is inside out =
    elim (cases_eq k pivot.step.leave.at) [
      | inl e ↦
          subst (λ (j : ℕ). is.there.row.by (name_at p j) ≡ numbers_of (lines p) sum.by.items (name_at p j)) (sym e)
          (stood_there p at outline place sum pivot.step.leave.at pivot.step.leave.side leave any_level outline_is is within turn.sized.leave_at leave_is turn.exchange.leaves
          ∙ no_stood leave pivot.step.leave.side place sum ne ∙ sym leaves_none)
      | inr other ↦ number_outside p at (number_at outline.levels.items place) sum k is inside (was_out p at pivot k turn inside other out)
    ]
  where
    leaves_none : numbers_of (lines p) sum.by.items (name_at p pivot.step.leave.at) ≡ pos 0
    leaves_none =
        let there : (get_or (lines p) pivot.step.leave.at any_line).name ≡ name_at p pivot.step.leave.at = name_there p pivot.step.leave.at any_line turn.sized.leave_at in
        subst (λ (n : RowName). numbers_of (lines p) sum.by.items n ≡ pos 0) there
        (elim (is.inside pivot.step.leave.at any_line turn.sized.leave_at) [
          | inl outside ↦ absurd (no-side at (name_at p pivot.step.leave.at) pivot.step.leave.side (subst (λ (n : RowName). IsOutsideLine at n) there outside) turn.exchange.leaves)
          | inr none ↦ none
        ])

same_row : (p : Problem) (at : List Mark) (outline : Outline) (place : ℕ) (sum : LevelSum) (pivot : Pivot) (enter leave : LineFacts) → place < length outline.levels.items → enter ≡ get_or outline.lines.items pivot.step.enter.at enter → leave ≡ get_or outline.lines.items pivot.step.leave.at leave
    → enter.level ≢ place → leave.level ≢ place → in_list sum.by.items pivot.step.enter.at ≡ pos 0 → IsOutline p outline → IsExchangePivot p at pivot → IsLevelSum p at (number_at outline.levels.items place) sum
    → HasLevelRow p (next_marks p pivot at) (number_at outline.levels.items place) (unsigned_abs sum.unit) (unsigned_abs sum.own) (numbers_of (lines p) sum.by.items)
same_row p at outline place sum pivot enter leave within enter_is leave_is enter_ne leave_ne none outline_is turn is =
    divided_row_is_row p (next_marks p pivot at) (number_at outline.levels.items place) (unsigned_abs sum.unit) (1 * unsigned_abs sum.own) (unsigned_abs sum.own) (sum_by 1 is.there.row.by (pos 0) (numbers_of (lines p) pivot.by.items)) (numbers_of (lines p) sum.by.items)
    (exchanged-multiple p at (swap_of p pivot.step) (number_at outline.levels.items place) (unsigned_abs sum.unit) (unsigned_abs sum.own) (unsigned_abs pivot.size) 1 is.there.row.by (numbers_of (lines p) pivot.by.items) (pos 0) (pos 0)
    turn.there.whole turn.there.corner turn.exchange is.there.row.row turn.pivot_is
    (entering_changes p at outline place sum pivot (pos 0) enter any_level within enter_is (sym (no_entering enter pivot place sum enter_ne none)) outline_is turn is)
    (record { above = omega arith; same = zero-mul_ℤ (pos (unsigned_abs pivot.size)) ∙ sym (zero-mul_ℤ (pos 1)) }))
    (record {
      factor = 1;
      above = omega arith;
      own_is = refl;
      same = λ k d inside out.
          let there : (get_or (lines p) k d).name ≡ name_at p k = name_there p k d inside in
          let number : is.there.row.by (get_or (lines p) k d).name ≡ numbers_of (lines p) sum.by.items (get_or (lines p) k d).name =
          subst (λ (n : RowName). is.there.row.by n ≡ numbers_of (lines p) sum.by.items n) (sym there)
          (by_is p at outline place sum pivot leave k within leave_is leave_ne outline_is turn is inside (subst (λ (n : RowName). IsOutsideLine (next_marks p pivot at) n) there out)) in
          ap (λ (z : ℤ). pos 1 *ℤ z) (sym number)
          ∙ sym (plus_none (pos 1 *ℤ is.there.row.by (get_or (lines p) k d).name) (pos 0 *ℤ numbers_of (lines p) pivot.by.items (get_or (lines p) k d).name) (zero-mul_ℤ (numbers_of (lines p) pivot.by.items (get_or (lines p) k d).name)));
      lowest = λ g divides each. is.there.row.row.lowest g divides
          (λ k d inside under over.
          let there : (get_or (lines p) k d).name ≡ name_at p k = name_there p k d inside in
          let out : IsOutsideLine at (name_at p k) = subst (λ (n : RowName). IsOutsideLine at n) there (record { under = under; over = over }) in
          let number : is.there.row.by (get_or (lines p) k d).name ≡ numbers_of (lines p) sum.by.items (get_or (lines p) k d).name =
          subst (λ (n : RowName). is.there.row.by n ≡ numbers_of (lines p) sum.by.items n) (sym there) (number_outside p at (number_at outline.levels.items place) sum k is inside out) in
          subst (λ (z : ℤ). g ∣ unsigned_abs z) (sym number)
          (elim (cases_eq k pivot.step.enter.at) [
            | inl e ↦
                let zero : numbers_of (lines p) sum.by.items (get_or (lines p) k d).name ≡ pos 0 =
                ap (numbers_of (lines p) sum.by.items) (there ∙ ap (λ (j : ℕ). name_at p j) e) ∙ number_there p sum.by.items pivot.step.enter.at turn.there.whole is.sized.count_is turn.sized.enter_at ∙ none in
                subst (λ (z : ℤ). g ∣ unsigned_abs z) (sym zero) (dvd-zero g)
            | inr ne ↦ each k d inside (subst (λ (n : RowName). IsOutsideLine (next_marks p pivot at) n) (sym there) (stays_out p at pivot k turn inside ne out))
          ]));
    })

same_fits : (p : Problem) (at : List Mark) (outline : Outline) (place : ℕ) (sum : LevelSum) (pivot : Pivot) (enter leave : LineFacts) → place < length outline.levels.items → enter ≡ get_or outline.lines.items pivot.step.enter.at enter → leave ≡ get_or outline.lines.items pivot.step.leave.at leave
    → enter.level ≢ place → leave.level ≢ place → IsOutline p outline → IsExchangePivot p at pivot → IsLevelSum p at (number_at outline.levels.items place) sum
    → IsFittingRow p (next_marks p pivot at) (number_at outline.levels.items place) (unsigned_abs sum.unit) (unsigned_abs sum.own) (numbers_of (lines p) sum.by.items)
same_fits p at outline place sum pivot enter leave within enter_is leave_is enter_ne leave_ne outline_is turn is = record {
  scale_fits = is.fitting.scale_fits;
  outside_fit = λ k d inside out. subst IsFitting (sym (at_place (lines p) sum.by.items k d (lines_apart p turn.there.whole) is.sized.count_is inside)) (is.sized.fits k (pos 0) (omega (arith, inside, is.sized.count_is)));
  own_fit = λ k d inside own out side.
      let there : (get_or (lines p) k d).name ≡ name_at p k = name_there p k d inside in
      is.fitting.own_fit k d inside own
      (subst (λ (n : RowName). IsOutsideLine at n) (sym there)
      (was_out p at pivot k turn inside (other_place p outline place pivot.step.leave.at k leave d outline_is within leave_is leave_ne inside own) (subst (λ (n : RowName). IsOutsideLine (next_marks p pivot at) n) there out)))
      side;
  inside_fit = λ k d inside own side stood i.
      let there : (get_or (lines p) k d).name ≡ name_at p k = name_there p k d inside in
      is.fitting.inside_fit k d inside own side stood
      (subst (λ (n : RowName). IsIn (place_of n stood) at) (sym there)
      (was_in p at pivot k stood turn inside (other_place p outline place pivot.step.enter.at k enter d outline_is within enter_is enter_ne inside own) (subst (λ (n : RowName). IsIn (place_of n stood) (next_marks p pivot at)) there i)));
}

-- a row whose level has neither of the two lines, and in which the entering one has no number
pub untouched_level : (p : Problem) (at : List Mark) (outline : Outline) (place : ℕ) (sum : LevelSum) (pivot : Pivot) (enter leave : LineFacts) → place < length outline.levels.items → enter ≡ get_or outline.lines.items pivot.step.enter.at enter → leave ≡ get_or outline.lines.items pivot.step.leave.at leave
    → enter.level ≢ place → leave.level ≢ place → in_list sum.by.items pivot.step.enter.at ≡ pos 0 → IsOutline p outline → IsExchangePivot p at pivot → IsLevelSum p at (number_at outline.levels.items place) sum → IsLevelSum p (next_marks p pivot at) (number_at outline.levels.items place) sum
untouched_level p at outline place sum pivot enter leave within enter_is leave_is enter_ne leave_ne none outline_is turn is =
    let there : IsThere p (next_marks p pivot at) = next_is_there p at pivot turn in
    record {
      sized = is.sized;
      there = record {
        sound = whole_is_sound p there.whole;
        corner = there.corner;
        rays = there.rays;
        unit_is = is.there.unit_is;
        row = same_row p at outline place sum pivot enter leave within enter_is leave_is enter_ne leave_ne none outline_is turn is;
        cost_is = next_cost p at outline place sum pivot enter sum.cost within enter_is outline_is turn is (same_cost (entering_of enter pivot place sum) pivot sum (no_entering enter pivot place sum enter_ne none));
        lowest = is.there.lowest;
      };
      fitting = same_fits p at outline place sum pivot enter leave within enter_is leave_is enter_ne leave_ne outline_is turn is;
      inside = λ k d inside.
          let there : (get_or (lines p) k d).name ≡ name_at p k = name_there p k d inside in
          elim (cases_eq k pivot.step.enter.at) [
            | inl e ↦ inr (at_place (lines p) sum.by.items k d (lines_apart p turn.there.whole) is.sized.count_is inside ∙ ap (in_list sum.by.items) e ∙ none)
            | inr ne ↦
                elim (is.inside k d inside) [
                  | inl out ↦ inl (subst (λ (n : RowName). IsOutsideLine (next_marks p pivot at) n) (sym there) (stays_out p at pivot k turn inside ne (subst (λ (n : RowName). IsOutsideLine at n) there out)))
                  | inr zero ↦ inr zero
                ]
          ];
    }

-- the same by the exchange
pub untouched_next : (outline : Outline) (kept : List (Option Inside)) (step : Step) (place : ℕ) (sum : LevelSum) (pivot : Pivot) (enter leave : LineFacts) → place < length outline.levels.items → pivot.step ≡ step → enter ≡ get_or outline.lines.items pivot.step.enter.at enter
    → leave ≡ get_or outline.lines.items pivot.step.leave.at leave → enter.level ≢ place → leave.level ≢ place → in_list sum.by.items pivot.step.enter.at ≡ pos 0 → GivesPivot kept step pivot → IsNextAt outline kept step place sum sum
untouched_next outline kept step place sum pivot enter leave within step_is enter_is leave_is enter_ne leave_ne none gives p at are is ex =
    subst (λ (t : Step). IsLevelSum p (exchanged (swap_of p t) at) (number_at outline.levels.items place) sum) step_is
    (untouched_level p at outline place sum pivot enter leave within enter_is leave_is enter_ne leave_ne none are.outline_is (gives p at are.there are.lines_are ex) is)
