-- A level's row and a pivot put together are a multiple of the level's row at the next corner.
use Rattle.std.proofs.Common.{◌≡◌, ◌≢◌, ◌∙◌, ℕ, ◌<◌, Bool, true, false, cond, List, length, get_or, ℤ, pos, ◌+ℤ◌, ◌-ℤ◌, ◌*ℤ◌, ◌<ℤ◌, neg_ℤ, unsigned_abs, sym, ap, ap₂, subst, arith, inl, inr, ◌⊎◌}
use Rattle.std.specs.List.{AllByRecursion as Each}
use Rattle.std.proofs.lemmas.Bool.{cases_Bool, cases_eq}
use Rattle.std.proofs.lemmas.Int.{ints, unsigned_abs-mul}
use Rattle.std.proofs.lemmas.List.Elements.{All-from_recursion, recursion_from_All}
use lib.IntN.{*ℤ_comm}
use Rattle.frac_core.proofs.Integers.{sign_cases}
use Rattle.problem_core.specs.declared.parts.Level.TheVariants.{Priority}
use Rattle.problem_core.specs.declared.parts.Mark.{Mark}
use Rattle.problem_core.specs.declared.parts.RowName.{RowName}
use Rattle.problem_core.specs.declared.parts.Side.{Side}
use Rattle.problem_core.specs.declared.parts.Side.TheVariants.{Under, Over}
use Rattle.problem_core.specs.Layout.{Problem, lines}
use Rattle.problem_core.specs.Corners.{IsIn, place, place_of}
use Rattle.corner_laws.proofs.Exchanged.{exchanged_in}
use Rattle.corner_laws.proofs.LinePlaces.{lines_apart}
use Rattle.corner_lines.specs.LineEquations.{IsOutsideLine}
use Rattle.corner_lines.specs.Levels.LevelRows.{AreFactors, IsLevelMultiple, inside_number, sum_by}
use Rattle.corner_lines.proofs.LevelRows.LevelExchanges.{by-sides, exchanged-multiple, inside-numbers}
use Rattle.path_lines.specs.declared.exchange.Pivot.{Pivot}
use Rattle.path_lines.specs.declared.numbers.Wide.{Wide}
use Rattle.path_lines.specs.Numbers.{number_at as in_list}
use Rattle.path_lines.specs.Exchanges.Pivots.{next_marks}
use Rattle.path_lines.specs.Tables.{line_count, name_at, numbers_of, swap_of}
use Rattle.path_lines.proofs.Exchanges.EnteringLine.{at_place}
use Rattle.path_lines.proofs.Exchanges.Exchanging.{one_side}
use Rattle.path_lines.proofs.Places.{any_line, name_there, names_differ, number_there}
use Rattle.path_levels.specs.declared.carried.Factors.{Factors}
use Rattle.path_levels.specs.declared.outline.Outline.{Outline}
use Rattle.path_levels.specs.declared.outline.LevelFacts.{LevelFacts}
use Rattle.path_levels.specs.declared.outline.LineFacts.{LineFacts}
use Rattle.path_levels.specs.declared.sums.LevelSum.{LevelSum}
use Rattle.path_levels.specs.Exchanges.Carried.{AreSharing, IsCarriedBy}
use Rattle.path_levels.specs.Outlines.{IsFactsOf, IsOutline, number_at}
use Rattle.path_levels.specs.Levels.{IsLevelSum}
use Rattle.path_levels.specs.Shares.{before_of, entering_of, stood_of}
use Rattle.path_levels.specs.Exchanges.Pivots.{IsExchangePivot, IsMultipleAt}
use Rattle.path_levels.proofs.Counting.LineShares.{stood_line}
use Rattle.corner_lines.proofs.Lines.LineWritings.{no-side}
use Rattle.frac_core.proofs.Numbers.{zero-sum as both_zero, pos-size as up}
use Rattle.frac_core.proofs.Divisors.{size_above as some_up}
use Rattle.problem_core.proofs.Marks.{entered-in as enter_in, kept-in as kept_in}
use Rattle.path_levels.proofs.Parts.PartLines.{facts_at}

-- ---- which lines are outside

pub stays_out : (p : Problem) (at : List Mark) (pivot : Pivot) (k : ℕ) → IsExchangePivot p at pivot → k < line_count p → k ≢ pivot.step.enter.at → IsOutsideLine at (name_at p k) → IsOutsideLine (next_marks p pivot at) (name_at p k)
stays_out p at pivot k is within ne out = record { under = away Under out.under; over = away Over out.over }
  where
    away : (side : Side) → (IsIn (place_of (name_at p k) side) at → ⊥) → IsIn (place_of (name_at p k) side) (next_marks p pivot at) → ⊥
    away side none inside =
        elim (exchanged_in (swap_of p pivot.step) at (place_of (name_at p k) side) inside) [
          | inl same ↦ names_differ p k pivot.step.enter.at is.there.whole within is.sized.enter_at ne (by-sides (name_at p k) (name_at p pivot.step.enter.at) side pivot.step.enter.side same).0
          | inr was ↦ none was.0
        ]

pub leaves_out : (p : Problem) (at : List Mark) (pivot : Pivot) → IsExchangePivot p at pivot → pivot.step.enter.at ≢ pivot.step.leave.at → IsOutsideLine (next_marks p pivot at) (name_at p pivot.step.leave.at)
leaves_out p at pivot is apart = record { under = away Under; over = away Over }
  where
    away : (side : Side) → IsIn (place_of (name_at p pivot.step.leave.at) side) (next_marks p pivot at) → ⊥
    away side inside =
        elim (exchanged_in (swap_of p pivot.step) at (place_of (name_at p pivot.step.leave.at) side) inside) [
          | inl same ↦ names_differ p pivot.step.leave.at pivot.step.enter.at is.there.whole is.sized.leave_at is.sized.enter_at (λ e. apart (sym e)) (by-sides (name_at p pivot.step.leave.at) (name_at p pivot.step.enter.at) side pivot.step.enter.side same).0
          | inr was ↦ was.1 (ap (λ (s : Side). place_of (name_at p pivot.step.leave.at) s) (one_side p at (name_at p pivot.step.leave.at) side pivot.step.leave.side is.there was.0 is.exchange.leaves))
        ]

pub was_out : (p : Problem) (at : List Mark) (pivot : Pivot) (k : ℕ) → IsExchangePivot p at pivot → k < line_count p → k ≢ pivot.step.leave.at → IsOutsideLine (next_marks p pivot at) (name_at p k) → IsOutsideLine at (name_at p k)
was_out p at pivot k is within ne out = record { under = λ i. out.under (stay Under i); over = λ i. out.over (stay Over i) }
  where
    stay : (side : Side) → IsIn (place_of (name_at p k) side) at → IsIn (place_of (name_at p k) side) (next_marks p pivot at)
    stay side inside = kept_in (swap_of p pivot.step) at (place_of (name_at p k) side) inside (λ same. names_differ p k pivot.step.leave.at is.there.whole within is.sized.leave_at ne (by-sides (name_at p k) (name_at p pivot.step.leave.at) side pivot.step.leave.side same).0)

pub enters_in : (p : Problem) (at : List Mark) (pivot : Pivot) (k : ℕ) → IsExchangePivot p at pivot → IsOutsideLine (next_marks p pivot at) (name_at p k) → k ≢ pivot.step.enter.at
enters_in p at pivot k is out e =
    no-side (next_marks p pivot at) (name_at p pivot.step.enter.at) pivot.step.enter.side (subst (λ (j : ℕ). IsOutsideLine (next_marks p pivot at) (name_at p j)) e out) (enter_in (swap_of p pivot.step) at is.exchange.leaves)

-- a line with a number in the pivot is outside, but for the leaving one
has_number_out : (p : Problem) (at : List Mark) (pivot : Pivot) (k : ℕ) → IsExchangePivot p at pivot → k < line_count p → k ≢ pivot.step.leave.at → (numbers_of (lines p) pivot.by.items (name_at p k) ≢ pos 0) → IsOutsideLine at (name_at p k)
has_number_out p at pivot k is within ne some = record { under = λ i. some (none Under i); over = λ i. some (none Over i) }
  where
    none : (side : Side) → IsIn (place_of (name_at p k) side) at → numbers_of (lines p) pivot.by.items (name_at p k) ≡ pos 0
    none side inside =
        let there : (get_or (lines p) k any_line).name ≡ name_at p k = name_there p k any_line within in
        subst (λ (n : RowName). numbers_of (lines p) pivot.by.items n ≡ pos 0) there
        (is.pivot_is.inside_zero side k any_line within (subst (λ (n : RowName). IsIn (place_of n side) at) (sym there) inside)
        (λ same. names_differ p k pivot.step.leave.at is.there.whole within is.sized.leave_at ne (sym there ∙ same)))

not_zero : (n : ℕ) (z : ℤ) → 0 < n → z ≡ neg_ℤ (pos n) → z ≢ pos 0
not_zero n z some e none = omega (arith, ints, some, e, none)

pub enter_out : (p : Problem) (at : List Mark) (pivot : Pivot) → IsExchangePivot p at pivot → pivot.step.enter.at ≢ pivot.step.leave.at → IsOutsideLine at (name_at p pivot.step.enter.at)
enter_out p at pivot is apart = has_number_out p at pivot pivot.step.enter.at is is.sized.enter_at apart (not_zero (unsigned_abs pivot.size) (numbers_of (lines p) pivot.by.items (name_at p pivot.step.enter.at)) is.pivot_is.size_positive is.pivot_is.enter_is)

-- ---- the row before

-- the full row of the level, at a line inside
pub stood_there : (p : Problem) (at : List Mark) (outline : Outline) (place : ℕ) (sum : LevelSum) (k : ℕ) (side : Side) (f : LineFacts) (d : LevelFacts) → IsOutline p outline → (is : IsLevelSum p at (number_at outline.levels.items place) sum) → place < length outline.levels.items → k < line_count p
    → f ≡ get_or outline.lines.items k f → IsIn (place_of (name_at p k) side) at → is.there.row.by (name_at p k) ≡ stood_of f side place sum
stood_there p at outline place sum k side f d outline_is is within inside f_is i =
    let there : (get_or (lines p) k any_line).name ≡ name_at p k = name_there p k any_line inside in
    let facts : IsFactsOf outline.levels.items (get_or (lines p) k any_line) f = subst (IsFactsOf outline.levels.items (get_or (lines p) k any_line)) (sym f_is) (facts_at outline.levels.items (lines p) outline.lines.items k any_line f outline_is.lines_are inside) in
    subst (λ (n : RowName). is.there.row.by n ≡ stood_of f side place sum) there
    (All-from_recursion (λ l. (s : Side) → IsIn (place_of l.name s) at → is.there.row.by l.name ≡ inside_number s (number_at outline.levels.items place) (unsigned_abs sum.unit) (unsigned_abs sum.own) l) (lines p)
    (inside-numbers p at (number_at outline.levels.items place) (unsigned_abs sum.unit) (unsigned_abs sum.own) is.there.row.by is.there.row.row) k any_line inside side (subst (λ (n : RowName). IsIn (place_of n side) at) (sym there) i)
    ∙ sym (stood_line side p outline.levels.items place (get_or (lines p) k any_line) f d sum outline_is.levels_are within facts))

-- and at one outside
pub number_outside : (p : Problem) (at : List Mark) (level : ℕ) (sum : LevelSum) (k : ℕ) → (is : IsLevelSum p at level sum) → k < line_count p → IsOutsideLine at (name_at p k) → is.there.row.by (name_at p k) ≡ numbers_of (lines p) sum.by.items (name_at p k)
number_outside p at level sum k is within out =
    let there : (get_or (lines p) k any_line).name ≡ name_at p k = name_there p k any_line within in
    subst (λ (n : RowName). is.there.row.by n ≡ numbers_of (lines p) sum.by.items n) there (is.there.row.outside k any_line within (subst (λ (n : RowName). IsOutsideLine at n) (sym there) out))

pub before_turn : (f : LineFacts) (pivot : Pivot) (place : ℕ) (sum : LevelSum) → pivot.is_turn ≡ true → before_of f pivot place sum ≡ stood_of f pivot.step.leave.side place sum
before_turn f pivot place sum e = ap (λ (b : Bool). cond b (stood_of f pivot.step.leave.side place sum) (in_list sum.by.items pivot.step.enter.at)) e

pub before_other : (f : LineFacts) (pivot : Pivot) (place : ℕ) (sum : LevelSum) → pivot.is_turn ≡ false → before_of f pivot place sum ≡ in_list sum.by.items pivot.step.enter.at
before_other f pivot place sum e = ap (λ (b : Bool). cond b (stood_of f pivot.step.leave.side place sum) (in_list sum.by.items pivot.step.enter.at)) e

pub before_is : (p : Problem) (at : List Mark) (outline : Outline) (place : ℕ) (sum : LevelSum) (pivot : Pivot) (f : LineFacts) (d : LevelFacts) → IsOutline p outline → (is : IsLevelSum p at (number_at outline.levels.items place) sum) → place < length outline.levels.items
    → IsExchangePivot p at pivot → f ≡ get_or outline.lines.items pivot.step.enter.at f → is.there.row.by (name_at p pivot.step.enter.at) ≡ before_of f pivot place sum
before_is p at outline place sum pivot f d outline_is is within turn f_is =
    elim (cases_Bool pivot.is_turn) [
      | inl yes_turn ↦
          let one : pivot.step.enter.at ≡ pivot.step.leave.at = turn.sized.turn yes_turn in
          stood_there p at outline place sum pivot.step.enter.at pivot.step.leave.side f d outline_is is within turn.sized.enter_at f_is (subst (λ (j : ℕ). IsIn (place_of (name_at p j) pivot.step.leave.side) at) (sym one) turn.exchange.leaves)
          ∙ sym (before_turn f pivot place sum yes_turn)
      | inr no_turn ↦
          number_outside p at (number_at outline.levels.items place) sum pivot.step.enter.at is turn.sized.enter_at (enter_out p at pivot turn (turn.sized.other no_turn))
          ∙ number_there p sum.by.items pivot.step.enter.at turn.there.whole is.sized.count_is turn.sized.enter_at
          ∙ sym (before_other f pivot place sum no_turn)
    ]

-- ---- the row after

factors_are : (size n : ℤ) (factors : Factors) → pos 0 <ℤ size → AreSharing size n factors → AreFactors (unsigned_abs size) n (unsigned_abs factors.row) factors.pivot
factors_are size n factors above are = record {
  above = some_up factors.row are.above;
  same = ap (λ (z : ℤ). factors.pivot *ℤ z) (up size above) ∙ are.same ∙ ap (λ (z : ℤ). n *ℤ z) (sym (up factors.row are.above));
}

-- the new numbers by places
carried_at : (p : Problem) (at : List Mark) (outline : Outline) (place : ℕ) (sum : LevelSum) (pivot : Pivot) (factors : Factors) (leaving : ℤ) (wide : Wide) (f : LineFacts) (d : LevelFacts) (k : ℕ) → IsOutline p outline → (is : IsLevelSum p at (number_at outline.levels.items place) sum)
    → place < length outline.levels.items → IsExchangePivot p at pivot → f ≡ get_or outline.lines.items pivot.step.leave.at f → leaving ≡ factors.row *ℤ stood_of f pivot.step.leave.side place sum +ℤ in_list pivot.by.items pivot.step.leave.at *ℤ factors.pivot
    → pos 0 <ℤ factors.row → IsCarriedBy pivot sum factors leaving wide → k < line_count p → IsOutsideLine (next_marks p pivot at) (name_at p k)
    → sum_by (unsigned_abs factors.row) is.there.row.by factors.pivot (numbers_of (lines p) pivot.by.items) (name_at p k) ≡ in_list wide.by.items k
carried_at p at outline place sum pivot factors leaving wide f d k outline_is is within turn f_is leaving_is above carried inside out =
    let row_is : pos (unsigned_abs factors.row) ≡ factors.row = up factors.row above in
    let pivot_number : numbers_of (lines p) pivot.by.items (name_at p k) ≡ in_list pivot.by.items k = number_there p pivot.by.items k turn.there.whole turn.sized.count_is inside in
    let not_enter : k ≢ pivot.step.enter.at = enters_in p at pivot k turn out in
    elim (cases_eq k pivot.step.leave.at) [
      | inl e ↦
          let apart : pivot.step.enter.at ≢ pivot.step.leave.at = λ same. not_enter (e ∙ sym same) in
          let number : is.there.row.by (name_at p k) ≡ stood_of f pivot.step.leave.side place sum =
          subst (λ (j : ℕ). is.there.row.by (name_at p j) ≡ stood_of f pivot.step.leave.side place sum) (sym e)
          (stood_there p at outline place sum pivot.step.leave.at pivot.step.leave.side f d outline_is is within turn.sized.leave_at f_is turn.exchange.leaves) in
          ap₂ ◌+ℤ◌ (ap₂ ◌*ℤ◌ row_is number) (ap (λ (z : ℤ). factors.pivot *ℤ z) (pivot_number ∙ ap (in_list pivot.by.items) e) ∙ *ℤ_comm factors.pivot (in_list pivot.by.items pivot.step.leave.at))
          ∙ sym leaving_is ∙ sym (carried.leaves apart) ∙ ap (in_list wide.by.items) (sym e)
      | inr ne ↦
          let number : is.there.row.by (name_at p k) ≡ in_list sum.by.items k =
          number_outside p at (number_at outline.levels.items place) sum k is inside (was_out p at pivot k turn inside ne out) ∙ number_there p sum.by.items k turn.there.whole is.sized.count_is inside in
          ap₂ ◌+ℤ◌ (ap₂ ◌*ℤ◌ row_is number) (ap (λ (z : ℤ). factors.pivot *ℤ z) pivot_number) ∙ sym (carried.others k (omega (arith, inside, is.sized.count_is)) not_enter ne)
    ]

pub some_number : (z : ℤ) → ((pos 0 <ℤ z) ⊎ (pos 0 <ℤ neg_ℤ z)) → z ≢ pos 0
some_number z (inl a) e = omega (arith, ints, a, e)
some_number z (inr a) e = omega (arith, ints, a, e)

inside_at : (p : Problem) (at : List Mark) (level : ℕ) (sum : LevelSum) (pivot : Pivot) (factors : Factors) (leaving : ℤ) (wide : Wide) (k : ℕ) → IsLevelSum p at level sum → IsExchangePivot p at pivot → IsCarriedBy pivot sum factors leaving wide → k < line_count p
    → IsOutsideLine (next_marks p pivot at) (name_at p k) ⊎ (in_list wide.by.items k ≡ pos 0)
inside_at p at level sum pivot factors leaving wide k is turn carried inside =
    elim (cases_eq k pivot.step.enter.at) [
      | inl e ↦ inr (ap (in_list wide.by.items) e ∙ carried.enters)
      | inr not_enter ↦
          elim (cases_eq k pivot.step.leave.at) [
            | inl e ↦ inl (subst (λ (j : ℕ). IsOutsideLine (next_marks p pivot at) (name_at p j)) (sym e) (leaves_out p at pivot turn (λ same. not_enter (e ∙ sym same))))
            | inr ne ↦
                let there : (get_or (lines p) k any_line).name ≡ name_at p k = name_there p k any_line inside in
                elim (is.inside k any_line inside) [
                  | inl out ↦ inl (stays_out p at pivot k turn inside not_enter (subst (λ (n : RowName). IsOutsideLine at n) there out))
                  | inr none ↦
                      elim (sign_cases (numbers_of (lines p) pivot.by.items (name_at p k))) [
                        | inl zero ↦
                            inr (carried.others k (omega (arith, inside, is.sized.count_is)) not_enter ne
                            ∙ both_zero factors.row factors.pivot (in_list sum.by.items k) (in_list pivot.by.items k)
                            (sym (number_there p sum.by.items k turn.there.whole is.sized.count_is inside) ∙ ap (numbers_of (lines p) sum.by.items) (sym there) ∙ none)
                            (sym (number_there p pivot.by.items k turn.there.whole turn.sized.count_is inside) ∙ zero))
                        | inr some ↦ inl (stays_out p at pivot k turn inside not_enter (has_number_out p at pivot k turn inside ne (some_number (numbers_of (lines p) pivot.by.items (name_at p k)) some)))
                      ]
                ]
          ]
    ]

-- by what the entering line's number changes
pub entering_changes : (p : Problem) (at : List Mark) (outline : Outline) (place : ℕ) (sum : LevelSum) (pivot : Pivot) (n : ℤ) (enter : LineFacts) (d : LevelFacts) → place < length outline.levels.items → enter ≡ get_or outline.lines.items pivot.step.enter.at enter → n ≡ entering_of enter pivot place sum
    → IsOutline p outline → IsExchangePivot p at pivot → (is : IsLevelSum p at (number_at outline.levels.items place) sum)
    → Each (λ l. l.name ≡ name_at p pivot.step.enter.at → n ≡ is.there.row.by l.name -ℤ inside_number pivot.step.enter.side (number_at outline.levels.items place) (unsigned_abs sum.unit) (unsigned_abs sum.own) l) (lines p)
entering_changes p at outline place sum pivot n enter d within enter_is n_is outline_is turn is =
    recursion_from_All (λ l. l.name ≡ name_at p pivot.step.enter.at → n ≡ is.there.row.by l.name -ℤ inside_number pivot.step.enter.side (number_at outline.levels.items place) (unsigned_abs sum.unit) (unsigned_abs sum.own) l) (lines p)
    (λ k x inside same.
    let here : k ≡ pivot.step.enter.at = place_is p k pivot.step.enter.at turn inside turn.sized.enter_at (sym (name_there p k x inside) ∙ same) in
    let facts : IsFactsOf outline.levels.items (get_or (lines p) k x) enter =
    subst (IsFactsOf outline.levels.items (get_or (lines p) k x)) (ap (λ (j : ℕ). get_or outline.lines.items j enter) here ∙ sym enter_is) (facts_at outline.levels.items (lines p) outline.lines.items k x enter outline_is.lines_are inside) in
    n_is
    ∙ ap₂ ◌-ℤ◌ (sym (before_is p at outline place sum pivot enter d outline_is is within turn enter_is) ∙ ap is.there.row.by (sym same))
    (stood_line pivot.step.enter.side p outline.levels.items place (get_or (lines p) k x) enter d sum outline_is.levels_are within facts))
  where
    place_is : (p : Problem) (k e : ℕ) → IsExchangePivot p at pivot → k < line_count p → e < line_count p → name_at p k ≡ name_at p e → k ≡ e
    place_is p k e turn here there same =
        elim (cases_eq k e) [
          | inl yes_same ↦ yes_same
          | inr ne ↦ absurd (names_differ p k e turn.there.whole here there ne same)
        ]

pub multiple_at : (p : Problem) (at : List Mark) (outline : Outline) (place : ℕ) (sum : LevelSum) (pivot : Pivot) (factors : Factors) (n leaving : ℤ) (wide : Wide) (enter leave : LineFacts) (d : LevelFacts) → place < length outline.levels.items
    → enter ≡ get_or outline.lines.items pivot.step.enter.at enter → leave ≡ get_or outline.lines.items pivot.step.leave.at leave → n ≡ entering_of enter pivot place sum → AreSharing pivot.size n factors
    → leaving ≡ factors.row *ℤ stood_of leave pivot.step.leave.side place sum +ℤ in_list pivot.by.items pivot.step.leave.at *ℤ factors.pivot → IsCarriedBy pivot sum factors leaving wide
    → IsOutline p outline → IsExchangePivot p at pivot → IsLevelSum p at (number_at outline.levels.items place) sum → IsMultipleAt p (next_marks p pivot at) (number_at outline.levels.items place) sum.unit wide
multiple_at p at outline place sum pivot factors n leaving wide enter leave d within enter_is leave_is n_is sharing leaving_is carried outline_is turn is =
    let long : length wide.by.items ≡ line_count p = carried.count ∙ is.sized.count_is in
    let changes : Each (λ l. l.name ≡ name_at p pivot.step.enter.at → n ≡ is.there.row.by l.name -ℤ inside_number pivot.step.enter.side (number_at outline.levels.items place) (unsigned_abs sum.unit) (unsigned_abs sum.own) l) (lines p) =
    entering_changes p at outline place sum pivot n enter d within enter_is n_is outline_is turn is in
    record {
      by = sum_by (unsigned_abs factors.row) is.there.row.by factors.pivot (numbers_of (lines p) pivot.by.items);
      multiple =
          subst (λ (m : ℕ). IsLevelMultiple p (next_marks p pivot at) (number_at outline.levels.items place) (unsigned_abs sum.unit) m (sum_by (unsigned_abs factors.row) is.there.row.by factors.pivot (numbers_of (lines p) pivot.by.items)))
          (sym (ap unsigned_abs carried.own_is ∙ unsigned_abs-mul factors.row sum.own))
          (exchanged-multiple p at (swap_of p pivot.step) (number_at outline.levels.items place) (unsigned_abs sum.unit) (unsigned_abs sum.own) (unsigned_abs pivot.size) (unsigned_abs factors.row) is.there.row.by (numbers_of (lines p) pivot.by.items) n factors.pivot
          turn.there.whole turn.there.corner turn.exchange is.there.row.row turn.pivot_is changes (factors_are pivot.size n factors turn.sized.above sharing));
      outside = λ k x inside out.
          let there : (get_or (lines p) k x).name ≡ name_at p k = name_there p k x inside in
          ap (sum_by (unsigned_abs factors.row) is.there.row.by factors.pivot (numbers_of (lines p) pivot.by.items)) there
          ∙ carried_at p at outline place sum pivot factors leaving wide leave d k outline_is is within turn leave_is leaving_is sharing.above carried inside (subst (λ (m : RowName). IsOutsideLine (next_marks p pivot at) m) there out)
          ∙ sym (at_place (lines p) wide.by.items k x (lines_apart p turn.there.whole) long inside);
      inside = λ k x inside.
          let there : (get_or (lines p) k x).name ≡ name_at p k = name_there p k x inside in
          elim (inside_at p at (number_at outline.levels.items place) sum pivot factors leaving wide k is turn carried inside) [
            | inl out ↦ inl (subst (λ (m : RowName). IsOutsideLine (next_marks p pivot at) m) (sym there) out)
            | inr zero ↦ inr (at_place (lines p) wide.by.items k x (lines_apart p turn.there.whole) long inside ∙ zero)
          ];
    }

abbrev pub any_level : LevelFacts
any_level = record { level = Priority 0; number = 0 }

pub multiple_there : (p : Problem) (at : List Mark) (outline : Outline) (place : ℕ) (sum : LevelSum) (pivot : Pivot) (factors : Factors) (n leaving : ℤ) (wide : Wide) (enter leave : LineFacts) → place < length outline.levels.items
    → enter ≡ get_or outline.lines.items pivot.step.enter.at enter → leave ≡ get_or outline.lines.items pivot.step.leave.at leave → n ≡ entering_of enter pivot place sum → AreSharing pivot.size n factors
    → leaving ≡ factors.row *ℤ stood_of leave pivot.step.leave.side place sum +ℤ in_list pivot.by.items pivot.step.leave.at *ℤ factors.pivot → IsCarriedBy pivot sum factors leaving wide
    → IsOutline p outline → IsExchangePivot p at pivot → IsLevelSum p at (number_at outline.levels.items place) sum → IsMultipleAt p (next_marks p pivot at) (number_at outline.levels.items place) sum.unit wide
multiple_there p at outline place sum pivot factors n leaving wide enter leave within enter_is leave_is n_is sharing leaving_is carried outline_is turn is =
    multiple_at p at outline place sum pivot factors n leaving wide enter leave any_level within enter_is leave_is n_is sharing leaving_is carried outline_is turn is
