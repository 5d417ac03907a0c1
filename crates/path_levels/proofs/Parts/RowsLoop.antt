-- The first rows of a level, joined line by line.
use Rattle.std.proofs.Common.{◌≡◌, ◌≢◌, ◌∙◌, ◌⊎◌, ℕ, zero, suc, ◌+◌, ◌-◌, ◌<◌, ◌≤◌, ◌++◌, Bool, true, false, cond, nat_eq, List, [], ◌∷◌, map, length, take, get_or, refl, sym, ap, subst, arith, inl, inr, ne_eqb}
use Rattle.std.specs.declared.option.Option.{Option}
use Rattle.std.specs.List.{filter}
use Rattle.std.proofs.lemmas.Bool.{cases_eq, cases_lt}
use Rattle.std.proofs.lemmas.List.{get_or_default, length-map}
use Rattle.std.proofs.Math.ListN.{get_or-map}
use Rattle.frac_core.specs.Fraction.{Fits}
use Rattle.problem_core.specs.declared.parts.Level.{Level}
use Rattle.problem_core.specs.declared.parts.Level.TheVariants.{Priority}
use Rattle.problem_core.specs.declared.parts.Mark.{Mark}
use Rattle.problem_core.specs.Layout.{Line, Problem, Row, line_of_row, lines, stay_lines}
use Rattle.problem_core.specs.Levels.{HasNoLevelWriting, IsLevelAt}
use Rattle.problem_core.specs.Unfit.{with_first_rows}
use Rattle.corner_lines.specs.Levels.LevelJoins.{level_count}
use Rattle.corner_lines.proofs.LevelRows.LevelRests.{all_rows_have_joined}
use Rattle.corner_lines.proofs.LevelRows.StayRows.{level_one as one-number}
use Rattle.path_lines.specs.Stops.{SumStop}
use Rattle.frac_core.specs.Stops.{IsRefused}
use Rattle.frac_core.specs.declared.memory.Stop.TheVariants.{Refused, OutOfMemory}
use Rattle.path_lines.specs.declared.table.Inside.{Inside}
use Rattle.path_lines.specs.Tables.{line_count}
use Rattle.path_levels.specs.declared.outline.Outline.{Outline}
use Rattle.path_levels.specs.declared.tableau.CornerLines.{CornerLines}
use Rattle.path_levels.specs.declared.outline.LevelFacts.{LevelFacts}
use Rattle.path_levels.specs.declared.outline.LineFacts.{LineFacts}
use Rattle.path_levels.specs.declared.sums.LevelSum.{LevelSum}
use Rattle.path_levels.specs.Outlines.{AreLevelFacts, IsFactsOf, IsOutline, number_at}
use Rattle.path_levels.specs.Levels.{IsLevelSum, IsSizedLevel}
use Rattle.path_levels.specs.Parts.{IsEmptySum, IsPartKept, IsPartSum, IsPartUnfit, level_there}
use Rattle.path_levels.specs.Rows.{AreKeptOf, IsRowsStop, IsRowsSum, RowsStop, level_place, level_size, unfit_rows}
use Rattle.path_levels.proofs.Parts.EmptyParts.{empty_fits, empty_part, none_joined, sum_fits}
use Rattle.path_levels.proofs.Parts.PartLines.{facts_at}
use Rattle.path_levels.proofs.Parts.Weighed.{level_lines, level_lines_more}
use Rattle.path_lines.proofs.Places.{any_line}
use Rattle.path_levels.proofs.OutlineParts.{number_is as number-there}

-- ---- how many lines the level has

-- a line of another level changes nothing
lines-other : (level n : ℕ) (ls : List Line) (d : Line) → n < length ls → (get_or ls n d).level ≢ level → level_lines level (suc n) ls ≡ level_lines level n ls
lines-other level n [] d within other = absurd (omega (arith, within))
lines-other level zero (l ∷ ls) d within other = ap (λ (b : Bool). length (cond {A = List Line} b (l ∷ []) [])) (ne_eqb l.level level other)
lines-other level (suc n) (l ∷ ls) d within other =
    by-test (nat_eq l.level level) (filter (λ l. nat_eq l.level level) (take (suc n) ls)) (filter (λ l. nat_eq l.level level) (take n ls)) (lines-other level n ls d (omega (arith, within)) other)
  where
    by-test : (b : Bool) (xs ys : List Line) → length xs ≡ length ys → length (cond b (l ∷ xs) xs) ≡ length (cond b (l ∷ ys) ys)
    by-test true xs ys e = ap suc e
    by-test false xs ys e = e

longer : (b : Bool) (l : Line) (xs ys : List Line) → length xs ≤ length ys → length (cond b (l ∷ xs) xs) ≤ length (cond b (l ∷ ys) ys)
longer true l xs ys h = omega (arith, h)
longer false l xs ys h = h

none-most : (level : ℕ) (ls : List Line) (n : ℕ) → level_lines level 0 ls ≤ n
none-most level [] n = omega arith
none-most level (l ∷ ls) n = omega arith

lines-rise : (level k n : ℕ) (ls : List Line) → k ≤ n → level_lines level k ls ≤ level_lines level n ls
lines-rise level zero n ls h = none-most level ls (level_lines level n ls)
lines-rise level (suc k) zero ls h = absurd (omega (arith, h))
lines-rise level (suc k) (suc n) [] h = omega arith
lines-rise level (suc k) (suc n) (l ∷ ls) h =
    longer (nat_eq l.level level) l (filter (λ l. nat_eq l.level level) (take k ls)) (filter (λ l. nat_eq l.level level) (take n ls)) (lines-rise level k n ls (omega (arith, h)))

taken-all : (n : ℕ) (ls : List Line) → length ls ≤ n → take n ls ≡ ls
taken-all zero [] h = refl
taken-all (suc n) [] h = refl
taken-all zero (l ∷ ls) h = absurd (omega (arith, h))
taken-all (suc n) (l ∷ ls) h = ap (λ (xs : List Line). l ∷ xs) (taken-all n ls (omega (arith, h)))

lines-all : (level n : ℕ) (ls : List Line) → length ls ≤ n → level_lines level n ls ≡ length (filter (λ l. nat_eq l.level level) ls)
lines-all level n ls h = ap (λ (xs : List Line). length (filter (λ l. nat_eq l.level level) xs)) (taken-all n ls h)

lines-within : (level n : ℕ) (ls : List Line) → level_lines level n ls ≤ length (filter (λ l. nat_eq l.level level) ls)
lines-within level n ls =
    let up : level_lines level n ls ≤ level_lines level (n + length ls) ls = lines-rise level n (n + length ls) ls (omega arith) in
    let all = lines-all level (n + length ls) ls (omega arith) in
    omega (arith, up, all)

-- its rows are among its lines
rows-within : (level : ℕ) (rows : List Row) (sl : List Line) → level_count level rows ≤ length (filter (λ l. nat_eq l.level level) (map line_of_row rows ++ sl))
rows-within level [] sl = omega arith
rows-within level (r ∷ rows) sl =
    by-test (nat_eq (1000 - r.rank) level) (filter (λ r. nat_eq (1000 - r.rank) level) rows) (filter (λ l. nat_eq l.level level) (map line_of_row rows ++ sl)) (rows-within level rows sl)
  where
    by-test : (b : Bool) (xs : List Row) (ys : List Line) → length xs ≤ length ys → length (cond b (r ∷ xs) xs) ≤ length (cond b (line_of_row r ∷ ys) ys)
    by-test true xs ys h = omega (arith, h)
    by-test false xs ys h = h

-- ---- levels of the outline

pub one-place : (p : Problem) (levels : List LevelFacts) (a b : ℕ) (d : LevelFacts) → AreLevelFacts p levels → a < length levels → b < length levels → number_at levels a ≡ number_at levels b → a ≡ b
one-place p levels a b d are here there same =
    let numbers : (get_or levels a d).number ≡ (get_or levels b d).number = sym (number-there levels a d here) ∙ same ∙ number-there levels b d there in
    elim (cases_lt a b) [
      | inl less ↦ let h : (get_or levels a d).number < (get_or levels b d).number = are.rising a b d less there in absurd (omega (arith, h, numbers))
      | inr from ↦
          elim (cases_lt b a) [
            | inl more ↦ let h : (get_or levels b d).number < (get_or levels a d).number = are.rising b a d more here in absurd (omega (arith, h, numbers))
            | inr not_more ↦ omega (arith, from, not_more)
          ]
    ]

level-there : (outline : Outline) (k : ℕ) (f : LineFacts) → k < length outline.lines.items → level_there outline k ≡ (get_or outline.lines.items k f).level
level-there outline k f within =
    get_or_default (map (λ (f : LineFacts). f.level) outline.lines.items) k 0 f.level (omega (arith, within, length-map outline.lines.items (λ (f : LineFacts). f.level)))
    ∙ get_or-map (λ (f : LineFacts). f.level) outline.lines.items k f

one-up : (k : ℕ) → k + 1 ≡ suc k
one-up k = omega arith

any-facts : LevelFacts
any-facts = record { level = Priority 0; number = 0 }

line-number : (p : Problem) (outline : Outline) (k : ℕ) (f : LineFacts) → IsOutline p outline → k < line_count p → (number_at outline.levels.items (get_or outline.lines.items k f).level ≡ (get_or (lines p) k any_line).level) × ((get_or outline.lines.items k f).level < length outline.levels.items)
line-number p outline k f is within =
    let facts : IsFactsOf outline.levels.items (get_or (lines p) k any_line) (get_or outline.lines.items k f) = facts_at outline.levels.items (lines p) outline.lines.items k any_line f is.lines_are within in
    (facts.number, facts.level)

-- ---- the loop

pub record AreJoinedRows (p : Problem) (at : List Mark) (outline : Outline) (place most upto first : ℕ) (sum : LevelSum) : Type 0 where
  pub below : first ≤ most
  pub count : (first ≡ level_place p (number_at outline.levels.items place) upto) ⊎ ((first ≡ most) × (most ≤ level_place p (number_at outline.levels.items place) upto))
  pub row : IsLevelSum (with_first_rows (number_at outline.levels.items place) first p) at (number_at outline.levels.items place) sum
  pub fitting : (j : ℕ) → j ≤ first → HasNoLevelWriting (with_first_rows (number_at outline.levels.items place) j p) at (number_at outline.levels.items place) → ⊥

-- of the lines before a place these first ones have joined
pub record AreJoined (outline : Outline) (kept : List (Option Inside)) (place most upto first : ℕ) (sum : LevelSum) : Type 0 where
  pub sized : IsSizedLevel (length kept) sum
  pub below : first ≤ most
  pub rows : (p : Problem) (at : List Mark) → number_at outline.levels.items place ≤ 1000 → AreKeptOf p at outline place most kept → AreJoinedRows p at outline place most upto first sum

pub none_yet : (outline : Outline) (kept : List (Option Inside)) (place most : ℕ) (sum : LevelSum) → IsSizedLevel (length kept) sum → IsEmptySum (length kept) sum → AreJoined outline kept place most 0 0 sum
none_yet outline kept place most sum sized empty = record {
  sized = sized;
  below = omega arith;
  rows = λ p at held are.
      let level : ℕ = number_at outline.levels.items place in
      let none : level_place p level 0 ≡ 0 = none_joined p level in
      let row : IsLevelSum (with_first_rows level 0 p) at level sum =
      subst (λ (n : ℕ). IsLevelSum (with_first_rows level n p) at level sum) none
      (empty_part p at level sum held are.there (subst (λ (n : ℕ). IsSizedLevel n sum) are.count sized) (subst (λ (n : ℕ). IsEmptySum n sum) are.count empty)) in
      record {
        below = omega arith;
        count = inl (sym none);
        row = row;
        fitting = λ j le unfit.
            let e : j ≡ 0 = omega (arith, le) in
            sum_fits (with_first_rows level 0 p) at level sum (empty_fits (length kept) sum empty) row (subst (λ (n : ℕ). HasNoLevelWriting (with_first_rows level n p) at level) e unfit);
      };
}

-- a line of another level
pub skip_other : (outline : Outline) (kept : List (Option Inside)) (place most k first : ℕ) (f : LineFacts) (sum : LevelSum) → place < length outline.levels.items → k < length kept → (get_or outline.lines.items k f).level ≢ place
    → AreJoined outline kept place most k first sum → AreJoined outline kept place most (k + 1) first sum
skip_other outline kept place most k first f sum there within other h = record {
  sized = h.sized;
  below = h.below;
  rows = λ p at held are.
      let level : ℕ = number_at outline.levels.items place in
      let j = h.rows p at held are in
      let inside : k < line_count p = omega (arith, within, are.count) in
      let line = line-number p outline k f are.outline_is inside in
      let same : level_place p level (k + 1) ≡ level_place p level k = ap (level_place p level) (one-up k) ∙ lines-other level k (lines p) any_line inside (λ e. other (one-place p outline.levels.items (get_or outline.lines.items k f).level place any-facts are.outline_is.levels_are line.1 there (line.0 ∙ e))) in
      record {
        below = j.below;
        count = elim j.count [
          | inl e ↦ inl (e ∙ sym same)
          | inr c ↦ inr (c.0, omega (arith, c.1, same))
        ];
        row = j.row;
        fitting = j.fitting;
      };
}

-- where so many have joined, no more do
pub skip_full : (outline : Outline) (kept : List (Option Inside)) (place most k first : ℕ) (sum : LevelSum) → most ≤ first → AreJoined outline kept place most k first sum → AreJoined outline kept place most (k + 1) first sum
skip_full outline kept place most k first sum full h = record {
  sized = h.sized;
  below = h.below;
  rows = λ p at held are.
      let level : ℕ = number_at outline.levels.items place in
      let j = h.rows p at held are in
      let below : first ≤ most = h.below in
      let e : first ≡ most = omega (arith, full, below) in
      let up : level_place p level k ≤ level_place p level (k + 1) = lines-rise level k (k + 1) (lines p) (omega arith) in
      record {
        below = j.below;
        count = inr (
          e,
          elim j.count [
            | inl c ↦ omega (arith, c, e, up)
            | inr c ↦ omega (arith, c.1, up)
          ],
        );
        row = j.row;
        fitting = j.fitting;
      };
}

-- what the next line starts from
record IsNextLine (p : Problem) (at : List Mark) (outline : Outline) (kept : List (Option Inside)) (place k first : ℕ) (sum : LevelSum) : Type 0 where
  pub first_is : first ≡ level_place p (number_at outline.levels.items place) k
  pub more : level_place p (number_at outline.levels.items place) (k + 1) ≡ first + 1
  pub part_kept : IsPartKept p at outline place (k + 1) kept
  pub part_sum : IsPartSum p at outline place k sum

next-line : (p : Problem) (at : List Mark) (outline : Outline) (kept : List (Option Inside)) (place most k first : ℕ) (f : LineFacts) (sum : LevelSum) → place < length outline.levels.items → k < length kept → first < most → (get_or outline.lines.items k f).level ≡ place
    → number_at outline.levels.items place ≤ 1000 → AreKeptOf p at outline place most kept → AreJoinedRows p at outline place most k first sum → IsNextLine p at outline kept place k first sum
next-line p at outline kept place most k first f sum there within less here held are j =
    let level : ℕ = number_at outline.levels.items place in
    let inside : k < line_count p = omega (arith, within, are.count) in
    let line = line-number p outline k f are.outline_is inside in
    let same : (get_or (lines p) k any_line).level ≡ level = sym line.0 ∙ ap (number_at outline.levels.items) here in
    let first_is : first ≡ level_place p level k = elim j.count [
      | inl e ↦ e
      | inr c ↦ absurd (omega (arith, c.0, less))
    ] in
    let more : level_place p level (k + 1) ≡ level_place p level k + 1 = ap (level_place p level) (one-up k) ∙ level_lines_more level k (lines p) any_line inside same in
    record {
      first_is = first_is;
      more = omega (arith, more, first_is);
      part_kept = record {
        outline_is = are.outline_is;
        there = are.there;
        within = there;
        held = held;
        count = are.count;
        each = λ i d g before in_p of.
            let up : level_place p level i ≤ level_place p level k = lines-rise level i k (lines p) (omega (arith, before)) in
            are.each i d g in_p of (omega (arith, up, first_is, less));
      };
      part_sum = subst (λ (n : ℕ). IsLevelSum (with_first_rows level n p) at level sum) first_is j.row;
    }

-- a line of the level joins
pub join_next : (outline : Outline) (kept : List (Option Inside)) (place most k first : ℕ) (f : LineFacts) (sum next : LevelSum) → length kept ≡ length outline.lines.items → place < length outline.levels.items → k < length kept → first < most → (get_or outline.lines.items k f).level ≡ place
    → Fits next.cost → IsSizedLevel (length kept) next
    → ((p : Problem) (at : List Mark) (there : ℕ) → level_there outline k ≡ there → IsPartKept p at outline there (k + 1) kept → IsPartSum p at outline there k sum → IsPartSum p at outline there (k + 1) next)
    → AreJoined outline kept place most k first sum → AreJoined outline kept place most (k + 1) (first + 1) next
join_next outline kept place most k first f sum next long there within less here fits sized step h = record {
  sized = sized;
  below = omega (arith, less);
  rows = λ p at held are.
      let level : ℕ = number_at outline.levels.items place in
      let j = h.rows p at held are in
      let n = next-line p at outline kept place most k first f sum there within less here held are j in
      let row : IsLevelSum (with_first_rows level (first + 1) p) at level next = subst (λ (n : ℕ). IsLevelSum (with_first_rows level n p) at level next) n.more (step p at place (level-there outline k f (omega (arith, within, long)) ∙ here) n.part_kept n.part_sum) in
      record {
        below = omega (arith, less);
        count = inl (sym n.more);
        row = row;
        fitting = λ i le unfit.
            elim (cases_eq i (first + 1)) [
              | inl e ↦ sum_fits (with_first_rows level (first + 1) p) at level next fits row (subst (λ (n : ℕ). HasNoLevelWriting (with_first_rows level n p) at level) e unfit)
              | inr ne ↦ j.fitting i (omega (arith, le, ne)) unfit
            ];
      };
}

-- or does not fit
pub join_unfit : (corner : CornerLines) (place most k first : ℕ) (f : LineFacts) (sum : LevelSum) (level : Level) (d : LevelFacts) → length corner.lines.now ≡ length corner.outline.now.lines.items → place < length corner.outline.now.levels.items → k < length corner.lines.now → first < most → (get_or corner.outline.now.lines.items k f).level ≡ place
    → level ≡ (get_or corner.outline.now.levels.items place d).level
    → ((p : Problem) (at : List Mark) (there : ℕ) → level_there corner.outline.now k ≡ there → IsPartKept p at corner.outline.now there (k + 1) corner.lines.now → IsPartSum p at corner.outline.now there k sum → IsPartUnfit p at corner.outline.now there (k + 1))
    → AreJoined corner.outline.now corner.lines.now place most k first sum → ((p : Problem) → IsOutline p corner.outline.now → number_at corner.outline.now.levels.items place ≤ 1000) → IsRowsStop corner place most (unfit_rows level (first + 1))
join_unfit corner place most k first f sum name d long there within less here name_is step h held p at are =
    let level : ℕ = number_at corner.outline.now.levels.items place in
    let low : level ≤ 1000 = held p are.outline_is in
    let j = h.rows p at low are in
    let n = next-line p at corner.outline.now corner.lines.now place most k first f sum there within less here low are j in
    let at_level : IsLevelAt p name level = subst (IsLevelAt p name) (sym (number-there corner.outline.now.levels.items place d there)) (subst (λ (l : Level). IsLevelAt p l (get_or corner.outline.now.levels.items place d).number) (sym name_is) (are.outline_is.levels_are.each place d there)) in
    let unfit : HasNoLevelWriting (with_first_rows level (first + 1) p) at level = subst (λ (n : ℕ). HasNoLevelWriting (with_first_rows level n p) at level) n.more (step p at place (level-there corner.outline.now k f (omega (arith, within, long)) ∙ here) n.part_kept n.part_sum) in
    let whole : level_place p level (k + 1) ≤ level_size p level = lines-within level (k + 1) (lines p) in (
      at_level,
      omega (arith, less),
      record {
        unfit = (level, at_level, omega arith, omega (arith, whole, n.more), unfit);
        before = λ i lt (m, at_m, above, size, none).
            let e : m ≡ level = one-number p name m level are.there.whole at_m at_level in
            j.fitting i (omega (arith, lt)) (subst (λ (m : ℕ). HasNoLevelWriting (with_first_rows m i p) at m) e none);
      },
    )

pub stop_is : (corner : CornerLines) (place most k first : ℕ) (f : LineFacts) (sum : LevelSum) (d : LevelFacts) (stop : SumStop) (out : RowsStop) → length corner.lines.now ≡ length corner.outline.now.lines.items → place < length corner.outline.now.levels.items → k < length corner.lines.now → first < most → (get_or corner.outline.now.lines.items k f).level ≡ place
    → (IsRefused stop → out ≡ unfit_rows (get_or corner.outline.now.levels.items place d).level (first + 1)) → (stop ≡ OutOfMemory → out ≡ OutOfMemory)
    → (IsRefused stop → (p : Problem) (at : List Mark) (there : ℕ) → level_there corner.outline.now k ≡ there → IsPartKept p at corner.outline.now there (k + 1) corner.lines.now → IsPartSum p at corner.outline.now there k sum → IsPartUnfit p at corner.outline.now there (k + 1))
    → AreJoined corner.outline.now corner.lines.now place most k first sum → ((p : Problem) → IsOutline p corner.outline.now → number_at corner.outline.now.levels.items place ≤ 1000) → IsRowsStop corner place most out
stop_is corner place most k first f sum d (Refused cause) out long there within less here unfit memory step h held =
    subst (IsRowsStop corner place most) (sym (unfit tt)) (join_unfit corner place most k first f sum (get_or corner.outline.now.levels.items place d).level d long there within less here refl (step tt) h held)
stop_is corner place most k first f sum d OutOfMemory out long there within less here unfit memory step h held = subst (IsRowsStop corner place most) (sym (memory refl)) tt

-- ---- the end

pub rows_are : (outline : Outline) (kept : List (Option Inside)) (place most upto first : ℕ) (sum : LevelSum) → length kept ≤ upto → AreJoined outline kept place most upto first sum
    → (p : Problem) (at : List Mark) → number_at outline.levels.items place ≤ 1000 → AreKeptOf p at outline place most kept → IsRowsSum p at outline place most sum
rows_are outline kept place most upto first sum past h p at held are =
    let level : ℕ = number_at outline.levels.items place in
    let j = h.rows p at held are in
    let count = are.count in
    let all : level_place p level upto ≡ level_size p level = lines-all level upto (lines p) (omega (arith, past, count)) in
    record {
      whole = λ enough.
          let full : level_size p level ≤ first = elim j.count [
            | inl e ↦ omega (arith, e, all)
            | inr c ↦ omega (arith, c.0, enough)
          ] in
          let rows : level_count level p.rows ≤ level_size p level = rows-within level p.rows (stay_lines 1001 p.stays) in
          subst (λ (q : Problem). IsLevelSum q at level sum) (all_rows_have_joined p level first (omega (arith, rows, full))) j.row;
      fitting = λ name at_level i le (m, at_m, above, size, none).
          let e : m ≡ level = one-number p name m level are.there.whole at_m at_level in
          let within : i ≤ level_size p level = subst (λ (m : ℕ). i ≤ level_size p m) e size in
          let few : i ≤ first = elim j.count [
            | inl c ↦ omega (arith, c, all, within)
            | inr c ↦ omega (arith, c.0, le)
          ] in
          j.fitting i few (subst (λ (m : ℕ). HasNoLevelWriting (with_first_rows m i p) at m) e none);
    }
