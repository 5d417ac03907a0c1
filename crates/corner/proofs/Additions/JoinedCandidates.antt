-- After rows have joined each outside mark with a negative column is of a listed line: `joined_candidates`.
use Rattle.std.proofs.Common.{◌≡◌, ◌≢◌, ◌∙◌, ℕ, ◌+◌, ◌*◌, ◌<◌, ◌++◌, ◌⊎◌, inl, inr, nat_eq, List, [], ◌∷◌, map, refl, sym, ap, ap₂, subst, arith, ℤ, pos, ◌+ℤ◌, ◌-ℤ◌, ◌*ℤ◌, All, AllPairs, Any, Contains, Some, mul-pos}
use Rattle.std.specs.List.{AllByRecursion as Each}
use Rattle.std.specs.declared.option.Option.{Option}
use Rattle.std.proofs.lemmas.List.Elements.{All-from_recursion, recursion_from_All}
use lib.IntN.{*ℤ_comm}
use borrow.Author.Differences.{ints}
use Rattle.frac_core.proofs.Integers.{mul-zero_ℤ, sign_cases, zero-add_ℤ, zero_from_mul}
use Rattle.problem_core.specs.declared.parts.Mark.{Mark}
use Rattle.problem_core.specs.declared.parts.RowName.{RowName}
use Rattle.problem_core.specs.declared.parts.RowName.TheVariants.{Held, Stay as StayOf}
use Rattle.problem_core.specs.declared.parts.Side.{Side}
use Rattle.problem_core.specs.declared.parts.Side.TheVariants.{Under, Over}
use Rattle.problem_core.specs.declared.parts.Stay.{Stay}
use Rattle.problem_core.specs.Layout.{Line, Problem, Row, line_of_row, lines, stay_lines, sum_of}
use Rattle.problem_core.specs.Layout as layout
use Rattle.problem_core.specs.Kept.{IsWhole}
use Rattle.problem_core.specs.Certificates.{Multipliers, over_weight, under_weight, weight_at}
use Rattle.problem_core.specs.Corners.{AreMultipliersAt, HasNegativeColumn, IsIn, IsLexNegative, column, place, place_of}
use Rattle.problem_core.proofs.Forms.{each-both, each-impl}
use Rattle.problem_core.proofs.Wholes.{whole-IsProblem}
use Rattle.corner_laws.specs.Lifts.{HasOneIn, with_rows}
use Rattle.corner_lines.specs.LineEquations.{deviation, sign_of}
use Rattle.corner_lines.specs.Levels.LevelRows.{IsPivot, line_numbers}
use Rattle.corner_lines.proofs.LevelRows.LevelExchanges.{by-sides}
use Rattle.corner_lines.proofs.Lines.LinePivots.{equation_is_pivot}
use Rattle.corner_lines.proofs.Lines.LineSums.{both-cancel}
use Rattle.corner_table.specs.Tables.{Lists, entry, line_slot, marks_at, number, problem_of, slot_at, standing_at}
use Rattle.corner_table.specs.Kept.{IsEquationAt, IsLineRow}
use Rattle.corner_joins.specs.Additions.Parts.{IsPartlyKept}
use Rattle.corner_view.specs.Seen.{AreCandidates, IsNamed}
use Rattle.corner_table.specs.Invariants.{name_of, names_of}
use Rattle.corner_table.specs.Reads.LevelNumbers.{side_share}
use Rattle.corner_joins.specs.Additions.JoinedLists.{AreRowsListed, IsFreeRow, IsRowListed}
use Rattle.corner.proofs.Attributes.AttrColumns.{negative_mark}
use Rattle.corner.proofs.Swaps.CandidatesAfter.{listed_name}
use Rattle.corner_lines.proofs.LevelRows.OtherNumbers.{other-number}
use Rattle.corner_exchange.proofs.Swaps.ColumnReturns.{free-side, inside_not_negative, negative-line, returned, unmoved-column}
use Rattle.corner_table.proofs.Basics.ListFacts.{from_map, to_map}
use Rattle.corner_table.proofs.Readings.MarkFacts.{inside_stands}
use Rattle.corner_table.proofs.Readings.ReadFacts.{is_some}
use Rattle.corner_view.proofs.Facts.{mark_named}
use Rattle.corner_table.proofs.Readings.SlotFacts.{any_impl, any_is}
use Rattle.corner_table.proofs.Readings.WritingFacts.{lines_apart}
use Rattle.frac_core.proofs.Numbers.{no-product as times-none, zero-parts as still-none, signed-not-zero as not_zero}
use Rattle.frac_core.proofs.Lists.{any-cases as any-first, any-here, pairs-rest, each-right as each-second, any-later as later-any}
use Rattle.problem_core.proofs.RowNames.{stay-not-held as stay-held}
use Rattle.corner_laws.proofs.MarkWritings.Lifts.{taken}
use Rattle.corner_lines.proofs.LevelRows.LevelRests.{below-other as held-less}
use Rattle.problem_core.proofs.Lines.{each-less as each_less, name-cases}
use Rattle.corner_laws.proofs.Counting.{head_pairs as pairs-first}
use Rattle.corner_exchange.proofs.Pivots.LineChanges.{cond-zero as row-none}

-- ---- a row that has joined

-- its line's numbers, which cancel; of the lines with a mark inside it alone has one
pub record IsRowOf (q : Problem) (next : List Mark) (r : Row) : Type 0 where
  pub held : Any (λ l. l ≡ line_of_row r) (lines q)
  pub side : Side
  pub inside : IsIn (place_of (Held r.id) side) next
  pub own : ℕ
  pub by : RowName → ℤ
  pub pivot : IsPivot q next (Held r.id) (Held r.id) own by

-- it costs nothing, or the lines that stand in it are listed
abbrev pub IsListedRow : Problem → List Mark → List RowName → Row → Type 0
IsListedRow q next names r = (h : IsRowOf q next r)
    × (IsFreeRow next r ⊎ ((name : RowName) → IsNamed q name → name ≢ Held r.id → h.by name ≢ pos 0 → Contains names name))

-- it costs nothing, or this line does not stand in it
abbrev IsClearRow : Problem → List Mark → RowName → Row → Type 0
IsClearRow q next name r = (h : IsRowOf q next r) × (IsFreeRow next r ⊎ (h.by name ≡ pos 0))

abbrev AreClear : Problem → List Mark → RowName → List Row → Type 0
AreClear q next name [] = Unit {0}
AreClear q next name (r ∷ rows) = (IsClearRow q next name r × Each (λ (s : Row). Held s.id ≢ Held r.id) rows) × AreClear q next name rows

-- ---- multipliers that are 0 at rows

record IsWithout (q : Problem) (next : List Mark) (rows : List Row) (m : Multipliers) : Type 0 where
  scales : (level : ℕ) → 0 < m.scale level
  cancel : (level v : ℕ) → sum_of (λ l. m.times level l.name *ℤ layout.coefficient v l.form) (lines q) ≡ pos 0
  inside_zero : (side : Side) → All (λ l. Each (λ (r : Row). l.name ≢ Held r.id) rows → IsIn (place_of l.name side) next → (level : ℕ) → column m side l level ≡ pos 0) (lines q)
  none : Each (λ (r : Row). (level : ℕ) → m.times level (Held r.id) ≡ pos 0) rows

less-none : (n : ℕ) (z : ℤ) → n ≡ 0 → pos n -ℤ z ≡ pos 0 → z ≡ pos 0
less-none n z e h = omega (arith, ints, e, h)

more-none : (n : ℕ) (z : ℤ) → n ≡ 0 → pos n +ℤ z ≡ pos 0 → z ≡ pos 0
more-none n z e h = omega (arith, ints, e, h)

-- a line's inside mark that costs nothing leaves it the multiplier 0
free-times : (side : Side) (m : Multipliers) (l : Line) (level : ℕ) → 0 < l.scale → side_share l.rel side 1 ≡ 0 → column m side l level ≡ pos 0 → m.times level l.name ≡ pos 0
free-times Under m l level above free e =
    zero_from_mul l.scale (m.times level l.name) above
    (less-none (m.scale level * under_weight l.rel (weight_at l level)) (pos l.scale *ℤ m.times level l.name) (times-none (m.scale level) (under_weight l.rel (weight_at l level)) (free-side l.rel Under (weight_at l level) free)) e)
free-times Over m l level above free e =
    zero_from_mul l.scale (m.times level l.name) above
    (more-none (m.scale level * over_weight l.rel (weight_at l level)) (pos l.scale *ℤ m.times level l.name) (times-none (m.scale level) (over_weight l.rel (weight_at l level)) (free-side l.rel Over (weight_at l level) free)) e)

-- what holds of the row's line
at_line : (q : Problem) (next : List Mark) (r : Row) (P : Line → Type 0) → IsRowOf q next r → All P (lines q) → P (line_of_row r)
at_line q next r P h all = any_is P (λ l. l ≡ line_of_row r) (lines q) all h.held (λ l p e. subst P e p)

without-free : (q : Problem) (next : List Mark) (r : Row) (rows : List Row) (m : Multipliers) → IsWhole q → IsRowOf q next r → IsFreeRow next r → Each (λ (s : Row). Held s.id ≢ Held r.id) rows → IsWithout q next rows m → IsWithout q next (r ∷ rows) m
without-free q next r rows m whole h free apart are = record {
  scales = are.scales;
  cancel = are.cancel;
  inside_zero = λ side k x lt others. are.inside_zero side k x lt others.1;
  none = (
    λ level.
        free-times h.side m (line_of_row r) level
        (at_line q next r (λ l. (0 < l.scale) × (0 < l.den)) h (whole-IsProblem q whole)).0
        (free h.side h.inside)
        (at_line q next r (λ l. Each (λ (s : Row). l.name ≢ Held s.id) rows → IsIn (place_of l.name h.side) next → (n : ℕ) → column m h.side l n ≡ pos 0) h (are.inside_zero h.side)
        (each-impl (λ (s : Row). Held s.id ≢ Held r.id) (λ (s : Row). Held r.id ≢ Held s.id) rows (λ s ne e. ne (sym e)) apart) h.inside level),
    are.none,
  );
}

-- those of another row that has joined
other-none : (q : Problem) (next : List Mark) (r s : Row) (h : IsRowOf q next r) → IsRowOf q next s → Held s.id ≢ Held r.id → h.by (Held s.id) ≡ pos 0
other-none q next r s h k ne = at_line q next s (λ l. IsIn (place_of l.name k.side) next → l.name ≢ Held r.id → h.by l.name ≡ pos 0) k (h.pivot.inside_zero k.side) k.inside ne

-- the row's multiplier taken away
abbrev cleared : (q : Problem) (next : List Mark) (r : Row) → IsRowOf q next r → Multipliers → Multipliers
cleared q next r h m = returned h.own (λ level. m.times level (Held r.id)) h.by m

without-more : (q : Problem) (next : List Mark) (r : Row) (rows : List Row) (m : Multipliers) (h : IsRowOf q next r) → Each (λ (s : Row). h.by (Held s.id) ≡ pos 0) rows → IsWithout q next rows m → IsWithout q next (r ∷ rows) (cleared q next r h m)
without-more q next r rows m h others are = record {
  scales = λ level. mul-pos h.pivot.size_positive (are.scales level);
  cancel = λ level. both-cancel q (pos h.own) (m.times level (Held r.id)) (m.times level) h.by (are.cancel level) h.pivot.cancel;
  inside_zero = λ side.
      All-from_recursion (λ l. Each (λ (s : Row). l.name ≢ Held s.id) (r ∷ rows) → IsIn (place_of l.name side) next → (level : ℕ) → column (cleared q next r h m) side l level ≡ pos 0) (lines q)
      (each-impl (λ l. (IsIn (place_of l.name side) next → l.name ≢ Held r.id → h.by l.name ≡ pos 0) × (Each (λ (s : Row). l.name ≢ Held s.id) rows → IsIn (place_of l.name side) next → (level : ℕ) → column m side l level ≡ pos 0)) _ (lines q)
      (λ l z ne i level.
      unmoved-column h.own (λ n. m.times n (Held r.id)) h.by m side l level (z.0 i ne.0)
      ∙ ap (λ (y : ℤ). pos h.own *ℤ y) (z.1 ne.1 i level) ∙ mul-zero_ℤ (pos h.own))
      (each-both _ _ (lines q) (recursion_from_All _ (lines q) (h.pivot.inside_zero side)) (recursion_from_All _ (lines q) (are.inside_zero side))));
  none = (
    λ level. taken h.own (m.times level (Held r.id)) (h.by (Held r.id)) h.pivot.enter_is,
    each-impl (λ (s : Row). (h.by (Held s.id) ≡ pos 0) × ((level : ℕ) → m.times level (Held s.id) ≡ pos 0)) (λ (s : Row). (level : ℕ) → (cleared q next r h m).times level (Held s.id) ≡ pos 0) rows
        (λ s z level. still-none h.own (m.times level (Held s.id)) (m.times level (Held r.id)) (h.by (Held s.id)) (z.1 level) z.0)
        (each-both _ _ rows others are.none),
  );
}

abbrev IsLow : Problem → Mark → Multipliers → Type 0
IsLow q mark m = Any (λ l. (place_of l.name mark.side ≡ place mark) × IsLexNegative (column m mark.side l)) (lines q)

still-low : (q : Problem) (next : List Mark) (mark : Mark) (r : Row) (m : Multipliers) (h : IsRowOf q next r) → h.by mark.row ≡ pos 0 → IsLow q mark m → IsLow q mark (cleared q next r h m)
still-low q next mark r m h none low =
    any_impl (λ l. (place_of l.name mark.side ≡ place mark) × IsLexNegative (column m mark.side l)) (λ l. (place_of l.name mark.side ≡ place mark) × IsLexNegative (column (cleared q next r h m) mark.side l)) (lines q)
    (λ l z. (z.0, negative-line h.own (λ level. m.times level (Held r.id)) h.by m mark.side l h.pivot.size_positive (ap h.by (by-sides l.name mark.row mark.side mark.side z.0).0 ∙ none) z.1)) low

-- multipliers as before but for these rows, at which they are 0
record IsCleared (q : Problem) (next : List Mark) (mark : Mark) (rows : List Row) : Type 0 where
  m : Multipliers
  without : IsWithout q next rows m
  low : IsLow q mark m

others-none : (q : Problem) (next : List Mark) (name : RowName) (r : Row) (h : IsRowOf q next r) (rows : List Row) → AreClear q next name rows → Each (λ (s : Row). Held s.id ≢ Held r.id) rows → Each (λ (s : Row). h.by (Held s.id) ≡ pos 0) rows
others-none q next name r h [] clear apart = tt
others-none q next name r h (s ∷ rows) clear apart = (other-none q next r s h clear.0.0.0 apart.0, others-none q next name r h rows clear.1 apart.1)

clear-more : (q : Problem) (next : List Mark) (mark : Mark) (r : Row) (rows : List Row) → IsWhole q → IsClearRow q next mark.row r → Each (λ (s : Row). Held s.id ≢ Held r.id) rows → AreClear q next mark.row rows → IsCleared q next mark rows → IsCleared q next mark (r ∷ rows)
clear-more q next mark r rows whole (h, inl free) apart clear c = record {
  m = c.m;
  without = without-free q next r rows c.m whole h free apart c.without;
  low = c.low;
}
clear-more q next mark r rows whole (h, inr none) apart clear c = record {
  m = cleared q next r h c.m;
  without = without-more q next r rows c.m h (others-none q next mark.row r h rows clear apart) c.without;
  low = still-low q next mark r c.m h none c.low;
}

clear-all : (q : Problem) (next : List Mark) (mark : Mark) (rows : List Row) → IsWhole q → AreClear q next mark.row rows → HasNegativeColumn q next mark → IsCleared q next mark rows
clear-all q next mark [] whole clear (m, are, low) = record {
  m = m;
  without = record {
    scales = are.scales;
    cancel = are.cancel;
    inside_zero = λ side k x lt others. are.inside_zero side k x lt;
    none = tt;
  };
  low = low;
}
clear-all q next mark (r ∷ rows) whole clear negative = clear-more q next mark r rows whole clear.0.0 clear.0.1 clear.1 (clear-all q next mark rows whole clear.1 negative)

-- ---- lines without the rows

sum-less : (f : Line → ℤ) (rows rest : List Row) (ls : List Line) → Each (λ (r : Row). f (line_of_row r) ≡ pos 0) rest → sum_of f (map line_of_row (rows ++ rest) ++ ls) ≡ sum_of f (map line_of_row rows ++ ls)
sum-less f [] [] ls none = refl
sum-less f [] (r ∷ rest) ls none = ap₂ (λ (x y : ℤ). x +ℤ y) none.0 (sum-less f [] rest ls none.1) ∙ zero-add_ℤ (sum_of f ls)
sum-less f (s ∷ rows) rest ls none = ap (λ (z : ℤ). f (line_of_row s) +ℤ z) (sum-less f rows rest ls none)

any-less : (P : Line → Type 0) (rows rest : List Row) (ls : List Line) → Each (λ (r : Row). P (line_of_row r) → ⊥) rest → Any P (map line_of_row (rows ++ rest) ++ ls) → Any P (map line_of_row rows ++ ls)
any-less P [] [] ls never h = h
any-less P [] (r ∷ rest) ls never h = elim (any-first P (line_of_row r) (map line_of_row rest ++ ls) h) [
  | inl i ↦ absurd (never.0 i)
  | inr i ↦ any-less P [] rest ls never.1 i
]
any-less P (s ∷ rows) rest ls never h = elim (any-first P (line_of_row s) (map line_of_row (rows ++ rest) ++ ls) h) [
  | inl i ↦ any-here P (line_of_row s) (map line_of_row rows ++ ls) i
  | inr i ↦ later-any P (line_of_row s) (map line_of_row rows ++ ls) (any-less P rows rest ls never i)
]

-- ---- names

abbrev held_number : RowName → ℕ
held_number (Held id) = id + 1
held_number (StayOf attr) = 0

abbrev Rising : List Row → Type 0
Rising rows = AllPairs (λ r s. r.id < s.id) rows

rising-last : (rows rest : List Row) → Rising (rows ++ rest) → Rising rest
rising-last [] rest h = h
rising-last (s ∷ rows) rest h = rising-last rows rest (pairs-rest (λ r s. r.id < s.id) s (rows ++ rest) h)

stay-names : (rest : List Row) (level : ℕ) (stays : List Stay) → Each (λ (l : Line). Each (λ (r : Row). l.name ≢ Held r.id) rest) (stay_lines level stays)
stay-names rest level [] = tt
stay-names rest level (s ∷ stays) = (none rest, stay-names rest (level + 1) stays)
  where
    none : (rows : List Row) → Each (λ (r : Row). StayOf s.attr ≢ Held r.id) rows
    none [] = tt
    none (r ∷ rows) = (stay-held s.attr r.id, none rows)

row-names : (rows rest : List Row) (ls : List Line) → Rising (rows ++ rest) → Each (λ (l : Line). Each (λ (r : Row). l.name ≢ Held r.id) rest) ls → Each (λ (l : Line). Each (λ (r : Row). l.name ≢ Held r.id) rest) (map line_of_row rows ++ ls)
row-names [] rest ls rising h = h
row-names (s ∷ rows) rest ls rising h = (
  each-impl (λ (r : Row). s.id < r.id) (λ (r : Row). Held s.id ≢ Held r.id) rest (λ r lt. held-less s.id r.id lt)
      (each-second (λ (r : Row). s.id < r.id) rows rest (recursion_from_All (λ (r : Row). s.id < r.id) (rows ++ rest) (pairs-first (λ r s. r.id < s.id) s (rows ++ rest) rising))),
  row-names rows rest ls (pairs-rest (λ r s. r.id < s.id) s (rows ++ rest) rising) h,
)

-- ---- the corner before

before-multipliers : (p : Problem) (rows : List Row) (at next : List Mark) (m : Multipliers) → IsWhole (with_rows rows p) → ((c : ℕ) → IsIn c at → IsIn c next) → IsWithout (with_rows rows p) next rows m → AreMultipliersAt p at m
before-multipliers p rows at next m whole stay are = record {
  scales = are.scales;
  cancel = λ level v.
      sym (sum-less (λ l. m.times level l.name *ℤ layout.coefficient v l.form) p.rows rows (stay_lines 1001 p.stays)
      (each-impl (λ (r : Row). (n : ℕ) → m.times n (Held r.id) ≡ pos 0) (λ (r : Row). m.times level (Held r.id) *ℤ layout.coefficient v r.terms ≡ pos 0) rows (λ r z. none-times (m.times level (Held r.id)) (layout.coefficient v r.terms) (z level)) are.none))
      ∙ are.cancel level v;
  inside_zero = λ side.
      All-from_recursion (λ l. IsIn (place_of l.name side) at → (level : ℕ) → column m side l level ≡ pos 0) (lines p)
      (each-impl (λ l. Each (λ (r : Row). l.name ≢ Held r.id) rows × (Each (λ (r : Row). l.name ≢ Held r.id) rows → IsIn (place_of l.name side) next → (level : ℕ) → column m side l level ≡ pos 0)) _ (lines p)
      (λ l z i. z.1 z.0 (stay (place_of l.name side) i))
      (each-both _ _ (lines p) (row-names p.rows rows (stay_lines 1001 p.stays) whole.rising (stay-names rows 1001 p.stays))
      (each_less _ p.rows rows (stay_lines 1001 p.stays) (recursion_from_All _ (lines (with_rows rows p)) (are.inside_zero side)))));
}
  where
    none-times : (y z : ℤ) → y ≡ pos 0 → y *ℤ z ≡ pos 0
    none-times y z e = *ℤ_comm y z ∙ ap (λ (x : ℤ). z *ℤ x) e ∙ mul-zero_ℤ z

not-new : (q : Problem) (next : List Mark) (mark : Mark) (m : Multipliers) (rows : List Row) → AreClear q next mark.row rows → HasNegativeColumn q next mark → Each (λ (r : Row). (place_of (Held r.id) mark.side ≡ place mark) × IsLexNegative (column m mark.side (line_of_row r)) → ⊥) rows
not-new q next mark m [] clear negative = tt
not-new q next mark m (r ∷ rows) clear negative = (
  λ z. inside_not_negative q next mark clear.0.0.0.side (subst (λ (n : RowName). IsIn (place_of n clear.0.0.0.side) next) (by-sides (Held r.id) mark.row mark.side mark.side z.0).0 clear.0.0.0.inside) negative,
  not-new q next mark m rows clear.1 negative,
)

-- a mark whose line stands in no row that costs has had a negative column before
negative_joined : (p : Problem) (rows : List Row) (at next : List Mark) (mark : Mark) → IsWhole (with_rows rows p) → ((c : ℕ) → IsIn c at → IsIn c next) → AreClear (with_rows rows p) next mark.row rows → HasNegativeColumn (with_rows rows p) next mark → HasNegativeColumn p at mark
negative_joined p rows at next mark whole stay clear negative =
    let c = clear-all (with_rows rows p) next mark rows whole clear negative in (
      c.m,
      before-multipliers p rows at next c.m whole stay c.without,
      any-less (λ l. (place_of l.name mark.side ≡ place mark) × IsLexNegative (column c.m mark.side l)) p.rows rows (stay_lines 1001 p.stays) (not-new (with_rows rows p) next mark c.m rows clear negative) c.low,
    )

-- ---- candidates

-- the mark's line is listed, or stands in no row that costs
decide-row : (q : Problem) (next : List Mark) (names : List RowName) (mark : Mark) (r : Row) → IsNamed q mark.row → HasNegativeColumn q next mark → IsListedRow q next names r → Contains names mark.row ⊎ IsClearRow q next mark.row r
decide-row q next names mark r named negative (h, inl free) = inr (h, inl free)
decide-row q next names mark r named negative (h, inr listed) = elim (name-cases mark.row (Held r.id)) [
  | inl e ↦ absurd (inside_not_negative q next mark h.side (subst (λ (n : RowName). IsIn (place_of n h.side) next) (sym e) h.inside) negative)
  | inr other ↦ elim (sign_cases (h.by mark.row)) [
    | inl none ↦ inr (h, inr none)
    | inr some ↦ inl (listed mark.row named other (not_zero (h.by mark.row) some))
  ]
]

both-clear : (q : Problem) (next : List Mark) (names : List RowName) (mark : Mark) (r : Row) (rows : List Row) → Each (λ (s : Row). Held s.id ≢ Held r.id) rows → Contains names mark.row ⊎ IsClearRow q next mark.row r → Contains names mark.row ⊎ AreClear q next mark.row rows → Contains names mark.row ⊎ AreClear q next mark.row (r ∷ rows)
both-clear q next names mark r rows apart (inl has) rest = inl has
both-clear q next names mark r rows apart (inr clear) (inl has) = inl has
both-clear q next names mark r rows apart (inr clear) (inr rest) = inr ((clear, apart), rest)

decide : (q : Problem) (next : List Mark) (names : List RowName) (mark : Mark) (rows : List Row) → Rising rows → IsNamed q mark.row → HasNegativeColumn q next mark → Each (IsListedRow q next names) rows → Contains names mark.row ⊎ AreClear q next mark.row rows
decide q next names mark [] rising named negative h = inr tt
decide q next names mark (r ∷ rows) rising named negative h =
    both-clear q next names mark r rows
    (each-impl (λ (s : Row). r.id < s.id) (λ (s : Row). Held s.id ≢ Held r.id) rows (λ s lt e. held-less r.id s.id lt (sym e)) (recursion_from_All (λ (s : Row). r.id < s.id) rows (pairs-first (λ r s. r.id < s.id) r rows rising)))
    (decide-row q next names mark r named negative h.0)
    (decide q next names mark rows (pairs-rest (λ r s. r.id < s.id) r rows rising) named negative h.1)

-- over problems and marks
pub candidates_join : (p : Problem) (rows : List Row) (at next : List Mark) (old new : List RowName) → IsWhole (with_rows rows p) → ((c : ℕ) → IsIn c at → IsIn c next) → Each (IsListedRow (with_rows rows p) next new) rows
    → ((name : RowName) → Contains old name → Contains new name) → AreCandidates p at old → AreCandidates (with_rows rows p) next new
candidates_join p rows at next old new whole stay listed keeps before mark out negative =
    elim (decide (with_rows rows p) next new mark rows (rising-last p.rows rows whole.rising) (mark_named (with_rows rows p) mark out.0) negative listed) [
      | inl has ↦ has
      | inr clear ↦
          let was = negative_joined p rows at next mark whole stay clear negative in
          keeps mark.row (before mark (negative_mark p at mark was, λ i. out.1 (stay (place mark) i)) was)
    ]

-- ---- over lists

one-side : (at : List Mark) (r : Row) → HasOneIn at r → (side : Side) × IsIn (place_of (Held r.id) side) at
one-side at r (inl i) = (Under, i)
one-side at r (inr i) = (Over, i)

row-equation : (u : Lists) (r : Row) (side : Side) → IsPartlyKept u → Any (λ l. l ≡ line_of_row r) (lines (problem_of u)) → IsIn (place_of (Held r.id) side) (marks_at u)
    → IsEquationAt u (deviation (Held r.id)) (line_slot u (Held r.id)) (sign_of side *ℤ (standing_at u (line_slot u (Held r.id))).value.num) (standing_at u (line_slot u (Held r.id))).value.den
row-equation u r side kept held inside =
    let stands : (standing_at u (line_slot u (Held r.id))).side ≡ Some side = is_some (standing_at u (line_slot u (Held r.id))).side side (inside_stands u (record { row = Held r.id; side = side }) inside) in
    any_is (λ l. IsLineRow u l.name (standing_at u (line_slot u l.name)).side) (λ l. l ≡ line_of_row r) (lines (problem_of u)) kept.lines held
    (λ l row e. subst (λ (o : Option Side). IsLineRow u (Held r.id) o) stands (subst (λ (k : Line). IsLineRow u k.name (standing_at u (line_slot u k.name)).side) e row))

row-of : (u : Lists) (r : Row) → IsPartlyKept u → Any (λ l. l ≡ line_of_row r) (lines (problem_of u)) → HasOneIn (marks_at u) r
    → (own : ℕ) × (side : Side) × IsIn (place_of (Held r.id) side) (marks_at u) × IsPivot (problem_of u) (marks_at u) (Held r.id) (Held r.id) own (line_numbers (Held r.id) own (number u (line_slot u (Held r.id))))
row-of u r kept held one =
    let s = one-side (marks_at u) r one in
    let e = row-equation u r s.0 kept held s.1 in (
      e.0,
      s.0,
      s.1,
      equation_is_pivot (problem_of u) (marks_at u) (record { row = Held r.id; side = s.0 }) e.0 (number u (line_slot u (Held r.id))) (sign_of s.0 *ℤ (standing_at u (line_slot u (Held r.id))).value.num) (standing_at u (line_slot u (Held r.id))).value.den kept.whole kept.corner s.1 e.2,
    )

some-entry : (u : Lists) (r : Row) (own : ℕ) (name : RowName) → name ≢ Held r.id → line_numbers (Held r.id) own (number u (line_slot u (Held r.id))) name ≢ pos 0 → entry u (line_slot u (Held r.id)) (line_slot u name) ≢ pos 0
some-entry u r own name other some none =
    some (other-number (Held r.id) own (number u (line_slot u (Held r.id))) name other ∙ row-none (nat_eq (line_slot u name) (line_slot u (Held r.id))) (entry u (line_slot u (Held r.id)) (line_slot u name)) none)

named-row : (q : Problem) (r : Row) → Any (λ l. l ≡ line_of_row r) (lines q) → IsNamed q (Held r.id)
named-row q r held = any_impl (λ l. l ≡ line_of_row r) (λ l. l.name ≡ Held r.id) (lines q) (λ l e. ap (λ (k : Line). k.name) e) held

listed-row : (u : Lists) (r : Row) (new : List ℕ) → IsPartlyKept u → Any (λ l. l ≡ line_of_row r) (lines (problem_of u)) → HasOneIn (marks_at u) r → IsFreeRow (marks_at u) r ⊎ IsRowListed u (line_slot u (Held r.id)) new → IsListedRow (problem_of u) (marks_at u) (names_of u new) r
listed-row u r new kept held one listed =
    let k = row-of u r kept held one in
    let w : ℕ = line_slot u (Held r.id) in (
      record {
        held = held;
        side = k.1;
        inside = k.2;
        own = k.0;
        by = line_numbers (Held r.id) k.0 (number u w);
        pivot = k.3;
      },
      elim listed [
        | inl free ↦ inl free
        | inr row ↦ inr (λ name named other some.
            listed_name u new name kept.slots named
            (row (line_slot u name) (some-entry u r k.0 name other some)
            (λ e. other (sym (lines_apart u (Held r.id) name kept.slots (named-row (problem_of u) r held) named e)))))
      ],
    )

each-row : (u : Lists) (some : List Row) (new : List ℕ) → IsPartlyKept u → Each (λ (r : Row). Any (λ l. l ≡ line_of_row r) (lines (problem_of u))) some → Each (HasOneIn (marks_at u)) some → Each (λ (r : Row). IsFreeRow (marks_at u) r ⊎ IsRowListed u (line_slot u (Held r.id)) new) some
    → Each (IsListedRow (problem_of u) (marks_at u) (names_of u new)) some
each-row u [] new kept held one listed = tt
each-row u (r ∷ some) new kept held one listed = (listed-row u r new kept held.0 one.0 listed.0, each-row u some new kept held.1 one.1 listed.1)

new-rows : (rows rest : List Row) (ls : List Line) → Each (λ (r : Row). Any (λ l. l ≡ line_of_row r) (map line_of_row (rows ++ rest) ++ ls)) rest
new-rows [] [] ls = tt
new-rows [] (r ∷ rest) ls = (
  any-here (λ l. l ≡ line_of_row r) (line_of_row r) (map line_of_row rest ++ ls) refl,
  each-impl (λ (s : Row). Any (λ l. l ≡ line_of_row s) (map line_of_row rest ++ ls)) (λ (s : Row). Any (λ l. l ≡ line_of_row s) (line_of_row r ∷ (map line_of_row rest ++ ls))) rest (λ s h. later-any (λ l. l ≡ line_of_row s) (line_of_row r) (map line_of_row rest ++ ls) h) (new-rows [] rest ls),
)
new-rows (s ∷ rows) rest ls =
    each-impl (λ (r : Row). Any (λ l. l ≡ line_of_row r) (map line_of_row (rows ++ rest) ++ ls)) (λ (r : Row). Any (λ l. l ≡ line_of_row r) (line_of_row s ∷ (map line_of_row (rows ++ rest) ++ ls))) rest (λ r h. later-any (λ l. l ≡ line_of_row r) (line_of_row s) (map line_of_row (rows ++ rest) ++ ls) h) (new-rows rows rest ls)

names_join : (t u : Lists) (old new : List ℕ) (name : RowName) → ((w : ℕ) → Contains old w → slot_at u w ≡ slot_at t w) → ((w : ℕ) → Contains old w → Contains new w) → Contains (names_of t old) name → Contains (names_of u new) name
names_join t u old new name same keeps has =
    let i = from_map (λ w. name_of (slot_at t w).owner) old name has in
    subst (λ (n : RowName). Contains (names_of u new) n) (ap (λ s. name_of s.owner) (same i.of i.has) ∙ i.is) (to_map (λ w. name_of (slot_at u w).owner) new i.of (keeps i.of i.has))

-- the lists u have these rows too, with a mark inside each
pub joined_candidates : (t u : Lists) (rows : List Row) (old new : List ℕ) → IsPartlyKept u → problem_of u ≡ with_rows rows (problem_of t) → ((w : ℕ) → Contains old w → slot_at u w ≡ slot_at t w)
    → ((c : ℕ) → IsIn c (marks_at t) → IsIn c (marks_at u)) → All (HasOneIn (marks_at u)) rows → ((w : ℕ) → Contains old w → Contains new w) → AreRowsListed u rows new
    → AreCandidates (problem_of t) (marks_at t) (names_of t old) → AreCandidates (problem_of u) (marks_at u) (names_of u new)
joined_candidates t u rows old new kept problem same stay one keeps listed before =
    let q : Problem = with_rows rows (problem_of t) in
    let held : Each (λ (r : Row). Any (λ l. l ≡ line_of_row r) (lines (problem_of u))) rows = subst (λ (p : Problem). Each (λ (r : Row). Any (λ l. l ≡ line_of_row r) (lines p)) rows) (sym problem) (new-rows t.rows rows (stay_lines 1001 t.stays)) in
    let each : Each (IsListedRow (problem_of u) (marks_at u) (names_of u new)) rows = each-row u rows new kept held (recursion_from_All _ rows one) (recursion_from_All _ rows listed) in
    subst (λ (p : Problem). AreCandidates p (marks_at u) (names_of u new)) (sym problem)
    (candidates_join (problem_of t) rows (marks_at t) (marks_at u) (names_of t old) (names_of u new) (subst IsWhole problem kept.whole) stay
    (subst (λ (p : Problem). Each (IsListedRow p (marks_at u) (names_of u new)) rows) problem each)
    (λ name. names_join t u old new name same keeps) before)
