-- What is made of the corner where a route begins, and what fits there.
use Rattle.std.proofs.Common.{◌≡◌, ◌∙◌, ℕ, ◌+◌, ◌<◌, ◌≤◌, List, length, get_or, refl, sym, ap, subst, arith, inl, inr, Option}
use Rattle.std.proofs.lemmas.Bool.{cases_eq, cases_lt}
use Rattle.std.proofs.lemmas.List.{get_or_default}
use Rattle.problem_core.specs.declared.parts.Level.{Level}
use Rattle.problem_core.specs.declared.parts.Mark.{Mark}
use Rattle.problem_core.specs.declared.stops.Quantity.{Quantity}
use Rattle.problem_core.specs.declared.stops.Quantity.TheVariants.{Plain, Terms, Rows, Shifts}
use Rattle.problem_core.specs.Kept.{IsWhole}
use Rattle.problem_core.specs.Layout.{Problem, Row, lines}
use Rattle.problem_core.specs.Unfit.{AreOverFrom, IsUnfitAt, IsUnfitTerms, over_mark}
use Rattle.path_lines.specs.declared.table.Inside.{Inside}
use Rattle.path_lines.specs.Walking.FirstLines.{IsRowOf}
use Rattle.cert_core.specs.Stops.{IsPartial}
use Rattle.path_lines.specs.Room.{ComesBefore}
use Rattle.path_lines.specs.Route.{over_marks}
use Rattle.path_lines.specs.Tables.{AreLines, AreSized}
use Rattle.path_lines.proofs.Walking.FirstCorner.{begins_there}
use Rattle.path_lines.proofs.Walking.FirstLines.{all_over, count_lines}
use Rattle.path_levels.specs.declared.outline.Outline.{Outline}
use Rattle.path_levels.specs.declared.sums.LevelSum.{LevelSum}
use Rattle.path_claims.specs.Begun.{IsBegunUntil, IsWholeBegun}
use Rattle.path_fits.specs.FirstSums.{AreMade, IsFirstUnfitSum, IsStopAt, IsUnfitSum}
use Rattle.path_levels.specs.Outlines.{IsOutline}
use Rattle.path_levels.specs.Levels.{AreLevels, AreSizedLevels}
use Rattle.path_levels.specs.Rows.{AllRowsFit, AreKept, IsFirstOfAll}
use Rattle.path_fits.proofs.Beginning.FirstSums.{over_number, same_row}
use Rattle.path_claims.proofs.StationTables.{outline_long as outline_count}

-- ---- rows and their sums

held_at : (p : Problem) (k : ℕ) (d : Row) → k < length p.rows → IsRowOf p (get_or p.rows k d)
held_at p k d within = (k, get_or p.rows k d, within, get_or_default p.rows k (get_or p.rows k d) d within, refl)

pub told_unfit : (p : Problem) (r : Row) (j : ℕ) → IsRowOf p r → 1 ≤ j → j ≤ length r.terms + 1 → IsUnfitSum p r j → IsUnfitTerms p (over_marks p) (over_mark r.id) j
told_unfit p r j (k, s, within, is, same) low high none =
    (k, s, within, is, subst (λ (t : Row). (over_mark r.id ≡ over_mark t.id) × AreOverFrom p (over_marks p) t.id × (1 ≤ j) × (j ≤ length t.terms + 1) × IsUnfitSum p t j) (sym same) (refl, all_over p r.id, low, high, none))

not_later : (p : Problem) (n k : ℕ) (d : Row) → IsWhole p → n < length p.rows → k < length p.rows → (get_or p.rows k d).id < (get_or p.rows n d).id → k < n
not_later p n k d whole there here less =
    elim (cases_lt k n) [
      | inl before ↦ before
      | inr from ↦ elim (cases_eq k n) [
        | inl e ↦ (let h = ap (λ (m : ℕ). (get_or p.rows m d).id) e in absurd (omega (arith, less, h)))
        | inr ne ↦ (let h = whole.rising n k d (omega (arith, from, ne)) here in absurd (omega (arith, less, h)))
      ]
    ]

-- no sum of the made rows' first terms does not fit
made_fits : (p : Problem) (n i : ℕ) (m : Mark) (lines : List (Option Inside)) → IsWhole p → AreMade p n lines → (t : IsUnfitTerms p (over_marks p) m i) → t.0 < n → ⊥
made_fits p n i m lines whole made (k, s, within, is, (mark, over, low, high, none)) here =
    let e : get_or p.rows k s ≡ s = is in
    made.fit k s here i low (subst (λ (t : Row). i < length t.terms + 2) (sym e) (omega (arith, high))) (subst (λ (t : Row). IsUnfitSum p t i) (sym e) none)

-- ---- up to a row's sum

before_terms : (p : Problem) (lines : List (Option Inside)) (row : Row) (first : ℕ) (q : Quantity) → IsWhole p → AreMade p (length lines) lines → length lines < length p.rows → ((d : Row) → get_or p.rows (length lines) d ≡ row) → IsFirstUnfitSum p row first
    → ComesBefore p q (Terms (over_mark row.id) first) → IsUnfitAt p (over_marks p) q → ⊥
before_terms p lines row first (Plain what) whole made within is stop earlier unfit = earlier
before_terms p lines row first (Rows level i) whole made within is stop earlier unfit = earlier
before_terms p lines row first (Shifts what i) whole made within is stop earlier unfit = earlier
before_terms p lines row first (Terms m i) whole made within is stop (a, b, m_is, n_is, order) (k, s, here, s_is, (mark, over, low, high, none)) =
    let held : IsRowOf p s = (k, s, here, s_is, refl) in
    let row_held : IsRowOf p row = subst (IsRowOf p) (is row) (held_at p (length lines) row within) in
    let a_is : a ≡ s.id = over_number a s.id (sym m_is ∙ mark) in
    let b_is : row.id ≡ b = over_number row.id b n_is in
    elim order [
      | inl less ↦
          made_fits p (length lines) i m lines whole made (k, s, here, s_is, (mark, over, low, high, none))
          (not_later p (length lines) k row whole within here
          (let e1 = ap (λ (t : Row). t.id) (get_or_default p.rows k row s here ∙ s_is) in let e2 = ap (λ (t : Row). t.id) (is row) in omega (arith, e1, e2, less, a_is, b_is)))
      | inr same ↦
          let e : s ≡ row = same_row p s row whole held row_held (sym a_is ∙ same.0 ∙ sym b_is) in
          stop.before i low same.1 (subst (λ (t : Row). IsUnfitSum p t i) e none)
    ]

until_terms : (p : Problem) (lines : List (Option Inside)) (row : Row) (first : ℕ) → IsWhole p → AreMade p (length lines) lines → length lines < length p.rows → ((d : Row) → get_or p.rows (length lines) d ≡ row) → IsFirstUnfitSum p row first
    → IsBegunUntil p lines (Terms (over_mark row.id) first)
until_terms p lines row first whole made within is stop = record {
  lines_are = made.lines_are;
  reaches = (row.id, refl, λ k d here less. not_later p (length lines) k d whole within here (let e = ap (λ (t : Row). t.id) (is d) in omega (arith, less, e)));
  unfit = told_unfit p row first (subst (IsRowOf p) (is row) (held_at p (length lines) row within)) stop.low stop.high stop.unfit;
  before = λ q earlier unfit. before_terms p lines row first q whole made within is stop earlier unfit;
}

pub begun_until_terms : (p : Problem) (lines : List (Option Inside)) (sum : Quantity) → IsWhole p → AreMade p (length lines) lines → IsStopAt p (length lines) sum → IsBegunUntil p lines sum
begun_until_terms p lines sum whole made stop =
    subst (IsBegunUntil p lines) (sym stop.sum_is) (until_terms p lines stop.row stop.first whole made stop.within stop.row_is stop.unfit)

-- ---- up to a level's sum, and all

all_terms_fit : (p : Problem) (lines : List (Option Inside)) (m : Mark) (i : ℕ) → IsWhole p → AreMade p (length p.rows) lines → IsUnfitTerms p (over_marks p) m i → ⊥
all_terms_fit p lines m i whole made unfit = made_fits p (length p.rows) i m lines whole made unfit unfit.2

before_rows : (p : Problem) (made lines : List (Option Inside)) (level : Level) (first : ℕ) (q : Quantity) → IsWhole p → AreMade p (length p.rows) made → IsFirstOfAll p (over_marks p) level first
    → ComesBefore p q (Rows level first) → IsUnfitAt p (over_marks p) q → ⊥
before_rows p made lines level first (Plain what) whole are stop earlier unfit = earlier
before_rows p made lines level first (Rows other i) whole are stop earlier unfit = stop.before other i earlier unfit
before_rows p made lines level first (Shifts what i) whole are stop earlier unfit = earlier
before_rows p made lines level first (Terms m i) whole are stop earlier unfit = all_terms_fit p made m i whole are unfit

pub begun_until_rows : (p : Problem) (made lines : List (Option Inside)) (level : Level) (first : ℕ) → IsWhole p → AreMade p (length p.rows) made → AreLines p (over_marks p) lines → IsFirstOfAll p (over_marks p) level first
    → IsBegunUntil p lines (Rows level first)
begun_until_rows p made lines level first whole are lines_are stop = record {
  lines_are = record { count = refl; each = λ k d within. lines_are.each k d (omega (arith, within, lines_are.count)) };
  reaches = omega (arith, lines_are.count, count_lines p);
  unfit = stop.unfit;
  before = λ q earlier unfit. before_rows p made lines level first q whole are stop earlier unfit;
}

partial_fits : (p : Problem) (made : List (Option Inside)) (q : Quantity) → IsWhole p → AreMade p (length p.rows) made → AllRowsFit p (over_marks p) → IsPartial q → IsUnfitAt p (over_marks p) q → ⊥
partial_fits p made (Plain what) whole are rows partial unfit = partial
partial_fits p made (Terms m i) whole are rows partial unfit = all_terms_fit p made m i whole are unfit
partial_fits p made (Rows level i) whole are rows partial unfit = rows level i unfit
partial_fits p made (Shifts what i) whole are rows partial unfit = partial

pub kept_there : (p : Problem) (outline : Outline) (lines : List (Option Inside)) → IsWhole p → IsOutline p outline → AreLines p (over_marks p) lines → AreKept p (over_marks p) outline lines
kept_there p outline lines whole is are = record { outline_is = is; there = begins_there p whole; lines_are = are }

pub begun_whole : (p : Problem) (outline : Outline) (made lines : List (Option Inside)) (levels : List LevelSum) → IsWhole p → IsOutline p outline → AreMade p (length p.rows) made → AreSized lines → AreLines p (over_marks p) lines
    → AreSizedLevels (length lines) levels → length levels ≡ length outline.levels.items → AreLevels p (over_marks p) outline levels → AllRowsFit p (over_marks p) → IsWholeBegun p outline lines levels
begun_whole p outline made lines levels whole is are sized lines_are levels_sized count levels_are rows = record {
  kept = kept_there p outline lines whole is lines_are;
  sized = sized;
  count = lines_are.count ∙ sym (outline_count p outline is);
  levels_are = levels_are;
  levels_sized = levels_sized;
  level_count = count;
  fits = λ sum partial unfit. partial_fits p made sum whole are rows partial unfit;
}
