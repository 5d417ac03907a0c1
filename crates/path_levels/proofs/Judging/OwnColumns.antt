-- The signs of columns, by rows of all levels that may have common factors.
use Rattle.std.proofs.Common.{◌≡◌, ◌∙◌, ◌⊎◌, ◌↔◌, ℕ, ◌*◌, ◌<◌, List, ℤ, pos, ◌*ℤ◌, ◌≤ℤ◌, get_or, sym, ap, subst, arith, All, inl, inr, mul-pos}
use Rattle.std.proofs.lemmas.Bool.{cases_eq}
use Rattle.std.proofs.lemmas.List.{get_or_default}
use borrow.Author.Differences.{ints}
use Rattle.frac_core.proofs.Integers.{mul-zero_ℤ, mul_not_negative}
use Rattle.problem_core.specs.declared.parts.Mark.{Mark}
use Rattle.problem_core.specs.declared.parts.RowName.{RowName}
use Rattle.problem_core.specs.declared.parts.Side.{Side}
use Rattle.problem_core.specs.declared.parts.Side.TheVariants.{Under, Over}
use Rattle.problem_core.specs.Layout.{Line, Problem, lines}
use Rattle.problem_core.specs.Kept.{IsWhole}
use Rattle.problem_core.specs.Certificates.{Multipliers}
use Rattle.problem_core.specs.Corners.{AreMultipliersAt, HasNegativeColumn, IsIn, IsLexNegative, NoNegativeColumn, column, place_of}
use Rattle.problem_core.specs.Changes.Paths.{NoNegativeRequired}
use Rattle.problem_core.specs.Rays.{HasRays}
use Rattle.problem_core.proofs.Wholes.{whole-IsProblem}
use Rattle.corner_laws.specs.Units.{IsLevelUnit}
use Rattle.corner_laws.proofs.LevelCosts.Unique.{multipliers_same}
use Rattle.corner_lines.specs.LineEquations.{IsOutsideLine}
use Rattle.corner_lines.specs.Levels.LevelRows.{HasLevelRow, IsLevelMultiple, inside_number, reduced_number}
use Rattle.corner_lines.specs.Fronts.{Rows, costs_of}
use Rattle.corner_lines.proofs.LevelRows.LevelExchanges.{by-sides}
use Rattle.corner_lines.proofs.Costs.LevelCosts.{column-is, reduced-none}
use Rattle.path_lines.specs.Tables.{line_count, name_at}
use Rattle.path_lines.proofs.Places.{any_line, name_there, names_differ}
use Rattle.corner_lines.proofs.ColumnsBelow.{low_from}
use Rattle.frac_core.proofs.Numbers.{as-one-times as one-times, up-carried as up_from, low-or-up as sign-of, zero-carried as none_from, up-from as sign-from}
use Rattle.corner_laws.proofs.Swaps.ColumnsStay.{column-alike as columns-multiple}

-- ---- rows

-- the level has a row in which the outside lines have these numbers; all may have a common factor
pub record HasMultiple (p : Problem) (at : List Mark) (level unit own : ℕ) (number : RowName → ℤ) : Type 0 where
  pub by : RowName → ℤ
  pub row : IsLevelMultiple p at level unit own by
  pub outside : All (λ l. IsOutsideLine at l.name → by l.name ≡ number l.name) (lines p)

abbrev pub AreMultiples : Problem → List Mark → Rows → Type 0
AreMultiples p at rows = (level : ℕ) → IsLevelUnit p level (rows.unit level) × HasMultiple p at level (rows.unit level) (rows.own level) (rows.number level)

pub row_is_multiple : (p : Problem) (at : List Mark) (level unit own : ℕ) (number : RowName → ℤ) → HasLevelRow p at level unit own number → HasMultiple p at level unit own number
row_is_multiple p at level unit own number h = record {
  by = h.by;
  row = record { own_positive = h.row.own_positive; cancel = h.row.cancel; under = h.row.under; over = h.row.over };
  outside = h.outside;
}

-- ---- their multipliers

abbrev pub own_multipliers : (p : Problem) (at : List Mark) (rows : Rows) → AreMultiples p at rows → Multipliers
own_multipliers p at rows are = record { scale = λ level. rows.own level * rows.unit level; times = λ level name. (are level).1.by name }

own-column : (p : Problem) (at : List Mark) (rows : Rows) (are : AreMultiples p at rows) (side : Side) (level k : ℕ) (d : Line) → k < line_count p
    → column (own_multipliers p at rows are) side (get_or (lines p) k d) level ≡ pos (get_or (lines p) k d).scale *ℤ reduced_number side level (rows.unit level) (rows.own level) ((are level).1.by (get_or (lines p) k d).name) (get_or (lines p) k d)
own-column p at rows are Under level k d within = column-is Under level (rows.unit level) (rows.own level) (are level).1.by (get_or (lines p) k d) ((are level).0.whole k d within)
own-column p at rows are Over level k d within = column-is Over level (rows.unit level) (rows.own level) (are level).1.by (get_or (lines p) k d) ((are level).0.whole k d within)

own-inside : (p : Problem) (at : List Mark) (rows : Rows) (are : AreMultiples p at rows) (side : Side) (level k : ℕ) (d : Line) → k < line_count p → IsIn (place_of (get_or (lines p) k d).name side) at
    → (are level).1.by (get_or (lines p) k d).name ≡ inside_number side level (rows.unit level) (rows.own level) (get_or (lines p) k d)
own-inside p at rows are Under level k d within i = (are level).1.row.under k d within i
own-inside p at rows are Over level k d within i = (are level).1.row.over k d within i

pub are_multipliers : (p : Problem) (at : List Mark) (rows : Rows) (are : AreMultiples p at rows) → AreMultipliersAt p at (own_multipliers p at rows are)
are_multipliers p at rows are = record {
  scales = λ level. mul-pos (are level).1.row.own_positive (are level).0.above;
  cancel = λ level v. (are level).1.row.cancel v;
  inside_zero = λ side k d within i level.
      own-column p at rows are side level k d within
      ∙ ap (λ (z : ℤ). pos (get_or (lines p) k d).scale *ℤ z) (reduced-none side level (rows.unit level) (rows.own level) ((are level).1.by (get_or (lines p) k d).name) (get_or (lines p) k d) (own-inside p at rows are side level k d within i))
      ∙ mul-zero_ℤ (pos (get_or (lines p) k d).scale);
}

-- of an outside line
pub outer_column : (p : Problem) (at : List Mark) (rows : Rows) (are : AreMultiples p at rows) (side : Side) (level k : ℕ) (d : Line) → k < line_count p → IsOutsideLine at (get_or (lines p) k d).name
    → column (own_multipliers p at rows are) side (get_or (lines p) k d) level ≡ pos (get_or (lines p) k d).scale *ℤ costs_of rows side (get_or (lines p) k d) level
outer_column p at rows are side level k d within out =
    own-column p at rows are side level k d within
    ∙ ap (λ (y : ℤ). pos (get_or (lines p) k d).scale *ℤ reduced_number side level (rows.unit level) (rows.own level) y (get_or (lines p) k d)) ((are level).1.outside k d within out)

-- ---- the columns of an inside line

other-up : (m : Multipliers) (inside side : Side) (l : Line) (level : ℕ) → column m inside l level ≡ pos 0 → pos 0 ≤ℤ column m side l level
other-up m Under Under l level e = omega (arith, ints, e)
other-up m Under Over l level e = omega (arith, ints, e)
other-up m Over Under l level e = omega (arith, ints, e)
other-up m Over Over l level e = omega (arith, ints, e)

-- whatever the multipliers, neither is negative at any level
pub inner_up : (p : Problem) (at : List Mark) (m : Multipliers) (inside side : Side) (level k : ℕ) (d : Line) → AreMultipliersAt p at m → k < line_count p → IsIn (place_of (get_or (lines p) k d).name inside) at
    → pos 0 ≤ℤ column m side (get_or (lines p) k d) level
inner_up p at m inside side level k d is within i = other-up m inside side (get_or (lines p) k d) level (is.inside_zero inside k d within i level)

-- ---- two lists of multipliers

-- a corner's columns by two lists of multipliers are proportional
pub columns_alike : (p : Problem) (at : List Mark) (m n : Multipliers) (side : Side) (level k : ℕ) (d : Line) → IsWhole p → HasRays p at → AreMultipliersAt p at m → AreMultipliersAt p at n → k < line_count p
    → pos (m.scale level) *ℤ column n side (get_or (lines p) k d) level ≡ pos (n.scale level) *ℤ column m side (get_or (lines p) k d) level
columns_alike p at m n side level k d whole rays a b within = columns-multiple m n side (get_or (lines p) k d) level (multipliers_same p at m n level whole rays a b k d within)

-- ---- signs of multiples

-- level by level one a positive multiple of the other
pub lex_alike : (s t : ℕ → ℕ) (f g : ℕ → ℤ) → ((k : ℕ) → 0 < s k) → ((k : ℕ) → 0 < t k) → ((k : ℕ) → pos (s k) *ℤ g k ≡ pos (t k) *ℤ f k) → IsLexNegative f → IsLexNegative g
lex_alike s t f g up over same (level, before, low) = (
  level,
  λ k less. none_from (s k) (t k) (f k) (g k) (up k) (same k) (before k less),
  low_from (s level) (t level) (f level) (g level) (over level) (same level) low,
)

-- ---- a mark's column

abbrev pub line_at : Problem → ℕ → Line
line_at p k = get_or (lines p) k any_line

abbrev pub mark_at : Problem → ℕ → Side → Mark
mark_at p k side = record { row = name_at p k; side = side }

-- some line's column, and which
found-line : (p : Problem) (at : List Mark) (mark : Mark) (m : Multipliers) → IsWhole p → HasRays p at → AreMultipliersAt p at m → HasNegativeColumn p at mark
    → (k : ℕ) × (k < line_count p) × (name_at p k ≡ mark.row) × IsLexNegative (column m mark.side (line_at p k))
found-line p at mark m whole rays is (n, other, (k, x, within, found, (e, lex))) =
    let here : x ≡ line_at p k = sym found ∙ get_or_default (lines p) k x any_line within in
    let name : x.name ≡ mark.row = (by-sides x.name mark.row mark.side mark.side e).0 in
    let there : IsLexNegative (column n mark.side (line_at p k)) = subst (λ (l : Line). IsLexNegative (column n mark.side l)) here lex in (
      k,
      within,
      sym (name_there p k any_line within) ∙ ap (λ (l : Line). l.name) (sym here) ∙ name,
      lex_alike n.scale m.scale (column n mark.side (line_at p k)) (column m mark.side (line_at p k)) other.scales is.scales (λ level. columns_alike p at n m mark.side level k any_line whole rays other is within) there,
    )

-- by any multipliers of the corner
pub negative_column : (p : Problem) (at : List Mark) (k : ℕ) (side : Side) (m : Multipliers) → IsWhole p → HasRays p at → AreMultipliersAt p at m → k < line_count p
    → HasNegativeColumn p at (mark_at p k side) ↔ IsLexNegative (column m side (line_at p k))
negative_column p at k side m whole rays is within = (
  λ negative.
      let found = found-line p at (mark_at p k side) m whole rays is negative in
      let same : found.0 ≡ k = elim (cases_eq found.0 k) [
        | inl e ↦ e
        | inr ne ↦ absurd (names_differ p found.0 k whole found.1 within ne found.2)
      ] in
      subst (λ (j : ℕ). IsLexNegative (column m side (line_at p j))) same found.3,
  λ lex. (
    m,
    is,
    (k, line_at p k, within, get_or_default (lines p) k (line_at p k) any_line within, (ap (λ (n : RowName). place_of n side) (name_there p k any_line within), lex)),
  ),
)

pub inner_column : (p : Problem) (at : List Mark) (k : ℕ) (inside side : Side) (m : Multipliers) → IsWhole p → HasRays p at → AreMultipliersAt p at m → k < line_count p → IsIn (place_of (name_at p k) inside) at
    → HasNegativeColumn p at (mark_at p k side) → ⊥
inner_column p at k inside side m whole rays is within i negative =
    let lex = (negative_column p at k side m whole rays is within).0 negative in
    let up = inner_up p at m inside side lex.0 k any_line is within (subst (λ (n : RowName). IsIn (place_of n inside) at) (sym (name_there p k any_line within)) i) in
    let low = lex.2 in
    omega (arith, ints, up, low)

pub outer_negative : (p : Problem) (at : List Mark) (rows : Rows) (k : ℕ) (side : Side) → IsWhole p → HasRays p at → AreMultiples p at rows → k < line_count p → IsOutsideLine at (name_at p k)
    → HasNegativeColumn p at (mark_at p k side) ↔ IsLexNegative (costs_of rows side (line_at p k))
outer_negative p at rows k side whole rays are within outside =
    let m : Multipliers = own_multipliers p at rows are in
    let iff = negative_column p at k side m whole rays (are_multipliers p at rows are) within in
    let out : IsOutsideLine at (line_at p k).name = subst (λ (n : RowName). IsOutsideLine at n) (sym (name_there p k any_line within)) outside in
    let above : 0 < (line_at p k).scale = (whole-IsProblem p whole k any_line within).0 in
    let same : (level : ℕ) → column m side (line_at p k) level ≡ pos (line_at p k).scale *ℤ costs_of rows side (line_at p k) level = λ level. outer_column p at rows are side level k any_line within out in (
      λ negative.
          lex_alike (λ level. (line_at p k).scale) (λ level. 1) (column m side (line_at p k)) (costs_of rows side (line_at p k)) (λ level. above) (λ level. omega arith)
          (λ level. sym (same level) ∙ one-times (column m side (line_at p k) level)) (iff.0 negative),
      λ lex.
          iff.1 (lex_alike (λ level. 1) (λ level. (line_at p k).scale) (costs_of rows side (line_at p k)) (column m side (line_at p k)) (λ level. omega arith) (λ level. above)
          (λ level. sym (one-times (column m side (line_at p k) level)) ∙ same level) lex),
    )

-- ---- all columns

pub none_negative : (p : Problem) (at : List Mark) (m : Multipliers) → IsWhole p → HasRays p at → AreMultipliersAt p at m
    → ((k : ℕ) (side : Side) → k < line_count p → HasNegativeColumn p at (mark_at p k side) → ⊥) ↔ NoNegativeColumn p at
none_negative p at m whole rays is = (
  λ none. (
    m,
    is,
    λ side k d within level before.
        elim (sign-of (column m side (get_or (lines p) k d) level)) [
          | inr up ↦ up
          | inl low ↦
              let same : get_or (lines p) k d ≡ line_at p k = get_or_default (lines p) k d any_line within in
              let lex : IsLexNegative (column m side (line_at p k)) = subst (λ (l : Line). IsLexNegative (column m side l)) same (level, before, low) in
              absurd (none k side within ((negative_column p at k side m whole rays is within).1 lex))
        ],
  ),
  λ up k side within negative.
      let lex = (negative_column p at k side up.0 whole rays up.1 within).0 negative in
      let not = up.2 side k any_line within lex.0 lex.1 in
      let low = lex.2 in
      omega (arith, ints, not, low),
)

-- ---- at the level of the required rows

pub required_up : (p : Problem) (at : List Mark) (rows : Rows) → IsWhole p → HasRays p at → AreMultiples p at rows → ((k : ℕ) → k < line_count p → IsOutsideLine at (name_at p k) ⊎ ((inside : Side) × IsIn (place_of (name_at p k) inside) at))
    → ((k : ℕ) (side : Side) → k < line_count p → IsOutsideLine at (name_at p k) → pos 0 ≤ℤ costs_of rows side (line_at p k) 0) ↔ NoNegativeRequired p at
required_up p at rows whole rays are each =
    let m : Multipliers = own_multipliers p at rows are in
    let is : AreMultipliersAt p at m = are_multipliers p at rows are in
    let same : (k : ℕ) (side : Side) → k < line_count p → IsOutsideLine at (name_at p k) → column m side (line_at p k) 0 ≡ pos (line_at p k).scale *ℤ costs_of rows side (line_at p k) 0 =
    λ k side within outside. outer_column p at rows are side 0 k any_line within (subst (λ (n : RowName). IsOutsideLine at n) (sym (name_there p k any_line within)) outside) in (
      λ up. (
        m,
        is,
        λ side k d within.
            subst (λ (l : Line). pos 0 ≤ℤ column m side l 0) (get_or_default (lines p) k any_line d within)
            (elim (each k within) [
              | inl outside ↦ subst (λ (z : ℤ). pos 0 ≤ℤ z) (sym (same k side within outside)) (mul_not_negative (line_at p k).scale (costs_of rows side (line_at p k) 0) (up k side within outside))
              | inr (inside, i) ↦ inner_up p at m inside side 0 k any_line is within (subst (λ (n : RowName). IsIn (place_of n inside) at) (sym (name_there p k any_line within)) i)
            ]),
      ),
      λ up k side within outside.
          let alike = columns_alike p at up.0 m side 0 k any_line whole rays up.1 is within in
          let not : pos 0 ≤ℤ column m side (line_at p k) 0 = up_from (up.0.scale 0) (m.scale 0) (column up.0 side (line_at p k) 0) (column m side (line_at p k) 0) (up.1.scales 0) alike (up.2 side k any_line within) in
          sign-from (line_at p k).scale (costs_of rows side (line_at p k) 0) (whole-IsProblem p whole k any_line within).0 (subst (λ (z : ℤ). pos 0 ≤ℤ z) (same k side within outside) not),
    )
