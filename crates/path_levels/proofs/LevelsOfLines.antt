-- The levels at all places of an outline: their numbers, their lines, and whether their first rows fit.
use Rattle.std.proofs.Common.{◌≡◌, ◌∙◌, ℕ, suc, ◌+◌, ◌-◌, ◌<◌, ◌≤◌, ◌++◌, Bool, true, false, cond, nat_eq, List, [], ◌∷◌, length, filter, get_or, ne_eqb, sym, ap, subst, arith, inl, inr, Option}
use Rattle.std.specs.List.{AllPairs}
use Rattle.std.proofs.lemmas.Bool.{cases_eq, cases_lt}
use Rattle.std.proofs.lemmas.List.{get_or_append_left, get_or_push}
use Rattle.problem_core.specs.declared.parts.Level.{Level}
use Rattle.problem_core.specs.declared.parts.Level.TheVariants.{Priority, Stay as StayLevel}
use Rattle.problem_core.specs.declared.parts.Mark.{Mark}
use Rattle.problem_core.specs.declared.stops.Quantity.TheVariants.{Rows}
use Rattle.problem_core.specs.Kept.{IsWhole}
use Rattle.problem_core.specs.Layout.{Line, Problem, Row, line_of_stay, lines}
use Rattle.problem_core.specs.Levels.{IsLevelAt}
use Rattle.problem_core.specs.Unfit.{IsUnfitRows}
use Rattle.path_lines.specs.Room.{ComesBefore}
use Rattle.path_lines.specs.declared.table.Inside.{Inside}
use Rattle.path_lines.proofs.Walking.FirstLines.{count_lines, row_at}
use Rattle.path_levels.specs.declared.outline.Outline.{Outline}
use Rattle.path_levels.specs.declared.tableau.CornerLines.{CornerLines}
use Rattle.path_levels.specs.declared.outline.LevelFacts.{LevelFacts}
use Rattle.path_levels.specs.declared.outline.LineFacts.{LineFacts}
use Rattle.frac_core.specs.declared.memory.Stop.TheVariants.{Refused, OutOfMemory}
use Rattle.path_levels.specs.declared.sums.LevelSum.{LevelSum}
use Rattle.path_levels.specs.Outlines.{AreLevelFacts, IsOutline, number_at}
use Rattle.path_levels.specs.Levels.{AreLevels}
use Rattle.path_levels.specs.Rows.{AllRowsFit, AreFittingRows, AreKept, AreKeptOf, IsFirstOfAll, IsFirstUnfit, IsLevelsStop, IsRowsStop, IsRowsSum, RowsStop, level_size}
use Rattle.path_levels.proofs.OutlineParts.{number_is, stay_at}
use Rattle.path_levels.proofs.Parts.PartLines.{facts_at}
use Rattle.path_lines.proofs.Places.{any_line}
use Rattle.path_lines.proofs.Places.{any_stay}
use Rattle.path_levels.proofs.Exchanges.MultipleFacts.{any_level}
use Rattle.problem_core.proofs.RowNames.{held-not-stay as not_held, stay-same as same_attr}
use Rattle.corner_lines.proofs.LevelRows.StayRows.{level_one as number_unique}

-- ---- the number of a level

any_row : Row
any_row = record { id = 0; rank = 0; weight = 0; rel = any_line.rel; scale = 1; constant = any_stay.target; terms = [] }

-- a stay's level has the number of its place
pub stay_of_level : (p : Problem) (attr k : ℕ) → IsLevelAt p (StayLevel attr) k → (i : ℕ) × (i < length p.stays) × (k ≡ 1001 + i) × ((get_or p.stays i any_stay).attr ≡ attr)
stay_of_level p attr k (n, l, within, is, (name, level)) =
    elim (cases_lt n (length p.rows)) [
      | inl row ↦ absurd (not_held (get_or p.rows n any_row).id attr (sym (ap (λ (l : Line). l.name) (row_at p n l any_row row)) ∙ ap (λ (l : Line). l.name) is ∙ name))
      | inr stay ↦
          let i : ℕ = n - length p.rows in
          let n_is : length p.rows + i ≡ n = omega (arith, stay) in
          let here : i < length p.stays = omega (arith, within, stay, count_lines p) in
          let line : l ≡ line_of_stay (1001 + i) (get_or p.stays i any_stay) = sym is ∙ ap (λ (m : ℕ). get_or (lines p) m l) (sym n_is) ∙ stay_at p i l any_stay here in
          (i, here, sym level ∙ ap (λ (l : Line). l.level) line, same_attr (get_or p.stays i any_stay).attr attr (sym (ap (λ (l : Line). l.name) line) ∙ name))
    ]

-- one level has this number
pub level_unique : (p : Problem) (l m : Level) (k : ℕ) → IsLevelAt p l k → IsLevelAt p m k → l ≡ m
level_unique p (Priority r) (Priority s) k h g = ap Priority (let e : r ≡ s = omega (arith, h, g) in e)
level_unique p (Priority r) (StayLevel a) k h g = let s = stay_of_level p a k g in absurd (omega (arith, h, s.2))
level_unique p (StayLevel a) (Priority r) k h g = let s = stay_of_level p a k h in absurd (omega (arith, g, s.2))
level_unique p (StayLevel a) (StayLevel b) k h g =
    let s = stay_of_level p a k h in
    let t = stay_of_level p b k g in
    let e : s.0 ≡ t.0 = omega (arith, s.2, t.2) in
    ap StayLevel (sym s.3 ∙ ap (λ (i : ℕ). (get_or p.stays i any_stay).attr) e ∙ t.3)

-- the level at a place of the outline has the number there
level_at : (p : Problem) (levels : List LevelFacts) (place : ℕ) (d : LevelFacts) → AreLevelFacts p levels → place < length levels → d ≡ get_or levels place d → IsLevelAt p d.level (number_at levels place)
level_at p levels place d are within is =
    subst (IsLevelAt p d.level) (sym (number_is levels place d within ∙ ap (λ (f : LevelFacts). f.number) (sym is)))
    (subst (λ (f : LevelFacts). IsLevelAt p f.level f.number) (sym is) (are.each place d within))

stay_number : (p : Problem) (attr k : ℕ) → IsLevelAt p (StayLevel attr) k → 1000 < k
stay_number p attr k h = let s = stay_of_level p attr k h in omega (arith, s.2)

pub stays_high : (outline : Outline) (place attr : ℕ) (d : LevelFacts) → place < length outline.levels.items → d ≡ get_or outline.levels.items place d → d.level ≡ StayLevel attr → (p : Problem) → IsOutline p outline → 1000 < number_at outline.levels.items place
stays_high outline place attr d within is level p are = stay_number p attr (number_at outline.levels.items place) (subst (λ (l : Level). IsLevelAt p l (number_at outline.levels.items place)) level (level_at p outline.levels.items place d are.levels_are within is))

-- ---- the lines of a level

least_size : (P : Line → Bool) (ls : List Line) → length (filter P ls) ≤ length ls
least_size P [] = omega arith
least_size P (l ∷ ls) = one_more (P l) l (filter P ls) (length ls) (least_size P ls)
  where
    one_more : (b : Bool) (l : Line) (xs : List Line) (n : ℕ) → length xs ≤ n → length (cond b (l ∷ xs) xs) ≤ suc n
    one_more true l xs n h = omega (arith, h)
    one_more false l xs n h = omega (arith, h)

-- a level has fewer lines than the greatest count
pub size_within : (p : Problem) (level : ℕ) → IsWhole p → level_size p level ≤ 4294967295
size_within p level whole =
    let h = least_size (λ l. nat_eq l.level level) (lines p) in
    let r = whole.row_count in
    let s = whole.stay_count in
    omega (arith, h, r, s, count_lines p)

-- where there are lines of the level, one is at a place
has_line : (level : ℕ) (ls : List Line) → 1 ≤ length (filter (λ l. nat_eq l.level level) ls) → (k : ℕ) × (k < length ls) × ((get_or ls k any_line).level ≡ level)
has_line level [] h = absurd (omega (arith, h))
has_line level (l ∷ ls) h =
    elim (cases_eq l.level level) [
      | inl e ↦ (0, omega arith, e)
      | inr ne ↦
          let rest : length (filter (λ l. nat_eq l.level level) (l ∷ ls)) ≡ length (filter (λ l. nat_eq l.level level) ls) =
          ap (λ (b : Bool). length (cond b (l ∷ filter (λ l. nat_eq l.level level) ls) (filter (λ l. nat_eq l.level level) ls))) (ne_eqb l.level level ne) in
          let k = has_line level ls (omega (arith, h, rest)) in
          (suc k.0, omega (arith, k.1), k.2)
    ]

-- the level of a line is in the outline
pub placed_level : (p : Problem) (outline : Outline) (level : ℕ) → IsOutline p outline → 1 ≤ level_size p level → (place : ℕ) × (place < length outline.levels.items) × (number_at outline.levels.items place ≡ level)
placed_level p outline level is some =
    let k = has_line level (lines p) some in
    let f = facts_at outline.levels.items (lines p) outline.lines.items k.0 any_line any_facts is.lines_are k.1 in
    ((get_or outline.lines.items k.0 any_facts).level, f.level, f.number ∙ k.2)
  where
    any_facts : LineFacts
    any_facts = record { name = any_line.name; level = 0; under = any_line.num; over = any_line.num; scale = any_line.num }

-- ---- kept at a place

pub kept_of : (p : Problem) (at : List Mark) (outline : Outline) (place most : ℕ) (kept : List (Option Inside)) → AreKept p at outline kept → AreKeptOf p at outline place most kept
kept_of p at outline place most kept is = record {
  outline_is = is.outline_is;
  there = is.there;
  count = is.lines_are.count;
  each = λ k d f within here less. is.lines_are.each k d within;
}

-- ---- all levels

-- the rows of the levels at the first n places are made
pub record AreRowsTo (outline : Outline) (kept : List (Option Inside)) (n : ℕ) (levels : List LevelSum) : Type 0 where
  pub rows : (p : Problem) (at : List Mark) → AreKept p at outline kept → (k : ℕ) (d : LevelSum) → k < n → IsRowsSum p at outline k 4294967295 (get_or levels k d)
  pub fits : (p : Problem) (at : List Mark) → AreKept p at outline kept → (k : ℕ) → k < n → (level : Level) → IsLevelAt p level (number_at outline.levels.items k) → AreFittingRows p at level 4294967295

pub one_more_level : (outline : Outline) (kept : List (Option Inside)) (n : ℕ) (levels : List LevelSum) (sum : LevelSum) → length levels ≡ n → AreRowsTo outline kept n levels
    → ((p : Problem) (at : List Mark) → AreKeptOf p at outline n 4294967295 kept → IsRowsSum p at outline n 4294967295 sum) → AreRowsTo outline kept (n + 1) (levels ++ sum ∷ [])
one_more_level outline kept n levels sum count old new = record {
  rows = λ p at are k d less.
      elim (cases_eq k n) [
        | inl e ↦ subst (IsRowsSum p at outline k 4294967295) (sym (get_or_push levels sum d k (count ∙ sym e))) (here p at are k e)
        | inr ne ↦ subst (IsRowsSum p at outline k 4294967295) (sym (get_or_append_left levels (sum ∷ []) d k (omega (arith, less, ne, count)))) (old.rows p at are k d (omega (arith, less, ne)))
      ];
  fits = λ p at are k less level there.
      elim (cases_eq k n) [
        | inl e ↦ (here p at are k e).fitting level there
        | inr ne ↦ old.fits p at are k (omega (arith, less, ne)) level there
      ];
}
  where
    here : (p : Problem) (at : List Mark) → AreKept p at outline kept → (k : ℕ) → k ≡ n → IsRowsSum p at outline k 4294967295 sum
    here p at are k e = subst (λ (m : ℕ). IsRowsSum p at outline m 4294967295 sum) (sym e) (new p at (kept_of p at outline n 4294967295 kept are))

pub are_levels : (outline : Outline) (kept : List (Option Inside)) (n : ℕ) (levels : List LevelSum) (p : Problem) (at : List Mark) → length levels ≡ n → n ≡ length outline.levels.items → AreRowsTo outline kept n levels → AreKept p at outline kept → AreLevels p at outline levels
are_levels outline kept n levels p at count whole rows are = record {
  count = count ∙ whole;
  each = λ k d within. (rows.rows p at are k d (omega (arith, within, whole))).whole (size_within p (number_at outline.levels.items k) are.there.whole);
}

-- the first rows of the level at a place fit
fits_there : (p : Problem) (at : List Mark) (outline : Outline) (kept : List (Option Inside)) (n : ℕ) (levels : List LevelSum) (level : Level) (j k place : ℕ) → AreRowsTo outline kept n levels → AreKept p at outline kept
    → place < n → number_at outline.levels.items place ≡ k → IsLevelAt p level k → j ≤ level_size p k → IsUnfitRows p at level j → ⊥
fits_there p at outline kept n levels level j k place rows are less is there most unfit =
    let size = size_within p k are.there.whole in
    rows.fits p at are place less level (subst (IsLevelAt p level) (sym is) there) j (omega (arith, most, size)) unfit

pub all_fit : (outline : Outline) (kept : List (Option Inside)) (n : ℕ) (levels : List LevelSum) (p : Problem) (at : List Mark) → n ≡ length outline.levels.items → AreRowsTo outline kept n levels → AreKept p at outline kept → AllRowsFit p at
all_fit outline kept n levels p at whole rows are level j (k, there, low, high, none) =
    let place = placed_level p outline k are.outline_is (omega (arith, low, high)) in
    fits_there p at outline kept n levels level j k place.0 rows are (omega (arith, place.1, whole)) place.2 there high (k, there, low, high, none)

-- ---- the first that does not fit

-- a level with a smaller number has a smaller place
lower_place : (levels : List LevelFacts) (a b : ℕ) (d : LevelFacts) → AllPairs (λ f g. f.number < g.number) levels → a < length levels → b < length levels → number_at levels a < number_at levels b → a < b
lower_place levels a b d rising in_a in_b less =
    let x = number_is levels a d in_a in
    let y = number_is levels b d in_b in
    elim (cases_lt a b) [
      | inl lower ↦ lower
      | inr from ↦ elim (cases_eq a b) [
        | inl e ↦ (let z : number_at levels a ≡ number_at levels b = ap (number_at levels) e in absurd (omega (arith, less, z)))
        | inr ne ↦ (let z : (get_or levels b d).number < (get_or levels a d).number = rising b a d (omega (arith, from, ne)) in_a in absurd (omega (arith, less, x, y, z)))
      ]
    ]

earlier_fits : (outline : Outline) (kept : List (Option Inside)) (n : ℕ) (levels : List LevelSum) (p : Problem) (at : List Mark) (level other : Level) (i : ℕ) → n < length outline.levels.items → AreRowsTo outline kept n levels → AreKept p at outline kept
    → (b : ℕ) → b ≡ number_at outline.levels.items n → (a : ℕ) → IsLevelAt p other a → a < b → IsUnfitRows p at other i → ⊥
earlier_fits outline kept n levels p at level other i within rows are b b_is a there less (k, at_k, low, high, none) =
    let same : k ≡ a = number_unique p other k a are.there.whole at_k there in
    let place = placed_level p outline k are.outline_is (omega (arith, low, high)) in
    let before : place.0 < n = lower_place outline.levels.items place.0 n any_level are.outline_is.levels_are.rising place.1 within (omega (arith, place.2, same, less, b_is)) in
    fits_there p at outline kept n levels other i k place.0 rows are before place.2 at_k high (k, at_k, low, high, none)

first_of_all : (outline : Outline) (kept : List (Option Inside)) (n : ℕ) (levels : List LevelSum) (p : Problem) (at : List Mark) (level : Level) (j : ℕ) → n < length outline.levels.items → AreRowsTo outline kept n levels → AreKept p at outline kept
    → IsLevelAt p level (number_at outline.levels.items n) × (j ≤ 4294967295) × IsFirstUnfit p at level j → IsFirstOfAll p at level j
first_of_all outline kept n levels p at level j within rows are (here, most, first) = record {
  unfit = first.unfit;
  before = before;
}
  where
    before : (other : Level) (i : ℕ) → ComesBefore p (Rows other i) (Rows level j) → IsUnfitRows p at other i → ⊥
    before other i (a, b, at_a, at_b, inl less) unfit =
        earlier_fits outline kept n levels p at level other i within rows are b (number_unique p level b (number_at outline.levels.items n) are.there.whole at_b here) a at_a less unfit
    before other i (a, b, at_a, at_b, inr (same, less)) unfit =
        first.before i less (subst (λ (l : Level). IsUnfitRows p at l i) (level_unique p other level b (subst (IsLevelAt p other) same at_a) at_b) unfit)

pub levels_stop : (corner : CornerLines) (n : ℕ) (levels : List LevelSum) (stop : RowsStop) → n < length corner.outline.now.levels.items → AreRowsTo corner.outline.now corner.lines.now n levels
    → IsRowsStop corner n 4294967295 stop → IsLevelsStop corner stop
levels_stop corner n levels (Refused bad) within rows is = λ p at are. first_of_all corner.outline.now corner.lines.now n levels p at bad.level bad.first within rows are (is p at (kept_of p at corner.outline.now n 4294967295 corner.lines.now are))
levels_stop corner n levels OutOfMemory within rows is = tt
