-- The lines that are left where a row is taken out.
use Rattle.std.proofs.Common.{◌≡◌, ◌≢◌, ◌∙◌, ℕ, zero, suc, ◌+◌, ◌-◌, ◌*◌, ◌<◌, ◌≤◌, ◌++◌, Bool, true, false, cond, nat_eq, List, [], ◌∷◌, filter, length, map, ℤ, pos, ◌+ℤ◌, refl, sym, ap, ap₂, subst, arith, All, AllPairs, Any, inl, inr, eq-eqb, ne_eqb}
use Rattle.std.specs.List.{AllByRecursion as Each}
use Rattle.std.proofs.lemmas.Bool.{cases_eq}
use Rattle.std.proofs.lemmas.Bool.Decides.{nat_tests}
use Rattle.std.proofs.lemmas.List.Elements.{recursion_from_All, All-from_recursion}
use Rattle.std.proofs.lemmas.List.Kept.{AllPairs-filter}
use Rattle.frac_core.proofs.Integers.{zero-add_ℤ}
use Rattle.problem_core.specs.declared.parts.Mark.{Mark}
use Rattle.problem_core.specs.declared.parts.RowName.{RowName}
use Rattle.problem_core.specs.declared.parts.RowName.TheVariants.{Held, Stay as StayOf}
use Rattle.problem_core.specs.declared.parts.Side.{Side}
use Rattle.problem_core.specs.declared.parts.Side.TheVariants.{Under, Over}
use Rattle.problem_core.specs.declared.parts.Stay.{Stay}
use Rattle.problem_core.specs.Changes.Begins.{is_one_of, without_marks}
use Rattle.problem_core.specs.Kept.{IsRow, IsWhole}
use Rattle.problem_core.specs.Layout.{IsCovered, Line, Problem, Row, line_of_row, lines, product_of, stay_lines, sum_of}
use Rattle.problem_core.specs.Corners.{IsIn, place_of}
use Rattle.problem_core.specs.Unfit.{without_weight}
use Rattle.corner_lines.specs.LineEquations.{IsOutsideLine}
use Rattle.corner_lines.specs.Levels.LevelJoins.{AreLinesBefore, IsLineBefore, level_count}
use Rattle.corner_lines.specs.Removals.{without_row}
use Rattle.corner_lines.proofs.Lines.MarkForms.{same-name}
use Rattle.corner_lines.proofs.ProblemChanges.Dropped.{filter-on, filter-off, lines-left, other_row}
use Rattle.problem_core.proofs.RowNames.{stay-not-held as stay-not, held-same}
use Rattle.problem_core.proofs.Marks.{later-in}
use Rattle.corner_joins.proofs.Basics.SmallFacts.{no-more}

-- ---- the problem where the row has no weight

abbrev pub lighter : ℕ → List Row → List Row
lighter id [] = []
lighter id (r ∷ rows) = cond (nat_eq r.id id) (without_weight r) r ∷ lighter id rows

abbrev pub with_lighter : ℕ → Problem → Problem
with_lighter id p = record { rows = lighter id p.rows; stays = p.stays }

lighter-on : (id : ℕ) (r : Row) (rows : List Row) → r.id ≡ id → lighter id (r ∷ rows) ≡ without_weight r ∷ lighter id rows
lighter-on id r rows e = ap (λ (b : Bool). cond b (without_weight r) r ∷ lighter id rows) (eq-eqb r.id id e)

lighter-off : (id : ℕ) (r : Row) (rows : List Row) → r.id ≢ id → lighter id (r ∷ rows) ≡ r ∷ lighter id rows
lighter-off id r rows n = ap (λ (b : Bool). cond b (without_weight r) r ∷ lighter id rows) (ne_eqb r.id id n)

pub all_left : (P : Line → Type 0) (id : ℕ) (p : Problem) → All P (lines p) → All P (lines (without_row id p))
all_left P id p h = All-from_recursion P (lines (without_row id p)) (lines-left P id p.rows (stay_lines 1001 p.stays) (recursion_from_All P (lines p) h))

-- so does what holds of each where the row has no weight
lighter-left : (P : Line → Type 0) (id : ℕ) (rows : List Row) (ls : List Line) → Each P (map line_of_row (lighter id rows) ++ ls) → Each P (map line_of_row (filter (other_row id) rows) ++ ls)
lighter-left P id [] ls h = h
lighter-left P id (r ∷ rows) ls h = elim (cases_eq r.id id) [
  | inl e ↦ subst (λ (rs : List Row). Each P (map line_of_row rs ++ ls)) (sym (filter-on id r rows e)) (lighter-left P id rows ls h.1)
  | inr n ↦
      let k : Each P (map line_of_row (r ∷ lighter id rows) ++ ls) = subst (λ (rs : List Row). Each P (map line_of_row rs ++ ls)) (lighter-off id r rows n) h in
      subst (λ (rs : List Row). Each P (map line_of_row rs ++ ls)) (sym (filter-off id r rows n)) (k.0, lighter-left P id rows ls k.1)
]

pub each_lighter : (P : Line → Type 0) (id : ℕ) (p : Problem) → Each P (lines (with_lighter id p)) → Each P (lines (without_row id p))
each_lighter P id p h = lighter-left P id p.rows (stay_lines 1001 p.stays) h

-- what holds of the names that are left, and of the row's, holds of all
pub names_back : (P : RowName → Type 0) (id : ℕ) (p : Problem) → P (Held id) → Each (λ l. P l.name) (lines (without_row id p)) → Each (λ l. P l.name) (lines p)
names_back P id p own h = rows p.rows h
  where
    rows : (rs : List Row) → Each (λ l. P l.name) (map line_of_row (filter (other_row id) rs) ++ stay_lines 1001 p.stays) → Each (λ l. P l.name) (map line_of_row rs ++ stay_lines 1001 p.stays)
    rows [] h = h
    rows (r ∷ rs) h = elim (cases_eq r.id id) [
      | inl e ↦ (subst (λ (n : ℕ). P (Held n)) (sym e) own, rows rs (subst (λ (xs : List Row). Each (λ l. P l.name) (map line_of_row xs ++ stay_lines 1001 p.stays)) (filter-on id r rs e) h))
      | inr n ↦
          let k : Each (λ l. P l.name) (map line_of_row (r ∷ filter (other_row id) rs) ++ stay_lines 1001 p.stays) = subst (λ (xs : List Row). Each (λ l. P l.name) (map line_of_row xs ++ stay_lines 1001 p.stays)) (filter-off id r rs n) h in
          (k.0, rows rs k.1)
    ]

-- what holds of the lines that are left holds of all but the row's
pub lines_back : (P : Line → Type 0) (id : ℕ) (p : Problem) → Each P (lines (without_row id p)) → Each (λ l. l.name ≢ Held id → P l) (lines p)
lines_back P id p h = rows p.rows h
  where
    stays : (ls : List Line) → Each P ls → Each (λ l. l.name ≢ Held id → P l) ls
    stays [] h = tt
    stays (l ∷ ls) h = ((λ n. h.0), stays ls h.1)

    rows : (rs : List Row) → Each P (map line_of_row (filter (other_row id) rs) ++ stay_lines 1001 p.stays) → Each (λ l. l.name ≢ Held id → P l) (map line_of_row rs ++ stay_lines 1001 p.stays)
    rows [] h = stays (stay_lines 1001 p.stays) h
    rows (r ∷ rs) h = elim (cases_eq r.id id) [
      | inl e ↦ ((λ n. absurd (n (ap Held e))), rows rs (subst (λ (xs : List Row). Each P (map line_of_row xs ++ stay_lines 1001 p.stays)) (filter-on id r rs e) h))
      | inr n ↦
          let k : Each P (map line_of_row (r ∷ filter (other_row id) rs) ++ stay_lines 1001 p.stays) = subst (λ (xs : List Row). Each P (map line_of_row xs ++ stay_lines 1001 p.stays)) (filter-off id r rs n) h in
          ((λ m. k.0), rows rs k.1)
    ]

-- what holds of each row that is left holds of each line, where it holds of the stays
pub rows_left : (P : Line → Type 0) (id : ℕ) (rows : List Row) (ls : List Line) → Each (λ r. r.id ≢ id → P (line_of_row r)) rows → Each P ls → Each P (map line_of_row (filter (other_row id) rows) ++ ls)
rows_left P id [] ls h k = k
rows_left P id (r ∷ rows) ls h k = elim (cases_eq r.id id) [
  | inl e ↦ subst (λ (rs : List Row). Each P (map line_of_row rs ++ ls)) (sym (filter-on id r rows e)) (rows_left P id rows ls h.1 k)
  | inr n ↦ subst (λ (rs : List Row). Each P (map line_of_row rs ++ ls)) (sym (filter-off id r rows n)) (h.0 n, rows_left P id rows ls h.1 k)
]

-- and back
pub left_rows : (P : Line → Type 0) (id : ℕ) (rows : List Row) (ls : List Line) → Each P (map line_of_row (filter (other_row id) rows) ++ ls) → Each (λ r. r.id ≢ id → P (line_of_row r)) rows
left_rows P id [] ls h = tt
left_rows P id (r ∷ rows) ls h = elim (cases_eq r.id id) [
  | inl e ↦ ((λ n. absurd (n e)), left_rows P id rows ls (subst (λ (rs : List Row). Each P (map line_of_row rs ++ ls)) (filter-on id r rows e) h))
  | inr n ↦
      let k : Each P (map line_of_row (r ∷ filter (other_row id) rows) ++ ls) = subst (λ (rs : List Row). Each P (map line_of_row rs ++ ls)) (filter-off id r rows n) h in
      ((λ m. k.0), left_rows P id rows ls k.1)
]

-- ---- the row has lost its weight

pub left_before : (id : ℕ) (p : Problem) → AreLinesBefore (Held id) (lines (with_lighter id p)) (lines p)
left_before id p = rows p.rows
  where
    stays : (base : ℕ) (ss : List Stay) → AreLinesBefore (Held id) (stay_lines base ss) (stay_lines base ss)
    stays base [] = tt
    stays base (s ∷ ss) = (inl (refl, stay-not s.attr id), stays (base + 1) ss)

    one : (r : Row) → IsLineBefore (Held id) (line_of_row (cond (nat_eq r.id id) (without_weight r) r)) (line_of_row r)
    one r = elim (cases_eq r.id id) [
      | inl e ↦ subst (λ (b : Bool). IsLineBefore (Held id) (line_of_row (cond b (without_weight r) r)) (line_of_row r)) (sym (eq-eqb r.id id e)) (inr (refl, ap Held e))
      | inr n ↦ subst (λ (b : Bool). IsLineBefore (Held id) (line_of_row (cond b (without_weight r) r)) (line_of_row r)) (sym (ne_eqb r.id id n)) (inl (refl, λ e. n (held-same r.id id e)))
    ]

    rows : (rs : List Row) → AreLinesBefore (Held id) (map line_of_row (lighter id rs) ++ stay_lines 1001 p.stays) (map line_of_row rs ++ stay_lines 1001 p.stays)
    rows [] = stays 1001 p.stays
    rows (r ∷ rs) = (one r, rows rs)

-- a sum in which the row stands for nothing
pub left_sum : (f : Line → ℤ) (id : ℕ) (rows : List Row) (ls : List Line) → ((r : Row) → r.id ≡ id → f (line_of_row (without_weight r)) ≡ pos 0) → sum_of f (map line_of_row (lighter id rows) ++ ls) ≡ sum_of f (map line_of_row (filter (other_row id) rows) ++ ls)
left_sum f id [] ls h = refl
left_sum f id (r ∷ rows) ls h = elim (cases_eq r.id id) [
  | inl e ↦
      ap (λ (rs : List Row). sum_of f (map line_of_row rs ++ ls)) (lighter-on id r rows e)
      ∙ ap (λ (z : ℤ). z +ℤ sum_of f (map line_of_row (lighter id rows) ++ ls)) (h r e) ∙ zero-add_ℤ (sum_of f (map line_of_row (lighter id rows) ++ ls))
      ∙ left_sum f id rows ls h ∙ sym (ap (λ (rs : List Row). sum_of f (map line_of_row rs ++ ls)) (filter-on id r rows e))
  | inr n ↦
      ap (λ (rs : List Row). sum_of f (map line_of_row rs ++ ls)) (lighter-off id r rows n)
      ∙ ap (λ (z : ℤ). f (line_of_row r) +ℤ z) (left_sum f id rows ls h) ∙ sym (ap (λ (rs : List Row). sum_of f (map line_of_row rs ++ ls)) (filter-off id r rows n))
]

-- the scales of the rows that are gone
abbrev pub gone : ℕ → List Row → ℕ
gone id [] = 1
gone id (r ∷ rows) = cond (nat_eq r.id id) (r.scale * gone id rows) (gone id rows)

pub left_product : (id : ℕ) (rows : List Row) (ls : List Line) → product_of (λ l. l.scale) (map line_of_row (lighter id rows) ++ ls) ≡ gone id rows * product_of (λ l. l.scale) (map line_of_row (filter (other_row id) rows) ++ ls)
left_product id [] ls = omega arith
left_product id (r ∷ rows) ls = elim (cases_eq r.id id) [
  | inl e ↦
      let k : ℕ = gone id rows in
      let n : ℕ = product_of (λ l. l.scale) (map line_of_row (filter (other_row id) rows) ++ ls) in
      ap (λ (rs : List Row). product_of (λ l. l.scale) (map line_of_row rs ++ ls)) (lighter-on id r rows e)
      ∙ ap (λ (m : ℕ). r.scale * m) (left_product id rows ls) ∙ (let g : r.scale * (k * n) ≡ r.scale * k * n = omega arith in g)
      ∙ ap₂ (λ (b : Bool) (rs : List Row). cond b (r.scale * gone id rows) (gone id rows) * product_of (λ l. l.scale) (map line_of_row rs ++ ls)) (sym (eq-eqb r.id id e)) (sym (filter-on id r rows e))
  | inr n ↦
      let k : ℕ = gone id rows in
      let m : ℕ = product_of (λ l. l.scale) (map line_of_row (filter (other_row id) rows) ++ ls) in
      ap (λ (rs : List Row). product_of (λ l. l.scale) (map line_of_row rs ++ ls)) (lighter-off id r rows n)
      ∙ ap (λ (m : ℕ). r.scale * m) (left_product id rows ls) ∙ (let g : r.scale * (k * m) ≡ k * (r.scale * m) = omega arith in g)
      ∙ ap₂ (λ (b : Bool) (rs : List Row). cond b (r.scale * gone id rows) (gone id rows) * product_of (λ l. l.scale) (map line_of_row rs ++ ls)) (sym (ne_eqb r.id id n)) (sym (filter-off id r rows n))
]

-- ---- how many rows the level has

count-without : (k id : ℕ) (rows : List Row) → Each (λ (s : Row). s.id ≢ id) rows → level_count k (filter (other_row id) rows) ≡ level_count k rows
count-without k id [] h = refl
count-without k id (s ∷ rows) h =
    ap (λ (rs : List Row). level_count k rs) (filter-off id s rows h.0) ∙ same (nat_eq (1000 - s.rank) k) (count-without k id rows h.1)
  where
    same : (b : Bool) → level_count k (filter (other_row id) rows) ≡ level_count k rows → length (cond b (s ∷ filter (λ r. nat_eq (1000 - r.rank) k) (filter (other_row id) rows)) (filter (λ r. nat_eq (1000 - r.rank) k) (filter (other_row id) rows))) ≡ length (cond b (s ∷ filter (λ r. nat_eq (1000 - r.rank) k) rows) (filter (λ r. nat_eq (1000 - r.rank) k) rows))
    same true e = ap suc e
    same false e = e

-- one less
pub left_count_is : (k id : ℕ) (r : Row) (rows : List Row) → r.id ≡ id → k ≡ 1000 - r.rank → AllPairs (λ (a b : Row). a.id < b.id) rows → Any (λ s. s ≡ r) rows → level_count k rows ≡ level_count k (filter (other_row id) rows) + 1
left_count_is k id r rows own level rising is = there rows (pairs rows rising) is
  where
    Apart : List Row → Type 0
    Apart [] = Unit {0}
    Apart (s ∷ rs) = Each (λ (x : Row). s.id < x.id) rs × Apart rs

    tail : (s : Row) (rs : List Row) → AllPairs (λ (a b : Row). a.id < b.id) (s ∷ rs) → AllPairs (λ (a b : Row). a.id < b.id) rs
    tail s rs h = λ i j d lt within. h (suc i) (suc j) d (omega (arith, lt)) (omega (arith, within))

    head : (s : Row) (rs : List Row) → AllPairs (λ (a b : Row). a.id < b.id) (s ∷ rs) → All (λ (x : Row). s.id < x.id) rs
    head s rs h = λ i d within. h 0 (suc i) d (omega arith) (omega (arith, within))

    pairs : (rs : List Row) → AllPairs (λ (a b : Row). a.id < b.id) rs → Apart rs
    pairs [] h = tt
    pairs (s ∷ rs) h = (recursion_from_All (λ (x : Row). s.id < x.id) rs (head s rs h), pairs rs (tail s rs h))

    apart : (s : Row) (rs : List Row) → s.id ≡ id → Each (λ (x : Row). s.id < x.id) rs → Each (λ (x : Row). x.id ≢ id) rs
    apart s [] e h = tt
    apart s (x ∷ rs) e h = ((λ f. (let lt = h.0 in omega (arith, lt, e, f))), apart s rs e h.1)

    below : (s : Row) (rs : List Row) → Each (λ (x : Row). s.id < x.id) rs → Any (λ x. x ≡ r) rs → s.id ≢ id
    below s [] h i e = omega (arith, i.2)
    below s (x ∷ rs) h (zero, d, lt, f, g) e = let less = h.0 in let q : x.id ≡ r.id = ap (λ (y : Row). y.id) (f ∙ g) in omega (arith, less, q, own, e)
    below s (x ∷ rs) h (suc n, d, lt, f, g) e = below s rs h.1 (n, d, omega (arith, lt), f, g) e

    one-on : (n : ℕ) → suc (n + 1) ≡ suc n + 1
    one-on n = omega arith

    off : (s : Row) (rs : List Row) (b : Bool) → level_count k rs ≡ level_count k (filter (other_row id) rs) + 1
        → length (cond b (s ∷ filter (λ r. nat_eq (1000 - r.rank) k) rs) (filter (λ r. nat_eq (1000 - r.rank) k) rs)) ≡ length (cond b (s ∷ filter (λ r. nat_eq (1000 - r.rank) k) (filter (other_row id) rs)) (filter (λ r. nat_eq (1000 - r.rank) k) (filter (other_row id) rs))) + 1
    off s rs true e = ap suc e ∙ one-on (level_count k (filter (other_row id) rs))
    off s rs false e = e

    there : (rs : List Row) → Apart rs → Any (λ s. s ≡ r) rs → level_count k rs ≡ level_count k (filter (other_row id) rs) + 1
    there [] a i = absurd (omega (arith, i.2))
    there (s ∷ rs) a (zero, d, lt, f, g) =
        let e : s.id ≡ id = ap (λ (y : Row). y.id) (f ∙ g) ∙ own in
        let l : 1000 - s.rank ≡ k = ap (λ (y : Row). 1000 - y.rank) (f ∙ g) ∙ sym level in
        ap (λ (b : Bool). length (cond b (s ∷ filter (λ r. nat_eq (1000 - r.rank) k) rs) (filter (λ r. nat_eq (1000 - r.rank) k) rs))) (eq-eqb (1000 - s.rank) k l)
        ∙ no-more (level_count k rs)
        ∙ ap (λ (n : ℕ). n + 1) (sym (count-without k id rs (apart s rs e a.0)) ∙ ap (λ (xs : List Row). level_count k xs) (sym (filter-on id s rs e)))
    there (s ∷ rs) a (suc n, d, lt, f, g) =
        let ne = below s rs a.0 (n, d, omega (arith, lt), f, g) in
        off s rs (nat_eq (1000 - s.rank) k) (there rs a.1 (n, d, omega (arith, lt), f, g)) ∙ ap (λ (xs : List Row). level_count k xs + 1) (sym (filter-off id s rs ne))

-- ---- it is whole

few-left : (id : ℕ) (rows : List Row) → length (filter (other_row id) rows) ≤ length rows
few-left id [] = omega arith
few-left id (r ∷ rows) = elim (cases_eq r.id id) [
  | inl e ↦ subst (λ (rs : List Row). length rs ≤ suc (length rows)) (sym (filter-on id r rows e)) (let h = few-left id rows in omega (arith, h))
  | inr n ↦ subst (λ (rs : List Row). length rs ≤ suc (length rows)) (sym (filter-off id r rows n)) (let h = few-left id rows in omega (arith, h))
]

each-row-left : (P : Row → Type 0) (id : ℕ) (rows : List Row) → Each P rows → Each P (filter (other_row id) rows)
each-row-left P id [] h = tt
each-row-left P id (r ∷ rows) h = elim (cases_eq r.id id) [
  | inl e ↦ subst (λ (rs : List Row). Each P rs) (sym (filter-on id r rows e)) (each-row-left P id rows h.1)
  | inr n ↦ subst (λ (rs : List Row). Each P rs) (sym (filter-off id r rows n)) (h.0, each-row-left P id rows h.1)
]

pub all_rows_left : (P : Row → Type 0) (id : ℕ) (rows : List Row) → All P rows → All P (filter (other_row id) rows)
all_rows_left P id rows h = All-from_recursion P (filter (other_row id) rows) (each-row-left P id rows (recursion_from_All P rows h))

pub left_whole_problem : (p : Problem) (id : ℕ) → IsWhole p → IsWhole (without_row id p)
left_whole_problem p id whole = record {
  rows = all_rows_left IsRow id p.rows whole.rows;
  stays = whole.stays;
  rising = AllPairs-filter (λ (r s : Row). r.id < s.id) (other_row id) p.rows whole.rising;
  apart = whole.apart;
  covered = all_rows_left (IsCovered p.stays) id p.rows whole.covered;
  row_count = let a = whole.row_count in let b = few-left id p.rows in omega (arith, a, b);
  stay_count = whole.stay_count;
}

-- ---- the marks that are left

one-is : (id : ℕ) (name : RowName) (b : Bool) → is_one_of (id ∷ []) name ≡ b → b ≡ true → name ≡ Held id
one-is id (Held n) b e t = held (nat_eq n id) refl (e ∙ t)
  where
    held : (c : Bool) → nat_eq n id ≡ c → cond c true false ≡ true → Held n ≡ Held id
    held true q t = let same : n ≡ id = grind (arith, nat_tests) in ap Held same
    held false q t = absurd (subst (λ (b : Bool). cond b ⊥ (Unit {0})) t tt)
one-is id (StayOf a) b e t = absurd (subst (λ (b : Bool). cond b ⊥ (Unit {0})) (e ∙ t) tt)

-- and each of another row is left
pub in_left : (id : ℕ) (name : RowName) (side : Side) (ms : List Mark) → name ≢ Held id → IsIn (place_of name side) ms → IsIn (place_of name side) (without_marks (id ∷ []) ms)
in_left id name side [] far i = i
in_left id name side (m ∷ ms) far i = by-kind (is_one_of (id ∷ []) m.row) refl (λ j. in_left id name side ms far j) i
  where
    past : m.row ≡ Held id → IsIn (place_of name side) (m ∷ ms) → IsIn (place_of name side) ms
    past e (zero, within, is) = absurd (far (sym (same-name m.row name m.side side is) ∙ e))
    past e (suc k, within, is) = (k, omega (arith, within), is)

    by-kind : (b : Bool) → is_one_of (id ∷ []) m.row ≡ b → (IsIn (place_of name side) ms → IsIn (place_of name side) (without_marks (id ∷ []) ms)) → IsIn (place_of name side) (m ∷ ms) → IsIn (place_of name side) (cond (cond b false true) (m ∷ without_marks (id ∷ []) ms) (without_marks (id ∷ []) ms))
    by-kind true e f i = f (past (one-is id m.row true e refl) i)
    by-kind false e f (zero, within, is) = (0, omega arith, is)
    by-kind false e f (suc k, within, is) = later-in m (without_marks (id ∷ []) ms) (place_of name side) (f (k, omega (arith, within), is))

pub outside_back : (at : List Mark) (id : ℕ) (name : RowName) → name ≢ Held id → IsOutsideLine (without_marks (id ∷ []) at) name → IsOutsideLine at name
outside_back at id name far out = record { under = λ i. out.under (in_left id name Under at far i); over = λ i. out.over (in_left id name Over at far i) }
