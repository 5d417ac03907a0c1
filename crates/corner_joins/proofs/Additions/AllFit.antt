-- Where rows have joined no sum on the way lacks a writing that fits.
use Rattle.std.proofs.Common.{◌≡◌, ◌≢◌, ◌∙◌, ℕ, suc, ◌+◌, ◌-◌, ◌<◌, ◌≤◌, ◌++◌, Bool, true, false, cond, nat_eq, List, [], ◌∷◌, length, take, drop, refl, sym, ap, subst, arith, inl, inr, All, AllPairs, get_or, slice_index_or, ne_eqb, true≢false}
use Rattle.std.specs.List.{AllByRecursion as Each, filter}
use Rattle.std.proofs.lemmas.Bool.{cases_Bool, cases_eq, cases_lt}
use Rattle.std.proofs.lemmas.List.{append-nil as append_none, get_or_default}
use Rattle.std.proofs.lemmas.List.Elements.{recursion_from_All}
use Rattle.cert_core.specs.Paths.{Path}
use Rattle.cert_core.specs.Stops.{IsPartial, IsUnfitPath}
use Rattle.problem_core.specs.declared.parts.Mark.{Mark}
use Rattle.problem_core.specs.declared.stops.Quantity.{Quantity}
use Rattle.problem_core.specs.declared.stops.Quantity.TheVariants.{Plain, Terms, Rows, Shifts}
use Rattle.problem_core.specs.Layout.{Problem, Row}
use Rattle.problem_core.specs.Levels.{HasNoLevelWriting}
use Rattle.problem_core.specs.Kept.{IsWhole}
use Rattle.problem_core.specs.Changes.Begins.{BeginsWith}
use Rattle.problem_core.specs.Corners.{IsCorner, SameMarks, place}
use Rattle.problem_core.specs.Unfit.{HasNoWriting, first_terms, over_mark, with_first_rows}
use Rattle.corner_laws.specs.Lifts.{with_rows}
use Rattle.corner_laws.proofs.PathEnds.BeginsUnique.{begins_unique}
use Rattle.corner_lines.specs.Levels.LevelJoins.{level_count}
use Rattle.corner_lines.proofs.LevelRows.SameLevels.{unfit-level}
use Rattle.corner_lines.proofs.LevelRows.StayRows.{level_one}
use Rattle.corner_table.specs.Invariants.{seen_of}
use Rattle.corner_table.specs.Tables.{Lists, marks_at, problem_of}
use Rattle.corner_view.specs.AddStops.{AllSumsFit, FromAdded}
use Rattle.corner_joins.specs.Additions.Parts.{IsPartlyKept}
use Rattle.corner_joins.specs.Additions.RowJoins.{ArePushed}
use Rattle.corner_joins.specs.Additions.SumFits.{DoCostsFit, DoRowsFit}
use Rattle.corner_joins.proofs.Additions.RowPaths.{problem_so_far}

-- ---- a row by its number

over-number : (a b : ℕ) → over_mark a ≡ over_mark b → a ≡ b
over-number a b e = let h : place (over_mark a) ≡ place (over_mark b) = ap place e in omega (arith, h)

same-place : (rows : List Row) (k l : ℕ) (d : Row) → AllPairs (λ (r s : Row). r.id < s.id) rows → k < length rows → l < length rows → (get_or rows k d).id ≡ (get_or rows l d).id → k ≡ l
same-place rows k l d rising here there same = elim (cases_lt k l) [
  | inl before ↦ (let h = rising k l d before there in absurd (omega (arith, h, same)))
  | inr from ↦ elim (cases_lt l k) [
    | inl after ↦ (let h = rising l k d after here in absurd (omega (arith, h, same)))
    | inr least ↦ omega (arith, from, least)
  ]
]

same-row : (rows : List Row) (k l : ℕ) (r s : Row) → AllPairs (λ (r s : Row). r.id < s.id) rows → k < length rows → get_or rows k r ≡ r → l < length rows → get_or rows l s ≡ s → r.id ≡ s.id → r ≡ s
same-row rows k l r s rising within is within2 is2 e =
    let there : get_or rows l r ≡ s = get_or_default rows l r s within2 ∙ is2 in
    let at : k ≡ l = same-place rows k l r rising within within2 (ap (λ (t : Row). t.id) is ∙ e ∙ ap (λ (t : Row). t.id) (sym there)) in
    sym is ∙ ap (λ (n : ℕ). get_or rows n r) at ∙ there

held-behind : (before : List Row) (r : Row) (after : List Row) → (k : ℕ) × (k < length (before ++ (r ∷ after))) × (get_or (before ++ (r ∷ after)) k r ≡ r)
held-behind [] r after = (0, omega arith, refl)
held-behind (s ∷ before) r after = let h = held-behind before r after in (suc h.0, omega (arith, h.1), h.2)

-- ---- places in lists

take-front : (xs ys : List Row) → take (length xs) (xs ++ ys) ≡ xs
take-front [] ys = refl
take-front (x ∷ xs) ys = ap (λ (zs : List Row). x ∷ zs) (take-front xs ys)

drop-front : (xs ys : List Row) → drop (length xs) (xs ++ ys) ≡ ys
drop-front [] ys = refl
drop-front (x ∷ xs) ys = drop-front xs ys

drop-next : (xs : List Row) (y : Row) (ys : List Row) → drop (length xs + 1) (xs ++ (y ∷ ys)) ≡ ys
drop-next [] y ys = refl
drop-next (x ∷ xs) y ys = ap (λ (n : ℕ). drop n (x ∷ (xs ++ (y ∷ ys)))) (let e : length (x ∷ xs) + 1 ≡ suc (length xs + 1) = omega arith in e) ∙ drop-next xs y ys

within-front : (xs : List Row) (y : Row) (ys : List Row) → length xs < length (xs ++ (y ∷ ys))
within-front [] y ys = omega arith
within-front (x ∷ xs) y ys = let h = within-front xs y ys in omega (arith, h)

-- ---- the first rows of a level

abbrev of_level : ℕ → Row → Bool
of_level k r = nat_eq (1000 - r.rank) k

-- the row of the level that comes behind so many of them is one of the new rows
record IsPlaced (k : ℕ) (old rows before : List Row) (r : Row) : Type 0 where
  place : ℕ
  within : place < length rows
  here : drop place rows ≡ r ∷ drop (place + 1) rows
  count : length before ≡ level_count k (old ++ take place rows)
  level : of_level k r ≡ true

off-count : (k : ℕ) (x : Row) (xs : List Row) → of_level k x ≡ false → level_count k (x ∷ xs) ≡ level_count k xs
off-count k x xs off = ap (λ (b : Bool). length (cond b (x ∷ filter (of_level k) xs) (filter (of_level k) xs))) off

on-count : (k : ℕ) (x : Row) (xs : List Row) → of_level k x ≡ true → level_count k (x ∷ xs) ≡ suc (level_count k xs)
on-count k x xs on = ap (λ (b : Bool). length (cond b (x ∷ filter (of_level k) xs) (filter (of_level k) xs))) on

off-filter : (k : ℕ) (x : Row) (xs : List Row) → of_level k x ≡ false → filter (of_level k) (x ∷ xs) ≡ filter (of_level k) xs
off-filter k x xs off = ap (λ (b : Bool). cond b (x ∷ filter (of_level k) xs) (filter (of_level k) xs)) off

on-filter : (k : ℕ) (x : Row) (xs : List Row) → of_level k x ≡ true → filter (of_level k) (x ∷ xs) ≡ x ∷ filter (of_level k) xs
on-filter k x xs on = ap (λ (b : Bool). cond b (x ∷ filter (of_level k) xs) (filter (of_level k) xs)) on

first-is : (x y : Row) (xs ys : List Row) → x ∷ xs ≡ y ∷ ys → x ≡ y
first-is x y xs ys e = ap (λ (zs : List Row). slice_index_or zs 0 x) e

rest-is : (x y : Row) (xs ys : List Row) → x ∷ xs ≡ y ∷ ys → xs ≡ ys
rest-is x y xs ys e = ap (λ (zs : List Row). drop 1 zs) e

none-is : (before : List Row) (r : Row) (after : List Row) → [] ≡ before ++ (r ∷ after) → ⊥
none-is [] r after e = let h : 0 ≡ length (r ∷ after) = ap length e in absurd (omega (arith, h))
none-is (x ∷ before) r after e = let h : 0 ≡ length (x ∷ (before ++ (r ∷ after))) = ap length e in absurd (omega (arith, h))

in-rows : (k : ℕ) (rows before : List Row) (r : Row) (after : List Row) → filter (of_level k) rows ≡ before ++ (r ∷ after) → IsPlaced k [] rows before r
in-rows k [] before r after e = absurd (none-is before r after e)
in-rows k (x ∷ rows) before r after e = elim (cases_Bool (of_level k x)) [
  | inl on ↦ on-case before (λ front same. in-rows k rows front r after same) (sym (on-filter k x rows on) ∙ e) on
  | inr off ↦
      let h = in-rows k rows before r after (sym (off-filter k x rows off) ∙ e) in
      record { place = suc h.place; within = omega (arith, h.within); here = behind h.place h.here; count = h.count ∙ sym (off-count k x (take h.place rows) off); level = h.level }
]
  where
    behind : (n : ℕ) → drop n rows ≡ r ∷ drop (n + 1) rows → drop (suc n) (x ∷ rows) ≡ r ∷ drop (suc n + 1) (x ∷ rows)
    behind n h = h ∙ ap (λ (m : ℕ). r ∷ drop m (x ∷ rows)) (let s : suc (n + 1) ≡ suc n + 1 = omega arith in s)

    on-case : (before : List Row) → ((front : List Row) → filter (of_level k) rows ≡ front ++ (r ∷ after) → IsPlaced k [] rows front r) → x ∷ filter (of_level k) rows ≡ before ++ (r ∷ after) → of_level k x ≡ true → IsPlaced k [] (x ∷ rows) before r
    on-case [] rest e on = record { place = 0; within = omega arith; here = ap (λ (y : Row). y ∷ rows) (first-is x r (filter (of_level k) rows) after e); count = refl; level = subst (λ (y : Row). of_level k y ≡ true) (first-is x r (filter (of_level k) rows) after e) on }
    on-case (b ∷ before) rest e on =
        let h = rest before (rest-is x b (filter (of_level k) rows) (before ++ (r ∷ after)) e) in
        record { place = suc h.place; within = omega (arith, h.within); here = behind h.place h.here; count = ap suc h.count ∙ sym (on-count k x (take h.place rows) on); level = h.level }

behind-old : (k : ℕ) (old rows before : List Row) (r : Row) (after : List Row) → Each (λ (s : Row). s.id ≢ r.id) old → filter (of_level k) (old ++ rows) ≡ before ++ (r ∷ after) → IsPlaced k old rows before r
behind-old k [] rows before r after new e = in-rows k rows before r after e
behind-old k (x ∷ old) rows before r after new e = elim (cases_Bool (of_level k x)) [
  | inl on ↦ on-case before (λ front same. behind-old k old rows front r after new.1 same) (sym (on-filter k x (old ++ rows) on) ∙ e) on
  | inr off ↦
      let h = behind-old k old rows before r after new.1 (sym (off-filter k x (old ++ rows) off) ∙ e) in
      record { place = h.place; within = h.within; here = h.here; count = h.count ∙ sym (off-count k x (old ++ take h.place rows) off); level = h.level }
]
  where
    on-case : (before : List Row) → ((front : List Row) → filter (of_level k) (old ++ rows) ≡ front ++ (r ∷ after) → IsPlaced k old rows front r) → x ∷ filter (of_level k) (old ++ rows) ≡ before ++ (r ∷ after) → of_level k x ≡ true → IsPlaced k (x ∷ old) rows before r
    on-case [] rest e on = absurd (new.0 (ap (λ (y : Row). y.id) (first-is x r (filter (of_level k) (old ++ rows)) after e)))
    on-case (b ∷ before) rest e on =
        let h = rest before (rest-is x b (filter (of_level k) (old ++ rows)) (before ++ (r ∷ after)) e) in
        record { place = h.place; within = h.within; here = h.here; count = ap suc h.count ∙ sym (on-count k x (old ++ take h.place rows) on); level = h.level }

level-is : (k n : ℕ) → nat_eq n k ≡ true → n ≡ k
level-is k n e = elim (cases_eq n k) [
  | inl same ↦ same
  | inr ne ↦ absurd (true≢false (sym e ∙ ne_eqb n k ne))
]

-- ---- no stop

-- what is known once all rows have joined
pub record HaveJoined (t mid : Lists) (rows : List Row) : Type 0 where
  pub whole : IsWhole (with_rows rows (problem_of t))
  pub before : IsCorner (problem_of t) (marks_at t)
  pub pushed : ArePushed rows t mid
  pub begins : BeginsWith (problem_of mid) (marks_at t) rows [] (marks_at mid)
  pub kept : IsPartlyKept mid
  pub terms : DoRowsFit t rows (length rows)
  pub costs : DoCostsFit mid t.rows rows (length rows)

terms-fit : (t mid : Lists) (rows : List Row) → HaveJoined t mid rows → (joined : List Row) (r : Row) (rest : List Row) (at : List Mark) (j : ℕ) → joined ++ (r ∷ rest) ≡ rows → IsCorner (with_rows rows (problem_of t)) at → BeginsWith (with_rows rows (problem_of t)) (marks_at t) joined (r ∷ rest) at
    → 1 ≤ j → j ≤ length r.terms + 1 → HasNoWriting (with_rows rows (problem_of t)) at (first_terms r j) → ⊥
terms-fit t mid rows h joined r rest at j parts corner begins low high none =
    let p : Problem = with_rows rows (problem_of t) in
    let k : ℕ = length joined in
    let front : take k rows ≡ joined = ap (λ (xs : List Row). take k xs) (sym parts) ∙ take-front joined (r ∷ rest) in
    let behind : drop (k + 1) rows ≡ rest = ap (λ (xs : List Row). drop (k + 1) xs) (sym parts) ∙ drop-next joined r rest in
    let here : drop k rows ≡ r ∷ drop (k + 1) rows = ap (λ (xs : List Row). drop k xs) (sym parts) ∙ drop-front joined (r ∷ rest) ∙ ap (λ (xs : List Row). r ∷ xs) (sym behind) in
    let less : k < length rows = subst (λ (xs : List Row). k < length xs) parts (within-front joined r rest) in
    h.terms k r less here at corner
    (subst (λ (xs : List Row). BeginsWith p (marks_at t) xs (r ∷ drop (k + 1) rows) at) (sym front) (subst (λ (xs : List Row). BeginsWith p (marks_at t) joined (r ∷ xs) at) (sym behind) begins)) j low high none

this-row : (t : Lists) (rows joined : List Row) (r : Row) (rest : List Row) (i : ℕ) (s : Row) → IsWhole (with_rows rows (problem_of t)) → joined ++ (r ∷ rest) ≡ rows → i < length (t.rows ++ rows) → get_or (t.rows ++ rows) i s ≡ s → s.id ≡ r.id → s ≡ r
this-row t rows joined r rest i s whole parts within is e =
    let there = behind t.rows in
    same-row (t.rows ++ rows) i there.0 s r whole.rising within is there.1 there.2 e
  where
    behind : (old : List Row) → (k : ℕ) × (k < length (old ++ rows)) × (get_or (old ++ rows) k r ≡ r)
    behind [] = let h = held-behind joined r rest in (h.0, subst (λ (xs : List Row). h.0 < length xs) parts h.1, subst (λ (xs : List Row). get_or xs h.0 r ≡ r) parts h.2)
    behind (x ∷ old) = let h = behind old in (suc h.0, omega (arith, h.1), h.2)

costs-fit : (t mid : Lists) (rows : List Row) → HaveJoined t mid rows → (at : List Mark) (k j : ℕ) (before : List Row) (r : Row) (after : List Row) → IsCorner (with_rows rows (problem_of t)) at → BeginsWith (with_rows rows (problem_of t)) (marks_at t) rows [] at
    → filter (of_level k) (t.rows ++ rows) ≡ before ++ (r ∷ after) → length before + 1 ≡ j → All (λ (s : Row). s.id ≢ r.id) t.rows → HasNoLevelWriting (with_first_rows k j (with_rows rows (problem_of t))) at k → ⊥
costs-fit t mid rows h at k j before r after corner begins parts count new none =
    let p : Problem = with_rows rows (problem_of t) in
    let f = behind-old k t.rows rows before r after (recursion_from_All (λ (s : Row). s.id ≢ r.id) t.rows new) parts in
    let same : problem_of mid ≡ p = problem_so_far rows t mid h.pushed in
    let level : 1000 - r.rank ≡ k = level-is k (1000 - r.rank) f.level in
    let marks : SameMarks at (marks_at mid) =
    begins_unique p t.rows rows [] (marks_at t) at (marks_at mid) h.whole (ap (λ (xs : List Row). t.rows ++ xs) (sym (append_none rows))) h.before corner (subst (λ (q : Problem). IsCorner q (marks_at mid)) same h.kept.corner) begins
    (subst (λ (q : Problem). BeginsWith q (marks_at t) rows [] (marks_at mid)) same h.begins) in
    let n : ℕ = level_count k (t.rows ++ take f.place rows) + 1 in
    let a : HasNoLevelWriting (with_first_rows k j p) (marks_at mid) k = unfit-level (with_first_rows k j p) at (marks_at mid) k marks none in
    let b : HasNoLevelWriting (with_first_rows k n p) (marks_at mid) k = subst (λ (m : ℕ). HasNoLevelWriting (with_first_rows k m p) (marks_at mid) k) (sym count ∙ ap (λ (m : ℕ). m + 1) f.count) a in
    let c : HasNoLevelWriting (with_first_rows k n (problem_of mid)) (marks_at mid) k = subst (λ (q : Problem). HasNoLevelWriting (with_first_rows k n q) (marks_at mid) k) (sym same) b in
    h.costs f.place r f.within f.here
    (subst (λ (l : ℕ). HasNoLevelWriting (with_first_rows l (level_count l (t.rows ++ take f.place rows) + 1) (problem_of mid)) (marks_at mid) l) (sym level) c)

none-of : (t mid : Lists) (rows : List Row) → HaveJoined t mid rows → (path : Path) (q : Quantity) → IsPartial q → IsUnfitPath false (with_rows rows (problem_of t)) t.rows (FromAdded (with_rows rows (problem_of t)) (marks_at t) rows) path q → ⊥
none-of t mid rows h path (Plain what) partial unfit = absurd partial
none-of t mid rows h path (Shifts what j) partial unfit = absurd partial
none-of t mid rows h path (Terms mark j) partial (primal, still, corner, (r, rest, (joined, parts, begins, ordered), mark_is, values), ((i, s, within, is, (e, over, low, high, none)), new)) =
    let at : get_or (t.rows ++ rows) i s ≡ s = is in
    let one : s ≡ r = this-row t rows joined r rest i s h.whole parts within at (over-number s.id r.id (sym e ∙ mark_is)) in
    terms-fit t mid rows h joined r rest path.corner j parts corner begins low (subst (λ (x : Row). j ≤ length x.terms + 1) one high) (subst (λ (x : Row). HasNoWriting (with_rows rows (problem_of t)) path.corner (first_terms x j)) one none)
none-of t mid rows h path (Rows level j) partial (still, (joined, parts, begins, ordered), lawful, ((k, at, low, high, none), (l, at2, (before, r, after, split, count, new)))) =
    let p : Problem = with_rows rows (problem_of t) in
    let same : k ≡ l = level_one p level k l h.whole at at2 in
    let all : joined ≡ rows = sym (append_none joined) ∙ parts in
    costs-fit t mid rows h path.corner l j before r after lawful.corner (subst (λ (xs : List Row). BeginsWith p (marks_at t) xs [] path.corner) all begins) split count new
    (subst (λ (m : ℕ). HasNoLevelWriting (with_first_rows m j p) path.corner m) same none)

pub all_sums_fit : (t mid : Lists) (rows : List Row) → HaveJoined t mid rows → AllSumsFit (seen_of t) rows
all_sums_fit t mid rows h at (partial, (dual, few, unfit)) = none-of t mid rows h at.path at.quantity partial unfit
