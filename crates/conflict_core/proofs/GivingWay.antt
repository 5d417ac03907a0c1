-- An engine with rows of which one gives way.
use Rattle.std.proofs.Common.{◌≡◌, ◌≢◌, ◌∙◌, ℕ, zero, suc, ◌+◌, ◌-◌, ◌<◌, Bool, true, false, cond, nat_eq, List, [], ◌∷◌, ◌++◌, map, filter, length, take, get_or, pos, negsuc, refl, sym, ap, ap₂, subst, arith, inl, inr, All, AllPairs, Any, IsPermutation, true≢false}
use Rattle.std.specs.List.{AllByRecursion as Each}
use Rattle.std.proofs.lemmas.Bool.{and_from, and_parts, cases_eq, cases_lt}
use Rattle.std.proofs.lemmas.List.{get_or_default, map-append, take_more}
use Rattle.std.proofs.lemmas.List.Elements.{All-from_recursion, All-map, All-weaker, recursion_from_All}
use Rattle.frac_core.specs.Fraction.{Fraction, Fits, IsKept, IsLowest, IsRatio, sum_den, sum_num}
use Rattle.problem_core.specs.declared.limits.TheConstants.{REQUIRED}
use Rattle.problem_core.specs.Layout.{HasStay, Problem, Row}
use Rattle.problem_core.specs.Kept.{IsWhole}
use Rattle.problem_core.specs.Numbers.{AreNumbersOf}
use Rattle.corner_view.specs.Changes.{IsNear}
use Rattle.corner_lines.specs.Shifts.{IsShift, has_constant, with_constant}
use Rattle.corner_view.proofs.Seen.ShiftedLines.{shift_whole}
use Rattle.layout_solver.proofs.BestValues.{attrs-at}
use Rattle.corner_lines.proofs.ProblemChanges.Shifted.{changed, same-id, shift-off, shift-on}
use Rattle.layout_solver.specs.declared.engine.Change.{Change}
use Rattle.layout_solver.specs.Layouts.{AreBest, Layout, Solution, solution_of, with_added}
use Rattle.layout_solver.specs.Shifts.{CanShift, shifted, with_shifts}
use Rattle.layout_solver.specs.Starts.{attrs_of}
use Rattle.conflict_core.specs.Cores.{is_among, is_tried, trial, without}
use Rattle.conflict_core.specs.Shown.{IsSolution}
use Rattle.conflict_core.specs.Trials.{nothing}
use Rattle.conflict_core.specs.Yielding.{GivesWay, IsOwn, MayGet}
use Rattle.conflict_core.proofs.Among.{among-without}
use Rattle.conflict_core.proofs.Outcomes.{all_held, read, read_solution, trial_numbers}
use Rattle.conflict_core.proofs.TrialRows.{IsMet}
use Rattle.conflict_core.proofs.TrialWhole.{trial_attrs, trial_whole}

-- ---- a row's own constant

module _ (rows : List Row) (rising : AllPairs (λ r s. r.id < s.id) rows) (row : Row) (k : ℕ) (within : k < length rows) (is : get_or rows k row ≡ row) where
  -- rows of the number are that row
  only : All (λ r. r.id ≡ row.id → r.constant ≡ row.constant) rows
  only i d inside e = elim (cases_lt i k) [
    | inl less ↦ absurd (let up = rising i k row less within in
        let one : (get_or rows i row).id ≡ row.id = ap (λ (r : Row). r.id) (get_or_default rows i row d inside) ∙ e in
        let two : (get_or rows k row).id ≡ row.id = ap (λ (r : Row). r.id) is in
        omega (arith, up, one, two))
    | inr more ↦ elim (cases_lt k i) [
      | inl less ↦ absurd (let up = rising k i row less inside in
          let one : (get_or rows i row).id ≡ row.id = ap (λ (r : Row). r.id) (get_or_default rows i row d inside) ∙ e in
          let two : (get_or rows k row).id ≡ row.id = ap (λ (r : Row). r.id) is in
          omega (arith, up, one, two))
      | inr few ↦ let same : i ≡ k = omega (arith, more, few) in
          ap (λ (r : Row). r.constant) (get_or_default rows i d row inside ∙ ap (λ (j : ℕ). get_or rows j row) same ∙ is)
    ]
  ]

pub own_constant : (rows : List Row) (row : Row) (id : ℕ) → AllPairs (λ r s. r.id < s.id) rows → row.id ≡ id → Any (λ r. r ≡ row) rows → IsKept row.constant → IsOwn rows (record { row = id; constant = row.constant })
own_constant rows row id rising named (k, r, within, is, e) kept =
    let there : get_or rows k row ≡ row = get_or_default rows k row r within ∙ is ∙ e in record {
      held = (k, r, within, is, ap (λ (s : Row). s.id) e ∙ named);
      constant = All-weaker (λ (s : Row). s.id ≡ row.id → s.constant ≡ row.constant) (λ (s : Row). s.id ≡ id → s.constant ≡ row.constant) (λ s h q. h (q ∙ sym named)) rows (only rows rising row k within there);
      kept = kept;
    }

-- ---- what a row may get

pub may_get : (rows : List Row) (from to : Change) (more : Fraction) → from.row ≡ to.row → IsOwn rows from → IsKept to.constant → IsLowest more → Fits more
    → IsRatio more (sum_num to.constant (negsuc 0) (pos 1) from.constant) (sum_den to.constant (pos 1) from.constant) → MayGet rows to
may_get rows from to more same own kept lowest fits value = λ stays. (
  from.constant,
  more,
  record {
    held = subst (λ (n : ℕ). Any (λ r. r.id ≡ n) rows) same own.held;
    constant = subst (λ (n : ℕ). All (λ r. r.id ≡ n → r.constant ≡ from.constant) rows) same own.constant;
    from_positive = own.kept.lowest.above;
    to_positive = kept.lowest.above;
    more_positive = lowest.above;
    difference = value;
  },
  record { lowest = lowest; fits = fits },
)

module _ (p : Problem) (n m : ℕ) (f from : Fraction) (apart : n ≢ m) where
  any-after : (rows : List Row) → Any (λ r. r.id ≡ m) rows → Any (λ r. r.id ≡ m) (map (has_constant n f) rows)
  any-after [] (k, r, within, is, e) = absurd (omega (arith, within))
  any-after (s ∷ rows) (zero, r, within, is, e) = (zero, has_constant n f s, omega arith, refl, same-id n f s ∙ ap (λ (t : Row). t.id) is ∙ e)
  any-after (s ∷ rows) (suc k, r, within, is, e) =
      let rest = any-after rows (k, r, omega (arith, within), is, e) in
      (suc rest.0, rest.1, omega (arith, rest.2), rest.3, rest.4)

  constant-after : (r : Row) → (r.id ≡ m → r.constant ≡ from) → (has_constant n f r).id ≡ m → (has_constant n f r).constant ≡ from
  constant-after r h e = elim (cases_eq r.id n) [
    | inl here ↦ absurd (apart (sym here ∙ sym (same-id n f r) ∙ e))
    | inr other ↦ rw (shift-off n f r other) (h (sym (same-id n f r) ∙ e))
  ]

  shift-after : (to more : Fraction) → IsShift p m from to more → IsShift (with_constant n f p) m from to more
  shift-after to more is = record {
    held = any-after p.rows is.held;
    constant = All-map (λ (r : Row). r.id ≡ m → r.constant ≡ from) (has_constant n f) p.rows
        (All-weaker (λ (r : Row). r.id ≡ m → r.constant ≡ from) (λ (r : Row). (has_constant n f r).id ≡ m → (has_constant n f r).constant ≡ from) (λ r h. constant-after r h) p.rows is.constant);
    from_positive = is.from_positive;
    to_positive = is.to_positive;
    more_positive = is.more_positive;
    difference = is.difference;
  }

pub near-after : (p : Problem) (n m : ℕ) (f to : Fraction) → n ≢ m → IsNear p m to → IsNear (with_constant n f p) m to
near-after p n m f to apart (from, more, is, kept) = (from, more, shift-after p n m f from apart to more is, kept)

-- one after the other
pub both_shift : (p : Problem) (first next : Change) → first.row < next.row → MayGet p.rows first → MayGet p.rows next → CanShift p (first ∷ next ∷ [])
both_shift p first next less a b = (a p.stays, (near-after p first.row next.row first.constant next.constant (λ e. absurd (omega (arith, less, e))) (b p.stays), tt))

-- ---- rows of which one has another constant

pub next_changed : (rows out : List Row) (to : Change) (i : ℕ) (row : Row) (new : Row) → i < length rows → row ≡ get_or rows i row → new ∷ [] ≡ shifted (to ∷ []) (row ∷ []) → out ≡ shifted (to ∷ []) (take i rows) → out ++ new ∷ [] ≡ shifted (to ∷ []) (take (i + 1) rows)
next_changed rows out to i row new within is e are =
    ap₂ (λ (a b : List Row). a ++ b) are (e ∙ ap (λ (r : Row). shifted (to ∷ []) (r ∷ [])) is)
    ∙ sym (map-append (has_constant to.row to.constant) (take i rows) (get_or rows i row ∷ []))
    ∙ ap (map (has_constant to.row to.constant)) (sym (take_more rows i row within))

-- a row with its own constant again is as it was
own-again : (back : Change) (f : Fraction) (r : Row) → (r.id ≡ back.row → r.constant ≡ back.constant) → has_constant back.row back.constant (has_constant back.row f r) ≡ r
own-again back f r h = elim (cases_eq r.id back.row) [
  | inl here ↦
      ap (has_constant back.row back.constant) (shift-on back.row f r here)
      ∙ shift-on back.row back.constant (changed f r) here
      ∙ ap (λ (c : Fraction). changed c r) (sym (h here))
  | inr other ↦ ap (has_constant back.row back.constant) (shift-off back.row f r other) ∙ shift-off back.row back.constant r other
]

back-again : (back : Change) (f : Fraction) (rows : List Row) → Each (λ r. r.id ≡ back.row → r.constant ≡ back.constant) rows → map (has_constant back.row back.constant) (map (has_constant back.row f) rows) ≡ rows
back-again back f [] h = refl
back-again back f (r ∷ rows) h = ap₂ (λ (s : Row) (ss : List Row). s ∷ ss) (own-again back f r h.0) (back-again back f rows h.1)

pub one_for_other : (rows : List Row) (last back to : Change) → back.row ≡ last.row → IsOwn rows back → shifted (back ∷ to ∷ []) (shifted (last ∷ []) rows) ≡ shifted (to ∷ []) rows
one_for_other rows last back to same own =
    ap (map (has_constant to.row to.constant))
    (ap (λ (n : ℕ). map (has_constant back.row back.constant) (map (has_constant n last.constant) rows)) (sym same)
    ∙ back-again back last.constant rows (recursion_from_All (λ r. r.id ≡ back.row → r.constant ≡ back.constant) rows own.constant))

-- ---- what satisfies them satisfies the others

other-step : (P : Row → Type 0) (n : ℕ) (f : Fraction) (r : Row) (a b : Bool) (rows others : List Row) → (b ≡ true → (a ≡ true) × (r.id ≢ n)) → (Each P (map (has_constant n f) rows) → Each P others)
    → Each P (map (has_constant n f) (cond a (r ∷ rows) rows)) → Each P (cond b (r ∷ others) others)
other-step P n f r true true rows others imp rest h = (subst P (shift-off n f r (imp refl).1) h.0, rest h.1)
other-step P n f r true false rows others imp rest h = rest h.1
other-step P n f r false true rows others imp rest h = absurd (true≢false (sym (imp refl).0))
other-step P n f r false false rows others imp rest h = rest h

other-tried : (ids : List ℕ) (n : ℕ) (r : Row) → is_tried (without n ids) r ≡ true → (is_tried ids r ≡ true) × (r.id ≢ n)
other-tried ids n r h =
    let both = and_parts (nat_eq r.rank REQUIRED) (is_among (without n ids) r.id) h in
    let among = among-without n r.id ids both.1 in
    (and_from (nat_eq r.rank REQUIRED) (is_among ids r.id) both.0 among.0, among.1)

-- what holds of all rows of which one has another constant holds of the others
others-too : (P : Row → Type 0) (ids : List ℕ) (n : ℕ) (f : Fraction) (rows : List Row) → Each P (map (has_constant n f) (filter (is_tried ids) rows)) → Each P (filter (is_tried (without n ids)) rows)
others-too P ids n f [] h = tt
others-too P ids n f (r ∷ rows) h =
    other-step P n f r (is_tried ids r) (is_tried (without n ids) r) (filter (is_tried ids) rows) (filter (is_tried (without n ids)) rows) (other-tried ids n r) (others-too P ids n f rows) h

module _ (p : Problem) (ids : List ℕ) (to : Change) (l : Layout) (way : GivesWay p ids to l) (numbers : List ℕ) (are : AreNumbersOf p.stays numbers) where
  -- each number is that of an attribute which the engine has
  pub way_held : All (HasStay l.problem.stays) numbers
  way_held = all_held l.problem numbers (subst (λ (ns : List ℕ). IsPermutation ns numbers) (sym way.attrs) are.same)

  pub gives_solution : AreBest l.problem l.values → All (λ v. IsKept v.1) l.values → IsSolution (trial p (without to.row ids)) (map (read l.values) numbers)
  gives_solution best kept =
      let (x, is, gives) = best.best in
      read_solution (trial p (without to.row ids)) numbers (trial_numbers p (without to.row ids) numbers are.same) l.values
      (best.attributes ∙ way.attrs ∙ sym (trial_attrs p (without to.row ids))) kept are.rising x
      (All-from_recursion (IsMet x) (filter (is_tried (without to.row ids)) p.rows)
      (others-too (IsMet x) ids to.row to.constant p.rows
      (recursion_from_All (IsMet x) (shifted (to ∷ []) (trial p ids).rows) (subst (All (IsMet x)) way.rows is.0))))
      gives

-- ---- the engine is begun

module _ (p : Problem) (ids : List ℕ) (to : Change) (l : Layout) (attrs : List ℕ) (rows : List Row) (none : l ≡ nothing) (at : attrs ≡ attrs_of p) (are : rows ≡ shifted (to ∷ []) (trial p ids).rows) where
  begun-is : with_added l attrs rows ≡ with_constant to.row to.constant (trial p ids)
  begun-is =
      ap (λ (k : Layout). with_added k attrs rows) none
      ∙ ap₂ (λ (ns : List ℕ) (rs : List Row). with_added nothing ns rs) at are

  pub begun_whole : IsWhole p → IsKept to.constant → IsWhole (with_added l attrs rows)
  begun_whole whole kept = subst IsWhole (sym begun-is) (shift_whole (trial p ids) to.row to.constant kept (trial_whole p ids whole))

  pub begun_way : (new : Layout) → new.problem ≡ with_added l attrs rows → new.earlier ≡ solution_of l ∷ l.earlier → GivesWay p ids to new
  begun_way new is before = record {
    rows = ap (λ (q : Problem). q.rows) (is ∙ begun-is);
    attrs = ap attrs_of (is ∙ begun-is) ∙ trial_attrs p ids;
    earlier = ap length before ∙ ap (λ (k : Layout). length (solution_of k ∷ k.earlier)) none;
  }

-- ---- the next row gives way

pub one_left : (s : Solution) (now old left : List Solution) → length old ≡ 1 → now ≡ s ∷ old → left ≡ take (length now - 1) now → length left ≡ 1
one_left s now old left one e f = ap length (f ∙ ap (λ (n : ℕ). take (n - 1) now) (ap length e ∙ ap suc one) ∙ ap (take 1) e)

pub trial_rises : (p : Problem) (ids : List ℕ) (rows : List Row) → IsWhole p → rows ≡ (trial p ids).rows → AllPairs (λ r s. r.id < s.id) rows
trial_rises p ids rows whole is = subst (AllPairs (λ r s. r.id < s.id)) (sym is) (trial_whole p ids whole).rising

pub next_way : (p : Problem) (ids : List ℕ) (last back to : Change) (old new : Layout) (rows : List Row) → rows ≡ (trial p ids).rows → GivesWay p ids last old → back.row ≡ last.row → IsOwn rows back → AreBest old.problem old.values
    → new.problem ≡ with_shifts old (back ∷ to ∷ []) → length new.earlier ≡ 1 → GivesWay p ids to new
next_way p ids last back to old new rows are way same own best is before = record {
  rows = ap (λ (q : Problem). q.rows) is ∙ ap (shifted (back ∷ to ∷ [])) way.rows
      ∙ one_for_other (trial p ids).rows last back to same (subst (λ (rs : List Row). IsOwn rs back) are own);
  attrs = ap attrs_of is ∙ attrs-at old.values ∙ best.attributes ∙ way.attrs;
  earlier = before;
}
