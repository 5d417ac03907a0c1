-- Rows with other constants.
use Rattle.std.proofs.Common.{◌≡◌, ◌≢◌, ◌∙◌, ℕ, zero, suc, ◌<◌, Bool, cond, List, [], ◌∷◌, ◌++◌, length, map, get_or, refl, sym, ap, ap₂, arith, All, AllPairs, inl, inr, eq-eqb}
use Rattle.std.specs.List.{Any, AllByRecursion as Each}
use Rattle.std.proofs.lemmas.Bool.{cases_eq, cases_lt}
use Rattle.std.proofs.lemmas.List.{map-append, get_or_default}
use Rattle.std.proofs.lemmas.List.Elements.{All-weaker, All-map}
use Rattle.frac_core.specs.Fraction.{Fraction}
use Rattle.problem_core.specs.Layout.{Row, Problem}
use Rattle.corner_view.specs.Changes.{IsNear}
use Rattle.corner_lines.specs.Shifts.{IsShift, has_constant, with_constant}
use Rattle.constraint_compile.specs.Compiled.{IsFittingSum}
use Rattle.compile_parts.specs.Fractions.{plus, negated}
use Rattle.layout_solver.specs.declared.engine.Change.{Change}
use Rattle.layout_solver.specs.Shifts.{CanShift, shifted}
use Rattle.problem_core.specs.Unfit.{without_constant}
use Rattle.held_items.proofs.Constants.Nears.{less-num, less-den}
use Rattle.corner_lines.proofs.ProblemChanges.Shifted.{changed, shift-off, same-id}
use Rattle.frac_core.proofs.Lists.{pairs-rest as pairs-tail}

-- ---- one row

pub shift-on : (n : ℕ) (f : Fraction) (r : Row) → r.id ≡ n → has_constant n f r ≡ changed f r
shift-on n f r e = ap (λ (b : Bool). cond b (changed f r) r) (eq-eqb r.id n e)

-- rows that are alike and have one constant are one row
pub same-row : (r s : Row) → without_constant r ≡ without_constant s → r.constant ≡ s.constant → r ≡ s
same-row r s rest constant = ap₂ changed constant rest

-- ---- rows

pub shifted-append : (to : List Change) (xs ys : List Row) → shifted to (xs ++ ys) ≡ shifted to xs ++ shifted to ys
shifted-append [] xs ys = refl
shifted-append (c ∷ to) xs ys =
    ap (shifted to) (map-append (has_constant c.row c.constant) xs ys)
    ∙ shifted-append to (map (has_constant c.row c.constant) xs) (map (has_constant c.row c.constant) ys)

pub unchanged : (n : ℕ) (f : Fraction) (rows : List Row) → Each (λ r. r.id ≢ n) rows → map (has_constant n f) rows ≡ rows
unchanged n f [] apart = refl
unchanged n f (r ∷ rows) apart = ap₂ (λ (s : Row) (ss : List Row). s ∷ ss) (shift-off n f r apart.0) (unchanged n f rows apart.1)

-- where no row has a number among those of the changes
pub shifted-apart : (to : List Change) (rows : List Row) → Each (λ c. Each (λ r. r.id ≢ c.row) rows) to → shifted to rows ≡ rows
shifted-apart [] rows apart = refl
shifted-apart (c ∷ to) rows apart = ap (shifted to) (unchanged c.row c.constant rows apart.0) ∙ shifted-apart to rows apart.1

-- ---- what may change

module _ (p : Problem) (n m : ℕ) (f from : Fraction) (apart : n ≢ m) where
  any-after : (rows : List Row) → Any (λ r. r.id ≡ m) rows → Any (λ r. r.id ≡ m) (map (has_constant n f) rows)
  any-after [] (k, r, within, is, e) = absurd (omega (arith, within))
  any-after (s ∷ rows) (zero, r, within, is, e) = (zero, has_constant n f s, omega arith, refl, same-id n f s ∙ ap (λ (t : Row). t.id) is ∙ e)
  any-after (s ∷ rows) (suc k, r, within, is, e) =
      let rest = any-after rows (k, r, omega (arith, within), is, e) in
      (suc rest.0, rest.1, omega (arith, rest.2), rest.3, rest.4)

  constant-after : (r : Row) → (r.id ≡ m → r.constant ≡ from) → (has_constant n f r).id ≡ m → (has_constant n f r).constant ≡ from
  constant-after r h e = elim (cases_eq r.id n) [
    | inl here ↦ absurd (apart (sym here ∙ sym (same-id n f r) ∙ e))
    | inr other ↦ rw (shift-off n f r other) (h (sym (same-id n f r) ∙ e))
  ]

  shift-after : (to more : Fraction) → IsShift p m from to more → IsShift (with_constant n f p) m from to more
  shift-after to more is = record {
    held = any-after p.rows is.held;
    constant = All-map (λ (r : Row). r.id ≡ m → r.constant ≡ from) (has_constant n f) p.rows
        (All-weaker (λ (r : Row). r.id ≡ m → r.constant ≡ from) (λ (r : Row). (has_constant n f r).id ≡ m → (has_constant n f r).constant ≡ from) (λ r h. constant-after r h) p.rows is.constant);
    from_positive = is.from_positive;
    to_positive = is.to_positive;
    more_positive = is.more_positive;
    difference = is.difference;
  }

near-after : (p : Problem) (n m : ℕ) (f to : Fraction) → n ≢ m → IsNear p m to → IsNear (with_constant n f p) m to
near-after p n m f to apart (from, more, is, kept) = (from, more, shift-after p n m f from apart to more is, kept)

each-after : (p : Problem) (n : ℕ) (f : Fraction) (to : List Change) → ((k : ℕ) (d : Change) → k < length to → n < (get_or to k d).row) → Each (λ c. IsNear p c.row c.constant) to → Each (λ c. IsNear (with_constant n f p) c.row c.constant) to
each-after p n f [] above near = tt
each-after p n f (c ∷ to) above near = (
  near-after p n c.row f c.constant (λ e. let less : n < c.row = above zero c (omega arith) in omega (arith, e, less)) near.0,
  each-after p n f to (λ k d within. above (suc k) d (omega (arith, within))) near.1,
)

-- changes of rows apart may be made one after the other
pub can-shift : (to : List Change) (p : Problem) → Each (λ c. IsNear p c.row c.constant) to → AllPairs (λ a b. a.row < b.row) to → CanShift p to
can-shift [] p near rising = tt
can-shift (c ∷ to) p near rising = (
  near.0,
  can-shift to (with_constant c.row c.constant p) (each-after p c.row c.constant to (λ k d within. rising zero (suc k) d (omega arith) (omega (arith, within))) near.1)
      (pairs-tail (λ (a b : Change). a.row < b.row) c to rising),
)

-- a row at a place may get a constant that is near its own
pub near-at : (p : Problem) (k : ℕ) (b : Row) (to : Fraction) → AllPairs (λ r s. r.id < s.id) p.rows → k < length p.rows → get_or p.rows k b ≡ b → 0 < b.constant.den → 0 < to.den
    → IsFittingSum (plus to (negated b.constant)) → IsNear p b.id to
near-at p k b to rising within is from_above to_above near = (
  b.constant,
  near.sum,
  record {
    held = (k, b, within, is, refl);
    constant = only;
    from_positive = from_above;
    to_positive = to_above;
    more_positive = near.lowest.above;
    difference = rw (less-num to b.constant, less-den to b.constant) near.value;
  },
  record { lowest = near.lowest; fits = near.fits },
)
  where
    only : All (λ r. r.id ≡ b.id → r.constant ≡ b.constant) p.rows
    only i d inside e = elim (cases_lt i k) [
      | inl less ↦ absurd (let up : (get_or p.rows i b).id < (get_or p.rows k b).id = rising i k b less within in
          let one : (get_or p.rows i b).id ≡ b.id = ap (λ (r : Row). r.id) (get_or_default p.rows i b d inside) ∙ e in
          let two : (get_or p.rows k b).id ≡ b.id = ap (λ (r : Row). r.id) is in
          omega (arith, up, one, two))
      | inr more ↦ elim (cases_lt k i) [
        | inl less ↦ absurd (let up : (get_or p.rows k b).id < (get_or p.rows i b).id = rising k i b less inside in
            let one : (get_or p.rows i b).id ≡ b.id = ap (λ (r : Row). r.id) (get_or_default p.rows i b d inside) ∙ e in
            let two : (get_or p.rows k b).id ≡ b.id = ap (λ (r : Row). r.id) is in
            omega (arith, up, one, two))
        | inr few ↦ let same : i ≡ k = omega (arith, more, few) in
            ap (λ (r : Row). r.constant) (get_or_default p.rows i d b inside ∙ ap (λ (j : ℕ). get_or p.rows j b) same ∙ is)
      ]
    ]
