-- A level's row divided to lowest terms is its row.
use Rattle.std.proofs.Common.{◌≡◌, ◌∙◌, ℕ, zero, suc, ◌+◌, ◌*◌, ◌/◌, ◌<◌, Bool, true, false, cond, List, ℤ, pos, negsuc, ◌*ℤ◌, neg_ℤ, unsigned_abs, refl, sym, ap, subst, arith, inl, inr, All}
use Rattle.std.specs.Int.{◌∣◌}
use Rattle.std.specs.List.{AllByRecursion as Each}
use Rattle.std.proofs.lemmas.Bool.{cases_Bool}
use Rattle.std.proofs.Math.Nat.{mul-div_cancel_left}
use Rattle.std.proofs.lemmas.List.Elements.{All-from_recursion, recursion_from_All}
use borrow.Author.Differences.{ints}
use Rattle.frac_core.proofs.Integers.{mul_assoc_ℤ, zero_from_mul}
use Rattle.problem_core.specs.declared.parts.Mark.{Mark}
use Rattle.problem_core.specs.declared.parts.Side.TheVariants.{Under, Over}
use Rattle.problem_core.specs.declared.parts.RowName.{RowName}
use Rattle.problem_core.specs.Layout.{Line, Problem, coefficient, lines, sum_of}
use Rattle.problem_core.specs.Corners.{IsIn, place_of}
use Rattle.problem_core.proofs.Corners.CornerFacts.{is_place}
use Rattle.problem_core.proofs.Forms.{each-impl, each-both, mul-sum}
use Rattle.corner_laws.specs.Units.{over_share, under_share}
use Rattle.corner_laws.proofs.Counting.{IsIn-from_is_place, is_place-from_IsIn}
use Rattle.corner_laws.proofs.MarkWritings.Directions.{each-of}
use Rattle.corner_laws.proofs.ZeroColumns.{not-in}
use Rattle.corner_lines.specs.LineEquations.{IsOutsideLine}
use Rattle.corner_lines.specs.Levels.LevelRows.{DividedRowIsRow, IsDividedRow, IsLevelMultiple}
use Rattle.problem_core.proofs.Corners.Conflicts.{sum-each}
use Rattle.corner_laws.proofs.LevelCosts.LevelExists.{quotient}
use Rattle.frac_core.proofs.Numbers.{above-right as factor-above, mul-neg as mul-opp}

-- ---- a quotient of a whole number

pub quotient-pos : (g m : ℕ) → 0 < g → quotient g (pos (g * m)) ≡ pos m
unfolding quotient
quotient-pos g m above = ap pos (mul-div_cancel_left m above)

negative-of : (n m : ℕ) → n ≡ suc m → neg_ℤ (pos n) ≡ negsuc m
negative-of n m e = omega (arith, ints, e)

size-above : (g m : ℕ) → 0 < g → (k : ℕ) × (g * suc m ≡ suc k)
size-above zero m above = absurd (omega (arith, above))
size-above (suc g) m above = (m + g * suc m, omega arith)

quotient-neg : (g m : ℕ) → 0 < g → quotient g (neg_ℤ (pos (g * m))) ≡ neg_ℤ (pos m)
unfolding quotient
quotient-neg g zero above = let e : g * 0 ≡ 0 = omega arith in ap (λ (n : ℕ). quotient g (neg_ℤ (pos n))) e ∙ ap pos (let h : 0 / g ≡ 0 = omega arith in h)
quotient-neg g (suc m) above =
    let k = size-above g m above in
    ap (quotient g) (negative-of (g * suc m) k.0 k.1) ∙ ap (λ (n : ℕ). neg_ℤ (pos (n / g))) (sym k.1) ∙ ap (λ (n : ℕ). neg_ℤ (pos n)) (mul-div_cancel_left (suc m) above)

-- ---- the lines

-- the inside lines' numbers divided, and the outside lines' numbers as given
abbrev pub divided_by : List Mark → ℕ → (RowName → ℤ) → (RowName → ℤ) → RowName → ℤ
divided_by at g by number name =
    cond (is_place at (place_of name Under)) (quotient g (by name)) (cond (is_place at (place_of name Over)) (quotient g (by name)) (number name))

-- inside, by either mark, it is the quotient
pub by-under : (at : List Mark) (g : ℕ) (by number : RowName → ℤ) (name : RowName) → is_place at (place_of name Under) ≡ true → divided_by at g by number name ≡ quotient g (by name)
by-under at g by number name e = ap (λ (b : Bool). cond b (quotient g (by name)) (cond (is_place at (place_of name Over)) (quotient g (by name)) (number name))) e

both-same : (b : Bool) (q : ℤ) → cond b q q ≡ q
both-same true q = refl
both-same false q = refl

pub by-over : (at : List Mark) (g : ℕ) (by number : RowName → ℤ) (name : RowName) → is_place at (place_of name Over) ≡ true → divided_by at g by number name ≡ quotient g (by name)
by-over at g by number name e =
    ap (λ (b : Bool). cond (is_place at (place_of name Under)) (quotient g (by name)) (cond b (quotient g (by name)) (number name))) e ∙ both-same (is_place at (place_of name Under)) (quotient g (by name))

pub by-outside : (at : List Mark) (g : ℕ) (by number : RowName → ℤ) (name : RowName) → is_place at (place_of name Under) ≡ false → is_place at (place_of name Over) ≡ false → divided_by at g by number name ≡ number name
by-outside at g by number name u o =
    ap (λ (b : Bool). cond b (quotient g (by name)) (cond (is_place at (place_of name Over)) (quotient g (by name)) (number name))) u ∙ ap (λ (b : Bool). cond b (quotient g (by name)) (number name)) o

pub outside-false : (at : List Mark) (c : ℕ) → (IsIn c at → ⊥) → is_place at c ≡ false
outside-false at c never = elim (cases_Bool (is_place at c)) [
  | inl i ↦ absurd (never (IsIn-from_is_place c at i))
  | inr o ↦ o
]

pub share-of : (g low own u : ℕ) (z : ℤ) → 0 < g → g * low ≡ own → z ≡ pos (own * u) → quotient g z ≡ pos (low * u)
share-of g low own u z above e h =
    let same : own * u ≡ g * (low * u) = ap (λ (n : ℕ). n * u) (sym e) ∙ omega arith in
    ap (quotient g) (h ∙ ap pos same) ∙ quotient-pos g (low * u) above

pub share-of-neg : (g low own u : ℕ) (z : ℤ) → 0 < g → g * low ≡ own → z ≡ neg_ℤ (pos (own * u)) → quotient g z ≡ neg_ℤ (pos (low * u))
share-of-neg g low own u z above e h =
    let same : own * u ≡ g * (low * u) = ap (λ (n : ℕ). n * u) (sym e) ∙ omega arith in
    ap (quotient g) (h ∙ ap (λ (n : ℕ). neg_ℤ (pos n)) same) ∙ quotient-neg g (low * u) above

back : (g low own u : ℕ) (q z : ℤ) → g * low ≡ own → q ≡ pos (low * u) → z ≡ pos (own * u) → pos g *ℤ q ≡ z
back g low own u q z e f h =
    let same : g * (low * u) ≡ own * u = (let r : g * (low * u) ≡ (g * low) * u = omega arith in r) ∙ ap (λ (n : ℕ). n * u) e in
    ap (λ (t : ℤ). pos g *ℤ t) f ∙ ap pos same ∙ sym h

back-neg : (g low own u : ℕ) (q z : ℤ) → g * low ≡ own → q ≡ neg_ℤ (pos (low * u)) → z ≡ neg_ℤ (pos (own * u)) → pos g *ℤ q ≡ z
back-neg g low own u q z e f h =
    let same : g * (low * u) ≡ own * u = (let r : g * (low * u) ≡ (g * low) * u = omega arith in r) ∙ ap (λ (n : ℕ). n * u) e in
    ap (λ (t : ℤ). pos g *ℤ t) f ∙ mul-opp (pos g) (pos (low * u)) ∙ ap (λ (n : ℕ). neg_ℤ (pos n)) same ∙ sym h

-- what is known of a line
record Known (at : List Mark) (level unit own g : ℕ) (by number : RowName → ℤ) (l : Line) : Type 0 where
  under : IsIn (place_of l.name Under) at → by l.name ≡ pos (own * under_share unit level l)
  over : IsIn (place_of l.name Over) at → by l.name ≡ neg_ℤ (pos (own * over_share unit level l))
  same : IsOutsideLine at l.name → pos g *ℤ number l.name ≡ by l.name

-- g times the divided number is the number
whole-again : (at : List Mark) (level unit own low g : ℕ) (by number : RowName → ℤ) (l : Line) → 0 < g → g * low ≡ own → Known at level unit own g by number l → pos g *ℤ divided_by at g by number l.name ≡ by l.name
whole-again at level unit own low g by number l above e k =
    elim (cases_Bool (is_place at (place_of l.name Under))) [
      | inl i ↦
          let is = k.under (IsIn-from_is_place (place_of l.name Under) at i) in
          back g low own (under_share unit level l) (divided_by at g by number l.name) (by l.name) e (by-under at g by number l.name i ∙ share-of g low own (under_share unit level l) (by l.name) above e is) is
      | inr a ↦ elim (cases_Bool (is_place at (place_of l.name Over))) [
        | inl i ↦
            let is = k.over (IsIn-from_is_place (place_of l.name Over) at i) in
            back-neg g low own (over_share unit level l) (divided_by at g by number l.name) (by l.name) e (by-over at g by number l.name i ∙ share-of-neg g low own (over_share unit level l) (by l.name) above e is) is
        | inr b ↦ ap (λ (z : ℤ). pos g *ℤ z) (by-outside at g by number l.name a b) ∙ k.same (record { under = not-in at (place_of l.name Under) a; over = not-in at (place_of l.name Over) b })
      ]
    ]

all-known : (p : Problem) (at : List Mark) (level unit own low : ℕ) (by number : RowName → ℤ) (is : IsLevelMultiple p at level unit own by) (d : IsDividedRow p at own by low number) → Each (Known at level unit own d.factor by number) (lines p)
all-known p at level unit own low by number is d =
    each-impl (λ l. ((IsIn (place_of l.name Under) at → by l.name ≡ pos (own * under_share unit level l)) × (IsIn (place_of l.name Over) at → by l.name ≡ neg_ℤ (pos (own * over_share unit level l)))) × (IsOutsideLine at l.name → pos d.factor *ℤ number l.name ≡ by l.name)) _ (lines p)
    (λ l h. record { under = h.0.0; over = h.0.1; same = h.1 })
    (each-both _ _ (lines p) (each-both _ _ (lines p) (recursion_from_All _ (lines p) is.under) (recursion_from_All _ (lines p) is.over)) (recursion_from_All _ (lines p) d.same))

divided-cancel : (p : Problem) (g : ℕ) (y z : RowName → ℤ) (v : ℕ) → 0 < g → Each (λ l. pos g *ℤ z l.name ≡ y l.name) (lines p) → sum_of (λ l. y l.name *ℤ coefficient v l.form) (lines p) ≡ pos 0 → sum_of (λ l. z l.name *ℤ coefficient v l.form) (lines p) ≡ pos 0
divided-cancel p g y z v above same none =
    zero_from_mul g (sum_of (λ l. z l.name *ℤ coefficient v l.form) (lines p)) above
    (sym (mul-sum (pos g) (λ l. z l.name *ℤ coefficient v l.form) (lines p))
    ∙ sum-each (λ l. pos g *ℤ (z l.name *ℤ coefficient v l.form)) (λ l. y l.name *ℤ coefficient v l.form) (lines p)
    (each-impl (λ l. pos g *ℤ z l.name ≡ y l.name) _ (lines p) (λ l e. sym (mul_assoc_ℤ (pos g) (z l.name) (coefficient v l.form)) ∙ ap (λ (t : ℤ). t *ℤ coefficient v l.form) e) same)
    ∙ none)

outside-names : (at : List Mark) (g : ℕ) (by number : RowName → ℤ) (l : Line) → IsOutsideLine at l.name → divided_by at g by number l.name ≡ number l.name
outside-names at g by number l out = by-outside at g by number l.name (outside-false at (place_of l.name Under) out.under) (outside-false at (place_of l.name Over) out.over)

-- a level's row divided to lowest terms is its row
pub divided_row_is_row : DividedRowIsRow
divided_row_is_row p at level unit own low by number is d =
    let known = all-known p at level unit own low by number is d in
    record {
      by = divided_by at d.factor by number;
      row = record {
        own_positive = factor-above d.factor low own d.own_is is.own_positive;
        cancel = λ v. divided-cancel p d.factor by (divided_by at d.factor by number) v d.above (each-impl (Known at level unit own d.factor by number) _ (lines p) (λ l k. whole-again at level unit own low d.factor by number l d.above d.own_is k) known) (is.cancel v);
        under = All-from_recursion (λ l. IsIn (place_of l.name Under) at → divided_by at d.factor by number l.name ≡ pos (low * under_share unit level l)) (lines p)
            (each-impl (Known at level unit own d.factor by number) _ (lines p)
            (λ l k i. by-under at d.factor by number l.name (is_place-from_IsIn (place_of l.name Under) at i) ∙ share-of d.factor low own (under_share unit level l) (by l.name) d.above d.own_is (k.under i)) known);
        over = All-from_recursion (λ l. IsIn (place_of l.name Over) at → divided_by at d.factor by number l.name ≡ neg_ℤ (pos (low * over_share unit level l))) (lines p)
            (each-impl (Known at level unit own d.factor by number) _ (lines p)
            (λ l k i. by-over at d.factor by number l.name (is_place-from_IsIn (place_of l.name Over) at i) ∙ share-of-neg d.factor low own (over_share unit level l) (by l.name) d.above d.own_is (k.over i)) known);
        lowest = λ k dk each.
            d.lowest k dk
            (All-from_recursion (λ l. IsOutsideLine at l.name → k ∣ unsigned_abs (number l.name)) (lines p)
            (each-impl (λ l. (IsIn (place_of l.name Under) at → ⊥) → (IsIn (place_of l.name Over) at → ⊥) → k ∣ unsigned_abs (divided_by at d.factor by number l.name)) _ (lines p)
            (λ l h out. subst (λ (z : ℤ). k ∣ unsigned_abs z) (outside-names at d.factor by number l out) (h out.under out.over)) (recursion_from_All _ (lines p) each)));
      };
      outside = All-from_recursion (λ l. IsOutsideLine at l.name → divided_by at d.factor by number l.name ≡ number l.name) (lines p)
          (each-of (λ l. IsOutsideLine at l.name → divided_by at d.factor by number l.name ≡ number l.name) (lines p) (λ l out. outside-names at d.factor by number l out));
    }

-- the same of numbers that are equal at the outside lines
pub divided-same : (p : Problem) (at : List Mark) (own low : ℕ) (y z number : RowName → ℤ) → All (λ l. IsOutsideLine at l.name → z l.name ≡ y l.name) (lines p) → IsDividedRow p at own y low number → IsDividedRow p at own z low number
divided-same p at own low y z number same d = record {
  factor = d.factor;
  above = d.above;
  own_is = d.own_is;
  same = All-from_recursion (λ l. IsOutsideLine at l.name → pos d.factor *ℤ number l.name ≡ z l.name) (lines p)
      (each-impl (λ l. (IsOutsideLine at l.name → z l.name ≡ y l.name) × (IsOutsideLine at l.name → pos d.factor *ℤ number l.name ≡ y l.name)) _ (lines p)
      (λ l h o. h.1 o ∙ sym (h.0 o))
      (each-both _ _ (lines p) (recursion_from_All _ (lines p) same) (recursion_from_All _ (lines p) d.same)));
  lowest = d.lowest;
}
