-- The equations at a corner with a new row's over mark, and the new row's own, term by term.
use Rattle.std.proofs.Common.{◌≡◌, ◌≢◌, ◌∙◌, ℕ, suc, ◌+◌, ◌*◌, ◌<◌, ◌≤◌, ◌++◌, Bool, false, cond, nat_lt, List, [], ◌∷◌, length, map, take, get_or, ℤ, pos, negsuc, ◌+ℤ◌, ◌-ℤ◌, ◌*ℤ◌, unsigned_abs, refl, sym, ap, ap₂, arith, All, AllPairs, Contains, inl, inr, eq-eqb, ne_eqb, mul-pos}
use Rattle.std.specs.Int.{◌∣◌}
use Rattle.std.specs.List.{Any, AllByRecursion as Each}
use Rattle.std.proofs.Math.Nat.{eq-one_of_dvd-one}
use Rattle.std.proofs.lemmas.Bool.{le-ltb, lt-ltb}
use Rattle.std.proofs.lemmas.List.Elements.{recursion_from_All, All-from_recursion}
use borrow.Author.Differences.{ints}
use Rattle.frac_core.specs.Fraction.{Fraction, IsRatio, sum_den, sum_num}
use Rattle.frac_core.proofs.Integers.{diff_eq, mul-sub_left, mul_assoc_ℤ, on_1, on_3, zero-mul_ℤ, zero-add_ℤ, diff-add, diff-mul, diff-neg, diff-pos, neg-pos}
use Rattle.problem_core.specs.declared.parts.Mark.{Mark}
use Rattle.problem_core.specs.declared.parts.RowName.{RowName}
use Rattle.problem_core.specs.declared.parts.RowName.TheVariants.{Held}
use Rattle.problem_core.specs.declared.parts.Side.TheVariants.{Under, Over}
use Rattle.problem_core.specs.declared.parts.Term.{Term}
use Rattle.problem_core.specs.Kept.{IsWhole}
use Rattle.problem_core.specs.Layout.{Line, Problem, Row, line_of_row, lines, stay_lines, sum_of, value_at}
use Rattle.problem_core.specs.Corners.{IsCorner, IsIn, Point, Solves, Swap, attr_column, equation, exchanged, marks_of, one_column, place, place_of}
use Rattle.problem_core.specs.Unfit.{AreOverFrom, HasNoWriting, IsUnfitTerms, first_terms, over_mark, under_mark}
use Rattle.problem_core.proofs.Forms.{each-both, each-impl, sum-more, sum-zero}
use Rattle.corner_laws.proofs.Counting.{head_pairs}
use Rattle.corner_laws.proofs.LevelCosts.Gaps.{form_value, line_gap}
use Rattle.corner_laws.proofs.MarkWritings.Lifts.{each_drop, each_put}
use Rattle.corner_lines.specs.LineEquations.{IsLineEquation, IsLineSum, IsOutsideLine, deviation}
use Rattle.corner_lines.specs.Joins.{AreAdded, over_joined, under_joined, with_row}
use Rattle.corner_lines.proofs.ProblemChanges.JoinedRows.{fresh-mark, fresh-names, in-parts, new-in, without-row}
use Rattle.corner_lines.proofs.Lines.LineCarried.{carried-value, combined-sum, sum-some}
use Rattle.corner_lines.proofs.Lines.MarkForms.{same-name}
use Rattle.problem_core.proofs.Corners.Conflicts.{sum-each}
use Rattle.frac_core.proofs.Lists.{pairs-rest as tail_pairs, each-joined}

ruleset ring = (diff-add, diff-mul, diff-neg, diff-pos, neg-pos)

-- ---- what was written without the row

pub sum-put : (F : RowName → ℤ) (rows : List Row) (r : Row) (ls : List Line) → sum_of (λ l. F l.name) (map line_of_row (rows ++ (r ∷ [])) ++ ls) ≡ F (Held r.id) +ℤ sum_of (λ l. F l.name) (map line_of_row rows ++ ls)
sum-put F [] r ls = refl
sum-put F (s ∷ rows) r ls = ap (λ (z : ℤ). F (Held s.id) +ℤ z) (sum-put F rows r ls) ∙ swap-first (F (Held s.id)) (F (Held r.id)) (sum_of (λ l. F l.name) (map line_of_row rows ++ ls))
  where
    swap-first : (a b c : ℤ) → a +ℤ (b +ℤ c) ≡ b +ℤ (a +ℤ c)
    swap-first a b c = omega (arith, ints)

without-own : (F : RowName → ℤ) (p : Problem) (r : Row) → F (Held r.id) ≡ pos 0 → sum_of (λ l. F l.name) (lines (with_row r p)) ≡ sum_of (λ l. F l.name) (lines p)
without-own F p r none = sum-put F p.rows r (stay_lines 1001 p.stays) ∙ ap (λ (z : ℤ). z +ℤ sum_of (λ l. F l.name) (lines p)) none ∙ zero-add_ℤ (sum_of (λ l. F l.name) (lines p))

joined-outside : (at : List Mark) (r : Row) (name : RowName) → name ≢ Held r.id → IsOutsideLine at name → IsOutsideLine (over_joined r at) name
joined-outside at r name ne out = record {
  under = λ i. elim (in-parts at (over_mark r.id) (place_of name Under) i) [
    | inl j ↦ out.under j
    | inr e ↦ ne (same-name name (Held r.id) Under Over e)
  ];
  over = λ i. elim (in-parts at (over_mark r.id) (place_of name Over) i) [
    | inl j ↦ out.over j
    | inr e ↦ ne (same-name name (Held r.id) Over Over e)
  ];
}

pub old_line : (p : Problem) (at : List Mark) (r : Row) (quantity : (ℕ → ℤ) → ℤ) (own : ℕ) (by : RowName → ℤ) (num : ℤ) (den : ℕ) → IsWhole (with_row r p) → IsLineEquation p at quantity own by num den → by (Held r.id) ≡ pos 0 → IsLineEquation (with_row r p) (over_joined r at) quantity own by num den
old_line p at r quantity own by num den whole e none = record {
  own_positive = e.own_positive;
  den_positive = e.den_positive;
  outside = All-from_recursion (λ l. by l.name ≢ pos 0 → IsOutsideLine (over_joined r at) l.name) (lines (with_row r p))
      (each_put (λ l. by l.name ≢ pos 0 → IsOutsideLine (over_joined r at) l.name) p.rows r (stay_lines 1001 p.stays)
      (each-impl (λ l. (by l.name ≢ pos 0 → IsOutsideLine at l.name) × (l.name ≢ Held r.id)) _ (lines p)
      (λ l h some. joined-outside at r l.name h.1 (h.0 some))
      (each-both _ _ (lines p) (recursion_from_All (λ l. by l.name ≢ pos 0 → IsOutsideLine at l.name) (lines p) e.outside) (fresh-names p r whole)))
      (λ some. absurd (some none)));
  holds = λ x solves.
      ap (λ (z : ℤ). pos den *ℤ (pos own *ℤ quantity x.num -ℤ z))
      (without-own (λ n. by n *ℤ deviation n x.num) p r (ap (λ (z : ℤ). z *ℤ deviation (Held r.id) x.num) none ∙ zero-mul_ℤ (deviation (Held r.id) x.num)))
      ∙ e.holds x (without-row p r x solves);
  lowest = λ k d all. e.lowest k d (All-from_recursion (λ l. k ∣ unsigned_abs (by l.name)) (lines p) ((each_drop (λ l. k ∣ unsigned_abs (by l.name)) p.rows r (stay_lines 1001 p.stays) (recursion_from_All (λ l. k ∣ unsigned_abs (by l.name)) (lines (with_row r p)) all)).0));
}

-- ---- sums

-- num*(ad*(1*bd)) = (an*(1*bd) + k*(bn*ad))*den, times own
pub times-own : (own ad bd den : ℕ) (an k bn num : ℤ) → num *ℤ (pos ad *ℤ (pos 1 *ℤ pos bd)) ≡ (an *ℤ (pos 1 *ℤ pos bd) +ℤ k *ℤ (bn *ℤ pos ad)) *ℤ pos den → num *ℤ (pos ad *ℤ (pos own *ℤ pos bd)) ≡ (an *ℤ (pos own *ℤ pos bd) +ℤ (pos own *ℤ k) *ℤ (bn *ℤ pos ad)) *ℤ pos den
times-own own ad bd den an k bn num e = left own ad bd num ∙ ap (λ (z : ℤ). pos own *ℤ z) e ∙ right own ad bd den an k bn
  where
    left : (own ad bd : ℕ) (num : ℤ) → num *ℤ (pos ad *ℤ (pos own *ℤ pos bd)) ≡ pos own *ℤ (num *ℤ (pos ad *ℤ (pos 1 *ℤ pos bd)))
    left own ad bd = on_1 (λ num. num *ℤ (pos ad *ℤ (pos own *ℤ pos bd)) ≡ pos own *ℤ (num *ℤ (pos ad *ℤ (pos 1 *ℤ pos bd)))) (λ a a'. simp ring (diff_eq _ _ _ _ (omega arith)))

    right : (own ad bd den : ℕ) (an k bn : ℤ) → pos own *ℤ ((an *ℤ (pos 1 *ℤ pos bd) +ℤ k *ℤ (bn *ℤ pos ad)) *ℤ pos den) ≡ (an *ℤ (pos own *ℤ pos bd) +ℤ (pos own *ℤ k) *ℤ (bn *ℤ pos ad)) *ℤ pos den
    right own ad bd den = on_3 (λ an k bn. pos own *ℤ ((an *ℤ (pos 1 *ℤ pos bd) +ℤ k *ℤ (bn *ℤ pos ad)) *ℤ pos den) ≡ (an *ℤ (pos own *ℤ pos bd) +ℤ (pos own *ℤ k) *ℤ (bn *ℤ pos ad)) *ℤ pos den) (λ a a' b b' c c'. simp ring (diff_eq _ _ _ _ (omega arith)))

-- (own2*own)*(q + k*u) - (own2*S + (own*k)*T)
sum-parts : (own2 own : ℕ) (k q u S T R : ℤ) → R ≡ pos own2 *ℤ S +ℤ (pos own *ℤ k) *ℤ T → pos (own2 * own) *ℤ (q +ℤ k *ℤ u) -ℤ R ≡ pos own2 *ℤ (pos own *ℤ q -ℤ S) +ℤ (pos own *ℤ k) *ℤ (pos own2 *ℤ u -ℤ T)
sum-parts own2 own k q u S T R e =
    let a : pos (own2 * own) *ℤ (q +ℤ k *ℤ u) ≡ pos own2 *ℤ (pos own *ℤ q) +ℤ (pos own *ℤ k) *ℤ (pos own2 *ℤ u) = spread own2 own k q u in
    omega (arith, ints, a, e, mul-sub_left (pos own2) (pos own *ℤ q) S, mul-sub_left (pos own *ℤ k) (pos own2 *ℤ u) T)
  where
    spread : (own2 own : ℕ) (k q u : ℤ) → pos (own2 * own) *ℤ (q +ℤ k *ℤ u) ≡ pos own2 *ℤ (pos own *ℤ q) +ℤ (pos own *ℤ k) *ℤ (pos own2 *ℤ u)
    spread own2 own = on_3 (λ k q u. pos (own2 * own) *ℤ (q +ℤ k *ℤ u) ≡ pos own2 *ℤ (pos own *ℤ q) +ℤ (pos own *ℤ k) *ℤ (pos own2 *ℤ u)) (λ a a' b b' c c'. simp ring (diff_eq _ _ _ _ (omega arith)))

-- a quantity, and k times another
pub added : (p : Problem) (at : List Mark) (q u : (ℕ → ℤ) → ℤ) (k : ℤ) (own : ℕ) (by : RowName → ℤ) (value : Fraction) (own2 : ℕ) (by2 : RowName → ℤ) (value2 : Fraction) (result : RowName → ℤ) (num : ℤ) (den : ℕ)
    → IsLineSum p at q own by value.num value.den → IsLineSum p at u own2 by2 value2.num value2.den → AreAdded (lines p) own by k own2 by2 result
    → 0 < den → IsRatio (record { num = num; den = den }) (sum_num value k (pos 1) value2) (sum_den value (pos 1) value2) → IsLineSum p at (λ x. q x +ℤ k *ℤ u x) (own2 * own) result num den
added p at q u k own by value own2 by2 value2 result num den e f r above ratio = record {
  own_positive = mul-pos f.own_positive e.own_positive;
  den_positive = above;
  outside = All-from_recursion (λ l. result l.name ≢ pos 0 → IsOutsideLine at l.name) (lines p)
      (each-impl (λ l. (result l.name ≡ pos own2 *ℤ by l.name +ℤ (pos own *ℤ k) *ℤ by2 l.name) × ((by l.name ≢ pos 0 → IsOutsideLine at l.name) × (by2 l.name ≢ pos 0 → IsOutsideLine at l.name))) _ (lines p)
      (λ l h some. elim (sum-some own2 (pos own *ℤ k) (by l.name) (by2 l.name) (λ z. some (h.0 ∙ z))) [
        | inl b ↦ h.1.0 b
        | inr b ↦ h.1.1 b
      ])
      (each-both _ _ (lines p) (recursion_from_All (λ l. result l.name ≡ pos own2 *ℤ by l.name +ℤ (pos own *ℤ k) *ℤ by2 l.name) (lines p) r)
      (each-both _ _ (lines p) (recursion_from_All (λ l. by l.name ≢ pos 0 → IsOutsideLine at l.name) (lines p) e.outside) (recursion_from_All (λ l. by2 l.name ≢ pos 0 → IsOutsideLine at l.name) (lines p) f.outside))));
  holds = λ x solves.
      let S : ℤ = sum_of (λ l. by l.name *ℤ deviation l.name x.num) (lines p) in
      let T : ℤ = sum_of (λ l. by2 l.name *ℤ deviation l.name x.num) (lines p) in
      let R : ℤ = sum_of (λ l. result l.name *ℤ deviation l.name x.num) (lines p) in
      let whole : R ≡ pos own2 *ℤ S +ℤ (pos own *ℤ k) *ℤ T =
      sum-each (λ l. result l.name *ℤ deviation l.name x.num) (λ l. (pos own2 *ℤ by l.name +ℤ (pos own *ℤ k) *ℤ by2 l.name) *ℤ deviation l.name x.num) (lines p)
      (each-impl (λ l. result l.name ≡ pos own2 *ℤ by l.name +ℤ (pos own *ℤ k) *ℤ by2 l.name) _ (lines p) (λ l h. ap (λ (z : ℤ). z *ℤ deviation l.name x.num) h) (recursion_from_All (λ l. result l.name ≡ pos own2 *ℤ by l.name +ℤ (pos own *ℤ k) *ℤ by2 l.name) (lines p) r))
      ∙ combined-sum own2 (pos own *ℤ k) by by2 x.num (lines p) in
      ap (λ (z : ℤ). pos den *ℤ z) (sum-parts own2 own k (q x.num) (u x.num) S T R whole)
      ∙ carried-value value.den value2.den den own2 own (pos own *ℤ q x.num -ℤ S) (pos own2 *ℤ u x.num -ℤ T) (pos own *ℤ k) value.num value2.num num (x.num one_column) e.den_positive f.den_positive (e.holds x solves) (f.holds x solves)
      (times-own own value.den value2.den den value.num k value2.num num ratio);
}

-- an equal quantity has the same sum
pub same-sum : (p : Problem) (at : List Mark) (q u : (ℕ → ℤ) → ℤ) (own : ℕ) (by : RowName → ℤ) (num : ℤ) (den : ℕ) → ((x : ℕ → ℤ) → q x ≡ u x) → IsLineSum p at q own by num den → IsLineSum p at u own by num den
same-sum p at q u own by num den same e = record {
  own_positive = e.own_positive;
  den_positive = e.den_positive;
  outside = e.outside;
  holds = λ x solves. ap (λ (z : ℤ). pos den *ℤ (pos own *ℤ z -ℤ sum_of (λ l. by l.name *ℤ deviation l.name x.num) (lines p))) (sym (same x.num)) ∙ e.holds x solves;
}

-- ---- the row's terms

abbrev pub terms_sum : Row → ℕ → (ℕ → ℤ) → ℤ
terms_sum r j x = sum_of (λ t. t.by *ℤ x (attr_column t.attr)) (take j r.terms)

not-past : (a b : ℕ) → b ≤ a → nat_lt a b ≡ false
not-past a b h = le-ltb a b h

pub plain-terms : (r : Row) (j : ℕ) (x : ℕ → ℤ) → j ≤ length r.terms → first_terms r j x ≡ terms_sum r j x
plain-terms r j x h = ap (λ (b : Bool). cond b (x (place (over_mark r.id))) (terms_sum r j x)) (not-past (length r.terms) j h)

pub past-terms : (r : Row) (x : ℕ → ℤ) → first_terms r (length r.terms + 1) x ≡ x (place (over_mark r.id))
past-terms r x = ap (λ (b : Bool). cond b (x (place (over_mark r.id))) (terms_sum r (length r.terms + 1) x)) (lt-ltb (length r.terms) (length r.terms + 1) (omega arith))

more-terms : (r : Row) (i : ℕ) (none : Term) (x : ℕ → ℤ) → i < length r.terms → first_terms r i x +ℤ (get_or r.terms i none).by *ℤ x (attr_column (get_or r.terms i none).attr) ≡ first_terms r (i + 1) x
more-terms r i none x within =
    ap (λ (z : ℤ). z +ℤ (get_or r.terms i none).by *ℤ x (attr_column (get_or r.terms i none).attr)) (plain-terms r i x (omega (arith, within)))
    ∙ sym (sum-more (λ (t : Term). t.by *ℤ x (attr_column t.attr)) r.terms i none within) ∙ sym (plain-terms r (i + 1) x (omega (arith, within)))

pub goes_on : (p : Problem) (at : List Mark) (r : Row) (i : ℕ) (none : Term) (own : ℕ) (by : RowName → ℤ) (value : Fraction) (own2 : ℕ) (by2 : RowName → ℤ) (value2 : Fraction) (result : RowName → ℤ) (num : ℤ) (den : ℕ)
    → i < length r.terms → IsLineSum p at (first_terms r i) own by value.num value.den → IsLineSum p at (λ x. x (attr_column (get_or r.terms i none).attr)) own2 by2 value2.num value2.den
    → AreAdded (lines p) own by (get_or r.terms i none).by own2 by2 result
    → 0 < den → IsRatio (record { num = num; den = den }) (sum_num value (get_or r.terms i none).by (pos 1) value2) (sum_den value (pos 1) value2) → IsLineSum p at (first_terms r (i + 1)) (own2 * own) result num den
goes_on p at r i none own by value own2 by2 value2 result num den within e f a above ratio =
    same-sum p at (λ x. first_terms r i x +ℤ (get_or r.terms i none).by *ℤ x (attr_column (get_or r.terms i none).attr)) (first_terms r (i + 1)) (own2 * own) result num den (λ x. more-terms r i none x within)
    (added p at (first_terms r i) (λ x. x (attr_column (get_or r.terms i none).attr)) (get_or r.terms i none).by own by value own2 by2 value2 result num den e f a above ratio)

pub no_terms : (p : Problem) (at : List Mark) (r : Row) (by : RowName → ℤ) → All (λ l. by l.name ≡ pos 0) (lines p) → IsLineEquation p at (first_terms r 0) 1 by (pos 0) 1
no_terms p at r by none =
    let each = recursion_from_All (λ l. by l.name ≡ pos 0) (lines p) none in
    record {
      own_positive = omega arith;
      den_positive = omega arith;
      outside = All-from_recursion (λ l. by l.name ≢ pos 0 → IsOutsideLine at l.name) (lines p) (each-impl (λ l. by l.name ≡ pos 0) _ (lines p) (λ l e some. absurd (some e)) each);
      holds = λ x solves.
          nothing (first_terms r 0 x.num) (sum_of (λ l. by l.name *ℤ deviation l.name x.num) (lines p)) (x.num one_column) (plain-terms r 0 x.num (omega arith))
          (sum-zero (λ l. by l.name *ℤ deviation l.name x.num) (lines p) (each-impl (λ l. by l.name ≡ pos 0) _ (lines p) (λ l e. ap (λ (z : ℤ). z *ℤ deviation l.name x.num) e ∙ zero-mul_ℤ (deviation l.name x.num)) each));
      lowest = λ k d all. eq-one_of_dvd-one d;
    }
  where
    nothing : (q s o : ℤ) → q ≡ pos 0 → s ≡ pos 0 → pos 1 *ℤ (pos 1 *ℤ q -ℤ s) ≡ pos 1 *ℤ (pos 0 *ℤ o)
    nothing q s o e f = ap₂ (λ (a b : ℤ). pos 1 *ℤ (pos 1 *ℤ a -ℤ b)) e f ∙ ap (λ (z : ℤ). pos 1 *ℤ z) (sym (zero-mul_ℤ o))

-- ---- the row's deviation

-- own*dev - S, where b = q - dev is the constant
less-constant : (own : ℕ) (q dev S : ℤ) → pos own *ℤ dev -ℤ S ≡ pos 1 *ℤ (pos own *ℤ q -ℤ S) +ℤ (pos own *ℤ negsuc 0) *ℤ (q -ℤ dev)
less-constant own q dev S =
    let a : (pos own *ℤ negsuc 0) *ℤ (q -ℤ dev) ≡ pos own *ℤ dev -ℤ pos own *ℤ q = turned own q dev in
    omega (arith, ints, a)
  where
    turned : (own : ℕ) (q dev : ℤ) → (pos own *ℤ negsuc 0) *ℤ (q -ℤ dev) ≡ pos own *ℤ dev -ℤ pos own *ℤ q
    turned own q dev =
        let a : negsuc 0 *ℤ (q -ℤ dev) ≡ dev -ℤ q = omega (arith, ints) in
        mul_assoc_ℤ (pos own) (negsuc 0) (q -ℤ dev) ∙ ap (λ (z : ℤ). pos own *ℤ z) a ∙ mul-sub_left (pos own) dev q

-- a row's gap: its sum less its deviation is the constant
row-gap : (p : Problem) (r : Row) (x : Point) → Solves (with_row r p) x → pos r.constant.den *ℤ (terms_sum r (length r.terms) x.num -ℤ deviation (Held r.id) x.num) ≡ r.constant.num *ℤ x.num one_column
row-gap p r x solves =
    let gap = line_gap x.num (line_of_row r) ((each_drop (λ l. value_at x.num (equation l) ≡ pos 0) p.rows r (stay_lines 1001 p.stays) (recursion_from_All (λ l. value_at x.num (equation l) ≡ pos 0) (lines (with_row r p)) solves)).1) in
    ap (λ (z : ℤ). pos r.constant.den *ℤ z)
    (same-parts (x.num (place_of (Held r.id) Under)) (x.num (place_of (Held r.id) Over)) (terms_sum r (length r.terms) x.num) (form_value x.num (line_of_row r)) (ap (λ (ts : List Term). sum_of (λ t. t.by *ℤ x.num (attr_column t.attr)) ts) (take-all r.terms)))
    ∙ gap
  where
    same-parts : (u o s f : ℤ) → s ≡ f → s -ℤ (o -ℤ u) ≡ (u -ℤ o) +ℤ f
    same-parts u o s f e = omega (arith, ints, e)

    take-all : (ts : List Term) → take (length ts) ts ≡ ts
    take-all [] = refl
    take-all (t ∷ ts) = ap (λ (us : List Term). t ∷ us) (take-all ts)

pub gives_deviation : (p : Problem) (at : List Mark) (r : Row) (own : ℕ) (by : RowName → ℤ) (value : Fraction) (num : ℤ) (den : ℕ) → 0 < r.constant.den → IsLineSum (with_row r p) at (first_terms r (length r.terms)) own by value.num value.den
    → 0 < den → IsRatio (record { num = num; den = den }) (sum_num value (negsuc 0) (pos 1) r.constant) (sum_den value (pos 1) r.constant) → IsLineSum (with_row r p) at (deviation (Held r.id)) own by num den
gives_deviation p at r own by value num den dens e above ratio = record {
  own_positive = e.own_positive;
  den_positive = above;
  outside = e.outside;
  holds = λ x solves.
      let S : ℤ = sum_of (λ l. by l.name *ℤ deviation l.name x.num) (lines (with_row r p)) in
      let q : ℤ = first_terms r (length r.terms) x.num in
      let gap : pos r.constant.den *ℤ (q -ℤ deviation (Held r.id) x.num) ≡ pos 1 *ℤ (r.constant.num *ℤ x.num one_column) =
      ap (λ (z : ℤ). pos r.constant.den *ℤ (z -ℤ deviation (Held r.id) x.num)) (plain-terms r (length r.terms) x.num (omega arith)) ∙ row-gap p r x solves ∙ one-times (r.constant.num *ℤ x.num one_column) in
      ap (λ (z : ℤ). pos den *ℤ z) (less-constant own q (deviation (Held r.id) x.num) S)
      ∙ carried-value value.den r.constant.den den 1 own (pos own *ℤ q -ℤ S) (q -ℤ deviation (Held r.id) x.num) (pos own *ℤ negsuc 0) value.num r.constant.num num (x.num one_column) e.den_positive dens (e.holds x solves) gap
      (times-own own value.den r.constant.den den value.num (negsuc 0) r.constant.num num ratio)
      ∙ ap (λ (n : ℕ). pos n *ℤ (num *ℤ x.num one_column)) (let o : 1 * own ≡ own = omega arith in o);
}
  where
    one-times : (z : ℤ) → z ≡ pos 1 *ℤ z
    one-times z = omega (arith, ints)

-- ---- terms that do not fit

pub same-writing : (p : Problem) (at : List Mark) (q u : (ℕ → ℤ) → ℤ) → ((x : ℕ → ℤ) → q x ≡ u x) → HasNoWriting p at q → HasNoWriting p at u
same-writing p at q u same none scale form value w = none scale form value (record {
  scale_positive = w.scale_positive;
  den_positive = w.den_positive;
  outside = w.outside;
  holds = λ x solves. ap (λ (z : ℤ). pos value.den *ℤ (pos scale *ℤ z -ℤ value_at x.num form)) (same x.num) ∙ w.holds x solves;
  lowest = w.lowest;
})

any-last : (P : Row → Type 0) (rows : List Row) (r : Row) → P r → Any P (rows ++ (r ∷ []))
any-last P [] r h = (0, r, omega arith, refl, h)
any-last P (s ∷ rows) r h = let k = any-last P rows r h in (suc k.0, k.1, omega (arith, k.2), k.3, k.4)

last-highest : (rows : List Row) (r : Row) → AllPairs (λ s t. s.id < t.id) (rows ++ (r ∷ [])) → Each (λ s. s.id < r.id) rows
last-highest [] r h = tt
last-highest (s ∷ rows) r h = (last-of rows (recursion_from_All (λ (t : Row). s.id < t.id) (rows ++ (r ∷ [])) (head_pairs (λ (s t : Row). s.id < t.id) s (rows ++ (r ∷ [])) h)), last-highest rows r (tail_pairs (λ (s t : Row). s.id < t.id) s (rows ++ (r ∷ [])) h))
  where
    last-of : (rows : List Row) → Each (λ (t : Row). s.id < t.id) (rows ++ (r ∷ [])) → s.id < r.id
    last-of [] h = h.0
    last-of (t ∷ rows) h = last-of rows h.1

pub terms_unfit : (p : Problem) (at : List Mark) (r : Row) (j : ℕ) → IsWhole (with_row r p) → 1 ≤ j → j ≤ length r.terms + 1 → HasNoWriting (with_row r p) (over_joined r at) (first_terms r j) → IsUnfitTerms (with_row r p) (over_joined r at) (over_mark r.id) j
terms_unfit p at r j whole low high none =
    any-last (λ s. (over_mark r.id ≡ over_mark s.id) × AreOverFrom (with_row r p) (over_joined r at) s.id × (1 ≤ j) × (j ≤ length s.terms + 1) × HasNoWriting (with_row r p) (over_joined r at) (first_terms s j)) p.rows r (
      refl,
      All-from_recursion (λ (s : Row). r.id ≤ s.id → IsIn (place (over_mark s.id)) (over_joined r at)) (p.rows ++ (r ∷ []))
          (each-joined (λ (s : Row). r.id ≤ s.id → IsIn (place (over_mark s.id)) (over_joined r at)) p.rows (r ∷ [])
          (each-impl (λ (s : Row). s.id < r.id) (λ (s : Row). r.id ≤ s.id → IsIn (place (over_mark s.id)) (over_joined r at)) p.rows (λ s lt le. absurd (omega (arith, lt, le))) (last-highest p.rows r whole.rising))
          ((λ le. new-in at (over_mark r.id)), tt)),
      low,
      high,
      none,
    )

pub last_terms_unfit : (p : Problem) (at : List Mark) (r : Row) → IsWhole (with_row r p) → HasNoWriting (with_row r p) (over_joined r at) (λ x. x (place (over_mark r.id))) → IsUnfitTerms (with_row r p) (over_joined r at) (over_mark r.id) (length r.terms + 1)
last_terms_unfit p at r whole none =
    terms_unfit p at r (length r.terms + 1) whole (omega arith) (omega arith)
    (same-writing (with_row r p) (over_joined r at) (λ x. x (place (over_mark r.id))) (first_terms r (length r.terms + 1)) (λ x. sym (past-terms r x)) none)

-- ---- the row's under mark

turned-last : (s : Swap) (at : List Mark) (m : Mark) → Each (λ n. place n ≢ place s.leave) at → place m ≡ place s.leave → exchanged s (at ++ (m ∷ [])) ≡ at ++ (s.enter ∷ [])
turned-last s [] m far e = ap (λ (b : Bool). cond b s.enter m ∷ []) (eq-eqb (place m) (place s.leave) e)
turned-last s (n ∷ at) m far e = ap₂ (λ (x : Mark) (xs : List Mark). x ∷ xs) (ap (λ (b : Bool). cond b s.enter n) (ne_eqb (place n) (place s.leave) far.0)) (turned-last s at m far.1 e)

-- the exchange of the row's two marks puts its under mark in the place of its over mark
pub joined_turns : (p : Problem) (at : List Mark) (r : Row) → IsWhole (with_row r p) → IsCorner p at → exchanged (record { enter = under_mark r.id; leave = over_mark r.id }) (over_joined r at) ≡ under_joined r at
joined_turns p at r whole corner =
    turned-last (record { enter = under_mark r.id; leave = over_mark r.id }) at (over_mark r.id)
    (each-impl (λ m. Contains (map place (marks_of (lines p))) (place m)) (λ m. place m ≢ place (over_mark r.id)) at (λ m is. fresh-mark p r (place m) Over whole is) (recursion_from_All (λ m. Contains (map place (marks_of (lines p))) (place m)) at corner.marks)) refl
