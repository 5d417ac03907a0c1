-- A level's cost that does not fit where rows without a weight are left out does not fit with them.
use Rattle.std.proofs.Common.{◌≡◌, ◌∙◌, ℕ, ◌-◌, ◌*◌, ◌/◌, ◌<◌, ◌≤◌, Bool, true, false, cond, nat_eq, List, [], ◌∷◌, ◌++◌, length, map, ℤ, pos, ◌+ℤ◌, ◌-ℤ◌, ◌*ℤ◌, unsigned_abs, refl, sym, ap, ap₂, subst, arith, inl, inr, All, ne_eqb}
use Rattle.std.proofs.lemmas.Bool.{cases_Bool}
use Rattle.std.specs.Int.{◌∣◌}
use Rattle.std.specs.List.{filter, AllByRecursion as Each}
use Rattle.std.proofs.lemmas.List.Elements.{All-from_recursion, recursion_from_All}
use borrow.Author.Differences.{ints}
use Rattle.frac_core.specs.Fraction.{Fraction, IsFitting}
use Rattle.frac_core.proofs.Integers.{cancel_mul, mul-add_left, mul-zero_ℤ, mul_assoc_ℤ, mul_left_comm_ℤ, zero-add_ℤ, zero-mul_ℤ, zero_from_mul}
use Rattle.problem_core.specs.declared.parts.Mark.{Mark}
use Rattle.problem_core.specs.declared.parts.RowName.{RowName}
use Rattle.problem_core.specs.declared.parts.Level.{Level}
use Rattle.problem_core.specs.declared.parts.RowName.TheVariants.{Held}
use Rattle.problem_core.specs.declared.parts.Side.TheVariants.{Under, Over}
use Rattle.problem_core.specs.Layout.{IsProblem, Line, Problem, Row, coefficient, line_of_row, lines, product_of, stay_lines, sum_of, value_at}
use Rattle.problem_core.specs.Certificates.{over_weight, under_weight, weight_at}
use Rattle.problem_core.specs.Corners.{IsIn, Point, StandsAt, column, equation, marks_of, one_column, place, place_of}
use Rattle.problem_core.proofs.Forms.{each-both, each-impl, each-map}
use Rattle.problem_core.specs.Unfit.{IsUnfitRows, lightened, without_weight}
use Rattle.problem_core.specs.Levels.{AreFitting, HasNoLevelWriting, IsCostAt, IsLevelAt, IsLevelWriting, alone, cost_at, line_cost, scales}
use Rattle.corner_laws.specs.Lifts.{AreJoined, HasOneIn, with_rows}
use Rattle.corner_laws.proofs.LevelCosts.Gaps.{shares}
use Rattle.corner_laws.proofs.MarkWritings.Lifts.{each_drop, each_marks, each_put}
use Rattle.corner_laws.proofs.MarkWritings.TermLifts.{back, no_rows, regrouped}
use Rattle.corner_laws.proofs.WrittenValues.{contains_each}
use Rattle.corner_laws.proofs.PathEnds.Ends.{both_marks}
use Rattle.frac_core.proofs.Numbers.{divides-zero as divides-none, pos-no-product as no-weight, quotient-times as quotient}
use Rattle.corner_laws.proofs.ZeroColumns.{weightless as costless}
use Rattle.problem_core.proofs.Lines.{under-none, over-none, each-less as each_less}

-- ---- a row without a weight that has a mark inside

pub record IsFreeRow (at : List Mark) (k : ℕ) (r : Row) : Type 0 where
  pub scale_positive : 0 < r.scale
  pub weightless : weight_at (line_of_row r) k ≡ 0
  pub one : HasOneIn at r

-- where k times one number is 0 if k times the other is, the one is 0 if the other is
zero-with : (k : ℕ) (a b : ℤ) → 0 < k → a ≡ pos 0 → (pos k *ℤ a ≡ pos 0 → pos k *ℤ b ≡ pos 0) → b ≡ pos 0
zero-with k a b above e f = zero_from_mul k b above (f (ap (λ (t : ℤ). pos k *ℤ t) e ∙ mul-zero_ℤ (pos k)))

-- its multiplier and its reduced costs are 0
own-none : (p : Problem) (at : List Mark) (k s : ℕ) (y : RowName → ℤ) (z : ℕ → ℤ) (r : Row) → IsFreeRow at k r → IsLevelWriting (with_rows (r ∷ []) p) at k s y z
    → (y (Held r.id) ≡ pos 0) × ((z (place_of (Held r.id) Under) ≡ pos 0) × (z (place_of (Held r.id) Over) ≡ pos 0))
own-none p at k s y z r free w =
    let q : Problem = with_rows (r ∷ []) p in
    let u : pos r.scale *ℤ z (place_of (Held r.id) Under) ≡ pos (s * under_weight r.rel (weight_at (line_of_row r) k)) -ℤ pos r.scale *ℤ y (Held r.id) =
    (each_drop (λ l. pos l.scale *ℤ z (place_of l.name Under) ≡ column (alone s y) Under l k) p.rows r (stay_lines 1001 p.stays) (recursion_from_All _ (lines q) (w.columns Under))).1 in
    let o : pos r.scale *ℤ z (place_of (Held r.id) Over) ≡ pos (s * over_weight r.rel (weight_at (line_of_row r) k)) +ℤ pos r.scale *ℤ y (Held r.id) =
    (each_drop (λ l. pos l.scale *ℤ z (place_of l.name Over) ≡ column (alone s y) Over l k) p.rows r (stay_lines 1001 p.stays) (recursion_from_All _ (lines q) (w.columns Over))).1 in
    let wu = no-weight s (under_weight r.rel (weight_at (line_of_row r) k)) (ap (under_weight r.rel) free.weightless ∙ under-none r.rel) in
    let wo = no-weight s (over_weight r.rel (weight_at (line_of_row r) k)) (ap (over_weight r.rel) free.weightless ∙ over-none r.rel) in
    let times : y (Held r.id) ≡ pos 0 =
    elim free.one [
      | inl i ↦
          zero-with r.scale (z (place_of (Held r.id) Under)) (y (Held r.id)) free.scale_positive
          ((each_drop (λ l. IsIn (place_of l.name Under) at → z (place_of l.name Under) ≡ pos 0) p.rows r (stay_lines 1001 p.stays) (recursion_from_All _ (lines q) (w.inside_zero Under))).1 i)
          (λ none. omega (arith, ints, wu, u, none))
      | inr i ↦
          zero-with r.scale (z (place_of (Held r.id) Over)) (y (Held r.id)) free.scale_positive
          ((each_drop (λ l. IsIn (place_of l.name Over) at → z (place_of l.name Over) ≡ pos 0) p.rows r (stay_lines 1001 p.stays) (recursion_from_All _ (lines q) (w.inside_zero Over))).1 i)
          (λ none. omega (arith, ints, wo, o, none))
    ] in (
      times,
      (
        zero-with r.scale (y (Held r.id)) (z (place_of (Held r.id) Under)) free.scale_positive times (λ none. omega (arith, ints, wu, u, none)),
        zero-with r.scale (y (Held r.id)) (z (place_of (Held r.id) Over)) free.scale_positive times (λ none. omega (arith, ints, wo, o, none)),
      ),
    )

-- ---- sums and products over the lines

sum-put : (f : Line → ℤ) (rows : List Row) (r : Row) (ls : List Line) → sum_of f (map line_of_row (rows ++ (r ∷ [])) ++ ls) ≡ f (line_of_row r) +ℤ sum_of f (map line_of_row rows ++ ls)
sum-put f [] r ls = refl
sum-put f (s ∷ rows) r ls = let e = sum-put f rows r ls in omega (arith, ints, e)

product-put : (f : Line → ℕ) (rows : List Row) (r : Row) (ls : List Line) → product_of f (map line_of_row (rows ++ (r ∷ [])) ++ ls) ≡ f (line_of_row r) * product_of f (map line_of_row rows ++ ls)
product-put f [] r ls = refl
product-put f (s ∷ rows) r ls = let e : f (line_of_row s) * product_of f (map line_of_row (rows ++ (r ∷ [])) ++ ls) ≡ f (line_of_row s) * (f (line_of_row r) * product_of f (map line_of_row rows ++ ls)) = ap (λ (n : ℕ). f (line_of_row s) * n) (product-put f rows r ls) in omega (arith, e)

sum-each : (f g : Line → ℤ) (ls : List Line) → Each (λ l. f l ≡ g l) ls → sum_of f ls ≡ sum_of g ls
sum-each f g [] h = refl
sum-each f g (l ∷ ls) h = ap₂ ◌+ℤ◌ h.0 (sum-each f g ls h.1)

sum-times : (k : ℕ) (f : Line → ℤ) (ls : List Line) → sum_of (λ l. pos k *ℤ f l) ls ≡ pos k *ℤ sum_of f ls
sum-times k f [] = sym (mul-zero_ℤ (pos k))
sum-times k f (l ∷ ls) = ap (λ (z : ℤ). pos k *ℤ f l +ℤ z) (sum-times k f ls) ∙ sym (mul-add_left (pos k) (f l) (sum_of f ls))

-- ---- the cost

-- the cost at a point is that without the row, times the row's scale
cost-put : (p : Problem) (at : List Mark) (k : ℕ) (r : Row) (x : ℕ → ℤ) → IsProblem p → IsFreeRow at k r → cost_at (with_rows (r ∷ []) p) k x ≡ pos r.scale *ℤ cost_at p k x
cost-put p at k r x problem free =
    let q : Problem = with_rows (r ∷ []) p in
    let whole : scales q ≡ r.scale * scales p = product-put (λ l. l.scale) p.rows r (stay_lines 1001 p.stays) in
    let own : line_cost k x (line_of_row r) ≡ pos 0 =
    costless (under_weight r.rel (weight_at (line_of_row r) k)) (over_weight r.rel (weight_at (line_of_row r) k)) (x (place_of (Held r.id) Under)) (x (place_of (Held r.id) Over))
    (ap (under_weight r.rel) free.weightless ∙ under-none r.rel) (ap (over_weight r.rel) free.weightless ∙ over-none r.rel) in
    sum-put (λ l. pos (scales q / l.scale) *ℤ line_cost k x l) p.rows r (stay_lines 1001 p.stays)
    ∙ ap (λ (z : ℤ). z +ℤ sum_of (λ l. pos (scales q / l.scale) *ℤ line_cost k x l) (lines p)) (ap (λ (z : ℤ). pos (scales q / r.scale) *ℤ z) own ∙ mul-zero_ℤ (pos (scales q / r.scale)))
    ∙ zero-add_ℤ (sum_of (λ l. pos (scales q / l.scale) *ℤ line_cost k x l) (lines p))
    ∙ sum-each (λ l. pos (scales q / l.scale) *ℤ line_cost k x l) (λ l. pos r.scale *ℤ (pos (scales p / l.scale) *ℤ line_cost k x l)) (lines p)
    (each-impl (λ l. ((0 < l.scale) × (0 < l.den)) × (scales p / l.scale * l.scale ≡ scales p)) _ (lines p)
    (λ l h. ap (λ (n : ℕ). pos n *ℤ line_cost k x l) (quotient (scales p) (scales q) r.scale l.scale h.0.0 h.1 whole) ∙ mul_assoc_ℤ (pos r.scale) (pos (scales p / l.scale)) (line_cost k x l))
    (each-both _ _ (lines p) (recursion_from_All _ (lines p) problem) (shares p problem)))
    ∙ sum-times r.scale (λ l. pos (scales p / l.scale) *ℤ line_cost k x l) (lines p)

without-scale : (k s : ℕ) (c n o : ℤ) (d : ℕ) → 0 < k → (pos k *ℤ c) *ℤ pos d ≡ n *ℤ (pos (k * s) *ℤ o) → c *ℤ pos d ≡ n *ℤ (pos s *ℤ o)
without-scale k s c n o d above h =
    cancel_mul k (c *ℤ pos d) (n *ℤ (pos s *ℤ o)) above
    (sym (mul_assoc_ℤ (pos k) c (pos d)) ∙ h ∙ ap (λ (z : ℤ). n *ℤ z) (mul_assoc_ℤ (pos k) (pos s) o) ∙ mul_left_comm_ℤ n (pos k) (pos s *ℤ o))

fewer_stand : (p : Problem) (at : List Mark) (r : Row) (x : Point) → StandsAt (with_rows (r ∷ []) p) at x → StandsAt p at x
fewer_stand p at r x stands = (
  All-from_recursion (λ l. value_at x.num (equation l) ≡ pos 0) (lines p) (each_drop (λ l. value_at x.num (equation l) ≡ pos 0) p.rows r (stay_lines 1001 p.stays) (recursion_from_All _ (lines (with_rows (r ∷ []) p)) stands.0)).0,
  All-from_recursion (λ m. (IsIn (place m) at → ⊥) → x.num (place m) ≡ pos 0) (marks_of (lines p))
      (each_marks (λ c. (IsIn c at → ⊥) → x.num c ≡ pos 0) (lines p)
      (each_drop (λ l. ((IsIn (place_of l.name Under) at → ⊥) → x.num (place_of l.name Under) ≡ pos 0) × ((IsIn (place_of l.name Over) at → ⊥) → x.num (place_of l.name Over) ≡ pos 0)) p.rows r (stay_lines 1001 p.stays)
      (both_marks (λ c. (IsIn c at → ⊥) → x.num c ≡ pos 0) (lines (with_rows (r ∷ []) p)) (recursion_from_All (λ m. (IsIn (place m) at → ⊥) → x.num (place m) ≡ pos 0) (marks_of (lines (with_rows (r ∷ []) p))) stands.1))).0),
)

fewer_cost : (p : Problem) (at : List Mark) (k : ℕ) (r : Row) (f : Fraction) → IsProblem p → IsFreeRow at k r → IsCostAt (with_rows (r ∷ []) p) at k f → IsCostAt p at k f
fewer_cost p at k r f problem free (x, stands, e) = (
  x,
  fewer_stand p at r x stands,
  without-scale r.scale (scales p) (cost_at p k x.num) f.num (x.num one_column) f.den free.scale_positive
      (ap (λ (z : ℤ). z *ℤ pos f.den) (sym (cost-put p at k r x.num problem free)) ∙ e
      ∙ ap (λ (n : ℕ). f.num *ℤ (pos n *ℤ x.num one_column)) (product-put (λ l. l.scale) p.rows r (stay_lines 1001 p.stays))),
)

-- ---- the writing without the row

fewer_level : (p : Problem) (at : List Mark) (k s : ℕ) (y : RowName → ℤ) (z : ℕ → ℤ) (r : Row) → IsFreeRow at k r → IsLevelWriting (with_rows (r ∷ []) p) at k s y z → IsLevelWriting p at k s y z
fewer_level p at k s y z r free w =
    let q : Problem = with_rows (r ∷ []) p in
    let none = own-none p at k s y z r free w in
    record {
      scale_positive = w.scale_positive;
      cancel = λ v.
          sym (sum-put (λ l. y l.name *ℤ coefficient v l.form) p.rows r (stay_lines 1001 p.stays)
          ∙ ap (λ (t : ℤ). t +ℤ sum_of (λ l. y l.name *ℤ coefficient v l.form) (lines p)) (ap (λ (t : ℤ). t *ℤ coefficient v r.terms) none.0 ∙ zero-mul_ℤ (coefficient v r.terms))
          ∙ zero-add_ℤ (sum_of (λ l. y l.name *ℤ coefficient v l.form) (lines p)))
          ∙ w.cancel v;
      columns = λ side.
          All-from_recursion (λ l. pos l.scale *ℤ z (place_of l.name side) ≡ column (alone s y) side l k) (lines p)
          (each_drop (λ l. pos l.scale *ℤ z (place_of l.name side) ≡ column (alone s y) side l k) p.rows r (stay_lines 1001 p.stays) (recursion_from_All _ (lines q) (w.columns side))).0;
      inside_zero = λ side.
          All-from_recursion (λ l. IsIn (place_of l.name side) at → z (place_of l.name side) ≡ pos 0) (lines p)
          (each_drop (λ l. IsIn (place_of l.name side) at → z (place_of l.name side) ≡ pos 0) p.rows r (stay_lines 1001 p.stays) (recursion_from_All _ (lines q) (w.inside_zero side))).0;
      lowest = λ d divides h.
          w.lowest d divides
          (All-from_recursion (λ l. (d ∣ unsigned_abs (y l.name)) × (d ∣ unsigned_abs (z (place_of l.name Under))) × (d ∣ unsigned_abs (z (place_of l.name Over)))) (lines q)
          (each_put (λ l. (d ∣ unsigned_abs (y l.name)) × (d ∣ unsigned_abs (z (place_of l.name Under))) × (d ∣ unsigned_abs (z (place_of l.name Over)))) p.rows r (stay_lines 1001 p.stays) (recursion_from_All _ (lines p) h)
          (divides-none d (y (Held r.id)) none.0, divides-none d (z (place_of (Held r.id) Under)) none.1.0, divides-none d (z (place_of (Held r.id) Over)) none.1.1)));
    }

fewer_fit : (p : Problem) (s : ℕ) (y : RowName → ℤ) (z : ℕ → ℤ) (r : Row) → AreFitting (with_rows (r ∷ []) p) s y z → AreFitting p s y z
fewer_fit p s y z r fit = record {
  scale_fits = fit.scale_fits;
  times_fit = All-from_recursion (λ l. IsFitting (y l.name)) (lines p) (each_drop (λ l. IsFitting (y l.name)) p.rows r (stay_lines 1001 p.stays) (recursion_from_All _ (lines (with_rows (r ∷ []) p)) fit.times_fit)).0;
  reduced_fit = λ side. All-from_recursion (λ l. IsFitting (z (place_of l.name side))) (lines p) (each_drop (λ l. IsFitting (z (place_of l.name side))) p.rows r (stay_lines 1001 p.stays) (recursion_from_All _ (lines (with_rows (r ∷ []) p)) (fit.reduced_fit side))).0;
}

-- ---- other marks

joined_stand : (p : Problem) (at joined : List Mark) (x : Point) → AreJoined p at joined → StandsAt p joined x → StandsAt p at x
joined_stand p at joined x are stands = (
  stands.0,
  All-from_recursion (λ m. (IsIn (place m) at → ⊥) → x.num (place m) ≡ pos 0) (marks_of (lines p))
      (each-impl (λ m. ((IsIn (place m) joined → ⊥) → x.num (place m) ≡ pos 0) × (IsIn (place m) joined → IsIn (place m) at)) _ (marks_of (lines p)) (λ m h out. h.0 (λ i. out (h.1 i)))
      (each-both _ _ (marks_of (lines p)) (recursion_from_All _ (marks_of (lines p)) stands.1) (recursion_from_All _ (marks_of (lines p)) are.no_other))),
)

joined_level : (p : Problem) (at joined : List Mark) (k : ℕ) → AreJoined p at joined → HasNoLevelWriting p at k → HasNoLevelWriting p joined k
joined_level p at joined k are none s y z f w (x, stands, e) fit kept =
    none s y z f
    (record {
      scale_positive = w.scale_positive;
      cancel = w.cancel;
      columns = w.columns;
      inside_zero = λ side.
          All-from_recursion (λ l. IsIn (place_of l.name side) at → z (place_of l.name side) ≡ pos 0) (lines p)
          (each-impl (λ l. IsIn (place_of l.name side) joined → z (place_of l.name side) ≡ pos 0) _ (lines p)
          (λ l h i. h (contains_each (λ c. IsIn c joined) at (place_of l.name side) (recursion_from_All (λ m. IsIn (place m) joined) at are.kept) i))
          (recursion_from_All _ (lines p) (w.inside_zero side)));
      lowest = w.lowest;
    }) (x, joined_stand p at joined x are stands, e) fit kept

-- ---- all rows

more_rows : (p : Problem) (rest : List Row) (at : List Mark) (k : ℕ) → IsProblem (with_rows rest p) → Each (IsFreeRow at k) rest → HasNoLevelWriting p at k → HasNoLevelWriting (with_rows rest p) at k
more_rows p [] at k problem free none = no_rows (λ q. HasNoLevelWriting q at k) p none
more_rows p (r ∷ rest) at k problem free none =
    let own : IsProblem p = All-from_recursion _ (lines p) (each_less (λ l. (0 < l.scale) × (0 < l.den)) p.rows (r ∷ rest) (stay_lines 1001 p.stays) (recursion_from_All _ (lines (with_rows (r ∷ rest) p)) problem)) in
    let here : HasNoLevelWriting (with_rows (r ∷ []) p) at k = λ s y z f w cost fit kept.
    none s y z f (fewer_level p at k s y z r free.0 w) (fewer_cost p at k r f own free.0 cost) (fewer_fit p s y z r fit) kept in
    back (λ q. HasNoLevelWriting q at k) p r rest (more_rows (with_rows (r ∷ []) p) rest at k (regrouped IsProblem p r rest problem) free.1 here)

pub level_lifts : (p : Problem) (rest : List Row) (at joined : List Mark) (k : ℕ) → IsProblem (with_rows rest p) → AreJoined p at joined → Each (IsFreeRow joined k) rest → HasNoLevelWriting p at k → HasNoLevelWriting (with_rows rest p) joined k
level_lifts p rest at joined k problem are free none = more_rows p rest joined k problem free (joined_level p at joined k are none)

-- ---- the first rows of a level

pub past-first : (b : Bool) (k j : ℕ) (r : Row) (rows rest found : List Row) → j ≡ length (cond b (r ∷ found) found) → ((i : ℕ) → i ≡ length found → lightened k i (rows ++ rest) ≡ rows ++ lightened k 0 rest)
    → cond b (cond (nat_eq j 0) (without_weight r) r ∷ lightened k (j - 1) (rows ++ rest)) (r ∷ lightened k j (rows ++ rest)) ≡ r ∷ (rows ++ lightened k 0 rest)
past-first true k j r rows rest found e h =
    ap₂ (λ (s : Row) (xs : List Row). s ∷ xs) (ap (λ (b : Bool). cond b (without_weight r) r) (ne_eqb j 0 (λ z. omega (arith, e, z)))) (h (j - 1) (omega (arith, e)))
past-first false k j r rows rest found e h = ap (λ (xs : List Row). r ∷ xs) (h j e)

-- the first j rows of the level are those of the first list
lightened_append : (k j : ℕ) (rows rest : List Row) → j ≡ length (filter (λ (r : Row). nat_eq (1000 - r.rank) k) rows) → lightened k j (rows ++ rest) ≡ rows ++ lightened k 0 rest
lightened_append k j [] rest e = ap (λ (n : ℕ). lightened k n rest) e
lightened_append k j (r ∷ rows) rest e = past-first (nat_eq (1000 - r.rank) k) k j r rows rest (filter (λ (r : Row). nat_eq (1000 - r.rank) k) rows) e (λ i h. lightened_append k i rows rest h)

pub no-weight-left : (b : Bool) → cond {A = ℕ} b 0 0 ≡ 0
no-weight-left true = refl
no-weight-left false = refl

free-rows : (k : ℕ) (at : List Mark) (rest : List Row) → Each (λ (r : Row). 0 < r.scale) rest → Each (HasOneIn at) rest → Each (IsFreeRow at k) (lightened k 0 rest)
free-rows k at [] h one = tt
free-rows k at (r ∷ rest) h one =
    elim (cases_Bool (nat_eq (1000 - r.rank) k)) [
      | inl e ↦
          subst (λ (b : Bool). Each (IsFreeRow at k) (cond b (without_weight r ∷ lightened k 0 rest) (r ∷ lightened k 0 rest))) (sym e)
          (record { scale_positive = h.0; weightless = no-weight-left (nat_eq (1000 - r.rank) k); one = one.0 }, free-rows k at rest h.1 one.1)
      | inr e ↦
          subst (λ (b : Bool). Each (IsFreeRow at k) (cond b (without_weight r ∷ lightened k 0 rest) (r ∷ lightened k 0 rest))) (sym e)
          (record { scale_positive = h.0; weightless = ap (λ (b : Bool). cond b r.weight 0) e; one = one.0 }, free-rows k at rest h.1 one.1)
    ]

abbrev IsSound : Line → Type 0
IsSound l = (0 < l.scale) × (0 < l.den)

either-sound : (b : Bool) (r : Row) (rows : List Row) (ls : List Line) → IsSound (line_of_row r) → Each IsSound (map line_of_row rows ++ ls) → Each IsSound (map line_of_row (cond b (without_weight r ∷ rows) (r ∷ rows)) ++ ls)
either-sound true r rows ls h k = (h, k)
either-sound false r rows ls h k = (h, k)

sound-rest : (k : ℕ) (rest : List Row) (ls : List Line) → Each IsSound (map line_of_row rest ++ ls) → Each IsSound (map line_of_row (lightened k 0 rest) ++ ls)
sound-rest k [] ls h = h
sound-rest k (r ∷ rest) ls h = either-sound (nat_eq (1000 - r.rank) k) r (lightened k 0 rest) ls h.0 (sound-rest k rest ls h.1)

sound-rows : (k : ℕ) (rows rest : List Row) (ls : List Line) → Each IsSound (map line_of_row (rows ++ rest) ++ ls) → Each IsSound (map line_of_row (rows ++ lightened k 0 rest) ++ ls)
sound-rows k [] rest ls h = sound-rest k rest ls h
sound-rows k (r ∷ rows) rest ls h = (h.0, sound-rows k rows rest ls h.1)

pub either-count : (b : Bool) (r : Row) (l : Line) (rows : List Row) (ls : List Line) → length rows ≤ length ls → length (cond b (r ∷ rows) rows) ≤ length (cond b (l ∷ ls) ls)
either-count true r l rows ls h = omega (arith, h)
either-count false r l rows ls h = h

count-lines : (k : ℕ) (rows rest : List Row) (ls : List Line) → length (filter (λ (r : Row). nat_eq (1000 - r.rank) k) rows) ≤ length (filter (λ (l : Line). nat_eq l.level k) (map line_of_row (rows ++ rest) ++ ls))
count-lines k [] rest ls = omega arith
count-lines k (r ∷ rows) rest ls = either-count (nat_eq (1000 - r.rank) k) r (line_of_row r) (filter (λ (r : Row). nat_eq (1000 - r.rank) k) rows) (filter (λ (l : Line). nat_eq l.level k) (map line_of_row (rows ++ rest) ++ ls)) (count-lines k rows rest ls)

-- a level's cost that does not fit before later rows join is that of its first rows where they have joined, and does not fit there
pub rows_lift : (p : Problem) (rest : List Row) (at joined : List Mark) (level : Level) (k j : ℕ) → IsProblem (with_rows rest p) → IsLevelAt (with_rows rest p) level k → 1 ≤ j → j ≡ length (filter (λ r. nat_eq (1000 - r.rank) k) p.rows) → AreJoined p at joined → All (HasOneIn joined) rest
    → HasNoLevelWriting p at k → IsUnfitRows (with_rows rest p) joined level j
rows_lift p rest at joined level k j problem is some count are one none =
    let sound : Each IsSound (map line_of_row (p.rows ++ rest) ++ stay_lines 1001 p.stays) = recursion_from_All _ (lines (with_rows rest p)) problem in
    let all : IsProblem (with_rows (lightened k 0 rest) p) = All-from_recursion IsSound (lines (with_rows (lightened k 0 rest) p)) (sound-rows k p.rows rest (stay_lines 1001 p.stays) sound) in
    let scales : Each (λ (r : Row). 0 < r.scale) rest = each-impl (λ r. IsSound (line_of_row r)) (λ r. 0 < r.scale) rest (λ r h. h.0) (second-rows p.rows rest (stay_lines 1001 p.stays) sound) in (
      k,
      is,
      some,
      subst (λ (n : ℕ). n ≤ length (filter (λ (l : Line). nat_eq l.level k) (lines (with_rows rest p)))) (sym count) (count-lines k p.rows rest (stay_lines 1001 p.stays)),
      subst (λ (rows : List Row). HasNoLevelWriting (record { rows = rows; stays = p.stays }) joined k) (sym (lightened_append k j p.rows rest count))
          (level_lifts p (lightened k 0 rest) at joined k all are (free-rows k joined rest scales (recursion_from_All (HasOneIn joined) rest one)) none),
    )
  where
    second-rows : (rows rest : List Row) (ls : List Line) → Each IsSound (map line_of_row (rows ++ rest) ++ ls) → Each (λ r. IsSound (line_of_row r)) rest
    second-rows [] rest ls h = each-map IsSound line_of_row rest ls h
    second-rows (r ∷ rows) rest ls h = second-rows rows rest ls h.1
