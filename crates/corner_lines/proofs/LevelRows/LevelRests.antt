-- Rows that have joined the corner, but not their levels yet.
use Rattle.std.proofs.Common.{◌≡◌, ◌≢◌, ◌⊎◌, ◌∙◌, ℕ, ◌+◌, ◌-◌, ◌*◌, ◌<◌, ◌≤◌, Bool, true, false, cond, nat_eq, List, [], ◌∷◌, ◌++◌, length, map, ℤ, pos, ◌+ℤ◌, ◌*ℤ◌, neg_ℤ, unsigned_abs, refl, sym, ap, ap₂, subst, arith, inl, inr, AllPairs, eq-eqb, ne_eqb}
use Rattle.std.specs.List.{filter, AllByRecursion as Each}
use Rattle.std.specs.Int.{◌∣◌}
use Rattle.std.proofs.lemmas.Bool.{cases_Bool}
use Rattle.std.proofs.lemmas.List.Elements.{All-from_recursion, recursion_from_All}
use borrow.Author.Differences.{ints}
use Rattle.frac_core.proofs.Integers.{zero-mul_ℤ}
use Rattle.problem_core.specs.declared.parts.Mark.{Mark}
use Rattle.problem_core.specs.declared.parts.Side.TheVariants.{Under, Over}
use Rattle.problem_core.specs.declared.parts.RowName.{RowName}
use Rattle.problem_core.specs.declared.parts.RowName.TheVariants.{Held}
use Rattle.problem_core.specs.Layout.{Line, Problem, Row, coefficient, line_of_row, lines, stay_lines, sum_of}
use Rattle.problem_core.specs.Certificates.{weight_at}
use Rattle.problem_core.specs.Corners.{IsIn, marks_of, place, place_of}
use Rattle.problem_core.specs.Unfit.{lightened, without_weight}
use Rattle.problem_core.proofs.Corners.CornerFacts.{is_place}
use Rattle.problem_core.proofs.Forms.{each-impl, each-both}
use Rattle.corner_laws.specs.Lifts.{AreJoined, HasOneIn, with_rows}
use Rattle.corner_laws.specs.Units.{IsLevelUnit, over_share, under_share}
use Rattle.corner_laws.proofs.Counting.{IsIn-from_is_place, head_pairs, is_place-from_IsIn}
use Rattle.corner_laws.proofs.WrittenValues.{contains_each}
use Rattle.corner_laws.proofs.ZeroColumns.{not-in}
use Rattle.corner_lines.specs.LineEquations.{IsOutsideLine}
use Rattle.corner_lines.specs.Levels.LevelRows.{HasLevelRow}
use Rattle.corner_lines.specs.Levels.LevelJoins.{AllRowsHaveJoined, AreLinesBefore, IsLineBefore, JoiningRowsAreFree, OneRowMoreJoins, level_count}
use Rattle.corner_lines.proofs.LevelRows.LevelDivided.{outside-false}
use Rattle.corner_lines.proofs.LevelRows.LevelJoins.{free-number, whole-none}
use Rattle.problem_core.proofs.Corners.Conflicts.{sum-each}
use Rattle.problem_core.proofs.RowNames.{held-same}
use Rattle.corner_laws.proofs.PathEnds.Ends.{both_marks}
use Rattle.corner_laws.proofs.LevelCosts.LevelLifts.{past-first, no-weight-left}
use Rattle.problem_core.proofs.Lines.{each-less as each-fewer, stays-far as stays-other}
use Rattle.frac_core.proofs.Lists.{pairs-rest as tail_pairs}

-- ---- lists of lines with rows more

pub each-more : (P : Line → Type 0) (rows more : List Row) (ls : List Line) → Each P (map line_of_row rows ++ ls) → Each (λ r. P (line_of_row r)) more → Each P (map line_of_row (rows ++ more) ++ ls)
each-more P [] [] ls h k = h
each-more P [] (r ∷ more) ls h k = (k.0, each-more P [] more ls h k.1)
each-more P (s ∷ rows) more ls h k = (h.0, each-more P rows more ls h.1 k)

-- rows that add nothing
pub sum-more : (f : Line → ℤ) (rows more : List Row) (ls : List Line) → Each (λ r. f (line_of_row r) ≡ pos 0) more → sum_of f (map line_of_row (rows ++ more) ++ ls) ≡ sum_of f (map line_of_row rows ++ ls)
sum-more f [] [] ls h = refl
sum-more f [] (r ∷ more) ls h = let e = sum-more f [] more ls h.1 in let z = h.0 in omega (arith, ints, e, z)
sum-more f (s ∷ rows) more ls h = ap (λ (z : ℤ). f (line_of_row s) +ℤ z) (sum-more f rows more ls h)

-- ---- numbers that are 0 at the new lines

inside : List Mark → RowName → Bool
inside at name = cond (is_place at (place_of name Under)) true (is_place at (place_of name Over))

kept-number : List Mark → List Mark → (RowName → ℤ) → RowName → ℤ
unfolding inside
kept-number at joined by name = cond (inside at name) (by name) (cond (inside joined name) (pos 0) (by name))

inside-under : (at : List Mark) (name : RowName) → IsIn (place_of name Under) at → inside at name ≡ true
unfolding inside
inside-under at name i = ap (λ (b : Bool). cond b true (is_place at (place_of name Over))) (is_place-from_IsIn (place_of name Under) at i)

or-true : (b : Bool) → cond b true true ≡ true
or-true true = refl
or-true false = refl

inside-over : (at : List Mark) (name : RowName) → IsIn (place_of name Over) at → inside at name ≡ true
unfolding inside
inside-over at name i = ap (λ (b : Bool). cond (is_place at (place_of name Under)) true b) (is_place-from_IsIn (place_of name Over) at i) ∙ or-true (is_place at (place_of name Under))

inside-none : (at : List Mark) (name : RowName) → IsOutsideLine at name → inside at name ≡ false
unfolding inside
inside-none at name out =
    ap (λ (b : Bool). cond b true (is_place at (place_of name Over))) (outside-false at (place_of name Under) out.under) ∙ outside-false at (place_of name Over) out.over

-- a line of the problem keeps its number
kept-same : (at joined : List Mark) (by : RowName → ℤ) (name : RowName) → (IsOutsideLine at name → IsOutsideLine joined name) → kept-number at joined by name ≡ by name
unfolding kept-number inside
kept-same at joined by name f =
    elim (cases_Bool (is_place at (place_of name Under))) [
      | inl i ↦ ap (λ (b : Bool). cond b (by name) (cond (inside joined name) (pos 0) (by name))) (inside-under at name (IsIn-from_is_place (place_of name Under) at i))
      | inr a ↦ elim (cases_Bool (is_place at (place_of name Over))) [
        | inl i ↦ ap (λ (b : Bool). cond b (by name) (cond (inside joined name) (pos 0) (by name))) (inside-over at name (IsIn-from_is_place (place_of name Over) at i))
        | inr b ↦
            let out : IsOutsideLine at name = record { under = not-in at (place_of name Under) a; over = not-in at (place_of name Over) b } in
            ap (λ (b : Bool). cond b (by name) (cond (inside joined name) (pos 0) (by name))) (inside-none at name out)
            ∙ ap (λ (b : Bool). cond b (pos 0) (by name)) (inside-none joined name (f out))
      ]
    ]

-- a new line has none
new-number : (at joined : List Mark) (by : RowName → ℤ) (name : RowName) → IsOutsideLine at name → (IsIn (place_of name Under) joined) ⊎ (IsIn (place_of name Over) joined) → kept-number at joined by name ≡ pos 0
unfolding kept-number
new-number at joined by name out one =
    ap (λ (b : Bool). cond b (by name) (cond (inside joined name) (pos 0) (by name))) (inside-none at name out)
    ∙ ap (λ (b : Bool). cond b (pos 0) (by name)) (elim one [ inl i ↦ inside-under joined name i | inr i ↦ inside-over joined name i ])

-- ---- the rows without a weight

record IsFree (at joined : List Mark) (level : ℕ) (r : Row) : Type 0 where
  weightless : weight_at (line_of_row r) level ≡ 0
  outside : IsOutsideLine at (Held r.id)
  one : HasOneIn joined r

free-rows : (level : ℕ) (at joined : List Mark) (rest : List Row) → Each (HasOneIn joined) rest → Each (λ r. IsOutsideLine at (Held r.id)) rest → Each (IsFree at joined level) (lightened level 0 rest)
free-rows level at joined [] one out = tt
free-rows level at joined (r ∷ rest) one out =
    elim (cases_Bool (nat_eq (1000 - r.rank) level)) [
      | inl e ↦
          subst (λ (b : Bool). Each (IsFree at joined level) (cond b (without_weight r ∷ lightened level 0 rest) (r ∷ lightened level 0 rest))) (sym e)
          (record { weightless = no-weight-left (nat_eq (1000 - r.rank) level); outside = out.0; one = one.0 }, free-rows level at joined rest one.1 out.1)
      | inr e ↦
          subst (λ (b : Bool). Each (IsFree at joined level) (cond b (without_weight r ∷ lightened level 0 rest) (r ∷ lightened level 0 rest))) (sym e)
          (record { weightless = ap (λ (b : Bool). cond b r.weight 0) e; outside = out.0; one = one.0 }, free-rows level at joined rest one.1 out.1)
    ]

-- what is known of a line of the problem
record Known (at joined : List Mark) (l : Line) : Type 0 where
  under : IsIn (place_of l.name Under) joined → IsIn (place_of l.name Under) at
  over : IsIn (place_of l.name Over) joined → IsIn (place_of l.name Over) at

still-outside : (at joined : List Mark) (l : Line) → Known at joined l → IsOutsideLine at l.name → IsOutsideLine joined l.name
still-outside at joined l k out = record { under = λ i. out.under (k.under i); over = λ i. out.over (k.over i) }

was-out : (p : Problem) (at joined : List Mark) (name : RowName) → AreJoined p at joined → IsOutsideLine joined name → IsOutsideLine at name
was-out p at joined name are out = record {
  under = λ i. out.under (contains_each (λ c. IsIn c joined) at (place_of name Under) (recursion_from_All (λ m. IsIn (place m) joined) at are.kept) i);
  over = λ i. out.over (contains_each (λ c. IsIn c joined) at (place_of name Over) (recursion_from_All (λ m. IsIn (place m) joined) at are.kept) i);
}

not-outside : (joined : List Mark) (r : Row) → HasOneIn joined r → IsOutsideLine joined (Held r.id) → ⊥
not-outside joined r (inl i) out = out.under i
not-outside joined r (inr i) out = out.over i

more-row : (p : Problem) (more : List Row) (at joined : List Mark) (level unit own : ℕ) (number : RowName → ℤ) → AreJoined p at joined → Each (IsFree at joined level) more → HasLevelRow p at level unit own number → HasLevelRow (with_rows more p) joined level unit own number
more-row p more at joined level unit own number are free h =
    let q : Problem = with_rows more p in
    let stays : List Line = stay_lines 1001 p.stays in
    let known : Each (Known at joined) (lines p) =
    each-impl (λ l. (IsIn (place_of l.name Under) joined → IsIn (place_of l.name Under) at) × (IsIn (place_of l.name Over) joined → IsIn (place_of l.name Over) at)) _ (lines p) (λ l k. record { under = k.0; over = k.1 })
    (both_marks (λ c. IsIn c joined → IsIn c at) (lines p) (recursion_from_All (λ m. IsIn (place m) joined → IsIn (place m) at) (marks_of (lines p)) are.no_other)) in
    let by : RowName → ℤ = kept-number at joined h.by in
    let old : Each (λ l. Known at joined l × (by l.name ≡ h.by l.name)) (lines p) = each-impl (Known at joined) _ (lines p) (λ l k. (k, kept-same at joined h.by l.name (λ out. still-outside at joined l k out))) known in
    let new : Each (λ r. IsFree at joined level r × (by (Held r.id) ≡ pos 0)) more = each-impl (IsFree at joined level) _ more (λ r f. (f, new-number at joined h.by (Held r.id) f.outside f.one)) free in
    record {
      by = by;
      row = record {
        own_positive = h.row.own_positive;
        cancel = λ v.
            sum-more (λ l. by l.name *ℤ coefficient v l.form) p.rows more stays (each-impl (λ r. IsFree at joined level r × (by (Held r.id) ≡ pos 0)) (λ r. by (Held r.id) *ℤ coefficient v r.terms ≡ pos 0) more (λ r k. ap (λ (z : ℤ). z *ℤ coefficient v r.terms) k.1 ∙ zero-mul_ℤ (coefficient v r.terms)) new)
            ∙ sum-each (λ l. by l.name *ℤ coefficient v l.form) (λ l. h.by l.name *ℤ coefficient v l.form) (lines p) (each-impl (λ l. Known at joined l × (by l.name ≡ h.by l.name)) _ (lines p) (λ l k. ap (λ (z : ℤ). z *ℤ coefficient v l.form) k.1) old)
            ∙ h.row.cancel v;
        under = All-from_recursion (λ l. IsIn (place_of l.name Under) joined → by l.name ≡ pos (own * under_share unit level l)) (lines q)
            (each-more (λ l. IsIn (place_of l.name Under) joined → by l.name ≡ pos (own * under_share unit level l)) p.rows more stays
            (each-impl (λ l. (Known at joined l × (by l.name ≡ h.by l.name)) × (IsIn (place_of l.name Under) at → h.by l.name ≡ pos (own * under_share unit level l))) _ (lines p) (λ l k i. k.0.1 ∙ k.1 (k.0.0.under i))
            (each-both _ _ (lines p) old (recursion_from_All _ (lines p) h.row.under)))
            (each-impl (λ r. IsFree at joined level r × (by (Held r.id) ≡ pos 0)) _ more (λ r k i. k.1 ∙ sym (free-number Under level unit own (line_of_row r) k.0.weightless)) new));
        over = All-from_recursion (λ l. IsIn (place_of l.name Over) joined → by l.name ≡ neg_ℤ (pos (own * over_share unit level l))) (lines q)
            (each-more (λ l. IsIn (place_of l.name Over) joined → by l.name ≡ neg_ℤ (pos (own * over_share unit level l))) p.rows more stays
            (each-impl (λ l. (Known at joined l × (by l.name ≡ h.by l.name)) × (IsIn (place_of l.name Over) at → h.by l.name ≡ neg_ℤ (pos (own * over_share unit level l)))) _ (lines p) (λ l k i. k.0.1 ∙ k.1 (k.0.0.over i))
            (each-both _ _ (lines p) old (recursion_from_All _ (lines p) h.row.over)))
            (each-impl (λ r. IsFree at joined level r × (by (Held r.id) ≡ pos 0)) _ more (λ r k i. k.1 ∙ sym (free-number Over level unit own (line_of_row r) k.0.weightless)) new));
        lowest = λ k d each.
            h.row.lowest k d
            (All-from_recursion (λ l. (IsIn (place_of l.name Under) at → ⊥) → (IsIn (place_of l.name Over) at → ⊥) → k ∣ unsigned_abs (h.by l.name)) (lines p)
            (each-impl (λ l. (Known at joined l × (by l.name ≡ h.by l.name)) × ((IsIn (place_of l.name Under) joined → ⊥) → (IsIn (place_of l.name Over) joined → ⊥) → k ∣ unsigned_abs (by l.name))) _ (lines p)
            (λ l e u o. subst (λ (z : ℤ). k ∣ unsigned_abs z) e.0.1 (e.1 (λ i. u (e.0.0.under i)) (λ i. o (e.0.0.over i))))
            (each-both _ _ (lines p) old (each-fewer (λ l. (IsIn (place_of l.name Under) joined → ⊥) → (IsIn (place_of l.name Over) joined → ⊥) → k ∣ unsigned_abs (by l.name)) p.rows more stays (recursion_from_All _ (lines q) each)))));
      };
      outside = All-from_recursion (λ l. IsOutsideLine joined l.name → by l.name ≡ number l.name) (lines q)
          (each-more (λ l. IsOutsideLine joined l.name → by l.name ≡ number l.name) p.rows more stays
          (each-impl (λ l. (Known at joined l × (by l.name ≡ h.by l.name)) × (IsOutsideLine at l.name → h.by l.name ≡ number l.name)) _ (lines p) (λ l k out. k.0.1 ∙ k.1 (was-out p at joined l.name are out))
          (each-both _ _ (lines p) old (recursion_from_All _ (lines p) h.outside)))
          (each-impl (λ r. IsFree at joined level r × (by (Held r.id) ≡ pos 0)) _ more (λ r k out. absurd (not-outside joined r k.0.one out)) new));
    }

more-unit : (p : Problem) (more : List Row) (at joined : List Mark) (level unit : ℕ) → Each (IsFree at joined level) more → IsLevelUnit p level unit → IsLevelUnit (with_rows more p) level unit
more-unit p more at joined level unit free is = record {
  above = is.above;
  whole = All-from_recursion (λ l. l.scale ∣ unit * weight_at l level) (lines (with_rows more p))
      (each-more (λ l. l.scale ∣ unit * weight_at l level) p.rows more (stay_lines 1001 p.stays) (recursion_from_All _ (lines p) is.whole)
      (each-impl (IsFree at joined level) _ more (λ r f. whole-none r.scale unit (weight_at (line_of_row r) level) f.weightless) free));
  least = λ n all. is.least n (All-from_recursion (λ l. l.scale ∣ n * weight_at l level) (lines p) (each-fewer (λ l. l.scale ∣ n * weight_at l level) p.rows more (stay_lines 1001 p.stays) (recursion_from_All _ (lines (with_rows more p)) all)));
}

-- the first j rows of the level are those of the first list
pub lightened_append : (k j : ℕ) (rows rest : List Row) → j ≡ level_count k rows → lightened k j (rows ++ rest) ≡ rows ++ lightened k 0 rest
lightened_append k j [] rest e = ap (λ (n : ℕ). lightened k n rest) e
lightened_append k j (r ∷ rows) rest e = past-first (nat_eq (1000 - r.rank) k) k j r rows rest (filter (λ (r : Row). nat_eq (1000 - r.rank) k) rows) e (λ i h. lightened_append k i rows rest h)

-- each level has its row from before
pub joining_rows_are_free : JoiningRowsAreFree
joining_rows_are_free p rest at joined level unit own number are one out is h =
    let free = free-rows level at joined rest (recursion_from_All (HasOneIn joined) rest one) (recursion_from_All (λ r. IsOutsideLine at (Held r.id)) rest out) in
    let same : lightened level (level_count level p.rows) (p.rows ++ rest) ≡ p.rows ++ lightened level 0 rest = lightened_append level (level_count level p.rows) p.rows rest refl in (
      subst (λ (rows : List Row). IsLevelUnit (record { rows = rows; stays = p.stays }) level unit) (sym same) (more-unit p (lightened level 0 rest) at joined level unit free is),
      subst (λ (rows : List Row). HasLevelRow (record { rows = rows; stays = p.stays }) joined level unit own number) (sym same) (more-row p (lightened level 0 rest) at joined level unit own number are free h),
    )

-- ---- one row more

same-lines : (name : RowName) (ls : List Line) → Each (λ l. l.name ≢ name) ls → AreLinesBefore name ls ls
same-lines name [] h = tt
same-lines name (l ∷ ls) h = (inl (refl, h.0), same-lines name ls h.1)

either-other : (b : Bool) (name : RowName) (x y : Row) (xs ys : List Row) (ls : List Line) → Held x.id ≢ name → Held y.id ≢ name → Each (λ l. l.name ≢ name) (map line_of_row xs ++ ls) → Each (λ l. l.name ≢ name) (map line_of_row ys ++ ls)
    → Each (λ l. l.name ≢ name) (map line_of_row (cond b (x ∷ xs) (y ∷ ys)) ++ ls)
either-other true name x y xs ys ls h k f g = (h, f)
either-other false name x y xs ys ls h k f g = (k, g)

same-id : (b : Bool) (name : RowName) (r : Row) → Held r.id ≢ name → Held (cond b (without_weight r) r).id ≢ name
same-id true name r h = h
same-id false name r h = h

others : (name : RowName) (level j : ℕ) (rows : List Row) (ls : List Line) → Each (λ r. Held r.id ≢ name) rows → Each (λ l. l.name ≢ name) ls → Each (λ l. l.name ≢ name) (map line_of_row (lightened level j rows) ++ ls)
others name level j [] ls h k = k
others name level j (r ∷ rows) ls h k =
    either-other (nat_eq (1000 - r.rank) level) name (cond (nat_eq j 0) (without_weight r) r) r (lightened level (j - 1) rows) (lightened level j rows) ls (same-id (nat_eq j 0) name r h.0) h.0 (others name level (j - 1) rows ls h.1 k) (others name level j rows ls h.1 k)

first-joins : (r : Row) (after : List Row) (level : ℕ) (ls : List Line) (b : Bool) → b ≡ true → Each (λ l. l.name ≢ Held r.id) (map line_of_row (lightened level 0 after) ++ ls)
    → AreLinesBefore (Held r.id) (map line_of_row (cond b (without_weight r ∷ lightened level 0 after) (r ∷ lightened level 0 after)) ++ ls) (map line_of_row (cond b (r ∷ lightened level 0 after) (r ∷ lightened level 1 after)) ++ ls)
first-joins r after level ls true e h = (inr (refl, refl), same-lines (Held r.id) (map line_of_row (lightened level 0 after) ++ ls) h)
first-joins r after level ls false e h = absurd (subst (λ (b : Bool). cond b ⊥ (Unit {0})) e tt)

head-row : (j : ℕ) (s : Row) → j ≢ 0 → cond (nat_eq j 0) (without_weight s) s ≡ s
head-row j s ne = ap (λ (b : Bool). cond b (without_weight s) s) (ne_eqb j 0 ne)

both-heads : (name : RowName) (x y s : Row) → x ≡ s → y ≡ s → Held s.id ≢ name → IsLineBefore name (line_of_row x) (line_of_row y)
both-heads name x y s e f ne = inl (ap line_of_row (e ∙ sym f), λ h. ne (sym (ap (λ (r : Row). Held r.id) f) ∙ h))

next-joins : (b : Bool) (name : RowName) (s : Row) (found : List Row) (level : ℕ) (rows : List Row) (ls : List Line) → Held s.id ≢ name
    → AreLinesBefore name (map line_of_row (lightened level (length found) rows) ++ ls) (map line_of_row (lightened level (length found + 1) rows) ++ ls)
    → AreLinesBefore name (map line_of_row (cond b (cond (nat_eq (length (cond b (s ∷ found) found)) 0) (without_weight s) s ∷ lightened level (length (cond b (s ∷ found) found) - 1) rows) (s ∷ lightened level (length (cond b (s ∷ found) found)) rows)) ++ ls)
    (map line_of_row (cond b (cond (nat_eq (length (cond b (s ∷ found) found) + 1) 0) (without_weight s) s ∷ lightened level (length (cond b (s ∷ found) found) + 1 - 1) rows) (s ∷ lightened level (length (cond b (s ∷ found) found) + 1) rows)) ++ ls)
next-joins true name s found level rows ls ne h =
    let a : length (s ∷ found) - 1 ≡ length found = omega arith in
    let b : length (s ∷ found) + 1 - 1 ≡ length found + 1 = omega arith in
    (both-heads name (cond (nat_eq (length (s ∷ found)) 0) (without_weight s) s) (cond (nat_eq (length (s ∷ found) + 1) 0) (without_weight s) s) s (head-row (length (s ∷ found)) s (λ e. omega (arith, e))) (head-row (length (s ∷ found) + 1) s (λ e. omega (arith, e))) ne, subst (λ (i : ℕ). AreLinesBefore name (map line_of_row (lightened level i rows) ++ ls) (map line_of_row (lightened level (length (s ∷ found) + 1 - 1) rows) ++ ls)) (sym a) (subst (λ (i : ℕ). AreLinesBefore name (map line_of_row (lightened level (length found) rows) ++ ls) (map line_of_row (lightened level i rows) ++ ls)) (sym b) h))
next-joins false name s found level rows ls ne h = (inl (refl, ne), h)

rows-join : (before : List Row) (r : Row) (after : List Row) (level : ℕ) (ls : List Line) → nat_eq (1000 - r.rank) level ≡ true → Each (λ s. Held s.id ≢ Held r.id) before → Each (λ s. Held s.id ≢ Held r.id) after → Each (λ l. l.name ≢ Held r.id) ls
    → AreLinesBefore (Held r.id) (map line_of_row (lightened level (level_count level before) (before ++ (r ∷ after))) ++ ls) (map line_of_row (lightened level (level_count level before + 1) (before ++ (r ∷ after))) ++ ls)
rows-join [] r after level ls e b a k = first-joins r after level ls (nat_eq (1000 - r.rank) level) e (others (Held r.id) level 0 after ls a k)
rows-join (s ∷ before) r after level ls e b a k = next-joins (nat_eq (1000 - s.rank) level) (Held r.id) s (filter (λ (r : Row). nat_eq (1000 - r.rank) level) before) level (before ++ (r ∷ after)) ls b.0 (rows-join before r after level ls e b.1 a k)

pub below-other : (a b : ℕ) → a < b → Held a ≢ Held b
below-other a b lt e = let h = held-same a b e in absurd (omega (arith, lt, h))

above-other : (a b : ℕ) → b < a → Held a ≢ Held b
above-other a b lt e = let h = held-same a b e in absurd (omega (arith, lt, h))

split-before : (before : List Row) (r : Row) (after : List Row) → AllPairs (λ s t. s.id < t.id) (before ++ (r ∷ after)) → Each (λ s. Held s.id ≢ Held r.id) before × Each (λ s. Held s.id ≢ Held r.id) after
split-before [] r after h = (tt, each-impl (λ s. r.id < s.id) _ after (λ s lt. above-other s.id r.id lt) (recursion_from_All _ after (head_pairs (λ s t. s.id < t.id) r after h)))
split-before (s ∷ before) r after h =
    let rest = split-before before r after (tail_pairs (λ s t. s.id < t.id) s (before ++ (r ∷ after)) h) in
    let here = recursion_from_All _ (before ++ (r ∷ after)) (head_pairs (λ s t. s.id < t.id) s (before ++ (r ∷ after)) h) in
    ((below-other s.id r.id (middle (λ t. s.id < t.id) before r after here), rest.0), rest.1)
  where
    middle : (P : Row → Type 0) (before : List Row) (r : Row) (after : List Row) → Each P (before ++ (r ∷ after)) → P r
    middle P [] r after h = h.0
    middle P (s ∷ before) r after h = middle P before r after h.1

pub one_row_more_joins : OneRowMoreJoins
one_row_more_joins p before r after level whole is e =
    let apart = split-before before r after (subst (λ (rows : List Row). AllPairs (λ s t. s.id < t.id) rows) is whole.rising) in
    subst (λ (rows : List Row). AreLinesBefore (Held r.id) (map line_of_row (lightened level (level_count level before) rows) ++ stay_lines 1001 p.stays) (map line_of_row (lightened level (level_count level before + 1) rows) ++ stay_lines 1001 p.stays)) (sym is)
    (rows-join before r after level (stay_lines 1001 p.stays) (eq-eqb (1000 - r.rank) level (sym e)) apart.0 apart.1 (stays-other r.id 1001 p.stays))

-- ---- all rows

past-all : (b : Bool) (j level : ℕ) (r : Row) (rows found : List Row) → length (cond b (r ∷ found) found) ≤ j → ((i : ℕ) → length found ≤ i → lightened level i rows ≡ rows) → cond b (cond (nat_eq j 0) (without_weight r) r ∷ lightened level (j - 1) rows) (r ∷ lightened level j rows) ≡ r ∷ rows
past-all true j level r rows found le h =
    ap₂ (λ (s : Row) (xs : List Row). s ∷ xs) (ap (λ (b : Bool). cond b (without_weight r) r) (ne_eqb j 0 (λ z. omega (arith, le, z)))) (h (j - 1) (omega (arith, le)))
past-all false j level r rows found le h = ap (λ (xs : List Row). r ∷ xs) (h j le)

all-rows : (level j : ℕ) (rows : List Row) → level_count level rows ≤ j → lightened level j rows ≡ rows
all-rows level j [] le = refl
all-rows level j (r ∷ rows) le = past-all (nat_eq (1000 - r.rank) level) j level r rows (filter (λ (r : Row). nat_eq (1000 - r.rank) level) rows) le (λ i h. all-rows level i rows h)

pub all_rows_have_joined : AllRowsHaveJoined
all_rows_have_joined p level j le = ap (λ (rows : List Row). record { rows = rows; stays = p.stays }) (all-rows level j p.rows le)
