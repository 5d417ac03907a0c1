-- What does not fit where some rows are left out does not fit where they have joined.
use Rattle.std.proofs.Common.{◌≡◌, ◌≢◌, ◌∙◌, ℕ, ◌<◌, ◌⊎◌, List, [], ◌∷◌, ◌++◌, map, ℤ, pos, ◌+ℤ◌, ◌-ℤ◌, ◌*ℤ◌, neg_ℤ, ◌<ℤ◌, refl, sym, ap, ap₂, subst, arith, inl, inr, Contains}
use Rattle.std.specs.List.{AllByRecursion as Each}
use Rattle.std.proofs.lemmas.List.Elements.{All-from_recursion, recursion_from_All}
use lib.IntN.{*ℤ_comm}
use borrow.Author.Differences.{ints}
use Rattle.frac_core.proofs.Integers.{add-zero_ℤ, cancel_mul, mul-opposite, mul-zero_ℤ, mul_positive}
use Rattle.problem_core.specs.declared.parts.Mark.{Mark}
use Rattle.problem_core.specs.declared.parts.Term.{Term}
use Rattle.problem_core.specs.declared.parts.RowName.TheVariants.{Held}
use Rattle.problem_core.specs.declared.parts.Side.TheVariants.{Under, Over}
use Rattle.problem_core.specs.Layout.{Line, Problem, Row, coefficient, line_of_row, lines, stay_lines, value_at}
use Rattle.problem_core.specs.Corners.{Point, Solves, equation, marks_of, one_column, place, place_of}
use Rattle.problem_core.proofs.Forms.{each-both, each-impl, value-plus, value-scaled}
use Rattle.problem_core.proofs.Corners.Tableaus.{unit_at}
use Rattle.problem_core.specs.Unfit.{IsWritingOf}
use Rattle.corner_laws.specs.Lifts.{HasOneIn, with_rows}
use Rattle.corner_laws.proofs.Counting.{IsSmall, bump, bump_one, moved, no_attr, sides_apart, still_solves, sum_3, unit_value}
use Rattle.corner_laws.proofs.WrittenValues.{contains_each}
use Rattle.corner_laws.proofs.ZeroColumns.{here-in}
use Rattle.frac_core.proofs.Numbers.{plus-none as no-more, cancel-scale as without-all}
use Rattle.corner_laws.proofs.RunSteps.FirstToLeave.{none_inside as inside-none}
use Rattle.frac_core.proofs.Bools.{count-other as cond_other, count-same as cond_same}

-- ---- lists of lines with a row more

pub each_drop : (P : Line → Type 0) (rows : List Row) (r : Row) (ls : List Line) → Each P (map line_of_row (rows ++ (r ∷ [])) ++ ls) → Each P (map line_of_row rows ++ ls) × P (line_of_row r)
each_drop P [] r ls h = (h.1, h.0)
each_drop P (s ∷ rows) r ls h = let e = each_drop P rows r ls h.1 in ((h.0, e.0), e.1)

pub each_put : (P : Line → Type 0) (rows : List Row) (r : Row) (ls : List Line) → Each P (map line_of_row rows ++ ls) → P (line_of_row r) → Each P (map line_of_row (rows ++ (r ∷ [])) ++ ls)
each_put P [] r ls h here = (here, h)
each_put P (s ∷ rows) r ls h here = (h.0, each_put P rows r ls h.1 here)

pub each_marks : (P : ℕ → Type 0) (ls : List Line) → Each (λ l. P (place_of l.name Under) × P (place_of l.name Over)) ls → Each (λ m. P (place m)) (marks_of ls)
each_marks P [] h = tt
each_marks P (l ∷ ls) h = (h.0.0, (h.0.1, each_marks P ls h.1))

-- ---- a point for one row more

-- the row's marks are no others' and come before the attributes
pub record IsNewRow (p : Problem) (r : Row) : Type 0 where
  pub small : IsSmall (Held r.id)
  pub den_positive : 0 < r.constant.den
  pub fresh : Each (λ l. place_of l.name Over ≢ place_of (Held r.id) Over) (lines p)

over-none : (l : Line) (r : Row) → IsSmall (Held r.id) → place_of l.name Over ≢ place_of (Held r.id) Over → coefficient (place_of (Held r.id) Over) (equation l) ≡ pos 0
over-none l r small ne =
    sum_3 _ _ _ _ _ _ _ _
    (cond_other (place_of l.name Under) (place_of (Held r.id) Over) (pos l.den) (λ e. sides_apart (Held r.id) l.name (sym e)))
    (cond_other (place_of l.name Over) (place_of (Held r.id) Over) (neg_ℤ (pos l.den)) ne)
    (cond_other one_column (place_of (Held r.id) Over) (neg_ℤ l.num) (λ e. omega (arith, small, e)))
    (no_attr (place_of (Held r.id) Over) l.den l.form (omega (arith, small)))

over-own : (r : Row) → IsSmall (Held r.id) → coefficient (place_of (Held r.id) Over) (equation (line_of_row r)) ≡ neg_ℤ (pos r.constant.den)
over-own r small =
    sum_3 _ _ _ _ _ _ _ _
    (cond_other (place_of (Held r.id) Under) (place_of (Held r.id) Over) (pos r.constant.den) (λ e. sides_apart (Held r.id) (Held r.id) (sym e)))
    (cond_same (place_of (Held r.id) Over) (place_of (Held r.id) Over) (neg_ℤ (pos r.constant.den)) refl)
    (cond_other one_column (place_of (Held r.id) Over) (neg_ℤ r.constant.num) (λ e. omega (arith, small, e)))
    (no_attr (place_of (Held r.id) Over) r.constant.den r.terms (omega (arith, small)))
    ∙ omega (arith, ints)

-- d times the numbers, and e more in one column
abbrev stretched : ℕ → ℤ → ℕ → (ℕ → ℤ) → ℕ → ℤ
stretched d e c x v = pos d *ℤ x v +ℤ e *ℤ unit_at c v

stretched_value : (d : ℕ) (e : ℤ) (c : ℕ) (x : ℕ → ℤ) (form : List Term) → value_at (stretched d e c x) form ≡ pos d *ℤ value_at x form +ℤ e *ℤ coefficient c form
stretched_value d e c x form =
    value-plus (λ v. pos d *ℤ x v) (λ v. e *ℤ unit_at c v) form
    ∙ ap₂ ◌+ℤ◌ (value-scaled (pos d) x form) (value-scaled e (unit_at c) form ∙ ap (λ (z : ℤ). e *ℤ z) (unit_value c form))

stretched_one : (r : Row) (e : ℤ) (x : ℕ → ℤ) → IsSmall (Held r.id) → stretched r.constant.den e (place_of (Held r.id) Over) x one_column ≡ pos r.constant.den *ℤ x one_column
stretched_one r e x small = no-more (pos r.constant.den *ℤ x one_column) e (unit_at (place_of (Held r.id) Over) one_column) (cond_other one_column (place_of (Held r.id) Over) (pos 1) (λ q. omega (arith, small, q)))

-- the over mark takes what the row lacks
extended : (p : Problem) (r : Row) → IsNewRow p r → Point → Point
extended p r new x = record {
  num = stretched r.constant.den (value_at x.num (equation (line_of_row r))) (place_of (Held r.id) Over) x.num;
  positive = subst (λ (z : ℤ). pos 0 <ℤ z) (sym (stretched_one r (value_at x.num (equation (line_of_row r))) x.num new.small)) (mul_positive r.constant.den (x.num one_column) new.den_positive x.positive);
}

pub taken : (d : ℕ) (e k : ℤ) → k ≡ neg_ℤ (pos d) → pos d *ℤ e +ℤ e *ℤ k ≡ pos 0
taken d e k h = ap (λ (z : ℤ). pos d *ℤ e +ℤ z) (ap (λ (z : ℤ). e *ℤ z) h ∙ *ℤ_comm e (neg_ℤ (pos d))) ∙ mul-opposite (pos d) e

extended_solves : (p : Problem) (r : Row) (new : IsNewRow p r) (x : Point) → Solves p x → Solves (with_rows (r ∷ []) p) (extended p r new x)
unfolding extended
extended_solves p r new x h =
    let e : ℤ = value_at x.num (equation (line_of_row r)) in
    let c : ℕ = place_of (Held r.id) Over in
    All-from_recursion (λ l. value_at (stretched r.constant.den e c x.num) (equation l) ≡ pos 0) (lines (with_rows (r ∷ []) p))
    (each_put (λ l. value_at (stretched r.constant.den e c x.num) (equation l) ≡ pos 0) p.rows r (stay_lines 1001 p.stays)
    (each-impl (λ l. (value_at x.num (equation l) ≡ pos 0) × (place_of l.name Over ≢ c)) _ (lines p)
    (λ l k. stretched_value r.constant.den e c x.num (equation l) ∙ no-more (pos r.constant.den *ℤ value_at x.num (equation l)) e (coefficient c (equation l)) (over-none l r new.small k.1) ∙ ap (λ (z : ℤ). pos r.constant.den *ℤ z) k.0 ∙ mul-zero_ℤ (pos r.constant.den))
    (each-both _ _ (lines p) (recursion_from_All _ (lines p) h) new.fresh))
    (stretched_value r.constant.den e c x.num (equation (line_of_row r)) ∙ taken r.constant.den e (coefficient c (equation (line_of_row r))) (over-own r new.small)))

-- ---- a writing without the row

-- what the quantity is, and that it does not speak of the row's marks
pub record IsFormWithout (quantity : (ℕ → ℤ) → ℤ) (form : List Term) (r : Row) : Type 0 where
  pub is : (x : ℕ → ℤ) → quantity x ≡ value_at x form
  pub no_under : coefficient (place_of (Held r.id) Under) form ≡ pos 0
  pub no_over : coefficient (place_of (Held r.id) Over) form ≡ pos 0

raised-none : (d s : ℕ) (q q' f f' c k k' : ℤ) → 0 < d → q' ≡ q → f' ≡ f +ℤ c → k' ≡ k → pos d *ℤ (pos s *ℤ q -ℤ f) ≡ k → pos d *ℤ (pos s *ℤ q' -ℤ f') ≡ k' → c ≡ pos 0
raised-none d s q q' f f' c k k' above e g h a b =
    let same : pos s *ℤ q -ℤ f ≡ pos s *ℤ q' -ℤ f' = cancel_mul d (pos s *ℤ q -ℤ f) (pos s *ℤ q' -ℤ f') above (a ∙ sym h ∙ sym b) in
    let first : pos s *ℤ q' ≡ pos s *ℤ q = ap (λ (z : ℤ). pos s *ℤ z) e in
    omega (arith, ints, same, first, g)

bump_value : (r : Row) (form : List Term) → value_at (bump (Held r.id)) form ≡ coefficient (place_of (Held r.id) Under) form +ℤ coefficient (place_of (Held r.id) Over) form
bump_value r form = value-plus (unit_at (place_of (Held r.id) Under)) (unit_at (place_of (Held r.id) Over)) form ∙ ap₂ ◌+ℤ◌ (unit_value (place_of (Held r.id) Under) form) (unit_value (place_of (Held r.id) Over) form)

-- both marks of a row can grow together, so their coefficients cancel
pair-none : (p : Problem) (at : List Mark) (quantity : (ℕ → ℤ) → ℤ) (own form : List Term) (scale : ℕ) (num : ℤ) (den : ℕ) (r : Row) (x : Point) → IsSmall (Held r.id) → Solves p x → IsFormWithout quantity own r → IsWritingOf p at quantity scale form num den
    → coefficient (place_of (Held r.id) Under) form +ℤ coefficient (place_of (Held r.id) Over) form ≡ pos 0
unfolding moved
pair-none p at quantity own form scale num den r x small solves of w =
    let y : Point = moved x (Held r.id) small in
    let there : Solves p y =
    All-from_recursion (λ l. value_at (λ v. x.num v +ℤ bump (Held r.id) v) (equation l) ≡ pos 0) (lines p)
    (each-impl (λ l. value_at x.num (equation l) ≡ pos 0) _ (lines p) (λ l h. still_solves x (Held r.id) small l h) (recursion_from_All _ (lines p) solves)) in
    let same : quantity (λ v. x.num v +ℤ bump (Held r.id) v) ≡ quantity x.num =
    of.is (λ v. x.num v +ℤ bump (Held r.id) v) ∙ value-plus x.num (bump (Held r.id)) own ∙ ap (λ (z : ℤ). value_at x.num own +ℤ z) (bump_value r own ∙ ap₂ ◌+ℤ◌ of.no_under of.no_over) ∙ add-zero_ℤ (value_at x.num own) ∙ sym (of.is x.num) in
    raised-none den scale (quantity x.num) (quantity (λ v. x.num v +ℤ bump (Held r.id) v)) (value_at x.num form) (value_at (λ v. x.num v +ℤ bump (Held r.id) v) form) (coefficient (place_of (Held r.id) Under) form +ℤ coefficient (place_of (Held r.id) Over) form)
    (pos scale *ℤ (num *ℤ x.num one_column)) (pos scale *ℤ (num *ℤ (x.num one_column +ℤ bump (Held r.id) one_column))) w.den_positive same
    (value-plus x.num (bump (Held r.id)) form ∙ ap (λ (z : ℤ). value_at x.num form +ℤ z) (bump_value r form))
    (ap (λ (z : ℤ). pos scale *ℤ (num *ℤ z)) (ap (λ (z : ℤ). x.num one_column +ℤ z) (bump_one (Held r.id) small) ∙ add-zero_ℤ (x.num one_column)))
    (w.holds x solves) (w.holds y there)

first-none : (a b : ℤ) → a +ℤ b ≡ pos 0 → (a ≡ pos 0) ⊎ (b ≡ pos 0) → (a ≡ pos 0) × (b ≡ pos 0)
first-none a b e (inl h) = (h, omega (arith, ints, e, h))
first-none a b e (inr h) = (omega (arith, ints, e, h), h)

marks-none : (p : Problem) (at : List Mark) (quantity : (ℕ → ℤ) → ℤ) (own form : List Term) (scale : ℕ) (num : ℤ) (den : ℕ) (r : Row) (x : Point) → IsSmall (Held r.id) → Solves p x → IsFormWithout quantity own r → IsWritingOf p at quantity scale form num den → HasOneIn at r
    → (coefficient (place_of (Held r.id) Under) form ≡ pos 0) × (coefficient (place_of (Held r.id) Over) form ≡ pos 0)
marks-none p at quantity own form scale num den r x small solves of w one =
    first-none _ _ (pair-none p at quantity own form scale num den r x small solves of w)
    (elim one [
      | inl i ↦ inl (inside-none p at form (place_of (Held r.id) Under) w.outside i)
      | inr i ↦ inr (inside-none p at form (place_of (Held r.id) Over) w.outside i)
    ])

-- the marks of the problem with the row are those without it and its own two
mark-before : (p : Problem) (r : Row) (v : ℕ) → Contains (map place (marks_of (lines (with_rows (r ∷ []) p)))) v → Contains (map place (marks_of (lines p))) v ⊎ ((v ≡ place_of (Held r.id) Under) ⊎ (v ≡ place_of (Held r.id) Over))
mark-before p r v is =
    contains_each (λ c. Contains (map place (marks_of (lines p))) c ⊎ ((c ≡ place_of (Held r.id) Under) ⊎ (c ≡ place_of (Held r.id) Over))) (marks_of (lines (with_rows (r ∷ []) p))) v
    (each_marks (λ c. Contains (map place (marks_of (lines p))) c ⊎ ((c ≡ place_of (Held r.id) Under) ⊎ (c ≡ place_of (Held r.id) Over))) (lines (with_rows (r ∷ []) p))
    (each_put _ p.rows r (stay_lines 1001 p.stays)
    (each-impl (λ l. Contains (map place (marks_of (lines p))) (place_of l.name Under) × Contains (map place (marks_of (lines p))) (place_of l.name Over)) _ (lines p) (λ l h. (inl h.0, inl h.1)) (here-in (lines p)))
    (inr (inl refl), inr (inr refl)))) is

old-mark : (p : Problem) (r : Row) (form : List Term) (v : ℕ) → coefficient v form ≢ pos 0 → coefficient (place_of (Held r.id) Under) form ≡ pos 0 → coefficient (place_of (Held r.id) Over) form ≡ pos 0 → Contains (map place (marks_of (lines (with_rows (r ∷ []) p)))) v → Contains (map place (marks_of (lines p))) v
old-mark p r form v some u o is =
    elim (mark-before p r v is) [
      | inl h ↦ h
      | inr (inl e) ↦ absurd (some (ap (λ (c : ℕ). coefficient c form) e ∙ u))
      | inr (inr e) ↦ absurd (some (ap (λ (c : ℕ). coefficient c form) e ∙ o))
    ]

pub fewer_rows : (p : Problem) (at : List Mark) (quantity : (ℕ → ℤ) → ℤ) (own form : List Term) (scale : ℕ) (num : ℤ) (den : ℕ) (r : Row) (x : Point) → IsNewRow p r → Solves (with_rows (r ∷ []) p) x → IsFormWithout quantity own r → HasOneIn at r → IsWritingOf (with_rows (r ∷ []) p) at quantity scale form num den → IsWritingOf p at quantity scale form num den
unfolding extended
fewer_rows p at quantity own form scale num den r x new solves of one w =
    let none = marks-none (with_rows (r ∷ []) p) at quantity own form scale num den r x new.small solves of w one in
    let d : ℕ = r.constant.den in
    let c : ℕ = place_of (Held r.id) Over in
    record {
      scale_positive = w.scale_positive;
      den_positive = w.den_positive;
      outside = λ v some. let o = w.outside v some in (old-mark p r form v some none.0 none.1 o.0, o.1);
      lowest = w.lowest;
      holds = λ y here.
          let e : ℤ = value_at y.num (equation (line_of_row r)) in
          let all = w.holds (extended p r new y) (extended_solves p r new y here) in
          let value : (f : List Term) → coefficient c f ≡ pos 0 → value_at (stretched d e c y.num) f ≡ pos d *ℤ value_at y.num f = λ f z. stretched_value d e c y.num f ∙ no-more (pos d *ℤ value_at y.num f) e (coefficient c f) z in
          without-all d den scale (quantity y.num) (value_at y.num form) num (y.num one_column) new.den_positive
          (sym (ap₂ (λ (a b : ℤ). pos den *ℤ (pos scale *ℤ a -ℤ b)) (of.is (stretched d e c y.num) ∙ value own of.no_over ∙ ap (λ (z : ℤ). pos d *ℤ z) (sym (of.is y.num))) (value form none.1))
          ∙ all ∙ ap (λ (z : ℤ). pos scale *ℤ (num *ℤ z)) (stretched_one r e y.num new.small));
    }
