-- A tableau with the problem's solutions has exactly one solution whose outside deviations are 0.
use Rattle.std.proofs.Common.{◌≡◌, ℕ, ◌*◌, ◌<◌, Bool, true, false, cond, nat_eq, List, [], ◌∷◌, ℤ, pos, ◌*ℤ◌, ◌<ℤ◌, sym, ap, subst, ◌∙◌, inl, inr, ◌⊎◌, arith, All, mul-pos, ne_eqb, true≢false}
use Rattle.std.specs.List.{AllByRecursion as Each}
use Rattle.std.proofs.lemmas.List.Elements.{recursion_from_All, All-from_recursion}
use Rattle.std.proofs.lemmas.Bool.{cases_eq}
use borrow.Author.Differences.{ints}
use Rattle.problem_core.specs.Layout.{Problem, lines, coefficient, value_at}
use Rattle.problem_core.specs.declared.parts.Mark.{Mark}
use Rattle.problem_core.specs.Corners.{Point, equation, StandsAt, IsIn, marks_of, place, attr_column, one_column}
use Rattle.frac_core.proofs.Integers.{mul-zero_ℤ}
use Rattle.problem_core.proofs.Forms.{each-impl, each-both, product-positive}
use Rattle.problem_core.proofs.Corners.Tableaus.{Basic, IsTableau, is_inside, HoldAll, solution, solution-HoldAll, solution-outside, whole, own, owns, unit_at}

abbrev pub is_place : List Mark → ℕ → Bool
is_place [] c = false
is_place (m ∷ ms) c = cond (nat_eq (place m) c) true (is_place ms c)

-- the rows are a tableau of the problem at the corner
pub record IsTableauOf (p : Problem) (inside : List Mark) (rows : List Basic) : Type 0 where
  pub table : IsTableau rows
  -- the same solutions
  pub solved : (n : ℕ → ℤ) → All (λ l. value_at n (equation l) ≡ pos 0) (lines p) → HoldAll n rows
  pub solves : (n : ℕ → ℤ) → HoldAll n rows → All (λ l. value_at n (equation l) ≡ pos 0) (lines p)
  -- the columns
  pub one_outside : is_inside rows one_column ≡ false
  pub marks_apart : All (λ m. (place m ≡ one_column → ⊥)) (marks_of (lines p))
  pub marks_inside : All (λ m. (IsIn (place m) inside × (is_inside rows (place m) ≡ true)) ⊎ ((IsIn (place m) inside → ⊥) × (is_inside rows (place m) ≡ false))) (marks_of (lines p))
  pub attrs_inside : All (λ s. is_inside rows (attr_column s.attr) ≡ true) p.stays
  -- a column that is neither inside nor a mark nor the one stands in no row
  pub others : (c : ℕ) → is_inside rows c ≡ false → ((c ≡ one_column) ⊎ (is_place (marks_of (lines p)) c ≡ true)) ⊎ Each (λ r. coefficient c r.form ≡ pos 0) rows

-- what holds of each mark holds at the column of one
pub at_place : (P : ℕ → Type 0) (ms : List Mark) (c : ℕ) → Each (λ m. P (place m)) ms → is_place ms c ≡ true → P c
at_place P [] c h e = absurd (true≢false (sym e))
at_place P (m ∷ ms) c h e =
    elim (cases_eq (place m) c) [
      | inl q ↦ subst P q h.0
      | inr q ↦ at_place P ms c h.1 (sym (ap (λ (b : Bool). cond b true (is_place ms c)) (ne_eqb (place m) c q)) ∙ e)
    ]

-- ---- the point at the corner

corner_num : List Basic → ℕ → ℤ
corner_num rows = solution rows (unit_at one_column)

corner_one : (p : Problem) (inside : List Mark) (rows : List Basic) → IsTableauOf p inside rows → corner_num rows one_column ≡ pos (whole rows * 1)
unfolding corner_num
corner_one p inside rows t = solution-outside rows (unit_at one_column) one_column t.one_outside

pub corner_point : (p : Problem) (inside : List Mark) (rows : List Basic) → IsTableauOf p inside rows → Point
corner_point p inside rows t = record {
  num = corner_num rows;
  positive = subst (λ (z : ℤ). pos 0 <ℤ z) (sym (corner_one p inside rows t)) (let h : 0 < whole rows * 1 = mul-pos (product-positive own rows (owns rows t.table)) (omega arith) in omega (arith, ints));
}

pub corner_point-StandsAt : (p : Problem) (inside : List Mark) (rows : List Basic) (t : IsTableauOf p inside rows) → StandsAt p inside (corner_point p inside rows t)
unfolding corner_point corner_num
corner_point-StandsAt p inside rows t = (
  t.solves (solution rows (unit_at one_column)) (solution-HoldAll rows (unit_at one_column) t.table),
  All-from_recursion _ _
      (each-impl (λ k. ((IsIn (place k) inside × (is_inside rows (place k) ≡ true)) ⊎ ((IsIn (place k) inside → ⊥) × (is_inside rows (place k) ≡ false))) × (place k ≡ one_column → ⊥)) (λ k. (IsIn (place k) inside → ⊥) → solution rows (unit_at one_column) (place k) ≡ pos 0) (marks_of (lines p))
      (λ k h o. elim h.0 [
        | inl a ↦ absurd (o a.0)
        | inr a ↦ solution-outside rows (unit_at one_column) (place k) a.1 ∙ ap (λ (b : Bool). pos (whole rows) *ℤ cond b (pos 1) (pos 0)) (ne_eqb (place k) one_column h.1) ∙ mul-zero_ℤ (pos (whole rows))
      ])
      (each-both _ _ (marks_of (lines p)) (recursion_from_All _ _ t.marks_inside) (recursion_from_All _ _ t.marks_apart))),
)
