-- Where paths begin: `x >= 5` joins the stay of x at 0, and leaves it again.
use Rattle.std.proofs.Common.{◌≡◌, ◌∙◌, zero, suc, Bool, true, false, cond, nat_eq, List, [], ◌∷◌, ◌++◌, pos, ◌≤ℤ◌, refl, sym, subst, arith, inl, inr, true≢false, eq-eqb}
use Rattle.std.specs.List.{AllZip}
use Rattle.std.proofs.lemmas.List.Elements.{All-from_recursion, recursion_from_All}
use Rattle.std.specs.List.{AllByRecursion as Each}
use Rattle.problem_core.specs.declared.parts.Mark.{Mark}
use Rattle.problem_core.specs.declared.parts.Side.{Side}
use Rattle.problem_core.specs.declared.parts.RowName.{RowName}
use Rattle.problem_core.specs.declared.parts.Side.TheVariants.{Under, Over}
use Rattle.problem_core.specs.declared.parts.RowName.TheVariants.{Held, Stay as StayOf}
use Rattle.problem_core.specs.Changes.Paths.{last_marks}
use Rattle.problem_core.specs.Corners.{Point, IsIn, StandsAt, SameMarks, Swap, one_column, place, place_of}
use Rattle.problem_core.specs.Changes.Begins.{IsFreeing, IsJoined, BeginsWith, ComesFrom, is_one_of, without_marks}
use Rattle.corner_laws.specs.Examples.{single, at_least, under_row, over_row}
use Rattle.corner_laws.proofs.Instances.PathExamples.{no, over-numbers, under_point, under-stands, over_point, over-stands, below-five}
use Rattle.problem_core.proofs.Marks.{kept-rows}

pub one-same : (m : Mark) → SameMarks (m ∷ []) (m ∷ [])
one-same m = (All-from_recursion (λ k. IsIn (place k) (m ∷ [])) (m ∷ []) ((0, omega arith, refl), tt), All-from_recursion (λ k. IsIn (place k) (m ∷ [])) (m ∷ []) ((0, omega arith, refl), tt))

-- the row joins where it is 5 below its bound, so with its under mark
pub begins_under : BeginsWith (single 5) [] (at_least 5 ∷ []) [] (under_row ∷ [])
begins_under = record {
  news = under_row ∷ [];
  marks = one-same under_row;
  point = under_point;
  stands = under-stands;
  each = (inr (refl, record { lt = tt }), tt);
}

one-in : (m n : Mark) → IsIn (place m) (n ∷ []) → place m ≡ place n
one-in m n (zero, within, is) = sym is
one-in m n (suc k, within, is) = absurd (omega (arith, within))

in-one : (m n : Mark) → SameMarks (m ∷ []) (n ∷ []) → place m ≡ place n
in-one m n both = one-in m n ((recursion_from_All (λ k. IsIn (place k) (n ∷ [])) (m ∷ []) both.0).0)

refused : (news : List Mark) (x : Point) → SameMarks (over_row ∷ []) (news ++ []) → StandsAt (single 5) (over_row ∷ []) x → AllZip (IsJoined x) (at_least 5 ∷ []) news → ⊥
refused [] x marks stands each = absurd each
refused (m ∷ []) x marks stands (inl (e, low), rest) = below-five (x.num one_column) (x.num 5) x.positive ((over-numbers x stands).over) (subst (λ (k : Mark). pos 0 ≤ℤ x.num (place k)) e low)
refused (m ∷ []) x marks stands (inr (e, low), rest) = no 5 4 (inr (omega arith)) (in-one over_row under_row (subst (λ (k : Mark). SameMarks (over_row ∷ []) (k ∷ [])) e marks))
refused (m ∷ n ∷ more) x marks stands each = absurd each.1

-- not with its over mark
pub begins_not_over : BeginsWith (single 5) [] (at_least 5 ∷ []) [] (over_row ∷ []) → ⊥
begins_not_over h = refused h.news h.point h.marks h.stands h.each

-- while it is still to join, its mark is over
pub begins_before : BeginsWith (single 5) [] [] (at_least 5 ∷ []) (over_row ∷ [])
begins_before = record {
  news = [];
  marks = one-same over_row;
  point = over_point;
  stands = over-stands;
  each = tt;
}

-- ---- a removal

empty-same : SameMarks [] []
empty-same = (All-from_recursion (λ k. IsIn (place k) []) [] tt, All-from_recursion (λ k. IsIn (place k) []) [] tt)

-- the leaving row's mark is inside, so nothing is exchanged, and it goes
pub comes_from : ComesFrom (single 5) (under_row ∷ []) (1 ∷ []) (1 ∷ []) []
comes_from = record {
  frees = [];
  each = All-from_recursion (IsFreeing (under_row ∷ []) (1 ∷ [])) [] tt;
  apart = λ i j d less within. absurd (omega (arith, within));
  exchanges = tt;
  same = tt;
  marks = empty-same;
}

cond-true : (b : Bool) → b ≡ cond b true false
cond-true true = refl
cond-true false = refl

name-four : (name : RowName) (side : Side) → place_of name side ≡ 4 → is_one_of (1 ∷ []) name ≡ true
name-four (Held id) Under e = sym (cond-true (nat_eq id 1)) ∙ eq-eqb id 1 (omega (arith, e))
name-four (Held id) Over e = absurd (omega (arith, e))
name-four (StayOf attr) Under e = absurd (omega (arith, e))
name-four (StayOf attr) Over e = absurd (omega (arith, e))

place-four : (ms : List Mark) → Each (λ m. is_one_of (1 ∷ []) m.row ≡ false) ms → IsIn 4 ms → ⊥
place-four [] h (k, within, is) = absurd (omega (arith, within))
place-four (m ∷ ms) h (zero, within, is) = absurd (true≢false (sym (name-four m.row m.side is) ∙ h.0))
place-four (m ∷ ms) h (suc k, within, is) = place-four ms h.1 (k, omega (arith, within), is)

-- its mark does not stay
pub comes_not_from : ComesFrom (single 5) (under_row ∷ []) (1 ∷ []) (1 ∷ []) (under_row ∷ []) → ⊥
comes_not_from h = place-four (without_marks (1 ∷ []) (last_marks (under_row ∷ []) h.frees)) (kept-rows (1 ∷ []) (last_marks (under_row ∷ []) h.frees)) ((recursion_from_All (λ k. IsIn (place k) (without_marks (1 ∷ []) (last_marks (under_row ∷ []) h.frees))) (under_row ∷ []) h.marks.0).0)
