-- The order of a corner's marks is free.
use Rattle.std.proofs.Common.{◌≡◌, ◌≢◌, ◌∙◌, ℕ, zero, suc, ◌+◌, ◌≤◌, Bool, cond, nat_eq, List, [], ◌∷◌, length, map, ℤ, pos, sym, ap, subst, arith, All, AllPairs, Contains, inl, inr, eq-eqb, ne_eqb}
use Rattle.std.specs.List.{AllByRecursion as Each}
use Rattle.std.proofs.lemmas.Bool.{cases_eq}
use Rattle.std.proofs.lemmas.List.Elements.{recursion_from_All, All-from_recursion}
use Rattle.problem_core.specs.declared.parts.Mark.{Mark}
use Rattle.problem_core.specs.declared.parts.RowName.{RowName}
use Rattle.problem_core.specs.Layout.{Problem, lines}
use Rattle.problem_core.specs.Corners.{IsCorner, IsIn, Point, SameMarks, StandsAt, marks_of, place, Swap, exchanged}
use Rattle.problem_core.specs.Rays.{HasRays}
use Rattle.problem_core.proofs.Forms.{each-both, each-impl}
use Rattle.corner_laws.proofs.Counting.{head_pairs}
use Rattle.corner_laws.proofs.WrittenValues.{contains_each}
use Rattle.corner_lines.specs.LineEquations.{IsLineEquation, IsOutsideLine}
use Rattle.corner_laws.proofs.RunSteps.RunPaths.{contains_in as over-there}
use Rattle.frac_core.proofs.Lists.{pairs-rest as tail_pairs}
use Rattle.corner_laws.proofs.Exchanged.{exchanged_in}
use Rattle.problem_core.proofs.Marks.{entered-in, in-list, kept-in}

-- ---- as many marks

-- the marks without the first one at this place
unfoldable pub without : ℕ → List Mark → List Mark
without c [] = []
without c (m ∷ ms) = cond (nat_eq (place m) c) ms (m ∷ without c ms)

without-here : (c : ℕ) (m : Mark) (ms : List Mark) → place m ≡ c → without c (m ∷ ms) ≡ ms
unfolding without
without-here c m ms e = ap (λ (b : Bool). cond b ms (m ∷ without c ms)) (eq-eqb (place m) c e)

without-later : (c : ℕ) (m : Mark) (ms : List Mark) → place m ≢ c → without c (m ∷ ms) ≡ m ∷ without c ms
unfolding without
without-later c m ms n = ap (λ (b : Bool). cond b ms (m ∷ without c ms)) (ne_eqb (place m) c n)

one-less : (c : ℕ) (ms : List Mark) → IsIn c ms → length (without c ms) + 1 ≡ length ms
one-less c [] (k, within, is) = absurd (omega (arith, within))
one-less c (m ∷ ms) i =
    elim (cases_eq (place m) c) [
      | inl e ↦ (let h : length (without c (m ∷ ms)) ≡ length ms = ap (λ (xs : List Mark). length xs) (without-here c m ms e) in omega (arith, h))
      | inr n ↦
          let h : length (without c (m ∷ ms)) ≡ suc (length (without c ms)) = ap (λ (xs : List Mark). length xs) (without-later c m ms n) in
          let k = one-less c ms (later i n) in
          omega (arith, h, k)
    ]
  where
    later : IsIn c (m ∷ ms) → place m ≢ c → IsIn c ms
    later (zero, within, is) n = absurd (n is)
    later (suc k, within, is) n = (k, omega (arith, within), is)

still-there : (c d : ℕ) (ms : List Mark) → IsIn d ms → d ≢ c → IsIn d (without c ms)
still-there c d [] (k, within, is) ne = absurd (omega (arith, within))
still-there c d (m ∷ ms) i ne =
    elim (cases_eq (place m) c) [
      | inl e ↦ subst (λ (xs : List Mark). IsIn d xs) (sym (without-here c m ms e)) (after i e)
      | inr n ↦ subst (λ (xs : List Mark). IsIn d xs) (sym (without-later c m ms n)) (kept i (λ j. still-there c d ms j ne))
    ]
  where
    after : IsIn d (m ∷ ms) → place m ≡ c → IsIn d ms
    after (zero, within, is) e = absurd (ne (sym is ∙ e))
    after (suc k, within, is) e = (k, omega (arith, within), is)

    kept : IsIn d (m ∷ ms) → (IsIn d ms → IsIn d (without c ms)) → IsIn d (m ∷ without c ms)
    kept (zero, within, is) f = (0, omega arith, is)
    kept (suc k, within, is) f = let i = f (k, omega (arith, within), is) in (suc i.0, omega (arith, i.1), i.2)

-- different marks that are all among others are no more than these
pub no-more : (xs ys : List Mark) → AllPairs (λ m n. place m ≢ place n) xs → Each (λ m. IsIn (place m) ys) xs → length xs ≤ length ys
no-more [] ys apart h = omega arith
no-more (m ∷ xs) ys apart h =
    let less : length xs ≤ length (without (place m) ys) =
    no-more xs (without (place m) ys) (tail_pairs (λ (m n : Mark). place m ≢ place n) m xs apart)
    (each-impl (λ n. (place m ≢ place n) × IsIn (place n) ys) _ xs (λ n k. still-there (place m) (place n) ys k.1 (λ e. k.0 (sym e)))
    (each-both _ _ xs (recursion_from_All (λ n. place m ≢ place n) xs (head_pairs (λ (m n : Mark). place m ≢ place n) m xs apart)) h.1)) in
    let count = one-less (place m) ys h.0 in
    omega (arith, less, count)

-- ---- what holds in the other order

pub stands-there : (p : Problem) (a b : List Mark) (y : Point) → All (λ m. IsIn (place m) b) a → StandsAt p a y → StandsAt p b y
stands-there p a b y h stands = (
  stands.0,
  All-from_recursion (λ m. (IsIn (place m) b → ⊥) → y.num (place m) ≡ pos 0) (marks_of (lines p))
      (each-impl (λ m. (IsIn (place m) a → ⊥) → y.num (place m) ≡ pos 0) _ (marks_of (lines p)) (λ m k out. k (λ i. out (over-there a b (place m) h i)))
      (recursion_from_All (λ m. (IsIn (place m) a → ⊥) → y.num (place m) ≡ pos 0) (marks_of (lines p)) stands.1)),
)

pub same_corner : (p : Problem) (a b : List Mark) → SameMarks a b → AllPairs (λ m n. place m ≢ place n) b → IsCorner p a → IsCorner p b
same_corner p a b same apart corner = record {
  count = (let more = no-more a b corner.apart (recursion_from_All (λ m. IsIn (place m) b) a same.0) in
      let fewer = no-more b a apart (recursion_from_All (λ m. IsIn (place m) a) b same.1) in
      let e : length b ≡ length a = omega (arith, more, fewer) in e) ∙ corner.count;
  marks = All-from_recursion (λ m. Contains (map place (marks_of (lines p))) (place m)) b
      (each-impl (λ m. IsIn (place m) a) _ b (λ m i. contains_each (λ c. Contains (map place (marks_of (lines p))) c) a (place m) (recursion_from_All (λ m. Contains (map place (marks_of (lines p))) (place m)) a corner.marks) i) (recursion_from_All (λ m. IsIn (place m) a) b same.1));
  apart = apart;
  point = corner.point;
  stands = stands-there p a b corner.point same.0 corner.stands;
  marks_fixed = λ y stands. corner.marks_fixed y (stands-there p b a y same.1 stands);
  attrs_fixed = λ y stands. corner.attrs_fixed y (stands-there p b a y same.1 stands);
}

pub same_rays : (p : Problem) (a b : List Mark) → SameMarks a b → HasRays p a → HasRays p b
same_rays p a b same rays c is out =
    let r = rays c is (λ i. out (over-there a b c same.0 i)) in (
      r.0,
      record {
        holds = r.1.holds;
        still = r.1.still;
        here = r.1.here;
        other = All-from_recursion (λ m. (IsIn (place m) b → ⊥) → place m ≢ c → r.0 (place m) ≡ pos 0) (marks_of (lines p))
            (each-impl (λ m. (IsIn (place m) a → ⊥) → place m ≢ c → r.0 (place m) ≡ pos 0) _ (marks_of (lines p)) (λ m k gone ne. k (λ i. gone (over-there a b (place m) same.0 i)) ne)
            (recursion_from_All (λ m. (IsIn (place m) a → ⊥) → place m ≢ c → r.0 (place m) ≡ pos 0) (marks_of (lines p)) r.1.other));
      },
    )

pub same_line : (p : Problem) (a b : List Mark) (quantity : (ℕ → ℤ) → ℤ) (own : ℕ) (by : RowName → ℤ) (num : ℤ) (den : ℕ) → SameMarks a b → IsLineEquation p a quantity own by num den → IsLineEquation p b quantity own by num den
same_line p a b quantity own by num den same e = record {
  own_positive = e.own_positive;
  den_positive = e.den_positive;
  outside = All-from_recursion (λ l. by l.name ≢ pos 0 → IsOutsideLine b l.name) (lines p)
      (each-impl (λ l. by l.name ≢ pos 0 → IsOutsideLine a l.name) _ (lines p)
      (λ l h some. let out = h some in record { under = λ i. out.under (contains_each (λ v. IsIn v a) b _ (recursion_from_All (λ m. IsIn (place m) a) b same.1) i); over = λ i. out.over (contains_each (λ v. IsIn v a) b _ (recursion_from_All (λ m. IsIn (place m) a) b same.1) i) })
      (recursion_from_All (λ l. by l.name ≢ pos 0 → IsOutsideLine a l.name) (lines p) e.outside));
  holds = e.holds;
  lowest = e.lowest;
}

-- ---- after an exchange

exchanged-to : (s : Swap) (a b : List Mark) → All (λ m. IsIn (place m) b) a → IsIn (place s.leave) b → All (λ m. IsIn (place m) (exchanged s b)) (exchanged s a)
exchanged-to s a b h leaves =
    All-from_recursion (λ m. IsIn (place m) (exchanged s b)) (exchanged s a)
    (each-impl (λ m. IsIn (place m) (exchanged s a)) _ (exchanged s a)
    (λ m i. elim (exchanged_in s a (place m) i) [
      | inl e ↦ subst (λ (v : ℕ). IsIn v (exchanged s b)) (sym e) (entered-in s b leaves)
      | inr old ↦ kept-in s b (place m) (over-there a b (place m) h old.0) old.1
    ])
    (in-list (exchanged s a)))

pub same_exchanged : (s : Swap) (a b : List Mark) → SameMarks a b → IsIn (place s.leave) a → IsIn (place s.leave) b → SameMarks (exchanged s a) (exchanged s b)
same_exchanged s a b same x y = (exchanged-to s a b same.0 y, exchanged-to s b a same.1 x)
