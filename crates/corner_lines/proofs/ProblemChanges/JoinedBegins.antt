-- Rows that have joined one by one are where a path begins.
use Rattle.std.proofs.Common.{◌≡◌, ◌∙◌, ℕ, zero, suc, ◌<◌, ◌++◌, List, [], ◌∷◌, map, ℤ, pos, negsuc, ◌*ℤ◌, neg_ℤ, ◌<ℤ◌, ◌≤ℤ◌, mul-pos, ◌*◌, refl, sym, ap, arith, Contains, inl, inr, ◌⊎◌}
use Rattle.std.specs.List.{AllByRecursion as Each, AllZip}
use Rattle.std.proofs.lemmas.List.Elements.{recursion_from_All, All-from_recursion}
use lib.IntN.{*ℤ_comm}
use borrow.Author.Differences.{ints}
use Rattle.frac_core.proofs.Integers.{mul_assoc_ℤ, sign_cases, zero-mul_ℤ, zero_from_mul}
use Rattle.problem_core.specs.declared.parts.RowName.TheVariants.{Held}
use Rattle.problem_core.specs.declared.parts.Side.{Side}
use Rattle.problem_core.specs.declared.parts.Side.TheVariants.{Under, Over}
use Rattle.problem_core.specs.declared.parts.Mark.{Mark}
use Rattle.problem_core.specs.Layout.{Problem, Row, lines}
use Rattle.problem_core.specs.Kept.{IsWhole}
use Rattle.problem_core.specs.Changes.Begins.{BeginsWith, IsJoined}
use Rattle.problem_core.specs.Corners.{Agree, IsCorner, IsIn, Point, SameMarks, StandsAt, marks_of, one_column, place, place_of}
use Rattle.corner_laws.proofs.Rays.{cancel-right}
use Rattle.corner_laws.proofs.WrittenValues.{contains_each, nothing_outside}
use Rattle.corner_lines.specs.LineEquations.{HasValue}
use Rattle.corner_lines.specs.Joins.{IsJoinedBy, with_row}
use Rattle.corner_lines.proofs.ProblemChanges.JoinedRows.{fresh-mark, in-parts, mark-grows, without-row}
use Rattle.frac_core.proofs.Numbers.{as-natural as above-zero}

pub in-left : (c : ℕ) (xs ys : List Mark) → IsIn c xs → IsIn c (xs ++ ys)
in-left c [] ys (k, within, is) = absurd (omega (arith, within))
in-left c (x ∷ xs) ys (zero, within, is) = (0, omega arith, is)
in-left c (x ∷ xs) ys (suc k, within, is) = let i = in-left c xs ys (k, omega (arith, within), is) in (suc i.0, omega (arith, i.1), i.2)

pub in-right : (c : ℕ) (xs ys : List Mark) → IsIn c ys → IsIn c (xs ++ ys)
in-right c [] ys i = i
in-right c (x ∷ xs) ys i = let j = in-right c xs ys i in (suc j.0, omega (arith, j.1), j.2)

pub in-either : (c : ℕ) (xs ys : List Mark) → IsIn c (xs ++ ys) → IsIn c xs ⊎ IsIn c ys
in-either c [] ys i = inr i
in-either c (x ∷ xs) ys (zero, within, is) = inl (0, omega arith, is)
in-either c (x ∷ xs) ys (suc k, within, is) = elim (in-either c xs ys (k, omega (arith, within), is)) [
  | inl i ↦ inl (suc i.0, omega (arith, i.1), i.2)
  | inr i ↦ inr i
]

pub each-of-all : (P : ℕ → Type 0) (ms : List Mark) → ((c : ℕ) → IsIn c ms → P c) → Each (λ m. P (place m)) ms
each-of-all P [] f = tt
each-of-all P (m ∷ ms) f = (f (place m) (0, omega arith, refl), each-of-all P ms (λ c i. f c (suc i.0, omega (arith, i.1), i.2)))

pub nowhere : (c : ℕ) → IsIn c [] → ⊥
nowhere c (k, within, is) = absurd (omega (arith, within))

-- one mark more on both sides
same-more : (at kept news : List Mark) (m : Mark) → SameMarks at (kept ++ (news ++ [])) → SameMarks (at ++ (m ∷ [])) (kept ++ ((news ++ (m ∷ [])) ++ []))
same-more at kept news m same = (
  All-from_recursion (λ n. IsIn (place n) (kept ++ ((news ++ (m ∷ [])) ++ []))) (at ++ (m ∷ []))
      (each-of-all (λ c. IsIn c (kept ++ ((news ++ (m ∷ [])) ++ []))) (at ++ (m ∷ []))
      (λ c i. elim (in-either c at (m ∷ []) i) [
        | inl a ↦ elim (in-either c kept (news ++ []) (contains_each (λ v. IsIn v (kept ++ (news ++ []))) at c (recursion_from_All (λ n. IsIn (place n) (kept ++ (news ++ []))) at same.0) a)) [
          | inl k ↦ in-left c kept ((news ++ (m ∷ [])) ++ []) k
          | inr n ↦ elim (in-either c news [] n) [
            | inl k ↦ in-right c kept ((news ++ (m ∷ [])) ++ []) (in-left c (news ++ (m ∷ [])) [] (in-left c news (m ∷ []) k))
            | inr k ↦ absurd (nowhere c k)
          ]
        ]
        | inr a ↦ in-right c kept ((news ++ (m ∷ [])) ++ []) (in-left c (news ++ (m ∷ [])) [] (in-right c news (m ∷ []) a))
      ])),
  All-from_recursion (λ n. IsIn (place n) (at ++ (m ∷ []))) (kept ++ ((news ++ (m ∷ [])) ++ []))
      (each-of-all (λ c. IsIn c (at ++ (m ∷ []))) (kept ++ ((news ++ (m ∷ [])) ++ []))
      (λ c i. elim (in-either c kept ((news ++ (m ∷ [])) ++ []) i) [
        | inl k ↦ in-left c at (m ∷ []) (before c (in-left c kept (news ++ []) k))
        | inr n ↦ elim (in-either c (news ++ (m ∷ [])) [] n) [
          | inl k ↦ elim (in-either c news (m ∷ []) k) [
            | inl j ↦ in-left c at (m ∷ []) (before c (in-right c kept (news ++ []) (in-left c news [] j)))
            | inr j ↦ in-right c at (m ∷ []) j
          ]
          | inr k ↦ absurd (nowhere c k)
        ]
      ])),
)
  where
    before : (c : ℕ) → IsIn c (kept ++ (news ++ [])) → IsIn c at
    before c i = contains_each (λ v. IsIn v at) (kept ++ (news ++ [])) c (recursion_from_All (λ n. IsIn (place n) at) (kept ++ (news ++ [])) same.1) i

-- signs are the same where two points agree
not-below : (x y a b : ℤ) → pos 0 <ℤ a → pos 0 <ℤ b → x *ℤ b ≡ y *ℤ a → pos 0 ≤ℤ x → pos 0 ≤ℤ y
not-below x (pos n) a b up over e h = omega (arith, ints)
not-below (negsuc m) (negsuc n) a b up over e h = absurd (omega (arith, ints, h))
not-below (pos m) (negsuc n) (pos a) (pos b) up over e h = absurd (lower (m * b) (a * suc n) (let up2 : 0 < a = omega (arith, ints, up) in mul-pos up2 (omega arith)) (e ∙ *ℤ_comm (negsuc n) (pos a) ∙ times-neg a n))
  where
    times-neg : (a n : ℕ) → pos a *ℤ negsuc n ≡ neg_ℤ (pos (a * suc n))
    times-neg a n = omega (arith, ints)

    lower : (p q : ℕ) → 0 < q → pos p ≡ neg_ℤ (pos q) → ⊥
    lower p q h e = absurd (omega (arith, ints, h, e))
not-below x (negsuc n) (negsuc a) b up over e h = absurd up.lt
not-below x (negsuc n) (pos a) (negsuc b) up over e h = absurd over.lt

above-zero-too : (x y a b : ℤ) → pos 0 <ℤ a → pos 0 <ℤ b → x *ℤ b ≡ y *ℤ a → pos 0 <ℤ x → pos 0 <ℤ y
above-zero-too x y a b up over e h =
    let low : pos 0 ≤ℤ y = not-below x y a b up over e (omega (arith, ints, h)) in
    elim (sign_cases y) [
      | inl z ↦ absurd (gone x b over h (e ∙ ap (λ (t : ℤ). t *ℤ a) z ∙ zero-mul_ℤ a))
      | inr (inl k) ↦ k
      | inr (inr k) ↦ absurd (omega (arith, ints, low, k))
    ]
  where
    gone : (x b : ℤ) → pos 0 <ℤ b → pos 0 <ℤ x → x *ℤ b ≡ pos 0 → ⊥
    gone x b over h e = let g = above-zero b over in let z : x ≡ pos 0 = zero_from_mul g.0 x g.1 (*ℤ_comm (pos g.0) x ∙ ap (λ (t : ℤ). x *ℤ t) (sym g.2) ∙ e) in absurd (omega (arith, ints, z, h))

zip-moves : (x y : Point) (joined : List Row) (news : List Mark) → Each (λ m. Agree (place m) x y) news → AllZip (IsJoined x) joined news → AllZip (IsJoined y) joined news
zip-moves x y [] [] a z = tt
zip-moves x y [] (m ∷ news) a z = absurd z
zip-moves x y (r ∷ joined) [] a z = absurd z
zip-moves x y (r ∷ joined) (m ∷ news) a (inl (e, up), z) = (inl (e, not-below (x.num (place m)) (y.num (place m)) (x.num one_column) (y.num one_column) x.positive y.positive a.0 up), zip-moves x y joined news a.1 z)
zip-moves x y (r ∷ joined) (m ∷ news) a (inr (e, up), z) = (inr (e, above-zero-too (x.num (place m)) (y.num (place m)) (x.num one_column) (y.num one_column) x.positive y.positive a.0 up), zip-moves x y joined news a.1 z)

zip-more : (x : Point) (joined : List Row) (news : List Mark) (r : Row) (m : Mark) → AllZip (IsJoined x) joined news → IsJoined x r m → AllZip (IsJoined x) (joined ++ (r ∷ [])) (news ++ (m ∷ []))
zip-more x [] [] r m z j = (j, tt)
zip-more x [] (n ∷ news) r m z j = absurd z
zip-more x (s ∷ joined) [] r m z j = absurd z
zip-more x (s ∷ joined) (n ∷ news) r m z j = (z.0, zip-more x joined news r m z.1 j)

stands-before : (p : Problem) (at : List Mark) (r : Row) (m : Mark) (side : Side) (y : Point) → place m ≡ place_of (Held r.id) side → IsWhole (with_row r p) → StandsAt (with_row r p) (at ++ (m ∷ [])) y → StandsAt p at y
stands-before p at r m side y is whole stands = (
  without-row p r y stands.0,
  All-from_recursion (λ n. (IsIn (place n) at → ⊥) → y.num (place n) ≡ pos 0) (marks_of (lines p))
      (each-of-all (λ c. (IsIn c at → ⊥) → y.num c ≡ pos 0) (marks_of (lines p))
      (λ c mark out. nothing_outside (with_row r p) (at ++ (m ∷ [])) y c stands (mark-grows p r c mark)
      (λ i. elim (in-parts at m c i) [
        | inl j ↦ out j
        | inr e ↦ fresh-mark p r c side whole mark (e ∙ is)
      ]))),
)

-- both points stand at the corner without the row: the marks that have joined keep their signs
begins-at : (p : Problem) (kept at : List Mark) (joined : List Row) (r : Row) (m : Mark) (side : Side) (y : Point) → place m ≡ place_of (Held r.id) side → IsWhole (with_row r p) → IsCorner p at → BeginsWith p kept joined [] at → StandsAt (with_row r p) (at ++ (m ∷ [])) y → IsJoined y r m → BeginsWith (with_row r p) kept (joined ++ (r ∷ [])) [] (at ++ (m ∷ []))
begins-at p kept at joined r m side y is whole corner h stands j =
    let there = stands-before p at r m side y is whole stands in
    let agree : Each (λ n. Agree (place n) h.point y) h.news =
    each-of-all (λ c. Agree c h.point y) h.news
    (λ c i.
    let inside : IsIn c at = contains_each (λ v. IsIn v at) (kept ++ (h.news ++ [])) c (recursion_from_All (λ n. IsIn (place n) at) (kept ++ (h.news ++ [])) h.marks.1) (in-right c kept (h.news ++ []) (in-left c h.news [] i)) in
    let mark : Contains (map place (marks_of (lines p))) c = contains_each (λ v. Contains (map place (marks_of (lines p))) v) at c (recursion_from_All (λ n. Contains (map place (marks_of (lines p))) (place n)) at corner.marks) inside in
    agree-both (h.point.num c) (y.num c) (corner.point.num c) (h.point.num one_column) (y.num one_column) (corner.point.num one_column) corner.point.positive
    (contains_each (λ v. Agree v corner.point h.point) (marks_of (lines p)) c (recursion_from_All (λ n. Agree (place n) corner.point h.point) (marks_of (lines p)) (corner.marks_fixed h.point h.stands)) mark)
    (contains_each (λ v. Agree v corner.point y) (marks_of (lines p)) c (recursion_from_All (λ n. Agree (place n) corner.point y) (marks_of (lines p)) (corner.marks_fixed y there)) mark)) in
    record {
      news = h.news ++ (m ∷ []);
      marks = same-more at kept h.news m h.marks;
      point = y;
      stands = stands;
      each = zip-more y joined h.news r m (zip-moves h.point y joined h.news agree h.each) j;
    }
  where
    agree-both : (x y z a b c : ℤ) → pos 0 <ℤ c → z *ℤ a ≡ x *ℤ c → z *ℤ b ≡ y *ℤ c → x *ℤ b ≡ y *ℤ a
    agree-both x y z a b c above e f =
        let one : (x *ℤ b) *ℤ c ≡ (z *ℤ a) *ℤ b = mul_assoc_ℤ x b c ∙ ap (λ (t : ℤ). x *ℤ t) (*ℤ_comm b c) ∙ sym (mul_assoc_ℤ x c b) ∙ ap (λ (t : ℤ). t *ℤ b) (sym e) in
        let two : (y *ℤ a) *ℤ c ≡ (z *ℤ b) *ℤ a = mul_assoc_ℤ y a c ∙ ap (λ (t : ℤ). y *ℤ t) (*ℤ_comm a c) ∙ sym (mul_assoc_ℤ y c a) ∙ ap (λ (t : ℤ). t *ℤ a) (sym f) in
        let three : (z *ℤ a) *ℤ b ≡ (z *ℤ b) *ℤ a = mul_assoc_ℤ z a b ∙ ap (λ (t : ℤ). z *ℤ t) (*ℤ_comm a b) ∙ sym (mul_assoc_ℤ z b a) in
        cancel-right (x *ℤ b) (y *ℤ a) c above (one ∙ three ∙ sym two)

pub begins_more : (p : Problem) (kept at : List Mark) (joined : List Row) (r : Row) (m : Mark) (num : ℤ) (den : ℕ) → IsWhole (with_row r p) → IsCorner p at → BeginsWith p kept joined [] at → HasValue (with_row r p) (at ++ (m ∷ [])) (λ x. x (place m)) num den → 0 < den → IsJoinedBy r m num → BeginsWith (with_row r p) kept (joined ++ (r ∷ [])) [] (at ++ (m ∷ []))
begins_more p kept at joined r m num den whole corner h (y, stands, value) above (inl (e, up)) =
    begins-at p kept at joined r m Over y (ap place e) whole corner h stands
    (inl (e, not-below num (y.num (place m)) (pos den) (y.num one_column) (omega (arith, ints, above)) y.positive (sym value) up))
begins_more p kept at joined r m num den whole corner h (y, stands, value) above (inr (e, up)) =
    begins-at p kept at joined r m Under y (ap place e) whole corner h stands
    (inr (e, above-zero-too num (y.num (place m)) (pos den) (y.num one_column) (omega (arith, ints, above)) y.positive (sym value) up))

pub begins_none : (p : Problem) (at : List Mark) → IsCorner p at → BeginsWith p at [] [] at
begins_none p at corner = record {
  news = [];
  marks = (
    All-from_recursion (λ n. IsIn (place n) (at ++ ([] ++ []))) at (each-of-all (λ c. IsIn c (at ++ ([] ++ []))) at (λ c i. in-left c at ([] ++ []) i)),
    All-from_recursion (λ n. IsIn (place n) at) (at ++ ([] ++ [])) (each-of-all (λ c. IsIn c at) (at ++ ([] ++ [])) (λ c i. elim (in-either c at ([] ++ []) i) [
      | inl k ↦ k
      | inr k ↦ absurd (nowhere c k)
    ])),
  );
  point = corner.point;
  stands = corner.stands;
  each = tt;
}
