-- The lines of a problem in another order of its stays: what doesn't read a line's level holds of them too.
use Rattle.std.proofs.Common.{◌≡◌, ℕ, ◌+◌, ◌≤◌, arith, Bool, true, false, cond, nat_eq, not, List, [], ◌∷◌, ◌++◌, refl, filter, map, pos, sym, subst}
use Rattle.std.specs.List.{AllByRecursion as Each}
use Rattle.std.specs.Prelude.{All, Contains}
use Rattle.std.proofs.lemmas.List.Elements.{recursion_from_All, All-from_recursion}
use Rattle.problem_core.specs.declared.parts.Mark.{Mark}
use Rattle.problem_core.specs.declared.parts.Side.TheVariants.{Under, Over}
use Rattle.problem_core.specs.declared.parts.Stay.{Stay}
use Rattle.problem_core.specs.Layout.{Line, Problem, Row, line_of_row, line_of_stay, lines, stay_lines, value_at}
use Rattle.problem_core.specs.Corners.{Agree, IsCorner, IsIn, Point, Solves, StandsAt, attr_column, equation, marks_of, place, place_of}
use Rattle.stay_orders.specs.Orders.{fronted, is_of, with_first, with_front}
use Rattle.stay_orders.specs.Corners.{FrontedSolves, FrontedStands}
use Rattle.stay_orders.proofs.Orders.{behind, front_each, picked}

-- ---- back from an order

unpicked-by : {A : Type 0} (P : A → Type 0) (x : A) (xs ys : List A) (b : Bool) → Each P (cond b (x ∷ xs) xs) → Each P (cond (not b) (x ∷ ys) ys) → P x × (Each P xs × Each P ys)
unpicked-by P x xs ys true h g = (h.0, (h.1, g))
unpicked-by P x xs ys false h g = (g.0, (h, g.1))

-- what holds of each that a test picks, and of each that it doesn't, holds of each
unpicked : {A : Type 0} (P : A → Type 0) (f : A → Bool) (xs : List A) → Each P (filter f xs) → Each P (filter (λ x. not (f x)) xs) → Each P xs
unpicked P f [] h g = tt
unpicked P f (x ∷ xs) h g =
    let both = unpicked-by P x (filter f xs) (filter (λ y. not (f y)) xs) (f x) h g in
    (both.0, unpicked P f xs both.1.0 both.1.1)

left : {A : Type 0} (P : A → Type 0) (xs ys : List A) → Each P (xs ++ ys) → Each P xs
left P [] ys h = tt
left P (x ∷ xs) ys h = (h.0, left P xs ys h.1)

right : {A : Type 0} (P : A → Type 0) (xs ys : List A) → Each P (xs ++ ys) → Each P ys
right P [] ys h = h
right P (x ∷ xs) ys h = right P xs ys h.1

pub front_back : (P : Stay → Type 0) (attrs : List ℕ) (stays : List Stay) → Each P (with_front attrs stays) → Each P stays
front_back P [] stays h = h
front_back P (attr ∷ attrs) stays h =
    let rest = with_front attrs stays in
    front_back P attrs stays (unpicked P (is_of attr) rest
    (left P (filter (is_of attr) rest) (filter (λ s. not (is_of attr s)) rest) h)
    (right P (filter (is_of attr) rest) (filter (λ s. not (is_of attr s)) rest) h))

-- ---- lines

-- what holds of a stay's line at each level that may be a stay's
abbrev AtEach : (Line → Type 0) → Stay → Type 0
AtEach P s = (k : ℕ) → 1001 ≤ k → P (line_of_stay k s)

-- what doesn't tell the levels of stays apart
abbrev pub Unseen : (Line → Type 0) → Type 0
Unseen P = (j k : ℕ) (s : Stay) → 1001 ≤ j → 1001 ≤ k → P (line_of_stay j s) → P (line_of_stay k s)

to_lines : (P : Line → Type 0) (n : ℕ) (stays : List Stay) → 1001 ≤ n → Each (AtEach P) stays → Each P (stay_lines n stays)
to_lines P n [] above h = tt
to_lines P n (s ∷ stays) above h = (h.0 n above, to_lines P (n + 1) stays (omega (arith, above)) h.1)

from_lines : (P : Line → Type 0) (n : ℕ) (stays : List Stay) → 1001 ≤ n → Unseen P → Each P (stay_lines n stays) → Each (AtEach P) stays
from_lines P n [] above same h = tt
from_lines P n (s ∷ stays) above same h = ((λ k up. same n k s above up h.0), from_lines P (n + 1) stays (omega (arith, above)) same h.1)

pub lines_to : (P : Line → Type 0) → Unseen P → (attrs : List ℕ) (p : Problem) → Each P (lines p) → Each P (lines (fronted attrs p))
lines_to P same attrs p h =
    behind P (map line_of_row p.rows) (stay_lines 1001 (with_front attrs p.stays))
    (left P (map line_of_row p.rows) (stay_lines 1001 p.stays) h)
    (to_lines P 1001 (with_front attrs p.stays) (omega arith) (front_each (AtEach P) attrs p.stays
    (from_lines P 1001 p.stays (omega arith) same (right P (map line_of_row p.rows) (stay_lines 1001 p.stays) h))))

pub lines_back : (P : Line → Type 0) → Unseen P → (attrs : List ℕ) (p : Problem) → Each P (lines (fronted attrs p)) → Each P (lines p)
lines_back P same attrs p h =
    behind P (map line_of_row p.rows) (stay_lines 1001 p.stays)
    (left P (map line_of_row p.rows) (stay_lines 1001 (with_front attrs p.stays)) h)
    (to_lines P 1001 p.stays (omega arith) (front_back (AtEach P) attrs p.stays
    (from_lines P 1001 (with_front attrs p.stays) (omega arith) same
    (right P (map line_of_row p.rows) (stay_lines 1001 (with_front attrs p.stays)) h))))

-- ---- marks

abbrev Both : (Mark → Type 0) → Line → Type 0
Both P l = P (record { row = l.name; side = Under }) × P (record { row = l.name; side = Over })

marks_to : (P : Mark → Type 0) (ls : List Line) → Each (Both P) ls → Each P (marks_of ls)
marks_to P [] h = tt
marks_to P (l ∷ ls) h = (h.0.0, (h.0.1, marks_to P ls h.1))

marks_from : (P : Mark → Type 0) (ls : List Line) → Each P (marks_of ls) → Each (Both P) ls
marks_from P [] h = tt
marks_from P (l ∷ ls) h = ((h.0, h.1.0), marks_from P ls h.1.1)

both_unseen : (P : Mark → Type 0) → Unseen (Both P)
both_unseen P j k s above up h = h

pub all_marks_to : (P : Mark → Type 0) (attrs : List ℕ) (p : Problem) → All P (marks_of (lines p)) → All P (marks_of (lines (fronted attrs p)))
all_marks_to P attrs p h = All-from_recursion P (marks_of (lines (fronted attrs p)))
    (marks_to P (lines (fronted attrs p)) (lines_to (Both P) (both_unseen P) attrs p
    (marks_from P (lines p) (recursion_from_All P (marks_of (lines p)) h))))

pub all_marks_back : (P : Mark → Type 0) (attrs : List ℕ) (p : Problem) → All P (marks_of (lines (fronted attrs p))) → All P (marks_of (lines p))
all_marks_back P attrs p h = All-from_recursion P (marks_of (lines p))
    (marks_to P (lines p) (lines_back (Both P) (both_unseen P) attrs p
    (marks_from P (lines (fronted attrs p)) (recursion_from_All P (marks_of (lines (fronted attrs p))) h))))

-- ---- equations

abbrev Holds : Point → Line → Type 0
Holds x l = value_at x.num (equation l) ≡ pos 0

holds_unseen : (x : Point) → Unseen (Holds x)
holds_unseen x j k s above up h = h

pub solves : (attrs : List ℕ) (p : Problem) (x : Point) → FrontedSolves attrs p x
solves attrs p x = record {
  to = λ h. All-from_recursion (Holds x) (lines (fronted attrs p))
      (lines_to (Holds x) (holds_unseen x) attrs p (recursion_from_All (Holds x) (lines p) h));
  back = λ h. All-from_recursion (Holds x) (lines p)
      (lines_back (Holds x) (holds_unseen x) attrs p (recursion_from_All (Holds x) (lines (fronted attrs p)) h));
}

abbrev Still : List Mark → Point → Mark → Type 0
Still at x m = (IsIn (place m) at → ⊥) → x.num (place m) ≡ pos 0

pub stands : (attrs : List ℕ) (p : Problem) (at : List Mark) (x : Point) → FrontedStands attrs p at x
stands attrs p at x = record {
  to = λ h. ((solves attrs p x).to h.0, all_marks_to (Still at x) attrs p h.1);
  back = λ h. ((solves attrs p x).back h.0, all_marks_back (Still at x) attrs p h.1);
}

-- ---- corners

-- the mark is one of the problem's
abbrev IsOf : Problem → Mark → Type 0
IsOf p m = Contains (map place (marks_of (lines p))) (place m)

pub corner : (attrs : List ℕ) (p : Problem) (at : List Mark) → ((m : Mark) → IsOf p m → IsOf (fronted attrs p) m) → IsCorner p at → IsCorner (fronted attrs p) at
corner attrs p at there c = record {
  count = c.count;
  marks = λ k d within. there _ (c.marks k d within);
  apart = c.apart;
  point = c.point;
  stands = (stands attrs p at c.point).to c.stands;
  marks_fixed = λ y h. all_marks_to (λ m. Agree (place m) c.point y) attrs p (c.marks_fixed y ((stands attrs p at y).back h));
  attrs_fixed = λ y h. All-from_recursion (λ s. Agree (attr_column s.attr) c.point y) (with_front attrs p.stays)
      (front_each (λ s. Agree (attr_column s.attr) c.point y) attrs p.stays
      (recursion_from_All (λ s. Agree (attr_column s.attr) c.point y) p.stays (c.attrs_fixed y ((stands attrs p at y).back h))));
}
