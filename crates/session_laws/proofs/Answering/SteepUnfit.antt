-- Where the height is 2^30 times a width of 4096, it doesn't fit.
use Rattle.std.proofs.Common.{◌≡◌, ◌≢◌, ℕ, cond, nat_eq, List, [], ◌∷◌, map, ℤ, pos, negsuc, ◌+ℤ◌, ◌*ℤ◌, refl, arith, All, AllPairs, Contains}
use Rattle.std.specs.List.{AllByRecursion as Each}
use Rattle.std.proofs.lemmas.List.Elements.{All-from_recursion, recursion_from_All}
use borrow.Author.Differences.{ints}
use Rattle.problem_core.specs.declared.parts.Mark.{Mark}
use Rattle.problem_core.specs.declared.parts.RowName.TheVariants.{Held, Stay as StayOf}
use Rattle.problem_core.specs.declared.parts.Side.TheVariants.{Over}
use Rattle.problem_core.specs.declared.stops.Quantity.TheVariants.{Plain}
use Rattle.problem_core.specs.declared.stops.What.TheVariants.{Attr}
use Rattle.problem_core.specs.Layout.{Row, lines, value_at}
use Rattle.problem_core.specs.Corners.{Agree, IsCorner, IsIn, Point, StandsAt, attr_column, equation, marks_of, one_column, place}
use Rattle.corner_laws.specs.Laws.{AllFit}
use Rattle.corner_laws.proofs.Instances.Examples.{no_writing}
use Rattle.corner_laws.proofs.ZeroColumns.{not-in}
use Rattle.session_laws.specs.Answered.Examples.{steep, zero_stay}
use Rattle.session_laws.proofs.Answering.FirstBlocks.{pairs}
use Rattle.corner_laws.proofs.Instances.PathExamples.{same as agrees}
use Rattle.frac_core.proofs.Lists.{pairs-nil as pairs-none}

-- the width stands at its stay, and the height follows
abbrev at : List Mark
at = record { row = Held 3; side = Over } ∷ record { row = Held 4; side = Over } ∷ record { row = StayOf 1; side = Over } ∷ record { row = StayOf 2; side = Over } ∷ record { row = StayOf 4; side = Over } ∷ []

abbrev num : ℕ → ℤ
num v =
    cond (nat_eq v 13) (pos 4096) (cond (nat_eq v 17) (pos 4398046511104) (cond (nat_eq v 19) (pos 4398046511104)
    (cond (nat_eq v (attr_column 3)) (pos 4096) (cond (nat_eq v (attr_column 4)) (pos 4398046511104) (cond (nat_eq v one_column) (pos 1) (pos 0))))))

abbrev x : Point
x = record { num = num; positive = record { lt = tt } }

inside : (c : ℕ) (z : ℤ) → IsIn c at → (IsIn c at → ⊥) → z ≡ pos 0
inside c z i o = absurd (o i)

stands : StandsAt steep at x
stands = (
  All-from_recursion (λ l. value_at num (equation l) ≡ pos 0) (lines steep) (refl, (refl, (refl, (refl, (refl, (refl, (refl, (refl, (refl, tt))))))))),
  All-from_recursion (λ m. (IsIn (place m) at → ⊥) → num (place m) ≡ pos 0) (marks_of (lines steep)) (
    (λ o. refl),
    (
      (λ o. refl),
      (
        (λ o. refl),
        (
          (λ o. refl),
          (
            (λ o. refl),
            (
              inside 13 (pos 4096) (0, omega arith, refl),
              (
                (λ o. refl),
                (
                  inside 17 (pos 4398046511104) (1, omega arith, refl),
                  ((λ o. refl), ((λ o. refl), ((λ o. refl), ((λ o. refl), ((λ o. refl), ((λ o. refl), ((λ o. refl), ((λ o. refl), ((λ o. refl), (inside 19 (pos 4398046511104) (4, omega arith, refl), tt)))))))))),
                ),
              ),
            ),
          ),
        ),
      ),
    ),
  ),
)

-- ---- it is a corner

abbrev eq : ℤ → ℤ → ℤ → ℤ → ℤ → Type 0
eq u o k one a = pos 1 *ℤ u +ℤ (negsuc 0 *ℤ o +ℤ (k *ℤ one +ℤ (pos 1 *ℤ a +ℤ pos 0))) ≡ pos 0

-- an attribute whose row or stay has its marks outside
attr-none : (u o one a : ℤ) → u ≡ pos 0 → o ≡ pos 0 → eq u o (pos 0) one a → a ≡ pos 0 *ℤ one
attr-none u o one a e f h = omega (arith, ints, e, f, h)

attr-width : (u o one a : ℤ) → u ≡ pos 0 → o ≡ pos 0 → eq u o (negsuc 4095) one a → a ≡ pos 4096 *ℤ one
attr-width u o one a e f h = omega (arith, ints, e, f, h)

attr-height : (u o one a b : ℤ) → u ≡ pos 0 → o ≡ pos 0 → a ≡ pos 4096 *ℤ one → pos 1 *ℤ u +ℤ (negsuc 0 *ℤ o +ℤ (pos 0 *ℤ one +ℤ (pos 1073741824 *ℤ a +ℤ (negsuc 0 *ℤ b +ℤ pos 0)))) ≡ pos 0 → b ≡ pos 4398046511104 *ℤ one
attr-height u o one a b e f g h = omega (arith, ints, e, f, g, h)

-- the over mark of a row or stay whose under mark is outside
over-is : (u o one a t : ℤ) → u ≡ pos 0 → a ≡ t → eq u o (pos 0) one a → o ≡ t
over-is u o one a t e f h = omega (arith, ints, e, f, h)

none-is : (z one : ℤ) → z ≡ pos 0 → z ≡ pos 0 *ℤ one
none-is z one e = omega (arith, ints, e)

module _ (y : Point) (h : StandsAt steep at y) where
  abbrev one : ℤ
  one = y.num one_column

  eqs : Each (λ l. value_at y.num (equation l) ≡ pos 0) (lines steep)
  eqs = recursion_from_All (λ l. value_at y.num (equation l) ≡ pos 0) (lines steep) h.0

  zeros : Each (λ m. (IsIn (place m) at → ⊥) → y.num (place m) ≡ pos 0) (marks_of (lines steep))
  zeros = recursion_from_All (λ m. (IsIn (place m) at → ⊥) → y.num (place m) ≡ pos 0) (marks_of (lines steep)) h.1

  z4 : y.num 4 ≡ pos 0
  z4 = zeros.0 (not-in at 4 refl)

  z5 : y.num 5 ≡ pos 0
  z5 = zeros.1.0 (not-in at 5 refl)

  z8 : y.num 8 ≡ pos 0
  z8 = zeros.1.1.0 (not-in at 8 refl)

  z9 : y.num 9 ≡ pos 0
  z9 = zeros.1.1.1.0 (not-in at 9 refl)

  z12 : y.num 12 ≡ pos 0
  z12 = zeros.1.1.1.1.0 (not-in at 12 refl)

  z16 : y.num 16 ≡ pos 0
  z16 = zeros.1.1.1.1.1.1.0 (not-in at 16 refl)

  z20 : y.num 20 ≡ pos 0
  z20 = zeros.1.1.1.1.1.1.1.1.0 (not-in at 20 refl)

  z21 : y.num 21 ≡ pos 0
  z21 = zeros.1.1.1.1.1.1.1.1.1.0 (not-in at 21 refl)

  z6 : y.num 6 ≡ pos 0
  z6 = zeros.1.1.1.1.1.1.1.1.1.1.0 (not-in at 6 refl)

  z10 : y.num 10 ≡ pos 0
  z10 = zeros.1.1.1.1.1.1.1.1.1.1.1.1.0 (not-in at 10 refl)

  z14 : y.num 14 ≡ pos 0
  z14 = zeros.1.1.1.1.1.1.1.1.1.1.1.1.1.1.0 (not-in at 14 refl)

  z15 : y.num 15 ≡ pos 0
  z15 = zeros.1.1.1.1.1.1.1.1.1.1.1.1.1.1.1.0 (not-in at 15 refl)

  z18 : y.num 18 ≡ pos 0
  z18 = zeros.1.1.1.1.1.1.1.1.1.1.1.1.1.1.1.1.0 (not-in at 18 refl)

  left : y.num (attr_column 1) ≡ pos 0 *ℤ one
  left = attr-none (y.num 4) (y.num 5) one (y.num (attr_column 1)) z4 z5 eqs.0

  top : y.num (attr_column 2) ≡ pos 0 *ℤ one
  top = attr-none (y.num 8) (y.num 9) one (y.num (attr_column 2)) z8 z9 eqs.1.0

  width : y.num (attr_column 3) ≡ pos 4096 *ℤ one
  width = attr-width (y.num 14) (y.num 15) one (y.num (attr_column 3)) z14 z15 eqs.1.1.1.1.1.1.1.0

  height : y.num (attr_column 4) ≡ pos 4398046511104 *ℤ one
  height = attr-height (y.num 20) (y.num 21) one (y.num (attr_column 3)) (y.num (attr_column 4)) z20 z21 width eqs.1.1.1.1.0

  o13 : y.num 13 ≡ pos 4096 *ℤ one
  o13 = over-is (y.num 12) (y.num 13) one (y.num (attr_column 3)) (pos 4096 *ℤ one) z12 width eqs.1.1.0

  o17 : y.num 17 ≡ pos 4398046511104 *ℤ one
  o17 = over-is (y.num 16) (y.num 17) one (y.num (attr_column 4)) (pos 4398046511104 *ℤ one) z16 height eqs.1.1.1.0

  o7 : y.num 7 ≡ pos 0 *ℤ one
  o7 = over-is (y.num 6) (y.num 7) one (y.num (attr_column 1)) (pos 0 *ℤ one) z6 left eqs.1.1.1.1.1.0

  o11 : y.num 11 ≡ pos 0 *ℤ one
  o11 = over-is (y.num 10) (y.num 11) one (y.num (attr_column 2)) (pos 0 *ℤ one) z10 top eqs.1.1.1.1.1.1.0

  o19 : y.num 19 ≡ pos 4398046511104 *ℤ one
  o19 = over-is (y.num 18) (y.num 19) one (y.num (attr_column 4)) (pos 4398046511104 *ℤ one) z18 height eqs.1.1.1.1.1.1.1.1.0

  out : (c : ℕ) → y.num c ≡ pos 0 → pos 0 *ℤ one ≡ y.num c *ℤ pos 1
  out c e = agrees (pos 0) (y.num c) one (none-is (y.num c) one e)

  marks-agree : All (λ m. Agree (place m) x y) (marks_of (lines steep))
  marks-agree =
      All-from_recursion (λ m. Agree (place m) x y) (marks_of (lines steep)) (
        out 4 z4,
        (
          out 5 z5,
          (
            out 8 z8,
            (
              out 9 z9,
              (
                out 12 z12,
                (
                  agrees (pos 4096) (y.num 13) one o13,
                  (
                    out 16 z16,
                    (
                      agrees (pos 4398046511104) (y.num 17) one o17,
                      (
                        out 20 z20,
                        (
                          out 21 z21,
                          (out 6 z6, (agrees (pos 0) (y.num 7) one o7, (out 10 z10, (agrees (pos 0) (y.num 11) one o11, (out 14 z14, (out 15 z15, (out 18 z18, (agrees (pos 4398046511104) (y.num 19) one o19, tt)))))))),
                        ),
                      ),
                    ),
                  ),
                ),
              ),
            ),
          ),
        ),
      )

  attrs-agree : All (λ s. Agree (attr_column s.attr) x y) steep.stays
  attrs-agree =
      All-from_recursion (λ s. Agree (attr_column s.attr) x y) steep.stays (
        agrees (pos 0) (y.num (attr_column 1)) one left,
        (
          agrees (pos 0) (y.num (attr_column 2)) one top,
          (agrees (pos 4096) (y.num (attr_column 3)) one width, (agrees (pos 4398046511104) (y.num (attr_column 4)) one height, tt)),
        ),
      )

abbrev Apart : Mark → Mark → Type 0
Apart m n = place m ≢ place n

abbrev over_row : ℕ → Mark
over_row id = record { row = Held id; side = Over }

abbrev over_stay : ℕ → Mark
over_stay attr = record { row = StayOf attr; side = Over }

marks-apart : AllPairs (λ m n. place m ≢ place n) at
marks-apart =
    pairs Apart (over_row 3) (over_row 4 ∷ over_stay 1 ∷ over_stay 2 ∷ over_stay 4 ∷ []) ((λ e. omega (arith, e)), ((λ e. omega (arith, e)), ((λ e. omega (arith, e)), ((λ e. omega (arith, e)), tt))))
    (pairs Apart (over_row 4) (over_stay 1 ∷ over_stay 2 ∷ over_stay 4 ∷ []) ((λ e. omega (arith, e)), ((λ e. omega (arith, e)), ((λ e. omega (arith, e)), tt)))
    (pairs Apart (over_stay 1) (over_stay 2 ∷ over_stay 4 ∷ []) ((λ e. omega (arith, e)), ((λ e. omega (arith, e)), tt))
    (pairs Apart (over_stay 2) (over_stay 4 ∷ []) ((λ e. omega (arith, e)), tt) (pairs Apart (over_stay 4) [] tt (pairs-none Apart)))))

corner : IsCorner steep at
corner = record {
  count = refl;
  marks = All-from_recursion (λ m. Contains (map place (marks_of (lines steep))) (place m)) at
      ((5, omega arith, refl), ((7, omega arith, refl), ((11, omega arith, refl), ((13, omega arith, refl), ((17, omega arith, refl), tt)))));
  apart = marks-apart;
  point = x;
  stands = stands;
  marks_fixed = λ y h. marks-agree y h;
  attrs_fixed = λ y h. attrs-agree y h;
}

-- ---- the height doesn't fit there

pub steep-unfit : (old : List Row) → AllFit steep old → ⊥
steep-unfit old fit = fit at (Plain (Attr 4)) corner ((3, zero_stay 4, omega arith, refl, refl), no_writing steep at (λ n. n (attr_column 4)) x stands refl refl)
