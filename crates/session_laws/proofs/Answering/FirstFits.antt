-- Each quantity of the first scene's problem fits at each of its corners, where no row is new.
use Rattle.std.proofs.Common.{◌≡◌, ◌≢◌, ◌∙◌, ℕ, ◌+◌, ◌*◌, ◌/◌, ◌≤◌, Bool, true, false, cond, nat_eq, List, [], ◌∷◌, ℤ, pos, negsuc, ◌+ℤ◌, ◌-ℤ◌, ◌*ℤ◌, neg_ℤ, ◌≤ℤ◌, refl, sym, ap, ap₂, subst, arith, inl, inr, ◌⊎◌, All, ne_eqb, true≢false}
use Rattle.std.specs.List.{AllByRecursion as Each}
use Rattle.std.proofs.lemmas.Bool.{cases_Bool, cases_eq}
use Rattle.std.proofs.lemmas.List.Elements.{All-from_recursion, recursion_from_All}
use Rattle.std.proofs.lemmas.Nat.Gcd.{dvd_antisymm}
use Rattle.std.proofs.Math.Nat.{one-dvd}
use borrow.Author.Differences.{ints}
use Rattle.frac_core.specs.Fraction.{IsFitting}
use Rattle.frac_core.proofs.Integers.{mul-zero_ℤ, zero-mul_ℤ}
use Rattle.problem_core.specs.declared.parts.Mark.{Mark}
use Rattle.problem_core.specs.declared.parts.RowName.{RowName}
use Rattle.problem_core.specs.declared.parts.RowName.TheVariants.{Held, Stay as StayOf}
use Rattle.problem_core.specs.declared.parts.Side.{Side}
use Rattle.problem_core.specs.declared.parts.Side.TheVariants.{Under, Over}
use Rattle.problem_core.specs.declared.parts.Stay.{Stay}
use Rattle.problem_core.specs.declared.parts.Term.{Term}
use Rattle.problem_core.specs.declared.stops.Quantity.TheVariants.{Plain, Terms, Rows, Shifts}
use Rattle.problem_core.specs.declared.stops.What.TheVariants.{Attr, Mark as MarkOf, Level as LevelOf}
use Rattle.problem_core.specs.Layout.{HasStay, Line, coefficient, lines, value_at}
use Rattle.problem_core.specs.Certificates.{over_weight, under_weight, weight_at}
use Rattle.problem_core.specs.Window.{structural_rows, zero_fraction}
use Rattle.problem_core.specs.Corners.{IsCorner, IsIn, Point, Solves, StandsAt, attr_column, column, equation, marks_of, one_column, place, place_of}
use Rattle.problem_core.specs.Levels.{AreFitting, HasNoLevelWriting, IsCostAt, IsLevelWriting, alone, cost_at, line_cost, scales}
use Rattle.problem_core.specs.Unfit.{HasNoWriting}
use Rattle.problem_core.proofs.Corners.CornerFacts.{is_place}
use Rattle.problem_core.proofs.Forms.{each-impl, sum-zero}
use Rattle.corner_laws.specs.Laws.{AllFit}
use Rattle.corner_laws.proofs.PathEnds.Complete.{plain_alone}
use Rattle.corner_laws.proofs.Counting.{IsIn-from_is_place, is_place-from_IsIn}
use Rattle.corner_laws.proofs.MarkWritings.Fits.{one_factor, whole_is_kept}
use Rattle.corner_laws.proofs.WrittenValues.{contains_each}
use Rattle.corner_laws.proofs.ZeroColumns.{not-in}
use Rattle.session_laws.specs.Answered.Examples.{first}
use Rattle.session_laws.proofs.Answering.FirstBlocks.{IsBlock, IsMark, block-1, block-2, block-3, block-4}
use Rattle.corner_lines.proofs.Costs.LevelFits.{look_up}
use Rattle.frac_core.proofs.Numbers.{neg-times, one-times as once}
use Rattle.frac_core.proofs.Bools.{bit-most as most-one}

-- ---- sums of three marks

-- at most 4 in size
pub record IsLittle (z : ℤ) : Type 0 where
  pub low : negsuc 3 ≤ℤ z
  pub high : z ≤ℤ pos 4

pub little-fits : (z : ℤ) → IsLittle z → IsFitting z
little-fits (pos n) h = omega (arith, ints, h.high)
little-fits (negsuc n) h = omega (arith, ints, h.low)

-- 1, 0 or -1
pub record IsUnit (z : ℤ) : Type 0 where
  pub low : negsuc 0 ≤ℤ z
  pub high : z ≤ℤ pos 1

unit-or : (b : Bool) (z : ℤ) → IsUnit z → IsUnit (cond b z (pos 0))
unit-or true z h = h
unit-or false z h = record { low = omega (arith, ints); high = omega (arith, ints) }

abbrev pub three : ℕ → ℤ → ℕ → ℤ → ℕ → ℤ → List Term
three a i b j c k = record { attr = a; by = i } ∷ record { attr = b; by = j } ∷ record { attr = c; by = k } ∷ []

three-units : (a b c : ℤ) → IsUnit a → IsUnit b → IsUnit c → IsLittle (a +ℤ (b +ℤ (c +ℤ pos 0)))
three-units a b c h i j = record { low = omega (arith, ints, h.low, i.low, j.low); high = omega (arith, ints, h.high, i.high, j.high) }

pub three-fits : (a b c : ℕ) (i j k : ℤ) → IsUnit i → IsUnit j → IsUnit k → (v : ℕ) → IsFitting (coefficient v (three a i b j c k))
three-fits a b c i j k p q r v = little-fits (coefficient v (three a i b j c k)) (three-units _ _ _ (unit-or (nat_eq a v) i p) (unit-or (nat_eq b v) j q) (unit-or (nat_eq c v) k r))

pub three-at : (a b c : ℕ) (i j k : ℤ) (v : ℕ) → coefficient v (three a i b j c k) ≢ pos 0 → (v ≡ a) ⊎ (v ≡ b) ⊎ (v ≡ c)
three-at a b c i j k v some =
    elim (cases_eq a v) [
      | inl e ↦ inl (sym e)
      | inr n ↦ elim (cases_eq b v) [
        | inl e ↦ inr (inl (sym e))
        | inr m ↦ elim (cases_eq c v) [
          | inl e ↦ inr (inr (sym e))
          | inr o ↦ absurd (some (ap (λ (t : _). cond t i (pos 0) +ℤ (cond (nat_eq b v) j (pos 0) +ℤ (cond (nat_eq c v) k (pos 0) +ℤ pos 0))) (ne_eqb a v n)
              ∙ ap (λ (t : _). pos 0 +ℤ (cond t j (pos 0) +ℤ (cond (nat_eq c v) k (pos 0) +ℤ pos 0))) (ne_eqb b v m)
              ∙ ap (λ (t : _). pos 0 +ℤ (pos 0 +ℤ (cond t k (pos 0) +ℤ pos 0))) (ne_eqb c v o)))
        ]
      ]
    ]

pub one : IsUnit (pos 1)
one = record { low = omega (arith, ints); high = omega (arith, ints) }

pub none : IsUnit (pos 0)
none = record { low = omega (arith, ints); high = omega (arith, ints) }

pub minus : IsUnit (negsuc 0)
minus = record { low = omega (arith, ints); high = omega (arith, ints) }

-- an outside mark
abbrev IsOut : List Mark → ℕ → Type 0
IsOut at c = IsMark c × (IsIn c at → ⊥)

holds : (q v o : ℤ) → q ≡ v → pos 1 *ℤ (pos 1 *ℤ q -ℤ v) ≡ pos 1 *ℤ (pos 0 *ℤ o)
holds q v o e = omega (arith, ints, e)

-- what is a sum of three outside marks, each with 1, 0 or -1, fits
written : (at : List Mark) (q a b c : ℕ) (i j k : ℤ) → IsOut at a → IsOut at b → IsOut at c → IsUnit i → IsUnit j → IsUnit k
    → ((x : Point) → Solves first x → x.num q ≡ value_at x.num (three a i b j c k)) → HasNoWriting first at (λ x. x q) → ⊥
written at q a b c i j k oa ob oc ui uj uk sums unfit =
    unfit 1 (three a i b j c k) zero_fraction
    (record {
      scale_positive = omega arith;
      den_positive = omega arith;
      outside = λ v some. elim (three-at a b c i j k v some) [
        | inl e ↦ subst (IsOut at) (sym e) oa
        | inr more ↦ elim more [
          | inl e ↦ subst (IsOut at) (sym e) ob
          | inr e ↦ subst (IsOut at) (sym e) oc
        ]
      ];
      holds = λ x solves. holds (x.num q) (value_at x.num (three a i b j c k)) (x.num one_column) (sums x solves);
      lowest = λ n each whole. one_factor n whole.0 whole.1;
    })
    (omega arith) (three-fits a b c i j k ui uj uk) (whole_is_kept 0 (omega arith))

-- ---- attributes and marks

module _ (at : List Mark) (b : ℕ) (h : IsBlock at b) where
  by-stay : (x : Point) → Solves first x → x.num (attr_column b) ≡ value_at x.num (three (4 * b + 3) (pos 1) (4 * b + 2) (negsuc 0) (4 * b + 2) (pos 0))
  by-stay x s = omega (arith, ints, h.stay_holds x s)

  by-row : (x : Point) → Solves first x → x.num (attr_column b) ≡ value_at x.num (three (4 * b + 1) (pos 1) (4 * b) (negsuc 0) (4 * b) (pos 0))
  by-row x s = omega (arith, ints, h.row_holds x s)

  attr-by-stay : (IsIn (4 * b + 2) at → ⊥) → (IsIn (4 * b + 3) at → ⊥) → HasNoWriting first at (λ x. x (attr_column b)) → ⊥
  attr-by-stay u o = written at (attr_column b) (4 * b + 3) (4 * b + 2) (4 * b + 2) (pos 1) (negsuc 0) (pos 0) (h.marks.3, o) (h.marks.2, u) (h.marks.2, u) one minus none by-stay

  attr-by-row : (IsIn (4 * b) at → ⊥) → (IsIn (4 * b + 1) at → ⊥) → HasNoWriting first at (λ x. x (attr_column b)) → ⊥
  attr-by-row u o = written at (attr_column b) (4 * b + 1) (4 * b) (4 * b) (pos 1) (negsuc 0) (pos 0) (h.marks.1, o) (h.marks.0, u) (h.marks.0, u) one minus none by-row

  attr-fits : HasNoWriting first at (λ x. x (attr_column b)) → ⊥
  attr-fits = elim (cases_Bool (is_place at (4 * b))) [
    | inl u ↦ let i = IsIn-from_is_place (4 * b) at u in attr-by-stay (h.unders i) (h.under_over i)
    | inr u ↦ elim (cases_Bool (is_place at (4 * b + 1))) [
      | inl o ↦ let i = IsIn-from_is_place (4 * b + 1) at o in attr-by-stay (h.over_under i) (h.overs i)
      | inr o ↦ attr-by-row (not-in at (4 * b) u) (not-in at (4 * b + 1) o)
    ]
  ]

  row-under-fits : IsIn (4 * b) at → HasNoWriting first at (λ x. x (4 * b)) → ⊥
  row-under-fits i = written at (4 * b) (4 * b + 1) (4 * b + 2) (4 * b + 3) (pos 1) (pos 1) (negsuc 0) (h.marks.1, h.row i) (h.marks.2, h.unders i) (h.marks.3, h.under_over i) one one minus
      (λ x s. omega (arith, ints, h.row_holds x s, h.stay_holds x s))

  row-over-fits : IsIn (4 * b + 1) at → HasNoWriting first at (λ x. x (4 * b + 1)) → ⊥
  row-over-fits i = written at (4 * b + 1) (4 * b) (4 * b + 2) (4 * b + 3) (pos 1) (negsuc 0) (pos 1) (h.marks.0, λ j. h.row j i) (h.marks.2, h.over_under i) (h.marks.3, h.overs i) one minus one
      (λ x s. omega (arith, ints, h.row_holds x s, h.stay_holds x s))

  stay-under-fits : IsIn (4 * b + 2) at → HasNoWriting first at (λ x. x (4 * b + 2)) → ⊥
  stay-under-fits i = written at (4 * b + 2) (4 * b + 3) (4 * b) (4 * b + 1) (pos 1) (pos 1) (negsuc 0) (h.marks.3, h.stay i) (h.marks.0, λ j. h.unders j i) (h.marks.1, λ j. h.over_under j i) one one minus
      (λ x s. omega (arith, ints, h.row_holds x s, h.stay_holds x s))

  stay-over-fits : IsIn (4 * b + 3) at → HasNoWriting first at (λ x. x (4 * b + 3)) → ⊥
  stay-over-fits i = written at (4 * b + 3) (4 * b + 2) (4 * b) (4 * b + 1) (pos 1) (negsuc 0) (pos 1) (h.marks.2, λ j. h.stay j i) (h.marks.0, λ j. h.under_over j i) (h.marks.1, λ j. h.overs j i) one minus one
      (λ x s. omega (arith, ints, h.row_holds x s, h.stay_holds x s))

-- ---- levels

-- the multiplier of an attribute's row, as one of the four marks is inside; its stay's is the opposite
abbrev pub multiplier : Bool → Bool → Bool → Bool → ℕ → ℕ → ℕ → ℤ
multiplier u o p q wu wo ws = cond u (pos wu) (cond o (neg_ℤ (pos wo)) (cond p (neg_ℤ (pos ws)) (cond q (pos ws) (pos 0))))

pub multiplier-unit : (u o p q : Bool) (wu wo ws : ℕ) → wu ≤ 1 → wo ≤ 1 → ws ≤ 1 → IsUnit (multiplier u o p q wu wo ws)
multiplier-unit true o p q wu wo ws a b c = record { low = omega (arith, ints, a); high = omega (arith, ints, a) }
multiplier-unit false true p q wu wo ws a b c = record { low = omega (arith, ints, b); high = omega (arith, ints, b) }
multiplier-unit false false true q wu wo ws a b c = record { low = omega (arith, ints, c); high = omega (arith, ints, c) }
multiplier-unit false false false true wu wo ws a b c = record { low = omega (arith, ints, c); high = omega (arith, ints, c) }
multiplier-unit false false false false wu wo ws a b c = none

abbrev pub weight_of : ℕ → ℕ → ℕ
weight_of n k = cond (nat_eq n k) 1 0

-- left and top are equal to 0; width and height may be above it
abbrev over_of : ℕ → ℕ → ℕ
over_of b k = cond (nat_eq b 1) (weight_of 0 k) (cond (nat_eq b 2) (weight_of 0 k) 0)

abbrev factor : List Mark → ℕ → ℕ → ℤ
factor at k b =
    multiplier (is_place at (4 * b)) (is_place at (4 * b + 1)) (is_place at (4 * b + 2)) (is_place at (4 * b + 3)) (weight_of 0 k) (over_of b k) (weight_of (1000 + b) k)

abbrev times_at : List Mark → ℕ → RowName → ℤ
times_at at k (Held id) = factor at k id
times_at at k (StayOf attr) = neg_ℤ (factor at k attr)

abbrev reduced_at : List Mark → ℕ → ℕ → ℤ
reduced_at at k c = look_up (λ side l. column (alone 1 (times_at at k)) side l k) (lines first) c

over-one : (b k : ℕ) → over_of b k ≤ 1
over-one b k = pick (nat_eq b 1) (nat_eq b 2)
  where
    pick : (s t : Bool) → cond s (weight_of 0 k) (cond t (weight_of 0 k) 0) ≤ 1
    pick true t = most-one (nat_eq 0 k)
    pick false true = most-one (nat_eq 0 k)
    pick false false = omega arith

factor-unit : (at : List Mark) (k b : ℕ) → IsUnit (factor at k b)
factor-unit at k b =
    multiplier-unit (is_place at (4 * b)) (is_place at (4 * b + 1)) (is_place at (4 * b + 2)) (is_place at (4 * b + 3)) (weight_of 0 k) (over_of b k) (weight_of (1000 + b) k)
    (most-one (nat_eq 0 k)) (over-one b k) (most-one (nat_eq (1000 + b) k))

-- ---- what a mark costs

pub take : (w : ℕ) (y : ℤ) → w ≤ 1 → IsUnit y → IsFitting (pos (1 * w) -ℤ pos 1 *ℤ y)
take w y a h = little-fits (pos (1 * w) -ℤ pos 1 *ℤ y) (record { low = omega (arith, ints, a, h.high); high = omega (arith, ints, a, h.low) })

pub give : (w : ℕ) (y : ℤ) → w ≤ 1 → IsUnit y → IsFitting (pos (1 * w) +ℤ pos 1 *ℤ y)
give w y a h = little-fits (pos (1 * w) +ℤ pos 1 *ℤ y) (record { low = omega (arith, ints, a, h.low); high = omega (arith, ints, a, h.high) })

pub opposite : (y : ℤ) → IsUnit y → IsUnit (neg_ℤ y)
opposite y h = record { low = omega (arith, ints, h.high); high = omega (arith, ints, h.low) }

pub unit-fits : (y : ℤ) → IsUnit y → IsFitting y
unit-fits y h = little-fits y (record { low = omega (arith, ints, h.low); high = omega (arith, ints, h.high) })

pub at-under : (u o p q : Bool) (wu wo ws : ℕ) → u ≡ true → pos (1 * wu) -ℤ pos 1 *ℤ multiplier u o p q wu wo ws ≡ pos 0
at-under true o p q wu wo ws e = omega (arith, ints)
at-under false o p q wu wo ws e = absurd (true≢false (sym e))

pub at-over : (u o p q : Bool) (wu wo ws : ℕ) → (u ≡ true → ⊥) → o ≡ true → pos (1 * wo) +ℤ pos 1 *ℤ multiplier u o p q wu wo ws ≡ pos 0
at-over true o p q wu wo ws n e = absurd (n refl)
at-over false true p q wu wo ws n e = omega (arith, ints)
at-over false false p q wu wo ws n e = absurd (true≢false (sym e))

pub at-below : (u o p q : Bool) (wu wo ws : ℕ) → (u ≡ true → ⊥) → (o ≡ true → ⊥) → p ≡ true → pos (1 * ws) -ℤ pos 1 *ℤ neg_ℤ (multiplier u o p q wu wo ws) ≡ pos 0
at-below true o p q wu wo ws n m e = absurd (n refl)
at-below false true p q wu wo ws n m e = absurd (m refl)
at-below false false true q wu wo ws n m e = omega (arith, ints)
at-below false false false q wu wo ws n m e = absurd (true≢false (sym e))

pub at-above : (u o p q : Bool) (wu wo ws : ℕ) → (u ≡ true → ⊥) → (o ≡ true → ⊥) → (p ≡ true → ⊥) → q ≡ true → pos (1 * ws) +ℤ pos 1 *ℤ neg_ℤ (multiplier u o p q wu wo ws) ≡ pos 0
at-above true o p q wu wo ws n m r e = absurd (n refl)
at-above false true p q wu wo ws n m r e = absurd (m refl)
at-above false false true q wu wo ws n m r e = absurd (r refl)
at-above false false false true wu wo ws n m r e = omega (arith, ints)
at-above false false false false wu wo ws n m r e = absurd (true≢false (sym e))

module _ (at : List Mark) (k b : ℕ) (h : IsBlock at b) where
  abbrev U : Bool
  U = is_place at (4 * b)

  abbrev O : Bool
  O = is_place at (4 * b + 1)

  abbrev P : Bool
  P = is_place at (4 * b + 2)

  abbrev Q : Bool
  Q = is_place at (4 * b + 3)

  under-none : IsIn (4 * b) at → pos (1 * weight_of 0 k) -ℤ pos 1 *ℤ factor at k b ≡ pos 0
  under-none i = at-under U O P Q (weight_of 0 k) (over_of b k) (weight_of (1000 + b) k) (is_place-from_IsIn (4 * b) at i)

  over-none : IsIn (4 * b + 1) at → pos (1 * over_of b k) +ℤ pos 1 *ℤ factor at k b ≡ pos 0
  over-none i =
      at-over U O P Q (weight_of 0 k) (over_of b k) (weight_of (1000 + b) k) (λ e. h.row (IsIn-from_is_place (4 * b) at e) i) (is_place-from_IsIn (4 * b + 1) at i)

  below-none : IsIn (4 * b + 2) at → pos (1 * weight_of (1000 + b) k) -ℤ pos 1 *ℤ neg_ℤ (factor at k b) ≡ pos 0
  below-none i =
      at-below U O P Q (weight_of 0 k) (over_of b k) (weight_of (1000 + b) k) (λ e. h.unders (IsIn-from_is_place (4 * b) at e) i)
      (λ e. h.over_under (IsIn-from_is_place (4 * b + 1) at e) i) (is_place-from_IsIn (4 * b + 2) at i)

  above-none : IsIn (4 * b + 3) at → pos (1 * weight_of (1000 + b) k) +ℤ pos 1 *ℤ neg_ℤ (factor at k b) ≡ pos 0
  above-none i =
      at-above U O P Q (weight_of 0 k) (over_of b k) (weight_of (1000 + b) k) (λ e. h.under_over (IsIn-from_is_place (4 * b) at e) i)
      (λ e. h.overs (IsIn-from_is_place (4 * b + 1) at e) i) (λ e. h.stay (IsIn-from_is_place (4 * b + 2) at e) i) (is_place-from_IsIn (4 * b + 3) at i)

-- ---- the level's writing

cancel-all : (f g h i a b c d : ℤ) → f *ℤ a +ℤ (g *ℤ b +ℤ (h *ℤ c +ℤ (i *ℤ d +ℤ (neg_ℤ f *ℤ a +ℤ (neg_ℤ g *ℤ b +ℤ (neg_ℤ h *ℤ c +ℤ (neg_ℤ i *ℤ d +ℤ pos 0))))))) ≡ pos 0
cancel-all f g h i a b c d = omega (arith, ints, neg-times f a, neg-times g b, neg-times h c, neg-times i d)

module _ (at : List Mark) (k : ℕ) (corner : IsCorner first at) where
  abbrev Col : Side → Line → ℤ
  Col side l = column (alone 1 (times_at at k)) side l k

  columns : (side : Side) → All (λ l. pos l.scale *ℤ reduced_at at k (place_of l.name side) ≡ column (alone 1 (times_at at k)) side l k) (lines first)
  columns Under = All-from_recursion (λ l. pos l.scale *ℤ reduced_at at k (place_of l.name Under) ≡ column (alone 1 (times_at at k)) Under l k) (lines first)
      (once _, (once _, (once _, (once _, (once _, (once _, (once _, (once _, tt))))))))
  columns Over = All-from_recursion (λ l. pos l.scale *ℤ reduced_at at k (place_of l.name Over) ≡ column (alone 1 (times_at at k)) Over l k) (lines first)
      (once _, (once _, (once _, (once _, (once _, (once _, (once _, (once _, tt))))))))

  inside : (side : Side) → All (λ l. IsIn (place_of l.name side) at → reduced_at at k (place_of l.name side) ≡ pos 0) (lines first)
  inside Under = All-from_recursion (λ l. IsIn (place_of l.name Under) at → reduced_at at k (place_of l.name Under) ≡ pos 0) (lines first) (
    under-none at k 1 (block-1 at corner),
    (
      under-none at k 2 (block-2 at corner),
      (
        under-none at k 3 (block-3 at corner),
        (
          under-none at k 4 (block-4 at corner),
          (below-none at k 1 (block-1 at corner), (below-none at k 2 (block-2 at corner), (below-none at k 3 (block-3 at corner), (below-none at k 4 (block-4 at corner), tt)))),
        ),
      ),
    ),
  )
  inside Over = All-from_recursion (λ l. IsIn (place_of l.name Over) at → reduced_at at k (place_of l.name Over) ≡ pos 0) (lines first) (
    over-none at k 1 (block-1 at corner),
    (
      over-none at k 2 (block-2 at corner),
      (
        over-none at k 3 (block-3 at corner),
        (
          over-none at k 4 (block-4 at corner),
          (above-none at k 1 (block-1 at corner), (above-none at k 2 (block-2 at corner), (above-none at k 3 (block-3 at corner), (above-none at k 4 (block-4 at corner), tt)))),
        ),
      ),
    ),
  )

  writes : IsLevelWriting first at k 1 (times_at at k) (reduced_at at k)
  writes = record {
    scale_positive = omega arith;
    cancel = λ v. cancel-all (factor at k 1) (factor at k 2) (factor at k 3) (factor at k 4) _ _ _ _;
    columns = columns;
    inside_zero = inside;
    lowest = λ n h rest. dvd_antisymm h (one-dvd n);
  }

  abbrev W : ℕ
  W = weight_of 0 k

  under-fit : (b : ℕ) → IsFitting (pos (1 * W) -ℤ pos 1 *ℤ factor at k b)
  under-fit b = take W (factor at k b) (most-one (nat_eq 0 k)) (factor-unit at k b)

  over-fit : (b : ℕ) → IsFitting (pos (1 * over_of b k) +ℤ pos 1 *ℤ factor at k b)
  over-fit b = give (over_of b k) (factor at k b) (over-one b k) (factor-unit at k b)

  below-fit : (b : ℕ) → IsFitting (pos (1 * weight_of (1000 + b) k) -ℤ pos 1 *ℤ neg_ℤ (factor at k b))
  below-fit b = take (weight_of (1000 + b) k) (neg_ℤ (factor at k b)) (most-one (nat_eq (1000 + b) k)) (opposite (factor at k b) (factor-unit at k b))

  above-fit : (b : ℕ) → IsFitting (pos (1 * weight_of (1000 + b) k) +ℤ pos 1 *ℤ neg_ℤ (factor at k b))
  above-fit b = give (weight_of (1000 + b) k) (neg_ℤ (factor at k b)) (most-one (nat_eq (1000 + b) k)) (opposite (factor at k b) (factor-unit at k b))

  reduced-fit : (side : Side) → All (λ l. IsFitting (reduced_at at k (place_of l.name side))) (lines first)
  reduced-fit Under = All-from_recursion (λ l. IsFitting (reduced_at at k (place_of l.name Under))) (lines first)
      (under-fit 1, (under-fit 2, (under-fit 3, (under-fit 4, (below-fit 1, (below-fit 2, (below-fit 3, (below-fit 4, tt))))))))
  reduced-fit Over = All-from_recursion (λ l. IsFitting (reduced_at at k (place_of l.name Over))) (lines first)
      (over-fit 1, (over-fit 2, (over-fit 3, (over-fit 4, (above-fit 1, (above-fit 2, (above-fit 3, (above-fit 4, tt))))))))

  row-time : (b : ℕ) → IsFitting (factor at k b)
  row-time b = unit-fits (factor at k b) (factor-unit at k b)

  stay-time : (b : ℕ) → IsFitting (neg_ℤ (factor at k b))
  stay-time b = unit-fits (neg_ℤ (factor at k b)) (opposite (factor at k b) (factor-unit at k b))

  level-fit : AreFitting first 1 (times_at at k) (reduced_at at k)
  level-fit = record {
    scale_fits = omega arith;
    times_fit = All-from_recursion (λ l. IsFitting (times_at at k l.name)) (lines first)
        (row-time 1, (row-time 2, (row-time 3, (row-time 4, (stay-time 1, (stay-time 2, (stay-time 3, (stay-time 4, tt))))))));
    reduced_fit = reduced-fit;
  }

-- ---- where all is 0

abbrev pub zero_num : ℕ → ℤ
zero_num v = cond (nat_eq v one_column) (pos 1) (pos 0)

abbrev pub zero_point : Point
zero_point = record { num = zero_num; positive = record { lt = tt } }

pub zero-stands : (at : List Mark) → StandsAt first at zero_point
zero-stands at = (
  All-from_recursion (λ l. value_at zero_num (equation l) ≡ pos 0) (lines first) (refl, (refl, (refl, (refl, (refl, (refl, (refl, (refl, tt)))))))),
  All-from_recursion (λ m. (IsIn (place m) at → ⊥) → zero_num (place m) ≡ pos 0) (marks_of (lines first))
      ((λ o. refl), ((λ o. refl), ((λ o. refl), ((λ o. refl), ((λ o. refl), ((λ o. refl), ((λ o. refl), ((λ o. refl), ((λ o. refl), ((λ o. refl), ((λ o. refl), ((λ o. refl), ((λ o. refl), ((λ o. refl), ((λ o. refl), ((λ o. refl), tt)))))))))))))))),
)

no-cost : (s u o a b : ℤ) → a ≡ pos 0 → b ≡ pos 0 → s *ℤ (u *ℤ a +ℤ o *ℤ b) ≡ pos 0
no-cost s u o a b e f = ap (λ (z : ℤ). s *ℤ z) (ap₂ ◌+ℤ◌ (ap (λ (z : ℤ). u *ℤ z) e ∙ mul-zero_ℤ u) (ap (λ (z : ℤ). o *ℤ z) f ∙ mul-zero_ℤ o)) ∙ mul-zero_ℤ s

abbrev cost_of : ℕ → Line → ℤ
cost_of k l = pos (scales first / l.scale) *ℤ line_cost k zero_num l

line-free : (k : ℕ) (l : Line) → zero_num (place_of l.name Under) ≡ pos 0 → zero_num (place_of l.name Over) ≡ pos 0 → cost_of k l ≡ pos 0
line-free k l e f = no-cost (pos (scales first / l.scale)) (pos (under_weight l.rel (weight_at l k))) (pos (over_weight l.rel (weight_at l k))) (zero_num (place_of l.name Under)) (zero_num (place_of l.name Over)) e f

zero-cost : (k : ℕ) → cost_at first k zero_num ≡ pos 0
zero-cost k =
    sum-zero (cost_of k) (lines first)
    (each-impl (λ l. (zero_num (place_of l.name Under) ≡ pos 0) × (zero_num (place_of l.name Over) ≡ pos 0)) (λ l. cost_of k l ≡ pos 0) (lines first) (λ l h. line-free k l h.0 h.1)
    ((refl, refl), ((refl, refl), ((refl, refl), ((refl, refl), ((refl, refl), ((refl, refl), ((refl, refl), ((refl, refl), tt)))))))))

costs-nothing : (at : List Mark) (k : ℕ) → IsCostAt first at k zero_fraction
costs-nothing at k = (zero_point, zero-stands at, ap (λ (z : ℤ). z *ℤ pos 1) (zero-cost k) ∙ sym (zero-mul_ℤ (pos (scales first) *ℤ pos 1)))

level-fits : (at : List Mark) (k : ℕ) → IsCorner first at → HasNoLevelWriting first at k → ⊥
level-fits at k corner unfit = unfit 1 (times_at at k) (reduced_at at k) zero_fraction (writes at k corner) (costs-nothing at k) (level-fit at k corner) (whole_is_kept 0 (omega arith))

-- ---- all

abbrev Fits : List Mark → ℕ → Type 0
Fits at c = HasNoWriting first at (λ x. x c) → ⊥

attrs-fit : (at : List Mark) → IsCorner first at → Each (λ (s : Stay). Fits at (attr_column s.attr)) first.stays
attrs-fit at corner = (attr-fits at 1 (block-1 at corner), (attr-fits at 2 (block-2 at corner), (attr-fits at 3 (block-3 at corner), (attr-fits at 4 (block-4 at corner), tt))))

stay-fits : (at : List Mark) (attr : ℕ) → IsCorner first at → HasStay first.stays attr → Fits at (attr_column attr)
stay-fits at attr corner (k, s, within, is, e) =
    subst (λ (a : ℕ). Fits at (attr_column a)) e
    (subst (λ (t : Stay). Fits at (attr_column t.attr)) is (All-from_recursion (λ (t : Stay). Fits at (attr_column t.attr)) first.stays (attrs-fit at corner) k s within))

marks-fit : (at : List Mark) → IsCorner first at → Each (λ m. IsIn (place m) at → Fits at (place m)) (marks_of (lines first))
marks-fit at corner =
    let a = block-1 at corner in
    let b = block-2 at corner in
    let c = block-3 at corner in
    let d = block-4 at corner in (
      row-under-fits at 1 a,
      (
        row-over-fits at 1 a,
        (
          row-under-fits at 2 b,
          (
            row-over-fits at 2 b,
            (
              row-under-fits at 3 c,
              (
                row-over-fits at 3 c,
                (
                  row-under-fits at 4 d,
                  (
                    row-over-fits at 4 d,
                    (stay-under-fits at 1 a, (stay-over-fits at 1 a, (stay-under-fits at 2 b, (stay-over-fits at 2 b, (stay-under-fits at 3 c, (stay-over-fits at 3 c, (stay-under-fits at 4 d, (stay-over-fits at 4 d, tt)))))))),
                  ),
                ),
              ),
            ),
          ),
        ),
      ),
    )

mark-fits : (at : List Mark) (c : ℕ) → IsCorner first at → IsIn c at → Fits at c
mark-fits at c corner i =
    contains_each (λ v. IsIn v at → Fits at v) (marks_of (lines first)) c (marks-fit at corner)
    (contains_each IsMark at c (recursion_from_All (λ m. IsMark (place m)) at corner.marks) i) i

-- where nothing is new, each quantity fits
pub first-fits : AllFit first structural_rows
first-fits at (Plain (Attr attr)) corner (has, unfit) = stay-fits at attr corner has unfit
first-fits at (Plain (MarkOf m)) corner (i, unfit) = mark-fits at (place m) corner i unfit
first-fits at (Plain (LevelOf level)) corner (k, is, unfit) = level-fits at k corner unfit
first-fits at (Terms mark j) corner h = absurd (plain_alone first at (Terms mark j) h)
first-fits at (Rows level j) corner h = absurd (plain_alone first at (Rows level j) h)
first-fits at (Shifts what j) corner h = absurd (plain_alone first at (Shifts what j) h)
