-- In the first scene's problem each attribute has one row and one stay; at a corner at most one mark of the two is inside.
use Rattle.std.proofs.Common.{◌≡◌, ◌≢◌, ◌∙◌, ℕ, ◌+◌, ◌*◌, ◌<◌, ◌≤◌, cond, nat_eq, List, [], ◌∷◌, map, ℤ, pos, negsuc, ◌+ℤ◌, ◌*ℤ◌, refl, sym, ap, subst, arith, AllPairs, Contains, ne_eqb, eq-eqb}
use Rattle.std.specs.List.{AllByRecursion as Each}
use Rattle.std.proofs.lemmas.List.Elements.{All-from_recursion, recursion_from_All}
use Rattle.std.proofs.lemmas.List.Kept.{AllPairs-cons}
use borrow.Author.Differences.{ints}
use Rattle.problem_core.specs.declared.parts.Mark.{Mark}
use Rattle.problem_core.specs.declared.parts.Rel.{Rel}
use Rattle.problem_core.specs.declared.parts.Rel.TheVariants.{Eq, Ge}
use Rattle.problem_core.specs.declared.parts.RowName.TheVariants.{Held, Stay as StayOf}
use Rattle.problem_core.specs.declared.parts.Stay.{Stay}
use Rattle.problem_core.specs.declared.parts.Term.{Term}
use Rattle.problem_core.specs.Layout.{HasStay, IsCovered, Row, lines, value_at}
use Rattle.problem_core.specs.Kept.{IsRow, IsStay, IsTerm, IsWhole}
use Rattle.problem_core.specs.Window.{required_row, zero_fraction}
use Rattle.problem_core.specs.Corners.{IsCorner, IsIn, Point, Solves, attr_column, equation, marks_of, one_column, place}
use Rattle.corner_laws.proofs.Counting.{one_mark}
use Rattle.corner_laws.proofs.MarkWritings.Directions.{small-mark}
use Rattle.corner_laws.proofs.MarkWritings.Fits.{whole_is_kept}
use Rattle.corner_laws.proofs.ZeroColumns.{direction_zero}
use Rattle.session_laws.specs.Answered.Examples.{first, zero_stay}
use Rattle.frac_core.proofs.Lists.{pairs-nil as pairs-none}
use Rattle.corner_laws.proofs.Instances.UnitExamples.{one-not-zero as no-one}

-- ---- it is whole

row-whole : (id attr : ℕ) (rel : Rel) → 0 < id → id ≤ 4 → 0 < attr → attr ≤ 4 → IsRow (required_row id attr rel zero_fraction)
row-whole id attr rel a b c d = record {
  number = (a, omega (arith, b));
  rank = omega arith;
  weight = (omega arith, omega arith);
  scale = (omega arith, omega arith);
  constant = whole_is_kept 0 (omega arith);
  terms = All-from_recursion IsTerm (record { attr = attr; by = pos 1 } ∷ []) (record { attr = (c, omega (arith, d)); nonzero = λ e. omega (arith, ints, e); small = omega arith }, tt);
  rising = λ i j t less within. absurd (omega (arith, less, within));
  count = omega arith;
}

stay-whole : (attr : ℕ) → 0 < attr → attr ≤ 4 → IsStay (zero_stay attr)
stay-whole attr a b = record { attr = (a, omega (arith, b)); target = whole_is_kept 0 (omega arith) }

pub pairs : {X : Type 0} (R : X → X → Type 0) (x : X) (xs : List X) → Each (R x) xs → AllPairs R xs → AllPairs R (x ∷ xs)
pairs R x xs h rest = AllPairs-cons R x xs (All-from_recursion (R x) xs h) rest

covers : (n : ℕ) (rel : Rel) → HasStay first.stays n → IsCovered first.stays (required_row n n rel zero_fraction)
covers attr rel has = All-from_recursion (λ (t : Term). HasStay first.stays t.attr) (record { attr = attr; by = pos 1 } ∷ []) (has, tt)

abbrev R : ℕ → Rel → Row
R n rel = required_row n n rel zero_fraction

abbrev Below : Row → Row → Type 0
Below r s = r.id < s.id

abbrev Apart : Stay → Stay → Type 0
Apart s t = s.attr ≢ t.attr

rising-ids : AllPairs (λ r s. r.id < s.id) first.rows
rising-ids =
    pairs Below (R 1 Eq) (R 2 Eq ∷ R 3 Ge ∷ R 4 Ge ∷ []) (omega arith, (omega arith, (omega arith, tt)))
    (pairs Below (R 2 Eq) (R 3 Ge ∷ R 4 Ge ∷ []) (omega arith, (omega arith, tt))
    (pairs Below (R 3 Ge) (R 4 Ge ∷ []) (omega arith, tt) (pairs Below (R 4 Ge) [] tt (pairs-none Below))))

apart-attrs : AllPairs (λ s t. s.attr ≢ t.attr) first.stays
apart-attrs =
    pairs Apart (zero_stay 1) (zero_stay 2 ∷ zero_stay 3 ∷ zero_stay 4 ∷ []) ((λ e. omega (arith, e)), ((λ e. omega (arith, e)), ((λ e. omega (arith, e)), tt)))
    (pairs Apart (zero_stay 2) (zero_stay 3 ∷ zero_stay 4 ∷ []) ((λ e. omega (arith, e)), ((λ e. omega (arith, e)), tt))
    (pairs Apart (zero_stay 3) (zero_stay 4 ∷ []) ((λ e. omega (arith, e)), tt) (pairs Apart (zero_stay 4) [] tt (pairs-none Apart))))

pub first-whole : IsWhole first
first-whole = record {
  rows = All-from_recursion IsRow first.rows (
    row-whole 1 1 Eq (omega arith) (omega arith) (omega arith) (omega arith),
    (
      row-whole 2 2 Eq (omega arith) (omega arith) (omega arith) (omega arith),
      (row-whole 3 3 Ge (omega arith) (omega arith) (omega arith) (omega arith), (row-whole 4 4 Ge (omega arith) (omega arith) (omega arith) (omega arith), tt)),
    ),
  );
  stays = All-from_recursion IsStay first.stays (stay-whole 1 (omega arith) (omega arith), (stay-whole 2 (omega arith) (omega arith), (stay-whole 3 (omega arith) (omega arith), (stay-whole 4 (omega arith) (omega arith), tt))));
  rising = rising-ids;
  apart = apart-attrs;
  covered = All-from_recursion (IsCovered first.stays) first.rows (
    covers 1 Eq (0, zero_stay 1, omega arith, refl, refl),
    (
      covers 2 Eq (1, zero_stay 2, omega arith, refl, refl),
      (
        covers 3 Ge (2, zero_stay 3, omega arith, refl, refl),
        (covers 4 Ge (3, zero_stay 4, omega arith, refl, refl), tt),
      ),
    ),
  );
  row_count = omega arith;
  stay_count = omega arith;
}

-- ---- at most one mark

-- a mark of the problem
abbrev pub IsMark : ℕ → Type 0
IsMark c = Contains (map place (marks_of (lines first))) c

-- the column c moves by k, d by l and e by m
abbrev moving : ℕ → ℤ → ℕ → ℤ → ℕ → ℤ → ℕ → ℤ
moving c k d l e m v = cond (nat_eq v c) k (cond (nat_eq v d) l (cond (nat_eq v e) m (pos 0)))

elsewhere : (c d e : ℕ) (k l m : ℤ) (v : ℕ) → v ≢ c → v ≢ d → v ≢ e → moving c k d l e m v ≡ pos 0
elsewhere c d e k l m v a b n =
    ap (λ (t : _). cond t k (cond (nat_eq v d) l (cond (nat_eq v e) m (pos 0)))) (ne_eqb v c a)
    ∙ ap (λ (t : _). cond t l (cond (nat_eq v e) m (pos 0))) (ne_eqb v d b) ∙ ap (λ (t : _). cond t m (pos 0)) (ne_eqb v e n)

here : (c d e : ℕ) (k l m : ℤ) → moving c k d l e m c ≡ k
here c d e k l m = ap (λ (t : _). cond t k (cond (nat_eq c d) l (cond (nat_eq c e) m (pos 0)))) (eq-eqb c c refl)

-- where the equations still hold as two marks move with their attribute, one of the marks is outside
crossed : (at : List Mark) (c d e : ℕ) (k l m : ℤ) → IsCorner first at → Each (λ n. value_at (moving c k d l e m) (equation n) ≡ pos 0) (lines first) → moving c k d l e m one_column ≡ pos 0
    → k ≢ pos 0 → attr_column 0 ≤ e → IsMark c → IsIn c at → IsIn d at → ⊥
crossed at c d e k l m corner holds still some high mark i j =
    some (sym (here c d e k l m)
    ∙ direction_zero first at (moving c k d l e m) c corner (record { holds = All-from_recursion (λ n. value_at (moving c k d l e m) (equation n) ≡ pos 0) (lines first) holds; still = still })
    (λ v out is. elsewhere c d e k l m v (λ q. out (subst (λ (u : ℕ). IsIn u at) (sym q) i)) (λ q. out (subst (λ (u : ℕ). IsIn u at) (sym q) j)) (λ q. let small = small-mark first v first-whole is in absurd (omega (arith, small, q, high))))
    mark)

-- an attribute's row has the marks at 4b and 4b + 1, its stay those at 4b + 2 and 4b + 3
pub record IsBlock (at : List Mark) (b : ℕ) : Type 0 where
  pub marks : IsMark (4 * b) × IsMark (4 * b + 1) × IsMark (4 * b + 2) × IsMark (4 * b + 3)
  pub row : IsIn (4 * b) at → IsIn (4 * b + 1) at → ⊥
  pub stay : IsIn (4 * b + 2) at → IsIn (4 * b + 3) at → ⊥
  pub unders : IsIn (4 * b) at → IsIn (4 * b + 2) at → ⊥
  pub under_over : IsIn (4 * b) at → IsIn (4 * b + 3) at → ⊥
  pub over_under : IsIn (4 * b + 1) at → IsIn (4 * b + 2) at → ⊥
  pub overs : IsIn (4 * b + 1) at → IsIn (4 * b + 3) at → ⊥
  pub row_holds : (x : Point) → Solves first x → pos 1 *ℤ x.num (4 * b) +ℤ (negsuc 0 *ℤ x.num (4 * b + 1) +ℤ (pos 0 *ℤ x.num one_column +ℤ (pos 1 *ℤ x.num (attr_column b) +ℤ pos 0))) ≡ pos 0
  pub stay_holds : (x : Point) → Solves first x → pos 1 *ℤ x.num (4 * b + 2) +ℤ (negsuc 0 *ℤ x.num (4 * b + 3) +ℤ (pos 0 *ℤ x.num one_column +ℤ (pos 1 *ℤ x.num (attr_column b) +ℤ pos 0))) ≡ pos 0

zeros : Each (λ (n : ℕ). pos 0 ≡ pos 0) (1 ∷ 2 ∷ 3 ∷ 4 ∷ 5 ∷ 6 ∷ 7 ∷ 8 ∷ [])
zeros = (refl, (refl, (refl, (refl, (refl, (refl, (refl, (refl, tt))))))))

solved : (x : Point) → Solves first x → Each (λ l. value_at x.num (equation l) ≡ pos 0) (lines first)
solved x h = recursion_from_All (λ l. value_at x.num (equation l) ≡ pos 0) (lines first) h

pub block-1 : (at : List Mark) → IsCorner first at → IsBlock at 1
block-1 at corner = record {
  marks = ((0, omega arith, refl), (1, omega arith, refl), (8, omega arith, refl), (9, omega arith, refl));
  row = one_mark first at (Held 1) (omega arith) corner;
  stay = one_mark first at (StayOf 1) (omega arith) corner;
  unders = crossed at 4 6 (attr_column 1) (pos 1) (pos 1) (negsuc 0) corner zeros refl no-one (omega arith) (0, omega arith, refl);
  under_over = crossed at 4 7 (attr_column 1) (pos 1) (negsuc 0) (negsuc 0) corner zeros refl no-one (omega arith) (0, omega arith, refl);
  over_under = crossed at 5 6 (attr_column 1) (pos 1) (negsuc 0) (pos 1) corner zeros refl no-one (omega arith) (1, omega arith, refl);
  overs = crossed at 5 7 (attr_column 1) (pos 1) (pos 1) (pos 1) corner zeros refl no-one (omega arith) (1, omega arith, refl);
  row_holds = λ x h. (solved x h).0;
  stay_holds = λ x h. (solved x h).1.1.1.1.0;
}

pub block-2 : (at : List Mark) → IsCorner first at → IsBlock at 2
block-2 at corner = record {
  marks = ((2, omega arith, refl), (3, omega arith, refl), (10, omega arith, refl), (11, omega arith, refl));
  row = one_mark first at (Held 2) (omega arith) corner;
  stay = one_mark first at (StayOf 2) (omega arith) corner;
  unders = crossed at 8 10 (attr_column 2) (pos 1) (pos 1) (negsuc 0) corner zeros refl no-one (omega arith) (2, omega arith, refl);
  under_over = crossed at 8 11 (attr_column 2) (pos 1) (negsuc 0) (negsuc 0) corner zeros refl no-one (omega arith) (2, omega arith, refl);
  over_under = crossed at 9 10 (attr_column 2) (pos 1) (negsuc 0) (pos 1) corner zeros refl no-one (omega arith) (3, omega arith, refl);
  overs = crossed at 9 11 (attr_column 2) (pos 1) (pos 1) (pos 1) corner zeros refl no-one (omega arith) (3, omega arith, refl);
  row_holds = λ x h. (solved x h).1.0;
  stay_holds = λ x h. (solved x h).1.1.1.1.1.0;
}

pub block-3 : (at : List Mark) → IsCorner first at → IsBlock at 3
block-3 at corner = record {
  marks = ((4, omega arith, refl), (5, omega arith, refl), (12, omega arith, refl), (13, omega arith, refl));
  row = one_mark first at (Held 3) (omega arith) corner;
  stay = one_mark first at (StayOf 3) (omega arith) corner;
  unders = crossed at 12 14 (attr_column 3) (pos 1) (pos 1) (negsuc 0) corner zeros refl no-one (omega arith) (4, omega arith, refl);
  under_over = crossed at 12 15 (attr_column 3) (pos 1) (negsuc 0) (negsuc 0) corner zeros refl no-one (omega arith) (4, omega arith, refl);
  over_under = crossed at 13 14 (attr_column 3) (pos 1) (negsuc 0) (pos 1) corner zeros refl no-one (omega arith) (5, omega arith, refl);
  overs = crossed at 13 15 (attr_column 3) (pos 1) (pos 1) (pos 1) corner zeros refl no-one (omega arith) (5, omega arith, refl);
  row_holds = λ x h. (solved x h).1.1.0;
  stay_holds = λ x h. (solved x h).1.1.1.1.1.1.0;
}

pub block-4 : (at : List Mark) → IsCorner first at → IsBlock at 4
block-4 at corner = record {
  marks = ((6, omega arith, refl), (7, omega arith, refl), (14, omega arith, refl), (15, omega arith, refl));
  row = one_mark first at (Held 4) (omega arith) corner;
  stay = one_mark first at (StayOf 4) (omega arith) corner;
  unders = crossed at 16 18 (attr_column 4) (pos 1) (pos 1) (negsuc 0) corner zeros refl no-one (omega arith) (6, omega arith, refl);
  under_over = crossed at 16 19 (attr_column 4) (pos 1) (negsuc 0) (negsuc 0) corner zeros refl no-one (omega arith) (6, omega arith, refl);
  over_under = crossed at 17 18 (attr_column 4) (pos 1) (negsuc 0) (pos 1) corner zeros refl no-one (omega arith) (7, omega arith, refl);
  overs = crossed at 17 19 (attr_column 4) (pos 1) (pos 1) (pos 1) corner zeros refl no-one (omega arith) (7, omega arith, refl);
  row_holds = λ x h. (solved x h).1.1.1.0;
  stay_holds = λ x h. (solved x h).1.1.1.1.1.1.1.0;
}
