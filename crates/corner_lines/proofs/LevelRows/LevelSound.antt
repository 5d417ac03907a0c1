-- Problems some rows of which have no weight yet.
use Rattle.std.proofs.Common.{◌≡◌, ◌≢◌, ◌∙◌, ℕ, ◌-◌, ◌<◌, ◌≤◌, Bool, true, false, cond, nat_eq, List, [], ◌∷◌, ◌++◌, length, map, ℤ, pos, refl, sym, ap, ap₂, subst, arith, All, Contains}
use Rattle.std.specs.List.{AllByRecursion as Each}
use Rattle.std.proofs.lemmas.List.Elements.{All-from_recursion, recursion_from_All}
use Rattle.problem_core.specs.declared.parts.Mark.{Mark}
use Rattle.problem_core.specs.declared.parts.Side.TheVariants.{Under, Over}
use Rattle.problem_core.specs.declared.parts.RowName.{RowName}
use Rattle.problem_core.specs.declared.parts.Term.{Term}
use Rattle.problem_core.specs.Layout.{Line, Problem, Row, line_of_row, lines, stay_lines, value_at}
use Rattle.problem_core.specs.Corners.{Agree, IsCorner, IsIn, Point, StandsAt, attr_column, equation, marks_of, place, place_of}
use Rattle.problem_core.specs.Rays.{HasRays}
use Rattle.problem_core.specs.Unfit.{lightened, with_first_rows, without_weight}
use Rattle.problem_core.proofs.Wholes.{whole-IsProblem}
use Rattle.problem_core.proofs.Forms.{each-impl}
use Rattle.corner_laws.proofs.LevelCosts.LevelSmall.{lines_light}
use Rattle.corner_laws.proofs.LinePlaces.{AllApart, AreApart, lines_apart}
use Rattle.corner_lines.specs.Levels.LevelCosts.{AreDifferent, FirstRowsAreSound, IsSound, WholeIsSound}
use Rattle.problem_core.specs.declared.limits.TheConstants.{WEIGHT_LIMIT}

-- ---- names

apart-names : (ls : List Line) → AllApart ls → AreDifferent (map (λ l. l.name) ls)
apart-names [] h = tt
apart-names (l ∷ ls) h = (All-from_recursion (λ m. l.name ≢ m) (map (λ (l : Line). l.name) ls) (each-names l.name ls (each-impl (AreApart l) (λ k. l.name ≢ k.name) ls (λ k a e. a.under_under (ap (λ (n : RowName). place_of n Under) e)) h.0)), apart-names ls h.1)
  where
    each-names : (n : RowName) (ls : List Line) → Each (λ k. n ≢ k.name) ls → Each (λ m. n ≢ m) (map (λ (l : Line). l.name) ls)
    each-names n [] h = tt
    each-names n (l ∷ ls) h = (h.0, each-names n ls h.1)

pub whole_is_sound : WholeIsSound
whole_is_sound p whole = record { problem = whole-IsProblem p whole; names = apart-names (lines p) (lines_apart p whole); weights = All-from_recursion (λ l. l.weight ≤ WEIGHT_LIMIT) (lines p) (lines_light p whole) }

-- ---- what does not see the weights

without-same : {A : Type 0} (f : Line → A) → ((r : Row) → f (line_of_row (without_weight r)) ≡ f (line_of_row r)) → (b : Bool) (r : Row) → f (line_of_row (cond b (without_weight r) r)) ≡ f (line_of_row r)
without-same f h true r = h r
without-same f h false r = refl

either-same : {A : Type 0} (f : Line → A) (b : Bool) (x r : Row) (xs ys rows : List Row) (ls : List Line) → f (line_of_row x) ≡ f (line_of_row r) → map f (map line_of_row xs ++ ls) ≡ map f (map line_of_row rows ++ ls) → map f (map line_of_row ys ++ ls) ≡ map f (map line_of_row rows ++ ls)
    → map f (map line_of_row (cond b (x ∷ xs) (r ∷ ys)) ++ ls) ≡ map f (map line_of_row (r ∷ rows) ++ ls)
either-same f true x r xs ys rows ls e h k = ap₂ (λ u us. u ∷ us) e h
either-same f false x r xs ys rows ls e h k = ap (λ us. f (line_of_row r) ∷ us) k

pub seen-same : {A : Type 0} (f : Line → A) → ((r : Row) → f (line_of_row (without_weight r)) ≡ f (line_of_row r)) → (level j : ℕ) (rows : List Row) (ls : List Line) → map f (map line_of_row (lightened level j rows) ++ ls) ≡ map f (map line_of_row rows ++ ls)
seen-same f h level j [] ls = refl
seen-same f h level j (r ∷ rows) ls = either-same f (nat_eq (1000 - r.rank) level) (cond (nat_eq j 0) (without_weight r) r) r (lightened level (j - 1) rows) (lightened level j rows) rows ls (without-same f h (nat_eq j 0) r) (seen-same f h level (j - 1) rows ls) (seen-same f h level j rows ls)

map-each : {A : Type 0} (f : Line → A) (P : A → Type 0) (ls : List Line) → Each (λ l. P (f l)) ls → Each P (map f ls)
map-each f P [] h = tt
map-each f P (l ∷ ls) h = (h.0, map-each f P ls h.1)

each-map : {A : Type 0} (f : Line → A) (P : A → Type 0) (ls : List Line) → Each P (map f ls) → Each (λ l. P (f l)) ls
each-map f P [] h = tt
each-map f P (l ∷ ls) h = (h.0, each-map f P ls h.1)

-- what holds of what is seen of each line
pub seen-each : {A : Type 0} (f : Line → A) (P : A → Type 0) (ls ms : List Line) → map f ls ≡ map f ms → Each (λ l. P (f l)) ls → Each (λ l. P (f l)) ms
seen-each f P ls ms e h = each-map f P ms (subst (Each P) e (map-each f P ls h))

marks_from : List RowName → List Mark
marks_from [] = []
marks_from (n ∷ ns) = record { row = n; side = Under } ∷ record { row = n; side = Over } ∷ marks_from ns

from-names : (ls : List Line) → marks_from (map (λ l. l.name) ls) ≡ marks_of ls
unfolding marks_from
from-names [] = refl
from-names (l ∷ ls) = ap (λ (ms : List Mark). record { row = l.name; side = Under } ∷ record { row = l.name; side = Over } ∷ ms) (from-names ls)

marks-seen : (ls ms : List Line) → map (λ l. l.name) ls ≡ map (λ l. l.name) ms → marks_of ls ≡ marks_of ms
marks-seen ls ms e = sym (from-names ls) ∙ ap marks_from e ∙ from-names ms

-- ---- the first rows of a level

-- two problems with the same equations and marks
pub record AreSeenSame (p q : Problem) : Type 0 where
  pub equations : map equation (lines p) ≡ map equation (lines q)
  pub marks : marks_of (lines p) ≡ marks_of (lines q)
  pub stays : p.stays ≡ q.stays
  pub count : length p.rows ≡ length q.rows

pub same-solves : (p q : Problem) (n : ℕ → ℤ) → AreSeenSame p q → All (λ l. value_at n (equation l) ≡ pos 0) (lines p) → All (λ l. value_at n (equation l) ≡ pos 0) (lines q)
same-solves p q n s h = All-from_recursion (λ l. value_at n (equation l) ≡ pos 0) (lines q) (seen-each equation (λ (form : List Term). value_at n form ≡ pos 0) (lines p) (lines q) s.equations (recursion_from_All (λ l. value_at n (equation l) ≡ pos 0) (lines p) h))

pub seen-sym : (p q : Problem) → AreSeenSame p q → AreSeenSame q p
seen-sym p q s = record { equations = sym s.equations; marks = sym s.marks; stays = sym s.stays; count = sym s.count }

pub same-stands : (p q : Problem) (at : List Mark) (x : Point) → AreSeenSame p q → StandsAt p at x → StandsAt q at x
same-stands p q at x s h = (same-solves p q x.num s h.0, subst (λ (ms : List Mark). All (λ m. (IsIn (place m) at → ⊥) → x.num (place m) ≡ pos 0) ms) s.marks h.1)

pub same-corner : (p q : Problem) (at : List Mark) → AreSeenSame p q → IsCorner p at → IsCorner q at
same-corner p q at s c = record {
  count = c.count ∙ s.count;
  marks = subst (λ (ms : List Mark). All (λ m. Contains (map place ms) (place m)) at) s.marks c.marks;
  apart = c.apart;
  point = c.point;
  stands = same-stands p q at c.point s c.stands;
  marks_fixed = λ y h. subst (λ (ms : List Mark). All (λ m. Agree (place m) c.point y) ms) s.marks (c.marks_fixed y (same-stands q p at y (seen-sym p q s) h));
  attrs_fixed = λ y h. subst (λ stays. All (λ s. Agree (attr_column s.attr) c.point y) stays) s.stays (c.attrs_fixed y (same-stands q p at y (seen-sym p q s) h));
}

pub same-rays : (p q : Problem) (at : List Mark) → AreSeenSame p q → HasRays p at → HasRays q at
same-rays p q at s rays c mark out =
    let r = rays c (subst (λ (ms : List Mark). Contains (map place ms) c) (sym s.marks) mark) out in (
      r.0,
      record {
        holds = same-solves p q r.0 s r.1.holds;
        still = r.1.still;
        here = r.1.here;
        other = subst (λ (ms : List Mark). All (λ m. (IsIn (place m) at → ⊥) → place m ≢ c → r.0 (place m) ≡ pos 0) ms) s.marks r.1.other;
      },
    )

either-count : (b : Bool) (x r : Row) (xs ys rows : List Row) → length xs ≡ length rows → length ys ≡ length rows → length (cond b (x ∷ xs) (r ∷ ys)) ≡ length (r ∷ rows)
either-count true x r xs ys rows e f = omega (arith, e)
either-count false x r xs ys rows e f = omega (arith, f)

light-count : (level j : ℕ) (rows : List Row) → length (lightened level j rows) ≡ length rows
light-count level j [] = refl
light-count level j (r ∷ rows) = either-count (nat_eq (1000 - r.rank) level) (cond (nat_eq j 0) (without_weight r) r) r (lightened level (j - 1) rows) (lightened level j rows) rows (light-count level (j - 1) rows) (light-count level j rows)

pub first-seen : (p : Problem) (level j : ℕ) → AreSeenSame p (with_first_rows level j p)
first-seen p level j = record {
  equations = sym (seen-same equation (λ r. refl) level j p.rows (stay_lines 1001 p.stays));
  marks = marks-seen (lines p) (lines (with_first_rows level j p)) (sym (seen-same (λ l. l.name) (λ r. refl) level j p.rows (stay_lines 1001 p.stays)));
  stays = refl;
  count = sym (light-count level j p.rows);
}

pub light-row : (b : Bool) (r : Row) → r.weight ≤ WEIGHT_LIMIT → (cond b (without_weight r) r).weight ≤ WEIGHT_LIMIT
light-row true r h = omega arith
light-row false r h = h

pub either-light : (b : Bool) (x r : Row) (xs ys : List Row) (ls : List Line) → x.weight ≤ WEIGHT_LIMIT → r.weight ≤ WEIGHT_LIMIT → Each (λ l. l.weight ≤ WEIGHT_LIMIT) (map line_of_row xs ++ ls) → Each (λ l. l.weight ≤ WEIGHT_LIMIT) (map line_of_row ys ++ ls) → Each (λ l. l.weight ≤ WEIGHT_LIMIT) (map line_of_row (cond b (x ∷ xs) (r ∷ ys)) ++ ls)
either-light true x r xs ys ls e f h k = (e, h)
either-light false x r xs ys ls e f h k = (f, k)

pub all-light : (level j : ℕ) (rows : List Row) (ls : List Line) → Each (λ l. l.weight ≤ WEIGHT_LIMIT) (map line_of_row rows ++ ls) → Each (λ l. l.weight ≤ WEIGHT_LIMIT) (map line_of_row (lightened level j rows) ++ ls)
all-light level j [] ls h = h
all-light level j (r ∷ rows) ls h = either-light (nat_eq (1000 - r.rank) level) (cond (nat_eq j 0) (without_weight r) r) r (lightened level (j - 1) rows) (lightened level j rows) ls (light-row (nat_eq j 0) r h.0) h.0 (all-light level (j - 1) rows ls h.1) (all-light level j rows ls h.1)

pub first_rows_are_sound : FirstRowsAreSound
first_rows_are_sound p at level j whole corner rays =
    let q : Problem = with_first_rows level j p in
    let s : IsSound p = whole_is_sound p whole in (
      record {
        problem = All-from_recursion (λ l. (0 < l.scale) × (0 < l.den)) (lines q)
            (seen-each (λ l. (l.scale, l.den)) (λ (u : ℕ × ℕ). (0 < u.0) × (0 < u.1)) (lines p) (lines q) (sym (seen-same (λ l. (l.scale, l.den)) (λ r. refl) level j p.rows (stay_lines 1001 p.stays))) (recursion_from_All _ (lines p) s.problem));
        names = subst AreDifferent (sym (seen-same (λ l. l.name) (λ r. refl) level j p.rows (stay_lines 1001 p.stays))) s.names;
        weights = All-from_recursion (λ l. l.weight ≤ WEIGHT_LIMIT) (lines q) (all-light level j p.rows (stay_lines 1001 p.stays) (recursion_from_All (λ l. l.weight ≤ WEIGHT_LIMIT) (lines p) s.weights));
      },
      same-corner p q at (first-seen p level j) corner,
      same-rays p q at (first-seen p level j) rays,
    )
