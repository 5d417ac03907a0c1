-- What a level costs where a row's constant changes: it grows by the row's number in the level's row.
use Rattle.std.proofs.Common.{◌≡◌, ◌∙◌, ℕ, ◌*◌, ◌/◌, ◌<◌, List, [], ◌∷◌, map, refl, sym, ap, ap₂, subst, arith, inl, inr, ℤ, pos, ◌+ℤ◌, ◌-ℤ◌, ◌*ℤ◌, neg_ℤ, Contains, mul-pos}
use Rattle.std.specs.List.{AllByRecursion as Each}
use Rattle.std.specs.Int.{◌∣◌}
use Rattle.std.proofs.lemmas.Bool.{cases_Bool}
use Rattle.std.proofs.lemmas.List.Elements.{recursion_from_All}
use lib.IntN.{*ℤ_comm}
use borrow.Author.Differences.{ints}
use Rattle.frac_core.specs.Fraction.{Fraction, IsKept, IsRatio, IsUnfitRatio, sum_den, sum_num}
use Rattle.frac_core.proofs.Integers.{cancel_mul, mul-add_left, mul-sub_left, mul-zero_ℤ, mul_assoc_ℤ, mul_left_comm_ℤ, mul_positive, zero-mul_ℤ, zero_from_mul}
use Rattle.problem_core.specs.declared.parts.Mark.{Mark}
use Rattle.problem_core.specs.declared.parts.RowName.{RowName}
use Rattle.problem_core.specs.declared.parts.RowName.TheVariants.{Held}
use Rattle.problem_core.specs.declared.parts.Side.{Side}
use Rattle.problem_core.specs.declared.parts.Side.TheVariants.{Under, Over}
use Rattle.problem_core.specs.Layout.{IsProblem, Line, Problem, lines, sum_of}
use Rattle.problem_core.specs.Kept.{IsWhole}
use Rattle.problem_core.specs.Certificates.{weight_at}
use Rattle.problem_core.specs.Corners.{IsCorner, IsIn, Point, Solves, StandsAt, column, marks_of, one_column, place, place_of}
use Rattle.problem_core.specs.Rays.{HasRays}
use Rattle.problem_core.specs.Levels.{HasNoLevelWriting, IsCostAt, alone, cost_at, scales}
use Rattle.problem_core.proofs.Corners.CornerFacts.{is_place}
use Rattle.problem_core.proofs.Forms.{each-both, each-impl, mul-sum, sum-add, sum-cong, sum-zero}
use Rattle.problem_core.proofs.Wholes.{whole-IsProblem}
use Rattle.corner_laws.specs.Units.{IsLevelRow, IsLevelUnit}
use Rattle.corner_laws.proofs.Counting.{IsIn-from_is_place}
use Rattle.corner_laws.proofs.LevelCosts.Gaps.{deviation as gap, direction_cost, moved_columns, shares, sums-split}
use Rattle.corner_laws.proofs.WrittenValues.{nothing_outside}
use Rattle.corner_laws.proofs.ZeroColumns.{here-in, not-in, scales-above}
use Rattle.corner_lines.specs.LineEquations.{deviation}
use Rattle.corner_lines.specs.Levels.LevelRows.{inside_number}
use Rattle.corner_lines.specs.Shifts.{IsShift, with_constant}
use Rattle.corner_lines.proofs.Costs.LevelCosts.{column-is, cost-ratio, cost-step, reduced-none, step-solves}
use Rattle.corner_lines.proofs.LevelRows.LevelExchanges.{inside-numbers}
use Rattle.corner_lines.proofs.Costs.LevelPlaces.{cost_everywhere}
use Rattle.corner_lines.proofs.ProblemChanges.Shifted.{held-named, names-sum, raised-other, shift-small, unshift-solves, unshifted, raised-sum}
use Rattle.corner_lines.proofs.ProblemChanges.ShiftedCorner.{shift_corner}
use Rattle.corner_view.proofs.Seen.ShiftedLines.{row_seen_alike, shift_seen, shift_whole, unit_seen}
use Rattle.corner_view.proofs.Seen.SeenLines.{scales_seen}
use Rattle.corner_laws.proofs.PathEnds.Rises.{step}
use Rattle.corner_laws.proofs.RunSteps.ColumnSigns.{nothing}
use Rattle.frac_core.proofs.Numbers.{neg-times, mul-neg as mul-opp}

-- ---- the lines' deviations at a corner

-- the deviations, each as often as its line's number says
abbrev pub deviations : (RowName → ℤ) → (ℕ → ℤ) → List Line → ℤ
deviations by n ls = sum_of (λ l. by l.name *ℤ deviation l.name n) ls

both-ways : (by : RowName → ℤ) (n : ℕ → ℤ) (ls : List Line) → sum_of (λ l. by l.name *ℤ gap n l) ls +ℤ deviations by n ls ≡ pos 0
both-ways by n [] = refl
both-ways by n (l ∷ ls) =
    let u : ℤ = n (place_of l.name Under) in
    let o : ℤ = n (place_of l.name Over) in
    let a = mul-sub_left (by l.name) u o in
    let b = mul-sub_left (by l.name) o u in
    omega (arith, ints, a, b, both-ways by n ls)

-- an inside mark has no column, and an outside one is at 0
side-rests : (at : List Mark) (level unit own : ℕ) (by : RowName → ℤ) (x : ℕ → ℤ) (l : Line) (side : Side) → l.scale ∣ unit * weight_at l level → (IsIn (place_of l.name side) at → by l.name ≡ inside_number side level unit own l)
    → ((IsIn (place_of l.name side) at → ⊥) → x (place_of l.name side) ≡ pos 0) → column (alone (own * unit) by) side l level *ℤ x (place_of l.name side) ≡ pos 0
side-rests at level unit own by x l side whole inside outside =
    elim (cases_Bool (is_place at (place_of l.name side))) [
      | inl i ↦ ap (λ (c : ℤ). c *ℤ x (place_of l.name side)) (column-is side level unit own by l whole ∙ ap (λ (c : ℤ). pos l.scale *ℤ c) (reduced-none side level unit own (by l.name) l (inside (IsIn-from_is_place (place_of l.name side) at i))) ∙ mul-zero_ℤ (pos l.scale)) ∙ zero-mul_ℤ (x (place_of l.name side))
      | inr o ↦ ap (λ (c : ℤ). column (alone (own * unit) by) side l level *ℤ c) (outside (not-in at (place_of l.name side) o)) ∙ mul-zero_ℤ (column (alone (own * unit) by) side l level)
    ]

all-rest : (p : Problem) (at : List Mark) (level unit own : ℕ) (by : RowName → ℤ) (x : Point) → IsLevelUnit p level unit → IsLevelRow p at level unit own by → StandsAt p at x
    → Each (λ l. pos (scales p / l.scale) *ℤ moved_columns (alone (own * unit) by) x.num level l ≡ pos 0) (lines p)
all-rest p at level unit own by x is row stands =
    each-impl (λ l. (l.scale ∣ unit * weight_at l level) × (((side : Side) → IsIn (place_of l.name side) at → by l.name ≡ inside_number side level unit own l)
    × (Contains (map place (marks_of (lines p))) (place_of l.name Under) × Contains (map place (marks_of (lines p))) (place_of l.name Over)))) _ (lines p)
    (λ l h. nothing (scales p / l.scale) (column (alone (own * unit) by) Under l level *ℤ x.num (place_of l.name Under)) (column (alone (own * unit) by) Over l level *ℤ x.num (place_of l.name Over))
    (side-rests at level unit own by x.num l Under h.0 (h.1.0 Under) (λ out. nothing_outside p at x (place_of l.name Under) stands h.1.1.0 out))
    (side-rests at level unit own by x.num l Over h.0 (h.1.0 Over) (λ out. nothing_outside p at x (place_of l.name Over) stands h.1.1.1 out)))
    (each-both _ _ (lines p) (recursion_from_All _ (lines p) is.whole) (each-both _ _ (lines p) (inside-numbers p at level unit own by row) (here-in (lines p))))

from-split : (s w : ℕ) (m g d c : ℤ) → m ≡ pos 0 → m +ℤ pos s *ℤ g ≡ pos w *ℤ c → g +ℤ d ≡ pos 0 → pos s *ℤ d ≡ neg_ℤ (pos w *ℤ c)
from-split s w m g d c none split both =
    let back : d ≡ neg_ℤ g = omega (arith, ints, both) in
    let turned : pos s *ℤ d ≡ neg_ℤ (pos s *ℤ g) = ap (λ (z : ℤ). pos s *ℤ z) back ∙ mul-opp (pos s) g in
    omega (arith, ints, none, split, turned)

-- the level's cost is told by them
pub deviations_cost : (p : Problem) (at : List Mark) (level unit own : ℕ) (by : RowName → ℤ) (x : Point) → IsProblem p → IsLevelUnit p level unit → IsLevelRow p at level unit own by → StandsAt p at x
    → pos (scales p) *ℤ deviations by x.num (lines p) ≡ neg_ℤ (pos (own * unit) *ℤ cost_at p level x.num)
deviations_cost p at level unit own by x problem is row stands =
    from-split (scales p) (own * unit) (sum_of (λ l. pos (scales p / l.scale) *ℤ moved_columns (alone (own * unit) by) x.num level l) (lines p)) (sum_of (λ l. by l.name *ℤ gap x.num l) (lines p)) (deviations by x.num (lines p)) (cost_at p level x.num)
    (sum-zero (λ l. pos (scales p / l.scale) *ℤ moved_columns (alone (own * unit) by) x.num level l) (lines p) (all-rest p at level unit own by x is row stands))
    (sums-split (alone (own * unit) by) x.num level (scales p) (lines p) (shares p problem))
    (both-ways by x.num (lines p))

-- along a direction they cancel
from-cost : (s w : ℕ) (m g d c : ℤ) → 0 < s → pos w *ℤ c ≡ m → m +ℤ pos s *ℤ g ≡ pos w *ℤ c → g +ℤ d ≡ pos 0 → d ≡ pos 0
from-cost s w m g d c above cost split both =
    let none : g ≡ pos 0 = zero_from_mul s g above (omega (arith, ints, cost, split)) in
    omega (arith, ints, none, both)

no-deviations : (p : Problem) (at : List Mark) (level unit own : ℕ) (by : RowName → ℤ) (x z : Point) → IsProblem p → IsLevelRow p at level unit own by → Solves p x → Solves p z → deviations by (step x z) (lines p) ≡ pos 0
no-deviations p at level unit own by x z problem row here there =
    from-cost (scales p) (own * unit) (sum_of (λ l. pos (scales p / l.scale) *ℤ moved_columns (alone (own * unit) by) (step x z) level l) (lines p)) (sum_of (λ l. by l.name *ℤ gap (step x z) l) (lines p)) (deviations by (step x z) (lines p)) (cost_at p level (step x z))
    (scales-above p problem)
    (direction_cost p (alone (own * unit) by) (step x z) level problem row.cancel (still (x.num one_column) (z.num one_column)) (step-solves p x z here there))
    (sums-split (alone (own * unit) by) (step x z) level (scales p) (lines p) (shares p problem))
    (both-ways by (step x z) (lines p))
  where
    still : (a b : ℤ) → a *ℤ b +ℤ neg_ℤ b *ℤ a ≡ pos 0
    still a b = omega (arith, ints, neg-times b a, *ℤ_comm b a)

step-parts : (k a b u o v w : ℤ) → k *ℤ ((a *ℤ o +ℤ b *ℤ w) -ℤ (a *ℤ u +ℤ b *ℤ v)) ≡ a *ℤ (k *ℤ (o -ℤ u)) +ℤ b *ℤ (k *ℤ (w -ℤ v))
step-parts k a b u o v w =
    let inner : (a *ℤ o +ℤ b *ℤ w) -ℤ (a *ℤ u +ℤ b *ℤ v) ≡ a *ℤ (o -ℤ u) +ℤ b *ℤ (w -ℤ v) = omega (arith, ints, mul-sub_left a o u, mul-sub_left b w v) in
    ap (λ (z : ℤ). k *ℤ z) inner ∙ mul-add_left k (a *ℤ (o -ℤ u)) (b *ℤ (w -ℤ v)) ∙ ap₂ ◌+ℤ◌ (mul_left_comm_ℤ k a (o -ℤ u)) (mul_left_comm_ℤ k b (w -ℤ v))

step-deviations : (by : RowName → ℤ) (x z : Point) (ls : List Line) → deviations by (step x z) ls ≡ x.num one_column *ℤ deviations by z.num ls +ℤ neg_ℤ (z.num one_column) *ℤ deviations by x.num ls
step-deviations by x z ls =
    sum-cong (λ l. by l.name *ℤ deviation l.name (step x z)) (λ l. x.num one_column *ℤ (by l.name *ℤ deviation l.name z.num) +ℤ neg_ℤ (z.num one_column) *ℤ (by l.name *ℤ deviation l.name x.num)) ls
    (λ l. step-parts (by l.name) (x.num one_column) (neg_ℤ (z.num one_column)) (z.num (place_of l.name Under)) (z.num (place_of l.name Over)) (x.num (place_of l.name Under)) (x.num (place_of l.name Over)))
    ∙ sum-add (λ l. x.num one_column *ℤ (by l.name *ℤ deviation l.name z.num)) (λ l. neg_ℤ (z.num one_column) *ℤ (by l.name *ℤ deviation l.name x.num)) ls
    ∙ ap₂ ◌+ℤ◌ (mul-sum (x.num one_column) (λ l. by l.name *ℤ deviation l.name z.num) ls) (mul-sum (neg_ℤ (z.num one_column)) (λ l. by l.name *ℤ deviation l.name x.num) ls)

-- ---- a solution with the new constant, as one with the old

-- from a solution with the old constant to one with the new
shifted-deviations : (p : Problem) (at : List Mark) (id : ℕ) (c f more : Fraction) (level unit own : ℕ) (by : RowName → ℤ) (x y : Point) → IsWhole p → IsShift p id c f more → IsLevelRow p at level unit own by → Solves p x → Solves (with_constant id f p) y
    → x.num one_column *ℤ (pos more.den *ℤ deviations by y.num (lines (with_constant id f p)) +ℤ by (Held id) *ℤ (more.num *ℤ y.num one_column)) +ℤ neg_ℤ (pos more.den *ℤ y.num one_column) *ℤ deviations by x.num (lines p) ≡ pos 0
unfolding unshifted
shifted-deviations p at id c f more level unit own by x y whole s row here there =
    let small = shift-small p id c f more whole s in
    let z : Point = unshifted id small more.den s.more_positive more.num y in
    let one : z.num one_column ≡ pos more.den *ℤ y.num one_column = raised-other more.den (more.num *ℤ y.num one_column) (place_of (Held id) Over) y.num one_column (λ q. absurd (omega (arith, small, q))) in
    let sum : deviations by z.num (lines p) ≡ pos more.den *ℤ deviations by y.num (lines (with_constant id f p)) +ℤ by (Held id) *ℤ (more.num *ℤ y.num one_column) =
    raised-sum p id more.den (more.num *ℤ y.num one_column) by y.num whole (held-named p id s.held)
    ∙ ap (λ (t : ℤ). pos more.den *ℤ t +ℤ by (Held id) *ℤ (more.num *ℤ y.num one_column)) (sym (names-sum (λ n. by n *ℤ deviation n y.num) id f p)) in
    ap₂ (λ (t u : ℤ). x.num one_column *ℤ t +ℤ neg_ℤ u *ℤ deviations by x.num (lines p)) (sym sum) (sym one)
    ∙ sym (step-deviations by x z (lines p))
    ∙ no-deviations p at level unit own by x z (whole-IsProblem p whole) row here (unshift-solves p id c f more y.num small s there)

-- ---- the cost

-- D*(x1*(d*cy) - (d*z1)*cx) = S*(b*(x1*w)): with S*tx = -D*cx, S*ty = -D*cy, x1*(d*ty + b*w) = (d*z1)*tx
cost-parts : (D S d : ℕ) (x1 z1 cx cy tx ty b w : ℤ) → pos S *ℤ tx ≡ neg_ℤ (pos D *ℤ cx) → pos S *ℤ ty ≡ neg_ℤ (pos D *ℤ cy) → x1 *ℤ (pos d *ℤ ty +ℤ b *ℤ w) +ℤ neg_ℤ (pos d *ℤ z1) *ℤ tx ≡ pos 0
    → pos D *ℤ (x1 *ℤ (pos d *ℤ cy) +ℤ neg_ℤ (pos d *ℤ z1) *ℤ cx) ≡ pos S *ℤ (b *ℤ (x1 *ℤ w))
cost-parts D S d x1 z1 cx cy tx ty b w ex ey h =
    let k : ℤ = neg_ℤ (pos d *ℤ z1) in
    let uy : pos D *ℤ cy ≡ neg_ℤ (pos S *ℤ ty) = omega (arith, ints, ey) in
    let ux : pos D *ℤ cx ≡ neg_ℤ (pos S *ℤ tx) = omega (arith, ints, ex) in
    let first : pos D *ℤ (x1 *ℤ (pos d *ℤ cy)) ≡ neg_ℤ (x1 *ℤ (pos d *ℤ (pos S *ℤ ty))) =
    mul_left_comm_ℤ (pos D) x1 (pos d *ℤ cy) ∙ ap (λ (t : ℤ). x1 *ℤ t) (mul_left_comm_ℤ (pos D) (pos d) cy ∙ ap (λ (t : ℤ). pos d *ℤ t) uy ∙ mul-opp (pos d) (pos S *ℤ ty)) ∙ mul-opp x1 (pos d *ℤ (pos S *ℤ ty)) in
    let second : pos D *ℤ (k *ℤ cx) ≡ neg_ℤ (k *ℤ (pos S *ℤ tx)) = mul_left_comm_ℤ (pos D) k cx ∙ ap (λ (t : ℤ). k *ℤ t) ux ∙ mul-opp k (pos S *ℤ tx) in
    let left : pos D *ℤ (x1 *ℤ (pos d *ℤ cy) +ℤ k *ℤ cx) ≡ pos D *ℤ (x1 *ℤ (pos d *ℤ cy)) +ℤ pos D *ℤ (k *ℤ cx) = mul-add_left (pos D) (x1 *ℤ (pos d *ℤ cy)) (k *ℤ cx) in
    let none : pos S *ℤ (x1 *ℤ (pos d *ℤ ty +ℤ b *ℤ w) +ℤ k *ℤ tx) ≡ pos 0 = ap (λ (t : ℤ). pos S *ℤ t) h ∙ mul-zero_ℤ (pos S) in
    let spread : pos S *ℤ (x1 *ℤ (pos d *ℤ ty +ℤ b *ℤ w) +ℤ k *ℤ tx) ≡ (x1 *ℤ (pos d *ℤ (pos S *ℤ ty)) +ℤ pos S *ℤ (b *ℤ (x1 *ℤ w))) +ℤ k *ℤ (pos S *ℤ tx) =
    mul-add_left (pos S) (x1 *ℤ (pos d *ℤ ty +ℤ b *ℤ w)) (k *ℤ tx)
    ∙ ap₂ ◌+ℤ◌
    (ap (λ (t : ℤ). pos S *ℤ t) (mul-add_left x1 (pos d *ℤ ty) (b *ℤ w)) ∙ mul-add_left (pos S) (x1 *ℤ (pos d *ℤ ty)) (x1 *ℤ (b *ℤ w))
    ∙ ap₂ ◌+ℤ◌ (mul_left_comm_ℤ (pos S) x1 (pos d *ℤ ty) ∙ ap (λ (t : ℤ). x1 *ℤ t) (mul_left_comm_ℤ (pos S) (pos d) ty)) (ap (λ (t : ℤ). pos S *ℤ t) (mul_left_comm_ℤ x1 b w)))
    (mul_left_comm_ℤ (pos S) k tx) in
    omega (arith, ints, first, second, left, none, spread)

-- what is known where a constant changes at a corner
pub record IsShiftHere (p : Problem) (at : List Mark) (id : ℕ) (from to more : Fraction) : Type 0 where
  pub whole : IsWhole p
  pub corner : IsCorner p at
  pub rays : HasRays p at
  pub shift : IsShift p id from to more
  pub kept : IsKept to

pub after_corner : (p : Problem) (at : List Mark) (id : ℕ) (from to more : Fraction) → IsShiftHere p at id from to more → IsCorner (with_constant id to p) at
after_corner p at id from to more h = shift_corner p at id from to more h.whole h.corner h.rays h.shift

moved-cost : (p : Problem) (at : List Mark) (id : ℕ) (from to more : Fraction) (level unit own : ℕ) (by : RowName → ℤ) (x y : Point) → IsShiftHere p at id from to more → IsLevelUnit p level unit → IsLevelRow p at level unit own by → StandsAt p at x → StandsAt (with_constant id to p) at y
    → pos (own * unit) *ℤ (x.num one_column *ℤ (pos more.den *ℤ cost_at (with_constant id to p) level y.num) +ℤ neg_ℤ (pos more.den *ℤ y.num one_column) *ℤ cost_at p level x.num) ≡ pos (scales p) *ℤ (by (Held id) *ℤ (x.num one_column *ℤ (more.num *ℤ y.num one_column)))
moved-cost p at id from to more level unit own by x y h is row here there =
    let q : Problem = with_constant id to p in
    cost-parts (own * unit) (scales p) more.den (x.num one_column) (y.num one_column) (cost_at p level x.num) (cost_at q level y.num) (deviations by x.num (lines p)) (deviations by y.num (lines q)) (by (Held id)) (more.num *ℤ y.num one_column)
    (deviations_cost p at level unit own by x (whole-IsProblem p h.whole) is row here)
    (ap (λ (s : ℕ). pos s *ℤ deviations by y.num (lines q)) (sym (scales_seen q p (shift_seen p id to)))
    ∙ deviations_cost q at level unit own by y (whole-IsProblem q (shift_whole p id to h.kept h.whole)) (unit_seen p q level unit (sym (shift_seen p id to)) is) (row_seen_alike p q at level unit own by (sym (shift_seen p id to)) row) there)
    (shifted-deviations p at id from to more level unit own by x y h.whole h.shift row here.0 there.0)

over-den : (e y : ℤ) (d : ℕ) → (e *ℤ y) *ℤ pos d ≡ e *ℤ (pos d *ℤ y)
over-den e y d = mul_assoc_ℤ e y (pos d) ∙ ap (λ (z : ℤ). e *ℤ z) (*ℤ_comm y (pos d))

den-out : (d n s : ℕ) (c f y : ℤ) → 0 < d → (pos d *ℤ c) *ℤ pos n ≡ f *ℤ (pos s *ℤ (pos d *ℤ y)) → c *ℤ pos n ≡ f *ℤ (pos s *ℤ y)
den-out d n s c f y above h =
    cancel_mul d (c *ℤ pos n) (f *ℤ (pos s *ℤ y)) above
    (sym (mul_assoc_ℤ (pos d) c (pos n)) ∙ h ∙ ap (λ (z : ℤ). f *ℤ z) (mul_left_comm_ℤ (pos s) (pos d) y) ∙ mul_left_comm_ℤ f (pos d) (pos s *ℤ y))

den-in : (d n s : ℕ) (c f y : ℤ) → c *ℤ pos n ≡ f *ℤ (pos s *ℤ y) → (pos d *ℤ c) *ℤ pos n ≡ f *ℤ (pos s *ℤ (pos d *ℤ y))
den-in d n s c f y h =
    mul_assoc_ℤ (pos d) c (pos n) ∙ ap (λ (z : ℤ). pos d *ℤ z) h ∙ mul_left_comm_ℤ (pos d) f (pos s *ℤ y) ∙ ap (λ (z : ℤ). f *ℤ z) (mul_left_comm_ℤ (pos d) (pos s) y)

-- it grows by the row's number over the level's own and its unit
pub shifted_cost : (p : Problem) (at : List Mark) (id : ℕ) (from to more : Fraction) (level unit own : ℕ) (by : RowName → ℤ) (cost next : Fraction) → IsShiftHere p at id from to more → IsLevelUnit p level unit → IsLevelRow p at level unit own by → 0 < cost.den → IsCostAt p at level cost
    → IsRatio next (sum_num cost (by (Held id)) (pos (own * unit)) more) (sum_den cost (pos (own * unit)) more) → IsCostAt (with_constant id to p) at level next
shifted_cost p at id from to more level unit own by cost next h is row above (x, here, e) ratio =
    let q : Problem = with_constant id to p in
    let corner : IsCorner q at = after_corner p at id from to more h in
    let y : Point = corner.point in
    let same : scales q ≡ scales p = scales_seen q p (shift_seen p id to) in (
      y,
      corner.stands,
      subst (λ (s : ℕ). cost_at q level y.num *ℤ pos next.den ≡ next.num *ℤ (pos s *ℤ y.num one_column)) (sym same)
          (den-out more.den next.den (scales p) (cost_at q level y.num) next.num (y.num one_column) h.shift.more_positive
          (cost-step (x.num one_column) (pos more.den *ℤ y.num one_column) (own * unit) (scales p) cost more next (cost_at p level x.num) (pos more.den *ℤ cost_at q level y.num) (by (Held id)) (more.num *ℤ y.num one_column)
          x.positive (mul_positive more.den (y.num one_column) h.shift.more_positive y.positive) (mul-pos row.own_positive is.above)
          (record { cost_den = above; value_den = h.shift.more_positive; ratio = ratio })
          (moved-cost p at id from to more level unit own by x y h is row here corner.stands) e (over-den more.num (y.num one_column) more.den))),
    )

-- where the sum does not fit, no writing of the level does
pub unfit_shifted_cost : (p : Problem) (at : List Mark) (id : ℕ) (from to more : Fraction) (level unit own : ℕ) (by : RowName → ℤ) (cost : Fraction) → IsShiftHere p at id from to more → IsLevelUnit p level unit → IsLevelRow p at level unit own by → IsCostAt p at level cost
    → IsUnfitRatio (sum_num cost (by (Held id)) (pos (own * unit)) more) (sum_den cost (pos (own * unit)) more) → HasNoLevelWriting (with_constant id to p) at level
unfit_shifted_cost p at id from to more level unit own by cost h is row (x, here, e) unfit scale times reduced next w c fit kept =
    let q : Problem = with_constant id to p in
    let corner : IsCorner q at = after_corner p at id from to more h in
    let y : Point = corner.point in
    let same : scales q ≡ scales p = scales_seen q p (shift_seen p id to) in
    unfit next kept.lowest
    (cost-ratio (x.num one_column) (pos more.den *ℤ y.num one_column) (own * unit) (scales p) cost more next (cost_at p level x.num) (pos more.den *ℤ cost_at q level y.num) (by (Held id)) (more.num *ℤ y.num one_column)
    x.positive (mul_positive more.den (y.num one_column) h.shift.more_positive y.positive) (scales-above p (whole-IsProblem p h.whole))
    (moved-cost p at id from to more level unit own by x y h is row here corner.stands) e (over-den more.num (y.num one_column) more.den)
    (den-in more.den next.den (scales p) (cost_at q level y.num) next.num (y.num one_column)
    (subst (λ (s : ℕ). cost_at q level y.num *ℤ pos next.den ≡ next.num *ℤ (pos s *ℤ y.num one_column)) same (cost_everywhere q at level next y corner c corner.stands))))
    kept.fits
