-- An end at which the required rows cost nothing is best.
use Rattle.std.proofs.Common.{◌≡◌, ◌∙◌, ◌⊎◌, ℕ, zero, suc, ◌+◌, ◌-◌, ◌*◌, ◌/◌, ◌<◌, List, [], ◌∷◌, ◌++◌, map, ℤ, pos, negsuc, ◌+ℤ◌, ◌-ℤ◌, ◌*ℤ◌, neg_ℤ, ◌<ℤ◌, ◌≤ℤ◌, refl, sym, ap, subst, arith, inl, inr, All}
use Rattle.std.specs.List.{AllByRecursion as Each}
use Rattle.std.proofs.lemmas.Bool.{cases_Bool}
use Rattle.std.proofs.lemmas.List.Elements.{All-from_recursion, recursion_from_All}
use borrow.Author.Differences.{ints}
use Rattle.frac_core.proofs.Integers.{mul-zero_ℤ, zero-mul_ℤ, zero_from_mul, mul_not_negative, mul-sub_left}
use Rattle.problem_core.specs.declared.parts.Mark.{Mark}
use Rattle.problem_core.specs.declared.parts.Side.TheVariants.{Under, Over}
use Rattle.problem_core.specs.declared.parts.Rel.{Rel}
use Rattle.problem_core.specs.declared.parts.Rel.TheVariants.{Eq, Le, Ge}
use Rattle.problem_core.specs.Layout.{IsBest, Line, Problem, Row, Satisfies, above, below, error, error_of, gap, lines, line_of_row, stay_lines, value_at}
use Rattle.problem_core.specs.Kept.{IsWhole, IsRow}
use Rattle.problem_core.specs.Certificates.{under_weight, over_weight, weight_at}
use Rattle.problem_core.specs.Corners.{IsIn, NoNegativeColumn, NoNegativeValue, Point, StandsAt, assignment_at, attr_column, equation, marks_of, one_column, place, place_of}
use Rattle.problem_core.proofs.Corners.CornerFacts.{is_place}
use Rattle.problem_core.proofs.Best.Duality.{certificate-IsBest}
use Rattle.problem_core.proofs.Corners.Ends.{end-IsCertificate, abs_same}
use Rattle.problem_core.proofs.Forms.{each-impl, each-both}
use Rattle.problem_core.proofs.Wholes.{whole-IsProblem}
use Rattle.problem_core.specs.Levels.{CostsAbove, cost_at, scales}
use Rattle.corner_laws.proofs.Counting.{IsIn-from_is_place}
use Rattle.corner_laws.proofs.WrittenValues.{contains_each}
use Rattle.corner_laws.proofs.LevelCosts.Gaps.{form_value, line_gap, shares}
use Rattle.corner_laws.proofs.ZeroColumns.{both-up, each-none, first-none, not-in, part, part-own, rest-none, row-weights, scales-above, stay-weights}
use Rattle.problem_core.proofs.Best.WindowRows.{not_below as no-below}
use Rattle.frac_core.proofs.Numbers.{zero-up as zero-fits, share-above as positive-share}
use Rattle.frac_core.proofs.Lists.{each-joined}
use Rattle.problem_core.proofs.Refutations.{sum-not_negative as sum-up}

pub decided : (at : List Mark) (k : Mark) → IsIn (place k) at ⊎ (IsIn (place k) at → ⊥)
decided at k = elim (cases_Bool (is_place at (place k))) [
  | inl i ↦ inl (IsIn-from_is_place (place k) at i)
  | inr o ↦ inr (not-in at (place k) o)
]

-- no mark's value is negative, inside or outside
pub all_up : (p : Problem) (at : List Mark) (x : Point) → StandsAt p at x → All (λ m. pos 0 ≤ℤ x.num (place m)) at → All (λ k. pos 0 ≤ℤ x.num (place k)) (marks_of (lines p))
all_up p at x stands values =
    All-from_recursion (λ k. pos 0 ≤ℤ x.num (place k)) (marks_of (lines p))
    (each-impl (λ k. (IsIn (place k) at → ⊥) → x.num (place k) ≡ pos 0) (λ k. pos 0 ≤ℤ x.num (place k)) (marks_of (lines p))
    (λ k h. elim (decided at k) [
      | inl i ↦ contains_each (λ v. pos 0 ≤ℤ x.num v) at (place k) (recursion_from_All (λ m. pos 0 ≤ℤ x.num (place m)) at values) i
      | inr o ↦ zero-fits (x.num (place k)) (h o)
    ])
    (recursion_from_All _ (marks_of (lines p)) stands.1))

pub both_marks : (P : ℕ → Type 0) (ls : List Line) → Each (λ m. P (place m)) (marks_of ls) → Each (λ l. P (place_of l.name Under) × P (place_of l.name Over)) ls
both_marks P [] h = tt
both_marks P (l ∷ ls) h = ((h.0, h.1.0), both_marks P ls h.1.1)

-- ---- the required rows

none-above : (z : ℤ) → pos 0 ≤ℤ z → (pos 0 <ℤ z → ⊥) → z ≡ pos 0
none-above (pos zero) h k = refl
none-above (pos (suc n)) h k = absurd (k (omega (arith, ints)))
none-above (negsuc n) h k = absurd h.le

part-up : (whole : ℕ) (n : ℕ → ℤ) (level : ℕ) (l : Line) → (pos 0 ≤ℤ n (place_of l.name Under)) × (pos 0 ≤ℤ n (place_of l.name Over)) → pos 0 ≤ℤ part whole n level l
part-up whole n level l h =
    mul_not_negative (whole / l.scale) _ (both-up _ _ (mul_not_negative (under_weight l.rel (weight_at l level)) (n (place_of l.name Under)) h.0) (mul_not_negative (over_weight l.rel (weight_at l level)) (n (place_of l.name Over)) h.1))

-- the gap is the difference of the deviations
gap-is : (d : ℕ) (u o f g n one v : ℤ) → pos d *ℤ ((u -ℤ o) +ℤ f) ≡ n *ℤ one → g ≡ pos d *ℤ f -ℤ n *ℤ one → g ≡ pos d *ℤ (o -ℤ u)
gap-is d u o f g n one v e h =
    let a : pos d *ℤ ((u -ℤ o) +ℤ f) ≡ pos d *ℤ f -ℤ pos d *ℤ (o -ℤ u) = ap (λ (z : ℤ). pos d *ℤ z) (let k : (u -ℤ o) +ℤ f ≡ f -ℤ (o -ℤ u) = omega (arith, ints) in k) ∙ mul-sub_left (pos d) f (o -ℤ u) in
    omega (arith, ints, a, e, h)

pub line-gap-is : (x : Point) (l : Line) → value_at x.num (equation l) ≡ pos 0 → gap (assignment_at x) l ≡ pos l.den *ℤ (x.num (place_of l.name Over) -ℤ x.num (place_of l.name Under))
line-gap-is x l e =
    gap-is l.den (x.num (place_of l.name Under)) (x.num (place_of l.name Over)) (form_value x.num l) (gap (assignment_at x) l) l.num (x.num one_column) (pos 0) (line_gap x.num l e)
    (ap (λ (z : ℤ). pos l.den *ℤ value_at (λ v. x.num (attr_column v)) l.form -ℤ l.num *ℤ z) (abs_same (x.num one_column) x.positive))

no-above : (z : ℤ) → z ≤ℤ pos 0 → above z ≡ 0
no-above (pos n) h = omega (arith, ints, h)
no-above (negsuc n) h = refl

no-error : (rel : Rel) (d w : ℕ) (u o g : ℤ) → 0 < w → pos 0 ≤ℤ u → pos 0 ≤ℤ o → g ≡ pos d *ℤ (o -ℤ u) → pos (under_weight rel w) *ℤ u +ℤ pos (over_weight rel w) *ℤ o ≡ pos 0 → error_of rel g ≡ 0
no-error Eq d w u o g heavy a b e h =
    let hu = zero_from_mul w u heavy (first-none (pos w *ℤ u) (pos w *ℤ o) (mul_not_negative w u a) (mul_not_negative w o b) h) in
    let ho = zero_from_mul w o heavy (rest-none (pos w *ℤ u) (pos w *ℤ o) (mul_not_negative w u a) (mul_not_negative w o b) h) in
    let none : g ≡ pos 0 = e ∙ ap (λ (z : ℤ). pos d *ℤ z) (let k : o -ℤ u ≡ pos 0 = omega (arith, ints, hu, ho) in k) ∙ mul-zero_ℤ (pos d) in
    ap (λ (z : ℤ). above z + below z) none
no-error Ge d w u o g heavy a b e h =
    let hu : u ≡ pos 0 = zero_from_mul w u heavy (let k : pos w *ℤ u +ℤ pos 0 *ℤ o ≡ pos 0 = h in omega (arith, ints, k, zero-mul_ℤ o)) in
    no-below g (subst (λ (z : ℤ). pos 0 ≤ℤ z) (sym e) (mul_not_negative d (o -ℤ u) (omega (arith, ints, hu, b))))
no-error Le d w u o g heavy a b e h =
    let ho : o ≡ pos 0 = zero_from_mul w o heavy (let k : pos 0 *ℤ u +ℤ pos w *ℤ o ≡ pos 0 = h in omega (arith, ints, k, zero-mul_ℤ u)) in
    let up : pos 0 ≤ℤ (pos d *ℤ u) = mul_not_negative d u a in
    let turn : g ≡ neg_ℤ (pos d *ℤ u) = e ∙ mul-sub_left (pos d) o u ∙ (let k : pos d *ℤ o ≡ pos 0 = ap (λ (z : ℤ). pos d *ℤ z) ho ∙ mul-zero_ℤ (pos d) in omega (arith, ints, k)) in
    no-above g (omega (arith, ints, turn, up))

pub first-rows : (P : Line → Type 0) (rows : List Row) (ls : List Line) → Each P (map line_of_row rows ++ ls) → Each (λ r. P (line_of_row r)) rows
first-rows P [] ls h = tt
first-rows P (r ∷ rows) ls h = (h.0, first-rows P rows ls h.1)

own-part : (whole : ℕ) (n : ℕ → ℤ) (l : Line) → l.level ≡ 0 → part whole n 0 l ≡ pos 0 → part whole n l.level l ≡ pos 0
own-part whole n l e h = subst (λ (k : ℕ). part whole n k l ≡ pos 0) (sym e) h

-- where no value is negative and the required level costs nothing, the required rows hold
pub satisfies_there : (p : Problem) (at : List Mark) (x : Point) → IsWhole p → StandsAt p at x → All (λ m. pos 0 ≤ℤ x.num (place m)) at → (CostsAbove p at 0 → ⊥) → Satisfies p (assignment_at x)
satisfies_there p at x whole stands values none =
    let problem = whole-IsProblem p whole in
    let up = both_marks (λ v. pos 0 ≤ℤ x.num v) (lines p) (recursion_from_All (λ k. pos 0 ≤ℤ x.num (place k)) (marks_of (lines p)) (all_up p at x stands values)) in
    let ups : Each (λ l. pos 0 ≤ℤ part (scales p) x.num 0 l) (lines p) = each-impl (λ l. (pos 0 ≤ℤ x.num (place_of l.name Under)) × (pos 0 ≤ℤ x.num (place_of l.name Over))) (λ l. pos 0 ≤ℤ part (scales p) x.num 0 l) (lines p) (λ l h. part-up (scales p) x.num 0 l h) up in
    let sum : cost_at p 0 x.num ≡ pos 0 = none-above (cost_at p 0 x.num) (sum-up (part (scales p) x.num 0) (lines p) ups) (λ h. none (x, stands, h)) in
    let parts = each-none (part (scales p) x.num 0) (lines p) ups sum in
    let errors : Each (λ l. l.level ≡ 0 → error (assignment_at x) l ≡ 0) (lines p) =
    each-impl (λ l. (((0 < l.scale) × (0 < l.den)) × ((scales p / l.scale * l.scale ≡ scales p) × (0 < l.weight))) × (((pos 0 ≤ℤ x.num (place_of l.name Under)) × (pos 0 ≤ℤ x.num (place_of l.name Over))) × ((value_at x.num (equation l) ≡ pos 0) × (part (scales p) x.num 0 l ≡ pos 0)))) _ (lines p)
    (λ l h e. no-error l.rel l.den l.weight (x.num (place_of l.name Under)) (x.num (place_of l.name Over)) (gap (assignment_at x) l) h.0.1.1 h.1.0.0 h.1.0.1 (line-gap-is x l h.1.1.0)
    (zero_from_mul (scales p / l.scale) _ (positive-share (scales p) l.scale (scales-above p problem) h.0.1.0) (sym (part-own (scales p) x.num l) ∙ own-part (scales p) x.num l e h.1.1.1)))
    (each-both _ _ (lines p)
    (each-both _ _ (lines p) (recursion_from_All _ (lines p) problem)
    (each-both _ _ (lines p) (shares p problem) (each-joined (λ l. 0 < l.weight) (map line_of_row p.rows) (stay_lines 1001 p.stays) (row-weights p.rows (recursion_from_All IsRow p.rows whole.rows)) (stay-weights 1001 p.stays))))
    (each-both _ _ (lines p) up (each-both _ _ (lines p) (recursion_from_All _ (lines p) stands.0) parts))) in
    All-from_recursion (λ r. r.rank ≡ 1000 → error (assignment_at x) (line_of_row r) ≡ 0) p.rows
    (each-impl (λ r. (1000 - r.rank ≡ 0 → error (assignment_at x) (line_of_row r) ≡ 0)) _ p.rows (λ r h e. h (omega (arith, e)))
    (first-rows (λ l. l.level ≡ 0 → error (assignment_at x) l ≡ 0) p.rows (stay_lines 1001 p.stays) errors))

-- a corner with no negative value, no negative column and no required cost is best
pub end_is_best : (p : Problem) (at : List Mark) → IsWhole p → NoNegativeValue p at → NoNegativeColumn p at → (CostsAbove p at 0 → ⊥) → (x : Point) × StandsAt p at x × IsBest p (assignment_at x)
end_is_best p at whole (x, stands, values) (m, is, columns) none = (
  x,
  stands,
  certificate-IsBest p (whole-IsProblem p whole) (assignment_at x) m
      (end-IsCertificate p at x m stands (all_up p at x stands values) (λ k. decided at k) is columns (satisfies_there p at x whole stands values none)),
)
