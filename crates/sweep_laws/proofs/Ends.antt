-- Where a corner is best with a constant, whether that fits or not.
use Rattle.std.proofs.Common.{◌≡◌, ◌∙◌, ℕ, zero, suc, ◌+◌, ◌-◌, ◌*◌, ◌/◌, ◌<◌, Bool, true, false, cond, nat_eq, List, ◌++◌, map, ℤ, pos, negsuc, ◌+ℤ◌, ◌-ℤ◌, ◌*ℤ◌, neg_ℤ, ◌<ℤ◌, ◌≤ℤ◌, refl, sym, ap, subst, arith, All}
use Rattle.std.specs.List.{AllByRecursion as Each}
use Rattle.std.proofs.lemmas.List.Elements.{All-from_recursion, recursion_from_All}
use borrow.Author.Differences.{ints}
use Rattle.frac_core.specs.Fraction.{Fraction}
use Rattle.frac_core.proofs.Integers.{mul-zero_ℤ, zero-mul_ℤ, zero_from_mul, mul_not_negative, mul-sub_left}
use Rattle.frac_core.proofs.Lists.{each-from_map, each-joined, each-left, each-onto_map, each-right}
use Rattle.frac_core.proofs.Numbers.{share-above}
use Rattle.problem_core.specs.declared.parts.Mark.{Mark}
use Rattle.problem_core.specs.declared.parts.Side.TheVariants.{Under, Over}
use Rattle.problem_core.specs.declared.parts.Rel.{Rel}
use Rattle.problem_core.specs.declared.parts.Rel.TheVariants.{Eq, Le, Ge}
use Rattle.problem_core.specs.Layout.{IsBest, IsProblem, Line, Problem, Row, Satisfies, above, below, error, error_of, gap, lines, line_of_row, stay_lines, value_at}
use Rattle.problem_core.specs.Kept.{IsRow, IsWhole}
use Rattle.problem_core.specs.Certificates.{under_weight, over_weight, weight_at}
use Rattle.problem_core.specs.Corners.{NoNegativeColumn, Point, StandsAt, assignment_at, equation, marks_of, place, place_of}
use Rattle.problem_core.specs.Levels.{CostsAbove, cost_at, scales}
use Rattle.problem_core.proofs.Best.Duality.{certificate-IsBest}
use Rattle.problem_core.proofs.Best.WindowRows.{not_below}
use Rattle.problem_core.proofs.Corners.Ends.{end-IsCertificate}
use Rattle.problem_core.proofs.Forms.{each-impl, each-both}
use Rattle.problem_core.proofs.Refutations.{sum-not_negative}
use Rattle.problem_core.proofs.Wholes.{whole-IsProblem}
use Rattle.corner_laws.proofs.LevelCosts.Gaps.{shares}
use Rattle.corner_laws.proofs.PathEnds.Ends.{all_up, both_marks, decided, first-rows, line-gap-is}
use Rattle.corner_laws.proofs.ZeroColumns.{both-up, each-none, first-none, part, part-own, rest-none, row-weights, scales-above, stay-weights}
use Rattle.corner_lines.specs.Shifts.{has_constant, with_constant}
use Rattle.corner_lines.proofs.ProblemChanges.Shifted.{changed}
use Rattle.sweep_laws.proofs.OneConstant.{constant_seen}
use Rattle.sweep_laws.proofs.SeenAlike.{each-seen}

none-above : (z : ℤ) → pos 0 ≤ℤ z → (pos 0 <ℤ z → ⊥) → z ≡ pos 0
none-above (pos zero) h k = refl
none-above (pos (suc n)) h k = absurd (k (omega (arith, ints)))
none-above (negsuc n) h k = absurd h.le

part-up : (whole : ℕ) (n : ℕ → ℤ) (level : ℕ) (l : Line) → (pos 0 ≤ℤ n (place_of l.name Under)) × (pos 0 ≤ℤ n (place_of l.name Over)) → pos 0 ≤ℤ part whole n level l
part-up whole n level l h =
    mul_not_negative (whole / l.scale) _ (both-up _ _ (mul_not_negative (under_weight l.rel (weight_at l level)) (n (place_of l.name Under)) h.0) (mul_not_negative (over_weight l.rel (weight_at l level)) (n (place_of l.name Over)) h.1))

no-above : (z : ℤ) → z ≤ℤ pos 0 → above z ≡ 0
no-above (pos n) h = omega (arith, ints, h)
no-above (negsuc n) h = refl

no-error : (rel : Rel) (d w : ℕ) (u o g : ℤ) → 0 < w → pos 0 ≤ℤ u → pos 0 ≤ℤ o → g ≡ pos d *ℤ (o -ℤ u) → pos (under_weight rel w) *ℤ u +ℤ pos (over_weight rel w) *ℤ o ≡ pos 0 → error_of rel g ≡ 0
no-error Eq d w u o g heavy a b e h =
    let hu = zero_from_mul w u heavy (first-none (pos w *ℤ u) (pos w *ℤ o) (mul_not_negative w u a) (mul_not_negative w o b) h) in
    let ho = zero_from_mul w o heavy (rest-none (pos w *ℤ u) (pos w *ℤ o) (mul_not_negative w u a) (mul_not_negative w o b) h) in
    let none : g ≡ pos 0 = e ∙ ap (λ (z : ℤ). pos d *ℤ z) (let k : o -ℤ u ≡ pos 0 = omega (arith, ints, hu, ho) in k) ∙ mul-zero_ℤ (pos d) in
    ap (λ (z : ℤ). above z + below z) none
no-error Ge d w u o g heavy a b e h =
    let hu : u ≡ pos 0 = zero_from_mul w u heavy (let k : pos w *ℤ u +ℤ pos 0 *ℤ o ≡ pos 0 = h in omega (arith, ints, k, zero-mul_ℤ o)) in
    not_below g (subst (λ (z : ℤ). pos 0 ≤ℤ z) (sym e) (mul_not_negative d (o -ℤ u) (omega (arith, ints, hu, b))))
no-error Le d w u o g heavy a b e h =
    let ho : o ≡ pos 0 = zero_from_mul w o heavy (let k : pos 0 *ℤ u +ℤ pos w *ℤ o ≡ pos 0 = h in omega (arith, ints, k, zero-mul_ℤ u)) in
    let up : pos 0 ≤ℤ (pos d *ℤ u) = mul_not_negative d u a in
    let turn : g ≡ neg_ℤ (pos d *ℤ u) = e ∙ mul-sub_left (pos d) o u ∙ (let k : pos d *ℤ o ≡ pos 0 = ap (λ (z : ℤ). pos d *ℤ z) ho ∙ mul-zero_ℤ (pos d) in omega (arith, ints, k)) in
    no-above g (omega (arith, ints, turn, up))

own-part : (whole : ℕ) (n : ℕ → ℤ) (l : Line) → l.level ≡ 0 → part whole n 0 l ≡ pos 0 → part whole n l.level l ≡ pos 0
own-part whole n l e h = subst (λ (k : ℕ). part whole n k l ≡ pos 0) (sym e) h

-- no denominator is 0, and no weight
pub record IsWeighed (q : Problem) : Type 0 where
  pub problem : IsProblem q
  pub weights : Each (λ l. 0 < l.weight) (lines q)

-- where no value is negative the required level costs nothing at all if it doesn't cost above 0
pub costs_none : (q : Problem) (at : List Mark) (x : Point) → StandsAt q at x → All (λ m. pos 0 ≤ℤ x.num (place m)) at → (CostsAbove q at 0 → ⊥) → cost_at q 0 x.num ≡ pos 0
costs_none q at x stands values none =
    let up = both_marks (λ v. pos 0 ≤ℤ x.num v) (lines q) (recursion_from_All (λ k. pos 0 ≤ℤ x.num (place k)) (marks_of (lines q)) (all_up q at x stands values)) in
    let ups : Each (λ l. pos 0 ≤ℤ part (scales q) x.num 0 l) (lines q) = each-impl (λ l. (pos 0 ≤ℤ x.num (place_of l.name Under)) × (pos 0 ≤ℤ x.num (place_of l.name Over))) (λ l. pos 0 ≤ℤ part (scales q) x.num 0 l) (lines q) (λ l h. part-up (scales q) x.num 0 l h) up in
    none-above (cost_at q 0 x.num) (sum-not_negative (part (scales q) x.num 0) (lines q) ups) (λ h. none (x, stands, h))

-- where no value is negative and the required level costs nothing, the required rows hold
satisfies-there : (q : Problem) (at : List Mark) (x : Point) → IsWeighed q → StandsAt q at x → All (λ m. pos 0 ≤ℤ x.num (place m)) at → (CostsAbove q at 0 → ⊥) → Satisfies q (assignment_at x)
satisfies-there q at x weighed stands values none =
    let problem = weighed.problem in
    let up = both_marks (λ v. pos 0 ≤ℤ x.num v) (lines q) (recursion_from_All (λ k. pos 0 ≤ℤ x.num (place k)) (marks_of (lines q)) (all_up q at x stands values)) in
    let ups : Each (λ l. pos 0 ≤ℤ part (scales q) x.num 0 l) (lines q) = each-impl (λ l. (pos 0 ≤ℤ x.num (place_of l.name Under)) × (pos 0 ≤ℤ x.num (place_of l.name Over))) (λ l. pos 0 ≤ℤ part (scales q) x.num 0 l) (lines q) (λ l h. part-up (scales q) x.num 0 l h) up in
    let sum : cost_at q 0 x.num ≡ pos 0 = none-above (cost_at q 0 x.num) (sum-not_negative (part (scales q) x.num 0) (lines q) ups) (λ h. none (x, stands, h)) in
    let parts = each-none (part (scales q) x.num 0) (lines q) ups sum in
    let errors : Each (λ l. l.level ≡ 0 → error (assignment_at x) l ≡ 0) (lines q) =
    each-impl (λ l. (((0 < l.scale) × (0 < l.den)) × ((scales q / l.scale * l.scale ≡ scales q) × (0 < l.weight))) × (((pos 0 ≤ℤ x.num (place_of l.name Under)) × (pos 0 ≤ℤ x.num (place_of l.name Over))) × ((value_at x.num (equation l) ≡ pos 0) × (part (scales q) x.num 0 l ≡ pos 0)))) _ (lines q)
    (λ l h e. no-error l.rel l.den l.weight (x.num (place_of l.name Under)) (x.num (place_of l.name Over)) (gap (assignment_at x) l) h.0.1.1 h.1.0.0 h.1.0.1 (line-gap-is x l h.1.1.0)
    (zero_from_mul (scales q / l.scale) _ (share-above (scales q) l.scale (scales-above q problem) h.0.1.0) (sym (part-own (scales q) x.num l) ∙ own-part (scales q) x.num l e h.1.1.1)))
    (each-both _ _ (lines q)
    (each-both _ _ (lines q) (recursion_from_All _ (lines q) problem) (each-both _ _ (lines q) (shares q problem) weighed.weights))
    (each-both _ _ (lines q) up (each-both _ _ (lines q) (recursion_from_All _ (lines q) stands.0) parts))) in
    All-from_recursion (λ r. r.rank ≡ 1000 → error (assignment_at x) (line_of_row r) ≡ 0) q.rows
    (each-impl (λ r. (1000 - r.rank ≡ 0 → error (assignment_at x) (line_of_row r) ≡ 0)) _ q.rows (λ r h e. h (omega (arith, e)))
    (first-rows (λ l. l.level ≡ 0 → error (assignment_at x) l ≡ 0) q.rows (stay_lines 1001 q.stays) errors))

-- a point at a corner with no negative value, no negative column and no required cost is best
pub end-best : (q : Problem) (at : List Mark) (x : Point) → IsWeighed q → StandsAt q at x → All (λ m. pos 0 ≤ℤ x.num (place m)) at → NoNegativeColumn q at → (CostsAbove q at 0 → ⊥) → IsBest q (assignment_at x)
end-best q at x weighed stands values (m, is, columns) none =
    certificate-IsBest q weighed.problem (assignment_at x) m (end-IsCertificate q at x m stands (all_up q at x stands values) (λ k. decided at k) is columns (satisfies-there q at x weighed stands values none))

-- ---- with any constant

abbrev AreParts : Line → Type 0
AreParts l = (0 < l.scale) × (0 < l.den)

row-parts : (same : Bool) (w : Fraction) (r : Row) → 0 < w.den → AreParts (line_of_row r) → AreParts (line_of_row (cond same (changed w r) r))
row-parts true w r hw h = (h.0, hw)
row-parts false w r hw h = h

pub weighed-with : (p : Problem) (row : ℕ) (w : Fraction) → IsWhole p → 0 < w.den → IsWeighed (with_constant row w p)
weighed-with p row w whole hw =
    let all : Each AreParts (map line_of_row p.rows ++ stay_lines 1001 p.stays) = recursion_from_All AreParts (lines p) (whole-IsProblem p whole) in
    let own : Each (λ r. AreParts (line_of_row r)) p.rows = each-from_map AreParts line_of_row p.rows (each-left AreParts (map line_of_row p.rows) (stay_lines 1001 p.stays) all) in
    let there : Each (λ r. AreParts (line_of_row r)) (map (has_constant row w) p.rows) =
    each-onto_map (λ r. AreParts (line_of_row r)) (has_constant row w) p.rows (each-impl (λ r. AreParts (line_of_row r)) (λ r. AreParts (line_of_row (has_constant row w r))) p.rows (λ r h. row-parts (nat_eq r.id row) w r hw h) own) in
    record {
      problem = All-from_recursion AreParts (lines (with_constant row w p))
          (each-joined AreParts (map line_of_row (map (has_constant row w) p.rows)) (stay_lines 1001 p.stays) (each-onto_map AreParts line_of_row (map (has_constant row w) p.rows) there) (each-right AreParts (map line_of_row p.rows) (stay_lines 1001 p.stays) all));
      weights = each-seen (λ l. 0 < l.weight) p (with_constant row w p) (sym (constant_seen p row w))
          (each-joined (λ l. 0 < l.weight) (map line_of_row p.rows) (stay_lines 1001 p.stays) (row-weights p.rows (recursion_from_All IsRow p.rows whole.rows)) (stay-weights 1001 p.stays));
    }
