-- Where the required rows cost something and no column of their level is negative, their multipliers refute them.
use Rattle.std.proofs.Common.{◌≡◌, ◌∙◌, ℕ, ◌*◌, ◌/◌, ◌<◌, ◌≤◌, List, [], ◌∷◌, ℤ, pos, negsuc, ◌+ℤ◌, ◌*ℤ◌, ◌<ℤ◌, ◌≤ℤ◌, sym, ap, ap₂, subst, arith, inl, inr, All, mul-pos}
use Rattle.std.specs.List.{AllByRecursion as Each}
use Rattle.std.proofs.lemmas.List.Elements.{All-from_recursion, recursion_from_All}
use lib.IntN.{*ℤ_comm}
use borrow.Author.Differences.{ints}
use Rattle.frac_core.proofs.Integers.{mul_assoc_ℤ, mul_left_comm_ℤ, mul-add_left, mul-zero_ℤ, mul_positive, positive_from}
use Rattle.problem_core.specs.declared.parts.Mark.{Mark}
use Rattle.problem_core.specs.declared.parts.Side.{Side}
use Rattle.problem_core.specs.declared.parts.Side.TheVariants.{Under, Over}
use Rattle.problem_core.specs.declared.parts.RowName.TheVariants.{Held}
use Rattle.problem_core.specs.Layout.{IsProblem, Line, Problem, common, lines, share, sum_of, value_at}
use Rattle.problem_core.specs.Kept.{IsWhole, IsRow}
use Rattle.problem_core.specs.Certificates.{IsRefutation, Multipliers, constant}
use Rattle.problem_core.specs.Corners.{AreMultipliersAt, IsIn, Point, StandsAt, attr_column, column, equation, marks_of, one_column, place, place_of}
use Rattle.problem_core.proofs.Corners.Conflicts.{end-IsRefutation}
use Rattle.problem_core.proofs.Best.Duality.{shares as all_shares}
use Rattle.problem_core.proofs.Forms.{combination-zero, each-impl, each-both, sum-add, sum-zero, sum-cong, product-positive}
use Rattle.problem_core.proofs.Wholes.{whole-IsProblem}
use Rattle.problem_core.specs.Levels.{CostsAbove, cost_at, scales}
use Rattle.corner_laws.proofs.PathEnds.Ends.{both_marks, decided}
use Rattle.corner_laws.proofs.LevelCosts.Gaps.{deviation, form_value, line_gap, moved_columns, shares, sums-split}
use Rattle.corner_laws.proofs.ZeroColumns.{cancel-zero, scales-above}
use Rattle.frac_core.proofs.Numbers.{plus-zero as plus-none}

-- ---- the sum of the lines' constants, each as often as its multiplier says

-- C*(y*(e+f)) = y*(n*(C/den))*one
line-share : (whole s k d : ℕ) (y g n one : ℤ) → (s * k) * d ≡ whole → pos d *ℤ g ≡ n *ℤ one → pos whole *ℤ (y *ℤ g) ≡ one *ℤ (y *ℤ (n *ℤ pos (s * k)))
line-share whole s k d y g n one e h =
    let a : pos whole *ℤ g ≡ pos (s * k) *ℤ (n *ℤ one) = ap (λ (z : ℕ). pos z *ℤ g) (sym e) ∙ mul_assoc_ℤ (pos (s * k)) (pos d) g ∙ ap (λ (z : ℤ). pos (s * k) *ℤ z) h in
    mul_left_comm_ℤ (pos whole) y g ∙ ap (λ (z : ℤ). y *ℤ z) (a ∙ mul_left_comm_ℤ (pos (s * k)) n one ∙ ap (λ (z : ℤ). n *ℤ z) (*ℤ_comm (pos (s * k)) one) ∙ mul_left_comm_ℤ n one (pos (s * k)))
    ∙ mul_left_comm_ℤ y one (n *ℤ pos (s * k))

sum-shares : (m : Multipliers) (x : ℕ → ℤ) (level whole : ℕ) (all ls : List Line) → Each (λ l. ((share all l * l.scale) * l.den ≡ whole) × (pos l.den *ℤ (deviation x l +ℤ form_value x l) ≡ l.num *ℤ x one_column)) ls
    → pos whole *ℤ sum_of (λ l. m.times level l.name *ℤ (deviation x l +ℤ form_value x l)) ls ≡ x one_column *ℤ sum_of (λ l. m.times level l.name *ℤ (l.num *ℤ pos (share all l * l.scale))) ls
sum-shares m x level whole all [] h = mul-zero_ℤ (pos whole) ∙ sym (mul-zero_ℤ (x one_column))
sum-shares m x level whole all (l ∷ ls) h =
    mul-add_left (pos whole) (m.times level l.name *ℤ (deviation x l +ℤ form_value x l)) (sum_of (λ l. m.times level l.name *ℤ (deviation x l +ℤ form_value x l)) ls)
    ∙ ap₂ ◌+ℤ◌ (line-share whole (share all l) l.scale l.den (m.times level l.name) (deviation x l +ℤ form_value x l) l.num (x one_column) h.0.0 h.0.1) (sum-shares m x level whole all ls h.1)
    ∙ sym (mul-add_left (x one_column) (m.times level l.name *ℤ (l.num *ℤ pos (share all l * l.scale))) (sum_of (λ l. m.times level l.name *ℤ (l.num *ℤ pos (share all l * l.scale))) ls))

-- at the corner the level's cost is the sum of the lines' constants, each as often as its multiplier says
pub constant_there : (p : Problem) (at : List Mark) (m : Multipliers) (x : Point) (level : ℕ) → IsProblem p → AreMultipliersAt p at m → StandsAt p at x
    → pos (common (lines p)) *ℤ (pos (m.scale level) *ℤ cost_at p level x.num) ≡ pos (scales p) *ℤ (x.num one_column *ℤ constant m (lines p) level)
constant_there p at m x level problem is stands =
    let zeros = both_marks (λ v. (IsIn v at → ⊥) → x.num v ≡ pos 0) (lines p) (recursion_from_All (λ k. (IsIn (place k) at → ⊥) → x.num (place k) ≡ pos 0) (marks_of (lines p)) stands.1) in
    let split = sums-split m x.num level (scales p) (lines p) (shares p problem) in
    let moved : sum_of (λ l. pos (scales p / l.scale) *ℤ moved_columns m x.num level l) (lines p) ≡ pos 0 =
    sum-zero (λ l. pos (scales p / l.scale) *ℤ moved_columns m x.num level l) (lines p)
    (each-impl (λ l. (((IsIn (place_of l.name Under) at → ⊥) → x.num (place_of l.name Under) ≡ pos 0) × ((IsIn (place_of l.name Over) at → ⊥) → x.num (place_of l.name Over) ≡ pos 0))
    × ((IsIn (place_of l.name Under) at → (level : ℕ) → column m Under l level ≡ pos 0) × (IsIn (place_of l.name Over) at → (level : ℕ) → column m Over l level ≡ pos 0))) _ (lines p)
    (λ l h. ap (λ (z : ℤ). pos (scales p / l.scale) *ℤ z)
    (ap₂ ◌+ℤ◌
    (elim (decided at (record { row = l.name; side = Under })) [
      | inl i ↦ cancel-zero (column m Under l level) (x.num (place_of l.name Under)) (inl (h.1.0 i level))
      | inr o ↦ cancel-zero (column m Under l level) (x.num (place_of l.name Under)) (inr (h.0.0 o))
    ])
    (elim (decided at (record { row = l.name; side = Over })) [
      | inl i ↦ cancel-zero (column m Over l level) (x.num (place_of l.name Over)) (inl (h.1.1 i level))
      | inr o ↦ cancel-zero (column m Over l level) (x.num (place_of l.name Over)) (inr (h.0.1 o))
    ]))
    ∙ mul-zero_ℤ (pos (scales p / l.scale)))
    (each-both _ _ (lines p) zeros (each-both _ _ (lines p) (recursion_from_All _ (lines p) (is.inside_zero Under)) (recursion_from_All _ (lines p) (is.inside_zero Over))))) in
    let forms : sum_of (λ l. m.times level l.name *ℤ form_value x.num l) (lines p) ≡ pos 0 = combination-zero (λ v. x.num (attr_column v)) (λ (l : Line). m.times level l.name) (λ l. l.form) (lines p) (is.cancel level) in
    let joint : sum_of (λ l. m.times level l.name *ℤ (deviation x.num l +ℤ form_value x.num l)) (lines p) ≡ sum_of (λ l. m.times level l.name *ℤ deviation x.num l) (lines p) =
    sum-cong (λ l. m.times level l.name *ℤ (deviation x.num l +ℤ form_value x.num l)) (λ l. m.times level l.name *ℤ deviation x.num l +ℤ m.times level l.name *ℤ form_value x.num l) (lines p) (λ l. mul-add_left (m.times level l.name) (deviation x.num l) (form_value x.num l))
    ∙ sum-add (λ l. m.times level l.name *ℤ deviation x.num l) (λ l. m.times level l.name *ℤ form_value x.num l) (lines p)
    ∙ plus-none (sum_of (λ l. m.times level l.name *ℤ deviation x.num l) (lines p)) (sum_of (λ l. m.times level l.name *ℤ form_value x.num l) (lines p)) forms in
    let shared = sum-shares m x.num level (common (lines p)) (lines p) (lines p)
    (each-both _ _ (lines p) (all_shares (lines p) (recursion_from_All _ (lines p) problem)) (each-impl (λ l. value_at x.num (equation l) ≡ pos 0) _ (lines p) (λ l e. line_gap x.num l e) (recursion_from_All _ (lines p) stands.0))) in
    let cost : pos (m.scale level) *ℤ cost_at p level x.num ≡ pos (scales p) *ℤ sum_of (λ l. m.times level l.name *ℤ deviation x.num l) (lines p) = omega (arith, ints, split, moved) in
    ap (λ (z : ℤ). pos (common (lines p)) *ℤ z) cost
    ∙ mul_left_comm_ℤ (pos (common (lines p))) (pos (scales p)) (sum_of (λ l. m.times level l.name *ℤ deviation x.num l) (lines p))
    ∙ ap (λ (z : ℤ). pos (scales p) *ℤ z) (ap (λ (z : ℤ). pos (common (lines p)) *ℤ z) (sym joint) ∙ shared)

above-from : (one : ℤ) (z : ℤ) (k : ℕ) → 0 < k → pos 0 <ℤ one → pos 0 <ℤ (pos k *ℤ (one *ℤ z)) → pos 0 <ℤ z
above-from (pos n) z k above h e = positive_from n z (positive_from k (pos n *ℤ z) e)
above-from (negsuc n) z k above h e = absurd h.lt

-- the required rows have no solution
pub cost_refutes : (p : Problem) (at : List Mark) (m : Multipliers) → IsWhole p → AreMultipliersAt p at m → ((side : Side) → All (λ l. pos 0 ≤ℤ column m side l 0) (lines p)) → CostsAbove p at 0 → IsRefutation p (λ id. m.times 0 (Held id))
cost_refutes p at m whole is columns (x, stands, cost) =
    let problem = whole-IsProblem p whole in
    let commons : 0 < common (lines p) = product-positive (λ (l : Line). l.scale * l.den) (lines p) (each-impl (λ l. (0 < l.scale) × (0 < l.den)) (λ l. 0 < l.scale * l.den) (lines p) (λ l h. mul-pos h.0 h.1) (recursion_from_All _ (lines p) problem)) in
    let up : pos 0 <ℤ (pos (common (lines p)) *ℤ (pos (m.scale 0) *ℤ cost_at p 0 x.num)) = mul_positive (common (lines p)) _ commons (mul_positive (m.scale 0) _ (is.scales 0) cost) in
    end-IsRefutation p problem (All-from_recursion (λ r. r.rank ≤ 1000) p.rows (each-impl IsRow (λ r. r.rank ≤ 1000) p.rows (λ r h. h.rank) (recursion_from_All IsRow p.rows whole.rows))) m (is.cancel 0) (columns Under) (columns Over)
    (above-from (x.num one_column) (constant m (lines p) 0) (scales p) (scales-above p problem) x.positive (subst (λ (z : ℤ). pos 0 <ℤ z) (constant_there p at m x 0 problem is stands) up))
