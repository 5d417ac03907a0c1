-- Where a mark grows whose column is not negative the levels' costs do not fall, and are not all as before: so they rise along a dual path.
use Rattle.std.proofs.Common.{◌≡◌, ◌≢◌, ◌∙◌, ℕ, zero, suc, ◌*◌, ◌/◌, ◌<◌, List, map, ℤ, pos, negsuc, ◌+ℤ◌, ◌*ℤ◌, neg_ℤ, ◌<ℤ◌, ◌≤ℤ◌, refl, sym, ap, ap₂, subst, arith, inl, inr, All, Contains}
use Rattle.std.specs.List.{AllByRecursion as Each}
use Rattle.std.proofs.lemmas.Bool.{cases_eq, cases_Bool}
use Rattle.std.proofs.lemmas.List.Elements.{All-from_recursion, recursion_from_All}
use lib.IntN.{*ℤ_comm}
use borrow.Author.Differences.{ints}
use Rattle.frac_core.proofs.Integers.{mul_left_comm_ℤ, mul-add_left, mul-zero_ℤ, zero-mul_ℤ, mul_not_negative, mul_positive, zero_from_mul}
use Rattle.problem_core.specs.declared.parts.Mark.{Mark}
use Rattle.problem_core.specs.declared.parts.Side.{Side}
use Rattle.problem_core.specs.declared.parts.Side.TheVariants.{Under, Over}
use Rattle.problem_core.specs.Layout.{IsProblem, Line, Problem, lines, sum_of, value_at}
use Rattle.problem_core.specs.Kept.{IsWhole}
use Rattle.problem_core.specs.Certificates.{IsLexNonnegative, Multipliers, under_weight, over_weight, weight_at}
use Rattle.problem_core.specs.Corners.{AreMultipliersAt, IsExchange, IsIn, NoNegativeColumn, Point, StandsAt, Swap, column, equation, exchanged, marks_of, one_column, place, place_of}
use Rattle.problem_core.proofs.Corners.CornerFacts.{is_place}
use Rattle.problem_core.proofs.Forms.{each-impl, each-both, value-plus, value-scaled, sum-add, mul-sum, sum-cong}
use Rattle.problem_core.proofs.Wholes.{whole-IsProblem}
use Rattle.problem_core.specs.Levels.{cost_at, line_cost, scales}
use Rattle.problem_core.specs.Rays.{IsRay}
use Rattle.corner_laws.proofs.Counting.{IsIn-from_is_place}
use Rattle.corner_laws.proofs.WrittenValues.{nothing_outside}
use Rattle.corner_laws.proofs.Exchanged.{exchanged_in}
use Rattle.corner_laws.proofs.LevelCosts.Gaps.{direction_cost, moved_columns, shares}
use Rattle.corner_laws.proofs.ZeroColumns.{both-up, each-none, first-none, here-in, no_zero_column, not-in, outside-still, rest-none, scales-above}
use Rattle.frac_core.proofs.Numbers.{up-times, turned-cancels as same-ones, up-from as sign-from, zero-up as zero-fits, share-above as positive-share, neg-times}
use Rattle.corner_laws.proofs.LevelCosts.Unique.{own-zero}
use Rattle.problem_core.proofs.Marks.{kept-in as kept_in}
use Rattle.problem_core.proofs.Refutations.{sum-not_negative as sum-up}

-- ---- the costs along a ray

-- the columns of the mark with the column c are 0 at this level
abbrev IsZeroAt : Problem → Multipliers → ℕ → ℕ → Type 0
IsZeroAt p m c level = (side : Side) → All (λ l. place_of l.name side ≡ c → column m side l level ≡ pos 0) (lines p)

-- a mark's part is not negative
mark-up : (p : Problem) (at : List Mark) (c : ℕ) (n : ℕ → ℤ) (k : ℤ) (v : ℕ) → IsRay p at c n → Contains (map place (marks_of (lines p))) v → (IsIn v at → k ≡ pos 0) → (v ≡ c → pos 0 ≤ℤ k) → pos 0 ≤ℤ (k *ℤ n v)
mark-up p at c n k v ray is inside here =
    elim (cases_Bool (is_place at v)) [
      | inl i ↦ zero-fits (k *ℤ n v) (ap (λ (z : ℤ). z *ℤ n v) (inside (IsIn-from_is_place v at i)) ∙ zero-mul_ℤ (n v))
      | inr o ↦ elim (cases_eq v c) [
        | inl e ↦ up-times k (n v) (here e) (subst (λ (u : ℕ). pos 0 <ℤ n u) (sym e) ray.here)
        | inr ne ↦ zero-fits (k *ℤ n v) (ap (λ (z : ℤ). k *ℤ z) (outside-still p at c n v ray is (not-in at v o) ne) ∙ mul-zero_ℤ k)
      ]
    ]

-- what is known of a line's two columns
abbrev Facts : Problem → List Mark → Multipliers → ℕ → ℕ → Line → Type 0
Facts p at m c level l =
    (Contains (map place (marks_of (lines p))) (place_of l.name Under) × Contains (map place (marks_of (lines p))) (place_of l.name Over))
    × (((IsIn (place_of l.name Under) at → (level : ℕ) → column m Under l level ≡ pos 0) × (place_of l.name Under ≡ c → pos 0 ≤ℤ column m Under l level))
    × ((IsIn (place_of l.name Over) at → (level : ℕ) → column m Over l level ≡ pos 0) × (place_of l.name Over ≡ c → pos 0 ≤ℤ column m Over l level)))

lex-here : (p : Problem) (m : Multipliers) (c level : ℕ) (side : Side) → All (λ l. IsLexNonnegative (column m side l)) (lines p) → ((k : ℕ) → k < level → IsZeroAt p m c k) → All (λ l. place_of l.name side ≡ c → pos 0 ≤ℤ column m side l level) (lines p)
lex-here p m c level side columns before = λ i d within e. columns i d within level (λ k less. before k less side i d within e)

facts : (p : Problem) (at : List Mark) (m : Multipliers) (c level : ℕ) → AreMultipliersAt p at m → ((side : Side) → All (λ l. IsLexNonnegative (column m side l)) (lines p)) → ((k : ℕ) → k < level → IsZeroAt p m c k) → Each (Facts p at m c level) (lines p)
facts p at m c level is columns before =
    each-both _ _ (lines p) (here-in (lines p))
    (each-both _ _ (lines p)
    (each-both _ _ (lines p) (recursion_from_All _ (lines p) (is.inside_zero Under)) (recursion_from_All _ (lines p) (lex-here p m c level Under (columns Under) before)))
    (each-both _ _ (lines p) (recursion_from_All _ (lines p) (is.inside_zero Over)) (recursion_from_All _ (lines p) (lex-here p m c level Over (columns Over) before))))

parts-up : (p : Problem) (at : List Mark) (m : Multipliers) (c level : ℕ) (n : ℕ → ℤ) → IsRay p at c n → Each (Facts p at m c level) (lines p) → Each (λ l. pos 0 ≤ℤ (pos (scales p / l.scale) *ℤ moved_columns m n level l)) (lines p)
parts-up p at m c level n ray known =
    each-impl (Facts p at m c level) _ (lines p)
    (λ l h. mul_not_negative (scales p / l.scale) (moved_columns m n level l)
    (both-up (column m Under l level *ℤ n (place_of l.name Under)) (column m Over l level *ℤ n (place_of l.name Over))
    (mark-up p at c n (column m Under l level) (place_of l.name Under) ray h.0.0 (λ i. h.1.0.0 i level) h.1.0.1)
    (mark-up p at c n (column m Over l level) (place_of l.name Over) ray h.0.1 (λ i. h.1.1.0 i level) h.1.1.1)))
    known

-- where the columns before are 0 the cost does not fall
pub not_below : (p : Problem) (at : List Mark) (m : Multipliers) (c level : ℕ) (n : ℕ → ℤ) → IsProblem p → AreMultipliersAt p at m → ((side : Side) → All (λ l. IsLexNonnegative (column m side l)) (lines p)) → IsRay p at c n → ((k : ℕ) → k < level → IsZeroAt p m c k) → pos 0 ≤ℤ cost_at p level n
not_below p at m c level n problem is columns ray before =
    sign-from (m.scale level) (cost_at p level n) (is.scales level)
    (subst (λ (z : ℤ). pos 0 ≤ℤ z) (sym (direction_cost p m n level problem (is.cancel level) ray.still ray.holds))
    (sum-up (λ l. pos (scales p / l.scale) *ℤ moved_columns m n level l) (lines p) (parts-up p at m c level n ray (facts p at m c level is columns before))))

by-side : (p : Problem) (m : Multipliers) (c level : ℕ) → Each (λ l. (place_of l.name Under ≡ c → column m Under l level ≡ pos 0) × (place_of l.name Over ≡ c → column m Over l level ≡ pos 0)) (lines p) → IsZeroAt p m c level
by-side p m c level h Under = All-from_recursion (λ l. place_of l.name Under ≡ c → column m Under l level ≡ pos 0) (lines p) (each-impl (λ l. (place_of l.name Under ≡ c → column m Under l level ≡ pos 0) × (place_of l.name Over ≡ c → column m Over l level ≡ pos 0)) _ (lines p) (λ l g. g.0) h)
by-side p m c level h Over = All-from_recursion (λ l. place_of l.name Over ≡ c → column m Over l level ≡ pos 0) (lines p) (each-impl (λ l. (place_of l.name Under ≡ c → column m Under l level ≡ pos 0) × (place_of l.name Over ≡ c → column m Over l level ≡ pos 0)) _ (lines p) (λ l g. g.1) h)

-- where it is as before, so is the column
pub zero_next : (p : Problem) (at : List Mark) (m : Multipliers) (c level : ℕ) (n : ℕ → ℤ) → IsProblem p → AreMultipliersAt p at m → ((side : Side) → All (λ l. IsLexNonnegative (column m side l)) (lines p)) → IsRay p at c n → ((k : ℕ) → k < level → IsZeroAt p m c k) → cost_at p level n ≡ pos 0 → IsZeroAt p m c level
zero_next p at m c level n problem is columns ray before none =
    let known = facts p at m c level is columns before in
    let ups = parts-up p at m c level n ray known in
    let sum : sum_of (λ l. pos (scales p / l.scale) *ℤ moved_columns m n level l) (lines p) ≡ pos 0 =
    sym (direction_cost p m n level problem (is.cancel level) ray.still ray.holds) ∙ ap (λ (z : ℤ). pos (m.scale level) *ℤ z) none ∙ mul-zero_ℤ (pos (m.scale level)) in
    let parts = each-none (λ l. pos (scales p / l.scale) *ℤ moved_columns m n level l) (lines p) ups sum in
    let zeros : Each (λ l. (place_of l.name Under ≡ c → column m Under l level ≡ pos 0) × (place_of l.name Over ≡ c → column m Over l level ≡ pos 0)) (lines p) =
    each-impl (λ l. (((0 < l.scale) × (0 < l.den)) × (scales p / l.scale * l.scale ≡ scales p)) × (Facts p at m c level l × (pos (scales p / l.scale) *ℤ moved_columns m n level l ≡ pos 0))) _ (lines p)
    (λ l h.
    let moved : moved_columns m n level l ≡ pos 0 = zero_from_mul (scales p / l.scale) (moved_columns m n level l) (positive-share (scales p) l.scale (scales-above p problem) h.0.1) h.1.1 in
    let u = mark-up p at c n (column m Under l level) (place_of l.name Under) ray h.1.0.0.0 (λ i. h.1.0.1.0.0 i level) h.1.0.1.0.1 in
    let o = mark-up p at c n (column m Over l level) (place_of l.name Over) ray h.1.0.0.1 (λ i. h.1.0.1.1.0 i level) h.1.0.1.1.1 in (
      λ e. own-zero (column m Under l level) (n (place_of l.name Under)) (subst (λ (v : ℕ). pos 0 <ℤ n v) (sym e) ray.here) (first-none _ _ u o moved),
      λ e. own-zero (column m Over l level) (n (place_of l.name Over)) (subst (λ (v : ℕ). pos 0 <ℤ n v) (sym e) ray.here) (rest-none _ _ u o moved),
    ))
    (each-both _ _ (lines p) (each-both _ _ (lines p) (recursion_from_All _ (lines p) problem) (shares p problem)) (each-both _ _ (lines p) known parts)) in
    by-side p m c level zeros

-- the costs up to a level are as before, so the columns are 0
zeros-to : (p : Problem) (at : List Mark) (m : Multipliers) (c : ℕ) (n : ℕ → ℤ) → IsProblem p → AreMultipliersAt p at m → ((side : Side) → All (λ l. IsLexNonnegative (column m side l)) (lines p)) → IsRay p at c n → (level : ℕ) → ((k : ℕ) → k < level → cost_at p k n ≡ pos 0) → (k : ℕ) → k < level → IsZeroAt p m c k
zeros-to p at m c n problem is columns ray zero costs k less = absurd (omega (arith, less))
zeros-to p at m c n problem is columns ray (suc level) costs k less =
    let before = zeros-to p at m c n problem is columns ray level (λ j lt. costs j (omega (arith, lt))) in
    elim (cases_eq k level) [
      | inl e ↦ subst (λ (j : ℕ). IsZeroAt p m c j) (sym e) (zero_next p at m c level n problem is columns ray before (costs level (omega arith)))
      | inr ne ↦ before k (omega (arith, less, ne))
    ]

-- ---- from one corner to the next

-- the difference of two points, over both denominators
abbrev pub step : Point → Point → ℕ → ℤ
step x y v = x.num one_column *ℤ y.num v +ℤ neg_ℤ (y.num one_column) *ℤ x.num v

pub both-none : (a b x y : ℤ) → x ≡ pos 0 → y ≡ pos 0 → a *ℤ y +ℤ neg_ℤ b *ℤ x ≡ pos 0
both-none a b x y e f = ap₂ ◌+ℤ◌ (ap (λ (z : ℤ). a *ℤ z) f ∙ mul-zero_ℤ a) (ap (λ (z : ℤ). neg_ℤ b *ℤ z) e ∙ mul-zero_ℤ (neg_ℤ b))

grows : (a b x y : ℤ) → pos 0 <ℤ b → x <ℤ pos 0 → y ≡ pos 0 → pos 0 <ℤ (a *ℤ y +ℤ neg_ℤ b *ℤ x)
grows a (pos k) x y above low none =
    let one : a *ℤ y ≡ pos 0 = ap (λ (z : ℤ). a *ℤ z) none ∙ mul-zero_ℤ a in
    let two : pos 0 <ℤ (pos k *ℤ neg_ℤ x) = mul_positive k (neg_ℤ x) (omega (arith, ints, above)) (omega (arith, ints, low)) in
    let three : pos k *ℤ neg_ℤ x ≡ neg_ℤ (pos k *ℤ x) = *ℤ_comm (pos k) (neg_ℤ x) ∙ neg-times x (pos k) ∙ ap neg_ℤ (*ℤ_comm x (pos k)) in
    omega (arith, ints, one, two, three, neg-times (pos k) x)
grows a (negsuc k) x y above low none = absurd above.lt

left-out : (p : Problem) (at : List Mark) (s : Swap) → IsExchange p at s → IsIn (place s.leave) (exchanged s at) → ⊥
left-out p at s ex i = elim (exchanged_in s at (place s.leave) i) [
  | inl e ↦ ex.enters (subst (λ (v : ℕ). IsIn v at) e ex.leaves)
  | inr r ↦ r.1 refl
]

-- the leaving mark, whose value is negative, grows to 0
pub step_ray : (p : Problem) (at : List Mark) (s : Swap) (x y : Point) → Contains (map place (marks_of (lines p))) (place s.leave) → IsExchange p at s → StandsAt p at x → StandsAt p (exchanged s at) y → x.num (place s.leave) <ℤ pos 0 → IsRay p (exchanged s at) (place s.leave) (step x y)
step_ray p at s x y mark ex here there low =
    let gone : IsIn (place s.leave) (exchanged s at) → ⊥ = λ i. elim (exchanged_in s at (place s.leave) i) [
      | inl e ↦ ex.enters (subst (λ (v : ℕ). IsIn v at) e ex.leaves)
      | inr r ↦ r.1 refl
    ] in
    record {
      holds = All-from_recursion (λ l. value_at (step x y) (equation l) ≡ pos 0) (lines p)
          (each-impl (λ l. (value_at x.num (equation l) ≡ pos 0) × (value_at y.num (equation l) ≡ pos 0)) _ (lines p)
          (λ l h. value-plus (λ v. x.num one_column *ℤ y.num v) (λ v. neg_ℤ (y.num one_column) *ℤ x.num v) (equation l)
          ∙ ap₂ ◌+ℤ◌ (value-scaled (x.num one_column) y.num (equation l)) (value-scaled (neg_ℤ (y.num one_column)) x.num (equation l))
          ∙ both-none (x.num one_column) (y.num one_column) (value_at x.num (equation l)) (value_at y.num (equation l)) h.0 h.1)
          (each-both _ _ (lines p) (recursion_from_All _ (lines p) here.0) (recursion_from_All _ (lines p) there.0)));
      still = same-ones (x.num one_column) (y.num one_column);
      here = grows (x.num one_column) (y.num one_column) (x.num (place s.leave)) (y.num (place s.leave)) y.positive low (nothing_outside p (exchanged s at) y (place s.leave) there mark gone);
      other = All-from_recursion (λ m. (IsIn (place m) (exchanged s at) → ⊥) → place m ≢ place s.leave → step x y (place m) ≡ pos 0) (marks_of (lines p))
          (each-impl (λ m. ((IsIn (place m) at → ⊥) → x.num (place m) ≡ pos 0) × ((IsIn (place m) (exchanged s at) → ⊥) → y.num (place m) ≡ pos 0)) _ (marks_of (lines p))
          (λ m h out ne. both-none (x.num one_column) (y.num one_column) (x.num (place m)) (y.num (place m)) (h.0 (λ i. out (kept_in s at (place m) i ne))) (h.1 out))
          (each-both _ _ (marks_of (lines p)) (recursion_from_All _ (marks_of (lines p)) here.1) (recursion_from_All _ (marks_of (lines p)) there.1)));
    }

-- ---- the levels' costs are linear

line-linear : (q w v : ℕ) (a b u o e f : ℤ) → pos q *ℤ (pos w *ℤ (a *ℤ u +ℤ b *ℤ o) +ℤ pos v *ℤ (a *ℤ e +ℤ b *ℤ f)) ≡ a *ℤ (pos q *ℤ (pos w *ℤ u +ℤ pos v *ℤ e)) +ℤ b *ℤ (pos q *ℤ (pos w *ℤ o +ℤ pos v *ℤ f))
line-linear q w v a b u o e f =
    let one : pos w *ℤ (a *ℤ u +ℤ b *ℤ o) ≡ a *ℤ (pos w *ℤ u) +ℤ b *ℤ (pos w *ℤ o) = mul-add_left (pos w) (a *ℤ u) (b *ℤ o) ∙ ap₂ ◌+ℤ◌ (mul_left_comm_ℤ (pos w) a u) (mul_left_comm_ℤ (pos w) b o) in
    let two : pos v *ℤ (a *ℤ e +ℤ b *ℤ f) ≡ a *ℤ (pos v *ℤ e) +ℤ b *ℤ (pos v *ℤ f) = mul-add_left (pos v) (a *ℤ e) (b *ℤ f) ∙ ap₂ ◌+ℤ◌ (mul_left_comm_ℤ (pos v) a e) (mul_left_comm_ℤ (pos v) b f) in
    let three = mul-add_left a (pos w *ℤ u) (pos v *ℤ e) in
    let four = mul-add_left b (pos w *ℤ o) (pos v *ℤ f) in
    let inner : pos w *ℤ (a *ℤ u +ℤ b *ℤ o) +ℤ pos v *ℤ (a *ℤ e +ℤ b *ℤ f) ≡ a *ℤ (pos w *ℤ u +ℤ pos v *ℤ e) +ℤ b *ℤ (pos w *ℤ o +ℤ pos v *ℤ f) = omega (arith, ints, one, two, three, four) in
    ap (λ (z : ℤ). pos q *ℤ z) inner ∙ mul-add_left (pos q) (a *ℤ (pos w *ℤ u +ℤ pos v *ℤ e)) (b *ℤ (pos w *ℤ o +ℤ pos v *ℤ f))
    ∙ ap₂ ◌+ℤ◌ (mul_left_comm_ℤ (pos q) a (pos w *ℤ u +ℤ pos v *ℤ e)) (mul_left_comm_ℤ (pos q) b (pos w *ℤ o +ℤ pos v *ℤ f))

pub cost_linear : (p : Problem) (level : ℕ) (a b : ℤ) (n o : ℕ → ℤ) → cost_at p level (λ v. a *ℤ n v +ℤ b *ℤ o v) ≡ a *ℤ cost_at p level n +ℤ b *ℤ cost_at p level o
cost_linear p level a b n o =
    sum-cong (λ l. pos (scales p / l.scale) *ℤ line_cost level (λ v. a *ℤ n v +ℤ b *ℤ o v) l) (λ l. a *ℤ (pos (scales p / l.scale) *ℤ line_cost level n l) +ℤ b *ℤ (pos (scales p / l.scale) *ℤ line_cost level o l)) (lines p)
    (λ l. line-linear (scales p / l.scale) (under_weight l.rel (weight_at l level)) (over_weight l.rel (weight_at l level)) a b (n (place_of l.name Under)) (o (place_of l.name Under)) (n (place_of l.name Over)) (o (place_of l.name Over)))
    ∙ sum-add (λ l. a *ℤ (pos (scales p / l.scale) *ℤ line_cost level n l)) (λ l. b *ℤ (pos (scales p / l.scale) *ℤ line_cost level o l)) (lines p)
    ∙ ap₂ ◌+ℤ◌ (mul-sum a (λ l. pos (scales p / l.scale) *ℤ line_cost level n l) (lines p)) (mul-sum b (λ l. pos (scales p / l.scale) *ℤ line_cost level o l) (lines p))

-- x's costs, over its denominator, compared with y's
difference-none : (c d e : ℤ) → c ≡ d +ℤ neg_ℤ e → e ≡ d → c ≡ pos 0
difference-none c d e h k = omega (arith, ints, h, k)

difference-up : (c d e : ℤ) → c ≡ d +ℤ neg_ℤ e → pos 0 ≤ℤ c → e ≤ℤ d
difference-up c d e h k = omega (arith, ints, h, k)

-- along an exchange of a dual path the vector of the levels' costs does not fall
pub dual_never_falls : (p : Problem) (at : List Mark) (s : Swap) (x y : Point) (level : ℕ) → IsWhole p → Contains (map place (marks_of (lines p))) (place s.leave) → IsExchange p at s → StandsAt p at x → StandsAt p (exchanged s at) y → x.num (place s.leave) <ℤ pos 0 → NoNegativeColumn p (exchanged s at)
    → ((k : ℕ) → k < level → y.num one_column *ℤ cost_at p k x.num ≡ x.num one_column *ℤ cost_at p k y.num) → (y.num one_column *ℤ cost_at p level x.num) ≤ℤ (x.num one_column *ℤ cost_at p level y.num)
dual_never_falls p at s x y level whole mark ex here there low (m, is, columns) before =
    let problem = whole-IsProblem p whole in
    let ray = step_ray p at s x y mark ex here there low in
    let cost : (k : ℕ) → cost_at p k (step x y) ≡ x.num one_column *ℤ cost_at p k y.num +ℤ neg_ℤ (y.num one_column *ℤ cost_at p k x.num) =
    λ k. cost_linear p k (x.num one_column) (neg_ℤ (y.num one_column)) y.num x.num ∙ ap (λ (z : ℤ). x.num one_column *ℤ cost_at p k y.num +ℤ z) (neg-times (y.num one_column) (cost_at p k x.num)) in
    difference-up (cost_at p level (step x y)) (x.num one_column *ℤ cost_at p level y.num) (y.num one_column *ℤ cost_at p level x.num) (cost level)
    (not_below p (exchanged s at) m (place s.leave) level (step x y) problem is columns ray
    (zeros-to p (exchanged s at) m (place s.leave) (step x y) problem is columns ray level (λ k less. difference-none (cost_at p k (step x y)) (x.num one_column *ℤ cost_at p k y.num) (y.num one_column *ℤ cost_at p k x.num) (cost k) (before k less))))

-- nor is it the same at all levels: so it rises
pub dual_rises : (p : Problem) (at : List Mark) (s : Swap) (x y : Point) → IsWhole p → Contains (map place (marks_of (lines p))) (place s.leave) → IsExchange p at s → StandsAt p at x → StandsAt p (exchanged s at) y → x.num (place s.leave) <ℤ pos 0 → NoNegativeColumn p (exchanged s at)
    → ((k : ℕ) → y.num one_column *ℤ cost_at p k x.num ≡ x.num one_column *ℤ cost_at p k y.num) → ⊥
dual_rises p at s x y whole mark ex here there low (m, is, columns) same =
    let problem = whole-IsProblem p whole in
    let ray = step_ray p at s x y mark ex here there low in
    let cost : (k : ℕ) → cost_at p k (step x y) ≡ x.num one_column *ℤ cost_at p k y.num +ℤ neg_ℤ (y.num one_column *ℤ cost_at p k x.num) =
    λ k. cost_linear p k (x.num one_column) (neg_ℤ (y.num one_column)) y.num x.num ∙ ap (λ (z : ℤ). x.num one_column *ℤ cost_at p k y.num +ℤ z) (neg-times (y.num one_column) (cost_at p k x.num)) in
    let none : (k : ℕ) → cost_at p k (step x y) ≡ pos 0 = λ k. difference-none (cost_at p k (step x y)) (x.num one_column *ℤ cost_at p k y.num) (y.num one_column *ℤ cost_at p k x.num) (cost k) (same k) in
    no_zero_column p (exchanged s at) m (place s.leave) (step x y) whole ex.corner is mark (left-out p at s ex) ray
    (λ side i d within e level. zeros-to p (exchanged s at) m (place s.leave) (step x y) problem is columns ray (suc level) (λ k less. none k) level (omega arith) side i d within e)
