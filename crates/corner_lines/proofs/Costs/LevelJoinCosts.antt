-- What a level costs where rows join.
use Rattle.std.proofs.Common.{◌≡◌, ◌≢◌, ◌∙◌, ◌⊎◌, ℕ, ◌-◌, ◌*◌, ◌/◌, ◌<◌, Bool, true, false, cond, nat_eq, List, [], ◌∷◌, ◌++◌, map, ℤ, pos, ◌+ℤ◌, ◌-ℤ◌, ◌*ℤ◌, neg_ℤ, refl, sym, ap, ap₂, subst, arith, inl, inr, All, Any, Contains}
use Rattle.std.specs.List.{AllByRecursion as Each}
use Rattle.std.specs.Int.{◌∣◌}
use Rattle.std.proofs.lemmas.Bool.{cases_eq, cases_Bool}
use Rattle.std.proofs.lemmas.List.Elements.{All-from_recursion, recursion_from_All}
use borrow.Author.Differences.{ints}
use Rattle.frac_core.proofs.Integers.{add-zero_ℤ, mul-add_left, mul-zero_ℤ, mul_assoc_ℤ, mul_left_comm_ℤ, zero-mul_ℤ}
use Rattle.problem_core.specs.declared.parts.Mark.{Mark}
use Rattle.problem_core.specs.declared.parts.Side.{Side}
use Rattle.problem_core.specs.declared.parts.Side.TheVariants.{Under, Over}
use Rattle.problem_core.specs.declared.parts.RowName.{RowName}
use Rattle.problem_core.specs.Layout.{IsProblem, Line, Problem, Row, line_of_row, lines, product_of, stay_lines, sum_of, value_at}
use Rattle.problem_core.specs.Certificates.{under_weight, over_weight, weight_at}
use Rattle.problem_core.specs.Corners.{IsIn, Point, StandsAt, equation, marks_of, one_column, place, place_of}
use Rattle.problem_core.specs.Unfit.{lightened, with_first_rows, without_weight}
use Rattle.problem_core.proofs.Forms.{each-impl, each-both, mul-sum, sum-cong}
use Rattle.problem_core.proofs.Wholes.{whole-IsProblem}
use Rattle.problem_core.specs.Levels.{cost_at, line_cost, scales}
use Rattle.corner_laws.specs.Lifts.{AreJoined, with_rows}
use Rattle.corner_laws.specs.Units.{IsLevelUnit, over_share, under_share}
use Rattle.corner_laws.proofs.Swaps.ColumnsStay.{each_marks}
use Rattle.corner_laws.proofs.LevelCosts.Gaps.{shares}
use Rattle.corner_laws.proofs.LevelCosts.Unique.{same-name}
use Rattle.corner_laws.proofs.WrittenValues.{nothing_outside}
use Rattle.corner_laws.proofs.ZeroColumns.{here-in, scales-above}
use Rattle.corner_lines.specs.LineEquations.{deviation}
use Rattle.corner_lines.specs.Levels.LevelRows.{inside_number}
use Rattle.corner_lines.specs.Levels.LevelJoins.{AreLinesBefore, IsJoiningNumber, level_count, weightless}
use Rattle.corner_lines.specs.Levels.LevelCosts.{AreDifferent, IsSound, JoinedCostIsCost, JoiningRowsCostNothing, LeftCostIsCost, UnfitJoinedCost}
use Rattle.corner_lines.proofs.Costs.LevelCosts.{cost-ratio, cost-step, over-not}
use Rattle.corner_lines.proofs.LevelRows.LevelJoins.{any-other, each-after, not-weight-back, weightless-none}
use Rattle.corner_lines.proofs.Costs.LevelPlaces.{cost_everywhere}
use Rattle.corner_lines.proofs.LevelRows.LevelRests.{lightened_append, sum-more}
use Rattle.corner_lines.proofs.LevelRows.LevelSound.{first-seen, same-stands}
use Rattle.problem_core.proofs.Corners.Conflicts.{sum-each}
use Rattle.corner_laws.proofs.PathEnds.Ends.{both_marks}
use Rattle.corner_laws.proofs.LevelCosts.LevelNumbers.{under-whole, over-whole}
use Rattle.frac_core.proofs.Numbers.{with-factor, neg-times, quotient-times as quotient, mul-neg as mul-opp}
use Rattle.frac_core.proofs.Bools.{cond-mul as cond-times, count-other as cond_other, count-same as cond_same}
use Rattle.problem_core.proofs.Lines.{free-cost, under-none, over-none, each-less as each-fewer}

-- ---- a list with one weight more

pub product-before : (name : RowName) (ls ms : List Line) → AreLinesBefore name ls ms → product_of (λ l. l.scale) ls ≡ product_of (λ l. l.scale) ms
product-before name [] [] are = refl
product-before name [] (m ∷ ms) are = absurd are
product-before name (l ∷ ls) [] are = absurd are
product-before name (l ∷ ls) (m ∷ ms) are = ap₂ ◌*◌ (elim are.0 [ inl e ↦ ap (λ (k : Line). k.scale) e.0 | inr e ↦ ap (λ (k : Line). k.scale) e.0 ]) (product-before name ls ms are.1)

-- the sum without the line's part, and its part
sum-joined : (name : RowName) (f g : Line → ℤ) (ls ms : List Line) → ((l m : Line) → l ≡ m → f l ≡ g m) → ((m : Line) → f (weightless m) ≡ pos 0) → AreLinesBefore name ls ms
    → sum_of g ms ≡ sum_of f ls +ℤ sum_of (λ m. cond (nat_eq (place_of m.name Under) (place_of name Under)) (g m) (pos 0)) ms
sum-joined name f g [] [] e z are = refl
sum-joined name f g [] (m ∷ ms) e z are = absurd are
sum-joined name f g (l ∷ ls) [] e z are = absurd are
sum-joined name f g (l ∷ ls) (m ∷ ms) e z are =
    let rest = sum-joined name f g ls ms e z are.1 in
    elim are.0 [
      | inl h ↦
          let a : cond (nat_eq (place_of m.name Under) (place_of name Under)) (g m) (pos 0) ≡ pos 0 = cond_other (place_of m.name Under) (place_of name Under) (g m) (λ q. h.1 (same-name m.name name q)) in
          let b = e l m h.0 in
          omega (arith, ints, rest, a, b)
      | inr h ↦
          let a : cond (nat_eq (place_of m.name Under) (place_of name Under)) (g m) (pos 0) ≡ g m = cond_same (place_of m.name Under) (place_of name Under) (g m) (ap (λ (n : RowName). place_of n Under) h.1) in
          let b : f l ≡ pos 0 = ap f h.0 ∙ z m in
          omega (arith, ints, rest, a, b)
    ]

-- a sum in which the named line alone counts
none-named : (name : RowName) (g : Line → ℤ) (ls : List Line) → Each (λ m. name ≢ m) (map (λ l. l.name) ls) → sum_of (λ m. cond (nat_eq (place_of m.name Under) (place_of name Under)) (g m) (pos 0)) ls ≡ pos 0
none-named name g [] h = refl
none-named name g (l ∷ ls) h = ap₂ ◌+ℤ◌ (cond_other (place_of l.name Under) (place_of name Under) (g l) (λ q. h.0 (sym (same-name l.name name q)))) (none-named name g ls h.1)

one-named : (name : RowName) (v : ℤ) (g : Line → ℤ) (ls : List Line) → AreDifferent (map (λ l. l.name) ls) → Each (λ l. l.name ≡ name → g l ≡ v) ls → Each (λ l. l.name ≢ name) ls ⊎ (sum_of (λ m. cond (nat_eq (place_of m.name Under) (place_of name Under)) (g m) (pos 0)) ls ≡ v)
one-named name v g [] d h = inl tt
one-named name v g (l ∷ ls) d h =
    elim (cases_eq (place_of l.name Under) (place_of name Under)) [
      | inl e ↦
          let is : l.name ≡ name = same-name l.name name e in
          inr (ap₂ ◌+ℤ◌ (cond_same (place_of l.name Under) (place_of name Under) (g l) e ∙ h.0 is)
          (none-named name g ls (subst (λ (n : RowName). Each (λ m. n ≢ m) (map (λ (l : Line). l.name) ls)) is (recursion_from_All (λ m. l.name ≢ m) (map (λ (l : Line). l.name) ls) d.0))) ∙ add-zero_ℤ v)
      | inr ne ↦ elim (one-named name v g ls d.1 h.1) [
        | inl other ↦ inl ((λ q. ne (ap (λ (n : RowName). place_of n Under) q)), other)
        | inr is ↦ inr (let a = cond_other (place_of l.name Under) (place_of name Under) (g l) ne in omega (arith, ints, a, is))
      ]
    ]

-- ---- the line's cost

-- unit * (q * (w * u)) = whole * (share * u)
part-share : (q k whole unit w s : ℕ) (u : ℤ) → q * k ≡ whole → k * s ≡ unit * w → pos unit *ℤ (pos q *ℤ (pos w *ℤ u)) ≡ pos whole *ℤ (pos s *ℤ u)
part-share q k whole unit w s u e f =
    let a : unit * (q * w) ≡ whole * s = (let g : q * (k * s) ≡ q * (unit * w) = ap (λ (n : ℕ). q * n) f in let h : q * k * s ≡ whole * s = ap (λ (n : ℕ). n * s) e in omega (arith, g, h)) in
    ap (λ (z : ℤ). pos unit *ℤ z) (sym (mul_assoc_ℤ (pos q) (pos w) u)) ∙ sym (mul_assoc_ℤ (pos unit) (pos (q * w)) u) ∙ ap (λ (n : ℕ). pos n *ℤ u) a ∙ mul_assoc_ℤ (pos whole) (pos s) u

-- both marks' shares, as n times the deviation
shares-dev : (side : Side) (level unit : ℕ) (l : Line) (n : ℤ) (x : ℕ → ℤ) → n ≡ neg_ℤ (inside_number side level unit 1 l) → ((other : Side) → other ≢ side → x (place_of l.name other) ≡ pos 0)
    → pos (under_share unit level l) *ℤ x (place_of l.name Under) +ℤ pos (over_share unit level l) *ℤ x (place_of l.name Over) ≡ n *ℤ deviation l.name x
shares-dev Under level unit l n x e nil =
    let none : x (place_of l.name Over) ≡ pos 0 = nil Over over-not in
    let a : pos (over_share unit level l) *ℤ x (place_of l.name Over) ≡ pos 0 = ap (λ (z : ℤ). pos (over_share unit level l) *ℤ z) none ∙ mul-zero_ℤ (pos (over_share unit level l)) in
    let b : n ≡ neg_ℤ (pos (under_share unit level l)) = omega (arith, ints, e) in
    let c : x (place_of l.name Over) -ℤ x (place_of l.name Under) ≡ neg_ℤ (x (place_of l.name Under)) = omega (arith, ints, none) in
    let d : neg_ℤ (pos (under_share unit level l)) *ℤ neg_ℤ (x (place_of l.name Under)) ≡ pos (under_share unit level l) *ℤ x (place_of l.name Under) =
    neg-times (pos (under_share unit level l)) (neg_ℤ (x (place_of l.name Under))) ∙ ap neg_ℤ (mul-opp (pos (under_share unit level l)) (x (place_of l.name Under))) ∙ omega (arith, ints) in
    ap (λ (z : ℤ). pos (under_share unit level l) *ℤ x (place_of l.name Under) +ℤ z) a ∙ add-zero_ℤ (pos (under_share unit level l) *ℤ x (place_of l.name Under)) ∙ sym (ap₂ ◌*ℤ◌ b c ∙ d)
shares-dev Over level unit l n x e nil =
    let none : x (place_of l.name Under) ≡ pos 0 = nil Under (λ e. over-not (sym e)) in
    let a : pos (under_share unit level l) *ℤ x (place_of l.name Under) ≡ pos 0 = ap (λ (z : ℤ). pos (under_share unit level l) *ℤ z) none ∙ mul-zero_ℤ (pos (under_share unit level l)) in
    let b : n ≡ pos (over_share unit level l) = omega (arith, ints, e) in
    let c : x (place_of l.name Over) -ℤ x (place_of l.name Under) ≡ x (place_of l.name Over) = omega (arith, ints, none) in
    let d : pos (under_share unit level l) *ℤ x (place_of l.name Under) +ℤ pos (over_share unit level l) *ℤ x (place_of l.name Over) ≡ pos (over_share unit level l) *ℤ x (place_of l.name Over) = omega (arith, ints, a) in
    d ∙ sym (ap₂ ◌*ℤ◌ b c)

-- the line's part of the cost, times the unit
pub line-part : (side : Side) (level unit whole : ℕ) (l : Line) (n : ℤ) (x : ℕ → ℤ) → whole / l.scale * l.scale ≡ whole → l.scale ∣ unit * weight_at l level → n ≡ neg_ℤ (inside_number side level unit 1 l) → ((other : Side) → other ≢ side → x (place_of l.name other) ≡ pos 0)
    → pos unit *ℤ (pos (whole / l.scale) *ℤ line_cost level x l) ≡ pos whole *ℤ (n *ℤ deviation l.name x)
line-part side level unit whole l n x e d h nil =
    ap (λ (z : ℤ). pos unit *ℤ z) (mul-add_left (pos (whole / l.scale)) (pos (under_weight l.rel (weight_at l level)) *ℤ x (place_of l.name Under)) (pos (over_weight l.rel (weight_at l level)) *ℤ x (place_of l.name Over)))
    ∙ mul-add_left (pos unit) (pos (whole / l.scale) *ℤ (pos (under_weight l.rel (weight_at l level)) *ℤ x (place_of l.name Under))) (pos (whole / l.scale) *ℤ (pos (over_weight l.rel (weight_at l level)) *ℤ x (place_of l.name Over)))
    ∙ ap₂ ◌+ℤ◌ (part-share (whole / l.scale) l.scale whole unit (under_weight l.rel (weight_at l level)) (under_share unit level l) (x (place_of l.name Under)) e (under-whole l.rel l.scale unit (weight_at l level) d))
    (part-share (whole / l.scale) l.scale whole unit (over_weight l.rel (weight_at l level)) (over_share unit level l) (x (place_of l.name Over)) e (over-whole l.rel l.scale unit (weight_at l level) d))
    ∙ sym (mul-add_left (pos whole) (pos (under_share unit level l) *ℤ x (place_of l.name Under)) (pos (over_share unit level l) *ℤ x (place_of l.name Over)))
    ∙ ap (λ (z : ℤ). pos whole *ℤ z) (shares-dev side level unit l n x h nil)

-- ---- all lines

free-part : (q level : ℕ) (x : ℕ → ℤ) (m : Line) → pos q *ℤ line_cost level x (weightless m) ≡ pos 0
free-part q level x m =
    let u : under_weight m.rel (weight_at (weightless m) level) ≡ 0 = ap (under_weight m.rel) (weightless-none level m) ∙ under-none m.rel in
    let o : over_weight m.rel (weight_at (weightless m) level) ≡ 0 = ap (over_weight m.rel) (weightless-none level m) ∙ over-none m.rel in
    ap (λ (z : ℤ). pos q *ℤ z)
    (ap₂ ◌+ℤ◌ (ap (λ (w : ℕ). pos w *ℤ x (place_of m.name Under)) u ∙ zero-mul_ℤ (x (place_of m.name Under))) (ap (λ (w : ℕ). pos w *ℤ x (place_of m.name Over)) o ∙ zero-mul_ℤ (x (place_of m.name Over))))
    ∙ mul-zero_ℤ (pos q)

-- the cost with the line's weight
joined-cost : (p q : Problem) (at : List Mark) (level unit : ℕ) (name : RowName) (side : Side) (n : ℤ) (z : Point) → IsSound q → AreLinesBefore name (lines p) (lines q) → Any (λ l. l.name ≡ name) (lines q) → IsLevelUnit q level unit → IsJoiningNumber q name side level unit 1 n
    → ((other : Side) → IsIn (place_of name other) at → other ≡ side) → StandsAt q at z
    → pos unit *ℤ cost_at q level z.num ≡ pos unit *ℤ cost_at p level z.num +ℤ pos (scales q) *ℤ (n *ℤ deviation name z.num)
joined-cost p q at level unit name side n z sound before some is joins only there =
    let same : scales p ≡ scales q = product-before name (lines p) (lines q) before in
    let value : ℤ = pos (scales q) *ℤ (n *ℤ deviation name z.num) in
    let split : cost_at q level z.num ≡ cost_at p level z.num +ℤ sum_of (λ m. cond (nat_eq (place_of m.name Under) (place_of name Under)) (pos (scales q / m.scale) *ℤ line_cost level z.num m) (pos 0)) (lines q) =
    sum-joined name (λ l. pos (scales p / l.scale) *ℤ line_cost level z.num l) (λ l. pos (scales q / l.scale) *ℤ line_cost level z.num l) (lines p) (lines q)
    (λ l m e. ap (λ (n : ℕ). pos (n / l.scale) *ℤ line_cost level z.num l) same ∙ ap (λ (k : Line). pos (scales q / k.scale) *ℤ line_cost level z.num k) e)
    (λ m. free-part (scales p / m.scale) level z.num m) before in
    let each : Each (λ l. l.name ≡ name → pos unit *ℤ (pos (scales q / l.scale) *ℤ line_cost level z.num l) ≡ pos (scales q) *ℤ (n *ℤ deviation name z.num)) (lines q) =
    each-impl (λ l. ((scales q / l.scale * l.scale ≡ scales q) × (l.scale ∣ unit * weight_at l level)) × ((l.name ≡ name → n ≡ neg_ℤ (inside_number side level unit 1 l)) × (Contains (map place (marks_of (lines q))) (place_of l.name Under) × Contains (map place (marks_of (lines q))) (place_of l.name Over)))) _ (lines q)
    (λ l h e.
    line-part side level unit (scales q) l n z.num h.0.0 h.0.1 (h.1.0 e)
    (λ other ne. nothing_outside q at z (place_of l.name other) there (either-side (λ c. Contains (map place (marks_of (lines q))) c) l.name h.1.1 other) (λ i. ne (only other (subst (λ (a : RowName). IsIn (place_of a other) at) e i))))
    ∙ ap (λ (a : RowName). pos (scales q) *ℤ (n *ℤ deviation a z.num)) e)
    (each-both _ _ (lines q) (each-both _ _ (lines q) (shares q sound.problem) (recursion_from_All _ (lines q) is.whole)) (each-both _ _ (lines q) (recursion_from_All _ (lines q) joins) (here-in (lines q)))) in
    let one : pos unit *ℤ sum_of (λ m. cond (nat_eq (place_of m.name Under) (place_of name Under)) (pos (scales q / m.scale) *ℤ line_cost level z.num m) (pos 0)) (lines q) ≡ pos (scales q) *ℤ (n *ℤ deviation name z.num) =
    sym (mul-sum (pos unit) (λ m. cond (nat_eq (place_of m.name Under) (place_of name Under)) (pos (scales q / m.scale) *ℤ line_cost level z.num m) (pos 0)) (lines q))
    ∙ sym (sum-cong (λ m. cond (nat_eq (place_of m.name Under) (place_of name Under)) (pos unit *ℤ (pos (scales q / m.scale) *ℤ line_cost level z.num m)) (pos 0)) (λ m. pos unit *ℤ cond (nat_eq (place_of m.name Under) (place_of name Under)) (pos (scales q / m.scale) *ℤ line_cost level z.num m) (pos 0)) (lines q) (λ m. cond-times (nat_eq (place_of m.name Under) (place_of name Under)) (pos unit) (pos (scales q / m.scale) *ℤ line_cost level z.num m)))
    ∙ elim (one-named name (pos (scales q) *ℤ (n *ℤ deviation name z.num)) (λ m. pos unit *ℤ (pos (scales q / m.scale) *ℤ line_cost level z.num m)) (lines q) sound.names each) [
      | inl other ↦ absurd (any-other name (lines q) (All-from_recursion (λ l. l.name ≢ name) (lines q) other) some)
      | inr is ↦ is
    ] in
    ap (λ (t : ℤ). pos unit *ℤ t) split ∙ mul-add_left (pos unit) (cost_at p level z.num) (sum_of (λ m. cond (nat_eq (place_of m.name Under) (place_of name Under)) (pos (scales q / m.scale) *ℤ line_cost level z.num m) (pos 0)) (lines q)) ∙ ap (λ (t : ℤ). pos unit *ℤ cost_at p level z.num +ℤ t) one
  where
    either-side : (P : ℕ → Type 0) (name : RowName) → P (place_of name Under) × P (place_of name Over) → (side : Side) → P (place_of name side)
    either-side P name h Under = h.0
    either-side P name h Over = h.1

-- in the form of a step from a point to itself
as-step : (d s : ℕ) (a x y n v : ℤ) → pos d *ℤ y ≡ pos d *ℤ x +ℤ pos s *ℤ (n *ℤ v) → pos d *ℤ (a *ℤ y +ℤ neg_ℤ a *ℤ x) ≡ pos s *ℤ (n *ℤ (a *ℤ v))
as-step d s a x y n v e =
    let one : pos d *ℤ (a *ℤ y +ℤ neg_ℤ a *ℤ x) ≡ a *ℤ (pos d *ℤ y) -ℤ a *ℤ (pos d *ℤ x) =
    mul-add_left (pos d) (a *ℤ y) (neg_ℤ a *ℤ x) ∙ ap₂ ◌+ℤ◌ (mul_left_comm_ℤ (pos d) a y) (ap (λ (z : ℤ). pos d *ℤ z) (neg-times a x) ∙ mul-opp (pos d) (a *ℤ x) ∙ ap neg_ℤ (mul_left_comm_ℤ (pos d) a x)) in
    let two : a *ℤ (pos d *ℤ y) ≡ a *ℤ (pos d *ℤ x) +ℤ a *ℤ (pos s *ℤ (n *ℤ v)) = ap (λ (z : ℤ). a *ℤ z) e ∙ mul-add_left a (pos d *ℤ x) (pos s *ℤ (n *ℤ v)) in
    let three : a *ℤ (pos s *ℤ (n *ℤ v)) ≡ pos s *ℤ (n *ℤ (a *ℤ v)) = mul_left_comm_ℤ a (pos s) (n *ℤ v) ∙ ap (λ (z : ℤ). pos s *ℤ z) (mul_left_comm_ℤ a n v) in
    omega (arith, ints, one, two, three)

before-stands : (p q : Problem) (at : List Mark) (name : RowName) (x : Point) → AreLinesBefore name (lines p) (lines q) → StandsAt q at x → StandsAt p at x
before-stands p q at name x before h = (
  All-from_recursion (λ l. value_at x.num (equation l) ≡ pos 0) (lines p) (each-after name (λ l. value_at x.num (equation l) ≡ pos 0) (λ l. value_at x.num (equation l) ≡ pos 0) (lines p) (lines q) (λ l m b e. not-weight-back name (λ l. value_at x.num (equation l) ≡ pos 0) l m (λ t. t) b e) before (recursion_from_All _ (lines q) h.0)),
  All-from_recursion (λ m. (IsIn (place m) at → ⊥) → x.num (place m) ≡ pos 0) (marks_of (lines p))
      (each_marks (λ c. (IsIn c at → ⊥) → x.num c ≡ pos 0) (lines p)
      (each-impl (λ l. ((IsIn (place_of l.name Under) at → ⊥) → x.num (place_of l.name Under) ≡ pos 0) × ((IsIn (place_of l.name Over) at → ⊥) → x.num (place_of l.name Over) ≡ pos 0)) _ (lines p) (λ l k. k.0) both)
      (each-impl (λ l. ((IsIn (place_of l.name Under) at → ⊥) → x.num (place_of l.name Under) ≡ pos 0) × ((IsIn (place_of l.name Over) at → ⊥) → x.num (place_of l.name Over) ≡ pos 0)) _ (lines p) (λ l k. k.1) both)),
)
  where
    both : Each (λ l. ((IsIn (place_of l.name Under) at → ⊥) → x.num (place_of l.name Under) ≡ pos 0) × ((IsIn (place_of l.name Over) at → ⊥) → x.num (place_of l.name Over) ≡ pos 0)) (lines p)
    both =
        each-after name (λ l. ((IsIn (place_of l.name Under) at → ⊥) → x.num (place_of l.name Under) ≡ pos 0) × ((IsIn (place_of l.name Over) at → ⊥) → x.num (place_of l.name Over) ≡ pos 0)) (λ l. ((IsIn (place_of l.name Under) at → ⊥) → x.num (place_of l.name Under) ≡ pos 0) × ((IsIn (place_of l.name Over) at → ⊥) → x.num (place_of l.name Over) ≡ pos 0)) (lines p) (lines q)
        (λ l m b e. not-weight-back name (λ l. ((IsIn (place_of l.name Under) at → ⊥) → x.num (place_of l.name Under) ≡ pos 0) × ((IsIn (place_of l.name Over) at → ⊥) → x.num (place_of l.name Over) ≡ pos 0)) l m (λ t. t) b e) before
        (both_marks (λ c. (IsIn c at → ⊥) → x.num c ≡ pos 0) (lines q) (recursion_from_All _ (marks_of (lines q)) h.1))

pub joined_cost_is_cost : JoinedCostIsCost
joined_cost_is_cost p q at level unit own number name side size line n cost value next sound corner join some is joins c (z, there, f) st = (
  z,
  there,
  cost-step (z.num one_column) (z.num one_column) unit (scales q) cost value next (cost_at p level z.num) (cost_at q level z.num) n (deviation name z.num) z.positive z.positive is.above st
      (as-step unit (scales q) (z.num one_column) (cost_at p level z.num) (cost_at q level z.num) n (deviation name z.num) (joined-cost p q at level unit name side n z sound join.before some is joins join.no_other there))
      (cost_everywhere p at level cost z corner c (before-stands p q at name z join.before there) ∙ ap (λ (s : ℕ). cost.num *ℤ (pos s *ℤ z.num one_column)) (product-before name (lines p) (lines q) join.before)) f,
)

pub unfit_joined_cost : UnfitJoinedCost
unfit_joined_cost p q at level unit own number name side size line n cost value sound corner with_it join some is joins c (z, there, f) unfit scale times reduced next w costs fit kept =
    unfit next kept.lowest
    (cost-ratio (z.num one_column) (z.num one_column) unit (scales q) cost value next (cost_at p level z.num) (cost_at q level z.num) n (deviation name z.num) z.positive z.positive (scales-above q sound.problem)
    (as-step unit (scales q) (z.num one_column) (cost_at p level z.num) (cost_at q level z.num) n (deviation name z.num) (joined-cost p q at level unit name side n z sound join.before some is joins join.no_other there))
    (cost_everywhere p at level cost z corner c (before-stands p q at name z join.before there) ∙ ap (λ (s : ℕ). cost.num *ℤ (pos s *ℤ z.num one_column)) (product-before name (lines p) (lines q) join.before)) f
    (cost_everywhere q at level next z with_it costs there))
    kept.fits

-- the other way round
turned-round : (a s : ℕ) (x y n v m : ℤ) → n ≡ neg_ℤ m → pos a *ℤ y ≡ pos a *ℤ x +ℤ pos s *ℤ (n *ℤ v) → pos a *ℤ x ≡ pos a *ℤ y +ℤ pos s *ℤ (m *ℤ v)
turned-round a s x y n v m e h =
    let one : n *ℤ v ≡ neg_ℤ (m *ℤ v) = ap (λ (z : ℤ). z *ℤ v) e ∙ neg-times m v in
    let two : pos s *ℤ (n *ℤ v) ≡ neg_ℤ (pos s *ℤ (m *ℤ v)) = ap (λ (z : ℤ). pos s *ℤ z) one ∙ mul-opp (pos s) (m *ℤ v) in
    omega (arith, ints, h, two)

opposite-again : (n i : ℤ) → n ≡ i → neg_ℤ n ≡ neg_ℤ i
opposite-again n i e = ap neg_ℤ e

pub left_cost_is_cost : LeftCostIsCost
left_cost_is_cost p q at level unit own number name side size line n cost value next sound corner leave some is counts c (z, there, f) st =
    let joins : All (λ l. l.name ≡ name → neg_ℤ n ≡ neg_ℤ (inside_number side level unit 1 l)) (lines p) =
    All-from_recursion (λ l. l.name ≡ name → neg_ℤ n ≡ neg_ℤ (inside_number side level unit 1 l)) (lines p)
    (each-impl (λ l. l.name ≡ name → n ≡ inside_number side level unit 1 l) _ (lines p) (λ l h e. opposite-again n (inside_number side level unit 1 l) (h e)) (recursion_from_All _ (lines p) counts)) in
    let costs : pos unit *ℤ cost_at p level z.num ≡ pos unit *ℤ cost_at q level z.num +ℤ pos (scales p) *ℤ (neg_ℤ n *ℤ deviation name z.num) =
    joined-cost q p at level unit name side (neg_ℤ n) z sound leave.before some is joins leave.no_other there in (
      z,
      before-stands q p at name z leave.before there,
      cost-step (z.num one_column) (z.num one_column) unit (scales p) cost value next (cost_at p level z.num) (cost_at q level z.num) n (deviation name z.num) z.positive z.positive is.above st
          (as-step unit (scales p) (z.num one_column) (cost_at p level z.num) (cost_at q level z.num) n (deviation name z.num) (turned-round unit (scales p) (cost_at q level z.num) (cost_at p level z.num) (neg_ℤ n) (deviation name z.num) n refl costs))
          (cost_everywhere p at level cost z corner c there) f
          ∙ ap (λ (s : ℕ). next.num *ℤ (pos s *ℤ z.num one_column)) (sym (product-before name (lines q) (lines p) leave.before)),
    )

-- ---- rows that have joined the corner but not their level

product-more : (rows more : List Row) (ls : List Line) → product_of (λ l. l.scale) (map line_of_row (rows ++ more) ++ ls) ≡ product_of (λ (r : Row). r.scale) more * product_of (λ l. l.scale) (map line_of_row rows ++ ls)
product-more [] [] ls = omega arith
product-more [] (r ∷ more) ls = let e : r.scale * product_of (λ l. l.scale) (map line_of_row more ++ ls) ≡ r.scale * (product_of (λ (r : Row). r.scale) more * product_of (λ l. l.scale) ls) = ap (λ (n : ℕ). r.scale * n) (product-more [] more ls) in omega (arith, e)
product-more (s ∷ rows) more ls = let e : s.scale * product_of (λ l. l.scale) (map line_of_row (rows ++ more) ++ ls) ≡ s.scale * (product_of (λ (r : Row). r.scale) more * product_of (λ l. l.scale) (map line_of_row rows ++ ls)) = ap (λ (n : ℕ). s.scale * n) (product-more rows more ls) in omega (arith, e)

more-cost : (p : Problem) (more : List Row) (level : ℕ) (x : ℕ → ℤ) → IsProblem p → Each (λ r. weight_at (line_of_row r) level ≡ 0) more → cost_at (with_rows more p) level x ≡ pos (product_of (λ (r : Row). r.scale) more) *ℤ cost_at p level x
more-cost p more level x problem free =
    let q : Problem = with_rows more p in
    let k : ℕ = product_of (λ (r : Row). r.scale) more in
    sum-more (λ l. pos (scales q / l.scale) *ℤ line_cost level x l) p.rows more (stay_lines 1001 p.stays) (each-impl (λ r. weight_at (line_of_row r) level ≡ 0) _ more (λ r e. free-cost (scales q / r.scale) level x (line_of_row r) e) free)
    ∙ sum-each (λ l. pos (scales q / l.scale) *ℤ line_cost level x l) (λ l. pos (product_of (λ (r : Row). r.scale) more) *ℤ (pos (scales p / l.scale) *ℤ line_cost level x l)) (lines p)
    (each-impl (λ l. ((0 < l.scale) × (0 < l.den)) × (scales p / l.scale * l.scale ≡ scales p)) _ (lines p)
    (λ l h. ap (λ (n : ℕ). pos n *ℤ line_cost level x l) (quotient (scales p) (scales q) (product_of (λ (r : Row). r.scale) more) l.scale h.0.0 h.1 (product-more p.rows more (stay_lines 1001 p.stays))) ∙ mul_assoc_ℤ (pos (product_of (λ (r : Row). r.scale) more)) (pos (scales p / l.scale)) (line_cost level x l))
    (each-both _ _ (lines p) (recursion_from_All _ (lines p) problem) (shares p problem)))
    ∙ mul-sum (pos (product_of (λ (r : Row). r.scale) more)) (λ l. pos (scales p / l.scale) *ℤ line_cost level x l) (lines p)

no-weights : (level : ℕ) (rest : List Row) → Each (λ r. weight_at (line_of_row r) level ≡ 0) (lightened level 0 rest)
no-weights level [] = tt
no-weights level (r ∷ rest) =
    elim (cases_Bool (nat_eq (1000 - r.rank) level)) [
      | inl e ↦ subst (λ (b : Bool). Each (λ r. weight_at (line_of_row r) level ≡ 0) (cond b (without_weight r ∷ lightened level 0 rest) (r ∷ lightened level 0 rest))) (sym e) (no-left (nat_eq (1000 - r.rank) level), no-weights level rest)
      | inr e ↦ subst (λ (b : Bool). Each (λ r. weight_at (line_of_row r) level ≡ 0) (cond b (without_weight r ∷ lightened level 0 rest) (r ∷ lightened level 0 rest))) (sym e) (ap (λ (b : Bool). cond b r.weight 0) e, no-weights level rest)
    ]
  where
    no-left : (b : Bool) → cond {A = ℕ} b 0 0 ≡ 0
    no-left true = refl
    no-left false = refl

fewer-stand : (p : Problem) (more : List Row) (at joined : List Mark) (x : Point) → AreJoined p at joined → StandsAt (with_rows more p) joined x → StandsAt p at x
fewer-stand p more at joined x are h = (
  All-from_recursion (λ l. value_at x.num (equation l) ≡ pos 0) (lines p) (each-fewer (λ l. value_at x.num (equation l) ≡ pos 0) p.rows more (stay_lines 1001 p.stays) (recursion_from_All _ (lines (with_rows more p)) h.0)),
  All-from_recursion (λ m. (IsIn (place m) at → ⊥) → x.num (place m) ≡ pos 0) (marks_of (lines p))
      (each-impl (λ m. ((IsIn (place m) joined → ⊥) → x.num (place m) ≡ pos 0) × (IsIn (place m) joined → IsIn (place m) at)) _ (marks_of (lines p)) (λ m k out. k.0 (λ i. out (k.1 i)))
      (each-both _ _ (marks_of (lines p))
      (each_marks (λ c. (IsIn c joined → ⊥) → x.num c ≡ pos 0) (lines p)
      (each-impl (λ l. ((IsIn (place_of l.name Under) joined → ⊥) → x.num (place_of l.name Under) ≡ pos 0) × ((IsIn (place_of l.name Over) joined → ⊥) → x.num (place_of l.name Over) ≡ pos 0)) _ (lines p) (λ l k. k.0) both)
      (each-impl (λ l. ((IsIn (place_of l.name Under) joined → ⊥) → x.num (place_of l.name Under) ≡ pos 0) × ((IsIn (place_of l.name Over) joined → ⊥) → x.num (place_of l.name Over) ≡ pos 0)) _ (lines p) (λ l k. k.1) both))
      (recursion_from_All _ (marks_of (lines p)) are.no_other))),
)
  where
    both : Each (λ l. ((IsIn (place_of l.name Under) joined → ⊥) → x.num (place_of l.name Under) ≡ pos 0) × ((IsIn (place_of l.name Over) joined → ⊥) → x.num (place_of l.name Over) ≡ pos 0)) (lines p)
    both =
        each-fewer (λ l. ((IsIn (place_of l.name Under) joined → ⊥) → x.num (place_of l.name Under) ≡ pos 0) × ((IsIn (place_of l.name Over) joined → ⊥) → x.num (place_of l.name Over) ≡ pos 0)) p.rows more (stay_lines 1001 p.stays)
        (both_marks (λ c. (IsIn c joined → ⊥) → x.num c ≡ pos 0) (lines (with_rows more p)) (recursion_from_All _ (marks_of (lines (with_rows more p))) h.1))

pub joining_rows_cost_nothing : JoiningRowsCostNothing
joining_rows_cost_nothing p rest at joined level cost whole corner with_rest are c =
    let q : Problem = with_first_rows level (level_count level p.rows) (with_rows rest p) in
    let x : Point = with_rest.point in
    let same : lightened level (level_count level p.rows) (p.rows ++ rest) ≡ p.rows ++ lightened level 0 rest = lightened_append level (level_count level p.rows) p.rows rest refl in
    let problem : IsProblem p = All-from_recursion _ (lines p) (each-fewer (λ l. (0 < l.scale) × (0 < l.den)) p.rows rest (stay_lines 1001 p.stays) (recursion_from_All _ (lines (with_rows rest p)) (whole-IsProblem (with_rows rest p) whole))) in
    let there : StandsAt q joined x = same-stands (with_rows rest p) q joined x (first-seen (with_rows rest p) level (level_count level p.rows)) with_rest.stands in (
      x,
      there,
      subst (λ (rows : List Row). cost_at (record { rows = rows; stays = p.stays }) level x.num *ℤ pos cost.den ≡ cost.num *ℤ (pos (scales (record { rows = rows; stays = p.stays })) *ℤ x.num one_column)) (sym same)
          (ap (λ (z : ℤ). z *ℤ pos cost.den) (more-cost p (lightened level 0 rest) level x.num problem (no-weights level rest))
          ∙ with-factor (product_of (λ (r : Row). r.scale) (lightened level 0 rest)) (scales p) (cost_at p level x.num) cost.num (x.num one_column) cost.den (cost_everywhere p at level cost x corner c (fewer-stand p rest at joined x are with_rest.stands))
          ∙ ap (λ (n : ℕ). cost.num *ℤ (pos n *ℤ x.num one_column)) (sym (product-more p.rows (lightened level 0 rest) (stay_lines 1001 p.stays)))),
    )
