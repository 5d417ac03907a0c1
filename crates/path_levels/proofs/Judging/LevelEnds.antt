-- What the required rows cost at a corner.
use Rattle.std.proofs.Common.{◌≡◌, ◌≢◌, ◌∙◌, ◌⊎◌, ◌↔◌, ℕ, zero, suc, ◌/◌, ◌<◌, Bool, true, false, IsTrue, List, [], ◌∷◌, length, get_or, slice_index_or, ℤ, pos, ◌+ℤ◌, ◌*ℤ◌, ◌≤ℤ◌, ◌<ℤ◌, refl, sym, ap, subst, arith, All, inl, inr, Option, None, Some}
use Rattle.std.specs.List.{slice_get}
use Rattle.std.proofs.lemmas.List.Elements.{recursion_from_All}
use borrow.Author.Differences.{ints}
use Rattle.frac_core.specs.Fraction.{Fraction}
use Rattle.frac_core.proofs.Integers.{mul-zero_ℤ, zero-mul_ℤ}
use Rattle.problem_core.specs.declared.parts.Mark.{Mark}
use Rattle.problem_core.specs.declared.parts.RowName.{RowName}
use Rattle.problem_core.specs.declared.parts.Side.{Side}
use Rattle.problem_core.specs.declared.parts.Side.TheVariants.{Under, Over}
use Rattle.problem_core.specs.Layout.{Line, Problem, lines}
use Rattle.problem_core.specs.Certificates.{over_weight, under_weight, weight_at}
use Rattle.problem_core.specs.Corners.{IsIn, one_column, place_of}
use Rattle.problem_core.specs.Levels.{CostsAbove, IsCostAt, cost_at, line_cost, scales}
use Rattle.problem_core.specs.Changes.Paths.{NoNegativeRequired}
use Rattle.problem_core.proofs.Forms.{sum-zero}
use Rattle.problem_core.proofs.Wholes.{whole-IsProblem}
use Rattle.corner_laws.proofs.LevelCosts.LevelExists.{cost_fixed}
use Rattle.corner_laws.proofs.ZeroColumns.{scales-above}
use Rattle.corner_lines.specs.LineEquations.{IsOutsideLine}
use Rattle.corner_lines.specs.Fronts.{costs_of}
use Rattle.path_lines.specs.declared.table.Inside.{Inside}
use Rattle.path_lines.specs.Tables.{IsLineAt, IsThere, line_count, name_at}
use Rattle.path_lines.proofs.Iffs.{always, never, right_then, wrong_then}
use Rattle.path_levels.specs.declared.outline.Outline.{Outline}
use Rattle.path_levels.specs.declared.outline.LineFacts.{LineFacts}
use Rattle.path_levels.specs.declared.sums.LevelSum.{LevelSum}
use Rattle.path_levels.specs.Costs.{cost_in}
use Rattle.path_levels.specs.Outlines.{IsOutline, number_at}
use Rattle.path_levels.specs.Levels.{AreLevels, IsLevelSum}
use Rattle.path_levels.specs.Required.{HasRequired, IsBelow}
use Rattle.path_levels.specs.Rows.{AreKept}
use Rattle.path_levels.proofs.Judging.FirstSigns.{IsRising}
use Rattle.path_levels.proofs.Judging.LineCosts.{by_at, cost_same, levels_rise, lines_stand, own_at, placed_by, sums_are, unit_at}
use Rattle.path_levels.proofs.Judging.OwnColumns.{line_at, required_up}
use Rattle.path_levels.proofs.Judging.PlacedRows.{Placed, are_multiples, placed_costs, rows_of}
use Rattle.corner_lines.proofs.Costs.CostSigns.{up-cost, low-cost, moved-up}
use Rattle.frac_core.proofs.Numbers.{up-not-low as not-below, up-or-low as up-or-none, low-or-up as sign-of}
use Rattle.problem_core.proofs.Lines.{under-none, over-none, weight-none as no_weight}

-- ---- the sign of a cost

-- where the level's cost is this fraction
pub cost_decided : (p : Problem) (at : List Mark) (f : Fraction) → IsThere p at → 0 < f.den → IsCostAt p at 0 f → (pos 0 <ℤ f.num) ↔ CostsAbove p at 0
cost_decided p at f there den (x, stands, e) = (
  λ up. (x, stands, up-cost (cost_at p 0 x.num) f.num (x.num one_column) f.den (scales p) (scales-above p (whole-IsProblem p there.whole)) x.positive e up),
  λ costs. elim (up-or-none f.num) [
    | inl up ↦ up
    | inr low ↦
        absurd (low-cost (cost_at p 0 x.num) f.num (x.num one_column) f.den (scales p) den x.positive e low
        (moved-up (cost_at p 0 x.num) (cost_at p 0 costs.0.num) (x.num one_column) (costs.0.num one_column) x.positive costs.0.positive (cost_fixed p at 0 there.corner x costs.0 stands costs.1) costs.2))
  ],
)

-- ---- no required rows

none-sum : (w : ℕ) (x y : ℤ) (u o : ℕ) → u ≡ 0 → o ≡ 0 → pos w *ℤ (pos u *ℤ x +ℤ pos o *ℤ y) ≡ pos 0
none-sum w x y u o e g =
    let a : pos u *ℤ x ≡ pos 0 = ap (λ (n : ℕ). pos n *ℤ x) e ∙ zero-mul_ℤ x in
    let b : pos o *ℤ y ≡ pos 0 = ap (λ (n : ℕ). pos n *ℤ y) g ∙ zero-mul_ℤ y in
    let c : pos u *ℤ x +ℤ pos o *ℤ y ≡ pos 0 = omega (arith, ints, a, b) in
    ap (λ (z : ℤ). pos w *ℤ z) c ∙ mul-zero_ℤ (pos w)

no-cost : (p : Problem) (x : ℕ → ℤ) → All (λ l. l.level ≢ 0) (lines p) → cost_at p 0 x ≡ pos 0
no-cost p x none =
    sum-zero (λ (l : Line). pos (scales p / l.scale) *ℤ line_cost 0 x l) (lines p)
    (recursion_from_All (λ l. pos (scales p / l.scale) *ℤ line_cost 0 x l ≡ pos 0) (lines p)
    (λ k d within.
    let l : Line = get_or (lines p) k d in
    let w : weight_at l 0 ≡ 0 = no_weight l 0 (none k d within) in
    none-sum (scales p / l.scale) (x (place_of l.name Under)) (x (place_of l.name Over)) (under_weight l.rel (weight_at l 0)) (over_weight l.rel (weight_at l 0)) (ap (under_weight l.rel) w ∙ under-none l.rel) (ap (over_weight l.rel) w ∙ over-none l.rel)))

first-number : (count : ℕ) (number : ℕ → ℕ) (k : ℕ) → IsRising count number → k < count → number k ≡ 0 → (0 < count) × (number 0 ≡ 0)
first-number count number zero rising within e = (within, e)
first-number count number (suc k) rising within e = absurd (let h = rising 0 (suc k) (omega arith) within in omega (arith, h, e))

pub no_required : (p : Problem) (at : List Mark) (outline : Outline) → IsOutline p outline → (HasRequired outline → ⊥) → CostsAbove p at 0 → ⊥
no_required p at outline is none (x, stands, up) =
    let e : cost_at p 0 x.num ≡ pos 0 = no-cost p x.num
    (λ k d within same.
    let there = lines_stand p outline k d is within in
    none (first-number (length outline.levels.items) (number_at outline.levels.items) there.0 (levels_rise p outline.levels.items is.levels_are) there.1 (there.2 ∙ same))) in
    absurd (omega (arith, ints, e, up))

-- ---- the reduced costs at their level

-- the line is outside, or a mark of it is in
outside-or-in : (p : Problem) (at : List Mark) (name : RowName) (kept : Option Inside) → IsLineAt p at name kept → (IsOutsideLine at name × (kept ≡ None)) ⊎ ((inside : Side) × IsIn (place_of name inside) at)
outside-or-in p at name None line = inl (line, refl)
outside-or-in p at name (Some inside) line = inr (inside.side, line.0)

cost-first : (p : Problem) (at : List Mark) (outline : Outline) (kept : List (Option Inside)) (levels : List LevelSum) (d : LevelSum) (f : LineFacts) (side : Side) (k : ℕ) → AreKept p at outline kept → AreLevels p at outline levels → HasRequired outline → k < line_count p
    → costs_of (rows_of p (placed_by outline (unit_at levels d) (own_at levels d) (by_at levels d))) side (line_at p k) 0 ≡ cost_in side (get_or outline.lines.items k f) k 0 (get_or levels 0 d)
cost-first p at outline kept levels d f side k are sums required within =
    let q : Placed = placed_by outline (unit_at levels d) (own_at levels d) (by_at levels d) in
    let there = (placed_costs p at q side k (sums_are p at outline kept levels d are sums) within).same 0 required.0 in
    ap (costs_of (rows_of p q) side (line_at p k)) (sym required.1) ∙ there
    ∙ cost_same p outline (unit_at levels d) (own_at levels d) (by_at levels d) side f k 0 are.there.whole are.outline_is within required.0 (sums.each 0 d required.0).sized.count_is

pub required_decided : (p : Problem) (at : List Mark) (outline : Outline) (kept : List (Option Inside)) (levels : List LevelSum) (d : LevelSum) (f : LineFacts) → AreKept p at outline kept → AreLevels p at outline levels → HasRequired outline
    → ((k : ℕ) → k < line_count p → IsBelow kept (get_or outline.lines.items k f) (get_or levels 0 d) k → ⊥) ↔ NoNegativeRequired p at
required_decided p at outline kept levels d f are sums required =
    let q : Placed = placed_by outline (unit_at levels d) (own_at levels d) (by_at levels d) in
    let each : (k : ℕ) → k < line_count p → (IsOutsideLine at (name_at p k) × (slice_index_or kept k None ≡ None)) ⊎ ((inside : Side) × IsIn (place_of (name_at p k) inside) at) =
    λ k within. outside-or-in p at (name_at p k) (slice_index_or kept k None) (are.lines_are.each k None within) in
    let iff = required_up p at (rows_of p q) are.there.whole are.there.rays (are_multiples p at q (sums_are p at outline kept levels d are sums))
    (λ k within. elim (each k within) [
      | inl outside ↦ inl outside.0
      | inr inside ↦ inr inside
    ]) in (
      λ none.
          iff.0 (λ k side within outside.
          elim (sign-of (costs_of (rows_of p q) side (line_at p k) 0)) [
            | inr up ↦ up
            | inl low ↦
                absurd (elim (each k within) [
                  | inl here ↦ none k within (here.1, side, subst (λ (z : ℤ). z <ℤ pos 0) (cost-first p at outline kept levels d f side k are sums required within) low)
                  | inr (inside, i) ↦ out-in at (name_at p k) inside outside i
                ])
          ]),
      λ up k within below.
          let line : IsLineAt p at (name_at p k) None = subst (IsLineAt p at (name_at p k)) below.0 (are.lines_are.each k None within) in
          not-below (cost_in below.1 (get_or outline.lines.items k f) k 0 (get_or levels 0 d))
          (subst (λ (z : ℤ). pos 0 ≤ℤ z) (cost-first p at outline kept levels d f below.1 k are sums required within) (iff.1 up k below.1 within line)) below.2,
    )
  where
    out-in : (at : List Mark) (name : RowName) (side : Side) → IsOutsideLine at name → IsIn (place_of name side) at → ⊥
    out-in at name Under out i = out.under i
    out-in at name Over out i = out.over i

-- ---- the first level's row

pub costly_decided : (p : Problem) (at : List Mark) (outline : Outline) (kept : List (Option Inside)) (levels : List LevelSum) (d sum : LevelSum) → AreKept p at outline kept → AreLevels p at outline levels → get_or levels 0 d ≡ sum → HasRequired outline
    → (pos 0 <ℤ sum.cost.num) ↔ CostsAbove p at 0
costly_decided p at outline kept levels d sum are sums is required =
    let there = subst (IsLevelSum p at (number_at outline.levels.items 0)) is (sums.each 0 d required.0) in
    cost_decided p at sum.cost are.there there.there.lowest.above (subst (λ (n : ℕ). IsCostAt p at n sum.cost) required.1 there.there.cost_is)

pub never_without : (p : Problem) (at : List Mark) (outline : Outline) (kept : List (Option Inside)) (levels : List LevelSum) → AreKept p at outline kept → AreLevels p at outline levels → length levels ≡ 0 → CostsAbove p at 0 → ⊥
never_without p at outline kept levels are sums none = no_required p at outline are.outline_is (λ required. absurd (let h = required.0 in omega (arith, h, none, sums.count)))

pub first_is : (xs : List LevelSum) (s d : LevelSum) → Some s ≡ slice_get xs 0 → get_or xs 0 d ≡ s
first_is [] s d e = cc
first_is (x ∷ xs) s d e = let h : Some s ≡ Some x = e in (cc)

pub none_first : (xs : List LevelSum) → None ≡ slice_get xs 0 → length xs ≡ 0
none_first [] e = refl
none_first (x ∷ xs) e = let h : None ≡ Some x = e in (cc)

-- ---- one test and another

pub or_then : {P Q : Type 0} (a : Bool) → a ≡ true → IsTrue a ↔ P → IsTrue a ↔ (P ⊎ Q)
or_then a is first = always a is (inl (right_then a is first))

pub or_else : {P Q : Type 0} (a b : Bool) → a ≡ false → IsTrue a ↔ P → IsTrue b ↔ Q → IsTrue b ↔ (P ⊎ Q)
or_else a b is first second = (
  λ holds. inr (second.0 holds),
  λ one. elim one [
    | inl p ↦ absurd (wrong_then a is first p)
    | inr q ↦ second.1 q
  ],
)

pub and_then : {P Q : Type 0} (a b : Bool) → a ≡ true → IsTrue a ↔ P → IsTrue b ↔ Q → IsTrue b ↔ (P × Q)
and_then a b is first second = (λ holds. (right_then a is first, second.0 holds), λ both. second.1 both.1)

pub and_else : {P Q : Type 0} (a : Bool) → a ≡ false → IsTrue a ↔ P → IsTrue a ↔ (P × Q)
and_else a is first = never a is (λ both. wrong_then a is first both.0)
