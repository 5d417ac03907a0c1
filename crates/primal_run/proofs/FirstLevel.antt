-- The level of the required rows: which marks are negative there.
use Rattle.std.proofs.Common.{◌≡◌, ◌∙◌, ◌⊎◌, inl, inr, ℕ, zero, suc, ◌<◌, List, [], ℤ, pos, ◌*ℤ◌, ◌≤ℤ◌, ◌<ℤ◌, refl, sym, subst, arith, All}
use Rattle.std.proofs.lemmas.List.Elements.{recursion_from_All, All-from_recursion}
use borrow.Author.Differences.{ints}
use Rattle.problem_core.specs.declared.parts.Mark.{Mark}
use Rattle.problem_core.specs.declared.parts.RowName.{RowName}
use Rattle.problem_core.specs.declared.parts.Side.{Side}
use Rattle.problem_core.specs.declared.parts.Side.TheVariants.{Under, Over}
use Rattle.problem_core.specs.declared.parts.Level.TheVariants.{Priority}
use Rattle.problem_core.specs.Layout.{Line, Problem, lines}
use Rattle.problem_core.specs.Certificates.{Multipliers}
use Rattle.problem_core.specs.Corners.{column, HasNegativeColumn, IsIn, NoNegativeColumn, marks_of, place, place_of}
use Rattle.problem_core.specs.Levels.{CostsAbove, IsLevelWriting}
use Rattle.problem_core.specs.Changes.Paths.{NoNegativeRequired}
use Rattle.problem_core.proofs.Forms.{each-impl}
use Rattle.problem_core.proofs.Wholes.{whole-IsProblem}
use Rattle.corner_laws.proofs.RunSteps.ColumnSigns.{negative_by_reduced, pick, mark_line, required_by_reduced}
use Rattle.corner_laws.specs.RunLaws.{AreReduced}
use Rattle.corner_view.specs.Seen.{AreCandidates, IsKeptCorner, IsLevelOf, IsMarkOf, IsNamed, IsOutside, IsReducedAt}
use Rattle.corner_view.proofs.Facts.{mark_named, up_or_low}
use Rattle.primal_run.specs.Entering.{HasNoRequired, IsChoice, IsRequired, MayEnter}
use Rattle.primal_run.specs.declared.entering.Choice.{Choice}
use Rattle.problem_core.specs.declared.parts.Level.{Level}
use Rattle.corner_ends.specs.Columns.{IsNegative, Reduced}
use Rattle.corner_ends.proofs.Fronts.{any_there, each_mark, inside_zero, none_negative, reduced_at_all, reduced_same, some_line}
use Rattle.corner_ends.proofs.Marks.{contained}
use Rattle.corner_ends.proofs.Signs.{columns_alike, mark_column, not_both_signs}
use Rattle.corner_lines.proofs.ColumnsBelow.{low_from}
use Rattle.frac_core.proofs.Numbers.{one-times as times-one, none-below as nothing-before}

-- ---- marks that are negative there

-- an inside mark has no reduced cost
inside-none : (p : Problem) (at : List Mark) (k scale : ℕ) (times : RowName → ℤ) (reduced : ℕ → ℤ) (m : Mark) → IsLevelWriting p at k scale times reduced → IsMarkOf p m → IsIn (place m) at → reduced (place m) ≡ pos 0
inside-none p at k scale times reduced m w mark i =
    let found = mark_line (lines p) (place m) mark in
    subst (λ (c : ℕ). reduced c ≡ pos 0) found.5
    (pick (λ l. IsIn (place_of l.name found.0) at → reduced (place_of l.name found.0) ≡ pos 0) (lines p) found.1 found.2 (recursion_from_All _ (lines p) (w.inside_zero found.0)) found.3 found.4
    (subst (λ (c : ℕ). IsIn c at) (sym found.5) i))

pub is_required : (p : Problem) (at : List Mark) (m : Mark) (z : ℤ) → IsMarkOf p m → IsReducedAt p at (Priority 1000) m z → z <ℤ pos 0 → IsRequired p at m
is_required p at m z mark there low =
    let t = any_there p at 0 m z there in
    record {
      outside = (mark, λ i. let none = inside-none p at 0 t.0 t.1 t.2 m t.3 mark i in let e = t.4 in omega (arith, ints, low, none, e));
      reduced = z;
      is_reduced = there;
      below = low;
    }

pub no_required : (p : Problem) (at : List Mark) (name : RowName) (under over : Mark) → under ≡ record { row = name; side = Under } → over ≡ record { row = name; side = Over }
    → ((z : ℤ) × IsReducedAt p at (Priority 1000) under z × (pos 0 ≤ℤ z)) → ((z : ℤ) × IsReducedAt p at (Priority 1000) over z × (pos 0 ≤ℤ z)) → HasNoRequired p at name
no_required p at name under over e f a b Under = subst (λ (m : Mark). (z : ℤ) × IsReducedAt p at (Priority 1000) m z × (pos 0 ≤ℤ z)) e a
no_required p at name under over e f a b Over = subst (λ (m : Mark). (z : ℤ) × IsReducedAt p at (Priority 1000) m z × (pos 0 ≤ℤ z)) f b

-- the mark's cost at the first level
first-cost : (p : Problem) (at : List Mark) (r : Reduced p at) (m : Mark) (z : ℤ) → IsKeptCorner p at → IsMarkOf p m → IsReducedAt p at (Priority 1000) m z → (r.costs 0 (place m) ≡ z) ⊎ (r.costs 0 (place m) ≡ pos 0)
first-cost p at r m z kept mark there =
    elim (some_line (lines p) 0) [
      | inl used ↦ let t = any_there p at 0 m z there in inl (reduced_same p at r 0 m t.0 t.1 t.2 kept.whole kept.rays used mark t.3 ∙ sym t.4)
      | inr none ↦ inr (r.unused 0 none (place m))
    ]

pub none_required : (p : Problem) (at : List Mark) (names : List RowName) → IsKeptCorner p at → AreCandidates p at names → All (HasNoRequired p at) names → NoNegativeRequired p at
none_required p at names kept listed none =
    let r = reduced_at_all p at kept kept.rays in
    required_by_reduced p at r.costs r.are
    (All-from_recursion (λ m. pos 0 ≤ℤ r.costs 0 (place m)) (marks_of (lines p))
    (each-impl (λ m. IsMarkOf p m) _ (marks_of (lines p))
    (λ m mark. elim (up_or_low (r.costs 0 (place m))) [
      | inl up ↦ up
      | inr low ↦
          let outside : IsOutside p at m = (mark, λ i. let zero = inside_zero p at r 0 m mark i in omega (arith, ints, zero, low)) in
          let column : HasNegativeColumn p at m = negative_by_reduced p at r.costs m kept.whole r.are mark (0, (λ k less. absurd (nothing-before k less)), low) in
          let own = contained (HasNoRequired p at) names m.row none (listed m outside column) m.side in
          elim (first-cost p at r m own.0 kept mark own.1) [
            | inl e ↦ let up = own.2 in omega (arith, ints, e, up)
            | inr e ↦ omega (arith, ints, e)
          ]
    ])
    (each_mark (lines p))))

-- ---- the corner is no end

-- the reduced costs of all levels, with these at the first one
abbrev first_costs : (ℕ → ℤ) → (ℕ → ℕ → ℤ) → ℕ → ℕ → ℤ
first_costs q c zero = q
first_costs q c (suc k) = c (suc k)

first_are : (p : Problem) (at : List Mark) (r : Reduced p at) (scale : ℕ) (times : RowName → ℤ) (q : ℕ → ℤ) → IsLevelWriting p at 0 scale times q → AreReduced p at (first_costs q r.costs)
first_are p at r scale times q w zero = inl (scale, times, w)
first_are p at r scale times q w (suc k) = r.are (suc k)

first_is : (q : ℕ → ℤ) (c : ℕ → ℕ → ℤ) (v : ℕ) → first_costs q c 0 v ≡ q v
first_is q c v = refl

abbrev column_0 : Multipliers → Side → Line → ℤ
column_0 q side l = column q side l 0

-- a mark that is negative at the first level, by any multipliers
not_required : (p : Problem) (at : List Mark) (costs : ℕ → ℕ → ℤ) (m : Mark) → IsKeptCorner p at → AreReduced p at costs → IsMarkOf p m → costs 0 (place m) <ℤ pos 0 → NoNegativeRequired p at → ⊥
not_required p at costs m kept are mark down (q, is, up) =
    let own = mark_column p at costs are in
    let found = mark_line (lines p) (place m) mark in
    let alike = pick (λ l. pos (own.0.scale 0) *ℤ column_0 q found.0 l ≡ pos (q.scale 0) *ℤ column_0 own.0 found.0 l) (lines p) found.1 found.2 (columns_alike p at own.0 q found.0 0 kept.whole kept.rays own.1 is) found.3 found.4 in
    let scaled = pick (λ l. (i : ℕ) → pos l.scale *ℤ costs i (place_of l.name found.0) ≡ column own.0 found.0 l i) (lines p) found.1 found.2 (own.2 found.0) found.3 found.4 0 in
    let above : 0 < found.2.scale = (pick (λ l. (0 < l.scale) × (0 < l.den)) (lines p) found.1 found.2 (recursion_from_All _ (lines p) (whole-IsProblem p kept.whole)) found.3 found.4).0 in
    let low : column_0 own.0 found.0 found.2 <ℤ pos 0 =
    low_from 1 found.2.scale (costs 0 (place_of found.2.name found.0)) (column_0 own.0 found.0 found.2) above (times-one (column_0 own.0 found.0 found.2) ∙ sym scaled) (subst (λ (v : ℕ). costs 0 v <ℤ pos 0) (sym found.5) down) in
    let other : column_0 q found.0 found.2 <ℤ pos 0 = low_from (own.0.scale 0) (q.scale 0) (column_0 own.0 found.0 found.2) (column_0 q found.0 found.2) (is.scales 0) alike low in
    let not = pick (λ l. pos 0 ≤ℤ column_0 q found.0 l) (lines p) found.1 found.2 (recursion_from_All _ (lines p) (up found.0)) found.3 found.4 in
    omega (arith, ints, other, not)

-- where a mark is negative at the first level, its column is negative, and the corner is no end
pub required_enters : (p : Problem) (at : List Mark) (m : Mark) → IsKeptCorner p at → IsRequired p at m → MayEnter p at m
required_enters p at m kept h =
    let r = reduced_at_all p at kept kept.rays in
    let t = any_there p at 0 m h.reduced h.is_reduced in
    let costs = first_costs t.2 r.costs in
    let are = first_are p at r t.0 t.1 t.2 t.3 in
    let down : costs 0 (place m) <ℤ pos 0 = (let e = t.4 in let low = h.below in let f = first_is t.2 r.costs (place m) in omega (arith, ints, e, f, low)) in
    let column : HasNegativeColumn p at m = negative_by_reduced p at costs m kept.whole are h.outside.0 (0, (λ k less. absurd (nothing-before k less)), down) in
    record {
      no_end = λ end. elim end [
        | inl columns ↦ not_both_signs p at m kept.whole kept.rays columns column
        | inr costly ↦ not_required p at costs m kept are h.outside.0 down costly.1
      ];
      outside = h.outside;
      column = column;
    }

-- where the required rows cost nothing
pub negative_enters : (p : Problem) (at : List Mark) (m : Mark) → IsKeptCorner p at → (CostsAbove p at 0 → ⊥) → IsNegative p at m → MayEnter p at m
negative_enters p at m kept free h = record {
  no_end = λ end. elim end [
    | inl columns ↦ not_both_signs p at m kept.whole kept.rays columns h.column
    | inr costly ↦ free costly.0
  ];
  outside = h.outside;
  column = h.column;
}

-- where no line is listed, no column is negative
pub none_listed : (p : Problem) (at : List Mark) → IsKeptCorner p at → AreCandidates p at [] → NoNegativeColumn p at
none_listed p at kept none = none_negative p at kept (λ m out column. let i = none m out column in let within = i.1 in absurd (omega (arith, within)))

-- a choice whose front is at the first level
pub choice_required : (p : Problem) (at : List Mark) (f : Choice) → f.front.level ≡ Priority 1000 → IsChoice p at f → IsRequired p at f.mark
choice_required p at f e h = record {
  outside = h.negative.outside;
  reduced = f.front.reduced;
  is_reduced = subst (λ (l : Level). IsReducedAt p at l f.mark f.front.reduced) e h.front.reduced;
  below = h.below;
}

-- ---- what a choice names

-- a choice's level has a number
pub choice_level : (p : Problem) (at : List Mark) (f : Choice) → IsChoice p at f → IsLevelOf p f.front.level
choice_level p at f h = let (k, l, within, is, there) = h.front.used in (l.level, there)

-- its mark is of a line
pub choice_named : (p : Problem) (at : List Mark) (f : Choice) → IsChoice p at f → IsNamed p f.mark.row
choice_named p at f h = mark_named p f.mark h.negative.outside.0

pub required_named : (p : Problem) (at : List Mark) (m : Mark) → IsRequired p at m → IsNamed p m.row
required_named p at m h = mark_named p m h.outside.0
