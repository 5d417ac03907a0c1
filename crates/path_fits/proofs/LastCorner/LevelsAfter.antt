-- How levels stand after an exchange.
use Rattle.std.proofs.Common.{◌≡◌, ◌≢◌, ◌∙◌, ℕ, ◌+◌, ◌/◌, ◌<◌, List, length, map, get_or, ℤ, pos, ◌+ℤ◌, ◌*ℤ◌, refl, sym, ap, ap₂, subst, arith, All, Option, None, Some}
use Rattle.std.specs.Prelude.{unsigned_abs, IfSome, IfNone}
use Rattle.std.proofs.lemmas.List.{get_or_default, length-map}
use Rattle.std.proofs.lemmas.List.Elements.{recursion_from_All}
use Rattle.std.proofs.lemmas.Nat.Gcd.{IsGcd-from_zero, IsGcd-swap}
use Rattle.std.proofs.Math.ListN.{get_or-map}
use Rattle.frac_core.specs.Fraction.{Fits, Fraction}
use Rattle.frac_core.proofs.Integers.{mul-zero_ℤ, zero-mul_ℤ}
use Rattle.problem_core.proofs.Forms.{each-impl, sum-zero}
use Rattle.problem_core.specs.declared.parts.Mark.{Mark}
use Rattle.problem_core.specs.declared.parts.Side.TheVariants.{Under, Over}
use Rattle.problem_core.specs.declared.parts.Level.{Level}
use Rattle.problem_core.specs.declared.parts.Level.TheVariants.{Priority}
use Rattle.problem_core.specs.declared.stops.What.TheVariants.{Level as LevelOf}
use Rattle.problem_core.specs.Kept.{IsWhole}
use Rattle.problem_core.specs.Layout.{Line, Problem, lines}
use Rattle.problem_core.specs.Certificates.{over_weight, under_weight, weight_at}
use Rattle.problem_core.specs.Corners.{one_column, place_of}
use Rattle.problem_core.specs.Levels.{HasNoLevelWriting, IsLevelAt, cost_at, line_cost, scales}
use Rattle.problem_core.specs.Unfit.{IsUnfitWhat}
use Rattle.corner_lines.proofs.Costs.LevelFits.{fitting_row_has_writing}
use Rattle.corner_lines.proofs.LevelRows.LevelJoins.{empty_level_has_row}
use Rattle.corner_lines.proofs.LevelRows.LevelSound.{whole_is_sound}
use Rattle.path_lines.specs.Tables.{IsThere, numbers_of}
use Rattle.path_levels.specs.declared.outline.Outline.{Outline}
use Rattle.path_levels.specs.declared.outline.LevelFacts.{LevelFacts}
use Rattle.path_levels.specs.declared.sums.LevelSum.{LevelSum}
use Rattle.path_fits.specs.Attrs.{IsEmptyLevel}
use Rattle.path_levels.specs.Outlines.{IsFactsOf, IsOutline, number_at}
use Rattle.path_levels.specs.Levels.{IsLevelSum}
use Rattle.path_levels.proofs.Exchanges.FitFacts.{any_facts}
use Rattle.problem_core.proofs.Lines.{weight-none as weight_none, under-none, over-none}
use Rattle.path_levels.proofs.Parts.PartLines.{facts_at}
use Rattle.corner_lines.proofs.LevelRows.StayRows.{level_one as level_once}

pub level_fits_there : (p : Problem) (at : List Mark) (level : Level) (k : ℕ) (sum : LevelSum) → IsWhole p → IsLevelAt p level k → IsLevelSum p at k sum → Fits sum.cost → IsUnfitWhat p at (LevelOf level) → ⊥
level_fits_there p at level k sum whole level_is is fits unfit =
    fitting_row_has_writing p at k (unsigned_abs sum.unit) (unsigned_abs sum.own) (numbers_of (lines p) sum.by.items) sum.cost is.there is.fitting fits
    (subst (λ (n : ℕ). HasNoLevelWriting p at n) (level_once p level unfit.0 k whole unfit.1 level_is) unfit.2)

-- ---- levels by number

number_is : (levels : List LevelFacts) (k : ℕ) (d : LevelFacts) → k < length levels → (get_or levels k d).number ≡ number_at levels k
number_is levels k d within =
    sym (get_or-map (λ (f : LevelFacts). f.number) levels k d) ∙ get_or_default (map (λ (f : LevelFacts). f.number) levels) k d.number 0 (omega (arith, within, length-map levels (λ (f : LevelFacts). f.number)))

-- where no level has the number, no line does
pub rank_none : (p : Problem) (outline : Outline) (rank number : ℕ) → number + rank ≡ 1000 → All (λ f. f.number ≢ number) outline.levels.items → IsOutline p outline → IsEmptyLevel p (Priority rank)
rank_none p outline rank number sum none is k level_is i d within e =
    let facts : IsFactsOf outline.levels.items (get_or (lines p) i d) (get_or outline.lines.items i any_facts) = facts_at outline.levels.items (lines p) outline.lines.items i d any_facts is.lines_are within in
    let f : LevelFacts = record { level = Priority 0; number = 0 } in
    none (get_or outline.lines.items i any_facts).level f facts.level
    (number_is outline.levels.items (get_or outline.lines.items i any_facts).level f facts.level ∙ facts.number ∙ e ∙ (let same : k ≡ number = omega (arith, sum, level_is) in same))

pub rank_found : (levels : List LevelFacts) (rank number place : ℕ) (d : LevelFacts) → number + rank ≡ 1000 → place < length levels → (get_or levels place d).number ≡ number → number_at levels place + rank ≡ 1000
rank_found levels rank number place d sum within e =
    let same : number_at levels place ≡ number = sym (number_is levels place d within) ∙ e in
    omega (arith, sum, same)

-- ---- a level without lines

abbrev nothing : Fraction
nothing = record { num = pos 0; den = 1 }

cost_none : (p : Problem) (k : ℕ) (x : ℕ → ℤ) → All (λ l. l.level ≢ k) (lines p) → cost_at p k x ≡ pos 0
cost_none p k x none =
    sum-zero (λ l. pos (scales p / l.scale) *ℤ line_cost k x l) (lines p)
    (each-impl (λ l. l.level ≢ k) (λ l. pos (scales p / l.scale) *ℤ line_cost k x l ≡ pos 0) (lines p)
    (λ l ne. ap (λ (z : ℤ). pos (scales p / l.scale) *ℤ z) (line_none l ne) ∙ mul-zero_ℤ (pos (scales p / l.scale)))
    (recursion_from_All (λ l. l.level ≢ k) (lines p) none))
  where
    line_none : (l : Line) → l.level ≢ k → line_cost k x l ≡ pos 0
    line_none l ne =
        let w : weight_at l k ≡ 0 = weight_none l k ne in
        let u : under_weight l.rel (weight_at l k) ≡ 0 = ap (under_weight l.rel) w ∙ under-none l.rel in
        let o : over_weight l.rel (weight_at l k) ≡ 0 = ap (over_weight l.rel) w ∙ over-none l.rel in
        ap₂ (λ (a b : ℕ). pos a *ℤ x (place_of l.name Under) +ℤ pos b *ℤ x (place_of l.name Over)) u o
        ∙ ap₂ ◌+ℤ◌ (zero-mul_ℤ (x (place_of l.name Under))) (zero-mul_ℤ (x (place_of l.name Over)))

pub empty_level_fits : (p : Problem) (at : List Mark) (level : Level) → IsThere p at → IsEmptyLevel p level → IsUnfitWhat p at (LevelOf level) → ⊥
empty_level_fits p at level there empty (k, level_is, none) =
    let all : All (λ l. l.level ≢ k) (lines p) = empty k level_is in
    let row = empty_level_has_row p at k (λ i d within. weight_none (get_or (lines p) i d) k (all i d within)) in
    fitting_row_has_writing p at k 1 1 (λ name. pos 0) nothing
    (record {
      sound = whole_is_sound p there.whole;
      corner = there.corner;
      rays = there.rays;
      unit_is = row.0;
      row = row.1;
      cost_is = (there.corner.point, there.corner.stands, ap (λ (z : ℤ). z *ℤ pos 1) (cost_none p k there.corner.point.num all) ∙ sym (zero-mul_ℤ (pos (scales p) *ℤ there.corner.point.num one_column)));
      lowest = record { above = omega arith; coprime = IsGcd-swap 1 0 1 (IsGcd-from_zero 1 0 refl) };
    })
    (record {
      scale_fits = omega arith;
      outside_fit = λ i d within out. omega arith;
      own_fit = λ i d within e out side. absurd (all i d within e);
      inside_fit = λ i d within e side inside_side inside. absurd (all i d within e);
    })
    (record { num_fits = omega arith; den_fits = omega arith })
    none

-- ---- what is found or not

pub some_both : {T : Type 0} {P R Q : T → Type 0} (o : Option T) → ((x : T) → P x → R x → Q x) → IfSome o P → IfSome o R → IfSome o Q
some_both None f h k = tt
some_both (Some x) f h k = f x h k

pub none_then : {T : Type 0} {P Q : Type 0} (o : Option T) → (P → Q) → IfNone o P → IfNone o Q
none_then None f h = f h
none_then (Some x) f h = tt
