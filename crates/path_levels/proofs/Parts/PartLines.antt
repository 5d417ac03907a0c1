-- The lines of a problem whose level has its first lines alone, and their facts.
use Rattle.std.proofs.Common.{◌≡◌, ℕ, zero, suc, ◌+◌, ◌<◌, ◌≤◌, false, nat_eq, List, [], ◌∷◌, length, get_or, refl, sym, subst, arith, ne_eqb}
use Rattle.std.specs.List.{AllByRecursion as Each}
use Rattle.problem_core.specs.Layout.{Line, Problem, lines, stay_lines}
use Rattle.problem_core.specs.declared.parts.Stay.{Stay}
use Rattle.corner_laws.proofs.LinePlaces.{AllApart}
use Rattle.corner_lines.specs.Levels.LevelJoins.{AreLinesBefore}
use Rattle.path_levels.specs.declared.outline.LevelFacts.{LevelFacts}
use Rattle.path_levels.specs.declared.outline.LineFacts.{LineFacts}
use Rattle.path_levels.specs.Outlines.{AreFactsOf, IsFactsOf}
use Rattle.path_levels.specs.Parts.{part}
use Rattle.path_levels.specs.Rows.{level_place}
use Rattle.path_levels.proofs.Joining.LineJoins.{IsCostOf}
use Rattle.path_levels.proofs.Parts.Weighed.{first_are_weighed, weighed, weighed_apart, weighed_before}

stays-differ : (level n : ℕ) (stays : List Stay) → level < n → Each (λ l. nat_eq l.level level ≡ false) (stay_lines n stays)
stays-differ level n [] h = tt
stays-differ level n (s ∷ stays) h = (ne_eqb n level (λ e. above e), stays-differ level (n + 1) stays (omega (arith, h)))
  where
    above : n ≡ level → ⊥
    above e = absurd (omega (arith, e, h))

pub part_lines : (p : Problem) (level upto : ℕ) → level ≤ 1000 → lines (part p level upto) ≡ weighed level upto (lines p)
part_lines p level upto h = first_are_weighed level upto p.rows (stay_lines 1001 p.stays) (stays-differ level 1001 p.stays (omega (arith, h))) (level_place p level upto) refl

pub part_apart : (p : Problem) (level upto : ℕ) → level ≤ 1000 → AllApart (lines p) → AllApart (lines (part p level upto))
part_apart p level upto h apart = subst AllApart (sym (part_lines p level upto h)) (weighed_apart level upto (lines p) apart)

-- one line of the level more
pub part_before : (p : Problem) (level upto : ℕ) (d : Line) → level ≤ 1000 → AllApart (lines p) → upto < length (lines p) → (get_or (lines p) upto d).level ≡ level
    → AreLinesBefore (get_or (lines p) upto d).name (lines (part p level upto)) (lines (part p level (suc upto)))
part_before p level upto d h apart within here =
    subst (λ (ls : List Line). AreLinesBefore (get_or (lines p) upto d).name ls (lines (part p level (suc upto)))) (sym (part_lines p level upto h))
    (subst (λ (ls : List Line). AreLinesBefore (get_or (lines p) upto d).name (weighed level upto (lines p)) ls) (sym (part_lines p level (suc upto) h))
    (weighed_before level upto (lines p) d apart within here))

-- the facts at a place are those of the line there
pub facts_at : (levels : List LevelFacts) (ls : List Line) (facts : List LineFacts) (k : ℕ) (l : Line) (f : LineFacts) → AreFactsOf levels ls facts → k < length ls → IsFactsOf levels (get_or ls k l) (get_or facts k f)
facts_at levels [] facts k l f are within = absurd (omega (arith, within))
facts_at levels (m ∷ ls) [] k l f are within = absurd are
facts_at levels (m ∷ ls) (g ∷ facts) zero l f are within = are.0
facts_at levels (m ∷ ls) (g ∷ facts) (suc k) l f are within = facts_at levels ls facts k l f are.1 (omega (arith, within))

pub cost_of_facts : (levels : List LevelFacts) (l : Line) (f : LineFacts) → IsFactsOf levels l f → IsCostOf l f
cost_of_facts levels l f is = record { under = is.under; over = is.over; scale = is.scale }
