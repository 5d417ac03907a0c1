-- The laws of cores.
use Rattle.std.proofs.Common.{◌≡◌, ◌≢◌, ℕ, List, refl, subst, Contains}
use Rattle.std.specs.List.{AllByRecursion as Each}
use Rattle.std.proofs.lemmas.List.Elements.{recursion_from_All, All-from_recursion}
use Rattle.frac_core.specs.Fraction.{Fraction}
use Rattle.frac_core.proofs.Lists.{each-onto_map}
use Rattle.problem_core.specs.Layout.{IsInConflict, Problem}
use Rattle.problem_core.specs.Kept.{IsWhole}
use Rattle.problem_core.proofs.Forms.{each-impl}
use Rattle.conflict_core.specs.Cores.{trial, without}
use Rattle.conflict_core.specs.Shown.{DoWithout, IsFound}
use Rattle.conflict_core.specs.Laws.{CoreIsConflict, FoundDecides, ProperPartsAreSolvable, ShownIsCore}
use Rattle.conflict_core.specs.declared.found.Found.{Found}
use Rattle.conflict_core.specs.declared.found.Found.TheVariants.{Solvable, Core}
use Rattle.conflict_core.proofs.Among.{IsPart, among_contains, contains_among, each-among, without-among}
use Rattle.conflict_core.proofs.TrialRows.{part_satisfied, trial_satisfied}
use Rattle.conflict_core.proofs.TrialWhole.{shown_conflict}

pub core_is_conflict : CoreIsConflict
core_is_conflict p ids core x sat = core.conflict x (trial_satisfied p ids x sat)

-- without this one of them the others have a solution
abbrev IsNeeded : Problem → List ℕ → ℕ → Type 0
IsNeeded p ids id = IsInConflict (trial p (without id ids)) → ⊥

pub shown_is_core : ShownIsCore
shown_is_core p ids by values whole shown = record {
  rows = shown.rows;
  conflict = shown_conflict p ids by whole shown.refuted;
  needed = All-from_recursion (IsNeeded p ids) ids
      (subst (λ (ns : List ℕ). Each (IsNeeded p ids) ns) shown.each
      (each-onto_map (IsNeeded p ids) (λ (w : ℕ × List (ℕ × Fraction)). w.0) values
      (each-impl (DoWithout p ids) (λ w. IsNeeded p ids w.0) values (λ w solution none. let (x, sat, gives) = solution.satisfies in none x sat)
      (recursion_from_All (DoWithout p ids) values shown.others))));
}

pub proper_parts_are_solvable : ProperPartsAreSolvable
proper_parts_are_solvable p ids part id core all has lacks none =
    let fewer : IsPart part (without id ids) =
    λ n h. without-among id n ids (contains_among ids n (each-among (Contains ids) part n (recursion_from_All (Contains ids) part all) h))
    (λ same. lacks (subst (Contains part) same (among_contains part n h))) in
    each-among (IsNeeded p ids) ids id (recursion_from_All (IsNeeded p ids) ids core.needed) (contains_among ids id has)
    (λ x sat. none x (part_satisfied p part (without id ids) x fewer sat))

found-solvable : (p : Problem) (f : Found) → IsFound p f → f ≡ Solvable → IsInConflict p → ⊥
found-solvable p Solvable (x, sat) e none = none x sat
found-solvable p (Core rows by values) h e none = cc

found-core : (p : Problem) (f : Found) → IsWhole p → IsFound p f → f ≢ Solvable → IsInConflict p
found-core p Solvable whole h other = absurd (other refl)
found-core p (Core rows by values) whole h other =
    core_is_conflict p rows.items (shown_is_core p rows.items by values.items whole h)

pub found_decides : FoundDecides
found_decides = record { solvable = found-solvable; core = found-core }
