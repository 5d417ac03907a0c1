use Rattle.std.proofs.Common.{◌≡◌, ℕ, List, map, take, length}
use Rattle.compile_parts.specs.Addends.{addends_view}
use Rattle.compile_parts.specs.Keeps.{HaveNames, steps_view}
use Rattle.constraint_compile.proofs.line.parts.steps_of.Given as goal

abbrev pub invariant-loop-place : goal.invariant-loop-place
invariant-loop-place l = record {
  long : length l.steps.items ≡ l.place;
  scales : map (λ s. s.scale) l.steps.items ≡ take l.place l.scales;
  parts : (names : List (List ℕ)) → HaveNames names (addends_view l.added) → map (λ s. s.part) (steps_view names l.steps.items) ≡ map (λ a. a.part) (addends_view (take l.place l.added));
}
