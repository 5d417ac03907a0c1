use Rattle.std.proofs.Common.{◌≡◌, ◌≤◌, length, map, take}
use Rattle.problem_core.specs.Gaps.{value_of}
use Rattle.held_items.specs.Attributes.{all_attributes}
use Rattle.scenes.proofs.scene.values.values_of.Given as goal

abbrev pub invariant-loop-place : goal.invariant-loop-place
invariant-loop-place g l = record {
  within : l.place ≤ l.place-end;
  is_end : l.place-end ≡ length l.tree.views;
  pairs : l.pairs.items ≡ map (λ a. (a, value_of l.engine.values a)) (all_attributes (take l.place l.tree.views));
}
