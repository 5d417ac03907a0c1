use Rattle.std.proofs.Common.{◌≡◌, ◌++◌, map, take}
use Rattle.problem_core.specs.Gaps.{value_of}
use Rattle.scenes.proofs.scene.values.push_values.Given as goal

abbrev pub invariant-loop-attr : goal.invariant-loop-attr
invariant-loop-attr g l = l.out.items ≡ l.fn.out.items ++ map (λ a. (a, value_of l.engine.values a)) (take l.attr-index l.attrs)
