use Rattle.std.proofs.Common.{◌≡◌, ℕ, ◌<◌, take, pos, All, AllPairs}
use Rattle.problem_core.specs.Kept.{IsNumber}
use Rattle.compile_parts.specs.Addends.{addend_view}
use Rattle.compile_parts.specs.Shares.{IsOff}
use Rattle.compile_parts.proofs.shares.attributes.Given as goal

abbrev pub invariant-loop-addend : goal.invariant-loop-addend
invariant-loop-addend l = record {
  rising : AllPairs (λ a b. a < b) l.attrs.items;
  numbers : All IsNumber l.attrs.items;
  off : (v : ℕ) → IsOff l.attrs.items v → All (λ a. ((addend_view a).share v).num ≡ pos 0) (take l.addend-index l.added);
}
