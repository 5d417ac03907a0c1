use Rattle.std.proofs.Common.{rules, arith, ◌≡◌, ◌+ℤ◌, ◌*ℤ◌, ◌++◌, [], ◌∷◌, pos, to_z, of_z, SFits}
use Rattle.std.specs.Prelude.{slice_index_or}
use Rattle.std.specs.Int.{w64, w128}
use Rattle.std.proofs.lemmas.Int.{to_z-of_z}
use Rattle.path_lines.specs.Numbers.{number_at}
use Rattle.path_lines.proofs.Arithmetic.LowestTerms.{combined_more, factor_product}
use Rattle.path_lines.proofs.numbers.combined.Goals as goal

pub both-requires-clause-left : goal.both-requires-clause-left
both-requires-clause-left c =
    let k : SFits w128 c.args.k = c.ranges.k in
    let number : SFits w64 (slice_index_or c.args.left.now c.loop-at.at (pos 0)) = search rules in
    simp to_z-of_z (factor_product c.args.k (slice_index_or c.args.left.now c.loop-at.at (pos 0)) c.requires.k (c.requires.left c.loop-at.at (pos 0) c.loop-at-test.true))

pub both-requires-clause-right : goal.both-requires-clause-right
both-requires-clause-right c =
    let m : SFits w128 c.args.m = c.ranges.m in
    let number : SFits w64 (slice_index_or c.args.right.now c.loop-at.at (pos 0)) = search rules in
    simp to_z-of_z (factor_product c.args.m (slice_index_or c.args.right.now c.loop-at.at (pos 0)) c.requires.m (c.requires.right c.loop-at.at (pos 0) (omega (arith, c.loop-at-test.true, c.requires.count))))

pub loop-at-preserved : goal.loop-at-preserved
loop-at-preserved c =
    let pushed : c.push.new.self.items ≡ c.loop-at.out.items ++ c.both.result ∷ [] = search rules in
    let here : c.both.result ≡ to_z w128 (of_z w128 c.args.k) *ℤ number_at c.args.left.now c.loop-at.at +ℤ to_z w128 (of_z w128 c.args.m) *ℤ number_at c.args.right.now c.loop-at.at = search rules in
    record {
      count = search rules;
      each = rw pushed (combined_more (to_z w128 (of_z w128 c.args.k)) c.args.left.now (to_z w128 (of_z w128 c.args.m)) c.args.right.now c.loop-at.out.items c.both.result c.loop-at.at
          c.loop-at.invariant.count c.loop-at-test.true c.loop-at.invariant.each here);
    }
