use Rattle.std.proofs.Common.{◌≡◌, ◌∙◌, ◌++◌, [], ◌∷◌, ℕ, ◌+◌, ◌*◌, length, ap, arith, rules}
use Rattle.std.proofs.lemmas.List.{get_or_read, length_push}
use Rattle.path_lines.specs.Numbering.{IsTree, corner_at, entry}
use Rattle.path_claims.proofs.CornerNumbers.Corners.{corner_length}
use Rattle.path_claims.proofs.CornerNumbers.Told.{corners_told, numbered_on, tree_next}
use Rattle.path_claims.proofs.numbering.corner_numbers.Goals as goal

pub exchange-requires-clause-count : goal.exchange-requires-clause-count
exchange-requires-clause-count c =
    c.loop-step.invariant.tree.count ∙ ap (λ (n : ℕ). 2 * n) (corner_length c.args.first.now c.args.steps.now c.loop-step.step-index (omega (arith, c.loop-step-test.true)))

pub index-requires-in-loop-step : goal.index-requires-in-loop-step
index-requires-in-loop-step c =
    let long : length c.exchange.new.self.nodes.items ≡ 2 * length c.args.first.now = c.in_ok-exchange.ensures.count in
    omega (arith, long, c.requires.some, c.exchange.new.self.nodes.ok.0)

pub loop-step-preserved : goal.loop-step-preserved
loop-step-preserved c =
    let old = c.loop-step.invariant in
    let made = c.in_ok-exchange.ensures in
    let size = corner_length c.args.first.now c.args.steps.now c.loop-step.step-index (omega (arith, c.loop-step-test.true)) in
    let tree : IsTree c.exchange.new.self.pairs c.exchange.new.self.nodes.items (corner_at c.args.first.now c.args.steps.now (c.loop-step.step-index + 1)) =
    tree_next c.exchange.new.self.pairs c.exchange.new.self.nodes.items c.args.first.now c.args.steps.now c.loop-step.step-index _ c.loop-step-test.true (made.tree (corner_at c.args.first.now c.args.steps.now c.loop-step.step-index) size old.tree) in
    let long : length c.exchange.new.self.nodes.items ≡ 2 * length c.args.first.now = made.count in
    let root : c.index-in-loop-step.result.now ≡ entry c.exchange.new.self.nodes.items 1 =
    get_or_read c.exchange.new.self.nodes.items 1 c.index-in-loop-step.result.now (omega (arith, long, c.requires.some)) c.index-in-loop-step.ensures 0 in
    let pushed : c.push-in-loop-step.new.self.items ≡ c.loop-step.numbers.items ++ c.index-in-loop-step.result.now ∷ [] = search rules in
    record {
      numbered = made.numbered;
      tree = tree;
      count = rw pushed (omega (arith, length_push c.loop-step.numbers.items c.index-in-loop-step.result.now, old.count));
      each = rw pushed
          (numbered_on c.loop-step.tree.pairs c.exchange.new.self.pairs c.args.first.now c.args.steps.now c.loop-step.numbers.items c.loop-step.step-index c.index-in-loop-step.result.now c.exchange.new.self.nodes.items old.count made.extends tree root old.each);
    }

pub returns : goal.returns
returns c =
    corners_told c.loop-step.tree.pairs c.args.first.now c.args.steps.now c.loop-step.numbers.items c.loop-step.step-index c.loop-step.invariant.numbered c.requires.some c.loop-step.invariant.count (omega (arith, c.loop-step-test.false, c.loop-step.auto.step-index-end)) c.loop-step.invariant.each
