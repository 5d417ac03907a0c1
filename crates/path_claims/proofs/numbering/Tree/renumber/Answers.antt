use Rattle.std.proofs.Common.{◌≡◌, ℕ, ◌+◌, ◌*◌, subst₂, arith}
use Rattle.std.proofs.lemmas.List.{get_or_read}
use Rattle.path_lines.specs.Numbering.{HasNumber, entry}
use Rattle.path_claims.proofs.CornerNumbers.Trees.{new_node}
use Rattle.path_claims.proofs.numbering.Tree.renumber.Goals as goal

pub returns-clause-node : goal.returns-clause-node
returns-clause-node c =
    let left : c.index.result.now ≡ entry c.args.self.now.nodes.items (2 * c.args.node) = get_or_read c.args.self.now.nodes.items (2 * c.args.node) c.index.result.now (omega (arith, c.requires.within)) c.index.ensures 0 in
    let right : c.index-2.result.now ≡ entry c.args.self.now.nodes.items (2 * c.args.node + 1) = get_or_read c.args.self.now.nodes.items (2 * c.args.node + 1) c.index-2.result.now c.requires.within c.index-2.ensures 0 in
    new_node c.numbered.new.pairs c.args.self.now.nodes.items c.args.node c.in_ok-self.field-0 c.requires.above c.requires.within
    (subst₂ (λ (x y : ℕ). HasNumber c.numbered.new.pairs (x, y) c.in_ok-self.field-0) left right c.in_ok-self.ensures.number)
