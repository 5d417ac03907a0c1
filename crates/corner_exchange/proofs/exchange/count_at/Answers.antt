use Rattle.std.proofs.Common.{◌*ℤ◌, ℤ, pos, rules, sym, subst, SFits}
use Rattle.std.specs.Int.{w64}
use Rattle.corner_lines.specs.LineEquations.{sign_of}
use Rattle.corner_table.specs.Tables.{lists_of}
use Rattle.corner_table.specs.Reads.LevelNumbers.{IsCost, IsLinesSlot, count_of}
use Rattle.corner_writings.proofs.LevelFacts.LevelReadFacts.{counted}
use Rattle.corner_exchange.proofs.LevelFacts.LevelCounts.{share_small}
use Rattle.corner_exchange.proofs.LevelFacts.LevelWords.{product_is}
use Rattle.corner_exchange.proofs.exchange.count_at.Goals as goal

pub cost_share-requires-clause-counted : goal.cost_share-requires-clause-counted
cost_share-requires-clause-counted c = counted (lists_of c.args.table.now) c.slot_at-slot.result c.requires.kept (c.args.line, c.requires.line, sym c.slot_at-slot.ensures)

pub returns-then-slot-l-clause-small : goal.returns-then-slot-l-clause-small
returns-then-slot-l-clause-small c =
    let t = lists_of c.args.table.now in
    let slot = c.slot_at-slot.result in
    let there : IsLinesSlot t slot = (c.args.line, c.requires.line, sym c.slot_at-slot.ensures) in
    let share : SFits w64 c.cost_share.result = search rules in
    let sign : SFits w64 c.sign.result = search rules in
    let small : IsCost (pos (count_of t slot c.args.side) *ℤ sign_of c.args.side) = share_small t slot c.args.side c.requires.kept there in
    subst (λ (z : ℤ). IsCost z) (sym (product_is c.cost_share.result c.sign.result (pos (count_of t slot c.args.side)) (sign_of c.args.side) share sign c.cost_share.ensures c.sign.ensures.value small)) small
