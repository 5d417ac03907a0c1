use Rattle.std.proofs.Common.{ℕ}
use Rattle.corner_exchange.specs.Swaps.Exchanges.{IsRestUntouched}
use Rattle.corner_table.specs.Tables.{lists_of}
use Rattle.corner_exchange.specs.Swaps.Touched.{AreLevelsPut, IsPut}
use Rattle.corner_exchange.proofs.Pivots.TouchedFacts.{more_put, on_ok_both, rest_untouched}
use Rattle.corner_exchange.proofs.exchange.push_touched.Goals as goal
use Rattle.corner_exchange.proofs.Pivots.LevelSwaps.{enter_line, leave_line}

pub push_line_level-requires-clause-line : goal.push_line_level-requires-clause-line
push_line_level-requires-clause-line c = enter_line (lists_of c.args.table.now) c.args.pivot.now.pair c.requires.pivot.swap c.requires.pivot.is.pair

pub push_line_level-requires-2-clause-line : goal.push_line_level-requires-2-clause-line
push_line_level-requires-2-clause-line c = leave_line (lists_of c.args.table.now) c.args.pivot.now.pair c.requires.pivot.swap c.requires.pivot.is.pair

pub returns-clause-rest : goal.returns-clause-rest
returns-clause-rest c =
    on_ok_both c.push_line_level-2.result ((v : ℕ) → IsPut c.push_line_level.new.out.items v → IsPut c.push_line_level-2.new.out.items v)
    (AreLevelsPut (lists_of c.args.table.now) c.args.pivot.now.pair.enter c.args.pivot.now.pair.leave c.side_in.result c.push_line_level-2.new.out.items)
    (IsRestUntouched (lists_of c.args.table.now) c.args.pivot.now c.push_line_level-2.new.out.items)
    (λ keeps put.
    rest_untouched (lists_of c.args.table.now) c.args.pivot.now c.side_in.result c.push_line_level-2.new.out.items c.requires.pivot.kept
    (λ w nl some. keeps w (c.in_ok-push_line_level.ensures.keeps w (c.requires.stands w nl some)))
    (more_put (lists_of c.args.table.now) c.args.pivot.now.pair.enter c.args.pivot.now.pair.enter c.args.pivot.now.pair.side c.push_line_level.new.out.items c.push_line_level-2.new.out.items keeps c.in_ok-push_line_level.ensures.put)
    put c.side_in.ensures)
    c.push_line_level-2.ensures.keeps c.push_line_level-2.ensures.put
