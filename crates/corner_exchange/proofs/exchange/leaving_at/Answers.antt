use Rattle.std.proofs.Common.{◌≡◌, ◌∙◌, ℤ, ap, rules, sym, subst, SFits}
use Rattle.std.specs.Int.{w64}
use Rattle.frac_core.specs.Fraction.{IsFitting}
use Rattle.corner_table.specs.Tables.{lists_of, standing_at}
use Rattle.corner_table.specs.Kept.{level_own}
use Rattle.corner_exchange.specs.Swaps.LevelChanges.{count_by, leaving_at, side_or}
use Rattle.corner_writings.proofs.LevelFacts.LevelReadFacts.{fitting_cost}
use Rattle.corner_exchange.proofs.Pivots.LevelSwaps.{leave_line, leaving_there, side_there}
use Rattle.corner_exchange.proofs.LevelFacts.LevelWords.{product_fits, product_is}
use Rattle.corner_exchange.proofs.exchange.leaving_at.Goals as goal

pub count_at-goes-requires-clause-line : goal.count_at-goes-requires-clause-line
count_at-goes-requires-clause-line c = leave_line (lists_of c.args.table.now) c.args.pivot.now.pair c.requires.pivot.swap c.requires.pivot.is.pair

goes-is : (c : goal.After-own_of_level) → c.count_at-goes.result ≡ count_by (lists_of c.args.table.now) c.args.l c.args.pivot.now.pair.leave (side_or (standing_at (lists_of c.args.table.now) c.args.pivot.now.pair.leave).side)
goes-is c =
    c.count_at-goes.ensures.value
    ∙ ap (count_by (lists_of c.args.table.now) c.args.l c.args.pivot.now.pair.leave) (side_there (lists_of c.args.table.now) c.args.pivot.now.pair c.requires.pivot.swap c.side_in.result c.requires.pivot.is.pair c.side_in.ensures)

pub overflow_mul-result : goal.overflow_mul-result
overflow_mul-result c =
    let t = lists_of c.args.table.now in
    let leave = c.args.pivot.now.pair.leave in
    let own : SFits w64 c.own_of_level.result = search rules in
    let goes : SFits w64 c.count_at-goes.result = search rules in
    product_fits c.own_of_level.result c.count_at-goes.result (level_own t c.args.l) (count_by t c.args.l leave (side_or (standing_at t leave).side)) own goes c.own_of_level.ensures.value (goes-is c)
    (fitting_cost (leaving_at t c.args.pivot.now.pair c.args.l) (leaving_there t c.args.pivot.now c.requires.pivot.swap c.args.l c.requires.pivot.kept c.requires.pivot.is c.requires.level.0 c.requires.level.1))

pub returns-clause-value : goal.returns-clause-value
returns-clause-value c =
    let t = lists_of c.args.table.now in
    let leave = c.args.pivot.now.pair.leave in
    let own : SFits w64 c.own_of_level.result = search rules in
    let goes : SFits w64 c.count_at-goes.result = search rules in
    product_is c.own_of_level.result c.count_at-goes.result (level_own t c.args.l) (count_by t c.args.l leave (side_or (standing_at t leave).side)) own goes c.own_of_level.ensures.value (goes-is c)
    (fitting_cost (leaving_at t c.args.pivot.now.pair c.args.l) (leaving_there t c.args.pivot.now c.requires.pivot.swap c.args.l c.requires.pivot.kept c.requires.pivot.is c.requires.level.0 c.requires.level.1))

pub returns-clause-fits : goal.returns-clause-fits
returns-clause-fits c = subst (λ (z : ℤ). IsFitting z) (sym (returns-clause-value c)) (leaving_there (lists_of c.args.table.now) c.args.pivot.now c.requires.pivot.swap c.args.l c.requires.pivot.kept c.requires.pivot.is c.requires.level.0 c.requires.level.1)
