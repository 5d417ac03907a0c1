use Rattle.std.proofs.Common.{◌*ℤ◌, ℤ, rules, sym, subst, SFits}
use Rattle.std.specs.Int.{w64}
use Rattle.frac_core.specs.Fraction.{IsFitting}
use Rattle.corner_table.specs.Tables.{entry, lists_of}
use Rattle.corner_table.specs.Kept.{level_own}
use Rattle.corner_table.specs.Reads.LevelNumbers.{IsCost}
use Rattle.corner_exchange.specs.Swaps.LevelChanges.{count_by}
use Rattle.corner_exchange.proofs.Pivots.LevelSwaps.{enter_line, entering_there}
use Rattle.corner_exchange.proofs.LevelFacts.LevelWords.{product_fits, rest_cost, rest_fits, rest_is}
use Rattle.corner_exchange.proofs.exchange.entering_at.Goals as goal

pub count_at-comes-requires-clause-line : goal.count_at-comes-requires-clause-line
count_at-comes-requires-clause-line c = enter_line (lists_of c.args.table.now) c.args.pivot.now.pair c.requires.pivot.swap c.requires.pivot.is.pair

pub overflow_mul-result : goal.overflow_mul-result
overflow_mul-result c =
    let t = lists_of c.args.table.now in
    let pair = c.args.pivot.now.pair in
    let own : SFits w64 c.own_of_level.result = search rules in
    let comes : SFits w64 c.count_at-comes.result = search rules in
    let x : IsFitting (entry t c.args.l pair.enter) = search rules in
    let cost : IsCost (level_own t c.args.l *ℤ count_by t c.args.l pair.enter pair.side) =
    rest_cost (entry t c.args.l pair.enter) (level_own t c.args.l *ℤ count_by t c.args.l pair.enter pair.side) x (entering_there t c.args.pivot.now c.requires.pivot.swap c.args.l c.requires.pivot.kept c.requires.pivot.is c.requires.level.0 c.requires.level.1) in
    product_fits c.own_of_level.result c.count_at-comes.result (level_own t c.args.l) (count_by t c.args.l pair.enter pair.side) own comes c.own_of_level.ensures.value c.count_at-comes.ensures.value cost

pub overflow_sub-result : goal.overflow_sub-result
overflow_sub-result c =
    let t = lists_of c.args.table.now in
    let pair = c.args.pivot.now.pair in
    let number : SFits w64 c.entry.result = search rules in
    let own : SFits w64 c.own_of_level.result = search rules in
    let comes : SFits w64 c.count_at-comes.result = search rules in
    let x : IsFitting (entry t c.args.l pair.enter) = search rules in
    rest_fits c.entry.result c.own_of_level.result c.count_at-comes.result (entry t c.args.l pair.enter) (level_own t c.args.l) (count_by t c.args.l pair.enter pair.side) number own comes
    c.entry.ensures.value c.own_of_level.ensures.value c.count_at-comes.ensures.value x (entering_there t c.args.pivot.now c.requires.pivot.swap c.args.l c.requires.pivot.kept c.requires.pivot.is c.requires.level.0 c.requires.level.1)

pub returns-clause-value : goal.returns-clause-value
returns-clause-value c =
    let t = lists_of c.args.table.now in
    let pair = c.args.pivot.now.pair in
    let number : SFits w64 c.entry.result = search rules in
    let own : SFits w64 c.own_of_level.result = search rules in
    let comes : SFits w64 c.count_at-comes.result = search rules in
    let x : IsFitting (entry t c.args.l pair.enter) = search rules in
    rest_is c.entry.result c.own_of_level.result c.count_at-comes.result (entry t c.args.l pair.enter) (level_own t c.args.l) (count_by t c.args.l pair.enter pair.side) number own comes
    c.entry.ensures.value c.own_of_level.ensures.value c.count_at-comes.ensures.value x (entering_there t c.args.pivot.now c.requires.pivot.swap c.args.l c.requires.pivot.kept c.requires.pivot.is c.requires.level.0 c.requires.level.1)

pub returns-clause-fits : goal.returns-clause-fits
returns-clause-fits c = subst (λ (z : ℤ). IsFitting z) (sym (returns-clause-value c)) (entering_there (lists_of c.args.table.now) c.args.pivot.now c.requires.pivot.swap c.args.l c.requires.pivot.kept c.requires.pivot.is c.requires.level.0 c.requires.level.1)
