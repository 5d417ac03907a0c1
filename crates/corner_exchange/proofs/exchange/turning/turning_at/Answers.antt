use Rattle.std.proofs.Common.{rules, SFits, ◌≡◌, ◌∙◌, ◌*ℤ◌, ℤ, pos, ap, sym, subst}
use Rattle.std.specs.Int.{w64}
use Rattle.frac_core.specs.Fraction.{IsFitting}
use Rattle.corner_lines.specs.LineEquations.{sign_of}
use Rattle.corner_table.specs.declared.table.Slot.{Slot}
use Rattle.corner_table.specs.Tables.{lists_of, slot_at}
use Rattle.corner_table.specs.Kept.{level_own}
use Rattle.corner_exchange.specs.Swaps.TurnedLevels.{counts_at, turning_at}
use Rattle.corner_writings.proofs.LevelFacts.LevelReadFacts.{fitting_cost}
use Rattle.corner_exchange.proofs.LevelFacts.LevelWords.{double_fits, double_is, product_fits}
use Rattle.corner_exchange.proofs.Swaps.TurnedChanges.{counted_there, turning_there}
use Rattle.corner_exchange.proofs.exchange.turning.turning_at.Goals as goal

pub overflow_mul-result : goal.overflow_mul-result
overflow_mul-result c =
    let t = lists_of c.args.table.now in
    let own : SFits w64 c.own_of_level.result = search rules in
    let count : SFits w64 c.args.count = search rules in
    let own-is : c.own_of_level.result ≡ level_own (lists_of c.args.table.now) (slot_at (lists_of c.args.table.now) c.args.line).home = c.own_of_level.ensures.value ∙ ap (λ (s : Slot). level_own (lists_of c.args.table.now) s.home) c.slot_at.ensures in
    product_fits c.own_of_level.result c.args.count (level_own t (slot_at t c.args.line).home) (pos (counts_at t c.args.line)) own count own-is c.requires.count.count_is
    (fitting_cost (level_own t (slot_at t c.args.line).home *ℤ pos (counts_at t c.args.line)) (counted_there t c.args.line c.args.side c.requires.turn.swap c.requires.turn.kept c.requires.turn.is c.requires.count.level))

pub overflow_mul-result-2 : goal.overflow_mul-result-2
overflow_mul-result-2 c =
    let t = lists_of c.args.table.now in
    let own : SFits w64 c.own_of_level.result = search rules in
    let count : SFits w64 c.args.count = search rules in
    let sign : SFits w64 c.sign.result = search rules in
    let own-is : c.own_of_level.result ≡ level_own (lists_of c.args.table.now) (slot_at (lists_of c.args.table.now) c.args.line).home = c.own_of_level.ensures.value ∙ ap (λ (s : Slot). level_own (lists_of c.args.table.now) s.home) c.slot_at.ensures in
    double_fits c.own_of_level.result c.args.count c.sign.result (level_own t (slot_at t c.args.line).home) (pos (counts_at t c.args.line)) (sign_of c.args.side) own count sign own-is c.requires.count.count_is c.sign.ensures.value
    (fitting_cost (level_own t (slot_at t c.args.line).home *ℤ pos (counts_at t c.args.line)) (counted_there t c.args.line c.args.side c.requires.turn.swap c.requires.turn.kept c.requires.turn.is c.requires.count.level))
    (fitting_cost (turning_at t c.args.line c.args.side) (turning_there t c.args.line c.args.side c.requires.turn.swap c.requires.turn.kept c.requires.turn.is c.requires.count.level))

pub returns-clause-value : goal.returns-clause-value
returns-clause-value c =
    let t = lists_of c.args.table.now in
    let own : SFits w64 c.own_of_level.result = search rules in
    let count : SFits w64 c.args.count = search rules in
    let sign : SFits w64 c.sign.result = search rules in
    let own-is : c.own_of_level.result ≡ level_own (lists_of c.args.table.now) (slot_at (lists_of c.args.table.now) c.args.line).home = c.own_of_level.ensures.value ∙ ap (λ (s : Slot). level_own (lists_of c.args.table.now) s.home) c.slot_at.ensures in
    double_is c.own_of_level.result c.args.count c.sign.result (level_own t (slot_at t c.args.line).home) (pos (counts_at t c.args.line)) (sign_of c.args.side) own count sign own-is c.requires.count.count_is c.sign.ensures.value
    (fitting_cost (level_own t (slot_at t c.args.line).home *ℤ pos (counts_at t c.args.line)) (counted_there t c.args.line c.args.side c.requires.turn.swap c.requires.turn.kept c.requires.turn.is c.requires.count.level))
    (fitting_cost (turning_at t c.args.line c.args.side) (turning_there t c.args.line c.args.side c.requires.turn.swap c.requires.turn.kept c.requires.turn.is c.requires.count.level))

pub returns-clause-fits : goal.returns-clause-fits
returns-clause-fits c = subst (λ (z : ℤ). IsFitting z) (sym (returns-clause-value c)) (turning_there (lists_of c.args.table.now) c.args.line c.args.side c.requires.turn.swap c.requires.turn.kept c.requires.turn.is c.requires.count.level)
