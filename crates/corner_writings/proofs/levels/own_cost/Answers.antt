use Rattle.std.proofs.Common.{rules, ◌≡◌, ◌∙◌, ◌*ℤ◌, ℤ, ap, ap₂, sym, subst, to_z, of_z, FitsSigned, SFits}
use Rattle.std.specs.Int.{w64}
use Rattle.std.proofs.lemmas.Int.{to_z-of_z}
use Rattle.corner_table.specs.Tables.{lists_of}
use Rattle.corner_table.specs.Reads.LevelNumbers.{IsCost, own_cost}
use Rattle.corner_writings.proofs.LevelFacts.LevelReadFacts.{cost_fits, cost_sfits, cost_small, counted, home_level}
use Rattle.corner_writings.proofs.levels.own_cost.Goals as goal

pub level_own-requires-clause-level : goal.level_own-requires-clause-level
level_own-requires-clause-level c = home_level (lists_of c.args.table.now) c.args.slot c.requires.kept c.requires.line

pub cost_share-requires-clause-counted : goal.cost_share-requires-clause-counted
cost_share-requires-clause-counted c = counted (lists_of c.args.table.now) c.args.slot c.requires.kept c.requires.line

pub overflow_mul-result : goal.overflow_mul-result
overflow_mul-result c =
    let fits : SFits w64 c.level_own.result = search rules in
    let fits-2 : SFits w64 c.cost_share.result = search rules in
    let e : c.level_own.result *ℤ c.cost_share.result ≡ own_cost (lists_of c.args.table.now) c.args.slot c.args.side = ap₂ ◌*ℤ◌ c.level_own.ensures.value c.cost_share.ensures in
    subst (λ (z : ℤ). FitsSigned w64 z) (sym (ap₂ ◌*ℤ◌ (to_z-of_z w64 c.level_own.result fits) (to_z-of_z w64 c.cost_share.result fits-2) ∙ e)) (cost_fits (own_cost (lists_of c.args.table.now) c.args.slot c.args.side) (cost_small (lists_of c.args.table.now) c.args.slot c.args.side c.requires.kept c.requires.line))

pub returns-clause-value : goal.returns-clause-value
returns-clause-value c =
    let fits : SFits w64 c.level_own.result = search rules in
    let fits-2 : SFits w64 c.cost_share.result = search rules in
    let e : c.level_own.result *ℤ c.cost_share.result ≡ own_cost (lists_of c.args.table.now) c.args.slot c.args.side = ap₂ ◌*ℤ◌ c.level_own.ensures.value c.cost_share.ensures in
    ap (λ (z : ℤ). to_z w64 (of_z w64 z)) (ap₂ ◌*ℤ◌ (to_z-of_z w64 c.level_own.result fits) (to_z-of_z w64 c.cost_share.result fits-2) ∙ e)
    ∙ to_z-of_z w64 (own_cost (lists_of c.args.table.now) c.args.slot c.args.side) (cost_sfits (own_cost (lists_of c.args.table.now) c.args.slot c.args.side) (cost_small (lists_of c.args.table.now) c.args.slot c.args.side c.requires.kept c.requires.line))

pub returns-clause-small : goal.returns-clause-small
returns-clause-small c = subst (λ (z : ℤ). IsCost z) (sym (returns-clause-value c)) (cost_small (lists_of c.args.table.now) c.args.slot c.args.side c.requires.kept c.requires.line)
