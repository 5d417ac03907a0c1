use Rattle.std.proofs.Common.{rules, ◌∙◌, ap, of_z, SFits}
use Rattle.std.specs.Int.{w64}
use Rattle.std.proofs.lemmas.Int.{to_z-of_z}
use Rattle.corner_table.specs.Tables.{lists_of}
use Rattle.corner_table.specs.Kept.{HasCost}
use Rattle.corner_writings.proofs.LevelFacts.LevelFrontFacts.{cost_level}
use Rattle.corner_writings.proofs.levels.found_at.Goals as goal

pub reduced_of-reduced-requires-clause-level : goal.reduced_of-reduced-requires-clause-level
reduced_of-reduced-requires-clause-level c =
    let cost : HasCost (lists_of c.args.table.now) c.args.l = c.has_cost.ensures.0 (search rules) in
    cost_level (lists_of c.args.table.now) c.args.l c.requires.kept c.requires.within cost

pub returns-clause-some : goal.returns-clause-some
returns-clause-some c =
    let fits : SFits w64 c.reduced_of-reduced.result = search rules in
    let cost : HasCost (lists_of c.args.table.now) c.args.l = c.has_cost.ensures.0 (search rules) in
    record {
      within = c.requires.within;
      there = (cost, λ q. c.if-reduced-eq0.false (ap (of_z w64) (c.reduced_of-reduced.ensures ∙ q)));
      reduced = to_z-of_z w64 c.reduced_of-reduced.result fits ∙ c.reduced_of-reduced.ensures;
    }
