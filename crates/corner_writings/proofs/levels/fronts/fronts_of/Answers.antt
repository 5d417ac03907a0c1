use Rattle.std.proofs.Common.{ℕ, ◌∙◌, ap, subst, sym}
use Rattle.problem_core.specs.declared.parts.Side.TheVariants.{Over, Under}
use Rattle.corner_table.specs.Tables.{lists_of}
use Rattle.corner_table.specs.Reads.LevelNumbers.{IsSlotOfLine, reduced_at}
use Rattle.corner_writings.specs.Walks.{IsStrongestOf}
use Rattle.corner_writings.proofs.LevelFacts.LevelFrontFacts.{cost_level}
use Rattle.corner_writings.proofs.LevelFacts.LevelReadFacts.{named_line_slot}
use Rattle.corner_writings.proofs.LevelFacts.LowestFronts.{lowest_is_strongest}
use Rattle.corner_writings.proofs.levels.fronts.fronts_of.Goals as goal

pub lowest-l-requires-clause-line : goal.lowest-l-requires-clause-line
lowest-l-requires-clause-line c = subst (λ w. IsSlotOfLine (lists_of c.args.table.now) w) (sym c.line_slot-line.ensures.value) (named_line_slot (lists_of c.args.table.now) c.args.row c.requires.row)

pub both_at-requires-clause-level : goal.both_at-requires-clause-level
both_at-requires-clause-level c = cost_level (lists_of c.args.table.now) c.lowest-l.result c.requires.kept c.lowest-l.ensures.within c.lowest-l.ensures.lowest.cost

pub fronts_from-requires-clause-under : goal.fronts_from-requires-clause-under
fronts_from-requires-clause-under c = c.both_at.ensures.under ∙ ap (λ (w : ℕ). reduced_at (lists_of c.args.table.now) c.lowest-l.result w Under) c.line_slot-line.ensures.value

pub fronts_from-requires-clause-over : goal.fronts_from-requires-clause-over
fronts_from-requires-clause-over c = c.both_at.ensures.over ∙ ap (λ (w : ℕ). reduced_at (lists_of c.args.table.now) c.lowest-l.result w Over) c.line_slot-line.ensures.value

pub fronts_from-requires-clause-first : goal.fronts_from-requires-clause-first
fronts_from-requires-clause-first c =
    subst (λ (w : ℕ). IsStrongestOf (lists_of c.args.table.now) w c.lowest-l.result) c.line_slot-line.ensures.value
    (lowest_is_strongest (lists_of c.args.table.now) c.line_slot-line.result c.lowest-l.result c.requires.kept c.lowest-l.ensures.lowest (c.ends_column.ensures.yes c.if-ends_column.true))
