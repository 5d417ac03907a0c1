use Rattle.std.proofs.lemmas.List.{take_rest, take_all}
use Rattle.std.proofs.lemmas.List.Splits.{slice_split_none}
use Rattle.problem_reading.proofs.Parts.{parts_at, split_at}
use Rattle.problem_reading.proofs.words.first_part.Goals as goal

pub returns-then-at-text-clause-text : goal.returns-then-at-text-clause-text
returns-then-at-text-clause-text c =
    rw take_rest (split_at _ _ _ c.if-at-text.true (c.end_of_part-at.ensures.found c.if-at-text.true))

pub returns-then-at-text-clause-parts : goal.returns-then-at-text-clause-parts
returns-then-at-text-clause-parts c =
    rw take_rest (parts_at _ _ _ c.if-at-text.true c.end_of_part-at.ensures.before (c.end_of_part-at.ensures.found c.if-at-text.true))

pub returns-else-at-text-clause-parts : goal.returns-else-at-text-clause-parts
returns-else-at-text-clause-parts c =
    slice_split_none _ c.args.text.now (rw (take_all c.end_of_part-at.result c.args.text.now c.if-at-text.false) at c.end_of_part-at.ensures.before)
