use Rattle.path_levels.proofs.levels_after.next_level.Goals as goal

pub level_by-requires-clause-pivot : goal.level_by-requires-clause-pivot
level_by-requires-clause-pivot c = record { step_is = c.in_ok-pivot.ensures.step; sized = c.in_ok-pivot.ensures.sized; gives = c.in_ok-pivot.ensures.pivot }
