use Rattle.dual_run.proofs.leaving.strongest_leave.Goals as goal

pub returns-then-turns-clause-some : goal.returns-then-turns-clause-some
returns-then-turns-clause-some g c = record { low = c.in_ok-mark.ensures.some; turns = λ yes. c.is_turn-turns.ensures yes }

pub returns-else-turns-clause-some : goal.returns-else-turns-clause-some
returns-else-turns-clause-some g c = record { low = c.in_ok-mark.ensures.some; turns = λ yes. c.is_turn-turns.ensures yes }
