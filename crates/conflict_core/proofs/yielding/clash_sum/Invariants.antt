use Rattle.conflict_core.proofs.yielding.clash_sum.Given as goal

abbrev pub invariant-loop-by : goal.invariant-loop-by
invariant-loop-by l = Unit {0}
