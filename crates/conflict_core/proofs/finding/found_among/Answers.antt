use Rattle.conflict_core.proofs.finding.found_among.Goals as goal

pub hasten-requires-clause-search : goal.hasten-requires-clause-search
hasten-requires-clause-search g c = c.in_ok-s.ensures c.args.t.now.problem.now c.requires.refuted.0 c.show_whole.ensures c.requires.refuted.1
