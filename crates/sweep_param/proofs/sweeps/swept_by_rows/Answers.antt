use Rattle.std.proofs.Common.{◌∙◌, sym, subst, ap₂}
use Rattle.problem_core.specs.Layout.{Problem}
use Rattle.layout_solver.specs.Starts.{as_problem}
use Rattle.sweep_laws.specs.Stretches.{IsSweep}
use Rattle.sweep_run.specs.Told.{stretches_of}
use Rattle.sweep_param.specs.Joining.{IsRangeOf}
use Rattle.sweep_param.proofs.Starting.{parts_whole}
use Rattle.sweep_param.proofs.sweeps.swept_by_rows.Goals as goal

pub started_by_rows-requires : goal.started_by_rows-requires
started_by_rows-requires g c = record { whole = parts_whole c.args.p.now c.rows.result.now c.stays.result.now c.rows.ensures c.stays.ensures c.show_whole.ensures }

pub swept-all-requires-clause-range : goal.swept-all-requires-clause-range
swept-all-requires-clause-range g c = subst (λ (q : Problem). IsRangeOf q c.args.range.now) (sym (c.in-Ok.ensures.problem ∙ ap₂ as_problem c.rows.ensures c.stays.ensures)) c.requires.range

pub returns-in-Ok-all : goal.returns-in-Ok-all
returns-in-Ok-all g c =
    subst (λ (q : Problem). IsSweep q c.args.range.now.row c.args.range.now.from c.args.range.now.to (stretches_of c.in-Ok-all.all.items)) (c.in-Ok.ensures.problem ∙ ap₂ as_problem c.rows.ensures c.stays.ensures) c.in-Ok-all.ensures.sweep
