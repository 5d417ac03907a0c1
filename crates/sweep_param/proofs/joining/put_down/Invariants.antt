use Rattle.std.proofs.Common.{◌≡◌, ◌++◌, false, length}
use Rattle.sweep_run.specs.Slides.{rising}
use Rattle.sweep_run.specs.Told.{stretches_of}
use Rattle.sweep_param.proofs.joining.put_down.Given as goal

abbrev pub invariant-loop-stretch : goal.invariant-loop-stretch
invariant-loop-stretch l = record {
  stretches : stretches_of l.out.items ++ rising false (stretches_of l.slid.stretches.items) ≡ stretches_of l.initial.out.items ++ rising false (stretches_of l.initial.slid.stretches.items);
  at : l.slid.at ≡ l.initial.slid.at;
  values : l.slid.values ≡ l.initial.slid.values;
}

abbrev pub decreases-loop-stretch : goal.decreases-loop-stretch
decreases-loop-stretch l = length l.slid.stretches.items
