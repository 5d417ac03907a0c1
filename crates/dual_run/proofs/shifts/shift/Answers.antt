use Rattle.std.proofs.Common.{refl, sym, subst}
use Rattle.problem_core.specs.declared.parts.RowName.TheVariants.{Held}
use Rattle.problem_core.specs.Layout.{Problem}
use Rattle.corner_view.specs.Seen.{IsNamed}
use Rattle.corner_ends.proofs.RequiredTimes.{row_named}
use Rattle.dual_run.proofs.Moved.{lows_shifted}
use Rattle.dual_run.proofs.shifts.shift.Goals as goal
use Rattle.corner_view.proofs.Seen.ShiftedLines.{shift_named as named_shifted}

pub list_low-requires : goal.list_low-requires
list_low-requires g c =
    let near = c.requires.near in
    subst (λ (p : Problem). IsNamed p (Held c.args.id)) (sym c.in_ok-shift.ensures.problem)
    (named_shifted c.args.c.now.problem c.args.id c.args.to (Held c.args.id) (row_named c.args.c.now.problem c.args.id c.args.id near.2.held refl))

pub returns-in-Ok-clause-low : goal.returns-in-Ok-clause-low
returns-in-Ok-clause-low g c = λ lows.
    let near = c.requires.near in
    lows_shifted c.args.c.now.problem c.shift.new.self.problem c.args.c.now.marks c.shift.new.self.marks c.args.id near.0 c.args.to near.1 c.args.low.now.items c.list_low.new.low.items
    c.show_corner.ensures.kept c.show_corner-2.ensures.kept (row_named c.args.c.now.problem c.args.id c.args.id near.2.held refl) near.2 c.in_ok-shift.ensures.problem c.in_ok-shift.ensures.marks c.in-Ok.ensures lows
