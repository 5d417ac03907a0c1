use Rattle.std.proofs.Common.{inr, subst, sym}
use Rattle.corner_view.specs.Seen.{IsNamed}
use Rattle.dual_run.proofs.Lows.{without}
use Rattle.dual_run.proofs.leaving.turn_at.Goals as goal

pub low_of-requires : goal.low_of-requires
low_of-requires g c = subst (IsNamed c.args.c.now.problem) (sym c.index-name.ensures) (c.requires.low.named c.args.at c.index-name.result.now c.requires.within)

pub returns-in-None-clause-low : goal.returns-in-None-clause-low
returns-in-None-clause-low g c =
    without c.args.c.now.problem c.args.c.now.marks c.args.low.now.items c.swap_remove.new.self.items c.args.at c.index-name.result.now c.swap_remove.result
    c.requires.within c.index-name.ensures c.swap_remove.ensures.value c.swap_remove.ensures.items (inr c.in-None.ensures.none) c.requires.low

pub returns-then-turns-clause-some : goal.returns-then-turns-clause-some
returns-then-turns-clause-some g c = record { low = c.in-Some.ensures.some; turns = λ yes. c.is_turn-turns.ensures yes }
