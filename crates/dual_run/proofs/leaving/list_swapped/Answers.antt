use Rattle.std.proofs.Common.{inl, inr, rules, refl}
use Rattle.dual_run.proofs.leaving.list_swapped.Goals as goal

pub returns-then-eq : goal.returns-then-eq
returns-then-eq g c = inl (search rules, refl)

pub returns : goal.returns
returns g c = inr (c.list_low.new.low.items, c.in_ok-list_low.ensures, c.in_ok-list_low-2.ensures)
