use Rattle.std.proofs.Common.{refl, subst, sym}
use Rattle.dual_run.specs.Entering.{AreLevels}
use Rattle.dual_run.proofs.ratios.is_before.Goals as goal

pub is_before_at-requires-clause-levels : goal.is_before_at-requires-clause-levels
is_before_at-requires-clause-levels g c =
    subst (AreLevels c.args.c.now.problem) (sym c.deref.ensures.value)
    (record { used = c.in_ok-levels-in-Equal.ensures.used; all = c.in_ok-levels-in-Equal.ensures.all; in_order = c.in_ok-levels-in-Equal.ensures.order })

pub returns-in-Less-clause-yes : goal.returns-in-Less-clause-yes
returns-in-Less-clause-yes g c = λ _. c.in-Less.ensures.less refl
