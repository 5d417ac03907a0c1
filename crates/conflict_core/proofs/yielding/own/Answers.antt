use Rattle.std.proofs.Common.{refl, subst, sym}
use Rattle.frac_core.specs.Fraction.{Fraction}
use Rattle.conflict_core.specs.Yielding.{IsOwn}
use Rattle.conflict_core.proofs.GivingWay.{own_constant}
use Rattle.conflict_core.proofs.yielding.own.Goals as goal

pub returns : goal.returns
returns c = (
  refl,
  subst (λ (f : Fraction). IsOwn c.args.rows.now (record { row = c.args.id; constant = f })) (sym c.constant.ensures)
      (own_constant c.args.rows.now c.in_ok-row.row.now c.args.id c.requires.rising c.in_ok-row.ensures.some.0 c.in_ok-row.ensures.some.1 c.show_row.ensures.constant),
)
