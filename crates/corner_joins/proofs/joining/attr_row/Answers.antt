use Rattle.std.proofs.Common.{◌∙◌, ◌+◌, ap, refl, subst, sym}
use Rattle.frac_core.specs.Stops.{IsRefused}
use Rattle.frac_core.specs.declared.frac.Unfit.{Unfit}
use Rattle.frac_core.specs.declared.memory.Stop.{Stop}
use Rattle.corner_joins.proofs.Additions.RowPlaced.{stay_there}
use Rattle.corner_joins.proofs.joining.attr_row.Goals as goal

pub unreachable-requires : goal.unreachable-requires
unreachable-requires c =
    stay_there c.from.result _ c.in_ok-own.own c.in_ok-stay.stay _ _ c.in_ok-own.ensures c.in_ok-stay.ensures (ap (λ n. n + 1) (c.from-2.ensures ∙ sym c.from.ensures)) refl refl (c.in-Err-Refused.ensures.unfit (subst (λ (s : Stop Unfit). IsRefused s) (sym c.in-Err-Refused.field-0-is) tt))
