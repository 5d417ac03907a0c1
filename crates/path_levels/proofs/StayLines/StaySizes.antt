-- The size of a stay's row.
use Rattle.std.proofs.Common.{◌∙◌, List, length, ℤ, pos, ◌*ℤ◌, ◌<ℤ◌, sym, ap, subst, arith, All}
use Rattle.std.proofs.lemmas.List.{length-map}
use borrow.Author.Differences.{ints}
use Rattle.frac_core.specs.Fraction.{IsFitting}
use Rattle.corner_lines.specs.Levels.StayLevels.{turned}
use Rattle.path_lines.specs.declared.table.Inside.{Inside}
use Rattle.path_lines.specs.Tables.{IsSized}
use Rattle.path_levels.specs.declared.sums.LevelSum.{LevelSum}
use Rattle.path_levels.specs.Levels.{IsSizedLevel}
use Rattle.path_levels.specs.Parts.{IsStaySum}
use Rattle.path_levels.proofs.StayLines.TurnedValues.{all_turned_fit}
use Rattle.frac_core.proofs.Numbers.{times-one as once}

pub stay_sized : (inside : Inside) (sum : LevelSum) → IsSized (length inside.sum.by.items) inside.sum → IsStaySum inside sum → IsSizedLevel (length inside.sum.by.items) sum
stay_sized inside sum sized is = record {
  count_is = ap length is.by ∙ length-map inside.sum.by.items (turned inside.side);
  unit_above = subst (λ (z : ℤ). pos 0 <ℤ z) (sym is.unit) (omega (arith, ints));
  own_above = subst (λ (z : ℤ). pos 0 <ℤ z) (sym is.own) sized.above;
  scale = subst IsFitting (sym (ap (λ (z : ℤ). sum.own *ℤ z) is.unit ∙ once sum.own ∙ is.own)) sized.fits.0;
  fits = subst (λ (zs : List ℤ). All IsFitting zs) (sym is.by) (all_turned_fit inside.side inside.sum.by.items sized.fits.1);
}
