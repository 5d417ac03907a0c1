-- A corner that is a best end at two places is one between, and its values there are the ends of a right piece.
use Rattle.std.proofs.Common.{◌≡◌, ◌∙◌, ℕ, ◌<◌, Bool, true, false, List, map, ℤ, pos, ◌*ℤ◌, nat_abs, sym, ap, subst}
use Rattle.std.proofs.lemmas.List.Elements.{All-from_recursion, recursion_from_All}
use lib.IntN.{*ℤ_comm}
use Rattle.frac_core.specs.Fraction.{Fraction, IsKept}
use Rattle.frac_core.proofs.Lists.{each-from_map}
use Rattle.problem_core.specs.declared.parts.Mark.{Mark}
use Rattle.problem_core.specs.declared.parts.Stay.{Stay}
use Rattle.problem_core.specs.Kept.{IsWhole}
use Rattle.problem_core.specs.Layout.{Gives, HasStay, Problem}
use Rattle.problem_core.specs.Corners.{Agree, IsCorner, assignment_at, attr_column, one_column}
use Rattle.problem_core.proofs.Corners.Ends.{abs_same}
use Rattle.problem_core.proofs.Forms.{each-both, each-impl}
use Rattle.problem_core.proofs.StayNumbers.{all_held}
use Rattle.corner_view.specs.Seen.{HasValueAt}
use Rattle.corner_ends.specs.Runs.{IsBestEnd}
use Rattle.corner_lines.specs.Shifts.{with_constant}
use Rattle.sweep_laws.specs.Stretches.{AreAllValues, IsRightPiece}
use Rattle.sweep_laws.proofs.Costs.{IsEachCorner, none-between}
use Rattle.sweep_laws.proofs.Mixtures.{values_between}
use Rattle.sweep_laws.proofs.Pieces.{corner_is_piece}
use Rattle.sweep_laws.proofs.SeenAlike.{columns_at_each}
use Rattle.sweep_run.specs.declared.ways.Place.{Place}
use Rattle.sweep_run.specs.declared.ways.Way.{Way}
use Rattle.sweep_run.specs.Values.{AreValuesAt}
use Rattle.sweep_run.specs.Ways.{IsNoLater, IsPlace, IsReached}
use Rattle.sweep_run.proofs.Orders.{no_later_trans}
use Rattle.sweep_run.proofs.Shares.{points-agree}

-- ---- between

pub best_between : (p : Problem) (row : ℕ) (at : List Mark) → IsEachCorner p row at → (up : Bool) (a b w : Fraction) → 0 < a.den → 0 < b.den → 0 < w.den → IsNoLater up a w → IsNoLater up w b → IsBestEnd (with_constant row a p) at → IsBestEnd (with_constant row b p) at
    → IsBestEnd (with_constant row w p) at
best_between p row at corner true a b w ha hb hw low high first last = record {
  values = values_between p row at a b w ha hb hw low high first.values last.values;
  columns = columns_at_each p row at a w first.columns;
  required = none-between p row at a b w corner ha hb hw low high first.required last.required;
}
best_between p row at corner false a b w ha hb hw low high first last = record {
  values = values_between p row at b a w hb ha hw high low last.values first.values;
  columns = columns_at_each p row at a w first.columns;
  required = none-between p row at b a w corner hb ha hw high low last.required first.required;
}

pub reached_between : (p : Problem) (way : Way) (at : List Mark) → IsEachCorner p way.row at → (a b place : Place) → IsReached p way at a → IsReached p way at b → IsPlace way.up way.end place → IsNoLater way.up a.width place.width → IsNoLater way.up place.width b.width → IsReached p way at place
reached_between p way at corner a b place first last is low high = record {
  is = is;
  on_way = no_later_trans way.up way.first.width a.width place.width first.is.width.lowest.above first.on_way low;
  best = best_between p way.row at corner way.up a.width b.width place.width first.is.width.lowest.above last.is.width.lowest.above is.width.lowest.above low high first.best last.best;
}

-- ---- the values of the corner's point

value-here : (q : Problem) (at : List Mark) (corner : IsCorner q at) (attr : ℕ) (f : Fraction) → HasStay q.stays attr → HasValueAt q at (attr_column attr) f → corner.point.num (attr_column attr) *ℤ pos f.den ≡ f.num *ℤ pos (nat_abs (corner.point.num one_column))
value-here q at corner attr f (i, s, within, is, e) (z, stands, value) =
    let agree : Agree (attr_column attr) corner.point z = subst (λ (n : ℕ). Agree (attr_column n) corner.point z) (ap (λ (t : Stay). t.attr) is ∙ e) (corner.attrs_fixed z stands i s within) in
    *ℤ_comm (corner.point.num (attr_column attr)) (pos f.den)
    ∙ points-agree f.den (z.num (attr_column attr)) (z.num one_column) (corner.point.num (attr_column attr)) f.num (corner.point.num one_column) z.positive (sym agree) value
    ∙ ap (λ (y : ℤ). f.num *ℤ y) (sym (abs_same (corner.point.num one_column) corner.point.positive))

pub gives_at : (q : Problem) (at : List Mark) (corner : IsCorner q at) (values : List (ℕ × Fraction)) → AreValuesAt q at values → Gives values (assignment_at corner.point)
gives_at q at corner values are =
    All-from_recursion (λ (v : ℕ × Fraction). corner.point.num (attr_column v.0) *ℤ pos v.1.den ≡ v.1.num *ℤ pos (nat_abs (corner.point.num one_column))) values
    (each-impl (λ (v : ℕ × Fraction). HasStay q.stays v.0 × HasValueAt q at (attr_column v.0) v.1) (λ (v : ℕ × Fraction). corner.point.num (attr_column v.0) *ℤ pos v.1.den ≡ v.1.num *ℤ pos (nat_abs (corner.point.num one_column))) values
    (λ v h. value-here q at corner v.0 v.1 h.0 h.1)
    (each-both (λ (v : ℕ × Fraction). HasStay q.stays v.0) (λ (v : ℕ × Fraction). HasValueAt q at (attr_column v.0) v.1) values
    (each-from_map (HasStay q.stays) (λ (v : ℕ × Fraction). v.0) values
    (recursion_from_All (HasStay q.stays) (map (λ (v : ℕ × Fraction). v.0) values) (all_held q.stays (map (λ (v : ℕ × Fraction). v.0) values) are.all.attributes)))
    (recursion_from_All (λ (v : ℕ × Fraction). HasValueAt q at (attr_column v.0) v.1) values are.there)))

-- ---- the piece

-- the piece from the one to the other is right, or on the way down that from the other to the one
abbrev pub IsRightBetween : Problem → ℕ → Bool → Fraction → Fraction → List (ℕ × Fraction) → List (ℕ × Fraction) → Type 0
IsRightBetween p row true a b at_a at_b = IsRightPiece p row a b at_a at_b
IsRightBetween p row false a b at_a at_b = IsRightPiece p row b a at_b at_a

plain-values : (p : Problem) (row : ℕ) (a : Fraction) (values : List (ℕ × Fraction)) → AreAllValues (with_constant row a p) values → AreAllValues p values
plain-values p row a values h = record { attributes = h.attributes; kept = h.kept }

module _ (p : Problem) (row : ℕ) (at : List Mark) (whole : IsWhole p) (corner : IsEachCorner p row at) where
  upwards : (a b : Fraction) (at_a at_b : List (ℕ × Fraction)) → IsKept a → IsKept b → IsNoLater true a b → IsBestEnd (with_constant row a p) at → IsBestEnd (with_constant row b p) at → AreValuesAt (with_constant row a p) at at_a → AreValuesAt (with_constant row b p) at at_b → IsRightPiece p row a b at_a at_b
  upwards a b at_a at_b ha hb rises first last va vb =
      let ca = corner a ha.lowest.above in
      let cb = corner b hb.lowest.above in
      corner_is_piece p row at a b ca.point cb.point at_a at_b whole ha.lowest hb.lowest rises ca first.columns ca.stands cb.stands first.values last.values first.required last.required
      (plain-values p row a at_a va.all) (gives_at (with_constant row a p) at ca at_a va) (plain-values p row b at_b vb.all) (gives_at (with_constant row b p) at cb at_b vb)

  pub right_between : (up : Bool) (a b : Fraction) (at_a at_b : List (ℕ × Fraction)) → IsKept a → IsKept b → IsNoLater up a b → IsBestEnd (with_constant row a p) at → IsBestEnd (with_constant row b p) at → AreValuesAt (with_constant row a p) at at_a → AreValuesAt (with_constant row b p) at at_b
      → IsRightBetween p row up a b at_a at_b
  right_between true a b at_a at_b ha hb order first last va vb = upwards a b at_a at_b ha hb order first last va vb
  right_between false a b at_a at_b ha hb order first last va vb = upwards b a at_b at_a hb ha order last first vb va
