-- What a sweep of the window's width asks for.
use Rattle.std.proofs.Common.{◌≡◌, ◌<◌, ℕ, zero, Bool, true, false, cond, Some, List, [], ◌∷◌, ◌++◌, get_or, refl, sym, ap, subst, arith, mul-pos}
use Rattle.std.specs.List.{Contains}
use Rattle.std.proofs.lemmas.List.Elements.{Contains-append_left, Contains-append_right}
use Rattle.std.proofs.lemmas.Option.{none-some, same_Some}
use Rattle.frac_core.specs.Fraction.{Fraction}
use Rattle.problem_core.specs.declared.parts.Rel.TheVariants.{Eq}
use Rattle.problem_core.specs.declared.parts.Stay.{Stay}
use Rattle.problem_core.specs.Kept.{IsRow, IsWhole}
use Rattle.problem_core.specs.Layout.{Problem, Row}
use Rattle.problem_core.specs.Window.{required_row}
use Rattle.view_tree.specs.Attributes.{width_of}
use Rattle.compile_parts.specs.Fractions.{negated, plus}
use Rattle.compile_parts.specs.Meaning.{MetricList}
use Rattle.corner_view.specs.Changes.{IsNear}
use Rattle.layout_solver.specs.Layouts.{IsKeptLayout, Layout, stays_at}
use Rattle.held_items.specs.Items.{AreItemRows, AreRows, Intrinsic, Item, OfLine, OfView, OfWindow, Size, Sized, Suggested, is_size, own_size, size_of}
use Rattle.held_items.specs.Moving.{FitsAfter}
use Rattle.held_items.proofs.Constants.Nears.{fits, less-num}
use Rattle.held_items.proofs.Constants.ShiftedRows.{near-at}
use Rattle.sweep_laws.specs.Fractions.{IsFittingDifference}
use Rattle.sweep_param.specs.Sweeps.{HasSolution, IsSweptRow}
use Rattle.scenes.specs.Sweeping.{IsFarSweep}

-- ---- the row of the width

abbrev width_row : ℕ → Fraction → Row
width_row first width = required_row first (width_of 0) Eq width

abbrev row_in : Size → Row
row_in s = width_row s.first_row s.width

module _ (ms : MetricList) (s : Size) where
  own-width : (item : Item) (rows : List Row) → own_size item ≡ Some s → AreItemRows ms item rows → Contains rows (row_in s)
  own-width OfWindow rows some are = absurd (none-some s some)
  own-width (OfView first id) rows some are = absurd (none-some s some)
  own-width (OfLine group line) rows some are = absurd (none-some s some)
  own-width (Suggested own) rows some are = absurd (none-some s some)
  own-width (Intrinsic own) rows some are = absurd (none-some s some)
  own-width (Sized first w h) rows some are =
      subst (λ (rs : List Row). Contains rs (row_in s)) (sym are)
      (zero, omega arith, ap row_in (same_Some (record { first_row = first; width = w; height = h }) s some))

  width-held : (held : List Item) (rows : List Row) → AreRows ms held rows → size_of held ≡ Some s → Contains rows (row_in s)
  width-held [] rows are some = absurd (none-some s some)
  width-held (item ∷ held) rows (front, back, joined, first, rest) some =
      subst (λ (rs : List Row). Contains rs (row_in s)) (sym joined) (by (is_size item) some (width-held held back rest))
    where
      by : (b : Bool) → cond b (own_size item) (size_of held) ≡ Some s → (size_of held ≡ Some s → Contains back (row_in s)) → Contains (front ++ back) (row_in s)
      by true h later = Contains-append_left front back (row_in s) (own-width item front h first)
      by false h later = Contains-append_right front back (row_in s) (later h)

-- ---- what fits

-- what is not far fits: the widths after the present one, and the one after the other
record AreFitting (before from to : Fraction) : Type 0 where
  from_fits : FitsAfter before from
  to_fits : FitsAfter before to
  wide : FitsAfter from to

are-fitting : (held : List Item) (from to : Fraction) (s : Size) → size_of held ≡ Some s → 0 < s.width.den → 0 < from.den → 0 < to.den → (IsFarSweep held from to → ⊥) → AreFitting s.width from to
are-fitting held from to s some before_above from_above to_above near = record {
  from_fits = fits (plus from (negated s.width)) (mul-pos from_above before_above) (λ never. near (s, some, (λ all. never all.0)));
  to_fits = fits (plus to (negated s.width)) (mul-pos to_above before_above) (λ never. near (s, some, (λ all. never all.1)));
  wide = fits (plus to (negated from)) (mul-pos to_above from_above) (λ never. near (s, some, (λ all. never all.2)));
}

pub fits-above : (from to : Fraction) → FitsAfter from to → IsFittingDifference to from
fits-above from to is = (is.sum, record { lowest = is.lowest; fits = is.fits }, rw (less-num to from) is.value)

-- ---- what is asked for

-- what the sweep of a problem of these rows asks for
pub record MaySweep (p : Problem) (row : ℕ) (from to : Fraction) : Type 0 where
  pub row_is : IsSweptRow p row
  pub from_near : IsNear p row from
  pub to_near : IsNear p row to
  pub wide : IsFittingDifference to from

module _ (ms : MetricList) (held : List Item) (p : Problem) (stays : List Stay) (from to : Fraction) (s : Size) where
  pub may-sweep : AreRows ms held p.rows → size_of held ≡ Some s → IsWhole p → 0 < from.den → 0 < to.den → (IsFarSweep held from to → ⊥)
      → MaySweep (record { rows = p.rows; stays = stays }) s.first_row from to
  may-sweep are some whole from_above to_above near =
      let has : Contains p.rows (row_in s) = width-held ms s held p.rows are some in
      let here : get_or p.rows has.0 (row_in s) ≡ row_in s = has.2 in
      let row : IsRow (row_in s) = subst IsRow here (whole.rows has.0 (row_in s) has.1) in
      let all : AreFitting s.width from to = are-fitting held from to s some row.constant.lowest.above from_above to_above near in record {
        row_is = (has.0, row_in s, has.1, here, (refl, refl, refl, refl));
        from_near = near-at (record { rows = p.rows; stays = stays }) has.0 (row_in s) from whole.rising has.1 here row.constant.lowest.above from_above all.from_fits;
        to_near = near-at (record { rows = p.rows; stays = stays }) has.0 (row_in s) to whole.rising has.1 here row.constant.lowest.above to_above all.to_fits;
        wide = fits-above from to all.wide;
      }

-- the present values satisfy the rows
pub values-satisfy : (l : Layout) → IsKeptLayout l → HasSolution (record { rows = l.problem.rows; stays = stays_at l.values })
values-satisfy l kept = (kept.best.best.0, kept.best.best.1.0)
