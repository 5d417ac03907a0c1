-- What is kept at a slide's end.
use Rattle.std.proofs.Common.{◌≡◌, ℕ, subst, Any}
use Rattle.frac_core.specs.Fraction.{Fraction, IsKept}
use Rattle.problem_core.specs.Kept.{IsRow, IsWhole}
use Rattle.problem_core.specs.Layout.{Problem, Row}
use Rattle.corner_view.specs.Seen.{CornerView}
use Rattle.sweep_run.specs.declared.ways.Way.{Way}
use Rattle.sweep_run.specs.Ways.{IsAtEnd, there}
use Rattle.sweep_run.proofs.Moves.{HasOwn, still}

-- the row's constant, which is that of the end
pub end_kept : (p : Problem) (row : ℕ) (e : Fraction) → IsWhole p → Any (λ r. r.id ≡ row) p.rows → HasOwn p row e → IsKept e
end_kept p row e whole (i, r, within, is, same) own =
    let row-is : IsRow r = subst IsRow is (whole.rows i r within) in
    let constant : r.constant ≡ e = subst (λ (s : Row). s.id ≡ row → s.constant ≡ e) is (own i r within) same in
    subst IsKept constant row-is.constant

module _ (way : Way) (c : CornerView) (at_end : IsAtEnd way c) where
  pub end_is_kept : IsKept way.end
  end_is_kept = end_kept c.problem way.row way.end at_end.whole at_end.held at_end.constant

  pub there_is_here : there c.problem way way.end ≡ c.problem
  there_is_here = still c.problem way.row way.end at_end.constant
