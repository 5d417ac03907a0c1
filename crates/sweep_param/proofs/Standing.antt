-- All constants asked for are the present one.
use Rattle.std.proofs.Common.{◌≡◌, ◌∙◌, inl, inr, ℕ, true, ◌<◌, List, [], ◌∷◌, ◌++◌, refl, sym, ap, subst, All}
use Rattle.frac_core.specs.Fraction.{Fraction, IsKept}
use Rattle.problem_core.specs.declared.parts.Mark.{Mark}
use Rattle.problem_core.specs.Layout.{Problem}
use Rattle.problem_core.specs.Corners.{IsCorner}
use Rattle.corner_view.specs.Seen.{IsKeptCorner}
use Rattle.corner_ends.specs.Runs.{IsBestEnd}
use Rattle.corner_lines.specs.Shifts.{with_constant}
use Rattle.sweep_laws.specs.Fractions.{IsNoMore}
use Rattle.sweep_laws.specs.Stretches.{IsRightPiece, IsSweep, Piece, Stretch}
use Rattle.sweep_run.specs.Told.{stretch_of, stretches_of}
use Rattle.sweep_run.specs.declared.stretches.Stretch as declared
use Rattle.sweep_laws.proofs.EachCorner.{corner_at_each}
use Rattle.sweep_run.specs.Values.{AreValuesAt}
use Rattle.sweep_run.proofs.Between.{right_between}
use Rattle.sweep_run.proofs.Orders.{no_later_trans}
use Rattle.sweep_param.specs.declared.sweeps.Range.{Range}
use Rattle.sweep_param.specs.Joining.{IsRangeOf}
use Rattle.sweep_param.proofs.Assembled.{assembled}
use Rattle.sweep_param.proofs.Constants.{constant_here, no_more_self}
use Rattle.sweep_param.proofs.Halves.{no-clash, no-piece}
use Rattle.sweep_param.proofs.Joined.{equal-both}

no_more_trans : (a b c : Fraction) → 0 < b.den → IsNoMore a b → IsNoMore b c → IsNoMore a c
no_more_trans a b c hb h k = no_later_trans true a b c hb h k

module _ (p : Problem) (at : List Mark) (r : Range) (kept : IsKeptCorner p at) (end : IsBestEnd p at) (range : IsRangeOf p r) (low : IsKept r.present) (values : List (ℕ × Fraction)) (are : AreValuesAt p at values) where
  here : with_constant r.row r.present p ≡ p
  here = constant_here p r.row r.present kept.whole range.held

  one-piece : IsRightPiece p r.row r.present r.present values values
  one-piece =
      let corner : IsCorner (with_constant r.row r.present p) at = subst (λ (q : Problem). IsCorner q at) (sym here) kept.corner in
      let best : IsBestEnd (with_constant r.row r.present p) at = subst (λ (q : Problem). IsBestEnd q at) (sym here) end in
      let there : AreValuesAt (with_constant r.row r.present p) at values = subst (λ (q : Problem). AreValuesAt q at values) (sym here) are in
      right_between p r.row at kept.whole (λ w above. corner_at_each p r.row at r.present w kept.whole low.lowest.above above corner) true r.present r.present values values low low (no_more_self r.present) best best there there

  pub stood_sweep : IsKept r.from → IsKept r.to → IsNoMore r.to r.present → IsNoMore r.present r.from → IsSweep p r.row r.from r.to (Piece r.present r.present values values ∷ [])
  stood_sweep low_from low_to up down =
      let from : r.present ≡ r.from = equal-both r.present r.from low.lowest low_from.lowest down (no_more_trans r.from r.to r.present low_to.lowest.above range.order up) in
      let to : r.present ≡ r.to = equal-both r.present r.to low.lowest low_to.lowest (no_more_trans r.present r.from r.to low_from.lowest.above down range.order) up in
      assembled p r.row r.from r.present r.to [] [] (Piece r.present r.present values values ∷ []) [] [] (one-piece, tt)
      (record {
        down = sym from;
        here = (refl, refl);
        up = to;
        one_before = no-clash;
        one_behind = no-clash;
        first_are = no-piece;
        second_are = no-piece;
        lone_is = (tt, tt);
        only = inr (refl, refl, refl);
        apart = λ e. inl refl;
        long = inl refl;
        some = λ e. cc;
      })

-- one stretch is put
pub alone_put : (out items : List declared.Stretch) (s : declared.Stretch) (t : Stretch) → out ≡ [] → items ≡ out ++ (s ∷ []) → stretch_of s ≡ t → stretches_of items ≡ t ∷ []
alone_put out items s t none put is = ap stretches_of (put ∙ ap (λ (xs : List declared.Stretch). xs ++ (s ∷ [])) none) ∙ ap (λ (u : Stretch). u ∷ []) is
