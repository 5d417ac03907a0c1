-- A slide goes on to a place at which the corner is still the best one.
use Rattle.std.proofs.Common.{◌≡◌, inl, inr, ℕ, ◌<◌, ◌≤◌, List, length, refl, sym, subst}
use Rattle.std.specs.declared.option.Option.{Option}
use Rattle.std.specs.Prelude.{Some, None, IfSome}
use Rattle.problem_core.specs.declared.parts.Mark.{Mark}
use Rattle.problem_core.specs.Layout.{Problem}
use Rattle.problem_core.specs.Corners.{IsCorner}
use Rattle.corner_view.specs.Seen.{CornerView}
use Rattle.corner_ends.specs.Trails.{Trail}
use Rattle.sweep_laws.specs.Fractions.{IsLess, IsNoMore}
use Rattle.sweep_laws.proofs.Costs.{IsEachCorner}
use Rattle.sweep_laws.proofs.EachCorner.{corner_at_each}
use Rattle.sweep_run.specs.declared.slides.Slid.{Slid}
use Rattle.sweep_run.specs.declared.stretches.SweepStop.{SweepStop}
use Rattle.sweep_run.specs.declared.ways.Place.{Place}
use Rattle.sweep_run.specs.declared.ways.Way.{Way}
use Rattle.sweep_run.specs.Slides.{HasEntered, IsAtPlace, IsPieceMore, IsReadStop, IsSlideStop, IsSlidingFrom, MayAdvance, MayBeTold}
use Rattle.sweep_run.specs.Told.{stretches_of}
use Rattle.sweep_run.specs.Values.{AreValuesAt}
use Rattle.sweep_run.specs.Ways.{ComesBefore, IsAtEnd, IsNoLater, IsReached, there}
use Rattle.sweep_run.proofs.Between.{reached_between}
use Rattle.sweep_run.proofs.EndFacts.{end_is_kept, there_is_here}
use Rattle.sweep_run.proofs.Orders.{before_weakly, earlier_place, no_earlier_place, no_later_self, no_later_trans, one_constant, then_before}
use Rattle.sweep_run.proofs.Standing.{Values, hidden_at, more_at, none_shown}
use Rattle.sweep_run.proofs.Stopping.{MayTell, read_stop}

module _ (c : CornerView) (way : Way) (at_end : IsAtEnd way c) where
  he : 0 < way.end.den
  he = (end_is_kept way c at_end).lowest.above

  -- the marks are a corner with each constant
  pub each_corner : IsCorner c.problem c.marks → IsEachCorner c.problem way.row c.marks
  each_corner corner f hf = corner_at_each c.problem way.row c.marks way.end f at_end.whole he hf (subst (λ (k : Problem). IsCorner k c.marks) (sym (there_is_here way c at_end)) corner)

  -- the place isn't shown yet
  pub advanced_hidden : (old new : Slid) (to : Place) → IsAtPlace c.problem way c.marks old → MayAdvance c way old to → IsLess way.near.back to.back → new.at ≡ to → new.values ≡ old.values → new.stretches.items ≡ old.stretches.items → IsAtPlace c.problem way c.marks new
  advanced_hidden old new to h may less a b d = hidden_at c.problem way c.marks old new to h may.reached may.later (earlier_place way.up way.end to way.near he may.reached.is at_end.parts.near_place less) a b d

  near-before : (slid : Slid) (to : Place) → MayAdvance c way slid to → IsNoMore to.back way.near.back → IsNoLater way.up way.near.width to.width
  near-before slid to may shown = no_earlier_place way.up way.end to way.near he may.reached.is at_end.parts.near_place shown

  -- where the way begins to be shown the corner is still the best one
  pub near_reached : IsCorner c.problem c.marks → (slid : Slid) (to : Place) → IsAtPlace c.problem way c.marks slid → MayAdvance c way slid to → IsNoMore to.back way.near.back → slid.values ≡ None → IsReached c.problem way c.marks way.near
  near_reached corner slid to h may shown none =
      reached_between c.problem way c.marks (each_corner corner) slid.at to way.near h.reached may.reached at_end.parts.near_place
      (before_weakly way.up slid.at.width way.near.width (none_shown c.problem way c.marks slid.at slid.values (stretches_of slid.stretches.items) none h.shown).0) (near-before slid to may shown)

  pub enter_stop : (first : List Mark) (trail : Trail) (slid : Slid) (budget : ℕ) → IsSlidingFrom first c way trail slid → length trail.swaps ≤ budget → slid.values ≡ None → (stop : SweepStop) → IsReadStop c way trail way.near stop → IsSlideStop c.problem first way budget stop
  enter_stop first trail slid budget sliding few none stop read =
      let h = sliding.on_way.behind in
      let less = (none_shown c.problem way c.marks slid.at slid.values (stretches_of slid.stretches.items) none h.shown).0 in
      read_stop c way at_end first trail slid budget sliding few way.near at_end.parts.near_place
      (no_later_trans way.up way.first.width slid.at.width way.near.width h.reached.is.width.lowest.above h.reached.on_way (before_weakly way.up slid.at.width way.near.width less)) less (inr (inl refl)) stop read

  -- where the way is shown the slide is no earlier than before
  pub entered_later : (old new : Slid) → IsAtPlace c.problem way c.marks old → HasEntered c way old new → IsNoLater way.up old.at.width new.at.width
  entered_later old new h entered = by_case old.values refl
    where
      by_case : (o : Option Values) → old.values ≡ o → IsNoLater way.up old.at.width new.at.width
      by_case None e =
          subst (λ (w : Place). IsNoLater way.up old.at.width w.width) (sym (entered.begins e))
          (before_weakly way.up old.at.width way.near.width (none_shown c.problem way c.marks old.at old.values (stretches_of old.stretches.items) e h.shown).0)
      by_case (Some values) e =
          let same : new ≡ old = subst (λ (o : Option Values). IfSome o (λ v. new ≡ old)) e entered.was in
          subst (λ (s : Slid). IsNoLater way.up old.at.width s.at.width) (sym same) (no_later_self way.up old.at.width)

  entered-no-later : (old new : Slid) (to : Place) → HasEntered c way old new → MayAdvance c way old to → IsNoMore to.back way.near.back → IsNoLater way.up new.at.width to.width
  entered-no-later old new to entered may shown = by_case old.values refl
    where
      by_case : (o : Option Values) → old.values ≡ o → IsNoLater way.up new.at.width to.width
      by_case None e = subst (λ (w : Place). IsNoLater way.up w.width to.width) (sym (entered.begins e)) (near-before old to may shown)
      by_case (Some values) e =
          let same : new ≡ old = subst (λ (o : Option Values). IfSome o (λ v. new ≡ old)) e entered.was in
          subst (λ (s : Slid). IsNoLater way.up s.at.width to.width) (sym same) may.later

  -- the place is that of the slide already
  pub there_already : (old new : Slid) (to : Place) → HasEntered c way old new → MayAdvance c way old to → IsNoMore to.back way.near.back → IsNoMore new.at.back to.back → new.at.width ≡ to.width
  there_already old new to entered may shown no_more =
      one_constant way.up new.at.width to.width entered.behind.reached.is.width may.reached.is.width (entered-no-later old new to entered may shown)
      (no_earlier_place way.up way.end new.at to he entered.behind.reached.is may.reached.is no_more)

  further : (new : Slid) (to : Place) → IsAtPlace c.problem way c.marks new → IsReached c.problem way c.marks to → IsLess to.back new.at.back → ComesBefore way.up new.at.width to.width
  further new to h reached less = earlier_place way.up way.end new.at to he h.reached.is reached.is less

  may-tell : (to : Place) → MayBeTold c way to.width → MayTell c way at_end to
  may-tell to (inl e) = inl e
  may-tell to (inr turns) = inr (inr turns)

  -- a value at the place doesn't fit
  pub advance_stop : (first : List Mark) (trail : Trail) (old new : Slid) (to : Place) (budget : ℕ) → IsSlidingFrom first c way trail old → length trail.swaps ≤ budget → HasEntered c way old new → MayAdvance c way old to → IsLess to.back new.at.back → (stop : SweepStop) → IsReadStop c way trail to stop
      → IsSlideStop c.problem first way budget stop
  advance_stop first trail old new to budget sliding few entered may less stop read =
      read_stop c way at_end first trail old budget sliding few to may.reached.is may.reached.on_way
      (then_before way.up old.at.width new.at.width to.width sliding.on_way.behind.reached.is.width.lowest.above (entered_later old new sliding.on_way.behind entered) (further new to entered.behind may.reached less)) (may-tell to may.told) stop read

  -- the piece up to the place is behind it
  pub advanced_more : IsCorner c.problem c.marks → (old mid new : Slid) (to : Place) (values : Values) → HasEntered c way old mid → MayAdvance c way old to → IsLess to.back mid.at.back → AreValuesAt (there c.problem way to.width) c.marks values → IsPieceMore way mid to values new → IsAtPlace c.problem way c.marks new
  advanced_more corner old mid new to values entered may less are more =
      more_at c.problem way c.marks at_end.whole (each_corner corner) mid new to values entered.behind entered.some may.reached (further mid to entered.behind may.reached less) are more
