-- What is behind a slide at a place.
use Rattle.std.proofs.Common.{◌≡◌, ◌∙◌, inl, inr, ℕ, ◌<◌, Bool, true, false, List, [], ◌∷◌, ◌++◌, refl, sym, ap, subst, All}
use Rattle.std.specs.declared.option.Option.{Option}
use Rattle.std.specs.Prelude.{Some, None, IfSome}
use Rattle.std.proofs.lemmas.List.Elements.{All-push, recursion_from_All}
use Rattle.frac_core.specs.Fraction.{Fraction}
use Rattle.problem_core.specs.declared.parts.Mark.{Mark}
use Rattle.problem_core.specs.Kept.{IsWhole}
use Rattle.problem_core.specs.Layout.{Problem}
use Rattle.corner_view.specs.Seen.{CornerView}
use Rattle.sweep_laws.specs.Stretches.{AreRight, IsLong, IsPieceOf, Stretch}
use Rattle.sweep_laws.proofs.Costs.{IsEachCorner}
use Rattle.sweep_run.specs.declared.slides.Slid.{Slid}
use Rattle.sweep_run.specs.declared.ways.Place.{Place}
use Rattle.sweep_run.specs.declared.ways.Way.{Way}
use Rattle.sweep_run.specs.Slides.{CoverTo, HasEntered, HasShown, IsAtPlace, IsPieceMore, IsShownFrom, piece_between, rising}
use Rattle.sweep_run.specs.Told.{stretches_of}
use Rattle.sweep_run.specs.Values.{AreValuesAt}
use Rattle.sweep_run.specs.Ways.{ComesBefore, IsNoLater, IsReached, there}
use Rattle.sweep_run.proofs.Between.{right_between}
use Rattle.sweep_run.proofs.Orders.{before_weakly, never_before, no_later_self, no_later_trans}
use Rattle.sweep_run.proofs.Rising.{cover_more, is_piece, piece_from_to, right_piece_more}

abbrev pub Values : Type 0
Values = List (ℕ × Fraction)

-- ---- a slid by its parts

pub record IsBehind (p : Problem) (way : Way) (at : List Mark) (to : Place) (values : Option Values) (ss : List Stretch) : Type 0 where
  pub reached : IsReached p way at to
  pub from : Fraction
  pub shown_from : IsShownFrom way from
  pub shown : HasShown p way at to values ss
  pub covers : IfSome values (λ v. CoverTo way.up from to.width ss)
  pub right : AreRight p way.row true (rising way.up ss)
  pub pieces : All IsPieceOf ss
  pub long : All IsLong ss

pub behind_of : (p : Problem) (way : Way) (at : List Mark) (slid : Slid) → IsAtPlace p way at slid → IsBehind p way at slid.at slid.values (stretches_of slid.stretches.items)
behind_of p way at slid h = record { reached = h.reached; from = h.from; shown_from = h.shown_from; shown = h.shown; covers = h.covers; right = h.right; pieces = h.pieces; long = h.long }

pub at_place_of : (p : Problem) (way : Way) (at : List Mark) (slid : Slid) → IsBehind p way at slid.at slid.values (stretches_of slid.stretches.items) → IsAtPlace p way at slid
at_place_of p way at slid h = record { reached = h.reached; from = h.from; shown_from = h.shown_from; shown = h.shown; covers = h.covers; right = h.right; pieces = h.pieces; long = h.long }

pub at_place_by : (p : Problem) (way : Way) (at : List Mark) (slid : Slid) (to : Place) (values : Option Values) (ss : List Stretch) → slid.at ≡ to → slid.values ≡ values → stretches_of slid.stretches.items ≡ ss → IsBehind p way at to values ss → IsAtPlace p way at slid
at_place_by p way at slid to values ss a b d h =
    at_place_of p way at slid
    (subst (λ (w : Place). IsBehind p way at w slid.values (stretches_of slid.stretches.items)) (sym a)
    (subst (λ (v : Option Values). IsBehind p way at to v (stretches_of slid.stretches.items)) (sym b)
    (subst (λ (xs : List Stretch). IsBehind p way at to values xs) (sym d) h)))

never-some : (values : Values) → Some values ≡ None → ⊥
never-some values = λ e. cc

-- ---- before the way is shown

-- the way isn't shown yet
unshown : (p : Problem) (way : Way) (at : List Mark) (w : Place) (values : Option Values) (ss : List Stretch) → HasShown p way at w values ss → ComesBefore way.up w.width way.near.width → (values ≡ None) × (ss ≡ [])
unshown p way at w None ss h before = (refl, h.1)
unshown p way at w (Some values) ss h before = absurd (never_before way.up w.width way.near.width before h.0)

hidden-shown : (p : Problem) (way : Way) (at : List Mark) (w to : Place) (values : Option Values) (ss : List Stretch) → HasShown p way at w values ss → 0 < w.width.den → IsNoLater way.up w.width to.width → ComesBefore way.up to.width way.near.width → HasShown p way at to values ss
hidden-shown p way at w to None ss h some later before = (before, h.1)
hidden-shown p way at w to (Some values) ss h some later before = absurd (never_before way.up to.width way.near.width before (no_later_trans way.up way.near.width w.width to.width some h.0 later))

hidden-covers : (p : Problem) (way : Way) (at : List Mark) (to : Place) (from : Fraction) (values : Option Values) (ss : List Stretch) → HasShown p way at to values ss → ComesBefore way.up to.width way.near.width → IfSome values (λ v. CoverTo way.up from to.width ss)
hidden-covers p way at to from None ss h before = tt
hidden-covers p way at to from (Some values) ss h before = absurd (never_before way.up to.width way.near.width before h.0)

-- a place further on that isn't shown either
pub hidden_at : (p : Problem) (way : Way) (at : List Mark) (old new : Slid) (to : Place) → IsAtPlace p way at old → IsReached p way at to → IsNoLater way.up old.at.width to.width → ComesBefore way.up to.width way.near.width → new.at ≡ to → new.values ≡ old.values → new.stretches.items ≡ old.stretches.items
    → IsAtPlace p way at new
hidden_at p way at old new to h reached later before a b d =
    let shown = hidden-shown p way at old.at to old.values (stretches_of old.stretches.items) h.shown h.reached.is.width.lowest.above later before in
    at_place_by p way at new to old.values (stretches_of old.stretches.items) a b (ap stretches_of d) (record {
      reached = reached;
      from = h.from;
      shown_from = h.shown_from;
      shown = shown;
      covers = hidden-covers p way at to h.from old.values (stretches_of old.stretches.items) shown before;
      right = h.right;
      pieces = h.pieces;
      long = h.long;
    })

-- ---- where the way begins to be shown

-- what is shown is shown from `near` on, if the place reached comes before that
pub from_near : (way : Way) (from w : Fraction) → 0 < way.first.width.den → IsShownFrom way from → IsNoLater way.up way.first.width w → ComesBefore way.up w way.near.width → from ≡ way.near.width
from_near way from w some (inl (shown, e)) later before = absurd (never_before way.up w way.near.width before (no_later_trans way.up way.near.width way.first.width w some shown later))
from_near way from w some (inr (hidden, e)) later before = e

pub none_shown : (p : Problem) (way : Way) (at : List Mark) (w : Place) (values : Option Values) (ss : List Stretch) → values ≡ None → HasShown p way at w values ss → ComesBefore way.up w.width way.near.width × (ss ≡ [])
none_shown p way at w None ss e h = h
none_shown p way at w (Some values) ss e h = absurd (never-some values e)

some-none : (o : Option Values) (values : Values) → o ≡ Some values → o ≡ None → ⊥
some-none o values e f = never-some values (sym e ∙ f)

cover-none : (up : Bool) (a : Fraction) (ss : List Stretch) (b : Fraction) → ss ≡ [] → b ≡ a → CoverTo up b a ss
cover-none up a ss b e same = subst (CoverTo up b a) (sym e) same

pub entered_at : (c : CornerView) (way : Way) (old new : Slid) (values : Values) → 0 < way.first.width.den → IsAtPlace c.problem way c.marks old → old.values ≡ None → IsReached c.problem way c.marks way.near → AreValuesAt (there c.problem way way.near.width) c.marks values → new.at ≡ way.near → new.values ≡ Some values
    → new.stretches.items ≡ old.stretches.items → HasEntered c way old new
entered_at c way old new values first h none reached are a b d =
    let hidden = none_shown c.problem way c.marks old.at old.values (stretches_of old.stretches.items) none h.shown in
    let same : h.from ≡ way.near.width = from_near way h.from old.at.width first h.shown_from h.reached.on_way hidden.0 in
    record {
      was = subst (λ (o : Option Values). IfSome o (λ v. new ≡ old)) (sym none) tt;
      begins = λ e. a;
      some = λ e. some-none new.values values b e;
      behind = at_place_by c.problem way c.marks new way.near (Some values) (stretches_of old.stretches.items) a b (ap stretches_of d) (record {
        reached = reached;
        from = h.from;
        shown_from = h.shown_from;
        shown = (no_later_self way.up way.near.width, are);
        covers = cover-none way.up way.near.width (stretches_of old.stretches.items) h.from hidden.1 same;
        right = h.right;
        pieces = h.pieces;
        long = h.long;
      });
    }

-- or it was shown before
pub entered_before : (c : CornerView) (way : Way) (old : Slid) → IsAtPlace c.problem way c.marks old → (old.values ≡ None → ⊥) → HasEntered c way old old
entered_before c way old h shown = record { was = still old.values; begins = λ e. absurd (shown e); some = shown; behind = h }
  where
    still : (o : Option Values) → IfSome o (λ v. old ≡ old)
    still None = tt
    still (Some values) = refl

-- ---- a piece more

is_long : (up : Bool) (a b : Fraction) (at_a at_b : Values) → ComesBefore up a b → IsLong (piece_between up a b at_a at_b)
is_long true a b at_a at_b less = less
is_long false a b at_a at_b less = less

module _ (p : Problem) (way : Way) (at : List Mark) (whole : IsWhole p) (corner : IsEachCorner p way.row at) where
  more-behind : (w to : Place) (before values : Values) (ss : List Stretch) → IsBehind p way at w (Some before) ss → IsReached p way at to → ComesBefore way.up w.width to.width → AreValuesAt (there p way to.width) at values
      → IsBehind p way at to (Some values) (ss ++ piece_between way.up w.width to.width before values ∷ [])
  more-behind w to before values ss h reached less are = record {
    reached = reached;
    from = h.from;
    shown_from = h.shown_from;
    shown = (no_later_trans way.up way.near.width w.width to.width h.reached.is.width.lowest.above h.shown.0 (before_weakly way.up w.width to.width less), are);
    covers = cover_more way.up h.from w.width to.width ss (piece_between way.up w.width to.width before values) h.covers (piece_from_to way.up w.width to.width before values);
    right = right_piece_more p way.row way.up ss w.width to.width before values (recursion_from_All IsPieceOf ss h.pieces) h.right
        (right_between p way.row at whole corner way.up w.width to.width before values h.reached.is.width reached.is.width (before_weakly way.up w.width to.width less) h.reached.best reached.best h.shown.1 are);
    pieces = All-push IsPieceOf ss (piece_between way.up w.width to.width before values) h.pieces (is_piece way.up w.width to.width before values);
    long = All-push IsLong ss (piece_between way.up w.width to.width before values) h.long (is_long way.up w.width to.width before values less);
  }

  pub more_at : (old new : Slid) (to : Place) (values : Values) → IsAtPlace p way at old → (old.values ≡ None → ⊥) → IsReached p way at to → ComesBefore way.up old.at.width to.width → AreValuesAt (there p way to.width) at values → IsPieceMore way old to values new → IsAtPlace p way at new
  more_at old new to values h shown reached less are more = by_case old.values refl
    where
      by_case : (o : Option Values) → old.values ≡ o → IsAtPlace p way at new
      by_case None e = absurd (shown e)
      by_case (Some before) e =
          at_place_by p way at new to (Some values) (stretches_of old.stretches.items ++ piece_between way.up old.at.width to.width before values ∷ []) more.at_is more.values_are
          (subst (λ (o : Option Values). IfSome o (λ v. stretches_of new.stretches.items ≡ stretches_of old.stretches.items ++ piece_between way.up old.at.width to.width v values ∷ [])) e more.more)
          (more-behind old.at to before values (stretches_of old.stretches.items)
          (subst (λ (o : Option Values). IsBehind p way at old.at o (stretches_of old.stretches.items)) e (behind_of p way at old h)) reached less are)
