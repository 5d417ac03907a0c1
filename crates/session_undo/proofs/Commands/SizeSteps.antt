-- What the sizes that views would like come to for the session, the first of a view, later ones, and one that leaves.
use Rattle.std.proofs.Common.{◌≡◌, ◌⊎◌, ℕ, Bool, true, false, cond, nat_eq, true≢false, List, [], ◌∷◌, Option, Some, None, IsSome, refl, sym, ap, subst, inl, inr, ◌∙◌}
use Rattle.std.proofs.lemmas.Bool.{eqb-true}
use Rattle.std.proofs.lemmas.Option.{none-some, same_Some}
use Rattle.frac_core.specs.Fraction.{Fraction}
use Rattle.span_text.specs.Objects.{Meant, object_view}
use Rattle.span_text.specs.declared.object.Object.{Object}
use Rattle.view_tree.specs.Views.{LiveView, view_named}
use Rattle.compile_parts.specs.Meaning.{IsRowRank, unknown_object}
use Rattle.compile_parts.specs.declared.stops.KindWord.TheVariants as kind
use Rattle.name_tables.specs.declared.stops.LimitWord.TheVariants as word
use Rattle.held_items.specs.declared.item.intrinsic.IntrinsicSize.{IntrinsicSize}
use Rattle.session_undo.specs.declared.wishes.NewIntrinsic.TheVariants as wished
use Rattle.held_items.specs.Items.{Intrinsic, Item, OfLine, OfView, OfWindow, Sized, Suggested, intrinsic_name, intrinsic_of}
use Rattle.held_items.specs.Moving.{FitsAfter}
use Rattle.scenes.specs.Drafts.{IsNearIntrinsic, IsNextIntrinsic}
use Rattle.scenes.specs.Leaving.{without_intrinsic}
use Rattle.scenes.specs.Scene.{Scene, with_intrinsic, with_preferred}
use Rattle.session_undo.specs.State.{State}
use Rattle.session_undo.specs.declared.changes.Ranks.{Ranks}
use Rattle.session_undo.specs.Replies.{Kind, Limit, Reply, Unknown}
use Rattle.session_undo.specs.Machine.{AreKnownPulls, IsCrowded, IsRankless, Sizes, SizesFor, TriedSize, TriedUnsize, UnlessPullsRankless, UnlessUnknown, hugging, intrinsic_at, resisting}
use Rattle.session_undo.specs.Adding.{AreRanks, IsFirstIntrinsic, IsHeldIntrinsic, IsIntrinsicFor, IsLaterIntrinsic, IsPulled, NoEnd, SizeStep}
use Rattle.held_items.proofs.HeldRows.Ranks.{rank-in-thousand}

-- ---- priorities

module _ (old : State) (hug resist : Option Meant) (F : Reply → State → Type 0) where
  pub hug-unknown : (reply : Reply) (new : State) → UnlessUnknown old (hugging hug) (λ r n. ⊥) reply new → UnlessPullsRankless old hug resist F reply new
  hug-unknown reply new (inl h) = inl h
  hug-unknown reply new (inr (a, never)) = absurd never

  pub resist-unknown : (reply : Reply) (new : State) → unknown_object old.scene.tree.views old.scene.metrics (hugging hug) ≡ None → UnlessUnknown old (resisting resist) (λ r n. ⊥) reply new
      → UnlessPullsRankless old hug resist F reply new
  resist-unknown reply new known (inl h) = inr ((λ other named. none-some other (sym known ∙ named)), inl h)
  resist-unknown reply new known (inr (a, never)) = absurd never

  pub pulls-rankless : AreKnownPulls old.scene hug resist → IsRankless old.scene (hugging hug) ⊎ IsRankless old.scene (resisting resist) → UnlessPullsRankless old hug resist F (Kind kind.Priority) old
  pulls-rankless known none = inr ((λ other named. none-some other (sym known.0 ∙ named)), inr ((λ other named. none-some other (sym known.1 ∙ named)), inl (none, refl, refl)))

  -- ranks that are found are no cause
  pub pulls-passed : (ranks : Ranks) (reply : Reply) (new : State) → AreKnownPulls old.scene hug resist → AreRanks old.scene hug resist ranks → F reply new → UnlessPullsRankless old hug resist F reply new
  pulls-passed ranks reply new known are h =
      inr ((λ other named. none-some other (sym known.0 ∙ named)), inr ((λ other named. none-some other (sym known.1 ∙ named)), inr (ranked, h)))
    where
      ranked : IsRankless old.scene (hugging hug) ⊎ IsRankless old.scene (resisting resist) → ⊥
      ranked (inl none) = none ranks.hug are.0
      ranked (inr none) = none ranks.resist are.1

-- where no priority is a cause, the same for what follows
pulls-map : (old : State) (hug resist : Option Meant) (F G : Reply → State → Type 0) (reply : Reply) (new : State) → (F reply new → G reply new) → UnlessPullsRankless old hug resist F reply new
    → UnlessPullsRankless old hug resist G reply new
pulls-map old hug resist F G reply new to (inl h) = inl h
pulls-map old hug resist F G reply new to (inr (a, inl h)) = inr (a, inl h)
pulls-map old hug resist F G reply new to (inr (a, inr (b, inl h))) = inr (a, inr (b, inl h))
pulls-map old hug resist F G reply new to (inr (a, inr (b, inr (c, h)))) = inr (a, inr (b, inr (c, to h)))

-- where a priority is meant one is written
meant-written : (o : Option Object) → IsSome (object_view o) → IsSome o
meant-written None some = absurd (true≢false (sym some))
meant-written (Some o) some = refl

pub none-meant : (hug resist : Option Object) → (IsSome hug ⊎ IsSome resist → ⊥) → IsSome (object_view hug) ⊎ IsSome (object_view resist) → ⊥
none-meant hug resist none (inl some) = none (inl (meant-written hug some))
none-meant hug resist none (inr some) = none (inr (meant-written resist some))

written-meant : (o : Option Object) → IsSome o → IsSome (object_view o)
written-meant None some = absurd (true≢false (sym some))
written-meant (Some o) some = refl

pub one-meant : (hug resist : Option Object) → IsSome hug ⊎ IsSome resist → IsSome (object_view hug) ⊎ IsSome (object_view resist)
one-meant hug resist (inl some) = inl (written-meant hug some)
one-meant hug resist (inr some) = inr (written-meant resist some)

-- ---- the size that a view has

-- what is found for a view is its size
pub own-view : (view : ℕ) (held : List Item) (s : IntrinsicSize) → intrinsic_of view held ≡ Some s → s.view ≡ view
own-view view [] s is = absurd (none-some s is)
own-view view (OfWindow ∷ more) s is = own-view view more s is
own-view view (OfView first_row id ∷ more) s is = own-view view more s is
own-view view (Sized first_row width height ∷ more) s is = own-view view more s is
own-view view (OfLine group line ∷ more) s is = own-view view more s is
own-view view (Suggested t ∷ more) s is = own-view view more s is
own-view view (Intrinsic t ∷ more) s is = by (nat_eq t.view view) refl is (own-view view more s)
  where
    by : (b : Bool) → nat_eq t.view view ≡ b → cond b (Some t) (intrinsic_of view more) ≡ Some s → (intrinsic_of view more ≡ Some s → s.view ≡ view) → s.view ≡ view
    by true same here later = subst (λ (u : IntrinsicSize). u.view ≡ view) (same_Some t s here) (eqb-true t.view view same)
    by false same there later = later there

-- ---- no cause is there

module _ (old : State) (name : List ℕ) (width height : Fraction) (hug resist : Option Meant) (s : IntrinsicSize) where
  pub first-size-passed : (End : Scene → Reply → State → Type 0) (reply : Reply) (new : State) → IsFirstIntrinsic old name width height hug resist s → End (with_intrinsic old.scene s) reply new
      → TriedSize old name width height hug resist End reply new
  first-size-passed End reply new first end =
      inr (
        (λ none. none-some first.view (sym none ∙ first.pulled.found)),
        pulls-passed old hug resist (SizesFor old name width height hug resist End) first.ranks reply new first.pulled.known first.pulled.are (
          first.view,
          first.pulled.found,
          first.ranks.hug,
          first.ranks.resist,
          first.pulled.are.0,
          first.pulled.are.1,
          subst (λ (held : Option IntrinsicSize). Sizes old first.view.id width height hug resist first.ranks.hug first.ranks.resist held End reply new) (sym first.none)
              (inr (first.room, subst (λ (t : IntrinsicSize). End (with_intrinsic old.scene t) reply new) first.is end)),
        ),
      )

  -- a later size is of its view
  later-view : (later : IsLaterIntrinsic old name width height hug resist s) → s.view ≡ later.view.id
  later-view later = ap (λ (t : IntrinsicSize). t.view) later.is ∙ own-view later.view.id old.scene.held later.before later.some

  pub later-size-passed : (End : Scene → Reply → State → Type 0) (reply : Reply) (new : State) → IsLaterIntrinsic old name width height hug resist s → End (with_preferred old.scene s.view s.width s.height) reply new
      → TriedSize old name width height hug resist End reply new
  later-size-passed End reply new later end =
      inr (
        (λ none. none-some later.view (sym none ∙ later.pulled.found)),
        pulls-passed old hug resist (SizesFor old name width height hug resist End) later.ranks reply new later.pulled.known later.pulled.are (
          later.view,
          later.pulled.found,
          later.ranks.hug,
          later.ranks.resist,
          later.pulled.are.0,
          later.pulled.are.1,
          subst (λ (held : Option IntrinsicSize). Sizes old later.view.id width height hug resist later.ranks.hug later.ranks.resist held End reply new) (sym later.some)
              (inr (later.plain, inr ((λ far. far later.near), moved))),
        ),
      )
    where
      moved : End (with_preferred old.scene later.view.id width height) reply new
      moved =
          subst (λ (w : Fraction). End (with_preferred old.scene later.view.id w height) reply new) (ap (λ (t : IntrinsicSize). t.width) later.is)
          (subst (λ (h : Fraction). End (with_preferred old.scene later.view.id s.width h) reply new) (ap (λ (t : IntrinsicSize). t.height) later.is)
          (subst (λ (n : ℕ). End (with_preferred old.scene n s.width s.height) reply new) (later-view later) end))

  -- ---- what the scene asks for

  pub first-size-next : IsFirstIntrinsic old name width height hug resist s → IsNextIntrinsic old.scene s
  first-size-next first = record {
    row = ap (λ (t : IntrinsicSize). t.first_row) first.is;
    resist = subst (λ (t : IntrinsicSize). IsRowRank t.resist) (sym first.is) (rank-in-thousand old.scene.tree.views old.scene.metrics (resisting resist) first.ranks.resist first.pulled.are.1);
    hug = subst (λ (t : IntrinsicSize). IsRowRank t.hug) (sym first.is) (rank-in-thousand old.scene.tree.views old.scene.metrics (hugging hug) first.ranks.hug first.pulled.are.0);
    name = name;
    view = first.view;
    found = first.pulled.found;
    same = ap (λ (t : IntrinsicSize). t.view) first.is;
  }

  pub later-size-near : IsLaterIntrinsic old name width height hug resist s → IsNearIntrinsic old.scene s
  later-size-near later = record {
    before = later.before;
    found = subst (λ (n : ℕ). intrinsic_of n old.scene.held ≡ Some later.before) (sym (later-view later)) later.some;
    row = ap (λ (t : IntrinsicSize). t.first_row) later.is;
    resist = ap (λ (t : IntrinsicSize). t.resist) later.is;
    hug = ap (λ (t : IntrinsicSize). t.hug) later.is;
    width = subst (λ (t : IntrinsicSize). FitsAfter later.before.width t.width) (sym later.is) later.near.0;
    height = subst (λ (t : IntrinsicSize). FitsAfter later.before.height t.height) (sym later.is) later.near.1;
  }

pub unsize-passed : (old : State) (name : List ℕ) (id : ℕ) (End : Scene → Reply → State → Type 0) (reply : Reply) (new : State) → IsHeldIntrinsic old.scene name id → End (without_intrinsic old.scene id) reply new
    → TriedUnsize old name End reply new
unsize-passed old name id End reply new held end =
    inr (
      (λ none. none-some held.view (sym none ∙ held.found)),
      (held.view, held.found, inr (held.held, subst (λ (n : ℕ). End (without_intrinsic old.scene n) reply new) held.same end)),
    )

-- ---- why a size may not be held

module _ (old : State) (width height : Fraction) (hug resist : Option Meant) where
  -- the ranks are found, and the size of this view comes to no end
  abbrev AtRanks : ℕ → Reply → State → Type 0
  AtRanks view reply new = (ranks : Ranks) × AreRanks old.scene hug resist ranks
      × Sizes old view width height hug resist ranks.hug ranks.resist (intrinsic_of view old.scene.held) NoEnd reply new

  at-view : (name : List ℕ) (view : LiveView) (reply : Reply) (new : State) → view_named old.scene.tree.views name ≡ Some view → AtRanks view.id reply new → SizesFor old name width height hug resist NoEnd reply new
  at-view name view reply new found (ranks, are, step) = (view, found, ranks.hug, ranks.resist, are.0, are.1, step)

  pub size-step-causes : (name : List ℕ) (view : LiveView) (reply : Reply) (new : State) → view_named old.scene.tree.views name ≡ Some view → SizeStep old view.id width height hug resist reply new
      → TriedSize old name width height hug resist NoEnd reply new
  size-step-causes name view reply new found step =
      inr (
        (λ none. none-some view (sym none ∙ found)),
        pulls-map old hug resist (AtRanks view.id) (SizesFor old name width height hug resist NoEnd) reply new (at-view name view reply new found) step,
      )

  -- the priorities are the cause
  pub pulls-unranked : (view : ℕ) (reply : Reply) (new : State) → UnlessPullsRankless old hug resist (λ r n. ⊥) reply new → SizeStep old view width height hug resist reply new
  pulls-unranked view reply new step = pulls-map old hug resist (λ r n. ⊥) (AtRanks view) reply new (λ never. absurd never) step

  -- ranks that are found are no cause
  pub pulled-step : (view : ℕ) (ranks : Ranks) (held : Option IntrinsicSize) (reply : Reply) (new : State) → AreKnownPulls old.scene hug resist → AreRanks old.scene hug resist ranks → intrinsic_of view old.scene.held ≡ held
      → Sizes old view width height hug resist ranks.hug ranks.resist held NoEnd reply new → SizeStep old view width height hug resist reply new
  pulled-step view ranks held reply new known are is step =
      pulls-passed old hug resist (AtRanks view) ranks reply new known are
      (ranks, are, subst (λ (h : Option IntrinsicSize). Sizes old view width height hug resist ranks.hug ranks.resist h NoEnd reply new) (sym is) step)

-- ---- the view's size, whatever the name of the view

module _ (old : State) (view : ℕ) (width height : Fraction) (hug resist : Option Meant) (ranks : Ranks) (known : AreKnownPulls old.scene hug resist) (are : AreRanks old.scene hug resist ranks) where
  pulled-at : (name : List ℕ) (v : LiveView) → view_named old.scene.tree.views name ≡ Some v → IsPulled old name hug resist v ranks
  pulled-at name v found = record { found = found; known = known; are = are }

  pub first-size : (s : IntrinsicSize) → intrinsic_of view old.scene.held ≡ None → (IsCrowded old 4 → ⊥) → s ≡ intrinsic_at old.scene.next_row view width height ranks.hug ranks.resist
      → IsIntrinsicFor old view width height hug resist (wished.First s)
  first-size s none room is = λ name v found same. record {
    view = v;
    ranks = ranks;
    pulled = pulled-at name v found;
    none = subst (λ (n : ℕ). intrinsic_of n old.scene.held ≡ None) (sym same) none;
    room = room;
    is = subst (λ (n : ℕ). s ≡ intrinsic_at old.scene.next_row n width height ranks.hug ranks.resist) (sym same) is;
  }

  module _ (before : IntrinsicSize) (some : intrinsic_of view old.scene.held ≡ Some before) where
    pub later-size : (s : IntrinsicSize) → (IsSome hug ⊎ IsSome resist → ⊥) → s ≡ record before { width = width; height = height } → FitsAfter before.width width × FitsAfter before.height height
        → IsIntrinsicFor old view width height hug resist (wished.Again s)
    later-size s plain is near = λ name v found same. record {
      view = v;
      ranks = ranks;
      pulled = pulled-at name v found;
      before = before;
      some = subst (λ (n : ℕ). intrinsic_of n old.scene.held ≡ Some before) (sym same) some;
      plain = plain;
      is = is;
      near = near;
    }

    -- a later one has a priority
    pub later-written : IsSome hug ⊎ IsSome resist → SizeStep old view width height hug resist (Kind kind.Sized) old
    later-written written = pulled-step old width height hug resist view ranks (Some before) (Kind kind.Sized) old known are some (inl (written, refl, refl))

    -- a constant of a later one would move too far
    pub later-far : (IsSome hug ⊎ IsSome resist → ⊥) → (FitsAfter before.width width × FitsAfter before.height height → ⊥) → SizeStep old view width height hug resist (Limit word.Constant) old
    later-far plain far = pulled-step old width height hug resist view ranks (Some before) (Limit word.Constant) old known are some (inr (plain, inl (far, refl, refl)))

-- no size of the view is held
pub unsize-unknown : (old : State) (name : List ℕ) (view : LiveView) (End : Scene → Reply → State → Type 0) → view_named old.scene.tree.views name ≡ Some view → intrinsic_of view.id old.scene.held ≡ None
    → TriedUnsize old name End (Unknown (intrinsic_name name)) old
unsize-unknown old name view End found none = inr ((λ h. none-some view (sym h ∙ found)), (view, found, inl (none, refl, refl)))
