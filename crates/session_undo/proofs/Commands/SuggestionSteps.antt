-- What suggestions and releases come to for the session.
use Rattle.std.proofs.Common.{◌≡◌, ℕ, false, true≢false, is_some, List, Option, Some, None, refl, sym, ap, subst, inl, inr, ◌∙◌}
use Rattle.std.specs.Option.{option_map}
use Rattle.std.proofs.lemmas.Option.{none-some, same_Some}
use Rattle.frac_core.specs.Fraction.{Fraction}
use Rattle.span_text.specs.Objects.{Meant, object_view}
use Rattle.span_text.specs.declared.object.Object.{Object}
use Rattle.script_text.specs.declared.words.AttrWord.{AttrWord}
use Rattle.script_text.specs.declared.words.Direction.{Direction}
use Rattle.view_tree.specs.Views.{LiveView, view_named}
use Rattle.compile_parts.specs.Meaning.{IsRank, unknown_object}
use Rattle.constraint_compile.specs.Suggestions.{suggested_priority}
use Rattle.constraint_compile.specs.declared.suggestion.Suggestion.{Suggestion}
use Rattle.held_items.specs.Items.{suggestion_of}
use Rattle.scenes.specs.Scene.{Scene, with_suggestion, with_suggested}
use Rattle.session_undo.specs.State.{State}
use Rattle.scenes.specs.Leaving.{without_suggestion}
use Rattle.session_undo.specs.Replies.{Reply}
use Rattle.session_undo.specs.Machine.{Suggests, TriedRelease, TriedSuggest}
use Rattle.session_undo.specs.Adding.{IsFirstSuggestion, IsHeldSuggestion, IsLaterSuggestion, NoEnd, SuggestStep}
use Rattle.scenes.specs.Drafts.{IsNearSuggestion, IsNextSuggestion}
use Rattle.held_items.proofs.HeldRows.Ranks.{rank-in-thousand}

-- ---- no cause is there

-- the suggestion with this row, of this attribute of this view, in this direction
abbrev placed : Suggestion → ℕ → ℕ → AttrWord → Direction → Suggestion
placed s row view word d = record { row = row; rank = s.rank; view = view; word = word; direction = d; constant = s.constant }

pub first-passed : (old : State) (name : List ℕ) (attr : AttrWord) (value : Fraction) (priority : Option Meant) (s : Suggestion) (End : Scene → Reply → State → Type 0) (reply : Reply) (new : State)
    → IsFirstSuggestion old name attr value priority s → End (with_suggestion old.scene s) reply new → TriedSuggest old name attr value priority End reply new
first-passed old name attr value priority s End reply new first end =
    inr (
      (λ none. none-some first.view (sym none ∙ first.ranked.found)),
      inr (
        (λ other known. none-some other (sym first.ranked.known ∙ known)),
        inr (
          (λ none. none s.rank first.ranked.is),
          (
            first.view,
            first.ranked.found,
            s.rank,
            first.ranked.is,
            subst (λ (held : Option Suggestion). Suggests old first.view.id attr value priority s.rank held End reply new) (sym first.none)
                (inr (first.room, inr ((λ large. large first.is.small), (s.constant, first.is.constant, subst (λ (t : Suggestion). End (with_suggestion old.scene t) reply new) same end)))),
          ),
        ),
      ),
    )
  where
    same : s ≡ placed s old.scene.next_row first.view.id attr old.scene.direction
    same =
        ap (λ (row : ℕ). placed s row s.view s.word s.direction) first.row ∙ ap (λ (view : ℕ). placed s old.scene.next_row view s.word s.direction) first.is.view_is
        ∙ ap (λ (word : AttrWord). placed s old.scene.next_row first.view.id word s.direction) first.is.word
        ∙ ap (λ (d : Direction). placed s old.scene.next_row first.view.id attr d) first.direction

pub later-passed : (old : State) (name : List ℕ) (attr : AttrWord) (value : Fraction) (priority : Option Meant) (s : Suggestion) (End : Scene → Reply → State → Type 0) (reply : Reply) (new : State)
    → IsLaterSuggestion old name attr value priority s → End (with_suggested old.scene s.view s.word s.constant) reply new → TriedSuggest old name attr value priority End reply new
later-passed old name attr value priority s End reply new later end =
    inr (
      (λ none. none-some later.view (sym none ∙ later.ranked.found)),
      inr (
        (λ other known. none-some other (sym later.ranked.known ∙ known)),
        inr (
          (λ none. none later.rank later.ranked.is),
          (
            later.view,
            later.ranked.found,
            later.rank,
            later.ranked.is,
            subst (λ (held : Option Suggestion). Suggests old later.view.id attr value priority later.rank held End reply new) (sym later.some)
                (inr (later.plain, inr ((λ large. large later.is.small), (s.constant, later.is.constant, inr ((λ far. far later.near), moved))))),
          ),
        ),
      ),
    )
  where
    moved : End (with_suggested old.scene later.view.id attr s.constant) reply new
    moved =
        subst (λ (view : ℕ). End (with_suggested old.scene view attr s.constant) reply new) later.is.view_is
        (subst (λ (word : AttrWord). End (with_suggested old.scene s.view word s.constant) reply new) later.is.word end)

pub release-passed : (old : State) (name : List ℕ) (attr : AttrWord) (id : ℕ) (End : Scene → Reply → State → Type 0) (reply : Reply) (new : State)
    → IsHeldSuggestion old.scene name attr id → End (without_suggestion old.scene id attr) reply new → TriedRelease old name attr End reply new
release-passed old name attr id End reply new held end =
    inr (
      (λ none. none-some held.view (sym none ∙ held.found)),
      (held.view, held.found, inr (held.held, subst (λ (n : ℕ). End (without_suggestion old.scene n attr) reply new) held.same end)),
    )

-- ---- why a suggestion may not be held

-- the view of a name that is found
pub view-found : (o : Option LiveView) (id : ℕ) → Some id ≡ option_map (λ v. v.id) o → (v : LiveView) × (o ≡ Some v) × (v.id ≡ id)
view-found None id is = absurd (none-some id (sym is))
view-found (Some v) id is = (v, refl, sym (same_Some id v.id is))

pub step-causes : (old : State) (name : List ℕ) (view : LiveView) (attr : AttrWord) (value : Fraction) (priority : Option Meant) (reply : Reply) (new : State) → view_named old.scene.tree.views name ≡ Some view
    → SuggestStep old view.id attr value priority reply new → TriedSuggest old name attr value priority NoEnd reply new
step-causes old name view attr value priority reply new found (inl h) = inr ((λ none. none-some view (sym none ∙ found)), inl h)
step-causes old name view attr value priority reply new found (inr (a, inl h)) = inr ((λ none. none-some view (sym none ∙ found)), inr (a, inl h))
step-causes old name view attr value priority reply new found (inr (a, inr (b, (rank, is, step)))) = inr ((λ none. none-some view (sym none ∙ found)), inr (a, inr (b, (view, found, rank, is, step))))

-- a rank that is found is no cause
pub ranked-step : (old : State) (view : ℕ) (attr : AttrWord) (value : Fraction) (priority : Option Meant) (rank : ℕ) (reply : Reply) (new : State)
    → unknown_object old.scene.tree.views old.scene.metrics (suggested_priority priority) ≡ None → IsRank old.scene.tree.views old.scene.metrics (suggested_priority priority) rank
    → Suggests old view attr value priority rank (suggestion_of view attr old.scene.held) NoEnd reply new → SuggestStep old view attr value priority reply new
ranked-step old view attr value priority rank reply new known is step =
    inr ((λ other named. none-some other (sym known ∙ named)), inr ((λ none. none rank is), (rank, is, step)))

-- what is held is this
pub held-step : (old : State) (view rank : ℕ) (attr : AttrWord) (value : Fraction) (priority : Option Meant) (held : Option Suggestion) (reply : Reply) (new : State) → suggestion_of view attr old.scene.held ≡ held
    → Suggests old view attr value priority rank held NoEnd reply new → Suggests old view attr value priority rank (suggestion_of view attr old.scene.held) NoEnd reply new
held-step old view rank attr value priority held reply new is step = subst (λ (h : Option Suggestion). Suggests old view attr value priority rank h NoEnd reply new) (sym is) step

pub no-priority : (p : Option Object) → is_some p ≡ false → object_view p ≡ None
no-priority None is = refl
no-priority (Some o) is = absurd (true≢false is)

-- ---- what the scene asks for

pub first-next : (old : State) (name : List ℕ) (attr : AttrWord) (value : Fraction) (priority : Option Meant) (s : Suggestion) → IsFirstSuggestion old name attr value priority s → IsNextSuggestion old.scene s
first-next old name attr value priority s first = record {
  row = first.row;
  rank = rank-in-thousand old.scene.tree.views old.scene.metrics (suggested_priority priority) s.rank first.ranked.is;
  name = name;
  view = first.view;
  found = first.ranked.found;
  same = first.is.view_is;
}

pub later-near : (old : State) (name : List ℕ) (attr : AttrWord) (value : Fraction) (priority : Option Meant) (s : Suggestion) → IsLaterSuggestion old name attr value priority s → IsNearSuggestion old.scene s
later-near old name attr value priority s later = record {
  before = later.before;
  found = rw (later.is.view_is, later.is.word) later.some;
  row = later.row;
  near = later.near;
}
