-- The limits of a session stay those of its scene and of each before it.
use Rattle.std.proofs.Common.{◌≡◌, ◌∙◌, ℕ, List, [], ◌∷◌, refl, ap, subst, sym, All}
use Rattle.std.specs.Prelude.{IfOk, OnErr, OnOk}
use Rattle.std.specs.declared.result.Result.{Result}
use Rattle.std.specs.declared.result.Result.TheVariants.{Ok, Err}
use Rattle.std.proofs.lemmas.List.Elements.{All-cons, All-from_recursion, All-head, All-same, All-tail, All-take}
use Rattle.problem_core.specs.declared.parts.Mark.{Mark}
use Rattle.layout_solver.specs.declared.request.RequestStop.{RequestStop}
use Rattle.held_items.specs.declared.item.leaving.Leaver.TheVariants as leaver
use Rattle.scenes.specs.Drafts.{Any, Free, Kind, Left, MayTake, Turned, drafted, kind_of}
use Rattle.scenes.specs.Scene.{Becomes, History, Remembers, Scene, first_history, with_earlier}
use Rattle.scenes.specs.Steps.{ComesTo}
use Rattle.scenes.specs.declared.scene.draft.Draft.{Draft}
use Rattle.scenes.specs.declared.scene.draft.Draft.TheVariants as draft
use Rattle.session_undo.specs.Kept.{AreLimitsOf}
use Rattle.session_undo.specs.State.{Limits}

-- ---- as many views may be live

drafted-most : (old : Scene) (d : Draft) → MayTake old d → (drafted old d).tree.most ≡ old.tree.most
drafted-most old (draft.Views new) may = may.2
drafted-most old (draft.Metrics new) may = refl
drafted-most old (draft.More new) may = refl
drafted-most old (draft.Renewed renewal) may = refl
drafted-most old (draft.Out (leaver.Group group)) may = refl
drafted-most old (draft.Out (leaver.Views gone)) may = refl
drafted-most old (draft.Out (leaver.Suggestion view word)) may = refl
drafted-most old (draft.Out (leaver.Intrinsic view)) may = refl
drafted-most old (draft.Turn to) may = refl
drafted-most old (draft.Keep view) may = refl

becomes-most : (draft new : Scene) (most : ℕ) → Becomes draft new → draft.tree.most ≡ most → new.tree.most ≡ most
becomes-most draft new most becomes is = ap (λ (s : Scene). s.tree.most) becomes.same ∙ is

comes-most : (kind : Kind) (old draft : Scene) (budget : ℕ) (new : Scene) (most : ℕ) → draft.tree.most ≡ most → ComesTo kind old draft budget new → new.tree.most ≡ most
comes-most Free old draft budget new most is solved = becomes-most draft new most solved.1.becomes is
comes-most Any old draft budget new most is solved = becomes-most draft new most solved.1.becomes is
comes-most Left old draft budget new most is left = becomes-most draft new most left.becomes is
comes-most Turned old draft budget new most is turned = ap (λ (s : Scene). s.tree.most) turned.same ∙ is

pub taken-most : (old : Scene) (d : Draft) (budget : ℕ) (new : Scene) (end : Result (Unit {0}) RequestStop) → MayTake old d → IfOk end (λ done. ComesTo (kind_of d) old (drafted old d) budget new)
    → IfOk end (λ done. new.tree.most ≡ old.tree.most)
taken-most old d budget new (Ok done) may comes = comes-most (kind_of d) old (drafted old d) budget new old.tree.most (drafted-most old d may) comes
taken-most old d budget new (Err stop) may comes = tt

-- ---- the limits

module _ (limits : Limits) where
  pub limits-first : (views : ℕ) (corner : List Mark) (now : History) → views ≡ limits.views → now ≡ first_history views limits.undo corner → AreLimitsOf now limits
  limits-first views corner now same is =
      subst (λ (h : History). AreLimitsOf h limits) (sym is)
      (record { scene = same; earlier = All-from_recursion (λ (s : Scene). s.tree.most ≡ limits.views) [] tt; undo = refl })

  abbrev has_limit : Scene → Type 0
  has_limit s = s.tree.most ≡ limits.views

  pub limits-next : (was now : History) → AreLimitsOf was limits → now.scene.tree.most ≡ was.scene.tree.most → Remembers was now → AreLimitsOf now limits
  limits-next was now are most remembers =
      let earlier : List Scene = was.scene ∷ was.earlier in
      record {
        scene = most ∙ are.scene;
        earlier = All-same has_limit now.earlier (with_earlier was.undo was.scene was.earlier) remembers.0
            (All-take has_limit was.undo earlier (All-cons has_limit was.scene was.earlier are.scene are.earlier));
        undo = remembers.1 ∙ are.undo;
      }

  -- the same of a step's end
  pub limits-end : {E : Type 0} (was now : History) (end : Result (Unit {0}) E) → AreLimitsOf was limits → IfOk end (λ done. now.scene.tree.most ≡ was.scene.tree.most) → OnOk end (Remembers was now) → OnErr end (now ≡ was)
      → AreLimitsOf now limits
  limits-end was now (Ok done) are most remembers same = limits-next was now are most remembers
  limits-end was now (Err stop) are most remembers same = subst (λ (h : History). AreLimitsOf h limits) (sym same) are

  -- after the latest of the earlier scenes is the scene
  pub limits-back : (was now : History) → AreLimitsOf was limits → was.earlier ≡ now.scene ∷ now.earlier → now.undo ≡ was.undo → AreLimitsOf now limits
  limits-back was now are back undo =
      let all : All has_limit (now.scene ∷ now.earlier) = All-same has_limit (now.scene ∷ now.earlier) was.earlier (sym back) are.earlier in
      record {
        scene = All-head has_limit now.scene now.earlier all;
        earlier = All-tail has_limit now.scene now.earlier all;
        undo = undo ∙ are.undo;
      }
