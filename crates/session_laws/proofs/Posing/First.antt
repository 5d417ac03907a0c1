-- A new session is definite, and a size of the window poses a problem there.
use Rattle.std.proofs.Common.{◌≡◌, inl, inr, ℕ, ◌<◌, List, [], ◌∷◌, Some, refl, sym, subst, arith}
use Rattle.std.proofs.lemmas.List.Elements.{All-cons, All-nil}
use Rattle.std.proofs.lemmas.Option.{none-some}
use Rattle.frac_core.specs.Fraction.{Fraction}
use Rattle.problem_core.specs.declared.parts.Mark.{Mark}
use Rattle.problem_core.specs.Window.{structural_rows}
use Rattle.view_tree.specs.Views.{LiveView, window}
use Rattle.script_text.specs.declared.words.Version.{Version}
use Rattle.held_items.specs.Items.{OfWindow, size_rows}
use Rattle.held_items.specs.Moving.{IsFarSize}
use Rattle.scenes.specs.Scene.{first_scene, with_window}
use Rattle.scenes.specs.Steps.{IsProblemOf}
use Rattle.session_undo.specs.Machine.{IsCrowded}
use Rattle.session_undo.specs.State.{first_state}
use Rattle.session_laws.specs.Posed.Definite.{IsDefinite, IsDefiniteItem, IsDefiniteState}
use Rattle.session_laws.specs.Posed.Laws.{FirstIsDefinite, SizesArePosed, sized_window}

pub first-scene : (corner : List Mark) → IsDefinite (first_scene corner)
first-scene corner = record {
  metrics = All-nil (λ (f : Fraction). 0 < f.den);
  held = All-cons IsDefiniteItem OfWindow [] tt (All-nil IsDefiniteItem);
  below = All-cons (λ (v : LiveView). v.id < 1) window [] (omega arith) (All-nil (λ (v : LiveView). v.id < 1));
  older = All-cons (λ (v : LiveView). (p : ℕ) → v.parent ≡ Some p → p < v.id) window [] (λ p is. absurd (none-some p is)) (All-nil (λ (v : LiveView). (p : ℕ) → v.parent ≡ Some p → p < v.id));
}

pub first-definite : FirstIsDefinite
first-definite v first is =
    subst IsDefiniteState (sym is.1) (record { scene = first-scene first.scene.corner; earlier = All-nil IsDefinite })

-- ---- the window's first size

module _ (v : Version) (corner : List Mark) (width height : Fraction) where
  roomy : IsCrowded (first_state v corner) 2 → ⊥
  roomy (inl many) = omega (arith, many)
  roomy (inr high) = omega (arith, high)

  near : IsFarSize (OfWindow ∷ []) width height → ⊥
  near (size, held, far) = none-some size held

  posed : IsProblemOf (with_window (first_scene corner) width height) (sized_window width height)
  posed = ((structural_rows, size_rows 5 width height, refl, refl, (size_rows 5 width height, [], refl, refl, refl)), refl)

pub sizes-posed : SizesArePosed
sizes-posed v corner width height = inr ((λ h. roomy v corner width height h.1), inr (near v corner width height, posed v corner width height))
