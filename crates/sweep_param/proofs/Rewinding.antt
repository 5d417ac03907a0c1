-- The corner of the newest mark again.
use Rattle.std.proofs.Common.{◌≡◌, ◌∙◌, List, [], ◌∷◌, sym, ap, subst}
use Rattle.corner_view.specs.Seen.{CornerView, Scene}
use Rattle.corner_view.specs.Changes.{IsRewound, scene_of}
use Rattle.corner_ends.specs.Runs.{HasEnded, IsBestEnd}
use Rattle.sweep_run.specs.Slides.{IsMarked}

head_or : Scene → List Scene → Scene
head_or s [] = s
head_or s (first ∷ rest) = first

module _ (c mid new : CornerView) (marked : IsMarked c) (before : mid.before ≡ c.before) (back : IsRewound mid new) where
  pub same_scene : scene_of new ≡ scene_of c
  unfolding head_or
  same_scene = ap (head_or (scene_of c)) (sym back.scene.1 ∙ (before ∙ marked.1))

  pub same_problem : new.problem ≡ c.problem
  same_problem = ap (λ (s : Scene). s.problem) same_scene

  pub same_marks : new.marks ≡ c.marks
  same_marks = ap (λ (s : Scene). s.marks) same_scene

  pub marked_again : IsMarked new
  marked_again = (marked.0, back.before ∙ (before ∙ (marked.1 ∙ ap (λ (s : Scene). s ∷ marked.0) (sym same_scene))))

  pub ended_again : HasEnded c → HasEnded new
  ended_again ended = record { end = subst (λ (s : Scene). IsBestEnd s.problem s.marks) (sym same_scene) ended.end; listed = back.candidates }
