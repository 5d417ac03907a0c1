-- A list of frames that grows by the next view's.
use Rattle.std.proofs.Common.{◌≡◌, ◌∙◌, ◌<◌, ◌+◌, ℕ, List, [], ◌∷◌, ◌++◌, Some, length, set, take, slice_get, ap, sym, subst₂, add-one, refl}
use Rattle.std.proofs.Math.Seq.{take-suc}
use Rattle.std.proofs.lemmas.Grind.{take-set_at}
use Rattle.std.proofs.lemmas.Option.{get_or_from_slice_get, slice_get_within}
use Rattle.view_tree.specs.Views.{LiveView}
use Rattle.scenes.specs.Scene.{Scene}
use Rattle.layout_c.specs.Calls.{AreFrames, IsPlaced}
use Rattle.layout_c.specs.declared.frames.Placed.{Placed}

one_more : (scene : Scene) (views : List LiveView) (placed : List Placed) (v : LiveView) (p : Placed) → AreFrames scene views placed → IsPlaced scene v p → AreFrames scene (views ++ v ∷ []) (placed ++ p ∷ [])
one_more scene [] [] v p are is = (is, tt)
one_more scene (w ∷ views) (q ∷ placed) v p are is = (are.0, one_more scene views placed v p are.1 is)
one_more scene [] (q ∷ placed) v p are is = absurd are
one_more scene (w ∷ views) [] v p are is = absurd are

pub next_placed : (scene : Scene) (views : List LiveView) (i : ℕ) (v : LiveView) (room : List Placed) (p : Placed) → slice_get views i ≡ Some v → i < length room → IsPlaced scene v p → AreFrames scene (take i views) (take i room) → AreFrames scene (take (i + 1) views) (take (i + 1) (set room i p))
next_placed scene views i v room p at within is so_far =
    let more : take (i + 1) views ≡ take i views ++ v ∷ [] = ap (λ (n : ℕ). take n views) (add-one i) ∙ (take-suc views i v (slice_get_within views i v at) ∙ ap (λ (w : LiveView). take i views ++ w ∷ []) (get_or_from_slice_get views i v v at)) in
    let put : take (i + 1) (set room i p) ≡ take i room ++ p ∷ [] = take-set_at room i (i + 1) p refl within in
    subst₂ (AreFrames scene) (sym more) (sym put) (one_more scene (take i views) (take i room) v p so_far is)

pub none_placed : (scene : Scene) (views : List LiveView) (room : List Placed) → AreFrames scene (take 0 views) (take 0 room)
none_placed scene [] [] = tt
none_placed scene (v ∷ views) [] = tt
none_placed scene [] (p ∷ room) = tt
none_placed scene (v ∷ views) (p ∷ room) = tt
