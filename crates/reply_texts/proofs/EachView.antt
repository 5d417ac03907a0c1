-- The texts of some views, one after the other.
use Rattle.std.proofs.Common.{◌≡◌, ℕ, zero, suc, ◌+◌, ◌<◌, List, [], ◌∷◌, ◌++◌, length, take, Some, None, refl, sym, ap, ◌∙◌, arith, append_assoc, add-one, flat_map}
use Rattle.std.specs.Prelude.{slice_get}
use Rattle.std.proofs.lemmas.List.{append-nil}
use Rattle.std.proofs.lemmas.Option.{none-some, same_Some}
use Rattle.view_tree.specs.Views.{LiveView}

-- with the view at the next place
each-more : (text : LiveView → List ℕ) (views : List LiveView) (i : ℕ) (v : LiveView) → slice_get views i ≡ Some v → flat_map text (take (suc i) views) ≡ flat_map text (take i views) ++ text v
each-more text [] i v is = absurd (none-some v is)
each-more text (w ∷ views) zero v is = append-nil (text w) ∙ ap text (same_Some w v is)
each-more text (w ∷ views) (suc i) v is = ap (λ (rest : List ℕ). text w ++ rest) (each-more text views i v is) ∙ sym (append_assoc (text w) (flat_map text (take i views)) (text v))

pub text_more : (text : LiveView → List ℕ) (views : List LiveView) (i : ℕ) (v : LiveView) (old now new : List ℕ) → slice_get views i ≡ Some v → now ≡ old ++ flat_map text (take i views) → new ≡ now ++ text v
    → new ≡ old ++ flat_map text (take (i + 1) views)
text_more text views i v old now new is now_is new_is =
    new_is ∙ ap (λ (front : List ℕ). front ++ text v) now_is ∙ append_assoc old (flat_map text (take i views)) (text v)
    ∙ ap (λ (rest : List ℕ). old ++ rest) (sym (ap (λ (n : ℕ). flat_map text (take n views)) (add-one i) ∙ each-more text views i v is))

-- a place inside has a view
pub some_view : (views : List LiveView) (i : ℕ) → i < length views → slice_get views i ≡ None → ⊥
some_view [] i h is = absurd (omega (arith, h))
some_view (w ∷ views) zero h is = absurd (none-some w (sym is))
some_view (w ∷ views) (suc i) h is = some_view views i (omega (arith, h)) is

-- the view of a place
pub view_there : (views : List LiveView) (i : ℕ) → i < length views → (v : LiveView) × (slice_get views i ≡ Some v)
view_there [] i h = absurd (omega (arith, h))
view_there (w ∷ views) zero h = (w, refl)
view_there (w ∷ views) (suc i) h = view_there views i (omega (arith, h))
