-- The values of the views' attributes, by number.
use Rattle.std.proofs.Common.{◌≡◌, ◌∙◌, ℕ, ◌+◌, ◌<◌, ◌≤◌, List, [], ◌++◌, map, take, length, get_or, Some, None, sym, ap, All, AllPairs, IsPermutation}
use Rattle.std.specs.Prelude.{slice_get}
use Rattle.std.proofs.lemmas.List.{map-append, take_all}
use Rattle.std.proofs.lemmas.List.Elements.{All-contains, Contains-get_or}
use Rattle.std.proofs.lemmas.List.Sorted.{IsPermutation-sym}
use Rattle.std.proofs.lemmas.Option.{none-some, slice_get-get_or}
use Rattle.frac_core.specs.Fraction.{Fraction}
use Rattle.frac_core.proofs.Lists.{pairs-map}
use Rattle.problem_core.specs.declared.parts.Stay.{Stay}
use Rattle.problem_core.specs.Gaps.{value_of}
use Rattle.problem_core.specs.Kept.{AreRising}
use Rattle.problem_core.specs.Layout.{HasStay}
use Rattle.view_tree.specs.Views.{LiveView}
use Rattle.problem_core.proofs.StayNumbers.{numbers_held}
use Rattle.held_items.specs.Attributes.{all_attributes, view_attributes}
use Rattle.scenes.proofs.Views.Places.{among, attributes-next, attributes-rise}

-- ---- stays

-- each attribute of the views has a stay
pub all-held : (views : List LiveView) (stays : List Stay) → IsPermutation (all_attributes views) (map (λ s. s.attr) stays) → All (HasStay stays) (all_attributes views)
all-held views stays same = numbers_held stays (all_attributes views) (IsPermutation-sym (all_attributes views) (map (λ s. s.attr) stays) same)

-- so has each of the view at a place
pub four-held : (views : List LiveView) (stays : List Stay) (i : ℕ) (v : LiveView) → slice_get views i ≡ Some v → All (HasStay stays) (all_attributes views) → All (HasStay stays) (view_attributes v.id)
four-held views stays i v at all k d within =
    All-contains (HasStay stays) (all_attributes views) (get_or (view_attributes v.id) k d) all
    (among views i v (get_or (view_attributes v.id) k d) at (Contains-get_or (view_attributes v.id) k d within))

-- there is a view at each place
pub some-view : (views : List LiveView) (i : ℕ) → slice_get views i ≡ None → i < length views → ⊥
some-view views i none within = none-some (get_or views i absent) (sym none ∙ slice_get-get_or views i absent within)
  where
    absent : LiveView
    absent = record { id = 0; name = []; parent = None }

-- ---- values

module _ (values : List (ℕ × Fraction)) where
  abbrev read : ℕ → ℕ × Fraction
  read a = (a, value_of values a)

  -- those of the attributes of the next view are read
  pub read-next : (views : List LiveView) (i : ℕ) (v : LiveView) (out new : List (ℕ × Fraction)) → slice_get views i ≡ Some v → out ≡ map (λ a. (a, value_of values a)) (all_attributes (take i views))
      → new ≡ out ++ map (λ a. (a, value_of values a)) (view_attributes v.id) → new ≡ map (λ a. (a, value_of values a)) (all_attributes (take (i + 1) views))
  read-next views i v out new at before added =
      added ∙ ap (λ (vs : List (ℕ × Fraction)). vs ++ map read (view_attributes v.id)) before
      ∙ sym (ap (map read) (attributes-next views i v at) ∙ map-append read (all_attributes (take i views)) (view_attributes v.id))

  -- past the last view all are read
  pub read-all : (views : List LiveView) (i : ℕ) (out : List (ℕ × Fraction)) → length views ≤ i → out ≡ map (λ a. (a, value_of values a)) (all_attributes (take i views)) → out ≡ map (λ a. (a, value_of values a)) (all_attributes views)
  read-all views i out past is = is ∙ ap (λ (vs : List LiveView). map read (all_attributes vs)) (take_all i views past)

  -- their attributes rise
  pub read-rises : (views : List LiveView) → AllPairs (λ v w. v.id < w.id) views → AreRising (map (λ a. (a, value_of values a)) (all_attributes views))
  read-rises views rising = pairs-map read (λ (u v : ℕ × Fraction). u.0 < v.0) (all_attributes views) (attributes-rise views rising)
