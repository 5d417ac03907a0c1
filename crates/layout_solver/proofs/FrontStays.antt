-- Some stays first: the same stays.
use Rattle.std.proofs.Common.{ℕ, not, List, [], ◌∷◌, refl, IsPermutation}
use Rattle.std.proofs.lemmas.List.Sorted.{IsPermutation-filter_both, IsPermutation-refl, IsPermutation-trans}
use Rattle.problem_core.specs.declared.parts.Stay.{Stay}
use Rattle.stay_orders.specs.Orders.{is_of, with_front}

pub front_permutes : (attrs : List ℕ) (stays : List Stay) → IsPermutation stays (with_front attrs stays)
front_permutes [] stays = IsPermutation-refl stays
front_permutes (a ∷ attrs) stays =
    IsPermutation-trans stays (with_front attrs stays) (with_front (a ∷ attrs) stays) (front_permutes attrs stays)
    (IsPermutation-filter_both (is_of a) (λ s. not (is_of a s)) (λ s. refl) (with_front attrs stays))
