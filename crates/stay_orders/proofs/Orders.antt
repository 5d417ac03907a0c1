-- An order of stays leaves what holds of each as it is.
use Rattle.std.proofs.Common.{◌≡◌, ℕ, Bool, true, false, cond, nat_eq, not, List, [], ◌∷◌, ◌++◌, refl, filter}
use Rattle.std.specs.List.{AllByRecursion as Each}
use Rattle.std.proofs.lemmas.List.Elements.{recursion_from_All, All-from_recursion}
use Rattle.std.specs.Prelude.{All}
use Rattle.problem_core.specs.declared.parts.Stay.{Stay}
use Rattle.problem_core.specs.Layout.{Assignment, IsBest, IsProblem, Problem, StandAt, gap, line_of_stay}
use Rattle.stay_orders.specs.Orders.{fronted, is_of, with_first, with_front}

picked-by : {A : Type 0} (P : A → Type 0) (x : A) (xs : List A) (b : Bool) → P x → Each P xs → Each P (cond b (x ∷ xs) xs)
picked-by P x xs true h rest = (h, rest)
picked-by P x xs false h rest = rest

-- what holds of each holds of each that a test picks
pub picked : {A : Type 0} (P : A → Type 0) (f : A → Bool) (xs : List A) → Each P xs → Each P (filter f xs)
picked P f [] h = tt
picked P f (x ∷ xs) h = picked-by P x (filter f xs) (f x) h.0 (picked P f xs h.1)

-- and of one list behind another
pub behind : {A : Type 0} (P : A → Type 0) (xs ys : List A) → Each P xs → Each P ys → Each P (xs ++ ys)
behind P [] ys h g = g
behind P (x ∷ xs) ys h g = (h.0, behind P xs ys h.1 g)

pub first_each : (P : Stay → Type 0) (attr : ℕ) (stays : List Stay) → Each P stays → Each P (with_first attr stays)
first_each P attr stays h = behind P (filter (is_of attr) stays) (filter (λ s. not (is_of attr s)) stays)
    (picked P (is_of attr) stays h) (picked P (λ s. not (is_of attr s)) stays h)

pub front_each : (P : Stay → Type 0) (attrs : List ℕ) (stays : List Stay) → Each P stays → Each P (with_front attrs stays)
front_each P [] stays h = h
front_each P (attr ∷ attrs) stays h = first_each P attr (with_front attrs stays) (front_each P attrs stays h)
