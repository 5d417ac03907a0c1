-- The corners of a path by their sides, one exchange after the other.
use Rattle.std.proofs.Common.{◌≡◌, ◌∙◌, ℕ, zero, suc, ◌+◌, ◌<◌, List, [], ◌∷◌, ◌++◌, take, drop, set, get_or, length, refl, sym, ap, arith, Option, None, Some, length-set, drop-cons, take-append-drop}
use Rattle.problem_core.specs.declared.parts.Side.{Side}
use Rattle.path_lines.specs.declared.spots.Step.{Step}
use Rattle.path_lines.specs.Sides.{moved_sides}

-- what is written through a borrow of a whole list
pub settled : {X : Type 0} (n : ℕ) (new old : List X) → length new ≡ n → take n (new ++ drop (length new) old) ≡ new
settled zero [] old long = refl
settled (suc n) [] old long = absurd (omega (arith, long))
settled zero (x ∷ new) old long = absurd (omega (arith, long))
settled {X = X} (suc n) (x ∷ new) old long = ap (λ (zs : List X). x ∷ zs) (begin n new (drop (length (x ∷ new)) old) (omega (arith, long)))
  where
    begin : {Y : Type 0} (n : ℕ) (xs ys : List Y) → length xs ≡ n → take n (xs ++ ys) ≡ xs
    begin zero [] ys long = refl
    begin (suc n) [] ys long = absurd (omega (arith, long))
    begin zero (x ∷ xs) ys long = absurd (omega (arith, long))
    begin {Y = Y} (suc n) (x ∷ xs) ys long = ap (λ (zs : List Y). x ∷ zs) (begin n xs ys (omega (arith, long)))

pub moved_length : (step : Step) (sides : List (Option Side)) → length (moved_sides step sides) ≡ length sides
moved_length step sides = length-set (set sides step.leave.at None) step.enter.at (Some step.enter.side) ∙ length-set sides step.leave.at None

pub first_of_rest : {X : Type 0} (xs : List X) (i : ℕ) (d : X) → i < length xs → drop i xs ≡ get_or xs i d ∷ drop (i + 1) xs
first_of_rest xs i d within = let next : suc i ≡ i + 1 = omega arith in drop-cons xs i d within ∙ ap (λ (n : ℕ). get_or xs i d ∷ drop n xs) next

pub split_there : {X : Type 0} (xs : List X) (i : ℕ) (d : X) → i < length xs → xs ≡ take i xs ++ (get_or xs i d ∷ drop (i + 1) xs)
split_there {X = X} xs i d within = sym (take-append-drop i xs) ∙ ap (λ (zs : List X). take i xs ++ zs) (first_of_rest xs i d within)
