-- Lists that grow at their end.
use Rattle.std.proofs.Common.{◌≡◌, ℕ, List, [], ◌∷◌, ◌++◌, length, All, refl, sym, arith, map}
use Rattle.std.specs.Prelude.{AllPairs}
use Rattle.std.proofs.lemmas.List.{get_or_append_left, get_or_at, length-append}
use Rattle.std.proofs.lemmas.List.Elements.{All-head, All-tail}

pub All-at_end : {X : Type 0} (P : X → Type 0) (xs : List X) (y : X) → All P (xs ++ y ∷ []) → P y
All-at_end P xs y all = rw (get_or_at xs y [] y (length xs) refl) at (all (length xs) y (omega (arith, length-append xs (y ∷ []))))

-- what each pair has, the last one has with those before it
pub All-last : {X : Type 0} (R : X → X → Type 0) (xs : List X) (y : X) → AllPairs R (xs ++ y ∷ []) → All (λ x. R x y) xs
All-last R xs y all = λ k d lt.
    rw (get_or_append_left xs (y ∷ []) d k lt, get_or_at xs y [] d (length xs) refl) at (all k (length xs) d lt (omega (arith, length-append xs (y ∷ []))))

-- a list that begins with the images of others is that of a longer list
pub begins : {X : Type 0} (P : X → Type 0) (f : X → List ℕ) → ((x y : X) → P x → P y → f x ≡ f y → x ≡ y)
    → (xs ys : List X) (rest : List (List ℕ)) → All P xs → All P ys → map f ys ≡ map f xs ++ rest
    → (more : List X) × (ys ≡ xs ++ more) × (rest ≡ map f more)
begins P f same [] ys rest of_xs of_ys is = (ys, refl, sym is)
begins P f same (x ∷ xs) [] rest of_xs of_ys is = absurd (cc)
begins P f same (x ∷ xs) (y ∷ ys) rest of_xs of_ys is =
    let tails : map f ys ≡ map f xs ++ rest = cc in
    let found = begins P f same xs ys rest (All-tail P x xs of_xs) (All-tail P y ys of_ys) tails in
    let heads : f x ≡ f y = cc in
    let one : x ≡ y = same x y (All-head P x xs of_xs) (All-head P y ys of_ys) heads in
    let whole : y ∷ ys ≡ (x ∷ xs) ++ found.0 = cc (one, found.1) in
    (found.0, whole, found.2)
