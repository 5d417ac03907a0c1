-- Elements of lists: all, some and pairs of them, of parts and of images.
use Rattle.std.proofs.Common.{All, [], AllPairs, Any, Contains, IfOk, List, ap, arith, drop, get_or, inl, inr, length, length-append, map, refl, subst, suc, sym, take, zero, ℕ, ◌++◌, ◌+◌, ◌<◌, ◌∷◌, ◌≡◌, ◌≤◌, ◌⊎◌}
use Rattle.std.proofs.Math.ListN.{get_or-append}
use Rattle.std.proofs.lemmas.Grind.{common_steps}
use Rattle.std.proofs.lemmas.List.{get_or-map, get_or_append_left, length-map, take_all}
use Rattle.std.proofs.lemmas.List.Elements.{All-map, All-more}
use Rattle.std.proofs.lemmas.List.Kept.{AllPairs-cons}
use Rattle.std.specs.List.{AllByRecursion as Each, AllZip}
use Rattle.std.specs.declared.result.Result.{Result}
use Rattle.std.specs.declared.result.Result.TheVariants.{Err, Ok}

pub all-whole : {X : Type 0} (P : X → Type 0) (xs : List X) (i : ℕ) → length xs ≤ i → All P (take i xs) → All P xs
all-whole P xs i over h = subst (All P) (take_all i xs over) h

pub pairs-rest : {X : Type 0} (R : X → X → Type 0) (x : X) (xs : List X) → AllPairs R (x ∷ xs) → AllPairs R xs
pairs-rest R x xs h = λ i j d lt within. h (suc i) (suc j) d (omega (arith, lt)) (omega (arith, within))

pub each-right : {A : Type 0} (P : A → Type 0) (xs ys : List A) → Each P (xs ++ ys) → Each P ys
each-right P [] ys h = h
each-right P (x ∷ xs) ys h = each-right P xs ys h.1

pub each-left : {A : Type 0} (P : A → Type 0) (xs ys : List A) → Each P (xs ++ ys) → Each P xs
each-left P [] ys h = tt
each-left P (x ∷ xs) ys h = (h.0, each-left P xs ys h.1)

pub all-more : {A : Type 0} (P : A → Type 0) (xs : List A) (i : ℕ) (r : A) → i < length xs → r ≡ get_or xs i r → All P (take i xs) → P r → All P (take (i + 1) xs)
all-more P xs i r l is all here = All-more P xs i r l all (subst P is here)

pub all-front : {X : Type 0} (P : X → Type 0) (xs ys : List X) → All P (xs ++ ys) → All P xs
all-front P xs ys h k x lt = subst P (get_or-append xs ys x k lt) (h k x (omega (arith, lt, length-append xs ys)))

pub pairs-front : {X : Type 0} (R : X → X → Type 0) (xs ys : List X) → AllPairs R (xs ++ ys) → AllPairs R xs
pairs-front R xs ys all = λ i j d lt in_range.
    rw (get_or_append_left xs ys d i (omega arith), get_or_append_left xs ys d j in_range) at (all i j d lt (omega (arith, length-append xs ys)))

pub each-at : (P : ℕ → Type 0) (ws : List ℕ) (w : ℕ) → Each P ws → Contains ws w → P w
each-at P [] w h (k, lt, e) = absurd (omega (arith, lt))
each-at P (v ∷ ws) w h (zero, lt, e) = subst P e h.0
each-at P (v ∷ ws) w h (suc k, lt, e) = each-at P ws w h.1 (k, omega (arith, lt), e)

pub any-later : {X : Type 0} (P : X → Type 0) (x : X) (xs : List X) → Any P xs → Any P (x ∷ xs)
any-later P x xs h = (suc h.0, h.1, omega (arith, h.2), h.3, h.4)

pub pairs-nil : {X : Type 0} (R : X → X → Type 0) → AllPairs R []
pairs-nil R i j d less within = absurd (omega (arith, within))

pub pairs-unmapped : {X Y : Type 0} (f : X → Y) (R : Y → Y → Type 0) (xs : List X) → AllPairs R (map f xs) → AllPairs (λ x y. R (f x) (f y)) xs
pairs-unmapped f R xs h i j d less within =
    subst (λ (y : _). R (f (get_or xs i d)) y) (get_or-map f xs j d (f d) within)
    (subst (λ (y : _). R y (get_or (map f xs) j (f d))) (get_or-map f xs i d (f d) (omega (arith, less, within))) (h i j (f d) less (omega (arith, within, length-map xs f))))

pub each-joined : {A : Type 0} (P : A → Type 0) (xs ys : List A) → Each P xs → Each P ys → Each P (xs ++ ys)
each-joined P [] ys h k = k
each-joined P (x ∷ xs) ys h k = (h.0, each-joined P xs ys h.1 k)

pub each-onto_map : {X Y : Type 0} (P : Y → Type 0) (f : X → Y) (xs : List X) → Each (λ x. P (f x)) xs → Each P (map f xs)
each-onto_map P f [] h = tt
each-onto_map P f (x ∷ xs) h = (h.0, each-onto_map P f xs h.1)

pub each-from_map : {A B : Type 0} (P : B → Type 0) (f : A → B) (xs : List A) → Each P (map f xs) → Each (λ x. P (f x)) xs
each-from_map P f [] all = tt
each-from_map P f (x ∷ xs) all = (all.0, each-from_map P f xs all.1)

pub any-front : {A : Type 0} (P : A → Type 0) (xs : List A) (y : A) → Any P xs → Any P (xs ++ y ∷ [])
any-front {A} P xs y any = (any.0, any.1, grind (arith, common_steps, any.2), grind (arith, common_steps, any.2, any.3), any.4)

pub zip-push : {A B : Type 0} (R : A → B → Type 0) (xs : List A) (ys : List B) (x : A) (y : B) → AllZip R xs ys → R x y → AllZip R (xs ++ x ∷ []) (ys ++ y ∷ [])
zip-push R [] [] x y h r = (r, tt)
zip-push R [] (z ∷ ys) x y h r = absurd h
zip-push R (w ∷ xs) [] x y h r = absurd h
zip-push R (w ∷ xs) (z ∷ ys) x y h r = (h.0, zip-push R xs ys x y h.1 r)

pub take-drop : {X : Type 0} (xs : List X) (k : ℕ) → take k xs ++ drop k xs ≡ xs
take-drop xs zero = refl
take-drop [] (suc k) = refl
take-drop (x ∷ xs) (suc k) = ap (λ us. x ∷ us) (take-drop xs k)

pub any-cases : {X : Type 0} (P : X → Type 0) (x : X) (xs : List X) → Any P (x ∷ xs) → P x ⊎ Any P xs
any-cases P x xs (zero, y, lt, e, h) = inl (subst P (sym e) h)
any-cases P x xs (suc k, y, lt, e, h) = inr (k, y, omega (arith, lt), e, h)

pub any-here : {X : Type 0} (P : X → Type 0) (x : X) (xs : List X) → P x → Any P (x ∷ xs)
any-here P x xs h = (0, x, omega arith, refl, h)

pub each-of : (P : ℕ → Type 0) (ws : List ℕ) → ((w : ℕ) → Contains ws w → P w) → Each P ws
each-of P [] f = tt
each-of P (w ∷ ws) f = (f w (0, omega arith, refl), each-of P ws (λ v i. f v (suc i.0, omega (arith, i.1), i.2)))

pub length-mapped : {X Y : Type 0} (f : X → Y) (xs : List X) → length (map f xs) ≡ length xs
length-mapped f xs = length-map xs f

pub ok-both : {A E : Type 0} (r : Result A E) (P Q R : A → Type 0) → ((x : A) → P x → Q x → R x) → IfOk r P → IfOk r Q → IfOk r R
ok-both (Ok x) P Q R f h k = f x h k
ok-both (Err e) P Q R f h k = h

pub zip-length : {A B : Type 0} (R : A → B → Type 0) (xs : List A) (ys : List B) → AllZip R xs ys → length ys ≡ length xs
zip-length R [] [] h = refl
zip-length R [] (y ∷ ys) h = absurd h
zip-length R (x ∷ xs) [] h = absurd h
zip-length R (x ∷ xs) (y ∷ ys) h = ap suc (zip-length R xs ys h.1)

pub pairs-map : {X Y : Type 0} (f : X → Y) (R : Y → Y → Type 0) (xs : List X) → AllPairs (λ x y. R (f x) (f y)) xs → AllPairs R (map f xs)
pairs-map f R [] h = λ i j d less within. absurd (omega (arith, within))
pairs-map f R (x ∷ xs) h =
    AllPairs-cons R (f x) (map f xs)
    (All-map (R (f x)) f xs (λ k d within. h zero (suc k) d (omega arith) (omega (arith, within))))
    (pairs-map f R xs (pairs-rest (λ x y. R (f x) (f y)) x xs h))
