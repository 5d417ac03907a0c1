-- Pieces appended one after the other.
use Rattle.std.proofs.Common.{◌≡◌, ◌∙◌, ◌<◌, ◌+◌, ℕ, List, [], ◌∷◌, ◌++◌, length, take, get_or, flat_map, map, sym, ap, append_assoc}
use Rattle.std.proofs.lemmas.List.{flat_map_more, map-append, take_more}

pub three_appended : (o p q r a b c : List ℕ) → p ≡ o ++ a → q ≡ p ++ b → r ≡ q ++ c → r ≡ o ++ (a ++ (b ++ c))
three_appended o p q r a b c h1 h2 h3 = rw (h3, h2, h1) (simp append_assoc)

pub two_appended : (o p q a b : List ℕ) → p ≡ o ++ a → q ≡ p ++ b → q ≡ o ++ (a ++ b)
two_appended o p q a b h1 h2 = rw (h2, h1) (simp append_assoc)

-- the text of one element more
pub texts_next : {A : Type 0} (text : A → List ℕ) (old now new : List ℕ) (xs : List A) (i : ℕ) (x : A) → i < length xs → x ≡ get_or xs i x → now ≡ old ++ flat_map text (take i xs) → new ≡ now ++ text x
    → new ≡ old ++ flat_map text (take (i + 1) xs)
texts_next {A = A} text old now new xs i x within item before is =
    is ∙ ap (λ (bytes : List ℕ). bytes ++ text x) before ∙ flat_map_more text old (take i xs) x ∙ ap (λ (front : List A). old ++ flat_map text front) more
  where
    more : take i xs ++ x ∷ [] ≡ take (i + 1) xs
    more = ap (λ (y : A). take i xs ++ y ∷ []) item ∙ sym (take_more xs i x within)

pub four_appended : (o p q r s a b c d : List ℕ) → p ≡ o ++ a → q ≡ p ++ b → r ≡ q ++ c → s ≡ r ++ d → s ≡ o ++ (a ++ (b ++ (c ++ d)))
four_appended o p q r s a b c d h1 h2 h3 h4 = rw (h4, h3, h2, h1) (simp append_assoc)

-- the text of what one element more stands for
pub told_next : {A B : Type 0} (f : A → B) (text : B → List ℕ) (old now new : List ℕ) (xs : List A) (i : ℕ) (x : A) → i < length xs → x ≡ get_or xs i x
    → now ≡ old ++ flat_map text (map f (take i xs)) → new ≡ now ++ text (f x) → new ≡ old ++ flat_map text (map f (take (i + 1) xs))
told_next {A = A} {B = B} f text old now new xs i x within item before is =
    is ∙ ap (λ (bytes : List ℕ). bytes ++ text (f x)) before ∙ flat_map_more text old (map f (take i xs)) (f x)
    ∙ ap (λ (front : List B). old ++ flat_map text front) (sym (map-append f (take i xs) (x ∷ [])) ∙ ap (map f) more)
  where
    more : take i xs ++ x ∷ [] ≡ take (i + 1) xs
    more = ap (λ (y : A). take i xs ++ y ∷ []) item ∙ sym (take_more xs i x within)
