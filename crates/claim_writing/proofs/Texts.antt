-- Lines and their words, joined.
use Rattle.std.proofs.Common.{◌≡◌, ℕ, ◌+◌, ◌<◌, List, [], ◌∷◌, ◌++◌, length, get_or, take, map, sym, ap, ◌∙◌, refl}
use Rattle.std.specs.List.{join_with_byte}
use Rattle.std.proofs.lemmas.List.{append_assoc, append-nil, map_more}
use Rattle.problem_core.specs.Layout.{Row}
use Rattle.claim_writing.specs.Lines.{spaced, term_word, row_line, head_line, text_of_lines}

pub spaced-append : (xs ys : List (List ℕ)) → spaced (xs ++ ys) ≡ spaced xs ++ spaced ys
spaced-append [] ys = refl
spaced-append (x ∷ xs) ys = ap (λ l. 32 ∷ x ++ l) (spaced-append xs ys) ∙ ap (λ l. 32 ∷ l) (sym (append_assoc x (spaced xs) (spaced ys)))

pub join_spaced : (w : List ℕ) (ws : List (List ℕ)) → join_with_byte 32 (w ∷ ws) ≡ w ++ spaced ws
join_spaced w [] = sym (append-nil w)
join_spaced w (v ∷ ws) = ap (λ l. w ++ 32 ∷ l) (join_spaced v ws)

-- one word more
pub spaced_more : {X : Type 0} (f : X → List ℕ) (text old now : List ℕ) (xs : List X) (i : ℕ) (d : X) → i < length xs → now ≡ old ++ spaced (map f (take i xs)) → text ≡ now ++ (32 ∷ f (get_or xs i d)) → text ≡ old ++ spaced (map f (take (i + 1) xs))
spaced_more f text old now xs i d lt is more =
    let last : spaced (f (get_or xs i d) ∷ []) ≡ 32 ∷ f (get_or xs i d) = ap (λ l. 32 ∷ l) (append-nil (f (get_or xs i d))) in
    let whole : spaced (map f (take (i + 1) xs)) ≡ spaced (map f (take i xs)) ++ (32 ∷ f (get_or xs i d)) =
    ap spaced (map_more f xs i d lt) ∙ (spaced-append (map f (take i xs)) (f (get_or xs i d) ∷ []) ∙ ap (λ l. spaced (map f (take i xs)) ++ l) last) in
    more ∙ (ap (λ l. l ++ (32 ∷ f (get_or xs i d))) is ∙ (append_assoc old (spaced (map f (take i xs))) (32 ∷ f (get_or xs i d)) ∙ ap (λ l. old ++ l) (sym whole)))

pub row_line_is : (r : Row) → row_line r ≡ head_line r ++ spaced (map term_word r.terms)
row_line_is r = simp (append_assoc, join_spaced)

pub text_of_lines-append : (xs ys : List (List ℕ)) → text_of_lines (xs ++ ys) ≡ text_of_lines xs ++ text_of_lines ys
text_of_lines-append [] ys = refl
text_of_lines-append (x ∷ xs) ys = ap (λ l. x ++ 10 ∷ l) (text_of_lines-append xs ys) ∙ sym (append_assoc x (10 ∷ text_of_lines xs) (text_of_lines ys))

-- one line more
pub text_more : {X : Type 0} (f : X → List ℕ) (text old now : List ℕ) (xs : List X) (i : ℕ) (d : X) → i < length xs → now ≡ old ++ text_of_lines (map f (take i xs)) → text ≡ now ++ (f (get_or xs i d) ++ 10 ∷ []) → text ≡ old ++ text_of_lines (map f (take (i + 1) xs))
text_more f text old now xs i d lt is more =
    let whole : text_of_lines (map f (take (i + 1) xs)) ≡ text_of_lines (map f (take i xs)) ++ (f (get_or xs i d) ++ 10 ∷ []) =
    ap text_of_lines (map_more f xs i d lt) ∙ text_of_lines-append (map f (take i xs)) (f (get_or xs i d) ∷ []) in
    more ∙ (ap (λ l. l ++ (f (get_or xs i d) ++ 10 ∷ [])) is ∙ (append_assoc old (text_of_lines (map f (take i xs))) (f (get_or xs i d) ++ 10 ∷ []) ∙ ap (λ l. old ++ l) (sym whole)))

-- the same at an item that was read
pub text_item : {X : Type 0} (f : X → List ℕ) (text old now : List ℕ) (xs : List X) (i : ℕ) (x : X) → i < length xs → x ≡ get_or xs i x → now ≡ old ++ text_of_lines (map f (take i xs)) → text ≡ now ++ (f x ++ 10 ∷ []) → text ≡ old ++ text_of_lines (map f (take (i + 1) xs))
text_item f text old now xs i x lt read is more = text_more f text old now xs i x lt is (more ∙ ap (λ y. now ++ (f y ++ 10 ∷ [])) read)

pub put_in_three : (old one two three front back line : List ℕ) → one ≡ old ++ front → two ≡ one ++ back → three ≡ two ++ 10 ∷ [] → line ≡ front ++ back → three ≡ old ++ (line ++ 10 ∷ [])
put_in_three old one two three front back line one_is two_is three_is line_is = rw (three_is, two_is, one_is, line_is) (simp append_assoc)

pub problem_text_is : (one two : List ℕ) (rows stays : List (List ℕ)) → one ≡ text_of_lines rows → two ≡ one ++ text_of_lines stays → two ≡ text_of_lines (rows ++ stays)
problem_text_is one two rows stays one_is two_is = two_is ∙ (ap (λ l. l ++ text_of_lines stays) one_is ∙ sym (text_of_lines-append rows stays))

-- a line, and then two lists of lines
pub three_parts : (old one two three line : List ℕ) (xs ys : List (List ℕ)) → one ≡ old ++ (line ++ 10 ∷ []) → two ≡ one ++ text_of_lines xs → three ≡ two ++ text_of_lines ys → three ≡ old ++ text_of_lines (line ∷ xs ++ ys)
three_parts old one two three line xs ys one_is two_is three_is = rw (three_is, two_is, one_is, text_of_lines-append xs ys) (simp append_assoc)
