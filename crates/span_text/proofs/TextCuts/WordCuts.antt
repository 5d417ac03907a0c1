-- The first word of a text.
use Rattle.std.proofs.Common.{◌≡◌, ℕ, ◌<◌, ◌≤◌, List, [], ◌∷◌, ◌++◌, length, take, drop, All, true, false, refl, ◌∙◌, sym, suc, add-zero, length-drop, zero, arith, slice_index}
use Rattle.std.proofs.lemmas.List.Splits.{slice_split_at, slice_split_none, slice_split-cons_yes}
use Rattle.std.proofs.lemmas.List.Elements.{All-head, All-tail}
use Rattle.std.proofs.lemmas.List.{append-nil, take-append-drop, length-take-le, get_or-drop}
use Rattle.std.proofs.lemmas.Bool.Decides.{nat_tests}
use Rattle.std.proofs.lemmas.Bool.{false≢true}
use Rattle.span_text.specs.Classes.{is_space}
use Rattle.span_text.specs.TextCuts.Words.{words_of, has_bytes}

-- a space begins no word
pub words_of-space : (x : ℕ) (xs : List ℕ) → is_space x ≡ true → words_of (x ∷ xs) ≡ words_of xs
words_of-space x xs space = rw (slice_split-cons_yes is_space x xs space) refl

pub words_of-spaces : (xs ys : List ℕ) → All (λ b. is_space b ≡ true) xs → words_of (xs ++ ys) ≡ words_of ys
words_of-spaces [] ys spaces = refl
words_of-spaces (x ∷ xs) ys spaces =
    words_of-space x (xs ++ ys) (All-head (λ b. is_space b ≡ true) x xs spaces)
    ∙ words_of-spaces xs ys (All-tail (λ b. is_space b ≡ true) x xs spaces)

pub words_of-word : (xs ys : List ℕ) → 0 < length xs → All (λ b. is_space b ≡ false) xs → (0 < length ys → is_space (slice_index ys 0) ≡ true) → words_of (xs ++ ys) ≡ xs ∷ words_of ys
words_of-word xs [] some none next =
    let word : has_bytes xs ≡ true = grind (arith, nat_tests) in
    rw (append-nil xs, slice_split_none is_space xs none, word) refl
words_of-word xs (y ∷ ys) some none next =
    let word : has_bytes xs ≡ true = grind (arith, nat_tests) in
    let space : is_space y ≡ true = next (omega arith) in
    rw (words_of-space y ys space, slice_split_at is_space xs y ys none space, word) refl

-- the same at a place in a text
pub skip_at : (text : List ℕ) (n : ℕ) → All (λ b. is_space b ≡ true) (take n text) → words_of text ≡ words_of (drop n text)
skip_at text n spaces =
    let parts : take n text ++ drop n text ≡ text = take-append-drop n text in
    let step : words_of (take n text ++ drop n text) ≡ words_of (drop n text) = words_of-spaces (take n text) (drop n text) spaces in
    rw parts at step

pub word_at : (text : List ℕ) (n : ℕ) → 0 < n → n ≤ length text → All (λ b. is_space b ≡ false) (take n text) → (n < length text → is_space (slice_index text n) ≡ true) → words_of text ≡ take n text ∷ words_of (drop n text)
word_at text n some le none next =
    let long : length (take n text) ≡ n = length-take-le n text le in
    let some_bytes : 0 < length (take n text) = omega arith in
    let after : 0 < length (drop n text) → is_space (slice_index (drop n text) 0) ≡ true =
    λ h. rw (get_or-drop n text 0 0, add-zero) (next (omega (arith, simp length-drop at h))) in
    let parts : take n text ++ drop n text ≡ text = take-append-drop n text in
    let step : words_of (take n text ++ drop n text) ≡ take n text ∷ words_of (drop n text) = words_of-word (take n text) (drop n text) some_bytes none after in
    rw parts at step

-- a word that begins at no space has a byte
pub has_byte : (text : List ℕ) (n : ℕ) → 0 < length text → (0 < length text → is_space (slice_index text 0) ≡ false) → (n < length text → is_space (slice_index text n) ≡ true) → 0 < n
has_byte text zero some front found = absurd (false≢true (sym (front some) ∙ found some))
has_byte text (suc n) some front found = omega arith
