-- A text cut at its first byte of a kind.
use Rattle.std.proofs.Common.{◌≡◌, ℕ, ◌+◌, ◌<◌, ◌==◌, List, [], ◌∷◌, ◌++◌, length, take, drop, All, false, true, get_or, slice_index, sym, ap, ◌∙◌, arith}
use Rattle.std.proofs.lemmas.List.Splits.{slice_split_at, slice_split_none, join_with_byte-slice_split}
use Rattle.std.specs.List.{join_with_byte}
use Rattle.span_text.proofs.TextCuts.Cuts.{first_part}
use Rattle.std.proofs.lemmas.List.{drop_more, take-append-drop}
use Rattle.std.proofs.lemmas.Bool.Decides.{nat_tests}
use Rattle.problem_reading.specs.Words.{parts}

same_byte : (end : ℕ) → (end == end) ≡ true
same_byte end = grind (arith, nat_tests)

pub split_at : (end : ℕ) (text : List ℕ) (n : ℕ) → n < length text → slice_index text n ≡ end → text ≡ take n text ++ end ∷ drop (n + 1) text
split_at end text n lt found =
    let rest : drop n text ≡ get_or text n 0 ∷ drop (n + 1) text = drop_more text n 0 lt in
    let joined : take n text ++ drop n text ≡ text = take-append-drop n text in
    cc

pub parts_at : (end : ℕ) (text : List ℕ) (n : ℕ) → n < length text → All (λ b. (b == end) ≡ false) (take n text) → slice_index text n ≡ end → parts end text ≡ take n text ∷ parts end (drop (n + 1) text)
parts_at end text n lt none found =
    ap (parts end) (split_at end text n lt found) ∙ slice_split_at (λ b. b == end) (take n text) end (drop (n + 1) text) none (same_byte end)

-- no byte of the text is this one
abbrev pub IsFree : ℕ → List ℕ → Type 0
IsFree end text = All (λ b. (b == end) ≡ false) text

pub parts_two : (end : ℕ) (a b : List ℕ) → IsFree end a → parts end (a ++ end ∷ b) ≡ a ∷ parts end b
parts_two end a b free = slice_split_at (λ b. b == end) a end b free (same_byte end)

pub parts_one : (end : ℕ) (a : List ℕ) → IsFree end a → parts end a ≡ a ∷ []
parts_one end a free = slice_split_none (λ b. b == end) a free

-- a text with the same parts is the same
pub same_text : (end : ℕ) (a b : List ℕ) → parts end a ≡ parts end b → a ≡ b
same_text end a b same = sym (join_with_byte-slice_split end a) ∙ (ap (join_with_byte end) same ∙ join_with_byte-slice_split end b)

-- where a text is cut once it has been cut so
pub cut_is : (end : ℕ) (text part rest a b : List ℕ) → parts end text ≡ part ∷ parts end rest → text ≡ a ++ end ∷ b → IsFree end a → (part ≡ a) × (rest ≡ b)
cut_is end text part rest a b cut whole free =
    let two : parts end (a ++ end ∷ b) ≡ a ∷ parts end b = parts_two end a b free in
    let same : part ∷ parts end rest ≡ a ∷ parts end b = sym cut ∙ (ap (parts end) whole ∙ two) in
    let rests : parts end rest ≡ parts end b = cc in
    (cc, same_text end rest b rests)

pub not_cut : (end : ℕ) (text part rest : List ℕ) → parts end text ≡ part ∷ parts end rest → IsFree end text → ⊥
not_cut end text part rest cut free =
    let one : parts end text ≡ text ∷ [] = parts_one end text free in
    let more = first_part (λ b. b == end) rest in
    let rest_is : parts end rest ≡ more.0 ∷ more.1 = more.2 in
    cc

pub not_whole : (end : ℕ) (text part a b : List ℕ) → parts end text ≡ part ∷ [] → text ≡ a ++ end ∷ b → IsFree end a → ⊥
not_whole end text part a b cut whole free =
    let two : parts end (a ++ end ∷ b) ≡ a ∷ parts end b = parts_two end a b free in
    let same : part ∷ [] ≡ a ∷ parts end b = sym cut ∙ (ap (parts end) whole ∙ two) in
    let more = first_part (λ b. b == end) b in
    let rest_is : parts end b ≡ more.0 ∷ more.1 = more.2 in
    cc

pub whole_is : (end : ℕ) (text part : List ℕ) → parts end text ≡ part ∷ [] → text ≡ part
whole_is end text part cut = sym (join_with_byte-slice_split end text) ∙ ap (join_with_byte end) cut
