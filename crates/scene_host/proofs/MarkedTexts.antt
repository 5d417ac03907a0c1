-- Texts with a mark in front of each line, byte by byte.
use Rattle.std.proofs.Common.{◌≡◌, ◌∙◌, ℕ, zero, suc, ◌+◌, ◌<◌, ◌≤◌, ◌==◌, Bool, true, false, List, [], ◌∷◌, ◌++◌, drop, get_or, length, length-append, refl, sym, ap, arith, append_assoc}
use Rattle.scene_host.specs.Marks.{marked_byte, marked_from}

-- the byte at a place, and those behind it
bytes_left : (text : List ℕ) (i d : ℕ) → i < length text → drop i text ≡ get_or text i d ∷ drop (i + 1) text
bytes_left [] i d h = absurd (omega (arith, h))
bytes_left (b ∷ bs) zero d h = refl
bytes_left (b ∷ bs) (suc i) d h =
    let one_more : suc (i + 1) ≡ suc i + 1 = omega arith in
    bytes_left bs i d (omega (arith, h)) ∙ ap (λ n. get_or bs i d ∷ drop n (b ∷ bs)) one_more

-- a byte is put, and those behind it are left
pub marked-next : (before text : List ℕ) (begins : Bool) (i d : ℕ) → i < length text
    → marked_from before begins (drop i text) ≡ marked_byte before begins (get_or text i d) ++ marked_from before (get_or text i d == 10) (drop (i + 1) text)
marked-next before text begins i d h = ap (marked_from before begins) (bytes_left text i d h)

-- what is put and what is left are the whole
pub marked-on : (before text whole was now : List ℕ) (begins : Bool) (i d : ℕ) → i < length text
    → was ++ marked_from before begins (drop i text) ≡ whole → now ≡ was ++ marked_byte before begins (get_or text i d)
    → now ++ marked_from before (get_or text i d == 10) (drop (i + 1) text) ≡ whole
marked-on before text whole was now begins i d h all is =
    let rest : List ℕ = marked_from before (get_or text i d == 10) (drop (i + 1) text) in
    ap (λ (t : List ℕ). t ++ rest) is ∙ append_assoc was (marked_byte before begins (get_or text i d)) rest
    ∙ ap (λ (t : List ℕ). was ++ t) (sym (marked-next before text begins i d h)) ∙ all

-- with no mark the text is as it was
pub no_mark : (begins : Bool) (text : List ℕ) → marked_from [] begins text ≡ text
no_mark true [] = refl
no_mark false [] = refl
no_mark true (b ∷ bs) = ap (λ (t : List ℕ). b ∷ t) (no_mark (b == 10) bs)
no_mark false (b ∷ bs) = ap (λ (t : List ℕ). b ∷ t) (no_mark (b == 10) bs)

-- behind a front of it something more is a front too
pub front-on : (first was now part piece : List ℕ) → was ≡ first ++ part → now ≡ was ++ piece → (rest : List ℕ) × (now ≡ first ++ rest)
front-on first was now part piece front put = (part ++ piece, put ∙ (ap (λ (t : List ℕ). t ++ piece) front ∙ append_assoc first part piece))

-- what is put next is within the room for the whole
pub room-next : (before text whole was : List ℕ) (begins : Bool) (i d : ℕ) → i < length text
    → was ++ marked_from before begins (drop i text) ≡ whole → length was + length (marked_byte before begins (get_or text i d)) ≤ length whole
room-next before text whole was begins i d h all =
    let piece : List ℕ = marked_byte before begins (get_or text i d) in
    let rest : List ℕ = marked_from before (get_or text i d == 10) (drop (i + 1) text) in
    let parts : was ++ (piece ++ rest) ≡ whole = ap (λ (t : List ℕ). was ++ t) (sym (marked-next before text begins i d h)) ∙ all in
    let count : length whole ≡ length was + (length piece + length rest) = sym (ap length parts) ∙ (length-append was (piece ++ rest) ∙ ap (λ n. length was + n) (length-append piece rest)) in
    omega (arith, count)
