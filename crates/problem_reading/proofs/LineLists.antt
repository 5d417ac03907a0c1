-- Lines that were taken, and lines that are left.
use Rattle.std.proofs.Common.{◌≡◌, ℕ, ◌+◌, ◌<◌, List, [], ◌∷◌, ◌++◌, length, arith, sym, ap, ap₂, ◌∙◌}
use Rattle.std.proofs.lemmas.List.{append_assoc, append-nil, length-append}
use Rattle.std.proofs.lemmas.List.Splits.{join_with_byte-slice_split}
use Rattle.std.specs.List.{join_with_byte}
use Rattle.claim_writing.specs.Words.{line_of}
use Rattle.problem_reading.specs.Words.{words}

pub line_more : (all before left : List (List ℕ)) (line : List ℕ) (more : List (List ℕ)) → all ≡ before ++ left → left ≡ line ∷ more → all ≡ (before ++ line ∷ []) ++ more
line_more all before left line more is left_is = is ∙ (ap (λ l. before ++ l) left_is ∙ sym (append_assoc before (line ∷ []) more))

pub line_here : (all before left : List (List ℕ)) (line : List ℕ) (more : List (List ℕ)) → all ≡ before ++ left → left ≡ line ∷ more → all ≡ before ++ line ∷ more
line_here all before left line more is left_is = is ∙ ap (λ l. before ++ l) left_is

pub no_line_left : (all before left : List (List ℕ)) → all ≡ before ++ left → left ≡ [] → all ≡ before
no_line_left all before left is none = is ∙ (ap (λ l. before ++ l) none ∙ append-nil before)

-- a line that is still there has a number that isn't greater than the count
pub line_number : (all before left : List (List ℕ)) (line : List ℕ) (more : List (List ℕ)) → all ≡ before ++ left → left ≡ line ∷ more → length before < length all
line_number all before left line more is left_is =
    let here : all ≡ before ++ line ∷ more = line_here all before left line more is left_is in
    omega (arith, ap length here, length-append before (line ∷ more))

pub length_more : (before : List (List ℕ)) (line : List ℕ) (n : ℕ) → n ≡ length before → n + 1 ≡ length (before ++ line ∷ [])
length_more before line n is = omega (arith, length-append before (line ∷ []), is)

-- a line is that of its words
pub line-is : (line : List ℕ) (ws : List (List ℕ)) → words line ≡ ws → line ≡ line_of ws
line-is line ws e = sym (join_with_byte-slice_split 32 line) ∙ ap (join_with_byte 32) e

head-of : {X : Type 0} {x y : X} {xs ys : List X} → (x ∷ xs) ≡ (y ∷ ys) → (x ≡ y) × (xs ≡ ys)
head-of {X = X} {x = x} {xs = xs} e = (ap first e, ap rest e)
  where
    first : List X → X
    first [] = x
    first (z ∷ zs) = z

    rest : List X → List X
    rest [] = xs
    rest (z ∷ zs) = zs

-- of two fronts of a list the longer begins with the shorter, and with the element behind it
pub longer : {X : Type 0} (a b : List X) (x : X) (us vs : List X) → a ++ x ∷ us ≡ b ++ vs → length a < length b → (rest : List X) × (b ≡ (a ++ x ∷ []) ++ rest)
longer a [] x us vs e less = absurd (omega (arith, less))
longer [] (y ∷ b) x us vs e less = (b, ap (λ (z : _). z ∷ b) (sym (head-of e).0))
longer (z ∷ a) (y ∷ b) x us vs e less =
    let same = head-of e in
    let more = longer a b x us vs same.1 (omega (arith, less)) in
    (more.0, ap₂ (λ (w : _) (ws : List _). w ∷ ws) (sym same.0) more.1)

pub same-number : (a b m n : ℕ) → m ≡ a + 1 → n ≡ b + 1 → (a < b → ⊥) → (b < a → ⊥) → m ≡ n
same-number a b m n e f low high = omega (arith, e, f, low, high)
