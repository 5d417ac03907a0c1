-- The text of levels, one after the other.
use Rattle.std.proofs.Common.{◌≡◌, ℕ, ◌+◌, ◌<◌, List, [], ◌∷◌, ◌++◌, length, get_or, take, sym, ap, ◌∙◌, refl}
use Rattle.std.proofs.lemmas.List.{append_assoc, append-nil, take_more}
use Rattle.cert_core.specs.Claims.{BestLevel}
use Rattle.claim_writing.specs.Lines.{text_of_lines}
use Rattle.claim_writing.specs.ClaimLines.{level_lines, lines_of_levels}
use Rattle.claim_writing.proofs.Texts.{text_of_lines-append}

pub lines_of_levels-append : (xs ys : List BestLevel) → lines_of_levels (xs ++ ys) ≡ lines_of_levels xs ++ lines_of_levels ys
lines_of_levels-append [] ys = refl
lines_of_levels-append (x ∷ xs) ys = ap (λ l. level_lines x ++ l) (lines_of_levels-append xs ys) ∙ sym (append_assoc (level_lines x) (lines_of_levels xs) (lines_of_levels ys))

pub levels_item : (text old now : List ℕ) (xs : List BestLevel) (i : ℕ) (x : BestLevel) → i < length xs → x ≡ get_or xs i x → now ≡ old ++ text_of_lines (lines_of_levels (take i xs)) → text ≡ now ++ text_of_lines (level_lines x) → text ≡ old ++ text_of_lines (lines_of_levels (take (i + 1) xs))
levels_item text old now xs i x lt read is more =
    let taken : take (i + 1) xs ≡ take i xs ++ x ∷ [] = take_more xs i x lt ∙ ap (λ y. take i xs ++ y ∷ []) (sym read) in
    let lines : lines_of_levels (take (i + 1) xs) ≡ lines_of_levels (take i xs) ++ level_lines x =
    ap lines_of_levels taken ∙ (lines_of_levels-append (take i xs) (x ∷ []) ∙ ap (λ l. lines_of_levels (take i xs) ++ l) (append-nil (level_lines x))) in
    let whole : text_of_lines (lines_of_levels (take (i + 1) xs)) ≡ text_of_lines (lines_of_levels (take i xs)) ++ text_of_lines (level_lines x) =
    ap text_of_lines lines ∙ text_of_lines-append (lines_of_levels (take i xs)) (level_lines x) in
    more ∙ (ap (λ l. l ++ text_of_lines (level_lines x)) is ∙ (append_assoc old (text_of_lines (lines_of_levels (take i xs))) (text_of_lines (level_lines x)) ∙ ap (λ l. old ++ l) (sym whole)))

pub best_put : (old one two three front line back whole : List ℕ) → one ≡ old ++ front → two ≡ one ++ line → three ≡ two ++ back → whole ≡ front ++ (line ++ back) → three ≡ old ++ whole
best_put old one two three front line back whole one_is two_is three_is whole_is = rw (three_is, two_is, one_is, whole_is) (simp append_assoc)
