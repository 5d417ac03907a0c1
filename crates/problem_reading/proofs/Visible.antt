-- Words have visible bytes alone, so that lines and texts are cut back into them.
use Rattle.std.proofs.Common.{◌≡◌, ℕ, ◌-◌, ◌<◌, ◌≤◌, ◌^◌, ◌==◌, List, [], ◌∷◌, ◌++◌, length, get_or, map, All, false, decimal, ℤ, pos, negsuc, unsigned_abs, ap, ◌∙◌, refl, arith, inl, inr, suc}
use Rattle.std.specs.Prelude.{codes}
use Rattle.std.specs.Char.{IsAsciiDigit}
use Rattle.std.specs.Fmt.{signed_decimal}
use Rattle.std.specs.List.{join_with_byte}
use Rattle.std.specs.Str.Lines.{lines, strip_carriage_return}
use Rattle.std.proofs.lemmas.Bool.Decides.{nat_tests}
use Rattle.std.proofs.lemmas.List.Elements.{All-cons, All-nil, All-append, All-weaker, All-head, All-tail, All-map}
use Rattle.span_text.proofs.TextCuts.Cuts.{lines_at}
use Rattle.frac_core.specs.Fraction.{Fraction, IsKept}
use Rattle.frac_core.specs.Text.{fraction_text}
use Rattle.problem_core.specs.declared.parts.Rel.{Rel}
use Rattle.problem_core.specs.declared.parts.Rel.TheVariants.{Eq, Le, Ge}
use Rattle.problem_core.specs.declared.parts.Term.{Term}
use Rattle.problem_core.specs.declared.parts.Stay.{Stay}
use Rattle.problem_core.specs.Kept.{IsRow, IsStay, IsTerm}
use Rattle.problem_core.specs.Layout.{Row, rel_word}
use Rattle.problem_reading.specs.Words.{words}
use Rattle.claim_writing.specs.Words.{line_of}
use Rattle.claim_writing.specs.Lines.{term_word, row_words, stay_words, text_of_lines}
use Rattle.problem_reading.proofs.Parts.{IsFree, parts_one, parts_two}
use Rattle.problem_reading.proofs.Numerals.Digits.{decimal_digits}
use Rattle.problem_reading.proofs.Numerals.Lowest.{text_cases}

abbrev pub IsVisible : List ℕ → Type 0
IsVisible w = All (λ b. 32 < b) w

pub visible : (b : ℕ) (w : List ℕ) → 32 < b → IsVisible w → IsVisible (b ∷ w)
visible b w is rest = All-cons (λ b. 32 < b) b w is rest

none : IsVisible []
none = All-nil (λ b. 32 < b)

pub both : (v w : List ℕ) → IsVisible v → IsVisible w → IsVisible (v ++ w)
both v w is_v is_w = All-append (λ b. 32 < b) v w is_v is_w

pub decimal_visible : (n : ℕ) → n < 10 ^ 19 → IsVisible (decimal n)
decimal_visible n small = let are = decimal_digits n small in All-weaker IsAsciiDigit (λ b. 32 < b) (λ b digit. omega (arith, digit.0)) (decimal n) are.digits

pub signed_visible : (z : ℤ) → unsigned_abs z < 10 ^ 18 → IsVisible (signed_decimal z)
signed_visible (pos n) small = decimal_visible n (omega (arith, small))
signed_visible (negsuc n) small = visible 45 (decimal (suc n)) (omega arith) (decimal_visible (suc n) (omega (arith, small)))

pub fraction_visible : (f : Fraction) → IsKept f → IsVisible (fraction_text f)
fraction_visible f kept =
    let num : IsVisible (signed_decimal f.num) = signed_visible f.num (omega (arith, kept.fits.num_fits)) in
    let den : IsVisible (decimal f.den) = decimal_visible f.den (omega (arith, kept.fits.den_fits)) in
    elim (text_cases f kept) [
      | inl whole ↦ rw whole.1 num
      | inr pair ↦ rw pair.1 (both (signed_decimal f.num) (47 ∷ decimal f.den) num (visible 47 (decimal f.den) (omega arith) den))
    ]

rel_visible : (r : Rel) → IsVisible (rel_word r)
rel_visible Eq = visible 61 (61 ∷ []) (omega arith) (visible 61 [] (omega arith) none)
rel_visible Le = visible 60 (61 ∷ []) (omega arith) (visible 61 [] (omega arith) none)
rel_visible Ge = visible 62 (61 ∷ []) (omega arith) (visible 61 [] (omega arith) none)

term_visible : (t : Term) → IsTerm t → IsVisible (term_word t)
term_visible t is = both (decimal t.attr) (58 ∷ signed_decimal t.by) (decimal_visible t.attr (omega (arith, is.attr.1)))
    (visible 58 (signed_decimal t.by) (omega arith) (signed_visible t.by (omega (arith, is.small))))

pub word : (w : List ℕ) (ws : List (List ℕ)) → IsVisible w → All IsVisible ws → All IsVisible (w ∷ ws)
word w ws is rest = All-cons IsVisible w ws is rest

pub row_visible : (r : Row) → IsRow r → All IsVisible (row_words r)
row_visible r is =
    word (codes "row") (decimal r.id ∷ decimal r.rank ∷ decimal r.weight ∷ rel_word r.rel ∷ decimal r.scale ∷ fraction_text r.constant ∷ map term_word r.terms) (visible 114 (codes "ow") (omega arith) (visible 111 (codes "w") (omega arith) (visible 119 [] (omega arith) none)))
    (word (decimal r.id) (decimal r.rank ∷ decimal r.weight ∷ rel_word r.rel ∷ decimal r.scale ∷ fraction_text r.constant ∷ map term_word r.terms) (decimal_visible r.id (omega (arith, is.number.1)))
    (word (decimal r.rank) (decimal r.weight ∷ rel_word r.rel ∷ decimal r.scale ∷ fraction_text r.constant ∷ map term_word r.terms) (decimal_visible r.rank (omega (arith, is.rank)))
    (word (decimal r.weight) (rel_word r.rel ∷ decimal r.scale ∷ fraction_text r.constant ∷ map term_word r.terms) (decimal_visible r.weight (omega (arith, is.weight.1)))
    (word (rel_word r.rel) (decimal r.scale ∷ fraction_text r.constant ∷ map term_word r.terms) (rel_visible r.rel)
    (word (decimal r.scale) (fraction_text r.constant ∷ map term_word r.terms) (decimal_visible r.scale (omega (arith, is.scale.1)))
    (word (fraction_text r.constant) (map term_word r.terms) (fraction_visible r.constant is.constant)
    (All-map IsVisible term_word r.terms (All-weaker IsTerm (λ t. IsVisible (term_word t)) term_visible r.terms is.terms))))))))

pub stay_visible : (s : Stay) → IsStay s → All IsVisible (stay_words s)
stay_visible s is =
    word (codes "stay") (decimal s.attr ∷ fraction_text s.target ∷ []) (visible 115 (codes "tay") (omega arith) (visible 116 (codes "ay") (omega arith) (visible 97 (codes "y") (omega arith) (visible 121 [] (omega arith) none))))
    (word (decimal s.attr) (fraction_text s.target ∷ []) (decimal_visible s.attr (omega (arith, is.attr.1)))
    (word (fraction_text s.target) [] (fraction_visible s.target is.target) (All-nil IsVisible)))

-- ---- words and lines

free_of : (end : ℕ) → end ≤ 32 → (w : List ℕ) → IsVisible w → IsFree end w
free_of end low w is = All-weaker (λ b. 32 < b) (λ b. (b == end) ≡ false) (λ b above. grind (arith, nat_tests)) w is

pub words_of_line : (w : List ℕ) (ws : List (List ℕ)) → All IsVisible (w ∷ ws) → words (line_of (w ∷ ws)) ≡ w ∷ ws
words_of_line w [] are = parts_one 32 w (free_of 32 (omega arith) w (All-head IsVisible w [] are))
words_of_line w (v ∷ ws) are =
    parts_two 32 w (join_with_byte 32 (v ∷ ws)) (free_of 32 (omega arith) w (All-head IsVisible w (v ∷ ws) are))
    ∙ ap (λ l. w ∷ l) (words_of_line v ws (All-tail IsVisible w (v ∷ ws) are))

-- a line has no byte below a space
pub line_bytes : (ws : List (List ℕ)) → All IsVisible ws → All (λ b. 31 < b) (line_of ws)
line_bytes [] are = All-nil (λ b. 31 < b)
line_bytes (w ∷ []) are = All-weaker (λ b. 32 < b) (λ b. 31 < b) (λ b above. omega (arith, above)) w (All-head IsVisible w [] are)
line_bytes (w ∷ v ∷ ws) are =
    All-append (λ b. 31 < b) w (32 ∷ join_with_byte 32 (v ∷ ws))
    (All-weaker (λ b. 32 < b) (λ b. 31 < b) (λ b above. omega (arith, above)) w (All-head IsVisible w (v ∷ ws) are))
    (All-cons (λ b. 31 < b) 32 (join_with_byte 32 (v ∷ ws)) (omega arith) (line_bytes (v ∷ ws) (All-tail IsVisible w (v ∷ ws) are)))

last_byte : (b : ℕ) (line : List ℕ) → All (λ b. 31 < b) (b ∷ line) → (get_or (b ∷ line) (length (b ∷ line) - 1) 0 == 13) ≡ false
last_byte b line are = let last : 31 < get_or (b ∷ line) (length (b ∷ line) - 1) 0 = are (length (b ∷ line) - 1) 0 (omega arith) in grind (arith, nat_tests)

no_return : (line : List ℕ) → All (λ b. 31 < b) line → strip_carriage_return line ≡ line
no_return [] are = refl
no_return (b ∷ line) are = rw (last_byte b line are) refl

pub lines_of_text : (ls : List (List ℕ)) → All (All (λ b. 31 < b)) ls → lines (text_of_lines ls) ≡ ls
lines_of_text [] are = refl
lines_of_text (line ∷ more) are =
    let here : All (λ b. 31 < b) line = All-head (All (λ b. 31 < b)) line more are in
    let free : All (λ b. (b == 10) ≡ false) line = All-weaker (λ b. 31 < b) (λ b. (b == 10) ≡ false) (λ b above. grind (arith, nat_tests)) line here in
    let rest : lines (text_of_lines more) ≡ more = lines_of_text more (All-tail (All (λ b. 31 < b)) line more are) in
    lines_at line (text_of_lines more) free ∙ (ap (λ l. l ∷ lines (text_of_lines more)) (no_return line here) ∙ ap (λ l. line ∷ l) rest)
