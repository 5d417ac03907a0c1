-- One row, one stay, one fraction at most has these words.
use Rattle.std.proofs.Common.{◌≡◌, ℕ, List, [], ◌∷◌, ◌++◌, get_or, drop, All, true, false, decimal, ap, ap₂, sym, ◌∙◌, arith, map, inl, inr, refl}
use Rattle.std.specs.Prelude.{codes}
use Rattle.std.specs.Fmt.{signed_decimal}
use Rattle.std.specs.List.{join_with_byte}
use Rattle.std.proofs.lemmas.Bool.{false≢true}
use Rattle.std.proofs.lemmas.List.{append-nil}
use Rattle.std.proofs.lemmas.List.Splits.{join_with_byte-slice_split}
use Rattle.span_text.specs.Classes.{is_space}
use Rattle.frac_core.specs.Fraction.{Fraction, IsKept}
use Rattle.frac_core.specs.Text.{fraction_text}
use Rattle.problem_core.specs.declared.parts.Rel.{Rel}
use Rattle.problem_core.specs.declared.parts.Rel.TheVariants.{Eq, Le, Ge}
use Rattle.problem_core.specs.declared.parts.Term.{Term}
use Rattle.problem_core.specs.declared.parts.Stay.{Stay}
use Rattle.problem_core.specs.Kept.{IsRow, IsStay, IsTerm}
use Rattle.problem_core.specs.Layout.{Row, rel_word}
use Rattle.problem_reading.specs.declared.problem.items.Item.{Item}
use Rattle.problem_reading.specs.declared.problem.items.Item.TheVariants.{Nothing, OfRow, OfStay}
use Rattle.problem_reading.specs.Words.{words}
use Rattle.claim_writing.specs.Lines.{row_words, stay_words, term_word}
use Rattle.problem_reading.specs.Problems.{Says, IsPassedOver}
use Rattle.problem_reading.proofs.Parts.{parts_two, cut_is, not_whole, parts_one}
use Rattle.problem_reading.proofs.Numerals.Digits.{same_value, same_integer}
use Rattle.problem_reading.proofs.Numerals.Lowest.{text_cases, num_free}
use Rattle.problem_reading.proofs.Rising.{begins}
use Rattle.problem_reading.proofs.Problems.Terms.{same_term}
use Rattle.frac_core.proofs.Made.{same_parts}

fraction_num : (f g : Fraction) → IsKept f → IsKept g → signed_decimal f.num ≡ signed_decimal g.num → f.num ≡ g.num
fraction_num f g kept_f kept_g same = same_integer f.num g.num (omega (arith, kept_f.fits.num_fits)) (omega (arith, kept_g.fits.num_fits)) same

mixed : (f g : Fraction) → IsKept f → IsKept g → signed_decimal f.num ≡ signed_decimal g.num ++ 47 ∷ decimal g.den → ⊥
mixed f g kept_f kept_g same =
    not_whole 47 (signed_decimal f.num) (signed_decimal f.num) (signed_decimal g.num) (decimal g.den) (parts_one 47 (signed_decimal f.num) (num_free f kept_f)) same (num_free g kept_g)

quotients : (f g : Fraction) → IsKept f → IsKept g → signed_decimal f.num ++ 47 ∷ decimal f.den ≡ signed_decimal g.num ++ 47 ∷ decimal g.den → f ≡ g
quotients f g kept_f kept_g same =
    let cut = cut_is 47 (signed_decimal f.num ++ 47 ∷ decimal f.den) (signed_decimal f.num) (decimal f.den) (signed_decimal g.num) (decimal g.den) (parts_two 47 (signed_decimal f.num) (decimal f.den) (num_free f kept_f)) same (num_free g kept_g) in
    same_parts f g (fraction_num f g kept_f kept_g cut.0) (same_value f.den g.den (omega (arith, kept_f.fits.den_fits)) (omega (arith, kept_g.fits.den_fits)) cut.1)

pub same_fraction_text : (f g : Fraction) → IsKept f → IsKept g → fraction_text f ≡ fraction_text g → f ≡ g
same_fraction_text f g kept_f kept_g same = elim (text_cases f kept_f) [
  | inl whole_f ↦ elim (text_cases g kept_g) [
    | inl whole_g ↦ same_parts f g (fraction_num f g kept_f kept_g (sym whole_f.1 ∙ (same ∙ whole_g.1))) (whole_f.0 ∙ sym whole_g.0)
    | inr pair_g ↦ absurd (mixed f g kept_f kept_g (sym whole_f.1 ∙ (same ∙ pair_g.1)))
  ]
  | inr pair_f ↦ elim (text_cases g kept_g) [
    | inl whole_g ↦ absurd (mixed g f kept_g kept_f (sym whole_g.1 ∙ (sym same ∙ pair_f.1)))
    | inr pair_g ↦ quotients f g kept_f kept_g (sym pair_f.1 ∙ (same ∙ pair_g.1))
  ]
]

-- ---- stays

stay_from : ℕ → Fraction → Stay
stay_from attr target = record { attr = attr; target = target }

pub same_stay : (s t : Stay) → IsStay s → IsStay t → stay_words s ≡ stay_words t → s ≡ t
unfolding stay_from
same_stay s t is_s is_t same =
    let attrs : decimal s.attr ≡ decimal t.attr = ap (λ ws. get_or ws 1 []) same in
    let targets : fraction_text s.target ≡ fraction_text t.target = ap (λ ws. get_or ws 2 []) same in
    ap₂ stay_from (same_value s.attr t.attr (omega (arith, is_s.attr.1)) (omega (arith, is_t.attr.1)) attrs) (same_fraction_text s.target t.target is_s.target is_t.target targets)

-- ---- rows

first : List ℕ → ℕ
first w = get_or w 0 0

pub same_rel : (a b : Rel) → rel_word a ≡ rel_word b → a ≡ b
unfolding first
same_rel Eq Eq same = refl
same_rel Le Le same = refl
same_rel Ge Ge same = refl
same_rel Eq Le same = absurd (let h : 61 ≡ 60 = ap first same in omega arith)
same_rel Eq Ge same = absurd (let h : 61 ≡ 62 = ap first same in omega arith)
same_rel Le Eq same = absurd (let h : 60 ≡ 61 = ap first same in omega arith)
same_rel Le Ge same = absurd (let h : 60 ≡ 62 = ap first same in omega arith)
same_rel Ge Eq same = absurd (let h : 62 ≡ 61 = ap first same in omega arith)
same_rel Ge Le same = absurd (let h : 62 ≡ 60 = ap first same in omega arith)

nothing_more : (ys more : List Term) → [] ≡ map term_word more → ys ++ more ≡ ys
nothing_more ys [] none = append-nil ys
nothing_more ys (t ∷ more) none = absurd (cc)

pub same_terms : (xs ys : List Term) → All IsTerm xs → All IsTerm ys → map term_word xs ≡ map term_word ys → xs ≡ ys
same_terms xs ys are_x are_y same =
    let found = begins IsTerm term_word same_term ys xs [] are_y are_x (same ∙ sym (append-nil (map term_word ys))) in
    found.1 ∙ nothing_more ys found.0 found.2

row_made : ℕ → ℕ → ℕ → Rel → ℕ → Fraction → List Term → Row
row_made id rank weight rel scale constant terms = record { id = id; rank = rank; weight = weight; rel = rel; scale = scale; constant = constant; terms = terms }

rows_made : (a b c d e f : ℕ) (g h : ℕ) (r s : Rel) (p q : Fraction) (xs ys : List Term) → a ≡ b → c ≡ d → e ≡ f → r ≡ s → g ≡ h → p ≡ q → xs ≡ ys → row_made a c e r g p xs ≡ row_made b d f s h q ys
rows_made a b c d e f g h r s p q xs ys e1 e2 e3 e4 e5 e6 e7 = cc

pub same_row : (r q : Row) → IsRow r → IsRow q → row_words r ≡ row_words q → r ≡ q
unfolding row_made
same_row r q is_r is_q same =
    let ids : decimal r.id ≡ decimal q.id = ap (λ ws. get_or ws 1 []) same in
    let ranks : decimal r.rank ≡ decimal q.rank = ap (λ ws. get_or ws 2 []) same in
    let weights : decimal r.weight ≡ decimal q.weight = ap (λ ws. get_or ws 3 []) same in
    let rels : rel_word r.rel ≡ rel_word q.rel = ap (λ ws. get_or ws 4 []) same in
    let scales : decimal r.scale ≡ decimal q.scale = ap (λ ws. get_or ws 5 []) same in
    let constants : fraction_text r.constant ≡ fraction_text q.constant = ap (λ ws. get_or ws 6 []) same in
    let terms : map term_word r.terms ≡ map term_word q.terms = ap (λ ws. drop 7 ws) same in
    rows_made r.id q.id r.rank q.rank r.weight q.weight r.scale q.scale r.rel q.rel r.constant q.constant r.terms q.terms
    (same_value r.id q.id (omega (arith, is_r.number.1)) (omega (arith, is_q.number.1)) ids)
    (same_value r.rank q.rank (omega (arith, is_r.rank)) (omega (arith, is_q.rank)) ranks)
    (same_value r.weight q.weight (omega (arith, is_r.weight.1)) (omega (arith, is_q.weight.1)) weights)
    (same_rel r.rel q.rel rels)
    (same_value r.scale q.scale (omega (arith, is_r.scale.1)) (omega (arith, is_q.scale.1)) scales)
    (same_fraction_text r.constant q.constant is_r.constant is_q.constant constants)
    (same_terms r.terms q.terms is_r.terms is_q.terms terms)

-- ---- what a line says

-- the first byte of a line is that of its first word
pub first_byte : (line : List ℕ) (b : ℕ) (w : List ℕ) (ws : List (List ℕ)) → words line ≡ (b ∷ w) ∷ ws → (rest : List ℕ) × (line ≡ b ∷ rest)
first_byte line b w [] cut = (w, sym (join_with_byte-slice_split 32 line) ∙ ap (join_with_byte 32) cut)
first_byte line b w (v ∷ ws) cut = (w ++ 32 ∷ join_with_byte 32 (v ∷ ws), sym (join_with_byte-slice_split 32 line) ∙ ap (join_with_byte 32) cut)

passed_is : (line : List ℕ) (b : ℕ) (rest : List ℕ) → line ≡ b ∷ rest → is_space b ≡ false → (b ≡ 35 → ⊥) → IsPassedOver line → ⊥
passed_is line b rest is no_space no_hash (inl blank) =
    let space : is_space b ≡ true = (rw is at blank) 0 0 (omega arith) in
    false≢true (sym no_space ∙ space)
passed_is line b rest is no_space no_hash (inr comment) = no_hash (cc (is, comment.1))

row_not_passed : (line : List ℕ) (r : Row) → words line ≡ row_words r → IsPassedOver line → ⊥
row_not_passed line r cut passed =
    let front = first_byte line 114 (codes "ow") _ cut in
    passed_is line 114 front.0 front.1 refl (λ h. omega (arith, h)) passed

stay_not_passed : (line : List ℕ) (s : Stay) → words line ≡ stay_words s → IsPassedOver line → ⊥
stay_not_passed line s cut passed =
    let front = first_byte line 115 (codes "tay") _ cut in
    passed_is line 115 front.0 front.1 refl (λ h. omega (arith, h)) passed

one_byte : (line : List ℕ) (b c : ℕ) (xs ys : List ℕ) → line ≡ b ∷ xs → line ≡ c ∷ ys → b ≡ c
one_byte line b c xs ys of_b of_c = cc

row_no_stay : (line : List ℕ) (r : Row) (s : Stay) → words line ≡ row_words r → words line ≡ stay_words s → ⊥
row_no_stay line r s of_row of_stay =
    let front_r = first_byte line 114 (codes "ow") _ of_row in
    let front_s = first_byte line 115 (codes "tay") _ of_stay in
    omega (arith, one_byte line 114 115 front_r.0 front_s.0 front_r.1 front_s.1)

pub one_item : (line : List ℕ) (a b : Item) → Says line a → Says line b → a ≡ b
one_item line Nothing Nothing of_a of_b = refl
one_item line Nothing (OfRow r) of_a of_b = absurd (row_not_passed line r of_b.1 of_a)
one_item line Nothing (OfStay s) of_a of_b = absurd (stay_not_passed line s of_b.1 of_a)
one_item line (OfRow r) Nothing of_a of_b = absurd (row_not_passed line r of_a.1 of_b)
one_item line (OfRow r) (OfRow q) of_a of_b = ap OfRow (same_row r q of_a.0 of_b.0 (sym of_a.1 ∙ of_b.1))
one_item line (OfRow r) (OfStay s) of_a of_b = absurd (row_no_stay line r s of_a.1 of_b.1)
one_item line (OfStay s) Nothing of_a of_b = absurd (stay_not_passed line s of_a.1 of_b)
one_item line (OfStay s) (OfRow r) of_a of_b = absurd (row_no_stay line r s of_b.1 of_a.1)
one_item line (OfStay s) (OfStay t) of_a of_b = ap OfStay (same_stay s t of_a.0 of_b.0 (sym of_a.1 ∙ of_b.1))
