-- The words of terms.
use Rattle.std.proofs.Common.{◌≡◌, ℕ, ℤ, ◌<◌, ◌≤◌, ◌^◌, ◌==◌, List, [], ◌∷◌, ◌++◌, length, All, Bool, false, IsTrue, ◌↔◌, decimal, pos, ap, ap₂, sym, ◌∙◌, arith, map}
use Rattle.std.proofs.lemmas.List.{append_assoc}
use Rattle.std.specs.Char.{IsAsciiDigit}
use Rattle.std.specs.Fmt.{signed_decimal}
use Rattle.std.specs.Int.RustNames.{unsigned_abs}
use Rattle.std.proofs.lemmas.Bool.Decides.{nat_tests}
use Rattle.std.proofs.lemmas.Bool.{false≢true}
use Rattle.std.proofs.lemmas.List.{length-append, length_push}
use Rattle.problem_core.specs.declared.parts.Term.{Term}
use Rattle.problem_core.specs.Kept.{IsTerm}
use Rattle.problem_reading.specs.Words.{parts}
use Rattle.claim_writing.specs.Lines.{term_word}
use Rattle.problem_reading.specs.RowParts.{AreTerms}
use Rattle.problem_reading.proofs.Parts.{IsFree, parts_two, cut_is, not_whole, same_text}
use Rattle.problem_reading.proofs.Numerals.Digits.{decimal_free, same_value, same_integer}
use Rattle.problem_reading.proofs.Rising.{All-last, All-at_end, begins}
use Rattle.frac_core.proofs.Lists.{all-front as All-front, pairs-front as AllPairs-front}

colon_apart : (b : ℕ) → IsAsciiDigit b → (b == 58) ≡ false
colon_apart b digit = grind (arith, nat_tests)

attr_small : (t : Term) → IsTerm t → t.attr < 10 ^ 19
attr_small t is = omega (arith, is.attr.1)

attr_free : (t : Term) → IsTerm t → IsFree 58 (decimal t.attr)
attr_free t is = decimal_free 58 t.attr colon_apart (attr_small t is)

term_from : ℕ → ℤ → Term
term_from attr by = record { attr = attr; by = by }

-- one term at most has this word
pub same_term : (s t : Term) → IsTerm s → IsTerm t → term_word s ≡ term_word t → s ≡ t
unfolding term_from
same_term s t is_s is_t same =
    let of_s : parts 58 (term_word s) ≡ decimal s.attr ∷ parts 58 (signed_decimal s.by) = parts_two 58 (decimal s.attr) (signed_decimal s.by) (attr_free s is_s) in
    let of_t : parts 58 (term_word t) ≡ decimal t.attr ∷ parts 58 (signed_decimal t.by) = parts_two 58 (decimal t.attr) (signed_decimal t.by) (attr_free t is_t) in
    let both : decimal s.attr ∷ parts 58 (signed_decimal s.by) ≡ decimal t.attr ∷ parts 58 (signed_decimal t.by) = sym of_s ∙ (ap (parts 58) same ∙ of_t) in
    let attrs : decimal s.attr ≡ decimal t.attr = cc in
    let bys : parts 58 (signed_decimal s.by) ≡ parts 58 (signed_decimal t.by) = cc in
    let attr : s.attr ≡ t.attr = same_value s.attr t.attr (attr_small s is_s) (attr_small t is_t) attrs in
    let by : s.by ≡ t.by = same_integer s.by t.by (omega (arith, is_s.small)) (omega (arith, is_t.small)) (same_text 58 (signed_decimal s.by) (signed_decimal t.by) bys) in
    ap₂ term_from attr by

pub no_colon : (word part : List ℕ) → parts 58 word ≡ part ∷ [] → (t : Term) → IsTerm t → word ≡ term_word t → ⊥
no_colon word part cut t is same = not_whole 58 word part (decimal t.attr) (signed_decimal t.by) cut same (attr_free t is)

pub colon : (word attr by : List ℕ) → parts 58 word ≡ attr ∷ parts 58 by → ((t : Term) → IsTerm t → attr ≡ decimal t.attr → by ≡ signed_decimal t.by → ⊥) → (t : Term) → IsTerm t → word ≡ term_word t → ⊥
colon word attr by cut none t is same =
    let both = cut_is 58 word attr by (decimal t.attr) (signed_decimal t.by) cut same (attr_free t is) in
    none t is both.0 both.1

-- the product of these is the term of those words, and no other
pub product_none : (t : Term) (word : List ℕ) (by : ℤ) → unsigned_abs by ≤ 2 ^ 30 → by ≡ pos 0 → word ≡ signed_decimal by → IsTerm t → word ≡ signed_decimal t.by → ⊥
product_none t word by small zero is is_t same =
    is_t.nonzero (same_integer t.by by (omega (arith, is_t.small)) (omega (arith, small)) (sym same ∙ is) ∙ zero)

-- ---- lists of terms

pub AreTerms-front : (terms more : List Term) → AreTerms (terms ++ more) → AreTerms terms
AreTerms-front terms more are = record {
  each = All-front IsTerm terms more are.each;
  rising = AllPairs-front (λ s u. s.attr < u.attr) terms more are.rising;
  count = omega (arith, length-append terms more, are.count);
}

stuck_at : (terms : List Term) (word : List ℕ) (more : List (List ℕ)) (next ts : List Term) → AreTerms ts → ts ≡ terms ++ next → word ∷ more ≡ map term_word next
    → ((t : Term) → AreTerms (terms ++ t ∷ []) → word ≡ term_word t → ⊥) → ⊥
stuck_at terms word more [] ts are is words none = absurd (cc)
stuck_at terms word more (t ∷ next) ts are is words none =
    let joined : (terms ++ t ∷ []) ++ next ≡ ts = append_assoc terms (t ∷ []) next ∙ sym is in
    none t (AreTerms-front (terms ++ t ∷ []) next (rw joined are)) (cc)

-- Where no term may follow with the next word, the words are those of no terms.
pub stuck : (all left : List (List ℕ)) (word : List ℕ) (more : List (List ℕ)) (terms : List Term)
    → all ≡ map term_word terms ++ left → left ≡ word ∷ more → AreTerms terms
    → ((t : Term) → AreTerms (terms ++ t ∷ []) → word ≡ term_word t → ⊥)
    → (ts : List Term) → AreTerms ts → all ≡ map term_word ts → ⊥
stuck all left word more terms is left_is are none ts are_ts is_ts =
    let found = begins IsTerm term_word same_term terms ts (word ∷ more) are.each are_ts.each (sym is_ts ∙ (is ∙ ap (λ l. map term_word terms ++ l) left_is)) in
    stuck_at terms word more found.0 ts are_ts found.1 found.2 none

-- ---- where the words are read

pub AreTerms-last : (terms : List Term) (t : Term) → AreTerms (terms ++ t ∷ []) → IsTerm t × All (λ s. s.attr < t.attr) terms × (length terms < 32)
AreTerms-last terms t are = (
  All-at_end IsTerm terms t are.each,
  All-last (λ s u. s.attr < u.attr) terms t are.rising,
  omega (arith, length_push terms t, are.count),
)

pub not_above : (terms : List Term) (s t : Term) (word : List ℕ) (b : Bool) → IsTerm s → word ≡ term_word s → IsTrue b ↔ All (λ u. u.attr < s.attr) terms → b ≡ false
    → AreTerms (terms ++ t ∷ []) → word ≡ term_word t → ⊥
not_above terms s t word b is_s s_is means is_no are t_is =
    let last = AreTerms-last terms t are in
    let same : t ≡ s = same_term t s last.0 is_s (sym t_is ∙ s_is) in
    let above : All (λ u. u.attr < s.attr) terms = rw same at last.1 in
    let yes : IsTrue b = means.1 above in
    false≢true (rw is_no at yes)
