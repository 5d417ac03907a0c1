-- A format is compiled to one list of rows.
use Rattle.std.proofs.Common.{◌≡◌, ◌∙◌, inl, inr, ℕ, zero, suc, ◌+◌, ◌%◌, ◌<◌, ◌≤◌, Bool, true, false, List, [], ◌∷◌, ◌++◌, map, Option, None, Some, All, ℤ, pos, negsuc, refl, sym, ap₂, arith}
use Rattle.std.specs.Int.{IsGcd}
use Rattle.std.proofs.lemmas.Bool.Decides.{eqb_tells}
use Rattle.std.proofs.lemmas.List.Elements.{All-append, All-cons, All-head, All-map, All-nil, All-tail}
use Rattle.std.proofs.lemmas.Nat.Gcd.{IsGcd-from_mod, IsGcd-from_zero}
use Rattle.frac_core.proofs.Gauss.{reduces}
use Rattle.span_text.specs.Objects.{Meant}
use Rattle.span_text.specs.Objects as object
use Rattle.view_tree.specs.Views.{LiveView}
use Rattle.vfl_text.specs.Formats.{FormatMeaning, PredMeaning}
use Rattle.script_text.specs.Fractions.{divisor, divisor_within, lowest}
use Rattle.script_text.specs.Grammar.{decimal}
use Rattle.script_text.specs.Meaning.{Linear, Term}
use Rattle.script_text.specs.declared.words.Align.{Align}
use Rattle.script_text.specs.declared.words.AttrWord.{AttrWord}
use Rattle.script_text.specs.declared.words.Direction.{Direction}
use Rattle.compile_parts.specs.Meaning.{HasDenominator, MetricList, minus, terms_of}
use Rattle.constraint_compile.specs.Compiled.{CompiledLine, RowForm}
use Rattle.format_compile.specs.FormatLines.{end_term, line_of, lines_of, minus_terms, number, object_term}
use Rattle.format_compile.specs.FormatParts.{Asks, Bar, End, Part, Span, View, parts}
use Rattle.format_compile.specs.FormatRows.{AreRowsOf, IsCompiledFormat}
use Rattle.session_laws.specs.Posed.Definite.{IsDefiniteForm}
use Rattle.session_laws.proofs.Posing.LineRows.{one-row, row-definite, same-line}

-- ---- numbers as they are written

divisor_within-is : (n a b : ℕ) → b ≤ n → IsGcd a b (divisor_within n a b)
divisor_within-is zero a b few = IsGcd-from_zero a b (omega arith)
divisor_within-is (suc n) a b few = elim (eqb_tells b 0) [
  | inl q ↦ rw q.0 (IsGcd-from_zero a b q.1)
  | inr q ↦ rw q.0 (IsGcd-from_mod a b (divisor_within n b (a % b)) (divisor_within-is n b (a % b) (less q.1)))
]
  where
    less : (b ≡ 0 → ⊥) → a % b ≤ n
    less some = omega arith

divisor-is : (a b : ℕ) → IsGcd a b (divisor a b)
unfolding divisor
divisor-is a b = divisor_within-is b a b (omega arith)

pub lowest-above : (is_negative : Bool) (p q : ℕ) → 0 < q → 0 < (lowest is_negative p q).den
unfolding lowest
lowest-above is_negative p q above = (reduces p q (divisor p q) above (divisor-is p q)).den_above

-- thousandths have a denominator
pub decimal-above : (is_negative : Bool) (n : ℕ) → 0 < (decimal is_negative n).den
decimal-above is_negative n = lowest-above is_negative n 1000 (omega arith)

number-above : (z : ℤ) → 0 < (number z).den
number-above (pos n) = decimal-above false n
number-above (negsuc n) = decimal-above true (n + 1)

-- ---- the lines of a format

end-above : (views : List LiveView) (e : End) → HasDenominator (end_term views e)
end-above views e = decimal-above false 1000

object-above : (views : List LiveView) (w : AttrWord) (o : Meant) → HasDenominator (object_term views w o)
object-above views w (object.Number z) = number-above z
object-above views w (object.Name name) = decimal-above false 1000

lone : {A : Type 0} (P : A → Type 0) (x : A) → P x → All P (x ∷ [])
lone P x h = All-cons P x [] h (All-nil P)

less-above : (views : List LiveView) (o : Option End) → All (λ t. HasDenominator (minus t)) (minus_terms views o)
less-above views None = All-nil (λ (t : Term). HasDenominator (minus t))
less-above views (Some e) = lone (λ (t : Term). HasDenominator (minus t)) (end_term views e) (end-above views e)

line-of-above : (views : List LiveView) (s : Span) (p : PredMeaning) → All HasDenominator (terms_of (line_of views s p))
line-of-above views s p =
    let object : Term = object_term views s.plus.word p.object in
    All-append HasDenominator (end_term views s.plus ∷ []) (map minus (minus_terms views s.minus ++ object ∷ []))
    (lone HasDenominator (end_term views s.plus) (end-above views s.plus))
    (All-map HasDenominator minus (minus_terms views s.minus ++ object ∷ [])
    (All-append (λ (t : Term). HasDenominator (minus t)) (minus_terms views s.minus) (object ∷ []) (less-above views s.minus)
    (lone (λ (t : Term). HasDenominator (minus t)) object (object-above views s.plus.word p.object))))

lines-above : (views : List LiveView) (ps : List Part) → All (λ l. All HasDenominator (terms_of l)) (lines_of views ps)
lines-above views [] = All-nil (λ (l : Linear). All HasDenominator (terms_of l))
lines-above views (View name ∷ ps) = lines-above views ps
lines-above views (Bar name ∷ ps) = lines-above views ps
lines-above views (Asks s p ∷ ps) = All-cons (λ (l : Linear). All HasDenominator (terms_of l)) (line_of views s p) (lines_of views ps) (line-of-above views s p) (lines-above views ps)

-- ---- its rows

module _ (views : List LiveView) (metrics : MetricList) where
  one-rows : (ls : List Linear) (n : ℕ) (rs ss : List RowForm) → All (λ l. All HasDenominator (terms_of l)) ls → AreRowsOf views metrics ls n rs → AreRowsOf views metrics ls n ss → rs ≡ ss
  one-rows [] n [] [] above is also = refl
  one-rows [] n [] (s ∷ ss) above is also = absurd also
  one-rows [] n (r ∷ rs) ss above is also = absurd is
  one-rows (l ∷ ls) n [] ss above is also = absurd is
  one-rows (l ∷ ls) n (r ∷ rs) [] above is also = absurd also
  one-rows (l ∷ ls) n (r ∷ rs) (s ∷ ss) above is also =
      ap₂ (λ (x : RowForm) (xs : List RowForm). x ∷ xs)
      (one-row views metrics l n r s (All-head (λ (k : Linear). All HasDenominator (terms_of k)) l ls above) is.0.is_row also.0.is_row)
      (one-rows ls (n + 1) rs ss (All-tail (λ (k : Linear). All HasDenominator (terms_of k)) l ls above) is.1 also.1)

  rows-definite : (ls : List Linear) (n : ℕ) (rs : List RowForm) → All (λ l. All HasDenominator (terms_of l)) ls → AreRowsOf views metrics ls n rs → All IsDefiniteForm rs
  rows-definite ls n [] above is = All-nil IsDefiniteForm
  rows-definite [] n (r ∷ rs) above is = absurd is
  rows-definite (l ∷ ls) n (r ∷ rs) above is =
      All-cons IsDefiniteForm r rs
      (row-definite views metrics l n r (All-head (λ (k : Linear). All HasDenominator (terms_of k)) l ls above) is.0.is_row)
      (rows-definite ls (n + 1) rs (All-tail (λ (k : Linear). All HasDenominator (terms_of k)) l ls above) is.1)

  pub one-format : (f : FormatMeaning) (align : Option Align) (d : Direction) (n : ℕ) (a b : CompiledLine) → IsCompiledFormat views metrics f align d n a → IsCompiledFormat views metrics f align d n b → a ≡ b
  one-format f align d n a b is also =
      same-line a b (one-rows (lines_of views (parts f align d)) n a.rows b.rows (lines-above views (parts f align d)) is.rows also.rows) (is.views_named ∙ sym also.views_named)

  pub format-definite : (f : FormatMeaning) (align : Option Align) (d : Direction) (n : ℕ) (a : CompiledLine) → IsCompiledFormat views metrics f align d n a → All IsDefiniteForm a.rows
  format-definite f align d n a is = rows-definite (lines_of views (parts f align d)) n a.rows (lines-above views (parts f align d)) is.rows
