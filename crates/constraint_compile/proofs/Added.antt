-- What terms add, and the terms.
use Rattle.std.proofs.Common.{◌≡◌, ℕ, ◌+◌, ◌<◌, arith, List, [], ◌∷◌, length, map, take, refl, sym, subst, ap, ◌∙◌}
use Rattle.std.proofs.Math.Path.{fun_ext}
use Rattle.std.proofs.lemmas.List.{length-map, take-map}
use Rattle.frac_core.specs.Fraction.{Fraction}
use Rattle.script_text.specs.Meaning.{Term}
use Rattle.view_tree.specs.Views.{LiveView}
use Rattle.problem_core.specs.declared.parts.Term.{Term as RowTerm}
use Rattle.compile_parts.specs.Fractions.{plus, AreSmall, IsScale}
use Rattle.compile_parts.specs.Meaning as meaning
use Rattle.compile_parts.specs.Meaning.{share, sum_at}
use Rattle.compile_parts.specs.Addends.{Addend, addend, addends, addends_view, sum_of, first_of}
use Rattle.compile_parts.specs.declared.addends.Addend as code
use Rattle.constraint_compile.specs.Coefficients.Sums.{first_sum, HasTooMany, AreTerms}
use Rattle.constraint_compile.specs.Stops.{AreSmallSums}

abbrev pub part_of : Addend → meaning.Part
part_of a = a.part

sum_at_same : (views : List LiveView) (terms : List Term) (v : ℕ) → sum_of (addends views terms) v ≡ sum_at views terms v
sum_at_same views [] v = refl
sum_at_same views (t ∷ terms) v = ap (plus (share views v t)) (sum_at_same views terms v)

-- the coefficients are the same
pub sum_same : (views : List LiveView) (terms : List Term) → sum_of (addends views terms) ≡ sum_at views terms
sum_same views terms = fun_ext (sum_at_same views terms)

pub first_same : (views : List LiveView) (terms : List Term) (n : ℕ) → first_of (addends views terms) n ≡ first_sum views terms n
first_same views terms n = ap sum_of (take-map (addend views) n terms) ∙ sum_same views (take n terms)

pub parts_same : (views : List LiveView) (terms : List Term) → map part_of (addends views terms) ≡ map meaning.part terms
parts_same views [] = refl
parts_same views (t ∷ terms) = ap (λ (ps : List meaning.Part). meaning.part t ∷ ps) (parts_same views terms)

pub same_count : (views : List LiveView) (terms : List Term) (added : List code.Addend) → addends_view added ≡ addends views terms → length added ≡ length terms
same_count views terms added of = sym (length-map added _) ∙ ap length of ∙ length-map terms (addend views)

-- ---- what holds of the sum holds of the terms

pub sum_is : (views : List LiveView) (terms : List Term) (added : List code.Addend) → addends_view added ≡ addends views terms → sum_of (addends_view added) ≡ sum_at views terms
sum_is views terms added of = ap sum_of of ∙ sum_same views terms

pub first_is : (views : List LiveView) (terms : List Term) (added : List code.Addend) (n : ℕ) → addends_view added ≡ addends views terms → first_of (addends_view added) n ≡ first_sum views terms n
first_is views terms added n of = ap (λ (xs : List Addend). first_of xs n) of ∙ first_same views terms n

pub many_is : (views : List LiveView) (terms : List Term) (added : List code.Addend) → addends_view added ≡ addends views terms → HasTooMany (sum_of (addends_view added)) → HasTooMany (sum_at views terms)
many_is views terms added of many = subst HasTooMany (sum_is views terms added of) many

pub few_is : (views : List LiveView) (terms : List Term) (added : List code.Addend) → addends_view added ≡ addends views terms → (HasTooMany (sum_of (addends_view added)) → ⊥) → HasTooMany (sum_at views terms) → ⊥
few_is views terms added of few many = few (subst HasTooMany (sym (sum_is views terms added of)) many)

-- after each addend the sum is small
abbrev pub AreSmallFirst : List code.Addend → Type 0
AreSmallFirst added = (i : ℕ) → i < length added → AreSmall (first_of (addends_view added) (i + 1))

pub small_is : (views : List LiveView) (terms : List Term) (added : List code.Addend) → addends_view added ≡ addends views terms → AreSmallFirst added → AreSmallSums views terms
small_is views terms added of small = λ i h. subst AreSmall (first_is views terms added (i + 1) of) (small i (omega (arith, h, same_count views terms added of)))

pub past_is : (views : List LiveView) (terms : List Term) (added : List code.Addend) → addends_view added ≡ addends views terms → (AreSmallFirst added → ⊥) → AreSmallSums views terms → ⊥
past_is views terms added of past small = past (λ i h. subst AreSmall (sym (first_is views terms added (i + 1) of)) (small i (omega (arith, h, same_count views terms added of))))

pub terms_is : (views : List LiveView) (terms : List Term) (added : List code.Addend) (row : List RowTerm) → addends_view added ≡ addends views terms → ((k : ℕ) → IsScale (sum_of (addends_view added)) k → AreTerms (sum_of (addends_view added)) k row)
    → (k : ℕ) → IsScale (sum_at views terms) k → AreTerms (sum_at views terms) k row
terms_is views terms added row of are = subst (λ (b : ℕ → Fraction). (k : ℕ) → IsScale b k → AreTerms b k row) (sum_is views terms added of) are
