-- Lines outside the form of problems.
use Rattle.std.proofs.Common.{◌≡◌, ℕ, ◌<◌, List, [], ◌∷◌, ◌++◌, length, refl, sym, ap, arith, inl, inr, true, true≢false}
use Rattle.std.proofs.lemmas.List.Elements.{recursion_from_All}
use Rattle.span_text.specs.Classes.{is_space}
use Rattle.claim_writing.specs.Lines.{row_words, stay_words}
use Rattle.problem_reading.specs.declared.problem.items.Item.{Item}
use Rattle.problem_reading.specs.declared.problem.items.Item.TheVariants.{Nothing, OfRow, OfStay}
use Rattle.problem_reading.specs.Words.{words}
use Rattle.problem_reading.specs.Problems.{Says, nothing_read}
use Rattle.problem_reading.specs.ProblemForms.{IsFirstOutsideProblem}
use Rattle.problem_reading.proofs.Problems.ProblemForms.{problems-are-the-form}

abbrev pub stray : List ℕ
stray = 0 ∷ []

one-word : (ws : List (List ℕ)) → words stray ≡ ws → length ws ≡ 1
one-word ws e = sym (ap length e)

says-none : (item : Item) → Says stray item → ⊥
says-none Nothing (inl spaces) = true≢false (sym (recursion_from_All (λ b. is_space b ≡ true) stray spaces).0)
says-none Nothing (inr (more, is)) = let e : 0 ≡ 35 = ap first is in absurd (omega (arith, e))
  where
    first : List ℕ → ℕ
    first [] = 0
    first (b ∷ bs) = b
says-none (OfRow r) (is, e) = absurd (omega (arith, one-word (row_words r) e))
says-none (OfStay s) (is, e) = absurd (omega (arith, one-word (stay_words s) e))

pub no-problem : (n : ℕ) → IsFirstOutsideProblem [] n → ⊥
no-problem n h = let e = ap length h.parts in absurd (omega (arith, e, many h.before))
  where
    many : (xs : List (List ℕ)) → 0 < length (xs ++ h.line ∷ h.after)
    many [] = omega arith
    many (x ∷ xs) = omega arith

pub stray-outside : IsFirstOutsideProblem (stray ∷ []) 1
stray-outside = problems-are-the-form.stop (stray ∷ []) 1 (record {
  before = [];
  line = stray;
  after = [];
  parts = refl;
  number = refl;
  so_far = nothing_read;
  reads = refl;
  bad = λ new step. says-none step.item step.says;
})
