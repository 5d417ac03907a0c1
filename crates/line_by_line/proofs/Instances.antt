-- What the words of answers say of some bytes, where the answer to a line is the line itself.
use Rattle.std.proofs.Common.{◌≡◌, ◌∙◌, ◌⊎◌, ◌<◌, ◌==◌, ℕ, Bool, true, false, List, [], ◌∷◌, ◌++◌, Some, refl, sym, ap, subst, inl, inr, length, arith, length-append}
use Rattle.std.specs.Str.Lines.{lines}
use Rattle.std.proofs.lemmas.List.Elements.{All-nil, All-cons}
use Rattle.edge_io.specs.Feed.{IsUnended}
use Rattle.edge_io.proofs.Instances.{end_is_not_unended}
use Rattle.line_by_line.specs.Answers.{AnswersWhole, AreAnswered, Machine, texts_of}

abbrev echo : Machine ℕ
echo old line text good new = (text ≡ line) × (good ≡ true) × (new ≡ old)

-- `a` and its end were taken, `b` has no end yet, and `a` was written
pub answered_in_time : AnswersWhole (texts_of echo 0) (Some []) (Some (97 ∷ [])) (97 ∷ 10 ∷ 98 ∷ [])
answered_in_time = record {
  whole = 97 ∷ 10 ∷ [];
  begun = 98 ∷ [];
  parts = refl;
  ended = inr (97 ∷ [], refl);
  unended = All-cons (λ b. (b == 10) ≡ false) 98 [] refl (All-nil (λ b. (b == 10) ≡ false));
  text = 97 ∷ [];
  good = true;
  run = (0, (97 ∷ [], true, [], true, 0, (refl, refl, refl), refl, refl, (refl, refl, refl)));
  written = refl;
}

-- ---- an answer that comes late

abbrev head : List ℕ → ℕ
head [] = 0
head (x ∷ xs) = x

abbrev tail : List ℕ → List ℕ
tail [] = []
tail (x ∷ xs) = xs

cuts : (whole begun : List ℕ) → 97 ∷ 10 ∷ [] ≡ whole ++ begun → (whole ≡ []) ⊎ ((whole ≡ 97 ∷ []) ⊎ (whole ≡ 97 ∷ 10 ∷ []))
cuts [] begun is = inl refl
cuts (x ∷ []) begun is = inr (inl (ap (λ (n : ℕ). n ∷ []) (sym (ap head is))))
cuts (x ∷ y ∷ []) begun is =
    let one : x ≡ 97 = sym (ap head is) in
    let two : y ≡ 10 = sym (ap (λ (l : List ℕ). head (tail l)) is) in
    inr (inr (rw (one, two) refl))
cuts (x ∷ y ∷ z ∷ more) begun is = absurd (omega (arith, ap length is, length-append (x ∷ y ∷ z ∷ more) begun))

told_some : (line : List ℕ) (rest : List (List ℕ)) (text : List ℕ) (good : Bool) (last : ℕ) → 0 < length line → AreAnswered echo 0 (line ∷ rest) text good last → text ≡ [] → ⊥
told_some line rest text good last some (told, is_good, more, more_good, mid, is, text_is, good_is, run) none =
    omega (arith, some, ap length is.0, ap length text_is, length-append told more, ap length none)

-- a line that was taken has no answer yet
pub answered_late : AnswersWhole (texts_of echo 0) (Some []) (Some []) (97 ∷ 10 ∷ []) → ⊥
answered_late late = elim (cuts late.whole late.begun late.parts) [
  | inl is ↦
      let begun : 97 ∷ 10 ∷ [] ≡ late.begun = late.parts ∙ ap (λ (l : List ℕ). l ++ late.begun) is in
      end_is_not_unended (subst IsUnended (sym begun) late.unended)
  | inr (inl is) ↦
      let run : AreAnswered echo 0 (lines (97 ∷ [])) late.text late.good late.run.0 = subst (λ (w : List ℕ). AreAnswered echo 0 (lines w) late.text late.good late.run.0) is late.run.1 in
      told_some (97 ∷ []) [] late.text late.good late.run.0 (omega arith) run (sym late.written)
  | inr (inr is) ↦
      let run : AreAnswered echo 0 (lines (97 ∷ 10 ∷ [])) late.text late.good late.run.0 = subst (λ (w : List ℕ). AreAnswered echo 0 (lines w) late.text late.good late.run.0) is late.run.1 in
      told_some (97 ∷ []) [] late.text late.good late.run.0 (omega arith) run (sym late.written)
]
