-- Digits whose value isn't 0 have their reader: the last zero of too many is refused.
use Rattle.std.proofs.Common.{◌≡◌, ℕ, zero, suc, ◌+◌, ◌-◌, ◌*◌, ◌≤◌, true, false, List, [], ◌∷◌, ◌++◌, length, Result, inl, inr, refl, sym, ap, subst, ◌∙◌, arith}
use Rattle.std.proofs.lemmas.Bool.Decides.{eqb_tells}
use Rattle.span_text.specs.Language.{Rel, AllIn, NotStart, Begins, Answers}
use Rattle.span_text.specs.Classes.{is_digit}
use Rattle.span_text.specs.Reading.{◌>>=◌}
use Rattle.span_text.specs.Digits.{digits, Nonzero, ended, nonzero_at}
use Rattle.span_text.proofs.Answering.{halt, step, agree}
use Rattle.span_text.proofs.PieceLemmas.{bool_tells, Lives, agree_same}

-- the value isn't 0 already, or a digit may still come
nonzero_begins : {A : Type 0} (n a : ℕ) (F : ℕ → Rel A) → ((m : ℕ) → Lives is_digit (F m)) → (a ≡ 0 → 1 ≤ n) → Begins (Nonzero n a F) []
nonzero_begins n a F lives room = elim (eqb_tells a 0) [
  | inl q ↦ (let l = lives (digits a (49 ∷ [])) in (49 ∷ l.text, l.value, (refl, l.bytes), (49 ∷ [], l.text, refl, (refl, tt), room q.1, l.apart, (λ e. omega arith), l.reads)))
  | inr q ↦ (let l = lives a in (l.text, l.value, l.bytes, ([], l.text, refl, tt, omega arith, l.apart, q.1, l.reads)))
]

module _ {A : Type 0} (F : ℕ → Rel A) (k : ℕ → List ℕ → Result A ℕ) (lives : (m : ℕ) → Lives is_digit (F m)) where
  -- behind the digits
  nonzero_ended : (n a b : ℕ) (s : List ℕ) → is_digit b ≡ false → (a ≡ 0 → 1 ≤ n) → Answers (F a) (b ∷ s) (k a (b ∷ s)) → Answers (Nonzero n a F) (b ∷ s) (ended a (b ∷ s) >>= λ r. k r.0 r.1)
  nonzero_ended n a b s d room goes = elim (eqb_tells a 0) [
    | inl q ↦ rw q.0 (halt (Nonzero n a F) (b ∷ s) (nonzero_begins n a F lives room) (λ u v (x, z, e, i, m, p, nz, h). nonzero_none u x z e i nz q.1))
    | inr q ↦ rw q.0 (agree (Nonzero n a F) (F a) (b ∷ s) (k a (b ∷ s)) (nonzero_begins n a F lives room)
        (λ u v. (λ (x, z, e, i, m, p, nz, h). nonzero_here u x z e i v h, λ h. ([], b ∷ u, refl, tt, omega arith, d, q.1, h))) goes)
  ]
    where
      nonzero_none : (u x z : List ℕ) → b ∷ u ≡ x ++ z → AllIn is_digit x → (digits a x ≡ 0 → ⊥) → a ≡ 0 → ⊥
      nonzero_none u [] z e i nz q = nz q
      nonzero_none u (y ∷ x) z e i nz q = let f : b ≡ y = cc in let g : is_digit b ≡ true = ap is_digit f ∙ i.0 in cc

      nonzero_here : (u x z : List ℕ) → b ∷ u ≡ x ++ z → AllIn is_digit x → (v : A) → F (digits a x) z v → F a (b ∷ u) v
      nonzero_here u [] z e i v h = subst (λ (q : List ℕ). F a q v) (sym e) h
      nonzero_here u (y ∷ x) z e i v h = let f : b ≡ y = cc in let g : is_digit b ≡ true = ap is_digit f ∙ i.0 in absurd cc

  -- one digit more
  nonzero_step : (n a b : ℕ) (s : List ℕ) → is_digit b ≡ true → (10 * a + (b - 48) ≡ 0 → 1 ≤ n) → (r : Result A ℕ) → Answers (Nonzero n (10 * a + (b - 48)) F) s r → Answers (Nonzero (suc n) a F) (b ∷ s) r
  nonzero_step n a b s d room r h =
      step (Nonzero (suc n) a F) b s r (agree_same (λ u v. Nonzero (suc n) a F (b ∷ u) v) (Nonzero n (10 * a + (b - 48)) F) s r
      (let l = nonzero_begins n (10 * a + (b - 48)) F lives room in (l.0, l.1, l.2, nonzero_back l.0 l.1 l.3)) (λ u v. (λ (x, z, e, i, m, p, nz, f). nonzero_on u x z e i m p nz v f, nonzero_back u v)) h)
    where
      nonzero_back : (u : List ℕ) (v : A) → Nonzero n (10 * a + (b - 48)) F u v → Nonzero (suc n) a F (b ∷ u) v
      nonzero_back u v (x, z, e, i, m, p, nz, f) = (b ∷ x, z, ap (λ (q : List ℕ). b ∷ q) e, (d, i), omega arith, p, nz, f)

      nonzero_on : (u x z : List ℕ) → b ∷ u ≡ x ++ z → AllIn is_digit x → length x ≤ suc n → NotStart is_digit z → (digits a x ≡ 0 → ⊥) → (v : A) → F (digits a x) z v → Nonzero n (10 * a + (b - 48)) F u v
      nonzero_on u [] [] e i m p nz v f = absurd cc
      nonzero_on u [] (y ∷ z) e i m p nz v f = let g : b ≡ y = cc in let bad : is_digit b ≡ false = ap is_digit g ∙ p in absurd cc
      nonzero_on u (y ∷ x) z e i m p nz v f =
          let g : y ≡ b = cc in
          let j : u ≡ x ++ z = cc in
          (x, z, j, i.1, omega arith, p, subst (λ (q : ℕ). digits (10 * a + (q - 48)) x ≡ 0 → ⊥) g nz, subst (λ (q : ℕ). F (digits (10 * a + (q - 48)) x) z v) g f)

pub nonzero_answers : {A : Type 0} (F : ℕ → Rel A) (k : ℕ → List ℕ → Result A ℕ) → ((m : ℕ) → Lives is_digit (F m)) → (n a : ℕ) → (a ≡ 0 → 1 ≤ n) → (s : List ℕ) → ((m : ℕ) (t : List ℕ) → length t ≤ length s → Answers (F m) t (k m t)) → Answers (Nonzero n a F) s (nonzero_at n a s >>= λ r. k r.0 r.1)
unfolding nonzero_at
nonzero_answers {A} F k lives n a room [] goes = elim (eqb_tells a 0) [
  | inl q ↦ rw q.0 (halt (Nonzero n a F) [] (nonzero_begins n a F lives room) (λ v (x, z, e, i, m, p, nz, h). nonzero_nil x z e nz q.1))
  | inr q ↦ rw q.0 (agree (Nonzero n a F) (F a) [] (k a []) (nonzero_begins n a F lives room)
      (λ v. (λ (x, z, e, i, m, p, nz, h). nonzero_nil_here x z e v h, λ h. ([], [], refl, tt, omega arith, tt, q.1, h))) (goes a [] (omega arith)))
]
  where
    nonzero_nil : (x z : List ℕ) → [] ≡ x ++ z → (digits a x ≡ 0 → ⊥) → a ≡ 0 → ⊥
    nonzero_nil [] z e nz q = nz q
    nonzero_nil (y ∷ x) z e nz q = cc

    nonzero_nil_here : (x z : List ℕ) → [] ≡ x ++ z → (v : A) → F (digits a x) z v → F a [] v
    nonzero_nil_here [] z e v h = subst (λ (q : List ℕ). F a q v) (sym e) h
    nonzero_nil_here (y ∷ x) z e v h = absurd cc
nonzero_answers F k lives zero a room (b ∷ s) goes = elim (bool_tells (is_digit b)) [
  | inl d ↦ rw d (halt (Nonzero zero a F) (b ∷ s) (nonzero_begins zero a F lives room) (λ u v (x, z, e, i, m, p, nz, h). nonzero_full d u x z e m p))
  | inr d ↦ rw d (nonzero_ended F k lives zero a b s d room (goes a (b ∷ s) (omega arith)))
]
  where
    nonzero_full : is_digit b ≡ true → (u x z : List ℕ) → b ∷ u ≡ x ++ z → length x ≤ 0 → NotStart is_digit z → ⊥
    nonzero_full d u [] [] e m p = cc
    nonzero_full d u [] (y ∷ z) e m p = let f : b ≡ y = cc in let bad : is_digit b ≡ false = ap is_digit f ∙ p in cc
    nonzero_full d u (y ∷ x) z e m p = omega arith
nonzero_answers F k lives (suc zero) a room (b ∷ s) goes = elim (bool_tells (is_digit b)) [
  | inl d ↦ rw d (elim (eqb_tells (10 * a + (b - 48)) 0) [
    | inl q ↦ rw q.0 (halt (Nonzero (suc zero) a F) (b ∷ s) (nonzero_begins (suc zero) a F lives room) (λ u v (x, z, e, i, m, p, nz, h). nonzero_last d q.1 u x z e m p nz))
    | inr q ↦ rw q.0 (nonzero_step F k lives zero a b s d (λ e. absurd (q.1 e)) (nonzero_at zero (10 * a + (b - 48)) s >>= λ r. k r.0 r.1) (nonzero_answers F k lives zero (10 * a + (b - 48)) (λ e. absurd (q.1 e)) s (λ m t h. goes m t (omega arith))))
  ])
  | inr d ↦ rw d (nonzero_ended F k lives (suc zero) a b s d room (goes a (b ∷ s) (omega arith)))
]
  where
    nonzero_last : is_digit b ≡ true → 10 * a + (b - 48) ≡ 0 → (u x z : List ℕ) → b ∷ u ≡ x ++ z → length x ≤ 1 → NotStart is_digit z → (digits a x ≡ 0 → ⊥) → ⊥
    nonzero_last d q u [] [] e m p nz = cc
    nonzero_last d q u [] (y ∷ z) e m p nz = let f : b ≡ y = cc in let bad : is_digit b ≡ false = ap is_digit f ∙ p in cc
    nonzero_last d q u (y ∷ []) z e m p nz = let f : b ≡ y = cc in nz (subst (λ (w : ℕ). 10 * a + (w - 48) ≡ 0) f q)
    nonzero_last d q u (y ∷ w ∷ x) z e m p nz = omega arith
nonzero_answers F k lives (suc (suc n)) a room (b ∷ s) goes = elim (bool_tells (is_digit b)) [
  | inl d ↦ rw d (nonzero_step F k lives (suc n) a b s d (λ e. omega arith) (nonzero_at (suc n) (10 * a + (b - 48)) s >>= λ r. k r.0 r.1) (nonzero_answers F k lives (suc n) (10 * a + (b - 48)) (λ e. omega arith) s (λ m t h. goes m t (omega arith))))
  | inr d ↦ rw d (nonzero_ended F k lives (suc (suc n)) a b s d room (goes a (b ∷ s) (omega arith)))
]
