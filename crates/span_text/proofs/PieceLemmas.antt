-- Each piece of a language has its reader.
use Rattle.std.proofs.Common.{◌≡◌, ℕ, zero, suc, ◌+◌, ◌<◌, ◌≤◌, Bool, true, false, ◌&&◌, cond, List, [], ◌∷◌, ◌++◌, length, Result, Ok, Err, ◌⊎◌, inl, inr, refl, sym, ap, subst, ◌∙◌, arith}
use Rattle.std.proofs.lemmas.Bool.Decides.{eqb_tells}
use Rattle.span_text.specs.Language.{Rel, AllIn, are_bytes, NotStart, End, Lit, One, Run, Few, Not, Or, Begins, Answers}
use Rattle.span_text.specs.Classes.{is_byte}
use Rattle.span_text.specs.Reading.{◌>>=◌, lit_at, front, back, one_at, not_at, end_at, few_at, put, starts}
use Rattle.span_text.proofs.Answering.{halt, step, agree}

-- a text of F that doesn't begin with a byte of the class: a way to go on
pub record Lives {A : Type 0} (c : ℕ → Bool) (F : Rel A) : Type 0 where
  pub text : List ℕ
  pub value : A
  pub apart : NotStart c text
  pub bytes : AllIn is_byte text
  pub reads : F text value

pub begins : {A : Type 0} {c : ℕ → Bool} {F : Rel A} → Lives c F → Begins F []
begins l = (l.text, l.value, l.bytes, l.reads)

-- the same texts
abbrev pub Same : {A : Type 0} → Rel A → Rel A → Type 0
Same {A} R S = (t : List ℕ) (v : A) → (R t v → S t v) × (S t v → R t v)

pub agree_same : {A : Type 0} (R S : Rel A) (s : List ℕ) (a : Result A ℕ) → Begins R [] → Same R S → Answers S s a → Answers R s a
agree_same R S [] a here same h = agree R S [] a here (λ v. same [] v) h
agree_same R S (b ∷ s) a here same h = agree R S (b ∷ s) a here (λ t v. same (b ∷ t) v) h

pub and_parts : (a b : Bool) → (a && b) ≡ true → (a ≡ true) × (b ≡ true)
and_parts true true e = (refl, refl)
and_parts true false e = absurd cc
and_parts false b e = absurd cc

-- bytes before bytes are bytes
pub bytes_before : (w x : List ℕ) → are_bytes w ≡ true → AllIn is_byte x → AllIn is_byte (w ++ x)
bytes_before [] x ok bytes = bytes
bytes_before (c ∷ w) x ok bytes = let p = and_parts (is_byte c) (are_bytes w) ok in (p.0, bytes_before w x p.1 bytes)

pub lit_answers : {A : Type 0} (F : Rel A) (k : List ℕ → Result A ℕ) → Begins F [] → (w s : List ℕ) → are_bytes w ≡ true → ((t : List ℕ) → length t + length w ≤ length s → Answers F t (k t)) → Answers (Lit w F) s (lit_at w s >>= k)
unfolding lit_at
lit_answers {A} F k here [] s ok goes = agree_same (Lit [] F) F s (k s) (here.0, here.1, here.2, (here.0, refl, here.3)) (λ t v. (λ (u, e, h). subst (λ (x : List ℕ). F x v) (sym e) h, λ h. (t, refl, h))) (goes s (omega arith))
lit_answers {A} F k here (c ∷ w) [] ok goes = halt (Lit (c ∷ w) F) [] ((c ∷ w) ++ here.0, here.1, bytes_before (c ∷ w) here.0 ok here.2, (here.0, refl, here.3)) (λ v (t, e, h). cc)
lit_answers {A} F k here (c ∷ w) (b ∷ s) ok goes =
    elim (eqb_tells b c) [
      | inl t ↦ rw t.0 (step (Lit (c ∷ w) F) b s (lit_at w s >>= k)
          (agree_same (λ u v. Lit (c ∷ w) F (b ∷ u) v) (Lit w F) s (lit_at w s >>= k)
          (w ++ here.0, here.1, bytes_before w here.0 (and_parts (is_byte c) (are_bytes w) ok).1 here.2, (here.0, ap (λ (x : ℕ). x ∷ (w ++ here.0)) t.1, here.3))
          (λ u v. (λ (z, e, h). (z, cc, h), λ (z, e, h). (z, cc, h)))
          (lit_answers F k here w s (and_parts (is_byte c) (are_bytes w) ok).1 (λ t h. goes t (omega arith)))))
      | inr t ↦ rw t.0 (halt (Lit (c ∷ w) F) (b ∷ s) ((c ∷ w) ++ here.0, here.1, bytes_before (c ∷ w) here.0 ok here.2, (here.0, refl, here.3)) (λ u v (z, e, h). t.1 cc))
    ]

pub bool_tells : (v : Bool) → (v ≡ true) ⊎ (v ≡ false)
bool_tells true = inl refl
bool_tells false = inr refl

pub one_answers : {A : Type 0} (c : ℕ → Bool) (F : ℕ → Rel A) (k : ℕ → List ℕ → Result A ℕ) → Begins (One c F) [] → ((b : ℕ) → c b ≡ true → Begins (F b) []) → (s : List ℕ) → ((b : ℕ) (t : List ℕ) → c b ≡ true → length t < length s → Answers (F b) t (k b t)) → Answers (One c F) s (one_at c s >>= λ x. k x.0 x.1)
unfolding one_at
one_answers c F k here lives [] goes = halt (One c F) [] here (λ v (b, t, e, h, f). cc)
one_answers c F k here lives (b ∷ s) goes =
    elim (bool_tells (c b)) [
      | inl t ↦ rw t (step (One c F) b s (k b s)
          (agree_same (λ u v. One c F (b ∷ u) v) (F b) s (k b s)
          (let l = lives b t in (l.0, l.1, l.2, (b, l.0, refl, t, l.3)))
          (λ u v. (λ (x, z, e, h, f). let e1 : b ≡ x = cc in let e2 : u ≡ z = cc in subst (λ (q : ℕ). F q u v) (sym e1) (subst (λ (q : List ℕ). F x q v) (sym e2) f), λ f. (b, u, refl, t, f)))
          (goes b s t (omega arith))))
      | inr t ↦ rw t (halt (One c F) (b ∷ s) here (λ u v (x, z, e, h, f). let e1 : b ≡ x = cc in let bad : c b ≡ true = ap c e1 ∙ h in cc))
    ]

pub not_answers : {A : Type 0} (c : ℕ → Bool) (F : Rel A) (k : List ℕ → Result A ℕ) → Lives c F → (s : List ℕ) → ((t : List ℕ) → length t ≤ length s → Answers F t (k t)) → Answers (Not c F) s (not_at c s >>= k)
unfolding not_at
not_answers c F k l [] goes = agree (Not c F) F [] (k []) (l.text, l.value, l.bytes, (l.apart, l.reads)) (λ v. (λ (n, h). h, λ h. (tt, h))) (goes [] (omega arith))
not_answers c F k l (b ∷ s) goes =
    elim (bool_tells (c b)) [
      | inl t ↦ rw t (halt (Not c F) (b ∷ s) (l.text, l.value, l.bytes, (l.apart, l.reads)) (λ u v (n, h). cc))
      | inr t ↦ rw t (agree (Not c F) F (b ∷ s) (k (b ∷ s)) (l.text, l.value, l.bytes, (l.apart, l.reads)) (λ u v. (λ (n, h). h, λ h. (t, h))) (goes (b ∷ s) (omega arith)))
    ]

pub end_answers : {A : Type 0} (a : A) (s : List ℕ) → Answers (End a) s (end_at s >>= λ _. Ok a)
unfolding end_at
end_answers a [] = ((refl, refl), λ w h. h.1)
end_answers a (b ∷ s) = halt (End a) (b ∷ s) ([], a, tt, (refl, refl)) (λ t v h. cc)

pub run_answers : {A : Type 0} (c : ℕ → Bool) (F : List ℕ → Rel A) (k : List ℕ → List ℕ → Result A ℕ) → ((x : List ℕ) → AllIn c x → Lives c (F x)) → (s : List ℕ) → ((x t : List ℕ) → AllIn c x → length t ≤ length s → Answers (F x) t (k x t)) → Answers (Run c F) s (k (front c s) (back c s))
unfolding front back
run_answers {A} c F k lives [] goes =
    let l = lives [] tt in
    agree (Run c F) (F []) [] (k [] []) (l.text, l.value, l.bytes, ([], l.text, refl, tt, l.apart, l.reads))
    (λ v. (λ (x, t, e, a, n, h). run_nil x t e v h, λ h. ([], [], refl, tt, tt, h))) (goes [] [] tt (omega arith))
  where
    run_nil : (x t : List ℕ) → [] ≡ x ++ t → (v : A) → F x t v → F [] [] v
    run_nil [] t e v h = subst (λ (q : List ℕ). F [] q v) (sym e) h
    run_nil (y ∷ x) t e v h = absurd cc
run_answers {A} c F k lives (b ∷ s) goes =
    elim (bool_tells (c b)) [
      | inl t ↦ rw t (step (Run c F) b s (k (b ∷ front c s) (back c s))
          (agree_same (λ u v. Run c F (b ∷ u) v) (Run c (λ x. F (b ∷ x))) s (k (b ∷ front c s) (back c s))
          (let l = lives (b ∷ []) (t, tt) in (l.text, l.value, l.bytes, (b ∷ [], l.text, refl, (t, tt), l.apart, l.reads)))
          (λ u v. (λ (x, z, e, a, n, h). run_step t u x z e a n v h, λ (x, z, e, a, n, h). (b ∷ x, z, ap (λ (q : List ℕ). b ∷ q) e, (t, a), n, h)))
          (run_answers c (λ x. F (b ∷ x)) (λ x. k (b ∷ x)) (λ x a. lives (b ∷ x) (t, a)) s (λ x u a h. goes (b ∷ x) u (t, a) (omega arith)))))
      | inr t ↦ rw t (let l = lives [] tt in
          agree (Run c F) (F []) (b ∷ s) (k [] (b ∷ s)) (l.text, l.value, l.bytes, ([], l.text, refl, tt, l.apart, l.reads))
          (λ u v. (λ (x, z, e, a, n, h). run_stop t u x z e a v h, λ h. ([], b ∷ u, refl, tt, t, h))) (goes [] (b ∷ s) tt (omega arith)))
    ]
  where
    run_step : c b ≡ true → (u x z : List ℕ) → b ∷ u ≡ x ++ z → AllIn c x → NotStart c z → (v : A) → F x z v → Run c (λ x. F (b ∷ x)) u v
    run_step t u [] [] e a n v h = absurd cc
    run_step t u [] (y ∷ z) e a n v h = let e1 : b ≡ y = cc in let bad : c b ≡ false = ap c e1 ∙ n in absurd cc
    run_step t u (y ∷ x) z e a n v h = let e1 : b ≡ y = cc in let e2 : u ≡ x ++ z = cc in (x, z, e2, a.1, n, subst (λ (q : ℕ). F (q ∷ x) z v) (sym e1) h)

    run_stop : c b ≡ false → (u x z : List ℕ) → b ∷ u ≡ x ++ z → AllIn c x → (v : A) → F x z v → F [] (b ∷ u) v
    run_stop t u [] z e a v h = subst (λ (q : List ℕ). F [] q v) (sym e) h
    run_stop t u (y ∷ x) z e a v h = let e1 : b ≡ y = cc in let bad : c b ≡ true = ap c e1 ∙ a.0 in absurd cc

pub few_answers : {A : Type 0} (c : ℕ → Bool) (n : ℕ) (F : List ℕ → Rel A) (k : List ℕ → List ℕ → Result A ℕ) → ((x : List ℕ) → AllIn c x → Lives c (F x)) → (s : List ℕ) → ((x t : List ℕ) → AllIn c x → length t ≤ length s → Answers (F x) t (k x t)) → Answers (Few c n F) s (few_at c n s >>= λ r. k r.0 r.1)
unfolding few_at
few_answers {A} c n F k lives [] goes =
    let l = lives [] tt in
    agree (Few c n F) (F []) [] (k [] []) (l.text, l.value, l.bytes, ([], l.text, refl, tt, omega arith, l.apart, l.reads))
    (λ v. (λ (x, t, e, a, m, q, h). few_nil x t e v h, λ h. ([], [], refl, tt, omega arith, tt, h))) (goes [] [] tt (omega arith))
  where
    few_nil : (x t : List ℕ) → [] ≡ x ++ t → (v : A) → F x t v → F [] [] v
    few_nil [] t e v h = subst (λ (q : List ℕ). F [] q v) (sym e) h
    few_nil (y ∷ x) t e v h = absurd cc
few_answers {A} c zero F k lives (b ∷ s) goes =
    let l = lives [] tt in
    elim (bool_tells (c b)) [
      | inl t ↦ rw t (halt (Few c zero F) (b ∷ s) (l.text, l.value, l.bytes, ([], l.text, refl, tt, omega arith, l.apart, l.reads))
          (λ u v (x, z, e, a, m, q, h). few_dead t u x z e m q))
      | inr t ↦ rw t (agree (Few c zero F) (F []) (b ∷ s) (k [] (b ∷ s)) (l.text, l.value, l.bytes, ([], l.text, refl, tt, omega arith, l.apart, l.reads))
          (λ u v. (λ (x, z, e, a, m, q, h). few_stop u x z e m v h, λ h. ([], b ∷ u, refl, tt, omega arith, t, h))) (goes [] (b ∷ s) tt (omega arith)))
    ]
  where
    few_dead : c b ≡ true → (u x z : List ℕ) → b ∷ u ≡ x ++ z → length x ≤ 0 → NotStart c z → ⊥
    few_dead t u [] [] e m q = cc
    few_dead t u [] (y ∷ z) e m q = let e1 : b ≡ y = cc in let bad : c b ≡ false = ap c e1 ∙ q in cc
    few_dead t u (y ∷ x) z e m q = omega arith

    few_stop : (u x z : List ℕ) → b ∷ u ≡ x ++ z → length x ≤ 0 → (v : A) → F x z v → F [] (b ∷ u) v
    few_stop u [] z e m v h = subst (λ (q : List ℕ). F [] q v) (sym e) h
    few_stop u (y ∷ x) z e m v h = absurd (omega arith)
few_answers {A} c (suc n) F k lives (b ∷ s) goes =
    elim (bool_tells (c b)) [
      | inl t ↦ rw (t, few_bind (few_at c n s)) (step (Few c (suc n) F) b s (few_at c n s >>= λ r. k (b ∷ r.0) r.1)
          (agree_same (λ u v. Few c (suc n) F (b ∷ u) v) (Few c n (λ x. F (b ∷ x))) s (few_at c n s >>= λ r. k (b ∷ r.0) r.1)
          (let l = lives (b ∷ []) (t, tt) in (l.text, l.value, l.bytes, (b ∷ [], l.text, refl, (t, tt), omega arith, l.apart, l.reads)))
          (λ u v. (λ (x, z, e, a, m, q, h). few_step t u x z e a m q v h, λ (x, z, e, a, m, q, h). (b ∷ x, z, ap (λ (r : List ℕ). b ∷ r) e, (t, a), omega arith, q, h)))
          (few_answers c n (λ x. F (b ∷ x)) (λ x. k (b ∷ x)) (λ x a. lives (b ∷ x) (t, a)) s (λ x u a h. goes (b ∷ x) u (t, a) (omega arith)))))
      | inr t ↦ rw t (let l = lives [] tt in
          agree (Few c (suc n) F) (F []) (b ∷ s) (k [] (b ∷ s)) (l.text, l.value, l.bytes, ([], l.text, refl, tt, omega arith, l.apart, l.reads))
          (λ u v. (λ (x, z, e, a, m, q, h). few_end t u x z e a v h, λ h. ([], b ∷ u, refl, tt, omega arith, t, h))) (goes [] (b ∷ s) tt (omega arith)))
    ]
  where
    few_bind : (r : Result (List ℕ × List ℕ) ℕ) → ((r >>= put b) >>= λ p. k p.0 p.1) ≡ (r >>= λ p. k (b ∷ p.0) p.1)
    few_bind (Ok p) = refl
    few_bind (Err m) = refl

    few_step : c b ≡ true → (u x z : List ℕ) → b ∷ u ≡ x ++ z → AllIn c x → length x ≤ suc n → NotStart c z → (v : A) → F x z v → Few c n (λ x. F (b ∷ x)) u v
    few_step t u [] [] e a m q v h = absurd cc
    few_step t u [] (y ∷ z) e a m q v h = let e1 : b ≡ y = cc in let bad : c b ≡ false = ap c e1 ∙ q in absurd cc
    few_step t u (y ∷ x) z e a m q v h = let e1 : b ≡ y = cc in let e2 : u ≡ x ++ z = cc in (x, z, e2, a.1, omega arith, q, subst (λ (r : ℕ). F (r ∷ x) z v) (sym e1) h)

    few_end : c b ≡ false → (u x z : List ℕ) → b ∷ u ≡ x ++ z → AllIn c x → (v : A) → F x z v → F [] (b ∷ u) v
    few_end t u [] z e a v h = subst (λ (q : List ℕ). F [] q v) (sym e) h
    few_end t u (y ∷ x) z e a v h = let e1 : b ≡ y = cc in let bad : c b ≡ true = ap c e1 ∙ a.0 in absurd cc

-- F's texts all begin with a byte of the class; none of F's texts does
abbrev pub Only : {A : Type 0} → (ℕ → Bool) → Rel A → Type 0
Only {A} c F = (s : List ℕ) (v : A) → F s v → starts c s ≡ true

abbrev pub Never : {A : Type 0} → (ℕ → Bool) → Rel A → Type 0
Never {A} c F = (s : List ℕ) (v : A) → F s v → starts c s ≡ false

pub or_answers : {A : Type 0} (c : ℕ → Bool) (F G : Rel A) (f g : Result A ℕ) → Only c F → Never c G → Begins (Or F G) [] → (s : List ℕ) → Answers F s f → Answers G s g → Answers (Or F G) s (cond (starts c s) f g)
or_answers {A} c F G f g only never here [] left right =
    agree (Or F G) G [] g here (λ v. (λ h. elim h [ inl x ↦ absurd (let e : false ≡ true = only [] v x in cc) | inr y ↦ y ], λ y. inr y)) right
or_answers {A} c F G f g only never here (b ∷ s) left right =
    elim (bool_tells (c b)) [
      | inl t ↦ rw t (agree (Or F G) F (b ∷ s) f here (λ u v. (λ h. elim h [ inl x ↦ x | inr y ↦ absurd (let e : c b ≡ false = never (b ∷ u) v y in cc) ], λ x. inl x)) left)
      | inr t ↦ rw t (agree (Or F G) G (b ∷ s) g here (λ u v. (λ h. elim h [ inl x ↦ absurd (let e : c b ≡ true = only (b ∷ u) v x in cc) | inr y ↦ y ], λ y. inr y)) right)
    ]
