-- What readers of languages rest on.
use Rattle.std.proofs.Common.{◌≡◌, ℕ, ◌+◌, ◌≤◌, List, [], ◌∷◌, ◌++◌, length, Result, Ok, Err, refl, sym, ap, subst, ◌∙◌, arith, length-append}
use Rattle.span_text.specs.Language.{Rel, Begins, Answers}

-- Two languages have the same texts among those that begin as s does: with its first byte, or the empty one.
abbrev pub Agree : {A : Type 0} → Rel A → Rel A → List ℕ → Type 0
Agree {A} R S [] = (v : A) → (R [] v → S [] v) × (S [] v → R [] v)
Agree {A} R S (b ∷ s) = (t : List ℕ) (v : A) → (R (b ∷ t) v → S (b ∷ t) v) × (S (b ∷ t) v → R (b ∷ t) v)

-- No text of R begins as s does.
abbrev pub Dead : {A : Type 0} → Rel A → List ℕ → Type 0
Dead {A} R [] = (v : A) → R [] v → ⊥
Dead {A} R (b ∷ s) = (t : List ℕ) (v : A) → R (b ∷ t) v → ⊥

pub halt : {A : Type 0} (R : Rel A) (s : List ℕ) → Begins R [] → Dead R s → Answers R s (Err (length s))
halt {A} R [] here dead = record {
  outside = dead;
  front = [];
  left = [];
  parts = refl;
  count = refl;
  begins = here;
  longest = λ p q e h. omega arith;
}
halt {A} R (b ∷ s) here dead = record {
  outside = λ v h. dead s v h;
  front = [];
  left = b ∷ s;
  parts = refl;
  count = refl;
  begins = here;
  longest = λ p q e h. halt_longest p q e h;
}
  where
    halt_longest : (p q : List ℕ) → b ∷ s ≡ p ++ q → Begins R p → length (b ∷ s) ≤ length q
    halt_longest [] q e h = let e2 : length (b ∷ s) ≡ length q = ap length e in omega arith
    halt_longest (c ∷ p) q e (y, v, a, h) =
        let same : b ≡ c = cc in
        let moved : R (b ∷ (p ++ y)) v = subst (λ (x : ℕ). R (x ∷ (p ++ y)) v) (sym same) h in
        absurd (dead (p ++ y) v moved)

pub step : {A : Type 0} (R : Rel A) (b : ℕ) (s : List ℕ) (a : Result A ℕ) → Answers (λ t v. R (b ∷ t) v) s a → Answers R (b ∷ s) a
step R b s (Ok v) h = h
step {A} R b s (Err m) h = record {
  outside = h.outside;
  front = b ∷ h.front;
  left = h.left;
  parts = ap (λ (x : List ℕ). b ∷ x) h.parts;
  count = h.count;
  begins = h.begins;
  longest = λ p q e k. step_longest p q e k;
}
  where
    step_longest : (p q : List ℕ) → b ∷ s ≡ p ++ q → Begins R p → m ≤ length q
    step_longest [] q e k =
        let e2 : length (b ∷ s) ≡ length q = ap length e in
        let e3 : length s ≡ length h.front + length h.left = ap length h.parts ∙ length-append h.front h.left in
        let e4 : length h.left ≡ m = h.count in
        omega arith
    step_longest (c ∷ p) q e (y, v, a, k) =
        let same : b ≡ c = cc in
        let rest : s ≡ p ++ q = cc in
        h.longest p q rest (y, v, a, subst (λ (x : ℕ). R (x ∷ (p ++ y)) v) (sym same) k)

pub agree : {A : Type 0} (R S : Rel A) (s : List ℕ) (a : Result A ℕ) → Begins R [] → Agree R S s → Answers S s a → Answers R s a
agree R S [] (Ok v) here same h = ((same v).1 h.0, λ w k. h.1 w ((same w).0 k))
agree R S (b ∷ s) (Ok v) here same h = ((same s v).1 h.0, λ w k. h.1 w ((same s w).0 k))
agree R S [] (Err m) here same h = record {
  outside = λ v k. h.outside v ((same v).0 k);
  front = [];
  left = [];
  parts = refl;
  count = (let e : 0 ≡ length h.front + length h.left = ap length h.parts ∙ length-append h.front h.left in let e2 : length h.left ≡ m = h.count in omega arith);
  begins = here;
  longest = λ p q e k. (let e : 0 ≡ length h.front + length h.left = ap length h.parts ∙ length-append h.front h.left in let e2 : length h.left ≡ m = h.count in omega arith);
}
agree {A} R S (b ∷ s) (Err m) here same h = record {
  outside = λ v k. h.outside v ((same s v).0 k);
  front = h.front;
  left = h.left;
  parts = h.parts;
  count = h.count;
  begins = agree_begins h.front h.parts h.begins;
  longest = λ p q e k. agree_longest p q e k;
}
  where
    agree_begins : (p : List ℕ) → b ∷ s ≡ p ++ h.left → Begins S p → Begins R p
    agree_begins [] e k = here
    agree_begins (c ∷ p) e (y, v, a, k) =
        let eq : b ≡ c = cc in
        (y, v, a, subst (λ (x : ℕ). R (x ∷ (p ++ y)) v) eq ((same (p ++ y) v).1 (subst (λ (x : ℕ). S (x ∷ (p ++ y)) v) (sym eq) k)))

    agree_longest : (p q : List ℕ) → b ∷ s ≡ p ++ q → Begins R p → m ≤ length q
    agree_longest [] q e k =
        let e2 : length (b ∷ s) ≡ length q = ap length e in
        let e3 : length (b ∷ s) ≡ length h.front + length h.left = ap length h.parts ∙ length-append h.front h.left in
        let e4 : length h.left ≡ m = h.count in
        omega arith
    agree_longest (c ∷ p) q e (y, v, a, k) =
        let eq : b ≡ c = cc in
        h.longest (c ∷ p) q e (y, v, a, subst (λ (x : ℕ). S (x ∷ (p ++ y)) v) eq ((same (p ++ y) v).0 (subst (λ (x : ℕ). R (x ∷ (p ++ y)) v) (sym eq) k)))
