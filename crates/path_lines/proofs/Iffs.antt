-- Tests that are decided.
use Rattle.std.proofs.Common.{◌≡◌, ◌≢◌, ◌↔◌, ℕ, ◌+◌, ◌<◌, List, [], ◌∷◌, ◌++◌, length, get_or, Bool, true, false, not, IsTrue, rules, arith, sym, subst, inl, inr}
use Rattle.std.proofs.lemmas.List.{get_or_append_left, get_or_push}
use Rattle.std.proofs.lemmas.Bool.{cases_eq}

pub yes : IsTrue true
yes = search rules

pub never_true : IsTrue false → ⊥
never_true wrong = search rules

pub never : {P : Type 0} (b : Bool) → b ≡ false → (P → ⊥) → IsTrue b ↔ P
never b wrong out = (λ is. absurd (never_true (subst IsTrue wrong is)), λ is. absurd (out is))

pub always : {P : Type 0} (b : Bool) → b ≡ true → P → IsTrue b ↔ P
always b right holds = (λ is. holds, λ is. subst IsTrue (sym right) yes)

pub through : {P Q : Type 0} (b : Bool) → IsTrue b ↔ Q → Q ↔ P → IsTrue b ↔ P
through b f g = (λ is. g.0 (f.0 is), λ holds. f.1 (g.1 holds))

pub wrong_then : {P : Type 0} (b : Bool) → b ≡ false → IsTrue b ↔ P → P → ⊥
wrong_then b wrong f holds = never_true (subst IsTrue wrong (f.1 holds))

pub right_then : {P : Type 0} (b : Bool) → b ≡ true → IsTrue b ↔ P → P
right_then b right f = f.0 (subst IsTrue (sym right) yes)

pub either : {P T N : Type 0} (b : Bool) (x y : ℕ) → (x ≡ y → IsTrue b ↔ T) → (x ≢ y → IsTrue b ↔ N) → (x ≡ y → T ↔ P) → (x ≢ y → N ↔ P) → IsTrue b ↔ P
either b x y turn other f g =
    elim (cases_eq x y) [
      | inl e ↦ (λ is. (f e).0 ((turn e).0 is), λ holds. (turn e).1 ((f e).1 holds))
      | inr n ↦ (λ is. (g n).0 ((other n).0 is), λ holds. (other n).1 ((g n).1 holds))
    ]

-- what holds of each place so far holds of one more
pub one_more : {X : Type 0} (P : ℕ → X → X → Type 0) (xs : List X) (y : X) (n : ℕ) → length xs ≡ n → ((k : ℕ) (d : X) → k < n → P k d (get_or xs k d)) → ((d : X) → P n d y) → (k : ℕ) (d : X) → k < n + 1 → P k d (get_or (xs ++ y ∷ []) k d)
one_more P xs y n long so_far here k d less =
    elim (cases_eq k n) [
      | inl e ↦ subst (λ (j : ℕ). P j d (get_or (xs ++ y ∷ []) j d)) (sym e) (subst (P n d) (sym (get_or_push xs y d n long)) (here d))
      | inr ne ↦ let within : k < n = omega (arith, less, ne) in subst (P k d) (sym (get_or_append_left xs (y ∷ []) d k (omega (arith, within, long)))) (so_far k d within)
    ]

pub not_then : {P Q : Type 0} (b : Bool) → IsTrue b ↔ P → (P → ⊥) ↔ Q → IsTrue (not b) ↔ Q
not_then true f g = (λ is. absurd (never_true is), λ holds. absurd (g.1 holds (f.0 yes)))
not_then false f g = (λ is. g.0 (λ holds. never_true (f.1 holds)), λ holds. yes)
