-- Steps of the checks on values.
use Rattle.std.proofs.Common.{◌≡◌, ℕ, zero, suc, Bool, true, false, Result, Ok, Err, OnOk, OnErr, ℤ, pos, negsuc, refl, sym, ap, ◌∙◌, arith, Ordering, Greater, ◌<◌, ◌<ℤ◌, List, length, get_or, subst, All}
use Rattle.std.specs.Result.{is_err}
use Rattle.std.specs.Ordering.{int_cmp, is_eq, is_ge, is_le}
use Rattle.std.specs.Cmp.{int_cmp_is}
use borrow.Author.Differences.{ints}
use Rattle.problem_core.specs.declared.parts.Rel.{Rel}
use Rattle.problem_core.specs.declared.parts.Rel.TheVariants.{Eq, Le, Ge}
use Rattle.problem_core.specs.Layout.{error_of}
use Rattle.cert_checker.specs.Certifying.{is_met}

pub on-err : {T E : Type 0} (r : Result T E) (P : Type 0) (b : Bool) → b ≡ is_err r → b ≡ true → OnErr r P → P
on-err (Ok x) P b e f h = absurd (let g : false ≡ true = sym e ∙ f in cc)
on-err (Err x) P b e f h = h

pub on-ok : {T E : Type 0} (r : Result T E) (P : Type 0) (b : Bool) → b ≡ is_err r → b ≡ false → OnOk r P → P
on-ok (Ok x) P b e f h = h
on-ok (Err x) P b e f h = absurd (let g : true ≡ false = sym e ∙ f in cc)

pub more-cmp : (n : ℕ) → int_cmp (pos (suc n)) (pos 0) ≡ Greater
more-cmp n = sym (int_cmp_is (pos (suc n)) (pos 0) Greater (let l : pos 0 <ℤ pos (suc n) = omega (arith, ints) in l))

met : (rel : Rel) (g : ℤ) → is_met rel (int_cmp g (pos 0)) ≡ true → error_of rel g ≡ 0
met Eq (pos zero) h = refl
met Eq (pos (suc n)) h = absurd (let g : false ≡ true = sym (ap is_eq (more-cmp n)) ∙ h in cc)
met Eq (negsuc n) h = absurd (let g : false ≡ true = h in cc)
met Ge (pos n) h = refl
met Ge (negsuc n) h = absurd (let g : false ≡ true = h in cc)
met Le (pos zero) h = refl
met Le (pos (suc n)) h = absurd (let g : false ≡ true = sym (ap is_le (more-cmp n)) ∙ h in cc)
met Le (negsuc n) h = refl

meets : (rel : Rel) (g : ℤ) → error_of rel g ≡ 0 → is_met rel (int_cmp g (pos 0)) ≡ true
meets Eq (pos zero) h = refl
meets Eq (pos (suc n)) h = absurd (omega arith)
meets Eq (negsuc n) h = absurd (omega arith)
meets Ge (pos zero) h = refl
meets Ge (pos (suc n)) h = ap is_ge (more-cmp n)
meets Ge (negsuc n) h = absurd (omega arith)
meets Le (pos zero) h = refl
meets Le (pos (suc n)) h = absurd (omega arith)
meets Le (negsuc n) h = refl

pub is-met : (rel : Rel) (g : ℤ) (o : Ordering) (b : Bool) → o ≡ int_cmp g (pos 0) → b ≡ is_met rel o → (b ≡ true → error_of rel g ≡ 0) × (error_of rel g ≡ 0 → b ≡ true)
is-met rel g o b e f =
    let same : b ≡ is_met rel (int_cmp g (pos 0)) = f ∙ ap (is_met rel) e in
    (λ h. met rel g (sym same ∙ h), λ h. same ∙ meets rel g h)

-- ---- loops over items

pub all-item : {A : Type 0} (P : A → Type 0) (xs : List A) (i : ℕ) (r : A) → i < length xs → r ≡ get_or xs i r → All P xs → P r
all-item P xs i r l is all = subst P (sym is) (all i r l)
