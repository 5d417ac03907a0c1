-- Sums of integers over lists, and linear forms: a form all of whose coefficients are 0 has the value 0.
use Rattle.std.proofs.Common.{◌≡◌, ℕ, zero, suc, ◌*◌, ◌/◌, ◌<◌, ◌≤◌, max, Bool, cond, nat_eq, List, [], ◌∷◌, ◌++◌, map, filter, length, take, get_or, ◌+◌, ℤ, pos, ◌+ℤ◌, ◌-ℤ◌, ◌*ℤ◌, neg_ℤ, refl, sym, ap, ap₂, ◌∙◌, inl, inr, arith, mul-div_cancel, mul-pos}
use Rattle.std.proofs.lemmas.List.{take_more}
use Rattle.std.specs.List.{AllByRecursion as Each}
use Rattle.std.proofs.lemmas.List.Elements.{recursion_from_All, All-from_recursion, All-filter}
use Rattle.std.proofs.lemmas.Bool.{cases_eq}
use borrow.Author.Differences.{ints}
use Rattle.problem_core.specs.declared.parts.Term.{Term}
use Rattle.problem_core.specs.Layout.{sum_of, product_of, coefficient, value_at}
use Rattle.frac_core.proofs.Integers.{mul-add_left, add-mul_right, mul_assoc_ℤ, mul_left_comm_ℤ, zero-mul_ℤ, mul-zero_ℤ, zero-add_ℤ, add-zero_ℤ, gap-share}
use Rattle.frac_core.proofs.Bools.{cond-mul, count-other as at_other, count-same as at_same}
use Rattle.frac_core.proofs.Sums.{sum-append, sum-push}

-- ---- sums

pub sum-cong : {A : Type 0} (f g : A → ℤ) (xs : List A) → ((x : A) → f x ≡ g x) → sum_of f xs ≡ sum_of g xs
sum-cong f g [] h = refl
sum-cong f g (x ∷ xs) h = ap₂ ◌+ℤ◌ (h x) (sum-cong f g xs h)

pub sum-zero : {A : Type 0} (f : A → ℤ) (xs : List A) → Each (λ x. f x ≡ pos 0) xs → sum_of f xs ≡ pos 0
sum-zero f [] h = refl
sum-zero f (x ∷ xs) h = ap₂ ◌+ℤ◌ h.0 (sum-zero f xs h.1)

pub sum-add : {A : Type 0} (f g : A → ℤ) (xs : List A) → sum_of (λ x. f x +ℤ g x) xs ≡ sum_of f xs +ℤ sum_of g xs
sum-add f g [] = refl
sum-add f g (x ∷ xs) = omega (arith, ints, sum-add f g xs)

pub mul-sum : {A : Type 0} (k : ℤ) (f : A → ℤ) (xs : List A) → sum_of (λ x. k *ℤ f x) xs ≡ k *ℤ sum_of f xs
mul-sum k f [] = omega (arith, ints)
mul-sum k f (x ∷ xs) = ap (λ (t : ℤ). k *ℤ f x +ℤ t) (mul-sum k f xs) ∙ sym (mul-add_left k (f x) (sum_of f xs))

-- ---- a sum over the numbers below a bound

abbrev pub sum_below : ℕ → (ℕ → ℤ) → ℤ
sum_below zero f = pos 0
sum_below (suc n) f = f n +ℤ sum_below n f

below-zero : (n : ℕ) (f : ℕ → ℤ) → ((v : ℕ) → v < n → f v ≡ pos 0) → sum_below n f ≡ pos 0
below-zero zero f h = refl
below-zero (suc n) f h = omega (arith, ints, h n (omega arith), below-zero n f (λ v l. h v (omega arith)))

below-add : (n : ℕ) (f g h : ℕ → ℤ) → ((v : ℕ) → f v ≡ g v +ℤ h v) → sum_below n f ≡ sum_below n g +ℤ sum_below n h
below-add zero f g h e = refl
below-add (suc n) f g h e = omega (arith, ints, e n, below-add n f g h e)

-- ---- one entry

below-one : (bound u : ℕ) (k : ℤ) (n : ℕ → ℤ) → u < bound → sum_below bound (λ v. cond (nat_eq u v) k (pos 0) *ℤ n v) ≡ k *ℤ n u
below-one zero u k n l = absurd (omega arith)
below-one (suc b) u k n l =
    elim (cases_eq u b) [
      | inl e ↦
          let first : cond (nat_eq u b) k (pos 0) *ℤ n b ≡ k *ℤ n u = ap₂ ◌*ℤ◌ (at_same u b k e) (ap n (sym e)) in
          let rest : sum_below b (λ v. cond (nat_eq u v) k (pos 0) *ℤ n v) ≡ pos 0 =
          below-zero b _ (λ v m. ap (λ (t : ℤ). t *ℤ n v) (at_other u v k (omega arith)) ∙ zero-mul_ℤ (n v)) in
          ap₂ ◌+ℤ◌ first rest ∙ add-zero_ℤ _
      | inr e ↦
          let first : cond (nat_eq u b) k (pos 0) *ℤ n b ≡ pos 0 = ap (λ (t : ℤ). t *ℤ n b) (at_other u b k e) ∙ zero-mul_ℤ (n b) in
          ap₂ ◌+ℤ◌ first (below-one b u k n (omega arith)) ∙ zero-add_ℤ _
    ]

-- ---- forms

-- the least bound of a form's attributes
abbrev bound : List Term → ℕ
bound [] = 0
bound (e ∷ form) = max (suc e.attr) (bound form)

value-below : (b : ℕ) (n : ℕ → ℤ) (form : List Term) → bound form ≤ b → value_at n form ≡ sum_below b (λ v. coefficient v form *ℤ n v)
value-below b n [] l = sym (below-zero b _ (λ v m. zero-mul_ℤ (n v)))
value-below b n (e ∷ form) l =
    sym
    (below-add b _ (λ v. cond (nat_eq e.attr v) e.by (pos 0) *ℤ n v) (λ v. coefficient v form *ℤ n v) (λ v. add-mul_right (cond (nat_eq e.attr v) e.by (pos 0)) (coefficient v form) (n v))
    ∙ ap₂ ◌+ℤ◌ (below-one b e.attr e.by n (omega arith)) (sym (value-below b n form (omega arith))))

pub value-zero : (n : ℕ → ℤ) (form : List Term) → ((v : ℕ) → coefficient v form ≡ pos 0) → value_at n form ≡ pos 0
value-zero n form h =
    value-below (bound form) n form (omega arith)
    ∙ below-zero (bound form) _ (λ v l. ap (λ (t : ℤ). t *ℤ n v) (h v) ∙ zero-mul_ℤ (n v))

-- ---- combinations of forms

-- k times a form
abbrev pub times : ℤ → List Term → List Term
times k form = map (λ e. record { attr = e.attr; by = k *ℤ e.by }) form

pub coefficient-times : (v : ℕ) (k : ℤ) (form : List Term) → coefficient v (times k form) ≡ k *ℤ coefficient v form
coefficient-times v k [] = sym (mul-zero_ℤ k)
coefficient-times v k (e ∷ form) =
    ap₂ ◌+ℤ◌ (cond-mul (nat_eq e.attr v) k e.by) (coefficient-times v k form) ∙ sym (mul-add_left k _ _)

pub value-times : (n : ℕ → ℤ) (k : ℤ) (form : List Term) → value_at n (times k form) ≡ k *ℤ value_at n form
value-times n k [] = sym (mul-zero_ℤ k)
value-times n k (e ∷ form) = ap₂ ◌+ℤ◌ (mul_assoc_ℤ k e.by (n e.attr)) (value-times n k form) ∙ sym (mul-add_left k _ _)

-- the sum of y x times the form of x
abbrev pub combined : {A : Type 0} → (A → ℤ) → (A → List Term) → List A → List Term
combined y form [] = []
combined y form (x ∷ xs) = times (y x) (form x) ++ combined y form xs

pub coefficient-combined : {A : Type 0} (v : ℕ) (y : A → ℤ) (form : A → List Term) (xs : List A) → coefficient v (combined y form xs) ≡ sum_of (λ x. y x *ℤ coefficient v (form x)) xs
coefficient-combined v y form [] = refl
coefficient-combined v y form (x ∷ xs) =
    sum-append _ (times (y x) (form x)) _ ∙ ap₂ ◌+ℤ◌ (coefficient-times v (y x) (form x)) (coefficient-combined v y form xs)

pub value-combined : {A : Type 0} (n : ℕ → ℤ) (y : A → ℤ) (form : A → List Term) (xs : List A) → value_at n (combined y form xs) ≡ sum_of (λ x. y x *ℤ value_at n (form x)) xs
value-combined n y form [] = refl
value-combined n y form (x ∷ xs) =
    sum-append _ (times (y x) (form x)) _ ∙ ap₂ ◌+ℤ◌ (value-times n (y x) (form x)) (value-combined n y form xs)

-- forms that cancel at each attribute have values that cancel
pub combination-zero : {A : Type 0} (n : ℕ → ℤ) (y : A → ℤ) (form : A → List Term) (xs : List A) → ((v : ℕ) → sum_of (λ x. y x *ℤ coefficient v (form x)) xs ≡ pos 0) → sum_of (λ x. y x *ℤ value_at n (form x)) xs ≡ pos 0
combination-zero n y form xs h =
    sym (value-combined n y form xs) ∙ value-zero n (combined y form xs) (λ v. coefficient-combined v y form xs ∙ h v)

-- ---- products

whole-share : (whole m d : ℕ) → whole ≡ m * d → 0 < d → whole / d * d ≡ whole
whole-share whole m d e h = rw e (ap (λ (t : ℕ). t * d) (mul-div_cancel m h))

pub product-shares : {A : Type 0} (f : A → ℕ) (xs : List A) (whole k : ℕ) → whole ≡ k * product_of f xs → Each (λ x. 0 < f x) xs → Each (λ x. whole / f x * f x ≡ whole) xs
product-shares f [] whole k e h = tt
product-shares f (x ∷ xs) whole k e h =
    (whole-share whole (k * product_of f xs) (f x) (omega arith) h.0, product-shares f xs whole (k * f x) (omega arith) h.1)

-- ---- each element

pub each-map : {A B : Type 0} (P : B → Type 0) (f : A → B) (xs : List A) (ys : List B) → Each P (map f xs ++ ys) → Each (λ x. P (f x)) xs
each-map P f [] ys h = tt
each-map P f (x ∷ xs) ys h = (h.0, each-map P f xs ys h.1)

pub each-impl : {A : Type 0} (P Q : A → Type 0) (xs : List A) → ((x : A) → P x → Q x) → Each P xs → Each Q xs
each-impl P Q [] f h = tt
each-impl P Q (x ∷ xs) f h = (f x h.0, each-impl P Q xs f h.1)

pub each-both : {A : Type 0} (P Q : A → Type 0) (xs : List A) → Each P xs → Each Q xs → Each (λ x. P x × Q x) xs
each-both P Q [] h k = tt
each-both P Q (x ∷ xs) h k = ((h.0, k.0), each-both P Q xs h.1 k.1)

pub each-filter : {A : Type 0} (P : A → Type 0) (test : A → Bool) (xs : List A) → Each P xs → Each P (filter test xs)
each-filter P test xs h = recursion_from_All P _ (All-filter test P xs (All-from_recursion P xs h))

-- ---- the gaps, each times a multiplier

sum-step : (q e a s b k : ℤ) → (q *ℤ a -ℤ e *ℤ b) +ℤ (q *ℤ s -ℤ e *ℤ k) ≡ q *ℤ (a +ℤ s) -ℤ e *ℤ (b +ℤ k)
sum-step q e a s b k = omega (arith, ints, mul-add_left q a s, mul-add_left e b k)

pub gaps-sum : {A : Type 0} (y : A → ℤ) (form : A → List Term) (num : A → ℤ) (den share : A → ℕ) (q : ℕ) (n : ℕ → ℤ) (e : ℕ) (xs : List A) → Each (λ x. share x * den x ≡ q) xs → sum_of (λ x. y x *ℤ (pos (share x) *ℤ (pos (den x) *ℤ value_at n (form x) -ℤ num x *ℤ pos e))) xs ≡ pos q *ℤ sum_of (λ x. y x *ℤ value_at n (form x)) xs -ℤ pos e *ℤ sum_of (λ x. y x *ℤ (num x *ℤ pos (share x))) xs
gaps-sum y form num den share q n e [] h = sym (ap₂ ◌-ℤ◌ (mul-zero_ℤ (pos q)) (mul-zero_ℤ (pos e)))
gaps-sum y form num den share q n e (x ∷ xs) h =
    let one : y x *ℤ (pos (share x) *ℤ (pos (den x) *ℤ value_at n (form x) -ℤ num x *ℤ pos e)) ≡ pos q *ℤ (y x *ℤ value_at n (form x)) -ℤ pos e *ℤ (y x *ℤ (num x *ℤ pos (share x))) =
    gap-share (y x) (value_at n (form x)) (num x) (share x) (den x) e ∙ ap (λ (t : ℕ). pos t *ℤ (y x *ℤ value_at n (form x)) -ℤ pos e *ℤ (y x *ℤ (num x *ℤ pos (share x)))) h.0 in
    ap₂ ◌+ℤ◌ one (gaps-sum y form num den share q n e xs h.1)
    ∙ sum-step (pos q) (pos e) (y x *ℤ value_at n (form x)) (sum_of (λ x. y x *ℤ value_at n (form x)) xs) (y x *ℤ (num x *ℤ pos (share x))) (sum_of (λ x. y x *ℤ (num x *ℤ pos (share x))) xs)

-- where the forms cancel, that sum is the same for all assignments but for their denominator
pub gaps-cancel : {A : Type 0} (y : A → ℤ) (form : A → List Term) (num : A → ℤ) (den share : A → ℕ) (q : ℕ) (n : ℕ → ℤ) (e : ℕ) (xs : List A) → Each (λ x. share x * den x ≡ q) xs → ((v : ℕ) → sum_of (λ x. y x *ℤ coefficient v (form x)) xs ≡ pos 0) → sum_of (λ x. y x *ℤ (pos (share x) *ℤ (pos (den x) *ℤ value_at n (form x) -ℤ num x *ℤ pos e))) xs ≡ neg_ℤ (pos e *ℤ sum_of (λ x. y x *ℤ (num x *ℤ pos (share x))) xs)
gaps-cancel y form num den share q n e xs h cancel =
    gaps-sum y form num den share q n e xs h
    ∙ ap (λ (t : ℤ). t -ℤ pos e *ℤ sum_of (λ x. y x *ℤ (num x *ℤ pos (share x))) xs) (ap (λ (t : ℤ). pos q *ℤ t) (combination-zero n y form xs cancel) ∙ mul-zero_ℤ (pos q))
    ∙ zero-add_ℤ (neg_ℤ (pos e *ℤ sum_of (λ x. y x *ℤ (num x *ℤ pos (share x))) xs))

-- ---- what a form's value depends on

below-cong : (n : ℕ) (f g : ℕ → ℤ) → ((v : ℕ) → f v ≡ g v) → sum_below n f ≡ sum_below n g
below-cong zero f g h = refl
below-cong (suc n) f g h = ap₂ ◌+ℤ◌ (h n) (below-cong n f g h)

-- forms with equal coefficients have equal values
pub value-equal : (n : ℕ → ℤ) (f g : List Term) → ((v : ℕ) → coefficient v f ≡ coefficient v g) → value_at n f ≡ value_at n g
value-equal n f g h =
    value-below (max (bound f) (bound g)) n f (omega arith)
    ∙ below-cong (max (bound f) (bound g)) _ _ (λ v. ap (λ (t : ℤ). t *ℤ n v) (h v))
    ∙ sym (value-below (max (bound f) (bound g)) n g (omega arith))

below-single : (bound b : ℕ) (f : ℕ → ℤ) → b < bound → ((v : ℕ) → (v ≡ b → ⊥) → f v ≡ pos 0) → sum_below bound f ≡ f b
below-single zero b f l h = absurd (omega arith)
below-single (suc n) b f l h =
    elim (cases_eq b n) [
      | inl e ↦ ap₂ ◌+ℤ◌ (ap f (sym e)) (below-zero n f (λ v m. h v (omega arith))) ∙ add-zero_ℤ (f b)
      | inr e ↦ ap₂ ◌+ℤ◌ (h n (omega arith)) (below-single n b f (omega arith) h) ∙ zero-add_ℤ (f b)
    ]

-- one column alone has both a coefficient and a value
pub value-single : (n : ℕ → ℤ) (b : ℕ) (form : List Term) → ((v : ℕ) → (v ≡ b → ⊥) → coefficient v form *ℤ n v ≡ pos 0) → value_at n form ≡ coefficient b form *ℤ n b
value-single n b form h =
    value-below (max (suc b) (bound form)) n form (omega arith) ∙ below-single (max (suc b) (bound form)) b (λ v. coefficient v form *ℤ n v) (omega arith) h

pub value-plus : (a b : ℕ → ℤ) (form : List Term) → value_at (λ v. a v +ℤ b v) form ≡ value_at a form +ℤ value_at b form
value-plus a b [] = refl
value-plus a b (e ∷ form) = omega (arith, ints, value-plus a b form, mul-add_left e.by (a e.attr) (b e.attr))

pub value-scaled : (k : ℤ) (a : ℕ → ℤ) (form : List Term) → value_at (λ v. k *ℤ a v) form ≡ k *ℤ value_at a form
value-scaled k a [] = sym (mul-zero_ℤ k)
value-scaled k a (e ∷ form) = ap₂ ◌+ℤ◌ (mul_left_comm_ℤ e.by k (a e.attr)) (value-scaled k a form) ∙ sym (mul-add_left k _ _)

pub product-positive : {A : Type 0} (f : A → ℕ) (xs : List A) → Each (λ x. 0 < f x) xs → 0 < product_of f xs
product-positive f [] h = omega arith
product-positive f (x ∷ xs) h = mul-pos h.0 (product-positive f xs h.1)

-- a sum over one element more
pub sum-more : {A : Type 0} (f : A → ℤ) (xs : List A) (i : ℕ) (d : A) → i < length xs → sum_of f (take (i + 1) xs) ≡ sum_of f (take i xs) +ℤ f (get_or xs i d)
sum-more f xs i d l =
    ap (sum_of f) (take_more xs i d l) ∙ sum-push f (take i xs) (get_or xs i d)
