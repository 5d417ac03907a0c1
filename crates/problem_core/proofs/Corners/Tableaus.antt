-- Tableaus over homogeneous forms: each inside column is a unit column, an exchange keeps the solutions, and the outside columns are free.
use Rattle.std.proofs.Common.{◌≡◌, ℕ, ◌*◌, ◌/◌, ◌<◌, Bool, true, false, cond, nat_eq, List, [], ◌∷◌, ℤ, pos, negsuc, ◌+ℤ◌, ◌*ℤ◌, neg_ℤ, ◌<ℤ◌, refl, sym, ap, ap₂, ◌∙◌, inl, inr, ◌⊎◌, arith, eq-eqb, ne_eqb, true≢false}
use Rattle.std.specs.List.{AllByRecursion as Each}
use Rattle.std.proofs.lemmas.Bool.{cases_Bool}
use borrow.Author.Differences.{ints}
use Rattle.problem_core.specs.declared.parts.Term.{Term}
use Rattle.problem_core.specs.Layout.{sum_of, product_of, coefficient, value_at, above}
use Rattle.frac_core.proofs.Integers.{zero_from_mul, fill-cancel, zero-mul_ℤ, mul-zero_ℤ, add-zero_ℤ, minus, minus-same}
use Rattle.problem_core.proofs.Forms.{value-single, value-plus, value-scaled, each-impl, each-both, product-shares}
use Rattle.frac_core.proofs.Bools.{or-later as cond-true}

-- the row `form = 0`, which writes the column inside by the others
pub record Basic : Type 0 where
  pub inside : ℕ
  pub form : List Term

abbrev pub Holds : (ℕ → ℤ) → List Term → Type 0
Holds n form = value_at n form ≡ pos 0

abbrev pub HoldAll : (ℕ → ℤ) → List Basic → Type 0
HoldAll n rows = Each (λ r. Holds n r.form) rows

-- ---- an exchange

-- g times the new row is k times the old one plus m times the row that leaves
pub record IsPivoted (leaving old new : List Term) : Type 0 where
  pub g : ℕ
  pub k : ℤ
  pub m : ℤ
  pub positive : 0 < g
  pub nonzero : k ≡ pos 0 → ⊥
  pub same : (c : ℕ) → pos g *ℤ coefficient c new ≡ k *ℤ coefficient c old +ℤ m *ℤ coefficient c leaving

-- ---- marker entries

-- the row is the sum of the lines' forms, each times the row's own entry at the line's marker
abbrev pub IsMarked : {L : Type 0} → (L → ℕ) → (L → List Term) → List L → List Term → Type 0
IsMarked marker form ls row = (c : ℕ) → coefficient c row ≡ sum_of (λ l. coefficient (marker l) row *ℤ coefficient c (form l)) ls

-- ---- the outside columns are free

abbrev pub is_inside : List Basic → ℕ → Bool
is_inside [] c = false
is_inside (r ∷ rows) c = cond (nat_eq r.inside c) true (is_inside rows c)

abbrev pub AreDistinct : List Basic → Type 0
AreDistinct [] = Unit {0}
AreDistinct (r ∷ rows) = (is_inside rows r.inside ≡ false) × AreDistinct rows

-- the row's own column is above 0, and no other inside column stands in it
pub record IsUnitRow (rows : List Basic) (r : Basic) : Type 0 where
  pub own : pos 0 <ℤ coefficient r.inside r.form
  pub others : (c : ℕ) → is_inside rows c ≡ true → (c ≡ r.inside → ⊥) → coefficient c r.form ≡ pos 0

pub record IsTableau (rows : List Basic) : Type 0 where
  pub distinct : AreDistinct rows
  pub units : Each (IsUnitRow rows) rows

-- the values v of the inside columns, and 0 outside
abbrev pub filled : List Basic → (Basic → ℤ) → ℕ → ℤ
filled [] v c = pos 0
filled (r ∷ rows) v c = cond (nat_eq r.inside c) (v r) (filled rows v c)

outside_filled : (rows : List Basic) (v : Basic → ℤ) (c : ℕ) → (is_inside rows c ≡ true) ⊎ (filled rows v c ≡ pos 0)
outside_filled [] v c = inr refl
outside_filled (r ∷ rows) v c =
    elim (nat_eq r.inside c) as (λ (b : Bool). (cond b true (is_inside rows c) ≡ true) ⊎ (cond b (v r) (filled rows v c) ≡ pos 0)) [
      | true ↦ inl refl
      | false ↦ outside_filled rows v c
    ]

insides : (rows more : List Basic) → ((c : ℕ) → is_inside rows c ≡ true → is_inside more c ≡ true) → Each (λ r. is_inside more r.inside ≡ true) rows
insides [] more h = tt
insides (r ∷ rows) more h = (h r.inside (ap (λ (b : Bool). cond b true (is_inside rows r.inside)) (eq-eqb r.inside r.inside refl)), insides rows more (λ c e. h c (cond-true (nat_eq r.inside c) (is_inside rows c) e)))

own_filled : (rows : List Basic) (v : Basic → ℤ) → AreDistinct rows → Each (λ r. filled rows v r.inside ≡ v r) rows
own_filled [] v d = tt
own_filled (r ∷ rows) v d = (
  ap (λ (b : Bool). cond b (v r) (filled rows v r.inside)) (eq-eqb r.inside r.inside refl),
  each-impl (λ s. (is_inside rows s.inside ≡ true) × (filled rows v s.inside ≡ v s)) _ rows
      (λ s h. ap (λ (b : Bool). cond b (v r) (filled rows v s.inside)) (ne_eqb r.inside s.inside (λ e. true≢false (sym h.0 ∙ ap (is_inside rows) (sym e) ∙ d.0))) ∙ h.1)
      (each-both _ _ rows (insides rows rows (λ c e. e)) (own_filled rows v d.1)),
)

-- the own coefficient of a row
abbrev pub own : Basic → ℕ
own r = above (coefficient r.inside r.form)

abbrev pub outside_part : List Basic → (ℕ → ℤ) → ℕ → ℤ
outside_part rows o c = cond (is_inside rows c) (pos 0) (o c)

abbrev pub whole : List Basic → ℕ
whole rows = product_of own rows

-- the solution whose outside columns are `whole` times o
abbrev pub solution : List Basic → (ℕ → ℤ) → ℕ → ℤ
solution rows o c = pos (whole rows) *ℤ outside_part rows o c +ℤ filled rows (λ r. neg_ℤ (pos (whole rows / own r) *ℤ value_at (outside_part rows o) r.form)) c

pub pos_above : (z : ℤ) → pos 0 <ℤ z → z ≡ pos (above z)
pos_above (pos n) h = refl
pos_above (negsuc n) h = absurd (omega (arith, ints))

pub above_positive : (z : ℤ) → pos 0 <ℤ z → 0 < above z
above_positive (pos n) h = omega (arith, ints)
above_positive (negsuc n) h = absurd (omega (arith, ints))

pub owns : (rows : List Basic) → IsTableau rows → Each (λ r. 0 < own r) rows
owns rows t = each-impl (IsUnitRow rows) _ rows (λ r u. above_positive (coefficient r.inside r.form) u.own) t.units

fixed_one : (rows : List Basic) (n m : ℕ → ℤ) (r : Basic) → IsUnitRow rows r → Holds n r.form → Holds m r.form → ((c : ℕ) → is_inside rows c ≡ false → n c ≡ m c) → n r.inside ≡ m r.inside
fixed_one rows n m r u h k e =
    let d : ℕ → ℤ = λ c. n c +ℤ negsuc 0 *ℤ m c in
    let none : value_at d r.form ≡ pos 0 =
    value-plus n (λ c. negsuc 0 *ℤ m c) r.form ∙ ap₂ ◌+ℤ◌ h (value-scaled (negsuc 0) m r.form ∙ ap (λ (t : ℤ). negsuc 0 *ℤ t) k) in
    let one : value_at d r.form ≡ coefficient r.inside r.form *ℤ d r.inside =
    value-single d r.inside r.form
    (λ c ne. elim (cases_Bool (is_inside rows c)) [
      | inl i ↦ ap (λ (t : ℤ). t *ℤ d c) (u.others c i ne) ∙ zero-mul_ℤ (d c)
      | inr o ↦ ap (λ (t : ℤ). coefficient c r.form *ℤ t) (minus-same (n c) (m c) (e c o)) ∙ mul-zero_ℤ (coefficient c r.form)
    ]) in
    minus (n r.inside) (m r.inside)
    (zero_from_mul (own r) (d r.inside) (above_positive _ u.own) (ap (λ (t : ℤ). t *ℤ d r.inside) (sym (pos_above _ u.own)) ∙ sym one ∙ none))

solution-Holds : (rows : List Basic) (o : ℕ → ℤ) (r : Basic) → IsUnitRow rows r → (whole rows / own r * own r ≡ whole rows) → filled rows (λ r. neg_ℤ (pos (whole rows / own r) *ℤ value_at (outside_part rows o) r.form)) r.inside ≡ neg_ℤ (pos (whole rows / own r) *ℤ value_at (outside_part rows o) r.form) → Holds (solution rows o) r.form
solution-Holds rows o r u w e =
    let v : Basic → ℤ = λ r. neg_ℤ (pos (whole rows / own r) *ℤ value_at (outside_part rows o) r.form) in
    let rest : ℤ = value_at (outside_part rows o) r.form in
    value-plus (λ c. pos (whole rows) *ℤ outside_part rows o c) (filled rows v) r.form
    ∙ ap₂ ◌+ℤ◌
    (value-scaled (pos (whole rows)) (outside_part rows o) r.form ∙ ap (λ (t : ℕ). pos t *ℤ rest) (sym w))
    (value-single (filled rows v) r.inside r.form
    (λ c ne. elim (outside_filled rows v c) [
      | inl i ↦ ap (λ (t : ℤ). t *ℤ filled rows v c) (u.others c i ne) ∙ zero-mul_ℤ (filled rows v c)
      | inr z ↦ ap (λ (t : ℤ). coefficient c r.form *ℤ t) z ∙ mul-zero_ℤ (coefficient c r.form)
    ])
    ∙ ap₂ ◌*ℤ◌ (pos_above (coefficient r.inside r.form) u.own) e)
    ∙ fill-cancel (whole rows / own r) (own r) rest

pub solution-HoldAll : (rows : List Basic) (o : ℕ → ℤ) → IsTableau rows → HoldAll (solution rows o) rows
solution-HoldAll rows o t =
    let v : Basic → ℤ = λ r. neg_ℤ (pos (whole rows / own r) *ℤ value_at (outside_part rows o) r.form) in
    each-impl (λ r. IsUnitRow rows r × ((whole rows / own r * own r ≡ whole rows) × (filled rows v r.inside ≡ v r))) (λ r. Holds (solution rows o) r.form) rows
    (λ r h. solution-Holds rows o r h.0 h.1.0 h.1.1)
    (each-both _ _ rows t.units
    (each-both _ _ rows (product-shares own rows (whole rows) 1 (omega arith) (owns rows t)) (own_filled rows v t.distinct)))

-- outside, that solution is what was asked for
pub solution-outside : (rows : List Basic) (o : ℕ → ℤ) (c : ℕ) → is_inside rows c ≡ false → solution rows o c ≡ pos (whole rows) *ℤ o c
solution-outside rows o c e =
    let v : Basic → ℤ = λ r. neg_ℤ (pos (whole rows / own r) *ℤ value_at (outside_part rows o) r.form) in
    ap₂ ◌+ℤ◌ (ap (λ (b : Bool). pos (whole rows) *ℤ cond b (pos 0) (o c)) e)
    (elim (outside_filled rows v c) [ inl i ↦ absurd (true≢false (sym i ∙ e)) | inr z ↦ z ])
    ∙ add-zero_ℤ (pos (whole rows) *ℤ o c)

-- an inside column is fixed by the outside ones
pub fixed : (rows : List Basic) (n m : ℕ → ℤ) → IsTableau rows → HoldAll n rows → HoldAll m rows → ((c : ℕ) → is_inside rows c ≡ false → n c ≡ m c) → Each (λ r. n r.inside ≡ m r.inside) rows
fixed rows n m t h k e =
    each-impl (λ r. IsUnitRow rows r × (Holds n r.form × Holds m r.form)) (λ r. n r.inside ≡ m r.inside) rows
    (λ r a. fixed_one rows n m r a.0 a.1.0 a.1.1 e)
    (each-both _ _ rows t.units (each-both _ _ rows h k))

-- ---- a form that is 0 at each solution is known by its inside columns

abbrev pub unit_at : ℕ → ℕ → ℤ
unit_at c v = cond (nat_eq v c) (pos 1) (pos 0)
