-- Values of different attributes, and what is read of them.
use Rattle.std.proofs.Common.{◌≡◌, ◌≢◌, ◌∙◌, ℕ, zero, suc, Bool, cond, List, [], ◌∷◌, map, get_or, inl, inr, ◌⊎◌, sym, ap, ap₂, subst, arith, All, Any, eq-eqb, ne_eqb}
use Rattle.std.proofs.lemmas.Bool.{cases_eq}
use Rattle.std.proofs.lemmas.List.Elements.{All-map, All-weaker}
use Rattle.frac_core.specs.Fraction.{Fraction}
use Rattle.frac_core.proofs.Lists.{any-cases, any-here, any-later, pairs-rest}
use Rattle.problem_core.specs.Gaps.{HasValue, value_of}
use Rattle.problem_core.specs.declared.parts.Stay.{Stay}
use Rattle.problem_core.specs.Layout.{HasStay}
use Rattle.certificates.proofs.SameValues.{of_stays}
use Rattle.layout_solver.specs.Layouts.{AreApart}

abbrev pair : ℕ → Fraction → ℕ × Fraction
pair n f = (n, f)

abbrev is_at : (attr : ℕ) (f : Fraction) → ℕ × Fraction → Type 0
is_at attr f v = (v.0 ≡ attr) × (v.1 ≡ f)

-- what is read where the first value is the attribute's, and where it isn't
read-here : (v : ℕ × Fraction) (values : List (ℕ × Fraction)) (attr : ℕ) → v.0 ≡ attr → value_of (v ∷ values) attr ≡ v.1
read-here v values attr e = ap (λ (b : Bool). cond b v.1 (value_of values attr)) (eq-eqb v.0 attr e)

read-later : (v : ℕ × Fraction) (values : List (ℕ × Fraction)) (attr : ℕ) → v.0 ≢ attr → value_of (v ∷ values) attr ≡ value_of values attr
read-later v values attr n = ap (λ (b : Bool). cond b v.1 (value_of values attr)) (ne_eqb v.0 attr n)

-- the value that is read is the attribute's
pub value_is : (values : List (ℕ × Fraction)) (attr : ℕ) (f : Fraction) → AreApart values → Any (λ v. (v.0 ≡ attr) × (v.1 ≡ f)) values → f ≡ value_of values attr
value_is [] attr f apart (k, w, within, is, e) = absurd (omega (arith, within))
value_is (v ∷ values) attr f apart (zero, w, within, is, e) =
    sym (ap (λ (u : ℕ × Fraction). u.1) is ∙ e.1) ∙ sym (read-here v values attr (ap (λ (u : ℕ × Fraction). u.0) is ∙ e.0))
value_is (v ∷ values) attr f apart (suc k, w, within, is, e) =
    let other : v.0 ≢ (get_or values k w).0 = apart 0 (suc k) w (omega arith) (omega (arith, within)) in
    let same : (get_or values k w).0 ≡ attr = ap (λ (u : ℕ × Fraction). u.0) is ∙ e.0 in
    value_is values attr f (pairs-rest (λ (u w : ℕ × Fraction). u.0 ≢ w.0) v values apart) (k, w, omega (arith, within), is, e)
    ∙ sym (read-later v values attr (λ q. other (q ∙ sym same)))

-- where the attribute has a value, this is read
pub value_in : (values : List (ℕ × Fraction)) (attr : ℕ) → HasValue values attr → Any (λ v. (v.0 ≡ attr) × (v.1 ≡ value_of values attr)) values
value_in [] attr (k, w, within, is, e) = absurd (omega (arith, within))
value_in (v ∷ values) attr has = elim (cases_eq v.0 attr) [
  | inl same ↦ any-here (is_at attr (value_of (v ∷ values) attr)) v values (same, sym (read-here v values attr same))
  | inr other ↦ any-later (is_at attr (value_of (v ∷ values) attr)) v values
      (subst (λ (f : Fraction). Any (is_at attr f) values) (sym (read-later v values attr other))
      (value_in values attr (rest other (any-cases (λ (w : ℕ × Fraction). w.0 ≡ attr) v values has))))
]
  where
    rest : v.0 ≢ attr → (v.0 ≡ attr) ⊎ HasValue values attr → HasValue values attr
    rest other (inl same) = absurd (other same)
    rest other (inr later) = later

-- what holds of each value holds of those that are read
module _ (P : ℕ × Fraction → Type 0) (values : List (ℕ × Fraction)) (all : All P values) where
  read-one : (attr : ℕ) → HasValue values attr → P (attr, value_of values attr)
  read-one attr has =
      let (k, w, within, is, (e, f)) = value_in values attr has in
      let one : get_or values k w ≡ pair attr (value_of values attr) = is ∙ ap₂ pair e f in
      subst P one (all k w within)

  pub all_read : (attrs : List ℕ) → All (HasValue values) attrs → All P (map (λ a. (a, value_of values a)) attrs)
  all_read attrs has =
      All-map P (λ (a : ℕ). pair a (value_of values a)) attrs
      (All-weaker (HasValue values) (λ (a : ℕ). P (pair a (value_of values a))) read-one attrs has)

-- an attribute with a stay has a value, where the values are those of the stays
pub stay_valued : (stays : List Stay) (values : List (ℕ × Fraction)) → map (λ v. v.0) values ≡ map (λ s. s.attr) stays → (attr : ℕ) → HasStay stays attr → HasValue values attr
stay_valued stays values same attr (k, s, within, is, e) =
    subst (HasValue values) (ap (λ (t : Stay). t.attr) is ∙ e) ((of_stays (record { rows = []; stays = stays }) values same).valued k s within)
