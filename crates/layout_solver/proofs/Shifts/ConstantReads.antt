-- The row of a number, among rows by rising number.
use Rattle.std.proofs.Common.{◌≡◌, ◌∙◌, ℕ, zero, suc, ◌<◌, ◌≤◌, true, false, ltb, List, [], ◌∷◌, length, get_or, refl, sym, ap, arith, inl, inr, All, AllPairs, Any}
use Rattle.std.specs.List.Sorted.{IsNonDecreasingBy, IsPartitionPoint}
use Rattle.std.proofs.lemmas.Bool.{cases_eq, cases_lt, ltb-false, ltb-true}
use Rattle.problem_core.specs.Layout.{Row}

same-item : (rows : List Row) (i : ℕ) (d e : Row) → i < length rows → get_or rows i d ≡ get_or rows i e
same-item [] i d e within = absurd (omega (arith, within))
same-item (r ∷ rows) zero d e within = refl
same-item (r ∷ rows) (suc i) d e within = same-item rows i d e (omega (arith, within))

pub rising_ids : (rows : List Row) → AllPairs (λ (a b : Row). a.id < b.id) rows → IsNonDecreasingBy (λ (a : Row). a.id) rows
rising_ids rows rising = λ i j d upto within. elim (cases_eq i j) [
  | inl e ↦ let same = ap (λ (k : ℕ). (get_or rows k d).id) e in omega (arith, same)
  | inr ne ↦ let less = rising i j d (omega (arith, upto, ne)) within in omega (arith, less)
]

module _ (rows : List Row) (id at : ℕ) (rising : AllPairs (λ (a b : Row). a.id < b.id) rows) (held : Any (λ (a : Row). a.id ≡ id) rows)
    (point : IsPartitionPoint (λ (a : Row). ltb a.id id ≡ true) (λ (a : Row). ltb a.id id ≡ false) rows at) where
  lower : (k : ℕ) (d : Row) → k < at → (get_or rows k d).id < id
  lower k d before = ltb-true (get_or rows k d).id id (point.0 k d (omega arith) before)

  higher : (k : ℕ) (d : Row) → at ≤ k → k < length rows → id ≤ (get_or rows k d).id
  higher k d from within = ltb-false (get_or rows k d).id id (point.1 k d from within)

  upto-held : at ≤ held.0
  upto-held = elim (cases_lt held.0 at) [
    | inl before ↦ absurd (let less = lower held.0 held.1 before in let same = ap (λ (a : Row). a.id) held.3 ∙ held.4 in omega (arith, less, same))
    | inr from ↦ from
  ]

  pub found_within : at < length rows
  found_within = let from = upto-held in let within = held.2 in omega (arith, from, within)

  pub found_number : (d : Row) → (get_or rows at d).id ≡ id
  found_number d = elim (cases_eq at held.0) [
    | inl e ↦ ap (λ (k : ℕ). (get_or rows k d).id) e ∙ ap (λ (a : Row). a.id) (same-item rows held.0 d held.1 held.2) ∙ ap (λ (a : Row). a.id) held.3 ∙ held.4
    | inr ne ↦ absurd (
        let from = upto-held in
        let least = higher at held.1 (omega arith) found_within in
        let less = rising at held.0 held.1 (omega (arith, from, ne)) held.2 in
        let same = ap (λ (a : Row). a.id) held.3 ∙ held.4 in
        omega (arith, least, less, same)
        )
  ]

  one-place : (k : ℕ) (d : Row) → k < length rows → (get_or rows k d).id ≡ id → k ≡ at
  one-place k d within own = elim (cases_lt k at) [
    | inl before ↦ absurd (let less = lower k d before in omega (arith, less, own))
    | inr from ↦ elim (cases_lt at k) [
      | inl past ↦ absurd (let less = rising at k d past within in let same = found_number d in omega (arith, less, own, same))
      | inr to ↦ omega (arith, from, to)
    ]
  ]

  pub found_constants : (r : Row) → r ≡ get_or rows at r → All (λ (a : Row). a.id ≡ id → a.constant ≡ r.constant) rows
  found_constants r is = λ k d within own.
      ap (λ (i : ℕ). (get_or rows i d).constant) (one-place k d within own)
      ∙ ap (λ (a : Row). a.constant) (same-item rows at d r found_within ∙ sym is)
