-- The row of a number among rising rows.
use Rattle.std.proofs.Common.{◌≡◌, ◌∙◌, ℕ, ◌<◌, ◌≤◌, true, false, ltb, List, length, inl, inr, sym, ap, subst, arith, slice_index_or, AllPairs, Any}
use Rattle.std.proofs.lemmas.Bool.{cases_lt, ltb-false, ltb-true}
use Rattle.std.proofs.lemmas.List.{get_or_default}
use Rattle.std.specs.List.Sorted.{IsNonDecreasingBy, IsPartitionPoint}
use Rattle.problem_core.specs.Layout.{Row}

ids_never_fall : (rows : List Row) → AllPairs (λ r s. r.id < s.id) rows → IsNonDecreasingBy (λ r. r.id) rows
ids_never_fall rows rising i j d le within =
    elim (cases_lt i j) [
      | inl less ↦ let h = rising i j d less within in omega (arith, h)
      | inr ge ↦
          let same : i ≡ j = omega (arith, le, ge) in
          rw same (omega arith)
    ]

-- the row of the number is where those before it end
found_place : (rows : List Row) (id i : ℕ) → AllPairs (λ r s. r.id < s.id) rows → Any (λ r. r.id ≡ id) rows
    → IsPartitionPoint (λ r. ltb r.id id ≡ true) (λ r. ltb r.id id ≡ false) rows i → (i < length rows) × ((r : Row) → (slice_index_or rows i r).id ≡ id)
found_place rows id i rising (k, x, within, is, own) point = subst (λ (j : ℕ). (j < length rows) × ((r : Row) → (slice_index_or rows j r).id ≡ id)) (sym same) (within, there)
  where
    there : (r : Row) → (slice_index_or rows k r).id ≡ id
    there r = ap (λ (y : Row). y.id) (get_or_default rows k r x within ∙ is) ∙ own

    not-before : k < i → ⊥
    not-before less = let h : (slice_index_or rows k x).id < id = ltb-true (slice_index_or rows k x).id id (point.0 k x (omega arith) less) in let e = there x in absurd (omega (arith, h, e))

    not-behind : i < k → ⊥
    not-behind less =
        let h = rising i k x less within in
        let g : id ≤ (slice_index_or rows i x).id = ltb-false (slice_index_or rows i x).id id (point.1 i x (omega arith) (omega (arith, less, within))) in
        let e = there x in
        absurd (omega (arith, h, g, e))

    same : i ≡ k
    same =
        elim (cases_lt i k) [
          | inl less ↦ absurd (not-behind less)
          | inr ge ↦ elim (cases_lt k i) [
            | inl less ↦ absurd (not-before less)
            | inr le ↦ omega (arith, ge, le)
          ]
        ]

pub found_in : (rows all : List Row) (id i : ℕ) → rows ≡ all → AllPairs (λ r s. r.id < s.id) all → Any (λ r. r.id ≡ id) all
    → (IsNonDecreasingBy (λ r. r.id) rows → IsPartitionPoint (λ r. ltb r.id id ≡ true) (λ r. ltb r.id id ≡ false) rows i) → (i < length all) × ((r : Row) → (slice_index_or all i r).id ≡ id)
found_in rows all id i same rising held point =
    found_place all id i rising held
    (subst (λ rs. IsPartitionPoint (λ r. ltb r.id id ≡ true) (λ r. ltb r.id id ≡ false) rs i) same (point (subst (IsNonDecreasingBy (λ r. r.id)) (sym same) (ids_never_fall all rising))))
