-- What a contract sees of a `VersionList`.
use Rattle.std.specs.Prelude.{◌≡◌, ◌⊎◌, ℕ, List, Some, slice_get, IsSomeAnd, refl}
use Rattle.std.specs.Coded.{Coded, code_by, coded×, coded_list}

-- the elements of now, and those of each earlier version, the newest first
pub record Versions (T : Type 0) : Type 0 where
  pub items : List T
  pub before : List (List T)

-- it is stored as the pair of its fields
abbrev pub versions_code : {T : Type 0} → Coded T → Coded (Versions T)
versions_code {T} code =
    code_by
    (List T × List (List T))
    (coded× (coded_list code) (coded_list (coded_list code)))
    (λ v. (v.items, v.before))
    (λ p. record { items = p.0; before = p.1 })
    (λ _. refl)

-- the value is the element at the place, or a clone of it
abbrev pub IsOwn : {T : Type 0} → (T → T → Type 0) → List T → ℕ → T → Type 0
IsOwn {T} is_clone items i value =
    (slice_get items i ≡ Some value) ⊎ IsSomeAnd (slice_get items i) (λ x. is_clone x value)
