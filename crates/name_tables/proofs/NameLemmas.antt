-- Entries whose keys are texts, seen as entries whose keys are the texts' bytes.
use Rattle.std.proofs.Common.{◌≡◌, ◌≢◌, ℕ, zero, suc, ◌+◌, ◌≤◌, Bool, true, false, cond, not, List, [], ◌∷◌, ◌++◌, map, length, position, remove, None, Some, AllPairs, refl, ap, ◌∙◌, if◌then◌else◌, arith}
use Rattle.std.proofs.lemmas.Grind.{common_steps}
use Rattle.std.proofs.lemmas.List.{length-map}
use Rattle.std.proofs.lemmas.Map.Made.{AllPairs-from_IsDistinct}
use Rattle.std.proofs.lemmas.Slice.Eq.{bytes_eq-Decides}
use Rattle.std.specs.List.{AllByRecursion, AllZip, IsDistinct, position_or_len}
use Rattle.std.specs.Map.{keys_of, lookup, set_value, values_of}
use Rattle.std.specs.Str.{bytes_eq}
use Rattle.indexmap.specs.IndexMap.{insert_entry}

-- where no key passes, no value changes
pub set_value-absent : {K X : Type 0} (test : K → Bool) (es : List (K × X)) (v : X) → lookup test es ≡ None → set_value test es v ≡ es
set_value-absent test [] v none = refl
set_value-absent test (e ∷ es) v none =
    elim (test e.0) as (λ b. cond b (Some e.1) (lookup test es) ≡ None → cond b ((e.0, v) ∷ es) (e ∷ set_value test es v) ≡ e ∷ es) [
      | true ↦ λ h. cc
      | false ↦ λ h. ap (λ rest. e ∷ rest) (set_value-absent test es v h)
    ] none

module _ {K X : Type 0} (bytes : K → List ℕ) where
  -- an entry with its key's bytes
  abbrev pub seen : K × X → List ℕ × X
  seen e = (bytes e.0, e.1)

  first-seen : (name : List ℕ) (es : List (K × X)) → position_or_len (bytes_eq name) (keys_of (map seen es)) ≡ position_or_len (λ k. bytes_eq name (bytes k)) (keys_of es)
  first-seen name [] = refl
  first-seen name (e ∷ es) = ap (λ n. cond (not (bytes_eq name (bytes e.0))) (1 + n) 0) (first-seen name es)

  -- a name is found where its key is
  pub position-seen : (name : List ℕ) (es : List (K × X)) → position (bytes_eq name) (keys_of (map seen es)) ≡ position (λ k. bytes_eq name (bytes k)) (keys_of es)
  position-seen name es = simp (first-seen name es, length-map) refl

  pub values-seen : (es : List (K × X)) → values_of (map seen es) ≡ values_of es
  values-seen [] = refl
  values-seen (e ∷ es) = ap (λ rest. e.1 ∷ rest) (values-seen es)

  pub lookup-seen : (name : List ℕ) (es : List (K × X)) → lookup (bytes_eq name) (map seen es) ≡ lookup (λ k. bytes_eq name (bytes k)) es
  lookup-seen name [] = refl
  lookup-seen name (e ∷ es) = ap (cond (bytes_eq name (bytes e.0)) (Some e.1)) (lookup-seen name es)

  pub set_value-seen : (name : List ℕ) (v : X) (es : List (K × X)) → map seen (set_value (λ k. bytes_eq name (bytes k)) es v) ≡ set_value (bytes_eq name) (map seen es) v
  set_value-seen name v [] = refl
  set_value-seen name v (e ∷ es) =
      elim (bytes_eq name (bytes e.0)) as (λ b. map seen (cond b ((e.0, v) ∷ es) (e ∷ set_value (λ k. bytes_eq name (bytes k)) es v)) ≡ cond b ((bytes e.0, v) ∷ map seen es) (seen e ∷ set_value (bytes_eq name) (map seen es) v)) [
        | true ↦ refl
        | false ↦ ap (λ rest. seen e ∷ rest) (set_value-seen name v es)
      ]

  -- an entry under a name that isn't there goes last
  last-seen : (key : K) (v : X) (es : List (K × X)) → length es ≤ position_or_len (bytes_eq (bytes key)) (keys_of (map seen es))
      → map seen (insert_entry (λ a b. bytes_eq (bytes a) (bytes b)) es key v) ≡ map seen es ++ (bytes key, v) ∷ []
  last-seen key v [] absent = refl
  last-seen key v (e ∷ es) absent =
      elim (bytes_eq (bytes key) (bytes e.0)) as (λ b. length es + 1 ≤ cond (not b) (1 + position_or_len (bytes_eq (bytes key)) (keys_of (map seen es))) 0
      → map seen (if b then (e.0, v) ∷ es else e ∷ insert_entry (λ a b. bytes_eq (bytes a) (bytes b)) es key v) ≡ seen e ∷ (map seen es ++ (bytes key, v) ∷ [])) [
        | true ↦ λ h. absurd (omega (arith, h))
        | false ↦ λ h. ap (λ rest. seen e ∷ rest) (last-seen key v es (omega (arith, h)))
      ] (omega (arith, absent))

  pub insert_entry-seen : (key : K) (v : X) (es : List (K × X)) (name : List ℕ) → bytes key ≡ name → position (bytes_eq name) (keys_of (map seen es)) ≡ None
      → map seen (insert_entry (λ a b. bytes_eq (bytes a) (bytes b)) es key v) ≡ map seen es ++ (name, v) ∷ []
  insert_entry-seen key v es name is none =
      let same : position (bytes_eq (bytes key)) (keys_of (map seen es)) ≡ None = rw is none in
      let absent : length es ≤ position_or_len (bytes_eq (bytes key)) (keys_of (map seen es)) = grind (arith, common_steps, same) in
      last-seen key v es absent ∙ ap (λ n. map seen es ++ (n, v) ∷ []) is

  -- clones of the entries have their names
  pub AllZip-seen : (D : X → X → Type 0) (es fs : List (K × X)) → AllZip (λ p q. (bytes q.0 ≡ bytes p.0) × D p.1 q.1) es fs
      → AllZip (λ p q. (q.0 ≡ p.0) × D p.1 q.1) (map seen es) (map seen fs)
  AllZip-seen D [] [] h = tt
  AllZip-seen D [] (f ∷ fs) h = h
  AllZip-seen D (e ∷ es) [] h = h
  AllZip-seen D (e ∷ es) (f ∷ fs) h = (h.0, AllZip-seen D es fs h.1)

  distinct-seen : (es : List (K × X)) → IsDistinct (λ a b. bytes_eq (bytes a) (bytes b)) (keys_of es) → IsDistinct bytes_eq (keys_of (map seen es))
  unfolding IsDistinct
  distinct-seen [] h = tt
  distinct-seen (e ∷ es) h = (apart es h.0, distinct-seen es h.1)
    where
      apart : (fs : List (K × X)) → AllByRecursion (λ k. bytes_eq (bytes e.0) (bytes k) ≡ false) (keys_of fs) → AllByRecursion (λ n. bytes_eq (bytes e.0) n ≡ false) (keys_of (map seen fs))
      apart [] g = tt
      apart (f ∷ fs) g = (g.0, apart fs g.1)

  -- keys that differ have names that differ
  pub AllPairs-seen : (es : List (K × X)) → IsDistinct (λ a b. bytes_eq (bytes a) (bytes b)) (keys_of es) → AllPairs (λ a b. a ≢ b) (keys_of (map seen es))
  AllPairs-seen es h = AllPairs-from_IsDistinct bytes_eq-Decides (keys_of (map seen es)) (distinct-seen es h)

-- the names of what is left where an entry goes
pub names-remove : {V : Type 0} (es : List (List ℕ × V)) (i : ℕ) → keys_of (remove es i) ≡ remove (keys_of es) i
names-remove [] zero = refl
names-remove [] (suc i) = refl
names-remove (e ∷ es) zero = refl
names-remove (e ∷ es) (suc i) = ap (λ names. e.0 ∷ names) (names-remove es i)
