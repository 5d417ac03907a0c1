-- All sums of a map are 0 where each of its values is.
use Rattle.std.proofs.Common.{◌≡◌, ℕ, ◌<◌, List, length, get_or, ℤ, pos, Option, Some, None, BTreeMap, refl, ap, ◌∙◌, arith, unwrap_or, All}
use Rattle.std.specs.Option.{IfSome}
use Rattle.std.specs.Ordering.{nat_cmp}
use Rattle.std.specs.Map.{lookup}
use Rattle.std.specs.BTreeMap.{IsOrdered, IsEmpty, values, is_at, get}
use Rattle.std.proofs.lemmas.Cmp.{nat_cmp_total}
use Rattle.std.proofs.lemmas.Option.{slice_get-get_or}
use Rattle.std.proofs.lemmas.List.{length-map, get_or-map}
use Rattle.std.proofs.lemmas.Map.Views.{IfSome-lookup_from_All}
use Rattle.std.proofs.lemmas.Map.Entries.{btree_map_get_place}
use Rattle.cert_checker.specs.LineSums.{sum_at}

zero_or : (o : Option ℤ) → IfSome o (λ s. s ≡ pos 0) → unwrap_or o (pos 0) ≡ pos 0
zero_or (Some x) h = h
zero_or None h = refl

pub sums-zero : (m : BTreeMap ℕ ℤ) → All (λ s. s ≡ pos 0) (values m) → (v : ℕ) → sum_at m v ≡ pos 0
sums-zero m h v = zero_or (lookup (is_at (nat_cmp v)) m.entries) (IfSome-lookup_from_All (λ s. s ≡ pos 0) (is_at (nat_cmp v)) m.entries h)

found_zero : (o : Option ℤ) (x : ℤ) → o ≡ Some x → unwrap_or o (pos 0) ≡ pos 0 → x ≡ pos 0
found_zero o x e h = rw e at h

pub values-zero : (m : BTreeMap ℕ ℤ) → IsOrdered nat_cmp m → ((v : ℕ) → sum_at m v ≡ pos 0) → All (λ s. s ≡ pos 0) (values m)
values-zero m ordered h = λ k d l.
    let none : ℕ × ℤ = (0, pos 0) in
    let below : k < length m.entries = omega (arith, l, length-map m.entries (λ (e : ℕ × ℤ). e.1)) in
    let at : ℕ × ℤ = get_or m.entries k none in
    get_or-map (λ (e : ℕ × ℤ). e.1) m.entries k none d below
    ∙ found_zero (get nat_cmp m (get_or m.entries k none).0) (get_or m.entries k none).1
    (btree_map_get_place nat_cmp_total m k (get_or m.entries k none).0 (get_or m.entries k none).1 ordered (slice_get-get_or m.entries k none below))
    (h (get_or m.entries k none).0)

pub empty-sums : (m : BTreeMap ℕ ℤ) → IsEmpty m → (v : ℕ) → sum_at m v ≡ pos 0
empty-sums m e v = ap (λ (es : List (ℕ × ℤ)). unwrap_or (lookup (is_at (nat_cmp v)) es) (pos 0)) e
