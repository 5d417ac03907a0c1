-- The lists of the columns.
use Rattle.std.proofs.Common.{◌≡◌, ◌≢◌, inl, inr, ℕ, zero, suc, ◌<◌, List, [], ◌∷◌, length, set, Some, sym, refl, subst, ap, arith}
use Rattle.std.specs.List.{Contains}
use Rattle.version_lists.specs.declared.rows.list.Column.{Column}
use Rattle.std.proofs.lemmas.List.{length-set}
use Rattle.version_lists.specs.Versions.{IsOwn}
use Rattle.version_lists.specs.Indexes.{list_at}
use Rattle.version_lists.specs.Lists.{IsChangedAt}

own_items : (v x : Column) → Some v ≡ Some x → x.slots.items ≡ v.slots.items
own_items v x e = cc

abbrev IsClone : Column → Column → Type 0
IsClone v u = u.slots.items ≡ v.slots.items

-- an element's own list, or a clone of it, has the same slots
pub own_list : (lists : List Column) (c : ℕ) (x : Column) → IsOwn IsClone lists c x → x.slots.items ≡ list_at lists c
own_list [] c x (inl e) = cc
own_list [] c x (inr r) = absurd r
own_list (v ∷ lists) zero x (inl e) = own_items v x e
own_list (v ∷ lists) zero x (inr r) = r
own_list (v ∷ lists) (suc c) x (inl e) = own_list lists c x (inl e)
own_list (v ∷ lists) (suc c) x (inr r) = own_list lists c x (inr r)

list_set : (lists : List Column) (c : ℕ) (v : Column) → c < length lists → list_at (set lists c v) c ≡ v.slots.items
list_set [] c v within = absurd (omega arith)
list_set (u ∷ lists) zero v within = refl
list_set (u ∷ lists) (suc c) v within = list_set lists c v (omega arith)

list_kept : (lists : List Column) (c : ℕ) (v : Column) (d : ℕ) → d ≢ c → list_at (set lists c v) d ≡ list_at lists d
list_kept [] c v d other = refl
list_kept (u ∷ lists) zero v zero other = absurd (other refl)
list_kept (u ∷ lists) zero v (suc d) other = refl
list_kept (u ∷ lists) (suc c) v zero other = refl
list_kept (u ∷ lists) (suc c) v (suc d) other = list_kept lists c v d (λ e. other (ap suc e))

pub changed_at : (Becomes : List ℕ → List ℕ → Type 0) (lists : List Column) (c : ℕ) (v : Column) → c < length lists → Becomes (list_at lists c) v.slots.items → IsChangedAt Becomes c lists (set lists c v)
changed_at Becomes lists c v within becomes = record {
  lengths = length-set lists c v;
  here = subst (Becomes (list_at lists c)) (sym (list_set lists c v within)) becomes;
  elsewhere = λ d other. list_kept lists c v d other;
}

-- a list past the last has nothing
pub listed_within : (lists : List Column) (c w : ℕ) → Contains (list_at lists c) w → c < length lists
listed_within [] c w (k, within, is) = absurd (omega (arith, within))
listed_within (v ∷ lists) zero w has = omega arith
listed_within (v ∷ lists) (suc c) w has = omega (arith, listed_within lists c w has)
