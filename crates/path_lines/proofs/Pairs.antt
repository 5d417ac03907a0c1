-- Pairs and their numbers.
use Rattle.std.proofs.Common.{◌≡◌, ◌∙◌, ◌⊎◌, ℕ, ◌+◌, ◌<◌, refl, sym, ap, subst, arith, inl, inr, Bool, true, false, cond, Option, None, Some, IsTrue}
use Rattle.std.specs.Option.{is_some}
use Rattle.std.specs.Ordering.{is_eq, nat_cmp}
use Rattle.std.specs.declared.cmp.Ordering.{Ordering}
use Rattle.std.specs.declared.cmp.Ordering.TheVariants.{Less, Equal, Greater}
use Rattle.std.specs.BTreeMap.{BTreeMap, Updates, btree_map_len, get, is_at}
use Rattle.std.proofs.lemmas.Bool.{cases_Bool}
use Rattle.std.proofs.lemmas.Map.Lookups.{exact_pairs, exact_unsigned}
use Rattle.std.proofs.lemmas.Option.{same_Some}
use Rattle.path_lines.specs.Numbering.{AreNumbered, Extends, HasNumber, pair_cmp}
use Rattle.path_lines.proofs.Iffs.{never_true, yes}

pub not_both : false ≡ true → ⊥
not_both e = never_true (subst IsTrue (sym e) yes)

pub nothing : {X : Type 0} (x : X) → None ≡ Some x → ⊥
nothing {X = X} x e = not_both (ap (λ (o : Option X). is_some o) e)

equal_then : (o : Ordering) → is_eq o ≡ true → o ≡ Equal
equal_then Less e = absurd (not_both e)
equal_then Equal e = refl
equal_then Greater e = absurd (not_both e)

pub at_same : (x y : ℕ × ℕ) → is_at (pair_cmp x) y ≡ true → x ≡ y
at_same x y e = exact_pairs nat_cmp nat_cmp exact_unsigned exact_unsigned x y (equal_then (pair_cmp x y) e)

-- a pair that is put in is the one that is looked up, or nothing changes there
changed : (m n : BTreeMap (ℕ × ℕ) ℕ) (pair q : ℕ × ℕ) (v : ℕ) → Updates pair_cmp m n pair (Some v) → ((pair ≡ q) × (get pair_cmp n q ≡ Some v)) ⊎ (get pair_cmp n q ≡ get pair_cmp m q)
changed m n pair q v u =
    elim (cases_Bool (is_at (pair_cmp pair) q)) [
      | inl same ↦ inl (at_same pair q same, u.0 q ∙ ap (λ (b : Bool). cond b (Some v) (get pair_cmp m q)) same)
      | inr other ↦ inr (u.2 q other)
    ]

pub extends_more : (m n : BTreeMap (ℕ × ℕ) ℕ) (pair : ℕ × ℕ) (v : ℕ) → Updates pair_cmp m n pair (Some v) → get pair_cmp m pair ≡ None → Extends m n
extends_more m n pair v u none q w has =
    elim (changed m n pair q v u) [
      | inl here ↦ absurd (nothing w (sym none ∙ ap (λ (x : ℕ × ℕ). get pair_cmp m x) here.0 ∙ has))
      | inr there ↦ there ∙ has
    ]

pub numbered_more : (m n : BTreeMap (ℕ × ℕ) ℕ) (pair : ℕ × ℕ) → AreNumbered m → Updates pair_cmp m n pair (Some (btree_map_len m)) → btree_map_len n ≡ btree_map_len m + 1 → AreNumbered n
numbered_more m n pair are u long = record {
  below = λ q v has. elim (changed m n pair q (btree_map_len m) u) [
    | inl here ↦ let e : btree_map_len m ≡ v = same_Some (btree_map_len m) v (sym here.1 ∙ has) in omega (arith, e, long)
    | inr there ↦ let l : v < btree_map_len m = are.below q v (sym there ∙ has) in omega (arith, l, long)
  ];
  apart = λ q r v has same. elim (changed m n pair q (btree_map_len m) u) [
    | inl here ↦
        elim (changed m n pair r (btree_map_len m) u) [
          | inl also ↦ sym here.0 ∙ also.0
          | inr there ↦ absurd (new_apart r v (same_Some (btree_map_len m) v (sym here.1 ∙ has)) (sym there ∙ same))
        ]
    | inr there ↦
        elim (changed m n pair r (btree_map_len m) u) [
          | inl also ↦ absurd (new_apart q v (same_Some (btree_map_len m) v (sym also.1 ∙ same)) (sym there ∙ has))
          | inr here ↦ are.apart q r v (sym there ∙ has) (sym here ∙ same)
        ]
  ];
}
  where
    new_apart : (q : ℕ × ℕ) (v : ℕ) → btree_map_len m ≡ v → HasNumber m q v → ⊥
    new_apart q v e has = let l : v < btree_map_len m = are.below q v has in omega (arith, e, l)
