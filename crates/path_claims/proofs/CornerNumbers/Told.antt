-- The corners of a path are told apart by the numbers of their trees.
use Rattle.std.proofs.Common.{◌≡◌, ◌∙◌, ℕ, suc, ◌+◌, ◌<◌, ◌≤◌, List, [], ◌∷◌, ◌++◌, get_or, length, sym, ap, subst, arith, inl, inr, Option}
use Rattle.std.specs.BTreeMap.{BTreeMap}
use Rattle.std.proofs.lemmas.Bool.{cases_eq}
use Rattle.std.proofs.lemmas.List.{get_or_append_left, get_or_push}
use Rattle.problem_core.specs.declared.parts.Side.{Side}
use Rattle.path_lines.specs.declared.spots.Step.{Step}
use Rattle.path_lines.specs.Numbering.{AreCornerNumbers, AreNumbered, Extends, IsTree, corner_at, entry}
use Rattle.path_lines.specs.Sides.{moved_sides}
use Rattle.path_claims.proofs.CornerNumbers.Corners.{corner_length, corner_next}
use Rattle.path_claims.proofs.CornerNumbers.Trees.{IsNumbered, later, tells}

pub tree_next : (m : BTreeMap (ℕ × ℕ) ℕ) (nodes : List ℕ) (first : List (Option Side)) (steps : List Step) (i : ℕ) (d : Step) → i < length steps → IsTree m nodes (moved_sides (get_or steps i d) (corner_at first steps i)) → IsTree m nodes (corner_at first steps (i + 1))
tree_next m nodes first steps i d within is =
    let next : suc i ≡ i + 1 = omega arith in
    subst (λ (k : ℕ). IsTree m nodes (corner_at first steps k)) next (subst (λ (s : List (Option Side)). IsTree m nodes s) (sym (corner_next first steps i d within)) is)

pub numbered_on : (m n : BTreeMap (ℕ × ℕ) ℕ) (first : List (Option Side)) (steps : List Step) (numbers : List ℕ) (i root : ℕ) (nodes : List ℕ) → length numbers ≡ i + 1 → Extends m n → IsTree n nodes (corner_at first steps (i + 1)) → root ≡ entry nodes 1
    → ((j : ℕ) → j ≤ i → IsNumbered m (corner_at first steps j) (entry numbers j)) → (j : ℕ) → j ≤ i + 1 → IsNumbered n (corner_at first steps j) (entry (numbers ++ root ∷ []) j)
numbered_on m n first steps numbers i root nodes long more tree is so_far j most =
    elim (cases_eq j (i + 1)) [
      | inl e ↦ subst (λ (k : ℕ). IsNumbered n (corner_at first steps k) (entry (numbers ++ root ∷ []) k)) (sym e) (nodes, tree, sym is ∙ sym (get_or_push numbers root 0 (i + 1) long))
      | inr ne ↦
          subst (IsNumbered n (corner_at first steps j)) (sym (get_or_append_left numbers (root ∷ []) 0 j (omega (arith, most, ne, long))))
          (later m n (corner_at first steps j) (entry numbers j) more (so_far j (omega (arith, most, ne))))
    ]

pub corners_told : (m : BTreeMap (ℕ × ℕ) ℕ) (first : List (Option Side)) (steps : List Step) (numbers : List ℕ) (i : ℕ) → AreNumbered m → 0 < length first → length numbers ≡ i + 1 → i ≡ length steps → ((j : ℕ) → j ≤ i → IsNumbered m (corner_at first steps j) (entry numbers j))
    → AreCornerNumbers first steps numbers
corners_told m first steps numbers i are some long end each = record {
  count = long ∙ ap (λ (k : ℕ). k + 1) end;
  same = λ j k here there.
      let size : length (corner_at first steps j) ≡ length first = corner_length first steps j (omega (arith, here, long, end)) in
      let other : length (corner_at first steps k) ≡ length first = corner_length first steps k (omega (arith, there, long, end)) in
      tells m (corner_at first steps j) (corner_at first steps k) (entry numbers j) (entry numbers k) are (omega (arith, some, size)) (size ∙ sym other) (each j (omega (arith, here, long))) (each k (omega (arith, there, long)));
}
