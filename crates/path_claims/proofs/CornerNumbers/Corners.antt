-- The corners of a path by their numbers.
use Rattle.std.proofs.Common.{◌≡◌, ◌∙◌, ◌↔◌, ℕ, zero, suc, ◌+◌, ◌<◌, ◌≤◌, List, [], ◌∷◌, get_or, length, refl, sym, ap, subst, arith, inl, inr, Option, All, Any, IsTrue, Bool, true, false, not}
use Rattle.std.specs.BTreeSet.{BTreeSet, Updates, contains}
use Rattle.std.specs.Ordering.{nat_cmp}
use Rattle.std.specs.Prelude.{◌==◌}
use Rattle.std.proofs.lemmas.Bool.{cases_eq}
use Rattle.problem_core.specs.declared.parts.Side.{Side}
use Rattle.path_lines.specs.declared.spots.Step.{Step}
use Rattle.path_lines.specs.Numbering.{AreCornerNumbers, HasDouble, corner_at, entry}
use Rattle.path_lines.specs.Sides.{ComesTwice, IsWithin, moved_sides, walk}
use Rattle.path_lines.proofs.Iffs.{never_true, yes}
use Rattle.path_lines.proofs.MarkSides.Walks.{moved_length}
use Rattle.path_lines.proofs.Pairs.{not_both}
use Rattle.frac_core.proofs.Lists.{any-later as any_later, any-cases as any_case, any-here as any_here}
use Rattle.frac_core.proofs.Orders.{not-at as not_at}

pub corner_next : (first : List (Option Side)) (steps : List Step) (i : ℕ) (d : Step) → i < length steps → corner_at first steps (suc i) ≡ moved_sides (get_or steps i d) (corner_at first steps i)
corner_next first [] i d within = absurd (omega (arith, within))
corner_next first (step ∷ steps) zero d within = refl
corner_next first (step ∷ steps) (suc i) d within = corner_next (moved_sides step first) steps i d (omega (arith, within))

pub corner_length : (first : List (Option Side)) (steps : List Step) (i : ℕ) → i ≤ length steps → length (corner_at first steps i) ≡ length first
corner_length first [] zero most = refl
corner_length first [] (suc i) most = absurd (omega (arith, most))
corner_length first (step ∷ steps) zero most = refl
corner_length first (step ∷ steps) (suc i) most = corner_length (moved_sides step first) steps i (omega (arith, most)) ∙ moved_length step first

-- ---- two that are the same

-- two corners of the path are the same
abbrev pub AreTwo : List (Option Side) → List Step → Type 0
AreTwo first steps = (i j : ℕ) × (i < j) × (j ≤ length steps) × (corner_at first steps i ≡ corner_at first steps j)

any_there : (x s : List (Option Side)) (steps : List Step) (j : ℕ) → j < length steps → corner_at s steps (suc j) ≡ x → Any (λ next. next ≡ x) (walk s steps)
any_there x s [] j within e = absurd (omega (arith, within))
any_there x s (step ∷ steps) zero within e = any_here (λ (next : List (Option Side)). next ≡ x) (moved_sides step s) (walk (moved_sides step s) steps) e
any_there x s (step ∷ steps) (suc j) within e = any_later (λ (next : List (Option Side)). next ≡ x) (moved_sides step s) (walk (moved_sides step s) steps) (any_there x (moved_sides step s) steps j (omega (arith, within)) e)

there_any : (x s : List (Option Side)) (steps : List Step) → Any (λ next. next ≡ x) (walk s steps) → (j : ℕ) × (j < length steps) × (corner_at s steps (suc j) ≡ x)
there_any x s [] (k, next, within, is, same) = absurd (omega (arith, within))
there_any x s (step ∷ steps) any =
    elim (any_case (λ (next : List (Option Side)). next ≡ x) (moved_sides step s) (walk (moved_sides step s) steps) any) [
      | inl here ↦ (0, omega arith, here)
      | inr rest ↦ let r = there_any x (moved_sides step s) steps rest in (suc r.0, omega (arith, r.1), r.2)
    ]

pub twice_from : (first : List (Option Side)) (steps : List Step) → AreTwo first steps → ComesTwice first steps
twice_from first [] (i, j, less, most, e) = absurd (omega (arith, less, most))
twice_from first (step ∷ steps) (zero, zero, less, most, e) = absurd (omega (arith, less))
twice_from first (step ∷ steps) (zero, suc j, less, most, e) = inl (any_there first first (step ∷ steps) j (omega (arith, most)) (sym e))
twice_from first (step ∷ steps) (suc i, zero, less, most, e) = absurd (omega (arith, less))
twice_from first (step ∷ steps) (suc i, suc j, less, most, e) = inr (twice_from (moved_sides step first) steps (i, j, omega (arith, less), omega (arith, most), e))

pub twice_to : (first : List (Option Side)) (steps : List Step) → ComesTwice first steps → AreTwo first steps
twice_to first [] wrong = absurd wrong
twice_to first (step ∷ steps) (inl any) = let r = there_any first first (step ∷ steps) any in (0, suc r.0, omega arith, omega (arith, r.1), sym r.2)
twice_to first (step ∷ steps) (inr rest) = let r = twice_to (moved_sides step first) steps rest in (suc r.0, suc r.1, omega (arith, r.2), omega (arith, r.3), r.4)

pub double_is_twice : (first : List (Option Side)) (steps : List Step) (numbers : List ℕ) → AreCornerNumbers first steps numbers → HasDouble numbers ↔ ComesTwice first steps
double_is_twice first steps numbers are = (
  λ double. twice_from first steps
      (double.0, double.1, double.2, omega (arith, double.3, are.count), (are.same double.0 double.1 (omega (arith, double.2, double.3)) double.3).0 double.4),
  λ twice.
      let r = twice_to first steps twice in
      let within : r.1 < length numbers = omega (arith, r.3, are.count) in
      let before : r.0 < length numbers = omega (arith, r.2, within) in
      (r.0, r.1, r.2, within, (are.same r.0 r.1 before within).1 r.4),
)

-- ---- numbers that were seen

-- the set has the first so many of the numbers
abbrev pub HasSeen : List ℕ → ℕ → BTreeSet ℕ → Type 0
HasSeen numbers n seen = (q : ℕ) → IsTrue (contains nat_cmp seen q) ↔ ((i : ℕ) × (i < n) × (entry numbers i ≡ q))

pub seen_more : (numbers : List ℕ) (n x : ℕ) (old new : BTreeSet ℕ) → x ≡ entry numbers n → Updates nat_cmp old new x true → HasSeen numbers n old → HasSeen numbers (n + 1) new
seen_more numbers n x old new x_is u seen q =
    elim (cases_eq x q) [
      | inl e ↦ (λ has. (n, omega arith, sym x_is ∙ e), λ there. subst IsTrue (sym (ap (λ (z : ℕ). contains nat_cmp new z) (sym e) ∙ u.1)) yes)
      | inr ne ↦
          let same : contains nat_cmp new q ≡ contains nat_cmp old q = u.2 q (not_at x q ne) in (
            λ has. let r = (seen q).0 (subst IsTrue same has) in (r.0, omega (arith, r.1), r.2),
            λ there. subst IsTrue (sym same) ((seen q).1 (there.0, before there.0 there.1 (λ e. ne (x_is ∙ ap (λ (i : ℕ). entry numbers i) (sym e) ∙ there.2)), there.2)),
          )
    ]
  where
    before : (i : ℕ) → i < n + 1 → (i ≡ n → ⊥) → i < n
    before i less ne = omega (arith, less, ne)

pub double_there : (numbers : List ℕ) (n x : ℕ) (seen : BTreeSet ℕ) → n < length numbers → x ≡ entry numbers n → HasSeen numbers n seen → contains nat_cmp seen x ≡ true → HasDouble numbers
double_there numbers n x seen within x_is has known = let r = (has x).0 (subst IsTrue (sym known) yes) in (r.0, n, r.1, within, r.2 ∙ x_is)

-- no two of the first so many are the same
abbrev pub AreApartTo : List ℕ → ℕ → Type 0
AreApartTo numbers n = (i j : ℕ) → i < j → j < n → entry numbers i ≡ entry numbers j → ⊥

pub apart_more : (numbers : List ℕ) (n x : ℕ) (seen : BTreeSet ℕ) → x ≡ entry numbers n → HasSeen numbers n seen → contains nat_cmp seen x ≡ false → AreApartTo numbers n → AreApartTo numbers (n + 1)
apart_more numbers n x seen x_is has new apart i j less within same =
    elim (cases_eq j n) [
      | inl e ↦
          not_both (sym new ∙ is_true (contains nat_cmp seen x) ((has x).1 (i, omega (arith, less, e), same ∙ ap (λ (k : ℕ). entry numbers k) e ∙ sym x_is)))
      | inr ne ↦ apart i j less (omega (arith, within, ne)) same
    ]
  where
    is_true : (b : Bool) → IsTrue b → b ≡ true
    is_true true is = refl
    is_true false is = absurd (never_true is)

pub not_true : (b : Bool) → not b ≡ true → b ≡ false
not_true true e = absurd (not_both e)
not_true false e = refl

-- an exchange has a line
pub some_line : (first : List (Option Side)) (steps : List Step) → All (IsWithin (length first)) steps → false ≡ (length steps == 0) → 0 < length first
some_line first [] all e = absurd (not_both e)
some_line first (step ∷ steps) all e = let within : IsWithin (length first) step = all 0 step (omega arith) in omega (arith, within.0)
