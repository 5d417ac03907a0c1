-- Which mark enters and which leaves: `x >= 5` where x is 0.
use Rattle.std.proofs.Common.{◌≡◌, ℕ, zero, suc, cond, nat_eq, List, [], ◌∷◌, ℤ, pos, negsuc, ◌-ℤ◌, ◌*ℤ◌, ◌<ℤ◌, ◌≤ℤ◌, arith, All}
use Rattle.std.proofs.lemmas.List.Elements.{All-from_recursion, recursion_from_All}
use borrow.Author.Differences.{ints}
use Rattle.problem_core.specs.declared.parts.Side.{Side}
use Rattle.problem_core.specs.declared.parts.Side.TheVariants.{Under, Over}
use Rattle.problem_core.specs.declared.parts.Term.{Term}
use Rattle.problem_core.specs.Layout.{coefficient, lines}
use Rattle.problem_core.specs.Certificates.{IsLexNonnegative}
use Rattle.problem_core.specs.Corners.{place, place_of}
use Rattle.corner_laws.specs.Examples.{over_second, single, under_row}
use Rattle.corner_laws.specs.Laws.{IsFirstDown}
use Rattle.corner_laws.specs.Sums.{IsDualChoice}
use Rattle.frac_core.proofs.Numbers.{minus-self-up as same-up}

-- ---- dual: the row is over at -5, which is the under deviation and the stay's deviation less 5

abbrev pub over_form : List Term
over_form = record { attr = 4; by = pos 1 } ∷ record { attr = 7; by = pos 1 } ∷ record { attr = 6; by = negsuc 0 } ∷ []

-- the row's under mark costs at the first level, the stay's marks at their own
abbrev pub reduced_over : ℕ → ℕ → ℤ
reduced_over level v = cond (nat_eq level 0) (cond (nat_eq v 4) (pos 1) (pos 0)) (cond (nat_eq level 1001) (cond (nat_eq v 6) (pos 1) (cond (nat_eq v 7) (pos 1) (pos 0))) (pos 0))

costs-more : IsLexNonnegative (λ level. pos 1 *ℤ reduced_over level 4 -ℤ pos 1 *ℤ reduced_over level 7)
costs-more zero before = omega (arith, ints)
costs-more (suc level) before = let h : pos 1 ≡ pos 0 = before 0 (omega arith) in absurd (omega (arith, ints, h))

least-there : (side : Side) → All (λ l. pos 0 <ℤ coefficient (place_of l.name side) over_form → IsLexNonnegative (λ level. coefficient 7 over_form *ℤ reduced_over level (place_of l.name side) -ℤ coefficient (place_of l.name side) over_form *ℤ reduced_over level 7)) (lines (single 5))
least-there Under =
    All-from_recursion (λ l. pos 0 <ℤ coefficient (place_of l.name Under) over_form → IsLexNonnegative (λ level. coefficient 7 over_form *ℤ reduced_over level (place_of l.name Under) -ℤ coefficient (place_of l.name Under) over_form *ℤ reduced_over level 7)) (lines (single 5))
    ((λ h. costs-more), ((λ h. absurd h.lt), tt))
least-there Over =
    All-from_recursion (λ l. pos 0 <ℤ coefficient (place_of l.name Over) over_form → IsLexNonnegative (λ level. coefficient 7 over_form *ℤ reduced_over level (place_of l.name Over) -ℤ coefficient (place_of l.name Over) over_form *ℤ reduced_over level 7)) (lines (single 5))
    ((λ h. absurd h.lt), ((λ h level before. same-up (pos 1 *ℤ reduced_over level 7)), tt))

-- the stay's over mark enters, which costs at its own level alone
pub stay_enters : IsDualChoice (single 5) 7 over_form reduced_over
stay_enters = (omega (arith, ints), least-there)

-- the row's under mark does not: it costs at the first level
pub under_stays_out : IsDualChoice (single 5) 4 over_form reduced_over → ⊥
under_stays_out (up, least) =
    let h = (recursion_from_All (λ l. pos 0 <ℤ coefficient (place_of l.name Over) over_form → IsLexNonnegative (λ level. coefficient 4 over_form *ℤ reduced_over level (place_of l.name Over) -ℤ coefficient (place_of l.name Over) over_form *ℤ reduced_over level 4)) (lines (single 5)) (least Over)).1.0 (omega (arith, ints)) 0 (λ k less. absurd (omega (arith, less))) in
    absurd (omega (arith, ints, h))

-- ---- primal: of two marks that fall alike, the one at 3 leaves before the one at 5

abbrev values_there : ℕ → ℤ
values_there v = cond (nat_eq v 4) (pos 5) (cond (nat_eq v 9) (pos 3) (pos 0))

abbrev ray_there : ℕ → ℤ
ray_there v = cond (nat_eq v 4) (negsuc 0) (cond (nat_eq v 9) (negsuc 0) (pos 0))

pub third_leaves : IsFirstDown (under_row ∷ over_second ∷ []) values_there ray_there 9
third_leaves = (
  omega (arith, ints),
  All-from_recursion (λ m. ray_there (place m) <ℤ pos 0 → (values_there (place m) *ℤ ray_there 9) ≤ℤ (values_there 9 *ℤ ray_there (place m))) (under_row ∷ over_second ∷ []) ((λ h. omega (arith, ints)), ((λ h. omega (arith, ints)), tt)),
)

pub fifth_does_not : IsFirstDown (under_row ∷ over_second ∷ []) values_there ray_there 4 → ⊥
fifth_does_not (low, first) =
    let h = (recursion_from_All (λ m. ray_there (place m) <ℤ pos 0 → (values_there (place m) *ℤ ray_there 4) ≤ℤ (values_there 4 *ℤ ray_there (place m))) (under_row ∷ over_second ∷ []) first).1.0 (omega (arith, ints)) in
    absurd (omega (arith, ints, h))
