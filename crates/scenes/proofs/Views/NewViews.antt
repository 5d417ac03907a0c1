-- Views that come are in no conflict.
use Rattle.std.proofs.Common.{◌≡◌, ℕ, zero, suc, ◌+◌, ◌*◌, ◌<◌, ◌≤◌, Bool, true, false, cond, List, [], ◌∷◌, ◌++◌, ℤ, pos, ◌*ℤ◌, sym, ap, ◌∙◌, arith, lit<}
use Rattle.std.specs.Prelude.{nat_le}
use Rattle.std.proofs.lemmas.Grind.{common_steps}
use Rattle.std.specs.List.{AllByRecursion as Each, All}
use Rattle.std.proofs.lemmas.List.Elements.{recursion_from_All, All-from_recursion}
use Rattle.frac_core.proofs.Integers.{zero-mul_ℤ}
use Rattle.std.specs.Int.Signed.{≤ℤ_refl}
use Rattle.problem_core.specs.declared.parts.Stay.{Stay}
use Rattle.problem_core.specs.Layout.{Row, Problem, Assignment, IsCovered, Satisfies, IsInConflict, line_of_row, gap, error}
use Rattle.problem_core.specs.declared.parts.Rel.TheVariants.{Ge}
use Rattle.problem_core.specs.Window.{required_row, zero_fraction}
use Rattle.problem_core.proofs.Best.Agreed.{AgreeAt, gap-agree, error-agree, agree-row}
use Rattle.problem_core.proofs.Best.WindowRows.{at_least_zero}
use Rattle.held_items.specs.Items.{rows_of_views}
use Rattle.frac_core.proofs.Numbers.{factor-zero as no-size}

-- x, but 0 at the attributes above m
abbrev cleared : Assignment → ℕ → Assignment
cleared x m = record { den = x.den; num = λ v. cond (nat_le v m) (x.num v) (pos 0); positive = x.positive }

at-old : (x : Assignment) (m v : ℕ) → v ≤ m → (cleared x m).num v ≡ x.num v
at-old x m v h = let old : nat_le v m ≡ true = grind (arith, common_steps, h) in ap (λ (b : Bool). cond b (x.num v) (pos 0)) old

at-new : (x : Assignment) (m v : ℕ) → m < v → (cleared x m).num v ≡ pos 0
at-new x m v h = let new : nat_le v m ≡ false = grind (arith, common_steps, h) in ap (λ (b : Bool). cond b (x.num v) (pos 0)) new

agree-each : (x : Assignment) (m : ℕ) (stays : List Stay) → Each (λ s. s.attr ≤ m) stays → Each (λ s. AgreeAt (cleared x m) x s.attr) stays
agree-each x m [] old = tt
agree-each x m (s ∷ stays) old = (ap (λ (z : ℤ). z *ℤ pos x.den) (at-old x m s.attr old.0), agree-each x m stays old.1)

-- a row that one of two agreeing assignments meets, the other meets too
still-met : (x y : Assignment) (r : Row) → Each (λ t. AgreeAt y x t.attr) r.terms → error x (line_of_row r) ≡ 0 → error y (line_of_row r) ≡ 0
still-met x y r agree met =
    let same : error y (line_of_row r) * x.den ≡ error x (line_of_row r) * y.den =
    error-agree r.rel (gap y (line_of_row r)) (gap x (line_of_row r)) y.den x.den y.positive x.positive (gap-agree y x (line_of_row r) agree) in
    no-size (error y (line_of_row r)) x.den x.positive (omega (arith, same, ap (λ (e : ℕ). e * y.den) met))

all-met : (x y : Assignment) (stays : List Stay) (rows more : List Row) → All (λ s. AgreeAt y x s.attr) stays → Each (IsCovered stays) rows → Each (λ r. r.rank ≡ 1000 → error x (line_of_row r) ≡ 0) rows
    → Each (λ r. r.rank ≡ 1000 → error y (line_of_row r) ≡ 0) more → Each (λ r. r.rank ≡ 1000 → error y (line_of_row r) ≡ 0) (rows ++ more)
all-met x y stays [] more agree covered met new = new
all-met x y stays (r ∷ rows) more agree covered met new =
    ((λ required. still-met x y r (agree-row y x stays agree r covered.0) (met.0 required)), all-met x y stays rows more agree covered.1 met.1 new)

-- a row of a new view is met where its attribute is 0
new-met : (y : Assignment) (n v : ℕ) → y.num v ≡ pos 0 → error y (line_of_row (required_row n v Ge zero_fraction)) ≡ 0
new-met y n v is = at_least_zero y n v zero_fraction (≤ℤ_refl (pos 0), lit< tt) (ap (λ (z : ℤ). z *ℤ pos 1) is ∙ sym (zero-mul_ℤ (pos y.den)))

views-met : (y : Assignment) (m first id n : ℕ) → m ≤ 4 * id → ((v : ℕ) → m < v → y.num v ≡ pos 0) → Each (λ r. r.rank ≡ 1000 → error y (line_of_row r) ≡ 0) (rows_of_views first id n)
views-met y m first id zero old none = tt
views-met y m first id (suc n) old none = (
  (λ required. new-met y first (4 * id + 3) (none (4 * id + 3) (omega (arith, old)))),
  ((λ required. new-met y (first + 1) (4 * id + 4) (none (4 * id + 4) (omega (arith, old)))), views-met y m (first + 2) (id + 1) n (omega (arith, old)) none),
)

-- what satisfies the rows does so with 0 at the attributes of views that none of them knows, and then satisfies these views' rows too
pub views-possible : (p : Problem) (x : Assignment) (stays : List Stay) (next id n : ℕ) → Satisfies p x → All (IsCovered p.stays) p.rows → All (λ s. s.attr ≤ 4 * id) p.stays
    → IsInConflict (record { rows = p.rows ++ rows_of_views next id n; stays = stays }) → ⊥
views-possible p x stays next id n met covered old conflict =
    let agree : All (λ s. AgreeAt (cleared x (4 * id)) x s.attr) p.stays =
    All-from_recursion (λ s. AgreeAt (cleared x (4 * id)) x s.attr) p.stays (agree-each x (4 * id) p.stays (recursion_from_All (λ s. s.attr ≤ 4 * id) p.stays old)) in
    conflict (cleared x (4 * id))
    (All-from_recursion (λ r. r.rank ≡ 1000 → error (cleared x (4 * id)) (line_of_row r) ≡ 0) (p.rows ++ rows_of_views next id n)
    (all-met x (cleared x (4 * id)) p.stays p.rows (rows_of_views next id n) agree (recursion_from_All (IsCovered p.stays) p.rows covered) (recursion_from_All (λ r. r.rank ≡ 1000 → error x (line_of_row r) ≡ 0) p.rows met)
    (views-met (cleared x (4 * id)) (4 * id) next id n (omega arith) (at-new x (4 * id)))))
