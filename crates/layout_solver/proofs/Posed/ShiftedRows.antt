-- Rows with other constants, change by change and row by row.
use Rattle.std.proofs.Common.{◌≡◌, ◌≢◌, ◌∙◌, ℕ, zero, suc, ◌+◌, ◌<◌, Bool, cond, List, [], ◌∷◌, ◌++◌, length, map, take, get_or, refl, sym, ap, ap₂, arith, inl, inr, eq-eqb, add-one}
use Rattle.std.proofs.lemmas.Bool.{cases_eq}
use Rattle.std.proofs.lemmas.List.{map-append}
use Rattle.frac_core.specs.Fraction.{Fraction}
use Rattle.problem_core.specs.Layout.{Row}
use Rattle.corner_lines.specs.Shifts.{has_constant}
use Rattle.corner_lines.proofs.ProblemChanges.Shifted.{changed, shift-off}
use Rattle.layout_solver.specs.declared.engine.Change.{Change}
use Rattle.layout_solver.specs.Shifts.{shifted}
use Rattle.layout_solver.proofs.Shifts.Constants.{next_taken, shifted_on}

shift-on : (n : ℕ) (f : Fraction) (r : Row) → r.id ≡ n → has_constant n f r ≡ changed f r
shift-on n f r e = ap (λ (b : Bool). cond b (changed f r) r) (eq-eqb r.id n e)

shifted-append : (to : List Change) (xs ys : List Row) → shifted to (xs ++ ys) ≡ shifted to xs ++ shifted to ys
shifted-append [] xs ys = refl
shifted-append (c ∷ to) xs ys =
    ap (shifted to) (map-append (has_constant c.row c.constant) xs ys)
    ∙ shifted-append to (map (has_constant c.row c.constant) xs) (map (has_constant c.row c.constant) ys)

first-suc : {X : Type 0} (xs : List X) (i : ℕ) (x : X) → i < length xs → x ≡ get_or xs i x → take (suc i) xs ≡ take i xs ++ x ∷ []
first-suc [] i x within is = absurd (omega (arith, within))
first-suc (y ∷ xs) zero x within is = ap (λ z. z ∷ []) (sym is)
first-suc (y ∷ xs) (suc i) x within is = ap (λ zs. y ∷ zs) (first-suc xs i x (omega (arith, within)) is)

first-more : {X : Type 0} (xs : List X) (i : ℕ) (x : X) → i < length xs → x ≡ get_or xs i x → take (i + 1) xs ≡ take i xs ++ x ∷ []
first-more xs i x within is = ap (λ (n : ℕ). take n xs) (add-one i) ∙ first-suc xs i x within is

-- ---- change by change

module _ (to : List Change) (i : ℕ) (c : Change) (r : Row) (f : Fraction) (within : i < length to) (is : c ≡ get_or to i c) (before : shifted (take i to) (r ∷ []) ≡ changed f r ∷ []) where
  shift-next : shifted (take (i + 1) to) (r ∷ []) ≡ has_constant c.row c.constant (changed f r) ∷ []
  shift-next =
      ap (λ (cs : List Change). shifted cs (r ∷ [])) (sym (next_taken to i c within is)) ∙ shifted_on (take i to) (c ∷ []) (r ∷ [])
      ∙ ap (map (has_constant c.row c.constant)) before

  -- whether the change is of this row or not
  pub next-either : (g : Fraction) → (c.row ≡ r.id → g ≡ c.constant) → (c.row ≢ r.id → g ≡ f) → shifted (take (i + 1) to) (r ∷ []) ≡ changed g r ∷ []
  next-either g on off = elim (cases_eq c.row r.id) [
    | inl same ↦ shift-next ∙ ap (λ (s : Row). s ∷ []) (shift-on c.row c.constant (changed f r) (sym same)) ∙ ap (λ (h : Fraction). changed h r ∷ []) (sym (on same))
    | inr other ↦ shift-next ∙ ap (λ (s : Row). s ∷ []) (shift-off c.row c.constant (changed f r) (λ e. other (sym e))) ∙ ap (λ (h : Fraction). changed h r ∷ []) (sym (off other))
  ]

-- ---- row by row

pub shifted-none : (to : List Change) → shifted to [] ≡ []
shifted-none [] = refl
shifted-none (c ∷ to) = shifted-none to

-- the rows with the one at the next place
pub shifted-next : (to : List Change) (rows after : List Row) (i : ℕ) (r s : Row) → i < length rows → r ≡ get_or rows i r → after ≡ shifted to (take i rows) → shifted to (r ∷ []) ≡ s ∷ []
    → after ++ s ∷ [] ≡ shifted to (take (i + 1) rows)
shifted-next to rows after i r s within is before one =
    ap₂ (λ (xs ys : List Row). xs ++ ys) before (sym one) ∙ sym (shifted-append to (take i rows) (r ∷ []))
    ∙ sym (ap (shifted to) (first-more rows i r within is))
