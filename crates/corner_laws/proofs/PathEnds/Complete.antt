-- Where everything fits and the budget is large, a change stops at a conflict alone.
use Rattle.std.proofs.Common.{◌≡◌, ◌≢◌, ◌∙◌, ℕ, ◌+◌, ◌-◌, ◌^◌, ◌≤◌, Bool, true, false, cond, nat_eq, List, [], ◌∷◌, ◌++◌, filter, length, ℤ, ◌-ℤ◌, nat_abs, refl, sym, ap, subst, arith, eq-eqb}
use Rattle.std.specs.List.{AllByRecursion as Each}
use Rattle.std.proofs.lemmas.List.Elements.{recursion_from_All}
use Rattle.frac_core.specs.Fraction.{Fraction}
use Rattle.frac_core.proofs.Integers.{sub-self}
use Rattle.problem_core.specs.declared.parts.Mark.{Mark}
use Rattle.problem_core.specs.declared.parts.RowName.TheVariants.{Held}
use Rattle.problem_core.specs.declared.stops.Quantity.{Quantity}
use Rattle.problem_core.specs.declared.stops.Quantity.TheVariants.{Plain, Terms, Rows, Shifts}
use Rattle.problem_core.specs.Layout.{Problem, Row}
use Rattle.problem_core.specs.Kept.{IsWhole}
use Rattle.cert_core.specs.Paths.{Path}
use Rattle.cert_core.specs.declared.stops.RunStop.{RunStop}
use Rattle.cert_core.specs.declared.stops.RunStop.TheVariants.{Conflict, Unfit, Spent, OutOfMemory}
use Rattle.problem_core.proofs.Forms.{each-filter}
use Rattle.problem_core.specs.Unfit.{IsUnfit, changes, same_constant}
use Rattle.problem_core.specs.Changes.Paths.{last_marks}
use Rattle.cert_core.specs.Stops.{IsPlain, IsStopOf, IsUnfitPath}
use Rattle.corner_laws.specs.Laws.{AllFit, Anywhere, IsConflict}
use Rattle.corner_laws.proofs.PathEnds.Few.{last_corner, path_few}
use Rattle.problem_core.proofs.Lines.{row-between as middle}

pub unfit-none : (dual : Bool) (p : Problem) (old : List Row) (Begins : List Row → List Mark → Type 0) (path : Path) (q : Quantity) → AllFit p old → IsUnfitPath dual p old Begins path q → ⊥
unfit-none dual p old Begins path (Plain what) fit h = fit (last_marks path.corner path.swaps) (Plain what) (last_corner dual p path.corner path.swaps h.1.corner h.1.lawful) h.2
unfit-none dual p old Begins path (Terms mark j) fit h = fit path.corner (Terms mark j) h.2 h.4
unfit-none dual p old Begins path (Rows level j) fit h = fit path.corner (Rows level j) h.2.corner h.3
unfit-none dual p old Begins path (Shifts what j) fit h = fit path.corner (Shifts what j) h.3.corner h.4

-- the only stops are a conflict and want of memory
pub stops_are_conflicts : (dual : Bool) (p : Problem) (old : List Row) (Begins : List Row → List Mark → Type 0) (budget : ℕ) (stop : RunStop) → IsWhole p → AllFit p old → 3 ^ (length p.rows + length p.stays) ≤ budget → IsStopOf dual p old Begins budget stop → IsConflict stop
stops_are_conflicts dual p old Begins budget (Conflict by) whole fit large h = tt
stops_are_conflicts dual p old Begins budget (Spent path) whole fit large h =
    let few = path_few dual p path.corner path.swaps whole h.1.lawful in
    let count = h.1.count in
    absurd (omega (arith, few, count, large))
stops_are_conflicts dual p old Begins budget (Unfit at) whole fit large h = absurd (unfit-none dual p old Begins at.path at.quantity fit h.2)
stops_are_conflicts dual p old Begins budget OutOfMemory whole fit large h = tt

-- wherever the paths may begin
pub stops_anywhere : (dual : Bool) (p : Problem) (old : List Row) (budget : ℕ) (stop : RunStop) → IsWhole p → AllFit p old → 3 ^ (length p.rows + length p.stays) ≤ budget → IsStopOf dual p old Anywhere budget stop → IsConflict stop
stops_anywhere dual p old budget stop whole fit large h = stops_are_conflicts dual p old Anywhere budget stop whole fit large h

-- ---- a run that adds and changes nothing

pub same-self : (f : Fraction) → same_constant f f ≡ true
same-self f = ap (λ (b : Bool). cond b (nat_eq (nat_abs (f.num -ℤ f.num)) 0) false) (eq-eqb f.den f.den refl) ∙ ap (λ (z : ℤ). nat_eq (nat_abs z) 0) (sub-self f.num)

each-kept : (P : Row → Bool) (rows : List Row) (r : Row) → Each (λ s. s.id ≢ r.id) rows → Each (λ s. s.id ≢ r.id) (filter P rows)
each-kept P rows r h = each-filter (λ s. s.id ≢ r.id) P rows h

pub no-changes : (rows : List Row) → changes rows rows ≡ 0
no-changes [] = refl
no-changes (r ∷ rows) = ap (λ (b : Bool). cond b (changes rows rows) (1 + changes rows rows)) (same-self r.constant) ∙ no-changes rows

each-new : (P : Row → Bool) (rows before after : List Row) (r : Row) → filter P rows ≡ before ++ (r ∷ after) → Each (λ s. s.id ≢ r.id) rows → Each (λ s. s.id ≢ r.id) (before ++ (r ∷ after))
each-new P rows before after r e h = subst (λ (xs : List Row). Each (λ s. s.id ≢ r.id) xs) e (each-kept P rows r h)

-- of a problem whose rows are those before, only whole quantities are told
pub plain_alone : (p : Problem) (at : List Mark) (q : Quantity) → IsUnfit p p.rows at q → IsPlain q
plain_alone p at (Plain what) h = tt
plain_alone p at (Terms mark j) ((k, r, within, is, (same, over, a, b, none)), fresh) = absurd (fresh k r within (ap (λ (s : Row). Held s.id) is ∙ ap (λ (m : Mark). m.row) (sym same)))
plain_alone p at (Rows level j) (sum, (k, number, (before, r, after, e, count, fresh))) =
    absurd (middle (λ s. s.id ≢ r.id) before after r (each-new (λ s. nat_eq (1000 - s.rank) k) p.rows before after r e (recursion_from_All (λ s. s.id ≢ r.id) p.rows fresh)) refl)
plain_alone p at (Shifts what j) (same, a, b, h) = absurd (omega (arith, a, b, no-changes p.rows))
