-- The first number of a priority level's row.
use Rattle.std.proofs.Common.{◌≡◌, ◌≢◌, ◌∙◌, ℕ, ◌<◌, cond, Bool, List, [], ◌∷◌, slice_get, ap, subst, sym, arith, inl, inr, pos, Some, None, ne_eqb}
use Rattle.std.proofs.lemmas.Bool.{cases_eq}
use Rattle.row_core.specs.Rows.{IsKeptRow, Term, coefficient}
use Rattle.row_core.proofs.Places.{coefficient_at}
use Rattle.corner_table.specs.declared.table.TheConstants.{LEVELS}
use Rattle.corner_table.specs.Tables.{Lists, entry, priority_at, row_at}
use Rattle.corner_table.specs.Kept.{IsKept, level_own}

first-number : (row : List Term) (e : Term) → IsKeptRow row → slice_get row 0 ≡ Some e → coefficient e.col row ≡ e.by
first-number [] e kept is = absurd (let none : None ≡ Some e = is in cc)
first-number (x ∷ row) e kept is =
    let same : x ≡ e = (let some : Some x ≡ Some e = is in cc) in
    subst (λ (t : Term). coefficient t.col (x ∷ row) ≡ t.by) same (coefficient_at (x ∷ row) 0 x kept.lowest.rising (omega arith))

not-empty : (row : List Term) (e : Term) → slice_get row 0 ≡ Some e → row ≢ []
not-empty [] e is q = absurd (let none : None ≡ Some e = is in cc)
not-empty (x ∷ row) e is q = absurd (let cons : (x ∷ row) ≡ [] = q in cc)

-- where its column is the level's slot, it is the level's own
pub first_is_own : (t : Lists) (l : ℕ) (row : List Term) (e : Term) → IsKept t → l < LEVELS → row_at t l ≡ row → IsKeptRow row → slice_get row 0 ≡ Some e → e.col ≡ l → e.by ≡ level_own t l
first_is_own t l row e kept low is row-kept first col =
    elim (cases_eq (priority_at t l).rows 0) [
      | inl none ↦ absurd (not-empty row e first (sym is ∙ (kept.levels l low).empty (sym (kept.levels l low).rows ∙ none)))
      | inr some ↦
          sym (ap (λ (b : Bool). cond b (pos 1) (entry t l l)) (ne_eqb (priority_at t l).rows 0 some)
          ∙ (ap (λ (r : List Term). coefficient l r) is ∙ (subst (λ (k : ℕ). coefficient k row ≡ e.by) col (first-number row e row-kept first))))
    ]
