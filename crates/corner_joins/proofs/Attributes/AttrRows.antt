-- The row of an attribute that joins.
use Rattle.std.proofs.Common.{◌≡◌, ◌≢◌, ◌∙◌, ◌⊎◌, ℕ, ◌+◌, ◌<◌, ◌≤◌, Bool, cond, nat_eq, List, sym, ap, arith, inl, inr, pos, negsuc, ne_eqb, slice_index_or}
use Rattle.row_core.specs.Rows.{IsKeptRow, Term, coefficient}
use Rattle.row_core.proofs.Places.{coefficient_at}
use Rattle.version_lists.specs.Matrices.{IsBelow}
use Rattle.corner_table.specs.Joining.{IsStayForm}
use Rattle.corner_table.proofs.Basics.SmallFacts.{below_or}

-- past both slots there is no number
past_form : (w : ℕ) (row : List Term) (c : ℕ) → IsStayForm w row → w + 2 ≤ c → coefficient c row ≡ pos 0
past_form w row c form h =
    form c
    ∙ ap (λ (b : Bool). cond b (pos 1) (cond (nat_eq (w + 1) c) (negsuc 0) (pos 0))) (ne_eqb w c (λ e. absurd (omega (arith, h, e))))
    ∙ ap (λ (b : Bool). cond b (negsuc 0) (pos 0)) (ne_eqb (w + 1) c (λ e. absurd (omega (arith, h, e))))

term_below : (w : ℕ) (row : List Term) (t : Term) → IsStayForm w row → coefficient t.col row ≡ t.by → t.by ≢ pos 0 → (t.col < w + 2) ⊎ (w + 2 ≤ t.col) → t.col < w + 2
term_below w row t form here ne (inl h) = h
term_below w row t form here ne (inr h) = absurd (ne (sym here ∙ past_form w row t.col form h))

pub form_below : (w : ℕ) (row : List Term) → IsKeptRow row → IsStayForm w row → IsBelow (w + 2) row
form_below w row kept form k d lt =
    term_below w row (slice_index_or row k d) form (coefficient_at row k d kept.lowest.rising lt) (kept.lowest.nonzero k d lt) (below_or (slice_index_or row k d).col (w + 2))

pub form_within : (w n : ℕ) (row : List Term) → IsKeptRow row → IsStayForm w row → n ≡ w + 2 → IsBelow n row
form_within w n row kept form e k d lt =
    let below = form_below w row kept form k d lt in
    omega (arith, below, e)
