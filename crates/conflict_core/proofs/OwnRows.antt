-- The trial of all required rows: what refutes the problem refutes it.
use Rattle.std.proofs.Common.{◌≡◌, ◌∙◌, ℕ, Bool, true, cond, List, [], ◌∷◌, map, filter, refl, sym, ap₂, subst, All, Any, true≢false, inl, inr}
use Rattle.std.specs.List.{AllByRecursion as Each}
use Rattle.std.proofs.lemmas.Bool.{and_from, and_parts, cases_Bool, false_from_ne_true}
use Rattle.problem_core.specs.declared.parts.RowName.TheVariants.{Held}
use Rattle.problem_core.specs.Layout.{Problem, Row}
use Rattle.problem_core.specs.Certificates.{required}
use Rattle.problem_core.proofs.Forms.{each-impl}
use Rattle.cert_core.specs.declared.by.By.{By}
use Rattle.cert_core.specs.Claims.{times_of}
use Rattle.cert_core.specs.Stops.{IsShownConflict}
use Rattle.conflict_core.specs.Cores.{is_among, is_tried, trial}
use Rattle.conflict_core.proofs.Refuting.{Refute, refuting, required_trial}
use Rattle.conflict_core.proofs.TrialRows.{all-named, is_required}

same-filter : (f g : Row → Bool) (rows : List Row) → Each (λ r. f r ≡ g r) rows → filter f rows ≡ filter g rows
same-filter f g [] h = refl
same-filter f g (r ∷ rows) h = ap₂ (λ (b : Bool) (rs : List Row). cond b (r ∷ rs) rs) h.0 (same-filter f g rows h.1)

tried-required : (ids : List ℕ) (r : Row) → (is_required r ≡ true → is_among ids r.id ≡ true) → is_tried ids r ≡ is_required r
tried-required ids r has =
    elim (cases_Bool (is_required r)) [
      | inl passes ↦ and_from (is_required r) (is_among ids r.id) passes (has passes) ∙ sym passes
      | inr fails ↦
          false_from_ne_true (is_tried ids r) (λ h. true≢false (sym (and_parts (is_required r) (is_among ids r.id) h).0 ∙ fails)) ∙ sym fails
    ]

module _ (p : Problem) (ids : List ℕ) (are : ids ≡ map (λ r. r.id) (required p)) where
  own-rows : filter (is_tried ids) p.rows ≡ required p
  own-rows =
      same-filter (is_tried ids) is_required p.rows
      (each-impl (λ r. is_required r ≡ true → is_among ids r.id ≡ true) (λ r. is_tried ids r ≡ is_required r) p.rows (tried-required ids)
      (all-named p.rows ids (λ n h. rw are h)))

  pub own_rows_refuted : (by : List By) → IsShownConflict p by → IsShownConflict (trial p ids) by
  own_rows_refuted by h = record {
    refutes = refuting p ids (λ id. times_of by (Held id))
        (subst (λ (rows : List Row). Refute rows (λ id. times_of by (Held id))) (sym own-rows)
        (record { cancel = h.refutes.cancel; signs = h.refutes.signs; above_zero = h.refutes.above_zero }));
    named = subst (λ (rows : List Row). All (λ b. Any (λ r. b.row ≡ Held r.id) rows) by) (sym (required_trial p ids ∙ own-rows)) h.named;
    nonzero = h.nonzero;
    rising = h.rising;
    lowest = h.lowest;
  }
