-- The problem of a request is whole.
use Rattle.std.proofs.Common.{◌≡◌, ◌≢◌, ◌∙◌, ℕ, ◌<◌, List, [], map, length, sym, ap, subst, arith, All, AllPairs}
use Rattle.std.specs.List.{AllByRecursion as Each}
use Rattle.std.proofs.lemmas.List.Elements.{All-from_recursion, All-map, All-weaker, recursion_from_All}
use Rattle.frac_core.specs.Fraction.{Fraction, IsKept}
use Rattle.frac_core.proofs.Lists.{each-from_map, each-onto_map, length-mapped, pairs-map, pairs-unmapped}
use Rattle.problem_core.specs.declared.parts.Stay.{Stay}
use Rattle.problem_core.specs.declared.parts.Term.{Term}
use Rattle.problem_core.specs.Kept.{IsNumber, IsRow, IsStay, IsWhole}
use Rattle.problem_core.specs.Layout.{HasStay, IsCovered, Problem, Row}
use Rattle.problem_core.specs.Unfit.{without_constant}
use Rattle.stay_orders.proofs.Wholes.{whole_there}
use Rattle.layout_solver.specs.declared.engine.Change.{Change}
use Rattle.layout_solver.specs.Keeping.{with_kept}
use Rattle.layout_solver.specs.Layouts.{IsKeptLayout, Layout, stays_at}
use Rattle.layout_solver.specs.Removals.{CanLeave, Leaving, stood, with_removed}
use Rattle.layout_solver.specs.Shifts.{shifted, with_shifts}
use Rattle.layout_solver.proofs.BestValues.{attrs-at, same-stays}
use Rattle.layout_solver.proofs.Removals.LeftAttrs.{left_whole}
use Rattle.layout_solver.proofs.Shifts.Constants.{shifted-alike}
use Rattle.layout_solver.proofs.Starts.Rooms.{values_apart}

-- ---- stays at values

module _ (p : Problem) (values : List (ℕ × Fraction)) (whole : IsWhole p) (same : map (λ v. v.0) values ≡ map (λ (s : Stay). s.attr) p.stays) (kept : All (λ v. IsKept v.1) values) where
  attrs-same : map (λ (s : Stay). s.attr) p.stays ≡ map (λ (s : Stay). s.attr) (stays_at values)
  attrs-same = sym (attrs-at values ∙ same)

  numbers : Each (λ (v : ℕ × Fraction). IsNumber v.0) values
  numbers =
      each-from_map IsNumber (λ (v : ℕ × Fraction). v.0) values
      (subst (Each IsNumber) (sym same) (each-onto_map IsNumber (λ (s : Stay). s.attr) p.stays
      (recursion_from_All (λ (s : Stay). IsNumber s.attr) p.stays (All-weaker IsStay (λ (s : Stay). IsNumber s.attr) (λ s h. h.attr) p.stays whole.stays))))

  each-stay : All IsStay (stays_at values)
  each-stay =
      let own : All (λ (v : ℕ × Fraction). IsNumber v.0) values = All-from_recursion (λ (v : ℕ × Fraction). IsNumber v.0) values numbers in
      All-map IsStay (λ (v : ℕ × Fraction). record { attr = v.0; target = v.1 }) values (λ k d within. record { attr = own k d within; target = kept k d within })

  has-still : (a : ℕ) → HasStay p.stays a → HasStay (stays_at values) a
  has-still a = same-stays p.stays (stays_at values) a attrs-same

  covered-still : All (IsCovered (stays_at values)) p.rows
  covered-still =
      All-weaker (IsCovered p.stays) (IsCovered (stays_at values))
      (λ r h. All-weaker (λ (t : Term). HasStay p.stays t.attr) (λ (t : Term). HasStay (stays_at values) t.attr) (λ t. has-still t.attr) r.terms h) p.rows whole.covered

  module _ (rows : List Row) (each : All IsRow rows) (alike : map without_constant rows ≡ map without_constant p.rows) where
    covered : All (IsCovered (stays_at values)) rows
    covered =
        All-from_recursion (IsCovered (stays_at values)) rows
        (each-from_map (IsCovered (stays_at values)) without_constant rows
        (subst (Each (IsCovered (stays_at values))) (sym alike)
        (each-onto_map (IsCovered (stays_at values)) without_constant p.rows (recursion_from_All (IsCovered (stays_at values)) p.rows covered-still))))

    rising : AllPairs (λ (r s : Row). r.id < s.id) rows
    rising =
        pairs-unmapped without_constant (λ (r s : Row). r.id < s.id) rows
        (subst (AllPairs (λ (r s : Row). r.id < s.id)) (sym alike) (pairs-map without_constant (λ (r s : Row). r.id < s.id) p.rows whole.rising))

    pub moved_whole : IsWhole (record { rows = rows; stays = stays_at values })
    moved_whole = record {
      rows = each;
      stays = each-stay;
      rising = rising;
      apart = pairs-map (λ (v : ℕ × Fraction). record { attr = v.0; target = v.1 }) (λ (s t : Stay). s.attr ≢ t.attr) values (values_apart p values whole same);
      covered = covered;
      row_count = (let long : length rows ≡ length p.rows = sym (length-mapped without_constant rows) ∙ ap length alike ∙ length-mapped without_constant p.rows in omega (arith, whole.row_count, long));
      stay_count = (let long : length (stays_at values) ≡ length p.stays =
          sym (length-mapped (λ (s : Stay). s.attr) (stays_at values)) ∙ sym (ap length attrs-same) ∙ length-mapped (λ (s : Stay). s.attr) p.stays in omega (arith, whole.stay_count, long));
    }

  can_still : (l : Leaving) → CanLeave l p → CanLeave l (record { rows = p.rows; stays = stays_at values })
  can_still l h = record {
    held = h.held;
    stays = All-weaker (HasStay p.stays) (HasStay (stays_at values)) has-still l.attrs h.stays;
    rows_apart = h.rows_apart;
    attrs_apart = h.attrs_apart;
    covered = h.covered;
  }

-- ---- what is asked of a layout

module _ (l : Layout) (h : IsKeptLayout l) where
  pub shifts_whole : (to : List Change) → All IsRow (shifted to l.problem.rows) → IsWhole (with_shifts l to)
  shifts_whole to each =
      moved_whole l.problem l.values h.corner.whole h.best.attributes h.fit (shifted to l.problem.rows) each (shifted-alike to l.problem.rows)

  stood_whole : IsWhole (stood l)
  stood_whole = shifts_whole [] h.corner.whole.rows

  pub kept_whole : (attrs : List ℕ) → IsWhole (with_kept l attrs)
  kept_whole attrs = whole_there attrs (stood l) stood_whole

  pub removed_whole : (what : Leaving) → CanLeave what l.problem → IsWhole (with_removed l what)
  removed_whole what can =
      left_whole (stood l) [] what stood_whole (can_still l.problem l.values h.corner.whole h.best.attributes h.fit what can)
