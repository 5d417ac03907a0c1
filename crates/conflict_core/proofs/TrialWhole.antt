-- A trial of a whole problem is whole.
use Rattle.std.proofs.Common.{◌≡◌, ◌≢◌, ◌∙◌, ℕ, ◌<◌, ◌≤◌, List, [], ◌∷◌, map, filter, length, refl, sym, ap, subst, arith, AllPairs}
use Rattle.std.specs.List.{AllByRecursion as Each}
use Rattle.std.proofs.lemmas.List.{length-map}
use Rattle.std.proofs.lemmas.List.Elements.{recursion_from_All, All-filter, All-from_recursion, All-weaker}
use Rattle.std.proofs.lemmas.List.Kept.{AllPairs-filter}
use Rattle.std.proofs.lemmas.List.Sums.{count_by-le-length, length-filter}
use Rattle.frac_core.specs.Fraction.{Fraction}
use Rattle.frac_core.proofs.Lists.{each-onto_map, pairs-map, pairs-unmapped}
use Rattle.problem_core.specs.declared.parts.Stay.{Stay}
use Rattle.problem_core.specs.declared.parts.Term.{Term}
use Rattle.problem_core.specs.Layout.{HasStay, IsCovered, IsInConflict, Problem, Row}
use Rattle.problem_core.specs.Kept.{IsNumber, IsRow, IsStay, IsWhole}
use Rattle.problem_core.proofs.Forms.{each-impl}
use Rattle.problem_core.proofs.Refutations.{refutation-IsInConflict}
use Rattle.problem_core.proofs.Sides.{zero-kept}
use Rattle.problem_core.proofs.Wholes.{whole-IsProblem}
use Rattle.problem_core.specs.declared.parts.RowName.TheVariants.{Held}
use Rattle.cert_core.specs.declared.by.By.{By}
use Rattle.cert_core.specs.Claims.{times_of}
use Rattle.cert_core.specs.Stops.{IsShownConflict}
use Rattle.layout_solver.specs.Layouts.{stays_at, zeros}
use Rattle.layout_solver.specs.Starts.{attrs_of}
use Rattle.layout_solver.proofs.BestValues.{attrs-at, same-stays}
use Rattle.conflict_core.specs.Cores.{is_tried, trial}

abbrev attr_of : Stay → ℕ
attr_of s = s.attr

abbrev at : ℕ × Fraction → ℕ
at v = v.0

zeros-attrs : (attrs : List ℕ) → map at (zeros attrs) ≡ attrs
zeros-attrs [] = refl
zeros-attrs (a ∷ attrs) = ap (λ (ns : List ℕ). a ∷ ns) (zeros-attrs attrs)

-- a trial has the problem's attributes
pub trial_attrs : (p : Problem) (ids : List ℕ) → map attr_of (trial p ids).stays ≡ attrs_of p
trial_attrs p ids = attrs-at (zeros (attrs_of p)) ∙ zeros-attrs (attrs_of p)

zero-stays : (attrs : List ℕ) → Each IsNumber attrs → Each IsStay (stays_at (zeros attrs))
zero-stays [] h = tt
zero-stays (a ∷ attrs) h = (record { attr = h.0; target = zero-kept }, zero-stays attrs h.1)

numbers : (p : Problem) → IsWhole p → Each IsNumber (attrs_of p)
numbers p whole = each-onto_map IsNumber attr_of p.stays (each-impl IsStay (λ s. IsNumber s.attr) p.stays (λ s h. h.attr) (recursion_from_All IsStay p.stays whole.stays))

covered-there : (p : Problem) (ids : List ℕ) (r : Row) → IsCovered p.stays r → IsCovered (trial p ids).stays r
covered-there p ids r h = All-weaker (λ (t : Term). HasStay p.stays t.attr) (λ (t : Term). HasStay (trial p ids).stays t.attr) (λ t has. same-stays p.stays (trial p ids).stays t.attr (sym (trial_attrs p ids)) has) r.terms h

few : (p : Problem) (ids : List ℕ) → length (filter (is_tried ids) p.rows) ≤ length p.rows
few p ids = let e = length-filter (is_tried ids) p.rows in let most = count_by-le-length (is_tried ids) p.rows in omega (arith, e, most)

-- it has no more rows, and as many stays
pub trial_few : (p : Problem) (ids : List ℕ) → (length (trial p ids).rows ≤ length p.rows) × (length (trial p ids).stays ≡ length p.stays)
trial_few p ids = (few p ids, sym (length-map (trial p ids).stays attr_of) ∙ ap length (trial_attrs p ids) ∙ length-map p.stays attr_of)

pub trial_whole : (p : Problem) (ids : List ℕ) → IsWhole p → IsWhole (trial p ids)
trial_whole p ids whole = record {
  rows = All-filter (is_tried ids) IsRow p.rows whole.rows;
  stays = All-from_recursion IsStay (trial p ids).stays (zero-stays (attrs_of p) (numbers p whole));
  rising = AllPairs-filter (λ (r s : Row). r.id < s.id) (is_tried ids) p.rows whole.rising;
  apart = pairs-unmapped attr_of (λ (a b : ℕ). a ≢ b) (trial p ids).stays
      (subst (λ (ns : List ℕ). AllPairs (λ (a b : ℕ). a ≢ b) ns) (sym (trial_attrs p ids)) (pairs-map attr_of (λ (a b : ℕ). a ≢ b) p.stays whole.apart));
  covered = All-weaker (IsCovered p.stays) (IsCovered (trial p ids).stays) (covered-there p ids) (filter (is_tried ids) p.rows) (All-filter (is_tried ids) (IsCovered p.stays) p.rows whole.covered);
  row_count = (let less = few p ids in let most = whole.row_count in omega (arith, less, most));
  stay_count = (let same = (trial_few p ids).1 in let most = whole.stay_count in omega (arith, same, most));
}

-- multipliers that are shown are those of a conflict
pub shown_conflict : (p : Problem) (ids : List ℕ) (by : List By) → IsWhole p → IsShownConflict (trial p ids) by → IsInConflict (trial p ids)
shown_conflict p ids by whole h = refutation-IsInConflict (trial p ids) (whole-IsProblem (trial p ids) (trial_whole p ids whole)) (λ id. times_of by (Held id)) h.refutes
