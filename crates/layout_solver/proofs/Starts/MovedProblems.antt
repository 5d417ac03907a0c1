-- The problems that runs begin with.
use Rattle.std.proofs.Common.{◌≡◌, ◌≢◌, ◌∙◌, ℕ, zero, suc, ◌<◌, ◌+◌, ◌++◌, false, List, [], ◌∷◌, map, length, drop, get_or, refl, sym, ap, ap₂, subst, arith}
use Rattle.std.specs.List.{AllByRecursion as Each}
use Rattle.std.proofs.lemmas.List.{drop_more, map-append}
use Rattle.std.proofs.lemmas.List.Elements.{All-from_recursion, recursion_from_All}
use Rattle.frac_core.specs.Fraction.{Fraction, IsLowest}
use Rattle.problem_core.specs.declared.parts.Mark.{Mark}
use Rattle.problem_core.specs.declared.parts.Stay.{Stay}
use Rattle.problem_core.specs.Layout.{HasStay, Problem, Row}
use Rattle.problem_core.specs.Kept.{IsStay, IsWhole}
use Rattle.problem_core.specs.Corners.{IsCorner, NoNegativeValue, attr_column}
use Rattle.problem_core.proofs.Forms.{each-impl}
use Rattle.cert_core.specs.Paths.{Path}
use Rattle.cert_core.specs.Stops.{IsStopOf}
use Rattle.cert_core.specs.declared.stops.RunStop.{RunStop}
use Rattle.corner_view.specs.Seen.{CornerView, HasValueAt, IsKeptCorner}
use Rattle.corner_laws.specs.Lifts.{with_rows}
use Rattle.corner_view.specs.AddStops.{FromAdded}
use Rattle.corner_view.specs.Changes.{HasStood, scene_of}
use Rattle.corner_ends.specs.Runs.{IsRun}
use Rattle.layout_solver.specs.Layouts.{stays_at, zeros}
use Rattle.layout_solver.specs.Engines.{AreItsValues}
use Rattle.layout_solver.specs.Starts.{CanTake, IsMoved}
use Rattle.layout_solver.specs.ValuesUnique.{values_are_one}
use Rattle.layout_solver.proofs.Starts.Moved.{each_mapped, moved_values}
use Rattle.layout_solver.proofs.Values.{numbers_here}

abbrev made : List Row → List Stay → Problem
made rows ss = record { rows = rows; stays = ss }

-- ---- there is one such problem

pub its_values : (from : CornerView) (attrs : List ℕ) (rows : List Row) (p : Problem) → IsCorner from.problem from.marks → (m : IsMoved from attrs rows p) → AreItsValues (scene_of from) m.values
its_values from attrs rows p corner m = record { corner = corner; attributes = m.attributes; lowest = m.lowest; stand = m.stand }

pub one_problem : (from : CornerView) (attrs : List ℕ) (rows : List Row) (p q : Problem) → IsCorner from.problem from.marks → IsMoved from attrs rows p → IsMoved from attrs rows q → p ≡ q
one_problem from attrs rows p q corner m n =
    m.is ∙ ap (λ (vs : List (ℕ × Fraction)). made rows (stays_at (vs ++ zeros attrs))) (values_are_one (scene_of from) m.values n.values (its_values from attrs rows p corner m) (its_values from attrs rows q corner n)) ∙ sym n.is

-- with more rows
pub with_more : (from : CornerView) (attrs : List ℕ) (rows more : List Row) (p : Problem) → IsMoved from attrs rows p → IsMoved from attrs (rows ++ more) (with_rows more p)
with_more from attrs rows more p m = record {
  values = m.values;
  attributes = m.attributes;
  lowest = m.lowest;
  stand = m.stand;
  is = ap (λ (q : Problem). with_rows more q) m.is;
}

-- ---- stays that have stood, with attributes at 0

abbrev pair_of : Stay → ℕ × Fraction
pair_of s = (s.attr, s.target)

first-pairs : (stays : List Stay) → map (λ (v : ℕ × Fraction). v.0) (map pair_of stays) ≡ map (λ (s : Stay). s.attr) stays
first-pairs [] = refl
first-pairs (s ∷ stays) = ap (λ (ns : List ℕ). s.attr ∷ ns) (first-pairs stays)

stays-pairs : (stays : List Stay) → stays_at (map pair_of stays) ≡ stays
stays-pairs [] = refl
stays-pairs (s ∷ stays) = ap (λ (ss : List Stay). s ∷ ss) (stays-pairs stays)

pub stood_moved : (old mid : CornerView) (attrs : List ℕ) (new : Problem) → HasStood old mid → IsWhole mid.problem → new ≡ record { rows = mid.problem.rows; stays = mid.problem.stays ++ stays_at (zeros attrs) } → IsMoved old attrs old.problem.rows new
stood_moved old mid attrs new stood whole e = record {
  values = map pair_of mid.problem.stays;
  attributes = first-pairs mid.problem.stays ∙ stood.attrs;
  lowest = All-from_recursion (λ v. IsLowest v.1) (map pair_of mid.problem.stays)
      (each_mapped pair_of (λ v. IsLowest v.1) mid.problem.stays (each-impl IsStay _ mid.problem.stays (λ s k. k.target.lowest) (recursion_from_All IsStay mid.problem.stays whole.stays)));
  stand = All-from_recursion (λ v. HasValueAt old.problem old.marks (attr_column v.0) v.1) (map pair_of mid.problem.stays)
      (each_mapped pair_of (λ v. HasValueAt old.problem old.marks (attr_column v.0) v.1) mid.problem.stays (recursion_from_All (λ s. HasValueAt old.problem old.marks (attr_column s.attr) s.target) mid.problem.stays stood.targets));
  is = e ∙ ap₂ made stood.rows
      (ap (λ (ss : List Stay). ss ++ stays_at (zeros attrs)) (sym (stays-pairs mid.problem.stays))
      ∙ sym (map-append (λ (v : ℕ × Fraction). record { attr = v.0; target = v.1 }) (map pair_of mid.problem.stays) (zeros attrs)));
}

-- ---- no value is negative there

pub moved_up : (old : CornerView) (attrs : List ℕ) (p : Problem) → IsKeptCorner old.problem old.marks → IsMoved old attrs old.problem.rows p → IsWhole p → NoNegativeValue old.problem old.marks → NoNegativeValue p old.marks
moved_up old attrs p kept m whole up =
    moved_values old.problem p old.marks m.values attrs
    (record { whole = kept.whole; attributes = m.attributes; each = whole.stays; apart = whole.apart; rows = ap (λ (q : Problem). q.rows) m.is; stays = ap (λ (q : Problem). q.stays) m.is })
    (λ x stands. numbers_here old m.values x (its_values old attrs old.problem.rows p kept.corner m) stands) up

-- ---- room

pub no_stay : (stays : List Stay) (a : ℕ) → Each (λ (n : ℕ). n ≢ a) (map (λ (s : Stay). s.attr) stays) → HasStay stays a → ⊥
no_stay [] a h (k, t, within, is, e) = absurd (omega (arith, within))
no_stay (s ∷ stays) a h (zero, t, within, is, e) = h.0 (ap (λ (u : Stay). u.attr) is ∙ e)
no_stay (s ∷ stays) a h (suc k, t, within, is, e) = no_stay stays a h.1 (k, t, omega (arith, within), is, e)

pub next_room : (held attrs : List ℕ) (i d : ℕ) → i < length attrs → CanTake held (drop i attrs) → CanTake held (get_or attrs i d ∷ drop (i + 1) attrs)
next_room held attrs i d within h = subst (CanTake held) (drop_more attrs i d within) h

-- ---- the answers of a run over the moved problem

module _ (from mid : CornerView) (attrs : List ℕ) (base : List Row) (kept : List Mark) (corner : IsCorner from.problem from.marks) (moved : IsMoved from attrs base mid.problem) (marks : mid.marks ≡ kept) (rows : List Row) (budget : ℕ) where
  same-problem : (p : Problem) → IsMoved from attrs (base ++ rows) p → with_rows rows mid.problem ≡ p
  same-problem p m = one_problem from attrs (base ++ rows) (with_rows rows mid.problem) p corner (with_more from attrs base rows mid.problem moved) m

  pub moved_path : (last : List Mark) → (path : Path) × IsRun false (with_rows rows mid.problem) (FromAdded (with_rows rows mid.problem) mid.marks rows []) budget last path
      → (p : Problem) → IsMoved from attrs (base ++ rows) p → (path : Path) × IsRun false p (FromAdded p kept rows []) budget last path
  moved_path last run p m =
      subst (λ (q : Problem). (path : Path) × IsRun false q (FromAdded q kept rows []) budget last path) (same-problem p m)
      (subst (λ (ms : List Mark). (path : Path) × IsRun false (with_rows rows mid.problem) (FromAdded (with_rows rows mid.problem) ms rows []) budget last path) marks run)

  pub moved_stop : (stop : RunStop) → IsStopOf false (with_rows rows mid.problem) mid.problem.rows (FromAdded (with_rows rows mid.problem) mid.marks rows) budget stop
      → (p : Problem) → IsMoved from attrs (base ++ rows) p → IsStopOf false p base (FromAdded p kept rows) budget stop
  moved_stop stop h p m =
      subst (λ (q : Problem). IsStopOf false q base (FromAdded q kept rows) budget stop) (same-problem p m)
      (subst (λ (ms : List Mark). IsStopOf false (with_rows rows mid.problem) base (FromAdded (with_rows rows mid.problem) ms rows) budget stop) marks
      (subst (λ (rs : List Row). IsStopOf false (with_rows rows mid.problem) rs (FromAdded (with_rows rows mid.problem) mid.marks rows) budget stop) (ap (λ (q : Problem). q.rows) moved.is) h))
