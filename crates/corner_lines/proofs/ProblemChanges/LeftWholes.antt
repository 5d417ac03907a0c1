-- A problem without some of its rows, or without an attribute that no row names, is one that the types can hold.
use Rattle.std.proofs.Common.{◌≡◌, ◌≢◌, ◌∙◌, ℕ, suc, ◌<◌, ◌≤◌, Bool, true, false, cond, List, [], ◌∷◌, filter, length, sym, subst, arith, inl, inr, All}
use Rattle.std.proofs.lemmas.Bool.{cases_eq}
use Rattle.std.proofs.lemmas.List.Elements.{All-filter, All-from_recursion, recursion_from_All}
use Rattle.std.proofs.lemmas.List.Kept.{AllPairs-filter}
use Rattle.frac_core.proofs.Lists.{any-cases, any-here, any-later}
use Rattle.problem_core.specs.declared.parts.Stay.{Stay}
use Rattle.problem_core.specs.declared.parts.Term.{Term}
use Rattle.problem_core.specs.Kept.{IsRow, IsStay, IsWhole}
use Rattle.problem_core.specs.Layout.{HasStay, IsCovered, Problem, Row}
use Rattle.problem_core.proofs.Forms.{each-both, each-impl}
use Rattle.corner_lines.specs.Removals.{IsFree, without_attr}
use Rattle.corner_lines.proofs.ProblemChanges.DroppedAttr.{filter-off, filter-on, other_stay}

few-next : {X : Type 0} (b : Bool) (x : X) (xs : List X) (n : ℕ) → length xs ≤ n → length (cond b (x ∷ xs) xs) ≤ suc n
few-next true x xs n h = omega (arith, h)
few-next false x xs n h = omega (arith, h)

few : {X : Type 0} (test : X → Bool) (xs : List X) → length (filter test xs) ≤ length xs
few test [] = omega arith
few test (x ∷ xs) = few-next (test x) x (filter test xs) (length xs) (few test xs)

-- ---- fewer rows

pub rows_left_whole : (test : Row → Bool) (p : Problem) → IsWhole p → IsWhole (record { rows = filter test p.rows; stays = p.stays })
rows_left_whole test p whole = record {
  rows = All-filter test IsRow p.rows whole.rows;
  stays = whole.stays;
  rising = AllPairs-filter (λ (r s : Row). r.id < s.id) test p.rows whole.rising;
  apart = whole.apart;
  covered = All-filter test (IsCovered p.stays) p.rows whole.covered;
  row_count = let a = whole.row_count in let b = few test p.rows in omega (arith, a, b);
  stay_count = whole.stay_count;
}

-- ---- an attribute less

pub others-held : (attr a : ℕ) (stays : List Stay) → a ≢ attr → HasStay stays a → HasStay (filter (other_stay attr) stays) a
others-held attr a [] ne (k, t, within, is, e) = absurd (omega (arith, within))
others-held attr a (s ∷ stays) ne h = elim (any-cases (λ (t : Stay). t.attr ≡ a) s stays h) [
  | inl here ↦ subst (λ (ss : List Stay). HasStay ss a) (sym (filter-off attr s stays (λ e. ne (sym here ∙ e)))) (any-here (λ (t : Stay). t.attr ≡ a) s (filter (other_stay attr) stays) here)
  | inr later ↦ elim (cases_eq s.attr attr) [
    | inl e ↦ subst (λ (ss : List Stay). HasStay ss a) (sym (filter-on attr s stays e)) (others-held attr a stays ne later)
    | inr n ↦ subst (λ (ss : List Stay). HasStay ss a) (sym (filter-off attr s stays n)) (any-later (λ (t : Stay). t.attr ≡ a) s (filter (other_stay attr) stays) (others-held attr a stays ne later))
  ]
]

attr-covered : (attr : ℕ) (stays : List Stay) (r : Row) → All (λ t. t.attr ≢ attr) r.terms → IsCovered stays r → IsCovered (filter (other_stay attr) stays) r
attr-covered attr stays r free covered =
    All-from_recursion (λ (t : Term). HasStay (filter (other_stay attr) stays) t.attr) r.terms
    (each-impl (λ (t : Term). (t.attr ≢ attr) × HasStay stays t.attr) (λ (t : Term). HasStay (filter (other_stay attr) stays) t.attr) r.terms (λ t h. others-held attr t.attr stays h.0 h.1)
    (each-both (λ (t : Term). t.attr ≢ attr) (λ (t : Term). HasStay stays t.attr) r.terms (recursion_from_All (λ (t : Term). t.attr ≢ attr) r.terms free) (recursion_from_All (λ (t : Term). HasStay stays t.attr) r.terms covered)))

pub attr_left_whole : (p : Problem) (attr : ℕ) → IsWhole p → IsFree p attr → IsWhole (without_attr attr p)
attr_left_whole p attr whole free = record {
  rows = whole.rows;
  stays = All-filter (other_stay attr) IsStay p.stays whole.stays;
  rising = whole.rising;
  apart = AllPairs-filter (λ (s t : Stay). s.attr ≢ t.attr) (other_stay attr) p.stays whole.apart;
  covered = All-from_recursion (IsCovered (filter (other_stay attr) p.stays)) p.rows
      (each-impl (λ r. All (λ t. t.attr ≢ attr) r.terms × IsCovered p.stays r) (IsCovered (filter (other_stay attr) p.stays)) p.rows (λ r h. attr-covered attr p.stays r h.0 h.1)
      (each-both (λ r. All (λ t. t.attr ≢ attr) r.terms) (IsCovered p.stays) p.rows (recursion_from_All (λ r. All (λ t. t.attr ≢ attr) r.terms) p.rows free.free) (recursion_from_All (IsCovered p.stays) p.rows whole.covered)));
  row_count = whole.row_count;
  stay_count = let a = whole.stay_count in let b = few (other_stay attr) p.stays in omega (arith, a, b);
}
