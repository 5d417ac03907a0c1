-- What a scene hands its engine makes a problem, and the scene counts on.
use Rattle.std.proofs.Common.{◌≡◌, ◌≢◌, ℕ, ◌+◌, ◌^◌, ◌<◌, ◌≤◌, List, [], ◌∷◌, ◌++◌, length, map, length-append, refl, sym, ap, subst, ◌∙◌, arith, All, lit<, IsPermutation}
use Rattle.std.proofs.lemmas.List.{append-nil, length-map}
use Rattle.std.proofs.lemmas.List.Elements.{All-from_recursion, All-append, All-weaker, All-map}
use Rattle.std.proofs.lemmas.List.Sorted.{IsPermutation-append_left, IsPermutation-refl}
use Rattle.frac_core.specs.Fraction.{Fraction}
use Rattle.problem_core.specs.declared.parts.Rel.TheVariants.{Eq, Ge}
use Rattle.problem_core.specs.declared.parts.Stay.{Stay}
use Rattle.problem_core.specs.declared.parts.Term.{Term}
use Rattle.problem_core.specs.Layout.{Row, Problem}
use Rattle.problem_core.specs.Kept.{IsNumber, IsRow, IsWhole}
use Rattle.problem_core.specs.Window.{required_row, structural_rows, zero_fraction}
use Rattle.view_tree.specs.Views.{LiveView, ViewTree, first_tree}
use Rattle.layout_solver.specs.declared.engine.Change.{Change}
use Rattle.layout_solver.specs.Layouts.{Layout, stays_at, zeros, with_added}
use Rattle.layout_solver.specs.Requests.{CanSolve, posed_by}
use Rattle.layout_solver.specs.Shifts.{shifted, with_shifts}
use Rattle.layout_solver.specs.declared.request.Request.{Request}
use Rattle.layout_solver.specs.declared.request.Request.TheVariants as request
use Rattle.scenes.specs.Stepping.{IsFirst}
use Rattle.problem_core.specs.Unfit.{without_constant}
use Rattle.held_items.specs.Attributes.{view_attributes, all_attributes, HasOnly, IsCounted}
use Rattle.held_items.proofs.Lists.{four-rising, all-unmapped}
use Rattle.held_items.proofs.Views.Attributes.{view-new, none-new, contains-left, contains-top, contains-width, contains-height}
use Rattle.scenes.proofs.Engines.Wholes.{IsSettled, added-whole, may_shuffled, settled-numbers, attributes-joined}
use Rattle.held_items.proofs.HeldRows.NextRows.{shape}
use Rattle.held_items.specs.Attributes.{MayBeAdded}
use Rattle.held_items.proofs.Constants.AlikeRows.{alike-shapes}
use Rattle.layout_solver.proofs.Shifts.Constants.{shifted-alike}
use Rattle.scenes.proofs.First.{first_problem}
use Rattle.held_items.proofs.HeldRows.Ranks.{HasRank}
use Rattle.layout_solver.proofs.BestValues.{attrs-at}
use Rattle.frac_core.proofs.Lists.{pairs-nil}
use Rattle.held_items.proofs.HeldRows.RequiredRows.{one-only, once}

-- ---- problems

-- rows of the old attributes
pub rows-whole : (views : List LiveView) (next : ℕ) (l : Layout) (more : List Row) → IsSettled l.problem l.values → IsCounted views next l.problem → MayBeAdded (all_attributes views) next more → length l.problem.rows + length more ≤ 2000
    → IsWhole (with_added l [] more)
rows-whole views next l more is counted may room =
    added-whole l.problem l.values [] more next (2 ^ 31 + 1) is
    (all-unmapped (λ (v : ℕ × Fraction). v.0) (λ n. n < 2 ^ 31 + 1) l.values (All-weaker IsNumber (λ n. n < 2 ^ 31 + 1) (λ n h. omega (arith, h.1)) (map (λ v. v.0) l.values) (settled-numbers l.problem l.values is)))
    (none-new (2 ^ 31 + 1)) counted.below
    (subst (λ (ns : List ℕ). MayBeAdded ns next more) (sym (append-nil (map (λ s. s.attr) l.problem.stays)))
    (may_shuffled (all_attributes views) (map (λ s. s.attr) l.problem.stays) next more counted.stays may))
    (omega (arith, room)) (omega (arith, is.whole.stay_count))

-- ---- counts

pub counted-added : (views new_views : List LiveView) (next now : ℕ) (l : Layout) (attrs : List ℕ) (more : List Row) (p : Problem) → map (λ v. v.0) l.values ≡ map (λ s. s.attr) l.problem.stays → IsCounted views next l.problem
    → all_attributes new_views ≡ all_attributes views ++ attrs → All (λ r. r.id < now) more → All HasRank more → next ≤ now → length l.problem.rows + length more ≤ 2000 → p ≡ with_added l attrs more → IsCounted new_views now p
counted-added views new_views next now l attrs more p same counted grown below ranks up room is =
    subst (IsCounted new_views now) (sym is) (record {
      stays = subst (λ (ns : List ℕ). IsPermutation ns (map (λ s. s.attr) (stays_at (l.values ++ zeros attrs)))) (sym grown)
          (subst (IsPermutation (all_attributes views ++ attrs)) (sym (attrs-at (l.values ++ zeros attrs) ∙ attributes-joined l.values attrs ∙ ap (λ (ns : List ℕ). ns ++ attrs) same))
          (IsPermutation-append_left attrs (all_attributes views) (map (λ s. s.attr) l.problem.stays) counted.stays));
      below = All-append (λ (r : Row). r.id < now) l.problem.rows more (All-weaker (λ (r : Row). r.id < next) (λ (r : Row). r.id < now) (λ r h. omega (arith, h, up)) l.problem.rows counted.below) below;
      ranks = All-append HasRank l.problem.rows more counted.ranks ranks;
      few = omega (arith, room, length-append l.problem.rows more);
    })

-- other constants change no number
pub counted-shifted : (views : List LiveView) (next : ℕ) (l : Layout) (to : List Change) (p : Problem) → map (λ v. v.0) l.values ≡ map (λ s. s.attr) l.problem.stays → IsCounted views next l.problem
    → p ≡ with_shifts l to → IsCounted views next p
counted-shifted views next l to p same counted is =
    let shapes : map shape (shifted to l.problem.rows) ≡ map shape l.problem.rows = alike-shapes (shifted to l.problem.rows) l.problem.rows (shifted-alike to l.problem.rows) in
    subst (IsCounted views next) (sym is) (record {
      stays = subst (IsPermutation (all_attributes views)) (sym (attrs-at l.values ∙ same)) counted.stays;
      below = all-unmapped shape (λ s. s.0 < next) (shifted to l.problem.rows) (subst (All (λ (s : ℕ × List Term). s.0 < next)) (sym shapes) (mapped l.problem.rows counted.below));
      ranks = all-unmapped without_constant HasRank (shifted to l.problem.rows) (subst (All HasRank) (sym (shifted-alike to l.problem.rows)) (All-map HasRank without_constant l.problem.rows counted.ranks));
      few = (let long : length (shifted to l.problem.rows) ≡ length l.problem.rows = sym (length-map (shifted to l.problem.rows) shape) ∙ ap length shapes ∙ length-map l.problem.rows shape in omega (arith, counted.few, long));
    })
  where
    mapped : (rows : List Row) → All (λ r. r.id < next) rows → All (λ (s : ℕ × List Term). s.0 < next) (map shape rows)
    mapped rows h = All-map (λ (s : ℕ × List Term). s.0 < next) shape rows h

-- ---- the first session

first-may : All IsRow structural_rows → MayBeAdded (view_attributes 0) 1 structural_rows
first-may each = record {
  rows = each;
  rising = four-rising (λ (r : Row). r.id) (required_row 1 1 Eq zero_fraction) (required_row 2 2 Eq zero_fraction) (required_row 3 3 Ge zero_fraction) (required_row 4 4 Ge zero_fraction) (lit< tt) (lit< tt) (lit< tt);
  above = All-from_recursion (λ (x : Row). 1 ≤ x.id) structural_rows (omega arith, (omega arith, (omega arith, (omega arith, tt))));
  only = All-from_recursion (HasOnly (view_attributes 0)) structural_rows
      (one-only (view_attributes 0) (once 1) (contains-left 0), (one-only (view_attributes 0) (once 2) (contains-top 0), (one-only (view_attributes 0) (once 3) (contains-width 0), (one-only (view_attributes 0) (once 4) (contains-height 0), tt))));
}

abbrev pub empty : Layout
empty = record { problem = record { rows = []; stays = [] }; values = []; corner = []; earlier = [] }

empty-settled : IsSettled empty.problem empty.values
empty-settled = record {
  whole = record {
    rows = λ k d within. absurd (omega (arith, within));
    stays = λ k d within. absurd (omega (arith, within));
    rising = pairs-nil (λ (r s : Row). r.id < s.id);
    apart = pairs-nil (λ (s t : Stay). s.attr ≡ t.attr → ⊥);
    covered = λ k d within. absurd (omega (arith, within));
    row_count = omega arith;
    stay_count = omega arith;
  };
  attributes = refl;
  kept = λ k d within. absurd (omega (arith, within));
  apart = pairs-nil (λ (u v : ℕ × Fraction). u.0 ≢ v.0);
}

pub first-whole : (l : Layout) (more : List Row) → l ≡ empty → more ≡ structural_rows → All IsRow more → IsWhole (with_added l (1 ∷ 2 ∷ 3 ∷ 4 ∷ []) more)
first-whole l more is are each =
    subst (λ (k : Layout). IsWhole (with_added k (1 ∷ 2 ∷ 3 ∷ 4 ∷ []) more)) (sym is)
    (subst (λ (rows : List Row). IsWhole (with_added empty (1 ∷ 2 ∷ 3 ∷ 4 ∷ []) rows)) (sym are)
    (added-whole empty.problem empty.values (view_attributes 0) structural_rows 1 1 empty-settled (λ k d within. absurd (omega (arith, within))) (view-new 0 (lit< tt)) (λ k d within. absurd (omega (arith, within)))
    (first-may (subst (All IsRow) are each)) (omega arith) (omega arith)))

pub first-can : (l : Layout) (r : Request) → l ≡ empty → IsFirst r → CanSolve l r
first-can l (request.Add attrs rows) is (are_attrs, are_rows, each) = subst (λ (ns : List ℕ). IsWhole (with_added l ns rows.items)) (sym are_attrs) (first-whole l rows.items is are_rows each)
first-can l (request.Shift to) is first = absurd first
first-can l (request.Remove rows attrs) is first = absurd first
first-can l (request.Keep attrs) is first = absurd first
first-can l request.Stand is first = absurd first

pub first-posed : (l : Layout) (r : Request) → l ≡ empty → IsFirst r → posed_by l r ≡ first_problem
first-posed l (request.Add attrs rows) is (are_attrs, are_rows, each) =
    ap (λ (k : Layout). with_added k attrs.items rows.items) is
    ∙ ap (λ (ns : List ℕ). with_added empty ns rows.items) are_attrs
    ∙ ap (with_added empty (view_attributes 0)) are_rows
first-posed l (request.Shift to) is first = absurd first
first-posed l (request.Remove rows attrs) is first = absurd first
first-posed l (request.Keep attrs) is first = absurd first
first-posed l request.Stand is first = absurd first

pub first-counted : (t : ViewTree) (p : Problem) → t ≡ first_tree t.most → p ≡ first_problem → IsCounted t.views 5 p
first-counted t p tree is =
    subst (λ (u : ViewTree). IsCounted u.views 5 p) (sym tree)
    (subst (IsCounted (first_tree t.most).views 5) (sym is) (record {
      -- the window's four in their order
      stays = IsPermutation-refl (view_attributes 0);
      below = All-from_recursion (λ (r : Row). r.id < 5) structural_rows (lit< tt, (lit< tt, (lit< tt, (lit< tt, tt))));
      ranks = All-from_recursion HasRank structural_rows (lit< tt, (lit< tt, (lit< tt, (lit< tt, tt))));
      few = omega arith;
    }))
