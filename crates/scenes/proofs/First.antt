-- The first session.
use Rattle.std.proofs.Common.{◌≡◌, ℕ, List, [], ◌∷◌, refl, ap, ap₂, ◌∙◌, subst, sym, lit<, pos, ◌<◌, ◌≤◌, ◌-◌, length, take, arith}
use Rattle.std.specs.Prelude.{◌*ℤ◌}
use Rattle.std.proofs.lemmas.List.Elements.{All-from_recursion}
use Rattle.frac_core.specs.Fraction.{Fraction, IsLowest}
use Rattle.problem_core.specs.Window.{structural_rows}
use Rattle.problem_core.specs.Layout.{Problem, Assignment, IsProblem, lines}
use Rattle.problem_core.proofs.Best.WindowRows.{first-IsBest}
use Rattle.view_tree.specs.Views.{ViewTree, first_tree}
use Rattle.compile_parts.specs.Meaning.{MetricList}
use Rattle.layout_solver.specs.Begins.{IsReached}
use Rattle.layout_solver.specs.Layouts.{Layout, Solution, AreBest, solution_of, stays_at}
use Rattle.held_items.specs.Items.{OfWindow}
use Rattle.held_items.specs.declared.row_numbers.TheConstants.{FIRST_FREE_ROW}
use Rattle.script_text.specs.declared.words.Direction.TheVariants.{Ltr}
use Rattle.version_lists.specs.Versions.{Versions}
use Rattle.held_items.specs.declared.item.Item as declared
use Rattle.held_items.specs.declared.item.Item.TheVariants as kind
use Rattle.scenes.specs.declared.scene.past.Past.{Past}
use Rattle.scenes.specs.Scene.{IsFirstCorner, Scene, first_history, first_scene_of, new_values}
use Rattle.held_items.specs.declared.limits.TheConstants.{EARLIER}
use Rattle.held_items.specs.Attributes.{IsCounted}
use Rattle.scenes.specs.Kept.{AreAlike, IsKept, IsKeptHistory, history_at, scene_at}
use Rattle.held_items.specs.Kept.{IsItem, IsNamed}
use Rattle.layout_solver.proofs.UniqueBest.{best_unique}
use Rattle.problem_core.proofs.Sides.{zero-lowest as zero-IsLowest}
use Rattle.scenes.specs.declared.scene.past.Setting.{Setting}

abbrev pub first_problem : Problem
first_problem = record { rows = structural_rows; stays = stays_at (new_values 0) }

abbrev nothing : Assignment
nothing = record { den = 1; num = λ v. pos 0; positive = lit< tt }

pub first-AreBest : AreBest first_problem (new_values 0)
first-AreBest = record {
  attributes = refl;
  lowest = All-from_recursion (λ v. IsLowest v.1) (new_values 0) (zero-IsLowest, (zero-IsLowest, (zero-IsLowest, (zero-IsLowest, tt))));
  best = (
    nothing,
    first-IsBest (stays_at (new_values 0)) (refl, All-from_recursion (λ s. 0 < s.target.den) (stays_at (new_values 0)) (lit< tt, (lit< tt, (lit< tt, (lit< tt, tt)))))
        (All-from_recursion (λ s. s.target.num ≡ pos 0) (stays_at (new_values 0)) (refl, (refl, (refl, (refl, tt))))) nothing
        (All-from_recursion (λ v. nothing.num v.0 *ℤ pos v.1.den ≡ v.1.num *ℤ pos nothing.den) (new_values 0) (refl, (refl, (refl, (refl, tt))))),
    All-from_recursion (λ v. nothing.num v.0 *ℤ pos v.1.den ≡ v.1.num *ℤ pos nothing.den) (new_values 0) (refl, (refl, (refl, (refl, tt)))),
  );
}

first-IsProblem : IsProblem first_problem
first-IsProblem =
    All-from_recursion (λ l. (0 < l.scale) × (0 < l.den)) (lines first_problem)
    ((lit< tt, lit< tt), ((lit< tt, lit< tt), ((lit< tt, lit< tt), ((lit< tt, lit< tt), ((lit< tt, lit< tt), ((lit< tt, lit< tt), ((lit< tt, lit< tt), ((lit< tt, lit< tt), tt))))))))

-- the values of a layout of the first problem
first-values : (l : Layout) → l.problem ≡ first_problem → AreBest l.problem l.values → l.values ≡ new_values 0
first-values l is best = best_unique first_problem first-IsProblem l.values (new_values 0) (subst (λ (p : Problem). AreBest p l.values) is best) first-AreBest

pub first-corner : (l : Layout) → l.problem ≡ first_problem → AreBest l.problem l.values → IsReached l.problem l.corner l.values → IsFirstCorner l.corner
first-corner l is best reached =
    subst (λ (vs : List (ℕ × Fraction)). IsReached first_problem l.corner vs) (first-values l is best)
    (subst (λ (p : Problem). IsReached p l.corner l.values) is reached)

abbrev pub first_setting : Setting
first_setting = record { next_row = FIRST_FREE_ROW; direction = Ltr }

pub first-is : (t : ViewTree) (l : Layout) → t ≡ first_tree t.most → l.problem ≡ first_problem → AreBest l.problem l.values → scene_at t [] (OfWindow ∷ []) first_setting l ≡ first_scene_of t.most l.corner
first-is t l t_is is best =
    ap (λ (u : ViewTree). scene_at u [] (OfWindow ∷ []) first_setting l) t_is
    ∙ ap₂ (λ (p : Problem) (vs : List (ℕ × Fraction)). scene_at (first_tree t.most) [] (OfWindow ∷ []) first_setting (record l { problem = p; values = vs })) is (first-values l is best)

pub first-kept : (t : ViewTree) (l : Layout) → l.problem ≡ first_problem → IsCounted t.views 5 l.problem → IsKept (scene_at t [] (OfWindow ∷ []) first_setting l)
first-kept t l is counted = record {
  are_rows = (structural_rows, [], ap (λ (p : Problem). p.rows) is, refl, refl);
  each = All-from_recursion IsItem (OfWindow ∷ []) (tt, tt);
  named = All-from_recursion (IsNamed t.views) (OfWindow ∷ []) (tt, tt);
  next = lit< tt;
  top = omega arith;
  counted = counted;
}

-- ---- with no scene before it

abbrev pub versions : List declared.Item → List (List declared.Item) → Versions declared.Item
versions items before = record { items = items; before = before }

abbrev pub first_items : Versions declared.Item
first_items = record { items = kind.OfWindow ∷ []; before = [] }

pub first-history : (t : ViewTree) (ms : MetricList) (items : Versions declared.Item) (l : Layout) (pasts : List Past) (undo : ℕ) → t ≡ first_tree t.most → ms ≡ [] → items ≡ first_items → l.problem ≡ first_problem → AreBest l.problem l.values
    → history_at t ms items first_setting l pasts undo ≡ first_history t.most undo l.corner
first-history t ms items l pasts undo t_is ms_is items_is is best =
    ap (λ (m : MetricList). history_at t m items first_setting l pasts undo) ms_is
    ∙ ap (λ (v : Versions declared.Item). history_at t [] v first_setting l pasts undo) items_is
    ∙ ap (λ (s : Scene). record { scene = s; earlier = []; undo = undo }) (first-is t l t_is is best)

pub first-history-kept : (t : ViewTree) (ms : MetricList) (items : Versions declared.Item) (l : Layout) (pasts : List Past) (undo : ℕ) → ms ≡ [] → items ≡ first_items → l.problem ≡ first_problem → IsCounted t.views 5 l.problem
    → IsKeptHistory (history_at t ms items first_setting l pasts undo)
first-history-kept t ms items l pasts undo ms_is items_is is counted =
    subst (λ (m : MetricList). IsKeptHistory (history_at t m items first_setting l pasts undo)) (sym ms_is)
    (subst (λ (v : Versions declared.Item). IsKeptHistory (history_at t [] v first_setting l pasts undo)) (sym items_is)
    (record { scene = first-kept t l is counted; earlier = All-from_recursion IsKept [] tt }))

pub first-alike : (most : ℕ) → most ≤ EARLIER → (items : List (List declared.Item)) (solutions : List Solution) (pasts : List Past) → items ≡ [] → solutions ≡ [] → pasts ≡ [] → AreAlike most items solutions pasts
first-alike most limit items solutions pasts no_items no_solutions no_pasts =
    rw (no_items, no_solutions, no_pasts) (record { items = refl; solutions = refl; few = omega arith; limit = limit })

-- the layout of no attribute is forgotten
pub first-forgotten : (before : Layout) (run earlier : List Solution) → before.earlier ≡ [] → run ≡ solution_of before ∷ before.earlier → earlier ≡ take (length run - 1) run → earlier ≡ []
first-forgotten before run earlier none run_is earlier_is =
    earlier_is ∙ ap (λ (ss : List Solution). take (length ss - 1) ss) (run_is ∙ ap (λ (ss : List Solution). solution_of before ∷ ss) none)
