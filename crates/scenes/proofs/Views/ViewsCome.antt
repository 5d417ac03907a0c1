-- Views that come make a problem, and are in no conflict.
use Rattle.std.proofs.Common.{◌≡◌, ℕ, ◌+◌, ◌*◌, ◌<◌, ◌≤◌, List, ◌++◌, length, map, length-append, sym, ap, subst, ◌∙◌, arith, All}
use Rattle.std.proofs.lemmas.List.{length-map}
use Rattle.std.proofs.lemmas.List.Elements.{All-from_recursion}
use Rattle.std.proofs.lemmas.List.Sorted.{All-permutation, IsPermutation-append_left, length_permutation}
use Rattle.frac_core.specs.Fraction.{Fraction}
use Rattle.problem_core.specs.declared.parts.Stay.{Stay}
use Rattle.problem_core.specs.Layout.{Row, Problem}
use Rattle.problem_core.specs.Kept.{IsRow, IsWhole}
use Rattle.view_tree.specs.Views.{LiveView}
use Rattle.layout_solver.specs.Layouts.{Layout, with_added}
use Rattle.held_items.specs.Items.{rows_of_views}
use Rattle.held_items.specs.Attributes.{all_attributes, attributes_from, IsGrown, IsCounted}
use Rattle.held_items.proofs.Lists.{all-unmapped}
use Rattle.held_items.proofs.Views.Attributes.{attributes-below, attribute-count, grown-attributes}
use Rattle.scenes.proofs.Engines.Wholes.{IsSettled, added-whole, may_shuffled}
use Rattle.scenes.proofs.Engines.Additions.{counted-added}
use Rattle.held_items.proofs.HeldRows.Ranks.{HasRank, views-ranked}
use Rattle.held_items.proofs.Views.ViewRows.{come-new, rows-before, rows-count, views-may}

-- ---- problems

module _ (views new_views : List LiveView) (next id n : ℕ) (l : Layout) (is : IsSettled l.problem l.values) (counted : IsCounted views next l.problem) (grown : IsGrown views new_views id n) where
  -- the attributes of before are below those that come
  taken : All (λ v. v.0 < 4 * id + 1) l.values
  taken = all-unmapped (λ (v : ℕ × Fraction). v.0) (λ a. a < 4 * id + 1) l.values (subst (All (λ a. a < 4 * id + 1)) (sym is.attributes) (All-permutation (λ a. a < 4 * id + 1) (all_attributes views) (map (λ s. s.attr) l.problem.stays) counted.stays (attributes-below views id grown.above)))

  pub views-whole : (more : List Row) → more ≡ rows_of_views next id n → All IsRow more → length l.problem.rows + 2 * n ≤ 2000 → IsWhole (with_added l (attributes_from id n) more)
  views-whole more are each room =
      let many : length more ≡ 2 * n = ap length are ∙ rows-count next id n in
      let stays : length l.problem.stays ≡ length (all_attributes views) = sym (length-map l.problem.stays (λ (s : Stay). s.attr)) ∙ length_permutation (all_attributes views) (map (λ s. s.attr) l.problem.stays) counted.stays in
      let all : length (all_attributes new_views) ≡ length (all_attributes views) + length (attributes_from id n) = ap length (grown-attributes views new_views id n grown) ∙ length-append (all_attributes views) (attributes_from id n) in
      added-whole l.problem l.values (attributes_from id n) more next (4 * id + 1) is taken (come-new id n grown.small) counted.below
      (may_shuffled (all_attributes views ++ attributes_from id n) (map (λ s. s.attr) l.problem.stays ++ attributes_from id n) next more
      (IsPermutation-append_left (attributes_from id n) (all_attributes views) (map (λ s. s.attr) l.problem.stays) counted.stays) (views-may views next id n more are each))
      (omega (arith, room, many)) (omega (arith, stays, all, attribute-count new_views, grown.few))

  pub counted-views : (more : List Row) (p : Problem) → more ≡ rows_of_views next id n → length l.problem.rows + 2 * n ≤ 2000 → p ≡ with_added l (attributes_from id n) more → IsCounted new_views (next + 2 * n) p
  counted-views more p are room done =
      let many : length more ≡ 2 * n = ap length are ∙ rows-count next id n in
      counted-added views new_views next (next + 2 * n) l (attributes_from id n) more p is.attributes counted (grown-attributes views new_views id n grown)
      (subst (All (λ r. r.id < next + 2 * n)) (sym are) (All-from_recursion (λ (r : Row). r.id < next + 2 * n) (rows_of_views next id n) (rows-before (next + 2 * n) next id n (omega arith)))) (subst (All HasRank) (sym are) (views-ranked next id n))
      (omega arith) (omega (arith, room, many)) done
