-- What an addition to an engine that holds nothing is: a trial.
use Rattle.std.proofs.Common.{◌≡◌, ◌∙◌, ℕ, ◌<◌, List, filter, length, sym, ap, ap₂, subst, arith}
use Rattle.problem_core.specs.Layout.{Problem, Row}
use Rattle.problem_core.specs.Kept.{IsWhole}
use Rattle.version_lists.specs.declared.versions.TheConstants.{VERSION_LIMIT}
use Rattle.layout_solver.specs.Layouts.{Layout, with_added}
use Rattle.layout_solver.specs.Starts.{attrs_of}
use Rattle.conflict_core.specs.Cores.{is_tried, trial}
use Rattle.conflict_core.specs.Trials.{nothing}
use Rattle.conflict_core.proofs.TrialWhole.{trial_whole}

module _ (p : Problem) (ids : List ℕ) (l : Layout) (attrs : List ℕ) (rows : List Row) (none : l ≡ nothing) (at : attrs ≡ attrs_of p) (are : rows ≡ filter (is_tried ids) p.rows) where
  pub added_is : with_added l attrs rows ≡ trial p ids
  added_is =
      ap (λ (k : Layout). with_added k attrs rows) none
      ∙ ap₂ (λ (ns : List ℕ) (rs : List Row). with_added nothing ns rs) at are

  pub added_whole : IsWhole p → IsWhole (with_added l attrs rows)
  added_whole whole = subst IsWhole (sym added_is) (trial_whole p ids whole)

pub has_room : (l : Layout) → l ≡ nothing → length l.earlier < VERSION_LIMIT
has_room l none = subst (λ (k : Layout). length k.earlier < VERSION_LIMIT) (sym none) (omega arith)
