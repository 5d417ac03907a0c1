-- How a run of either kind ends.
use Rattle.std.proofs.Common.{◌≡◌, ℕ, ◌≤◌, Bool, List, length, refl, sym, subst}
use Rattle.problem_core.specs.declared.parts.Mark.{Mark}
use Rattle.problem_core.specs.Layout.{Problem}
use Rattle.problem_core.specs.Corners.{NoNegativeColumn, NoNegativeValue, SameMarks, Swap}
use Rattle.problem_core.specs.Levels.{CostsAbove}
use Rattle.problem_core.specs.Changes.Paths.{IsEndOf, IsPath, last_marks}
use Rattle.cert_core.specs.Paths.{Path}
use Rattle.cert_core.specs.Stops.{IsStopOf}
use Rattle.cert_core.specs.declared.stops.RunStop.{RunStop}
use Rattle.cert_core.specs.declared.stops.RunStop.TheVariants.{Spent}
use Rattle.corner_ends.specs.Runs.{FromHere, IsBestEnd, IsRun}

pub best_end : (p q : Problem) (a b : List Mark) → q ≡ p → b ≡ a → NoNegativeValue p a → NoNegativeColumn p a → (CostsAbove p a 0 → ⊥) → IsBestEnd q b
best_end p q a b e f values columns free = subst (λ (k : Problem). IsBestEnd k b) (sym e) (subst (λ (ms : List Mark). IsBestEnd p ms) (sym f) (record { values = values; columns = columns; required = free }))

pub run_made : (dual : Bool) (p old : Problem) (first begin at b : List Mark) (swaps : List Swap) (budget : ℕ) → IsPath dual p first swaps → SameMarks (last_marks first swaps) at → p ≡ old → first ≡ begin → b ≡ at → length swaps ≤ budget
    → (path : Path) × IsRun dual old (λ ms. ms ≡ begin) budget b path
run_made dual p old first begin at b swaps budget lawful here e f g few = (
  record { dual = dual; corner = first; swaps = swaps },
  record {
    kind = refl;
    begins = f;
    lawful = subst (λ (k : Problem). IsPath dual k first swaps) e lawful;
    ends = subst (λ (ms : List Mark). SameMarks (last_marks first swaps) ms) (sym g) here;
    few = few;
  },
)

pub spent_path : (dual : Bool) (p : Problem) (first : List Mark) (swaps : List Swap) (path : Path) → IsPath dual p first swaps → (IsEndOf dual p (last_marks first swaps) → ⊥) → path ≡ record { dual = dual; corner = first; swaps = swaps } → IsStopOf dual p p.rows (FromHere first) (length swaps) (Spent path)
spent_path dual p first swaps path lawful no_end e =
    subst (λ (q : Path). IsStopOf dual p p.rows (FromHere first) (length swaps) (Spent q)) (sym e) (
      refl,
      record { begins = (refl, refl); lawful = lawful; count = refl; no_end = no_end },
    )

pub stop_moved : (dual : Bool) (p q : Problem) (a b : List Mark) (budget : ℕ) (stop : RunStop) → p ≡ q → a ≡ b → IsStopOf dual p p.rows (FromHere a) budget stop → IsStopOf dual q q.rows (FromHere b) budget stop
stop_moved dual p q a b budget stop e f h = subst (λ (k : Problem). IsStopOf dual k k.rows (FromHere b) budget stop) e (subst (λ (ms : List Mark). IsStopOf dual p p.rows (FromHere ms) budget stop) f h)
