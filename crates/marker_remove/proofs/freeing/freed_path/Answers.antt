use Rattle.std.proofs.Common.{◌≡◌, ◌∙◌, false, List, [], ◌∷◌, IfOk, subst, sym}
use Rattle.problem_core.specs.declared.parts.Mark.{Mark}
use Rattle.problem_core.specs.Corners.{Swap, exchanged}
use Rattle.corner_ends.specs.Begins.{HasExchanged}
use Rattle.corner_view.specs.Seen.{in_order}
use Rattle.marker_remove.proofs.FreedPaths.{back_of, ordered_again, ordered_same, went_back}
use Rattle.marker_remove.proofs.freeing.freed_path.Goals as goal

pub returns : goal.returns
returns g c =
    subst (λ (ms : List Mark). IfOk c.of.result (λ path. path ≡ record { dual = false; corner = ms; swaps = [] }))
    (c.deref.ensures.value
    ∙ c.in_ok-marks.ensures (in_order c.args.c.now.problem (exchanged c.args.swap c.args.c.now.marks))
    (subst (λ (s : Swap). HasExchanged (in_order c.args.c.now.problem (exchanged c.args.swap c.args.c.now.marks)) (back_of s ∷ []) c.args.c.now.marks) (sym c.swap.view_is)
    (went_back c.args.c.now.marks (in_order c.args.c.now.problem (exchanged c.args.swap c.args.c.now.marks)) c.args.swap c.requires.enters c.requires.leaves (ordered_same c.args.c.now.problem (exchanged c.args.swap c.args.c.now.marks) c.requires.corner)))
    (ordered_again c.args.c.now.problem (exchanged c.args.swap c.args.c.now.marks) c.requires.corner))
    c.of.ensures
