use Rattle.std.proofs.Common.{◌≡◌, ◌≤◌, ◌∙◌, List, sym, subst, All}
use Rattle.problem_core.specs.Layout.{IsProblem, Problem}
use Rattle.problem_core.specs.Levels.{CostsAbove}
use Rattle.cert_core.specs.declared.by.By.{By}
use Rattle.cert_core.specs.Claims.{AreBys}
use Rattle.cert_core.specs.Stops.{IsShownConflict}
use Rattle.corner_lines.specs.Shifts.{AreSeenAlike}
use Rattle.corner_ends.proofs.RequiredTimes.{required_refuted, times_exist}
use Rattle.corner_ends.proofs.SeenConflicts.{refuted_elsewhere, shown_there}
use Rattle.corner_ends.proofs.ShownTimes.{shown_conflict}
use Rattle.corner_ends.proofs.conflicts.conflict.Goals as goal
use Rattle.frac_core.proofs.Results.{ok_implies}

pub returns-clause-here : goal.returns-clause-here
returns-clause-here g c =
    let t = required_refuted c.args.c.now.problem c.args.c.now.marks c.show_corner.ensures.kept c.requires.above c.requires.columns in
    let h = c.in_ok-by.ensures t.0 t.1 in
    ok_implies c.of.result (λ (by : List By). by ≡ c.deref.result.now) (IsShownConflict c.args.c.now.problem)
    (λ by e. subst (IsShownConflict c.args.c.now.problem) (sym (e ∙ c.deref.ensures.value))
    (shown_conflict c.args.c.now.problem t.0 h.0 c.in_ok-by.by.items t.2 h.1 h.2 h.3))
    c.of.ensures

pub returns-clause-elsewhere : goal.returns-clause-elsewhere
returns-clause-elsewhere g c =
    let t = refuted_elsewhere c.args.c.now.problem c.args.c.now.marks c.show_corner.ensures.kept c.requires.columns in
    let h = c.in_ok-by.ensures t.0 t.1 in
    ok_implies c.of.result (λ (by : List By). by ≡ c.deref.result.now) (λ (by : List By). (q : Problem) → IsProblem q → All (λ r. r.rank ≤ 1000) q.rows → AreSeenAlike c.args.c.now.problem q → CostsAbove q c.args.c.now.marks 0 → IsShownConflict q by)
    (λ by e q problem ranked same above. subst (IsShownConflict q) (sym (e ∙ c.deref.ensures.value))
    (shown_there c.args.c.now.problem q c.show_corner.ensures.kept.whole ranked same t.0 h.0 c.in_ok-by.by.items (t.2 q problem ranked same above) h.1 h.2 h.3))
    c.of.ensures

pub of-requires : goal.of-requires
of-requires g c =
    let t = times_exist c.args.c.now.problem c.args.c.now.marks c.show_corner.ensures.kept in
    subst AreBys (sym c.deref.ensures.value) (c.in_ok-by.ensures t.0 t.1).3.kept
