use Rattle.std.proofs.Common.{◌≡◌, ◌∙◌, ◌++◌, List, Option, take, drop, length, rules, subst, true}
use Rattle.std.proofs.lemmas.Result.{err_from_is_err_and}
use Rattle.path_lines.specs.declared.spots.Step.{Step}
use Rattle.path_lines.specs.declared.table.Inside.{Inside}
use Rattle.path_lines.specs.Tables.{IsTurned}
use Rattle.path_lines.specs.Exchanges.Pivots.{LeadTo, LeadToUnfit}
use Rattle.path_lines.proofs.Iffs.{right_then}
use Rattle.path_lines.proofs.Exchanges.Leading.{err_then, ok_then, turn_leads, turned_sized}
use Rattle.path_lines.proofs.MarkSides.Walks.{settled}
use Rattle.path_lines.proofs.exchange.after_exchange.Goals as goal

pub returns-then-is_turn-clause-next : goal.returns-then-is_turn-clause-next
returns-then-is_turn-clause-next c =
    let long : length c.turn.new.lines ≡ c.args.lines.len = c.turn.ensures.count ∙ c.deref_mut.ensures.len in
    let whole : take c.args.lines.len (c.turn.new.lines ++ drop (length c.turn.new.lines) c.args.lines.items) ≡ c.turn.new.lines = settled c.args.lines.len c.turn.new.lines c.args.lines.items long in
    let is : IsTurned c.args.step.enter.at c.args.step.enter.side c.args.lines.items c.turn.new.lines =
    subst (λ (ls : List (Option Inside)). IsTurned c.args.step.enter.at c.args.step.enter.side ls c.turn.new.lines) c.deref_mut.ensures.value c.turn.ensures in
    let up : c.is_turn.result ≡ true = search rules in
    rw whole (turn_leads c.args.step c.args.lines.items c.turn.new.lines c.requires.enter (right_then c.is_turn.result up c.is_turn.ensures) is)

pub returns-then-is_turn-clause-sized : goal.returns-then-is_turn-clause-sized
returns-then-is_turn-clause-sized c =
    let long : length c.turn.new.lines ≡ c.args.lines.len = c.turn.ensures.count ∙ c.deref_mut.ensures.len in
    let whole : take c.args.lines.len (c.turn.new.lines ++ drop (length c.turn.new.lines) c.args.lines.items) ≡ c.turn.new.lines = settled c.args.lines.len c.turn.new.lines c.args.lines.items long in
    let is : IsTurned c.args.step.enter.at c.args.step.enter.side c.args.lines.items c.turn.new.lines =
    subst (λ (ls : List (Option Inside)). IsTurned c.args.step.enter.at c.args.step.enter.side ls c.turn.new.lines) c.deref_mut.ensures.value c.turn.ensures in
    rw whole (turned_sized c.args.step.enter.at c.args.step.enter.side c.args.lines.items c.turn.new.lines is c.requires.sized)

pub returns-in_err-pivot-clause-unfit : goal.returns-in_err-pivot-clause-unfit
returns-in_err-pivot-clause-unfit c =
    let exit = err_from_is_err_and c.from_residual.result c.from_residual.ensures.1 in
    rw (exit.1, exit.2) (λ same. subst (λ (ls : List (Option Inside)). LeadToUnfit c.args.step ls) c.deref.ensures.value (c.in_err-pivot.ensures.unfit same))

pub returns-clause-next : goal.returns-clause-next
returns-clause-next c =
    ok_then c.solved_lines.result
    (λ next leads. subst (λ (t : Step). LeadTo t c.args.lines.items next.items) c.in_ok-pivot.ensures.pivot.solved.step_is leads)
    c.solved_lines.ensures.next

pub returns-clause-unfit : goal.returns-clause-unfit
returns-clause-unfit c =
    err_then c.solved_lines.result
    (λ stop leads same. subst (λ (t : Step). LeadToUnfit t c.args.lines.items) c.in_ok-pivot.ensures.pivot.solved.step_is (leads same))
    c.solved_lines.ensures.unfit
