use Rattle.view_tree.proofs.PlanLemmas.{name_read, name_unread}
use Rattle.std.proofs.Common.{◌∙◌}
use Rattle.view_tree.proofs.plan.is_name.Goals as goal

pub returns-in-Ok : goal.returns-in-Ok
returns-in-Ok c = c.is_empty.ensures ∙ name_read c.args.text.now c.as_bytes.result.now _ c.in-Ok.rest.now c.as_bytes.ensures.value c.in-Ok.ensures.gives

pub returns-in-Err : goal.returns-in-Err
returns-in-Err c = name_unread c.args.text.now c.as_bytes.result.now _ c.as_bytes.ensures.value c.in-Err.ensures.gives
