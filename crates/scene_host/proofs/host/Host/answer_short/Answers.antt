use Rattle.std.proofs.Common.{inr}
use Rattle.std.proofs.lemmas.Result.{IfOk-weaker}
use Rattle.scene_host.proofs.host.Host.answer_short.Goals as goal

pub returns-in-Ok-clause-told : goal.returns-in-Ok-clause-told
returns-in-Ok-clause-told g c =
    IfOk-weaker c.answer_named.result _ _ (λ refused told.
    (told.0, inr (inr (c.requires.short, c.is_quiet.ensures.no c.if-is_quiet.false, inr (c.in-Ok.name.now, c.in-Ok.rest.now, c.in-Ok.ensures.sound, told.1))), told.2)) c.answer_named.ensures.told
