use Rattle.make_script.proofs.Parts.{script_is}
use Rattle.make_script.proofs.script.put_script.Goals as goal

pub returns : goal.returns
returns c = script_is _ _ _ _ _ _ _ _ _ _ _ _ _ _ _ c.saturating_sub-others.ensures c.in_ok-sized.ensures.state c.in_ok-stacked.ensures.state c.in_ok-widened.ensures.state
    c.in_ok-push_str.ensures.bytes c.in_ok-put_part.ensures.text c.in_ok-sized.ensures.text c.in_ok-stacked.ensures.text c.in_ok-widened.ensures.text
    c.in_ok-push_str-2.ensures.bytes c.in_ok-put_part-2.ensures.text c.in_ok-push_str-3.ensures.bytes
