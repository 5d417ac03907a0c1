use Rattle.std.proofs.Common.{string_bytes, pos}
use Rattle.problem_core.specs.declared.parts.RowName.TheVariants.{Held}
use Rattle.claim_writing.specs.ClaimLines.{by_line}
use Rattle.claim_writing.proofs.Texts.{text_more}
use Rattle.claim_writing.proofs.claim.writer.put_bys.Goals as goal

pub loop-by-preserved : goal.loop-by-preserved
loop-by-preserved c =
    text_more by_line (string_bytes c.put_by.new.text) (string_bytes c.args.text.now) (string_bytes c.loop-by.text) c.args.bys.now c.loop-by.by-index (record { row = Held 0; times = pos 0 }) c.loop-by-test.true c.loop-by.invariant c.in_ok-put_by.ensures
