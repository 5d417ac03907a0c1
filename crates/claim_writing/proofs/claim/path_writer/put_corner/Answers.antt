use Rattle.std.proofs.Common.{string_bytes}
use Rattle.problem_core.specs.declared.parts.RowName.TheVariants.{Held}
use Rattle.problem_core.specs.declared.parts.Side.TheVariants.{Under}
use Rattle.claim_writing.specs.PathTexts.{in_line}
use Rattle.claim_writing.proofs.Texts.{text_more}
use Rattle.claim_writing.proofs.claim.path_writer.put_corner.Goals as goal

pub loop-mark-preserved : goal.loop-mark-preserved
loop-mark-preserved c =
    text_more in_line (string_bytes c.put_in.new.text) (string_bytes c.args.text.now) (string_bytes c.loop-mark.text) c.args.marks.now c.loop-mark.mark-index (record { row = Held 0; side = Under }) c.loop-mark-test.true c.loop-mark.invariant c.in_ok-put_in.ensures
