use Rattle.std.proofs.Common.{string_bytes}
use Rattle.claim_writing.specs.PathTexts.{path_lines, unfit_lines}
use Rattle.claim_writing.proofs.Texts.{problem_text_is}
use Rattle.claim_writing.proofs.claim.path_writer.path_claim_apart.Goals as goal

pub returns : goal.returns
returns c =
    problem_text_is (string_bytes c.in_ok-text.text) (string_bytes c.put_unfit_lines.new.text) (path_lines c.args.path.now) (unfit_lines c.args.unfit) c.in_ok-text.ensures c.in_ok-put_unfit_lines.ensures
