use Rattle.std.proofs.Common.{map, string_bytes}
use Rattle.std.proofs.lemmas.Result.{IfOk-weaker}
use Rattle.claim_writing.specs.Words.{line_of}
use Rattle.claim_writing.specs.PathTexts.{in_line, kind_words, swap_line}
use Rattle.claim_writing.proofs.Texts.{three_parts}
use Rattle.claim_writing.proofs.claim.path_writer.put_path.Goals as goal

pub returns : goal.returns
returns c = IfOk-weaker c.put_swaps.result _ _ (λ _ swaps.
    three_parts (string_bytes c.args.text.now) (string_bytes c.put_kind.new.text) (string_bytes c.put_corner.new.text) (string_bytes c.put_swaps.new.text)
    (line_of (kind_words c.args.path.now.dual)) (map in_line c.args.path.now.corner) (map swap_line c.args.path.now.swaps)
    (rw c.dual.ensures at c.in_ok-put_kind.ensures) (rw c.corner.ensures at c.in_ok-put_corner.ensures) (rw c.swaps.ensures at swaps)) c.put_swaps.ensures
