use Rattle.std.proofs.Common.{string_bytes, map, codes, ◌++◌, ◌∷◌, []}
use Rattle.std.proofs.lemmas.Result.{IfOk-weaker}
use Rattle.claim_writing.specs.Words.{line_of}
use Rattle.claim_writing.specs.Lines.{text_of_lines}
use Rattle.claim_writing.specs.ClaimLines.{value_line, best_words, lines_of_levels, best_lines}
use Rattle.claim_writing.proofs.Texts.{text_of_lines-append}
use Rattle.claim_writing.proofs.LevelTexts.{best_put}
use Rattle.claim_writing.proofs.claim.writer.put_best.Goals as goal

pub returns : goal.returns
returns c = IfOk-weaker c.put_levels.result _ _ (λ _ levels.
    best_put (string_bytes c.args.text.now) (string_bytes c.put_values.new.text) (string_bytes c.writeln.new.self) (string_bytes c.put_levels.new.text)
    (text_of_lines (map value_line c.args.values.now)) (codes "best" ++ 10 ∷ []) (text_of_lines (lines_of_levels c.args.best.now)) (text_of_lines (best_lines c.args.values.now c.args.best.now))
    (rw c.pairs.ensures at c.in_ok-put_values.ensures) c.in_ok-writeln.ensures.bytes (rw c.levels.ensures.value at levels)
    (text_of_lines-append (map value_line c.args.values.now) (line_of best_words ∷ lines_of_levels c.args.best.now))) c.put_levels.ensures
