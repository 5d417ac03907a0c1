use Rattle.std.proofs.Common.{◌≡◌, ◌∷◌, List, ℕ, drop}
use Rattle.std.specs.Str.Lines.{lines}
use Rattle.std.proofs.lemmas.List.{take_rest}
use Rattle.claim_text.specs.Cut.{ok_line}
use Rattle.claim_text.proofs.CutPlaces.{ok_missing, not_so}
use Rattle.claim_text.proofs.cut.without_ok.Goals as goal

pub returns-else-is_ok_line-clause-without : goal.returns-else-is_ok_line-clause-without
returns-else-is_ok_line-clause-without c =
    ok_missing c.args.text.now c.last_line_start-at.result c.last_line_start-at.ensures
    (not_so (λ (more : List (List ℕ)). lines (drop c.last_line_start-at.result c.args.text.now) ≡ ok_line ∷ more) c.is_ok_line.result c.if-is_ok_line.false (rw (take_rest c.args.text.now c.last_line_start-at.result) at c.is_ok_line.ensures.no))
