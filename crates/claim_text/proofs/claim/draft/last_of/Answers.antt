use Rattle.std.proofs.Common.{◌<◌, ◌++◌, ◌∷◌, [], ◌∙◌, length, sym, ap, arith}
use Rattle.std.proofs.lemmas.Bool.Decides.{nat_tests}
use Rattle.problem_core.specs.declared.parts.Level.{Level}
use Rattle.cert_core.specs.Claims.{BestLevel}
use Rattle.claim_text.proofs.Claims.SeenStays.{last_level}
use Rattle.claim_text.proofs.claim.draft.last_of.Goals as goal

pub returns-clause-some : goal.returns-clause-some
returns-clause-some c =
    let some : 0 < length c.args.levels.now = grind (arith, nat_tests) in
    let ends = last_level c.args.levels.now c.index-levels-levels.result some in
    (ends.0, ends.1 ∙ ap (λ (l : Level). ends.0 ++ l ∷ []) (sym (c.level.ensures ∙ ap (λ (l : BestLevel). l.level) c.index-levels-levels.is)))
