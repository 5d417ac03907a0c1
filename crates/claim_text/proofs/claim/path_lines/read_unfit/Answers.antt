use Rattle.std.proofs.Common.{rules, ◌≡◌, ◌∷◌, drop, ap, sym, ◌∙◌, List, ℕ}
use Rattle.std.specs.Prelude.{codes}
use Rattle.problem_reading.specs.Words.{words}
use Rattle.claim_text.proofs.Paths.PathWords.{no_what}
use Rattle.claim_text.proofs.claim.path_lines.read_unfit.Goals as goal

pub returns-in_err-what_of-clause-none : goal.returns-in_err-what_of-clause-none
returns-in_err-what_of-clause-none c = rw c.from_residual-in_err-what_of.ensures (λ q is same.
    let front : words c.args.line.now ≡ codes "unfit" ∷ c.in_ok-kind.kind.now ∷ c.in_ok-name.name.now ∷ c.next-2.new.self = search rules in
    no_what q c.in_ok-kind.kind.now c.in_ok-name.name.now c.next-2.new.self is (ap (λ (ws : List (List ℕ)). drop 1 ws) (sym front ∙ same)) c.in_err-what_of.ensures.none)
