use Rattle.std.proofs.Common.{rules, ◌≡◌, ◌∷◌, List, ℕ, drop, ap, sym, ◌∙◌}
use Rattle.std.specs.Prelude.{codes}
use Rattle.problem_reading.specs.Words.{words}
use Rattle.claim_writing.specs.PathTexts.{mark_text}
use Rattle.claim_text.proofs.Paths.PathWords.{no_leave}
use Rattle.claim_text.proofs.claim.path_lines.read_swap.Goals as goal

pub returns-in_err-enter-clause-none : goal.returns-in_err-enter-clause-none
returns-in_err-enter-clause-none c = rw c.from_residual.ensures (λ s is same.
    let front : words c.args.line.now ≡ codes "swap" ∷ c.next_is.new.words = search rules in
    c.in_err-enter.ensures.none s.enter _ is.enter (ap (λ (ws : List (List ℕ)). drop 1 ws) (sym front ∙ same)))

pub returns-in_err-leave-clause-none : goal.returns-in_err-leave-clause-none
returns-in_err-leave-clause-none c = rw c.from_residual-in_err-leave.ensures (λ s is same.
    let front : words c.args.line.now ≡ codes "swap" ∷ c.next_is.new.words = search rules in
    c.in_err-leave.ensures.none s.leave _ is.leave (no_leave (words c.args.line.now) c.next_is.new.words c.next_mark.new.words (mark_text c.in_ok-enter.enter) s front c.in_ok-enter.ensures.some.1 same))
