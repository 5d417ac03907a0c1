use Rattle.std.proofs.Common.{arith, [], List, ℕ, drop, sym, ap, ◌∙◌}
use Rattle.claim_text.proofs.Paths.PathWords.{no_part_word, two_parts, counted}
use Rattle.claim_text.proofs.claim.path_lines.quantity_of.Goals as goal

pub returns-in_err-first-clause-none : goal.returns-in_err-first-clause-none
returns-in_err-first-clause-none c = rw c.from_residual.ensures (λ q is same.
    let one = counted q c.in-Some.word.now c.next.new.self is (sym c.in-Some.ensures ∙ (two_parts q c.args.what c.args.words.now same).1) in
    c.in_err-first.ensures.none one.0 [] (omega (arith, one.1.0)) (omega (arith, one.1.1)) (ap (λ (ws : List (List ℕ)). drop 1 ws) one.2))

pub returns-in_err-part_of-clause-none : goal.returns-in_err-part_of-clause-none
returns-in_err-part_of-clause-none c = rw c.from_residual-in_err-part_of.ensures (λ q is same.
    no_part_word q c.args.what c.in-Some.word.now c.args.words.now c.next.new.self c.in-Some.ensures same c.in_err-part_of.ensures.none)
