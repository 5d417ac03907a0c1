use Rattle.std.proofs.Common.{◌<◌, length, refl, arith}
use Rattle.std.proofs.lemmas.Bool.Decides.{nat_tests}
use Rattle.problem_core.specs.declared.parts.RowName.TheVariants.{Held}
use Rattle.problem_core.specs.declared.parts.Side.TheVariants.{Under}
use Rattle.problem_core.specs.declared.parts.Mark.{Mark}
use Rattle.claim_text.proofs.Claims.SeenStays.{rows_behind}
use Rattle.claim_text.proofs.claim.order.are_marks_before.Goals as goal

pub returns : goal.returns
returns c =
    let some : 0 < length c.args.marks.now = grind (arith, nat_tests) in
    let behind = rows_behind (λ (m : Mark). m.row) c.args.marks.now (record { row = Held 0; side = Under }) c.args.keys.now _ c.args.row some c.requires.order c.requires.keys refl in
    (λ yes. behind.0 (c.may_stand_behind.ensures.0 yes), λ all. c.may_stand_behind.ensures.1 (behind.1 all))
