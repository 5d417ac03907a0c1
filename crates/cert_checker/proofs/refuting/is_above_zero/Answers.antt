use Rattle.cert_checker.proofs.Refuted.{room-from, room-lost, above-zero, rows-count, required-fit, test-above, above-test}
use Rattle.std.proofs.Common.{pos, ◌<ℤ◌, subst, sym, SFits}
use Rattle.std.specs.Int.{w128}
use Rattle.std.proofs.lemmas.Int.{to_z-of_z}
use Rattle.std.proofs.lemmas.Result.{err_from_is_err_and}
use Rattle.cert_checker.proofs.Written.Naming.{required-named}
use Rattle.cert_checker.proofs.refuting.is_above_zero.Goals as goal

pub constants-requires-clause-rows : goal.constants-requires-clause-rows
constants-requires-clause-rows c = required-fit c.args.p.now c.args.by.now c.args.weighted.now c.requires.weighted c.requires.by c.requires.rows

pub constants-requires-clause-count : goal.constants-requires-clause-count
constants-requires-clause-count c = rows-count c.args.p.now c.show_whole.ensures c.args.by.now c.args.weighted.now c.requires.weighted c.requires.by c.requires.rows

pub returns-clause-room : goal.returns-clause-room
returns-clause-room c =
    room-from c.args.p.now c.show_whole.ensures c.args.by.now c.args.weighted.now c.requires.weighted c.in_ok-common.common c.in_ok-common.ensures.room c.in_ok-common.ensures.least

pub returns-clause-above : goal.returns-clause-above
returns-clause-above c =
    let both = above-zero c.args.p.now c.show_whole.ensures c.args.by.now c.args.weighted.now c.requires.weighted (required-named c.args.p.now c.args.by.now c.args.weighted.now c.requires.weighted c.requires.rows) c.requires.rows c.in_ok-common.common c.in_ok-common.ensures.least.above c.in_ok-common.ensures.least.common in
    let fits : SFits w128 c.constants.result = record { sfits = c.constants.type_inv } in
    simp to_z-of_z (
      λ h. both.1 (subst (λ z. pos 0 <ℤ z) c.constants.ensures (test-above c.constants.result h)),
      λ h. above-test c.constants.result (subst (λ z. pos 0 <ℤ z) (sym c.constants.ensures) (both.0 h)),
    )

pub returns-in_err-common-clause-lost : goal.returns-in_err-common-clause-lost
returns-in_err-common-clause-lost c =
    let exit = err_from_is_err_and c.from_residual.result c.from_residual.ensures.1 in
    rw (exit.1, exit.2) (room-lost c.args.p.now c.show_whole.ensures c.args.by.now c.args.weighted.now c.requires.weighted c.requires.rows c.in_err-common.field-0.0 c.in_err-common.ensures.reached)
