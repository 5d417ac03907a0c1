use Rattle.std.proofs.Common.{refl, inl, inr}
use Rattle.cert_checker.proofs.Refuted.{signs-from, signs-back}
use Rattle.cert_checker.proofs.refuting.judge.Goals as goal
use Rattle.frac_core.proofs.Bools.{not-both as no_both}

pub returns-then-not-branch : goal.returns-then-not-branch
returns-then-not-branch c = inl (refl, λ h. no_both c.in_ok-cancels.field-0 (c.in_ok-cancels.ensures.cancels.1 h) c.if-not-branch.true)

pub returns-then-not-are_signed : goal.returns-then-not-are_signed
returns-then-not-are_signed c =
    inr (inl (
      refl,
      c.in_ok-cancels.ensures.cancels.0 c.if-not-branch.false,
      λ h. no_both c.are_signed.result (c.are_signed.ensures.1 (signs-back c.args.p.now c.show_whole.ensures c.args.by.now c.args.weighted.now c.requires.weighted c.requires.by (c.in_ok-cancels.ensures.rows c.if-not-branch.false) h)) c.if-not-are_signed.true,
    ))

pub returns-in-Ok-true : goal.returns-in-Ok-true
returns-in-Ok-true c =
    let signed = signs-from c.args.p.now c.show_whole.ensures c.args.by.now c.args.weighted.now c.requires.weighted c.requires.by (c.are_signed.ensures.0 c.if-not-are_signed.false) in
    (c.in_ok-cancels.ensures.cancels.0 c.if-not-branch.false, signed, c.in-Ok-true.ensures.room, c.in-Ok-true.ensures.above.0 c.in-Ok-true.field-0-test)

pub returns-in-Ok-false : goal.returns-in-Ok-false
returns-in-Ok-false c =
    let signed = signs-from c.args.p.now c.show_whole.ensures c.args.by.now c.args.weighted.now c.requires.weighted c.requires.by (c.are_signed.ensures.0 c.if-not-are_signed.false) in
    inr (inr (
      refl,
      c.in_ok-cancels.ensures.cancels.0 c.if-not-branch.false,
      signed,
      c.in-Ok-false.ensures.room,
      λ h. no_both c.in-Ok-false.field-0 (c.in-Ok-false.ensures.above.1 h) c.in-Ok-false.field-0-test,
    ))

pub returns-in-Err : goal.returns-in-Err
returns-in-Err c =
    let signed = signs-from c.args.p.now c.show_whole.ensures c.args.by.now c.args.weighted.now c.requires.weighted c.requires.by (c.are_signed.ensures.0 c.if-not-are_signed.false) in
    (c.in_ok-cancels.ensures.cancels.0 c.if-not-branch.false, signed, c.in-Err.ensures.lost)
