use Rattle.std.proofs.Common.{Result, Ok, Err, OnOk, subst, sym}
use Rattle.problem_core.specs.declared.parts.Side.{Side}
use Rattle.corner_table.specs.Reads.Listing.{IsListed}
use Rattle.corner.specs.Safe.{IsNoted}
use Rattle.corner.proofs.Safety.{noted_over, noted_under}
use Rattle.corner.proofs.safe.push.Goals as goal

on-ok-with : {T E : Type 0} (r : Result T E) (P Q : Type 0) → (P → Q) → OnOk r P → OnOk r Q
on-ok-with (Ok x) P Q f p = f p
on-ok-with (Err e) P Q f p = tt

pub returns-in-Under : goal.returns-in-Under
returns-in-Under c =
    on-ok-with c.push.result (IsListed c.args.line c.args.sides.now.under c.push.new.self) (IsNoted c.args.line c.args.side c.args.sides.now (record { under = c.push.new.self; over = c.args.sides.now.over }))
    (λ h. subst (λ (d : Side). IsNoted c.args.line d c.args.sides.now (record { under = c.push.new.self; over = c.args.sides.now.over })) (sym c.in-Under.is) (noted_under c.args.line c.args.sides.now c.push.new.self h))
    c.push.ensures

pub returns-in-Over : goal.returns-in-Over
returns-in-Over c =
    on-ok-with c.push-in-Over.result (IsListed c.args.line c.args.sides.now.over c.push-in-Over.new.self) (IsNoted c.args.line c.args.side c.args.sides.now (record { under = c.args.sides.now.under; over = c.push-in-Over.new.self }))
    (λ h. subst (λ (d : Side). IsNoted c.args.line d c.args.sides.now (record { under = c.args.sides.now.under; over = c.push-in-Over.new.self })) (sym c.in-Over.is) (noted_over c.args.line c.args.sides.now c.push-in-Over.new.self h))
    c.push-in-Over.ensures
