use Rattle.std.proofs.Common.{rules, ◌≡◌, true, Result, Ok, Err, OnOk}
use Rattle.corner_table.specs.Tables.{lists_of}
use Rattle.corner.specs.Safe.{AreSafe, IsNoted}
use Rattle.corner.proofs.Safety.{noted_safe}
use Rattle.corner.proofs.safe.look.Goals as goal

on-ok-with : {T E : Type 0} (r : Result T E) (P Q : Type 0) → (P → Q) → OnOk r P → OnOk r Q
on-ok-with (Ok x) P Q f p = f p
on-ok-with (Err e) P Q f p = tt

pub returns : goal.returns
returns c =
    let yes : c.is_dear.result ≡ true = search rules in
    on-ok-with c.push-2.result (IsNoted c.args.line c.args.side c.args.safe.now.dear c.push-2.new.sides)
    (AreSafe (lists_of c.args.table.now) (record { dear = c.push-2.new.sides; seen = c.push.new.sides }))
    (λ noted. noted_safe (lists_of c.args.table.now) c.args.line c.args.side c.args.safe.now (record { dear = c.push-2.new.sides; seen = c.push.new.sides })
    (c.is_dear.ensures yes) noted c.requires.safe)
    c.push-2.ensures
