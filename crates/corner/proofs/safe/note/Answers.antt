use Rattle.std.proofs.Common.{◌≡◌, ◌∙◌, Bool, true, false, Result, Ok, Err, OnOk, sym}
use Rattle.std.specs.Result.{is_err}
use Rattle.corner_table.specs.Tables.{lists_of}
use Rattle.corner.specs.Safe.{AreSafe}
use Rattle.corner.proofs.safe.note.Goals as goal

on-ok : {T E : Type 0} (r : Result T E) (P : Type 0) (b : Bool) → b ≡ is_err r → b ≡ false → OnOk r P → P
on-ok (Ok x) P b e f h = h
on-ok (Err x) P b e f h = absurd (let g : true ≡ false = sym e ∙ f in cc)

pub returns-then-is_err : goal.returns-then-is_err
returns-then-is_err c = c.clear_safe.ensures (lists_of c.args.table.now)

pub returns-else-is_err : goal.returns-else-is_err
returns-else-is_err c =
    on-ok c.look.result (AreSafe (lists_of c.args.table.now) c.look.new.safe) c.is_err.result c.is_err.ensures.value c.if-is_err.false c.look.ensures
