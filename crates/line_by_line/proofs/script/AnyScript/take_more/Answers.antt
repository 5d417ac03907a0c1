use Rattle.std.proofs.Common.{◌≡◌, ◌≤◌, length, max, arith}
use Rattle.line_by_line.proofs.Talks.{one_byte}
use Rattle.line_by_line.proofs.script.AnyScript.take_more.Goals as goal

pub returns-in-Ok-clause-too_long : goal.returns-in-Ok-clause-too_long
returns-in-Ok-clause-too_long g c =
    let ok = c.in-Ok.ensures.ok in
    let over = c.if-count-room.true in
    let most : c.in-Ok.count ≤ max c.args.room.now 1 = simp c.max.ensures at ok.few in
    let none : c.args.room.now ≡ 0 = omega (arith, most, over) in
    let one : length ok.bytes ≡ 1 = omega (arith, most, over, none, ok.counted) in
    λ _. (none, one_byte _ _ ok.bytes one ok.taken)
