use Rattle.std.proofs.Common.{◌++◌, List, ℕ, get_or, length-append, sym, arith, true≢false}
use Rattle.scene_host.specs.Marks.{marked, marked_byte}
use Rattle.scene_host.proofs.MarkedTexts.{front-on, marked-on, room-next}
use Rattle.scene_host.proofs.SceneLemmas.{on_err}
use Rattle.scene_host.proofs.marks.put_marked.Goals as goal

pub loop-byte-preserved : goal.loop-byte-preserved
loop-byte-preserved c = record {
  all = marked-on c.args.before.now c.args.text.now _ c.loop-byte.out.items c.put_byte.new.out.items c.loop-byte.begins c.loop-byte.byte-index 0 c.loop-byte-test.true c.loop-byte.invariant.all c.in_ok-put_byte.ensures.put;
  front = front-on c.args.out.now.items c.loop-byte.out.items c.put_byte.new.out.items c.loop-byte.invariant.front.0 (marked_byte c.args.before.now c.loop-byte.begins (get_or c.args.text.now c.loop-byte.byte-index 0)) c.loop-byte.invariant.front.1 c.in_ok-put_byte.ensures.put;
  grown = omega (arith, c.loop-byte.invariant.grown, c.put_byte.ensures.capacity);
}

pub returns-in_err-put_byte-clause-front : goal.returns-in_err-put_byte-clause-front
returns-in_err-put_byte-clause-front c =
    on_err c.from_residual.result
    (front-on c.args.out.now.items c.loop-byte.out.items c.put_byte.new.out.items c.loop-byte.invariant.front.0 c.in_err-put_byte.ensures.front.0 c.loop-byte.invariant.front.1 c.in_err-put_byte.ensures.front.1)

pub returns-in_err-put_byte-clause-room : goal.returns-in_err-put_byte-clause-room
returns-in_err-put_byte-clause-room c =
    λ enough.
    let all : List ℕ = marked c.args.before.now c.args.text.now in
    let next = room-next c.args.before.now c.args.text.now (c.args.out.now.items ++ all) c.loop-byte.out.items c.loop-byte.begins c.loop-byte.byte-index 0 c.loop-byte-test.true c.loop-byte.invariant.all in
    let count = length-append c.args.out.now.items all in
    absurd (true≢false (sym (c.in_err-put_byte.ensures.room (omega (arith, next, count, enough, c.loop-byte.invariant.grown)))))
