use Rattle.std.proofs.Common.{rules, ◌≡◌, ◌≤◌, length, take, sym, arith}
use Rattle.std.proofs.lemmas.Result.{err_from_is_err_and}
use Rattle.edge_io.proofs.Buffers.{grown, kept}
use Rattle.edge_io.proofs.feed.pull_behind.Goals as goal

pub returns-in_err-count-clause-err : goal.returns-in_err-count-clause-err
returns-in_err-count-clause-err g c =
    let within : c.args.len ≤ length c.args.buffer.now = omega (arith, c.requires.within) in
    let p = err_from_is_err_and c.from_residual.result c.from_residual.ensures.1 in
    rw p.1 (kept c.args.buffer.now c.pull.new.buf 0 c.args.len _ (omega arith) within, c.in_err-count.ensures.bytes)

pub returns-clause-ok : goal.returns-clause-ok
returns-clause-ok g c =
    let n = c.in_ok-count.count in
    let within : c.args.len ≤ length c.args.buffer.now = omega (arith, c.requires.within) in
    let bound = c.in_ok-count.ensures.bound in
    let size : length c.pull.new.buf ≡ c.args.room = search rules in (
      omega (arith, size, bound.0),
      (
        take n c.pull.new.buf,
        sym bound.1,
        grown c.args.buffer.now c.pull.new.buf 0 c.args.len _ n (omega arith) within bound.0,
        c.in_ok-count.ensures.bytes.0,
        λ none. c.in_ok-count.ensures.bytes.1 none (omega (arith, size, c.requires.some)),
      ),
    )
