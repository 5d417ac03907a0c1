use Rattle.std.proofs.Common.{◌≡◌, ◌-◌, arith, take, ap, sym}
use Rattle.std.specs.VecDeque.{deque_len}
use Rattle.std.proofs.lemmas.List.{take_all}
use Rattle.version_lists.proofs.versions.log.old_log.Goals as goal

pub returns-then-len-eq-VERSION_LIMIT-clause-rest : goal.returns-then-len-eq-VERSION_LIMIT-clause-rest
returns-then-len-eq-VERSION_LIMIT-clause-rest g c =
    let all : deque_len c.args.logs.now ≡ 33 = omega arith in
    rw c.pop_back.ensures.rest (ap (λ k. take (k - 1) c.args.logs.now.items) all)

pub returns-clause-rest : goal.returns-clause-rest
returns-clause-rest g c = sym (take_all 32 c.args.logs.now.items (omega arith))
