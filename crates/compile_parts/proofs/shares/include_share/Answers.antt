use Rattle.compile_parts.proofs.NoParts.{no_part}
use Rattle.compile_parts.proofs.shares.include_share.Goals as goal

pub returns-clause-off : goal.returns-clause-off
returns-clause-off c = λ v off.
    let last = c.in_ok-include_part-2.ensures.off v off in
    let first = c.in_ok-include_part.ensures.off v last.0 in
    (first.0, no_part v c.args.share.now.by.num c.args.share.now.of.edge c.args.share.now.of.size first.1 last.1)
