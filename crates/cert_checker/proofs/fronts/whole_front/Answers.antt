use Rattle.std.proofs.Common.{◌<◌, ◌∙◌, sym, arith}
use Rattle.cert_checker.proofs.Certificates.FrontLoops.{front-own}
use Rattle.cert_checker.proofs.fronts.whole_front.Goals as goal

pub returns-then-named : goal.returns-then-named
returns-then-named c = λ f seen e own h. front-own f seen c.args.facts.now.own c.args.front (sym e ∙ c.if-named.true) h

pub returns : goal.returns
returns c =
    let above : 0 < c.weight_of.result = omega (arith, c.if-weight_of-eq0.false) in
    λ f seen e own h. c.keep_above.ensures f seen ((own (sym e ∙ c.if-named.false)).costed (rw (sym c.weight_of.ensures) above)) h
