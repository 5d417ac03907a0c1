use Rattle.std.proofs.Common.{◌≡◌, ◌≤◌, ◌+◌, ◌-◌, ◌∙◌, ap, pos, length, arith}
use Rattle.problem_core.specs.Layout.{Line}
use Rattle.cert_checker.proofs.Certificates.Columns.{stay-line}
use Rattle.cert_checker.proofs.fronts.facts_of.Goals as goal

pub returns : goal.returns
returns c =
    let past : length c.args.p.now.rows ≤ c.args.at = rw c.rows-rows.ensures at c.if-at-rows.false in
    rw c.rows-rows.ensures (record {
      own = λ d. stay-line (λ (l : Line). l.level) c.args.p.now c.args.at d past c.requires ∙ (let e : 1001 + (c.args.at - length c.args.p.now.rows) ≡ 1001 + c.args.at - length c.args.p.now.rows = omega (arith, past) in e);
      weight = λ d. stay-line (λ (l : Line). l.weight) c.args.p.now c.args.at d past c.requires;
      rel = λ d. stay-line (λ (l : Line). l.rel) c.args.p.now c.args.at d past c.requires;
      scale = λ d. ap pos (stay-line (λ (l : Line). l.scale) c.args.p.now c.args.at d past c.requires);
      scale_fits = omega arith;
      weight_fits = omega arith;
    })
