use Rattle.std.proofs.Common.{◌∙◌, List, sym, subst, drop, length}
use Rattle.cert_checker.specs.declared.fronts.Sides.{Sides}
use Rattle.cert_checker.specs.Fronts.{AreFronts, seen_by}
use Rattle.cert_checker.proofs.Certificates.FrontLoops.{written-back}
use Rattle.cert_checker.proofs.fronts.fronts.Goals as goal

pub returns-clause-fronts : goal.returns-clause-fronts
returns-clause-fronts c = λ m are.
    let back = written-back c.enter_levels.new.sides (drop (length c.enter_levels.new.sides) c.in_ok-sides.sides.items) c.in_ok-sides.sides.len (c.enter_levels.auto.sides ∙ c.deref_mut.ensures.len) in
    subst (λ (ss : List Sides). AreFronts c.args.p.now m (seen_by c.args.placed.now) ss) (sym back) (c.enter_levels.ensures m are)
