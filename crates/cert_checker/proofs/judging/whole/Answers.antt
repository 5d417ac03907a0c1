use Rattle.std.proofs.Common.{get_or}
use Rattle.problem_core.specs.Layout.{lines}
use Rattle.cert_checker.proofs.Indexes.{length-lines}
use Rattle.cert_checker.proofs.Apart.{name-at}
use Rattle.std.proofs.Common.{◌≡◌, ◌∙◌, ℕ, false, pos, ap, sym, arith}
use Rattle.problem_core.specs.declared.parts.RowName.TheVariants.{Held}
use Rattle.cert_checker.proofs.Certificates.Wholes.{whole-under, whole-over}
use Rattle.cert_checker.proofs.judging.whole.Goals as goal

pub returns : goal.returns
returns c = λ m seen known fronts d.
    let unseen : (k : ℕ) → seen c.args.at k ≡ false → m.times k (get_or (lines c.args.p.now) c.args.at d).name ≡ pos 0 =
    λ k u. ap (m.times k) (sym (name-at c.args.p.now c.args.at d (Held 0) (omega (arith, c.requires, length-lines c.args.p.now)))) ∙ known.unseen c.args.at k c.requires u in (
      whole-under m (get_or (lines c.args.p.now) c.args.at d) c.facts_of-facts.result (seen c.args.at) c.args.sides.under c.whole_front.result c.args.sides.own (c.facts_of-facts.ensures.own d) (c.facts_of-facts.ensures.weight d) (c.facts_of-facts.ensures.rel d) (c.facts_of-facts.ensures.scale d) (known.scales c.facts_of-facts.result.own) unseen (fronts d).own_seen (fronts d).below c.whole_front.ensures,
      whole-over m (get_or (lines c.args.p.now) c.args.at d) c.facts_of-facts.result (seen c.args.at) c.args.sides.over c.whole_front-2.result c.args.sides.own (c.facts_of-facts.ensures.own d) (c.facts_of-facts.ensures.weight d) (c.facts_of-facts.ensures.rel d) (c.facts_of-facts.ensures.scale d) (known.scales c.facts_of-facts.result.own) unseen (fronts d).own_seen (fronts d).above c.whole_front-2.ensures,
    )
