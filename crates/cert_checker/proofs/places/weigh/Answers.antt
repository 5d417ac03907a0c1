use Rattle.std.proofs.Common.{◌≡◌, get_or, ap, pos, ◌++◌, ◌∷◌, [], SFits}
use Rattle.std.specs.Int.{w64}
use Rattle.std.proofs.lemmas.Int.{to_z-of_z}
use Rattle.problem_core.specs.declared.parts.RowName.{RowName}
use Rattle.problem_core.specs.declared.parts.RowName.TheVariants.{Held}
use Rattle.cert_core.specs.declared.by.By.{By}
use Rattle.cert_checker.specs.declared.sums.Weighted.{Weighted}
use Rattle.cert_checker.specs.LinePlaces.{by_at}
use Rattle.cert_checker.proofs.Written.Weighing.{weighed-more}
use Rattle.cert_checker.proofs.places.weigh.Goals as goal
use Rattle.frac_core.proofs.Fitting.{fits-word as fits-w64}

none : By
none = record { row = Held 0; times = pos 0 }

pub returns-in_default-clause-none : goal.returns-in_default-clause-none
unfolding none
returns-in_default-clause-none c = λ all. c.in_default.ensures.none (all c.loop-line.line-index none c.loop-line-test.true)

pub loop-line-preserved : goal.loop-line-preserved
unfolding none
loop-line-preserved c =
    let fits : SFits w64 (get_or c.args.by.now c.loop-line.line-index none).times = fits-w64 _ (c.requires.by.fitting c.loop-line.line-index none c.loop-line-test.true) in
    let w : Weighted = record { at = c.in-Some.at; times = (get_or c.args.by.now c.loop-line.line-index none).times } in
    let items : c.push.new.self.items ≡ c.loop-line.weighted.items ++ w ∷ [] = simp (to_z-of_z, fits) at c.in_ok-push.ensures.items in
    let is : by_at c.args.p.now w ≡ get_or c.args.by.now c.loop-line.line-index none =
    ap (λ (row : RowName). let b : By = record { row = row; times = (get_or c.args.by.now c.loop-line.line-index none).times } in b) c.in-Some.ensures.some.1 in
    rw items (weighed-more c.args.p.now c.args.by.now c.loop-line.line-index none c.loop-line.weighted.items w c.loop-line-test.true c.loop-line.invariant c.in-Some.ensures.some.0 is)
