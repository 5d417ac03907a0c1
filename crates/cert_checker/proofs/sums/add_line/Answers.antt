use Rattle.std.proofs.Common.{◌≡◌, pos, [], ◌∷◌, sym, ap, ◌∙◌}
use Rattle.std.proofs.lemmas.Int.{to_z-of_z}
use Rattle.problem_core.specs.declared.parts.Term.{Term}
use Rattle.problem_core.specs.declared.parts.Stay.{Stay}
use Rattle.problem_core.specs.Layout.{Row}
use Rattle.cert_checker.specs.LineSums.{form_at}
use Rattle.cert_checker.proofs.LinePlaces.{form-row, form-stay}
use Rattle.cert_checker.proofs.sums.add_line.Goals as goal

pub returns-then-at-rows-clause-sums : goal.returns-then-at-rows-clause-sums
returns-then-at-rows-clause-sums c =
    let form : form_at c.args.p.now c.args.at ≡ c.terms.result.now =
    form-row c.args.p.now c.args.at c.index-rows-at.result (rw c.rows-rows.ensures at c.if-at-rows.true)
    ∙ ap (λ (r : Row). r.terms) (rw c.rows-rows.ensures at (sym c.index-rows-at.is)) ∙ sym c.terms.ensures in
    rw form (simp (to_z-of_z, c.ranges.times) at c.add_terms.ensures.sums)

pub returns-clause-sums : goal.returns-clause-sums
returns-clause-sums c =
    let form : form_at c.args.p.now c.args.at ≡ record { attr = c.index-stays-at.result.attr; by = pos 1 } ∷ [] =
    form-stay c.args.p.now c.args.at c.index-stays-at.result (rw c.rows-rows.ensures at c.if-at-rows.false) c.requires.at
    ∙ ap (λ (s : Stay). let t : Term = record { attr = s.attr; by = pos 1 } in t ∷ []) (rw (c.rows-rows.ensures, c.stays.ensures) at (sym c.index-stays-at.is)) in
    rw form (simp (to_z-of_z, c.ranges.times) at c.add_terms-2.ensures.sums)
