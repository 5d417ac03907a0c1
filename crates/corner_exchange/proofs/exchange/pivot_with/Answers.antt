use Rattle.std.proofs.Common.{rules, SFits, w64, ◌*ℤ◌, ◌∙◌, pos, sym, subst}
use Rattle.std.proofs.lemmas.Int.{to_z-of_z}
use Rattle.std.proofs.lemmas.Result.{err_from_is_err_and}
use Rattle.frac_core.specs.Fraction.{IsFitting}
use Rattle.problem_core.specs.Changes.Stops.{TableStop}
use Rattle.corner_view.specs.Stops.{IsUnfitStop}
use Rattle.corner_exchange.specs.Swaps.Exchanges.{marks_after}
use Rattle.corner_table.specs.Tables.{lists_of, problem_of}
use Rattle.corner_exchange.proofs.Pivots.PivotFacts.{enter_within, entering_large}
use Rattle.corner_exchange.proofs.exchange.pivot_with.Goals as goal

pub check_stay-requires-clause-within : goal.check_stay-requires-clause-within
check_stay-requires-clause-within c = enter_within (lists_of c.args.table.now) c.args.pair c.requires.pair.swap c.requires.pair.kept.slots c.requires.pair.is

pub returns-in_err-check_stay-clause-stop : goal.returns-in_err-check_stay-clause-stop
returns-in_err-check_stay-clause-stop c =
    let exit = err_from_is_err_and c.from_residual.result c.from_residual.ensures.1 in
    let fits : SFits w64 c.args.by = search rules in
    let large : IsFitting (pos 2 *ℤ c.args.by) → ⊥ = simp to_z-of_z at c.in_err-check_stay.ensures.unfit in
    rw (exit.1, exit.2) (λ s are.
    let h = entering_large (lists_of c.args.table.now) c.args.pair s c.args.value c.requires.pair.kept are (c.requires.entering s are) c.requires.lowest c.in_err-check_stay.ensures.stay
    (λ f. large (subst (λ z. IsFitting (pos 2 *ℤ z)) (sym c.requires.by) f)) in
    subst (λ (e : TableStop). IsUnfitStop (problem_of (lists_of c.args.table.now)) (marks_after (lists_of c.args.table.now) s) e) (sym (c.in_err-check_stay.ensures.stop h.0 h.1)) h.2)

pub returns-clause-ok : goal.returns-clause-ok
returns-clause-ok c =
    let fits : SFits w64 c.args.by = search rules in
    let e = to_z-of_z w64 c.args.by fits in
    λ s are. record {
      pair = are;
      by = e ∙ c.requires.by;
      fits = subst IsFitting (sym e) c.requires.fits;
      line = c.requires.entering s are;
      lowest = c.requires.lowest;
      room = c.in_ok-check_stay.ensures.ok;
    }
