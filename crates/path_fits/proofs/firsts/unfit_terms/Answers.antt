use Rattle.std.proofs.Common.{◌≡◌, ◌+◌, ◌<◌, ℕ, List, length, get_or, pos, refl, sym, ap, subst, arith}
use Rattle.problem_core.specs.declared.parts.Term.{Term}
use Rattle.problem_core.specs.Layout.{HasStay}
use Rattle.path_lines.proofs.Walking.FirstLines.{zero_is}
use Rattle.path_fits.specs.FirstSums.{DoFitBefore, IsTermsValue, IsUnfitSum}
use Rattle.path_fits.proofs.Beginning.FirstSums.{no_terms_value, none_before, one_more_fits, term_has_stay, value_fits}
use Rattle.path_fits.proofs.firsts.unfit_terms.Goals as goal

abbrev no_term : Term
no_term = record { attr = 0; by = pos 0 }

abbrev same_term : (ts rs : List Term) → ts ≡ rs → (k : ℕ) → get_or rs k no_term ≡ get_or ts k no_term
same_term ts rs same k = ap (λ (us : List Term). get_or us k no_term) (sym same)

pub loop-term-init : goal.loop-term-init
loop-term-init c = record {
  value = no_terms_value c.args.p.now c.args.r.now c.zero-value.result (sym (zero_is c.zero-value.result c.zero-value.ensures.num c.zero-value.ensures.den));
  first = refl;
  fit = none_before c.args.p.now c.args.r.now;
}

pub with_term-requires-clause-stay : goal.with_term-requires-clause-stay
with_term-requires-clause-stay c =
    subst (λ (t : Term). HasStay c.args.p.now.stays t.attr) (same_term c.terms-term-items.result.now c.args.r.now.terms c.terms-term-items.ensures c.loop-term.term-index)
    (term_has_stay c.args.p.now c.args.r.now c.loop-term.term-index no_term c.show_whole.ensures c.requires (subst (λ (ts : List Term). c.loop-term.term-index < length ts) c.terms-term-items.ensures c.loop-term-test.true))

pub returns-in_default-clause-some : goal.returns-in_default-clause-some
returns-in_default-clause-some c =
    let within : c.loop-term.term-index < length c.args.r.now.terms = subst (λ (ts : List Term). c.loop-term.term-index < length ts) c.terms-term-items.ensures c.loop-term-test.true in
    let unfit : IsUnfitSum c.args.p.now c.args.r.now (c.loop-term.term-index + 1) =
    c.in_default.ensures.unfit c.args.r.now c.loop-term.term-index no_term within (same_term c.terms-term-items.result.now c.args.r.now.terms c.terms-term-items.ensures c.loop-term.term-index) c.loop-term.invariant.value in
    record {
      low = omega (arith, c.loop-term.invariant.first);
      high = omega (arith, c.loop-term.invariant.first, within);
      unfit = subst (IsUnfitSum c.args.p.now c.args.r.now) (sym c.loop-term.invariant.first) unfit;
      before = subst (DoFitBefore c.args.p.now c.args.r.now) (sym c.loop-term.invariant.first) c.loop-term.invariant.fit;
    }

pub loop-term-preserved : goal.loop-term-preserved
loop-term-preserved c =
    let within : c.loop-term.term-index < length c.args.r.now.terms = subst (λ (ts : List Term). c.loop-term.term-index < length ts) c.terms-term-items.ensures c.loop-term-test.true in
    let next : IsTermsValue c.args.p.now c.args.r.now (c.loop-term.term-index + 1) c.in-Ok.next =
    c.in-Ok.ensures.next c.args.r.now c.loop-term.term-index no_term within (same_term c.terms-term-items.result.now c.args.r.now.terms c.terms-term-items.ensures c.loop-term.term-index) c.loop-term.invariant.value in
    record {
      value = next;
      first = omega (arith, c.loop-term.invariant.first);
      fit = one_more_fits c.args.p.now c.args.r.now (c.loop-term.term-index + 1) c.loop-term.invariant.fit
          (value_fits c.args.p.now c.args.r.now (c.loop-term.term-index + 1) c.in-Ok.next c.show_whole.ensures (omega (arith, within, c.show_row.ensures.count)) next c.in-Ok.ensures.kept);
    }
