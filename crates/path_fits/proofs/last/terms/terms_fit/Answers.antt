use Rattle.std.proofs.Common.{◌≡◌, ◌∙◌, ◌+◌, ◌<◌, ◌≤◌, ℕ, pos, [], List, length, get_or, true, false, sym, ap, subst, rules, arith}
use Rattle.std.proofs.lemmas.List.{get_or_default}
use Rattle.problem_core.specs.declared.parts.Rel.TheVariants.{Eq}
use Rattle.problem_core.specs.declared.parts.Term.{Term}
use Rattle.problem_core.specs.Layout.{Row}
use Rattle.problem_core.specs.Corners.{IsIn, place}
use Rattle.problem_core.specs.Unfit.{AreOverFrom, over_mark}
use Rattle.path_lines.specs.Exchanges.Pivots.{next_marks}
use Rattle.path_lines.proofs.Iffs.{right_then, wrong_then}
use Rattle.path_lines.proofs.Exchanges.Leading.{ok_then}
use Rattle.path_fits.specs.TermSums.{AreKnownTerms, AreOverAt, IsRowFit}
use Rattle.path_fits.proofs.LastCorner.RowsOver.{fit_named, named_row, over_at, over_from}
use Rattle.path_fits.proofs.last.terms.terms_fit.Goals as goal

abbrev any : Row
any = record { id = 0; rank = 0; weight = 0; rel = Eq; scale = 1; constant = record { num = pos 0; den = 1 }; terms = [] }

pub returns-then-not-are_over_from : goal.returns-then-not-are_over_from
returns-then-not-are_over_from c = λ marks turn lines attrs unfit.
    let down : c.are_over_from.result ≡ false = search rules in
    let within : c.in-Some.at < length c.args.case.p.now.rows = subst (λ (rs : List Row). c.in-Some.at < length rs) c.rows-rows.ensures c.in-Some.ensures.within in
    let r : Row = get_or c.args.case.p.now.rows c.in-Some.at any in
    let here : get_or c.args.case.p.now.rows c.in-Some.at (get_or c.args.case.p.now.rows c.in-Some.at any) ≡ get_or c.args.case.p.now.rows c.in-Some.at any = get_or_default c.args.case.p.now.rows c.in-Some.at (get_or c.args.case.p.now.rows c.in-Some.at any) any within in
    let named : over_mark (get_or c.args.case.p.now.rows c.in-Some.at any).id ≡ c.args.sum.mark = subst (λ (rs : List Row). over_mark (get_or rs c.in-Some.at any).id ≡ c.args.sum.mark) c.rows-rows.ensures (c.in-Some.ensures.found any) in
    wrong_then c.are_over_from.result down (c.are_over_from.ensures c.args.case.p.now marks turn lines)
    (subst (λ (rs : List Row). AreOverAt c.args.case.p.now (next_marks c.args.case.p.now c.args.case.pivot.now marks) c.in-Some.at (length rs)) (sym c.rows-rows.ensures)
    (over_at c.args.case.p.now (next_marks c.args.case.p.now c.args.case.pivot.now marks) c.in-Some.at (get_or c.args.case.p.now.rows c.in-Some.at any) c.show_whole.ensures within here
    (named_row c.args.case.p.now (next_marks c.args.case.p.now c.args.case.pivot.now marks) c.args.sum.mark c.args.sum.first c.in-Some.at (get_or c.args.case.p.now.rows c.in-Some.at any) c.show_whole.ensures within here named unfit).0))

pub some_fit-requires-clause-terms : goal.some_fit-requires-clause-terms
some_fit-requires-clause-terms c =
    let within : c.in-Some.at < length c.args.case.p.now.rows = subst (λ (rs : List Row). c.in-Some.at < length rs) c.rows-rows.ensures c.in-Some.ensures.within in
    let here : get_or c.args.case.p.now.rows c.in-Some.at c.index-rows-at.result ≡ c.index-rows-at.result = sym (c.index-rows-at.is ∙ ap (λ (rs : List Row). get_or rs c.in-Some.at c.index-rows-at.result) c.rows-rows.ensures) in
    let named : over_mark c.index-rows-at.result.id ≡ c.args.sum.mark = ap (λ (s : Row). over_mark s.id) c.index-rows-at.is ∙ c.in-Some.ensures.found c.index-rows-at.result in
    let terms : length c.terms.result.now ≡ length c.index-rows-at.result.terms = ap (λ (ts : List Term). length ts) c.terms.ensures in
    subst (λ (s : Row). AreKnownTerms c.args.case.p.now s.terms) here (λ k d less. ((c.show_whole.ensures.rows c.in-Some.at c.index-rows-at.result within).terms k d less, c.show_whole.ensures.covered c.in-Some.at c.index-rows-at.result within k d less))

pub whole_fit-requires-clause-terms : goal.whole_fit-requires-clause-terms
whole_fit-requires-clause-terms c =
    let within : c.in-Some.at < length c.args.case.p.now.rows = subst (λ (rs : List Row). c.in-Some.at < length rs) c.rows-rows.ensures c.in-Some.ensures.within in
    let here : get_or c.args.case.p.now.rows c.in-Some.at c.index-rows-at.result ≡ c.index-rows-at.result = sym (c.index-rows-at.is ∙ ap (λ (rs : List Row). get_or rs c.in-Some.at c.index-rows-at.result) c.rows-rows.ensures) in
    let named : over_mark c.index-rows-at.result.id ≡ c.args.sum.mark = ap (λ (s : Row). over_mark s.id) c.index-rows-at.is ∙ c.in-Some.ensures.found c.index-rows-at.result in
    let terms : length c.terms.result.now ≡ length c.index-rows-at.result.terms = ap (λ (ts : List Term). length ts) c.terms.ensures in
    subst (λ (s : Row). AreKnownTerms c.args.case.p.now s.terms) here (λ k d less. ((c.show_whole.ensures.rows c.in-Some.at c.index-rows-at.result within).terms k d less, c.show_whole.ensures.covered c.in-Some.at c.index-rows-at.result within k d less))

pub returns-then-first-count : goal.returns-then-first-count
returns-then-first-count c =
    let within : c.in-Some.at < length c.args.case.p.now.rows = subst (λ (rs : List Row). c.in-Some.at < length rs) c.rows-rows.ensures c.in-Some.ensures.within in
    let here : get_or c.args.case.p.now.rows c.in-Some.at c.index-rows-at.result ≡ c.index-rows-at.result = sym (c.index-rows-at.is ∙ ap (λ (rs : List Row). get_or rs c.in-Some.at c.index-rows-at.result) c.rows-rows.ensures) in
    let named : over_mark c.index-rows-at.result.id ≡ c.args.sum.mark = ap (λ (s : Row). over_mark s.id) c.index-rows-at.is ∙ c.in-Some.ensures.found c.index-rows-at.result in
    let terms : length c.terms.result.now ≡ length c.index-rows-at.result.terms = ap (λ (ts : List Term). length ts) c.terms.ensures in
    ok_then c.some_fit.result (λ fit h marks turn lines attrs.
    let up : c.are_over_from.result ≡ true = search rules in
    let at_all : AreOverAt c.args.case.p.now (next_marks c.args.case.p.now c.args.case.pivot.now marks) c.in-Some.at (length c.args.case.p.now.rows) =
    subst (λ (rs : List Row). AreOverAt c.args.case.p.now (next_marks c.args.case.p.now c.args.case.pivot.now marks) c.in-Some.at (length rs)) c.rows-rows.ensures (right_then c.are_over_from.result up (c.are_over_from.ensures c.args.case.p.now marks turn lines)) in
    let over : AreOverFrom c.args.case.p.now (next_marks c.args.case.p.now c.args.case.pivot.now marks) c.index-rows-at.result.id = over_from c.args.case.p.now (next_marks c.args.case.p.now c.args.case.pivot.now marks) c.in-Some.at c.index-rows-at.result c.show_whole.ensures within here at_all in
    fit_named c.args.case.p.now (next_marks c.args.case.p.now c.args.case.pivot.now marks) c.args.sum.mark c.args.sum.first c.in-Some.at c.index-rows-at.result fit c.show_whole.ensures within here named over (omega (arith, c.if-first-lt1.false)) (omega (arith, c.if-first-count.true, terms)) (h marks turn lines attrs)) c.some_fit.ensures

pub returns-then-first-count-2 : goal.returns-then-first-count-2
returns-then-first-count-2 c = λ marks turn lines attrs unfit.
    let within : c.in-Some.at < length c.args.case.p.now.rows = subst (λ (rs : List Row). c.in-Some.at < length rs) c.rows-rows.ensures c.in-Some.ensures.within in
    let here : get_or c.args.case.p.now.rows c.in-Some.at c.index-rows-at.result ≡ c.index-rows-at.result = sym (c.index-rows-at.is ∙ ap (λ (rs : List Row). get_or rs c.in-Some.at c.index-rows-at.result) c.rows-rows.ensures) in
    let named : over_mark c.index-rows-at.result.id ≡ c.args.sum.mark = ap (λ (s : Row). over_mark s.id) c.index-rows-at.is ∙ c.in-Some.ensures.found c.index-rows-at.result in
    let terms : length c.terms.result.now ≡ length c.index-rows-at.result.terms = ap (λ (ts : List Term). length ts) c.terms.ensures in
    let high : c.args.sum.first ≤ length c.index-rows-at.result.terms + 1 = (named_row c.args.case.p.now (next_marks c.args.case.p.now c.args.case.pivot.now marks) c.args.sum.mark c.args.sum.first c.in-Some.at c.index-rows-at.result c.show_whole.ensures within here named unfit).2 in
    absurd (omega (arith, high, c.if-first-count-2.true, terms))

pub returns : goal.returns
returns c =
    let within : c.in-Some.at < length c.args.case.p.now.rows = subst (λ (rs : List Row). c.in-Some.at < length rs) c.rows-rows.ensures c.in-Some.ensures.within in
    let here : get_or c.args.case.p.now.rows c.in-Some.at c.index-rows-at.result ≡ c.index-rows-at.result = sym (c.index-rows-at.is ∙ ap (λ (rs : List Row). get_or rs c.in-Some.at c.index-rows-at.result) c.rows-rows.ensures) in
    let named : over_mark c.index-rows-at.result.id ≡ c.args.sum.mark = ap (λ (s : Row). over_mark s.id) c.index-rows-at.is ∙ c.in-Some.ensures.found c.index-rows-at.result in
    let terms : length c.terms.result.now ≡ length c.index-rows-at.result.terms = ap (λ (ts : List Term). length ts) c.terms.ensures in
    let last : length c.index-rows-at.result.terms + 1 ≡ c.args.sum.first = omega (arith, c.if-first-count.false, c.if-first-count-2.false, terms) in
    ok_then c.whole_fit.result (λ fit h marks turn lines attrs.
    let up : c.are_over_from.result ≡ true = search rules in
    let at_all : AreOverAt c.args.case.p.now (next_marks c.args.case.p.now c.args.case.pivot.now marks) c.in-Some.at (length c.args.case.p.now.rows) =
    subst (λ (rs : List Row). AreOverAt c.args.case.p.now (next_marks c.args.case.p.now c.args.case.pivot.now marks) c.in-Some.at (length rs)) c.rows-rows.ensures (right_then c.are_over_from.result up (c.are_over_from.ensures c.args.case.p.now marks turn lines)) in
    let over : AreOverFrom c.args.case.p.now (next_marks c.args.case.p.now c.args.case.pivot.now marks) c.index-rows-at.result.id = over_from c.args.case.p.now (next_marks c.args.case.p.now c.args.case.pivot.now marks) c.in-Some.at c.index-rows-at.result c.show_whole.ensures within here at_all in
    let inside : IsIn (place (over_mark c.index-rows-at.result.id)) (next_marks c.args.case.p.now c.args.case.pivot.now marks) = subst (λ (s : Row). IsIn (place (over_mark s.id)) (next_marks c.args.case.p.now c.args.case.pivot.now marks)) here (over c.in-Some.at c.index-rows-at.result within (let same : c.index-rows-at.result.id ≡ (get_or c.args.case.p.now.rows c.in-Some.at c.index-rows-at.result).id = ap (λ (s : Row). s.id) (sym here) in omega (arith, same))) in
    fit_named c.args.case.p.now (next_marks c.args.case.p.now c.args.case.pivot.now marks) c.args.sum.mark c.args.sum.first c.in-Some.at c.index-rows-at.result fit c.show_whole.ensures within here named over (omega (arith, c.if-first-lt1.false)) (omega (arith, last))
    (subst (λ (n : ℕ). IsRowFit c.args.case.p.now (next_marks c.args.case.p.now c.args.case.pivot.now marks) c.index-rows-at.result n fit) last
    (h marks turn lines attrs inside))) c.whole_fit.ensures
