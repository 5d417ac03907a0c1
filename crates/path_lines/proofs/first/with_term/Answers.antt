use Rattle.std.proofs.Common.{◌≡◌, ◌≢◌, ◌∙◌, ◌<◌, ◌+◌, List, length, get_or, pos, SFits, rules, arith, sym, ap, subst, All}
use Rattle.std.specs.Int.{w64}
use Rattle.std.proofs.lemmas.Int.{to_z-of_z}
use Rattle.std.proofs.lemmas.Result.{err_from_is_err_and}
use Rattle.frac_core.specs.Fraction.{IsRatio, IsUnfitRatio, sum_den, sum_num}
use Rattle.problem_core.specs.declared.parts.Stay.{Stay}
use Rattle.problem_core.specs.Layout.{Row}
use Rattle.path_lines.proofs.Walking.FirstLines.{count_lines, no_stay, raised_list, with_next, with_unfit}
use Rattle.path_lines.proofs.first.with_term.Goals as goal

pub returns-in_default-clause-unfit : goal.returns-in_default-clause-unfit
returns-in_default-clause-unfit c = λ same r j d held less is sum.
    absurd (no_stay c.args.p.now r j d c.args.term c.show_whole.ensures held less is (subst (λ (stays : List Stay). All (λ (s : Stay). s.attr ≢ c.args.term.attr) stays) c.stays.ensures c.in_default.ensures.none))

pub returns-in_err-value-clause-unfit : goal.returns-in_err-value-clause-unfit
returns-in_err-value-clause-unfit c =
    let exit = err_from_is_err_and c.from_residual.result c.from_residual.ensures.1 in
    let fits : SFits w64 c.args.term.by = search rules in
    let stay : get_or c.stays-2.result.now c.in-Some.at c.index-stays-at.result ≡ c.index-stays-at.result = sym c.index-stays-at.is in
    let unfit : IsUnfitRatio (sum_num c.args.sum.value c.args.term.by (pos 1) (get_or c.stays-2.result.now c.in-Some.at c.index-stays-at.result).target) (sum_den c.args.sum.value (pos 1) (get_or c.stays-2.result.now c.in-Some.at c.index-stays-at.result).target) = simp to_z-of_z at c.in_err-value.ensures.unfit in
    rw (exit.1, exit.2) (λ same. with_unfit c.args.p.now c.args.term c.args.sum.by.items c.args.sum.value c.in-Some.at c.index-stays-at.result c.show_whole.ensures
    (subst (λ (stays : List Stay). c.in-Some.at < length stays) c.stays.ensures c.in-Some.ensures.within)
    (c.index-stays-at.is ∙ ap (λ (stays : List Stay). get_or stays c.in-Some.at c.index-stays-at.result) c.stays-2.ensures)
    (ap (λ (s : Stay). s.attr) (c.index-stays-at.is ∙ ap (λ (stays : List Stay). get_or stays c.in-Some.at c.index-stays-at.result) (c.stays-2.ensures ∙ sym c.stays.ensures)) ∙ c.in-Some.ensures.found c.index-stays-at.result)
    (subst (λ (s : Stay). IsUnfitRatio (sum_num c.args.sum.value c.args.term.by (pos 1) s.target) (sum_den c.args.sum.value (pos 1) s.target)) stay unfit))

pub raised-by-requires-clause-at : goal.raised-by-requires-clause-at
raised-by-requires-clause-at c =
    let rows : length c.rows.result.now ≡ length c.args.p.now.rows = ap (λ (rs : List Row). length rs) c.rows.ensures in
    let stays : c.in-Some.at < length c.args.p.now.stays = subst (λ (ss : List Stay). c.in-Some.at < length ss) c.stays.ensures c.in-Some.ensures.within in
    omega (arith, rows, stays, c.requires.count, count_lines c.args.p.now)

pub returns-clause-next : goal.returns-clause-next
returns-clause-next c =
    let fits : SFits w64 c.args.term.by = search rules in
    let stay : get_or c.stays-2.result.now c.in-Some.at c.index-stays-at.result ≡ c.index-stays-at.result = sym c.index-stays-at.is in
    let value : IsRatio c.in_ok-value.value (sum_num c.args.sum.value c.args.term.by (pos 1) (get_or c.stays-2.result.now c.in-Some.at c.index-stays-at.result).target) (sum_den c.args.sum.value (pos 1) (get_or c.stays-2.result.now c.in-Some.at c.index-stays-at.result).target) = simp to_z-of_z at c.in_ok-value.ensures.value in
    let raised : c.raised-by.result.items ≡ raised_list c.args.sum.by.items (length c.rows.result.now + c.in-Some.at) c.args.term.by = simp to_z-of_z at c.raised-by.ensures in
    with_next c.args.p.now c.args.term c.args.sum.by.items c.raised-by.result.items c.args.sum.value c.in_ok-value.value c.in-Some.at c.index-stays-at.result c.rows.result.now c.show_whole.ensures c.rows.ensures
    (subst (λ (stays : List Stay). c.in-Some.at < length stays) c.stays.ensures c.in-Some.ensures.within)
    (c.index-stays-at.is ∙ ap (λ (stays : List Stay). get_or stays c.in-Some.at c.index-stays-at.result) c.stays-2.ensures)
    (ap (λ (s : Stay). s.attr) (c.index-stays-at.is ∙ ap (λ (stays : List Stay). get_or stays c.in-Some.at c.index-stays-at.result) (c.stays-2.ensures ∙ sym c.stays.ensures)) ∙ c.in-Some.ensures.found c.index-stays-at.result)
    c.requires.term c.in_ok-value.ensures.lowest.above (subst (λ (s : Stay). IsRatio c.in_ok-value.value (sum_num c.args.sum.value c.args.term.by (pos 1) s.target) (sum_den c.args.sum.value (pos 1) s.target)) stay value) raised
