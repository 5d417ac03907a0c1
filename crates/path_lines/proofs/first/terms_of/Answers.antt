use Rattle.std.proofs.Common.{◌≡◌, ◌∙◌, ◌+◌, List, length, sym, ap, ap₂, subst}
use Rattle.frac_core.specs.Fraction.{Fraction}
use Rattle.problem_core.specs.declared.parts.Stay.{Stay}
use Rattle.problem_core.specs.Layout.{Row}
use Rattle.path_lines.specs.Walking.FirstLines.{IsTermsSum}
use Rattle.path_lines.specs.Tables.{line_count}
use Rattle.path_lines.proofs.Walking.FirstLines.{count_lines, no_terms_yet, zero_is}
use Rattle.path_lines.proofs.first.terms_of.Goals as goal

pub loop-term-init : goal.loop-term-init
loop-term-init c =
    let count : length c.in_ok-by.by.items ≡ line_count c.args.p.now =
    c.in_ok-by.ensures.count ∙ ap₂ ◌+◌ (ap (λ (rs : List Row). length rs) c.rows.ensures) (ap (λ (ss : List Stay). length ss) c.stays.ensures) ∙ sym (count_lines c.args.p.now) in
    subst (λ (v : Fraction). IsTermsSum c.args.p.now c.args.r.now 0 c.in_ok-by.by.items v) (zero_is c.zero-value.result c.zero-value.ensures.num c.zero-value.ensures.den)
    (no_terms_yet c.args.p.now c.args.r.now c.in_ok-by.by.items count c.in_ok-by.ensures.zeros)
