use Rattle.std.proofs.Common.{◌≡◌, ◌∙◌, ◌<◌, ℕ, rules, arith, sym, ap, subst, inl, inr, false, true, None, get_or, refl}
use Rattle.std.proofs.lemmas.Bool.{cases_eq}
use Rattle.std.proofs.lemmas.List.{get_or_default}
use Rattle.path_lines.specs.Tables.{IsLineAt, line_count, name_at}
use Rattle.path_lines.proofs.Iffs.{always, never, right_then, wrong_then}
use Rattle.path_lines.proofs.Arithmetic.ValueSigns.{all_up, judged_all}
use Rattle.path_lines.proofs.signs.has_no_negative_value.Goals as goal

pub returns-then-not-is_up : goal.returns-then-not-is_up
returns-then-not-is_up c = λ p at there lines.
    let within : c.loop-line.line-index < line_count p = omega (arith, c.loop-line-test.true, lines.count) in
    let line : IsLineAt p at (name_at p c.loop-line.line-index) c.line-item.result =
    subst (IsLineAt p at (name_at p c.loop-line.line-index)) (sym c.line-item.is) (lines.each c.loop-line.line-index c.line-item.result within) in
    let down : c.is_up.result ≡ false = search rules in
    never false refl (λ none. wrong_then c.is_up.result down (c.is_up.ensures p at (name_at p c.loop-line.line-index) there line) (judged_all p at c.loop-line.line-index c.line-item.result there within line none))

pub loop-line-preserved : goal.loop-line-preserved
loop-line-preserved c = λ k d less p at name there line.
    elim (cases_eq k c.loop-line.line-index) [
      | inl e ↦
          let up : c.is_up.result ≡ true = search rules in
          let same : get_or c.args.lines.now k d ≡ c.line-item.result =
          ap (λ (j : ℕ). get_or c.args.lines.now j d) e ∙ get_or_default c.args.lines.now c.loop-line.line-index d c.line-item.result c.loop-line-test.true ∙ sym c.line-item.is in
          right_then c.is_up.result up (c.is_up.ensures p at name there (subst (IsLineAt p at name) same line))
      | inr n ↦ c.loop-line.invariant k d (omega (arith, less, n)) p at name there line
    ]

pub returns : goal.returns
returns c = λ p at there lines.
    always true refl
    (all_up p at there (λ k within. c.loop-line.invariant k None (omega (arith, within, lines.count, c.loop-line-test.false)) p at (name_at p k) there (lines.each k None within)))
