use Rattle.std.proofs.Common.{◌≡◌, ◌∙◌, ◌<◌, ◌≤◌, ◌⊎◌, ℕ, rules, arith, sym, ap, subst, inl, inr, false, true, true≢false, None, get_or, refl}
use Rattle.std.proofs.lemmas.Bool.{cases_Bool, cases_eq}
use Rattle.std.proofs.lemmas.List.{get_or_default}
use Rattle.path_lines.specs.Exchanges.Pivots.{next_marks}
use Rattle.path_lines.specs.Tables.{IsLineAt, IsUp, line_count, name_at}
use Rattle.path_lines.proofs.Iffs.{always, never, right_then, wrong_then}
use Rattle.path_fits.proofs.last.after.are_up_after.Goals as goal

pub returns-then-not-is_fine_after : goal.returns-then-not-is_fine_after
returns-then-not-is_fine_after c = λ p marks is lines.
    let within : c.loop-at.at < line_count p = omega (arith, c.loop-at-test.true, lines.count) in
    let line : IsLineAt p marks (name_at p c.loop-at.at) c.index-lines-at.result =
    subst (IsLineAt p marks (name_at p c.loop-at.at)) (sym c.index-lines-at.is) (lines.each c.loop-at.at c.index-lines-at.result within) in
    let down : c.is_fine_after.result ≡ false = search rules in
    never false refl
    (λ all. elim (cases_Bool c.is_judged.result) [
      | inl judged ↦
          wrong_then c.is_fine_after.result down (c.is_fine_after.ensures.up judged p marks is lines.count within line)
          (all c.loop-at.at within (right_then c.is_judged.result judged c.is_judged.ensures))
      | inr free ↦ true≢false (sym (c.is_fine_after.ensures.free free) ∙ down)
    ])

pub loop-at-preserved : goal.loop-at-preserved
loop-at-preserved c = λ k d less judges p marks is count line.
    elim (cases_eq k c.loop-at.at) [
      | inl e ↦
          let up : c.is_fine_after.result ≡ true = search rules in
          let same : get_or c.args.lines.now k d ≡ c.index-lines-at.result =
          ap (λ (j : ℕ). get_or c.args.lines.now j d) e ∙ get_or_default c.args.lines.now c.loop-at.at d c.index-lines-at.result c.loop-at-test.true ∙ sym c.index-lines-at.is in
          let judges_here : (c.loop-at.at < c.args.judged) ⊎ (c.args.rows ≤ c.loop-at.at) = subst (λ (j : ℕ). (j < c.args.judged) ⊎ (c.args.rows ≤ j)) e judges in
          let within : c.loop-at.at < line_count p = omega (arith, c.loop-at-test.true, count) in
          elim (cases_Bool c.is_judged.result) [
            | inl judged ↦
                subst (λ (j : ℕ). IsUp p (next_marks p c.args.pivot.now marks) (name_at p j)) (sym e)
                (right_then c.is_fine_after.result up (c.is_fine_after.ensures.up judged p marks is count within (subst (λ (j : ℕ). IsLineAt p marks (name_at p j) c.index-lines-at.result) e (subst (IsLineAt p marks (name_at p k)) same line))))
            | inr free ↦ absurd (wrong_then c.is_judged.result free c.is_judged.ensures judges_here)
          ]
      | inr n ↦ c.loop-at.invariant k d (omega (arith, less, n)) judges p marks is count line
    ]

pub returns : goal.returns
returns c = λ p marks is lines.
    always true refl
    (λ k within judges. c.loop-at.invariant k None (omega (arith, within, lines.count, c.loop-at-test.false)) judges p marks is lines.count (lines.each k None within))
