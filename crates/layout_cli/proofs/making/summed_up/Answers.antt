use Rattle.std.proofs.Common.{◌∙◌, ◌++◌, ℕ, length, ap, refl}
use Rattle.layout_cli.specs.Making.{last_line, summary_line}
use Rattle.layout_cli.proofs.making.summed_up.Goals as goal

pub returns : goal.returns
returns c = (
  c.in_ok-end.end.refused,
  c.in_ok-end.ensures.run,
  (
    c.in_ok-text_of.ensures ∙ ap (λ (k : ℕ). summary_line k c.in_ok-end.end.refused (length c.answer_lines.new.session.scene.rows) ++ last_line c.answer_lines.new.session.scene) c.in_ok-end.ensures.count,
    refl,
  ),
)
