use Rattle.std.proofs.Common.{◌≡◌, ◌∙◌, ◌<◌, ℕ, true, false, refl, sym, subst, arith, inl, inr, get_or, slice_index_or, None}
use Rattle.std.proofs.lemmas.Bool.{cases_eq}
use Rattle.std.proofs.lemmas.List.{get_or_default}
use Rattle.path_lines.specs.Tables.{line_count}
use Rattle.path_lines.proofs.Iffs.{always, never, right_then, wrong_then}
use Rattle.path_levels.specs.declared.sums.LevelSum.{LevelSum}
use Rattle.path_levels.specs.declared.outline.LineFacts.{LineFacts}
use Rattle.path_levels.specs.Required.{IsBelow}
use Rattle.path_levels.proofs.Judging.LevelEnds.{required_decided}
use Rattle.path_levels.proofs.ends.has_no_negative_required.Goals as goal
use Rattle.path_levels.proofs.Exchanges.FitFacts.{any_facts}

pub returns-then-is_line_below : goal.returns-then-is_line_below
returns-then-is_line_below c = λ p at levels d kept sums is required.
    let within : c.loop-at.at < line_count p = let h = kept.lines_are.count in omega (arith, c.loop-at-test.true, h) in
    let here : slice_index_or c.args.corner.lines.now c.loop-at.at None ≡ c.index-lines-at.result = get_or_default c.args.corner.lines.now c.loop-at.at None c.index-lines-at.result c.loop-at-test.true ∙ sym c.index-lines-at.is in
    let below : IsBelow c.args.corner.lines.now c.index.result.now c.args.sum.now c.loop-at.at = right_then c.is_line_below.result c.if-is_line_below.true (c.is_line_below.ensures c.args.corner.lines.now here) in
    let there : IsBelow c.args.corner.lines.now (get_or c.args.corner.outline.now.lines.items c.loop-at.at c.index.result.now) (get_or levels 0 d) c.loop-at.at =
    subst (λ (s : LevelSum). IsBelow c.args.corner.lines.now (get_or c.args.corner.outline.now.lines.items c.loop-at.at c.index.result.now) s c.loop-at.at) (sym is)
    (subst (λ (f : LineFacts). IsBelow c.args.corner.lines.now f c.args.sum.now c.loop-at.at) c.index.ensures below) in
    never false refl (λ none. (required_decided p at c.args.corner.outline.now c.args.corner.lines.now levels d c.index.result.now kept sums required).1 none c.loop-at.at within there)

pub loop-at-preserved : goal.loop-at-preserved
loop-at-preserved c = λ k f less below.
    elim (cases_eq k c.loop-at.at) [
      | inl e ↦
          let here : slice_index_or c.args.corner.lines.now c.loop-at.at None ≡ c.index-lines-at.result = get_or_default c.args.corner.lines.now c.loop-at.at None c.index-lines-at.result c.loop-at-test.true ∙ sym c.index-lines-at.is in
          let facts : get_or c.args.corner.outline.now.lines.items c.loop-at.at f ≡ c.index.result.now =
          get_or_default c.args.corner.outline.now.lines.items c.loop-at.at f c.index.result.now (omega (arith, c.loop-at-test.true, c.requires.corner.count)) ∙ sym c.index.ensures in
          let there : IsBelow c.args.corner.lines.now (get_or c.args.corner.outline.now.lines.items c.loop-at.at f) c.args.sum.now c.loop-at.at =
          subst (λ (j : ℕ). IsBelow c.args.corner.lines.now (get_or c.args.corner.outline.now.lines.items j f) c.args.sum.now j) e below in
          wrong_then c.is_line_below.result c.if-is_line_below.false (c.is_line_below.ensures c.args.corner.lines.now here) (subst (λ (g : LineFacts). IsBelow c.args.corner.lines.now g c.args.sum.now c.loop-at.at) facts there)
      | inr ne ↦ c.loop-at.invariant k f (omega (arith, less, ne)) below
    ]

pub returns : goal.returns
returns c = λ p at levels d kept sums is required.
    always true refl
    ((required_decided p at c.args.corner.outline.now c.args.corner.lines.now levels d any_facts kept sums required).0
    (λ k within below. c.loop-at.invariant k any_facts (let h = kept.lines_are.count in omega (arith, within, h, c.loop-at-test.false)) (subst (λ (s : LevelSum). IsBelow c.args.corner.lines.now (get_or c.args.corner.outline.now.lines.items k any_facts) s k) is below)))
