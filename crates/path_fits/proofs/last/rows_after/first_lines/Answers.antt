use Rattle.std.proofs.Common.{◌≡◌, ◌∙◌, ◌++◌, ◌<◌, [], ◌∷◌, ℕ, List, length, get_or, Option, sym, ap, subst, rules, arith, inl, inr}
use Rattle.std.proofs.lemmas.Bool.{cases_eq}
use Rattle.std.proofs.lemmas.List.{get_or_append_left, get_or_push}
use Rattle.std.proofs.lemmas.Result.{err_from_is_err_and}
use Rattle.path_lines.specs.declared.table.Inside.{Inside}
use Rattle.path_lines.specs.Exchanges.Pivots.{next_marks}
use Rattle.path_lines.specs.Tables.{IsLineAt, IsSizedLine, name_at}
use Rattle.path_fits.specs.FirstLines.{IsFirstAt}
use Rattle.path_fits.proofs.last.rows_after.first_lines.Goals as goal

pub returns-in_err-first_line-clause-unfit : goal.returns-in_err-first_line-clause-unfit
returns-in_err-first_line-clause-unfit c =
    let exit = err_from_is_err_and c.from_residual-in_err-first_line.result c.from_residual-in_err-first_line.ensures.1 in
    rw (exit.1, exit.2) c.in_err-first_line.ensures.unfit

pub loop-at-preserved : goal.loop-at-preserved
loop-at-preserved c =
    let items : c.push.new.self.items ≡ c.loop-at.next.items ++ c.in_ok-first_line.field-0 ∷ [] = c.in_ok-push.ensures.items in
    let new : (k : ℕ) (d : Option Inside) → k ≡ c.loop-at.at → get_or c.push.new.self.items k d ≡ c.in_ok-first_line.field-0 =
    λ k d e. ap (λ (xs : List (Option Inside)). get_or xs k d) items ∙ get_or_push c.loop-at.next.items c.in_ok-first_line.field-0 d k (c.loop-at.invariant.count ∙ sym e) in
    let old : (k : ℕ) (d : Option Inside) → k < c.loop-at.at → get_or c.push.new.self.items k d ≡ get_or c.loop-at.next.items k d =
    λ k d less. ap (λ (xs : List (Option Inside)). get_or xs k d) items ∙ get_or_append_left c.loop-at.next.items (c.in_ok-first_line.field-0 ∷ []) d k (omega (arith, less, c.loop-at.invariant.count)) in
    record {
      count = search rules;
      sized = λ k d less.
          elim (cases_eq k c.loop-at.at) [
            | inl e ↦ subst (IsSizedLine (length c.args.last.tableau.corner.lines.now)) (sym (new k d e)) c.in_ok-first_line.ensures.sized
            | inr ne ↦
                let before : k < c.loop-at.at = omega (arith, less, ne) in
                subst (IsSizedLine (length c.args.last.tableau.corner.lines.now)) (sym (old k d before)) (c.loop-at.invariant.sized k d before)
          ];
      lines = λ k d less first p marks turn lines.
          elim (cases_eq k c.loop-at.at) [
            | inl e ↦
                subst (IsLineAt p (next_marks p c.args.pivot.now marks) (name_at p k)) (sym (new k d e))
                (subst (λ (i : ℕ). IsLineAt p (next_marks p c.args.pivot.now marks) (name_at p i) c.in_ok-first_line.field-0) (sym e)
                (c.in_ok-first_line.ensures.line (subst (IsFirstAt c.args.last.tableau.corner.outline.now.lines.items c.args.firsts) e first) p marks turn lines))
            | inr ne ↦
                let before : k < c.loop-at.at = omega (arith, less, ne) in
                subst (IsLineAt p (next_marks p c.args.pivot.now marks) (name_at p k)) (sym (old k d before)) (c.loop-at.invariant.lines k d before first p marks turn lines)
          ];
    }

pub returns-clause-lines : goal.returns-clause-lines
returns-clause-lines c = λ k d less first p marks turn lines. c.loop-at.invariant.lines k d (omega (arith, less, c.loop-at-test.false)) first p marks turn lines
