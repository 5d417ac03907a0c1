use Rattle.std.proofs.Common.{◌≡◌, ◌∙◌, ℕ, [], ◌∷◌, Any, ap₂, subst, sym, Result, Ok, Err, OnOk, IfOk, IfErr}
use Rattle.problem_core.specs.Changes.Begins.{without_marks}
use Rattle.problem_core.specs.declared.parts.RowName.TheVariants.{Held}
use Rattle.corner_lines.specs.Removals.{without_row}
use Rattle.corner_view.specs.Stops.{IsUnfitStop}
use Rattle.corner_table.specs.Tables.{lists_of, marks_at, problem_of}
use Rattle.corner_view.specs.Seen.{CornerView}
use Rattle.corner_leaving.proofs.Removals.DroppedTables.{inside_row}
use Rattle.corner.proofs.corner.CornerTableau.drop_row.Goals as goal

ok-with : {T E : Type 0} (r : Result T E) (P Q : Type 0) → (P → Q) → OnOk r P → IfOk r (λ x. Q)
ok-with (Ok x) P Q f p = f p
ok-with (Err e) P Q f p = tt

err-with : {T E : Type 0} (r : Result T E) (P Q : E → Type 0) → ((e : E) → P e → Q e) → IfErr r P → IfErr r Q
err-with (Ok x) P Q f p = tt
err-with (Err e) P Q f p = f e p

pub leaver_of-leaver-requires-clause-held : goal.leaver_of-leaver-requires-clause-held
leaver_of-leaver-requires-clause-held c =
    inside_row (lists_of c.self.inside.table) c.args.id c.self.invariant.0.kept (subst (λ (v : CornerView). Any (λ m. m.row ≡ Held c.args.id) v.marks) (sym c.self.view_is) c.requires.inside)

pub returns-clause-problem : goal.returns-clause-problem
returns-clause-problem c =
    ok-with c.take_row.result _ (problem_of (lists_of c.take_row.new.table) ≡ without_row c.args.id c.args.self.now.problem)
    (λ h. h ∙ ap₂ (λ (n : ℕ) (v : CornerView). without_row n v.problem) c.leaver_of-leaver.ensures.id c.self.view_is) c.take_row.ensures.problem

pub returns-clause-marks : goal.returns-clause-marks
returns-clause-marks c =
    ok-with c.take_row.result _ (marks_at (lists_of c.take_row.new.table) ≡ without_marks (c.args.id ∷ []) c.args.self.now.marks)
    (λ h. h ∙ ap₂ (λ (n : ℕ) (v : CornerView). without_marks (n ∷ []) v.marks) c.leaver_of-leaver.ensures.id c.self.view_is) c.take_row.ensures.marks

pub returns-clause-stop : goal.returns-clause-stop
returns-clause-stop c =
    err-with c.take_row.result _ (IsUnfitStop (without_row c.args.id c.args.self.now.problem) (without_marks (c.args.id ∷ []) c.args.self.now.marks))
    (λ e h. subst (λ (v : CornerView). IsUnfitStop (without_row c.args.id v.problem) (without_marks (c.args.id ∷ []) v.marks) e) c.self.view_is
    (subst (λ (n : ℕ). IsUnfitStop (without_row n (problem_of (lists_of c.self.inside.table))) (without_marks (n ∷ []) (marks_at (lists_of c.self.inside.table))) e) c.leaver_of-leaver.ensures.id h)) c.take_row.ensures.stop

pub invariant_of-self : goal.invariant_of-self
invariant_of-self c = (c.take_row.ensures.consistent, c.forget_known.ensures (lists_of c.take_row.new.table))
