use Rattle.std.proofs.Common.{◌∙◌, ap, ap₂, subst, sym, ℤ, neg_ℤ, ◌*ℤ◌, rules, SFits}
use Rattle.std.specs.Int.{w64}
use Rattle.std.proofs.lemmas.Int.{to_z-of_z}
use Rattle.corner_lines.specs.LineEquations.{sign_of}
use Rattle.corner_table.specs.Tables.{entry, line_slot, lists_of, marks_at, problem_of}
use Rattle.corner_view.specs.Seen.{IsCoefficientOf}
use Rattle.corner_view.proofs.Facts.{mark_named}
use Rattle.corner_table.proofs.Readings.WritingFacts.{held_what, other_what, own_what}
use Rattle.corner_writings.proofs.writings.coefficient.Goals as goal
use Rattle.frac_core.proofs.Bools.{not-both as not_both}

pub what_slot-w-requires-clause-what : goal.what_slot-w-requires-clause-what
what_slot-w-requires-clause-what c = held_what (lists_of c.args.table.now) c.args.what c.requires.kept c.requires.what

pub signed_entry-requires-clause-row : goal.signed_entry-requires-clause-row
signed_entry-requires-clause-row c = mark_named (problem_of (lists_of c.args.table.now)) c.args.mark c.requires.outside.0

pub returns-then-is_of_line : goal.returns-then-is_of_line
returns-then-is_of_line c =
    let fits : SFits w64 c.own_of.result = search rules in
    subst (λ (z : ℤ). IsCoefficientOf (problem_of (lists_of c.args.table.now)) (marks_at (lists_of c.args.table.now)) c.args.what c.args.mark z)
    (sym (to_z-of_z w64 c.own_of.result fits ∙ c.own_of.ensures.value ∙ ap (λ w. entry (lists_of c.args.table.now) w w) c.what_slot-w.ensures.value))
    (own_what (lists_of c.args.table.now) c.args.what c.args.mark c.requires.kept c.requires.what c.requires.outside (c.is_of_line.ensures.0 c.if-is_of_line.true))

pub returns : goal.returns
returns c =
    let fits : SFits w64 c.signed_entry.result = search rules in
    let way-fits : SFits w64 c.what_sign.result = search rules in
    subst (λ (z : ℤ). IsCoefficientOf (problem_of (lists_of c.args.table.now)) (marks_at (lists_of c.args.table.now)) c.args.what c.args.mark z)
    (sym (to_z-of_z w64 c.signed_entry.result fits ∙ c.signed_entry.ensures
    ∙ ap₂ (λ w z. neg_ℤ (entry (lists_of c.args.table.now) w (line_slot (lists_of c.args.table.now) c.args.mark.row) *ℤ (sign_of c.args.mark.side *ℤ z))) c.what_slot-w.ensures.value (to_z-of_z w64 c.what_sign.result way-fits ∙ c.what_sign.ensures.value)))
    (other_what (lists_of c.args.table.now) c.args.what c.args.mark c.requires.kept c.requires.what c.requires.outside (λ row. not_both c.is_of_line.result (c.is_of_line.ensures.1 row) c.if-is_of_line.false))
