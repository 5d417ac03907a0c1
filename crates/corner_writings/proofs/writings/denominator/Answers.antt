use Rattle.std.proofs.Common.{◌∙◌, ap, subst, sym, ℤ, rules, SFits}
use Rattle.std.specs.Int.{w64}
use Rattle.std.proofs.lemmas.Int.{to_z-of_z}
use Rattle.corner_table.specs.Tables.{entry, lists_of, marks_at, problem_of}
use Rattle.corner_view.specs.Seen.{IsScaleOf}
use Rattle.corner_table.proofs.Readings.WritingFacts.{held_what, scale_of}
use Rattle.corner_writings.proofs.writings.denominator.Goals as goal

pub what_slot-requires-clause-what : goal.what_slot-requires-clause-what
what_slot-requires-clause-what c = held_what (lists_of c.args.table.now) c.args.what c.requires.kept c.requires.what

pub returns : goal.returns
returns c =
    let fits : SFits w64 c.own_of.result = search rules in
    subst (λ (z : ℤ). IsScaleOf (problem_of (lists_of c.args.table.now)) (marks_at (lists_of c.args.table.now)) c.args.what z)
    (sym (to_z-of_z w64 c.own_of.result fits ∙ c.own_of.ensures.value ∙ ap (λ w. entry (lists_of c.args.table.now) w w) c.what_slot.ensures.value))
    (scale_of (lists_of c.args.table.now) c.args.what c.requires.kept c.requires.what)
