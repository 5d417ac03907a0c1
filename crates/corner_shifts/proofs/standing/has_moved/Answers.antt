use Rattle.std.proofs.Common.{rules, ◌≡◌, ◌∙◌, ap, pos, refl, sym}
use Rattle.std.proofs.lemmas.Option.{get_or_from_slice_get}
use Rattle.problem_core.specs.declared.parts.Stay.{Stay}
use Rattle.corner_table.specs.Tables.{lists_of, problem_of, standing_at}
use Rattle.corner_table.proofs.Basics.OwnerFacts.{stay_named}
use Rattle.corner_shifts.specs.Stood.{stay_slot}
use Rattle.corner_shifts.proofs.standing.has_moved.Goals as goal

pub line_slot-line-requires-clause-row : goal.line_slot-line-requires-clause-row
line_slot-line-requires-clause-row c =
    let s : Stay = c.get.result.now in
    stay_named (problem_of (lists_of c.args.table.now)) s.attr (c.args.i, s, c.requires.within, get_or_from_slice_get c.args.table.now.stays.items c.args.i s s c.get.ensures, refl)

pub returns : goal.returns
returns c = λ rests s.
    let none : c.num.result ≡ pos 0 = search rules in
    ap (λ (x : Stay). (standing_at (lists_of c.args.table.now) (stay_slot (lists_of c.args.table.now) x.attr)).value.num)
    (get_or_from_slice_get c.args.table.now.stays.items c.args.i c.get.result.now s c.get.ensures)
    ∙ ap (λ w. (standing_at (lists_of c.args.table.now) w).value.num) (sym c.line_slot-line.ensures.value)
    ∙ ap (λ f. f.num) (sym c.value_at.ensures) ∙ sym c.num.ensures.value ∙ none
