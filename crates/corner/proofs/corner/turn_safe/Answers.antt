use Rattle.std.proofs.Common.{◌<◌, inl, inr, subst, sym}
use Rattle.std.proofs.lemmas.Bool.{cases_lt}
use Rattle.frac_core.proofs.Bools.{not-both as not_both}
use Rattle.corner_table.specs.declared.table.Slot.{Slot}
use Rattle.corner_table.specs.declared.table.TheConstants.{LEVELS}
use Rattle.corner_table.specs.Tables.{lists_of, slot_at}
use Rattle.corner_exchange.proofs.Swaps.TurnedFacts.{turn_slot}
use Rattle.corner.proofs.corner.turn_safe.Goals as goal

pub slot_at-requires : goal.slot_at-requires
slot_at-requires c = (turn_slot (lists_of c.args.table.now) c.args.line c.args.side c.requires.turn.swap c.requires.turn.kept.slots c.requires.turn.is).1

pub note-requires-clause-within : goal.note-requires-clause-within
note-requires-clause-within c = (turn_slot (lists_of c.args.table.now) c.args.line c.args.side c.requires.turn.swap c.requires.turn.kept.slots c.requires.turn.is).1

pub turn_stay-requires-clause-stay : goal.turn_stay-requires-clause-stay
turn_stay-requires-clause-stay c = elim (cases_lt (slot_at (lists_of c.args.table.now) c.args.line).home LEVELS) [
  | inl low ↦ absurd (not_both c.is_level.result (c.is_level.ensures.1 (subst (λ (s : Slot). s.home < LEVELS) (sym c.slot_at.ensures) low)) c.if-is_level.false)
  | inr high ↦ high
]
