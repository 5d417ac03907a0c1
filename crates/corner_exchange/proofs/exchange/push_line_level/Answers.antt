use Rattle.std.proofs.Common.{List, inr, subst}
use Rattle.corner_exchange.specs.declared.exchange.Change.{Change}
use Rattle.corner_table.specs.declared.table.Slot.{Slot}
use Rattle.corner_table.specs.Tables.{lists_of}
use Rattle.corner_exchange.specs.Swaps.Touched.{AreLevelsPut, IsPut}
use Rattle.corner_exchange.proofs.Pivots.TouchedFacts.{home_put}
use Rattle.corner_exchange.proofs.exchange.push_line_level.Goals as goal
use Rattle.corner_exchange.proofs.exchange.push_line_level.Goals.{else-is_touched-via-then-is_touched+else-not-is_last, else-is_touched-via-else-is_touched}
use Rattle.corner_table.proofs.Basics.SmallFacts.{on_ok as on_ok_so}

pub returns-then-not-is_last-clause-put : goal.returns-then-not-is_last-clause-put
returns-then-not-is_last-clause-put c =
    on_ok_so c.push_level.result (IsPut c.push_level.new.out.items c.slot_at-home.result.home) (AreLevelsPut (lists_of c.args.table.now) c.args.pivot.now.pair.enter c.args.line c.args.side c.push_level.new.out.items)
    (λ put. home_put (lists_of c.args.table.now) c.args.pivot.now.pair.enter c.args.line c.args.side c.push_level.new.out.items c.requires.pivot.kept (subst (λ (s : Slot). IsPut c.push_level.new.out.items s.home) c.slot_at-home.ensures put))
    c.push_level.ensures.put

pub returns-else-is_touched-clause-put : goal.returns-else-is_touched-clause-put
returns-else-is_touched-clause-put c = elim c.else-is_touched.branch [
  | else-is_touched-via-then-is_touched+else-not-is_last w ↦
      let last : IsPut c.args.out.now.items c.slot_at-home.result.home =
      subst (λ (cs : List Change). IsPut cs c.slot_at-home.result.home) w.as_slice.ensures.value (w.is_last.ensures w.if-not-is_last.false) in
      home_put (lists_of c.args.table.now) c.args.pivot.now.pair.enter c.args.line c.args.side c.args.out.now.items c.requires.pivot.kept (subst (λ (s : Slot). IsPut c.args.out.now.items s.home) c.slot_at-home.ensures last)
  | else-is_touched-via-else-is_touched w ↦ λ level lt none. inr (c.is_touched.ensures.untouched w.if-is_touched.false level lt none)
]
