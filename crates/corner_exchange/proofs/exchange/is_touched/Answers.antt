use Rattle.std.proofs.Common.{rules, ◌≡◌, ◌∙◌, ◌<◌, pos, ap, sym, subst, SFits}
use Rattle.std.specs.Int.{w64}
use Rattle.corner_table.specs.declared.table.Slot.{Slot}
use Rattle.corner_table.specs.declared.table.TheConstants.{LEVELS}
use Rattle.corner_table.specs.Tables.{entry, lists_of, slot_at}
use Rattle.corner_exchange.specs.Swaps.LevelChanges.{count_by}
use Rattle.corner_exchange.proofs.Pivots.TouchedFacts.{no_zero, untouched_by, zero_by}
use Rattle.corner_exchange.proofs.exchange.is_touched.Goals as goal
use Rattle.corner_exchange.proofs.exchange.is_touched.Goals.{then-is_level, else-is_level}
use Rattle.frac_core.proofs.Bools.{not-both as not_both}
use Rattle.corner_exchange.proofs.LevelFacts.LevelCounts.{home_has_rows as home_rows}

pub returns-then-count_at-ne0-clause-level : goal.returns-then-count_at-ne0-clause-level
returns-then-count_at-ne0-clause-level c =
    let lt : (slot_at (lists_of c.args.table.now) c.args.line).home < LEVELS = search rules in
    λ e. (lt, home_rows (lists_of c.args.table.now) c.args.line c.requires.kept c.requires.line lt)

pub returns-then-count_at-ne0-clause-untouched : goal.returns-then-count_at-ne0-clause-untouched
returns-then-count_at-ne0-clause-untouched c = λ off.
    untouched_by (lists_of c.args.table.now) c.args.pair.enter c.args.line c.args.side c.requires.kept
    (λ lt none. absurd (no_zero c.entry.result (c.entry.ensures.value ∙ ap (λ (s : Slot). entry (lists_of c.args.table.now) s.home c.args.pair.enter) c.slot_at-home.ensures ∙ none) off))

pub returns-else-count_at-ne0-clause-untouched : goal.returns-else-count_at-ne0-clause-untouched
returns-else-count_at-ne0-clause-untouched c = λ off.
    untouched_by (lists_of c.args.table.now) c.args.pair.enter c.args.line c.args.side c.requires.kept
    (λ lt none. elim c.if-is_level.branch [
      | then-is_level w ↦
          let fits : SFits w64 w.count_at.result = search rules in
          let is : w.count_at.result ≡ count_by (lists_of c.args.table.now) c.slot_at-home.result.home c.args.line c.args.side = search rules in
          subst (λ (s : Slot). count_by (lists_of c.args.table.now) s.home c.args.line c.args.side ≡ pos 0) c.slot_at-home.ensures (sym is ∙ zero_by w.count_at.result fits (sym w.value-is ∙ off))
      | else-is_level w ↦ absurd (not_both c.is_level.result (c.is_level.ensures.1 (subst (λ (s : Slot). s.home < LEVELS) (sym c.slot_at-home.ensures) lt)) w.if-is_level.false)
    ])
