use Rattle.std.proofs.Common.{rules, ◌≡◌, ◌∙◌, ◌<◌, ℕ, ap, length, of_z, pos, subst, sym, to_z, SFits}
use Rattle.std.specs.Int.{w64}
use Rattle.std.proofs.lemmas.Int.{to_z-of_z}
use Rattle.corner_table.specs.declared.table.Slot.{Slot}
use Rattle.corner_table.specs.Tables.{lists_of, problem_of}
use Rattle.corner_table.specs.Kept.{HasCost}
use Rattle.corner_table.specs.Reads.LevelNumbers.{HasReducedAt, IsFirstSlot, reduced_at}
use Rattle.corner_writings.proofs.LevelFacts.LevelFrontFacts.{home_within}
use Rattle.corner_writings.proofs.LevelFacts.LevelReadFacts.{home_level}
use Rattle.corner_writings.proofs.LevelFacts.LevelUseFacts.{is_front, no_front}
use Rattle.corner_view.proofs.Facts.{used_level}
use Rattle.corner_writings.proofs.LevelFacts.LowestFronts.{home_cost, marks_slot, own_alone, own_is_first}
use Rattle.corner_writings.proofs.levels.own_front.Goals as goal

pub reduced_of-reduced-requires-clause-level : goal.reduced_of-reduced-requires-clause-level
reduced_of-reduced-requires-clause-level c =
    home_level (lists_of c.args.table.now) c.slot_at-home.result c.requires.kept (c.args.line, marks_slot (lists_of c.args.table.now) c.args.mark c.args.line c.requires.mark c.requires.line, sym c.slot_at-home.ensures)

pub reduced_of-reduced-requires-clause-line : goal.reduced_of-reduced-requires-clause-line
reduced_of-reduced-requires-clause-line c = marks_slot (lists_of c.args.table.now) c.args.mark c.args.line c.requires.mark c.requires.line

pub returns-then-reduced-eq0 : goal.returns-then-reduced-eq0
returns-then-reduced-eq0 c =
    let fits : SFits w64 c.reduced_of-reduced.result = search rules in
    let nothing : reduced_at (lists_of c.args.table.now) c.slot_at-home.result.home c.args.line c.args.mark.side ≡ pos 0 =
    sym c.reduced_of-reduced.ensures ∙ (sym (to_z-of_z w64 c.reduced_of-reduced.result fits) ∙ ap (to_z w64) c.if-reduced-eq0.true) in (
      tt,
      λ level use-of. no_front (lists_of c.args.table.now) c.args.mark c.requires.kept c.requires.mark
          (λ l h. own_alone (lists_of c.args.table.now) c.args.line c.slot_at-home.result.home c.args.mark.side c.requires.inside.0 c.requires.inside.1 (sym (ap (λ (s : Slot). s.home) c.slot_at-home.ensures)) nothing l
          (subst (λ (w : ℕ). HasReducedAt (lists_of c.args.table.now) w c.args.mark.side l) (sym c.requires.line) h))
          level (used_level (problem_of (lists_of c.args.table.now)) level use-of),
    )

pub front_at-requires-clause-within : goal.front_at-requires-clause-within
front_at-requires-clause-within c =
    subst (λ (s : Slot). s.home < length c.args.table.now.slots.items) (sym c.slot_at-home.ensures) (home_within (lists_of c.args.table.now) c.args.line c.requires.kept (marks_slot (lists_of c.args.table.now) c.args.mark c.args.line c.requires.mark c.requires.line))

pub front_at-requires-clause-level : goal.front_at-requires-clause-level
front_at-requires-clause-level c =
    subst (λ (s : Slot). HasCost (lists_of c.args.table.now) s.home) (sym c.slot_at-home.ensures) (home_cost (lists_of c.args.table.now) c.args.line c.requires.kept (marks_slot (lists_of c.args.table.now) c.args.mark c.args.line c.requires.mark c.requires.line))

pub returns : goal.returns
returns c =
    let fits : SFits w64 c.reduced_of-reduced.result = search rules in
    let cost : HasCost (lists_of c.args.table.now) c.slot_at-home.result.home =
    subst (λ (s : Slot). HasCost (lists_of c.args.table.now) s.home) (sym c.slot_at-home.ensures) (home_cost (lists_of c.args.table.now) c.args.line c.requires.kept (marks_slot (lists_of c.args.table.now) c.args.mark c.args.line c.requires.mark c.requires.line)) in (
      is_front (lists_of c.args.table.now) c.args.mark c.slot_at-home.result.home c.front_at.result c.requires.kept c.requires.mark
          (subst (λ (w : ℕ). IsFirstSlot (lists_of c.args.table.now) w c.args.mark.side c.slot_at-home.result.home) c.requires.line
          (own_is_first (lists_of c.args.table.now) c.args.line c.slot_at-home.result.home c.args.mark.side c.requires.inside.0 c.requires.inside.1 (sym (ap (λ (s : Slot). s.home) c.slot_at-home.ensures)) cost
          (λ q. c.if-reduced-eq0.false (ap (of_z w64) (c.reduced_of-reduced.ensures ∙ q)))))
          c.front_at.ensures.level
          (c.front_at.ensures.reduced ∙ to_z-of_z w64 c.reduced_of-reduced.result fits ∙ c.reduced_of-reduced.ensures ∙ ap (λ (w : ℕ). reduced_at (lists_of c.args.table.now) c.slot_at-home.result.home w c.args.mark.side) c.requires.line),
      tt,
    )
