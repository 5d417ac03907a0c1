use Rattle.std.proofs.Common.{rules, ◌∙◌, ap, sym, of_z, to_z, SFits}
use Rattle.std.specs.Int.{w64}
use Rattle.std.proofs.lemmas.Int.{to_z-of_z}
use Rattle.corner_table.specs.Tables.{line_slot, lists_of}
use Rattle.corner_writings.proofs.LevelFacts.LevelUseFacts.{is_front}
use Rattle.corner_writings.proofs.LevelFacts.LowestFronts.{strongest_is_first}
use Rattle.corner_writings.proofs.levels.fronts.front_from.Goals as goal

pub returns : goal.returns
returns c =
    let fits : SFits w64 c.args.reduced = search rules in
    let same = simp to_z-of_z at c.front_at.ensures.reduced in (
      is_front (lists_of c.args.table.now) c.args.mark c.args.l c.front_at.result c.requires.kept c.requires.mark
          (strongest_is_first (lists_of c.args.table.now) (line_slot (lists_of c.args.table.now) c.args.mark.row) c.args.l c.args.mark.side c.requires.lowest.cost (c.requires.first c.args.mark.side) (λ q. c.if-reduced-eq0.false (ap (of_z w64) (c.requires.reduced ∙ q))))
          c.front_at.ensures.level (same ∙ c.requires.reduced),
      tt,
    )

pub front_without-requires-clause-nothing : goal.front_without-requires-clause-nothing
front_without-requires-clause-nothing c =
    let fits : SFits w64 c.args.reduced = search rules in
    sym c.requires.reduced ∙ (sym (to_z-of_z w64 c.args.reduced fits) ∙ ap (to_z w64) c.if-reduced-eq0.true)
