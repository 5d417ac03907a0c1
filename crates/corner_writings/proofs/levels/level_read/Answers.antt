use Rattle.std.proofs.Common.{rules, ◌≡◌, ◌∙◌, ap, SFits}
use Rattle.std.specs.Int.{w64}
use Rattle.std.proofs.lemmas.Int.{to_z-of_z}
use Rattle.corner_table.specs.declared.table.Slot.{Slot}
use Rattle.corner_table.specs.Tables.{lists_of}
use Rattle.corner_table.specs.Reads.LevelNumbers.{unit_at}
use Rattle.corner_writings.proofs.LevelFacts.LevelReadFacts.{level_home}
use Rattle.corner_writings.proofs.levels.level_read.Goals as goal

pub returns-clause-read : goal.returns-clause-read
returns-clause-read c =
    let fits : SFits w64 c.level_own.result = search rules in
    let fits-2 : SFits w64 c.unit_of.result = search rules in
    let unit : c.unit_of.result ≡ unit_at (lists_of c.args.table.now) c.args.l = c.unit_of.ensures.level ∙ ap (λ (s : Slot). unit_at (lists_of c.args.table.now) s.home) c.slot_at.ensures ∙ ap (unit_at (lists_of c.args.table.now)) (level_home (lists_of c.args.table.now) c.args.l c.requires.kept c.requires.level) in
    record {
      slot = c.requires.level;
      own = to_z-of_z w64 c.level_own.result fits ∙ c.level_own.ensures.value;
      unit = to_z-of_z w64 c.unit_of.result fits-2 ∙ unit;
    }
