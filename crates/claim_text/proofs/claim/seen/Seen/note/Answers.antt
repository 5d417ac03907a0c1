use Rattle.claim_text.proofs.Claims.SeenStays.{level_noted}
use Rattle.claim_text.proofs.claim.seen.Seen.note.Goals as goal

pub returns-in-OfLevel : goal.returns-in-OfLevel
returns-in-OfLevel c = level_noted c.note_level.result c.args.line.now c.in-OfLevel.line c.args.self.now c.no_keys.result c.note_level.new.keys c.in-OfLevel.is c.no_keys.ensures c.note_level.ensures

pub returns-in-OfPart : goal.returns-in-OfPart
returns-in-OfPart c = rw c.in-OfPart.is c.note_part.ensures
