use Rattle.claim_text.proofs.Claims.SeenStays.{mark_noted}
use Rattle.claim_text.proofs.claim.seen.Seen.note_part.Goals as goal

pub returns-in-OfIn : goal.returns-in-OfIn
returns-in-OfIn c = mark_noted c.note_row.result c.args.part.now c.in-OfIn.mark c.args.self.now c.note_row.new.keys c.in-OfIn.is c.note_row.ensures
