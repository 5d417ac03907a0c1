use Rattle.std.proofs.Common.{length}
use Rattle.corner_table.specs.Tables.{lists_of}
use Rattle.corner_shifts.proofs.AstrayStays.{stood_astray}
use Rattle.corner.proofs.Safety.{stood_safe}
use Rattle.corner.proofs.known.stand_known.Goals as goal

pub returns-clause-known : goal.returns-clause-known
returns-clause-known c =
    let t = lists_of c.args.table.now in
    let u = lists_of c.stand_astray.new.table in (
      stood_safe (length t.stays) t u c.args.known.now.safe c.requires.kept c.in_ok-stand_astray.ensures.lists c.requires.known.0,
      c.all_stand.ensures u (stood_astray t u c.in_ok-stand_astray.ensures.lists),
    )
