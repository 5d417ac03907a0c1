use Rattle.std.proofs.Common.{◌∙◌, List, length, sym, ap, subst, Option}
use Rattle.path_lines.specs.declared.table.Inside.{Inside}
use Rattle.path_lines.specs.Route.{over_marks}
use Rattle.path_fits.specs.FirstSums.{AreMade, AreMadeUntil}
use Rattle.path_lines.specs.Tables.{AreSized}
use Rattle.path_levels.specs.Levels.{AreSizedLevels}
use Rattle.path_levels.specs.Rows.{AreKept, IsLevelsStop}
use Rattle.path_claims.proofs.Beginning.BegunParts.{begun_until_rows, begun_until_terms, begun_whole, kept_there}
use Rattle.path_claims.proofs.begins.begin.Goals as goal
use Rattle.path_claims.proofs.StationTables.{outline_long as outline_count}

pub returns-in-Some : goal.returns-in-Some
returns-in-Some c =
    let made = subst (AreMadeUntil c.args.p.now c.in_ok-made.made.lines.items) c.in-Some.is c.in_ok-made.ensures in
    begun_until_terms c.args.p.now c.in_ok-made.made.lines.items c.in-Some.unfit c.show_whole.ensures made.0 made.1

pub first_levels-requires : goal.first_levels-requires
first_levels-requires c = record {
  corner = record {
    outline = record {
      outline_is = c.requires.sized;
      count = ap (λ (ls : List (Option Inside)). length ls) c.deref.ensures.value ∙ c.in_ok-lines.ensures.count ∙ sym (outline_count c.args.p.now c.args.outline.now c.requires.outline);
    };
    lines_are = subst AreSized (sym c.deref.ensures.value) c.in_ok-lines.ensures.sized;
  };
}

pub returns-in-Ok : goal.returns-in-Ok
returns-in-Ok c =
    let made : AreMade c.args.p.now (length c.args.p.now.rows) c.in_ok-made.made.lines.items = subst (AreMadeUntil c.args.p.now c.in_ok-made.made.lines.items) c.in_default.is c.in_ok-made.ensures in
    let kept : AreKept c.args.p.now (over_marks c.args.p.now) c.args.outline.now c.deref.result.now =
    subst (AreKept c.args.p.now (over_marks c.args.p.now) c.args.outline.now) (sym c.deref.ensures.value) (kept_there c.args.p.now c.args.outline.now c.in_ok-lines.lines.items c.show_whole.ensures c.requires.outline c.in_ok-lines.ensures.lines) in
    begun_whole c.args.p.now c.args.outline.now c.in_ok-made.made.lines.items c.in_ok-lines.lines.items c.in-Ok.levels.items c.show_whole.ensures c.requires.outline made c.in_ok-lines.ensures.sized c.in_ok-lines.ensures.lines
    (subst (λ (ls : List (Option Inside)). AreSizedLevels (length ls) c.in-Ok.levels.items) c.deref.ensures.value c.in-Ok.ensures.sized) c.in-Ok.ensures.count
    (c.in-Ok.ensures.levels c.args.p.now (over_marks c.args.p.now) kept) (c.in-Ok.ensures.fits c.args.p.now (over_marks c.args.p.now) kept)

pub returns-in-Err-Refused : goal.returns-in-Err-Refused
returns-in-Err-Refused c =
    let made : AreMade c.args.p.now (length c.args.p.now.rows) c.in_ok-made.made.lines.items = subst (AreMadeUntil c.args.p.now c.in_ok-made.made.lines.items) c.in_default.is c.in_ok-made.ensures in
    let kept : AreKept c.args.p.now (over_marks c.args.p.now) c.args.outline.now c.deref.result.now =
    subst (AreKept c.args.p.now (over_marks c.args.p.now) c.args.outline.now) (sym c.deref.ensures.value) (kept_there c.args.p.now c.args.outline.now c.in_ok-lines.lines.items c.show_whole.ensures c.requires.outline c.in_ok-lines.ensures.lines) in
    let stop = subst (IsLevelsStop (record { outline = c.args.outline; lines = c.deref.result })) c.in-Err-Refused.field-0-is c.in-Err-Refused.ensures.unfit in
    begun_until_rows c.args.p.now c.in_ok-made.made.lines.items c.in_ok-lines.lines.items c.in-Err-Refused.rows.level c.in-Err-Refused.rows.first c.show_whole.ensures made c.in_ok-lines.ensures.lines
    (stop c.args.p.now (over_marks c.args.p.now) kept)
