use Rattle.std.proofs.Common.{◌∙◌, List, subst, sym}
use Rattle.std.proofs.lemmas.Result.{on_ok_weaker}
use Rattle.frac_core.proofs.Results.{err_implies as err_all}
use Rattle.problem_core.specs.Corners.{NoNegativeValue}
use Rattle.problem_core.specs.declared.parts.Mark.{Mark}
use Rattle.problem_core.specs.Kept.{IsWhole}
use Rattle.problem_core.specs.Layout.{Problem}
use Rattle.corner_laws.specs.Lifts.{with_rows}
use Rattle.corner_view.specs.AddStops.{IsAddStop}
use Rattle.corner_table.specs.Invariants.{seen_of}
use Rattle.corner_table.specs.declared.table.Table.{Table}
use Rattle.corner_table.specs.Tables.{lists_of, marks_at, problem_of}
use Rattle.corner_shifts.specs.Astray.{NoneGoesAstray}
use Rattle.corner.proofs.KnownJoins.{rows_stays}
use Rattle.corner.proofs.Additions.AddedConsistent.{added_consistent}
use Rattle.corner.proofs.Additions.PackedJoins.{fits_as, joined_begins, joined_problem, stop_as}
use Rattle.corner.proofs.corner.join_rows.Goals as goal

pub join_all-requires-clause-whole : goal.join_all-requires-clause-whole
join_all-requires-clause-whole c = subst (λ (p : Problem). IsWhole (with_rows c.args.rows.now p)) (sym c.in_ok-make_room.ensures.problem) c.requires.whole

pub join_all-requires-clause-values : goal.join_all-requires-clause-values
join_all-requires-clause-values c =
    subst (λ (at : List Mark). NoNegativeValue (problem_of (lists_of c.make_room.new.table)) at) (sym c.in_ok-make_room.ensures.marks)
    (subst (λ (p : Problem). NoNegativeValue p (marks_at (lists_of c.args.table.now))) (sym c.in_ok-make_room.ensures.problem) c.requires.values)

pub returns-clause-consistent : goal.returns-clause-consistent
returns-clause-consistent c =
    on_ok_weaker c.join_all.result
    (λ joined. added_consistent c.make_room.new.table c.join_all.new.table c.args.rows.now c.make_room.new.listed c.join_all.new.listed c.in_ok-make_room.ensures.consistent (c.join_all.ensures.alike c.make_room.ensures.alike) c.join_all.ensures.before joined)
    c.join_all.ensures.joined

pub returns-clause-problem : goal.returns-clause-problem
returns-clause-problem c =
    on_ok_weaker c.join_all.result
    (λ joined. joined_problem (lists_of c.args.table.now) (lists_of c.make_room.new.table) (lists_of c.join_all.new.table) c.args.rows.now c.make_room.new.listed c.join_all.new.listed c.in_ok-make_room.ensures.problem joined)
    c.join_all.ensures.joined

pub returns-clause-marks : goal.returns-clause-marks
returns-clause-marks c =
    on_ok_weaker c.join_all.result
    (λ joined. joined_begins (lists_of c.args.table.now) (lists_of c.make_room.new.table) (lists_of c.join_all.new.table) c.args.rows.now c.make_room.new.listed c.join_all.new.listed c.in_ok-make_room.ensures.marks joined)
    c.join_all.ensures.joined

pub returns-clause-fits : goal.returns-clause-fits
returns-clause-fits c =
    on_ok_weaker c.join_all.result
    (fits_as (lists_of c.args.table.now) (lists_of c.make_room.new.table) c.args.rows.now c.in_ok-make_room.ensures.problem c.in_ok-make_room.ensures.marks)
    c.join_all.ensures.fits

pub returns-clause-before : goal.returns-clause-before
returns-clause-before c = c.join_all.ensures.before ∙ c.make_room.ensures.before

pub returns-clause-alike : goal.returns-clause-alike
returns-clause-alike c = c.join_all.ensures.alike c.make_room.ensures.alike

pub returns-clause-stop : goal.returns-clause-stop
returns-clause-stop c =
    err_all c.join_all.result _ (IsAddStop (seen_of (lists_of c.args.table.now)) c.args.rows.now)
    (λ stop. stop_as (lists_of c.args.table.now) (lists_of c.make_room.new.table) c.args.rows.now stop c.in_ok-make_room.ensures.problem c.in_ok-make_room.ensures.marks)
    c.join_all.ensures.stop

pub returns-clause-stays : goal.returns-clause-stays
returns-clause-stays c =
    on_ok_weaker c.join_all.result
    (λ joined left. subst (λ (t : Table). NoneGoesAstray (lists_of t) (lists_of c.join_all.new.table)) (c.make_room.ensures.unmoved left)
    (rows_stays (lists_of c.make_room.new.table) (lists_of c.join_all.new.table) c.args.rows.now c.make_room.new.listed c.join_all.new.listed c.in_ok-make_room.ensures.consistent.kept.slots joined))
    c.join_all.ensures.joined
