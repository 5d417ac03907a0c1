use Rattle.std.proofs.Common.{subst, sym}
use Rattle.problem_core.specs.Corners.{NoNegativeValue}
use Rattle.corner_view.specs.AddStops.{AllSumsFit, IsAddStop}
use Rattle.corner_view.specs.Seen.{CornerView}
use Rattle.corner.proofs.Additions.AddedConsistent.{seen_fits, seen_stop}
use Rattle.corner_table.specs.Tables.{lists_of}
use Rattle.corner.proofs.corner.CornerTableau.add_rows.Goals as goal

pub join_rows-requires-clause-values : goal.join_rows-requires-clause-values
join_rows-requires-clause-values c = subst (λ (v : CornerView). NoNegativeValue v.problem v.marks) (sym c.self.view_is) c.requires.values

pub invariant_of-self : goal.invariant_of-self
invariant_of-self c = (
  c.in-Ok.ensures.consistent,
  (
    c.forget_for_join.ensures.safe (lists_of c.join_rows.new.table),
    λ known. c.in-Ok.ensures.stays (c.forget_for_join.ensures.left known) c.forget_for_join.new.known.astray.lines (c.forget_for_join.ensures.astray known),
  ),
)

pub returns-in-Err-clause-stop : goal.returns-in-Err-clause-stop
returns-in-Err-clause-stop c =
    subst (λ (v : CornerView). IsAddStop v c.args.rows.now c.in-Err.stop) c.self.view_is (seen_stop c.self.inside.table c.self.inside.listed c.args.rows.now c.in-Err.stop c.in-Err.ensures.stop)

pub returns-in-Ok-clause-fits : goal.returns-in-Ok-clause-fits
returns-in-Ok-clause-fits c =
    subst (λ (v : CornerView). AllSumsFit v c.args.rows.now) c.self.view_is (seen_fits c.self.inside.table c.self.inside.listed c.args.rows.now c.in-Ok.ensures.fits)

pub invariant_of-self-in-Err : goal.invariant_of-self-in-Err
invariant_of-self-in-Err c = (c.take_back.ensures.consistent, c.forget_known.ensures (lists_of c.take_back.new.table))
