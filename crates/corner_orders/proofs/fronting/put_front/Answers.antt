use Rattle.corner_table.specs.Tables.{lists_of}
use Rattle.corner_table.proofs.Corners.HistoryFacts.{alike_same, past_same}
use Rattle.corner_orders.proofs.Orders.FrontedConsistent.{fronted_consistent, fronted_marks, fronted_problem, on_both}
use Rattle.corner_table.proofs.Basics.SmallFacts.{on_ok}
use Rattle.corner_orders.proofs.fronting.put_front.Goals as goal

pub returns-clause-consistent : goal.returns-clause-consistent
returns-clause-consistent c =
    on_both c.front_stays.result _ _ _
    (λ order after. fronted_consistent c.args.table.now c.front_stays.new.table c.args.attrs.now c.args.listed.now c.front_stays.new.listed c.requires.consistent c.requires.held
    (alike_same c.args.table.now c.front_stays.new.table c.front_stays.ensures.past c.requires.consistent.alike) (past_same c.args.table.now c.front_stays.new.table c.front_stays.ensures.past) order after)
    c.front_stays.ensures.lists c.front_stays.ensures.listed

pub returns-clause-problem : goal.returns-clause-problem
returns-clause-problem c =
    on_ok c.front_stays.result _ _ (λ order. fronted_problem (lists_of c.args.table.now) (lists_of c.front_stays.new.table) c.args.attrs.now order) c.front_stays.ensures.lists

pub returns-clause-marks : goal.returns-clause-marks
returns-clause-marks c =
    on_ok c.front_stays.result _ _ (λ order. fronted_marks (lists_of c.args.table.now) (lists_of c.front_stays.new.table) c.args.attrs.now c.requires.consistent.kept order) c.front_stays.ensures.lists

pub returns-clause-before : goal.returns-clause-before
returns-clause-before c = past_same c.args.table.now c.front_stays.new.table c.front_stays.ensures.past

pub returns-clause-alike : goal.returns-clause-alike
returns-clause-alike c = alike_same c.args.table.now c.front_stays.new.table c.front_stays.ensures.past c.requires.consistent.alike
