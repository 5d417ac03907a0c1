use Rattle.std.proofs.Common.{◌≡◌, ◌≢◌, [], Result, Ok, Err, IfOk, IfErr, OnOk, sym, subst}
use Rattle.problem_core.specs.declared.stops.What.TheVariants.{Mark as MarkOf}
use Rattle.problem_core.specs.Corners.{IsIn, SameMarks, exchanged, place}
use Rattle.corner_view.specs.Stops.{IsUnfitStop}
use Rattle.corner_exchange.specs.Swaps.Exchanges.{IsPair, IsPairStop}
use Rattle.corner_exchange.specs.Swaps.NextLists.{AreMarksBy, AreMarksTurned}
use Rattle.corner_exchange.specs.Swaps.TurnedLevels.{IsTurn, IsTurnStop}
use Rattle.corner_table.specs.Tables.{lists_of, marks_at, problem_of}
use Rattle.corner_view.specs.Seen.{AreCandidates, CornerView, IsOutside, MovesWith}
use Rattle.corner_view.proofs.Facts.{mark_named}
use Rattle.corner_table.proofs.Readings.WritingFacts.{in_mark}
use Rattle.corner.proofs.Swaps.NextConsistent.{swap_pair, swap_turn}
use Rattle.corner.proofs.corner.CornerTableau.swap_settled.Goals as goal
use Rattle.frac_core.proofs.Bools.{not-both as not_both}

ok-with : {T E : Type 0} (r : Result T E) (P Q : Type 0) → (P → Q) → OnOk r P → IfOk r (λ x. Q)
ok-with (Ok x) P Q f p = f p
ok-with (Err e) P Q f p = tt

err-with : {T E : Type 0} (r : Result T E) (P Q : E → Type 0) → ((e : E) → P e → Q e) → IfErr r P → IfErr r Q
err-with (Ok x) P Q f p = tt
err-with (Err e) P Q f p = f e p

pub line_slot-line-requires-clause-row : goal.line_slot-line-requires-clause-row
line_slot-line-requires-clause-row c = mark_named (problem_of (lists_of c.self.inside.table)) c.args.enter
    (subst (λ (v : CornerView). IsOutside v.problem v.marks c.args.enter) (sym c.self.view_is) c.requires.enter).0

pub line_slot-requires-clause-row : goal.line_slot-requires-clause-row
line_slot-requires-clause-row c = mark_named (problem_of (lists_of c.self.inside.table)) c.args.leave
    (in_mark (lists_of c.self.inside.table) c.args.leave c.self.invariant.0.kept (subst (λ (v : CornerView). IsIn (place c.args.leave) v.marks) (sym c.self.view_is) c.requires.leave))

turns : (c : goal.After-turn_safe) → IsTurn (lists_of c.self.inside.table) c.line_slot-line.result c.args.enter.side (record { enter = c.args.enter; leave = c.args.leave })
turns c =
    let same : c.args.enter.row ≡ c.args.leave.row = c.are_of_line.ensures.0 c.if-are_of_line.true in
    swap_turn (lists_of c.self.inside.table) c.args.enter c.args.leave c.line_slot-line.result c.self.invariant.0.kept
    (subst (λ (v : CornerView). IsOutside v.problem v.marks c.args.enter) (sym c.self.view_is) c.requires.enter)
    (subst (λ (v : CornerView). IsIn (place c.args.leave) v.marks) (sym c.self.view_is) c.requires.leave) same c.line_slot-line.ensures.value

pub turn_safe-requires-clause-turn : goal.turn_safe-requires-clause-turn
turn_safe-requires-clause-turn c =
    let same : c.args.enter.row ≡ c.args.leave.row = c.are_of_line.ensures.0 c.if-are_of_line.true in record {
      kept = c.self.invariant.0.kept;
      swap = record { enter = c.args.enter; leave = c.args.leave };
      is = swap_turn (lists_of c.self.inside.table) c.args.enter c.args.leave c.line_slot-line.result c.self.invariant.0.kept
          (subst (λ (v : CornerView). IsOutside v.problem v.marks c.args.enter) (sym c.self.view_is) c.requires.enter)
          (subst (λ (v : CornerView). IsIn (place c.args.leave) v.marks) (sym c.self.view_is) c.requires.leave) same c.line_slot-line.ensures.value;
    }

pub returns-then-are_of_line-clause-marks : goal.returns-then-are_of_line-clause-marks
returns-then-are_of_line-clause-marks c =
    ok-with c.turn_safe.result (AreMarksTurned (lists_of c.self.inside.table) c.line_slot-line.result c.args.enter.side (lists_of c.turn_safe.new.table))
    (SameMarks (marks_at (lists_of c.turn_safe.new.table)) (exchanged (record { enter = c.args.enter; leave = c.args.leave }) c.args.self.now.marks))
    (λ h. subst (λ (v : CornerView). SameMarks (marks_at (lists_of c.turn_safe.new.table)) (exchanged (record { enter = c.args.enter; leave = c.args.leave }) v.marks)) c.self.view_is (h (record { enter = c.args.enter; leave = c.args.leave }) (turns c)))
    c.turn_safe.ensures.marks

pub returns-then-are_of_line-clause-stop : goal.returns-then-are_of_line-clause-stop
returns-then-are_of_line-clause-stop c =
    err-with c.turn_safe.result (IsTurnStop (lists_of c.self.inside.table) c.line_slot-line.result c.args.enter.side) (IsUnfitStop c.args.self.now.problem (exchanged (record { enter = c.args.enter; leave = c.args.leave }) c.args.self.now.marks))
    (λ e h. subst (λ (v : CornerView). IsUnfitStop v.problem (exchanged (record { enter = c.args.enter; leave = c.args.leave }) v.marks) e) c.self.view_is (h (record { enter = c.args.enter; leave = c.args.leave }) (turns c)))
    c.turn_safe.ensures.stop

pairs : (c : goal.After-settle_known) → IsPair (lists_of c.self.inside.table) (record { enter = c.line_slot-line.result; side = c.args.enter.side; leave = c.line_slot.result }) (record { enter = c.args.enter; leave = c.args.leave })
pairs c =
    let ne : c.args.enter.row ≢ c.args.leave.row = λ e. not_both c.are_of_line.result (c.are_of_line.ensures.1 e) c.if-are_of_line.false in
    swap_pair (lists_of c.self.inside.table) c.args.enter c.args.leave c.line_slot-line.result c.line_slot.result c.self.invariant.0.kept
    (subst (λ (v : CornerView). IsOutside v.problem v.marks c.args.enter) (sym c.self.view_is) c.requires.enter)
    (subst (λ (v : CornerView). IsIn (place c.args.leave) v.marks) (sym c.self.view_is) c.requires.leave)
    (subst (λ (v : CornerView). MovesWith v.problem v.marks c.args.enter (MarkOf c.args.leave)) (sym c.self.view_is) c.requires.moves) ne c.line_slot-line.ensures.value c.line_slot.ensures.value

pub settle_known-requires-clause-pair : goal.settle_known-requires-clause-pair
settle_known-requires-clause-pair c =
    let ne : c.args.enter.row ≢ c.args.leave.row = λ e. not_both c.are_of_line.result (c.are_of_line.ensures.1 e) c.if-are_of_line.false in record {
      kept = c.self.invariant.0.kept;
      swap = record { enter = c.args.enter; leave = c.args.leave };
      is = swap_pair (lists_of c.self.inside.table) c.args.enter c.args.leave c.line_slot-line.result c.line_slot.result c.self.invariant.0.kept
          (subst (λ (v : CornerView). IsOutside v.problem v.marks c.args.enter) (sym c.self.view_is) c.requires.enter)
          (subst (λ (v : CornerView). IsIn (place c.args.leave) v.marks) (sym c.self.view_is) c.requires.leave)
          (subst (λ (v : CornerView). MovesWith v.problem v.marks c.args.enter (MarkOf c.args.leave)) (sym c.self.view_is) c.requires.moves) ne c.line_slot-line.ensures.value c.line_slot.ensures.value;
    }

pub returns-clause-marks : goal.returns-clause-marks
returns-clause-marks c =
    ok-with c.settle_known.result (AreMarksBy (lists_of c.self.inside.table) (record { enter = c.line_slot-line.result; side = c.args.enter.side; leave = c.line_slot.result }) (lists_of c.settle_known.new.table))
    (SameMarks (marks_at (lists_of c.settle_known.new.table)) (exchanged (record { enter = c.args.enter; leave = c.args.leave }) c.args.self.now.marks))
    (λ h. subst (λ (v : CornerView). SameMarks (marks_at (lists_of c.settle_known.new.table)) (exchanged (record { enter = c.args.enter; leave = c.args.leave }) v.marks)) c.self.view_is (h (record { enter = c.args.enter; leave = c.args.leave }) (pairs c)))
    c.settle_known.ensures.marks

pub returns-clause-stop : goal.returns-clause-stop
returns-clause-stop c =
    err-with c.settle_known.result (IsPairStop (lists_of c.self.inside.table) (record { enter = c.line_slot-line.result; side = c.args.enter.side; leave = c.line_slot.result })) (IsUnfitStop c.args.self.now.problem (exchanged (record { enter = c.args.enter; leave = c.args.leave }) c.args.self.now.marks))
    (λ e h. subst (λ (v : CornerView). IsUnfitStop v.problem (exchanged (record { enter = c.args.enter; leave = c.args.leave }) v.marks) e) c.self.view_is (h (record { enter = c.args.enter; leave = c.args.leave }) (pairs c)))
    c.settle_known.ensures.stop

pub turn_safe-requires-clause-settled : goal.turn_safe-requires-clause-settled
turn_safe-requires-clause-settled c =
    let same : c.args.enter.row ≡ c.args.leave.row = c.are_of_line.ensures.0 c.if-are_of_line.true in (
      record { enter = c.args.enter; leave = c.args.leave },
      swap_turn (lists_of c.self.inside.table) c.args.enter c.args.leave c.line_slot-line.result c.self.invariant.0.kept
          (subst (λ (v : CornerView). IsOutside v.problem v.marks c.args.enter) (sym c.self.view_is) c.requires.enter)
          (subst (λ (v : CornerView). IsIn (place c.args.leave) v.marks) (sym c.self.view_is) c.requires.leave) same c.line_slot-line.ensures.value,
      subst (λ (v : CornerView). AreCandidates v.problem (exchanged (record { enter = c.args.enter; leave = c.args.leave }) v.marks) []) (sym c.self.view_is) c.requires.settled,
    )

pub settle_known-requires-clause-settled : goal.settle_known-requires-clause-settled
settle_known-requires-clause-settled c =
    let ne : c.args.enter.row ≢ c.args.leave.row = λ e. not_both c.are_of_line.result (c.are_of_line.ensures.1 e) c.if-are_of_line.false in (
      record { enter = c.args.enter; leave = c.args.leave },
      swap_pair (lists_of c.self.inside.table) c.args.enter c.args.leave c.line_slot-line.result c.line_slot.result c.self.invariant.0.kept
          (subst (λ (v : CornerView). IsOutside v.problem v.marks c.args.enter) (sym c.self.view_is) c.requires.enter)
          (subst (λ (v : CornerView). IsIn (place c.args.leave) v.marks) (sym c.self.view_is) c.requires.leave)
          (subst (λ (v : CornerView). MovesWith v.problem v.marks c.args.enter (MarkOf c.args.leave)) (sym c.self.view_is) c.requires.moves) ne c.line_slot-line.ensures.value c.line_slot.ensures.value,
      subst (λ (v : CornerView). AreCandidates v.problem (exchanged (record { enter = c.args.enter; leave = c.args.leave }) v.marks) []) (sym c.self.view_is) c.requires.settled,
    )

pub invariant_of-self-2 : goal.invariant_of-self-2
invariant_of-self-2 c = (c.settle_known.ensures.consistent, c.settle_known.ensures.known)
