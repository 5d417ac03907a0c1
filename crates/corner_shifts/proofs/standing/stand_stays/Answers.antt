use Rattle.std.proofs.Common.{rules, ◌≡◌, ℕ, ◌+◌, ◌<◌, ◌≤◌, arith, length, refl, subst}
use Rattle.corner_table.specs.Tables.{lists_of}
use Rattle.corner_shifts.proofs.Stays.StoodTables.{all_rest, first_are_slots, next_stood, none_stood}
use Rattle.corner_shifts.specs.Stood.{AreFirstStood}
use Rattle.corner_table.proofs.Corners.HistoryFacts.{same_again}
use Rattle.corner_shifts.proofs.standing.stand_stays.Goals as goal

pub loop-i-init : goal.loop-i-init
loop-i-init c =
    let t = lists_of c.args.table.now in
    record {
      past = record { rows = refl; stays = refl; slots = refl; standings = refl; matrix = refl; attr_slots = refl; row_slots = refl; priorities = refl };
      lists = all_rest 0 c.next_moved-i.result t t c.requires.kept (omega arith) c.next_moved-i.ensures.most (none_stood t c.requires.kept) c.next_moved-i.ensures.rest;
      most = c.next_moved-i.ensures.most;
    }

pub stand_stay-requires-clause-slots : goal.stand_stay-requires-clause-slots
stand_stay-requires-clause-slots c = first_are_slots c.loop-i.i (lists_of c.args.table.now) (lists_of c.loop-i.table) c.requires.kept.slots c.loop-i.invariant.lists

pub next_moved-i-requires-in-loop-i : goal.next_moved-i-requires-in-loop-i
next_moved-i-requires-in-loop-i c =
    let t = lists_of c.args.table.now in
    let lt : c.loop-i.i < length c.args.table.now.stays.items = search rules in
    record {
      slots = first_are_slots (c.loop-i.i + 1) t (lists_of c.stand_stay.new.table) c.requires.kept.slots
          (next_stood c.loop-i.i t (lists_of c.loop-i.table) (lists_of c.stand_stay.new.table) c.requires.kept lt c.loop-i.invariant.lists c.in_ok-stand_stay.ensures.lists);
    }

pub loop-i-preserved : goal.loop-i-preserved
loop-i-preserved c =
    let t = lists_of c.args.table.now in
    let u = lists_of c.stand_stay.new.table in
    let lt : c.loop-i.i < length c.args.table.now.stays.items = search rules in
    let step : AreFirstStood (c.loop-i.i + 1) t u =
    next_stood c.loop-i.i t (lists_of c.loop-i.table) u c.requires.kept lt c.loop-i.invariant.lists c.in_ok-stand_stay.ensures.lists in
    let same : length u.stays ≡ length t.stays = step.1.stay_count in
    let more : c.loop-i.i + 1 ≤ length u.stays = omega (arith, lt, same) in
    let next = c.next_moved-i-in-loop-i in
    let most : next.result ≤ length t.stays = subst (λ (k : ℕ). next.result ≤ k) same next.ensures.most in
    record {
      past = same_again c.args.table.now c.loop-i.table c.stand_stay.new.table c.loop-i.invariant.past c.stand_stay.ensures.past;
      lists = all_rest (c.loop-i.i + 1) next.result t u c.requires.kept (next.ensures.within more) most step next.ensures.rest;
      most = most;
    }
