use Rattle.std.proofs.Common.{rules, ℕ, ◌+◌, ◌<◌, List, length, refl, subst}
use Rattle.std.proofs.lemmas.List.{get_or_default}
use Rattle.corner_table.specs.Tables.{Lists, lists_of}
use Rattle.corner_shifts.specs.Stood.{AreFirstStood, IsStoodAt}
use Rattle.corner_shifts.proofs.Stays.ListedStays.{more_stood, next_place, none_past}
use Rattle.corner_shifts.proofs.Stays.StoodTables.{first_are_slots, next_stood, none_stood}
use Rattle.corner_table.proofs.Corners.HistoryFacts.{same_again}
use Rattle.corner_shifts.proofs.standing.listed.stand_at.Goals as goal

pub loop-k-init : goal.loop-k-init
loop-k-init c =
    let t : Lists = lists_of c.args.table.now in
    record {
      past = record { rows = refl; stays = refl; slots = refl; standings = refl; matrix = refl; attr_slots = refl; row_slots = refl; priorities = refl };
      lists = none_past t c.args.places.now c.requires.kept c.requires.rising c.requires.within c.requires.has (none_stood t c.requires.kept);
    }

pub stand_stay-requires-clause-slots : goal.stand_stay-requires-clause-slots
stand_stay-requires-clause-slots c =
    let t : Lists = lists_of c.args.table.now in
    first_are_slots (next_place t c.args.places.now c.loop-k.k) t (lists_of c.loop-k.table) c.requires.kept.slots c.loop-k.invariant.lists

pub loop-k-preserved : goal.loop-k-preserved
loop-k-preserved c =
    let t : Lists = lists_of c.args.table.now in
    let places : List ℕ = c.args.places.now in
    let k : ℕ = c.loop-k.k in
    let u : Lists = lists_of c.loop-k.table in
    let v : Lists = lists_of c.stand_stay.new.table in
    let here : k < length places = search rules in
    let stood : IsStoodAt (next_place t places k) u v =
    subst (λ (i : ℕ). IsStoodAt i u v) (get_or_default places k 0 (length t.stays) here) c.in_ok-stand_stay.ensures.lists in
    let next : AreFirstStood (next_place t places k + 1) t v =
    next_stood (next_place t places k) t u v c.requires.kept (c.requires.within k (length t.stays) here) c.loop-k.invariant.lists stood in
    record {
      past = same_again c.args.table.now c.loop-k.table c.stand_stay.new.table c.loop-k.invariant.past c.stand_stay.ensures.past;
      lists = more_stood t v places k c.requires.kept c.requires.rising c.requires.within c.requires.has here next;
    }
