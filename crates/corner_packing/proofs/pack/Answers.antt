use Rattle.std.proofs.Common.{◌≡◌, ◌∙◌, List, ℕ, length, map, slice_index_or, ap, sym, subst, arith}
use Rattle.std.proofs.lemmas.Result.{on_ok_weaker}
use Rattle.row_core.specs.Renames.{place_in}
use Rattle.corner_table.specs.Invariants.{IsConsistent, names_of}
use Rattle.corner_table.specs.Tables.{lists_of}
use Rattle.corner_packing.proofs.PackedCounts.{packed_few}
use Rattle.corner_packing.proofs.PackedKept.{packed_marks, packed_problem}
use Rattle.corner_packing.proofs.PackedLists.{packed_consistent, packed_names}
use Rattle.corner_packing.proofs.pack.Goals as goal

pub rename-requires : goal.rename-requires
rename-requires c = λ k d lt.
    let within = (c.requires.slots k d lt).1 in
    let long = c.in_ok-places.ensures.length_is in
    let same = ap (λ (xs : List ℕ). length xs) c.deref.ensures.value in
    omega (arith, within, long, same)

pub returns-clause-consistent : goal.returns-clause-consistent
returns-clause-consistent c =
    on_ok_weaker c.rename.result
    (λ (renamed : c.rename.new.self ≡ map (λ w. slice_index_or c.deref.result.now w 0) c.args.listed.now).
    let is : c.rename.new.self ≡ map (λ w. place_in c.in_ok-places.places.of.items w) c.args.listed.now = renamed ∙ ap (λ (xs : List ℕ). map (λ w. slice_index_or xs w 0) c.args.listed.now) c.deref.ensures.value in
    subst (IsConsistent c.move_all.new.table) (sym is)
    (packed_consistent c.in_ok-places.places.of.items c.in_ok-places.places.count c.args.table.now c.move_all.new.table c.args.listed.now c.requires c.in_ok-places.ensures c.in_ok-move_all.ensures.packed c.move_all.ensures.before c.move_all.ensures.alike))
    c.rename.ensures

pub returns-clause-problem : goal.returns-clause-problem
returns-clause-problem c =
    on_ok_weaker c.rename.result
    (λ (renamed : c.rename.new.self ≡ map (λ w. slice_index_or c.deref.result.now w 0) c.args.listed.now).
    packed_problem c.in_ok-places.places.of.items c.in_ok-places.places.count (lists_of c.args.table.now) (lists_of c.move_all.new.table) c.in_ok-move_all.ensures.packed)
    c.rename.ensures

pub returns-clause-marks : goal.returns-clause-marks
returns-clause-marks c =
    on_ok_weaker c.rename.result
    (λ (renamed : c.rename.new.self ≡ map (λ w. slice_index_or c.deref.result.now w 0) c.args.listed.now).
    packed_marks c.in_ok-places.places.of.items c.in_ok-places.places.count (lists_of c.args.table.now) (lists_of c.move_all.new.table) c.requires.kept c.in_ok-places.ensures c.in_ok-move_all.ensures.packed)
    c.rename.ensures

pub returns-clause-names : goal.returns-clause-names
returns-clause-names c =
    on_ok_weaker c.rename.result
    (λ (renamed : c.rename.new.self ≡ map (λ w. slice_index_or c.deref.result.now w 0) c.args.listed.now).
    let is : c.rename.new.self ≡ map (λ w. place_in c.in_ok-places.places.of.items w) c.args.listed.now = renamed ∙ ap (λ (xs : List ℕ). map (λ w. slice_index_or xs w 0) c.args.listed.now) c.deref.ensures.value in
    ap (names_of (lists_of c.move_all.new.table)) is
    ∙ packed_names c.in_ok-places.places.of.items c.in_ok-places.places.count (lists_of c.args.table.now) (lists_of c.move_all.new.table) c.args.listed.now c.requires.kept c.in_ok-places.ensures c.in_ok-move_all.ensures.packed c.requires.slots c.requires.named)
    c.rename.ensures

pub returns-clause-packed : goal.returns-clause-packed
returns-clause-packed c =
    on_ok_weaker c.rename.result
    (λ (renamed : c.rename.new.self ≡ map (λ w. slice_index_or c.deref.result.now w 0) c.args.listed.now).
    packed_few c.in_ok-places.places.of.items c.in_ok-places.places.count (lists_of c.args.table.now) (lists_of c.move_all.new.table) c.requires.kept c.in_ok-places.ensures c.in_ok-move_all.ensures.packed)
    c.rename.ensures
