use Rattle.std.proofs.Common.{◌≡◌, true, false, true≢false, Option, None, Some, is_some, rules, refl, sym}
use Rattle.std.specs.Prelude.{slice_index_or}
use Rattle.problem_core.specs.declared.parts.Side.{Side}
use Rattle.path_claims.proofs.MarkSides.TakenMarks.{no_line, one_more_taken, taken_line, was_free}
use Rattle.path_claims.proofs.route.take_mark.Goals as goal

some_of : (o : Option Side) → is_some o ≡ true → (side : Side) × (o ≡ Some side)
some_of None e = absurd (true≢false (sym e))
some_of (Some side) e = (side, refl)

none_of : (o : Option Side) → is_some o ≡ false → o ≡ None
none_of None e = refl
none_of (Some side) e = absurd (true≢false e)

pub returns-in_default-clause-refused : goal.returns-in_default-clause-refused
returns-in_default-clause-refused c = λ wrong p taken rest whole same are corner. no_line p c.args.names.now taken rest c.args.mark same c.in_default.ensures.none corner

pub returns-then-is_some-clause-refused : goal.returns-then-is_some-clause-refused
returns-then-is_some-clause-refused c =
    let full : is_some (slice_index_or c.args.sides.now c.in-Some.spot.at None) ≡ true = search rules in
    let side = some_of (slice_index_or c.args.sides.now c.in-Some.spot.at None) full in
    λ wrong p taken rest whole same are corner. taken_line p c.args.names.now taken rest c.args.mark c.in-Some.spot side.0 c.args.sides.now whole same c.in-Some.ensures.some side.1 are corner

pub returns-clause-taken : goal.returns-clause-taken
returns-clause-taken c =
    let free : is_some (slice_index_or c.args.sides.now c.in-Some.spot.at None) ≡ false = search rules in
    λ right p taken whole same are.
    one_more_taken p c.args.names.now taken c.args.mark c.in-Some.spot c.args.sides.now whole same c.in-Some.ensures.some (none_of (slice_index_or c.args.sides.now c.in-Some.spot.at None) free) are

pub returns-clause-fresh : goal.returns-clause-fresh
returns-clause-fresh c =
    let free : is_some (slice_index_or c.args.sides.now c.in-Some.spot.at None) ≡ false = search rules in
    λ right p taken whole same are i. was_free p c.args.names.now taken c.args.mark c.in-Some.spot c.args.sides.now same c.in-Some.ensures.some (none_of (slice_index_or c.args.sides.now c.in-Some.spot.at None) free) are i
