use Rattle.std.proofs.Common.{◌≡◌, ◌+◌, [], ◌∷◌, ap, arith, length, pos}
use Rattle.corner_joins.proofs.Attributes.AttrJoins.{count_two}
use Rattle.corner_joins.proofs.Attributes.AttrRows.{form_within}
use Rattle.corner_joins.proofs.joining.place_attr.Goals as goal

pub put-requires-clause-columns : goal.put-requires-clause-columns
put-requires-clause-columns c =
    let n = ap (λ t. length t.matrix) c.in_ok-push_attr_slots.ensures.lists in
    let two = count_two c.args.table.now.matrix.rows (record { col = c.next_slot-at.result; by = pos 1 } ∷ []) [] in
    let all : length c.push_attr_slots.new.table.matrix.rows ≡ c.next_slot-at.result + 2 = omega (arith, n, two, c.requires.kept.slots.matrix, c.next_slot-at.ensures) in
    form_within c.next_slot-at.result (length c.push_attr_slots.new.table.matrix.rows) c.in_ok-row.row c.in_ok-row.ensures.kept c.in_ok-row.ensures.form all
