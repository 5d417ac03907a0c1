use Rattle.std.proofs.Common.{rules, SFits, to_z, of_z, ◌≡◌, ◌∙◌, inl, inr, pos, refl, sym, ap, subst}
use Rattle.std.specs.Int.{w128}
use Rattle.std.proofs.lemmas.Int.{to_z-of_z}
use Rattle.problem_core.specs.Changes.Stops.{TableStop}
use Rattle.row_core.specs.Rows.{IsReduced, IsUnfit}
use Rattle.row_core.specs.Combinations.{combination_but}
use Rattle.row_core.specs.declared.entry.Factors.{Factors}
use Rattle.row_core.specs.declared.entry.Patch.{Patch}
use Rattle.frac_core.specs.Stops.{IsRefused}
use Rattle.corner_table.specs.declared.table.Slot.{Slot}
use Rattle.corner_view.specs.Stops.{IsUnfitStop}
use Rattle.corner_exchange.specs.Swaps.Exchanges.{marks_after}
use Rattle.corner_table.specs.Tables.{entry, lists_of, problem_of, row_at}
use Rattle.corner_exchange.specs.Swaps.TurnedLevels.{IsTurnStop, turned_sum}
use Rattle.corner_exchange.proofs.Pivots.LineSlots.{err_of, ok_of, read_row}
use Rattle.corner_exchange.proofs.Swaps.TurnedChanges.{AreTurnNumbers, turn_reduced, turn_row_stop}
use Rattle.corner_exchange.proofs.exchange.turning.turning_row.Goals as goal
use Rattle.frac_core.proofs.Results.{ok_implies, err_implies as err_all}

abbrev factors : goal.After-named_row → Factors
factors c = record { k = to_z w128 (of_z w128 c.from.result); n = to_z w128 (of_z w128 c.from-2.result) }

abbrev patch : goal.After-named_row → Patch
patch c = record { without = record { 0 = c.from-3.result }; at = record { 0 = c.from-4.result }; extra = pos 0 }

numbers : (c : goal.After-named_row) → AreTurnNumbers (lists_of c.args.table.now) c.args.line c.args.side (factors c) (patch c) c.row-r.result.now c.row-p.result.now
numbers c =
    let f1 : SFits w128 c.from.result = search rules in
    let f2 : SFits w128 c.from-2.result = search rules in
    let e1 : c.from.result ≡ entry (lists_of c.args.table.now) c.args.line c.args.line = search rules in
    let e2 : c.from-2.result ≡ c.turning_at.result = search rules in
    let e3 : c.from-3.result ≡ c.args.line = search rules in
    record {
      size = to_z-of_z w128 c.from.result f1 ∙ e1;
      number = to_z-of_z w128 c.from-2.result f2 ∙ e2 ∙ c.turning_at.ensures.value;
      without = e3;
      extra = refl;
      row = ap (λ (s : Slot). row_at (lists_of c.args.table.now) s.home) (sym c.slot_at-home.ensures) ∙ read_row c.args.table.now.matrix.rows c.slot_at-home.result.home c.row-r.result.now c.row-r.ensures.value;
      own = read_row c.args.table.now.matrix.rows c.args.line c.row-p.result.now c.row-p.ensures.value;
    }

pub returns-clause-ok : goal.returns-clause-ok
returns-clause-ok c =
    ok_implies c.named_row.result _ (λ row. IsReduced row (turned_sum (lists_of c.args.table.now) c.args.line c.args.side))
    (λ row e. turn_reduced (lists_of c.args.table.now) c.args.line c.args.side (factors c) (patch c) c.row-r.result.now c.row-p.result.now row (numbers c)
    (ok_of c.combine_but.result row (λ made. IsReduced made (combination_but (factors c) c.row-r.result.now c.row-p.result.now (patch c))) e c.combine_but.ensures.value))
    c.named_row.ensures.ok

pub returns-clause-stop : goal.returns-clause-stop
returns-clause-stop c =
    err_all c.named_row.result _ (IsTurnStop (lists_of c.args.table.now) c.args.line c.args.side)
    (λ stop h s turn. elim h [
      | inl e ↦ subst (λ (x : TableStop). IsUnfitStop (problem_of (lists_of c.args.table.now)) (marks_after (lists_of c.args.table.now) s) x) (sym e) tt
      | inr (e, made) ↦
          turn_row_stop (lists_of c.args.table.now) c.args.line c.args.side (factors c) (patch c) c.row-r.result.now c.row-p.result.now stop c.requires.turn.kept c.requires.count.level (e ∙ c.requires.stop) (numbers c)
          (err_of c.combine_but.result made.0 (λ (x : _). IsRefused x → IsUnfit (combination_but (factors c) c.row-r.result.now c.row-p.result.now (patch c))) made.1 c.combine_but.ensures.unfit made.2) s turn
    ])
    c.named_row.ensures.err
