use Rattle.std.proofs.Common.{rules, SFits, w64, ◌≡◌, ◌∙◌, ◌<ℤ◌, ◌*ℤ◌, inl, inr, ℤ, pos, neg_ℤ, ap, sym, subst, unsigned_abs}
use Rattle.std.specs.Int.{w128}
use Rattle.std.proofs.lemmas.Int.{to_z-of_z}
use Rattle.row_core.specs.Rows.{IsKeptRow}
use Rattle.corner_lines.specs.LineEquations.{sign_of}
use Rattle.corner_table.specs.Tables.{lists_of}
use Rattle.corner_leaving.specs.Leaving.{IsLeftRow, IsLeftStop, left_count}
use Rattle.corner_exchange.proofs.Pivots.LineSlots.{err_of, ok_of, read_row}
use Rattle.corner_writings.proofs.LevelFacts.LevelReadFacts.{fitting_cost}
use Rattle.corner_exchange.proofs.LevelFacts.LevelWords.{product_fits, product_is}
use Rattle.corner_leaving.proofs.Removals.LeavingEnds.{level_above, line_above, made_row, made_unfit, signed_cost}
use Rattle.corner_leaving.proofs.leaving.left_row.Goals as goal
use Rattle.frac_core.proofs.Results.{ok_implies, err_implies as err_all}

pub overflow_mul-count : goal.overflow_mul-count
overflow_mul-count c =
    let a : SFits w64 c.leaving_count.result = search rules in
    let b : SFits w64 c.sign.result = search rules in
    product_fits c.leaving_count.result c.sign.result (pos (left_count (lists_of c.args.table.now) c.args.leaver)) (sign_of c.args.leaver.side) a b c.leaving_count.ensures.value c.sign.ensures.value
    (fitting_cost (pos (left_count (lists_of c.args.table.now) c.args.leaver) *ℤ sign_of c.args.leaver.side) (signed_cost (lists_of c.args.table.now) c.requires.leaver.0 c.args.leaver (record { kept = c.requires.kept; is = c.requires.leaver.1 })))

pub common_factors-k-requires-clause-own : goal.common_factors-k-requires-clause-own
common_factors-k-requires-clause-own c =
    let o : SFits w64 c.own_of-own.result = search rules in
    simp to_z-of_z (subst (λ (z : ℤ). pos 0 <ℤ z) (sym c.own_of-own.ensures.value) (level_above (lists_of c.args.table.now) c.requires.leaver.0 c.args.leaver (record { kept = c.requires.kept; is = c.requires.leaver.1 })))

pub common_factors-k-requires-clause-other : goal.common_factors-k-requires-clause-other
common_factors-k-requires-clause-other c =
    let o : SFits w64 c.own_of.result = search rules in
    simp to_z-of_z (subst (λ (z : ℤ). pos 0 <ℤ z) (sym c.own_of.ensures.value) (line_above (lists_of c.args.table.now) c.requires.leaver.0 c.args.leaver (record { kept = c.requires.kept; is = c.requires.leaver.1 })))

pub growth-requires-clause-own : goal.growth-requires-clause-own
growth-requires-clause-own c =
    let o : SFits w64 c.own_of-own.result = search rules in
    simp to_z-of_z (subst (λ (z : ℤ). pos 0 <ℤ z) (sym c.own_of-own.ensures.value) (level_above (lists_of c.args.table.now) c.requires.leaver.0 c.args.leaver (record { kept = c.requires.kept; is = c.requires.leaver.1 })))

pub returns-clause-kept : goal.returns-clause-kept
returns-clause-kept c = ok_implies c.named_row.result _ IsKeptRow (λ row e. ok_of c.combine_but.result row IsKeptRow e c.combine_but.ensures.kept) c.named_row.ensures.ok

pub returns-clause-ok : goal.returns-clause-ok
returns-clause-ok c =
    let u : SFits w64 c.args.unit = c.ranges.unit in
    let o : SFits w64 c.own_of-own.result = search rules in
    let l : SFits w64 c.own_of.result = search rules in
    let n : SFits w64 c.opposite.result = search rules in
    let t : SFits w64 c.times_of.result = search rules in
    let k : SFits w128 c.common_factors-k.result.k = search rules in
    let m : SFits w128 c.common_factors-k.result.n = search rules in
    let g : SFits w128 c.growth.result = search rules in
    let a : SFits w64 c.leaving_count.result = search rules in
    let b : SFits w64 c.sign.result = search rules in
    let count : c.opposite.result ≡ neg_ℤ (pos (left_count (lists_of c.args.table.now) c.args.leaver) *ℤ sign_of c.args.leaver.side) =
    c.opposite.ensures.value
    ∙ ap neg_ℤ (product_is c.leaving_count.result c.sign.result (pos (left_count (lists_of c.args.table.now) c.args.leaver)) (sign_of c.args.leaver.side) a b c.leaving_count.ensures.value c.sign.ensures.value
    (fitting_cost (pos (left_count (lists_of c.args.table.now) c.args.leaver) *ℤ sign_of c.args.leaver.side) (signed_cost (lists_of c.args.table.now) c.requires.leaver.0 c.args.leaver (record { kept = c.requires.kept; is = c.requires.leaver.1 })))) in
    let times = simp to_z-of_z at c.times_of.ensures.times in
    ok_implies c.named_row.result _ (IsLeftRow (lists_of c.args.table.now) c.args.leaver (unsigned_abs c.args.unit))
    (λ row e. made_row (lists_of c.args.table.now) c.requires.leaver.0 c.args.leaver c.args.unit c.own_of-own.result c.own_of.result c.opposite.result c.times_of.result c.common_factors-k.result _ c.row-level.result.now c.row-line.result.now row (record { kept = c.requires.kept; is = c.requires.leaver.1 })
    (simp to_z-of_z at (ok_of c.combine_but.result row _ e c.combine_but.ensures.value))
    (record {
      left_unit = c.requires.unit;
      own_is = c.own_of-own.ensures.value;
      line_is = c.own_of.ensures.value;
      count_is = count;
      factors = simp to_z-of_z at c.common_factors-k.ensures.share;
      size = times.0;
      times_is = times.1;
      times_above = times.2;
      whole = times.3;
      extra = simp to_z-of_z at c.growth.ensures.value;
      without = c.from.ensures;
      at_is = c.from-2.ensures;
      level_row = read_row c.args.table.now.matrix.rows c.args.leaver.level c.row-level.result.now c.row-level.ensures.value;
      line_row = read_row c.args.table.now.matrix.rows c.args.leaver.line c.row-line.result.now c.row-line.ensures.value;
    })
    (ok_of c.combine_but.result row IsKeptRow e c.combine_but.ensures.kept).lowest)
    c.named_row.ensures.ok

pub returns-clause-err : goal.returns-clause-err
returns-clause-err c =
    let u : SFits w64 c.args.unit = c.ranges.unit in
    let o : SFits w64 c.own_of-own.result = search rules in
    let l : SFits w64 c.own_of.result = search rules in
    let n : SFits w64 c.opposite.result = search rules in
    let t : SFits w64 c.times_of.result = search rules in
    let k : SFits w128 c.common_factors-k.result.k = search rules in
    let m : SFits w128 c.common_factors-k.result.n = search rules in
    let g : SFits w128 c.growth.result = search rules in
    let a : SFits w64 c.leaving_count.result = search rules in
    let b : SFits w64 c.sign.result = search rules in
    let count : c.opposite.result ≡ neg_ℤ (pos (left_count (lists_of c.args.table.now) c.args.leaver) *ℤ sign_of c.args.leaver.side) =
    c.opposite.ensures.value
    ∙ ap neg_ℤ (product_is c.leaving_count.result c.sign.result (pos (left_count (lists_of c.args.table.now) c.args.leaver)) (sign_of c.args.leaver.side) a b c.leaving_count.ensures.value c.sign.ensures.value
    (fitting_cost (pos (left_count (lists_of c.args.table.now) c.args.leaver) *ℤ sign_of c.args.leaver.side) (signed_cost (lists_of c.args.table.now) c.requires.leaver.0 c.args.leaver (record { kept = c.requires.kept; is = c.requires.leaver.1 })))) in
    let times = simp to_z-of_z at c.times_of.ensures.times in
    err_all c.named_row.result _ (IsLeftStop (lists_of c.args.table.now) c.args.leaver c.args.stop)
    (λ stop h. elim h [
      | inl e ↦ inl e
      | inr (e, made) ↦ inr (
        e,
        made_unfit (lists_of c.args.table.now) c.requires.leaver.0 c.args.leaver c.args.unit c.own_of-own.result c.own_of.result c.opposite.result c.times_of.result c.common_factors-k.result _ c.row-level.result.now c.row-line.result.now (record { kept = c.requires.kept; is = c.requires.leaver.1 })
            (simp to_z-of_z at (err_of c.combine_but.result made.0 _ made.1 c.combine_but.ensures.unfit made.2))
            (record {
              left_unit = c.requires.unit;
              own_is = c.own_of-own.ensures.value;
              line_is = c.own_of.ensures.value;
              count_is = count;
              factors = simp to_z-of_z at c.common_factors-k.ensures.share;
              size = times.0;
              times_is = times.1;
              times_above = times.2;
              whole = times.3;
              extra = simp to_z-of_z at c.growth.ensures.value;
              without = c.from.ensures;
              at_is = c.from-2.ensures;
              level_row = read_row c.args.table.now.matrix.rows c.args.leaver.level c.row-level.result.now c.row-level.ensures.value;
              line_row = read_row c.args.table.now.matrix.rows c.args.leaver.line c.row-line.result.now c.row-line.ensures.value;
            }),
      )
    ])
    c.named_row.ensures.err
