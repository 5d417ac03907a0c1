use Rattle.std.proofs.Common.{rules, SFits, to_z, of_z, ◌≡◌, ◌∙◌, ◌*ℤ◌, ◌-ℤ◌, inl, inr, ℤ, pos, neg_ℤ, sym, ap, ap₂, subst, unsigned_abs}
use Rattle.std.specs.Int.{w64, w128}
use Rattle.std.proofs.lemmas.Int.{to_z-of_z}
use Rattle.frac_core.specs.Fraction.{IsFitting}
use Rattle.problem_core.specs.Changes.Stops.{TableStop}
use Rattle.row_core.specs.Rows.{IsKeptRow, IsReduced, IsUnfit}
use Rattle.row_core.specs.Combinations.{IsFactor, combination_but}
use Rattle.row_core.specs.declared.entry.Factors.{Factors}
use Rattle.row_core.specs.declared.entry.Patch.{Patch}
use Rattle.frac_core.specs.Stops.{IsRefused}
use Rattle.corner_view.specs.Stops.{IsUnfitStop}
use Rattle.corner_exchange.specs.Swaps.Exchanges.{IsPivotStop, marks_after, signed}
use Rattle.corner_exchange.specs.Swaps.LevelChanges.{level_sum}
use Rattle.corner_table.specs.Tables.{lists_of, problem_of}
use Rattle.corner_exchange.proofs.Pivots.LineSlots.{err_of, ok_of, read_row}
use Rattle.corner_exchange.proofs.Pivots.LevelSwaps.{size_of}
use Rattle.corner_exchange.proofs.LevelFacts.LevelWords.{negated_factor, negated_is}
use Rattle.corner_exchange.proofs.Pivots.LevelCosts.{AreSumNumbers, row_stop, sum_reduced, sum_unfit}
use Rattle.corner_exchange.proofs.exchange.level_row.Goals as goal
use Rattle.frac_core.proofs.Results.{ok_implies, err_implies as err_all}

pub combine_but-requires-clause-n : goal.combine_but-requires-clause-n
combine_but-requires-clause-n c =
    let f : SFits w128 c.from-2.result = search rules in
    let e : c.from-2.result ≡ c.signed.result = search rules in
    negated_factor c.from-2.result c.signed.result f e c.signed.ensures.fits

pub combine_but-requires-clause-extra : goal.combine_but-requires-clause-extra
combine_but-requires-clause-extra c =
    let f : SFits w128 c.product.result = search rules in
    let size : SFits w64 c.size-size.result = search rules in
    let leaving : SFits w64 c.leaving_at.result = search rules in
    let factor : IsFactor c.product.result = (simp to_z-of_z at c.product.ensures.factor) c.size-size.ensures.fits c.leaving_at.ensures.fits in
    subst IsFactor (sym (to_z-of_z w128 c.product.result f)) factor

abbrev factors : goal.After-named_row → Factors
factors c = record { k = to_z w128 (of_z w128 c.from.result); n = to_z w128 (of_z w128 (pos 0 -ℤ to_z w128 (of_z w128 c.from-2.result))) }

abbrev patch : goal.After-named_row → Patch
patch c = record { without = record { 0 = c.from-3.result }; at = record { 0 = c.from-4.result }; extra = to_z w128 (of_z w128 c.product.result) }

size-is : (c : goal.After-named_row) → c.size-size.result ≡ pos (size_of (lists_of c.args.table.now) c.args.pivot.now.pair)
size-is c =
    let fits : IsFitting c.args.pivot.now.by = c.requires.pivot.is.fits in
    let by : SFits w64 c.args.pivot.now.by = search rules in
    (simp to_z-of_z at c.size-size.ensures.value) ∙ ap (λ (z : ℤ). pos (unsigned_abs z)) c.requires.pivot.is.by

numbers : (c : goal.After-named_row) → AreSumNumbers (lists_of c.args.table.now) c.args.pivot.now.pair c.args.l (factors c) (patch c) c.row-r.result.now c.row-p.result.now
numbers c =
    let fits : IsFitting c.args.pivot.now.by = c.requires.pivot.is.fits in
    let by : SFits w64 c.args.pivot.now.by = search rules in
    let entering : SFits w64 c.args.c = search rules in
    let leaving : SFits w64 c.leaving_at.result = search rules in
    let size : SFits w64 c.size-size.result = search rules in
    let f1 : SFits w128 c.from.result = search rules in
    let f2 : SFits w128 c.from-2.result = search rules in
    let f3 : SFits w128 c.product.result = search rules in
    let e1 : c.from.result ≡ c.size-size.result = search rules in
    let e2 : c.from-2.result ≡ c.signed.result = search rules in
    let e3 : c.from-3.result ≡ c.args.pivot.now.pair.enter = search rules in
    let e4 : c.from-4.result ≡ c.args.pivot.now.pair.leave = search rules in
    record {
      size = to_z-of_z w128 c.from.result f1 ∙ e1 ∙ size-is c;
      number = negated_is c.from-2.result c.signed.result f2 e2 c.signed.ensures.fits ∙ ap neg_ℤ ((simp to_z-of_z at c.signed.ensures.value) ∙ ap₂ signed c.requires.pivot.is.by c.requires.entering);
      without = e3;
      place = e4;
      extra = to_z-of_z w128 c.product.result f3 ∙ (simp to_z-of_z at c.product.ensures.value) ∙ ap₂ ◌*ℤ◌ (size-is c) c.leaving_at.ensures.value;
      row = read_row c.args.table.now.matrix.rows c.args.l c.row-r.result.now c.row-r.ensures.value;
      pivot = read_row c.args.table.now.matrix.rows c.args.pivot.now.pair.leave c.row-p.result.now c.row-p.ensures.value;
    }

pub returns-clause-ok : goal.returns-clause-ok
returns-clause-ok c =
    let t = lists_of c.args.table.now in
    ok_implies c.named_row.result _ (λ row. IsReduced row (level_sum (lists_of c.args.table.now) c.args.pivot.now.pair c.args.l))
    (λ row e. sum_reduced t c.args.pivot.now.pair c.args.l (factors c) (patch c) c.row-r.result.now c.row-p.result.now row (numbers c)
    (ok_of c.combine_but.result row (λ made. IsReduced made (combination_but (factors c) c.row-r.result.now c.row-p.result.now (patch c))) e c.combine_but.ensures.value))
    c.named_row.ensures.ok

pub returns-clause-kept : goal.returns-clause-kept
returns-clause-kept c = ok_implies c.named_row.result _ IsKeptRow (λ row e. ok_of c.combine_but.result row IsKeptRow e c.combine_but.ensures.kept) c.named_row.ensures.ok

pub returns-clause-stop : goal.returns-clause-stop
returns-clause-stop c =
    let t = lists_of c.args.table.now in
    err_all c.named_row.result _ (IsPivotStop (lists_of c.args.table.now) c.args.pivot.now)
    (λ stop h s at. elim h [
      | inl e ↦ subst (λ (x : TableStop). IsUnfitStop (problem_of (lists_of c.args.table.now)) (marks_after (lists_of c.args.table.now) s) x) (sym e) tt
      | inr (e, made) ↦
          row_stop t c.args.pivot.now c.args.l stop c.requires.pivot.kept c.requires.level.0 c.requires.level.1 (e ∙ c.requires.stop)
          (sum_unfit t c.args.pivot.now.pair c.args.l (factors c) (patch c) c.row-r.result.now c.row-p.result.now (numbers c)
          (err_of c.combine_but.result made.0 (λ (x : _). IsRefused x → IsUnfit (combination_but (factors c) c.row-r.result.now c.row-p.result.now (patch c))) made.1 c.combine_but.ensures.unfit made.2)) s at
    ])
    c.named_row.ensures.err
