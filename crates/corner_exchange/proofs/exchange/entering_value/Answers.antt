use Rattle.std.proofs.Common.{rules, SFits, w64, ◌≡◌, ◌∙◌, ◌*ℤ◌, ℤ, pos, sym, ap, ap₂, subst, unsigned_abs}
use Rattle.std.proofs.lemmas.Int.{to_z-of_z}
use Rattle.problem_core.specs.declared.parts.Side.{Side}
use Rattle.problem_core.specs.Changes.Stops.{TableStop}
use Rattle.frac_core.specs.declared.memory.Stop.TheVariants.{Refused}
use Rattle.problem_core.specs.declared.stops.Quantity.TheVariants.{Plain}
use Rattle.frac_core.specs.Fraction.{IsKept, IsLowest}
use Rattle.problem_core.specs.Corners.{Swap}
use Rattle.problem_core.specs.declared.stops.What.{What}
use Rattle.problem_core.specs.declared.stops.What.TheVariants.{Mark as MarkOf}
use Rattle.corner_view.specs.Stops.{IsUnfitStop}
use Rattle.corner_table.specs.Tables.{entry, lists_of, problem_of}
use Rattle.corner_exchange.specs.Swaps.Exchanges.{IsEntering, IsPair, marks_after, signed}
use Rattle.corner_exchange.proofs.Pivots.PivotFacts.{AreNumbers, enter_owner, entering, entering_unfit, size_above}
use Rattle.corner_exchange.proofs.exchange.entering_value.Goals as goal
use Rattle.frac_core.proofs.Results.{ok_implies, err_implies as err_all}
use Rattle.frac_core.proofs.Lists.{ok-both as ok_both}

is-size : (c : goal.After-value_at) → c.size.result ≡ pos (unsigned_abs (entry (lists_of c.args.table.now) c.args.pair.leave c.args.pair.enter))
is-size c = (simp (to_z-of_z, c.ranges.by) at c.size.ensures.value) ∙ ap (λ (z : ℤ). pos (unsigned_abs z)) c.requires.by

pub named_sum-requires-clause-above : goal.named_sum-requires-clause-above
named_sum-requires-clause-above c =
    let fits : SFits w64 c.size.result = search rules in
    simp to_z-of_z (size_above (entry (lists_of c.args.table.now) c.args.pair.leave c.args.pair.enter) c.size.result c.requires.pair.is.stands (is-size c))

signed-is : (c : goal.After-value_at) → c.signed-own.result ≡ signed (entry (lists_of c.args.table.now) c.args.pair.leave c.args.pair.enter) (entry (lists_of c.args.table.now) c.args.pair.leave c.args.pair.leave)
signed-is c =
    let by : SFits w64 c.args.by = search rules in
    let fits : SFits w64 c.own_of.result = search rules in
    (simp to_z-of_z at c.signed-own.ensures.value) ∙ ap₂ signed c.requires.by c.own_of.ensures.value

numbers : (c : goal.After-value_at) → AreNumbers (lists_of c.args.table.now) c.args.pair c.zero.result c.value_at.result c.with_signs-n.result c.size.result
numbers c =
    let own : SFits w64 c.signed-own.result = search rules in
    let one : SFits w64 c.sign.result = search rules in
    let two : SFits w64 c.sign-2.result = search rules in
    record {
      zero_num = c.zero.ensures.num;
      zero_den = c.zero.ensures.den;
      value_is = c.value_at.ensures;
      size_is = is-size c;
      side = c.side_in.result;
      inside = c.side_in.ensures;
      number = (simp to_z-of_z at c.with_signs-n.ensures.value) ∙ ap₂ ◌*ℤ◌ (ap₂ ◌*ℤ◌ (signed-is c) c.sign.ensures.value) c.sign-2.ensures.value;
    }

pub returns-clause-ok : goal.returns-clause-ok
returns-clause-ok c =
    let n : SFits w64 c.with_signs-n.result = search rules in
    let d : SFits w64 c.size.result = search rules in
    ok_both c.named_sum.result _ IsKept (λ value. (s : Swap) → IsPair (lists_of c.args.table.now) c.args.pair s → IsEntering (lists_of c.args.table.now) c.args.pair s value)
    (λ f ratio kept s are. entering (lists_of c.args.table.now) c.args.pair s c.zero.result c.value_at.result f c.with_signs-n.result c.size.result c.requires.pair.kept are (numbers c.before) kept.lowest.above (simp to_z-of_z at ratio))
    c.named_sum.ensures.ok c.named_sum.ensures.kept

pub returns-clause-lowest : goal.returns-clause-lowest
returns-clause-lowest c = ok_implies c.named_sum.result IsKept IsLowest (λ f kept. kept.lowest) c.named_sum.ensures.kept

what-is : (c : goal.After-named_sum) (s : Swap) → IsPair (lists_of c.args.table.now) c.args.pair s → c.unfit-stop.result ≡ Refused (Plain (MarkOf s.enter))
what-is c s are =
    c.unfit-stop.ensures ∙ ap (λ (w : What). Refused (Plain w)) (c.what_at.ensures.line s.enter.row (enter_owner (lists_of c.args.table.now) c.args.pair s c.requires.pair.kept.slots are) ∙ ap (λ (d : Side). MarkOf (record { row = s.enter.row; side = d })) (sym are.enter_side))

pub returns-clause-stop : goal.returns-clause-stop
returns-clause-stop c =
    let n : SFits w64 c.with_signs-n.result = search rules in
    let d : SFits w64 c.size.result = search rules in
    err_all c.named_sum.result _ (λ stop. (s : Swap) → IsPair (lists_of c.args.table.now) c.args.pair s → IsUnfitStop (problem_of (lists_of c.args.table.now)) (marks_after (lists_of c.args.table.now) s) stop)
    (λ stop h s are. subst (λ (e : TableStop). IsUnfitStop (problem_of (lists_of c.args.table.now)) (marks_after (lists_of c.args.table.now) s) e) (sym (h.0 ∙ what-is c s are))
    (entering_unfit (lists_of c.args.table.now) c.args.pair s c.zero.result c.value_at.result c.with_signs-n.result c.size.result c.requires.pair.kept are (numbers c.before) (simp to_z-of_z at h.1)))
    c.named_sum.ensures.err
