use Rattle.std.proofs.Common.{◌≡◌, ◌∙◌, ◌<◌, ℤ, List, length, get_or, subst, sym, ap, arith}
use Rattle.std.proofs.Math.ListN.{set}
use Rattle.frac_core.specs.Fraction.{IsFitting}
use Rattle.row_core.specs.Rows.{Term, IsKeptRow, AllFit, coefficient}
use Rattle.row_core.proofs.Negated.{opposite, turned_more, unturned, turned_all, turned_number, opposite_kept, coefficient-opposite}
use Rattle.row_core.proofs.row.IntRow.negated.Goals as goal

pub loop-i-preserved : goal.loop-i-preserved
loop-i-preserved c =
    let t = c.index-e.result.now in
    let within : c.loop-i.i < length c.args.self = omega (arith, c.loop-i-test.true, c.len-i-end.ensures, ap (λ (row : List Term). length row) c.self.view_is) in
    let here : t ≡ get_or c.args.self c.loop-i.i t =
    c.index-e.ensures ∙ ap (λ (row : List Term). get_or row c.loop-i.i t) c.loop-i.invariant ∙ unturned c.args.self c.loop-i.i t in
    let kept : AllFit c.args.self = subst (λ (row : List Term). AllFit row) c.self.view_is c.self.invariant.fits in
    let fits : IsFitting c.e.inside.by =
    subst (λ (s : Term). IsFitting s.by) (sym here ∙ sym c.e.view_is) (kept c.loop-i.i t within) in
    let value = ap (λ (z : ℤ). record { col = c.e.inside.col.0; by = z }) (turned_number c.e.inside.by fits) ∙ ap opposite c.e.view_is in
    ap (λ (s : Term). set c.loop-i.entries.items c.loop-i.i s) value
    ∙ ap (λ (row : List Term). set row c.loop-i.i (opposite t)) c.loop-i.invariant ∙ turned_more c.args.self c.loop-i.i t within here

pub invariant_of-result : goal.invariant_of-result
invariant_of-result c =
    let end : (c.loop-i.i < length c.args.self) → ⊥ =
    λ less. absurd (omega (arith, less, c.loop-i-test.false, c.len-i-end.ensures, ap (λ (row : List Term). length row) c.self.view_is)) in
    let kept : IsKeptRow c.args.self = subst (λ (row : List Term). IsKeptRow row) c.self.view_is c.self.invariant in
    subst (λ (row : List Term). IsKeptRow row) (sym (c.loop-i.invariant ∙ turned_all c.args.self c.loop-i.i end)) (opposite_kept c.args.self kept)

pub returns-clause-value : goal.returns-clause-value
returns-clause-value c = λ q.
    let end : (c.loop-i.i < length c.args.self) → ⊥ =
    λ less. absurd (omega (arith, less, c.loop-i-test.false, c.len-i-end.ensures, ap (λ (row : List Term). length row) c.self.view_is)) in
    ap (coefficient q) (c.loop-i.invariant ∙ turned_all c.args.self c.loop-i.i end) ∙ coefficient-opposite q c.args.self

pub returns-clause-kept : goal.returns-clause-kept
returns-clause-kept c =
    let end : (c.loop-i.i < length c.args.self) → ⊥ =
    λ less. absurd (omega (arith, less, c.loop-i-test.false, c.len-i-end.ensures, ap (λ (row : List Term). length row) c.self.view_is)) in
    let kept : IsKeptRow c.args.self = subst (λ (row : List Term). IsKeptRow row) c.self.view_is c.self.invariant in
    subst (λ (row : List Term). IsKeptRow row) (sym (c.loop-i.invariant ∙ turned_all c.args.self c.loop-i.i end)) (opposite_kept c.args.self kept)
