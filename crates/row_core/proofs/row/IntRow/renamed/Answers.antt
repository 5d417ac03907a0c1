use Rattle.std.proofs.Common.{◌≡◌, ◌≤◌, ◌∙◌, List, length, rules, sym, subst, ap}
use Rattle.std.proofs.lemmas.List.{take_all}
use Rattle.row_core.specs.Rows.{Term, IsKeptRow}
use Rattle.row_core.specs.Renames.{renamed}
use Rattle.row_core.proofs.Renames.{renamed_kept}
use Rattle.row_core.proofs.row.IntRow.renamed.Goals as goal

pub invariant_of-result : goal.invariant_of-result
invariant_of-result c =
    let same : c.as_slice-e-items.result.now ≡ c.args.self.now = c.as_slice-e-items.ensures.value ∙ c.self.view_is in
    let end : length c.as_slice-e-items.result.now ≤ c.loop-e.e-index = search rules in
    let all : c.loop-e.entries.items ≡ renamed c.args.places.now c.args.self.now =
    c.loop-e.invariant
    ∙ ap (λ (row : List Term). renamed c.args.places.now row) (take_all c.loop-e.e-index c.args.self.now (subst (λ (row : List Term). length row ≤ c.loop-e.e-index) same end)) in
    let kept : IsKeptRow c.args.self.now = subst (λ (row : List Term). IsKeptRow row) c.self.view_is c.self.invariant in
    subst (λ (row : List Term). IsKeptRow row) (sym all) (renamed_kept c.args.places.now c.args.self.now kept c.requires)

pub returns-clause-kept : goal.returns-clause-kept
returns-clause-kept c = invariant_of-result c
