use Rattle.std.proofs.Common.{◌≡◌, ◌∙◌, subst, sym, inl, List, ℕ}
use Rattle.version_lists.specs.Indexes.{IsColumnOf, list_at}
use Rattle.version_lists.proofs.Columns.{own_list}
use Rattle.version_lists.proofs.Indexing.{slots_within}
use Rattle.version_lists.proofs.rows.IndexedRows.column.Goals as goal

pub returns-clause-value : goal.returns-clause-value
returns-clause-value c =
    let is : c.as_slice.result.now ≡ list_at c.self.inside.lists.items c.args.c =
    c.as_slice.ensures.value ∙ own_list c.self.inside.lists.items c.args.c c.get.result.now (inl c.get.ensures) in
    rw (← c.self.view_is) (subst (λ (list : List ℕ). IsColumnOf c.self.inside.rows.items c.args.c list) (sym is) (c.self.invariant.now.columns c.args.c))

pub returns-clause-slots : goal.returns-clause-slots
returns-clause-slots c =
    let is : c.as_slice.result.now ≡ list_at c.self.inside.lists.items c.args.c =
    c.as_slice.ensures.value ∙ own_list c.self.inside.lists.items c.args.c c.get.result.now (inl c.get.ensures) in
    rw (← c.self.view_is)
    (slots_within c.self.inside.rows.items c.args.c c.as_slice.result.now
    (subst (λ (list : List ℕ). IsColumnOf c.self.inside.rows.items c.args.c list) (sym is) (c.self.invariant.now.columns c.args.c)))
