use Rattle.std.proofs.Common.{◌≡◌, ap, sym, ◌∙◌, remove}
use Rattle.name_tables.specs.Names.{names_of}
use Rattle.name_tables.proofs.NameLemmas.{names-remove}
use Rattle.name_tables.proofs.names.Names.remove.Goals as goal

pub returns-in-Some-clause-removed : goal.returns-in-Some-clause-removed
returns-in-Some-clause-removed c =
    let e : names_of c.remove.new.self ≡ remove (names_of c.self.inside.table) c.in-Some.place =
    ap names_of c.remove.ensures ∙ names-remove c.self.inside.table c.in-Some.place in
    rw (← c.self.view_is) (c.in-Some.place, sym c.in-Some.ensures.place, (λ i. record { names = e i; limit = c.self.inside.limit }))
