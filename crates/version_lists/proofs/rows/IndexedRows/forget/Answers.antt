use Rattle.std.proofs.Common.{◌≡◌, ◌-◌, length, arith, ap}
use Rattle.version_lists.specs.Matrices.{Matrices}
use Rattle.version_lists.proofs.Indexing.{as_many, take_indexed}
use Rattle.version_lists.proofs.rows.IndexedRows.forget.Goals as goal

pub forget-requires-2 : goal.forget-requires-2
forget-requires-2 c =
    let seen : length c.self.inside.rows.before ≡ length c.args.self.now.before =
    ap (λ (m : Matrices). length m.before) c.self.view_is in
    omega (arith, seen, c.requires, as_many c.self.inside.rows.before c.self.inside.lists.before c.self.invariant.before)

pub invariant_of-self : goal.invariant_of-self
invariant_of-self c = record {
  now = rw (c.forget.ensures.items, c.forget-2.ensures.items) c.self.invariant.now;
  before =
      rw (c.forget.ensures.before, c.forget-2.ensures.before, as_many c.self.inside.rows.before c.self.inside.lists.before c.self.invariant.before)
      (take_indexed (length c.self.inside.rows.before - 1) c.self.inside.rows.before c.self.inside.lists.before c.self.invariant.before);
}
