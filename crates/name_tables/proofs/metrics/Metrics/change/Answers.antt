use Rattle.std.specs.Str.{bytes_eq}
use Rattle.std.proofs.lemmas.Map.{length-set_value}
use Rattle.name_tables.proofs.metrics.Metrics.change.Goals as goal

pub invariant_of-self : goal.invariant_of-self
invariant_of-self c = rw (c.set.ensures, length-set_value (bytes_eq c.args.name.now) c.self.inside.table c.args.value) c.self.invariant
