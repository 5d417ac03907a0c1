use Rattle.std.specs.Prelude.{◌≡◌, Contains, pos}
use Rattle.std.proofs.lemmas.List.Elements.{recursion_from_All}
use Rattle.stay_orders.proofs.Turned.{turns}
use Rattle.stay_orders.proofs.laws.only_fronted_turn.Goals as goal

pub returns : goal.returns
returns c = λ f attrs stays h. turns f attrs stays (recursion_from_All (λ s. Contains attrs s.attr → f s ≡ pos 0) stays h)
