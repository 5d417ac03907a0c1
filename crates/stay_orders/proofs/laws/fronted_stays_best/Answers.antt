use Rattle.std.specs.Prelude.{pos, ◌≡◌}
use Rattle.std.proofs.lemmas.List.Elements.{recursion_from_All, All-from_recursion}
use Rattle.problem_core.specs.Layout.{gap, line_of_stay}
use Rattle.problem_core.proofs.Best.Targets.{still-IsBest}
use Rattle.stay_orders.specs.Orders.{with_front}
use Rattle.stay_orders.proofs.Orders.{front_each}
use Rattle.stay_orders.proofs.laws.fronted_stays_best.Goals as goal

pub returns : goal.returns
returns c = λ p is x best attrs stays stand whole. still-IsBest p is x best (with_front attrs stays)
    (All-from_recursion (λ s. gap x (line_of_stay 0 s) ≡ pos 0) (with_front attrs stays)
    (front_each (λ s. gap x (line_of_stay 0 s) ≡ pos 0) attrs stays
    (recursion_from_All (λ s. gap x (line_of_stay 0 s) ≡ pos 0) stays stand))) whole
