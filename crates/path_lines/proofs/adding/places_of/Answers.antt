use Rattle.std.proofs.Common.{◌≡◌, ◌++◌, [], ◌∷◌, pos, rules}
use Rattle.path_lines.specs.Numbers.{number_at}
use Rattle.path_lines.proofs.Arithmetic.AddedNumbers.{places_push, places_skip}
use Rattle.path_lines.proofs.adding.places_of.Goals.{then-number-ne0+in_ok-push, else-number-ne0}
use Rattle.path_lines.proofs.adding.places_of.Goals as goal

pub loop-at-preserved : goal.loop-at-preserved
loop-at-preserved c = elim c.if-number-ne0.branch [
  | then-number-ne0+in_ok-push w ↦
      let pushed : w.push.new.self.items ≡ c.loop-at.out.items ++ c.loop-at.at ∷ [] = search rules in
      rw (w.out-is, pushed) (places_push c.loop-at.at c.args.numbers.now c.loop-at.out.items c.loop-at.invariant)
  | else-number-ne0 w ↦
      let none : number_at c.args.numbers.now c.loop-at.at ≡ pos 0 = search rules in
      rw w.out-is (places_skip c.loop-at.at c.args.numbers.now c.loop-at.out.items none c.loop-at.invariant)
]
