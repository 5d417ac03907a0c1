use Rattle.std.proofs.Common.{ℕ, ◌≡◌, ◌≤◌, true, false, subst, sym}
use Rattle.problem_core.specs.Levels.{IsLevelAt}
use Rattle.corner_view.specs.Seen.{CornerView, IsLevelOf, IsStronger}
use Rattle.corner.proofs.corner.CornerTableau.is_stronger.Goals as goal

pub returns-clause-yes : goal.returns-clause-yes
returns-clause-yes c = subst (λ (v : CornerView). c.is_stronger.result ≡ true → IsStronger v.problem c.args.a c.args.b) c.self.view_is c.is_stronger.ensures.yes

pub returns-clause-no : goal.returns-clause-no
returns-clause-no c = subst (λ (v : CornerView). c.is_stronger.result ≡ false → (j k : ℕ) → IsLevelAt v.problem c.args.a j → IsLevelAt v.problem c.args.b k → k ≤ j) c.self.view_is c.is_stronger.ensures.no

pub is_stronger-requires-clause-b : goal.is_stronger-requires-clause-b
is_stronger-requires-clause-b c = subst (λ (v : CornerView). IsLevelOf v.problem c.args.b) (sym c.self.view_is) c.requires.b
