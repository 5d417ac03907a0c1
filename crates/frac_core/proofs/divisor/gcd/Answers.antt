use Rattle.std.proofs.Common.{ℕ, subst, sym}
use Rattle.std.specs.Int.{IsGcd}
use Rattle.std.proofs.lemmas.Nat.Gcd.{IsGcd-from_zero, IsGcd-from_mod}
use Rattle.frac_core.proofs.divisor.gcd.Goals as goal

pub loop-y-preserved : goal.loop-y-preserved
loop-y-preserved c = λ g h. c.loop-y.invariant g (IsGcd-from_mod _ _ g h)

pub returns-then-y-eq0 : goal.returns-then-y-eq0
returns-then-y-eq0 c = c.loop-y.invariant c.loop-y.x (IsGcd-from_zero c.loop-y.x c.loop-y.y c.if-y-eq0.true)

pub returns : goal.returns
returns c =
    let is : IsGcd c.args.a c.args.b c.word_gcd-2.result = c.loop-y.invariant c.word_gcd-2.result (IsGcd-from_mod c.loop-y.x c.loop-y.y c.word_gcd-2.result c.word_gcd-2.ensures) in
    subst (λ (g : ℕ). IsGcd c.args.a c.args.b g) (sym c.from-2.ensures) is

pub returns-then-b-lt-WORD : goal.returns-then-b-lt-WORD
returns-then-b-lt-WORD c =
    let is : IsGcd c.args.a c.args.b c.word_gcd.result = c.word_gcd.ensures in
    subst (λ (g : ℕ). IsGcd c.args.a c.args.b g) (sym c.from.ensures) is
