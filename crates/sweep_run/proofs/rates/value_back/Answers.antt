use Rattle.std.proofs.Common.{rules, ◌≡◌, pos}
use Rattle.sweep_run.proofs.Ends.{still_ratio}
use Rattle.sweep_run.proofs.rates.value_back.Goals as goal

pub returns-then-rate-eq0-clause-value : goal.returns-then-rate-eq0-clause-value
returns-then-rate-eq0-clause-value c =
    let none : c.args.rate.n ≡ pos 0 = search rules in
    still_ratio c.args.value c.args.rate.n c.args.rate.d c.args.back none
