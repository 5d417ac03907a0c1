use Rattle.std.proofs.Common.{◌<◌, ◌^◌, ◌*ℤ◌, pos, IfSome, IfNone, rules}
use Rattle.std.specs.Int.RustNames.{unsigned_abs}
use Rattle.frac_core.specs.Fraction.{Fraction, IsLowest, IsRatio}
use Rattle.constraint_compile.specs.Suggestions.{scale_of}
use Rattle.constraint_compile.proofs.RowConstants.SuggestedConstants.{some-constant, small-constant, no-constant}
use Rattle.constraint_compile.proofs.suggestion.suggested_constant.Goals as goal

pub returns-clause-constant : goal.returns-clause-constant
returns-clause-constant c =
    let value : IfSome c.small_of.result (λ f. IsRatio f (pos (scale_of c.args.word) *ℤ c.args.value.num) (pos c.args.value.den)) = search rules in
    some-constant (scale_of c.args.word) c.args.value c.small_of.result value c.small_of.ensures.lowest

pub returns-clause-small : goal.returns-clause-small
returns-clause-small c =
    let value : IfSome c.small_of.result (λ f. IsRatio f (pos (scale_of c.args.word) *ℤ c.args.value.num) (pos c.args.value.den)) = search rules in
    small-constant (scale_of c.args.word) c.args.value c.small_of.result value c.small_of.ensures.lowest c.small_of.ensures.small

pub returns-clause-none : goal.returns-clause-none
returns-clause-none c =
    let none : IfNone c.small_of.result ((f : Fraction) → IsLowest f → IsRatio f (pos (scale_of c.args.word) *ℤ c.args.value.num) (pos c.args.value.den) → unsigned_abs f.num < 2 ^ 40 → f.den < 2 ^ 40 → ⊥) = search rules in
    no-constant (scale_of c.args.word) c.args.value c.small_of.result none
