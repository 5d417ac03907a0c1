use Rattle.std.proofs.Common.{pos, refl, subst, sym}
use Rattle.std.proofs.lemmas.Result.{IfOk-weaker}
use Rattle.frac_core.specs.Fraction.{Fraction, IsUnfitRatio}
use Rattle.problem_core.specs.Gaps.{value_of}
use Rattle.layout_solver.specs.Layouts.{Layout}
use Rattle.diagnosis.specs.Probes.{IsBeside, IsNearestValue, IsTried, next_num}
use Rattle.layout_solver.proofs.ApartValues.{value_is}
use Rattle.diagnosis.proofs.probing.probe.Goals as goal

pub returns-in_default-clause-stop : goal.returns-in_default-clause-stop
returns-in_default-clause-stop g c = (
  refl,
  subst (λ (v : Fraction). IsUnfitRatio (next_num c.args.up v) (pos v.den)) (value_is c.args.e.now.values c.args.attr c.value_at.result c.show_layout.ensures.apart c.value_at.ensures) c.in_default.ensures.none,
)

pub returns-in-Some-pushed-clause-value : goal.returns-in-Some-pushed-clause-value
returns-in-Some-pushed-clause-value g c = (
  c.in-Some.target,
  (subst (λ (v : Fraction). IsBeside c.args.up v c.in-Some.target) (value_is c.args.e.now.values c.args.attr c.value_at.result c.show_layout.ensures.apart c.value_at.ensures) c.in-Some.ensures.some),
  c.in-Some.ensures.kept,
  c.in-Some-pushed.ensures.value,
)

pub drawn-requires-clause-beside : goal.drawn-requires-clause-beside
drawn-requires-clause-beside g c =
    subst (λ (l : Layout). IsBeside c.args.up (value_of l.values c.args.attr) c.in-Some.target) (sym c.pushed.ensures.same)
    (subst (λ (v : Fraction). IsBeside c.args.up v c.in-Some.target) (value_is c.args.e.now.values c.args.attr c.value_at.result c.show_layout.ensures.apart c.value_at.ensures) c.in-Some.ensures.some)

pub returns-clause-value : goal.returns-clause-value
returns-clause-value g c =
    IfOk-weaker c.drawn.result (IsNearestValue c.pushed.new.e.problem c.args.attr c.in-Some.target) (IsTried c.args.e.now c.args.attr c.args.up)
    (λ f h. (
      c.in-Some.target,
      (subst (λ (v : Fraction). IsBeside c.args.up v c.in-Some.target) (value_is c.args.e.now.values c.args.attr c.value_at.result c.show_layout.ensures.apart c.value_at.ensures) c.in-Some.ensures.some),
      c.in-Some.ensures.kept,
      subst (λ (l : Layout). IsNearestValue l.problem c.args.attr c.in-Some.target f) c.pushed.ensures.same h,
    ))
    c.drawn.ensures.value
