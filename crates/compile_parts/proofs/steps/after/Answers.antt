use Rattle.std.proofs.Common.{◌≡◌, ℕ, ◌<◌, List, sym, subst, refl, arith, map}
use Rattle.std.specs.String.{string_bytes}
use Rattle.frac_core.specs.Fraction.{Fraction}
use Rattle.compile_parts.specs.Fractions.{plus, IsConstant}
use Rattle.compile_parts.specs.Meaning.{MetricList, part_value}
use Rattle.compile_parts.specs.Keeps.{part_view}
use Rattle.compile_parts.specs.declared.steps.Part.{Part}
use Rattle.compile_parts.specs.declared.steps.Part.TheVariants.{Nothing}
use Rattle.compile_parts.proofs.Totals.{plus-zero}
use Rattle.compile_parts.proofs.steps.after.Goals as goal

same_constant : (metrics : MetricList) (names : List (List ℕ)) (k j : ℕ) (p : Part) (e c : Fraction) → (j ≡ k) × (p ≡ Nothing) → IsConstant k e c → IsConstant j (plus e (part_value metrics (part_view names p))) c
same_constant metrics names k j p e c same is = rw (same.0, same.1) (subst (λ (f : Fraction). IsConstant k f c) (sym (plus-zero e)) is)

nothing_above : (metrics : MetricList) (names : List (List ℕ)) (p : Part) → p ≡ Nothing → 0 < (part_value metrics (part_view names p)).den
nothing_above metrics names p is = rw is (omega arith)

pub returns-then-is_still-clause-constant : goal.returns-then-is_still-clause-constant
returns-then-is_still-clause-constant c = λ e above is. same_constant c.args.metrics.now (map string_bytes c.args.names.now) c.args.before.scale c.args.step.now.scale c.args.step.now.part e c.args.before.constant (c.if-is_still.ensures refl) is

pub returns-then-is_still-clause-above : goal.returns-then-is_still-clause-above
returns-then-is_still-clause-above c = nothing_above c.args.metrics.now (map string_bytes c.args.names.now) c.args.step.now.part (c.if-is_still.ensures refl).1
