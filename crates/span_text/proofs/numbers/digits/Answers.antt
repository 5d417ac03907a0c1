use Rattle.std.proofs.Common.{arith, get_or, sym, ◌∙◌, ◌<◌, ◌^◌}
use Rattle.std.proofs.lemmas.List.{take_rest}
use Rattle.span_text.proofs.numbers.digits.Goals as goal
use Rattle.span_text.proofs.numbers.digits.Goals.{in_default, in-len1-up+then-not-is_digit}
use Rattle.span_text.proofs.DigitLemmas.{run_begins, run_step, run_full, run_nil, run_other, stop_none, stop_some, digit_below, more_below, below_power}

pub loop-rest-init : goal.loop-rest-init
loop-rest-init c = record { same = run_begins _ _ _ (omega arith); small = omega arith; few = omega arith; within = omega arith }

pub returns-then-count-most-clause-gives : goal.returns-then-count-most-clause-gives
returns-then-count-most-clause-gives c = sym c.loop-rest.invariant.same ∙ run_full _ _ _ c.loop-rest.rest.now (omega arith) (omega arith) (sym c.is_digit.ensures ∙ c.if-not-is_digit.false)

pub loop-rest-preserved : goal.loop-rest-preserved
loop-rest-preserved c =
    let digit = sym c.is_digit.ensures ∙ c.if-not-is_digit.false in
    record {
      same = run_step _ _ _ _ c.loop-rest.rest.now _ (omega arith) (take_rest c.loop-rest.rest.now 1) (omega arith) digit ∙ c.loop-rest.invariant.same;
      small = more_below _ _ _ c.loop-rest.invariant.small (digit_below _ digit);
      few = omega arith;
      within = omega (arith, c.loop-rest.invariant.within);
    }

pub returns-then-count-eq0-clause-gives : goal.returns-then-count-eq0-clause-gives
returns-then-count-eq0-clause-gives c = elim c.if-rest-lt1.branch [
  | in_default w ↦ sym c.loop-rest.invariant.same ∙ (run_nil _ _ _ c.loop-rest.rest.now (omega arith) ∙ stop_none _ _ _ (omega arith))
  | in-len1-up+then-not-is_digit w ↦ sym c.loop-rest.invariant.same ∙ (run_other _ _ _ c.loop-rest.rest.now (omega arith) (sym w.is_digit.ensures ∙ w.if-not-is_digit.true) ∙ stop_none _ _ _ (omega arith))
]

pub returns-else-count-eq0-clause-gives : goal.returns-else-count-eq0-clause-gives
returns-else-count-eq0-clause-gives c = elim c.if-rest-lt1.branch [
  | in_default w ↦ sym c.loop-rest.invariant.same ∙ (run_nil _ _ _ c.loop-rest.rest.now (omega arith) ∙ stop_some _ _ _ (λ e. omega arith))
  | in-len1-up+then-not-is_digit w ↦ sym c.loop-rest.invariant.same ∙ (run_other _ _ _ c.loop-rest.rest.now (omega arith) (sym w.is_digit.ensures ∙ w.if-not-is_digit.true) ∙ stop_some _ _ _ (λ e. omega arith))
]

pub overflow_mul-value : goal.overflow_mul-value
overflow_mul-value c =
    let h : c.loop-rest.value < 10 ^ 18 = below_power _ _ 18 c.loop-rest.invariant.small (omega arith) in
    omega arith

pub overflow_add-value : goal.overflow_add-value
overflow_add-value c =
    let h : c.loop-rest.value < 10 ^ 18 = below_power _ _ 18 c.loop-rest.invariant.small (omega arith) in
    let d = digit_below (get_or c.loop-rest.rest.now 0 0) (sym c.is_digit.ensures ∙ c.if-not-is_digit.false) in
    omega (arith, d)

pub returns-else-count-eq0-clause-shorter : goal.returns-else-count-eq0-clause-shorter
returns-else-count-eq0-clause-shorter c = omega (arith, c.loop-rest.invariant.within)

pub returns-else-count-eq0-clause-bound : goal.returns-else-count-eq0-clause-bound
returns-else-count-eq0-clause-bound c = below_power _ _ _ c.loop-rest.invariant.small c.loop-rest.invariant.few
