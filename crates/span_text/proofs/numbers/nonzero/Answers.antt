use Rattle.std.proofs.Common.{◌≡◌, ◌+◌, ◌-◌, ◌*◌, arith, get_or, sym, ◌∙◌}
use Rattle.std.proofs.lemmas.List.{take_rest}
use Rattle.span_text.proofs.DigitLemmas.{nonzero_goes_on, more_room, digit_below}
use Rattle.span_text.proofs.numbers.nonzero.Goals as goal
use Rattle.span_text.proofs.numbers.nonzero.Goals.{else-room-eq1-via-then-room-eq1+else-more-eq0, else-room-eq1-via-else-room-eq1}

pub loop-rest-preserved : goal.loop-rest-preserved
loop-rest-preserved c =
    let digit = sym c.is_digit.ensures ∙ c.if-not-is_digit.false in
    let some : c.loop-rest.room ≡ 1 → 10 * c.loop-rest.value + (get_or c.loop-rest.rest.now 0 0 - 48) ≡ 0 → ⊥ = λ e f. elim c.else-room-eq1.branch [
      | else-room-eq1-via-then-room-eq1+else-more-eq0 w ↦ w.if-more-eq0.false f
      | else-room-eq1-via-else-room-eq1 w ↦ w.if-room-eq1.false e
    ] in
    record {
      same = nonzero_goes_on c.loop-rest.room _ c.loop-rest.value c.loop-rest.rest.now _ (omega arith) (take_rest c.loop-rest.rest.now 1) (omega arith) digit some ∙ c.loop-rest.invariant.same;
      small = more_room _ _ _ c.loop-rest.invariant.small (digit_below (get_or c.loop-rest.rest.now 0 0) digit) (omega arith) c.loop-rest.invariant.few;
      few = omega arith;
      within = omega arith;
    }
