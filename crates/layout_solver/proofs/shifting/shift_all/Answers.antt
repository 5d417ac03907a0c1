use Rattle.std.proofs.Common.{◌+◌, ◌≡◌, ◌≢◌, ◌≤◌, ◌∙◌, ◌&&◌, Bool, true, false, List, All, ap, arith, eq-eqb, int_eq, nat_eq, refl, rules, subst, sym}
use Rattle.std.proofs.lemmas.Bool.Decides.{Decides-int_eq}
use Rattle.frac_core.specs.Fraction.{Fraction}
use Rattle.problem_core.specs.declared.parts.Mark.{Mark}
use Rattle.frac_core.specs.declared.memory.Stop.TheVariants.{Refused}
use Rattle.problem_core.specs.Layout.{Row}
use Rattle.corner_lines.specs.Shifts.{with_constant}
use Rattle.corner_view.specs.Stops.{IsUnfitStop}
use Rattle.layout_solver.specs.Shifts.{with_constants}
use Rattle.layout_solver.proofs.Shifts.ShiftedProblems.{few_shifted, next_shifted, next_skipped, next_unfit, none_shifted, rewound_marks, shifted_path, unfit_stop}
use Rattle.layout_solver.proofs.shifting.shift_all.Goals as goal

pub loop-change-init : goal.loop-change-init
loop-change-init g c = record { shifted = none_shifted c.args.c.now.problem c.args.to.now c.requires.near; whole = c.show_corner.ensures.kept.whole; low = c.requires.low; marks = refl; before = refl; candidates = refl }

pub loop-change-preserved-then-eq : goal.loop-change-preserved-then-eq
loop-change-preserved-then-eq g c =
    let same : c.constant_of.result ≡ c.change-item.result.constant = search rules in record {
      shifted = next_skipped c.args.c.now.problem c.loop-change.c.problem c.args.to.now c.loop-change.change-index c.loop-change.changed c.change-item.result c.loop-change-test.true c.change-item.is c.loop-change.invariant.shifted c.constant_of.result
          (subst (λ (rs : List Row). All (λ (r : Row). r.id ≡ c.change-item.result.row → r.constant ≡ c.constant_of.result) rs) c.rows.ensures c.constant_of.ensures) same;
      whole = c.loop-change.invariant.whole;
      low = c.loop-change.invariant.low;
      marks = c.loop-change.invariant.marks;
      before = c.loop-change.invariant.before;
      candidates = c.loop-change.invariant.candidates;
    }

pub overflow_add-changed : goal.overflow_add-changed
overflow_add-changed g c =
    let few : c.loop-change.changed ≤ 4096 = few_shifted c.args.c.now.problem c.loop-change.c.problem c.args.to.now c.loop-change.change-index c.loop-change.changed c.show_corner.ensures.kept.whole c.loop-change.invariant.shifted in
    omega (arith, few)

pub returns-in-Err-Refused-clause-stop : goal.returns-in-Err-Refused-clause-stop
returns-in-Err-Refused-clause-stop g c =
    let other : c.constant_of.result ≢ c.change-item.result.constant = search rules in
    unfit_stop (with_constants c.args.to.now c.args.c.now.problem) (with_constant c.change-item.result.row c.change-item.result.constant c.loop-change.c.problem) c.args.c.now.problem.rows c.shift.new.c.marks c.args.c.now.marks c.in-Err-Refused.quantity (c.loop-change.changed + 1) c.shifts_stop.result
    (rw c.in-Err-Refused.field-0-is at c.shifts_stop.ensures)
    (rewound_marks c.args.c.now c.loop-change.c c.shift.new.c c.requires.newest c.loop-change.invariant.before c.in-Err-Refused.ensures.same)
    (subst (λ (ms : List Mark). IsUnfitStop (with_constant c.change-item.result.row c.change-item.result.constant c.loop-change.c.problem) ms (Refused c.in-Err-Refused.quantity)) c.loop-change.invariant.marks
    (rw c.in-Err-Refused.field-0-is at c.in-Err-Refused.ensures.stop))
    (λ what unfit. next_unfit c.args.c.now.problem c.loop-change.c.problem c.args.to.now c.loop-change.change-index c.loop-change.changed c.change-item.result c.loop-change-test.true c.change-item.is c.loop-change.invariant.shifted c.requires.rising c.show_corner.ensures.kept.whole.rising c.constant_of.result
    (subst (λ (rs : List Row). All (λ (r : Row). r.id ≡ c.change-item.result.row → r.constant ≡ c.constant_of.result) rs) c.rows.ensures c.constant_of.ensures) other c.args.c.now.marks what unfit)
    (shifted_path c.args.c.now.problem c.args.to.now c.args.c.now.marks c.show_corner.ensures.kept c.requires.columns c.requires.near c.requires.kept)

-- fractions that `==` tells apart
both-true : (a b : Bool) → a ≡ true → b ≡ true → (a && b) ≡ true
both-true true true e f = refl
both-true true false e f = f
both-true false b e f = e

apart : (a b : Fraction) (r : Bool) → r ≡ (int_eq a.num b.num && nat_eq a.den b.den) → r ≡ false → a ≢ b
apart a b r is off same =
    let yes : (int_eq a.num b.num && nat_eq a.den b.den) ≡ true =
    both-true (int_eq a.num b.num) (nat_eq a.den b.den)
    ((Decides-int_eq a.num b.num).1 (ap (λ (f : Fraction). f.num) same)) (eq-eqb a.den b.den (ap (λ (f : Fraction). f.den) same)) in
    let never : false ≡ true = sym off ∙ is ∙ yes in
    absurd (cc)

pub loop-change-preserved : goal.loop-change-preserved
loop-change-preserved g c =
    let other : c.constant_of.result ≢ c.change-item.result.constant = apart c.constant_of.result c.change-item.result.constant c.eq.result c.eq.ensures c.if-eq.false in record {
      shifted = next_shifted c.args.c.now.problem c.loop-change.c.problem c.args.to.now c.loop-change.change-index c.loop-change.changed c.change-item.result c.loop-change-test.true c.change-item.is c.loop-change.invariant.shifted c.requires.rising c.show_corner.ensures.kept.whole.rising c.constant_of.result
          (subst (λ (rs : List Row). All (λ (r : Row). r.id ≡ c.change-item.result.row → r.constant ≡ c.constant_of.result) rs) c.rows.ensures c.constant_of.ensures) other c.shift.new.c.problem c.in-Ok.ensures.problem;
      whole = c.in-Ok.ensures.whole;
      low = c.in-Ok.ensures.low c.loop-change.invariant.low;
      marks = c.in-Ok.ensures.marks ∙ c.loop-change.invariant.marks;
      before = c.in-Ok.ensures.before ∙ c.loop-change.invariant.before;
      candidates = c.in-Ok.ensures.candidates ∙ c.loop-change.invariant.candidates;
    }
