use Rattle.std.proofs.Common.{◌≡◌, ℕ, ◌<◌, ◌^◌, ℤ, pos, neg_ℤ, ◌+ℤ◌, ◌*ℤ◌, ◌<ℤ◌, SFits, arith, unsigned_abs, ap, ◌∙◌, rules}
use Rattle.std.specs.Prelude.{Option, Some, None, IfSome, IfNone}
use Rattle.std.specs.Int.{w64, w128}
use borrow.Author.Differences.{ints}
use Rattle.std.proofs.lemmas.Int.{to_z-of_z}
use Rattle.frac_core.specs.Fraction.{Fraction, IsLowest, IsRatio}
use Rattle.compile_parts.specs.Fractions.{IsConstant}
use Rattle.compile_parts.specs.Quotients.{IsDivided, IsReduced}
use Rattle.compile_parts.proofs.Shifts.{IsMove, moved_to, moved_from, whole_ratio, shared_ratio}
use Rattle.compile_parts.proofs.steps.moved.Goals as goal

pub common-requires-clause-apart : goal.common-requires-clause-apart
common-requires-clause-apart c =
    let num_fits : SFits w128 c.change-change.result.num = search rules in
    let den_fits : SFits w128 c.change-change.result.den = search rules in
    simp (to_z-of_z, num_fits, den_fits) c.change-change.ensures.apart

some_den : (d : ℕ) (q : ℤ) → pos 0 <ℤ q → q ≡ pos d → 0 < d
some_den d q h is = omega (arith, ints, h, is)

is_move : (k j : ℕ) (e p c : Fraction) (m q a b x y n d : ℤ) → 0 < j → n ≡ c.num → d ≡ pos c.den → a ≡ pos k *ℤ n → b ≡ pos j *ℤ d → IsReduced (neg_ℤ (pos k) *ℤ m) q x y → 0 < e.den → m ≡ p.num → q ≡ pos p.den → IsConstant j e c → IsMove k j e p c m q a b x y
is_move k j e p c m q a b x y n d scale n_is d_is a_is b_is change above num den constant = record {
  above = above;
  num = num;
  den = den;
  constant = constant;
  change = change;
  a_is = a_is ∙ ap (λ (z : ℤ). pos k *ℤ z) n_is;
  b_is = b_is ∙ ap (λ (z : ℤ). pos j *ℤ z) d_is;
  scale = scale;
}

both_then : (o : Option Fraction) {P Q R : Fraction → Type 0} → IfSome o P → IfSome o Q → ((f : Fraction) → P f → Q f → R f) → IfSome o R
both_then (Some f) p q then = then f p q
both_then None p q then = p

none_then : (o : Option Fraction) {P Q : Type 0} → IfNone o P → (P → Q) → IfNone o Q
none_then (Some f) p then = p
none_then None p then = then p

pub returns-in_err-sum-clause-none : goal.returns-in_err-sum-clause-none
returns-in_err-sum-clause-none c = rw c.from_residual.ensures (λ e p above num den constant small.
    let x_fits : SFits w128 c.change-change.result.num = search rules in
    let y_fits : SFits w128 c.change-change.result.den = search rules in
    let a_fits : SFits w128 c.scaled-num.result = record { sfits = c.scaled-num.type_inv } in
    let b_fits : SFits w128 c.scaled-den.result = record { sfits = c.scaled-den.type_inv } in
    let num_fits : SFits w64 c.num.result = record { sfits = c.num.type_inv } in
    let den_fits : SFits w64 c.den.result = record { sfits = c.den.type_inv } in
    let a_is : c.scaled-num.result ≡ pos c.args.scale *ℤ c.num.result = simp (to_z-of_z, num_fits) at c.scaled-num.ensures.value in
    let b_is : c.scaled-den.result ≡ pos c.args.before.scale *ℤ c.den.result = simp (to_z-of_z, den_fits) at c.scaled-den.ensures.value in
    let none : (f : Fraction) → IsLowest f → IsRatio f (c.scaled-num.result *ℤ c.change-change.result.den +ℤ c.change-change.result.num *ℤ c.scaled-den.result) (c.scaled-den.result *ℤ c.change-change.result.den) → unsigned_abs f.num < 2 ^ 40 → f.den < 2 ^ 40 → ⊥ = simp (to_z-of_z, x_fits, y_fits, a_fits, b_fits) at c.in_err-sum.ensures.none in
    none small.constant small.is_constant.lowest
    (moved_from c.args.scale c.args.before.scale e p c.args.before.constant c.args.value.num c.args.value.den c.scaled-num.result c.scaled-den.result c.change-change.result.num c.change-change.result.den small.constant (is_move c.args.scale c.args.before.scale e p c.args.before.constant c.args.value.num c.args.value.den c.scaled-num.result c.scaled-den.result c.change-change.result.num c.change-change.result.den c.num.result c.den.result c.requires.before.0 c.num.ensures.value c.den.ensures.value a_is b_is c.change-change.ensures above num den constant) (some_den p.den c.args.value.den c.requires.above den) small.is_constant)
    small.num_small small.den_small)

pub returns-clause-constant : goal.returns-clause-constant
returns-clause-constant c =
    let x_fits : SFits w128 c.change-change.result.num = search rules in
    let y_fits : SFits w128 c.change-change.result.den = search rules in
    let a_fits : SFits w128 c.scaled-num.result = record { sfits = c.scaled-num.type_inv } in
    let b_fits : SFits w128 c.scaled-den.result = record { sfits = c.scaled-den.type_inv } in
    let num_fits : SFits w64 c.num.result = record { sfits = c.num.type_inv } in
    let den_fits : SFits w64 c.den.result = record { sfits = c.den.type_inv } in
    let a_is : c.scaled-num.result ≡ pos c.args.scale *ℤ c.num.result = simp (to_z-of_z, num_fits) at c.scaled-num.ensures.value in
    let b_is : c.scaled-den.result ≡ pos c.args.before.scale *ℤ c.den.result = simp (to_z-of_z, den_fits) at c.scaled-den.ensures.value in
    let divided : IsDivided (c.scaled-num.result *ℤ c.change-change.result.den +ℤ c.change-change.result.num *ℤ c.scaled-den.result) (c.scaled-den.result *ℤ c.change-change.result.den) c.in_ok-sum.sum.num c.in_ok-sum.sum.den = simp (to_z-of_z, x_fits, y_fits, a_fits, b_fits) at c.in_ok-sum.ensures.some in
    both_then c.small_of.result c.small_of.ensures.lowest c.small_of.ensures.value (λ f lowest value e p above num den constant.
    moved_to c.args.scale c.args.before.scale e p c.args.before.constant c.args.value.num c.args.value.den c.scaled-num.result c.scaled-den.result c.change-change.result.num c.change-change.result.den f (is_move c.args.scale c.args.before.scale e p c.args.before.constant c.args.value.num c.args.value.den c.scaled-num.result c.scaled-den.result c.change-change.result.num c.change-change.result.den c.num.result c.den.result c.requires.before.0 c.num.ensures.value c.den.ensures.value a_is b_is c.change-change.ensures above num den constant) lowest
    (whole_ratio f (c.scaled-num.result *ℤ c.change-change.result.den +ℤ c.change-change.result.num *ℤ c.scaled-den.result) (c.scaled-den.result *ℤ c.change-change.result.den) c.in_ok-sum.sum.num c.in_ok-sum.sum.den divided value))

pub returns-clause-none : goal.returns-clause-none
returns-clause-none c =
    let x_fits : SFits w128 c.change-change.result.num = search rules in
    let y_fits : SFits w128 c.change-change.result.den = search rules in
    let a_fits : SFits w128 c.scaled-num.result = record { sfits = c.scaled-num.type_inv } in
    let b_fits : SFits w128 c.scaled-den.result = record { sfits = c.scaled-den.type_inv } in
    let num_fits : SFits w64 c.num.result = record { sfits = c.num.type_inv } in
    let den_fits : SFits w64 c.den.result = record { sfits = c.den.type_inv } in
    let a_is : c.scaled-num.result ≡ pos c.args.scale *ℤ c.num.result = simp (to_z-of_z, num_fits) at c.scaled-num.ensures.value in
    let b_is : c.scaled-den.result ≡ pos c.args.before.scale *ℤ c.den.result = simp (to_z-of_z, den_fits) at c.scaled-den.ensures.value in
    let divided : IsDivided (c.scaled-num.result *ℤ c.change-change.result.den +ℤ c.change-change.result.num *ℤ c.scaled-den.result) (c.scaled-den.result *ℤ c.change-change.result.den) c.in_ok-sum.sum.num c.in_ok-sum.sum.den = simp (to_z-of_z, x_fits, y_fits, a_fits, b_fits) at c.in_ok-sum.ensures.some in
    none_then c.small_of.result c.small_of.ensures.none (λ none e p above num den constant small.
    none small.constant small.is_constant.lowest
    (shared_ratio small.constant (c.scaled-num.result *ℤ c.change-change.result.den +ℤ c.change-change.result.num *ℤ c.scaled-den.result) (c.scaled-den.result *ℤ c.change-change.result.den) c.in_ok-sum.sum.num c.in_ok-sum.sum.den divided (moved_from c.args.scale c.args.before.scale e p c.args.before.constant c.args.value.num c.args.value.den c.scaled-num.result c.scaled-den.result c.change-change.result.num c.change-change.result.den small.constant (is_move c.args.scale c.args.before.scale e p c.args.before.constant c.args.value.num c.args.value.den c.scaled-num.result c.scaled-den.result c.change-change.result.num c.change-change.result.den c.num.result c.den.result c.requires.before.0 c.num.ensures.value c.den.ensures.value a_is b_is c.change-change.ensures above num den constant) (some_den p.den c.args.value.den c.requires.above den) small.is_constant))
    small.num_small small.den_small)
