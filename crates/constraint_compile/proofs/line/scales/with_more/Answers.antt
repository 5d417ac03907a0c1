use Rattle.std.proofs.lemmas.Result.{IfOk-weaker}
use Rattle.std.specs.Prelude.{Option, None, Some, IfSome, IfNone}
use Rattle.compile_parts.specs.Addends.{addend_view, with_addend}
use Rattle.constraint_compile.specs.Coefficients.Sums.{IsPastWithAddend, IsPastWithShare, IsSumWithAddend, IsSumWithShare}
use Rattle.constraint_compile.specs.declared.line.sums.Sum.{Sum}
use Rattle.constraint_compile.proofs.Sums.Beginnings.{sum_same, same_none, sum_by, past_by}
use Rattle.constraint_compile.proofs.line.scales.with_more.Goals as goal

if-some : (o : Option Sum) (P Q : Sum → Type 0) → ((x : Sum) → P x → Q x) → IfSome o P → IfSome o Q
if-some None P Q f h = tt
if-some (Some x) P Q f h = f x h

if-none : (o : Option Sum) (P Q : Type 0) → (P → Q) → IfNone o P → IfNone o Q
if-none None P Q f h = f h
if-none (Some x) P Q f h = tt

pub returns-in_default-clause-sum : goal.returns-in_default-clause-sum
returns-in_default-clause-sum c = λ b sum off.
    sum_same b (with_addend b (addend_view c.args.addend.now)) c.args.attrs.now c.args.sum.scale c.args.sum.numbers.items (same_none b (addend_view c.args.addend.now) c.in_default.ensures.none) sum

pub returns-clause-sum : goal.returns-clause-sum
returns-clause-sum c = IfOk-weaker c.added.result
    (λ o. IfSome o (λ next. IsSumWithShare c.args.attrs.now c.in-Some.share c.args.sum.scale c.args.sum.numbers.items next.scale next.numbers.items))
    (λ o. IfSome o (λ next. IsSumWithAddend c.args.attrs.now (addend_view c.args.addend.now) c.args.sum.scale c.args.sum.numbers.items next.scale next.numbers.items))
    (λ o. if-some o
    (λ next. IsSumWithShare c.args.attrs.now c.in-Some.share c.args.sum.scale c.args.sum.numbers.items next.scale next.numbers.items)
    (λ next. IsSumWithAddend c.args.attrs.now (addend_view c.args.addend.now) c.args.sum.scale c.args.sum.numbers.items next.scale next.numbers.items)
    (λ next. sum_by c.args.attrs.now (addend_view c.args.addend.now) c.in-Some.share c.args.sum.scale next.scale c.args.sum.numbers.items next.numbers.items c.in-Some.ensures.some))
    c.added.ensures.sum

pub returns-clause-past : goal.returns-clause-past
returns-clause-past c = IfOk-weaker c.added.result
    (λ o. IfNone o (IsPastWithShare c.args.attrs.now c.in-Some.share c.args.sum.scale c.args.sum.numbers.items))
    (λ o. IfNone o (IsPastWithAddend c.args.attrs.now (addend_view c.args.addend.now) c.args.sum.scale c.args.sum.numbers.items))
    (λ o. if-none o
    (IsPastWithShare c.args.attrs.now c.in-Some.share c.args.sum.scale c.args.sum.numbers.items)
    (IsPastWithAddend c.args.attrs.now (addend_view c.args.addend.now) c.args.sum.scale c.args.sum.numbers.items)
    (past_by c.args.attrs.now (addend_view c.args.addend.now) c.in-Some.share c.args.sum.scale c.args.sum.numbers.items c.in-Some.ensures.some))
    c.added.ensures.past
