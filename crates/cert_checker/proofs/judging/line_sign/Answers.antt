use Rattle.std.proofs.Common.{◌≡◌, ◌≤◌, ◌-◌, length, arith, All, get_or}
use Rattle.problem_core.specs.Layout.{Row}
use Rattle.problem_core.specs.declared.parts.Stay.{Stay}
use Rattle.problem_core.specs.Gaps.{HasGapRoom, HasValue}
use Rattle.cert_checker.proofs.Certificates.Valuing.{all-item}
use Rattle.cert_checker.proofs.Certificates.Certified.{rows-valued, row-signed, stay-signed}
use Rattle.cert_checker.proofs.judging.line_sign.Goals as goal

pub row_sign-requires-clause-values : goal.row_sign-requires-clause-values
row_sign-requires-clause-values c =
    all-item (λ (r : Row). All (λ t. HasValue c.args.values.now t.attr) r.terms) c.args.p.now.rows c.args.at c.index-rows-at.result (rw c.rows-rows.ensures at c.if-at-rows.true) (rw c.rows-rows.ensures at c.index-rows-at.is) (rows-valued c.args.p.now c.show_whole.ensures c.args.values.now c.requires.values)

pub row_sign-requires-clause-room : goal.row_sign-requires-clause-room
row_sign-requires-clause-room c =
    all-item (λ (r : Row). HasGapRoom r c.args.values.now) c.args.p.now.rows c.args.at c.index-rows-at.result (rw c.rows-rows.ensures at c.if-at-rows.true) (rw c.rows-rows.ensures at c.index-rows-at.is) c.requires.room

pub stay_sign-requires : goal.stay_sign-requires
stay_sign-requires c =
    let past : length c.args.p.now.rows ≤ c.args.at = rw c.rows-rows.ensures at c.if-at-rows.false in
    let is : c.index-stays-at.result ≡ get_or c.args.p.now.stays (c.args.at - length c.args.p.now.rows) c.index-stays-at.result = rw (c.stays.ensures, c.rows-rows.ensures) at c.index-stays-at.is in
    all-item (λ (s : Stay). HasValue c.args.values.now s.attr) c.args.p.now.stays (c.args.at - length c.args.p.now.rows) c.index-stays-at.result (omega (arith, past, c.requires.at)) is c.requires.values.valued

pub returns-then-at-rows : goal.returns-then-at-rows
returns-then-at-rows c = λ x gives. row-signed c.args.p.now x c.args.at c.index-rows-at.result c.row_sign.result (rw c.rows-rows.ensures at c.if-at-rows.true) (rw c.rows-rows.ensures at c.index-rows-at.is) (c.row_sign.ensures x gives)

pub returns : goal.returns
returns c = λ x gives.
    let past : length c.args.p.now.rows ≤ c.args.at = rw c.rows-rows.ensures at c.if-at-rows.false in
    let is : c.index-stays-at.result ≡ get_or c.args.p.now.stays (c.args.at - length c.args.p.now.rows) c.index-stays-at.result = rw (c.stays.ensures, c.rows-rows.ensures) at c.index-stays-at.is in
    stay-signed c.args.p.now x c.args.at c.index-stays-at.result c.stay_sign.result past c.requires.at is (λ level. c.stay_sign.ensures level x gives)
