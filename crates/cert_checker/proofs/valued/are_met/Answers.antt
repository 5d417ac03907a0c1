use Rattle.std.proofs.Common.{◌≡◌, refl, All}
use Rattle.problem_core.specs.Layout.{Row, error, line_of_row}
use Rattle.problem_core.specs.Gaps.{HasGapRoom, HasValue}
use Rattle.cert_checker.proofs.Certificates.Valuing.{all-item}
use Rattle.cert_checker.proofs.valued.are_met.Goals as goal
use Rattle.frac_core.proofs.Bools.{false-not-true as false-true}
use Rattle.frac_core.proofs.Lists.{all-whole, all-more}

pub holds-requires-clause-values : goal.holds-requires-clause-values
holds-requires-clause-values c =
    all-item (λ (r : Row). All (λ t. HasValue c.args.values.now t.attr) r.terms) c.args.p.now.rows c.loop-row.row-index c.row-item.result (rw c.rows-row-items.ensures at c.loop-row-test.true) (rw c.rows-row-items.ensures at c.row-item.is) c.requires.values

pub holds-requires-clause-room : goal.holds-requires-clause-room
holds-requires-clause-room c =
    all-item (λ (r : Row). HasGapRoom r c.args.values.now) c.args.p.now.rows c.loop-row.row-index c.row-item.result (rw c.rows-row-items.ensures at c.loop-row-test.true) (rw c.rows-row-items.ensures at c.row-item.is) c.requires.room

pub loop-row-preserved : goal.loop-row-preserved
loop-row-preserved c = λ x gives.
    all-more (λ (r : Row). r.rank ≡ 1000 → error x (line_of_row r) ≡ 0) c.args.p.now.rows c.loop-row.row-index c.row-item.result (rw c.rows-row-items.ensures at c.loop-row-test.true) (rw c.rows-row-items.ensures at c.row-item.is) (c.loop-row.invariant x gives) ((c.holds.ensures x gives).0 c.if-not-holds.false)

pub returns-then-not-holds : goal.returns-then-not-holds
returns-then-not-holds c = λ x gives. (
  λ h. absurd (false-true h),
  λ all. (c.if-not-holds.ensures x gives).1 (all-item (λ (r : Row). r.rank ≡ 1000 → error x (line_of_row r) ≡ 0) c.args.p.now.rows c.loop-row.row-index c.row-item.result (rw c.rows-row-items.ensures at c.loop-row-test.true) (rw c.rows-row-items.ensures at c.row-item.is) all),
)

pub returns : goal.returns
returns c = λ x gives. (
  λ h. all-whole (λ (r : Row). r.rank ≡ 1000 → error x (line_of_row r) ≡ 0) c.args.p.now.rows c.loop-row.row-index (rw c.rows-row-items.ensures at c.loop-row-test.false) (c.loop-row.invariant x gives),
  λ h. refl,
)
