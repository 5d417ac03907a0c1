use Rattle.std.proofs.Common.{◌≡◌, ◌∙◌, sym, subst, take_all, All, List, length, ◌<◌}
use Rattle.std.proofs.lemmas.List.{get_or_default}
use Rattle.std.proofs.lemmas.List.Elements.{All-more}
use Rattle.problem_core.specs.Layout.{Row}
use Rattle.problem_core.specs.Gaps.{HasGapRoom, HasValue}
use Rattle.cert_checker.specs.Certifying.{HaveGapRoom}
use Rattle.cert_checker.proofs.Certificates.Valuing.{on-err, on-ok}
use Rattle.cert_checker.proofs.valued.first_without_room.Goals as goal

pub gap_sign-requires : goal.gap_sign-requires
gap_sign-requires c =
    let is = rw c.rows-row-items.ensures at c.row-item.is in
    subst (λ (r : Row). All (λ t. HasValue c.args.values.now t.attr) r.terms) (sym is) (c.requires c.loop-row.row-index c.row-item.result (rw c.rows-row-items.ensures at c.loop-row-test.true))

pub returns-then-is_err-clause-first : goal.returns-then-is_err-clause-first
returns-then-is_err-clause-first c =
    let is = rw c.rows-row-items.ensures at c.row-item.is in
    let below : c.loop-row.row-index < length c.args.p.now.rows = rw c.rows-row-items.ensures at c.loop-row-test.true in
    let none = on-err c.gap_sign.result (HasGapRoom c.row-item.result c.args.values.now → ⊥) c.is_err.result c.is_err.ensures.value c.if-is_err.true c.gap_sign.ensures.none in (
      c.loop-row.row-index,
      below,
      λ d. subst (λ (r : Row). (r.id ≡ c.id.result) × (HasGapRoom r c.args.values.now → ⊥)) (is ∙ get_or_default c.args.p.now.rows c.loop-row.row-index c.row-item.result d below) (sym c.id.ensures, none),
      c.loop-row.invariant,
    )

pub loop-row-preserved : goal.loop-row-preserved
loop-row-preserved c =
    let is = rw c.rows-row-items.ensures at c.row-item.is in
    let below : c.loop-row.row-index < length c.args.p.now.rows = rw c.rows-row-items.ensures at c.loop-row-test.true in
    let room = on-ok c.gap_sign.result (HasGapRoom c.row-item.result c.args.values.now) c.is_err.result c.is_err.ensures.value c.if-is_err.false c.gap_sign.ensures.room in
    All-more (λ (r : Row). HasGapRoom r c.args.values.now) c.args.p.now.rows c.loop-row.row-index c.row-item.result below c.loop-row.invariant (subst (λ (r : Row). HasGapRoom r c.args.values.now) is room)

pub returns-clause-room : goal.returns-clause-room
returns-clause-room c =
    let whole = take_all c.loop-row.row-index c.args.p.now.rows (rw c.rows-row-items.ensures at c.loop-row-test.false) in
    subst (λ (rs : List Row). HaveGapRoom rs c.args.values.now) whole c.loop-row.invariant
