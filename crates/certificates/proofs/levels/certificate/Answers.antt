use Rattle.std.proofs.Common.{List, get_or, sym, subst, AllPairs, Contains}
use Rattle.problem_core.specs.declared.parts.Level.{Level}
use Rattle.problem_core.specs.declared.parts.Level.TheVariants.{Priority}
use Rattle.corner_view.specs.Seen.{IsInUse, IsStronger}
use Rattle.certificates.proofs.Certified.{own_balances, own_certifies}
use Rattle.certificates.proofs.CornerLevels.{itself, own_all, own_more, stronger_than_next, used_at}
use Rattle.certificates.proofs.levels.certificate.Goals as goal

pub push_level-requires-clause-level : goal.push_level-requires-clause-level
push_level-requires-clause-level g c = used_at c.args.c.now.problem c.deref-level-items.result.now c.in_ok-levels.levels.items c.loop-level.level-index (Priority 0) c.deref-level-items.ensures.value c.loop-level-test.true c.in_ok-levels.ensures.used

pub push_level-requires-clause-stronger : goal.push_level-requires-clause-stronger
push_level-requires-clause-stronger g c =
    stronger_than_next c.args.c.now.problem c.args.c.now.marks c.deref-level-items.result.now c.loop-level.level-index (get_or c.deref-level-items.result.now c.loop-level.level-index (Priority 0)) c.loop-level.best
    (subst (AllPairs (IsStronger c.args.c.now.problem)) (sym c.deref-level-items.ensures.value) c.in_ok-levels.ensures.order) c.loop-level-test.true
    (itself c.deref-level-items.result.now c.loop-level.level-index (Priority 0) c.loop-level-test.true) c.loop-level.invariant

pub loop-level-preserved : goal.loop-level-preserved
loop-level-preserved g c =
    own_more c.args.c.now.problem c.args.c.now.marks c.deref-level-items.result.now c.loop-level.level-index (get_or c.deref-level-items.result.now c.loop-level.level-index (Priority 0)) c.loop-level.best c.push_level.new.best
    (subst (AllPairs (IsStronger c.args.c.now.problem)) (sym c.deref-level-items.ensures.value) c.in_ok-levels.ensures.order) c.loop-level-test.true
    (itself c.deref-level-items.result.now c.loop-level.level-index (Priority 0) c.loop-level-test.true) c.loop-level.invariant c.in_ok-push_level.ensures

pub returns-clause-own : goal.returns-clause-own
returns-clause-own g c =
    own_all c.args.c.now.problem c.args.c.now.marks c.deref-level-items.result.now c.loop-level.level-index c.loop-level.best
    (subst (λ (ls : List Level). (level : Level) → IsInUse c.args.c.now.problem level → Contains ls level) (sym c.deref-level-items.ensures.value) c.in_ok-levels.ensures.all) c.loop-level-test.false c.loop-level.invariant

pub returns-clause-balanced : goal.returns-clause-balanced
returns-clause-balanced g c =
    own_balances c.args.c.now.problem c.args.c.now.marks c.loop-level.best c.show_corner.ensures.kept.whole
    (own_all c.args.c.now.problem c.args.c.now.marks c.deref-level-items.result.now c.loop-level.level-index c.loop-level.best
    (subst (λ (ls : List Level). (level : Level) → IsInUse c.args.c.now.problem level → Contains ls level) (sym c.deref-level-items.ensures.value) c.in_ok-levels.ensures.all) c.loop-level-test.false c.loop-level.invariant)

pub returns-clause-certified : goal.returns-clause-certified
returns-clause-certified g c =
    own_certifies c.args.c.now.problem c.args.c.now.marks c.loop-level.best c.show_corner.ensures.kept c.requires.end
    (own_all c.args.c.now.problem c.args.c.now.marks c.deref-level-items.result.now c.loop-level.level-index c.loop-level.best
    (subst (λ (ls : List Level). (level : Level) → IsInUse c.args.c.now.problem level → Contains ls level) (sym c.deref-level-items.ensures.value) c.in_ok-levels.ensures.all) c.loop-level-test.false c.loop-level.invariant)
