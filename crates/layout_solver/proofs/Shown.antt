-- What the corner of an engine shows of its values.
use Rattle.std.proofs.Common.{◌≡◌, ◌∙◌, ℕ, ◌-◌, ◌≤◌, List, sym, ap, subst, arith, Any}
use Rattle.frac_core.specs.Fraction.{Fraction}
use Rattle.problem_core.specs.declared.parts.Level.{Level}
use Rattle.problem_core.specs.declared.parts.Level.TheVariants.{Priority, Stay as StayLevel}
use Rattle.problem_core.specs.Layout.{AreSame, Assignment, Gives, HasStay, Problem, Row, line_of_row}
use Rattle.problem_core.specs.Certificates.{IsCertificate}
use Rattle.problem_core.specs.Corners.{Point, StandsAt, assignment_at}
use Rattle.problem_core.specs.Kept.{IsRow}
use Rattle.problem_core.specs.Levels.{IsCostAt, IsLevelAt}
use Rattle.cert_core.specs.Claims.{BestLevel, multipliers_of}
use Rattle.cert_checker.specs.Certifying.{Balances, EachGiven}
use Rattle.corner_view.specs.Seen.{CornerView, IsLevelOf}
use Rattle.certificates.specs.Accepted.{IsCertified}
use Rattle.certificates.specs.Errors.{IsErrorAt, IsLevelCost}
use Rattle.certificates.specs.OwnLevels.{IsOwnBest}
use Rattle.certificates.proofs.ErrorFacts.{common_above, level_cost, row_kept}
use Rattle.certificates.proofs.Places.{stay_level, stay_there}
use Rattle.certificates.proofs.SameValues.{given_same, of_stays, same_certified, same_cost, same_error}
use Rattle.layout_solver.specs.Layouts.{Layout}
use Rattle.layout_solver.specs.Engines.{IsSolved, layout_of, HaveValues}
use Rattle.layout_solver.proofs.Solved.{solved_values}
use Rattle.layout_solver.proofs.Values.{given_here, numbers_here}

module _ (c : CornerView) (v : List (ℕ × Fraction)) (past : HaveValues c.before) (l : Layout) (s : IsSolved c v past) (view : layout_of c v past ≡ l) where
  -- what gives the values agrees with the corner's point
  same : (x : Assignment) → Gives v x → AreSame c.problem x (assignment_at s.kept.corner.corner.point)
  same x gives =
      given_same c.problem v x (assignment_at s.kept.corner.corner.point) s.kept.best.attributes s.kept.best.lowest gives
      (given_here s.kept.corner.corner.point v (numbers_here c v s.kept.corner.corner.point (solved_values c v past s) s.kept.corner.corner.stands))

  pub shown_own : (levels : List BestLevel) → IsOwnBest c.problem c.marks levels → IsOwnBest l.problem l.corner levels
  shown_own levels h = subst (λ (k : Layout). IsOwnBest k.problem k.corner levels) view h

  pub shown_certified : (levels : List BestLevel) → Balances c.problem levels → ((x : Point) → StandsAt c.problem c.marks x → IsCertificate c.problem (assignment_at x) (multipliers_of c.problem levels)) → IsCertified l.problem l.values levels
  shown_certified levels balanced certificate =
      subst (λ (k : Layout). IsCertified k.problem k.values levels) view
      (record {
        valued = of_stays c.problem v s.kept.best.attributes;
        balanced = balanced;
        certified = λ x gives. same_certified c.problem (multipliers_of c.problem levels) x (assignment_at s.kept.corner.corner.point) s.kept.corner.whole (same x gives) (certificate s.kept.corner.corner.point s.kept.corner.corner.stands);
      })

  pub shown_error : (r : Row) (id : ℕ) (f : Fraction) → r.id ≡ id → Any (λ q. q ≡ r) c.problem.rows → ((x : Point) → StandsAt c.problem c.marks x → IsErrorAt (assignment_at x) (line_of_row r) f)
      → Any (λ q. (q.id ≡ id) × EachGiven l.values (λ x. IsErrorAt x (line_of_row q) f)) l.problem.rows
  shown_error r id f e held error =
      let kept : IsRow r = row_kept c.problem.rows r s.kept.corner.whole.rows held in
      subst (λ (k : Layout). Any (λ q. (q.id ≡ id) × EachGiven k.values (λ x. IsErrorAt x (line_of_row q) f)) k.problem.rows) view (
        held.0,
        held.1,
        held.2,
        held.3,
        (
          ap (λ (q : Row). q.id) held.4 ∙ e,
          subst (λ (q : Row). EachGiven v (λ x. IsErrorAt x (line_of_row q) f)) (sym held.4)
              (λ x gives. same_error c.problem x (assignment_at s.kept.corner.corner.point) r f s.kept.corner.whole (same x gives) held kept.constant.lowest.above kept.scale.0 (error s.kept.corner.corner.point s.kept.corner.corner.stands)),
        ),
      )

  pub shown_cost : (level : Level) (f : Fraction) → ((k : ℕ) → IsLevelAt c.problem level k → IsCostAt c.problem c.marks k f) → (k : ℕ) → IsLevelAt l.problem level k → EachGiven l.values (λ x. IsLevelCost l.problem x k f)
  shown_cost level f cost =
      subst (λ (m : Layout). (k : ℕ) → IsLevelAt m.problem level k → EachGiven m.values (λ x. IsLevelCost m.problem x k f)) view
      (λ k at x gives.
      same_cost c.problem x (assignment_at s.kept.corner.corner.point) k f s.kept.corner.whole (same x gives) (common_above c.problem s.kept.corner.whole)
      (level_cost c.problem c.marks k f s.kept.corner.whole s.kept.corner.corner s.kept.end.values (cost k at) s.kept.corner.corner.point s.kept.corner.corner.stands))

-- ---- levels

pub priority_level : (p : Problem) (rank : ℕ) → rank ≤ 1000 → IsLevelOf p (Priority rank)
priority_level p rank h = (1000 - rank, omega (arith, h))

pub has_stay_level : (p : Problem) (attr : ℕ) → HasStay p.stays attr → IsLevelOf p (StayLevel attr)
has_stay_level p attr h = stay_level p attr h

pub no_stay_level : (p : Problem) (attr k : ℕ) → (HasStay p.stays attr → ⊥) → IsLevelAt p (StayLevel attr) k → ⊥
no_stay_level p attr k none at = none (stay_there p attr k at)
