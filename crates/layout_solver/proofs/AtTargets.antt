-- The best values where the stays stand at best values of the same rows.
use Rattle.std.proofs.Common.{◌≡◌, ◌∙◌, ℕ, List, [], ◌∷◌, map, ℤ, pos, ◌*ℤ◌, ◌-ℤ◌, refl, sym, ap, subst, arith, All, Contains}
use Rattle.std.proofs.lemmas.List.Elements.{All-contains, All-map, All-weaker}
use lib.IntN.{*ℤ_comm}
use borrow.Author.Differences.{ints}
use Rattle.frac_core.specs.Fraction.{Fraction, IsLowest}
use Rattle.problem_core.specs.declared.parts.Stay.{Stay}
use Rattle.problem_core.specs.Layout.{Assignment, IsBest, IsProblem, Problem, Row, gap, line_of_stay, value_at}
use Rattle.problem_core.specs.Kept.{IsStay, IsWhole}
use Rattle.problem_core.proofs.Best.Targets.{still-IsBest}
use Rattle.problem_core.proofs.Wholes.{whole-IsProblem}
use Rattle.layout_solver.specs.Layouts.{AreBest}
use Rattle.layout_solver.proofs.UniqueBest.{best_unique}

-- the attribute with the stay's target
abbrev pair_of : Stay → ℕ × Fraction
pair_of s = (s.attr, s.target)

-- a stay at the attribute's value has no gap
stay-gap : (x : Assignment) (s : Stay) → x.num s.attr *ℤ pos s.target.den ≡ s.target.num *ℤ pos x.den → gap x (line_of_stay 0 s) ≡ pos 0
stay-gap x s e =
    let own : value_at x.num (line_of_stay 0 s).form ≡ x.num s.attr = omega (arith, ints) in
    let turned = *ℤ_comm (pos s.target.den) (x.num s.attr) in
    ap (λ (v : ℤ). pos s.target.den *ℤ v -ℤ s.target.num *ℤ pos x.den) own ∙ (omega (arith, ints, turned, e))

firsts : (stays : List Stay) → map (λ v. v.0) (map pair_of stays) ≡ map (λ s. s.attr) stays
firsts [] = refl
firsts (s ∷ stays) = ap (λ (ns : List ℕ). s.attr ∷ ns) (firsts stays)

module _ (p q : Problem) (values : List (ℕ × Fraction)) (whole : IsWhole p) (also : IsWhole q) (rows : p.rows ≡ q.rows) (best : AreBest p values) (are : All (λ s. Contains values (s.attr, s.target)) q.stays) where
  abbrev x : Assignment
  x = best.best.0

  given : All (λ s. x.num s.attr *ℤ pos s.target.den ≡ s.target.num *ℤ pos x.den) q.stays
  given =
      All-weaker (λ (s : Stay). Contains values (pair_of s)) (λ (s : Stay). x.num s.attr *ℤ pos s.target.den ≡ s.target.num *ℤ pos x.den)
      (λ s there. All-contains (λ (v : ℕ × Fraction). x.num v.0 *ℤ pos v.1.den ≡ v.1.num *ℤ pos x.den) values (pair_of s) best.best.2 there) q.stays are

  is-best : IsBest q x
  is-best =
      subst (λ (rs : List Row). IsBest (record { rows = rs; stays = q.stays }) x) rows
      (still-IsBest p (whole-IsProblem p whole) x best.best.1 q.stays
      (All-weaker (λ (s : Stay). x.num s.attr *ℤ pos s.target.den ≡ s.target.num *ℤ pos x.den) (λ (s : Stay). gap x (line_of_stay 0 s) ≡ pos 0) (stay-gap x) q.stays given)
      (subst (λ (rs : List Row). (k : IsWhole (record { rows = rs; stays = q.stays })) → IsProblem (record { rows = rs; stays = q.stays })) (sym rows) (whole-IsProblem q) (subst (λ (rs : List Row). IsWhole (record { rows = rs; stays = q.stays })) (sym rows) also)))

  -- the targets are the best values
  pub targets_best : AreBest q (map pair_of q.stays)
  targets_best = record {
    attributes = firsts q.stays;
    lowest = All-map (λ (v : ℕ × Fraction). IsLowest v.1) pair_of q.stays (All-weaker IsStay (λ (s : Stay). IsLowest s.target) (λ s k. k.target.lowest) q.stays also.stays);
    best = (x, is-best, All-map (λ (v : ℕ × Fraction). x.num v.0 *ℤ pos v.1.den ≡ v.1.num *ℤ pos x.den) pair_of q.stays given);
  }

  pub best_at_targets : (w : List (ℕ × Fraction)) → AreBest q w → w ≡ map (λ s. (s.attr, s.target)) q.stays
  best_at_targets w also_best = best_unique q (whole-IsProblem q also) w (map pair_of q.stays) also_best targets_best
