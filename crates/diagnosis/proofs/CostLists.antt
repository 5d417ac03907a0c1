-- The priorities at which something is lacking, one more at a time.
use Rattle.std.proofs.Common.{◌≡◌, ◌≢◌, ℕ, ◌+◌, ◌-◌, ◌*◌, ◌<◌, ◌≤◌, List, [], ◌∷◌, ◌++◌, ℤ, pos, ◌*ℤ◌, inl, inr, sym, ap, subst, arith}
use Rattle.std.proofs.lemmas.Bool.{cases_eq}
use Rattle.std.proofs.lemmas.List.Elements.{All-nil, All-push}
use Rattle.std.proofs.lemmas.List.Quantifiers.{all_pairs_push}
use borrow.Author.Differences.{ints}
use Rattle.frac_core.specs.Fraction.{Fraction, IsLowest}
use Rattle.frac_core.proofs.Integers.{zero-mul_ℤ}
use Rattle.problem_core.specs.Layout.{Problem, common, cost, lines}
use Rattle.cert_checker.specs.Certifying.{EachGiven}
use Rattle.certificates.specs.Errors.{IsLevelCost}
use Rattle.diagnosis.specs.Costs.{AreCosts}
use Rattle.diagnosis.proofs.UnmetRows.{front-all}
use Rattle.frac_core.proofs.Numbers.{factor-zero as product-zero}

pub costs_none : (p : Problem) (values : List (ℕ × Fraction)) → AreCosts p values 1000 []
costs_none p values = record {
  sums = All-nil (λ (c : ℕ × Fraction). (1000 ≤ c.0) × (c.0 < 1000) × EachGiven values (λ x. IsLevelCost p x (1000 - c.0) c.1));
  lowest = All-nil (λ (c : ℕ × Fraction). IsLowest c.1);
  lacking = All-nil (λ (c : ℕ × Fraction). c.1.num ≢ pos 0);
  falling = λ i j d less within. absurd (omega (arith, within));
  all = λ rank high low. absurd (omega (arith, high, low));
}

-- a sum that is read as 0
no-cost : (p : Problem) (values : List (ℕ × Fraction)) (level : ℕ) (f : Fraction) → EachGiven values (λ x. IsLevelCost p x level f) → f.num ≡ pos 0 → IsLowest f → EachGiven values (λ x. cost (lines p) x level ≡ 0)
no-cost p values level f is zero-num low x gives =
    let e : f.num *ℤ pos (x.den * common (lines p)) ≡ pos (cost (lines p) x level) *ℤ pos f.den = is x gives in
    let a = ap (λ (z : ℤ). z *ℤ pos (x.den * common (lines p))) zero-num in
    let b = zero-mul_ℤ (pos (x.den * common (lines p))) in
    let none : cost (lines p) x level * f.den ≡ 0 = omega (arith, ints, e, a, b) in
    product-zero (cost (lines p) x level) f.den low.above none

pub costs_skip : (p : Problem) (values : List (ℕ × Fraction)) (rank : ℕ) (costs : List (ℕ × Fraction)) (f : Fraction) → EachGiven values (λ x. IsLevelCost p x (1000 - rank) f) → f.num ≡ pos 0 → IsLowest f → AreCosts p values (rank + 1) costs → AreCosts p values rank costs
costs_skip p values rank costs f is zero-num low are = record {
  sums = λ i d within. let c = are.sums i d within in ((let more = c.0 in omega (arith, more)), c.1, c.2);
  lowest = are.lowest;
  lacking = are.lacking;
  falling = are.falling;
  all = λ r high small apart. elim (cases_eq r rank) [
    | inl e ↦ subst (λ (n : ℕ). EachGiven values (λ x. cost (lines p) x (1000 - n) ≡ 0)) (sym e) (no-cost p values (1000 - rank) f is zero-num low)
    | inr other ↦ are.all r (omega (arith, high, other)) small apart
  ];
}

pub costs_push : (p : Problem) (values : List (ℕ × Fraction)) (rank : ℕ) (costs new : List (ℕ × Fraction)) (f : Fraction) → rank < 1000 → EachGiven values (λ x. IsLevelCost p x (1000 - rank) f) → f.num ≢ pos 0 → IsLowest f → new ≡ costs ++ (rank, f) ∷ []
    → AreCosts p values (rank + 1) costs → AreCosts p values rank new
costs_push p values rank costs new f small is some low e are =
    subst (AreCosts p values rank) (sym e)
    (record {
      sums = All-push (λ c. (rank ≤ c.0) × (c.0 < 1000) × EachGiven values (λ x. IsLevelCost p x (1000 - c.0) c.1)) costs (rank, f)
          (λ i d within. let c = are.sums i d within in ((let more = c.0 in omega (arith, more)), c.1, c.2)) (omega arith, small, is);
      lowest = All-push (λ c. IsLowest c.1) costs (rank, f) are.lowest low;
      lacking = All-push (λ c. c.1.num ≢ pos 0) costs (rank, f) are.lacking some;
      falling = all_pairs_push (λ c d. d.0 < c.0) costs (rank, f) are.falling (λ i d within. let more = (are.sums i d within).0 in omega (arith, more));
      all = λ r high below apart. elim (cases_eq r rank) [
        | inl same ↦ absurd ((front-all (λ c. c.0 ≢ r) costs (rank, f) apart).1 (sym same))
        | inr other ↦ are.all r (omega (arith, high, other)) below (front-all (λ c. c.0 ≢ r) costs (rank, f) apart).0
      ];
    })
