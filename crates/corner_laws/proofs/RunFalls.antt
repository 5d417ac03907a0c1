-- Along a run the extended costs fall.
use Rattle.std.proofs.Common.{ℕ, List, [], ◌∷◌, ℤ, arith, inl, inr}
use Rattle.std.specs.List.{AllPairs}
use Rattle.std.proofs.lemmas.List.Elements.{All-from_recursion}
use Rattle.std.proofs.lemmas.List.Kept.{AllPairs-cons}
use Rattle.problem_core.specs.declared.parts.Mark.{Mark}
use Rattle.problem_core.specs.Kept.{IsWhole}
use Rattle.problem_core.specs.Layout.{Problem}
use Rattle.problem_core.specs.Corners.{IsCorner, NoNegativeValue, Swap, corners, exchanged, one_column, place}
use Rattle.problem_core.specs.Rays.{HasRays}
use Rattle.problem_core.proofs.Corners.Exchanges.{IsLexPositive}
use Rattle.problem_core.proofs.Forms.{each-impl}
use Rattle.frac_core.proofs.Numbers.{as-natural}
use Rattle.corner_laws.specs.Runs.{AreRunSwaps}
use Rattle.corner_laws.specs.RunFalls.{FallsTo, HasFallen, IsAboveZero, IsChange, IsExtendedAt}
use Rattle.corner_laws.proofs.Rays.{rays_after}
use Rattle.corner_laws.proofs.RunSteps.Extended.{IsExtended, IsLift, run_columns}
use Rattle.corner_laws.proofs.RunSteps.RunCosts.{AreLower}
use Rattle.corner_laws.proofs.RunSteps.RunPaths.{IsLaterCorner, first_extended, first_values, later_all, run_step}

lex-above : (f : ℕ → ℤ) (cs : List ℕ) → IsLexPositive f cs → IsAboveZero f cs
lex-above f [] h = h
lex-above f (c ∷ cs) (inl h) = inl h
lex-above f (c ∷ cs) (inr h) = inr (h.0, lex-above f cs h.1)

extended-at : (p : Problem) (first at : List Mark) (values : ℕ → ℕ → ℤ) (one : ℕ) → IsExtended p first at values one → IsExtendedAt p first at (record { one = one; values = values })
extended-at p first at values one e = record {
  above = e.above;
  solves = e.solves;
  unit = e.unit;
  outside = e.outside;
  changes = All-from_recursion (λ f. IsChange p at one (place f) (values (place f))) first
      (each-impl (λ f. IsLift p at one (place f) (values (place f))) (λ f. IsChange p at one (place f) (values (place f))) first (λ f l. record { holds = l.direction.holds; still = l.direction.still; outside = l.outside }) e.lifts);
}

fallen : (p : Problem) (cs : List ℕ) (one : ℕ) (values : ℕ → ℕ → ℤ) (after : ℕ) (next : ℕ → ℕ → ℤ) → AreLower p cs one values after next → HasFallen p cs (record { one = one; values = values }) (record { one = after; values = next })
fallen p cs one values after next h = record {
  factor = h.factor;
  above = h.above;
  ones = h.ones;
  level = h.level;
  same = λ j less. All-from_recursion _ cs (h.before j less);
  less = lex-above _ cs h.here;
}

falls-to : (p : Problem) (first at next : List Mark) (values : ℕ → ℕ → ℤ) (one : ℕ) → IsExtended p first at values one → IsLaterCorner p first values one next → FallsTo p first at next
falls-to p first at next values one e l = record {
  before = record { one = one; values = values };
  is_before = extended-at p first at values one e;
  after = record { one = l.scale; values = l.after };
  is_after = extended-at p first next l.after l.scale l.extended;
  fallen = fallen p (run_columns first) one values l.scale l.after l.lower;
}

all-fall : (p : Problem) (first at : List Mark) (swaps : List Swap) (values : ℕ → ℕ → ℤ) (one : ℕ) → IsWhole p → HasRays p first → IsCorner p at → HasRays p at → IsExtended p first at values one → AreRunSwaps p first at swaps → AllPairs (FallsTo p first) (corners at swaps)
all-fall p first at [] values one whole start corner rays e run =
    AllPairs-cons (FallsTo p first) at [] (All-from_recursion (FallsTo p first at) [] tt) (λ i j d less within. absurd (omega (arith, within)))
all-fall p first at (s ∷ swaps) values one whole start corner rays e run =
    let h = run_step p first at s values one whole start corner rays e run.0 in
    AllPairs-cons (FallsTo p first) at (corners (exchanged s at) swaps)
    (All-from_recursion (FallsTo p first at) (corners (exchanged s at) swaps)
    (each-impl (IsLaterCorner p first values one) (FallsTo p first at) (corners (exchanged s at) swaps) (λ b l. falls-to p first at b values one e l) (later_all p first at s swaps values one whole start corner rays e run)))
    (all-fall p first (exchanged s at) swaps h.after h.scale whole start h.exchange.corner (rays_after p at s run.0.mark h.exchange rays) h.extended run.1)

pub run_falls : (p : Problem) (first : List Mark) (swaps : List Swap) → IsWhole p → IsCorner p first → HasRays p first → NoNegativeValue p first → AreRunSwaps p first first swaps → AllPairs (FallsTo p first) (corners first swaps)
run_falls p first swaps whole corner rays (x, stands, values) run =
    let k = as-natural (x.num one_column) x.positive in
    all-fall p first first swaps (first_values k.0 x.num) k.0 whole rays corner rays (first_extended p first x k.0 whole corner stands k.2 k.1 values) run
