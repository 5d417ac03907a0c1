-- What a trial comes to.
use Rattle.std.proofs.Common.{◌≡◌, ℕ, ◌<◌, pos, ◌*ℤ◌, List, map, take, drop, get_or, sym, subst, arith, All, AllPairs, Contains, IsPermutation}
use Rattle.std.proofs.lemmas.List.{get_or-map, length-map}
use Rattle.std.proofs.lemmas.List.Elements.{All-map, All-weaker}
use Rattle.frac_core.specs.Fraction.{Fraction, IsKept}
use Rattle.frac_core.proofs.Lists.{pairs-front, pairs-map, take-drop}
use Rattle.problem_core.specs.declared.parts.Stay.{Stay}
use Rattle.problem_core.specs.Kept.{AreRising}
use Rattle.problem_core.specs.Gaps.{HasValue, value_of}
use Rattle.problem_core.specs.Layout.{Assignment, Gives, HasStay, Problem, Satisfies}
use Rattle.layout_solver.specs.Layouts.{AreBest}
use Rattle.layout_solver.specs.Starts.{attrs_of}
use Rattle.layout_solver.proofs.ApartValues.{all_read, stay_valued}
use Rattle.problem_core.proofs.StayNumbers.{numbers_held, stays_there}
use Rattle.conflict_core.specs.Cores.{trial}
use Rattle.conflict_core.specs.Shown.{IsSolution}
use Rattle.conflict_core.proofs.TrialWhole.{trial_attrs}

abbrev attr_of : Stay → ℕ
attr_of s = s.attr

-- the attribute with its value
abbrev pub read : List (ℕ × Fraction) → ℕ → ℕ × Fraction
read values a = (a, value_of values a)

-- those of the first attributes, which rise
pub read_rising : (values : List (ℕ × Fraction)) (attrs : List ℕ) (i : ℕ) → AllPairs (λ a b. a < b) attrs → AreRising (map (read values) (take i attrs))
read_rising values attrs i rising =
    pairs-map (read values) (λ (u v : ℕ × Fraction). u.0 < v.0) (take i attrs)
    (pairs-front (λ (a b : ℕ). a < b) (take i attrs) (drop i attrs) (subst (AllPairs (λ (a b : ℕ). a < b)) (sym (take-drop attrs i)) rising))

module _ (q : Problem) (numbers : List ℕ) (same : IsPermutation (attrs_of q) numbers) where
  -- each number is that of an attribute
  pub all_held : All (HasStay q.stays) numbers
  all_held = numbers_held q.stays numbers same

  module _ (values : List (ℕ × Fraction)) where
    valued-there : (a : ℕ) → Contains numbers a → HasValue (map (read values) numbers) a
    valued-there a (k, within, is) =
        let long = length-map numbers (read values) in
        (k, read values (get_or numbers k a), omega (arith, within, long), get_or-map (read values) numbers k a (read values (get_or numbers k a)) within, is)

    -- values that satisfy it, read by number, are a solution
    pub read_solution : map (λ v. v.0) values ≡ attrs_of q → All (λ v. IsKept v.1) values → AllPairs (λ a b. a < b) numbers → (x : Assignment) → Satisfies q x → Gives values x → IsSolution q (map (read values) numbers)
    read_solution at kept rising x is gives =
        let has : All (HasValue values) numbers = All-weaker (HasStay q.stays) (HasValue values) (stay_valued q.stays values at) numbers all_held in
        record {
          all = record {
            attributes = record {
              valued = All-weaker (λ (s : Stay). Contains numbers s.attr) (λ (s : Stay). HasValue (map (read values) numbers) s.attr) (λ s. valued-there s.attr) q.stays (stays_there q.stays numbers same);
              held = All-map (λ (v : ℕ × Fraction). HasStay q.stays v.0) (read values) numbers all_held;
            };
            rising = pairs-map (read values) (λ (u v : ℕ × Fraction). u.0 < v.0) numbers rising;
            kept = all_read (λ (v : ℕ × Fraction). IsKept v.1) values kept numbers has;
          };
          satisfies = (x, is, all_read (λ (v : ℕ × Fraction). x.num v.0 *ℤ pos v.1.den ≡ v.1.num *ℤ pos x.den) values gives numbers has);
        }

    -- best values are
    pub solved : AreBest q values → All (λ v. IsKept v.1) values → AllPairs (λ a b. a < b) numbers → IsSolution q (map (read values) numbers)
    solved best kept rising = let (x, is, gives) = best.best in read_solution best.attributes kept rising x is.0 gives

-- the numbers are those of a trial's attributes too
pub trial_numbers : (p : Problem) (ids numbers : List ℕ) → IsPermutation (attrs_of p) numbers → IsPermutation (attrs_of (trial p ids)) numbers
trial_numbers p ids numbers same = subst (λ (ns : List ℕ). IsPermutation ns numbers) (sym (trial_attrs p ids)) same
