-- The best assignments without the stays, and the attributes that move among them.
use Rattle.std.specs.Prelude.{◌≡◌, ◌≢◌, ◌⊎◌, ℕ, ◌*◌, ◌<◌, ◌≤◌, pos, ◌+ℤ◌, ◌-ℤ◌, ◌*ℤ◌, ◌<ℤ◌, ◌≤ℤ◌}
use Rattle.frac_core.specs.Fraction.{Fraction}
use Rattle.problem_core.specs.declared.limits.TheConstants.{REQUIRED}
use Rattle.problem_core.specs.Layout.{Assignment, Problem, Satisfies, cost, lines}

-- at the first priority at which they differ, x costs less than y; the levels of stays don't count
abbrev pub IsLooselyLess : Problem → Assignment → Assignment → Type 0
IsLooselyLess p x y =
    (level : ℕ)
    × (level ≤ REQUIRED)
    × ((k : ℕ) → k < level → cost (lines p) x k * y.den ≡ cost (lines p) y k * x.den)
    × (cost (lines p) x level * y.den < cost (lines p) y level * x.den)

-- the required rows hold, and no assignment costs less at the priorities
pub record IsLooselyBest (p : Problem) (x : Assignment) : Type 0 where
  pub satisfies : Satisfies p x
  pub least : (y : Assignment) → IsLooselyLess p y x → ⊥

-- ---- values

-- x gives the attribute this value
abbrev pub Reaches : Assignment → ℕ → Fraction → Type 0
Reaches x attr f = x.num attr *ℤ pos f.den ≡ f.num *ℤ pos x.den

-- x gives the attribute more than this value
abbrev pub IsAbove : Assignment → ℕ → Fraction → Type 0
IsAbove x attr f = (f.num *ℤ pos x.den) <ℤ (x.num attr *ℤ pos f.den)

-- x gives it less
abbrev pub IsBelow : Assignment → ℕ → Fraction → Type 0
IsBelow x attr f = (x.num attr *ℤ pos f.den) <ℤ (f.num *ℤ pos x.den)

-- x gives it at most this value and 1
abbrev pub IsUpToNext : Assignment → ℕ → Fraction → Type 0
IsUpToNext x attr f = (x.num attr *ℤ pos f.den) ≤ℤ ((f.num +ℤ pos f.den) *ℤ pos x.den)

-- x gives it at least this value less 1
abbrev pub IsDownToLast : Assignment → ℕ → Fraction → Type 0
IsDownToLast x attr f = ((f.num -ℤ pos f.den) *ℤ pos x.den) ≤ℤ (x.num attr *ℤ pos f.den)

-- ---- what moves

-- some loosely best assignment gives the attribute more than v
abbrev pub GoesAbove : Problem → ℕ → Fraction → Type 0
GoesAbove p attr v = (x : Assignment) × IsLooselyBest p x × IsAbove x attr v

-- some loosely best assignment gives the attribute less than v
abbrev pub GoesBelow : Problem → ℕ → Fraction → Type 0
GoesBelow p attr v = (x : Assignment) × IsLooselyBest p x × IsBelow x attr v

-- f is the greatest value up to v + 1 that a loosely best assignment gives the attribute
pub record IsGreatestUp (p : Problem) (attr : ℕ) (v f : Fraction) : Type 0 where
  pub reached : (x : Assignment) × IsLooselyBest p x × Reaches x attr f × IsUpToNext x attr v
  pub greatest : (y : Assignment) → IsLooselyBest p y → IsUpToNext y attr v → IsAbove y attr f → ⊥

-- f is the least value down to v - 1
pub record IsLeastDown (p : Problem) (attr : ℕ) (v f : Fraction) : Type 0 where
  pub reached : (x : Assignment) × IsLooselyBest p x × Reaches x attr f × IsDownToLast x attr v
  pub least : (y : Assignment) → IsLooselyBest p y → IsDownToLast y attr v → IsBelow y attr f → ⊥

-- the attribute moves from v to f: up if something above v is reached, otherwise down if something below is
abbrev pub IsMove : Problem → ℕ → Fraction → Fraction → Type 0
IsMove p attr v f = (GoesAbove p attr v × IsGreatestUp p attr v f)
    ⊎ ((GoesAbove p attr v → ⊥) × GoesBelow p attr v × IsLeastDown p attr v f)

-- two loosely best assignments differ at the attribute
abbrev pub IsAmbiguous : Problem → ℕ → Type 0
IsAmbiguous p attr = (x y : Assignment) × IsLooselyBest p x × IsLooselyBest p y
    × (x.num attr *ℤ pos y.den ≢ y.num attr *ℤ pos x.den)
