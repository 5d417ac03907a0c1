-- Where lines that are read one by one stop to be a text.
use Rattle.std.specs.Prelude.{◌≡◌, ℕ, ◌+◌, List, ◌∷◌, ◌++◌, length}

-- The n-th line is the first, counted from 1, that may not follow those before it: these lines read as a
-- draft, and no draft comes after that one by the line.
pub record IsFirstBad {A : Type 0} (AreRead : List (List ℕ) → A → Type 0)
    (Follows : A → List ℕ → A → Type 0) (all : List (List ℕ)) (n : ℕ) : Type 0 where
  pub before : List (List ℕ)
  pub line : List ℕ
  pub after : List (List ℕ)
  pub parts : all ≡ before ++ line ∷ after
  pub number : n ≡ length before + 1
  pub so_far : A
  pub reads : AreRead before so_far
  pub bad : (new : A) → Follows so_far line new → ⊥
