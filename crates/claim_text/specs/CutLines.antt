-- Texts that are cut between lines.
use Rattle.std.specs.Prelude.{◌≡◌, ◌⊎◌, ℕ, ◌<◌, ◌≤◌, List, [], ◌∷◌, ◌++◌, length, take, drop, All}
use Rattle.std.specs.Str.Lines.{lines}
use Rattle.claim_text.specs.Cut.{BeginsClaim}

-- the text ends where a line begins
abbrev pub EndsBetweenLines : List ℕ → Type 0
EndsBetweenLines text = (more : List ℕ) → lines (text ++ more) ≡ lines text ++ lines more

-- The first n bytes are the first line with its end.
pub record IsLineLength (text : List ℕ) (n : ℕ) : Type 0 where
  pub some : 0 < n
  pub within : n ≤ length text
  pub whole : EndsBetweenLines (take n text) ⊎ (n ≡ length text)
  pub here : (line : List ℕ) (more : List (List ℕ)) → lines text ≡ line ∷ more
      → (lines (take n text) ≡ line ∷ []) × (lines (drop n text) ≡ more)

-- the last line begins at this place
pub record IsLastStart (text : List ℕ) (at : ℕ) : Type 0 where
  pub within : at < length text
  pub whole : EndsBetweenLines (take at text)
  pub last : (line : List ℕ) (more : List (List ℕ)) → lines (drop at text) ≡ line ∷ more → more ≡ []

-- a place between lines, with this count of lines before it, none of which begins a claim
pub record IsCutPlace (text : List ℕ) (at count : ℕ) : Type 0 where
  pub within : at ≤ length text
  pub whole : EndsBetweenLines (take at text) ⊎ (at ≡ length text)
  pub count_is : count ≡ length (lines (take at text))
  pub before : All (λ line. BeginsClaim line → ⊥) (lines (take at text))
