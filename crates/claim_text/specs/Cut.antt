-- The input of a check: the lines of a problem, and the lines of a claim.
use Rattle.std.specs.Prelude.{◌≡◌, ◌⊎◌, ℕ, List, [], ◌∷◌, ◌++◌, All, codes}
use Rattle.span_text.specs.TextCuts.Words.{words_of}

-- one of the four words with which a claim may begin
abbrev pub IsClaimWord : List ℕ → Type 0
IsClaimWord w = (w ≡ codes "value") ⊎ ((w ≡ codes "best") ⊎ ((w ≡ codes "conflict") ⊎ (w ≡ codes "path")))

-- a claim may begin with the line: its first word is one of four
abbrev pub BeginsClaim : List ℕ → Type 0
BeginsClaim line = (w : List ℕ) × (ws : List (List ℕ)) × (words_of line ≡ w ∷ ws) × IsClaimWord w

-- no line, or a first line with which a claim may begin
abbrev pub IsClaimStart : List (List ℕ) → Type 0
IsClaimStart [] = Unit {0}
IsClaimStart (line ∷ more) = BeginsClaim line

-- the line `ok`
abbrev pub ok_line : List ℕ
ok_line = codes "ok"

-- the lines of a claim, without an ending line `ok`
abbrev pub IsWithoutOk : List (List ℕ) → List (List ℕ) → Type 0
IsWithoutOk written claim = (written ≡ claim ++ ok_line ∷ [])
    ⊎ ((written ≡ claim) × ((front : List (List ℕ)) → claim ≡ front ++ ok_line ∷ [] → ⊥))

-- The lines before the first with which a claim may begin are the problem's, and the others the claim's.
pub record IsCut (all problem claim : List (List ℕ)) : Type 0 where
  pub written : List (List ℕ)
  pub parts : all ≡ problem ++ written
  pub before : All (λ line. BeginsClaim line → ⊥) problem
  pub starts : IsClaimStart written
  pub without_ok : IsWithoutOk written claim
