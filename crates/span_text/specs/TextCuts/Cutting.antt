-- Where a line is cut into tokens: the longest runs of letters, digits and _, the relations ==, <= and >=,
-- and other characters one by one. Between them stand spaces alone.
use Rattle.std.specs.Prelude.{◌≡◌, ℕ, Bool, true, false, ◌==◌, ◌&&◌, ◌||◌, ◌<◌, List, [], ◌∷◌, ◌++◌, length}
use Rattle.std.specs.Prelude.{◌⊎◌, encode_utf8}
use Rattle.span_text.specs.Bytes.{equals, greater, less}
use Rattle.span_text.specs.Language.{AllIn, NotStart}
use Rattle.span_text.specs.Classes.{is_space, is_word}

-- `==`, `<=` or `>=` stands in front
abbrev pub begins_relation : List ℕ → Bool
begins_relation [] = false
begins_relation (b ∷ []) = false
begins_relation (b ∷ c ∷ s) = (c == equals) && ((b == less) || (b == equals) || (b == greater))

-- the longest run of letters, digits and _ in front of what follows
pub record IsRun (text rest : List ℕ) : Type 0 where
  pub some : 0 < length text
  pub inside : AllIn is_word text
  pub longest : NotStart is_word rest

-- one of the relations `==`, `<=` and `>=`
abbrev pub IsRelation : List ℕ → Type 0
IsRelation text = (length text ≡ 2) × (begins_relation text ≡ true)

-- one character that is no space, with which neither a run nor a relation begins
pub record IsOther (text rest : List ℕ) : Type 0 where
  pub character : ℕ
  pub encoded : text ≡ encode_utf8 character
  pub no_word : NotStart is_word text
  pub no_space : NotStart is_space text
  pub no_relation : begins_relation (text ++ rest) ≡ false

-- a token that the rest follows
abbrev pub IsToken : List ℕ → List ℕ → Type 0
IsToken text rest = IsRun text rest ⊎ (IsRelation text ⊎ IsOther text rest)
