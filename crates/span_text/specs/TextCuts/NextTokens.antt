-- What an iterator over the tokens of a line gives.
use Rattle.std.specs.Prelude.{◌≡◌, ℕ, ◌+◌, List, ◌++◌, length, MatchOption}
use Rattle.std.specs.declared.option.Option.{Option}
use Rattle.span_text.specs.declared.token.Token.{Token}
use Rattle.span_text.specs.declared.token.Tokens.{Tokens}
use Rattle.span_text.specs.Language.{AllIn}
use Rattle.span_text.specs.Classes.{is_space}
use Rattle.span_text.specs.TextCuts.Cutting.{IsToken}
use Rattle.span_text.specs.TextCuts.Slices.{IsSliceAt}

-- The first token of a text, and where it stands in the line.
pub record IsNextToken (line text : List ℕ) (token : Token) (rest : List ℕ) : Type 0 where
  pub gap : List ℕ
  pub spaces : AllIn is_space gap
  pub parts : text ≡ gap ++ (token.text.now ++ rest)
  pub cut : IsToken token.text.now rest
  pub stands : IsSliceAt line token.start token.text.now
  pub ends : token.end ≡ token.start + length token.text.now
  pub left : token.end + length rest ≡ length line

-- the next token, or none where spaces alone are left
pub record NextToken (old : Tokens) (result : Option Token) (new : Tokens) : Type 0 where
  pub same_line : new.line.now ≡ old.line.now
  pub next : MatchOption result (AllIn is_space old.rest.now) (λ token.
      IsNextToken old.line.now old.rest.now token new.rest.now)
