-- Found words, whatever the place in memory of the text after them.
use Rattle.std.specs.Prelude.{ℕ, List, Result}
use Rattle.std.specs.Borrow.{Bor}
use Rattle.span_text.specs.Gives.{Gives}
use Rattle.script_text.specs.LineReading.{as_first}
use Rattle.script_text.specs.declared.words.ChangeWord.{ChangeWord}
use Rattle.script_text.specs.declared.words.PlainWord.{PlainWord}
use Rattle.script_text.specs.declared.words.FirstWord.{FirstWord}

-- a word and the text after it, or how much of the text is left where the search ended, is as it was read
abbrev pub GivesWord : {K : Type 0} → Result (K × Bor (List ℕ)) ℕ → Result (K × List ℕ) ℕ → Type 0
GivesWord found read = Gives (λ p. (p.0, p.1.now)) found read

-- whatever was found among the other words, with the words tried before them `next` of it is found
abbrev pub GivesBefore : {K : Type 0} → (other found : Result (K × Bor (List ℕ)) ℕ)
    → (Result (K × List ℕ) ℕ → Result (K × List ℕ) ℕ) → Type 0
GivesBefore {K = K} other found next = (r : Result (K × List ℕ) ℕ) → GivesWord other r
    → GivesWord found (next r)

-- whatever was found as a change's word and as another command's word, the first word is the first of them
abbrev pub GivesFirst : Result (ChangeWord × Bor (List ℕ)) ℕ → Result (PlainWord × Bor (List ℕ)) ℕ
    → Result (FirstWord × Bor (List ℕ)) ℕ → Type 0
GivesFirst change plain found = (r : Result (ChangeWord × List ℕ) ℕ) → GivesWord change r
    → (q : Result (PlainWord × List ℕ) ℕ) → GivesWord plain q → GivesWord found (as_first r q)
