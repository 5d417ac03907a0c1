-- The lines of a host.
use Rattle.std.specs.Prelude.{◌≡◌, ◌==◌, ℕ, Bool, List, codes, if◌then◌else◌, Result, Ok}
use Rattle.span_text.specs.Bytes.{hash}
use Rattle.span_text.specs.Language.{Rel, End, Lit, Or}
use Rattle.span_text.specs.Reading.{◌>>=◌, end_at, lit_at, starts}
use Rattle.span_text.specs.Tokens.{Blanks, Name, name_at, skip}

-- all that follows, as it is
abbrev pub Remains : {A : Type 0} → (List ℕ → A) → Rel A
Remains f t v = v ≡ f t

-- blanks, a name, blanks, a colon, and the line of the scene of this name
abbrev pub NamedLine : Rel (List ℕ × List ℕ)
NamedLine = Blanks (Name (λ n. Lit (codes ":") (Remains (λ t. (n, t)))))

-- reading it: the name, and all behind the colon
unfoldable pub named_line_at : List ℕ → Result (List ℕ × List ℕ) ℕ
named_line_at s = do
  name ← name_at (skip s)
  rest ← lit_at (codes ":") name.1
  Ok (name.0, rest)

-- blanks alone, or a comment
abbrev pub QuietLine : Rel (Unit {0})
QuietLine = Blanks (Or (Lit (codes "#") (Remains (λ t. tt))) (End tt))

-- the byte with which a comment begins
abbrev pub is_hash : ℕ → Bool
is_hash b = b == hash

-- reading it
unfoldable pub quiet_at : List ℕ → Result (Unit {0}) ℕ
quiet_at s = if starts is_hash (skip s)
    then (do
      _ ← lit_at (codes "#") (skip s)
      Ok tt)
    else (do
      _ ← end_at (skip s)
      Ok tt)

-- the line gets no answer
abbrev pub IsQuiet : List ℕ → Type 0
IsQuiet line = QuietLine line tt
