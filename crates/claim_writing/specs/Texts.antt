-- Texts that grow.
use Rattle.std.specs.Prelude.{◌≡◌, ℕ, ◌++◌, List, String, string_bytes}

-- the new text is the old one with these bytes behind it
abbrev pub Adds : {A : Type 0} → String A → String A → List ℕ → Type 0
Adds old new more = string_bytes new ≡ string_bytes old ++ more
