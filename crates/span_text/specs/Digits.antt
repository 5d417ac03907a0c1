-- The value of digits, and digits whose value isn't 0.
use Rattle.std.specs.Prelude.{◌≡◌, ℕ, zero, suc, ◌+◌, ◌-◌, ◌*◌, ◌≤◌, ◌==◌, List, [], ◌∷◌, ◌++◌, length}
use Rattle.std.specs.Prelude.{Result, Ok, Err, if◌then◌else◌}
use Rattle.span_text.specs.Bytes.{digit_0}
use Rattle.span_text.specs.Language.{Rel, AllIn, NotStart}
use Rattle.span_text.specs.Classes.{is_digit}

-- the value of digits behind a value
abbrev pub digits : ℕ → List ℕ → ℕ
digits a [] = a
digits a (b ∷ x) = digits (10 * a + (b - digit_0)) x

-- at most n digits, as many as stand there, behind digits of the value a; the value of all isn't 0
abbrev pub Nonzero : {A : Type 0} → ℕ → ℕ → (ℕ → Rel A) → Rel A
Nonzero n a F s v = (x : List ℕ) × (t : List ℕ) × (s ≡ x ++ t) × AllIn is_digit x × (length x ≤ n)
    × NotStart is_digit t × (digits a x ≡ 0 → ⊥) × F (digits a x) t v

-- the digits end here: the value a of all and the text behind them, or an error where that value is 0
abbrev pub ended : ℕ → List ℕ → Result (ℕ × List ℕ) ℕ
ended a s = if a == 0 then Err (length s) else Ok (a, s)

-- RATIO behind its slash, where digits of the value a were read and n more may follow: the value of all,
-- which isn't 0, and the text at once behind them
unfoldable pub nonzero_at : ℕ → ℕ → List ℕ → Result (ℕ × List ℕ) ℕ
nonzero_at n a [] = ended a []
nonzero_at zero a (b ∷ s) = if is_digit b then Err (length (b ∷ s)) else ended a (b ∷ s)
nonzero_at (suc zero) a (b ∷ s) = if is_digit b then (if 10 * a + (b - digit_0) == 0 then Err (length (b ∷ s))
    else nonzero_at zero (10 * a + (b - digit_0)) s) else ended a (b ∷ s)
nonzero_at (suc (suc n)) a (b ∷ s) = if is_digit b then nonzero_at (suc n) (10 * a + (b - digit_0)) s
    else ended a (b ∷ s)
