-- Names behind an `s`, and numbers other than 0.
use Rattle.std.proofs.Common.{◌≡◌, ◌≢◌, ℕ, ℤ, pos, ◌<◌, ◌≤◌, ◌^◌, List, [], ◌∷◌, decimal, get_or, unsigned_abs, arith, sym, ap, ◌∙◌}
use Rattle.std.specs.Char.{IsAsciiDigit}
use Rattle.std.specs.Fmt.{signed_decimal}
use Rattle.problem_core.specs.declared.parts.RowName.{RowName}
use Rattle.problem_core.specs.declared.parts.RowName.TheVariants.{Held, Stay as StayRow}
use Rattle.problem_core.specs.declared.parts.Level.{Level}
use Rattle.problem_core.specs.declared.parts.Level.TheVariants.{Priority, Stay as StayLevel}
use Rattle.claim_writing.specs.Names.{row_word, level_word, IsRowName, IsLevelName}
use Rattle.problem_reading.proofs.Numerals.Digits.{decimal_digits, same_integer, same_value}

-- no digit is an `s`
pub no_s : (n : ℕ) (ds : List ℕ) → n < 10 ^ 19 → decimal n ≡ 115 ∷ ds → ⊥
no_s n ds small same =
    let are = decimal_digits n small in
    let front : IsAsciiDigit (get_or (decimal n) 0 0) = are.digits 0 0 are.some in
    let first : IsAsciiDigit 115 = rw same at front in
    omega (arith, first.1)

pub no_row : (word rest : List ℕ) → word ≡ 115 ∷ rest → ((n : ℕ) → 1 ≤ n → n ≤ 2 ^ 31 → rest ≡ decimal n → ⊥) → (r : RowName) → IsRowName r → word ≡ row_word r → ⊥
no_row word rest front none (Held id) is same = no_s id rest (omega (arith, is.1)) (sym same ∙ front)
no_row word rest front none (StayRow attr) is same = none attr (omega (arith, is.0)) is.1 (cc)

pub no_level : (word rest : List ℕ) → word ≡ 115 ∷ rest → ((n : ℕ) → 1 ≤ n → n ≤ 2 ^ 31 → rest ≡ decimal n → ⊥) → (l : Level) → IsLevelName l → word ≡ level_word l → ⊥
no_level word rest front none (Priority rank) is same = no_s rank rest (omega (arith, is)) (sym same ∙ front)
no_level word rest front none (StayLevel attr) is same = none attr (omega (arith, is.0)) is.1 (cc)

pub zero_alone : (all more next : List (List ℕ)) (most : ℕ) (y z : ℤ) → most < 2 ^ 50 → y ≡ pos 0 → unsigned_abs y ≤ most → all ≡ signed_decimal y ∷ next → unsigned_abs z ≤ most → z ≢ pos 0 → all ≡ signed_decimal z ∷ more → ⊥
zero_alone all more next most y z small zero size is other_size nonzero other =
    let same : signed_decimal z ≡ signed_decimal y = ap (λ (ws : List (List ℕ)). get_or ws 0 []) (sym other ∙ is) in
    nonzero (same_integer z y (omega arith) (omega arith) same ∙ zero)

-- one row and one level at most has a word
pub same_row_word : (a b : RowName) → IsRowName a → IsRowName b → row_word a ≡ row_word b → a ≡ b
same_row_word (Held a) (Held b) is_a is_b same = ap Held (same_value a b (omega (arith, is_a.1)) (omega (arith, is_b.1)) same)
same_row_word (Held a) (StayRow b) is_a is_b same = absurd (no_s a (decimal b) (omega (arith, is_a.1)) same)
same_row_word (StayRow a) (Held b) is_a is_b same = absurd (no_s b (decimal a) (omega (arith, is_b.1)) (sym same))
same_row_word (StayRow a) (StayRow b) is_a is_b same = let tails : decimal a ≡ decimal b = cc in ap StayRow (same_value a b (omega (arith, is_a.1)) (omega (arith, is_b.1)) tails)

pub same_level_word : (a b : Level) → IsLevelName a → IsLevelName b → level_word a ≡ level_word b → a ≡ b
same_level_word (Priority a) (Priority b) is_a is_b same = ap Priority (same_value a b (omega (arith, is_a)) (omega (arith, is_b)) same)
same_level_word (Priority a) (StayLevel b) is_a is_b same = absurd (no_s a (decimal b) (omega (arith, is_a)) same)
same_level_word (StayLevel a) (Priority b) is_a is_b same = absurd (no_s b (decimal a) (omega (arith, is_b)) (sym same))
same_level_word (StayLevel a) (StayLevel b) is_a is_b same = let tails : decimal a ≡ decimal b = cc in ap StayLevel (same_value a b (omega (arith, is_a.1)) (omega (arith, is_b.1)) tails)
