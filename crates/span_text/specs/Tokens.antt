-- Tokens with the spaces behind them, and their readers.
use Rattle.std.specs.Prelude.{ℕ, ◌+◌, ◌-◌, ◌*◌, ◌^◌, ◌==◌, Bool, List, [], ◌∷◌, length, Result, Ok}
use Rattle.std.specs.Prelude.{if◌then◌else◌}
use Rattle.span_text.specs.Bytes.{point, slash}
use Rattle.span_text.specs.Language.{Rel, Lit, One, Run, Few, Not, Or}
use Rattle.span_text.specs.Classes.{is_space, is_digit, is_letter, is_word}
use Rattle.span_text.specs.Digits.{digits, Nonzero, nonzero_at}
use Rattle.span_text.specs.Reading.{◌>>=◌, lit_at, front, back, one_at, not_at, few_at, starts}
use Rattle.span_text.specs.declared.limits.TheConstants.{DECIMALS, NUMBER_DIGITS, RATIO_DIGITS}
use Rattle.span_text.specs.declared.limits.TheConstants.{UNIT, WHOLE_DIGITS}

-- spaces, and then a text of F
abbrev pub Blanks : {A : Type 0} → Rel A → Rel A
Blanks F = Run is_space (λ _. F)

-- Behind a letter, a digit or _: no other one of them follows, so a space stands before the next one.
abbrev pub Tail : {A : Type 0} → Rel A → Rel A
Tail F = Not is_word (Blanks F)

-- this word, which no letter, digit or _ follows at once, the spaces behind it, and then a text of F
abbrev pub Word : {A : Type 0} → List ℕ → Rel A → Rel A
Word w F = Lit w (Tail F)

-- a sign of one byte, the spaces behind it, and then a text of F
abbrev pub Sign : {A : Type 0} → ℕ → Rel A → Rel A
Sign c F = Lit (c ∷ []) (Blanks F)

-- NAME, the spaces behind it, and then a text of F at its bytes
abbrev pub Name : {A : Type 0} → (List ℕ → Rel A) → Rel A
Name F = One is_letter (λ b. Run is_word (λ x. Blanks (F (b ∷ x))))

-- a name with nothing said of what follows, as in a.left
abbrev pub RawName : {A : Type 0} → (List ℕ → Rel A) → Rel A
RawName F = One is_letter (λ b. Run is_word (λ x. F (b ∷ x)))

-- a digit, and at most n more
abbrev pub Digits : {A : Type 0} → ℕ → (List ℕ → Rel A) → Rel A
Digits n F = One is_digit (λ b. Few is_digit n (λ x. F (b ∷ x)))

-- decimals in thousandths
abbrev pub decimals : List ℕ → ℕ
decimals f = digits 0 f * 10 ^ (DECIMALS - length f)

-- the point of a NUMBER or of NAME.ATTR
abbrev pub is_point : ℕ → Bool
is_point b = b == point

-- digits, and perhaps a point and decimals; the value in thousandths
abbrev pub Number : {A : Type 0} → (ℕ → Rel A) → Rel A
Number F = Digits (NUMBER_DIGITS - 1) (λ x. Or
    (Lit (point ∷ []) (Digits (DECIMALS - 1) (λ y. Tail (F (digits 0 x * UNIT + decimals y)))))
    (Not is_point (Tail (F (digits 0 x * UNIT)))))

-- what each number in thousandths is below
abbrev pub number_bound : ℕ
number_bound = 10 ^ NUMBER_DIGITS * UNIT

-- digits alone
abbrev pub Whole : {A : Type 0} → (ℕ → Rel A) → Rel A
Whole F = Digits (WHOLE_DIGITS - 1) (λ x. Tail (F (digits 0 x)))

-- digits, a slash, and digits whose value isn't 0
abbrev pub Ratio : {A : Type 0} → (ℕ → ℕ → Rel A) → Rel A
Ratio F = Digits (RATIO_DIGITS - 1) (λ x. Lit (slash ∷ [])
    (Nonzero RATIO_DIGITS 0 (λ d. Tail (F (digits 0 x) d))))

-- the text behind the spaces in front
abbrev pub skip : List ℕ → List ℕ
skip s = back is_space s

-- the same as a reading, which never fails
abbrev pub skipped : List ℕ → Result (List ℕ) ℕ
skipped s = Ok (skip s)

-- what stands behind a letter, a digit or _, as `Tail` has it: the text behind the spaces
unfoldable pub tail_at : List ℕ → Result (List ℕ) ℕ
tail_at s = not_at is_word s >>= skipped

-- this word, which no letter, digit or _ follows at once: the text behind it and its spaces
unfoldable pub word_at : List ℕ → List ℕ → Result (List ℕ) ℕ
word_at w s = lit_at w s >>= tail_at

-- this sign: the text behind it and its spaces
unfoldable pub sign_at : ℕ → List ℕ → Result (List ℕ) ℕ
sign_at c s = lit_at (c ∷ []) s >>= skipped

-- NAME behind its first byte, which was read: all its bytes, and the text behind it and its spaces
abbrev pub named : ℕ × List ℕ → Result (List ℕ × List ℕ) ℕ
named r = Ok (r.0 ∷ front is_word r.1, skip (back is_word r.1))

-- NAME: its bytes, and the text behind it and its spaces
unfoldable pub name_at : List ℕ → Result (List ℕ × List ℕ) ℕ
name_at s = one_at is_letter s >>= named

-- NAME behind its first byte, which was read: all its bytes, and the text at once behind them
abbrev pub raw_named : ℕ × List ℕ → Result (List ℕ × List ℕ) ℕ
raw_named r = Ok (r.0 ∷ front is_word r.1, back is_word r.1)

-- NAME, as in NAME.ATTR: its bytes, and the text at once behind them
unfoldable pub raw_name_at : List ℕ → Result (List ℕ × List ℕ) ℕ
raw_name_at s = one_at is_letter s >>= raw_named

-- digits, as many as stand there, one and at most n more: their bytes, and the text at once behind them
unfoldable pub digits_at : ℕ → List ℕ → Result (List ℕ × List ℕ) ℕ
digits_at n s = do
  first ← one_at is_digit s
  others ← few_at is_digit n first.1
  Ok (first.0 ∷ others.0, others.1)

-- the meaning of digits that were read: their value and their count, with the text behind them
abbrev pub valued : List ℕ × List ℕ → Result (ℕ × ℕ × List ℕ) ℕ
valued r = Ok (digits 0 r.0, length r.0, r.1)

-- digits as their value and their count
unfoldable pub valued_at : ℕ → List ℕ → Result (ℕ × ℕ × List ℕ) ℕ
valued_at n s = digits_at n s >>= valued

-- NUMBER from its point on, behind digits of this value: its meaning in thousandths, and the text behind it
unfoldable pub decimals_at : ℕ → List ℕ → Result (ℕ × List ℕ) ℕ
decimals_at whole s = do
  rest ← lit_at (point ∷ []) s
  part ← valued_at (DECIMALS - 1) rest
  rest ← tail_at part.2
  Ok (whole * UNIT + part.0 * 10 ^ (DECIMALS - part.1), rest)

-- NUMBER without a point, behind digits of this value: its meaning in thousandths, and the text behind it
unfoldable pub no_decimals_at : ℕ → List ℕ → Result (ℕ × List ℕ) ℕ
no_decimals_at whole s = do
  rest ← not_at is_point s
  rest ← tail_at rest
  Ok (whole * UNIT, rest)

-- NUMBER: its meaning in thousandths, and the text behind it
unfoldable pub number_at : List ℕ → Result (ℕ × List ℕ) ℕ
number_at s = do
  whole ← valued_at (NUMBER_DIGITS - 1) s
  if starts is_point whole.2 then decimals_at whole.0 whole.2 else no_decimals_at whole.0 whole.2

-- WHOLE: its meaning, which is its value, and the text behind it
unfoldable pub whole_at : List ℕ → Result (ℕ × List ℕ) ℕ
whole_at s = do
  value ← valued_at (WHOLE_DIGITS - 1) s
  rest ← tail_at value.2
  Ok (value.0, rest)

-- the meaning of a RATIO, which is its two parts, with the text behind it
abbrev pub with_parts : ℕ → ℕ → List ℕ → Result (ℕ × ℕ × List ℕ) ℕ
with_parts above below s = Ok (above, below, s)

-- RATIO from its slash on, behind digits of this value: its meaning, and the text behind it
unfoldable pub below_at : ℕ → List ℕ → Result (ℕ × ℕ × List ℕ) ℕ
below_at above s = do
  rest ← lit_at (slash ∷ []) s
  below ← nonzero_at RATIO_DIGITS 0 rest
  tail_at below.1 >>= with_parts above below.0

-- a ratio's two parts and the text behind it
unfoldable pub ratio_at : List ℕ → Result (ℕ × ℕ × List ℕ) ℕ
ratio_at s = do
  above ← valued_at (RATIO_DIGITS - 1) s
  below_at above.0 above.2
