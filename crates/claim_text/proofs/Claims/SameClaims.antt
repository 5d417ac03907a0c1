-- One value, one level, one multiplier at most has these words.
use Rattle.std.proofs.Common.{◌≡◌, ℕ, ℤ, ◌+◌, ◌*◌, List, [], get_or, decimal, ap, ap₂, sym, ◌∙◌, arith, refl}
use Rattle.std.specs.Fmt.{signed_decimal}
use Rattle.frac_core.specs.Fraction.{Fraction}
use Rattle.frac_core.specs.Text.{fraction_text}
use Rattle.problem_core.specs.declared.parts.RowName.{RowName}
use Rattle.problem_core.specs.declared.parts.Level.{Level}
use Rattle.cert_core.specs.declared.by.By.{By}
use Rattle.claim_writing.specs.declared.claim.LevelLine.{LevelLine}
use Rattle.claim_text.specs.declared.claim.lines.ClaimLine.{ClaimLine}
use Rattle.claim_text.specs.declared.claim.lines.ClaimLine.TheVariants.{OfValue, OfBest, OfConflict, OfLevel, OfBy, OfPath, OfPart}
use Rattle.claim_text.specs.declared.claim.path_lines.PathLine.{PathLine}
use Rattle.claim_text.specs.declared.claim.path_lines.PathLine.TheVariants.{OfIn, OfSwap, OfUnfit}
use Rattle.claim_text.specs.Paths.PathForms.{SaysPart}
use Rattle.problem_reading.specs.Words.{words}
use Rattle.claim_writing.specs.ClaimLines.{value_words, level_words, by_words, IsValue, IsLevelLine, IsBy}
use Rattle.claim_writing.specs.Names.{row_word, level_word}
use Rattle.claim_text.specs.Claims.ClaimTexts.{Says}
use Rattle.problem_reading.proofs.Numerals.Digits.{same_value, same_integer}
use Rattle.claim_text.proofs.Names.{same_row_word, same_level_word}
use Rattle.claim_text.proofs.Paths.PathWords.{same_mark, same_swap, same_unfit, same_kind}
use Rattle.problem_reading.proofs.Problems.Same.{same_fraction_text}

nth : ℕ → List (List ℕ) → List ℕ
nth k ws = get_or ws k []

value_from : ℕ → Fraction → ℕ × Fraction
value_from attr value = (attr, value)

same_valued : (v w : ℕ × Fraction) → IsValue v → IsValue w → value_words v ≡ value_words w → v ≡ w
unfolding value_from nth
same_valued v w is_v is_w same =
    let attrs : decimal v.0 ≡ decimal w.0 = ap (nth 1) same in
    let values : fraction_text v.1 ≡ fraction_text w.1 = ap (nth 2) same in
    ap₂ value_from (same_value v.0 w.0 (omega (arith, is_v.attr.1)) (omega (arith, is_w.attr.1)) attrs) (same_fraction_text v.1 w.1 is_v.value is_w.value values)

level_from : Level → ℤ → LevelLine
level_from level scale = record { level = level; scale = scale }

same_leveled : (l m : LevelLine) → IsLevelLine l → IsLevelLine m → level_words l ≡ level_words m → l ≡ m
unfolding level_from nth
same_leveled l m is_l is_m same =
    let levels : level_word l.level ≡ level_word m.level = ap (nth 1) same in
    let scales : signed_decimal l.scale ≡ signed_decimal m.scale = ap (nth 2) same in
    ap₂ level_from (same_level_word l.level m.level is_l.level is_m.level levels) (same_integer l.scale m.scale (omega (arith, is_l.scale)) (omega (arith, is_m.scale)) scales)

by_from : RowName → ℤ → By
by_from row times = record { row = row; times = times }

same_by : (a b : By) → IsBy a → IsBy b → by_words a ≡ by_words b → a ≡ b
unfolding by_from nth
same_by a b is_a is_b same =
    let times : signed_decimal a.times ≡ signed_decimal b.times = ap (nth 1) same in
    let rows : row_word a.row ≡ row_word b.row = ap (nth 3) same in
    ap₂ by_from (same_row_word a.row b.row is_a.row is_b.row rows) (same_integer a.times b.times (omega (arith, is_a.times)) (omega (arith, is_b.times)) times)

-- ---- lines are told apart by the first two bytes of their first word

unfoldable pub mark : List (List ℕ) → ℕ
mark ws = get_or (get_or ws 0 []) 0 0 * 256 + get_or (get_or ws 0 []) 1 0

unfoldable pub part_mark : PathLine → ℕ
part_mark (OfIn m) = 26990
part_mark (OfSwap s) = 29559
part_mark (OfUnfit q) = 30062

unfoldable pub mark_of : ClaimLine → ℕ
mark_of (OfValue v) = 30305
mark_of OfBest = 25189
mark_of OfConflict = 25455
mark_of (OfLevel l) = 27749
mark_of (OfBy b) = 25209
mark_of (OfPath d) = 28769
mark_of (OfPart p) = part_mark p

part_marked : (line : List ℕ) (part : PathLine) → SaysPart line part → mark (words line) ≡ part_mark part
unfolding mark part_mark
part_marked line (OfIn m) says = ap mark says.1
part_marked line (OfSwap s) says = ap mark says.1
part_marked line (OfUnfit q) says = ap mark says.1

pub marked : (line : List ℕ) (item : ClaimLine) → Says line item → mark (words line) ≡ mark_of item
unfolding mark mark_of
marked line (OfValue v) says = ap mark says.1
marked line OfBest says = ap mark says
marked line OfConflict says = ap mark says
marked line (OfLevel l) says = ap mark says.1
marked line (OfBy b) says = ap mark says.1
marked line (OfPath d) says = ap mark says
marked line (OfPart p) says = part_marked line p says

apart : (line : List ℕ) (a b : ClaimLine) → Says line a → Says line b → mark_of a ≡ mark_of b
apart line a b of_a of_b = sym (marked line a of_a) ∙ marked line b of_b

-- the lines behind the first of a path are no others
no_part : (n : ℕ) (part : PathLine) → n ≡ part_mark part → (n ≡ 26990 → ⊥) → (n ≡ 29559 → ⊥) → (n ≡ 30062 → ⊥) → ⊥
unfolding part_mark
no_part n (OfIn m) e not_in not_swap not_unfit = not_in e
no_part n (OfSwap s) e not_in not_swap not_unfit = not_swap e
no_part n (OfUnfit q) e not_in not_swap not_unfit = not_unfit e

one_part : (line : List ℕ) (a b : PathLine) → SaysPart line a → SaysPart line b → a ≡ b
unfolding part_mark
one_part line (OfIn m) (OfIn n) of_a of_b = ap OfIn (same_mark m n of_a.0 of_b.0 (ap (λ (ws : List (List ℕ)). get_or ws 1 []) (sym of_a.1 ∙ of_b.1)))
one_part line (OfIn m) (OfSwap t) of_a of_b = absurd (omega (arith, sym (part_marked line (OfIn m) of_a) ∙ part_marked line (OfSwap t) of_b))
one_part line (OfIn m) (OfUnfit r) of_a of_b = absurd (omega (arith, sym (part_marked line (OfIn m) of_a) ∙ part_marked line (OfUnfit r) of_b))
one_part line (OfSwap s) (OfIn n) of_a of_b = absurd (omega (arith, sym (part_marked line (OfSwap s) of_a) ∙ part_marked line (OfIn n) of_b))
one_part line (OfSwap s) (OfSwap t) of_a of_b = ap OfSwap (same_swap s t of_a.0 of_b.0 (sym of_a.1 ∙ of_b.1))
one_part line (OfSwap s) (OfUnfit r) of_a of_b = absurd (omega (arith, sym (part_marked line (OfSwap s) of_a) ∙ part_marked line (OfUnfit r) of_b))
one_part line (OfUnfit q) (OfIn n) of_a of_b = absurd (omega (arith, sym (part_marked line (OfUnfit q) of_a) ∙ part_marked line (OfIn n) of_b))
one_part line (OfUnfit q) (OfSwap t) of_a of_b = absurd (omega (arith, sym (part_marked line (OfUnfit q) of_a) ∙ part_marked line (OfSwap t) of_b))
one_part line (OfUnfit q) (OfUnfit r) of_a of_b = ap OfUnfit (same_unfit q r of_a.0 of_b.0 (sym of_a.1 ∙ of_b.1))

pub one_line : (line : List ℕ) (a b : ClaimLine) → Says line a → Says line b → a ≡ b
unfolding mark_of
one_line line (OfValue v) (OfValue w) of_a of_b = ap OfValue (same_valued v w of_a.0 of_b.0 (sym of_a.1 ∙ of_b.1))
one_line line (OfValue v) OfBest of_a of_b = absurd (omega (arith, apart line (OfValue v) OfBest of_a of_b))
one_line line (OfValue v) OfConflict of_a of_b = absurd (omega (arith, apart line (OfValue v) OfConflict of_a of_b))
one_line line (OfValue v) (OfLevel m) of_a of_b = absurd (omega (arith, apart line (OfValue v) (OfLevel m) of_a of_b))
one_line line (OfValue v) (OfBy c) of_a of_b = absurd (omega (arith, apart line (OfValue v) (OfBy c) of_a of_b))
one_line line (OfValue v) (OfPath e) of_a of_b = absurd (omega (arith, apart line (OfValue v) (OfPath e) of_a of_b))
one_line line (OfValue v) (OfPart q) of_a of_b = absurd (no_part 30305 q (apart line (OfValue v) (OfPart q) of_a of_b) (λ h. omega (arith, h)) (λ h. omega (arith, h)) (λ h. omega (arith, h)))
one_line line OfBest (OfValue w) of_a of_b = absurd (omega (arith, apart line OfBest (OfValue w) of_a of_b))
one_line line OfBest OfBest of_a of_b = refl
one_line line OfBest OfConflict of_a of_b = absurd (omega (arith, apart line OfBest OfConflict of_a of_b))
one_line line OfBest (OfLevel m) of_a of_b = absurd (omega (arith, apart line OfBest (OfLevel m) of_a of_b))
one_line line OfBest (OfBy c) of_a of_b = absurd (omega (arith, apart line OfBest (OfBy c) of_a of_b))
one_line line OfBest (OfPath e) of_a of_b = absurd (omega (arith, apart line OfBest (OfPath e) of_a of_b))
one_line line OfBest (OfPart q) of_a of_b = absurd (no_part 25189 q (apart line OfBest (OfPart q) of_a of_b) (λ h. omega (arith, h)) (λ h. omega (arith, h)) (λ h. omega (arith, h)))
one_line line OfConflict (OfValue w) of_a of_b = absurd (omega (arith, apart line OfConflict (OfValue w) of_a of_b))
one_line line OfConflict OfBest of_a of_b = absurd (omega (arith, apart line OfConflict OfBest of_a of_b))
one_line line OfConflict OfConflict of_a of_b = refl
one_line line OfConflict (OfLevel m) of_a of_b = absurd (omega (arith, apart line OfConflict (OfLevel m) of_a of_b))
one_line line OfConflict (OfBy c) of_a of_b = absurd (omega (arith, apart line OfConflict (OfBy c) of_a of_b))
one_line line OfConflict (OfPath e) of_a of_b = absurd (omega (arith, apart line OfConflict (OfPath e) of_a of_b))
one_line line OfConflict (OfPart q) of_a of_b = absurd (no_part 25455 q (apart line OfConflict (OfPart q) of_a of_b) (λ h. omega (arith, h)) (λ h. omega (arith, h)) (λ h. omega (arith, h)))
one_line line (OfLevel l) (OfValue w) of_a of_b = absurd (omega (arith, apart line (OfLevel l) (OfValue w) of_a of_b))
one_line line (OfLevel l) OfBest of_a of_b = absurd (omega (arith, apart line (OfLevel l) OfBest of_a of_b))
one_line line (OfLevel l) OfConflict of_a of_b = absurd (omega (arith, apart line (OfLevel l) OfConflict of_a of_b))
one_line line (OfLevel l) (OfLevel m) of_a of_b = ap OfLevel (same_leveled l m of_a.0 of_b.0 (sym of_a.1 ∙ of_b.1))
one_line line (OfLevel l) (OfBy c) of_a of_b = absurd (omega (arith, apart line (OfLevel l) (OfBy c) of_a of_b))
one_line line (OfLevel l) (OfPath e) of_a of_b = absurd (omega (arith, apart line (OfLevel l) (OfPath e) of_a of_b))
one_line line (OfLevel l) (OfPart q) of_a of_b = absurd (no_part 27749 q (apart line (OfLevel l) (OfPart q) of_a of_b) (λ h. omega (arith, h)) (λ h. omega (arith, h)) (λ h. omega (arith, h)))
one_line line (OfBy b) (OfValue w) of_a of_b = absurd (omega (arith, apart line (OfBy b) (OfValue w) of_a of_b))
one_line line (OfBy b) OfBest of_a of_b = absurd (omega (arith, apart line (OfBy b) OfBest of_a of_b))
one_line line (OfBy b) OfConflict of_a of_b = absurd (omega (arith, apart line (OfBy b) OfConflict of_a of_b))
one_line line (OfBy b) (OfLevel m) of_a of_b = absurd (omega (arith, apart line (OfBy b) (OfLevel m) of_a of_b))
one_line line (OfBy b) (OfBy c) of_a of_b = ap OfBy (same_by b c of_a.0 of_b.0 (sym of_a.1 ∙ of_b.1))
one_line line (OfBy b) (OfPath e) of_a of_b = absurd (omega (arith, apart line (OfBy b) (OfPath e) of_a of_b))
one_line line (OfBy b) (OfPart q) of_a of_b = absurd (no_part 25209 q (apart line (OfBy b) (OfPart q) of_a of_b) (λ h. omega (arith, h)) (λ h. omega (arith, h)) (λ h. omega (arith, h)))
one_line line (OfPath d) (OfValue w) of_a of_b = absurd (omega (arith, apart line (OfPath d) (OfValue w) of_a of_b))
one_line line (OfPath d) OfBest of_a of_b = absurd (omega (arith, apart line (OfPath d) OfBest of_a of_b))
one_line line (OfPath d) OfConflict of_a of_b = absurd (omega (arith, apart line (OfPath d) OfConflict of_a of_b))
one_line line (OfPath d) (OfLevel m) of_a of_b = absurd (omega (arith, apart line (OfPath d) (OfLevel m) of_a of_b))
one_line line (OfPath d) (OfBy c) of_a of_b = absurd (omega (arith, apart line (OfPath d) (OfBy c) of_a of_b))
one_line line (OfPath d) (OfPath e) of_a of_b = ap OfPath (same_kind d e (sym of_a ∙ of_b))
one_line line (OfPath d) (OfPart q) of_a of_b = absurd (no_part 28769 q (apart line (OfPath d) (OfPart q) of_a of_b) (λ h. omega (arith, h)) (λ h. omega (arith, h)) (λ h. omega (arith, h)))
one_line line (OfPart p) (OfValue w) of_a of_b = absurd (no_part 30305 p (apart line (OfValue w) (OfPart p) of_b of_a) (λ h. omega (arith, h)) (λ h. omega (arith, h)) (λ h. omega (arith, h)))
one_line line (OfPart p) OfBest of_a of_b = absurd (no_part 25189 p (apart line OfBest (OfPart p) of_b of_a) (λ h. omega (arith, h)) (λ h. omega (arith, h)) (λ h. omega (arith, h)))
one_line line (OfPart p) OfConflict of_a of_b = absurd (no_part 25455 p (apart line OfConflict (OfPart p) of_b of_a) (λ h. omega (arith, h)) (λ h. omega (arith, h)) (λ h. omega (arith, h)))
one_line line (OfPart p) (OfLevel m) of_a of_b = absurd (no_part 27749 p (apart line (OfLevel m) (OfPart p) of_b of_a) (λ h. omega (arith, h)) (λ h. omega (arith, h)) (λ h. omega (arith, h)))
one_line line (OfPart p) (OfBy c) of_a of_b = absurd (no_part 25209 p (apart line (OfBy c) (OfPart p) of_b of_a) (λ h. omega (arith, h)) (λ h. omega (arith, h)) (λ h. omega (arith, h)))
one_line line (OfPart p) (OfPath e) of_a of_b = absurd (no_part 28769 p (apart line (OfPath e) (OfPart p) of_b of_a) (λ h. omega (arith, h)) (λ h. omega (arith, h)) (λ h. omega (arith, h)))
one_line line (OfPart p) (OfPart q) of_a of_b = ap OfPart (one_part line p q of_a of_b)
