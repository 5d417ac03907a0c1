-- Sums of pieces, doubled again and again.
use Rattle.std.proofs.Common.{◌≡◌, ℕ, zero, suc, ◌+◌, ◌*◌, ◌<◌, ◌≤◌, ◌^◌, List, [], ◌∷◌, ◌++◌, length, length-append, take, take_all, map, get_or, All, ℤ, pos, ◌+ℤ◌, ◌*ℤ◌, refl, sym, subst, ap, ap₂, ◌∙◌, arith, mul-pos}
use Rattle.std.specs.Prelude.{unsigned_abs}
use borrow.Author.Differences.{ints}
use Rattle.std.proofs.Math.Nat.{mul-le-mul}
use Rattle.std.proofs.Math.Pow.{pow_mono}
use Rattle.std.proofs.lemmas.Nat.{pow-add, pow_pos}
use Rattle.std.proofs.lemmas.List.{take_more, length-take, length-map, map_push}
use Rattle.std.proofs.lemmas.List.Elements.{All-push}
use Rattle.std.proofs.lemmas.Int.{unsigned_abs-mul}
use Rattle.frac_core.specs.Fraction.{Fraction}
use Rattle.frac_core.proofs.Integers.{on_1, on_2, diff, diff_eq, diff-add, diff-mul, diff-pos, mul-zero_ℤ, mul_assoc_ℤ}
use Rattle.compile_parts.specs.Addends.{Addend, addend_view, addends_view}
use Rattle.compile_parts.specs.declared.addends.Addend as code
use Rattle.compile_parts.specs.Fractions.{plus, total}
use Rattle.constraint_compile.specs.Coefficients.Pieces.{piece_value, IsPiece, AreDoubled}
use Rattle.constraint_compile.specs.declared.line.nonzero.Piece.{Piece}
use Rattle.compile_parts.proofs.Totals.{total_pushed}
use Rattle.frac_core.proofs.Numbers.{pos-size as size_pos, size-zero as size_zero, size-sum as triangle}
use Rattle.frac_core.proofs.Divisors.{size_above as above_size}

-- ---- sums of equal values

total_of_values : {A : Type 0} (f : A → Fraction) (xs : List A) → total f xs ≡ total (λ (q : Fraction). q) (map f xs)
total_of_values f [] = refl
total_of_values f (x ∷ xs) = ap (plus (f x)) (total_of_values f xs)

pub same_total : {A B : Type 0} (f : A → Fraction) (g : B → Fraction) (xs : List A) (ys : List B) → map f xs ≡ map g ys → total f xs ≡ total g ys
same_total f g xs ys same = total_of_values f xs ∙ ap (total (λ (q : Fraction). q)) same ∙ sym (total_of_values g ys)

-- ---- denominators

pub above_den : (ps : List Piece) → All IsPiece ps → 0 < (total piece_value ps).den
above_den [] all = omega arith
above_den (p ∷ ps) all = mul-pos (above_size p.den (all zero p (omega arith)).above) (above_den ps (λ k d h. all (suc k) d (omega (arith, h))))

one_more : (n : ℕ) → 2 ^ 43 * 2 ^ (43 * n) ≡ 2 ^ (43 * (n + 1))
one_more n = sym (pow-add 2 43 (43 * n)) ∙ ap (λ (k : ℕ). 2 ^ k) (let e : 43 + 43 * n ≡ 43 * (n + 1) = omega arith in e)

pub most_den : (ps : List Piece) → All IsPiece ps → (total piece_value ps).den ≤ 2 ^ (43 * length ps)
most_den [] all = pow_pos 0
most_den (p ∷ ps) all =
    let most : (piece_value p).den * (total piece_value ps).den ≤ 2 ^ 43 * 2 ^ (43 * length ps) = mul-le-mul (all zero p (omega arith)).den (most_den ps (λ k d h. all (suc k) d (omega (arith, h)))) in
    let longer : 2 ^ (43 * (length ps + 1)) ≡ 2 ^ (43 * length (p ∷ ps)) = ap (λ (k : ℕ). 2 ^ (43 * k)) (let e : length ps + 1 ≡ length (p ∷ ps) = omega arith in e) in
    omega (arith, most, one_more (length ps), longer)

-- ---- one piece more

ring : (d e : ℕ) (w v r s : ℤ) → (w +ℤ v) *ℤ pos (d * e) +ℤ (r *ℤ pos e +ℤ s *ℤ pos d) ≡ (w *ℤ pos d +ℤ r) *ℤ pos e +ℤ (v *ℤ pos e +ℤ s) *ℤ pos d
ring d e w v r s =
    on_2 (λ w v. (w +ℤ v) *ℤ pos (d * e) +ℤ (r *ℤ pos e +ℤ s *ℤ pos d) ≡ (w *ℤ pos d +ℤ r) *ℤ pos e +ℤ (v *ℤ pos e +ℤ s) *ℤ pos d)
    (λ a a' b b'. on_2 (λ r s. (diff a a' +ℤ diff b b') *ℤ pos (d * e) +ℤ (r *ℤ pos e +ℤ s *ℤ pos d) ≡ (diff a a' *ℤ pos d +ℤ r) *ℤ pos e +ℤ (diff b b' *ℤ pos e +ℤ s) *ℤ pos d)
    (λ f f' g g'. simp (diff-add, diff-mul, diff-pos) (diff_eq _ _ _ _ (omega arith))) r s) w v

two : (d e : ℕ) (n m : ℤ) → (pos 2 *ℤ n) *ℤ pos e +ℤ (pos 2 *ℤ m) *ℤ pos d ≡ pos 2 *ℤ (n *ℤ pos e +ℤ m *ℤ pos d)
two d e = on_2 (λ n m. (pos 2 *ℤ n) *ℤ pos e +ℤ (pos 2 *ℤ m) *ℤ pos d ≡ pos 2 *ℤ (n *ℤ pos e +ℤ m *ℤ pos d)) (λ a a' b b'. simp (diff-add, diff-mul, diff-pos) (diff_eq _ _ _ _ (omega arith)))

value_more : (d e : ℕ) (w v r s n m : ℤ) → w *ℤ pos d +ℤ r ≡ pos 2 *ℤ n → v *ℤ pos e +ℤ s ≡ pos 2 *ℤ m → (w +ℤ v) *ℤ pos (d * e) +ℤ (r *ℤ pos e +ℤ s *ℤ pos d) ≡ pos 2 *ℤ (n *ℤ pos e +ℤ m *ℤ pos d)
value_more d e w v r s n m h k = ring d e w v r s ∙ ap₂ (λ (x y : ℤ). x *ℤ pos e +ℤ y *ℤ pos d) h k ∙ two d e n m

low_nat : (i d e a b : ℕ) → a ≤ i * d → b ≤ e → a * e + b * d ≤ (i + 1) * (d * e)
low_nat i d e a b h k =
    let first : a * e ≤ (i * d) * e = mul-le-mul h (let same : e ≤ e = omega arith in same) in
    let second : b * d ≤ e * d = mul-le-mul k (let same : d ≤ d = omega arith in same) in
    omega (arith, first, second)

low_more : (i d e : ℕ) (r s : ℤ) → unsigned_abs r ≤ i * d → unsigned_abs s ≤ e → unsigned_abs (r *ℤ pos e +ℤ s *ℤ pos d) ≤ (i + 1) * (d * e)
low_more i d e r s h k = omega (arith, triangle (r *ℤ pos e) (s *ℤ pos d), unsigned_abs-mul r (pos e), unsigned_abs-mul s (pos d), low_nat i d e (unsigned_abs r) (unsigned_abs s) h k)

pub double_more : (xs rests : List Piece) (w v : ℤ) (x rest : Piece) → AreDoubled xs w rests → IsPiece x → IsPiece rest
    → v *ℤ x.den +ℤ rest.num ≡ pos 2 *ℤ x.num → rest.den ≡ x.den → unsigned_abs rest.num ≤ unsigned_abs rest.den → unsigned_abs v ≤ 2 ^ 45
    → AreDoubled (xs ++ x ∷ []) (w +ℤ v) (rests ++ rest ∷ [])
double_more xs rests w v x rest are is is_rest value den low small = record {
  long = omega (arith, length-append xs (x ∷ []), length-append rests (rest ∷ []), are.long);
  kept = All-push IsPiece rests rest are.kept is_rest;
  den = ap (λ (q : Fraction). q.den) (total_pushed piece_value rests rest) ∙ ap₂ (λ (a b : ℕ). a * b) are.den (ap unsigned_abs den) ∙ sym (ap (λ (q : Fraction). q.den) (total_pushed piece_value xs x));
  value = rw (total_pushed piece_value rests rest, total_pushed piece_value xs x, den, are.den) (value_more (total piece_value xs).den (unsigned_abs x.den) w v (total piece_value rests).num rest.num (total piece_value xs).num x.num are.value (ap (λ (z : ℤ). v *ℤ z +ℤ rest.num) (size_pos x.den is.above) ∙ value));
  low = rw (total_pushed piece_value rests rest, total_pushed piece_value xs x, den, are.den, length-append xs (x ∷ [])) (low_more (length xs) (total piece_value xs).den (unsigned_abs x.den) (total piece_value rests).num rest.num are.low (rw den at low));
  small = omega (arith, triangle w v, are.small, small, length-append xs (x ∷ []));
}

long_of : {A : Type 0} (xs : List A) (i : ℕ) → i < length xs → length (take i xs) ≡ i
long_of xs i within = omega (arith, length-take i xs, within)

pub doubled_at : (pieces rests : List Piece) (i : ℕ) (w v : ℤ) (d rest : Piece) → i < length pieces → All IsPiece pieces → AreDoubled (take i pieces) w rests → IsPiece rest
    → v *ℤ (get_or pieces i d).den +ℤ rest.num ≡ pos 2 *ℤ (get_or pieces i d).num → rest.den ≡ (get_or pieces i d).den → unsigned_abs rest.num ≤ unsigned_abs rest.den → unsigned_abs v ≤ 2 ^ 45
    → AreDoubled (take (i + 1) pieces) (w +ℤ v) (rests ++ rest ∷ [])
doubled_at pieces rests i w v d rest within all are is_rest value den low small =
    subst (λ (xs : List Piece). AreDoubled xs (w +ℤ v) (rests ++ rest ∷ [])) (sym (take_more pieces i d within))
    (double_more (take i pieces) rests w v (get_or pieces i d) rest are (all i d within) is_rest value den low small)

pub doubled_small : (pieces rests : List Piece) (i : ℕ) (w v : ℤ) → i < length pieces → length pieces ≤ 64 → AreDoubled (take i pieces) w rests → unsigned_abs v ≤ 2 ^ 45 → unsigned_abs (w +ℤ v) < 2 ^ 63
doubled_small pieces rests i w v within few are small = omega (arith, triangle w v, are.small, small, long_of pieces i within, within, few)

-- ---- round by round

-- after k rounds
pub record IsRound (pieces : List Piece) (k : ℕ) (whole : ℤ) (rests : List Piece) : Type 0 where
  pub long : length rests ≡ length pieces
  pub kept : All IsPiece rests
  pub den : (total piece_value rests).den ≡ (total piece_value pieces).den
  pub value : whole *ℤ pos (total piece_value pieces).den +ℤ (total piece_value rests).num ≡ pos (2 ^ k) *ℤ (total piece_value pieces).num
  pub low : 0 < k → unsigned_abs (total piece_value rests).num ≤ 64 * (total piece_value pieces).den
  pub small : unsigned_abs whole ≤ 64

once : (d : ℕ) (n : ℤ) → pos 0 *ℤ pos d +ℤ n ≡ pos 1 *ℤ n
once d n = omega (arith, ints)

pub first_round : (pieces : List Piece) → All IsPiece pieces → IsRound pieces 0 (pos 0) pieces
first_round pieces all = record { long = refl; kept = all; den = refl; value = once (total piece_value pieces).den (total piece_value pieces).num; low = λ h. absurd (omega (arith, h)); small = omega arith }

twice_whole : (d : ℕ) (w v s : ℤ) → (pos 2 *ℤ w +ℤ v) *ℤ pos d +ℤ s ≡ pos 2 *ℤ (w *ℤ pos d) +ℤ (v *ℤ pos d +ℤ s)
twice_whole d w v s = on_2 (λ w v. (pos 2 *ℤ w +ℤ v) *ℤ pos d +ℤ s ≡ pos 2 *ℤ (w *ℤ pos d) +ℤ (v *ℤ pos d +ℤ s))
    (λ a a' b b'. on_1 (λ s. (pos 2 *ℤ diff a a' +ℤ diff b b') *ℤ pos d +ℤ s ≡ pos 2 *ℤ (diff a a' *ℤ pos d) +ℤ (diff b b' *ℤ pos d +ℤ s)) (λ c c'. simp (diff-add, diff-mul, diff-pos) (diff_eq _ _ _ _ (omega arith))) s) w v

two_times : (x y : ℤ) → pos 2 *ℤ x +ℤ pos 2 *ℤ y ≡ pos 2 *ℤ (x +ℤ y)
two_times x y = omega (arith, ints)

two_more : (k : ℕ) → 2 * 2 ^ k ≡ 2 ^ (k + 1)
two_more k = omega (arith, pow-add 2 k 1)

pub round_value : (k : ℕ) (d : ℕ) (w v r s n : ℤ) → w *ℤ pos d +ℤ r ≡ pos (2 ^ k) *ℤ n → v *ℤ pos d +ℤ s ≡ pos 2 *ℤ r → (pos 2 *ℤ w +ℤ v) *ℤ pos d +ℤ s ≡ pos (2 ^ (k + 1)) *ℤ n
round_value k d w v r s n before next =
    twice_whole d w v s ∙ ap (λ (z : ℤ). pos 2 *ℤ (w *ℤ pos d) +ℤ z) next ∙ two_times (w *ℤ pos d) r ∙ ap (λ (z : ℤ). pos 2 *ℤ z) before
    ∙ sym (mul_assoc_ℤ (pos 2) (pos (2 ^ k)) n) ∙ ap (λ (m : ℕ). pos m *ℤ n) (two_more k)

-- what is past 64 in size isn't 0
past_nat : (w d : ℕ) → 64 < w → 0 < d → 64 * d < w * d
past_nat w d h some =
    let more : 65 * d ≤ w * d = mul-le-mul (let e : 65 ≤ w = omega (arith, h) in e) (let e : d ≤ d = omega arith in e) in
    omega (arith, more, some)

sizes : (x y : ℤ) → x +ℤ y ≡ pos 0 → unsigned_abs x ≡ unsigned_abs y
sizes x y h = omega (arith, ints)

pub not_zero : (d k : ℕ) (w r n : ℤ) → 0 < d → 64 < unsigned_abs w → unsigned_abs r ≤ 64 * d → w *ℤ pos d +ℤ r ≡ pos k *ℤ n → n ≡ pos 0 → ⊥
not_zero d k w r n some past low value none =
    let zero_sum : w *ℤ pos d +ℤ r ≡ pos 0 = value ∙ ap (λ (z : ℤ). pos k *ℤ z) none ∙ mul-zero_ℤ (pos k) in
    let same : unsigned_abs (w *ℤ pos d) ≡ unsigned_abs r = sizes (w *ℤ pos d) r zero_sum in
    omega (arith, same, unsigned_abs-mul w (pos d), past_nat (unsigned_abs w) d past some, low)

-- what isn't past it after so many rounds is 0
none_left : (n k : ℕ) → 2 ^ k * n < 2 ^ k → n ≡ 0
none_left zero k h = refl
none_left (suc n) k h =
    let more : 2 ^ k * 1 ≤ 2 ^ k * suc n = mul-le-mul (let e : 2 ^ k ≤ 2 ^ k = omega arith in e) (let e : 1 ≤ suc n = omega arith in e) in
    absurd (omega (arith, more, h))

small_nat : (w d r : ℕ) → w ≤ 64 → r ≤ 64 * d → w * d + r ≤ 128 * d
small_nat w d r h k =
    let first : w * d ≤ 64 * d = mul-le-mul h (let e : d ≤ d = omega arith in e) in
    omega (arith, first, k)

seven : (m k : ℕ) → m + 7 < k → 128 * 2 ^ m < 2 ^ k
seven m k h =
    let up : 2 ^ (m + 8) ≤ 2 ^ k = pow_mono (let e : m + 8 ≤ k = omega (arith, h) in e) in
    omega (arith, up, pow-add 2 m 8, pow_pos m)

pub is_nothing : (d m k : ℕ) (w r n : ℤ) → d ≤ 2 ^ m → m + 7 < k → unsigned_abs w ≤ 64 → unsigned_abs r ≤ 64 * d → w *ℤ pos d +ℤ r ≡ pos (2 ^ k) *ℤ n → n ≡ pos 0
is_nothing d m k w r n most less small low value =
    let size : unsigned_abs (pos (2 ^ k) *ℤ n) ≤ unsigned_abs (w *ℤ pos d) + unsigned_abs r = rw (sym value) (triangle (w *ℤ pos d) r) in
    let all : 2 ^ k * unsigned_abs n ≤ 128 * d = omega (arith, size, unsigned_abs-mul (pos (2 ^ k)) n, unsigned_abs-mul w (pos d), small_nat (unsigned_abs w) d (unsigned_abs r) small low) in
    size_zero n (none_left (unsigned_abs n) k (omega (arith, all, most, seven m k less)))

low_of : (n d : ℕ) (r : ℕ) → n ≤ 64 → r ≤ n * d → r ≤ 64 * d
low_of n d r few low =
    let most : n * d ≤ 64 * d = mul-le-mul few (let e : d ≤ d = omega arith in e) in
    omega (arith, most, low)

next_value : (pieces rests next : List Piece) (k : ℕ) (w v : ℤ) → IsRound pieces k w rests → AreDoubled rests v next → (pos 2 *ℤ w +ℤ v) *ℤ pos (total piece_value pieces).den +ℤ (total piece_value next).num ≡ pos (2 ^ (k + 1)) *ℤ (total piece_value pieces).num
next_value pieces rests next k w v round are =
    round_value k (total piece_value pieces).den w v (total piece_value rests).num (total piece_value next).num (total piece_value pieces).num round.value
    (ap (λ (d : ℕ). v *ℤ pos d +ℤ (total piece_value next).num) (sym round.den) ∙ are.value)

next_low : (pieces rests next : List Piece) (k : ℕ) (w v : ℤ) → length pieces ≤ 64 → IsRound pieces k w rests → AreDoubled rests v next → unsigned_abs (total piece_value next).num ≤ 64 * (total piece_value pieces).den
next_low pieces rests next k w v few round are =
    low_of (length rests) (total piece_value pieces).den (unsigned_abs (total piece_value next).num) (omega (arith, few, round.long))
    (subst (λ (d : ℕ). unsigned_abs (total piece_value next).num ≤ length rests * d) round.den are.low)

pub round_more : (pieces rests next : List Piece) (k : ℕ) (w v : ℤ) → length pieces ≤ 64 → IsRound pieces k w rests → AreDoubled rests v next → unsigned_abs (pos 2 *ℤ w +ℤ v) ≤ 64 → IsRound pieces (k + 1) (pos 2 *ℤ w +ℤ v) next
round_more pieces rests next k w v few round are small = record {
  long = are.long ∙ round.long;
  kept = are.kept;
  den = are.den ∙ round.den;
  value = next_value pieces rests next k w v round are;
  low = λ _. next_low pieces rests next k w v few round are;
  small = small;
}

pub round_past : (pieces rests next : List Piece) (k : ℕ) (w v : ℤ) → All IsPiece pieces → length pieces ≤ 64 → IsRound pieces k w rests → AreDoubled rests v next → 64 < unsigned_abs (pos 2 *ℤ w +ℤ v) → (total piece_value pieces).num ≡ pos 0 → ⊥
round_past pieces rests next k w v all few round are past none =
    not_zero (total piece_value pieces).den (2 ^ (k + 1)) (pos 2 *ℤ w +ℤ v) (total piece_value next).num (total piece_value pieces).num (above_den pieces all) past (next_low pieces rests next k w v few round are) (next_value pieces rests next k w v round are) none

pub round_last : (pieces rests : List Piece) (k : ℕ) (w : ℤ) → All IsPiece pieces → length pieces ≤ 64 → 2760 ≤ k → IsRound pieces k w rests → (total piece_value pieces).num ≡ pos 0
round_last pieces rests k w all few many round =
    is_nothing (total piece_value pieces).den (43 * length pieces) k w (total piece_value rests).num (total piece_value pieces).num (most_den pieces all) (omega (arith, few, many)) round.small (round.low (omega (arith, many))) round.value

pub round_small : (pieces rests next : List Piece) (k : ℕ) (w v : ℤ) → length pieces ≤ 64 → IsRound pieces k w rests → AreDoubled rests v next → unsigned_abs v ≤ 2 ^ 51
round_small pieces rests next k w v few round are = omega (arith, are.small, few, round.long)

-- ---- the pieces of addends

pub values_more : (h : Addend → Fraction) (added : List code.Addend) (pieces : List Piece) (i : ℕ) (a : code.Addend) (p : Piece) → i < length added → a ≡ get_or added i a → piece_value p ≡ h (addend_view a)
    → map piece_value pieces ≡ map h (addends_view (take i added)) → map piece_value (pieces ++ p ∷ []) ≡ map h (addends_view (take (i + 1) added))
values_more h added pieces i a p within is here before =
    let right : map h (addends_view (take (i + 1) added)) ≡ map h (addends_view (take i added)) ++ h (addend_view a) ∷ [] =
    ap (λ (xs : List code.Addend). map h (addends_view xs)) (take_more added i a within ∙ ap (λ (x : code.Addend). take i added ++ x ∷ []) (sym is))
    ∙ ap (map h) (map_push addend_view (take i added) a) ∙ map_push h (addends_view (take i added)) (addend_view a) in
    map_push piece_value pieces p ∙ ap (λ (qs : List Fraction). qs ++ piece_value p ∷ []) before ∙ ap (λ (q : Fraction). map h (addends_view (take i added)) ++ q ∷ []) here ∙ sym right

pub values_whole : (h : Addend → Fraction) (added : List code.Addend) (pieces : List Piece) (i : ℕ) → length added ≤ i → map piece_value pieces ≡ map h (addends_view (take i added)) → map piece_value pieces ≡ map h (addends_view added)
values_whole h added pieces i over is = is ∙ ap (λ (xs : List code.Addend). map h (addends_view xs)) (take_all i added over)

pub same_length : (h : Addend → Fraction) (added : List code.Addend) (pieces : List Piece) → map piece_value pieces ≡ map h (addends_view added) → length pieces ≡ length added
same_length h added pieces same = sym (length-map pieces piece_value) ∙ ap length same ∙ length-map (addends_view added) h ∙ length-map added addend_view
