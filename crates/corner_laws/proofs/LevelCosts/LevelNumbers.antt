-- A level's row in lowest terms gives the level's writing in joint lowest terms.
use Rattle.std.proofs.Common.{◌≡◌, ◌∙◌, ℕ, zero, suc, ◌*◌, ◌/◌, ◌<◌, ◌≤◌, List, ℤ, pos, ◌+ℤ◌, ◌-ℤ◌, ◌*ℤ◌, neg_ℤ, unsigned_abs, refl, sym, ap, ap₂, subst, arith, All, mul-pos}
use Rattle.std.specs.Int.{◌∣◌}
use Rattle.std.proofs.lemmas.Int.{unsigned_abs-mul}
use Rattle.std.proofs.lemmas.Nat.Gcd.{IsGcd-swap, le_of_dvd}
use Rattle.std.proofs.Math.Nat.{dvd-mul_right, dvd_of_mul-dvd-mul_right, mul-div_cancel', pos_of_dvd_of_pos}
use Rattle.std.proofs.lemmas.List.Elements.{All-from_recursion, recursion_from_All}
use borrow.Author.Differences.{ints}
use Rattle.frac_core.proofs.Gauss.{Reduces, gauss, reduces, scaled}
use Rattle.frac_core.proofs.Integers.{mul-add_left, mul-sub_left}
use Rattle.problem_core.specs.declared.parts.Mark.{Mark}
use Rattle.problem_core.specs.declared.parts.Rel.{Rel}
use Rattle.problem_core.specs.declared.parts.Rel.TheVariants.{Eq, Le, Ge}
use Rattle.problem_core.specs.declared.parts.Side.{Side}
use Rattle.problem_core.specs.declared.parts.Side.TheVariants.{Under, Over}
use Rattle.problem_core.specs.declared.parts.RowName.{RowName}
use Rattle.problem_core.specs.Layout.{Problem, lines}
use Rattle.problem_core.specs.Certificates.{under_weight, over_weight, weight_at}
use Rattle.problem_core.specs.Corners.{IsIn, column, place_of}
use Rattle.problem_core.proofs.Forms.{each-impl, each-both}
use Rattle.problem_core.specs.Levels.{IsLevelWriting, alone}
use Rattle.corner_laws.specs.Units.{IsLevelRow, IsLevelUnit, IsReducedBy, over_share, under_share}
use Rattle.corner_laws.proofs.LevelCosts.Equal.{cancel-left}
use Rattle.frac_core.proofs.Numbers.{above-right}
use Rattle.corner_laws.proofs.MarkWritings.Equations.{whole_share as multiple}

-- ---- divisors of signed numbers

pub divides : (k a : ℕ) (w : ℤ) → pos a ≡ pos k *ℤ w → k ∣ a
divides k a w e = subst (λ (n : ℕ). k ∣ n) (sym (ap unsigned_abs e ∙ unsigned_abs-mul (pos k) w)) (dvd-mul_right k (unsigned_abs w))

-- what divides a number and what is left of another after it divides the other
rest-under : (k a : ℕ) (z r : ℤ) → r ≡ pos a -ℤ z → k ∣ unsigned_abs z → k ∣ unsigned_abs r → k ∣ a
rest-under k a z r e dz dr =
    let v = multiple k z dz in
    let w = multiple k r dr in
    divides k a (w.0 +ℤ v.0) ((let h : pos a ≡ r +ℤ z = omega (arith, ints, e) in h) ∙ ap₂ ◌+ℤ◌ w.1 v.1 ∙ sym (mul-add_left (pos k) w.0 v.0))

rest-over : (k a : ℕ) (z r : ℤ) → r ≡ pos a +ℤ z → k ∣ unsigned_abs z → k ∣ unsigned_abs r → k ∣ a
rest-over k a z r e dz dr =
    let v = multiple k z dz in
    let w = multiple k r dr in
    divides k a (w.0 -ℤ v.0) ((let h : pos a ≡ r -ℤ z = omega (arith, ints, e) in h) ∙ ap₂ ◌-ℤ◌ w.1 v.1 ∙ sym (mul-sub_left (pos k) w.0 v.0))

-- ---- the columns

pub under-whole : (rel : Rel) (k m w : ℕ) → k ∣ m * w → k * under_weight rel (m * w / k) ≡ m * under_weight rel w
under-whole Eq k m w d = mul-div_cancel' k d
under-whole Ge k m w d = mul-div_cancel' k d
under-whole Le k m w d = omega arith

pub over-whole : (rel : Rel) (k m w : ℕ) → k ∣ m * w → k * over_weight rel (m * w / k) ≡ m * over_weight rel w
over-whole Eq k m w d = mul-div_cancel' k d
over-whole Ge k m w d = omega arith
over-whole Le k m w d = mul-div_cancel' k d

pub moved-in : (k own u m w : ℕ) → k * u ≡ m * w → k * (own * u) ≡ own * m * w
moved-in k own u m w e = let h : own * (k * u) ≡ own * (m * w) = ap (λ (n : ℕ). own * n) e in omega (arith, h)

under-column : (k own u m w : ℕ) (y r : ℤ) → k * u ≡ m * w → r ≡ pos (own * u) -ℤ y → pos k *ℤ r ≡ pos (own * m * w) -ℤ pos k *ℤ y
under-column k own u m w y r e is = ap (λ (z : ℤ). pos k *ℤ z) is ∙ mul-sub_left (pos k) (pos (own * u)) y ∙ ap (λ (n : ℕ). pos n -ℤ pos k *ℤ y) (moved-in k own u m w e)

over-column : (k own u m w : ℕ) (y r : ℤ) → k * u ≡ m * w → r ≡ pos (own * u) +ℤ y → pos k *ℤ r ≡ pos (own * m * w) +ℤ pos k *ℤ y
over-column k own u m w y r e is = ap (λ (z : ℤ). pos k *ℤ z) is ∙ mul-add_left (pos k) (pos (own * u)) y ∙ ap (λ (n : ℕ). pos n +ℤ pos k *ℤ y) (moved-in k own u m w e)

columns : (p : Problem) (level unit own : ℕ) (by : RowName → ℤ) (reduced : ℕ → ℤ) → IsLevelUnit p level unit → IsReducedBy p level unit own by reduced → (side : Side) → All (λ l. pos l.scale *ℤ reduced (place_of l.name side) ≡ column (alone (own * unit) by) side l level) (lines p)
columns p level unit own by reduced is left Under =
    All-from_recursion (λ l. pos l.scale *ℤ reduced (place_of l.name Under) ≡ column (alone (own * unit) by) Under l level) (lines p)
    (each-impl (λ l. (l.scale ∣ unit * weight_at l level) × (reduced (place_of l.name Under) ≡ pos (own * under_share unit level l) -ℤ by l.name)) _ (lines p)
    (λ l h. under-column l.scale own (under_share unit level l) unit (under_weight l.rel (weight_at l level)) (by l.name) (reduced (place_of l.name Under)) (under-whole l.rel l.scale unit (weight_at l level) h.0) h.1)
    (each-both _ _ (lines p) (recursion_from_All _ (lines p) is.whole) (recursion_from_All _ (lines p) left.under)))
columns p level unit own by reduced is left Over =
    All-from_recursion (λ l. pos l.scale *ℤ reduced (place_of l.name Over) ≡ column (alone (own * unit) by) Over l level) (lines p)
    (each-impl (λ l. (l.scale ∣ unit * weight_at l level) × (reduced (place_of l.name Over) ≡ pos (own * over_share unit level l) +ℤ by l.name)) _ (lines p)
    (λ l h. over-column l.scale own (over_share unit level l) unit (over_weight l.rel (weight_at l level)) (by l.name) (reduced (place_of l.name Over)) (over-whole l.rel l.scale unit (weight_at l level) h.0) h.1)
    (each-both _ _ (lines p) (recursion_from_All _ (lines p) is.whole) (recursion_from_All _ (lines p) left.over)))

same-less : (a y r : ℤ) → r ≡ a -ℤ y → y ≡ a → r ≡ pos 0
same-less a y r e h = omega (arith, ints, e, h)

same-more : (a y r : ℤ) → r ≡ a +ℤ y → y ≡ neg_ℤ a → r ≡ pos 0
same-more a y r e h = omega (arith, ints, e, h)

inside-zero : (p : Problem) (at : List Mark) (level unit own : ℕ) (by : RowName → ℤ) (reduced : ℕ → ℤ) → IsLevelRow p at level unit own by → IsReducedBy p level unit own by reduced → (side : Side) → All (λ l. IsIn (place_of l.name side) at → reduced (place_of l.name side) ≡ pos 0) (lines p)
inside-zero p at level unit own by reduced row left Under =
    All-from_recursion (λ l. IsIn (place_of l.name Under) at → reduced (place_of l.name Under) ≡ pos 0) (lines p)
    (each-impl (λ l. (reduced (place_of l.name Under) ≡ pos (own * under_share unit level l) -ℤ by l.name) × (IsIn (place_of l.name Under) at → by l.name ≡ pos (own * under_share unit level l))) _ (lines p)
    (λ l h inside. same-less (pos (own * under_share unit level l)) (by l.name) (reduced (place_of l.name Under)) h.0 (h.1 inside))
    (each-both _ _ (lines p) (recursion_from_All _ (lines p) left.under) (recursion_from_All _ (lines p) row.under)))
inside-zero p at level unit own by reduced row left Over =
    All-from_recursion (λ l. IsIn (place_of l.name Over) at → reduced (place_of l.name Over) ≡ pos 0) (lines p)
    (each-impl (λ l. (reduced (place_of l.name Over) ≡ pos (own * over_share unit level l) +ℤ by l.name) × (IsIn (place_of l.name Over) at → by l.name ≡ neg_ℤ (pos (own * over_share unit level l)))) _ (lines p)
    (λ l h inside. same-more (pos (own * over_share unit level l)) (by l.name) (reduced (place_of l.name Over)) h.0 (h.1 inside))
    (each-both _ _ (lines p) (recursion_from_All _ (lines p) left.over) (recursion_from_All _ (lines p) row.over)))

-- ---- joint lowest terms

one-factor : (j n m : ℕ) → j * n ≡ m → 0 < m → m ≤ n → j ≡ 1
one-factor zero n m e up le = absurd (omega (arith, e, up))
one-factor (suc zero) n m e up le = refl
one-factor (suc (suc j)) n m e up le = absurd (omega (arith, e, up, le))

taken-out : (j k u n w m : ℕ) → 0 < j → k * (j * u) ≡ m * w → j * n ≡ m → k * u ≡ n * w
taken-out j k u n w m above e f =
    let h : j * n * w ≡ m * w = ap (λ (z : ℕ). z * w) f in
    let same : j * (k * u) ≡ j * (n * w) = omega (arith, e, h) in
    cancel-left j (k * u) (n * w) above same

from-share : (k j u n w m : ℕ) → 0 < j → k * u ≡ m * w → j * n ≡ m → j ∣ u → k ∣ n * w
from-share k j u n w m above e f d = subst (λ (z : ℕ). k ∣ z) (taken-out j k (u / j) n w m above (ap (λ (z : ℕ). k * z) (mul-div_cancel' j d) ∙ e) f) (dvd-mul_right k (u / j))

-- the unit and the whole shares have no common factor
pub shares-lowest : (p : Problem) (level unit j : ℕ) → IsLevelUnit p level unit → j ∣ unit → All (λ l. j ∣ unit * weight_at l level / l.scale) (lines p) → j ≡ 1
shares-lowest p level unit j is d each =
    let whole : j * (unit / j) ≡ unit = mul-div_cancel' j d in
    let above : 0 < j = pos_of_dvd_of_pos d is.above in
    let less : unit ∣ unit / j =
    is.least (unit / j)
    (All-from_recursion (λ l. l.scale ∣ unit / j * weight_at l level) (lines p)
    (each-impl (λ l. (l.scale ∣ unit * weight_at l level) × (j ∣ unit * weight_at l level / l.scale)) _ (lines p)
    (λ l h. from-share l.scale j (unit * weight_at l level / l.scale) (unit / j) (weight_at l level) unit above (mul-div_cancel' l.scale h.0) whole h.1)
    (each-both _ _ (lines p) (recursion_from_All _ (lines p) is.whole) (recursion_from_All _ (lines p) each)))) in
    one-factor j (unit / j) unit whole is.above (le_of_dvd (above-right j (unit / j) unit whole is.above) less)

-- what divides a product and has nothing in common with one factor
part-divides : (k own g m : ℕ) → Reduces k own g → k ∣ own * m → (k / g) ∣ m
part-divides k own g m r d =
    let same : own / g * m * g ≡ own * m = let h : own / g * g * m ≡ own * m = ap (λ (n : ℕ). n * m) r.den_is in omega (arith, h) in
    gauss (own / g) (k / g) m (IsGcd-swap (k / g) (own / g) 1 r.apart)
    (dvd_of_mul-dvd-mul_right (k / g) r.g_above (subst (λ (n : ℕ). n ∣ own / g * m * g) (sym r.num_is) (subst (λ (n : ℕ). k ∣ n) (sym same) d)))

both-shares : (rel : Rel) (k own u : ℕ) → k ∣ own * under_weight rel u → k ∣ own * over_weight rel u → k ∣ own * u
both-shares Eq k own u a b = a
both-shares Ge k own u a b = a
both-shares Le k own u a b = b

lowest : (p : Problem) (at : List Mark) (level unit own : ℕ) (by : RowName → ℤ) (reduced : ℕ → ℤ) → IsLevelUnit p level unit → IsLevelRow p at level unit own by → IsReducedBy p level unit own by reduced
    → (k : ℕ) → k ∣ own * unit → All (λ l. (k ∣ unsigned_abs (by l.name)) × (k ∣ unsigned_abs (reduced (place_of l.name Under))) × (k ∣ unsigned_abs (reduced (place_of l.name Over)))) (lines p) → k ≡ 1
lowest p at level unit own by reduced is row left k dk each =
    let d = scaled own k own (omega arith) in
    let r : Reduces k own d.0 = reduces k own d.0 row.own_positive d.1 in
    let one : k / d.0 ≡ 1 =
    shares-lowest p level unit (k / d.0) is (part-divides k own d.0 unit r dk)
    (All-from_recursion (λ l. (k / d.0) ∣ unit * weight_at l level / l.scale) (lines p)
    (each-impl (λ l. ((reduced (place_of l.name Under) ≡ pos (own * under_share unit level l) -ℤ by l.name) × (reduced (place_of l.name Over) ≡ pos (own * over_share unit level l) +ℤ by l.name)) × ((k ∣ unsigned_abs (by l.name)) × (k ∣ unsigned_abs (reduced (place_of l.name Under))) × (k ∣ unsigned_abs (reduced (place_of l.name Over))))) _ (lines p)
    (λ l h. part-divides k own d.0 (unit * weight_at l level / l.scale) r
    (both-shares l.rel k own (unit * weight_at l level / l.scale)
    (rest-under k (own * under_share unit level l) (by l.name) (reduced (place_of l.name Under)) h.0.0 h.1.0 h.1.1)
    (rest-over k (own * over_share unit level l) (by l.name) (reduced (place_of l.name Over)) h.0.1 h.1.0 h.1.2)))
    (each-both _ _ (lines p) (each-both _ _ (lines p) (recursion_from_All _ (lines p) left.under) (recursion_from_All _ (lines p) left.over)) (recursion_from_All _ (lines p) each)))) in
    let same : d.0 ≡ k = (let h : 1 * d.0 ≡ d.0 = omega arith in sym (ap (λ (n : ℕ). n * d.0) one ∙ h)) ∙ r.num_is in
    row.lowest k (subst (λ (n : ℕ). n ∣ own) same d.1.1)
    (All-from_recursion (λ l. (IsIn (place_of l.name Under) at → ⊥) → (IsIn (place_of l.name Over) at → ⊥) → k ∣ unsigned_abs (by l.name)) (lines p)
    (each-impl (λ l. (k ∣ unsigned_abs (by l.name)) × (k ∣ unsigned_abs (reduced (place_of l.name Under))) × (k ∣ unsigned_abs (reduced (place_of l.name Over)))) _ (lines p) (λ l h u o. h.0) (recursion_from_All _ (lines p) each)))

-- a level's row in lowest terms gives the level's writing in joint lowest terms
pub level_numbers : (p : Problem) (at : List Mark) (level unit own : ℕ) (by : RowName → ℤ) (reduced : ℕ → ℤ) → IsLevelUnit p level unit → IsLevelRow p at level unit own by → IsReducedBy p level unit own by reduced → IsLevelWriting p at level (own * unit) by reduced
level_numbers p at level unit own by reduced is row left = record {
  scale_positive = mul-pos row.own_positive is.above;
  cancel = row.cancel;
  columns = columns p level unit own by reduced is left;
  inside_zero = inside-zero p at level unit own by reduced row left;
  lowest = lowest p at level unit own by reduced is row left;
}
