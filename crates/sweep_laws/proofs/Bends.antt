-- A view that is as wide as the window, but no wider than 150: what is best at each width.
use Rattle.std.proofs.Common.{◌≡◌, ◌∙◌, ℕ, ◌+◌, ◌*◌, ◌<◌, inl, inr, Bool, true, false, cond, nat_eq, ℤ, pos, negsuc, ◌+ℤ◌, ◌-ℤ◌, ◌*ℤ◌, neg_ℤ, ◌≤ℤ◌, ◌<ℤ◌, refl, sym, ap, subst, arith}
use Rattle.std.proofs.lemmas.List.Elements.{All-from_recursion}
use borrow.Author.Differences.{ints}
use Rattle.frac_core.specs.Fraction.{Fraction}
use Rattle.frac_core.proofs.Bools.{count-other}
use Rattle.frac_core.proofs.Integers.{diff-add, diff-mul, diff-neg, diff-pos, diff_eq, neg-pos, on_1}
use Rattle.frac_core.proofs.Orders.{three}
use Rattle.problem_core.specs.declared.parts.RowName.{RowName}
use Rattle.problem_core.specs.declared.parts.RowName.TheVariants.{Held, Stay as StayOf}
use Rattle.problem_core.specs.Layout.{Assignment, IsBest, IsProblem, Problem, above, below, error, gap, line_of_row, lines}
use Rattle.problem_core.specs.Certificates.{IsLexNonnegative, Multipliers, over, under}
use Rattle.problem_core.proofs.Best.Duality.{certificate-IsBest}
use Rattle.corner_laws.proofs.Swaps.ColumnsStay.{lex_same}
use Rattle.corner_lines.specs.Shifts.{with_constant}
use Rattle.sweep_laws.specs.Fractions.{IsNoMore}
use Rattle.sweep_laws.specs.Instances.{bent, points}

ruleset ring = (diff-add, diff-mul, diff-neg, diff-pos, neg-pos)

abbrev pub bent_at : Fraction → Problem
bent_at w = with_constant 1 w bent

-- ---- levels

-- 1 at the level k, and 0 at each other
abbrev pub at_level : ℕ → ℕ → ℤ
at_level k level = cond (nat_eq k level) (pos 1) (pos 0)

bool-up : (b : Bool) → pos 0 ≤ℤ cond b (pos 1) (pos 0)
bool-up true = record { le = tt }
bool-up false = record { le = tt }

up-at : (k level : ℕ) → pos 0 ≤ℤ at_level k level
up-at k level = bool-up (nat_eq k level)

before-at : (k level : ℕ) → level < k → at_level k level ≡ pos 0
before-at k level h = count-other k level (pos 1) (λ e. absurd (omega (arith, e, h)))

lex-up : (f : ℕ → ℤ) → ((k : ℕ) → pos 0 ≤ℤ f k) → IsLexNonnegative f
lex-up f h level before = h level

none-and-some : (z : ℤ) → z ≡ pos 0 → pos 0 <ℤ z → ⊥
none-and-some z e h = omega (arith, ints, e, h)

some-up : (z : ℤ) → pos 0 <ℤ z → pos 0 ≤ℤ z
some-up z h = omega (arith, ints, h)

lex-first : (L : ℕ) (f : ℕ → ℤ) → ((k : ℕ) → k < L → pos 0 ≤ℤ f k) → pos 0 <ℤ f L → IsLexNonnegative f
lex-first L f low here level before =
    elim (three level L) [
      | inl less ↦ low level less
      | inr more ↦ elim more [
        | inl e ↦ subst (λ (k : ℕ). pos 0 ≤ℤ f k) (sym e) (some-up (f L) here)
        | inr far ↦ absurd (none-and-some (f L) (before L far) here)
      ]
    ]

eq-under : (b : Bool) (t : ℤ) → cond b (pos 1) (pos 0) -ℤ t ≡ pos (1 * cond b 1 0) -ℤ pos 1 *ℤ t
eq-under true t = omega (arith, ints)
eq-under false t = omega (arith, ints)

eq-over : (b : Bool) (t : ℤ) → cond b (pos 1) (pos 0) +ℤ t ≡ pos (1 * cond b 1 0) +ℤ pos 1 *ℤ t
eq-over true t = omega (arith, ints)
eq-over false t = omega (arith, ints)

le-under : (t : ℤ) → neg_ℤ t ≡ pos (1 * 0) -ℤ pos 1 *ℤ t
le-under t = omega (arith, ints)

under-eq : (L : ℕ) (t : ℕ → ℤ) → IsLexNonnegative (λ k. at_level L k -ℤ t k) → IsLexNonnegative (λ k. pos (1 * cond (nat_eq L k) 1 0) -ℤ pos 1 *ℤ t k)
under-eq L t h = lex_same (λ k. at_level L k -ℤ t k) (λ k. pos (1 * cond (nat_eq L k) 1 0) -ℤ pos 1 *ℤ t k) (λ k. eq-under (nat_eq L k) (t k)) h

over-eq : (L : ℕ) (t : ℕ → ℤ) → IsLexNonnegative (λ k. at_level L k +ℤ t k) → IsLexNonnegative (λ k. pos (1 * cond (nat_eq L k) 1 0) +ℤ pos 1 *ℤ t k)
over-eq L t h = lex_same (λ k. at_level L k +ℤ t k) (λ k. pos (1 * cond (nat_eq L k) 1 0) +ℤ pos 1 *ℤ t k) (λ k. eq-over (nat_eq L k) (t k)) h

under-le : (t : ℕ → ℤ) → IsLexNonnegative (λ k. neg_ℤ (t k)) → IsLexNonnegative (λ k. pos (1 * 0) -ℤ pos 1 *ℤ t k)
under-le t h = lex_same (λ k. neg_ℤ (t k)) (λ k. pos (1 * 0) -ℤ pos 1 *ℤ t k) (λ k. le-under (t k)) h

-- ---- multipliers of the three rows and the two stays

abbrev times_by : (t1 t2 t3 s1 s2 : ℕ → ℤ) → ℕ → RowName → ℤ
times_by t1 t2 t3 s1 s2 level (Held id) = cond (nat_eq id 1) (t1 level) (cond (nat_eq id 2) (t2 level) (t3 level))
times_by t1 t2 t3 s1 s2 level (StayOf attr) = cond (nat_eq attr 1) (s1 level) (s2 level)

abbrev multipliers : (t1 t2 t3 s1 s2 : ℕ → ℤ) → Multipliers
multipliers t1 t2 t3 s1 s2 = record { scale = λ k. 1; times = λ k name. times_by t1 t2 t3 s1 s2 k name }

forms-cancel : (t1 t2 t3 s1 s2 : ℤ) (d e : Bool) → (t1 -ℤ t2) +ℤ s1 ≡ pos 0 → (t2 +ℤ t3) +ℤ s2 ≡ pos 0
    → t1 *ℤ (cond d (pos 1) (pos 0) +ℤ pos 0) +ℤ (t2 *ℤ (cond d (negsuc 0) (pos 0) +ℤ (cond e (pos 1) (pos 0) +ℤ pos 0)) +ℤ (t3 *ℤ (cond e (pos 1) (pos 0) +ℤ pos 0) +ℤ (s1 *ℤ (cond d (pos 1) (pos 0) +ℤ pos 0) +ℤ (s2 *ℤ (cond e (pos 1) (pos 0) +ℤ pos 0) +ℤ pos 0)))) ≡ pos 0
forms-cancel t1 t2 t3 s1 s2 true true f g = omega (arith, ints, f, g)
forms-cancel t1 t2 t3 s1 s2 true false f g = omega (arith, ints, f, g)
forms-cancel t1 t2 t3 s1 s2 false true f g = omega (arith, ints, f, g)
forms-cancel t1 t2 t3 s1 s2 false false f g = omega (arith, ints, f, g)

-- ---- gaps

own-gap : (n : ℤ) (d : ℕ) → pos d *ℤ (pos 1 *ℤ n +ℤ pos 0) -ℤ n *ℤ pos d ≡ pos 0
own-gap n d = on_1 (λ n. pos d *ℤ (pos 1 *ℤ n +ℤ pos 0) -ℤ n *ℤ pos d ≡ pos 0) (λ a a'. simp ring (diff_eq _ _ _ _ (omega arith))) n

none-low : (z : ℤ) → z ≡ pos 0 → z <ℤ pos 0 → ⊥
none-low z e h = omega (arith, ints, e, h)

none-high : (z : ℤ) → z ≡ pos 0 → pos 0 <ℤ z → ⊥
none-high z e h = omega (arith, ints, e, h)

no-error : (z : ℤ) → z ≡ pos 0 → above z + below z ≡ 0
no-error z e = ap (λ (y : ℤ). above y + below y) e

no-rank : (n : ℕ) (A : Type 0) → n < 1000 → n ≡ 1000 → A
no-rank n A h e = absurd (omega (arith, h, e))

pub is-problem : (w : Fraction) → 0 < w.den → IsProblem (bent_at w)
is-problem w hw =
    All-from_recursion (λ l. (0 < l.scale) × (0 < l.den)) (lines (bent_at w))
    ((omega arith, hw), ((omega arith, omega arith), ((omega arith, omega arith), ((omega arith, omega arith), ((omega arith, omega arith), tt)))))

-- ---- up to 150 the view is as wide as the window

unfoldable pub as_wide_there : (w : Fraction) → 0 < w.den → Assignment
as_wide_there w hw = record { den = w.den; num = λ v. cond (nat_eq v 1) w.num (cond (nat_eq v 2) w.num (pos 0)); positive = hw }

abbrev low1 : ℕ → ℤ
low1 k = at_level 1001 k +ℤ at_level 1002 k

abbrev low2 : ℕ → ℤ
low2 k = at_level 1002 k

abbrev low3 : ℕ → ℤ
low3 k = pos 0

abbrev stay1 : ℕ → ℤ
stay1 k = neg_ℤ (at_level 1001 k)

abbrev stay2 : ℕ → ℤ
stay2 k = neg_ℤ (at_level 1002 k)

abbrev low_multipliers : Multipliers
low_multipliers = multipliers low1 low2 low3 stay1 stay2

no-less : (z y : ℤ) → pos 0 ≤ℤ z → y ≡ pos 0 → pos 0 ≤ℤ (z -ℤ y)
no-less z y h e = omega (arith, ints, h, e)

twice-up : (z : ℤ) → pos 0 ≤ℤ z → pos 0 ≤ℤ (z -ℤ neg_ℤ z)
twice-up z h = omega (arith, ints, h)

turned-none : (z : ℤ) → z +ℤ neg_ℤ z ≡ pos 0
turned-none z = omega (arith, ints)

none-up : (z : ℤ) → z ≡ pos 0 → pos 0 ≤ℤ z
none-up z e = omega (arith, ints, e)

three-up : (x y z : ℤ) → pos 0 ≤ℤ x → pos 0 ≤ℤ y → pos 0 ≤ℤ z → pos 0 ≤ℤ (x +ℤ (y +ℤ z))
three-up x y z f g h = omega (arith, ints, f, g, h)

two-up : (x y : ℤ) → pos 0 ≤ℤ x → pos 0 ≤ℤ y → pos 0 ≤ℤ (x +ℤ y)
two-up x y f g = omega (arith, ints, f, g)

low-balance : (e f : ℤ) → ((e +ℤ f) -ℤ f) +ℤ neg_ℤ e ≡ pos 0
low-balance e f = omega (arith, ints)

low-rest : (f : ℤ) → (f +ℤ pos 0) +ℤ neg_ℤ f ≡ pos 0
low-rest f = omega (arith, ints)

-- the stay's over side costs nothing more
stay-over : (L k : ℕ) → pos (1 * cond (nat_eq L k) 1 0) +ℤ pos 1 *ℤ neg_ℤ (at_level L k) ≡ pos 0
stay-over L k = sym (eq-over (nat_eq L k) (neg_ℤ (at_level L k))) ∙ turned-none (at_level L k)

stay-under-lex : (L : ℕ) → IsLexNonnegative (λ k. pos (1 * cond (nat_eq L k) 1 0) -ℤ pos 1 *ℤ neg_ℤ (at_level L k))
stay-under-lex L = under-eq L (λ k. neg_ℤ (at_level L k)) (lex-up (λ k. at_level L k -ℤ neg_ℤ (at_level L k)) (λ k. twice-up (at_level L k) (up-at L k)))

stay-over-lex : (L : ℕ) → IsLexNonnegative (λ k. pos (1 * cond (nat_eq L k) 1 0) +ℤ pos 1 *ℤ neg_ℤ (at_level L k))
stay-over-lex L = over-eq L (λ k. neg_ℤ (at_level L k)) (lex-up (λ k. at_level L k +ℤ neg_ℤ (at_level L k)) (λ k. none-up (at_level L k +ℤ neg_ℤ (at_level L k)) (turned-none (at_level L k))))

view-gap : (n : ℤ) (d : ℕ) → pos 1 *ℤ (negsuc 0 *ℤ n +ℤ (pos 1 *ℤ n +ℤ pos 0)) -ℤ pos 0 *ℤ pos d ≡ pos 0
view-gap n d = omega (arith, ints)

not-wide : (n : ℤ) (d : ℕ) → (n *ℤ pos 1) ≤ℤ (pos 150 *ℤ pos d) → pos 0 <ℤ (pos 1 *ℤ (pos 1 *ℤ n +ℤ pos 0) -ℤ pos 150 *ℤ pos d) → ⊥
not-wide n d h k = omega (arith, ints, h, k)

not-narrow : (n : ℤ) (d : ℕ) → (pos 100 *ℤ pos d) ≤ℤ (n *ℤ pos 1) → (pos 1 *ℤ (pos 1 *ℤ n +ℤ pos 0) -ℤ pos 100 *ℤ pos d) <ℤ pos 0 → ⊥
not-narrow n d h k = omega (arith, ints, h, k)

pub low-best : (w : Fraction) (hw : 0 < w.den) → IsNoMore (points 100) w → IsNoMore w (points 150) → IsBest (bent_at w) (as_wide_there w hw)
unfolding as_wide_there
low-best w hw from to =
    certificate-IsBest (bent_at w) (is-problem w hw) (as_wide_there w hw) low_multipliers
    (record {
      required = All-from_recursion (λ r. r.rank ≡ 1000 → error (as_wide_there w hw) (line_of_row r) ≡ 0) (bent_at w).rows
          ((λ e. no-error (pos w.den *ℤ (pos 1 *ℤ w.num +ℤ pos 0) -ℤ w.num *ℤ pos w.den) (own-gap w.num w.den)), ((λ e. no-rank 500 _ (omega arith) e), ((λ e. no-rank 600 _ (omega arith) e), tt)));
      scales = λ level. omega arith;
      cancel = λ level v. forms-cancel (low1 level) (low2 level) (low3 level) (stay1 level) (stay2 level) (nat_eq 1 v) (nat_eq 2 v) (low-balance (at_level 1001 level) (at_level 1002 level)) (low-rest (at_level 1002 level));
      under_columns = All-from_recursion (λ l. IsLexNonnegative (under low_multipliers l)) (lines (bent_at w)) (
        under-eq 0 low1 (lex-first 0 (λ k. at_level 0 k -ℤ low1 k) (λ k h. absurd (omega (arith, h))) (record { lt = tt })),
        (
          under-eq 500 low2 (lex-first 500 (λ k. at_level 500 k -ℤ low2 k) (λ k h. no-less (at_level 500 k) (low2 k) (up-at 500 k) (before-at 1002 k (omega (arith, h)))) (record { lt = tt })),
          (under-le low3 (lex-up (λ k. neg_ℤ (low3 k)) (λ k. record { le = tt })), (stay-under-lex 1001, (stay-under-lex 1002, tt))),
        ),
      );
      over_columns = All-from_recursion (λ l. IsLexNonnegative (over low_multipliers l)) (lines (bent_at w)) (
        over-eq 0 low1 (lex-up (λ k. at_level 0 k +ℤ low1 k) (λ k. three-up (at_level 0 k) (at_level 1001 k) (at_level 1002 k) (up-at 0 k) (up-at 1001 k) (up-at 1002 k))),
        (
          over-eq 500 low2 (lex-up (λ k. at_level 500 k +ℤ low2 k) (λ k. two-up (at_level 500 k) (at_level 1002 k) (up-at 500 k) (up-at 1002 k))),
          (over-eq 400 low3 (lex-up (λ k. at_level 400 k +ℤ low3 k) (λ k. two-up (at_level 400 k) (pos 0) (up-at 400 k) (record { le = tt }))), (stay-over-lex 1001, (stay-over-lex 1002, tt))),
        ),
      );
      under_used = All-from_recursion (λ l. gap (as_wide_there w hw) l <ℤ pos 0 → (level : ℕ) → under low_multipliers l level ≡ pos 0) (lines (bent_at w)) (
        (λ h. absurd (none-low (pos w.den *ℤ (pos 1 *ℤ w.num +ℤ pos 0) -ℤ w.num *ℤ pos w.den) (own-gap w.num w.den) h)),
        ((λ h. absurd (none-low (pos 1 *ℤ (negsuc 0 *ℤ w.num +ℤ (pos 1 *ℤ w.num +ℤ pos 0)) -ℤ pos 0 *ℤ pos w.den) (view-gap w.num w.den) h)), ((λ h level. refl), ((λ h. absurd (not-narrow w.num w.den from h)), ((λ h. absurd (not-narrow w.num w.den from h)), tt)))),
      );
      over_used = All-from_recursion (λ l. pos 0 <ℤ gap (as_wide_there w hw) l → (level : ℕ) → over low_multipliers l level ≡ pos 0) (lines (bent_at w)) (
        (λ h. absurd (none-high (pos w.den *ℤ (pos 1 *ℤ w.num +ℤ pos 0) -ℤ w.num *ℤ pos w.den) (own-gap w.num w.den) h)),
        ((λ h. absurd (none-high (pos 1 *ℤ (negsuc 0 *ℤ w.num +ℤ (pos 1 *ℤ w.num +ℤ pos 0)) -ℤ pos 0 *ℤ pos w.den) (view-gap w.num w.den) h)), ((λ h. absurd (not-wide w.num w.den to h)), ((λ h level. stay-over 1001 level), ((λ h level. stay-over 1002 level), tt)))),
      );
    })

-- ---- from 150 on it is 150 wide

unfoldable pub at_most_there : (w : Fraction) → 0 < w.den → Assignment
at_most_there w hw = record { den = w.den; num = λ v. cond (nat_eq v 1) w.num (cond (nat_eq v 2) (pos 150 *ℤ pos w.den) (pos 0)); positive = hw }

abbrev high1 : ℕ → ℤ
high1 k = at_level 500 k +ℤ at_level 1001 k

abbrev high2 : ℕ → ℤ
high2 k = at_level 500 k

abbrev high3 : ℕ → ℤ
high3 k = neg_ℤ (at_level 500 k) +ℤ at_level 1002 k

abbrev high_multipliers : Multipliers
high_multipliers = multipliers high1 high2 high3 stay1 stay2

high-balance : (g e : ℤ) → ((g +ℤ e) -ℤ g) +ℤ neg_ℤ e ≡ pos 0
high-balance g e = omega (arith, ints)

high-rest : (g f : ℤ) → (g +ℤ (neg_ℤ g +ℤ f)) +ℤ neg_ℤ f ≡ pos 0
high-rest g f = omega (arith, ints)

same-none : (g : ℤ) → g -ℤ g ≡ pos 0
same-none g = omega (arith, ints)

both-none : (g f : ℤ) → g ≡ pos 0 → f ≡ pos 0 → pos 0 ≤ℤ neg_ℤ (neg_ℤ g +ℤ f)
both-none g f d e = omega (arith, ints, d, e)

all-none : (h g f : ℤ) → h ≡ pos 0 → g ≡ pos 0 → f ≡ pos 0 → pos 0 ≤ℤ (h +ℤ (neg_ℤ g +ℤ f))
all-none h g f c d e = omega (arith, ints, c, d, e)

bound-gap : (d : ℕ) → pos 1 *ℤ (pos 1 *ℤ (pos 150 *ℤ pos d) +ℤ pos 0) -ℤ pos 150 *ℤ pos d ≡ pos 0
bound-gap d = omega (arith, ints)

not-over : (n : ℤ) (d : ℕ) → (pos 150 *ℤ pos d) ≤ℤ (n *ℤ pos 1) → pos 0 <ℤ (pos 1 *ℤ (negsuc 0 *ℤ n +ℤ (pos 1 *ℤ (pos 150 *ℤ pos d) +ℤ pos 0)) -ℤ pos 0 *ℤ pos d) → ⊥
not-over n d h k = omega (arith, ints, h, k)

not-less : (n : ℤ) (d : ℕ) → (pos 150 *ℤ pos d) ≤ℤ (n *ℤ pos 1) → (pos 1 *ℤ (pos 1 *ℤ n +ℤ pos 0) -ℤ pos 100 *ℤ pos d) <ℤ pos 0 → ⊥
not-less n d h k = omega (arith, ints, h, k)

view-less : (d : ℕ) → (pos 1 *ℤ (pos 1 *ℤ (pos 150 *ℤ pos d) +ℤ pos 0) -ℤ pos 100 *ℤ pos d) <ℤ pos 0 → ⊥
view-less d h = omega (arith, ints, h)

row-under : (k : ℕ) → pos (1 * cond (nat_eq 500 k) 1 0) -ℤ pos 1 *ℤ at_level 500 k ≡ pos 0
row-under k = sym (eq-under (nat_eq 500 k) (at_level 500 k)) ∙ same-none (at_level 500 k)

pub high-best : (w : Fraction) (hw : 0 < w.den) → IsNoMore (points 150) w → IsBest (bent_at w) (at_most_there w hw)
unfolding at_most_there
high-best w hw from =
    certificate-IsBest (bent_at w) (is-problem w hw) (at_most_there w hw) high_multipliers
    (record {
      required = All-from_recursion (λ r. r.rank ≡ 1000 → error (at_most_there w hw) (line_of_row r) ≡ 0) (bent_at w).rows
          ((λ e. no-error (pos w.den *ℤ (pos 1 *ℤ w.num +ℤ pos 0) -ℤ w.num *ℤ pos w.den) (own-gap w.num w.den)), ((λ e. no-rank 500 _ (omega arith) e), ((λ e. no-rank 600 _ (omega arith) e), tt)));
      scales = λ level. omega arith;
      cancel = λ level v. forms-cancel (high1 level) (high2 level) (high3 level) (stay1 level) (stay2 level) (nat_eq 1 v) (nat_eq 2 v) (high-balance (at_level 500 level) (at_level 1001 level)) (high-rest (at_level 500 level) (at_level 1002 level));
      under_columns = All-from_recursion (λ l. IsLexNonnegative (under high_multipliers l)) (lines (bent_at w)) (
        under-eq 0 high1 (lex-first 0 (λ k. at_level 0 k -ℤ high1 k) (λ k h. absurd (omega (arith, h))) (record { lt = tt })),
        (
          under-eq 500 high2 (lex-up (λ k. at_level 500 k -ℤ high2 k) (λ k. none-up (at_level 500 k -ℤ at_level 500 k) (same-none (at_level 500 k)))),
          (
            under-le high3 (lex-first 500 (λ k. neg_ℤ (high3 k)) (λ k h. both-none (at_level 500 k) (at_level 1002 k) (before-at 500 k h) (before-at 1002 k (omega (arith, h)))) (record { lt = tt })),
            (stay-under-lex 1001, (stay-under-lex 1002, tt)),
          ),
        ),
      );
      over_columns = All-from_recursion (λ l. IsLexNonnegative (over high_multipliers l)) (lines (bent_at w)) (
        over-eq 0 high1 (lex-up (λ k. at_level 0 k +ℤ high1 k) (λ k. three-up (at_level 0 k) (at_level 500 k) (at_level 1001 k) (up-at 0 k) (up-at 500 k) (up-at 1001 k))),
        (
          over-eq 500 high2 (lex-up (λ k. at_level 500 k +ℤ high2 k) (λ k. two-up (at_level 500 k) (at_level 500 k) (up-at 500 k) (up-at 500 k))),
          (
            over-eq 400 high3 (lex-first 400 (λ k. at_level 400 k +ℤ high3 k) (λ k h. all-none (at_level 400 k) (at_level 500 k) (at_level 1002 k) (before-at 400 k h) (before-at 500 k (omega (arith, h))) (before-at 1002 k (omega (arith, h)))) (record { lt = tt })),
            (stay-over-lex 1001, (stay-over-lex 1002, tt)),
          ),
        ),
      );
      under_used = All-from_recursion (λ l. gap (at_most_there w hw) l <ℤ pos 0 → (level : ℕ) → under high_multipliers l level ≡ pos 0) (lines (bent_at w)) (
        (λ h. absurd (none-low (pos w.den *ℤ (pos 1 *ℤ w.num +ℤ pos 0) -ℤ w.num *ℤ pos w.den) (own-gap w.num w.den) h)),
        ((λ h level. row-under level), ((λ h. absurd (none-low (pos 1 *ℤ (pos 1 *ℤ (pos 150 *ℤ pos w.den) +ℤ pos 0) -ℤ pos 150 *ℤ pos w.den) (bound-gap w.den) h)), ((λ h. absurd (not-less w.num w.den from h)), ((λ h. absurd (view-less w.den h)), tt)))),
      );
      over_used = All-from_recursion (λ l. pos 0 <ℤ gap (at_most_there w hw) l → (level : ℕ) → over high_multipliers l level ≡ pos 0) (lines (bent_at w)) (
        (λ h. absurd (none-high (pos w.den *ℤ (pos 1 *ℤ w.num +ℤ pos 0) -ℤ w.num *ℤ pos w.den) (own-gap w.num w.den) h)),
        ((λ h. absurd (not-over w.num w.den from h)), ((λ h. absurd (none-high (pos 1 *ℤ (pos 1 *ℤ (pos 150 *ℤ pos w.den) +ℤ pos 0) -ℤ pos 150 *ℤ pos w.den) (bound-gap w.den) h)), ((λ h level. stay-over 1001 level), ((λ h level. stay-over 1002 level), tt)))),
      );
    })
