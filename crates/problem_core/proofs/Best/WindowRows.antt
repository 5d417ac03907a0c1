-- The window's rows fix its four attributes, so the values that they give are best.
use Rattle.std.proofs.Common.{◌≡◌, ℕ, zero, suc, ◌+◌, ◌<◌, ◌≤◌, List, [], ◌∷◌, map, length, get_or, ℤ, pos, negsuc, ◌+ℤ◌, ◌-ℤ◌, ◌*ℤ◌, ◌≤ℤ◌, refl, sym, ap, ap₂, subst, ◌∙◌, arith, mul-pos, lit<, lit≤}
use Rattle.std.specs.List.{AllByRecursion as Each, All}
use Rattle.std.proofs.lemmas.List.Elements.{recursion_from_All, All-from_recursion}
use borrow.Author.Differences.{ints}
use Rattle.frac_core.specs.Fraction.{Fraction}
use Rattle.problem_core.specs.declared.parts.Stay.{Stay}
use Rattle.problem_core.specs.declared.parts.Rel.{Rel}
use Rattle.problem_core.specs.declared.parts.Rel.TheVariants.{Eq, Ge}
use Rattle.problem_core.specs.Layout.{Assignment, IsProper, IsCovered, HasStay, Satisfies, IsBest, AreSame, Gives, lines, line_of_row, line_of_stay, stay_lines, error, above, below}
use Rattle.problem_core.specs.Window.{zero_fraction, required_row, structural_rows, window_rows, window_values, AreWindowStays, IsSize}
use Rattle.frac_core.proofs.Integers.{cancel_mul, mul_left_comm_ℤ, same_from_sub, sub-self}
use lib.IntN.{*ℤ_comm}
use Rattle.problem_core.proofs.Forms.{each-both}
use Rattle.problem_core.proofs.Refutations.{zero-gap}
use Rattle.problem_core.proofs.Best.Agreed.{AgreeAt, each-lines, agreed-IsBest, errorless-IsBest}
use Rattle.frac_core.proofs.Numbers.{one-times-plus as unit}
use Rattle.frac_core.proofs.Lists.{each-from_map}

-- ---- one row

one-form : (q d : ℕ) (n c : ℤ) → pos q *ℤ (pos 1 *ℤ n +ℤ pos 0) -ℤ c *ℤ pos d ≡ n *ℤ pos q -ℤ c *ℤ pos d
one-form q d n c = ap (λ (z : ℤ). pos q *ℤ z -ℤ c *ℤ pos d) (unit n) ∙ ap (λ (z : ℤ). z -ℤ c *ℤ pos d) (*ℤ_comm (pos q) n)

pub fixed : (x : Assignment) (id v : ℕ) (c : Fraction) → error x (line_of_row (required_row id v Eq c)) ≡ 0 → x.num v *ℤ pos c.den ≡ c.num *ℤ pos x.den
fixed x id v c e =
    let g : pos c.den *ℤ (pos 1 *ℤ x.num v +ℤ pos 0) -ℤ c.num *ℤ pos x.den ≡ pos 0 = zero-gap _ e in
    same_from_sub (x.num v *ℤ pos c.den) (c.num *ℤ pos x.den) (sym (one-form c.den x.den (x.num v) c.num) ∙ g)

pub met : (x : Assignment) (id v : ℕ) (c : Fraction) → x.num v *ℤ pos c.den ≡ c.num *ℤ pos x.den → error x (line_of_row (required_row id v Eq c)) ≡ 0
met x id v c e =
    let g : pos c.den *ℤ (pos 1 *ℤ x.num v +ℤ pos 0) -ℤ c.num *ℤ pos x.den ≡ pos 0 =
    one-form c.den x.den (x.num v) c.num ∙ ap (λ (z : ℤ). z -ℤ c.num *ℤ pos x.den) e ∙ sub-self (c.num *ℤ pos x.den) in
    ap (λ (z : ℤ). above z + below z) g

pub not_below : (z : ℤ) → pos 0 ≤ℤ z → below z ≡ 0
not_below (pos n) h = refl
not_below (negsuc n) h = absurd (omega (arith, ints))

not_negative : (z : ℤ) (d : ℕ) → 0 < d → pos 0 ≤ℤ (z *ℤ pos d) → pos 0 ≤ℤ z
not_negative (pos n) d h k = omega (arith, ints)
not_negative (negsuc n) d h k = absurd (omega (arith, ints, mul-pos {m = suc n} {n = d} (omega arith) h))

product : (z : ℤ) (d : ℕ) → pos 0 ≤ℤ z → pos 0 ≤ℤ (z *ℤ pos d)
product (pos n) d h = omega (arith, ints)
product (negsuc n) d h = absurd (omega (arith, ints))

pub at_least_zero : (x : Assignment) (id v : ℕ) (c : Fraction) → IsSize c → x.num v *ℤ pos c.den ≡ c.num *ℤ pos x.den → error x (line_of_row (required_row id v Ge zero_fraction)) ≡ 0
at_least_zero x id v c (above, some) e =
    let n : pos 0 ≤ℤ x.num v = not_negative (x.num v) c.den some (subst (λ (z : ℤ). pos 0 ≤ℤ z) (sym e) (product c.num x.den above)) in
    not_below (pos 1 *ℤ (pos 1 *ℤ x.num v +ℤ pos 0) -ℤ pos 0 *ℤ pos x.den) (omega (arith, ints, n))

pub same-given : (x y : Assignment) (v : ℕ) (c : Fraction) → 0 < c.den → x.num v *ℤ pos c.den ≡ c.num *ℤ pos x.den → y.num v *ℤ pos c.den ≡ c.num *ℤ pos y.den → AgreeAt x y v
same-given x y v c some e f =
    cancel_mul c.den (x.num v *ℤ pos y.den) (y.num v *ℤ pos x.den) some
    (omega (
      arith,
      ints,
      ap (λ (z : ℤ). pos y.den *ℤ z) e,
      ap (λ (z : ℤ). pos x.den *ℤ z) f,
      mul_left_comm_ℤ (pos c.den) (x.num v) (pos y.den),
      mul_left_comm_ℤ (pos c.den) (y.num v) (pos x.den),
      mul_left_comm_ℤ (pos y.den) (x.num v) (pos c.den),
      mul_left_comm_ℤ (pos x.den) (y.num v) (pos c.den),
      mul_left_comm_ℤ (pos y.den) c.num (pos x.den),
      mul_left_comm_ℤ (pos x.den) c.num (pos y.den),
    ))

-- ---- the stays

pub has-rest : (s : Stay) (stays : List Stay) (v : ℕ) → HasStay stays v → HasStay (s ∷ stays) v
has-rest s stays v (k, t, below, is, attr) = (suc k, t, omega (arith, below), is, attr)

has : (stays : List Stay) (k d : ℕ) → k < length (map (λ s. s.attr) stays) → HasStay stays (get_or (map (λ s. s.attr) stays) k d)
has [] k d h = absurd (omega arith)
has (s ∷ stays) zero d h = (0, s, omega arith, refl, refl)
has (s ∷ stays) (suc k) d h = has-rest s stays _ (has stays k d (omega (arith, h)))

has-window : (stays : List Stay) → map (λ s. s.attr) stays ≡ 1 ∷ 2 ∷ 3 ∷ 4 ∷ [] → (k : ℕ) → k < 4 → HasStay stays (get_or (1 ∷ 2 ∷ 3 ∷ 4 ∷ []) k 0)
has-window stays e k h =
    subst (λ (vs : List ℕ). k < length vs → HasStay stays (get_or vs k 0)) e (has stays k 0) h

each-window : (P : ℕ → Type 0) (stays : List Stay) → map (λ s. s.attr) stays ≡ 1 ∷ 2 ∷ 3 ∷ 4 ∷ [] → Each P (1 ∷ 2 ∷ 3 ∷ 4 ∷ []) → Each (λ s. P s.attr) stays
each-window P stays e h = each-from_map P (λ s. s.attr) stays (subst (λ (vs : List ℕ). Each P vs) (sym e) h)

covered-row : (stays : List Stay) (id v : ℕ) (rel : Rel) (c : Fraction) → HasStay stays v → IsCovered stays (required_row id v rel c)
covered-row stays id v rel c h = All-from_recursion (λ t. HasStay stays t.attr) (required_row id v rel c).terms (h, tt)

positive-stays : (base : ℕ) (stays : List Stay) → Each (λ s. 0 < s.target.den) stays → Each (λ l. (0 < l.scale) × (0 < l.den)) (stay_lines base stays)
positive-stays base [] h = tt
positive-stays base (s ∷ stays) h = ((omega arith, h.0), positive-stays (base + 1) stays h.1)

-- ---- the window's problem

window-IsProper : (w h : Fraction) → IsSize w → IsSize h → (stays : List Stay) → AreWindowStays stays → IsProper (record { rows = window_rows w h; stays = stays })
window-IsProper w h wide high stays (attrs, dens) =
    let has_stay = has-window stays attrs in
    record {
      problem = All-from_recursion (λ l. (0 < l.scale) × (0 < l.den)) (lines (record { rows = window_rows w h; stays = stays }))
          (each-lines (λ l. (0 < l.scale) × (0 < l.den)) (window_rows w h) (stay_lines 1001 stays)
          ((lit< tt, lit< tt), ((lit< tt, lit< tt), ((lit< tt, lit< tt), ((lit< tt, lit< tt), ((lit< tt, wide.1), ((lit< tt, high.1), tt))))))
          (positive-stays 1001 stays (recursion_from_All (λ s. 0 < s.target.den) stays dens)));
      ranks = All-from_recursion (λ r. r.rank ≤ 1000) (window_rows w h) (lit≤ tt, (lit≤ tt, (lit≤ tt, (lit≤ tt, (lit≤ tt, (lit≤ tt, tt))))));
      weights = All-from_recursion (λ r. 0 < r.weight) (window_rows w h) (lit< tt, (lit< tt, (lit< tt, (lit< tt, (lit< tt, (lit< tt, tt))))));
      covered = All-from_recursion (IsCovered stays) (window_rows w h) (
        covered-row stays 1 1 Eq zero_fraction (has_stay 0 (lit< tt)),
        (
          covered-row stays 2 2 Eq zero_fraction (has_stay 1 (lit< tt)),
          (
            covered-row stays 3 3 Ge zero_fraction (has_stay 2 (lit< tt)),
            (
              covered-row stays 4 4 Ge zero_fraction (has_stay 3 (lit< tt)),
              (
                covered-row stays 5 3 Eq w (has_stay 2 (lit< tt)),
                (covered-row stays 6 4 Eq h (has_stay 3 (lit< tt)), tt),
              ),
            ),
          ),
        ),
      );
    }

-- what the rows fix
window-Gives : (w h : Fraction) (stays : List Stay) (y : Assignment) → Satisfies (record { rows = window_rows w h; stays = stays }) y → Gives (window_values w h) y
window-Gives w h stays y sat =
    let each = recursion_from_All (λ r. r.rank ≡ 1000 → error y (line_of_row r) ≡ 0) (window_rows w h) sat in
    All-from_recursion (λ v. y.num v.0 *ℤ pos v.1.den ≡ v.1.num *ℤ pos y.den) (window_values w h) (
      fixed y 1 1 zero_fraction (each.0 refl),
      (
        fixed y 2 2 zero_fraction (each.1.0 refl),
        (
          fixed y 5 3 w (each.1.1.1.1.0 refl),
          (fixed y 6 4 h (each.1.1.1.1.1.0 refl), tt),
        ),
      ),
    )

window-Satisfies : (w h : Fraction) → IsSize w → IsSize h → (stays : List Stay) (x : Assignment) → Gives (window_values w h) x → Satisfies (record { rows = window_rows w h; stays = stays }) x
window-Satisfies w h wide high stays x gives =
    let each = recursion_from_All (λ v. x.num v.0 *ℤ pos v.1.den ≡ v.1.num *ℤ pos x.den) (window_values w h) gives in
    All-from_recursion (λ r. r.rank ≡ 1000 → error x (line_of_row r) ≡ 0) (window_rows w h) (
      λ e. met x 1 1 zero_fraction each.0,
      (
        λ e. met x 2 2 zero_fraction each.1.0,
        (
          λ e. at_least_zero x 3 3 w wide each.1.1.0,
          (
            λ e. at_least_zero x 4 4 h high each.1.1.1.0,
            (
              λ e. met x 5 3 w each.1.1.0,
              (λ e. met x 6 4 h each.1.1.1.0, tt),
            ),
          ),
        ),
      ),
    )

given-AreSame : (w h : Fraction) → IsSize w → IsSize h → (stays : List Stay) → AreWindowStays stays → (x y : Assignment) → Gives (window_values w h) x → Gives (window_values w h) y → AreSame (record { rows = window_rows w h; stays = stays }) x y
given-AreSame w h wide high stays (attrs, dens) x y gx gy =
    let ex = recursion_from_All (λ v. x.num v.0 *ℤ pos v.1.den ≡ v.1.num *ℤ pos x.den) (window_values w h) gx in
    let ey = recursion_from_All (λ v. y.num v.0 *ℤ pos v.1.den ≡ v.1.num *ℤ pos y.den) (window_values w h) gy in
    All-from_recursion (λ s. AgreeAt x y s.attr) stays
    (each-window (AgreeAt x y) stays attrs (
      same-given x y 1 zero_fraction (lit< tt) ex.0 ey.0,
      (
        same-given x y 2 zero_fraction (lit< tt) ex.1.0 ey.1.0,
        (
          same-given x y 3 w wide.1 ex.1.1.0 ey.1.1.0,
          (same-given x y 4 h high.1 ex.1.1.1.0 ey.1.1.1.0, tt),
        ),
      ),
    ))

pub window-IsBest : (w h : Fraction) → IsSize w → IsSize h → (stays : List Stay) → AreWindowStays stays → (x : Assignment) → Gives (window_values w h) x → IsBest (record { rows = window_rows w h; stays = stays }) x
window-IsBest w h wide high stays at x gives =
    agreed-IsBest (record { rows = window_rows w h; stays = stays }) (window-IsProper w h wide high stays at) x (window-Satisfies w h wide high stays x gives)
    (λ y sat. given-AreSame w h wide high stays at x y gives (window-Gives w h stays y sat))

-- ---- the first scene

no_gap : (x : Assignment) (level : ℕ) (s : Stay) → s.target.num ≡ pos 0 → x.num s.attr ≡ pos 0 → error x (line_of_stay level s) ≡ 0
no_gap x level s e f =
    let g : pos s.target.den *ℤ (pos 1 *ℤ x.num s.attr +ℤ pos 0) -ℤ s.target.num *ℤ pos x.den ≡ pos 0 =
    one-form s.target.den x.den (x.num s.attr) s.target.num
    ∙ ap₂ (λ (a b : ℤ). a *ℤ pos s.target.den -ℤ b *ℤ pos x.den) f e
    ∙ (omega (arith, ints)) in
    ap (λ (z : ℤ). above z + below z) g

no_gaps : (x : Assignment) (base : ℕ) (stays : List Stay) → Each (λ s. (s.target.num ≡ pos 0) × (x.num s.attr ≡ pos 0)) stays → Each (λ l. error x l ≡ 0) (stay_lines base stays)
no_gaps x base [] h = tt
no_gaps x base (s ∷ stays) h = (no_gap x base s h.0.0 h.0.1, no_gaps x (base + 1) stays h.1)

zero-value : (n : ℤ) (d : ℕ) → n *ℤ pos 1 ≡ pos 0 *ℤ pos d → n ≡ pos 0
zero-value n d e = omega (arith, ints, e)

pub first-IsBest : (stays : List Stay) → AreWindowStays stays → All (λ s. s.target.num ≡ pos 0) stays → (x : Assignment) → Gives (window_values zero_fraction zero_fraction) x → IsBest (record { rows = structural_rows; stays = stays }) x
first-IsBest stays (attrs, dens) zeros x gives =
    let each = recursion_from_All (λ v. x.num v.0 *ℤ pos v.1.den ≡ v.1.num *ℤ pos x.den) (window_values zero_fraction zero_fraction) gives in
    let size : IsSize zero_fraction = (record { le = tt }, lit< tt) in
    let values : Each (λ s. x.num s.attr ≡ pos 0) stays =
    each-window (λ v. x.num v ≡ pos 0) stays attrs
    (zero-value (x.num 1) x.den each.0, (zero-value (x.num 2) x.den each.1.0, (zero-value (x.num 3) x.den each.1.1.0, (zero-value (x.num 4) x.den each.1.1.1.0, tt)))) in
    errorless-IsBest (record { rows = structural_rows; stays = stays }) x
    (All-from_recursion (λ l. error x l ≡ 0) (lines (record { rows = structural_rows; stays = stays }))
    (each-lines (λ l. error x l ≡ 0) structural_rows (stay_lines 1001 stays) (
      met x 1 1 zero_fraction each.0,
      (
        met x 2 2 zero_fraction each.1.0,
        (
          at_least_zero x 3 3 zero_fraction size each.1.1.0,
          (at_least_zero x 4 4 zero_fraction size each.1.1.1.0, tt),
        ),
      ),
    )
    (no_gaps x 1001 stays (each-both _ _ stays (recursion_from_All (λ s. s.target.num ≡ pos 0) stays zeros) values))))
