-- How a row joins the row of its level.
use Rattle.std.proofs.Common.{◌≡◌, ◌≢◌, ◌⊎◌, ◌∙◌, ℕ, zero, suc, ◌*◌, ◌/◌, ◌<◌, nat_eq, List, [], ◌∷◌, ℤ, pos, ◌+ℤ◌, ◌-ℤ◌, ◌*ℤ◌, neg_ℤ, unsigned_abs, refl, sym, ap, ap₂, subst, arith, inl, inr, All, Any, mul-pos, mul-zero}
use Rattle.std.specs.List.{AllByRecursion as Each}
use Rattle.std.specs.Int.{◌∣◌, IsGcd}
use Rattle.std.proofs.lemmas.Bool.{cases_eq}
use Rattle.std.proofs.lemmas.Int.{unsigned_abs-mul}
use Rattle.std.proofs.lemmas.Nat.Gcd.{IsGcd-swap, dvd-zero, dvd_trans}
use Rattle.std.proofs.Math.Nat.{dvd-mul_right_of_dvd, mul-div_cancel, mul-div_cancel', mul-dvd-mul_right, one-dvd, zero-div}
use Rattle.std.proofs.lemmas.List.Elements.{All-from_recursion, recursion_from_All}
use borrow.Author.Differences.{ints}
use Rattle.frac_core.proofs.Gauss.{Reduces, gauss, reduces}
use Rattle.frac_core.proofs.Integers.{zero-mul_ℤ}
use Rattle.problem_core.specs.declared.parts.Mark.{Mark}
use Rattle.problem_core.specs.declared.parts.Rel.{Rel}
use Rattle.problem_core.specs.declared.parts.Rel.TheVariants.{Eq, Le, Ge}
use Rattle.problem_core.specs.declared.parts.Side.{Side}
use Rattle.problem_core.specs.declared.parts.Side.TheVariants.{Under, Over}
use Rattle.problem_core.specs.declared.parts.RowName.{RowName}
use Rattle.problem_core.specs.Layout.{Line, Problem, coefficient, lines, sum_of}
use Rattle.problem_core.specs.Certificates.{under_weight, over_weight, weight_at}
use Rattle.problem_core.specs.Corners.{IsIn, place_of}
use Rattle.problem_core.proofs.Forms.{each-impl, each-both, mul-sum, sum-cong}
use Rattle.corner_laws.specs.Units.{over_share, under_share}
use Rattle.corner_laws.proofs.LevelCosts.LevelUnits.{grown, shrunk}
use Rattle.corner_laws.proofs.MarkWritings.Directions.{each-of}
use Rattle.corner_laws.proofs.LevelCosts.Unique.{same-name}
use Rattle.corner_lines.specs.LineEquations.{IsOutsideLine}
use Rattle.corner_lines.specs.Levels.LevelRows.{HasLevelRow, inside_number, sum_by}
use Rattle.corner_lines.specs.Levels.LevelJoins.{AreLinesBefore, EmptyLevelHasRow, FreeRowChangesNothing, GrownRowIsRow, IsLineBefore, JoinedRowIsMultiple, JoinedRowIsRow, JoinedUnitIsUnit, weightless}
use Rattle.corner_lines.proofs.Lines.LineSums.{both-cancel}
use Rattle.corner_lines.proofs.LevelRows.LevelDivided.{divided-same, divided_row_is_row}
use Rattle.corner_lines.proofs.LevelRows.LevelExchanges.{entered, inside-numbers, kept, pivot-zeros, times-inside, plain-sum as one-and-none}
use Rattle.corner_lines.proofs.Lines.LinePivots.{times-cancel}
use Rattle.corner_laws.proofs.LevelCosts.LevelLifts.{no-weight-left}
use Rattle.frac_core.proofs.Numbers.{no-product as no-share, mul-neg as mul-opp}
use Rattle.problem_core.proofs.Lines.{under-none, over-none, own-weight as own_weight}

-- ---- shares of lines without a weight

quotient-none : (unit k w : ℕ) → w ≡ 0 → unit * w / k ≡ 0
quotient-none unit k w e = ap (λ (w : ℕ). unit * w / k) e ∙ ap (λ (n : ℕ). n / k) (mul-zero unit) ∙ zero-div k

pub free-under : (unit level : ℕ) (l : Line) → weight_at l level ≡ 0 → under_share unit level l ≡ 0
free-under unit level l e = ap (under_weight l.rel) (quotient-none unit l.scale (weight_at l level) e) ∙ under-none l.rel

pub free-over : (unit level : ℕ) (l : Line) → weight_at l level ≡ 0 → over_share unit level l ≡ 0
free-over unit level l e = ap (over_weight l.rel) (quotient-none unit l.scale (weight_at l level) e) ∙ over-none l.rel

pub free-number : (side : Side) (level unit own : ℕ) (l : Line) → weight_at l level ≡ 0 → inside_number side level unit own l ≡ pos 0
free-number Under level unit own l e = ap pos (no-share own (under_share unit level l) (free-under unit level l e))
free-number Over level unit own l e = ap (λ (n : ℕ). neg_ℤ (pos n)) (no-share own (over_share unit level l) (free-over unit level l e))

pub whole-none : (k n w : ℕ) → w ≡ 0 → k ∣ n * w
whole-none k n w e = subst (λ (m : ℕ). k ∣ m) (sym (ap (λ (w : ℕ). n * w) e ∙ mul-zero n)) (dvd-zero k)

pub one-divides : (k : ℕ) → k ∣ 1 → k ≡ 1
one-divides k d = one-factor k (1 / k) (mul-div_cancel' k d)
  where
    one-factor : (k n : ℕ) → k * n ≡ 1 → k ≡ 1
    one-factor zero n e = absurd (omega (arith, e))
    one-factor (suc zero) n e = refl
    one-factor (suc (suc k)) zero e = absurd (omega (arith, e))
    one-factor (suc (suc k)) (suc n) e = absurd (omega (arith, e))

-- a level without a line
pub empty_level_has_row : EmptyLevelHasRow
empty_level_has_row p at level none = (
  record {
    above = omega arith;
    whole = All-from_recursion (λ l. l.scale ∣ 1 * weight_at l level) (lines p) (each-impl (λ l. weight_at l level ≡ 0) _ (lines p) (λ l e. whole-none l.scale 1 (weight_at l level) e) (recursion_from_All _ (lines p) none));
    least = λ n h. one-dvd n;
  },
  record {
    by = λ name. pos 0;
    row = record {
      own_positive = omega arith;
      cancel = λ v.
          sum-cong (λ l. pos 0 *ℤ coefficient v l.form) (λ l. pos 0 *ℤ pos 0) (lines p) (λ l. zero-mul_ℤ (coefficient v l.form))
          ∙ mul-sum (pos 0) (λ l. pos 0) (lines p) ∙ zero-mul_ℤ (sum_of (λ (l : Line). pos 0) (lines p));
      under = All-from_recursion (λ l. IsIn (place_of l.name Under) at → pos 0 ≡ pos (1 * under_share 1 level l)) (lines p) (each-impl (λ l. weight_at l level ≡ 0) _ (lines p) (λ l e i. sym (free-number Under level 1 1 l e)) (recursion_from_All _ (lines p) none));
      over = All-from_recursion (λ l. IsIn (place_of l.name Over) at → pos 0 ≡ neg_ℤ (pos (1 * over_share 1 level l))) (lines p) (each-impl (λ l. weight_at l level ≡ 0) _ (lines p) (λ l e i. sym (free-number Over level 1 1 l e)) (recursion_from_All _ (lines p) none));
      lowest = λ k d each. one-divides k d;
    };
    outside = All-from_recursion (λ l. IsOutsideLine at l.name → pos 0 ≡ pos 0) (lines p) (each-of (λ l. IsOutsideLine at l.name → pos 0 ≡ pos 0) (lines p) (λ l out. refl));
  },
)

-- ---- the unit grows

grown-quotient : (t m w k : ℕ) → 0 < k → k ∣ m * w → t * m * w / k ≡ t * (m * w / k)
grown-quotient t m w k above d =
    let e : k * (m * w / k) ≡ m * w = mul-div_cancel' k d in
    let f : t * m * w ≡ t * (m * w / k) * k = (let h : t * m * w ≡ t * (m * w) = omega arith in h) ∙ ap (λ (n : ℕ). t * n) (sym e) ∙ omega arith in
    ap (λ (n : ℕ). n / k) f ∙ mul-div_cancel (t * (m * w / k)) above

under-times : (rel : Rel) (t u : ℕ) → under_weight rel (t * u) ≡ t * under_weight rel u
under-times Eq t u = refl
under-times Ge t u = refl
under-times Le t u = sym (mul-zero t)

over-times : (rel : Rel) (t u : ℕ) → over_weight rel (t * u) ≡ t * over_weight rel u
over-times Eq t u = refl
over-times Ge t u = sym (mul-zero t)
over-times Le t u = refl

pub grown-under : (t unit level : ℕ) (l : Line) → 0 < l.scale → l.scale ∣ unit * weight_at l level → under_share (t * unit) level l ≡ t * under_share unit level l
grown-under t unit level l above d = ap (under_weight l.rel) (grown-quotient t unit (weight_at l level) l.scale above d) ∙ under-times l.rel t (unit * weight_at l level / l.scale)

pub grown-over : (t unit level : ℕ) (l : Line) → 0 < l.scale → l.scale ∣ unit * weight_at l level → over_share (t * unit) level l ≡ t * over_share unit level l
grown-over t unit level l above d = ap (over_weight l.rel) (grown-quotient t unit (weight_at l level) l.scale above d) ∙ over-times l.rel t (unit * weight_at l level / l.scale)

-- t/g times own*u is own/g times t*u
pub cross-share : (t own g u : ℕ) → Reduces t own g → t / g * (own * u) ≡ own / g * (t * u)
cross-share t own g u r =
    let a : t / g * (own * u) ≡ t / g * (own / g * g * u) = ap (λ (n : ℕ). t / g * (n * u)) (sym r.den_is) in
    let b : own / g * (t * u) ≡ own / g * (t / g * g * u) = ap (λ (n : ℕ). own / g * (n * u)) (sym r.num_is) in
    let c : t / g * (own / g * g * u) ≡ own / g * (t / g * g * u) = omega arith in
    a ∙ c ∙ sym b

grown-number-under : (t own g u w : ℕ) (y : ℤ) → Reduces t own g → w ≡ t * u → y ≡ pos (own * u) → pos (t / g) *ℤ y ≡ pos (own / g * w)
grown-number-under t own g u w y r e h = ap (λ (z : ℤ). pos (t / g) *ℤ z) h ∙ ap pos (cross-share t own g u r) ∙ ap (λ (n : ℕ). pos (own / g * n)) (sym e)

grown-number-over : (t own g u w : ℕ) (y : ℤ) → Reduces t own g → w ≡ t * u → y ≡ neg_ℤ (pos (own * u)) → pos (t / g) *ℤ y ≡ neg_ℤ (pos (own / g * w))
grown-number-over t own g u w y r e h = ap (λ (z : ℤ). pos (t / g) *ℤ z) h ∙ mul-opp (pos (t / g)) (pos (own * u)) ∙ ap (λ (n : ℕ). neg_ℤ (pos n)) (cross-share t own g u r) ∙ ap (λ (n : ℕ). neg_ℤ (pos (own / g * n))) (sym e)

-- what divides own/g and t/g times a number divides the number
factor-left : (t own g k n : ℕ) → Reduces t own g → k ∣ own / g → k ∣ t / g * n → k ∣ n
factor-left t own g k n r d e =
    gauss (t / g) k n
    (one-dvd (t / g), one-dvd k, λ c ct ck. r.apart.2 c ct (dvd_trans c ck d)) e

-- where the unit has grown
pub grown_row_is_row : GrownRowIsRow
grown_row_is_row p at level unit own t g number problem is above gcd h =
    let r : Reduces t own g = reduces t own g h.row.own_positive gcd in
    let known : Each (λ l. ((0 < l.scale) × (0 < l.den)) × (l.scale ∣ unit * weight_at l level)) (lines p) = each-both _ _ (lines p) (recursion_from_All _ (lines p) problem) (recursion_from_All _ (lines p) is.whole) in
    record {
      by = λ name. pos (t / g) *ℤ h.by name;
      row = record {
        own_positive = r.den_above;
        cancel = λ v. times-cancel p (pos (t / g)) h.by v (h.row.cancel v);
        under = All-from_recursion (λ l. IsIn (place_of l.name Under) at → pos (t / g) *ℤ h.by l.name ≡ pos (own / g * under_share (t * unit) level l)) (lines p)
            (each-impl (λ l. (((0 < l.scale) × (0 < l.den)) × (l.scale ∣ unit * weight_at l level)) × (IsIn (place_of l.name Under) at → h.by l.name ≡ pos (own * under_share unit level l))) _ (lines p)
            (λ l k i. grown-number-under t own g (under_share unit level l) (under_share (t * unit) level l) (h.by l.name) r (grown-under t unit level l k.0.0.0 k.0.1) (k.1 i))
            (each-both _ _ (lines p) known (recursion_from_All _ (lines p) h.row.under)));
        over = All-from_recursion (λ l. IsIn (place_of l.name Over) at → pos (t / g) *ℤ h.by l.name ≡ neg_ℤ (pos (own / g * over_share (t * unit) level l))) (lines p)
            (each-impl (λ l. (((0 < l.scale) × (0 < l.den)) × (l.scale ∣ unit * weight_at l level)) × (IsIn (place_of l.name Over) at → h.by l.name ≡ neg_ℤ (pos (own * over_share unit level l)))) _ (lines p)
            (λ l k i. grown-number-over t own g (over_share unit level l) (over_share (t * unit) level l) (h.by l.name) r (grown-over t unit level l k.0.0.0 k.0.1) (k.1 i))
            (each-both _ _ (lines p) known (recursion_from_All _ (lines p) h.row.over)));
        lowest = λ k d each.
            h.row.lowest k (subst (λ (n : ℕ). k ∣ n) r.den_is (dvd-mul_right_of_dvd k d g))
            (All-from_recursion (λ l. (IsIn (place_of l.name Under) at → ⊥) → (IsIn (place_of l.name Over) at → ⊥) → k ∣ unsigned_abs (h.by l.name)) (lines p)
            (each-impl (λ l. (IsIn (place_of l.name Under) at → ⊥) → (IsIn (place_of l.name Over) at → ⊥) → k ∣ unsigned_abs (pos (t / g) *ℤ h.by l.name)) _ (lines p)
            (λ l e u o. factor-left t own g k (unsigned_abs (h.by l.name)) r d (subst (λ (n : ℕ). k ∣ n) (unsigned_abs-mul (pos (t / g)) (h.by l.name)) (e u o)))
            (recursion_from_All _ (lines p) each)));
      };
      outside = All-from_recursion (λ l. IsOutsideLine at l.name → pos (t / g) *ℤ h.by l.name ≡ pos (t / g) *ℤ number l.name) (lines p)
          (each-impl (λ l. IsOutsideLine at l.name → h.by l.name ≡ number l.name) _ (lines p) (λ l e out. ap (λ (z : ℤ). pos (t / g) *ℤ z) (e out)) (recursion_from_All _ (lines p) h.outside));
    }

-- ---- lists of lines, one of which gets its weight

pub each-before : (name : RowName) (P Q : Line → Type 0) (ls ms : List Line) → ((l m : Line) → IsLineBefore name l m → P l → Q m) → AreLinesBefore name ls ms → Each P ls → Each Q ms
each-before name P Q [] [] f are h = tt
each-before name P Q [] (m ∷ ms) f are h = absurd are
each-before name P Q (l ∷ ls) [] f are h = absurd are
each-before name P Q (l ∷ ls) (m ∷ ms) f are h = (f l m are.0 h.0, each-before name P Q ls ms f are.1 h.1)

pub each-after : (name : RowName) (P Q : Line → Type 0) (ls ms : List Line) → ((l m : Line) → IsLineBefore name l m → Q m → P l) → AreLinesBefore name ls ms → Each Q ms → Each P ls
each-after name P Q [] [] f are h = tt
each-after name P Q [] (m ∷ ms) f are h = absurd are
each-after name P Q (l ∷ ls) [] f are h = absurd are
each-after name P Q (l ∷ ls) (m ∷ ms) f are h = (f l m are.0 h.0, each-after name P Q ls ms f are.1 h.1)

pub sum-before : (name : RowName) (f g : Line → ℤ) (ls ms : List Line) → ((l m : Line) → IsLineBefore name l m → f l ≡ g m) → AreLinesBefore name ls ms → sum_of f ls ≡ sum_of g ms
sum-before name f g [] [] e are = refl
sum-before name f g [] (m ∷ ms) e are = absurd are
sum-before name f g (l ∷ ls) [] e are = absurd are
sum-before name f g (l ∷ ls) (m ∷ ms) e are = ap₂ ◌+ℤ◌ (e l m are.0) (sum-before name f g ls ms e are.1)

pub not-weight-back : (name : RowName) (P : Line → Type 0) (l m : Line) → (P m → P (weightless m)) → IsLineBefore name l m → P m → P l
not-weight-back name P l m f (inl e) h = subst P (sym e.0) h
not-weight-back name P l m f (inr e) h = subst P (sym e.0) (f h)

pub weightless-none : (level : ℕ) (m : Line) → weight_at (weightless m) level ≡ 0
weightless-none level m = no-weight-left (nat_eq m.level level)

-- ---- the unit

times-more : (k unit w next : ℕ) → k ∣ unit * w → unit ∣ next → k ∣ next * w
times-more k unit w next d e = dvd_trans k d (mul-dvd-mul_right unit e w)

-- what is asked of the joining line
abbrev Joins : RowName → ℕ → ℕ → ℕ → Line → Type 0
Joins name level divisor share l = l.name ≡ name → (l.level ≡ level) × IsGcd l.scale l.weight divisor × (l.scale / divisor ≡ share)

own-whole : (level divisor share n : ℕ) (m : Line) → 0 < m.scale → (m.level ≡ level) × IsGcd m.scale m.weight divisor × (m.scale / divisor ≡ share) → share ∣ n → m.scale ∣ n * weight_at m level
own-whole level divisor share n m above h d =
    subst (λ (w : ℕ). m.scale ∣ n * w) (sym (own_weight m level h.0))
    (grown n m.weight m.scale divisor (reduces m.weight m.scale divisor above (IsGcd-swap m.scale m.weight divisor h.1)) (subst (λ (s : ℕ). s ∣ n) (sym h.2) d))

own-share : (level divisor share n : ℕ) (m : Line) → 0 < m.scale → (m.level ≡ level) × IsGcd m.scale m.weight divisor × (m.scale / divisor ≡ share) → m.scale ∣ n * weight_at m level → share ∣ n
own-share level divisor share n m above h d =
    subst (λ (s : ℕ). s ∣ n) h.2
    (shrunk n m.weight m.scale divisor (reduces m.weight m.scale divisor above (IsGcd-swap m.scale m.weight divisor h.1)) (subst (λ (w : ℕ). m.scale ∣ n * w) (own_weight m level h.0) d))

whole-joined : (name : RowName) (level unit divisor share next : ℕ) (l m : Line) → unit ∣ next → share ∣ next → IsLineBefore name l m → l.scale ∣ unit * weight_at l level → (0 < m.scale) × Joins name level divisor share m → m.scale ∣ next * weight_at m level
whole-joined name level unit divisor share next l m du ds (inl e) d h = times-more m.scale unit (weight_at m level) next (subst (λ (k : Line). k.scale ∣ unit * weight_at k level) e.0 d) du
whole-joined name level unit divisor share next l m du ds (inr e) d h = own-whole level divisor share next m h.0 (h.1 e.1) ds

whole-back : (name : RowName) (level n : ℕ) (l m : Line) → IsLineBefore name l m → m.scale ∣ n * weight_at m level → l.scale ∣ n * weight_at l level
whole-back name level n l m (inl e) d = subst (λ (k : Line). k.scale ∣ n * weight_at k level) (sym e.0) d
whole-back name level n l m (inr e) d = subst (λ (k : Line). k.scale ∣ n * weight_at k level) (sym e.0) (whole-none m.scale n (weight_at (weightless m) level) (weightless-none level m))

-- one of the lines is the joining one, or none is
share-of : (name : RowName) (level divisor share n : ℕ) (ls ms : List Line) → AreLinesBefore name ls ms → Each (λ m. (0 < m.scale) × Joins name level divisor share m) ms → Each (λ m. m.scale ∣ n * weight_at m level) ms → Each (λ m. m.name ≢ name) ms ⊎ (share ∣ n)
share-of name level divisor share n [] [] are h d = inl tt
share-of name level divisor share n [] (m ∷ ms) are h d = absurd are
share-of name level divisor share n (l ∷ ls) [] are h d = absurd are
share-of name level divisor share n (l ∷ ls) (m ∷ ms) are h d = elim are.0 [
  | inr e ↦ inr (own-share level divisor share n m h.0.0 (h.0.1 e.1) d.0)
  | inl e ↦ elim (share-of name level divisor share n ls ms are.1 h.1 d.1) [
    | inl s ↦ inl (e.1, s)
    | inr s ↦ inr s
  ]
]

pub any-other : (name : RowName) (ls : List Line) → All (λ l. l.name ≢ name) ls → Any (λ l. l.name ≡ name) ls → ⊥
any-other name ls h (k, l, within, is, e) = subst (λ (m : Line). m.name ≢ name) is (h k l within) e

-- with its weight
pub joined_unit_is_unit : JoinedUnitIsUnit
joined_unit_is_unit p q level unit divisor share next name problem before some is joins mult =
    let there : Each (λ m. (0 < m.scale) × Joins name level divisor share m) (lines q) =
    each-impl (λ m. ((0 < m.scale) × (0 < m.den)) × Joins name level divisor share m) _ (lines q) (λ m h. (h.0.0, h.1)) (each-both _ _ (lines q) (recursion_from_All _ (lines q) problem) (recursion_from_All _ (lines q) joins)) in
    record {
      above = mult.above;
      whole = All-from_recursion (λ m. m.scale ∣ next * weight_at m level) (lines q)
          (each-impl (λ m. ((0 < m.scale) × Joins name level divisor share m) × ((0 < m.scale) × Joins name level divisor share m → m.scale ∣ next * weight_at m level)) _ (lines q) (λ m h. h.1 h.0)
          (each-both _ _ (lines q) there
          (each-before name (λ l. l.scale ∣ unit * weight_at l level) (λ m. (0 < m.scale) × Joins name level divisor share m → m.scale ∣ next * weight_at m level) (lines p) (lines q)
          (λ l m b d h. whole-joined name level unit divisor share next l m mult.left mult.right b d h) before (recursion_from_All _ (lines p) is.whole))));
      least = λ n all.
          let each : Each (λ m. m.scale ∣ n * weight_at m level) (lines q) = recursion_from_All _ (lines q) all in
          mult.least n
          (is.least n (All-from_recursion (λ l. l.scale ∣ n * weight_at l level) (lines p) (each-after name (λ l. l.scale ∣ n * weight_at l level) (λ m. m.scale ∣ n * weight_at m level) (lines p) (lines q) (λ l m b d. whole-back name level n l m b d) before each)))
          (elim (share-of name level divisor share n (lines p) (lines q) before there each) [
            | inl none ↦ absurd (any-other name (lines q) (All-from_recursion (λ m. m.name ≢ name) (lines q) none) some)
            | inr d ↦ d
          ]);
    }

-- ---- the line joins the level's row

-- what is known of a line before
record Before (at : List Mark) (level unit own : ℕ) (by number : RowName → ℤ) (l : Line) : Type 0 where
  inside : (side : Side) → IsIn (place_of l.name side) at → by l.name ≡ inside_number side level unit own l
  outside : IsOutsideLine at l.name → by l.name ≡ number l.name

-- and after
record After (at : List Mark) (name : RowName) (level unit own : ℕ) (by number : RowName → ℤ) (m : Line) : Type 0 where
  inside : (side : Side) → IsIn (place_of m.name side) at → m.name ≢ name → by m.name ≡ inside_number side level unit own m
  free : (side : Side) → IsIn (place_of m.name side) at → m.name ≡ name → by m.name ≡ pos 0
  outside : IsOutsideLine at m.name → by m.name ≡ number m.name

after-join : (at : List Mark) (name : RowName) (level unit own : ℕ) (by number : RowName → ℤ) (l m : Line) → IsLineBefore name l m → Before at level unit own by number l → After at name level unit own by number m
after-join at name level unit own by number l m (inl e) b =
    let h : Before at level unit own by number m = subst (Before at level unit own by number) e.0 b in
    record { inside = λ side i ne. h.inside side i; free = λ side i is. absurd (e.1 is); outside = h.outside }
after-join at name level unit own by number l m (inr e) b =
    let h : Before at level unit own by number (weightless m) = subst (Before at level unit own by number) e.0 b in
    record {
      inside = λ side i ne. absurd (ne e.1);
      free = λ side i is. h.inside side i ∙ free-number side level unit own (weightless m) (weightless-none level m);
      outside = h.outside;
    }

all-before : (p : Problem) (at : List Mark) (level unit own : ℕ) (number : RowName → ℤ) (h : HasLevelRow p at level unit own number) → Each (Before at level unit own h.by number) (lines p)
all-before p at level unit own number h =
    each-impl (λ l. ((side : Side) → IsIn (place_of l.name side) at → h.by l.name ≡ inside_number side level unit own l) × (IsOutsideLine at l.name → h.by l.name ≡ number l.name)) _ (lines p) (λ l k. record { inside = k.0; outside = k.1 })
    (each-both _ _ (lines p) (inside-numbers p at level unit own h.by h.row) (recursion_from_All _ (lines p) h.outside))

all-after : (p q : Problem) (at : List Mark) (name : RowName) (level unit own : ℕ) (number : RowName → ℤ) (h : HasLevelRow p at level unit own number) → AreLinesBefore name (lines p) (lines q) → Each (After at name level unit own h.by number) (lines q)
all-after p q at name level unit own number h before =
    each-before name (Before at level unit own h.by number) (After at name level unit own h.by number) (lines p) (lines q) (λ l m b k. after-join at name level unit own h.by number l m b k) before (all-before p at level unit own number h)

join-cancel : (p q : Problem) (name : RowName) (y : RowName → ℤ) → AreLinesBefore name (lines p) (lines q) → ((v : ℕ) → sum_of (λ l. y l.name *ℤ coefficient v l.form) (lines p) ≡ pos 0) → (v : ℕ) → sum_of (λ l. y l.name *ℤ coefficient v l.form) (lines q) ≡ pos 0
join-cancel p q name y before h v =
    sym (sum-before name (λ l. y l.name *ℤ coefficient v l.form) (λ l. y l.name *ℤ coefficient v l.form) (lines p) (lines q) (λ l m b. same-part name y v l m b) before) ∙ h v
  where
    same-part : (name : RowName) (y : RowName → ℤ) (v : ℕ) (l m : Line) → IsLineBefore name l m → y l.name *ℤ coefficient v l.form ≡ y m.name *ℤ coefficient v m.form
    same-part name y v l m (inl e) = ap (λ (k : Line). y k.name *ℤ coefficient v k.form) e.0
    same-part name y v l m (inr e) = ap (λ (k : Line). y k.name *ℤ coefficient v k.form) e.0

opposite-number : (n y i : ℤ) → n ≡ neg_ℤ i → y ≡ pos 0 → n ≡ y -ℤ i
opposite-number n y i e h = omega (arith, ints, e, h)

-- the number of a line inside after it has joined
joined-inside : (at : List Mark) (name : RowName) (side : Side) (level unit own size k : ℕ) (by number line : RowName → ℤ) (n m : ℤ) (l : Line) (other : Side) → ((x : Side) → IsIn (place_of name x) at → x ≡ side) → line name ≡ neg_ℤ (pos size) → m *ℤ pos size ≡ n *ℤ pos k
    → After at name level unit own by number l → ((x : Side) → IsIn (place_of l.name x) at → l.name ≢ name → line l.name ≡ pos 0) → (l.name ≡ name → n ≡ neg_ℤ (inside_number side level unit own l))
    → IsIn (place_of l.name other) at → sum_by k by m line l.name ≡ inside_number other level unit (k * own) l
joined-inside at name side level unit own size k by number line n m l other only is same a zeros joins i =
    (elim (cases_eq (place_of l.name Under) (place_of name Under)) [
      | inl e ↦
          let own_name : l.name ≡ name = same-name l.name name e in
          let one : other ≡ side = only other (subst (λ (x : RowName). IsIn (place_of x other) at) own_name i) in
          entered size k (by l.name) n m (line l.name) (inside_number other level unit own l) (ap line own_name ∙ is)
          (subst (λ (x : Side). n ≡ by l.name -ℤ inside_number x level unit own l) (sym one) (opposite-number n (by l.name) (inside_number side level unit own l) (joins own_name) (a.free other i own_name))) same
      | inr ne ↦
          let not_own : l.name ≢ name = λ e. ne (ap (λ (x : RowName). place_of x Under) e) in
          kept k (by l.name) m (line l.name) (inside_number other level unit own l) (zeros other i not_own) (a.inside other i not_own)
    ])
    ∙ times-inside other level unit own k l

pub joined_row_is_multiple : JoinedRowIsMultiple
joined_row_is_multiple p q at level unit own number name side size k line n m join joins f =
    let known = each-both _ _ (lines q) (all-after p q at name level unit own number join.row join.before) (each-both _ _ (lines q) (pivot-zeros q at name name size line join.line_is) (recursion_from_All _ (lines q) joins)) in (
      sum_by k join.row.by m line,
      record {
        own_positive = mul-pos f.above join.row.row.own_positive;
        cancel = both-cancel q (pos k) m join.row.by line (join-cancel p q name join.row.by join.before join.row.row.cancel) join.line_is.cancel;
        under = All-from_recursion (λ l. IsIn (place_of l.name Under) at → sum_by k join.row.by m line l.name ≡ pos (k * own * under_share unit level l)) (lines q)
            (each-impl _ _ (lines q) (λ l h i. joined-inside at name side level unit own size k join.row.by number line n m l Under join.no_other join.line_is.enter_is f.same h.0 h.1.0 h.1.1 i) known);
        over = All-from_recursion (λ l. IsIn (place_of l.name Over) at → sum_by k join.row.by m line l.name ≡ neg_ℤ (pos (k * own * over_share unit level l))) (lines q)
            (each-impl _ _ (lines q) (λ l h i. joined-inside at name side level unit own size k join.row.by number line n m l Over join.no_other join.line_is.enter_is f.same h.0 h.1.0 h.1.1 i) known);
      },
      All-from_recursion (λ l. IsOutsideLine at l.name → sum_by k join.row.by m line l.name ≡ sum_by k number m line l.name) (lines q)
          (each-impl (After at name level unit own join.row.by number) _ (lines q) (λ l a out. ap (λ (z : ℤ). pos k *ℤ z +ℤ m *ℤ line l.name) (a.outside out)) (all-after p q at name level unit own number join.row join.before)),
    )

pub joined_row_is_row : JoinedRowIsRow
joined_row_is_row p q at level unit own number name side size k low line next n m join joins f d =
    let is = joined_row_is_multiple p q at level unit own number name side size k line n m join joins f in
    divided_row_is_row q at level unit (k * own) low is.0 next is.1 (divided-same q at (k * own) low (sum_by k number m line) is.0 next is.2 d)

pub free_row_changes_nothing : FreeRowChangesNothing
free_row_changes_nothing p q at level unit own number name side size line join joins =
    joined_row_is_row p q at level unit own number name side size 1 own line number (pos 0) (pos 0) join joins
    (record { above = omega arith; same = zero-mul_ℤ (pos size) ∙ sym (zero-mul_ℤ (pos 1)) })
    (record {
      factor = 1;
      above = omega arith;
      own_is = refl;
      same = All-from_recursion (λ l. IsOutsideLine at l.name → pos 1 *ℤ number l.name ≡ sum_by 1 number (pos 0) line l.name) (lines q)
          (each-of (λ l. IsOutsideLine at l.name → pos 1 *ℤ number l.name ≡ sum_by 1 number (pos 0) line l.name) (lines q)
          (λ l out. (let h : pos 1 *ℤ number l.name ≡ number l.name = omega (arith, ints) in h) ∙ sym (one-and-none (number l.name) (line l.name))));
      lowest = λ k d each.
          join.row.row.lowest k d
          (All-from_recursion (λ l. (IsIn (place_of l.name Under) at → ⊥) → (IsIn (place_of l.name Over) at → ⊥) → k ∣ unsigned_abs (join.row.by l.name)) (lines p)
          (each-impl (λ l. (IsOutsideLine at l.name → k ∣ unsigned_abs (number l.name)) × (IsOutsideLine at l.name → join.row.by l.name ≡ number l.name)) _ (lines p)
          (λ l h u o. subst (λ (z : ℤ). k ∣ unsigned_abs z) (sym (h.1 (record { under = u; over = o }))) (h.0 (record { under = u; over = o })))
          (each-both _ _ (lines p)
          (each-after name (λ l. IsOutsideLine at l.name → k ∣ unsigned_abs (number l.name)) (λ m. IsOutsideLine at m.name → k ∣ unsigned_abs (number m.name)) (lines p) (lines q)
          (λ l m b h. not-weight-back name (λ (x : Line). IsOutsideLine at x.name → k ∣ unsigned_abs (number x.name)) l m (λ t. t) b h) join.before (recursion_from_All _ (lines q) each))
          (recursion_from_All _ (lines p) join.row.outside))));
    })
