-- Fronts of columns.
use Rattle.std.proofs.Common.{◌≡◌, ◌∙◌, ◌⊎◌, ℕ, zero, suc, ◌*◌, ◌<◌, List, [], ◌∷◌, ℤ, pos, ◌+ℤ◌, ◌-ℤ◌, ◌*ℤ◌, ◌<ℤ◌, ◌≤ℤ◌, refl, sym, ap, subst, arith, inl, inr, All, Any, mul-pos}
use Rattle.std.specs.List.{AllByRecursion as Each}
use Rattle.std.specs.Int.{◌∣◌}
use Rattle.std.proofs.lemmas.Bool.{cases_Bool}
use Rattle.std.proofs.lemmas.List.Elements.{All-from_recursion, recursion_from_All}
use borrow.Author.Differences.{ints}
use Rattle.frac_core.proofs.Integers.{mul-add_left, mul-sub_left, mul-zero_ℤ, mul_assoc_ℤ, mul_left_comm_ℤ, mul_not_negative, sign_cases, zero_from_mul}
use Rattle.problem_core.specs.declared.parts.Mark.{Mark}
use Rattle.problem_core.specs.declared.parts.Side.{Side}
use Rattle.problem_core.specs.declared.parts.Side.TheVariants.{Under, Over}
use Rattle.problem_core.specs.declared.parts.RowName.{RowName}
use Rattle.problem_core.specs.Layout.{IsProblem, Line, Problem, lines}
use Rattle.problem_core.specs.Kept.{IsWhole}
use Rattle.problem_core.specs.Certificates.{IsLexNonnegative, Multipliers, weight_at}
use Rattle.problem_core.specs.Corners.{AreMultipliersAt, IsIn, IsLexNegative, column, marks_of, place, place_of}
use Rattle.problem_core.specs.Rays.{HasRays}
use Rattle.problem_core.proofs.Corners.CornerFacts.{is_place}
use Rattle.problem_core.proofs.Forms.{each-impl, each-both}
use Rattle.problem_core.proofs.Wholes.{whole-IsProblem}
use Rattle.corner_laws.specs.Units.{over_share, under_share}
use Rattle.corner_laws.proofs.Swaps.ColumnsStay.{each_marks, column-alike as columns-multiple}
use Rattle.corner_laws.proofs.Counting.{IsIn-from_is_place}
use Rattle.corner_laws.proofs.LevelCosts.LevelSizes.{no-over, no-under}
use Rattle.corner_laws.proofs.LevelCosts.Unique.{multipliers_same}
use Rattle.corner_laws.proofs.WrittenValues.{contains_each}
use Rattle.corner_laws.proofs.ZeroColumns.{not-in}
use Rattle.corner_lines.specs.LineEquations.{IsOutsideLine}
use Rattle.corner_lines.specs.Levels.LevelRows.{inside_number, reduced_number}
use Rattle.corner_lines.specs.Fronts.{AlikeCostsKeepSign, AlikeFrontsAreFronts, AreAlike, AreLevelRows, IsFront, NegativeFrontIsNegative, NoFrontIsNot, NoNegativeFronts, PositiveFrontIsNot, ReducedElsewhere, Rows, costs_of}
use Rattle.corner_lines.proofs.LevelRows.LevelExchanges.{by-sides, inside-numbers}
use Rattle.corner_lines.proofs.Costs.LevelCosts.{column-is, reduced-none}
use Rattle.frac_core.proofs.Numbers.{low-times as times-negative, zero-up as zero-fits, no-product as no-share, signed-not-zero as not_zero, up-from as sign-from}

-- ---- reduced costs where the line is not of the level

pub reduced_elsewhere : ReducedElsewhere
reduced_elsewhere Under level unit own y l ne = let e = no-share own (under_share unit level l) (no-under unit level l ne) in let h : pos (own * under_share unit level l) ≡ pos 0 = ap pos e in omega (arith, ints, h)
reduced_elsewhere Over level unit own y l ne = let e = no-share own (over_share unit level l) (no-over unit level l ne) in let h : pos (own * over_share unit level l) ≡ pos 0 = ap pos e in omega (arith, ints, h)

-- ---- the multipliers of a corner

abbrev pub multipliers : (p : Problem) (at : List Mark) (rows : Rows) → AreLevelRows p at rows → Multipliers
multipliers p at rows are = record { scale = λ level. rows.own level * rows.unit level; times = λ level name. (are level).1.by name }

-- what is known of a line at a level
record Known (p : Problem) (at : List Mark) (rows : Rows) (are : AreLevelRows p at rows) (level : ℕ) (l : Line) : Type 0 where
  columns : (side : Side) → column (multipliers p at rows are) side l level ≡ pos l.scale *ℤ reduced_number side level (rows.unit level) (rows.own level) ((are level).1.by l.name) l
  inside : (side : Side) → IsIn (place_of l.name side) at → (are level).1.by l.name ≡ inside_number side level (rows.unit level) (rows.own level) l
  outside : IsOutsideLine at l.name → (are level).1.by l.name ≡ rows.number level l.name
  scale_above : 0 < l.scale

column-of : (p : Problem) (at : List Mark) (rows : Rows) (are : AreLevelRows p at rows) (level : ℕ) (l : Line) (side : Side) → l.scale ∣ rows.unit level * weight_at l level
    → column (multipliers p at rows are) side l level ≡ pos l.scale *ℤ reduced_number side level (rows.unit level) (rows.own level) ((are level).1.by l.name) l
column-of p at rows are level l Under d = column-is Under level (rows.unit level) (rows.own level) (are level).1.by l d
column-of p at rows are level l Over d = column-is Over level (rows.unit level) (rows.own level) (are level).1.by l d

known : (p : Problem) (at : List Mark) (rows : Rows) (are : AreLevelRows p at rows) (level : ℕ) → IsProblem p → Each (Known p at rows are level) (lines p)
known p at rows are level problem =
    each-impl (λ l. ((l.scale ∣ rows.unit level * weight_at l level) × ((0 < l.scale) × (0 < l.den))) × (((side : Side) → IsIn (place_of l.name side) at → (are level).1.by l.name ≡ inside_number side level (rows.unit level) (rows.own level) l) × (IsOutsideLine at l.name → (are level).1.by l.name ≡ rows.number level l.name))) _ (lines p)
    (λ l h. record { columns = λ side. column-of p at rows are level l side h.0.0; inside = h.1.0; outside = h.1.1; scale_above = h.0.1.0 })
    (each-both _ _ (lines p) (each-both _ _ (lines p) (recursion_from_All _ (lines p) (are level).0.whole) (recursion_from_All _ (lines p) problem))
    (each-both _ _ (lines p) (inside-numbers p at level (rows.unit level) (rows.own level) (are level).1.by (are level).1.row) (recursion_from_All _ (lines p) (are level).1.outside)))

-- what holds of each line at each level
each-level : (P : ℕ → Line → Type 0) (ls : List Line) → ((level : ℕ) → Each (P level) ls) → Each (λ l. (level : ℕ) → P level l) ls
each-level P [] h = tt
each-level P (l ∷ ls) h = ((λ level. (h level).0), each-level P ls (λ level. (h level).1))

all-levels : (p : Problem) (at : List Mark) (rows : Rows) (are : AreLevelRows p at rows) → IsProblem p → Each (λ l. (level : ℕ) → Known p at rows are level l) (lines p)
all-levels p at rows are problem = each-level (Known p at rows are) (lines p) (λ level. known p at rows are level problem)

pub are-multipliers : (p : Problem) (at : List Mark) (rows : Rows) (are : AreLevelRows p at rows) → IsProblem p → AreMultipliersAt p at (multipliers p at rows are)
are-multipliers p at rows are problem = record {
  scales = λ level. mul-pos (are level).1.row.own_positive (are level).0.above;
  cancel = λ level v. (are level).1.row.cancel v;
  inside_zero = λ side.
      All-from_recursion (λ l. IsIn (place_of l.name side) at → (level : ℕ) → column (multipliers p at rows are) side l level ≡ pos 0) (lines p)
      (each-impl (λ l. (level : ℕ) → Known p at rows are level l) _ (lines p)
      (λ l k i level. (k level).columns side ∙ ap (λ (z : ℤ). pos l.scale *ℤ z) (reduced-none side level (rows.unit level) (rows.own level) ((are level).1.by l.name) l ((k level).inside side i)) ∙ mul-zero_ℤ (pos l.scale))
      (all-levels p at rows are problem));
}

-- an outside mark's column is its costs, times the line's scale
outer-column : (p : Problem) (at : List Mark) (rows : Rows) (are : AreLevelRows p at rows) (l : Line) (side : Side) (level : ℕ) → Known p at rows are level l → IsOutsideLine at l.name → column (multipliers p at rows are) side l level ≡ pos l.scale *ℤ costs_of rows side l level
outer-column p at rows are l side level k out = k.columns side ∙ ap (λ (y : ℤ). pos l.scale *ℤ reduced_number side level (rows.unit level) (rows.own level) y l) (k.outside out)

-- ---- one line

each-any : (Q : Line → Type 0) (ls : List Line) → Each (λ l. Q l → Any Q ls) ls
each-any Q [] = tt
each-any Q (l ∷ ls) = (
  (λ q. (0, l, omega arith, refl, q)),
  each-impl (λ k. Q k → Any Q ls) (λ k. Q k → Any Q (l ∷ ls)) ls (λ k f q. let a = f q in (suc a.0, a.1, omega (arith, a.2), a.3, a.4)) (each-any Q ls),
)

-- a front below 0
pub negative_front_is_negative : NegativeFrontIsNegative
negative_front_is_negative p at rows mark level front problem are is out fronts low = (
  multipliers p at rows are,
  are-multipliers p at rows are problem,
  contains_each (λ c. c ≡ place mark → Any (λ l. (place_of l.name mark.side ≡ place mark) × IsLexNegative (column (multipliers p at rows are) mark.side l)) (lines p)) (marks_of (lines p)) (place mark)
      (each_marks (λ c. c ≡ place mark → Any (λ l. (place_of l.name mark.side ≡ place mark) × IsLexNegative (column (multipliers p at rows are) mark.side l)) (lines p)) (lines p)
      (each-impl (λ l. ((level : ℕ) → Known p at rows are level l) × ((l.name ≡ mark.row → IsFront (costs_of rows mark.side l) level front) × ((place_of l.name mark.side ≡ place mark) × IsLexNegative (column (multipliers p at rows are) mark.side l) → Any (λ l. (place_of l.name mark.side ≡ place mark) × IsLexNegative (column (multipliers p at rows are) mark.side l)) (lines p)))) _ (lines p)
      (λ l h e. here l Under h.0 h.1.0 h.1.1 e) all)
      (each-impl (λ l. ((level : ℕ) → Known p at rows are level l) × ((l.name ≡ mark.row → IsFront (costs_of rows mark.side l) level front) × ((place_of l.name mark.side ≡ place mark) × IsLexNegative (column (multipliers p at rows are) mark.side l) → Any (λ l. (place_of l.name mark.side ≡ place mark) × IsLexNegative (column (multipliers p at rows are) mark.side l)) (lines p)))) _ (lines p)
      (λ l h e. here l Over h.0 h.1.0 h.1.1 e) all)) is refl,
)
  where
    all : Each (λ l. ((level : ℕ) → Known p at rows are level l) × ((l.name ≡ mark.row → IsFront (costs_of rows mark.side l) level front) × ((place_of l.name mark.side ≡ place mark) × IsLexNegative (column (multipliers p at rows are) mark.side l) → Any (λ l. (place_of l.name mark.side ≡ place mark) × IsLexNegative (column (multipliers p at rows are) mark.side l)) (lines p)))) (lines p)
    all = each-both _ _ (lines p) (all-levels p at rows are problem) (each-both _ _ (lines p) (recursion_from_All _ (lines p) fronts) (each-any (λ l. (place_of l.name mark.side ≡ place mark) × IsLexNegative (column (multipliers p at rows are) mark.side l)) (lines p)))

    here : (l : Line) (x : Side) → ((level : ℕ) → Known p at rows are level l) → (l.name ≡ mark.row → IsFront (costs_of rows mark.side l) level front) → ((place_of l.name mark.side ≡ place mark) × IsLexNegative (column (multipliers p at rows are) mark.side l) → Any (λ l. (place_of l.name mark.side ≡ place mark) × IsLexNegative (column (multipliers p at rows are) mark.side l)) (lines p))
        → place_of l.name x ≡ place mark → Any (λ l. (place_of l.name mark.side ≡ place mark) × IsLexNegative (column (multipliers p at rows are) mark.side l)) (lines p)
    here l x k f found e =
        let name : l.name ≡ mark.row = (by-sides l.name mark.row x mark.side e).0 in
        let front_is = f name in
        let outer : IsOutsideLine at l.name = subst (λ (n : RowName). IsOutsideLine at n) (sym name) out in
        found (
          ap (λ (n : RowName). place_of n mark.side) name,
          (
            level,
            λ j less. outer-column p at rows are l mark.side j (k j) outer ∙ ap (λ (z : ℤ). pos l.scale *ℤ z) (front_is.before j less) ∙ mul-zero_ℤ (pos l.scale),
            subst (λ (z : ℤ). z <ℤ pos 0) (sym (outer-column p at rows are l mark.side level (k level) outer ∙ ap (λ (z : ℤ). pos l.scale *ℤ z) front_is.there)) (times-negative l.scale front (k level).scale_above low),
          ),
        )

-- ---- positive multiples

pub alike_costs_keep_sign : AlikeCostsKeepSign
alike_costs_keep_sign costs next alike positive level none =
    let a = alike level in
    let before : (k : ℕ) → k < level → costs k ≡ pos 0 = λ k less. let b = alike k in zero_from_mul b.right (costs k) b.right_positive (sym b.same ∙ ap (λ (z : ℤ). pos b.left *ℤ z) (none k less) ∙ mul-zero_ℤ (pos b.left)) in
    sign-from a.left (next level) a.left_positive (subst (λ (z : ℤ). pos 0 ≤ℤ z) (sym a.same) (mul_not_negative a.right (costs level) (positive level before)))

pub alike_fronts_are_fronts : AlikeFrontsAreFronts
alike_fronts_are_fronts costs next level front alike f =
    let a = alike level in (
      record {
        before = λ k less. let b = alike k in zero_from_mul b.left (next k) b.left_positive (b.same ∙ ap (λ (z : ℤ). pos b.right *ℤ z) (f.before k less) ∙ mul-zero_ℤ (pos b.right));
        there = refl;
        some = λ e. f.some (sym f.there ∙ zero_from_mul a.right (costs level) a.right_positive (sym a.same ∙ ap (λ (z : ℤ). pos a.left *ℤ z) e ∙ mul-zero_ℤ (pos a.left)));
      },
      record { left = a.left; right = a.right; left_positive = a.left_positive; right_positive = a.right_positive; same = a.same ∙ ap (λ (z : ℤ). pos a.right *ℤ z) f.there },
    )

-- ---- the columns by any multipliers

pub multiple-under : (k s t w : ℕ) (y z : ℤ) → pos s *ℤ z ≡ pos t *ℤ y → pos s *ℤ (pos (t * w) -ℤ pos k *ℤ z) ≡ pos t *ℤ (pos (s * w) -ℤ pos k *ℤ y)
multiple-under k s t w y z e =
    let a : pos s *ℤ (pos (t * w) -ℤ pos k *ℤ z) ≡ pos s *ℤ pos (t * w) -ℤ pos s *ℤ (pos k *ℤ z) = mul-sub_left (pos s) (pos (t * w)) (pos k *ℤ z) in
    let b : pos t *ℤ (pos (s * w) -ℤ pos k *ℤ y) ≡ pos t *ℤ pos (s * w) -ℤ pos t *ℤ (pos k *ℤ y) = mul-sub_left (pos t) (pos (s * w)) (pos k *ℤ y) in
    let c : pos s *ℤ (pos k *ℤ z) ≡ pos t *ℤ (pos k *ℤ y) = mul_left_comm_ℤ (pos s) (pos k) z ∙ ap (λ (x : ℤ). pos k *ℤ x) e ∙ mul_left_comm_ℤ (pos k) (pos t) y in
    let d : pos s *ℤ pos (t * w) ≡ pos t *ℤ pos (s * w) = ap pos (omega arith) in
    omega (arith, ints, a, b, c, d)

pub multiple-over : (k s t w : ℕ) (y z : ℤ) → pos s *ℤ z ≡ pos t *ℤ y → pos s *ℤ (pos (t * w) +ℤ pos k *ℤ z) ≡ pos t *ℤ (pos (s * w) +ℤ pos k *ℤ y)
multiple-over k s t w y z e =
    let a : pos s *ℤ (pos (t * w) +ℤ pos k *ℤ z) ≡ pos s *ℤ pos (t * w) +ℤ pos s *ℤ (pos k *ℤ z) = mul-add_left (pos s) (pos (t * w)) (pos k *ℤ z) in
    let b : pos t *ℤ (pos (s * w) +ℤ pos k *ℤ y) ≡ pos t *ℤ pos (s * w) +ℤ pos t *ℤ (pos k *ℤ y) = mul-add_left (pos t) (pos (s * w)) (pos k *ℤ y) in
    let c : pos s *ℤ (pos k *ℤ z) ≡ pos t *ℤ (pos k *ℤ y) = mul_left_comm_ℤ (pos s) (pos k) z ∙ ap (λ (x : ℤ). pos k *ℤ x) e ∙ mul_left_comm_ℤ (pos k) (pos t) y in
    let d : pos s *ℤ pos (t * w) ≡ pos t *ℤ pos (s * w) = ap pos (omega arith) in
    omega (arith, ints, a, b, c, d)

-- the column by other multipliers, as a multiple of the costs
column-alike : (p : Problem) (at : List Mark) (rows : Rows) (are : AreLevelRows p at rows) (m : Multipliers) (l : Line) (side : Side) (level : ℕ) → 0 < m.scale level → 0 < rows.own level * rows.unit level → Known p at rows are level l → IsOutsideLine at l.name
    → pos (rows.own level * rows.unit level) *ℤ m.times level l.name ≡ pos (m.scale level) *ℤ (are level).1.by l.name → AreAlike (costs_of rows side l level) (column m side l level)
column-alike p at rows are m l side level up up0 k out e = record {
  left = rows.own level * rows.unit level;
  right = m.scale level * l.scale;
  left_positive = up0;
  right_positive = mul-pos up k.scale_above;
  same = columns-multiple (multipliers p at rows are) m side l level e ∙ ap (λ (z : ℤ). pos (m.scale level) *ℤ z) (outer-column p at rows are l side level k out) ∙ sym (mul_assoc_ℤ (pos (m.scale level)) (pos l.scale) (costs_of rows side l level));
}

-- where an outside mark's costs are not negative, nor is its column by any multipliers
any-multipliers : (p : Problem) (at : List Mark) (rows : Rows) (mark : Mark) (m : Multipliers) → IsWhole p → HasRays p at → AreLevelRows p at rows → IsOutsideLine at mark.row → All (λ l. l.name ≡ mark.row → IsLexNonnegative (costs_of rows mark.side l)) (lines p)
    → AreMultipliersAt p at m → All (λ l. l.name ≡ mark.row → IsLexNonnegative (column m mark.side l)) (lines p)
any-multipliers p at rows mark m whole rays are out costs is =
    All-from_recursion (λ l. l.name ≡ mark.row → IsLexNonnegative (column m mark.side l)) (lines p)
    (each-impl (λ l. ((level : ℕ) → Known p at rows are level l) × ((l.name ≡ mark.row → IsLexNonnegative (costs_of rows mark.side l)) × ((level : ℕ) → pos (rows.own level * rows.unit level) *ℤ m.times level l.name ≡ pos (m.scale level) *ℤ (are level).1.by l.name))) _ (lines p)
    (λ l h e.
    alike_costs_keep_sign (costs_of rows mark.side l) (column m mark.side l)
    (λ level. column-alike p at rows are m l mark.side level (is.scales level) (mul-pos (are level).1.row.own_positive (are level).0.above) (h.0 level) (subst (λ (n : RowName). IsOutsideLine at n) (sym e) out) (h.1.1 level))
    (h.1.0 e))
    (each-both _ _ (lines p) (all-levels p at rows are (whole-IsProblem p whole))
    (each-both _ _ (lines p) (recursion_from_All _ (lines p) costs)
    (each-level (λ level l. pos (rows.own level * rows.unit level) *ℤ m.times level l.name ≡ pos (m.scale level) *ℤ (are level).1.by l.name) (lines p)
    (λ level. recursion_from_All _ (lines p) (multipliers_same p at (multipliers p at rows are) m level whole rays (are-multipliers p at rows are (whole-IsProblem p whole)) is))))))

-- a front above 0, or none
front-positive : (costs : ℕ → ℤ) (level : ℕ) (front : ℤ) → IsFront costs level front → pos 0 <ℤ front → IsLexNonnegative costs
front-positive costs level front f up k none = elim (sign_cases (costs k)) [
  | inl e ↦ omega (arith, ints, e)
  | inr (inl h) ↦ omega (arith, ints, h)
  | inr (inr h) ↦ elim (order k level) [
    | inl less ↦ absurd (let e = f.before k less in omega (arith, ints, h, e))
    | inr (inl same) ↦ absurd (let e = f.there in let g : costs k ≡ costs level = ap costs same in omega (arith, ints, h, e, g, up))
    | inr (inr more) ↦ absurd (let e = f.there in let g = none level more in omega (arith, ints, e, g, up))
  ]
]
  where
    order : (a b : ℕ) → (a < b) ⊎ ((a ≡ b) ⊎ (b < a))
    order zero zero = inr (inl refl)
    order zero (suc b) = inl (omega arith)
    order (suc a) zero = inr (inr (omega arith))
    order (suc a) (suc b) = elim (order a b) [
      | inl h ↦ inl (omega (arith, h))
      | inr (inl h) ↦ inr (inl (ap suc h))
      | inr (inr h) ↦ inr (inr (omega (arith, h)))
    ]

pub positive_front_is_not : PositiveFrontIsNot
positive_front_is_not p at rows mark level front m whole rays are out fronts up is =
    any-multipliers p at rows mark m whole rays are out
    (All-from_recursion (λ l. l.name ≡ mark.row → IsLexNonnegative (costs_of rows mark.side l)) (lines p)
    (each-impl (λ l. l.name ≡ mark.row → IsFront (costs_of rows mark.side l) level front) _ (lines p) (λ l h e. front-positive (costs_of rows mark.side l) level front (h e) up) (recursion_from_All _ (lines p) fronts))) is

pub no_front_is_not : NoFrontIsNot
no_front_is_not p at rows mark m whole rays are out fronts is =
    any-multipliers p at rows mark m whole rays are out
    (All-from_recursion (λ l. l.name ≡ mark.row → IsLexNonnegative (costs_of rows mark.side l)) (lines p)
    (each-impl (λ l. l.name ≡ mark.row → (level : ℕ) → costs_of rows mark.side l level ≡ pos 0) _ (lines p) (λ l h e level none. zero-fits (costs_of rows mark.side l level) (h e level)) (recursion_from_All _ (lines p) fronts))) is

-- ---- no negative front

inside-positive : (side inside : Side) (level unit own : ℕ) (y : ℤ) (l : Line) → y ≡ inside_number inside level unit own l → pos 0 ≤ℤ reduced_number side level unit own y l
inside-positive Under Under level unit own y l e = zero-fits (reduced_number Under level unit own y l) (reduced-none Under level unit own y l e)
inside-positive Under Over level unit own y l e = omega (arith, ints, e)
inside-positive Over Under level unit own y l e = omega (arith, ints, e)
inside-positive Over Over level unit own y l e = zero-fits (reduced_number Over level unit own y l) (reduced-none Over level unit own y l e)

scaled-positive : (k : ℕ) (f g : ℕ → ℤ) → 0 < k → ((level : ℕ) → g level ≡ pos k *ℤ f level) → IsLexNonnegative f → IsLexNonnegative g
scaled-positive k f g above e h = alike_costs_keep_sign f g (λ level. record { left = 1; right = k; left_positive = omega arith; right_positive = above; same = (let t : pos 1 *ℤ g level ≡ g level = omega (arith, ints) in t) ∙ e level }) h

outer-positive : (costs : ℕ → ℤ) → ((level : ℕ) (front : ℤ) → IsFront costs level front → pos 0 ≤ℤ front) → IsLexNonnegative costs
outer-positive costs h level none = elim (sign_cases (costs level)) [
  | inl e ↦ omega (arith, ints, e)
  | inr s ↦ h level (costs level) (record { before = none; there = refl; some = not_zero (costs level) s })
]

pub no_negative_fronts : NoNegativeFronts
no_negative_fronts p at rows problem are fronts = (
  multipliers p at rows are,
  are-multipliers p at rows are problem,
  λ side.
      All-from_recursion (λ l. IsLexNonnegative (column (multipliers p at rows are) side l)) (lines p)
      (each-impl (λ l. ((level : ℕ) → Known p at rows are level l) × (IsOutsideLine at l.name → (level : ℕ) (front : ℤ) → IsFront (costs_of rows side l) level front → pos 0 ≤ℤ front)) _ (lines p)
      (λ l h. line-positive l side h.0 h.1)
      (each-both _ _ (lines p) (all-levels p at rows are problem) (recursion_from_All _ (lines p) (fronts side)))),
)
  where
    inner : (l : Line) (side inside : Side) → ((level : ℕ) → Known p at rows are level l) → IsIn (place_of l.name inside) at → IsLexNonnegative (column (multipliers p at rows are) side l)
    inner l side inside k i = scaled-positive l.scale (λ level. reduced_number side level (rows.unit level) (rows.own level) ((are level).1.by l.name) l) (column (multipliers p at rows are) side l) (k 0).scale_above (λ level. (k level).columns side) (λ level none. inside-positive side inside level (rows.unit level) (rows.own level) ((are level).1.by l.name) l ((k level).inside inside i))

    line-positive : (l : Line) (side : Side) → ((level : ℕ) → Known p at rows are level l) → (IsOutsideLine at l.name → (level : ℕ) (front : ℤ) → IsFront (costs_of rows side l) level front → pos 0 ≤ℤ front) → IsLexNonnegative (column (multipliers p at rows are) side l)
    line-positive l side k f =
        elim (cases_Bool (is_place at (place_of l.name Under))) [
          | inl i ↦ inner l side Under k (IsIn-from_is_place (place_of l.name Under) at i)
          | inr a ↦ elim (cases_Bool (is_place at (place_of l.name Over))) [
            | inl i ↦ inner l side Over k (IsIn-from_is_place (place_of l.name Over) at i)
            | inr b ↦
                let out : IsOutsideLine at l.name = record { under = not-in at (place_of l.name Under) a; over = not-in at (place_of l.name Over) b } in
                scaled-positive l.scale (costs_of rows side l) (column (multipliers p at rows are) side l) (k 0).scale_above (λ level. outer-column p at rows are l side level (k level) out) (outer-positive (costs_of rows side l) (f out))
          ]
        ]
