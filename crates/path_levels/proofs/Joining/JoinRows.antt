-- The row of a level that a line has joined.
use Rattle.std.proofs.Common.{◌≡◌, ◌≢◌, ◌⊎◌, ◌∙◌, ℕ, zero, suc, ◌*◌, ◌/◌, ◌<◌, List, [], ◌∷◌, Bool, cond, length, get_or, ℤ, pos, ◌+ℤ◌, ◌*ℤ◌, neg_ℤ, unsigned_abs, refl, sym, ap, ap₂, subst, arith, inl, inr, All, Some, None, ne_eqb}
use Rattle.std.specs.declared.option.Option.{Option}
use Rattle.std.specs.Int.{IsGcd}
use Rattle.std.proofs.Math.Nat.{zero-div}
use Rattle.std.proofs.lemmas.List.{length-map}
use Rattle.std.proofs.lemmas.List.Elements.{All-from_recursion, recursion_from_All}
use Rattle.std.proofs.Math.IntN.{*ℤ_comm}
use Rattle.frac_core.proofs.Gauss.{Reduces, reduces, scaled}
use Rattle.frac_core.proofs.Integers.{mul_assoc_ℤ, mul-zero_ℤ, neg-neg, add-zero_ℤ, zero-mul_ℤ}
use Rattle.problem_core.specs.declared.parts.Mark.{Mark}
use Rattle.problem_core.specs.declared.parts.Side.{Side}
use Rattle.problem_core.specs.declared.parts.Side.TheVariants.{Under, Over}
use Rattle.problem_core.specs.declared.parts.Rel.{Rel}
use Rattle.problem_core.specs.declared.parts.Rel.TheVariants.{Eq, Le, Ge}
use Rattle.problem_core.specs.declared.parts.RowName.{RowName}
use Rattle.problem_core.specs.Layout.{Line, Problem, lines, coefficient, sum_of}
use Rattle.problem_core.specs.Certificates.{over_weight, under_weight}
use Rattle.problem_core.specs.Corners.{IsIn, place_of}
use Rattle.problem_core.specs.Levels.{HasNoLevelWriting}
use Rattle.problem_core.proofs.Forms.{mul-sum, sum-cong}
use Rattle.corner_laws.specs.Units.{IsLevelUnit, over_share, under_share}
use Rattle.corner_laws.proofs.LevelCosts.Unique.{same-name}
use Rattle.corner_lines.specs.LineEquations.{IsOutsideLine}
use Rattle.corner_lines.specs.Levels.LevelJoins.{AreLinesBefore, IsJoiningNumber, IsLineBefore, IsLevelJoin}
use Rattle.corner_lines.specs.Levels.LevelRows.{AreFactors, HasLevelRow, IsLevelMultiple, inside_number, line_numbers}
use Rattle.corner_lines.proofs.LevelRows.LevelDivided.{divided_row_is_row}
use Rattle.corner_lines.proofs.Costs.LevelFits.{unfit_multiple_has_no_writing}
use Rattle.corner_lines.proofs.LevelRows.LevelJoins.{each-before, grown_row_is_row, joined_row_is_multiple, joined_unit_is_unit, sum-before}
use Rattle.path_lines.specs.declared.table.Inside.{Inside}
use Rattle.path_lines.specs.Numbers.{AreLowest, AreUnfit, IsCombined}
use Rattle.path_lines.specs.Tables.{numbers_of}
use Rattle.path_lines.proofs.Arithmetic.NumbersOf.{numbers-combined}
use Rattle.path_levels.specs.declared.outline.LineFacts.{LineFacts}
use Rattle.path_levels.specs.declared.sums.LevelSum.{LevelSum}
use Rattle.path_levels.specs.Joins.{IsJoinedList, IsRise, IsWeightOf, counted_number}
use Rattle.path_levels.proofs.Joining.LineJoins.{IsCostOf, IsLineJoin}
use Rattle.path_levels.proofs.Joining.LineLists.{HasZeros, list_divided, list_unfit, numbers_before, zeros_divided}
use Rattle.corner_lines.proofs.LevelRows.Units.{positive_is}
use Rattle.corner_lines.proofs.LevelRows.OtherNumbers.{same-parts}
use Rattle.frac_core.proofs.Numbers.{zero-sum as zero-both, product-above as above-product, mul-neg as mul-opp}
use Rattle.problem_core.proofs.Lines.{own-weight as own_weight}

-- ---- what the line counts

weight-of : (rel : Rel) (w : ℕ) (f : LineFacts) (weight : ℤ) → f.under ≡ pos (under_weight rel w) → f.over ≡ pos (over_weight rel w) → IsWeightOf f weight → unsigned_abs weight ≡ w
weight-of Ge zero f weight u o h = ap unsigned_abs (h.over u ∙ o)
weight-of Ge (suc w) f weight u o h = ap unsigned_abs (h.under (λ e. some-not w (sym u ∙ e)) ∙ u)
  where
    some-not : (w : ℕ) → pos (suc w) ≡ pos 0 → ⊥
    some-not w e = absurd (omega (arith, ap unsigned_abs e))
weight-of Le w f weight u o h = ap unsigned_abs (h.over u ∙ o)
weight-of Eq zero f weight u o h = ap unsigned_abs (h.over u ∙ o)
weight-of Eq (suc w) f weight u o h = ap unsigned_abs (h.under (λ e. some-not w (sym u ∙ e)) ∙ u)
  where
    some-not : (w : ℕ) → pos (suc w) ≡ pos 0 → ⊥
    some-not w e = absurd (omega (arith, ap unsigned_abs e))

pub zero-over : (unit scale : ℕ) → unit * 0 / scale ≡ 0
zero-over unit scale = ap (λ (n : ℕ). n / scale) (let e : unit * 0 ≡ 0 = omega arith in e) ∙ zero-div scale

pub under-quotient : (rel : Rel) (unit w scale : ℕ) → under_weight rel (unit * w / scale) ≡ unit * under_weight rel w / scale
under-quotient Ge unit w scale = refl
under-quotient Eq unit w scale = refl
under-quotient Le unit w scale = sym (zero-over unit scale)

pub over-quotient : (rel : Rel) (unit w scale : ℕ) → over_weight rel (unit * w / scale) ≡ unit * over_weight rel w / scale
over-quotient Ge unit w scale = sym (zero-over unit scale)
over-quotient Eq unit w scale = refl
over-quotient Le unit w scale = refl

pub under_counts : (l : Line) (f : LineFacts) (level unit : ℕ) → l.level ≡ level → IsCostOf l f → under_share unit level l ≡ unit * unsigned_abs f.under / unsigned_abs f.scale
under_counts l f level unit here is =
    ap (λ (w : ℕ). under_weight l.rel (unit * w / l.scale)) (own_weight l level here) ∙ under-quotient l.rel unit l.weight l.scale
    ∙ ap₂ (λ (x y : ℕ). unit * x / y) (sym (ap unsigned_abs is.under)) (sym (ap unsigned_abs is.scale))

pub over_counts : (l : Line) (f : LineFacts) (level unit : ℕ) → l.level ≡ level → IsCostOf l f → over_share unit level l ≡ unit * unsigned_abs f.over / unsigned_abs f.scale
over_counts l f level unit here is =
    ap (λ (w : ℕ). over_weight l.rel (unit * w / l.scale)) (own_weight l level here) ∙ over-quotient l.rel unit l.weight l.scale
    ∙ ap₂ (λ (x y : ℕ). unit * x / y) (sym (ap unsigned_abs is.over)) (sym (ap unsigned_abs is.scale))

pub counted_there : (side : Side) (l : Line) (f : LineFacts) (level unit own : ℕ) → l.level ≡ level → IsCostOf l f → counted_number side f unit own ≡ neg_ℤ (inside_number side level unit own l)
counted_there Under l f level unit own here is = ap (λ (n : ℕ). neg_ℤ (pos (own * n))) (sym (under_counts l f level unit here is))
counted_there Over l f level unit own here is = ap (λ (n : ℕ). pos (own * n)) (sym (over_counts l f level unit here is)) ∙ sym (neg-neg (pos (own * over_share unit level l)))

-- `own` as often
pub counted_times : (side : Side) (f : LineFacts) (unit g own : ℕ) → counted_number side f unit (own * g) ≡ pos g *ℤ counted_number side f unit own
counted_times Under f unit g own = ap (λ (n : ℕ). neg_ℤ (pos n)) (let s : ℕ = unit * unsigned_abs f.under / unsigned_abs f.scale in let e : own * g * (unit * unsigned_abs f.under / unsigned_abs f.scale) ≡ g * (own * (unit * unsigned_abs f.under / unsigned_abs f.scale)) = regroup own g (unit * unsigned_abs f.under / unsigned_abs f.scale) in e) ∙ sym (mul-opp (pos g) (pos (own * (unit * unsigned_abs f.under / unsigned_abs f.scale))))
  where
    regroup : (own g s : ℕ) → own * g * s ≡ g * (own * s)
    regroup own g s = omega arith
counted_times Over f unit g own = ap pos (regroup own g (unit * unsigned_abs f.over / unsigned_abs f.scale))
  where
    regroup : (own g s : ℕ) → own * g * s ≡ g * (own * s)
    regroup own g s = omega arith

-- ---- what is there before

pub record IsStart (p q : Problem) (at : List Mark) (level : ℕ) (name : RowName) (old : LevelSum) (f : LineFacts) (times : ℕ) : Type 0 where
  pub unit : ℕ
  pub own : ℕ
  pub g : ℕ
  pub unit_is : unsigned_abs old.unit ≡ unit
  pub own_is : old.own ≡ pos own
  pub gcd : IsGcd times own g
  pub reduced : Reduces times own g
  pub row : HasLevelRow p at level (times * unit) (own / g) (λ n. pos (times / g) *ℤ numbers_of (lines p) old.by.items n)
  pub next_unit : IsLevelUnit q level (times * unit)

pub started : (p q : Problem) (at : List Mark) (level : ℕ) (name : RowName) (old : LevelSum) (f : LineFacts) (kept : Option Inside) (times : ℕ) → IsLineJoin p q at level name old f kept → IsRise f (unsigned_abs old.unit) times → IsStart p q at level name old f times
started p q at level name old f kept times j rise =
    let d = scaled (unsigned_abs old.own) times (unsigned_abs old.own) (omega arith) in
    let above : 0 < unsigned_abs old.own = j.old_is.there.row.row.own_positive in
    record {
      unit = unsigned_abs old.unit;
      own = unsigned_abs old.own;
      g = d.0;
      unit_is = refl;
      own_is = positive_is old.own j.old_is.sized.own_above;
      gcd = d.1;
      reduced = reduces times (unsigned_abs old.own) d.0 above d.1;
      row = grown_row_is_row p at level (unsigned_abs old.unit) (unsigned_abs old.own) times d.0 (numbers_of (lines p) old.by.items) j.sound_before.problem j.old_is.there.unit_is rise.above d.1 j.old_is.there.row;
      next_unit = joined_unit_is_unit p q level (unsigned_abs old.unit) rise.divisor (unsigned_abs f.scale / rise.divisor) (times * unsigned_abs old.unit) name j.sound.problem j.before j.named j.old_is.there.unit_is
          (λ i e within same. let k = j.facts_are i e within same in (
            k.0,
            subst (λ (n : ℕ). IsGcd n (get_or (lines q) i e).weight rise.divisor) (ap unsigned_abs k.1.scale)
                (subst (λ (n : ℕ). IsGcd (unsigned_abs f.scale) n rise.divisor) (weight-of (get_or (lines q) i e).rel (get_or (lines q) i e).weight f rise.weight k.1.under k.1.over rise.weight_is) rise.divides),
            ap (λ (n : ℕ). n / rise.divisor) (sym (ap unsigned_abs k.1.scale)),
          ))
          rise.least;
    }

-- ---- an inside line

-- an outside line is another one
other-line : (at : List Mark) (name : RowName) (side : Side) (l : RowName) → IsIn (place_of name side) at → IsOutsideLine at l → l ≢ name
other-line at name Under l i out = λ e. out.under (subst (λ (n : RowName). IsIn (place_of n Under) at) (sym e) i)
other-line at name Over l i out = λ e. out.over (subst (λ (n : RowName). IsIn (place_of n Over) at) (sym e) i)

line-number : (name l : RowName) (own : ℕ) (by : RowName → ℤ) → l ≢ name → line_numbers name own by l ≡ by l
line-number name l own by ne = ap (λ (b : Bool). cond b (neg_ℤ (pos own)) (by l)) (ne_eqb (place_of l Under) (place_of name Under) (λ e. ne (same-name l name e)))

-- what is made of it, before it is divided
pub record IsJoinedMultiple (q : Problem) (at : List Mark) (level unit own : ℕ) (out : List ℤ) : Type 0 where
  pub by : RowName → ℤ
  pub multiple : IsLevelMultiple q at level unit own by
  pub same : All (λ l. IsOutsideLine at l.name → by l.name ≡ numbers_of (lines q) out l.name) (lines q)
  pub zeros : HasZeros at (lines q) out
  pub count : length out ≡ length (lines q)

zeros-both : (q : Problem) (at : List Mark) (k m : ℤ) (xs ys out : List ℤ) → length xs ≡ length (lines q) → length ys ≡ length (lines q) → HasZeros at (lines q) xs → HasZeros at (lines q) ys → IsCombined k xs m ys out → HasZeros at (lines q) out
zeros-both q at k m xs ys out c d zx zy is i e within =
    elim (zx i e within) [
      | inl o ↦ inl o
      | inr x ↦ elim (zy i e within) [
        | inl o ↦ inl o
        | inr y ↦ inr (numbers-combined k m (lines q) xs ys out (get_or (lines q) i e).name c d is ∙ zero-both k m (numbers_of (lines q) xs (get_or (lines q) i e).name) (numbers_of (lines q) ys (get_or (lines q) i e).name) x y)
      ]
    ]

-- the old numbers are those of the new problem's lines
pub old_zeros : (p q : Problem) (at : List Mark) (level : ℕ) (name : RowName) (old : LevelSum) (f : LineFacts) (kept : Option Inside) → IsLineJoin p q at level name old f kept → HasZeros at (lines q) old.by.items
old_zeros p q at level name old f kept j =
    All-from_recursion (λ l. IsOutsideLine at l.name ⊎ (numbers_of (lines q) old.by.items l.name ≡ pos 0)) (lines q)
    (each-before name (λ l. IsOutsideLine at l.name ⊎ (numbers_of (lines p) old.by.items l.name ≡ pos 0)) (λ l. IsOutsideLine at l.name ⊎ (numbers_of (lines q) old.by.items l.name ≡ pos 0)) (lines p) (lines q)
    (λ l m b h. carried l m b h) j.before (recursion_from_All (λ l. IsOutsideLine at l.name ⊎ (numbers_of (lines p) old.by.items l.name ≡ pos 0)) (lines p) j.old_is.inside))
  where
    named : (l m : Line) → IsLineBefore name l m → l.name ≡ m.name
    named l m (inl e) = ap (λ (k : Line). k.name) e.0
    named l m (inr e) = ap (λ (k : Line). k.name) e.0

    carried : (l m : Line) → IsLineBefore name l m → IsOutsideLine at l.name ⊎ (numbers_of (lines p) old.by.items l.name ≡ pos 0) → IsOutsideLine at m.name ⊎ (numbers_of (lines q) old.by.items m.name ≡ pos 0)
    carried l m b (inl o) = inl (subst (λ (n : RowName). IsOutsideLine at n) (named l m b) o)
    carried l m b (inr z) = inr (sym (numbers_before name (lines p) (lines q) old.by.items m.name j.before) ∙ subst (λ (n : RowName). numbers_of (lines p) old.by.items n ≡ pos 0) (named l m b) z)

line-count : (name : RowName) (ls ms : List Line) → AreLinesBefore name ls ms → length ls ≡ length ms
line-count name [] [] are = refl
line-count name [] (m ∷ ms) are = absurd are
line-count name (l ∷ ls) [] are = absurd are
line-count name (l ∷ ls) (m ∷ ms) are = ap suc (line-count name ls ms are.1)

pub old_count : (p q : Problem) (at : List Mark) (level : ℕ) (name : RowName) (old : LevelSum) (f : LineFacts) (kept : Option Inside) → IsLineJoin p q at level name old f kept → length old.by.items ≡ length (lines q)
old_count p q at level name old f kept j = j.old_is.sized.count_is ∙ line-count name (lines p) (lines q) j.before

pub inside_join : (p q : Problem) (at : List Mark) (level : ℕ) (name : RowName) (old : LevelSum) (f : LineFacts) (inside : Inside) (times : ℕ) → (j : IsLineJoin p q at level name old f (Some inside)) → (s : IsStart p q at level name old f times)
    → IsLevelJoin p q at level (times * s.unit) (s.own / s.g) (λ n. pos (times / s.g) *ℤ numbers_of (lines p) old.by.items n) name inside.side (unsigned_abs inside.sum.own)
    (line_numbers name (unsigned_abs inside.sum.own) (numbers_of (lines q) inside.sum.by.items))
inside_join p q at level name old f inside times j s = record {
  before = j.before;
  row = s.row;
  inside = j.line_is.within;
  no_other = j.line_is.no_other;
  line_is = j.line_is.line_is;
}

pub inside_multiple : (p q : Problem) (at : List Mark) (level : ℕ) (name : RowName) (old : LevelSum) (f : LineFacts) (inside : Inside) (times : ℕ) (own : ℤ) (out : List ℤ) → (j : IsLineJoin p q at level name old f (Some inside))
    → (s : IsStart p q at level name old f times) → IsJoinedList old f (Some inside) times own out
    → (o : ℕ) × (own ≡ pos o) × IsJoinedMultiple q at level (times * s.unit) o out
inside_multiple p q at level name old f inside times own out j s (own_is, made) =
    let size : ℕ = unsigned_abs inside.sum.own in
    let size_is : inside.sum.own ≡ pos (unsigned_abs inside.sum.own) = positive_is inside.sum.own j.line_is.sized.above in
    let u : ℕ = times * s.unit in
    let n : ℤ = counted_number inside.side f (times * s.unit) (s.own / s.g) in
    let m : ℤ = counted_number inside.side f (times * s.unit) s.own in
    let times_m : m ≡ pos s.g *ℤ n = ap (λ (o : ℕ). counted_number inside.side f (times * s.unit) o) (sym s.reduced.den_is) ∙ counted_times inside.side f (times * s.unit) s.g (s.own / s.g) in
    let factors : AreFactors (unsigned_abs inside.sum.own) n (unsigned_abs inside.sum.own * s.g) m = record {
      above = above-product (unsigned_abs inside.sum.own) s.g j.line_is.line_is.size_positive s.reduced.g_above;
      same = ap (λ (z : ℤ). z *ℤ pos (unsigned_abs inside.sum.own)) times_m ∙ turned-round (unsigned_abs inside.sum.own) s.g n;
    } in
    let joining : IsJoiningNumber q name inside.side level (times * s.unit) (s.own / s.g) n =
    λ i e within same. let k = j.facts_are i e within same in counted_there inside.side (get_or (lines q) i e) f level (times * s.unit) (s.own / s.g) k.0 k.1 in
    let multiple = joined_row_is_multiple p q at level (times * s.unit) (s.own / s.g) (λ n. pos (times / s.g) *ℤ numbers_of (lines p) old.by.items n) name inside.side (unsigned_abs inside.sum.own) (unsigned_abs inside.sum.own * s.g)
    (line_numbers name (unsigned_abs inside.sum.own) (numbers_of (lines q) inside.sum.by.items)) n m (inside_join p q at level name old f inside times j s) joining factors in
    let whole : unsigned_abs inside.sum.own * s.g * (s.own / s.g) ≡ unsigned_abs inside.sum.own * s.own = regroup (unsigned_abs inside.sum.own) s.g (s.own / s.g) ∙ ap (λ (o : ℕ). unsigned_abs inside.sum.own * o) s.reduced.den_is in
    let made-pos : IsCombined (pos (unsigned_abs inside.sum.own * times)) old.by.items m inside.sum.by.items out =
    subst (λ (k : ℤ). IsCombined k old.by.items m inside.sum.by.items out) (ap (λ (z : ℤ). z *ℤ pos times) size_is)
    (subst (λ (o : ℤ). IsCombined (inside.sum.own *ℤ pos times) old.by.items (counted_number inside.side f (times * s.unit) (unsigned_abs o)) inside.sum.by.items out) s.own_is
    (subst (λ (u : ℕ). IsCombined (inside.sum.own *ℤ pos times) old.by.items (counted_number inside.side f (times * u) (unsigned_abs old.own)) inside.sum.by.items out) s.unit_is made)) in (
      unsigned_abs inside.sum.own * s.own,
      own_is ∙ ap₂ ◌*ℤ◌ size_is s.own_is,
      record {
        by = multiple.0;
        multiple = subst (λ (o : ℕ). IsLevelMultiple q at level (times * s.unit) o multiple.0) whole multiple.1;
        same = λ i e within out-line.
            multiple.2 i e within out-line
            ∙ ap₂ ◌+ℤ◌ (same-parts (unsigned_abs inside.sum.own) times s.g (numbers_of (lines p) old.by.items (get_or (lines q) i e).name) s.reduced.num_is
            ∙ ap (λ (z : ℤ). pos (unsigned_abs inside.sum.own * times) *ℤ z) (numbers_before name (lines p) (lines q) old.by.items (get_or (lines q) i e).name j.before))
            (ap (λ (z : ℤ). m *ℤ z) (line-number name (get_or (lines q) i e).name (unsigned_abs inside.sum.own) (numbers_of (lines q) inside.sum.by.items) (other-line at name inside.side (get_or (lines q) i e).name j.line_is.within out-line)))
            ∙ sym (numbers-combined (pos (unsigned_abs inside.sum.own * times)) m (lines q) old.by.items inside.sum.by.items out (get_or (lines q) i e).name (old_count p q at level name old f (Some inside) j) j.line_is.sized.count_is made-pos);
        zeros = zeros-both q at (pos (unsigned_abs inside.sum.own * times)) m old.by.items inside.sum.by.items out (old_count p q at level name old f (Some inside) j) j.line_is.sized.count_is (old_zeros p q at level name old f (Some inside) j) j.line_is.zeros made-pos;
        count = made-pos.count ∙ old_count p q at level name old f (Some inside) j;
      },
    )
  where
    regroup : (a g o : ℕ) → a * g * o ≡ a * (o * g)
    regroup a g o = omega arith

    turned-round : (size g : ℕ) (n : ℤ) → (pos g *ℤ n) *ℤ pos size ≡ n *ℤ pos (size * g)
    turned-round size g n = *ℤ_comm (pos g *ℤ n) (pos size) ∙ sym (mul_assoc_ℤ (pos size) (pos g) n) ∙ *ℤ_comm (pos (size * g)) n

-- ---- an outside line

grown-share : (g low own u : ℕ) → low * g ≡ own → pos g *ℤ pos (low * u) ≡ pos (own * u)
grown-share g low own u e = ap pos (regroup g low u ∙ ap (λ (n : ℕ). n * u) e)
  where
    regroup : (g low u : ℕ) → g * (low * u) ≡ low * g * u
    regroup g low u = omega arith

same-sum : (p q : Problem) (name : RowName) (by : RowName → ℤ) (v : ℕ) → AreLinesBefore name (lines p) (lines q) → sum_of (λ l. by l.name *ℤ coefficient v l.form) (lines p) ≡ sum_of (λ l. by l.name *ℤ coefficient v l.form) (lines q)
same-sum p q name by v before = sum-before name (λ l. by l.name *ℤ coefficient v l.form) (λ l. by l.name *ℤ coefficient v l.form) (lines p) (lines q) (λ l m b. same l m b) before
  where
    same : (l m : Line) → IsLineBefore name l m → by l.name *ℤ coefficient v l.form ≡ by m.name *ℤ coefficient v m.form
    same l m (inl e) = ap (λ (k : Line). by k.name *ℤ coefficient v k.form) e.0
    same l m (inr e) = ap (λ (k : Line). by k.name *ℤ coefficient v k.form) e.0

under-kept : (at : List Mark) (level unit g low own : ℕ) (by : RowName → ℤ) (name : RowName) (l m : Line) → low * g ≡ own → IsOutsideLine at name → IsLineBefore name l m → (IsIn (place_of l.name Under) at → by l.name ≡ pos (low * under_share unit level l)) → IsIn (place_of m.name Under) at → pos g *ℤ by m.name ≡ pos (own * under_share unit level m)
under-kept at level unit g low own by name l m e out (inl same) h i =
    subst (λ (k : Line). pos g *ℤ by k.name ≡ pos (own * under_share unit level k)) same.0
    (ap (λ (z : ℤ). pos g *ℤ z) (h (subst (λ (k : Line). IsIn (place_of k.name Under) at) (sym same.0) i)) ∙ grown-share g low own (under_share unit level l) e)
under-kept at level unit g low own by name l m e out (inr same) h i = absurd (out.under (subst (λ (n : RowName). IsIn (place_of n Under) at) same.1 i))

over-kept : (at : List Mark) (level unit g low own : ℕ) (by : RowName → ℤ) (name : RowName) (l m : Line) → low * g ≡ own → IsOutsideLine at name → IsLineBefore name l m → (IsIn (place_of l.name Over) at → by l.name ≡ neg_ℤ (pos (low * over_share unit level l))) → IsIn (place_of m.name Over) at → pos g *ℤ by m.name ≡ neg_ℤ (pos (own * over_share unit level m))
over-kept at level unit g low own by name l m e out (inl same) h i =
    subst (λ (k : Line). pos g *ℤ by k.name ≡ neg_ℤ (pos (own * over_share unit level k))) same.0
    (ap (λ (z : ℤ). pos g *ℤ z) (h (subst (λ (k : Line). IsIn (place_of k.name Over) at) (sym same.0) i)) ∙ mul-opp (pos g) (pos (low * over_share unit level l)) ∙ ap neg_ℤ (grown-share g low own (over_share unit level l) e))
over-kept at level unit g low own by name l m e out (inr same) h i = absurd (out.over (subst (λ (n : RowName). IsIn (place_of n Over) at) same.1 i))

outside-kept : (at : List Mark) (by number : RowName → ℤ) (name : RowName) (l m : Line) → IsLineBefore name l m → (IsOutsideLine at l.name → by l.name ≡ number l.name) → IsOutsideLine at m.name → by m.name ≡ number m.name
outside-kept at by number name l m (inl e) h o = subst (λ (k : Line). by k.name ≡ number k.name) e.0 (h (subst (λ (k : Line). IsOutsideLine at k.name) (sym e.0) o))
outside-kept at by number name l m (inr e) h o = subst (λ (n : RowName). by n ≡ number n) (ap (λ (k : Line). k.name) e.0) (h (subst (λ (n : RowName). IsOutsideLine at n) (sym (ap (λ (k : Line). k.name) e.0)) o))

pub outside_multiple : (p q : Problem) (at : List Mark) (level : ℕ) (name : RowName) (old : LevelSum) (f : LineFacts) (times : ℕ) (own : ℤ) (out : List ℤ) → (j : IsLineJoin p q at level name old f None)
    → (s : IsStart p q at level name old f times) → IsJoinedList old f None times own out
    → (o : ℕ) × (own ≡ pos o) × IsJoinedMultiple q at level (times * s.unit) o out
outside_multiple p q at level name old f times own out j s (own_is, made) = (
  s.own,
  own_is ∙ s.own_is,
  record {
    by = λ n. pos s.g *ℤ s.row.by n;
    multiple = record {
      own_positive = subst (λ (n : ℕ). 0 < n) (ap unsigned_abs s.own_is) j.old_is.there.row.row.own_positive;
      cancel = λ v.
          same-times s.row.by (pos s.g) v
          ∙ ap (λ (z : ℤ). pos s.g *ℤ z) (sym (same-sum p q name s.row.by v j.before) ∙ s.row.row.cancel v) ∙ mul-zero_ℤ (pos s.g);
      under = All-from_recursion (λ l. IsIn (place_of l.name Under) at → pos s.g *ℤ s.row.by l.name ≡ pos (s.own * under_share (times * s.unit) level l)) (lines q)
          (each-before name (λ l. IsIn (place_of l.name Under) at → s.row.by l.name ≡ pos (s.own / s.g * under_share (times * s.unit) level l)) _ (lines p) (lines q)
          (λ l m b h. under-kept at level (times * s.unit) s.g (s.own / s.g) s.own s.row.by name l m s.reduced.den_is j.line_is b h) j.before
          (recursion_from_All (λ l. IsIn (place_of l.name Under) at → s.row.by l.name ≡ pos (s.own / s.g * under_share (times * s.unit) level l)) (lines p) s.row.row.under));
      over = All-from_recursion (λ l. IsIn (place_of l.name Over) at → pos s.g *ℤ s.row.by l.name ≡ neg_ℤ (pos (s.own * over_share (times * s.unit) level l))) (lines q)
          (each-before name (λ l. IsIn (place_of l.name Over) at → s.row.by l.name ≡ neg_ℤ (pos (s.own / s.g * over_share (times * s.unit) level l))) _ (lines p) (lines q)
          (λ l m b h. over-kept at level (times * s.unit) s.g (s.own / s.g) s.own s.row.by name l m s.reduced.den_is j.line_is b h) j.before
          (recursion_from_All (λ l. IsIn (place_of l.name Over) at → s.row.by l.name ≡ neg_ℤ (pos (s.own / s.g * over_share (times * s.unit) level l))) (lines p) s.row.row.over));
    };
    same = λ i e within out-line.
        ap (λ (z : ℤ). pos s.g *ℤ z) (row-there i e within out-line)
        ∙ one-part times s.g (numbers_of (lines p) old.by.items (get_or (lines q) i e).name) s.reduced.num_is
        ∙ ap (λ (z : ℤ). pos times *ℤ z) (numbers_before name (lines p) (lines q) old.by.items (get_or (lines q) i e).name j.before)
        ∙ sym (numbers-combined (pos times) (pos 0) (lines q) old.by.items old.by.items out (get_or (lines q) i e).name count count made ∙ plus-none (pos times *ℤ numbers_of (lines q) old.by.items (get_or (lines q) i e).name) (numbers_of (lines q) old.by.items (get_or (lines q) i e).name));
    zeros = zeros-both q at (pos times) (pos 0) old.by.items old.by.items out count count (old_zeros p q at level name old f None j) (old_zeros p q at level name old f None j) made;
    count = made.count ∙ count;
  },
)
  where
    count : length old.by.items ≡ length (lines q)
    count = old_count p q at level name old f None j

    row-there : All (λ l. IsOutsideLine at l.name → s.row.by l.name ≡ pos (times / s.g) *ℤ numbers_of (lines p) old.by.items l.name) (lines q)
    row-there = All-from_recursion (λ l. IsOutsideLine at l.name → s.row.by l.name ≡ pos (times / s.g) *ℤ numbers_of (lines p) old.by.items l.name) (lines q)
        (each-before name (λ l. IsOutsideLine at l.name → s.row.by l.name ≡ pos (times / s.g) *ℤ numbers_of (lines p) old.by.items l.name) _ (lines p) (lines q)
        (λ l m b h. outside-kept at s.row.by (λ n. pos (times / s.g) *ℤ numbers_of (lines p) old.by.items n) name l m b h) j.before
        (recursion_from_All (λ l. IsOutsideLine at l.name → s.row.by l.name ≡ pos (times / s.g) *ℤ numbers_of (lines p) old.by.items l.name) (lines p) s.row.outside))

    same-times : (by : RowName → ℤ) (k : ℤ) (v : ℕ) → sum_of (λ l. (k *ℤ by l.name) *ℤ coefficient v l.form) (lines q) ≡ k *ℤ sum_of (λ l. by l.name *ℤ coefficient v l.form) (lines q)
    same-times by k v = sum-cong (λ l. (k *ℤ by l.name) *ℤ coefficient v l.form) (λ l. k *ℤ (by l.name *ℤ coefficient v l.form)) (lines q) (λ l. mul_assoc_ℤ k (by l.name) (coefficient v l.form)) ∙ mul-sum k (λ l. by l.name *ℤ coefficient v l.form) (lines q)

    flipped : (a b : ℕ) → a * b ≡ b * a
    flipped a b = omega arith

    one-part : (times g : ℕ) (z : ℤ) → times / g * g ≡ times → pos g *ℤ (pos (times / g) *ℤ z) ≡ pos times *ℤ z
    one-part times g z e = sym (mul_assoc_ℤ (pos g) (pos (times / g)) z) ∙ ap (λ (n : ℕ). pos n *ℤ z) (flipped g (times / g) ∙ e)

    plus-none : (x y : ℤ) → x +ℤ pos 0 *ℤ y ≡ x
    plus-none x y = ap (λ (z : ℤ). x +ℤ z) (zero-mul_ℤ y) ∙ add-zero_ℤ x

-- ---- both

pub joined_multiple : (p q : Problem) (at : List Mark) (level : ℕ) (name : RowName) (old : LevelSum) (f : LineFacts) (kept : Option Inside) (times : ℕ) (own : ℤ) (out : List ℤ) → (j : IsLineJoin p q at level name old f kept)
    → (s : IsStart p q at level name old f times) → IsJoinedList old f kept times own out
    → (o : ℕ) × (own ≡ pos o) × IsJoinedMultiple q at level (times * s.unit) o out
joined_multiple p q at level name old f None times own out j s list = outside_multiple p q at level name old f times own out j s list
joined_multiple p q at level name old f (Some inside) times own out j s list = inside_multiple p q at level name old f inside times own out j s list

-- in lowest terms it is the row
pub joined_row : (p q : Problem) (at : List Mark) (level : ℕ) (name : RowName) (old : LevelSum) (f : LineFacts) (kept : Option Inside) (times : ℕ) (own : ℤ) (out : List ℤ) (low : ℕ) (next : List ℤ) → (j : IsLineJoin p q at level name old f kept)
    → (s : IsStart p q at level name old f times) → IsJoinedList old f kept times own out → AreLowest own out (pos low) next
    → HasLevelRow q at level (times * s.unit) low (numbers_of (lines q) next) × HasZeros at (lines q) next × (length next ≡ length (lines q))
joined_row p q at level name old f kept times own out low next j s list lowest =
    let m = joined_multiple p q at level name old f kept times own out j s list in
    let are : AreLowest (pos m.0) out (pos low) next = subst (λ (z : ℤ). AreLowest z out (pos low) next) m.1 lowest in (
      divided_row_is_row q at level (times * s.unit) m.0 low m.2.by (numbers_of (lines q) next) m.2.multiple
          (list_divided q at m.0 low m.2.by out next j.apart m.2.count (λ i e within o. sym (m.2.same i e within o)) m.2.zeros are),
      zeros_divided at (lines q) (pos m.0) (pos low) out next m.2.zeros are,
      sym (length-map next (λ (z : ℤ). pos lowest.factor *ℤ z)) ∙ ap length lowest.same ∙ m.2.count,
    )

pub joined_unfit : (p q : Problem) (at : List Mark) (level : ℕ) (name : RowName) (old : LevelSum) (f : LineFacts) (kept : Option Inside) (times : ℕ) (own : ℤ) (out : List ℤ) → (j : IsLineJoin p q at level name old f kept)
    → (s : IsStart p q at level name old f times) → IsJoinedList old f kept times own out → AreUnfit own out → HasNoLevelWriting q at level
joined_unfit p q at level name old f kept times own out j s list unfit =
    let m = joined_multiple p q at level name old f kept times own out j s list in
    unfit_multiple_has_no_writing q at level (times * s.unit) m.0 m.2.by (numbers_of (lines q) out) j.sound j.rays s.next_unit m.2.multiple m.2.same
    (list_unfit q at m.0 (numbers_of (lines q) out) out j.apart m.2.count (λ i e within o. refl) m.2.zeros (subst (λ (z : ℤ). AreUnfit z out) m.1 unfit))
