-- When the level of a stay fits.
use Rattle.std.proofs.Common.{◌≡◌, ◌∙◌, ℕ, ◌*◌, ◌/◌, ◌<◌, ◌^◌, cond, nat_eq, List, map, ℤ, pos, ◌+ℤ◌, ◌-ℤ◌, ◌*ℤ◌, neg_ℤ, refl, sym, ap, ap₂, subst, arith, inl, inr, Contains}
use Rattle.std.specs.List.{AllByRecursion as Each}
use Rattle.std.specs.Int.{IsGcd}
use Rattle.std.proofs.lemmas.Bool.{cases_eq}
use Rattle.std.proofs.lemmas.List.Elements.{All-from_recursion, recursion_from_All}
use Rattle.std.proofs.lemmas.Nat.Gcd.{dvd_refl, dvd-zero}
use borrow.Author.Differences.{ints}
use Rattle.frac_core.specs.Fraction.{Fraction, Fits, IsFitting, IsLowest}
use Rattle.frac_core.proofs.Integers.{mul-zero_ℤ, mul_assoc_ℤ, mul_left_comm_ℤ, zero-mul_ℤ}
use Rattle.problem_core.specs.declared.parts.Mark.{Mark}
use Rattle.problem_core.specs.declared.parts.Rel.TheVariants.{Eq}
use Rattle.problem_core.specs.declared.parts.Side.{Side}
use Rattle.problem_core.specs.declared.parts.Side.TheVariants.{Under, Over}
use Rattle.problem_core.specs.declared.parts.RowName.{RowName}
use Rattle.problem_core.specs.declared.parts.RowName.TheVariants.{Stay as StayOf}
use Rattle.problem_core.specs.Layout.{Line, Problem, lines}
use Rattle.problem_core.specs.Kept.{IsWhole}
use Rattle.problem_core.specs.Corners.{IsCorner, IsIn, Point, StandsAt, marks_of, one_column, place, place_of}
use Rattle.problem_core.specs.Certificates.{over_weight, under_weight, weight_at}
use Rattle.problem_core.specs.Rays.{HasRays}
use Rattle.problem_core.specs.Levels.{IsCostAt, cost_at, line_cost, scales}
use Rattle.problem_core.proofs.Forms.{each-impl, each-both, sum-zero}
use Rattle.problem_core.proofs.Wholes.{whole-IsProblem}
use Rattle.corner_laws.specs.Units.{IsStayLevel, over_share}
use Rattle.corner_laws.proofs.Swaps.ColumnsStay.{each_marks}
use Rattle.corner_laws.proofs.Counting.{IsSmall}
use Rattle.corner_laws.proofs.LevelCosts.Gaps.{shares}
use Rattle.corner_laws.proofs.LevelCosts.Unique.{same-name}
use Rattle.corner_laws.proofs.WrittenValues.{contains_each, nothing_outside}
use Rattle.corner_laws.proofs.ZeroColumns.{here-in, part-other}
use Rattle.corner_lines.specs.LineEquations.{IsOutsideLine, deviation}
use Rattle.corner_lines.specs.Levels.LevelRows.{inside_number, reduced_number}
use Rattle.corner_lines.specs.Levels.LevelCosts.{HasDeviation}
use Rattle.corner_lines.specs.Levels.LevelFits.{IsFittingRow, IsLevelThere}
use Rattle.corner_lines.specs.Levels.StayLevels.{InsideStayCosts, InsideStayFits, InsideStayIsUnfit, IsInsideStay, OutsideStayCostsOne, OutsideStayFits, OutsideStayLevelFits, StayLevelFits, StayLevelIsUnfit, turned}
use Rattle.corner_lines.proofs.LevelRows.LevelExchanges.{by-sides, two-marks, at-side}
use Rattle.corner_lines.proofs.Costs.LevelCosts.{one-line}
use Rattle.corner_lines.proofs.Costs.LevelFits.{fitting_row_has_writing, unfit_row_has_no_writing}
use Rattle.corner_lines.proofs.Costs.LevelJoinCosts.{line-part}
use Rattle.corner_lines.proofs.LevelRows.LevelSound.{whole_is_sound}
use Rattle.corner_lines.proofs.LevelRows.StayRows.{inside_stay_has_row, outside_stay_has_row, stay-number, stay_stands_alone, turned-size}
use Rattle.problem_core.proofs.Corners.Conflicts.{sum-each}
use Rattle.corner_lines.proofs.Lines.LineWritings.{all-small}
use Rattle.corner_laws.proofs.LevelCosts.StayLevels.{whole-one}
use Rattle.frac_core.proofs.Numbers.{neg-times}
use Rattle.frac_core.proofs.Bools.{count-other as cond_other, count-same as cond_same}

-- ---- the cost of a stay

-- what is known of a line
record Known (at : List Mark) (level attr whole : ℕ) (l : Line) : Type 0 where
  own : l.level ≡ level → (l.name ≡ StayOf attr) × (l.rel ≡ Eq) × (l.scale ≡ 1) × (l.weight ≡ 1)
  named : l.name ≡ StayOf attr → l.level ≡ level
  share : whole / l.scale * l.scale ≡ whole
  small : IsSmall l.name

turned-times : (side : Side) (z : ℤ) → turned side (pos 1) *ℤ z ≡ turned side z
turned-times Under z = omega (arith, ints)
turned-times Over z = omega (arith, ints)

pub turned-mul : (side : Side) (y z : ℤ) → turned side y *ℤ z ≡ turned side (y *ℤ z)
turned-mul Under y z = neg-times y z
turned-mul Over y z = refl

neg-turned : (side : Side) → neg_ℤ (turned side (neg_ℤ (pos 1))) ≡ turned side (pos 1)
neg-turned Under = omega (arith, ints)
neg-turned Over = omega (arith, ints)

all-known : (p : Problem) (at : List Mark) (level attr : ℕ) → IsWhole p → IsStayLevel p level attr → Each (Known at level attr (scales p)) (lines p)
all-known p at level attr whole is =
    each-impl (λ l. ((l.level ≡ level → (l.name ≡ StayOf attr) × (l.rel ≡ Eq) × (l.scale ≡ 1) × (l.weight ≡ 1)) × (l.name ≡ StayOf attr → l.level ≡ level)) × ((scales p / l.scale * l.scale ≡ scales p) × IsSmall l.name)) _ (lines p)
    (λ l h. record { own = h.0.0; named = h.0.1; share = h.1.0; small = h.1.1 })
    (each-both _ _ (lines p) (each-both _ _ (lines p) (recursion_from_All _ (lines p) is.own) (recursion_from_All _ (lines p) is.named)) (each-both _ _ (lines p) (shares p (whole-IsProblem p whole)) (all-small p whole)))

either-side : (P : ℕ → Type 0) (name : RowName) → P (place_of name Under) × P (place_of name Over) → (side : Side) → P (place_of name side)
either-side P name h Under = h.0
either-side P name h Over = h.1

-- the level's cost at a point of the corner
stay-cost : (p : Problem) (at : List Mark) (level attr : ℕ) (side : Side) (own : ℕ) (line : RowName → ℤ) (z : Point) → IsInsideStay p at level attr side own line → StandsAt p at z → cost_at p level z.num ≡ pos (scales p) *ℤ turned side (deviation (StayOf attr) z.num)
stay-cost p at level attr side own line z is there =
    let mark : Contains (map place (marks_of (lines p))) (place_of (StayOf attr) side) = contains_each (λ c. Contains (map place (marks_of (lines p))) c) at (place_of (StayOf attr) side) (recursion_from_All (λ m. Contains (map place (marks_of (lines p))) (place m)) at is.corner.marks) is.inside in
    sum-each (λ l. pos (scales p / l.scale) *ℤ line_cost level z.num l) (λ l. cond (nat_eq (place_of l.name Under) (place_of (StayOf attr) Under)) (pos (scales p) *ℤ turned side (deviation (StayOf attr) z.num)) (pos 0)) (lines p)
    (each-impl (λ l. Known at level attr (scales p) l × (Contains (map place (marks_of (lines p))) (place_of l.name Under) × Contains (map place (marks_of (lines p))) (place_of l.name Over))) _ (lines p)
    (λ l h. elim (cases_eq (place_of l.name Under) (place_of (StayOf attr) Under)) [
      | inl e ↦
          let name : l.name ≡ StayOf attr = same-name l.name (StayOf attr) e in
          let there_level : l.level ≡ level = h.0.named name in
          one-times (pos (scales p / l.scale) *ℤ line_cost level z.num l)
          ∙ line-part side level 1 (scales p) l (turned side (pos 1)) z.num h.0.share (whole-one l level (λ q. (h.0.own q).2)) (sym (ap neg_ℤ (stay-number level attr 1 l side h.0.own there_level) ∙ neg-turned side))
          (λ other ne. nothing_outside p at z (place_of l.name other) there (either-side (λ c. Contains (map place (marks_of (lines p))) c) l.name h.1 other)
          (λ i. two-marks p at l.name other side h.0.small is.corner i (subst (λ (n : RowName). IsIn (place_of n side) at) (sym name) is.inside) ne))
          ∙ ap (λ (t : ℤ). pos (scales p) *ℤ t) (turned-times side (deviation l.name z.num) ∙ ap (λ (n : RowName). turned side (deviation n z.num)) name)
          ∙ sym (cond_same (place_of l.name Under) (place_of (StayOf attr) Under) (pos (scales p) *ℤ turned side (deviation (StayOf attr) z.num)) e)
      | inr ne ↦
          part-other (scales p) z.num level l (λ q. ne (ap (λ (n : RowName). place_of n Under) (h.0.own q).0))
          ∙ sym (cond_other (place_of l.name Under) (place_of (StayOf attr) Under) (pos (scales p) *ℤ turned side (deviation (StayOf attr) z.num)) ne)
    ])
    (each-both _ _ (lines p) (all-known p at level attr is.whole is.alone) (here-in (lines p))))
    ∙ one-line p (record { row = StayOf attr; side = side }) (pos (scales p) *ℤ turned side (deviation (StayOf attr) z.num)) is.whole mark
  where
    one-times : (z : ℤ) → z ≡ pos 1 *ℤ z
    one-times z = omega (arith, ints)

pub inside_stay_costs : InsideStayCosts
inside_stay_costs p at level attr side own line value is (z, there, e) = (
  z,
  there,
  ap (λ (c : ℤ). c *ℤ pos value.den) (stay-cost p at level attr side own line z is there)
      ∙ mul_assoc_ℤ (pos (scales p)) (turned side (deviation (StayOf attr) z.num)) (pos value.den)
      ∙ ap (λ (c : ℤ). pos (scales p) *ℤ c) (turned-mul side (deviation (StayOf attr) z.num) (pos value.den) ∙ ap (turned side) e ∙ sym (turned-mul side value.num (z.num one_column)))
      ∙ mul_left_comm_ℤ (pos (scales p)) (turned side value.num) (z.num one_column),
)

pub turned-lowest : (side : Side) (value : Fraction) → IsLowest value → IsLowest (record { num = turned side value.num; den = value.den })
turned-lowest side value low = record { above = low.above; coprime = subst (λ (n : ℕ). IsGcd n value.den 1) (sym (turned-size side value.num)) low.coprime }

pub turned-fits : (side : Side) (value : Fraction) → Fits value → Fits (record { num = turned side value.num; den = value.den })
turned-fits side value fits = record { num_fits = subst (λ (n : ℕ). n < 2 ^ 42) (sym (turned-size side value.num)) fits.num_fits; den_fits = fits.den_fits }

level-there : (p : Problem) (at : List Mark) (level attr : ℕ) (side : Side) (own : ℕ) (line : RowName → ℤ) (value : Fraction) → IsInsideStay p at level attr side own line → HasRays p at → HasDeviation p at (StayOf attr) value → IsLowest value
    → IsLevelThere p at level 1 own (λ name. turned side (line name)) (record { num = turned side value.num; den = value.den })
level-there p at level attr side own line value is rays v low =
    let row = inside_stay_has_row p at level attr side own line is in
    record { sound = whole_is_sound p is.whole; corner = is.corner; rays = rays; unit_is = row.0; row = row.1; cost_is = inside_stay_costs p at level attr side own line value is v; lowest = turned-lowest side value low }

-- ---- twice the stay's own number

pub over-as : (level unit own : ℕ) (y : ℤ) (l : Line) → reduced_number Over level unit own y l ≡ y -ℤ inside_number Over level unit own l
over-as level unit own y l = let a : ℤ = pos (own * over_share unit level l) in omega (arith, ints)

-- the reduced cost of one mark where the other, or the same, is inside
twice : Side → Side → ℕ → ℤ
twice Under Under own = pos 0
twice Under Over own = pos (2 * own)
twice Over Under own = pos (2 * own)
twice Over Over own = pos 0

reduced-twice : (level attr own : ℕ) (l : Line) (side inside : Side) → (l.level ≡ level → (l.name ≡ StayOf attr) × (l.rel ≡ Eq) × (l.scale ≡ 1) × (l.weight ≡ 1)) → l.level ≡ level → reduced_number side level 1 own (inside_number inside level 1 own l) l ≡ twice side inside own
unfolding twice
reduced-twice level attr own l Under Under h e = let a = stay-number level attr own l Under h e in omega (arith, ints)
reduced-twice level attr own l Under Over h e = let a = stay-number level attr own l Under h e in let b = stay-number level attr own l Over h e in let c : inside_number Under level 1 own l -ℤ inside_number Over level 1 own l ≡ pos (2 * own) = omega (arith, ints, a, b) in c
reduced-twice level attr own l Over Under h e =
    let a = stay-number level attr own l Under h e in let b = stay-number level attr own l Over h e in
    let c : inside_number Under level 1 own l -ℤ inside_number Over level 1 own l ≡ pos (2 * own) = omega (arith, ints, a, b) in
    over-as level 1 own (inside_number Under level 1 own l) l ∙ c
reduced-twice level attr own l Over Over h e =
    let a : ℤ = inside_number Over level 1 own l in
    over-as level 1 own (inside_number Over level 1 own l) l ∙ (let c : inside_number Over level 1 own l -ℤ inside_number Over level 1 own l ≡ pos 0 = omega (arith, ints) in c)

twice-fits : (side inside : Side) (own : ℕ) → IsFitting (pos (2 * own)) → IsFitting (twice side inside own)
unfolding twice
twice-fits Under Under own h = omega arith
twice-fits Under Over own h = h
twice-fits Over Under own h = h
twice-fits Over Over own h = omega arith

pub inside_stay_fits : InsideStayFits
inside_stay_fits p at level attr side own line value is rays v low fits numbers two none =
    fitting_row_has_writing p at level 1 own (λ name. turned side (line name)) (record { num = turned side value.num; den = value.den }) (level-there p at level attr side own line value is rays v low)
    (record {
      scale_fits = omega (arith, two);
      outside_fit = All-from_recursion (λ l. IsOutsideLine at l.name → IsFitting (turned side (line l.name))) (lines p) (each-impl (λ l. IsOutsideLine at l.name → IsFitting (line l.name)) _ (lines p) (λ l h out. subst (λ (n : ℕ). n < 2 ^ 42) (sym (turned-size side (line l.name))) (h out)) (recursion_from_All _ (lines p) numbers));
      own_fit = All-from_recursion (λ l. l.level ≡ level → IsOutsideLine at l.name → (x : Side) → IsFitting (reduced_number x level 1 own (turned side (line l.name)) l)) (lines p)
          (each-impl (λ l. l.level ≡ level → (l.name ≡ StayOf attr) × (l.rel ≡ Eq) × (l.scale ≡ 1) × (l.weight ≡ 1)) _ (lines p) (λ l h e out x. absurd (at-side side at l.name out (subst (λ (n : RowName). IsIn (place_of n side) at) (sym (h e).0) is.inside))) (recursion_from_All _ (lines p) is.alone.own));
      inside_fit = All-from_recursion (λ l. l.level ≡ level → (x inside : Side) → IsIn (place_of l.name inside) at → IsFitting (reduced_number x level 1 own (inside_number inside level 1 own l) l)) (lines p)
          (each-impl (λ l. l.level ≡ level → (l.name ≡ StayOf attr) × (l.rel ≡ Eq) × (l.scale ≡ 1) × (l.weight ≡ 1)) _ (lines p) (λ l h e x inside i. subst IsFitting (sym (reduced-twice level attr own l x inside h e)) (twice-fits x inside own two)) (recursion_from_All _ (lines p) is.alone.own));
    })
    (turned-fits side value fits) none

other-side : Side → Side
other-side Under = Over
other-side Over = Under

twice-other : (side : Side) (own : ℕ) → twice (other-side side) side own ≡ pos (2 * own)
unfolding twice other-side
twice-other Under own = refl
twice-other Over own = refl

two-fits : (p : Problem) (at : List Mark) (level attr : ℕ) (side : Side) (own : ℕ) (number : RowName → ℤ) → IsCorner p at → IsStayLevel p level attr → IsIn (place_of (StayOf attr) side) at → IsFittingRow p at level 1 own number → IsFitting (pos (2 * own))
two-fits p at level attr side own number corner is inside fit =
    contains_each (λ c. c ≡ place_of (StayOf attr) side → IsFitting (pos (2 * own))) (marks_of (lines p)) (place_of (StayOf attr) side)
    (each_marks (λ c. c ≡ place_of (StayOf attr) side → IsFitting (pos (2 * own))) (lines p)
    (each-impl (λ l. ((l.level ≡ level → (l.name ≡ StayOf attr) × (l.rel ≡ Eq) × (l.scale ≡ 1) × (l.weight ≡ 1)) × (l.name ≡ StayOf attr → l.level ≡ level)) × (l.level ≡ level → (x inside : Side) → IsIn (place_of l.name inside) at → IsFitting (reduced_number x level 1 own (inside_number inside level 1 own l) l))) _ (lines p) (λ l h e. here l Under h e) all)
    (each-impl (λ l. ((l.level ≡ level → (l.name ≡ StayOf attr) × (l.rel ≡ Eq) × (l.scale ≡ 1) × (l.weight ≡ 1)) × (l.name ≡ StayOf attr → l.level ≡ level)) × (l.level ≡ level → (x inside : Side) → IsIn (place_of l.name inside) at → IsFitting (reduced_number x level 1 own (inside_number inside level 1 own l) l))) _ (lines p) (λ l h e. here l Over h e) all))
    (contains_each (λ c. Contains (map place (marks_of (lines p))) c) at (place_of (StayOf attr) side) (recursion_from_All (λ m. Contains (map place (marks_of (lines p))) (place m)) at corner.marks) inside) refl
  where
    all : Each (λ l. ((l.level ≡ level → (l.name ≡ StayOf attr) × (l.rel ≡ Eq) × (l.scale ≡ 1) × (l.weight ≡ 1)) × (l.name ≡ StayOf attr → l.level ≡ level)) × (l.level ≡ level → (x inside : Side) → IsIn (place_of l.name inside) at → IsFitting (reduced_number x level 1 own (inside_number inside level 1 own l) l))) (lines p)
    all = each-both _ _ (lines p) (each-both _ _ (lines p) (recursion_from_All _ (lines p) is.own) (recursion_from_All _ (lines p) is.named)) (recursion_from_All _ (lines p) fit.inside_fit)

    here : (l : Line) (x : Side) → ((l.level ≡ level → (l.name ≡ StayOf attr) × (l.rel ≡ Eq) × (l.scale ≡ 1) × (l.weight ≡ 1)) × (l.name ≡ StayOf attr → l.level ≡ level)) × (l.level ≡ level → (x inside : Side) → IsIn (place_of l.name inside) at → IsFitting (reduced_number x level 1 own (inside_number inside level 1 own l) l)) → place_of l.name x ≡ place_of (StayOf attr) side → IsFitting (pos (2 * own))
    here l x h e =
        let name : l.name ≡ StayOf attr = (by-sides l.name (StayOf attr) x side e).0 in
        let there : l.level ≡ level = h.0.1 name in
        subst IsFitting (reduced-twice level attr own l (other-side side) side h.0.0 there ∙ twice-other side own) (h.1 there (other-side side) side (subst (λ (n : RowName). IsIn (place_of n side) at) (sym name) inside))

pub inside_stay_is_unfit : InsideStayIsUnfit
inside_stay_is_unfit p at level attr side own line value is rays v low unfit =
    unfit_row_has_no_writing p at level 1 own (λ name. turned side (line name)) (record { num = turned side value.num; den = value.den }) (level-there p at level attr side own line value is rays v low)
    (λ fit fits. unfit (two-fits p at level attr side own (λ name. turned side (line name)) is.corner is.alone is.inside fit))

-- ---- a stay outside

one-reduced : (level attr : ℕ) (l : Line) (side : Side) → (l.level ≡ level → (l.name ≡ StayOf attr) × (l.rel ≡ Eq) × (l.scale ≡ 1) × (l.weight ≡ 1)) → l.level ≡ level → IsFitting (reduced_number side level 1 1 (pos 0) l)
one-reduced level attr l Under h e = let a = stay-number level attr 1 l Under h e in let c : inside_number Under level 1 1 l -ℤ pos 0 ≡ pos 1 = omega (arith, ints, a) in subst IsFitting (sym c) (omega arith)
one-reduced level attr l Over h e = let a = stay-number level attr 1 l Over h e in let c : pos 0 -ℤ inside_number Over level 1 1 l ≡ pos 1 = omega (arith, ints, a) in subst IsFitting (sym (over-as level 1 1 (pos 0) l ∙ c)) (omega arith)

-- it costs nothing
pub no-cost : (p : Problem) (at : List Mark) (level attr : ℕ) → IsWhole p → IsCorner p at → IsStayLevel p level attr → IsOutsideLine at (StayOf attr) → IsCostAt p at level (record { num = pos 0; den = 1 })
no-cost p at level attr whole corner is out = (
  corner.point,
  corner.stands,
  ap (λ (c : ℤ). c *ℤ pos 1)
      (sum-zero (λ l. pos (scales p / l.scale) *ℤ line_cost level corner.point.num l) (lines p)
      (each-impl (λ l. Known at level attr (scales p) l × (Contains (map place (marks_of (lines p))) (place_of l.name Under) × Contains (map place (marks_of (lines p))) (place_of l.name Over))) _ (lines p)
      (λ l h. elim (cases_eq l.level level) [
        | inl e ↦
            let name : l.name ≡ StayOf attr = (h.0.own e).0 in
            nothing-moves (scales p / l.scale) level corner.point.num l
            (nothing_outside p at corner.point (place_of l.name Under) corner.stands h.1.0 (λ i. out.under (subst (λ (n : RowName). IsIn (place_of n Under) at) name i)))
            (nothing_outside p at corner.point (place_of l.name Over) corner.stands h.1.1 (λ i. out.over (subst (λ (n : RowName). IsIn (place_of n Over) at) name i)))
        | inr ne ↦ part-other (scales p) corner.point.num level l ne
      ])
      (each-both _ _ (lines p) (all-known p at level attr whole is) (here-in (lines p)))))
      ∙ sym (zero-mul_ℤ (pos (scales p) *ℤ corner.point.num one_column)),
)
  where
    nothing-moves : (q level : ℕ) (x : ℕ → ℤ) (l : Line) → x (place_of l.name Under) ≡ pos 0 → x (place_of l.name Over) ≡ pos 0 → pos q *ℤ line_cost level x l ≡ pos 0
    nothing-moves q level x l u o =
        ap (λ (z : ℤ). pos q *ℤ z)
        (ap₂ ◌+ℤ◌ (ap (λ (z : ℤ). pos (under_weight l.rel (weight_at l level)) *ℤ z) u ∙ mul-zero_ℤ (pos (under_weight l.rel (weight_at l level)))) (ap (λ (z : ℤ). pos (over_weight l.rel (weight_at l level)) *ℤ z) o ∙ mul-zero_ℤ (pos (over_weight l.rel (weight_at l level)))))
        ∙ mul-zero_ℤ (pos q)

pub outside_stay_fits : OutsideStayFits
outside_stay_fits p at level attr whole corner rays is out none =
    let row = outside_stay_has_row p at level attr is out in
    fitting_row_has_writing p at level 1 1 (λ name. pos 0) (record { num = pos 0; den = 1 })
    (record { sound = whole_is_sound p whole; corner = corner; rays = rays; unit_is = row.0; row = row.1; cost_is = no-cost p at level attr whole corner is out; lowest = record { above = omega arith; coprime = (dvd-zero 1, dvd_refl 1, λ d a b. b) } })
    (record {
      scale_fits = omega arith;
      outside_fit = All-from_recursion (λ l. IsOutsideLine at l.name → IsFitting (pos 0)) (lines p) (each-impl (Known at level attr (scales p)) _ (lines p) (λ l h o. omega arith) (all-known p at level attr whole is));
      own_fit = All-from_recursion (λ l. l.level ≡ level → IsOutsideLine at l.name → (side : Side) → IsFitting (reduced_number side level 1 1 (pos 0) l)) (lines p) (each-impl (Known at level attr (scales p)) _ (lines p) (λ l h e o side. one-reduced level attr l side h.own e) (all-known p at level attr whole is));
      inside_fit = All-from_recursion (λ l. l.level ≡ level → (side inside : Side) → IsIn (place_of l.name inside) at → IsFitting (reduced_number side level 1 1 (inside_number inside level 1 1 l) l)) (lines p)
          (each-impl (Known at level attr (scales p)) _ (lines p) (λ l h e side inside i. absurd (at-side inside at (StayOf attr) out (subst (λ (n : RowName). IsIn (place_of n inside) at) (h.own e).0 i))) (all-known p at level attr whole is));
    })
    (record { num_fits = omega arith; den_fits = omega arith }) none

one-cost : (level attr : ℕ) (l : Line) (side : Side) → (l.level ≡ level → (l.name ≡ StayOf attr) × (l.rel ≡ Eq) × (l.scale ≡ 1) × (l.weight ≡ 1)) → l.level ≡ level → reduced_number side level 1 1 (pos 0) l ≡ pos 1
one-cost level attr l Under h e = let a = stay-number level attr 1 l Under h e in let c : inside_number Under level 1 1 l -ℤ pos 0 ≡ pos 1 = omega (arith, ints, a) in c
one-cost level attr l Over h e = let a = stay-number level attr 1 l Over h e in let c : pos 0 -ℤ inside_number Over level 1 1 l ≡ pos 1 = omega (arith, ints, a) in over-as level 1 1 (pos 0) l ∙ c

pub outside_stay_costs_one : OutsideStayCostsOne
outside_stay_costs_one p level attr is =
    All-from_recursion (λ l. l.name ≡ StayOf attr → (side : Side) → reduced_number side level 1 1 (pos 0) l ≡ pos 1) (lines p)
    (each-impl (λ l. (l.level ≡ level → (l.name ≡ StayOf attr) × (l.rel ≡ Eq) × (l.scale ≡ 1) × (l.weight ≡ 1)) × (l.name ≡ StayOf attr → l.level ≡ level)) _ (lines p) (λ l h e side. one-cost level attr l side h.0 (h.1 e))
    (each-both _ _ (lines p) (recursion_from_All _ (lines p) is.own) (recursion_from_All _ (lines p) is.named)))

-- ---- the level as a quantity

pub stay_level_fits : StayLevelFits
stay_level_fits p at level attr side own line value is rays v low fits numbers two (k, there, none) =
    inside_stay_fits p at k attr side own line value
    (record { whole = is.whole; corner = is.corner; alone = stay_stands_alone p attr k is.whole there; inside = is.inside; line_is = is.line_is; lowest = is.lowest })
    rays v low fits numbers two none

pub stay_level_is_unfit : StayLevelIsUnfit
stay_level_is_unfit p at level attr side own line value is rays v low there unfit = (level, there, inside_stay_is_unfit p at level attr side own line value is rays v low unfit)

pub outside_stay_level_fits : OutsideStayLevelFits
outside_stay_level_fits p at attr whole corner rays out (k, there, none) = outside_stay_fits p at k attr whole corner rays (stay_stands_alone p attr k whole there) out none
