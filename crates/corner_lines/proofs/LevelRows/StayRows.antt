-- The level of a stay: its equation is the level's row.
use Rattle.std.proofs.Common.{◌≡◌, ◌≢◌, ◌∙◌, ℕ, zero, suc, ◌+◌, ◌-◌, ◌*◌, ◌<◌, ◌≤◌, List, [], ◌∷◌, ◌++◌, map, ℤ, pos, negsuc, ◌*ℤ◌, neg_ℤ, unsigned_abs, refl, sym, ap, subst, arith, inl, inr, AllPairs, Any, length, get_or}
use Rattle.std.specs.List.{AllByRecursion as Each}
use Rattle.std.specs.Int.{◌∣◌}
use Rattle.std.proofs.lemmas.Bool.{cases_eq}
use Rattle.std.proofs.lemmas.List.Elements.{All-from_recursion, recursion_from_All}
use borrow.Author.Differences.{ints}
use Rattle.frac_core.proofs.Integers.{mul-zero_ℤ, zero-mul_ℤ}
use Rattle.problem_core.specs.declared.parts.Mark.{Mark}
use Rattle.problem_core.specs.declared.parts.Rel.TheVariants.{Eq}
use Rattle.problem_core.specs.declared.parts.Side.{Side}
use Rattle.problem_core.specs.declared.parts.Side.TheVariants.{Under, Over}
use Rattle.problem_core.specs.declared.parts.Stay.{Stay}
use Rattle.problem_core.specs.declared.parts.RowName.{RowName}
use Rattle.problem_core.specs.declared.parts.RowName.TheVariants.{Held, Stay as StayOf}
use Rattle.problem_core.specs.Layout.{Line, Problem, Row, coefficient, line_of_row, lines, stay_lines, sum_of}
use Rattle.problem_core.specs.Certificates.{weight_at}
use Rattle.problem_core.specs.Corners.{IsCorner, IsIn, place_of}
use Rattle.problem_core.proofs.Forms.{each-impl, each-both, mul-sum, sum-cong}
use Rattle.problem_core.proofs.RowNames.{held-not-stay, stay-same}
use Rattle.corner_laws.specs.Units.{over_share, under_share}
use Rattle.corner_laws.proofs.Counting.{IsSmall, head_pairs, one_mark}
use Rattle.corner_laws.proofs.MarkWritings.Directions.{each-of}
use Rattle.corner_laws.proofs.LevelCosts.LevelSizes.{no-over, no-under}
use Rattle.corner_lines.specs.LineEquations.{IsOutsideLine}
use Rattle.corner_lines.specs.Levels.LevelRows.{inside_number}
use Rattle.corner_lines.specs.Levels.StayLevels.{InsideStayHasRow, IsInsideStay, OutsideStayHasRow, StayStandsAlone, turned}
use Rattle.corner_lines.proofs.LevelRows.LevelExchanges.{pivot-zeros, at-side}
use Rattle.corner_lines.proofs.Lines.LineWritings.{all-small}
use Rattle.corner_laws.proofs.LevelCosts.StayLevels.{under-one, over-one, stay-unit}
use Rattle.corner_lines.proofs.LevelRows.LevelJoins.{one-divides}
use Rattle.frac_core.proofs.Numbers.{no-product as no-share, neg-times}
use Rattle.frac_core.proofs.Lists.{pairs-rest as tail_pairs, each-joined}
use Rattle.problem_core.proofs.Lines.{own-weight as own_weight}
use Rattle.problem_core.specs.Levels.{IsLevelAt}
use Rattle.problem_core.specs.Kept.{IsWhole}
use Rattle.problem_core.specs.declared.parts.Level.{Level}
use Rattle.problem_core.specs.declared.parts.Level.TheVariants.{Priority, Stay as StayLevel}
use Rattle.corner_laws.proofs.RunSteps.ColumnSigns.{pick}

-- ---- a stay stands alone at its level

-- what is asked of a line
record IsAlone (level attr : ℕ) (l : Line) : Type 0 where
  own : l.level ≡ level → (l.name ≡ StayOf attr) × (l.rel ≡ Eq) × (l.scale ≡ 1) × (l.weight ≡ 1)
  named : l.name ≡ StayOf attr → l.level ≡ level

alone-rows : (level attr : ℕ) (rows : List Row) → 1001 ≤ level → Each (IsAlone level attr) (map line_of_row rows)
alone-rows level attr [] le = tt
alone-rows level attr (r ∷ rows) le = (record { own = λ e. absurd (omega (arith, le, e)); named = λ e. absurd (held-not-stay r.id attr e) }, alone-rows level attr rows le)

-- the stays behind a place have later levels
later : (level attr base : ℕ) (stays : List Stay) → level < base → Each (λ s. attr ≢ s.attr) stays → Each (IsAlone level attr) (stay_lines base stays)
later level attr base [] lt ne = tt
later level attr base (s ∷ stays) lt ne = (
  record { own = λ e. absurd (omega (arith, lt, e)); named = λ e. absurd (ne.0 (sym (stay-same s.attr attr e))) },
  later level attr (base + 1) stays (omega (arith, lt)) ne.1,
)

other-attr : (a attr base : ℕ) (stays : List Stay) (k : ℕ) (l : Line) → k < length (stay_lines base stays) → get_or (stay_lines base stays) k l ≡ l → l.name ≡ StayOf attr → StayOf a ≡ StayOf attr → Each (λ t. a ≢ t.attr) stays → ⊥
other-attr a attr base [] k l within is e h ne = absurd (omega (arith, within))
other-attr a attr base (t ∷ stays) zero l within is e h ne = ne.0 (stay-same a t.attr (h ∙ sym (ap (λ (m : Line). m.name) is ∙ e)))
other-attr a attr base (t ∷ stays) (suc k) l within is e h ne = other-attr a attr (base + 1) stays k l (omega (arith, within)) is e h ne.1

-- the first of the stays that has the level, and the others
alone-stays : (level attr base : ℕ) (stays : List Stay) → AllPairs (λ s t. s.attr ≢ t.attr) stays → Any (λ l. (l.name ≡ StayOf attr) × (l.level ≡ level)) (stay_lines base stays) → (base ≤ level) × Each (IsAlone level attr) (stay_lines base stays)
alone-stays level attr base [] apart (k, l, within, is, e) = absurd (omega (arith, within))
alone-stays level attr base (s ∷ stays) apart (zero, l, within, is, e) =
    let name : StayOf s.attr ≡ StayOf attr = ap (λ (m : Line). m.name) is ∙ e.0 in
    let same : s.attr ≡ attr = stay-same s.attr attr name in
    let there : base ≡ level = ap (λ (m : Line). m.level) is ∙ e.1 in (
      omega (arith, there),
      (
        record { own = λ h. (name, refl, refl, refl); named = λ h. there },
        later level attr (base + 1) stays (omega (arith, there)) (each-impl (λ t. s.attr ≢ t.attr) (λ t. attr ≢ t.attr) stays (λ t ne q. ne (same ∙ q)) (recursion_from_All (λ t. s.attr ≢ t.attr) stays (head_pairs (λ s t. s.attr ≢ t.attr) s stays apart))),
      ),
    )
alone-stays level attr base (s ∷ stays) apart (suc k, l, within, is, e) =
    let rest = alone-stays level attr (base + 1) stays (tail_pairs (λ s t. s.attr ≢ t.attr) s stays apart) (k, l, omega (arith, within), is, e) in
    let low = rest.0 in (
      omega (arith, low),
      (
        record {
          own = λ h. absurd (omega (arith, low, h));
          named = λ h. absurd (other-attr s.attr attr (base + 1) stays k l (omega (arith, within)) is e.0 h (recursion_from_All (λ t. s.attr ≢ t.attr) stays (head_pairs (λ s t. s.attr ≢ t.attr) s stays apart)));
        },
        rest.1,
      ),
    )

-- ---- shares

-- the stay's own share is 1, all others are 0
pub stay-number : (level attr own : ℕ) (l : Line) (side : Side) → (l.level ≡ level → (l.name ≡ StayOf attr) × (l.rel ≡ Eq) × (l.scale ≡ 1) × (l.weight ≡ 1)) → l.level ≡ level → inside_number side level 1 own l ≡ turned side (neg_ℤ (pos own))
stay-number level attr own l Under h e =
    let one : own * under_share 1 level l ≡ own = let u = under-one l.rel (weight_at l level) l.scale (h e).1 (own_weight l level e ∙ (h e).3) (h e).2 in ap (λ (n : ℕ). own * n) u ∙ omega arith in
    ap pos one ∙ omega (arith, ints)
stay-number level attr own l Over h e =
    let one : own * over_share 1 level l ≡ own = let u = over-one l.rel (weight_at l level) l.scale (h e).1 (own_weight l level e ∙ (h e).3) (h e).2 in ap (λ (n : ℕ). own * n) u ∙ omega arith in
    ap (λ (n : ℕ). neg_ℤ (pos n)) one

pub no-number : (level own : ℕ) (l : Line) (side : Side) → l.level ≢ level → inside_number side level 1 own l ≡ pos 0
no-number level own l Under ne = ap pos (no-share own (under_share 1 level l) (no-under 1 level l ne))
no-number level own l Over ne = ap (λ (n : ℕ). neg_ℤ (pos n)) (no-share own (over_share 1 level l) (no-over 1 level l ne))

-- ---- a stay inside

pub turned-zero : (side : Side) → turned side (pos 0) ≡ pos 0
turned-zero Under = omega (arith, ints)
turned-zero Over = refl

pub turned-size : (side : Side) (z : ℤ) → unsigned_abs (turned side z) ≡ unsigned_abs z
turned-size Under z = omega (arith, ints)
turned-size Over z = refl

turned-cancel : (p : Problem) (side : Side) (y : RowName → ℤ) (v : ℕ) → sum_of (λ l. y l.name *ℤ coefficient v l.form) (lines p) ≡ pos 0 → sum_of (λ l. turned side (y l.name) *ℤ coefficient v l.form) (lines p) ≡ pos 0
turned-cancel p Under y v h =
    sum-cong (λ l. neg_ℤ (y l.name) *ℤ coefficient v l.form) (λ l. negsuc 0 *ℤ (y l.name *ℤ coefficient v l.form)) (lines p) (λ l. minus-one (y l.name) (coefficient v l.form))
    ∙ mul-sum (negsuc 0) (λ l. y l.name *ℤ coefficient v l.form) (lines p) ∙ ap (λ (z : ℤ). negsuc 0 *ℤ z) h ∙ mul-zero_ℤ (negsuc 0)
  where
    minus-one : (y c : ℤ) → neg_ℤ y *ℤ c ≡ negsuc 0 *ℤ (y *ℤ c)
    minus-one y c = neg-times y c ∙ (let z : ℤ = y *ℤ c in omega (arith, ints))
turned-cancel p Over y v h = h

-- what is known of a line
record Known (at : List Mark) (level attr : ℕ) (line : RowName → ℤ) (l : Line) : Type 0 where
  small : IsSmall l.name
  own : l.level ≡ level → (l.name ≡ StayOf attr) × (l.rel ≡ Eq) × (l.scale ≡ 1) × (l.weight ≡ 1)
  named : l.name ≡ StayOf attr → l.level ≡ level
  nil : (side : Side) → IsIn (place_of l.name side) at → l.name ≢ StayOf attr → line l.name ≡ pos 0

all-known : (p : Problem) (at : List Mark) (level attr : ℕ) (side : Side) (own : ℕ) (line : RowName → ℤ) → IsInsideStay p at level attr side own line → Each (Known at level attr line) (lines p)
all-known p at level attr side own line is =
    each-impl (λ l. (IsSmall l.name × ((l.level ≡ level → (l.name ≡ StayOf attr) × (l.rel ≡ Eq) × (l.scale ≡ 1) × (l.weight ≡ 1)) × (l.name ≡ StayOf attr → l.level ≡ level))) × ((side : Side) → IsIn (place_of l.name side) at → l.name ≢ StayOf attr → line l.name ≡ pos 0)) _ (lines p)
    (λ l h. record { small = h.0.0; own = h.0.1.0; named = h.0.1.1; nil = h.1 })
    (each-both _ _ (lines p) (each-both _ _ (lines p) (all-small p is.whole) (each-both _ _ (lines p) (recursion_from_All _ (lines p) is.alone.own) (recursion_from_All _ (lines p) is.alone.named)))
    (pivot-zeros p at (StayOf attr) (StayOf attr) own line is.line_is))

inside-there : (p : Problem) (at : List Mark) (level attr : ℕ) (side : Side) (own : ℕ) (line : RowName → ℤ) (l : Line) (here : Side) → IsInsideStay p at level attr side own line → Known at level attr line l → IsIn (place_of l.name here) at → turned side (line l.name) ≡ inside_number here level 1 own l
inside-there p at level attr side own line l here is k i =
    elim (cases_eq l.level level) [
      | inl e ↦
          let name : l.name ≡ StayOf attr = (k.own e).0 in
          let same : here ≡ side = one-side p at (StayOf attr) here side (subst IsSmall name k.small) is.corner (subst (λ (n : RowName). IsIn (place_of n here) at) name i) is.inside in
          ap (λ (n : RowName). turned side (line n)) name ∙ ap (turned side) is.line_is.enter_is ∙ ap (λ (s : Side). turned s (neg_ℤ (pos own))) (sym same) ∙ sym (stay-number level attr own l here k.own e)
      | inr ne ↦ ap (turned side) (k.nil here i (λ e. ne (k.named e))) ∙ turned-zero side ∙ sym (no-number level own l here ne)
    ]
  where
    one-side : (p : Problem) (at : List Mark) (name : RowName) (x y : Side) → IsSmall name → IsCorner p at → IsIn (place_of name x) at → IsIn (place_of name y) at → x ≡ y
    one-side p at name Under Under small corner i j = refl
    one-side p at name Over Over small corner i j = refl
    one-side p at name Under Over small corner i j = absurd (one_mark p at name small corner i j)
    one-side p at name Over Under small corner i j = absurd (one_mark p at name small corner j i)

pub inside_stay_has_row : InsideStayHasRow
inside_stay_has_row p at level attr side own line is =
    let known = all-known p at level attr side own line is in (
      stay-unit p level attr is.alone,
      record {
        by = λ name. turned side (line name);
        row = record {
          own_positive = is.line_is.size_positive;
          cancel = λ v. turned-cancel p side line v (is.line_is.cancel v);
          under = All-from_recursion (λ l. IsIn (place_of l.name Under) at → turned side (line l.name) ≡ pos (own * under_share 1 level l)) (lines p) (each-impl (Known at level attr line) _ (lines p) (λ l k i. inside-there p at level attr side own line l Under is k i) known);
          over = All-from_recursion (λ l. IsIn (place_of l.name Over) at → turned side (line l.name) ≡ neg_ℤ (pos (own * over_share 1 level l))) (lines p) (each-impl (Known at level attr line) _ (lines p) (λ l k i. inside-there p at level attr side own line l Over is k i) known);
          lowest = λ k d each.
              is.lowest k d
              (All-from_recursion (λ l. IsOutsideLine at l.name → k ∣ unsigned_abs (line l.name)) (lines p)
              (each-impl (λ l. (IsIn (place_of l.name Under) at → ⊥) → (IsIn (place_of l.name Over) at → ⊥) → k ∣ unsigned_abs (turned side (line l.name))) _ (lines p)
              (λ l h out. subst (λ (n : ℕ). k ∣ n) (turned-size side (line l.name)) (h out.under out.over)) (recursion_from_All _ (lines p) each)));
        };
        outside = All-from_recursion (λ l. IsOutsideLine at l.name → turned side (line l.name) ≡ turned side (line l.name)) (lines p) (each-of (λ l. IsOutsideLine at l.name → turned side (line l.name) ≡ turned side (line l.name)) (lines p) (λ l out. refl));
      },
    )

-- ---- a stay outside

none-there : (at : List Mark) (level attr : ℕ) (l : Line) (side : Side) → (l.level ≡ level → (l.name ≡ StayOf attr) × (l.rel ≡ Eq) × (l.scale ≡ 1) × (l.weight ≡ 1)) → IsOutsideLine at (StayOf attr) → IsIn (place_of l.name side) at → pos 0 ≡ inside_number side level 1 1 l
none-there at level attr l side h out i = elim (cases_eq l.level level) [
  | inl e ↦ absurd (at-side side at (StayOf attr) out (subst (λ (n : RowName). IsIn (place_of n side) at) (h e).0 i))
  | inr ne ↦ sym (no-number level 1 l side ne)
]

pub outside_stay_has_row : OutsideStayHasRow
outside_stay_has_row p at level attr is out = (
  stay-unit p level attr is,
  record {
    by = λ name. pos 0;
    row = record {
      own_positive = omega arith;
      cancel = λ v.
          sum-cong (λ l. pos 0 *ℤ coefficient v l.form) (λ l. pos 0 *ℤ pos 0) (lines p) (λ l. zero-mul_ℤ (coefficient v l.form))
          ∙ mul-sum (pos 0) (λ l. pos 0) (lines p) ∙ zero-mul_ℤ (sum_of (λ (l : Line). pos 0) (lines p));
      under = All-from_recursion (λ l. IsIn (place_of l.name Under) at → pos 0 ≡ pos (1 * under_share 1 level l)) (lines p) (each-impl (λ l. l.level ≡ level → (l.name ≡ StayOf attr) × (l.rel ≡ Eq) × (l.scale ≡ 1) × (l.weight ≡ 1)) _ (lines p) (λ l h i. none-there at level attr l Under h out i) (recursion_from_All _ (lines p) is.own));
      over = All-from_recursion (λ l. IsIn (place_of l.name Over) at → pos 0 ≡ neg_ℤ (pos (1 * over_share 1 level l))) (lines p) (each-impl (λ l. l.level ≡ level → (l.name ≡ StayOf attr) × (l.rel ≡ Eq) × (l.scale ≡ 1) × (l.weight ≡ 1)) _ (lines p) (λ l h i. none-there at level attr l Over h out i) (recursion_from_All _ (lines p) is.own));
      lowest = λ k d each. one-divides k d;
    };
    outside = All-from_recursion (λ l. IsOutsideLine at l.name → pos 0 ≡ pos 0) (lines p) (each-of (λ l. IsOutsideLine at l.name → pos 0 ≡ pos 0) (lines p) (λ l o. refl));
  },
)

-- ---- the stay's level

any-stays : (P : Line → Type 0) (rows : List Row) (ls : List Line) → Each (λ r. P (line_of_row r) → ⊥) rows → Any P (map line_of_row rows ++ ls) → Any P ls
any-stays P [] ls h a = a
any-stays P (r ∷ rows) ls h (zero, l, within, is, e) = absurd (h.0 (subst P (sym is) e))
any-stays P (r ∷ rows) ls h (suc k, l, within, is, e) = any-stays P rows ls h.1 (k, l, omega (arith, within), is, e)

pub stay_stands_alone : StayStandsAlone
stay_stands_alone p attr level whole there =
    let some : Any (λ l. (l.name ≡ StayOf attr) × (l.level ≡ level)) (stay_lines 1001 p.stays) =
    any-stays (λ l. (l.name ≡ StayOf attr) × (l.level ≡ level)) p.rows (stay_lines 1001 p.stays) (each-of (λ r. ((Held r.id ≡ StayOf attr) × (1000 - r.rank ≡ level)) → ⊥) p.rows (λ r e. held-not-stay r.id attr e.0)) there in
    let stays = alone-stays level attr 1001 p.stays whole.apart some in
    let all : Each (IsAlone level attr) (lines p) = each-joined (IsAlone level attr) (map line_of_row p.rows) (stay_lines 1001 p.stays) (alone-rows level attr p.rows stays.0) stays.1 in
    record {
      own = All-from_recursion (λ l. l.level ≡ level → (l.name ≡ StayOf attr) × (l.rel ≡ Eq) × (l.scale ≡ 1) × (l.weight ≡ 1)) (lines p) (each-impl (IsAlone level attr) _ (lines p) (λ l h. h.own) all);
      named = All-from_recursion (λ l. l.name ≡ StayOf attr → l.level ≡ level) (lines p) (each-impl (IsAlone level attr) _ (lines p) (λ l h. h.named) all);
    }

-- a level has one number
pub level_one : (p : Problem) (level : Level) (j k : ℕ) → IsWhole p → IsLevelAt p level j → IsLevelAt p level k → j ≡ k
level_one p (Priority rank) j k whole a b = omega (arith, a, b)
level_one p (StayLevel attr) j k whole (i, x, within, is, (name, e)) b =
    sym e ∙ pick (λ l. l.name ≡ StayOf attr → l.level ≡ k) (lines p) i x (recursion_from_All _ (lines p) (stay_stands_alone p attr k whole b).named) within is name
