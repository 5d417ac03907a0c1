-- What the code finds where a row joins its level: the row, or that the level's cost does not fit.
use Rattle.std.proofs.Common.{◌≡◌, ◌≢◌, ◌∙◌, ℕ, zero, suc, ◌+◌, ◌-◌, ◌*◌, ◌/◌, ◌<◌, ◌≤◌, Bool, cond, List, [], ◌∷◌, refl, sym, ap, ap₂, subst, arith, inl, inr, ◌⊎◌, ℤ, pos, negsuc, neg_ℤ, ◌+ℤ◌, ◌-ℤ◌, ◌*ℤ◌, ◌<ℤ◌, unsigned_abs, All, eq-eqb, ne_eqb, get_or}
use Rattle.std.proofs.Math.IntN.{*ℤ_comm}
use Rattle.std.proofs.lemmas.Bool.{cases_eq}
use borrow.Author.Differences.{ints}
use Rattle.frac_core.specs.Fraction.{IsFitting, IsRatio}
use Rattle.frac_core.specs.declared.frac.TheConstants.{PART_BOUND}
use Rattle.std.proofs.lemmas.Int.{unsigned_abs-mul}
use Rattle.frac_core.proofs.Integers.{mul_assoc_ℤ, mul_left_comm_ℤ, sign_cases, zero_from_mul}
use Rattle.row_core.specs.Rows.{Term, coefficient, IsLowestRow, IsReduced, IsUnfit}
use Rattle.problem_core.specs.declared.parts.Rel.{Rel}
use Rattle.problem_core.specs.declared.parts.Rel.TheVariants.{Eq, Le, Ge}
use Rattle.problem_core.specs.declared.parts.Side.{Side}
use Rattle.problem_core.specs.declared.parts.Side.TheVariants.{Under, Over}
use Rattle.problem_core.specs.declared.parts.RowName.{RowName}
use Rattle.problem_core.specs.declared.parts.RowName.TheVariants.{Held}
use Rattle.problem_core.specs.Layout.{Line, Row, line_of_row, lines}
use Rattle.problem_core.specs.Corners.{IsIn, place_of}
use Rattle.problem_core.specs.Certificates.{over_weight, under_weight, weight_at}
use Rattle.problem_core.specs.Window.{zero_fraction}
use Rattle.problem_core.specs.Levels.{HasNoLevelWriting}
use Rattle.corner_laws.specs.Units.{over_share, under_share}
use Rattle.corner_lines.specs.LineEquations.{AreReduced, IsOutsideLine, sign_of}
use Rattle.corner_lines.specs.Levels.LevelRows.{HasLevelRow, inside_number, reduced_number}
use Rattle.corner_lines.proofs.Costs.LevelFits.{divided}
use Rattle.corner_joins.specs.declared.joining.Rise.{Rise}
use Rattle.corner_table.specs.Tables.{Lists, entry, marks_at, priority_at, problem_of, row_at, slot_at}
use Rattle.corner_writings.specs.Rows.{row_number}
use Rattle.corner_table.specs.Reads.LevelNumbers.{share_of, side_share}
use Rattle.corner_joins.specs.Additions.Parts.{IsPartlyKept}
use Rattle.corner_joins.specs.Additions.CostJoins.{HasOutside, IsInUnit, IsJoining, IsRiseAt, IsShare, IsShared, IsUnfitRise, IsUnitPart, home_at, shared_whole, unit_whole, with_next}
use Rattle.corner_table.proofs.Readings.SlotFacts.{any_is}
use Rattle.corner_exchange.proofs.Basics.RowEquations.{positive_part, reduced_terms, unfit_terms}
use Rattle.corner_laws.proofs.LevelCosts.Equal.{cancel-left}
use Rattle.corner_joins.proofs.Costs.CostLines.{IsNextAt, whole_names, next_at, next_home, next_in, next_line, next_slot, next_sound}
use Rattle.corner_joins.proofs.Costs.CostJoins.{IsCostJoin, joined_row, joined_sum, joined_unit, part_of, row_unfit, size_of}
use Rattle.corner_joins.proofs.Costs.CostTerms.{IsCostRow, IsStage, by_slot, lowest_terms, size-above, stage_names, stage_outside, stage_row, stage_terms, whole_own}
use Rattle.corner_joins.proofs.Basics.SmallFacts.{weight-there}
use Rattle.frac_core.proofs.Numbers.{product-above as above-product}
use Rattle.problem_core.proofs.Sides.{zero-kept as zero_kept}

-- ---- what the line counts

pub rise_join : (t : Lists) (r : Row) (line : ℕ) (rise : Rise) → IsPartlyKept t → IsJoining t r line → (h : IsRiseAt t line rise) → (side : Side) × IsCostJoin t r line side (home_at t line) h.times
rise_join t r line rise kept joins h =
    let n = next_at t r line kept joins in
    (n.0, record { next = n.1; level = next_home t r line n.0 n.1; above = h.above; least = h.least })

pub unfit_join : (t : Lists) (r : Row) (line : ℕ) → IsPartlyKept t → IsJoining t r line → (h : IsUnfitRise (slot_at t line) (priority_at t (home_at t line)).unit) → (side : Side) × IsCostJoin t r line side (home_at t line) h.times
unfit_join t r line kept joins h =
    let n = next_at t r line kept joins in
    (n.0, record { next = n.1; level = next_home t r line n.0 n.1; above = h.above; least = h.least })

-- the share of the row in its level's unit
share-is : (t : Lists) (r : Row) (line : ℕ) (side : Side) (unit : ℕ) → IsNextAt t r line side → share_of (slot_at t line) (pos unit) ≡ unit * r.weight / r.scale
share-is t r line side unit n =
    let s = next_slot t r line side n in
    ap (λ (w : ℕ). unit * unsigned_abs (slot_at t w).weight / unsigned_abs (slot_at t w).scale) (sym n.slot_is)
    ∙ ap₂ (λ (x y : ℤ). unit * unsigned_abs x / unsigned_abs y) s.weight s.scale

rel-is : (t : Lists) (r : Row) (line : ℕ) (side : Side) → IsNextAt t r line side → (slot_at t line).rel ≡ r.rel
rel-is t r line side n = ap (λ (w : ℕ). (slot_at t w).rel) (sym n.slot_is) ∙ (next_slot t r line side n).rel

signed-share : (side : Side) (rel : Rel) (l unit m : ℕ) (r : Row) → rel ≡ r.rel → l ≡ 1000 - r.rank → m ≡ unit * r.weight / r.scale → pos (side_share rel side m) *ℤ sign_of side ≡ neg_ℤ (inside_number side l unit 1 (line_of_row r))
signed-share Under rel l unit m r e f g =
    ap₂ (λ (q : Rel) (n : ℕ). pos (under_weight q n) *ℤ negsuc 0) e (g ∙ ap (λ (w : ℕ). unit * w / r.scale) (sym (weight-there r l f)))
    ∙ (let x : ℕ = under_share unit l (line_of_row r) in opposite (under_share unit l (line_of_row r)))
  where
    opposite : (x : ℕ) → pos x *ℤ negsuc 0 ≡ neg_ℤ (pos (1 * x))
    opposite x = omega (arith, ints)
signed-share Over rel l unit m r e f g =
    ap₂ (λ (q : Rel) (n : ℕ). pos (over_weight q n) *ℤ pos 1) e (g ∙ ap (λ (w : ℕ). unit * w / r.scale) (sym (weight-there r l f)))
    ∙ twice (over_share unit l (line_of_row r))
  where
    twice : (x : ℕ) → pos x *ℤ pos 1 ≡ neg_ℤ (neg_ℤ (pos (1 * x)))
    twice x = omega (arith, ints)

pub count_is : (t : Lists) (r : Row) (line : ℕ) (side : Side) (l times : ℕ) (unit : ℤ) → (j : IsCostJoin t r line side l times) → unit ≡ pos (times * (part_of t r line side l times j).unit)
    → pos (side_share (slot_at t line).rel side (share_of (slot_at t line) unit)) *ℤ sign_of side ≡ neg_ℤ (inside_number side l (times * (part_of t r line side l times j).unit) 1 (line_of_row r))
count_is t r line side l times unit j e =
    let u : ℕ = times * (part_of t r line side l times j).unit in
    ap (λ (z : ℤ). pos (side_share (slot_at t line).rel side (share_of (slot_at t line) z)) *ℤ sign_of side) e
    ∙ signed-share side (slot_at t line).rel l (times * (part_of t r line side l times j).unit) (share_of (slot_at t line) (pos (times * (part_of t r line side l times j).unit))) r (rel-is t r line side j.next) j.level
    (share-is t r line side (times * (part_of t r line side l times j).unit) j.next)

-- ---- a level's row there is

-- whatever fits
pub true_row : (t : Lists) (r : Row) (line : ℕ) (side : Side) (l times : ℕ) → (j : IsCostJoin t r line side l times)
    → (low : ℕ) × (next : RowName → ℤ) × HasLevelRow (with_next t l) (marks_at t) l (times * (part_of t r line side l times j).unit) low next
true_row t r line side l times j =
    let part = part_of t r line side l times j in
    let size : ℕ = size_of t r line side j.next in
    let c : ℤ = neg_ℤ (inside_number side l (times * part.unit) 1 (line_of_row r)) in
    let d = divided (with_next t l) (marks_at t) (size_of t r line side j.next * part.own) (joined_sum t r line l (size_of t r line side j.next) times (size_of t r line side j.next) (pos part.own *ℤ neg_ℤ (inside_number side l (times * part.unit) 1 (line_of_row r))))
    (above-product (size_of t r line side j.next) part.own (size-above t r line side j.next) part.numbers.row.own_positive) in (
      d.0,
      d.1,
      joined_row t r line side l times (size_of t r line side j.next) d.0 (pos part.own *ℤ neg_ℤ (inside_number side l (times * part.unit) 1 (line_of_row r))) (neg_ℤ (inside_number side l (times * part.unit) 1 (line_of_row r))) d.1 j
          (size-above t r line side j.next) refl refl d.2,
    )

-- where the unit does not fit, the level's cost does not
pub rise_unfit : (t : Lists) (r : Row) (line : ℕ) (side : Side) (l times : ℕ) → (j : IsCostJoin t r line side l times) → PART_BOUND ≤ times * (part_of t r line side l times j).unit → HasNoLevelWriting (with_next t l) (marks_at t) l
rise_unfit t r line side l times j large =
    let part = part_of t r line side l times j in
    let sound = next_sound t l ((priority_at t l).rows + 1) j.next.kept in
    let row = true_row t r line side l times j in
    row_unfit (with_next t l) (marks_at t) l (times * part.unit) row.0 row.1 sound.0 sound.1 sound.2 (joined_unit t r line side l times j) row.2
    (λ fit. too-large row.0 (times * part.unit) row.2.row.own_positive fit.scale_fits large)
  where
    too-large : (own unit : ℕ) → 0 < own → own * unit < PART_BOUND → PART_BOUND ≤ unit → ⊥
    too-large zero unit up h k = omega (arith, up)
    too-large (suc own) unit up h k = let n : ℕ = own * unit in let e : suc own * unit ≡ own * unit + unit = omega arith in omega (arith, e, h, k)

-- and where the line's share does not fit
pub share_unfit : (t : Lists) (r : Row) (line : ℕ) (side : Side) (l times : ℕ) (unit : ℤ) → (j : IsCostJoin t r line side l times) → unit ≡ pos (times * (part_of t r line side l times j).unit) → PART_BOUND ≤ share_of (slot_at t line) unit
    → HasNoLevelWriting (with_next t l) (marks_at t) l
share_unfit t r line side l times unit j e large =
    let part = part_of t r line side l times j in
    let sound = next_sound t l ((priority_at t l).rows + 1) j.next.kept in
    let row = true_row t r line side l times j in
    let u : ℕ = times * part.unit in
    let most : PART_BOUND ≤ times * part.unit * weight_at (line_of_row r) l / r.scale =
    subst (λ (n : ℕ). PART_BOUND ≤ n) (ap (λ (z : ℤ). share_of (slot_at t line) z) e ∙ share-is t r line side (times * part.unit) j.next ∙ ap (λ (w : ℕ). times * part.unit * w / r.scale) (sym (weight-there r l j.level))) large in
    row_unfit (with_next t l) (marks_at t) l (times * part.unit) row.0 row.1 sound.0 sound.1 sound.2 (joined_unit t r line side l times j) row.2
    (λ fit. any_is (λ k. k.level ≡ l → (s inside : Side) → IsIn (place_of k.name inside) (marks_at t) → IsFitting (reduced_number s l (times * part.unit) row.0 (inside_number inside l (times * part.unit) row.0 k) k)) (λ k. k ≡ line_of_row r) (lines (with_next t l)) fit.inside_fit (next_line t r l j.next.next j.level)
    (λ k h same. heavy side (subst (λ (k : Line). k.level ≡ l → (s inside : Side) → IsIn (place_of k.name inside) (marks_at t) → IsFitting (reduced_number s l (times * part.unit) row.0 (inside_number inside l (times * part.unit) row.0 k) k)) same h (sym j.level))
    (next_in t r line side j.next) row.2.row.own_positive r.rel most))
  where
    both : (rel : Rel) (own n : ℕ) → 0 < own → PART_BOUND ≤ n → PART_BOUND ≤ own * under_weight rel n + own * over_weight rel n
    both rel zero n up h = absurd (omega (arith, up))
    both Eq (suc own) n up h = let m : ℕ = own * n in let e : suc own * n ≡ own * n + n = omega arith in omega (arith, e, h)
    both Le (suc own) n up h = let m : ℕ = own * n in let e : suc own * n ≡ own * n + n = omega arith in omega (arith, e, h)
    both Ge (suc own) n up h = let m : ℕ = own * n in let e : suc own * n ≡ own * n + n = omega arith in omega (arith, e, h)

    taken : (a b : ℕ) → IsFitting (pos a -ℤ neg_ℤ (pos b)) → PART_BOUND ≤ a + b → ⊥
    taken a b h k = omega (arith, ints, h, k)

    added : (a b : ℕ) → IsFitting (pos b +ℤ pos a) → PART_BOUND ≤ a + b → ⊥
    added a b h k = omega (arith, ints, h, k)

    heavy : {l unit own : ℕ} (side : Side) → ((s inside : Side) → IsIn (place_of (Held r.id) inside) (marks_at t) → IsFitting (reduced_number s l unit own (inside_number inside l unit own (line_of_row r)) (line_of_row r)))
        → IsIn (place_of (Held r.id) side) (marks_at t) → 0 < own → (rel : Rel) → PART_BOUND ≤ unit * weight_at (line_of_row r) l / r.scale → ⊥
    heavy {l} {unit} {own} Under h i up rel most = added (own * under_share unit l (line_of_row r)) (own * over_share unit l (line_of_row r)) (h Over Under i) (both r.rel own (unit * weight_at (line_of_row r) l / r.scale) up most)
    heavy {l} {unit} {own} Over h i up rel most = taken (own * under_share unit l (line_of_row r)) (own * over_share unit l (line_of_row r)) (h Under Over i) (both r.rel own (unit * weight_at (line_of_row r) l / r.scale) up most)

-- ---- the rows that the code makes

-- the level's own number in the row with the line's share
shared-own : (t : Lists) (r : Row) (line : ℕ) (side : Side) (l times k : ℕ) (n : ℤ) (old row : List Term) → (j : IsCostJoin t r line side l times) → IsCostRow t l old → 0 < k → (red : IsReduced row (shared_whole t old line (pos times) k n))
    → (low : ℕ) × (coefficient l row ≡ pos low) × (0 < low) × (red.factor * low ≡ k * times * (part_of t r line side l times j).own)
shared-own t r line side l times k n old row j cost up red =
    positive_part red.factor (k * times * (part_of t r line side l times j).own) (coefficient l row)
    (above-product (k * times) (part_of t r line side l times j).own (above-product k times up j.above) (part_of t r line side l times j).numbers.row.own_positive)
    (red.same l ∙ whole_own t r line side l times k n old j cost)

pub shared_above : (t : Lists) (r : Row) (line : ℕ) (side : Side) (l times : ℕ) (c : ℤ) (old row : List Term) → IsCostJoin t r line side l times → IsCostRow t l old → IsShared t old line c (pos times) row → pos 0 <ℤ coefficient l row
shared_above t r line side l times c old row j cost (k, n, share, red) =
    let o = shared-own t r line side l times k n old row j cost share.above red in
    subst (λ (z : ℤ). pos 0 <ℤ z) (sym o.1) (above-is o.0 o.2)
  where
    above-is : (n : ℕ) → 0 < n → pos 0 <ℤ pos n
    above-is n h = omega (arith, ints, h)

-- the row in the new unit as a stage
unit-stage : (t : Lists) (r : Row) (line : ℕ) (side : Side) (l times k1 k2 : ℕ) (n own2 : ℤ) (old row : List Term) → IsCostJoin t r line side l times → (red : IsReduced row (shared_whole t old line (pos times) k1 n)) → IsUnitPart row l (pos times) k2 own2
    → IsStage l (shared_whole t old line (pos times) k1 n) (unit_whole row l k2 own2) red.factor k2
unit-stage t r line side l times k1 k2 n own2 old row j red part = record {
  above = red.above;
  times = part.above;
  off = λ c ne.
      ap (λ (b : Bool). pos red.factor *ℤ cond b own2 (pos k2 *ℤ coefficient c row)) (ne_eqb c l ne)
      ∙ mul_left_comm_ℤ (pos red.factor) (pos k2) (coefficient c row) ∙ ap (λ (z : ℤ). pos k2 *ℤ z) (red.same c);
}

unit-own : (row : List Term) (l k2 : ℕ) (own2 : ℤ) → unit_whole row l k2 own2 l ≡ own2
unit-own row l k2 own2 = ap (λ (b : Bool). cond b own2 (pos k2 *ℤ coefficient l row)) (eq-eqb l l refl)

-- its own number, and with what factors it is the level's
own-part : (times k2 low1 k1 own f : ℕ) (own2 c : ℤ) → 0 < times → 0 < k2 → 0 < low1 → c ≡ pos low1 → own2 *ℤ pos times ≡ pos k2 *ℤ c → f * low1 ≡ k1 * times * own → (o : ℕ) × (own2 ≡ pos o) × (0 < o) × (f * o ≡ k2 * k1 * own)
own-part times k2 low1 k1 own f own2 c up above more e h g =
    let same : pos times *ℤ own2 ≡ pos (k2 * low1) = *ℤ_comm (pos times) own2 ∙ h ∙ ap (λ (z : ℤ). pos k2 *ℤ z) e in
    let part = positive_part times (k2 * low1) own2 (above-product k2 low1 above more) same in
    (part.0, part.1, part.2, cancel times (f * part.0) (k2 * k1 * own) up (step times f part.0 k2 low1 k1 own part.3 g))
  where
    cancel : (g a b : ℕ) → 0 < g → g * a ≡ g * b → a ≡ b
    cancel zero a b h e = absurd (omega (arith, h))
    cancel (suc g) a b h e = cancel-left (suc g) a b h e

    step : (times f o k2 low1 k1 own : ℕ) → times * o ≡ k2 * low1 → f * low1 ≡ k1 * times * own → times * (f * o) ≡ times * (k2 * k1 * own)
    step times f o k2 low1 k1 own e g =
        let a : times * (f * o) ≡ f * (times * o) = omega arith in
        let b : f * (k2 * low1) ≡ k2 * (f * low1) = omega arith in
        let d : k2 * (k1 * times * own) ≡ times * (k2 * k1 * own) = omega arith in
        a ∙ ap (λ (n : ℕ). f * n) e ∙ b ∙ ap (λ (n : ℕ). k2 * n) g ∙ d

pub joined_ok : (t : Lists) (r : Row) (line : ℕ) (side : Side) (l times : ℕ) (c : ℤ) (old row new : List Term) → (j : IsCostJoin t r line side l times) → IsCostRow t l old
    → c ≡ neg_ℤ (inside_number side l (times * (part_of t r line side l times j).unit) 1 (line_of_row r)) → IsShared t old line c (pos times) row → IsInUnit row l (pos times) new → IsLowestRow new
    → (low : ℕ) × (coefficient l new ≡ pos low) × HasLevelRow (with_next t l) (marks_at t) l (times * (part_of t r line side l times j).unit) low (row_number t l new) × HasOutside t l new
joined_ok t r line side l times c old row new j cost counts (k1, n, share, red) (k2, own2, part, last) lowest =
    let o = shared-own t r line side l times k1 n old row j cost share.above red in
    let q = own-part times k2 o.0 k1 (part_of t r line side l times j).own red.factor own2 (coefficient l row) j.above part.above o.2 o.1 part.same o.3 in
    let st = unit-stage t r line side l times k1 k2 n own2 old row j red part in
    let low = reduced_terms t l (unit_whole row l k2 own2) q.0 (by_slot t l (unit_whole row l k2 own2)) new q.2
    (stage_terms t r line side l times k1 red.factor k2 q.0 n old (unit_whole row l k2 own2) j cost st (unit-own row l k2 own2 ∙ q.1)) lowest last in (
      low.0,
      low.1,
      stage_row t r line side l times k1 red.factor k2 q.0 low.0 n c old (unit_whole row l k2 own2) (row_number t l new) j cost counts share st q.3 low.2,
      λ d some ne. stage_outside t r line side l times k1 red.factor k2 n old (unit_whole row l k2 own2) j cost st d (whole-some last.factor (coefficient d new) (unit_whole row l k2 own2 d) last.above (last.same d) some) ne,
    )
  where
    whole-some : (g : ℕ) (z w : ℤ) → 0 < g → pos g *ℤ z ≡ w → z ≢ pos 0 → w ≢ pos 0
    whole-some g z w above e some none = some (zero_from_mul g z above (e ∙ none))

-- fitting numbers of outside lines, and none of others
all-fit : (t : Lists) (l : ℕ) (by part : RowName → ℤ) (low own : ℕ) → (red : AreReduced (lines (problem_of t)) own by low part) → All (λ m. by m.name ≢ pos 0 → IsOutsideLine (marks_at t) m.name) (lines (problem_of t))
    → All (λ m. IsOutsideLine (marks_at t) m.name → IsFitting (part m.name)) (lines (problem_of t)) → All (λ m. IsFitting (part m.name)) (lines (problem_of t))
all-fit t l by part low own red out fit i x lt = by-sign (by (get_or (lines (problem_of t)) i x).name) (part (get_or (lines (problem_of t)) i x).name) (red.same i x lt) (λ some. fit i x lt (out i x lt some))
  where
    nonzero : (z : ℤ) → (pos 0 <ℤ z) ⊎ (pos 0 <ℤ neg_ℤ z) → z ≢ pos 0
    nonzero z (inl up) e = omega (arith, ints, up, e)
    nonzero z (inr down) e = omega (arith, ints, down, e)

    by-sign : (y z : ℤ) → pos red.factor *ℤ z ≡ y → (y ≢ pos 0 → IsFitting z) → IsFitting z
    by-sign y z e h = elim (sign_cases y) [
      | inl none ↦ subst IsFitting (sym (zero_from_mul red.factor z red.factor_positive (e ∙ none))) (omega arith)
      | inr signed ↦ h (nonzero y signed)
    ]

zero-ratio : IsRatio zero_fraction (pos 0) (pos 1)
zero-ratio = refl

-- where the row in the new unit does not fit
pub unit_unfit : (t : Lists) (r : Row) (line : ℕ) (side : Side) (l times : ℕ) (c : ℤ) (old row : List Term) → (j : IsCostJoin t r line side l times) → IsCostRow t l old
    → c ≡ neg_ℤ (inside_number side l (times * (part_of t r line side l times j).unit) 1 (line_of_row r)) → IsShared t old line c (pos times) row
    → (k : ℕ) × (own : ℤ) × IsUnitPart row l (pos times) k own × IsUnfit (unit_whole row l k own) → HasNoLevelWriting (with_next t l) (marks_at t) l
unit_unfit t r line side l times c old row j cost counts (k1, n, share, red) (k2, own2, part, unfit) =
    let kept = part_of t r line side l times j in
    let sound = next_sound t l ((priority_at t l).rows + 1) j.next.kept in
    let o = shared-own t r line side l times k1 n old row j cost share.above red in
    let q = own-part times k2 o.0 k1 kept.own red.factor own2 (coefficient l row) j.above part.above o.2 o.1 part.same o.3 in
    let st = unit-stage t r line side l times k1 k2 n own2 old row j red part in
    let u : ℕ → ℤ = unit_whole row l k2 own2 in
    let low = lowest_terms (problem_of t) q.0 (by_slot t l (unit_whole row l k2 own2)) q.2 in
    let names = stage_names t r line side l times k1 red.factor k2 n old (unit_whole row l k2 own2) j cost st in
    let terms = stage_terms t r line side l times k1 red.factor k2 q.0 n old (unit_whole row l k2 own2) j cost st (unit-own row l k2 own2 ∙ q.1) in
    row_unfit (with_next t l) (marks_at t) l (times * kept.unit) low.0 low.1 sound.0 sound.1 sound.2 (joined_unit t r line side l times j)
    (stage_row t r line side l times k1 red.factor k2 q.0 low.0 n c old (unit_whole row l k2 own2) low.1 j cost counts share st q.3 low.2)
    (λ fit. unfit_terms t l (unit_whole row l k2 own2) q.0 (by_slot t l (unit_whole row l k2 own2)) (pos 0) 1 j.next.kept.slots terms unfit low.0 low.1 zero_fraction low.2 zero-ratio
    (scale-part low.0 (times * kept.unit) (above-product times kept.unit j.above kept.least.above) fit.scale_fits)
    (all-fit t l (by_slot t l (unit_whole row l k2 own2)) low.1 low.0 q.0 low.2 names (whole_names (λ name. IsOutsideLine (marks_at t) name → IsFitting (low.1 name)) (problem_of t) l ((priority_at t l).rows + 1) fit.outside_fit))
    zero_kept)
  where
    scale-part : (low unit : ℕ) → 0 < unit → low * unit < PART_BOUND → low < PART_BOUND
    scale-part low zero up h = absurd (omega (arith, up))
    scale-part low (suc u) up h = let n : ℕ = low * u in let e : low * suc u ≡ low * u + low = omega arith in omega (arith, e, h)

-- where the row with the line's share does not fit
pub sum_unfit : (t : Lists) (r : Row) (line : ℕ) (side : Side) (l times : ℕ) (c : ℤ) (old : List Term) → (j : IsCostJoin t r line side l times) → IsCostRow t l old
    → c ≡ neg_ℤ (inside_number side l (times * (part_of t r line side l times j).unit) 1 (line_of_row r))
    → (k : ℕ) × (n : ℤ) × IsShare t old line c k n × IsUnfit (shared_whole t old line (pos times) k n) → HasNoLevelWriting (with_next t l) (marks_at t) l
sum_unfit t r line side l times c old j cost counts (k, n, share, unfit) =
    let kept = part_of t r line side l times j in
    let sound = next_sound t l ((priority_at t l).rows + 1) j.next.kept in
    let w : ℕ → ℤ = shared_whole t old line (pos times) k n in
    let st : IsStage l (shared_whole t old line (pos times) k n) (shared_whole t old line (pos times) k n) 1 1 = record { above = omega arith; times = omega arith; off = λ d ne. refl } in
    let by : RowName → ℤ = by_slot t l (shared_whole t old line (pos times) k n) in
    let up : 0 < k * kept.own = above-product k kept.own share.above kept.numbers.row.own_positive in
    let low = lowest_terms (problem_of t) (k * kept.own) (by_slot t l (shared_whole t old line (pos times) k n)) up in
    let names = stage_names t r line side l times k 1 1 n old (shared_whole t old line (pos times) k n) j cost st in
    let own_is = whole_own t r line side l times k n old j cost in
    let terms = stage_terms t r line side l times k 1 1 (k * times * kept.own) n old (shared_whole t old line (pos times) k n) j cost st own_is in
    let part = lowest_terms (problem_of t) (times * low.0) low.1 (above-product times low.0 j.above low.2.low_positive) in
    let red : AreReduced (lines (problem_of t)) (k * times * kept.own) (by_slot t l (shared_whole t old line (pos times) k n)) part.0 part.1 = record {
      factor = low.2.factor * part.2.factor;
      factor_positive = above-product low.2.factor part.2.factor low.2.factor_positive part.2.factor_positive;
      low_positive = part.2.low_positive;
      own_same = two-parts low.2.factor part.2.factor part.0 times low.0 k kept.own part.2.own_same low.2.own_same;
      same = λ i x lt. mul_assoc_ℤ (pos low.2.factor) (pos part.2.factor) (part.1 (get_or (lines (problem_of t)) i x).name) ∙ ap (λ (z : ℤ). pos low.2.factor *ℤ z) (part.2.same i x lt) ∙ low.2.same i x lt;
      lowest = part.2.lowest;
    } in
    row_unfit (with_next t l) (marks_at t) l (times * kept.unit) low.0 low.1 sound.0 sound.1 sound.2 (joined_unit t r line side l times j)
    (stage_row t r line side l times k 1 1 (k * kept.own) low.0 n c old (shared_whole t old line (pos times) k n) low.1 j cost counts share st (one-time k kept.own) low.2)
    (λ fit.
    let fits : All (λ m. IsFitting (low.1 m.name)) (lines (problem_of t)) =
    all-fit t l (by_slot t l (shared_whole t old line (pos times) k n)) low.1 low.0 (k * kept.own) low.2 names (whole_names (λ name. IsOutsideLine (marks_at t) name → IsFitting (low.1 name)) (problem_of t) l ((priority_at t l).rows + 1) fit.outside_fit) in
    unfit_terms t l (shared_whole t old line (pos times) k n) (k * times * kept.own) (by_slot t l (shared_whole t old line (pos times) k n)) (pos 0) 1 j.next.kept.slots terms unfit part.0 part.1 zero_fraction red zero-ratio
    (smaller part.2.factor part.0 times low.0 kept.unit part.2.factor_positive kept.least.above part.2.own_same fit.scale_fits)
    (λ i x lt. part-fits part.2.factor (part.1 (get_or (lines (problem_of t)) i x).name) (low.1 (get_or (lines (problem_of t)) i x).name) part.2.factor_positive (part.2.same i x lt) (fits i x lt))
    zero_kept)
  where
    one-time : (k own : ℕ) → 1 * (k * own) ≡ 1 * k * own
    one-time k own = omega arith

    two-parts : (f g low1 times low k own : ℕ) → g * low1 ≡ times * low → f * low ≡ k * own → f * g * low1 ≡ k * times * own
    two-parts f g low1 times low k own e h =
        let a : f * g * low1 ≡ f * (g * low1) = omega arith in
        let b : f * (times * low) ≡ times * (f * low) = omega arith in
        let d : times * (k * own) ≡ k * times * own = omega arith in
        a ∙ ap (λ (n : ℕ). f * n) e ∙ b ∙ ap (λ (n : ℕ). times * n) h ∙ d

    at-most : (g n : ℕ) → 0 < g → n ≤ g * n
    at-most zero n h = absurd (omega (arith, h))
    at-most (suc g) n h = let m : ℕ = g * n in let e : suc g * n ≡ g * n + n = omega arith in omega (arith, e)

    smaller : (g low1 times low unit : ℕ) → 0 < g → 0 < unit → g * low1 ≡ times * low → low * (times * unit) < PART_BOUND → low1 < PART_BOUND
    smaller g low1 times low unit up above e h =
        let a : low1 ≤ g * low1 = at-most g low1 up in
        let b : times * low ≤ unit * (times * low) = at-most unit (times * low) above in
        let d : unit * (times * low) ≡ low * (times * unit) = omega arith in
        omega (arith, a, b, d, e, h)

    part-fits : (g : ℕ) (z y : ℤ) → 0 < g → pos g *ℤ z ≡ y → IsFitting y → IsFitting z
    part-fits g z y up e h =
        let a : unsigned_abs y ≡ g * unsigned_abs z = ap unsigned_abs (sym e) ∙ unsigned_abs-mul (pos g) z in
        let b : unsigned_abs z ≤ g * unsigned_abs z = at-most g (unsigned_abs z) up in
        omega (arith, a, b, h)

-- the row of the level as it was
pub cost_row_is : (t : Lists) (l : ℕ) (old : List Term) → ((priority_at t l).rows ≡ 0 → row_at t l ≡ []) → ((priority_at t l).rows ≡ 0 → old ≡ record { col = l; by = pos 1 } ∷ []) → (((priority_at t l).rows ≡ 0 → ⊥) → old ≡ row_at t l) → IsCostRow t l old
cost_row_is t l old empty none some =
    elim (cases_eq (priority_at t l).rows 0) [
      | inl e ↦ record {
        own = ap (coefficient l) (none e) ∙ ap (λ (b : Bool). cond b (pos 1) (pos 0) +ℤ pos 0) (eq-eqb l l refl) ∙ sym (ap (λ (b : Bool). cond b (pos 1) (entry t l l)) (eq-eqb (priority_at t l).rows 0 e));
        others = λ c ne. ap (coefficient c) (none e) ∙ ap (λ (b : Bool). cond b (pos 1) (pos 0) +ℤ pos 0) (ne_eqb l c (λ q. ne (sym q))) ∙ sym (ap (coefficient c) (empty e));
      }
      | inr ne ↦ record {
        own = ap (coefficient l) (some ne) ∙ sym (ap (λ (b : Bool). cond b (pos 1) (entry t l l)) (ne_eqb (priority_at t l).rows 0 ne));
        others = λ c q. ap (coefficient c) (some ne);
      }
    ]
