-- What marks cost and what lines are taken at a level, as the lists have it.
use Rattle.std.proofs.Common.{◌≡◌, ◌≢◌, ◌∙◌, ℕ, zero, suc, ◌+◌, ◌*◌, ◌/◌, ◌<◌, ◌≤◌, cond, Bool, refl, sym, ap, ap₂, subst, arith, ℤ, pos, neg_ℤ, ◌+ℤ◌, ◌-ℤ◌, ◌*ℤ◌, unsigned_abs, Some, eq-eqb, ne_eqb, FitsSigned, SFits, to_z, of_z}
use Rattle.std.specs.Int.{w64}
use Rattle.std.proofs.lemmas.Int.{to_z-of_z}
use Rattle.std.specs.declared.option.Option.{Option}
use Rattle.std.proofs.lemmas.List.Elements.{All-from_recursion}
use Rattle.std.proofs.Math.Nat.{div-le_self, le_refl, mul-le-mul}
use borrow.Author.Differences.{ints}
use Rattle.frac_core.specs.Fraction.{IsFitting}
use Rattle.frac_core.specs.declared.frac.TheConstants.{PART_BOUND}
use Rattle.problem_core.specs.declared.parts.Rel.{Rel}
use Rattle.problem_core.specs.declared.parts.Rel.TheVariants.{Eq, Le, Ge}
use Rattle.problem_core.specs.declared.parts.Side.{Side}
use Rattle.problem_core.specs.declared.parts.Side.TheVariants.{Under, Over}
use Rattle.problem_core.specs.declared.parts.RowName.{RowName}
use Rattle.problem_core.specs.declared.parts.RowName.TheVariants.{Stay as StayOf}
use Rattle.problem_core.specs.declared.parts.Level.{Level}
use Rattle.problem_core.specs.declared.parts.Level.TheVariants.{Priority, Stay as StayLevel}
use Rattle.problem_core.specs.Layout.{Line, Problem, lines}
use Rattle.problem_core.specs.Levels.{IsLevelAt}
use Rattle.corner_laws.specs.Units.{IsStayLevel}
use Rattle.corner_lines.specs.LineEquations.{sign_of}
use Rattle.problem_core.specs.declared.limits.TheConstants.{WEIGHT_LIMIT}
use Rattle.corner_lines.proofs.LevelRows.StayRows.{stay_stands_alone}
use Rattle.corner_table.specs.declared.table.Slot.{Slot}
use Rattle.corner_table.specs.Tables.{Lists, attr_slot, level_slot, line_slot, problem_of, slot_at, standing_at}
use Rattle.corner_table.specs.Kept.{IsKept, home_of}
use Rattle.corner_view.specs.Seen.{IsNamed}
use Rattle.corner_table.specs.Reads.LevelNumbers.{IsCost, IsCounted, IsLevelSlot, IsLinesSlot, IsSlotOfLevel, IsSlotOfLine, count_of, own_at, own_cost, reduced_at, share_of, side_share, times_at, times_by, unit_at}
use Rattle.corner_table.proofs.Readings.SlotFacts.{any_impl, any_is, named_slot}
use Rattle.corner_table.proofs.Readings.WritingFacts.{lines_apart}
use Rattle.corner_writings.proofs.LevelFacts.LevelNumberFacts.{AreLevelsOf, IsKnown, all-known, home_is, named_line, slot_line}
use Rattle.corner_writings.proofs.LevelFacts.LevelRowFacts.{HasRow, level_row, stay-named as stay-name}

-- ---- levels and their slots

stay-above : (t : Lists) (attr k : ℕ) → IsKept t → IsLevelAt (problem_of t) (StayLevel attr) k → 1001 ≤ k
stay-above t attr k kept is =
    any_is (IsKnown t) (λ l. (l.name ≡ StayOf attr) × (l.level ≡ k)) (lines (problem_of t)) (All-from_recursion (IsKnown t) (lines (problem_of t)) (all-known t kept)) is
    (λ l known e. subst (λ (n : ℕ). 1001 ≤ n) e.1 (subst (λ (n : RowName). AreLevelsOf n l.level) e.0 known.levels))

slot-above : (t : Lists) (attr k : ℕ) → IsKept t → IsLevelAt (problem_of t) (StayLevel attr) k → 1001 ≤ attr_slot t attr + 1
slot-above t attr k kept is = (named_slot t (StayOf attr) kept.slots (stay-name (problem_of t) attr k is)).0

same-stay : (p : Problem) (a b k : ℕ) → IsLevelAt p (StayLevel a) k → IsStayLevel p k b → StayOf a ≡ StayOf b
same-stay p a b k is alone = any_is (λ l. l.level ≡ k → (l.name ≡ StayOf b) × (l.rel ≡ Eq) × (l.scale ≡ 1) × (l.weight ≡ 1)) (λ l. (l.name ≡ StayOf a) × (l.level ≡ k)) (lines p) alone.own is (λ l h e. sym e.0 ∙ (h e.1).0)

level-by : (t : Lists) (v w j k : ℕ) (a b : Level) → IsKept t → IsLevelAt (problem_of t) a j → IsLevelAt (problem_of t) b k → level_slot t a ≡ v → level_slot t b ≡ w → (v ≡ w → j ≡ k) × (j ≡ k → v ≡ w)
level-by t v w j k (Priority r) (Priority s) kept x y e f = ((λ q. omega (arith, x, y, e, f, q)), (λ q. omega (arith, x, y, e, f, q)))
level-by t v w j k (Priority r) (StayLevel b) kept x y e f = let n = slot-above t b k kept y in let m = stay-above t b k kept y in ((λ q. absurd (omega (arith, x, e, f, q, n))), (λ q. absurd (omega (arith, x, q, m))))
level-by t v w j k (StayLevel a) (Priority s) kept x y e f = let n = slot-above t a j kept x in let m = stay-above t a j kept x in ((λ q. absurd (omega (arith, y, e, f, q, n))), (λ q. absurd (omega (arith, y, q, m))))
level-by t v w j k (StayLevel a) (StayLevel b) kept x y e f = (
  (λ q.
      let name : StayOf a ≡ StayOf b = lines_apart t (StayOf a) (StayOf b) kept.slots (stay-name (problem_of t) a j x) (stay-name (problem_of t) b k y) (f ∙ sym (e ∙ q)) in
      any_is (λ l. l.name ≡ StayOf b → l.level ≡ k) (λ l. (l.name ≡ StayOf a) × (l.level ≡ j)) (lines (problem_of t)) (stay_stands_alone (problem_of t) b k kept.whole y).named x (λ l h i. sym i.1 ∙ h (i.0 ∙ name))),
  (λ q.
      let name : StayOf a ≡ StayOf b = same-stay (problem_of t) a b k (subst (λ (n : ℕ). IsLevelAt (problem_of t) (StayLevel a) n) q x) (stay_stands_alone (problem_of t) b k kept.whole y) in
      sym e ∙ ap (line_slot t) name ∙ f),
)

pub same_level : (t : Lists) (v w j k : ℕ) → IsKept t → IsSlotOfLevel t v j → IsSlotOfLevel t w k → v ≡ w → j ≡ k
same_level t v w j k kept x y = (level-by t v w j k x.0 y.0 kept x.1 y.1 x.2 y.2).0

pub same_slot : (t : Lists) (v w j k : ℕ) → IsKept t → IsSlotOfLevel t v j → IsSlotOfLevel t w k → j ≡ k → v ≡ w
same_slot t v w j k kept x y = (level-by t v w j k x.0 y.0 kept x.1 y.1 x.2 y.2).1

-- ---- a line's own cost

pub home_level : (t : Lists) (slot : Slot) → IsKept t → IsLinesSlot t slot → IsLevelSlot t slot.home
home_level t slot kept is = subst (λ (s : Slot). IsLevelSlot t s.home) is.2 (slot_line t is.0 kept is.1 (λ l known e. subst (λ (w : ℕ). IsLevelSlot t (slot_at t w).home) e (l.level, home_is t l known)))

pub fit-right : (own unit : ℕ) → 0 < own → IsFitting (pos (own * unit)) → IsFitting (pos unit)
fit-right own unit above h = le_trans_lt unit (own * unit) PART_BOUND (at-least own unit above) h
  where
    at-least : (own unit : ℕ) → 0 < own → unit ≤ own * unit
    at-least zero unit above = absurd (omega (arith, above))
    at-least (suc n) unit above = let p : ℕ = n * unit in let e : suc n * unit ≡ n * unit + unit = omega arith in omega (arith, e)

    le_trans_lt : (a b c : ℕ) → a ≤ b → b < c → a < c
    le_trans_lt a b c h k = omega (arith, h, k)

counted-line : (t : Lists) (l : Line) → IsKept t → IsKnown t l → IsCounted (slot_at t (line_slot t l.name)) (unit_at t (slot_at t (line_slot t l.name)).home)
counted-line t l kept k =
    let r : HasRow t (slot_at t (line_slot t l.name)).home l.level = level_row t (slot_at t (line_slot t l.name)).home l.level kept (home_is t l k) in
    record {
      weight_is = k.slot.weight ∙ sym (ap (λ (z : ℤ). pos (unsigned_abs z)) k.slot.weight);
      light = subst (λ (z : ℤ). unsigned_abs z ≤ WEIGHT_LIMIT) (sym k.slot.weight) k.light;
      scale_is = k.slot.scale ∙ sym (ap (λ (z : ℤ). pos (unsigned_abs z)) k.slot.scale);
      scale_positive = subst (λ (z : ℤ). 0 < unsigned_abs z) (sym k.slot.scale) k.scale;
      unit_is = r.unit_is ∙ sym (ap (λ (z : ℤ). pos (unsigned_abs z)) r.unit_is);
      fits = subst IsFitting (sym r.unit_is) (fit-right r.own r.unit r.row.row.own_positive r.fits);
    }

pub counted : (t : Lists) (slot : Slot) → IsKept t → IsLinesSlot t slot → IsCounted slot (unit_at t slot.home)
counted t slot kept is = subst (λ (s : Slot). IsCounted s (unit_at t s.home)) is.2 (slot_line t is.0 kept is.1 (λ l known e. subst (λ (w : ℕ). IsCounted (slot_at t w) (unit_at t (slot_at t w).home)) e (counted-line t l kept known)))

side-most : (rel : Rel) (side : Side) (n : ℕ) → side_share rel side n ≤ n
side-most Eq Under n = omega arith
side-most Eq Over n = omega arith
side-most Le Under n = omega arith
side-most Le Over n = omega arith
side-most Ge Under n = omega arith
side-most Ge Over n = omega arith

small-product : (own unit weight count n : ℕ) → count ≤ n → n ≤ unit * weight → weight ≤ WEIGHT_LIMIT → own * unit < PART_BOUND → own * count < PART_BOUND * WEIGHT_LIMIT
small-product own unit weight count n c m light fits =
    let a : own * count ≤ own * (unit * weight) = mul-le-mul (le_refl own) (omega (arith, c, m)) in
    let b : own * unit * weight ≤ own * unit * WEIGHT_LIMIT = mul-le-mul (le_refl (own * unit)) light in
    let e : own * (unit * weight) ≡ own * unit * weight = omega arith in
    omega (arith, a, b, e, fits)

cost-line : (t : Lists) (l : Line) (side : Side) → IsKept t → IsKnown t l → IsCost (own_cost t (slot_at t (line_slot t l.name)) side)
cost-line t l side kept k =
    let slot : Slot = slot_at t (line_slot t l.name) in
    let r : HasRow t slot.home l.level = level_row t slot.home l.level kept (home_is t l k) in
    let count : ℕ = count_of t slot side in
    let most : share_of slot (unit_at t slot.home) ≤ r.unit * l.weight =
    subst (λ (z : ℤ). unsigned_abs z * unsigned_abs slot.weight / unsigned_abs slot.scale ≤ r.unit * l.weight) (sym r.unit_is) (subst (λ (z : ℤ). r.unit * unsigned_abs z / unsigned_abs slot.scale ≤ r.unit * l.weight) (sym k.slot.weight) (div-le_self (r.unit * l.weight) (unsigned_abs slot.scale))) in
    subst (λ (z : ℤ). unsigned_abs (z *ℤ pos count) < PART_BOUND * WEIGHT_LIMIT) (sym r.own_is)
    (small-product r.own r.unit l.weight count (share_of slot (unit_at t slot.home)) (side-most slot.rel side (share_of slot (unit_at t slot.home))) most k.light r.fits)

pub cost_small : (t : Lists) (slot : Slot) (side : Side) → IsKept t → IsLinesSlot t slot → IsCost (own_cost t slot side)
cost_small t slot side kept is = subst (λ (s : Slot). IsCost (own_cost t s side)) is.2 (slot_line t is.0 kept is.1 (λ l known e. subst (λ (w : ℕ). IsCost (own_cost t (slot_at t w) side)) e (cost-line t l side kept known)))

pub cost_fits : (z : ℤ) → IsCost z → FitsSigned w64 z
cost_fits z h = omega (arith, ints, h)

pub cost_sfits : (z : ℤ) → IsCost z → SFits w64 z
cost_sfits z h = omega (arith, ints, h)

-- ---- a level's slot is its own home

pub level_home : (t : Lists) (w : ℕ) → IsKept t → IsLevelSlot t w → (slot_at t w).home ≡ w
level_home t w kept is = home-by t w is.0 is.1.0 kept is.1.1 is.1.2
  where
    home-by : (t : Lists) (w k : ℕ) (level : Level) → IsKept t → IsLevelAt (problem_of t) level k → level_slot t level ≡ w → (slot_at t w).home ≡ w
    home-by t w k (Priority r) kept is e = kept.slots.level_homes w (omega (arith, is, e))
    home-by t w k (StayLevel attr) kept is e =
        subst (λ (n : ℕ). (slot_at t n).home ≡ n) e
        (named_line t (StayOf attr) kept (stay-name (problem_of t) attr k is) (λ l known q. subst (λ (n : RowName). (slot_at t (line_slot t n)).home ≡ home_of t l n) q known.slot.home))

pub scale_fits : (t : Lists) (w : ℕ) → IsKept t → IsLevelSlot t w → IsFitting (own_at t w *ℤ unit_at t w)
scale_fits t w kept is = let r = level_row t w is.0 kept is.1 in subst IsFitting (sym (ap₂ ◌*ℤ◌ r.own_is r.unit_is)) r.fits

pub fitting_cost : (z : ℤ) → IsFitting z → IsCost z
fitting_cost z h = omega (arith, h)

pub neg_cost : (z : ℤ) → IsCost z → IsCost (pos 0 -ℤ z)
neg_cost z h = omega (arith, ints, h)

-- ---- numbers of inside lines

pub times_inside : (t : Lists) (l w : ℕ) (side : Side) → (standing_at t w).side ≡ Some side → (slot_at t w).home ≡ l → times_at t l w ≡ neg_ℤ (sign_of side *ℤ own_cost t (slot_at t w) side)
times_inside t l w side e h = ap (λ (o : Option Side). times_by t o l w) e ∙ ap (λ (b : Bool). cond b (neg_ℤ (sign_of side *ℤ own_cost t (slot_at t w) side)) (pos 0)) (eq-eqb (slot_at t w).home l h)

pub reduced_there : (t : Lists) (l w : ℕ) (side : Side) → (slot_at t w).home ≡ l → reduced_at t l w side ≡ own_cost t (slot_at t w) side +ℤ sign_of side *ℤ times_at t l w
reduced_there t l w side h = ap (λ (b : Bool). cond b (own_cost t (slot_at t w) side) (pos 0) +ℤ sign_of side *ℤ times_at t l w) (eq-eqb (slot_at t w).home l h)

pub reduced_elsewhere : (t : Lists) (l w : ℕ) (side : Side) → (slot_at t w).home ≢ l → reduced_at t l w side ≡ sign_of side *ℤ times_at t l w
reduced_elsewhere t l w side h =
    ap (λ (b : Bool). cond b (own_cost t (slot_at t w) side) (pos 0) +ℤ sign_of side *ℤ times_at t l w) (ne_eqb (slot_at t w).home l h)
    ∙ (let z : ℤ = sign_of side *ℤ times_at t l w in omega (arith, ints))

-- an inside line's marks have a reduced cost at its own level alone
pub nothing_elsewhere : (t : Lists) (l w : ℕ) (inside : Side) → (standing_at t w).side ≡ Some inside → (slot_at t w).home ≢ l → (side : Side) → reduced_at t l w side ≡ pos 0
nothing_elsewhere t l w inside is h side = reduced_elsewhere t l w side h ∙ ap (λ (z : ℤ). sign_of side *ℤ z) none ∙ signed-zero side
  where
    none : times_at t l w ≡ pos 0
    none =
        ap (λ (i : Option Side). times_by t i l w) is
        ∙ ap (λ (b : Bool). cond b (neg_ℤ (sign_of inside *ℤ own_cost t (slot_at t w) inside)) (pos 0)) (ne_eqb (slot_at t w).home l h)

    signed-zero : (s : Side) → sign_of s *ℤ pos 0 ≡ pos 0
    signed-zero Under = refl
    signed-zero Over = refl

pub named_line_slot : (t : Lists) (name : RowName) → IsNamed (problem_of t) name → IsSlotOfLine t (line_slot t name)
named_line_slot t name is = any_impl (λ l. l.name ≡ name) (λ l. line_slot t l.name ≡ line_slot t name) (lines (problem_of t)) (λ l e. ap (line_slot t) e) is

-- ---- as the machine computes them

pub negated : (z y : ℤ) → SFits w64 z → IsCost z → z ≡ y → to_z w64 (of_z w64 (pos 0 -ℤ to_z w64 (of_z w64 z))) ≡ neg_ℤ y
negated z y f small e =
    let same : pos 0 -ℤ z ≡ neg_ℤ y = omega (arith, ints, e) in
    ap (λ (x : ℤ). to_z w64 (of_z w64 (pos 0 -ℤ x))) (to_z-of_z w64 z f) ∙ to_z-of_z w64 (pos 0 -ℤ z) (cost_sfits (pos 0 -ℤ z) (neg_cost z small)) ∙ same

neg-small : (z : ℤ) → IsCost z → IsCost (neg_ℤ z)
neg-small z h = omega (arith, ints, h)

pub negated_small : (z : ℤ) → SFits w64 z → IsCost z → IsCost (to_z w64 (of_z w64 (pos 0 -ℤ to_z w64 (of_z w64 z))))
negated_small z f small = subst (λ (x : ℤ). IsCost x) (sym (negated z z f small refl)) (neg-small z small)

sum-fits : (a b : ℤ) → IsCost a → IsCost b → FitsSigned w64 (a +ℤ b)
sum-fits a b h k = omega (arith, ints, h, k)

sum-sfits : (a b : ℤ) → IsCost a → IsCost b → SFits w64 (a +ℤ b)
sum-sfits a b h k = omega (arith, ints, h, k)

pub added_fits : (a b : ℤ) → SFits w64 a → SFits w64 b → IsCost a → IsCost b → FitsSigned w64 (to_z w64 (of_z w64 a) +ℤ to_z w64 (of_z w64 b))
added_fits a b f g h k = subst (λ (z : ℤ). FitsSigned w64 z) (sym (ap₂ ◌+ℤ◌ (to_z-of_z w64 a f) (to_z-of_z w64 b g))) (sum-fits a b h k)

pub added : (a b : ℤ) → SFits w64 a → SFits w64 b → IsCost a → IsCost b → to_z w64 (of_z w64 (to_z w64 (of_z w64 a) +ℤ to_z w64 (of_z w64 b))) ≡ a +ℤ b
added a b f g h k = ap (λ (x : ℤ). to_z w64 (of_z w64 x)) (ap₂ ◌+ℤ◌ (to_z-of_z w64 a f) (to_z-of_z w64 b g)) ∙ to_z-of_z w64 (a +ℤ b) (sum-sfits a b h k)
