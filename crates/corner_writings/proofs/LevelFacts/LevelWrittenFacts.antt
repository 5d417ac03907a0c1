-- A level's writing, as the lists have it.
use Rattle.std.proofs.Common.{◌≡◌, ◌≢◌, ◌∙◌, ℕ, ◌*◌, ◌/◌, cond, nat_eq, Bool, true, false, refl, sym, ap, ap₂, subst, arith, inl, inr, ℤ, pos, neg_ℤ, ◌+ℤ◌, ◌*ℤ◌, unsigned_abs, Some, None, eq-eqb, ne_eqb}
use Rattle.std.specs.List.{AllByRecursion as Each}
use Rattle.std.specs.declared.option.Option.{Option}
use Rattle.std.proofs.lemmas.Bool.{cases_eq}
use Rattle.std.proofs.lemmas.List.Elements.{All-from_recursion, recursion_from_All}
use borrow.Author.Differences.{ints}
use Rattle.problem_core.specs.declared.parts.Rel.{Rel}
use Rattle.problem_core.specs.declared.parts.Mark.{Mark}
use Rattle.problem_core.specs.declared.parts.Level.{Level}
use Rattle.problem_core.specs.declared.parts.Side.{Side}
use Rattle.problem_core.specs.declared.parts.Side.TheVariants.{Under, Over}
use Rattle.problem_core.specs.declared.parts.RowName.{RowName}
use Rattle.problem_core.specs.Layout.{Line, lines}
use Rattle.problem_core.specs.Certificates.{weight_at}
use Rattle.problem_core.specs.Corners.{IsIn, place, place_of}
use Rattle.problem_core.specs.Levels.{IsLevelWriting}
use Rattle.problem_core.proofs.Forms.{each-impl, each-both}
use Rattle.corner_laws.specs.Units.{over_share, under_share}
use Rattle.corner_laws.proofs.LevelCosts.LevelSizes.{no-over, no-under}
use Rattle.corner_lines.specs.LineEquations.{IsOutsideLine, sign_of}
use Rattle.corner_lines.specs.Levels.LevelRows.{inside_number, reduced_number}
use Rattle.corner_lines.proofs.LevelRows.LevelExchanges.{inside-numbers}
use Rattle.corner_lines.proofs.Costs.LevelFits.{reduced-is, reduced_by, row-writing}
use Rattle.corner_lines.proofs.LevelRows.LevelSound.{whole_is_sound}
use Rattle.corner_table.specs.declared.table.Slot.{Slot}
use Rattle.corner_table.specs.Tables.{Lists, level_slot, line_slot, marks_at, problem_of, slot_at, standing_at}
use Rattle.corner_table.specs.Kept.{IsKept}
use Rattle.corner_view.specs.Seen.{HasNumbers, IsLevelOf, IsMarkOf, IsNamed, IsReducedAt}
use Rattle.corner_table.specs.Reads.LevelNumbers.{IsSlotOfLevel, count_of, inside_times, outside_times, own_at, own_cost, reduced_at, share_of, side_share, times_at, times_by, unit_at}
use Rattle.corner_table.proofs.Readings.SlotFacts.{any_is}
use Rattle.corner_view.proofs.Facts.{mark_named}
use Rattle.corner_writings.proofs.LevelFacts.LevelNumberFacts.{IsKnown, all-known, home_is}
use Rattle.corner_writings.proofs.LevelFacts.LevelReadFacts.{same_level, same_slot}
use Rattle.corner_writings.proofs.LevelFacts.LevelRowFacts.{HasRow, in_line, level_row, out_line}
use Rattle.frac_core.proofs.Numbers.{no-product as no-share}
use Rattle.problem_core.proofs.Lines.{own-weight as own_weight}

-- ---- a mark's own cost at a level

shared : Side → (unit k : ℕ) → Line → ℕ
shared Under unit k l = under_share unit k l
shared Over unit k l = over_share unit k l

side-same : (side : Side) (unit k : ℕ) (l : Line) → side_share l.rel side (unit * weight_at l k / l.scale) ≡ shared side unit k l
unfolding shared
side-same Under unit k l = refl
side-same Over unit k l = refl

pub share-there : (slot : Slot) (z : ℤ) (l : Line) (unit k : ℕ) → z ≡ pos unit → slot.weight ≡ pos l.weight → slot.scale ≡ pos l.scale → l.level ≡ k → share_of slot z ≡ unit * weight_at l k / l.scale
share-there slot z l unit k e f g h =
    ap (λ (x : ℤ). unsigned_abs x * unsigned_abs slot.weight / unsigned_abs slot.scale) e
    ∙ ap (λ (x : ℤ). unit * unsigned_abs x / unsigned_abs slot.scale) f
    ∙ ap (λ (x : ℤ). unit * l.weight / unsigned_abs x) g
    ∙ ap (λ (n : ℕ). unit * n / l.scale) (sym (own_weight l k h))

no-shared : (side : Side) (unit k own : ℕ) (l : Line) → l.level ≢ k → pos (own * shared side unit k l) ≡ pos 0
unfolding shared
no-shared Under unit k own l ne = ap pos (no-share own (under_share unit k l) (no-under unit k l ne))
no-shared Over unit k own l ne = ap pos (no-share own (over_share unit k l) (no-over unit k l ne))

abbrev pub own_part : Lists → ℕ → ℕ → Side → ℤ
own_part t w v side = cond (nat_eq (slot_at t v).home w) (own_cost t (slot_at t v) side) (pos 0)

own-part-is : (t : Lists) (w k : ℕ) (l : Line) (side : Side) → IsKept t → IsSlotOfLevel t w k → (r : HasRow t w k) → IsKnown t l → own_part t w (line_slot t l.name) side ≡ pos (r.own * shared side r.unit k l)
own-part-is t w k l side kept is r known =
    let slot : Slot = slot_at t (line_slot t l.name) in
    elim (cases_eq slot.home w) [
      | inl e ↦
          let level : l.level ≡ k = same_level t slot.home w l.level k kept (home_is t l known) is e in
          let share : share_of slot (unit_at t slot.home) ≡ r.unit * weight_at l k / l.scale = share-there slot (unit_at t slot.home) l r.unit k (ap (unit_at t) e ∙ r.unit_is) known.slot.weight known.slot.scale level in
          let count : count_of t slot side ≡ shared side r.unit k l = ap₂ (λ (q : Rel) (n : ℕ). side_share q side n) known.slot.rel share ∙ side-same side r.unit k l in
          ap (λ (b : Bool). cond b (own_cost t slot side) (pos 0)) (eq-eqb slot.home w e)
          ∙ ap₂ (λ (z : ℤ) (n : ℕ). z *ℤ pos n) (ap (own_at t) e ∙ r.own_is) count
      | inr ne ↦
          ap (λ (b : Bool). cond b (own_cost t slot side) (pos 0)) (ne_eqb slot.home w ne)
          ∙ sym (no-shared side r.unit k r.own l (λ q. ne (same_slot t slot.home w l.level k kept (home_is t l known) is q)))
    ]

-- ---- a line's number

inside-is : (side : Side) (unit k own : ℕ) (l : Line) → neg_ℤ (sign_of side *ℤ pos (own * shared side unit k l)) ≡ inside_number side k unit own l
unfolding shared
inside-is Under unit k own l = let n : ℕ = own * under_share unit k l in omega (arith, ints)
inside-is Over unit k own l = let n : ℕ = own * over_share unit k l in omega (arith, ints)

out-of-cond : (b : Bool) (side : Side) (z : ℤ) → cond b (neg_ℤ (sign_of side *ℤ z)) (pos 0) ≡ neg_ℤ (sign_of side *ℤ cond b z (pos 0))
out-of-cond true side z = refl
out-of-cond false Under z = refl
out-of-cond false Over z = refl

inside-times : (t : Lists) (w k : ℕ) (l : Line) (side : Side) → IsKept t → IsSlotOfLevel t w k → (r : HasRow t w k) → IsKnown t l → inside_times t w (line_slot t l.name) side ≡ inside_number side k r.unit r.own l
inside-times t w k l side kept is r known =
    out-of-cond (nat_eq (slot_at t (line_slot t l.name)).home w) side (own_cost t (slot_at t (line_slot t l.name)) side)
    ∙ ap (λ (z : ℤ). neg_ℤ (sign_of side *ℤ z)) (own-part-is t w k l side kept is r known) ∙ inside-is side r.unit k r.own l

times-by : (t : Lists) (w k : ℕ) (l : Line) (o : Option Side) → IsKept t → IsSlotOfLevel t w k → (r : HasRow t w k) → IsKnown t l → (standing_at t (line_slot t l.name)).side ≡ o
    → ((side : Side) → IsIn (place_of l.name side) (marks_at t) → r.row.by l.name ≡ inside_number side k r.unit r.own l) → (IsOutsideLine (marks_at t) l.name → r.row.by l.name ≡ outside_times t w (line_slot t l.name))
    → r.row.by l.name ≡ times_by t o w (line_slot t l.name)
times-by t w k l None kept is r known e inside outside = outside (out_line t l.name e)
times-by t w k l (Some side) kept is r known e inside outside = inside side (in_line t l side known e) ∙ sym (inside-times t w k l side kept is r known)

pub times_are : (t : Lists) (w k : ℕ) → IsKept t → IsSlotOfLevel t w k → (r : HasRow t w k) → Each (λ l. r.row.by l.name ≡ times_at t w (line_slot t l.name)) (lines (problem_of t))
times_are t w k kept is r =
    each-impl (λ l. IsKnown t l × (((side : Side) → IsIn (place_of l.name side) (marks_at t) → r.row.by l.name ≡ inside_number side k r.unit r.own l) × (IsOutsideLine (marks_at t) l.name → r.row.by l.name ≡ outside_times t w (line_slot t l.name)))) _ (lines (problem_of t))
    (λ l h. times-by t w k l (standing_at t (line_slot t l.name)).side kept is r h.0 refl h.1.0 h.1.1)
    (each-both _ _ (lines (problem_of t)) (all-known t kept) (each-both _ _ (lines (problem_of t)) (inside-numbers (problem_of t) (marks_at t) k r.unit r.own r.row.by r.row.row) (recursion_from_All _ (lines (problem_of t)) r.row.outside)))

-- ---- reduced costs

reduced-same : (side : Side) (k unit own : ℕ) (y : ℤ) (l : Line) → reduced_number side k unit own y l ≡ pos (own * shared side unit k l) +ℤ sign_of side *ℤ y
unfolding shared
reduced-same Under k unit own y l = let n : ℕ = own * under_share unit k l in omega (arith, ints)
reduced-same Over k unit own y l = let n : ℕ = own * over_share unit k l in omega (arith, ints)

by-sides : (t : Lists) (w k : ℕ) (r : HasRow t w k) (l : Line) → (reduced_by (problem_of t) k r.unit r.own r.row.by (place_of l.name Under) ≡ reduced_number Under k r.unit r.own (r.row.by l.name) l) × (reduced_by (problem_of t) k r.unit r.own r.row.by (place_of l.name Over) ≡ reduced_number Over k r.unit r.own (r.row.by l.name) l)
    → (side : Side) → reduced_by (problem_of t) k r.unit r.own r.row.by (place_of l.name side) ≡ reduced_number side k r.unit r.own (r.row.by l.name) l
by-sides t w k r l h Under = h.0
by-sides t w k r l h Over = h.1

pub reduced_are : (t : Lists) (w k : ℕ) → IsKept t → IsSlotOfLevel t w k → (r : HasRow t w k) → Each (λ l. (side : Side) → reduced_by (problem_of t) k r.unit r.own r.row.by (place_of l.name side) ≡ reduced_at t w (line_slot t l.name) side) (lines (problem_of t))
reduced_are t w k kept is r =
    each-impl (λ l. IsKnown t l × ((r.row.by l.name ≡ times_at t w (line_slot t l.name)) × ((reduced_by (problem_of t) k r.unit r.own r.row.by (place_of l.name Under) ≡ reduced_number Under k r.unit r.own (r.row.by l.name) l) × (reduced_by (problem_of t) k r.unit r.own r.row.by (place_of l.name Over) ≡ reduced_number Over k r.unit r.own (r.row.by l.name) l)))) _ (lines (problem_of t))
    (λ l h side.
    by-sides t w k r l h.1.1 side ∙ reduced-same side k r.unit r.own (r.row.by l.name) l
    ∙ ap₂ (λ (x y : ℤ). x +ℤ sign_of side *ℤ y) (sym (own-part-is t w k l side kept is r h.0)) h.1.0)
    (each-both _ _ (lines (problem_of t)) (all-known t kept) (each-both _ _ (lines (problem_of t)) (times_are t w k kept is r) (reduced-is (problem_of t) k r.unit r.own r.row.by (whole_is_sound (problem_of t) kept.whole))))

-- ---- the writing

pub writing_is : (t : Lists) (w k : ℕ) → IsKept t → (r : HasRow t w k) → IsLevelWriting (problem_of t) (marks_at t) k (r.own * r.unit) r.row.by (reduced_by (problem_of t) k r.unit r.own r.row.by)
writing_is t w k kept r = row-writing (problem_of t) (marks_at t) k r.unit r.own r.row.by (whole_is_sound (problem_of t) kept.whole) r.least r.row.row

-- a level's numbers are those that the lists have at its slot
pub has_scale : (t : Lists) (level : Level) → IsKept t → IsLevelOf (problem_of t) level → HasNumbers (problem_of t) (marks_at t) level (λ scale times reduced. own_at t (level_slot t level) *ℤ unit_at t (level_slot t level) ≡ pos scale)
has_scale t level kept is =
    let r = level_row t (level_slot t level) is.0 kept (level, is.1, refl) in
    (is.0, is.1, (r.own * r.unit, r.row.by, reduced_by (problem_of t) is.0 r.unit r.own r.row.by, writing_is t (level_slot t level) is.0 kept r, ap₂ ◌*ℤ◌ r.own_is r.unit_is))

pub has_times : (t : Lists) (level : Level) (name : RowName) → IsKept t → IsLevelOf (problem_of t) level → IsNamed (problem_of t) name → HasNumbers (problem_of t) (marks_at t) level (λ scale times reduced. times_at t (level_slot t level) (line_slot t name) ≡ times name)
has_times t level name kept is named =
    let r = level_row t (level_slot t level) is.0 kept (level, is.1, refl) in
    let e : r.row.by name ≡ times_at t (level_slot t level) (line_slot t name) =
    any_is (λ l. r.row.by l.name ≡ times_at t (level_slot t level) (line_slot t l.name)) (λ l. l.name ≡ name) (lines (problem_of t)) (All-from_recursion (λ l. r.row.by l.name ≡ times_at t (level_slot t level) (line_slot t l.name)) (lines (problem_of t)) (times_are t (level_slot t level) is.0 kept (level, is.1, refl) r)) named
    (λ l h q. subst (λ (n : RowName). r.row.by n ≡ times_at t (level_slot t level) (line_slot t n)) q h) in
    (is.0, is.1, (r.own * r.unit, r.row.by, reduced_by (problem_of t) is.0 r.unit r.own r.row.by, writing_is t (level_slot t level) is.0 kept r, sym e))

pub has_reduced : (t : Lists) (level : Level) (m : Mark) → IsKept t → IsLevelOf (problem_of t) level → IsMarkOf (problem_of t) m → IsReducedAt (problem_of t) (marks_at t) level m (reduced_at t (level_slot t level) (line_slot t m.row) m.side)
has_reduced t level m kept is mark =
    let r = level_row t (level_slot t level) is.0 kept (level, is.1, refl) in
    let e : reduced_by (problem_of t) is.0 r.unit r.own r.row.by (place m) ≡ reduced_at t (level_slot t level) (line_slot t m.row) m.side =
    any_is (λ l. (side : Side) → reduced_by (problem_of t) is.0 r.unit r.own r.row.by (place_of l.name side) ≡ reduced_at t (level_slot t level) (line_slot t l.name) side) (λ l. l.name ≡ m.row) (lines (problem_of t))
    (All-from_recursion (λ l. (side : Side) → reduced_by (problem_of t) is.0 r.unit r.own r.row.by (place_of l.name side) ≡ reduced_at t (level_slot t level) (line_slot t l.name) side) (lines (problem_of t)) (reduced_are t (level_slot t level) is.0 kept (level, is.1, refl) r)) (mark_named (problem_of t) m mark)
    (λ l h q. subst (λ (n : RowName). reduced_by (problem_of t) is.0 r.unit r.own r.row.by (place_of n m.side) ≡ reduced_at t (level_slot t level) (line_slot t n) m.side) q (h m.side)) in
    (is.0, is.1, (r.own * r.unit, r.row.by, reduced_by (problem_of t) is.0 r.unit r.own r.row.by, writing_is t (level_slot t level) is.0 kept r, sym e))
