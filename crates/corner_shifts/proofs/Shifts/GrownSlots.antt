-- What a slot's value grows by, as the code finds it.
use Rattle.std.proofs.Common.{◌≡◌, ◌≢◌, ◌∙◌, ℕ, ◌-◌, ◌<◌, ◌≤◌, cond, Bool, inl, inr, length, refl, sym, ap, subst, arith, ℤ, pos, negsuc, neg_ℤ, ◌*ℤ◌, ◌<ℤ◌, Some, None, SFits, to_z, of_z, ap₂, lt-ltb, le-ltb}
use Rattle.std.specs.Int.{w64}
use lib.IntN.{*ℤ_comm}
use Rattle.std.specs.declared.option.Option.{Option}
use borrow.Author.Differences.{ints}
use Rattle.frac_core.specs.Fraction.{IsFitting}
use Rattle.problem_core.specs.declared.parts.RowName.{RowName}
use Rattle.problem_core.specs.declared.parts.Level.{Level}
use Rattle.problem_core.specs.declared.parts.Level.TheVariants.{Priority}
use Rattle.problem_core.specs.declared.parts.Side.{Side}
use Rattle.problem_core.specs.declared.stops.What.{What}
use Rattle.problem_core.specs.declared.stops.What.TheVariants.{Attr as AttrOf, Mark as MarkOf, Level as LevelOf}
use Rattle.problem_core.specs.Layout.{HasStay, lines}
use Rattle.corner_shifts.specs.declared.shifting.Growth.{Growth}
use Rattle.corner_view.specs.declared.types.Owner.{Owner}
use Rattle.corner_view.specs.declared.types.Owner.TheVariants.{Level as LevelSlot, Attr as AttrSlot, Line as LineSlot}
use Rattle.corner_table.specs.declared.table.TheConstants.{LEVELS}
use Rattle.corner_exchange.specs.Swaps.Exchanges.{IsWhatOf, IsWhatAt}
use Rattle.corner_table.specs.Kept.{AreSlots, IsAttrRow, IsKept, IsLineRow, IsOwned, IsSlot, level_own}
use Rattle.corner_shifts.specs.Shifting.{CanGrow, IsThere, over_at, sign_at, sign_there}
use Rattle.corner_table.specs.Tables.{Lists, attr_slot, entry, line_slot, priority_at, problem_of, slot_at, standing_at}
use Rattle.corner_table.proofs.Readings.KeptFacts.{entry_fits}
use Rattle.corner_exchange.proofs.Pivots.LevelCosts.{minus_sign, scale_above, scale_fits}
use Rattle.corner_writings.proofs.LevelFacts.LevelReadFacts.{fitting_cost}
use Rattle.corner_exchange.proofs.LevelFacts.LevelWords.{product_is}
use Rattle.corner_writings.proofs.Readings.FreeSlots.{not_free}
use Rattle.corner_exchange.proofs.Pivots.LineSlots.{stands_apart}
use Rattle.corner_table.proofs.Readings.ReadFacts.{attr_equation}
use Rattle.corner_table.proofs.Basics.SmallFacts.{below_or}
use Rattle.corner_exchange.proofs.Pivots.LineChanges.{IsNoOutside}
use Rattle.corner_table.proofs.Basics.OwnerFacts.{line-owned}
use Rattle.corner_table.proofs.Readings.SlotFacts.{any_is}

-- ---- what is at the slot

pub level_sign_at : (t : Lists) (w : ℕ) → AreSlots t → w < LEVELS → sign_at t w ≡ pos 1
level_sign_at t w slots low = ap (λ (o : Owner). sign_there o (standing_at t w).side) (slots.level_owners w low)

-- what the code finds there
pub what_found : (t : Lists) (w : ℕ) (there what : What) (side : Side) → IsWhatAt t w there
    → ((r : Side) → (standing_at t w).side ≡ Some r → side ≡ r)
    → ((attr : ℕ) → (slot_at t w).owner ≡ AttrSlot attr → what ≡ AttrOf attr)
    → ((name : RowName) → (slot_at t w).owner ≡ LineSlot name → what ≡ MarkOf (record { row = name; side = side }))
    → IsWhatAt t w what
what_found t w there what side is inside attr line = found (slot_at t w).owner (standing_at t w).side is inside attr line
  where
    found : (o : Owner) (i : Option Side) → IsWhatOf o i there
        → ((r : Side) → i ≡ Some r → side ≡ r)
        → ((attr : ℕ) → o ≡ AttrSlot attr → what ≡ AttrOf attr)
        → ((name : RowName) → o ≡ LineSlot name → what ≡ MarkOf (record { row = name; side = side }))
        → IsWhatOf o i what
    found LevelSlot i is inside attr line = absurd is
    found (AttrSlot a) i is inside attr line = attr a refl
    found (LineSlot name) None is inside attr line = absurd is
    found (LineSlot name) (Some r) is inside attr line = line name refl ∙ ap (λ (d : Side). MarkOf (record { row = name; side = d })) (inside r refl)

-- an inside line's mark
pub mark_found : (t : Lists) (w : ℕ) (name : RowName) (side : Side) (what : What) → (slot_at t w).owner ≡ LineSlot name → (standing_at t w).side ≡ Some side
    → what ≡ MarkOf (record { row = name; side = side }) → IsWhatAt t w what
mark_found t w name side what owner inside is =
    subst (λ (o : Owner). IsWhatOf o (standing_at t w).side what) (sym owner) (subst (λ (i : Option Side). IsWhatOf (LineSlot name) i what) (sym inside) is)

pub there_above : (t : Lists) (w : ℕ) (what : What) → LEVELS ≤ w → IsWhatAt t w what → IsThere t w what
there_above t w what high is = ((λ low. absurd (omega (arith, low, high))), (λ h. is))

pub there_below : (t : Lists) (w : ℕ) (level : Level) → w < LEVELS → level ≡ Priority (1000 - w) → IsThere t w (LevelOf level)
there_below t w level low is = ((λ h. ap (λ (l : Level). LevelOf l) is), (λ high. absurd (omega (arith, low, high))))

-- ---- its numbers

pub over_below : (t : Lists) (w : ℕ) → w < LEVELS → over_at t w ≡ level_own t w *ℤ (priority_at t w).unit
over_below t w low = ap (λ (b : Bool). cond b (level_own t w *ℤ (priority_at t w).unit) (entry t w w)) (lt-ltb w LEVELS low)

pub over_above : (t : Lists) (w : ℕ) → LEVELS ≤ w → over_at t w ≡ entry t w w
over_above t w high = ap (λ (b : Bool). cond b (level_own t w *ℤ (priority_at t w).unit) (entry t w w)) (le-ltb w LEVELS high)

-- a number of a row, with the sign of what is at the slot
pub signed_number : (number sign at : ℤ) → sign ≡ at → (number *ℤ negsuc 0) *ℤ sign ≡ neg_ℤ (at *ℤ number)
signed_number number sign at is = minus_sign number sign ∙ ap neg_ℤ (*ℤ_comm number sign ∙ ap (λ (z : ℤ). z *ℤ number) is)

pub plain_number : (number at : ℤ) → at ≡ pos 1 → neg_ℤ number ≡ neg_ℤ (at *ℤ number)
plain_number number at is = ap neg_ℤ (one-times number ∙ ap (λ (z : ℤ). z *ℤ number) (sym is))
  where
    one-times : (z : ℤ) → z ≡ pos 1 *ℤ z
    one-times z = omega (arith, ints)

-- ---- as the code has them

pub level_scale : (t : Lists) (w : ℕ) (own unit : ℤ) → SFits w64 own → SFits w64 unit → own ≡ level_own t w → unit ≡ (priority_at t w).unit → w < LEVELS → CanGrow t w
    → to_z w64 (of_z w64 (to_z w64 (of_z w64 own) *ℤ to_z w64 (of_z w64 unit))) ≡ over_at t w
level_scale t w own unit own-fits unit-fits own-is unit-is low grows =
    product_is own unit (level_own t w) (priority_at t w).unit own-fits unit-fits own-is unit-is
    (fitting_cost (level_own t w *ℤ (priority_at t w).unit) (subst IsFitting (over_below t w low) grows.fits))
    ∙ sym (over_below t w low)

pub level_number : (t : Lists) (w line : ℕ) (n number : ℤ) → AreSlots t → w < LEVELS → n ≡ neg_ℤ number → number ≡ entry t w line → n ≡ neg_ℤ (sign_at t w *ℤ entry t w line)
level_number t w line n number slots low is there = is ∙ ap neg_ℤ there ∙ plain_number (entry t w line) (sign_at t w) (level_sign_at t w slots low)

pub value_number : (t : Lists) (w line : ℕ) (n number sign : ℤ) → n ≡ (number *ℤ negsuc 0) *ℤ sign → number ≡ entry t w line → sign ≡ sign_at t w → n ≡ neg_ℤ (sign_at t w *ℤ entry t w line)
value_number t w line n number sign is there signed =
    is ∙ ap (λ (x : ℤ). (x *ℤ negsuc 0) *ℤ sign) there ∙ signed_number (entry t w line) sign (sign_at t w) signed

pub growth_is : (a b : Growth) → a.n ≡ b.n → a.d ≡ b.d → a ≡ b
growth_is a b n d = ap₂ (λ (x y : ℤ). growth x y) n d
  where
    growth : ℤ → ℤ → Growth
    growth x y = record { n = x; d = y }

-- ---- what can grow

above : (own : ℕ) (z : ℤ) → z ≡ pos own → 0 < own → pos 0 <ℤ z
above own z is some = omega (arith, ints, is, some)

level-grows : (t : Lists) (w : ℕ) → IsKept t → w < LEVELS → CanGrow t w
level-grows t w kept low = record {
  fits = subst IsFitting (sym (over_below t w low)) (scale_fits t w kept low);
  above = subst (λ (z : ℤ). pos 0 <ℤ z) (sym (over_below t w low)) (scale_above t w kept low);
  what = LevelOf (Priority (1000 - w));
  there = there_below t w (Priority (1000 - w)) low refl;
}

slot-grows : (t : Lists) (w : ℕ) (what : What) → IsKept t → LEVELS ≤ w → pos 0 <ℤ entry t w w → IsWhatAt t w what → CanGrow t w
slot-grows t w what kept high some is = record {
  fits = subst IsFitting (sym (over_above t w high)) (entry_fits t w w kept);
  above = subst (λ (z : ℤ). pos 0 <ℤ z) (sym (over_above t w high)) some;
  what = what;
  there = there_above t w what high is;
}

attr-own : (t : Lists) (w attr : ℕ) → IsKept t → HasStay t.stays attr → attr_slot t attr ≡ w → pos 0 <ℤ entry t w w
attr-own t w attr kept has e =
    let q : IsAttrRow t attr = attr_equation t attr kept has in
    subst (λ (c : ℕ). pos 0 <ℤ entry t c c) e (above q.0 (entry t (attr_slot t attr) (attr_slot t attr)) q.1 q.2.own_positive)

line-own : (t : Lists) (w : ℕ) (name : RowName) (side : Side) → IsKept t → (slot_at t w).owner ≡ LineSlot name → (standing_at t w).side ≡ Some side → pos 0 <ℤ entry t w w
line-own t w name side kept owner inside =
    let owned = line-owned t w name kept.slots owner in
    let there : (standing_at t (line_slot t name)).side ≡ Some side = ap (λ (c : ℕ). (standing_at t c).side) owned.1 ∙ inside in
    let row : IsLineRow t name (standing_at t (line_slot t name)).side =
    any_is (λ l. IsLineRow t l.name (standing_at t (line_slot t l.name)).side) (λ l. l.name ≡ name) (lines (problem_of t)) kept.lines owned.0
    (λ l h e. subst (λ (n : RowName). IsLineRow t n (standing_at t (line_slot t n)).side) e h) in
    let q : IsLineRow t name (Some side) = subst (λ (i : Option Side). IsLineRow t name i) there row in
    subst (λ (c : ℕ). pos 0 <ℤ entry t c c) owned.1 (above q.0 (entry t (line_slot t name) (line_slot t name)) q.1 q.2.own_positive)

owner-grows : (t : Lists) (w : ℕ) (o : Owner) (i : Option Side) → IsKept t → IsSlot t w → IsNoOutside t w → ((slot_at t w).owner ≡ LevelSlot → ⊥) → IsOwned t w o → (slot_at t w).owner ≡ o → (standing_at t w).side ≡ i → CanGrow t w
owner-grows t w LevelSlot i kept slot apart some owned owner inside = absurd (some owner)
owner-grows t w (AttrSlot attr) i kept slot apart some owned owner inside =
    slot-grows t w (AttrOf attr) kept slot.0 (attr-own t w attr kept owned.0 owned.1) (subst (λ (o : Owner). IsWhatOf o (standing_at t w).side (AttrOf attr)) (sym owner) refl)
owner-grows t w (LineSlot name) None kept slot apart some owned owner inside = absurd (apart (slot, inside, (name, owner)))
owner-grows t w (LineSlot name) (Some side) kept slot apart some owned owner inside =
    slot-grows t w (MarkOf (record { row = name; side = side })) kept slot.0 (line-own t w name side kept owner inside)
    (mark_found t w name side (MarkOf (record { row = name; side = side })) owner inside refl)

-- a slot in whose row any other stands
pub can_grow : (t : Lists) (w c : ℕ) → IsKept t → w < length t.slots → entry t w c ≢ pos 0 → CanGrow t w
can_grow t w c kept within some =
    elim (below_or w LEVELS) [
      | inl low ↦ level-grows t w kept low
      | inr high ↦ owner-grows t w (slot_at t w).owner (standing_at t w).side kept (high, within) (stands_apart t w c kept some) (not_free t w c kept.stored high some) (kept.slots.owners w (high, within)) refl refl
    ]
