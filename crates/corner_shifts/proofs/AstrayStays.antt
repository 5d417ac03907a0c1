-- Which stays may be astray after a change.
use Rattle.std.proofs.Common.{◌≡◌, ◌≢◌, ◌∙◌, ℕ, ◌<◌, ◌≤◌, Bool, cond, nat_eq, List, [], length, slice_index_or, sym, ap, subst, arith, inl, inr, ℤ, pos, neg_ℤ, ◌*ℤ◌, Contains, None, Some}
use Rattle.std.specs.declared.option.Option.{Option}
use Rattle.std.proofs.lemmas.Bool.{cases_eq, ne_eqb}
use Rattle.frac_core.proofs.Integers.{mul-zero_ℤ}
use Rattle.frac_core.proofs.Numbers.{zero-or-not}
use Rattle.frac_core.specs.Fraction.{Fraction}
use Rattle.row_core.specs.Rows.{Term}
use Rattle.problem_core.specs.declared.parts.RowName.TheVariants.{Held}
use Rattle.problem_core.specs.declared.parts.Side.{Side}
use Rattle.problem_core.specs.declared.parts.Stay.{Stay}
use Rattle.problem_core.specs.Corners.{Swap}
use Rattle.corner_table.specs.declared.table.Standing.{Standing}
use Rattle.corner_table.specs.declared.table.TheConstants.{LEVELS}
use Rattle.corner_table.specs.Kept.{AreSlots, IsKept, IsLineSlot, IsStayOwner}
use Rattle.corner_table.specs.Tables.{Lists, entry, line_slot, problem_of, slot_at, standing_at}
use Rattle.corner_view.specs.Seen.{IsNamed}
use Rattle.corner_table.proofs.Readings.WritingFacts.{line_owner}
use Rattle.corner_exchange.specs.declared.exchange.Change.{Change}
use Rattle.corner_exchange.specs.Swaps.Exchanges.{turned_lists}
use Rattle.corner_exchange.specs.Swaps.NextLists.{over}
use Rattle.corner_exchange.specs.Swaps.TurnedLevels.{IsTurn, IsTurnBy}
use Rattle.corner_exchange.proofs.Swaps.TurnedFacts.{AreTurned, turned_at, turned_over}
use Rattle.corner_shifts.specs.declared.astray.Astray.{Astray}
use Rattle.corner_shifts.specs.declared.shifting.Growth.{Growth}
use Rattle.corner_shifts.specs.Astray.{AreAstray, AreMovedListed, AreStaysListed, IsAstray, ListsAstray, NoneGoesAstray}
use Rattle.corner_shifts.specs.Shifting.{AreGrown, IsShifted, growth_by, home_growth, mark_growth, sign_at, with_shifted}
use Rattle.corner_shifts.specs.Stood.{AreFirstStood, HaveFirstStood, stay_slot, with_moved}
use Rattle.corner_shifts.proofs.Shifts.GrownInside.{held_named, home_low}
use Rattle.corner_view.proofs.Seen.SeenLines.{stay_line}

-- ---- what is listed

-- the first ones of these slots too that are of stays' lines
pub record AreFirstListed (t : Lists) (ws : List ℕ) (i : ℕ) (old new : List ℕ) : Type 0 where
  pub keeps : (v : ℕ) → Contains old v → Contains new v
  pub has : (k d : ℕ) → k < i → IsStayOwner (slot_at t (slice_index_or ws k d)).owner → Contains new (slice_index_or ws k d)

pub none_first : (t : Lists) (ws old : List ℕ) → AreFirstListed t ws 0 old old
none_first t ws old = record {
  keeps = λ v has. has;
  has = λ k d less stay. absurd (omega (arith, less));
}

pub all_first : (t : Lists) (ws : List ℕ) (i : ℕ) (old new : List ℕ) → length ws ≤ i → AreFirstListed t ws i old new → AreStaysListed t ws old new
all_first t ws i old new over first = record {
  keeps = first.keeps;
  has = λ w (k, lt, is) stay. subst (Contains new) is (first.has k w (omega (arith, lt, over)) (subst (λ (v : ℕ). IsStayOwner (slot_at t v).owner) (sym is) stay));
}

-- ---- a row's constant changes

pub stay-there : (t : Lists) (i : ℕ) (s : Stay) → AreSlots t → i < length t.stays
    → IsStayOwner (slot_at t (stay_slot t (slice_index_or t.stays i s).attr)).owner × (LEVELS ≤ stay_slot t (slice_index_or t.stays i s).attr)
stay-there t i s slots lt =
    let l = stay_line (IsLineSlot t) (problem_of t) slots.lines i s lt in
    (subst IsStayOwner (sym l.1.owner) tt, l.1.slot.0)

-- a row's line is no stay's
held-apart : (t : Lists) (id w : ℕ) → AreSlots t → IsNamed (problem_of t) (Held id) → IsStayOwner (slot_at t w).owner → w ≢ line_slot t (Held id)
held-apart t id w slots named stay e =
    subst IsStayOwner (ap (λ (v : ℕ). (slot_at t v).owner) e ∙ line_owner t (Held id) slots named) stay

zero-growth : (t : Lists) (line w : ℕ) (o : Option Side) → LEVELS ≤ w → w ≢ line → (slot_at t line).home < LEVELS → entry t w line ≡ pos 0 → (growth_by t line o w).n ≡ pos 0
zero-growth t line w None high ne low none = ap (λ (z : ℤ). neg_ℤ z) (ap (λ (z : ℤ). sign_at t w *ℤ z) none ∙ mul-zero_ℤ (sign_at t w))
zero-growth t line w (Some side) high ne low none =
    let still : Growth = record { n = pos 0; d = pos 1 } in
    let home : Growth = home_growth t line side in
    ap (λ (b : Bool). (cond {A = Growth} b (mark_growth side) (cond {A = Growth} (nat_eq w (slot_at t line).home) home still)).n) (ne_eqb w line ne)
    ∙ ap (λ (b : Bool). (cond {A = Growth} b home still).n) (ne_eqb w (slot_at t line).home (λ e. omega (arith, e, low, high)))

shifted-stays : (t : Lists) (id : ℕ) (to more : Fraction) (ss : List Standing) (old new : Astray) → IsKept t → IsNamed (problem_of t) (Held id) → AreGrown t (line_slot t (Held id)) more ss
    → AreMovedListed t (line_slot t (Held id)) old new → AreAstray t old.lines → AreAstray (with_shifted id to ss t) new.lines
shifted-stays t id to more ss old new kept named grown listed astray i s lt =
    let line : ℕ = line_slot t (Held id) in
    let w : ℕ = stay_slot t (slice_index_or t.stays i s).attr in
    let there = stay-there t i s kept.slots lt in
    elim (zero-or-not (entry t w line)) [
      | inl none ↦
          let growth = zero-growth t line w (standing_at t line).side there.1 (held-apart t id w kept.slots named there.0) (home_low t id kept named) none in
          elim (astray i s lt) [
            | inl stands ↦ inl (ap (λ (x : Standing). x.value.num) (grown.others w growth) ∙ stands)
            | inr has ↦ inr (listed.keeps w has)
          ]
      | inr some ↦ inr (listed.has w some there.0)
    ]

pub shifted_astray : (t u : Lists) (id line : ℕ) (to : Fraction) (old new : Astray) → IsKept t → line ≡ line_slot t (Held id) → ListsAstray t line old new → IsAstray t old → IsShifted id to t u → IsAstray u new
shifted_astray t u id line to old new kept at lists astray h known =
    let listed : AreMovedListed t line old new = lists known in
    subst (λ (x : Lists). AreAstray x new.lines) (sym h.5)
    (shifted-stays t id to h.1 u.standings old new kept (held_named t id h.2.held) h.4 (subst (λ (w : ℕ). AreMovedListed t w old new) at listed) (astray listed.known))

-- ---- the stays move to the values of now

pub stood_astray : (t u : Lists) → AreFirstStood (length t.stays) t u → AreAstray u []
stood_astray t u h =
    subst (λ (x : Lists). AreAstray x []) (sym h.0) (stood-here t u.stays u.standings h.1)
  where
    stood-here : (t : Lists) (stays : List Stay) (ss : List Standing) → HaveFirstStood (length t.stays) t stays ss → AreAstray (with_moved stays ss t) []
    stood-here t stays ss h i s lt =
        let count : length stays ≡ length t.stays = h.stay_count in
        let before : i < length t.stays = omega (arith, lt, count) in
        let attr : (slice_index_or stays i s).attr ≡ (slice_index_or t.stays i s).attr = (h.first i s before before).0 in
        inl (ap (λ (f : Fraction). f.num)
        (ap (λ (a : ℕ). (standing_at (with_moved stays ss t) (stay_slot t a)).value) attr ∙ h.cleared i s before before))

-- ---- a line turns

turned-stays : (t : Lists) (ss : List Standing) (m : List (List Term)) (line : ℕ) (side : Side) (swap : Swap) → AreSlots t → AreTurned t (over t ss m) line side swap → NoneGoesAstray t (over t ss m)
turned-stays t ss m line side swap slots turned lines astray i s lt =
    let w : ℕ = stay_slot t (slice_index_or t.stays i s).attr in
    elim (astray i s lt) [
      | inl stands ↦ inl (elim (cases_eq w line) [
        | inl e ↦
            ap (λ (k : ℕ). (standing_at (over t ss m) k).value.num) e
            ∙ ap (λ (x : Standing). x.value.num) turned.line_is
            ∙ ap (λ (z : ℤ). neg_ℤ z) (ap (λ (k : ℕ). (standing_at t k).value.num) (sym e) ∙ stands)
        | inr ne ↦ ap (λ (x : Standing). x.value.num) (turned.others w (stay-there t i s slots lt).1 ne) ∙ stands
      ])
      | inr has ↦ inr has
    ]

pub turned_stays : (t u : Lists) (line : ℕ) (side : Side) (swap : Swap) (change : Option Change) → AreSlots t → IsTurn t line side swap → IsTurnBy t line side change → u ≡ turned_lists t line side change → NoneGoesAstray t u
turned_stays t u line side swap change slots turn by same =
    let v : Lists = turned_lists t line side change in
    let is : v ≡ over t v.standings v.matrix = turned_over t line side change in
    subst (NoneGoesAstray t) (sym (same ∙ is))
    (turned-stays t v.standings v.matrix line side swap slots (subst (λ (x : Lists). AreTurned t x line side swap) is (turned_at t line side swap change slots turn by)))
