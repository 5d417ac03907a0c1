-- A corner whose lists are those without an attribute is consistent.
use Rattle.std.proofs.Common.{◌≡◌, ◌≢◌, ◌∙◌, ℕ, ◌+◌, List, sym, ap, subst, arith, All, Contains}
use Rattle.problem_core.specs.declared.parts.Mark.{Mark}
use Rattle.problem_core.specs.declared.parts.RowName.{RowName}
use Rattle.problem_core.specs.declared.parts.RowName.TheVariants.{Held, Stay as StayOf}
use Rattle.problem_core.specs.Corners.{HasNegativeColumn}
use Rattle.problem_core.specs.Layout.{Problem, lines}
use Rattle.corner_lines.specs.Removals.{IsFree, without_attr}
use Rattle.corner_view.specs.declared.types.Owner.{Owner}
use Rattle.corner_view.specs.declared.types.Owner.TheVariants.{Level as LevelSlot, Attr as AttrSlot, Line as LineSlot}
use Rattle.corner_table.specs.declared.table.Slot.{Slot}
use Rattle.corner_table.specs.declared.table.Table.{Table}
use Rattle.corner_leaving.specs.Dropping.{dropped_attr}
use Rattle.corner_table.specs.Histories.{AreAlike, lists_before}
use Rattle.corner_table.specs.Invariants.{IsConsistent, IsEarlier, name_of, names_of}
use Rattle.corner_table.specs.Kept.{IsKept, IsOwned, IsSlot}
use Rattle.corner_table.specs.Reads.Listing.{HasLeft}
use Rattle.corner_table.specs.Tables.{Lists, attr_slot, line_slot, lists_of, marks_at, problem_of, slot_at}
use Rattle.corner_view.specs.Seen.{AreCandidates, IsNamed, IsOutside}
use Rattle.corner_table.proofs.Basics.OwnerFacts.{stay_named}
use Rattle.corner_leaving.proofs.Attributes.DroppedAttrCandidates.{attr_left_negative}
use Rattle.corner_leaving.proofs.Attributes.DroppedAttrKept.{IsApart, IsAttrDrop, attr_drop, attr_drop_kept, attr_drop_marks, attr_slot_same, count, left-lines, named-attr-left}
use Rattle.corner_table.proofs.Basics.ListFacts.{all_from, from_map, to_map}
use Rattle.corner_exchange.proofs.Swaps.ListedSlots.{were_listed}
use Rattle.corner_view.proofs.Facts.{mark_named, named_in}
use Rattle.corner_table.proofs.Readings.SlotFacts.{any_is}
use Rattle.corner_table.proofs.Readings.WritingFacts.{attr_owner, line_owner}
use Rattle.problem_core.proofs.RowNames.{held-not-stay as held-not}

-- neither of the attribute's slots is listed then
pub record AreAttrLeft (t : Lists) (attr : ℕ) (old new : List ℕ) : Type 0 where
  pub apart : (w : ℕ) → Contains new w → IsApart t attr w
  pub keeps : (w : ℕ) → IsApart t attr w → Contains old w → Contains new w
  pub others : (w : ℕ) → Contains new w → Contains old w

pub attr_left_listed : (t : Lists) (attr : ℕ) (old mid new : List ℕ) → HasLeft (attr_slot t attr) old mid → HasLeft (attr_slot t attr + 1) mid new → AreAttrLeft t attr old new
attr_left_listed t attr old mid new first second = record {
  apart = λ w has. record {
    attr_off = λ e. first.gone (second.others (attr_slot t attr) (subst (λ (c : ℕ). Contains new c) e has));
    stay_off = λ e. second.gone (subst (λ (c : ℕ). Contains new c) e has);
  };
  keeps = λ w off has. second.keeps w off.stay_off (first.keeps w off.attr_off has);
  others = λ w has. first.others w (second.others w has);
}

abbrev pub is-held : RowName → Type 0
is-held (Held id) = Unit {0}
is-held (StayOf attr) = ⊥

abbrev attr-in : RowName → ℕ
attr-in (Held id) = 0
attr-in (StayOf a) = a

-- the name of another slot is another one
other-name : (t : Lists) (attr w : ℕ) (o : Owner) → IsApart t attr w → IsOwned t w o → name_of o ≢ StayOf attr
other-name t attr w LevelSlot off owned e = held-not 0 attr e
other-name t attr w (AttrSlot a) off owned e = off.attr_off (sym owned.1 ∙ ap (attr_slot t) (ap attr-in e))
other-name t attr w (LineSlot name) off owned e = off.stay_off (sym owned.1 ∙ ap (line_slot t) e)

-- a slot of another name is another one
other-slot : (t : Lists) (attr w : ℕ) → IsAttrDrop t attr → name_of (slot_at t w).owner ≢ StayOf attr → IsApart t attr w
other-slot t attr w d ne = record {
  attr_off = λ e. ne (ap (λ (c : ℕ). name_of (slot_at t c).owner) e ∙ ap name_of (attr_owner t attr d.kept.slots d.free.held));
  stay_off = λ e. ne (ap (λ (c : ℕ). name_of (slot_at t c).owner) e ∙ ap name_of (line_owner t (StayOf attr) d.kept.slots (stay_named (problem_of t) attr d.free.held)));
}

slots-left : (t : Lists) (attr : ℕ) (old new : List ℕ) → IsAttrDrop t attr → AreAttrLeft t attr old new → All (IsSlot t) old → All (IsNamed (problem_of t)) (names_of t old)
    → All (IsSlot (dropped_attr t attr)) new × All (IsNamed (without_attr attr (problem_of t))) (names_of (dropped_attr t attr) new)
slots-left t attr old new d left slots named =
    let can = were_listed t old slots named in (
      all_from (IsSlot (dropped_attr t attr)) new (λ w has. let s = (can w (left.others w has)).0 in (s.0, let n = count t attr in let k = s.1 in omega (arith, n, k))),
      all_from (IsNamed (without_attr attr (problem_of t))) (names_of (dropped_attr t attr) new) (λ name has.
          let i = from_map (λ w. name_of (slot_at (dropped_attr t attr) w).owner) new name has in
          let off = left.apart i.of i.has in
          let before = can i.of (left.others i.of i.has) in
          subst (IsNamed (without_attr attr (problem_of t))) (sym (ap (λ (x : Slot). name_of x.owner) (attr_slot_same t attr i.of off)) ∙ i.is)
          (named-attr-left t attr (name_of (slot_at t i.of).owner) (other-name t attr i.of (slot_at t i.of).owner off (d.kept.slots.owners i.of before.0)) before.1)),
    )

candidate-left : (t : Lists) (attr : ℕ) (old new : List ℕ) (m : Mark) → IsAttrDrop t attr → AreAttrLeft t attr old new → AreCandidates (problem_of t) (marks_at t) (names_of t old)
    → IsOutside (without_attr attr (problem_of t)) (marks_at t) m → HasNegativeColumn (without_attr attr (problem_of t)) (marks_at t) m → Contains (names_of (dropped_attr t attr) new) m.row
candidate-left t attr old new m d left before out negative =
    let p : Problem = problem_of t in
    let both : IsNamed p m.row × (m.row ≢ StayOf attr) =
    any_is (λ l. IsNamed p l.name × (l.name ≢ StayOf attr)) (λ l. l.name ≡ m.row) (lines (without_attr attr p)) (left-lines t attr) (mark_named (without_attr attr p) m out.0)
    (λ l k e. subst (λ (n : RowName). IsNamed p n × (n ≢ StayOf attr)) e k) in
    let was = before m (named_in p m.row m.side both.0, out.1) (attr_left_negative p (marks_at t) attr m d.kept.whole d.kept.corner d.free both.1 negative) in
    let i = from_map (λ w. name_of (slot_at t w).owner) old m.row was in
    let off = other-slot t attr i.of d (λ e. both.1 (sym i.is ∙ e)) in
    subst (λ (n : RowName). Contains (names_of (dropped_attr t attr) new) n) (ap (λ (x : Slot). name_of x.owner) (attr_slot_same t attr i.of off) ∙ i.is)
    (to_map (λ w. name_of (slot_at (dropped_attr t attr) w).owner) new i.of (left.keeps i.of off i.has))

pub attr_drop_consistent : (old new : Table) (attr : ℕ) (listed next : List ℕ) → IsConsistent old listed → IsFree (problem_of (lists_of old)) attr → AreAlike new → lists_before new ≡ lists_before old → lists_of new ≡ dropped_attr (lists_of old) attr
    → AreAttrLeft (lists_of old) attr listed next → IsConsistent new next
attr_drop_consistent old new attr listed next c free alike before now left =
    let t : Lists = lists_of old in
    let u : Lists = dropped_attr t attr in
    let d : IsAttrDrop t attr = attr_drop t attr c.kept free in
    let there = slots-left t attr listed next d left c.slots c.named in
    record {
      alike = alike;
      before = subst (All IsEarlier) (sym before) c.before;
      kept = subst IsKept (sym now) (attr_drop_kept t attr d);
      slots = subst (λ (x : Lists). All (IsSlot x) next) (sym now) there.0;
      named = subst (λ (x : Lists). All (IsNamed (problem_of x)) (names_of x next)) (sym now) there.1;
      candidates = subst (λ (x : Lists). AreCandidates (problem_of x) (marks_at x) (names_of x next)) (sym now)
          (subst (λ (at : List Mark). AreCandidates (without_attr attr (problem_of t)) at (names_of u next)) (sym (attr_drop_marks t attr d)) (λ m out negative. candidate-left t attr listed next m d left c.candidates out negative));
    }

pub attr_dropped_marks : (t u : Lists) (attr : ℕ) → IsKept t → IsFree (problem_of t) attr → u ≡ dropped_attr t attr → marks_at u ≡ marks_at t
attr_dropped_marks t u attr kept free now = ap marks_at now ∙ attr_drop_marks t attr (attr_drop t attr kept free)
