-- Lists keep what they keep where stays are put before all others: `fronted_kept`. No equation and no priority level
-- reads the order of the stays.
use Rattle.std.proofs.Common.{◌≡◌, ◌≢◌, ◌∙◌, ℕ, ◌+◌, ◌*◌, ◌^◌, ◌<◌, List, slice_index_or, refl, sym, ap, subst, arith, ℤ, pos, ◌*ℤ◌, ◌-ℤ◌, unsigned_abs, All, Some, None}
use Rattle.std.specs.Int.{◌∣◌}
use Rattle.std.specs.declared.option.Option.{Option}
use Rattle.std.proofs.lemmas.List.Elements.{recursion_from_All, All-from_recursion}
use Rattle.frac_core.specs.Fraction.{Fraction, IsFitting}
use Rattle.problem_core.specs.declared.parts.Mark.{Mark}
use Rattle.problem_core.specs.declared.parts.RowName.{RowName}
use Rattle.problem_core.specs.declared.parts.RowName.TheVariants.{Held, Stay as StayOf}
use Rattle.problem_core.specs.declared.parts.Side.{Side}
use Rattle.problem_core.specs.declared.parts.Stay.{Stay}
use Rattle.problem_core.specs.Layout.{Line, Problem, lines}
use Rattle.problem_core.specs.Corners.{IsCorner, SameMarks, attr_column, one_column, place, place_of}
use Rattle.problem_core.specs.Levels.{AreFitting}
use Rattle.corner_lines.specs.LineEquations.{IsLineEquation, IsOutsideLine, deviation, sign_of}
use Rattle.stay_orders.specs.Orders.{fronted, with_front}
use Rattle.stay_orders.proofs.Corners.{Unseen, corner, lines_back, lines_to, solves}
use Rattle.stay_orders.proofs.Costs.{costs}
use Rattle.stay_orders.proofs.LevelRows.{levels, lines_sum, rays}
use Rattle.stay_orders.proofs.Members.{still_there, there_before}
use Rattle.stay_orders.proofs.Orders.{front_each}
use Rattle.stay_orders.proofs.Wholes.{front_length, held_there, whole_there}
use Rattle.corner_view.specs.declared.types.Owner.{Owner}
use Rattle.corner_view.specs.declared.types.Owner.TheVariants.{Level as LevelSlot, Attr as AttrSlot, Line as LineSlot}
use Rattle.corner_table.specs.declared.table.Slot.{Slot}
use Rattle.corner_table.specs.declared.table.TheConstants.{LEVELS, OWN_RANK}
use Rattle.corner_table.specs.Tables.{Lists, attr_slot, line_slot, marks_at, number, problem_of, row_at, slot_at, standing_at}
use Rattle.corner_table.specs.Kept.{AreOutside, AreSlots, HasStayRoom, IsAttrSlot, IsKept, IsLineRow, IsLineSlot, IsOwned, IsSlot, IsStayOwner, home_of}
use Rattle.corner_view.specs.Seen.{IsNamed}
use Rattle.corner_exchange.specs.Swaps.Exchanges.{IsEquationBy}
use Rattle.corner_exchange.specs.Swaps.NextLists.{IsLevelNext, IsLineBy}
use Rattle.corner_table.proofs.Basics.SmallFacts.{own_name}
use Rattle.corner_exchange.proofs.Swaps.ExchangedMarks.{same_inside}
use Rattle.corner_exchange.proofs.Swaps.NextFacts.{kept_by}
use Rattle.corner_table.proofs.Readings.MarkFacts.{inside_stands, stands_inside}
use Rattle.corner_table.proofs.Readings.SlotFacts.{any_is, named_stay}
use Rattle.corner_table.proofs.Basics.OwnerFacts.{line-owned, stay_owner}
use Rattle.corner_table.specs.Tables.{no_slot}
use Rattle.corner_table.proofs.Corners.SlotRanks.{AreOwnLast}
use Rattle.corner_orders.proofs.Orders.FrontedSlots.{AreReranked, put}

-- the stays of these attributes come first, and the slots have the ranks of the new order
pub record IsFronting (t : Lists) (attrs : List ℕ) (slots : List Slot) : Type 0 where
  pub kept : IsKept t
  pub ranks : AreReranked (with_front attrs t.stays) t slots

abbrev pub front : Lists → List ℕ → List Slot → Lists
front t attrs slots = put (with_front attrs t.stays) slots t

-- ---- what holds of each

pub all_stays : (P : Stay → Type 0) (attrs : List ℕ) (stays : List Stay) → All P stays → All P (with_front attrs stays)
all_stays P attrs stays h = All-from_recursion P (with_front attrs stays) (front_each P attrs stays (recursion_from_All P stays h))

all-lines : (P : Line → Type 0) (attrs : List ℕ) (p : Problem) → Unseen P → All P (lines p) → All P (lines (fronted attrs p))
all-lines P attrs p unseen h = All-from_recursion P (lines (fronted attrs p)) (lines_to P unseen attrs p (recursion_from_All P (lines p) h))

all-before : (P : Line → Type 0) (attrs : List ℕ) (p : Problem) → Unseen P → All P (lines (fronted attrs p)) → All P (lines p)
all-before P attrs p unseen h = All-from_recursion P (lines p) (lines_back P unseen attrs p (recursion_from_All P (lines (fronted attrs p)) h))

pub named_there : (attrs : List ℕ) (p : Problem) (name : RowName) → IsNamed p name → IsNamed (fronted attrs p) name
named_there attrs p name named =
    any_is (λ l. IsNamed (fronted attrs p) l.name) (λ l. l.name ≡ name) (lines p)
    (all-before (λ l. IsNamed (fronted attrs p) l.name) attrs p (λ j k s up above h. h) (λ k x lt. own_name (lines (fronted attrs p)) k x lt)) named
    (λ l h e. subst (λ (n : RowName). IsNamed (fronted attrs p) n) e h)

pub named_before : (attrs : List ℕ) (p : Problem) (name : RowName) → IsNamed (fronted attrs p) name → IsNamed p name
named_before attrs p name named =
    any_is (λ l. IsNamed p l.name) (λ l. l.name ≡ name) (lines (fronted attrs p))
    (all-lines (λ l. IsNamed p l.name) attrs p (λ j k s up above h. h) (λ k x lt. own_name (lines p) k x lt)) named
    (λ l h e. subst (λ (n : RowName). IsNamed p n) e h)

-- ---- slots

pub owner_same : (t : Lists) (attrs : List ℕ) (slots : List Slot) (w : ℕ) → IsFronting t attrs slots → (slot_at (front t attrs slots) w).owner ≡ (slot_at t w).owner
owner_same t attrs slots w f = ap (λ (s : Slot). s.owner) (f.ranks.same w)

pub slot_there : (t : Lists) (attrs : List ℕ) (slots : List Slot) (w : ℕ) → IsFronting t attrs slots → IsSlot t w → IsSlot (front t attrs slots) w
slot_there t attrs slots w f is = (is.0, let n = f.ranks.count in let lt = is.1 in omega (arith, n, lt))

slot-before : (t : Lists) (attrs : List ℕ) (slots : List Slot) (w : ℕ) → IsFronting t attrs slots → IsSlot (front t attrs slots) w → IsSlot t w
slot-before t attrs slots w f is = (is.0, let n = f.ranks.count in let lt = is.1 in omega (arith, n, lt))

attr-slot : (t : Lists) (attrs : List ℕ) (slots : List Slot) (attr : ℕ) → IsFronting t attrs slots → IsAttrSlot t attr → IsAttrSlot (front t attrs slots) attr
attr-slot t attrs slots attr f s = record {
  slot = slot_there t attrs slots (attr_slot t attr) f s.slot;
  owner = owner_same t attrs slots (attr_slot t attr) f ∙ s.owner;
}

home-same : (t : Lists) (attrs : List ℕ) (slots : List Slot) (l : Line) (name : RowName) → home_of t l name ≡ home_of (front t attrs slots) l name
home-same t attrs slots l (Held id) = refl
home-same t attrs slots l (StayOf attr) = refl

line-slot : (t : Lists) (attrs : List ℕ) (slots : List Slot) (l : Line) → IsFronting t attrs slots → IsLineSlot t l → IsLineSlot (front t attrs slots) l
line-slot t attrs slots l f s = record {
  slot = slot_there t attrs slots (line_slot t l.name) f s.slot;
  owner = owner_same t attrs slots (line_slot t l.name) f ∙ s.owner;
  home = ap (λ (x : Slot). x.home) (f.ranks.same (line_slot t l.name)) ∙ s.home ∙ home-same t attrs slots l l.name;
  weight = ap (λ (x : Slot). x.weight) (f.ranks.same (line_slot t l.name)) ∙ s.weight;
  scale = ap (λ (x : Slot). x.scale) (f.ranks.same (line_slot t l.name)) ∙ s.scale;
  rel = ap (λ (x : Slot). x.rel) (f.ranks.same (line_slot t l.name)) ∙ s.rel;
}

-- a stay's slot says the same at each level
stay-unseen : (u : Lists) → Unseen (IsLineSlot u)
stay-unseen u j k s up above h = record { slot = h.slot; owner = h.owner; home = h.home; weight = h.weight; scale = h.scale; rel = h.rel }

owned-there : (t : Lists) (attrs : List ℕ) (slots : List Slot) (w : ℕ) (o : Owner) → IsOwned t w o → IsOwned (front t attrs slots) w o
owned-there t attrs slots w LevelSlot h = h
owned-there t attrs slots w (AttrSlot attr) h = (held_there attrs t.stays attr h.0, h.1)
owned-there t attrs slots w (LineSlot name) h = (named_there attrs (problem_of t) name h.0, h.1)

-- no stay has its own rank
none-own : (t : Lists) (attrs : List ℕ) (slots : List Slot) → IsFronting t attrs slots → AreOwnLast slots
none-own t attrs slots f v w lt one two own =
    let o = stay_owner (slot_at t v).owner (subst IsStayOwner (owner_same t attrs slots v f) one) in
    let owned = line-owned t v (StayOf o.0) f.kept.slots o.1 in
    let held = held_there attrs t.stays o.0 (named_stay (problem_of t) o.0 owned.0) in
    let low : (slice_index_or slots (attr_slot t o.0 + 1) no_slot).rank < OWN_RANK =
    any_is (λ s. (slice_index_or slots (attr_slot t s.attr + 1) no_slot).rank < OWN_RANK) (λ s. s.attr ≡ o.0) (with_front attrs t.stays)
    (λ k x within.
    let is = f.ranks.ranks k x within in
    let count = front_length attrs t.stays in
    let few = f.kept.whole.stay_count in
    omega (arith, is, count, few, within)) held
    (λ s less e. subst (λ (a : ℕ). (slice_index_or slots (attr_slot t a + 1) no_slot).rank < OWN_RANK) e less) in
    let there : (slice_index_or slots v no_slot).rank < OWN_RANK = subst (λ (c : ℕ). (slice_index_or slots c no_slot).rank < OWN_RANK) owned.1 low in
    absurd (omega (arith, there, own))

slots-fronted : (t : Lists) (attrs : List ℕ) (slots : List Slot) → IsFronting t attrs slots → AreSlots (front t attrs slots)
slots-fronted t attrs slots f =
    let s = f.kept.slots in
    let n = f.ranks.count in
    let count = front_length attrs t.stays in
    record {
      standings = s.standings ∙ sym n;
      matrix = s.matrix ∙ sym n;
      levels = let le = s.levels in omega (arith, n, le);
      room = all_stays (λ x. attr_slot t x.attr + 1 < 2 ^ 32) attrs t.stays s.room;
      priorities = s.priorities;
      attrs = all_stays (λ x. IsAttrSlot (front t attrs slots) x.attr) attrs t.stays (λ k x lt. attr-slot t attrs slots (slice_index_or t.stays k x).attr f (s.attrs k x lt));
      lines = all-lines (IsLineSlot (front t attrs slots)) attrs (problem_of t) (stay-unseen (front t attrs slots))
          (λ k x lt. line-slot t attrs slots (slice_index_or (lines (problem_of t)) k x) f (s.lines k x lt));
      owners = λ w is. subst (λ (o : Owner). IsOwned (front t attrs slots) w o) (sym (owner_same t attrs slots w f)) (owned-there t attrs slots w (slot_at t w).owner (s.owners w (slot-before t attrs slots w f is)));
      level_owners = λ w lt. owner_same t attrs slots w f ∙ s.level_owners w lt;
      level_homes = λ w lt. ap (λ (x : Slot). x.home) (f.ranks.same w) ∙ s.level_homes w lt;
      level_ranks = λ w lt. f.ranks.levels w lt ∙ s.level_ranks w lt;
      stay_ranks = λ k x lt.
          let is = f.ranks.ranks k x lt in
          omega (arith, is);
      stays_rise = λ i k x lt within.
          let one = f.ranks.ranks i x (omega (arith, lt, within)) in
          let two = f.ranks.ranks k x within in
          omega (arith, one, two, lt);
      ranks = f.ranks.most;
      own_last = none-own t attrs slots f;
    }

-- ---- rows

equation-there : (attrs : List ℕ) (p : Problem) (at : List Mark) (quantity : (ℕ → ℤ) → ℤ) (own : ℕ) (by : RowName → ℤ) (num : ℤ) (den : ℕ) → IsLineEquation p at quantity own by num den → IsLineEquation (fronted attrs p) at quantity own by num den
equation-there attrs p at quantity own by num den e = record {
  own_positive = e.own_positive;
  den_positive = e.den_positive;
  outside = all-lines (λ l. by l.name ≢ pos 0 → IsOutsideLine at l.name) attrs p (λ j k s up above h. h) e.outside;
  holds = λ x h.
      subst (λ (z : ℤ). pos den *ℤ (pos own *ℤ quantity x.num -ℤ z) ≡ pos own *ℤ (num *ℤ x.num one_column)) (sym (lines_sum (λ l. by l.name *ℤ deviation l.name x.num) (λ j k s up above. refl) attrs p))
      (e.holds x ((solves attrs p x).back h));
  lowest = λ k divides each. e.lowest k divides (all-before (λ l. k ∣ unsigned_abs (by l.name)) attrs p (λ i j s up above h. h) each);
}

line-there : (t : Lists) (attrs : List ℕ) (slots : List Slot) (name : RowName) (side : Option Side) → IsLineRow t name side
    → IsLineBy (front t attrs slots) (marks_at t) name (line_slot t name) (row_at t (line_slot t name)) side (standing_at t (line_slot t name)).value
line-there t attrs slots name None h = h
line-there t attrs slots name (Some side) h =
    let f : Fraction = (standing_at t (line_slot t name)).value in
    (h.0, h.1, equation-there attrs (problem_of t) (marks_at t) (deviation name) h.0 (number t (line_slot t name)) (sign_of side *ℤ f.num) f.den h.2)

outside-there : (t : Lists) (attrs : List ℕ) (slots : List Slot) → IsFronting t attrs slots → AreOutside (front t attrs slots)
outside-there t attrs slots f w c some ne =
    let out = f.kept.outside w c some ne in
    (slot_there t attrs slots c f out.0, out.1, (out.2.0, owner_same t attrs slots c f ∙ out.2.1))

-- ---- levels

fitting-there : (attrs : List ℕ) (p : Problem) (scale : ℕ) (times : RowName → ℤ) (reduced : ℕ → ℤ) → AreFitting p scale times reduced → AreFitting (fronted attrs p) scale times reduced
fitting-there attrs p scale times reduced h = record {
  scale_fits = h.scale_fits;
  times_fit = all-lines (λ l. IsFitting (times l.name)) attrs p (λ j k s up above g. g) h.times_fit;
  reduced_fit = λ side. all-lines (λ l. IsFitting (reduced (place_of l.name side))) attrs p (λ j k s up above g. g) (h.reduced_fit side);
}

level-there : (t : Lists) (attrs : List ℕ) (slots : List Slot) (k : ℕ) → IsFronting t attrs slots → k < LEVELS → IsLevelNext (front t attrs slots) (marks_at t) k
level-there t attrs slots k f low =
    let p : Problem = problem_of t in
    let h = f.kept.levels k low in
    let unseen = levels attrs p k low in
    record {
      unit = h.unit;
      own = h.own;
      unit_is = h.unit_is;
      own_is = h.own_is;
      rows = h.rows;
      empty = h.empty;
      least = unseen.unit h.unit h.least;
      by = h.numbers.by;
      reduced = h.numbers.reduced;
      row = unseen.row (marks_at t) h.unit h.own h.numbers.by h.numbers.row;
      outside = all-lines (λ l. IsOutsideLine (marks_at t) l.name → h.numbers.by l.name ≡ number t k l.name) attrs p (λ i j s up above g. g) h.numbers.outside;
      reduced_by = unseen.reduced h.unit h.own h.numbers.by h.numbers.reduced h.numbers.reduced_by;
      fits = fitting-there attrs p (h.own * h.unit) h.numbers.by h.numbers.reduced h.numbers.fits;
      cost = costs attrs p (marks_at t) k (standing_at t k).value low h.cost;
    }

-- ---- all of it

pub corner_there : (t : Lists) (attrs : List ℕ) → IsKept t → IsCorner (fronted attrs (problem_of t)) (marks_at t)
corner_there t attrs kept = corner attrs (problem_of t) (marks_at t) (still_there attrs (problem_of t)) kept.corner

pub marks_there : (t : Lists) (attrs : List ℕ) (slots : List Slot) → IsKept t → SameMarks (marks_at t) (marks_at (front t attrs slots))
marks_there t attrs slots kept =
    same_inside (front t attrs slots) (marks_at t) (corner_there t attrs kept).marks
    (λ m is stands. stands_inside t m (there_before attrs (problem_of t) (place m) is) stands)
    (λ m is i. inside_stands t m i)

pub fronted_kept : (t : Lists) (attrs : List ℕ) (slots : List Slot) → IsFronting t attrs slots → IsKept (front t attrs slots)
fronted_kept t attrs slots f =
    let p : Problem = problem_of t in
    let at : List Mark = marks_at t in
    let kept = f.kept in
    kept_by (front t attrs slots) at
    (record {
      marks = marks_there t attrs slots kept;
      whole = whole_there attrs p kept.whole;
      corner = corner_there t attrs kept;
      rays = rays attrs p at kept.rays;
      slots = slots-fronted t attrs slots f;
      stored = record {
        few = let n = f.ranks.count in let lt = kept.stored.few in omega (arith, n, lt);
        empty = λ w le e. kept.stored.empty w le (sym (owner_same t attrs slots w f) ∙ e);
      };
      matrix = kept.matrix;
      values = kept.values;
      attrs = λ k x lt. attr-rows k x lt;
      lines = all-lines (λ l. IsLineBy (front t attrs slots) at l.name (line_slot t l.name) (row_at t (line_slot t l.name)) (standing_at t (line_slot t l.name)).side (standing_at t (line_slot t l.name)).value) attrs p (λ j k s up above h. h)
          (λ k x lt. let name : RowName = (slice_index_or (lines p) k x).name in line-there t attrs slots name (standing_at t (line_slot t name)).side (kept.lines k x lt));
      outside = outside-there t attrs slots f;
      levels = λ k low. level-there t attrs slots k f low;
      stay_levels = all_stays (HasStayRoom t) attrs t.stays kept.stay_levels;
    })
  where
    attr-rows : All (λ s. IsEquationBy (front t attrs slots) (marks_at t) (λ x. x (attr_column s.attr)) (attr_slot t s.attr) (row_at t (attr_slot t s.attr)) (standing_at t (attr_slot t s.attr)).value.num (standing_at t (attr_slot t s.attr)).value.den) (with_front attrs t.stays)
    attr-rows =
        all_stays (λ s. IsEquationBy (front t attrs slots) (marks_at t) (λ x. x (attr_column s.attr)) (attr_slot t s.attr) (row_at t (attr_slot t s.attr)) (standing_at t (attr_slot t s.attr)).value.num (standing_at t (attr_slot t s.attr)).value.den) attrs t.stays
        (λ k x lt.
        let attr : ℕ = (slice_index_or t.stays k x).attr in
        let v : Fraction = (standing_at t (attr_slot t attr)).value in
        let h = f.kept.attrs k x lt in
        (h.0, h.1, equation-there attrs (problem_of t) (marks_at t) (λ y. y (attr_column attr)) h.0 (number t (attr_slot t attr)) v.num v.den h.2))
