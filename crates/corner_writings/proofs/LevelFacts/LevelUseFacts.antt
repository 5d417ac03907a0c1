-- Levels that are in use, and fronts.
use Rattle.std.proofs.Common.{◌≡◌, ◌≢◌, ◌∙◌, ℕ, zero, suc, ◌+◌, ◌-◌, ◌<◌, ◌≤◌, ◌++◌, cond, nat_eq, Bool, List, [], ◌∷◌, map, filter, length, refl, sym, ap, subst, arith, inl, inr, pos, AllPairs, Any, ne_eqb}
use Rattle.std.specs.List.{AllByRecursion as Each}
use Rattle.std.proofs.lemmas.Bool.{cases_eq}
use Rattle.std.proofs.lemmas.List.Elements.{All-from_recursion, recursion_from_All}
use Rattle.problem_core.specs.declared.parts.Mark.{Mark}
use Rattle.problem_core.specs.declared.parts.RowName.{RowName}
use Rattle.problem_core.specs.declared.parts.RowName.TheVariants.{Stay as StayOf}
use Rattle.problem_core.specs.declared.parts.Level.{Level}
use Rattle.problem_core.specs.declared.parts.Level.TheVariants.{Priority, Stay as StayLevel}
use Rattle.problem_core.specs.declared.parts.Stay.{Stay}
use Rattle.problem_core.specs.Layout.{Line, Row, line_of_row, lines, stay_lines}
use Rattle.problem_core.specs.Levels.{IsLevelAt}
use Rattle.row_core.specs.Rows.{Term, coefficient}
use Rattle.corner_laws.proofs.Counting.{head_pairs}
use Rattle.corner_view.specs.declared.types.Front.{Front}
use Rattle.corner_view.specs.declared.types.Owner.{Owner}
use Rattle.corner_view.specs.declared.types.Owner.TheVariants.{Line as LineSlot}
use Rattle.corner_table.specs.declared.table.TheConstants.{LEVELS}
use Rattle.corner_table.specs.Tables.{Lists, entry, level_slot, line_slot, marks_at, problem_of, slot_at, stay_rank}
use Rattle.corner_table.specs.Kept.{HasCost, IsKept, IsStayOwner}
use Rattle.corner_view.specs.Seen.{IsInUse, IsLevelOf, IsMarkOf, IsNamed, IsReducedAt}
use Rattle.corner_view.specs.Fronts.{IsFrontOf}
use Rattle.corner_table.specs.Reads.LevelNumbers.{HasReducedAt, IsFirstSlot, IsLevelThere, reduced_at}
use Rattle.corner_table.proofs.Readings.SlotFacts.{any_impl}
use Rattle.corner_view.proofs.Facts.{mark_named, past-rows, tail-level, used_level}
use Rattle.corner_writings.proofs.LevelFacts.LevelNumberFacts.{IsKnown, all-known, home_is, named_line}
use Rattle.corner_writings.proofs.LevelFacts.LevelReadFacts.{same_level}
use Rattle.corner_writings.proofs.LevelFacts.LevelFrontFacts.{in_column}
use Rattle.corner_writings.proofs.LevelFacts.LevelWrittenFacts.{has_reduced}
use Rattle.corner_writings.proofs.Basics.SmallFacts.{any-with}
use Rattle.frac_core.proofs.Lists.{any-later as later-any, pairs-rest as tail_pairs}
use Rattle.problem_core.proofs.RowNames.{stay-same as same-attr}
use Rattle.corner_writings.proofs.Basics.SmallFacts.{zero_unless as is_zero}

-- ---- rows of a level

pub some-row : (k : ℕ) (rows : List Row) (rest : List Line) → (length (filter (λ r. nat_eq (1000 - r.rank) k) rows) ≡ 0 → ⊥) → Any (λ l. l.level ≡ k) (map line_of_row rows ++ rest)
some-row k [] rest h = absurd (h refl)
some-row k (r ∷ rows) rest h = elim (cases_eq (1000 - r.rank) k) [
  | inl e ↦ (0, line_of_row r, omega arith, refl, e)
  | inr ne ↦ later-any (λ (l : Line). l.level ≡ k) (line_of_row r) (map line_of_row rows ++ rest) (some-row k rows rest (λ q. h (ap (λ (b : Bool). length (cond b (r ∷ filter (λ (r : Row). nat_eq (1000 - r.rank) k) rows) (filter (λ (r : Row). nat_eq (1000 - r.rank) k) rows))) (ne_eqb (1000 - r.rank) k ne) ∙ q)))
]

row-there : (t : Lists) (k w : ℕ) → IsKept t → k < LEVELS → entry t k w ≢ pos 0 → Any (λ l. l.level ≡ k) (lines (problem_of t))
row-there t k w kept lt ne = some-row k t.rows (stay_lines 1001 t.stays) (λ e. ne (ap (λ (row : List Term). coefficient w row) ((kept.levels k lt).empty e)))

used-by : (t : Lists) (l w : ℕ) (level : Level) (k : ℕ) → IsKept t → IsLevelAt (problem_of t) level k → level_slot t level ≡ l → entry t l w ≢ pos 0 → IsInUse (problem_of t) level
used-by t l w (Priority rank) k kept is e ne =
    any_impl (λ x. x.level ≡ l) (λ x. IsLevelAt (problem_of t) (Priority rank) x.level) (lines (problem_of t)) (λ x q. omega (arith, is, e, q)) (row-there t l w kept (omega (arith, is, e)) ne)
used-by t l w (StayLevel attr) k kept is e ne =
    any_impl (λ x. (x.name ≡ StayOf attr) × (x.level ≡ k)) (λ x. IsLevelAt (problem_of t) (StayLevel attr) x.level) (lines (problem_of t)) (λ x q. subst (λ (n : ℕ). IsLevelAt (problem_of t) (StayLevel attr) n) (sym q.1) is) is

pub level_used : (t : Lists) (m : Mark) (l : ℕ) (level : Level) → IsKept t → IsNamed (problem_of t) m.row → IsLevelThere t l level → HasReducedAt t (line_slot t m.row) m.side l → IsInUse (problem_of t) level
level_used t m l level kept named there here =
    elim (cases_eq (slot_at t (line_slot t m.row)).home l) [
      | inl e ↦ any-with (IsKnown t) (λ x. x.name ≡ m.row) (λ x. IsLevelAt (problem_of t) level x.level) (lines (problem_of t)) (All-from_recursion (IsKnown t) (lines (problem_of t)) (all-known t kept)) named
          (λ x known q.
          let same : x.level ≡ there.0.0 = same_level t (slot_at t (line_slot t x.name)).home l x.level there.0.0 kept (home_is t x known) (level, there.0.1, there.1) (ap (λ (n : RowName). (slot_at t (line_slot t n)).home) q ∙ e) in
          subst (λ (n : ℕ). IsLevelAt (problem_of t) level n) (sym same) there.0.1)
      | inr ne ↦ used-by t l (line_slot t m.row) level there.0.0 kept there.0.1 there.1 (in_column t l (line_slot t m.row) m.side ne here)
    ]

-- ---- slots in order

pub cost_slot : (t : Lists) (level : Level) → IsKept t → IsLevelOf (problem_of t) level → HasCost t (level_slot t level)
cost_slot t (Priority rank) kept is = inl (let e = is.1 in omega (arith, e))
cost_slot t (StayLevel attr) kept is =
    inr (named_line t (StayOf attr) kept (any_impl (λ l. (l.name ≡ StayOf attr) × (l.level ≡ is.0)) (λ l. l.name ≡ StayOf attr) (lines (problem_of t)) (λ l h. h.0) is.1)
    (λ l known e. subst (λ (o : Owner). IsStayOwner o) (sym (ap (λ (n : RowName). (slot_at t (line_slot t n)).owner) (sym e) ∙ known.slot.owner ∙ ap (λ (n : RowName). LineSlot n) e)) tt))

pub no_front : (t : Lists) (m : Mark) → IsKept t → IsMarkOf (problem_of t) m → ((l : ℕ) → HasReducedAt t (line_slot t m.row) m.side l → ⊥) → (level : Level) → IsLevelOf (problem_of t) level → IsReducedAt (problem_of t) (marks_at t) level m (pos 0)
no_front t m kept mark none level is =
    subst (IsReducedAt (problem_of t) (marks_at t) level m) (is_zero (reduced_at t (level_slot t level) (line_slot t m.row) m.side) (λ ne. none (level_slot t level) (cost_slot t level kept is, ne))) (has_reduced t level m kept is mark)

tail-above : (t : Lists) (b k base : ℕ) (stays : List Stay) → Each (λ s. LEVELS ≤ stay_rank t s.attr) stays → Any (λ l. (l.name ≡ StayOf b) × (l.level ≡ k)) (stay_lines base stays) → LEVELS ≤ stay_rank t b
tail-above t b k base [] all (n, x, w, e, h) = absurd (omega (arith, w))
tail-above t b k base (s ∷ stays) all (zero, x, w, e, h) = subst (λ (n : ℕ). LEVELS ≤ stay_rank t n) (same-attr s.attr b (ap (λ (l : Line). l.name) e ∙ h.0)) all.0
tail-above t b k base (s ∷ stays) all (suc n, x, w, e, h) = tail-above t b k (base + 1) stays all.1 (n, x, omega (arith, w), e, h)

tail-less : (t : Lists) (low b k base : ℕ) (stays : List Stay) → Each (λ r. low < stay_rank t r.attr) stays → Any (λ l. (l.name ≡ StayOf b) × (l.level ≡ k)) (stay_lines base stays) → low < stay_rank t b
tail-less t low b k base [] all (n, x, w, e, h) = absurd (omega (arith, w))
tail-less t low b k base (s ∷ stays) all (zero, x, w, e, h) = subst (λ (n : ℕ). low < stay_rank t n) (same-attr s.attr b (ap (λ (l : Line). l.name) e ∙ h.0)) all.0
tail-less t low b k base (s ∷ stays) all (suc n, x, w, e, h) = tail-less t low b k (base + 1) stays all.1 (n, x, omega (arith, w), e, h)

stay-order : (t : Lists) (a b j k base : ℕ) (stays : List Stay) → AllPairs (λ s r. stay_rank t s.attr < stay_rank t r.attr) stays → Any (λ l. (l.name ≡ StayOf a) × (l.level ≡ j)) (stay_lines base stays) → Any (λ l. (l.name ≡ StayOf b) × (l.level ≡ k)) (stay_lines base stays) → j < k → stay_rank t a < stay_rank t b
stay-order t a b j k base [] rise (n, x, w, e, h) g lt = absurd (omega (arith, w))
stay-order t a b j k base (s ∷ stays) rise (zero, x, w, e, h) (zero, y, v, f, g) lt =
    let p : base ≡ j = ap (λ (l : Line). l.level) e ∙ h.1 in let q : base ≡ k = ap (λ (l : Line). l.level) f ∙ g.1 in absurd (omega (arith, p, q, lt))
stay-order t a b j k base (s ∷ stays) rise (zero, x, w, e, h) (suc n, y, v, f, g) lt =
    subst (λ (n : ℕ). stay_rank t n < stay_rank t b) (same-attr s.attr a (ap (λ (l : Line). l.name) e ∙ h.0))
    (tail-less t (stay_rank t s.attr) b k (base + 1) stays (recursion_from_All (λ r. stay_rank t s.attr < stay_rank t r.attr) stays (head_pairs (λ s r. stay_rank t s.attr < stay_rank t r.attr) s stays rise)) (n, y, omega (arith, v), f, g))
stay-order t a b j k base (s ∷ stays) rise (suc n, x, w, e, h) (zero, y, v, f, g) lt =
    let p = tail-level a j (base + 1) stays (n, x, omega (arith, w), e, h) in let q : base ≡ k = ap (λ (l : Line). l.level) f ∙ g.1 in absurd (omega (arith, p, q, lt))
stay-order t a b j k base (s ∷ stays) rise (suc n, x, w, e, h) (suc m, y, v, f, g) lt =
    stay-order t a b j k (base + 1) stays (tail_pairs (λ s r. stay_rank t s.attr < stay_rank t r.attr) s stays rise) (n, x, omega (arith, w), e, h) (m, y, omega (arith, v), f, g) lt

-- the rank of a priority level is its number, and that of a stay's level is above all of them
priority-rank : (t : Lists) (r j : ℕ) → IsKept t → IsLevelAt (problem_of t) (Priority r) j → (slot_at t (level_slot t (Priority r))).rank ≡ j
priority-rank t r j kept x = let e = kept.slots.level_ranks (1000 - r) (omega (arith, x)) in omega (arith, e, x)

stay-rank-above : (t : Lists) (b k : ℕ) → IsKept t → IsLevelAt (problem_of t) (StayLevel b) k → LEVELS ≤ stay_rank t b
stay-rank-above t b k kept y = tail-above t b k 1001 t.stays (recursion_from_All (λ s. LEVELS ≤ stay_rank t s.attr) t.stays kept.slots.stay_ranks) (past-rows b k t.rows (stay_lines 1001 t.stays) y)

-- of two levels the stronger one has the lower rank
pub slots_in_order : (t : Lists) (a b : Level) (j k : ℕ) → IsKept t → IsLevelAt (problem_of t) a j → IsLevelAt (problem_of t) b k → j < k → (slot_at t (level_slot t a)).rank < (slot_at t (level_slot t b)).rank
slots_in_order t (Priority r) (Priority s) j k kept x y lt = let p = priority-rank t r j kept x in let q = priority-rank t s k kept y in omega (arith, p, q, lt)
slots_in_order t (Priority r) (StayLevel b) j k kept x y lt =
    let p = priority-rank t r j kept x in
    let above : LEVELS ≤ (slot_at t (level_slot t (StayLevel b))).rank = stay-rank-above t b k kept y in
    omega (arith, p, x, above)
slots_in_order t (StayLevel a) (Priority s) j k kept x y lt =
    let above = tail-level a j 1001 t.stays (past-rows a j t.rows (stay_lines 1001 t.stays) x) in absurd (omega (arith, y, lt, above))
slots_in_order t (StayLevel a) (StayLevel b) j k kept x y lt =
    stay-order t a b j k 1001 t.stays kept.slots.stays_rise (past-rows a j t.rows (stay_lines 1001 t.stays) x) (past-rows b k t.rows (stay_lines 1001 t.stays) y) lt

pub is_front : (t : Lists) (m : Mark) (l : ℕ) (f : Front) → IsKept t → IsMarkOf (problem_of t) m → IsFirstSlot t (line_slot t m.row) m.side l → IsLevelThere t l f.level → f.reduced ≡ reduced_at t l (line_slot t m.row) m.side → IsFrontOf (problem_of t) (marks_at t) m f
is_front t m l f kept mark first there e = record {
  used = level_used t m l f.level kept (mark_named (problem_of t) m mark) there first.there;
  reduced = subst (IsReducedAt (problem_of t) (marks_at t) f.level m) (ap (λ (n : ℕ). reduced_at t n (line_slot t m.row) m.side) there.1 ∙ sym e) (has_reduced t f.level m kept there.0 mark);
  nonzero = λ q. first.there.1 (sym e ∙ q);
  first = λ level use-of stronger.
      let is = used_level (problem_of t) level use-of in
      subst (IsReducedAt (problem_of t) (marks_at t) level m)
      (is_zero (reduced_at t (level_slot t level) (line_slot t m.row) m.side)
      (λ ne. first.first (level_slot t level) (subst (λ (n : ℕ). (slot_at t (level_slot t level)).rank < (slot_at t n).rank) there.1 (slots_in_order t level f.level is.0 there.0.0 kept is.1 there.0.1 (stronger is.0 there.0.0 is.1 there.0.1))) (cost_slot t level kept is, ne)))
      (has_reduced t level m kept is mark);
}
