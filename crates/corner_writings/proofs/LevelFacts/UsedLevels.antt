-- The levels in use, strongest first.
use Rattle.std.proofs.Common.{◌≡◌, ◌≢◌, ◌∙◌, ℕ, zero, suc, ◌+◌, ◌-◌, ◌<◌, ◌≤◌, ◌++◌, cond, nat_eq, Bool, List, [], ◌∷◌, map, filter, length, refl, sym, ap, subst, arith, inl, inr, All, AllPairs, Any, Contains, ne_eqb, eq-eqb, slice_index_or}
use Rattle.std.proofs.lemmas.Bool.{cases_eq, cases_lt}
use Rattle.std.proofs.lemmas.List.Elements.{All-push, Contains-append_left, Contains-push}
use Rattle.std.proofs.lemmas.List.Quantifiers.{all_pairs_push}
use Rattle.problem_core.specs.declared.parts.RowName.TheVariants.{Stay as StayOf}
use Rattle.problem_core.specs.declared.parts.Level.{Level}
use Rattle.problem_core.specs.declared.parts.Level.TheVariants.{Priority, Stay as StayLevel}
use Rattle.problem_core.specs.declared.parts.Stay.{Stay}
use Rattle.problem_core.specs.Layout.{Line, Row, line_of_row, line_of_stay, lines, stay_lines}
use Rattle.problem_core.specs.Levels.{IsLevelAt}
use Rattle.corner_table.specs.declared.table.TheConstants.{LEVELS}
use Rattle.corner_table.specs.Tables.{Lists, level_slot, priority_at, problem_of, slot_at}
use Rattle.corner_table.specs.Kept.{IsKept}
use Rattle.corner_view.specs.Seen.{IsInUse, IsStronger}
use Rattle.corner_writings.proofs.LevelFacts.LevelReadFacts.{same_level, same_slot}
use Rattle.corner_view.proofs.Facts.{past-rows, tail-level, used_level}
use Rattle.corner_writings.proofs.LevelFacts.LevelUseFacts.{slots_in_order, some-row}
use Rattle.corner_table.proofs.Corners.NewTables.{less_or}
use Rattle.corner_table.proofs.Readings.SlotFacts.{any_impl}
use Rattle.problem_core.proofs.Lines.{later-line as before-rows}
use Rattle.frac_core.proofs.Lists.{any-later as later-any}
use Rattle.problem_core.proofs.RowNames.{stay-same as same-attr}

-- of the levels whose numbers are below n, all that are in use, in order
pub record AreUsedBelow (t : Lists) (n : ℕ) (levels : List Level) : Type 0 where
  pub used : All (IsInUse (problem_of t)) levels
  pub below : All (λ a. (j : ℕ) → IsLevelAt (problem_of t) a j → j < n) levels
  pub all : (a : Level) (j : ℕ) → IsLevelAt (problem_of t) a j → IsInUse (problem_of t) a → j < n → Contains levels a
  pub order : AllPairs (IsStronger (problem_of t)) levels

level-number : (t : Lists) (a : Level) (j k : ℕ) → IsKept t → IsLevelAt (problem_of t) a j → IsLevelAt (problem_of t) a k → j ≡ k
level-number t a j k kept x y = same_level t (level_slot t a) (level_slot t a) j k kept (a, x, refl) (a, y, refl) refl

-- the only level with the number n is not in use
pub skip_level : (t : Lists) (n : ℕ) (levels : List Level) → ((a : Level) → IsLevelAt (problem_of t) a n → IsInUse (problem_of t) a → ⊥) → AreUsedBelow t n levels → AreUsedBelow t (n + 1) levels
skip_level t n levels never h = record {
  used = h.used;
  below = λ k x lt j is. let b = h.below k x lt j is in omega (arith, b);
  all = λ a j is use-of lt. elim (less_or n j (omega (arith, lt))) [
    | inl less ↦ h.all a j is use-of less
    | inr e ↦ absurd (never a (subst (IsLevelAt (problem_of t) a) e is) use-of)
  ];
  order = h.order;
}

-- the only level with the number n is in use
pub push_level : (t : Lists) (n : ℕ) (levels : List Level) (b : Level) → IsKept t → IsLevelAt (problem_of t) b n → IsInUse (problem_of t) b → ((a : Level) → IsLevelAt (problem_of t) a n → a ≡ b) → AreUsedBelow t n levels → AreUsedBelow t (n + 1) (levels ++ (b ∷ []))
push_level t n levels b kept here use-of only h = record {
  used = All-push (IsInUse (problem_of t)) levels b h.used use-of;
  below = All-push (λ a. (j : ℕ) → IsLevelAt (problem_of t) a j → j < n + 1) levels b
      (λ k x lt j is. let c = h.below k x lt j is in omega (arith, c))
      (λ j is. let e = level-number t b j n kept is here in omega (arith, e));
  all = λ a j is used lt. elim (less_or n j (omega (arith, lt))) [
    | inl less ↦ Contains-append_left levels (b ∷ []) a (h.all a j is used less)
    | inr e ↦ subst (Contains (levels ++ (b ∷ []))) (sym (only a (subst (IsLevelAt (problem_of t) a) e is))) (Contains-push levels b)
  ];
  order = all_pairs_push (IsStronger (problem_of t)) levels b h.order
      (λ k d lt j i x y. let c = h.below k d lt j x in let e = level-number t b i n kept y here in omega (arith, c, e));
}

-- ---- priorities

pub stays-above : (k base : ℕ) (stays : List Stay) → Any (λ l. l.level ≡ k) (stay_lines base stays) → base ≤ k
stays-above k base [] (n, x, w, e, h) = absurd (omega (arith, w))
stays-above k base (s ∷ stays) (zero, x, w, e, h) = let q : base ≡ k = ap (λ (l : Line). l.level) e ∙ h in omega (arith, q)
stays-above k base (s ∷ stays) (suc n, x, w, e, h) = let q = stays-above k (base + 1) stays (n, x, omega (arith, w), e, h) in omega (arith, q)

pub no_row : (k : ℕ) (rows : List Row) (stays : List Stay) → k < 1001 → length (filter (λ r. nat_eq (1000 - r.rank) k) rows) ≡ 0 → Any (λ l. l.level ≡ k) (map line_of_row rows ++ stay_lines 1001 stays) → ⊥
no_row k [] stays lt none h = let q = stays-above k 1001 stays h in absurd (omega (arith, q, lt))
no_row k (r ∷ rows) stays lt none h = elim (cases_eq (1000 - r.rank) k) [
  | inl e ↦
      let q : suc (length (filter (λ (r : Row). nat_eq (1000 - r.rank) k) rows)) ≡ 0 =
      sym (ap (λ (b : Bool). length (cond b (r ∷ filter (λ (r : Row). nat_eq (1000 - r.rank) k) rows) (filter (λ (r : Row). nat_eq (1000 - r.rank) k) rows))) (eq-eqb (1000 - r.rank) k e)) ∙ none in
      absurd (omega (arith, q))
  | inr ne ↦
      no_row k rows stays lt
      (sym (ap (λ (b : Bool). length (cond b (r ∷ filter (λ (r : Row). nat_eq (1000 - r.rank) k) rows) (filter (λ (r : Row). nat_eq (1000 - r.rank) k) rows))) (ne_eqb (1000 - r.rank) k ne)) ∙ none)
      (later (map line_of_row rows ++ stay_lines 1001 stays) ne h)
]
  where
    later : (xs : List Line) → (1000 - r.rank) ≢ k → Any (λ l. l.level ≡ k) (line_of_row r ∷ xs) → Any (λ l. l.level ≡ k) xs
    later xs ne (zero, x, w, e, h) = absurd (ne (ap (λ (l : Line). l.level) e ∙ h))
    later xs ne (suc n, x, w, e, h) = (n, x, omega (arith, w), e, h)

stay-above : (t : Lists) (attr k : ℕ) → IsLevelAt (problem_of t) (StayLevel attr) k → 1001 ≤ k
stay-above t attr k is = tail-level attr k 1001 t.stays (past-rows attr k t.rows (stay_lines 1001 t.stays) is)

priority-used : (t : Lists) (rank k : ℕ) → k + rank ≡ 1000 → IsInUse (problem_of t) (Priority rank) → Any (λ l. l.level ≡ k) (lines (problem_of t))
priority-used t rank k is h = any_impl (λ l. IsLevelAt (problem_of t) (Priority rank) l.level) (λ l. l.level ≡ k) (lines (problem_of t)) (λ l e. omega (arith, is, e)) h

pub skip_priority : (t : Lists) (k : ℕ) (levels : List Level) → IsKept t → k < LEVELS → (priority_at t k).rows ≡ 0 → AreUsedBelow t k levels → AreUsedBelow t (k + 1) levels
skip_priority t k levels kept lt none h = skip_level t k levels never h
  where
    never : (a : Level) → IsLevelAt (problem_of t) a k → IsInUse (problem_of t) a → ⊥
    never (Priority rank) is use-of = no_row k t.rows t.stays lt (sym (kept.levels k lt).rows ∙ none) (priority-used t rank k is use-of)
    never (StayLevel attr) is use-of = let q = stay-above t attr k is in absurd (omega (arith, q, lt))

pub push_priority : (t : Lists) (k rank : ℕ) (levels : List Level) → IsKept t → k < LEVELS → k + rank ≡ 1000 → 0 < (priority_at t k).rows → AreUsedBelow t k levels → AreUsedBelow t (k + 1) (levels ++ (Priority rank ∷ []))
push_priority t k rank levels kept lt is some h =
    push_level t k levels (Priority rank) kept is
    (any_impl (λ l. l.level ≡ k) (λ l. IsLevelAt (problem_of t) (Priority rank) l.level) (lines (problem_of t)) (λ l e. omega (arith, is, e))
    (some-row k t.rows (stay_lines 1001 t.stays) (λ e. let rows = (kept.levels k lt).rows in absurd (omega (arith, e, rows, some)))))
    only h
  where
    only : (a : Level) → IsLevelAt (problem_of t) a k → a ≡ Priority rank
    only (Priority r) at = ap (λ (n : ℕ). Priority n) (omega (arith, at, is))
    only (StayLevel attr) at = let q = stay-above t attr k at in absurd (omega (arith, q, lt))

-- ---- stays

stay-there : (base level i : ℕ) (stays : List Stay) (d : Stay) → i < length stays → level ≡ base + i → Any (λ l. (l.name ≡ StayOf (slice_index_or stays i d).attr) × (l.level ≡ level)) (stay_lines base stays)
stay-there base level i [] d lt e = absurd (omega (arith, lt))
stay-there base level zero (s ∷ stays) d lt e = (0, line_of_stay base s, omega arith, refl, (refl, omega (arith, e)))
stay-there base level (suc i) (s ∷ stays) d lt e = later-any (λ l. (l.name ≡ StayOf (slice_index_or stays i d).attr) × (l.level ≡ level)) (line_of_stay base s) (stay_lines (base + 1) stays) (stay-there (base + 1) level i stays d (omega (arith, lt)) (omega (arith, e)))

stay-is : (base level i a : ℕ) (stays : List Stay) (d : Stay) → i < length stays → level ≡ base + i → Any (λ l. (l.name ≡ StayOf a) × (l.level ≡ level)) (stay_lines base stays) → a ≡ (slice_index_or stays i d).attr
stay-is base level i a [] d lt q h = absurd (omega (arith, lt))
stay-is base level zero a (s ∷ stays) d lt q (zero, x, w, e, h) = sym (same-attr s.attr a (ap (λ (l : Line). l.name) e ∙ h.0))
stay-is base level zero a (s ∷ stays) d lt q (suc n, x, w, e, h) = let p = tail-level a level (base + 1) stays (n, x, omega (arith, w), e, h) in absurd (omega (arith, p, q))
stay-is base level (suc i) a (s ∷ stays) d lt q (zero, x, w, e, h) = let p : base ≡ level = ap (λ (l : Line). l.level) e ∙ h.1 in absurd (omega (arith, p, q))
stay-is base level (suc i) a (s ∷ stays) d lt q (suc n, x, w, e, h) = stay-is (base + 1) level i a stays d (omega (arith, lt)) (omega (arith, q)) (n, x, omega (arith, w), e, h)

pub push_stay : (t : Lists) (i attr : ℕ) (d : Stay) (levels : List Level) → IsKept t → i < length t.stays → (slice_index_or t.stays i d).attr ≡ attr → AreUsedBelow t (1001 + i) levels → AreUsedBelow t (1001 + (i + 1)) (levels ++ (StayLevel attr ∷ []))
push_stay t i attr d levels kept lt same h =
    subst (λ (n : ℕ). AreUsedBelow t n (levels ++ (StayLevel attr ∷ []))) (next i)
    (push_level t (1001 + i) levels (StayLevel attr) kept here
    (any_impl (λ l. (l.name ≡ StayOf attr) × (l.level ≡ 1001 + i)) (λ l. IsLevelAt (problem_of t) (StayLevel attr) l.level) (lines (problem_of t)) (λ l q. subst (IsLevelAt (problem_of t) (StayLevel attr)) (sym q.1) here) here)
    only h)
  where
    next : (i : ℕ) → (1001 + i) + 1 ≡ 1001 + (i + 1)
    next i = omega arith

    here : IsLevelAt (problem_of t) (StayLevel attr) (1001 + i)
    here = subst (λ (a : ℕ). IsLevelAt (problem_of t) (StayLevel a) (1001 + i)) same
        (before-rows (λ l. (l.name ≡ StayOf (slice_index_or t.stays i d).attr) × (l.level ≡ 1001 + i)) t.rows (stay_lines 1001 t.stays) (stay-there 1001 (1001 + i) i t.stays d lt refl))

    only : (a : Level) → IsLevelAt (problem_of t) a (1001 + i) → a ≡ StayLevel attr
    only (Priority rank) is = absurd (omega (arith, is))
    only (StayLevel b) is = ap (λ (n : ℕ). StayLevel n) (stay-is 1001 (1001 + i) i b t.stays d lt refl (past-rows b (1001 + i) t.rows (stay_lines 1001 t.stays) is) ∙ same)

-- ---- all of them

tail-within : (a k base : ℕ) (stays : List Stay) → Any (λ l. (l.name ≡ StayOf a) × (l.level ≡ k)) (stay_lines base stays) → k < base + length stays
tail-within a k base [] (n, x, w, e, h) = absurd (omega (arith, w))
tail-within a k base (s ∷ stays) (zero, x, w, e, h) = let q : base ≡ k = ap (λ (l : Line). l.level) e ∙ h.1 in omega (arith, q)
tail-within a k base (s ∷ stays) (suc n, x, w, e, h) = let q = tail-within a k (base + 1) stays (n, x, omega (arith, w), e, h) in omega (arith, q)

number-within : (t : Lists) (a : Level) (k : ℕ) → IsLevelAt (problem_of t) a k → k < 1001 + length t.stays
number-within t (Priority rank) k is = omega (arith, is)
number-within t (StayLevel attr) k is = tail-within attr k 1001 t.stays (past-rows attr k t.rows (stay_lines 1001 t.stays) is)

pub all_used : (t : Lists) (n : ℕ) (levels : List Level) → length t.stays ≤ n → AreUsedBelow t (1001 + n) levels → (a : Level) → IsInUse (problem_of t) a → Contains levels a
all_used t n levels le h a use-of =
    let is = used_level (problem_of t) a use-of in
    let within = number-within t a is.0 is.1 in
    h.all a is.0 is.1 use-of (omega (arith, within, le))

-- ---- which of two is stronger

pub stronger_slot : (t : Lists) (a b : Level) (j k : ℕ) → IsKept t → IsLevelAt (problem_of t) a j → IsLevelAt (problem_of t) b k → (slot_at t (level_slot t a)).rank < (slot_at t (level_slot t b)).rank → j < k
stronger_slot t a b j k kept x y less =
    elim (cases_lt j k) [
      | inl before ↦ before
      | inr after ↦ elim (cases_eq j k) [
        | inl e ↦ let same : (slot_at t (level_slot t a)).rank ≡ (slot_at t (level_slot t b)).rank = ap (λ (n : ℕ). (slot_at t n).rank) (same_slot t (level_slot t a) (level_slot t b) j k kept (a, x, refl) (b, y, refl) e) in absurd (omega (arith, same, less))
        | inr ne ↦ let back : (slot_at t (level_slot t b)).rank < (slot_at t (level_slot t a)).rank = slots_in_order t b a k j kept y x (omega (arith, after, ne)) in absurd (omega (arith, back, less))
      ]
    ]

pub weaker_slot : (t : Lists) (a b : Level) (j k : ℕ) → IsKept t → IsLevelAt (problem_of t) a j → IsLevelAt (problem_of t) b k → (slot_at t (level_slot t b)).rank ≤ (slot_at t (level_slot t a)).rank → k ≤ j
weaker_slot t a b j k kept x y le =
    elim (cases_lt j k) [
      | inl before ↦ let less = slots_in_order t a b j k kept x y before in absurd (omega (arith, le, less))
      | inr after ↦ after
    ]
