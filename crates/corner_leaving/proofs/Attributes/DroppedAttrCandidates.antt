-- A mark with a negative column after an attribute that no row names has left has had one before:
-- `attr_left_negative`. The levels of the stays behind its stay move up by one.
use Rattle.std.proofs.Common.{◌≡◌, ◌≢◌, ◌∙◌, ◌⊎◌, ℕ, zero, suc, ◌+◌, ◌-◌, ◌*◌, ◌<◌, ◌≤◌, ◌++◌, min, Bool, cond, nat_eq, List, [], ◌∷◌, filter, map, ℤ, pos, ◌+ℤ◌, ◌-ℤ◌, ◌*ℤ◌, ◌<ℤ◌, ne_eqb, eq-eqb, refl, sym, ap, ap₂, subst, arith, inl, inr, AllPairs, Any}
use Rattle.std.specs.List.{AllByRecursion as Each}
use Rattle.std.proofs.lemmas.Bool.{cases_eq}
use Rattle.std.proofs.lemmas.List.Elements.{recursion_from_All, All-from_recursion}
use borrow.Author.Differences.{ints}
use Rattle.frac_core.proofs.Integers.{mul-zero_ℤ, zero-mul_ℤ}
use Rattle.problem_core.specs.declared.parts.Mark.{Mark}
use Rattle.problem_core.specs.declared.parts.RowName.{RowName}
use Rattle.problem_core.specs.declared.parts.RowName.TheVariants.{Held, Stay as StayOf}
use Rattle.problem_core.specs.declared.parts.Side.{Side}
use Rattle.problem_core.specs.declared.parts.Side.TheVariants.{Under, Over}
use Rattle.problem_core.specs.declared.parts.Stay.{Stay}
use Rattle.problem_core.specs.Certificates.{Multipliers, over_weight, under_weight, weight_at}
use Rattle.problem_core.specs.Kept.{IsWhole}
use Rattle.problem_core.specs.Layout.{Line, Problem, Row, coefficient, line_of_row, line_of_stay, lines, stay_lines, sum_of}
use Rattle.problem_core.specs.Corners.{AreMultipliersAt, HasNegativeColumn, IsCorner, IsIn, IsLexNegative, column, place, place_of}
use Rattle.problem_core.proofs.Forms.{each-impl}
use Rattle.corner_lines.specs.Removals.{IsFree, without_attr}
use Rattle.corner_lines.proofs.ProblemChanges.DroppedAttr.{stay-out, filter-off, filter-on, other_stay}
use Rattle.corner_lines.proofs.Lines.MarkForms.{same-name}
use Rattle.corner_leaving.proofs.Attributes.DroppedAttrLevels.{attr_sum, stays_behind}
use Rattle.problem_core.proofs.Corners.Conflicts.{sum-each}
use Rattle.frac_core.proofs.Orders.{three}
use Rattle.problem_core.proofs.RowNames.{held-not-stay as held-far}
use Rattle.frac_core.proofs.Numbers.{no-product as no-weight}
use Rattle.frac_core.proofs.Lists.{pairs-rest as tail_pairs}
use Rattle.problem_core.proofs.Lines.{under-none, over-none}

-- ---- levels

-- with the stay, whose level is t, the level i becomes j
abbrev IsRaised : ℕ → ℕ → ℕ → Type 0
IsRaised t i j = ((i < t) × (j ≡ i)) ⊎ ((t ≤ i) × (j ≡ i + 1))

lowered : (t j : ℕ) → (j ≡ t) ⊎ ((i : ℕ) × IsRaised t i j)
lowered t j = elim (three j t) [
  | inl less ↦ inr (j, inl (less, refl))
  | inr r ↦ elim r [
    | inl e ↦ inl e
    | inr more ↦ inr (j - 1, inr (omega (arith, more), omega (arith, more)))
  ]
]

raised : (t i : ℕ) → (j : ℕ) × IsRaised t i j
raised t i = elim (three i t) [
  | inl less ↦ (i, inl (less, refl))
  | inr r ↦ elim r [
    | inl e ↦ (i + 1, inr (omega (arith, e), refl))
    | inr more ↦ (i + 1, inr (omega (arith, more), refl))
  ]
]

raised-less : (t i j k l : ℕ) → IsRaised t i j → IsRaised t k l → l < j → k < i
raised-less t i j k l (inl a) (inl b) less = omega (arith, a.1, b.1, less)
raised-less t i j k l (inl a) (inr b) less = omega (arith, a.0, a.1, b.0, b.1, less)
raised-less t i j k l (inr a) (inl b) less = omega (arith, a.0, b.0)
raised-less t i j k l (inr a) (inr b) less = omega (arith, a.1, b.1, less)

not-own : (t i j : ℕ) → IsRaised t i j → j ≢ t
not-own t i j (inl a) e = absurd (omega (arith, a.0, a.1, e))
not-own t i j (inr a) e = absurd (omega (arith, a.0, a.1, e))

abbrev old_level : ℕ → ℕ → ℕ
old_level t level = level - min 1 (level - t)

old-is : (t i j : ℕ) → IsRaised t i j → old_level t j ≡ i
old-is t i j (inl a) = omega (arith, a.0, a.1)
old-is t i j (inr a) = omega (arith, a.0, a.1)

same-up : (t i j k l : ℕ) → IsRaised t i j → IsRaised t k l → i ≡ k → j ≡ l
same-up t i j k l (inl a) (inl b) e = omega (arith, a.1, b.1, e)
same-up t i j k l (inl a) (inr b) e = omega (arith, a.0, b.0, e)
same-up t i j k l (inr a) (inl b) e = omega (arith, a.0, b.0, e)
same-up t i j k l (inr a) (inr b) e = omega (arith, a.1, b.1, e)

same-down : (t i j k l : ℕ) → IsRaised t i j → IsRaised t k l → j ≡ l → i ≡ k
same-down t i j k l (inl a) (inl b) e = omega (arith, a.1, b.1, e)
same-down t i j k l (inl a) (inr b) e = omega (arith, a.0, a.1, b.0, b.1, e)
same-down t i j k l (inr a) (inl b) e = omega (arith, a.0, a.1, b.0, b.1, e)
same-down t i j k l (inr a) (inr b) e = omega (arith, a.1, b.1, e)

same-test : (t i j k l : ℕ) → IsRaised t i j → IsRaised t k l → nat_eq j l ≡ nat_eq i k
same-test t i j k l a b = elim (cases_eq i k) [
  | inl e ↦ eq-eqb j l (same-up t i j k l a b e) ∙ sym (eq-eqb i k e)
  | inr n ↦ ne_eqb j l (λ e. n (same-down t i j k l a b e)) ∙ sym (ne_eqb i k n)
]

-- ---- the multipliers, where the stay's level has none and the stay is taken no times

abbrev raised_times : ℕ → ℕ → Multipliers → Multipliers
raised_times attr t m = record {
  scale = λ level. cond (nat_eq level t) 1 (m.scale (old_level t level));
  times = λ level name. cond (nat_eq level t) (pos 0) (cond (nat_eq (place_of name Under) (place_of (StayOf attr) Under)) (pos 0) (m.times (old_level t level) name));
}

scale-else : (attr t : ℕ) (m : Multipliers) (level : ℕ) → level ≢ t → (raised_times attr t m).scale level ≡ m.scale (old_level t level)
scale-else attr t m level n = ap (λ (b : Bool). cond b 1 (m.scale (old_level t level))) (ne_eqb level t n)

times-own : (attr t : ℕ) (m : Multipliers) (level : ℕ) (name : RowName) → level ≡ t → (raised_times attr t m).times level name ≡ pos 0
times-own attr t m level name e = ap (λ (b : Bool). cond b (pos 0) (cond (nat_eq (place_of name Under) (place_of (StayOf attr) Under)) (pos 0) (m.times (old_level t level) name))) (eq-eqb level t e)

times-past : (attr t : ℕ) (m : Multipliers) (level : ℕ) (name : RowName) → level ≢ t → (raised_times attr t m).times level name ≡ cond (nat_eq (place_of name Under) (place_of (StayOf attr) Under)) (pos 0) (m.times (old_level t level) name)
times-past attr t m level name n = ap (λ (b : Bool). cond b (pos 0) (cond (nat_eq (place_of name Under) (place_of (StayOf attr) Under)) (pos 0) (m.times (old_level t level) name))) (ne_eqb level t n)

times-stay : (attr t : ℕ) (m : Multipliers) (level : ℕ) → (raised_times attr t m).times level (StayOf attr) ≡ pos 0
times-stay attr t m level = elim (cases_eq level t) [
  | inl e ↦ times-own attr t m level (StayOf attr) e
  | inr n ↦
      times-past attr t m level (StayOf attr) n
      ∙ ap (λ (b : Bool). cond b (pos 0) (m.times (old_level t level) (StayOf attr))) (eq-eqb (place_of (StayOf attr) Under) (place_of (StayOf attr) Under) refl)
]

times-else : (attr t : ℕ) (m : Multipliers) (level : ℕ) (name : RowName) → level ≢ t → name ≢ StayOf attr → (raised_times attr t m).times level name ≡ m.times (old_level t level) name
times-else attr t m level name n far =
    times-past attr t m level name n
    ∙ ap (λ (b : Bool). cond b (pos 0) (m.times (old_level t level) name)) (ne_eqb (place_of name Under) (place_of (StayOf attr) Under) (λ e. far (same-name name (StayOf attr) Under Under e)))

-- ---- columns

abbrev at_level : ℕ → Line → Line
at_level level l = record { name = l.name; level = level; weight = l.weight; rel = l.rel; scale = l.scale; num = l.num; den = l.den; form = l.form }

none-less : (n s : ℕ) (z : ℤ) → n ≡ 0 → z ≡ pos 0 → pos n -ℤ pos s *ℤ z ≡ pos 0
none-less n s z e f = let k : pos s *ℤ z ≡ pos 0 = ap (λ (x : ℤ). pos s *ℤ x) f ∙ mul-zero_ℤ (pos s) in omega (arith, ints, e, k)

none-more : (n s : ℕ) (z : ℤ) → n ≡ 0 → z ≡ pos 0 → pos n +ℤ pos s *ℤ z ≡ pos 0
none-more n s z e f = let k : pos s *ℤ z ≡ pos 0 = ap (λ (x : ℤ). pos s *ℤ x) f ∙ mul-zero_ℤ (pos s) in omega (arith, ints, e, k)

weightless : (l : Line) (t level : ℕ) → level ≡ t → l.level ≢ t → weight_at l level ≡ 0
weightless l t level e n = ap (λ (b : Bool). cond b l.weight 0) (ne_eqb l.level level (λ q. n (q ∙ e)))

-- at the stay's level each other line's is 0
column-own : (attr t : ℕ) (m : Multipliers) (side : Side) (l : Line) (level : ℕ) → level ≡ t → l.level ≢ t → column (raised_times attr t m) side l level ≡ pos 0
column-own attr t m Under l level e n =
    none-less ((raised_times attr t m).scale level * under_weight l.rel (weight_at l level)) l.scale ((raised_times attr t m).times level l.name)
    (no-weight ((raised_times attr t m).scale level) (under_weight l.rel (weight_at l level)) (ap (under_weight l.rel) (weightless l t level e n) ∙ under-none l.rel))
    (times-own attr t m level l.name e)
column-own attr t m Over l level e n =
    none-more ((raised_times attr t m).scale level * over_weight l.rel (weight_at l level)) l.scale ((raised_times attr t m).times level l.name)
    (no-weight ((raised_times attr t m).scale level) (over_weight l.rel (weight_at l level)) (ap (over_weight l.rel) (weightless l t level e n) ∙ over-none l.rel))
    (times-own attr t m level l.name e)

-- and at each other level it is as before
column-raised : (attr t : ℕ) (m : Multipliers) (side : Side) (l : Line) (i j k n : ℕ) → IsRaised t i j → IsRaised t k n → l.name ≢ StayOf attr → column (raised_times attr t m) side (at_level j l) n ≡ column m side (at_level i l) k
column-raised attr t m Under l i j k n up at far =
    let scale : (raised_times attr t m).scale n ≡ m.scale k = scale-else attr t m n (not-own t k n at) ∙ ap (λ (x : ℕ). m.scale x) (old-is t k n at) in
    let weight : weight_at (at_level j l) n ≡ weight_at (at_level i l) k = ap (λ (b : Bool). cond b l.weight 0) (same-test t i j k n up at) in
    let times : (raised_times attr t m).times n l.name ≡ m.times k l.name = times-else attr t m n l.name (not-own t k n at) far ∙ ap (λ (x : ℕ). m.times x l.name) (old-is t k n at) in
    ap₂ (λ (x : ℕ) (z : ℤ). pos x -ℤ pos l.scale *ℤ z) (ap₂ (λ (x y : ℕ). x * under_weight l.rel y) scale weight) times
column-raised attr t m Over l i j k n up at far =
    let scale : (raised_times attr t m).scale n ≡ m.scale k = scale-else attr t m n (not-own t k n at) ∙ ap (λ (x : ℕ). m.scale x) (old-is t k n at) in
    let weight : weight_at (at_level j l) n ≡ weight_at (at_level i l) k = ap (λ (b : Bool). cond b l.weight 0) (same-test t i j k n up at) in
    let times : (raised_times attr t m).times n l.name ≡ m.times k l.name = times-else attr t m n l.name (not-own t k n at) far ∙ ap (λ (x : ℕ). m.times x l.name) (old-is t k n at) in
    ap₂ (λ (x : ℕ) (z : ℤ). pos x +ℤ pos l.scale *ℤ z) (ap₂ (λ (x y : ℕ). x * over_weight l.rel y) scale weight) times

raised-zero : (attr t : ℕ) (m : Multipliers) (side : Side) (l : Line) (i j : ℕ) → IsRaised t i j → l.name ≢ StayOf attr → ((level : ℕ) → column m side (at_level i l) level ≡ pos 0) → (level : ℕ) → column (raised_times attr t m) side (at_level j l) level ≡ pos 0
raised-zero attr t m side l i j up far zeros level = elim (lowered t level) [
  | inl e ↦ column-own attr t m side (at_level j l) level e (not-own t i j up)
  | inr q ↦ column-raised attr t m side l i j q.0 level up q.1 far ∙ zeros q.0
]

raised-low : (attr t : ℕ) (m : Multipliers) (side : Side) (l : Line) (i j : ℕ) → IsRaised t i j → l.name ≢ StayOf attr → IsLexNegative (column m side (at_level i l)) → IsLexNegative (column (raised_times attr t m) side (at_level j l))
raised-low attr t m side l i j up far (k, zeros, low) =
    let r = raised t k in (
      r.0,
      λ level less. elim (lowered t level) [
        | inl e ↦ column-own attr t m side (at_level j l) level e (not-own t i j up)
        | inr q ↦ column-raised attr t m side l i j q.0 level up q.1 far ∙ zeros q.0 (raised-less t k r.0 q.0 level r.1 q.1 less)
      ],
      subst (λ (z : ℤ). z <ℤ pos 0) (sym (column-raised attr t m side l i j k r.0 up r.1 far)) low,
    )

-- ---- the lines with the stay

stay-far : (a b : ℕ) → a ≢ b → StayOf a ≢ StayOf b
stay-far a b n e = n (ap number e)
  where
    number : RowName → ℕ
    number (Held x) = 0
    number (StayOf x) = x

-- the level of the attribute's stay
abbrev level_of : ℕ → ℕ → List Stay → ℕ
level_of attr n [] = n
level_of attr n (s ∷ stays) = cond (nat_eq s.attr attr) n (level_of attr (n + 1) stays)

level-on : (attr n : ℕ) (s : Stay) (stays : List Stay) → s.attr ≡ attr → level_of attr n (s ∷ stays) ≡ n
level-on attr n s stays e = ap (λ (b : Bool). cond b n (level_of attr (n + 1) stays)) (eq-eqb s.attr attr e)

level-off : (attr n : ℕ) (s : Stay) (stays : List Stay) → s.attr ≢ attr → level_of attr n (s ∷ stays) ≡ level_of attr (n + 1) stays
level-off attr n s stays d = ap (λ (b : Bool). cond b n (level_of attr (n + 1) stays)) (ne_eqb s.attr attr d)

level-above : (attr n : ℕ) (stays : List Stay) → n ≤ level_of attr n stays
level-above attr n [] = omega arith
level-above attr n (s ∷ stays) = elim (cases_eq s.attr attr) [
  | inl e ↦ (let k : level_of attr n (s ∷ stays) ≡ n = level-on attr n s stays e in omega (arith, k))
  | inr d ↦ (let k : level_of attr n (s ∷ stays) ≡ level_of attr (n + 1) stays = level-off attr n s stays d in omega (arith, k, level-above attr (n + 1) stays))
]

abbrev Raises : ℕ → ℕ → (Line → Type 0) → (Line → Type 0) → Type 0
Raises attr t P Q = (i j : ℕ) (l : Line) → IsRaised t i j → l.name ≢ StayOf attr → P (at_level i l) → Q (at_level j l)

abbrev AreApart : List Stay → Type 0
AreApart stays = AllPairs (λ (s t : Stay). s.attr ≢ t.attr) stays

each-behind : (P Q : Line → Type 0) (attr t n : ℕ) (stays : List Stay) → Raises attr t P Q → t ≤ n → Each (λ (s : Stay). s.attr ≢ attr) stays → Each P (stay_lines n (filter (other_stay attr) stays)) → Each Q (stay_lines (n + 1) stays)
each-behind P Q attr t n [] move behind others h = tt
each-behind P Q attr t n (s ∷ stays) move behind others h =
    let k : Each P (stay_lines n (s ∷ filter (other_stay attr) stays)) = subst (λ (ss : List Stay). Each P (stay_lines n ss)) (filter-off attr s stays others.0) h in
    (move n (n + 1) (line_of_stay n s) (inr (behind, refl)) (stay-far s.attr attr others.0) k.0, each-behind P Q attr t (n + 1) stays move (omega (arith, behind)) others.1 k.1)

each-stays : (P Q : Line → Type 0) (attr t n : ℕ) (stays : List Stay) → Raises attr t P Q → ((s : Stay) → s.attr ≡ attr → Q (line_of_stay t s)) → level_of attr n stays ≡ t → AreApart stays → Each P (stay_lines n (filter (other_stay attr) stays)) → Each Q (stay_lines n stays)
each-stays P Q attr t n [] move own is apart h = tt
each-stays P Q attr t n (s ∷ stays) move own is apart h = elim (cases_eq s.attr attr) [
  | inl e ↦
      let here : n ≡ t = sym (level-on attr n s stays e) ∙ is in (
        subst (λ (k : ℕ). Q (line_of_stay k s)) (sym here) (own s e),
        each-behind P Q attr t n stays move (omega (arith, here)) (stays_behind attr s stays e apart) (subst (λ (ss : List Stay). Each P (stay_lines n ss)) (filter-on attr s stays e) h),
      )
  | inr d ↦
      let later : level_of attr (n + 1) stays ≡ t = sym (level-off attr n s stays d) ∙ is in
      let before : n < t = omega (arith, later, level-above attr (n + 1) stays) in
      let k : Each P (stay_lines n (s ∷ filter (other_stay attr) stays)) = subst (λ (ss : List Stay). Each P (stay_lines n ss)) (filter-off attr s stays d) h in (
        move n n (line_of_stay n s) (inl (before, refl)) (stay-far s.attr attr d) k.0,
        each-stays P Q attr t (n + 1) stays move own later (tail_pairs (λ (s t : Stay). s.attr ≢ t.attr) s stays apart) k.1,
      )
]

each-rows : (P Q : Line → Type 0) (attr t : ℕ) (rows : List Row) (ls ms : List Line) → Raises attr t P Q → 1000 < t → (Each P ls → Each Q ms) → Each P (map line_of_row rows ++ ls) → Each Q (map line_of_row rows ++ ms)
each-rows P Q attr t [] ls ms move above stays h = stays h
each-rows P Q attr t (r ∷ rows) ls ms move above stays h = (
  move (1000 - r.rank) (1000 - r.rank) (line_of_row r) (inl (omega (arith, above), refl)) (held-far r.id attr) h.0,
  each-rows P Q attr t rows ls ms move above stays h.1,
)

each-raise : (P Q : Line → Type 0) (attr : ℕ) (p : Problem) → AreApart p.stays → Raises attr (level_of attr 1001 p.stays) P Q → ((s : Stay) → s.attr ≡ attr → Q (line_of_stay (level_of attr 1001 p.stays) s)) → Each P (lines (without_attr attr p)) → Each Q (lines p)
each-raise P Q attr p apart move own =
    each-rows P Q attr (level_of attr 1001 p.stays) p.rows (stay_lines 1001 (filter (other_stay attr) p.stays)) (stay_lines 1001 p.stays) move (omega (arith, level-above attr 1001 p.stays))
    (each-stays P Q attr (level_of attr 1001 p.stays) 1001 p.stays move own refl apart)

some-first : (P : Line → Type 0) (x : Line) (xs : List Line) → Any P (x ∷ xs) → P x ⊎ Any P xs
some-first P x xs (zero, y, lt, e, h) = inl (subst P (sym e) h)
some-first P x xs (suc k, y, lt, e, h) = inr (k, y, omega (arith, lt), e, h)

some-here : (P : Line → Type 0) (x : Line) (xs : List Line) → P x → Any P (x ∷ xs)
some-here P x xs h = (0, x, omega arith, refl, h)

pub some-later : (P : Line → Type 0) (x : Line) (xs : List Line) → Any P xs → Any P (x ∷ xs)
some-later P x xs h = (suc h.0, h.1, omega (arith, h.2), h.3, h.4)

any-behind : (P Q : Line → Type 0) (attr t n : ℕ) (stays : List Stay) → Raises attr t P Q → t ≤ n → Each (λ (s : Stay). s.attr ≢ attr) stays → Any P (stay_lines n (filter (other_stay attr) stays)) → Any Q (stay_lines (n + 1) stays)
any-behind P Q attr t n [] move behind others h = absurd (omega (arith, h.2))
any-behind P Q attr t n (s ∷ stays) move behind others h =
    elim (some-first P (line_of_stay n s) (stay_lines (n + 1) (filter (other_stay attr) stays)) (subst (λ (ss : List Stay). Any P (stay_lines n ss)) (filter-off attr s stays others.0) h)) [
      | inl x ↦ some-here Q (line_of_stay (n + 1) s) (stay_lines (n + 1 + 1) stays) (move n (n + 1) (line_of_stay n s) (inr (behind, refl)) (stay-far s.attr attr others.0) x)
      | inr i ↦ some-later Q (line_of_stay (n + 1) s) (stay_lines (n + 1 + 1) stays) (any-behind P Q attr t (n + 1) stays move (omega (arith, behind)) others.1 i)
    ]

any-stays : (P Q : Line → Type 0) (attr t n : ℕ) (stays : List Stay) → Raises attr t P Q → level_of attr n stays ≡ t → AreApart stays → Any P (stay_lines n (filter (other_stay attr) stays)) → Any Q (stay_lines n stays)
any-stays P Q attr t n [] move is apart h = absurd (omega (arith, h.2))
any-stays P Q attr t n (s ∷ stays) move is apart h = elim (cases_eq s.attr attr) [
  | inl e ↦
      let here : n ≡ t = sym (level-on attr n s stays e) ∙ is in
      some-later Q (line_of_stay n s) (stay_lines (n + 1) stays)
      (any-behind P Q attr t n stays move (omega (arith, here)) (stays_behind attr s stays e apart) (subst (λ (ss : List Stay). Any P (stay_lines n ss)) (filter-on attr s stays e) h))
  | inr d ↦
      let later : level_of attr (n + 1) stays ≡ t = sym (level-off attr n s stays d) ∙ is in
      let before : n < t = omega (arith, later, level-above attr (n + 1) stays) in
      elim (some-first P (line_of_stay n s) (stay_lines (n + 1) (filter (other_stay attr) stays)) (subst (λ (ss : List Stay). Any P (stay_lines n ss)) (filter-off attr s stays d) h)) [
        | inl x ↦ some-here Q (line_of_stay n s) (stay_lines (n + 1) stays) (move n n (line_of_stay n s) (inl (before, refl)) (stay-far s.attr attr d) x)
        | inr i ↦ some-later Q (line_of_stay n s) (stay_lines (n + 1) stays) (any-stays P Q attr t (n + 1) stays move later (tail_pairs (λ (s t : Stay). s.attr ≢ t.attr) s stays apart) i)
      ]
]

any-rows : (P Q : Line → Type 0) (attr t : ℕ) (rows : List Row) (ls ms : List Line) → Raises attr t P Q → 1000 < t → (Any P ls → Any Q ms) → Any P (map line_of_row rows ++ ls) → Any Q (map line_of_row rows ++ ms)
any-rows P Q attr t [] ls ms move above stays h = stays h
any-rows P Q attr t (r ∷ rows) ls ms move above stays h = elim (some-first P (line_of_row r) (map line_of_row rows ++ ls) h) [
  | inl x ↦ some-here Q (line_of_row r) (map line_of_row rows ++ ms) (move (1000 - r.rank) (1000 - r.rank) (line_of_row r) (inl (omega (arith, above), refl)) (held-far r.id attr) x)
  | inr i ↦ some-later Q (line_of_row r) (map line_of_row rows ++ ms) (any-rows P Q attr t rows ls ms move above stays i)
]

any-raise : (P Q : Line → Type 0) (attr : ℕ) (p : Problem) → AreApart p.stays → Raises attr (level_of attr 1001 p.stays) P Q → Any P (lines (without_attr attr p)) → Any Q (lines p)
any-raise P Q attr p apart move =
    any-rows P Q attr (level_of attr 1001 p.stays) p.rows (stay_lines 1001 (filter (other_stay attr) p.stays)) (stay_lines 1001 p.stays) move (omega (arith, level-above attr 1001 p.stays))
    (any-stays P Q attr (level_of attr 1001 p.stays) 1001 p.stays move refl apart)

-- none of the lines that are left has the stay's name
stays-far : (attr n : ℕ) (stays : List Stay) → Each (λ l. l.name ≢ StayOf attr) (stay_lines n (filter (other_stay attr) stays))
stays-far attr n [] = tt
stays-far attr n (s ∷ stays) = elim (cases_eq s.attr attr) [
  | inl e ↦ subst (λ (ss : List Stay). Each (λ l. l.name ≢ StayOf attr) (stay_lines n ss)) (sym (filter-on attr s stays e)) (stays-far attr n stays)
  | inr d ↦ subst (λ (ss : List Stay). Each (λ l. l.name ≢ StayOf attr) (stay_lines n ss)) (sym (filter-off attr s stays d)) (stay-far s.attr attr d, stays-far attr (n + 1) stays)
]

names-far : (attr : ℕ) (p : Problem) → Each (λ l. l.name ≢ StayOf attr) (lines (without_attr attr p))
names-far attr p = rows p.rows
  where
    rows : (rs : List Row) → Each (λ l. l.name ≢ StayOf attr) (map line_of_row rs ++ stay_lines 1001 (filter (other_stay attr) p.stays))
    rows [] = stays-far attr 1001 p.stays
    rows (r ∷ rs) = (held-far r.id attr, rows rs)

-- ---- all of it

sum-zeros : (f : Line → ℤ) (ls : List Line) → ((l : Line) → f l ≡ pos 0) → sum_of f ls ≡ pos 0
sum-zeros f [] zeros = refl
sum-zeros f (l ∷ ls) zeros = ap₂ (λ (x y : ℤ). x +ℤ y) (zeros l) (sum-zeros f ls zeros)

raised-multipliers : (p : Problem) (at : List Mark) (attr : ℕ) (m : Multipliers) → IsWhole p → IsCorner p at → IsFree p attr → AreMultipliersAt (without_attr attr p) at m → AreMultipliersAt p at (raised_times attr (level_of attr 1001 p.stays) m)
raised-multipliers p at attr m whole corner free are =
    let t : ℕ = level_of attr 1001 p.stays in
    record {
      scales = λ level. elim (cases_eq level t) [
        | inl e ↦ subst (λ (n : ℕ). 0 < n) (sym (ap (λ (b : Bool). cond b 1 (m.scale (old_level t level))) (eq-eqb level t e))) (omega arith)
        | inr n ↦ subst (λ (n : ℕ). 0 < n) (sym (scale-else attr t m level n)) (are.scales (old_level t level))
      ];
      cancel = λ level v. elim (cases_eq level t) [
        | inl e ↦
            sum-zeros (λ l. (raised_times attr t m).times level l.name *ℤ coefficient v l.form) (lines p)
            (λ l. ap (λ (z : ℤ). z *ℤ coefficient v l.form) (times-own attr t m level l.name e) ∙ zero-mul_ℤ (coefficient v l.form))
        | inr n ↦
            attr_sum (λ name. (raised_times attr t m).times level name) v attr p (times-stay attr t m level)
            ∙ sum-each (λ l. (raised_times attr t m).times level l.name *ℤ coefficient v l.form) (λ l. m.times (old_level t level) l.name *ℤ coefficient v l.form) (lines (without_attr attr p))
            (each-impl (λ l. l.name ≢ StayOf attr) (λ l. (raised_times attr t m).times level l.name *ℤ coefficient v l.form ≡ m.times (old_level t level) l.name *ℤ coefficient v l.form) (lines (without_attr attr p))
            (λ l far. ap (λ (z : ℤ). z *ℤ coefficient v l.form) (times-else attr t m level l.name n far)) (names-far attr p))
            ∙ are.cancel (old_level t level) v
      ];
      inside_zero = λ side.
          All-from_recursion (λ l. IsIn (place_of l.name side) at → (level : ℕ) → column (raised_times attr t m) side l level ≡ pos 0) (lines p)
          (each-raise (λ l. IsIn (place_of l.name side) at → (level : ℕ) → column m side l level ≡ pos 0) (λ l. IsIn (place_of l.name side) at → (level : ℕ) → column (raised_times attr t m) side l level ≡ pos 0) attr p whole.apart
          (λ i j l up far zeros inside. raised-zero attr t m side l i j up far (zeros inside))
          (λ s e inside. absurd (stay-out p at attr side whole corner free (subst (λ (a : ℕ). IsIn (place_of (StayOf a) side) at) e inside)))
          (recursion_from_All (λ l. IsIn (place_of l.name side) at → (level : ℕ) → column m side l level ≡ pos 0) (lines (without_attr attr p)) (are.inside_zero side)));
    }

pub attr_left_negative : (p : Problem) (at : List Mark) (attr : ℕ) (mark : Mark) → IsWhole p → IsCorner p at → IsFree p attr → mark.row ≢ StayOf attr → HasNegativeColumn (without_attr attr p) at mark → HasNegativeColumn p at mark
attr_left_negative p at attr mark whole corner free far (m, are, low) =
    let t : ℕ = level_of attr 1001 p.stays in (
      raised_times attr t m,
      raised-multipliers p at attr m whole corner free are,
      any-raise (λ l. (place_of l.name mark.side ≡ place mark) × IsLexNegative (column m mark.side l)) (λ l. (place_of l.name mark.side ≡ place mark) × IsLexNegative (column (raised_times attr t m) mark.side l)) attr p whole.apart
          (λ i j l up far z. (z.0, raised-low attr t m mark.side l i j up far z.1)) low,
    )
