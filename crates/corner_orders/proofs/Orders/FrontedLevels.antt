-- A column that is negative where an attribute's stay comes first is negative before, or first at that stay:
-- `first_turns`. The stay's level becomes that of the first, and those before it move up by one.
use Rattle.std.proofs.Common.{◌≡◌, ◌≢◌, ◌∙◌, ◌⊎◌, ℕ, ◌+◌, ◌-◌, ◌*◌, ◌<◌, ◌≤◌, ◌++◌, min, Bool, cond, nat_eq, not, List, [], ◌∷◌, filter, map, ℤ, pos, ◌+ℤ◌, ◌-ℤ◌, ◌*ℤ◌, ◌<ℤ◌, ne_eqb, eq-eqb, refl, sym, ap, subst, arith, inl, inr, AllPairs, Any}
use Rattle.std.specs.List.{AllByRecursion as Each}
use Rattle.std.proofs.lemmas.Bool.{cases_eq}
use Rattle.std.proofs.lemmas.List.Elements.{recursion_from_All, All-from_recursion}
use Rattle.frac_core.proofs.Lists.{any-cases, any-here, any-later, pairs-rest}
use Rattle.corner_laws.proofs.Counting.{head_pairs}
use Rattle.problem_core.proofs.Forms.{each-impl}
use Rattle.problem_core.specs.declared.parts.Mark.{Mark}
use Rattle.problem_core.specs.declared.parts.RowName.TheVariants.{Stay as StayOf}
use Rattle.problem_core.specs.declared.parts.Side.{Side}
use Rattle.problem_core.specs.declared.parts.Side.TheVariants.{Under, Over}
use Rattle.problem_core.specs.declared.parts.Stay.{Stay}
use Rattle.problem_core.specs.Certificates.{Multipliers, over_weight, under_weight}
use Rattle.problem_core.specs.Layout.{HasStay, Line, Problem, Row, coefficient, line_of_row, line_of_stay, lines, stay_lines}
use Rattle.problem_core.specs.Corners.{AreMultipliersAt, HasNegativeColumn, IsIn, IsLexNegative, column, place, place_of}
use Rattle.stay_orders.specs.Orders.{is_of, with_first}
use Rattle.stay_orders.proofs.LevelRows.{lines_sum}

-- ---- levels

-- where the stay of the level t comes first, the level i becomes j
abbrev IsMoved : ℕ → ℕ → ℕ → Type 0
IsMoved t i j = ((i ≡ t) × (j ≡ 1001)) ⊎ ((i ≢ t) × (j ≡ i + min 1 (min (i - 1000) (t - i))))

moved : (t i : ℕ) → (j : ℕ) × IsMoved t i j
moved t i = elim (cases_eq i t) [
  | inl e ↦ (1001, inl (e, refl))
  | inr ne ↦ (i + min 1 (min (i - 1000) (t - i)), inr (ne, refl))
]

-- each level but the first stay's was another's
lowered : (t j : ℕ) → 1001 ≤ t → j ≢ 1001 → (i : ℕ) × ((i ≢ t) × (j ≡ i + min 1 (min (i - 1000) (t - i))))
lowered t j up ne = (j - min 1 (min (j - 1001) ((t + 1) - j)), ((λ e. omega (arith, up, ne, e)), omega (arith, up, ne)))

one-up : (t i j k l : ℕ) → 1001 ≤ t → IsMoved t i j → IsMoved t k l → i ≡ k → j ≡ l
one-up t i j k l up (inl a) (inl b) e = omega (arith, a.1, b.1)
one-up t i j k l up (inl a) (inr b) e = absurd (b.0 (sym e ∙ a.0))
one-up t i j k l up (inr a) (inl b) e = absurd (a.0 (e ∙ b.0))
one-up t i j k l up (inr a) (inr b) e = omega (arith, a.1, b.1, e)

one-down : (t i j k l : ℕ) → 1001 ≤ t → IsMoved t i j → IsMoved t k l → j ≡ l → i ≡ k
one-down t i j k l up (inl a) (inl b) e = a.0 ∙ sym b.0
one-down t i j k l up (inl a) (inr b) e = absurd (let n = b.0 in omega (arith, up, a.1, b.1, n, e))
one-down t i j k l up (inr a) (inl b) e = absurd (let n = a.0 in omega (arith, up, a.1, b.1, n, e))
one-down t i j k l up (inr a) (inr b) e = let n = a.0 in let m = b.0 in omega (arith, up, n, m, a.1, b.1, e)

-- what comes before another that isn't the stay's stays before it
less-up : (t i j k l : ℕ) → 1001 ≤ t → (i ≢ t) × (j ≡ i + min 1 (min (i - 1000) (t - i))) → IsMoved t k l → j ≢ 1001 → k < i → l < j
less-up t i j k l up a (inl b) ne less = let n = a.0 in omega (arith, up, n, a.1, b.0, b.1, less)
less-up t i j k l up a (inr b) ne less = let n = a.0 in let m = b.0 in omega (arith, up, n, m, a.1, b.1, less)

same-test : (t i j k l : ℕ) → 1001 ≤ t → IsMoved t i j → IsMoved t k l → nat_eq i k ≡ nat_eq j l
same-test t i j k l up a b = elim (cases_eq i k) [
  | inl e ↦ eq-eqb i k e ∙ sym (eq-eqb j l (one-up t i j k l up a b e))
  | inr n ↦ ne_eqb i k n ∙ sym (ne_eqb j l (λ e. n (one-down t i j k l up a b e)))
]

-- ---- multipliers

-- those of each level before
abbrev moved_times : ℕ → Multipliers → Multipliers
moved_times t m = record {
  scale = λ level. m.scale (moved t level).0;
  times = λ level name. m.times (moved t level).0 name;
}

abbrev at_level : ℕ → Line → Line
at_level level l = record {
  name = l.name;
  level = level;
  weight = l.weight;
  rel = l.rel;
  scale = l.scale;
  num = l.num;
  den = l.den;
  form = l.form;
}

column-moved : (t : ℕ) (m : Multipliers) (side : Side) (l : Line) (i j k : ℕ) → 1001 ≤ t → IsMoved t i j → column (moved_times t m) side (at_level i l) k ≡ column m side (at_level j l) (moved t k).0
column-moved t m Under l i j k up is =
    ap (λ (b : Bool). pos (m.scale (moved t k).0 * under_weight l.rel (cond b l.weight 0)) -ℤ pos l.scale *ℤ m.times (moved t k).0 l.name) (same-test t i j k (moved t k).0 up is (moved t k).1)
column-moved t m Over l i j k up is =
    ap (λ (b : Bool). pos (m.scale (moved t k).0 * over_weight l.rel (cond b l.weight 0)) +ℤ pos l.scale *ℤ m.times (moved t k).0 l.name) (same-test t i j k (moved t k).0 up is (moved t k).1)

-- ---- the lines before

-- the first number that isn't 0 is below 0, and is not that of the first stay
abbrev IsLexElsewhere : (ℕ → ℤ) → Type 0
IsLexElsewhere f = (level : ℕ) × (level ≢ 1001) × ((k : ℕ) → k < level → f k ≡ pos 0) × (f level <ℤ pos 0)

low-moved : (t : ℕ) (m : Multipliers) (side : Side) (l : Line) (i j : ℕ) → 1001 ≤ t → IsMoved t i j → IsLexElsewhere (column m side (at_level j l)) → IsLexNegative (column (moved_times t m) side (at_level i l))
low-moved t m side l i j up is (level, ne, before, low) =
    let x = lowered t level up ne in
    let there : IsMoved t x.0 level = inr x.1 in (
      x.0,
      λ k less. column-moved t m side l i j k up is ∙ before (moved t k).0 (less-up t x.0 level k (moved t k).0 up x.1 (moved t k).1 ne less),
      subst (λ (z : ℤ). z <ℤ pos 0)
          (ap (column m side (at_level j l)) (one-up t x.0 level x.0 (moved t x.0).0 up there (moved t x.0).1 refl) ∙ sym (column-moved t m side l i j x.0 up is)) low,
    )

-- the level of the attribute's stay
abbrev level_of : ℕ → ℕ → List Stay → ℕ
level_of attr n [] = n
level_of attr n (s ∷ stays) = cond (is_of attr s) n (level_of attr (n + 1) stays)

level-on : (attr n : ℕ) (s : Stay) (stays : List Stay) → s.attr ≡ attr → level_of attr n (s ∷ stays) ≡ n
level-on attr n s stays e = ap (λ (b : Bool). cond b n (level_of attr (n + 1) stays)) (eq-eqb s.attr attr e)

level-off : (attr n : ℕ) (s : Stay) (stays : List Stay) → s.attr ≢ attr → level_of attr n (s ∷ stays) ≡ level_of attr (n + 1) stays
level-off attr n s stays d = ap (λ (b : Bool). cond b n (level_of attr (n + 1) stays)) (ne_eqb s.attr attr d)

level-above : (attr n : ℕ) (stays : List Stay) → n ≤ level_of attr n stays
level-above attr n [] = omega arith
level-above attr n (s ∷ stays) = elim (cases_eq s.attr attr) [
  | inl e ↦ (let k : level_of attr n (s ∷ stays) ≡ n = level-on attr n s stays e in omega (arith, k))
  | inr d ↦ (let k : level_of attr n (s ∷ stays) ≡ level_of attr (n + 1) stays = level-off attr n s stays d in omega (arith, k, level-above attr (n + 1) stays))
]

others-on : (attr : ℕ) (s : Stay) (stays : List Stay) → s.attr ≡ attr → filter (λ x. not (is_of attr x)) (s ∷ stays) ≡ filter (λ x. not (is_of attr x)) stays
others-on attr s stays e = ap (λ (b : Bool). cond (not b) (s ∷ filter (λ x. not (is_of attr x)) stays) (filter (λ x. not (is_of attr x)) stays)) (eq-eqb s.attr attr e)

others-off : (attr : ℕ) (s : Stay) (stays : List Stay) → s.attr ≢ attr → filter (λ x. not (is_of attr x)) (s ∷ stays) ≡ s ∷ filter (λ x. not (is_of attr x)) stays
others-off attr s stays d = ap (λ (b : Bool). cond (not b) (s ∷ filter (λ x. not (is_of attr x)) stays) (filter (λ x. not (is_of attr x)) stays)) (ne_eqb s.attr attr d)

own-on : (attr : ℕ) (s : Stay) (stays : List Stay) → s.attr ≡ attr → filter (is_of attr) (s ∷ stays) ≡ s ∷ filter (is_of attr) stays
own-on attr s stays e = ap (λ (b : Bool). cond b (s ∷ filter (is_of attr) stays) (filter (is_of attr) stays)) (eq-eqb s.attr attr e)

own-off : (attr : ℕ) (s : Stay) (stays : List Stay) → s.attr ≢ attr → filter (is_of attr) (s ∷ stays) ≡ filter (is_of attr) stays
own-off attr s stays d = ap (λ (b : Bool). cond b (s ∷ filter (is_of attr) stays) (filter (is_of attr) stays)) (ne_eqb s.attr attr d)

others-all : (attr : ℕ) (stays : List Stay) → Each (λ (s : Stay). s.attr ≢ attr) stays → filter (λ x. not (is_of attr x)) stays ≡ stays
others-all attr [] h = refl
others-all attr (s ∷ stays) h = others-off attr s stays h.0 ∙ ap (λ (ss : List Stay). s ∷ ss) (others-all attr stays h.1)

own-none : (attr : ℕ) (stays : List Stay) → Each (λ (s : Stay). s.attr ≢ attr) stays → filter (is_of attr) stays ≡ []
own-none attr [] h = refl
own-none attr (s ∷ stays) h = own-off attr s stays h.0 ∙ own-none attr stays h.1

abbrev pub AreApart : List Stay → Type 0
AreApart stays = AllPairs (λ (s t : Stay). s.attr ≢ t.attr) stays

behind-far : (attr : ℕ) (s : Stay) (stays : List Stay) → s.attr ≡ attr → AreApart (s ∷ stays) → Each (λ (r : Stay). r.attr ≢ attr) stays
behind-far attr s stays e apart =
    each-impl (λ (r : Stay). s.attr ≢ r.attr) (λ (r : Stay). r.attr ≢ attr) stays (λ r ne q. ne (e ∙ sym q))
    (recursion_from_All (λ (r : Stay). s.attr ≢ r.attr) stays (head_pairs (λ (s t : Stay). s.attr ≢ t.attr) s stays apart))

-- the attribute's stay alone is taken out in front
record HasOwn (attr : ℕ) (stays : List Stay) : Type 0 where
  own : Stay
  is : own.attr ≡ attr
  alone : filter (is_of attr) stays ≡ own ∷ []

has-own : (attr : ℕ) (stays : List Stay) → HasStay stays attr → AreApart stays → HasOwn attr stays
has-own attr [] (k, x, lt, e, is) apart = absurd (omega (arith, lt))
has-own attr (s ∷ stays) has apart = elim (cases_eq s.attr attr) [
  | inl e ↦ record { own = s; is = e; alone = own-on attr s stays e ∙ ap (λ (ss : List Stay). s ∷ ss) (own-none attr stays (behind-far attr s stays e apart)) }
  | inr d ↦
      let rest = has-own attr stays (later has d) (pairs-rest (λ (s t : Stay). s.attr ≢ t.attr) s stays apart) in
      record { own = rest.own; is = rest.is; alone = own-off attr s stays d ∙ rest.alone }
]
  where
    later : HasStay (s ∷ stays) attr → s.attr ≢ attr → HasStay stays attr
    later h d = elim (any-cases (λ (x : Stay). x.attr ≡ attr) s stays h) [ inl here ↦ absurd (d here) | inr more ↦ more ]

abbrev Moves : ℕ → (Line → Type 0) → (Line → Type 0) → Type 0
Moves t P Q = (i j : ℕ) (l : Line) → IsMoved t i j → P (at_level j l) → Q (at_level i l)

-- a level past the stay's stays
past-is : (t n : ℕ) → t < n → IsMoved t n n
past-is t n lt = inr ((λ e. omega (arith, e, lt)), omega (arith, lt))

-- one of a stay before it goes up
before-is : (t n : ℕ) → 1001 ≤ n → n < t → IsMoved t n (n + 1)
before-is t n above lt = inr ((λ e. omega (arith, e, lt)), omega (arith, above, lt))

-- a priority's stays
row-is : (t n : ℕ) → n ≤ 1000 → 1001 ≤ t → IsMoved t n n
row-is t n le up = inr ((λ e. omega (arith, e, le, up)), omega (arith, le, up))

each-past : (P Q : Line → Type 0) (t n : ℕ) (stays : List Stay) → Moves t P Q → t < n → Each P (stay_lines n stays) → Each Q (stay_lines n stays)
each-past P Q t n [] move past h = tt
each-past P Q t n (s ∷ stays) move past h = (move n n (line_of_stay n s) (past-is t n past) h.0, each-past P Q t (n + 1) stays move (omega (arith, past)) h.1)

each-stays : (P Q : Line → Type 0) (attr t n : ℕ) (stays : List Stay) → Moves t P Q → 1001 ≤ n → level_of attr n stays ≡ t → AreApart stays
    → Each (λ s. P (line_of_stay 1001 s)) (filter (is_of attr) stays) → Each P (stay_lines (n + 1) (filter (λ x. not (is_of attr x)) stays)) → Each Q (stay_lines n stays)
each-stays P Q attr t n [] move above is apart own h = tt
each-stays P Q attr t n (s ∷ stays) move above is apart own h = elim (cases_eq s.attr attr) [
  | inl e ↦
      let here : n ≡ t = sym (level-on attr n s stays e) ∙ is in
      let mine : P (line_of_stay 1001 s) = (subst (λ (ss : List Stay). Each (λ x. P (line_of_stay 1001 x)) ss) (own-on attr s stays e) own).0 in (
        move n 1001 (line_of_stay n s) (inl (here, refl)) mine,
        each-past P Q t (n + 1) stays move (omega (arith, here))
            (subst (λ (ss : List Stay). Each P (stay_lines (n + 1) ss)) (others-on attr s stays e ∙ others-all attr stays (behind-far attr s stays e apart)) h),
      )
  | inr d ↦
      let later : level_of attr (n + 1) stays ≡ t = sym (level-off attr n s stays d) ∙ is in
      let lt : n < t = omega (arith, later, level-above attr (n + 1) stays) in
      let k : Each P (stay_lines (n + 1) (s ∷ filter (λ x. not (is_of attr x)) stays)) = subst (λ (ss : List Stay). Each P (stay_lines (n + 1) ss)) (others-off attr s stays d) h in (
        move n (n + 1) (line_of_stay n s) (before-is t n above lt) k.0,
        each-stays P Q attr t (n + 1) stays move (omega (arith, above)) later (pairs-rest (λ (s t : Stay). s.attr ≢ t.attr) s stays apart)
            (subst (λ (ss : List Stay). Each (λ x. P (line_of_stay 1001 x)) ss) (own-off attr s stays d) own) k.1,
      )
]

any-past : (P Q : Line → Type 0) (t n : ℕ) (stays : List Stay) → Moves t P Q → t < n → Any P (stay_lines n stays) → Any Q (stay_lines n stays)
any-past P Q t n [] move past h = absurd (omega (arith, h.2))
any-past P Q t n (s ∷ stays) move past h = elim (any-cases P (line_of_stay n s) (stay_lines (n + 1) stays) h) [
  | inl x ↦ any-here Q (line_of_stay n s) (stay_lines (n + 1) stays) (move n n (line_of_stay n s) (past-is t n past) x)
  | inr i ↦ any-later Q (line_of_stay n s) (stay_lines (n + 1) stays) (any-past P Q t (n + 1) stays move (omega (arith, past)) i)
]

any-stays : (P Q : Line → Type 0) (attr t n : ℕ) (stays : List Stay) → Moves t P Q → 1001 ≤ n → level_of attr n stays ≡ t → AreApart stays
    → Any (λ s. P (line_of_stay 1001 s)) (filter (is_of attr) stays) ⊎ Any P (stay_lines (n + 1) (filter (λ x. not (is_of attr x)) stays)) → Any Q (stay_lines n stays)
any-stays P Q attr t n [] move above is apart (inl own) = absurd (omega (arith, own.2))
any-stays P Q attr t n [] move above is apart (inr h) = absurd (omega (arith, h.2))
any-stays P Q attr t n (s ∷ stays) move above is apart some = elim (cases_eq s.attr attr) [
  | inl e ↦ on some e
  | inr d ↦ off some d (λ more. any-stays P Q attr t (n + 1) stays move (omega (arith, above)) (sym (level-off attr n s stays d) ∙ is) (pairs-rest (λ (s t : Stay). s.attr ≢ t.attr) s stays apart) more)
]
  where
    on : Any (λ x. P (line_of_stay 1001 x)) (filter (is_of attr) (s ∷ stays)) ⊎ Any P (stay_lines (n + 1) (filter (λ x. not (is_of attr x)) (s ∷ stays))) → s.attr ≡ attr → Any Q (stay_lines n (s ∷ stays))
    on (inl own) e =
        let here : n ≡ t = sym (level-on attr n s stays e) ∙ is in
        let mine : Any (λ x. P (line_of_stay 1001 x)) (s ∷ []) =
        subst (λ (ss : List Stay). Any (λ x. P (line_of_stay 1001 x)) ss) (own-on attr s stays e ∙ ap (λ (ss : List Stay). s ∷ ss) (own-none attr stays (behind-far attr s stays e apart))) own in
        elim (any-cases (λ x. P (line_of_stay 1001 x)) s [] mine) [
          | inl x ↦ any-here Q (line_of_stay n s) (stay_lines (n + 1) stays) (move n 1001 (line_of_stay n s) (inl (here, refl)) x)
          | inr none ↦ absurd (omega (arith, none.2))
        ]
    on (inr h) e =
        let here : n ≡ t = sym (level-on attr n s stays e) ∙ is in
        any-later Q (line_of_stay n s) (stay_lines (n + 1) stays)
        (any-past P Q t (n + 1) stays move (omega (arith, here))
        (subst (λ (ss : List Stay). Any P (stay_lines (n + 1) ss)) (others-on attr s stays e ∙ others-all attr stays (behind-far attr s stays e apart)) h))

    off : Any (λ x. P (line_of_stay 1001 x)) (filter (is_of attr) (s ∷ stays)) ⊎ Any P (stay_lines (n + 1) (filter (λ x. not (is_of attr x)) (s ∷ stays))) → s.attr ≢ attr
        → (Any (λ x. P (line_of_stay 1001 x)) (filter (is_of attr) stays) ⊎ Any P (stay_lines (n + 1 + 1) (filter (λ x. not (is_of attr x)) stays)) → Any Q (stay_lines (n + 1) stays)) → Any Q (stay_lines n (s ∷ stays))
    off (inl own) d rest =
        any-later Q (line_of_stay n s) (stay_lines (n + 1) stays)
        (rest (inl (subst (λ (ss : List Stay). Any (λ x. P (line_of_stay 1001 x)) ss) (own-off attr s stays d) own)))
    off (inr h) d rest =
        let later : level_of attr (n + 1) stays ≡ t = sym (level-off attr n s stays d) ∙ is in
        let lt : n < t = omega (arith, later, level-above attr (n + 1) stays) in
        elim (any-cases P (line_of_stay (n + 1) s) (stay_lines (n + 1 + 1) (filter (λ x. not (is_of attr x)) stays)) (subst (λ (ss : List Stay). Any P (stay_lines (n + 1) ss)) (others-off attr s stays d) h)) [
          | inl x ↦ any-here Q (line_of_stay n s) (stay_lines (n + 1) stays) (move n (n + 1) (line_of_stay n s) (before-is t n above lt) x)
          | inr i ↦ any-later Q (line_of_stay n s) (stay_lines (n + 1) stays) (rest (inr i))
        ]

each-rows : (P Q : Line → Type 0) (t : ℕ) (rows : List Row) (ls ms : List Line) → Moves t P Q → 1001 ≤ t → (Each P ls → Each Q ms) → Each P (map line_of_row rows ++ ls) → Each Q (map line_of_row rows ++ ms)
each-rows P Q t [] ls ms move up stays h = stays h
each-rows P Q t (r ∷ rows) ls ms move up stays h = (
  move (1000 - r.rank) (1000 - r.rank) (line_of_row r) (row-is t (1000 - r.rank) (omega arith) up) h.0,
  each-rows P Q t rows ls ms move up stays h.1,
)

any-rows : (P Q : Line → Type 0) (t : ℕ) (rows : List Row) (ls ms : List Line) → Moves t P Q → 1001 ≤ t → (Any P ls → Any Q ms) → Any P (map line_of_row rows ++ ls) → Any Q (map line_of_row rows ++ ms)
any-rows P Q t [] ls ms move up stays h = stays h
any-rows P Q t (r ∷ rows) ls ms move up stays h = elim (any-cases P (line_of_row r) (map line_of_row rows ++ ls) h) [
  | inl x ↦ any-here Q (line_of_row r) (map line_of_row rows ++ ms) (move (1000 - r.rank) (1000 - r.rank) (line_of_row r) (row-is t (1000 - r.rank) (omega arith) up) x)
  | inr i ↦ any-later Q (line_of_row r) (map line_of_row rows ++ ms) (any-rows P Q t rows ls ms move up stays i)
]

-- the stays' lines where the attribute's comes first
first-lines : (attr : ℕ) (stays : List Stay) (h : HasOwn attr stays) → stay_lines 1001 (with_first attr stays) ≡ line_of_stay 1001 h.own ∷ stay_lines 1002 (filter (λ x. not (is_of attr x)) stays)
first-lines attr stays h = ap (λ (ss : List Stay). stay_lines 1001 (ss ++ filter (λ x. not (is_of attr x)) stays)) h.alone

abbrev pub first : ℕ → Problem → Problem
first attr p = record { rows = p.rows; stays = with_first attr p.stays }

each-first : (P Q : Line → Type 0) (attr : ℕ) (p : Problem) → HasStay p.stays attr → AreApart p.stays → Moves (level_of attr 1001 p.stays) P Q → Each P (lines (first attr p)) → Each Q (lines p)
each-first P Q attr p has apart move =
    let t : ℕ = level_of attr 1001 p.stays in
    let o = has-own attr p.stays has apart in
    each-rows P Q t p.rows (stay_lines 1001 (with_first attr p.stays)) (stay_lines 1001 p.stays) move (level-above attr 1001 p.stays)
    (λ h.
    let k : Each P (line_of_stay 1001 o.own ∷ stay_lines 1002 (filter (λ x. not (is_of attr x)) p.stays)) = subst (Each P) (first-lines attr p.stays o) h in
    each-stays P Q attr t 1001 p.stays move (omega arith) refl apart
    (subst (λ (ss : List Stay). Each (λ s. P (line_of_stay 1001 s)) ss) (sym o.alone) (k.0, tt)) k.1)

any-first : (P Q : Line → Type 0) (attr : ℕ) (p : Problem) → HasStay p.stays attr → AreApart p.stays → Moves (level_of attr 1001 p.stays) P Q → Any P (lines (first attr p)) → Any Q (lines p)
any-first P Q attr p has apart move =
    let t : ℕ = level_of attr 1001 p.stays in
    let o = has-own attr p.stays has apart in
    any-rows P Q t p.rows (stay_lines 1001 (with_first attr p.stays)) (stay_lines 1001 p.stays) move (level-above attr 1001 p.stays)
    (λ h. any-stays P Q attr t 1001 p.stays move (omega arith) refl apart
    (either o (any-cases P (line_of_stay 1001 o.own) (stay_lines 1002 (filter (λ x. not (is_of attr x)) p.stays)) (subst (Any P) (first-lines attr p.stays o) h))))
  where
    either : (o : HasOwn attr p.stays) → P (line_of_stay 1001 o.own) ⊎ Any P (stay_lines 1002 (filter (λ x. not (is_of attr x)) p.stays))
        → Any (λ s. P (line_of_stay 1001 s)) (filter (is_of attr) p.stays) ⊎ Any P (stay_lines 1002 (filter (λ x. not (is_of attr x)) p.stays))
    either o (inl x) = inl (subst (λ (ss : List Stay). Any (λ s. P (line_of_stay 1001 s)) ss) (sym o.alone) (any-here (λ s. P (line_of_stay 1001 s)) o.own [] x))
    either o (inr i) = inr i

-- no other line is of the first one's level
rows-low : (attr : ℕ) (rows : List Row) (ls : List Line) → Each (λ l. l.level ≡ 1001 → l.name ≡ StayOf attr) ls → Each (λ l. l.level ≡ 1001 → l.name ≡ StayOf attr) (map line_of_row rows ++ ls)
rows-low attr [] ls h = h
rows-low attr (r ∷ rows) ls h = ((λ e. absurd (omega (arith, e))), rows-low attr rows ls h)

stays-high : (attr n : ℕ) (stays : List Stay) → 1001 < n → Each (λ l. l.level ≡ 1001 → l.name ≡ StayOf attr) (stay_lines n stays)
stays-high attr n [] above = tt
stays-high attr n (s ∷ stays) above = ((λ e. absurd (omega (arith, e, above))), stays-high attr (n + 1) stays (omega (arith, above)))

pub first_level : (attr : ℕ) (p : Problem) → HasStay p.stays attr → AreApart p.stays → Each (λ l. l.level ≡ 1001 → l.name ≡ StayOf attr) (lines (first attr p))
first_level attr p has apart =
    let o = has-own attr p.stays has apart in
    rows-low attr p.rows (stay_lines 1001 (with_first attr p.stays))
    (subst (Each (λ l. l.level ≡ 1001 → l.name ≡ StayOf attr)) (sym (first-lines attr p.stays o))
    ((λ e. ap StayOf o.is), stays-high attr 1002 (filter (λ x. not (is_of attr x)) p.stays) (omega arith)))

-- ---- the column

moved-multipliers : (p : Problem) (at : List Mark) (attr : ℕ) (m : Multipliers) → HasStay p.stays attr → AreApart p.stays → AreMultipliersAt (first attr p) at m → AreMultipliersAt p at (moved_times (level_of attr 1001 p.stays) m)
moved-multipliers p at attr m has apart are =
    let t : ℕ = level_of attr 1001 p.stays in
    let up = level-above attr 1001 p.stays in
    record {
      scales = λ level. are.scales (moved t level).0;
      cancel = λ level v.
          sym (lines_sum (λ l. m.times (moved t level).0 l.name *ℤ coefficient v l.form) (λ j k s above high. refl) (attr ∷ []) p)
          ∙ are.cancel (moved t level).0 v;
      inside_zero = λ side.
          All-from_recursion (λ l. IsIn (place_of l.name side) at → (level : ℕ) → column (moved_times t m) side l level ≡ pos 0) (lines p)
          (each-first (λ l. IsIn (place_of l.name side) at → (level : ℕ) → column m side l level ≡ pos 0) (λ l. IsIn (place_of l.name side) at → (level : ℕ) → column (moved_times t m) side l level ≡ pos 0) attr p has apart
          (λ i j l is zeros inside level. column-moved t m side l i j level up is ∙ zeros inside (moved t level).0)
          (recursion_from_All (λ l. IsIn (place_of l.name side) at → (level : ℕ) → column m side l level ≡ pos 0) (lines (first attr p)) (are.inside_zero side)));
    }

-- the mark's column is negative at the level of the first stay
abbrev pub IsNegativeFirst : Problem → List Mark → Mark → Type 0
IsNegativeFirst p at mark = (m : Multipliers) × AreMultipliersAt p at m
    × Any (λ l. (place_of l.name mark.side ≡ place mark) × (column m mark.side l 1001 <ℤ pos 0)) (lines p)

pub first_turns : (p : Problem) (at : List Mark) (attr : ℕ) (mark : Mark) → HasStay p.stays attr → AreApart p.stays → HasNegativeColumn (first attr p) at mark
    → HasNegativeColumn p at mark ⊎ IsNegativeFirst (first attr p) at mark
first_turns p at attr mark has apart (m, are, (k, x, within, found, (e, (level, before, low)))) = elim (cases_eq level 1001) [
  | inl here ↦ inr (m, are, (k, x, within, found, (e, subst (λ (n : ℕ). column m mark.side x n <ℤ pos 0) here low)))
  | inr ne ↦
      let t : ℕ = level_of attr 1001 p.stays in
      inl (
        moved_times t m,
        moved-multipliers p at attr m has apart are,
        any-first (λ l. (place_of l.name mark.side ≡ place mark) × IsLexElsewhere (column m mark.side l)) (λ l. (place_of l.name mark.side ≡ place mark) × IsLexNegative (column (moved_times t m) mark.side l)) attr p has apart
            (λ i j l is z. (z.0, low-moved t m mark.side l i j (level-above attr 1001 p.stays) is z.1)) (k, x, within, found, (e, (level, ne, before, low))),
      )
]
