-- A corner has at most one mark of each line, so corners are words over three letters.
use Rattle.std.proofs.Common.{◌≡◌, ◌≢◌, ◌∙◌, ℕ, zero, suc, ◌+◌, ◌^◌, ◌<◌, ◌≤◌, Bool, true, false, cond, nat_eq, List, [], ◌∷◌, ◌++◌, map, length, ℤ, pos, ◌+ℤ◌, ◌*ℤ◌, ◌<ℤ◌, neg_ℤ, refl, sym, ap, ap₂, subst, arith, inl, inr, All, AllPairs, Contains, eq-eqb, ne_eqb, true≢false}
use Rattle.std.specs.List.{AllByRecursion as Each}
use Rattle.std.proofs.lemmas.Bool.{cases_eq}
use Rattle.std.proofs.lemmas.List.Elements.{recursion_from_All, All-from_recursion}
use borrow.Author.Differences.{ints}
use Rattle.problem_core.specs.declared.parts.Mark.{Mark}
use Rattle.problem_core.specs.declared.parts.RowName.{RowName}
use Rattle.problem_core.specs.declared.parts.RowName.TheVariants.{Held, Stay as StayOf}
use Rattle.problem_core.specs.declared.parts.Side.TheVariants.{Under, Over}
use Rattle.problem_core.specs.declared.parts.Term.{Term}
use Rattle.problem_core.specs.declared.parts.Stay.{Stay}
use Rattle.problem_core.specs.Layout.{Problem, Row, Line, lines, line_of_row, stay_lines, coefficient, value_at}
use Rattle.problem_core.specs.Kept.{IsWhole, IsRow, IsStay}
use Rattle.problem_core.specs.Corners.{Point, StandsAt, Agree, IsIn, IsCorner, SameMarks, equation, marks_of, place, place_of, attr_column, one_column}
use Rattle.problem_core.proofs.Corners.CornerFacts.{is_place, at_place}
use Rattle.problem_core.proofs.Forms.{value-plus, value-single, each-impl, each-both}
use Rattle.problem_core.proofs.Corners.Tableaus.{unit_at}
use Rattle.frac_core.proofs.Integers.{mul-zero_ℤ, add-zero_ℤ, add-mul_right}
use Rattle.corner_laws.proofs.PathEnds.Words.{Apart, IsWord, words_few}
use Rattle.frac_core.proofs.Bools.{or-later as or_later, count-other as cond_other, count-same as cond_same}
use Rattle.frac_core.proofs.Lists.{pairs-rest as tail_pairs}

-- ---- marks as places

pub is_place-from_IsIn : (c : ℕ) (ms : List Mark) → IsIn c ms → is_place ms c ≡ true
is_place-from_IsIn c [] (k, within, is) = absurd (omega (arith, within))
is_place-from_IsIn c (m ∷ ms) (zero, within, is) = ap (λ (b : Bool). cond b true (is_place ms c)) (eq-eqb (place m) c is)
is_place-from_IsIn c (m ∷ ms) (suc k, within, is) = or_later (nat_eq (place m) c) (is_place ms c) (is_place-from_IsIn c ms (k, omega (arith, within), is))

pub IsIn-from_is_place : (c : ℕ) (ms : List Mark) → is_place ms c ≡ true → IsIn c ms
IsIn-from_is_place c [] h = absurd (true≢false (sym h))
IsIn-from_is_place c (m ∷ ms) h =
    elim (cases_eq (place m) c) [
      | inl e ↦ (0, omega arith, e)
      | inr n ↦
          let more : IsIn c ms = IsIn-from_is_place c ms (sym (ap (λ (b : Bool). cond b true (is_place ms c)) (ne_eqb (place m) c n)) ∙ h) in
          (suc more.0, omega (arith, more.1), more.2)
    ]

-- ---- both marks of a line leave the equations as they are

abbrev pub IsSmall : RowName → Type 0
IsSmall name = place_of name Under + 1 < attr_column 0

pub over_next : (name : RowName) → place_of name Over ≡ place_of name Under + 1
over_next (Held id) = omega arith
over_next (StayOf attr) = omega arith

pub sides_apart : (a b : RowName) → place_of a Over ≢ place_of b Under
sides_apart (Held i) (Held j) = λ e. omega (arith, e)
sides_apart (Held i) (StayOf j) = λ e. omega (arith, e)
sides_apart (StayOf i) (Held j) = λ e. omega (arith, e)
sides_apart (StayOf i) (StayOf j) = λ e. omega (arith, e)

pub no_attr : (c : ℕ) (den : ℕ) (form : List Term) → c < attr_column 0 → coefficient c (map (λ e. record { attr = attr_column e.attr; by = pos den *ℤ e.by }) form) ≡ pos 0
no_attr c den [] h = refl
no_attr c den (t ∷ ts) h =
    ap₂ ◌+ℤ◌ (cond_other (attr_column t.attr) c (pos den *ℤ t.by) (λ e. omega (arith, h, e))) (no_attr c den ts h)

pub sum_3 : (a b c d a' b' c' d' : ℤ) → a ≡ a' → b ≡ b' → c ≡ c' → d ≡ d' → a +ℤ (b +ℤ (c +ℤ d)) ≡ a' +ℤ (b' +ℤ (c' +ℤ d'))
sum_3 a b c d a' b' c' d' p q r s = ap₂ ◌+ℤ◌ p (ap₂ ◌+ℤ◌ q (ap₂ ◌+ℤ◌ r s))

pub cancels : (l : Line) (name : RowName) → IsSmall name → coefficient (place_of name Under) (equation l) +ℤ coefficient (place_of name Over) (equation l) ≡ pos 0
cancels l name small =
    let u : ℕ = place_of name Under in
    let o : ℕ = place_of name Over in
    let next = over_next name in
    let later = over_next l.name in
    let none_u = no_attr (place_of name Under) l.den l.form (omega (arith, small)) in
    let none_o = no_attr (place_of name Over) l.den l.form (omega (arith, small, next)) in
    let one_u = cond_other one_column (place_of name Under) (neg_ℤ l.num) (λ e. omega (arith, small, e)) in
    let one_o = cond_other one_column (place_of name Over) (neg_ℤ l.num) (λ e. omega (arith, small, next, e)) in
    let over_u = cond_other (place_of l.name Over) (place_of name Under) (neg_ℤ (pos l.den)) (sides_apart l.name name) in
    let under_o = cond_other (place_of l.name Under) (place_of name Over) (pos l.den) (λ e. sides_apart name l.name (sym e)) in
    elim (cases_eq (place_of l.name Under) (place_of name Under)) [
      | inl e ↦
          let under_u = cond_same (place_of l.name Under) (place_of name Under) (pos l.den) e in
          let over_o = cond_same (place_of l.name Over) (place_of name Over) (neg_ℤ (pos l.den)) (omega (arith, e, next, later)) in
          ap₂ ◌+ℤ◌ (sum_3 _ _ _ _ _ _ _ _ under_u over_u one_u none_u) (sum_3 _ _ _ _ _ _ _ _ under_o over_o one_o none_o)
          ∙ omega (arith, ints)
      | inr n ↦
          let under_u = cond_other (place_of l.name Under) (place_of name Under) (pos l.den) n in
          let over_o = cond_other (place_of l.name Over) (place_of name Over) (neg_ℤ (pos l.den)) (λ e. n (omega (arith, e, next, later))) in
          ap₂ ◌+ℤ◌ (sum_3 _ _ _ _ _ _ _ _ under_u over_u one_u none_u) (sum_3 _ _ _ _ _ _ _ _ under_o over_o one_o none_o)
    ]

pub unit_value : (c : ℕ) (form : List Term) → value_at (unit_at c) form ≡ coefficient c form
unit_value c form =
    value-single (unit_at c) c form (λ v ne. ap (λ (b : Bool). coefficient v form *ℤ cond b (pos 1) (pos 0)) (ne_eqb v c ne) ∙ mul-zero_ℤ (coefficient v form))
    ∙ ap (λ (b : Bool). coefficient c form *ℤ cond b (pos 1) (pos 0)) (eq-eqb c c refl) ∙ omega (arith, ints)

-- ---- a point with both deviations of a line greater by one

abbrev pub bump : RowName → ℕ → ℤ
bump name v = unit_at (place_of name Under) v +ℤ unit_at (place_of name Over) v

pub bump_other : (name : RowName) (v : ℕ) → v ≢ place_of name Under → v ≢ place_of name Over → bump name v ≡ pos 0
bump_other name v u o = ap₂ ◌+ℤ◌ (cond_other v (place_of name Under) (pos 1) u) (cond_other v (place_of name Over) (pos 1) o)

pub bump_under : (name : RowName) → bump name (place_of name Under) ≡ pos 1
bump_under name = ap₂ ◌+ℤ◌ (cond_same (place_of name Under) (place_of name Under) (pos 1) refl) (cond_other (place_of name Under) (place_of name Over) (pos 1) (λ e. sides_apart name name (sym e)))

pub bump_one : (name : RowName) → IsSmall name → bump name one_column ≡ pos 0
bump_one name small = let next = over_next name in bump_other name one_column (λ e. omega (arith, small, e)) (λ e. omega (arith, small, next, e))

pub moved_one : (x : Point) (name : RowName) → IsSmall name → x.num one_column +ℤ bump name one_column ≡ x.num one_column
moved_one x name small = ap (λ (z : ℤ). x.num one_column +ℤ z) (bump_one name small) ∙ add-zero_ℤ (x.num one_column)

unfoldable pub moved : (x : Point) (name : RowName) → IsSmall name → Point
moved x name small = record {
  num = λ v. x.num v +ℤ bump name v;
  positive = subst (λ (z : ℤ). pos 0 <ℤ z) (sym (moved_one x name small)) x.positive;
}

pub still_solves : (x : Point) (name : RowName) → IsSmall name → (l : Line) → value_at x.num (equation l) ≡ pos 0 → value_at (λ v. x.num v +ℤ bump name v) (equation l) ≡ pos 0
still_solves x name small l h =
    value-plus x.num (bump name) (equation l)
    ∙ ap₂ ◌+ℤ◌ h (value-plus (unit_at (place_of name Under)) (unit_at (place_of name Over)) (equation l)
    ∙ ap₂ ◌+ℤ◌ (unit_value (place_of name Under) (equation l)) (unit_value (place_of name Over) (equation l)) ∙ cancels l name small)

moved-StandsAt : (p : Problem) (at : List Mark) (x : Point) (name : RowName) (small : IsSmall name) → IsIn (place_of name Under) at → IsIn (place_of name Over) at → StandsAt p at x → StandsAt p at (moved x name small)
unfolding moved
moved-StandsAt p at x name small u o s = (
  All-from_recursion _ _ (each-impl (λ l. value_at x.num (equation l) ≡ pos 0) (λ l. value_at (λ v. x.num v +ℤ bump name v) (equation l) ≡ pos 0) (lines p) (λ l h. still_solves x name small l h) (recursion_from_All _ _ s.0)),
  All-from_recursion _ _
      (each-impl (λ m. (IsIn (place m) at → ⊥) → x.num (place m) ≡ pos 0) (λ m. (IsIn (place m) at → ⊥) → x.num (place m) +ℤ bump name (place m) ≡ pos 0) (marks_of (lines p))
      (λ m h out. ap₂ ◌+ℤ◌ (h out) (bump_other name (place m) (λ e. out (subst (λ (c : ℕ). IsIn c at) (sym e) u)) (λ e. out (subst (λ (c : ℕ). IsIn c at) (sym e) o))))
      (recursion_from_All _ _ s.1)),
)

mark_of_problem : (p : Problem) (at : List Mark) (c : ℕ) → IsCorner p at → IsIn c at → is_place (marks_of (lines p)) c ≡ true
mark_of_problem p at c k i =
    at_place (λ c. is_place (marks_of (lines p)) c ≡ true) at c
    (each-impl (λ m. Contains (map place (marks_of (lines p))) (place m)) (λ m. is_place (marks_of (lines p)) (place m) ≡ true) at (λ m h. is_place-from_IsIn (place m) (marks_of (lines p)) h) (recursion_from_All _ _ k.marks))
    (is_place-from_IsIn c at i)

one_more : (a x : ℤ) → pos 0 <ℤ x → a *ℤ x ≡ (a +ℤ pos 1) *ℤ x → ⊥
one_more a x h e =
    let split : (a +ℤ pos 1) *ℤ x ≡ a *ℤ x +ℤ pos 1 *ℤ x = add-mul_right a (pos 1) x in
    omega (arith, ints, h, e, split)

pub one_mark : (p : Problem) (at : List Mark) (name : RowName) → IsSmall name → IsCorner p at → IsIn (place_of name Under) at → IsIn (place_of name Over) at → ⊥
unfolding moved
one_mark p at name small k u o =
    let x : Point = k.point in
    let fixed : All (λ m. Agree (place m) k.point (moved k.point name small)) (marks_of (lines p)) = k.marks_fixed (moved k.point name small) (moved-StandsAt p at k.point name small u o k.stands) in
    let agrees : Agree (place_of name Under) k.point (moved k.point name small) =
    at_place (λ c. Agree c k.point (moved k.point name small)) (marks_of (lines p)) (place_of name Under) (recursion_from_All _ _ fixed) (mark_of_problem p at (place_of name Under) k u) in
    let left : k.point.num (place_of name Under) *ℤ (k.point.num one_column +ℤ bump name one_column) ≡ k.point.num (place_of name Under) *ℤ k.point.num one_column =
    ap (λ (z : ℤ). k.point.num (place_of name Under) *ℤ z) (moved_one k.point name small) in
    let right : (k.point.num (place_of name Under) +ℤ bump name (place_of name Under)) *ℤ k.point.num one_column ≡ (k.point.num (place_of name Under) +ℤ pos 1) *ℤ k.point.num one_column =
    ap (λ (z : ℤ). (k.point.num (place_of name Under) +ℤ z) *ℤ k.point.num one_column) (bump_under name) in
    one_more (k.point.num (place_of name Under)) (k.point.num one_column) k.point.positive (sym left ∙ agrees ∙ right)

-- ---- corners as words

abbrev letter : List Mark → Line → ℕ
letter at l = cond (is_place at (place_of l.name Under)) 1 (cond (is_place at (place_of l.name Over)) 2 0)

abbrev word : List Line → List Mark → List ℕ
word ls at = map (letter at) ls

abbrev words : List Line → List (List Mark) → List (List ℕ)
words ls cs = map (word ls) cs

letter_small : (a b : Bool) → cond a 1 (cond b 2 0) < 3
letter_small true b = omega arith
letter_small false true = omega arith
letter_small false false = omega arith

word-IsWord : (ls : List Line) (at : List Mark) → IsWord (length ls) (word ls at)
word-IsWord [] at = (refl, tt)
word-IsWord (l ∷ ls) at =
    let more : IsWord (length ls) (word ls at) = word-IsWord ls at in
    (ap suc more.0, (letter_small (is_place at (place_of l.name Under)) (is_place at (place_of l.name Over)), more.1))

words-IsWord : (ls : List Line) (cs : List (List Mark)) → Each (IsWord (length ls)) (words ls cs)
words-IsWord ls [] = tt
words-IsWord ls (at ∷ cs) = (word-IsWord ls at, words-IsWord ls cs)

-- at most one is true, so the letter decides both
letters_same : (a b c d : Bool) → (a ≡ true → b ≡ true → ⊥) → (c ≡ true → d ≡ true → ⊥) → ◌≡◌ {A = ℕ} (cond a 1 (cond b 2 0)) (cond c 1 (cond d 2 0)) → (a ≡ c) × (b ≡ d)
letters_same true true c d h k e = absurd (h refl refl)
letters_same a b true true h k e = absurd (k refl refl)
letters_same true false true false h k e = (refl, refl)
letters_same true false false true h k e = absurd (omega (arith, e))
letters_same true false false false h k e = absurd (omega (arith, e))
letters_same false true true false h k e = absurd (omega (arith, e))
letters_same false true false true h k e = (refl, refl)
letters_same false true false false h k e = absurd (omega (arith, e))
letters_same false false true false h k e = absurd (omega (arith, e))
letters_same false false false true h k e = absurd (omega (arith, e))
letters_same false false false false h k e = (refl, refl)

abbrev HasOne : List Mark → Line → Type 0
HasOne at l = is_place at (place_of l.name Under) ≡ true → is_place at (place_of l.name Over) ≡ true → ⊥

first_or : ℕ → List ℕ → ℕ
first_or d [] = d
first_or d (x ∷ xs) = x

rest_of : List ℕ → List ℕ
rest_of [] = []
rest_of (x ∷ xs) = xs

head_of : (xs ys : List ℕ) (x y : ℕ) → (x ∷ xs) ≡ (y ∷ ys) → (x ≡ y) × (xs ≡ ys)
unfolding first_or rest_of
head_of xs ys x y e = (ap (λ (zs : List ℕ). first_or x zs) e, ap rest_of e)

same_places : (ls : List Line) (a b : List Mark) → Each (HasOne a) ls → Each (HasOne b) ls → word ls a ≡ word ls b → Each (λ m. is_place a (place m) ≡ is_place b (place m)) (marks_of ls)
same_places [] a b h k e = tt
same_places (l ∷ ls) a b h k e =
    let parts = head_of (word ls a) (word ls b) (letter a l) (letter b l) e in
    let both = letters_same (is_place a (place_of l.name Under)) (is_place a (place_of l.name Over)) (is_place b (place_of l.name Under)) (is_place b (place_of l.name Over)) h.0 k.0 parts.0 in
    (both.0, (both.1, same_places ls a b h.1 k.1 parts.1))

-- each mark's place is among the places of the marks
own_places : (ms all : List Mark) → ((m : ℕ) → IsIn m ms → IsIn m all) → Each (λ m. IsIn (place m) all) ms
own_places [] all f = tt
own_places (m ∷ ms) all f = (f (place m) (0, omega arith, refl), own_places ms all (λ c i. f c (suc i.0, omega (arith, i.1), i.2)))

inside_too : (p : Problem) (a b : List Mark) → IsCorner p a → Each (λ m. is_place a (place m) ≡ is_place b (place m)) (marks_of (lines p)) → All (λ m. IsIn (place m) b) a
inside_too p a b k same =
    All-from_recursion _ _
    (each-impl (λ m. Contains (map place (marks_of (lines p))) (place m) × Contains (map place a) (place m)) (λ m. IsIn (place m) b) a
    (λ m h. IsIn-from_is_place (place m) b
    (sym (at_place (λ c. is_place a c ≡ is_place b c) (marks_of (lines p)) (place m) same (is_place-from_IsIn (place m) (marks_of (lines p)) h.0)) ∙ is_place-from_IsIn (place m) a h.1))
    (each-both _ _ a (recursion_from_All _ _ k.marks) (own_places a a (λ m i. i))))

corner-HasOne : (p : Problem) (at : List Mark) → IsCorner p at → (ls : List Line) → Each (λ l. IsSmall l.name) ls → Each (HasOne at) ls
corner-HasOne p at k ls small =
    each-impl (λ l. IsSmall l.name) (HasOne at) ls (λ l s u o. one_mark p at l.name s k (IsIn-from_is_place (place_of l.name Under) at u) (IsIn-from_is_place (place_of l.name Over) at o)) small

differ : (p : Problem) (a : List Mark) (cs : List (List Mark)) → Each (λ l. IsSmall l.name) (lines p) → IsCorner p a → Each (IsCorner p) cs → Each (λ b. SameMarks a b → ⊥) cs → Each (λ w. word (lines p) a ≢ w) (words (lines p) cs)
differ p a [] small k ks h = tt
differ p a (b ∷ cs) small k ks h = (
  (λ e. let same = same_places (lines p) a b (corner-HasOne p a k (lines p) small) (corner-HasOne p b ks.0 (lines p) small) e in
      h.0 (inside_too p a b k same, inside_too p b a ks.0 (each-impl (λ m. is_place a (place m) ≡ is_place b (place m)) (λ m. is_place b (place m) ≡ is_place a (place m)) (marks_of (lines p)) (λ m q. sym q) same))),
  differ p a cs small k ks.1 h.1,
)

-- by recursion: what holds of each pair
pub head_pairs : {X : Type 0} (R : X → X → Type 0) (x : X) (xs : List X) → AllPairs R (x ∷ xs) → All (R x) xs
head_pairs R x xs h = λ j d within. h 0 (suc j) d (omega arith) (omega (arith, within))

words-Apart : (p : Problem) (cs : List (List Mark)) → Each (λ l. IsSmall l.name) (lines p) → Each (IsCorner p) cs → AllPairs (λ a b. SameMarks a b → ⊥) cs → Apart (words (lines p) cs)
words-Apart p [] small ks h = tt
words-Apart p (a ∷ cs) small ks h = (
  differ p a cs small ks.0 ks.1 (recursion_from_All _ _ (head_pairs (λ a b. SameMarks a b → ⊥) a cs h)),
  words-Apart p cs small ks.1 (tail_pairs (λ a b. SameMarks a b → ⊥) a cs h),
)

-- ---- the lines of a whole problem

pub rows_small : (rows : List Row) (stays : List Line) → Each IsRow rows → Each (λ l. IsSmall l.name) stays → Each (λ l. IsSmall l.name) (map line_of_row rows ++ stays)
rows_small [] stays h k = k
rows_small (r ∷ rows) stays h k = (omega (arith, h.0.number.1), rows_small rows stays h.1 k)

pub stays_small : (level : ℕ) (stays : List Stay) → Each IsStay stays → Each (λ l. IsSmall l.name) (stay_lines level stays)
stays_small level [] h = tt
stays_small level (s ∷ stays) h = (omega (arith, h.0.attr.1), stays_small (level + 1) stays h.1)

line_count : (rows : List Row) (level : ℕ) (stays : List Stay) → length (map line_of_row rows ++ stay_lines level stays) ≡ length rows + length stays
line_count [] level [] = refl
line_count [] level (s ∷ stays) = let more = line_count [] (level + 1) stays in omega (arith, more)
line_count (r ∷ rows) level stays = let more = line_count rows level stays in omega (arith, more)

length_words : (ls : List Line) (cs : List (List Mark)) → length (words ls cs) ≡ length cs
length_words ls [] = refl
length_words ls (at ∷ cs) = ap suc (length_words ls cs)

pub corners_few : (p : Problem) → IsWhole p → (cs : List (List Mark)) → All (IsCorner p) cs → AllPairs (λ a b. SameMarks a b → ⊥) cs → length cs ≤ 3 ^ (length p.rows + length p.stays)
corners_few p whole cs ks h =
    let small : Each (λ l. IsSmall l.name) (lines p) = rows_small p.rows (stay_lines 1001 p.stays) (recursion_from_All _ _ whole.rows) (stays_small 1001 p.stays (recursion_from_All _ _ whole.stays)) in
    let few : length (words (lines p) cs) ≤ 3 ^ length (lines p) = words_few (length (lines p)) (words (lines p) cs) (words-IsWord (lines p) cs) (words-Apart p cs small (recursion_from_All _ _ ks) h) in
    subst (λ (n : ℕ). n ≤ 3 ^ (length p.rows + length p.stays)) (length_words (lines p) cs)
    (subst (λ (n : ℕ). length (words (lines p) cs) ≤ 3 ^ n) (line_count p.rows 1001 p.stays) few)
