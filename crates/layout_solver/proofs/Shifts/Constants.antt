-- Rows whose constants change, one after the other.
use Rattle.std.proofs.Common.{◌≡◌, ◌≢◌, ◌∙◌, ℕ, zero, suc, ◌+◌, ◌-◌, ◌<◌, ◌≤◌, ◌++◌, Bool, true, false, cond, nat_eq, List, [], ◌∷◌, length, map, take, drop, get_or, ℤ, pos, negsuc, ◌-ℤ◌, nat_abs, refl, sym, ap, ap₂, subst, arith, inl, inr, AllPairs, Any, eq-eqb, ne_eqb}
use Rattle.std.specs.List.{AllByRecursion as Each}
use Rattle.std.proofs.lemmas.Bool.{cases_Bool, cases_eq, cases_lt, eqb-true}
use Rattle.std.proofs.lemmas.Bool.Decides.{nat_tests}
use Rattle.std.proofs.lemmas.List.{drop_more, take-append-drop, take_more}
use Rattle.std.proofs.lemmas.List.Elements.{recursion_from_All}
use borrow.Author.Differences.{ints}
use Rattle.frac_core.specs.Fraction.{Fraction}
use Rattle.problem_core.specs.Layout.{Row}
use Rattle.problem_core.specs.Unfit.{changes, first_shifted, same_constant, without_constant}
use Rattle.problem_core.proofs.Forms.{each-impl}
use Rattle.corner_laws.proofs.Counting.{head_pairs}
use Rattle.corner_lines.specs.Shifts.{has_constant}
use Rattle.corner_lines.proofs.ProblemChanges.Shifted.{changed, shift-off, shift-on}
use Rattle.layout_solver.specs.declared.engine.Change.{Change}
use Rattle.layout_solver.specs.Shifts.{shifted}
use Rattle.corner_laws.proofs.PathEnds.Complete.{same-self, no-changes}
use Rattle.corner_view.proofs.Seen.ShiftedLines.{row_id}
use Rattle.corner_laws.proofs.MarkWritings.TermLifts.{pairs-across}
use Rattle.frac_core.proofs.Bools.{false-not-true as no-truth}
use Rattle.frac_core.proofs.Lists.{pairs-rest as tail_pairs, each-joined}

-- ---- constants that are the same

abbrev over : ℤ → ℕ → Fraction
over n d = record { num = n; den = d }

no-size : (z : ℤ) → nat_abs z ≡ 0 → z ≡ pos 0
no-size (pos n) h = ap pos h
no-size (negsuc n) h = absurd (omega (arith, h))

no-difference : (a b : ℤ) → nat_abs (a -ℤ b) ≡ 0 → a ≡ b
no-difference a b h = let none : a -ℤ b ≡ pos 0 = no-size (a -ℤ b) h in omega (arith, ints, none)

pub same_true : (f g : Fraction) → same_constant f g ≡ true → f ≡ g
same_true f g h = elim (cases_eq f.den g.den) [
  | inl e ↦ ap₂ over (no-difference f.num g.num (eqb-true (nat_abs (f.num -ℤ g.num)) 0 (sym (ap (λ (b : Bool). cond b (nat_eq (nat_abs (f.num -ℤ g.num)) 0) false) (eq-eqb f.den g.den e)) ∙ h))) e
  | inr n ↦ absurd (no-truth (sym (ap (λ (b : Bool). cond b (nat_eq (nat_abs (f.num -ℤ g.num)) 0) false) (ne_eqb f.den g.den n)) ∙ h))
]

pub same_false : (f g : Fraction) → f ≢ g → same_constant f g ≡ false
same_false f g n = elim (cases_Bool (same_constant f g)) [
  | inl h ↦ absurd (n (same_true f g h))
  | inr h ↦ h
]

-- ---- a row with another constant

has-alone : (b : Bool) (f g : Fraction) (r : Row) → changed g (cond b (changed f r) r) ≡ changed g r
has-alone true f g r = refl
has-alone false f g r = refl

alike : (id : ℕ) (f : Fraction) (r : Row) → without_constant (has_constant id f r) ≡ without_constant r
alike id f r = elim (nat_eq r.id id) as (λ b. without_constant (cond b (changed f r) r) ≡ without_constant r) [
  | true ↦ refl
  | false ↦ refl
]

all-alike : (id : ℕ) (f : Fraction) (rows : List Row) → map without_constant (map (has_constant id f) rows) ≡ map without_constant rows
all-alike id f [] = refl
all-alike id f (r ∷ rows) = ap₂ (λ (s : Row) (ss : List Row). s ∷ ss) (alike id f r) (all-alike id f rows)

-- the rows are those before but for their constants
pub shifted-alike : (to : List Change) (rows : List Row) → map without_constant (shifted to rows) ≡ map without_constant rows
shifted-alike [] rows = refl
shifted-alike (c ∷ to) rows = shifted-alike to (map (has_constant c.row c.constant) rows) ∙ all-alike c.row c.constant rows

-- where the row has the constant already, it is no change
pub no_change : (id : ℕ) (f : Fraction) (rows : List Row) → Each (λ (r : Row). r.id ≡ id → r.constant ≡ f) rows → map (has_constant id f) rows ≡ rows
no_change id f [] h = refl
no_change id f (r ∷ rows) h =
    ap₂ (λ (s : Row) (rs : List Row). s ∷ rs)
    (elim (cases_eq r.id id) [
      | inl e ↦ shift-on id f r e ∙ ap (λ (g : Fraction). changed g r) (sym (h.0 e))
      | inr n ↦ shift-off id f r n
    ])
    (no_change id f rows h.1)

-- ---- a row with these constants

abbrev applied : List Change → Row → Row
applied [] r = r
applied (t ∷ more) r = applied more (has_constant t.row t.constant r)

applied-on : (a b : List Change) (r : Row) → applied (a ++ b) r ≡ applied b (applied a r)
applied-on [] b r = refl
applied-on (t ∷ a) b r = applied-on a b (has_constant t.row t.constant r)

applied-id : (to : List Change) (r : Row) → (applied to r).id ≡ r.id
applied-id [] r = refl
applied-id (t ∷ more) r = applied-id more (has_constant t.row t.constant r) ∙ row_id (nat_eq r.id t.row) t.constant r

applied-other : (to : List Change) (r : Row) → Each (λ (t : Change). r.id ≢ t.row) to → applied to r ≡ r
applied-other [] r h = refl
applied-other (t ∷ more) r h = ap (applied more) (shift-off t.row t.constant r h.0) ∙ applied-other more r h.1

applied-alone : (to : List Change) (r : Row) → applied to r ≡ changed (applied to r).constant r
applied-alone [] r = refl
applied-alone (t ∷ more) r =
    applied-alone more (has_constant t.row t.constant r)
    ∙ has-alone (nat_eq r.id t.row) t.constant (applied more (has_constant t.row t.constant r)).constant r

-- a row with its own constant is the row
applied-same : (to : List Change) (r : Row) → same_constant r.constant (applied to r).constant ≡ true → applied to r ≡ r
applied-same to r h = applied-alone to r ∙ ap (λ (f : Fraction). changed f r) (sym (same_true r.constant (applied to r).constant h))

-- ---- rows with these constants

pub shifted_on : (a b : List Change) (rows : List Row) → shifted (a ++ b) rows ≡ shifted b (shifted a rows)
shifted_on [] b rows = refl
shifted_on (t ∷ a) b rows = shifted_on a b (map (has_constant t.row t.constant) rows)

mapped-none : (rows : List Row) → rows ≡ map (applied []) rows
mapped-none [] = refl
mapped-none (r ∷ rows) = ap (λ (rs : List Row). r ∷ rs) (mapped-none rows)

mapped-twice : (g h : Row → Row) (rows : List Row) → map h (map g rows) ≡ map (λ r. h (g r)) rows
mapped-twice g h [] = refl
mapped-twice g h (r ∷ rows) = ap (λ (rs : List Row). h (g r) ∷ rs) (mapped-twice g h rows)

shifted-rows : (to : List Change) (rows : List Row) → shifted to rows ≡ map (applied to) rows
shifted-rows [] rows = mapped-none rows
shifted-rows (t ∷ more) rows = shifted-rows more (map (has_constant t.row t.constant) rows) ∙ mapped-twice (has_constant t.row t.constant) (applied more) rows

mapped-same : (g h : Row → Row) (rows : List Row) → Each (λ (r : Row). h r ≡ g r) rows → map h rows ≡ map g rows
mapped-same g h [] k = refl
mapped-same g h (r ∷ rows) k = ap₂ (λ (s : Row) (rs : List Row). s ∷ rs) k.0 (mapped-same g h rows k.1)

mapped-still : (g : Row → Row) (rows : List Row) → Each (λ (r : Row). g r ≡ r) rows → map g rows ≡ rows
mapped-still g [] k = refl
mapped-still g (r ∷ rows) k = ap₂ (λ (s : Row) (rs : List Row). s ∷ rs) k.0 (mapped-still g rows k.1)

each-of : (P : Row → Type 0) (rows : List Row) → ((r : Row) → P r) → Each P rows
each-of P [] h = tt
each-of P (r ∷ rows) h = (h r, each-of P rows h)

each-before : (P : Row → Type 0) (g : Row → Row) (rows : List Row) → Each P (map g rows) → Each (λ r. P (g r)) rows
each-before P g [] h = tt
each-before P g (r ∷ rows) h = (h.0, each-before P g rows h.1)

any-before : (P : Row → Type 0) (g : Row → Row) (rows : List Row) → Any P (map g rows) → Any (λ r. P (g r)) rows
any-before P g [] (n, x, within, is, h) = absurd (omega (arith, within))
any-before P g (r ∷ rows) (zero, x, within, is, h) = (0, r, omega arith, refl, subst P (sym is) h)
any-before P g (r ∷ rows) (suc n, x, within, is, h) = let i = any-before P g rows (n, x, omega (arith, within), is, h) in (suc i.0, i.1, omega (arith, i.2), i.3, i.4)

-- ---- how many constants have changed

few-more : (b : Bool) (m n : ℕ) → m ≤ n → cond b m (1 + m) ≤ suc n
few-more true m n h = omega (arith, h)
few-more false m n h = omega (arith, h)

pub changes_few : (old rows : List Row) → changes old rows ≤ length old
changes_few [] rows = omega arith
changes_few (o ∷ old) [] = omega arith
changes_few (o ∷ old) (r ∷ rows) = few-more (same_constant o.constant r.constant) (changes old rows) (length old) (changes_few old rows)

-- ---- the first changes among all, at one row after the other

-- up to this number the first changes and all of them give the same row, and past it the first give the row as
-- it is
record IsFirst (id : ℕ) (g h : Row → Row) (r : Row) : Type 0 where
  upto : r.id ≤ id → h r ≡ g r
  past : id < r.id → g r ≡ r
  same : same_constant r.constant (g r).constant ≡ true → g r ≡ r

head-first : (b : Bool) (o r : Row) (n : ℕ) (old cur fin : List Row) → (b ≡ true → r ≡ o) → first_shifted n old fin ≡ cur
    → cond b (o ∷ first_shifted (cond b n (1 + n)) old fin) (cond (nat_eq (cond b n (1 + n)) 0) o r ∷ first_shifted (cond b n (1 + n) - 1) old fin) ≡ r ∷ cur
head-first true o r n old cur fin same rest = ap₂ (λ (s : Row) (rs : List Row). s ∷ rs) (sym (same refl)) rest
head-first false o r n old cur fin same rest =
    let some : nat_eq (1 + n) 0 ≡ false = grind (arith, nat_tests) in
    let less : (1 + n) - 1 ≡ n = omega arith in
    ap₂ (λ (b : Bool) (k : ℕ). cond b o r ∷ first_shifted k old fin) some less ∙ ap (λ (rs : List Row). r ∷ rs) rest

none-head : (b : Bool) (o : Row) (rest : List Row) → cond b (o ∷ rest) (o ∷ rest) ≡ o ∷ rest
none-head true o rest = refl
none-head false o rest = refl

none-first : (h : Row → Row) (old : List Row) → first_shifted 0 old (map h old) ≡ old
none-first h [] = refl
none-first h (o ∷ old) = none-head (same_constant o.constant (h o).constant) o (first_shifted 0 old (map h old)) ∙ ap (λ (rs : List Row). o ∷ rs) (none-first h old)

past-law : (g h : Row → Row) (old : List Row) → Each (λ (r : Row). g r ≡ r) old → first_shifted (changes old (map g old)) old (map h old) ≡ map g old
past-law g h old still =
    ap (λ (rs : List Row). first_shifted (changes old rs) old (map h old)) (mapped-still g old still)
    ∙ ap (λ (n : ℕ). first_shifted n old (map h old)) (no-changes old)
    ∙ none-first h old
    ∙ sym (mapped-still g old still)

all-past : (id : ℕ) (r : Row) (old : List Row) → id < r.id → AllPairs (λ (s t : Row). s.id < t.id) (r ∷ old) → Each (λ (s : Row). id < s.id) (r ∷ old)
all-past id r old past rising = (
  past,
  each-impl (λ (s : Row). r.id < s.id) (λ (s : Row). id < s.id) old (λ s lt. omega (arith, past, lt)) (recursion_from_All (λ (s : Row). r.id < s.id) old (head_pairs (λ (s t : Row). s.id < t.id) r old rising)),
)

still-past : (id : ℕ) (g h : Row → Row) (rows : List Row) → Each (IsFirst id g h) rows → Each (λ (r : Row). id < r.id) rows → Each (λ (r : Row). g r ≡ r) rows
still-past id g h [] k past = tt
still-past id g h (r ∷ rows) k past = (k.0.past past.0, still-past id g h rows k.1 past.1)

first-law : (id : ℕ) (g h : Row → Row) (old : List Row) → Each (IsFirst id g h) old → AllPairs (λ (r s : Row). r.id < s.id) old → first_shifted (changes old (map g old)) old (map h old) ≡ map g old
first-law id g h [] k rising = refl
first-law id g h (r ∷ old) k rising = elim (cases_lt id r.id) [
  | inl past ↦ past-law g h (r ∷ old) (still-past id g h (r ∷ old) k (all-past id r old past rising))
  | inr upto ↦ subst (λ (s : Row). first_shifted (changes (r ∷ old) (g r ∷ map g old)) (r ∷ old) (s ∷ map h old) ≡ g r ∷ map g old) (sym (k.0.upto upto))
      (head-first (same_constant r.constant (g r).constant) r (g r) (changes old (map g old)) old (map g old) (map h old) k.0.same
      (first-law id g h old k.1 (tail_pairs (λ (s t : Row). s.id < t.id) r old rising)))
]

less-head : (b c : Bool) (m n : ℕ) → (c ≡ true → b ≡ true) → m ≤ n → cond b m (1 + m) ≤ cond c n (1 + n)
less-head true true m n both less = less
less-head true false m n both less = omega (arith, less)
less-head false true m n both less = absurd (no-truth (both refl))
less-head false false m n both less = omega (arith, less)

same-head : (id : ℕ) (g h : Row → Row) (r : Row) → IsFirst id g h r → same_constant r.constant (h r).constant ≡ true → same_constant r.constant (g r).constant ≡ true
same-head id g h r k e = elim (cases_lt id r.id) [
  | inl past ↦ ap (λ (s : Row). same_constant r.constant s.constant) (k.past past) ∙ same-self r.constant
  | inr upto ↦ sym (ap (λ (s : Row). same_constant r.constant s.constant) (k.upto upto)) ∙ e
]

less-law : (id : ℕ) (g h : Row → Row) (old : List Row) → Each (IsFirst id g h) old → changes old (map g old) ≤ changes old (map h old)
less-law id g h [] k = omega arith
less-law id g h (r ∷ old) k =
    less-head (same_constant r.constant (g r).constant) (same_constant r.constant (h r).constant) (changes old (map g old)) (changes old (map h old)) (same-head id g h r k.0) (less-law id g h old k.1)

-- ---- one change more

-- it changes the row of this number alone, which is as it was
record IsNext (id : ℕ) (g h : Row → Row) (r : Row) : Type 0 where
  other : r.id ≢ id → h r ≡ g r
  still : r.id ≡ id → g r ≡ r
  differs : r.id ≡ id → same_constant r.constant (h r).constant ≡ false

more-head : (b : Bool) (m n : ℕ) → m ≡ n + 1 → cond b m (1 + m) ≡ cond b n (1 + n) + 1
more-head true m n e = e
more-head false m n e = omega (arith, e)

own-head : (b c : Bool) (m n : ℕ) → b ≡ false → c ≡ true → m ≡ n → cond b m (1 + m) ≡ cond c n (1 + n) + 1
own-head true c m n off on e = cc
own-head false false m n off on e = cc
own-head false true m n off on e = omega (arith, e)

held-later : (id : ℕ) (r : Row) (old : List Row) → r.id ≢ id → Any (λ (s : Row). s.id ≡ id) (r ∷ old) → Any (λ (s : Row). s.id ≡ id) old
held-later id r old ne (zero, x, within, is, e) = absurd (ne (ap (λ (s : Row). s.id) is ∙ e))
held-later id r old ne (suc n, x, within, is, e) = (n, x, omega (arith, within), is, e)

others-later : (id : ℕ) (g h : Row → Row) (rows : List Row) → Each (IsNext id g h) rows → Each (λ (r : Row). id < r.id) rows → Each (λ (r : Row). h r ≡ g r) rows
others-later id g h [] k past = tt
others-later id g h (r ∷ rows) k past = (k.0.other (let lt : id < r.id = past.0 in λ e. absurd (omega (arith, lt, e))), others-later id g h rows k.1 past.1)

next-law : (id : ℕ) (g h : Row → Row) (old : List Row) → Each (IsNext id g h) old → AllPairs (λ (r s : Row). r.id < s.id) old → Any (λ (r : Row). r.id ≡ id) old → changes old (map h old) ≡ changes old (map g old) + 1
next-law id g h [] k rising (n, x, within, is, e) = absurd (omega (arith, within))
next-law id g h (r ∷ old) k rising held = elim (cases_eq r.id id) [
  | inl e ↦ own-head (same_constant r.constant (h r).constant) (same_constant r.constant (g r).constant) (changes old (map h old)) (changes old (map g old)) (k.0.differs e)
      (ap (λ (s : Row). same_constant r.constant s.constant) (k.0.still e) ∙ same-self r.constant)
      (ap (λ (rs : List Row). changes old rs) (mapped-same g h old (others-later id g h old k.1 (subst (λ (n : ℕ). Each (λ (s : Row). n < s.id) old) e
      (recursion_from_All (λ (s : Row). r.id < s.id) old (head_pairs (λ (s t : Row). s.id < t.id) r old rising))))))
  | inr ne ↦ subst (λ (s : Row). changes (r ∷ old) (s ∷ map h old) ≡ changes (r ∷ old) (g r ∷ map g old) + 1) (sym (k.0.other ne))
      (more-head (same_constant r.constant (g r).constant) (changes old (map h old)) (changes old (map g old))
      (next-law id g h old k.1 (tail_pairs (λ (s t : Row). s.id < t.id) r old rising) (held-later id r old ne held)))
]

-- ---- a change in its place

pub next_taken : (to : List Change) (i : ℕ) (t : Change) → i < length to → t ≡ get_or to i t → take i to ++ (t ∷ []) ≡ take (i + 1) to
next_taken to i t within at = ap (λ (s : Change). take i to ++ (s ∷ [])) at ∙ sym (take_more to i t within)

pub record IsSplit (to done : List Change) (t : Change) (rest : List Change) : Type 0 where
  pub is : to ≡ done ++ (t ∷ rest)
  pub earlier : Each (λ (s : Change). s.row < t.row) done
  pub later : Each (λ (s : Change). t.row < s.row) rest

pairs-rest : (R : Change → Change → Type 0) (xs ys : List Change) → AllPairs R (xs ++ ys) → AllPairs R ys
pairs-rest R [] ys h = h
pairs-rest R (x ∷ xs) ys h = pairs-rest R xs ys (tail_pairs R x (xs ++ ys) h)

pub split_at : (to : List Change) (i : ℕ) (t : Change) → AllPairs (λ (a b : Change). a.row < b.row) to → i < length to → t ≡ get_or to i t → IsSplit to (take i to) t (drop (i + 1) to)
split_at to i t rising within at =
    let is : to ≡ take i to ++ (t ∷ drop (i + 1) to) =
    sym (take-append-drop i to) ∙ ap (λ (ts : List Change). take i to ++ ts) (drop_more to i t within ∙ ap (λ (s : Change). s ∷ drop (i + 1) to) (sym at)) in
    let pairs : AllPairs (λ (a b : Change). a.row < b.row) (take i to ++ (t ∷ drop (i + 1) to)) = subst (AllPairs (λ (a b : Change). a.row < b.row)) is rising in record {
      is = is;
      earlier = each-impl (λ (s : Change). Each (λ (u : Change). s.row < u.row) (t ∷ drop (i + 1) to)) (λ (s : Change). s.row < t.row) (take i to) (λ s k. k.0) (pairs-across (λ (a b : Change). a.row < b.row) (take i to) (t ∷ drop (i + 1) to) pairs);
      later = recursion_from_All (λ (s : Change). t.row < s.row) (drop (i + 1) to)
          (head_pairs (λ (a b : Change). a.row < b.row) t (drop (i + 1) to) (pairs-rest (λ (a b : Change). a.row < b.row) (take i to) (t ∷ drop (i + 1) to) pairs));
    }

module _ (to done : List Change) (t : Change) (rest : List Change) (split : IsSplit to done t rest) where
  after-id : (r : Row) → (has_constant t.row t.constant (applied done r)).id ≡ r.id
  after-id r = row_id (nat_eq (applied done r).id t.row) t.constant (applied done r) ∙ applied-id done r

  none-past : (r : Row) → r.id ≤ t.row → Each (λ (s : Change). (has_constant t.row t.constant (applied done r)).id ≢ s.row) rest
  none-past r upto =
      each-impl (λ (s : Change). t.row < s.row) _ rest (λ s lt e. let same = after-id r in absurd (omega (arith, upto, lt, e, same))) split.later

  none-here : (r : Row) → t.row < r.id → Each (λ (s : Change). r.id ≢ s.row) (done ++ (t ∷ []))
  none-here r past =
      each-joined (λ (s : Change). r.id ≢ s.row) done (t ∷ [])
      (each-impl (λ (s : Change). s.row < t.row) _ done (λ s lt e. absurd (omega (arith, past, lt, e))) split.earlier)
      ((λ e. absurd (omega (arith, past, e))), tt)

  first-here : (r : Row) → IsFirst t.row (applied (done ++ (t ∷ []))) (applied (done ++ (t ∷ rest))) r
  first-here r = record {
    upto = λ upto. applied-on done (t ∷ rest) r ∙ applied-other rest (has_constant t.row t.constant (applied done r)) (none-past r upto) ∙ sym (applied-on done (t ∷ []) r);
    past = λ past. applied-other (done ++ (t ∷ [])) r (none-here r past);
    same = applied-same (done ++ (t ∷ [])) r;
  }

  all-shifted : (rows : List Row) → shifted to rows ≡ map (applied (done ++ (t ∷ rest))) rows
  all-shifted rows = ap (λ (ts : List Change). shifted ts rows) split.is ∙ shifted-rows (done ++ (t ∷ rest)) rows

  -- the rows after the first changes are those with the first changed constants of all
  pub first_changes : (rows : List Row) → AllPairs (λ (r s : Row). r.id < s.id) rows
      → first_shifted (changes rows (shifted (done ++ (t ∷ [])) rows)) rows (shifted to rows) ≡ shifted (done ++ (t ∷ [])) rows
  first_changes rows rising =
      ap₂ (λ (first all : List Row). first_shifted (changes rows first) rows all) (shifted-rows (done ++ (t ∷ [])) rows) (all-shifted rows)
      ∙ first-law t.row (applied (done ++ (t ∷ []))) (applied (done ++ (t ∷ rest))) rows (each-of (IsFirst t.row (applied (done ++ (t ∷ []))) (applied (done ++ (t ∷ rest)))) rows first-here) rising
      ∙ sym (shifted-rows (done ++ (t ∷ [])) rows)

  pub changes_less : (rows : List Row) → changes rows (shifted (done ++ (t ∷ [])) rows) ≤ changes rows (shifted to rows)
  changes_less rows =
      subst (λ (first : List Row). changes rows first ≤ changes rows (shifted to rows)) (sym (shifted-rows (done ++ (t ∷ [])) rows))
      (subst (λ (all : List Row). changes rows (map (applied (done ++ (t ∷ []))) rows) ≤ changes rows all) (sym (all-shifted rows))
      (less-law t.row (applied (done ++ (t ∷ []))) (applied (done ++ (t ∷ rest))) rows (each-of (IsFirst t.row (applied (done ++ (t ∷ []))) (applied (done ++ (t ∷ rest)))) rows first-here)))

  still-here : (r : Row) → r.id ≡ t.row → applied done r ≡ r
  still-here r e = applied-other done r (each-impl (λ (s : Change). s.row < t.row) _ done (λ s lt q. absurd (omega (arith, lt, e, q))) split.earlier)

  differs-here : (f : Fraction) (r : Row) → f ≢ t.constant → ((applied done r).id ≡ t.row → (applied done r).constant ≡ f) → r.id ≡ t.row
      → same_constant r.constant (has_constant t.row t.constant (applied done r)).constant ≡ false
  differs-here f r ne own e =
      let here : (applied done r).id ≡ t.row = applied-id done r ∙ e in
      let was : r.constant ≡ f = ap (λ (s : Row). s.constant) (sym (still-here r e)) ∙ own here in
      ap (λ (s : Row). same_constant r.constant s.constant) (shift-on t.row t.constant (applied done r) here) ∙ same_false r.constant t.constant (λ q. ne (sym was ∙ q))

  next-here : (f : Fraction) (r : Row) → f ≢ t.constant → ((applied done r).id ≡ t.row → (applied done r).constant ≡ f) → IsNext t.row (applied done) (λ s. has_constant t.row t.constant (applied done s)) r
  next-here f r ne own = record {
    other = λ n. shift-off t.row t.constant (applied done r) (λ e. n (sym (applied-id done r) ∙ e));
    still = still-here r;
    differs = differs-here f r ne own;
  }

  -- a constant that the row doesn't have is one change more
  pub one_change : (rows : List Row) (f : Fraction) → f ≢ t.constant → AllPairs (λ (r s : Row). r.id < s.id) rows → Any (λ (r : Row). r.id ≡ t.row) (shifted done rows) → Each (λ (r : Row). r.id ≡ t.row → r.constant ≡ f) (shifted done rows)
      → changes rows (map (has_constant t.row t.constant) (shifted done rows)) ≡ changes rows (shifted done rows) + 1
  one_change rows f ne rising held own =
      subst (λ (rs : List Row). changes rows (map (has_constant t.row t.constant) rs) ≡ changes rows rs + 1) (sym (shifted-rows done rows))
      (ap (λ (rs : List Row). changes rows rs) (mapped-twice (applied done) (has_constant t.row t.constant) rows)
      ∙ next-law t.row (applied done) (λ s. has_constant t.row t.constant (applied done s)) rows
      (each-impl (λ (r : Row). (applied done r).id ≡ t.row → (applied done r).constant ≡ f) _ rows (λ r k. next-here f r ne k)
      (each-before (λ (r : Row). r.id ≡ t.row → r.constant ≡ f) (applied done) rows (subst (Each (λ (r : Row). r.id ≡ t.row → r.constant ≡ f)) (shifted-rows done rows) own)))
      rising
      (held-first rows (any-before (λ (r : Row). r.id ≡ t.row) (applied done) rows (subst (Any (λ (r : Row). r.id ≡ t.row)) (shifted-rows done rows) held))))
    where
      held-first : (rs : List Row) → Any (λ (r : Row). (applied done r).id ≡ t.row) rs → Any (λ (r : Row). r.id ≡ t.row) rs
      held-first rs (n, r, within, is, e) = (n, r, within, is, sym (applied-id done r) ∙ e)
