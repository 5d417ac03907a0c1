-- The rows of what stays are the rows that are left.
use Rattle.std.proofs.Common.{◌≡◌, ◌≢◌, ◌||◌, inl, inr, ℕ, zero, suc, ◌+◌, ◌<◌, Bool, true, false, cond, not, List, [], ◌∷◌, ◌++◌, map, filter, nat_eq, refl, sym, ap, ap₂, ◌∙◌, subst, arith, AllPairs, eq-eqb, ne_eqb}
use Rattle.std.proofs.lemmas.Bool.{cases_eq}
use Rattle.std.proofs.lemmas.List.{map-append}
use Rattle.std.proofs.lemmas.List.Elements.{filter-append, All-from_recursion, recursion_from_All}
use Rattle.std.specs.List.{AllByRecursion as Each}
use Rattle.problem_core.specs.declared.parts.Term.{Term}
use Rattle.problem_core.specs.Layout.{Row}
use Rattle.view_tree.specs.Drops.{is_among}
use Rattle.compile_parts.specs.Meaning.{MetricList}
use Rattle.constraint_compile.specs.Compiled.{RowForm}
use Rattle.held_items.specs.Items.{Item, OfWindow, OfView, Sized, OfLine, Suggested, Intrinsic, AreItemRows, AreRows}
use Rattle.held_items.specs.Leaving.{item_numbers, numbers_of, staying}
use Rattle.held_items.proofs.Lists.{pairs-cons}
use Rattle.held_items.proofs.HeldRows.NextRows.{form_shape, shapes-now}
use Rattle.held_items.proofs.HeldRows.NextRows.{shape}
use Rattle.view_tree.proofs.DropLemmas.{or-assoc}
use Rattle.frac_core.proofs.Lists.{pairs-nil, pairs-rest as pairs-tail}

-- ---- numbers among others

pub symmetric : (a b : ℕ) → nat_eq a b ≡ nat_eq b a
symmetric a b = elim (cases_eq a b) [
  | inl same ↦ eq-eqb a b same ∙ sym (eq-eqb b a (sym same))
  | inr other ↦ ne_eqb a b other ∙ sym (ne_eqb b a (λ e. other (sym e)))
]

or-true : (b c : Bool) → c ≡ true → (b || c) ≡ true
or-true true c h = refl
or-true false c h = h

pub among-append : (xs ys : List ℕ) (m : ℕ) → is_among (xs ++ ys) m ≡ (is_among xs m || is_among ys m)
among-append [] ys m = refl
among-append (x ∷ xs) ys m = ap (λ b. nat_eq x m || b) (among-append xs ys m) ∙ or-assoc (nat_eq x m) (is_among xs m) (is_among ys m)

pub none-among : (xs : List ℕ) (m : ℕ) → Each (λ n. n ≢ m) xs → is_among xs m ≡ false
none-among [] m h = refl
none-among (x ∷ xs) m h = ap (λ b. b || is_among xs m) (ne_eqb x m h.0) ∙ none-among xs m h.1

first-among : (x : ℕ) (xs : List ℕ) → is_among (x ∷ xs) x ≡ true
first-among x xs = ap (λ b. b || is_among xs x) (eq-eqb x x refl)

raised : (x : ℕ) (xs ns : List ℕ) → Each (λ n. is_among xs n ≡ true) ns → Each (λ n. is_among (x ∷ xs) n ≡ true) ns
raised x xs [] h = tt
raised x xs (n ∷ ns) h = (or-true (nat_eq x n) (is_among xs n) h.0, raised x xs ns h.1)

pub all-among : (xs : List ℕ) → Each (λ n. is_among xs n ≡ true) xs
all-among [] = tt
all-among (x ∷ xs) = (first-among x xs, raised x xs xs (all-among xs))

-- ---- facts of each element

module _ {X : Type 0} (P : X → Type 0) where
  pub each-split : (xs ys : List X) → Each P (xs ++ ys) → Each P xs × Each P ys
  each-split [] ys h = (tt, h)
  each-split (x ∷ xs) ys h = (let rest = each-split xs ys h.1 in ((h.0, rest.0), rest.1))

  pub each-join : (xs ys : List X) → Each P xs → Each P ys → Each P (xs ++ ys)
  each-join [] ys h g = g
  each-join (x ∷ xs) ys h g = (h.0, each-join xs ys h.1 g)

module _ {X : Type 0} (P Q : X → Type 0) (to : (x : X) → P x → Q x) where
  pub each-map : (xs : List X) → Each P xs → Each Q xs
  each-map [] h = tt
  each-map (x ∷ xs) h = (to x h.0, each-map xs h.1)

-- each number rises above those before it
abbrev pub Up : List ℕ → Type 0
Up [] = Unit {0}
Up (n ∷ ns) = Each (λ m. n < m) ns × Up ns

pub up-split : (xs ys : List ℕ) → Up (xs ++ ys) → Each (λ x. Each (λ y. x < y) ys) xs × Up ys
up-split [] ys h = (tt, h)
up-split (x ∷ xs) ys h = (let rest = up-split xs ys h.1 in (((each-split (λ m. x < m) xs ys h.0).1, rest.0), rest.1))

up-join : (xs ys : List ℕ) → Up xs → Each (λ x. Each (λ y. x < y) ys) xs → Up ys → Up (xs ++ ys)
up-join [] ys h g k = k
up-join (x ∷ xs) ys h g k = (each-join (λ m. x < m) xs ys h.0 g.0, up-join xs ys h.1 g.1 k)

up-front : (xs ys : List ℕ) → Up (xs ++ ys) → Up xs
up-front [] ys h = tt
up-front (x ∷ xs) ys h = ((each-split (λ m. x < m) xs ys h.0).0, up-front xs ys h.1)

pub up-pairs : (ns : List ℕ) → Up ns → AllPairs (λ a b. a < b) ns
up-pairs [] h = pairs-nil (λ (a b : ℕ). a < b)
up-pairs (n ∷ ns) h = pairs-cons (λ (a b : ℕ). a < b) n ns (All-from_recursion (λ m. n < m) ns h.0) (up-pairs ns h.1)

pub pairs-up : (ns : List ℕ) → AllPairs (λ a b. a < b) ns → Up ns
pairs-up [] h = tt
pairs-up (n ∷ ns) h = (
  recursion_from_All (λ m. n < m) ns (λ k d within. h zero (suc k) d (omega arith) (omega (arith, within))),
  pairs-up ns (pairs-tail (λ (a b : ℕ). a < b) n ns h),
)

-- the second list is above each of the first, seen from the second
heads : (y : ℕ) (ys xs : List ℕ) → Each (λ x. Each (λ z. x < z) (y ∷ ys)) xs → Each (λ x. x < y) xs
heads y ys [] h = tt
heads y ys (x ∷ xs) h = (h.0.0, heads y ys xs h.1)

tails : (y : ℕ) (ys xs : List ℕ) → Each (λ x. Each (λ z. x < z) (y ∷ ys)) xs → Each (λ x. Each (λ z. x < z) ys) xs
tails y ys [] h = tt
tails y ys (x ∷ xs) h = (h.0.1, tails y ys xs h.1)

flipped : (xs ys : List ℕ) → Each (λ x. Each (λ y. x < y) ys) xs → Each (λ y. Each (λ x. x < y) xs) ys
flipped xs [] h = tt
flipped xs (y ∷ ys) h = (heads y ys xs h, flipped xs ys (tails y ys xs h))

lower-apart : (n : ℕ) (xs : List ℕ) → Each (λ x. x < n) xs → Each (λ x. x ≢ n) xs
lower-apart n xs h = each-map (λ x. x < n) (λ x. x ≢ n) (λ x less e. omega (arith, less, e)) xs h

upper-apart : (n : ℕ) (xs : List ℕ) → Each (λ x. n < x) xs → Each (λ x. x ≢ n) xs
upper-apart n xs h = each-map (λ x. n < x) (λ x. x ≢ n) (λ x less e. omega (arith, less, e)) xs h

-- ---- the numbers of all rows

abbrev pub all_numbers : List Item → List ℕ
all_numbers [] = []
all_numbers (item ∷ more) = item_numbers item ++ all_numbers more

row-ids : (rows : List Row) → map (λ s. s.0) (map shape rows) ≡ map (λ r. r.id) rows
row-ids [] = refl
row-ids (r ∷ rows) = ap (λ ns. r.id ∷ ns) (row-ids rows)

form-ids : (forms : List RowForm) → map (λ s. s.0) (map form_shape forms) ≡ map (λ f. f.id) forms
form-ids [] = refl
form-ids (f ∷ forms) = ap (λ ns. f.id ∷ ns) (form-ids forms)

pub item-ids : (ms : MetricList) (item : Item) (rows : List Row) → AreItemRows ms item rows → map (λ r. r.id) rows ≡ item_numbers item
item-ids ms OfWindow rows are = ap (map (λ (r : Row). r.id)) are
item-ids ms (OfView first id) rows are = ap (map (λ (r : Row). r.id)) are
item-ids ms (Sized first width height) rows are = ap (map (λ (r : Row). r.id)) are
item-ids ms (OfLine group line) rows are = sym (row-ids rows) ∙ ap (map (λ (s : ℕ × List Term). s.0)) (shapes-now ms line.rows rows are.long are.each) ∙ form-ids line.rows
item-ids ms (Suggested s) rows are = ap (map (λ (r : Row). r.id)) are
item-ids ms (Intrinsic s) rows are =
    let last : s.first_row + 2 + 1 ≡ s.first_row + 3 = omega arith in
    ap (map (λ (r : Row). r.id)) are ∙ ap (λ (n : ℕ). s.first_row ∷ (s.first_row + 1) ∷ (s.first_row + 2) ∷ n ∷ []) last

pub held-ids : (ms : MetricList) (held : List Item) (rows : List Row) → AreRows ms held rows → map (λ r. r.id) rows ≡ all_numbers held
held-ids ms [] rows are = ap (map (λ (r : Row). r.id)) are
held-ids ms (item ∷ more) rows (front, back, is, first, rest) =
    ap (map (λ (r : Row). r.id)) is ∙ map-append (λ (r : Row). r.id) front back
    ∙ ap₂ (λ (xs ys : List ℕ). xs ++ ys) (item-ids ms item front first) (held-ids ms more back rest)

-- ---- which of them go

module _ (goes : Item → Bool) where
  -- what holds of all numbers holds of those that go
  pub each-going : (P : ℕ → Type 0) (held : List Item) → Each P (all_numbers held) → Each P (numbers_of goes held)
  each-going P [] h = tt
  each-going P (item ∷ more) h = by (goes item) (each-going P more (each-split P (item_numbers item) (all_numbers more) h).1)
    where
      by : (b : Bool) → Each P (numbers_of goes more) → Each P (cond b (item_numbers item) [] ++ numbers_of goes more)
      by true rest = each-join P (item_numbers item) (numbers_of goes more) (each-split P (item_numbers item) (all_numbers more) h).0 rest
      by false rest = rest

  above-going : (xs : List ℕ) (more : List Item) → Each (λ x. Each (λ y. x < y) (all_numbers more)) xs → Each (λ x. Each (λ y. x < y) (numbers_of goes more)) xs
  above-going xs more h = each-map (λ x. Each (λ y. x < y) (all_numbers more)) (λ x. Each (λ y. x < y) (numbers_of goes more)) (λ x g. each-going (λ y. x < y) more g) xs h

  pub up-going : (held : List Item) → Up (all_numbers held) → Up (numbers_of goes held)
  up-going [] h = tt
  up-going (item ∷ more) h = by (goes item) (up-going more (up-split (item_numbers item) (all_numbers more) h).1)
    where
      by : (b : Bool) → Up (numbers_of goes more) → Up (cond b (item_numbers item) [] ++ numbers_of goes more)
      by true rest = up-join (item_numbers item) (numbers_of goes more) (up-front (item_numbers item) (all_numbers more) h)
          (above-going (item_numbers item) more (up-split (item_numbers item) (all_numbers more) h).0) rest
      by false rest = rest

  -- of each item the numbers go where it goes
  abbrev pub Agree : List ℕ → List Item → Type 0
  Agree ns [] = Unit {0}
  Agree ns (item ∷ more) = Each (λ n. is_among ns n ≡ goes item) (item_numbers item) × Agree ns more

  own : (b : Bool) (nums rest ns : List ℕ) → Each (λ n. is_among nums n ≡ true) ns → Each (λ n. Each (λ y. n < y) rest) ns → Each (λ n. is_among (cond b nums [] ++ rest) n ≡ b) ns
  own b nums rest [] h g = tt
  own true nums rest (n ∷ ns) h g = (among-append nums rest n ∙ ap (λ c. c || is_among rest n) h.0, own true nums rest ns h.1 g.1)
  own false nums rest (n ∷ ns) h g = (none-among rest n (upper-apart n rest g.0), own false nums rest ns h.1 g.1)

  behind : (front rest : List ℕ) (b : Bool) (ns : List ℕ) → Each (λ n. Each (λ x. x < n) front) ns → Each (λ n. is_among rest n ≡ b) ns → Each (λ n. is_among (front ++ rest) n ≡ b) ns
  behind front rest b [] h g = tt
  behind front rest b (n ∷ ns) h g =
      (among-append front rest n ∙ ap (λ c. c || is_among rest n) (none-among front n (lower-apart n front h.0)) ∙ g.0, behind front rest b ns h.1 g.1)

  behind-all : (front rest : List ℕ) (more : List Item) → Each (λ n. Each (λ x. x < n) front) (all_numbers more) → Agree rest more → Agree (front ++ rest) more
  behind-all front rest [] h g = tt
  behind-all front rest (item ∷ more) h g =
      let parts = each-split (λ n. Each (λ x. x < n) front) (item_numbers item) (all_numbers more) h in
      (behind front rest (goes item) (item_numbers item) parts.0 g.0, behind-all front rest more parts.1 g.1)

  chosen : (b : Bool) (nums : List ℕ) (ns : List ℕ) → Each (λ n. Each (λ x. x < n) nums) ns → Each (λ n. Each (λ x. x < n) (cond b nums [])) ns
  chosen true nums ns h = h
  chosen false nums [] h = tt
  chosen false nums (n ∷ ns) h = (tt, chosen false nums ns h.1)

  pub agree : (held : List Item) → Up (all_numbers held) → Agree (numbers_of goes held) held
  agree [] h = tt
  agree (item ∷ more) h =
      let parts = up-split (item_numbers item) (all_numbers more) h in (
        own (goes item) (item_numbers item) (numbers_of goes more) (item_numbers item) (all-among (item_numbers item)) (above-going (item_numbers item) more parts.0),
        behind-all (cond (goes item) (item_numbers item) []) (numbers_of goes more) more
            (chosen (goes item) (item_numbers item) (all_numbers more) (flipped (item_numbers item) (all_numbers more) parts.0)) (agree more parts.1),
      )

-- ---- the rows that are left

-- the row has none of these numbers
abbrev pub keeps : List ℕ → Row → Bool
keeps ns r = not (is_among ns r.id)

all-go : (ns : List ℕ) (rows : List Row) → Each (λ n. is_among ns n ≡ true) (map (λ r. r.id) rows) → filter (keeps ns) rows ≡ []
all-go ns [] h = refl
all-go ns (r ∷ rows) h = ap (λ b. cond (not b) (r ∷ filter (keeps ns) rows) (filter (keeps ns) rows)) h.0 ∙ all-go ns rows h.1

pub none-go : (ns : List ℕ) (rows : List Row) → Each (λ n. is_among ns n ≡ false) (map (λ r. r.id) rows) → filter (keeps ns) rows ≡ rows
none-go ns [] h = refl
none-go ns (r ∷ rows) h = ap (λ b. cond (not b) (r ∷ filter (keeps ns) rows) (filter (keeps ns) rows)) h.0 ∙ ap (λ rs. r ∷ rs) (none-go ns rows h.1)

module _ (goes : Item → Bool) (ms : MetricList) (ns : List ℕ) where
  pub rows-stay : (held : List Item) (rows : List Row) → AreRows ms held rows → Agree goes ns held → AreRows ms (staying goes held) (filter (keeps ns) rows)
  rows-stay [] rows are agrees = ap (filter (keeps ns)) are
  rows-stay (item ∷ more) rows (front, back, is, first, rest) agrees = by (goes item) refl (rows-stay more back rest agrees.1)
    where
      ids : Each (λ n. is_among ns n ≡ goes item) (map (λ r. r.id) front)
      ids = subst (Each (λ n. is_among ns n ≡ goes item)) (sym (item-ids ms item front first)) agrees.0

      split : filter (keeps ns) rows ≡ filter (keeps ns) front ++ filter (keeps ns) back
      split = ap (filter (keeps ns)) is ∙ filter-append (keeps ns) front back

      by : (b : Bool) → goes item ≡ b → AreRows ms (staying goes more) (filter (keeps ns) back) → AreRows ms (cond (not (goes item)) (item ∷ staying goes more) (staying goes more)) (filter (keeps ns) rows)
      by true e stay =
          let gone : filter (keeps ns) rows ≡ filter (keeps ns) back =
          split ∙ ap (λ rs. rs ++ filter (keeps ns) back) (all-go ns front (subst (λ b. Each (λ n. is_among ns n ≡ b) (map (λ r. r.id) front)) e ids)) in
          subst (λ b. AreRows ms (cond (not b) (item ∷ staying goes more) (staying goes more)) (filter (keeps ns) rows)) (sym e)
          (subst (AreRows ms (staying goes more)) (sym gone) stay)
      by false e stay =
          let held : filter (keeps ns) rows ≡ front ++ filter (keeps ns) back =
          split ∙ ap (λ rs. rs ++ filter (keeps ns) back) (none-go ns front (subst (λ b. Each (λ n. is_among ns n ≡ b) (map (λ r. r.id) front)) e ids)) in
          subst (λ b. AreRows ms (cond (not b) (item ∷ staying goes more) (staying goes more)) (filter (keeps ns) rows)) (sym e)
          (front, filter (keeps ns) back, held, first, stay)
