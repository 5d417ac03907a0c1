-- What holds of rows and stays where rows and attributes have gone.
use Rattle.std.proofs.Common.{◌≡◌, ◌≢◌, ◌∙◌, ℕ, zero, suc, ◌+◌, ◌<◌, ◌++◌, Bool, true, false, cond, nat_eq, List, [], ◌∷◌, filter, take, length, get_or, refl, sym, ap, subst, arith, All, AllPairs, Any, Contains, inl, inr, eq-eqb, ne_eqb}
use Rattle.std.specs.List.{AllByRecursion as Each}
use Rattle.std.proofs.lemmas.Bool.{cases_Bool, cases_eq}
use Rattle.std.proofs.lemmas.List.{take_more}
use Rattle.std.proofs.lemmas.List.Elements.{All-filter, All-from_recursion, recursion_from_All}
use Rattle.problem_core.specs.declared.parts.RowName.TheVariants.{Held}
use Rattle.problem_core.specs.declared.parts.Stay.{Stay}
use Rattle.problem_core.specs.declared.parts.Term.{Term}
use Rattle.problem_core.specs.Changes.Begins.{is_one_of}
use Rattle.problem_core.specs.Layout.{Assignment, HasStay, Problem, Row, Satisfies, error, line_of_row}
use Rattle.corner_laws.proofs.Counting.{head_pairs}
use Rattle.corner_lines.specs.Removals.{without_attr, without_row}
use Rattle.layout_solver.specs.Removals.{CanLeave, Leaving, without, without_attrs, without_rows}
use Rattle.layout_solver.proofs.Removals.LeftMarks.{none_of}
use Rattle.frac_core.proofs.Lists.{pairs-rest as tail_pairs}

-- ---- one more

pub rows_last : (ids : List ℕ) (id : ℕ) (p : Problem) → without_rows (ids ++ id ∷ []) p ≡ without_row id (without_rows ids p)
rows_last [] id p = refl
rows_last (i ∷ ids) id p = rows_last ids id (without_row i p)

pub attrs_last : (attrs : List ℕ) (attr : ℕ) (p : Problem) → without_attrs (attrs ++ attr ∷ []) p ≡ without_attr attr (without_attrs attrs p)
attrs_last [] attr p = refl
attrs_last (a ∷ attrs) attr p = attrs_last attrs attr (without_attr a p)

-- ---- what is left

pub rows_all : (P : Row → Type 0) (ids : List ℕ) (p : Problem) → All P p.rows → All P (without_rows ids p).rows
rows_all P [] p h = h
rows_all P (id ∷ ids) p h = rows_all P ids (without_row id p) (All-filter (λ r. cond (nat_eq r.id id) false true) P p.rows h)

pub rows_same : (attrs : List ℕ) (p : Problem) → (without_attrs attrs p).rows ≡ p.rows
rows_same [] p = refl
rows_same (a ∷ attrs) p = rows_same attrs (without_attr a p)

pub stays_same : (ids : List ℕ) (p : Problem) → (without_rows ids p).stays ≡ p.stays
stays_same [] p = refl
stays_same (id ∷ ids) p = stays_same ids (without_row id p)

-- fewer rows are satisfied too
pub satisfied : (l : Leaving) (p : Problem) (x : Assignment) → Satisfies p x → Satisfies (without l p) x
satisfied l p x h =
    subst (All (λ r. r.rank ≡ 1000 → error x (line_of_row r) ≡ 0)) (sym (rows_same l.attrs (without_rows l.rows p)))
    (rows_all (λ r. r.rank ≡ 1000 → error x (line_of_row r) ≡ 0) l.rows p h)

-- ---- a row or a stay that is still held

abbrev kept_by : {X : Type 0} (number : X → ℕ) → ℕ → X → Bool
kept_by number n x = cond (nat_eq (number x) n) false true

still-any : {X : Type 0} (number : X → ℕ) (gone n : ℕ) (xs : List X) → gone ≢ n → Any (λ x. number x ≡ n) xs → Any (λ x. number x ≡ n) (filter (kept_by number gone) xs)
still-any number gone n [] ne (k, x, within, is, e) = absurd (omega (arith, within))
still-any number gone n (y ∷ xs) ne (zero, x, within, is, e) =
    let own : number y ≡ n = ap number is ∙ e in
    let on : filter (kept_by number gone) (y ∷ xs) ≡ y ∷ filter (kept_by number gone) xs =
    ap (λ (b : Bool). cond (cond b false true) (y ∷ filter (kept_by number gone) xs) (filter (kept_by number gone) xs)) (ne_eqb (number y) gone (λ q. ne (sym q ∙ own))) in
    subst (Any (λ x. number x ≡ n)) (sym on) (0, y, omega arith, refl, own)
still-any number gone n (y ∷ xs) ne (suc k, x, within, is, e) =
    let rest = still-any number gone n xs ne (k, x, omega (arith, within), is, e) in
    elim (cases_Bool (nat_eq (number y) gone)) [
      | inl on ↦ subst (Any (λ x. number x ≡ n)) (sym (ap (λ (b : Bool). cond (cond b false true) (y ∷ filter (kept_by number gone) xs) (filter (kept_by number gone) xs)) on)) rest
      | inr off ↦ subst (Any (λ x. number x ≡ n)) (sym (ap (λ (b : Bool). cond (cond b false true) (y ∷ filter (kept_by number gone) xs) (filter (kept_by number gone) xs)) off)) (later rest)
    ]
  where
    later : Any (λ x. number x ≡ n) (filter (kept_by number gone) xs) → Any (λ x. number x ≡ n) (y ∷ filter (kept_by number gone) xs)
    later (j, z, inside, at, q) = (suc j, z, omega (arith, inside), at, q)

pub row_held : (gone : List ℕ) (n : ℕ) (p : Problem) → Each (λ (g : ℕ). g ≢ n) gone → Any (λ r. r.id ≡ n) p.rows → Any (λ r. r.id ≡ n) (without_rows gone p).rows
row_held [] n p far h = h
row_held (g ∷ gone) n p far h = row_held gone n (without_row g p) far.1 (still-any (λ (r : Row). r.id) g n p.rows far.0 h)

pub stay_held : (gone : List ℕ) (n : ℕ) (p : Problem) → Each (λ (g : ℕ). g ≢ n) gone → HasStay p.stays n → HasStay (without_attrs gone p).stays n
stay_held [] n p far h = h
stay_held (g ∷ gone) n p far h = stay_held gone n (without_attr g p) far.1 (still-any (λ (s : Stay). s.attr) g n p.stays far.0 h)

-- those before differ from the next one
pub before_apart : (ids : List ℕ) (i : ℕ) → AllPairs (λ a b. a ≢ b) ids → i < length ids → Each (λ (g : ℕ). g ≢ get_or ids i 0) (take i ids)
before_apart [] i apart within = absurd (omega (arith, within))
before_apart (a ∷ ids) zero apart within = tt
before_apart (a ∷ ids) (suc i) apart within = (
  at-each ids i (recursion_from_All (λ b. a ≢ b) ids (head_pairs (λ (a b : ℕ). a ≢ b) a ids apart)) (omega (arith, within)),
  before_apart ids i (tail_pairs (λ (a b : ℕ). a ≢ b) a ids apart) (omega (arith, within)),
)
  where
    at-each : (xs : List ℕ) (j : ℕ) → Each (λ (b : ℕ). a ≢ b) xs → j < length xs → a ≢ get_or xs j 0
    at-each [] j h less = absurd (omega (arith, less))
    at-each (x ∷ xs) zero h less = h.0
    at-each (x ∷ xs) (suc j) h less = at-each xs j h.1 (omega (arith, less))

pub not_before : (ids : List ℕ) (i : ℕ) → AllPairs (λ a b. a ≢ b) ids → i < length ids → is_one_of (take i ids) (Held (get_or ids i 0)) ≡ false
not_before ids i apart within = none_of (take i ids) (get_or ids i 0) (before_apart ids i apart within)

pub at_place : (P : ℕ → Type 0) (xs : List ℕ) (i : ℕ) → All P xs → i < length xs → P (get_or xs i 0)
at_place P xs i h within = each xs i (recursion_from_All P xs h) within
  where
    each : (ys : List ℕ) (j : ℕ) → Each P ys → j < length ys → P (get_or ys j 0)
    each [] j k less = absurd (omega (arith, less))
    each (y ∷ ys) zero k less = k.0
    each (y ∷ ys) (suc j) k less = each ys j k.1 (omega (arith, less))

-- ---- no row that is left names a leaving attribute

gone-row : (ids : List ℕ) (p : Problem) → All (λ r. Contains ids r.id → ⊥) (without_rows ids p).rows
gone-row [] p = λ i d within c. absurd (let less = c.1 in omega (arith, less))
gone-row (id ∷ ids) p =
    All-from_recursion (λ r. Contains (id ∷ ids) r.id → ⊥) (without_rows ids (without_row id p)).rows
    (both (without_rows ids (without_row id p)).rows
    (recursion_from_All (λ r. r.id ≢ id) (without_rows ids (without_row id p)).rows (rows_all (λ r. r.id ≢ id) ids (without_row id p) (first id p.rows)))
    (recursion_from_All (λ r. Contains ids r.id → ⊥) (without_rows ids (without_row id p)).rows (gone-row ids (without_row id p))))
  where
    both : (rs : List Row) → Each (λ r. r.id ≢ id) rs → Each (λ r. Contains ids r.id → ⊥) rs → Each (λ r. Contains (id ∷ ids) r.id → ⊥) rs
    both [] a b = tt
    both (r ∷ rs) a b = (none r.id a.0 b.0, both rs a.1 b.1)
      where
        none : (n : ℕ) → n ≢ id → (Contains ids n → ⊥) → Contains (id ∷ ids) n → ⊥
        none n ne out (zero, within, is) = ne (sym is)
        none n ne out (suc k, within, is) = out (k, omega (arith, within), is)

    first : (id : ℕ) (rs : List Row) → All (λ r. r.id ≢ id) (filter (λ r. cond (nat_eq r.id id) false true) rs)
    first id rs = All-from_recursion (λ r. r.id ≢ id) (filter (λ r. cond (nat_eq r.id id) false true) rs) (each rs)
      where
        each : (rs : List Row) → Each (λ r. r.id ≢ id) (filter (λ r. cond (nat_eq r.id id) false true) rs)
        each [] = tt
        each (r ∷ rs) = elim (cases_eq r.id id) [
          | inl e ↦ subst (Each (λ r. r.id ≢ id)) (sym (ap (λ (b : Bool). cond (cond b false true) (r ∷ filter (λ r. cond (nat_eq r.id id) false true) rs) (filter (λ r. cond (nat_eq r.id id) false true) rs)) (eq-eqb r.id id e))) (each rs)
          | inr n ↦ subst (Each (λ r. r.id ≢ id)) (sym (ap (λ (b : Bool). cond (cond b false true) (r ∷ filter (λ r. cond (nat_eq r.id id) false true) rs) (filter (λ r. cond (nat_eq r.id id) false true) rs)) (ne_eqb r.id id n))) (n, each rs)
        ]

terms-free : (attrs : List ℕ) (ts : List Term) → (Any (λ t. Contains attrs t.attr) ts → ⊥) → Each (λ (t : Term). Contains attrs t.attr → ⊥) ts
terms-free attrs [] out = tt
terms-free attrs (t ∷ ts) out = ((λ c. out (0, t, omega arith, refl, c)), terms-free attrs ts (λ h. out (suc h.0, h.1, (let less = h.2 in omega (arith, less)), h.3, h.4)))

rows-free : (l : Leaving) (rs : List Row) → Each (λ r. Any (λ t. Contains l.attrs t.attr) r.terms → Contains l.rows r.id) rs → Each (λ r. Contains l.rows r.id → ⊥) rs → Each (λ r. All (λ t. Contains l.attrs t.attr → ⊥) r.terms) rs
rows-free l [] cover gone = tt
rows-free l (r ∷ rs) cover gone = (All-from_recursion (λ t. Contains l.attrs t.attr → ⊥) r.terms (terms-free l.attrs r.terms (λ h. gone.0 (cover.0 h))), rows-free l rs cover.1 gone.1)

pub left_free : (l : Leaving) (p : Problem) → CanLeave l p → All (λ r. All (λ t. Contains l.attrs t.attr → ⊥) r.terms) (without_rows l.rows p).rows
left_free l p can =
    All-from_recursion (λ r. All (λ t. Contains l.attrs t.attr → ⊥) r.terms) (without_rows l.rows p).rows
    (rows-free l (without_rows l.rows p).rows
    (recursion_from_All (λ r. Any (λ t. Contains l.attrs t.attr) r.terms → Contains l.rows r.id) (without_rows l.rows p).rows (rows_all (λ r. Any (λ t. Contains l.attrs t.attr) r.terms → Contains l.rows r.id) l.rows p can.covered))
    (recursion_from_All (λ r. Contains l.rows r.id → ⊥) (without_rows l.rows p).rows (gone-row l.rows p)))

-- ---- one attribute more

pub next_stay : (attrs : List ℕ) (i : ℕ) (p q : Problem) → q ≡ without_attrs (take i attrs) p → AllPairs (λ a b. a ≢ b) attrs → All (HasStay p.stays) attrs → i < length attrs → HasStay q.stays (get_or attrs i 0)
next_stay attrs i p q e apart held within =
    subst (λ (r : Problem). HasStay r.stays (get_or attrs i 0)) (sym e)
    (stay_held (take i attrs) (get_or attrs i 0) p (before_apart attrs i apart within) (at_place (HasStay p.stays) attrs i held within))

pub next_free : (attrs : List ℕ) (i : ℕ) (p q : Problem) → q ≡ without_attrs (take i attrs) p → All (λ r. All (λ t. Contains attrs t.attr → ⊥) r.terms) p.rows → i < length attrs → All (λ r. All (λ t. t.attr ≢ get_or attrs i 0) r.terms) q.rows
next_free attrs i p q e free within =
    subst (λ (r : Problem). All (λ s. All (λ t. t.attr ≢ get_or attrs i 0) s.terms) r.rows) (sym e)
    (subst (All (λ s. All (λ t. t.attr ≢ get_or attrs i 0) s.terms)) (sym (rows_same (take i attrs) p))
    (λ j d less k t inside is. free j d less k t inside (contained attrs i _ within is)))
  where
    contained : (xs : List ℕ) (j n : ℕ) → j < length xs → n ≡ get_or xs j 0 → Contains xs n
    contained [] j n less is = absurd (omega (arith, less))
    contained (x ∷ xs) zero n less is = (0, omega arith, sym is)
    contained (x ∷ xs) (suc j) n less is = let h = contained xs j n (omega (arith, less)) is in (suc h.0, (let more = h.1 in omega (arith, more)), h.2)

pub attrs_next : (attrs : List ℕ) (i : ℕ) (p q r : Problem) → q ≡ without_attrs (take i attrs) p → r ≡ without_attr (get_or attrs i 0) q → i < length attrs → r ≡ without_attrs (take (i + 1) attrs) p
attrs_next attrs i p q r e f within =
    f ∙ ap (without_attr (get_or attrs i 0)) e ∙ sym (attrs_last (take i attrs) (get_or attrs i 0) p) ∙ ap (λ (ns : List ℕ). without_attrs ns p) (sym (take_more attrs i 0 within))
