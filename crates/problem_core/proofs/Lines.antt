-- Lines of rows and of stays: those that stand behind the rows, their names and their weights.
use Rattle.std.proofs.Common.{Any, List, [], ap, ap₂, arith, cond, eq-eqb, get_or, inl, inr, length, length-append, map, ne_eqb, pos, refl, suc, sym, zero, ℕ, ℤ, ◌*ℤ◌, ◌++◌, ◌+ℤ◌, ◌+◌, ◌<◌, ◌∙◌, ◌∷◌, ◌≡◌, ◌≢◌, ◌⊎◌}
use Rattle.std.proofs.lemmas.Bool.{cases_eq}
use Rattle.std.specs.List.{AllByRecursion as Each}
use Rattle.frac_core.proofs.Integers.{mul-zero_ℤ, zero-mul_ℤ}
use Rattle.frac_core.proofs.Lists.{all-front, pairs-front}
use Rattle.problem_core.proofs.RowNames.{held-not-stay, held-same, stay-not-held, stay-same}
use Rattle.problem_core.specs.Certificates.{over_weight, under_weight, weight_at}
use Rattle.problem_core.specs.Corners.{place_of}
use Rattle.problem_core.specs.Kept.{IsRow, IsWhole}
use Rattle.problem_core.specs.Layout.{IsCovered, Line, Row, line_of_row, stay_lines, sum_of}
use Rattle.problem_core.specs.Levels.{line_cost}
use Rattle.problem_core.specs.declared.parts.Side.TheVariants.{Over, Under}
use Rattle.problem_core.specs.declared.parts.Rel.{Rel}
use Rattle.problem_core.specs.declared.parts.Rel.TheVariants.{Eq, Ge, Le}
use Rattle.problem_core.specs.declared.parts.RowName.{RowName}
use Rattle.problem_core.specs.declared.parts.RowName.TheVariants.{Held, Stay as StayOf}
use Rattle.problem_core.specs.declared.parts.Stay.{Stay}

pub under-none : (rel : Rel) → under_weight rel 0 ≡ 0
under-none Eq = refl
under-none Ge = refl
under-none Le = refl

pub over-none : (rel : Rel) → over_weight rel 0 ≡ 0
over-none Eq = refl
over-none Ge = refl
over-none Le = refl

pub each-less : (P : Line → Type 0) (rows rest : List Row) (ls : List Line) → Each P (map line_of_row (rows ++ rest) ++ ls) → Each P (map line_of_row rows ++ ls)
each-less P [] [] ls h = h
each-less P [] (r ∷ rest) ls h = each-less P [] rest ls h.1
each-less P (s ∷ rows) rest ls h = (h.0, each-less P rows rest ls h.1)

pub weight-none : (l : Line) (level : ℕ) → l.level ≢ level → weight_at l level ≡ 0
weight-none l level n = ap (λ b. cond b l.weight 0) (ne_eqb l.level level n)

pub stays-far : (id level : ℕ) (stays : List Stay) → Each (λ l. l.name ≢ Held id) (stay_lines level stays)
stays-far id level [] = tt
stays-far id level (s ∷ stays) = (stay-not-held s.attr id, stays-far id (level + 1) stays)

pub row-between : (P : Row → Type 0) (xs ys : List Row) (r : Row) → Each P (xs ++ (r ∷ ys)) → P r
row-between P [] ys r h = h.0
row-between P (x ∷ xs) ys r h = row-between P xs ys r h.1

pub own-weight : (l : Line) (level : ℕ) → l.level ≡ level → weight_at l level ≡ l.weight
own-weight l level e = ap (λ b. cond b l.weight 0) (eq-eqb l.level level e)

pub rows-change : (P Q : Line → Type 0) (rows : List Row) (ls ms : List Line) → ((r : Row) → P (line_of_row r) → Q (line_of_row r)) → (Each P ls → Each Q ms) → Each P (map line_of_row rows ++ ls) → Each Q (map line_of_row rows ++ ms)
rows-change P Q [] ls ms f g h = g h
rows-change P Q (r ∷ rows) ls ms f g h = (f r h.0, rows-change P Q rows ls ms f g h.1)

pub later-line : (P : Line → Type 0) (rows : List Row) (ls : List Line) → Any P ls → Any P (map line_of_row rows ++ ls)
later-line P [] ls h = h
later-line P (r ∷ rows) ls h =
    let t = later-line P rows ls h in
    (suc t.0, t.1, (let less = t.2 in omega (arith, less)), t.3, t.4)

pub past-rows : (name : RowName) (rows : List Row) (rest : List Line) → Any (λ l. l.name ≡ name) rest → Any (λ l. l.name ≡ name) (map line_of_row rows ++ rest)
past-rows name [] rest h = h
past-rows name (r ∷ rows) rest h = let i = past-rows name rows rest h in (suc i.0, i.1, omega (arith, i.2), i.3, i.4)

pub stay-line : (k : ℕ) (stays : List Stay) (i : ℕ) (x : Stay) → i < length stays → get_or stays i x ≡ x → Any (λ l. l.name ≡ StayOf x.attr) (stay_lines k stays)
stay-line k [] i x within is = absurd (omega (arith, within))
stay-line k (s ∷ stays) zero x within is = (0, _, omega arith, refl, ap (λ (t : Stay). StayOf t.attr) is)
stay-line k (s ∷ stays) (suc i) x within is =
    let t = stay-line (k + 1) stays i x (omega (arith, within)) is in
    (suc t.0, t.1, (let less = t.2 in omega (arith, less)), t.3, t.4)

pub length-stays : (base : ℕ) (stays : List Stay) → length (stay_lines base stays) ≡ length stays
length-stays base [] = refl
length-stays base (s ∷ stays) = ap suc (length-stays (base + 1) stays)

pub free-cost : (q level : ℕ) (x : ℕ → ℤ) (l : Line) → weight_at l level ≡ 0 → pos q *ℤ line_cost level x l ≡ pos 0
free-cost q level x l e =
    let u : under_weight l.rel (weight_at l level) ≡ 0 = ap (under_weight l.rel) e ∙ under-none l.rel in
    let o : over_weight l.rel (weight_at l level) ≡ 0 = ap (over_weight l.rel) e ∙ over-none l.rel in
    ap (λ (z : ℤ). pos q *ℤ z)
    (ap₂ ◌+ℤ◌ (ap (λ (w : ℕ). pos w *ℤ x (place_of l.name Under)) u ∙ zero-mul_ℤ (x (place_of l.name Under))) (ap (λ (w : ℕ). pos w *ℤ x (place_of l.name Over)) o ∙ zero-mul_ℤ (x (place_of l.name Over))))
    ∙ mul-zero_ℤ (pos q)

total : List ℤ → ℤ
total [] = pos 0
total (z ∷ zs) = z +ℤ total zs

sum-total : (f : Line → ℤ) (ls : List Line) → total (map f ls) ≡ sum_of f ls
unfolding total
sum-total f [] = refl
sum-total f (l ∷ ls) = ap (λ (z : ℤ). f l +ℤ z) (sum-total f ls)

-- a sum over lines is that over other lines with the same numbers
pub sum-seen : (f : Line → ℤ) (ls ms : List Line) → map f ls ≡ map f ms → sum_of f ls ≡ sum_of f ms
sum-seen f ls ms e = sym (sum-total f ls) ∙ ap total e ∙ sum-total f ms

-- the first rows of a whole problem, with all its stays
pub whole-front : (xs ys : List Row) (stays : List Stay) → IsWhole (record { rows = xs ++ ys; stays = stays }) → IsWhole (record { rows = xs; stays = stays })
whole-front xs ys stays h = record {
  rows = all-front IsRow xs ys h.rows;
  stays = h.stays;
  rising = pairs-front (λ (r s : Row). r.id < s.id) xs ys h.rising;
  apart = h.apart;
  covered = all-front (IsCovered stays) xs ys h.covered;
  row_count = omega (arith, h.row_count, length-append xs ys);
  stay_count = h.stay_count;
}

pub name-cases : (a b : RowName) → (a ≡ b) ⊎ (a ≢ b)
name-cases (Held a) (Held b) = elim (cases_eq a b) [ inl e ↦ inl (ap Held e) | inr n ↦ inr (λ e. n (held-same a b e)) ]
name-cases (Held a) (StayOf b) = inr (held-not-stay a b)
name-cases (StayOf a) (Held b) = inr (stay-not-held a b)
name-cases (StayOf a) (StayOf b) = elim (cases_eq a b) [ inl e ↦ inl (ap StayOf e) | inr n ↦ inr (λ e. n (stay-same a b e)) ]
