-- The rows of trials: of fewer numbers there are fewer rows.
use Rattle.std.proofs.Common.{◌≡◌, ℕ, Bool, true, false, cond, nat_eq, List, [], ◌∷◌, map, filter, refl, sym, true≢false, eq-eqb}
use Rattle.std.specs.List.{AllByRecursion as Each}
use Rattle.std.proofs.lemmas.Bool.{and_from, and_parts}
use Rattle.std.proofs.lemmas.List.Elements.{recursion_from_All, All-filter, All-from_recursion}
use Rattle.problem_core.specs.declared.limits.TheConstants.{REQUIRED}
use Rattle.problem_core.specs.Layout.{Assignment, Problem, Row, Satisfies, error, line_of_row}
use Rattle.problem_core.specs.Certificates.{required}
use Rattle.conflict_core.specs.Cores.{is_among, is_tried, trial}
use Rattle.conflict_core.proofs.Among.{IsPart, among-head, among-later}

step : (P : Row → Type 0) (f g : Bool) (r : Row) (fs gs : List Row) → (f ≡ true → g ≡ true) → (Each P gs → Each P fs) → Each P (cond g (r ∷ gs) gs) → Each P (cond f (r ∷ fs) fs)
step P true true r fs gs imp rest h = (h.0, rest h.1)
step P true false r fs gs imp rest h = absurd (true≢false (sym (imp refl)))
step P false true r fs gs imp rest h = rest h.1
step P false false r fs gs imp rest h = rest h

-- what holds of all that pass one test holds of all that pass a stricter one
pub fewer : (P : Row → Type 0) (f g : Row → Bool) → ((r : Row) → f r ≡ true → g r ≡ true) → (rows : List Row) → Each P (filter g rows) → Each P (filter f rows)
fewer P f g imp [] h = tt
fewer P f g imp (r ∷ rows) h = step P (f r) (g r) r (filter f rows) (filter g rows) (imp r) (fewer P f g imp rows) h

-- a row of fewer numbers is one of more
pub tried-more : (xs ys : List ℕ) → IsPart xs ys → (r : Row) → is_tried xs r ≡ true → is_tried ys r ≡ true
tried-more xs ys part r h =
    let both = and_parts (nat_eq r.rank REQUIRED) (is_among xs r.id) h in
    and_from (nat_eq r.rank REQUIRED) (is_among ys r.id) both.0 (part r.id both.1)

-- the row has no error where it is required
abbrev pub IsMet : Assignment → Row → Type 0
IsMet x r = r.rank ≡ REQUIRED → error x (line_of_row r) ≡ 0

-- what satisfies more rows satisfies fewer
pub part_satisfied : (p : Problem) (xs ys : List ℕ) (x : Assignment) → IsPart xs ys → Satisfies (trial p ys) x → Satisfies (trial p xs) x
part_satisfied p xs ys x part sat =
    All-from_recursion (IsMet x) (filter (is_tried xs) p.rows)
    (fewer (IsMet x) (is_tried xs) (is_tried ys) (tried-more xs ys part) p.rows (recursion_from_All (IsMet x) (filter (is_tried ys) p.rows) sat))

-- what satisfies the problem satisfies its trials
pub trial_satisfied : (p : Problem) (ids : List ℕ) (x : Assignment) → Satisfies p x → Satisfies (trial p ids) x
trial_satisfied p ids x sat = All-filter (is_tried ids) (IsMet x) p.rows sat

-- ---- the trial of all required rows

abbrev pub is_required : Row → Bool
is_required r = nat_eq r.rank REQUIRED

named-step : (b : Bool) (r : Row) (rows : List Row) (all : List ℕ) → ((n : ℕ) → is_among (map (λ r. r.id) (cond b (r ∷ rows) rows)) n ≡ true → is_among all n ≡ true)
    → (b ≡ true → is_among all r.id ≡ true) × ((n : ℕ) → is_among (map (λ r. r.id) rows) n ≡ true → is_among all n ≡ true)
named-step true r rows all h = (λ e. h r.id (among-head r.id (map (λ r. r.id) rows)), λ n a. h n (among-later r.id n (map (λ r. r.id) rows) a))
named-step false r rows all h = (λ e. absurd (true≢false (sym e)), h)

pub all-named : (rows : List Row) (all : List ℕ) → ((n : ℕ) → is_among (map (λ r. r.id) (filter is_required rows)) n ≡ true → is_among all n ≡ true)
    → Each (λ r. is_required r ≡ true → is_among all r.id ≡ true) rows
all-named [] all h = tt
all-named (r ∷ rows) all h =
    let s = named-step (is_required r) r (filter is_required rows) all h in (s.0, all-named rows all s.1)

kept-step : (P : Row → Type 0) (b : Bool) (r : Row) (rows : List Row) → Each P (cond b (r ∷ rows) rows) → (b ≡ true → P r) × Each P rows
kept-step P true r rows h = (λ e. h.0, h.1)
kept-step P false r rows h = (λ e. absurd (true≢false (sym e)), h)

-- what holds of the rows of the trial holds of all required rows
required-met : (x : Assignment) (ids : List ℕ) (rows : List Row) → Each (λ r. is_required r ≡ true → is_among ids r.id ≡ true) rows → Each (IsMet x) (filter (is_tried ids) rows) → Each (IsMet x) rows
required-met x ids [] among h = tt
required-met x ids (r ∷ rows) among h =
    let s = kept-step (IsMet x) (is_tried ids r) r (filter (is_tried ids) rows) h in (
      λ e. s.0 (and_from (is_required r) (is_among ids r.id) (eq-eqb r.rank REQUIRED e) (among.0 (eq-eqb r.rank REQUIRED e))) e,
      required-met x ids rows among.1 s.1,
    )

pub all_satisfied : (p : Problem) (ids : List ℕ) (x : Assignment) → ids ≡ map (λ r. r.id) (required p) → Satisfies (trial p ids) x → Satisfies p x
all_satisfied p ids x is sat =
    All-from_recursion (IsMet x) p.rows
    (required-met x ids p.rows
    (all-named p.rows ids (λ n h. rw is h))
    (recursion_from_All (IsMet x) (filter (is_tried ids) p.rows) sat))
