-- A sum of terms that does not fit before later rows join does not fit where they have joined.
use Rattle.std.proofs.Common.{◌≡◌, ◌≢◌, ℕ, zero, suc, ◌+◌, ◌<◌, ◌≤◌, Bool, true, false, cond, nat_lt, List, [], ◌∷◌, ◌++◌, length, map, take, ℤ, pos, ◌+ℤ◌, ◌*ℤ◌, refl, sym, ap, ap₂, subst, arith, inr, All, AllPairs, append_assoc}
use Rattle.std.specs.List.{Any, AllByRecursion as Each}
use Rattle.std.proofs.lemmas.List.{append-nil}
use Rattle.std.proofs.lemmas.List.Elements.{All-from_recursion, recursion_from_All}
use borrow.Author.Differences.{ints}
use Rattle.problem_core.specs.declared.parts.Mark.{Mark}
use Rattle.problem_core.specs.declared.parts.Stay.{Stay}
use Rattle.problem_core.specs.declared.parts.Term.{Term}
use Rattle.problem_core.specs.declared.parts.RowName.TheVariants.{Held}
use Rattle.problem_core.specs.declared.parts.Side.TheVariants.{Under, Over}
use Rattle.problem_core.specs.Layout.{Line, Problem, Row, coefficient, line_of_row, lines, stay_lines, sum_of, value_at}
use Rattle.problem_core.specs.Kept.{IsRow, IsWhole}
use Rattle.problem_core.specs.Corners.{IsCorner, IsIn, Point, Solves, attr_column, equation, place, place_of}
use Rattle.problem_core.proofs.Forms.{each-impl, each-both}
use Rattle.problem_core.specs.Unfit.{AreOverFrom, HasNoWriting, IsUnfitTerms, first_terms, over_mark}
use Rattle.corner_laws.specs.Lifts.{HasOneIn, with_rows}
use Rattle.corner_laws.proofs.Counting.{IsSmall, head_pairs, sides_apart}
use Rattle.corner_laws.proofs.MarkWritings.Lifts.{IsFormWithout, IsNewRow, fewer_rows}
use Rattle.corner_laws.proofs.WrittenValues.{contains_each}
use Rattle.frac_core.proofs.Lists.{each-right as each-second, pairs-rest as tail_pairs, each-joined}
use Rattle.frac_core.proofs.Bools.{count-other as cond_other}
use Rattle.problem_core.proofs.Lines.{each-less as each_less}

-- ---- lists

each-there : {X : Type 0} (P : X → Type 0) (xs : List X) (y : X) (ys : List X) → Each P (xs ++ (y ∷ ys)) → P y
each-there P [] y ys h = h.0
each-there P (x ∷ xs) y ys h = each-there P xs y ys h.1

-- each of the first list stands so to each of the second
pub pairs-across : {X : Type 0} (R : X → X → Type 0) (xs ys : List X) → AllPairs R (xs ++ ys) → Each (λ x. Each (R x) ys) xs
pairs-across R [] ys h = tt
pairs-across R (x ∷ xs) ys h = (each-second (R x) xs ys (recursion_from_All (R x) (xs ++ ys) (head_pairs R x (xs ++ ys) h)), pairs-across R xs ys (tail_pairs R x (xs ++ ys) h))

any-grow : {X : Type 0} (P Q : X → Type 0) (xs ys : List X) → Each (λ x. P x → Q x) xs → Any P xs → Any Q (xs ++ ys)
any-grow P Q [] ys e (k, y, within, is, h) = absurd (omega (arith, within))
any-grow P Q (x ∷ xs) ys e (zero, y, within, is, h) = (0, y, omega arith, is, subst (λ z. P z → Q z) is e.0 h)
any-grow P Q (x ∷ xs) ys e (suc k, y, within, is, h) = let r = any-grow P Q xs ys e.1 (k, y, omega (arith, within), is, h) in (suc r.0, r.1, omega (arith, r.2), r.3, r.4)

-- ---- the rows that join are new

-- each of them, where those before it have joined
abbrev pub AreNewRows : Problem → List Row → Type 0
AreNewRows p [] = Unit {0}
AreNewRows p (r ∷ rest) = IsNewRow p r × AreNewRows (with_rows (r ∷ []) p) rest

fresh-stays : (id level : ℕ) (stays : List Stay) → Each (λ l. place_of l.name Over ≢ place_of (Held id) Over) (stay_lines level stays)
fresh-stays id level [] = tt
fresh-stays id level (s ∷ stays) = (λ e. omega (arith, e), fresh-stays id (level + 1) stays)

fresh-rows : (id : ℕ) (rows : List Row) (ls : List Line) → Each (λ (s : Row). s.id < id) rows → Each (λ l. place_of l.name Over ≢ place_of (Held id) Over) ls → Each (λ l. place_of l.name Over ≢ place_of (Held id) Over) (map line_of_row rows ++ ls)
fresh-rows id [] ls h k = k
fresh-rows id (s ∷ rows) ls h k = ((let less = h.0 in λ e. omega (arith, e, less)), fresh-rows id rows ls h.1 k)

pub first-new : (p : Problem) (r : Row) (rest : List Row) → IsWhole (with_rows (r ∷ rest) p) → IsNewRow p r
first-new p r rest whole =
    let own : IsRow r = each-there IsRow p.rows r rest (recursion_from_All IsRow (p.rows ++ (r ∷ rest)) whole.rows) in
    record {
      small = omega (arith, own.number.1);
      den_positive = own.constant.lowest.above;
      fresh = fresh-rows r.id p.rows (stay_lines 1001 p.stays)
          (each-impl (λ s. Each (λ (t : Row). s.id < t.id) (r ∷ rest)) (λ s. s.id < r.id) p.rows (λ s h. h.0) (pairs-across (λ (s t : Row). s.id < t.id) p.rows (r ∷ rest) whole.rising))
          (fresh-stays r.id 1001 p.stays);
    }

-- the same problem, built row by row
pub regrouped : (P : Problem → Type 0) (p : Problem) (r : Row) (rest : List Row) → P (with_rows (r ∷ rest) p) → P (with_rows rest (with_rows (r ∷ []) p))
regrouped P p r rest h = subst (λ (rows : List Row). P (record { rows = rows; stays = p.stays })) (sym (append_assoc p.rows (r ∷ []) rest)) h

pub back : (P : Problem → Type 0) (p : Problem) (r : Row) (rest : List Row) → P (with_rows rest (with_rows (r ∷ []) p)) → P (with_rows (r ∷ rest) p)
back P p r rest h = subst (λ (rows : List Row). P (record { rows = rows; stays = p.stays })) (append_assoc p.rows (r ∷ []) rest) h

pub no_rows : (P : Problem → Type 0) (p : Problem) → P p → P (with_rows [] p)
no_rows P p h = subst (λ (rows : List Row). P (record { rows = rows; stays = p.stays })) (sym (append-nil p.rows)) h

new-rows : (p : Problem) (rest : List Row) → IsWhole (with_rows rest p) → AreNewRows p rest
new-rows p [] whole = tt
new-rows p (r ∷ rest) whole = (first-new p r rest whole, new-rows (with_rows (r ∷ []) p) rest (regrouped IsWhole p r rest whole))

-- ---- a quantity that does not speak of the later rows' marks

pub no_writing_lifts : (p : Problem) (rest : List Row) (at : List Mark) (quantity : (ℕ → ℤ) → ℤ) (own : List Term) (x : Point) → AreNewRows p rest → Solves (with_rows rest p) x → Each (IsFormWithout quantity own) rest → Each (HasOneIn at) rest → HasNoWriting p at quantity → HasNoWriting (with_rows rest p) at quantity
no_writing_lifts p [] at quantity own x new solves of one none = no_rows (λ q. HasNoWriting q at quantity) p none
no_writing_lifts p (r ∷ rest) at quantity own x new solves of one none =
    let all : Solves (with_rows rest (with_rows (r ∷ []) p)) x = regrouped (λ q. Solves q x) p r rest solves in
    let first : Solves (with_rows (r ∷ []) p) x =
    All-from_recursion (λ l. value_at x.num (equation l) ≡ pos 0) (lines (with_rows (r ∷ []) p))
    (each_less (λ l. value_at x.num (equation l) ≡ pos 0) (p.rows ++ (r ∷ [])) rest (stay_lines 1001 p.stays) (recursion_from_All _ (lines (with_rows rest (with_rows (r ∷ []) p))) all)) in
    let here : HasNoWriting (with_rows (r ∷ []) p) at quantity = λ scale form value w fits each kept.
    none scale form value (fewer_rows p at quantity own form scale value.num value.den r x new.0 first of.0 one.0 w) fits each kept in
    back (λ q. HasNoWriting q at quantity) p r rest (no_writing_lifts (with_rows (r ∷ []) p) rest at quantity own x new.1 all of.1 one.1 here)

-- more marks inside leave fewer writings
wider : (p : Problem) (at joined : List Mark) (quantity : (ℕ → ℤ) → ℤ) → ((c : ℕ) → IsIn c at → IsIn c joined) → HasNoWriting p at quantity → HasNoWriting p joined quantity
wider p at joined quantity more none scale form value w fits each kept =
    none scale form value
    (record {
      scale_positive = w.scale_positive;
      den_positive = w.den_positive;
      outside = λ v some. let o = w.outside v some in (o.0, λ i. o.1 (more v i));
      holds = w.holds;
      lowest = w.lowest;
    }) fits each kept

-- ---- the first terms of a row

abbrev column_terms : List Term → List Term
column_terms ts = map (λ (t : Term). record { attr = attr_column t.attr; by = t.by }) ts

abbrev own_terms : Row → ℕ → List Term
own_terms r j = cond (nat_lt (length r.terms) j) (record { attr = place (over_mark r.id); by = pos 1 } ∷ []) (column_terms (take j r.terms))

column_sum : (x : ℕ → ℤ) (ts : List Term) → sum_of (λ t. t.by *ℤ x (attr_column t.attr)) ts ≡ value_at x (column_terms ts)
column_sum x [] = refl
column_sum x (t ∷ ts) = ap (λ (z : ℤ). t.by *ℤ x (attr_column t.attr) +ℤ z) (column_sum x ts)

one-value : (z : ℤ) → z ≡ pos 1 *ℤ z +ℤ pos 0
one-value z = omega (arith, ints)

either-terms : (b : Bool) (x : ℕ → ℤ) (c : ℕ) (ts : List Term) → cond b (x c) (sum_of (λ t. t.by *ℤ x (attr_column t.attr)) ts) ≡ value_at x (cond b (record { attr = c; by = pos 1 } ∷ []) (column_terms ts))
either-terms true x c ts = one-value (x c)
either-terms false x c ts = column_sum x ts

no-column : (c : ℕ) (ts : List Term) → c < attr_column 0 → coefficient c (column_terms ts) ≡ pos 0
no-column c [] h = refl
no-column c (t ∷ ts) h = ap₂ ◌+ℤ◌ (cond_other (attr_column t.attr) c t.by (λ e. omega (arith, h, e))) (no-column c ts h)

either-none : (b : Bool) (c d : ℕ) (ts : List Term) → d < attr_column 0 → c ≢ d → coefficient d (cond b (record { attr = c; by = pos 1 } ∷ []) (column_terms ts)) ≡ pos 0
either-none true c d ts h ne = ap (λ (z : ℤ). z +ℤ pos 0) (cond_other c d (pos 1) ne)
either-none false c d ts h ne = no-column d ts h

terms-without : (r s : Row) (j : ℕ) → IsSmall (Held s.id) → r.id < s.id → IsFormWithout (first_terms r j) (own_terms r j) s
terms-without r s j small less = record {
  is = λ x. either-terms (nat_lt (length r.terms) j) x (place (over_mark r.id)) (take j r.terms);
  no_under = either-none (nat_lt (length r.terms) j) (place (over_mark r.id)) (place_of (Held s.id) Under) (take j r.terms) (omega (arith, small)) (sides_apart (Held r.id) (Held s.id));
  no_over = either-none (nat_lt (length r.terms) j) (place (over_mark r.id)) (place_of (Held s.id) Over) (take j r.terms) (omega (arith, small)) (λ e. omega (arith, e, less));
}

-- a sum of terms that does not fit before the rest of the rows join does not fit where they have joined over
pub terms_lift : (p : Problem) (rest : List Row) (at joined : List Mark) (mark : Mark) (j : ℕ) → IsWhole (with_rows rest p) → IsCorner (with_rows rest p) joined → All (λ m. IsIn (place m) joined) at → All (λ r. IsIn (place (over_mark r.id)) joined) rest → IsUnfitTerms p at mark j → IsUnfitTerms (with_rows rest p) joined mark j
terms_lift p rest at joined mark j whole corner kept over unfit =
    let more : (c : ℕ) → IsIn c at → IsIn c joined = λ c i. contains_each (λ v. IsIn v joined) at c (recursion_from_All (λ m. IsIn (place m) joined) at kept) i in
    let overs : Each (λ (s : Row). IsIn (place (over_mark s.id)) joined) rest = recursion_from_All _ rest over in
    let small : Each (λ (s : Row). IsSmall (Held s.id)) rest = each-impl IsRow (λ s. IsSmall (Held s.id)) rest (λ s h. omega (arith, h.number.1)) (each-second IsRow p.rows rest (recursion_from_All IsRow (p.rows ++ rest) whole.rows)) in
    any-grow (λ r. (mark ≡ over_mark r.id) × AreOverFrom p at r.id × (1 ≤ j) × (j ≤ length r.terms + 1) × HasNoWriting p at (first_terms r j))
    (λ r. (mark ≡ over_mark r.id) × AreOverFrom (with_rows rest p) joined r.id × (1 ≤ j) × (j ≤ length r.terms + 1) × HasNoWriting (with_rows rest p) joined (first_terms r j)) p.rows rest
    (each-impl (λ r. Each (λ (s : Row). r.id < s.id) rest) _ p.rows
    (λ r below h. (
      h.0,
      All-from_recursion (λ s. r.id ≤ s.id → IsIn (place (over_mark s.id)) joined) (p.rows ++ rest)
          (each-joined (λ (s : Row). r.id ≤ s.id → IsIn (place (over_mark s.id)) joined) p.rows rest
          (each-impl (λ s. r.id ≤ s.id → IsIn (place (over_mark s.id)) at) _ p.rows (λ s k le. more (place (over_mark s.id)) (k le)) (recursion_from_All _ p.rows h.1))
          (each-impl (λ (s : Row). IsIn (place (over_mark s.id)) joined) _ rest (λ s i le. i) overs)),
      h.2,
      h.3,
      no_writing_lifts p rest joined (first_terms r j) (own_terms r j) corner.point (new-rows p rest whole) corner.stands.0
          (each-impl (λ (s : Row). IsSmall (Held s.id) × (r.id < s.id)) (IsFormWithout (first_terms r j) (own_terms r j)) rest (λ s k. terms-without r s j k.0 k.1) (each-both (λ (s : Row). IsSmall (Held s.id)) (λ s. r.id < s.id) rest small below))
          (each-impl (λ (s : Row). IsIn (place (over_mark s.id)) joined) (HasOneIn joined) rest (λ s i. inr i) overs)
          (wider p at joined (first_terms r j) more h.4),
    ))
    (pairs-across (λ (r s : Row). r.id < s.id) p.rows rest whole.rising)) unfit
