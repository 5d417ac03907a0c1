-- With the probe row a layout's problem is whole.
use Rattle.std.proofs.Common.{Any, Bool, cond, refl, ap₂, ne_eqb, eq-eqb, ◌≡◌, ◌≢◌, ◌∙◌, ℕ, suc, ◌+◌, ◌-◌, ◌<◌, ◌≤◌, ◌^◌, List, [], ◌∷◌, ◌++◌, map, length, get_or, pos, sym, ap, subst, arith, All, AllPairs, append-nil, length-append}
use Rattle.std.specs.List.{AllByRecursion as Each}
use Rattle.std.proofs.lemmas.List.{length-map}
use Rattle.std.proofs.lemmas.List.Elements.{All-from_recursion, All-push, recursion_from_All}
use Rattle.std.proofs.lemmas.List.Kept.{AllPairs-cons}
use Rattle.std.proofs.lemmas.List.Quantifiers.{all_pairs_push}
use borrow.Author.Differences.{ints}
use Rattle.frac_core.specs.Fraction.{Fraction, IsKept}
use Rattle.problem_core.specs.declared.parts.Rel.{Rel}
use Rattle.problem_core.specs.declared.parts.Rel.TheVariants.{Eq}
use Rattle.problem_core.specs.declared.parts.Stay.{Stay}
use Rattle.problem_core.specs.Layout.{HasStay, IsCovered, Problem, Row}
use Rattle.problem_core.specs.Kept.{IsNumber, IsRow, IsStay, IsTerm, IsWhole}
use Rattle.problem_core.proofs.Forms.{each-impl}
use Rattle.corner_lines.specs.Shifts.{has_constant, with_constant}
use Rattle.corner_view.specs.Changes.{IsNear}
use Rattle.layout_solver.specs.Layouts.{Layout, stays_at, with_added, zeros}
use Rattle.diagnosis.specs.Probes.{CanProbe, IsNearTo, next_number, probe_row, wish_row, with_probe}
use Rattle.layout_solver.proofs.BestValues.{attrs-at, same-stays}

-- ---- the number

-- it is above all
below-next : (rows : List Row) → AllPairs (λ r s. r.id < s.id) rows → All (λ r. r.id < next_number rows) rows
below-next rows rising = All-from_recursion (λ r. r.id < next_number rows) rows (each-below rows rising)
  where
    tail : (r : Row) (rs : List Row) → AllPairs (λ a b. a.id < b.id) (r ∷ rs) → AllPairs (λ a b. a.id < b.id) rs
    tail r rs h = λ i j d less within. h (suc i) (suc j) d (omega (arith, less)) (omega (arith, within))

    each-below : (rs : List Row) → AllPairs (λ a b. a.id < b.id) rs → Each (λ r. r.id < next_number rs) rs
    each-below [] h = tt
    each-below (r ∷ []) h = (omega arith, tt)
    each-below (r ∷ (s ∷ rs)) h =
        let rest = each-below (s ∷ rs) (tail r (s ∷ rs) h) in
        let less : r.id < s.id = h 0 1 r (omega arith) (omega arith) in
        let next = rest.0 in
        (omega (arith, less, next), rest)

pub next_small : (rows : List Row) → All (λ r. r.id < 2 ^ 31) rows → (0 < next_number rows) × (next_number rows ≤ 2 ^ 31)
next_small rows small = each-small rows (recursion_from_All (λ r. r.id < 2 ^ 31) rows small)
  where
    each-small : (rs : List Row) → Each (λ r. r.id < 2 ^ 31) rs → (0 < next_number rs) × (next_number rs ≤ 2 ^ 31)
    each-small [] h = (omega arith, omega arith)
    each-small (r ∷ []) h = (omega arith, (let less = h.0 in omega (arith, less)))
    each-small (r ∷ (s ∷ rs)) h = each-small (s ∷ rs) h.1

-- the last row's number and 1
pub next_is : (rows : List Row) (r : Row) → 0 < length rows → get_or rows (length rows - 1) r ≡ r → next_number rows ≡ r.id + 1
next_is [] r some is = absurd (omega (arith, some))
next_is (s ∷ []) r some is = ap (λ (q : Row). q.id + 1) is
next_is (s ∷ (t ∷ rows)) r some is =
    next_is (t ∷ rows) r (omega arith) (sym (ap (λ (k : ℕ). get_or (s ∷ (t ∷ rows)) k r) (let e : length (s ∷ (t ∷ rows)) - 1 ≡ suc (length (t ∷ rows) - 1) = omega arith in e)) ∙ is)

-- ---- the stays

numbers-at : (stays : List Stay) (values : List (ℕ × Fraction)) → map (λ v. v.0) values ≡ map (λ s. s.attr) stays → Each IsStay stays → Each (λ v. IsKept v.1) values → Each IsStay (stays_at values)
numbers-at stays [] e h k = tt
numbers-at [] (v ∷ values) e h k = cc
numbers-at (s ∷ stays) (v ∷ values) e h k =
    let head : v.0 ≡ s.attr = cc in
    let tail : map (λ v. v.0) values ≡ map (λ s. s.attr) stays = cc in
    (record { attr = subst IsNumber (sym head) h.0.attr; target = k.0 }, numbers-at stays values tail h.1 k.1)

not-among : (a : ℕ) (stays : List Stay) (values : List (ℕ × Fraction)) → map (λ v. v.0) values ≡ map (λ s. s.attr) stays → Each (λ s. a ≢ s.attr) stays → Each (λ s. a ≢ s.attr) (stays_at values)
not-among a stays [] e h = tt
not-among a [] (v ∷ values) e h = cc
not-among a (s ∷ stays) (v ∷ values) e h =
    let head : v.0 ≡ s.attr = cc in
    let tail : map (λ v. v.0) values ≡ map (λ s. s.attr) stays = cc in
    ((λ same. h.0 (same ∙ head)), not-among a stays values tail h.1)

abbrev AllApart : List Stay → Type 0
AllApart [] = Unit {0}
AllApart (s ∷ stays) = Each (λ t. s.attr ≢ t.attr) stays × AllApart stays

apart-pairs : (stays : List Stay) → AllApart stays → AllPairs (λ s t. s.attr ≢ t.attr) stays
apart-pairs [] h = λ i j d less within. absurd (omega (arith, within))
apart-pairs (s ∷ stays) h = AllPairs-cons (λ s t. s.attr ≢ t.attr) s stays (All-from_recursion (λ t. s.attr ≢ t.attr) stays h.0) (apart-pairs stays h.1)

pairs-apart : (stays : List Stay) → AllPairs (λ s t. s.attr ≢ t.attr) stays → AllApart stays
pairs-apart [] h = tt
pairs-apart (s ∷ stays) h = (
  recursion_from_All (λ t. s.attr ≢ t.attr) stays (λ i d within. h 0 (suc i) d (omega arith) (omega (arith, within))),
  pairs-apart stays (λ i j d less within. h (suc i) (suc j) d (omega (arith, less)) (omega (arith, within))),
)

apart-at : (stays : List Stay) (values : List (ℕ × Fraction)) → map (λ v. v.0) values ≡ map (λ s. s.attr) stays → AllApart stays → AllApart (stays_at values)
apart-at stays [] e h = tt
apart-at [] (v ∷ values) e h = cc
apart-at (s ∷ stays) (v ∷ values) e h =
    let head : v.0 ≡ s.attr = cc in
    let tail : map (λ v. v.0) values ≡ map (λ s. s.attr) stays = cc in
    (not-among v.0 stays values tail (each-impl (λ t. s.attr ≢ t.attr) (λ t. v.0 ≢ t.attr) stays (λ t ne same. ne (sym head ∙ same)) h.0), apart-at stays values tail h.1)

-- ---- the problem

abbrev pub with_wish : Layout → ℕ → Rel → Fraction → Problem
with_wish l attr rel f = with_added l [] (wish_row (next_number l.problem.rows) attr rel f ∷ [])

wish-row-kept : (l : Layout) (attr : ℕ) (rel : Rel) (f : Fraction) → IsNumber attr → IsKept f → CanProbe l attr → IsRow (wish_row (next_number l.problem.rows) attr rel f)
wish-row-kept l attr rel f number kept can =
    let n = next_small l.problem.rows can.numbers in record {
      number = (n.0, n.1);
      rank = omega arith;
      weight = (omega arith, omega arith);
      scale = (omega arith, omega arith);
      constant = kept;
      terms = All-from_recursion IsTerm (record { attr = attr; by = pos 1 } ∷ []) (record { attr = number; nonzero = λ e. absurd (omega (arith, ints, e)); small = omega arith }, tt);
      rising = λ i j d less within. absurd (omega (arith, less, within));
      count = omega arith;
    }

stay-number : (stays : List Stay) (attr : ℕ) → All IsStay stays → HasStay stays attr → IsNumber attr
stay-number stays attr all (i, s, within, is, e) = subst IsNumber (ap (λ (t : Stay). t.attr) is ∙ e) ((all i s within).attr)

covered-at : (old new : List Stay) (r : Row) → map (λ s. s.attr) old ≡ map (λ s. s.attr) new → IsCovered old r → IsCovered new r
covered-at old new r e h i t within = same-stays old new (get_or r.terms i t).attr e (h i t within)

pub wish_whole : (l : Layout) (attr : ℕ) (rel : Rel) (f : Fraction) → IsWhole l.problem → map (λ v. v.0) l.values ≡ map (λ s. s.attr) l.problem.stays → All (λ v. IsKept v.1) l.values → IsKept f → CanProbe l attr → IsRow (wish_row (next_number l.problem.rows) attr rel f) × IsWhole (with_wish l attr rel f)
wish_whole l attr rel f whole attrs fit kept can =
    let number = stay-number l.problem.stays attr whole.stays can.held in
    let row = wish-row-kept l attr rel f number kept can in
    let same : stays_at (l.values ++ zeros []) ≡ stays_at l.values = ap stays_at (append-nil l.values) in
    let names : map (λ s. s.attr) l.problem.stays ≡ map (λ s. s.attr) (stays_at l.values) = sym attrs ∙ sym (attrs-at l.values) in (
      row,
      subst (λ (stays : List Stay). IsWhole (record { rows = l.problem.rows ++ wish_row (next_number l.problem.rows) attr rel f ∷ []; stays = stays })) (sym same)
          (record {
            rows = All-push IsRow l.problem.rows (wish_row (next_number l.problem.rows) attr rel f) whole.rows row;
            stays = All-from_recursion IsStay (stays_at l.values) (numbers-at l.problem.stays l.values attrs (recursion_from_All IsStay l.problem.stays whole.stays) (recursion_from_All (λ v. IsKept v.1) l.values fit));
            rising = all_pairs_push (λ r s. r.id < s.id) l.problem.rows (wish_row (next_number l.problem.rows) attr rel f) whole.rising (below-next l.problem.rows whole.rising);
            apart = apart-pairs (stays_at l.values) (apart-at l.problem.stays l.values attrs (pairs-apart l.problem.stays whole.apart));
            covered = All-push (IsCovered (stays_at l.values)) l.problem.rows (wish_row (next_number l.problem.rows) attr rel f)
                (λ i r within. covered-at l.problem.stays (stays_at l.values) (get_or l.problem.rows i r) names (whole.covered i r within))
                (All-from_recursion (λ t. HasStay (stays_at l.values) t.attr) (record { attr = attr; by = pos 1 } ∷ []) (same-stays l.problem.stays (stays_at l.values) attr names can.held, tt));
            row_count = (let few = can.few in omega (arith, few, length-append l.problem.rows (wish_row (next_number l.problem.rows) attr rel f ∷ [])));
            stay_count = (let few = whole.stay_count in let a : length (stays_at l.values) ≡ length l.values = length-map l.values (λ (v : ℕ × Fraction). record { attr = v.0; target = v.1 }) in let b = same-length l.values l.problem.stays attrs in omega (arith, few, a, b));
          }),
    )
  where
    same-length : (values : List (ℕ × Fraction)) (stays : List Stay) → map (λ v. v.0) values ≡ map (λ s. s.attr) stays → length values ≡ length stays
    same-length values stays e = sym (length-map values (λ (v : ℕ × Fraction). v.0)) ∙ ap (λ (ns : List ℕ). length ns) e ∙ length-map stays (λ (s : Stay). s.attr)

pub probe_whole : (l : Layout) (attr : ℕ) (f : Fraction) → IsWhole l.problem → map (λ v. v.0) l.values ≡ map (λ s. s.attr) l.problem.stays → All (λ v. IsKept v.1) l.values → IsKept f → CanProbe l attr → IsRow (probe_row l attr f) × IsWhole (with_probe l attr f)
probe_whole l attr f whole attrs fit kept can = wish_whole l attr Eq f whole attrs fit kept can

-- ---- its constant changes

pub wish_near : (l : Layout) (attr : ℕ) (rel : Rel) (from to : Fraction) → IsWhole l.problem → 0 < from.den → 0 < to.den → IsNearTo from to → IsNear (with_wish l attr rel from) (next_number l.problem.rows) to
wish_near l attr rel from to whole up there (more, kept, difference) = (
  from,
  more,
  record {
    held = last-is l.problem.rows;
    constant = All-push (λ r. r.id ≡ next_number l.problem.rows → r.constant ≡ from) l.problem.rows (wish_row (next_number l.problem.rows) attr rel from)
        (λ i r within e. absurd (let less = below-next l.problem.rows whole.rising i r within in omega (arith, less, e))) (λ e. refl);
    from_positive = up;
    to_positive = there;
    more_positive = kept.lowest.above;
    difference = difference;
  },
  kept,
)
  where
    last-is : (rows : List Row) → Any (λ r. r.id ≡ next_number l.problem.rows) (rows ++ wish_row (next_number l.problem.rows) attr rel from ∷ [])
    last-is [] = (0, wish_row (next_number l.problem.rows) attr rel from, omega arith, refl, refl)
    last-is (r ∷ rows) = let h = last-is rows in (suc h.0, h.1, (let less = h.2 in omega (arith, less)), h.3, h.4)

abbrev at-constant : Row → Fraction → Row
at-constant r f = record { id = r.id; rank = r.rank; weight = r.weight; rel = r.rel; scale = r.scale; constant = f; terms = r.terms }

others-keep : (n : ℕ) (to : Fraction) (rows : List Row) (w : Row) → Each (λ r. r.id < n) rows → map (has_constant n to) (rows ++ w ∷ []) ≡ rows ++ has_constant n to w ∷ []
others-keep n to [] w h = refl
others-keep n to (r ∷ rows) w h =
    ap₂ (λ (b : Bool) (rs : List Row). cond b (at-constant r to) r ∷ rs) (ne_eqb r.id n (λ e. absurd (let less = h.0 in omega (arith, less, e)))) (others-keep n to rows w h.1)

changed-here : (n attr : ℕ) (rel : Rel) (from to : Fraction) → has_constant n to (wish_row n attr rel from) ≡ wish_row n attr rel to
changed-here n attr rel from to = ap (λ (b : Bool). cond b (wish_row n attr rel to) (wish_row n attr rel from)) (eq-eqb n n refl)

pub wish_changed : (l : Layout) (attr : ℕ) (rel : Rel) (from to : Fraction) → IsWhole l.problem → with_constant (next_number l.problem.rows) to (with_wish l attr rel from) ≡ with_wish l attr rel to
wish_changed l attr rel from to whole =
    ap (λ (rs : List Row). record { rows = rs; stays = stays_at (l.values ++ zeros []) })
    (others-keep (next_number l.problem.rows) to l.problem.rows (wish_row (next_number l.problem.rows) attr rel from) (recursion_from_All (λ r. r.id < next_number l.problem.rows) l.problem.rows (below-next l.problem.rows whole.rising))
    ∙ ap (λ (w : Row). l.problem.rows ++ w ∷ []) (changed-here (next_number l.problem.rows) attr rel from to))

-- ---- the row by what the code reads

pub wish_same : (n m attr : ℕ) (r s : Rel) (f : Fraction) → n ≡ m → r ≡ s → wish_row n attr r f ≡ wish_row m attr s f
wish_same n m attr r s f e h = ap₂ (λ (k : ℕ) (rel : Rel). wish_row k attr rel f) e h

pub made_row : (l : Layout) (attr n : ℕ) (f : Fraction) → n ≡ next_number l.problem.rows → wish_row n attr Eq f ≡ probe_row l attr f
made_row l attr n f e = ap (λ (k : ℕ). wish_row k attr Eq f) e
