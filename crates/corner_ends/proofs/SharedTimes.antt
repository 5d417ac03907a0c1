-- Multipliers divided by a common factor.
use Rattle.std.proofs.Common.{◌≡◌, ◌≢◌, ◌∙◌, ℕ, zero, suc, ◌*◌, ◌/◌, ◌<◌, Bool, true, false, cond, nat_eq, List, [], ◌∷◌, ◌++◌, length, take, get_or, ℤ, pos, negsuc, ◌+ℤ◌, ◌*ℤ◌, neg_ℤ, ◌≤ℤ◌, ◌<ℤ◌, refl, sym, ap, ap₂, subst, arith, All, AllPairs, Any, eq-eqb, ne_eqb, eqb-true}
use Rattle.std.specs.Int.RustNames.{unsigned_abs}
use Rattle.std.specs.Int.{◌∣◌}
use Rattle.std.proofs.lemmas.Nat.Gcd.{dvd_trans}
use Rattle.std.specs.List.{AllByRecursion as Each}
use Rattle.std.proofs.lemmas.List.{get_or-take, get_or_default, length-take-le}
use Rattle.std.proofs.lemmas.List.Elements.{All-push, recursion_from_All, All-from_recursion, filter_passes}
use Rattle.std.proofs.lemmas.List.Quantifiers.{all_pairs_push}
use borrow.Author.Differences.{ints}
use Rattle.frac_core.specs.Fraction.{IsFitting}
use Rattle.frac_core.proofs.Integers.{mul-add_left, mul_assoc_ℤ, mul-zero_ℤ, zero-mul_ℤ, positive_from, zero_from_mul}
use Rattle.problem_core.specs.declared.parts.Rel.{Rel}
use Rattle.problem_core.specs.declared.parts.Rel.TheVariants.{Eq, Ge, Le}
use Rattle.problem_core.specs.declared.parts.RowName.{RowName}
use Rattle.problem_core.specs.declared.parts.RowName.TheVariants.{Held, Stay as StayOf}
use Rattle.problem_core.specs.Layout.{Row, Problem, sum_of, coefficient, product_of}
use Rattle.problem_core.specs.Certificates.{IsRefutation, HasSign, required}
use Rattle.frac_core.proofs.Sums.{sum-append}
use Rattle.problem_core.proofs.Forms.{each-impl, each-both, each-filter}
use Rattle.cert_core.specs.declared.by.By.{By}
use Rattle.cert_core.specs.Claims.{times_of, same_row}
use Rattle.cert_core.specs.Stops.{ComesBefore}
use Rattle.corner_ends.specs.Shares.{AreShares, IsDivisor}

-- ---- one number

pub share_above : (g n : ℕ) (z : ℤ) → pos 0 ≤ℤ z → n * g ≡ unsigned_abs z → pos g *ℤ pos n ≡ z
share_above g n (pos m) h e = omega (arith, ints, e)
share_above g n (negsuc m) h e = absurd (omega (arith, ints, h))

pub share_below : (g n : ℕ) (z : ℤ) → z <ℤ pos 0 → n * g ≡ unsigned_abs z → pos g *ℤ neg_ℤ (pos n) ≡ z
share_below g n (pos m) h e = absurd (omega (arith, ints, h))
share_below g zero (negsuc m) h e = absurd (omega (arith, ints, e))
share_below g (suc n) (negsuc m) h e = omega (arith, ints, e)

-- ---- lists

absent_times : (by : List By) (name : RowName) → Each (λ b. b.row ≢ name) by → times_of by name ≡ pos 0
absent_times [] name h = refl
absent_times (b ∷ by) name h =
    ap₂ ◌+ℤ◌ (ap (λ (k : Bool). cond k b.times (pos 0)) (other_row b.row name h.0)) (absent_times by name h.1)
  where
    other_row : (a b : RowName) → a ≢ b → same_row a b ≡ false
    other_row (Held a) (Held b) n = ne_eqb a b (λ e. n (ap (λ (x : ℕ). Held x) e))
    other_row (Held a) (StayOf b) n = refl
    other_row (StayOf a) (Held b) n = refl
    other_row (StayOf a) (StayOf b) n = ne_eqb a b (λ e. n (ap (λ (x : ℕ). StayOf x) e))

pushed_times : (by : List By) (id k : ℕ) (z : ℤ) → times_of (by ++ record { row = Held id; times = z } ∷ []) (Held k) ≡ times_of by (Held k) +ℤ cond (nat_eq id k) z (pos 0)
pushed_times by id k z =
    sum-append (λ b. cond (same_row b.row (Held k)) b.times (pos 0)) by (record { row = Held id; times = z } ∷ [])
    ∙ ap (λ (x : ℤ). times_of by (Held k) +ℤ x) (let one : cond (nat_eq id k) z (pos 0) +ℤ pos 0 ≡ cond (nat_eq id k) z (pos 0) = omega (arith, ints) in one)

apart_ids : (rows : List Row) (id : ℕ) → All (λ r. r.id < id) rows → All (λ r. r.id ≢ id) rows
apart_ids rows id h = λ k d within e. omega (arith, h k d within, e)

last_apart : (rows : List Row) (r : Row) (id : ℕ) → All (λ s. s.id ≢ id) (rows ++ r ∷ []) → r.id ≢ id
last_apart rows r id h = (recursion_last rows (recursion_from_All (λ s. s.id ≢ id) (rows ++ r ∷ []) h))
  where
    recursion_last : (xs : List Row) → Each (λ s. s.id ≢ id) (xs ++ r ∷ []) → r.id ≢ id
    recursion_last [] e = e.0
    recursion_last (x ∷ xs) e = recursion_last xs e.1

front_apart : (rows : List Row) (r : Row) (id : ℕ) → All (λ s. s.id ≢ id) (rows ++ r ∷ []) → All (λ s. s.id ≢ id) rows
front_apart rows r id h = All-from_recursion (λ s. s.id ≢ id) rows (recursion_front rows (recursion_from_All (λ s. s.id ≢ id) (rows ++ r ∷ []) h))
  where
    recursion_front : (xs : List Row) → Each (λ s. s.id ≢ id) (xs ++ r ∷ []) → Each (λ s. s.id ≢ id) xs
    recursion_front [] e = tt
    recursion_front (x ∷ xs) e = (e.0, recursion_front xs e.1)

-- a row more
any-front : (P : Row → Type 0) (rows : List Row) (r : Row) → Any P rows → Any P (rows ++ r ∷ [])
any-front P [] r (k, x, within, is, h) = absurd (omega (arith, within))
any-front P (s ∷ rows) r (zero, x, within, is, h) = (0, x, omega arith, is, h)
any-front P (s ∷ rows) r (suc k, x, within, is, h) = let more = any-front P rows r (k, x, omega (arith, within), is, h) in (suc more.0, more.1, omega (arith, more.2), more.3, more.4)

any-last : (P : Row → Type 0) (rows : List Row) (r : Row) → P r → Any P (rows ++ r ∷ [])
any-last P [] r h = (0, r, omega arith, refl, h)
any-last P (s ∷ rows) r h = let more = any-last P rows r h in (suc more.0, more.1, omega (arith, more.2), more.3, more.4)

named-more : (rows : List Row) (by : List By) (r : Row) → All (λ b. Any (λ r. (r.rank ≡ 1000) × (b.row ≡ Held r.id)) rows) by → All (λ b. Any (λ s. (s.rank ≡ 1000) × (b.row ≡ Held s.id)) (rows ++ r ∷ [])) by
named-more rows by r h = λ k d within. any-front (λ s. (s.rank ≡ 1000) × ((get_or by k d).row ≡ Held s.id)) rows r (h k d within)

-- each that is named so far comes before the next row
comes-before : (rows : List Row) (by : List By) (r : Row) → All (λ s. s.id < r.id) rows → All (λ b. Any (λ r. (r.rank ≡ 1000) × (b.row ≡ Held r.id)) rows) by → All (λ b. ComesBefore b.row (Held r.id)) by
comes-before rows by r below h = λ k d within.
    let n = h k d within in
    subst (λ (name : RowName). ComesBefore name (Held r.id)) (sym n.4.1) (subst (λ (s : Row). s.id < r.id) n.3 (below n.0 n.1 n.2))

own_times : (y : ℕ → ℤ) (g : ℕ) (rows : List Row) (by : List By) (id : ℕ) → All (λ r. r.id < id) rows → AreShares y g rows by → times_of by (Held id) ≡ pos 0
own_times y g rows by id below are = absent_times by (Held id) (recursion_from_All (λ b. b.row ≢ Held id) by (are.absent id (apart_ids rows id below)))

-- a row that isn't required, or whose multiplier is 0
pub shares_skip : (y : ℕ → ℤ) (g : ℕ) (rows : List Row) (by : List By) (r : Row) → All (λ s. s.id < r.id) rows → (r.rank ≡ 1000 → y r.id ≡ pos 0) → AreShares y g rows by → AreShares y g (rows ++ r ∷ []) by
shares_skip y g rows by r below none are = record {
  times = All-push (λ s. s.rank ≡ 1000 → pos g *ℤ times_of by (Held s.id) ≡ y s.id) rows r are.times
      (λ rank. ap (λ (z : ℤ). pos g *ℤ z) (own_times y g rows by r.id below are) ∙ mul-zero_ℤ (pos g) ∙ sym (none rank));
  absent = λ id h. are.absent id (front_apart rows r id h);
  kept = are.kept;
  named = named-more rows by r are.named;
  nonzero = are.nonzero;
  rising = are.rising;
}

pub shares_push : (y : ℕ → ℤ) (g : ℕ) (rows : List Row) (by new : List By) (r : Row) (z : ℤ) → All (λ s. s.id < r.id) rows → r.rank ≡ 1000 → z ≢ pos 0 → pos g *ℤ z ≡ y r.id → IsFitting z → new ≡ by ++ record { row = Held r.id; times = z } ∷ [] → AreShares y g rows by → AreShares y g (rows ++ r ∷ []) new
shares_push y g rows by new r z below rank some same fits e are =
    subst (AreShares y g (rows ++ r ∷ [])) (sym e)
    (record {
      times = All-push (λ s. s.rank ≡ 1000 → pos g *ℤ times_of (by ++ record { row = Held r.id; times = z } ∷ []) (Held s.id) ≡ y s.id) rows r
          (λ k d within rank.
          let other : r.id ≢ (get_or rows k d).id = λ q. omega (arith, below k d within, q) in
          ap (λ (x : ℤ). pos g *ℤ x) (pushed_times by r.id (get_or rows k d).id z ∙ ap (λ (b : Bool). times_of by (Held (get_or rows k d).id) +ℤ cond b z (pos 0)) (ne_eqb r.id (get_or rows k d).id other) ∙ plus_zero (times_of by (Held (get_or rows k d).id)))
          ∙ are.times k d within rank)
          (λ rank.
          ap (λ (x : ℤ). pos g *ℤ x) (pushed_times by r.id r.id z ∙ ap₂ (λ (x : ℤ) (b : Bool). x +ℤ cond b z (pos 0)) (own_times y g rows by r.id below are) (eq-eqb r.id r.id refl) ∙ zero_plus z)
          ∙ same);
      absent = λ id h. All-push (λ b. b.row ≢ Held id) by (record { row = Held r.id; times = z }) (are.absent id (front_apart rows r id h)) (λ q. last_apart rows r id h (held_id r.id id q));
      kept = record {
        fitting = All-push (λ b. IsFitting b.times) by (record { row = Held r.id; times = z }) are.kept.fitting fits;
        apart = all_pairs_push (λ b c. b.row ≢ c.row) by (record { row = Held r.id; times = z }) are.kept.apart (are.absent r.id (apart_ids rows r.id below));
      };
      named = All-push (λ b. Any (λ s. (s.rank ≡ 1000) × (b.row ≡ Held s.id)) (rows ++ r ∷ [])) by (record { row = Held r.id; times = z }) (named-more rows by r are.named) (any-last (λ s. (s.rank ≡ 1000) × (Held r.id ≡ Held s.id)) rows r (rank, refl));
      nonzero = All-push (λ b. b.times ≢ pos 0) by (record { row = Held r.id; times = z }) are.nonzero some;
      rising = all_pairs_push (λ a b. ComesBefore a.row b.row) by (record { row = Held r.id; times = z }) are.rising (comes-before rows by r below are.named);
    })
  where
    plus_zero : (x : ℤ) → x +ℤ pos 0 ≡ x
    plus_zero x = omega (arith, ints)

    zero_plus : (x : ℤ) → pos 0 +ℤ x ≡ x
    zero_plus x = omega (arith, ints)

    held_id : (a b : ℕ) → Held a ≡ Held b → a ≡ b
    held_id a b q = cc

-- the first rows and the next one
pub ids_below : (rows : List Row) (i : ℕ) (r : Row) → AllPairs (λ r s. r.id < s.id) rows → i < length rows → r ≡ get_or rows i r → All (λ s. s.id < r.id) (take i rows)
ids_below rows i r rising within is = λ k d short.
    let less : k < i = omega (arith, short, length-take-le i rows (omega (arith, within))) in
    subst (λ (s : Row). s.id < r.id) (sym (get_or-take i rows k d less))
    (subst (λ (s : Row). (get_or rows k d).id < s.id) (sym is) (subst (λ (s : Row). (get_or rows k d).id < s.id) (same_default rows i d r within) (rising k i d less within)))
  where
    same_default : (xs : List Row) (i : ℕ) (d e : Row) → i < length xs → get_or xs i d ≡ get_or xs i e
    same_default xs i d e lt = get_or_default xs i d e lt

-- ---- refutations

scaled_sum : (g : ℕ) (y z c : Row → ℤ) (rows : List Row) → Each (λ r. pos g *ℤ z r ≡ y r) rows → sum_of (λ r. y r *ℤ c r) rows ≡ pos g *ℤ sum_of (λ r. z r *ℤ c r) rows
scaled_sum g y z c [] h = sym (mul-zero_ℤ (pos g))
scaled_sum g y z c (r ∷ rows) h =
    ap₂ ◌+ℤ◌ (ap (λ (x : ℤ). x *ℤ c r) (sym h.0) ∙ mul_assoc_ℤ (pos g) (z r) (c r)) (scaled_sum g y z c rows h.1)
    ∙ sym (mul-add_left (pos g) (z r *ℤ c r) (sum_of (λ s. z s *ℤ c s) rows))

scaled_sign : (g : ℕ) (y z : ℤ) (rel : Rel) → 0 < g → pos g *ℤ z ≡ y → HasSign rel y → HasSign rel z
scaled_sign g y z Eq some e h = tt
scaled_sign g y (pos n) Ge some e h = omega (arith, ints)
scaled_sign (suc g) y (negsuc n) Ge some e h = absurd (omega (arith, ints, e, h))
scaled_sign (suc g) y (pos (suc n)) Le some e h = absurd (omega (arith, ints, e, h))
scaled_sign g y (pos zero) Le some e h = omega (arith, ints)
scaled_sign g y (negsuc n) Le some e h = omega (arith, ints)
scaled_sign zero y z rel some e h = absurd (omega (arith, some))

factor_above : (g : ℕ) (x : ℤ) → pos 0 <ℤ (pos g *ℤ x) → 0 < g
factor_above zero x h = absurd (let none = zero-mul_ℤ x in omega (arith, ints, h, none))
factor_above (suc g) x h = omega arith

pub shares_refute : (p : Problem) (y : ℕ → ℤ) (g : ℕ) (by : List By) → IsRefutation p y → AreShares y g p.rows by → IsRefutation p (λ id. times_of by (Held id))
shares_refute p y g by is are =
    let z : Row → ℤ = λ r. times_of by (Held r.id) in
    let same : Each (λ r. pos g *ℤ times_of by (Held r.id) ≡ y r.id) (required p) =
    each-impl _ _ (required p) (λ r h. h.0 (eqb-true r.rank 1000 h.1))
    (each-both (λ r. r.rank ≡ 1000 → pos g *ℤ times_of by (Held r.id) ≡ y r.id) (λ r. nat_eq r.rank 1000 ≡ true) (required p)
    (each-filter (λ r. r.rank ≡ 1000 → pos g *ℤ times_of by (Held r.id) ≡ y r.id) (λ r. nat_eq r.rank 1000) p.rows (recursion_from_All (λ r. r.rank ≡ 1000 → pos g *ℤ times_of by (Held r.id) ≡ y r.id) p.rows are.times))
    (recursion_from_All (λ r. nat_eq r.rank 1000 ≡ true) (required p) (filter_passes (λ r. nat_eq r.rank 1000) p.rows))) in
    let whole : pos 0 <ℤ (pos g *ℤ sum_of (λ r. times_of by (Held r.id) *ℤ (r.constant.num *ℤ pos (product_of (λ s. s.constant.den) (required p) / r.constant.den))) (required p)) =
    subst (λ (x : ℤ). pos 0 <ℤ x) (scaled_sum g (λ r. y r.id) (λ r. times_of by (Held r.id)) (λ r. r.constant.num *ℤ pos (product_of (λ s. s.constant.den) (required p) / r.constant.den)) (required p) same) is.above_zero in
    let some : 0 < g = factor_above g (sum_of (λ r. times_of by (Held r.id) *ℤ (r.constant.num *ℤ pos (product_of (λ s. s.constant.den) (required p) / r.constant.den))) (required p)) whole in
    record {
      cancel = λ v. zero_from_mul g (sum_of (λ r. times_of by (Held r.id) *ℤ coefficient v r.terms) (required p)) some (sym (scaled_sum g (λ r. y r.id) (λ r. times_of by (Held r.id)) (λ r. coefficient v r.terms) (required p) same) ∙ is.cancel v);
      signs = All-from_recursion (λ r. HasSign r.rel (times_of by (Held r.id))) (required p)
          (each-impl _ _ (required p) (λ r h. scaled_sign g (y r.id) (times_of by (Held r.id)) r.rel some h.0 h.1)
          (each-both (λ r. pos g *ℤ times_of by (Held r.id) ≡ y r.id) (λ r. HasSign r.rel (y r.id)) (required p) same (recursion_from_All (λ r. HasSign r.rel (y r.id)) (required p) is.signs)));
      above_zero = positive_from g (sum_of (λ r. times_of by (Held r.id) *ℤ (r.constant.num *ℤ pos (product_of (λ s. s.constant.den) (required p) / r.constant.den))) (required p)) whole;
    }

-- ---- divisors

pub abs_above : (z : ℤ) → (z ≡ pos 0 → ⊥) → 0 < unsigned_abs z
abs_above (pos zero) n = absurd (n refl)
abs_above (pos (suc k)) n = omega arith
abs_above (negsuc k) n = omega arith

pub divisors_weaker : (g f : ℕ) (y : ℕ → ℤ) (rows : List Row) → g ∣ f → All (IsDivisor f y) rows → All (IsDivisor g y) rows
divisors_weaker g f y rows d h = λ k e within rank. dvd_trans g d (h k e within rank)
