-- From the sums over what is written to the clauses of a conflict.
use Rattle.std.proofs.Common.{◌≡◌, ◌≢◌, ℕ, ◌+◌, ◌-◌, ◌*◌, ◌/◌, ◌<◌, ◌≤◌, ◌^◌, Bool, true, false, cond, nat_eq, List, [], ◌∷◌, map, filter, length, take, get_or, ℤ, pos, ◌+ℤ◌, ◌*ℤ◌, ◌<ℤ◌, refl, sym, ap, ap₂, subst, ◌∙◌, inl, inr, arith, All, eq-eqb, IsTrue, ◌↔◌, Contains}
use Rattle.std.specs.Int.{◌∣◌}
use Rattle.std.specs.List.{AllByRecursion as Each}
use Rattle.std.proofs.lemmas.List.Elements.{recursion_from_All, All-from_recursion, All-filter, All-take, All-weaker}
use Rattle.std.proofs.lemmas.List.{length-map, get_or-map, get_or_default, take-map}
use Rattle.std.proofs.lemmas.Nat.Gcd.{le_of_dvd}
use Rattle.std.proofs.Math.Nat.{div-mul_cancel}
use borrow.Author.Differences.{ints}
use lib.Signed.{lt_z}
use Rattle.problem_core.specs.declared.parts.RowName.{RowName}
use Rattle.problem_core.specs.declared.parts.RowName.TheVariants.{Held}
use Rattle.problem_core.specs.declared.parts.Rel.{Rel}
use Rattle.problem_core.specs.declared.parts.Rel.TheVariants.{Eq, Le, Ge}
use Rattle.problem_core.specs.declared.parts.Term.{Term}
use Rattle.frac_core.specs.Fraction.{IsFitting}
use Rattle.problem_core.proofs.Refutations.{refutation-IsInConflict}
use Rattle.problem_core.proofs.Wholes.{whole-IsProblem}
use Rattle.problem_core.specs.Layout.{Row, Line, Problem, lines, line_of_row, stay_lines, sum_of, product_of, coefficient, IsInConflict}
use Rattle.problem_core.specs.Kept.{IsRow, IsWhole}
use Rattle.problem_core.specs.Certificates.{HasSign, required, IsRefutation}
use Rattle.frac_core.proofs.Integers.{zero-mul_ℤ, mul_positive, positive_from, shift_factor}
use Rattle.problem_core.proofs.Forms.{each-impl, each-both, each-filter, mul-sum, product-shares, product-positive}
use Rattle.problem_core.proofs.Corners.Conflicts.{by_required, sum-each}
use Rattle.cert_core.specs.declared.by.By.{By}
use Rattle.cert_core.specs.Claims.{AreBys, times_of}
use Rattle.cert_checker.specs.declared.sums.Weighted.{Weighted}
use Rattle.cert_checker.specs.declared.verdict.Verdict.{Verdict}
use Rattle.cert_checker.specs.declared.verdict.Verdict.TheVariants.{Yes}
use Rattle.cert_checker.specs.LineSums.{line_count, form_at}
use Rattle.cert_checker.specs.LinePlaces.{names, name_at, by_at, AreWeighed}
use Rattle.problem_core.specs.Common.{IsLeastCommon}
use Rattle.cert_checker.specs.Required.{IsRequiredAt, IsSigned, denominators, den_at, num_at, Reaches}
use Rattle.cert_checker.specs.Refuting.{IsRequired, Cancels, HasSumRoom, IsFirstWithoutRoom, AreSigned, IsAboveZero, IsConflictVerdict}
use Rattle.cert_checker.proofs.LinePlaces.{row-at}
use Rattle.cert_checker.proofs.Indexes.{row_name, length-lines, length-names, no_row}
use Rattle.cert_checker.proofs.Written.Weighing.{no_weight, by-of, same-length, weighed-count, weighed-fit}
use Rattle.cert_checker.proofs.Written.Swapping.{exchanged, picked, picked-at}
use Rattle.cert_checker.proofs.Apart.{lines-apart, name-at}
use Rattle.cert_checker.proofs.Written.Naming.{times-none, times-found, written, weighed-name, held-place, required-named}

sum-map : {A B : Type 0} (f : B → ℤ) (h : A → B) (xs : List A) → sum_of f (map h xs) ≡ sum_of (λ x. f (h x)) xs
sum-map f h [] = refl
sum-map f h (x ∷ xs) = ap (λ (z : ℤ). f (h x) +ℤ z) (sum-map f h xs)

-- ---- sums

pub weighed-sum : (p : Problem) → IsWhole p → (bys : List By) (ws : List Weighted) → AreWeighed p bys ws → (g : Line → ℤ) (d : Line) → sum_of (λ l. times_of bys l.name *ℤ g l) (lines p) ≡ sum_of (λ w. w.times *ℤ g (get_or (lines p) w.at d)) ws
weighed-sum p whole bys ws are g d =
    exchanged g (lines p) bys
    ∙ ap (λ (xs : List By). sum_of (λ b. b.times *ℤ picked g (lines p) b.row) xs) (sym are.same)
    ∙ sum-map (λ (b : By). b.times *ℤ picked g (lines p) b.row) (by_at p) ws
    ∙ sum-each (λ (w : Weighted). w.times *ℤ picked g (lines p) (name_at p w.at)) (λ w. w.times *ℤ g (get_or (lines p) w.at d)) ws
    (each-impl (λ w. w.at < line_count p) (λ w. w.times *ℤ picked g (lines p) (name_at p w.at) ≡ w.times *ℤ g (get_or (lines p) w.at d)) ws
    (λ w l.
    let m : w.at < length (lines p) = omega (arith, l, length-lines p) in
    ap (λ (z : ℤ). w.times *ℤ z) (ap (picked g (lines p)) (name-at p w.at d (Held 0) m) ∙ picked-at g (lines p) w.at d m (lines-apart p whole)))
    (recursion_from_All (λ w. w.at < line_count p) ws are.below))

level-at : (p : Problem) (j : ℕ) (d : Line) (r : Row) → j < length p.rows → (get_or (lines p) j d).level ≡ 1000 - (get_or p.rows j r).rank
level-at p j d r l =
    sym (get_or-map (λ (l : Line). l.level) (lines p) j d 0 (omega (arith, l, length-lines p))) ∙ row-at (λ l. l.level) p.rows (stay_lines 1001 p.stays) j r 0 l

-- a line of another level is named by no multiplier of required rows
other-level : (p : Problem) → IsWhole p → (bys : List By) → All (λ b. IsRequired p b.row) bys → (j : ℕ) (d : Line) → j < length (lines p) → ((get_or (lines p) j d).level ≡ 0 → ⊥) → times_of bys (get_or (lines p) j d).name ≡ pos 0
other-level p whole bys named j d l not_required =
    times-none bys (get_or (lines p) j d).name
    (λ k b m same.
    let (i, r, n, is, (rank, name)) = named k b m in
    let at : j ≡ i = held-place p whole j i r (omega (arith, l, length-lines p)) n is (name-at p j d (Held 0) l ∙ sym same ∙ name) in
    let level : (get_or (lines p) j d).level ≡ 1000 - (get_or p.rows i r).rank = ap (λ (n : ℕ). (get_or (lines p) n d).level) at ∙ level-at p i d r n in
    let top : (get_or p.rows i r).rank ≡ 1000 = ap (λ (r : Row). r.rank) is ∙ rank in
    not_required (omega (arith, level, top)))

pub required-sum : (p : Problem) → IsWhole p → (bys : List By) → All (λ b. IsRequired p b.row) bys → (g : Line → ℤ) → sum_of (λ l. times_of bys l.name *ℤ g l) (lines p) ≡ sum_of (λ r. times_of bys (Held r.id) *ℤ g (line_of_row r)) (required p)
required-sum p whole bys named g =
    by_required (λ l. times_of bys l.name *ℤ g l) p
    (each-impl IsRow (λ r. r.rank ≤ 1000) p.rows (λ r h. h.rank) (recursion_from_All IsRow p.rows whole.rows))
    (recursion_from_All (λ l. (l.level ≡ 0 → ⊥) → times_of bys l.name *ℤ g l ≡ pos 0) (lines p)
    (λ j d l n. ap (λ (z : ℤ). z *ℤ g (get_or (lines p) j d)) (other-level p whole bys named j d l n) ∙ zero-mul_ℤ (g (get_or (lines p) j d))))

-- ---- signs

zero-sign : (rel : Rel) (y : ℤ) → y ≡ pos 0 → HasSign rel y
zero-sign Eq y e = tt
zero-sign Ge y e = omega (arith, ints, e)
zero-sign Le y e = omega (arith, ints, e)

pub signs-from : (p : Problem) → IsWhole p → (bys : List By) (ws : List Weighted) → AreWeighed p bys ws → AreBys bys → All (IsSigned p) ws → AreSigned p bys
signs-from p whole bys ws are ok signed =
    All-filter (λ r. nat_eq r.rank 1000) (λ r. HasSign r.rel (times_of bys (Held r.id))) p.rows
    (λ j d l. elim (written bys (Held (get_or p.rows j d).id)) [
      | inl (k, m, e) ↦
          let b : By = record { row = Held 0; times = pos 0 } in
          let n : k < length ws = omega (arith, m, same-length p bys ws are) in
          let at : (get_or ws k no_weight).at ≡ j = held-place p whole (get_or ws k no_weight).at j (get_or p.rows j d) (are.below k no_weight n) l (get_or_default p.rows j (get_or p.rows j d) d l) (sym (weighed-name p bys ws are k b n) ∙ e b) in
          let times : times_of bys (Held (get_or p.rows j d).id) ≡ (get_or ws k no_weight).times =
          ap (times_of bys) (sym (e b)) ∙ times-found bys k b m (λ i j d l m. ok.apart i j d l m) ∙ ap (λ (b : By). b.times) (by-of p bys ws are k b n) in
          let sign : HasSign (get_or p.rows (get_or ws k no_weight).at d).rel (get_or ws k no_weight).times = (signed k no_weight n).sign d in
          subst (HasSign (get_or p.rows j d).rel) (sym times) (subst (λ (i : ℕ). HasSign (get_or p.rows i d).rel (get_or ws k no_weight).times) at sign)
      | inr none ↦ zero-sign (get_or p.rows j d).rel (times_of bys (Held (get_or p.rows j d).id)) (times-none bys (Held (get_or p.rows j d).id) none)
    ])

-- by the test's answer
kept_or : (P : Row → Type 0) (r : Row) (kept : List Row) (b : Bool) → Each P (cond b (r ∷ kept) kept) → (b ≡ true → P r) × Each P kept
kept_or P r kept true h = (λ e. h.0, h.1)
kept_or P r kept false h = (λ e. absurd cc, h)

each-tested : (P : Row → Type 0) (test : Row → Bool) (rows : List Row) → Each P (filter test rows) → Each (λ r. test r ≡ true → P r) rows
each-tested P test [] h = tt
each-tested P test (r ∷ rows) h =
    let both = kept_or P r (filter test rows) (test r) h in
    (both.0, each-tested P test rows both.1)

pub signs-back : (p : Problem) → IsWhole p → (bys : List By) (ws : List Weighted) → AreWeighed p bys ws → AreBys bys → All (λ w. IsRequiredAt p w.at) ws → AreSigned p bys → All (IsSigned p) ws
signs-back p whole bys ws are ok all signed k d l =
    let b : By = record { row = Held 0; times = pos 0 } in
    let at : IsRequiredAt p (get_or ws k no_weight).at = all k no_weight l in
    let tested = All-from_recursion (λ r. nat_eq r.rank 1000 ≡ true → HasSign r.rel (times_of bys (Held r.id))) p.rows
    (each-tested (λ r. HasSign r.rel (times_of bys (Held r.id))) (λ r. nat_eq r.rank 1000) p.rows (recursion_from_All (λ r. HasSign r.rel (times_of bys (Held r.id))) (required p) signed)) in
    let m : k < length bys = omega (arith, l, same-length p bys ws are) in
    let sign : (e : Row) → HasSign (get_or p.rows (get_or ws k no_weight).at e).rel (times_of bys (Held (get_or p.rows (get_or ws k no_weight).at e).id)) = λ e.
    tested (get_or ws k no_weight).at e at.row (eq-eqb _ 1000 (at.rank e)) in
    let name : (e : Row) → Held (get_or p.rows (get_or ws k no_weight).at e).id ≡ (get_or bys k b).row = λ e.
    sym (weighed-name p bys ws are k b l ∙ row_name p (get_or ws k no_weight).at (Held 0) at.row ∙ ap Held (get_or-map (λ (r : Row). r.id) p.rows (get_or ws k no_weight).at e 0 at.row)) in
    let times : (e : Row) → times_of bys (Held (get_or p.rows (get_or ws k no_weight).at e).id) ≡ (get_or ws k no_weight).times = λ e.
    ap (times_of bys) (name e) ∙ times-found bys k b m (λ i j d l m. ok.apart i j d l m) ∙ ap (λ (b : By). b.times) (by-of p bys ws are k b l) in
    subst (IsSigned p) (get_or_default ws k no_weight d l)
    (record { row = at.row; sign = λ e. subst (HasSign (get_or p.rows (get_or ws k no_weight).at e).rel) (times e) (sign e) })

-- ---- room

pub room-from : (p : Problem) → IsWhole p → (bys : List By) (ws : List Weighted) → AreWeighed p bys ws → (d : ℕ) → d < 2 ^ 30 → IsLeastCommon (denominators p ws) d → HasSumRoom p bys
room-from p whole bys ws are d small least = (
  d,
  least.above,
  small,
  λ k b l j r m name.
      let n : k < length ws = omega (arith, l, same-length p bys ws are) in
      let at : (get_or ws k no_weight).at ≡ j = held-place p whole (get_or ws k no_weight).at j (get_or p.rows j r) (are.below k no_weight n) m (get_or_default p.rows j (get_or p.rows j r) r m) (sym (weighed-name p bys ws are k b n) ∙ name) in
      let divides : get_or (denominators p ws) k 1 ∣ d = least.common k 1 (omega (arith, n, length-map ws (λ (w : Weighted). den_at p w.at))) in
      let den : get_or (denominators p ws) k 1 ≡ (get_or p.rows j r).constant.den =
      get_or-map (λ (w : Weighted). den_at p w.at) ws k no_weight 1 n ∙ ap (den_at p) at ∙ get_or-map (λ (r : Row). r.constant.den) p.rows j r 1 m in
      subst (λ (x : ℕ). x ∣ d) den divides,
)

taken : (p : Problem) (bys : List By) (ws : List Weighted) (k : ℕ) → AreWeighed p bys ws → AreWeighed p (take k bys) (take k ws)
taken p bys ws k are = record {
  same = sym (take-map (by_at p) k ws) ∙ ap (take k) are.same;
  below = All-take (λ w. w.at < line_count p) k ws are.below;
}

-- a common denominator of the named rows is one of the listed denominators
pub room-divides : (p : Problem) → IsWhole p → (bys : List By) (ws : List Weighted) → AreWeighed p bys ws → All (λ w. IsRequiredAt p w.at) ws → (e : ℕ) → All (λ b. All (λ r. b.row ≡ Held r.id → r.constant.den ∣ e) p.rows) bys → All (λ x. x ∣ e) (denominators p ws)
room-divides p whole bys ws are all e h k x l =
    let b : By = record { row = Held 0; times = pos 0 } in
    let n : k < length ws = omega (arith, l, length-map ws (λ (w : Weighted). den_at p w.at)) in
    let at : IsRequiredAt p (get_or ws k no_weight).at = all k no_weight n in
    let name : (get_or bys k b).row ≡ Held (get_or p.rows (get_or ws k no_weight).at no_row).id =
    weighed-name p bys ws are k b n ∙ row_name p (get_or ws k no_weight).at (Held 0) at.row ∙ ap Held (get_or-map (λ (r : Row). r.id) p.rows (get_or ws k no_weight).at no_row 0 at.row) in
    let divides = h k b (omega (arith, n, same-length p bys ws are)) (get_or ws k no_weight).at no_row at.row name in
    subst (λ (x : ℕ). x ∣ e) (sym (get_or-map (λ (w : Weighted). den_at p w.at) ws k no_weight x n ∙ get_or-map (λ (r : Row). r.constant.den) p.rows (get_or ws k no_weight).at no_row 1 at.row)) divides

pub room-lost : (p : Problem) → IsWhole p → (bys : List By) (ws : List Weighted) → AreWeighed p bys ws → All (λ w. IsRequiredAt p w.at) ws → (n : ℕ) → Reaches p ws n → IsFirstWithoutRoom p bys n
room-lost p whole bys ws are all n (k, l, id, (d, small, least), (e, large, more)) =
    let b : By = record { row = Held 0; times = pos 0 } in
    let m : k < length bys = omega (arith, l, same-length p bys ws are) in
    let at : IsRequiredAt p (get_or ws k no_weight).at = all k no_weight l in (
      k,
      m,
      λ c. ap (λ (b : By). b.row) (get_or_default bys k c b m) ∙ weighed-name p bys ws are k b l ∙ row_name p (get_or ws k no_weight).at (Held 0) at.row ∙ ap Held (id no_weight),
      room-from p whole (take k bys) (take k ws) (taken p bys ws k are) d small least,
      λ (f, some, below, common).
          let divides : e ∣ f = more.least f (room-divides p whole (take (k + 1) bys) (take (k + 1) ws) (taken p bys ws (k + 1) are) (All-take (λ w. IsRequiredAt p w.at) (k + 1) ws all) f common) in
          omega (arith, le_of_dvd some divides, below, large),
    )

-- ---- constants

num-of : (p : Problem) (k : ℕ) (d : Line) → k < length p.rows → (get_or (lines p) k d).num ≡ num_at p k
num-of p k d l =
    sym (get_or-map (λ (l : Line). l.num) (lines p) k d (pos 0) (omega (arith, l, length-lines p)))
    ∙ row-at (λ l. l.num) p.rows (stay_lines 1001 p.stays) k no_row (pos 0) l ∙ sym (get_or-map (λ (r : Row). r.constant.num) p.rows k no_row (pos 0) l)

den-of : (p : Problem) (k : ℕ) (d : Line) → k < length p.rows → (get_or (lines p) k d).den ≡ den_at p k
den-of p k d l =
    sym (get_or-map (λ (l : Line). l.den) (lines p) k d 1 (omega (arith, l, length-lines p)))
    ∙ row-at (λ l. l.den) p.rows (stay_lines 1001 p.stays) k no_row 1 l ∙ sym (get_or-map (λ (r : Row). r.constant.den) p.rows k no_row 1 l)

crossed : (d q x a b : ℕ) → a * x ≡ d → b * x ≡ q → d * b ≡ q * a
crossed d q x a b e f = omega (arith, ap (λ (t : ℕ). t * b) e, ap (λ (t : ℕ). t * a) f)

required-dens : (p : Problem) → IsWhole p → Each (λ r. 0 < r.constant.den) (required p)
required-dens p whole =
    each-filter (λ r. 0 < r.constant.den) (λ r. nat_eq r.rank 1000) p.rows (each-impl IsRow (λ r. 0 < r.constant.den) p.rows (λ r h. h.constant.lowest.above) (recursion_from_All IsRow p.rows whole.rows))

whole-share : (p : Problem) → IsWhole p → (k : ℕ) → IsRequiredAt p k → product_of (λ (s : Row). s.constant.den) (required p) / den_at p k * den_at p k ≡ product_of (λ (s : Row). s.constant.den) (required p)
whole-share p whole k at =
    let q : ℕ = product_of (λ (s : Row). s.constant.den) (required p) in
    let tested = All-from_recursion (λ r. nat_eq r.rank 1000 ≡ true → product_of (λ (s : Row). s.constant.den) (required p) / r.constant.den * r.constant.den ≡ product_of (λ (s : Row). s.constant.den) (required p)) p.rows
    (each-tested (λ r. product_of (λ (s : Row). s.constant.den) (required p) / r.constant.den * r.constant.den ≡ product_of (λ (s : Row). s.constant.den) (required p)) (λ r. nat_eq r.rank 1000) p.rows
    (product-shares (λ (s : Row). s.constant.den) (required p) (product_of (λ (s : Row). s.constant.den) (required p)) 1 (omega arith) (required-dens p whole))) in
    subst (λ (x : ℕ). product_of (λ (s : Row). s.constant.den) (required p) / x * x ≡ product_of (λ (s : Row). s.constant.den) (required p)) (sym (get_or-map (λ (r : Row). r.constant.den) p.rows k no_row 1 at.row))
    (tested k no_row at.row (eq-eqb _ 1000 (at.rank no_row)))

constant-sum : (p : Problem) → IsWhole p → (bys : List By) (ws : List Weighted) → AreWeighed p bys ws → All (λ b. IsRequired p b.row) bys → All (λ w. IsRequiredAt p w.at) ws
    → sum_of (λ r. times_of bys (Held r.id) *ℤ (r.constant.num *ℤ pos (product_of (λ (s : Row). s.constant.den) (required p) / r.constant.den))) (required p)
    ≡ sum_of (λ w. w.times *ℤ (num_at p w.at *ℤ pos (product_of (λ (s : Row). s.constant.den) (required p) / den_at p w.at))) ws
constant-sum p whole bys ws are named all =
    let g : Line → ℤ = λ l. l.num *ℤ pos (product_of (λ (s : Row). s.constant.den) (required p) / l.den) in
    let d : Line = line_of_row no_row in
    sym (required-sum p whole bys named g) ∙ weighed-sum p whole bys ws are g (line_of_row no_row)
    ∙ sum-each (λ (w : Weighted). w.times *ℤ ((get_or (lines p) w.at (line_of_row no_row)).num *ℤ pos (product_of (λ (s : Row). s.constant.den) (required p) / (get_or (lines p) w.at (line_of_row no_row)).den)))
    (λ w. w.times *ℤ (num_at p w.at *ℤ pos (product_of (λ (s : Row). s.constant.den) (required p) / den_at p w.at))) ws
    (each-impl (λ w. IsRequiredAt p w.at) _ ws
    (λ w at. ap₂ (λ (n : ℤ) (x : ℕ). w.times *ℤ (n *ℤ pos (product_of (λ (s : Row). s.constant.den) (required p) / x))) (num-of p w.at (line_of_row no_row) at.row) (den-of p w.at (line_of_row no_row) at.row))
    (recursion_from_All (λ w. IsRequiredAt p w.at) ws all))

scaled-sums : (p : Problem) → IsWhole p → (ws : List Weighted) → All (λ w. IsRequiredAt p w.at) ws → (d : ℕ) → Each (λ w. den_at p w.at ∣ d) ws
    → pos d *ℤ sum_of (λ w. w.times *ℤ (num_at p w.at *ℤ pos (product_of (λ (s : Row). s.constant.den) (required p) / den_at p w.at))) ws
    ≡ pos (product_of (λ (s : Row). s.constant.den) (required p)) *ℤ sum_of (λ w. w.times *ℤ (num_at p w.at *ℤ pos (d / den_at p w.at))) ws
scaled-sums p whole ws all d divides =
    let q : ℕ = product_of (λ (s : Row). s.constant.den) (required p) in
    sym (mul-sum (pos d) (λ (w : Weighted). w.times *ℤ (num_at p w.at *ℤ pos (product_of (λ (s : Row). s.constant.den) (required p) / den_at p w.at))) ws)
    ∙ sum-each (λ (w : Weighted). pos d *ℤ (w.times *ℤ (num_at p w.at *ℤ pos (product_of (λ (s : Row). s.constant.den) (required p) / den_at p w.at))))
    (λ w. pos (product_of (λ (s : Row). s.constant.den) (required p)) *ℤ (w.times *ℤ (num_at p w.at *ℤ pos (d / den_at p w.at)))) ws
    (each-impl (λ w. IsRequiredAt p w.at × (den_at p w.at ∣ d)) _ ws
    (λ w h.
    shift_factor d (product_of (λ (s : Row). s.constant.den) (required p) / den_at p w.at) w.times (num_at p w.at)
    ∙ ap (λ (n : ℕ). pos n *ℤ (w.times *ℤ num_at p w.at))
    (crossed d (product_of (λ (s : Row). s.constant.den) (required p)) (den_at p w.at) (d / den_at p w.at) (product_of (λ (s : Row). s.constant.den) (required p) / den_at p w.at) (div-mul_cancel (den_at p w.at) h.1) (whole-share p whole w.at h.0))
    ∙ sym (shift_factor (product_of (λ (s : Row). s.constant.den) (required p)) (d / den_at p w.at) w.times (num_at p w.at)))
    (each-both _ _ ws (recursion_from_All (λ w. IsRequiredAt p w.at) ws all) divides))
    ∙ mul-sum (pos (product_of (λ (s : Row). s.constant.den) (required p))) (λ (w : Weighted). w.times *ℤ (num_at p w.at *ℤ pos (d / den_at p w.at))) ws

each-listed : (p : Problem) (d : ℕ) (ws : List Weighted) → Each (λ x. x ∣ d) (denominators p ws) → Each (λ w. den_at p w.at ∣ d) ws
each-listed p d [] h = tt
each-listed p d (w ∷ ws) h = (h.0, each-listed p d ws h.1)

pub above-zero : (p : Problem) → IsWhole p → (bys : List By) (ws : List Weighted) → AreWeighed p bys ws → All (λ b. IsRequired p b.row) bys → All (λ w. IsRequiredAt p w.at) ws → (d : ℕ) → 0 < d → All (λ x. x ∣ d) (denominators p ws)
    → (IsAboveZero p bys → pos 0 <ℤ sum_of (λ w. w.times *ℤ (num_at p w.at *ℤ pos (d / den_at p w.at))) ws) × (pos 0 <ℤ sum_of (λ w. w.times *ℤ (num_at p w.at *ℤ pos (d / den_at p w.at))) ws → IsAboveZero p bys)
above-zero p whole bys ws are named all d some divides =
    let same = constant-sum p whole bys ws are named all in
    let scaled = scaled-sums p whole ws all d (each-listed p d ws (recursion_from_All (λ x. x ∣ d) (denominators p ws) divides)) in
    let q_some : 0 < product_of (λ (s : Row). s.constant.den) (required p) = product-positive (λ (s : Row). s.constant.den) (required p) (required-dens p whole) in (
      λ h. positive_from (product_of (λ (s : Row). s.constant.den) (required p)) _ (subst (λ (z : ℤ). pos 0 <ℤ z) scaled (mul_positive d _ some (subst (λ (z : ℤ). pos 0 <ℤ z) same h))),
      λ h. subst (λ (z : ℤ). pos 0 <ℤ z) (sym same) (positive_from d _ (subst (λ (z : ℤ). pos 0 <ℤ z) (sym scaled) (mul_positive (product_of (λ (s : Row). s.constant.den) (required p)) _ q_some h))),
    )

-- ---- the cancelling of the rows

pub form-of : (p : Problem) (k : ℕ) (d : Line) → k < line_count p → (get_or (lines p) k d).form ≡ form_at p k
form-of p k d l = sym (get_or-map (λ (l : Line). l.form) (lines p) k d [] (omega (arith, l, length-lines p)))

cancel-sum : (p : Problem) → IsWhole p → (bys : List By) (ws : List Weighted) → AreWeighed p bys ws → All (λ b. IsRequired p b.row) bys → (v : ℕ) → sum_of (λ r. times_of bys (Held r.id) *ℤ coefficient v r.terms) (required p) ≡ sum_of (λ w. w.times *ℤ coefficient v (form_at p w.at)) ws
cancel-sum p whole bys ws are named v =
    sym (required-sum p whole bys named (λ l. coefficient v l.form)) ∙ weighed-sum p whole bys ws are (λ l. coefficient v l.form) (line_of_row no_row)
    ∙ sum-each (λ (w : Weighted). w.times *ℤ coefficient v (get_or (lines p) w.at (line_of_row no_row)).form) (λ w. w.times *ℤ coefficient v (form_at p w.at)) ws
    (each-impl (λ w. w.at < line_count p) _ ws (λ w l. ap (λ (f : List Term). w.times *ℤ coefficient v f) (form-of p w.at (line_of_row no_row) l)) (recursion_from_All (λ w. w.at < line_count p) ws are.below))

pub cancels-iff : (p : Problem) → IsWhole p → (bys : List By) (ws : List Weighted) → AreWeighed p bys ws → bys ≢ [] → All (λ w. IsRequiredAt p w.at) ws → (ok : Bool) → (IsTrue ok ↔ ((v : ℕ) → sum_of (λ w. w.times *ℤ coefficient v (form_at p w.at)) ws ≡ pos 0)) → IsTrue ok ↔ Cancels p bys
cancels-iff p whole bys ws are some all ok (f, g) =
    let named : All (λ b. IsRequired p b.row) bys = required-named p bys ws are all in (
      λ h. record { some = some; named = named; cancel = λ v. cancel-sum p whole bys ws are named v ∙ f h v },
      λ h. g (λ v. sym (cancel-sum p whole bys ws are named v) ∙ h.cancel v),
    )

pub not_empty : (bys : List By) → (length bys ≡ 0 → ⊥) → bys ≢ []
not_empty bys n e = n (ap (λ (xs : List By). length xs) e)

pub rows-count : (p : Problem) → IsWhole p → (bys : List By) (ws : List Weighted) → AreWeighed p bys ws → AreBys bys → All (λ w. IsRequiredAt p w.at) ws → length ws ≤ 4096
rows-count p whole bys ws are ok all =
    omega (arith, whole.row_count, weighed-count p bys ws (length p.rows) are ok (All-weaker (λ w. IsRequiredAt p w.at) (λ w. w.at < length p.rows) (λ w h. h.row) ws all))

pub lines-count : (p : Problem) → IsWhole p → (bys : List By) (ws : List Weighted) → AreWeighed p bys ws → AreBys bys → length ws ≤ 8192
lines-count p whole bys ws are ok = omega (arith, whole.row_count, whole.stay_count, weighed-count p bys ws (line_count p) are ok are.below)

pub required-fit : (p : Problem) (bys : List By) (ws : List Weighted) → AreWeighed p bys ws → AreBys bys → All (λ w. IsRequiredAt p w.at) ws → All (λ w. IsRequiredAt p w.at × IsFitting w.times) ws
required-fit p bys ws are ok all = λ k d l. (all k d l, (weighed-fit p bys ws are ok k d l).1)

-- an unknown name is that of no required row
pub required-known : (p : Problem) (row : RowName) → IsRequired p row → Contains (names p) row
required-known p row (i, r, l, is, (rank, name)) =
    let e : get_or (names p) i row ≡ row = row_name p i row l ∙ ap Held (get_or-map (λ (r : Row). r.id) p.rows i r 0 l ∙ ap (λ (r : Row). r.id) is) ∙ sym name in
    (i, omega (arith, l, length-names p), e)

pub unknown-cancels : (p : Problem) (bys : List By) → (All (λ b. Contains (names p) b.row) bys → ⊥) → Cancels p bys → ⊥
unknown-cancels p bys n h = n (All-weaker (λ b. IsRequired p b.row) (λ b. Contains (names p) b.row) (λ b k. required-known p b.row k) bys h.named)

pub conflict-Refutes : (p : Problem) (bys : List By) → Cancels p bys → AreSigned p bys → IsAboveZero p bys → IsRefutation p (λ id. times_of bys (Held id))
conflict-Refutes p bys h s a = record { cancel = h.cancel; signs = s; above_zero = a }

pub refutes-conflict : (p : Problem) → IsWhole p → (bys : List By) → Cancels p bys → AreSigned p bys → IsAboveZero p bys → IsInConflict p
refutes-conflict p whole bys h s a = refutation-IsInConflict p (whole-IsProblem p whole) (λ id. times_of bys (Held id)) (conflict-Refutes p bys h s a)

pub test-above : (z : ℤ) → IsTrue (lt_z (pos 0) z) → pos 0 <ℤ z
test-above z h = grind (arith, ints)

pub above-test : (z : ℤ) → pos 0 <ℤ z → IsTrue (lt_z (pos 0) z)
above-test z h = grind (arith, ints)

pub verdict-refutes : (p : Problem) (bys : List By) (v : Verdict) → IsConflictVerdict p bys v → v ≡ Yes → IsRefutation p (λ id. times_of bys (Held id))
verdict-refutes p bys v h e =
    let is : IsConflictVerdict p bys Yes = subst (IsConflictVerdict p bys) e h in
    conflict-Refutes p bys is.0 is.1 is.3

pub verdict-conflict : (p : Problem) → IsWhole p → (bys : List By) (v : Verdict) → IsConflictVerdict p bys v → v ≡ Yes → IsInConflict p
verdict-conflict p whole bys v h e =
    let is : IsConflictVerdict p bys Yes = subst (IsConflictVerdict p bys) e h in
    refutes-conflict p whole bys is.0 is.1 is.3
