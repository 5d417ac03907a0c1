-- A problem has at most one best assignment: the point midway between two that differ at a stay would cost less than either.
use Rattle.std.proofs.Common.{◌≡◌, ℕ, zero, suc, ◌+◌, ◌-◌, ◌*◌, ◌<◌, ◌≤◌, Bool, true, false, cond, nat_eq, List, [], ◌∷◌, ◌++◌, map, length, get_or, ℤ, pos, negsuc, ◌+ℤ◌, ◌-ℤ◌, ◌*ℤ◌, refl, sym, ap, ap₂, subst, ◌∙◌, inl, inr, ◌⊎◌, arith, mul-pos, mul-le-mul_left, mul-le-mul_right, ne_eqb, eq-eqb, zero-add, zero-mul}
use Rattle.std.specs.List.{AllByRecursion as Each}
use Rattle.std.proofs.lemmas.List.Elements.{recursion_from_All}
use Rattle.std.proofs.lemmas.Bool.{cases_order, cases_lt, cases_eq}
use borrow.Author.Differences.{ints}
use Rattle.problem_core.specs.declared.parts.Stay.{Stay}
use Rattle.problem_core.specs.declared.parts.Term.{Term}
use Rattle.problem_core.specs.declared.parts.Rel.{Rel}
use Rattle.problem_core.specs.declared.parts.Rel.TheVariants.{Eq, Ge, Le}
use Rattle.problem_core.specs.Layout.{Row, Line, Problem, Assignment, IsProblem, IsBest, IsLess, AreSame, lines, line_of_row, line_of_stay, stay_lines, gap, error, error_of, above, below, common, share, cost, count_of, value_at}
use Rattle.frac_core.proofs.Integers.{gap-midpoint, gap-same, mul-add_left, add-mul_right, mul_assoc_ℤ}
use Rattle.problem_core.proofs.Forms.{product-positive, product-shares, each-impl}
use Rattle.frac_core.proofs.Gauss.{above_left as left-positive}
use Rattle.frac_core.proofs.Lists.{each-right}

-- ---- two best assignments cost the same

-- c and d are the costs by level, each times the other's denominator
same-below : (c d : ℕ → ℕ) → ((level : ℕ) → ((k : ℕ) → k < level → c k ≡ d k) → c level < d level → ⊥) → ((level : ℕ) → ((k : ℕ) → k < level → d k ≡ c k) → d level < c level → ⊥) → (n k : ℕ) → k < n → c k ≡ d k
same-below c d h g zero k l = absurd (omega arith)
same-below c d h g (suc n) k l =
    let before : (j : ℕ) → j < n → c j ≡ d j = λ j m. same-below c d h g n j m in
    elim (cases_eq k n) [
      | inl e ↦ rw e (elim (cases_order (c n) (d n)) [
        | inl f ↦ f
        | inr f ↦ elim f [ inl m ↦ absurd (h n before m) | inr m ↦ absurd (g n (λ j q. sym (before j q)) m) ]
      ])
      | inr e ↦ before k (omega arith)
    ]

-- where c is nowhere above d, and somewhere below it, it is lexicographically less
first-below : (c d : ℕ → ℕ) → ((k : ℕ) → c k ≤ d k) → (n : ℕ) → ((k : ℕ) → k < n → c k ≡ d k) ⊎ ((level : ℕ) × ((k : ℕ) → k < level → c k ≡ d k) × (c level < d level))
first-below c d h zero = inl (λ k l. absurd (omega arith))
first-below c d h (suc n) =
    elim (first-below c d h n) [
      | inl e ↦ elim (cases_lt (c n) (d n)) [
        | inl l ↦ inr (n, e, l)
        | inr l ↦ inl (λ k m. elim (cases_eq k n) [ inl q ↦ rw q (let b : c n ≤ d n = h n in omega arith) | inr q ↦ e k (omega arith) ])
      ]
      | inr r ↦ inr r
    ]

-- ---- the midpoint

midpoint : Assignment → Assignment → Assignment
midpoint x y = record {
  den = 2 * (x.den * y.den);
  num = λ v. x.num v *ℤ pos y.den +ℤ y.num v *ℤ pos x.den;
  positive = omega (arith, mul-pos x.positive y.positive);
}

value-mid : (n m : ℕ → ℤ) (d e : ℤ) (form : List Term) → value_at (λ v. n v *ℤ e +ℤ m v *ℤ d) form ≡ value_at n form *ℤ e +ℤ value_at m form *ℤ d
value-mid n m d e [] = omega (arith, ints)
value-mid n m d e (a ∷ form) =
    omega (
      arith,
      ints,
      value-mid n m d e form,
      mul-add_left a.by (n a.attr *ℤ e) (m a.attr *ℤ d),
      mul_assoc_ℤ a.by (n a.attr) e,
      mul_assoc_ℤ a.by (m a.attr) d,
      add-mul_right (a.by *ℤ n a.attr) (value_at n form) e,
      add-mul_right (a.by *ℤ m a.attr) (value_at m form) d,
    )

gap-mid : (x y : Assignment) (l : Line) → gap (midpoint x y) l ≡ pos y.den *ℤ gap x l +ℤ pos x.den *ℤ gap y l
unfolding midpoint
gap-mid x y l =
    ap (λ (t : ℤ). pos l.den *ℤ t -ℤ l.num *ℤ pos (2 * (x.den * y.den))) (value-mid x.num y.num (pos x.den) (pos y.den) l.form)
    ∙ gap-midpoint l.den x.den y.den (value_at x.num l.form) (value_at y.num l.form) l.num

pub sides-mid : (e d : ℕ) (g h : ℤ) → pos e *ℤ g +ℤ pos d *ℤ h ≡ pos (e * above g + d * above h) -ℤ pos (e * below g + d * below h)
sides-mid e d (pos a) (pos b) = omega (arith, ints)
sides-mid e d (pos a) (negsuc b) = omega (arith, ints)
sides-mid e d (negsuc a) (pos b) = omega (arith, ints)
sides-mid e d (negsuc a) (negsuc b) = omega (arith, ints)

pub at_most_sides : (z : ℤ) (p n : ℕ) → z ≡ pos p -ℤ pos n → (above z ≤ p) × (below z ≤ n)
at_most_sides (pos a) p n e = (omega (arith, ints), omega arith)
at_most_sides (negsuc a) p n e = (omega arith, omega (arith, ints))

pub error-mid : (rel : Rel) (e d : ℕ) (g h : ℤ) → error_of rel (pos e *ℤ g +ℤ pos d *ℤ h) ≤ e * error_of rel g + d * error_of rel h
error-mid Eq e d g h = omega (arith, at_most_sides (pos e *ℤ g +ℤ pos d *ℤ h) (e * above g + d * above h) (e * below g + d * below h) (sides-mid e d g h))
error-mid Ge e d g h = omega (arith, at_most_sides (pos e *ℤ g +ℤ pos d *ℤ h) (e * above g + d * above h) (e * below g + d * below h) (sides-mid e d g h))
error-mid Le e d g h = omega (arith, at_most_sides (pos e *ℤ g +ℤ pos d *ℤ h) (e * above g + d * above h) (e * below g + d * below h) (sides-mid e d g h))

pub count-mid : {A : Type 0} (e d : ℕ) (f g h : A → ℕ) (xs : List A) → ((x : A) → f x ≤ e * g x + d * h x) → count_of f xs ≤ e * count_of g xs + d * count_of h xs
count-mid e d f g h [] k = omega arith
count-mid e d f g h (x ∷ xs) k = omega (arith, k x, count-mid e d f g h xs k)

pub weighted-mid : (b : Bool) (e d w m g h s : ℕ) → m ≤ e * g + d * h → cond b (w * m * s) 0 ≤ e * cond b (w * g * s) 0 + d * cond b (w * h * s) 0
weighted-mid true e d w m g h s l = omega (arith, mul-le-mul_right s (mul-le-mul_left w l))
weighted-mid false e d w m g h s l = omega arith

cost-mid : (ls : List Line) (x y : Assignment) (level : ℕ) → cost ls (midpoint x y) level ≤ y.den * cost ls x level + x.den * cost ls y level
cost-mid ls x y level =
    count-mid y.den x.den _ _ _ ls
    (λ l. weighted-mid (nat_eq l.level level) y.den x.den l.weight (error (midpoint x y) l) (error x l) (error y l) (share ls l)
    (subst (λ (g : ℤ). error_of l.rel g ≤ y.den * error x l + x.den * error y l) (sym (gap-mid x y l)) (error-mid l.rel y.den x.den (gap x l) (gap y l))))

-- ---- a stay's level has that stay alone

pub none-at : (level : ℕ) (h : Line → ℕ) (rows : List Row) → 1000 < level → count_of (λ l. cond (nat_eq l.level level) (h l) 0) (map line_of_row rows) ≡ 0
none-at level h [] l = refl
none-at level h (r ∷ rows) l = omega (arith, none-at level h rows l, ap (λ (b : Bool). cond b (h (line_of_row r)) 0) (ne_eqb (1000 - r.rank) level (omega arith)))

pub none-before : (level base : ℕ) (h : Line → ℕ) (stays : List Stay) → level < base → count_of (λ l. cond (nat_eq l.level level) (h l) 0) (stay_lines base stays) ≡ 0
none-before level base h [] l = refl
none-before level base h (s ∷ stays) l = omega (arith, none-before level (base + 1) h stays (omega arith), ap (λ (b : Bool). cond b (h (line_of_stay base s)) 0) (ne_eqb base level (omega arith)))

one-at : (base level : ℕ) (h : Line → ℕ) (stays : List Stay) (k : ℕ) (d : Stay) → level ≡ base + k → k < length stays → count_of (λ l. cond (nat_eq l.level level) (h l) 0) (stay_lines base stays) ≡ h (line_of_stay level (get_or stays k d))
one-at base level h [] k d e l = absurd (omega arith)
one-at base level h (s ∷ stays) zero d e l =
    omega (
      arith,
      none-before level (base + 1) h stays (omega arith),
      ap (λ (b : Bool). cond b (h (line_of_stay base s)) 0) (eq-eqb base level (omega arith)),
      ap (λ (n : ℕ). h (line_of_stay n s)) (let f : base ≡ level = omega arith in f),
    )
one-at base level h (s ∷ stays) (suc k) d e l =
    omega (arith, one-at (base + 1) level h stays k d (omega arith) (omega arith), ap (λ (b : Bool). cond b (h (line_of_stay base s)) 0) (ne_eqb base level (omega arith)))

pub count-append : {A : Type 0} (f : A → ℕ) (xs ys : List A) → count_of f (xs ++ ys) ≡ count_of f xs + count_of f ys
count-append f [] ys = omega arith
count-append f (x ∷ xs) ys = omega (arith, count-append f xs ys)

cost-stay : (p : Problem) (x : Assignment) (k : ℕ) (d : Stay) → k < length p.stays → cost (lines p) x (1001 + k) ≡ 1 * error x (line_of_stay (1001 + k) (get_or p.stays k d)) * share (lines p) (line_of_stay (1001 + k) (get_or p.stays k d))
cost-stay p x k d l =
    let h : Line → ℕ = λ l. l.weight * error x l * share (lines p) l in
    count-append _ (map line_of_row p.rows) (stay_lines 1001 p.stays)
    ∙ ap₂ ◌+◌ (none-at (1001 + k) h p.rows (omega arith)) (one-at 1001 (1001 + k) h p.stays k d refl l)
    ∙ zero-add _

each-stay : (P : Line → Type 0) (base level : ℕ) (stays : List Stay) (k : ℕ) (d : Stay) → level ≡ base + k → k < length stays → Each P (stay_lines base stays) → P (line_of_stay level (get_or stays k d))
each-stay P base level [] k d e l h = absurd (omega arith)
each-stay P base level (s ∷ stays) zero d e l h = subst (λ (n : ℕ). P (line_of_stay n s)) (let f : base ≡ level = omega arith in f) h.0
each-stay P base level (s ∷ stays) (suc k) d e l h = each-stay P (base + 1) level stays k d (omega arith) (omega arith) h.1

-- ---- the two gaps at a stay

same_or_apart : (g h : ℤ) (d e : ℕ) → 0 < d → 0 < e → (above g + below g) * e ≡ (above h + below h) * d → (pos e *ℤ g ≡ pos d *ℤ h) ⊎ ((pos e *ℤ g +ℤ pos d *ℤ h ≡ pos 0) × (0 < above g + below g))
same_or_apart (pos a) (pos b) d e p q s = inl (omega (arith, ints, s))
same_or_apart (negsuc a) (negsuc b) d e p q s = inl (omega (arith, ints, s))
same_or_apart (pos a) (negsuc b) d e p q s = inr (omega (arith, ints, s), left-positive (a + 0) e ((0 + (b + 1)) * d) s (mul-pos (omega arith) p))
same_or_apart (negsuc a) (pos b) d e p q s = inr (omega (arith, ints, s), omega arith)

pub cancel : (s a b : ℕ) → 0 < s → a * s ≡ b * s → a ≡ b
cancel s a b h e =
    elim (cases_order a b) [
      | inl f ↦ f
      | inr f ↦ elim f [ inl m ↦ absurd (omega (arith, mul-le-mul_right s m)) | inr m ↦ absurd (omega (arith, mul-le-mul_right s m)) ]
    ]

zero-times : (s : ℕ) → 1 * 0 * s ≡ 0
zero-times s = omega arith

-- where the gaps at a stay are opposite, the midpoint costs less
apart : (p : Problem) (x y : Assignment) (k : ℕ) (d : Stay) → k < length p.stays → ((z : Assignment) → IsLess p z x → ⊥) → ((j : ℕ) → cost (lines p) x j * y.den ≡ cost (lines p) y j * x.den) → 0 < share (lines p) (line_of_stay (1001 + k) (get_or p.stays k d)) → pos y.den *ℤ gap x (line_of_stay (1001 + k) (get_or p.stays k d)) +ℤ pos x.den *ℤ gap y (line_of_stay (1001 + k) (get_or p.stays k d)) ≡ pos 0 → 0 < error x (line_of_stay (1001 + k) (get_or p.stays k d)) → ⊥
unfolding midpoint
apart p x y k d l best same some opposite wrong =
    let at : Line = line_of_stay (1001 + k) (get_or p.stays k d) in
    let z : Assignment = midpoint x y in
    let none : error (midpoint x y) (line_of_stay (1001 + k) (get_or p.stays k d)) ≡ 0 = ap (λ (g : ℤ). above g + below g) (gap-mid x y at ∙ opposite) in
    let left : cost (lines p) (midpoint x y) (1001 + k) * x.den ≡ 0 =
    ap (λ (t : ℕ). t * x.den) (cost-stay p (midpoint x y) k d l ∙ ap (λ (t : ℕ). 1 * t * share (lines p) (line_of_stay (1001 + k) (get_or p.stays k d))) none ∙ zero-times (share (lines p) (line_of_stay (1001 + k) (get_or p.stays k d)))) ∙ zero-mul x.den in
    let right : 0 < cost (lines p) x (1001 + k) * (2 * (x.den * y.den)) =
    subst (λ (t : ℕ). 0 < t * (2 * (x.den * y.den))) (sym (cost-stay p x k d l)) (mul-pos (mul-pos (mul-pos (omega arith) wrong) some) (mul-pos (omega arith) (mul-pos x.positive y.positive))) in
    let below_all : (j : ℕ) → cost (lines p) (midpoint x y) j * x.den ≤ cost (lines p) x j * (2 * (x.den * y.den)) = λ j.
    omega (arith, mul-le-mul_right x.den (cost-mid (lines p) x y j), ap (λ (t : ℕ). t * x.den) (same j)) in
    elim (first-below (λ j. cost (lines p) (midpoint x y) j * x.den) (λ j. cost (lines p) x j * (2 * (x.den * y.den))) below_all (suc (1001 + k))) [
      | inl e ↦ let f = e (1001 + k) (omega arith) in omega (arith, f, left, right)
      | inr e ↦ best (midpoint x y) e
    ]

pub best-AreSame : (p : Problem) → IsProblem p → (x y : Assignment) → IsBest p x → IsBest p y → AreSame p x y
best-AreSame p ok x y b c k d l =
    let at : Line = line_of_stay (1001 + k) (get_or p.stays k d) in
    let fine = recursion_from_All _ _ ok in
    let dens : (0 < 1) × (0 < (get_or p.stays k d).target.den) =
    each-stay (λ l. (0 < l.scale) × (0 < l.den)) 1001 (1001 + k) p.stays k d refl l (each-right _ (map line_of_row p.rows) _ fine) in
    let products : Each (λ l. 0 < l.scale * l.den) (lines p) = each-impl (λ l. (0 < l.scale) × (0 < l.den)) _ (lines p) (λ l h. mul-pos h.0 h.1) fine in
    let whole : share (lines p) at * (1 * (get_or p.stays k d).target.den) ≡ common (lines p) =
    each-stay (λ l. share (lines p) l * (l.scale * l.den) ≡ common (lines p)) 1001 (1001 + k) p.stays k d refl l
    (each-right _ (map line_of_row p.rows) _ (product-shares (λ l. l.scale * l.den) (lines p) (common (lines p)) 1 (omega arith) products)) in
    let some : 0 < share (lines p) at = left-positive _ _ (common (lines p)) whole (product-positive (λ l. l.scale * l.den) (lines p) products) in
    let same : (j : ℕ) → cost (lines p) x j * y.den ≡ cost (lines p) y j * x.den = λ j.
    same-below (λ i. cost (lines p) x i * y.den) (λ i. cost (lines p) y i * x.den) (λ n f m. c.1 x (n, f, m)) (λ n f m. b.1 y (n, f, m)) (suc j) j (omega arith) in
    let errors : (above (gap x at) + below (gap x at)) * y.den ≡ (above (gap y at) + below (gap y at)) * x.den =
    cancel (share (lines p) at) _ _ some (omega (arith, same (1001 + k), ap (λ (t : ℕ). t * y.den) (cost-stay p x k d l), ap (λ (t : ℕ). t * x.den) (cost-stay p y k d l))) in
    elim (same_or_apart (gap x at) (gap y at) x.den y.den x.positive y.positive errors) [
      | inl e ↦ gap-same (get_or p.stays k d).target.den x.den y.den _ _ (get_or p.stays k d).target.num dens.1 e
      | inr e ↦ absurd (apart p x y k d l b.1 same some e.0 e.1)
    ]
