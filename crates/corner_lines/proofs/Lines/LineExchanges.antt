-- Lines' equations at the next corner.
use Rattle.std.proofs.Common.{◌≡◌, ◌≢◌, ◌∙◌, ℕ, ◌<◌, List, [], ◌∷◌, map, ℤ, pos, ◌+ℤ◌, ◌-ℤ◌, ◌*ℤ◌, neg_ℤ, unsigned_abs, refl, sym, ap, ap₂, subst, arith, inl, inr, ◌⊎◌, All, Contains}
use Rattle.std.specs.Int.{◌∣◌}
use Rattle.std.specs.List.{AllByRecursion as Each}
use Rattle.std.proofs.lemmas.Bool.{cases_eq}
use Rattle.std.proofs.lemmas.List.Elements.{All-from_recursion, recursion_from_All}
use lib.IntN.{*ℤ_comm}
use borrow.Author.Differences.{ints}
use Rattle.frac_core.specs.Fraction.{Fraction, IsRatio, sum_den, sum_num}
use Rattle.frac_core.proofs.Integers.{cancel_mul, mul-sub_left, mul_assoc_ℤ, mul_left_comm_ℤ, mul-zero_ℤ, zero-mul_ℤ, zero-add_ℤ, add-zero_ℤ}
use Rattle.problem_core.specs.declared.parts.Mark.{Mark}
use Rattle.problem_core.specs.declared.parts.RowName.{RowName}
use Rattle.problem_core.specs.declared.parts.Side.{Side}
use Rattle.problem_core.specs.declared.parts.Side.TheVariants.{Under, Over}
use Rattle.problem_core.specs.Layout.{Line, Problem, lines, sum_of}
use Rattle.problem_core.specs.Kept.{IsWhole}
use Rattle.problem_core.specs.Window.{zero_fraction}
use Rattle.problem_core.specs.Corners.{IsCorner, IsIn, Swap, exchanged, marks_of, one_column, place, place_of}
use Rattle.problem_core.proofs.Forms.{each-impl, each-both, mul-sum, sum-add, sum-zero}
use Rattle.corner_laws.proofs.Exchanged.{exchanged_in}
use Rattle.corner_laws.proofs.LinePlaces.{AllApart, AreApart, lines_apart}
use Rattle.corner_lines.specs.LineEquations.{IsLineEquation, IsOutsideLine, deviation, sign_of}
use Rattle.corner_lines.specs.LineExchanges.{IsPivotRow}
use Rattle.corner_lines.proofs.Lines.MarkForms.{same-name}
use Rattle.corner_lines.proofs.Lines.LineWritings.{Named, at-name, factor-of, inside-named, mark-named, none-inside, other-out, same-abs}
use Rattle.frac_core.proofs.Numbers.{add-comm, neg-times}
use Rattle.frac_core.proofs.Quotients.{size_opposite as neg-abs}

-- ---- sums over lines by their names

each-zero : (F : RowName → ℤ) (k : RowName) (l : Line) (ls : List Line) → l.name ≡ k → Each (AreApart l) ls → Each (λ l. l.name ≢ k → F l.name ≡ pos 0) ls → Each (λ l. F l.name ≡ pos 0) ls
each-zero F k l [] e apart h = tt
each-zero F k l (m ∷ ls) e apart h = (h.0 (λ q. apart.0.under_under (ap (λ (n : RowName). place_of n Under) (e ∙ sym q))), each-zero F k l ls e apart.1 h.1)

pub apart-from : (l : Line) (ls : List Line) → Each (AreApart l) ls → (k : RowName) → Named k ls → l.name ≢ k
apart-from l ls apart k n = at-name (λ m. l.name ≢ m) k ls n (each-impl (AreApart l) (λ m. l.name ≢ m.name) ls (λ m a q. a.under_under (ap (λ (n : RowName). place_of n Under) q)) apart)

-- a sum in which one line alone counts
pub single : (F : RowName → ℤ) (k : RowName) (ls : List Line) → AllApart ls → Named k ls → Each (λ l. l.name ≢ k → F l.name ≡ pos 0) ls → sum_of (λ l. F l.name) ls ≡ F k
single F k [] apart n h = absurd n
single F k (l ∷ ls) apart (inl e) h = ap₂ ◌+ℤ◌ (ap F e) (sum-zero (λ (m : Line). F m.name) ls (each-zero F k l ls e apart.0 h.1)) ∙ add-zero_ℤ (F k)
single F k (l ∷ ls) apart (inr n) h = ap₂ ◌+ℤ◌ (h.0 (apart-from l ls apart.0 k n)) (single F k ls apart.1 n h.1) ∙ zero-add_ℤ (F k)

one-less : (F : RowName → ℤ) (j k : RowName) (l : Line) (ls : List Line) → l.name ≡ j → Each (AreApart l) ls → Each (λ l. l.name ≢ j → l.name ≢ k → F l.name ≡ pos 0) ls → Each (λ l. l.name ≢ k → F l.name ≡ pos 0) ls
one-less F j k l [] e apart h = tt
one-less F j k l (m ∷ ls) e apart h = (h.0 (λ q. apart.0.under_under (ap (λ (n : RowName). place_of n Under) (e ∙ sym q))), one-less F j k l ls e apart.1 h.1)

turned-pair : (F : RowName → ℤ) (j k : RowName) (ls : List Line) → Each (λ l. l.name ≢ j → l.name ≢ k → F l.name ≡ pos 0) ls → Each (λ l. l.name ≢ k → l.name ≢ j → F l.name ≡ pos 0) ls
turned-pair F j k ls h = each-impl (λ l. l.name ≢ j → l.name ≢ k → F l.name ≡ pos 0) (λ l. l.name ≢ k → l.name ≢ j → F l.name ≡ pos 0) ls (λ l f a b. f b a) h

-- a sum in which two lines count
pub two : (F : RowName → ℤ) (j k : RowName) (ls : List Line) → j ≢ k → AllApart ls → Named j ls → Named k ls → Each (λ l. l.name ≢ j → l.name ≢ k → F l.name ≡ pos 0) ls → sum_of (λ l. F l.name) ls ≡ F j +ℤ F k
two F j k [] ne apart n m h = absurd n
two F j k (l ∷ ls) ne apart (inl e) (inl f) h = absurd (ne (sym e ∙ f))
two F j k (l ∷ ls) ne apart (inl e) (inr m) h = ap₂ ◌+ℤ◌ (ap F e) (single F k ls apart.1 m (one-less F j k l ls e apart.0 h.1))
two F j k (l ∷ ls) ne apart (inr n) (inl f) h = ap₂ ◌+ℤ◌ (ap F f) (single F j ls apart.1 n (one-less F k j l ls f apart.0 (turned-pair F j k ls h.1))) ∙ add-comm (F k) (F j)
two F j k (l ∷ ls) ne apart (inr n) (inr m) h =
    ap₂ ◌+ℤ◌ (h.0 (apart-from l ls apart.0 j n) (apart-from l ls apart.0 k m)) (two F j k ls ne apart.1 n m h.1) ∙ zero-add_ℤ (F j +ℤ F k)

-- ---- outside lines after an exchange

-- a line other than the entering mark's that was outside is so after
pub still-outside : (s : Swap) (at : List Mark) (name : RowName) → name ≢ s.enter.row → IsOutsideLine at name → IsOutsideLine (exchanged s at) name
still-outside s at name ne out = record {
  under = λ i. elim (exchanged_in s at (place_of name Under) i) [
    | inl e ↦ ne (same-name name s.enter.row Under s.enter.side e)
    | inr r ↦ out.under r.0
  ];
  over = λ i. elim (exchanged_in s at (place_of name Over) i) [
    | inl e ↦ ne (same-name name s.enter.row Over s.enter.side e)
    | inr r ↦ out.over r.0
  ];
}

pub outside-stays : (p : Problem) (at : List Mark) (s : Swap) (by : RowName → ℤ) → by s.enter.row ≡ pos 0 → All (λ l. by l.name ≢ pos 0 → IsOutsideLine at l.name) (lines p) → All (λ l. by l.name ≢ pos 0 → IsOutsideLine (exchanged s at) l.name) (lines p)
outside-stays p at s by none outside =
    All-from_recursion (λ l. by l.name ≢ pos 0 → IsOutsideLine (exchanged s at) l.name) (lines p)
    (each-impl (λ l. by l.name ≢ pos 0 → IsOutsideLine at l.name) _ (lines p)
    (λ l h some. still-outside s at l.name (λ e. some (ap by e ∙ none)) (h some))
    (recursion_from_All _ (lines p) outside))

-- an equation without the entering line stays
pub line_stays : (p : Problem) (at : List Mark) (s : Swap) (quantity : (ℕ → ℤ) → ℤ) (own : ℕ) (by : RowName → ℤ) (num : ℤ) (den : ℕ) → IsLineEquation p at quantity own by num den → by s.enter.row ≡ pos 0 → IsLineEquation p (exchanged s at) quantity own by num den
line_stays p at s quantity own by num den e none = record {
  own_positive = e.own_positive;
  den_positive = e.den_positive;
  outside = outside-stays p at s by none e.outside;
  holds = e.holds;
  lowest = e.lowest;
}

-- all equations stay where a line turns
pub line_turns : (p : Problem) (at : List Mark) (s : Swap) (quantity : (ℕ → ℤ) → ℤ) (own : ℕ) (by : RowName → ℤ) (num : ℤ) (den : ℕ) → IsCorner p at → IsIn (place s.leave) at → s.enter.row ≡ s.leave.row → IsLineEquation p at quantity own by num den → IsLineEquation p (exchanged s at) quantity own by num den
line_turns p at s quantity own by num den corner leaves same e =
    line_stays p at s quantity own by num den e (ap by same ∙ none-inside p at by s.leave.row s.leave.side e.outside corner leaves)

-- the leaving line, whose other mark was outside, is outside after
left-outside : (p : Problem) (at : List Mark) (s : Swap) → IsWhole p → IsCorner p at → IsIn (place s.leave) at → s.leave.row ≢ s.enter.row → (side : Side) → IsIn (place_of s.leave.row side) (exchanged s at) → ⊥
left-outside p at s whole corner leaves ne side i =
    elim (exchanged_in s at (place_of s.leave.row side) i) [
      | inl e ↦ ne (same-name s.leave.row s.enter.row side s.enter.side e)
      | inr r ↦ by-sides s.leave.side side leaves r.0 r.1
    ]
  where
    by-sides : (a b : Side) → IsIn (place_of s.leave.row a) at → IsIn (place_of s.leave.row b) at → place_of s.leave.row b ≢ place_of s.leave.row a → ⊥
    by-sides Under Under x y n = n refl
    by-sides Under Over x y n = other-out p at s.leave.row Under whole corner x y
    by-sides Over Under x y n = other-out p at s.leave.row Over whole corner x y
    by-sides Over Over x y n = n refl

-- ---- the entering line's equation

opposite-part : (s b d : ℤ) → neg_ℤ (s *ℤ b) *ℤ d +ℤ s *ℤ (b *ℤ d) ≡ pos 0
opposite-part s b d = let a = neg-times (s *ℤ b) d in let c = mul_assoc_ℤ s b d in omega (arith, ints, a, c)

enter-part : (s b t d p : ℤ) → t ≡ pos 0 → p ≡ s *ℤ b → t *ℤ d +ℤ s *ℤ (b *ℤ d) ≡ p *ℤ d
enter-part s b t d p e f = ap₂ ◌+ℤ◌ (ap (λ (z : ℤ). z *ℤ d) e ∙ zero-mul_ℤ d) (sym (mul_assoc_ℤ s b d) ∙ ap (λ (z : ℤ). z *ℤ d) (sym f)) ∙ zero-add_ℤ (p *ℤ d)

leave-part : (s b t d k : ℤ) → t ≡ s *ℤ k → b ≡ pos 0 → t *ℤ d +ℤ s *ℤ (b *ℤ d) ≡ s *ℤ (k *ℤ d)
leave-part s b t d k e f = ap₂ ◌+ℤ◌ (ap (λ (z : ℤ). z *ℤ d) e ∙ mul_assoc_ℤ s k d) (ap (λ (z : ℤ). s *ℤ (z *ℤ d)) f ∙ ap (λ (z : ℤ). s *ℤ z) (zero-mul_ℤ d) ∙ mul-zero_ℤ s) ∙ add-zero_ℤ (s *ℤ (k *ℤ d))

pivot-sum : (ls : List Line) (enter leave : RowName) (way : Side) (own : ℕ) (by : RowName → ℤ) (pivot : ℕ) (to : RowName → ℤ) (x : ℕ → ℤ) → AllApart ls → Named enter ls → Named leave ls → enter ≢ leave → by leave ≡ pos 0 → IsPivotRow ls enter leave way own by pivot to
    → sum_of (λ l. to l.name *ℤ deviation l.name x) ls +ℤ sign_of way *ℤ sum_of (λ l. by l.name *ℤ deviation l.name x) ls ≡ pos pivot *ℤ deviation enter x +ℤ sign_of way *ℤ (pos own *ℤ deviation leave x)
pivot-sum ls enter leave way own by pivot to x apart n m ne none r =
    ap (λ (z : ℤ). sum_of (λ l. to l.name *ℤ deviation l.name x) ls +ℤ z) (sym (mul-sum (sign_of way) (λ (l : Line). by l.name *ℤ deviation l.name x) ls))
    ∙ sym (sum-add (λ (l : Line). to l.name *ℤ deviation l.name x) (λ l. sign_of way *ℤ (by l.name *ℤ deviation l.name x)) ls)
    ∙ two (λ k. to k *ℤ deviation k x +ℤ sign_of way *ℤ (by k *ℤ deviation k x)) enter leave ls ne apart n m
    (each-impl (λ l. l.name ≢ enter → l.name ≢ leave → to l.name ≡ neg_ℤ (sign_of way *ℤ by l.name)) _ ls
    (λ l h a b. ap (λ (z : ℤ). z *ℤ deviation l.name x +ℤ sign_of way *ℤ (by l.name *ℤ deviation l.name x)) (h a b) ∙ opposite-part (sign_of way) (by l.name) (deviation l.name x))
    (recursion_from_All _ ls r.others))
    ∙ ap₂ ◌+ℤ◌ (enter-part (sign_of way) (by enter) (to enter) (deviation enter x) (pos pivot) r.at_enter r.size) (leave-part (sign_of way) (by leave) (to leave) (deviation leave x) (pos own) r.at_leave none)

-- vd*(own*dk - S) = own*(vn*one), T + s*S = p*dj + s*(own*dk), num*(1*(p*vd)) = (0*.. + n*(vn*1))*den with n = -(s*own)
pivot-value : (vd own pivot den : ℕ) (s dk dj S T vn num one : ℤ) → 0 < vd → pos vd *ℤ (pos own *ℤ dk -ℤ S) ≡ pos own *ℤ (vn *ℤ one) → T +ℤ s *ℤ S ≡ pos pivot *ℤ dj +ℤ s *ℤ (pos own *ℤ dk)
    → num *ℤ (pos pivot *ℤ pos vd) ≡ (neg_ℤ (s *ℤ pos own) *ℤ vn) *ℤ pos den → pos den *ℤ (pos pivot *ℤ dj -ℤ T) ≡ pos pivot *ℤ (num *ℤ one)
pivot-value vd own pivot den s dk dj S T vn num one above h t r =
    let A : ℤ = pos own *ℤ dk -ℤ S in
    let split = mul-sub_left s (pos own *ℤ dk) S in
    let inner : pos pivot *ℤ dj -ℤ T ≡ neg_ℤ s *ℤ A = (let g : pos pivot *ℤ dj -ℤ T ≡ neg_ℤ (s *ℤ A) = omega (arith, ints, t, split) in g) ∙ sym (neg-times s A) in
    let left : pos vd *ℤ (pos den *ℤ (neg_ℤ s *ℤ A)) ≡ pos den *ℤ (neg_ℤ s *ℤ (pos own *ℤ (vn *ℤ one))) =
    mul_left_comm_ℤ (pos vd) (pos den) (neg_ℤ s *ℤ A) ∙ ap (λ (z : ℤ). pos den *ℤ z) (mul_left_comm_ℤ (pos vd) (neg_ℤ s) A ∙ ap (λ (z : ℤ). neg_ℤ s *ℤ z) h) in
    let right : pos vd *ℤ (pos pivot *ℤ (num *ℤ one)) ≡ ((neg_ℤ (s *ℤ pos own) *ℤ vn) *ℤ pos den) *ℤ one =
    ap (λ (z : ℤ). pos vd *ℤ z) (mul_left_comm_ℤ (pos pivot) num one) ∙ mul_left_comm_ℤ (pos vd) num (pos pivot *ℤ one)
    ∙ ap (λ (z : ℤ). num *ℤ z) (mul_left_comm_ℤ (pos vd) (pos pivot) one ∙ sym (mul_assoc_ℤ (pos pivot) (pos vd) one)) ∙ sym (mul_assoc_ℤ num (pos pivot *ℤ pos vd) one) ∙ ap (λ (z : ℤ). z *ℤ one) r in
    let same : ((neg_ℤ (s *ℤ pos own) *ℤ vn) *ℤ pos den) *ℤ one ≡ pos den *ℤ (neg_ℤ s *ℤ (pos own *ℤ (vn *ℤ one))) =
    ap (λ (z : ℤ). z *ℤ one) (*ℤ_comm (neg_ℤ (s *ℤ pos own) *ℤ vn) (pos den)) ∙ mul_assoc_ℤ (pos den) (neg_ℤ (s *ℤ pos own) *ℤ vn) one
    ∙ ap (λ (z : ℤ). pos den *ℤ z) (mul_assoc_ℤ (neg_ℤ (s *ℤ pos own)) vn one ∙ ap (λ (z : ℤ). z *ℤ (vn *ℤ one)) (sym (neg-times s (pos own))) ∙ mul_assoc_ℤ (neg_ℤ s) (pos own) (vn *ℤ one)) in
    cancel_mul vd (pos den *ℤ (pos pivot *ℤ dj -ℤ T)) (pos pivot *ℤ (num *ℤ one)) above
    (ap (λ (z : ℤ). pos vd *ℤ (pos den *ℤ z)) inner ∙ left ∙ sym same ∙ sym right)

plain-ratio : (num n vn d : ℤ) (vd den : ℕ) → num *ℤ (pos 1 *ℤ (d *ℤ pos vd)) ≡ (pos 0 *ℤ (d *ℤ pos vd) +ℤ n *ℤ (vn *ℤ pos 1)) *ℤ pos den → num *ℤ (d *ℤ pos vd) ≡ (n *ℤ vn) *ℤ pos den
plain-ratio num n vn d vd den e =
    let a : pos 1 *ℤ (d *ℤ pos vd) ≡ d *ℤ pos vd = omega (arith, ints) in
    let b : pos 0 *ℤ (d *ℤ pos vd) +ℤ n *ℤ (vn *ℤ pos 1) ≡ n *ℤ vn = zero-mul-add (d *ℤ pos vd) (n *ℤ (vn *ℤ pos 1)) ∙ ap (λ (z : ℤ). n *ℤ z) (let o : vn *ℤ pos 1 ≡ vn = omega (arith, ints) in o) in
    ap (λ (z : ℤ). num *ℤ z) (sym a) ∙ e ∙ ap (λ (z : ℤ). z *ℤ pos den) b
  where
    zero-mul-add : (y z : ℤ) → pos 0 *ℤ y +ℤ z ≡ z
    zero-mul-add y z = omega (arith, ints, zero-mul_ℤ y)

pub leave-not-enter : (p : Problem) (at : List Mark) (s : Swap) (by : RowName → ℤ) → by s.leave.row ≡ pos 0 → by s.enter.row ≢ pos 0 → s.enter.row ≢ s.leave.row
leave-not-enter p at s by none some e = some (ap by e ∙ none)

pub size-some : (way : Side) (pivot : ℕ) (b : ℤ) → 0 < pivot → pos pivot ≡ sign_of way *ℤ b → b ≢ pos 0
size-some way pivot b above e none = absurd (omega (arith, ints, above, e ∙ ap (λ (z : ℤ). sign_of way *ℤ z) none ∙ mul-zero_ℤ (sign_of way)))

pub resolved : (p : Problem) (at : List Mark) (s : Swap) → IsWhole p → IsCorner p at → Contains (map place (marks_of (lines p))) (place s.enter) → IsIn (place s.leave) at
    → (way : Side) (own : ℕ) (by : RowName → ℤ) (value : Fraction) (pivot : ℕ) (to : RowName → ℤ) (num : ℤ) (den : ℕ) → IsLineEquation p at (deviation s.leave.row) own by value.num value.den
    → IsPivotRow (lines p) s.enter.row s.leave.row way own by pivot to → 0 < den → IsRatio (record { num = num; den = den }) (sum_num zero_fraction (neg_ℤ (sign_of way *ℤ pos own)) (pos pivot) value) (sum_den zero_fraction (pos pivot) value)
    → IsLineEquation p (exchanged s at) (deviation s.enter.row) pivot to num den
resolved p at s whole corner mark leaves way own by value pivot to num den e r above ratio =
    let none : by s.leave.row ≡ pos 0 = none-inside p at by s.leave.row s.leave.side e.outside corner leaves in
    let ne : s.enter.row ≢ s.leave.row = leave-not-enter p at s by none (size-some way pivot (by s.enter.row) r.pivot_positive r.size) in
    let n : Named s.enter.row (lines p) = mark-named p s.enter.row s.enter.side mark in
    let m : Named s.leave.row (lines p) = inside-named p at s.leave.row s.leave.side corner leaves in
    let others = recursion_from_All (λ l. l.name ≢ s.enter.row → l.name ≢ s.leave.row → to l.name ≡ neg_ℤ (sign_of way *ℤ by l.name)) (lines p) r.others in
    record {
      own_positive = r.pivot_positive;
      den_positive = above;
      outside = All-from_recursion (λ l. to l.name ≢ pos 0 → IsOutsideLine (exchanged s at) l.name) (lines p)
          (each-impl (λ l. (l.name ≢ s.enter.row → l.name ≢ s.leave.row → to l.name ≡ neg_ℤ (sign_of way *ℤ by l.name)) × (by l.name ≢ pos 0 → IsOutsideLine at l.name)) (λ l. to l.name ≢ pos 0 → IsOutsideLine (exchanged s at) l.name) (lines p)
          (λ l h some. out-there p at s by to way l.name whole corner leaves ne r.at_enter h.0 h.1 some)
          (each-both _ _ (lines p) others (recursion_from_All (λ l. by l.name ≢ pos 0 → IsOutsideLine at l.name) (lines p) e.outside)));
      holds = λ x solves.
          pivot-value value.den own pivot den (sign_of way) (deviation s.leave.row x.num) (deviation s.enter.row x.num) (sum_of (λ l. by l.name *ℤ deviation l.name x.num) (lines p)) (sum_of (λ l. to l.name *ℤ deviation l.name x.num) (lines p)) value.num num (x.num one_column)
          e.den_positive (e.holds x solves) (pivot-sum (lines p) s.enter.row s.leave.row way own by pivot to x.num (lines_apart p whole) n m ne none r)
          (plain-ratio num (neg_ℤ (sign_of way *ℤ pos own)) value.num (pos pivot) value.den den ratio);
      lowest = λ k dp all. e.lowest k
          (subst (λ (a : ℕ). k ∣ a) (ap unsigned_abs r.at_leave ∙ same-abs way (pos own)) (at-name (λ a. k ∣ unsigned_abs (to a)) s.leave.row (lines p) m (recursion_from_All (λ l. k ∣ unsigned_abs (to l.name)) (lines p) all)))
          (All-from_recursion (λ l. k ∣ unsigned_abs (by l.name)) (lines p)
          (each-impl (λ l. (l.name ≢ s.enter.row → l.name ≢ s.leave.row → to l.name ≡ neg_ℤ (sign_of way *ℤ by l.name)) × (k ∣ unsigned_abs (to l.name))) (λ l. k ∣ unsigned_abs (by l.name)) (lines p)
          (λ l h. part-there k pivot way by to s.enter.row s.leave.row l.name dp r.size none h.0 h.1)
          (each-both _ _ (lines p) others (recursion_from_All (λ l. k ∣ unsigned_abs (to l.name)) (lines p) all))));
    }
  where
    zero-divided : (k : ℕ) (z : ℤ) → z ≡ pos 0 → k ∣ unsigned_abs z
    zero-divided k z e = subst (λ (a : ℤ). k ∣ unsigned_abs a) (sym e) (factor-of k 0 0 (omega arith))

    names : (a b : RowName) → (a ≡ b) ⊎ (a ≢ b)
    names a b = elim (cases_eq (place_of a Under) (place_of b Under)) [
      | inl e ↦ inl (same-name a b Under Under e)
      | inr n ↦ inr (λ e. n (ap (λ (k : RowName). place_of k Under) e))
    ]

    neg-signed-some : (way : Side) (b t : ℤ) → t ≡ neg_ℤ (sign_of way *ℤ b) → t ≢ pos 0 → b ≢ pos 0
    neg-signed-some way b t e some none = some (e ∙ ap neg_ℤ (ap (λ (z : ℤ). sign_of way *ℤ z) none ∙ mul-zero_ℤ (sign_of way)))

    out-there : (p : Problem) (at : List Mark) (s : Swap) (by to : RowName → ℤ) (way : Side) (name : RowName) → IsWhole p → IsCorner p at → IsIn (place s.leave) at → s.enter.row ≢ s.leave.row → to s.enter.row ≡ pos 0
        → (name ≢ s.enter.row → name ≢ s.leave.row → to name ≡ neg_ℤ (sign_of way *ℤ by name)) → (by name ≢ pos 0 → IsOutsideLine at name) → to name ≢ pos 0 → IsOutsideLine (exchanged s at) name
    out-there p at s by to way name whole corner leaves ne gone other out some =
        let far : name ≢ s.enter.row = λ e. some (ap to e ∙ gone) in
        elim (names name s.leave.row) [
          | inl e ↦ subst (λ (k : RowName). IsOutsideLine (exchanged s at) k) (sym e)
              (record { under = left-outside p at s whole corner leaves (λ q. ne (sym q)) Under; over = left-outside p at s whole corner leaves (λ q. ne (sym q)) Over })
          | inr n ↦ still-outside s at name far (out (neg-signed-some way (by name) (to name) (other far n) some))
        ]

    part-there : (k pivot : ℕ) (way : Side) (by to : RowName → ℤ) (enter leave name : RowName) → k ∣ pivot → pos pivot ≡ sign_of way *ℤ by enter → by leave ≡ pos 0 → (name ≢ enter → name ≢ leave → to name ≡ neg_ℤ (sign_of way *ℤ by name)) → k ∣ unsigned_abs (to name) → k ∣ unsigned_abs (by name)
    part-there k pivot way by to enter leave name dp size none other d =
        elim (names name enter) [
          | inl e ↦ subst (λ (a : ℕ). k ∣ a) (ap unsigned_abs size ∙ same-abs way (by enter) ∙ ap (λ (a : RowName). unsigned_abs (by a)) (sym e)) dp
          | inr n ↦ elim (names name leave) [
            | inl e ↦ zero-divided k (by name) (ap by e ∙ none)
            | inr m ↦ subst (λ (a : ℕ). k ∣ a) (ap unsigned_abs (other n m) ∙ neg-abs (sign_of way *ℤ by name) ∙ same-abs way (by name)) d
          ]
        ]
