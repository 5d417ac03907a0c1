-- Two assignments that give the same values: what is a certificate of one is one of the other.
use Rattle.std.proofs.Common.{◌≡◌, ◌∙◌, ℕ, zero, suc, ◌*◌, ◌<◌, List, [], ◌∷◌, map, ℤ, pos, negsuc, ◌*ℤ◌, ◌<ℤ◌, refl, sym, ap, subst, arith, All, Any}
use Rattle.std.specs.List.{AllByRecursion as Each}
use Rattle.std.proofs.lemmas.List.Elements.{All-from_recursion, recursion_from_All}
use lib.IntN.{*ℤ_comm}
use borrow.Author.Differences.{ints}
use Rattle.frac_core.specs.Fraction.{Fraction, IsLowest, IsRatio}
use Rattle.frac_core.proofs.Integers.{cancel_mul, mul_assoc_ℤ}
use Rattle.problem_core.specs.declared.parts.Stay.{Stay}
use Rattle.problem_core.specs.Layout.{AreSame, Assignment, Gives, HasStay, Line, Problem, Row, Satisfies, common, cost, error, gap, line_of_row, lines, share, stay_lines}
use Rattle.problem_core.specs.Kept.{IsWhole}
use Rattle.problem_core.specs.Certificates.{IsCertificate, Multipliers, over, under}
use Rattle.problem_core.specs.Gaps.{HasValue}
use Rattle.problem_core.proofs.Best.Agreed.{agree-lines, cost-agree, error-agree, gap-agree}
use Rattle.problem_core.proofs.Forms.{each-both, each-impl}
use Rattle.problem_core.proofs.Best.Midpoints.{cancel}
use Rattle.cert_checker.specs.Certifying.{AreOfStays}
use Rattle.certificates.specs.Errors.{IsErrorAt, IsLevelCost}
use Rattle.corner_laws.proofs.PathEnds.Ends.{first-rows}
use Rattle.frac_core.proofs.Numbers.{product-above as product-up}
use Rattle.problem_core.proofs.Best.WindowRows.{has-rest as stay-first}

-- ---- values

cross : (a b n d x y : ℤ) (k : ℕ) → d ≡ pos k → 0 < k → a *ℤ d ≡ n *ℤ x → b *ℤ d ≡ n *ℤ y → a *ℤ y ≡ b *ℤ x
cross a b n d x y k is above e h =
    cancel_mul k (a *ℤ y) (b *ℤ x) above
    (subst (λ (z : ℤ). z *ℤ (a *ℤ y) ≡ z *ℤ (b *ℤ x)) is
    (let l : d *ℤ (a *ℤ y) ≡ (a *ℤ d) *ℤ y = sym (mul_assoc_ℤ d a y) ∙ ap (λ (z : ℤ). z *ℤ y) (*ℤ_comm d a) in
    let r : (b *ℤ d) *ℤ x ≡ d *ℤ (b *ℤ x) = ap (λ (z : ℤ). z *ℤ x) (*ℤ_comm b d) ∙ mul_assoc_ℤ d b x in
    let m : (n *ℤ x) *ℤ y ≡ (n *ℤ y) *ℤ x = mul_assoc_ℤ n x y ∙ ap (λ (z : ℤ). n *ℤ z) (*ℤ_comm x y) ∙ sym (mul_assoc_ℤ n y x) in
    l ∙ ap (λ (z : ℤ). z *ℤ y) e ∙ m ∙ ap (λ (z : ℤ). z *ℤ x) (sym h) ∙ r))

abbrev Gives1 : Assignment → ℕ × Fraction → Type 0
Gives1 x v = x.num v.0 *ℤ pos v.1.den ≡ v.1.num *ℤ pos x.den

same-each : (x y : Assignment) (stays : List Stay) (values : List (ℕ × Fraction)) → map (λ v. v.0) values ≡ map (λ s. s.attr) stays → Each (λ v. 0 < v.1.den) values → Each (Gives1 x) values → Each (Gives1 y) values → Each (λ s. x.num s.attr *ℤ pos y.den ≡ y.num s.attr *ℤ pos x.den) stays
same-each x y [] values e above g h = tt
same-each x y (s ∷ stays) [] e above g h = cc
same-each x y (s ∷ stays) (v ∷ values) e above g h =
    let head : v.0 ≡ s.attr = cc in
    let tail : map (λ v. v.0) values ≡ map (λ s. s.attr) stays = cc in (
      subst (λ (a : ℕ). x.num a *ℤ pos y.den ≡ y.num a *ℤ pos x.den) head (cross (x.num v.0) (y.num v.0) v.1.num (pos v.1.den) (pos x.den) (pos y.den) v.1.den refl above.0 g.0 h.0),
      same-each x y stays values tail above.1 g.1 h.1,
    )

pub given_same : (p : Problem) (values : List (ℕ × Fraction)) (x y : Assignment) → map (λ v. v.0) values ≡ map (λ s. s.attr) p.stays → All (λ v. IsLowest v.1) values → Gives values x → Gives values y → AreSame p x y
given_same p values x y e lowest g h =
    All-from_recursion (λ s. x.num s.attr *ℤ pos y.den ≡ y.num s.attr *ℤ pos x.den) p.stays
    (same-each x y p.stays values e (each-impl (λ v. IsLowest v.1) (λ v. 0 < v.1.den) values (λ v l. l.above) (recursion_from_All (λ v. IsLowest v.1) values lowest))
    (recursion_from_All (Gives1 x) values g) (recursion_from_All (Gives1 y) values h))

-- the values are those of the stays
has-first : (v : ℕ × Fraction) (values : List (ℕ × Fraction)) (a : ℕ) → HasValue values a → HasValue (v ∷ values) a
has-first v values a (k, w, within, is, e) = (suc k, w, omega (arith, within), is, e)

each-valued : (stays : List Stay) (values : List (ℕ × Fraction)) → map (λ v. v.0) values ≡ map (λ s. s.attr) stays → Each (λ s. HasValue values s.attr) stays
each-valued [] values e = tt
each-valued (s ∷ stays) [] e = cc
each-valued (s ∷ stays) (v ∷ values) e =
    let head : v.0 ≡ s.attr = cc in
    let tail : map (λ v. v.0) values ≡ map (λ s. s.attr) stays = cc in
    ((0, v, omega arith, refl, head), each-impl (λ t. HasValue values t.attr) (λ t. HasValue (v ∷ values) t.attr) stays (λ t h. has-first v values t.attr h) (each-valued stays values tail))

each-held : (stays : List Stay) (values : List (ℕ × Fraction)) → map (λ v. v.0) values ≡ map (λ s. s.attr) stays → Each (λ v. HasStay stays v.0) values
each-held stays [] e = tt
each-held [] (v ∷ values) e = cc
each-held (s ∷ stays) (v ∷ values) e =
    let head : v.0 ≡ s.attr = cc in
    let tail : map (λ v. v.0) values ≡ map (λ s. s.attr) stays = cc in
    ((0, s, omega arith, refl, sym head), each-impl (λ w. HasStay stays w.0) (λ w. HasStay (s ∷ stays) w.0) values (λ w h. stay-first s stays w.0 h) (each-held stays values tail))

pub of_stays : (p : Problem) (values : List (ℕ × Fraction)) → map (λ v. v.0) values ≡ map (λ s. s.attr) p.stays → AreOfStays p values
of_stays p values e = record {
  valued = All-from_recursion (λ s. HasValue values s.attr) p.stays (each-valued p.stays values e);
  held = All-from_recursion (λ v. HasStay p.stays v.0) values (each-held p.stays values e);
}

-- ---- certificates

low-gap : (g h : ℤ) (d e : ℕ) → 0 < d → 0 < e → g *ℤ pos e ≡ h *ℤ pos d → g <ℤ pos 0 → h <ℤ pos 0
low-gap g (negsuc n) d e k l s low = omega (arith, ints)
low-gap (pos m) (pos n) d e k l s low = absurd (omega (arith, ints, low))
low-gap (negsuc m) (pos n) d zero k l s low = absurd (omega (arith, l))
low-gap (negsuc m) (pos n) d (suc e) k l s low = absurd (omega (arith, ints, s))

high-gap : (g h : ℤ) (d e : ℕ) → 0 < d → 0 < e → g *ℤ pos e ≡ h *ℤ pos d → pos 0 <ℤ g → pos 0 <ℤ h
high-gap g (pos (suc n)) d e k l s high = omega (arith, ints)
high-gap (negsuc m) h d e k l s high = absurd high.lt
high-gap (pos zero) h d e k l s high = absurd high.lt
high-gap (pos (suc m)) (pos zero) d zero k l s high = absurd (omega (arith, l))
high-gap (pos (suc m)) (pos zero) d (suc e) k l s high = absurd (omega (arith, ints, s))
high-gap (pos (suc m)) (negsuc n) zero e k l s high = absurd (omega (arith, k))
high-gap (pos (suc m)) (negsuc n) (suc d) e k l s high = absurd (omega (arith, ints, s))

none-error : (a b d e : ℕ) → 0 < e → a * e ≡ b * d → b ≡ 0 → a ≡ 0
none-error zero b d e above h n = refl
none-error (suc a) b d e above h n = let z : b * d ≡ 0 = ap (λ (m : ℕ). m * d) n ∙ (let q : 0 * d ≡ 0 = omega arith in q) in absurd (omega (arith, above, h, z))

abbrev Agreed : Assignment → Assignment → Line → Type 0
Agreed x y l = gap x l *ℤ pos y.den ≡ gap y l *ℤ pos x.den

agreed : (p : Problem) (x y : Assignment) → IsWhole p → AreSame p x y → Each (Agreed x y) (lines p)
agreed p x y whole same = each-impl _ (Agreed x y) (lines p) (λ l h. gap-agree x y l h) (agree-lines p x y whole.covered same)

same-satisfies : (p : Problem) (x y : Assignment) → IsWhole p → AreSame p x y → Satisfies p y → Satisfies p x
same-satisfies p x y whole same sat =
    All-from_recursion (λ r. r.rank ≡ 1000 → error x (line_of_row r) ≡ 0) p.rows
    (each-impl (λ r. Agreed x y (line_of_row r) × (r.rank ≡ 1000 → error y (line_of_row r) ≡ 0)) _ p.rows
    (λ r h rank. none-error (error x (line_of_row r)) (error y (line_of_row r)) x.den y.den y.positive (error-agree r.rel (gap x (line_of_row r)) (gap y (line_of_row r)) x.den y.den x.positive y.positive h.0) (h.1 rank))
    (each-both _ _ p.rows (first-rows (Agreed x y) p.rows (stay_lines 1001 p.stays) (agreed p x y whole same)) (recursion_from_All _ p.rows sat)))

pub same_certified : (p : Problem) (m : Multipliers) (x y : Assignment) → IsWhole p → AreSame p x y → IsCertificate p y m → IsCertificate p x m
same_certified p m x y whole same c = record {
  required = same-satisfies p x y whole same c.required;
  scales = c.scales;
  cancel = c.cancel;
  under_columns = c.under_columns;
  over_columns = c.over_columns;
  under_used = All-from_recursion (λ l. gap x l <ℤ pos 0 → (level : ℕ) → under m l level ≡ pos 0) (lines p)
      (each-impl (λ l. Agreed x y l × (gap y l <ℤ pos 0 → (level : ℕ) → under m l level ≡ pos 0)) _ (lines p)
      (λ l h low. h.1 (low-gap (gap x l) (gap y l) x.den y.den x.positive y.positive h.0 low))
      (each-both _ _ (lines p) (agreed p x y whole same) (recursion_from_All _ (lines p) c.under_used)));
  over_used = All-from_recursion (λ l. pos 0 <ℤ gap x l → (level : ℕ) → over m l level ≡ pos 0) (lines p)
      (each-impl (λ l. Agreed x y l × (pos 0 <ℤ gap y l → (level : ℕ) → over m l level ≡ pos 0)) _ (lines p)
      (λ l h high. h.1 (high-gap (gap x l) (gap y l) x.den y.den x.positive y.positive h.0 high))
      (each-both _ _ (lines p) (agreed p x y whole same) (recursion_from_All _ (lines p) c.over_used)));
}

-- ---- errors and costs

low-num : (k n b d : ℕ) → 0 < n → negsuc k *ℤ pos n ≡ pos b *ℤ pos d → ⊥
low-num k zero b d above q = absurd (omega (arith, above))
low-num k (suc n) b d above q = absurd (omega (arith, ints, q))

num-by-sign : (z : ℤ) (b d n : ℕ) → 0 < n → z *ℤ pos n ≡ pos b *ℤ pos d → (F : ℕ) × (z ≡ pos F) × (F * n ≡ b * d)
num-by-sign (pos F) b d n above e = (F, refl, omega (arith, ints, e))
num-by-sign (negsuc k) b d n above e = absurd (low-num k n b d above e)

natural-num : (f : Fraction) (b n : ℕ) → 0 < n → IsRatio f (pos b) (pos n) → (F : ℕ) × (f.num ≡ pos F) × (F * n ≡ b * f.den)
natural-num f b n above e = num-by-sign f.num b f.den n above e

moved-ratio : (a b D u v F fd : ℕ) → 0 < v → a * v ≡ b * u → F * (v * D) ≡ b * fd → F * (u * D) ≡ a * fd
moved-ratio a b D u v F fd above e h =
    cancel v (F * (u * D)) (a * fd) above
    (let l : F * (v * D) * u ≡ b * fd * u = ap (λ (z : ℕ). z * u) h in
    let r : a * v * fd ≡ b * u * fd = ap (λ (z : ℕ). z * fd) e in
    omega (arith, l, r))

pub ratio_moved : (f : Fraction) (a b D u v : ℕ) → 0 < v → 0 < v * D → a * v ≡ b * u → IsRatio f (pos b) (pos (v * D)) → IsRatio f (pos a) (pos (u * D))
ratio_moved f a b D u v above all e h =
    let n = natural-num f b (v * D) all h in
    ap (λ (z : ℤ). z *ℤ pos (u * D)) n.1 ∙ ap pos (moved-ratio a b D u v n.0 f.den above e n.2)

pub same_error : (p : Problem) (x y : Assignment) (r : Row) (f : Fraction) → IsWhole p → AreSame p x y → Any (λ s. s ≡ r) p.rows → 0 < r.constant.den → 0 < r.scale → IsErrorAt y (line_of_row r) f → IsErrorAt x (line_of_row r) f
same_error p x y r f whole same (i, s, within, is, e) den scale h =
    let agree : Agreed x y (line_of_row r) =
    subst (λ (q : Row). Agreed x y (line_of_row q)) (is ∙ e) (All-from_recursion (λ q. Agreed x y (line_of_row q)) p.rows (first-rows (Agreed x y) p.rows (stay_lines 1001 p.stays) (agreed p x y whole same)) i s within) in
    ratio_moved f (error x (line_of_row r)) (error y (line_of_row r)) (r.constant.den * r.scale) x.den y.den y.positive (product-up y.den (r.constant.den * r.scale) y.positive (product-up r.constant.den r.scale den scale))
    (error-agree r.rel (gap x (line_of_row r)) (gap y (line_of_row r)) x.den y.den x.positive y.positive agree) h

pub same_cost : (p : Problem) (x y : Assignment) (k : ℕ) (f : Fraction) → IsWhole p → AreSame p x y → 0 < common (lines p) → IsLevelCost p y k f → IsLevelCost p x k f
same_cost p x y k f whole same above h =
    ratio_moved f (cost (lines p) x k) (cost (lines p) y k) (common (lines p)) x.den y.den y.positive (product-up y.den (common (lines p)) y.positive above)
    (cost-agree (share (lines p)) (lines p) x y k (agree-lines p x y whole.covered same)) h
