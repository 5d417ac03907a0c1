-- The leaving rule by writings: the marks that fall stay above 0 in the first column at which they do not fall together with the leaving mark, and
-- there is one.
use Rattle.std.proofs.Common.{◌≡◌, ◌≢◌, ◌∙◌, ℕ, ◌*◌, ◌<◌, ◌⊎◌, Bool, cond, nat_eq, List, [], ◌∷◌, map, ℤ, pos, ◌+ℤ◌, ◌-ℤ◌, ◌*ℤ◌, neg_ℤ, ◌<ℤ◌, refl, sym, ap, ap₂, subst, arith, inl, inr, Contains, eq-eqb, ne_eqb, mul-pos}
use Rattle.std.specs.List.{AllByRecursion as Each}
use Rattle.std.proofs.lemmas.Bool.{cases_eq, cases_Bool}
use Rattle.std.proofs.lemmas.List.Elements.{recursion_from_All}
use lib.IntN.{*ℤ_comm}
use borrow.Author.Differences.{ints}
use Rattle.frac_core.proofs.Integers.{cancel_mul, mul_assoc_ℤ, mul_left_comm_ℤ, mul-sub_left, mul-zero_ℤ, zero-mul_ℤ, mul_positive, positive_from, sign_cases, add-mul_right}
use Rattle.problem_core.specs.declared.parts.Mark.{Mark}
use Rattle.problem_core.specs.declared.parts.Term.{Term}
use Rattle.problem_core.specs.Layout.{Problem, coefficient, lines, value_at}
use Rattle.problem_core.specs.Corners.{IsIn, Point, Solves, marks_of, one_column, place}
use Rattle.problem_core.specs.Rays.{HasRays, IsRay}
use Rattle.problem_core.proofs.Corners.CornerFacts.{is_place}
use Rattle.problem_core.proofs.Corners.Exchanges.{IsLexPositive}
use Rattle.problem_core.proofs.Forms.{each-impl, value-single}
use Rattle.problem_core.proofs.Corners.Tableaus.{unit_at}
use Rattle.corner_laws.specs.Laws.{IsMarkAt}
use Rattle.corner_laws.specs.Runs.{BreaksTie, FallsFirst, Writes, Writing, count_at, reach}
use Rattle.corner_laws.proofs.Counting.{IsIn-from_is_place}
use Rattle.corner_laws.proofs.MarkWritings.Directions.{along, ray_number}
use Rattle.corner_laws.proofs.Exchanged.{combined_coefficient, combined_form, combined_value, zero-or-out}
use Rattle.corner_laws.proofs.RunSteps.Extended.{IsExtended, IsLift, each_places, less_unit, next_values, point_of, point_stands, run_columns}
use Rattle.corner_laws.proofs.Swaps.PrimalChoice.{both-scaled, interchange}
use Rattle.corner_laws.proofs.WrittenValues.{contains_each, value_there}
use Rattle.corner_laws.proofs.ZeroColumns.{IsDirection, not-in, outside-still, cancel-zero as no-term}
use Rattle.frac_core.proofs.Numbers.{product-up as up-both, signed-not-zero as not_zero, neg-times}
use Rattle.frac_core.proofs.Bools.{count-other as cond_other, count-same as cond_same}

-- ---- what a mark counts

-- an inside mark stands in no form
pub none_inside : (p : Problem) (at : List Mark) (form : List Term) (v : ℕ) → ((u : ℕ) → coefficient u form ≢ pos 0 → Contains (map place (marks_of (lines p))) u × (IsIn u at → ⊥)) → IsIn v at → coefficient v form ≡ pos 0
none_inside p at form v outside inside = elim (zero-or-out p at form v outside) [
  | inl e ↦ e
  | inr o ↦ absurd (o.1 inside)
]

lift-count : (s : ℕ) (v u one f : ℤ) → pos s *ℤ (v +ℤ neg_ℤ one *ℤ u) ≡ f *ℤ (pos 0 +ℤ neg_ℤ one *ℤ pos 1) → pos s *ℤ v ≡ one *ℤ (pos s *ℤ u +ℤ neg_ℤ f)
lift-count s v u one f h =
    let a : pos s *ℤ (v +ℤ neg_ℤ one *ℤ u) ≡ pos s *ℤ v +ℤ pos s *ℤ (neg_ℤ one *ℤ u) = mul-add (pos s) v (neg_ℤ one *ℤ u) in
    let b : pos s *ℤ (neg_ℤ one *ℤ u) ≡ neg_ℤ (one *ℤ (pos s *ℤ u)) = ap (λ (z : ℤ). pos s *ℤ z) (neg-times one u) ∙ *ℤ_comm (pos s) (neg_ℤ (one *ℤ u)) ∙ neg-times (one *ℤ u) (pos s) ∙ ap neg_ℤ (*ℤ_comm (one *ℤ u) (pos s) ∙ mul_left_comm_ℤ (pos s) one u) in
    let c : f *ℤ (pos 0 +ℤ neg_ℤ one *ℤ pos 1) ≡ neg_ℤ (one *ℤ f) = ap (λ (z : ℤ). f *ℤ z) (let t : pos 0 +ℤ neg_ℤ one *ℤ pos 1 ≡ neg_ℤ one = omega (arith, ints) in t) ∙ *ℤ_comm f (neg_ℤ one) ∙ neg-times one f in
    let d : one *ℤ (pos s *ℤ u +ℤ neg_ℤ f) ≡ one *ℤ (pos s *ℤ u) +ℤ one *ℤ neg_ℤ f = mul-add one (pos s *ℤ u) (neg_ℤ f) in
    let e : one *ℤ neg_ℤ f ≡ neg_ℤ (one *ℤ f) = *ℤ_comm one (neg_ℤ f) ∙ neg-times f one ∙ ap neg_ℤ (*ℤ_comm f one) in
    omega (arith, ints, a, b, c, d, e, h)
  where
    mul-add : (x y z : ℤ) → x *ℤ (y +ℤ z) ≡ x *ℤ y +ℤ x *ℤ z
    mul-add x y z = *ℤ_comm x (y +ℤ z) ∙ add-mul_right y z x ∙ ap₂ ◌+ℤ◌ (*ℤ_comm y x) (*ℤ_comm z x)

own-count : (s f : ℤ) → f ≡ pos 0 → s *ℤ pos 1 +ℤ neg_ℤ f ≡ s
own-count s f e = omega (arith, ints, e)

other-count : (s f : ℤ) → s *ℤ pos 0 +ℤ neg_ℤ f ≡ neg_ℤ f
other-count s f = omega (arith, ints, mul-zero_ℤ s)

gone-lift : (v u : ℤ) (one : ℕ) → v ≡ pos 0 → u ≡ pos 0 → v +ℤ neg_ℤ (pos one) *ℤ u ≡ pos 0
gone-lift v u one e f = ap₂ ◌+ℤ◌ e (ap (λ (z : ℤ). neg_ℤ (pos one) *ℤ z) f ∙ mul-zero_ℤ (neg_ℤ (pos one)))

-- the writing's scale times a lift is `one` times what the mark counts
pub counted : (p : Problem) (first at : List Mark) (values : ℕ → ℕ → ℤ) (one c f : ℕ) (w : Writing) → IsExtended p first at values one → IsIn c at → Writes p at c w → IsLift p at one f (values f) → pos w.scale *ℤ values f c ≡ pos one *ℤ count_at c w f
counted p first at values one c f w e inside writes lift =
    let x = point_of p first at values one e in
    let zero : (v : ℕ) → (v ≡ f → ⊥) → coefficient v w.form *ℤ less_unit one f (values f) v ≡ pos 0 =
    λ v ne. elim (sign_cases (coefficient v w.form)) [
      | inl z ↦ no-term (coefficient v w.form) (less_unit one f (values f) v) (inl z)
      | inr s ↦
          let out = writes.outside v (not_zero (coefficient v w.form) s) in
          no-term (coefficient v w.form) (less_unit one f (values f) v)
          (inr (gone-lift (values f v) (unit_at f v) one (contains_each (λ u. (IsIn u at → ⊥) → values f u ≡ pos 0) (marks_of (lines p)) v (recursion_from_All _ (marks_of (lines p)) lift.outside) out.0 out.1) (cond_other v f (pos 1) ne)))
    ] in
    let at_f : coefficient f w.form *ℤ less_unit one f (values f) f ≡ coefficient f w.form *ℤ (pos 0 +ℤ neg_ℤ (pos one) *ℤ pos 1) =
    elim (sign_cases (coefficient f w.form)) [
      | inl z ↦ no-term (coefficient f w.form) (less_unit one f (values f) f) (inl z) ∙ sym (no-term (coefficient f w.form) (pos 0 +ℤ neg_ℤ (pos one) *ℤ pos 1) (inl z))
      | inr s ↦
          let out = writes.outside f (not_zero (coefficient f w.form) s) in
          ap₂ (λ (a b : ℤ). coefficient f w.form *ℤ (a +ℤ neg_ℤ (pos one) *ℤ b)) (contains_each (λ u. (IsIn u at → ⊥) → values f u ≡ pos 0) (marks_of (lines p)) f (recursion_from_All _ (marks_of (lines p)) lift.outside) out.0 out.1) (cond_same f f (pos 1) refl)
    ] in
    let moves : pos w.scale *ℤ less_unit one f (values f) c ≡ coefficient f w.form *ℤ (pos 0 +ℤ neg_ℤ (pos one) *ℤ pos 1) =
    along p at c w.scale w.form w.num w.den x (less_unit one f (values f)) e.solves writes lift.direction ∙ value-single (less_unit one f (values f)) f w.form zero ∙ at_f in
    lift-count w.scale (values f c) (unit_at f c) (pos one) (coefficient f w.form) moves
    ∙ ap (λ (z : ℤ). pos one *ℤ z) (elim (cases_eq f c) [
      | inl q ↦
          ap (λ (z : ℤ). pos w.scale *ℤ z +ℤ neg_ℤ (coefficient f w.form)) (cond_same c f (pos 1) (sym q))
          ∙ own-count (pos w.scale) (coefficient f w.form) (none_inside p at w.form f writes.outside (subst (λ (v : ℕ). IsIn v at) (sym q) inside))
          ∙ sym (ap (λ (b : Bool). cond b (pos w.scale) (neg_ℤ (coefficient f w.form))) (eq-eqb f c q))
      | inr n ↦
          ap (λ (z : ℤ). pos w.scale *ℤ z +ℤ neg_ℤ (coefficient f w.form)) (cond_other c f (pos 1) (λ q. n (sym q)))
          ∙ other-count (pos w.scale) (coefficient f w.form)
          ∙ sym (ap (λ (b : Bool). cond b (pos w.scale) (neg_ℤ (coefficient f w.form))) (ne_eqb f c n))
    ])

-- ---- n times a is x times q, and n times b is y times q

less-there : (n : ℕ) (a b x y q : ℤ) → 0 < n → pos 0 <ℤ q → pos n *ℤ a ≡ x *ℤ q → pos n *ℤ b ≡ y *ℤ q → x <ℤ y → a <ℤ b
less-there n a b x y q above up e f h =
    let d : pos 0 <ℤ (q *ℤ (y +ℤ neg_ℤ x)) = up-both q (y +ℤ neg_ℤ x) up (omega (arith, ints, h)) in
    let g : q *ℤ (y +ℤ neg_ℤ x) ≡ y *ℤ q +ℤ neg_ℤ (x *ℤ q) = *ℤ_comm q (y +ℤ neg_ℤ x) ∙ add-mul_right y (neg_ℤ x) q ∙ ap (λ (z : ℤ). y *ℤ q +ℤ z) (neg-times x q) in
    let i : pos n *ℤ (b -ℤ a) ≡ pos n *ℤ b -ℤ pos n *ℤ a = mul-sub_left (pos n) b a in
    let j : pos 0 <ℤ (b -ℤ a) = positive_from n (b -ℤ a) (omega (arith, ints, d, g, i, e, f)) in
    omega (arith, ints, j)

same-there : (n : ℕ) (a b x y q : ℤ) → 0 < n → pos n *ℤ a ≡ x *ℤ q → pos n *ℤ b ≡ y *ℤ q → x ≡ y → a ≡ b
same-there n a b x y q above e f h = cancel_mul n a b above (e ∙ ap (λ (z : ℤ). z *ℤ q) h ∙ sym f)

-- the leaving mark's value b and the ray's number r there, those a and t of another
above-next : (a r b t : ℤ) → (a *ℤ r) <ℤ (b *ℤ t) → pos 0 <ℤ (b *ℤ t +ℤ neg_ℤ r *ℤ a)
above-next a r b t h = omega (arith, ints, h, neg-times r a, *ℤ_comm r a)

none-next : (a r b t : ℤ) → a *ℤ r ≡ b *ℤ t → b *ℤ t +ℤ neg_ℤ r *ℤ a ≡ pos 0
none-next a r b t h = omega (arith, ints, h, neg-times r a, *ℤ_comm r a)

-- s*a = o*k and t*b = z*r
sides : (s t : ℕ) (a b o k z r : ℤ) → pos s *ℤ a ≡ o *ℤ k → pos t *ℤ b ≡ z *ℤ r → pos (s * t) *ℤ (a *ℤ b) ≡ (k *ℤ z) *ℤ (o *ℤ r)
sides s t a b o k z r e f = interchange (pos s) (pos t) a b ∙ ap₂ ◌*ℤ◌ (e ∙ *ℤ_comm o k) f ∙ interchange k o z r

-- ---- one column

abbrev pub IsDecided : ℤ → ℤ → ℤ → Type 0
IsDecided x y next = (x <ℤ y → pos 0 <ℤ next) × (x ≡ y → next ≡ pos 0)

decided : (n : ℕ) (a r b t x y q : ℤ) → 0 < n → pos 0 <ℤ q → pos n *ℤ (a *ℤ r) ≡ x *ℤ q → pos n *ℤ (b *ℤ t) ≡ y *ℤ q → IsDecided x y (b *ℤ t +ℤ neg_ℤ r *ℤ a)
decided n a r b t x y q above up e f = (
  λ h. above-next a r b t (less-there n (a *ℤ r) (b *ℤ t) x y q above up e f h),
  λ h. none-next a r b t (same-there n (a *ℤ r) (b *ℤ t) x y q above e f h),
)

tie_cases : (enter c d : ℕ) (v w : Writing) (next : ℕ → ℤ) (fs : List ℕ) → Each (λ f. IsDecided (count_at d w f *ℤ coefficient enter v.form) (count_at c v f *ℤ coefficient enter w.form) (next f)) fs → BreaksTie enter c v d w fs
    → Each (λ f. count_at d w f *ℤ coefficient enter v.form ≡ count_at c v f *ℤ coefficient enter w.form) fs ⊎ IsLexPositive next fs
tie_cases enter c d v w next [] h t = inl tt
tie_cases enter c d v w next (f ∷ fs) h (inl less) = inr (inl (h.0.0 less))
tie_cases enter c d v w next (f ∷ fs) h (inr same) = elim (tie_cases enter c d v w next fs h.1 same.1) [
  | inl all ↦ inl (same.0, all)
  | inr lex ↦ inr (inr (h.0.1 same.0, lex))
]

-- ---- no two marks fall together in all columns

-- the leaving mark's number is r, and z that of the other
no-number : (s : ℕ) (b z : ℤ) → 0 < s → b ≡ pos 0 → z <ℤ pos 0 → (y : ℤ) → pos s *ℤ z ≡ neg_ℤ b *ℤ y → ⊥
no-number s b z above e low y h =
    let a : pos 0 <ℤ (pos s *ℤ neg_ℤ z) = mul_positive s (neg_ℤ z) above (omega (arith, ints, low)) in
    let c : pos s *ℤ neg_ℤ z ≡ neg_ℤ (pos s *ℤ z) = *ℤ_comm (pos s) (neg_ℤ z) ∙ neg-times z (pos s) ∙ ap neg_ℤ (*ℤ_comm z (pos s)) in
    let d : neg_ℤ b *ℤ y ≡ pos 0 = ap (λ (t : ℤ). neg_ℤ t *ℤ y) e ∙ zero-mul_ℤ y in
    absurd (omega (arith, ints, a, c, d, h))

turned-same : (a b z r k : ℤ) → k ≡ pos 0 → neg_ℤ a *ℤ z ≡ neg_ℤ b *ℤ r → neg_ℤ z *ℤ a +ℤ (neg_ℤ (neg_ℤ r) *ℤ b +ℤ k) ≡ pos 0
turned-same a b z r k e h =
    let c : neg_ℤ (neg_ℤ r) *ℤ b ≡ r *ℤ b = ap (λ (t : ℤ). t *ℤ b) (let t : neg_ℤ (neg_ℤ r) ≡ r = omega (arith, ints) in t) in
    omega (arith, ints, c, e, h, neg-times a z, neg-times b r, neg-times z a, *ℤ_comm z a, *ℤ_comm r b)

turned-own : (a b z r : ℤ) (s : ℕ) → b ≡ pos 0 → neg_ℤ a *ℤ z ≡ pos s *ℤ r → neg_ℤ z *ℤ a +ℤ (neg_ℤ (neg_ℤ r) *ℤ b +ℤ neg_ℤ r *ℤ pos s) ≡ pos 0
turned-own a b z r s e h =
    let c : neg_ℤ (neg_ℤ r) *ℤ b ≡ pos 0 = ap (λ (t : ℤ). neg_ℤ (neg_ℤ r) *ℤ t) e ∙ mul-zero_ℤ (neg_ℤ (neg_ℤ r)) in
    omega (arith, ints, c, h, neg-times a z, neg-times z a, *ℤ_comm z a, neg-times r (pos s), *ℤ_comm r (pos s))

-- c is the leaving mark's column, d the other's
pub record AreTied (p : Problem) (at : List Mark) (c d : ℕ) (v w : Writing) : Type 0 where
  pub leaving : Writes p at c v
  pub other : Writes p at d w
  pub here : IsIn c at
  pub there : IsIn d at
  pub apart : d ≢ c

-- the combined form of the two in which the entering mark cancels
abbrev tied_form : ℕ → ℕ → ℕ → Writing → Writing → List Term
tied_form enter g c v w = combined_form c (neg_ℤ (coefficient enter w.form)) v.scale g w.form v.form

tied_none : (p : Problem) (at : List Mark) (enter c d u g : ℕ) (v w : Writing) → AreTied p at c d v w → neg_ℤ (coefficient enter v.form) ≡ pos g → u ≢ d → count_at d w u *ℤ coefficient enter v.form ≡ count_at c v u *ℤ coefficient enter w.form → coefficient u (tied_form enter g c v w) ≡ pos 0
tied_none p at enter c d u g v w tied turned ne e =
    let own : neg_ℤ (coefficient u w.form) *ℤ coefficient enter v.form ≡ count_at c v u *ℤ coefficient enter w.form =
    ap (λ (b : Bool). cond b (pos w.scale) (neg_ℤ (coefficient u w.form)) *ℤ coefficient enter v.form) (sym (ne_eqb u d ne)) ∙ e in
    combined_coefficient c (neg_ℤ (coefficient enter w.form)) v.scale g w.form v.form u
    ∙ ap (λ (z : ℤ). z *ℤ coefficient u w.form +ℤ (neg_ℤ (neg_ℤ (coefficient enter w.form)) *ℤ coefficient u v.form +ℤ cond (nat_eq c u) (neg_ℤ (coefficient enter w.form) *ℤ pos v.scale) (pos 0))) (sym turned)
    ∙ elim (cases_eq u c) [
      | inl q ↦
          ap (λ (z : ℤ). neg_ℤ (coefficient enter v.form) *ℤ coefficient u w.form +ℤ (neg_ℤ (neg_ℤ (coefficient enter w.form)) *ℤ coefficient u v.form +ℤ z)) (cond_same c u (neg_ℤ (coefficient enter w.form) *ℤ pos v.scale) (sym q))
          ∙ turned-own (coefficient u w.form) (coefficient u v.form) (coefficient enter v.form) (coefficient enter w.form) v.scale
          (none_inside p at v.form u tied.leaving.outside (subst (λ (k : ℕ). IsIn k at) (sym q) tied.here))
          (own ∙ ap (λ (b : Bool). cond b (pos v.scale) (neg_ℤ (coefficient u v.form)) *ℤ coefficient enter w.form) (eq-eqb u c q))
      | inr n ↦
          turned-same (coefficient u w.form) (coefficient u v.form) (coefficient enter v.form) (coefficient enter w.form) (cond (nat_eq c u) (neg_ℤ (coefficient enter w.form) *ℤ pos v.scale) (pos 0))
          (cond_other c u (neg_ℤ (coefficient enter w.form) *ℤ pos v.scale) (λ q. n (sym q)))
          (own ∙ ap (λ (b : Bool). cond b (pos v.scale) (neg_ℤ (coefficient u v.form)) *ℤ coefficient enter w.form) (ne_eqb u c n))
    ]

-- it is a form of marks
tied_mark : (p : Problem) (at : List Mark) (enter c d u g : ℕ) (v w : Writing) → AreTied p at c d v w → IsMarkAt p c → coefficient u (tied_form enter g c v w) ≢ pos 0 → IsMarkAt p u
tied_mark p at enter c d u g v w tied mark some =
    elim (cases_eq c u) [
      | inl e ↦ subst (λ (k : ℕ). IsMarkAt p k) e mark
      | inr n ↦ elim (zero-or-out p at w.form u tied.other.outside) [
        | inr o ↦ o.0
        | inl a ↦ elim (zero-or-out p at v.form u tied.leaving.outside) [
          | inr o ↦ o.0
          | inl b ↦ absurd (some
              (combined_coefficient c (neg_ℤ (coefficient enter w.form)) v.scale g w.form v.form u
              ∙ none-all (pos g) (coefficient u w.form) (neg_ℤ (neg_ℤ (coefficient enter w.form))) (coefficient u v.form) (cond (nat_eq c u) (neg_ℤ (coefficient enter w.form) *ℤ pos v.scale) (pos 0)) a b (cond_other c u (neg_ℤ (coefficient enter w.form) *ℤ pos v.scale) n)))
        ]
      ]
    ]
  where
    none-all : (g a t b k : ℤ) → a ≡ pos 0 → b ≡ pos 0 → k ≡ pos 0 → g *ℤ a +ℤ (t *ℤ b +ℤ k) ≡ pos 0
    none-all g a t b k e f h = ap₂ ◌+ℤ◌ (ap (λ (z : ℤ). g *ℤ z) e ∙ mul-zero_ℤ g) (ap₂ ◌+ℤ◌ (ap (λ (z : ℤ). t *ℤ z) f ∙ mul-zero_ℤ t) h)

own-part : (g s : ℕ) (a t b x y : ℤ) (k : ℕ) → a ≡ pos s *ℤ x → b ≡ pos k *ℤ y → pos g *ℤ a +ℤ (neg_ℤ t *ℤ b +ℤ ((t *ℤ pos k) *ℤ y +ℤ pos 0)) ≡ pos g *ℤ (pos s *ℤ x)
own-part g s a t b x y k e f =
    let c : neg_ℤ t *ℤ b ≡ neg_ℤ (t *ℤ (pos k *ℤ y)) = ap (λ (z : ℤ). neg_ℤ t *ℤ z) f ∙ neg-times t (pos k *ℤ y) in
    let d = mul_assoc_ℤ t (pos k) y in
    let h : pos g *ℤ a ≡ pos g *ℤ (pos s *ℤ x) = ap (λ (z : ℤ). pos g *ℤ z) e in
    omega (arith, ints, c, d, h)

-- at the first corner the other mark would not move on its own ray
no_tie : (p : Problem) (first at : List Mark) (enter c d g : ℕ) (v w : Writing) (x : Point) → Solves p x → HasRays p first → IsMarkAt p c → IsMarkAt p d → AreTied p at c d v w → neg_ℤ (coefficient enter v.form) ≡ pos g → 0 < g → coefficient enter v.form <ℤ pos 0
    → Each (λ f. count_at d w f *ℤ coefficient enter v.form ≡ count_at c v f *ℤ coefficient enter w.form) (map place first) → ⊥
no_tie p first at enter c d g v w x solves rays mark other tied turned above low all =
    let at_first : (u : ℕ) → IsIn u first → count_at d w u *ℤ coefficient enter v.form ≡ count_at c v u *ℤ coefficient enter w.form =
    λ u i. contains_each (λ f. count_at d w f *ℤ coefficient enter v.form ≡ count_at c v f *ℤ coefficient enter w.form) first u (from-places (λ f. count_at d w f *ℤ coefficient enter v.form ≡ count_at c v f *ℤ coefficient enter w.form) first all) i in
    elim (cases_Bool (is_place first d)) [
      | inl i ↦
          no-number w.scale (coefficient d v.form) (coefficient enter v.form) tied.other.scale_positive (none_inside p at v.form d tied.leaving.outside tied.there) low (coefficient enter w.form)
          (ap (λ (b : Bool). cond b (pos w.scale) (neg_ℤ (coefficient d w.form)) *ℤ coefficient enter v.form) (sym (eq-eqb d d refl)) ∙ at_first d (IsIn-from_is_place d first i)
          ∙ ap (λ (b : Bool). cond b (pos v.scale) (neg_ℤ (coefficient d v.form)) *ℤ coefficient enter w.form) (ne_eqb d c tied.apart))
      | inr o ↦
          let r = rays d other (not-in first d o) in
          let dir : IsDirection p r.0 = record { holds = r.1.holds; still = r.1.still } in
          let zero : (u : ℕ) → (u ≡ d → ⊥) → coefficient u (tied_form enter g c v w) *ℤ r.0 u ≡ pos 0 =
          λ u ne. elim (sign_cases (coefficient u (tied_form enter g c v w))) [
            | inl z ↦ no-term (coefficient u (tied_form enter g c v w)) (r.0 u) (inl z)
            | inr s ↦ elim (cases_Bool (is_place first u)) [
              | inl i ↦ no-term (coefficient u (tied_form enter g c v w)) (r.0 u) (inl (tied_none p at enter c d u g v w tied turned ne (at_first u (IsIn-from_is_place u first i))))
              | inr n ↦ no-term (coefficient u (tied_form enter g c v w)) (r.0 u) (inr (outside-still p first d r.0 u r.1 (tied_mark p at enter c d u g v w tied mark (not_zero (coefficient u (tied_form enter g c v w)) s)) (not-in first u n) ne))
            ]
          ] in
          let own : coefficient d (tied_form enter g c v w) ≡ pos 0 =
          combined_coefficient c (neg_ℤ (coefficient enter w.form)) v.scale g w.form v.form d
          ∙ ap₂ ◌+ℤ◌ (ap (λ (z : ℤ). pos g *ℤ z) (none_inside p at w.form d tied.other.outside tied.there) ∙ mul-zero_ℤ (pos g))
          (ap₂ ◌+ℤ◌ (ap (λ (z : ℤ). neg_ℤ (neg_ℤ (coefficient enter w.form)) *ℤ z) (none_inside p at v.form d tied.leaving.outside tied.there) ∙ mul-zero_ℤ (neg_ℤ (neg_ℤ (coefficient enter w.form))))
          (cond_other c d (neg_ℤ (coefficient enter w.form) *ℤ pos v.scale) (λ q. tied.apart (sym q)))) in
          let none : value_at r.0 (tied_form enter g c v w) ≡ pos 0 = value-single r.0 d (tied_form enter g c v w) zero ∙ no-term (coefficient d (tied_form enter g c v w)) (r.0 d) (inl own) in
          let some : value_at r.0 (tied_form enter g c v w) ≡ pos g *ℤ (pos w.scale *ℤ r.0 d) =
          combined_value r.0 c (neg_ℤ (coefficient enter w.form)) v.scale g w.form v.form
          ∙ own-part g w.scale (value_at r.0 w.form) (neg_ℤ (coefficient enter w.form)) (value_at r.0 v.form) (r.0 d) (r.0 c) v.scale
          (sym (along p at d w.scale w.form w.num w.den x r.0 solves tied.other dir)) (sym (along p at c v.scale v.form v.num v.den x r.0 solves tied.leaving dir)) in
          let up : pos 0 <ℤ (pos g *ℤ (pos w.scale *ℤ r.0 d)) = mul_positive g (pos w.scale *ℤ r.0 d) above (mul_positive w.scale (r.0 d) tied.other.scale_positive r.1.here) in
          absurd (omega (arith, ints, none, some, up))
    ]
  where
    from-places : (P : ℕ → Type 0) (ms : List Mark) → Each P (map place ms) → Each (λ m. P (place m)) ms
    from-places P [] h = tt
    from-places P (m ∷ ms) h = (h.0, from-places P ms h.1)

-- ---- the rule

-- a mark that falls no sooner than the leaving one, and is another, stays above 0
pub falls_later : (p : Problem) (first at : List Mark) (values : ℕ → ℕ → ℤ) (one enter c d g : ℕ) (ray : ℕ → ℤ) (v w : Writing) → IsExtended p first at values one → HasRays p first → IsMarkAt p c → IsMarkAt p d → IsRay p at enter ray → AreTied p at c d v w
    → neg_ℤ (coefficient enter v.form) ≡ pos g → 0 < g → coefficient enter v.form <ℤ pos 0 → FallsFirst (map place first) enter c v d w → IsLexPositive (λ k. next_values c ray values k d) (run_columns first)
falls_later p first at values one enter c d g ray v w e rays mark other r tied turned above low rule =
    let x : Point = point_of p first at values one e in
    let stands = point_stands p first at values one e in
    let there_c : pos v.den *ℤ values one_column c ≡ v.num *ℤ pos one = value_there p at (λ y. y c) v.scale v.form v.num v.den x tied.leaving stands ∙ ap (λ (z : ℤ). v.num *ℤ z) e.unit in
    let there_d : pos w.den *ℤ values one_column d ≡ w.num *ℤ pos one = value_there p at (λ y. y d) w.scale w.form w.num w.den x tied.other stands ∙ ap (λ (z : ℤ). w.num *ℤ z) e.unit in
    let moves_c : pos v.scale *ℤ ray c ≡ coefficient enter v.form *ℤ ray enter = ray_number p at c v.scale v.form v.num v.den x enter ray e.solves tied.leaving r in
    let moves_d : pos w.scale *ℤ ray d ≡ coefficient enter w.form *ℤ ray enter = ray_number p at d w.scale w.form w.num w.den x enter ray e.solves tied.other r in
    let up : pos 0 <ℤ (pos one *ℤ ray enter) = mul_positive one (ray enter) e.above r.here in
    let whole : 0 < w.den * (v.scale * (w.scale * v.den)) = mul-pos tied.other.den_positive (mul-pos tied.leaving.scale_positive (mul-pos tied.other.scale_positive tied.leaving.den_positive)) in
    let same : w.den * (v.scale * (w.scale * v.den)) ≡ v.den * (w.scale * (v.scale * w.den)) = omega arith in
    let value : IsDecided (reach enter w v) (reach enter v w) (next_values c ray values one_column d) =
    decided (w.den * (v.scale * (w.scale * v.den))) (values one_column d) (ray c) (values one_column c) (ray d) (reach enter w v) (reach enter v w) (pos one *ℤ ray enter) whole up
    (both-scaled (pos w.den) (pos v.scale) (pos (w.scale * v.den)) (values one_column d) (ray c) w.num (pos one) (coefficient enter v.form) (ray enter) there_d moves_c)
    (ap (λ (k : ℕ). pos k *ℤ (values one_column c *ℤ ray d)) same ∙ both-scaled (pos v.den) (pos w.scale) (pos (v.scale * w.den)) (values one_column c) (ray d) v.num (pos one) (coefficient enter w.form) (ray enter) there_c moves_d) in
    let swap : w.scale * v.scale ≡ v.scale * w.scale = omega arith in
    let columns : Each (λ f. IsDecided (count_at d w f *ℤ coefficient enter v.form) (count_at c v f *ℤ coefficient enter w.form) (next_values c ray values f d)) (map place first) =
    each_places (λ f. IsDecided (count_at d w f *ℤ coefficient enter v.form) (count_at c v f *ℤ coefficient enter w.form) (next_values c ray values f d)) first
    (each-impl (λ m. IsLift p at one (place m) (values (place m))) (λ m. IsDecided (count_at d w (place m) *ℤ coefficient enter v.form) (count_at c v (place m) *ℤ coefficient enter w.form) (next_values c ray values (place m) d)) first
    (λ m lift.
    decided (w.scale * v.scale) (values (place m) d) (ray c) (values (place m) c) (ray d) (count_at d w (place m) *ℤ coefficient enter v.form) (count_at c v (place m) *ℤ coefficient enter w.form) (pos one *ℤ ray enter) (mul-pos tied.other.scale_positive tied.leaving.scale_positive) up
    (sides w.scale v.scale (values (place m) d) (ray c) (pos one) (count_at d w (place m)) (coefficient enter v.form) (ray enter) (counted p first at values one d (place m) w e tied.there tied.other lift) moves_c)
    (ap (λ (k : ℕ). pos k *ℤ (values (place m) c *ℤ ray d)) swap ∙ sides v.scale w.scale (values (place m) c) (ray d) (pos one) (count_at c v (place m)) (coefficient enter w.form) (ray enter) (counted p first at values one c (place m) v e tied.here tied.leaving lift) moves_d))
    e.lifts) in
    elim rule [
      | inl less ↦ inl (value.0 less)
      | inr tie ↦ elim (tie_cases enter c d v w (λ f. next_values c ray values f d) (map place first) columns tie.1) [
        | inl all ↦ absurd (no_tie p first at enter c d g v w x e.solves rays mark other tied turned above low all)
        | inr lex ↦ inr (value.1 tie.0, lex)
      ]
    ]
