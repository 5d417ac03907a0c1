-- No outside mark's column is 0 at all levels.
use Rattle.std.proofs.Common.{◌≡◌, ◌≢◌, ◌∙◌, ℕ, suc, ◌+◌, ◌*◌, ◌/◌, ◌<◌, ◌≤◌, Bool, false, cond, List, [], ◌∷◌, map, ℤ, pos, negsuc, ◌+ℤ◌, ◌-ℤ◌, ◌*ℤ◌, neg_ℤ, ◌<ℤ◌, ◌≤ℤ◌, refl, sym, ap, ap₂, subst, arith, inl, inr, ◌⊎◌, All, Contains, eq-eqb, ne_eqb, true≢false}
use Rattle.std.specs.List.{AllByRecursion as Each}
use Rattle.std.proofs.lemmas.Bool.{cases_eq, cases_Bool}
use Rattle.std.proofs.lemmas.List.Elements.{All-from_recursion, recursion_from_All}
use lib.IntN.{*ℤ_comm}
use borrow.Author.Differences.{ints}
use Rattle.frac_core.proofs.Integers.{cancel_mul, mul-zero_ℤ, zero-mul_ℤ, zero_from_mul, mul_not_negative, add-zero_ℤ, zero-add_ℤ as plus-none}
use Rattle.problem_core.specs.declared.parts.Mark.{Mark}
use Rattle.problem_core.specs.declared.parts.Side.{Side}
use Rattle.problem_core.specs.declared.parts.Side.TheVariants.{Under, Over}
use Rattle.problem_core.specs.declared.parts.Rel.{Rel}
use Rattle.problem_core.specs.declared.parts.Rel.TheVariants.{Eq, Le, Ge}
use Rattle.problem_core.specs.declared.parts.RowName.{RowName}
use Rattle.problem_core.specs.declared.parts.Stay.{Stay}
use Rattle.problem_core.specs.declared.parts.Term.{Term}
use Rattle.problem_core.specs.Layout.{HasStay, IsCovered, IsProblem, Line, Problem, Row, lines, line_of_row, line_of_stay, stay_lines, sum_of, value_at}
use Rattle.problem_core.specs.Kept.{IsWhole, IsRow}
use Rattle.problem_core.specs.Certificates.{Multipliers, under_weight, over_weight, weight_at}
use Rattle.problem_core.specs.Corners.{Agree, AreMultipliersAt, IsCorner, IsIn, Point, StandsAt, attr_column, column, equation, marks_of, one_column, place, place_of}
use Rattle.problem_core.proofs.Corners.CornerFacts.{is_place}
use Rattle.frac_core.proofs.Sums.{sum-append}
use Rattle.problem_core.proofs.Forms.{each-impl, each-both, sum-zero, product-positive, value-plus, value-scaled}
use Rattle.problem_core.proofs.Corners.Tableaus.{unit_at}
use Rattle.problem_core.proofs.Wholes.{whole-IsProblem}
use Rattle.problem_core.specs.Levels.{cost_at, line_cost, scales}
use Rattle.problem_core.specs.Rays.{IsRay}
use Rattle.corner_laws.proofs.Counting.{IsIn-from_is_place, is_place-from_IsIn, IsSmall, bump, bump_one, bump_other, bump_under, cancels, one_mark, over_next, rows_small, stays_small, unit_value}
use Rattle.corner_laws.proofs.WrittenValues.{contains_each}
use Rattle.corner_laws.proofs.LevelCosts.Gaps.{deviation, direction_cost, form_value, moved_columns, no_gap, shares}
use Rattle.frac_core.proofs.Numbers.{up-not-zero as not-above, share-above as positive-share}
use Rattle.frac_core.proofs.Lists.{each-right as each-later, each-joined}
use Rattle.problem_core.proofs.Lines.{under-none, over-none}
use Rattle.problem_core.proofs.Refutations.{sum-not_negative as sum-up}

-- ---- directions

-- it solves the equations without their constants
pub record IsDirection (p : Problem) (d : ℕ → ℤ) : Type 0 where
  pub holds : All (λ l. value_at d (equation l) ≡ pos 0) (lines p)
  pub still : d one_column ≡ pos 0

pub not-in : (at : List Mark) (c : ℕ) → is_place at c ≡ false → IsIn c at → ⊥
not-in at c e i = true≢false (sym (is_place-from_IsIn c at i) ∙ e)

abbrev shifted : (p : Problem) (x : Point) (d : ℕ → ℤ) → d one_column ≡ pos 0 → Point
shifted p x d still = record { num = λ v. x.num v +ℤ d v; positive = subst (λ (z : ℤ). pos 0 <ℤ (x.num one_column +ℤ z)) (sym still) (subst (λ (z : ℤ). pos 0 <ℤ z) (sym (add-zero_ℤ (x.num one_column))) x.positive) }

no-shift : (x d o z : ℤ) → pos 0 <ℤ o → z ≡ pos 0 → x *ℤ (o +ℤ z) ≡ (x +ℤ d) *ℤ o → d ≡ pos 0
no-shift x d (pos n) z above e h =
    let one : pos n +ℤ z ≡ pos n = omega (arith, ints, e) in
    let same : x ≡ x +ℤ d = cancel_mul n x (x +ℤ d) (omega (arith, ints, above)) (*ℤ_comm (pos n) x ∙ ap (λ (k : ℤ). x *ℤ k) (sym one) ∙ h ∙ *ℤ_comm (x +ℤ d) (pos n)) in
    omega (arith, ints, same)
no-shift x d (negsuc n) z above e h = absurd above.lt

later-mark : (m : Mark) (ms : List Mark) (c : ℕ) → Contains (map place ms) c → Contains (map place (m ∷ ms)) c
later-mark m ms c (k, within, is) = (suc k, omega (arith, within), is)

pub all-marks : (ms : List Mark) → Each (λ m. Contains (map place ms) (place m)) ms
all-marks [] = tt
all-marks (m ∷ ms) = ((0, omega arith, refl), each-impl (λ n. Contains (map place ms) (place n)) (λ n. Contains (map place (m ∷ ms)) (place n)) ms (λ n h. later-mark m ms (place n) h) (all-marks ms))

-- a direction in which no outside mark moves
abbrev pub MovesNone : Problem → List Mark → (ℕ → ℤ) → Type 0
MovesNone p at d = (v : ℕ) → (IsIn v at → ⊥) → Contains (map place (marks_of (lines p))) v → d v ≡ pos 0

-- the corner's point moved along it stands there too
moved-stands : (p : Problem) (at : List Mark) (d : ℕ → ℤ) (corner : IsCorner p at) (dir : IsDirection p d) → MovesNone p at d → StandsAt p at (shifted p corner.point d dir.still)
moved-stands p at d corner dir zeros =
    let x : Point = corner.point in (
      All-from_recursion (λ l. value_at (λ v. x.num v +ℤ d v) (equation l) ≡ pos 0) (lines p)
          (each-impl (λ l. (value_at x.num (equation l) ≡ pos 0) × (value_at d (equation l) ≡ pos 0)) _ (lines p) (λ l e. value-plus x.num d (equation l) ∙ ap₂ ◌+ℤ◌ e.0 e.1)
          (each-both _ _ (lines p) (recursion_from_All _ (lines p) corner.stands.0) (recursion_from_All _ (lines p) dir.holds))),
      All-from_recursion (λ m. (IsIn (place m) at → ⊥) → x.num (place m) +ℤ d (place m) ≡ pos 0) (marks_of (lines p))
          (each-impl (λ m. ((IsIn (place m) at → ⊥) → x.num (place m) ≡ pos 0) × Contains (map place (marks_of (lines p))) (place m)) _ (marks_of (lines p))
          (λ m h out. ap₂ ◌+ℤ◌ (h.0 out) (zeros (place m) out h.1))
          (each-both _ _ (marks_of (lines p)) (recursion_from_All _ (marks_of (lines p)) corner.stands.1) (all-marks (marks_of (lines p))))),
    )

-- at a corner no direction moves inside marks alone
pub direction_zero : (p : Problem) (at : List Mark) (d : ℕ → ℤ) (c : ℕ) → IsCorner p at → IsDirection p d → ((v : ℕ) → (IsIn v at → ⊥) → Contains (map place (marks_of (lines p))) v → d v ≡ pos 0) → Contains (map place (marks_of (lines p))) c → d c ≡ pos 0
direction_zero p at d c corner dir zeros mark =
    let x : Point = corner.point in
    let y : Point = shifted p x d dir.still in
    no-shift (x.num c) (d c) (x.num one_column) (d one_column) x.positive dir.still
    (contains_each (λ v. Agree v x y) (marks_of (lines p)) c (recursion_from_All (λ m. Agree (place m) x y) (marks_of (lines p)) (corner.marks_fixed y (moved-stands p at d corner dir zeros))) mark)

-- nor an attribute
pub direction_still : (p : Problem) (at : List Mark) (d : ℕ → ℤ) → IsCorner p at → IsDirection p d → MovesNone p at d → Each (λ s. d (attr_column s.attr) ≡ pos 0) p.stays
direction_still p at d corner dir zeros =
    let x : Point = corner.point in
    let y : Point = shifted p x d dir.still in
    each-impl (λ s. Agree (attr_column s.attr) x y) (λ s. d (attr_column s.attr) ≡ pos 0) p.stays
    (λ s agree. no-shift (x.num (attr_column s.attr)) (d (attr_column s.attr)) (x.num one_column) (d one_column) x.positive dir.still agree)
    (recursion_from_All (λ s. Agree (attr_column s.attr) x y) p.stays (corner.attrs_fixed y (moved-stands p at d corner dir zeros)))

-- ---- both marks of a line

-- how both deviations of the line grow
bump-holds : (p : Problem) (name : RowName) → IsSmall name → Each (λ l. value_at (bump name) (equation l) ≡ pos 0) (lines p)
bump-holds p name small = bump-each (lines p)
  where
    bump-each : (ls : List Line) → Each (λ l. value_at (bump name) (equation l) ≡ pos 0) ls
    bump-each [] = tt
    bump-each (l ∷ ls) = (
      value-plus (unit_at (place_of name Under)) (unit_at (place_of name Over)) (equation l)
          ∙ ap₂ ◌+ℤ◌ (unit_value (place_of name Under) (equation l)) (unit_value (place_of name Over) (equation l)) ∙ cancels l name small,
      bump-each ls,
    )

taken : ℤ → (ℕ → ℤ) → (ℕ → ℤ) → ℕ → ℤ
taken k n b v = n v +ℤ neg_ℤ k *ℤ b v

taken-holds : (p : Problem) (k : ℤ) (n b : ℕ → ℤ) → All (λ l. value_at n (equation l) ≡ pos 0) (lines p) → Each (λ l. value_at b (equation l) ≡ pos 0) (lines p) → All (λ l. value_at (taken k n b) (equation l) ≡ pos 0) (lines p)
unfolding taken
taken-holds p k n b h g =
    All-from_recursion (λ l. value_at (λ v. n v +ℤ neg_ℤ k *ℤ b v) (equation l) ≡ pos 0) (lines p)
    (each-impl (λ l. (value_at n (equation l) ≡ pos 0) × (value_at b (equation l) ≡ pos 0)) _ (lines p)
    (λ l e. value-plus n (λ v. neg_ℤ k *ℤ b v) (equation l) ∙ ap₂ ◌+ℤ◌ e.0 (value-scaled (neg_ℤ k) b (equation l) ∙ ap (λ (z : ℤ). neg_ℤ k *ℤ z) e.1 ∙ mul-zero_ℤ (neg_ℤ k)))
    (each-both _ _ (lines p) (recursion_from_All _ (lines p) h) g))

taken-none : (k n b : ℤ) → n ≡ pos 0 → b ≡ pos 0 → n +ℤ neg_ℤ k *ℤ b ≡ pos 0
taken-none k n b e f = ap₂ ◌+ℤ◌ e (ap (λ (z : ℤ). neg_ℤ k *ℤ z) f ∙ mul-zero_ℤ (neg_ℤ k))

taken-one : (k b : ℤ) → b ≡ pos 1 → k +ℤ neg_ℤ k *ℤ b ≡ pos 0
taken-one k b e = ap (λ (z : ℤ). k +ℤ neg_ℤ k *ℤ z) e ∙ omega (arith, ints)

taken-same : (k n b : ℤ) → b ≡ pos 1 → n +ℤ neg_ℤ k *ℤ b ≡ pos 0 → n ≡ k
taken-same k n b e h =
    let g : n +ℤ neg_ℤ k *ℤ pos 1 ≡ pos 0 = ap (λ (z : ℤ). n +ℤ neg_ℤ k *ℤ z) (sym e) ∙ h in
    omega (arith, ints, g)

-- where one mark of a line is the one that grows and the other is inside, they grow alike: otherwise the difference would move inside marks alone
shared : (p : Problem) (at : List Mark) (n : ℕ → ℤ) (name : RowName) (c o : ℕ) → IsCorner p at → IsSmall name → IsRay p at c n → IsIn o at → Contains (map place (marks_of (lines p))) o → bump name c ≡ pos 1 → bump name o ≡ pos 1 → ((v : ℕ) → v ≢ c → v ≢ o → bump name v ≡ pos 0) → n o ≡ n c
unfolding taken
shared p at n name c o corner small ray inside mark one two rest =
    taken-same (n c) (n o) (bump name o) two
    (direction_zero p at (taken (n c) n (bump name)) o corner
    (record { holds = taken-holds p (n c) n (bump name) ray.holds (bump-holds p name small); still = taken-none (n c) (n one_column) (bump name one_column) ray.still (bump_one name small) })
    (λ v out is. elim (cases_eq v c) [
      | inl e ↦ ap (taken (n c) n (bump name)) e ∙ taken-one (n c) (bump name c) one
      | inr ne ↦ taken-none (n c) (n v) (bump name v)
          (contains_each (λ u. (IsIn u at → ⊥) → u ≢ c → n u ≡ pos 0) (marks_of (lines p)) v (recursion_from_All (λ m. (IsIn (place m) at → ⊥) → place m ≢ c → n (place m) ≡ pos 0) (marks_of (lines p)) ray.other) is out ne)
          (rest v ne (λ e. out (subst (λ (u : ℕ). IsIn u at) (sym e) inside)))
    ])
    mark)

-- the marks of each line are the problem's
pub record IsHere (p : Problem) (l : Line) : Type 0 where
  pub under : Contains (map place (marks_of (lines p))) (place_of l.name Under)
  pub over : Contains (map place (marks_of (lines p))) (place_of l.name Over)

later-two : (a b : Mark) (ms : List Mark) (c : ℕ) → Contains (map place ms) c → Contains (map place (a ∷ b ∷ ms)) c
later-two a b ms c (k, within, is) = (suc (suc k), omega (arith, within), is)

pub here-in : (ls : List Line) → Each (λ l. Contains (map place (marks_of ls)) (place_of l.name Under) × Contains (map place (marks_of ls)) (place_of l.name Over)) ls
here-in [] = tt
here-in (l ∷ ls) = (
  ((0, omega arith, refl), (1, omega arith, refl)),
  each-impl (λ k. Contains (map place (marks_of ls)) (place_of k.name Under) × Contains (map place (marks_of ls)) (place_of k.name Over)) _ ls
      (λ k h. (later-two (record { row = l.name; side = Under }) (record { row = l.name; side = Over }) (marks_of ls) (place_of k.name Under) h.0, later-two (record { row = l.name; side = Under }) (record { row = l.name; side = Over }) (marks_of ls) (place_of k.name Over) h.1))
      (here-in ls),
)

-- what a line's marks do along the ray: none moves, or they grow alike
pub record IsLine (p : Problem) (at : List Mark) (c : ℕ) (n : ℕ → ℤ) (l : Line) : Type 0 where
  pub small : IsSmall l.name
  pub under : Contains (map place (marks_of (lines p))) (place_of l.name Under)
  pub over : Contains (map place (marks_of (lines p))) (place_of l.name Over)

next-ne : (a b : ℕ) → b ≡ a + 1 → a ≢ b
next-ne a b e f = absurd (omega (arith, e, f))

pub bump-over : (name : RowName) → bump name (place_of name Over) ≡ pos 1
bump-over name =
    ap₂ (λ (a b : ℤ). a +ℤ b)
    (ap (λ (t : Bool). cond t (pos 1) (pos 0)) (ne_eqb (place_of name Over) (place_of name Under) (λ e. next-ne (place_of name Under) (place_of name Over) (over_next name) (sym e))))
    (ap (λ (t : Bool). cond t (pos 1) (pos 0)) (eq-eqb (place_of name Over) (place_of name Over) refl))

pub outside-still : (p : Problem) (at : List Mark) (c : ℕ) (n : ℕ → ℤ) (v : ℕ) → IsRay p at c n → Contains (map place (marks_of (lines p))) v → (IsIn v at → ⊥) → v ≢ c → n v ≡ pos 0
outside-still p at c n v ray is out ne =
    contains_each (λ u. (IsIn u at → ⊥) → u ≢ c → n u ≡ pos 0) (marks_of (lines p)) v (recursion_from_All (λ m. (IsIn (place m) at → ⊥) → place m ≢ c → n (place m) ≡ pos 0) (marks_of (lines p)) ray.other) is out ne

-- a mark that does not move, or the other one moves as it does
either-moves : (p : Problem) (at : List Mark) (c : ℕ) (n : ℕ → ℤ) (l : Line) → IsCorner p at → IsRay p at c n → (IsIn c at → ⊥) → IsLine p at c n l
    → ((n (place_of l.name Under) ≡ pos 0) ⊎ (n (place_of l.name Over) ≡ pos 0)) ⊎ ((n (place_of l.name Under) ≡ n (place_of l.name Over)) × (pos 0 <ℤ n (place_of l.name Over)))
either-moves p at c n l corner ray out is =
    elim (cases_Bool (is_place at (place_of l.name Under))) [
      | inl u ↦ elim (cases_Bool (is_place at (place_of l.name Over))) [
        | inl o ↦ absurd (one_mark p at l.name is.small corner (IsIn-from_is_place (place_of l.name Under) at u) (IsIn-from_is_place (place_of l.name Over) at o))
        | inr o ↦ elim (cases_eq (place_of l.name Over) c) [
          | inl e ↦
              let here : pos 0 <ℤ n (place_of l.name Over) = subst (λ (v : ℕ). pos 0 <ℤ n v) (sym e) ray.here in
              inr (
                subst (λ (v : ℕ). n (place_of l.name Under) ≡ n v) (sym e)
                    (shared p at n l.name c (place_of l.name Under) corner is.small ray (IsIn-from_is_place (place_of l.name Under) at u) is.under
                    (subst (λ (v : ℕ). bump l.name v ≡ pos 1) e (bump-over l.name)) (bump_under l.name)
                    (λ v a b. bump_other l.name v b (λ q. a (q ∙ e)))),
                here,
              )
          | inr ne ↦ inl (inr (outside-still p at c n (place_of l.name Over) ray is.over (not-in at (place_of l.name Over) o) ne))
        ]
      ]
      | inr u ↦ elim (cases_eq (place_of l.name Under) c) [
        | inr ne ↦ inl (inl (outside-still p at c n (place_of l.name Under) ray is.under (not-in at (place_of l.name Under) u) ne))
        | inl e ↦ elim (cases_Bool (is_place at (place_of l.name Over))) [
          | inr o ↦ inl (inr (outside-still p at c n (place_of l.name Over) ray is.over (not-in at (place_of l.name Over) o) (λ q. next-ne (place_of l.name Under) (place_of l.name Over) (over_next l.name) (e ∙ sym q))))
          | inl o ↦
              let same : n (place_of l.name Over) ≡ n c =
              shared p at n l.name c (place_of l.name Over) corner is.small ray (IsIn-from_is_place (place_of l.name Over) at o) is.over
              (subst (λ (v : ℕ). bump l.name v ≡ pos 1) e (bump_under l.name)) (bump-over l.name)
              (λ v a b. bump_other l.name v (λ q. a (q ∙ e)) b) in
              inr (ap n e ∙ sym same, subst (λ (z : ℤ). pos 0 <ℤ z) (sym same) ray.here)
        ]
      ]
    ]

-- ---- the levels' costs along the ray

pub cancel-zero : (a b : ℤ) → (a ≡ pos 0) ⊎ (b ≡ pos 0) → a *ℤ b ≡ pos 0
cancel-zero a b (inl e) = ap (λ (z : ℤ). z *ℤ b) e ∙ zero-mul_ℤ b
cancel-zero a b (inr e) = ap (λ (z : ℤ). a *ℤ z) e ∙ mul-zero_ℤ a

pub one-column : (p : Problem) (at : List Mark) (c : ℕ) (n : ℕ → ℤ) (k : ℤ) (v : ℕ) → IsRay p at c n → Contains (map place (marks_of (lines p))) v → (IsIn v at → k ≡ pos 0) → (v ≡ c → k ≡ pos 0) → k *ℤ n v ≡ pos 0
one-column p at c n k v ray is inside here =
    elim (cases_Bool (is_place at v)) [
      | inl i ↦ cancel-zero k (n v) (inl (inside (IsIn-from_is_place v at i)))
      | inr o ↦ elim (cases_eq v c) [
        | inl e ↦ cancel-zero k (n v) (inl (here e))
        | inr ne ↦ cancel-zero k (n v) (inr (outside-still p at c n v ray is (not-in at v o) ne))
      ]
    ]

-- the column is 0 at all levels
abbrev pub IsZeroColumn : Problem → Multipliers → ℕ → Type 0
IsZeroColumn p m c = (side : Side) → All (λ l. place_of l.name side ≡ c → (level : ℕ) → column m side l level ≡ pos 0) (lines p)

costs-nothing : (p : Problem) (at : List Mark) (m : Multipliers) (c : ℕ) (n : ℕ → ℤ) (level : ℕ) → IsProblem p → AreMultipliersAt p at m → IsRay p at c n → IsZeroColumn p m c → cost_at p level n ≡ pos 0
costs-nothing p at m c n level problem is ray none =
    zero_from_mul (m.scale level) (cost_at p level n) (is.scales level)
    (direction_cost p m n level problem (is.cancel level) ray.still ray.holds
    ∙ sum-zero (λ l. pos (scales p / l.scale) *ℤ moved_columns m n level l) (lines p)
    (each-impl (λ l. (Contains (map place (marks_of (lines p))) (place_of l.name Under) × Contains (map place (marks_of (lines p))) (place_of l.name Over))
    × (((IsIn (place_of l.name Under) at → (level : ℕ) → column m Under l level ≡ pos 0) × (place_of l.name Under ≡ c → (level : ℕ) → column m Under l level ≡ pos 0))
    × ((IsIn (place_of l.name Over) at → (level : ℕ) → column m Over l level ≡ pos 0) × (place_of l.name Over ≡ c → (level : ℕ) → column m Over l level ≡ pos 0)))) _ (lines p)
    (λ l h. ap (λ (z : ℤ). pos (scales p / l.scale) *ℤ z)
    (ap₂ ◌+ℤ◌ (one-column p at c n (column m Under l level) (place_of l.name Under) ray h.0.0 (λ i. h.1.0.0 i level) (λ e. h.1.0.1 e level))
    (one-column p at c n (column m Over l level) (place_of l.name Over) ray h.0.1 (λ i. h.1.1.0 i level) (λ e. h.1.1.1 e level)))
    ∙ mul-zero_ℤ (pos (scales p / l.scale)))
    (each-both _ _ (lines p) (here-in (lines p))
    (each-both _ _ (lines p)
    (each-both _ _ (lines p) (recursion_from_All _ (lines p) (is.inside_zero Under)) (recursion_from_All _ (lines p) (none Under)))
    (each-both _ _ (lines p) (recursion_from_All _ (lines p) (is.inside_zero Over)) (recursion_from_All _ (lines p) (none Over)))))))

-- ---- a line's part in the cost of a level

abbrev pub part : ℕ → (ℕ → ℤ) → ℕ → Line → ℤ
part whole n level l = pos (whole / l.scale) *ℤ line_cost level n l

pub weightless : (a b : ℕ) (u o : ℤ) → a ≡ 0 → b ≡ 0 → pos a *ℤ u +ℤ pos b *ℤ o ≡ pos 0
weightless a b u o e f = ap₂ ◌+ℤ◌ (ap (λ (k : ℕ). pos k *ℤ u) e ∙ zero-mul_ℤ u) (ap (λ (k : ℕ). pos k *ℤ o) f ∙ zero-mul_ℤ o)

pub part-other : (whole : ℕ) (n : ℕ → ℤ) (level : ℕ) (l : Line) → l.level ≢ level → part whole n level l ≡ pos 0
part-other whole n level l ne =
    let none : weight_at l level ≡ 0 = ap (λ (b : Bool). cond b l.weight 0) (ne_eqb l.level level ne) in
    ap (λ (z : ℤ). pos (whole / l.scale) *ℤ z)
    (weightless (under_weight l.rel (weight_at l level)) (over_weight l.rel (weight_at l level)) (n (place_of l.name Under)) (n (place_of l.name Over))
    (ap (under_weight l.rel) none ∙ under-none l.rel) (ap (over_weight l.rel) none ∙ over-none l.rel))
    ∙ mul-zero_ℤ (pos (whole / l.scale))

pub part-own : (whole : ℕ) (n : ℕ → ℤ) (l : Line) → part whole n l.level l ≡ pos (whole / l.scale) *ℤ (pos (under_weight l.rel l.weight) *ℤ n (place_of l.name Under) +ℤ pos (over_weight l.rel l.weight) *ℤ n (place_of l.name Over))
part-own whole n l = ap (λ (b : Bool). pos (whole / l.scale) *ℤ (pos (under_weight l.rel (cond b l.weight 0)) *ℤ n (place_of l.name Under) +ℤ pos (over_weight l.rel (cond b l.weight 0)) *ℤ n (place_of l.name Over))) (eq-eqb l.level l.level refl)

-- ---- the stays, each a level by itself

later-none : (f : ℕ → Line → ℤ) (b c : ℕ) (stays : List Stay) → ((level : ℕ) (l : Line) → l.level ≢ level → f level l ≡ pos 0) → b < c → sum_of (f b) (stay_lines c stays) ≡ pos 0
later-none f b c [] h lt = refl
later-none f b c (s ∷ stays) h lt = ap₂ ◌+ℤ◌ (h b (line_of_stay c s) (λ e. absurd (omega (arith, lt, e)))) (later-none f b (c + 1) stays h (omega (arith, lt)))

head-none : (f : ℕ → Line → ℤ) (level b : ℕ) (s : Stay) (stays : List Stay) → ((level : ℕ) (l : Line) → l.level ≢ level → f level l ≡ pos 0) → b < level → sum_of (f level) (stay_lines b (s ∷ stays)) ≡ sum_of (f level) (stay_lines (b + 1) stays)
head-none f level b s stays h lt = ap (λ (z : ℤ). z +ℤ sum_of (f level) (stay_lines (b + 1) stays)) (h level (line_of_stay b s) (λ e. absurd (omega (arith, lt, e)))) ∙ plus-none (sum_of (f level) (stay_lines (b + 1) stays))

stays-alone : (f : ℕ → Line → ℤ) (b : ℕ) (stays : List Stay) → ((level : ℕ) (l : Line) → l.level ≢ level → f level l ≡ pos 0) → ((level : ℕ) → b ≤ level → sum_of (f level) (stay_lines b stays) ≡ pos 0) → Each (λ l. f l.level l ≡ pos 0) (stay_lines b stays)
stays-alone f b [] h k = tt
stays-alone f b (s ∷ stays) h k = (
  sym (add-zero_ℤ (f b (line_of_stay b s))) ∙ ap (λ (z : ℤ). f b (line_of_stay b s) +ℤ z) (sym (later-none f b (b + 1) stays h (omega arith))) ∙ k b (omega arith),
  stays-alone f (b + 1) stays h (λ level le. sym (head-none f level b s stays h (omega (arith, le))) ∙ k level (omega (arith, le))),
)

rows-none : (f : ℕ → Line → ℤ) (level : ℕ) (rows : List Row) → ((level : ℕ) (l : Line) → l.level ≢ level → f level l ≡ pos 0) → 1001 ≤ level → sum_of (f level) (map line_of_row rows) ≡ pos 0
rows-none f level [] h le = refl
rows-none f level (r ∷ rows) h le = ap₂ ◌+ℤ◌ (h level (line_of_row r) (λ e. absurd (omega (arith, le, e)))) (rows-none f level rows h le)

only-stays : (f : ℕ → Line → ℤ) (p : Problem) → ((level : ℕ) (l : Line) → l.level ≢ level → f level l ≡ pos 0) → ((level : ℕ) → sum_of (f level) (lines p) ≡ pos 0) → Each (λ l. f l.level l ≡ pos 0) (stay_lines 1001 p.stays)
only-stays f p h k =
    stays-alone f 1001 p.stays h
    (λ level le. sym (sum-append (f level) (map line_of_row p.rows) (stay_lines 1001 p.stays) ∙ ap (λ (z : ℤ). z +ℤ sum_of (f level) (stay_lines 1001 p.stays)) (rows-none f level p.rows h le) ∙ plus-none (sum_of (f level) (stay_lines 1001 p.stays))) ∙ k level)

-- ---- signs

none-both : (q : ℕ) (u o : ℤ) → 0 < q → pos q *ℤ (pos 1 *ℤ u +ℤ pos 1 *ℤ o) ≡ pos 0 → u +ℤ o ≡ pos 0
none-both q u o above e = let h : pos 1 *ℤ u +ℤ pos 1 *ℤ o ≡ pos 0 = zero_from_mul q (pos 1 *ℤ u +ℤ pos 1 *ℤ o) above e in omega (arith, ints, h)

-- marks that move alike and whose sum is 0 do not move
still-stay : (u o : ℤ) → u +ℤ o ≡ pos 0 → ((u ≡ pos 0) ⊎ (o ≡ pos 0)) ⊎ ((u ≡ o) × (pos 0 <ℤ o)) → (u ≡ pos 0) × (o ≡ pos 0)
still-stay u o e (inl (inl h)) = (h, omega (arith, ints, e, h))
still-stay u o e (inl (inr h)) = (omega (arith, ints, e, h), h)
still-stay u o e (inr h) = absurd (omega (arith, ints, e, h.0, h.1))

alike : (u o : ℤ) → u -ℤ o ≡ pos 0 → ((u ≡ pos 0) ⊎ (o ≡ pos 0)) ⊎ ((u ≡ o) × (pos 0 <ℤ o)) → (u ≡ o) × (pos 0 ≤ℤ o)
alike u o e (inl (inl h)) = (omega (arith, ints, e), omega (arith, ints, e, h))
alike u o e (inl (inr h)) = (omega (arith, ints, e), omega (arith, ints, h))
alike u o e (inr h) = (h.0, omega (arith, ints, h.1))

-- ---- all lines

pub lines-known : (p : Problem) (at : List Mark) (c : ℕ) (n : ℕ → ℤ) → IsWhole p → Each (IsLine p at c n) (lines p)
lines-known p at c n whole =
    each-impl (λ l. IsSmall l.name × (Contains (map place (marks_of (lines p))) (place_of l.name Under) × Contains (map place (marks_of (lines p))) (place_of l.name Over))) (IsLine p at c n) (lines p)
    (λ l h. record { small = h.0; under = h.1.0; over = h.1.1 })
    (each-both (λ l. IsSmall l.name) _ (lines p) (rows_small p.rows (stay_lines 1001 p.stays) (recursion_from_All _ _ whole.rows) (stays_small 1001 p.stays (recursion_from_All _ _ whole.stays))) (here-in (lines p)))

-- what is known of a line along the ray
pub record IsKnown (whole : ℕ) (n : ℕ → ℤ) (l : Line) : Type 0 where
  pub share : 0 < whole / l.scale
  pub gap : deviation n l +ℤ form_value n l ≡ pos 0
  pub moves : ((n (place_of l.name Under) ≡ pos 0) ⊎ (n (place_of l.name Over) ≡ pos 0)) ⊎ ((n (place_of l.name Under) ≡ n (place_of l.name Over)) × (pos 0 <ℤ n (place_of l.name Over)))

pub scales-above : (p : Problem) → IsProblem p → 0 < scales p
scales-above p problem = product-positive (λ (l : Line). l.scale) (lines p) (each-impl (λ l. (0 < l.scale) × (0 < l.den)) (λ l. 0 < l.scale) (lines p) (λ l h. h.0) (recursion_from_All _ (lines p) problem))

all-known : (p : Problem) (at : List Mark) (c : ℕ) (n : ℕ → ℤ) → IsWhole p → IsCorner p at → IsRay p at c n → (IsIn c at → ⊥) → Each (IsKnown (scales p) n) (lines p)
all-known p at c n whole corner ray out =
    each-impl (λ l. (((0 < l.scale) × (0 < l.den)) × (scales p / l.scale * l.scale ≡ scales p)) × ((value_at n (equation l) ≡ pos 0) × IsLine p at c n l)) (IsKnown (scales p) n) (lines p)
    (λ l h. record {
      share = positive-share (scales p) l.scale (scales-above p (whole-IsProblem p whole)) h.0.1;
      gap = no_gap n l h.0.0.1 ray.still h.1.0;
      moves = either-moves p at c n l corner ray out h.1.1;
    })
    (each-both _ _ (lines p)
    (each-both _ _ (lines p) (recursion_from_All _ (lines p) (whole-IsProblem p whole)) (shares p (whole-IsProblem p whole)))
    (each-both _ _ (lines p) (recursion_from_All _ (lines p) ray.holds) (lines-known p at c n whole)))

-- ---- no attribute moves

attr-still : (u o a : ℤ) → (u -ℤ o) +ℤ (pos 1 *ℤ a +ℤ pos 0) ≡ pos 0 → u ≡ pos 0 → o ≡ pos 0 → a ≡ pos 0
attr-still u o a e h k = omega (arith, ints, e, h, k)

one-still : (a : ℤ) → a ≡ pos 0 → pos 1 *ℤ a +ℤ pos 0 ≡ pos 0
one-still a e = omega (arith, ints, e)

stay-still : (whole : ℕ) (n : ℕ → ℤ) (b : ℕ) (stays : List Stay) → Each (IsKnown whole n) (stay_lines b stays) → Each (λ l. part whole n l.level l ≡ pos 0) (stay_lines b stays) → Each (λ s. n (attr_column s.attr) ≡ pos 0) stays
stay-still whole n b [] h k = tt
stay-still whole n b (s ∷ stays) h k =
    let none : n (place_of (line_of_stay b s).name Under) +ℤ n (place_of (line_of_stay b s).name Over) ≡ pos 0 =
    none-both (whole / 1) (n (place_of (line_of_stay b s).name Under)) (n (place_of (line_of_stay b s).name Over)) h.0.share (sym (part-own whole n (line_of_stay b s)) ∙ k.0) in
    let both = still-stay (n (place_of (line_of_stay b s).name Under)) (n (place_of (line_of_stay b s).name Over)) none h.0.moves in
    (attr-still (n (place_of (line_of_stay b s).name Under)) (n (place_of (line_of_stay b s).name Over)) (n (attr_column s.attr)) h.0.gap both.0 both.1, stay-still whole n (b + 1) stays h.1 k.1)

any-still : (n : ℕ → ℤ) (stays : List Stay) (attr : ℕ) → All (λ s. n (attr_column s.attr) ≡ pos 0) stays → HasStay stays attr → n (attr_column attr) ≡ pos 0
any-still n stays attr h (k, s, within, is, e) = subst (λ (a : ℕ). n (attr_column a) ≡ pos 0) e (subst (λ (t : Stay). n (attr_column t.attr) ≡ pos 0) is (h k s within))

form-still : (n : ℕ → ℤ) (terms : List Term) → Each (λ t. n (attr_column t.attr) ≡ pos 0) terms → value_at (λ v. n (attr_column v)) terms ≡ pos 0
form-still n [] h = refl
form-still n (t ∷ terms) h = ap₂ ◌+ℤ◌ (ap (λ (z : ℤ). t.by *ℤ z) h.0 ∙ mul-zero_ℤ t.by) (form-still n terms h.1)

rows-still : (n : ℕ → ℤ) (stays : List Stay) (rows : List Row) → All (λ s. n (attr_column s.attr) ≡ pos 0) stays → Each (IsCovered stays) rows → Each (λ l. form_value n l ≡ pos 0) (map line_of_row rows)
rows-still n stays [] h k = tt
rows-still n stays (r ∷ rows) h k = (
  form-still n r.terms (each-impl (λ t. HasStay stays t.attr) (λ t. n (attr_column t.attr) ≡ pos 0) r.terms (λ t e. any-still n stays t.attr h e) (recursion_from_All _ r.terms k.0)),
  rows-still n stays rows h k.1,
)

stays-forms : (n : ℕ → ℤ) (b : ℕ) (stays : List Stay) → Each (λ s. n (attr_column s.attr) ≡ pos 0) stays → Each (λ l. form_value n l ≡ pos 0) (stay_lines b stays)
stays-forms n b [] h = tt
stays-forms n b (s ∷ stays) h = (one-still (n (attr_column s.attr)) h.0, stays-forms n (b + 1) stays h.1)

-- ---- no mark moves

pub both-up : (a b : ℤ) → pos 0 ≤ℤ a → pos 0 ≤ℤ b → pos 0 ≤ℤ (a +ℤ b)
both-up a b h k = omega (arith, ints, h, k)

pub first-none : (a b : ℤ) → pos 0 ≤ℤ a → pos 0 ≤ℤ b → a +ℤ b ≡ pos 0 → a ≡ pos 0
first-none a b h k e = omega (arith, ints, h, k, e)

pub rest-none : (a b : ℤ) → pos 0 ≤ℤ a → pos 0 ≤ℤ b → a +ℤ b ≡ pos 0 → b ≡ pos 0
rest-none a b h k e = omega (arith, ints, h, k, e)

no-deviation : (d f : ℤ) → d +ℤ f ≡ pos 0 → f ≡ pos 0 → d ≡ pos 0
no-deviation d f e h = omega (arith, ints, e, h)

by-rel : (w : ℕ) (rel : Rel) (u o : ℤ) → 0 < w → u ≡ o → pos 0 ≤ℤ o → pos (under_weight rel w) *ℤ u +ℤ pos (over_weight rel w) *ℤ o ≡ pos 0 → o ≡ pos 0
by-rel w Eq u o above same up e =
    let a = mul_not_negative w u (subst (λ (z : ℤ). pos 0 ≤ℤ z) (sym same) up) in
    let b = mul_not_negative w o up in
    zero_from_mul w o above (rest-none (pos w *ℤ u) (pos w *ℤ o) a b e)
by-rel w Ge u o above same up e = sym same ∙ zero_from_mul w u above (let h : pos w *ℤ u +ℤ pos 0 *ℤ o ≡ pos 0 = e in omega (arith, ints, h, zero-mul_ℤ o))
by-rel w Le u o above same up e = zero_from_mul w o above (let h : pos 0 *ℤ u +ℤ pos w *ℤ o ≡ pos 0 = e in omega (arith, ints, h, zero-mul_ℤ u))

-- the line's marks move alike, not down
pub record IsAlike (n : ℕ → ℤ) (l : Line) : Type 0 where
  pub same : n (place_of l.name Under) ≡ n (place_of l.name Over)
  pub up : pos 0 ≤ℤ n (place_of l.name Over)

part-up : (whole : ℕ) (n : ℕ → ℤ) (level : ℕ) (l : Line) → IsAlike n l → pos 0 ≤ℤ part whole n level l
part-up whole n level l is =
    mul_not_negative (whole / l.scale) (line_cost level n l)
    (both-up (pos (under_weight l.rel (weight_at l level)) *ℤ n (place_of l.name Under)) (pos (over_weight l.rel (weight_at l level)) *ℤ n (place_of l.name Over))
    (mul_not_negative (under_weight l.rel (weight_at l level)) (n (place_of l.name Under)) (subst (λ (z : ℤ). pos 0 ≤ℤ z) (sym is.same) is.up))
    (mul_not_negative (over_weight l.rel (weight_at l level)) (n (place_of l.name Over)) is.up))

pub each-none : {X : Type 0} (f : X → ℤ) (xs : List X) → Each (λ x. pos 0 ≤ℤ f x) xs → sum_of f xs ≡ pos 0 → Each (λ x. f x ≡ pos 0) xs
each-none f [] h e = tt
each-none f (x ∷ xs) h e = let rest = sum-up f xs h.1 in (first-none (f x) (sum_of f xs) h.0 rest e, each-none f xs h.1 (rest-none (f x) (sum_of f xs) h.0 rest e))

each-own : (f : ℕ → Line → ℤ) (ls : List Line) → ((level : ℕ) → Each (λ l. f level l ≡ pos 0) ls) → Each (λ l. f l.level l ≡ pos 0) ls
each-own f [] h = tt
each-own f (l ∷ ls) h = ((h l.level).0, each-own f ls (λ level. (h level).1))

own-none : (q w : ℕ) (rel : Rel) (u o : ℤ) → 0 < q → 0 < w → u ≡ o → pos 0 ≤ℤ o → pos q *ℤ (pos (under_weight rel w) *ℤ u +ℤ pos (over_weight rel w) *ℤ o) ≡ pos 0 → o ≡ pos 0
own-none q w rel u o above heavy same up e =
    let h : pos (under_weight rel w) *ℤ u +ℤ pos (over_weight rel w) *ℤ o ≡ pos 0 = zero_from_mul q _ above e in
    by-rel w rel u o heavy same up h

no-move : (whole : ℕ) (n : ℕ → ℤ) (l : Line) → 0 < l.weight → IsKnown whole n l → IsAlike n l → part whole n l.level l ≡ pos 0 → (n (place_of l.name Under) ≡ pos 0) × (n (place_of l.name Over) ≡ pos 0)
no-move whole n l heavy known is e =
    let o = own-none (whole / l.scale) l.weight l.rel (n (place_of l.name Under)) (n (place_of l.name Over)) known.share heavy is.same is.up (sym (part-own whole n l) ∙ e) in
    (is.same ∙ o, o)

pub row-weights : (rows : List Row) → Each IsRow rows → Each (λ l. 0 < l.weight) (map line_of_row rows)
row-weights [] h = tt
row-weights (r ∷ rows) h = (h.0.weight.0, row-weights rows h.1)

pub stay-weights : (b : ℕ) (stays : List Stay) → Each (λ l. 0 < l.weight) (stay_lines b stays)
stay-weights b [] = tt
stay-weights b (s ∷ stays) = (omega arith, stay-weights (b + 1) stays)

marks-still : (n : ℕ → ℤ) (ls : List Line) → Each (λ l. (n (place_of l.name Under) ≡ pos 0) × (n (place_of l.name Over) ≡ pos 0)) ls → Each (λ m. n (place m) ≡ pos 0) (marks_of ls)
marks-still n [] h = tt
marks-still n (l ∷ ls) h = (h.0.0, (h.0.1, marks-still n ls h.1))

-- at a corner no outside mark's column is 0 at all levels
pub no_zero_column : (p : Problem) (at : List Mark) (m : Multipliers) (c : ℕ) (n : ℕ → ℤ) → IsWhole p → IsCorner p at → AreMultipliersAt p at m → Contains (map place (marks_of (lines p))) c → (IsIn c at → ⊥) → IsRay p at c n → IsZeroColumn p m c → ⊥
no_zero_column p at m c n whole corner is mark out ray none =
    let problem = whole-IsProblem p whole in
    let free : (level : ℕ) → sum_of (part (scales p) n level) (lines p) ≡ pos 0 = λ level. costs-nothing p at m c n level problem is ray none in
    let known = all-known p at c n whole corner ray out in
    let attrs : Each (λ s. n (attr_column s.attr) ≡ pos 0) p.stays =
    stay-still (scales p) n 1001 p.stays (each-later (IsKnown (scales p) n) (map line_of_row p.rows) (stay_lines 1001 p.stays) known) (only-stays (part (scales p) n) p (λ level l ne. part-other (scales p) n level l ne) free) in
    let forms : Each (λ l. form_value n l ≡ pos 0) (lines p) =
    each-joined (λ l. form_value n l ≡ pos 0) (map line_of_row p.rows) (stay_lines 1001 p.stays)
    (rows-still n p.stays p.rows (All-from_recursion _ p.stays attrs) (recursion_from_All (IsCovered p.stays) p.rows whole.covered))
    (stays-forms n 1001 p.stays attrs) in
    let alikes : Each (IsAlike n) (lines p) =
    each-impl (λ l. IsKnown (scales p) n l × (form_value n l ≡ pos 0)) (IsAlike n) (lines p)
    (λ l h. let a = alike (n (place_of l.name Under)) (n (place_of l.name Over)) (no-deviation (deviation n l) (form_value n l) h.0.gap h.1) h.0.moves in record { same = a.0; up = a.1 })
    (each-both _ _ (lines p) known forms) in
    let parts = each-own (part (scales p) n) (lines p) (λ level. each-none (part (scales p) n level) (lines p) (each-impl (IsAlike n) (λ l. pos 0 ≤ℤ part (scales p) n level l) (lines p) (λ l a. part-up (scales p) n level l a) alikes) (free level)) in
    let still = each-impl (λ l. ((0 < l.weight) × IsKnown (scales p) n l) × (IsAlike n l × (part (scales p) n l.level l ≡ pos 0))) (λ l. (n (place_of l.name Under) ≡ pos 0) × (n (place_of l.name Over) ≡ pos 0)) (lines p)
    (λ l h. no-move (scales p) n l h.0.0 h.0.1 h.1.0 h.1.1)
    (each-both _ _ (lines p)
    (each-both _ _ (lines p) (each-joined (λ l. 0 < l.weight) (map line_of_row p.rows) (stay_lines 1001 p.stays) (row-weights p.rows (recursion_from_All IsRow p.rows whole.rows)) (stay-weights 1001 p.stays)) known)
    (each-both _ _ (lines p) alikes parts)) in
    not-above (n c) ray.here (contains_each (λ v. n v ≡ pos 0) (marks_of (lines p)) c (marks-still n (lines p) still) mark)
