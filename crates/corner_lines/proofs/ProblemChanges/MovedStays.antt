-- Where the stays move to the attributes' values at a corner, it stays a corner.
use Rattle.std.proofs.Common.{◌≡◌, ◌≢◌, ◌∙◌, ℕ, zero, suc, ◌+◌, ◌<◌, ◌≤◌, ◌++◌, Bool, cond, nat_eq, List, [], ◌∷◌, map, ℤ, pos, ◌+ℤ◌, ◌-ℤ◌, ◌*ℤ◌, neg_ℤ, ◌<ℤ◌, unsigned_abs, refl, sym, ap, ap₂, subst, arith, All, Contains, inl, inr, ◌⊎◌, eq-eqb, ne_eqb}
use Rattle.std.specs.Int.{◌∣◌}
use Rattle.std.specs.List.{AllByRecursion as Each}
use Rattle.std.proofs.lemmas.Bool.{cases_eq}
use Rattle.std.proofs.lemmas.List.Elements.{recursion_from_All, All-from_recursion}
use lib.IntN.{*ℤ_comm}
use borrow.Author.Differences.{ints}
use Rattle.frac_core.proofs.Integers.{cancel_mul, mul-add_left, mul-sub_left, mul-zero_ℤ, mul_assoc_ℤ, mul_left_comm_ℤ, mul_positive, zero-mul_ℤ, zero_from_mul, sign_cases}
use Rattle.problem_core.specs.declared.parts.Mark.{Mark}
use Rattle.problem_core.specs.declared.parts.RowName.{RowName}
use Rattle.problem_core.specs.declared.parts.RowName.TheVariants.{Held, Stay as StayOf}
use Rattle.problem_core.specs.declared.parts.Side.{Side}
use Rattle.problem_core.specs.declared.parts.Side.TheVariants.{Under, Over}
use Rattle.problem_core.specs.declared.parts.Stay.{Stay}
use Rattle.problem_core.specs.Kept.{IsStay, IsWhole}
use Rattle.problem_core.specs.Layout.{HasStay, Line, Problem, Row, line_of_row, line_of_stay, lines, stay_lines, sum_of, value_at}
use Rattle.problem_core.specs.Corners.{Agree, IsCorner, IsIn, Point, Solves, StandsAt, attr_column, equation, marks_of, one_column, place, place_of}
use Rattle.problem_core.specs.Rays.{HasRays}
use Rattle.problem_core.proofs.Forms.{each-both, each-impl, mul-sum, value-scaled}
use Rattle.problem_core.proofs.Wholes.{whole-IsProblem}
use Rattle.corner_laws.proofs.Rays.{cancel-right}
use Rattle.corner_laws.proofs.WrittenValues.{nothing_outside, value_there}
use Rattle.corner_laws.proofs.ZeroColumns.{here-in}
use Rattle.corner_lines.specs.LineEquations.{HasValue, IsLineEquation, IsOutsideLine, deviation, mark_form}
use Rattle.corner_lines.specs.Joins.{HaveStood, with_stays}
use Rattle.corner_lines.proofs.ProblemChanges.JoinedRows.{each-column}
use Rattle.corner_lines.proofs.Lines.LineWritings.{line_writing}
use Rattle.corner_lines.proofs.Lines.MarkForms.{same-name}
use Rattle.problem_core.proofs.Corners.Conflicts.{sum-each}
use Rattle.problem_core.proofs.RowNames.{held-not-stay}
use Rattle.frac_core.proofs.Numbers.{plus-none as no-more, zero-parts as both-parts, signed-not-zero as not_zero, as-natural as above-zero, neg-times, cancel-scale as without-unit}
use Rattle.problem_core.proofs.Lines.{rows-change}
use Rattle.corner_lines.proofs.ProblemChanges.Dropped.{same-deviation}

-- ---- the stays, pair by pair

-- the new stay has the same attribute, with its value at the point as the target
record IsMoved (x : ℕ → ℤ) (s t : Stay) : Type 0 where
  same : t.attr ≡ s.attr
  above : 0 < t.target.den
  value : x (attr_column s.attr) *ℤ pos t.target.den ≡ t.target.num *ℤ x one_column

abbrev AreMoved : (ℕ → ℤ) → List Stay → List Stay → Type 0
AreMoved x [] [] = Unit {0}
AreMoved x [] (t ∷ new) = ⊥
AreMoved x (s ∷ old) [] = ⊥
AreMoved x (s ∷ old) (t ∷ new) = IsMoved x s t × AreMoved x old new

first_or : ℕ → List ℕ → ℕ
first_or d [] = d
first_or d (x ∷ xs) = x

rest_of : List ℕ → List ℕ
rest_of [] = []
rest_of (x ∷ xs) = xs

is_some : List ℕ → ℕ
is_some [] = 0
is_some (x ∷ xs) = 1

first-same : (a b : ℕ) (xs ys : List ℕ) → (a ∷ xs) ≡ (b ∷ ys) → a ≡ b
unfolding first_or
first-same a b xs ys e = ap (λ (zs : List ℕ). first_or a zs) e

rest-same : (a b : ℕ) (xs ys : List ℕ) → (a ∷ xs) ≡ (b ∷ ys) → xs ≡ ys
unfolding rest_of
rest-same a b xs ys e = ap rest_of e

some-none : (a : ℕ) (xs : List ℕ) → (a ∷ xs) ≡ [] → ⊥
unfolding is_some
some-none a xs e = absurd (let h : 1 ≡ 0 = ap is_some e in omega (arith, h))

are-moved : (x : ℕ → ℤ) (old new : List Stay) → map (λ (s : Stay). s.attr) new ≡ map (λ (s : Stay). s.attr) old → Each (λ (t : Stay). (0 < t.target.den) × (x (attr_column t.attr) *ℤ pos t.target.den ≡ t.target.num *ℤ x one_column)) new → AreMoved x old new
are-moved x [] [] e h = tt
are-moved x [] (t ∷ new) e h = absurd (some-none t.attr (map (λ (s : Stay). s.attr) new) e)
are-moved x (s ∷ old) [] e h = absurd (some-none s.attr (map (λ (s : Stay). s.attr) old) (sym e))
are-moved x (s ∷ old) (t ∷ new) e h =
    let same : t.attr ≡ s.attr = first-same t.attr s.attr (map (λ (s : Stay). s.attr) new) (map (λ (s : Stay). s.attr) old) e in (
      record { same = same; above = h.0.0; value = subst (λ (n : ℕ). x (attr_column n) *ℤ pos t.target.den ≡ t.target.num *ℤ x one_column) same h.0.1 },
      are-moved x old new (rest-same t.attr s.attr (map (λ (s : Stay). s.attr) new) (map (λ (s : Stay). s.attr) old) e) h.1,
    )

-- ---- the lines, pair by pair

stays-forward : (P Q : Line → Type 0) (x : ℕ → ℤ) (level : ℕ) (old new : List Stay) → ((n : ℕ) (s t : Stay) → IsMoved x s t → P (line_of_stay n s) → Q (line_of_stay n t)) → AreMoved x old new → Each P (stay_lines level old) → Each Q (stay_lines level new)
stays-forward P Q x level [] [] f m h = tt
stays-forward P Q x level [] (t ∷ new) f m h = absurd m
stays-forward P Q x level (s ∷ old) [] f m h = absurd m
stays-forward P Q x level (s ∷ old) (t ∷ new) f m h = (f level s t m.0 h.0, stays-forward P Q x (level + 1) old new f m.1 h.1)

stays-back : (P Q : Line → Type 0) (x : ℕ → ℤ) (level : ℕ) (old new : List Stay) → ((n : ℕ) (s t : Stay) → IsMoved x s t → P (line_of_stay n t) → Q (line_of_stay n s)) → AreMoved x old new → Each P (stay_lines level new) → Each Q (stay_lines level old)
stays-back P Q x level [] [] f m h = tt
stays-back P Q x level [] (t ∷ new) f m h = absurd m
stays-back P Q x level (s ∷ old) [] f m h = absurd m
stays-back P Q x level (s ∷ old) (t ∷ new) f m h = (f level s t m.0 h.0, stays-back P Q x (level + 1) old new f m.1 h.1)

forward : (P Q : Line → Type 0) (x : ℕ → ℤ) (p : Problem) (new : List Stay) → ((r : Row) → P (line_of_row r) → Q (line_of_row r)) → ((n : ℕ) (s t : Stay) → IsMoved x s t → P (line_of_stay n s) → Q (line_of_stay n t)) → AreMoved x p.stays new → Each P (lines p) → Each Q (lines (with_stays new p))
forward P Q x p new f g m h = rows-change P Q p.rows (stay_lines 1001 p.stays) (stay_lines 1001 new) f (stays-forward P Q x 1001 p.stays new g m) h

back : (P Q : Line → Type 0) (x : ℕ → ℤ) (p : Problem) (new : List Stay) → ((r : Row) → P (line_of_row r) → Q (line_of_row r)) → ((n : ℕ) (s t : Stay) → IsMoved x s t → P (line_of_stay n t) → Q (line_of_stay n s)) → AreMoved x p.stays new → Each P (lines (with_stays new p)) → Each Q (lines p)
back P Q x p new f g m h = rows-change P Q p.rows (stay_lines 1001 new) (stay_lines 1001 p.stays) f (stays-back P Q x 1001 p.stays new g m) h

-- what holds of names holds in both
names-forward : (P : RowName → Type 0) (x : ℕ → ℤ) (p : Problem) (new : List Stay) → AreMoved x p.stays new → Each (λ l. P l.name) (lines p) → Each (λ l. P l.name) (lines (with_stays new p))
names-forward P x p new m h = forward (λ l. P l.name) (λ l. P l.name) x p new (λ r k. k) (λ n s t q k. subst (λ (a : ℕ). P (StayOf a)) (sym q.same) k) m h

names-back : (P : RowName → Type 0) (x : ℕ → ℤ) (p : Problem) (new : List Stay) → AreMoved x p.stays new → Each (λ l. P l.name) (lines (with_stays new p)) → Each (λ l. P l.name) (lines p)
names-back P x p new m h = back (λ l. P l.name) (λ l. P l.name) x p new (λ r k. k) (λ n s t q k. subst (λ (a : ℕ). P (StayOf a)) q.same k) m h

stays-sum : (F : RowName → ℤ) (x : ℕ → ℤ) (level : ℕ) (old new : List Stay) → AreMoved x old new → sum_of (λ l. F l.name) (stay_lines level new) ≡ sum_of (λ l. F l.name) (stay_lines level old)
stays-sum F x level [] [] m = refl
stays-sum F x level [] (t ∷ new) m = absurd m
stays-sum F x level (s ∷ old) [] m = absurd m
stays-sum F x level (s ∷ old) (t ∷ new) m = ap₂ ◌+ℤ◌ (ap (λ (a : ℕ). F (StayOf a)) m.0.same) (stays-sum F x (level + 1) old new m.1)

rows-sum : (F : RowName → ℤ) (rows : List Row) (old new : List Line) → sum_of (λ l. F l.name) new ≡ sum_of (λ l. F l.name) old → sum_of (λ l. F l.name) (map line_of_row rows ++ new) ≡ sum_of (λ l. F l.name) (map line_of_row rows ++ old)
rows-sum F [] old new e = e
rows-sum F (r ∷ rows) old new e = ap (λ (z : ℤ). F (Held r.id) +ℤ z) (rows-sum F rows old new e)

names-sum : (F : RowName → ℤ) (x : ℕ → ℤ) (p : Problem) (new : List Stay) → AreMoved x p.stays new → sum_of (λ l. F l.name) (lines (with_stays new p)) ≡ sum_of (λ l. F l.name) (lines p)
names-sum F x p new m = rows-sum F p.rows (stay_lines 1001 p.stays) (stay_lines 1001 new) (stays-sum F x 1001 p.stays new m)

stays-marks : (x : ℕ → ℤ) (level : ℕ) (old new : List Stay) → AreMoved x old new → marks_of (stay_lines level new) ≡ marks_of (stay_lines level old)
stays-marks x level [] [] m = refl
stays-marks x level [] (t ∷ new) m = absurd m
stays-marks x level (s ∷ old) [] m = absurd m
stays-marks x level (s ∷ old) (t ∷ new) m = ap₂ (λ (a : ℕ) (ms : List Mark). record { row = StayOf a; side = Under } ∷ record { row = StayOf a; side = Over } ∷ ms) m.0.same (stays-marks x (level + 1) old new m.1)

rows-marks : (rows : List Row) (old new : List Line) → marks_of new ≡ marks_of old → marks_of (map line_of_row rows ++ new) ≡ marks_of (map line_of_row rows ++ old)
rows-marks [] old new e = e
rows-marks (r ∷ rows) old new e = ap (λ (ms : List Mark). record { row = Held r.id; side = Under } ∷ record { row = Held r.id; side = Over } ∷ ms) (rows-marks rows old new e)

same-marks : (x : ℕ → ℤ) (p : Problem) (new : List Stay) → AreMoved x p.stays new → marks_of (lines (with_stays new p)) ≡ marks_of (lines p)
same-marks x p new m = rows-marks p.rows (stay_lines 1001 p.stays) (stay_lines 1001 new) (stays-marks x 1001 p.stays new m)

-- ---- the stays' part of a point

-- the numbers of the stays' marks alone
abbrev pub stay_part : List Stay → (ℕ → ℤ) → ℕ → ℤ
stay_part [] x v = pos 0
stay_part (s ∷ stays) x v = cond (nat_eq v (place_of (StayOf s.attr) Under)) (x v) (cond (nat_eq v (place_of (StayOf s.attr) Over)) (x v) (stay_part stays x v))

abbrev NoStay : List Stay → ℕ → Type 0
NoStay stays v = Each (λ (s : Stay). (v ≢ place_of (StayOf s.attr) Under) × (v ≢ place_of (StayOf s.attr) Over)) stays

part-on : (s : Stay) (stays : List Stay) (x : ℕ → ℤ) (v : ℕ) (side : Side) → v ≡ place_of (StayOf s.attr) side → stay_part (s ∷ stays) x v ≡ x v
part-on s stays x v Under e = ap (λ (b : Bool). cond b (x v) (cond (nat_eq v (place_of (StayOf s.attr) Over)) (x v) (stay_part stays x v))) (eq-eqb v (place_of (StayOf s.attr) Under) e)
part-on s stays x v Over e = elim (cases_eq v (place_of (StayOf s.attr) Under)) [
  | inl u ↦ ap (λ (b : Bool). cond b (x v) (cond (nat_eq v (place_of (StayOf s.attr) Over)) (x v) (stay_part stays x v))) (eq-eqb v (place_of (StayOf s.attr) Under) u)
  | inr n ↦ ap (λ (b : Bool). cond b (x v) (cond (nat_eq v (place_of (StayOf s.attr) Over)) (x v) (stay_part stays x v))) (ne_eqb v (place_of (StayOf s.attr) Under) n)
      ∙ ap (λ (b : Bool). cond b (x v) (stay_part stays x v)) (eq-eqb v (place_of (StayOf s.attr) Over) e)
]

part-off : (s : Stay) (stays : List Stay) (x : ℕ → ℤ) (v : ℕ) → v ≢ place_of (StayOf s.attr) Under → v ≢ place_of (StayOf s.attr) Over → stay_part (s ∷ stays) x v ≡ stay_part stays x v
part-off s stays x v u o =
    ap (λ (b : Bool). cond b (x v) (cond (nat_eq v (place_of (StayOf s.attr) Over)) (x v) (stay_part stays x v))) (ne_eqb v (place_of (StayOf s.attr) Under) u)
    ∙ ap (λ (b : Bool). cond b (x v) (stay_part stays x v)) (ne_eqb v (place_of (StayOf s.attr) Over) o)

part-none : (stays : List Stay) (x : ℕ → ℤ) (v : ℕ) → NoStay stays v → stay_part stays x v ≡ pos 0
part-none [] x v h = refl
part-none (s ∷ stays) x v h = part-off s stays x v h.0.0 h.0.1 ∙ part-none stays x v h.1

-- it is the number or 0
part-either : (stays : List Stay) (x : ℕ → ℤ) (v : ℕ) → (stay_part stays x v ≡ x v) ⊎ (stay_part stays x v ≡ pos 0)
part-either [] x v = inr refl
part-either (s ∷ stays) x v = elim (cases_eq v (place_of (StayOf s.attr) Under)) [
  | inl e ↦ inl (part-on s stays x v Under e)
  | inr u ↦ elim (cases_eq v (place_of (StayOf s.attr) Over)) [
    | inl e ↦ inl (part-on s stays x v Over e)
    | inr o ↦ elim (part-either stays x v) [
      | inl h ↦ inl (part-off s stays x v u o ∙ h)
      | inr h ↦ inr (part-off s stays x v u o ∙ h)
    ]
  ]
]

part-zero : (stays : List Stay) (x : ℕ → ℤ) (v : ℕ) → x v ≡ pos 0 → stay_part stays x v ≡ pos 0
part-zero stays x v none = elim (part-either stays x v) [
  | inl h ↦ h ∙ none
  | inr h ↦ h
]

part-own : (stays : List Stay) (x : ℕ → ℤ) (attr : ℕ) (side : Side) → HasStay stays attr → stay_part stays x (place_of (StayOf attr) side) ≡ x (place_of (StayOf attr) side)
part-own [] x attr side (k, t, within, is, e) = absurd (omega (arith, within))
part-own (s ∷ stays) x attr side (zero, t, within, is, e) = part-on s stays x (place_of (StayOf attr) side) side (ap (λ (a : ℕ). place_of (StayOf a) side) (sym (ap (λ (u : Stay). u.attr) is ∙ e)))
part-own (s ∷ stays) x attr side (suc k, t, within, is, e) = elim (cases_eq (place_of (StayOf attr) side) (place_of (StayOf s.attr) Under)) [
  | inl q ↦ part-on s stays x (place_of (StayOf attr) side) Under q
  | inr u ↦ elim (cases_eq (place_of (StayOf attr) side) (place_of (StayOf s.attr) Over)) [
    | inl q ↦ part-on s stays x (place_of (StayOf attr) side) Over q
    | inr o ↦ part-off s stays x (place_of (StayOf attr) side) u o ∙ part-own stays x attr side (k, t, omega (arith, within), is, e)
  ]
]

pub own-stays : (stays : List Stay) → Each (λ (s : Stay). HasStay stays s.attr) stays
own-stays [] = tt
own-stays (s ∷ stays) = ((0, s, omega arith, refl, refl), each-impl (λ (t : Stay). HasStay stays t.attr) _ stays (λ t (k, u, within, is, e). (suc k, u, omega (arith, within), is, e)) (own-stays stays))

no-held : (stays : List Stay) (id : ℕ) (side : Side) → NoStay stays (place_of (Held id) side)
no-held [] id side = tt
no-held (s ∷ stays) id side = (((λ e. held-not-stay id s.attr (same-name (Held id) (StayOf s.attr) side Under e)), (λ e. held-not-stay id s.attr (same-name (Held id) (StayOf s.attr) side Over e))), no-held stays id side)

no-large : (stays : List Stay) (v : ℕ) → Each IsStay stays → 17179869184 ≤ v → NoStay stays v
no-large [] v h large = tt
no-large (s ∷ stays) v h large = (((λ e. absurd (let n = h.0.attr.1 in omega (arith, n, e, large))), (λ e. absurd (let n = h.0.attr.1 in omega (arith, n, e, large)))), no-large stays v h.1 large)

-- a row's equation does not speak of stays' marks
row-part : (p : Problem) (x : ℕ → ℤ) (r : Row) → IsWhole p → Each (λ e. stay_part p.stays x e.attr ≡ pos 0) (equation (line_of_row r))
row-part p x r whole =
    let stays = recursion_from_All IsStay p.stays whole.stays in
    each-column (λ c. stay_part p.stays x c ≡ pos 0) (line_of_row r)
    (part-none p.stays x (place_of (Held r.id) Under) (no-held p.stays r.id Under)) (part-none p.stays x (place_of (Held r.id) Over) (no-held p.stays r.id Over))
    (part-none p.stays x one_column (no-large p.stays one_column stays (omega arith))) (λ a. part-none p.stays x (attr_column a) (no-large p.stays (attr_column a) stays (omega arith)))

one-part : (p : Problem) (x : ℕ → ℤ) → IsWhole p → stay_part p.stays x one_column ≡ pos 0
one-part p x whole = part-none p.stays x one_column (no-large p.stays one_column (recursion_from_All IsStay p.stays whole.stays) (omega arith))

attr-part : (p : Problem) (x : ℕ → ℤ) (a : ℕ) → IsWhole p → stay_part p.stays x (attr_column a) ≡ pos 0
attr-part p x a whole = part-none p.stays x (attr_column a) (no-large p.stays (attr_column a) (recursion_from_All IsStay p.stays whole.stays) (omega arith))

-- ---- a stay's equation

stay-value : (d : ℕ) (k u o one a : ℤ) → pos d *ℤ u +ℤ (neg_ℤ (pos d) *ℤ o +ℤ (neg_ℤ k *ℤ one +ℤ ((pos d *ℤ pos 1) *ℤ a +ℤ pos 0))) ≡ pos d *ℤ ((u -ℤ o) +ℤ a) -ℤ k *ℤ one
stay-value d k u o one a =
    let b = neg-times (pos d) o in
    let c = neg-times k one in
    let e : (pos d *ℤ pos 1) *ℤ a ≡ pos d *ℤ a = ap (λ (z : ℤ). z *ℤ a) (let h : pos d *ℤ pos 1 ≡ pos d = omega (arith, ints) in h) in
    omega (arith, ints, b, c, e, mul-add_left (pos d) (u -ℤ o) a, mul-sub_left (pos d) u o)

pub stay-holds : (n : ℕ) (s : Stay) (y : ℕ → ℤ) → value_at y (equation (line_of_stay n s)) ≡ pos 0 → pos s.target.den *ℤ ((y (place_of (StayOf s.attr) Under) -ℤ y (place_of (StayOf s.attr) Over)) +ℤ y (attr_column s.attr)) ≡ s.target.num *ℤ y one_column
stay-holds n s y h =
    same (pos s.target.den *ℤ ((y (place_of (StayOf s.attr) Under) -ℤ y (place_of (StayOf s.attr) Over)) +ℤ y (attr_column s.attr))) (s.target.num *ℤ y one_column)
    (sym (stay-value s.target.den s.target.num (y (place_of (StayOf s.attr) Under)) (y (place_of (StayOf s.attr) Over)) (y one_column) (y (attr_column s.attr))) ∙ h)
  where
    same : (a b : ℤ) → a -ℤ b ≡ pos 0 → a ≡ b
    same a b e = omega (arith, ints, e)

pub stay-solves : (n : ℕ) (s : Stay) (y : ℕ → ℤ) → pos s.target.den *ℤ ((y (place_of (StayOf s.attr) Under) -ℤ y (place_of (StayOf s.attr) Over)) +ℤ y (attr_column s.attr)) ≡ s.target.num *ℤ y one_column → value_at y (equation (line_of_stay n s)) ≡ pos 0
stay-solves n s y h =
    stay-value s.target.den s.target.num (y (place_of (StayOf s.attr) Under)) (y (place_of (StayOf s.attr) Over)) (y one_column) (y (attr_column s.attr))
    ∙ same (pos s.target.den *ℤ ((y (place_of (StayOf s.attr) Under) -ℤ y (place_of (StayOf s.attr) Over)) +ℤ y (attr_column s.attr))) (s.target.num *ℤ y one_column) h
  where
    same : (a b : ℤ) → a ≡ b → a -ℤ b ≡ pos 0
    same a b e = omega (arith, ints, e)

-- ---- from the stays before to those after: the corner's point without the stays' marks

abbrev settled : List Stay → (ℕ → ℤ) → ℕ → ℤ
settled stays x v = x v -ℤ stay_part stays x v

settled-same : (stays : List Stay) (x : ℕ → ℤ) (v : ℕ) → stay_part stays x v ≡ pos 0 → settled stays x v ≡ x v
settled-same stays x v e = less-none (x v) (stay_part stays x v) e
  where
    less-none : (a b : ℤ) → b ≡ pos 0 → a -ℤ b ≡ a
    less-none a b e = omega (arith, ints, e)

settled-none : (stays : List Stay) (x : ℕ → ℤ) (v : ℕ) → stay_part stays x v ≡ x v → settled stays x v ≡ pos 0
settled-none stays x v e = less-all (x v) (stay_part stays x v) e
  where
    less-all : (a b : ℤ) → b ≡ a → a -ℤ b ≡ pos 0
    less-all a b e = omega (arith, ints, e)

at-value : (d : ℕ) (k u o a one : ℤ) → u ≡ pos 0 → o ≡ pos 0 → a *ℤ pos d ≡ k *ℤ one → pos d *ℤ ((u -ℤ o) +ℤ a) ≡ k *ℤ one
at-value d k u o a one e f h = ap (λ (z : ℤ). pos d *ℤ z) (let g : (u -ℤ o) +ℤ a ≡ a = omega (arith, ints, e, f) in g) ∙ *ℤ_comm (pos d) a ∙ h

settled-solves : (p : Problem) (new : List Stay) (x : ℕ → ℤ) → IsWhole p → AreMoved x p.stays new → All (λ l. value_at x (equation l) ≡ pos 0) (lines p) → All (λ l. value_at (settled p.stays x) (equation l) ≡ pos 0) (lines (with_stays new p))
settled-solves p new x whole m h =
    All-from_recursion (λ l. value_at (settled p.stays x) (equation l) ≡ pos 0) (lines (with_stays new p))
    (rows-change (λ l. value_at x (equation l) ≡ pos 0) (λ l. value_at (settled p.stays x) (equation l) ≡ pos 0) p.rows (stay_lines 1001 p.stays) (stay_lines 1001 new)
    (λ r k. sum-each (λ e. e.by *ℤ settled p.stays x e.attr) (λ e. e.by *ℤ x e.attr) (equation (line_of_row r))
    (each-impl (λ e. stay_part p.stays x e.attr ≡ pos 0) _ (equation (line_of_row r)) (λ e q. ap (λ (z : ℤ). e.by *ℤ z) (settled-same p.stays x e.attr q)) (row-part p x r whole)) ∙ k)
    (λ k. stays-on 1001 p.stays new (own-stays p.stays) m) (recursion_from_All (λ l. value_at x (equation l) ≡ pos 0) (lines p) h))
  where
    stays-on : (level : ℕ) (old new : List Stay) → Each (λ (s : Stay). HasStay p.stays s.attr) old → AreMoved x old new → Each (λ l. value_at (settled p.stays x) (equation l) ≡ pos 0) (stay_lines level new)
    stays-on level [] [] has m = tt
    stays-on level [] (t ∷ new) has m = absurd m
    stays-on level (s ∷ old) [] has m = absurd m
    stays-on level (s ∷ old) (t ∷ new) has m = (
      stay-solves level t (settled p.stays x)
          (subst (λ (a : ℕ). pos t.target.den *ℤ ((settled p.stays x (place_of (StayOf a) Under) -ℤ settled p.stays x (place_of (StayOf a) Over)) +ℤ settled p.stays x (attr_column a)) ≡ t.target.num *ℤ settled p.stays x one_column) (sym m.0.same)
          (at-value t.target.den t.target.num (settled p.stays x (place_of (StayOf s.attr) Under)) (settled p.stays x (place_of (StayOf s.attr) Over)) (settled p.stays x (attr_column s.attr)) (settled p.stays x one_column)
          (settled-none p.stays x (place_of (StayOf s.attr) Under) (part-own p.stays x s.attr Under has.0)) (settled-none p.stays x (place_of (StayOf s.attr) Over) (part-own p.stays x s.attr Over has.0))
          (ap (λ (z : ℤ). z *ℤ pos t.target.den) (settled-same p.stays x (attr_column s.attr) (attr-part p x s.attr whole)) ∙ m.0.value ∙ ap (λ (z : ℤ). t.target.num *ℤ z) (sym (settled-same p.stays x one_column (one-part p x whole)))))),
      stays-on (level + 1) old new has.1 m.1,
    )

-- ---- from the stays after to those before

-- g times the numbers, and the stays' part of the corner's point as often as the unit
abbrev pub unsettled : ℕ → List Stay → (ℕ → ℤ) → (ℕ → ℤ) → ℕ → ℤ
unsettled g stays x y v = pos g *ℤ y v +ℤ y one_column *ℤ stay_part stays x v

unsettled-same : (g : ℕ) (stays : List Stay) (x y : ℕ → ℤ) (v : ℕ) → stay_part stays x v ≡ pos 0 → unsettled g stays x y v ≡ pos g *ℤ y v
unsettled-same g stays x y v e = no-more (pos g *ℤ y v) (y one_column) (stay_part stays x v) e

-- t*(w) = k*y1, s*(W + A) = n*G, A*t = k*G: s*((g*u + y1*U - (g*o + y1*O)) + g*a) = n*(g*y1)
unsettled-parts : (s t g : ℕ) (n k u o a U O A y1 : ℤ) → 0 < t → pos t *ℤ ((u -ℤ o) +ℤ a) ≡ k *ℤ y1 → pos s *ℤ ((U -ℤ O) +ℤ A) ≡ n *ℤ pos g → A *ℤ pos t ≡ k *ℤ pos g
    → pos s *ℤ (((pos g *ℤ u +ℤ y1 *ℤ U) -ℤ (pos g *ℤ o +ℤ y1 *ℤ O)) +ℤ pos g *ℤ a) ≡ n *ℤ (pos g *ℤ y1)
unsettled-parts s t g n k u o a U O A y1 above h w e =
    let gap : ℤ = (u -ℤ o) +ℤ a in
    let all : pos g *ℤ gap ≡ A *ℤ y1 =
    cancel_mul t (pos g *ℤ gap) (A *ℤ y1) above
    (mul_left_comm_ℤ (pos t) (pos g) gap ∙ ap (λ (z : ℤ). pos g *ℤ z) h ∙ mul_left_comm_ℤ (pos g) k y1 ∙ sym (mul_assoc_ℤ k (pos g) y1) ∙ ap (λ (z : ℤ). z *ℤ y1) (sym e) ∙ mul_assoc_ℤ A (pos t) y1 ∙ mul_left_comm_ℤ A (pos t) y1) in
    let split : pos g *ℤ gap ≡ (pos g *ℤ u -ℤ pos g *ℤ o) +ℤ pos g *ℤ a = mul-add_left (pos g) (u -ℤ o) a ∙ ap (λ (z : ℤ). z +ℤ pos g *ℤ a) (mul-sub_left (pos g) u o) in
    let parts : y1 *ℤ ((U -ℤ O) +ℤ A) ≡ (y1 *ℤ U -ℤ y1 *ℤ O) +ℤ y1 *ℤ A = mul-add_left y1 (U -ℤ O) A ∙ ap (λ (z : ℤ). z +ℤ y1 *ℤ A) (mul-sub_left y1 U O) in
    let inner : ((pos g *ℤ u +ℤ y1 *ℤ U) -ℤ (pos g *ℤ o +ℤ y1 *ℤ O)) +ℤ pos g *ℤ a ≡ y1 *ℤ ((U -ℤ O) +ℤ A) = omega (arith, ints, all, split, parts, *ℤ_comm A y1) in
    ap (λ (z : ℤ). pos s *ℤ z) inner ∙ mul_left_comm_ℤ (pos s) y1 ((U -ℤ O) +ℤ A) ∙ ap (λ (z : ℤ). y1 *ℤ z) w ∙ mul_left_comm_ℤ y1 n (pos g) ∙ ap (λ (z : ℤ). n *ℤ z) (*ℤ_comm y1 (pos g))

unsettled-solves : (p : Problem) (new : List Stay) (g : ℕ) (x y : ℕ → ℤ) → IsWhole p → x one_column ≡ pos g → AreMoved x p.stays new → All (λ l. value_at x (equation l) ≡ pos 0) (lines p) → All (λ l. value_at y (equation l) ≡ pos 0) (lines (with_stays new p)) → All (λ l. value_at (unsettled g p.stays x y) (equation l) ≡ pos 0) (lines p)
unsettled-solves p new g x y whole unit m hx hy =
    All-from_recursion (λ l. value_at (unsettled g p.stays x y) (equation l) ≡ pos 0) (lines p)
    (rows-change (λ l. value_at y (equation l) ≡ pos 0) (λ l. value_at (unsettled g p.stays x y) (equation l) ≡ pos 0) p.rows (stay_lines 1001 new) (stay_lines 1001 p.stays)
    (λ r k. sum-each (λ e. e.by *ℤ unsettled g p.stays x y e.attr) (λ e. e.by *ℤ (pos g *ℤ y e.attr)) (equation (line_of_row r))
    (each-impl (λ e. stay_part p.stays x e.attr ≡ pos 0) _ (equation (line_of_row r)) (λ e q. ap (λ (z : ℤ). e.by *ℤ z) (unsettled-same g p.stays x y e.attr q)) (row-part p x r whole))
    ∙ value-scaled (pos g) y (equation (line_of_row r)) ∙ ap (λ (z : ℤ). pos g *ℤ z) k ∙ mul-zero_ℤ (pos g))
    (λ k. stays-on 1001 p.stays new (own-stays p.stays) m (stays-of p.rows (recursion_from_All (λ l. value_at x (equation l) ≡ pos 0) (lines p) hx)) k) (recursion_from_All (λ l. value_at y (equation l) ≡ pos 0) (lines (with_stays new p)) hy))
  where
    stays-of : (rows : List Row) → Each (λ l. value_at x (equation l) ≡ pos 0) (map line_of_row rows ++ stay_lines 1001 p.stays) → Each (λ l. value_at x (equation l) ≡ pos 0) (stay_lines 1001 p.stays)
    stays-of [] h = h
    stays-of (r ∷ rows) h = stays-of rows h.1

    one : unsettled g p.stays x y one_column ≡ pos g *ℤ y one_column
    one = unsettled-same g p.stays x y one_column (one-part p x whole)

    line : (level : ℕ) (s t : Stay) → HasStay p.stays s.attr → IsMoved x s t → value_at x (equation (line_of_stay level s)) ≡ pos 0 → value_at y (equation (line_of_stay level t)) ≡ pos 0 → value_at (unsettled g p.stays x y) (equation (line_of_stay level s)) ≡ pos 0
    line level s t has m hx hy =
        let U : ℕ = place_of (StayOf s.attr) Under in
        let O : ℕ = place_of (StayOf s.attr) Over in
        stay-solves level s (unsettled g p.stays x y)
        (ap (λ (z : ℤ). pos s.target.den *ℤ z)
        (ap₂ ◌+ℤ◌ (ap₂ ◌-ℤ◌ (ap (λ (z : ℤ). pos g *ℤ y U +ℤ y one_column *ℤ z) (part-own p.stays x s.attr Under has)) (ap (λ (z : ℤ). pos g *ℤ y O +ℤ y one_column *ℤ z) (part-own p.stays x s.attr Over has)))
        (unsettled-same g p.stays x y (attr_column s.attr) (attr-part p x s.attr whole)))
        ∙ unsettled-parts s.target.den t.target.den g s.target.num t.target.num (y U) (y O) (y (attr_column s.attr)) (x U) (x O) (x (attr_column s.attr)) (y one_column) m.above
        (subst (λ (a : ℕ). pos t.target.den *ℤ ((y (place_of (StayOf a) Under) -ℤ y (place_of (StayOf a) Over)) +ℤ y (attr_column a)) ≡ t.target.num *ℤ y one_column) m.same (stay-holds level t y hy))
        (stay-holds level s x hx ∙ ap (λ (z : ℤ). s.target.num *ℤ z) unit) (m.value ∙ ap (λ (z : ℤ). t.target.num *ℤ z) unit)
        ∙ ap (λ (z : ℤ). s.target.num *ℤ z) (sym one))

    stays-on : (level : ℕ) (old new : List Stay) → Each (λ (s : Stay). HasStay p.stays s.attr) old → AreMoved x old new → Each (λ l. value_at x (equation l) ≡ pos 0) (stay_lines level old) → Each (λ l. value_at y (equation l) ≡ pos 0) (stay_lines level new) → Each (λ l. value_at (unsettled g p.stays x y) (equation l) ≡ pos 0) (stay_lines level old)
    stays-on level [] [] has m hx hy = tt
    stays-on level [] (t ∷ new) has m hx hy = absurd m
    stays-on level (s ∷ old) [] has m hx hy = absurd m
    stays-on level (s ∷ old) (t ∷ new) has m hx hy = (line level s t has.0 m.0 hx.0 hy.0, stays-on (level + 1) old new has.1 m.1 hx.1 hy.1)

-- ---- the corner

attrs-each : (P : ℕ → Type 0) (old new : List Stay) → map (λ (s : Stay). s.attr) new ≡ map (λ (s : Stay). s.attr) old → Each (λ (s : Stay). P s.attr) old → Each (λ (t : Stay). P t.attr) new
attrs-each P [] [] e h = tt
attrs-each P [] (t ∷ new) e h = absurd (some-none t.attr (map (λ (s : Stay). s.attr) new) e)
attrs-each P (s ∷ old) [] e h = absurd (some-none s.attr (map (λ (s : Stay). s.attr) old) (sym e))
attrs-each P (s ∷ old) (t ∷ new) e h = (
  subst P (sym (first-same t.attr s.attr (map (λ (s : Stay). s.attr) new) (map (λ (s : Stay). s.attr) old) e)) h.0,
  attrs-each P old new (rest-same t.attr s.attr (map (λ (s : Stay). s.attr) new) (map (λ (s : Stay). s.attr) old) e) h.1,
)

-- x*b = y*a, y*d = k*b: x*d = k*a
value-there : (d : ℕ) (x y a b k : ℤ) → pos 0 <ℤ b → x *ℤ b ≡ y *ℤ a → y *ℤ pos d ≡ k *ℤ b → x *ℤ pos d ≡ k *ℤ a
value-there d x y a b k above e f =
    cancel-right (x *ℤ pos d) (k *ℤ a) b above
    (mul_assoc_ℤ x (pos d) b ∙ mul_left_comm_ℤ x (pos d) b ∙ ap (λ (z : ℤ). pos d *ℤ z) e ∙ sym (mul_assoc_ℤ (pos d) y a) ∙ ap (λ (z : ℤ). z *ℤ a) (*ℤ_comm (pos d) y ∙ f) ∙ mul_assoc_ℤ k b a ∙ ap (λ (z : ℤ). k *ℤ z) (*ℤ_comm b a) ∙ sym (mul_assoc_ℤ k a b))

stood : (p : Problem) (at : List Mark) (new : List Stay) (corner : IsCorner p at) → HaveStood p at new → AreMoved corner.point.num p.stays new
stood p at new corner h =
    let agree : Each (λ (t : Stay). (y : Point) → StandsAt p at y → Agree (attr_column t.attr) corner.point y) new =
    attrs-each (λ a. (y : Point) → StandsAt p at y → Agree (attr_column a) corner.point y) p.stays new h.same (agrees p.stays (λ y stands. recursion_from_All (λ (s : Stay). Agree (attr_column s.attr) corner.point y) p.stays (corner.attrs_fixed y stands))) in
    are-moved corner.point.num p.stays new h.same
    (each-impl (λ (t : Stay). ((y : Point) → StandsAt p at y → Agree (attr_column t.attr) corner.point y) × ((0 < t.target.den) × HasValue p at (λ x. x (attr_column t.attr)) t.target.num t.target.den)) (λ t. (0 < t.target.den) × (corner.point.num (attr_column t.attr) *ℤ pos t.target.den ≡ t.target.num *ℤ corner.point.num one_column)) new
    (λ t k. (k.1.0, value-there t.target.den (corner.point.num (attr_column t.attr)) (k.1.1.0.num (attr_column t.attr)) (corner.point.num one_column) (k.1.1.0.num one_column) t.target.num k.1.1.0.positive (k.0 k.1.1.0 k.1.1.1) k.1.1.2))
    (each-both (λ (t : Stay). (y : Point) → StandsAt p at y → Agree (attr_column t.attr) corner.point y) (λ (t : Stay). (0 < t.target.den) × HasValue p at (λ x. x (attr_column t.attr)) t.target.num t.target.den) new agree
    (each-both (λ (t : Stay). 0 < t.target.den) (λ (t : Stay). HasValue p at (λ x. x (attr_column t.attr)) t.target.num t.target.den) new (recursion_from_All (λ (t : Stay). 0 < t.target.den) new h.positive) (recursion_from_All (λ (t : Stay). HasValue p at (λ x. x (attr_column t.attr)) t.target.num t.target.den) new h.values))))
  where
    agrees : (stays : List Stay) → ((y : Point) → StandsAt p at y → Each (λ (s : Stay). Agree (attr_column s.attr) corner.point y) stays) → Each (λ (s : Stay). (y : Point) → StandsAt p at y → Agree (attr_column s.attr) corner.point y) stays
    agrees [] f = tt
    agrees (s ∷ stays) f = ((λ y stands. (f y stands).0), agrees stays (λ y stands. (f y stands).1))

unfoldable settled-point : (p : Problem) → IsWhole p → Point → Point
settled-point p whole x = record { num = settled p.stays x.num; positive = subst (λ (z : ℤ). pos 0 <ℤ z) (sym (settled-same p.stays x.num one_column (one-part p x.num whole))) x.positive }

unsettled-one : (p : Problem) (g : ℕ) (x y : ℕ → ℤ) → IsWhole p → unsettled g p.stays x y one_column ≡ pos g *ℤ y one_column
unsettled-one p g x y whole = unsettled-same g p.stays x y one_column (one-part p x whole)

unfoldable unsettled-point : (p : Problem) → IsWhole p → (g : ℕ) → 0 < g → (ℕ → ℤ) → Point → Point
unsettled-point p whole g above x y = record { num = unsettled g p.stays x y.num; positive = subst (λ (z : ℤ). pos 0 <ℤ z) (sym (unsettled-one p g x y.num whole)) (mul_positive g (y.num one_column) above y.positive) }

none-part : (stays : List Stay) (x : ℕ → ℤ) (v : ℕ) → x v ≡ pos 0 → settled stays x v ≡ pos 0
none-part stays x v none = settled-same stays x v (part-zero stays x v none) ∙ none

-- x*(g*y1) = (g*y + y1*s)*x1 with x1 = g: (x - s)*y1 = y*w with w = g
agree-back : (g : ℕ) (x s y y1 z1 x1 w : ℤ) → 0 < g → z1 ≡ pos g *ℤ y1 → x1 ≡ pos g → w ≡ pos g → x *ℤ z1 ≡ (pos g *ℤ y +ℤ y1 *ℤ s) *ℤ x1 → (x -ℤ s) *ℤ y1 ≡ y *ℤ w
agree-back g x s y y1 z1 x1 w above e f h k =
    let both : x *ℤ (pos g *ℤ y1) ≡ (pos g *ℤ y +ℤ y1 *ℤ s) *ℤ pos g = ap (λ (z : ℤ). x *ℤ z) (sym e) ∙ k ∙ ap (λ (z : ℤ). (pos g *ℤ y +ℤ y1 *ℤ s) *ℤ z) f in
    let less : x *ℤ y1 ≡ pos g *ℤ y +ℤ y1 *ℤ s = cancel_mul g (x *ℤ y1) (pos g *ℤ y +ℤ y1 *ℤ s) above (mul_left_comm_ℤ (pos g) x y1 ∙ both ∙ *ℤ_comm (pos g *ℤ y +ℤ y1 *ℤ s) (pos g)) in
    let left : (x -ℤ s) *ℤ y1 ≡ x *ℤ y1 -ℤ y1 *ℤ s = *ℤ_comm (x -ℤ s) y1 ∙ mul-sub_left y1 x s ∙ ap (λ (z : ℤ). z -ℤ y1 *ℤ s) (*ℤ_comm y1 x) in
    let right : y *ℤ w ≡ pos g *ℤ y = ap (λ (z : ℤ). y *ℤ z) h ∙ *ℤ_comm y (pos g) in
    omega (arith, ints, less, left, right)

-- a point of the problem with the new stays is one of that with the old ones
unsettled-stands : (p : Problem) (at : List Mark) (new : List Stay) (x : Point) (y : Point) (whole : IsWhole p) (g : ℕ) (above : 0 < g) → x.num one_column ≡ pos g → AreMoved x.num p.stays new → StandsAt p at x → StandsAt (with_stays new p) at y → StandsAt p at (unsettled-point p whole g above x.num y)
unfolding unsettled-point
unsettled-stands p at new x y whole g above unit m sx sy = (
  unsettled-solves p new g x.num y.num whole unit m sx.0 sy.0,
  All-from_recursion (λ mk. (IsIn (place mk) at → ⊥) → unsettled g p.stays x.num y.num (place mk) ≡ pos 0) (marks_of (lines p))
      (each-impl (λ mk. ((IsIn (place mk) at → ⊥) → x.num (place mk) ≡ pos 0) × ((IsIn (place mk) at → ⊥) → y.num (place mk) ≡ pos 0)) _ (marks_of (lines p))
      (λ mk h out. both-parts g (y.num (place mk)) (y.num one_column) (stay_part p.stays x.num (place mk)) (h.1 out) (part-zero p.stays x.num (place mk) (h.0 out)))
      (each-both _ _ (marks_of (lines p)) (recursion_from_All (λ mk. (IsIn (place mk) at → ⊥) → x.num (place mk) ≡ pos 0) (marks_of (lines p)) sx.1)
      (subst (λ (ms : List Mark). Each (λ mk. (IsIn (place mk) at → ⊥) → y.num (place mk) ≡ pos 0) ms) (same-marks x.num p new m) (recursion_from_All (λ mk. (IsIn (place mk) at → ⊥) → y.num (place mk) ≡ pos 0) (marks_of (lines (with_stays new p))) sy.1)))),
)

settled-stands : (p : Problem) (at : List Mark) (new : List Stay) (whole : IsWhole p) (corner : IsCorner p at) → AreMoved corner.point.num p.stays new → StandsAt (with_stays new p) at (settled-point p whole corner.point)
unfolding settled-point
settled-stands p at new whole corner m = (
  settled-solves p new corner.point.num whole m corner.stands.0,
  subst (λ (ms : List Mark). All (λ mk. (IsIn (place mk) at → ⊥) → settled p.stays corner.point.num (place mk) ≡ pos 0) ms) (sym (same-marks corner.point.num p new m))
      (All-from_recursion (λ mk. (IsIn (place mk) at → ⊥) → settled p.stays corner.point.num (place mk) ≡ pos 0) (marks_of (lines p))
      (each-impl (λ mk. (IsIn (place mk) at → ⊥) → corner.point.num (place mk) ≡ pos 0) _ (marks_of (lines p)) (λ mk k out. none-part p.stays corner.point.num (place mk) (k out)) (recursion_from_All (λ mk. (IsIn (place mk) at → ⊥) → corner.point.num (place mk) ≡ pos 0) (marks_of (lines p)) corner.stands.1))),
)

-- where the stays have moved, the rows' marks stand as before
pub stood_points : (p : Problem) (at : List Mark) (new : List Stay) → IsWhole p → IsCorner p at → HaveStood p at new
    → (x : Point) × StandsAt p at x × ((y : Point) × StandsAt (with_stays new p) at y × (y.num one_column ≡ x.num one_column)
    × ((id : ℕ) (side : Side) → y.num (place_of (Held id) side) ≡ x.num (place_of (Held id) side)))
unfolding settled-point
stood_points p at new whole corner h =
    let m = stood p at new corner h in (
      corner.point,
      corner.stands,
      (
        settled-point p whole corner.point,
        settled-stands p at new whole corner m,
        settled-same p.stays corner.point.num one_column (one-part p corner.point.num whole),
        (λ id side. settled-same p.stays corner.point.num (place_of (Held id) side) (part-none p.stays corner.point.num (place_of (Held id) side) (no-held p.stays id side))),
      ),
    )

pub stood_corner : (p : Problem) (at : List Mark) (new : List Stay) → IsWhole p → IsCorner p at → HaveStood p at new → IsCorner (with_stays new p) at
unfolding settled-point unsettled-point
stood_corner p at new whole corner h =
    let x : Point = corner.point in
    let m = stood p at new corner h in
    let marks : marks_of (lines (with_stays new p)) ≡ marks_of (lines p) = same-marks corner.point.num p new m in
    let g = above-zero (corner.point.num one_column) corner.point.positive in
    let one : settled p.stays corner.point.num one_column ≡ pos g.0 = settled-same p.stays corner.point.num one_column (one-part p corner.point.num whole) ∙ g.2 in
    let agree : (y : Point) → StandsAt (with_stays new p) at y → (c : ℕ) → Agree c corner.point (unsettled-point p whole g.0 g.1 corner.point.num y) → Agree c (settled-point p whole corner.point) y = λ y stands c k.
    agree-back g.0 (corner.point.num c) (stay_part p.stays corner.point.num c) (y.num c) (y.num one_column) (unsettled g.0 p.stays corner.point.num y.num one_column) (corner.point.num one_column) (settled p.stays corner.point.num one_column) g.1 (unsettled-one p g.0 corner.point.num y.num whole) g.2 one k in
    record {
      count = corner.count;
      marks = All-from_recursion (λ mk. Contains (map place (marks_of (lines (with_stays new p)))) (place mk)) at
          (each-impl (λ mk. Contains (map place (marks_of (lines p))) (place mk)) _ at (λ mk is. subst (λ (ms : List Mark). Contains (map place ms) (place mk)) (sym marks) is) (recursion_from_All (λ mk. Contains (map place (marks_of (lines p))) (place mk)) at corner.marks));
      apart = corner.apart;
      point = settled-point p whole corner.point;
      stands = settled-stands p at new whole corner m;
      marks_fixed = λ y stands.
          subst (λ (ms : List Mark). All (λ mk. Agree (place mk) (settled-point p whole corner.point) y) ms) (sym marks)
          (All-from_recursion (λ mk. Agree (place mk) (settled-point p whole corner.point) y) (marks_of (lines p))
          (each-impl (λ mk. Agree (place mk) corner.point (unsettled-point p whole g.0 g.1 corner.point.num y)) _ (marks_of (lines p)) (λ mk k. agree y stands (place mk) k)
          (recursion_from_All (λ mk. Agree (place mk) corner.point (unsettled-point p whole g.0 g.1 corner.point.num y)) (marks_of (lines p)) (corner.marks_fixed (unsettled-point p whole g.0 g.1 corner.point.num y) (unsettled-stands p at new corner.point y whole g.0 g.1 g.2 m corner.stands stands)))));
      attrs_fixed = λ y stands.
          All-from_recursion (λ (s : Stay). Agree (attr_column s.attr) (settled-point p whole corner.point) y) new
          (attrs-each (λ a. Agree (attr_column a) (settled-point p whole corner.point) y) p.stays new h.same
          (each-impl (λ (s : Stay). Agree (attr_column s.attr) corner.point (unsettled-point p whole g.0 g.1 corner.point.num y)) (λ (s : Stay). Agree (attr_column s.attr) (settled-point p whole corner.point) y) p.stays (λ s k. agree y stands (attr_column s.attr) k)
          (recursion_from_All (λ (s : Stay). Agree (attr_column s.attr) corner.point (unsettled-point p whole g.0 g.1 corner.point.num y)) p.stays (corner.attrs_fixed (unsettled-point p whole g.0 g.1 corner.point.num y) (unsettled-stands p at new corner.point y whole g.0 g.1 g.2 m corner.stands stands)))));
    }

-- ---- rays

still-gap : (s : ℕ) (k w o : ℤ) → 0 < s → o ≡ pos 0 → pos s *ℤ w ≡ k *ℤ o → w ≡ pos 0
still-gap s k w o above e h = zero_from_mul s w above (h ∙ ap (λ (z : ℤ). k *ℤ z) e ∙ mul-zero_ℤ k)

no-gap : (t : ℕ) (k w o : ℤ) → o ≡ pos 0 → w ≡ pos 0 → pos t *ℤ w ≡ k *ℤ o
no-gap t k w o e f = ap (λ (z : ℤ). pos t *ℤ z) f ∙ mul-zero_ℤ (pos t) ∙ sym (ap (λ (z : ℤ). k *ℤ z) e ∙ mul-zero_ℤ k)

-- a direction is one whatever the stays' targets
ray-holds : (p : Problem) (new : List Stay) (x n : ℕ → ℤ) → IsWhole p → AreMoved x p.stays new → n one_column ≡ pos 0 → All (λ l. value_at n (equation l) ≡ pos 0) (lines p) → All (λ l. value_at n (equation l) ≡ pos 0) (lines (with_stays new p))
ray-holds p new x n whole m still h =
    All-from_recursion (λ l. value_at n (equation l) ≡ pos 0) (lines (with_stays new p))
    (forward (λ l. ((0 < l.scale) × (0 < l.den)) × (value_at n (equation l) ≡ pos 0)) (λ l. value_at n (equation l) ≡ pos 0) x p new (λ r k. k.1)
    (λ level s t q k.
    let gap : (n (place_of (StayOf s.attr) Under) -ℤ n (place_of (StayOf s.attr) Over)) +ℤ n (attr_column s.attr) ≡ pos 0 = still-gap s.target.den s.target.num ((n (place_of (StayOf s.attr) Under) -ℤ n (place_of (StayOf s.attr) Over)) +ℤ n (attr_column s.attr)) (n one_column) k.0.1 still (stay-holds level s n k.1) in
    stay-solves level t n
    (subst (λ (a : ℕ). pos t.target.den *ℤ ((n (place_of (StayOf a) Under) -ℤ n (place_of (StayOf a) Over)) +ℤ n (attr_column a)) ≡ t.target.num *ℤ n one_column) (sym q.same)
    (no-gap t.target.den t.target.num ((n (place_of (StayOf s.attr) Under) -ℤ n (place_of (StayOf s.attr) Over)) +ℤ n (attr_column s.attr)) (n one_column) still gap)))
    m (each-both _ _ (lines p) (recursion_from_All (λ l. (0 < l.scale) × (0 < l.den)) (lines p) (whole-IsProblem p whole)) (recursion_from_All (λ l. value_at n (equation l) ≡ pos 0) (lines p) h)))

pub stood_rays : (p : Problem) (at : List Mark) (new : List Stay) → IsWhole p → IsCorner p at → HaveStood p at new → HasRays p at → HasRays (with_stays new p) at
stood_rays p at new whole corner h rays c is out =
    let m = stood p at new corner h in
    let marks : marks_of (lines (with_stays new p)) ≡ marks_of (lines p) = same-marks corner.point.num p new m in
    let r = rays c (subst (λ (ms : List Mark). Contains (map place ms) c) marks is) out in (
      r.0,
      record {
        holds = ray-holds p new corner.point.num r.0 whole m r.1.still r.1.holds;
        still = r.1.still;
        here = r.1.here;
        other = subst (λ (ms : List Mark). All (λ mk. (IsIn (place mk) at → ⊥) → place mk ≢ c → r.0 (place mk) ≡ pos 0) ms) (sym marks) r.1.other;
      },
    )

-- ---- equations

outside-part : (p : Problem) (at : List Mark) (g : ℕ) (x : Point) (y : ℕ → ℤ) (by : ℤ) (name : RowName) → StandsAt p at x → Contains (map place (marks_of (lines p))) (place_of name Under) × Contains (map place (marks_of (lines p))) (place_of name Over) → (by ≢ pos 0 → IsOutsideLine at name) → by *ℤ deviation name (unsettled g p.stays x.num y) ≡ pos g *ℤ (by *ℤ deviation name y)
outside-part p at g x y by name stands here outside =
    elim (sign_cases by) [
      | inl z ↦ ap (λ (t : ℤ). t *ℤ deviation name (unsettled g p.stays x.num y)) z ∙ zero-mul_ℤ (deviation name (unsettled g p.stays x.num y)) ∙ sym (ap (λ (t : ℤ). pos g *ℤ (t *ℤ deviation name y)) z ∙ ap (λ (t : ℤ). pos g *ℤ t) (zero-mul_ℤ (deviation name y)) ∙ mul-zero_ℤ (pos g))
      | inr some ↦
          let out = outside (not_zero by some) in
          ap (λ (t : ℤ). by *ℤ t)
          (same-deviation g (y (place_of name Over)) (y (place_of name Under)) (unsettled g p.stays x.num y (place_of name Over)) (unsettled g p.stays x.num y (place_of name Under))
          (unsettled-same g p.stays x.num y (place_of name Over) (part-zero p.stays x.num (place_of name Over) (nothing_outside p at x (place_of name Over) stands here.1 out.over)))
          (unsettled-same g p.stays x.num y (place_of name Under) (part-zero p.stays x.num (place_of name Under) (nothing_outside p at x (place_of name Under) stands here.0 out.under))))
          ∙ mul_left_comm_ℤ by (pos g) (deviation name y)
    ]

unsettled-sum : (p : Problem) (at : List Mark) (new : List Stay) (g : ℕ) (x : Point) (y : ℕ → ℤ) (by : RowName → ℤ) → AreMoved x.num p.stays new → StandsAt p at x → All (λ l. by l.name ≢ pos 0 → IsOutsideLine at l.name) (lines p) → sum_of (λ l. by l.name *ℤ deviation l.name (unsettled g p.stays x.num y)) (lines p) ≡ pos g *ℤ sum_of (λ l. by l.name *ℤ deviation l.name y) (lines (with_stays new p))
unsettled-sum p at new g x y by m stands outside =
    sum-each (λ l. by l.name *ℤ deviation l.name (unsettled g p.stays x.num y)) (λ l. pos g *ℤ (by l.name *ℤ deviation l.name y)) (lines p)
    (each-impl (λ l. (Contains (map place (marks_of (lines p))) (place_of l.name Under) × Contains (map place (marks_of (lines p))) (place_of l.name Over)) × (by l.name ≢ pos 0 → IsOutsideLine at l.name)) _ (lines p) (λ l h. outside-part p at g x y (by l.name) l.name stands h.0 h.1)
    (each-both _ _ (lines p) (here-in (lines p)) (recursion_from_All (λ l. by l.name ≢ pos 0 → IsOutsideLine at l.name) (lines p) outside)))
    ∙ mul-sum (pos g) (λ l. by l.name *ℤ deviation l.name y) (lines p)
    ∙ ap (λ (z : ℤ). pos g *ℤ z) (sym (names-sum (λ n. by n *ℤ deviation n y) x.num p new m))

-- den*(own*(g*q + y1*d) - g*s) = own*(num*(g*y1)), den*d = num*g: own*q = s
to-zero : (g den own : ℕ) (q s d num y1 : ℤ) → 0 < g → 0 < den → pos den *ℤ (pos own *ℤ (pos g *ℤ q +ℤ y1 *ℤ d) -ℤ pos g *ℤ s) ≡ pos own *ℤ (num *ℤ (pos g *ℤ y1)) → pos den *ℤ d ≡ num *ℤ pos g → pos 1 *ℤ (pos own *ℤ q -ℤ s) ≡ pos own *ℤ (pos 0 *ℤ y1)
to-zero g den own q s d num y1 above dens h e =
    let w : ℤ = pos own *ℤ q -ℤ s in
    let split : pos own *ℤ (pos g *ℤ q +ℤ y1 *ℤ d) -ℤ pos g *ℤ s ≡ pos g *ℤ w +ℤ pos own *ℤ (y1 *ℤ d) =
    (let a : pos own *ℤ (pos g *ℤ q +ℤ y1 *ℤ d) ≡ pos g *ℤ (pos own *ℤ q) +ℤ pos own *ℤ (y1 *ℤ d) = mul-add_left (pos own) (pos g *ℤ q) (y1 *ℤ d) ∙ ap (λ (z : ℤ). z +ℤ pos own *ℤ (y1 *ℤ d)) (mul_left_comm_ℤ (pos own) (pos g) q) in
    let b = mul-sub_left (pos g) (pos own *ℤ q) s in
    let c : pos own *ℤ (pos g *ℤ q +ℤ y1 *ℤ d) -ℤ pos g *ℤ s ≡ pos g *ℤ w +ℤ pos own *ℤ (y1 *ℤ d) = omega (arith, ints, a, b) in c) in
    let moved : pos den *ℤ (pos own *ℤ (y1 *ℤ d)) ≡ pos own *ℤ (num *ℤ (pos g *ℤ y1)) =
    mul_left_comm_ℤ (pos den) (pos own) (y1 *ℤ d) ∙ ap (λ (z : ℤ). pos own *ℤ z) (mul_left_comm_ℤ (pos den) y1 d ∙ ap (λ (z : ℤ). y1 *ℤ z) e ∙ mul_left_comm_ℤ y1 num (pos g) ∙ ap (λ (z : ℤ). num *ℤ z) (*ℤ_comm y1 (pos g))) in
    let all : pos den *ℤ (pos g *ℤ w) +ℤ pos den *ℤ (pos own *ℤ (y1 *ℤ d)) ≡ pos own *ℤ (num *ℤ (pos g *ℤ y1)) = sym (mul-add_left (pos den) (pos g *ℤ w) (pos own *ℤ (y1 *ℤ d))) ∙ ap (λ (z : ℤ). pos den *ℤ z) (sym split) ∙ h in
    let none : pos den *ℤ (pos g *ℤ w) ≡ pos 0 = omega (arith, ints, all, moved) in
    let zero : w ≡ pos 0 = zero_from_mul g w above (zero_from_mul den (pos g *ℤ w) dens none) in
    ap (λ (z : ℤ). pos 1 *ℤ z) zero ∙ sym (ap (λ (z : ℤ). pos own *ℤ z) (zero-mul_ℤ y1) ∙ mul-zero_ℤ (pos own))

-- a quantity in which no stay's mark stands
abbrev pub IsUnmoved : Problem → ((ℕ → ℤ) → ℤ) → Type 0
IsUnmoved p quantity = (g : ℕ) (x y : ℕ → ℤ) → quantity (unsettled g p.stays x y) ≡ pos g *ℤ quantity y

stood-holds : (p : Problem) (at : List Mark) (new : List Stay) (quantity : (ℕ → ℤ) → ℤ) (own : ℕ) (by : RowName → ℤ) (num : ℤ) (den : ℕ) (whole : IsWhole p) (corner : IsCorner p at) → AreMoved corner.point.num p.stays new → IsLineEquation p at quantity own by num den → (g : ℕ) (above : 0 < g) → corner.point.num one_column ≡ pos g → (y : Point) → Solves (with_stays new p) y
    → pos den *ℤ (pos own *ℤ quantity (unsettled g p.stays corner.point.num y.num) -ℤ pos g *ℤ sum_of (λ l. by l.name *ℤ deviation l.name y.num) (lines (with_stays new p))) ≡ pos own *ℤ (num *ℤ (pos g *ℤ y.num one_column))
unfolding unsettled-point
stood-holds p at new quantity own by num den whole corner m e g above unit y solves =
    ap (λ (z : ℤ). pos den *ℤ (pos own *ℤ quantity (unsettled g p.stays corner.point.num y.num) -ℤ z)) (sym (unsettled-sum p at new g corner.point y.num by m corner.stands e.outside))
    ∙ e.holds (unsettled-point p whole g above corner.point.num y) (unsettled-solves p new g corner.point.num y.num whole unit m corner.stands.0 solves)
    ∙ ap (λ (z : ℤ). pos own *ℤ (num *ℤ z)) (unsettled-one p g corner.point.num y.num whole)

pub stood_line : (p : Problem) (at : List Mark) (new : List Stay) (quantity : (ℕ → ℤ) → ℤ) (own : ℕ) (by : RowName → ℤ) (num : ℤ) (den : ℕ) → IsWhole p → IsCorner p at → HaveStood p at new → IsUnmoved p quantity → IsLineEquation p at quantity own by num den → IsLineEquation (with_stays new p) at quantity own by num den
stood_line p at new quantity own by num den whole corner h unmoved e =
    let m = stood p at new corner h in
    let g = above-zero (corner.point.num one_column) corner.point.positive in
    record {
      own_positive = e.own_positive;
      den_positive = e.den_positive;
      outside = All-from_recursion (λ l. by l.name ≢ pos 0 → IsOutsideLine at l.name) (lines (with_stays new p)) (names-forward (λ n. by n ≢ pos 0 → IsOutsideLine at n) corner.point.num p new m (recursion_from_All (λ l. by l.name ≢ pos 0 → IsOutsideLine at l.name) (lines p) e.outside));
      holds = λ y solves.
          without-unit g.0 den own (quantity y.num) (sum_of (λ l. by l.name *ℤ deviation l.name y.num) (lines (with_stays new p))) num (y.num one_column) g.1
          (ap (λ (z : ℤ). pos den *ℤ (pos own *ℤ z -ℤ pos g.0 *ℤ sum_of (λ l. by l.name *ℤ deviation l.name y.num) (lines (with_stays new p)))) (sym (unmoved g.0 corner.point.num y.num))
          ∙ stood-holds p at new quantity own by num den whole corner m e g.0 g.1 g.2 y solves);
      lowest = λ k d all. e.lowest k d (All-from_recursion (λ l. k ∣ unsigned_abs (by l.name)) (lines p) (names-back (λ n. k ∣ unsigned_abs (by n)) corner.point.num p new m (recursion_from_All (λ l. k ∣ unsigned_abs (by l.name)) (lines (with_stays new p)) all)));
    }

-- attributes, and the deviations of held rows
pub attr_unmoved : (p : Problem) (a : ℕ) → IsWhole p → IsUnmoved p (λ x. x (attr_column a))
attr_unmoved p a whole g x y = unsettled-same g p.stays x y (attr_column a) (attr-part p x a whole)

pub held_unmoved : (p : Problem) (id : ℕ) → IsUnmoved p (deviation (Held id))
held_unmoved p id g x y =
    same-deviation g (y (place_of (Held id) Over)) (y (place_of (Held id) Under)) (unsettled g p.stays x y (place_of (Held id) Over)) (unsettled g p.stays x y (place_of (Held id) Under))
    (unsettled-same g p.stays x y (place_of (Held id) Over) (part-none p.stays x (place_of (Held id) Over) (no-held p.stays id Over)))
    (unsettled-same g p.stays x y (place_of (Held id) Under) (part-none p.stays x (place_of (Held id) Under) (no-held p.stays id Under)))

moved-deviation : (g : ℕ) (o u O U y1 a b : ℤ) → a ≡ pos g *ℤ o +ℤ y1 *ℤ O → b ≡ pos g *ℤ u +ℤ y1 *ℤ U → a -ℤ b ≡ pos g *ℤ (o -ℤ u) +ℤ y1 *ℤ (O -ℤ U)
moved-deviation g o u O U y1 a b e f = omega (arith, ints, e, f, mul-sub_left (pos g) o u, mul-sub_left y1 O U)

-- a stay's own deviation comes to 0
pub stood_stay : (p : Problem) (at : List Mark) (new : List Stay) (attr : ℕ) (own : ℕ) (by : RowName → ℤ) (num : ℤ) (den : ℕ) → IsWhole p → IsCorner p at → HaveStood p at new → HasStay p.stays attr → IsLineEquation p at (deviation (StayOf attr)) own by num den → IsLineEquation (with_stays new p) at (deviation (StayOf attr)) own by (pos 0) 1
stood_stay p at new attr own by num den whole corner h has e =
    let m = stood p at new corner h in
    let g = above-zero (corner.point.num one_column) corner.point.positive in
    let x : ℕ → ℤ = corner.point.num in
    let value : pos den *ℤ deviation (StayOf attr) corner.point.num ≡ num *ℤ pos g.0 = value_there p at (deviation (StayOf attr)) own (mark_form by (lines p)) num den corner.point (line_writing p at (deviation (StayOf attr)) own by num den whole e) corner.stands ∙ ap (λ (z : ℤ). num *ℤ z) g.2 in
    record {
      own_positive = e.own_positive;
      den_positive = omega arith;
      outside = All-from_recursion (λ l. by l.name ≢ pos 0 → IsOutsideLine at l.name) (lines (with_stays new p)) (names-forward (λ n. by n ≢ pos 0 → IsOutsideLine at n) corner.point.num p new m (recursion_from_All (λ l. by l.name ≢ pos 0 → IsOutsideLine at l.name) (lines p) e.outside));
      holds = λ y solves.
          to-zero g.0 den own (deviation (StayOf attr) y.num) (sum_of (λ l. by l.name *ℤ deviation l.name y.num) (lines (with_stays new p))) (deviation (StayOf attr) corner.point.num) num (y.num one_column) g.1 e.den_positive
          (ap (λ (z : ℤ). pos den *ℤ (pos own *ℤ z -ℤ pos g.0 *ℤ sum_of (λ l. by l.name *ℤ deviation l.name y.num) (lines (with_stays new p))))
          (sym (moved-deviation g.0 (y.num (place_of (StayOf attr) Over)) (y.num (place_of (StayOf attr) Under)) (corner.point.num (place_of (StayOf attr) Over)) (corner.point.num (place_of (StayOf attr) Under)) (y.num one_column) (unsettled g.0 p.stays corner.point.num y.num (place_of (StayOf attr) Over)) (unsettled g.0 p.stays corner.point.num y.num (place_of (StayOf attr) Under))
          (ap (λ (z : ℤ). pos g.0 *ℤ y.num (place_of (StayOf attr) Over) +ℤ y.num one_column *ℤ z) (part-own p.stays corner.point.num attr Over has))
          (ap (λ (z : ℤ). pos g.0 *ℤ y.num (place_of (StayOf attr) Under) +ℤ y.num one_column *ℤ z) (part-own p.stays corner.point.num attr Under has))))
          ∙ stood-holds p at new (deviation (StayOf attr)) own by num den whole corner m e g.0 g.1 g.2 y solves)
          value;
      lowest = λ k d all. e.lowest k d (All-from_recursion (λ l. k ∣ unsigned_abs (by l.name)) (lines p) (names-back (λ n. k ∣ unsigned_abs (by n)) corner.point.num p new m (recursion_from_All (λ l. k ∣ unsigned_abs (by l.name)) (lines (with_stays new p)) all)));
    }
