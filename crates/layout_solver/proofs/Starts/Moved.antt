-- The corner of the problem whose stays have moved to the values, with more attributes at 0.
use Rattle.std.proofs.Common.{◌≡◌, ◌≢◌, ◌∙◌, ℕ, zero, suc, ◌+◌, ◌<◌, ◌≤◌, ◌++◌, Bool, true, false, cond, nat_eq, List, [], ◌∷◌, map, ℤ, pos, ◌+ℤ◌, ◌*ℤ◌, neg_ℤ, ◌<ℤ◌, ◌≤ℤ◌, refl, sym, ap, ap₂, subst, arith, inl, inr, All, AllPairs, Contains, eq-eqb, ne_eqb}
use Rattle.std.specs.List.{AllByRecursion as Each}
use Rattle.std.proofs.lemmas.Bool.{cases_eq}
use Rattle.std.proofs.lemmas.List.{map-append}
use Rattle.std.proofs.lemmas.List.Elements.{All-from_recursion, recursion_from_All}
use lib.IntN.{*ℤ_comm}
use borrow.Author.Differences.{ints}
use Rattle.frac_core.specs.Fraction.{Fraction}
use Rattle.frac_core.proofs.Integers.{mul-zero_ℤ, zero-mul_ℤ}
use Rattle.problem_core.specs.declared.parts.Mark.{Mark}
use Rattle.problem_core.specs.declared.parts.RowName.TheVariants.{Held, Stay as StayOf}
use Rattle.problem_core.specs.declared.parts.Side.{Side}
use Rattle.problem_core.specs.declared.parts.Side.TheVariants.{Under, Over}
use Rattle.problem_core.specs.declared.parts.Stay.{Stay}
use Rattle.problem_core.specs.declared.parts.Term.{Term}
use Rattle.problem_core.specs.Layout.{HasStay, IsCovered, Line, Problem, Row, line_of_row, line_of_stay, lines, stay_lines, value_at}
use Rattle.problem_core.specs.Kept.{IsRow, IsStay, IsWhole}
use Rattle.problem_core.specs.Corners.{IsIn, NoNegativeValue, Point, StandsAt, attr_column, equation, marks_of, one_column, place, place_of}
use Rattle.problem_core.proofs.Forms.{each-both, each-impl}
use Rattle.corner_laws.proofs.Swaps.ColumnsStay.{each_marks}
use Rattle.corner_laws.proofs.WrittenValues.{nothing_outside}
use Rattle.corner_laws.proofs.ZeroColumns.{here-in}
use Rattle.layout_solver.specs.Layouts.{stays_at, zeros}
use Rattle.layout_solver.proofs.Values.{AreNumbers}
use Rattle.problem_core.proofs.Corners.Conflicts.{sum-each}
use Rattle.corner_laws.proofs.PathEnds.BeginsUnique.{place-apart}
use Rattle.corner_laws.proofs.MarkWritings.TermLifts.{pairs-across}
use Rattle.frac_core.proofs.Numbers.{neg-times}
use Rattle.frac_core.proofs.Lists.{each-right as each-second, each-left as each-first, each-joined}

-- ---- a point of which some columns are cleared

is_one : List ℕ → ℕ → Bool
is_one [] v = false
is_one (c ∷ cs) v = cond (nat_eq v c) true (is_one cs v)

cleared : List ℕ → (ℕ → ℤ) → ℕ → ℤ
cleared cs x v = cond (is_one cs v) (pos 0) (x v)

one-here : (c : ℕ) (cs : List ℕ) (v : ℕ) → v ≡ c → is_one (c ∷ cs) v ≡ true
unfolding is_one
one-here c cs v e = ap (λ (b : Bool). cond b true (is_one cs v)) (eq-eqb v c e)

one-later : (c : ℕ) (cs : List ℕ) (v : ℕ) → is_one cs v ≡ true → is_one (c ∷ cs) v ≡ true
unfolding is_one
one-later c cs v h = elim (cases_eq v c) [
  | inl e ↦ one-here c cs v e
  | inr n ↦ ap (λ (b : Bool). cond b true (is_one cs v)) (ne_eqb v c n) ∙ h
]

no-one : (cs : List ℕ) (v : ℕ) → Each (λ c. v ≢ c) cs → is_one cs v ≡ false
unfolding is_one
no-one [] v h = refl
no-one (c ∷ cs) v h = ap (λ (b : Bool). cond b true (is_one cs v)) (ne_eqb v c h.0) ∙ no-one cs v h.1

cleared-none : (cs : List ℕ) (x : ℕ → ℤ) (v : ℕ) → is_one cs v ≡ true → cleared cs x v ≡ pos 0
unfolding cleared
cleared-none cs x v h = ap (λ (b : Bool). cond b (pos 0) (x v)) h

cleared-still : (cs : List ℕ) (x : ℕ → ℤ) (v : ℕ) → Each (λ c. v ≢ c) cs → cleared cs x v ≡ x v
unfolding cleared
cleared-still cs x v h = ap (λ (b : Bool). cond b (pos 0) (x v)) (no-one cs v h)

-- each is 0 or what it was
cleared-up : (cs : List ℕ) (x : ℕ → ℤ) (v : ℕ) → pos 0 ≤ℤ x v → pos 0 ≤ℤ cleared cs x v
unfolding cleared
cleared-up cs x v h = up (is_one cs v) (x v) h
  where
    up : (b : Bool) (z : ℤ) → pos 0 ≤ℤ z → pos 0 ≤ℤ cond b (pos 0) z
    up true z h = omega (arith, ints)
    up false z h = h

cleared-zero : (cs : List ℕ) (x : ℕ → ℤ) (v : ℕ) → x v ≡ pos 0 → cleared cs x v ≡ pos 0
unfolding cleared
cleared-zero cs x v h = zero_of (is_one cs v) (x v) h
  where
    zero_of : (b : Bool) (z : ℤ) → z ≡ pos 0 → cond b (pos 0) z ≡ pos 0
    zero_of true z h = refl
    zero_of false z h = h

-- ---- the columns of stays' marks and of new attributes

stay_columns : List Stay → List ℕ
stay_columns [] = []
stay_columns (s ∷ stays) = place_of (StayOf s.attr) Under ∷ place_of (StayOf s.attr) Over ∷ stay_columns stays

attr_columns : List ℕ → List ℕ
attr_columns [] = []
attr_columns (a ∷ attrs) = attr_column a ∷ attr_columns attrs

fresh_columns : List Stay → List ℕ → List ℕ
fresh_columns stays attrs = stay_columns stays ++ attr_columns attrs

-- the column is none of these
record IsOther (stays : List Stay) (attrs : List ℕ) (v : ℕ) : Type 0 where
  no_mark : Each (λ s. (v ≢ place_of (StayOf s.attr) Under) × (v ≢ place_of (StayOf s.attr) Over)) stays
  no_attr : Each (λ a. v ≢ attr_column a) attrs

attrs-other : (attrs : List ℕ) (v : ℕ) → Each (λ a. v ≢ attr_column a) attrs → Each (λ c. v ≢ c) (attr_columns attrs)
unfolding attr_columns
attrs-other [] v h = tt
attrs-other (a ∷ attrs) v h = (h.0, attrs-other attrs v h.1)

marks-other : (stays : List Stay) (rest : List ℕ) (v : ℕ) → Each (λ s. (v ≢ place_of (StayOf s.attr) Under) × (v ≢ place_of (StayOf s.attr) Over)) stays → Each (λ c. v ≢ c) rest → Each (λ c. v ≢ c) (stay_columns stays ++ rest)
unfolding stay_columns
marks-other [] rest v h k = k
marks-other (s ∷ stays) rest v h k = (h.0.0, (h.0.1, marks-other stays rest v h.1 k))

still : (stays : List Stay) (attrs : List ℕ) (x : ℕ → ℤ) (v : ℕ) → IsOther stays attrs v → cleared (fresh_columns stays attrs) x v ≡ x v
unfolding fresh_columns
still stays attrs x v h = cleared-still (stay_columns stays ++ attr_columns attrs) x v (marks-other stays (attr_columns attrs) v h.no_mark (attrs-other attrs v h.no_attr))

rest-one : (cs ds : List ℕ) (v : ℕ) → is_one ds v ≡ true → is_one (cs ++ ds) v ≡ true
rest-one [] ds v h = h
rest-one (c ∷ cs) ds v h = one-later c (cs ++ ds) v (rest-one cs ds v h)

-- each stay's marks are cleared
marks-cleared : (stays : List Stay) (rest : List ℕ) → Each (λ s. (is_one (stay_columns stays ++ rest) (place_of (StayOf s.attr) Under) ≡ true) × (is_one (stay_columns stays ++ rest) (place_of (StayOf s.attr) Over) ≡ true)) stays
unfolding stay_columns
marks-cleared [] rest = tt
marks-cleared (s ∷ stays) rest = (
  (one-here (place_of (StayOf s.attr) Under) _ (place_of (StayOf s.attr) Under) refl, one-later (place_of (StayOf s.attr) Under) _ (place_of (StayOf s.attr) Over) (one-here (place_of (StayOf s.attr) Over) _ (place_of (StayOf s.attr) Over) refl)),
  each-impl (λ t. (is_one (stay_columns stays ++ rest) (place_of (StayOf t.attr) Under) ≡ true) × (is_one (stay_columns stays ++ rest) (place_of (StayOf t.attr) Over) ≡ true)) _ stays
      (λ t h. (
        one-later (place_of (StayOf s.attr) Under) _ (place_of (StayOf t.attr) Under) (one-later (place_of (StayOf s.attr) Over) _ (place_of (StayOf t.attr) Under) h.0),
        one-later (place_of (StayOf s.attr) Under) _ (place_of (StayOf t.attr) Over) (one-later (place_of (StayOf s.attr) Over) _ (place_of (StayOf t.attr) Over) h.1),
      )) (marks-cleared stays rest),
)

-- and each new attribute
attrs-cleared : (attrs : List ℕ) → Each (λ a. is_one (attr_columns attrs) (attr_column a) ≡ true) attrs
unfolding attr_columns
attrs-cleared [] = tt
attrs-cleared (a ∷ attrs) = (one-here (attr_column a) (attr_columns attrs) (attr_column a) refl, each-impl (λ b. is_one (attr_columns attrs) (attr_column b) ≡ true) _ attrs (λ b h. one-later (attr_column a) (attr_columns attrs) (attr_column b) h) (attrs-cleared attrs))

-- ---- the numbers are small

abbrev IsLow : Stay → Type 0
IsLow s = s.attr ≤ 2147483648

held-other : (id : ℕ) (side : Side) (stays : List Stay) → Each (λ (s : Stay). (place_of (Held id) side ≢ place_of (StayOf s.attr) Under) × (place_of (Held id) side ≢ place_of (StayOf s.attr) Over)) stays
held-other id side [] = tt
held-other id side (s ∷ stays) = ((place-apart (StayOf s.attr) id side Under (λ e. cc), place-apart (StayOf s.attr) id side Over (λ e. cc)), held-other id side stays)

held-low : (id : ℕ) (side : Side) → id ≤ 2147483648 → place_of (Held id) side < 17179869184
held-low id Under h = omega (arith, h)
held-low id Over h = omega (arith, h)

held-attrs : (c : ℕ) (attrs : List ℕ) → c < 17179869184 → Each (λ (a : ℕ). c ≢ attr_column a) attrs
held-attrs c [] h = tt
held-attrs c (a ∷ attrs) h = ((λ e. absurd (omega (arith, h, e))), held-attrs c attrs h)

high-other : (c : ℕ) (stays : List Stay) → 17179869184 ≤ c → Each IsLow stays → Each (λ (s : Stay). (c ≢ place_of (StayOf s.attr) Under) × (c ≢ place_of (StayOf s.attr) Over)) stays
high-other c [] h low = tt
high-other c (s ∷ stays) h low = (((λ e. absurd (omega (arith, h, e, low.0))), (λ e. absurd (omega (arith, h, e, low.0)))), high-other c stays h low.1)

one-attrs : (attrs : List ℕ) → Each (λ (a : ℕ). a ≤ 2147483648) attrs → Each (λ (a : ℕ). one_column ≢ attr_column a) attrs
one-attrs [] h = tt
one-attrs (a ∷ attrs) h = ((λ e. absurd (omega (arith, h.0, e))), one-attrs attrs h.1)

attr-apart : (b : ℕ) (attrs : List ℕ) → Each (λ (a : ℕ). b ≢ a) attrs → Each (λ (a : ℕ). attr_column b ≢ attr_column a) attrs
attr-apart b [] h = tt
attr-apart b (a ∷ attrs) h = ((λ e. h.0 (omega (arith, e))), attr-apart b attrs h.1)

-- ---- the moved problem

-- stays at low numbers, of which the last are new
record IsFresh (stays : List Stay) (attrs : List ℕ) : Type 0 where
  low : Each IsLow stays
  new : Each (λ a. a ≤ 2147483648) attrs

abbrev moved : List Stay → List ℕ → Point → ℕ → ℤ
moved stays attrs x = cleared (fresh_columns stays attrs) x.num

one-still : (stays : List Stay) (attrs : List ℕ) (x : Point) → IsFresh stays attrs → moved stays attrs x one_column ≡ x.num one_column
one-still stays attrs x f = still stays attrs x.num one_column (record { no_mark = high-other one_column stays (omega arith) f.low; no_attr = one-attrs attrs f.new })

attr-still : (stays : List Stay) (attrs : List ℕ) (x : Point) (b : ℕ) → IsFresh stays attrs → Each (λ (a : ℕ). b ≢ a) attrs → moved stays attrs x (attr_column b) ≡ x.num (attr_column b)
attr-still stays attrs x b f h = still stays attrs x.num (attr_column b) (record { no_mark = high-other (attr_column b) stays (omega arith) f.low; no_attr = attr-apart b attrs h })

held-still : (stays : List Stay) (attrs : List ℕ) (x : Point) (id : ℕ) (side : Side) → id ≤ 2147483648 → moved stays attrs x (place_of (Held id) side) ≡ x.num (place_of (Held id) side)
held-still stays attrs x id side h = still stays attrs x.num (place_of (Held id) side) (record { no_mark = held-other id side stays; no_attr = held-attrs (place_of (Held id) side) attrs (held-low id side h) })

-- a row's equation holds as before
row-holds : (stays : List Stay) (attrs : List ℕ) (x : Point) (r : Row) → IsFresh stays attrs → r.id ≤ 2147483648 → Each (λ t. Each (λ (a : ℕ). t.attr ≢ a) attrs) r.terms → value_at x.num (equation (line_of_row r)) ≡ pos 0 → value_at (moved stays attrs x) (equation (line_of_row r)) ≡ pos 0
row-holds stays attrs x r f low apart h =
    sum-each (λ e. e.by *ℤ moved stays attrs x e.attr) (λ e. e.by *ℤ x.num e.attr) (equation (line_of_row r))
    (each-impl (λ (e : Term). moved stays attrs x e.attr ≡ x.num e.attr) _ (equation (line_of_row r)) (λ e q. ap (λ (z : ℤ). e.by *ℤ z) q)
    (held-still stays attrs x r.id Under low, (held-still stays attrs x r.id Over low, (one-still stays attrs x f, terms r.terms apart))))
    ∙ h
  where
    terms : (ts : List Term) → Each (λ t. Each (λ (a : ℕ). t.attr ≢ a) attrs) ts → Each (λ (e : Term). moved stays attrs x e.attr ≡ x.num e.attr) (map (λ (e : Term). record { attr = attr_column e.attr; by = pos r.constant.den *ℤ e.by }) ts)
    terms [] k = tt
    terms (t ∷ ts) k = (attr-still stays attrs x t.attr f k.0, terms ts k.1)

-- a stay's holds where its attribute is at the target
stay-holds : (n : ℕ) (s : Stay) (y : ℕ → ℤ) → y (place_of (StayOf s.attr) Under) ≡ pos 0 → y (place_of (StayOf s.attr) Over) ≡ pos 0 → y (attr_column s.attr) *ℤ pos s.target.den ≡ s.target.num *ℤ y one_column → value_at y (equation (line_of_stay n s)) ≡ pos 0
stay-holds n s y under over at =
    parts (pos s.target.den) s.target.num (y (place_of (StayOf s.attr) Under)) (y (place_of (StayOf s.attr) Over)) (y (attr_column s.attr)) (y one_column) under over at
  where
    parts : (d k u o a one : ℤ) → u ≡ pos 0 → o ≡ pos 0 → a *ℤ d ≡ k *ℤ one → d *ℤ u +ℤ (neg_ℤ d *ℤ o +ℤ (neg_ℤ k *ℤ one +ℤ ((d *ℤ pos 1) *ℤ a +ℤ pos 0))) ≡ pos 0
    parts d k u o a one under over at =
        let first : d *ℤ u ≡ pos 0 = ap (λ (z : ℤ). d *ℤ z) under ∙ mul-zero_ℤ d in
        let second : neg_ℤ d *ℤ o ≡ pos 0 = ap (λ (z : ℤ). neg_ℤ d *ℤ z) over ∙ mul-zero_ℤ (neg_ℤ d) in
        let third : neg_ℤ k *ℤ one ≡ neg_ℤ (k *ℤ one) = neg-times k one in
        let fourth : (d *ℤ pos 1) *ℤ a ≡ a *ℤ d = ap (λ (z : ℤ). z *ℤ a) (*ℤ_comm d (pos 1) ∙ one-times d) ∙ *ℤ_comm d a in
        omega (arith, ints, first, second, third, fourth, at)
      where
        one-times : (z : ℤ) → pos 1 *ℤ z ≡ z
        one-times z = omega (arith, ints)

-- ---- lists

pub each-unmap : {X Y : Type 0} (f : X → Y) (P : Y → Type 0) (xs : List X) → Each P (map f xs) → Each (λ x. P (f x)) xs
each-unmap f P [] h = tt
each-unmap f P (x ∷ xs) h = (h.0, each-unmap f P xs h.1)

pub each_mapped : {X Y : Type 0} (f : X → Y) (P : Y → Type 0) (xs : List X) → Each (λ x. P (f x)) xs → Each P (map f xs)
each_mapped f P [] h = tt
each_mapped f P (x ∷ xs) h = (h.0, each_mapped f P xs h.1)

-- what holds of the numbers of all stays holds of that of a stay
of-stay : (Q : ℕ → Type 0) (stays : List Stay) (a : ℕ) → Each Q (map (λ (s : Stay). s.attr) stays) → HasStay stays a → Q a
of-stay Q [] a h (k, t, within, is, e) = absurd (omega (arith, within))
of-stay Q (s ∷ stays) a h (zero, t, within, is, e) = subst Q (ap (λ (u : Stay). u.attr) is ∙ e) h.0
of-stay Q (s ∷ stays) a h (suc k, t, within, is, e) = of-stay Q stays a h.1 (k, t, omega (arith, within), is, e)

stay-lines : (P : Line → Type 0) (level : ℕ) (stays : List Stay) → Each (λ s. (n : ℕ) → P (line_of_stay n s)) stays → Each P (stay_lines level stays)
stay-lines P level [] h = tt
stay-lines P level (s ∷ stays) h = (h.0 level, stay-lines P (level + 1) stays h.1)

-- ---- the moved problem stands

abbrev pub IsAtTarget : (ℕ → ℤ) → Stay → Type 0
IsAtTarget y s = y (attr_column s.attr) *ℤ pos s.target.den ≡ s.target.num *ℤ y one_column

abbrev stay_of : ℕ × Fraction → Stay
stay_of v = record { attr = v.0; target = v.1 }

-- a problem whose stays are at the values of the same rows' problem, and more of them at 0
pub record IsMovedFrom (p : Problem) (values : List (ℕ × Fraction)) (attrs : List ℕ) (q : Problem) : Type 0 where
  pub whole : IsWhole p
  pub attributes : map (λ v. v.0) values ≡ map (λ s. s.attr) p.stays
  pub each : All IsStay q.stays
  pub apart : AllPairs (λ s t. s.attr ≢ t.attr) q.stays
  pub rows : q.rows ≡ p.rows
  pub stays : q.stays ≡ stays_at (values ++ zeros attrs)

two-parts : (values : List (ℕ × Fraction)) (attrs : List ℕ) → stays_at (values ++ zeros attrs) ≡ stays_at values ++ stays_at (zeros attrs)
two-parts values attrs = map-append stay_of values (zeros attrs)

low-stays : (p q : Problem) (values : List (ℕ × Fraction)) (attrs : List ℕ) → IsMovedFrom p values attrs q → Each IsLow (stays_at values ++ stays_at (zeros attrs))
low-stays p q values attrs h =
    subst (Each IsLow) (h.stays ∙ two-parts values attrs)
    (each-impl IsStay IsLow q.stays (λ s k. omega (arith, k.attr.1)) (recursion_from_All IsStay q.stays h.each))

low-new : (attrs : List ℕ) → Each IsLow (stays_at (zeros attrs)) → Each (λ a. a ≤ 2147483648) attrs
low-new [] h = tt
low-new (a ∷ attrs) h = (h.0, low-new attrs h.1)

fresh-there : (p q : Problem) (values : List (ℕ × Fraction)) (attrs : List ℕ) → IsMovedFrom p values attrs q → IsFresh (stays_at values ++ stays_at (zeros attrs)) attrs
fresh-there p q values attrs h = record { low = low-stays p q values attrs h; new = low-new attrs (each-second IsLow (stays_at values) (stays_at (zeros attrs)) (low-stays p q values attrs h)) }

new-attrs : (n : ℕ) (attrs : List ℕ) → Each (λ (t : Stay). n ≢ t.attr) (stays_at (zeros attrs)) → Each (λ (a : ℕ). n ≢ a) attrs
new-attrs n [] h = tt
new-attrs n (a ∷ attrs) h = (h.0, new-attrs n attrs h.1)

apart-there : (p q : Problem) (values : List (ℕ × Fraction)) (attrs : List ℕ) → IsMovedFrom p values attrs q → Each (λ v. Each (λ (a : ℕ). v.0 ≢ a) attrs) values
apart-there p q values attrs h =
    each-impl (λ v. Each (λ (t : Stay). v.0 ≢ t.attr) (stays_at (zeros attrs))) _ values (λ v k. new-attrs v.0 attrs k)
    (each-unmap stay_of (λ s. Each (λ (t : Stay). s.attr ≢ t.attr) (stays_at (zeros attrs))) values
    (pairs-across (λ (s t : Stay). s.attr ≢ t.attr) (stays_at values) (stays_at (zeros attrs))
    (subst (AllPairs (λ (s t : Stay). s.attr ≢ t.attr)) (h.stays ∙ two-parts values attrs) h.apart)))

later : (ss : List Stay) (attrs : List ℕ) (v : ℕ) → is_one (attr_columns attrs) v ≡ true → is_one (fresh_columns ss attrs) v ≡ true
unfolding fresh_columns
later ss attrs v k = rest-one (stay_columns ss) (attr_columns attrs) v k

-- the old values are what they were, and the new ones are 0
at-targets : (p q : Problem) (values : List (ℕ × Fraction)) (attrs : List ℕ) (x : Point) → IsMovedFrom p values attrs q → AreNumbers x values → Each (IsAtTarget (moved (stays_at values ++ stays_at (zeros attrs)) attrs x)) (stays_at values ++ stays_at (zeros attrs))
at-targets p q values attrs x h numbers =
    let ss : List Stay = stays_at values ++ stays_at (zeros attrs) in
    let f : IsFresh ss attrs = fresh-there p q values attrs h in
    let one : moved ss attrs x one_column ≡ x.num one_column = one-still ss attrs x f in
    each-joined (IsAtTarget (moved ss attrs x)) (stays_at values) (stays_at (zeros attrs))
    (each_mapped stay_of (IsAtTarget (moved ss attrs x)) values
    (each-impl (λ v. (x.num (attr_column v.0) *ℤ pos v.1.den ≡ v.1.num *ℤ x.num one_column) × Each (λ (a : ℕ). v.0 ≢ a) attrs) _ values
    (λ v k. ap (λ (z : ℤ). z *ℤ pos v.1.den) (attr-still ss attrs x v.0 f k.1) ∙ k.0 ∙ ap (λ (z : ℤ). v.1.num *ℤ z) (sym one))
    (each-both _ _ values numbers (apart-there p q values attrs h))))
    (news ss x attrs (each-impl (λ a. is_one (attr_columns attrs) (attr_column a) ≡ true) _ attrs (λ a k. cleared-none (fresh_columns ss attrs) x.num (attr_column a) (later ss attrs (attr_column a) k)) (attrs-cleared attrs)))
  where
    zero-at : (a one : ℤ) → a ≡ pos 0 → a *ℤ pos 1 ≡ pos 0 *ℤ one
    zero-at a one e = ap (λ (z : ℤ). z *ℤ pos 1) e ∙ zero-mul_ℤ (pos 1) ∙ sym (zero-mul_ℤ one)

    news : (ss : List Stay) (x : Point) (some : List ℕ) → Each (λ (a : ℕ). moved ss attrs x (attr_column a) ≡ pos 0) some → Each (IsAtTarget (moved ss attrs x)) (stays_at (zeros some))
    news ss x [] k = tt
    news ss x (a ∷ some) k = (zero-at (moved ss attrs x (attr_column a)) (moved ss attrs x one_column) k.0, news ss x some k.1)

-- each stay's marks are 0
marks-zero : (ss : List Stay) (attrs : List ℕ) (x : Point) → Each (λ (s : Stay). (moved ss attrs x (place_of (StayOf s.attr) Under) ≡ pos 0) × (moved ss attrs x (place_of (StayOf s.attr) Over) ≡ pos 0)) ss
unfolding fresh_columns
marks-zero ss attrs x =
    each-impl (λ (s : Stay). (is_one (stay_columns ss ++ attr_columns attrs) (place_of (StayOf s.attr) Under) ≡ true) × (is_one (stay_columns ss ++ attr_columns attrs) (place_of (StayOf s.attr) Over) ≡ true)) _ ss
    (λ s k. (cleared-none (stay_columns ss ++ attr_columns attrs) x.num (place_of (StayOf s.attr) Under) k.0, cleared-none (stay_columns ss ++ attr_columns attrs) x.num (place_of (StayOf s.attr) Over) k.1))
    (marks-cleared ss (attr_columns attrs))

-- what a row says at the point before
record IsRowAt (at : List Mark) (attrs : List ℕ) (x : Point) (r : Row) : Type 0 where
  low : r.id ≤ 2147483648
  apart : Each (λ t. Each (λ (a : ℕ). t.attr ≢ a) attrs) r.terms
  holds : value_at x.num (equation (line_of_row r)) ≡ pos 0
  under : (IsIn (place_of (Held r.id) Under) at → ⊥) → x.num (place_of (Held r.id) Under) ≡ pos 0
  over : (IsIn (place_of (Held r.id) Over) at → ⊥) → x.num (place_of (Held r.id) Over) ≡ pos 0

rows-at : (p q : Problem) (at : List Mark) (values : List (ℕ × Fraction)) (attrs : List ℕ) (x : Point) → IsMovedFrom p values attrs q → StandsAt p at x → Each (IsRowAt at attrs x) p.rows
rows-at p q at values attrs x h stands =
    let apart : Each (λ (n : ℕ). Each (λ (a : ℕ). n ≢ a) attrs) (map (λ (s : Stay). s.attr) p.stays) =
    subst (Each (λ (n : ℕ). Each (λ (a : ℕ). n ≢ a) attrs)) h.attributes (each_mapped (λ (v : ℕ × Fraction). v.0) (λ (n : ℕ). Each (λ (a : ℕ). n ≢ a) attrs) values (apart-there p q values attrs h)) in
    let known = each-both _ _ (lines p) (recursion_from_All (λ l. value_at x.num (equation l) ≡ pos 0) (lines p) stands.0) (here-in (lines p)) in
    each-impl (λ r. (IsRow r × IsCovered p.stays r) × ((value_at x.num (equation (line_of_row r)) ≡ pos 0) × (Contains (map place (marks_of (lines p))) (place_of (Held r.id) Under) × Contains (map place (marks_of (lines p))) (place_of (Held r.id) Over)))) (IsRowAt at attrs x) p.rows
    (λ r k. record {
      low = omega (arith, k.0.0.number.1);
      apart = each-impl (λ t. HasStay p.stays t.attr) _ r.terms (λ t has. of-stay (λ (n : ℕ). Each (λ (a : ℕ). n ≢ a) attrs) p.stays t.attr apart has) (recursion_from_All (λ t. HasStay p.stays t.attr) r.terms k.0.1);
      holds = k.1.0;
      under = λ out. nothing_outside p at x (place_of (Held r.id) Under) stands k.1.1.0 out;
      over = λ out. nothing_outside p at x (place_of (Held r.id) Over) stands k.1.1.1 out;
    })
    (each-both _ _ p.rows (each-both _ _ p.rows (recursion_from_All IsRow p.rows h.whole.rows) (recursion_from_All (IsCovered p.stays) p.rows h.whole.covered))
    (each-unmap line_of_row _ p.rows (each-first _ (map line_of_row p.rows) (stay_lines 1001 p.stays) known)))

-- the moved point
pub record HasMoved (q : Problem) (at : List Mark) (x : Point) : Type 0 where
  pub point : Point
  pub stands : StandsAt q at point
  pub up : (c : ℕ) → pos 0 ≤ℤ x.num c → pos 0 ≤ℤ point.num c
  pub targets : Each (IsAtTarget point.num) q.stays

abbrev made : List Row → List Stay → Problem
made rows ss = record { rows = rows; stays = ss }

moved-there : (p q : Problem) (at : List Mark) (values : List (ℕ × Fraction)) (attrs : List ℕ) (x : Point) → IsMovedFrom p values attrs q → AreNumbers x values → StandsAt p at x → HasMoved (made p.rows (stays_at values ++ stays_at (zeros attrs))) at x
moved-there p q at values attrs x h numbers stands =
    let ss : List Stay = stays_at values ++ stays_at (zeros attrs) in
    let f : IsFresh ss attrs = fresh-there p q values attrs h in
    let y : ℕ → ℤ = moved ss attrs x in
    let rows = rows-at p q at values attrs x h stands in
    let ends = at-targets p q values attrs x h numbers in
    let zero_marks = marks-zero ss attrs x in record {
      point = record { num = moved ss attrs x; positive = subst (λ (z : ℤ). pos 0 <ℤ z) (sym (one-still ss attrs x f)) x.positive };
      stands = (
        All-from_recursion (λ l. value_at (moved ss attrs x) (equation l) ≡ pos 0) (lines (made p.rows ss))
            (each-joined (λ l. value_at (moved ss attrs x) (equation l) ≡ pos 0) (map line_of_row p.rows) (stay_lines 1001 ss)
            (each_mapped line_of_row (λ l. value_at (moved ss attrs x) (equation l) ≡ pos 0) p.rows
            (each-impl (IsRowAt at attrs x) _ p.rows (λ r k. row-holds ss attrs x r f k.low k.apart k.holds) rows))
            (stay-lines (λ l. value_at (moved ss attrs x) (equation l) ≡ pos 0) 1001 ss
            (each-impl _ _ ss (λ s k n. stay-holds n s (moved ss attrs x) k.0.0 k.0.1 k.1) (each-both _ _ ss zero_marks ends)))),
        All-from_recursion (λ m. (IsIn (place m) at → ⊥) → moved ss attrs x (place m) ≡ pos 0) (marks_of (lines (made p.rows ss)))
            (each_marks (λ c. (IsIn c at → ⊥) → moved ss attrs x c ≡ pos 0) (lines (made p.rows ss))
            (each-joined _ (map line_of_row p.rows) (stay_lines 1001 ss)
            (each_mapped line_of_row (λ l. (IsIn (place_of l.name Under) at → ⊥) → moved ss attrs x (place_of l.name Under) ≡ pos 0) p.rows
            (each-impl (IsRowAt at attrs x) _ p.rows (λ r k out. cleared-zero (fresh_columns ss attrs) x.num (place_of (Held r.id) Under) (k.under out)) rows))
            (stay-lines (λ l. (IsIn (place_of l.name Under) at → ⊥) → moved ss attrs x (place_of l.name Under) ≡ pos 0) 1001 ss (each-impl _ _ ss (λ s k n out. k.0) zero_marks)))
            (each-joined _ (map line_of_row p.rows) (stay_lines 1001 ss)
            (each_mapped line_of_row (λ l. (IsIn (place_of l.name Over) at → ⊥) → moved ss attrs x (place_of l.name Over) ≡ pos 0) p.rows
            (each-impl (IsRowAt at attrs x) _ p.rows (λ r k out. cleared-zero (fresh_columns ss attrs) x.num (place_of (Held r.id) Over) (k.over out)) rows))
            (stay-lines (λ l. (IsIn (place_of l.name Over) at → ⊥) → moved ss attrs x (place_of l.name Over) ≡ pos 0) 1001 ss (each-impl _ _ ss (λ s k n out. k.1) zero_marks)))),
      );
      up = λ c k. cleared-up (fresh_columns ss attrs) x.num c k;
      targets = ends;
    }

made-is : (p q : Problem) (values : List (ℕ × Fraction)) (attrs : List ℕ) → IsMovedFrom p values attrs q → made p.rows (stays_at values ++ stays_at (zeros attrs)) ≡ q
made-is p q values attrs h = ap₂ made (sym h.rows) (sym (h.stays ∙ two-parts values attrs))

pub moved_stands : (p q : Problem) (at : List Mark) (values : List (ℕ × Fraction)) (attrs : List ℕ) (x : Point) → IsMovedFrom p values attrs q → AreNumbers x values → StandsAt p at x → HasMoved q at x
moved_stands p q at values attrs x h numbers stands = subst (λ (r : Problem). HasMoved r at x) (made-is p q values attrs h) (moved-there p q at values attrs x h numbers stands)

pub moved_values : (p q : Problem) (at : List Mark) (values : List (ℕ × Fraction)) (attrs : List ℕ) → IsMovedFrom p values attrs q → ((x : Point) → StandsAt p at x → AreNumbers x values) → NoNegativeValue p at → NoNegativeValue q at
moved_values p q at values attrs h numbers (x, stands, up) =
    let m = moved_stands p q at values attrs x h (numbers x stands) stands in (
      m.point,
      m.stands,
      All-from_recursion (λ k. pos 0 ≤ℤ m.point.num (place k)) at (each-impl (λ k. pos 0 ≤ℤ x.num (place k)) _ at (λ k e. m.up (place k) e) (recursion_from_All (λ k. pos 0 ≤ℤ x.num (place k)) at up)),
    )
