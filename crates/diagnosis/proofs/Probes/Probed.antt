-- What a probe says of an attribute.
use Rattle.std.proofs.Common.{zero, suc, ◌≤◌, ◌≤ℤ◌, mul-le-mul_right, ◌≡◌, ◌≢◌, ◌∙◌, inl, inr, ℕ, ◌+◌, ◌*◌, ◌<◌, Bool, true, false, List, [], ◌∷◌, ◌++◌, ℤ, pos, negsuc, ◌+ℤ◌, ◌-ℤ◌, ◌*ℤ◌, unsigned_abs, refl, sym, ap, subst, arith, All, Any}
use Rattle.std.proofs.lemmas.List.Elements.{recursion_from_All}
use lib.IntN.{*ℤ_comm}
use borrow.Author.Differences.{ints}
use Rattle.frac_core.specs.Fraction.{Fraction, IsKept, IsLowest}
use Rattle.problem_core.specs.declared.parts.Rel.{Rel}
use Rattle.problem_core.specs.declared.parts.Rel.TheVariants.{Eq}
use Rattle.problem_core.specs.Layout.{Assignment, Gives, IsBest, Problem, Row, above, below, error, error_of, gap, line_of_row}
use Rattle.problem_core.specs.Kept.{IsWhole}
use Rattle.problem_core.specs.Gaps.{HasValue, value_of}
use Rattle.problem_core.proofs.GapFacts.Lookups.{given-value}
use Rattle.problem_core.proofs.Wholes.{whole-IsProblem}
use Rattle.layout_solver.specs.Layouts.{AreApart, AreBest, IsBestValue, Layout, stays_at, with_added, zeros}
use Rattle.diagnosis.specs.Ambiguity.{GoesAbove, GoesBelow, IsAmbiguous, IsLooselyBest, IsMove, Reaches}
use Rattle.diagnosis.specs.declared.probing.Answer.TheVariants.{Moves}
use Rattle.diagnosis.specs.Probes.{CanProbe, IsAnswer, IsBeside, IsNearest, IsNearestValue, IsNoFurther, IsTried, next_number, place, probe_row, side, wish_row, with_probe}
use Rattle.diagnosis.proofs.Loosely.{best_loosely}
use Rattle.diagnosis.proofs.Nearest.{move_ambiguous, neither_fixed, nearest_moves_down, nearest_moves_up, nearest_stays_down, nearest_stays_up}
use Rattle.diagnosis.proofs.Positions.{cancel_less, times_less}
use Rattle.corner_lines.specs.Shifts.{with_constant}
use Rattle.diagnosis.proofs.Probes.ProbeWhole.{wish_changed, wish_same, with_wish}
use Rattle.frac_core.proofs.Numbers.{low-or-up, up-or-low, swap-last as turn-last}
use Rattle.diagnosis.proofs.Probes.ProbeCosts.{probed_loosely, probed_nearest}
use Rattle.layout_solver.proofs.ApartValues.{value_is}
use Rattle.frac_core.proofs.Made.{same_fraction}

-- ---- the error at the probe row

sides-size : (z : ℤ) → above z + below z ≡ unsigned_abs z
sides-size (pos n) = omega arith
sides-size (negsuc n) = omega arith

wish-gap : (id attr : ℕ) (rel : Rel) (t : Fraction) (x : Assignment) → gap x (line_of_row (wish_row id attr rel t)) ≡ place attr t x
wish-gap id attr rel t x =
    ap (λ (z : ℤ). z -ℤ t.num *ℤ pos x.den)
    (ap (λ (z : ℤ). pos t.den *ℤ z) (let q : pos 1 *ℤ x.num attr +ℤ pos 0 ≡ x.num attr = omega (arith, ints) in q) ∙ *ℤ_comm (pos t.den) (x.num attr))

wish-error : (id attr : ℕ) (rel : Rel) (t : Fraction) (x : Assignment) → error x (line_of_row (wish_row id attr rel t)) ≡ error_of rel (place attr t x)
wish-error id attr rel t x = ap (error_of rel) (wish-gap id attr rel t x)

probe-error : (l : Layout) (attr : ℕ) (t : Fraction) (x : Assignment) → error x (line_of_row (probe_row l attr t)) ≡ unsigned_abs (place attr t x)
probe-error l attr t x = wish-error (next_number l.problem.rows) attr Eq t x ∙ sides-size (place attr t x)

-- ---- the best with the probe row is nearest

gives-one : (attr : ℕ) (f : Fraction) (x : Assignment) → Gives ((attr, f) ∷ []) x → Reaches x attr f
gives-one attr f x h = h 0 (attr, f) (omega arith)

-- what is best with the probe row is loosely best, and none is nearer
pub probe_nearest : (l : Layout) (attr : ℕ) (t : Fraction) (x : Assignment) → IsWhole l.problem → IsWhole (with_probe l attr t) → CanProbe l attr → IsBest (with_probe l attr t) x → IsNearest l.problem attr t x
probe_nearest l attr t x whole more can best = record {
  loosely = probed_loosely l.problem.rows (probe_row l attr t) l.problem.stays (stays_at (l.values ++ zeros [])) (whole-IsProblem l.problem whole) (whole-IsProblem (with_probe l attr t) more) can.ranks refl refl x best;
  none = λ y also less.
      probed_nearest l.problem.rows (probe_row l attr t) l.problem.stays (stays_at (l.values ++ zeros [])) (whole-IsProblem l.problem whole) (whole-IsProblem (with_probe l attr t) more) can.ranks refl refl x y best also
      (subst (λ (n : ℕ). n * x.den < error x (line_of_row (probe_row l attr t)) * y.den) (sym (probe-error l attr t y)) (subst (λ (n : ℕ). unsigned_abs (place attr t y) * x.den < n * y.den) (sym (probe-error l attr t x)) less));
}

-- ---- so it is with the row that asks for no less, or no more

-- at or before t, by place
abbrev IsBy : Bool → ℤ → Type 0
IsBy true z = z ≤ℤ pos 0
IsBy false z = pos 0 ≤ℤ z

side-size : (up : Bool) (z : ℤ) → IsBy up z → error_of (side up) z ≡ unsigned_abs z
side-size true (pos zero) h = omega arith
side-size true (pos (suc n)) h = absurd (omega (arith, ints, h))
side-size true (negsuc n) h = omega arith
side-size false (pos n) h = omega arith
side-size false (negsuc n) h = absurd (omega (arith, ints, h))

side-most : (up : Bool) (z : ℤ) → error_of (side up) z ≤ unsigned_abs z
side-most true (pos n) = omega arith
side-most true (negsuc n) = omega arith
side-most false (pos n) = omega arith
side-most false (negsuc n) = omega arith

turned-over : (f d e : ℕ) (a b : ℤ) → a *ℤ pos f ≡ b *ℤ pos d → pos f *ℤ (a *ℤ pos e) ≡ pos d *ℤ (b *ℤ pos e)
turned-over f d e a b h =
    *ℤ_comm (pos f) (a *ℤ pos e)
    ∙ turn-last a (pos e) (pos f)
    ∙ ap (λ (z : ℤ). z *ℤ pos e) h
    ∙ turn-last b (pos d) (pos e)
    ∙ *ℤ_comm (b *ℤ pos e) (pos d)

turned-same : (f d : ℕ) (b : ℤ) → pos f *ℤ (b *ℤ pos d) ≡ pos d *ℤ (b *ℤ pos f)
turned-same f d b = *ℤ_comm (pos f) (b *ℤ pos d) ∙ turn-last b (pos d) (pos f) ∙ *ℤ_comm (b *ℤ pos f) (pos d)

-- what reaches a value at or before t is there
reached-by : (up : Bool) (attr : ℕ) (t f : Fraction) (x : Assignment) → Reaches x attr f → 0 < f.den → IsNoFurther up t f → IsBy up (place attr t x)
reached-by true attr t f x e some h = elim (up-or-low (place attr t x)) [
  | inl high ↦
      let a = times_less f.den (t.num *ℤ pos x.den) (x.num attr *ℤ pos t.den) some (omega (arith, ints, high)) in
      let b = turned-over f.den x.den t.den (x.num attr) f.num e in
      let c = turned-same f.den x.den t.num in
      let less = cancel_less x.den (t.num *ℤ pos f.den) (f.num *ℤ pos t.den) (omega (arith, ints, a, b, c)) in
      absurd (omega (arith, ints, less, h))
  | inr low ↦ low
]
reached-by false attr t f x e some h = elim (low-or-up (place attr t x)) [
  | inl low ↦
      let a = times_less f.den (x.num attr *ℤ pos t.den) (t.num *ℤ pos x.den) some (omega (arith, ints, low)) in
      let b = turned-over f.den x.den t.den (x.num attr) f.num e in
      let c = turned-same f.den x.den t.num in
      let less = cancel_less x.den (f.num *ℤ pos t.den) (t.num *ℤ pos f.den) (omega (arith, ints, a, b, c)) in
      absurd (omega (arith, ints, less, h))
  | inr high ↦ high
]

-- what is best with that row is nearest, if it is at or before what the row asks for
wished-nearest : (l : Layout) (attr : ℕ) (up : Bool) (t : Fraction) (x : Assignment) → IsWhole l.problem → IsWhole (with_wish l attr (side up) t) → CanProbe l attr → IsBest (with_wish l attr (side up) t) x → IsBy up (place attr t x) → IsNearest l.problem attr t x
wished-nearest l attr up t x whole more can best by = record {
  loosely = probed_loosely l.problem.rows (wish_row (next_number l.problem.rows) attr (side up) t) l.problem.stays (stays_at (l.values ++ zeros [])) (whole-IsProblem l.problem whole) (whole-IsProblem (with_wish l attr (side up) t) more) can.ranks refl refl x best;
  none = λ y also less.
      let n = next_number l.problem.rows in
      let most : error y (line_of_row (wish_row n attr (side up) t)) * x.den ≤ unsigned_abs (place attr t y) * x.den =
      mul-le-mul_right x.den (subst (λ (k : ℕ). k ≤ unsigned_abs (place attr t y)) (sym (wish-error n attr (side up) t y)) (side-most up (place attr t y))) in
      probed_nearest l.problem.rows (wish_row n attr (side up) t) l.problem.stays (stays_at (l.values ++ zeros [])) (whole-IsProblem l.problem whole) (whole-IsProblem (with_wish l attr (side up) t) more) can.ranks refl refl x y best also
      (subst (λ (k : ℕ). error y (line_of_row (wish_row n attr (side up) t)) * x.den < k * y.den) (sym (wish-error n attr (side up) t x ∙ side-size up (place attr t x) by)) (omega (arith, most, less)));
}

pub wished_value : (l : Layout) (attr : ℕ) (up : Bool) (t f : Fraction) → IsWhole l.problem → IsWhole (with_wish l attr (side up) t) → CanProbe l attr → 0 < f.den → IsNoFurther up t f → IsBestValue (with_wish l attr (side up) t) attr f → IsNearestValue l.problem attr t f
wished_value l attr up t f whole more can some by (x, best, gives) =
    (x, wished-nearest l attr up t x whole more can best (reached-by up attr t f x (gives-one attr f x gives) some by), gives-one attr f x gives)

pub probed_value : (l : Layout) (attr : ℕ) (t f : Fraction) → IsWhole l.problem → IsWhole (with_probe l attr t) → CanProbe l attr → IsBestValue (with_probe l attr t) attr f → IsNearestValue l.problem attr t f
probed_value l attr t f whole more can (x, best, gives) = (x, probe_nearest l attr t x whole more can best, gives-one attr f x gives)

-- the same where the row asked for less before
pub pushed_value : (l : Layout) (attr n : ℕ) (up : Bool) (rel : Rel) (behind t f : Fraction) (row : Row) → row ≡ wish_row n attr rel behind → n ≡ next_number l.problem.rows → rel ≡ side up → IsWhole l.problem → IsWhole (with_wish l attr (side up) t) → CanProbe l attr → 0 < f.den → IsNoFurther up t f
    → IsBestValue (with_constant n t (with_added l [] (row ∷ []))) attr f → IsNearestValue l.problem attr t f
pushed_value l attr n up rel behind t f row row_is n_is rel_is whole more can some by h =
    let here = subst (λ (r : Row). IsBestValue (with_constant n t (with_added l [] (r ∷ []))) attr f) (row_is ∙ wish_same n (next_number l.problem.rows) attr rel (side up) behind n_is rel_is) h in
    let named = subst (λ (k : ℕ). IsBestValue (with_constant k t (with_wish l attr (side up) behind)) attr f) n_is here in
    wished_value l attr up t f whole more can some by (subst (λ (q : Problem). IsBestValue q attr f) (wish_changed l attr (side up) behind t whole) named)

-- ---- the present value

pub value_kept : (values : List (ℕ × Fraction)) (attr : ℕ) (f : Fraction) → All (λ v. IsKept v.1) values → Any (λ v. (v.0 ≡ attr) × (v.1 ≡ f)) values → IsKept f
value_kept values attr f all (k, w, within, is, e) = subst IsKept (ap (λ (u : ℕ × Fraction). u.1) is ∙ e.1) (all k w within)

-- the present best assignment reaches it
pub present : (l : Layout) (attr : ℕ) → AreBest l.problem l.values → HasValue l.values attr → (x : Assignment) × IsLooselyBest l.problem x × Reaches x attr (value_of l.values attr)
present l attr best has =
    let x = best.best in
    (x.0, best_loosely l.problem x.0 x.1, given-value x.0 l.values attr (recursion_from_All (λ u. x.0.num u.0 *ℤ pos u.1.den ≡ u.1.num *ℤ pos x.0.den) l.values x.2) has)

-- ---- what the probes say

pub record Probing (l : Layout) (attr : ℕ) (t : Fraction) (f : Fraction) : Type 0 where
  pub best : AreBest l.problem l.values
  pub has : HasValue l.values attr
  pub now_lowest : IsLowest (value_of l.values attr)
  pub target_above : 0 < t.den
  pub value_lowest : IsLowest f
  pub value : IsNearestValue l.problem attr t f

differs : (f v : Fraction) → IsLowest f → IsLowest v → f ≢ v → f.num *ℤ pos v.den ≢ v.num *ℤ pos f.den
differs f v a b ne e = ne (same_fraction f v a b e)

pub moves_up : (l : Layout) (attr : ℕ) (t f : Fraction) → Probing l attr t f → IsBeside true (value_of l.values attr) t → f ≢ value_of l.values attr → IsMove l.problem attr (value_of l.values attr) f
moves_up l attr t f p beside other =
    let now = present l attr p.best p.has in
    let x = p.value in
    inl (nearest_moves_up l.problem attr (value_of l.values attr) t f x.0 now.0 p.now_lowest.above p.target_above beside now.1 now.2
    x.1 x.2 (differs f (value_of l.values attr) p.value_lowest p.now_lowest other))

pub stays_up : (l : Layout) (attr : ℕ) (t f : Fraction) → Probing l attr t f → IsBeside true (value_of l.values attr) t → f ≡ value_of l.values attr → GoesAbove l.problem attr (value_of l.values attr) → ⊥
stays_up l attr t f p beside same =
    let now = present l attr p.best p.has in
    let x = p.value in
    nearest_stays_up l.problem attr (value_of l.values attr) t x.0 now.0 p.now_lowest.above p.target_above beside now.1 now.2
    x.1 (subst (Reaches x.0 attr) same x.2)

pub moves_down : (l : Layout) (attr : ℕ) (t f : Fraction) → Probing l attr t f → IsBeside false (value_of l.values attr) t → f ≢ value_of l.values attr → (GoesAbove l.problem attr (value_of l.values attr) → ⊥) → IsMove l.problem attr (value_of l.values attr) f
moves_down l attr t f p beside other none =
    let now = present l attr p.best p.has in
    let x = p.value in
    let moves = nearest_moves_down l.problem attr (value_of l.values attr) t f x.0 now.0 p.now_lowest.above p.target_above beside now.1 now.2
    x.1 x.2 (differs f (value_of l.values attr) p.value_lowest p.now_lowest other) in
    inr (none, moves.0, moves.1)

pub stays_down : (l : Layout) (attr : ℕ) (t f : Fraction) → Probing l attr t f → IsBeside false (value_of l.values attr) t → f ≡ value_of l.values attr → GoesBelow l.problem attr (value_of l.values attr) → ⊥
stays_down l attr t f p beside same =
    let now = present l attr p.best p.has in
    let x = p.value in
    nearest_stays_down l.problem attr (value_of l.values attr) t x.0 now.0 p.now_lowest.above p.target_above beside now.1 now.2
    x.1 (subst (Reaches x.0 attr) same x.2)

-- ---- by the value that is read

pub record Read (l : Layout) (attr : ℕ) (v : Fraction) : Type 0 where
  pub whole : IsWhole l.problem
  pub best : AreBest l.problem l.values
  pub kept : All (λ w. IsKept w.1) l.values
  pub apart : AreApart l.values
  pub can : CanProbe l attr
  pub value : Any (λ w. (w.0 ≡ attr) × (w.1 ≡ v)) l.values

read-is : (l : Layout) (attr : ℕ) (v : Fraction) → Read l attr v → v ≡ value_of l.values attr
read-is l attr v r = value_is l.values attr v r.apart r.value

probing : (l : Layout) (attr : ℕ) (up : Bool) (v f : Fraction) → Read l attr v → IsKept f → IsTried l attr up f → (t : Fraction) × IsBeside up (value_of l.values attr) t × Probing l attr t f
probing l attr up v f r kept (t, beside, fits, value) = (
  t,
  beside,
  record {
    best = r.best;
    has = (r.value.0, r.value.1, r.value.2, r.value.3, r.value.4.0);
    now_lowest = subst IsLowest (read-is l attr v r) (value_kept l.values attr v r.kept r.value).lowest;
    target_above = fits.lowest.above;
    value_lowest = kept.lowest;
    value = value;
  },
)

and-ambiguous : (l : Layout) (attr : ℕ) (v f : Fraction) → Read l attr v → HasValue l.values attr → IsKept f → IsMove l.problem attr (value_of l.values attr) f → IsAnswer l.problem attr (value_of l.values attr) (Moves f)
and-ambiguous l attr v f r has kept move =
    let now = present l attr r.best has in
    (kept.lowest, move_ambiguous l.problem attr (value_of l.values attr) f now.0 now.1 now.2 move, move)

pub tried_up_moves : (l : Layout) (attr : ℕ) (v f : Fraction) → Read l attr v → IsKept f → IsTried l attr true f → f ≢ v → IsAnswer l.problem attr (value_of l.values attr) (Moves f)
tried_up_moves l attr v f r kept tried other =
    let p = probing l attr true v f r kept tried in
    and-ambiguous l attr v f r p.2.has kept (moves_up l attr p.0 f p.2 p.1 (λ e. other (e ∙ sym (read-is l attr v r))))

pub tried_up_stays : (l : Layout) (attr : ℕ) (v f : Fraction) → Read l attr v → IsKept f → IsTried l attr true f → f ≡ v → GoesAbove l.problem attr (value_of l.values attr) → ⊥
tried_up_stays l attr v f r kept tried same = let p = probing l attr true v f r kept tried in stays_up l attr p.0 f p.2 p.1 (same ∙ read-is l attr v r)

pub tried_down_moves : (l : Layout) (attr : ℕ) (v f : Fraction) → Read l attr v → IsKept f → IsTried l attr false f → f ≢ v → (GoesAbove l.problem attr (value_of l.values attr) → ⊥) → IsAnswer l.problem attr (value_of l.values attr) (Moves f)
tried_down_moves l attr v f r kept tried other none =
    let p = probing l attr false v f r kept tried in
    and-ambiguous l attr v f r p.2.has kept (moves_down l attr p.0 f p.2 p.1 (λ e. other (e ∙ sym (read-is l attr v r))) none)

pub tried_down_stays : (l : Layout) (attr : ℕ) (v f : Fraction) → Read l attr v → IsKept f → IsTried l attr false f → f ≡ v → GoesBelow l.problem attr (value_of l.values attr) → ⊥
tried_down_stays l attr v f r kept tried same = let p = probing l attr false v f r kept tried in stays_down l attr p.0 f p.2 p.1 (same ∙ read-is l attr v r)

pub tried_fixed : (l : Layout) (attr : ℕ) (v f g : Fraction) → Read l attr v → IsKept f → IsTried l attr true f → f ≡ v → IsKept g → IsTried l attr false g → g ≡ v → IsAmbiguous l.problem attr → ⊥
tried_fixed l attr v f g r kept tried same also down there =
    neither_fixed l.problem attr (value_of l.values attr) (probing l attr true v f r kept tried).2.now_lowest.above (tried_up_stays l attr v f r kept tried same) (tried_down_stays l attr v g r also down there)
