-- The values at a corner of a run, and how far each mark inside stands above them for each mark of the run's first corner.
use Rattle.std.proofs.Common.{◌≡◌, ◌≢◌, ◌∙◌, ℕ, ◌*◌, ◌<◌, Bool, cond, List, [], ◌∷◌, map, ℤ, pos, negsuc, ◌+ℤ◌, ◌*ℤ◌, neg_ℤ, ◌<ℤ◌, sym, ap, ap₂, subst, arith, inl, inr, All, eq-eqb, ne_eqb, mul-pos}
use Rattle.std.specs.List.{AllByRecursion as Each}
use Rattle.std.proofs.lemmas.Bool.{cases_eq}
use Rattle.std.proofs.lemmas.List.Elements.{All-from_recursion, recursion_from_All}
use lib.IntN.{*ℤ_comm}
use borrow.Author.Differences.{ints}
use Rattle.frac_core.proofs.Integers.{mul_assoc_ℤ, mul-add_left, mul-zero_ℤ, add-zero_ℤ, zero-add_ℤ}
use Rattle.problem_core.specs.declared.parts.Mark.{Mark}
use Rattle.problem_core.specs.Layout.{Problem, lines, value_at}
use Rattle.problem_core.specs.Corners.{IsIn, Point, StandsAt, Swap, equation, exchanged, marks_of, one_column, place}
use Rattle.problem_core.specs.Rays.{IsRay}
use Rattle.problem_core.proofs.Corners.Exchanges.{IsLexPositive, lex_times, stays_positive}
use Rattle.problem_core.proofs.Forms.{each-impl, each-both, value-plus, value-scaled}
use Rattle.problem_core.proofs.Corners.Tableaus.{unit_at}
use Rattle.corner_laws.specs.Laws.{IsMarkAt}
use Rattle.corner_laws.proofs.Swaps.ValuesStay.{both-none, landed}
use Rattle.corner_laws.proofs.WrittenValues.{contains_each}
use Rattle.corner_laws.proofs.ZeroColumns.{IsDirection}
use Rattle.frac_core.proofs.Numbers.{as-natural as above-zero, neg-times, turned-cancels as leave-none}
use Rattle.problem_core.proofs.Marks.{entered-in as enter_in, kept-in as kept_in}

-- less `one` at the column c
abbrev pub less_unit : ℕ → ℕ → (ℕ → ℤ) → ℕ → ℤ
less_unit one c v u = v u +ℤ neg_ℤ (pos one) *ℤ unit_at c u

-- how far all marks stand above 0 where the mark with the column c counts `one` more than its deviation, and outside marks stand at 0
pub record IsLift (p : Problem) (at : List Mark) (one c : ℕ) (v : ℕ → ℤ) : Type 0 where
  pub direction : IsDirection p (less_unit one c v)
  pub outside : All (λ m. (IsIn (place m) at → ⊥) → v (place m) ≡ pos 0) (marks_of (lines p))

-- the column of the values, and those of the marks of the first corner
abbrev pub run_columns : List Mark → List ℕ
run_columns first = one_column ∷ map place first

-- the values over `one`, the lifts over `one`, and of each inside mark the first that isn't 0 is above 0
pub record IsExtended (p : Problem) (first at : List Mark) (values : ℕ → ℕ → ℤ) (one : ℕ) : Type 0 where
  pub above : 0 < one
  pub solves : All (λ l. value_at (values one_column) (equation l) ≡ pos 0) (lines p)
  pub unit : values one_column one_column ≡ pos one
  pub outside : All (λ m. (IsIn (place m) at → ⊥) → values one_column (place m) ≡ pos 0) (marks_of (lines p))
  pub lifts : Each (λ f. IsLift p at one (place f) (values (place f))) first
  pub positive : Each (λ m. IsLexPositive (λ c. values c (place m)) (run_columns first)) at

pub up-one : (one : ℕ) (z : ℤ) → 0 < one → z ≡ pos one → pos 0 <ℤ z
up-one one z h e = omega (arith, ints, h, e)

abbrev pub point_of : (p : Problem) (first at : List Mark) (values : ℕ → ℕ → ℤ) (one : ℕ) → IsExtended p first at values one → Point
point_of p first at values one e = record { num = values one_column; positive = up-one one (values one_column one_column) e.above e.unit }

pub point_stands : (p : Problem) (first at : List Mark) (values : ℕ → ℕ → ℤ) (one : ℕ) (e : IsExtended p first at values one) → StandsAt p at (point_of p first at values one e)
point_stands p first at values one e = (e.solves, e.outside)

-- ---- lists of columns

pub each_places : (P : ℕ → Type 0) (ms : List Mark) → Each (λ m. P (place m)) ms → Each P (map place ms)
each_places P [] h = tt
each_places P (m ∷ ms) h = (h.0, each_places P ms h.1)

pub lex_each : (f h : ℕ → ℤ) (cs : List ℕ) → Each (λ c. f c ≡ h c) cs → IsLexPositive f cs → IsLexPositive h cs
lex_each f h [] e l = l
lex_each f h (c ∷ cs) e (inl l) = inl (subst (λ (z : ℤ). pos 0 <ℤ z) e.0 l)
lex_each f h (c ∷ cs) e (inr l) = inr (sym e.0 ∙ l.0, lex_each f h cs e.1 l.1)

pub each_column : (P : ℕ → Type 0) (cs : List ℕ) → ((c : ℕ) → P c) → Each P cs
each_column P [] h = tt
each_column P (c ∷ cs) h = (h c, each_column P cs h)

-- an outside mark stands at 0 in all of them
pub outside_none : (p : Problem) (first at : List Mark) (values : ℕ → ℕ → ℤ) (one v : ℕ) → IsExtended p first at values one → IsMarkAt p v → (IsIn v at → ⊥) → Each (λ c. values c v ≡ pos 0) (run_columns first)
outside_none p first at values one v e mark out = (
  contains_each (λ u. (IsIn u at → ⊥) → values one_column u ≡ pos 0) (marks_of (lines p)) v (recursion_from_All _ (marks_of (lines p)) e.outside) mark out,
  each_places (λ c. values c v ≡ pos 0) first
      (each-impl (λ f. IsLift p at one (place f) (values (place f))) (λ f. values (place f) v ≡ pos 0) first
      (λ f h. contains_each (λ u. (IsIn u at → ⊥) → values (place f) u ≡ pos 0) (marks_of (lines p)) v (recursion_from_All _ (marks_of (lines p)) h.outside) mark out)
      e.lifts),
)

-- ---- after an exchange

abbrev pub next_values : ℕ → (ℕ → ℤ) → (ℕ → ℕ → ℤ) → ℕ → ℕ → ℤ
next_values leave ray values c v = landed (values c leave) (ray leave) ray (values c) v

landed_outside : (p : Problem) (at : List Mark) (s : Swap) (ray n : ℕ → ℤ) → IsIn (place s.leave) at → IsRay p at (place s.enter) ray → All (λ m. (IsIn (place m) at → ⊥) → n (place m) ≡ pos 0) (marks_of (lines p))
    → All (λ m. (IsIn (place m) (exchanged s at) → ⊥) → landed (n (place s.leave)) (ray (place s.leave)) ray n (place m) ≡ pos 0) (marks_of (lines p))
landed_outside p at s ray n leaves r outside =
    All-from_recursion (λ m. (IsIn (place m) (exchanged s at) → ⊥) → landed (n (place s.leave)) (ray (place s.leave)) ray n (place m) ≡ pos 0) (marks_of (lines p))
    (each-impl (λ m. ((IsIn (place m) at → ⊥) → n (place m) ≡ pos 0) × ((IsIn (place m) at → ⊥) → place m ≢ place s.enter → ray (place m) ≡ pos 0)) _ (marks_of (lines p))
    (λ m h out. elim (cases_eq (place m) (place s.leave)) [
      | inl e ↦ ap (landed (n (place s.leave)) (ray (place s.leave)) ray n) e ∙ leave-none (n (place s.leave)) (ray (place s.leave))
      | inr ne ↦
          let before : IsIn (place m) at → ⊥ = λ i. out (kept_in s at (place m) i ne) in
          both-none (n (place s.leave)) (ray (place s.leave)) (ray (place m)) (n (place m)) (h.1 before (λ e. out (subst (λ (v : ℕ). IsIn v (exchanged s at)) (sym e) (enter_in s at leaves)))) (h.0 before)
    ])
    (each-both _ _ (marks_of (lines p)) (recursion_from_All _ (marks_of (lines p)) outside) (recursion_from_All _ (marks_of (lines p)) r.other)))

lift-parts : (x r : ℤ) (k one : ℕ) (a b u : ℤ) → neg_ℤ r ≡ pos k → a ≡ pos 0 → b +ℤ neg_ℤ (pos one) *ℤ u ≡ pos 0 → (x *ℤ a +ℤ neg_ℤ r *ℤ b) +ℤ neg_ℤ (pos (k * one)) *ℤ u ≡ pos 0
lift-parts x r k one a b u e f h =
    let c : x *ℤ a ≡ pos 0 = ap (λ (z : ℤ). x *ℤ z) f ∙ mul-zero_ℤ x in
    let d : neg_ℤ r *ℤ b ≡ pos k *ℤ b = ap (λ (z : ℤ). z *ℤ b) e in
    let g : pos k *ℤ (b +ℤ neg_ℤ (pos one) *ℤ u) ≡ pos k *ℤ b +ℤ pos k *ℤ (neg_ℤ (pos one) *ℤ u) = mul-add_left (pos k) b (neg_ℤ (pos one) *ℤ u) in
    let i : pos k *ℤ (b +ℤ neg_ℤ (pos one) *ℤ u) ≡ pos 0 = ap (λ (z : ℤ). pos k *ℤ z) h ∙ mul-zero_ℤ (pos k) in
    let j : pos k *ℤ (neg_ℤ (pos one) *ℤ u) ≡ neg_ℤ (pos (k * one) *ℤ u) =
    ap (λ (z : ℤ). pos k *ℤ z) (neg-times (pos one) u) ∙ *ℤ_comm (pos k) (neg_ℤ (pos one *ℤ u)) ∙ neg-times (pos one *ℤ u) (pos k)
    ∙ ap neg_ℤ (*ℤ_comm (pos one *ℤ u) (pos k) ∙ sym (mul_assoc_ℤ (pos k) (pos one) u)) in
    omega (arith, ints, c, d, g, i, j, neg-times (pos (k * one)) u)

-- the lift of the same mark at the next corner
lift_next : (p : Problem) (at : List Mark) (s : Swap) (ray v : ℕ → ℤ) (one k f : ℕ) → IsIn (place s.leave) at → IsRay p at (place s.enter) ray → neg_ℤ (ray (place s.leave)) ≡ pos k → IsLift p at one f v → IsLift p (exchanged s at) (k * one) f (landed (v (place s.leave)) (ray (place s.leave)) ray v)
lift_next p at s ray v one k f leaves r e h = record {
  direction = record {
    holds = All-from_recursion (λ l. value_at (less_unit (k * one) f (landed (v (place s.leave)) (ray (place s.leave)) ray v)) (equation l) ≡ pos 0) (lines p)
        (each-impl (λ l. (value_at ray (equation l) ≡ pos 0) × (value_at (less_unit one f v) (equation l) ≡ pos 0)) _ (lines p)
        (λ l g. value-plus (landed (v (place s.leave)) (ray (place s.leave)) ray v) (λ u. neg_ℤ (pos (k * one)) *ℤ unit_at f u) (equation l)
        ∙ ap₂ ◌+ℤ◌
        (value-plus (λ u. v (place s.leave) *ℤ ray u) (λ u. neg_ℤ (ray (place s.leave)) *ℤ v u) (equation l)
        ∙ ap₂ ◌+ℤ◌ (value-scaled (v (place s.leave)) ray (equation l)) (value-scaled (neg_ℤ (ray (place s.leave))) v (equation l)))
        (value-scaled (neg_ℤ (pos (k * one))) (unit_at f) (equation l))
        ∙ lift-parts (v (place s.leave)) (ray (place s.leave)) k one (value_at ray (equation l)) (value_at v (equation l)) (value_at (unit_at f) (equation l)) e g.0
        (sym (value-plus v (λ u. neg_ℤ (pos one) *ℤ unit_at f u) (equation l) ∙ ap (λ (z : ℤ). value_at v (equation l) +ℤ z) (value-scaled (neg_ℤ (pos one)) (unit_at f) (equation l))) ∙ g.1))
        (each-both _ _ (lines p) (recursion_from_All _ (lines p) r.holds) (recursion_from_All _ (lines p) h.direction.holds)));
    still = lift-parts (v (place s.leave)) (ray (place s.leave)) k one (ray one_column) (v one_column) (unit_at f one_column) e r.still h.direction.still;
  };
  outside = landed_outside p at s ray v leaves r h.outside;
}

unit-next : (x r a b : ℤ) (k one : ℕ) → neg_ℤ r ≡ pos k → a ≡ pos 0 → b ≡ pos one → x *ℤ a +ℤ neg_ℤ r *ℤ b ≡ pos (k * one)
unit-next x r a b k one e f g = ap₂ ◌+ℤ◌ (ap (λ (z : ℤ). x *ℤ z) f ∙ mul-zero_ℤ x) (ap₂ ◌*ℤ◌ e g) ∙ zero-add_ℤ (pos (k * one))

each_next : (P : ℕ → Type 0) (s : Swap) (at : List Mark) → P (place s.enter) → Each (λ m. place m ≢ place s.leave → P (place m)) at → Each (λ m. P (place m)) (exchanged s at)
each_next P s [] enter h = tt
each_next P s (m ∷ ms) enter h = (
  elim (cases_eq (place m) (place s.leave)) [
    | inl e ↦ subst (λ (b : Bool). P (place (cond b s.enter m))) (sym (eq-eqb (place m) (place s.leave) e)) enter
    | inr n ↦ subst (λ (b : Bool). P (place (cond b s.enter m))) (sym (ne_eqb (place m) (place s.leave) n)) (h.0 n)
  ],
  each_next P s ms enter h.1,
)

-- the entering mark takes the leaving one's values, times a positive number
enter_positive : (p : Problem) (first at : List Mark) (s : Swap) (values : ℕ → ℕ → ℤ) (one : ℕ) (ray : ℕ → ℤ) → IsExtended p first at values one → IsMarkAt p (place s.enter) → (IsIn (place s.enter) at → ⊥) → pos 0 <ℤ ray (place s.enter)
    → IsLexPositive (λ c. values c (place s.leave)) (run_columns first) → IsLexPositive (λ c. next_values (place s.leave) ray values c (place s.enter)) (run_columns first)
enter_positive p first at s values one ray e mark out up lex =
    let g = above-zero (ray (place s.enter)) up in
    lex_each (λ c. pos g.0 *ℤ values c (place s.leave)) _ (run_columns first)
    (each-impl (λ c. values c (place s.enter) ≡ pos 0) _ (run_columns first)
    (λ c none. *ℤ_comm (pos g.0) (values c (place s.leave)) ∙ ap (λ (z : ℤ). values c (place s.leave) *ℤ z) (sym g.2) ∙ sym (ap (λ (z : ℤ). values c (place s.leave) *ℤ ray (place s.enter) +ℤ z) (ap (λ (z : ℤ). neg_ℤ (ray (place s.leave)) *ℤ z) none ∙ mul-zero_ℤ (neg_ℤ (ray (place s.leave)))) ∙ add-zero_ℤ (values c (place s.leave) *ℤ ray (place s.enter))))
    (outside_none p first at values one (place s.enter) e mark out))
    (lex_times g.0 (λ c. values c (place s.leave)) (run_columns first) g.1 lex)

one-time : (z w : ℤ) → z ≡ w → pos 1 *ℤ z ≡ w
one-time z w e = omega (arith, ints, e)

-- where a mark rises it stays positive
rises_positive : (leave old : ℕ → ℤ) (r a : ℤ) (k : ℕ) (cs : List ℕ) → neg_ℤ r ≡ pos k → 0 < k → (a <ℤ pos 0 → IsLexPositive (λ c. leave c *ℤ a +ℤ neg_ℤ r *ℤ old c) cs) → IsLexPositive old cs → IsLexPositive leave cs → IsLexPositive (λ c. leave c *ℤ a +ℤ neg_ℤ r *ℤ old c) cs
rises_positive leave old r (negsuc a) k cs e above falls lo ll = falls (omega (arith, ints))
rises_positive leave old r (pos a) k cs e above falls lo ll =
    stays_positive old leave (λ c. leave c *ℤ pos a +ℤ neg_ℤ r *ℤ old c) 1 k a cs (omega arith) above
    (λ c.
    let one : leave c *ℤ pos a ≡ pos a *ℤ leave c = *ℤ_comm (leave c) (pos a) in
    let two : neg_ℤ r *ℤ old c ≡ pos k *ℤ old c = ap (λ (z : ℤ). z *ℤ old c) e in
    one-time (leave c *ℤ pos a +ℤ neg_ℤ r *ℤ old c) (pos k *ℤ old c +ℤ pos a *ℤ leave c) (omega (arith, ints, one, two)))
    lo ll

-- the extended values after an exchange at which the marks that fall stay positive
pub extended_next : (p : Problem) (first at : List Mark) (s : Swap) (values : ℕ → ℕ → ℤ) (one : ℕ) (ray : ℕ → ℤ) (k : ℕ) → IsExtended p first at values one → IsMarkAt p (place s.enter) → (IsIn (place s.enter) at → ⊥) → IsIn (place s.leave) at → IsRay p at (place s.enter) ray → neg_ℤ (ray (place s.leave)) ≡ pos k → 0 < k
    → Each (λ m. place m ≢ place s.leave → ray (place m) <ℤ pos 0 → IsLexPositive (λ c. next_values (place s.leave) ray values c (place m)) (run_columns first)) at → IsExtended p first (exchanged s at) (next_values (place s.leave) ray values) (k * one)
extended_next p first at s values one ray k e mark enters leaves r turned above falls =
    let lex : IsLexPositive (λ c. values c (place s.leave)) (run_columns first) = contains_each (λ v. IsLexPositive (λ c. values c v) (run_columns first)) at (place s.leave) e.positive leaves in
    record {
      above = mul-pos above e.above;
      solves = All-from_recursion (λ l. value_at (next_values (place s.leave) ray values one_column) (equation l) ≡ pos 0) (lines p)
          (each-impl (λ l. (value_at ray (equation l) ≡ pos 0) × (value_at (values one_column) (equation l) ≡ pos 0)) _ (lines p)
          (λ l h. value-plus (λ v. values one_column (place s.leave) *ℤ ray v) (λ v. neg_ℤ (ray (place s.leave)) *ℤ values one_column v) (equation l)
          ∙ ap₂ ◌+ℤ◌ (value-scaled (values one_column (place s.leave)) ray (equation l)) (value-scaled (neg_ℤ (ray (place s.leave))) (values one_column) (equation l))
          ∙ both-none (values one_column (place s.leave)) (ray (place s.leave)) (value_at ray (equation l)) (value_at (values one_column) (equation l)) h.0 h.1)
          (each-both _ _ (lines p) (recursion_from_All _ (lines p) r.holds) (recursion_from_All _ (lines p) e.solves)));
      unit = unit-next (values one_column (place s.leave)) (ray (place s.leave)) (ray one_column) (values one_column one_column) k one turned r.still e.unit;
      outside = landed_outside p at s ray (values one_column) leaves r e.outside;
      lifts = each-impl (λ f. IsLift p at one (place f) (values (place f))) (λ f. IsLift p (exchanged s at) (k * one) (place f) (next_values (place s.leave) ray values (place f))) first
          (λ f h. lift_next p at s ray (values (place f)) one k (place f) leaves r turned h) e.lifts;
      positive = each_next (λ v. IsLexPositive (λ c. next_values (place s.leave) ray values c v) (run_columns first)) s at
          (enter_positive p first at s values one ray e mark enters r.here lex)
          (each-impl (λ m. IsLexPositive (λ c. values c (place m)) (run_columns first) × (place m ≢ place s.leave → ray (place m) <ℤ pos 0 → IsLexPositive (λ c. next_values (place s.leave) ray values c (place m)) (run_columns first))) _ at
          (λ m h ne. rises_positive (λ c. values c (place s.leave)) (λ c. values c (place m)) (ray (place s.leave)) (ray (place m)) k (run_columns first) turned above (h.1 ne) h.0 lex)
          (each-both _ _ at e.positive falls));
    }
