-- How a level's writing changes by an exchange: a multiple of the leaving mark's row is taken from it.
use Rattle.std.proofs.Common.{◌≡◌, ◌≢◌, ◌∙◌, ℕ, ◌*◌, ◌<◌, List, ℤ, pos, ◌+ℤ◌, ◌-ℤ◌, ◌*ℤ◌, neg_ℤ, ap, ap₂, arith, inl, inr, All, mul-pos}
use Rattle.std.proofs.lemmas.List.Elements.{All-from_recursion, recursion_from_All}
use borrow.Author.Differences.{ints}
use Rattle.frac_core.proofs.Integers.{mul_assoc_ℤ, mul_left_comm_ℤ, mul-add_left, add-mul_right, mul-sub_left, mul-zero_ℤ}
use Rattle.problem_core.specs.declared.parts.Mark.{Mark}
use Rattle.problem_core.specs.declared.parts.Side.{Side}
use Rattle.problem_core.specs.declared.parts.Side.TheVariants.{Under, Over}
use Rattle.problem_core.specs.declared.parts.RowName.{RowName}
use Rattle.problem_core.specs.Layout.{Problem, lines, coefficient, sum_of}
use Rattle.problem_core.specs.Certificates.{under_weight, over_weight, weight_at}
use Rattle.problem_core.specs.Corners.{IsIn, Swap, column, exchanged, place, place_of}
use Rattle.problem_core.proofs.Forms.{each-impl, each-both, sum-cong, sum-add, mul-sum}
use Rattle.problem_core.specs.Levels.{alone}
pub use Rattle.corner_laws.specs.Sums.{IsLevelSum, IsRowOf}
use Rattle.corner_laws.proofs.Exchanged.{exchanged_in}
use Rattle.frac_core.proofs.Numbers.{mul-neg as mul-opp}

abbrev pub less : ℕ → ℤ → (ℕ → ℤ) → (ℕ → ℤ) → ℕ → ℤ
less g t a b v = pos g *ℤ a v -ℤ t *ℤ b v

abbrev pub more : ℕ → ℤ → (RowName → ℤ) → (RowName → ℤ) → RowName → ℤ
more g t a b name = pos g *ℤ a name +ℤ t *ℤ b name

times-sum : (g : ℕ) (t a b c : ℤ) → (pos g *ℤ a +ℤ t *ℤ b) *ℤ c ≡ pos g *ℤ (a *ℤ c) +ℤ t *ℤ (b *ℤ c)
times-sum g t a b c = add-mul_right (pos g *ℤ a) (t *ℤ b) c ∙ ap₂ ◌+ℤ◌ (mul_assoc_ℤ (pos g) a c) (mul_assoc_ℤ t b c)

more-cancel : (p : Problem) (g : ℕ) (t : ℤ) (a b : RowName → ℤ) → ((v : ℕ) → sum_of (λ l. a l.name *ℤ coefficient v l.form) (lines p) ≡ pos 0) → ((v : ℕ) → sum_of (λ l. b l.name *ℤ coefficient v l.form) (lines p) ≡ pos 0) → (v : ℕ) → sum_of (λ l. more g t a b l.name *ℤ coefficient v l.form) (lines p) ≡ pos 0
more-cancel p g t a b h k v =
    sum-cong (λ l. more g t a b l.name *ℤ coefficient v l.form) (λ l. pos g *ℤ (a l.name *ℤ coefficient v l.form) +ℤ t *ℤ (b l.name *ℤ coefficient v l.form)) (lines p) (λ l. times-sum g t (a l.name) (b l.name) (coefficient v l.form))
    ∙ sum-add (λ l. pos g *ℤ (a l.name *ℤ coefficient v l.form)) (λ l. t *ℤ (b l.name *ℤ coefficient v l.form)) (lines p)
    ∙ ap₂ ◌+ℤ◌ (mul-sum (pos g) (λ l. a l.name *ℤ coefficient v l.form) (lines p) ∙ ap (λ (z : ℤ). pos g *ℤ z) (h v) ∙ mul-zero_ℤ (pos g))
    (mul-sum t (λ l. b l.name *ℤ coefficient v l.form) (lines p) ∙ ap (λ (z : ℤ). t *ℤ z) (k v) ∙ mul-zero_ℤ t)

-- k*r = D*w - k*y gives k*(g*r - t*b) = g*D*w - k*(g*y + t*b)
under-step : (k g s w : ℕ) (t r y e b : ℤ) → pos k *ℤ r ≡ pos (s * w) -ℤ pos k *ℤ y → e ≡ b → pos k *ℤ (pos g *ℤ r -ℤ t *ℤ e) ≡ pos (g * s * w) -ℤ pos k *ℤ (pos g *ℤ y +ℤ t *ℤ b)
under-step k g s w t r y e b h same =
    let one : pos k *ℤ (pos g *ℤ r -ℤ t *ℤ e) ≡ pos k *ℤ (pos g *ℤ r) -ℤ pos k *ℤ (t *ℤ e) = mul-sub_left (pos k) (pos g *ℤ r) (t *ℤ e) in
    let two : pos k *ℤ (pos g *ℤ r) ≡ pos g *ℤ pos (s * w) -ℤ pos g *ℤ (pos k *ℤ y) = mul_left_comm_ℤ (pos k) (pos g) r ∙ ap (λ (z : ℤ). pos g *ℤ z) h ∙ mul-sub_left (pos g) (pos (s * w)) (pos k *ℤ y) in
    let three : pos k *ℤ (pos g *ℤ y +ℤ t *ℤ b) ≡ pos g *ℤ (pos k *ℤ y) +ℤ pos k *ℤ (t *ℤ b) = mul-add_left (pos k) (pos g *ℤ y) (t *ℤ b) ∙ ap (λ (z : ℤ). z +ℤ pos k *ℤ (t *ℤ b)) (mul_left_comm_ℤ (pos k) (pos g) y) in
    let four : pos k *ℤ (t *ℤ e) ≡ pos k *ℤ (t *ℤ b) = ap (λ (z : ℤ). pos k *ℤ (t *ℤ z)) same in
    let five : pos g *ℤ pos (s * w) ≡ pos (g * s * w) = ap pos (omega arith) in
    omega (arith, ints, one, two, three, four, five)

over-step : (k g s w : ℕ) (t r y e b : ℤ) → pos k *ℤ r ≡ pos (s * w) +ℤ pos k *ℤ y → e ≡ neg_ℤ b → pos k *ℤ (pos g *ℤ r -ℤ t *ℤ e) ≡ pos (g * s * w) +ℤ pos k *ℤ (pos g *ℤ y +ℤ t *ℤ b)
over-step k g s w t r y e b h same =
    let one : pos k *ℤ (pos g *ℤ r -ℤ t *ℤ e) ≡ pos k *ℤ (pos g *ℤ r) -ℤ pos k *ℤ (t *ℤ e) = mul-sub_left (pos k) (pos g *ℤ r) (t *ℤ e) in
    let two : pos k *ℤ (pos g *ℤ r) ≡ pos g *ℤ pos (s * w) +ℤ pos g *ℤ (pos k *ℤ y) = mul_left_comm_ℤ (pos k) (pos g) r ∙ ap (λ (z : ℤ). pos g *ℤ z) h ∙ mul-add_left (pos g) (pos (s * w)) (pos k *ℤ y) in
    let three : pos k *ℤ (pos g *ℤ y +ℤ t *ℤ b) ≡ pos g *ℤ (pos k *ℤ y) +ℤ pos k *ℤ (t *ℤ b) = mul-add_left (pos k) (pos g *ℤ y) (t *ℤ b) ∙ ap (λ (z : ℤ). z +ℤ pos k *ℤ (t *ℤ b)) (mul_left_comm_ℤ (pos k) (pos g) y) in
    let four : pos k *ℤ (t *ℤ e) ≡ pos k *ℤ (t *ℤ neg_ℤ b) = ap (λ (z : ℤ). pos k *ℤ (t *ℤ z)) same in
    let opp : t *ℤ neg_ℤ b ≡ neg_ℤ (t *ℤ b) = mul-opp t b in
    let five : pos k *ℤ (t *ℤ neg_ℤ b) ≡ neg_ℤ (pos k *ℤ (t *ℤ b)) = ap (λ (z : ℤ). pos k *ℤ z) opp ∙ mul-opp (pos k) (t *ℤ b) in
    let six : pos g *ℤ pos (s * w) ≡ pos (g * s * w) = ap pos (omega arith) in
    omega (arith, ints, one, two, three, four, five, six)

same-zero : (g : ℕ) (t a b : ℤ) → a ≡ pos 0 → b ≡ pos 0 → pos g *ℤ a -ℤ t *ℤ b ≡ pos 0
same-zero g t a b e f = ap₂ ◌-ℤ◌ (ap (λ (z : ℤ). pos g *ℤ z) e ∙ mul-zero_ℤ (pos g)) (ap (λ (z : ℤ). t *ℤ z) f ∙ mul-zero_ℤ t)

pub left-zero : (a b : ℤ) → a ≡ b → a -ℤ b ≡ pos 0
left-zero a b e = omega (arith, ints, e)

more-columns : (p : Problem) (at : List Mark) (level scale c g : ℕ) (t : ℤ) (times row : RowName → ℤ) (reduced entry : ℕ → ℤ) → IsLevelSum p at level scale times reduced → IsRowOf p at c row entry → (side : Side) → All (λ l. pos l.scale *ℤ less g t reduced entry (place_of l.name side) ≡ column (alone (g * scale) (more g t times row)) side l level) (lines p)
more-columns p at level scale c g t times row reduced entry is r Under =
    All-from_recursion (λ l. pos l.scale *ℤ less g t reduced entry (place_of l.name Under) ≡ column (alone (g * scale) (more g t times row)) Under l level) (lines p)
    (each-impl (λ l. (pos l.scale *ℤ reduced (place_of l.name Under) ≡ column (alone scale times) Under l level) × (entry (place_of l.name Under) ≡ row l.name)) _ (lines p)
    (λ l h. under-step l.scale g scale (under_weight l.rel (weight_at l level)) t (reduced (place_of l.name Under)) (times l.name) (entry (place_of l.name Under)) (row l.name) h.0 h.1)
    (each-both _ _ (lines p) (recursion_from_All _ (lines p) (is.columns Under)) (recursion_from_All _ (lines p) r.under)))
more-columns p at level scale c g t times row reduced entry is r Over =
    All-from_recursion (λ l. pos l.scale *ℤ less g t reduced entry (place_of l.name Over) ≡ column (alone (g * scale) (more g t times row)) Over l level) (lines p)
    (each-impl (λ l. (pos l.scale *ℤ reduced (place_of l.name Over) ≡ column (alone scale times) Over l level) × (entry (place_of l.name Over) ≡ neg_ℤ (row l.name))) _ (lines p)
    (λ l h. over-step l.scale g scale (over_weight l.rel (weight_at l level)) t (reduced (place_of l.name Over)) (times l.name) (entry (place_of l.name Over)) (row l.name) h.0 h.1)
    (each-both _ _ (lines p) (recursion_from_All _ (lines p) (is.columns Over)) (recursion_from_All _ (lines p) r.over)))

-- the level's writing at the next corner: g times the old one, less t times the leaving mark's row, where the entering mark cancels
pub exchanged_level : (p : Problem) (at : List Mark) (s : Swap) (level scale g : ℕ) (t : ℤ) (times row : RowName → ℤ) (reduced entry : ℕ → ℤ)
    → IsLevelSum p at level scale times reduced → IsRowOf p at (place s.leave) row entry → 0 < g → pos g *ℤ reduced (place s.enter) ≡ t *ℤ entry (place s.enter)
    → IsLevelSum p (exchanged s at) level (g * scale) (more g t times row) (less g t reduced entry)
exchanged_level p at s level scale g t times row reduced entry is r above cancels = record {
  scale_positive = mul-pos above is.scale_positive;
  cancel = more-cancel p g t times row is.cancel r.cancel;
  columns = more-columns p at level scale (place s.leave) g t times row reduced entry is r;
  inside_zero = λ side.
      All-from_recursion (λ l. IsIn (place_of l.name side) (exchanged s at) → less g t reduced entry (place_of l.name side) ≡ pos 0) (lines p)
      (each-impl (λ l. (IsIn (place_of l.name side) at → reduced (place_of l.name side) ≡ pos 0) × (IsIn (place_of l.name side) at → place_of l.name side ≢ place s.leave → entry (place_of l.name side) ≡ pos 0)) _ (lines p)
      (λ l h i. elim (exchanged_in s at (place_of l.name side) i) [
        | inl e ↦ ap (less g t reduced entry) e ∙ left-zero (pos g *ℤ reduced (place s.enter)) (t *ℤ entry (place s.enter)) cancels
        | inr k ↦ same-zero g t (reduced (place_of l.name side)) (entry (place_of l.name side)) (h.0 k.0) (h.1 k.0 k.1)
      ])
      (each-both _ _ (lines p) (recursion_from_All _ (lines p) (is.inside_zero side)) (recursion_from_All _ (lines p) (r.inside_zero side))));
}
