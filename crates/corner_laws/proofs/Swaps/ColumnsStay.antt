-- The dual ratio rule: no column turns negative.
use Rattle.std.proofs.Common.{◌≡◌, ◌∙◌, ℕ, suc, ◌*◌, ◌<◌, List, [], ◌∷◌, ℤ, pos, negsuc, ◌+ℤ◌, ◌-ℤ◌, ◌*ℤ◌, neg_ℤ, ◌<ℤ◌, ◌≤ℤ◌, refl, sym, ap, subst, arith, All}
use Rattle.std.specs.List.{AllByRecursion as Each}
use Rattle.std.proofs.lemmas.List.Elements.{recursion_from_All}
use lib.IntN.{*ℤ_comm}
use borrow.Author.Differences.{ints}
use Rattle.frac_core.proofs.Integers.{mul_left_comm_ℤ, mul-add_left, mul-sub_left, mul-zero_ℤ, mul_not_negative, zero_from_mul}
use Rattle.problem_core.specs.declared.parts.Mark.{Mark}
use Rattle.problem_core.specs.declared.parts.Side.{Side}
use Rattle.problem_core.specs.declared.parts.Side.TheVariants.{Under, Over}
use Rattle.problem_core.specs.declared.parts.RowName.{RowName}
use Rattle.problem_core.specs.Layout.{Line, Problem, lines}
use Rattle.problem_core.specs.Kept.{IsWhole}
use Rattle.problem_core.specs.Certificates.{IsLexNonnegative, Multipliers, under_weight, over_weight, weight_at}
use Rattle.problem_core.specs.Corners.{AreMultipliersAt, IsIn, NoNegativeColumn, Swap, column, exchanged, marks_of, place, place_of}
use Rattle.problem_core.proofs.Wholes.{whole-IsProblem}
use Rattle.corner_laws.specs.Laws.{IsMarkAt}
use Rattle.problem_core.specs.Rays.{HasRays}
use Rattle.problem_core.specs.Levels.{alone}
use Rattle.corner_laws.specs.Sums.{AreLevelSums, IsLeastRatio, IsRowOf}
use Rattle.corner_laws.proofs.LevelCosts.ExchangedLevels.{exchanged_level, less, more}
use Rattle.corner_laws.proofs.LevelCosts.Unique.{multipliers_same}
use Rattle.corner_laws.proofs.WrittenValues.{contains_each}
use Rattle.corner_laws.proofs.LevelCosts.Equal.{zero-column}
use Rattle.problem_core.proofs.Corners.Columns.{lex-add as lex_plus, lex-mul as lex_times}
use Rattle.frac_core.proofs.Numbers.{neg-times, up-from as sign-from}

-- ---- lexicographically nonnegative lists of numbers

pub lex_same : (f h : ℕ → ℤ) → ((k : ℕ) → f k ≡ h k) → IsLexNonnegative f → IsLexNonnegative h
lex_same f h e lex level before = subst (λ (z : ℤ). pos 0 ≤ℤ z) (e level) (lex level (λ k less. e k ∙ before k less))

-- proportional numbers at each level
pub lex_alike : (a b : ℕ → ℕ) (f h : ℕ → ℤ) → ((k : ℕ) → 0 < a k) → ((k : ℕ) → 0 < b k) → ((k : ℕ) → pos (a k) *ℤ h k ≡ pos (b k) *ℤ f k) → IsLexNonnegative f → IsLexNonnegative h
lex_alike a b f h above over e lex level before =
    sign-from (a level) (h level) (above level)
    (subst (λ (z : ℤ). pos 0 ≤ℤ z) (sym (e level))
    (mul_not_negative (b level) (f level) (lex level (λ k lt. zero_from_mul (b k) (f k) (over k) (sym (e k) ∙ ap (λ (z : ℤ). pos (a k) *ℤ z) (before k lt) ∙ mul-zero_ℤ (pos (a k)))))))

-- ---- level sums and multipliers

abbrev pub together : (ℕ → ℕ) → (ℕ → RowName → ℤ) → Multipliers
together scale times = record { scale = scale; times = times }

-- the column of a line in the list of all levels is that at its level
same-column : (scale : ℕ → ℕ) (times : ℕ → RowName → ℤ) (side : Side) (l : Line) (level : ℕ) → column (alone (scale level) (times level)) side l level ≡ column (together scale times) side l level
same-column scale times Under l level = refl
same-column scale times Over l level = refl

pub columns-of : (p : Problem) (at : List Mark) (scale : ℕ → ℕ) (times : ℕ → RowName → ℤ) (reduced : ℕ → ℕ → ℤ) → AreLevelSums p at scale times reduced → (side : Side) → All (λ l. (level : ℕ) → pos l.scale *ℤ reduced level (place_of l.name side) ≡ column (together scale times) side l level) (lines p)
columns-of p at scale times reduced sums side = λ i d within level. (sums level).columns side i d within ∙ same-column scale times side _ level

zero-inside : (at : List Mark) (scale : ℕ → ℕ) (times : ℕ → RowName → ℤ) (reduced : ℕ → ℕ → ℤ) (side : Side) (l : Line) → ((level : ℕ) → pos l.scale *ℤ reduced level (place_of l.name side) ≡ column (together scale times) side l level) → ((level : ℕ) → IsIn (place_of l.name side) at → reduced level (place_of l.name side) ≡ pos 0) → IsIn (place_of l.name side) at → (level : ℕ) → column (together scale times) side l level ≡ pos 0
zero-inside at scale times reduced side l e h inside level = zero-column l.scale (reduced level (place_of l.name side)) (column (together scale times) side l level) (e level) (h level inside)

pub sums-AreMultipliersAt : (p : Problem) (at : List Mark) (scale : ℕ → ℕ) (times : ℕ → RowName → ℤ) (reduced : ℕ → ℕ → ℤ) → AreLevelSums p at scale times reduced → AreMultipliersAt p at (together scale times)
sums-AreMultipliersAt p at scale times reduced sums = record {
  scales = λ level. (sums level).scale_positive;
  cancel = λ level. (sums level).cancel;
  inside_zero = λ side i d within. zero-inside at scale times reduced side _ (columns-of p at scale times reduced sums side i d within) (λ level. (sums level).inside_zero side i d within);
}

under-alike : (s t w k : ℕ) (y z : ℤ) → pos s *ℤ z ≡ pos t *ℤ y → pos s *ℤ (pos (t * w) -ℤ pos k *ℤ z) ≡ pos t *ℤ (pos (s * w) -ℤ pos k *ℤ y)
under-alike s t w k y z e =
    let a = mul-sub_left (pos s) (pos (t * w)) (pos k *ℤ z) in
    let b = mul-sub_left (pos t) (pos (s * w)) (pos k *ℤ y) in
    let c : pos s *ℤ pos (t * w) ≡ pos t *ℤ pos (s * w) = ap pos (omega arith) in
    let d : pos s *ℤ (pos k *ℤ z) ≡ pos t *ℤ (pos k *ℤ y) = mul_left_comm_ℤ (pos s) (pos k) z ∙ ap (λ (x : ℤ). pos k *ℤ x) e ∙ mul_left_comm_ℤ (pos k) (pos t) y in
    omega (arith, ints, a, b, c, d)

over-alike : (s t w k : ℕ) (y z : ℤ) → pos s *ℤ z ≡ pos t *ℤ y → pos s *ℤ (pos (t * w) +ℤ pos k *ℤ z) ≡ pos t *ℤ (pos (s * w) +ℤ pos k *ℤ y)
over-alike s t w k y z e =
    let a = mul-add_left (pos s) (pos (t * w)) (pos k *ℤ z) in
    let b = mul-add_left (pos t) (pos (s * w)) (pos k *ℤ y) in
    let c : pos s *ℤ pos (t * w) ≡ pos t *ℤ pos (s * w) = ap pos (omega arith) in
    let d : pos s *ℤ (pos k *ℤ z) ≡ pos t *ℤ (pos k *ℤ y) = mul_left_comm_ℤ (pos s) (pos k) z ∙ ap (λ (x : ℤ). pos k *ℤ x) e ∙ mul_left_comm_ℤ (pos k) (pos t) y in
    omega (arith, ints, a, b, c, d)

pub column-alike : (m n : Multipliers) (side : Side) (l : Line) (level : ℕ) → pos (m.scale level) *ℤ n.times level l.name ≡ pos (n.scale level) *ℤ m.times level l.name → pos (m.scale level) *ℤ column n side l level ≡ pos (n.scale level) *ℤ column m side l level
column-alike m n Under l level e = under-alike (m.scale level) (n.scale level) (under_weight l.rel (weight_at l level)) l.scale (m.times level l.name) (n.times level l.name) e
column-alike m n Over l level e = over-alike (m.scale level) (n.scale level) (over_weight l.rel (weight_at l level)) l.scale (m.times level l.name) (n.times level l.name) e

-- no reduced cost is lexicographically negative
abbrev pub AreUp : Problem → (ℕ → ℕ → ℤ) → Type 0
AreUp p reduced = (side : Side) → All (λ l. IsLexNonnegative (λ level. reduced level (place_of l.name side))) (lines p)

up-line : (m n : Multipliers) (side : Side) (l : Line) (f : ℕ → ℤ) → 0 < l.scale → ((level : ℕ) → 0 < m.scale level) → ((level : ℕ) → 0 < n.scale level) → ((level : ℕ) → pos (m.scale level) *ℤ n.times level l.name ≡ pos (n.scale level) *ℤ m.times level l.name) → ((level : ℕ) → pos l.scale *ℤ f level ≡ column n side l level) → IsLexNonnegative (column m side l) → IsLexNonnegative f
up-line m n side l f above ms ns e same lex =
    lex_alike (λ _. l.scale) (λ _. 1) (column n side l) f (λ _. above) (λ _. omega arith) (λ k. same k ∙ (let h : column n side l k ≡ pos 1 *ℤ column n side l k = omega (arith, ints) in h))
    (lex_alike m.scale n.scale (column m side l) (column n side l) ms ns (λ k. column-alike m n side l k (e k)) lex)

-- where no column is negative, no reduced cost is
pub columns-AreUp : (p : Problem) (at : List Mark) (scale : ℕ → ℕ) (times : ℕ → RowName → ℤ) (reduced : ℕ → ℕ → ℤ) → IsWhole p → HasRays p at → AreLevelSums p at scale times reduced → NoNegativeColumn p at → AreUp p reduced
columns-AreUp p at scale times reduced whole rays sums (m, is, columns) side = λ i d within.
    up-line m (together scale times) side _ _ (whole-IsProblem p whole i d within).0 is.scales (λ level. (sums level).scale_positive)
    (λ level. multipliers_same p at m (together scale times) level whole rays is (sums-AreMultipliersAt p at scale times reduced sums) i d within)
    (columns-of p at scale times reduced sums side i d within) (columns side i d within)

pub AreUp-columns : (p : Problem) (at : List Mark) (scale : ℕ → ℕ) (times : ℕ → RowName → ℤ) (reduced : ℕ → ℕ → ℤ) → AreLevelSums p at scale times reduced → AreUp p reduced → NoNegativeColumn p at
AreUp-columns p at scale times reduced sums up = (
  together scale times,
  sums-AreMultipliersAt p at scale times reduced sums,
  λ side i d within. lex_same _ _ (columns-of p at scale times reduced sums side i d within) (lex_times _ _ (up side i d within)),
)

-- ---- one column after the exchange

entering-cancels : (r e : ℤ) (n : ℕ) → neg_ℤ e ≡ pos n → pos n *ℤ r ≡ neg_ℤ r *ℤ e
entering-cancels r e n is = ap (λ (z : ℤ). z *ℤ r) (sym is) ∙ neg-times e r ∙ ap neg_ℤ (*ℤ_comm e r) ∙ sym (neg-times r e)

down-same : (x r d e : ℤ) (n : ℕ) → neg_ℤ e ≡ pos n → d *ℤ r -ℤ e *ℤ x ≡ pos n *ℤ x -ℤ neg_ℤ r *ℤ d
down-same x r d e n is =
    let a : pos n *ℤ x ≡ neg_ℤ (e *ℤ x) = ap (λ (z : ℤ). z *ℤ x) (sym is) ∙ neg-times e x in
    omega (arith, ints, a, neg-times r d, *ℤ_comm r d)

up-same : (x r : ℤ) (n d : ℕ) → pos n *ℤ x +ℤ pos d *ℤ r ≡ pos n *ℤ x -ℤ neg_ℤ r *ℤ pos d
up-same x r n d = omega (arith, ints, neg-times r (pos d), *ℤ_comm r (pos d))

column-after : (x r : ℕ → ℤ) (d e : ℤ) (n : ℕ) → neg_ℤ e ≡ pos n → IsLexNonnegative x → IsLexNonnegative r → (d <ℤ pos 0 → IsLexNonnegative (λ k. d *ℤ r k -ℤ e *ℤ x k)) → IsLexNonnegative (λ k. pos n *ℤ x k -ℤ neg_ℤ (r k) *ℤ d)
column-after x r (pos d) e n is lx lr ratio = lex_same _ _ (λ k. up-same (x k) (r k) n d) (lex_plus (λ k. pos n *ℤ x k) (λ k. pos d *ℤ r k) (lex_times n x lx) (lex_times d r lr))
column-after x r (negsuc d) e n is lx lr ratio = lex_same _ _ (λ k. down-same (x k) (r k) (negsuc d) e n is) (ratio (omega (arith, ints)))

below-zero : (e : ℤ) → e <ℤ pos 0 → (n : ℕ) × (0 < n) × (neg_ℤ e ≡ pos n)
below-zero (pos e) low = absurd (omega (arith, ints, low))
below-zero (negsuc e) low = (suc e, omega arith, refl)

-- what holds of both sides of all lines holds of all marks
pub each_marks : (P : ℕ → Type 0) (ls : List Line) → Each (λ l. P (place_of l.name Under)) ls → Each (λ l. P (place_of l.name Over)) ls → Each (λ m. P (place m)) (marks_of ls)
each_marks P [] u o = tt
each_marks P (l ∷ ls) u o = (u.0, (o.0, each_marks P ls u.1 o.1))

AreUp-mark : (p : Problem) (reduced : ℕ → ℕ → ℤ) (c : ℕ) → AreUp p reduced → IsMarkAt p c → IsLexNonnegative (λ level. reduced level c)
AreUp-mark p reduced c up is =
    contains_each (λ v. IsLexNonnegative (λ level. reduced level v)) (marks_of (lines p)) c
    (each_marks (λ v. IsLexNonnegative (λ level. reduced level v)) (lines p) (recursion_from_All _ (lines p) (up Under)) (recursion_from_All _ (lines p) (up Over))) is

-- where the mark of the least ratio enters, no column is negative at the next corner
pub columns_stay : (p : Problem) (at : List Mark) (s : Swap) (scale : ℕ → ℕ) (times : ℕ → RowName → ℤ) (reduced : ℕ → ℕ → ℤ) (row : RowName → ℤ) (entry : ℕ → ℤ) → IsWhole p → HasRays p at → IsMarkAt p (place s.enter)
    → AreLevelSums p at scale times reduced → IsRowOf p at (place s.leave) row entry → NoNegativeColumn p at → IsLeastRatio p s entry reduced → NoNegativeColumn p (exchanged s at)
columns_stay p at s scale times reduced row entry whole rays mark sums is columns ratio =
    let n = below-zero (entry (place s.enter)) ratio.entering in
    let up = columns-AreUp p at scale times reduced whole rays sums columns in
    let own = AreUp-mark p reduced (place s.enter) up mark in
    AreUp-columns p (exchanged s at) (λ k. n.0 * scale k) (λ k. more n.0 (neg_ℤ (reduced k (place s.enter))) (times k) row) (λ k. less n.0 (neg_ℤ (reduced k (place s.enter))) (reduced k) entry)
    (λ k. exchanged_level p at s k (scale k) n.0 (neg_ℤ (reduced k (place s.enter))) (times k) row (reduced k) entry (sums k) is n.1 (entering-cancels (reduced k (place s.enter)) (entry (place s.enter)) n.0 n.2))
    (λ side i d within. column-after _ (λ k. reduced k (place s.enter)) _ (entry (place s.enter)) n.0 n.2 (up side i d within) own (ratio.least side i d within))
