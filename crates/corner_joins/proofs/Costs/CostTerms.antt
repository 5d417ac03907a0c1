-- The rows that the code makes as rows of the level.
use Rattle.std.proofs.Common.{◌≡◌, ◌≢◌, ◌∙◌, ℕ, zero, suc, ◌+◌, ◌*◌, ◌<◌, ◌≤◌, Bool, cond, nat_eq, List, [], refl, sym, ap, ap₂, subst, arith, inl, inr, ◌⊎◌, ℤ, pos, neg_ℤ, ◌+ℤ◌, ◌*ℤ◌, ◌<ℤ◌, unsigned_abs, All, Any, eq-eqb, ne_eqb, get_or}
use Rattle.std.specs.Int.{◌∣◌}
use Rattle.std.proofs.lemmas.Bool.{cases_eq}
use Rattle.std.proofs.lemmas.Nat.Gcd.{dvd-zero}
use borrow.Author.Differences.{ints}
use Rattle.frac_core.proofs.Integers.{diff-add, diff-mul, diff-neg, diff-pos, diff_eq, mul-zero_ℤ, mul_assoc_ℤ, mul_left_comm_ℤ, neg-pos, on_3, sign_cases, zero_from_mul}
use Rattle.row_core.specs.Rows.{Term, coefficient}
use Rattle.problem_core.specs.declared.parts.Side.{Side}
use Rattle.problem_core.specs.declared.parts.RowName.{RowName}
use Rattle.problem_core.specs.declared.parts.RowName.TheVariants.{Held}
use Rattle.problem_core.specs.Layout.{Line, Problem, Row, line_of_row, lines}
use Rattle.problem_core.specs.Corners.{IsIn, place_of}
use Rattle.problem_core.specs.declared.parts.Side.TheVariants.{Under, Over}
use Rattle.corner_lines.specs.LineEquations.{AreReduced, IsOutsideLine}
use Rattle.corner_lines.specs.Levels.LevelRows.{HasLevelRow, IsDividedRow, inside_number, line_numbers}
use Rattle.corner_lines.proofs.Costs.LevelFits.{divided}
use Rattle.corner_table.specs.declared.table.TheConstants.{LEVELS}
use Rattle.corner_table.specs.Tables.{Lists, entry, line_slot, marks_at, number, priority_at, problem_of}
use Rattle.corner_table.specs.Kept.{IsSlot, level_own}
use Rattle.corner_table.specs.Kept.{IsOutsideSlot}
use Rattle.corner_joins.specs.Additions.Parts.{IsPartlyKept}
use Rattle.corner_joins.specs.Additions.CostJoins.{IsShare, shared_whole, with_next}
use Rattle.corner_table.proofs.Readings.SlotFacts.{named_slot}
use Rattle.corner_exchange.proofs.Basics.RowEquations.{AreTermsOf}
use Rattle.corner_table.proofs.Basics.OwnerFacts.{line-owned}
use Rattle.corner_writings.proofs.LevelFacts.LevelRowFacts.{out_line}
use Rattle.corner_table.proofs.Readings.WritingFacts.{lines_apart, number_is}
use Rattle.corner_table.proofs.Basics.SmallFacts.{own_name}
use Rattle.corner_writings.proofs.Basics.SmallFacts.{zero_unless}
use Rattle.corner_joins.proofs.Costs.CostLines.{IsNextAt, first_names, next_equation, next_home, next_in, next_named, whole_names}
use Rattle.corner_joins.proofs.Costs.CostJoins.{IsCostJoin, below_levels, joined_row, joined_sum, part_of, size_of}
use Rattle.corner_lines.proofs.LevelRows.OtherNumbers.{other-number}
use Rattle.frac_core.proofs.Numbers.{mul-neg}

ruleset ring = (diff-add, diff-mul, diff-neg, diff-pos, neg-pos)

-- ---- the columns of the row with the line's share

-- the row of the level's cost, and that of nothing where it has no row
pub record IsCostRow (t : Lists) (l : ℕ) (old : List Term) : Type 0 where
  pub own : coefficient l old ≡ level_own t l
  pub others : (c : ℕ) → c ≢ l → coefficient c old ≡ entry t l c

line-high : (t : Lists) (r : Row) (line : ℕ) (side : Side) → IsNextAt t r line side → IsSlot t line
line-high t r line side n = subst (IsSlot t) n.slot_is (named_slot t (Held r.id) n.kept.slots (next_named t r line side n))

level-apart : (t : Lists) (r : Row) (line : ℕ) (side : Side) (l times : ℕ) → IsCostJoin t r line side l times → l ≢ line
level-apart t r line side l times j e = let a = below_levels l r j.level in let b = (line-high t r line side j.next).0 in omega (arith, a, b, e)

not-level : (l : ℕ) → l < LEVELS → LEVELS ≤ l → ⊥
not-level l a b = omega (arith, a, b)

-- nothing of the level stands in the line's row
no-level : (t : Lists) (r : Row) (line : ℕ) (side : Side) (l times : ℕ) → IsCostJoin t r line side l times → entry t line l ≡ pos 0
no-level t r line side l times j = zero_unless (entry t line l) (λ some. not-level l (below_levels l r j.level) (j.next.kept.outside line l some (level-apart t r line side l times j)).0.0)

pub size-is : (t : Lists) (r : Row) (line : ℕ) (side : Side) → (n : IsNextAt t r line side) → entry t line line ≡ pos (size_of t r line side n)
size-is t r line side n = (next_equation t r line side n).1

pub size-above : (t : Lists) (r : Row) (line : ℕ) (side : Side) → (n : IsNextAt t r line side) → 0 < size_of t r line side n
size-above t r line side n = (next_equation t r line side n).2.own_positive

whole-off : (t : Lists) (old : List Term) (line : ℕ) (times : ℤ) (k : ℕ) (n : ℤ) (c : ℕ) → c ≢ line → shared_whole t old line times k n c ≡ (pos k *ℤ times) *ℤ coefficient c old +ℤ n *ℤ entry t line c
whole-off t old line times k n c ne = ap (λ (b : Bool). cond b (pos 0) ((pos k *ℤ times) *ℤ coefficient c old +ℤ n *ℤ entry t line c)) (ne_eqb c line ne)

whole-on : (t : Lists) (old : List Term) (line : ℕ) (times : ℤ) (k : ℕ) (n : ℤ) (c : ℕ) → c ≡ line → shared_whole t old line times k n c ≡ pos 0
whole-on t old line times k n c e = ap (λ (b : Bool). cond b (pos 0) ((pos k *ℤ times) *ℤ coefficient c old +ℤ n *ℤ entry t line c)) (eq-eqb c line e)

three : (k times own : ℕ) (n e : ℤ) → e ≡ pos 0 → (pos k *ℤ pos times) *ℤ pos own +ℤ n *ℤ e ≡ pos (k * times * own)
three k times own n e h = ap (λ (z : ℤ). (pos k *ℤ pos times) *ℤ pos own +ℤ n *ℤ z) h ∙ ap (λ (z : ℤ). (pos k *ℤ pos times) *ℤ pos own +ℤ z) (mul-zero_ℤ n) ∙ plain (pos (k * times * own))
  where
    plain : (z : ℤ) → z +ℤ pos 0 ≡ z
    plain z = omega (arith, ints)

pub whole_own : (t : Lists) (r : Row) (line : ℕ) (side : Side) (l times k : ℕ) (n : ℤ) (old : List Term) → (j : IsCostJoin t r line side l times) → IsCostRow t l old
    → shared_whole t old line (pos times) k n l ≡ pos (k * times * (part_of t r line side l times j).own)
whole_own t r line side l times k n old j row =
    whole-off t old line (pos times) k n l (level-apart t r line side l times j)
    ∙ ap (λ (z : ℤ). (pos k *ℤ pos times) *ℤ z +ℤ n *ℤ entry t line l) (row.own ∙ (part_of t r line side l times j).own_is)
    ∙ three k times (part_of t r line side l times j).own n (entry t line l) (no-level t r line side l times j)

-- outside lines alone stand in it
pub whole_outside : (t : Lists) (r : Row) (line : ℕ) (side : Side) (l times k : ℕ) (n : ℤ) (old : List Term) → IsCostJoin t r line side l times → IsCostRow t l old
    → (c : ℕ) → shared_whole t old line (pos times) k n c ≢ pos 0 → c ≢ l → IsOutsideSlot t c
whole_outside t r line side l times k n old j row c some ne =
    elim (cases_eq c line) [
      | inl e ↦ absurd (some (whole-on t old line (pos times) k n c e))
      | inr off ↦ elim (sign_cases (entry t l c)) [
        | inr signed ↦ j.next.kept.outside l c (nonzero (entry t l c) signed) ne
        | inl none ↦ elim (sign_cases (entry t line c)) [
          | inr signed ↦ j.next.kept.outside line c (nonzero (entry t line c) signed) off
          | inl nothing ↦ absurd (some (whole-off t old line (pos times) k n c off ∙ both (pos k *ℤ pos times) n (coefficient c old) (entry t line c) (row.others c ne ∙ none) nothing))
        ]
      ]
    ]
  where
    nonzero : (z : ℤ) → (pos 0 <ℤ z) ⊎ (pos 0 <ℤ neg_ℤ z) → z ≢ pos 0
    nonzero z (inl up) e = omega (arith, ints, up, e)
    nonzero z (inr down) e = omega (arith, ints, down, e)

    both : (a n x y : ℤ) → x ≡ pos 0 → y ≡ pos 0 → a *ℤ x +ℤ n *ℤ y ≡ pos 0
    both a n x y e f = ap₂ (λ (u v : ℤ). a *ℤ u +ℤ n *ℤ v) e f ∙ ap₂ (λ (u v : ℤ). u +ℤ v) (mul-zero_ℤ a) (mul-zero_ℤ n)

-- ---- numbers by name

-- the numbers of the lines in such a whole
abbrev pub by_slot : Lists → ℕ → (ℕ → ℤ) → RowName → ℤ
by_slot t l whole name = cond (nat_eq (line_slot t name) l) (pos 0) (neg_ℤ (whole (line_slot t name)))

slot-high : (t : Lists) (l : ℕ) (name : RowName) → IsPartlyKept t → l < LEVELS → Any (λ m. m.name ≡ name) (lines (problem_of t)) → line_slot t name ≢ l
slot-high t l name kept lt named e = let h = (named_slot t name kept.slots named).0 in omega (arith, h, lt, e)

by-off : (t : Lists) (l : ℕ) (whole : ℕ → ℤ) (name : RowName) → line_slot t name ≢ l → by_slot t l whole name ≡ neg_ℤ (whole (line_slot t name))
by-off t l whole name ne = ap (λ (b : Bool). cond b (pos 0) (neg_ℤ (whole (line_slot t name)))) (ne_eqb (line_slot t name) l ne)

-- ---- sums in lowest terms

pub lowest_terms : (p : Problem) (own : ℕ) (by : RowName → ℤ) → 0 < own → (low : ℕ) × (part : RowName → ℤ) × AreReduced (lines p) own by low part
lowest_terms p own by above =
    let d = divided p [] own by above in (
      d.0,
      d.1,
      record {
        factor = d.2.factor;
        factor_positive = d.2.above;
        low_positive = low-above d.2.factor d.0 own d.2.own_is above;
        own_same = d.2.own_is;
        same = λ i x lt. d.2.same i x lt (nowhere (get_or (lines p) i x).name);
        lowest = λ k dk each. d.2.lowest k dk (λ i x lt out. each i x lt);
      },
    )
  where
    low-above : (f low own : ℕ) → f * low ≡ own → 0 < own → 0 < low
    low-above f zero own e h = absurd (omega (arith, e, h))
    low-above f (suc low) own e h = omega arith

    nowhere : (name : RowName) → IsOutsideLine [] name
    nowhere name = record { under = λ i. (let h = i.1 in omega (arith, h)); over = λ i. (let h = i.1 in omega (arith, h)) }

-- a sum of the level's numbers and the line's in lowest terms, some factor taken out before, is its row
pub divided_from : (t : Lists) (l own : ℕ) (sum by : RowName → ℤ) (s whole low : ℕ) (part : RowName → ℤ) → 0 < s → s * whole ≡ own
    → All (λ m. IsOutsideLine (marks_at t) m.name → pos s *ℤ by m.name ≡ sum m.name) (lines (problem_of t)) → All (λ m. by m.name ≢ pos 0 → IsOutsideLine (marks_at t) m.name) (lines (problem_of t))
    → AreReduced (lines (problem_of t)) whole by low part → IsDividedRow (with_next t l) (marks_at t) own sum low part
divided_from t l own sum by s whole low part up e same out red =
    let p : Problem = problem_of t in
    record {
      factor = s * red.factor;
      above = above-product s red.factor up red.factor_positive;
      own_is = regroup s red.factor low ∙ ap (λ (n : ℕ). s * n) red.own_same ∙ e;
      same = first_names (λ name. IsOutsideLine (marks_at t) name → pos (s * red.factor) *ℤ part name ≡ sum name) (problem_of t) l ((priority_at t l).rows + 1)
          (λ i x lt o. mul_assoc_ℤ (pos s) (pos red.factor) (part (get_or (lines (problem_of t)) i x).name) ∙ ap (λ (z : ℤ). pos s *ℤ z) (red.same i x lt) ∙ same i x lt o);
      lowest = λ k dk each.
          let named : All (λ m. IsOutsideLine (marks_at t) m.name → k ∣ unsigned_abs (part m.name)) (lines (problem_of t)) = whole_names (λ name. IsOutsideLine (marks_at t) name → k ∣ unsigned_abs (part name)) (problem_of t) l ((priority_at t l).rows + 1) each in
          red.lowest k dk (λ i x lt. divides-part k red.factor (part (get_or (lines (problem_of t)) i x).name) (by (get_or (lines (problem_of t)) i x).name) red.factor_positive (red.same i x lt) (λ some. named i x lt (out i x lt some)));
    }
  where
    above-product : (a b : ℕ) → 0 < a → 0 < b → 0 < a * b
    above-product zero b h k = absurd (omega (arith, h))
    above-product (suc a) b h k = omega (arith, k)

    regroup : (s f low : ℕ) → s * f * low ≡ s * (f * low)
    regroup s f low = omega arith

    divides-part : (k f : ℕ) (z y : ℤ) → 0 < f → pos f *ℤ z ≡ y → (y ≢ pos 0 → k ∣ unsigned_abs z) → k ∣ unsigned_abs z
    divides-part k f z y up e h =
        elim (sign_cases y) [
          | inl none ↦ elim (sign_cases z) [
            | inl null ↦ subst (λ (x : ℤ). k ∣ unsigned_abs x) (sym null) (dvd-zero k)
            | inr signed ↦ absurd (never f z up signed (e ∙ none))
          ]
          | inr signed ↦ h (nonzero y signed)
        ]
      where
        nonzero : (z : ℤ) → (pos 0 <ℤ z) ⊎ (pos 0 <ℤ neg_ℤ z) → z ≢ pos 0
        nonzero z (inl up) e = omega (arith, ints, up, e)
        nonzero z (inr down) e = omega (arith, ints, down, e)

        never : (f : ℕ) (z : ℤ) → 0 < f → (pos 0 <ℤ z) ⊎ (pos 0 <ℤ neg_ℤ z) → pos f *ℤ z ≡ pos 0 → ⊥
        never f z up s q = nonzero z s (zero_from_mul f z up q)

-- ---- each line's number

pub negated-sum : (a n x y : ℤ) → neg_ℤ (a *ℤ x +ℤ n *ℤ y) ≡ a *ℤ neg_ℤ x +ℤ n *ℤ neg_ℤ y
negated-sum a n x y = spread (a *ℤ x) (n *ℤ y) ∙ ap₂ (λ (u v : ℤ). u +ℤ v) (sym (mul-neg a x)) (sym (mul-neg n y))
  where
    spread : (x y : ℤ) → neg_ℤ (x +ℤ y) ≡ neg_ℤ x +ℤ neg_ℤ y
    spread x y = omega (arith, ints)

-- where it is an outside line's
line-sum : (t : Lists) (r : Row) (line : ℕ) (side : Side) (l times k : ℕ) (n : ℤ) (old : List Term) → (j : IsCostJoin t r line side l times) → IsCostRow t l old
    → (name : RowName) → Any (λ m. m.name ≡ name) (lines (problem_of t)) → IsOutsideLine (marks_at t) name → by_slot t l (shared_whole t old line (pos times) k n) name ≡ joined_sum t r line l (size_of t r line side j.next) times k n name
line-sum t r line side l times k n old j row name named out =
    let lt = below_levels l r j.level in
    let off = slot-high t l name j.next.kept lt named in
    let other : name ≢ Held r.id = λ e. not-inside side (subst (λ (m : RowName). IsOutsideLine (marks_at t) m) e out) (next_in t r line side j.next) in
    let apart : line_slot t name ≢ line = λ e. other (sym (lines_apart t (Held r.id) name j.next.kept.slots (next_named t r line side j.next) named (e ∙ sym j.next.slot_is))) in
    by-off t l (shared_whole t old line (pos times) k n) name off
    ∙ ap neg_ℤ (whole-off t old line (pos times) k n (line_slot t name) apart ∙ ap (λ (z : ℤ). (pos k *ℤ pos times) *ℤ z +ℤ n *ℤ entry t line (line_slot t name)) (row.others (line_slot t name) off))
    ∙ negated-sum (pos k *ℤ pos times) n (entry t l (line_slot t name)) (entry t line (line_slot t name))
    ∙ ap₂ (λ (u v : ℤ). (pos k *ℤ pos times) *ℤ u +ℤ n *ℤ v) (sym (number_is t l name off))
    (sym (number_is t line name apart) ∙ sym (other-number (Held r.id) (size_of t r line side j.next) (number t line) name other))
  where
    not-inside : (side : Side) → IsOutsideLine (marks_at t) (Held r.id) → IsIn (place_of (Held r.id) side) (marks_at t) → ⊥
    not-inside Under out i = out.under i
    not-inside Over out i = out.over i

-- ---- a whole that is the row's up to factors, but for its own number

pub record IsStage (l : ℕ) (w u : ℕ → ℤ) (s k : ℕ) : Type 0 where
  pub above : 0 < s
  pub times : 0 < k
  pub off : (c : ℕ) → c ≢ l → pos s *ℤ u c ≡ pos k *ℤ w c

stage-some : (l : ℕ) (w u : ℕ → ℤ) (s k c : ℕ) → IsStage l w u s k → c ≢ l → u c ≢ pos 0 → w c ≢ pos 0
stage-some l w u s k c st ne some none = some (zero_from_mul s (u c) st.above (st.off c ne ∙ ap (λ (z : ℤ). pos k *ℤ z) none ∙ mul-zero_ℤ (pos k)))

pub stage_outside : (t : Lists) (r : Row) (line : ℕ) (side : Side) (l times k1 s k : ℕ) (n : ℤ) (old : List Term) (u : ℕ → ℤ) → IsCostJoin t r line side l times → IsCostRow t l old → IsStage l (shared_whole t old line (pos times) k1 n) u s k
    → (c : ℕ) → u c ≢ pos 0 → c ≢ l → IsOutsideSlot t c
stage_outside t r line side l times k1 s k n old u j row st c some ne = whole_outside t r line side l times k1 n old j row c (stage-some l (shared_whole t old line (pos times) k1 n) u s k c st ne some) ne

by-some : (t : Lists) (l : ℕ) (u : ℕ → ℤ) (name : RowName) → line_slot t name ≢ l → by_slot t l u name ≢ pos 0 → u (line_slot t name) ≢ pos 0
by-some t l u name off some none = some (by-off t l u name off ∙ ap neg_ℤ none)

pub stage_names : (t : Lists) (r : Row) (line : ℕ) (side : Side) (l times k1 s k : ℕ) (n : ℤ) (old : List Term) (u : ℕ → ℤ) → IsCostJoin t r line side l times → IsCostRow t l old → IsStage l (shared_whole t old line (pos times) k1 n) u s k
    → All (λ m. by_slot t l u m.name ≢ pos 0 → IsOutsideLine (marks_at t) m.name) (lines (problem_of t))
stage_names t r line side l times k1 s k n old u j row st i x lt some =
    let name : RowName = (get_or (lines (problem_of t)) i x).name in
    let off = slot-high t l (get_or (lines (problem_of t)) i x).name j.next.kept (below_levels l r j.level) (own_name (lines (problem_of t)) i x lt) in
    out_line t (get_or (lines (problem_of t)) i x).name (stage_outside t r line side l times k1 s k n old u j row st (line_slot t (get_or (lines (problem_of t)) i x).name) (by-some t l u (get_or (lines (problem_of t)) i x).name off some) off).1

pub stage_terms : (t : Lists) (r : Row) (line : ℕ) (side : Side) (l times k1 s k own : ℕ) (n : ℤ) (old : List Term) (u : ℕ → ℤ) → IsCostJoin t r line side l times → IsCostRow t l old → IsStage l (shared_whole t old line (pos times) k1 n) u s k
    → u l ≡ pos own → AreTermsOf t l u own (by_slot t l u)
stage_terms t r line side l times k1 s k own n old u j row st e = record {
  own_is = e;
  by_is = λ i x lt. refl;
  columns = λ c some ne.
      let o = stage_outside t r line side l times k1 s k n old u j row st c some ne in
      (let owned = line-owned t c o.2.0 j.next.kept.slots o.2.1 in
      named-at c o.2.0 owned.0 owned.1);
}
  where
    named-at : (c : ℕ) (name : RowName) → Any (λ m. m.name ≡ name) (lines (problem_of t)) → line_slot t name ≡ c → Any (λ m. line_slot t m.name ≡ c) (lines (problem_of t))
    named-at c name h e = (h.0, h.1, h.2, h.3, ap (line_slot t) h.4 ∙ e)

scaled-sum : (k2 k1 times : ℕ) (n x y : ℤ) → pos k2 *ℤ (pos (k1 * times) *ℤ x +ℤ n *ℤ y) ≡ pos (k2 * k1 * times) *ℤ x +ℤ (pos k2 *ℤ n) *ℤ y
scaled-sum k2 k1 times = on_3 (λ n x y. pos k2 *ℤ (pos (k1 * times) *ℤ x +ℤ n *ℤ y) ≡ pos (k2 * k1 * times) *ℤ x +ℤ (pos k2 *ℤ n) *ℤ y) (λ a a' b b' c c'. simp ring (diff_eq _ _ _ _ (omega arith)))

scaled-factor : (k2 k1 : ℕ) (n s o c : ℤ) → n *ℤ s ≡ (o *ℤ c) *ℤ pos k1 → (pos k2 *ℤ n) *ℤ s ≡ (o *ℤ c) *ℤ pos (k2 * k1)
scaled-factor k2 k1 n s o c h = mul_assoc_ℤ (pos k2) n s ∙ ap (λ (z : ℤ). pos k2 *ℤ z) h ∙ mul_left_comm_ℤ (pos k2) (o *ℤ c) (pos k1)

pub stage_row : (t : Lists) (r : Row) (line : ℕ) (side : Side) (l times k1 s k own low : ℕ) (n c : ℤ) (old : List Term) (u : ℕ → ℤ) (part : RowName → ℤ) → (j : IsCostJoin t r line side l times) → IsCostRow t l old
    → c ≡ neg_ℤ (inside_number side l (times * (part_of t r line side l times j).unit) 1 (line_of_row r)) → IsShare t old line c k1 n
    → IsStage l (shared_whole t old line (pos times) k1 n) u s k → s * own ≡ k * k1 * (part_of t r line side l times j).own → AreReduced (lines (problem_of t)) own (by_slot t l u) low part
    → HasLevelRow (with_next t l) (marks_at t) l (times * (part_of t r line side l times j).unit) low part
stage_row t r line side l times k1 s k own low n c old u part j row counts share st same red =
    let kept = part_of t r line side l times j in
    let size : ℕ = size_of t r line side j.next in
    let w : ℕ → ℤ = shared_whole t old line (pos times) k1 n in
    joined_row t r line side l times (k * k1) low (pos k *ℤ n) c part j (above-product k k1 st.times share.above) counts
    (scaled-factor k k1 n (pos (size_of t r line side j.next)) (pos kept.own) c
    (ap (λ (z : ℤ). n *ℤ z) (sym (size-is t r line side j.next)) ∙ share.same ∙ ap (λ (z : ℤ). (z *ℤ c) *ℤ pos k1) (ap (λ (w : ℕ). coefficient w old) (next_home t r line side j.next ∙ sym j.level) ∙ row.own ∙ kept.own_is)))
    (divided_from t l (k * k1 * kept.own) (joined_sum t r line l (size_of t r line side j.next) times (k * k1) (pos k *ℤ n)) (by_slot t l u) s own low part st.above same
    (λ i x lt out.
    let m : Line = get_or (lines (problem_of t)) i x in
    let off = slot-high t l (get_or (lines (problem_of t)) i x).name j.next.kept (below_levels l r j.level) (own_name (lines (problem_of t)) i x lt) in
    ap (λ (z : ℤ). pos s *ℤ z) (by-off t l u (get_or (lines (problem_of t)) i x).name off) ∙ mul-neg (pos s) (u (line_slot t (get_or (lines (problem_of t)) i x).name))
    ∙ ap neg_ℤ (st.off (line_slot t (get_or (lines (problem_of t)) i x).name) off)
    ∙ sym (mul-neg (pos k) (shared_whole t old line (pos times) k1 n (line_slot t (get_or (lines (problem_of t)) i x).name)))
    ∙ ap (λ (z : ℤ). pos k *ℤ z) (sym (by-off t l (shared_whole t old line (pos times) k1 n) (get_or (lines (problem_of t)) i x).name off) ∙ line-sum t r line side l times k1 n old j row (get_or (lines (problem_of t)) i x).name (own_name (lines (problem_of t)) i x lt) out)
    ∙ scaled-sum k k1 times n (number t l (get_or (lines (problem_of t)) i x).name) (line_numbers (Held r.id) (size_of t r line side j.next) (number t line) (get_or (lines (problem_of t)) i x).name))
    (stage_names t r line side l times k1 s k n old u j row st) red)
  where
    above-product : (a b : ℕ) → 0 < a → 0 < b → 0 < a * b
    above-product zero b h k = absurd (omega (arith, h))
    above-product (suc a) b h k = omega (arith, k)
