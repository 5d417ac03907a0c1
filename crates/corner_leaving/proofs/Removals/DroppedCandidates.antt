-- A mark whose column is negative once a row is taken out had a negative column before, where the row's inside mark costs nothing or the
-- mark's line doesn't stand in the row.
use Rattle.std.proofs.Common.{◌≡◌, ◌≢◌, ◌∙◌, ◌⊎◌, inl, inr, ℕ, zero, suc, ◌*◌, ◌<◌, ◌++◌, Bool, true, false, cond, nat_eq, List, [], ◌∷◌, map, filter, refl, sym, ap, subst, arith, ℤ, pos, neg_ℤ, ◌+ℤ◌, ◌-ℤ◌, ◌*ℤ◌, ◌<ℤ◌, eq-eqb, ne_eqb, All, Any}
use Rattle.std.specs.List.{AllByRecursion as Each}
use Rattle.std.proofs.lemmas.Bool.{cases_eq}
use Rattle.std.proofs.lemmas.List.Elements.{All-from_recursion, recursion_from_All}
use borrow.Author.Differences.{ints}
use Rattle.frac_core.proofs.Integers.{mul-zero_ℤ, zero-mul_ℤ}
use Rattle.problem_core.specs.declared.parts.Mark.{Mark}
use Rattle.problem_core.specs.declared.parts.RowName.{RowName}
use Rattle.problem_core.specs.declared.parts.RowName.TheVariants.{Held}
use Rattle.problem_core.specs.declared.parts.Side.{Side}
use Rattle.problem_core.specs.declared.parts.Side.TheVariants.{Under, Over}
use Rattle.problem_core.specs.Changes.Begins.{without_marks}
use Rattle.problem_core.specs.Layout.{Line, Problem, Row, line_of_row, lines, stay_lines, sum_of}
use Rattle.problem_core.specs.Layout as layout
use Rattle.problem_core.specs.Certificates.{Multipliers, over_weight, under_weight, weight_at}
use Rattle.problem_core.specs.Corners.{AreMultipliersAt, HasNegativeColumn, IsIn, IsLexNegative, column, place, place_of}
use Rattle.problem_core.proofs.Forms.{each-both, each-impl}
use Rattle.corner_lines.specs.Levels.LevelRows.{IsPivot}
use Rattle.corner_lines.specs.Removals.{without_row}
use Rattle.corner_lines.proofs.LevelRows.LevelExchanges.{by-sides}
use Rattle.corner_lines.proofs.Lines.LineSums.{both-cancel}
use Rattle.corner_lines.proofs.Lines.MarkForms.{same-name}
use Rattle.corner_joins.specs.Additions.JoinedLists.{IsFreeRow}
use Rattle.corner_table.specs.Reads.LevelNumbers.{side_share}
use Rattle.corner_exchange.proofs.Swaps.ColumnReturns.{factor_of, leaving-column, negative-line, returned, unmoved-column}
use Rattle.corner_leaving.proofs.Removals.DroppedLevels.{lines_back, sum_without}
use Rattle.corner_leaving.proofs.Removals.LeftLists.{in_left}
use Rattle.problem_core.proofs.Corners.Conflicts.{sum-each}
use Rattle.corner_exchange.proofs.Swaps.ColumnReturns.{free-side}
use Rattle.corner_lines.proofs.ProblemChanges.Dropped.{other_row, left-far as left_far}
use Rattle.frac_core.proofs.Numbers.{product-above as above-both, no-product as times-none}
use Rattle.corner_leaving.proofs.Attributes.DroppedAttrCandidates.{some-later as any-later}
use Rattle.problem_core.proofs.Lines.{name-cases}

-- the multipliers with 0 at the row
abbrev but : ℕ → Multipliers → Multipliers
but id m = record {
  scale = m.scale;
  times = λ level name. cond (nat_eq (place_of name Under) (place_of (Held id) Under)) (pos 0) (m.times level name);
}

but-none : (id : ℕ) (m : Multipliers) (level : ℕ) → (but id m).times level (Held id) ≡ pos 0
but-none id m level = ap (λ (b : Bool). cond b (pos 0) (m.times level (Held id))) (eq-eqb (place_of (Held id) Under) (place_of (Held id) Under) refl)

but-other : (id : ℕ) (m : Multipliers) (level : ℕ) (name : RowName) → name ≢ Held id → (but id m).times level name ≡ m.times level name
but-other id m level name ne = ap (λ (b : Bool). cond b (pos 0) (m.times level name)) (ne_eqb (place_of name Under) (place_of (Held id) Under) (λ e. ne (same-name name (Held id) Under Under e)))

column-other : (id : ℕ) (m : Multipliers) (side : Side) (l : Line) (level : ℕ) → l.name ≢ Held id → column (but id m) side l level ≡ column m side l level
column-other id m Under l level ne = ap (λ (z : ℤ). pos (m.scale level * under_weight l.rel (weight_at l level)) -ℤ pos l.scale *ℤ z) (but-other id m level l.name ne)
column-other id m Over l level ne = ap (λ (z : ℤ). pos (m.scale level * over_weight l.rel (weight_at l level)) +ℤ pos l.scale *ℤ z) (but-other id m level l.name ne)

-- ---- the row's own mark

less-none : (n : ℕ) (z : ℤ) → n ≡ 0 → z ≡ pos 0 → pos n -ℤ z ≡ pos 0
less-none n z e h = omega (arith, ints, e, h)

more-none : (n : ℕ) (z : ℤ) → n ≡ 0 → z ≡ pos 0 → pos n +ℤ z ≡ pos 0
more-none n z e h = omega (arith, ints, e, h)

own-free : (id : ℕ) (m : Multipliers) (side : Side) (l : Line) (level : ℕ) → l.name ≡ Held id → side_share l.rel side 1 ≡ 0 → column (but id m) side l level ≡ pos 0
own-free id m Under l level e free =
    less-none (m.scale level * under_weight l.rel (weight_at l level)) (pos l.scale *ℤ (but id m).times level l.name) (times-none (m.scale level) (under_weight l.rel (weight_at l level)) (free-side l.rel Under (weight_at l level) free))
    (ap (λ (n : RowName). pos l.scale *ℤ (but id m).times level n) e ∙ ap (λ (z : ℤ). pos l.scale *ℤ z) (but-none id m level) ∙ mul-zero_ℤ (pos l.scale))
own-free id m Over l level e free =
    more-none (m.scale level * over_weight l.rel (weight_at l level)) (pos l.scale *ℤ (but id m).times level l.name) (times-none (m.scale level) (over_weight l.rel (weight_at l level)) (free-side l.rel Over (weight_at l level) free))
    (ap (λ (n : RowName). pos l.scale *ℤ (but id m).times level n) e ∙ ap (λ (z : ℤ). pos l.scale *ℤ z) (but-none id m level) ∙ mul-zero_ℤ (pos l.scale))

-- ---- the multipliers with the row, but for its own column

record IsNearly (p : Problem) (at : List Mark) (id : ℕ) (m : Multipliers) : Type 0 where
  scales : (level : ℕ) → 0 < m.scale level
  cancel : (level v : ℕ) → sum_of (λ l. m.times level l.name *ℤ layout.coefficient v l.form) (lines p) ≡ pos 0
  inside_zero : (side : Side) → All (λ l. l.name ≢ Held id → IsIn (place_of l.name side) at → (level : ℕ) → column m side l level ≡ pos 0) (lines p)

row-absurd : (P : Row → Type 0) (id : ℕ) (rows : List Row) → Each (λ (r : Row). r.id ≡ id → Held r.id ≢ Held id → P r) rows
row-absurd P id [] = tt
row-absurd P id (r ∷ rows) = ((λ e ne. absurd (ne (ap Held e))), row-absurd P id rows)

row-sum : (F : RowName → ℤ) (v id : ℕ) (rows : List Row) → F (Held id) ≡ pos 0 → Each (λ (r : Row). r.id ≡ id → F (Held r.id) *ℤ layout.coefficient v r.terms ≡ pos 0) rows
row-sum F v id [] none = tt
row-sum F v id (r ∷ rows) none = ((λ e. ap (λ (n : ℕ). F (Held n) *ℤ layout.coefficient v r.terms) e ∙ ap (λ (z : ℤ). z *ℤ layout.coefficient v r.terms) none ∙ zero-mul_ℤ (layout.coefficient v r.terms)), row-sum F v id rows none)

nearly : (p : Problem) (at : List Mark) (id : ℕ) (m : Multipliers) → AreMultipliersAt (without_row id p) (without_marks (id ∷ []) at) m → IsNearly p at id (but id m)
nearly p at id m are = record {
  scales = are.scales;
  cancel = λ level v.
      sum_without (λ l. (but id m).times level l.name *ℤ layout.coefficient v l.form) id p.rows (stay_lines 1001 p.stays) (row-sum ((but id m).times level) v id p.rows (but-none id m level))
      ∙ sum-each (λ l. (but id m).times level l.name *ℤ layout.coefficient v l.form) (λ l. m.times level l.name *ℤ layout.coefficient v l.form) (lines (without_row id p))
      (each-impl (λ l. l.name ≢ Held id) _ (lines (without_row id p)) (λ l ne. ap (λ (z : ℤ). z *ℤ layout.coefficient v l.form) (but-other id m level l.name ne)) (left_far p id))
      ∙ are.cancel level v;
  inside_zero = λ side.
      All-from_recursion (λ l. l.name ≢ Held id → IsIn (place_of l.name side) at → (level : ℕ) → column (but id m) side l level ≡ pos 0) (lines p)
      (lines_back (λ l. l.name ≢ Held id → IsIn (place_of l.name side) at → (level : ℕ) → column (but id m) side l level ≡ pos 0) id p.rows (stay_lines 1001 p.stays)
      (row-absurd (λ r. IsIn (place_of (Held r.id) side) at → (level : ℕ) → column (but id m) side (line_of_row r) level ≡ pos 0) id p.rows)
      (each-impl (λ l. IsIn (place_of l.name side) (without_marks (id ∷ []) at) → (level : ℕ) → column m side l level ≡ pos 0) _ (lines (without_row id p))
      (λ l h ne i level. column-other id m side l level ne ∙ h (in_left id l.name side at ne i) level)
      (recursion_from_All _ (lines (without_row id p)) (are.inside_zero side))));
}

abbrev IsLow : Problem → Mark → Multipliers → Type 0
IsLow p mark m = Any (λ l. (place_of l.name mark.side ≡ place mark) × IsLexNegative (column m mark.side l)) (lines p)

any-each : (P Q : Line → Type 0) (ls : List Line) → Each (λ l. P l → Q l) ls → Any P ls → Any Q ls
any-each P Q [] f (k, x, lt, e, h) = absurd (omega (arith, lt))
any-each P Q (l ∷ ls) f (zero, x, lt, e, h) = (0, l, omega arith, refl, f.0 (subst P (sym e) h))
any-each P Q (l ∷ ls) f (suc k, x, lt, e, h) = let i = any-each P Q ls f.1 (k, x, omega (arith, lt), e, h) in (suc i.0, i.1, omega (arith, i.2), i.3, i.4)

any-first : (P Q : Line → Type 0) (l : Line) (ls ms : List Line) → (P l → Q l) → (Any P ls → Any Q ms) → Any P (l ∷ ls) → Any Q (l ∷ ms)
any-first P Q l ls ms f g (zero, x, lt, e, h) = (0, l, omega arith, refl, f (subst P (sym e) h))
any-first P Q l ls ms f g (suc k, x, lt, e, h) = any-later Q l ms (g (k, x, omega (arith, lt), e, h))

any-back : (P Q : Line → Type 0) (id : ℕ) (rows : List Row) (ls : List Line) → Each (λ l. P l → Q l) (map line_of_row (filter (other_row id) rows) ++ ls) → Any P (map line_of_row (filter (other_row id) rows) ++ ls) → Any Q (map line_of_row rows ++ ls)
any-back P Q id [] ls f h = any-each P Q ls f h
any-back P Q id (r ∷ rows) ls f h = elim (cases_eq r.id id) [
  | inl e ↦
      let same : filter (other_row id) (r ∷ rows) ≡ filter (other_row id) rows = ap (λ (b : Bool). cond (cond b false true) (r ∷ filter (other_row id) rows) (filter (other_row id) rows)) (eq-eqb r.id id e) in
      any-later Q (line_of_row r) (map line_of_row rows ++ ls)
      (any-back P Q id rows ls (subst (λ (rs : List Row). Each (λ l. P l → Q l) (map line_of_row rs ++ ls)) same f) (subst (λ (rs : List Row). Any P (map line_of_row rs ++ ls)) same h))
  | inr n ↦
      let same : filter (other_row id) (r ∷ rows) ≡ r ∷ filter (other_row id) rows = ap (λ (b : Bool). cond (cond b false true) (r ∷ filter (other_row id) rows) (filter (other_row id) rows)) (ne_eqb r.id id n) in
      let g : Each (λ l. P l → Q l) (map line_of_row (r ∷ filter (other_row id) rows) ++ ls) = subst (λ (rs : List Row). Each (λ l. P l → Q l) (map line_of_row rs ++ ls)) same f in
      any-first P Q (line_of_row r) (map line_of_row (filter (other_row id) rows) ++ ls) (map line_of_row rows ++ ls) g.0 (any-back P Q id rows ls g.1) (subst (λ (rs : List Row). Any P (map line_of_row rs ++ ls)) same h)
]

lex-same : (f g : ℕ → ℤ) → ((level : ℕ) → g level ≡ f level) → IsLexNegative f → IsLexNegative g
lex-same f g same (level, zeros, low) = (level, λ k less. same k ∙ zeros k less, subst (λ (z : ℤ). z <ℤ pos 0) (sym (same level)) low)

still-low : (p : Problem) (id : ℕ) (mark : Mark) (m : Multipliers) → IsLow (without_row id p) mark m → IsLow p mark (but id m)
still-low p id mark m low =
    any-back (λ l. (place_of l.name mark.side ≡ place mark) × IsLexNegative (column m mark.side l)) (λ l. (place_of l.name mark.side ≡ place mark) × IsLexNegative (column (but id m) mark.side l)) id p.rows (stay_lines 1001 p.stays)
    (each-impl (λ l. l.name ≢ Held id) _ (lines (without_row id p)) (λ l ne h. (h.0, lex-same (column m mark.side l) (column (but id m) mark.side l) (λ level. column-other id m mark.side l level ne) h.1)) (left_far p id)) low

-- ---- where the row costs nothing

both-lines : (P : Line → Type 0) (name : RowName) (ls : List Line) → Each (λ l. l.name ≢ name → P l) ls → Each (λ l. l.name ≡ name → P l) ls → Each P ls
both-lines P name [] f g = tt
both-lines P name (l ∷ ls) f g = (
  elim (name-cases l.name name) [
    | inl e ↦ g.0 e
    | inr ne ↦ f.0 ne
  ],
  both-lines P name ls f.1 g.1,
)

-- what holds of the row holds of each line with its name
own-lines : (P : Line → Type 0) (r : Row) (p : Problem) → Each (λ (s : Row). s.id ≡ r.id → s ≡ r) p.rows → P (line_of_row r) → Each (λ l. l.name ≡ Held r.id → P l) (lines p)
own-lines P r p only here =
    lines_back (λ l. l.name ≡ Held r.id → P l) r.id p.rows (stay_lines 1001 p.stays)
    (each-impl (λ (s : Row). s.id ≡ r.id → s ≡ r) _ p.rows (λ s f e q. subst (λ (x : Row). P (line_of_row x)) (sym (f e)) here) only)
    (each-impl (λ l. l.name ≢ Held r.id) _ (lines (without_row r.id p)) (λ l ne e. absurd (ne e)) (left_far p r.id))

free-multipliers : (p : Problem) (at : List Mark) (r : Row) (m : Multipliers) → Each (λ (s : Row). s.id ≡ r.id → s ≡ r) p.rows → IsFreeRow at r → IsNearly p at r.id (but r.id m) → AreMultipliersAt p at (but r.id m)
free-multipliers p at r m only free is = record {
  scales = is.scales;
  cancel = is.cancel;
  inside_zero = λ side.
      All-from_recursion (λ l. IsIn (place_of l.name side) at → (level : ℕ) → column (but r.id m) side l level ≡ pos 0) (lines p)
      (both-lines (λ l. IsIn (place_of l.name side) at → (level : ℕ) → column (but r.id m) side l level ≡ pos 0) (Held r.id) (lines p) (recursion_from_All _ (lines p) (is.inside_zero side))
      (own-lines (λ l. IsIn (place_of l.name side) at → (level : ℕ) → column (but r.id m) side l level ≡ pos 0) r p only (λ i level. own-free r.id m side (line_of_row r) level refl (free side i))));
}

-- ---- where the mark's line doesn't stand in the row

size-is : (own : ℕ) (z : ℤ) → z ≡ neg_ℤ (pos own) → pos own ≡ pos 1 *ℤ neg_ℤ z
size-is own z e = omega (arith, ints, e)

same-side : (side to : Side) (P : Side → Type 0) → to ≡ side → P side → P to
same-side side to P e h = subst P (sym e) h

moved-multipliers : (p : Problem) (at : List Mark) (r : Row) (side : Side) (own : ℕ) (by : RowName → ℤ) (m : Multipliers) → 0 < r.scale → Each (λ (s : Row). s.id ≡ r.id → s ≡ r) p.rows
    → ((o : Side) → IsIn (place_of (Held r.id) o) at → o ≡ side) → IsPivot p at (Held r.id) (Held r.id) own by → IsNearly p at r.id m
    → AreMultipliersAt p at (returned (r.scale * own) (factor_of side Over (line_of_row r) m) by m)
moved-multipliers p at r side own by m scale only no_other pivot is = record {
  scales = λ level. above-both (r.scale * own) (m.scale level) (above-both r.scale own scale pivot.size_positive) (is.scales level);
  cancel = λ level. both-cancel p (pos (r.scale * own)) (factor_of side Over (line_of_row r) m level) (m.times level) by (is.cancel level) pivot.cancel;
  inside_zero = λ to.
      All-from_recursion (λ l. IsIn (place_of l.name to) at → (level : ℕ) → column n to l level ≡ pos 0) (lines p)
      (both-lines (λ l. IsIn (place_of l.name to) at → (level : ℕ) → column n to l level ≡ pos 0) (Held r.id) (lines p)
      (each-impl (λ l. (IsIn (place_of l.name to) at → l.name ≢ Held r.id → by l.name ≡ pos 0) × (l.name ≢ Held r.id → IsIn (place_of l.name to) at → (level : ℕ) → column m to l level ≡ pos 0)) _ (lines p)
      (λ l h ne i level. unmoved-column (r.scale * own) (factor_of side Over (line_of_row r) m) by m to l level (h.0 i ne) ∙ ap (λ (z : ℤ). pos (r.scale * own) *ℤ z) (h.1 ne i level) ∙ mul-zero_ℤ (pos (r.scale * own)))
      (each-both _ _ (lines p) (recursion_from_All _ (lines p) (pivot.inside_zero to)) (recursion_from_All _ (lines p) (is.inside_zero to))))
      (own-lines (λ l. IsIn (place_of l.name to) at → (level : ℕ) → column n to l level ≡ pos 0) r p only
      (λ i level. same-side side to (λ s. column n s (line_of_row r) level ≡ pos 0) (no_other to i) (leaving-column side Over own by m (line_of_row r) level (size-is own (by (Held r.id)) pivot.enter_is)))));
}
  where
    n : Multipliers
    n = returned (r.scale * own) (factor_of side Over (line_of_row r) m) by m

any-same : (P Q : Line → Type 0) (ls : List Line) → ((l : Line) → P l → Q l) → Any P ls → Any Q ls
any-same P Q ls f (k, x, lt, e, h) = (k, x, lt, e, f x h)

pub left_negative : (p : Problem) (at : List Mark) (r : Row) (side : Side) (own : ℕ) (by : RowName → ℤ) (mark : Mark) → 0 < r.scale → Each (λ (s : Row). s.id ≡ r.id → s ≡ r) p.rows
    → ((o : Side) → IsIn (place_of (Held r.id) o) at → o ≡ side) → IsPivot p at (Held r.id) (Held r.id) own by → IsFreeRow at r ⊎ (by mark.row ≡ pos 0)
    → HasNegativeColumn (without_row r.id p) (without_marks (r.id ∷ []) at) mark → HasNegativeColumn p at mark
left_negative p at r side own by mark scale only no_other pivot (inl free) (m, are, low) =
    (but r.id m, free-multipliers p at r m only free (nearly p at r.id m are), still-low p r.id mark m low)
left_negative p at r side own by mark scale only no_other pivot (inr none) (m, are, low) =
    let k : Multipliers = but r.id m in (
      returned (r.scale * own) (factor_of side Over (line_of_row r) k) by k,
      moved-multipliers p at r side own by k scale only no_other pivot (nearly p at r.id m are),
      any-same (λ l. (place_of l.name mark.side ≡ place mark) × IsLexNegative (column k mark.side l))
          (λ l. (place_of l.name mark.side ≡ place mark) × IsLexNegative (column (returned (r.scale * own) (factor_of side Over (line_of_row r) k) by k) mark.side l)) (lines p)
          (λ l h. (h.0, negative-line (r.scale * own) (factor_of side Over (line_of_row r) k) by k mark.side l (above-both r.scale own scale pivot.size_positive) (ap by (by-sides l.name mark.row mark.side mark.side h.0).0 ∙ none) h.1))
          (still-low p r.id mark m low),
    )
