-- Sums of a row's first terms at the slot that comes next.
use Rattle.std.proofs.Common.{◌≡◌, ◌≢◌, ◌∙◌, ◌⊎◌, ℕ, zero, suc, ◌+◌, ◌*◌, ◌<◌, ◌≤◌, Bool, true, false, cond, nat_eq, List, [], ◌∷◌, length, get_or, refl, sym, ap, ap₂, subst, arith, inl, inr, ℤ, pos, negsuc, neg_ℤ, ◌+ℤ◌, ◌-ℤ◌, ◌*ℤ◌, ◌<ℤ◌, ◌/◌, unsigned_abs, ne_eqb, eq-eqb, slice_index_or, All, Any, mul-pos}
use Rattle.std.proofs.lemmas.Bool.{cases_eq}
use Rattle.std.proofs.lemmas.List.Elements.{recursion_from_All}
use Rattle.std.specs.Int.{IsGcd}
use Rattle.std.proofs.Math.Nat.{mul-div_cancel'}
use borrow.Author.Differences.{ints}
use Rattle.frac_core.specs.Fraction.{Fraction, IsFitting, IsKept as IsKeptFraction, IsRatio, IsUnfitRatio, sum_den, sum_num}
use Rattle.frac_core.proofs.Integers.{add-zero_ℤ, cancel_mul, mul-add_left, mul-sub_left, mul_assoc_ℤ, mul_left_comm_ℤ, mul-zero_ℤ, zero_from_mul}
use Rattle.row_core.specs.Rows.{IsKeptRow, IsReduced, IsUnfit, Term, coefficient}
use Rattle.row_core.specs.Combinations.{combination_but}
use Rattle.row_core.specs.declared.entry.Factors.{Factors}
use Rattle.row_core.specs.declared.entry.Patch.{Patch}
use Rattle.row_core.proofs.Places.{coefficient_at}
use Rattle.version_lists.specs.Matrices.{IsBelow}
use Rattle.problem_core.specs.declared.parts.Mark.{Mark}
use Rattle.problem_core.specs.declared.stops.Quantity.TheVariants.{Terms}
use Rattle.problem_core.specs.Changes.Stops.{TableStop}
use Rattle.frac_core.specs.declared.memory.Stop.TheVariants.{Refused}
use Rattle.problem_core.specs.declared.parts.Stay.{Stay}
use Rattle.problem_core.specs.declared.parts.Term as parts
use Rattle.problem_core.specs.declared.parts.RowName.{RowName}
use Rattle.problem_core.specs.declared.parts.RowName.TheVariants.{Held}
use Rattle.problem_core.specs.declared.parts.Side.TheVariants.{Over}
use Rattle.problem_core.specs.Layout.{HasStay, IsCovered, Problem, Row, lines, sum_of}
use Rattle.problem_core.specs.Kept.{IsWhole}
use Rattle.problem_core.specs.Window.{zero_fraction}
use Rattle.problem_core.specs.Corners.{attr_column, one_column}
use Rattle.problem_core.specs.Unfit.{IsUnfitTerms, first_terms, over_mark}
use Rattle.corner_lines.specs.Joins.{over_joined, with_row}
use Rattle.corner_lines.specs.LineEquations.{IsLineEquation, IsLineSum, IsUnfitLine, deviation}
use Rattle.corner_lines.specs.LineLaws.{IsUnfitValue}
use Rattle.corner_lines.proofs.ProblemChanges.JoinedLines.{gives_deviation, goes_on, last_terms_unfit, no_terms, old_line, terms_unfit}
use Rattle.corner_lines.proofs.ProblemChanges.JoinedRows.{den-positive, joined_corner, joined_rays, new-in}
use Rattle.corner_lines.proofs.Lines.LineUnfits.{line_sum, line_unfit, mark_unfit, reduced_line, part-sum}
use Rattle.corner_joins.specs.declared.joining.Sum.{Sum}
use Rattle.corner_view.specs.declared.types.Owner.{Owner}
use Rattle.corner_view.specs.declared.types.Owner.TheVariants.{Level as LevelSlot, Attr as AttrSlot, Line as LineSlot}
use Rattle.corner_table.specs.declared.table.Standing.{Standing}
use Rattle.corner_view.specs.Seen.{IsNamed}
use Rattle.corner_table.specs.Tables.{Lists, attr_slot, entry, line_slot, marks_at, number, problem_of, row_at, standing_at}
use Rattle.corner_table.specs.Kept.{AreSlots, IsAttrRow, IsAttrSlot}
use Rattle.corner_joins.specs.Additions.Parts.{IsPartlyKept, IsTermsStop}
use Rattle.version_lists.specs.Numbers.{IsNumbered}
use Rattle.corner_table.specs.Joining.{at_zero}
use Rattle.corner_table.specs.Kept.{IsOutsideSlot}
use Rattle.corner_writings.specs.Rows.{row_number}
use Rattle.corner_joins.specs.Additions.RowSums.{AreTermFactors, HasTermFactors, IsSumRow, IsTermRow, IsTermValue, IsUnfitTerm, term_number, term_of, with_pushed}
use Rattle.corner_table.proofs.Basics.SmallFacts.{own_name}
use Rattle.corner_table.proofs.Basics.SameEquations.{same_numbers}
use Rattle.corner_writings.proofs.Basics.SmallFacts.{zero_unless}
use Rattle.corner_exchange.proofs.Basics.RowEquations.{AreTermsOf, positive_part, reduced_terms, unfit_terms, other-slot as cond-other}
use Rattle.corner_table.proofs.Basics.OwnerFacts.{line-owned}
use Rattle.corner_joins.proofs.Additions.RowPlaces.{IsPush, last_of, row_is, named_by, named_more, old_row, put_line, row_here, slots_pushed, next}
use Rattle.corner_table.proofs.Readings.SlotFacts.{any_impl, any_is, named_slot}
use Rattle.corner_lines.proofs.LevelRows.Units.{positive_is}
use Rattle.frac_core.proofs.Numbers.{above-right as above-part, zero-or-not as decide_zero, mul-neg}
use Rattle.corner_table.proofs.Readings.WritingFacts.{attr_apart as line_apart}
use Rattle.frac_core.proofs.Divisors.{size_above}

-- ---- the slot's number

-- a list in which the number has this slot
abbrev pub with_number : ℕ → ℕ → List ℕ → List ℕ
with_number zero s [] = s ∷ []
with_number zero s (x ∷ xs) = s ∷ xs
with_number (suc n) s [] = 0 ∷ with_number n s []
with_number (suc n) s (x ∷ xs) = x ∷ with_number n s xs

number_here : (n s : ℕ) (xs : List ℕ) → slice_index_or (with_number n s xs) n 0 ≡ s
number_here zero s [] = refl
number_here zero s (x ∷ xs) = refl
number_here (suc n) s [] = number_here n s []
number_here (suc n) s (x ∷ xs) = number_here n s xs

number_others : (n s : ℕ) (xs : List ℕ) (m : ℕ) → m ≢ n → slice_index_or (with_number n s xs) m 0 ≡ slice_index_or xs m 0
number_others zero s [] zero ne = absurd (ne refl)
number_others zero s (x ∷ xs) zero ne = absurd (ne refl)
number_others zero s [] (suc m) ne = refl
number_others zero s (x ∷ xs) (suc m) ne = refl
number_others (suc n) s [] zero ne = refl
number_others (suc n) s (x ∷ xs) zero ne = refl
number_others (suc n) s [] (suc m) ne = number_others n s [] m (λ e. ne (ap suc e))
number_others (suc n) s (x ∷ xs) (suc m) ne = number_others n s xs m (λ e. ne (ap suc e))

pub numbered : (n s : ℕ) (xs : List ℕ) → IsNumbered n s xs (with_number n s xs)
numbered n s xs = record { here = number_here n s xs; others = number_others n s xs }

-- ---- a sum without a common factor

less-factor : (den own g low : ℕ) (q sum part num one : ℤ) → 0 < g → g * low ≡ own → pos g *ℤ part ≡ sum → pos den *ℤ (pos own *ℤ q -ℤ sum) ≡ pos own *ℤ (num *ℤ one) → pos den *ℤ (pos low *ℤ q -ℤ part) ≡ pos low *ℤ (num *ℤ one)
less-factor den own g low q sum part num one above e f h =
    let a : pos own *ℤ q ≡ pos g *ℤ (pos low *ℤ q) = ap (λ (k : ℕ). pos k *ℤ q) (sym e) ∙ mul_assoc_ℤ (pos g) (pos low) q in
    let b : pos own *ℤ (num *ℤ one) ≡ pos g *ℤ (pos low *ℤ (num *ℤ one)) = ap (λ (k : ℕ). pos k *ℤ (num *ℤ one)) (sym e) ∙ mul_assoc_ℤ (pos g) (pos low) (num *ℤ one) in
    let inner : pos own *ℤ q -ℤ sum ≡ pos g *ℤ (pos low *ℤ q -ℤ part) = ap₂ ◌-ℤ◌ a (sym f) ∙ sym (mul-sub_left (pos g) (pos low *ℤ q) part) in
    cancel_mul g (pos den *ℤ (pos low *ℤ q -ℤ part)) (pos low *ℤ (num *ℤ one)) above
    (mul_left_comm_ℤ (pos g) (pos den) (pos low *ℤ q -ℤ part) ∙ ap (λ (z : ℤ). pos den *ℤ z) (sym inner) ∙ h ∙ b)

pub divided_sum : (p : Problem) (at : List Mark) (quantity : (ℕ → ℤ) → ℤ) (own : ℕ) (by : RowName → ℤ) (num : ℤ) (den g low : ℕ) (part : RowName → ℤ)
    → IsLineSum p at quantity own by num den → 0 < g → g * low ≡ own → All (λ l. pos g *ℤ part l.name ≡ by l.name) (lines p) → IsLineSum p at quantity low part num den
divided_sum p at quantity own by num den g low part e above same each = record {
  own_positive = above-part g low own same e.own_positive;
  den_positive = e.den_positive;
  outside = λ i x within some. e.outside i x within (λ z. some (zero_from_mul g (part (slice_index_or (lines p) i x).name) above (each i x within ∙ z)));
  holds = λ x solves.
      less-factor den own g low (quantity x.num) (sum_of (λ l. by l.name *ℤ deviation l.name x.num) (lines p)) (sum_of (λ l. part l.name *ℤ deviation l.name x.num) (lines p)) num (x.num one_column) above same
      (part-sum g part by x.num (lines p) (recursion_from_All (λ l. pos g *ℤ part l.name ≡ by l.name) (lines p) each)) (e.holds x solves);
}

-- ---- equations of earlier slots, where the row is over

-- no row before has a number at the next slot
pub past_entry : (t : Lists) (w c : ℕ) → IsPartlyKept t → w < length t.slots → length t.slots ≤ c → entry t w c ≡ pos 0
past_entry t w c kept lt past = zero_unless (entry t w c) (λ ne. let out = kept.outside w c ne (λ e. absurd (omega (arith, e, lt, past))) in absurd (omega (arith, out.0.1, past)))

pub old_number : (t : Lists) (r : Row) (v : Standing) (o : List Term) (a : List ℕ) (w : ℕ) (name : RowName) → IsPush t r a → w < length t.slots → IsNamed (problem_of t) name → number (with_pushed r v o a t) w name ≡ number t w name
old_number t r v o a w name j lt named =
    ap (λ (s : ℕ). cond (nat_eq s w) (pos 0) (neg_ℤ (entry (with_pushed r v o a t) w s))) (named_by t r v o a name (next t r a j) named)
    ∙ ap (λ (row : List Term). cond (nat_eq (line_slot t name) w) (pos 0) (neg_ℤ (coefficient (line_slot t name) row))) (old_row t r v o a w j.kept.slots lt)

pub no_number : (t : Lists) (r : Row) (v : Standing) (o : List Term) (a : List ℕ) (w : ℕ) → IsPush t r a → w < length t.slots → number (with_pushed r v o a t) w (Held r.id) ≡ pos 0
no_number t r v o a w j lt =
    ap (λ (s : ℕ). cond (nat_eq s w) (pos 0) (neg_ℤ (entry (with_pushed r v o a t) w s))) (row_here t r v o a (next t r a j))
    ∙ ap (λ (b : Bool). cond b (pos 0) (neg_ℤ (entry (with_pushed r v o a t) w (length t.slots)))) (ne_eqb (length t.slots) w (λ e. absurd (omega (arith, e, lt))))
    ∙ ap neg_ℤ (ap (coefficient (length t.slots)) (old_row t r v o a w j.kept.slots lt) ∙ past_entry t w (length t.slots) j.kept lt (omega arith))

pub old_equation : (t : Lists) (r : Row) (v : Standing) (o : List Term) (a : List ℕ) (quantity : (ℕ → ℤ) → ℤ) (w : ℕ) (num : ℤ) (den own : ℕ) → IsPush t r a → w < length t.slots → IsLineEquation (problem_of t) (marks_at t) quantity own (number t w) num den
    → IsLineEquation (with_row r (problem_of t)) (over_joined r (marks_at t)) quantity own (number (with_pushed r v o a t) w) num den
old_equation t r v o a quantity w num den own j lt e =
    let to : RowName → ℤ = number (with_pushed r v o a t) w in
    let same : All (λ l. to l.name ≡ number t w l.name) (lines (problem_of t)) = λ k x within. old_number t r v o a w (slice_index_or (lines (problem_of t)) k x).name j lt (own_name (lines (problem_of t)) k x within) in
    old_line (problem_of t) (marks_at t) r quantity own to num den j.whole
    (same_numbers (problem_of t) (marks_at t) quantity own (number t w) to num den same e) (no_number t r v o a w j lt)

-- ---- no terms

unit_number : (at c : ℕ) → c ≢ at → coefficient c (record { col = at; by = pos 1 } ∷ []) ≡ pos 0
unit_number at c ne = ap (λ (b : Bool). cond b (pos 1) (pos 0) +ℤ pos 0) (ne_eqb at c (λ e. ne (sym e)))

unit_own : (at : ℕ) → coefficient at (record { col = at; by = pos 1 } ∷ []) ≡ pos 1
unit_own at = ap (λ (b : Bool). cond b (pos 1) (pos 0) +ℤ pos 0) (eq-eqb at at refl)

unit_zero : (s at : ℕ) → cond (nat_eq s at) (pos 0) (neg_ℤ (coefficient s (record { col = at; by = pos 1 } ∷ []))) ≡ pos 0
unit_zero s at =
    elim (cases_eq s at) [
      | inl e ↦ ap (λ (b : Bool). cond b (pos 0) (neg_ℤ (coefficient s (record { col = at; by = pos 1 } ∷ [])))) (eq-eqb s at e)
      | inr ne ↦
          ap (λ (b : Bool). cond b (pos 0) (neg_ℤ (coefficient s (record { col = at; by = pos 1 } ∷ [])))) (ne_eqb s at ne)
          ∙ ap neg_ℤ (unit_number at s ne)
    ]

pub no_sum : (t : Lists) (r : Row) → IsSumRow t r (first_terms r 0) (record { row = record { col = length t.slots; by = pos 1 } ∷ []; value = zero_fraction })
no_sum t r = record {
  columns = λ c some ne. absurd (some (unit_number (length t.slots) c ne));
  equation = λ slots numbers. (
    1,
    unit_own (length t.slots),
    no_terms (with_row r (problem_of t)) (over_joined r (marks_at t)) r (row_number (with_pushed r at_zero [] slots t) (length t.slots) (record { col = length t.slots; by = pos 1 } ∷ []))
        (λ k x lt. unit_zero (line_slot (with_pushed r at_zero [] slots t) (slice_index_or (lines (with_row r (problem_of t))) k x).name) (length t.slots)),
  );
}

-- ---- one term more

-- what the next term is added to
pub record IsStep (t : Lists) (r : Row) (i : ℕ) (none : parts.Term) (s : Sum) (f : Factors) : Type 0 where
  pub kept : IsPartlyKept t
  pub whole : IsWhole (with_row r (problem_of t))
  pub within : i < length r.terms
  pub sum : IsSumRow t r (first_terms r i) s
  pub factors : HasTermFactors t (length t.slots) s.row (get_or r.terms i none) f

step_push : (t : Lists) (r : Row) (a : List ℕ) (i : ℕ) (none : parts.Term) (s : Sum) (f : Factors) → IsStep t r i none s f → IsNumbered r.id (length t.slots) t.row_slots a → IsPush t r a
step_push t r a i none s f h n = record { kept = h.kept; whole = h.whole; numbers = n }

-- an attribute of the row has a stay
pub row_covered : (t : Lists) (r : Row) (i : ℕ) (none : parts.Term) → IsWhole (with_row r (problem_of t)) → i < length r.terms → HasStay t.stays (get_or r.terms i none).attr
row_covered t r i none whole lt = (last_of (IsCovered t.stays) t.rows r whole.covered) i none lt

pub stay_slot : (t : Lists) (attr : ℕ) → AreSlots t → HasStay t.stays attr → IsAttrSlot t attr
stay_slot t attr slots has = any_is (λ s. IsAttrSlot t s.attr) (λ (s : Stay). s.attr ≡ attr) t.stays slots.attrs has (λ s h e. subst (IsAttrSlot t) e h)

pub stay_row : (t : Lists) (attr : ℕ) → IsPartlyKept t → HasStay t.stays attr → IsAttrRow t attr
stay_row t attr kept has = any_is (λ s. IsAttrRow t s.attr) (λ (s : Stay). s.attr ≡ attr) t.stays kept.attrs has (λ s h e. subst (IsAttrRow t) e h)

abbrev no_line : Owner → Type 0
no_line LevelSlot = Unit {0}
no_line (AttrSlot attr) = Unit {0}
no_line (LineSlot name) = ⊥

-- the next slot's number in the sum of rows
own_more : (x at : ℕ) (k n A B : ℤ) (kk own : ℕ) → at ≢ x → k ≡ pos kk → A ≡ pos own → B ≡ pos 0 → cond (nat_eq at x) (pos 0) (k *ℤ A +ℤ n *ℤ B) ≡ pos (kk * own)
own_more x at k n A B kk own ne e f g =
    ap (λ (b : Bool). cond b (pos 0) (k *ℤ A +ℤ n *ℤ B)) (ne_eqb at x ne)
    ∙ ap₂ ◌+ℤ◌ (ap₂ ◌*ℤ◌ e f) (ap (λ (z : ℤ). n *ℤ z) g ∙ mul-zero_ℤ n) ∙ add-zero_ℤ (pos kk *ℤ pos own)

-- d*-(k*A + n*B), where d*k and d*n are known
line_more : (d : ℕ) (k n A B x y : ℤ) → pos d *ℤ k ≡ x → pos d *ℤ n ≡ y → pos d *ℤ neg_ℤ (k *ℤ A +ℤ n *ℤ B) ≡ x *ℤ neg_ℤ A +ℤ y *ℤ neg_ℤ B
line_more d k n A B x y e f =
    let one : pos d *ℤ (k *ℤ A) ≡ x *ℤ A = sym (mul_assoc_ℤ (pos d) k A) ∙ ap (λ (z : ℤ). z *ℤ A) e in
    let two : pos d *ℤ (n *ℤ B) ≡ y *ℤ B = sym (mul_assoc_ℤ (pos d) n B) ∙ ap (λ (z : ℤ). z *ℤ B) f in
    let sum : pos d *ℤ (k *ℤ A +ℤ n *ℤ B) ≡ x *ℤ A +ℤ y *ℤ B = mul-add_left (pos d) (k *ℤ A) (n *ℤ B) ∙ ap₂ ◌+ℤ◌ one two in
    let whole : pos d *ℤ neg_ℤ (k *ℤ A +ℤ n *ℤ B) ≡ neg_ℤ (x *ℤ A +ℤ y *ℤ B) = mul-neg (pos d) (k *ℤ A +ℤ n *ℤ B) ∙ ap neg_ℤ sum in
    let a : x *ℤ neg_ℤ A ≡ neg_ℤ (x *ℤ A) = mul-neg x A in
    let b : y *ℤ neg_ℤ B ≡ neg_ℤ (y *ℤ B) = mul-neg y B in
    omega (arith, ints, whole, a, b)

no_more : (d : ℕ) (x y u w : ℤ) → u ≡ pos 0 → w ≡ pos 0 → pos d *ℤ pos 0 ≡ x *ℤ u +ℤ y *ℤ w
no_more d x y u w e f = mul-zero_ℤ (pos d) ∙ sym (ap₂ ◌+ℤ◌ (ap (λ (z : ℤ). x *ℤ z) e ∙ mul-zero_ℤ x) (ap (λ (z : ℤ). y *ℤ z) f ∙ mul-zero_ℤ y))

-- the number of a line in the sum of rows
abbrev pub more_number : Lists → Lists → List Term → parts.Term → Factors → RowName → ℤ
more_number u t sum term factors name = cond (nat_eq (line_slot u name) (length t.slots)) (pos 0) (neg_ℤ (term_number t sum term factors (line_slot u name)))

pub more_columns : (t : Lists) (r : Row) (i : ℕ) (none : parts.Term) (s : Sum) (f : Factors) (c : ℕ) → IsStep t r i none s f → term_number t s.row (get_or r.terms i none) f c ≢ pos 0 → c ≢ length t.slots → IsOutsideSlot t c
more_columns t r i none s f c h some ne =
    let term : parts.Term = get_or r.terms i none in
    let x : ℕ = attr_slot t term.attr in
    let sum : ℤ = f.k *ℤ coefficient c s.row +ℤ f.n *ℤ entry t x c in
    elim (cases_eq c x) [
      | inl e ↦ absurd (some (ap (λ (b : Bool). cond b (pos 0) sum) (eq-eqb c x e)))
      | inr other ↦ elim (decide_zero (coefficient c s.row)) [
        | inr here ↦ h.sum.columns c here ne
        | inl gone ↦ elim (decide_zero (entry t x c)) [
          | inr there ↦ h.kept.outside x c there other
          | inl away ↦ absurd (some (ap (λ (b : Bool). cond b (pos 0) sum) (ne_eqb c x other)
              ∙ ap₂ ◌+ℤ◌ (ap (λ (z : ℤ). f.k *ℤ z) gone ∙ mul-zero_ℤ f.k) (ap (λ (z : ℤ). f.n *ℤ z) away ∙ mul-zero_ℤ f.n)))
        ]
      ]
    ]

outside_line : (t : Lists) (r : Row) (v : Standing) (o : List Term) (a : List ℕ) (c : ℕ) → IsPush t r a → IsOutsideSlot t c → Any (λ l. line_slot (with_pushed r v o a t) l.name ≡ c) (lines (with_row r (problem_of t)))
outside_line t r v o a c j (slot, none, (name, owner)) =
    let owned = line-owned t c name j.kept.slots owner in
    any_impl (λ l. l.name ≡ name) (λ l. line_slot (with_pushed r v o a t) l.name ≡ c) (lines (with_row r (problem_of t))) (λ l n. ap (line_slot (with_pushed r v o a t)) n ∙ named_by t r v o a name (next t r a j) owned.0 ∙ owned.1) (named_more (problem_of t) r name owned.0)

cond-here : (s at : ℕ) (z : ℤ) → s ≡ at → cond (nat_eq s at) (pos 0) z ≡ pos 0
cond-here s at z e = ap (λ (b : Bool). cond b (pos 0) z) (eq-eqb s at e)

-- the number of a line before
old_more : (t : Lists) (r : Row) (v : Standing) (o : List Term) (a : List ℕ) (sum : List Term) (term : parts.Term) (f : Factors) (name : RowName) → IsPush t r a → HasStay t.stays term.attr → IsNamed (problem_of t) name
    → more_number (with_pushed r v o a t) t sum term f name ≡ neg_ℤ (f.k *ℤ coefficient (line_slot t name) sum +ℤ f.n *ℤ entry t (attr_slot t term.attr) (line_slot t name))
old_more t r v o a sum term f name j has named =
    let c : ℕ = line_slot t name in
    let x : ℕ = attr_slot t term.attr in
    let slot = named_slot t name j.kept.slots named in
    ap (λ (w : ℕ). cond (nat_eq w (length t.slots)) (pos 0) (neg_ℤ (term_number t sum term f w))) (named_by t r v o a name (next t r a j) named)
    ∙ cond-other c (length t.slots) (neg_ℤ (term_number t sum term f c)) (λ e. absurd (omega (arith, e, slot.1)))
    ∙ ap neg_ℤ (cond-other c x (f.k *ℤ coefficient c sum +ℤ f.n *ℤ entry t x c) (line_apart t term.attr name j.kept.slots has named))

old_sum : (t : Lists) (r : Row) (v : Standing) (o : List Term) (a : List ℕ) (sum : List Term) (name : RowName) → IsPush t r a → IsNamed (problem_of t) name → row_number (with_pushed r v o a t) (length t.slots) sum name ≡ neg_ℤ (coefficient (line_slot t name) sum)
old_sum t r v o a sum name j named =
    let c : ℕ = line_slot t name in
    let slot = named_slot t name j.kept.slots named in
    ap (λ (w : ℕ). cond (nat_eq w (length t.slots)) (pos 0) (neg_ℤ (coefficient w sum))) (named_by t r v o a name (next t r a j) named)
    ∙ cond-other c (length t.slots) (neg_ℤ (coefficient c sum)) (λ e. absurd (omega (arith, e, slot.1)))

old_attr : (t : Lists) (r : Row) (v : Standing) (o : List Term) (a : List ℕ) (attr : ℕ) (name : RowName) → IsPush t r a → HasStay t.stays attr → IsNamed (problem_of t) name → number (with_pushed r v o a t) (attr_slot t attr) name ≡ neg_ℤ (entry t (attr_slot t attr) (line_slot t name))
old_attr t r v o a attr name j has named =
    old_number t r v o a (attr_slot t attr) name j (stay_slot t attr j.kept.slots has).slot.1 named
    ∙ cond-other (line_slot t name) (attr_slot t attr) (neg_ℤ (entry t (attr_slot t attr) (line_slot t name))) (line_apart t attr name j.kept.slots has named)

-- each line's number times the divisor
each_more : (t : Lists) (r : Row) (v : Standing) (o : List Term) (a : List ℕ) (sum : List Term) (term : parts.Term) (f : Factors) (own own2 d : ℕ) → IsPush t r a → HasStay t.stays term.attr → pos d *ℤ f.k ≡ pos own2 → pos d *ℤ f.n ≡ pos own *ℤ term.by
    → All (λ l. pos d *ℤ more_number (with_pushed r v o a t) t sum term f l.name
    ≡ pos own2 *ℤ row_number (with_pushed r v o a t) (length t.slots) sum l.name +ℤ (pos own *ℤ term.by) *ℤ number (with_pushed r v o a t) (attr_slot t term.attr) l.name) (lines (with_row r (problem_of t)))
each_more t r v o a sum term f own own2 d j has k_is n_is =
    let x : ℕ = attr_slot t term.attr in
    put_line (λ l. pos d *ℤ more_number (with_pushed r v o a t) t sum term f l.name ≡ pos own2 *ℤ row_number (with_pushed r v o a t) (length t.slots) sum l.name +ℤ (pos own *ℤ term.by) *ℤ number (with_pushed r v o a t) x l.name) (problem_of t) r
    (λ k y lt.
    let name : RowName = (slice_index_or (lines (problem_of t)) k y).name in
    let named : IsNamed (problem_of t) name = own_name (lines (problem_of t)) k y lt in
    ap (λ (z : ℤ). pos d *ℤ z) (old_more t r v o a sum term f name j has named)
    ∙ line_more d f.k f.n (coefficient (line_slot t name) sum) (entry t x (line_slot t name)) (pos own2) (pos own *ℤ term.by) k_is n_is
    ∙ sym (ap₂ (λ (u w : ℤ). pos own2 *ℤ u +ℤ (pos own *ℤ term.by) *ℤ w) (old_sum t r v o a sum name j named) (old_attr t r v o a term.attr name j has named)))
    (ap (λ (z : ℤ). pos d *ℤ z) (cond-here (line_slot (with_pushed r v o a t) (Held r.id)) (length t.slots) (neg_ℤ (term_number t sum term f (line_slot (with_pushed r v o a t) (Held r.id)))) (row_here t r v o a (next t r a j)))
    ∙ no_more d (pos own2) (pos own *ℤ term.by) (row_number (with_pushed r v o a t) (length t.slots) sum (Held r.id)) (number (with_pushed r v o a t) x (Held r.id))
    (cond-here (line_slot (with_pushed r v o a t) (Held r.id)) (length t.slots) (neg_ℤ (coefficient (line_slot (with_pushed r v o a t) (Held r.id)) sum)) (row_here t r v o a (next t r a j)))
    (no_number t r v o a x j (stay_slot t term.attr j.kept.slots has).slot.1))

-- the sum with the next term, before it is in lowest terms
pub record HasMore (t : Lists) (r : Row) (a : List ℕ) (i : ℕ) (none : parts.Term) (s : Sum) (f : Factors) (num : ℤ) (den : ℕ) : Type 0 where
  pub own : ℕ
  pub above : 0 < own
  pub own_is : term_number t s.row (get_or r.terms i none) f (length t.slots) ≡ pos own
  pub sum : IsLineSum (with_row r (problem_of t)) (over_joined r (marks_at t)) (first_terms r (i + 1)) own (more_number (with_pushed r at_zero [] a t) t s.row (get_or r.terms i none) f) num den

pub has_more : (t : Lists) (r : Row) (a : List ℕ) (i : ℕ) (none : parts.Term) (s : Sum) (f : Factors) (num : ℤ) (den : ℕ) → IsStep t r i none s f → IsNumbered r.id (length t.slots) t.row_slots a → 0 < den
    → IsRatio (record { num = num; den = den }) (sum_num s.value (get_or r.terms i none).by (pos 1) (standing_at t (attr_slot t (get_or r.terms i none).attr)).value) (sum_den s.value (pos 1) (standing_at t (attr_slot t (get_or r.terms i none).attr)).value)
    → HasMore t r a i none s f num den
has_more t r a i none s f num den h n above ratio =
    let term : parts.Term = get_or r.terms i none in
    let x : ℕ = attr_slot t term.attr in
    let v2 : Fraction = (standing_at t x).value in
    let q : Problem = with_row r (problem_of t) in
    let over : List Mark = over_joined r (marks_at t) in
    let u : Lists = with_pushed r at_zero [] a t in
    let j = step_push t r a i none s f h n in
    let has = row_covered t r i none h.whole h.within in
    let slot = stay_slot t term.attr h.kept.slots has in
    let e = h.sum.equation a n in
    let row = stay_row t term.attr h.kept has in
    let line2 = old_equation t r at_zero [] a (λ y. y (attr_column term.attr)) x v2.num v2.den row.0 j slot.slot.1 row.2 in
    let part = positive_part h.factors.divisor row.0 f.k row.2.own_positive (h.factors.k_is ∙ row.1) in
    let result : RowName → ℤ = λ name. pos row.0 *ℤ row_number u (length t.slots) s.row name +ℤ (pos e.0 *ℤ term.by) *ℤ number u x name in
    let whole : IsLineSum q over (first_terms r (i + 1)) (row.0 * e.0) result num den =
    goes_on q over r i none e.0 (row_number u (length t.slots) s.row) s.value row.0 (number u x) v2 result num den h.within
    (line_sum q over (first_terms r i) e.0 (row_number u (length t.slots) s.row) s.value.num s.value.den e.2)
    (line_sum q over (λ y. y (attr_column term.attr)) row.0 (number u x) v2.num v2.den line2) (λ k y lt. refl) above ratio in
    let product : h.factors.divisor * (part.0 * e.0) ≡ row.0 * e.0 = omega (arith, ap (λ (m : ℕ). m * e.0) part.3) in
    record {
      own = part.0 * e.0;
      above = mul-pos part.2 e.2.own_positive;
      own_is = own_more x (length t.slots) f.k f.n (coefficient (length t.slots) s.row) (entry t x (length t.slots)) part.0 e.0 (λ k. absurd (omega (arith, k, slot.slot.1))) part.1 e.1 (past_entry t x (length t.slots) h.kept slot.slot.1 (omega arith));
      sum = divided_sum q over (first_terms r (i + 1)) (row.0 * e.0) result num den h.factors.divisor (part.0 * e.0) (more_number u t s.row term f) whole h.factors.above product
          (each_more t r at_zero [] a s.row term f e.0 row.0 h.factors.divisor j has (h.factors.k_is ∙ row.1) (h.factors.n_is ∙ ap (λ (z : ℤ). z *ℤ term.by) e.1));
    }

more_terms : (t : Lists) (r : Row) (a : List ℕ) (i : ℕ) (none : parts.Term) (s : Sum) (f : Factors) (own : ℕ) → IsStep t r i none s f → IsNumbered r.id (length t.slots) t.row_slots a → term_number t s.row (get_or r.terms i none) f (length t.slots) ≡ pos own
    → AreTermsOf (with_pushed r at_zero [] a t) (length t.slots) (term_number t s.row (get_or r.terms i none) f) own (more_number (with_pushed r at_zero [] a t) t s.row (get_or r.terms i none) f)
more_terms t r a i none s f own h n e = record {
  own_is = e;
  by_is = λ k y lt. refl;
  columns = λ c some ne. outside_line t r at_zero [] a c (step_push t r a i none s f h n) (more_columns t r i none s f c h some ne);
}

pub next_sum : (t : Lists) (r : Row) (i : ℕ) (none : parts.Term) (s : Sum) (f : Factors) (row : List Term) (value : Fraction) → IsStep t r i none s f → IsReduced row (term_number t s.row (get_or r.terms i none) f) → IsKeptRow row → 0 < value.den
    → IsRatio value (sum_num s.value (get_or r.terms i none).by (pos 1) (standing_at t (attr_slot t (get_or r.terms i none).attr)).value) (sum_den s.value (pos 1) (standing_at t (attr_slot t (get_or r.terms i none).attr)).value)
    → IsSumRow t r (first_terms r (i + 1)) (record { row = row; value = value })
next_sum t r i none s f row value h red kept above ratio = record {
  columns = λ c some ne. more_columns t r i none s f c h (λ z. some (zero_from_mul red.factor (coefficient c row) red.above (red.same c ∙ z))) ne;
  equation = λ slots n.
      let more = has_more t r slots i none s f value.num value.den h n above ratio in
      let u : Lists = with_pushed r at_zero [] slots t in
      let term : parts.Term = get_or r.terms i none in
      let low = reduced_terms u (length t.slots) (term_number t s.row term f) more.own (more_number u t s.row term f) row more.above (more_terms t r slots i none s f more.own h n more.own_is) kept.lowest red in (
        low.0,
        low.1,
        reduced_line (with_row r (problem_of t)) (over_joined r (marks_at t)) (first_terms r (i + 1)) more.own (more_number u t s.row term f) value.num value.den low.0 (row_number u (length t.slots) row) value more.sum low.2 above refl,
      );
}

-- ---- what does not fit

no_value : (p : Problem) (own : ℕ) (by : RowName → ℤ) (num : ℤ) (den : ℕ) → IsUnfitValue num den → IsUnfitLine p own by num den
no_value p own by num den h low part value r ratio fits each kept = h value kept.lowest ratio kept.fits

pub next_unfit : (t : Lists) (r : Row) (i : ℕ) (none : parts.Term) (s : Sum) (f : Factors) → IsStep t r i none s f
    → IsUnfit (term_number t s.row (get_or r.terms i none) f) ⊎ IsUnfitRatio (sum_num s.value (get_or r.terms i none).by (pos 1) (standing_at t (attr_slot t (get_or r.terms i none).attr)).value) (sum_den s.value (pos 1) (standing_at t (attr_slot t (get_or r.terms i none).attr)).value)
    → 0 < s.value.den → 0 < (standing_at t (attr_slot t (get_or r.terms i none).attr)).value.den
    → IsUnfitTerms (with_row r (problem_of t)) (over_joined r (marks_at t)) (over_mark r.id) (i + 1)
next_unfit t r i none s f h unfit above above2 =
    let p : Problem = problem_of t in
    let q : Problem = with_row r p in
    let over : List Mark = over_joined r (marks_at t) in
    let term : parts.Term = get_or r.terms i none in
    let v2 : Fraction = (standing_at t (attr_slot t term.attr)).value in
    let a : List ℕ = with_number r.id (length t.slots) t.row_slots in
    let n = numbered r.id (length t.slots) t.row_slots in
    let u : Lists = with_pushed r at_zero [] a t in
    let num : ℤ = sum_num s.value term.by (pos 1) v2 in
    let den : ℕ = s.value.den * (1 * v2.den) in
    let more = has_more t r a i none s f num den h n (mul-pos above (mul-pos (omega arith) above2)) refl in
    let by : RowName → ℤ = more_number u t s.row term f in
    terms_unfit p (marks_at t) r (i + 1) h.whole (omega arith) (omega (arith, h.within))
    (line_unfit q over (first_terms r (i + 1)) more.own by num den h.whole (joined_corner p (marks_at t) r h.whole h.kept.corner) (joined_rays p (marks_at t) r h.whole h.kept.rays) more.sum
    (elim unfit [
      | inl row ↦ unfit_terms u (length t.slots) (term_number t s.row term f) more.own by num den (slots_pushed t r at_zero [] a (next t r a (step_push t r a i none s f h n))) (more_terms t r a i none s f more.own h n more.own_is) row
      | inr value ↦ no_value q more.own by num den value
    ]))

-- ---- the deviation

pub all_less : (t : Lists) (r : Row) (s : Sum) (value : Fraction) → IsWhole (with_row r (problem_of t)) → IsSumRow t r (first_terms r (length r.terms)) s → 0 < value.den
    → IsRatio value (sum_num s.value (negsuc 0) (pos 1) r.constant) (sum_den s.value (pos 1) r.constant)
    → IsSumRow t r (deviation (Held r.id)) (record { row = s.row; value = value })
all_less t r s value whole sum above ratio = record {
  columns = sum.columns;
  equation = λ slots n.
      let q : Problem = with_row r (problem_of t) in
      let over : List Mark = over_joined r (marks_at t) in
      let by : RowName → ℤ = row_number (with_pushed r at_zero [] slots t) (length t.slots) s.row in
      let e = sum.equation slots n in
      let less : IsLineSum q over (deviation (Held r.id)) e.0 by value.num value.den =
      gives_deviation (problem_of t) over r e.0 by s.value value.num value.den (den-positive (problem_of t) r whole) (line_sum q over (first_terms r (length r.terms)) e.0 by s.value.num s.value.den e.2) above ratio in (
        e.0,
        e.1,
        record { own_positive = less.own_positive; den_positive = less.den_positive; outside = less.outside; holds = less.holds; lowest = e.2.lowest },
      );
}

pub less_unfit : (t : Lists) (r : Row) (s : Sum) → IsPartlyKept t → IsWhole (with_row r (problem_of t)) → IsSumRow t r (first_terms r (length r.terms)) s → 0 < s.value.den
    → IsUnfitRatio (sum_num s.value (negsuc 0) (pos 1) r.constant) (sum_den s.value (pos 1) r.constant)
    → IsUnfitTerms (with_row r (problem_of t)) (over_joined r (marks_at t)) (over_mark r.id) (length r.terms + 1)
less_unfit t r s kept whole sum above unfit =
    let p : Problem = problem_of t in
    let q : Problem = with_row r p in
    let over : List Mark = over_joined r (marks_at t) in
    let a : List ℕ = with_number r.id (length t.slots) t.row_slots in
    let by : RowName → ℤ = row_number (with_pushed r at_zero [] a t) (length t.slots) s.row in
    let e = sum.equation a (numbered r.id (length t.slots) t.row_slots) in
    let num : ℤ = sum_num s.value (negsuc 0) (pos 1) r.constant in
    let dens = den-positive p r whole in
    let den : ℕ = s.value.den * (1 * r.constant.den) in
    let less : IsLineSum q over (deviation (Held r.id)) e.0 by num den =
    gives_deviation p over r e.0 by s.value num den dens (line_sum q over (first_terms r (length r.terms)) e.0 by s.value.num s.value.den e.2) (mul-pos above (mul-pos (omega arith) dens)) refl in
    last_terms_unfit p (marks_at t) r whole
    (mark_unfit q over (Held r.id) Over e.0 by num den whole (joined_corner p (marks_at t) r whole kept.corner) (joined_rays p (marks_at t) r whole kept.rays) (new-in (marks_at t) (over_mark r.id)) less (no_value q e.0 by num den unfit))

-- ---- factors

pub term_factors : (own attr by : ℤ) (f : Factors) (d a b : ℤ) → pos 0 <ℤ own → pos 0 <ℤ attr → pos 0 <ℤ d → IsGcd (unsigned_abs own) (unsigned_abs attr) (unsigned_abs d)
    → a ≡ pos (unsigned_abs attr / unsigned_abs d) → b ≡ pos (unsigned_abs own / unsigned_abs d) → f.k ≡ a → f.n ≡ b *ℤ by → AreTermFactors own attr by f
term_factors own attr by f d a b up above over is e g k n =
    let left : pos (unsigned_abs d) *ℤ b ≡ own = ap (λ (z : ℤ). pos (unsigned_abs d) *ℤ z) g ∙ ap pos (mul-div_cancel' (unsigned_abs d) is.0) ∙ sym (positive_is own up) in
    record {
      divisor = unsigned_abs d;
      above = size_above d over;
      k_is = ap (λ (z : ℤ). pos (unsigned_abs d) *ℤ z) (k ∙ e) ∙ ap pos (mul-div_cancel' (unsigned_abs d) is.1) ∙ sym (positive_is attr above);
      n_is = ap (λ (z : ℤ). pos (unsigned_abs d) *ℤ z) n ∙ sym (mul_assoc_ℤ (pos (unsigned_abs d)) b by) ∙ ap (λ (z : ℤ). z *ℤ by) left;
    }

-- the factors without a divisor
pub plain_factors : (t : Lists) (at : ℕ) (sum : List Term) (term : parts.Term)
    → HasTermFactors t at sum term (record { k = entry t (attr_slot t term.attr) (attr_slot t term.attr); n = coefficient at sum *ℤ term.by })
plain_factors t at sum term = record {
  divisor = 1;
  above = omega arith;
  k_is = omega (arith, ints);
  n_is = omega (arith, ints);
}

no-extra : (b : Bool) (z : ℤ) → z +ℤ cond b (pos 0) (pos 0) ≡ z
no-extra true z = add-zero_ℤ z
no-extra false z = add-zero_ℤ z

pub patched_same : (t : Lists) (sum row : List Term) (term : parts.Term) (f : Factors) (but : Patch) → but.without.0 ≡ attr_slot t term.attr → but.extra ≡ pos 0 → row ≡ row_at t (attr_slot t term.attr) → (c : ℕ) → combination_but f sum row but c ≡ term_number t sum term f c
patched_same t sum row term f but without extra e c =
    ap₂ (λ (w : ℕ) (z : ℤ). cond (nat_eq c w) (pos 0) (f.k *ℤ coefficient c sum +ℤ f.n *ℤ coefficient c row +ℤ cond (nat_eq c but.at.0) z (pos 0))) without extra
    ∙ ap (λ (z : ℤ). cond (nat_eq c (attr_slot t term.attr)) (pos 0) z) (no-extra (nat_eq c but.at.0) (f.k *ℤ coefficient c sum +ℤ f.n *ℤ coefficient c row))
    ∙ ap (λ (p : List Term). cond (nat_eq c (attr_slot t term.attr)) (pos 0) (f.k *ℤ coefficient c sum +ℤ f.n *ℤ coefficient c p)) e

pub attr_above : (t : Lists) (attr : ℕ) → IsPartlyKept t → HasStay t.stays attr → pos 0 <ℤ entry t (attr_slot t attr) (attr_slot t attr)
attr_above t attr kept has = let row = stay_row t attr kept has in subst (λ (z : ℤ). pos 0 <ℤ z) (sym row.1) (omega (arith, ints, row.2.own_positive))

pub sum_above : (t : Lists) (r : Row) (quantity : (ℕ → ℤ) → ℤ) (s : Sum) → IsSumRow t r quantity s → pos 0 <ℤ coefficient (length t.slots) s.row
sum_above t r quantity s h =
    let e = h.equation (with_number r.id (length t.slots) t.row_slots) (numbered r.id (length t.slots) t.row_slots) in
    subst (λ (z : ℤ). pos 0 <ℤ z) (sym e.1) (omega (arith, ints, e.2.own_positive))

pub factors_of : (t : Lists) (at : ℕ) (sum : List Term) (term : parts.Term) (f : Factors) (own attr : ℤ) (c w : ℕ) → own ≡ coefficient c sum → c ≡ at → attr ≡ entry t w w → w ≡ attr_slot t term.attr → AreTermFactors own attr term.by f → HasTermFactors t at sum term f
factors_of t at sum term f own attr c w e d g k h =
    subst (λ (z : ℤ). AreTermFactors (coefficient at sum) z term.by f) (g ∙ ap (λ (n : ℕ). entry t n n) k)
    (subst (λ (z : ℤ). AreTermFactors z attr term.by f) (e ∙ ap (λ (n : ℕ). coefficient n sum) d) h)

-- ---- as the code finds them

pub den_above : (t : Lists) (r : Row) (quantity : (ℕ → ℤ) → ℤ) (s : Sum) → IsSumRow t r quantity s → 0 < s.value.den
den_above t r quantity s h = (h.equation (with_number r.id (length t.slots) t.row_slots) (numbered r.id (length t.slots) t.row_slots)).2.den_positive

pub attr_den : (t : Lists) (attr : ℕ) → IsPartlyKept t → HasStay t.stays attr → 0 < (standing_at t (attr_slot t attr)).value.den
attr_den t attr kept has = (stay_row t attr kept has).2.den_positive

pub stop_of : (t : Lists) (r : Row) (stop : TableStop) (id j k : ℕ) → stop ≡ Refused (Terms (over_mark id) j) → id ≡ r.id → j ≡ k → IsUnfitTerms (with_row r (problem_of t)) (over_joined r (marks_at t)) (over_mark r.id) k → IsTermsStop t r stop
stop_of t r stop id j k e f g h = subst (IsTermsStop t r) (sym (e ∙ ap₂ (λ (i n : ℕ). Refused (Terms (over_mark i) n)) f g)) (refl, h)

pub start_sum : (t : Lists) (r : Row) (row : List Term) (value : Fraction) (at : ℕ) → row ≡ record { col = at; by = pos 1 } ∷ [] → at ≡ length t.slots → value ≡ zero_fraction → IsSumRow t r (first_terms r 0) (record { row = row; value = value })
start_sum t r row value at e f g =
    subst (λ (x : List Term). IsSumRow t r (first_terms r 0) (record { row = x; value = value })) (sym (e ∙ ap (λ (n : ℕ). record { col = n; by = pos 1 } ∷ []) f))
    (subst (λ (x : Fraction). IsSumRow t r (first_terms r 0) (record { row = record { col = length t.slots; by = pos 1 } ∷ []; value = x })) (sym g) (no_sum t r))

pub terms_covered : (t : Lists) (r : Row) (i : ℕ) (none : parts.Term) (ts : List parts.Term) → ts ≡ r.terms → IsWhole (with_row r (problem_of t)) → i < length r.terms → HasStay t.stays (slice_index_or ts i none).attr
terms_covered t r i none ts e whole lt = subst (λ (xs : List parts.Term). HasStay t.stays (slice_index_or xs i none).attr) (sym e) (row_covered t r i none whole lt)

pub terms_fit : (t : Lists) (r : Row) (i : ℕ) (none : parts.Term) (ts : List parts.Term) → ts ≡ r.terms → IsWhole (with_row r (problem_of t)) → i < length r.terms → IsFitting (slice_index_or ts i none).by
terms_fit t r i none ts e whole lt =
    let small = ((row_is (problem_of t) r whole).terms i none lt).small in
    subst (λ (xs : List parts.Term). IsFitting (slice_index_or xs i none).by) (sym e) (omega (arith, small))

pub own_above : (t : Lists) (r : Row) (quantity : (ℕ → ℤ) → ℤ) (s : Sum) (at : ℕ) → at ≡ length t.slots → IsSumRow t r quantity s → pos 0 <ℤ coefficient at s.row
own_above t r quantity s at e h = subst (λ (n : ℕ). pos 0 <ℤ coefficient n s.row) (sym e) (sum_above t r quantity s h)

step_of : (t : Lists) (r : Row) (i : ℕ) (none : parts.Term) (s : Sum) (f : Factors) → IsPartlyKept t → IsWhole (with_row r (problem_of t)) → i < length r.terms → IsSumRow t r (first_terms r i) s → HasTermFactors t (length t.slots) s.row (get_or r.terms i none) f → IsStep t r i none s f
step_of t r i none s f kept whole lt sum has = record { kept = kept; whole = whole; within = lt; sum = sum; factors = has }

pub row_unfit : (t : Lists) (r : Row) (i : ℕ) (none : parts.Term) (s : Sum) (at : ℕ) (ts : List parts.Term) → IsPartlyKept t → IsWhole (with_row r (problem_of t)) → i < length r.terms → IsSumRow t r (first_terms r i) s → at ≡ length t.slots → ts ≡ r.terms
    → IsUnfitTerm t at s.row (slice_index_or ts i none) → IsUnfitTerms (with_row r (problem_of t)) (over_joined r (marks_at t)) (over_mark r.id) (i + 1)
row_unfit t r i none s at ts kept whole lt sum e g h =
    let there : IsUnfitTerm t (length t.slots) s.row (get_or r.terms i none) =
    subst (λ (n : ℕ). IsUnfitTerm t n s.row (get_or r.terms i none)) e (subst (λ (xs : List parts.Term). IsUnfitTerm t at s.row (slice_index_or xs i none)) g h) in
    let step = step_of t r i none s there.0 kept whole lt sum there.1 in
    next_unfit t r i none s there.0 step (inl there.2) (den_above t r (first_terms r i) s sum) (attr_den t (get_or r.terms i none).attr kept (row_covered t r i none whole lt))

pub value_unfit : (t : Lists) (r : Row) (i : ℕ) (none : parts.Term) (s : Sum) (w : ℕ) (v : Fraction) (n d : ℤ) (ts : List parts.Term) → IsPartlyKept t → IsWhole (with_row r (problem_of t)) → i < length r.terms → IsSumRow t r (first_terms r i) s → ts ≡ r.terms
    → n ≡ (slice_index_or ts i none).by → d ≡ pos 1 → v ≡ (standing_at t w).value → w ≡ attr_slot t (slice_index_or ts i none).attr
    → IsUnfitRatio (sum_num s.value n d v) (sum_den s.value d v) → IsUnfitTerms (with_row r (problem_of t)) (over_joined r (marks_at t)) (over_mark r.id) (i + 1)
value_unfit t r i none s w v n d ts kept whole lt sum g n_is d_is v_is w_is unfit =
    let term : parts.Term = get_or r.terms i none in
    let v2 : Fraction = (standing_at t (attr_slot t term.attr)).value in
    let here : v ≡ v2 = v_is ∙ ap (λ (x : ℕ). (standing_at t x).value) (w_is ∙ ap (λ (xs : List parts.Term). attr_slot t (slice_index_or xs i none).attr) g) in
    let number : n ≡ term.by = n_is ∙ ap (λ (xs : List parts.Term). (slice_index_or xs i none).by) g in
    let plain : IsUnfitRatio (sum_num s.value term.by (pos 1) v2) (sum_den s.value (pos 1) v2) =
    subst (λ (x : Fraction). IsUnfitRatio (sum_num s.value term.by (pos 1) x) (sum_den s.value (pos 1) x)) here
    (subst (λ (z : ℤ). IsUnfitRatio (sum_num s.value z (pos 1) v) (sum_den s.value (pos 1) v)) number
    (subst (λ (z : ℤ). IsUnfitRatio (sum_num s.value n z v) (sum_den s.value z v)) d_is unfit)) in
    let step = step_of t r i none s _ kept whole lt sum (plain_factors t (length t.slots) s.row term) in
    next_unfit t r i none s _ step (inr plain) (den_above t r (first_terms r i) s sum) (attr_den t term.attr kept (row_covered t r i none whole lt))

pub with_more : (t : Lists) (r : Row) (i : ℕ) (s : Sum) (row : List Term) (value : Fraction) (at : ℕ) → IsPartlyKept t → IsWhole (with_row r (problem_of t)) → i < length r.terms → IsSumRow t r (first_terms r i) s → at ≡ length t.slots
    → IsTermRow t at s.row (term_of r i) row → IsTermValue t r i s.value value → IsSumRow t r (first_terms r (i + 1)) (record { row = row; value = value })
with_more t r i s row value at kept whole lt sum e made v =
    let there : IsTermRow t (length t.slots) s.row (term_of r i) row = subst (λ (n : ℕ). IsTermRow t n s.row (term_of r i) row) e made in
    next_sum t r i (record { attr = 0; by = pos 0 }) s there.1.0 row value (step_of t r i (record { attr = 0; by = pos 0 }) s there.1.0 kept whole lt sum there.1.1) there.1.2 there.0 v.0.lowest.above v.1

pub less_value : (t : Lists) (r : Row) (s : Sum) (value k : Fraction) (n d : ℤ) → IsWhole (with_row r (problem_of t)) → IsSumRow t r (first_terms r (length r.terms)) s → n ≡ negsuc 0 → d ≡ pos 1 → k ≡ r.constant → IsKeptFraction value
    → IsRatio value (sum_num s.value n d k) (sum_den s.value d k) → IsSumRow t r (deviation (Held r.id)) (record { row = s.row; value = value })
less_value t r s value k n d whole sum n_is d_is k_is kept ratio =
    all_less t r s value whole sum kept.lowest.above
    (subst (λ (x : Fraction). IsRatio value (sum_num s.value (negsuc 0) (pos 1) x) (sum_den s.value (pos 1) x)) k_is
    (subst (λ (z : ℤ). IsRatio value (sum_num s.value z (pos 1) k) (sum_den s.value (pos 1) k)) n_is
    (subst (λ (z : ℤ). IsRatio value (sum_num s.value n z k) (sum_den s.value z k)) d_is ratio)))

pub constant_unfit : (t : Lists) (r : Row) (s : Sum) (k : Fraction) (n d : ℤ) → IsPartlyKept t → IsWhole (with_row r (problem_of t)) → IsSumRow t r (first_terms r (length r.terms)) s → n ≡ negsuc 0 → d ≡ pos 1 → k ≡ r.constant
    → IsUnfitRatio (sum_num s.value n d k) (sum_den s.value d k) → IsUnfitTerms (with_row r (problem_of t)) (over_joined r (marks_at t)) (over_mark r.id) (length r.terms + 1)
constant_unfit t r s k n d kept whole sum n_is d_is k_is unfit =
    less_unfit t r s kept whole sum (den_above t r (first_terms r (length r.terms)) s sum)
    (subst (λ (x : Fraction). IsUnfitRatio (sum_num s.value (negsuc 0) (pos 1) x) (sum_den s.value (pos 1) x)) k_is
    (subst (λ (z : ℤ). IsUnfitRatio (sum_num s.value z (pos 1) k) (sum_den s.value (pos 1) k)) n_is
    (subst (λ (z : ℤ). IsUnfitRatio (sum_num s.value n z k) (sum_den s.value z k)) d_is unfit)))

-- ---- the row in the next slot

term_below : (t : Lists) (r : Row) (quantity : (ℕ → ℤ) → ℤ) (s : Sum) (c : ℕ) → AreSlots t → IsSumRow t r quantity s → coefficient c s.row ≢ pos 0 → c < length t.matrix + 1
term_below t r quantity s c slots sum some =
    elim (cases_eq c (length t.slots)) [
      | inl e ↦ omega (arith, e, slots.matrix)
      | inr ne ↦ (let out = sum.columns c some ne in omega (arith, out.0.1, slots.matrix))
    ]

pub sum_below : (t : Lists) (r : Row) (quantity : (ℕ → ℤ) → ℤ) (s : Sum) → AreSlots t → IsSumRow t r quantity s → IsKeptRow s.row → IsBelow (length t.matrix + 1) s.row
sum_below t r quantity s slots sum kept k d lt =
    term_below t r quantity s (slice_index_or s.row k d).col slots sum (λ e. kept.lowest.nonzero k d lt (sym (coefficient_at s.row k d kept.lowest.rising lt) ∙ e))
