-- Lists of the lines' numbers, in lowest terms, as rows.
use Rattle.std.proofs.Common.{◌≡◌, ◌⊎◌, ◌∙◌, ℕ, List, [], ◌∷◌, Bool, true, false, cond, nat_eq, map, length, get_or, ℤ, pos, ◌*ℤ◌, unsigned_abs, refl, sym, ap, ap₂, subst, arith, inl, inr, All}
use Rattle.std.specs.Int.{◌∣◌}
use Rattle.std.proofs.lemmas.Bool.{cases_Bool}
use Rattle.std.proofs.lemmas.List.{length-map}
use Rattle.std.proofs.lemmas.List.Elements.{All-from_recursion, recursion_from_All, All-map}
use Rattle.std.proofs.lemmas.Nat.Gcd.{dvd-zero}
use Rattle.frac_core.proofs.Integers.{mul-zero_ℤ, zero_from_mul}
use Rattle.frac_core.specs.Fraction.{IsFitting}
use Rattle.problem_core.specs.declared.parts.RowName.{RowName}
use Rattle.problem_core.specs.declared.parts.Side.TheVariants.{Under, Over}
use Rattle.problem_core.specs.declared.parts.Mark.{Mark}
use Rattle.problem_core.specs.Layout.{Line, Problem, lines}
use Rattle.problem_core.specs.Corners.{place_of}
use Rattle.problem_core.proofs.Corners.CornerFacts.{is_place}
use Rattle.problem_core.proofs.Forms.{each-impl}
use Rattle.corner_laws.proofs.Counting.{IsIn-from_is_place}
use Rattle.corner_laws.proofs.LinePlaces.{AllApart}
use Rattle.corner_laws.proofs.ZeroColumns.{not-in}
use Rattle.corner_lines.specs.LineEquations.{IsOutsideLine}
use Rattle.corner_lines.specs.Levels.LevelJoins.{AreLinesBefore, IsLineBefore}
use Rattle.corner_lines.specs.Levels.LevelRows.{IsDividedRow, IsUnfitRow}
use Rattle.path_lines.specs.Numbers.{AreLowest, AreUnfit}
use Rattle.path_lines.specs.Tables.{numbers_of}
use Rattle.path_lines.proofs.Arithmetic.NumbersOf.{each_number, numbers-map}
use Rattle.path_lines.proofs.Arithmetic.Unfits.{same_list}
use Rattle.frac_core.proofs.Lists.{each-from_map as unmapped}

-- inside lines have no number
abbrev pub HasZeros : List Mark → List Line → List ℤ → Type 0
HasZeros at ls zs = All (λ l. IsOutsideLine at l.name ⊎ (numbers_of ls zs l.name ≡ pos 0)) ls

pub list_divided : (q : Problem) (at : List Mark) (own low : ℕ) (by : RowName → ℤ) (out next : List ℤ) → AllApart (lines q) → length out ≡ length (lines q)
    → All (λ l. IsOutsideLine at l.name → numbers_of (lines q) out l.name ≡ by l.name) (lines q) → HasZeros at (lines q) out
    → AreLowest (pos own) out (pos low) next → IsDividedRow q at own by low (numbers_of (lines q) next)
list_divided q at own low by out next apart count outside zeros are =
    let long : length next ≡ length (lines q) = sym (length-map next (λ (z : ℤ). pos are.factor *ℤ z)) ∙ ap length are.same ∙ count in
    let times : (l : RowName) → pos are.factor *ℤ numbers_of (lines q) next l ≡ numbers_of (lines q) out l =
    λ l. sym (numbers-map (pos are.factor) (lines q) next l) ∙ ap (λ (zs : List ℤ). numbers_of (lines q) zs l) are.same in
    record {
      factor = are.factor;
      above = are.above;
      own_is = ap unsigned_abs are.own_is;
      same = λ i d within out. times (get_or (lines q) i d).name ∙ outside i d within out;
      lowest = λ g divides all.
          are.lowest g (
            divides,
            All-from_recursion (λ z. g ∣ unsigned_abs z) next
                (each_number (λ z. g ∣ unsigned_abs z) (lines q) next apart long
                (recursion_from_All (λ l. g ∣ unsigned_abs (numbers_of (lines q) next l.name)) (lines q)
                (λ i d within. elim (zeros i d within) [
                  | inl outside ↦ all i d within outside
                  | inr none ↦
                      let zero : numbers_of (lines q) next (get_or (lines q) i d).name ≡ pos 0 = zero_from_mul are.factor (numbers_of (lines q) next (get_or (lines q) i d).name) are.above (times (get_or (lines q) i d).name ∙ none) in
                      subst (λ (z : ℤ). g ∣ unsigned_abs z) (sym zero) (dvd-zero g)
                ]))),
          );
    }

-- the zeros stay where the list is divided
pub zeros_divided : (at : List Mark) (ls : List Line) (own low : ℤ) (out next : List ℤ) → HasZeros at ls out → AreLowest own out low next → HasZeros at ls next
zeros_divided at ls own low out next zeros are i d within =
    elim (zeros i d within) [
      | inl outside ↦ inl outside
      | inr none ↦ inr (zero_from_mul are.factor (numbers_of ls next (get_or ls i d).name) are.above (sym (numbers-map (pos are.factor) ls next (get_or ls i d).name) ∙ ap (λ (zs : List ℤ). numbers_of ls zs (get_or ls i d).name) are.same ∙ none))
    ]

-- ---- the other way

-- the number, or 0 at an inside line
seen : List Mark → (RowName → ℤ) → RowName → ℤ
seen at number name = cond (is_place at (place_of name Under)) (pos 0) (cond (is_place at (place_of name Over)) (pos 0) (number name))

seen-out : (at : List Mark) (number : RowName → ℤ) (name : RowName) → is_place at (place_of name Under) ≡ false → is_place at (place_of name Over) ≡ false → seen at number name ≡ number name
unfolding seen
seen-out at number name a b = ap (λ (c : Bool). cond c (pos 0) (cond (is_place at (place_of name Over)) (pos 0) (number name))) a ∙ ap (λ (c : Bool). cond c (pos 0) (number name)) b

seen-under : (at : List Mark) (number : RowName → ℤ) (name : RowName) → is_place at (place_of name Under) ≡ true → seen at number name ≡ pos 0
unfolding seen
seen-under at number name a = ap (λ (c : Bool). cond c (pos 0) (cond (is_place at (place_of name Over)) (pos 0) (number name))) a

both-zero : (c : Bool) (z : ℤ) → cond c (pos 0) (cond true (pos 0) z) ≡ pos 0
both-zero true z = refl
both-zero false z = refl

seen-over : (at : List Mark) (number : RowName → ℤ) (name : RowName) → is_place at (place_of name Over) ≡ true → seen at number name ≡ pos 0
unfolding seen
seen-over at number name b = ap (λ (c : Bool). cond (is_place at (place_of name Under)) (pos 0) (cond c (pos 0) (number name))) b ∙ both-zero (is_place at (place_of name Under)) (number name)

-- a property of 0 and of the outside lines' numbers
by-seen : (P : ℤ → Type 0) (at : List Mark) (number : RowName → ℤ) (name : RowName) → P (pos 0) → (IsOutsideLine at name → P (number name)) → P (seen at number name)
by-seen P at number name zero there =
    elim (cases_Bool (is_place at (place_of name Under))) [
      | inl a ↦ subst P (sym (seen-under at number name a)) zero
      | inr a ↦ elim (cases_Bool (is_place at (place_of name Over))) [
        | inl b ↦ subst P (sym (seen-over at number name b)) zero
        | inr b ↦ subst P (sym (seen-out at number name a b)) (there (record { under = not-in at (place_of name Under) a; over = not-in at (place_of name Over) b }))
      ]
    ]

-- an inside line's multiple of 0
seen-same : (at : List Mark) (g : ℤ) (number by : RowName → ℤ) (name : RowName) → (IsOutsideLine at name → g *ℤ number name ≡ by name) → IsOutsideLine at name ⊎ (by name ≡ pos 0) → g *ℤ seen at number name ≡ by name
seen-same at g number by name outside (inl out) = by-out
  where
    by-out : g *ℤ seen at number name ≡ by name
    by-out = elim (cases_Bool (is_place at (place_of name Under))) [
      | inl a ↦ absurd (out.under (IsIn-from_is_place (place_of name Under) at a))
      | inr a ↦ elim (cases_Bool (is_place at (place_of name Over))) [
        | inl b ↦ absurd (out.over (IsIn-from_is_place (place_of name Over) at b))
        | inr b ↦ ap (λ (z : ℤ). g *ℤ z) (seen-out at number name a b) ∙ outside out
      ]
    ]
seen-same at g number by name outside (inr none) =
    elim (cases_Bool (is_place at (place_of name Under))) [
      | inl a ↦ ap (λ (z : ℤ). g *ℤ z) (seen-under at number name a) ∙ mul-zero_ℤ g ∙ sym none
      | inr a ↦ elim (cases_Bool (is_place at (place_of name Over))) [
        | inl b ↦ ap (λ (z : ℤ). g *ℤ z) (seen-over at number name b) ∙ mul-zero_ℤ g ∙ sym none
        | inr b ↦ ap (λ (z : ℤ). g *ℤ z) (seen-out at number name a b) ∙ outside (record { under = not-in at (place_of name Under) a; over = not-in at (place_of name Over) b })
      ]
    ]

pub small-zero : IsFitting (pos 0)
small-zero = omega arith

pub list_unfit : (q : Problem) (at : List Mark) (own : ℕ) (by : RowName → ℤ) (out : List ℤ) → AllApart (lines q) → length out ≡ length (lines q)
    → All (λ l. IsOutsideLine at l.name → numbers_of (lines q) out l.name ≡ by l.name) (lines q) → HasZeros at (lines q) out
    → AreUnfit (pos own) out → IsUnfitRow q at own by
list_unfit q at own by out apart count outside zeros unfit low number d fits each =
    unfit (pos low) (map (λ l. seen at number l.name) (lines q))
    (record {
      factor = d.factor;
      above = d.above;
      own_is = ap pos d.own_is;
      same = same_list (pos d.factor) (seen at number) (lines q) out apart count
          (recursion_from_All (λ l. pos d.factor *ℤ seen at number l.name ≡ numbers_of (lines q) out l.name) (lines q)
          (λ i e within. seen-same at (pos d.factor) number (numbers_of (lines q) out) (get_or (lines q) i e).name (λ o. d.same i e within o ∙ sym (outside i e within o)) (zeros i e within)));
      lowest = λ k all.
          d.lowest k all.0
          (All-from_recursion (λ l. IsOutsideLine at l.name → k ∣ unsigned_abs (number l.name)) (lines q)
          (each-impl (λ l. k ∣ unsigned_abs (seen at number l.name)) _ (lines q) (λ l h o. shown k l.name o h)
          (unmapped (λ z. k ∣ unsigned_abs z) (λ (l : Line). seen at number l.name) (lines q) (recursion_from_All (λ z. k ∣ unsigned_abs z) (map (λ (l : Line). seen at number l.name) (lines q)) all.1))));
    })
    (fits, All-map IsFitting (λ (l : Line). seen at number l.name) (lines q) (λ i e within. by-seen IsFitting at number (get_or (lines q) i e).name small-zero (each i e within)))
  where
    shown : (k : ℕ) (name : RowName) → IsOutsideLine at name → k ∣ unsigned_abs (seen at number name) → k ∣ unsigned_abs (number name)
    shown k name o h = elim (cases_Bool (is_place at (place_of name Under))) [
      | inl a ↦ absurd (o.under (IsIn-from_is_place (place_of name Under) at a))
      | inr a ↦ elim (cases_Bool (is_place at (place_of name Over))) [
        | inl b ↦ absurd (o.over (IsIn-from_is_place (place_of name Over) at b))
        | inr b ↦ subst (λ (z : ℤ). k ∣ unsigned_abs z) (seen-out at number name a b) h
      ]
    ]

-- ---- names alone

pub numbers_before : (name : RowName) (ls ms : List Line) (zs : List ℤ) (n : RowName) → AreLinesBefore name ls ms → numbers_of ls zs n ≡ numbers_of ms zs n
numbers_before name [] [] zs n are = refl
numbers_before name [] (m ∷ ms) zs n are = absurd are
numbers_before name (l ∷ ls) [] zs n are = absurd are
numbers_before name (l ∷ ls) (m ∷ ms) [] n are = refl
numbers_before name (l ∷ ls) (m ∷ ms) (z ∷ zs) n are =
    ap₂ (λ (x : RowName) (y : ℤ). cond (nat_eq (place_of x Under) (place_of n Under)) z y) (same-name name l m are.0) (numbers_before name ls ms zs n are.1)
  where
    same-name : (name : RowName) (l m : Line) → IsLineBefore name l m → l.name ≡ m.name
    same-name name l m (inl e) = ap (λ (k : Line). k.name) e.0
    same-name name l m (inr e) = ap (λ (k : Line). k.name) e.0
