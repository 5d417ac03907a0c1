-- Which numbers of a level's writing have to fit.
use Rattle.std.proofs.Common.{◌≡◌, ◌≢◌, ◌∙◌, ℕ, ◌+◌, ◌*◌, ◌^◌, ◌/◌, ◌<◌, List, ℤ, pos, ◌+ℤ◌, ◌-ℤ◌, neg_ℤ, unsigned_abs, sym, ap, subst, arith, inl, inr, mul-zero}
use Rattle.std.specs.List.{AllByRecursion as Each}
use Rattle.std.proofs.lemmas.Bool.{cases_eq, cases_Bool}
use Rattle.std.proofs.lemmas.List.Elements.{All-from_recursion, recursion_from_All}
use Rattle.std.proofs.Math.Nat.{zero-div}
use borrow.Author.Differences.{ints}
use Rattle.frac_core.specs.Fraction.{IsFitting}
use Rattle.frac_core.proofs.Signs.{unsigned_abs-neg}
use Rattle.problem_core.specs.declared.parts.Mark.{Mark}
use Rattle.problem_core.specs.declared.parts.Side.{Side}
use Rattle.problem_core.specs.declared.parts.Side.TheVariants.{Under, Over}
use Rattle.problem_core.specs.declared.parts.RowName.{RowName}
use Rattle.problem_core.specs.Layout.{Line, Problem, lines}
use Rattle.problem_core.specs.Certificates.{under_weight, over_weight, weight_at}
use Rattle.problem_core.specs.Corners.{IsIn, place_of}
use Rattle.problem_core.proofs.Corners.CornerFacts.{is_place}
use Rattle.problem_core.proofs.Forms.{each-impl, each-both}
use Rattle.problem_core.specs.Levels.{AreFitting}
use Rattle.corner_laws.specs.Units.{AreFittingThere, IsLevelRow, IsReducedBy, over_share, under_share}
use Rattle.corner_laws.proofs.Counting.{IsIn-from_is_place}
use Rattle.corner_laws.proofs.ZeroColumns.{not-in}
use Rattle.frac_core.proofs.Numbers.{no-product as no-share}
use Rattle.frac_core.proofs.Quotients.{size_opposite as size-neg}
use Rattle.problem_core.proofs.Lines.{under-none as under-zero, over-none as over-zero, weight-none as no_weight}

-- ---- a line that is not of the level

none-there : (unit level : ℕ) (l : Line) → l.level ≢ level → unit * weight_at l level / l.scale ≡ 0
none-there unit level l ne = ap (λ (w : ℕ). unit * w / l.scale) (no_weight l level ne) ∙ ap (λ (n : ℕ). n / l.scale) (mul-zero unit) ∙ zero-div l.scale

pub no-under : (unit level : ℕ) (l : Line) → l.level ≢ level → under_share unit level l ≡ 0
no-under unit level l ne = ap (under_weight l.rel) (none-there unit level l ne) ∙ under-zero l.rel

pub no-over : (unit level : ℕ) (l : Line) → l.level ≢ level → over_share unit level l ≡ 0
no-over unit level l ne = ap (over_weight l.rel) (none-there unit level l ne) ∙ over-zero l.rel

-- ---- sizes

under-other : (b own u : ℕ) (y r : ℤ) → u ≡ 0 → r ≡ pos (own * u) -ℤ y → unsigned_abs y < b → unsigned_abs r < b
under-other b own u y r e is h =
    let none = no-share own u e in
    let same : r ≡ neg_ℤ y = omega (arith, ints, is, none) in
    subst (λ (n : ℕ). n < b) (sym (ap unsigned_abs same ∙ size-neg y)) h

over-other : (b own u : ℕ) (y r : ℤ) → u ≡ 0 → r ≡ pos (own * u) +ℤ y → unsigned_abs y < b → unsigned_abs r < b
over-other b own u y r e is h =
    let none = no-share own u e in
    let same : r ≡ y = omega (arith, ints, is, none) in
    subst (λ (n : ℕ). n < b) (sym (ap unsigned_abs same)) h

under-none : (b own u : ℕ) (y : ℤ) → 0 < b → u ≡ 0 → y ≡ pos (own * u) → unsigned_abs y < b
under-none b own u y above e is = subst (λ (n : ℕ). n < b) (sym (ap unsigned_abs (is ∙ ap pos (no-share own u e)))) above

over-none : (b own u : ℕ) (y : ℤ) → 0 < b → u ≡ 0 → y ≡ neg_ℤ (pos (own * u)) → unsigned_abs y < b
over-none b own u y above e is = subst (λ (n : ℕ). n < b) (sym (ap unsigned_abs (is ∙ ap (λ (n : ℕ). neg_ℤ (pos n)) (no-share own u e)))) above

-- an inside mark's own share is not above what is left of the line's other mark
under-own : (b a o : ℕ) (y r : ℤ) → y ≡ pos a → r ≡ pos o +ℤ y → unsigned_abs r < b → unsigned_abs y < b
under-own b a o y r e is h =
    let all : r ≡ pos (o + a) = omega (arith, ints, e, is) in
    let size : o + a < b = subst (λ (n : ℕ). n < b) (ap unsigned_abs all) h in
    subst (λ (n : ℕ). n < b) (sym (ap unsigned_abs e)) (omega (arith, size))

over-own : (b a o : ℕ) (y r : ℤ) → y ≡ neg_ℤ (pos a) → r ≡ pos o -ℤ y → unsigned_abs r < b → unsigned_abs y < b
over-own b a o y r e is h =
    let all : r ≡ pos (o + a) = omega (arith, ints, e, is) in
    let size : o + a < b = subst (λ (n : ℕ). n < b) (ap unsigned_abs all) h in
    subst (λ (n : ℕ). n < b) (sym (ap unsigned_abs e ∙ unsigned_abs-neg a)) (omega (arith, size))

-- ---- one line

record Known (at : List Mark) (level unit own : ℕ) (by : RowName → ℤ) (reduced : ℕ → ℤ) (l : Line) : Type 0 where
  under : IsIn (place_of l.name Under) at → by l.name ≡ pos (own * under_share unit level l)
  over : IsIn (place_of l.name Over) at → by l.name ≡ neg_ℤ (pos (own * over_share unit level l))
  left_under : reduced (place_of l.name Under) ≡ pos (own * under_share unit level l) -ℤ by l.name
  left_over : reduced (place_of l.name Over) ≡ pos (own * over_share unit level l) +ℤ by l.name
  outside : (IsIn (place_of l.name Under) at → ⊥) → (IsIn (place_of l.name Over) at → ⊥) → IsFitting (by l.name)
  own_fit : l.level ≡ level → IsFitting (reduced (place_of l.name Under)) × IsFitting (reduced (place_of l.name Over))

by-fits : (at : List Mark) (level unit own : ℕ) (by : RowName → ℤ) (reduced : ℕ → ℤ) (l : Line) → Known at level unit own by reduced l → IsFitting (by l.name)
by-fits at level unit own by reduced l k =
    elim (cases_Bool (is_place at (place_of l.name Under))) [
      | inl i ↦
          let is = k.under (IsIn-from_is_place (place_of l.name Under) at i) in
          elim (cases_eq l.level level) [
            | inl e ↦ under-own (2 ^ 42) (own * under_share unit level l) (own * over_share unit level l) (by l.name) (reduced (place_of l.name Over)) is k.left_over (k.own_fit e).1
            | inr ne ↦ under-none (2 ^ 42) own (under_share unit level l) (by l.name) (omega arith) (no-under unit level l ne) is
          ]
      | inr a ↦ elim (cases_Bool (is_place at (place_of l.name Over))) [
        | inl i ↦
            let is = k.over (IsIn-from_is_place (place_of l.name Over) at i) in
            elim (cases_eq l.level level) [
              | inl e ↦ over-own (2 ^ 42) (own * over_share unit level l) (own * under_share unit level l) (by l.name) (reduced (place_of l.name Under)) is k.left_under (k.own_fit e).0
              | inr ne ↦ over-none (2 ^ 42) own (over_share unit level l) (by l.name) (omega arith) (no-over unit level l ne) is
            ]
        | inr b ↦ k.outside (not-in at (place_of l.name Under) a) (not-in at (place_of l.name Over) b)
      ]
    ]

reduced-fits : (at : List Mark) (level unit own : ℕ) (by : RowName → ℤ) (reduced : ℕ → ℤ) (side : Side) (l : Line) → Known at level unit own by reduced l → IsFitting (reduced (place_of l.name side))
reduced-fits at level unit own by reduced Under l k =
    elim (cases_eq l.level level) [
      | inl e ↦ (k.own_fit e).0
      | inr ne ↦ under-other (2 ^ 42) own (under_share unit level l) (by l.name) (reduced (place_of l.name Under)) (no-under unit level l ne) k.left_under (by-fits at level unit own by reduced l k)
    ]
reduced-fits at level unit own by reduced Over l k =
    elim (cases_eq l.level level) [
      | inl e ↦ (k.own_fit e).1
      | inr ne ↦ over-other (2 ^ 42) own (over_share unit level l) (by l.name) (reduced (place_of l.name Over)) (no-over unit level l ne) k.left_over (by-fits at level unit own by reduced l k)
    ]

-- ---- all lines

known : (p : Problem) (at : List Mark) (level unit own : ℕ) (by : RowName → ℤ) (reduced : ℕ → ℤ) → IsLevelRow p at level unit own by → IsReducedBy p level unit own by reduced → AreFittingThere p at level (own * unit) by reduced → Each (Known at level unit own by reduced) (lines p)
known p at level unit own by reduced row left fit =
    each-impl (λ l. ((IsIn (place_of l.name Under) at → by l.name ≡ pos (own * under_share unit level l)) × (IsIn (place_of l.name Over) at → by l.name ≡ neg_ℤ (pos (own * over_share unit level l))))
    × (((reduced (place_of l.name Under) ≡ pos (own * under_share unit level l) -ℤ by l.name) × (reduced (place_of l.name Over) ≡ pos (own * over_share unit level l) +ℤ by l.name))
    × (((IsIn (place_of l.name Under) at → ⊥) → (IsIn (place_of l.name Over) at → ⊥) → IsFitting (by l.name)) × (l.level ≡ level → IsFitting (reduced (place_of l.name Under)) × IsFitting (reduced (place_of l.name Over)))))) _ (lines p)
    (λ l h. record { under = h.0.0; over = h.0.1; left_under = h.1.0.0; left_over = h.1.0.1; outside = h.1.1.0; own_fit = h.1.1.1 })
    (each-both _ _ (lines p) (each-both _ _ (lines p) (recursion_from_All _ (lines p) row.under) (recursion_from_All _ (lines p) row.over))
    (each-both _ _ (lines p) (each-both _ _ (lines p) (recursion_from_All _ (lines p) left.under) (recursion_from_All _ (lines p) left.over))
    (each-both _ _ (lines p) (recursion_from_All _ (lines p) fit.outside_fit) (recursion_from_All _ (lines p) fit.own_fit))))

-- all numbers fit where these do
pub level_fits : (p : Problem) (at : List Mark) (level unit own : ℕ) (by : RowName → ℤ) (reduced : ℕ → ℤ) → IsLevelRow p at level unit own by → IsReducedBy p level unit own by reduced → AreFittingThere p at level (own * unit) by reduced → AreFitting p (own * unit) by reduced
level_fits p at level unit own by reduced row left fit =
    let each = known p at level unit own by reduced row left fit in
    record {
      scale_fits = fit.scale_fits;
      times_fit = All-from_recursion (λ l. IsFitting (by l.name)) (lines p) (each-impl (Known at level unit own by reduced) _ (lines p) (λ l k. by-fits at level unit own by reduced l k) each);
      reduced_fit = λ side. All-from_recursion (λ l. IsFitting (reduced (place_of l.name side))) (lines p) (each-impl (Known at level unit own by reduced) _ (lines p) (λ l k. reduced-fits at level unit own by reduced side l k) each);
    }
