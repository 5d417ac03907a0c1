-- The row of a stay that is inside is the row of the stay's level.
use Rattle.std.proofs.Common.{◌≡◌, ◌≢◌, ◌∙◌, ℕ, ◌*◌, ◌/◌, ◌<◌, List, ℤ, pos, neg_ℤ, unsigned_abs, sym, ap, subst, arith, inl, inr, All}
use Rattle.std.specs.List.{AllByRecursion as Each}
use Rattle.std.specs.Int.{◌∣◌}
use Rattle.std.proofs.lemmas.Bool.{cases_eq}
use Rattle.std.proofs.lemmas.Nat.Gcd.{dvd-zero}
use Rattle.std.proofs.Math.Nat.{one-dvd}
use Rattle.std.proofs.lemmas.List.Elements.{All-from_recursion, recursion_from_All}
use borrow.Author.Differences.{ints}
use Rattle.problem_core.specs.declared.parts.Mark.{Mark}
use Rattle.problem_core.specs.declared.parts.Rel.{Rel}
use Rattle.problem_core.specs.declared.parts.Rel.TheVariants.{Eq}
use Rattle.problem_core.specs.declared.parts.Side.{Side}
use Rattle.problem_core.specs.declared.parts.Side.TheVariants.{Under, Over}
use Rattle.problem_core.specs.declared.parts.RowName.{RowName}
use Rattle.problem_core.specs.declared.parts.RowName.TheVariants.{Stay as StayOf}
use Rattle.problem_core.specs.Layout.{Line, Problem, lines, stay_lines}
use Rattle.problem_core.specs.Kept.{IsWhole}
use Rattle.problem_core.specs.Certificates.{under_weight, over_weight, weight_at}
use Rattle.problem_core.specs.Corners.{IsCorner, IsIn, place_of}
use Rattle.problem_core.proofs.Forms.{each-impl, each-both}
use Rattle.corner_laws.specs.Sums.{IsRowOf}
use Rattle.corner_laws.specs.Units.{IsLevelRow, IsLevelUnit, IsStayLevel, over_share, under_share}
use Rattle.corner_laws.proofs.Counting.{IsSmall, one_mark, over_next, rows_small, sides_apart, stays_small}
use Rattle.corner_laws.proofs.LevelCosts.LevelSizes.{no-over, no-under}
use Rattle.corner_laws.proofs.LevelCosts.Unique.{same-name}
use Rattle.frac_core.proofs.Numbers.{no-product as no-share}
use Rattle.problem_core.proofs.Lines.{weight-none as no_weight, own-weight as own_weight}

-- ---- the unit

pub under-one : (rel : Rel) (w k : ℕ) → rel ≡ Eq → w ≡ 1 → k ≡ 1 → under_weight rel (1 * w / k) ≡ 1
under-one rel w k r e f = ap (λ (q : Rel). under_weight q (1 * w / k)) r ∙ ap (λ (n : ℕ). 1 * n / k) e ∙ ap (λ (n : ℕ). 1 * 1 / n) f

pub over-one : (rel : Rel) (w k : ℕ) → rel ≡ Eq → w ≡ 1 → k ≡ 1 → over_weight rel (1 * w / k) ≡ 1
over-one rel w k r e f = ap (λ (q : Rel). over_weight q (1 * w / k)) r ∙ ap (λ (n : ℕ). 1 * n / k) e ∙ ap (λ (n : ℕ). 1 * 1 / n) f

pub whole-one : (l : Line) (level : ℕ) → (l.level ≡ level → l.scale ≡ 1) → l.scale ∣ 1 * weight_at l level
whole-one l level h = elim (cases_eq l.level level) [
  | inl e ↦ subst (λ (k : ℕ). k ∣ 1 * weight_at l level) (sym (h e)) (one-dvd (1 * weight_at l level))
  | inr ne ↦ subst (λ (n : ℕ). l.scale ∣ n) (sym (ap (λ (w : ℕ). 1 * w) (no_weight l level ne))) (dvd-zero l.scale)
]

pub stay-unit : (p : Problem) (level attr : ℕ) → IsStayLevel p level attr → IsLevelUnit p level 1
stay-unit p level attr is = record {
  above = omega arith;
  whole = All-from_recursion (λ l. l.scale ∣ 1 * weight_at l level) (lines p)
      (each-impl (λ l. l.level ≡ level → (l.name ≡ StayOf attr) × (l.rel ≡ Eq) × (l.scale ≡ 1) × (l.weight ≡ 1)) _ (lines p) (λ l h. whole-one l level (λ e. (h e).2)) (recursion_from_All _ (lines p) is.own));
  least = λ n h. one-dvd n;
}

-- ---- the row

pub same-over : (a b : RowName) → place_of a Over ≡ place_of b Over → a ≡ b
same-over a b e = same-name a b (let m = over_next a in let n = over_next b in omega (arith, e, m, n))

opposite : (y n : ℤ) → n ≡ neg_ℤ y → y ≡ neg_ℤ n
opposite y n e = omega (arith, ints, e)

not-under : (attr : ℕ) (side : Side) (l : Line) → l.name ≢ StayOf attr → place_of l.name Under ≢ place_of (StayOf attr) side
not-under attr Under l ne e = ne (same-name l.name (StayOf attr) e)
not-under attr Over l ne e = sides_apart (StayOf attr) l.name (sym e)

not-over : (attr : ℕ) (side : Side) (l : Line) → l.name ≢ StayOf attr → place_of l.name Over ≢ place_of (StayOf attr) side
not-over attr Under l ne e = sides_apart l.name (StayOf attr) e
not-over attr Over l ne e = ne (same-over l.name (StayOf attr) e)

at-under : (p : Problem) (at : List Mark) (attr own : ℕ) (side : Side) (entry : ℕ → ℤ) (l : Line) → IsCorner p at → IsIn (place_of (StayOf attr) side) at → entry (place_of (StayOf attr) side) ≡ pos own → IsSmall l.name → l.name ≡ StayOf attr → IsIn (place_of l.name Under) at → entry (place_of l.name Under) ≡ pos own
at-under p at attr own Under entry l corner inside is small e i = ap (λ (n : RowName). entry (place_of n Under)) e ∙ is
at-under p at attr own Over entry l corner inside is small e i = absurd (one_mark p at l.name small corner i (subst (λ (n : RowName). IsIn (place_of n Over) at) (sym e) inside))

at-over : (p : Problem) (at : List Mark) (attr own : ℕ) (side : Side) (entry : ℕ → ℤ) (l : Line) → IsCorner p at → IsIn (place_of (StayOf attr) side) at → entry (place_of (StayOf attr) side) ≡ pos own → IsSmall l.name → l.name ≡ StayOf attr → IsIn (place_of l.name Over) at → entry (place_of l.name Over) ≡ pos own
at-over p at attr own Under entry l corner inside is small e i = absurd (one_mark p at l.name small corner (subst (λ (n : RowName). IsIn (place_of n Under) at) (sym e) inside) i)
at-over p at attr own Over entry l corner inside is small e i = ap (λ (n : RowName). entry (place_of n Over)) e ∙ is

under-row : (p : Problem) (at : List Mark) (level attr own : ℕ) (side : Side) (row : RowName → ℤ) (entry : ℕ → ℤ) (l : Line) → IsCorner p at → IsIn (place_of (StayOf attr) side) at → entry (place_of (StayOf attr) side) ≡ pos own → IsSmall l.name
    → (l.level ≡ level → (l.name ≡ StayOf attr) × (l.rel ≡ Eq) × (l.scale ≡ 1) × (l.weight ≡ 1)) → (l.name ≡ StayOf attr → l.level ≡ level)
    → entry (place_of l.name Under) ≡ row l.name → (IsIn (place_of l.name Under) at → place_of l.name Under ≢ place_of (StayOf attr) side → entry (place_of l.name Under) ≡ pos 0)
    → IsIn (place_of l.name Under) at → row l.name ≡ pos (own * under_share 1 level l)
under-row p at level attr own side row entry l corner inside is small here named same zero i =
    elim (cases_eq l.level level) [
      | inl e ↦
          let one : own * under_share 1 level l ≡ own = let h = under-one l.rel (weight_at l level) l.scale (here e).1 (own_weight l level e ∙ (here e).3) (here e).2 in ap (λ (n : ℕ). own * n) h ∙ omega arith in
          sym same ∙ at-under p at attr own side entry l corner inside is small (here e).0 i ∙ ap pos (sym one)
      | inr ne ↦ sym same ∙ zero i (not-under attr side l (λ e. ne (named e))) ∙ ap pos (sym (no-share own (under_share 1 level l) (no-under 1 level l ne)))
    ]

over-row : (p : Problem) (at : List Mark) (level attr own : ℕ) (side : Side) (row : RowName → ℤ) (entry : ℕ → ℤ) (l : Line) → IsCorner p at → IsIn (place_of (StayOf attr) side) at → entry (place_of (StayOf attr) side) ≡ pos own → IsSmall l.name
    → (l.level ≡ level → (l.name ≡ StayOf attr) × (l.rel ≡ Eq) × (l.scale ≡ 1) × (l.weight ≡ 1)) → (l.name ≡ StayOf attr → l.level ≡ level)
    → entry (place_of l.name Over) ≡ neg_ℤ (row l.name) → (IsIn (place_of l.name Over) at → place_of l.name Over ≢ place_of (StayOf attr) side → entry (place_of l.name Over) ≡ pos 0)
    → IsIn (place_of l.name Over) at → row l.name ≡ neg_ℤ (pos (own * over_share 1 level l))
over-row p at level attr own side row entry l corner inside is small here named same zero i =
    elim (cases_eq l.level level) [
      | inl e ↦
          let one : own * over_share 1 level l ≡ own = let h = over-one l.rel (weight_at l level) l.scale (here e).1 (own_weight l level e ∙ (here e).3) (here e).2 in ap (λ (n : ℕ). own * n) h ∙ omega arith in
          opposite (row l.name) (entry (place_of l.name Over)) same ∙ ap neg_ℤ (at-over p at attr own side entry l corner inside is small (here e).0 i ∙ ap pos (sym one))
      | inr ne ↦ opposite (row l.name) (entry (place_of l.name Over)) same ∙ ap neg_ℤ (zero i (not-over attr side l (λ e. ne (named e))) ∙ ap pos (sym (no-share own (over_share 1 level l) (no-over 1 level l ne))))
    ]

-- the row of an inside stay is that of its level
pub stay_level_row : (p : Problem) (at : List Mark) (level attr own : ℕ) (side : Side) (row : RowName → ℤ) (entry : ℕ → ℤ) → IsWhole p → IsCorner p at → IsStayLevel p level attr → IsIn (place_of (StayOf attr) side) at → IsRowOf p at (place_of (StayOf attr) side) row entry → entry (place_of (StayOf attr) side) ≡ pos own → 0 < own
    → ((k : ℕ) → k ∣ own → All (λ l. (IsIn (place_of l.name Under) at → ⊥) → (IsIn (place_of l.name Over) at → ⊥) → k ∣ unsigned_abs (row l.name)) (lines p) → k ≡ 1) → IsLevelUnit p level 1 × IsLevelRow p at level 1 own row
stay_level_row p at level attr own side row entry whole corner is inside r own_is above low =
    let small : Each (λ l. IsSmall l.name) (lines p) = rows_small p.rows (stay_lines 1001 p.stays) (recursion_from_All _ _ whole.rows) (stays_small 1001 p.stays (recursion_from_All _ _ whole.stays)) in
    let known = each-both _ _ (lines p) small (each-both _ _ (lines p) (recursion_from_All _ (lines p) is.own) (recursion_from_All _ (lines p) is.named)) in (
      stay-unit p level attr is,
      record {
        own_positive = above;
        cancel = r.cancel;
        under = All-from_recursion (λ l. IsIn (place_of l.name Under) at → row l.name ≡ pos (own * under_share 1 level l)) (lines p)
            (each-impl _ _ (lines p) (λ l h. under-row p at level attr own side row entry l corner inside own_is h.0.0 h.0.1.0 h.0.1.1 h.1.0 h.1.1)
            (each-both _ _ (lines p) known (each-both _ _ (lines p) (recursion_from_All _ (lines p) r.under) (recursion_from_All _ (lines p) (r.inside_zero Under)))));
        over = All-from_recursion (λ l. IsIn (place_of l.name Over) at → row l.name ≡ neg_ℤ (pos (own * over_share 1 level l))) (lines p)
            (each-impl _ _ (lines p) (λ l h. over-row p at level attr own side row entry l corner inside own_is h.0.0 h.0.1.0 h.0.1.1 h.1.0 h.1.1)
            (each-both _ _ (lines p) known (each-both _ _ (lines p) (recursion_from_All _ (lines p) r.over) (recursion_from_All _ (lines p) (r.inside_zero Over)))));
        lowest = low;
      },
    )
