-- Which of two columns over their numbers is the lesser, by their fronts.
use Rattle.std.proofs.Common.{◌≡◌, ◌≢◌, ◌∙◌, inl, inr, refl, ℕ, zero, suc, ◌<◌, ◌≤◌, List, ℤ, pos, negsuc, ◌*ℤ◌, ◌-ℤ◌, ◌≤ℤ◌, ◌<ℤ◌, sym, ap, subst, arith}
use borrow.Author.Differences.{ints}
use Rattle.frac_core.proofs.Integers.{mul-zero_ℤ, mul_positive}
use Rattle.std.proofs.lemmas.List.Elements.{recursion_from_All}
use Rattle.problem_core.specs.declared.parts.Level.{Level}
use Rattle.problem_core.specs.declared.parts.Level.TheVariants.{Priority, Stay as StayLevel}
use Rattle.problem_core.specs.declared.parts.Mark.{Mark}
use Rattle.problem_core.specs.declared.parts.Rel.TheVariants.{Eq}
use Rattle.problem_core.specs.declared.parts.RowName.TheVariants.{Stay as StayOf}
use Rattle.problem_core.specs.Layout.{Problem, lines, stay_lines}
use Rattle.problem_core.specs.Certificates.{IsLexNonnegative}
use Rattle.problem_core.specs.Corners.{NoNegativeColumn, place}
use Rattle.problem_core.specs.Kept.{IsWhole}
use Rattle.problem_core.specs.Levels.{IsLevelAt}
use Rattle.problem_core.proofs.RowNames.{stay-same}
use Rattle.frac_core.proofs.Orders.{three as order}
use Rattle.corner_laws.proofs.RunSteps.ColumnSigns.{negative_by_reduced, pick}
use Rattle.corner_view.specs.declared.types.Front.{Front}
use Rattle.corner_view.specs.Fronts.{HasNoFront, IsFrontOf}
use Rattle.corner_view.specs.Seen.{IsKeptCorner, IsMarkOf, IsStronger}
use Rattle.corner_ends.specs.Columns.{Reduced}
use Rattle.corner_ends.proofs.Fronts.{front_below, level_named, reduced_there, some_line}
use Rattle.corner_ends.proofs.Signs.{not_both_signs}
use Rattle.dual_run.specs.declared.ratios.Choice.{Choice}
use Rattle.dual_run.specs.Entering.{IsNoGreater, IsPositive}
use Rattle.dual_run.proofs.Lesser.{lex_at, lex_same, lex_times}
use Rattle.dual_run.proofs.Orders.{both-zero, cost_there}
use Rattle.corner_view.proofs.Facts.{past-rows, tail-level, up_or_low}
use Rattle.corner_lines.proofs.LevelRows.StayRows.{level_one, stay_stands_alone}

not-none : (z : ℤ) → pos 0 ≤ℤ z → z ≢ pos 0 → pos 0 <ℤ z
not-none (negsuc n) up some = absurd (omega (arith, ints, up))
not-none (pos zero) up some = absurd (some refl)
not-none (pos (suc n)) up some = omega (arith, ints)

-- no column is negative, so fronts are above 0
pub front_up : (p : Problem) (at : List Mark) (m : Mark) (f : Front) → IsKeptCorner p at → NoNegativeColumn p at → IsMarkOf p m → IsFrontOf p at m f → pos 0 <ℤ f.reduced
front_up p at m f kept columns mark front =
    elim (up_or_low f.reduced) [
      | inl up ↦ not-none f.reduced up front.nonzero
      | inr low ↦ absurd (not_both_signs p at m kept.whole kept.rays columns (front_below p at m f kept mark front low).column)
    ]

-- before its front a mark costs nothing
pub none_before : (p : Problem) (at : List Mark) (r : Reduced p at) (m : Mark) (f : Front) (k j : ℕ) → IsKeptCorner p at → IsMarkOf p m → IsFrontOf p at m f → IsLevelAt p f.level k → j < k → r.costs j (place m) ≡ pos 0
none_before p at r m f k j kept mark front here less =
    elim (some_line (lines p) j) [
      | inl used ↦
          let named = level_named p j kept.whole used in
          reduced_there p at r named.0 j m (pos 0) kept.whole kept.rays mark used named.1
          (front.first named.0 (used.0, used.1, used.2, used.3, subst (λ (n : ℕ). IsLevelAt p named.0 n) (sym used.4) named.1)
          (λ a b first second.
          let x : a ≡ j = level_one p named.0 a j kept.whole first named.1 in
          let y : b ≡ k = level_one p f.level b k kept.whole second here in
          omega (arith, x, y, less)))
      | inr none ↦ r.unused j none (place m)
    ]

pub none_at : (p : Problem) (at : List Mark) (r : Reduced p at) (m : Mark) (j : ℕ) → IsKeptCorner p at → IsMarkOf p m → HasNoFront p at m → r.costs j (place m) ≡ pos 0
none_at p at r m j kept mark none_there =
    elim (some_line (lines p) j) [
      | inl used ↦
          let named = level_named p j kept.whole used in
          reduced_there p at r named.0 j m (pos 0) kept.whole kept.rays mark used named.1
          (none_there named.0 (used.0, used.1, used.2, used.3, subst (λ (n : ℕ). IsLevelAt p named.0 n) (sym used.4) named.1))
      | inr none ↦ r.unused j none (place m)
    ]

pub up-less : (a b x y : ℤ) → pos 0 <ℤ a → pos 0 <ℤ x → y ≡ pos 0 → pos 0 <ℤ (a *ℤ x -ℤ b *ℤ y)
up-less (negsuc a) b x y up above e = absurd (omega (arith, ints, up))
up-less (pos a) b x y up above e =
    let one : pos 0 <ℤ (pos a *ℤ x) = mul_positive a x (omega (arith, ints, up)) above in
    let two : b *ℤ y ≡ pos 0 = ap (λ (z : ℤ). b *ℤ z) e ∙ mul-zero_ℤ b in
    omega (arith, ints, one, two)

stay_above : (p : Problem) (attr k : ℕ) → IsLevelAt p (StayLevel attr) k → 1001 ≤ k
stay_above p attr k is = tail-level attr k 1001 p.stays (past-rows attr k p.rows (stay_lines 1001 p.stays) is)

not-more : (j k : ℕ) → k < j → j ≤ k → ⊥
not-more j k more le = omega (arith, more, le)

-- a number is that of one level
level_same : (p : Problem) (a b : Level) (k : ℕ) → IsWhole p → IsLevelAt p a k → IsLevelAt p b k → a ≡ b
level_same p (Priority m) (Priority n) k whole x y = ap (λ (r : ℕ). Priority r) (omega (arith, x, y))
level_same p (Priority m) (StayLevel attr) k whole x y = absurd (omega (arith, x, stay_above p attr k y))
level_same p (StayLevel attr) (Priority n) k whole x y = absurd (omega (arith, y, stay_above p attr k x))
level_same p (StayLevel m) (StayLevel n) k whole (i, l, within, is, (name, e)) y =
    ap (λ (a : ℕ). StayLevel a) (stay-same m n (sym name ∙ (pick (λ l. l.level ≡ k → (l.name ≡ StayOf n) × (l.rel ≡ Eq) × (l.scale ≡ 1) × (l.weight ≡ 1)) (lines p) i l (recursion_from_All _ (lines p) (stay_stands_alone p n k whole y).own) within is e).0))

-- of two levels one is the stronger
pub other_stronger : (p : Problem) (a b : Level) → IsWhole p → a ≢ b → ((j k : ℕ) → IsLevelAt p a j → IsLevelAt p b k → k ≤ j) → IsStronger p b a
other_stronger p a b whole apart weaker j k x y = elim (order j k) [
  | inl less ↦ less
  | inr (inl same) ↦ absurd (apart (level_same p a b k whole y (subst (IsLevelAt p b) same x)))
  | inr (inr more) ↦ absurd (not-more j k more (weaker k j y x))
]

-- the weaker front is the lesser
pub weaker_front : (p : Problem) (at : List Mark) (a b : Choice) (f g : Front) → IsKeptCorner p at → NoNegativeColumn p at → IsPositive p a → IsPositive p b → IsFrontOf p at a.mark f → IsFrontOf p at b.mark g → IsStronger p g.level f.level → IsNoGreater p at a b
weaker_front p at a b f g kept columns x y front other stronger r =
    let j = front.reduced.0 in
    let k = other.reduced.0 in
    let less : k < j = stronger k j other.reduced.1 front.reduced.1 in
    lex_at (λ i. a.by *ℤ r.costs i (place b.mark) -ℤ b.by *ℤ r.costs i (place a.mark)) k
    (λ i before. both-zero a.by b.by (r.costs i (place b.mark)) (r.costs i (place a.mark)) (none_before p at r b.mark g k i kept y.mark other other.reduced.1 before) (none_before p at r a.mark f j i kept x.mark front front.reduced.1 (omega (arith, before, less))))
    (up-less a.by b.by (r.costs k (place b.mark)) (r.costs k (place a.mark)) x.above
    (subst (λ (z : ℤ). pos 0 <ℤ z) (sym (cost_there p at g.level b.mark g.reduced kept other.used y.mark other.reduced r k other.reduced.1)) (front_up p at b.mark g kept columns y.mark other))
    (none_before p at r a.mark f j k kept x.mark front front.reduced.1 less))

above-by : (a b x y u v : ℤ) → u ≡ x → v ≡ y → (b *ℤ x) <ℤ (a *ℤ y) → pos 0 <ℤ (a *ℤ v -ℤ b *ℤ u)
above-by a b x y u v e f less =
    let one : b *ℤ u ≡ b *ℤ x = ap (λ (z : ℤ). b *ℤ z) e in
    let two : a *ℤ v ≡ a *ℤ y = ap (λ (z : ℤ). a *ℤ z) f in
    omega (arith, ints, one, two, less)

-- of fronts at one level the lesser ratio is the lesser
pub lesser_ratio : (p : Problem) (at : List Mark) (a b : Choice) (f g : Front) → IsKeptCorner p at → IsPositive p a → IsPositive p b → IsFrontOf p at a.mark f → IsFrontOf p at b.mark g → f.level ≡ g.level → (b.by *ℤ f.reduced) <ℤ (a.by *ℤ g.reduced) → IsNoGreater p at a b
lesser_ratio p at a b f g kept x y front other e less r =
    let k = other.reduced.0 in
    let here : IsLevelAt p f.level k = subst (λ (l : Level). IsLevelAt p l k) (sym e) other.reduced.1 in
    lex_at (λ i. a.by *ℤ r.costs i (place b.mark) -ℤ b.by *ℤ r.costs i (place a.mark)) k
    (λ i before. both-zero a.by b.by (r.costs i (place b.mark)) (r.costs i (place a.mark)) (none_before p at r b.mark g k i kept y.mark other other.reduced.1 before) (none_before p at r a.mark f k i kept x.mark front here before))
    (above-by a.by b.by f.reduced g.reduced (r.costs k (place a.mark)) (r.costs k (place b.mark))
    (cost_there p at f.level a.mark f.reduced kept front.used x.mark front.reduced r k here) (cost_there p at g.level b.mark g.reduced kept other.used y.mark other.reduced r k other.reduced.1) less)

pub column-up : (p : Problem) (at : List Mark) (r : Reduced p at) (m : Mark) → IsKeptCorner p at → NoNegativeColumn p at → IsMarkOf p m → IsLexNonnegative (λ i. r.costs i (place m))
column-up p at r m kept columns mark k none =
    elim (up_or_low (r.costs k (place m))) [
      | inl up ↦ up
      | inr low ↦ absurd (not_both_signs p at m kept.whole kept.rays columns (negative_by_reduced p at r.costs m kept.whole r.are mark (k, none, low)))
    ]

less-none : (a b x y : ℤ) → y ≡ pos 0 → a *ℤ x -ℤ b *ℤ y ≡ a *ℤ x
less-none a b x y e =
    let two : b *ℤ y ≡ pos 0 = ap (λ (z : ℤ). b *ℤ z) e ∙ mul-zero_ℤ b in
    omega (arith, ints, two)

-- a column without a front is the least
pub no_front_lesser : (p : Problem) (at : List Mark) (a b : Choice) → IsKeptCorner p at → NoNegativeColumn p at → IsPositive p a → IsPositive p b → HasNoFront p at a.mark → IsNoGreater p at a b
no_front_lesser p at a b kept columns x y none r =
    lex_same (λ i. a.by *ℤ r.costs i (place b.mark) -ℤ b.by *ℤ r.costs i (place a.mark)) (λ i. a.by *ℤ r.costs i (place b.mark))
    (λ i. less-none a.by b.by (r.costs i (place b.mark)) (r.costs i (place a.mark)) (none_at p at r a.mark i kept x.mark none))
    (lex_times a.by (λ i. r.costs i (place b.mark)) x.above (column-up p at r b.mark kept columns y.mark))
