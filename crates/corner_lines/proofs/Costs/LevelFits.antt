-- When what a level costs fits, told by its row.
use Rattle.std.proofs.Common.{◌≡◌, ◌≢◌, ◌∙◌, ℕ, suc, ◌*◌, ◌/◌, ◌<◌, ◌≤◌, ◌^◌, Bool, cond, nat_eq, List, [], ◌∷◌, map, ℤ, pos, negsuc, ◌+ℤ◌, ◌-ℤ◌, ◌*ℤ◌, neg_ℤ, unsigned_abs, refl, sym, ap, subst, arith, inl, inr, eq-eqb, ne_eqb}
use Rattle.std.specs.List.{AllByRecursion as Each}
use Rattle.std.specs.Int.{◌∣◌}
use Rattle.std.proofs.lemmas.Bool.{cases_Bool}
use Rattle.std.proofs.lemmas.Int.{unsigned_abs-mul}
use Rattle.std.proofs.lemmas.Nat.Gcd.{dvd_antisymm, dvd_refl, dvd_trans, dvd-zero}
use Rattle.std.proofs.Math.Nat.{dvd-mul_right, mul-div_cancel', mul-dvd-mul_right, div-le_self, le_refl, le_trans, mul-le-mul, pos_of_dvd_of_pos}
use Rattle.std.proofs.lemmas.List.Elements.{All-from_recursion, recursion_from_All}
use borrow.Author.Differences.{ints}
use Rattle.frac_core.specs.Fraction.{Fits, IsFitting}
use Rattle.frac_core.proofs.Gauss.{Reduces, reduces, scaled}
use Rattle.problem_core.specs.declared.parts.Mark.{Mark}
use Rattle.problem_core.specs.declared.parts.Rel.{Rel}
use Rattle.problem_core.specs.declared.parts.Rel.TheVariants.{Eq, Le, Ge}
use Rattle.problem_core.specs.declared.parts.Side.{Side}
use Rattle.problem_core.specs.declared.parts.Side.TheVariants.{Under, Over}
use Rattle.problem_core.specs.declared.parts.RowName.{RowName}
use Rattle.problem_core.specs.Layout.{IsProblem, Line, Problem, lines}
use Rattle.problem_core.specs.Corners.{IsIn, place_of}
use Rattle.problem_core.specs.Certificates.{under_weight, over_weight, weight_at}
use Rattle.problem_core.specs.Rays.{HasRays}
use Rattle.problem_core.specs.Levels.{AreFitting, IsLevelWriting}
use Rattle.problem_core.proofs.Corners.CornerFacts.{is_place}
use Rattle.problem_core.proofs.Forms.{each-impl, each-both}
use Rattle.corner_laws.specs.Units.{IsLevelRow, IsLevelUnit, IsReducedBy, over_share, under_share}
use Rattle.corner_laws.proofs.Counting.{IsIn-from_is_place, sides_apart}
use Rattle.corner_laws.proofs.LevelCosts.Equal.{all_same, writing-sum, sizes, share-divides}
use Rattle.corner_laws.proofs.MarkWritings.Equations.{cancel-number}
use Rattle.corner_laws.proofs.LevelCosts.LevelNumbers.{level_numbers}
use Rattle.corner_laws.proofs.LevelCosts.LevelSizes.{level_fits}
use Rattle.corner_laws.proofs.LevelCosts.Unique.{same-name}
use Rattle.corner_laws.proofs.ZeroColumns.{not-in}
use Rattle.corner_lines.specs.LineEquations.{IsOutsideLine}
use Rattle.corner_lines.specs.Levels.LevelRows.{HasLevelRow, IsDividedRow, inside_number, reduced_number}
use Rattle.corner_lines.specs.Levels.LevelCosts.{AreDifferent, IsSound}
use Rattle.problem_core.specs.declared.limits.TheConstants.{WEIGHT_LIMIT}
use Rattle.corner_lines.specs.Levels.LevelFits.{FittingRowHasWriting, SmallRowFits, UnfitMultipleHasNoWriting, UnfitRowHasNoWriting}
use Rattle.corner_laws.specs.LevelLaws.{small_number, small_scale}
use Rattle.corner_lines.proofs.LevelRows.LevelDivided.{divided-same, divided_row_is_row, outside-false}
use Rattle.corner_lines.proofs.LevelRows.LevelExchanges.{inside-numbers}
use Rattle.corner_lines.proofs.Costs.LevelPlaces.{cost_same}
use Rattle.corner_laws.proofs.LevelCosts.StayLevels.{same-over}
use Rattle.corner_laws.proofs.LevelCosts.LevelExists.{quotient}
use Rattle.frac_core.proofs.Numbers.{only-one as one-left, part-less as smaller, mul-neg as mul-opp}

-- ---- a function of columns with given numbers at the lines' marks

abbrev pub look_up : (Side → Line → ℤ) → List Line → ℕ → ℤ
look_up f [] c = pos 0
look_up f (l ∷ ls) c = cond (nat_eq (place_of l.name Under) c) (f Under l) (cond (nat_eq (place_of l.name Over) c) (f Over l) (look_up f ls c))

there-under : (f : Side → Line → ℤ) (l : Line) (ls : List Line) (c : ℕ) → place_of l.name Under ≡ c → look_up f (l ∷ ls) c ≡ f Under l
there-under f l ls c e = ap (λ (b : Bool). cond b (f Under l) (cond (nat_eq (place_of l.name Over) c) (f Over l) (look_up f ls c))) (eq-eqb (place_of l.name Under) c e)

there-over : (f : Side → Line → ℤ) (l : Line) (ls : List Line) (c : ℕ) → place_of l.name Under ≢ c → place_of l.name Over ≡ c → look_up f (l ∷ ls) c ≡ f Over l
there-over f l ls c ne e =
    ap (λ (b : Bool). cond b (f Under l) (cond (nat_eq (place_of l.name Over) c) (f Over l) (look_up f ls c))) (ne_eqb (place_of l.name Under) c ne)
    ∙ ap (λ (b : Bool). cond b (f Over l) (look_up f ls c)) (eq-eqb (place_of l.name Over) c e)

further : (f : Side → Line → ℤ) (l : Line) (ls : List Line) (c : ℕ) → place_of l.name Under ≢ c → place_of l.name Over ≢ c → look_up f (l ∷ ls) c ≡ look_up f ls c
further f l ls c n m =
    ap (λ (b : Bool). cond b (f Under l) (cond (nat_eq (place_of l.name Over) c) (f Over l) (look_up f ls c))) (ne_eqb (place_of l.name Under) c n)
    ∙ ap (λ (b : Bool). cond b (f Over l) (look_up f ls c)) (ne_eqb (place_of l.name Over) c m)

back-names : (n : RowName) (ls : List Line) → Each (λ m. n ≢ m) (map (λ (l : Line). l.name) ls) → Each (λ l. n ≢ l.name) ls
back-names n [] h = tt
back-names n (l ∷ ls) h = (h.0, back-names n ls h.1)

pub looked-up : (f : Side → Line → ℤ) (ls : List Line) → AreDifferent (map (λ l. l.name) ls) → Each (λ k. (look_up f ls (place_of k.name Under) ≡ f Under k) × (look_up f ls (place_of k.name Over) ≡ f Over k)) ls
looked-up f [] h = tt
looked-up f (l ∷ ls) h = (
  (there-under f l ls (place_of l.name Under) refl, there-over f l ls (place_of l.name Over) (λ e. sides_apart l.name l.name (sym e)) refl),
  each-impl (λ k. (l.name ≢ k.name) × ((look_up f ls (place_of k.name Under) ≡ f Under k) × (look_up f ls (place_of k.name Over) ≡ f Over k))) _ ls
      (λ k e. (
        further f l ls (place_of k.name Under) (λ q. e.0 (same-name l.name k.name q)) (sides_apart l.name k.name) ∙ e.1.0,
        further f l ls (place_of k.name Over) (λ q. sides_apart k.name l.name (sym q)) (λ q. e.0 (same-over l.name k.name q)) ∙ e.1.1,
      ))
      (each-both _ _ ls (back-names l.name ls (recursion_from_All (λ m. l.name ≢ m) (map (λ (l : Line). l.name) ls) h.0)) (looked-up f ls h.1)),
)

-- ---- the reduced costs of a row

abbrev pub reduced_by : Problem → (level unit own : ℕ) → (RowName → ℤ) → ℕ → ℤ
reduced_by p level unit own by = look_up (λ side l. reduced_number side level unit own (by l.name) l) (lines p)

pub reduced-is : (p : Problem) (level unit own : ℕ) (by : RowName → ℤ) → IsSound p → Each (λ k. (reduced_by p level unit own by (place_of k.name Under) ≡ reduced_number Under level unit own (by k.name) k) × (reduced_by p level unit own by (place_of k.name Over) ≡ reduced_number Over level unit own (by k.name) k)) (lines p)
reduced-is p level unit own by sound = looked-up (λ side l. reduced_number side level unit own (by l.name) l) (lines p) sound.names

pub reduced-by : (p : Problem) (level unit own : ℕ) (by : RowName → ℤ) → IsSound p → IsReducedBy p level unit own by (reduced_by p level unit own by)
reduced-by p level unit own by sound =
    let each = reduced-is p level unit own by sound in
    record {
      under = All-from_recursion (λ l. reduced_by p level unit own by (place_of l.name Under) ≡ pos (own * under_share unit level l) -ℤ by l.name) (lines p) (each-impl (λ k. (reduced_by p level unit own by (place_of k.name Under) ≡ reduced_number Under level unit own (by k.name) k) × (reduced_by p level unit own by (place_of k.name Over) ≡ reduced_number Over level unit own (by k.name) k)) _ (lines p) (λ l h. h.0) each);
      over = All-from_recursion (λ l. reduced_by p level unit own by (place_of l.name Over) ≡ pos (own * over_share unit level l) +ℤ by l.name) (lines p) (each-impl (λ k. (reduced_by p level unit own by (place_of k.name Under) ≡ reduced_number Under level unit own (by k.name) k) × (reduced_by p level unit own by (place_of k.name Over) ≡ reduced_number Over level unit own (by k.name) k)) _ (lines p) (λ l h. h.1) each);
    }

-- the level's writing
pub row-writing : (p : Problem) (at : List Mark) (level unit own : ℕ) (by : RowName → ℤ) → IsSound p → IsLevelUnit p level unit → IsLevelRow p at level unit own by → IsLevelWriting p at level (own * unit) by (reduced_by p level unit own by)
row-writing p at level unit own by sound is row = level_numbers p at level unit own by (reduced_by p level unit own by) is row (reduced-by p level unit own by sound)

-- ---- a writing that fits

pub record Fitting (p : Problem) (at : List Mark) (level unit own : ℕ) (by number : RowName → ℤ) (l : Line) : Type 0 where
  pub under_is : reduced_by p level unit own by (place_of l.name Under) ≡ reduced_number Under level unit own (by l.name) l
  pub over_is : reduced_by p level unit own by (place_of l.name Over) ≡ reduced_number Over level unit own (by l.name) l
  pub inside : (side : Side) → IsIn (place_of l.name side) at → by l.name ≡ inside_number side level unit own l
  pub outside : IsOutsideLine at l.name → by l.name ≡ number l.name
  pub own_fit : l.level ≡ level → IsOutsideLine at l.name → (side : Side) → IsFitting (reduced_number side level unit own (number l.name) l)
  pub inside_fit : l.level ≡ level → (side inside : Side) → IsIn (place_of l.name inside) at → IsFitting (reduced_number side level unit own (inside_number inside level unit own l) l)

pub fit-of : (side : Side) (level unit own : ℕ) (y z : ℤ) (l : Line) → y ≡ z → IsFitting (reduced_number side level unit own z l) → IsFitting (reduced_number side level unit own y l)
fit-of side level unit own y z l e h = subst (λ (t : ℤ). IsFitting (reduced_number side level unit own t l)) (sym e) h

pub reduced-fits : (p : Problem) (at : List Mark) (level unit own : ℕ) (by number : RowName → ℤ) (l : Line) → Fitting p at level unit own by number l → l.level ≡ level → (side : Side) → IsFitting (reduced_number side level unit own (by l.name) l)
reduced-fits p at level unit own by number l f e side =
    elim (cases_Bool (is_place at (place_of l.name Under))) [
      | inl i ↦ let here = IsIn-from_is_place (place_of l.name Under) at i in fit-of side level unit own (by l.name) (inside_number Under level unit own l) l (f.inside Under here) (f.inside_fit e side Under here)
      | inr a ↦ elim (cases_Bool (is_place at (place_of l.name Over))) [
        | inl i ↦ let here = IsIn-from_is_place (place_of l.name Over) at i in fit-of side level unit own (by l.name) (inside_number Over level unit own l) l (f.inside Over here) (f.inside_fit e side Over here)
        | inr b ↦
            let out : IsOutsideLine at l.name = record { under = not-in at (place_of l.name Under) a; over = not-in at (place_of l.name Over) b } in
            fit-of side level unit own (by l.name) (number l.name) l (f.outside out) (f.own_fit e out side)
      ]
    ]

pub fitting_row_has_writing : FittingRowHasWriting
fitting_row_has_writing p at level unit own number cost there fit costs none =
    let by : RowName → ℤ = there.row.by in
    let reduced : ℕ → ℤ = reduced_by p level unit own by in
    let known : Each (Fitting p at level unit own by number) (lines p) =
    each-impl (λ l. (((reduced_by p level unit own by (place_of l.name Under) ≡ reduced_number Under level unit own (by l.name) l) × (reduced_by p level unit own by (place_of l.name Over) ≡ reduced_number Over level unit own (by l.name) l)) × (((side : Side) → IsIn (place_of l.name side) at → by l.name ≡ inside_number side level unit own l) × (IsOutsideLine at l.name → by l.name ≡ number l.name)))
    × ((l.level ≡ level → IsOutsideLine at l.name → (side : Side) → IsFitting (reduced_number side level unit own (number l.name) l)) × (l.level ≡ level → (side inside : Side) → IsIn (place_of l.name inside) at → IsFitting (reduced_number side level unit own (inside_number inside level unit own l) l)))) _ (lines p)
    (λ l h. record { under_is = h.0.0.0; over_is = h.0.0.1; inside = h.0.1.0; outside = h.0.1.1; own_fit = h.1.0; inside_fit = h.1.1 })
    (each-both _ _ (lines p) (each-both _ _ (lines p) (reduced-is p level unit own by there.sound) (each-both _ _ (lines p) (inside-numbers p at level unit own by there.row.row) (recursion_from_All _ (lines p) there.row.outside)))
    (each-both _ _ (lines p) (recursion_from_All _ (lines p) fit.own_fit) (recursion_from_All _ (lines p) fit.inside_fit))) in
    let fits : AreFitting p (own * unit) by reduced =
    level_fits p at level unit own by reduced there.row.row (reduced-by p level unit own by there.sound)
    (record {
      scale_fits = fit.scale_fits;
      outside_fit = All-from_recursion (λ l. (IsIn (place_of l.name Under) at → ⊥) → (IsIn (place_of l.name Over) at → ⊥) → IsFitting (by l.name)) (lines p)
          (each-impl (λ l. Fitting p at level unit own by number l × (IsOutsideLine at l.name → IsFitting (number l.name))) _ (lines p)
          (λ l h u o. subst IsFitting (sym (h.0.outside (record { under = u; over = o }))) (h.1 (record { under = u; over = o })))
          (each-both _ _ (lines p) known (recursion_from_All _ (lines p) fit.outside_fit)));
      own_fit = All-from_recursion (λ l. l.level ≡ level → IsFitting (reduced (place_of l.name Under)) × IsFitting (reduced (place_of l.name Over))) (lines p)
          (each-impl (Fitting p at level unit own by number) _ (lines p)
          (λ l f e. (subst IsFitting (sym f.under_is) (reduced-fits p at level unit own by number l f e Under), subst IsFitting (sym f.over_is) (reduced-fits p at level unit own by number l f e Over))) known);
    }) in
    none (own * unit) by reduced cost (row-writing p at level unit own by there.sound there.unit_is there.row.row) there.cost_is fits (record { lowest = there.lowest; fits = costs })

-- ---- the numbers of two writings

divides-other : (p : Problem) (at : List Mark) (k s t : ℕ) (y z : RowName → ℤ) (r q : ℕ → ℤ) → IsProblem p → HasRays p at → IsLevelWriting p at k s y r → IsLevelWriting p at k t z q → s ∣ t
divides-other p at k s t y z r q problem rays f g =
    let d = scaled s t s (omega arith) in
    let red : Reduces t s d.0 = reduces t s d.0 f.scale_positive d.1 in
    let one : s / d.0 ≡ 1 =
    f.lowest (s / d.0) (subst (λ (n : ℕ). (s / d.0) ∣ n) red.den_is (dvd-mul_right (s / d.0) d.0))
    (All-from_recursion (λ l. ((s / d.0) ∣ unsigned_abs (y l.name)) × ((s / d.0) ∣ unsigned_abs (r (place_of l.name Under))) × ((s / d.0) ∣ unsigned_abs (r (place_of l.name Over)))) (lines p)
    (each-impl (λ l. (pos s *ℤ z l.name ≡ pos t *ℤ y l.name) × ((pos s *ℤ q (place_of l.name Under) ≡ pos t *ℤ r (place_of l.name Under)) × (pos s *ℤ q (place_of l.name Over) ≡ pos t *ℤ r (place_of l.name Over)))) _ (lines p)
    (λ l h. (
      share-divides s t d.0 (unsigned_abs (y l.name)) (unsigned_abs (z l.name)) red (sizes s t (y l.name) (z l.name) h.0),
      share-divides s t d.0 (unsigned_abs (r (place_of l.name Under))) (unsigned_abs (q (place_of l.name Under))) red (sizes s t (r (place_of l.name Under)) (q (place_of l.name Under)) h.1.0),
      share-divides s t d.0 (unsigned_abs (r (place_of l.name Over))) (unsigned_abs (q (place_of l.name Over))) red (sizes s t (r (place_of l.name Over)) (q (place_of l.name Over)) h.1.1),
    ))
    (all_same p at k s t y z r q problem rays (writing-sum p at k s y r f) (writing-sum p at k t z q g)))) in
    let whole_g : d.0 ≡ s = (let h : 1 * d.0 ≡ d.0 = omega arith in sym (ap (λ (n : ℕ). n * d.0) one ∙ h)) ∙ red.den_is in
    subst (λ (n : ℕ). n ∣ t) whole_g d.1.0

pub same_numbers : (p : Problem) (at : List Mark) (k s t : ℕ) (y z : RowName → ℤ) (r q : ℕ → ℤ) → IsProblem p → HasRays p at → IsLevelWriting p at k s y r → IsLevelWriting p at k t z q
    → (s ≡ t) × Each (λ l. (y l.name ≡ z l.name) × ((r (place_of l.name Under) ≡ q (place_of l.name Under)) × (r (place_of l.name Over) ≡ q (place_of l.name Over)))) (lines p)
same_numbers p at k s t y z r q problem rays f g =
    let same : s ≡ t = dvd_antisymm (divides-other p at k s t y z r q problem rays f g) (divides-other p at k t s z y q r problem rays g f) in (
      same,
      each-impl (λ l. (pos s *ℤ z l.name ≡ pos t *ℤ y l.name) × ((pos s *ℤ q (place_of l.name Under) ≡ pos t *ℤ r (place_of l.name Under)) × (pos s *ℤ q (place_of l.name Over) ≡ pos t *ℤ r (place_of l.name Over)))) _ (lines p)
          (λ l h. (cancel-number s t (y l.name) (z l.name) f.scale_positive same h.0, (cancel-number s t (r (place_of l.name Under)) (q (place_of l.name Under)) f.scale_positive same h.1.0, cancel-number s t (r (place_of l.name Over)) (q (place_of l.name Over)) f.scale_positive same h.1.1)))
          (all_same p at k s t y z r q problem rays (writing-sum p at k s y r f) (writing-sum p at k t z q g)),
    )

-- ---- a row that does not fit

-- what is known of a line where another writing fits
record Written (p : Problem) (at : List Mark) (level unit own : ℕ) (by number : RowName → ℤ) (l : Line) : Type 0 where
  inside : (side : Side) → IsIn (place_of l.name side) at → by l.name ≡ inside_number side level unit own l
  outside : IsOutsideLine at l.name → by l.name ≡ number l.name
  fits : IsFitting (by l.name)
  under_fits : IsFitting (reduced_number Under level unit own (by l.name) l)
  over_fits : IsFitting (reduced_number Over level unit own (by l.name) l)

side-fits : (p : Problem) (at : List Mark) (level unit own : ℕ) (by number : RowName → ℤ) (l : Line) → Written p at level unit own by number l → (side : Side) → IsFitting (reduced_number side level unit own (by l.name) l)
side-fits p at level unit own by number l w Under = w.under_fits
side-fits p at level unit own by number l w Over = w.over_fits

all-written : (p : Problem) (at : List Mark) (level unit own scale : ℕ) (number times : RowName → ℤ) (reduced : ℕ → ℤ) → IsSound p → HasRays p at → IsLevelUnit p level unit → (h : HasLevelRow p at level unit own number) → IsLevelWriting p at level scale times reduced → AreFitting p scale times reduced
    → (own * unit ≡ scale) × Each (Written p at level unit own h.by number) (lines p)
all-written p at level unit own scale number times reduced sound rays is h w fit =
    let by : RowName → ℤ = h.by in
    let same = same_numbers p at level (own * unit) scale by times (reduced_by p level unit own by) reduced sound.problem rays (row-writing p at level unit own by sound is h.row) w in (
      same.0,
      each-impl (λ l. (((side : Side) → IsIn (place_of l.name side) at → by l.name ≡ inside_number side level unit own l) × (IsOutsideLine at l.name → by l.name ≡ number l.name))
          × (((by l.name ≡ times l.name) × ((reduced_by p level unit own by (place_of l.name Under) ≡ reduced (place_of l.name Under)) × (reduced_by p level unit own by (place_of l.name Over) ≡ reduced (place_of l.name Over))))
          × (((reduced_by p level unit own by (place_of l.name Under) ≡ reduced_number Under level unit own (by l.name) l) × (reduced_by p level unit own by (place_of l.name Over) ≡ reduced_number Over level unit own (by l.name) l))
          × (IsFitting (times l.name) × (IsFitting (reduced (place_of l.name Under)) × IsFitting (reduced (place_of l.name Over))))))) _ (lines p)
          (λ l k. record {
            inside = k.0.0;
            outside = k.0.1;
            fits = subst IsFitting (sym k.1.0.0) k.1.1.1.0;
            under_fits = subst IsFitting (sym k.1.0.1.0 ∙ k.1.1.0.0) k.1.1.1.1.0;
            over_fits = subst IsFitting (sym k.1.0.1.1 ∙ k.1.1.0.1) k.1.1.1.1.1;
          })
          (each-both _ _ (lines p) (each-both _ _ (lines p) (inside-numbers p at level unit own by h.row) (recursion_from_All _ (lines p) h.outside))
          (each-both _ _ (lines p) same.1
          (each-both _ _ (lines p) (reduced-is p level unit own by sound)
          (each-both _ _ (lines p) (recursion_from_All _ (lines p) fit.times_fit) (each-both _ _ (lines p) (recursion_from_All _ (lines p) (fit.reduced_fit Under)) (recursion_from_All _ (lines p) (fit.reduced_fit Over))))))),
    )

pub unfit_row_has_no_writing : UnfitRowHasNoWriting
unfit_row_has_no_writing p at level unit own number cost there unfit scale times reduced value w costs fit kept =
    let written = all-written p at level unit own scale number times reduced there.sound there.rays there.unit_is there.row w fit in
    unfit
    (record {
      scale_fits = subst (λ (n : ℕ). IsFitting (pos n)) (sym written.0) fit.scale_fits;
      outside_fit = All-from_recursion (λ l. IsOutsideLine at l.name → IsFitting (number l.name)) (lines p) (each-impl (Written p at level unit own there.row.by number) _ (lines p) (λ l k out. subst IsFitting (k.outside out) k.fits) written.1);
      own_fit = All-from_recursion (λ l. l.level ≡ level → IsOutsideLine at l.name → (side : Side) → IsFitting (reduced_number side level unit own (number l.name) l)) (lines p)
          (each-impl (Written p at level unit own there.row.by number) _ (lines p) (λ l k e out side. fit-of side level unit own (number l.name) (there.row.by l.name) l (sym (k.outside out)) (side-fits p at level unit own there.row.by number l k side)) written.1);
      inside_fit = All-from_recursion (λ l. l.level ≡ level → (side inside : Side) → IsIn (place_of l.name inside) at → IsFitting (reduced_number side level unit own (inside_number inside level unit own l) l)) (lines p)
          (each-impl (Written p at level unit own there.row.by number) _ (lines p) (λ l k e side inside i. fit-of side level unit own (inside_number inside level unit own l) (there.row.by l.name) l (sym (k.inside inside i)) (side-fits p at level unit own there.row.by number l k side)) written.1);
    })
    (subst Fits (cost_same p at level value cost there.sound.problem there.corner kept.lowest there.lowest costs there.cost_is) kept.fits)

-- ---- a row no lowest terms of which fit

-- the greatest common divisor of a number and of each of a list
gcd-of : {A : Type 0} (n : ℕ) (f : A → ℕ) (xs : List A) → (g : ℕ) × (g ∣ n) × Each (λ x. g ∣ f x) xs × ((k : ℕ) → k ∣ n → Each (λ x. k ∣ f x) xs → k ∣ g)
gcd-of n f [] = (n, dvd_refl n, tt, λ k d h. d)
gcd-of n f (x ∷ xs) =
    let rest = gcd-of n f xs in
    let d = scaled rest.0 (f x) rest.0 (omega arith) in (
      d.0,
      dvd_trans d.0 d.1.1 rest.1,
      (d.1.0, each-impl (λ y. rest.0 ∣ f y) (λ y. d.0 ∣ f y) xs (λ y h. dvd_trans d.0 d.1.1 h) rest.2),
      λ k e h. d.1.2 k h.0 (rest.3 k e h.1),
    )

-- the size of an outside line's number, and 0 of an inside one
outer-size : List Mark → (RowName → ℤ) → Line → ℕ
outer-size at by l = cond (is_place at (place_of l.name Under)) 0 (cond (is_place at (place_of l.name Over)) 0 (unsigned_abs (by l.name)))

outer-is : (at : List Mark) (by : RowName → ℤ) (l : Line) → IsOutsideLine at l.name → outer-size at by l ≡ unsigned_abs (by l.name)
unfolding outer-size
outer-is at by l out =
    ap (λ (b : Bool). cond b 0 (cond (is_place at (place_of l.name Over)) 0 (unsigned_abs (by l.name)))) (outside-false at (place_of l.name Under) out.under)
    ∙ ap (λ (b : Bool). cond b 0 (unsigned_abs (by l.name))) (outside-false at (place_of l.name Over) out.over)

outer-divides : (at : List Mark) (by : RowName → ℤ) (l : Line) (k : ℕ) → (IsOutsideLine at l.name → k ∣ unsigned_abs (by l.name)) → k ∣ outer-size at by l
unfolding outer-size
outer-divides at by l k h =
    elim (cases_Bool (is_place at (place_of l.name Under))) [
      | inl i ↦ subst (λ (b : Bool). k ∣ cond b 0 (cond (is_place at (place_of l.name Over)) 0 (unsigned_abs (by l.name)))) (sym i) (dvd-zero k)
      | inr a ↦
          subst (λ (b : Bool). k ∣ cond b 0 (cond (is_place at (place_of l.name Over)) 0 (unsigned_abs (by l.name)))) (sym a)
          (elim (cases_Bool (is_place at (place_of l.name Over))) [
            | inl i ↦ subst (λ (b : Bool). k ∣ cond b 0 (unsigned_abs (by l.name))) (sym i) (dvd-zero k)
            | inr b ↦ subst (λ (c : Bool). k ∣ cond c 0 (unsigned_abs (by l.name))) (sym b) (h (record { under = not-in at (place_of l.name Under) a; over = not-in at (place_of l.name Over) b }))
          ])
    ]

quotient-times : (g : ℕ) (z : ℤ) → g ∣ unsigned_abs z → pos g *ℤ quotient g z ≡ z
unfolding quotient
quotient-times g (pos n) d = ap pos (mul-div_cancel' g d)
quotient-times g (negsuc n) d = mul-opp (pos g) (pos (suc n / g)) ∙ ap (λ (m : ℕ). neg_ℤ (pos m)) (mul-div_cancel' g d)

-- a row can be divided to lowest terms
pub divided : (p : Problem) (at : List Mark) (own : ℕ) (by : RowName → ℤ) → 0 < own → (low : ℕ) × (number : RowName → ℤ) × IsDividedRow p at own by low number
divided p at own by above =
    let d = gcd-of own (outer-size at by) (lines p) in
    let g : ℕ = d.0 in
    let own_is : d.0 * (own / d.0) ≡ own = mul-div_cancel' d.0 d.1 in
    let up : 0 < d.0 = pos_of_dvd_of_pos d.1 above in
    let outer : Each (λ l. IsOutsideLine at l.name → d.0 ∣ unsigned_abs (by l.name)) (lines p) = each-impl (λ l. d.0 ∣ outer-size at by l) _ (lines p) (λ l h out. subst (λ (n : ℕ). d.0 ∣ n) (outer-is at by l out) h) d.2 in (
      own / d.0,
      λ name. quotient d.0 (by name),
      record {
        factor = d.0;
        above = up;
        own_is = own_is;
        same = All-from_recursion (λ l. IsOutsideLine at l.name → pos d.0 *ℤ quotient d.0 (by l.name) ≡ by l.name) (lines p) (each-impl (λ l. IsOutsideLine at l.name → d.0 ∣ unsigned_abs (by l.name)) _ (lines p) (λ l h out. quotient-times d.0 (by l.name) (h out)) outer);
        lowest = λ k dk each.
            one-left k d.0 up
            (d.3 (k * d.0) (subst (λ (n : ℕ). (k * d.0) ∣ n) (let e : own / d.0 * d.0 ≡ own = omega (arith, own_is) in e) (mul-dvd-mul_right k dk d.0))
            (each-impl (λ l. (IsOutsideLine at l.name → k ∣ unsigned_abs (quotient d.0 (by l.name))) × (IsOutsideLine at l.name → d.0 ∣ unsigned_abs (by l.name))) _ (lines p)
            (λ l h. outer-divides at by l (k * d.0)
            (λ out. subst (λ (n : ℕ). (k * d.0) ∣ n) (again d.0 (by l.name) (h.1 out)) (mul-dvd-mul_right k (h.0 out) d.0)))
            (each-both _ _ (lines p) (recursion_from_All _ (lines p) each) outer)));
      },
    )
  where
    again : (g : ℕ) (z : ℤ) → g ∣ unsigned_abs z → unsigned_abs (quotient g z) * g ≡ unsigned_abs z
    again g z d =
        let e : g * unsigned_abs (quotient g z) ≡ unsigned_abs z = sym (unsigned_abs-mul (pos g) (quotient g z)) ∙ ap unsigned_abs (quotient-times g z d) in
        omega (arith, e)

pub unfit_multiple_has_no_writing : UnfitMultipleHasNoWriting
unfit_multiple_has_no_writing p at level unit own by number sound rays is mult same unfit scale times reduced value w costs fit kept =
    let d = divided p at own by mult.own_positive in
    let h : HasLevelRow p at level unit d.0 d.1 = divided_row_is_row p at level unit own d.0 by d.1 mult d.2 in
    let written = all-written p at level unit d.0 scale d.1 times reduced sound rays is h w fit in
    unfit d.0 d.1
    (divided-same p at own d.0 by number d.1 (All-from_recursion (λ l. IsOutsideLine at l.name → number l.name ≡ by l.name) (lines p) (each-impl (λ l. IsOutsideLine at l.name → by l.name ≡ number l.name) _ (lines p) (λ l e out. sym (e out)) (recursion_from_All _ (lines p) same))) d.2)
    (smaller d.0 unit (2 ^ 42) is.above (subst (λ (n : ℕ). IsFitting (pos n)) (sym written.0) fit.scale_fits))
    (All-from_recursion (λ l. IsOutsideLine at l.name → IsFitting (d.1 l.name)) (lines p) (each-impl (Written p at level unit d.0 h.by d.1) _ (lines p) (λ l k out. subst IsFitting (k.outside out) k.fits) written.1))

-- ---- small numbers

quotient-most : (unit w k most : ℕ) → 0 < k → w ≤ most → unit * w / k ≤ unit * most
quotient-most unit w k most above le = le_trans (div-le_self (unit * w) k) (mul-le-mul (le_refl unit) le)

weight-most : (l : Line) (level : ℕ) → l.weight ≤ WEIGHT_LIMIT → weight_at l level ≤ WEIGHT_LIMIT
weight-most l level le = elim (cases_Bool (nat_eq l.level level)) [
  | inl e ↦ subst (λ (b : Bool). cond b l.weight 0 ≤ WEIGHT_LIMIT) (sym e) le
  | inr e ↦ subst (λ (b : Bool). cond b l.weight 0 ≤ WEIGHT_LIMIT) (sym e) (omega arith)
]

share-most : (unit level : ℕ) (l : Line) → 0 < l.scale → l.weight ≤ WEIGHT_LIMIT → unit * weight_at l level / l.scale ≤ unit * WEIGHT_LIMIT
share-most unit level l above le = quotient-most unit (weight_at l level) l.scale WEIGHT_LIMIT above (weight-most l level le)

under-most : (rel : Rel) (u m : ℕ) → u ≤ m → under_weight rel u ≤ m
under-most Eq u m le = le
under-most Ge u m le = le
under-most Le u m le = omega arith

over-most : (rel : Rel) (u m : ℕ) → u ≤ m → over_weight rel u ≤ m
over-most Eq u m le = le
over-most Ge u m le = omega arith
over-most Le u m le = le

own-most : (own unit u : ℕ) → u ≤ unit * WEIGHT_LIMIT → own * unit < small_scale → own * u < 2 ^ 40
own-most own unit u le small =
    let a : own * u ≤ own * (unit * WEIGHT_LIMIT) = mul-le-mul (le_refl own) le in
    omega (arith, a, small)

below-plus : (a : ℕ) (y : ℤ) → a < 2 ^ 40 → unsigned_abs y < small_number → (unsigned_abs (pos a -ℤ y) < 2 ^ 42) × (unsigned_abs (pos a +ℤ y) < 2 ^ 42)
below-plus a y h k = (omega (arith, ints, h, k), omega (arith, ints, h, k))

small-neg : (b : ℕ) → b < 2 ^ 40 → unsigned_abs (neg_ℤ (pos b)) < small_number
small-neg b h = omega (arith, ints, h)

record Small (level unit own : ℕ) (l : Line) : Type 0 where
  under : own * under_share unit level l < 2 ^ 40
  over : own * over_share unit level l < 2 ^ 40

small-line : (level unit own : ℕ) (l : Line) → own * unit < small_scale → 0 < l.scale → l.weight ≤ WEIGHT_LIMIT → Small level unit own l
small-line level unit own l small above le = record {
  under = own-most own unit (under_share unit level l) (under-most l.rel (unit * weight_at l level / l.scale) (unit * WEIGHT_LIMIT) (share-most unit level l above le)) small;
  over = own-most own unit (over_share unit level l) (over-most l.rel (unit * weight_at l level / l.scale) (unit * WEIGHT_LIMIT) (share-most unit level l above le)) small;
}

small-reduced : (side : Side) (level unit own : ℕ) (y : ℤ) (l : Line) → Small level unit own l → unsigned_abs y < small_number → IsFitting (reduced_number side level unit own y l)
small-reduced Under level unit own y l s h = (below-plus (own * under_share unit level l) y s.under h).0
small-reduced Over level unit own y l s h = (below-plus (own * over_share unit level l) y s.over h).1

small-inside : (inside : Side) (level unit own : ℕ) (l : Line) → Small level unit own l → unsigned_abs (inside_number inside level unit own l) < small_number
small-inside Under level unit own l s = let h = s.under in omega (arith, h)
small-inside Over level unit own l s = small-neg (own * over_share unit level l) s.over

pub small_row_fits : SmallRowFits
small_row_fits p at level unit own number sound small numbers =
    let each : Each (Small level unit own) (lines p) =
    each-impl (λ l. ((0 < l.scale) × (0 < l.den)) × (l.weight ≤ WEIGHT_LIMIT)) _ (lines p) (λ l h. small-line level unit own l small h.0.0 h.1)
    (each-both _ _ (lines p) (recursion_from_All _ (lines p) sound.problem) (recursion_from_All _ (lines p) sound.weights)) in
    record {
      scale_fits = omega (arith, small);
      outside_fit = All-from_recursion (λ l. IsOutsideLine at l.name → IsFitting (number l.name)) (lines p) (each-impl (λ l. IsOutsideLine at l.name → unsigned_abs (number l.name) < small_number) _ (lines p) (λ l h out. let k = h out in omega (arith, k)) (recursion_from_All _ (lines p) numbers));
      own_fit = All-from_recursion (λ l. l.level ≡ level → IsOutsideLine at l.name → (side : Side) → IsFitting (reduced_number side level unit own (number l.name) l)) (lines p)
          (each-impl (λ l. Small level unit own l × (IsOutsideLine at l.name → unsigned_abs (number l.name) < small_number)) _ (lines p) (λ l h e out side. small-reduced side level unit own (number l.name) l h.0 (h.1 out))
          (each-both _ _ (lines p) each (recursion_from_All _ (lines p) numbers)));
      inside_fit = All-from_recursion (λ l. l.level ≡ level → (side inside : Side) → IsIn (place_of l.name inside) at → IsFitting (reduced_number side level unit own (inside_number inside level unit own l) l)) (lines p)
          (each-impl (Small level unit own) _ (lines p) (λ l s e side inside i. small-reduced side level unit own (inside_number inside level unit own l) l s (small-inside inside level unit own l s)) each);
    }
