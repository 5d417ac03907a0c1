-- A corner's own multipliers are a certificate.
use Rattle.std.proofs.Common.{◌≡◌, ◌≢◌, ◌∙◌, inl, inr, ℕ, zero, suc, ◌*◌, ◌<◌, List, [], length, get_or, ℤ, pos, negsuc, ◌+ℤ◌, ◌-ℤ◌, ◌*ℤ◌, ◌<ℤ◌, ◌≤ℤ◌, nat_abs, refl, sym, ap, subst, arith, All, Contains}
use Rattle.std.specs.List.{AllByRecursion as Each}
use Rattle.std.proofs.lemmas.List.Elements.{All-from_recursion, recursion_from_All}
use borrow.Author.Differences.{ints}
use Rattle.frac_core.proofs.Integers.{mul-sub_left, mul-add_left, mul_left_comm_ℤ, mul_assoc_ℤ, mul-zero_ℤ, zero_from_mul}
use Rattle.problem_core.specs.declared.parts.Level.{Level}
use Rattle.problem_core.specs.declared.parts.Level.TheVariants.{Priority, Stay as StayLevel}
use Rattle.problem_core.specs.declared.parts.Mark.{Mark}
use Rattle.problem_core.specs.declared.parts.RowName.{RowName}
use Rattle.problem_core.specs.declared.parts.Side.{Side}
use Rattle.problem_core.specs.declared.parts.Side.TheVariants.{Under, Over}
use Rattle.problem_core.specs.Layout.{Line, Problem, coefficient, lines, sum_of}
use Rattle.problem_core.specs.Kept.{IsWhole}
use Rattle.problem_core.specs.Certificates.{IsCertificate, IsLexNonnegative, Multipliers, over_weight, under_weight, weight_at}
use Rattle.problem_core.specs.Corners.{AreMultipliersAt, IsCorner, IsIn, NoNegativeColumn, NoNegativeValue, Point, StandsAt, assignment_at, column, one_column, place, place_of}
use Rattle.problem_core.specs.Levels.{IsLevelAt, alone}
use Rattle.problem_core.proofs.Corners.Ends.{end-IsCertificate}
use Rattle.problem_core.proofs.Forms.{each-both, each-impl, mul-sum}
use Rattle.cert_core.specs.declared.by.By.{By}
use Rattle.cert_core.specs.Claims.{BestLevel, bys_of, level_at, multipliers_of, scale_of, times_of}
use Rattle.cert_checker.specs.Certifying.{Balances, HasLevel}
use Rattle.cert_checker.specs.LinePlaces.{names}
use Rattle.cert_checker.proofs.Certificates.Levels.{found-level, written-level}
use Rattle.corner_laws.specs.Equations.{IsLevelSum}
use Rattle.corner_laws.proofs.Swaps.ColumnsStay.{lex_alike}
use Rattle.corner_laws.proofs.Swaps.DualChoice.{unused-IsLevelSum}
use Rattle.corner_laws.proofs.PathEnds.Ends.{all_up, decided, satisfies_there}
use Rattle.corner_laws.proofs.LevelCosts.Equal.{writing-sum}
use Rattle.corner_laws.proofs.MarkWritings.LowestForms.{marks_are_fixed}
use Rattle.corner_view.specs.Seen.{IsKeptCorner, IsStronger}
use Rattle.corner_ends.specs.Runs.{IsBestEnd}
use Rattle.corner_ends.proofs.Fronts.{some_line}
use Rattle.corner_ends.proofs.Signs.{columns_alike}
use Rattle.certificates.specs.OwnLevels.{HasNoNeed, IsOwnBest, IsOwnLevel, nonzero_times}
use Rattle.certificates.proofs.Places.{number_is, stay_there, used_level}
use Rattle.certificates.proofs.MultiplierLists.{each_line, multiplied_rows, multiplied_times, names_different, nonzero_found, nonzero_rows}
use Rattle.problem_core.proofs.Corners.Conflicts.{sum-each}
use Rattle.cert_checker.proofs.Certificates.Certified.{no_level}
use Rattle.corner_lines.proofs.LevelRows.StayRows.{level_one}

-- ---- numbers that are those of a level over a factor

pub record IsShareAt (p : Problem) (at : List Mark) (k scale : ℕ) (times : RowName → ℤ) : Type 0 where
  pub whole : ℕ
  pub all : RowName → ℤ
  pub reduced : ℕ → ℤ
  pub sum : IsLevelSum p at k whole all reduced
  pub factor : ℕ
  pub scale_is : whole ≡ factor * scale
  pub times_are : All (λ l. all l.name ≡ pos factor *ℤ times l.name) (lines p)

first-some : (f t : ℕ) → 0 < f * t → 0 < f
first-some zero t h = absurd (omega (arith, h))
first-some (suc f) t h = omega arith

last-some : (f t : ℕ) → 0 < f * t → 0 < t
last-some f zero h = absurd (omega (arith, h))
last-some f (suc t) h = omega arith

pub share_factor : (p : Problem) (at : List Mark) (k scale : ℕ) (times : RowName → ℤ) → (s : IsShareAt p at k scale times) → 0 < s.factor
share_factor p at k scale times s = first-some s.factor scale (subst (λ (n : ℕ). 0 < n) s.scale_is s.sum.scale_positive)

pub share_scale : (p : Problem) (at : List Mark) (k scale : ℕ) (times : RowName → ℤ) → IsShareAt p at k scale times → 0 < scale
share_scale p at k scale times s = last-some s.factor scale (subst (λ (n : ℕ). 0 < n) s.scale_is s.sum.scale_positive)

pub share_cancels : (p : Problem) (at : List Mark) (k scale : ℕ) (times : RowName → ℤ) → IsShareAt p at k scale times → (v : ℕ) → sum_of (λ l. times l.name *ℤ coefficient v l.form) (lines p) ≡ pos 0
share_cancels p at k scale times s v =
    zero_from_mul s.factor (sum_of (λ l. times l.name *ℤ coefficient v l.form) (lines p)) (share_factor p at k scale times s)
    (sym (sum-each (λ l. s.all l.name *ℤ coefficient v l.form) (λ l. pos s.factor *ℤ (times l.name *ℤ coefficient v l.form)) (lines p)
    (each-impl (λ l. s.all l.name ≡ pos s.factor *ℤ times l.name) _ (lines p) (λ l e. ap (λ (z : ℤ). z *ℤ coefficient v l.form) e ∙ mul_assoc_ℤ (pos s.factor) (times l.name) (coefficient v l.form)) (recursion_from_All _ (lines p) s.times_are))
    ∙ mul-sum (pos s.factor) (λ l. times l.name *ℤ coefficient v l.form) (lines p))
    ∙ s.sum.cancel v)

column-under : (f t w k n : ℕ) (y z : ℤ) → n ≡ f * t → y ≡ pos f *ℤ z → pos (n * w) -ℤ pos k *ℤ y ≡ pos f *ℤ (pos (t * w) -ℤ pos k *ℤ z)
column-under f t w k n y z g e =
    let a = mul-sub_left (pos f) (pos (t * w)) (pos k *ℤ z) in
    let b : pos f *ℤ (pos k *ℤ z) ≡ pos k *ℤ y = mul_left_comm_ℤ (pos f) (pos k) z ∙ ap (λ (x : ℤ). pos k *ℤ x) (sym e) in
    let c : pos f *ℤ pos (t * w) ≡ pos (n * w) = ap pos (let q : f * (t * w) ≡ f * t * w = omega arith in q ∙ ap (λ (m : ℕ). m * w) (sym g)) in
    omega (arith, ints, a, b, c)

column-over : (f t w k n : ℕ) (y z : ℤ) → n ≡ f * t → y ≡ pos f *ℤ z → pos (n * w) +ℤ pos k *ℤ y ≡ pos f *ℤ (pos (t * w) +ℤ pos k *ℤ z)
column-over f t w k n y z g e =
    let a = mul-add_left (pos f) (pos (t * w)) (pos k *ℤ z) in
    let b : pos f *ℤ (pos k *ℤ z) ≡ pos k *ℤ y = mul_left_comm_ℤ (pos f) (pos k) z ∙ ap (λ (x : ℤ). pos k *ℤ x) (sym e) in
    let c : pos f *ℤ pos (t * w) ≡ pos (n * w) = ap pos (let q : f * (t * w) ≡ f * t * w = omega arith in q ∙ ap (λ (m : ℕ). m * w) (sym g)) in
    omega (arith, ints, a, b, c)

column-share : (side : Side) (l : Line) (k n f t : ℕ) (y z : RowName → ℤ) → n ≡ f * t → y l.name ≡ pos f *ℤ z l.name → column (alone n y) side l k ≡ pos f *ℤ column (alone t z) side l k
column-share Under l k n f t y z g e = column-under f t (under_weight l.rel (weight_at l k)) l.scale n (y l.name) (z l.name) g e
column-share Over l k n f t y z g e = column-over f t (over_weight l.rel (weight_at l k)) l.scale n (y l.name) (z l.name) g e

zero-column : (k f : ℕ) (r c z : ℤ) → 0 < f → pos k *ℤ r ≡ c → c ≡ pos f *ℤ z → r ≡ pos 0 → z ≡ pos 0
zero-column k f r c z above e g h = zero_from_mul f z above (sym g ∙ sym e ∙ ap (λ (x : ℤ). pos k *ℤ x) h ∙ mul-zero_ℤ (pos k))

pub share_inside : (p : Problem) (at : List Mark) (k scale : ℕ) (times : RowName → ℤ) → IsShareAt p at k scale times → (side : Side) → Each (λ l. IsIn (place_of l.name side) at → column (alone scale times) side l k ≡ pos 0) (lines p)
share_inside p at k scale times s side =
    each-impl (λ l. (pos l.scale *ℤ s.reduced (place_of l.name side) ≡ column (alone s.whole s.all) side l k) × ((IsIn (place_of l.name side) at → s.reduced (place_of l.name side) ≡ pos 0) × (s.all l.name ≡ pos s.factor *ℤ times l.name))) _ (lines p)
    (λ l h inside. zero-column l.scale s.factor (s.reduced (place_of l.name side)) (column (alone s.whole s.all) side l k) (column (alone scale times) side l k) (share_factor p at k scale times s) h.0
    (column-share side l k s.whole s.factor scale s.all times s.scale_is h.1.1) (h.1.0 inside))
    (each-both _ _ (lines p) (recursion_from_All _ (lines p) (s.sum.columns side))
    (each-both _ _ (lines p) (recursion_from_All _ (lines p) (s.sum.inside_zero side)) (recursion_from_All _ (lines p) s.times_are)))

abbrev AreShares : Problem → List Mark → Multipliers → Type 0
AreShares p at m = (k : ℕ) → IsShareAt p at k (m.scale k) (m.times k)

alone-column : (m : Multipliers) (side : Side) (l : Line) (k : ℕ) → column (alone (m.scale k) (m.times k)) side l k ≡ column m side l k
alone-column m Under l k = refl
alone-column m Over l k = refl

shares-multiply : (p : Problem) (at : List Mark) (m : Multipliers) → AreShares p at m → AreMultipliersAt p at m
shares-multiply p at m s = record {
  scales = λ k. share_scale p at k (m.scale k) (m.times k) (s k);
  cancel = λ k v. share_cancels p at k (m.scale k) (m.times k) (s k) v;
  inside_zero = λ side i d within inside k.
      sym (alone-column m side (get_or (lines p) i d) k)
      ∙ All-from_recursion (λ l. IsIn (place_of l.name side) at → column (alone (m.scale k) (m.times k)) side l k ≡ pos 0) (lines p) (share_inside p at k (m.scale k) (m.times k) (s k) side) i d within inside;
}

-- ---- a corner's own levels

pub own_different : (p : Problem) (at : List Mark) (levels : List BestLevel) → IsOwnBest p at levels → (j k : ℕ) (d : BestLevel) → j < k → k < length levels → (get_or levels j d).level ≢ (get_or levels k d).level
own_different p at levels own j k d less within e =
    let first : IsOwnLevel p at (get_or levels j d) = own.own j d (omega (arith, less, within)) in
    let stronger : IsStronger p (get_or levels j d).level (get_or levels k d).level = own.order j k d less within in
    let low = stronger first.number first.number first.place (subst (λ (l : Level). IsLevelAt p l first.number) e first.place) in
    absurd (omega (arith, low))

own-size : (f n : ℕ) (z : ℤ) → 0 < n → pos f *ℤ z ≡ pos n → n ≡ f * nat_abs z
own-size f n (pos m) above e = omega (arith, ints, e)
own-size zero n (negsuc m) above e = absurd (omega (arith, ints, above, e))
own-size (suc f) n (negsuc m) above e = absurd (omega (arith, ints, above, e))

pub own_positive : (p : Problem) (at : List Mark) (l : BestLevel) → IsOwnLevel p at l → pos 0 <ℤ l.scale
own_positive p at l own = up own.factor own.scale l.scale own.writing.scale_positive own.scale_is
  where
    up : (f n : ℕ) (z : ℤ) → 0 < n → pos f *ℤ z ≡ pos n → pos 0 <ℤ z
    up f n (pos zero) above e = absurd (let none = mul-zero_ℤ (pos f) in omega (arith, ints, above, e, none))
    up f n (pos (suc m)) above e = omega (arith, ints)
    up zero n (negsuc m) above e = absurd (omega (arith, ints, above, e))
    up (suc f) n (negsuc m) above e = absurd (omega (arith, ints, above, e))

-- the multiplier that is written for each line
own-times : (p : Problem) (at : List Mark) (l : BestLevel) → IsWhole p → (own : IsOwnLevel p at l) → Each (λ n. own.times n.name ≡ pos own.factor *ℤ times_of l.by n.name) (lines p)
own-times p at l whole own =
    each-impl (λ n. times_of (nonzero_times own.times (names p)) n.name ≡ own.times n.name) _ (lines p)
    (λ n e. sym e ∙ ap (λ (bys : List By). times_of bys n.name) (sym own.by_is) ∙ multiplied_times own.factor l.by n.name)
    (each_line (λ n. times_of (nonzero_times own.times (names p)) n ≡ own.times n) (lines p) (nonzero_found own.times (names p) (names_different p whole)))

own-share : (p : Problem) (at : List Mark) (k : ℕ) (l : BestLevel) → IsWhole p → level_at p k ≡ l.level → IsOwnLevel p at l → IsShareAt p at k (nat_abs l.scale) (times_of l.by)
own-share p at k l whole e own = record {
  whole = own.scale;
  all = own.times;
  reduced = own.reduced;
  sum = subst (λ (n : ℕ). IsLevelSum p at n own.scale own.times own.reduced) (number_is p l.level k own.number whole e own.place) (writing-sum p at own.number own.scale own.times own.reduced own.writing);
  factor = own.factor;
  scale_is = own-size own.factor own.scale l.scale own.writing.scale_positive own.scale_is;
  times_are = All-from_recursion (λ n. own.times n.name ≡ pos own.factor *ℤ times_of l.by n.name) (lines p) (own-times p at l whole own);
}

-- where nothing is written
unused-share : (p : Problem) (at : List Mark) (k : ℕ) → All (λ l. l.level ≢ k) (lines p) → IsShareAt p at k 1 (times_of [])
unused-share p at k unused = record {
  whole = 1;
  all = λ name. pos 0;
  reduced = λ v. pos 0;
  sum = unused-IsLevelSum p at k (λ v. pos 0) unused (λ v. refl);
  factor = 1;
  scale_is = omega arith;
  times_are = λ i d within. refl;
}

needless-share : (p : Problem) (at : List Mark) (k : ℕ) → IsWhole p → IsLevelAt p (level_at p k) k → HasNoNeed p at (level_at p k) → IsShareAt p at k 1 (times_of [])
needless-share p at k whole here (n, there, (scale, times, reduced, w, none)) = record {
  whole = scale;
  all = times;
  reduced = reduced;
  sum = subst (λ (j : ℕ). IsLevelSum p at j scale times reduced) (level_one p (level_at p k) n k whole there here) (writing-sum p at n scale times reduced w);
  factor = scale;
  scale_is = omega arith;
  times_are = λ i d within. none i d within ∙ sym (mul-zero_ℤ (pos scale));
}

not-written : (p : Problem) (at : List Mark) (levels : List BestLevel) (level : Level) → IsOwnBest p at levels → bys_of levels level ≡ [] → All (λ l. l.level ≢ level) levels
not-written p at levels level own none i d within e =
    own.needed i d within (sym (found-level levels i d within (own_different p at levels own)).1 ∙ ap (bys_of levels) e ∙ none)

blank-share : (p : Problem) (at : List Mark) (levels : List BestLevel) (k : ℕ) → IsWhole p → IsOwnBest p at levels → bys_of levels (level_at p k) ≡ [] → IsShareAt p at k 1 (times_of [])
blank-share p at levels k whole own none =
    elim (some_line (lines p) k) [
      | inl used ↦
          let there = used_level p k whole used in
          needless-share p at k whole there.0 (own.missing (level_at p k) there.1 (not-written p at levels (level_at p k) own none))
      | inr unused ↦ unused-share p at k unused
    ]

moved-share : (p : Problem) (at : List Mark) (k s t : ℕ) (old new : List By) → s ≡ t → old ≡ new → IsShareAt p at k s (times_of old) → IsShareAt p at k t (times_of new)
moved-share p at k s t old new e f h = subst (λ (n : ℕ). IsShareAt p at k n (times_of new)) e (subst (λ (zs : List By). IsShareAt p at k s (times_of zs)) f h)

own-shares : (p : Problem) (at : List Mark) (levels : List BestLevel) → IsWhole p → IsOwnBest p at levels → AreShares p at (multipliers_of p levels)
own-shares p at levels whole own k =
    elim (written-level levels (level_at p k)) [
      | inl (i, within, is) ↦
          let found = found-level levels i no_level within (own_different p at levels own) in
          let l : BestLevel = get_or levels i no_level in
          moved-share p at k (nat_abs l.scale) (scale_of levels (level_at p k)) l.by (bys_of levels (level_at p k))
          (sym found.0 ∙ ap (scale_of levels) (is no_level)) (sym found.1 ∙ ap (bys_of levels) (is no_level))
          (own-share p at k l whole (sym (is no_level)) (own.own i no_level within))
      | inr blank ↦ moved-share p at k 1 (scale_of levels (level_at p k)) [] (bys_of levels (level_at p k)) (sym blank.0) (sym blank.1) (blank-share p at levels k whole own blank.1)
    ]

pub own_multipliers : (p : Problem) (at : List Mark) (levels : List BestLevel) → IsWhole p → IsOwnBest p at levels → AreMultipliersAt p at (multipliers_of p levels)
own_multipliers p at levels whole own = shares-multiply p at (multipliers_of p levels) (own-shares p at levels whole own)

-- ---- they are a certificate

own-columns : (p : Problem) (at : List Mark) (m : Multipliers) → IsKeptCorner p at → AreMultipliersAt p at m → NoNegativeColumn p at → (side : Side) → All (λ l. IsLexNonnegative (column m side l)) (lines p)
own-columns p at m kept are (q, is, up) side i d within =
    lex_alike q.scale m.scale (column q side (get_or (lines p) i d)) (column m side (get_or (lines p) i d)) is.scales are.scales
    (λ k. All-from_recursion (λ l. pos (q.scale k) *ℤ column m side l k ≡ pos (m.scale k) *ℤ column q side l k) (lines p) (columns_alike p at q m side k kept.whole kept.rays is are) i d within)
    (up side i d within)

same-sign : (a b u v : ℤ) → pos 0 <ℤ u → pos 0 <ℤ v → a *ℤ v ≡ b *ℤ u → pos 0 ≤ℤ b → pos 0 ≤ℤ a
same-sign (pos n) b u v over above e h = omega (arith, ints)
same-sign (negsuc n) (negsuc b) u v over above e h = absurd h.le
same-sign (negsuc n) (pos b) (negsuc u) v over above e h = absurd over.lt
same-sign (negsuc n) (pos b) (pos u) (negsuc v) over above e h = absurd above.lt
same-sign (negsuc n) (pos b) (pos u) (pos zero) over above e h = absurd above.lt
same-sign (negsuc n) (pos b) (pos u) (pos (suc v)) over above e h = absurd (omega (arith, ints, e))

-- at each point that stands there no value is negative
pub values_up : (p : Problem) (at : List Mark) (x : Point) → IsCorner p at → NoNegativeValue p at → StandsAt p at x → All (λ m. pos 0 ≤ℤ x.num (place m)) at
values_up p at x corner (y, there, up) stands i d within =
    same-sign (x.num (place (get_or at i d))) (y.num (place (get_or at i d))) (x.num one_column) (y.num one_column) x.positive y.positive
    (marks_are_fixed p at (place (get_or at i d)) corner (corner.marks i d within) x y stands there) (up i d within)

pub own_certifies : (p : Problem) (at : List Mark) (levels : List BestLevel) → IsKeptCorner p at → IsBestEnd p at → IsOwnBest p at levels → (x : Point) → StandsAt p at x → IsCertificate p (assignment_at x) (multipliers_of p levels)
own_certifies p at levels kept end own x stands =
    let are = own_multipliers p at levels kept.whole own in
    let up = values_up p at x kept.corner end.values stands in
    end-IsCertificate p at x (multipliers_of p levels) stands (all_up p at x stands up) (λ k. decided at k) are (own-columns p at (multipliers_of p levels) kept are end.columns) (satisfies_there p at x kept.whole stands up end.required)

-- ---- they balance

has-level : (p : Problem) (level : Level) (k : ℕ) → IsLevelAt p level k → HasLevel p level
has-level p (Priority rank) k h = tt
has-level p (StayLevel attr) k h = stay_there p attr k h

pub own_balances : (p : Problem) (at : List Mark) (levels : List BestLevel) → IsWhole p → IsOwnBest p at levels → Balances p levels
own_balances p at levels whole own = record {
  scales = λ i d within. own_positive p at (get_or levels i d) (own.own i d within);
  levels_held = λ i d within. let o : IsOwnLevel p at (get_or levels i d) = own.own i d within in has-level p (get_or levels i d).level o.number o.place;
  rows_held = λ i d within.
      let o : IsOwnLevel p at (get_or levels i d) = own.own i d within in
      All-from_recursion (λ b. Contains (names p) b.row) (get_or levels i d).by
      (multiplied_rows o.factor (names p) (get_or levels i d).by (subst (λ (bys : List By). Each (λ b. Contains (names p) b.row) bys) (sym o.by_is) (nonzero_rows o.times (names p))));
  cancel = (own_multipliers p at levels whole own).cancel;
}
