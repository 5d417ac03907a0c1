-- What is shown of a corner is written in the form in which it is read.
use Rattle.std.proofs.Common.{◌≡◌, ◌≢◌, ◌∙◌, ℕ, ◌+◌, ◌<◌, List, [], ◌∷◌, ◌++◌, map, ℤ, pos, ◌*ℤ◌, nat_eq, false, get_or, sym, ap, subst, arith, All, AllPairs, true≢false}
use Rattle.std.specs.Prelude.{unsigned_abs, Any}
use Rattle.std.proofs.lemmas.List.{get_or-map, length-map}
use Rattle.std.proofs.lemmas.List.Elements.{All-append, All-cons, All-filter, All-head, All-map, All-nil, All-tail, All-weaker}
use Rattle.std.proofs.lemmas.List.Kept.{AllPairs-cons}
use Rattle.std.proofs.lemmas.Bool.{cond_both}
use Rattle.frac_core.specs.Fraction.{Fraction}
use Rattle.frac_core.proofs.Integers.{mul-zero_ℤ}
use Rattle.frac_core.proofs.Lists.{pairs-map, pairs-nil, pairs-rest, pairs-unmapped}
use Rattle.problem_core.specs.declared.parts.Level.{Level}
use Rattle.problem_core.specs.declared.parts.Level.TheVariants.{Priority, Stay as StayLevel}
use Rattle.problem_core.specs.declared.parts.Mark.{Mark}
use Rattle.problem_core.specs.declared.parts.RowName.{RowName}
use Rattle.problem_core.specs.declared.parts.RowName.TheVariants.{Held, Stay as StayOf}
use Rattle.problem_core.specs.declared.parts.Stay.{Stay}
use Rattle.problem_core.specs.Layout.{Line, Problem, Row, line_of_row, line_of_stay, lines, stay_lines}
use Rattle.problem_core.specs.Levels.{IsLevelAt}
use Rattle.problem_core.specs.Certificates.{required}
use Rattle.problem_core.specs.Kept.{IsNumber, IsRow, IsStay, IsWhole}
use Rattle.cert_core.specs.declared.by.By.{By}
use Rattle.cert_core.specs.Claims.{AreBys, AreLevels, BestLevel, IsLevel}
use Rattle.cert_core.specs.Stops.{ComesBefore, IsShownConflict}
use Rattle.cert_checker.specs.LinePlaces.{names}
use Rattle.claim_writing.specs.Names.{IsLevelBefore, IsLevelName, IsRowBefore, IsRowName}
use Rattle.claim_writing.specs.ClaimLines.{IsValue}
use Rattle.claim_text.specs.Claims.ClaimTexts.{AreRead, IsBestWritten, IsLevelRead}
use Rattle.corner_laws.proofs.Counting.{head_pairs}
use Rattle.corner_view.specs.Seen.{IsStronger}
use Rattle.certificates.specs.OwnLevels.{IsOwnBest, IsOwnLevel, nonzero_times}

-- ---- lists

pairs-joined : {X : Type 0} (R : X → X → Type 0) (xs ys : List X) → AllPairs R xs → AllPairs R ys → All (λ x. All (R x) ys) xs → AllPairs R (xs ++ ys)
pairs-joined R [] ys h k all = k
pairs-joined R (x ∷ xs) ys h k all =
    AllPairs-cons R x (xs ++ ys)
    (All-append (R x) xs ys (head_pairs R x xs h) (All-head (λ x. All (R x) ys) x xs all))
    (pairs-joined R xs ys (pairs-rest R x xs h) k (All-tail (λ x. All (R x) ys) x xs all))

all-unmapped : {X Y : Type 0} (f : X → Y) (P : Y → Type 0) (xs : List X) → All P (map f xs) → All (λ x. P (f x)) xs
all-unmapped f P xs h k d within = subst P (get_or-map f xs k d (f d) within) (h k (f d) (omega (arith, within, length-map xs f)))

-- ---- the lines of a problem come in the order of the form, by names that may be written

abbrev Comes : Line → Line → Type 0
Comes k l = IsRowBefore k.name l.name

stays-behind : (level : ℕ) (s : Stay) (stays : List Stay) → All (λ t. s.attr ≢ t.attr) stays → All (λ (l : Line). IsRowBefore (StayOf s.attr) l.name) (stay_lines level stays)
stays-behind level s [] h = All-nil (λ (l : Line). IsRowBefore (StayOf s.attr) l.name)
stays-behind level s (t ∷ stays) h =
    All-cons (λ (l : Line). IsRowBefore (StayOf s.attr) l.name) (line_of_stay level t) (stay_lines (level + 1) stays)
    (All-head (λ (t : Stay). s.attr ≢ t.attr) t stays h)
    (stays-behind (level + 1) s stays (All-tail (λ (t : Stay). s.attr ≢ t.attr) t stays h))

stays-come : (level : ℕ) (stays : List Stay) → AllPairs (λ s t. s.attr ≢ t.attr) stays → AllPairs Comes (stay_lines level stays)
stays-come level [] h = pairs-nil Comes
stays-come level (s ∷ stays) h =
    AllPairs-cons Comes (line_of_stay level s) (stay_lines (level + 1) stays)
    (stays-behind (level + 1) s stays (head_pairs (λ (s t : Stay). s.attr ≢ t.attr) s stays h))
    (stays-come (level + 1) stays (pairs-rest (λ (s t : Stay). s.attr ≢ t.attr) s stays h))

behind-rows : (rows : List Row) (level : ℕ) (stays : List Stay) → All (λ (k : Line). All (Comes k) (stay_lines level stays)) (map line_of_row rows)
behind-rows rows level stays =
    All-map (λ (k : Line). All (Comes k) (stay_lines level stays)) line_of_row rows (λ i r within. behind (get_or rows i r) level stays)
  where
    behind : (r : Row) (level : ℕ) (stays : List Stay) → All (Comes (line_of_row r)) (stay_lines level stays)
    behind r level [] = All-nil (Comes (line_of_row r))
    behind r level (s ∷ stays) = All-cons (Comes (line_of_row r)) (line_of_stay level s) (stay_lines (level + 1) stays) tt (behind r (level + 1) stays)

pub lines-come : (p : Problem) → IsWhole p → AllPairs Comes (lines p)
lines-come p whole =
    pairs-joined Comes (map line_of_row p.rows) (stay_lines 1001 p.stays)
    (pairs-map line_of_row Comes p.rows whole.rising)
    (stays-come 1001 p.stays whole.apart)
    (behind-rows p.rows 1001 p.stays)

pub names-come : (p : Problem) → IsWhole p → AllPairs IsRowBefore (names p)
names-come p whole = pairs-map (λ (l : Line). l.name) IsRowBefore (lines p) (lines-come p whole)

stays-named : (level : ℕ) (stays : List Stay) → All IsStay stays → All (λ (l : Line). IsRowName l.name) (stay_lines level stays)
stays-named level [] h = All-nil (λ (l : Line). IsRowName l.name)
stays-named level (s ∷ stays) h =
    All-cons (λ (l : Line). IsRowName l.name) (line_of_stay level s) (stay_lines (level + 1) stays) (All-head IsStay s stays h).attr
    (stays-named (level + 1) stays (All-tail IsStay s stays h))

pub lines-named : (p : Problem) → IsWhole p → All (λ (l : Line). IsRowName l.name) (lines p)
lines-named p whole =
    All-append (λ (l : Line). IsRowName l.name) (map line_of_row p.rows) (stay_lines 1001 p.stays)
    (All-map (λ (l : Line). IsRowName l.name) line_of_row p.rows (All-weaker IsRow (λ (r : Row). IsRowName (Held r.id)) (λ r is. is.number) p.rows whole.rows))
    (stays-named 1001 p.stays whole.stays)

names-named : (p : Problem) → IsWhole p → All IsRowName (names p)
names-named p whole = All-map IsRowName (λ (l : Line). l.name) (lines p) (lines-named p whole)

-- ---- the multipliers of a level

abbrev Rows : By → By → Type 0
Rows a b = IsRowBefore a.row b.row

nonzero-behind : (times : RowName → ℤ) (name : RowName) (rest : List RowName) → All (IsRowBefore name) rest → All (λ (b : By). IsRowBefore name b.row) (nonzero_times times rest)
nonzero-behind times name [] h = All-nil (λ (b : By). IsRowBefore name b.row)
nonzero-behind times name (n ∷ rest) h =
    let more = nonzero-behind times name rest (All-tail (IsRowBefore name) n rest h) in
    let this : By = record { row = n; times = times n } in
    cond_both (nat_eq (unsigned_abs (times n)) 0) (nonzero_times times rest) (this ∷ nonzero_times times rest) (All (λ (b : By). IsRowBefore name b.row)) (λ _. more)
    (λ _. All-cons (λ (b : By). IsRowBefore name b.row) this (nonzero_times times rest) (All-head (IsRowBefore name) n rest h) more)

nonzero-come : (times : RowName → ℤ) (all : List RowName) → AllPairs IsRowBefore all → AllPairs Rows (nonzero_times times all)
nonzero-come times [] h = pairs-nil Rows
nonzero-come times (n ∷ rest) h =
    let more = nonzero-come times rest (pairs-rest IsRowBefore n rest h) in
    let this : By = record { row = n; times = times n } in
    cond_both (nat_eq (unsigned_abs (times n)) 0) (nonzero_times times rest) (this ∷ nonzero_times times rest) (AllPairs Rows) (λ _. more)
    (λ _. AllPairs-cons Rows this (nonzero_times times rest) (nonzero-behind times n rest (head_pairs IsRowBefore n rest h)) more)

-- the row may be named, and its multiplier isn't 0
abbrev IsNamedTimes : By → Type 0
IsNamedTimes b = IsRowName b.row × (b.times ≢ pos 0)

not-zero : (z : ℤ) → nat_eq (unsigned_abs z) 0 ≡ false → z ≡ pos 0 → ⊥
not-zero z some e = true≢false (sym (ap (λ (w : ℤ). nat_eq (unsigned_abs w) 0) e) ∙ some)

nonzero-named : (times : RowName → ℤ) (all : List RowName) → All IsRowName all → All IsNamedTimes (nonzero_times times all)
nonzero-named times [] h = All-nil IsNamedTimes
nonzero-named times (n ∷ rest) h =
    let more = nonzero-named times rest (All-tail IsRowName n rest h) in
    let this : By = record { row = n; times = times n } in
    cond_both (nat_eq (unsigned_abs (times n)) 0) (nonzero_times times rest) (this ∷ nonzero_times times rest) (All IsNamedTimes) (λ _. more)
    (λ off. All-cons IsNamedTimes this (nonzero_times times rest) (All-head IsRowName n rest h, λ e. not-zero (times n) off e) more)

-- a factor leaves the rows, and a product that isn't 0 has no factor 0
times-nonzero : (factor : ℕ) (z : ℤ) → (pos factor *ℤ z ≢ pos 0) → z ≢ pos 0
times-nonzero factor z some e = some (ap (λ (w : ℤ). pos factor *ℤ w) e ∙ mul-zero_ℤ (pos factor))

by-read : (p : Problem) (at : List Mark) (l : BestLevel) → IsWhole p → IsOwnLevel p at l → AreBys l.by → AreRead l.by
by-read p at l whole own kept =
    let scaled : By → By = λ b. record { row = b.row; times = pos own.factor *ℤ b.times } in
    let come : AllPairs Rows (map scaled l.by) = subst (AllPairs Rows) (sym own.by_is) (nonzero-come own.times (names p) (names-come p whole)) in
    let named : All IsNamedTimes (map scaled l.by) = subst (All IsNamedTimes) (sym own.by_is) (nonzero-named own.times (names p) (names-named p whole)) in
    record {
      each = λ k d within. (let n = all-unmapped scaled IsNamedTimes l.by named k d within in
          record { row = n.0; times = kept.fitting k d within; nonzero = times-nonzero own.factor (get_or l.by k d).times n.1 });
      order = pairs-unmapped scaled Rows l.by come;
    }

-- ---- the levels

stays-above : (level : ℕ) (stays : List Stay) → 1000 < level → All (λ (m : Line). 1000 < m.level) (stay_lines level stays)
stays-above level [] above = All-nil (λ (m : Line). 1000 < m.level)
stays-above level (s ∷ stays) above = All-cons (λ (m : Line). 1000 < m.level) (line_of_stay level s) (stay_lines (level + 1) stays) above (stays-above (level + 1) stays (omega (arith, above)))

held-no-stay : (id attr : ℕ) → Held id ≡ StayOf attr → ⊥
held-no-stay id attr e = cc

stay-lines-above : (p : Problem) (attr : ℕ) → All (λ (m : Line). m.name ≡ StayOf attr → 1000 < m.level) (lines p)
stay-lines-above p attr =
    All-append (λ (m : Line). m.name ≡ StayOf attr → 1000 < m.level) (map line_of_row p.rows) (stay_lines 1001 p.stays)
    (All-map (λ (m : Line). m.name ≡ StayOf attr → 1000 < m.level) line_of_row p.rows (λ i r within. λ e. absurd (held-no-stay (get_or p.rows i r).id attr e)))
    (All-weaker (λ (m : Line). 1000 < m.level) (λ (m : Line). m.name ≡ StayOf attr → 1000 < m.level) (λ m h e. h) (stay_lines 1001 p.stays) (stays-above 1001 p.stays (omega arith)))

-- the level of a stay comes behind the priorities
stay-level : (p : Problem) (attr k : ℕ) → IsLevelAt p (StayLevel attr) k → 1000 < k
stay-level p attr k (i, l, within, is, named) =
    subst (λ (n : ℕ). 1000 < n) named.1
    (subst (λ (m : Line). m.name ≡ StayOf attr → 1000 < m.level) is (stay-lines-above p attr i l within) named.0)

level-before : (p : Problem) (a b : Level) (j k : ℕ) → IsLevelAt p a j → IsLevelAt p b k → IsStronger p a b → IsLevelBefore a b
level-before p (Priority a) (Priority b) j k is_a is_b stronger = omega (arith, is_a, is_b, stronger j k is_a is_b)
level-before p (Priority a) (StayLevel b) j k is_a is_b stronger = tt
level-before p (StayLevel a) (Priority b) j k is_a is_b stronger = absurd (omega (arith, stay-level p a j is_a, is_b, stronger j k is_a is_b))
level-before p (StayLevel a) (StayLevel b) j k is_a is_b stronger = λ same.
    let again : IsLevelAt p (StayLevel b) j = subst (λ (attr : ℕ). IsLevelAt p (StayLevel attr) j) same is_a in
    absurd (omega (arith, stronger j j is_a again))

-- the level of a line may be named
pub level-named : (p : Problem) (l : Level) (k : ℕ) → IsWhole p → IsLevelAt p l k → IsLevelName l
level-named p (Priority rank) k whole is = omega (arith, is)
level-named p (StayLevel attr) k whole (i, l, within, is, named) =
    subst IsRowName named.0 (subst (λ (m : Line). IsRowName m.name) is (lines-named p whole i l within))

own-read : (p : Problem) (at : List Mark) (l : BestLevel) → IsWhole p → IsOwnLevel p at l → IsLevel l → IsLevelRead l
own-read p at l whole own kept = record {
  level = level-named p l.level own.number whole own.place;
  scale = kept.scale;
  by = by-read p at l whole own kept.by;
}

-- the corner's own levels are in the form, and so are the values with them
pub best-written : (p : Problem) (at : List Mark) (values : List (ℕ × Fraction)) (levels : List BestLevel) → IsWhole p → All IsValue values → AllPairs (λ u v. u.0 < v.0) values
    → AreLevels levels → IsOwnBest p at levels → IsBestWritten values levels
best-written p at values levels whole each rising kept own = record {
  values = each;
  rising = rising;
  levels = λ k d within. own-read p at (get_or levels k d) whole (own.own k d within) (kept.each k d within);
  level_order = λ i j d less within.
      (let a = own.own i d (omega (arith, less, within)) in
      let b = own.own j d within in
      level-before p (get_or levels i d).level (get_or levels j d).level a.number b.number a.place b.place (own.order i j d less within));
}

-- ---- conflicts

pub required-named : (p : Problem) (name : RowName) → IsWhole p → Any (λ (r : Row). name ≡ Held r.id) (required p) → IsRowName name
required-named p name whole (i, r, within, is, e) =
    subst IsRowName (sym e) (subst (λ (q : Row). IsNumber q.id) is (All-filter (λ (r : Row). nat_eq r.rank 1000) IsRow p.rows whole.rows i r within).number)

rows-rise : (p : Problem) (a b : RowName) → Any (λ (r : Row). a ≡ Held r.id) (required p) → Any (λ (r : Row). b ≡ Held r.id) (required p) → ComesBefore a b → IsRowBefore a b
rows-rise p a b (i, r, in_a, is_a, e) (j, s, in_b, is_b, f) rises =
    let held : ComesBefore (Held r.id) (Held s.id) = subst (λ (x : RowName). ComesBefore (Held r.id) x) f (subst (λ (x : RowName). ComesBefore x b) e rises) in
    subst (λ (x : RowName). IsRowBefore x b) (sym e) (subst (λ (x : RowName). IsRowBefore (Held r.id) x) (sym f) held)

pub conflict-written : (p : Problem) (bys : List By) → IsWhole p → AreBys bys → IsShownConflict p bys → AreRead bys
conflict-written p bys whole kept shown = record {
  each = λ k d within. record { row = required-named p (get_or bys k d).row whole (shown.named k d within); times = kept.fitting k d within; nonzero = shown.nonzero k d within };
  order = λ i j d less within. rows-rise p (get_or bys i d).row (get_or bys j d).row (shown.named i d (omega (arith, less, within))) (shown.named j d within) (shown.rising i j d less within);
}
