-- The order in which the marks of a run's first corner break ties, and their keys.
use Rattle.std.proofs.Common.{◌≡◌, ◌≢◌, ◌∙◌, inl, inr, ℕ, zero, suc, ◌+◌, ◌-◌, ◌*◌, ◌<◌, ◌≤◌, Bool, true, false, cond, List, [], ◌∷◌, ◌++◌, map, length, nat_eq, refl, sym, ap, subst, arith, eq-eqb, ne_eqb, Any, AllPairs, filter}
use Rattle.std.specs.List.{AllByRecursion as Each}
use Rattle.std.proofs.lemmas.Bool.{cases_eq}
use Rattle.std.proofs.lemmas.List.Elements.{recursion_from_All}
use Rattle.frac_core.proofs.Lists.{pairs-rest}
use Rattle.problem_core.specs.declared.limits.TheConstants.{MARKS}
use Rattle.problem_core.specs.declared.parts.Level.TheVariants.{Stay as StayLevel}
use Rattle.problem_core.specs.declared.parts.Mark.{Mark}
use Rattle.problem_core.specs.declared.parts.RowName.{RowName}
use Rattle.problem_core.specs.declared.parts.RowName.TheVariants.{Held, Stay as StayOf}
use Rattle.problem_core.specs.declared.parts.Side.{Side}
use Rattle.problem_core.specs.declared.parts.Side.TheVariants.{Under, Over}
use Rattle.problem_core.specs.declared.parts.Stay.{Stay}
use Rattle.problem_core.specs.Kept.{IsRow, IsWhole}
use Rattle.problem_core.specs.Layout.{Line, Problem, Row, line_of_row, line_of_stay, lines, stay_lines}
use Rattle.problem_core.specs.Corners.{attr_column, marks_of, place, place_of, side_number}
use Rattle.problem_core.specs.Levels.{IsLevelAt}
use Rattle.problem_core.proofs.Forms.{each-both, each-impl}
use Rattle.problem_core.proofs.Lines.{later-line}
use Rattle.problem_core.proofs.RowNames.{held-not-stay, stay-same}
use Rattle.corner_laws.proofs.Counting.{head_pairs}
use Rattle.corner_laws.proofs.LinePlaces.{IsSmallLine, lines_small}
use Rattle.corner_laws.proofs.RunSteps.ColumnSigns.{pick}
use Rattle.corner_view.specs.Seen.{in_order, is_mark, IsNamed, IsStronger}
use Rattle.corner_ends.specs.Trails.{in_tie_order, put_tied}
use Rattle.corner_ends.proofs.TieOrders.{each_more, each_tied}
use Rattle.primal_run.specs.Deciding.{line_key, mark_key, stays_before, tie_key, turned}

-- ---- the level of a stay

behind-rows : (attr : ℕ) (rows : List Row) (ls : List Line) → Any (λ l. l.name ≡ StayOf attr) (map line_of_row rows ++ ls) → Any (λ l. l.name ≡ StayOf attr) ls
behind-rows attr [] ls h = h
behind-rows attr (r ∷ rows) ls (zero, l, within, is, same) = absurd (held-not-stay r.id attr (ap (λ (k : Line). k.name) is ∙ same))
behind-rows attr (r ∷ rows) ls (suc i, l, within, is, same) = behind-rows attr rows ls (i, l, omega (arith, within), is, same)

-- a stay of this attribute stands at the level behind as many as stand before it
abbrev IsBehind : ℕ → List Stay → ℕ → Line → Type 0
IsBehind k stays attr l = (l.name ≡ StayOf attr) × (l.level ≡ k + stays_before stays attr)

head-level : (k attr : ℕ) (s : Stay) (stays : List Stay) → s.attr ≡ attr → Any (IsBehind k (s ∷ stays) attr) (stay_lines k (s ∷ stays))
head-level k attr s stays e =
    let none : cond (nat_eq s.attr attr) 0 (suc (stays_before stays attr)) ≡ 0 = ap (λ (b : Bool). cond b 0 (suc (stays_before stays attr))) (eq-eqb s.attr attr e) in
    (0, line_of_stay k s, omega arith, refl, (ap (λ (n : ℕ). StayOf n) e, omega (arith, none)))

level-behind : (k attr : ℕ) (stays : List Stay) → Any (λ l. l.name ≡ StayOf attr) (stay_lines k stays) → Any (IsBehind k stays attr) (stay_lines k stays)
level-behind k attr [] h = absurd (let within = h.2 in omega (arith, within))
level-behind k attr (s ∷ stays) (zero, l, within, is, same) = head-level k attr s stays (stay-same s.attr attr (ap (λ (x : Line). x.name) is ∙ same))
level-behind k attr (s ∷ stays) (suc i, l, within, is, same) =
    elim (cases_eq s.attr attr) [
      | inl e ↦ head-level k attr s stays e
      | inr ne ↦
          let t = level-behind (k + 1) attr stays (i, l, omega (arith, within), is, same) in
          let more : cond (nat_eq s.attr attr) 0 (suc (stays_before stays attr)) ≡ suc (stays_before stays attr) = ap (λ (b : Bool). cond b 0 (suc (stays_before stays attr))) (ne_eqb s.attr attr ne) in
          let level = t.4.1 in
          (suc t.0, t.1, (let less = t.2 in omega (arith, less)), t.3, (t.4.0, omega (arith, level, more)))
    ]

pub level_there : (p : Problem) (attr : ℕ) → IsNamed p (StayOf attr) → IsLevelAt p (StayLevel attr) (1001 + stays_before p.stays attr)
level_there p attr named =
    later-line (IsBehind 1001 p.stays attr) p.rows (stay_lines 1001 p.stays) (level-behind 1001 attr p.stays (behind-rows attr p.rows (stay_lines 1001 p.stays) named))

-- ---- the order of two lines

-- two stays, where the first one's level is stronger, or the second one's is not weaker
pub stay_before : (p : Problem) (f g : RowName) (a b : ℕ) → f ≡ StayOf a → g ≡ StayOf b → IsNamed p f → IsNamed p g → IsStronger p (StayLevel a) (StayLevel b) → line_key p.stays f < line_key p.stays g
stay_before p f g a b e q n m h =
    subst (λ (x : RowName). line_key p.stays x < line_key p.stays g) (sym e)
    (subst (λ (x : RowName). line_key p.stays (StayOf a) < line_key p.stays x) (sym q)
    (let less = h (1001 + stays_before p.stays a) (1001 + stays_before p.stays b) (level_there p a (subst (IsNamed p) e n)) (level_there p b (subst (IsNamed p) q m)) in omega (arith, less)))

pub stay_not_before : (p : Problem) (f g : RowName) (a b : ℕ) → f ≡ StayOf a → g ≡ StayOf b → IsNamed p f → IsNamed p g → ((j k : ℕ) → IsLevelAt p (StayLevel a) j → IsLevelAt p (StayLevel b) k → k ≤ j) → line_key p.stays g ≤ line_key p.stays f
stay_not_before p f g a b e q n m h =
    subst (λ (x : RowName). line_key p.stays g ≤ line_key p.stays x) (sym e)
    (subst (λ (x : RowName). line_key p.stays x ≤ line_key p.stays (StayOf a)) (sym q)
    (let most = h (1001 + stays_before p.stays a) (1001 + stays_before p.stays b) (level_there p a (subst (IsNamed p) e n)) (level_there p b (subst (IsNamed p) q m)) in omega (arith, most)))

-- a row before a stay
pub row_first : (p : Problem) (f g : RowName) (id attr : ℕ) → IsWhole p → f ≡ Held id → g ≡ StayOf attr → IsNamed p f → line_key p.stays f < line_key p.stays g
row_first p f g id attr whole e q named =
    let small = (pick IsSmallLine (lines p) named.0 named.1 (lines_small p whole) named.2 named.3).under in
    let there : place_of (Held id) Under < attr_column 0 = subst (λ (x : RowName). place_of x Under < attr_column 0) (named.4 ∙ e) small in
    subst (λ (x : RowName). line_key p.stays x < line_key p.stays g) (sym e)
    (subst (λ (x : RowName). id < line_key p.stays x) (sym q) (omega (arith, there)))

-- ---- the keys of marks rise

abbrev IsAbove : List Stay → ℕ → Mark → Type 0
IsAbove all b m = b < mark_key all m

abbrev AreRising : List Stay → List Mark → Type 0
AreRising all [] = Unit {0}
AreRising all (m ∷ ms) = Each (IsAbove all (mark_key all m)) ms × AreRising all ms

-- before the first of some of the stays stand n, before the next one more
abbrev ArePlaced : List Stay → ℕ → List Stay → Type 0
ArePlaced all n [] = Unit {0}
ArePlaced all n (s ∷ some) = (stays_before all s.attr ≡ n) × ArePlaced all (n + 1) some

placed-more : (s : Stay) (all some : List Stay) (n : ℕ) → ArePlaced all n some → Each (λ t. s.attr ≢ t.attr) some → ArePlaced (s ∷ all) (n + 1) some
placed-more s all [] n h apart = tt
placed-more s all (t ∷ some) n h apart =
    let e = h.0 in
    let more : stays_before (s ∷ all) t.attr ≡ suc (stays_before all t.attr) = ap (λ (b : Bool). cond b 0 (suc (stays_before all t.attr))) (ne_eqb s.attr t.attr apart.0) in
    (omega (arith, e, more), placed-more s all some (n + 1) h.1 apart.1)

placed : (stays : List Stay) → AllPairs (λ s t. s.attr ≢ t.attr) stays → ArePlaced stays 0 stays
placed [] apart = tt
placed (s ∷ stays) apart = (
  ap (λ (b : Bool). cond b 0 (suc (stays_before stays s.attr))) (eq-eqb s.attr s.attr refl),
  placed-more s stays stays 0 (placed stays (pairs-rest (λ t u. t.attr ≢ u.attr) s stays apart)) (recursion_from_All (λ t. s.attr ≢ t.attr) stays (head_pairs (λ t u. t.attr ≢ u.attr) s stays apart)),
)

above-stays : (all some : List Stay) (k n b : ℕ) → b < 2 * (MARKS + n) → ArePlaced all n some → Each (IsAbove all b) (marks_of (stay_lines k some))
above-stays all [] k n b less h = tt
above-stays all (s ∷ some) k n b less h =
    let e = h.0 in
    (omega (arith, less, e), (omega (arith, less, e), above-stays all some (k + 1) (n + 1) b (omega (arith, less)) h.1))

rising-stays : (all some : List Stay) (k n : ℕ) → ArePlaced all n some → AreRising all (marks_of (stay_lines k some))
rising-stays all [] k n h = tt
rising-stays all (s ∷ some) k n h =
    let e = h.0 in (
      (omega arith, above-stays all some (k + 1) (n + 1) (mark_key all (record { row = StayOf s.attr; side = Under })) (omega (arith, e)) h.1),
      (
        above-stays all some (k + 1) (n + 1) (mark_key all (record { row = StayOf s.attr; side = Over })) (omega (arith, e)) h.1,
        rising-stays all some (k + 1) (n + 1) h.1,
      ),
    )

above-rows : (all : List Stay) (rows : List Row) (id b : ℕ) → Each (λ r. id < r.id) rows → id < MARKS → b ≤ 2 * id + 1 → ArePlaced all 0 all → Each (IsAbove all b) (marks_of (map line_of_row rows ++ stay_lines 1001 all))
above-rows all [] id b later small most h = above-stays all all 1001 0 b (omega (arith, small, most)) h
above-rows all (r ∷ rows) id b later small most h =
    let less = later.0 in
    (omega (arith, less, most), (omega (arith, less, most), above-rows all rows id b later.1 small most h))

rising-rows : (all : List Stay) (rows : List Row) → AllPairs (λ r s. r.id < s.id) rows → Each IsRow rows → ArePlaced all 0 all → AreRising all (marks_of (map line_of_row rows ++ stay_lines 1001 all))
rising-rows all [] rising are h = rising-stays all all 1001 0 h
rising-rows all (r ∷ rows) rising are h =
    let later = recursion_from_All (λ s. r.id < s.id) rows (head_pairs (λ s t. s.id < t.id) r rows rising) in
    let most = are.0.number.1 in
    let small : r.id < MARKS = omega (arith, most) in (
      (omega arith, above-rows all rows r.id (mark_key all (record { row = Held r.id; side = Under })) later small (omega arith) h),
      (
        above-rows all rows r.id (mark_key all (record { row = Held r.id; side = Over })) later small (omega arith) h,
        rising-rows all rows (pairs-rest (λ s t. s.id < t.id) r rows rising) are.1 h,
      ),
    )

each-left : (P : Mark → Type 0) (keep : Mark → Bool) (m : Mark) (b : Bool) (ms : List Mark) → P m → Each P ms → Each P (cond b (m ∷ ms) ms)
each-left P keep m true ms h each = (h, each)
each-left P keep m false ms h each = each

each-filtered : (P : Mark → Type 0) (keep : Mark → Bool) (ms : List Mark) → Each P ms → Each P (filter keep ms)
each-filtered P keep [] h = tt
each-filtered P keep (m ∷ ms) h = each-left P keep m (keep m) (filter keep ms) h.0 (each-filtered P keep ms h.1)

rising-left : (all : List Stay) (m : Mark) (b : Bool) (ms : List Mark) → Each (IsAbove all (mark_key all m)) ms → AreRising all ms → AreRising all (cond b (m ∷ ms) ms)
rising-left all m true ms each h = (each, h)
rising-left all m false ms each h = h

rising-filtered : (all : List Stay) (keep : Mark → Bool) (ms : List Mark) → AreRising all ms → AreRising all (filter keep ms)
rising-filtered all keep [] h = tt
rising-filtered all keep (m ∷ ms) h =
    rising-left all m (keep m) (filter keep ms) (each-filtered (IsAbove all (mark_key all m)) keep ms h.0) (rising-filtered all keep ms h.1)

first-rising : (p : Problem) (first : List Mark) → IsWhole p → first ≡ in_order p first → AreRising p.stays first
first-rising p first whole ordered =
    subst (AreRising p.stays) (sym ordered)
    (rising-filtered p.stays (λ m. is_mark first (place m)) (marks_of (lines p)) (rising-rows p.stays p.rows whole.rising (recursion_from_All IsRow p.rows whole.rows) (placed p.stays whole.apart)))

-- ---- keys of marks that break ties

side-small : (s : Side) → side_number s ≤ 1
side-small Under = omega arith
side-small Over = omega arith

row-key : (all : List Stay) (m : Mark) (id : ℕ) → m.row ≡ Held id → mark_key all m ≡ 2 * id + side_number m.side
row-key all m id e = ap (λ (n : RowName). 2 * line_key all n + side_number m.side) e

stay-key : (all : List Stay) (m : Mark) (attr : ℕ) → m.row ≡ StayOf attr → mark_key all m ≡ 2 * (MARKS + stays_before all attr) + side_number m.side
stay-key all m attr e = ap (λ (n : RowName). 2 * line_key all n + side_number m.side) e

row-tie : (all : List Stay) (m : Mark) (id : ℕ) → m.row ≡ Held id → tie_key all m ≡ mark_key all m
row-tie all m id e = ap (λ (n : RowName). turned all n (mark_key all m)) e

stay-tie : (all : List Stay) (m : Mark) (attr : ℕ) → m.row ≡ StayOf attr → tie_key all m ≡ 4 * MARKS + 2 * length all - mark_key all m
stay-tie all m attr e = ap (λ (n : RowName). turned all n (mark_key all m)) e

-- a row's number is small, and before a stay stand fewer than there are
abbrev IsSmallName : List Stay → RowName → Type 0
IsSmallName all (Held id) = id < MARKS
IsSmallName all (StayOf attr) = stays_before all attr < length all

pub rows_tie : (all : List Stay) (f g : Mark) (i k : ℕ) → f.row ≡ Held i → g.row ≡ Held k → mark_key all f < mark_key all g → tie_key all f < tie_key all g
rows_tie all f g i k e q less = let a = row-tie all f i e in let b = row-tie all g k q in omega (arith, a, b, less)

pub rows_no_tie : (all : List Stay) (f g : Mark) (i k : ℕ) → f.row ≡ Held i → g.row ≡ Held k → mark_key all g ≤ mark_key all f → tie_key all g ≤ tie_key all f
rows_no_tie all f g i k e q most = let a = row-tie all f i e in let b = row-tie all g k q in omega (arith, a, b, most)

row-first-tie : (all : List Stay) (f g : Mark) (i b : ℕ) → f.row ≡ Held i → g.row ≡ StayOf b → i < MARKS → stays_before all b < length all → tie_key all f < tie_key all g
row-first-tie all f g i b e q small within =
    let x = row-tie all f i e in
    let y = stay-tie all g b q in
    let u = row-key all f i e in
    let v = stay-key all g b q in
    let s = side-small f.side in
    let t = side-small g.side in
    omega (arith, x, y, u, v, s, t, small, within)

stays-tie : (all : List Stay) (f g : Mark) (a b : ℕ) → f.row ≡ StayOf a → g.row ≡ StayOf b → stays_before all b < length all → mark_key all g < mark_key all f → tie_key all f < tie_key all g
stays-tie all f g a b e q within less =
    let x = stay-tie all f a e in
    let y = stay-tie all g b q in
    let v = stay-key all g b q in
    let t = side-small g.side in
    omega (arith, x, y, v, t, within, less)

pub stays_no_tie : (all : List Stay) (f g : Mark) (a b : ℕ) → f.row ≡ StayOf a → g.row ≡ StayOf b → mark_key all f ≤ mark_key all g → tie_key all g ≤ tie_key all f
stays_no_tie all f g a b e q most = let x = stay-tie all f a e in let y = stay-tie all g b q in omega (arith, x, y, most)

-- ---- names that are small

stays-within : (k attr : ℕ) (stays : List Stay) → Any (λ l. l.name ≡ StayOf attr) (stay_lines k stays) → stays_before stays attr < length stays
stays-within k attr [] h = absurd (let within = h.2 in omega (arith, within))
stays-within k attr (s ∷ stays) (zero, l, within, is, same) =
    let none : cond (nat_eq s.attr attr) 0 (suc (stays_before stays attr)) ≡ 0 = ap (λ (b : Bool). cond b 0 (suc (stays_before stays attr))) (eq-eqb s.attr attr (stay-same s.attr attr (ap (λ (x : Line). x.name) is ∙ same))) in
    omega (arith, none)
stays-within k attr (s ∷ stays) (suc i, l, within, is, same) =
    elim (cases_eq s.attr attr) [
      | inl e ↦
          let none : cond (nat_eq s.attr attr) 0 (suc (stays_before stays attr)) ≡ 0 = ap (λ (b : Bool). cond b 0 (suc (stays_before stays attr))) (eq-eqb s.attr attr e) in
          omega (arith, none)
      | inr ne ↦
          let less = stays-within (k + 1) attr stays (i, l, omega (arith, within), is, same) in
          let more : cond (nat_eq s.attr attr) 0 (suc (stays_before stays attr)) ≡ suc (stays_before stays attr) = ap (λ (b : Bool). cond b 0 (suc (stays_before stays attr))) (ne_eqb s.attr attr ne) in
          omega (arith, less, more)
    ]

stay-named : (p : Problem) (g : Mark) (b : ℕ) → g.row ≡ StayOf b → IsNamed p g.row → stays_before p.stays b < length p.stays
stay-named p g b q named = stays-within 1001 b p.stays (behind-rows b p.rows (stay_lines 1001 p.stays) (subst (IsNamed p) q named))

row-named : (p : Problem) (f : Mark) (id : ℕ) → IsWhole p → f.row ≡ Held id → IsNamed p f.row → id < MARKS
row-named p f id whole e named =
    let small = (pick IsSmallLine (lines p) named.0 named.1 (lines_small p whole) named.2 named.3).under in
    let there : place_of (Held id) Under < attr_column 0 = subst (λ (x : RowName). place_of x Under < attr_column 0) (named.4 ∙ e) small in
    omega (arith, there)

pub row_tie : (p : Problem) (f g : Mark) (id attr : ℕ) → IsWhole p → f.row ≡ Held id → g.row ≡ StayOf attr → IsNamed p f.row → IsNamed p g.row → tie_key p.stays f < tie_key p.stays g
row_tie p f g id attr whole e q named there = row-first-tie p.stays f g id attr e q (row-named p f id whole e named) (stay-named p g attr q there)

pub stays_tie : (p : Problem) (f g : Mark) (a b : ℕ) → f.row ≡ StayOf a → g.row ≡ StayOf b → IsNamed p g.row → mark_key p.stays g < mark_key p.stays f → tie_key p.stays f < tie_key p.stays g
stays_tie p f g a b e q named less = stays-tie p.stays f g a b e q (stay-named p g b q named) less

small-stays : (all some : List Stay) (k n : ℕ) → n + length some ≡ length all → ArePlaced all n some → Each (λ m. IsSmallName all m.row) (marks_of (stay_lines k some))
small-stays all [] k n e h = tt
small-stays all (s ∷ some) k n e h = let at = h.0 in (omega (arith, e, at), (omega (arith, e, at), small-stays all some (k + 1) (n + 1) (omega (arith, e)) h.1))

small-rows : (all : List Stay) (rows : List Row) → Each IsRow rows → ArePlaced all 0 all → Each (λ m. IsSmallName all m.row) (marks_of (map line_of_row rows ++ stay_lines 1001 all))
small-rows all [] are h = small-stays all all 1001 0 (omega arith) h
small-rows all (r ∷ rows) are h = let most = are.0.number.1 in (omega (arith, most), (omega (arith, most), small-rows all rows are.1 h))

first-small : (p : Problem) (first : List Mark) → IsWhole p → first ≡ in_order p first → Each (λ m. IsSmallName p.stays m.row) first
first-small p first whole ordered =
    subst (Each (λ m. IsSmallName p.stays m.row)) (sym ordered)
    (each-filtered (λ m. IsSmallName p.stays m.row) (λ m. is_mark first (place m)) (marks_of (lines p)) (small-rows p.stays p.rows (recursion_from_All IsRow p.rows whole.rows) (placed p.stays whole.apart)))

-- ---- they rise in the order in which the marks break ties

abbrev pub IsTieAbove : List Stay → ℕ → Mark → Type 0
IsTieAbove all b m = b < tie_key all m

abbrev pub AreTieRising : List Stay → List Mark → Type 0
AreTieRising all [] = Unit {0}
AreTieRising all (m ∷ ms) = Each (IsTieAbove all (tie_key all m)) ms × AreTieRising all ms

rising-more : (all : List Stay) (ms : List Mark) (m : Mark) → AreTieRising all ms → Each (λ n. tie_key all n < tie_key all m) ms → AreTieRising all (ms ++ m ∷ [])
rising-more all [] m h below = (tt, tt)
rising-more all (n ∷ ms) m h below = (each_more (IsTieAbove all (tie_key all n)) ms m h.0 below.0, rising-more all ms m h.1 below.1)

-- a mark behind another one, where the keys are those of the marks as they stand
abbrev IsLater : List Stay → Mark → Mark → Type 0
IsLater all m n = IsSmallName all n.row × (mark_key all m < mark_key all n)

behind-row : (all : List Stay) (m n : Mark) (id : ℕ) (name : RowName) → m.row ≡ Held id → id < MARKS → n.row ≡ name → IsSmallName all name → mark_key all m < mark_key all n → tie_key all m < tie_key all n
behind-row all m n id (Held k) e small q there less = rows_tie all m n id k e q less
behind-row all m n id (StayOf b) e small q there less = row-first-tie all m n id b e q small there

behind-stay : (all : List Stay) (m n : Mark) (attr : ℕ) (name : RowName) → m.row ≡ StayOf attr → stays_before all attr < length all → n.row ≡ name → IsSmallName all name → mark_key all m < mark_key all n → tie_key all n < tie_key all m
behind-stay all m n attr (Held k) e within q there less =
    let u = stay-key all m attr e in
    let v = row-key all n k q in
    let s = side-small n.side in
    absurd (omega (arith, u, v, s, there, less))
behind-stay all m n attr (StayOf b) e within q there less = stays-tie all n m b attr q e within less

put-rising : (all : List Stay) (name : RowName) (m : Mark) (ms : List Mark) → m.row ≡ name → IsSmallName all name → Each (IsLater all m) ms → AreTieRising all ms → AreTieRising all (put_tied name m ms)
put-rising all (Held id) m ms e small later h =
    (each-impl (IsLater all m) (IsTieAbove all (tie_key all m)) ms (λ n g. behind-row all m n id n.row e small refl g.0 g.1) later, h)
put-rising all (StayOf attr) m ms e within later h =
    rising-more all ms m h (each-impl (IsLater all m) (λ n. tie_key all n < tie_key all m) ms (λ n g. behind-stay all m n attr n.row e within refl g.0 g.1) later)

tied-rising : (all : List Stay) (ms : List Mark) → Each (λ m. IsSmallName all m.row) ms → AreRising all ms → AreTieRising all (in_tie_order ms)
tied-rising all [] small h = tt
tied-rising all (m ∷ ms) small h =
    put-rising all m.row m (in_tie_order ms) refl small.0
    (each_tied (IsLater all m) ms (each-both (λ n. IsSmallName all n.row) (IsAbove all (mark_key all m)) ms small.1 h.0))
    (tied-rising all ms small.1 h.1)

pub ties_rising : (p : Problem) (first : List Mark) → IsWhole p → first ≡ in_order p first → AreTieRising p.stays (in_tie_order first)
ties_rising p first whole ordered = tied-rising p.stays first (first-small p first whole ordered) (first-rising p first whole ordered)
