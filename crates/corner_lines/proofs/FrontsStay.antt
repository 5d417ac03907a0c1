-- Columns that keep their signs.
use Rattle.std.proofs.Common.{◌≡◌, ◌≢◌, ◌∙◌, ℕ, ◌+◌, ◌*◌, ◌/◌, ◌<◌, Bool, cond, nat_eq, List, [], ◌∷◌, ◌++◌, map, length, ℤ, pos, ◌+ℤ◌, ◌-ℤ◌, ◌*ℤ◌, neg_ℤ, unsigned_abs, refl, sym, ap, ap₂, subst, arith, All, mul-pos, eq-eqb, ne_eqb}
use Rattle.std.specs.List.{AllByRecursion as Each}
use Rattle.std.specs.Int.{◌∣◌}
use Rattle.std.proofs.lemmas.List.Elements.{All-from_recursion, recursion_from_All}
use borrow.Author.Differences.{ints}
use Rattle.frac_core.proofs.Gauss.{Reduces, reduces}
use Rattle.frac_core.proofs.Integers.{mul-add_left, mul-sub_left, mul_assoc_ℤ, zero-mul_ℤ}
use Rattle.problem_core.specs.declared.parts.Mark.{Mark}
use Rattle.problem_core.specs.declared.parts.Side.{Side}
use Rattle.problem_core.specs.declared.parts.Side.TheVariants.{Under, Over}
use Rattle.problem_core.specs.declared.parts.Stay.{Stay}
use Rattle.problem_core.specs.declared.parts.RowName.{RowName}
use Rattle.problem_core.specs.declared.parts.RowName.TheVariants.{Stay as StayOf}
use Rattle.problem_core.specs.Layout.{Line, Problem, coefficient, line_of_row, line_of_stay, lines, stay_lines, sum_of}
use Rattle.problem_core.specs.Certificates.{weight_at}
use Rattle.problem_core.specs.Corners.{IsIn, column, exchanged, place_of}
use Rattle.problem_core.specs.Rays.{HasRays}
use Rattle.problem_core.specs.Levels.{alone}
use Rattle.frac_core.proofs.Sums.{sum-append}
use Rattle.problem_core.proofs.Forms.{each-impl, each-both}
use Rattle.corner_laws.specs.Equations.{IsLevelSum}
use Rattle.corner_laws.specs.Units.{IsLevelUnit, over_share, under_share}
use Rattle.corner_laws.proofs.LevelCosts.Equal.{all_same, writing-sum}
use Rattle.corner_laws.proofs.LevelCosts.Unique.{same-name}
use Rattle.corner_lines.specs.LineEquations.{IsOutsideLine}
use Rattle.corner_lines.specs.Levels.LevelRows.{HasLevelRow, IsLevelMultiple, inside_number, reduced_number, sum_by}
use Rattle.corner_lines.specs.Levels.LevelCosts.{IsSound}
use Rattle.corner_lines.specs.Fronts.{AreAlike, ExchangedCostsAreAlike, GrownCostsAreAlike, JoinedCostsAreAlike, MovedLevelsStay, NewStayLeavesLevels, constantless, with_stay}
use Rattle.corner_lines.proofs.LevelRows.LevelExchanges.{entering-number, exchanged-multiple, multiple-numbers, left-outside, kept as without-pivot}
use Rattle.corner_lines.proofs.Costs.LevelCosts.{column-is, reduced-none}
use Rattle.corner_lines.proofs.Costs.LevelFits.{reduced-is, reduced_by, row-writing}
use Rattle.corner_lines.proofs.LevelRows.LevelJoins.{cross-share, grown-over, grown-under, joined_row_is_multiple, whole-none}
use Rattle.corner_lines.proofs.LevelRows.LevelSound.{seen-each, whole_is_sound}
use Rattle.problem_core.proofs.Corners.Conflicts.{sum-each}
use Rattle.frac_core.proofs.Numbers.{share-above}
use Rattle.frac_core.proofs.Lists.{each-joined}
use Rattle.problem_core.proofs.Lines.{weight-none as no_weight}

-- ---- a multiple as a sum of lines

pub multiple-sum : (p : Problem) (at : List Mark) (level unit own : ℕ) (by : RowName → ℤ) → IsSound p → IsLevelUnit p level unit → IsLevelMultiple p at level unit own by → IsLevelSum p at level (own * unit) by (reduced_by p level unit own by)
multiple-sum p at level unit own by sound is mult = record {
  scale_positive = mul-pos mult.own_positive is.above;
  cancel = mult.cancel;
  columns = λ side.
      All-from_recursion (λ l. pos l.scale *ℤ reduced_by p level unit own by (place_of l.name side) ≡ column (alone (own * unit) by) side l level) (lines p)
      (each-impl (λ l. ((reduced_by p level unit own by (place_of l.name Under) ≡ reduced_number Under level unit own (by l.name) l) × (reduced_by p level unit own by (place_of l.name Over) ≡ reduced_number Over level unit own (by l.name) l)) × (l.scale ∣ unit * weight_at l level)) _ (lines p)
      (λ l h. ap (λ (z : ℤ). pos l.scale *ℤ z) (on-side p level unit own by l side h.0) ∙ sym (column-is side level unit own by l h.1))
      (each-both _ _ (lines p) (reduced-is p level unit own by sound) (recursion_from_All _ (lines p) is.whole)));
  inside_zero = λ side.
      All-from_recursion (λ l. IsIn (place_of l.name side) at → reduced_by p level unit own by (place_of l.name side) ≡ pos 0) (lines p)
      (each-impl (λ l. ((reduced_by p level unit own by (place_of l.name Under) ≡ reduced_number Under level unit own (by l.name) l) × (reduced_by p level unit own by (place_of l.name Over) ≡ reduced_number Over level unit own (by l.name) l)) × ((x : Side) → IsIn (place_of l.name x) at → by l.name ≡ inside_number x level unit own l)) _ (lines p)
      (λ l h i. on-side p level unit own by l side h.0 ∙ reduced-none side level unit own (by l.name) l (h.1 side i))
      (each-both _ _ (lines p) (reduced-is p level unit own by sound) (multiple-numbers p at level unit own by mult)));
}
  where
    on-side : (p : Problem) (level unit own : ℕ) (by : RowName → ℤ) (l : Line) (side : Side) → (reduced_by p level unit own by (place_of l.name Under) ≡ reduced_number Under level unit own (by l.name) l) × (reduced_by p level unit own by (place_of l.name Over) ≡ reduced_number Over level unit own (by l.name) l)
        → reduced_by p level unit own by (place_of l.name side) ≡ reduced_number side level unit own (by l.name) l
    on-side p level unit own by l Under h = h.0
    on-side p level unit own by l Over h = h.1

-- k times the numbers is k times the reduced cost
times-reduced : (side : Side) (level unit own k : ℕ) (y z : ℤ) (l : Line) → z ≡ pos k *ℤ y → reduced_number side level unit (k * own) z l ≡ pos k *ℤ reduced_number side level unit own y l
times-reduced Under level unit own k y z l e =
    let a : pos k *ℤ (pos (own * under_share unit level l) -ℤ y) ≡ pos k *ℤ pos (own * under_share unit level l) -ℤ pos k *ℤ y = mul-sub_left (pos k) (pos (own * under_share unit level l)) y in
    let b : pos k *ℤ pos (own * under_share unit level l) ≡ pos (k * own * under_share unit level l) = ap pos (omega arith) in
    omega (arith, ints, a, b, e)
times-reduced Over level unit own k y z l e =
    let a : pos k *ℤ (pos (own * over_share unit level l) +ℤ y) ≡ pos k *ℤ pos (own * over_share unit level l) +ℤ pos k *ℤ y = mul-add_left (pos k) (pos (own * over_share unit level l)) y in
    let b : pos k *ℤ pos (own * over_share unit level l) ≡ pos (k * own * over_share unit level l) = ap pos (omega arith) in
    omega (arith, ints, a, b, e)

-- from a multiple of the old row to the new one
alike-from : (p : Problem) (at : List Mark) (level unit own size low : ℕ) (z next : RowName → ℤ) → IsSound p → HasRays p at → IsLevelUnit p level unit → 0 < size → 0 < own → IsLevelMultiple p at level unit (size * own) z → (h : HasLevelRow p at level unit low next)
    → Each (λ l. IsOutsideLine at l.name → (y : ℤ) → z l.name ≡ pos size *ℤ y → (side : Side) → AreAlike (reduced_number side level unit own y l) (reduced_number side level unit low (next l.name) l)) (lines p)
alike-from p at level unit own size low z next sound rays is up upo mult h =
    each-impl (λ l. (((pos (size * own * unit) *ℤ h.by l.name ≡ pos (low * unit) *ℤ z l.name)
    × ((pos (size * own * unit) *ℤ reduced_by p level unit low h.by (place_of l.name Under) ≡ pos (low * unit) *ℤ reduced_by p level unit (size * own) z (place_of l.name Under)) × (pos (size * own * unit) *ℤ reduced_by p level unit low h.by (place_of l.name Over) ≡ pos (low * unit) *ℤ reduced_by p level unit (size * own) z (place_of l.name Over))))
    × (((reduced_by p level unit (size * own) z (place_of l.name Under) ≡ reduced_number Under level unit (size * own) (z l.name) l) × (reduced_by p level unit (size * own) z (place_of l.name Over) ≡ reduced_number Over level unit (size * own) (z l.name) l))
    × ((reduced_by p level unit low h.by (place_of l.name Under) ≡ reduced_number Under level unit low (h.by l.name) l) × (reduced_by p level unit low h.by (place_of l.name Over) ≡ reduced_number Over level unit low (h.by l.name) l))))
    × (IsOutsideLine at l.name → h.by l.name ≡ next l.name)) _ (lines p)
    (λ l k out y e side. alike level unit own size low l (z l.name) (h.by l.name) (next l.name) y (reduced_by p level unit (size * own) z) (reduced_by p level unit low h.by) (mul-pos (mul-pos up upo) is.above) (mul-pos h.row.own_positive is.above) up (k.1 out) e side k.0.0.1 k.0.1)
    (each-both _ _ (lines p)
    (each-both _ _ (lines p) (all_same p at level (size * own * unit) (low * unit) z h.by (reduced_by p level unit (size * own) z) (reduced_by p level unit low h.by) sound.problem rays (multiple-sum p at level unit (size * own) z sound is mult) (writing-sum p at level (low * unit) h.by (reduced_by p level unit low h.by) (row-writing p at level unit low h.by sound is h.row)))
    (each-both _ _ (lines p) (reduced-is p level unit (size * own) z sound) (reduced-is p level unit low h.by sound)))
    (recursion_from_All _ (lines p) h.outside))
  where
    made : (side : Side) (level unit own size low : ℕ) (l : Line) (zl b nx y : ℤ) (r q : ℤ) → 0 < size * own * unit → 0 < low * unit → 0 < size → b ≡ nx → zl ≡ pos size *ℤ y → pos (size * own * unit) *ℤ q ≡ pos (low * unit) *ℤ r → r ≡ reduced_number side level unit (size * own) zl l → q ≡ reduced_number side level unit low b l
        → AreAlike (reduced_number side level unit own y l) (reduced_number side level unit low nx l)
    made side level unit own size low l zl b nx y r q ups upt upk same e f g h = record {
      left = size * own * unit;
      right = low * unit * size;
      left_positive = ups;
      right_positive = mul-pos upt upk;
      same = ap (λ (t : ℤ). pos (size * own * unit) *ℤ reduced_number side level unit low t l) (sym same) ∙ ap (λ (t : ℤ). pos (size * own * unit) *ℤ t) (sym h) ∙ f
          ∙ ap (λ (t : ℤ). pos (low * unit) *ℤ t) (g ∙ times-reduced side level unit own size y zl l e) ∙ sym (mul_assoc_ℤ (pos (low * unit)) (pos size) (reduced_number side level unit own y l));
    }

    alike : (level unit own size low : ℕ) (l : Line) (zl b nx y : ℤ) (r q : ℕ → ℤ) → 0 < size * own * unit → 0 < low * unit → 0 < size → b ≡ nx → zl ≡ pos size *ℤ y → (side : Side)
        → (pos (size * own * unit) *ℤ q (place_of l.name Under) ≡ pos (low * unit) *ℤ r (place_of l.name Under)) × (pos (size * own * unit) *ℤ q (place_of l.name Over) ≡ pos (low * unit) *ℤ r (place_of l.name Over))
        → ((r (place_of l.name Under) ≡ reduced_number Under level unit (size * own) zl l) × (r (place_of l.name Over) ≡ reduced_number Over level unit (size * own) zl l)) × ((q (place_of l.name Under) ≡ reduced_number Under level unit low b l) × (q (place_of l.name Over) ≡ reduced_number Over level unit low b l))
        → AreAlike (reduced_number side level unit own y l) (reduced_number side level unit low nx l)
    alike level unit own size low l zl b nx y r q ups upt upk same e Under f g = made Under level unit own size low l zl b nx y (r (place_of l.name Under)) (q (place_of l.name Under)) ups upt upk same e f.0 g.0.0 g.1.0
    alike level unit own size low l zl b nx y r q ups upt upk same e Over f g = made Over level unit own size low l zl b nx y (r (place_of l.name Over)) (q (place_of l.name Over)) ups upt upk same e f.1 g.0.1 g.1.1

-- ---- an exchange

pub exchanged_costs_are_alike : ExchangedCostsAreAlike
exchanged_costs_are_alike p at s level unit own size low number pivot next n ex is out enters rays h =
    All-from_recursion (λ l. IsOutsideLine at l.name → l.name ≢ s.enter.row → pivot l.name ≡ pos 0 → (side : Side) → AreAlike (reduced_number side level unit own (number l.name) l) (reduced_number side level unit low (next l.name) l)) (lines p)
    (each-impl (λ l. (IsOutsideLine (exchanged s at) l.name → (y : ℤ) → sum_by size ex.row.by n pivot l.name ≡ pos size *ℤ y → (side : Side) → AreAlike (reduced_number side level unit own y l) (reduced_number side level unit low (next l.name) l)) × (IsOutsideLine at l.name → ex.row.by l.name ≡ number l.name)) _ (lines p)
    (λ l k o ne none side. k.0 (left-outside s at l.name o ne) (number l.name) (without-pivot size (ex.row.by l.name) n (pivot l.name) (number l.name) none (k.1 o)) side)
    (each-both _ _ (lines p)
    (alike-from p (exchanged s at) level unit own size low (sum_by size ex.row.by n pivot) next (whole_is_sound p ex.whole) rays is ex.pivot_is.size_positive ex.row.row.own_positive
    (exchanged-multiple p at s level unit own size size ex.row.by pivot n n ex.whole ex.corner ex.exchange ex.row.row ex.pivot_is (entering-number p at s.enter level unit own number n ex.row.by out ex.row.outside enters) (record { above = ex.pivot_is.size_positive; same = refl })) h)
    (recursion_from_All _ (lines p) ex.row.outside)))

-- ---- a join

pub joined_costs_are_alike : JoinedCostsAreAlike
joined_costs_are_alike p q at level unit own size low number line next name inside n sound rays is join joins h =
    let m = joined_row_is_multiple p q at level unit own number name inside size size line n n join joins (record { above = join.line_is.size_positive; same = refl }) in
    All-from_recursion (λ l. IsOutsideLine at l.name → line l.name ≡ pos 0 → (side : Side) → AreAlike (reduced_number side level unit own (number l.name) l) (reduced_number side level unit low (next l.name) l)) (lines q)
    (each-impl (λ l. (IsOutsideLine at l.name → (y : ℤ) → m.0 l.name ≡ pos size *ℤ y → (side : Side) → AreAlike (reduced_number side level unit own y l) (reduced_number side level unit low (next l.name) l)) × (IsOutsideLine at l.name → m.0 l.name ≡ sum_by size number n line l.name)) _ (lines q)
    (λ l k o none side. k.0 o (number l.name) (k.1 o ∙ without-pivot size (number l.name) n (line l.name) (number l.name) none refl) side)
    (each-both _ _ (lines q) (alike-from q at level unit own size low m.0 next sound rays is join.line_is.size_positive join.row.row.own_positive m.1 h) (recursion_from_All _ (lines q) m.2)))

-- ---- a unit that grows

grown-reduced : (side : Side) (level unit own t g : ℕ) (y : ℤ) (l : Line) → Reduces t own g → 0 < l.scale → l.scale ∣ unit * weight_at l level → reduced_number side level (t * unit) (own / g) (pos (t / g) *ℤ y) l ≡ pos (t / g) *ℤ reduced_number side level unit own y l
grown-reduced Under level unit own t g y l r above d =
    let a = mul-sub_left (pos (t / g)) (pos (own * under_share unit level l)) y in
    let b : pos (t / g) *ℤ pos (own * under_share unit level l) ≡ pos (own / g * under_share (t * unit) level l) = ap pos (cross-share t own g (under_share unit level l) r ∙ ap (λ (n : ℕ). own / g * n) (sym (grown-under t unit level l above d))) in
    omega (arith, ints, a, b)
grown-reduced Over level unit own t g y l r above d =
    let a = mul-add_left (pos (t / g)) (pos (own * over_share unit level l)) y in
    let b : pos (t / g) *ℤ pos (own * over_share unit level l) ≡ pos (own / g * over_share (t * unit) level l) = ap pos (cross-share t own g (over_share unit level l) r ∙ ap (λ (n : ℕ). own / g * n) (sym (grown-over t unit level l above d))) in
    omega (arith, ints, a, b)

pub grown_costs_are_alike : GrownCostsAreAlike
grown_costs_are_alike p level unit own t g y problem is above upo gcd =
    let r : Reduces t own g = reduces t own g upo gcd in
    All-from_recursion (λ l. (side : Side) → AreAlike (reduced_number side level unit own y l) (reduced_number side level (t * unit) (own / g) (pos (t / g) *ℤ y) l)) (lines p)
    (each-impl (λ l. ((0 < l.scale) × (0 < l.den)) × (l.scale ∣ unit * weight_at l level)) _ (lines p)
    (λ l h side. record {
      left = 1;
      right = t / g;
      left_positive = omega arith;
      right_positive = share-above t g above r.num_is;
      same = (let z : ℤ = reduced_number side level (t * unit) (own / g) (pos (t / g) *ℤ y) l in let e : pos 1 *ℤ reduced_number side level (t * unit) (own / g) (pos (t / g) *ℤ y) l ≡ reduced_number side level (t * unit) (own / g) (pos (t / g) *ℤ y) l = omega (arith, ints) in e) ∙ grown-reduced side level unit own t g y l r h.0.0 h.1;
    })
    (each-both _ _ (lines p) (recursion_from_All _ (lines p) problem) (recursion_from_All _ (lines p) is.whole)))

-- ---- constants that change

sum-seen : (f : Line → ℤ) (ls ms : List Line) → ((l : Line) → f (constantless l) ≡ f l) → map constantless ls ≡ map constantless ms → sum_of f ls ≡ sum_of f ms
sum-seen f ls ms h e = sym (sum-map f ls h) ∙ ap (sum_of f) e ∙ sum-map f ms h
  where
    sum-map : (f : Line → ℤ) (ls : List Line) → ((l : Line) → f (constantless l) ≡ f l) → sum_of f (map constantless ls) ≡ sum_of f ls
    sum-map f [] h = refl
    sum-map f (l ∷ ls) h = ap₂ ◌+ℤ◌ (h l) (sum-map f ls h)

pub moved_levels_stay : MovedLevelsStay
moved_levels_stay p q at level unit own number same is h = (
  record {
    above = is.above;
    whole = All-from_recursion (λ l. l.scale ∣ unit * weight_at l level) (lines q) (seen-each constantless (λ l. l.scale ∣ unit * weight_at l level) (lines p) (lines q) same (recursion_from_All _ (lines p) is.whole));
    least = λ n all. is.least n (All-from_recursion (λ l. l.scale ∣ n * weight_at l level) (lines p) (seen-each constantless (λ l. l.scale ∣ n * weight_at l level) (lines q) (lines p) (sym same) (recursion_from_All _ (lines q) all)));
  },
  record {
    by = h.by;
    row = record {
      own_positive = h.row.own_positive;
      cancel = λ v. sum-seen (λ l. h.by l.name *ℤ coefficient v l.form) (lines q) (lines p) (λ l. refl) (sym same) ∙ h.row.cancel v;
      under = All-from_recursion (λ l. IsIn (place_of l.name Under) at → h.by l.name ≡ pos (own * under_share unit level l)) (lines q) (seen-each constantless (λ l. IsIn (place_of l.name Under) at → h.by l.name ≡ pos (own * under_share unit level l)) (lines p) (lines q) same (recursion_from_All _ (lines p) h.row.under));
      over = All-from_recursion (λ l. IsIn (place_of l.name Over) at → h.by l.name ≡ neg_ℤ (pos (own * over_share unit level l))) (lines q) (seen-each constantless (λ l. IsIn (place_of l.name Over) at → h.by l.name ≡ neg_ℤ (pos (own * over_share unit level l))) (lines p) (lines q) same (recursion_from_All _ (lines p) h.row.over));
      lowest = λ k d each. h.row.lowest k d (All-from_recursion (λ l. (IsIn (place_of l.name Under) at → ⊥) → (IsIn (place_of l.name Over) at → ⊥) → k ∣ unsigned_abs (h.by l.name)) (lines p) (seen-each constantless (λ l. (IsIn (place_of l.name Under) at → ⊥) → (IsIn (place_of l.name Over) at → ⊥) → k ∣ unsigned_abs (h.by l.name)) (lines q) (lines p) (sym same) (recursion_from_All _ (lines q) each)));
    };
    outside = All-from_recursion (λ l. IsOutsideLine at l.name → h.by l.name ≡ number l.name) (lines q) (seen-each constantless (λ l. IsOutsideLine at l.name → h.by l.name ≡ number l.name) (lines p) (lines q) same (recursion_from_All _ (lines p) h.outside));
  },
)

-- ---- a new stay

pub stays-more : (b : ℕ) (stays : List Stay) (s : Stay) → stay_lines b (stays ++ (s ∷ [])) ≡ stay_lines b stays ++ (line_of_stay (b + length stays) s ∷ [])
stays-more b [] s = ap (λ (n : ℕ). line_of_stay n s ∷ []) (omega arith)
stays-more b (t ∷ stays) s = ap (λ (ls : List Line). line_of_stay b t ∷ ls) (stays-more (b + 1) stays s ∙ ap (λ (n : ℕ). stay_lines (b + 1) stays ++ (line_of_stay n s ∷ [])) (omega arith))

pub regrouped : (xs ys zs : List Line) → xs ++ (ys ++ zs) ≡ (xs ++ ys) ++ zs
regrouped [] ys zs = refl
regrouped (x ∷ xs) ys zs = ap (λ (ls : List Line). x ∷ ls) (regrouped xs ys zs)

lines-more : (p : Problem) (s : Stay) → lines (with_stay p s) ≡ lines p ++ (line_of_stay (1001 + length p.stays) s ∷ [])
lines-more p s = ap (λ (ls : List Line). map line_of_row p.rows ++ ls) (stays-more 1001 p.stays s) ∙ regrouped (map line_of_row p.rows) (stay_lines 1001 p.stays) (line_of_stay (1001 + length p.stays) s ∷ [])

each-first : (P : Line → Type 0) (xs ys : List Line) → Each P (xs ++ ys) → Each P xs
each-first P [] ys h = tt
each-first P (x ∷ xs) ys h = (h.0, each-first P xs ys h.1)

put-line : (P : Line → Type 0) (p : Problem) (s : Stay) → Each P (lines p) → P (line_of_stay (1001 + length p.stays) s) → All P (lines (with_stay p s))
put-line P p s h here = All-from_recursion P (lines (with_stay p s)) (subst (Each P) (sym (lines-more p s)) (each-joined P (lines p) (line_of_stay (1001 + length p.stays) s ∷ []) h (here, tt)))

less-line : (P : Line → Type 0) (p : Problem) (s : Stay) → All P (lines (with_stay p s)) → All P (lines p)
less-line P p s h = All-from_recursion P (lines p) (each-first P (lines p) (line_of_stay (1001 + length p.stays) s ∷ []) (subst (Each P) (lines-more p s) (recursion_from_All P (lines (with_stay p s)) h)))

-- 0 at the new name
but : RowName → (RowName → ℤ) → RowName → ℤ
but new by name = cond (nat_eq (place_of name Under) (place_of new Under)) (pos 0) (by name)

but-new : (new : RowName) (by : RowName → ℤ) → but new by new ≡ pos 0
unfolding but
but-new new by = ap (λ (b : Bool). cond b (pos 0) (by new)) (eq-eqb (place_of new Under) (place_of new Under) refl)

but-old : (new : RowName) (by : RowName → ℤ) (name : RowName) → name ≢ new → but new by name ≡ by name
unfolding but
but-old new by name ne = ap (λ (b : Bool). cond b (pos 0) (by name)) (ne_eqb (place_of name Under) (place_of new Under) (λ e. ne (same-name name new e)))

pub new_stay_leaves_levels : NewStayLeavesLevels
new_stay_leaves_levels p s at level unit own number fresh out other none is h =
    let new : RowName = StayOf s.attr in
    let line : Line = line_of_stay (1001 + length p.stays) s in
    let free : weight_at (line_of_stay (1001 + length p.stays) s) level ≡ 0 = no_weight (line_of_stay (1001 + length p.stays) s) level (λ e. other (sym e)) in
    let old : Each (λ l. but (StayOf s.attr) h.by l.name ≡ h.by l.name) (lines p) = each-impl (λ l. l.name ≢ StayOf s.attr) _ (lines p) (λ l ne. but-old (StayOf s.attr) h.by l.name ne) (recursion_from_All _ (lines p) fresh) in (
      record {
        above = is.above;
        whole = put-line (λ l. l.scale ∣ unit * weight_at l level) p s (recursion_from_All _ (lines p) is.whole) (whole-none 1 unit (weight_at (line_of_stay (1001 + length p.stays) s) level) free);
        least = λ n all. is.least n (less-line (λ l. l.scale ∣ n * weight_at l level) p s all);
      },
      record {
        by = but (StayOf s.attr) h.by;
        row = record {
          own_positive = h.row.own_positive;
          cancel = λ v.
              ap (sum_of (λ l. but (StayOf s.attr) h.by l.name *ℤ coefficient v l.form)) (lines-more p s)
              ∙ sum-append (λ l. but (StayOf s.attr) h.by l.name *ℤ coefficient v l.form) (lines p) (line_of_stay (1001 + length p.stays) s ∷ [])
              ∙ ap₂ ◌+ℤ◌ (sum-each (λ l. but (StayOf s.attr) h.by l.name *ℤ coefficient v l.form) (λ l. h.by l.name *ℤ coefficient v l.form) (lines p) (each-impl (λ l. but (StayOf s.attr) h.by l.name ≡ h.by l.name) _ (lines p) (λ l e. ap (λ (z : ℤ). z *ℤ coefficient v l.form) e) old) ∙ h.row.cancel v)
              (ap (λ (z : ℤ). z +ℤ pos 0) (ap (λ (z : ℤ). z *ℤ coefficient v (line_of_stay (1001 + length p.stays) s).form) (but-new (StayOf s.attr) h.by) ∙ zero-mul_ℤ (coefficient v (line_of_stay (1001 + length p.stays) s).form)));
          under = put-line (λ l. IsIn (place_of l.name Under) at → but (StayOf s.attr) h.by l.name ≡ pos (own * under_share unit level l)) p s
              (each-impl (λ l. (but (StayOf s.attr) h.by l.name ≡ h.by l.name) × (IsIn (place_of l.name Under) at → h.by l.name ≡ pos (own * under_share unit level l))) _ (lines p) (λ l k i. k.0 ∙ k.1 i) (each-both _ _ (lines p) old (recursion_from_All _ (lines p) h.row.under)))
              (λ i. absurd (out.under i));
          over = put-line (λ l. IsIn (place_of l.name Over) at → but (StayOf s.attr) h.by l.name ≡ neg_ℤ (pos (own * over_share unit level l))) p s
              (each-impl (λ l. (but (StayOf s.attr) h.by l.name ≡ h.by l.name) × (IsIn (place_of l.name Over) at → h.by l.name ≡ neg_ℤ (pos (own * over_share unit level l)))) _ (lines p) (λ l k i. k.0 ∙ k.1 i) (each-both _ _ (lines p) old (recursion_from_All _ (lines p) h.row.over)))
              (λ i. absurd (out.over i));
          lowest = λ k d each.
              h.row.lowest k d
              (All-from_recursion (λ l. (IsIn (place_of l.name Under) at → ⊥) → (IsIn (place_of l.name Over) at → ⊥) → k ∣ unsigned_abs (h.by l.name)) (lines p)
              (each-impl (λ l. (but (StayOf s.attr) h.by l.name ≡ h.by l.name) × ((IsIn (place_of l.name Under) at → ⊥) → (IsIn (place_of l.name Over) at → ⊥) → k ∣ unsigned_abs (but (StayOf s.attr) h.by l.name))) _ (lines p) (λ l e u o. subst (λ (z : ℤ). k ∣ unsigned_abs z) e.0 (e.1 u o))
              (each-both _ _ (lines p) old (recursion_from_All _ (lines p) (less-line (λ l. (IsIn (place_of l.name Under) at → ⊥) → (IsIn (place_of l.name Over) at → ⊥) → k ∣ unsigned_abs (but (StayOf s.attr) h.by l.name)) p s each)))));
        };
        outside = put-line (λ l. IsOutsideLine at l.name → but (StayOf s.attr) h.by l.name ≡ number l.name) p s
            (each-impl (λ l. (but (StayOf s.attr) h.by l.name ≡ h.by l.name) × (IsOutsideLine at l.name → h.by l.name ≡ number l.name)) _ (lines p) (λ l k o. k.0 ∙ k.1 o) (each-both _ _ (lines p) old (recursion_from_All _ (lines p) h.outside)))
            (λ o. but-new (StayOf s.attr) h.by ∙ sym none);
      },
    )
