-- The one line of a stay's level, by its place.
use Rattle.std.proofs.Common.{◌≡◌, ◌≢◌, ◌∙◌, ℕ, zero, suc, ◌-◌, ◌<◌, ◌≤◌, Bool, true, false, cond, nat_eq, List, [], ◌∷◌, length, take, get_or, refl, sym, ap, subst, arith, All, AllPairs, eq-eqb, ne_eqb}
use Rattle.std.specs.declared.option.Option.{Option}
use Rattle.std.specs.List.{AllByRecursion as Each, filter}
use Rattle.std.proofs.Common.{None}
use Rattle.std.proofs.lemmas.List.Elements.{recursion_from_All}
use Rattle.problem_core.specs.declared.parts.Level.{Level}
use Rattle.problem_core.specs.declared.parts.Level.TheVariants.{Priority, Stay as StayLevel}
use Rattle.problem_core.specs.declared.parts.RowName.TheVariants.{Stay as StayOf}
use Rattle.problem_core.specs.declared.parts.Mark.{Mark}
use Rattle.problem_core.specs.Layout.{Line, Problem, Row, lines}
use Rattle.problem_core.specs.Levels.{IsLevelAt}
use Rattle.problem_core.specs.Unfit.{lightened, with_first_rows, without_weight}
use Rattle.corner_laws.specs.Units.{IsStayLevel}
use Rattle.corner_laws.proofs.Counting.{head_pairs}
use Rattle.corner_lines.proofs.LevelRows.StayRows.{stay_stands_alone}
use Rattle.path_lines.specs.declared.table.Inside.{Inside}
use Rattle.path_lines.specs.Tables.{IsLineAt, line_count, name_at}
use Rattle.path_lines.proofs.Places.{any_line, name_there}
use Rattle.path_levels.specs.declared.outline.Outline.{Outline}
use Rattle.path_levels.specs.declared.outline.LevelFacts.{LevelFacts}
use Rattle.path_levels.specs.declared.outline.LineFacts.{LineFacts}
use Rattle.path_levels.specs.Outlines.{AreFactsOf, IsFactsOf, IsOutline, number_at}
use Rattle.path_levels.specs.Rows.{AreKeptOf, level_place, level_size}
use Rattle.path_levels.proofs.Parts.PartLines.{facts_at}
use Rattle.frac_core.proofs.Lists.{pairs-rest as tail_pairs}

-- ---- no row has such a level

heavy : (k j : ℕ) (rows : List Row) → 1000 < k → lightened k j rows ≡ rows
heavy k j [] h = refl
heavy k j (r ∷ rows) h =
    ap (λ (b : Bool). cond b (cond (nat_eq j 0) (without_weight r) r ∷ lightened k (j - 1) rows) (r ∷ lightened k j rows)) (ne_eqb (1000 - r.rank) k (λ e. above e))
    ∙ ap (λ (xs : List Row). r ∷ xs) (heavy k j rows h)
  where
    above : 1000 - r.rank ≡ k → ⊥
    above e = absurd (omega (arith, e, h))

pub all_rows : (p : Problem) (k j : ℕ) → 1000 < k → with_first_rows k j p ≡ p
all_rows p k j h = ap (λ (rows : List Row). let q : Problem = record { rows = rows; stays = p.stays } in q) (heavy k j p.rows h)

-- ---- places of levels

number-later : (n : ℕ) (fs : List LevelFacts) (k : ℕ) → Each (λ g. n < g.number) fs → k < length fs → n < number_at fs k
number-later n [] k h w = absurd (omega (arith, w))
number-later n (f ∷ fs) zero h w = h.0
number-later n (f ∷ fs) (suc k) h w = number-later n fs k h.1 (omega (arith, w))

pub same_place : (fs : List LevelFacts) (a b : ℕ) → AllPairs (λ f g. f.number < g.number) fs → a < length fs → b < length fs → number_at fs a ≡ number_at fs b → a ≡ b
same_place [] a b pairs v w e = absurd (omega (arith, v))
same_place (f ∷ fs) zero zero pairs v w e = refl
same_place (f ∷ fs) zero (suc b) pairs v w e =
    let less : f.number < number_at fs b = number-later f.number fs b (recursion_from_All (λ g. f.number < g.number) fs (head_pairs (λ f g. f.number < g.number) f fs pairs)) (omega (arith, w)) in
    let same : f.number ≡ number_at fs b = e in absurd (omega (arith, less, same))
same_place (f ∷ fs) (suc a) zero pairs v w e =
    let less : f.number < number_at fs a = number-later f.number fs a (recursion_from_All (λ g. f.number < g.number) fs (head_pairs (λ f g. f.number < g.number) f fs pairs)) (omega (arith, v)) in
    let same : number_at fs a ≡ f.number = e in absurd (omega (arith, less, same))
same_place (f ∷ fs) (suc a) (suc b) pairs v w e = ap suc (same_place fs a b (tail_pairs (λ f g. f.number < g.number) f fs pairs) (omega (arith, v)) (omega (arith, w)) e)

level-at : (p : Problem) (fs : List LevelFacts) (k : ℕ) → Each (λ f. IsLevelAt p f.level f.number) fs → k < length fs → (level : Level) × IsLevelAt p level (number_at fs k)
level-at p [] k h w = absurd (omega (arith, w))
level-at p (f ∷ fs) zero h w = (f.level, h.0)
level-at p (f ∷ fs) (suc k) h w = level-at p fs k h.1 (omega (arith, w))

pub stay_of : (p : Problem) (level : Level) (k : ℕ) → 1000 < k → IsLevelAt p level k → (attr : ℕ) × (level ≡ StayLevel attr)
stay_of p (Priority rank) k h is = absurd (omega (arith, is, h))
stay_of p (StayLevel attr) k h is = (attr, refl)

-- the stay whose level is at the place
pub stay_at : (p : Problem) (outline : Outline) (place : ℕ) → IsOutline p outline → place < length outline.levels.items → 1000 < number_at outline.levels.items place → (attr : ℕ) × IsLevelAt p (StayLevel attr) (number_at outline.levels.items place)
stay_at p outline place is within above =
    let there = level-at p outline.levels.items place (recursion_from_All (λ f. IsLevelAt p f.level f.number) outline.levels.items is.levels_are.each) within in
    let stay = stay_of p there.0 (number_at outline.levels.items place) above there.1 in
    (stay.0, subst (λ (level : Level). IsLevelAt p level (number_at outline.levels.items place)) stay.1 there.1)

-- ---- how many lines it has

some-of : (n : ℕ) (ls : List Line) (k : ℕ) (d : Line) → k < length ls → (get_or ls k d).level ≡ n → 1 ≤ length (filter (λ l. nat_eq l.level n) ls)
some-of n [] k d w e = absurd (omega (arith, w))
some-of n (l ∷ ls) zero d w e = subst (λ (b : Bool). 1 ≤ length (cond b (l ∷ filter (λ l. nat_eq l.level n) ls) (filter (λ l. nat_eq l.level n) ls))) (sym (eq-eqb l.level n e)) (more (length (filter (λ l. nat_eq l.level n) ls)))
  where
    more : (n : ℕ) → 1 ≤ suc n
    more n = omega arith
some-of n (l ∷ ls) (suc k) d w e = either (nat_eq l.level n) l (filter (λ l. nat_eq l.level n) ls) (some-of n ls k d (omega (arith, w)) e)
  where
    either : (b : Bool) (l : Line) (ls : List Line) → 1 ≤ length ls → 1 ≤ length (cond b (l ∷ ls) ls)
    either true l ls h = omega (arith, h)
    either false l ls h = h

pub has_line : (p : Problem) (attr k : ℕ) → IsLevelAt p (StayLevel attr) k → 1 ≤ level_size p k
has_line p attr k (i, l, within, is, e) = some-of k (lines p) i l within (ap (λ (l : Line). l.level) is ∙ e.1)

none-of : (levels : List LevelFacts) (place : ℕ) (ls : List Line) (facts : List LineFacts) (k : ℕ) → AreFactsOf levels ls facts → AllPairs (λ f g. f.number < g.number) levels → place < length levels → Each (λ f. f.level ≢ place) (take k facts)
    → length (filter (λ l. nat_eq l.level (number_at levels place)) (take k ls)) ≡ 0
none-of levels place [] facts zero are pairs w h = refl
none-of levels place [] facts (suc k) are pairs w h = refl
none-of levels place (l ∷ ls) [] k are pairs w h = absurd are
none-of levels place (l ∷ ls) (f ∷ facts) zero are pairs w h = refl
none-of levels place (l ∷ ls) (f ∷ facts) (suc k) are pairs w h =
    ap (λ (b : Bool). length (cond b (l ∷ filter (λ l. nat_eq l.level (number_at levels place)) (take k ls)) (filter (λ l. nat_eq l.level (number_at levels place)) (take k ls))))
    (ne_eqb l.level (number_at levels place) (λ e. h.0 (same_place levels f.level place pairs are.0.level w (are.0.number ∙ e))))
    ∙ none-of levels place ls facts k are.1 pairs w h.1

none-at : (levels : List LevelFacts) (place : ℕ) (ls : List Line) (facts : List LineFacts) (k : ℕ) (d : Line) → AreFactsOf levels ls facts → AllPairs (λ f g. f.number < g.number) levels → place < length levels → Each (λ f. f.level ≢ place) facts
    → k < length ls → (get_or ls k d).level ≢ number_at levels place
none-at levels place [] facts k d are pairs w h within e = absurd (omega (arith, within))
none-at levels place (l ∷ ls) [] k d are pairs w h within e = absurd are
none-at levels place (l ∷ ls) (f ∷ facts) zero d are pairs w h within e = h.0 (same_place levels f.level place pairs are.0.level w (are.0.number ∙ e))
none-at levels place (l ∷ ls) (f ∷ facts) (suc k) d are pairs w h within e = none-at levels place ls facts k d are.1 pairs w h.1 (omega (arith, within)) e

-- the level at a place has a line
pub never_none : (p : Problem) (outline : Outline) (place : ℕ) → IsOutline p outline → place < length outline.levels.items → 1000 < number_at outline.levels.items place → All (λ f. f.level ≢ place) outline.lines.items → ⊥
never_none p outline place is within above none =
    let stay = stay_at p outline place is within above in
    gone stay.1
  where
    gone : {attr : ℕ} → IsLevelAt p (StayLevel attr) (number_at outline.levels.items place) → ⊥
    gone {attr} (i, l, here, same, e) = none-at outline.levels.items place (lines p) outline.lines.items i l is.lines_are is.levels_are.rising within (recursion_from_All (λ f. f.level ≢ place) outline.lines.items none) here (ap (λ (l : Line). l.level) same ∙ e.1)

-- ---- its line

-- the first line of the level, and how it is kept
pub record IsStayPlace (outline : Outline) (kept : List (Option Inside)) (place k : ℕ) (line : Option Inside) : Type 0 where
  pub place_within : place < length outline.levels.items
  pub count : length kept ≡ length outline.lines.items
  pub within : k < length outline.lines.items
  pub here : (f : LineFacts) → (get_or outline.lines.items k f).level ≡ place
  pub before : All (λ f. f.level ≢ place) (take k outline.lines.items)
  pub line_is : get_or kept k None ≡ line

pub line_kept : (p : Problem) (at : List Mark) (outline : Outline) (place most : ℕ) (kept : List (Option Inside)) (k attr : ℕ) (line : Option Inside) → IsStayPlace outline kept place k line → AreKeptOf p at outline place most kept → 0 < most
    → IsLevelAt p (StayLevel attr) (number_at outline.levels.items place) → IsLineAt p at (StayOf attr) line
line_kept p at outline place most kept k attr line is are some level =
    let within : k < line_count p = subst (λ (n : ℕ). k < n) (sym is.count ∙ are.count) is.within in
    let f : LineFacts = a-line outline.lines.items k is.within in
    let facts : IsFactsOf outline.levels.items (get_or (lines p) k any_line) (get_or outline.lines.items k f) = facts_at outline.levels.items (lines p) outline.lines.items k any_line f are.outline_is.lines_are within in
    let number : (get_or (lines p) k any_line).level ≡ number_at outline.levels.items place = sym facts.number ∙ ap (number_at outline.levels.items) (is.here f) in
    let alone : IsStayLevel p (number_at outline.levels.items place) attr = stay_stands_alone p attr (number_at outline.levels.items place) are.there.whole level in
    let name : name_at p k ≡ StayOf attr = sym (name_there p k any_line within) ∙ (alone.own k any_line within number).0 in
    let first : level_place p (number_at outline.levels.items place) k ≡ 0 = none-of outline.levels.items place (lines p) outline.lines.items k are.outline_is.lines_are are.outline_is.levels_are.rising is.place_within (recursion_from_All (λ f. f.level ≢ place) (take k outline.lines.items) is.before) in
    let there : IsLineAt p at (name_at p k) (get_or kept k None) = are.each k None f within (is.here f) (subst (λ (n : ℕ). n < most) (sym first) some) in
    subst (λ (o : Option Inside). IsLineAt p at (StayOf attr) o) is.line_is (subst (λ n. IsLineAt p at n (get_or kept k None)) name there)
  where
    a-line : (fs : List LineFacts) (k : ℕ) → k < length fs → LineFacts
    a-line [] k w = absurd (omega (arith, w))
    a-line (f ∷ fs) k w = f
