-- The first rows of a level after an exchange.
use Rattle.std.proofs.Common.{◌≡◌, ◌≢◌, ◌∙◌, ℕ, zero, suc, ◌+◌, ◌<◌, ◌≤◌, Bool, true, false, cond, nat_eq, List, [], ◌∷◌, length, filter, take, get_or, refl, sym, ap, subst, arith, All, Any, inl, inr, ne_eqb, eq-eqb, true≢false}
use Rattle.std.proofs.lemmas.Bool.{cases_eq, cases_lt}
use Rattle.std.proofs.lemmas.List.{get_or_default}
use Rattle.std.proofs.lemmas.List.Filters.{length-filter_more}
use Rattle.problem_core.specs.declared.parts.Mark.{Mark}
use Rattle.problem_core.specs.declared.parts.RowName.{RowName}
use Rattle.problem_core.specs.declared.parts.RowName.TheVariants.{Stay as StayOf}
use Rattle.problem_core.specs.declared.parts.Level.{Level}
use Rattle.problem_core.specs.declared.parts.Level.TheVariants.{Stay as StayLevel}
use Rattle.problem_core.specs.declared.stops.What.TheVariants.{Mark as MarkOf}
use Rattle.problem_core.specs.declared.stops.Quantity.TheVariants.{Plain, Rows}
use Rattle.problem_core.specs.Kept.{IsWhole}
use Rattle.problem_core.specs.Layout.{Line, Problem, lines}
use Rattle.problem_core.specs.Levels.{IsLevelAt}
use Rattle.problem_core.specs.Unfit.{IsUnfitRows}
use Rattle.path_lines.specs.Tables.{line_count, name_at}
use Rattle.path_lines.proofs.Places.{any_line, name_there}
use Rattle.path_levels.specs.declared.outline.Outline.{Outline}
use Rattle.path_levels.specs.declared.outline.LevelFacts.{LevelFacts}
use Rattle.path_levels.specs.declared.outline.LineFacts.{LineFacts}
use Rattle.path_fits.specs.declared.last.Fit.TheVariants.{NoRoom}
use Rattle.path_fits.specs.Attrs.{IsEmptyLevel}
use Rattle.path_fits.specs.FirstLines.{HasUnfitFirst, IsFirstAt, size_in}
use Rattle.path_fits.specs.Fits.{IsFitAt}
use Rattle.path_levels.specs.Outlines.{AreFactsOf, AreLevelFacts, IsFactsOf, IsOutline, number_at}
use Rattle.path_levels.specs.Rows.{level_place, level_size}
use Rattle.path_levels.proofs.Exchanges.FitFacts.{any_facts}
use Rattle.path_levels.proofs.Exchanges.MultipleFacts.{any_level}
use Rattle.path_levels.proofs.Parts.RowsLoop.{one-place as one_level}
use Rattle.path_levels.proofs.Parts.PartLines.{facts_at}
use Rattle.path_levels.proofs.Counting.LineShares.{facts_count}
use Rattle.corner_lines.proofs.LevelRows.StayRows.{level_one as level_once}

-- ---- the place of a level

pub stay_line_found : (p : Problem) (outline : Outline) (attr i : ℕ) (f : LineFacts) → IsOutline p outline → i < length outline.lines.items → (get_or outline.lines.items i f).name ≡ StayOf attr → IsLevelAt p (StayLevel attr) (number_at outline.levels.items (get_or outline.lines.items i f).level)
stay_line_found p outline attr i f is within named =
    let there : i < length (lines p) = omega (arith, within, facts_count outline.levels.items (lines p) outline.lines.items is.lines_are) in
    let facts : IsFactsOf outline.levels.items (get_or (lines p) i any_line) (get_or outline.lines.items i f) = facts_at outline.levels.items (lines p) outline.lines.items i any_line f is.lines_are there in (
      i,
      get_or (lines p) i any_line,
      there,
      get_or_default (lines p) i (get_or (lines p) i any_line) any_line there,
      (sym facts.name ∙ named, sym facts.number),
    )

pub stay_line_none : (p : Problem) (outline : Outline) (attr : ℕ) → All (λ f. f.name ≢ StayOf attr) outline.lines.items → IsOutline p outline → IsEmptyLevel p (StayLevel attr)
stay_line_none p outline attr none is k (i, l, within, here, (name, e)) =
    let facts : IsFactsOf outline.levels.items (get_or (lines p) i l) (get_or outline.lines.items i any_facts) = facts_at outline.levels.items (lines p) outline.lines.items i l any_facts is.lines_are within in
    absurd (none i any_facts (omega (arith, within, facts_count outline.levels.items (lines p) outline.lines.items is.lines_are)) (facts.name ∙ ap (λ (x : Line). x.name) here ∙ name))

-- ---- how many lines of a level there are

same_test : (p : Problem) (levels : List LevelFacts) (place : ℕ) (l : Line) (f : LineFacts) → AreLevelFacts p levels → place < length levels → IsFactsOf levels l f → nat_eq l.level (number_at levels place) ≡ nat_eq f.level place
same_test p levels place l f are within is =
    elim (cases_eq f.level place) [
      | inl e ↦ eq-eqb l.level (number_at levels place) (sym is.number ∙ ap (number_at levels) e) ∙ sym (eq-eqb f.level place e)
      | inr ne ↦ ne_eqb l.level (number_at levels place) (λ e. ne (one_level p levels f.level place any_level are is.level within (is.number ∙ e))) ∙ sym (ne_eqb f.level place ne)
    ]

count_lists : (p : Problem) (levels : List LevelFacts) (place : ℕ) (ls : List Line) (fs : List LineFacts) → AreLevelFacts p levels → place < length levels → AreFactsOf levels ls fs → length (filter (λ l. nat_eq l.level (number_at levels place)) ls) ≡ size_in place fs
count_lists p levels place [] [] are within of = refl
count_lists p levels place [] (f ∷ fs) are within of = absurd of
count_lists p levels place (l ∷ ls) [] are within of = absurd of
count_lists p levels place (l ∷ ls) (f ∷ fs) are within of =
    one_more (nat_eq l.level (number_at levels place)) (nat_eq f.level place) l f (filter (λ l. nat_eq l.level (number_at levels place)) ls) (filter (λ f. nat_eq f.level place) fs) (same_test p levels place l f are within of.0) (count_lists p levels place ls fs are within of.1)
  where
    one_more : (b c : Bool) (x : Line) (y : LineFacts) (xs : List Line) (ys : List LineFacts) → b ≡ c → length xs ≡ length ys → length (cond b (x ∷ xs) xs) ≡ length (cond c (y ∷ ys) ys)
    one_more true true x y xs ys e h = omega (arith, h)
    one_more true false x y xs ys e h = absurd (true≢false e)
    one_more false true x y xs ys e h = absurd (true≢false (sym e))
    one_more false false x y xs ys e h = h

facts_take : (levels : List LevelFacts) (ls : List Line) (fs : List LineFacts) (k : ℕ) → AreFactsOf levels ls fs → AreFactsOf levels (take k ls) (take k fs)
facts_take levels ls fs zero of = tt
facts_take levels [] [] (suc k) of = tt
facts_take levels [] (f ∷ fs) (suc k) of = absurd of
facts_take levels (l ∷ ls) [] (suc k) of = absurd of
facts_take levels (l ∷ ls) (f ∷ fs) (suc k) of = (of.0, facts_take levels ls fs k of.1)

pub size_is : (p : Problem) (outline : Outline) (place : ℕ) → IsOutline p outline → place < length outline.levels.items → level_size p (number_at outline.levels.items place) ≡ size_in place outline.lines.items
size_is p outline place is within = count_lists p outline.levels.items place (lines p) outline.lines.items is.levels_are within is.lines_are

place_is : (p : Problem) (outline : Outline) (place k : ℕ) → IsOutline p outline → place < length outline.levels.items → level_place p (number_at outline.levels.items place) k ≡ size_in place (take k outline.lines.items)
place_is p outline place k is within = count_lists p outline.levels.items place (take k (lines p)) (take k outline.lines.items) is.levels_are within (facts_take outline.levels.items (lines p) outline.lines.items k is.lines_are)

-- ---- before the end

rises : (place : ℕ) (fs : List LineFacts) (a b : ℕ) → a ≤ b → size_in place (take a fs) ≤ size_in place (take b fs)
rises place fs zero b less = omega arith
rises place [] (suc a) b less = omega arith
rises place (f ∷ fs) (suc a) zero less = absurd (omega (arith, less))
rises place (f ∷ fs) (suc a) (suc b) less = both (nat_eq f.level place) f (filter (λ f. nat_eq f.level place) (take a fs)) (filter (λ f. nat_eq f.level place) (take b fs)) (rises place fs a b (omega (arith, less)))
  where
    both : (c : Bool) (x : LineFacts) (xs ys : List LineFacts) → length xs ≤ length ys → length (cond c (x ∷ xs) xs) ≤ length (cond c (x ∷ ys) ys)
    both true x xs ys h = omega (arith, h)
    both false x xs ys h = h

-- a line of the level before which there are fewer is before the end
pub is_before : (p : Problem) (outline : Outline) (place end first k : ℕ) (f : LineFacts) → IsOutline p outline → place < length outline.levels.items → size_in place (take end outline.lines.items) ≡ first → k < line_count p → (get_or outline.lines.items k f).level ≡ place
    → level_place p (number_at outline.levels.items place) k < first → IsFirstAt outline.lines.items (record { place = place; end = end }) k
is_before p outline place end first k f is within size here own few = record {
  before = elim (cases_lt k end) [
    | inl less ↦ less
    | inr past ↦ let h = rises place outline.lines.items end k (omega (arith, past)) in absurd (omega (arith, h, size, few, place_is p outline place k is within))
  ];
  own = λ d. ap (λ (x : LineFacts). x.level) (get_or_default outline.lines.items k d f (omega (arith, here, facts_count outline.levels.items (lines p) outline.lines.items is.lines_are))) ∙ own;
}

-- before such a line there are fewer
few_before : (place : ℕ) (fs : List LineFacts) (k end : ℕ) (f : LineFacts) → k < length fs → k < end → (get_or fs k f).level ≡ place → size_in place (take k fs) < size_in place (take end fs)
few_before place fs k end f within less own =
    let more : size_in place (take (k + 1) fs) ≡ size_in place (take k fs) + 1 = length-filter_more (λ (x : LineFacts). nat_eq x.level place) fs k f within ∙ ap (λ (b : Bool). size_in place (take k fs) + cond b 1 0) (eq-eqb (get_or fs k f).level place own) in
    let up = rises place fs (k + 1) end (omega (arith, less)) in
    omega (arith, more, up)

-- ---- a mark of the first rows

named_here : (name : RowName) (b : Bool) (x : Line) (xs : List Line) (first : ℕ) → b ≡ true → 0 < first → x.name ≡ name → Any (λ l. l.name ≡ name) (take first (cond b (x ∷ xs) xs))
named_here name true x xs zero e some named = absurd (omega (arith, some))
named_here name true x xs (suc first) e some named = (0, x, omega arith, refl, named)
named_here name false x xs first e some named = absurd (true≢false (sym e))

named_later : (name : RowName) (b : Bool) (x : Line) (xs ys : List Line) (first : ℕ) → length (cond b (x ∷ ys) ys) < first → ((m : ℕ) → length ys < m → Any (λ l. l.name ≡ name) (take m xs)) → Any (λ l. l.name ≡ name) (take first (cond b (x ∷ xs) xs))
named_later name true x xs ys zero few later = absurd (omega (arith, few))
named_later name true x xs ys (suc first) few later = past (take first xs) (later first (omega (arith, few)))
  where
    past : (zs : List Line) → Any (λ l. l.name ≡ name) zs → Any (λ l. l.name ≡ name) (x ∷ zs)
    past zs (i, l, within, is, named) = (suc i, l, omega (arith, within), is, named)
named_later name false x xs ys first few later = later first few

any_first : (name : RowName) (level : ℕ) (ls : List Line) (k first : ℕ) (l : Line) → k < length ls → (get_or ls k l).level ≡ level → (get_or ls k l).name ≡ name → length (filter (λ l. nat_eq l.level level) (take k ls)) < first
    → Any (λ l. l.name ≡ name) (take first (filter (λ l. nat_eq l.level level) ls))
any_first name level [] k first l within own named few = absurd (omega (arith, within))
any_first name level (x ∷ ls) zero first l within own named few = named_here name (nat_eq x.level level) x (filter (λ l. nat_eq l.level level) ls) first (eq-eqb x.level level own) few named
any_first name level (x ∷ ls) (suc k) first l within own named few =
    named_later name (nat_eq x.level level) x (filter (λ l. nat_eq l.level level) ls) (filter (λ l. nat_eq l.level level) (take k ls)) first few
    (λ m less. any_first name level ls k m l (omega (arith, within)) own named less)

pub unfit_part : (p : Problem) (at : List Mark) (outline : Outline) (level : Level) (place end first : ℕ) → IsOutline p outline → place < length outline.levels.items → IsLevelAt p level (number_at outline.levels.items place) → size_in place (take end outline.lines.items) ≡ first
    → HasUnfitFirst p at outline.lines.items (record { place = place; end = end }) → IsFitAt p at (Rows level first) NoRoom
unfit_part p at outline level place end first is within level_is size unfit =
    let here : unfit.k < length outline.lines.items = omega (arith, unfit.within, facts_count outline.levels.items (lines p) outline.lines.items is.lines_are) in
    let facts : IsFactsOf outline.levels.items (get_or (lines p) unfit.k any_line) (get_or outline.lines.items unfit.k any_facts) = facts_at outline.levels.items (lines p) outline.lines.items unfit.k any_line any_facts is.lines_are unfit.within in
    let own : (get_or outline.lines.items unfit.k any_facts).level ≡ place = unfit.first.own any_facts in
    let few = few_before place outline.lines.items unfit.k end any_facts here unfit.first.before own in (
      Plain (MarkOf (record { row = name_at p unfit.k; side = unfit.unfit.0 })),
      (
        number_at outline.levels.items place,
        level_is,
        any_first (name_at p unfit.k) (number_at outline.levels.items place) (lines p) unfit.k first any_line unfit.within (sym facts.number ∙ ap (number_at outline.levels.items) own) (name_there p unfit.k any_line unfit.within)
            (omega (arith, few, size, place_is p outline place unfit.k is within)),
      ),
      unfit.unfit.1,
    )

-- ---- rows that do not fit

pub same_rows : (p : Problem) (at : List Mark) (level other : Level) (number j : ℕ) → IsWhole p → IsLevelAt p level number → IsLevelAt p other number → IsUnfitRows p at other j → IsUnfitRows p at level j
same_rows p at level other number j whole level_is other_is (k, is, some, most, none) =
    (k, subst (IsLevelAt p level) (level_once p other number k whole other_is is) level_is, some, most, none)

pub part_unfit : (p : Problem) (at : List Mark) (level other : Level) (number j first : ℕ) → IsWhole p → IsLevelAt p level number → IsLevelAt p other number → j ≤ first → j ≢ first → IsUnfitRows p at other j → IsFitAt p at (Rows level first) NoRoom
part_unfit p at level other number j first whole level_is other_is most ne unfit =
    (Rows level j, (refl, omega (arith, most, ne)), same_rows p at level other number j whole level_is other_is unfit)

none_of : (level : ℕ) (ls : List Line) → All (λ l. l.level ≢ level) ls → length (filter (λ l. nat_eq l.level level) ls) ≡ 0
none_of level [] none = refl
none_of level (x ∷ ls) none = ap (λ (b : Bool). length (cond b (x ∷ filter (λ l. nat_eq l.level level) ls) (filter (λ l. nat_eq l.level level) ls))) (ne_eqb x.level level (none 0 x (omega arith))) ∙ none_of level ls (λ k d within. none (suc k) d (omega (arith, within)))

pub empty_rows_fit : (p : Problem) (at : List Mark) (level : Level) (first : ℕ) → IsEmptyLevel p level → IsUnfitRows p at level first → ⊥
empty_rows_fit p at level first empty (k, is, some, most, none) = let nothing = none_of k (lines p) (empty k is) in absurd (omega (arith, some, most, nothing))

-- the level has fewer lines
pub past_rows_fit : (p : Problem) (at : List Mark) (outline : Outline) (level : Level) (place first : ℕ) → IsWhole p → IsOutline p outline → place < length outline.levels.items → IsLevelAt p level (number_at outline.levels.items place) → size_in place outline.lines.items < first → IsUnfitRows p at level first → ⊥
past_rows_fit p at outline level place first whole is within level_is few (k, there, some, most, none) =
    let size : level_size p k ≡ size_in place outline.lines.items = subst (λ (n : ℕ). level_size p n ≡ size_in place outline.lines.items) (level_once p level (number_at outline.levels.items place) k whole level_is there) (size_is p outline place is within) in
    absurd (omega (arith, most, few, size))
