-- What has to fit of a level's row after an exchange.
use Rattle.std.proofs.Common.{◌≡◌, ◌≢◌, ◌∙◌, ◌↔◌, ℕ, ◌+◌, ◌*◌, ◌<◌, Bool, false, cond, nat_eq, List, length, get_or, ℤ, pos, ◌*ℤ◌, unsigned_abs, refl, sym, ap, subst, arith, inl, inr, IsTrue, Option, None, Some, eq-eqb, ne_eqb}
use Rattle.std.proofs.lemmas.Bool.{cases_eq}
use Rattle.std.proofs.lemmas.Int.{unsigned_abs-mul}
use Rattle.std.proofs.lemmas.List.{get_or_default}
use Rattle.path_lines.proofs.Iffs.{never_true}
use Rattle.frac_core.specs.Fraction.{IsFitting}
use Rattle.problem_core.specs.declared.parts.Mark.{Mark}
use Rattle.problem_core.specs.declared.parts.RowName.{RowName}
use Rattle.problem_core.specs.declared.parts.RowName.TheVariants.{Held}
use Rattle.problem_core.specs.declared.parts.Side.{Side}
use Rattle.problem_core.specs.declared.parts.Side.TheVariants.{Under, Over}
use Rattle.problem_core.specs.Layout.{Line, Problem, lines}
use Rattle.problem_core.specs.Corners.{IsIn, place, place_of}
use Rattle.corner_laws.proofs.LinePlaces.{lines_apart}
use Rattle.corner_laws.proofs.Rays.{rays_after}
use Rattle.corner_lines.specs.LineEquations.{IsOutsideLine}
use Rattle.corner_lines.specs.Levels.LevelRows.{inside_number, reduced_number}
use Rattle.corner_lines.specs.Levels.LevelFits.{IsFittingRow}
use Rattle.corner_lines.proofs.LevelRows.LevelExchanges.{by-sides}
use Rattle.path_lines.specs.declared.exchange.Pivot.{Pivot}
use Rattle.path_lines.specs.declared.table.Inside.{Inside}
use Rattle.path_lines.specs.Numbers.{number_at as in_list}
use Rattle.path_lines.specs.Exchanges.Pivots.{next_marks}
use Rattle.path_lines.specs.Tables.{AreLines, IsLineAt, IsThere, line_count, name_at, numbers_of, swap_of}
use Rattle.path_lines.proofs.Exchanges.EnteringLine.{at_place}
use Rattle.path_lines.proofs.Exchanges.Exchanging.{one_side}
use Rattle.path_lines.proofs.Places.{any_line, mark_is_there, name_there, names_differ}
use Rattle.path_levels.specs.declared.outline.Outline.{Outline}
use Rattle.path_levels.specs.declared.outline.LineFacts.{LineFacts}
use Rattle.path_levels.specs.declared.sums.LevelSum.{LevelSum}
use Rattle.path_levels.specs.Exchanges.FitsAfter.{IsFitLevel, IsFitLine, IsMadeLevel, side_of, side_of_after}
use Rattle.path_levels.specs.Outlines.{IsFactsOf, IsOutline, number_at}
use Rattle.path_levels.specs.Shares.{reduced_of, shown_of, stood_of}
use Rattle.path_levels.specs.Exchanges.Pivots.{IsExchangePivot}
use Rattle.path_levels.proofs.Counting.LineShares.{facts_count, level_own, own_level, reduced_line, stood_line}
use Rattle.path_levels.proofs.Exchanges.MultipleFacts.{any_level, leaves_out, stays_out}
use Rattle.corner_lines.proofs.Lines.LineWritings.{no-side}
use Rattle.problem_core.proofs.Marks.{entered-in as enter_in, kept-in as kept_in}
use Rattle.path_levels.proofs.Parts.PartLines.{facts_at}

-- ---- a line, by its two sides

pub both_sides : (f : LineFacts) (inside : Option Side) (place : ℕ) (sum : LevelSum) (number shown : ℤ) (a b : Bool) → shown ≡ shown_of f inside place sum number → f.level ≡ place → IsTrue a ↔ IsFitting (reduced_of f Under place sum shown) → IsTrue b ↔ IsFitting (reduced_of f Over place sum shown)
    → IsTrue a → IsTrue b ↔ IsFitLine f inside place sum number
both_sides f inside place sum number shown a b is own under over up = (λ yes_over same. side yes_over, λ fits. over.1 (subst (λ (z : ℤ). IsFitting (reduced_of f Over place sum z)) (sym is) (fits own Over)))
  where
    side : IsTrue b → (s : Side) → IsFitting (reduced_of f s place sum (shown_of f inside place sum number))
    side yes_over Under = subst (λ (z : ℤ). IsFitting (reduced_of f Under place sum z)) is (under.0 up)
    side yes_over Over = subst (λ (z : ℤ). IsFitting (reduced_of f Over place sum z)) is (over.0 yes_over)

pub under_unfit : (f : LineFacts) (inside : Option Side) (place : ℕ) (sum : LevelSum) (number shown : ℤ) (a : Bool) → shown ≡ shown_of f inside place sum number → f.level ≡ place → IsTrue a ↔ IsFitting (reduced_of f Under place sum shown) → (IsTrue a → ⊥)
    → IsTrue a ↔ IsFitLine f inside place sum number
under_unfit f inside place sum number shown a is own under down = (λ yes_under. absurd (down yes_under), λ fits. under.1 (subst (λ (z : ℤ). IsFitting (reduced_of f Under place sum z)) (sym is) (fits own Under)))

-- ---- which mark is inside

abbrev pub IsSideAt : List Mark → RowName → Option Side → Type 0
IsSideAt at name None = IsOutsideLine at name
IsSideAt at name (Some side) = IsIn (place_of name side) at

kept_side : (p : Problem) (at : List Mark) (name : RowName) (kept : Option Inside) → IsLineAt p at name kept → IsSideAt at name (side_of kept)
kept_side p at name None line = line
kept_side p at name (Some inside) line = line.0

stays_side : (p : Problem) (at : List Mark) (pivot : Pivot) (k : ℕ) (side : Option Side) → IsExchangePivot p at pivot → k < line_count p → k ≢ pivot.step.enter.at → k ≢ pivot.step.leave.at → IsSideAt at (name_at p k) side → IsSideAt (next_marks p pivot at) (name_at p k) side
stays_side p at pivot k None turn within not_enter not_leave is = stays_out p at pivot k turn within not_enter is
stays_side p at pivot k (Some side) turn within not_enter not_leave is =
    kept_in (swap_of p pivot.step) at (place_of (name_at p k) side) is (λ same. names_differ p k pivot.step.leave.at turn.there.whole within turn.sized.leave_at not_leave (by-sides (name_at p k) (name_at p pivot.step.leave.at) side pivot.step.leave.side same).0)

side_enter : (kept : List (Option Inside)) (pivot : Pivot) (k : ℕ) → k ≡ pivot.step.enter.at → side_of_after kept pivot k ≡ Some pivot.step.enter.side
side_enter kept pivot k e = ap (λ (b : Bool). cond b (Some pivot.step.enter.side) (cond (nat_eq k pivot.step.leave.at) None (side_of (get_or kept k None)))) (eq-eqb k pivot.step.enter.at e)

side_rest : (kept : List (Option Inside)) (pivot : Pivot) (k : ℕ) → k ≢ pivot.step.enter.at → side_of_after kept pivot k ≡ cond (nat_eq k pivot.step.leave.at) None (side_of (get_or kept k None))
side_rest kept pivot k ne = ap (λ (b : Bool). cond b (Some pivot.step.enter.side) (cond (nat_eq k pivot.step.leave.at) None (side_of (get_or kept k None)))) (ne_eqb k pivot.step.enter.at ne)

side_leave : (kept : List (Option Inside)) (pivot : Pivot) (k : ℕ) → k ≢ pivot.step.enter.at → k ≡ pivot.step.leave.at → side_of_after kept pivot k ≡ None
side_leave kept pivot k ne e = side_rest kept pivot k ne ∙ ap (λ (b : Bool). cond b None (side_of (get_or kept k None))) (eq-eqb k pivot.step.leave.at e)

side_other : (kept : List (Option Inside)) (pivot : Pivot) (k : ℕ) → k ≢ pivot.step.enter.at → k ≢ pivot.step.leave.at → side_of_after kept pivot k ≡ side_of (get_or kept k None)
side_other kept pivot k ne e = side_rest kept pivot k ne ∙ ap (λ (b : Bool). cond b None (side_of (get_or kept k None))) (ne_eqb k pivot.step.leave.at e)

pub side_there : (p : Problem) (at : List Mark) (kept : List (Option Inside)) (pivot : Pivot) (k : ℕ) → IsExchangePivot p at pivot → AreLines p at kept → k < line_count p → IsSideAt (next_marks p pivot at) (name_at p k) (side_of_after kept pivot k)
side_there p at kept pivot k turn are within =
    elim (cases_eq k pivot.step.enter.at) [
      | inl e ↦
          subst (IsSideAt (next_marks p pivot at) (name_at p k)) (sym (side_enter kept pivot k e))
          (subst (λ (j : ℕ). IsIn (place_of (name_at p j) pivot.step.enter.side) (next_marks p pivot at)) (sym e) (enter_in (swap_of p pivot.step) at turn.exchange.leaves))
      | inr not_enter ↦
          elim (cases_eq k pivot.step.leave.at) [
            | inl e ↦
                subst (IsSideAt (next_marks p pivot at) (name_at p k)) (sym (side_leave kept pivot k not_enter e))
                (subst (λ (j : ℕ). IsOutsideLine (next_marks p pivot at) (name_at p j)) (sym e) (leaves_out p at pivot turn (λ same. not_enter (e ∙ sym same))))
            | inr not_leave ↦
                subst (IsSideAt (next_marks p pivot at) (name_at p k)) (sym (side_other kept pivot k not_enter not_leave))
                (stays_side p at pivot k (side_of (get_or kept k None)) turn within not_enter not_leave (kept_side p at (name_at p k) (get_or kept k None) (are.each k None within)))
          ]
    ]

pub next_is_there : (p : Problem) (at : List Mark) (pivot : Pivot) → IsExchangePivot p at pivot → IsThere p (next_marks p pivot at)
next_is_there p at pivot turn = record {
  whole = turn.there.whole;
  corner = turn.exchange.corner;
  rays = rays_after p at (swap_of p pivot.step) (mark_is_there p pivot.step.enter.at pivot.step.enter.side turn.sized.enter_at) turn.exchange turn.there.rays;
}

-- ---- the row

abbrev pub any_facts : LineFacts
any_facts = record { name = Held 0; level = 0; under = pos 0; over = pos 0; scale = pos 1 }

-- what is shown of a line, by what is kept of it
shown_out : (f : LineFacts) (side : Option Side) (place : ℕ) (sum : LevelSum) (number : ℤ) (at : List Mark) (name : RowName) → IsSideAt at name side → IsOutsideLine at name → shown_of f side place sum number ≡ number
shown_out f None place sum number at name is out = refl
shown_out f (Some side) place sum number at name is out = absurd (no-side at name side out is)

shown_in : (p : Problem) (f : LineFacts) (side : Option Side) (inside : Side) (place : ℕ) (sum : LevelSum) (number : ℤ) (at : List Mark) (name : RowName) → IsThere p at → IsSideAt at name side → IsIn (place_of name inside) at → shown_of f side place sum number ≡ stood_of f inside place sum
shown_in p f None inside place sum number at name there is i = absurd (no-side at name inside is i)
shown_in p f (Some side) inside place sum number at name there is i = ap (λ (s : Side). stood_of f s place sum) (one_side p at name side inside there is i)

pub fitting_row : (p : Problem) (at : List Mark) (outline : Outline) (kept : List (Option Inside)) (pivot : Pivot) (place : ℕ) (sum : LevelSum) → place < length outline.levels.items → IsOutline p outline → AreLines p at kept → IsExchangePivot p at pivot → IsMadeLevel (line_count p) sum → IsFitLevel outline kept pivot place sum
    → IsFittingRow p (next_marks p pivot at) (number_at outline.levels.items place) (unsigned_abs sum.unit) (unsigned_abs sum.own) (numbers_of (lines p) sum.by.items)
fitting_row p at outline kept pivot place sum within outline_is are turn made fits = record {
  scale_fits = subst (λ (n : ℕ). n < 4398046511104) (sym_abs sum.own sum.unit) fits.scale;
  outside_fit = λ k d inside out. subst IsFitting (sym (at_place (lines p) sum.by.items k d (lines_apart p turn.there.whole) made.count_is inside)) (made.fits k (pos 0) (omega (arith, inside, made.count_is)));
  own_fit = λ k d inside own out side.
      let facts = facts_at outline.levels.items (lines p) outline.lines.items k d any_facts outline_is.lines_are inside in
      let there : (get_or (lines p) k d).name ≡ name_at p k = name_there p k d inside in
      subst IsFitting
      (ap (reduced_of (get_or outline.lines.items k any_facts) side place sum)
      (shown_out (get_or outline.lines.items k any_facts) (side_of_after kept pivot k) place sum (in_list sum.by.items k) (next_marks p pivot at) (name_at p k) (side_there p at kept pivot k turn are inside) (subst (λ (n : RowName). IsOutsideLine (next_marks p pivot at) n) there out)
      ∙ sym (at_place (lines p) sum.by.items k d (lines_apart p turn.there.whole) made.count_is inside))
      ∙ reduced_line side p outline.levels.items place (get_or (lines p) k d) (get_or outline.lines.items k any_facts) any_level sum (numbers_of (lines p) sum.by.items (get_or (lines p) k d).name) outline_is.levels_are within facts)
      (fits.each k any_facts (omega (arith, inside, facts_count outline.levels.items (lines p) outline.lines.items outline_is.lines_are)) (own_level p outline.levels.items place (get_or (lines p) k d) (get_or outline.lines.items k any_facts) any_level outline_is.levels_are within facts own) side);
  inside_fit = λ k d inside own side stood i.
      let facts = facts_at outline.levels.items (lines p) outline.lines.items k d any_facts outline_is.lines_are inside in
      let there : (get_or (lines p) k d).name ≡ name_at p k = name_there p k d inside in
      subst IsFitting
      (ap (reduced_of (get_or outline.lines.items k any_facts) side place sum)
      (shown_in p (get_or outline.lines.items k any_facts) (side_of_after kept pivot k) stood place sum (in_list sum.by.items k) (next_marks p pivot at) (name_at p k) (next_is_there p at pivot turn) (side_there p at kept pivot k turn are inside) (subst (λ (n : RowName). IsIn (place_of n stood) (next_marks p pivot at)) there i)
      ∙ stood_line stood p outline.levels.items place (get_or (lines p) k d) (get_or outline.lines.items k any_facts) any_level sum outline_is.levels_are within facts)
      ∙ reduced_line side p outline.levels.items place (get_or (lines p) k d) (get_or outline.lines.items k any_facts) any_level sum (inside_number stood (number_at outline.levels.items place) (unsigned_abs sum.unit) (unsigned_abs sum.own) (get_or (lines p) k d)) outline_is.levels_are within facts)
      (fits.each k any_facts (omega (arith, inside, facts_count outline.levels.items (lines p) outline.lines.items outline_is.lines_are)) (own_level p outline.levels.items place (get_or (lines p) k d) (get_or outline.lines.items k any_facts) any_level outline_is.levels_are within facts own) side);
}
  where
    sym_abs : (own unit : ℤ) → unsigned_abs (own *ℤ unit) ≡ unsigned_abs own * unsigned_abs unit
    sym_abs own unit = unsigned_abs-mul own unit

-- ---- the other way

shown_fits : (p : Problem) (at : List Mark) (outline : Outline) (sum : LevelSum) (place k : ℕ) (l : Line) (f : LineFacts) (side : Option Side) (s : Side) (number : ℤ) → place < length outline.levels.items → IsOutline p outline → IsFactsOf outline.levels.items l f → IsSideAt at l.name side
    → number ≡ numbers_of (lines p) sum.by.items l.name → (IsOutsideLine at l.name → (t : Side) → IsFitting (reduced_number t (number_at outline.levels.items place) (unsigned_abs sum.unit) (unsigned_abs sum.own) (numbers_of (lines p) sum.by.items l.name) l))
    → ((t inside : Side) → IsIn (place_of l.name inside) at → IsFitting (reduced_number t (number_at outline.levels.items place) (unsigned_abs sum.unit) (unsigned_abs sum.own) (inside_number inside (number_at outline.levels.items place) (unsigned_abs sum.unit) (unsigned_abs sum.own) l) l))
    → IsFitting (reduced_of f s place sum (shown_of f side place sum number))
shown_fits p at outline sum place k l f None s number within outline_is facts is number_is out inside =
    subst IsFitting (sym (ap (reduced_of f s place sum) number_is ∙ reduced_line s p outline.levels.items place l f any_level sum (numbers_of (lines p) sum.by.items l.name) outline_is.levels_are within facts)) (out is s)
shown_fits p at outline sum place k l f (Some stood) s number within outline_is facts is number_is out inside =
    subst IsFitting
    (sym (ap (reduced_of f s place sum) (stood_line stood p outline.levels.items place l f any_level sum outline_is.levels_are within facts)
    ∙ reduced_line s p outline.levels.items place l f any_level sum (inside_number stood (number_at outline.levels.items place) (unsigned_abs sum.unit) (unsigned_abs sum.own) l) outline_is.levels_are within facts))
    (inside s stood is)

pub fit_level : (p : Problem) (at : List Mark) (outline : Outline) (kept : List (Option Inside)) (pivot : Pivot) (place : ℕ) (sum : LevelSum) → place < length outline.levels.items → IsOutline p outline → AreLines p at kept → IsExchangePivot p at pivot → IsMadeLevel (line_count p) sum
    → IsFittingRow p (next_marks p pivot at) (number_at outline.levels.items place) (unsigned_abs sum.unit) (unsigned_abs sum.own) (numbers_of (lines p) sum.by.items) → IsFitLevel outline kept pivot place sum
fit_level p at outline kept pivot place sum within outline_is are turn made fit = record {
  scale = subst (λ (n : ℕ). n < 4398046511104) (sym (unsigned_abs-mul sum.own sum.unit)) fit.scale_fits;
  each = λ k d less own side.
      let inside : k < line_count p = omega (arith, less, facts_count outline.levels.items (lines p) outline.lines.items outline_is.lines_are) in
      let facts = facts_at outline.levels.items (lines p) outline.lines.items k any_line d outline_is.lines_are inside in
      let there : (get_or (lines p) k any_line).name ≡ name_at p k = name_there p k any_line inside in
      let level = level_own outline.levels.items place (get_or (lines p) k any_line) (get_or outline.lines.items k d) facts own in
      shown_fits p (next_marks p pivot at) outline sum place k (get_or (lines p) k any_line) (get_or outline.lines.items k d) (side_of_after kept pivot k) side (in_list sum.by.items k) within outline_is facts
      (subst (λ (n : RowName). IsSideAt (next_marks p pivot at) n (side_of_after kept pivot k)) (sym there) (side_there p at kept pivot k turn are inside))
      (sym (at_place (lines p) sum.by.items k any_line (lines_apart p turn.there.whole) made.count_is inside))
      (λ out t. fit.own_fit k any_line inside level out t) (λ t stood i. fit.inside_fit k any_line inside level t stood i);
}

-- ---- line by line

fit_here : (f g : LineFacts) (side next : Option Side) (place : ℕ) (sum : LevelSum) (number other : ℤ) → f ≡ g → side ≡ next → number ≡ other → IsFitLine f side place sum number → IsFitLine g next place sum other
fit_here f g side next place sum number other e h k fit =
    subst (λ (x : LineFacts). IsFitLine x next place sum other) e (subst (λ (s : Option Side). IsFitLine f s place sum other) h (subst (λ (z : ℤ). IsFitLine f side place sum z) k fit))

pub level_more : (outline : Outline) (kept : List (Option Inside)) (pivot : Pivot) (place at : ℕ) (sum : LevelSum) (x : LineFacts) (side : Option Side) (number : ℤ) → at < length outline.lines.items → side ≡ side_of_after kept pivot at → number ≡ in_list sum.by.items at
    → IsFitLine (get_or outline.lines.items at x) side place sum number → ((k : ℕ) (d : LineFacts) → k < at → IsFitLine (get_or outline.lines.items k d) (side_of_after kept pivot k) place sum (in_list sum.by.items k))
    → (k : ℕ) (d : LineFacts) → k < at + 1 → IsFitLine (get_or outline.lines.items k d) (side_of_after kept pivot k) place sum (in_list sum.by.items k)
level_more outline kept pivot place at sum x side number within side_is number_is fit so_far k d less =
    elim (cases_eq k at) [
      | inl e ↦
          subst (λ (j : ℕ). IsFitLine (get_or outline.lines.items j d) (side_of_after kept pivot j) place sum (in_list sum.by.items j)) (sym e)
          (fit_here (get_or outline.lines.items at x) (get_or outline.lines.items at d) side (side_of_after kept pivot at) place sum number (in_list sum.by.items at) (get_or_default outline.lines.items at x d within) side_is number_is fit)
      | inr ne ↦ so_far k d (omega (arith, less, ne))
    ]

pub level_less : (outline : Outline) (kept : List (Option Inside)) (pivot : Pivot) (place at : ℕ) (sum : LevelSum) (x : LineFacts) (side : Option Side) (number : ℤ) (b : Bool) → at < length outline.lines.items → side ≡ side_of_after kept pivot at → number ≡ in_list sum.by.items at
    → IsTrue b ↔ IsFitLine (get_or outline.lines.items at x) side place sum number → (IsTrue b → ⊥) → IsTrue false ↔ IsFitLevel outline kept pivot place sum
level_less outline kept pivot place at sum x side number b within side_is number_is iff down = (
  λ wrong. absurd (never_true wrong),
  λ fits. absurd (down (iff.1 (fit_here (get_or outline.lines.items at x) (get_or outline.lines.items at x) (side_of_after kept pivot at) side place sum (in_list sum.by.items at) number refl (sym side_is) (sym number_is) (fits.each at x within)))),
)
