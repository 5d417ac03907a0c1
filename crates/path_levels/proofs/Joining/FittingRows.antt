-- Whether a row fits, by the places of its lines.
use Rattle.std.proofs.Common.{◌≡◌, ◌⊎◌, ◌∙◌, ℕ, ◌*◌, ◌<◌, List, [], ◌∷◌, Bool, true, false, cond, nat_eq, length, get_or, ℤ, pos, ◌+ℤ◌, ◌-ℤ◌, ◌*ℤ◌, neg_ℤ, unsigned_abs, sym, ap, ap₂, subst, arith, inl, inr, All, Some, None}
use Rattle.std.specs.declared.option.Option.{Option}
use Rattle.std.specs.List.{AllByRecursion as Each}
use Rattle.std.proofs.lemmas.List.Elements.{recursion_from_All}
use Rattle.frac_core.proofs.Integers.{sub-self, zero-add_ℤ}
use borrow.Author.Differences.{ints}
use Rattle.frac_core.specs.Fraction.{IsFitting}
use Rattle.problem_core.specs.declared.parts.Mark.{Mark}
use Rattle.problem_core.specs.declared.parts.Side.{Side}
use Rattle.problem_core.specs.declared.parts.Side.TheVariants.{Under, Over}
use Rattle.problem_core.specs.declared.parts.RowName.{RowName}
use Rattle.problem_core.specs.Layout.{Line, Problem, lines}
use Rattle.problem_core.specs.Certificates.{weight_at}
use Rattle.problem_core.specs.Corners.{IsIn, place_of}
use Rattle.corner_laws.specs.Units.{over_share, under_share}
use Rattle.corner_laws.proofs.LinePlaces.{AllApart}
use Rattle.corner_lines.specs.LineEquations.{IsOutsideLine}
use Rattle.corner_lines.specs.Levels.LevelFits.{IsFittingRow}
use Rattle.corner_lines.specs.Levels.LevelRows.{inside_number, reduced_number}
use Rattle.corner_lines.proofs.LevelRows.LevelJoins.{free-over, free-under}
use Rattle.path_lines.specs.declared.table.Inside.{Inside}
use Rattle.path_lines.specs.Numbers.{number_at}
use Rattle.path_lines.specs.Tables.{numbers_of}
use Rattle.path_lines.proofs.Exchanges.EnteringLine.{at_place}
use Rattle.path_levels.specs.declared.outline.Outline.{Outline}
use Rattle.path_levels.specs.declared.outline.LineFacts.{LineFacts}
use Rattle.path_levels.specs.declared.joins.Draft.{Draft}
use Rattle.path_levels.specs.Joins.{AreFittingCosts, IsFittingTo, side_count}
use Rattle.path_levels.proofs.Joining.LineJoins.{IsCostOf}
use Rattle.path_levels.proofs.Joining.JoinRows.{over_counts, under_counts}
use Rattle.frac_core.proofs.Fitting.{neg-fits as opposite-fits}
use Rattle.frac_core.proofs.Numbers.{pos-no-product as times-none, zero-minus as none-left, add-comm as flip}
use Rattle.corner_lines.proofs.Lines.LineWritings.{no-side as not-both}
use Rattle.path_levels.proofs.Joining.LineLists.{small-zero as zero-fits}

-- the line is as it is kept
abbrev pub IsSeen : List Mark → RowName → Option Inside → Type 0
IsSeen at name None = IsOutsideLine at name
IsSeen at name (Some inside) = IsIn (place_of name inside.side) at × ((other : Side) → IsIn (place_of name other) at → other ≡ inside.side)

-- the line of the level at a place
pub record IsLevelLine (at : List Mark) (l : Line) (f : LineFacts) (kept : Option Inside) : Type 0 where
  pub cost : IsCostOf l f
  pub seen : IsSeen at l.name kept

-- the level's lines before a place are those of the outline, and the others have no weight
pub record AreLevelLines (q : Problem) (at : List Mark) (level : ℕ) (outline : Outline) (kept : List (Option Inside)) (place upto : ℕ) : Type 0 where
  pub within : (k : ℕ) → k < upto → k < length (lines q)
  pub there : (k : ℕ) (l : Line) (f : LineFacts) (d : Option Inside) → k < upto → (get_or outline.lines.items k f).level ≡ place
      → ((get_or (lines q) k l).level ≡ level) × IsLevelLine at (get_or (lines q) k l) (get_or outline.lines.items k f) (get_or kept k d)
  pub back : (k : ℕ) (l : Line) (f : LineFacts) → k < length (lines q) → (get_or (lines q) k l).level ≡ level
      → ((k < upto) × ((get_or outline.lines.items k f).level ≡ place)) ⊎ (weight_at (get_or (lines q) k l) level ≡ 0)

-- ---- numbers of one line

own-counts : (side : Side) (l : Line) (f : LineFacts) (level unit own : ℕ) → l.level ≡ level → IsCostOf l f → pos (own * under_share unit level l) ≡ pos (side_count Under f unit own)
own-counts side l f level unit own here is = ap (λ (n : ℕ). pos (own * n)) (under_counts l f level unit here is)

over-own : (l : Line) (f : LineFacts) (level unit own : ℕ) → l.level ≡ level → IsCostOf l f → pos (own * over_share unit level l) ≡ pos (side_count Over f unit own)
over-own l f level unit own here is = ap (λ (n : ℕ). pos (own * n)) (over_counts l f level unit here is)

sub-opposite : (x y : ℤ) → x -ℤ neg_ℤ y ≡ x +ℤ y
sub-opposite x y = omega (arith, ints)

plus-opposite : (x : ℤ) → x +ℤ neg_ℤ x ≡ pos 0
plus-opposite x = omega (arith, ints)

-- both inside numbers give 0 or the sum of both counts
inside-costs : (side inside : Side) (l : Line) (f : LineFacts) (level unit own : ℕ) → l.level ≡ level → IsCostOf l f → IsFitting (pos (side_count Under f unit own) +ℤ pos (side_count Over f unit own))
    → IsFitting (reduced_number side level unit own (inside_number inside level unit own l) l)
inside-costs Under Under l f level unit own here is fit = subst IsFitting (sym (sub-self (pos (own * under_share unit level l)))) zero-fits
inside-costs Under Over l f level unit own here is fit = subst IsFitting (sym (sub-opposite (pos (own * under_share unit level l)) (pos (own * over_share unit level l)) ∙ ap₂ ◌+ℤ◌ (own-counts Under l f level unit own here is) (over-own l f level unit own here is))) fit
inside-costs Over Under l f level unit own here is fit = subst IsFitting (sym (flip (pos (own * over_share unit level l)) (pos (own * under_share unit level l)) ∙ ap₂ ◌+ℤ◌ (own-counts Under l f level unit own here is) (over-own l f level unit own here is))) fit
inside-costs Over Over l f level unit own here is fit = subst IsFitting (sym (plus-opposite (pos (own * over_share unit level l)))) zero-fits

outside-costs : (side : Side) (l : Line) (f : LineFacts) (level unit own : ℕ) (y : ℤ) → l.level ≡ level → IsCostOf l f → AreFittingCosts f None unit own y → IsFitting (reduced_number side level unit own y l)
outside-costs Under l f level unit own y here is fit = subst (λ (z : ℤ). IsFitting (z -ℤ y)) (sym (own-counts Under l f level unit own here is)) fit.0
outside-costs Over l f level unit own y here is fit = subst (λ (z : ℤ). IsFitting (z +ℤ y)) (sym (over-own l f level unit own here is)) fit.1

free-costs : (side : Side) (l : Line) (level unit own : ℕ) (y : ℤ) → weight_at l level ≡ 0 → IsFitting y → IsFitting (reduced_number side level unit own y l)
free-costs Under l level unit own y none fit = subst (λ (z : ℤ). IsFitting (z -ℤ y)) (sym (times-none own (under_share unit level l) (free-under unit level l none))) (subst IsFitting (sym (none-left y)) (opposite-fits y fit))
free-costs Over l level unit own y none fit = subst (λ (z : ℤ). IsFitting (z +ℤ y)) (sym (times-none own (over_share unit level l) (free-over unit level l none))) (subst IsFitting (sym (zero-add_ℤ y)) fit)

free-inside : (side : Side) (l : Line) (level unit own : ℕ) → weight_at l level ≡ 0 → inside_number side level unit own l ≡ pos 0
free-inside Under l level unit own none = times-none own (under_share unit level l) (free-under unit level l none)
free-inside Over l level unit own none = ap neg_ℤ (times-none own (over_share unit level l) (free-over unit level l none))

-- ---- numbers of the list

pub cond-fits : (b : Bool) (x y : ℤ) → IsFitting x → IsFitting y → IsFitting (cond b x y)
cond-fits true x y h k = h
cond-fits false x y h k = k

pub named-fits : (ls : List Line) (zs : List ℤ) (name : RowName) → Each IsFitting zs → IsFitting (numbers_of ls zs name)
named-fits [] zs name h = zero-fits
named-fits (l ∷ ls) [] name h = zero-fits
named-fits (l ∷ ls) (z ∷ zs) name h = cond-fits (nat_eq (place_of l.name Under) (place_of name Under)) z (numbers_of ls zs name) h.0 (named-fits ls zs name h.1)

outside-of : (at : List Mark) (l : Line) (f : LineFacts) (kept : Option Inside) (unit own : ℕ) (y : ℤ) → IsSeen at l.name kept → IsOutsideLine at l.name → AreFittingCosts f kept unit own y → AreFittingCosts f None unit own y
outside-of at l f None unit own y seen out fit = fit
outside-of at l f (Some inside) unit own y seen out fit = absurd (not-both at l.name inside.side out seen.0)

inside-of : (at : List Mark) (l : Line) (f : LineFacts) (kept : Option Inside) (unit own : ℕ) (y : ℤ) (side : Side) → IsSeen at l.name kept → IsIn (place_of l.name side) at → AreFittingCosts f kept unit own y → IsFitting (pos (side_count Under f unit own) +ℤ pos (side_count Over f unit own))
inside-of at l f None unit own y side seen i fit = absurd (not-both at l.name side seen i)
inside-of at l f (Some inside) unit own y side seen i fit = fit

-- it fits where its lines do
pub row_fits : (q : Problem) (at : List Mark) (level : ℕ) (outline : Outline) (kept : List (Option Inside)) (place upto : ℕ) (draft : Draft) (f : LineFacts) (scale : ℕ) → AreLevelLines q at level outline kept place upto → AllApart (lines q) → length draft.by.items ≡ length (lines q) → All IsFitting draft.by.items
    → draft.own *ℤ draft.unit ≡ pos (unsigned_abs draft.own * unsigned_abs draft.unit) → IsFittingTo outline kept place upto draft
    → IsFittingRow q at level (unsigned_abs draft.unit) (unsigned_abs draft.own) (numbers_of (lines q) draft.by.items)
row_fits q at level outline kept place upto draft f scale are apart count each whole fit =
    let numbers : Each IsFitting draft.by.items = recursion_from_All IsFitting draft.by.items each in
    let unit : ℕ = unsigned_abs draft.unit in
    record {
      scale_fits = subst IsFitting whole fit.0;
      outside_fit = λ k l within out. named-fits (lines q) draft.by.items (get_or (lines q) k l).name numbers;
      own_fit = λ k l within here out side.
          elim (are.back k l f within here) [
            | inr none ↦ free-costs side (get_or (lines q) k l) level (unsigned_abs draft.unit) (unsigned_abs draft.own) (numbers_of (lines q) draft.by.items (get_or (lines q) k l).name) none (named-fits (lines q) draft.by.items (get_or (lines q) k l).name numbers)
            | inl h ↦
                let t = are.there k l f None h.0 h.1 in
                let y : numbers_of (lines q) draft.by.items (get_or (lines q) k l).name ≡ number_at draft.by.items k = at_place (lines q) draft.by.items k l apart count within in
                outside-costs side (get_or (lines q) k l) (get_or outline.lines.items k f) level (unsigned_abs draft.unit) (unsigned_abs draft.own) (numbers_of (lines q) draft.by.items (get_or (lines q) k l).name) here t.1.cost
                (outside-of at (get_or (lines q) k l) (get_or outline.lines.items k f) (get_or kept k None) (unsigned_abs draft.unit) (unsigned_abs draft.own) (numbers_of (lines q) draft.by.items (get_or (lines q) k l).name) t.1.seen out
                (subst (λ (z : ℤ). AreFittingCosts (get_or outline.lines.items k f) (get_or kept k None) (unsigned_abs draft.unit) (unsigned_abs draft.own) z) (sym y) (fit.1 k h.0 f None h.1)))
          ];
      inside_fit = λ k l within here side inside i.
          elim (are.back k l f within here) [
            | inr none ↦ free-costs side (get_or (lines q) k l) level (unsigned_abs draft.unit) (unsigned_abs draft.own) (inside_number inside level (unsigned_abs draft.unit) (unsigned_abs draft.own) (get_or (lines q) k l)) none
                (subst IsFitting (sym (free-inside inside (get_or (lines q) k l) level (unsigned_abs draft.unit) (unsigned_abs draft.own) none)) zero-fits)
            | inl h ↦
                let t = are.there k l f None h.0 h.1 in
                inside-costs side inside (get_or (lines q) k l) (get_or outline.lines.items k f) level (unsigned_abs draft.unit) (unsigned_abs draft.own) here t.1.cost
                (inside-of at (get_or (lines q) k l) (get_or outline.lines.items k f) (get_or kept k None) (unsigned_abs draft.unit) (unsigned_abs draft.own) (number_at draft.by.items k) inside t.1.seen i (fit.1 k h.0 f None h.1))
          ];
    }

-- ---- the other way

costs-back : (at : List Mark) (l : Line) (f : LineFacts) (kept : Option Inside) (level unit own : ℕ) (y : ℤ) → l.level ≡ level → IsLevelLine at l f kept
    → (IsOutsideLine at l.name → (side : Side) → IsFitting (reduced_number side level unit own y l))
    → ((side inside : Side) → IsIn (place_of l.name inside) at → IsFitting (reduced_number side level unit own (inside_number inside level unit own l) l)) → AreFittingCosts f kept unit own y
costs-back at l f None level unit own y here is out ins = (
  subst (λ (z : ℤ). IsFitting (z -ℤ y)) (own-counts Under l f level unit own here is.cost) (out is.seen Under),
  subst (λ (z : ℤ). IsFitting (z +ℤ y)) (over-own l f level unit own here is.cost) (out is.seen Over),
)
costs-back at l f (Some inside) level unit own y here is out ins =
    both inside.side (ins Under inside.side is.seen.0) (ins Over inside.side is.seen.0)
  where
    both : (side : Side) → IsFitting (reduced_number Under level unit own (inside_number side level unit own l) l) → IsFitting (reduced_number Over level unit own (inside_number side level unit own l) l)
        → IsFitting (pos (side_count Under f unit own) +ℤ pos (side_count Over f unit own))
    both Under a b = subst IsFitting (flip (pos (own * over_share unit level l)) (pos (own * under_share unit level l)) ∙ ap₂ ◌+ℤ◌ (own-counts Under l f level unit own here is.cost) (over-own l f level unit own here is.cost)) b
    both Over a b = subst IsFitting (sub-opposite (pos (own * under_share unit level l)) (pos (own * over_share unit level l)) ∙ ap₂ ◌+ℤ◌ (own-counts Under l f level unit own here is.cost) (over-own l f level unit own here is.cost)) a

pub lines_fit : (q : Problem) (at : List Mark) (level : ℕ) (outline : Outline) (kept : List (Option Inside)) (place upto : ℕ) (draft : Draft) (l : Line) → AreLevelLines q at level outline kept place upto → AllApart (lines q) → length draft.by.items ≡ length (lines q)
    → draft.own *ℤ draft.unit ≡ pos (unsigned_abs draft.own * unsigned_abs draft.unit)
    → IsFittingRow q at level (unsigned_abs draft.unit) (unsigned_abs draft.own) (numbers_of (lines q) draft.by.items) → IsFittingTo outline kept place upto draft
lines_fit q at level outline kept place upto draft l are apart count whole row = (
  subst IsFitting (sym whole) row.scale_fits,
  (λ k less f d here.
      let t = are.there k l f d less here in
      let within = are.within k less in
      subst (λ (z : ℤ). AreFittingCosts (get_or outline.lines.items k f) (get_or kept k d) (unsigned_abs draft.unit) (unsigned_abs draft.own) z) (at_place (lines q) draft.by.items k l apart count within)
      (costs-back at (get_or (lines q) k l) (get_or outline.lines.items k f) (get_or kept k d) level (unsigned_abs draft.unit) (unsigned_abs draft.own) (numbers_of (lines q) draft.by.items (get_or (lines q) k l).name) t.0 t.1
      (λ out side. row.own_fit k l within t.0 out side) (λ side inside i. row.inside_fit k l within t.0 side inside i))),
)
