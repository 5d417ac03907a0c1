-- The rows of a stay's level, which has one line.
use Rattle.std.proofs.Common.{◌≡◌, ◌∙◌, ℕ, ◌<◌, List, length, get_or, refl, sym, ap, subst, arith}
use Rattle.std.specs.declared.option.Option.{Option}
use Rattle.problem_core.specs.declared.parts.Level.{Level}
use Rattle.problem_core.specs.declared.parts.Level.TheVariants.{Stay as StayLevel}
use Rattle.problem_core.specs.declared.parts.Mark.{Mark}
use Rattle.problem_core.specs.Layout.{Problem}
use Rattle.problem_core.specs.Levels.{HasNoLevelWriting, IsLevelAt}
use Rattle.problem_core.specs.Unfit.{with_first_rows}
use Rattle.corner_laws.specs.Units.{IsStayLevel}
use Rattle.corner_lines.proofs.LevelRows.StayRows.{stay_stands_alone}
use Rattle.path_lines.specs.declared.table.Inside.{Inside}
use Rattle.path_lines.specs.Tables.{IsThere, line_count}
use Rattle.path_levels.specs.declared.outline.Outline.{Outline}
use Rattle.path_levels.specs.declared.tableau.CornerLines.{CornerLines}
use Rattle.path_levels.specs.declared.outline.LevelFacts.{LevelFacts}
use Rattle.path_levels.specs.declared.sums.LevelSum.{LevelSum}
use Rattle.path_lines.specs.Stops.{SumStop}
use Rattle.frac_core.specs.declared.memory.Stop.TheVariants.{Refused, OutOfMemory}
use Rattle.frac_core.specs.Stops.{IsRefused}
use Rattle.path_levels.specs.Outlines.{IsOutline, number_at}
use Rattle.path_levels.specs.Levels.{IsSizedLevel}
use Rattle.path_levels.specs.Rows.{AreFittingRows, AreKeptOf, IsRowsStop, IsRowsSum, RowsStop, unfit_rows}
use Rattle.path_levels.specs.StaySums.{IsStayRow, IsUnfitStay}
use Rattle.path_levels.proofs.StayLines.StayPlaces.{IsStayPlace, all_rows, has_line, line_kept, stay_at, stay_of}
use Rattle.path_levels.proofs.StayLines.StayRows.{stay_fits, stay_sum, stay_unfit}
use Rattle.path_levels.proofs.OutlineParts.{number_is as number_there}

one-number : (p : Problem) (attr k n : ℕ) → IsStayLevel p k attr → IsLevelAt p (StayLevel attr) n → n ≡ k
one-number p attr k n alone (i, l, within, is, e) = sym e.1 ∙ sym (ap (λ l. l.level) is) ∙ alone.named i l within (ap (λ l. l.name) is ∙ e.0)

-- as many first rows as there are, and the level itself, are the same
rows-fit : (p : Problem) (at : List Mark) (level : Level) (k most : ℕ) → IsThere p at → 1000 < k → IsLevelAt p level k → ((attr : ℕ) → IsLevelAt p (StayLevel attr) k → HasNoLevelWriting p at k → ⊥) → AreFittingRows p at level most
rows-fit p at level k most there above is fits j le unfit =
    let stay = stay_of p level k above is in
    let here : IsLevelAt p (StayLevel stay.0) k = subst (λ (l : Level). IsLevelAt p l k) stay.1 is in
    let same : unfit.0 ≡ k = one-number p stay.0 k unfit.0 (stay_stands_alone p stay.0 k there.whole here) (subst (λ (l : Level). IsLevelAt p l unfit.0) stay.1 unfit.1) in
    fits stay.0 here
    (subst (λ (q : Problem). HasNoLevelWriting q at k) (all_rows p k j above)
    (subst (λ (n : ℕ). HasNoLevelWriting (with_first_rows n j p) at n) same unfit.4))

pub stay_rows : (p : Problem) (at : List Mark) (outline : Outline) (place most : ℕ) (kept : List (Option Inside)) (k : ℕ) (line : Option Inside) (sum : LevelSum) → IsStayPlace outline kept place k line → 0 < most → IsSizedLevel (length kept) sum → IsStayRow (length kept) line sum
    → 1000 < number_at outline.levels.items place → AreKeptOf p at outline place most kept → IsRowsSum p at outline place most sum
stay_rows p at outline place most kept k line sum is some sized row above are =
    let stay = stay_at p outline place are.outline_is is.place_within above in
    let long : IsSizedLevel (line_count p) sum = subst (λ (n : ℕ). IsSizedLevel n sum) are.count sized in
    let made : IsStayRow (line_count p) line sum = subst (λ (n : ℕ). IsStayRow n line sum) are.count row in
    record {
      whole = λ le. stay_sum p at (number_at outline.levels.items place) stay.0 line sum are.there stay.1 (line_kept p at outline place most kept k stay.0 line is are some stay.1) long made;
      fitting = λ level here.
          rows-fit p at level (number_at outline.levels.items place) most are.there above here
          (λ attr there none. stay_fits p at (number_at outline.levels.items place) attr line sum are.there there (line_kept p at outline place most kept k attr line is are some there) made none);
    }

-- no rows
pub no_rows : (p : Problem) (at : List Mark) (outline : Outline) (place most : ℕ) (kept : List (Option Inside)) (sum : LevelSum) → place < length outline.levels.items → most ≡ 0 → 1000 < number_at outline.levels.items place → AreKeptOf p at outline place most kept → IsRowsSum p at outline place most sum
no_rows p at outline place most kept sum within none above are =
    let stay = stay_at p outline place are.outline_is within above in
    record {
      whole = λ le. let some = has_line p stay.0 (number_at outline.levels.items place) stay.1 in absurd (omega (arith, le, none, some));
      fitting = λ level here j le unfit. let one = unfit.2 in absurd (omega (arith, le, none, one));
    }

pub stay_stop : (corner : CornerLines) (place most : ℕ) (k : ℕ) (line : Option Inside) (facts : LevelFacts) → IsStayPlace corner.outline.now corner.lines.now place k line → 0 < most → IsUnfitStay line → get_or corner.outline.now.levels.items place facts ≡ facts
    → ((p : Problem) → IsOutline p corner.outline.now → 1000 < number_at corner.outline.now.levels.items place) → IsRowsStop corner place most (unfit_rows facts.level 1)
stay_stop corner place most k line facts is some unfit same stays p at are =
    let n : ℕ = number_at corner.outline.now.levels.items place in
    let above : 1000 < number_at corner.outline.now.levels.items place = stays p are.outline_is in
    let number : facts.number ≡ number_at corner.outline.now.levels.items place = sym (number_there corner.outline.now.levels.items place facts is.place_within ∙ ap (λ (f : LevelFacts). f.number) same) in
    let there : IsLevelAt p facts.level facts.number = subst (λ (f : LevelFacts). IsLevelAt p f.level f.number) same (are.outline_is.levels_are.each place facts is.place_within) in
    let here : IsLevelAt p facts.level (number_at corner.outline.now.levels.items place) = subst (λ (n : ℕ). IsLevelAt p facts.level n) number there in
    let stay = stay_of p facts.level (number_at corner.outline.now.levels.items place) above here in
    let level : IsLevelAt p (StayLevel stay.0) (number_at corner.outline.now.levels.items place) = subst (λ (l : Level). IsLevelAt p l (number_at corner.outline.now.levels.items place)) stay.1 here in (
      here,
      some,
      record {
        unfit = (
          number_at corner.outline.now.levels.items place,
          here,
          omega arith,
          has_line p stay.0 (number_at corner.outline.now.levels.items place) level,
          subst (λ (q : Problem). HasNoLevelWriting q at (number_at corner.outline.now.levels.items place)) (sym (all_rows p (number_at corner.outline.now.levels.items place) 1 above))
              (stay_unfit p at (number_at corner.outline.now.levels.items place) stay.0 line are.there level (line_kept p at corner.outline.now place most corner.lines.now k stay.0 line is are some level) unfit),
        );
        before = λ i less u. let one = u.2 in absurd (omega (arith, less, one));
      },
    )

pub one_stop : (corner : CornerLines) (place most : ℕ) (level : Level) (stop : SumStop) (out : RowsStop) → (IsRefused stop → out ≡ unfit_rows level 1) → (stop ≡ OutOfMemory → out ≡ OutOfMemory)
    → (IsRefused stop → IsRowsStop corner place most (unfit_rows level 1)) → IsRowsStop corner place most out
one_stop corner place most level (Refused cause) out unfit memory is = subst (IsRowsStop corner place most) (sym (unfit tt)) (is tt)
one_stop corner place most level OutOfMemory out unfit memory is = subst (IsRowsStop corner place most) (sym (memory refl)) tt
