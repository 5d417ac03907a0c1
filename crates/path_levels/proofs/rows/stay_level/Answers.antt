use Rattle.std.proofs.Common.{◌≡◌, ◌≢◌, ◌∙◌, ◌<◌, ℕ, List, length, get_or, All, take, sym, subst, arith, None}
use Rattle.std.specs.declared.option.Option.{Option}
use Rattle.std.proofs.lemmas.List.{get_or_default}
use Rattle.path_lines.specs.declared.table.Inside.{Inside}
use Rattle.path_levels.specs.declared.outline.Outline.{Outline}
use Rattle.path_levels.specs.declared.outline.LineFacts.{LineFacts}
use Rattle.std.specs.List.{HoldsAt}
use Rattle.path_levels.proofs.StayLines.StayPlaces.{IsStayPlace, never_none}
use Rattle.path_levels.proofs.StayLines.StayLevels.{no_rows, one_stop, stay_rows, stay_stop}
use Rattle.path_levels.proofs.rows.stay_level.Goals as goal

-- the place that was found
found-there : (outline : Outline) (kept : List (Option Inside)) (place k : ℕ) (line : Option Inside) (facts : List LineFacts) → facts ≡ outline.lines.items → place < length outline.levels.items → length kept ≡ length outline.lines.items
    → k < length facts → HoldsAt (λ f. f.level ≡ place) facts k → All (λ f. f.level ≢ place) (take k facts) → line ≡ get_or kept k line → IsStayPlace outline kept place k line
found-there outline kept place k line facts same within count less here before is =
    let there : k < length outline.lines.items = subst (λ (fs : List LineFacts). k < length fs) same less in
    record {
      place_within = within;
      count = count;
      within = there;
      here = subst (λ (fs : List LineFacts). HoldsAt (λ f. f.level ≡ place) fs k) same here;
      before = subst (λ (fs : List LineFacts). All (λ f. f.level ≢ place) (take k fs)) same before;
      line_is = get_or_default kept k None line (omega (arith, there, count)) ∙ sym is;
    }

above-none : (n : ℕ) → (n ≡ 0 → ⊥) → 0 < n
above-none n h = omega (arith, h)

pub returns-in_default-clause-row : goal.returns-in_default-clause-row
returns-in_default-clause-row c = λ p at are above.
    absurd (never_none p c.args.corner.outline.now c.args.place are.outline_is c.requires.place above (subst (λ (fs : List LineFacts). All (λ f. f.level ≢ c.args.place) fs) c.deref.ensures.value c.in_default.ensures.none))

pub returns-then-most-eq0-clause-row : goal.returns-then-most-eq0-clause-row
returns-then-most-eq0-clause-row c = λ p at are above.
    no_rows p at c.args.corner.outline.now c.args.place c.args.most c.args.corner.lines.now c.in_ok-empty_level-2.field-0 c.requires.place (omega (arith, c.if-most-eq0.true)) above are

pub returns-in-Ok-clause-row : goal.returns-in-Ok-clause-row
returns-in-Ok-clause-row c = λ p at are above.
    stay_rows p at c.args.corner.outline.now c.args.place c.args.most c.args.corner.lines.now c.in-Some.at c.index-lines-at.result c.in-Ok.sum
    (found-there c.args.corner.outline.now c.args.corner.lines.now c.args.place c.in-Some.at c.index-lines-at.result c.deref.result.now c.deref.ensures.value c.requires.place c.requires.corner.outline.count c.in-Some.ensures.within c.in-Some.ensures.found c.in-Some.ensures.before c.index-lines-at.is)
    (above-none c.args.most c.if-most-eq0.false) c.in-Ok.ensures.sized c.in-Ok.ensures.row above are

pub returns-in-Err-clause-unfit : goal.returns-in-Err-clause-unfit
returns-in-Err-clause-unfit c = λ stays.
    one_stop c.args.corner c.args.place c.args.most c.index.result.now.level c.in-Err.stop c.rows_stop.result c.rows_stop.ensures.unfit c.rows_stop.ensures.memory
    (λ is.
    stay_stop c.args.corner c.args.place c.args.most c.in-Some.at c.index-lines-at.result c.index.result.now
    (found-there c.args.corner.outline.now c.args.corner.lines.now c.args.place c.in-Some.at c.index-lines-at.result c.deref.result.now c.deref.ensures.value c.requires.place c.requires.corner.outline.count c.in-Some.ensures.within c.in-Some.ensures.found c.in-Some.ensures.before c.index-lines-at.is)
    (above-none c.args.most c.if-most-eq0.false) (c.in-Err.ensures.unfit is) (sym c.index.ensures) stays)
