use Rattle.std.proofs.Common.{◌≡◌, ◌≢◌, ◌<◌, List, All, length, get_or, subst, rules}
use Rattle.problem_core.specs.declared.parts.RowName.TheVariants.{Stay as StayOf}
use Rattle.problem_core.specs.declared.parts.Level.TheVariants.{Stay as StayLevel}
use Rattle.problem_core.specs.Levels.{IsLevelAt}
use Rattle.path_levels.specs.declared.outline.LineFacts.{LineFacts}
use Rattle.path_levels.specs.Outlines.{number_at}
use Rattle.path_fits.proofs.LastCorner.FirstRows.{stay_line_found, stay_line_none}
use Rattle.path_fits.proofs.places.level_of_stay.Goals as goal

pub returns-in_err-i-clause-none : goal.returns-in_err-i-clause-none
returns-in_err-i-clause-none c =
    let list : c.deref.result.now ≡ c.args.outline.now.lines.items = search rules in
    rw c.from_residual.ensures (λ p is. stay_line_none p c.args.outline.now c.args.attr (subst (λ (fs : List LineFacts). All (λ f. f.name ≢ StayOf c.args.attr) fs) list c.in_err-i.ensures.none) is)

pub returns-clause-found : goal.returns-clause-found
returns-clause-found c =
    let list : c.deref.result.now ≡ c.args.outline.now.lines.items = search rules in
    let within : c.in_ok-i.i < length c.args.outline.now.lines.items = subst (λ (fs : List LineFacts). c.in_ok-i.i < length fs) list c.in_ok-i.ensures.within in
    let named : (get_or c.args.outline.now.lines.items c.in_ok-i.i c.index.result.now).name ≡ StayOf c.args.attr =
    subst (λ (fs : List LineFacts). (get_or fs c.in_ok-i.i c.index.result.now).name ≡ StayOf c.args.attr) list (c.in_ok-i.ensures.found c.index.result.now) in
    let here : get_or c.args.outline.now.lines.items c.in_ok-i.i c.index.result.now ≡ c.index.result.now = search rules in
    λ p is. subst (λ (f : LineFacts). IsLevelAt p (StayLevel c.args.attr) (number_at c.args.outline.now.levels.items f.level)) here (stay_line_found p c.args.outline.now c.args.attr c.in_ok-i.i c.index.result.now is within named)
