use Rattle.std.proofs.Common.{◌≡◌, ◌∙◌, ℕ, get_or, sym, ap, SFits, rules}
use Rattle.std.specs.Int.{w64}
use Rattle.std.proofs.lemmas.Int.{to_z-of_z}
use Rattle.row_core.specs.Rows.{Term, coefficient}
use Rattle.row_core.proofs.Places.{absent, coefficient_at}
use Rattle.row_core.proofs.row.number_at.Goals as goal

pub returns-in_default-clause-value : goal.returns-in_default-clause-value
returns-in_default-clause-value c = sym (absent c.args.col.0 c.args.entries.now c.in_default.ensures.absent)

pub returns-clause-value : goal.returns-clause-value
returns-clause-value c =
    let fits : SFits w64 c.e.inside.by = search rules in
    let here : (get_or c.args.entries.now c.in-Some.place c.index-entries-place.result).col ≡ c.args.col.0 = c.in-Some.ensures.found c.index-entries-place.result in
    to_z-of_z w64 c.e.inside.by fits
    ∙ ap (λ (t : Term). t.by) (c.e.view_is ∙ c.index-entries-place.is)
    ∙ sym (coefficient_at c.args.entries.now c.in-Some.place c.index-entries-place.result c.requires.rising c.in-Some.ensures.within)
    ∙ ap (λ (q : ℕ). coefficient q c.args.entries.now) here
