use Rattle.std.proofs.Common.{rules, ◌≡◌, ◌∙◌, ◌*ℤ◌, ℤ, ap, ap₂, sym, subst, to_z, of_z, FitsSigned, SFits}
use Rattle.std.specs.Int.{w64}
use Rattle.std.proofs.lemmas.Int.{to_z-of_z}
use Rattle.corner_table.specs.declared.table.Slot.{Slot}
use Rattle.corner_table.specs.Tables.{lists_of}
use Rattle.corner_table.specs.Reads.LevelNumbers.{own_at, unit_at}
use Rattle.corner_writings.proofs.LevelFacts.LevelReadFacts.{level_home, scale_fits}
use Rattle.corner_writings.proofs.levels.scale_at.Goals as goal
use Rattle.frac_core.proofs.Fitting.{fits-signed as fitting_fits, fits-word as fitting_sfits}

pub overflow_mul-result : goal.overflow_mul-result
overflow_mul-result c =
    let fits : SFits w64 c.level_own.result = search rules in
    let fits-2 : SFits w64 c.unit_of.result = search rules in
    let unit : c.unit_of.result ≡ unit_at (lists_of c.args.table.now) c.args.l = c.unit_of.ensures.level ∙ ap (λ (s : Slot). unit_at (lists_of c.args.table.now) s.home) c.slot_at.ensures ∙ ap (unit_at (lists_of c.args.table.now)) (level_home (lists_of c.args.table.now) c.args.l c.requires.kept c.requires.level) in
    subst (λ (z : ℤ). FitsSigned w64 z) (sym (ap₂ ◌*ℤ◌ (to_z-of_z w64 c.level_own.result fits ∙ c.level_own.ensures.value) (to_z-of_z w64 c.unit_of.result fits-2 ∙ unit)))
    (fitting_fits (own_at (lists_of c.args.table.now) c.args.l *ℤ unit_at (lists_of c.args.table.now) c.args.l) (scale_fits (lists_of c.args.table.now) c.args.l c.requires.kept c.requires.level))

pub returns : goal.returns
returns c =
    let fits : SFits w64 c.level_own.result = search rules in
    let fits-2 : SFits w64 c.unit_of.result = search rules in
    let unit : c.unit_of.result ≡ unit_at (lists_of c.args.table.now) c.args.l = c.unit_of.ensures.level ∙ ap (λ (s : Slot). unit_at (lists_of c.args.table.now) s.home) c.slot_at.ensures ∙ ap (unit_at (lists_of c.args.table.now)) (level_home (lists_of c.args.table.now) c.args.l c.requires.kept c.requires.level) in
    ap (λ (z : ℤ). to_z w64 (of_z w64 z)) (ap₂ ◌*ℤ◌ (to_z-of_z w64 c.level_own.result fits ∙ c.level_own.ensures.value) (to_z-of_z w64 c.unit_of.result fits-2 ∙ unit))
    ∙ to_z-of_z w64 (own_at (lists_of c.args.table.now) c.args.l *ℤ unit_at (lists_of c.args.table.now) c.args.l)
    (fitting_sfits (own_at (lists_of c.args.table.now) c.args.l *ℤ unit_at (lists_of c.args.table.now) c.args.l) (scale_fits (lists_of c.args.table.now) c.args.l c.requires.kept c.requires.level))
