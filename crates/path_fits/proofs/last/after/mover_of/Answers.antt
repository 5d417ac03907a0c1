use Rattle.std.proofs.Common.{◌≡◌, ◌∙◌, ◌<◌, ℕ, ℤ, List, ap, pos, None, Some, subst, refl, rules, SFits}
use Rattle.std.specs.Int.{w64}
use Rattle.std.proofs.lemmas.Int.{to_z-of_z}
use Rattle.path_lines.specs.Numbers.{number_at}
use Rattle.path_lines.specs.Tables.{IsLineAt, name_at}
use Rattle.path_fits.proofs.LastCorner.SumsAfter.{inside_mover, outside_mover}
use Rattle.path_fits.proofs.last.after.mover_of.Goals as goal

pub returns-in-Some-clause-mover : goal.returns-in-Some-clause-mover
returns-in-Some-clause-mover c = λ p marks there count within line.
    let kept : IsLineAt p marks (name_at p c.args.line.at) (Some c.in-Some.inside) = subst (IsLineAt p marks (name_at p c.args.line.at)) c.in-Some.is line in
    let own : SFits w64 c.in-Some.inside.sum.own = search rules in
    let fits : SFits w64 c.number_of.result = record { sfits = c.number_of.type_inv } in
    let list : c.deref.result.now ≡ c.in-Some.inside.sum.by.items = search rules in
    let is : c.number_of.result ≡ number_at c.in-Some.inside.sum.by.items c.args.enter = c.number_of.ensures ∙ ap (λ (zs : List ℤ). number_at zs c.args.enter) list in
    simp to_z-of_z (inside_mover p marks c.args.line.at c.args.enter c.in-Some.inside (record { own = c.in-Some.inside.sum.own; number = c.number_of.result; value = c.in-Some.inside.sum.value }) there (subst (λ (n : ℕ). c.args.enter < n) count c.requires.enter) kept refl is refl)

pub returns-in-None-clause-mover : goal.returns-in-None-clause-mover
returns-in-None-clause-mover c = λ p marks there count within line.
    let out : IsLineAt p marks (name_at p c.args.line.at) None = subst (IsLineAt p marks (name_at p c.args.line.at)) c.in-None.is line in
    let fits : SFits w64 c.own_number.result = record { sfits = c.own_number.type_inv } in
    simp to_z-of_z (outside_mover p marks c.args.line.at c.args.enter (record { own = pos 1; number = c.own_number.result; value = c.zero.result }) there within (subst (λ (n : ℕ). c.args.enter < n) count c.requires.enter) out refl c.own_number.ensures.here c.own_number.ensures.other c.zero.ensures.num c.zero.ensures.den)
