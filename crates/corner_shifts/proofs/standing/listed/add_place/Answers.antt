use Rattle.std.proofs.Common.{rules, ◌≡◌, ◌++◌, ℕ, [], ◌∷◌, List, Contains, arith, refl, subst, sym}
use Rattle.std.proofs.lemmas.List.Elements.{Contains-append_right}
use Rattle.corner_table.specs.Tables.{lists_of}
use Rattle.corner_shifts.proofs.Stays.ListedStays.{place_has}
use Rattle.corner_shifts.proofs.standing.listed.add_place.Goals as goal

pub returns-clause-has : goal.returns-clause-has
returns-clause-has c =
    let old : List ℕ = c.args.places.now.items in
    let place : ℕ = c.in-Some-place_of.place in
    let added : c.push.new.self.items ≡ old ++ place ∷ [] = search rules in
    let has : Contains c.push.new.self.items place =
    subst (λ (xs : List ℕ). Contains xs place) (sym added) (Contains-append_right old (place ∷ []) place (0, omega arith, refl)) in
    λ true. place_has (lists_of c.args.table.now) c.args.w c.in-Some.attr place c.push.new.self.items c.requires
    c.in-Some.ensures.some c.in-Some-place_of.ensures.within c.in-Some-place_of.ensures.attr has
