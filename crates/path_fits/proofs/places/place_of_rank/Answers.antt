use Rattle.std.proofs.Common.{◌≡◌, ◌≢◌, ◌+◌, ◌-◌, ◌<◌, List, All, length, get_or, subst, rules, arith}
use Rattle.problem_core.specs.declared.parts.Level.TheVariants.{Priority}
use Rattle.path_levels.specs.declared.outline.LevelFacts.{LevelFacts}
use Rattle.path_fits.proofs.LastCorner.LevelsAfter.{none_then, rank_found, rank_none, some_both}
use Rattle.path_fits.proofs.places.place_of_rank.Goals as goal

any : LevelFacts
any = record { level = Priority 0; number = 0 }

pub returns-clause-found : goal.returns-clause-found
returns-clause-found c =
    let list : c.deref.result.now ≡ c.args.outline.now.levels.items = search rules in
    let from : c.from.result ≡ 1000 - c.args.rank = search rules in
    let sum : c.from.result + c.args.rank ≡ 1000 = omega (arith, from, c.if-rank-gt-REQUIRED.false) in
    some_both c.place_of_number.result (λ k found within p is.
    rank_found c.args.outline.now.levels.items c.args.rank c.from.result k any sum (subst (λ (ls : List LevelFacts). k < length ls) list within)
    (subst (λ (ls : List LevelFacts). (get_or ls k any).number ≡ c.from.result) list (found any)))
    c.place_of_number.ensures.found c.place_of_number.ensures.within

pub returns-clause-none : goal.returns-clause-none
returns-clause-none c =
    let list : c.deref.result.now ≡ c.args.outline.now.levels.items = search rules in
    let from : c.from.result ≡ 1000 - c.args.rank = search rules in
    let sum : c.from.result + c.args.rank ≡ 1000 = omega (arith, from, c.if-rank-gt-REQUIRED.false) in
    none_then c.place_of_number.result (λ none p is.
    rank_none p c.args.outline.now c.args.rank c.from.result sum (subst (λ (ls : List LevelFacts). All (λ f. f.number ≢ c.from.result) ls) list none) is)
    c.place_of_number.ensures.none
