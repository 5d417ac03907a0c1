use Rattle.std.proofs.Common.{rules, ◌≡◌, ◌+◌, inl, inr, List, length, subst, sym, arith}
use Rattle.std.specs.Vec.{vec_len}
use Rattle.problem_core.specs.declared.parts.RowName.{RowName}
use Rattle.corner_view.specs.Seen.{IsNamed}
use Rattle.dual_run.specs.FoundLows.{IsTwice}
use Rattle.dual_run.proofs.Lows.{twin, without}
use Rattle.dual_run.proofs.leaving.look_at.Goals as goal

pub low_at-requires : goal.low_at-requires
low_at-requires g c = subst (IsNamed c.args.c.now.problem) (sym c.index-name.ensures) (c.requires.low.named c.args.at c.index-name.result.now c.requires.within)

pub returns-in-None-clause-low : goal.returns-in-None-clause-low
returns-in-None-clause-low g c =
    without c.args.c.now.problem c.args.c.now.marks c.args.low.now.items c.swap_remove-in-None.new.self.items c.args.at c.index-name.result.now c.swap_remove-in-None.result
    c.requires.within c.index-name.ensures c.swap_remove-in-None.ensures.value c.swap_remove-in-None.ensures.items (inr c.in-None.ensures.none) c.requires.low

pub returns-then-is_twice-clause-low : goal.returns-then-is_twice-clause-low
returns-then-is_twice-clause-low g c =
    let same : c.deref.result.now ≡ c.args.low.now.items = search rules in
    let count : vec_len c.args.low.now ≡ length c.args.low.now.items = search rules in
    let short : length c.swap_remove.new.self.items + 1 ≡ length c.args.low.now.items = search rules in
    let twice : IsTwice c.args.low.now.items c.args.at = subst (λ (xs : List RowName). IsTwice xs c.args.at) same (c.is_twice.ensures c.if-is_twice.true) in
    without c.args.c.now.problem c.args.c.now.marks c.args.low.now.items c.swap_remove.new.self.items c.args.at c.index-name.result.now c.swap_remove.result
    c.requires.within c.index-name.ensures c.swap_remove.ensures.value c.swap_remove.ensures.items
    (inl (twin c.args.low.now.items c.swap_remove.new.self.items c.args.at c.index-name.result.now twice c.requires.within c.index-name.ensures short (λ k d other less. c.swap_remove.ensures.by_index.1 k d other (omega (arith, less, count)))))
    c.requires.low
