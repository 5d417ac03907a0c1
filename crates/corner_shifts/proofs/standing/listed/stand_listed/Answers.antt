use Rattle.std.proofs.Common.{rules, ◌<◌, ◌⊎◌, ℕ, List, length, inl, inr, subst, sym, All, Contains}
use Rattle.std.specs.List.Sorted.{IsStrictlyIncreasing}
use Rattle.corner_shifts.specs.Stood.{IsAtRest}
use Rattle.corner_table.specs.Tables.{lists_of}
use Rattle.corner_shifts.proofs.Stays.ListedStays.{sorted_has, sorted_rise, sorted_within}
use Rattle.corner_shifts.proofs.standing.listed.stand_listed.Goals as goal

pub stand_at-requires-clause-rising : goal.stand_at-requires-clause-rising
stand_at-requires-clause-rising c =
    subst IsStrictlyIncreasing (sym c.deref.ensures.value)
    (sorted_rise c.sort_unstable.new.self.items c.dedup.new.self.items c.sort_unstable.ensures.sorted c.dedup.ensures.filtered)

pub stand_at-requires-clause-within : goal.stand_at-requires-clause-within
stand_at-requires-clause-within c =
    let count : ℕ = length c.args.table.now.stays.items in
    let within : All (λ (i : ℕ). i < count) c.in-Some.places.items = search rules in
    subst (All (λ (i : ℕ). i < count)) (sym c.deref.ensures.value)
    (sorted_within count c.in-Some.places.items c.sort_unstable.new.self.items c.dedup.new.self.items c.sort_unstable.ensures.permutation c.dedup.ensures.filtered within)

pub stand_at-requires-clause-has : goal.stand_at-requires-clause-has
stand_at-requires-clause-has c = λ i lt.
    let has : (i : ℕ) → i < length c.args.table.now.stays.items → IsAtRest (lists_of c.args.table.now) i ⊎ Contains c.in-Some.places.items i = search rules in
    elim (has i lt) [
      | inl rest ↦ inl rest
      | inr is ↦ inr (subst (λ (xs : List ℕ). Contains xs i) (sym c.deref.ensures.value)
          (sorted_has c.in-Some.places.items c.sort_unstable.new.self.items c.dedup.new.self.items i c.sort_unstable.ensures.permutation c.dedup.ensures.filtered is))
    ]
