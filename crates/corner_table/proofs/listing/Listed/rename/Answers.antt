use Rattle.std.proofs.Common.{rules, ◌≡◌, ◌<◌, ◌+◌, ◌++◌, ◌∷◌, [], ℕ, List, length, map, slice_index_or, subst, sym, take}
use Rattle.corner_table.proofs.Readings.ListedFacts.{flagged_more, renamed_more}
use Rattle.corner_table.proofs.listing.Listed.rename.Goals as goal

pub loop-line-preserved : goal.loop-line-preserved
loop-line-preserved c =
    let lt : c.loop-line.line-index < length c.self.inside.lines.items = search rules in
    let place : ℕ = slice_index_or c.args.places.now (slice_index_or c.self.inside.lines.items c.loop-line.line-index 0) 0 in
    let pushed : c.push-in-loop-line.new.self.items ≡ c.loop-line.lines.items ++ place ∷ [] = search rules in
    let within : place < length c.loop-flags.flags.items = search rules in
    let same : c.self.inside.lines.items ≡ c.args.self.now = search rules in
    let before : c.loop-line.lines.items ≡ map (λ w. slice_index_or c.args.places.now w 0) (take c.loop-line.line-index c.self.inside.lines.items) =
    subst (λ (xs : List ℕ). c.loop-line.lines.items ≡ map (λ w. slice_index_or c.args.places.now w 0) (take c.loop-line.line-index xs))
    (sym same) c.loop-line.invariant.lines in
    record {
      flagged = rw pushed rw c.as_slice-line-items.ensures.value
          (flagged_more c.loop-line.lines.items c.loop-flags.flags.items place c.loop-flags.invariant within);
      lines = subst (λ (xs : List ℕ). c.push-in-loop-line.new.self.items ≡ map (λ w. slice_index_or c.args.places.now w 0) (take (c.loop-line.line-index + 1) xs))
          same
          (renamed_more c.args.places.now c.self.inside.lines.items c.loop-line.lines.items c.push-in-loop-line.new.self.items
          c.loop-line.line-index lt pushed before);
    }
