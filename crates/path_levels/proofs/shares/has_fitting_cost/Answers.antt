use Rattle.std.proofs.Common.{◌≡◌, ◌∙◌, ◌-ℤ◌, ◌+ℤ◌, ℤ, pos, SFits, to_z, sym, ap, unsigned_abs}
use Rattle.std.specs.Int.{w64}
use Rattle.std.proofs.lemmas.Int.{to_z-of_z}
use Rattle.path_levels.specs.Shares.{counted_of, reduced_of}
use Rattle.path_levels.proofs.Counting.ShareFacts.{fits_test, minus_fits, plus_fits, reduced_over, reduced_under}
use Rattle.path_levels.proofs.shares.has_fitting_cost.Goals.{in-Under, in-Over}
use Rattle.path_levels.proofs.shares.has_fitting_cost.Goals as goal

pub returns : goal.returns
returns c =
    let counted : SFits w64 c.counted-counted.result = record { sfits = c.counted-counted.type_inv } in
    let number : SFits w64 c.args.number = c.ranges.number in
    let value : c.counted-counted.result ≡ pos (counted_of c.args.line.now c.args.side c.args.row.place c.args.row.sum.now) = c.counted-counted.ensures.value in
    let size : c.from.result ≡ unsigned_abs (to_z w64 c.match-side.reduced-bits) = c.from.ensures ∙ c.unsigned_abs.ensures.value in
    elim c.match-side.branch [
      | in-Under w ↦
          let fits : SFits w64 (c.counted-counted.result -ℤ c.args.number) = rw value (minus_fits (counted_of c.args.line.now c.args.side c.args.row.place c.args.row.sum.now) c.args.number c.counted-counted.ensures.small c.requires.number) in
          let is : to_z w64 c.match-side.reduced-bits ≡ c.counted-counted.result -ℤ c.args.number = simp to_z-of_z at w.reduced-is in
          fits_test c.from.result (reduced_of c.args.line.now c.args.side c.args.row.place c.args.row.sum.now c.args.number)
          (size ∙ ap unsigned_abs (is ∙ ap (λ (z : ℤ). z -ℤ c.args.number) value ∙ sym (reduced_under c.args.line.now c.args.side c.args.row.place c.args.row.sum.now c.args.number w.in-Under.is)))
      | in-Over w ↦
          let fits : SFits w64 (c.counted-counted.result +ℤ c.args.number) = rw value (plus_fits (counted_of c.args.line.now c.args.side c.args.row.place c.args.row.sum.now) c.args.number c.counted-counted.ensures.small c.requires.number) in
          let is : to_z w64 c.match-side.reduced-bits ≡ c.counted-counted.result +ℤ c.args.number = simp to_z-of_z at w.reduced-is in
          fits_test c.from.result (reduced_of c.args.line.now c.args.side c.args.row.place c.args.row.sum.now c.args.number)
          (size ∙ ap unsigned_abs (is ∙ ap (λ (z : ℤ). z +ℤ c.args.number) value ∙ sym (reduced_over c.args.line.now c.args.side c.args.row.place c.args.row.sum.now c.args.number w.in-Over.is)))
    ]
