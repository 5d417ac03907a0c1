use Rattle.std.proofs.Common.{◌≡◌, ◌++◌, ◌∷◌, [], length-append, pos, SFits, arith, ◌∙◌}
use Rattle.std.specs.Int.{w64, w128}
use Rattle.std.proofs.lemmas.List.{get_or_default}
use Rattle.std.proofs.lemmas.Int.{to_z-of_z, fits_signed_from_abs}
use Rattle.constraint_compile.specs.Coefficients.Sums.{attr_at, number_at, with_share_number}
use Rattle.constraint_compile.proofs.Lists.{each_pushed}
use Rattle.constraint_compile.proofs.line.sums.widened.Goals as goal

pub loop-place-preserved : goal.loop-place-preserved
loop-place-preserved c =
    let made : SFits w128 c.with_more-more.result = record { sfits = c.with_more-more.type_inv } in
    let items : c.push.new.self.items ≡ c.loop-place.wide.items ++ c.with_more-more.result ∷ [] = simp to_z-of_z at c.in_ok-push.ensures.items in
    let index : c.index.result.now ≡ number_at c.args.sum.now.numbers.items c.loop-place.place = c.index.ensures ∙ get_or_default c.args.sum.now.numbers.items c.loop-place.place c.index.result.now (pos 0) (omega (arith, c.requires.kept.long)) in
    let small = c.requires.kept.small c.loop-place.place (pos 0) (omega (arith, c.requires.kept.long)) in
    let fits : SFits w64 c.index.result.now = rw index (fits_signed_from_abs w64 (number_at c.args.sum.now.numbers.items c.loop-place.place) (omega (arith, small))) in
    let value = rw index at (simp to_z-of_z at c.with_more-more.ensures) in
    rw items (record {
      long = omega (arith, length-append c.loop-place.wide.items (c.with_more-more.result ∷ []), c.loop-place.invariant.long);
      each = each_pushed (λ i. with_share_number (number_at c.args.sum.now.numbers.items i) c.args.sum.now.scale c.args.share.now (attr_at c.args.attrs.now i)) c.loop-place.wide.items c.loop-place.place c.with_more-more.result c.loop-place.invariant.long c.loop-place.invariant.each value;
    })
