use Rattle.std.proofs.Common.{◌≡◌, ◌≢◌, ◌∙◌, ◌*ℤ◌, ◌++◌, [], ◌∷◌, pos, SFits, rules, to_z, of_z}
use Rattle.std.specs.Prelude.{slice_index_or}
use Rattle.std.specs.Int.{w64}
use Rattle.std.proofs.lemmas.Int.{to_z-of_z}
use Rattle.std.proofs.lemmas.List.Elements.{All-push}
use Rattle.frac_core.specs.Fraction.{IsFitting}
use Rattle.path_lines.specs.Numbers.{flip_sign, number_at}
use Rattle.path_lines.proofs.Arithmetic.LowestTerms.{replaced_more}
use Rattle.path_lines.proofs.exchange.with_number.Goals as goal

pub loop-place-preserved : goal.loop-place-preserved
loop-place-preserved c =
    let old : SFits w64 (slice_index_or c.args.numbers.now c.loop-place.place (pos 0)) = search rules in
    let turned_fits : SFits w64 c.turned.result = record { sfits = c.turned.type_inv } in
    let value : c.turned.result ≡ flip_sign c.args.is_turned *ℤ number_at c.args.numbers.now c.loop-place.place = simp to_z-of_z at c.turned.ensures.value in
    let there : c.loop-place.place ≡ c.args.at → c.replaced.result ≡ to_z w64 (of_z w64 c.args.number) = search rules in
    let other : c.loop-place.place ≢ c.args.at → c.replaced.result ≡ c.turned.result = simp to_z-of_z at c.replaced.ensures.other in
    let pushed : c.push.new.self.items ≡ c.loop-place.out.items ++ c.replaced.result ∷ [] = search rules in
    record {
      so_far = rw pushed (replaced_more (flip_sign c.args.is_turned) c.args.numbers.now c.args.at (to_z w64 (of_z w64 c.args.number)) c.loop-place.out.items c.loop-place.place c.replaced.result
          c.loop-place.invariant.so_far there (λ ne. other ne ∙ value));
      fits = rw pushed (All-push IsFitting c.loop-place.out.items c.replaced.result c.loop-place.invariant.fits c.replaced.ensures.fits);
    }
