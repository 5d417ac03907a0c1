use Rattle.std.proofs.Common.{rules, ◌≡◌, ◌∙◌, ◌*ℤ◌, ◌∷◌, ◌++◌, [], SFits, List, length, sym, subst, ap, inl, inr, refl, unsigned_abs, All, eqb-true}
use Rattle.std.specs.Int.{w64, ◌∣◌}
use Rattle.std.proofs.lemmas.Bool.{eqb-false}
use Rattle.std.proofs.lemmas.Int.{to_z-of_z}
use Rattle.cert_core.specs.declared.by.By.{By}
use Rattle.cert_core.specs.Claims.{BestLevel, IsLevel}
use Rattle.certificates.specs.Reading.{IsPushed}
use Rattle.certificates.proofs.CornerLevels.{Divided, level_kept, needless, no_items, not_empty, ok_gives, own_level}
use Rattle.certificates.proofs.levels.push_level.Goals as goal

pub returns-then-is_empty : goal.returns-then-is_empty
returns-then-is_empty g c =
    inl (
      refl,
      needless c.args.c.now.problem c.args.c.now.marks c.args.level c.in_ok-by.by.items c.show_corner.ensures.kept c.requires.level c.in_ok-by.ensures.value
          (no_items c.in_ok-by.by.items (sym c.in_ok-by.by.ok.0 ∙ eqb-true c.in_ok-by.by.len 0 (sym c.if-is_empty.ensures))),
    )

pub share-requires-clause-divides : goal.share-requires-clause-divides
share-requires-clause-divides g c =
    let f : SFits w64 c.common_factor-factor.result = search rules in
    let s : SFits w64 c.scale-scale.result = search rules in
    simp (to_z-of_z, f, s) (simp (to_z-of_z, f, s) at c.common_factor-factor.ensures.scale)

pub shares-requires-clause-divides : goal.shares-requires-clause-divides
shares-requires-clause-divides g c =
    let f : SFits w64 c.common_factor-factor.result = search rules in
    simp (to_z-of_z, f) (subst (λ (bys : List By). All (λ b. ◌∣◌ (unsigned_abs c.common_factor-factor.result) (unsigned_abs b.times)) bys) (c.deref.ensures.value ∙ sym c.deref-2.ensures.value) c.common_factor-factor.ensures.by)

pub push-requires-clause-level : goal.push-requires-clause-level
push-requires-clause-level g c =
    let f : SFits w64 c.common_factor-factor.result = search rules in
    let l : SFits w64 c.share.result = search rules in
    let same = simp (to_z-of_z, f) at c.in_ok-shares.ensures.value in
    simp (to_z-of_z, l)
    (subst (λ (bys : List By). IsLevel (record { level = c.args.level; scale = c.share.result; by = bys })) (sym c.deref-3.ensures.value)
    (level_kept c.args.c.now.problem c.args.c.now.marks c.args.level c.in_ok-by.by.items (unsigned_abs c.common_factor-factor.result) c.share.result c.in_ok-shares.field-0.items c.show_corner.ensures.kept c.requires.level c.in_ok-by.ensures.value
    (same ∙ c.deref-2.ensures.value) c.share.ensures.fits c.in_ok-shares.ensures.fits))

pub returns : goal.returns
returns g c =
    let f : SFits w64 c.common_factor-factor.result = search rules in
    let l : SFits w64 c.share.result = search rules in
    let s : SFits w64 c.scale-scale.result = search rules in
    let low : c.common_factor-factor.result *ℤ c.share.result ≡ c.scale-scale.result = simp (to_z-of_z, f, l, s) at c.share.ensures.value in
    let greatest = simp (to_z-of_z, f, s) at c.common_factor-factor.ensures.greatest in
    let same = simp (to_z-of_z, f) at c.in_ok-shares.ensures.value in
    let done = simp (to_z-of_z, l) at c.push.ensures.done in
    let next : BestLevel = record { level = c.args.level; scale = c.share.result; by = c.in_ok-shares.field-0.items } in
    let divided : Divided c.args.c.now.problem c.args.c.now.marks c.args.level c.in_ok-by.by.items c.scale-scale.result c.common_factor-factor.result c.share.result c.in_ok-shares.field-0.items = record {
      read = c.in_ok-by.ensures.value;
      scale_is = c.scale-scale.ensures.value;
      above = c.common_factor-factor.ensures.above;
      greatest = λ k h each. greatest k h (subst (λ (bys : List By). All (λ b. ◌∣◌ k (unsigned_abs b.times)) bys) (sym c.deref.ensures.value) each);
      low_is = low;
      by_is = same ∙ c.deref-2.ensures.value;
    } in
    ok_gives c.push.result (c.push.new.self ≡ c.args.best.now ++ record { level = c.args.level; scale = c.share.result; by = c.deref-3.result.now } ∷ [])
    (IsPushed c.args.c.now.problem c.args.c.now.marks c.args.level c.args.best.now c.push.new.self)
    (λ e. inr (
      next,
      e ∙ ap (λ (bys : List By). c.args.best.now ++ record { level = c.args.level; scale = c.share.result; by = bys } ∷ []) c.deref-3.ensures.value,
      refl,
      own_level c.args.c.now.problem c.args.c.now.marks c.args.level c.in_ok-by.by.items c.scale-scale.result c.common_factor-factor.result c.share.result c.in_ok-shares.field-0.items c.show_corner.ensures.kept c.requires.level divided,
      not_empty (unsigned_abs c.common_factor-factor.result) c.in_ok-shares.field-0.items c.in_ok-by.by.items (same ∙ c.deref-2.ensures.value) (λ none. eqb-false c.in_ok-by.by.len 0 (sym c.if-is_empty.ensures) (c.in_ok-by.by.ok.0 ∙ ap length none)),
    ))
    done
