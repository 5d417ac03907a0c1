use Rattle.std.proofs.Common.{◌≡◌, ◌<◌, ◌∙◌, ap, length, sym, arith}
use Rattle.std.specs.List.{insert}
use Rattle.std.specs.Prelude.{All, slice_get}
use Rattle.std.proofs.lemmas.List.Edits.{length-insert}
use Rattle.version_lists.proofs.SinceLemmas.{get_insert_same}
use Rattle.version_lists.proofs.versions.since.one_of.Goals as goal

pub returns-in-Some-clause-some : goal.returns-in-Some-clause-some
returns-in-Some-clause-some g c =
    λ xs within all.
    let below : All (λ r. r.at < length (insert xs c.args.gone.now.element.at c.args.gone.now.element.value)) c.args.gone.now.earlier.items =
    λ k d inside. omega (arith, all k d inside, length-insert xs c.args.gone.now.element.at c.args.gone.now.element.value within) in
    (rw c.deref.ensures.value at c.in-Some.ensures.some) (insert xs c.args.gone.now.element.at c.args.gone.now.element.value) below

pub returns-then-gone-at-clause-some : goal.returns-then-gone-at-clause-some
returns-then-gone-at-clause-some g c =
    λ xs within all.
    (rw c.deref.ensures.value at c.in_default.ensures.none) (insert xs c.args.gone.now.element.at c.args.gone.now.element.value)
    ∙ ap (λ n. slice_get (insert xs c.args.gone.now.element.at c.args.gone.now.element.value) n) (sym c.if-gone-at.true)
    ∙ get_insert_same xs c.args.gone.now.element.at c.args.gone.now.element.value within
