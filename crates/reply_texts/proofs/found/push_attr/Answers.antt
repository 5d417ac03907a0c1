use Rattle.std.proofs.Common.{◌≡◌, ◌∙◌, ◌++◌, ◌∷◌, List, ℕ, ap, sym, arith}
use Rattle.std.proofs.lemmas.List.{append-nil}
use Rattle.std.proofs.lemmas.Result.{IfOk-weaker}
use Rattle.reply_texts.specs.Found.{attr_name}
use Rattle.reply_texts.proofs.EachView.{view_there}
use Rattle.reply_texts.proofs.AttrNames.{name_found, name_none, name_skip}
use Rattle.reply_texts.proofs.found.push_attr.Goals as goal

pub loop-place-preserved : goal.loop-place-preserved
loop-place-preserved c =
    let views = c.args.tree.now.views in
    let there = view_there views c.loop-place.place (omega (arith, c.loop-place-test.true, c.loop-place.invariant.is_end)) in
    record {
      within = omega (arith, c.loop-place-test.true);
      is_end = c.loop-place.invariant.is_end;
      same = c.loop-place.invariant.same;
      name = name_skip views c.loop-place.place c.args.attr there.0 there.1 (c.in_default.ensures.none there.0 there.1) c.loop-place.invariant.name;
    }

pub returns-in-Some : goal.returns-in-Some
returns-in-Some c =
    let views = c.args.tree.now.views in
    let is = c.in-Some.ensures.some in
    let view : List ℕ = c.in-Some.name.view.now in
    let word : List ℕ = c.in-Some.name.word.now in
    let named : view ++ (46 ∷ word) ≡ attr_name views c.args.attr =
    ap (λ (n : List ℕ). n ++ (46 ∷ word)) is.3
    ∙ sym (c.loop-place.invariant.name ∙ name_found views c.loop-place.place c.args.attr is.0 word is.1 is.2) in
    IfOk-weaker c.push_name.result (λ u. c.push_name.new.out.items ≡ c.loop-place.out.items ++ (view ++ (46 ∷ word)))
    (λ u. c.push_name.new.out.items ≡ c.args.out.now.items ++ attr_name views c.args.attr)
    (λ u appended. appended ∙ ap (λ (before : List ℕ). before ++ (view ++ (46 ∷ word))) c.loop-place.invariant.same ∙ ap (λ (name : List ℕ). c.args.out.now.items ++ name) named)
    c.push_name.ensures

pub returns : goal.returns
returns c =
    let views = c.args.tree.now.views in
    c.loop-place.invariant.same ∙ sym (append-nil c.args.out.now.items)
    ∙ ap (λ (name : List ℕ). c.args.out.now.items ++ name)
    (sym (c.loop-place.invariant.name ∙ name_none views c.loop-place.place c.args.attr (omega (arith, c.loop-place-test.false, c.loop-place.invariant.is_end))))
