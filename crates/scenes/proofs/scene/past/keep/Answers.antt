use Rattle.std.proofs.Common.{◌≡◌, ◌∙◌, ◌∷◌, ◌+◌, ◌-◌, ◌≤◌, ℕ, List, ap, length, subst, take, sym, arith}
use Rattle.std.proofs.lemmas.List.{length-take, take_all}
use Rattle.layout_solver.specs.Layouts.{Solution}
use Rattle.held_items.specs.declared.item.Item as declared
use Rattle.held_items.specs.declared.limits.TheConstants.{EARLIER}
use Rattle.scenes.specs.Kept.{AreAlike}
use Rattle.scenes.specs.declared.scene.past.Past.{Past}
use Rattle.scenes.proofs.scene.past.keep.Goals as goal

alike : (most : ℕ) → most ≤ EARLIER → (items : List (List declared.Item)) (solutions : List Solution) (pasts : List Past) → length items ≡ length pasts → length solutions ≡ length pasts
    → AreAlike most (take most items) (take most solutions) (take most pasts)
alike most few items solutions pasts same_items same_solutions = record {
  items = omega (arith, length-take most items, length-take most pasts, same_items);
  solutions = omega (arith, length-take most solutions, length-take most pasts, same_solutions);
  few = omega (arith, length-take most pasts);
  limit = few;
}

-- the one that is too many is the last
last-less : {A : Type 0} (n most : ℕ) (xs : List A) → n ≡ most + 1 → take (n - 1) xs ≡ take most xs
last-less n most xs is = ap (λ (k : ℕ). take k xs) (let e : n - 1 ≡ most = omega (arith, is) in e)

alike-less : (n most : ℕ) → n ≡ most + 1 → most ≤ EARLIER → (items : List (List declared.Item)) (solutions : List Solution) (pasts : List Past) → length items ≡ length pasts → length solutions ≡ length pasts
    → AreAlike most (take (n - 1) items) (take (n - 1) solutions) (take (n - 1) pasts)
alike-less n most is few items solutions pasts same_items same_solutions =
    let e : n - 1 ≡ most = omega (arith, is) in
    subst (λ (k : ℕ). AreAlike most (take k items) (take k solutions) (take k pasts)) (sym e) (alike most few items solutions pasts same_items same_solutions)

pub returns-then-len-most-clause-alike : goal.returns-then-len-most-clause-alike
returns-then-len-most-clause-alike g c =
    rw (c.forget_oldest.ensures.items, c.forget_oldest.ensures.solutions, c.forget_oldest.ensures.pasts)
    (alike-less (length c.push_front_reserved.new.self.items) c.args.most (omega (arith, c.requires.few, c.if-len-most.true, c.len.ensures, c.push_front_reserved.ensures.len)) c.requires.most c.args.items.now.before c.args.engine.now.earlier c.push_front_reserved.new.self.items (omega (arith, c.requires.items, c.push_front_reserved.ensures.len)) (omega (arith, c.requires.solutions, c.push_front_reserved.ensures.len)))

pub returns-then-len-most-clause-items : goal.returns-then-len-most-clause-items
returns-then-len-most-clause-items g c =
    c.forget_oldest.ensures.items ∙ last-less (length c.push_front_reserved.new.self.items) c.args.most c.args.items.now.before (omega (arith, c.requires.few, c.if-len-most.true, c.len.ensures, c.push_front_reserved.ensures.len))

pub returns-then-len-most-clause-solutions : goal.returns-then-len-most-clause-solutions
returns-then-len-most-clause-solutions g c =
    c.forget_oldest.ensures.solutions ∙ last-less (length c.push_front_reserved.new.self.items) c.args.most c.args.engine.now.earlier (omega (arith, c.requires.few, c.if-len-most.true, c.len.ensures, c.push_front_reserved.ensures.len))

pub returns-then-len-most-clause-pasts : goal.returns-then-len-most-clause-pasts
returns-then-len-most-clause-pasts g c =
    c.forget_oldest.ensures.pasts
    ∙ last-less (length c.push_front_reserved.new.self.items) c.args.most c.push_front_reserved.new.self.items (omega (arith, c.requires.few, c.if-len-most.true, c.len.ensures, c.push_front_reserved.ensures.len))
    ∙ ap (take c.args.most) c.push_front_reserved.ensures.items

pub returns-else-len-most-clause-items : goal.returns-else-len-most-clause-items
returns-else-len-most-clause-items g c =
    sym (take_all c.args.most c.args.items.now.before (omega (arith, c.requires.items, c.if-len-most.false, c.len.ensures, c.push_front_reserved.ensures.len)))

pub returns-else-len-most-clause-solutions : goal.returns-else-len-most-clause-solutions
returns-else-len-most-clause-solutions g c =
    sym (take_all c.args.most c.args.engine.now.earlier (omega (arith, c.requires.solutions, c.if-len-most.false, c.len.ensures, c.push_front_reserved.ensures.len)))

pub returns-else-len-most-clause-pasts : goal.returns-else-len-most-clause-pasts
returns-else-len-most-clause-pasts g c =
    c.push_front_reserved.ensures.items
    ∙ sym (take_all c.args.most (c.args.past ∷ c.args.pasts.now.items) (omega (arith, c.if-len-most.false, c.len.ensures, c.push_front_reserved.ensures.len)))
