use Rattle.std.proofs.Common.{◌≡◌, ◌<◌, ◌^◌, zero, suc, List, [], ◌∷◌, Option, Some, None, IfSome, All, find, cond, Bool, true, false, arith}
use Rattle.std.specs.Option.{option_map}
use Rattle.std.specs.Str.{bytes_eq}
use Rattle.view_tree.specs.Views.{LiveView, view_named, IsTree}
use Rattle.view_tree.specs.declared.view.ViewId.{ViewId}
use Rattle.compile_parts.proofs.shares.id_named.Goals as goal

within : (o : Option ViewId) (w : Option LiveView) → option_map (λ id. id.0) o ≡ option_map (λ v. v.id) w → IfSome w (λ v. v.id < 2 ^ 29) → IfSome o (λ id. id.0 < 2 ^ 29)
within None w same small = tt
within (Some id) (Some v) same small = let e : id.0 ≡ v.id = cc in rw e small
within (Some id) None same small = absurd cc

picked : (b : Bool) (x : LiveView) (o : Option LiveView) → x.id < 2 ^ 29 → IfSome o (λ v. v.id < 2 ^ 29) → IfSome (cond b (Some x) o) (λ v. v.id < 2 ^ 29)
picked true x o here rest = here
picked false x o here rest = rest

found : (test : LiveView → Bool) (views : List LiveView) → All (λ v. v.id < 2 ^ 29) views → IfSome (find test views) (λ v. v.id < 2 ^ 29)
found test [] all = tt
found test (v ∷ views) all = picked (test v) v (find test views) (all zero v (omega arith)) (found test views (λ k d h. all (suc k) d (omega (arith, h))))

pub returns-clause-within : goal.returns-clause-within
returns-clause-within c =
    let tree : IsTree c.args.tree.now = c.len-count.ensures.tree in
    within c.find.result (view_named c.args.tree.now.views c.args.name.now) c.find.ensures
    (found (λ v. bytes_eq c.args.name.now v.name) c.args.tree.now.views (λ k d h. omega (arith, tree.below k d h, tree.ids)))
