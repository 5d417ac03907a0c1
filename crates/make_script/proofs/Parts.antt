-- The next line of a part, and the parts one after the other.
use Rattle.std.proofs.Common.{◌≡◌, ℕ, suc, ◌+◌, ◌-◌, ◌<◌, List, ◌++◌, codes, refl, sym, ap, ◌∙◌, arith, append_assoc}
use Rattle.make_script.specs.declared.part.Part.{Part}
use Rattle.make_script.specs.declared.part.Part.TheVariants.{Views, Sizes, Stacks, Widths, Suggestions}
use Rattle.make_script.specs.Script.{line_of, state_after, part_of, after, sized, stacked, widened, script}

-- where one is left, the number of those left is one more than that of those after it
one_more : (end i : ℕ) → i < end → end - i ≡ suc (end - (i + 1))
one_more end i h = omega (arith, h)

pub text_more : (part : Part) (end i s : ℕ) (whole now new : List ℕ) → i < end → now ++ part_of part (end - i) i s ≡ whole → new ≡ now ++ line_of part i s
    → new ++ part_of part (end - (i + 1)) (i + 1) (state_after part s) ≡ whole
text_more part end i s whole now new h now_is new_is =
    ap (λ (front : List ℕ). front ++ part_of part (end - (i + 1)) (i + 1) (state_after part s)) new_is
    ∙ append_assoc now (line_of part i s) (part_of part (end - (i + 1)) (i + 1) (state_after part s))
    ∙ ap (λ (n : ℕ). now ++ part_of part n i s) (sym (one_more end i h)) ∙ now_is

pub state_more : (part : Part) (end i s last : ℕ) → i < end → after part (end - i) s ≡ last → after part (end - (i + 1)) (state_after part s) ≡ last
state_more part end i s last h is = ap (λ (n : ℕ). after part n s) (sym (one_more end i h)) ∙ is

-- from right to left, so that the pieces nest to the right
join : (old now new a b : List ℕ) → now ≡ old ++ a → new ≡ now ++ b → new ≡ old ++ (a ++ b)
join old now new a b now_is new_is =
    new_is ∙ ap (λ (front : List ℕ). front ++ b) now_is ∙ append_assoc old a b

-- the same part by another name of its count and state
same_part : (part : Part) (n m i s u : ℕ) (old new : List ℕ) → n ≡ m → s ≡ u → new ≡ old ++ part_of part n i s → new ≡ old ++ part_of part m i u
same_part part n m i s u old new n_is s_is is =
    is ∙ ap (λ (k : ℕ). old ++ part_of part k i s) n_is ∙ ap (λ (k : ℕ). old ++ part_of part m i k) s_is

same_after : (part : Part) (n m s u end : ℕ) → n ≡ m → s ≡ u → end ≡ after part n s → end ≡ after part m u
same_after part n m s u end n_is s_is is = is ∙ ap (λ (k : ℕ). after part k s) n_is ∙ ap (λ (k : ℕ). after part m k) s_is

pub script_is : (seed views others x y z : ℕ) (old t1 t2 t3 t4 t5 t6 t7 t8 : List ℕ) → others ≡ views - 1
    → x ≡ after Sizes views seed → y ≡ after Stacks others x → z ≡ after Widths others y
    → t1 ≡ old ++ codes "window 1000 1000\n" → t2 ≡ t1 ++ part_of Views views 1 seed → t3 ≡ t2 ++ part_of Sizes views 1 seed
    → t4 ≡ t3 ++ part_of Stacks others 2 x → t5 ≡ t4 ++ part_of Widths others 2 y → t6 ≡ t5 ++ codes "window 800 600\n"
    → t7 ≡ t6 ++ part_of Suggestions views 1 z → t8 ≡ t7 ++ codes "undo\n" → t8 ≡ old ++ script seed views
unfolding script
script_is seed views others x y z old t1 t2 t3 t4 t5 t6 t7 t8 o x_is y_is z_is e1 e2 e3 e4 e5 e6 e7 e8 =
    let y_at : y ≡ stacked seed views = same_after Stacks others (views - 1) x (sized seed views) y o x_is y_is in
    let z_at : z ≡ widened seed views = same_after Widths others (views - 1) y (stacked seed views) z o y_at z_is in
    let s4 : t4 ≡ t3 ++ part_of Stacks (views - 1) 2 (sized seed views) = same_part Stacks others (views - 1) 2 x (sized seed views) t3 t4 o x_is e4 in
    let s5 : t5 ≡ t4 ++ part_of Widths (views - 1) 2 (stacked seed views) = same_part Widths others (views - 1) 2 y (stacked seed views) t4 t5 o y_at e5 in
    let s7 : t7 ≡ t6 ++ part_of Suggestions views 1 (widened seed views) = same_part Suggestions views views 1 z (widened seed views) t6 t7 refl z_at e7 in
    join old t1 t8 _ _ e1 (join t1 t2 t8 _ _ e2 (join t2 t3 t8 _ _ e3 (join t3 t4 t8 _ _ s4 (join t4 t5 t8 _ _ s5
    (join t5 t6 t8 _ _ e6 (join t6 t7 t8 _ _ s7 e8))))))
