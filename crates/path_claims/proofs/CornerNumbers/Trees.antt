-- Trees over the lines of a corner.
use Rattle.std.proofs.Common.{◌≡◌, ◌≢◌, ◌∙◌, ◌↔◌, ◌⊎◌, ℕ, zero, suc, ◌+◌, ◌*◌, ◌-◌, ◌/◌, ◌%◌, ◌<◌, ◌≤◌, List, set, get_or, length, refl, sym, ap, ap₂, subst, arith, inl, inr, Option, None, Some, length-set, get_or-set_same, get_or-set_other, ext_get_or}
use Rattle.std.specs.BTreeMap.{BTreeMap, get}
use Rattle.std.proofs.Math.Nat.{div-add-mod}
use Rattle.std.proofs.lemmas.Bool.{cases_eq, cases_lt}
use Rattle.std.proofs.lemmas.Option.{same_Some}
use Rattle.problem_core.specs.declared.parts.Side.{Side}
use Rattle.problem_core.specs.declared.parts.Side.TheVariants.{Under, Over}
use Rattle.path_lines.specs.Numbering.{AreNodes, AreNumbered, Extends, HasNumber, IsNode, IsTree, entry, number_of, pair_cmp}

-- ---- halves

half_parts : (n : ℕ) → (2 * (n / 2) ≡ n) ⊎ (2 * (n / 2) + 1 ≡ n)
half_parts n =
    let parts : 2 * (n / 2) + n % 2 ≡ n = div-add-mod n 2 in
    let rest : n % 2 < 2 = omega arith in
    elim (cases_eq (n % 2) 0) [
      | inl e ↦ inl (omega (arith, parts, e))
      | inr ne ↦ inr (omega (arith, parts, rest, ne))
    ]

half_even : (n j : ℕ) → 2 * j ≡ n → n / 2 ≡ j
half_even n j e =
    elim (half_parts n) [
      | inl h ↦ omega (arith, h, e)
      | inr h ↦ absurd (omega (arith, h, e))
    ]

half_odd : (n j : ℕ) → 2 * j + 1 ≡ n → n / 2 ≡ j
half_odd n j e =
    elim (half_parts n) [
      | inl h ↦ absurd (omega (arith, h, e))
      | inr h ↦ omega (arith, h, e)
    ]

-- ---- one node

pub stays_node : (m n : BTreeMap (ℕ × ℕ) ℕ) (nodes : List ℕ) (at number node : ℕ) → Extends m n → node ≢ at → 2 * node ≢ at → 2 * node + 1 ≢ at → IsNode m nodes node → IsNode n (set nodes at number) node
stays_node m n nodes at number node more own left right is =
    ap₂ (λ (x y : ℕ). get pair_cmp n (x, y)) (get_or-set_other nodes at (2 * node) number 0 left) (get_or-set_other nodes at (2 * node + 1) number 0 right)
    ∙ more (entry nodes (2 * node), entry nodes (2 * node + 1)) (entry nodes node) is
    ∙ ap (λ (x : ℕ). Some x) (sym (get_or-set_other nodes at node number 0 own))

pub new_node : (n : BTreeMap (ℕ × ℕ) ℕ) (nodes : List ℕ) (node number : ℕ) → 0 < node → 2 * node + 1 < length nodes → HasNumber n (entry nodes (2 * node), entry nodes (2 * node + 1)) number → IsNode n (set nodes node number) node
new_node n nodes node number above within has =
    ap₂ (λ (x y : ℕ). get pair_cmp n (x, y)) (get_or-set_other nodes node (2 * node) number 0 (omega (arith, above))) (get_or-set_other nodes node (2 * node + 1) number 0 (omega (arith, above)))
    ∙ has ∙ ap (λ (x : ℕ). Some x) (sym (get_or-set_same nodes node number 0 (omega (arith, within))))

pub set_own : (nodes : List ℕ) (node number : ℕ) → node < length nodes → set nodes node number ≡ set nodes node (entry (set nodes node number) node)
set_own nodes node number within = ap (λ (x : ℕ). set nodes node x) (sym (get_or-set_same nodes node number 0 within))

-- ---- another mark at a line

-- so many steps up
abbrev up : ℕ → ℕ → ℕ
up zero node = node
up (suc d) node = up d (node / 2)

-- it is the node or one above it
abbrev IsAbove : ℕ → ℕ → Type 0
IsAbove node j = (d : ℕ) × (up d node ≡ j)

up_zero : (d : ℕ) → up d 0 ≡ 0
up_zero zero = refl
up_zero (suc d) = ap (λ (n : ℕ). up d n) (half_even 0 0 refl) ∙ up_zero d

above_next : (node j : ℕ) → j ≢ node → IsAbove node j → IsAbove (node / 2) j
above_next node j ne (zero, e) = absurd (ne (sym e))
above_next node j ne (suc d, e) = (d, e)

-- the leaves with the mark put in
abbrev pub AreLeavesWith : (count k : ℕ) → Option Side → (old new : List ℕ) → Type 0
AreLeavesWith count k side old new = (entry new (count + k) ≡ number_of side) × ((j : ℕ) → count ≤ j → j ≢ count + k → entry new j ≡ entry old j)

-- all inner nodes are as they should be but this one and those above it, if all were
abbrev pub AreButAbove : (count node : ℕ) → BTreeMap (ℕ × ℕ) ℕ → List ℕ → BTreeMap (ℕ × ℕ) ℕ → List ℕ → Type 0
AreButAbove count node m old n new = ((j : ℕ) → 1 ≤ j → j < count → IsNode m old j) → (j : ℕ) → 1 ≤ j → j < count → IsNode n new j ⊎ IsAbove node j

pub put_leaves : (nodes : List ℕ) (count k number : ℕ) (side : Option Side) → length nodes ≡ 2 * count → k < count → number ≡ number_of side → AreLeavesWith count k side nodes (set nodes (count + k) number)
put_leaves nodes count k number side long within e = (
  get_or-set_same nodes (count + k) number 0 (omega (arith, long, within)) ∙ e,
  λ j from ne. get_or-set_other nodes (count + k) j number 0 ne,
)

pub put_begins : (m : BTreeMap (ℕ × ℕ) ℕ) (nodes : List ℕ) (count k number : ℕ) → AreButAbove count ((count + k) / 2) m nodes m (set nodes (count + k) number)
put_begins m nodes count k number all j one less =
    elim (cases_eq (2 * j) (count + k)) [
      | inl e ↦ inr (0, half_even (count + k) j e)
      | inr left ↦
          elim (cases_eq (2 * j + 1) (count + k)) [
            | inl e ↦ inr (0, half_odd (count + k) j e)
            | inr right ↦ inl (stays_node m m nodes (count + k) number j (λ pair n has. has) (omega (arith, less)) left right (all j one less))
          ]
    ]

pub put_within : (count k : ℕ) → k < count → (count + k) / 2 < count
put_within count k within =
    elim (half_parts (count + k)) [
      | inl h ↦ omega (arith, h, within)
      | inr h ↦ omega (arith, h, within)
    ]

pub half_less : (node : ℕ) → 0 < node → node / 2 < node
half_less node above =
    elim (half_parts node) [
      | inl h ↦ omega (arith, h, above)
      | inr h ↦ omega (arith, h, above)
    ]

pub leaves_on : (count k node : ℕ) (side : Option Side) (old mid new : List ℕ) → node < count → new ≡ set mid node (entry new node) → AreLeavesWith count k side old mid → AreLeavesWith count k side old new
leaves_on count k node side old mid new within is are = (
  ap (λ (xs : List ℕ). entry xs (count + k)) is ∙ get_or-set_other mid node (count + k) (entry new node) 0 (omega (arith, within)) ∙ are.0,
  λ j from ne. ap (λ (xs : List ℕ). entry xs j) is ∙ get_or-set_other mid node j (entry new node) 0 (omega (arith, within, from)) ∙ are.1 j from ne,
)

pub put_on : (m l n : BTreeMap (ℕ × ℕ) ℕ) (old mid new : List ℕ) (count node : ℕ) → new ≡ set mid node (entry new node) → Extends l n → IsNode n new node → AreButAbove count node m old l mid → AreButAbove count (node / 2) m old n new
put_on m l n old mid new count node is more here before all j one less =
    elim (cases_eq j node) [
      | inl e ↦ inl (subst (IsNode n new) (sym e) here)
      | inr ne ↦
          elim (before all j one less) [
            | inr above ↦ inr (above_next node j ne above)
            | inl was ↦
                elim (cases_eq (2 * j) node) [
                  | inl e ↦ inr (0, half_even node j e)
                  | inr left ↦
                      elim (cases_eq (2 * j + 1) node) [
                        | inl e ↦ inr (0, half_odd node j e)
                        | inr right ↦ inl (subst (λ (xs : List ℕ). IsNode n xs j) (sym is) (stays_node l n mid node (entry new node) j more ne left right was))
                      ]
                ]
          ]
    ]

pub put_tree : (m n : BTreeMap (ℕ × ℕ) ℕ) (old new : List ℕ) (count node k : ℕ) (side : Option Side) (sides : List (Option Side)) → length new ≡ 2 * count → k < count → node ≡ 0 → AreLeavesWith count k side old new → AreButAbove count node m old n new → length sides ≡ count → IsTree m old sides
    → IsTree n new (set sides k side)
put_tree m n old new count node k side sides long within end leaves inner same is =
    let still : length (set sides k side) ≡ count = length-set sides k side ∙ same in
    record {
      count = long ∙ ap (λ (c : ℕ). 2 * c) (sym still);
      leaves = λ j less. ap (λ (c : ℕ). entry new (c + j)) still
          ∙ elim (cases_eq j k) [
            | inl e ↦ subst (λ (i : ℕ). entry new (count + i) ≡ number_of (get_or (set sides k side) i None)) (sym e) (leaves.0 ∙ ap number_of (sym (get_or-set_same sides k side None (omega (arith, within, same)))))
            | inr ne ↦
                leaves.1 (count + j) (omega arith) (omega (arith, ne)) ∙ ap (λ (c : ℕ). entry old (c + j)) (sym same) ∙ is.leaves j (omega (arith, less, still, same))
                ∙ ap number_of (sym (get_or-set_other sides k j side None ne))
          ];
      inner = λ j one less. elim (inner (λ i up_from below. is.inner i up_from (omega (arith, below, same))) j one (omega (arith, less, still))) [
        | inl is_node ↦ is_node
        | inr above ↦ absurd (let e : up above.0 0 ≡ j = ap (λ (x : ℕ). up above.0 x) (sym end) ∙ above.1 in omega (arith, one, e, up_zero above.0))
      ];
    }

-- ---- the first tree

pub build_leaves : (sides : List (Option Side)) (node : ℕ) (old new : List ℕ) → node < length sides → new ≡ set old node (entry new node) → AreNodes old sides → AreNodes new sides
build_leaves sides node old new within is are k less =
    ap (λ (xs : List ℕ). entry xs (length sides + k)) is ∙ get_or-set_other old node (length sides + k) (entry new node) 0 (omega (arith, within)) ∙ are k less

pub build_on : (m n : BTreeMap (ℕ × ℕ) ℕ) (old new : List ℕ) (count node : ℕ) → new ≡ set old node (entry new node) → Extends m n → IsNode n new node → ((j : ℕ) → node + 1 ≤ j → 1 ≤ j → j < count → IsNode m old j)
    → (j : ℕ) → node ≤ j → 1 ≤ j → j < count → IsNode n new j
build_on m n old new count node is more here before j from one less =
    elim (cases_eq j node) [
      | inl e ↦ subst (IsNode n new) (sym e) here
      | inr ne ↦
          subst (λ (xs : List ℕ). IsNode n xs j) (sym is)
          (stays_node m n old node (entry new node) j more ne (omega (arith, from, ne)) (omega (arith, from, ne)) (before j (omega (arith, from, ne)) one less))
    ]

-- ---- what the numbers tell

zero_one : ◌≡◌ {A = ℕ} 0 1 → ⊥
zero_one e = omega (arith, e)

zero_two : ◌≡◌ {A = ℕ} 0 2 → ⊥
zero_two e = omega (arith, e)

one_two : ◌≡◌ {A = ℕ} 1 2 → ⊥
one_two e = omega (arith, e)

same_number : (a b : Option Side) → number_of a ≡ number_of b → a ≡ b
same_number None None e = refl
same_number None (Some Under) e = absurd (zero_one e)
same_number None (Some Over) e = absurd (zero_two e)
same_number (Some Under) None e = absurd (zero_one (sym e))
same_number (Some Over) None e = absurd (zero_two (sym e))
same_number (Some Under) (Some Under) e = refl
same_number (Some Under) (Some Over) e = absurd (one_two e)
same_number (Some Over) (Some Under) e = absurd (one_two (sym e))
same_number (Some Over) (Some Over) e = refl

pair_below : (m : BTreeMap (ℕ × ℕ) ℕ) (xs ys : List ℕ) (h : ℕ) → AreNumbered m → IsNode m xs h → IsNode m ys h → entry xs h ≡ entry ys h → (entry xs (2 * h) ≡ entry ys (2 * h)) × (entry xs (2 * h + 1) ≡ entry ys (2 * h + 1))
pair_below m xs ys h are left right same =
    let both : (entry xs (2 * h), entry xs (2 * h + 1)) ≡ (entry ys (2 * h), entry ys (2 * h + 1)) =
    are.apart (entry xs (2 * h), entry xs (2 * h + 1)) (entry ys (2 * h), entry ys (2 * h + 1)) (entry xs h) left (right ∙ ap (λ (x : ℕ). Some x) (sym same)) in
    (ap (λ (p : ℕ × ℕ). p.0) both, ap (λ (p : ℕ × ℕ). p.1) both)

-- from the root down
same_below : (m : BTreeMap (ℕ × ℕ) ℕ) (xs ys : List ℕ) (count : ℕ) → AreNumbered m → ((j : ℕ) → 1 ≤ j → j < count → IsNode m xs j) → ((j : ℕ) → 1 ≤ j → j < count → IsNode m ys j) → entry xs 1 ≡ entry ys 1
    → (fuel j : ℕ) → j ≤ fuel → 1 ≤ j → j < 2 * count → entry xs j ≡ entry ys j
same_below m xs ys count are left right root zero j most one less = absurd (omega (arith, most, one))
same_below m xs ys count are left right root (suc fuel) j most one less =
    elim (cases_eq j 1) [
      | inl e ↦ subst (λ (i : ℕ). entry xs i ≡ entry ys i) (sym e) root
      | inr ne ↦
          elim (half_parts j) [
            | inl h ↦
                let some : 1 ≤ j / 2 = omega (arith, h, one) in
                let inner : j / 2 < count = omega (arith, h, less) in
                subst (λ (i : ℕ). entry xs i ≡ entry ys i) h
                (pair_below m xs ys (j / 2) are (left (j / 2) some inner) (right (j / 2) some inner) (same_below m xs ys count are left right root fuel (j / 2) (omega (arith, h, most, one)) some (omega (arith, inner)))).0
            | inr h ↦
                let some : 1 ≤ j / 2 = omega (arith, h, one, ne) in
                let inner : j / 2 < count = omega (arith, h, less) in
                subst (λ (i : ℕ). entry xs i ≡ entry ys i) h
                (pair_below m xs ys (j / 2) are (left (j / 2) some inner) (right (j / 2) some inner) (same_below m xs ys count are left right root fuel (j / 2) (omega (arith, h, most, one)) some (omega (arith, inner)))).1
          ]
    ]

-- from the leaves up
same_above : (m : BTreeMap (ℕ × ℕ) ℕ) (xs ys : List ℕ) (count : ℕ) → ((j : ℕ) → 1 ≤ j → j < count → IsNode m xs j) → ((j : ℕ) → 1 ≤ j → j < count → IsNode m ys j) → ((k : ℕ) → k < count → entry xs (count + k) ≡ entry ys (count + k))
    → (fuel j : ℕ) → 2 * count ≤ j + fuel → 1 ≤ j → j < 2 * count → entry xs j ≡ entry ys j
same_above m xs ys count left right leaves zero j enough one less = absurd (omega (arith, enough, less))
same_above m xs ys count left right leaves (suc fuel) j enough one less =
    elim (cases_lt j count) [
      | inl inner ↦
          same_Some (entry xs j) (entry ys j)
          (sym (left j one inner)
          ∙ ap₂ (λ (x y : ℕ). get pair_cmp m (x, y)) (same_above m xs ys count left right leaves fuel (2 * j) (omega (arith, enough, one)) (omega (arith, one)) (omega (arith, inner)))
          (same_above m xs ys count left right leaves fuel (2 * j + 1) (omega (arith, enough, one)) (omega (arith, one)) (omega (arith, inner)))
          ∙ right j one inner)
      | inr outer ↦ leaf (omega (arith, outer))
    ]
  where
    leaf : count ≤ j → entry xs j ≡ entry ys j
    leaf from = let back : count + (j - count) ≡ j = omega (arith, from) in subst (λ (i : ℕ). entry xs i ≡ entry ys i) back (leaves (j - count) (omega (arith, from, less)))

-- the number of a corner by some tree
abbrev pub IsNumbered : BTreeMap (ℕ × ℕ) ℕ → List (Option Side) → ℕ → Type 0
IsNumbered m sides number = (nodes : List ℕ) × IsTree m nodes sides × (entry nodes 1 ≡ number)

pub later_tree : (m n : BTreeMap (ℕ × ℕ) ℕ) (nodes : List ℕ) (sides : List (Option Side)) → Extends m n → IsTree m nodes sides → IsTree n nodes sides
later_tree m n nodes sides more is = record {
  count = is.count;
  leaves = is.leaves;
  inner = λ j one less. more (entry nodes (2 * j), entry nodes (2 * j + 1)) (entry nodes j) (is.inner j one less);
}

pub later : (m n : BTreeMap (ℕ × ℕ) ℕ) (sides : List (Option Side)) (number : ℕ) → Extends m n → IsNumbered m sides number → IsNumbered n sides number
later m n sides number more (nodes, is, root) = (nodes, later_tree m n nodes sides more is, root)

pub tells : (m : BTreeMap (ℕ × ℕ) ℕ) (s t : List (Option Side)) (a b : ℕ) → AreNumbered m → 0 < length s → length s ≡ length t → IsNumbered m s a → IsNumbered m t b → (a ≡ b) ↔ (s ≡ t)
tells m s t a b are some long (xs, left, left_root) (ys, right, right_root) = (
  λ e. ext_get_or None s t long
      (λ k less. same_number (get_or s k None) (get_or t k None)
      (sym (left.leaves k less)
      ∙ same_below m xs ys (length s) are left.inner there (left_root ∙ e ∙ sym right_root) (length s + k) (length s + k) (omega arith) (omega (arith, some)) (omega (arith, less))
      ∙ ap (λ (c : ℕ). entry ys (c + k)) long ∙ right.leaves k (omega (arith, less, long)))),
  λ e. sym left_root
      ∙ same_above m xs ys (length s) left.inner there
      (λ k less. left.leaves k less ∙ ap (λ (z : List (Option Side)). number_of (get_or z k None)) e ∙ sym (right.leaves k (omega (arith, less, long))) ∙ ap (λ (c : ℕ). entry ys (c + k)) (sym long))
      (2 * length s) 1 (omega arith) (omega arith) (omega (arith, some))
      ∙ right_root,
)
  where
    there : (j : ℕ) → 1 ≤ j → j < length s → IsNode m ys j
    there j one less = right.inner j one (omega (arith, less, long))
