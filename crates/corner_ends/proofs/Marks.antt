-- Marks and lines.
use Rattle.std.proofs.Common.{◌≡◌, ◌∙◌, ℕ, zero, suc, ◌+◌, take, List, [], ◌∷◌, map, refl, sym, ap, subst, arith, All, Contains, slice_get, IfSome, IfNone}
use Rattle.std.specs.declared.option.Option.{Option}
use Rattle.std.specs.Prelude.{Some, None}
use Rattle.std.specs.List.{AllByRecursion as Each}
use Rattle.std.proofs.lemmas.List.Elements.{recursion_from_All, All-from_recursion}
use Rattle.problem_core.specs.declared.parts.Mark.{Mark}
use Rattle.problem_core.specs.declared.parts.Side.{Side}
use Rattle.problem_core.specs.declared.parts.Side.TheVariants.{Under, Over}
use Rattle.problem_core.specs.declared.parts.RowName.{RowName}
use Rattle.problem_core.specs.declared.parts.RowName.TheVariants.{Held, Stay as StayOf}
use Rattle.problem_core.specs.Layout.{Problem, lines}
use Rattle.problem_core.specs.Corners.{HasNegativeColumn, IsIn, marks_of, place, place_of}
use Rattle.corner_laws.proofs.WrittenValues.{contains_each}
use Rattle.corner_view.specs.Seen.{HasNoNegative, IsKeptCorner, IsMarkOf, IsNamed}
use Rattle.corner_view.proofs.Facts.{named_in as named_mark}

pub mark_is : (p : Problem) (m : Mark) (name : RowName) (side : Side) → m ≡ record { row = name; side = side } → IsNamed p name → IsMarkOf p m
mark_is p m name side e named = subst (IsMarkOf p) (sym e) (named_mark p name side named)

-- an inside mark is one of the problem
pub in_mark : (p : Problem) (at : List Mark) (m : Mark) → IsKeptCorner p at → IsIn (place m) at → IsMarkOf p m
in_mark p at m kept i = contains_each (λ c. Contains (map place (marks_of (lines p))) c) at (place m) (recursion_from_All (λ n. Contains (map place (marks_of (lines p))) (place n)) at kept.corner.marks) i

-- what is got from a list is one of its items
pub got_holds : {X : Type 0} (P : X → Type 0) (xs : List X) (i : ℕ) (x : X) → All P xs → slice_get xs i ≡ Some x → P x
got_holds P [] i x h e = absurd (let none : None ≡ Some x = e in cc)
got_holds P (y ∷ xs) zero x h e = let same : y ≡ x = (let g : Some y ≡ Some x = e in cc) in subst P same ((recursion_from_All P (y ∷ xs) h).0)
got_holds P (y ∷ xs) (suc i) x h e = got_holds P xs i x (All-from_recursion P xs (recursion_from_All P (y ∷ xs) h).1) e

pub same_got : {X : Type 0} (o : Option X) (x y : X) → o ≡ Some x → o ≡ Some y → x ≡ y
same_got o x y e f = let g : Some x ≡ Some y = sym e ∙ f in cc

pub contained : {X : Type 0} (P : X → Type 0) (xs : List X) (x : X) → All P xs → Contains xs x → P x
contained P xs x h (k, within, is) = subst P is (h k x within)

pub no_negative : (p : Problem) (at : List Mark) (name : RowName) (under over : Mark) → under ≡ record { row = name; side = Under } → over ≡ record { row = name; side = Over } → (HasNegativeColumn p at under → ⊥) → (HasNegativeColumn p at over → ⊥) → HasNoNegative p at name
no_negative p at name under over e f a b Under h = a (subst (HasNegativeColumn p at) (sym e) h)
no_negative p at name under over e f a b Over h = b (subst (HasNegativeColumn p at) (sym f) h)

-- marks with one column are one
one-mark : (a b : RowName) (s t : Side) → place_of b t ≡ place_of a s → (a ≡ b) × (s ≡ t)
one-mark (Held a) (Held b) Under Under e = (ap (λ (n : ℕ). Held n) (omega (arith, e)), refl)
one-mark (Held a) (Held b) Over Over e = (ap (λ (n : ℕ). Held n) (omega (arith, e)), refl)
one-mark (StayOf a) (StayOf b) Under Under e = (ap (λ (n : ℕ). StayOf n) (omega (arith, e)), refl)
one-mark (StayOf a) (StayOf b) Over Over e = (ap (λ (n : ℕ). StayOf n) (omega (arith, e)), refl)
one-mark (Held a) (Held b) Under Over e = absurd (omega (arith, e))
one-mark (Held a) (Held b) Over Under e = absurd (omega (arith, e))
one-mark (StayOf a) (StayOf b) Under Over e = absurd (omega (arith, e))
one-mark (StayOf a) (StayOf b) Over Under e = absurd (omega (arith, e))
one-mark (Held a) (StayOf b) Under Under e = absurd (omega (arith, e))
one-mark (Held a) (StayOf b) Under Over e = absurd (omega (arith, e))
one-mark (Held a) (StayOf b) Over Under e = absurd (omega (arith, e))
one-mark (Held a) (StayOf b) Over Over e = absurd (omega (arith, e))
one-mark (StayOf a) (Held b) Under Under e = absurd (omega (arith, e))
one-mark (StayOf a) (Held b) Under Over e = absurd (omega (arith, e))
one-mark (StayOf a) (Held b) Over Under e = absurd (omega (arith, e))
one-mark (StayOf a) (Held b) Over Over e = absurd (omega (arith, e))

pub one_mark : (m f : Mark) → place f ≡ place m → m ≡ f
one_mark m f e =
    let same = one-mark m.row f.row m.side f.side e in
    let row = same.0 in
    let side = same.1 in
    ap (λ (a : RowName). record { row = a; side = m.side }) row ∙ ap (λ (t : Side). record { row = f.row; side = t }) side

-- ---- what is found

pub none_maps : {X : Type 0} (o : Option X) (A B : Type 0) → (A → B) → IfNone o A → IfNone o B
none_maps None A B f h = f h
none_maps (Some x) A B f h = h

pub some_maps : {X : Type 0} (o : Option X) (P Q : X → Type 0) → ((x : X) → P x → Q x) → IfSome o P → IfSome o Q
some_maps None P Q f h = h
some_maps (Some x) P Q f h = f x h

pub none_more : {X : Type 0} (r f : Option X) (A B C : Type 0) → (A → B → C) → IfNone r ((f ≡ None) × A) → IfNone f B → IfNone r C
none_more (Some x) f A B C both h g = h
none_more None f A B C both h g = both h.1 (subst (λ (o : Option _). IfNone o B) h.0 g)

pub none_here : {X : Type 0} (o p : Option X) (A B : Type 0) → IfNone o A → o ≡ None → A
none_here None p A B h e = h
none_here (Some x) p A B h e = absurd (let g : Some x ≡ None = e in cc)

pub none_follows : {X Y : Type 0} (r : Option X) (f : Option Y) (A B : Type 0) → (r ≡ None → f ≡ None) → IfNone f A → (A → B) → IfNone r B
none_follows None f A B same h g = g (none_here f f A B h (same refl))
none_follows (Some x) f A B same h g = tt

pub some_here : {X : Type 0} (o : Option X) (P : X → Type 0) (x : X) → IfSome o P → o ≡ Some x → P x
some_here o P x h e = subst (λ (q : Option _). IfSome q P) e h

-- ---- the first items of a list

took_each : {X : Type 0} (P : X → Type 0) (xs : List X) (i : ℕ) (x : X) → Each P (take i xs) → slice_get xs i ≡ Some x → P x → Each P (take (suc i) xs)
took_each P [] i x h e p = absurd (let none : None ≡ Some x = e in cc)
took_each P (y ∷ xs) zero x h e p = let g : Some y ≡ Some x = e in let same : y ≡ x = cc in (subst P (sym same) p, tt)
took_each P (y ∷ xs) (suc i) x h e p = (h.0, took_each P xs i x h.1 e p)

pub took_more : {X : Type 0} (P : X → Type 0) (xs : List X) (i : ℕ) (x : X) → All P (take i xs) → slice_get xs i ≡ Some x → P x → All P (take (i + 1) xs)
took_more P xs i x h e p =
    let n : suc i ≡ i + 1 = omega arith in
    subst (λ (k : ℕ). All P (take k xs)) n (All-from_recursion P (take (suc i) xs) (took_each P xs i x (recursion_from_All P (take i xs) h) e p))
