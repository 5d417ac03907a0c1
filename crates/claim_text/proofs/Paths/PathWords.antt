-- The words of marks, exchanges and quantities: one at most has them, and where a line has others.
use Rattle.std.proofs.Common.{◌≡◌, ℕ, List, [], ◌∷◌, ◌++◌, length, take, drop, get_or, decimal, Bool, true, false, refl, sym, ap, ap₂, ◌∙◌, arith}
use Rattle.std.specs.Prelude.{codes}
use Rattle.std.proofs.lemmas.List.{append-nil, length-append}
use Rattle.problem_core.specs.declared.parts.RowName.{RowName}
use Rattle.problem_core.specs.declared.parts.Side.{Side}
use Rattle.problem_core.specs.declared.parts.Side.TheVariants.{Under, Over}
use Rattle.problem_core.specs.declared.parts.Mark.{Mark}
use Rattle.problem_core.specs.declared.stops.What.{What}
use Rattle.problem_core.specs.declared.stops.What.TheVariants as what
use Rattle.problem_core.specs.declared.stops.Quantity.{Quantity}
use Rattle.problem_core.specs.declared.stops.Quantity.TheVariants.{Plain, Terms, Rows, Shifts}
use Rattle.problem_core.specs.Corners.{Swap}
use Rattle.claim_writing.specs.Names.{row_word, IsRowName}
use Rattle.claim_writing.specs.PathTexts.{side_word, mark_text, kind_words, swap_words, what_words, quantity_words, unfit_words, IsWhatName, IsCount, IsQuantityName, IsSwapName}
use Rattle.claim_text.specs.declared.claim.path_lines.Part.{Part}
use Rattle.claim_text.specs.declared.claim.path_lines.Part.TheVariants as part
use Rattle.claim_text.specs.Paths.PathForms.{part_word}
use Rattle.problem_reading.proofs.Numerals.Digits.{same_value}
use Rattle.claim_text.proofs.Names.{same_row_word, same_level_word}

-- ---- marks

snoc_same : (xs ys : List ℕ) (a b : ℕ) → xs ++ a ∷ [] ≡ ys ++ b ∷ [] → (xs ≡ ys) × (a ≡ b)
snoc_same [] [] a b e = (refl, ap (λ (ws : List ℕ). get_or ws 0 0) e)
snoc_same [] (y ∷ ys) a b e = absurd (omega (arith, ap length e, length-append ys (b ∷ [])))
snoc_same (x ∷ xs) [] a b e = absurd (omega (arith, ap length e, length-append xs (a ∷ [])))
snoc_same (x ∷ xs) (y ∷ ys) a b e =
    let rest = snoc_same xs ys a b (ap (λ (ws : List ℕ). drop 1 ws) e) in
    (ap₂ (λ (z : ℕ) (zs : List ℕ). z ∷ zs) (ap (λ (ws : List ℕ). get_or ws 0 0) e) rest.0, rest.1)

same_ends : (a b : List ℕ) (s t : Side) → a ++ side_word s ≡ b ++ side_word t → (a ≡ b) × (s ≡ t)
same_ends a b Under Under e = ((snoc_same a b 45 45 e).0, refl)
same_ends a b Over Over e = ((snoc_same a b 43 43 e).0, refl)
same_ends a b Under Over e = absurd (omega (arith, (snoc_same a b 45 43 e).1))
same_ends a b Over Under e = absurd (omega (arith, (snoc_same a b 43 45 e).1))

mark_from : RowName → Side → Mark
mark_from row side = record { row = row; side = side }

pub same_mark : (m n : Mark) → IsRowName m.row → IsRowName n.row → mark_text m ≡ mark_text n → m ≡ n
unfolding mark_from
same_mark m n is_m is_n same =
    let ends = same_ends (row_word m.row) (row_word n.row) m.side n.side same in
    ap₂ mark_from (same_row_word m.row n.row is_m is_n ends.0) ends.1

-- ---- kinds and exchanges

pub same_kind : (a b : Bool) → kind_words a ≡ kind_words b → a ≡ b
same_kind true true e = refl
same_kind false false e = refl
same_kind true false e = absurd (let h : 100 ≡ 112 = ap (λ (ws : List (List ℕ)). get_or (get_or ws 1 []) 0 0) e in omega (arith, h))
same_kind false true e = absurd (let h : 112 ≡ 100 = ap (λ (ws : List (List ℕ)). get_or (get_or ws 1 []) 0 0) e in omega (arith, h))

swap_from : Mark → Mark → Swap
swap_from enter leave = record { enter = enter; leave = leave }

pub same_swap : (s t : Swap) → IsSwapName s → IsSwapName t → swap_words s ≡ swap_words t → s ≡ t
unfolding swap_from
same_swap s t is_s is_t e =
    ap₂ swap_from (same_mark s.enter t.enter is_s.enter is_t.enter (ap (λ (ws : List (List ℕ)). get_or ws 1 []) e))
    (same_mark s.leave t.leave is_s.leave is_t.leave (ap (λ (ws : List (List ℕ)). get_or ws 2 []) e))

-- ---- what is named

first_of : List (List ℕ) → ℕ
first_of ws = get_or (get_or ws 0 []) 0 0

second : List (List ℕ) → List ℕ
second ws = get_or ws 1 []

pub same_what : (v w : What) → IsWhatName v → IsWhatName w → what_words v ≡ what_words w → v ≡ w
unfolding first_of second
same_what (what.Attr a) (what.Attr b) is_v is_w e = ap what.Attr (same_value a b (omega (arith, is_v.1)) (omega (arith, is_w.1)) (ap second e))
same_what (what.Attr a) (what.Mark n) is_v is_w e = absurd (let h : 97 ≡ 109 = ap first_of e in omega (arith, h))
same_what (what.Attr a) (what.Level l) is_v is_w e = absurd (let h : 97 ≡ 108 = ap first_of e in omega (arith, h))
same_what (what.Mark m) (what.Attr b) is_v is_w e = absurd (let h : 109 ≡ 97 = ap first_of e in omega (arith, h))
same_what (what.Mark m) (what.Mark n) is_v is_w e = ap what.Mark (same_mark m n is_v is_w (ap second e))
same_what (what.Mark m) (what.Level l) is_v is_w e = absurd (let h : 109 ≡ 108 = ap first_of e in omega (arith, h))
same_what (what.Level k) (what.Attr b) is_v is_w e = absurd (let h : 108 ≡ 97 = ap first_of e in omega (arith, h))
same_what (what.Level k) (what.Mark n) is_v is_w e = absurd (let h : 108 ≡ 109 = ap first_of e in omega (arith, h))
same_what (what.Level k) (what.Level l) is_v is_w e = ap what.Level (same_level_word k l is_v is_w (ap second e))

pub what_front : (w : What) (ws : List (List ℕ)) → take 2 (what_words w ++ ws) ≡ what_words w
what_front (what.Attr a) ws = refl
what_front (what.Mark m) ws = refl
what_front (what.Level l) ws = refl

pub what_back : (w : What) (ws : List (List ℕ)) → drop 2 (what_words w ++ ws) ≡ ws
what_back (what.Attr a) ws = refl
what_back (what.Mark m) ws = refl
what_back (what.Level l) ws = refl

-- ---- quantities: what is named, and the words behind

pub named : Quantity → What
named (Plain w) = w
named (Terms m j) = what.Mark m
named (Rows l j) = what.Level l
named (Shifts w j) = w

pub behind : Quantity → List (List ℕ)
behind (Plain w) = []
behind (Terms m j) = codes "terms" ∷ decimal j ∷ []
behind (Rows l j) = codes "rows" ∷ decimal j ∷ []
behind (Shifts w j) = codes "shifts" ∷ decimal j ∷ []

pub in_two : (q : Quantity) → quantity_words q ≡ what_words (named q) ++ behind q
unfolding named behind
in_two (Plain w) = sym (append-nil (what_words w))
in_two (Terms m j) = refl
in_two (Rows l j) = refl
in_two (Shifts w j) = refl

pub named_is : (q : Quantity) → IsQuantityName q → IsWhatName (named q)
unfolding named
named_is (Plain w) is = is
named_is (Terms m j) is = is.0
named_is (Rows l j) is = is.0
named_is (Shifts w j) is = is.0

-- words that begin with what is named
pub two_parts : (q : Quantity) (w : What) (ws : List (List ℕ)) → what_words w ++ ws ≡ quantity_words q → (what_words w ≡ what_words (named q)) × (ws ≡ behind q)
two_parts q w ws e =
    let same : what_words w ++ ws ≡ what_words (named q) ++ behind q = e ∙ in_two q in (
      sym (what_front w ws) ∙ (ap (λ (xs : List (List ℕ)). take 2 xs) same ∙ what_front (named q) (behind q)),
      sym (what_back w ws) ∙ (ap (λ (xs : List (List ℕ)). drop 2 xs) same ∙ what_back (named q) (behind q)),
    )

same_behind : (q r : Quantity) → IsQuantityName q → IsQuantityName r → named q ≡ named r → behind q ≡ behind r → q ≡ r
unfolding named behind first_of second
same_behind (Plain v) (Plain w) is_q is_r n e = ap Plain n
same_behind (Plain v) (Terms m j) is_q is_r n e = absurd (omega (arith, ap length e))
same_behind (Plain v) (Rows l j) is_q is_r n e = absurd (omega (arith, ap length e))
same_behind (Plain v) (Shifts w j) is_q is_r n e = absurd (omega (arith, ap length e))
same_behind (Terms m j) (Plain w) is_q is_r n e = absurd (omega (arith, ap length e))
same_behind (Terms m j) (Terms k i) is_q is_r n e = let marks : m ≡ k = cc in ap₂ Terms marks (same_value j i (omega (arith, is_q.1.1)) (omega (arith, is_r.1.1)) (ap second e))
same_behind (Terms m j) (Rows l i) is_q is_r n e = absurd (let h : 116 ≡ 114 = ap first_of e in omega (arith, h))
same_behind (Terms m j) (Shifts w i) is_q is_r n e = absurd (let h : 116 ≡ 115 = ap first_of e in omega (arith, h))
same_behind (Rows l j) (Plain w) is_q is_r n e = absurd (omega (arith, ap length e))
same_behind (Rows l j) (Terms k i) is_q is_r n e = absurd (let h : 114 ≡ 116 = ap first_of e in omega (arith, h))
same_behind (Rows l j) (Rows k i) is_q is_r n e = let levels : l ≡ k = cc in ap₂ Rows levels (same_value j i (omega (arith, is_q.1.1)) (omega (arith, is_r.1.1)) (ap second e))
same_behind (Rows l j) (Shifts w i) is_q is_r n e = absurd (let h : 114 ≡ 115 = ap first_of e in omega (arith, h))
same_behind (Shifts v j) (Plain w) is_q is_r n e = absurd (omega (arith, ap length e))
same_behind (Shifts v j) (Terms k i) is_q is_r n e = absurd (let h : 115 ≡ 116 = ap first_of e in omega (arith, h))
same_behind (Shifts v j) (Rows k i) is_q is_r n e = absurd (let h : 115 ≡ 114 = ap first_of e in omega (arith, h))
same_behind (Shifts v j) (Shifts w i) is_q is_r n e = ap₂ Shifts n (same_value j i (omega (arith, is_q.1.1)) (omega (arith, is_r.1.1)) (ap second e))

pub same_quantity : (q r : Quantity) → IsQuantityName q → IsQuantityName r → quantity_words q ≡ quantity_words r → q ≡ r
same_quantity q r is_q is_r e =
    let parts = two_parts r (named q) (behind q) (sym (in_two q) ∙ e) in
    same_behind q r is_q is_r (same_what (named q) (named r) (named_is q is_q) (named_is r is_r) parts.0) parts.1

pub same_unfit : (q r : Quantity) → IsQuantityName q → IsQuantityName r → unfit_words q ≡ unfit_words r → q ≡ r
same_unfit q r is_q is_r e = same_quantity q r is_q is_r (ap (λ (ws : List (List ℕ)). drop 1 ws) e)

-- ---- lines of other words

-- what two words don't name no quantity is of
pub no_what : (q : Quantity) (kind name : List ℕ) (rest : List (List ℕ)) → IsQuantityName q → kind ∷ name ∷ rest ≡ quantity_words q
    → ((w : What) → IsWhatName w → kind ∷ name ∷ [] ≡ what_words w → ⊥) → ⊥
no_what q kind name rest is e none =
    none (named q) (named_is q is) (ap (λ (ws : List (List ℕ)). take 2 ws) (e ∙ in_two q) ∙ what_front (named q) (behind q))

mark_named : (w : What) (m : Mark) → what_words w ≡ what_words (what.Mark m) → ((k : Mark) → w ≡ what.Mark k → ⊥) → ⊥
unfolding first_of
mark_named (what.Attr a) m e none = let h : 97 ≡ 109 = ap first_of e in omega (arith, h)
mark_named (what.Mark k) m e none = none k refl
mark_named (what.Level l) m e none = let h : 108 ≡ 109 = ap first_of e in omega (arith, h)

terms_at : (q : Quantity) (w : What) (n : List ℕ) → what_words w ≡ what_words (named q) → codes "terms" ∷ n ∷ [] ≡ behind q → ((m : Mark) → w ≡ what.Mark m → ⊥) → ⊥
unfolding named behind first_of
terms_at (Plain v) w n front back none = omega (arith, ap length back)
terms_at (Terms m j) w n front back none = mark_named w m front none
terms_at (Rows l j) w n front back none = let h : 116 ≡ 114 = ap first_of back in omega (arith, h)
terms_at (Shifts v j) w n front back none = let h : 116 ≡ 115 = ap first_of back in omega (arith, h)

-- terms are of marks
pub no_terms : (q : Quantity) (w : What) (n : List ℕ) → what_words w ++ codes "terms" ∷ n ∷ [] ≡ quantity_words q → ((m : Mark) → w ≡ what.Mark m → ⊥) → ⊥
no_terms q w n e none = let parts = two_parts q w (codes "terms" ∷ n ∷ []) e in terms_at q w n parts.0 parts.1 none

pub counted : (q : Quantity) (part : List ℕ) (more : List (List ℕ)) → IsQuantityName q → part ∷ more ≡ behind q → (n : ℕ) × IsCount n × (part ∷ more ≡ part ∷ decimal n ∷ [])
unfolding behind
counted (Plain w) part more is e = absurd (omega (arith, ap length e))
counted (Terms m j) part more is e = (j, is.1, ap (λ (ws : List (List ℕ)). part ∷ drop 1 ws) e)
counted (Rows l j) part more is e = (j, is.1, ap (λ (ws : List (List ℕ)). part ∷ drop 1 ws) e)
counted (Shifts w j) part more is e = (j, is.1, ap (λ (ws : List (List ℕ)). part ∷ drop 1 ws) e)

pub no_leave : (line first rest : List (List ℕ)) (enter : List ℕ) (s : Swap) → line ≡ codes "swap" ∷ first → first ≡ enter ∷ rest → line ≡ swap_words s → rest ≡ mark_text s.leave ∷ []
no_leave line first rest enter s front next same =
    let whole : codes "swap" ∷ enter ∷ rest ≡ swap_words s = ap (λ (ws : List (List ℕ)). codes "swap" ∷ ws) (sym next) ∙ sym front ∙ same in
    ap (λ (ws : List (List ℕ)). drop 2 ws) whole

part_at : (q : Quantity) (part : List ℕ) (more : List (List ℕ)) → part ∷ more ≡ behind q → ((p : Part) → part ≡ part_word p → ⊥) → ⊥
unfolding behind
part_at (Plain w) part more e none = omega (arith, ap length e)
part_at (Terms m j) word more e none = none part.Terms (ap (λ (ws : List (List ℕ)). get_or ws 0 []) e)
part_at (Rows l j) word more e none = none part.Rows (ap (λ (ws : List (List ℕ)). get_or ws 0 []) e)
part_at (Shifts w j) word more e none = none part.Shifts (ap (λ (ws : List (List ℕ)). get_or ws 0 []) e)

-- a quantity is of one of three parts
pub no_part_word : (q : Quantity) (w : What) (part : List ℕ) (words more : List (List ℕ)) → words ≡ part ∷ more → what_words w ++ words ≡ quantity_words q → ((p : Part) → part ≡ part_word p → ⊥) → ⊥
no_part_word q w part words more is e none = part_at q part more (sym is ∙ (two_parts q w words e).1) none
