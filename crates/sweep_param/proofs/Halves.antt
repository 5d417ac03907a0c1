-- What the slides come to, as halves of a sweep.
use Rattle.std.proofs.Common.{◌≡◌, ◌∙◌, ◌⊎◌, inl, inr, ℕ, Bool, true, false, ◌&&◌, List, [], ◌∷◌, ◌++◌, length, refl, sym, ap, ap₂, subst, arith, append-nil, Option, Some, None, IfSome}
use Rattle.std.specs.List.{AllByRecursion as Each}
use Rattle.std.specs.Option.{option_map}
use Rattle.frac_core.specs.Fraction.{Fraction}
use Rattle.frac_core.proofs.Bools.{true-not-false}
use Rattle.problem_core.specs.Layout.{Problem}
use Rattle.sweep_laws.specs.Stretches.{AreRight, Clash, IsClash, IsLong, IsPieceOf, IsSweep, Piece, Stretch, no_piece_first}
use Rattle.sweep_run.specs.Slides.{led_by, rising}
use Rattle.sweep_param.proofs.Assembled.{ArePieces, IsOne, assembled}
use Rattle.sweep_param.proofs.Covers.{Steps}
use Rattle.sweep_param.proofs.Rights.{both-right}
use Rattle.sweep_param.specs.Joining.{lone_of}
use Rattle.sweep_param.proofs.Rising.{rising-append, rising-each, rising-length}

abbrev Values : Type 0
Values = List (ℕ × Fraction)

abbrev pub at_of : Fraction → Option Values → Option (Fraction × Values)
at_of w values = option_map (λ (v : Values). (w, v)) values

-- a slide's pieces, and its conflict, if there is one; the values reached, with their constant
pub record IsHalf (mid : Fraction) (w : Fraction) (values : Option Values) (pieces clash : List Stretch) : Type 0 where
  pub one : IsOne clash
  pub are : ArePieces pieces
  pub long : IfSome values (λ v. Each IsLong clash)
  pub none : values ≡ None → (pieces ≡ []) × (length clash ≡ 1)
  pub here : pieces ≡ [] → IfSome values (λ v. w ≡ mid)

pub no-piece : ArePieces []
no-piece = record { are = tt; long = tt }

pub no-clash : IsOne []
no-clash = record { few = omega arith; are = tt }

-- ---- the first stretch

clash-first : (clash : List Stretch) → Each IsClash clash → no_piece_first clash ≡ true
clash-first [] h = refl
clash-first (Piece f t ls hs ∷ rest) h = absurd h.0
clash-first (Clash f t by ∷ rest) h = refl

piece-first : (s : Stretch) (rest : List Stretch) → IsPieceOf s → no_piece_first (s ∷ rest) ≡ false
piece-first (Piece f t ls hs) rest h = refl
piece-first (Clash f t by) rest h = absurd h

no-pieces : (pieces clash : List Stretch) → ArePieces pieces → no_piece_first (pieces ++ clash) ≡ true → pieces ≡ []
no-pieces [] clash are e = refl
no-pieces (s ∷ pieces) clash are e = absurd (true-not-false (sym e ∙ piece-first s (pieces ++ clash) are.are.0))

rising-none : (xs : List Stretch) → xs ≡ [] → rising false xs ≡ []
rising-none xs e = ap (rising false) e

none-rising : (xs : List Stretch) → rising false xs ≡ [] → xs ≡ []
none-rising [] e = refl
none-rising (x ∷ xs) e = let a = rising-length (x ∷ xs) in let b : length (rising false (x ∷ xs)) ≡ 0 = ap length e in absurd (omega (arith, a, b))

pub left-none : (xs ys : List Stretch) → xs ++ ys ≡ [] → xs ≡ []
left-none [] ys e = refl
left-none (x ∷ xs) ys e = absurd (let a : length (x ∷ (xs ++ ys)) ≡ 0 = ap length e in omega (arith, a))

pub right-none : (xs ys : List Stretch) → xs ++ ys ≡ [] → ys ≡ []
right-none [] ys e = e
right-none (x ∷ xs) ys e = absurd (let a : length (x ∷ (xs ++ ys)) ≡ 0 = ap length e in omega (arith, a))

both-true : (a b : Bool) → (a && b) ≡ true → (a ≡ true) × (b ≡ true)
both-true true b e = (refl, e)
both-true false b e = absurd (true-not-false (sym e))

rising-one : (clash : List Stretch) → IsOne clash → IsOne (rising false clash)
rising-one clash h = record { few = (let e = rising-length clash in let k = h.few in omega (arith, e, k)); are = rising-each IsClash clash h.are }

rising-pieces : (pieces : List Stretch) → ArePieces pieces → ArePieces (rising false pieces)
rising-pieces pieces h = record { are = rising-each IsPieceOf pieces h.are; long = rising-each IsLong pieces h.long }

-- ---- a slide up alone

module _ (p : Problem) (row : ℕ) (from to w : Fraction) where
  pub up_alone : (values : Option Values) (pieces clash : List Stretch) → IsHalf from w values pieces clash → Steps from to (pieces ++ clash) → AreRight p row true (led_by true w values (pieces ++ clash))
      → IsSweep p row from to (lone_of (no_piece_first (pieces ++ clash)) None (at_of w values) ++ (pieces ++ clash))
  up_alone None [] [] h steps right = absurd (let e = (h.none refl).1 in omega (arith, e))
  up_alone None [] (Piece f t ls hs ∷ rest) h steps right = absurd h.one.are.0
  up_alone None [] (Clash f t by ∷ c ∷ rest) h steps right = absurd (let e = (h.none refl).1 in omega (arith, e))
  up_alone None [] (Clash f t by ∷ []) h steps right =
      assembled p row from from to [] [] [] [] (Clash f t by ∷ []) right
      (record { down = refl; here = refl; up = steps; one_before = no-clash; one_behind = h.one; first_are = no-piece; second_are = no-piece; lone_is = tt; only = inl refl; apart = λ e. inl refl; long = inl refl; some = λ e. cc })
  up_alone None (s ∷ pieces) clash h steps right = absurd (let e : length (s ∷ pieces) ≡ 0 = ap length (h.none refl).0 in omega (arith, e))
  up_alone (Some v) [] [] h steps right =
      assembled p row from from to [] [] (Piece w w v v ∷ []) [] [] right
      (record { down = refl; here = (h.here refl, h.here refl); up = steps; one_before = no-clash; one_behind = no-clash; first_are = no-piece; second_are = no-piece; lone_is = (tt, tt); only = inr (refl, refl, refl); apart = λ e. inl refl; long = inl refl; some = λ e. cc })
  up_alone (Some v) [] (Piece f t ls hs ∷ rest) h steps right = absurd h.one.are.0
  up_alone (Some v) [] (Clash f t by ∷ rest) h steps right =
      assembled p row from from to [] [] (Piece w w v v ∷ []) [] (Clash f t by ∷ rest) right
      (record { down = refl; here = (h.here refl, h.here refl); up = steps; one_before = no-clash; one_behind = h.one; first_are = no-piece; second_are = no-piece; lone_is = (tt, tt); only = inr (refl, refl, refl); apart = λ e. inl refl; long = inr (tt, h.long); some = λ e. cc })
  up_alone (Some v) (Clash f t by ∷ pieces) clash h steps right = absurd h.are.are.0
  up_alone (Some v) (Piece f t ls hs ∷ pieces) clash h steps right =
      assembled p row from from to [] [] [] (Piece f t ls hs ∷ pieces) clash right
      (record { down = refl; here = refl; up = steps; one_before = no-clash; one_behind = h.one; first_are = no-piece; second_are = h.are; lone_is = tt; only = inl refl; apart = λ e. inl refl; long = inr (tt, h.long); some = λ e. cc })

-- ---- a slide down alone

module _ (p : Problem) (row : ℕ) (from to w : Fraction) where
  below : (values : Option Values) (pieces clash lone : List Stretch) → IsHalf to w values pieces clash → Steps from to (rising false (pieces ++ clash)) → AreRight p row true (rising false (pieces ++ clash) ++ lone)
      → Steps to to lone → Each IsPieceOf lone → ((lone ≡ []) ⊎ ((length lone ≡ 1) × (pieces ≡ []))) → ((length (rising false (pieces ++ clash) ++ lone) ≡ 1) ⊎ Each IsLong clash) → (rising false (pieces ++ clash) ++ lone ≡ [] → ⊥)
      → IsSweep p row from to (rising false (pieces ++ clash) ++ (lone ++ []))
  below values pieces clash lone h steps right here lone_is only long some =
      let e : rising false (pieces ++ clash) ≡ rising false clash ++ rising false pieces = rising-append pieces clash in
      let f : lone ++ [] ≡ lone = append-nil lone in
      subst (λ (xs : List Stretch). IsSweep p row from to (xs ++ (lone ++ []))) (sym e)
      (assembled p row from to to (rising false clash) (rising false pieces) lone [] []
      (subst (λ (xs : List Stretch). AreRight p row true (xs ++ (lone ++ []))) e (subst (λ (ys : List Stretch). AreRight p row true (rising false (pieces ++ clash) ++ ys)) (sym f) right))
      (record {
        down = subst (Steps from to) e steps;
        here = here;
        up = refl;
        one_before = rising-one clash h.one;
        one_behind = no-clash;
        first_are = rising-pieces pieces h.are;
        second_are = no-piece;
        lone_is = lone_is;
        only = elim only [
          | inl none ↦ inl none
          | inr is ↦ inr (is.0, rising-none pieces is.1, refl)
        ];
        apart = λ none. inr refl;
        long = elim long [
          | inl one ↦ inl (ap (λ (xs : List Stretch). length (xs ++ (lone ++ []))) (sym e) ∙ (ap (λ (ys : List Stretch). length (rising false (pieces ++ clash) ++ ys)) f ∙ one))
          | inr all ↦ inr (rising-each IsLong clash all, tt)
        ];
        some = λ none. some (ap (λ (ys : List Stretch). rising false (pieces ++ clash) ++ ys) (sym f) ∙ (ap (λ (xs : List Stretch). xs ++ (lone ++ [])) e ∙ none));
      }))

  never-empty : (xs : List Stretch) (s : Stretch) → xs ++ (s ∷ []) ≡ [] → ⊥
  never-empty xs s e = let f : s ∷ [] ≡ [] = right-none xs (s ∷ []) e in absurd (let g : length (s ∷ []) ≡ 0 = ap length f in omega (arith, g))

  pub down_alone : (values : Option Values) (pieces clash : List Stretch) → IsHalf to w values pieces clash → Steps from to (rising false (pieces ++ clash)) → AreRight p row true (rising false (led_by false w values (pieces ++ clash)))
      → IsSweep p row from to (rising false (pieces ++ clash) ++ (lone_of (no_piece_first (pieces ++ clash) && true) (at_of w values) None ++ []))
  down_alone None [] [] h steps right = absurd (let e = (h.none refl).1 in omega (arith, e))
  down_alone None [] (Piece f t ls hs ∷ rest) h steps right = absurd h.one.are.0
  down_alone None [] (Clash f t by ∷ c ∷ rest) h steps right = absurd (let e = (h.none refl).1 in omega (arith, e))
  down_alone None [] (Clash f t by ∷ []) h steps right = below None [] (Clash f t by ∷ []) [] h steps right refl tt (inl refl) (inl refl) (λ e. cc)
  down_alone None (s ∷ pieces) clash h steps right = absurd (let e : length (s ∷ pieces) ≡ 0 = ap length (h.none refl).0 in omega (arith, e))
  down_alone (Some v) [] [] h steps right = below (Some v) [] [] (Piece w w v v ∷ []) h steps right (h.here refl, h.here refl) (tt, tt) (inr (refl, refl)) (inl refl) (λ e. cc)
  down_alone (Some v) [] (Piece f t ls hs ∷ rest) h steps right = absurd h.one.are.0
  down_alone (Some v) [] (Clash f t by ∷ rest) h steps right =
      below (Some v) [] (Clash f t by ∷ rest) (Piece w w v v ∷ []) h steps right (h.here refl, h.here refl) (tt, tt) (inr (refl, refl)) (inr h.long)
      (never-empty (rising false (Clash f t by ∷ rest)) (Piece w w v v))
  down_alone (Some v) (Clash f t by ∷ pieces) clash h steps right = absurd h.are.are.0
  down_alone (Some v) (Piece f t ls hs ∷ pieces) clash h steps right =
      below (Some v) (Piece f t ls hs ∷ pieces) clash [] h steps (subst (AreRight p row true) (sym (append-nil (rising false (Piece f t ls hs ∷ (pieces ++ clash))))) right) refl tt (inl refl) (inr h.long)
      (λ e. never-empty (rising false (pieces ++ clash)) (Piece f t ls hs) (left-none (rising false (Piece f t ls hs ∷ (pieces ++ clash))) [] e))

-- ---- both

module _ (p : Problem) (row : ℕ) (from mid to w z : Fraction) (v u : Values) (down_pieces down_clash up_pieces up_clash : List Stretch) where
  abbrev down : List Stretch
  down = down_pieces ++ down_clash

  abbrev up : List Stretch
  up = up_pieces ++ up_clash

  abbrev alone : Bool → List Stretch
  alone b = lone_of b (Some (w, v)) (Some (z, u))

  abbrev all : Bool → List Stretch
  all b = rising false down ++ (alone b ++ up)

  pub record AreHalves : Type 0 where
    pub down_half : IsHalf mid w (Some v) down_pieces down_clash
    pub up_half : IsHalf mid z (Some u) up_pieces up_clash
    pub down_steps : Steps from mid (rising false down)
    pub up_steps : Steps mid to up
    pub down_right : AreRight p row true (rising false (led_by false w (Some v) down))
    pub up_right : AreRight p row true (led_by true z (Some u) up)

  some-pieces : (b : Bool) → (no_piece_first down && no_piece_first up) ≡ b → AreHalves → rising false down_pieces ++ (alone b ++ up_pieces) ≡ [] → ⊥
  some-pieces true e h none = let a : Piece w w v v ∷ up_pieces ≡ [] = right-none (rising false down_pieces) (alone true ++ up_pieces) none in absurd (let g : length (Piece w w v v ∷ up_pieces) ≡ 0 = ap length a in omega (arith, g))
  some-pieces false e h none =
      let a : down_pieces ≡ [] = none-rising down_pieces (left-none (rising false down_pieces) up_pieces none) in
      let b : up_pieces ≡ [] = right-none (rising false down_pieces) up_pieces none in
      let c : no_piece_first down ≡ true = ap (λ (xs : List Stretch). no_piece_first (xs ++ down_clash)) a ∙ clash-first down_clash h.down_half.one.are in
      let d : no_piece_first up ≡ true = ap (λ (xs : List Stretch). no_piece_first (xs ++ up_clash)) b ∙ clash-first up_clash h.up_half.one.are in
      true-not-false (sym (ap₂ (λ (x y : Bool). x && y) c d) ∙ e)

  only-alone : (b : Bool) → (no_piece_first down && no_piece_first up) ≡ b → AreHalves → (alone b ≡ []) ⊎ ((length (alone b) ≡ 1) × (rising false down_pieces ≡ []) × (up_pieces ≡ []))
  only-alone false e h = inl refl
  only-alone true e h =
      let both = both-true (no_piece_first down) (no_piece_first up) e in
      inr (refl, rising-none down_pieces (no-pieces down_pieces down_clash h.down_half.are both.0), no-pieces up_pieces up_clash h.up_half.are both.1)

  alone-here : (b : Bool) → (no_piece_first down && no_piece_first up) ≡ b → AreHalves → Steps mid mid (alone b)
  alone-here false e h = refl
  alone-here true e h =
      let both = both-true (no_piece_first down) (no_piece_first up) e in
      let here = h.down_half.here (no-pieces down_pieces down_clash h.down_half.are both.0) in (here, here)

  alone-piece : (b : Bool) → Each IsPieceOf (alone b)
  alone-piece false = tt
  alone-piece true = (tt, tt)

  both-sweep : (b : Bool) → (no_piece_first down && no_piece_first up) ≡ b → AreHalves → IsSweep p row from to (all b)
  both-sweep b e h =
      let f : rising false down ≡ rising false down_clash ++ rising false down_pieces = rising-append down_pieces down_clash in
      let right : AreRight p row true (all b) = subst (λ (k : Bool). AreRight p row true (all k)) e (both-right p row w z v u down up h.down_right h.up_right) in
      let some = some-pieces b e h in
      subst (λ (xs : List Stretch). IsSweep p row from to (xs ++ (alone b ++ up))) (sym f)
      (assembled p row from mid to (rising false down_clash) (rising false down_pieces) (alone b) up_pieces up_clash
      (subst (λ (xs : List Stretch). AreRight p row true (xs ++ (alone b ++ up))) f right)
      (record {
        down = subst (Steps from mid) f h.down_steps;
        here = alone-here b e h;
        up = h.up_steps;
        one_before = rising-one down_clash h.down_half.one;
        one_behind = h.up_half.one;
        first_are = rising-pieces down_pieces h.down_half.are;
        second_are = h.up_half.are;
        lone_is = alone-piece b;
        only = only-alone b e h;
        apart = λ none. absurd (some none);
        long = inr (rising-each IsLong down_clash h.down_half.long, h.up_half.long);
        some = λ none. some (
            let front = right-none (rising false down_clash) (rising false down_pieces) (left-none (rising false down_clash ++ rising false down_pieces) (alone b ++ up) none) in
            let back = right-none (rising false down_clash ++ rising false down_pieces) (alone b ++ up) none in
            ap₂ (λ (xs ys : List Stretch). xs ++ ys) front (ap₂ (λ (xs ys : List Stretch). xs ++ ys) (left-none (alone b) up back) (left-none up_pieces up_clash (right-none (alone b) up back)))
            );
      }))

  pub both_sweep : AreHalves → IsSweep p row from to (all (no_piece_first down && no_piece_first up))
  both_sweep h = both-sweep (no_piece_first down && no_piece_first up) refl h
