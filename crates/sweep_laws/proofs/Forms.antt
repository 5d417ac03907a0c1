-- Lists of stretches that are in form, and that aren't.
use Rattle.std.proofs.Common.{◌≡◌, ◌∙◌, ℕ, ◌≤◌, ◌⊎◌, inl, inr, List, [], ◌∷◌, ◌++◌, length, ℤ, pos, ◌*ℤ◌, ◌<ℤ◌, refl, sym, ap, subst, arith, All}
use Rattle.std.specs.List.{AllByRecursion as Each}
use Rattle.std.proofs.lemmas.List.Elements.{All-from_recursion, recursion_from_All}
use borrow.Author.Differences.{ints}
use Rattle.frac_core.specs.Fraction.{Fraction}
use Rattle.frac_core.proofs.Lists.{each-left, each-right}
use Rattle.cert_core.specs.declared.by.By.{By}
use Rattle.sweep_laws.specs.Stretches.{Clash, IsClash, IsInForm, IsLong, IsPieceOf, Piece, Stretch}

abbrev Value : Type 0
Value = ℕ × Fraction

right-nil : (xs : List Stretch) → xs ++ [] ≡ xs
right-nil [] = refl
right-nil (x ∷ xs) = ap (λ (ys : List Stretch). x ∷ ys) (right-nil xs)

no-clash : All IsClash []
no-clash = All-from_recursion IsClash [] tt

no-piece : All IsPieceOf []
no-piece = All-from_recursion IsPieceOf [] tt

none-long : All IsLong []
none-long = All-from_recursion IsLong [] tt

-- ---- in form

pub pieces-form : (stretches : List Stretch) → Each IsPieceOf stretches → (length stretches ≡ 1) ⊎ All IsLong stretches → IsInForm stretches
pieces-form stretches are long = record {
  before = [];
  pieces = stretches;
  behind = [];
  parts = sym (right-nil stretches);
  few_before = (omega arith, no-clash);
  few_behind = (omega arith, no-clash);
  are_pieces = All-from_recursion IsPieceOf stretches are;
  apart = λ e. inl refl;
  long_pieces = long;
  long_clashes = inr (none-long, none-long);
}

-- a conflict, then pieces
pub clash-form : (c : Stretch) (pieces : List Stretch) → IsClash c → IsLong c → Each IsPieceOf pieces → (length pieces ≡ 1) ⊎ All IsLong pieces → IsInForm (c ∷ pieces)
clash-form c pieces clash far are long = record {
  before = c ∷ [];
  pieces = pieces;
  behind = [];
  parts = ap (λ (ys : List Stretch). c ∷ ys) (sym (right-nil pieces));
  few_before = (omega arith, All-from_recursion IsClash (c ∷ []) (clash, tt));
  few_behind = (omega arith, no-clash);
  are_pieces = All-from_recursion IsPieceOf pieces are;
  apart = λ e. inr refl;
  long_pieces = long;
  long_clashes = inr (All-from_recursion IsLong (c ∷ []) (far, tt), none-long);
}

-- a piece, then a conflict
pub behind-form : (s c : Stretch) → IsPieceOf s → IsClash c → IsLong c → IsInForm (s ∷ c ∷ [])
behind-form s c is clash far = record {
  before = [];
  pieces = s ∷ [];
  behind = c ∷ [];
  parts = refl;
  few_before = (omega arith, no-clash);
  few_behind = (omega arith, All-from_recursion IsClash (c ∷ []) (clash, tt));
  are_pieces = All-from_recursion IsPieceOf (s ∷ []) (is, tt);
  apart = λ e. inl refl;
  long_pieces = inl refl;
  long_clashes = inr (none-long, All-from_recursion IsLong (c ∷ []) (far, tt));
}

-- a conflict alone
pub alone-form : (c : Stretch) → IsClash c → IsInForm (c ∷ [])
alone-form c clash = record {
  before = c ∷ [];
  pieces = [];
  behind = [];
  parts = refl;
  few_before = (omega arith, All-from_recursion IsClash (c ∷ []) (clash, tt));
  few_behind = (omega arith, no-clash);
  are_pieces = no-piece;
  apart = λ e. inr refl;
  long_pieces = inr none-long;
  long_clashes = inl refl;
}

-- ---- not in form

never-both : (s : Stretch) → IsPieceOf s → IsClash s → ⊥
never-both (Piece f t low high) p c = c
never-both (Clash f t by) p c = p

-- of pieces none is a conflict
no-clashes : (xs : List Stretch) → Each IsPieceOf xs → Each IsClash xs → xs ≡ []
no-clashes [] p c = refl
no-clashes (x ∷ xs) p c = absurd (never-both x p.0 c.0)

only-pieces : (stretches : List Stretch) → Each IsPieceOf stretches → (form : IsInForm stretches) → stretches ≡ form.pieces
only-pieces stretches are form =
    let all : Each IsPieceOf (form.before ++ (form.pieces ++ form.behind)) = subst (Each IsPieceOf) form.parts are in
    let first : form.before ≡ [] = no-clashes form.before (each-left IsPieceOf form.before (form.pieces ++ form.behind) all) (recursion_from_All IsClash form.before form.few_before.1) in
    let last : form.behind ≡ [] = no-clashes form.behind (each-right IsPieceOf form.pieces form.behind (each-right IsPieceOf form.before (form.pieces ++ form.behind) all)) (recursion_from_All IsClash form.behind form.few_behind.1) in
    form.parts ∙ ap (λ (xs : List Stretch). xs ++ (form.pieces ++ form.behind)) first ∙ ap (λ (xs : List Stretch). form.pieces ++ xs) last ∙ right-nil form.pieces

never-less : (z : ℤ) → z <ℤ z → ⊥
never-less z h = omega (arith, ints, h)

three-not-one : ◌≡◌ {A = ℕ} 3 1 → ⊥
three-not-one e = omega (arith, e)

-- a piece of no length between two
pub not-short : (s : Stretch) (f : Fraction) (values : List Value) (t : Stretch) → IsPieceOf s → IsPieceOf t → IsInForm (s ∷ Piece f f values values ∷ t ∷ []) → ⊥
not-short s f values t ps pt form =
    let same = only-pieces (s ∷ Piece f f values values ∷ t ∷ []) (ps, (tt, (pt, tt))) form in
    elim form.long_pieces [
      | inl one ↦ three-not-one (ap length same ∙ one)
      | inr long ↦ never-less (f.num *ℤ pos f.den) (subst (Each IsLong) (sym same) (recursion_from_All IsLong form.pieces long)).1.0
    ]

clash-first : (x y : Stretch) (xs ys : List Stretch) → x ∷ xs ≡ y ∷ ys → IsClash x → IsPieceOf y → ⊥
clash-first x y xs ys e c p =
    let same : x ≡ y = cc in
    never-both y p (subst IsClash same c)

few-two : (x y : Stretch) (xs ys : List Stretch) → x ∷ y ∷ xs ≡ ys → length ys ≤ 1 → ⊥
few-two x y xs ys e few = let two : length (x ∷ y ∷ xs) ≡ length ys = ap length e in omega (arith, two, few)

-- conflicts one after the other
pub not-twice : (x y : Stretch) → IsClash x → IsClash y → IsInForm (x ∷ y ∷ []) → ⊥
not-twice x y cx cy form = by-parts form.before form.pieces form.behind form.parts form.few_before.0 form.few_behind.0 (recursion_from_All IsPieceOf form.pieces form.are_pieces) form.apart
  where
    by-parts : (before pieces behind : List Stretch) → x ∷ y ∷ [] ≡ before ++ (pieces ++ behind) → length before ≤ 1 → length behind ≤ 1 → Each IsPieceOf pieces → (pieces ≡ [] → (before ≡ []) ⊎ (behind ≡ [])) → ⊥
    by-parts [] [] behind e few more are apart = few-two x y [] behind e more
    by-parts [] (p ∷ pieces) behind e few more are apart = clash-first x p (y ∷ []) (pieces ++ behind) e cx are.0
    by-parts (b ∷ []) [] [] e few more are apart = let two : length (x ∷ y ∷ []) ≡ length (b ∷ []) = ap length e in omega (arith, two)
    by-parts (b ∷ []) [] (d ∷ behind) e few more are apart = elim (apart refl) [
      | inl none ↦ let f : length (b ∷ []) ≡ 0 = ap length none in omega (arith, f)
      | inr none ↦ let f : length (d ∷ behind) ≡ 0 = ap length none in omega (arith, f)
    ]
    by-parts (b ∷ []) (p ∷ pieces) behind e few more are apart = let rest : y ∷ [] ≡ p ∷ (pieces ++ behind) = cc in clash-first y p [] (pieces ++ behind) rest cy are.0
    by-parts (b ∷ c ∷ before) pieces behind e few more are apart = omega (arith, few)

-- two conflicts in front of a piece
pub not-split : (x y z : Stretch) → IsClash x → IsClash y → IsInForm (x ∷ y ∷ z ∷ []) → ⊥
not-split x y z cx cy form = by-parts form.before form.pieces form.behind form.parts form.few_before.0 form.few_behind.0 (recursion_from_All IsPieceOf form.pieces form.are_pieces)
  where
    by-parts : (before pieces behind : List Stretch) → x ∷ y ∷ z ∷ [] ≡ before ++ (pieces ++ behind) → length before ≤ 1 → length behind ≤ 1 → Each IsPieceOf pieces → ⊥
    by-parts [] [] behind e few more are = few-two x y (z ∷ []) behind e more
    by-parts [] (p ∷ pieces) behind e few more are = clash-first x p (y ∷ z ∷ []) (pieces ++ behind) e cx are.0
    by-parts (b ∷ []) [] behind e few more are = let rest : y ∷ z ∷ [] ≡ behind = cc in few-two y z [] behind rest more
    by-parts (b ∷ []) (p ∷ pieces) behind e few more are = let rest : y ∷ z ∷ [] ≡ p ∷ (pieces ++ behind) = cc in clash-first y p (z ∷ []) (pieces ++ behind) rest cy are.0
    by-parts (b ∷ c ∷ before) pieces behind e few more are = omega (arith, few)

two-not-one : ◌≡◌ {A = ℕ} 2 1 → ⊥
two-not-one e = omega (arith, e)

-- a conflict of no length in front of a piece
pub not-pointed : (f : Fraction) (by : List By) (t : Stretch) → IsPieceOf t → IsInForm (Clash f f by ∷ t ∷ []) → ⊥
not-pointed f by t is form =
    elim form.long_clashes [
      | inl one ↦ two-not-one one
      | inr long ↦ by-parts form.before form.pieces form.behind form.parts (recursion_from_All IsPieceOf form.pieces form.are_pieces) form.few_behind.0 (recursion_from_All IsLong form.before long.0)
    ]
  where
    first-long : (b : Stretch) (xs ys : List Stretch) → Clash f f by ∷ xs ≡ b ∷ ys → IsLong b → ⊥
    first-long b xs ys e long =
        let same : b ≡ Clash f f by = cc in
        never-less (f.num *ℤ pos f.den) (subst IsLong same long)

    by-parts : (before pieces behind : List Stretch) → Clash f f by ∷ t ∷ [] ≡ before ++ (pieces ++ behind) → Each IsPieceOf pieces → length behind ≤ 1 → Each IsLong before → ⊥
    by-parts [] [] behind e are few long = few-two (Clash f f by) t [] behind e few
    by-parts [] (p ∷ pieces) behind e are few long = clash-first (Clash f f by) p (t ∷ []) (pieces ++ behind) e tt are.0
    by-parts (b ∷ before) pieces behind e are few long = first-long b (t ∷ []) (before ++ (pieces ++ behind)) e long.0
