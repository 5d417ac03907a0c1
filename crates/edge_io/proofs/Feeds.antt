-- The lines that are still to come, as bytes come and lines go.
use Rattle.std.proofs.Common.{◌≡◌, ℕ, ◌+◌, ◌-◌, ◌<◌, ◌≤◌, ◌==◌, ◌⊎◌, inl, inr, List, [], ◌∷◌, ◌++◌, length, take, Bool, cond, true, false, true≢false, nat_le, Option, None, refl, sym, ap, ◌∙◌, arith, slice_index, slice_range, subst, append_assoc}
use Rattle.std.specs.Str.Lines.{lines, strip_carriage_return}
use Rattle.std.proofs.lemmas.List.Splits.{slice_split_at, slice_split_none}
use Rattle.std.proofs.lemmas.List.Elements.{All-nil, All-cons, All-append}
use Rattle.std.proofs.lemmas.List.{append-nil, length-append, length-take-le}
use Rattle.std.proofs.lemmas.Bool.Decides.{nat_tests, eqb_tells}
use Rattle.edge_io.specs.Feed.{cut, IsUnended, given_as, pieces_of, long_first, to_come}
use Rattle.edge_io.specs.Feeding.{Gives, Waits}
use Rattle.edge_io.proofs.Buffers.{line_cut, front_of}
use Rattle.span_text.proofs.TextCuts.Cuts.{first_part}

pub lines_at : (xs ys : List ℕ) → IsUnended xs → lines (xs ++ 10 ∷ ys) ≡ strip_carriage_return xs ∷ lines ys
lines_at xs ys none =
    let h = first_part (λ b. b == 10) ys in
    rw (slice_split_at (λ b. b == 10) xs 10 ys none refl, h.2) refl

pub lines_last : (xs : List ℕ) → 0 < length xs → IsUnended xs → lines xs ≡ xs ∷ []
lines_last xs some none =
    let some_left : (length xs == 0) ≡ false = grind (arith, nat_tests) in
    rw (slice_split_none (λ b. b == 10) xs none, some_left) refl

-- a line ends somewhere
abbrev pub Ends : List ℕ → Type 0
Ends xs = (front : List ℕ) × (more : List ℕ) × IsUnended front × (xs ≡ front ++ 10 ∷ more)

ends_or_not : (xs : List ℕ) → Ends xs ⊎ IsUnended xs
ends_or_not [] = inr (All-nil _)
ends_or_not (x ∷ xs) = elim (eqb_tells x 10) [
  | inl is ↦ inl ([], xs, All-nil _, ap (λ y. y ∷ xs) is.1)
  | inr other ↦ elim (ends_or_not xs) [
    | inl e ↦ inl (x ∷ e.0, e.1, All-cons (λ b. (b == 10) ≡ false) x e.0 other.0 e.2, ap (λ ys. x ∷ ys) e.3)
    | inr rest ↦ inr (All-cons (λ b. (b == 10) ≡ false) x xs other.0 rest)
  ]
]

pub strip_keeps : (xs : List ℕ) → length xs ≤ length (strip_carriage_return xs) + 1
strip_keeps xs = elim (slice_index xs (length xs - 1) == 13) as (λ b. length xs ≤ length (cond b (take (length xs - 1) xs) xs) + 1) [
  | true ↦ omega (arith, length-take-le (length xs - 1) xs (omega arith))
  | false ↦ omega arith
]

pub given_long : (line : List ℕ) → 4096 < length line → given_as line ≡ None
given_long line long =
    let over : nat_le (length line) 4096 ≡ false = grind (arith, nat_tests) in
    rw over refl

-- the first line ends here
pieces_at : (xs ys : List ℕ) → IsUnended xs → pieces_of (xs ++ 10 ∷ ys) ≡ given_as (strip_carriage_return xs) ∷ pieces_of ys
pieces_at xs ys none = rw (lines_at xs ys none) refl

-- bytes of the only line
pieces_last : (xs : List ℕ) → 0 < length xs → IsUnended xs → pieces_of xs ≡ given_as xs ∷ []
pieces_last xs some none = rw (lines_last xs some none) refl

long_last : (xs : List ℕ) → IsUnended xs → long_first (pieces_of xs) ≡ None ∷ []
long_last [] none = refl
long_last (x ∷ xs) none = rw (pieces_last (x ∷ xs) (omega arith) none) refl

-- what is given up of a line that is too long doesn't matter
pub long_more : (xs more : List ℕ) → IsUnended xs → long_first (pieces_of (xs ++ more)) ≡ long_first (pieces_of more)
long_more xs more none = elim (ends_or_not more) [
  | inl e ↦
      let whole : xs ++ more ≡ (xs ++ e.0) ++ 10 ∷ e.1 = ap (λ ys. xs ++ ys) e.3 ∙ sym (append_assoc xs e.0 (10 ∷ e.1)) in
      let before : IsUnended (xs ++ e.0) = All-append (λ b. (b == 10) ≡ false) xs e.0 none e.2 in
      let left : long_first (pieces_of (xs ++ more)) ≡ None ∷ pieces_of e.1 = rw (whole, pieces_at (xs ++ e.0) e.1 before) refl in
      let right : long_first (pieces_of more) ≡ None ∷ pieces_of e.1 = rw (e.3, pieces_at e.0 e.1 e.2) refl in
      left ∙ sym right
  | inr rest ↦ long_last (xs ++ more) (All-append (λ b. (b == 10) ≡ false) xs more none rest) ∙ sym (long_last more rest)
]

-- the line that begins with so many bytes is too long
pub long_front : (xs more : List ℕ) → IsUnended xs → 4097 < length xs → pieces_of (xs ++ more) ≡ long_first (pieces_of more)
long_front xs more none long = elim (ends_or_not more) [
  | inl e ↦
      let whole : xs ++ more ≡ (xs ++ e.0) ++ 10 ∷ e.1 = ap (λ ys. xs ++ ys) e.3 ∙ sym (append_assoc xs e.0 (10 ∷ e.1)) in
      let given : given_as (strip_carriage_return (xs ++ e.0)) ≡ None = given_long _ (omega (arith, strip_keeps (xs ++ e.0), length-append xs e.0)) in
      let before : IsUnended (xs ++ e.0) = All-append (λ b. (b == 10) ≡ false) xs e.0 none e.2 in
      let left : pieces_of (xs ++ more) ≡ None ∷ pieces_of e.1 = rw (whole, pieces_at (xs ++ e.0) e.1 before, given) refl in
      let right : long_first (pieces_of more) ≡ None ∷ pieces_of e.1 = rw (e.3, pieces_at e.0 e.1 e.2) refl in
      left ∙ sym right
  | inr rest ↦
      let len = length-append xs more in
      rw (pieces_last (xs ++ more) (omega (arith, len)) (All-append (λ b. (b == 10) ≡ false) xs more none rest), given_long (xs ++ more) (omega (arith, len)), long_last more rest) refl
]

-- the line that ends first goes
pub gives_line : (line rest : List ℕ) (was : Bool) (piece : Option (List ℕ)) → IsUnended line
    → piece ≡ cond was None (given_as (strip_carriage_return line))
    → Gives (record { bytes = line ++ 10 ∷ rest; is_cut = was }) piece (record { bytes = rest; is_cut = false })
gives_line line rest was piece none is = record {
  line = line;
  unended = none;
  leaves = refl;
  shorter = omega (arith, length-append line (10 ∷ rest));
  closed = refl;
  given = is;
  follows = λ more.
      let at : pieces_of ((line ++ 10 ∷ rest) ++ more) ≡ given_as (strip_carriage_return line) ∷ pieces_of (rest ++ more) =
      rw (append_assoc line (10 ∷ rest) more) (pieces_at line (rest ++ more) none) in
      rw (is, at) (elim was as (λ b. cond b (None ∷ pieces_of (rest ++ more)) (given_as (strip_carriage_return line) ∷ pieces_of (rest ++ more))
      ≡ cond b None (given_as (strip_carriage_return line)) ∷ pieces_of (rest ++ more)) [
        | true ↦ refl
        | false ↦ refl
      ]);
}

pub waits_cut : (bytes : List ℕ) (was : Bool) → IsUnended bytes → (was ≡ true) ⊎ (4097 < length bytes) → Waits (record { bytes = bytes; is_cut = was }) cut
waits_cut bytes true none why = record {
  unended = none;
  long = λ _. refl;
  short = λ whole. absurd (true≢false whole);
  ready = record { unended = All-nil _; small = omega arith };
  follows = λ more. sym (long_more bytes more none);
}
waits_cut bytes false none (inl is) = absurd (true≢false (sym is))
waits_cut bytes false none (inr long) = record {
  unended = none;
  long = λ _. refl;
  short = λ _ small. absurd (omega (arith, long, small));
  ready = record { unended = All-nil _; small = omega arith };
  follows = λ more. sym (long_front bytes more none long);
}

pub waits_open : (bytes : List ℕ) → IsUnended bytes → length bytes ≤ 4097 → Waits (record { bytes = bytes; is_cut = false }) (record { bytes = bytes; is_cut = false })
waits_open bytes none small = record {
  unended = none;
  long = λ why. elim why [
    | inl is ↦ absurd (true≢false (sym is))
    | inr long ↦ absurd (omega (arith, long, small))
  ];
  short = λ _ _. refl;
  ready = record { unended = none; small = small };
  follows = λ more. refl;
}

-- the same where the bytes stand in a buffer
pub gives_at : (xs : List ℕ) (start end len : ℕ) (was : Bool) (piece : Option (List ℕ)) → start ≤ end → end ≤ length xs
    → len < length (slice_range xs start end) → IsUnended (take len (slice_range xs start end)) → slice_index (slice_range xs start end) len ≡ 10
    → piece ≡ cond was None (given_as (strip_carriage_return (slice_range xs start (start + len))))
    → Gives (record { bytes = slice_range xs start end; is_cut = was }) piece (record { bytes = slice_range xs (start + len + 1) end; is_cut = false })
gives_at xs start end len was piece ordered within inside none at is =
    let whole = line_cut xs start end len ordered within inside at in
    let front : slice_range xs start (start + len) ≡ take len (slice_range xs start end) = front_of xs start end len ordered within inside in
    let given : piece ≡ cond was None (given_as (strip_carriage_return (take len (slice_range xs start end)))) = is ∙ ap (λ (line : List ℕ). cond was None (given_as (strip_carriage_return line))) front in
    subst (λ (bytes : List ℕ). Gives (record { bytes = bytes; is_cut = was }) piece (record { bytes = slice_range xs (start + len + 1) end; is_cut = false })) (sym whole)
    (gives_line (take len (slice_range xs start end)) (slice_range xs (start + len + 1) end) was piece none given)

-- what is pending is the last line
pub last_is : (bytes : List ℕ) (was : Bool) (piece : Option (List ℕ)) → IsUnended bytes → (was ≡ true) ⊎ (0 < length bytes)
    → piece ≡ cond was None (given_as bytes) → to_come (record { bytes = bytes; is_cut = was }) [] ≡ piece ∷ []
last_is bytes true piece none why is = rw (is, append-nil bytes) (long_last bytes none)
last_is bytes false piece none (inl was) is = absurd (true≢false (sym was))
last_is bytes false piece none (inr some) is = rw (is, append-nil bytes) (pieces_last bytes some none)
