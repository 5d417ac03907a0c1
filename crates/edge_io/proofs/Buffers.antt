-- A part of a buffer, after a write behind it or a step of its start.
use Rattle.std.proofs.Common.{◌≡◌, ℕ, ◌+◌, ◌-◌, ◌≤◌, List, ◌++◌, length, take, drop, slice_range, slice_index, get_or, ◌<◌, ◌∷◌, refl, sym, ap, ◌∙◌, arith}
use Rattle.std.proofs.lemmas.List.{append-nil, take_at, drop_at, take-append-le, drop-append-le, drop-take, drop-drop, length-take-le, length-drop, take-take, drop_more, take-append-drop}
use borrow.Rule.Slice.PartMut.{put_mid, post_of}
use lib.Seq.{take-add}

pub grown : (xs ys : List ℕ) (start end k n : ℕ) → start ≤ end → end ≤ length xs → n ≤ length ys
    → slice_range (put_mid end k xs ys) start (end + n) ≡ slice_range xs start end ++ take n ys
grown xs ys start end k n ordered within fits =
    let front = length-take-le end xs within in
    let held = drop start (take end xs) in
    let len : length held ≡ end - start = omega (arith, length-drop start (take end xs)) in
    let sum : end + n - start ≡ (end - start) + n = omega arith in
    let parts : end ≡ start + (end - start) = omega arith in
    let same : held ≡ take (end - start) (drop start xs) = ap (λ j. drop start (take j xs)) parts ∙ drop-take start (end - start) xs in
    let after = ys ++ post_of end k xs in
    ap (take (end + n - start)) (drop-append-le start (take end xs) after (omega arith))
    ∙ ap (λ j. take j (held ++ after)) sum ∙ take-add (end - start) n (held ++ after)
    ∙ (rw (take_at held after _ len, drop_at held after _ len, take-append-le n ys (post_of end k xs) fits, same) refl)

pub kept : (xs ys : List ℕ) (start end k : ℕ) → start ≤ end → end ≤ length xs
    → slice_range (put_mid end k xs ys) start end ≡ slice_range xs start end
kept xs ys start end k ordered within =
    let none : end ≡ end + 0 = omega arith in
    ap (slice_range (put_mid end k xs ys) start) none ∙ grown xs ys start end k 0 ordered within (omega arith) ∙ append-nil _

pub consumed : (xs : List ℕ) (start end count : ℕ) → start + count ≤ end
    → slice_range xs (start + count) end ≡ drop count (slice_range xs start end)
consumed xs start end count inside =
    let parts : end - start ≡ count + (end - (start + count)) = omega arith in
    sym (ap (λ j. drop count (take j (drop start xs))) parts ∙ drop-take count _ (drop start xs)
    ∙ ap (take (end - (start + count))) (drop-drop count start xs))

pub length_part : (xs : List ℕ) (start end : ℕ) → start ≤ end → end ≤ length xs → length (slice_range xs start end) ≡ end - start
length_part xs start end ordered within = length-take-le (end - start) (drop start xs) (omega (arith, length-drop start xs))

pub front_of : (xs : List ℕ) (start end len : ℕ) → start ≤ end → end ≤ length xs → len < length (slice_range xs start end)
    → slice_range xs start (start + len) ≡ take len (slice_range xs start end)
front_of xs start end len ordered within inside =
    let is : start + len - start ≡ len = omega arith in
    ap (λ k. take k (drop start xs)) is ∙ sym (take-take len (end - start) (drop start xs) (omega (arith, length_part xs start end ordered within)))

-- a part is cut at a byte 10
pub line_cut : (xs : List ℕ) (start end len : ℕ) → start ≤ end → end ≤ length xs → len < length (slice_range xs start end)
    → slice_index (slice_range xs start end) len ≡ 10
    → slice_range xs start end ≡ take len (slice_range xs start end) ++ 10 ∷ slice_range xs (start + len + 1) end
line_cut xs start end len ordered within inside at =
    let part = slice_range xs start end in
    let size = length_part xs start end ordered within in
    let sum : start + (len + 1) ≡ start + len + 1 = omega arith in
    let rest : slice_range xs (start + len + 1) end ≡ drop (len + 1) part = ap (λ k. slice_range xs k end) (sym sum) ∙ consumed xs start end (len + 1) (omega (arith, size)) in
    let first : drop len part ≡ get_or part len 0 ∷ drop (len + 1) part = drop_more part len 0 inside in
    let is : get_or part len 0 ≡ 10 = at in
    sym (take-append-drop len part) ∙ ap (λ ys. take len part ++ ys) (first ∙ rw (is, rest) refl)
