-- Text that has gone to a sink in part.
use Rattle.std.proofs.Common.{◌≡◌, ◌∙◌, ℕ, zero, suc, ◌+◌, ◌<◌, ◌≤◌, List, [], ◌∷◌, ◌++◌, length, take, drop, take_all, refl, sym, ap, subst, arith, append_assoc, add-one, flat_map}
use Rattle.std.specs.declared.option.Option.{Option}
use Rattle.std.specs.declared.result.Result.{Result}
use Rattle.std.specs.declared.result.Result.TheVariants.{Ok, Err}
use Rattle.std.specs.Prelude.{slice_get, OnOk}
use Rattle.std.specs.Io.KnownBytes.{Appends}
use Rattle.std.proofs.lemmas.List.{append-nil}
use Rattle.std.proofs.lemmas.Result.{on_err_weaker}
use Rattle.edge_io.specs.Cause.{HasCause, Rose}
use Rattle.edge_io.specs.Outside.{HasFront}
use Rattle.edge_io.proofs.Moves.{appends_both, front_first, front_then}
use Rattle.frac_core.specs.Fraction.{Fraction}
use Rattle.view_tree.specs.Views.{LiveView}
use Rattle.reply_texts.specs.Frames.{frame_text}
use Rattle.reply_texts.specs.Printing.{Puts, frame_line_of}

-- the count was the same before
pub cause_since : {T E : Type 0} (a b c : ℕ) (r : Result T E) → b ≡ a → HasCause b c r → HasCause a c r
cause_since a b c r before cause = subst (λ (k : ℕ). HasCause k c r) before cause

-- ---- results

-- the same text in other words
pub puts_as : {K T E : Type 0} (held : K → Option (List ℕ)) (faults : K → ℕ) (a b : K) (this that : List ℕ) (r : Result T E) → this ≡ that
    → Puts held faults a b this r → Puts held faults a b that r
puts_as held faults a b this that r is put = subst (λ (t : List ℕ). Puts held faults a b t r) is put

-- a front of the text was put, some of it before the call that failed
pub puts_err : {K T E : Type 0} (held : K → Option (List ℕ)) (faults : K → ℕ) (a b c : K) (text : List ℕ) (r : Result T E) (e : E) → r ≡ Err e
    → HasFront (held a) (held c) text → faults b ≡ faults a → faults b ≤ faults c → Rose (faults b) (faults c) → Puts held faults a c text r
puts_err {T = T} {E = E} held faults a b c text r e is front before later rose =
    let since : faults a ≤ faults c = omega (arith, before, later) in
    let more : Rose (faults a) (faults c) = omega (arith, before, rose) in
    subst (λ (s : Result T E). Puts held faults a c text s) (sym is) (record { ok = tt; err = front; cause = record { later = since; failed = more; unfailed = tt } })

ok_then : {T E : Type 0} (r : Result T E) (a b c : Option (List ℕ)) (this rest : List ℕ) → Appends a b this → OnOk r (Appends b c rest) → OnOk r (Appends a c (this ++ rest))
ok_then (Ok x) a b c this rest put more = appends_both a b c this rest put more
ok_then (Err e) a b c this rest put more = tt

-- all of the first text, and then what is put of the rest
pub puts_then : {K T E : Type 0} (held : K → Option (List ℕ)) (faults : K → ℕ) (a b c : K) (this rest : List ℕ) (r : Result T E)
    → Appends (held a) (held b) this → faults b ≡ faults a → Puts held faults b c rest r → Puts held faults a c (this ++ rest) r
puts_then held faults a b c this rest r put same more = record {
  ok = ok_then r (held a) (held b) (held c) this rest put more.ok;
  err = on_err_weaker r (λ front. front_then (held a) (held b) (held c) this rest put front) more.err;
  cause = cause_since (faults a) (faults b) (faults c) r same more.cause;
}

-- ---- views

-- the lines of the views before a place, the line there, and those behind it
pub each_split : (values : List (ℕ × Fraction)) (views : List LiveView) (i : ℕ) → i < length views
    → flat_map (frame_text values) views ≡ flat_map (frame_text values) (take i views) ++ (frame_line_of values (slice_get views i) ++ flat_map (frame_text values) (drop (suc i) views))
each_split values [] i within = absurd (omega (arith, within))
each_split values (v ∷ views) zero within = refl
each_split values (v ∷ views) (suc i) within =
    ap (λ (t : List ℕ). frame_text values v ++ t) (each_split values views i (omega (arith, within)))
    ∙ sym (append_assoc (frame_text values v) (flat_map (frame_text values) (take i views)) (frame_line_of values (slice_get views i) ++ flat_map (frame_text values) (drop (suc i) views)))

each_suc : (values : List (ℕ × Fraction)) (views : List LiveView) (i : ℕ) → i < length views
    → flat_map (frame_text values) (take (suc i) views) ≡ flat_map (frame_text values) (take i views) ++ frame_line_of values (slice_get views i)
each_suc values [] i within = absurd (omega (arith, within))
each_suc values (v ∷ views) zero within = append-nil (frame_text values v)
each_suc values (v ∷ views) (suc i) within =
    ap (λ (t : List ℕ). frame_text values v ++ t) (each_suc values views i (omega (arith, within)))
    ∙ sym (append_assoc (frame_text values v) (flat_map (frame_text values) (take i views)) (frame_line_of values (slice_get views i)))

-- the lines before the next place
pub each_more : (values : List (ℕ × Fraction)) (views : List LiveView) (i : ℕ) → i < length views
    → flat_map (frame_text values) (take (i + 1) views) ≡ flat_map (frame_text values) (take i views) ++ frame_line_of values (slice_get views i)
each_more values views i within = ap (λ (n : ℕ). flat_map (frame_text values) (take n views)) (add-one i) ∙ each_suc values views i within

-- a front of the line at a place, after the lines before it, is a front of the whole
pub front_at : (a b c : Option (List ℕ)) (values : List (ℕ × Fraction)) (views : List LiveView) (i : ℕ) (last : List ℕ) → i < length views
    → Appends a b (flat_map (frame_text values) (take i views)) → HasFront b c (frame_line_of values (slice_get views i))
    → HasFront a c (flat_map (frame_text values) views ++ last)
front_at a b c values views i last within put front =
    let before : List ℕ = flat_map (frame_text values) (take i views) in
    let this : List ℕ = frame_line_of values (slice_get views i) in
    let behind : List ℕ = flat_map (frame_text values) (drop (suc i) views) in
    front_first a c (flat_map (frame_text values) views) last
    (subst (HasFront a c) (sym (each_split values views i within)) (front_then a b c before (this ++ behind) put (front_first b c this behind front)))

-- all lines, once the place is at the end
pub each_all : (values : List (ℕ × Fraction)) (views : List LiveView) (i : ℕ) → length views ≤ i → flat_map (frame_text values) (take i views) ≡ flat_map (frame_text values) views
each_all values views i within = ap (flat_map (frame_text values)) (take_all i views within)
