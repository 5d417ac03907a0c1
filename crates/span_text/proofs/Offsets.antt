-- The offset of a refusal.
use Rattle.std.proofs.Common.{◌≡◌, ℕ, ◌+◌, ◌-◌, ◌≤◌, List, length, take, drop, Result, Ok, Err, sym, subst, ap, ◌∙◌, arith, length-append, length-drop}
use Rattle.std.proofs.lemmas.List.{take-append-drop, take-append-le}
use Rattle.std.proofs.Math.Seq.{take-length}
use Rattle.span_text.specs.Language.{Rel, Begins, Stops, Answers, LeavesAt}

pub stops_within : {A : Type 0} (R : Rel A) (s : List ℕ) (m : ℕ) → Stops R s m → m ≤ length s
stops_within R s m h =
    let e : length s ≡ length h.front + length h.left = ap length h.parts ∙ length-append h.front h.left in
    let f : length h.left ≡ m = h.count in omega arith

pub stops_leaves : {A : Type 0} (R : Rel A) (s : List ℕ) (m : ℕ) → Stops R s m → LeavesAt R s (length s - m)
stops_leaves R s m h =
    let e : length s ≡ length h.front + length h.left = ap length h.parts ∙ length-append h.front h.left in
    let f : length h.left ≡ m = h.count in
    let n : length s - m ≡ length h.front = omega arith in
    record {
      outside = h.outside;
      within = omega arith;
      begins = subst (λ (p : List ℕ). Begins R p) (sym (ap (λ (x : ℕ). take x s) n ∙ ap (λ (x : List ℕ). take (length h.front) x) h.parts ∙ take-append-le (length h.front) h.front h.left (omega arith) ∙ take-length h.front)) h.begins;
      longest = λ n l b. (let g : m ≤ length (drop n s) = h.longest (take n s) (drop n s) (sym (take-append-drop n s)) b in let k : length (drop n s) ≡ length s - n = length-drop n s in omega arith);
    }

-- what a reader's answer says, by its case
pub answers_ok : {A : Type 0} (R : Rel A) (s : List ℕ) (r : Result A ℕ) (v : A) → Answers R s r → r ≡ Ok v → R s v × ((w : A) → R s w → w ≡ v)
answers_ok {A} R s r v h e = subst (λ (x : Result A ℕ). Answers R s x) e h

pub answers_err : {A : Type 0} (R : Rel A) (s : List ℕ) (r : Result A ℕ) (m : ℕ) → Answers R s r → r ≡ Err m → Stops R s m
answers_err {A} R s r m h e = subst (λ (x : Result A ℕ). Answers R s x) e h
