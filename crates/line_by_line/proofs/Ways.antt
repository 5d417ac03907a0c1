-- A script between two pulls.
use Rattle.std.proofs.Common.{◌≡◌, ◌∙◌, ℕ, ◌<◌, ◌≤◌, ◌+◌, ◌==◌, Bool, false, List, [], ◌∷◌, ◌++◌, length, Option, Some, None, refl, sym, ap, subst, arith, length-append}
use Rattle.std.specs.Prelude.{IfSome}
use Rattle.std.specs.Io.KnownBytes.{Appends, Consumes, IsAtEnd, Keeps}
use Rattle.std.proofs.lemmas.List.{append-nil}
use Rattle.std.proofs.lemmas.List.Elements.{All-nil}
use Rattle.edge_io.specs.Feed.{IsOpen, Pending, nothing}
use Rattle.edge_io.proofs.Moves.{all_taken, consumes_both, consumes_kept, consumes_none}
use Rattle.line_by_line.specs.Answers.{AnswersWhole, AnswersFirst, AnswersInPart, Machine, Texts, texts_of}
use Rattle.line_by_line.specs.Talks.{Answering, OnceJoined, TakesMore, joined}
use Rattle.line_by_line.specs.Ends.{HasAnswers, HasFilled, HasTaken, IsLong}
use Rattle.line_by_line.proofs.Talks.{first_begins, whole_begins}

-- more was there than was taken
more_there : (a b : Option (List ℕ)) (xs : List ℕ) (byte n : ℕ) → Consumes a b (xs ++ byte ∷ []) → length xs ≡ n → IfSome a (λ script. n < length script)
more_there None b xs byte n p is = tt
more_there (Some x) None xs byte n p is = absurd p
more_there (Some x) (Some y) xs byte n p is =
    let len : length x ≡ length xs + 1 + length y = ap length p ∙ length-append (xs ++ byte ∷ []) y ∙ ap (λ (k : ℕ). k + length y) (length-append xs (byte ∷ [])) in
    omega (arith, len, is)

-- A run between two pulls: so many bytes are left of the limit, the lines among those that were taken are answered, and
-- this holds of them.
pub record IsUnderWay (IsTextOf : Texts) (left rest before now : Option (List ℕ)) (room : ℕ) (Is : List ℕ → Type 0) : Type 0 where
  pub taken : List ℕ
  pub consumed : Consumes left rest taken
  pub counted : length taken + room ≡ 1048576
  pub talk : Is taken
  pub whole : AnswersWhole IsTextOf before now taken

pub way_begins : {A : Type 0} (M : Machine A) (first : A) (left before : Option (List ℕ)) (Is : List ℕ → Type 0) → Is [] → IsUnderWay (texts_of M first) left left before before 1048576 Is
way_begins M first left before Is talk = record { taken = []; consumed = consumes_none left; counted = refl; talk = talk; whole = whole_begins M first before }

pub way_fails : (T : Texts) (left rest after before now : Option (List ℕ)) (room : ℕ) (Is : List ℕ → Type 0)
    → IsUnderWay T left rest before now room Is → Keeps rest after → HasTaken left after (AnswersWhole T before now)
way_fails T left rest after before now room Is way kept =
    (way.taken, consumes_kept left rest after way.taken way.consumed kept, omega (arith, way.counted), way.whole)

pub way_long : (T : Texts) (left rest after before now : Option (List ℕ)) (room : ℕ) (Is : List ℕ → Type 0)
    → IsUnderWay T left rest before now room Is → room ≡ 0 → (byte : ℕ) × Consumes rest after (byte ∷ [])
    → IsLong left × HasFilled left after (AnswersWhole T before now)
way_long T left rest after before now room Is way over byte =
    let taken : Consumes left after (way.taken ++ byte.0 ∷ []) = consumes_both left rest after way.taken (byte.0 ∷ []) way.consumed byte.1 in
    let size : length way.taken ≡ 1048576 = omega (arith, way.counted, over) in
    (more_there left after way.taken byte.0 1048576 taken size, (way.taken, byte.0, taken, size, way.whole))

-- ---- what is pending is answered

pub way_answers : (T : Texts) (left rest after before now past : Option (List ℕ)) (room less : ℕ) (p next last : Pending) (more : Bool)
    (Was Is : Answering)
    → IsUnderWay T left rest before now room (Was p before now) → TakesMore p next rest after room less more
    → OnceJoined Was now next (λ b taken. Is last b past taken × AnswersWhole T b past taken)
    → IsUnderWay T left after before past less (Is last before past)
way_answers T left rest after before now past room less p next last more Was Is way takes answers =
    let both = answers p before way.taken takes.bytes way.talk takes.joins in
    record {
      taken = way.taken ++ takes.bytes;
      consumed = consumes_both left rest after way.taken takes.bytes way.consumed takes.taken;
      counted = omega (arith, length-append way.taken takes.bytes, way.counted, takes.counted);
      talk = both.0;
      whole = both.1;
    }

pub way_breaks : (T : Texts) (left rest after before now past : Option (List ℕ)) (room less : ℕ) (p next : Pending) (more : Bool)
    (Was : Answering)
    → IsUnderWay T left rest before now room (Was p before now) → TakesMore p next rest after room less more
    → ((l : Option (List ℕ)) → OnceJoined Was now next (λ b. AnswersInPart T b past l))
    → HasTaken left after (AnswersInPart T before past after)
way_breaks T left rest after before now past room less p next more Was way takes breaks = (
  way.taken ++ takes.bytes,
  consumes_both left rest after way.taken takes.bytes way.consumed takes.taken,
  omega (arith, length-append way.taken takes.bytes, way.counted, takes.counted),
  breaks after p before way.taken takes.bytes way.talk takes.joins,
)

pub way_stops : (T : Texts) (left rest after before now past : Option (List ℕ)) (room less : ℕ) (p next : Pending) (more : Bool)
    (Was : Answering)
    → IsUnderWay T left rest before now room (Was p before now) → TakesMore p next rest after room less more
    → OnceJoined Was now next (λ b. AnswersFirst T b past)
    → HasTaken left after (AnswersFirst T before past)
way_stops T left rest after before now past room less p next more Was way takes stops = (
  way.taken ++ takes.bytes,
  consumes_both left rest after way.taken takes.bytes way.consumed takes.taken,
  omega (arith, length-append way.taken takes.bytes, way.counted, takes.counted),
  stops p before way.taken takes.bytes way.talk takes.joins,
)

-- ---- the last line

abbrev pending_of : List ℕ → Bool → Pending
pending_of bytes is_cut = record { bytes = bytes; is_cut = is_cut }

same_pending : (p next : Pending) (bytes : List ℕ) → next ≡ joined p bytes → bytes ≡ [] → next ≡ p
same_pending p next bytes is none =
    is ∙ ap (λ (bs : List ℕ). pending_of (p.bytes ++ bs) p.is_cut) none ∙ ap (λ (bs : List ℕ). pending_of bs p.is_cut) (append-nil p.bytes)

pub way_closes : (T : Texts) (left rest after before now : Option (List ℕ)) (room less : ℕ) (p next : Pending) (more : Bool)
    (Was : Answering)
    → IsUnderWay T left rest before now room (Was p before now) → TakesMore p next rest after room less more → more ≡ false → IsUnderWay T left after before now room (Was next before now)
way_closes T left rest after before now room less p next more Was way takes ended =
    let none : takes.bytes ≡ [] = (takes.at_end ended).0 in
    let all : way.taken ++ takes.bytes ≡ way.taken = ap (λ (bs : List ℕ). way.taken ++ bs) none ∙ append-nil way.taken in
    record {
      taken = way.taken;
      consumed = subst (Consumes left after) all (consumes_both left rest after way.taken takes.bytes way.consumed takes.taken);
      counted = way.counted;
      talk = subst (λ (q : Pending). Was q before now way.taken) (sym (same_pending p next takes.bytes takes.joins none)) way.talk;
      whole = way.whole;
    }

pub way_breaks_last : (T : Texts) (left rest before now past : Option (List ℕ)) (room : ℕ) (Is : List ℕ → Type 0)
    → IsUnderWay T left rest before now room Is → ((taken : List ℕ) → Is taken → AnswersInPart T before past rest taken)
    → HasTaken left rest (AnswersInPart T before past rest)
way_breaks_last T left rest before now past room Is way breaks = (way.taken, way.consumed, omega (arith, way.counted), breaks way.taken way.talk)

pub way_stops_last : (T : Texts) (left rest before now past : Option (List ℕ)) (room : ℕ) (Is : List ℕ → Type 0)
    → IsUnderWay T left rest before now room Is → ((taken : List ℕ) → Is taken → AnswersFirst T before past taken)
    → HasTaken left rest (AnswersFirst T before past)
way_stops_last T left rest before now past room Is way stops = (way.taken, way.consumed, omega (arith, way.counted), stops way.taken way.talk)

-- nothing was read, and nothing was written
pub way_stops_first : {A : Type 0} (M : Machine A) (first : A) (left before : Option (List ℕ)) → HasTaken left left (AnswersFirst (texts_of M first) before before)
way_stops_first M first left before = ([], consumes_none left, omega arith, first_begins M first before)

-- the answer says whether all was good
pub way_ends : (T : Texts) (left rest before now past : Option (List ℕ)) (room : ℕ) (Is : List ℕ → Type 0) (good : Bool)
    → IsUnderWay T left rest before now room Is → IsAtEnd rest
    → ((taken : List ℕ) → Is taken → (text : List ℕ) × T taken text good × Appends before past text)
    → HasAnswers T left before past good
way_ends T left rest before now past room Is good way end whole =
    all_taken left rest way.taken (λ script. (length script ≤ 1048576) × ((text : List ℕ) × T script text good × Appends before past text))
    way.consumed end (omega (arith, way.counted), whole way.taken way.talk)

pub nothing_is_open : (p : Pending) → p ≡ nothing → IsOpen p
nothing_is_open p is = subst IsOpen (sym is) (record { unended = All-nil (λ b. (b == 10) ≡ false); small = omega arith })
