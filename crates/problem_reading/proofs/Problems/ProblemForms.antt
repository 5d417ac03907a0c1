-- What is read line by line is a front of a problem's lines, and the other way round.
use Rattle.std.proofs.Common.{◌≡◌, ◌≢◌, ◌∙◌, ℕ, zero, suc, ◌<◌, List, [], ◌∷◌, ◌++◌, length, map, All, refl, sym, ap, subst, arith, inl, inr}
use Rattle.std.specs.Prelude.{AllPairs}
use Rattle.std.proofs.lemmas.List.{append_assoc, append-nil, map-append, length-append}
use Rattle.std.proofs.lemmas.List.Elements.{All-append, All-from_recursion, All-nil, All-weaker}
use Rattle.std.proofs.lemmas.List.Quantifiers.{all_pairs_push}
use Rattle.problem_core.specs.declared.parts.Stay.{Stay}
use Rattle.problem_core.specs.declared.parts.Term.{Term}
use Rattle.problem_core.specs.Kept.{IsRow, IsStay}
use Rattle.problem_core.specs.Layout.{HasStay, IsCovered, Problem, Row}
use Rattle.problem_reading.specs.declared.problem.items.Item.{Item}
use Rattle.problem_reading.specs.declared.problem.items.Item.TheVariants.{Nothing, OfRow, OfStay}
use Rattle.problem_reading.specs.Stops.{bad_line}
use Rattle.problem_reading.specs.Words.{words}
use Rattle.claim_writing.specs.Lines.{row_line, row_words, stay_line, stay_words}
use Rattle.problem_reading.specs.Problems.{HasStayLine, IsPassedOver, MayFollow, ReadFrom, Reads, Says, Step, IsProblemStop, nothing_read, with_item}
use Rattle.problem_reading.specs.ProblemForms.{AreParts, AreProblemLines, IsFirstOutsideProblem, IsProblemFront, ProblemsAreTheForm, Shows, problem_lines}
use Rattle.problem_reading.proofs.Problems.Readings.{read_more, whole_read}
use Rattle.problem_reading.proofs.LineLists.{longer, same-number, line-is}
use Rattle.problem_reading.proofs.Problems.RoundTrip.{no_bad_line, one_reading, row_words_are, stay_words_are, problem_from, read_split as read-split}
use Rattle.problem_reading.proofs.Rising.{All-at_end, All-last}
use Rattle.frac_core.proofs.Lists.{all-front as All-front, pairs-front as AllPairs-front}

-- ---- lists of lines

shows-more : (xs ws : List (List ℕ)) (line : List ℕ) → Shows xs ws → Shows (xs ++ line ∷ []) (ws ++ line ∷ [])
shows-more [] ws line h = inr ([], ap (λ (vs : List (List ℕ)). vs ++ line ∷ []) h, refl)
shows-more (x ∷ xs) ws line (inl (over, h)) = inl (over, shows-more xs ws line h)
shows-more (x ∷ xs) ws line (inr (rest, is, h)) = inr (rest ++ line ∷ [], ap (λ (vs : List (List ℕ)). vs ++ line ∷ []) is, shows-more xs rest line h)

shows-over : (xs ws : List (List ℕ)) (line : List ℕ) → IsPassedOver line → Shows xs ws → Shows (xs ++ line ∷ []) ws
shows-over [] ws line over h = inl (over, h)
shows-over (x ∷ xs) ws line over (inl (too, h)) = inl (too, shows-over xs ws line over h)
shows-over (x ∷ xs) ws line over (inr (rest, is, h)) = inr (rest, is, shows-over xs rest line over h)

row-more : (rows : List Row) (stays : List Stay) (r : Row) → stays ≡ [] → (map row_line rows ++ map stay_line stays) ++ row_line r ∷ [] ≡ map row_line (rows ++ r ∷ []) ++ map stay_line stays
row-more rows stays r none =
    ap (λ (ss : List Stay). (map row_line rows ++ map stay_line ss) ++ row_line r ∷ []) none ∙ ap (λ (ls : List (List ℕ)). ls ++ row_line r ∷ []) (append-nil (map row_line rows))
    ∙ sym (map-append row_line rows (r ∷ [])) ∙ sym (append-nil (map row_line (rows ++ r ∷ []))) ∙ ap (λ (ss : List Stay). map row_line (rows ++ r ∷ []) ++ map stay_line ss) (sym none)

stay-more : (rows : List Row) (stays : List Stay) (s : Stay) → (map row_line rows ++ map stay_line stays) ++ stay_line s ∷ [] ≡ map row_line rows ++ map stay_line (stays ++ s ∷ [])
stay-more rows stays s = append_assoc (map row_line rows) (map stay_line stays) (stay_line s ∷ []) ∙ ap (λ (ls : List (List ℕ)). map row_line rows ++ ls) (sym (map-append stay_line stays (s ∷ [])))

-- ---- one line more

-- the front says the rows and stays
record IsSaid (all : List (List ℕ)) (p : Problem) (ls : List (List ℕ)) : Type 0 where
  parts : AreParts all p
  shows : Shows ls (problem_lines p)

last-one : {X : Type 0} (P : X → Type 0) (x : X) → P x → All P (x ∷ [])
last-one P x h = All-from_recursion P (x ∷ []) (h, tt)

module _ (all : List (List ℕ)) (p : Problem) (ls : List (List ℕ)) (line : List ℕ) (h : IsSaid all p ls) where
  of-row : (r : Row) → Says line (OfRow r) → MayFollow (HasStayLine all) p (OfRow r) → IsSaid all (with_item p (OfRow r)) (ls ++ line ∷ [])
  of-row r says may = record {
    parts = record {
      rows = All-append IsRow p.rows (r ∷ []) h.parts.rows (last-one IsRow r says.0);
      stays = h.parts.stays;
      rising = all_pairs_push (λ (q s : Row). q.id < s.id) p.rows r h.parts.rising may.rises;
      apart = h.parts.apart;
      covered = All-append (λ (q : Row). All (λ t. HasStayLine all t.attr) q.terms) p.rows (r ∷ []) h.parts.covered (last-one (λ (q : Row). All (λ t. HasStayLine all t.attr) q.terms) r may.covered);
      small = record { rows = omega (arith, length-append p.rows (r ∷ []), may.room); stays = h.parts.small.stays };
    };
    shows = subst (Shows (ls ++ line ∷ [])) (row-more p.rows p.stays r may.first)
        (subst (λ (l : List ℕ). Shows (ls ++ line ∷ []) (problem_lines p ++ l ∷ [])) (line-is line (row_words r) says.1) (shows-more ls (problem_lines p) line h.shows));
  }

  of-stay : (s : Stay) → Says line (OfStay s) → MayFollow (HasStayLine all) p (OfStay s) → IsSaid all (with_item p (OfStay s)) (ls ++ line ∷ [])
  of-stay s says may = record {
    parts = record {
      rows = h.parts.rows;
      stays = All-append IsStay p.stays (s ∷ []) h.parts.stays (last-one IsStay s says.0);
      rising = h.parts.rising;
      apart = all_pairs_push (λ (q t : Stay). q.attr ≢ t.attr) p.stays s h.parts.apart may.fresh;
      covered = h.parts.covered;
      small = record { rows = h.parts.small.rows; stays = omega (arith, length-append p.stays (s ∷ []), may.room) };
    };
    shows = subst (Shows (ls ++ line ∷ [])) (stay-more p.rows p.stays s)
        (subst (λ (l : List ℕ). Shows (ls ++ line ∷ []) (problem_lines p ++ l ∷ [])) (line-is line (stay_words s) says.1) (shows-more ls (problem_lines p) line h.shows));
  }

  of-item : (item : Item) → Says line item → MayFollow (HasStayLine all) p item → IsSaid all (with_item p item) (ls ++ line ∷ [])
  of-item Nothing says may = record { parts = h.parts; shows = shows-over ls (problem_lines p) line says h.shows }
  of-item (OfRow r) says may = of-row r says may
  of-item (OfStay s) says may = of-stay s says may

  of-step : (new : Problem) → Step (HasStayLine all) p line new → IsSaid all new (ls ++ line ∷ [])
  of-step new step = subst (λ (q : Problem). IsSaid all q (ls ++ line ∷ [])) (sym step.is) (of-item step.item step.says step.may)

read-said : (all : List (List ℕ)) (old new : Problem) (ls xs : List (List ℕ)) → IsSaid all old ls → ReadFrom (HasStayLine all) old xs new → IsSaid all new (ls ++ xs)
read-said all old new ls [] h read = subst (λ (d : Problem). IsSaid all d (ls ++ [])) (sym read) (subst (IsSaid all old) (sym (append-nil ls)) h)
read-said all old new ls (line ∷ xs) h (mid, step, read) =
    subst (IsSaid all new) (append_assoc ls (line ∷ []) xs) (read-said all mid new (ls ++ line ∷ []) xs (of-step all old ls line h mid step) read)

nothing-said : (all : List (List ℕ)) → IsSaid all nothing_read []
nothing-said all = record {
  parts = record {
    rows = All-nil IsRow;
    stays = All-nil IsStay;
    rising = λ i j d less within. absurd (omega (arith, less, within));
    apart = λ i j d less within. absurd (omega (arith, less, within));
    covered = All-nil (λ (r : Row). All (λ t. HasStayLine all t.attr) r.terms);
    small = record { rows = omega arith; stays = omega arith };
  };
  shows = refl;
}

said : (all front : List (List ℕ)) (p : Problem) → ReadFrom (HasStayLine all) nothing_read front p → IsSaid all p front
said all front p read = read-said all nothing_read p [] front (nothing-said all) read

-- ---- from the form

module _ (all : List (List ℕ)) where
  abbrev H : ℕ → Type 0
  H = HasStayLine all

  row-step : (done : List Row) (r : Row) (more : List Row) (stays : List Stay) → AreParts all (problem_from (done ++ r ∷ more) stays) → Step H (problem_from done []) (row_line r) (problem_from (done ++ r ∷ []) [])
  unfolding problem_from
  row-step done r more stays are =
      let joined : done ++ r ∷ more ≡ (done ++ r ∷ []) ++ more = sym (append_assoc done (r ∷ []) more) in
      let each : All IsRow (done ++ r ∷ []) = All-front IsRow (done ++ r ∷ []) more (subst (All IsRow) joined are.rows) in
      let rising : AllPairs (λ (q s : Row). q.id < s.id) (done ++ r ∷ []) = AllPairs-front (λ (q s : Row). q.id < s.id) (done ++ r ∷ []) more (subst (AllPairs (λ (q s : Row). q.id < s.id)) joined are.rising) in
      let covered : All (λ (q : Row). All (λ t. H t.attr) q.terms) (done ++ r ∷ []) = All-front (λ (q : Row). All (λ t. H t.attr) q.terms) (done ++ r ∷ []) more (subst (All (λ (q : Row). All (λ t. H t.attr) q.terms)) joined are.covered) in
      let is : IsRow r = All-at_end IsRow done r each in
      record {
        item = OfRow r;
        says = (is, row_words_are r is);
        may = record {
          first = refl;
          rises = All-last (λ (q s : Row). q.id < s.id) done r rising;
          covered = All-at_end (λ (q : Row). All (λ t. H t.attr) q.terms) done r covered;
          room = omega (arith, length-append done (r ∷ more), are.small.rows);
        };
        is = refl;
      }

  stay-step : (rows : List Row) (done : List Stay) (s : Stay) (more : List Stay) → AreParts all (problem_from rows (done ++ s ∷ more)) → Step H (problem_from rows done) (stay_line s) (problem_from rows (done ++ s ∷ []))
  unfolding problem_from
  stay-step rows done s more are =
      let joined : done ++ s ∷ more ≡ (done ++ s ∷ []) ++ more = sym (append_assoc done (s ∷ []) more) in
      let each : All IsStay (done ++ s ∷ []) = All-front IsStay (done ++ s ∷ []) more (subst (All IsStay) joined are.stays) in
      let apart : AllPairs (λ (q t : Stay). q.attr ≢ t.attr) (done ++ s ∷ []) = AllPairs-front (λ (q t : Stay). q.attr ≢ t.attr) (done ++ s ∷ []) more (subst (AllPairs (λ (q t : Stay). q.attr ≢ t.attr)) joined are.apart) in
      let is : IsStay s = All-at_end IsStay done s each in
      record {
        item = OfStay s;
        says = (is, stay_words_are s is);
        may = record { fresh = All-last (λ (q t : Stay). q.attr ≢ t.attr) done s apart; room = omega (arith, length-append done (s ∷ more), are.small.stays) };
        is = refl;
      }

  over-step : (old : Problem) (line : List ℕ) → IsPassedOver line → Step H old line old
  over-step old line over = record { item = Nothing; says = over; may = tt; is = refl }

  tail-of : {x y : List ℕ} {xs ys : List (List ℕ)} → (x ∷ xs) ≡ (y ∷ ys) → (x ≡ y) × (xs ≡ ys)
  tail-of {xs = xs} e = (ap first e, ap rest e)
    where
      first : List (List ℕ) → List ℕ
      first [] = []
      first (z ∷ zs) = z

      rest : List (List ℕ) → List (List ℕ)
      rest [] = []
      rest (z ∷ zs) = zs

  none-left : {x : List ℕ} {xs : List (List ℕ)} → [] ≡ x ∷ xs → ⊥
  none-left {x = x} {xs = xs} e = let n : 0 ≡ length (x ∷ xs) = ap length e in absurd (omega (arith, n))

  read-stays : (ls : List (List ℕ)) (rows : List Row) (done todo : List Stay) → AreParts all (problem_from rows (done ++ todo)) → Shows ls (map stay_line todo) → ReadFrom H (problem_from rows done) ls (problem_from rows (done ++ todo))
  read-stays [] rows done [] are shows = ap (λ (ss : List Stay). problem_from rows ss) (append-nil done)
  read-stays [] rows done (s ∷ todo) are shows = absurd (none-left (sym shows))
  read-stays (line ∷ ls) rows done todo are (inl (over, shows)) = (problem_from rows done, over-step (problem_from rows done) line over, read-stays ls rows done todo are shows)
  read-stays (line ∷ ls) rows done [] are (inr (rest, is, shows)) = absurd (none-left is)
  read-stays (line ∷ ls) rows done (s ∷ todo) are (inr (rest, is, shows)) =
      let joined : (done ++ s ∷ []) ++ todo ≡ done ++ s ∷ todo = append_assoc done (s ∷ []) todo in
      let same = tail-of is in (
        problem_from rows (done ++ s ∷ []),
        subst (λ (l : List ℕ). Step H (problem_from rows done) l (problem_from rows (done ++ s ∷ []))) same.0 (stay-step rows done s todo are),
        subst (λ (ss : List Stay). ReadFrom H (problem_from rows (done ++ s ∷ [])) ls (problem_from rows ss)) joined
            (read-stays ls rows (done ++ s ∷ []) todo (subst (λ (ss : List Stay). AreParts all (problem_from rows ss)) (sym joined) are) (subst (Shows ls) (sym same.1) shows)),
      )

  read-rows : (ls : List (List ℕ)) (done todo : List Row) (stays : List Stay) → AreParts all (problem_from (done ++ todo) stays) → Shows ls (map row_line todo ++ map stay_line stays) → ReadFrom H (problem_from done []) ls (problem_from (done ++ todo) stays)
  read-rows ls done [] stays are shows =
      let none : done ++ [] ≡ done = append-nil done in
      subst (λ (rs : List Row). ReadFrom H (problem_from done []) ls (problem_from rs stays)) (sym none)
      (read-stays ls done [] stays (subst (λ (rs : List Row). AreParts all (problem_from rs stays)) none are) shows)
  read-rows [] done (r ∷ todo) stays are shows = absurd (none-left (sym shows))
  read-rows (line ∷ ls) done (r ∷ todo) stays are (inl (over, shows)) = (problem_from done [], over-step (problem_from done []) line over, read-rows ls done (r ∷ todo) stays are shows)
  read-rows (line ∷ ls) done (r ∷ todo) stays are (inr (rest, is, shows)) =
      let joined : (done ++ r ∷ []) ++ todo ≡ done ++ r ∷ todo = append_assoc done (r ∷ []) todo in
      let same = tail-of is in (
        problem_from (done ++ r ∷ []) [],
        subst (λ (l : List ℕ). Step H (problem_from done []) l (problem_from (done ++ r ∷ []) [])) same.0 (row-step done r todo stays are),
        subst (λ (rs : List Row). ReadFrom H (problem_from (done ++ r ∷ []) []) ls (problem_from rs stays)) joined
            (read-rows ls (done ++ r ∷ []) todo stays (subst (λ (rs : List Row). AreParts all (problem_from rs stays)) (sym joined) are) (subst (Shows ls) (sym same.1) shows)),
      )

  front-read : (front : List (List ℕ)) (p : Problem) → AreParts all p → Shows front (problem_lines p) → ReadFrom H nothing_read front p
  unfolding problem_from
  front-read front p are shows = read-rows front [] p.rows p.stays are shows

-- ---- whole problems

-- each stay has its line
stay-there : (ls : List (List ℕ)) (stays : List Stay) (front : List (List ℕ)) (attr : ℕ) → All IsStay stays → Shows ls (front ++ map stay_line stays) → HasStay stays attr → HasStayLine ls attr
stay-there [] stays front attr are shows (k, s, within, is, e) = absurd (omega (arith, within, ap length shows, length-append front (map stay_line stays), map-length stays))
  where
    map-length : (ss : List Stay) → length (map stay_line ss) ≡ length ss
    map-length [] = refl
    map-length (s ∷ ss) = ap suc (map-length ss)
stay-there (line ∷ ls) stays front attr are (inl (over, shows)) has = inr (stay-there ls stays front attr are shows has)
stay-there (line ∷ ls) stays (f ∷ front) attr are (inr (rest, is, shows)) has =
    inr (stay-there ls stays front attr are (subst (Shows ls) (sym (tail-of [] is).1) shows) has)
stay-there (line ∷ ls) [] [] attr are (inr (rest, is, shows)) (k, s, within, same, e) = absurd (omega (arith, within))
stay-there (line ∷ ls) (t ∷ stays) [] attr are (inr (rest, is, shows)) (zero, s, within, same, e) =
    let here = tail-of [] is in
    let of : IsStay t = are 0 t (omega arith) in
    inl (t, (of, subst (λ (l : List ℕ). words l ≡ stay_words t) here.0 (stay_words_are t of)), ap (λ (u : Stay). u.attr) same ∙ e)
stay-there (line ∷ ls) (t ∷ stays) [] attr are (inr (rest, is, shows)) (suc k, s, within, same, e) =
    inr (stay-there ls stays [] attr (λ i d less. are (suc i) d (omega (arith, less))) (subst (Shows ls) (sym (tail-of [] is).1) shows) (k, s, omega (arith, within), same, e))

read-form : (all : List (List ℕ)) (p : Problem) → Reads all p → AreProblemLines all p
read-form all p read = let h = said all all p read in record { whole = whole_read all p read; small = h.parts.small; shows = h.shows }

form-read : (all : List (List ℕ)) (p : Problem) → AreProblemLines all p → Reads all p
form-read all p are =
    front-read all all p
    (record {
      rows = are.whole.rows;
      stays = are.whole.stays;
      rising = are.whole.rising;
      apart = are.whole.apart;
      covered = All-weaker (IsCovered p.stays) (λ (r : Row). All (λ t. HasStayLine all t.attr) r.terms)
          (λ r h. All-weaker (λ (t : Term). HasStay p.stays t.attr) (λ (t : Term). HasStayLine all t.attr) (λ t has. stay-there all p.stays (map row_line p.rows) t.attr are.whole.stays are.shows has) r.terms h) p.rows are.whole.covered;
      small = are.small;
    })
    are.shows

-- ---- the first line outside

read-front : (all front : List (List ℕ)) (p : Problem) → ReadFrom (HasStayLine all) nothing_read front p → IsProblemFront all front
read-front all front p read = let h = said all front p read in (p, h.parts, h.shows)

bad-leaves : (all before : List (List ℕ)) (line : List ℕ) (d : Problem) → ReadFrom (HasStayLine all) nothing_read before d → ((new : Problem) → Step (HasStayLine all) d line new → ⊥) → IsProblemFront all (before ++ line ∷ []) → ⊥
bad-leaves all before line d read bad (p, are, shows) =
    let cut = read-split (HasStayLine all) before (line ∷ []) nothing_read p (front-read all (before ++ line ∷ []) p are shows) in
    let same : cut.0 ≡ d = one_reading (HasStayLine all) before nothing_read cut.0 d cut.1 read in
    bad cut.2.0 (subst (λ (m : Problem). Step (HasStayLine all) m line cut.2.0) same cut.2.1)

stop-outside : (all : List (List ℕ)) (n : ℕ) → IsProblemStop all (bad_line n) → IsFirstOutsideProblem all n
stop-outside all n bad = record {
  before = bad.before;
  line = bad.line;
  after = bad.after;
  parts = bad.parts;
  number = bad.number;
  front = read-front all bad.before bad.so_far bad.reads;
  leaves = bad-leaves all bad.before bad.line bad.so_far bad.reads bad.bad;
}

outside-stop : (all : List (List ℕ)) (n : ℕ) → IsFirstOutsideProblem all n → IsProblemStop all (bad_line n)
outside-stop all n h =
    let p : Problem = h.front.0 in
    let read : ReadFrom (HasStayLine all) nothing_read h.before p = front-read all h.before p h.front.1 h.front.2 in
    record {
      before = h.before;
      line = h.line;
      after = h.after;
      parts = h.parts;
      number = h.number;
      so_far = p;
      reads = read;
      bad = λ new step. h.leaves (read-front all (h.before ++ h.line ∷ []) new (read_more (HasStayLine all) h.before nothing_read p new h.line read step));
    }

-- ---- one line alone

shorter-front : (all xs rest : List (List ℕ)) → IsProblemFront all (xs ++ rest) → IsProblemFront all xs
shorter-front all xs rest (p, are, shows) =
    let cut = read-split (HasStayLine all) xs rest nothing_read p (front-read all (xs ++ rest) p are shows) in
    read-front all xs cut.0 cut.1

not-before : (all : List (List ℕ)) (m n : ℕ) (h : IsFirstOutsideProblem all m) (k : IsFirstOutsideProblem all n) → length h.before < length k.before → ⊥
not-before all m n h k less =
    let more = longer h.before k.before h.line h.after (k.line ∷ k.after) (sym h.parts ∙ k.parts) less in
    h.leaves (shorter-front all (h.before ++ h.line ∷ []) more.0 (subst (IsProblemFront all) more.1 k.front))

one-outside : (all : List (List ℕ)) (m n : ℕ) → IsFirstOutsideProblem all m → IsFirstOutsideProblem all n → m ≡ n
one-outside all m n h k = same-number (length h.before) (length k.before) m n h.number k.number (not-before all m n h k) (not-before all n m k h)

apart-outside : (all : List (List ℕ)) (p : Problem) (n : ℕ) → AreProblemLines all p → IsFirstOutsideProblem all n → ⊥
apart-outside all p n are h = no_bad_line all p n (form-read all p are) (outside-stop all n h)

pub problems-are-the-form : ProblemsAreTheForm
problems-are-the-form = record { read = read-form; form = form-read; stop = stop-outside; outside = outside-stop; one = one-outside; apart = apart-outside }
