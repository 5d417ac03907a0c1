-- The attributes that move, one more at a time.
use Rattle.std.proofs.Common.{◌≡◌, ◌≢◌, ◌∙◌, ℕ, ◌+◌, ◌<◌, List, [], ◌∷◌, ◌++◌, length, take, get_or, refl, sym, ap, subst, arith, All, AllPairs, Contains, append-nil}
use Rattle.std.proofs.lemmas.List.{get_or-take, get_or_default, length-take-le, take_more}
use Rattle.std.proofs.lemmas.List.Elements.{All-contains, All-nil, All-push, All-weaker, Contains-append_left, Contains-push}
use Rattle.std.proofs.lemmas.List.Quantifiers.{all_pairs_push}
use Rattle.frac_core.specs.Fraction.{Fraction}
use Rattle.problem_core.specs.declared.parts.Stay.{Stay}
use Rattle.problem_core.specs.Layout.{HasStay, Problem}
use Rattle.problem_core.specs.Gaps.{value_of}
use Rattle.problem_core.specs.Numbers.{AreNumbersOf}
use Rattle.problem_core.proofs.StayNumbers.{is_held, is_there}
use Rattle.layout_solver.specs.Layouts.{Layout}
use Rattle.diagnosis.specs.declared.probing.Answer.{Answer}
use Rattle.diagnosis.specs.declared.probing.Answer.TheVariants.{Fixed, Moves}
use Rattle.diagnosis.specs.Ambiguity.{IsAmbiguous}
use Rattle.diagnosis.specs.Probes.{AreMoving, AreMovingAmong, CanProbe, CanProbeAll, IsAnswer, listed}
use Rattle.diagnosis.proofs.UnmetRows.{front-all}

-- ---- one more

-- an attribute more, which doesn't move
moving_skip : (p : Problem) (values : List (ℕ × Fraction)) (attrs : List ℕ) (moving : List (ℕ × Fraction)) (attr : ℕ) → (IsAmbiguous p attr → ⊥) → AreMovingAmong p values attrs moving → AreMovingAmong p values (attrs ++ attr ∷ []) moving
moving_skip p values attrs moving attr fixed are = record {
  answers = are.answers;
  among = All-weaker (λ m. Contains attrs m.0) (λ m. Contains (attrs ++ attr ∷ []) m.0) (λ m. Contains-append_left attrs (attr ∷ []) m.0) moving are.among;
  rising = are.rising;
  all = All-push (λ a. All (λ m. m.0 ≢ a) moving → IsAmbiguous p a → ⊥) attrs attr are.all (λ apart. fixed);
}

-- what is listed so far has lesser numbers
listed-below : (p : Problem) (values : List (ℕ × Fraction)) (attrs : List ℕ) (moving : List (ℕ × Fraction)) (attr : ℕ) → All (λ a. a < attr) attrs → AreMovingAmong p values attrs moving → All (λ m. m.0 < attr) moving
listed-below p values attrs moving attr below are = All-weaker (λ m. Contains attrs m.0) (λ m. m.0 < attr) (λ m. All-contains (λ a. a < attr) attrs m.0 below) moving are.among

-- an attribute more, which moves
moving_push : (p : Problem) (values : List (ℕ × Fraction)) (attrs : List ℕ) (moving : List (ℕ × Fraction)) (attr : ℕ) (f : Fraction) → All (λ a. a < attr) attrs → IsAnswer p attr (value_of values attr) (Moves f) → AreMovingAmong p values attrs moving
    → AreMovingAmong p values (attrs ++ attr ∷ []) (moving ++ (attr, f) ∷ [])
moving_push p values attrs moving attr f below answer are = record {
  answers = All-push (λ m. IsAnswer p m.0 (value_of values m.0) (Moves m.1)) moving (attr, f) are.answers answer;
  among = All-push (λ m. Contains (attrs ++ attr ∷ []) m.0) moving (attr, f) (All-weaker (λ m. Contains attrs m.0) (λ m. Contains (attrs ++ attr ∷ []) m.0) (λ m. Contains-append_left attrs (attr ∷ []) m.0) moving are.among) (Contains-push attrs attr);
  rising = all_pairs_push (λ m n. m.0 < n.0) moving (attr, f) are.rising (listed-below p values attrs moving attr below are);
  all = All-push (λ a. All (λ m. m.0 ≢ a) (moving ++ (attr, f) ∷ []) → IsAmbiguous p a → ⊥) attrs attr
      (λ i d within apart. are.all i d within (front-all (λ m. m.0 ≢ get_or attrs i d) moving (attr, f) apart).0)
      (λ apart. absurd ((front-all (λ m. m.0 ≢ attr) moving (attr, f) apart).1 refl));
}

-- by what is answered
pub next_answered : (p : Problem) (values : List (ℕ × Fraction)) (attrs : List ℕ) (moving new : List (ℕ × Fraction)) (attr : ℕ) (answer : Answer) → All (λ a. a < attr) attrs → IsAnswer p attr (value_of values attr) answer → new ≡ moving ++ listed attr answer → AreMovingAmong p values attrs moving
    → AreMovingAmong p values (attrs ++ attr ∷ []) new
next_answered p values attrs moving new attr Fixed below fixed e are = subst (AreMovingAmong p values (attrs ++ attr ∷ [])) (sym (e ∙ append-nil moving)) (moving_skip p values attrs moving attr fixed are)
next_answered p values attrs moving new attr (Moves f) below answer e are = subst (AreMovingAmong p values (attrs ++ attr ∷ [])) (sym e) (moving_push p values attrs moving attr f below answer are)

-- ---- the loop

pub moving_none : (p : Problem) (values : List (ℕ × Fraction)) → AreMovingAmong p values [] []
moving_none p values = record {
  answers = All-nil (λ (m : ℕ × Fraction). IsAnswer p m.0 (value_of values m.0) (Moves m.1));
  among = All-nil (λ (m : ℕ × Fraction). Contains [] m.0);
  rising = λ i j d less within. absurd (omega (arith, within));
  all = All-nil (λ (a : ℕ). All (λ (m : ℕ × Fraction). m.0 ≢ a) [] → IsAmbiguous p a → ⊥);
}

-- those before the i-th are lesser
lesser-before : (attrs : List ℕ) (i : ℕ) → AllPairs (λ a b. a < b) attrs → i < length attrs → All (λ a. a < get_or attrs i 0) (take i attrs)
lesser-before attrs i rising within k d short =
    let less : k < i = omega (arith, short, length-take-le i attrs (omega (arith, within))) in
    let low : get_or attrs k 0 < get_or attrs i 0 = rising k i 0 less within in
    let a : get_or (take i attrs) k d ≡ get_or attrs k d = get_or-take i attrs k d less in
    let b : get_or attrs k d ≡ get_or attrs k 0 = get_or_default attrs k d 0 (omega (arith, less, within)) in
    omega (arith, low, a, b)

-- with the i-th as well, by an engine that is as before
pub next_among : (l here : Layout) (attrs : List ℕ) (moving new : List (ℕ × Fraction)) (i : ℕ) → here ≡ l → AllPairs (λ a b. a < b) attrs → i < length attrs
    → ((done : List ℕ) → All (λ a. a < get_or attrs i 0) done → AreMovingAmong here.problem here.values done moving → AreMovingAmong here.problem here.values (done ++ get_or attrs i 0 ∷ []) new)
    → AreMovingAmong l.problem l.values (take i attrs) moving → AreMovingAmong l.problem l.values (take (i + 1) attrs) new
next_among l here attrs moving new i same rising within step are =
    subst (λ (k : Layout). AreMovingAmong k.problem k.values (take (i + 1) attrs) new) same
    (subst (λ (done : List ℕ). AreMovingAmong here.problem here.values done new) (sym (take_more attrs i 0 within))
    (step (take i attrs) (lesser-before attrs i rising within)
    (subst (λ (k : Layout). AreMovingAmong k.problem k.values (take i attrs) moving) (sym same) are)))

pub next_held : (l here : Layout) (attrs : List ℕ) (i : ℕ) → here ≡ l → All (HasStay l.problem.stays) attrs → i < length attrs → HasStay here.problem.stays (get_or attrs i 0)
next_held l here attrs i same held within = subst (λ (k : Layout). HasStay k.problem.stays (get_or attrs i 0)) (sym same) (held i 0 within)

-- ---- all of them

-- an attribute that has a stay can be probed
pub can_of : (l : Layout) (attr : ℕ) → CanProbeAll l → HasStay l.problem.stays attr → CanProbe l attr
can_of l attr can (i, s, within, is, same) = subst (CanProbe l) (ap (λ (t : Stay). t.attr) is ∙ same) (can i s within)

-- those that move among the stays' numbers are those among the stays
pub moving_of : (p : Problem) (values : List (ℕ × Fraction)) (attrs : List ℕ) (moving : List (ℕ × Fraction)) → AreNumbersOf p.stays attrs → AreMovingAmong p values attrs moving → AreMoving p values p.stays moving
moving_of p values attrs moving are_all are = record {
  answers = are.answers;
  among = All-weaker (λ m. Contains attrs m.0) (λ m. HasStay p.stays m.0) (λ m. is_held p.stays attrs are_all m.0) moving are.among;
  rising = are.rising;
  all = λ i s within. All-contains (λ a. All (λ m. m.0 ≢ a) moving → IsAmbiguous p a → ⊥) attrs (get_or p.stays i s).attr are.all (is_there p.stays attrs are_all (get_or p.stays i s).attr (i, get_or p.stays i s, within, get_or_default p.stays i (get_or p.stays i s) s within, refl));
}
