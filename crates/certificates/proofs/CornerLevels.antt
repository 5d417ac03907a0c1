-- A corner's own levels, one more at a time.
use Rattle.std.proofs.Common.{◌≡◌, ◌≢◌, ◌∙◌, inl, inr, ℕ, zero, suc, ◌+◌, ◌<◌, ◌≤◌, List, [], ◌∷◌, ◌++◌, length, take, get_or, ℤ, pos, ◌*ℤ◌, ◌<ℤ◌, unsigned_abs, refl, sym, ap, subst, arith, All, AllPairs, Contains, OnOk, IfOk}
use Rattle.std.specs.Int.{◌∣◌}
use Rattle.std.specs.List.{AllByRecursion as Each}
use Rattle.std.specs.declared.result.Result.{Result}
use Rattle.std.specs.declared.result.Result.TheVariants.{Ok, Err}
use Rattle.std.proofs.lemmas.List.{take_all, take_more, get_or-take, get_or_default, length-take-le}
use Rattle.std.proofs.lemmas.List.Elements.{All-from_recursion, All-push, recursion_from_All}
use Rattle.std.proofs.lemmas.List.Quantifiers.{all_pairs_push}
use Rattle.frac_core.specs.Fraction.{IsFitting}
use Rattle.problem_core.specs.declared.parts.Level.{Level}
use Rattle.problem_core.specs.declared.parts.Level.TheVariants.{Priority, Stay as StayLevel}
use Rattle.problem_core.specs.declared.parts.Mark.{Mark}
use Rattle.problem_core.specs.declared.parts.RowName.{RowName}
use Rattle.problem_core.specs.Layout.{Problem, lines}
use Rattle.cert_core.specs.declared.by.By.{By}
use Rattle.cert_core.specs.Claims.{BestLevel, IsLevel, IsRanked}
use Rattle.cert_checker.specs.LinePlaces.{names}
use Rattle.corner_view.specs.Seen.{IsInUse, IsKeptCorner, IsStronger}
use Rattle.certificates.specs.OwnLevels.{HasNoNeed, IsOwnBest, IsOwnLevel, multiplied, nonzero_times}
use Rattle.certificates.specs.Reading.{AreNumbersAt, IsPushed}
use Rattle.certificates.proofs.Factors.{no_factor}
use Rattle.certificates.proofs.MultiplierLists.{DifferentRows, all_different, each_line, multiplied_different, names_different, none_written, nonzero_different}
use Rattle.certificates.proofs.Numbers.{numbers_exist}
use Rattle.corner_view.proofs.Facts.{positive_is, used_level as used_is_level}

-- ---- one level

abbrev IsRead : Problem → List Mark → Level → List By → Type 0
IsRead p at level items = (scale : ℕ) (times : RowName → ℤ) → AreNumbersAt p at level scale times → items ≡ nonzero_times times (names p)

pub needless : (p : Problem) (at : List Mark) (level : Level) (items : List By) → IsKeptCorner p at → IsInUse p level → IsRead p at level items → items ≡ [] → HasNoNeed p at level
needless p at level items kept used read empty =
    let n = numbers_exist p at level kept (used_is_level p level used) in
    let are = n.2 in (
      are.number,
      are.place,
      (
        n.0,
        n.1,
        are.reduced,
        are.writing,
        All-from_recursion (λ l. n.1 l.name ≡ pos 0) (lines p)
            (each_line (λ name. n.1 name ≡ pos 0) (lines p) (none_written n.1 (names p) (names_different p kept.whole) (sym (read n.0 n.1 are) ∙ empty))),
      ),
    )

-- what is read of a level, and what is divided by the common factor
pub record Divided (p : Problem) (at : List Mark) (level : Level) (items : List By) (scale factor low : ℤ) (by : List By) : Type 0 where
  pub read : (scale : ℕ) (times : RowName → ℤ) → AreNumbersAt p at level scale times → items ≡ nonzero_times times (names p)
  pub scale_is : (s : ℕ) (times : RowName → ℤ) → AreNumbersAt p at level s times → scale ≡ pos s
  pub above : pos 0 <ℤ factor
  pub greatest : (k : ℕ) → k ∣ unsigned_abs scale → All (λ b. k ∣ unsigned_abs b.times) items → k ∣ unsigned_abs factor
  pub low_is : factor *ℤ low ≡ scale
  pub by_is : multiplied (unsigned_abs factor) by ≡ items

pub own_level : (p : Problem) (at : List Mark) (level : Level) (items : List By) (scale factor low : ℤ) (by : List By) → IsKeptCorner p at → IsInUse p level → Divided p at level items scale factor low by
    → IsOwnLevel p at (record { level = level; scale = low; by = by })
own_level p at level items scale factor low by kept used d =
    let n = numbers_exist p at level kept (used_is_level p level used) in
    let are = n.2 in
    let f = positive_is factor d.above in
    let same : pos (unsigned_abs factor) *ℤ low ≡ scale = ap (λ (z : ℤ). z *ℤ low) f.1 ∙ d.low_is in
    record {
      number = are.number;
      place = are.place;
      scale = n.0;
      times = n.1;
      reduced = are.reduced;
      writing = are.writing;
      factor = unsigned_abs factor;
      scale_is = same ∙ d.scale_is n.0 n.1 are;
      by_is = d.by_is ∙ d.read n.0 n.1 are;
      lowest = no_factor (unsigned_abs factor) scale low items by f.0 same d.by_is d.greatest;
    }

is-ranked : (p : Problem) (level : Level) → IsInUse p level → IsRanked level
is-ranked p (Priority rank) (i, x, within, is, h) = omega (arith, h)
is-ranked p (StayLevel attr) used = tt

pub level_kept : (p : Problem) (at : List Mark) (level : Level) (items : List By) (factor : ℕ) (low : ℤ) (by : List By) → IsKeptCorner p at → IsInUse p level → IsRead p at level items → multiplied factor by ≡ items → IsFitting low → All (λ b. IsFitting b.times) by
    → IsLevel (record { level = level; scale = low; by = by })
level_kept p at level items factor low by kept used read same fits all =
    let n = numbers_exist p at level kept (used_is_level p level used) in
    record {
      ranked = is-ranked p level used;
      scale = fits;
      by = record {
        fitting = all;
        apart = all_different by (multiplied_different factor by (subst DifferentRows (sym (same ∙ read n.0 n.1 n.2)) (nonzero_different n.1 (names p) (names_different p kept.whole))));
      };
    }

pub not_empty : (factor : ℕ) (by items : List By) → multiplied factor by ≡ items → items ≢ [] → by ≢ []
not_empty factor by items e some none = some (sym e ∙ ap (multiplied factor) none)

pub ok_gives : {A E : Type 0} (r : Result A E) (P Q : Type 0) → (P → Q) → IfOk r (λ _. P) → OnOk r Q
ok_gives (Ok x) P Q f h = f h
ok_gives (Err e) P Q f h = tt

-- ---- all levels

pub record Own (p : Problem) (at : List Mark) (done : List Level) (levels : List BestLevel) : Type 0 where
  pub own : All (IsOwnLevel p at) levels
  pub needed : All (λ l. l.by ≢ []) levels
  pub order : AllPairs (λ l m. IsStronger p l.level m.level) levels
  pub among : All (λ l. Contains done l.level) levels
  pub missing : All (λ level. All (λ l. l.level ≢ level) levels → HasNoNeed p at level) done

more-among : (done : List Level) (level : Level) (levels : List BestLevel) → All (λ l. Contains done l.level) levels → All (λ l. Contains (done ++ level ∷ []) l.level) levels
more-among done level levels h i d within =
    let c = h i d within in
    front done level (get_or levels i d).level c
  where
    front : (xs : List Level) (x y : Level) → Contains xs y → Contains (xs ++ x ∷ []) y
    front [] x y (k, short, is) = absurd (omega (arith, short))
    front (z ∷ xs) x y (zero, short, is) = (0, omega arith, is)
    front (z ∷ xs) x y (suc k, short, is) = let r = front xs x y (k, omega (arith, short), is) in (suc r.0, (let less = r.1 in omega (arith, less)), r.2)

last-among : (done : List Level) (level : Level) → Contains (done ++ level ∷ []) level
last-among [] level = (0, omega arith, refl)
last-among (x ∷ done) level = let r = last-among done level in (suc r.0, (let less = r.1 in omega (arith, less)), r.2)

both-parts : (P : BestLevel → Type 0) (xs : List BestLevel) (x : BestLevel) → Each P (xs ++ x ∷ []) → Each P xs × P x
both-parts P [] x e = (tt, e.0)
both-parts P (y ∷ xs) x e = let r = both-parts P xs x e.1 in ((e.0, r.0), r.1)

front-all : (P : BestLevel → Type 0) (xs : List BestLevel) (x : BestLevel) → All P (xs ++ x ∷ []) → All P xs × P x
front-all P xs x h =
    let r = both-parts P xs x (recursion_from_All P (xs ++ x ∷ []) h) in
    (All-from_recursion P xs r.0, r.1)

own-skip : (p : Problem) (at : List Mark) (done : List Level) (level : Level) (levels : List BestLevel) → Own p at done levels → HasNoNeed p at level → Own p at (done ++ level ∷ []) levels
own-skip p at done level levels h need = record {
  own = h.own;
  needed = h.needed;
  order = h.order;
  among = more-among done level levels h.among;
  missing = All-push (λ level. All (λ l. l.level ≢ level) levels → HasNoNeed p at level) done level h.missing (λ none. need);
}

own-push : (p : Problem) (at : List Mark) (done : List Level) (levels : List BestLevel) (l : BestLevel) → Own p at done levels → All (λ a. IsStronger p a l.level) done → IsOwnLevel p at l → l.by ≢ [] → Own p at (done ++ l.level ∷ []) (levels ++ l ∷ [])
own-push p at done levels l h stronger own some = record {
  own = All-push (IsOwnLevel p at) levels l h.own own;
  needed = All-push (λ m. m.by ≢ []) levels l h.needed some;
  order = all_pairs_push (λ a b. IsStronger p a.level b.level) levels l h.order (λ i d within. stronger-in (get_or levels i d).level (h.among i d within));
  among = All-push (λ m. Contains (done ++ l.level ∷ []) m.level) levels l (more-among done l.level levels h.among) (last-among done l.level);
  missing = All-push (λ level. All (λ m. m.level ≢ level) (levels ++ l ∷ []) → HasNoNeed p at level) done l.level
      (λ i d within none. h.missing i d within (front-all (λ m. m.level ≢ get_or done i d) levels l none).0)
      (λ none. absurd ((front-all (λ m. m.level ≢ l.level) levels l none).1 refl));
}
  where
    stronger-in : (a : Level) → Contains done a → IsStronger p a l.level
    stronger-in a (k, within, is) = subst (λ (b : Level). IsStronger p b l.level) is (stronger k a within)

own-moved : (p : Problem) (at : List Mark) (done : List Level) (level : Level) (old new : List BestLevel) (l : BestLevel) → Own p at done old → All (λ a. IsStronger p a level) done → new ≡ old ++ l ∷ [] → l.level ≡ level → IsOwnLevel p at l → l.by ≢ [] → Own p at (done ++ level ∷ []) new
own-moved p at done level old new l h stronger e same own some =
    subst (Own p at (done ++ level ∷ [])) (sym e)
    (subst (λ (a : Level). Own p at (done ++ a ∷ []) (old ++ l ∷ [])) same (own-push p at done old l h (subst (λ (a : Level). All (λ b. IsStronger p b a) done) (sym same) stronger) own some))

own-next : (p : Problem) (at : List Mark) (done : List Level) (level : Level) (old new : List BestLevel) → Own p at done old → All (λ a. IsStronger p a level) done → IsPushed p at level old new → Own p at (done ++ level ∷ []) new
own-next p at done level old new h stronger (inl (e, need)) = subst (Own p at (done ++ level ∷ [])) (sym e) (own-skip p at done level old h need)
own-next p at done level old new h stronger (inr (l, e, same, own, some)) = own-moved p at done level old new l h stronger e same own some

-- all earlier levels are stronger
earlier-stronger : (p : Problem) (all : List Level) (i : ℕ) (level : Level) → AllPairs (IsStronger p) all → i < length all → level ≡ get_or all i level → All (λ a. IsStronger p a level) (take i all)
earlier-stronger p all i level order within is = λ k d short.
    let less : k < i = omega (arith, short, length-take-le i all (omega (arith, within))) in
    subst (λ (a : Level). IsStronger p a level) (sym (get_or-take i all k d less))
    (subst (λ (b : Level). IsStronger p (get_or all k d) b) (sym is) (subst (λ (b : Level). IsStronger p (get_or all k d) b) (get_or_default all i d level within) (order k i d less within)))

pub own_more : (p : Problem) (at : List Mark) (all : List Level) (i : ℕ) (level : Level) (old new : List BestLevel) → AllPairs (IsStronger p) all → i < length all → level ≡ get_or all i level → Own p at (take i all) old → IsPushed p at level old new → Own p at (take (i + 1) all) new
own_more p at all i level old new order within is h pushed =
    subst (λ (done : List Level). Own p at done new) (ap (λ (a : Level). take i all ++ a ∷ []) is ∙ sym (take_more all i level within))
    (own-next p at (take i all) level old new h (earlier-stronger p all i level order within is) pushed)

-- what is at the end comes after all that is
pub stronger_than_next : (p : Problem) (at : List Mark) (all : List Level) (i : ℕ) (level : Level) (levels : List BestLevel) → AllPairs (IsStronger p) all → i < length all → level ≡ get_or all i level → Own p at (take i all) levels → All (λ l. IsStronger p l.level level) levels
stronger_than_next p at all i level levels order within is h k d short =
    let c = h.among k d short in
    let s = earlier-stronger p all i level order within is in
    subst (λ (b : Level). IsStronger p b level) c.2 (s c.0 (get_or levels k d).level c.1)

pub own_all : (p : Problem) (at : List Mark) (all : List Level) (i : ℕ) (levels : List BestLevel) → ((level : Level) → IsInUse p level → Contains all level) → length all ≤ i → Own p at (take i all) levels → IsOwnBest p at levels
own_all p at all i levels has over h =
    let o : Own p at all levels = subst (λ (done : List Level). Own p at done levels) (take_all i all over) h in
    record {
      own = o.own;
      needed = o.needed;
      order = o.order;
      missing = λ level used none.
          let c = has level used in
          subst (HasNoNeed p at) c.2 (o.missing c.0 level c.1 (subst (λ (a : Level). All (λ l. l.level ≢ a) levels) (sym c.2) none));
    }

-- ---- as the loop reads them

pub used_at : (p : Problem) (xs ys : List Level) (i : ℕ) (d : Level) → xs ≡ ys → i < length xs → All (IsInUse p) ys → IsInUse p (get_or xs i d)
used_at p xs ys i d e within all = subst (All (IsInUse p)) (sym e) all i d within

pub itself : (xs : List Level) (i : ℕ) (d : Level) → i < length xs → get_or xs i d ≡ get_or xs i (get_or xs i d)
itself xs i d within = get_or_default xs i d (get_or xs i d) within

pub no_items : {X : Type 0} (xs : List X) → length xs ≡ 0 → xs ≡ []
no_items [] e = refl
no_items (x ∷ xs) e = absurd (omega (arith, e))
