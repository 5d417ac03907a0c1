-- The sums of ever more terms.
use Rattle.std.proofs.Common.{◌≡◌, ℕ, ◌+◌, ◌<◌, ◌≤◌, ◌^◌, List, [], ◌∷◌, ◌++◌, length, length-append, get_or, All, ℤ, pos, ◌*ℤ◌, refl, sym, subst, ap, ◌∙◌, arith, ◌⊎◌, inl, inr}
use Rattle.std.specs.Prelude.{unsigned_abs}
use borrow.Author.Differences.{ints}
use Rattle.std.proofs.lemmas.List.Elements.{All-push}
use Rattle.frac_core.specs.Fraction.{Fraction}
use Rattle.frac_core.proofs.Integers.{cancel_mul, mul-zero_ℤ}
use Rattle.std.proofs.Math.ListN.{get_or-map}
use Rattle.std.proofs.lemmas.List.{length-map}
use Rattle.problem_core.specs.Window.{zero_fraction}
use Rattle.compile_parts.specs.Fractions.{plus, IsOver, IsScale, MakesWhole, AreSmall}
use Rattle.compile_parts.specs.Addends.{Addend, addend_view, addends_view, first_of, with_addend}
use Rattle.compile_parts.specs.declared.addends.Addend as code
use Rattle.compile_parts.specs.Shares.{IsOff, share_fraction}
use Rattle.constraint_compile.specs.Coefficients.Sums.{AreKept, IsSum, IsCovered, AreScales, attr_at, number_at, with_share, IsSumWithShare, IsSumWithAddend, IsPastWithShare, IsPastWithAddend}
use Rattle.compile_parts.specs.declared.shares.Share.{Share}
use Rattle.constraint_compile.proofs.Sums.Joint.{find_place}
use Rattle.constraint_compile.proofs.Lists.{each_pushed_by}
use Rattle.compile_parts.proofs.Totals.{total_more, plus-zero}
use Rattle.frac_core.proofs.Numbers.{less-or-here as lt_or_eq}

-- ---- coefficients that are the same

abbrev pub AreSame : (ℕ → Fraction) → (ℕ → Fraction) → Type 0
AreSame b c = (v : ℕ) → b v ≡ c v

makes_same : (b c : ℕ → Fraction) (k : ℕ) → AreSame b c → MakesWhole k b → MakesWhole k c
makes_same b c k same makes = λ v. subst (λ (f : Fraction). (z : ℤ) × IsOver k f z) (same v) (makes v)

scale_same : (b c : ℕ → Fraction) (k : ℕ) → AreSame b c → IsScale b k → IsScale c k
scale_same b c k same is = record {
  above = is.above;
  whole = makes_same b c k same is.whole;
  least = λ j some makes. is.least j some (makes_same c b j (λ v. sym (same v)) makes);
}

pub small_same : (b c : ℕ → Fraction) → AreSame b c → AreSmall b → AreSmall c
small_same b c same are = record {
  scale = are.scale;
  is_scale = scale_same b c are.scale same are.is_scale;
  small_scale = are.small_scale;
  small = λ v z over. are.small v z (subst (λ (f : Fraction). IsOver are.scale f z) (sym (same v)) over);
}

pub sum_same : (b c : ℕ → Fraction) (attrs : List ℕ) (k : ℕ) (numbers : List ℤ) → AreSame b c → IsSum b attrs k numbers → IsSum c attrs k numbers
sum_same b c attrs k numbers same is = record {
  only = record {
    off = λ v off. subst (λ (f : Fraction). f.num ≡ pos 0) (same v) (is.only.off v off);
    above = λ v. subst (λ (f : Fraction). 0 < f.den) (same v) (is.only.above v);
  };
  over = λ i within. subst (λ (f : Fraction). IsOver k f (number_at numbers i)) (same (attr_at attrs i)) (is.over i within);
  is_scale = scale_same b c k same is.is_scale;
}

-- ---- the first sum

pub zero_sum : (attrs : List ℕ) (numbers : List ℤ) → length numbers ≡ length attrs → All (λ z. z ≡ pos 0) numbers → IsSum (λ v. zero_fraction) attrs 1 numbers
zero_sum attrs numbers long zeros = record {
  only = record { off = λ v off. refl; above = λ v. omega arith };
  over = λ i within. rw (zeros i (pos 0) (omega (arith, within, long))) refl;
  is_scale = record { above = omega arith; whole = λ v. (pos 0, refl); least = λ j some makes. some };
}

pub zero_kept : (attrs : List ℕ) (numbers : List ℤ) → length numbers ≡ length attrs → All (λ z. z ≡ pos 0) numbers → AreKept attrs 1 numbers
zero_kept attrs numbers long zeros = record {
  long = long;
  above = omega arith;
  small_scale = omega arith;
  small = λ k d within. rw (zeros k d within) (omega arith);
}

-- ---- one term more

pub same_share : (b : ℕ → Fraction) (a : Addend) (s : Share) → ((v : ℕ) → a.share v ≡ share_fraction s v) → AreSame (with_share b s) (with_addend b a)
same_share b a s same = λ v. ap (plus (b v)) (sym (same v))

pub same_none : (b : ℕ → Fraction) (a : Addend) → ((v : ℕ) → a.share v ≡ zero_fraction) → AreSame b (with_addend b a)
same_none b a same = λ v. sym (ap (plus (b v)) (same v) ∙ plus-zero (b v))

pub covered_by : (attrs : List ℕ) (a : Addend) (s : Share) → ((v : ℕ) → a.share v ≡ share_fraction s v) → ((v : ℕ) → IsOff attrs v → (a.share v).num ≡ pos 0) → IsCovered attrs s
covered_by attrs a s same off = λ v is. subst (λ (f : Fraction). f.num ≡ pos 0) (same v) (off v is)

-- what a share adds an addend with that share adds
pub sum_by : (attrs : List ℕ) (a : Addend) (s : Share) (scale next_scale : ℕ) (numbers next : List ℤ) → ((v : ℕ) → a.share v ≡ share_fraction s v) → IsSumWithShare attrs s scale numbers next_scale next → IsSumWithAddend attrs a scale numbers next_scale next
sum_by attrs a s scale next_scale numbers next same more = λ b sum off. sum_same (with_share b s) (with_addend b a) attrs next_scale next (same_share b a s same) (more b sum (covered_by attrs a s same off))

pub past_by : (attrs : List ℕ) (a : Addend) (s : Share) (scale : ℕ) (numbers : List ℤ) → ((v : ℕ) → a.share v ≡ share_fraction s v) → IsPastWithShare attrs s scale numbers → IsPastWithAddend attrs a scale numbers
past_by attrs a s scale numbers same past = λ b sum off small. past b sum (covered_by attrs a s same off) (small_same (with_addend b a) (with_share b s) (λ v. sym (same_share b a s same v)) small)

pub same_more : (added : List Addend) (i : ℕ) (d : Addend) → i < length added → AreSame (with_addend (first_of added i) (get_or added i d)) (first_of added (i + 1))
same_more added i d within = λ v. sym (total_more (λ (a : Addend). a.share v) added i d within)

-- ---- a sum is small

only_number : (k d : ℕ) (n x y : ℤ) → 0 < d → x *ℤ pos d ≡ pos k *ℤ n → y *ℤ pos d ≡ pos k *ℤ n → x ≡ y
only_number k d n x y some e f = cancel_mul d x y some (swap x ∙ e ∙ sym f ∙ sym (swap y))
  where
    swap : (x : ℤ) → pos d *ℤ x ≡ x *ℤ pos d
    swap x = omega (arith, ints)

pub zero_left : (d : ℕ) → pos 0 *ℤ pos d ≡ pos 0
zero_left d = omega (arith, ints)

pub small_sum : (b : ℕ → Fraction) (attrs : List ℕ) (k : ℕ) (numbers : List ℤ) → IsSum b attrs k numbers → AreKept attrs k numbers → AreSmall b
small_sum b attrs k numbers is kept = record {
  scale = k;
  is_scale = is.is_scale;
  small_scale = kept.small_scale;
  small = λ v z over. small_at v z over (find_place attrs v);
}
  where
    small_at : (v : ℕ) (z : ℤ) → IsOver k (b v) z → ((i : ℕ) × (i < length attrs) × (attr_at attrs i ≡ v)) ⊎ IsOff attrs v → unsigned_abs z ≤ 2 ^ 30
    small_at v z over (inl (i, within, at)) =
        let here : IsOver k (b v) (number_at numbers i) = subst (λ (w : ℕ). IsOver k (b w) (number_at numbers i)) at (is.over i within) in
        let same : z ≡ number_at numbers i = only_number k (b v).den (b v).num z (number_at numbers i) (is.only.above v) over here in
        rw same (kept.small i (pos 0) (omega (arith, within, kept.long)))
    small_at v z over (inr off) =
        let none : z ≡ pos 0 = only_number k (b v).den (b v).num z (pos 0) (is.only.above v) over (rw (is.only.off v off) (zero_left (b v).den ∙ sym (mul-zero_ℤ (pos k)))) in
        rw none (omega arith)

pub scales_more : (added : List Addend) (attrs : List ℕ) (i : ℕ) (scales : List ℕ) (k : ℕ) (numbers : List ℤ) → AreScales added i scales → IsSum (first_of added (i + 1)) attrs k numbers → AreKept attrs k numbers → AreScales added (i + 1) (scales ++ k ∷ [])
scales_more added attrs i scales k numbers are is kept = record {
  long = omega (arith, length-append scales (k ∷ []), are.long);
  each = each_pushed_by (λ (j m : ℕ). IsScale (first_of added (j + 1)) m) scales i k 0 are.long are.each is.is_scale;
  low = All-push (λ m. m ≤ 2 ^ 30) scales k are.low kept.small_scale;
  small = λ j within. small_at j (less_or_same j within);
}
  where
    less_or_same : (j : ℕ) → j < i + 1 → (j < i) ⊎ (j ≡ i)
    less_or_same j h = lt_or_eq j i h

    small_at : (j : ℕ) → (j < i) ⊎ (j ≡ i) → AreSmall (first_of added (j + 1))
    small_at j (inl less) = are.small j less
    small_at j (inr same) = subst (λ (n : ℕ). AreSmall (first_of added (n + 1))) (sym same) (small_sum (first_of added (i + 1)) attrs k numbers is kept)

-- ---- addends as the code has them

pub addend_at : (added : List code.Addend) (i : ℕ) (a : code.Addend) → a ≡ get_or added i a → get_or (addends_view added) i (addend_view a) ≡ addend_view a
addend_at added i a is = get_or-map addend_view added i a ∙ sym (ap addend_view is)

pub same_addend : (added : List code.Addend) (i : ℕ) (a : code.Addend) → i < length added → a ≡ get_or added i a → AreSame (with_addend (first_of (addends_view added) i) (addend_view a)) (first_of (addends_view added) (i + 1))
same_addend added i a within is = λ v.
    ap (λ (x : Addend). plus (first_of (addends_view added) i v) (x.share v)) (sym (addend_at added i a is))
    ∙ same_more (addends_view added) i (addend_view a) (omega (arith, within, length-map added addend_view)) v
