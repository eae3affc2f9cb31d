-- What the cut of a BIN behind its mark says of the bytes: they are counted, or can be continued to counted bytes, or could be up to their last byte.
-- Assumes nothing.
use Prim.Native.Nat.{ℕ, zero, suc, ◌+◌, ◌-◌, ◌*◌, ◌≤◌, ◌<◌}
use mathlib.Core.Path.{◌≡◌, refl, sym, ap, subst}
use mathlib.Core.Logic.{◌⊎◌, inl, inr, by_cases}
use mathlib.Core.Bool.{Bool, true, false, cond, ◌&&◌}
use mathlib.Core.List.{[], ◌∷◌, ◌++◌, append_assoc}
use native.Mathlib.Omega.{arith}
use native.Mathlib.Decide.{dec_lt}
use lib.Dec.{T, eqb, leb, ltb, ltb→lt}
use lib.ListN.{length, take, drop, get_or, replicate, length-append, length-replicate}
use lib.Seq.{split_at, length-take-le, append_snoc}
use borrow.Author.Tests.{eqb-true, eqb-false, leb-true}
use Rattle.text.specs.Bytes.{Bytes, byte, every, value_from}
use Rattle.text.specs.Separators.{is_digit, Fitted}
use Rattle.text.specs.Cut.{Cut, Whole, Stop, behind, cut_attached, may_count, cut_counted}
use Rattle.text.specs.declared.separators.Separators.{Separators}
use Rattle.text.specs.internal.Search.{Free}
use Rattle.text.proofs.Bools.{first_of, second_of, both, or_cases}
use Rattle.text.proofs.Serving.{serves_apart}
use Rattle.text.proofs.CountedCut.{Digits, may_few, attached_short, attached_whole, attached_broken}

module _ (q : Separators) where
  -- behind k digits that write n: more digits, the separator, and as many bytes as all of them count
  pub record Counted (k n : ℕ) (s : Bytes) : Type 0 where
    pub count : Bytes
    pub attached : Bytes
    pub is : s ≡ count ++ q.element ∷ attached
    pub free : Free q.element count
    pub digits : Digits k n count
    pub value : value_from n count ≡ length attached

  -- bytes that others, one at least, make so, with the terminator
  pub record Wanting (k n : ℕ) (s : Bytes) : Type 0 where
    pub more : Bytes
    pub some : 0 < length more
    pub made : Bytes
    pub counted : Counted k n made
    pub ended : s ++ more ≡ made ++ q.terminator ∷ []

  -- 3
  pub record Ends (k n : ℕ) (s : Bytes) (number element : ℕ) (upto more : Bytes) : Type 0 where
    pub number_is : number ≡ 3
    pub element_is : element ≡ 0
    pub all : upto ≡ s
    pub none : more ≡ []
    pub wanting : Wanting k n s

  -- 10
  pub record Breaks (k n : ℕ) (s : Bytes) (number element : ℕ) (upto more : Bytes) : Type 0 where
    pub front : Bytes
    pub last : ℕ
    pub number_is : number ≡ 10
    pub upto_is : upto ≡ front ++ (last ∷ [])
    pub whole : s ≡ upto ++ more
    pub wanting : Wanting k n front
    pub element_is : (element ≡ 1) ⊎ ((element ≡ 2) × Counted k n front)

  abbrev pub Tells : ℕ → ℕ → Bytes → Cut → Type 0
  Tells k n s (Whole segment more) = Counted k n segment × (s ≡ segment ++ q.terminator ∷ more)
  Tells k n s (Stop number element upto more) = Ends k n s number element upto more ⊎ Breaks k n s number element upto more

  -- one digit in front
  module _ (k n b : ℕ) (digit : T (is_digit b)) (apart : b ≡ q.element → ⊥) where
    counted_more : (s : Bytes) → Counted (suc k) (n * 10 + (b - byte "0")) s → Counted k n (b ∷ s)
    counted_more s c = record {
      count = b ∷ c.count;
      attached = c.attached;
      is = ap (λ (x : Bytes). b ∷ x) c.is;
      free = (apart, c.free);
      digits = record {
        all = both (is_digit b) (every is_digit c.count) digit c.digits.all;
        few = omega (arith, c.digits.few);
        some = c.digits.some;
      };
      value = c.value;
    }

    wanting_more : (s : Bytes) → Wanting (suc k) (n * 10 + (b - byte "0")) s → Wanting k n (b ∷ s)
    wanting_more s w = record {
      more = w.more;
      some = w.some;
      made = b ∷ w.made;
      counted = counted_more w.made w.counted;
      ended = ap (λ (x : Bytes). b ∷ x) w.ended;
    }

    tells_more : (s : Bytes) (c : Cut) → Tells (suc k) (n * 10 + (b - byte "0")) s c → Tells k n (b ∷ s) (behind (b ∷ []) c)
    tells_more s (Whole g m) w = (counted_more g w.0, ap (λ (x : Bytes). b ∷ x) w.1)
    tells_more s (Stop number element u m) (inl w) =
        inl
        (record {
          number_is = w.number_is;
          element_is = w.element_is;
          all = ap (λ (x : Bytes). b ∷ x) w.all;
          none = w.none;
          wanting = wanting_more s w.wanting;
        })
    tells_more s (Stop number element u m) (inr w) =
        inr
        (record {
          front = b ∷ w.front;
          last = w.last;
          number_is = w.number_is;
          upto_is = ap (λ (x : Bytes). b ∷ x) w.upto_is;
          whole = ap (λ (x : Bytes). b ∷ x) w.whole;
          wanting = wanting_more w.front w.wanting;
          element_is = by w.element_is;
        })
      where
        by : (element ≡ 1) ⊎ ((element ≡ 2) × Counted (suc k) (n * 10 + (b - byte "0")) w.front)
            → (element ≡ 1) ⊎ ((element ≡ 2) × Counted k n (b ∷ w.front))
        by (inl z) = inl z
        by (inr z) = inr (z.0, counted_more w.front z.1)

  -- the separator, where the digits so far write n, and n bytes
  module _ (k n : ℕ) (few : k ≤ 15) (some : 1 ≤ n) where
    counted_here : (p : Bytes) → length p ≡ n → Counted k n (q.element ∷ p)
    counted_here p l = record {
      count = [];
      attached = p;
      is = refl;
      free = tt;
      digits = record { all = tt; few = omega arith; some = some };
      value = sym l;
    }

    wanting_rest : (s : Bytes) → length s ≤ n → Wanting k n (q.element ∷ s)
    wanting_rest s l =
        let rest = replicate (n - length s) (byte "A") in
        record {
          more = rest ++ (q.terminator ∷ []);
          some = simp length-append (omega arith);
          made = q.element ∷ (s ++ rest);
          counted = counted_here (s ++ rest) (rw (length-append s rest, length-replicate (n - length s) (byte "A")) (omega arith));
          ended = ap (λ (x : Bytes). q.element ∷ x) (sym (append_assoc s rest (q.terminator ∷ [])));
        }

    tells_behind : (p : Bytes) (b : ℕ) (x : Bytes) → length p ≡ n
        → Tells k n (q.element ∷ (p ++ b ∷ x)) (behind (q.element ∷ []) (cut_attached q n (p ++ b ∷ x)))
    tells_behind p b x l = rw (← l) (by (eqb b q.terminator) refl)
      where
        by : (i : Bool) → eqb b q.terminator ≡ i → Tells k (length p) (q.element ∷ (p ++ b ∷ x)) (behind (q.element ∷ []) (cut_attached q (length p) (p ++ b ∷ x)))
        by true h =
            let w = eqb-true b q.terminator h in
            rw (attached_whole q p b x w) (rw (← l) at (counted_here p l), ap (λ (y : ℕ). q.element ∷ (p ++ y ∷ x)) w)
        by false h =
            rw (attached_broken q p b x (eqb-false b q.terminator h))
            (inr
            (record {
              front = q.element ∷ p;
              last = b;
              number_is = refl;
              upto_is = refl;
              whole = ap (λ (y : Bytes). q.element ∷ y) (sym (append_snoc p b x));
              wanting = rw (← l) at (wanting_rest p (omega arith));
              element_is = inr (refl, rw (← l) at (counted_here p l));
            }))

    tells_attached : (s : Bytes) → Tells k n (q.element ∷ s) (behind (q.element ∷ []) (cut_attached q n s))
    tells_attached s =
        by_cases (dec_lt n (length s))
        (λ l.
        subst (λ (x : Bytes). Tells k n (q.element ∷ x) (behind (q.element ∷ []) (cut_attached q n x))) (sym (split_at s n 0 l))
        (tells_behind (take n s) (get_or s n 0) (drop (suc n) s) (length-take-le n s (omega arith))))
        (λ l.
        let short : length s ≤ n = omega arith in
        rw (attached_short q n s short)
        (inl (record { number_is = refl; element_is = refl; all = refl; none = refl; wanting = wanting_rest s short })))

  module _ (fit : Fitted q) where
    -- digits that may go on can be counted with: by what they write, or by a 1 behind them
    wanting_none : (k n : ℕ) → T (may_count k n) → Wanting k n []
    wanting_none k zero h =
        let l : k < 15 = or_cases (ltb k 15) (eqb k 15 && leb 1 0) (ltb→lt k 15) (λ z. absurd (second_of (eqb k 15) (leb 1 0) z)) h in
        record {
          more = byte "1" ∷ q.element ∷ byte "A" ∷ q.terminator ∷ [];
          some = omega arith;
          made = byte "1" ∷ q.element ∷ byte "A" ∷ [];
          counted = counted_more k 0 (byte "1") tt (serves_apart (byte "1") q.element tt fit.element_serves) (q.element ∷ byte "A" ∷ [])
              (counted_here (suc k) 1 (omega arith) (omega arith) (byte "A" ∷ []) refl);
          ended = refl;
        }
    wanting_none k (suc n) h =
        let p = replicate (suc n) (byte "A") in
        record {
          more = q.element ∷ (p ++ (q.terminator ∷ []));
          some = omega arith;
          made = q.element ∷ p;
          counted = counted_here k (suc n) (may_few k (suc n) h) (omega arith) p (length-replicate (suc n) (byte "A"));
          ended = refl;
        }

    broken_here : (k n : ℕ) → T (may_count k n) → (b : ℕ) (s : Bytes) → Tells k n (b ∷ s) (Stop 10 1 (b ∷ []) s)
    broken_here k n h b s =
        inr (record { front = []; last = b; number_is = refl; upto_is = refl; whole = refl; wanting = wanting_none k n h; element_is = inl refl })

    at_separator : (k n : ℕ) → T (may_count k n) → (b : ℕ) (s : Bytes) → b ≡ q.element → (i : Bool) → leb 1 n ≡ i
        → Tells k n (b ∷ s) (cond i (behind (b ∷ []) (cut_attached q n s)) (Stop 10 1 (b ∷ []) s))
    at_separator k n h b s z true w = rw z (tells_attached k n (may_few k n h) (leb-true 1 n w) s)
    at_separator k n h b s z false w = broken_here k n h b s

    pub counted_tells : (k n : ℕ) (s : Bytes) → T (may_count k n) → Tells k n s (cut_counted q k n s)
    counted_tells k n [] h = inl (record { number_is = refl; element_is = refl; all = refl; none = refl; wanting = wanting_none k n h })
    counted_tells k n (b ∷ s) h =
        by (eqb b q.element) refl (is_digit b && may_count (suc k) (n * 10 + (b - byte "0"))) (λ g. g) (counted_tells (suc k) (n * 10 + (b - byte "0")) s)
      where
        by : (i : Bool) → eqb b q.element ≡ i → (j : Bool) → (T j → T (is_digit b && may_count (suc k) (n * 10 + (b - byte "0"))))
            → (T (may_count (suc k) (n * 10 + (b - byte "0"))) → Tells (suc k) (n * 10 + (b - byte "0")) s (cut_counted q (suc k) (n * 10 + (b - byte "0")) s))
            → Tells k n (b ∷ s) (cond i (cond (leb 1 n) (behind (b ∷ []) (cut_attached q n s)) (Stop 10 1 (b ∷ []) s))
            (cond j (behind (b ∷ []) (cut_counted q (suc k) (n * 10 + (b - byte "0")) s)) (Stop 10 1 (b ∷ []) s)))
        by true z j g r = at_separator k n h b s (eqb-true b q.element z) (leb 1 n) refl
        by false z true g r =
            let d = first_of (is_digit b) (may_count (suc k) (n * 10 + (b - byte "0"))) (g tt) in
            let m = second_of (is_digit b) (may_count (suc k) (n * 10 + (b - byte "0"))) (g tt) in
            tells_more k n b d (eqb-false b q.element z) s (cut_counted q (suc k) (n * 10 + (b - byte "0")) s) (r m)
        by false z false g r = broken_here k n h b s
