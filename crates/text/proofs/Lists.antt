-- Laws of lists that every crate uses.
-- Assumes nothing.
use Prim.Native.Nat.{ℕ, zero, suc, ◌-◌, ◌<◌}
use mathlib.Core.Path.{◌≡◌, refl, sym, ap}
use mathlib.Core.List.{List, [], ◌∷◌, ◌++◌, map, nil≢cons, head-eq_of_cons-eq, tail-eq_of_cons-eq}
use native.Mathlib.Omega.{arith}
use lib.ListN.{length, take, drop, get_or, length-append, length-drop}
use lib.Seq.{take_all}

pub map-append : {A B : Type 0} (f : A → B) (xs ys : List A) → map f (xs ++ ys) ≡ map f xs ++ map f ys
map-append f [] ys = refl
map-append f (x ∷ xs) ys = ap (λ (l : List _). f x ∷ l) (map-append f xs ys)

-- two ways to cut a list in two at the same place are one
pub same_front : {A : Type 0} (xs ys us vs : List A) → xs ++ ys ≡ us ++ vs → length xs ≡ length us → (xs ≡ us) × (ys ≡ vs)
same_front [] ys [] vs e l = (refl, e)
same_front [] ys (u ∷ us) vs e l = absurd (omega arith)
same_front (x ∷ xs) ys [] vs e l = absurd (omega arith)
same_front (x ∷ xs) ys (u ∷ us) vs e l =
    let i = same_front xs ys us vs (tail-eq_of_cons-eq e) (omega arith) in
    (cc (i.0, head-eq_of_cons-eq e), i.1)

-- equal lists are equal without their last
pub same_but_last : {A : Type 0} (xs us : List A) (a b : A) → xs ++ a ∷ [] ≡ us ++ b ∷ [] → xs ≡ us
same_but_last xs us a b e = (same_front xs (a ∷ []) us (b ∷ []) e (omega (arith, simp length-append at (ap length e)))).0

-- two ways to cut a list in two: at one place, or one front goes on where the other ends
pub data Fronts {A : Type 0} (xs ys us vs : List A) : Type 0 where
  alike : xs ≡ us → ys ≡ vs → Fronts xs ys us vs
  shorter : (a : A) (z : List A) → us ≡ xs ++ a ∷ z → Fronts xs ys us vs
  longer : (a : A) (z : List A) → xs ≡ us ++ a ∷ z → Fronts xs ys us vs

-- the same with one element in front of both
fronts_behind : {A : Type 0} {x u : A} {xs ys us vs : List A} → x ≡ u → Fronts xs ys us vs → Fronts (x ∷ xs) ys (u ∷ us) vs
fronts_behind p (alike e f) = alike (λ i. p i ∷ e i) f
fronts_behind p (shorter a z e) = shorter a z (λ i. sym p i ∷ e i)
fronts_behind p (longer a z e) = longer a z (λ i. p i ∷ e i)

pub fronts : {A : Type 0} (xs ys us vs : List A) → xs ++ ys ≡ us ++ vs → Fronts xs ys us vs
fronts [] ys [] vs e = alike refl e
fronts [] ys (u ∷ us) vs e = shorter u us refl
fronts (x ∷ xs) ys [] vs e = longer x xs refl
fronts (x ∷ xs) ys (u ∷ us) vs e = fronts_behind (head-eq_of_cons-eq e) (fronts xs ys us vs (tail-eq_of_cons-eq e))

-- a list whose image has an element in its middle has one there
pub record Splits {A B : Type 0} (f : A → B) (l : List A) (xs : List B) (y : B) : Type 0 where
  pub front : List A
  pub mid : A
  pub back : List A
  pub whole : l ≡ front ++ (mid ∷ back)
  pub front_is : map f front ≡ xs
  pub mid_is : f mid ≡ y

pub splits : {A B : Type 0} (f : A → B) (l : List A) (xs : List B) (y : B) (ys : List B) → map f l ≡ xs ++ (y ∷ ys) → Splits f l xs y
splits f [] [] y ys e = absurd (nil≢cons e)
splits f [] (x ∷ xs) y ys e = absurd (nil≢cons e)
splits f (a ∷ l) [] y ys e = record { front = []; mid = a; back = l; whole = refl; front_is = refl; mid_is = head-eq_of_cons-eq e }
splits f (a ∷ l) (x ∷ xs) y ys e =
    let i = splits f l xs y ys (tail-eq_of_cons-eq e) in
    record {
      front = a ∷ i.front;
      mid = i.mid;
      back = i.back;
      whole = ap (λ (k : List _). a ∷ k) i.whole;
      front_is = cc (i.front_is, head-eq_of_cons-eq e);
      mid_is = i.mid_is;
    }

-- a list that is not empty has a last element
pub record HasLast {A : Type 0} (l : List A) : Type 0 where
  pub front : List A
  pub last : A
  pub whole : l ≡ front ++ (last ∷ [])

pub has_last : {A : Type 0} (l : List A) → 0 < length l → HasLast l
has_last [] h = absurd (omega arith)
has_last (x ∷ []) h = record { front = []; last = x; whole = refl }
has_last (x ∷ (y ∷ l)) h = let i = has_last (y ∷ l) (omega arith) in record { front = x ∷ i.front; last = i.last; whole = ap (λ (k : List _). x ∷ k) i.whole }

-- an entry within the list, whatever the default
pub any_default : {A : Type 0} (l : List A) (i : ℕ) (d e : A) → i < length l → get_or l i d ≡ get_or l i e
any_default [] i d e h = absurd (omega arith)
any_default (x ∷ l) zero d e h = refl
any_default (x ∷ l) (suc i) d e h = any_default l i d e (omega arith)

-- numbers of which there are one or two
pub just_one : (l : List ℕ) → length l ≡ 1 → l ≡ get_or l 0 0 ∷ []
just_one [] e = absurd (omega arith)
just_one (a ∷ []) e = refl
just_one (a ∷ (b ∷ l)) e = absurd (omega arith)

pub just_two : (l : List ℕ) → length l ≡ 2 → l ≡ get_or l 0 0 ∷ get_or l 1 0 ∷ []
just_two [] e = absurd (omega arith)
just_two (a ∷ []) e = absurd (omega arith)
just_two (a ∷ (b ∷ [])) e = refl
just_two (a ∷ (b ∷ (d ∷ l))) e = absurd (omega arith)

-- a part that goes on to the end is what stands from its start on
pub part_from : {A : Type 0} (k : ℕ) (l : List A) → take (length l - k) (drop k l) ≡ drop k l
part_from k l = take_all (length l - k) (drop k l) (rw (length-drop k l) (omega arith))
