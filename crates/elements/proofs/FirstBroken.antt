-- The laws of tests in order: which one decides.
-- Assumes nothing.
use Prim.Native.Nat.{ℕ, zero, suc, ◌+◌, ◌≤◌, ◌<◌}
use mathlib.Core.Path.{◌≡◌, refl, sym, ap, ap₂, ◌∙◌}
use mathlib.Core.Logic.{◌↔◌, by_cases}
use mathlib.Core.Bool.{Bool, true, false, ◌&&◌}
use mathlib.Core.List.{List, [], ◌∷◌, ◌++◌}
use native.Mathlib.Omega.{arith}
use native.Mathlib.Decide.{dec_lt}
use lib.Dec.{T}
use lib.ListN.{length, get_or}
use Rattle.text.specs.Bytes.{every}
use Rattle.text.proofs.Bools.{both, and_true, and_false}
use Rattle.elements.specs.Checks.{Check, check, each, Keeps, decide, first_broken, Verdict, Holds, broken}
use Rattle.std.specs.Prelude.{Err}
use Rattle.elements.specs.declared.verdict.Fault.{Fault}
use Rattle.elements.specs.declared.verdict.Reason.{Reason}

-- two faults that are the same have the same reason, and name the same element
pub broken_same : (n : Reason) (e : ℕ) (m : Reason) (k : ℕ) → broken n e ≡ broken m k → (n ≡ m) × (e ≡ k)
broken_same n e m k d =
    let first : Fault = record { reason = n; element = e } in
    let second : Fault = record { reason = m; element = k } in
    let same : first ≡ second = cc in
    (ap (λ (f : Fault). f.reason) same, ap (λ (f : Fault). f.element) same)

-- every test holds exactly if none is the first that fails
module _ (c : Check) (cs : List Check) where
  holds_by : (b : Bool) → T b → first_broken cs ≡ Holds → decide c b (first_broken cs) ≡ Holds
  holds_by true t e = e
  holds_by false t e = absurd t

  test_by : (b : Bool) → decide c b (first_broken cs) ≡ Holds → T b
  test_by true e = tt
  test_by false e = let z : ◌≡◌ {A = ℕ} 0 1 = cc in absurd (omega arith)

  rest_by : (b : Bool) → decide c b (first_broken cs) ≡ Holds → first_broken cs ≡ Holds
  rest_by true e = e
  rest_by false e = let z : ◌≡◌ {A = ℕ} 0 1 = cc in absurd (omega arith)

kept_holds : (cs : List Check) → Keeps cs → first_broken cs ≡ Holds
kept_holds [] k = refl
kept_holds (c ∷ cs) k = holds_by c cs c.holds k.0 (kept_holds cs k.1)

holds_kept : (cs : List Check) → first_broken cs ≡ Holds → Keeps cs
holds_kept [] e = tt
holds_kept (c ∷ cs) e = (test_by c cs c.holds e, holds_kept cs (rest_by c cs c.holds e))

pub keeps_holds : (cs : List Check) → (first_broken cs ≡ Holds) ↔ Keeps cs
keeps_holds cs = (holds_kept cs, kept_holds cs)

-- the test that decides, with those before it, which hold
pub record First (cs : List Check) (n : Reason) (e : ℕ) : Type 0 where
  pub ahead : List Check
  pub found : Check
  pub behind : List Check
  pub split : cs ≡ ahead ++ (found ∷ behind)
  pub kept : Keeps ahead
  pub fails : found.holds ≡ false
  pub reason : found.reason ≡ n
  pub element : found.element ≡ e

first_here : (c : Check) (cs : List Check) (b : Bool) (n : Reason) (e : ℕ) → c.holds ≡ b → (first_broken cs ≡ broken n e → First cs n e)
    → decide c b (first_broken cs) ≡ broken n e → First (c ∷ cs) n e
first_here c cs true n e h later d =
    let f = later d in
    record {
      ahead = c ∷ f.ahead;
      found = f.found;
      behind = f.behind;
      split = ap (λ (l : List Check). c ∷ l) f.split;
      kept = (rw h tt, f.kept);
      fails = f.fails;
      reason = f.reason;
      element = f.element;
    }
first_here c cs false n e h later d =
    let same = broken_same c.reason c.element n e d in
    record { ahead = []; found = c; behind = cs; split = refl; kept = tt; fails = h; reason = same.0; element = same.1 }

pub broken_first : (cs : List Check) (n : Reason) (e : ℕ) → first_broken cs ≡ broken n e → First cs n e
broken_first [] n e d = let z : ◌≡◌ {A = ℕ} 0 1 = cc in absurd (omega arith)
broken_first (c ∷ cs) n e d = first_here c cs c.holds n e refl (broken_first cs n e) d

-- one verdict after another: the first that is broken decides
abbrev pub and_then : Verdict → Verdict → Verdict
and_then Holds w = w
and_then (Err f) w = Err f

decide_then : (c : Check) (b : Bool) (v w : Verdict) → decide c b (and_then v w) ≡ and_then (decide c b v) w
decide_then c true v w = refl
decide_then c false v w = refl

pub broken_append : (xs ys : List Check) → first_broken (xs ++ ys) ≡ and_then (first_broken xs) (first_broken ys)
broken_append [] ys = refl
broken_append (c ∷ xs) ys = ap (decide c c.holds) (broken_append xs ys) ∙ decide_then c c.holds (first_broken xs) (first_broken ys)

-- the same test of several elements depends on those elements alone
pub each_same : (n : Reason) (a m : ℕ) (f g : ℕ → Bool) → ((k : ℕ) → a ≤ k → k < a + m → f k ≡ g k) → each n a m f ≡ each n a m g
each_same n a zero f g h = refl
each_same n a (suc m) f g h =
    ap₂ (λ (t : Bool) (l : List Check). check n a t ∷ l) (h a (omega arith) (omega arith))
    (each_same n (suc a) m f g (λ k l u. h k (omega arith) (omega arith)))

pub each_holds : (n : Reason) (a m : ℕ) (f : ℕ → Bool) → ((k : ℕ) → a ≤ k → k < a + m → f k ≡ true) → first_broken (each n a m f) ≡ Holds
each_holds n a zero f h = refl
each_holds n a (suc m) f h = rw (h a (omega arith) (omega arith)) (each_holds n (suc a) m f (λ k l u. h k (omega arith) (omega arith)))

-- the least element that fails decides
pub each_broken : (n : Reason) (a m k : ℕ) (f : ℕ → Bool) → ((j : ℕ) → a ≤ j → j < k → f j ≡ true) → a ≤ k → k < a + m → f k ≡ false
    → first_broken (each n a m f) ≡ broken n k
each_broken n a zero k f h l u e = absurd (omega arith)
each_broken n a (suc m) k f h l u e =
    by_cases (dec_lt a k)
    (λ less. rw (h a (omega arith) less) (each_broken n (suc a) m k f (λ j p q. h j (omega arith) q) less (omega arith) e))
    (λ not-less. let same : a ≡ k = omega arith in let fails : f a ≡ false = ap f same ∙ e in rw fails (ap (broken n) same))

-- elements that pass at the end do not matter
pub each_upto : (n : Reason) (a m t : ℕ) (f : ℕ → Bool) → m ≤ t → ((k : ℕ) → a + m ≤ k → k < a + t → f k ≡ true)
    → first_broken (each n a t f) ≡ first_broken (each n a m f)
each_upto n a zero t f l h = each_holds n a t f (λ k p u. h k (omega arith) u)
each_upto n a (suc m) zero f l h = absurd (omega arith)
each_upto n a (suc m) (suc t) f l h =
    ap (decide (check n a (f a)) (f a)) (each_upto n (suc a) m t f (omega arith) (λ k p u. h k (omega arith) (omega arith)))

-- where the test of several is silent, each passes
pub holds_each : (n : Reason) (a m : ℕ) (f : ℕ → Bool) → first_broken (each n a m f) ≡ Holds → (k : ℕ) → a ≤ k → k < a + m → f k ≡ true
holds_each n a zero f e k l u = absurd (omega arith)
holds_each n a (suc m) f e k l u =
    by_cases (dec_lt a k)
    (λ less. holds_each n (suc a) m f (rest_by (check n a (f a)) (each n (suc a) m f) (f a) e) k less (omega arith))
    (λ not-less. let same : a ≡ k = omega arith in rw same at (truth (f a) (test_by (check n a (f a)) (each n (suc a) m f) (f a) e)))
  where
    truth : (t : Bool) → T t → t ≡ true
    truth true t = refl
    truth false t = absurd t

-- the one that decides fails, and is none before the first
pub each_decides : (n : Reason) (a m : ℕ) (f : ℕ → Bool) (x : Reason) (e : ℕ) → first_broken (each n a m f) ≡ broken x e → (a ≤ e) × (f e ≡ false)
each_decides n a zero f x e d = let z : ◌≡◌ {A = ℕ} 0 1 = cc in absurd (omega arith)
each_decides n a (suc m) f x e d = by (f a) refl (each_decides n (suc a) m f x e) d
  where
    by : (t : Bool) → f a ≡ t → (first_broken (each n (suc a) m f) ≡ broken x e → (suc a ≤ e) × (f e ≡ false))
        → decide (check n a (f a)) t (first_broken (each n (suc a) m f)) ≡ broken x e → (a ≤ e) × (f e ≡ false)
    by true h later d = let i = later d in (omega (arith, i.0), i.1)
    by false h later d = let z : a ≡ e = (broken_same n a x e d).1 in (omega arith, rw z at h)

-- of two tests together the second decides, where the first passes so far
pub each_under : (n : Reason) (a m : ℕ) (f g : ℕ → Bool) (x : Reason) (e : ℕ) → first_broken (each n a m g) ≡ broken x e → ((j : ℕ) → a ≤ j → j ≤ e → f j ≡ true)
    → first_broken (each n a m (λ (k : ℕ). f k && g k)) ≡ broken x e
each_under n a zero f g x e d all = d
each_under n a (suc m) f g x e d all = by (g a) refl (each_under n (suc a) m f g x e) d
  where
    by : (t : Bool) → g a ≡ t
        → (first_broken (each n (suc a) m g) ≡ broken x e → ((j : ℕ) → suc a ≤ j → j ≤ e → f j ≡ true)
        → first_broken (each n (suc a) m (λ (k : ℕ). f k && g k)) ≡ broken x e)
        → decide (check n a (g a)) t (first_broken (each n (suc a) m g)) ≡ broken x e
        → decide (check n a (f a && g a)) (f a && g a) (first_broken (each n (suc a) m (λ (k : ℕ). f k && g k))) ≡ broken x e
    by true h later d =
        let past = (each_decides n (suc a) m g x e d).0 in
        rw (h, all a (omega arith) (omega arith)) (later d (λ j p q. all j (omega arith) q))
    by false h later d = rw (h, and_false (f a)) d

-- and the first, where the second is silent
pub each_silent : (n : Reason) (a m : ℕ) (f g : ℕ → Bool) → first_broken (each n a m g) ≡ Holds
    → first_broken (each n a m (λ (k : ℕ). f k && g k)) ≡ first_broken (each n a m f)
each_silent n a m f g e =
    ap first_broken (each_same n a m (λ (k : ℕ). f k && g k) f (λ k l u. rw (holds_each n a m g e k l u) (and_true (f k))))

-- one after another, in any grouping
pub then_assoc : (u v w : Verdict) → and_then (and_then u v) w ≡ and_then u (and_then v w)
then_assoc Holds v w = refl
then_assoc (Err f) v w = refl

pub first_holds : (v w : Verdict) → and_then v w ≡ Holds → v ≡ Holds
first_holds Holds w e = refl
first_holds (Err f) w e = e

-- the same test along a list
abbrev pub each_of : {A : Type 0} → Reason → ℕ → (A → Bool) → List A → List Check
each_of n a f [] = []
each_of n a f (x ∷ l) = check n a (f x) ∷ each_of n (suc a) f l

pub each_of_lem : {A : Type 0} (n : Reason) (a : ℕ) (f : A → Bool) (d : A) (l : List A) (test : ℕ → Bool) → ((k : ℕ) → k < length l → test (a + k) ≡ f (get_or l k d))
    → each n a (length l) test ≡ each_of n a f l
each_of_lem n a f d [] test h = refl
each_of_lem n a f d (x ∷ l) test h =
    let here : a + 0 ≡ a = omega arith in
    ap₂ (λ (t : Bool) (r : List Check). check n a t ∷ r) (ap test (sym here) ∙ h 0 (omega arith))
    (each_of_lem n (suc a) f d l test (λ k u. let on : suc a + k ≡ a + suc k = omega arith in ap test on ∙ h (suc k) (omega arith)))

-- where it is silent, every one of the list passes
of_every : {A : Type 0} (n : Reason) (a : ℕ) (f : A → Bool) (l : List A) → first_broken (each_of n a f l) ≡ Holds → T (every f l)
of_every n a f [] e = tt
of_every n a f (x ∷ l) e =
    both (f x) (every f l) (test_by (check n a (f x)) (each_of n (suc a) f l) (f x) e)
    (of_every n (suc a) f l (rest_by (check n a (f x)) (each_of n (suc a) f l) (f x) e))

pub each_every : {A : Type 0} (n : Reason) (f : A → Bool) (d : A) (l : List A) → first_broken (each n 0 (length l) (λ (k : ℕ). f (get_or l k d))) ≡ Holds
    → T (every f l)
each_every n f d l e =
    of_every n 0 f l
    (ap first_broken
    (sym (each_of_lem n 0 f d l (λ (k : ℕ). f (get_or l k d)) (λ k u. let same : 0 + k ≡ k = omega arith in ap (λ (k : ℕ). f (get_or l k d)) same)))
    ∙ e)
