-- What "can be continued" asks of a set of rows: each row of it can be completed to a word within the set. One computed check for each profile.
-- Assumes nothing.
use Prim.Native.Nat.{ℕ, suc, ◌-◌, ◌<◌}
use mathlib.Core.Path.{◌≡◌, refl, sym, ap, subst, ◌∙◌}
use mathlib.Core.Logic.{◌≢◌}
use mathlib.Core.Bool.{Bool, true, false, not, ◌&&◌, ◌||◌}
use mathlib.Core.List.{List, [], ◌∷◌, ◌++◌, append_assoc, append-nil}
use native.Mathlib.Omega.{arith}
use lib.Dec.{T, eqb, eqb→eq, eqb_refl, lit<}
use Rattle.text.specs.Bytes.{every, among}
use Rattle.text.proofs.Bools.{both, first_of, second_of, or_left, or_right, or_cases, not_or, apart}
use Rattle.text.proofs.Everys.{every_both, every_append, every_among}
use Rattle.text.proofs.Tables.{tab, tab_at}
use Rattle.rows.specs.Tags.{tag, tag_number}
use Rattle.rows.specs.Rows.{Viable, list842}
use Rattle.rows.specs.RowList.{row_at, max_of}
use Rattle.rows.specs.RowSets.{RowSet, rows_of, Within, ViableOver}
use Rattle.rows.specs.Following.{Fits, last_of}
use Rattle.rows.specs.declared.profile.ProfileName.{ProfileName}
use Rattle.rows.specs.declared.profile.ProfileName.TheVariants.{Report, Reply}
use Rattle.rows.proofs.NextRows.{after, edges842, next_of}
use Rattle.rows.proofs.Viability.{last_snoc, viable_range, viable_nil, viable_word}
use Rattle.rows.proofs.FittingRow.{next_fits}

-- an HL may come after the row
abbrev pub hl_next : ℕ → Bool
hl_next r = eqb (next_of r (tag "HL")) 18

-- a row of the set with the tag may come after the row, and then an HL
unfoldable pub bridges : RowSet → ℕ → ℕ → Bool
bridges set r t = set (next_of r t) && not (eqb (next_of r t) 0) && not (eqb (max_of (next_of r t)) 2) && hl_next (next_of r t)

-- after the row a BNR, LQ, FA2 or BIN of the set may come, and then an HL
abbrev pub is_pending : RowSet → ℕ → Bool
is_pending set r = bridges set r (tag "BNR") || bridges set r (tag "LQ") || bridges set r (tag "FA2") || bridges set r (tag "BIN")

-- the row ends a word, or an HL may come after it, or one of those first
abbrev pub goes_on_of : RowSet → ℕ → Bool
goes_on_of set r = eqb r 79 || hl_next r || is_pending set r

-- ST, HL and SE are of the set, and every row of it goes on within it
pub record Continuable (set : RowSet) : Type 0 where
  pub opens : T (every set (1 ∷ 18 ∷ 79 ∷ []))
  pub onward : tab 79 (λ k. not (set (suc k)) || goes_on_of set (suc k)) ≡ tab 79 (λ k. true)

-- it is so of both profiles
pub profiles_continuable : (profile : ProfileName) → Continuable (rows_of profile)
unfolding tab bridges next_of max_of row_at after edges842 list842 tag_number
profiles_continuable Report = record { opens = tt; onward = refl }
profiles_continuable Reply = record { opens = tt; onward = refl }

-- the row that comes next goes on from viable rows, where its maximum is not 2
pub next_goes_on : (w : List ℕ) (t x : ℕ) → Viable list842 w → t < 34 → next_of (last_of 0 w) t ≡ x → x ≢ 0 → max_of x ≢ 2 → Fits w t x
next_goes_on w t x v h e n m =
    let f = next_fits w v t h (λ z. n (sym e ∙ z)) (λ again two s. m (ap max_of (sym e ∙ s) ∙ two)) in
    subst (Fits w t) e f

-- ST, HL and SE are among the 34 tags
pub st_small : tag "ST" < 34
unfolding tag_number
st_small = lit< tt

pub hl_small : tag "HL" < 34
unfolding tag_number
hl_small = lit< tt

pub se_small : tag "SE" < 34
unfolding tag_number
se_small = lit< tt

-- first comes the ST; after an HL another may come, or the SE
pub st_first : next_of 0 (tag "ST") ≡ 1
unfolding next_of after edges842 list842 tag_number
st_first = refl

pub hl_after_hl : next_of 18 (tag "HL") ≡ 18
unfolding next_of after edges842 list842 tag_number
hl_after_hl = refl

pub se_after_hl : next_of 18 (tag "SE") ≡ 79
unfolding next_of after edges842 list842 tag_number
se_after_hl = refl

-- each of the three stands once in a pass
pub max_st : max_of 1 ≡ 1
unfolding max_of row_at list842 tag_number
max_st = refl

pub max_hl : max_of 18 ≡ 1
unfolding max_of row_at list842 tag_number
max_hl = refl

pub max_se : max_of 79 ≡ 1
unfolding max_of row_at list842 tag_number
max_se = refl

-- the last row is one of the rows
pub last_among : (x : ℕ) (w : List ℕ) → T (among (x ∷ w) (last_of x w))
last_among x [] = or_left (eqb x x) false (eqb_refl x)
last_among x (y ∷ w) = or_right (eqb (last_of y w) x) (among (y ∷ w) (last_of y w)) (last_among y w)

-- a segment that is pending after a row of the set: one of the set may come there with the tag, and then an HL
pub record Bridged (set : RowSet) (r t : ℕ) : Type 0 where
  pub admitted : T (set (next_of r t))
  pub some : next_of r t ≢ 0
  pub few : max_of (next_of r t) ≢ 2
  pub onward : next_of (next_of r t) (tag "HL") ≡ 18

pub bridged : (set : RowSet) (r t : ℕ) → T (bridges set r t) → Bridged set r t
unfolding bridges
bridged set r t b =
    let x = next_of r t in
    let admitted = set x in
    let some = not (eqb x 0) in
    let few = not (eqb (max_of x) 2) in
    let i = first_of (admitted && some && few) (hl_next x) b in
    let j = first_of (admitted && some) few i in
    record {
      admitted = first_of admitted some j;
      some = apart x 0 (second_of admitted some j);
      few = apart (max_of x) 2 (second_of (admitted && some) few i);
      onward = eqb→eq (next_of x (tag "HL")) 18 (second_of (admitted && some && few) (hl_next x) b);
    }

-- one row more of the set
pub within_more : (set : RowSet) (w : List ℕ) (x : ℕ) → Within set w → T (set x) → Within set (w ++ (x ∷ []))
within_more set w x a m = every_append set w (x ∷ []) a (both (set x) true m tt)

-- the first rows of those
pub within_front : (set : RowSet) (w u : List ℕ) → Within set (w ++ u) → Within set w
within_front set w u a = first_of (every set w) (every set u) (rw (every_both set w u) at a)

module _ (set : RowSet) (ok : Continuable set) where
  -- ST, HL and SE are of the set
  pub st_admitted : T (set 1)
  st_admitted = every_among set (1 ∷ 18 ∷ 79 ∷ []) 1 ok.opens tt

  pub hl_admitted : T (set 18)
  hl_admitted = every_among set (1 ∷ 18 ∷ 79 ∷ []) 18 ok.opens tt

  pub se_admitted : T (set 79)
  se_admitted = every_among set (1 ∷ 18 ∷ 79 ∷ []) 79 ok.opens tt

  -- the last row of a viable list within it goes on
  pub last_goes_on : (x : ℕ) (w : List ℕ) → Viable list842 (x ∷ w) → Within set (x ∷ w) → T (goes_on_of set (last_of x w))
  last_goes_on x w v a =
      let r = last_of x w in
      let m = last_among x w in
      let k = viable_range (x ∷ w) v r m in
      let same : suc (r - 1) ≡ r = omega arith in
      let here = tab_at 79 (λ k. not (set (suc k)) || goes_on_of set (suc k)) (λ k. true) ok.onward (r - 1) (omega arith) in
      let goes : not (set r) || goes_on_of set r ≡ true = ap (λ (n : ℕ). not (set n) || goes_on_of set n) (sym same) ∙ here in
      not_or (set r) (goes_on_of set r) (rw goes tt) (every_among set (x ∷ w) r a m)

  -- one row more before what makes a word
  more_before : (w : List ℕ) (x : ℕ) → ViableOver set (w ++ (x ∷ [])) → ViableOver set w
  more_before w x (more, p) = (x ∷ more, rw append_assoc at p)

  -- rows that end with the SE are a word
  ends_here : (w : List ℕ) → Viable list842 w → Within set w → last_of 0 w ≡ 79 → ViableOver set w
  ends_here w v a e = ([], rw append-nil (record { word = viable_word w v e; admitted = a }))

  -- after an HL the SE ends the word
  after_hl : (w : List ℕ) → Viable list842 w → Within set w → last_of 0 w ≡ 18 → ViableOver set w
  after_hl w v a e =
      let f = next_goes_on w (tag "SE") 79 v se_small (rw e se_after_hl) (λ z. omega arith) (λ z. omega (arith, max_se, z)) in
      more_before w 79 (ends_here (w ++ (79 ∷ [])) f.viable (within_more set w 79 a se_admitted) (last_snoc w 0 79))

  -- where an HL may come, it comes
  before_hl : (w : List ℕ) → Viable list842 w → Within set w → next_of (last_of 0 w) (tag "HL") ≡ 18 → ViableOver set w
  before_hl w v a e =
      let f = next_goes_on w (tag "HL") 18 v hl_small e (λ z. omega arith) (λ z. omega (arith, max_hl, z)) in
      more_before w 18 (after_hl (w ++ (18 ∷ [])) f.viable (within_more set w 18 a hl_admitted) (last_snoc w 0 18))

  -- what is pending comes first
  before_pending : (w : List ℕ) (t : ℕ) → t < 34 → Viable list842 w → Within set w → T (bridges set (last_of 0 w) t) → ViableOver set w
  before_pending w t h v a b =
      let x = next_of (last_of 0 w) t in
      let p = bridged set (last_of 0 w) t b in
      let f = next_goes_on w t x v h refl p.some p.few in
      more_before w x
      (before_hl (w ++ (x ∷ [])) f.viable (within_more set w x a p.admitted) (rw (last_snoc w 0 x) p.onward))

  -- rows of the set that are viable by the whole list
  goes_on_within : (w : List ℕ) → Viable list842 w → Within set w → T (goes_on_of set (last_of 0 w)) → ViableOver set w
  unfolding tag_number
  goes_on_within w v a =
      let r = last_of 0 w in
      let bnr = bridges set r (tag "BNR") in
      let lq = bridges set r (tag "LQ") in
      let fa2 = bridges set r (tag "FA2") in
      let bin = bridges set r (tag "BIN") in
      or_cases (eqb r 79 || hl_next r) (is_pending set r)
      (or_cases (eqb r 79) (hl_next r) (λ t. ends_here w v a (eqb→eq r 79 t)) (λ t. before_hl w v a (eqb→eq (next_of r (tag "HL")) 18 t)))
      (or_cases (bnr || lq || fa2) bin
      (or_cases (bnr || lq) fa2
      (or_cases bnr lq (before_pending w (tag "BNR") (lit< tt) v a) (before_pending w (tag "LQ") (lit< tt) v a))
      (before_pending w (tag "FA2") (lit< tt) v a))
      (before_pending w (tag "BIN") (lit< tt) v a))

  -- are viable within the set
  pub viable_within : (w : List ℕ) → Viable list842 w → Within set w → ViableOver set w
  viable_within [] v a =
      let f = next_goes_on [] (tag "ST") 1 viable_nil st_small st_first (λ z. omega arith) (λ z. omega (arith, max_st, z)) in
      more_before [] 1 (goes_on_within (1 ∷ []) f.viable (within_more set [] 1 tt st_admitted) (last_goes_on 1 [] f.viable (within_more set [] 1 tt st_admitted)))
  viable_within (x ∷ w) v a =
      goes_on_within (x ∷ w) v a (last_goes_on x w v a)
