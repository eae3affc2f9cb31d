-- What may come next in rows of a profile: after any row but SE an HL, or one segment that is pending and then an HL.
-- Assumes nothing.
use Prim.Native.Nat.{ℕ, ◌<◌}
use Prim.Native.String.{String}
use mathlib.Core.Path.{◌≡◌, refl}
use mathlib.Core.Logic.{◌≢◌, ◌⊎◌, inl, inr}
use mathlib.Core.Bool.{◌||◌}
use mathlib.Core.List.{List, ◌∷◌}
use borrow.Author.Tests.{ne_eqb}
use lib.Dec.{T, lit<}
use Rattle.text.proofs.Bools.{or_cases}
use Rattle.rows.specs.Tags.{tag, tag_number}
use Rattle.rows.specs.Rows.{Viable, list842}
use Rattle.rows.specs.RowList.{row_at, tag_of}
use Rattle.rows.specs.RowSets.{rows_of, Within}
use Rattle.rows.specs.Following.{last_of}
use Rattle.rows.specs.declared.profile.ProfileName.{ProfileName}
use Rattle.rows.proofs.Continuable.{hl_next, bridges, is_pending, profiles_continuable, last_goes_on, Bridged, bridged}
use Rattle.gate.proofs.continuing.AddedSegments.{Added, added_bnr, added_lq, added_fa2, added_bin}

-- row 1 is the ST
pub tag_st : tag_of 1 ≡ tag "ST"
unfolding tag_of row_at list842 tag_number
tag_st = refl

module _ (name : ProfileName) where
  -- a segment that is pending after a row: it may come there, and then an HL
  pub record Pending (r : ℕ) : Type 0 where
    pub text : String
    pub segment : Added name text
    pub small : tag text < 34
    pub between : Bridged (rows_of name) r (tag text)

  -- one of the four is pending
  some_pending : (r : ℕ) → T (is_pending (rows_of name) r) → Pending r
  unfolding tag_number
  some_pending r =
      let set = rows_of name in
      let bnr = bridges set r (tag "BNR") in
      let lq = bridges set r (tag "LQ") in
      let fa2 = bridges set r (tag "FA2") in
      let bin = bridges set r (tag "BIN") in
      or_cases (bnr || lq || fa2) bin
      (or_cases (bnr || lq) fa2
      (or_cases bnr lq (λ t. record { text = "BNR"; segment = added_bnr name; small = lit< tt; between = bridged set r (tag "BNR") t })
      (λ t. record { text = "LQ"; segment = added_lq name; small = lit< tt; between = bridged set r (tag "LQ") t }))
      (λ t. record { text = "FA2"; segment = added_fa2 name; small = lit< tt; between = bridged set r (tag "FA2") t }))
      (λ t. record { text = "BIN"; segment = added_bin name; small = lit< tt; between = bridged set r (tag "BIN") t })

  -- after every row of the profile but SE, at the end of rows that are viable, an HL may come, or a segment is pending
  pub pending : (x : ℕ) (w : List ℕ) → Viable list842 (x ∷ w) → Within (rows_of name) (x ∷ w) → last_of x w ≢ 79
      → T (hl_next (last_of x w)) ⊎ Pending (last_of x w)
  pending x w v a b =
      let set = rows_of name in
      let r = last_of x w in
      let goes : T (hl_next r || is_pending set r) = rw (ne_eqb r 79 b) at (last_goes_on set (profiles_continuable name) x w v a) in
      or_cases (hl_next r) (is_pending set r) (λ t. inl t) (λ t. inr (some_pending r t)) goes
