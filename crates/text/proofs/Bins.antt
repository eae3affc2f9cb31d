-- What stands in a whole BIN: the mark, a count, the separator and the attached bytes; and bytes so made are a whole BIN.
-- Assumes nothing.
use Prim.Native.Nat.{ℕ, ◌+◌, ◌≤◌, ◌<◌}
use mathlib.Core.Path.{◌≡◌, refl, sym, ap, ◌∙◌}
use mathlib.Core.Bool.{Bool, true, false, ◌&&◌}
use mathlib.Core.List.{List, [], ◌∷◌, ◌++◌}
use native.Mathlib.Omega.{arith}
use lib.Dec.{T, eqb, leb, eqb→eq, leb→le}
use lib.ListN.{length, take, drop, get_or, length-append, length-take, length-drop, take-append-drop, drop_of_length-le}
use lib.Seq.{drop_at, append_snoc}
use borrow.Author.Tests.{eq-eqb, le-leb}
use Rattle.std.specs.List.{slice_range, starts_with}
use lib.Pointwise.{pointwise}
use Rattle.text.proofs.Lists.{part_from}
use Rattle.text.specs.Bytes.{Bytes, between, every, same, value_of}
use Rattle.text.specs.Separators.{is_digit}
use Rattle.text.specs.Pieces.{pieces, joined}
use Rattle.text.specs.Bin.{bin_mark, begins_bin, count_in, attached_in, counts, is_bin}
use Rattle.text.specs.internal.Search.{Free}
use Rattle.text.proofs.Bools.{first_of, second_of, passes, fails, eqb_swap}
use Rattle.text.proofs.Pieces.{Clean, pieces_cut, pieces_clean, joined_pieces}
use Rattle.text.proofs.Sames.{same_equal, same_self}

-- a count of the attached bytes
pub record Counts (count attached : Bytes) : Type 0 where
  pub some : 1 ≤ length count
  pub few : length count ≤ 15
  pub digits : T (every is_digit count)
  pub value : value_of count ≡ length attached
  pub long : 1 ≤ length attached

pub counts_told : (d p : Bytes) → T (counts d p) → Counts d p
counts_told d p h =
    let a = between 1 15 (length d) in
    let b = every is_digit d in
    let c = eqb (value_of d) (length p) in
    let h3 = first_of (a && b && c) (leb 1 (length p)) h in
    let h2 = first_of (a && b) c h3 in
    let h1 = first_of a b h2 in
    record {
      some = leb→le 1 (length d) (first_of (leb 1 (length d)) (leb (length d) 15) h1);
      few = leb→le (length d) 15 (second_of (leb 1 (length d)) (leb (length d) 15) h1);
      digits = second_of a b h2;
      value = eqb→eq (value_of d) (length p) (second_of (a && b) c h3);
      long = leb→le 1 (length p) (second_of (a && b && c) (leb 1 (length p)) h);
    }

pub counts_passes : (d p : Bytes) → Counts d p → counts d p ≡ true
counts_passes d p x =
    rw (le-leb 1 (length d) x.some, le-leb (length d) 15 x.few, passes (every is_digit d) x.digits, eq-eqb (value_of d) (length p) x.value, le-leb 1 (length p) x.long)

-- the bytes begin with the mark exactly if they do
pub mark_begins : (e : ℕ) (x : Bytes) → begins_bin e (bin_mark e ++ x) ≡ true
unfolding begins_bin
mark_begins e x = passes (same (bin_mark e) (bin_mark e)) (same_self (bin_mark e))

pub begins_mark : (e : ℕ) (s : Bytes) → T (begins_bin e s) → s ≡ bin_mark e ++ drop 4 s
unfolding begins_bin
begins_mark e s h = sym (take-append-drop 4 s) ∙ ap (λ (x : Bytes). x ++ drop 4 s) (same_equal (take 4 s) (bin_mark e) h)

-- a whole BIN in its parts
pub record BinParts (e : ℕ) (segment count attached : Bytes) : Type 0 where
  pub whole : segment ≡ bin_mark e ++ (count ++ e ∷ attached)
  pub free : Free e count
  pub counted : Counts count attached

module _ (e : ℕ) (g : Bytes) where
  behind_count : (ps : List Bytes) → joined e ps ≡ drop 4 g → Clean e ps
      → Counts (get_or ps 0 []) (drop (length (get_or ps 0 []) + 5) g) → g ≡ bin_mark e ++ drop 4 g
      → BinParts e g (get_or ps 0 []) (drop (length (get_or ps 0 []) + 5) g)
  behind_count [] j f c w = absurd (omega (arith, c.some))
  behind_count (d ∷ []) j f c w =
      let short : length g ≤ length d + 5 = omega (arith, ap length w ∙ length-append (bin_mark e) (drop 4 g), ap length j) in
      let gone : drop (length d + 5) g ≡ [] = drop_of_length-le g short in
      absurd (omega (arith, c.long, ap length gone))
  behind_count (d ∷ (p ∷ ps)) j f c w =
      let rest : drop 4 g ≡ d ++ e ∷ joined e (p ∷ ps) = sym j in
      let all : g ≡ (bin_mark e ++ (d ++ e ∷ [])) ++ joined e (p ∷ ps) = w ∙ ap (λ (x : Bytes). bin_mark e ++ x) (rest ∙ sym (append_snoc d e (joined e (p ∷ ps)))) in
      let attached : drop (length d + 5) g ≡ joined e (p ∷ ps) =
      ap (drop (length d + 5)) all
      ∙ drop_at (bin_mark e ++ (d ++ e ∷ [])) (joined e (p ∷ ps)) (length d + 5) (simp length-append (omega arith)) in
      record { whole = rw attached (w ∙ ap (λ (x : Bytes). bin_mark e ++ x) rest); free = f.0; counted = c }

  pub bin_parts : T (is_bin e g) → BinParts e g (count_in e g) (attached_in e g)
  unfolding is_bin
  bin_parts h =
      behind_count (pieces e (drop 4 g)) (joined_pieces e (drop 4 g)) (pieces_clean e (drop 4 g))
      (counts_told (count_in e g) (attached_in e g) (second_of (begins_bin e g) (counts (count_in e g) (attached_in e g)) h))
      (begins_mark e g (first_of (begins_bin e g) (counts (count_in e g) (attached_in e g)) h))

-- and bytes of such parts
module _ (e : ℕ) (d p : Bytes) (f : Free e d) where
  pub count_made : count_in e (bin_mark e ++ (d ++ e ∷ p)) ≡ d
  count_made = ap (λ (ps : List Bytes). get_or ps 0 []) (pieces_cut e d p f)

  pub attached_made : attached_in e (bin_mark e ++ (d ++ e ∷ p)) ≡ p
  attached_made =
      rw count_made
      (ap (λ (x : Bytes). drop (length d + 5) (bin_mark e ++ x)) (sym (append_snoc d e p))
      ∙ drop_at (bin_mark e ++ (d ++ e ∷ [])) p (length d + 5) (simp length-append (omega arith)))

  pub bin_made : Counts d p → is_bin e (bin_mark e ++ (d ++ e ∷ p)) ≡ true
  unfolding is_bin
  bin_made c = rw (mark_begins e (d ++ e ∷ p), attached_made, count_made) (counts_passes d p c)

-- a whole BIN begins with the mark, whatever follows it
pub bin_begins : (e : ℕ) (g x : Bytes) → T (is_bin e g) → begins_bin e (g ++ x) ≡ true
bin_begins e g x h =
    let w = (bin_parts e g h).whole in
    ap (λ (y : Bytes). begins_bin e (y ++ x)) w ∙ mark_begins e ((count_in e g ++ e ∷ attached_in e g) ++ x)

-- a comparison pair by pair, the one list beside the other
pointwise_same : (s t : Bytes) → pointwise eqb t s ≡ same s t
pointwise_same [] [] = refl
pointwise_same [] (b ∷ t) = refl
pointwise_same (a ∷ s) [] = refl
pointwise_same (a ∷ s) (b ∷ t) = rw (eqb_swap b a, pointwise_same s t)

-- whether bytes begin so from a place on
short_differs : (s t : Bytes) → (length s ≡ length t → ⊥) → same s t ≡ false
short_differs s t n = fails (same s t) (λ h. n (ap length (same_equal s t h)))

pub begins_past : (e : ℕ) (s : Bytes) (at : ℕ) → length s < at → false ≡ begins_bin e (drop at s)
unfolding begins_bin
begins_past e s at l =
    sym (short_differs (take 4 (drop at s)) (bin_mark e) (λ z. omega (arith, z, length-take 4 (drop at s), length-drop at s)))

pub begins_with : (e : ℕ) (s : Bytes) (at : ℕ) (rest : Bytes) (b : Bool) → b ≡ starts_with eqb rest (bin_mark e)
    → rest ≡ slice_range s at (length s) → b ≡ begins_bin e (drop at s)
unfolding begins_bin
begins_with e s at rest b is w =
    is ∙ ap (λ (x : Bytes). starts_with eqb x (bin_mark e)) (w ∙ part_from at s) ∙ pointwise_same (take 4 (drop at s)) (bin_mark e)

-- whether a marked segment is a whole BIN is told by its count
pub marked_counts : (e : ℕ) (g d p : Bytes) → g ≡ bin_mark e ++ (d ++ e ∷ p) → Free e d → is_bin e g ≡ counts d p
unfolding is_bin
marked_counts e g d p w f =
    ap (λ (x : Bytes). begins_bin e x && counts (count_in e x) (attached_in e x)) w
    ∙ rw (mark_begins e (d ++ e ∷ p), attached_made e d p f, count_made e d p f)
