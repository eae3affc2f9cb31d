-- Capitals and digits may not serve as separators.
-- Assumes nothing.
use Prim.Native.Nat.{ℕ}
use mathlib.Core.Path.{◌≡◌, subst}
use mathlib.Core.Bool.{Bool, true, false, not, ◌||◌}
use mathlib.Core.List.{[], ◌∷◌}
use lib.Dec.{T}
use Rattle.text.specs.Bytes.{Bytes, bytes, between, every, among}
use Rattle.text.specs.Separators.{is_digit, is_capital, is_id_byte, is_small, may_serve}
use Rattle.text.specs.internal.Search.{Free}
use Rattle.text.proofs.Bools.{first_of, second_of, or_right}

pub serves_no_id_byte : (b : ℕ) → T (may_serve b) → T (is_id_byte b) → ⊥
unfolding may_serve
serves_no_id_byte b m p =
    by (is_capital b) (is_digit b) (is_small b) (among (bytes " .-") b) p
    (second_of (between 1 126 b) (not (is_capital b || is_small b || is_digit b || among (bytes " .-") b)) m)
  where
    by : (a d s m : Bool) → T (a || d) → T (not (a || s || d || m)) → ⊥
    by true d s m p n = n
    by false true true m p n = n
    by false true false m p n = n
    by false false s m p n = p

-- so none of them is a byte that serves
pub serves_apart : (b x : ℕ) → T (is_id_byte b) → T (may_serve x) → b ≡ x → ⊥
serves_apart b x p m e = serves_no_id_byte x m (subst (λ (y : ℕ). T (is_id_byte y)) e p)

-- bytes of capitals and digits hold none
pub id_bytes_free : (x : ℕ) → T (may_serve x) → (s : Bytes) → T (every is_id_byte s) → Free x s
id_bytes_free x m [] t = tt
id_bytes_free x m (b ∷ s) t = (
  serves_apart b x (first_of (is_id_byte b) (every is_id_byte s) t) m,
  id_bytes_free x m s (second_of (is_id_byte b) (every is_id_byte s) t),
)

-- and so do digits
pub digit_id_byte : (b : ℕ) → T (is_digit b) → T (is_id_byte b)
digit_id_byte b t = or_right (is_capital b) (is_digit b) t
