-- A BIN at its corners, with the standard separators: what is cut off it, and what is seen of it.
-- Assumes nothing.
use mathlib.Core.Path.{◌≡◌, refl}
use mathlib.Core.List.{[], ◌∷◌}
use Rattle.text.specs.Bytes.{byte, bytes}
use Rattle.text.specs.Separators.{standard}
use Rattle.text.specs.Bin.{begins_bin, is_bin}
use Rattle.text.specs.View.{view_of, elements_of}
use Rattle.text.specs.Cut.{Whole, Stop, cut_attached, cut_of}

-- every byte of BIN02 is the sender's own
whole : cut_of standard (bytes "BIN*5*~*:~S~SE") ≡ Whole (bytes "BIN*5*~*:~S") (bytes "SE")
unfolding cut_of begins_bin cut_attached
whole = refl

leading_zeros : cut_of standard (bytes "BIN*000000000000001*~~") ≡ Whole (bytes "BIN*000000000000001*~") []
unfolding cut_of begins_bin cut_attached
leading_zeros = refl

-- three pieces of one component each
three_pieces : view_of standard (bytes "BIN*3**:*") ≡ (bytes "BIN" ∷ []) ∷ (bytes "3" ∷ []) ∷ (bytes "*:*" ∷ []) ∷ []
unfolding view_of is_bin begins_bin
three_pieces = refl

-- where the count does not end with the bytes, and where it has a sixteenth digit, they are cut at every separator
count_short : elements_of (byte "*") (bytes "BIN*2*A*B") ≡ bytes "BIN" ∷ bytes "2" ∷ bytes "A" ∷ bytes "B" ∷ []
unfolding elements_of is_bin begins_bin
count_short = refl

sixteen_digits : elements_of (byte "*") (bytes "BIN*0000000000000003*A*B") ≡ bytes "BIN" ∷ bytes "0000000000000003" ∷ bytes "A" ∷ bytes "B" ∷ []
unfolding elements_of is_bin begins_bin
sixteen_digits = refl

-- without an element separator behind its tag it is a segment like any other
no_element : cut_of standard (bytes "BIN~SE") ≡ Whole (bytes "BIN") (bytes "SE")
unfolding cut_of begins_bin
no_element = refl

component_behind_tag : cut_of standard (bytes "BIN:3*~~") ≡ Whole (bytes "BIN:3*") (bytes "~")
unfolding cut_of begins_bin
component_behind_tag = refl

-- 3: the bytes end before anything is wrong
ends_in_tag : cut_of standard (bytes "BIN") ≡ Stop 3 0 (bytes "BIN") []
unfolding cut_of begins_bin
ends_in_tag = refl

ends_behind_zero : cut_of standard (bytes "BIN*0") ≡ Stop 3 0 (bytes "BIN*0") []
unfolding cut_of begins_bin
ends_behind_zero = refl

count_beyond : cut_of standard (bytes "BIN*999999999999999*A~") ≡ Stop 3 0 (bytes "BIN*999999999999999*A~") []
unfolding cut_of begins_bin cut_attached
count_beyond = refl

ends_before_terminator : cut_of standard (bytes "BIN*1*~") ≡ Stop 3 0 (bytes "BIN*1*~") []
unfolding cut_of begins_bin cut_attached
ends_before_terminator = refl

-- 10 with element 1: the count, or its separator
no_digit : cut_of standard (bytes "BIN**A~") ≡ Stop 10 1 (bytes "BIN**") (bytes "A~")
unfolding cut_of begins_bin
no_digit = refl

zero_counted : cut_of standard (bytes "BIN*0*A~") ≡ Stop 10 1 (bytes "BIN*0*") (bytes "A~")
unfolding cut_of begins_bin
zero_counted = refl

no_separator_lem : cut_of standard (bytes "BIN*3~SE") ≡ Stop 10 1 (bytes "BIN*3~") (bytes "SE")
unfolding cut_of begins_bin
no_separator_lem = refl

fifteenth_zero : cut_of standard (bytes "BIN*000000000000000") ≡ Stop 10 1 (bytes "BIN*000000000000000") []
unfolding cut_of begins_bin
fifteenth_zero = refl

sixteenth_digit : cut_of standard (bytes "BIN*0000000000000011*") ≡ Stop 10 1 (bytes "BIN*0000000000000011") (bytes "*")
unfolding cut_of begins_bin
sixteenth_digit = refl

-- 10 with element 2: another byte where the terminator is due
other_byte : cut_of standard (bytes "BIN*1*AB~") ≡ Stop 10 2 (bytes "BIN*1*AB") (bytes "~")
unfolding cut_of begins_bin cut_attached
other_byte = refl
