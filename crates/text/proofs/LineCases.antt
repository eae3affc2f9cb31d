-- Line ends at their corners: how many bytes are skipped, with the standard separators and with others.
-- Assumes nothing.
use mathlib.Core.Path.{◌≡◌, refl}
use Rattle.text.specs.Bytes.{byte, bytes}
use Rattle.text.specs.Separators.{standard}
use Rattle.text.specs.Cut.{CR, LF, skip_of}
use Rattle.text.specs.declared.lines.LineEnds.TheVariants.{Skipped, Strict}
use Rattle.text.specs.declared.separators.Separators.{Separators}

-- a CR LF, an LF, a CR, and none
both : skip_of Skipped standard (bytes "\r\nHL") ≡ 2
both = refl

feed_alone : skip_of Skipped standard (bytes "\nHL") ≡ 1
feed_alone = refl

return_alone : skip_of Skipped standard (bytes "\rHL") ≡ 1
return_alone = refl

none : skip_of Skipped standard (bytes "HL") ≡ 0
none = refl

at_the_end : skip_of Skipped standard (bytes "") ≡ 0
at_the_end = refl

-- at most one of each, and in this order
other_order : skip_of Skipped standard (bytes "\n\rHL") ≡ 1
other_order = refl

two_returns : skip_of Skipped standard (bytes "\r\r\nHL") ≡ 1
two_returns = refl

two_lines : skip_of Skipped standard (bytes "\r\n\r\nHL") ≡ 2
two_lines = refl

-- unless the byte is a separator: where CR ends segments, the LF behind it is skipped, and a second CR is not
lines_end : Separators
lines_end = record { element = byte "*"; component = byte ":"; terminator = CR }

feed_behind_terminator : skip_of Skipped lines_end (bytes "\nHL") ≡ 1
unfolding lines_end
feed_behind_terminator = refl

return_separates : skip_of Skipped lines_end (bytes "\r\nHL") ≡ 0
unfolding lines_end
return_separates = refl

feeds_separate : Separators
feeds_separate = record { element = LF; component = byte ":"; terminator = byte "~" }

return_before_separator : skip_of Skipped feeds_separate (bytes "\r\nHL") ≡ 1
unfolding feeds_separate
return_before_separator = refl

-- by the strict choice nothing is skipped
strictly : skip_of Strict standard (bytes "\r\nHL") ≡ 0
strictly = refl
