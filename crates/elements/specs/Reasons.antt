-- The numbers of the answers that refuse.
-- Assumes nothing.
use Rattle.std.specs.Prelude.{ℕ}
use Rattle.elements.specs.declared.verdict.Reason.{Reason}
use Rattle.elements.specs.declared.verdict.Reason.TheVariants.{UnfitSeparators, TooLong, Unended, UnknownTag, BadByte, BadEnd, NoRow, Missing, TooMany, Unfit, BrokenNote, RepeatedName, UnknownParent, BadCode, BadMark, BadClose, NoRoom, Collision, ShortOutput, ForeignRow}

abbrev pub number_of : Reason → ℕ
number_of UnfitSeparators = 1
number_of TooLong = 2
number_of Unended = 3
number_of UnknownTag = 4
number_of BadByte = 5
number_of BadEnd = 6
number_of NoRow = 7
number_of Missing = 8
number_of TooMany = 9
number_of Unfit = 10
number_of BrokenNote = 11
number_of RepeatedName = 12
number_of UnknownParent = 13
number_of BadCode = 14
number_of BadMark = 15
number_of BadClose = 16
number_of NoRoom = 17
number_of Collision = 18
number_of ShortOutput = 19
number_of ForeignRow = 24
