-- A reason by its number, and that the number of a reason names no other.
-- Assumes nothing.
use Rattle.std.specs.Prelude.{ℕ, ◌≡◌, refl, cond, eqb}
use Rattle.std.proofs.Common.{sym, ap, ◌∙◌}
use Rattle.elements.specs.Reasons.{number_of}
use Rattle.elements.specs.declared.verdict.Reason.{Reason}
use Rattle.elements.specs.declared.verdict.Reason.TheVariants.{UnfitSeparators, TooLong, Unended, UnknownTag, BadByte, BadEnd, NoRow, Missing, TooMany, Unfit, BrokenNote, RepeatedName, UnknownParent, BadCode, BadMark, BadClose, NoRoom, Collision, ShortOutput, ForeignRow}

-- the reason with that number; 24 where there is none
abbrev pub reason_of : ℕ → Reason
reason_of n =
    cond (eqb n 1) UnfitSeparators (cond (eqb n 2) TooLong (cond (eqb n 3) Unended (cond (eqb n 4) UnknownTag (cond (eqb n 5) BadByte
    (cond (eqb n 6) BadEnd (cond (eqb n 7) NoRow (cond (eqb n 8) Missing (cond (eqb n 9) TooMany (cond (eqb n 10) Unfit (cond (eqb n 11) BrokenNote
    (cond (eqb n 12) RepeatedName (cond (eqb n 13) UnknownParent (cond (eqb n 14) BadCode (cond (eqb n 15) BadMark (cond (eqb n 16) BadClose
    (cond (eqb n 17) NoRoom (cond (eqb n 18) Collision (cond (eqb n 19) ShortOutput ForeignRow))))))))))))))))))

pub reason_again : (r : Reason) → reason_of (number_of r) ≡ r
reason_again UnfitSeparators = refl
reason_again TooLong = refl
reason_again Unended = refl
reason_again UnknownTag = refl
reason_again BadByte = refl
reason_again BadEnd = refl
reason_again NoRow = refl
reason_again Missing = refl
reason_again TooMany = refl
reason_again Unfit = refl
reason_again BrokenNote = refl
reason_again RepeatedName = refl
reason_again UnknownParent = refl
reason_again BadCode = refl
reason_again BadMark = refl
reason_again BadClose = refl
reason_again NoRoom = refl
reason_again Collision = refl
reason_again ShortOutput = refl
reason_again ForeignRow = refl

-- two reasons with one number are one
pub same_number : (r r' : Reason) → number_of r ≡ number_of r' → r ≡ r'
same_number r r' e = sym (reason_again r) ∙ (ap reason_of e ∙ reason_again r')
