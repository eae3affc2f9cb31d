-- `suits` meets its contract, where the quick test of its type decides.
-- Assumes nothing.
use mathlib.Core.Path.{sym}
use borrow.Author.Tests.{eqb-false}
use Rattle.types.specs.declared.kind.Kind.TheVariants.{AN, ID, R, DT, TM}
use Rattle.ruling.proofs.UsualSegments.{quick_suits}
use Rattle.ruling.proofs.usual.suits.Goals as goal

pub returns-in-AN : goal.returns-in-AN
returns-in-AN c e = rw c.in-AN.is (quick_suits _ AN _ _ _ _ (eqb-false _ 0 (sym c.if-is_empty.ensures)) c.text.ensures e)

pub returns-in-ID : goal.returns-in-ID
returns-in-ID c e = rw c.in-ID.is (quick_suits _ ID _ _ _ _ (eqb-false _ 0 (sym c.if-is_empty.ensures)) c.short_id.ensures e)

pub returns-then-digits_alone : goal.returns-then-digits_alone
returns-then-digits_alone c e =
    rw c.in-R.is (quick_suits _ R _ _ _ _ (eqb-false _ 0 (sym c.if-is_empty.ensures)) c.digits_alone.ensures e)

pub returns-in-DT : goal.returns-in-DT
returns-in-DT c e = rw c.in-DT.is (quick_suits _ DT _ _ _ _ (eqb-false _ 0 (sym c.if-is_empty.ensures)) c.early_date.ensures e)

pub returns-in-TM : goal.returns-in-TM
returns-in-TM c e = rw c.in-TM.is (quick_suits _ TM _ _ _ _ (eqb-false _ 0 (sym c.if-is_empty.ensures)) c.short_time.ensures e)
