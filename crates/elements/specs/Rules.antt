-- What makes a segment right by itself: the rules behind answers 5, 6, 9, 8, 10 and 11 over its view, in document 01's words.
-- Assumes nothing.
use Rattle.std.specs.Prelude.{ℕ, zero, suc, Bool, true, false, not, cond, ◌&&◌, ◌||◌, List, [], ◌∷◌, ◌++◌, leb, eqb, length, get_or}
use Rattle.text.specs.Bytes.{every, any}
use Rattle.text.specs.Separators.{printable}
use Rattle.text.specs.View.{Piece, View, present, element_of, element_count, inspected}
use Rattle.types.specs.Types.{fits}
use Rattle.elements.specs.Data.{Value, Shape, Simple, Composite, Element, Note, Paired, Required, Conditional, Rules, ElementProfile, may}
use Rattle.elements.specs.Checks.{Check, check, each}
use Rattle.types.specs.declared.kind.Kind.TheVariants.{AN}
use Rattle.elements.specs.declared.verdict.Reason.TheVariants.{BadByte, BadEnd, Missing, TooMany, Unfit, BrokenNote}

-- 5, a byte that is neither data nor a separator; the tag is element 0. Where a view is looked into it holds no separator, so its bytes are data
-- exactly if they are printable
abbrev pub data_piece : Piece → Bool
data_piece p = every (every printable) p

unfoldable pub data_checks : View → List Check
data_checks v = each BadByte 0 (length v) (λ (k : ℕ). data_piece (element_of v k))

-- BIN02 is not looked into
unfoldable pub byte_checks : View → List Check
byte_checks v = data_checks (inspected v)

-- the last component has a byte
abbrev pub last_filled : Piece → Bool
last_filled [] = false
last_filled (c ∷ []) = leb 1 (length c)
last_filled (c ∷ (d ∷ cs)) = last_filled (d ∷ cs)

-- an element that is present ends with a component that is not empty; one that is absent is not the last
abbrev pub ends_well_of : View → ℕ → Bool
ends_well_of v k = cond (present (element_of v k)) (last_filled (element_of v k)) (not (eqb k (element_count v)))

-- 6: there is no element, or the last element is empty, or an element ends with an empty component
unfoldable pub end_checks : View → List Check
end_checks v = check BadEnd 0 (leb 1 (element_count v)) ∷ each BadEnd 1 (element_count v) (ends_well_of v)

-- the rule of element k; of a number without a rule, one that nothing is asked of
abbrev pub unruled : Element
unruled = may AN 0 0

abbrev pub rule_of : Rules → ℕ → Element
rule_of rules zero = unruled
rule_of rules (suc k) = get_or rules.elements k unruled

-- a composite has no more components than its rule; of one value rule 10 asks for one component
abbrev pub few_components : Shape → Piece → Bool
few_components (Simple x) p = true
few_components (Composite xs) p = leb (length p) (length xs)

-- the element has a rule, and no component too many
abbrev pub few_by : Rules → ℕ → Piece → Bool
few_by rules k p = leb k (length rules.elements) && few_components (rule_of rules k).shape p

-- the profile wants the element absent
abbrev pub is_unused : ElementProfile → (tag k : ℕ) → Bool
is_unused profile tag k = any (λ (x : ℕ × ℕ). eqb x.0 tag && eqb x.1 k) profile.unused

-- it is absent, where `unused` says that it must be
abbrev pub absent_if : (unused : Bool) → Piece → Bool
absent_if unused p = not (unused && present p)

-- 9: an element past the last ruled one, or a component too many, or an element that must be absent
abbrev pub too_many_checks : Rules → (unused : ℕ → Bool) → View → List Check
too_many_checks rules unused v = each TooMany 1 (element_count v) (λ (k : ℕ). few_by rules k (element_of v k) && absent_if (unused k) (element_of v k))

-- the first component has a byte
abbrev pub first_filled : Piece → Bool
first_filled [] = false
first_filled (c ∷ cs) = leb 1 (length c)

-- of a composite that is present the first component is mandatory
abbrev pub headed : Shape → Piece → Bool
headed (Simple x) p = true
headed (Composite xs) p = not (present p) || first_filled p

-- what is mandatory is there
abbrev pub complete_by : Element → Piece → Bool
complete_by e p = (not e.must || present p) && headed e.shape p

-- 8: an element that must be there is not
abbrev pub missing_checks : Rules → View → List Check
missing_checks rules v = each Missing 1 (length rules.elements) (λ (k : ℕ). complete_by (rule_of rules k) (element_of v k))

-- a ruled element that is no composite has one component
abbrev pub fits_simple : Value → Piece → Bool
fits_simple x [] = false
fits_simple x (s ∷ []) = fits x.kind x.least x.most s
fits_simple x (s ∷ (t ∷ p)) = false

-- each component fits its value, or is empty
abbrev pub fits_each : List Value → Piece → Bool
fits_each xs [] = true
fits_each [] (s ∷ p) = false
fits_each (x ∷ xs) (s ∷ p) = (eqb (length s) 0 || fits x.kind x.least x.most s) && fits_each xs p

abbrev pub fits_shape : Shape → Piece → Bool
fits_shape (Simple x) p = fits_simple x p
fits_shape (Composite xs) p = fits_each xs p

-- the element is absent, or fits its type and length
abbrev pub suits_by : Element → Piece → Bool
suits_by e p = not (present p) || fits_shape e.shape p

-- 10: an element that is there and does not fit its type or length; ST01 has one value, `842`
abbrev pub unfit_checks : Rules → View → List Check
unfit_checks rules v = each Unfit 1 (length rules.elements) (λ (k : ℕ). suits_by (rule_of rules k) (element_of v k))

-- whether the note holds, where `there` tells which elements are present
abbrev pub note_holds : (ℕ → Bool) → Note → Bool
note_holds there (Paired ks) = every there ks || not (any there ks)
note_holds there (Required ks) = any there ks
note_holds there (Conditional k ks) = not (there k) || every there ks

-- the element that a note names first
abbrev pub named_first : Note → ℕ
named_first (Paired ks) = get_or ks 0 0
named_first (Required ks) = get_or ks 0 0
named_first (Conditional k ks) = k

-- 11: the first note, as they are listed, that does not hold
abbrev pub note_checks : List Note → (ℕ → Bool) → List Check
note_checks [] there = []
note_checks (n ∷ ns) there = check BrokenNote (named_first n) (note_holds there n) ∷ note_checks ns there

-- whether element k is present
abbrev pub present_at : View → ℕ → Bool
present_at v k = present (element_of v k)

-- 9, 8, 10 and 11 of a ruled segment
abbrev pub checks_by : Rules → (unused : ℕ → Bool) → View → List Check
checks_by rules unused v = too_many_checks rules unused v ++ missing_checks rules v ++ unfit_checks rules v ++ note_checks rules.notes (present_at v)

-- of a segment with that tag; a plain segment has none
abbrev pub checks_among : List (ℕ × Rules) → (unused : ℕ → Bool) → ℕ → View → List Check
checks_among [] unused tag v = []
checks_among (x ∷ xs) unused tag v = cond (eqb x.0 tag) (checks_by x.1 unused v) (checks_among xs unused tag v)

unfoldable pub ruled_checks : ElementProfile → ℕ → View → List Check
ruled_checks profile tag v = checks_among profile.ruled (is_unused profile tag) tag v
