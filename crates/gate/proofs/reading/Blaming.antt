-- Which answers a reading can give: what every test that may fail says of its reason's number and its element holds of the first broken rule, and so of the refusal.
-- Assumes nothing.
use Prim.Native.Nat.{ℕ, zero, suc, ◌≤◌}
use mathlib.Core.Path.{◌≡◌, refl, sym, subst}
use mathlib.Core.Logic.{◌⊎◌, inl, inr}
use mathlib.Core.Bool.{Bool, true, false, not, cond, ◌&&◌, ◌||◌}
use mathlib.Core.List.{List, [], ◌∷◌, ◌++◌, append_assoc, append-nil, head-eq_of_cons-eq, tail-eq_of_cons-eq}
use native.Mathlib.Omega.{arith}
use lib.Dec.{T, leb, eqb}
use lib.ListN.{length}
use Rattle.text.specs.Bytes.{Bytes}
use Rattle.text.specs.Separators.{fit_separators}
use Rattle.text.specs.View.{View, view_of, present, element_of, element_count, inspected}
use Rattle.text.specs.Cut.{Cut, Placed}
use Rattle.text.proofs.DocumentCut.{Splits, cut_splits}
use Rattle.elements.specs.Data.{ElementProfile, Note, Rules}
use Rattle.elements.specs.Checks.{Check, each, Keeps}
use Rattle.elements.specs.Rules.{data_piece, data_checks, byte_checks, ends_well_of, end_checks, rule_of, few_by, is_unused, absent_if, too_many_checks, headed, missing_checks, fits_shape, unfit_checks, note_checks, checks_by, checks_among, ruled_checks, present_at}
use Rattle.elements.specs.Reasons.{number_of}
use Rattle.elements.specs.declared.verdict.Reason.{Reason}
use Rattle.elements.specs.declared.verdict.Reason.TheVariants.{BadByte, BadEnd, Missing, TooMany, Unfit}
use Rattle.gate.specs.Profile.{Profile, profile_of}
use Rattle.gate.specs.Segments.{seen, onto}
use Rattle.gate.specs.Answers.{refused}
use Rattle.gate.specs.Rules.{Rule, as_rules, tag_checks, row_rules, early, late, rules, FirstBroken}
use Rattle.gate.specs.Records.{Tables}
use Rattle.gate.specs.Reads.{limit, Passed, Read, Reads, ReadsBy, ReadsFit, ReadsWithin}
use Rattle.gate.specs.declared.how.How.{How}
use Rattle.gate.proofs.reading.Once.{Fails, refused_fails}

module _ (P : ℕ → ℕ → Type 0) where
  -- each test says P of its reason's number and its element, or holds
  abbrev pub AllSay : List Check → Type 0
  AllSay [] = Unit {0}
  AllSay (c ∷ cs) = (P (number_of c.reason) c.element ⊎ T c.holds) × AllSay cs

  pub both : (a b : List Check) → AllSay a → AllSay b → AllSay (a ++ b)
  both [] b x y = y
  both (c ∷ a) b x y = (x.0, both a b x.1 y)

  pub all : (reason : Reason) (a n : ℕ) (test : ℕ → Bool) → ((e : ℕ) → P (number_of reason) e) → AllSay (each reason a n test)
  all reason a zero test f = tt
  all reason a (suc n) test f = (inl (f a), all reason (suc a) n test f)

  pub either : (b : Bool) (cs : List Check) → (b ≡ true → AllSay cs) → AllSay (cond b cs [])
  either true cs x = x refl
  either false cs x = tt

  -- so does the first broken rule, where the rest of the rules does
  pub first_says : (cs : List Check) (rest : List Rule) (n : Reason) (e : ℕ) → AllSay cs → (Keeps cs → FirstBroken rest n e → P (number_of n) e)
      → FirstBroken (as_rules cs ++ rest) n e → P (number_of n) e
  first_says [] rest n e x later f = later tt f
  first_says (c ∷ cs) rest n e (inl p, x) later (inl f) = rw (f.1, f.2) p
  first_says (c ∷ cs) rest n e (inr t, x) later (inl f) = absurd (f.0 t)
  first_says (c ∷ cs) rest n e (y, x) later (inr f) = first_says cs rest n e x (λ k. later (f.0, k)) f.1

  pub list_says : (cs : List Check) (n : Reason) (e : ℕ) → AllSay cs → FirstBroken (as_rules cs) n e → P (number_of n) e
  list_says cs n e x f = first_says cs [] n e x (λ k z. absurd z) (subst (λ (l : List Rule). FirstBroken l n e) (sym (append-nil (as_rules cs))) f)

  -- 5, 4 and 6
  pub early_says : ((n e : ℕ) → 4 ≤ n → n ≤ 6 → P n e) → (v : View) → AllSay (early v)
  unfolding byte_checks data_checks tag_checks end_checks
  early_says p v =
      both (byte_checks v ++ tag_checks v) (end_checks v)
      (both (byte_checks v) (tag_checks v)
      (all BadByte 0 (length (inspected v)) (λ (k : ℕ). data_piece (element_of (inspected v) k)) (λ e. p 5 e (omega arith) (omega arith)))
      (inl (p 4 0 (omega arith) (omega arith)), tt))
      (inl (p 6 0 (omega arith) (omega arith)), all BadEnd 1 (element_count v) (ends_well_of v) (λ e. p 6 e (omega arith) (omega arith)))

  -- 9, 8, 10 and 11 of a ruled segment
  module _ (p : (n e : ℕ) → 8 ≤ n → n ≤ 11 → P n e) where
    notes_say : (ns : List Note) (v : View) → AllSay (note_checks ns (present_at v))
    notes_say [] v = tt
    notes_say (n ∷ ns) v = (inl (p 11 _ (omega arith) (omega arith)), notes_say ns v)

    by_say : (r : Rules) (unused : ℕ → Bool) (v : View) → AllSay (checks_by r unused v)
    by_say r unused v =
        both (too_many_checks r unused v ++ missing_checks r v ++ unfit_checks r v) (note_checks r.notes (present_at v))
        (both (too_many_checks r unused v ++ missing_checks r v) (unfit_checks r v)
        (both (too_many_checks r unused v) (missing_checks r v)
        (all TooMany 1 (element_count v) (λ (k : ℕ). few_by r k (element_of v k) && absent_if (unused k) (element_of v k)) (λ e. p 9 e (omega arith) (omega arith)))
        (all Missing 1 (length r.elements) (λ (k : ℕ). (not (rule_of r k).must || present (element_of v k)) && headed (rule_of r k).shape (element_of v k))
        (λ e. p 8 e (omega arith) (omega arith))))
        (all Unfit 1 (length r.elements) (λ (k : ℕ). not (present (element_of v k)) || fits_shape (rule_of r k).shape (element_of v k))
        (λ e. p 10 e (omega arith) (omega arith))))
        (notes_say r.notes v)

    among_say : (xs : List (ℕ × Rules)) (unused : ℕ → Bool) (tag : ℕ) (v : View) → AllSay (checks_among xs unused tag v)
    among_say [] unused tag v = tt
    among_say (x ∷ xs) unused tag v = by (eqb x.0 tag) (among_say xs unused tag v)
      where
        by : (b : Bool) → AllSay (checks_among xs unused tag v) → AllSay (cond b (checks_by x.1 unused v) (checks_among xs unused tag v))
        by true later = by_say x.1 unused v
        by false later = later

    pub ruled_says : (profile : ElementProfile) (tag : ℕ) (v : View) → AllSay (ruled_checks profile tag v)
    unfolding ruled_checks
    ruled_says profile tag v = among_say profile.ruled (is_unused profile tag) tag v

  -- all rules of a segment, where the row's rules and those behind them do
  pub rules_say : (profile : Profile) (w : List ℕ) (h : List View) (v : View) (n : Reason) (e : ℕ) → AllSay (early v)
      → (FirstBroken (row_rules profile w v ++ as_rules (late profile h v)) n e → P (number_of n) e) → FirstBroken (rules profile w h v) n e → P (number_of n) e
  rules_say profile w h v n e x later f =
      first_says (early v) (row_rules profile w v ++ as_rules (late profile h v)) n e x (λ k. later)
      (subst (λ (l : List Rule). FirstBroken l n e) (append_assoc (as_rules (early v)) (row_rules profile w v) (as_rules (late profile h v))) f)

  -- A refusal: 1 and 2 before anything, 3 or 10 of a cut, a broken rule of a segment behind those that were passed, or 17
  pub record Says (how : How) (before : Tables) (s : Bytes) : Type 0 where
    pub unfit : P 1 0
    pub too_long : P 2 0
    pub cut : (n e : ℕ) → (n ≡ 3) ⊎ (n ≡ 10) → P n e
    pub broken : (gs : List Placed) (rows : List ℕ) (end : ℕ) (rest g : Bytes) (n : Reason) (e : ℕ) → Passed (profile_of how) how before s gs rows end rest
        → FirstBroken (rules (profile_of how) rows (onto [] (seen how gs)) (view_of how.separators g)) n e → P (number_of n) e
    pub no_room : P 17 0

  module _ (how : How) (s : Bytes) (before : Tables) (p : Says how before s) (n : Reason) (k b e : ℕ) (after : Tables) where
    read_says : Read (profile_of how) how s before (refused n k b e) after → P (number_of n) e
    read_says x =
        by (refused_fails (profile_of how) how before x.run.gs x.run.rows x.run.end x.run.rest n k b e x.kept x.numbers x.run.ends)
      where
        by : Fails (profile_of how) how before x.run.gs x.run.rows x.run.end x.run.rest n e → P (number_of n) e
        by (inl f) =
            p.cut (number_of n) e (subst (λ (c : Cut). Splits how.separators x.run.rest c) f.stops (cut_splits how.separators x.run.rest))
        by (inr (inl f)) = p.broken x.run.gs x.run.rows x.run.end x.run.rest f.segment n e x.run.passed f.first
        by (inr (inr f)) = rw (f.reason_is, f.element_is) p.no_room

    -- four numbers of an answer that names no segment
    bare : (m : ℕ) → P m 0 → ◌≡◌ {A = List ℕ} (number_of n ∷ k ∷ b ∷ e ∷ []) (m ∷ 0 ∷ 0 ∷ 0 ∷ []) → P (number_of n) e
    bare m q z =
        let element = head-eq_of_cons-eq (tail-eq_of_cons-eq (tail-eq_of_cons-eq (tail-eq_of_cons-eq z))) in
        rw (head-eq_of_cons-eq z, element) q

    pub refusal_says : Reads how s before (refused n k b e) after → P (number_of n) e
    unfolding ReadsBy
    refusal_says x = by (fit_separators how.separators) x
      where
        within : (short : Bool) → ReadsWithin short (profile_of how) how s before (refused n k b e) after → P (number_of n) e
        within true y = read_says y
        within false y = bare 2 p.too_long y.answer

        by : (fit : Bool) → ReadsFit fit (profile_of how) how s before (refused n k b e) after → P (number_of n) e
        by true y = within (leb (length s) limit) y
        by false y = bare 1 p.unfit y.answer
