-- Condition 2 in its prefix form: a reading accepts exactly when some segments begin the bytes, each keeps its rules after those before it,
-- their rows are a word, and there is room.
-- Assumes nothing.
use Prim.Native.Nat.{ℕ, ◌+◌, ◌<◌}
use mathlib.Core.Path.{◌≡◌, refl, sym, ap, ◌∙◌}
use mathlib.Core.List.{List, [], ◌∷◌, ◌++◌}
use native.Mathlib.Omega.{arith}
use lib.Dec.{eqb_refl}
use lib.ListN.{length, drop, length-append}
use Rattle.text.specs.Bytes.{Bytes}
use Rattle.text.specs.View.{view_of}
use Rattle.text.specs.Cut.{Whole, Placed, Leads}
use Rattle.text.proofs.Everys.{every_middle}
use Rattle.text.proofs.Lists.{map-append, HasLast, has_last}
use Rattle.rows.specs.Tags.{tag}
use Rattle.rows.specs.Following.{Fits}
use Rattle.gate.specs.Profile.{Profile}
use Rattle.gate.specs.Segments.{tag_in_of, seen, onto, levels_in}
use Rattle.gate.specs.Answers.{accepted}
use Rattle.gate.specs.Rules.{Kept}
use Rattle.gate.specs.Records.{Tables, Room}
use Rattle.gate.specs.Reads.{cut_by, skip_by, Run}
use Rattle.gate.specs.Conditions.{used_by}
use Rattle.gate.specs.declared.how.How.{How}
use Rattle.gate.proofs.reading.Laws.{from_at, onto_append, MeetsFrom}
use Rattle.gate.proofs.reading.Passing.{numbers, one_each, room_fewer}
use Rattle.gate.proofs.reading.RowOfSE.{tag_79}
use Rattle.gate.proofs.reading.LastSegment.{passed_closed, word_viable, tags_last, closed_passed, word_ended}

-- segments that begin the bytes and are a whole transaction, with room
pub record Transaction (profile : Profile) (how : How) (t : Tables) (s : Bytes) (gs : List Placed) (rows : List ℕ) : Type 0 where
  pub end : ℕ
  pub rest : Bytes
  pub leads : Leads (cut_by how) (skip_by how) 0 s gs end rest
  pub meets : MeetsFrom profile (seen how gs) rows
  pub room : Room profile t (onto [] (seen how gs))

pub used_snoc : (gs : List Placed) (g : Placed) → used_by (gs ++ (g ∷ [])) ≡ g.at + length g.segment + 1
used_snoc [] g = refl
used_snoc (h ∷ []) g = refl
used_snoc (h ∷ (i ∷ gs)) g = used_snoc (i ∷ gs) g

module _ (profile : Profile) (how : How) (t : Tables) (s : Bytes) where
  abbrev Led : ℕ → Bytes → List Placed → ℕ → Bytes → Type 0
  Led at from gs end rest = Leads (cut_by how) (skip_by how) at from gs end rest

  -- one segment more, and back
  pub led_snoc : (at : ℕ) (from : Bytes) (gs : List Placed) (end : ℕ) (rest segment more : Bytes) → Led at from gs end rest → cut_by how rest ≡ Whole segment more
      → Led at from (gs ++ (record { at = end; segment = segment } ∷ [])) (end + length segment + 1 + skip_by how more) (drop (skip_by how more) more)
  led_snoc at from [] end rest segment more l c = (more, ap (cut_by how) l.1 ∙ c, sym l.0, (rw l.0, refl))
  led_snoc at from (g ∷ gs) end rest segment more l c = (
    l.0,
    l.1,
    l.2,
    led_snoc (at + length g.segment + 1 + skip_by how l.0) (drop (skip_by how l.0) l.0) gs end rest segment more l.3 c,
  )

  record LastLed (at : ℕ) (from : Bytes) (gs : List Placed) (g : Placed) : Type 0 where
    rest : Bytes
    more : Bytes
    leads : Led at from gs g.at rest
    next : cut_by how rest ≡ Whole g.segment more

  led_last : (at : ℕ) (from : Bytes) (gs : List Placed) (g : Placed) (end : ℕ) (rest : Bytes) → Led at from (gs ++ (g ∷ [])) end rest → LastLed at from gs g
  led_last at from [] g end rest l = record { rest = from; more = l.0; leads = (sym l.2, refl); next = l.1 }
  led_last at from (h ∷ gs) g end rest l =
      let i = led_last (at + length h.segment + 1 + skip_by how l.0) (drop (skip_by how l.0) l.0) gs g end rest l.3 in
      record { rest = i.rest; more = i.more; leads = (l.0, l.1, l.2, i.leads); next = i.next }

  -- an accepted reading has kept a transaction
  pub accepted_transaction : (a b c : ℕ) (kept : List Placed) (w : List ℕ) → Run profile how t s (accepted a b c) kept w → Transaction profile how t s kept w
  accepted_transaction a b c kept w r =
      let x = r.ends in
      let v = view_of how.separators x.segment in
      let vs : seen how kept ≡ seen how r.gs ++ (v ∷ []) =
      ap (seen how) x.kept_is ∙ map-append (λ (g : Placed). view_of how.separators g.segment) r.gs (record { at = r.end; segment = x.segment } ∷ []) in
      record {
        end = r.end + length x.segment + 1 + skip_by how x.keeping.more;
        rest = drop (skip_by how x.keeping.more) x.keeping.more;
        leads = rw x.kept_is
            (led_snoc 0 s r.gs r.end r.rest x.segment x.keeping.more r.passed.leads x.keeping.next);
        meets = rw (vs, x.numbers_is)
            (passed_closed profile (seen how r.gs) r.rows v x.row (numbers r.passed) x.keeping.sound.kept x.keeping.sound.fits x.keeping.sound.admitted x.last);
        room = rw (vs, onto_append) x.room;
      }

  -- a transaction whose last row is 79 is read and accepted
  closing_run : (gs : List Placed) (g : Placed) (w : List ℕ) → Transaction profile how t s (gs ++ (g ∷ [])) (w ++ (79 ∷ []))
      → Run profile how t s (accepted (length (gs ++ (g ∷ []))) (length (levels_in profile (onto [] (seen how (gs ++ (g ∷ [])))))) (used_by (gs ++ (g ∷ []))))
      (gs ++ (g ∷ [])) (w ++ (79 ∷ []))
  closing_run gs g w x =
      let v = view_of how.separators g.segment in
      let vs = seen how gs in
      let e : seen how (gs ++ (g ∷ [])) ≡ vs ++ (v ∷ []) = map-append (λ (g : Placed). view_of how.separators g.segment) gs (g ∷ []) in
      let m : MeetsFrom profile (vs ++ (v ∷ [])) (w ++ (79 ∷ [])) = rw e at x.meets in
      let se = tags_last vs v w m.word m.tags in
      let f : Fits w (tag_in_of v) 79 = record { viable = word_viable vs v w m.word m.tags; tagged = tag_79 ∙ sym se.1 } in
      let n = closed_passed profile vs v w m in
      let l = led_last 0 s gs g x.end x.rest x.leads in
      let r : Room profile t (v ∷ onto [] vs) = rw (e, onto_append) at x.room in
      record {
        gs = gs;
        rows = w;
        end = g.at;
        rest = l.rest;
        passed = record {
          leads = l.leads;
          viable = n.viable;
          admitted = n.admitted;
          tags = n.tags;
          kept = n.kept;
          ongoing = n.ongoing;
          room = room_fewer profile t (onto [] vs) (v ∷ []) r;
        };
        ends = record {
          segment = g.segment;
          row = 79;
          keeping = record {
            more = l.more;
            next = l.next;
            sound = record {
              kept = from_at (Kept profile) [] vs v [] m.kept;
              fits = f;
              admitted = every_middle profile.rows w 79 [] m.admitted;
            };
          };
          last = rw se.1 (eqb_refl (tag "SE"));
          room = r;
          kept_is = refl;
          numbers_is = refl;
          counts = rw (used_snoc gs g);
        };
      }

  -- every transaction is
  pub transaction_accepted : (gs : List Placed) (rows : List ℕ) → Transaction profile how t s gs rows
      → Run profile how t s (accepted (length gs) (length (levels_in profile (onto [] (seen how gs)))) (used_by gs)) gs rows
  transaction_accepted gs rows x =
      let d = word_ended rows x.meets.word in
      let n = one_each how gs rows x.meets.tags in
      let k : 0 < length gs = omega (arith, n, simp length-append at (ap length d.whole)) in
      split d.front rows gs d.whole (has_last gs k) x
    where
      split : (w rows : List ℕ) (gs : List Placed) → rows ≡ w ++ (79 ∷ []) → HasLast gs → Transaction profile how t s gs rows
          → Run profile how t s (accepted (length gs) (length (levels_in profile (onto [] (seen how gs)))) (used_by gs)) gs rows
      split w rows gs e l x = rw (e, l.whole) (closing_run l.front l.last w (rw (e, l.whole) at x))
