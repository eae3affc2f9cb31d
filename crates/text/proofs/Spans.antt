-- Where pieces stand. `Begun`: the bytes begin with k whole pieces, each with its separator, `at` bytes in all.
-- Assumes nothing.
use Prim.Native.Nat.{ℕ, zero, suc, ◌+◌, ◌-◌, ◌≤◌, ◌<◌}
use mathlib.Core.Path.{◌≡◌, refl, sym, ap, ◌∙◌}
use mathlib.Core.Logic.{by_cases}
use mathlib.Core.List.{List, [], ◌∷◌, ◌++◌, append_assoc, append-nil}
use native.Mathlib.Omega.{arith}
use native.Mathlib.Decide.{dec_lt}
use lib.ListN.{length, take, drop, get_or, length-append, length-drop, take-append-drop, get_or-eq_default}
use lib.Seq.{drop_at, take_at, get_or_at, take-append_seam, take-append-le, drop-append-le, drop-drop}
use borrow.Author.Tests.{lt-ltb, le-ltb}
use Rattle.text.specs.Bytes.{Bytes}
use Rattle.text.specs.Pieces.{pieces, joined, closed}
use Rattle.text.proofs.Pieces.{Clean, pieces_free, pieces_cut, pieces_closed, joined_pieces, closed_snoc, clean_snoc}
use Rattle.text.specs.internal.Search.{Free, FirstAt, Finds}
use Rattle.std.specs.Prelude.{Option, Some, None, unwrap_or}
use Rattle.text.specs.Lookup.{span, span_among, part_of}
use Rattle.text.specs.internal.Spans.{piece_span}
use Rattle.text.specs.declared.lookup.Span.{Span}

pub record Begun (sep : ℕ) (s : Bytes) (k at : ℕ) : Type 0 where
  pub gone : List Bytes
  pub rest : Bytes
  pub whole : s ≡ closed sep gone ++ rest
  pub clean : Clean sep gone
  pub count : length gone ≡ k
  pub place : length (closed sep gone) ≡ at

pub begun_none : (sep : ℕ) (s : Bytes) → Begun sep s 0 0
begun_none sep s = record { gone = []; rest = s; whole = refl; clean = tt; count = refl; place = refl }

pub begun_at : {sep : ℕ} {s : Bytes} {k at : ℕ} (n : ℕ) → k ≡ n → Begun sep s k at → Begun sep s n at
begun_at n q b = rw q at b

-- a piece that is there, and past the last
pub span_there : (sep : ℕ) (s : Bytes) (n : ℕ) → n < length (pieces sep s)
    → piece_span sep s n ≡ span (length (closed sep (take n (pieces sep s)))) (length (get_or (pieces sep s) n []))
unfolding piece_span
span_there sep s n h = rw (lt-ltb n (length (pieces sep s)) h)

span_beyond : (sep : ℕ) (s : Bytes) (n : ℕ) → length (pieces sep s) ≤ n → piece_span sep s n ≡ span (length s) 0
unfolding piece_span
span_beyond sep s n h = rw (le-ltb n (length (pieces sep s)) h)

module _ {sep : ℕ} {s : Bytes} {k at : ℕ} (b : Begun sep s k at) where
  left : drop at s ≡ b.rest
  left = ap (drop at) b.whole ∙ drop_at (closed sep b.gone) b.rest at b.place

  pub within : at ≤ length s
  within = omega (arith, simp length-append at (ap length b.whole), b.place)

  all : pieces sep s ≡ b.gone ++ pieces sep b.rest
  all = ap (pieces sep) b.whole ∙ pieces_closed sep b.gone b.rest b.clean

  -- the piece k, where the pieces from it on are p and ps
  here : (p : Bytes) (ps : List Bytes) → pieces sep s ≡ b.gone ++ (p ∷ ps) → span at (length p) ≡ piece_span sep s k
  here p ps w =
      let h : k < length (pieces sep s) = rw w (simp length-append (omega (arith, b.count))) in
      let e : get_or (pieces sep s) k [] ≡ p = rw (w, get_or_at b.gone p ps [] k b.count) in
      let f : length (closed sep (take k (pieces sep s))) ≡ at = rw (w, take_at b.gone (p ∷ ps) k b.count) b.place in
      sym (span_there sep s k h ∙ rw (e, f))

  module _ {j : ℕ} (f : FirstAt s at sep j) where
    rest_is : b.rest ≡ f.gap ++ sep ∷ f.rest
    rest_is = sym left ∙ f.whole

    cut_here : pieces sep s ≡ b.gone ++ (f.gap ∷ pieces sep f.rest)
    cut_here =
        all ∙ ap (λ (l : Bytes). b.gone ++ pieces sep l) rest_is
        ∙ ap (λ (l : List Bytes). b.gone ++ l) (pieces_cut sep f.gap f.rest f.free)

    pub begun_more : Begun sep s (k + 1) (j + 1)
    begun_more = record {
      gone = b.gone ++ (f.gap ∷ []);
      rest = f.rest;
      whole = b.whole ∙ rw (rest_is, closed_snoc sep b.gone f.gap, append_assoc, append_assoc);
      clean = clean_snoc sep b.gone f.gap b.clean f.free;
      count = simp length-append (omega (arith, b.count));
      place = rw (closed_snoc sep b.gone f.gap) (simp length-append (omega (arith, b.place, f.place)));
    }

    pub met_inside : j < length s
    met_inside = omega (arith, simp length-append at (ap length f.whole), length-drop at s, f.place)

    -- the piece up to the next separator
    pub span_cut : span at (j - at) ≡ piece_span sep s k
    span_cut = ap (span at) (omega (arith, f.place)) ∙ here f.gap (pieces sep f.rest) cut_here

  module _ (f : Free sep (drop at s)) where
    last_here : pieces sep s ≡ b.gone ++ (drop at s ∷ [])
    last_here =
        all ∙ ap (λ (l : Bytes). b.gone ++ pieces sep l) (sym left)
        ∙ ap (λ (l : List Bytes). b.gone ++ l) (pieces_free sep (drop at s) f)

    -- the last piece
    pub span_last : span at (length s - at) ≡ piece_span sep s k
    span_last = ap (span at) (sym (length-drop at s)) ∙ here (drop at s) [] last_here

    -- past the last
    pub span_past : (n : ℕ) → k < n → span (length s) 0 ≡ piece_span sep s n
    span_past n l = sym (span_beyond sep s n (rw last_here (simp length-append (omega (arith, b.count)))))

-- the piece k ends at the next separator, or with the bytes
module _ {sep : ℕ} {s : Bytes} {k at : ℕ} (b : Begun sep s k at) where
  pub span_ends : (r : Option ℕ) → Finds s at sep r → span at (unwrap_or r (length s) - at) ≡ piece_span sep s k
  span_ends (Some j) f = span_cut b f
  span_ends None f = span_last b f

-- a piece of the bytes with what stands around it
record Spot (sep : ℕ) (ps : List Bytes) (n : ℕ) : Type 0 where
  tail : Bytes
  whole : joined sep ps ≡ closed sep (take n ps) ++ (get_or ps n [] ++ tail)

spot : (sep : ℕ) (ps : List Bytes) (n : ℕ) → n < length ps → Spot sep ps n
spot sep [] n h = absurd (omega arith)
spot sep (p ∷ []) zero h = record { tail = []; whole = sym (append-nil p) }
spot sep (p ∷ []) (suc n) h = absurd (omega arith)
spot sep (p ∷ (q ∷ ps)) zero h = record { tail = sep ∷ joined sep (q ∷ ps); whole = refl }
spot sep (p ∷ (q ∷ ps)) (suc n) h =
    let r = spot sep (q ∷ ps) n (omega arith) in
    record { tail = r.tail; whole = rw append_assoc (ap (λ (l : Bytes). p ++ sep ∷ l) r.whole) }

-- the span of a piece lies within the bytes, and holds the piece
pub record Lies (s : Bytes) (p : Span) (piece : Bytes) : Type 0 where
  pub inside : p.start + p.len ≤ length s
  pub holds : part_of s p ≡ piece

-- where pieces are joined to the bytes
module _ (sep : ℕ) (ps : List Bytes) (s : Bytes) (whole : joined sep ps ≡ s) (n : ℕ) where
  lies_there : n < length ps → Lies s (span (length (closed sep (take n ps))) (length (get_or ps n []))) (get_or ps n [])
  lies_there h =
      let p = spot sep ps n h in
      let front = closed sep (take n ps) in
      let piece = get_or ps n [] in
      let w : s ≡ front ++ (piece ++ p.tail) = sym whole ∙ p.whole in
      record {
        inside = omega (arith, simp length-append at (ap length w));
        holds = ap (take (length piece)) (ap (drop (length front)) w ∙ drop_at front (piece ++ p.tail) (length front) refl) ∙ take-append_seam piece p.tail;
      }

  -- past the last it is the empty part at the end
  pub lies_among : Lies s (span_among sep ps (length s) n) (get_or ps n [])
  lies_among =
      by_cases (dec_lt n (length ps))
      (λ h. rw (lt-ltb n (length ps) h) (lies_there h))
      (λ h.
      let past : length ps ≤ n = omega arith in
      rw (le-ltb n (length ps) past) (record { inside = omega arith; holds = sym (get_or-eq_default ps [] past) }))

pub lies : (sep : ℕ) (s : Bytes) (n : ℕ) → Lies s (piece_span sep s n) (get_or (pieces sep s) n [])
unfolding piece_span
lies sep s n = lies_among sep (pieces sep s) s (joined_pieces sep s) n

-- a part of a part
pub part_of_part : (s : Bytes) (at : ℕ) (g : Bytes) (from len : ℕ) → take (length g) (drop at s) ≡ g → from + len ≤ length g
    → take len (drop (at + from) s) ≡ take len (drop from g)
part_of_part s at g from len here l =
    let whole : drop at s ≡ g ++ drop (length g) (drop at s) =
    sym (take-append-drop (length g) (drop at s)) ∙ ap (λ (x : Bytes). x ++ drop (length g) (drop at s)) here in
    let room : len ≤ length (drop from g) = rw (length-drop from g) (omega arith) in
    ap (take len)
    (sym (drop-drop from at s) ∙ ap (drop from) whole ∙ drop-append-le from g (drop (length g) (drop at s)) (omega arith))
    ∙ take-append-le len (drop from g) (drop (length g) (drop at s)) room
