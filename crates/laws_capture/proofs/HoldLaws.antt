-- A capture that holds some payloads: their blocks stand first, each at its place, and no other block is finished. So it is told by the calls,
-- and every append keeps it so.
use Rattle.std.specs.Prelude.{Ok, Err}
use Prim.Native.Nat.{ℕ, zero, suc, ◌+◌, ◌-◌, ◌<◌, ◌≤◌, min}
use mathlib.Core.Path.{◌≡◌, refl, sym, ap, ap₂, ◌∙◌}
use mathlib.Core.Bool.{Bool, true, false, cond, not, ◌&&◌}
use mathlib.Core.List.{List, [], ◌∷◌, ◌++◌}
use native.Mathlib.Omega.{arith}
use borrow.Author.Tests.{eq-eqb, ne_eqb, eqb-true, eqb-false, ltb-true, leb-true, leb-false}
use lib.ListN.{length, get_or, drop, length-take, length-drop, length-set, length-append, drop_of_length-le, get_or-append}
use lib.Seq.{drop-cons, get_or_at}
use lib.Dec.{eqb, ltb, leb}
use Rattle.capture.specs.Blocks.{number, payload, unfinished, block_of}
use Rattle.capture.specs.Captures.{start_of, block_at, unfinished_at, follows, bad, first_from, first_bad, first_unfinished, found_from, found}
use Rattle.capture.specs.Searches.{sound}
use Rattle.capture.proofs.JudgeLaws.{sound-numbered, sound-good, unfinished-good, found-open}
use Rattle.capture_append.specs.Stores.{stored_byte, stored_from}
use Rattle.capture_append.specs.Appending.{misfit, taken_of, bytes_at, taken_bytes}
use Rattle.capture_append.specs.declared.AppendError.{AppendError}
use Rattle.laws_capture.specs.Series.{Attempt, kept_with, answer_by}
use Rattle.laws_capture.proofs.BlockTrip.{fits-from, byte-0, byte-1, byte-2, length-block, payload-block, sound-block}
use Rattle.laws_capture.proofs.TornLaws.{torn-all, torn-number, block-stored, block-other}

pub record Holds (m : List ℕ) (ps : List (List ℕ)) : Type 0 where
  pub long : length m ≡ 65536
  pub few : length ps ≤ 128
  pub fit : (p : ℕ) → 1 ≤ p → p ≤ length ps → misfit (get_or ps (p - 1) []) ≡ false
  pub at : (p : ℕ) → 1 ≤ p → p ≤ length ps → block_at m p ≡ block_of p (get_or ps (p - 1) [])
  pub rest : (p : ℕ) → length ps < p → p ≤ 128 → unfinished_at m p ≡ true

-- a search for what holds nowhere
first-never : (test : ℕ → Bool) (k p : ℕ) → ((q : ℕ) → p ≤ q → q < p + k → test q ≡ false) → first_from test k p ≡ 0
first-never test zero p never = refl
first-never test (suc k) p never =
    rw (never p (omega arith) (omega arith)) (first-never test k (p + 1) (λ q f t. never q (omega (arith, f)) (omega (arith, t))))

-- ---- what is told of it
module _ (m : List ℕ) (ps : List (List ℕ)) (h : Holds m ps) where
  sound-at : (p : ℕ) → 1 ≤ p → p ≤ length ps → sound (block_at m p) p ≡ true
  sound-at p f t =
      let fits = fits-from (get_or ps (p - 1) []) (h.fit p f t) in
      ap (λ (b : List ℕ). sound b p) (h.at p f t) ∙ sound-block p (get_or ps (p - 1) []) (omega (arith, h.few)) fits.1 fits.0

  pub finished-at : (p : ℕ) → 1 ≤ p → p ≤ length ps → unfinished_at m p ≡ false
  finished-at p f t = sound-numbered m p f (sound-at p f t)

  follows-none : (p : ℕ) → 1 ≤ p → p ≤ length ps → follows m p ≡ false
  follows-none p f t = go (leb 2 p) refl
    where
      go : (s : Bool) → leb 2 p ≡ s → (s && unfinished_at m (p - 1)) ≡ false
      go true e = finished-at (p - 1) (omega (arith, leb-true 2 p e)) (omega arith)
      go false e = refl

  none-bad : (p : ℕ) → 1 ≤ p → p ≤ 128 → bad m p ≡ false
  none-bad p f t = go (leb p (length ps)) refl
    where
      go : (s : Bool) → leb p (length ps) ≡ s → bad m p ≡ false
      go true e = let u = leb-true p (length ps) e in sound-good m p (follows-none p f u) (sound-at p f u)
      go false e = unfinished-good m p (h.rest p (leb-false p (length ps) e) t)

  pub holds-good : first_bad m ≡ 0
  unfolding first_bad
  holds-good = first-never (bad m) 128 1 (λ q f t. none-bad q f (omega (arith, t)))

  found-from : (k p : ℕ) → 1 ≤ p → p + k ≡ 129 → found_from m k p ≡ drop (p - 1) ps
  found-from zero p f e = sym (drop_of_length-le ps {i = p - 1} (omega (arith, e, h.few)))
  found-from (suc k) p f e = go (leb p (length ps)) refl (found-from k (p + 1) (omega arith) (omega (arith, e)))
    where
      go : (s : Bool) → leb p (length ps) ≡ s → found_from m k (p + 1) ≡ drop (p + 1 - 1) ps → found_from m (suc k) p ≡ drop (p - 1) ps
      go true u ih =
          let t = leb-true p (length ps) u in
          let x = get_or ps (p - 1) [] in
          let here : payload (block_at m p) ≡ x =
          ap payload (h.at p f t) ∙ payload-block p x (omega (arith, h.few)) (fits-from x (h.fit p f t)).1 in
          let next : p + 1 - 1 ≡ suc (p - 1) = omega arith in
          rw (finished-at p f t) (ap₂ (λ (y : List ℕ) (ys : List (List ℕ)). y ∷ ys) here (ih ∙ ap (λ (j : ℕ). drop j ps) next)
          ∙ sym (drop-cons ps (p - 1) [] (omega (arith, f, t))))
      go false u ih =
          let t = leb-false p (length ps) u in
          rw (h.rest p t (omega (arith, e))) (ih ∙ drop_of_length-le ps {i = p + 1 - 1} (omega (arith, t)) ∙ sym (drop_of_length-le ps {i = p - 1} (omega (arith, t))))

  pub holds-found : found m ≡ ps
  unfolding found
  holds-found = found-from 128 1 (omega arith) refl

  pub holds-open : first_unfinished m ≡ cond (ltb (length ps) 128) (length ps + 1) 0
  holds-open = found-open m holds-good ∙ ap (λ (l : List (List ℕ)). cond (ltb (length l) 128) (length l + 1) 0) holds-found

  pub holds-taken : (x : List ℕ) → taken_of m x ≡ answer_by ps x
  unfolding taken_of
  holds-taken x =
      rw (eq-eqb (length m) 65536 h.long, holds-good, holds-open) (go (misfit x) (ltb (length ps) 128))
    where
      go : (s t : Bool)
          → cond s (Err AppendError.PayloadLength) (cond (eqb (cond t (length ps + 1) 0) 0) (Err AppendError.Full) (Ok (cond t (length ps + 1) 0)))
          ≡ cond s (Err AppendError.PayloadLength) (cond t (Ok (length ps + 1)) (Err AppendError.Full))
      go true t = refl
      go false true = rw (ne_eqb (length ps + 1) 0 (λ z. omega (arith, z))) refl
      go false false = refl

-- ---- what stores leave of it
stored-long : (m : List ℕ) (start : ℕ) (b : List ℕ) (k : ℕ) → length (stored_from m start b k) ≡ length m
stored-long m start b zero = refl
stored-long m start b (suc k) = length-set (stored_from m start b k) (start + stored_byte k) (get_or b (stored_byte k) 0) ∙ stored-long m start b k

pub block-long : (m : List ℕ) (p : ℕ) → length m ≡ 65536 → 1 ≤ p → p ≤ 128 → length (block_at m p) ≡ 512
unfolding block_at
block-long m p l f t = rw (length-take, length-drop) (omega (arith, l))

module _ (m : List ℕ) (ps : List (List ℕ)) (h : Holds m ps) (x : List ℕ) (fits : misfit x ≡ false) (room : length ps < 128) where
  abbrev q : ℕ
  q = length ps + 1

  abbrev b : List ℕ
  b = block_of q x

  abbrev stored : ℕ → List ℕ
  stored k = stored_from m (start_of q) b k

  unnumbered : number (block_at m q) ≡ 0
  unfolding unfinished
  unnumbered = eqb-true (number (block_at m q)) 0 (h.rest q (omega arith) (omega arith))

  -- the torn block has no number
  torn-open : (k : ℕ) → k < 512 → unfinished_at (stored k) q ≡ true
  unfolding unfinished
  torn-open k t =
      let fit = (fits-from x fits).1 in
      eq-eqb (number (block_at (stored k) q)) 0
      (ap number (block-stored m b q k (omega (arith, t)))
      ∙ torn-number (block_at m q) b k (block-long m q h.long (omega arith) (omega arith)) t unnumbered
      (byte-0 q x (omega arith) fit) (byte-1 q x (omega arith) fit) (byte-2 q x (omega arith) fit))

  -- the blocks before it and behind it
  before-it : (p k : ℕ) → 1 ≤ p → p ≤ length ps → block_at (stored k) p ≡ block_of p (get_or ps (p - 1) [])
  before-it p k f u = block-other m b q p k f (omega arith) (λ e. omega (arith, e, u)) ∙ h.at p f u

  behind-it : (p k : ℕ) → q < p → p ≤ 128 → unfinished_at (stored k) p ≡ true
  behind-it p k f u = ap unfinished (block-other m b q p k (omega (arith, f)) (omega arith) (λ e. omega (arith, e, f))) ∙ h.rest p (omega (arith, f)) u

  -- a cut before the last store
  pub cut_holds : (k : ℕ) → k < 512 → Holds (stored k) ps
  cut_holds k t = record {
    long = stored-long m (start_of q) b k ∙ h.long;
    few = h.few;
    fit = h.fit;
    at = λ p f u. before-it p k f u;
    rest = λ p f u. go p f u (eqb p q) refl;
  }
    where
      go : (p : ℕ) → length ps < p → p ≤ 128 → (s : Bool) → eqb p q ≡ s → unfinished_at (stored k) p ≡ true
      go p f u true e = ap (unfinished_at (stored k)) (eqb-true p q e) ∙ torn-open k t
      go p f u false e = behind-it p k (omega (arith, f, eqb-false p q e)) u

  -- all stores
  abbrev more : List (List ℕ)
  more = ps ++ (x ∷ [])

  more-long : length more ≡ q
  more-long = length-append ps (x ∷ [])

  more-before : (p : ℕ) → 1 ≤ p → p ≤ length ps → get_or more (p - 1) [] ≡ get_or ps (p - 1) []
  more-before p f u = get_or-append ps (x ∷ []) [] (p - 1) (omega (arith, f, u))

  more-last : get_or more (q - 1) [] ≡ x
  more-last = get_or_at ps x [] [] (q - 1) (omega arith)

  pub whole-block : block_at (stored 512) q ≡ b
  whole-block =
      block-stored m b q 512 (omega arith)
      ∙ torn-all (block_at m q) b (block-long m q h.long (omega arith) (omega arith)) (length-block q x (omega arith) (fits-from x fits).1)

  pub all-holds : Holds (stored 512) more
  all-holds = record {
    long = stored-long m (start_of q) b 512 ∙ h.long;
    few = omega (arith, more-long);
    fit = λ p f u. fit_at p f u (eqb p q) refl;
    at = λ p f u. block-at p f u (eqb p q) refl;
    rest = λ p f u. behind-it p 512 (omega (arith, f, more-long)) u;
  }
    where
      fit_at : (p : ℕ) → 1 ≤ p → p ≤ length more → (s : Bool) → eqb p q ≡ s → misfit (get_or more (p - 1) []) ≡ false
      fit_at p f u true e = ap (λ (j : ℕ). misfit (get_or more (j - 1) [])) (eqb-true p q e) ∙ ap misfit more-last ∙ fits
      fit_at p f u false e =
          let t : p ≤ length ps = omega (arith, u, more-long, eqb-false p q e) in
          ap misfit (more-before p f t) ∙ h.fit p f t

      block-at : (p : ℕ) → 1 ≤ p → p ≤ length more → (s : Bool) → eqb p q ≡ s → block_at (stored 512) p ≡ block_of p (get_or more (p - 1) [])
      block-at p f u true e =
          ap (block_at (stored 512)) (eqb-true p q e) ∙ whole-block ∙ ap (block_of q) (sym more-last)
          ∙ ap (λ (j : ℕ). block_of j (get_or more (j - 1) [])) (sym (eqb-true p q e))
      block-at p f u false e =
          let t : p ≤ length ps = omega (arith, u, more-long, eqb-false p q e) in
          before-it p 512 f t ∙ ap (block_of p) (sym (more-before p f t))

-- ---- every append, cut anywhere or finished, leaves a capture that holds what is kept
pub append-holds : (m : List ℕ) (ps : List (List ℕ)) (t : Attempt) → Holds m ps → Holds (taken_bytes m t.payload t.done) (kept_with ps t)
unfolding taken_bytes
append-holds m ps t h =
    rw (holds-taken m ps h t.payload) (go (misfit t.payload) (ltb (length ps) 128) (leb 512 t.done) refl refl refl)
  where
    go : (s u v : Bool) → misfit t.payload ≡ s → ltb (length ps) 128 ≡ u → leb 512 t.done ≡ v
        → Holds (bytes_at (cond s (Err AppendError.PayloadLength) (cond u (Ok (length ps + 1)) (Err AppendError.Full))) m t.payload t.done)
        (cond (not s && (u && v)) (ps ++ (t.payload ∷ [])) ps)
    go true u v a b c = h
    go false false v a b c = h
    go false true true a b c =
        let e : min t.done 512 ≡ 512 = omega (arith, leb-true 512 t.done c) in
        rw e (all-holds m ps h t.payload a (ltb-true (length ps) 128 b))
    go false true false a b c =
        let less = leb-false 512 t.done c in
        let e : min t.done 512 ≡ t.done = omega (arith, less) in
        rw e (cut_holds m ps h t.payload a (ltb-true (length ps) 128 b) t.done less)
