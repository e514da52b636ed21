-- 33 exactly: it is answered with the first bad block's place; captures that show the same are answered the same; and a capture has no bad
-- block exactly if a series leaves one that shows the same.
use Rattle.std.specs.Prelude.{Result, Ok, Err}
use Prim.Native.Nat.{ℕ, zero, suc, ◌+◌, ◌-◌, ◌<◌, ◌≤◌}
use mathlib.Core.Path.{◌≡◌, refl, sym, ap, ap₂, subst, ◌∙◌}
use mathlib.Core.Bool.{Bool, true, false, cond, not, ◌&&◌, ◌||◌}
use mathlib.Core.List.{List, [], ◌∷◌}
use mathlib.Core.Logic.{◌⊎◌, inl, inr}
use native.Mathlib.Omega.{arith}
use borrow.Author.Tests.{eq-eqb, ne_eqb, lt-ltb, eqb-true, eqb-false, leb-true, leb-false}
use lib.ListN.{length, get_or, take}
use lib.Seq.{length-take-le, take-suc, take-length}
use lib.Dec.{eqb, leb, ltb}
use Rattle.capture.specs.Blocks.{number, used, payload, unfinished, intact}
use Rattle.capture.specs.Captures.{whole, start_of, block_at, unfinished_at, numbered, follows, bad, first_from, first_bad, first_unfinished, found_from, found}
use Rattle.capture.specs.Calls.{held_of, is_finished, part_from, part_of}
use Rattle.capture.specs.declared.Unsound.{Unsound}
use Rattle.capture.specs.declared.Part.{Part}
use Rattle.capture.proofs.CallLaws.{refused-says}
use Rattle.capture_append.specs.Appending.{misfit, taken_of}
use Rattle.capture_append.specs.declared.AppendError.{AppendError}
use Rattle.laws_capture.specs.Series.{Attempt, kept, kept_with, after}
use Rattle.laws_capture.specs.Cuts.{Bytes}
use Rattle.laws_capture.specs.Exact.{FirstBadAt, shown, Alike, Left, TornAt, SameTold}
use Rattle.laws_capture.proofs.HoldLaws.{Holds, holds-good}
use Rattle.laws_capture.proofs.GoodLaws.{good-holds}
use Rattle.laws_capture.proofs.SeriesTells.{series-holds}

-- the place in a refusal with 33
abbrev unsound_place : Unsound → ℕ
unsound_place Unsound.WrongSize = 0
unsound_place (Unsound.BadBlock p) = p

abbrev taken_place : Result ℕ AppendError → ℕ
taken_place (Ok p) = 0
taken_place (Err (AppendError.Unsound u)) = unsound_place u
taken_place (Err AppendError.PayloadLength) = 0
taken_place (Err AppendError.Full) = 0

abbrev part_place : Result Part Unsound → ℕ
part_place (Ok part) = 0
part_place (Err u) = unsound_place u

-- ---- the first place at which a test holds
module _ (test : ℕ → Bool) where
  -- a search that finds a place: there the test holds, and before it nowhere
  pub found-holds : (k p : ℕ) → 1 ≤ p → (first_from test k p ≡ 0 → ⊥)
      → (p ≤ first_from test k p) × (first_from test k p < p + k) × (test (first_from test k p) ≡ true) × ((q : ℕ) → p ≤ q → q < first_from test k p → test q ≡ false)
  found-holds zero p f ne = absurd (ne refl)
  found-holds (suc k) p f ne = go (test p) refl ne (found-holds k (p + 1) (omega arith))
    where
      go : (s : Bool) → test p ≡ s → (cond s p (first_from test k (p + 1)) ≡ 0 → ⊥)
          → ((first_from test k (p + 1) ≡ 0 → ⊥) → (p + 1 ≤ first_from test k (p + 1)) × (first_from test k (p + 1) < p + 1 + k)
          × (test (first_from test k (p + 1)) ≡ true) × ((q : ℕ) → p + 1 ≤ q → q < first_from test k (p + 1) → test q ≡ false))
          → (p ≤ first_from test (suc k) p) × (first_from test (suc k) p < p + suc k)
          × (test (first_from test (suc k) p) ≡ true) × ((q : ℕ) → p ≤ q → q < first_from test (suc k) p → test q ≡ false)
      go true e ne ih = rw e (omega arith, omega arith, e, λ q a b. absurd (omega (arith, a, b)))
      go false e ne ih =
          let i = ih ne in
          rw e (omega (arith, i.0), omega (arith, i.1), i.2, λ q a b. before q a b (eqb p q) refl i.3)
        where
          before : (q : ℕ) → p ≤ q → q < first_from test k (p + 1) → (u : Bool) → eqb p q ≡ u
              → ((j : ℕ) → p + 1 ≤ j → j < first_from test k (p + 1) → test j ≡ false) → test q ≡ false
          before q a b true same i = ap test (sym (eqb-true p q same)) ∙ e
          before q a b false other i = i q (omega (arith, a, eqb-false p q other)) b

  -- and the place at which it holds first is found
  first-is : (k p r : ℕ) → p ≤ r → r < p + k → test r ≡ true → ((q : ℕ) → p ≤ q → q < r → test q ≡ false) → first_from test k p ≡ r
  first-is zero p r f t is none = absurd (omega (arith, f, t))
  first-is (suc k) p r f t is none = go (eqb p r) refl (first-is k (p + 1) r)
    where
      go : (u : Bool) → eqb p r ≡ u
          → (p + 1 ≤ r → r < p + 1 + k → test r ≡ true → ((q : ℕ) → p + 1 ≤ q → q < r → test q ≡ false) → first_from test k (p + 1) ≡ r)
          → first_from test (suc k) p ≡ r
      go true same ih = let e = eqb-true p r same in rw (ap test e ∙ is) e
      go false other ih =
          let less : p < r = omega (arith, f, eqb-false p r other) in
          rw (none p (omega arith) less) (ih (omega (arith, less)) (omega (arith, t)) is (λ q a b. none q (omega (arith, a)) b))

-- a capture's first bad block, by the definition and as it is told
first_said : (m : List ℕ) (p : ℕ) → p ≡ first_bad m → eqb (first_bad m) 0 ≡ false → FirstBadAt m p
unfolding first_bad
first_said m p e some =
    let at = found-holds (bad m) 128 1 (omega arith) (eqb-false (first_bad m) 0 some) in
    record {
      from = omega (arith, at.0, e);
      to = omega (arith, at.1, e);
      is-bad = ap (bad m) e ∙ at.2;
      none_before = λ q f t. at.3 q f (omega (arith, t, e));
    }

first-is-bad : (m : List ℕ) (p : ℕ) → FirstBadAt m p → first_bad m ≡ p
unfolding first_bad
first-is-bad m p f = first-is (bad m) 128 1 p f.from (omega (arith, f.to)) f.is-bad f.none_before

-- 33 with a place is answered only where that place is the first bad one: of each call that answers it
pub bad-first : (m : List ℕ) (p : ℕ) → Err (Unsound.BadBlock p) ≡ held_of m → FirstBadAt m p
bad-first m p is = go (refused-says m (Unsound.BadBlock p) is)
  where
    go : ((whole m ≡ false) × (Unsound.BadBlock p ≡ Unsound.WrongSize)) ⊎ ((eqb (first_bad m) 0 ≡ false) × (Unsound.BadBlock p ≡ Unsound.BadBlock (first_bad m)))
        → FirstBadAt m p
    go (inl small) = let z = small.1 in let y : ◌≡◌ {A = ℕ} 0 1 = cc in absurd (omega (arith, y))
    go (inr bad) = first_said m p (ap unsound_place bad.1) bad.0

pub append-bad-first : (m x : List ℕ) (p : ℕ) → Err (AppendError.Unsound (Unsound.BadBlock p)) ≡ taken_of m x → FirstBadAt m p
unfolding taken_of
append-bad-first m x p is = go (whole m) (misfit x) (eqb (first_bad m) 0) (eqb (first_unfinished m) 0) refl is
  where
    go : (w s g u : Bool) → eqb (first_bad m) 0 ≡ g
        → Err (AppendError.Unsound (Unsound.BadBlock p)) ≡ cond (not w) (Err (AppendError.Unsound Unsound.WrongSize)) (cond s (Err AppendError.PayloadLength) (cond (not g) (Err (AppendError.Unsound (Unsound.BadBlock (first_bad m)))) (cond u (Err AppendError.Full) (Ok (first_unfinished m)))))
        → FirstBadAt m p
    go false s g u b e = let y : ◌≡◌ {A = ℕ} 0 1 = cc in absurd (omega (arith, y))
    go true true g u b e = let y : ◌≡◌ {A = ℕ} 0 1 = cc in absurd (omega (arith, y))
    go true false true true b e = let y : ◌≡◌ {A = ℕ} 0 1 = cc in absurd (omega (arith, y))
    go true false true false b e = let y : ◌≡◌ {A = ℕ} 0 1 = cc in absurd (omega (arith, y))
    go true false false u b e = first_said m p (ap taken_place e) b

pub payload-bad-first : (m : List ℕ) (p q : ℕ) → Err (Unsound.BadBlock p) ≡ part_of m q → FirstBadAt m p
unfolding part_of
payload-bad-first m p q is = go (whole m) (eqb (first_bad m) 0) (is_finished m q) refl is
  where
    go : (w g f : Bool) → eqb (first_bad m) 0 ≡ g
        → Err (Unsound.BadBlock p) ≡ cond (not w) (Err Unsound.WrongSize) (cond (not g) (Err (Unsound.BadBlock (first_bad m))) (Ok (cond f (part_from (start_of q + 6) (used (block_at m q))) (part_from 0 0))))
        → FirstBadAt m p
    go false g f b e = let y : ◌≡◌ {A = ℕ} 0 1 = cc in absurd (omega (arith, y))
    go true true true b e = let y : ◌≡◌ {A = ℕ} 0 1 = cc in absurd (omega (arith, y))
    go true true false b e = let y : ◌≡◌ {A = ℕ} 0 1 = cc in absurd (omega (arith, y))
    go true false f b e = first_said m p (ap part_place e) b

-- and there always: by an append of a payload that fits, and by reading any place
pub first-bad : (m : List ℕ) (p : ℕ) → length m ≡ 65536 → FirstBadAt m p → held_of m ≡ Err (Unsound.BadBlock p)
unfolding held_of
first-bad m p long f = rw (eq-eqb (length m) 65536 long, first-is-bad m p f, ne_eqb p 0 (λ z. omega (arith, z, f.from))) refl

pub first-bad-append : (m x : List ℕ) (p : ℕ) → length m ≡ 65536 → misfit x ≡ false → FirstBadAt m p → taken_of m x ≡ Err (AppendError.Unsound (Unsound.BadBlock p))
unfolding taken_of
first-bad-append m x p long fits f =
    rw (eq-eqb (length m) 65536 long, fits, first-is-bad m p f, ne_eqb p 0 (λ z. omega (arith, z, f.from))) refl

pub first-bad-payload : (m : List ℕ) (p q : ℕ) → length m ≡ 65536 → FirstBadAt m p → part_of m q ≡ Err (Unsound.BadBlock p)
unfolding part_of
first-bad-payload m p q long f = rw (eq-eqb (length m) 65536 long, first-is-bad m p f, ne_eqb p 0 (λ z. omega (arith, z, f.from))) refl

-- ---- captures that show the same
unfinished-shown : (b : List ℕ) → unfinished (shown b) ≡ unfinished b
unfolding unfinished number
unfinished-shown b = go (unfinished b) refl
  where
    go : (s : Bool) → unfinished b ≡ s → unfinished (cond s [] b) ≡ unfinished b
    go true e = sym e
    go false e = refl

shown-finished : (b : List ℕ) → unfinished b ≡ false → shown b ≡ b
shown-finished b e = rw e refl

module _ (m n : List ℕ) (alike : Alike m n) where
  open-same : (p : ℕ) → 1 ≤ p → p ≤ 128 → unfinished_at m p ≡ unfinished_at n p
  open-same p f t = sym (unfinished-shown (block_at m p)) ∙ ap unfinished (alike p f t) ∙ unfinished-shown (block_at n p)

  block_same : (p : ℕ) → 1 ≤ p → p ≤ 128 → unfinished_at m p ≡ false → block_at m p ≡ block_at n p
  block_same p f t e = sym (shown-finished (block_at m p) e) ∙ alike p f t ∙ shown-finished (block_at n p) (sym (open-same p f t) ∙ e)

  follows_same : (p : ℕ) → 1 ≤ p → p ≤ 128 → follows m p ≡ follows n p
  follows_same p f t = go (leb 2 p) refl
    where
      go : (s : Bool) → leb 2 p ≡ s → (s && unfinished_at m (p - 1)) ≡ (s && unfinished_at n (p - 1))
      go true e = open-same (p - 1) (omega (arith, leb-true 2 p e)) (omega (arith, t))
      go false e = refl

  bad-same-at : (p : ℕ) → 1 ≤ p → p ≤ 128 → bad m p ≡ bad n p
  unfolding bad
  bad-same-at p f t = go (unfinished_at m p) refl
    where
      go : (s : Bool) → unfinished_at m p ≡ s
          → (numbered m p && (not (eqb (number (block_at m p)) p) || (follows m p || not (intact (block_at m p)))))
          ≡ (numbered n p && (not (eqb (number (block_at n p)) p) || (follows n p || not (intact (block_at n p)))))
      go true e = rw (e, sym (open-same p f t) ∙ e) refl
      go false e =
          ap₂ (λ (b : List ℕ) (g : Bool). not (unfinished b) && (not (eqb (number b) p) || (g || not (intact b)))) (block_same p f t e) (follows_same p f t)

  first-same : (test other : ℕ → Bool) (k p : ℕ) → ((q : ℕ) → p ≤ q → q < p + k → test q ≡ other q) → first_from test k p ≡ first_from other k p
  first-same test other zero p same = refl
  first-same test other (suc k) p same =
      ap₂ (λ (s : Bool) (r : ℕ). cond s p r) (same p (omega arith) (omega arith)) (first-same test other k (p + 1) (λ q f t. same q (omega (arith, f)) (omega (arith, t))))

  found-from-same : (k p : ℕ) → 1 ≤ p → p + k ≤ 129 → found_from m k p ≡ found_from n k p
  found-from-same zero p f t = refl
  found-from-same (suc k) p f t = go (unfinished_at m p) refl (found-from-same k (p + 1) (omega arith) (omega (arith, t)))
    where
      low : p ≤ 128
      low = omega (arith, t)

      go : (s : Bool) → unfinished_at m p ≡ s → found_from m k (p + 1) ≡ found_from n k (p + 1) → found_from m (suc k) p ≡ found_from n (suc k) p
      go true e ih = rw (e, sym (open-same p f low) ∙ e) ih
      go false e ih =
          rw (e, sym (open-same p f low) ∙ e)
          (ap₂ (λ (x : List ℕ) (xs : List (List ℕ)). x ∷ xs) (ap payload (block_same p f low e)) ih)

  first-bad-same : first_bad m ≡ first_bad n
  unfolding first_bad
  first-bad-same = first-same (bad m) (bad n) 128 1 (λ q f t. bad-same-at q f (omega (arith, t)))

  first-open-same : first_unfinished m ≡ first_unfinished n
  unfolding first_unfinished
  first-open-same = first-same (unfinished_at m) (unfinished_at n) 128 1 (λ q f t. open-same q f (omega (arith, t)))

  found-same : found m ≡ found n
  unfolding found
  found-same = found-from-same 128 1 (omega arith) (omega arith)

  -- a part is the same where it is there in one of them
  finished-part-same : (p : ℕ) → cond (is_finished m p) (part_from (start_of p + 6) (used (block_at m p))) (part_from 0 0)
      ≡ cond (is_finished n p) (part_from (start_of p + 6) (used (block_at n p))) (part_from 0 0)
  unfolding is_finished
  finished-part-same p = go (leb 1 p) (leb p 128) refl refl
    where
      go : (s u : Bool) → leb 1 p ≡ s → leb p 128 ≡ u
          → cond (s && (u && numbered m p)) (part_from (start_of p + 6) (used (block_at m p))) (part_from 0 0)
          ≡ cond (s && (u && numbered n p)) (part_from (start_of p + 6) (used (block_at n p))) (part_from 0 0)
      go true true a b = there (unfinished_at m p) refl
        where
          f : 1 ≤ p
          f = leb-true 1 p a

          t : p ≤ 128
          t = leb-true p 128 b

          there : (v : Bool) → unfinished_at m p ≡ v
              → cond (numbered m p) (part_from (start_of p + 6) (used (block_at m p))) (part_from 0 0)
              ≡ cond (numbered n p) (part_from (start_of p + 6) (used (block_at n p))) (part_from 0 0)
          there true e = rw (e, sym (open-same p f t) ∙ e) refl
          there false e = rw (e, sym (open-same p f t) ∙ e) (ap (λ (b : List ℕ). part_from (start_of p + 6) (used b)) (block_same p f t e))
      go true false a b = refl
      go false u a b = refl

  pub alike-told : length m ≡ 65536 → length n ≡ 65536 → SameTold m n
  unfolding held_of taken_of part_of
  alike-told lm ln = record {
    bad-same = first-bad-same;
    found-same = found-same;
    held_same = rw (eq-eqb (length m) 65536 lm, eq-eqb (length n) 65536 ln, first-bad-same, found-same) refl;
    taken-same = λ x. rw (eq-eqb (length m) 65536 lm, eq-eqb (length n) 65536 ln, first-bad-same, first-open-same) refl;
    part_same = λ p. rw (eq-eqb (length m) 65536 lm, eq-eqb (length n) 65536 ln, first-bad-same) (parts p (eqb (first_bad n) 0));
  }
    where
      parts : (p : ℕ) (s : Bool)
          → cond (not s) (Err (Unsound.BadBlock (first_bad n))) (Ok (cond (is_finished m p) (part_from (start_of p + 6) (used (block_at m p))) (part_from 0 0)))
          ≡ cond (not s) (Err (Unsound.BadBlock (first_bad n))) (Ok (cond (is_finished n p) (part_from (start_of p + 6) (used (block_at n p))) (part_from 0 0)))
      parts p true = ap Ok (finished-part-same p)
      parts p false = refl

-- a torn block changes nothing, however it was torn
pub torn-told : (m n : List ℕ) (q : ℕ) → length m ≡ 65536 → TornAt m n q → SameTold m n
torn-told m n q long t = alike-told m n alike long (t.long ∙ long)
  where
    alike : Alike m n
    alike p f u = go (eqb p q) refl
      where
        go : (s : Bool) → eqb p q ≡ s → shown (block_at m p) ≡ shown (block_at n p)
        go true e =
            let same = eqb-true p q e in
            rw (ap (unfinished_at m) same ∙ t.was-open, ap (unfinished_at n) same ∙ t.is_open) refl
        go false e = ap shown (t.others p f (eqb-false p q e))

-- captures that hold the same show the same
holds-alike : (m n : List ℕ) (ps : List (List ℕ)) → Holds m ps → Holds n ps → Alike m n
holds-alike m n ps a b p f t = go (leb p (length ps)) refl
  where
    go : (s : Bool) → leb p (length ps) ≡ s → shown (block_at m p) ≡ shown (block_at n p)
    go true e = let u = leb-true p (length ps) e in ap shown (a.at p f u ∙ sym (b.at p f u))
    go false e = let u = leb-false p (length ps) e in rw (a.rest p u t, b.rest p u t) refl

-- ---- a series that leaves what is found
series_of : List (List ℕ) → ℕ → List Attempt
series_of ps zero = []
series_of ps (suc k) = record { payload = get_or ps k []; done = 512 } ∷ series_of ps k

series-kept : (ps : List (List ℕ)) → ((p : ℕ) → 1 ≤ p → p ≤ length ps → misfit (get_or ps (p - 1) []) ≡ false) → (k : ℕ) → k ≤ length ps → k ≤ 128
    → kept (series_of ps k) ≡ take k ps
unfolding series_of
series-kept ps fit zero f t = refl
series-kept ps fit (suc k) f t =
    let ih = series-kept ps fit k (omega (arith, f)) (omega (arith, t)) in
    let one : suc k - 1 ≡ k = omega arith in
    let x : misfit (get_or ps k []) ≡ false = ap (λ (j : ℕ). misfit (get_or ps j [])) (sym one) ∙ fit (suc k) (omega arith) f in
    let room : ltb (length (take k ps)) 128 ≡ true = lt-ltb (length (take k ps)) 128 (omega (arith, length-take-le k ps (omega (arith, f)), t)) in
    ap (λ (l : List (List ℕ)). kept_with l (record { payload = get_or ps k []; done = 512 })) ih
    ∙ rw (x, room) (sym (take-suc ps k [] (omega (arith, f))))

pub good_left : (m : List ℕ) → length m ≡ 65536 → Bytes m → first_bad m ≡ 0 → Left m
good_left m long bytes good =
    let h = good-holds m long bytes good in
    let ps = found m in
    let ts = series_of ps (length ps) in
    let is : kept ts ≡ ps = series-kept ps h.fit (length ps) (omega arith) h.few ∙ take-length ps in
    record { series = ts; alike = holds-alike (after ts) m ps (subst (Holds (after ts)) is (series-holds ts)) h }

pub left-good : (m : List ℕ) → Left m → first_bad m ≡ 0
left-good m l =
    sym (first-bad-same (after l.series) m l.alike) ∙ holds-good (after l.series) (kept l.series) (series-holds l.series)

-- a capture that no series leaves, but for what stands in unfinished blocks, has a bad one
left-by-none : (m : List ℕ) → length m ≡ 65536 → Bytes m → (Left m → ⊥) → FirstBadAt m (first_bad m)
left-by-none m long bytes none = go (eqb (first_bad m) 0) refl
  where
    go : (s : Bool) → eqb (first_bad m) 0 ≡ s → FirstBadAt m (first_bad m)
    go true e = absurd (none (good_left m long bytes (eqb-true (first_bad m) 0 e)))
    go false e = first_said m (first_bad m) refl e

-- and is answered 33 by each call
pub not_left : (m : List ℕ) → length m ≡ 65536 → Bytes m → (Left m → ⊥) → held_of m ≡ Err (Unsound.BadBlock (first_bad m))
not_left m long bytes none = first-bad m (first_bad m) long (left-by-none m long bytes none)

pub not-left-append : (m x : List ℕ) → length m ≡ 65536 → Bytes m → misfit x ≡ false → (Left m → ⊥) → taken_of m x ≡ Err (AppendError.Unsound (Unsound.BadBlock (first_bad m)))
not-left-append m x long bytes fits none = first-bad-append m x (first_bad m) long fits (left-by-none m long bytes none)

pub not-left-payload : (m : List ℕ) (p : ℕ) → length m ≡ 65536 → Bytes m → (Left m → ⊥) → part_of m p ≡ Err (Unsound.BadBlock (first_bad m))
not-left-payload m p long bytes none = first-bad-payload m (first_bad m) p long (left-by-none m long bytes none)
