-- What the two searches say of a capture: a numbered block behind the sound ones is the first bad one, and where there is none the sound
-- blocks are the finished ones.
use Prim.Native.Nat.{ℕ, zero, suc, ◌+◌, ◌-◌, ◌<◌, ◌≤◌}
use mathlib.Core.Path.{◌≡◌, refl, sym, ap, ◌∙◌}
use mathlib.Core.Bool.{Bool, true, false, not, cond, ◌&&◌, ◌||◌}
use mathlib.Core.List.{List, []}
use native.Mathlib.Omega.{arith}
use borrow.Author.Tests.{ne_eqb, le-leb, lt-ltb, le-ltb, eqb-true, eqb-false, ltb-true, ltb-false, leb-true, leb-false, not-false}
use lib.ListN.{length}
use lib.Dec.{T, eqb, leb, ltb}
use mathlib.Core.Path.{subst}
use Rattle.capture.specs.Blocks.{number, unfinished, intact}
use Rattle.capture.specs.Captures.{block_at, unfinished_at, numbered, follows, bad, first_from, first_bad, first_unfinished, found_from, found}
use Rattle.capture.specs.Searches.{sound, sound_from, sound_first, numbered_behind}

no_false : false ≡ true → ⊥
no_false e = subst T (sym e) tt

ltb-suc : (a b : ℕ) → ltb (suc a) (suc b) ≡ ltb a b
ltb-suc a b = go (ltb a b) refl
  where
    go : (t : Bool) → ltb a b ≡ t → ltb (suc a) (suc b) ≡ t
    go true e = lt-ltb (suc a) (suc b) (omega (arith, ltb-true a b e))
    go false e = le-ltb (suc a) (suc b) (omega (arith, ltb-false a b e))

ltb-leb : (a b : ℕ) → ltb a (1 + b) ≡ leb a b
ltb-leb a b = go (leb a b) refl
  where
    go : (t : Bool) → leb a b ≡ t → ltb a (1 + b) ≡ t
    go true e = lt-ltb a (1 + b) (omega (arith, leb-true a b e))
    go false e = le-ltb a (1 + b) (omega (arith, leb-false a b e))

or_yes : (a : Bool) → (a || true) ≡ true
or_yes true = refl
or_yes false = refl

module _ (m : List ℕ) where
  -- one place: what it is for its block to be unfinished, sound, bad
  module _ (p : ℕ) where
    pub sound-numbered : 1 ≤ p → sound (block_at m p) p ≡ true → unfinished (block_at m p) ≡ false
    unfolding sound unfinished
    sound-numbered h s = go (eqb (number (block_at m p)) p) refl s
      where
        go : (t : Bool) → eqb (number (block_at m p)) p ≡ t → (t && intact (block_at m p)) ≡ true → eqb (number (block_at m p)) 0 ≡ false
        go true e i = ne_eqb (number (block_at m p)) 0 (λ z. omega (arith, z, eqb-true (number (block_at m p)) p e))
        go false e i = absurd (no_false i)

    pub unfinished-good : unfinished (block_at m p) ≡ true → bad m p ≡ false
    unfolding bad
    unfinished-good u = rw u refl

    pub sound-good : follows m p ≡ false → sound (block_at m p) p ≡ true → bad m p ≡ false
    unfolding bad sound
    sound-good f s = go (eqb (number (block_at m p)) p) (intact (block_at m p)) s (numbered m p)
      where
        go : (t i : Bool) → (t && i) ≡ true → (n : Bool) → (n && (not t || (follows m p || not i))) ≡ false
        go true true s true = rw f refl
        go true true s false = refl
        go true false s n = absurd (no_false s)
        go false i s n = absurd (no_false s)

    pub unsound-bad : unfinished (block_at m p) ≡ false → sound (block_at m p) p ≡ false → bad m p ≡ true
    unfolding bad sound
    unsound-bad u s = rw u (go (eqb (number (block_at m p)) p) (intact (block_at m p)) s)
      where
        go : (t i : Bool) → (t && i) ≡ false → (not t || (follows m p || not i)) ≡ true
        go true true s = absurd (no_false (sym s))
        go true false s = or_yes (follows m p)
        go false i s = refl

    pub behind-bad : unfinished (block_at m p) ≡ false → follows m p ≡ true → bad m p ≡ true
    unfolding bad
    behind-bad u f = rw (u, f) (or_yes (not (eqb (number (block_at m p)) p)))

    pub follows_next : 1 ≤ p → follows m (p + 1) ≡ unfinished (block_at m p)
    follows_next h = let e : p + 1 - 1 ≡ p = omega arith in rw (le-leb 2 (p + 1) (omega arith), e) refl

  -- behind an unfinished block every numbered one is bad
  pub behind-unfinished : (k p : ℕ) → 1 ≤ p → follows m p ≡ true → first_from (bad m) k p ≡ first_from (numbered m) k p
  behind-unfinished zero p h f = refl
  behind-unfinished (suc k) p h f = go (unfinished (block_at m p)) refl (behind-unfinished k (p + 1) (omega arith))
    where
      go : (t : Bool) → unfinished (block_at m p) ≡ t → (follows m (p + 1) ≡ true → first_from (bad m) k (p + 1) ≡ first_from (numbered m) k (p + 1))
          → first_from (bad m) (suc k) p ≡ first_from (numbered m) (suc k) p
      go true u ih = rw (unfinished-good p u, u) (ih (follows_next p h ∙ u))
      go false u ih = rw (behind-bad p u f, u) refl

  -- behind the sound blocks that stand first, too
  pub behind-sound : (k p : ℕ) → 1 ≤ p → follows m p ≡ false → first_from (bad m) k p ≡ first_from (numbered m) (k - sound_from m k p) (p + sound_from m k p)
  behind-sound zero p h f = refl
  behind-sound (suc k) p h f = go (sound (block_at m p) p) refl (behind-sound k (p + 1) (omega arith))
    where
      go : (t : Bool) → sound (block_at m p) p ≡ t
          → (follows m (p + 1) ≡ false → first_from (bad m) k (p + 1) ≡ first_from (numbered m) (k - sound_from m k (p + 1)) (p + 1 + sound_from m k (p + 1)))
          → first_from (bad m) (suc k) p ≡ first_from (numbered m) (suc k - sound_from m (suc k) p) (p + sound_from m (suc k) p)
      go true s ih =
          let n = sound_from m k (p + 1) in
          let e : suc k - suc n ≡ k - n = omega arith in
          let g : p + suc n ≡ p + 1 + n = omega arith in
          rw (sound-good p f s, s, e, g) (ih (follows_next p h ∙ sound-numbered p h s))
      go false s ih =
          let e : suc k - 0 ≡ suc k = omega arith in
          let g : p + 0 ≡ p = omega arith in
          rw (s, e, g) (here (unfinished (block_at m p)) refl)
        where
          here : (t : Bool) → unfinished (block_at m p) ≡ t → first_from (bad m) (suc k) p ≡ first_from (numbered m) (suc k) p
          here true u = rw (unfinished-good p u, u) (behind-unfinished k (p + 1) (omega arith) (follows_next p h ∙ u))
          here false u = rw (unsound-bad p u s, u) refl

  -- where a search finds nothing, its test holds nowhere
  pub first-none : (test : ℕ → Bool) (k p : ℕ) → 1 ≤ p → first_from test k p ≡ 0 → (q : ℕ) → p ≤ q → q < p + k → test q ≡ false
  first-none test zero p h none q from to = absurd (omega (arith, from, to))
  first-none test (suc k) p h none q from to = go (test p) refl none (λ e r. first-none test k (p + 1) (omega arith) e q r (omega arith))
    where
      go : (t : Bool) → test p ≡ t → cond t p (first_from test k (p + 1)) ≡ 0 → (first_from test k (p + 1) ≡ 0 → p + 1 ≤ q → test q ≡ false) → test q ≡ false
      go true is e ih = absurd (omega (arith, h, e))
      go false is e ih = at (eqb p q) refl
        where
          at : (t : Bool) → eqb p q ≡ t → test q ≡ false
          at true same = ap test (sym (eqb-true p q same)) ∙ is
          at false other = ih e (omega (arith, from, eqb-false p q other))

  pub found_none : (k p : ℕ) → 1 ≤ p → first_from (numbered m) k p ≡ 0 → found_from m k p ≡ []
  found_none zero p h none = refl
  found_none (suc k) p h none = go (numbered m p) refl none (found_none k (p + 1) (omega arith))
    where
      go : (t : Bool) → numbered m p ≡ t → cond t p (first_from (numbered m) k (p + 1)) ≡ 0
          → (first_from (numbered m) k (p + 1) ≡ 0 → found_from m k (p + 1) ≡ []) → found_from m (suc k) p ≡ []
      go true is e ih = absurd (omega (arith, h, e))
      go false is e ih = rw is (ih e)

  -- Where no block is numbered behind the sound ones, those are the finished ones.
  abbrev NoneBehind : ℕ → ℕ → Type 0
  NoneBehind k p = first_from (numbered m) (k - sound_from m k p) (p + sound_from m k p) ≡ 0

  -- one sound block fewer
  module _ (k p : ℕ) (s : sound (block_at m p) p ≡ true) where
    one_more : sound_from m (suc k) p ≡ suc (sound_from m k (p + 1))
    one_more = rw s refl

    pub none-next : NoneBehind (suc k) p → NoneBehind k (p + 1)
    none-next none =
        let n = sound_from m k (p + 1) in
        let e : suc k - suc n ≡ k - n = omega arith in
        let g : p + suc n ≡ p + 1 + n = omega arith in
        rw (one_more, e, g) at none

  -- no sound block
  module _ (k p : ℕ) (s : sound (block_at m p) p ≡ false) where
    no_more : sound_from m (suc k) p ≡ 0
    no_more = rw s refl

    pub none_here : NoneBehind (suc k) p → first_from (numbered m) (suc k) p ≡ 0
    none_here none =
        let e : suc k - 0 ≡ suc k = omega arith in
        let g : p + 0 ≡ p = omega arith in
        rw (no_more, e, g) at none

  pub found-long : (k p : ℕ) → 1 ≤ p → NoneBehind k p → length (found_from m k p) ≡ sound_from m k p
  found-long zero p h none = refl
  found-long (suc k) p h none = go (sound (block_at m p) p) refl (found-long k (p + 1) (omega arith))
    where
      go : (t : Bool) → sound (block_at m p) p ≡ t → (NoneBehind k (p + 1) → length (found_from m k (p + 1)) ≡ sound_from m k (p + 1))
          → length (found_from m (suc k) p) ≡ sound_from m (suc k) p
      go true s ih = rw (sound-numbered p h s, s) (ap suc (ih (none-next k p s none)))
      go false s ih = rw (found_none (suc k) p h (none_here k p s none), s) refl

  pub numbered-at : (k p q : ℕ) → 1 ≤ p → NoneBehind k p → p ≤ q → q < p + k → numbered m q ≡ ltb q (p + sound_from m k p)
  numbered-at zero p q h none from to = absurd (omega (arith, from, to))
  numbered-at (suc k) p q h none from to = go (sound (block_at m p) p) refl (numbered-at k (p + 1) q (omega arith))
    where
      go : (t : Bool) → sound (block_at m p) p ≡ t → (NoneBehind k (p + 1) → p + 1 ≤ q → q < p + 1 + k → numbered m q ≡ ltb q (p + 1 + sound_from m k (p + 1)))
          → numbered m q ≡ ltb q (p + sound_from m (suc k) p)
      go false s ih =
          first-none (numbered m) (suc k) p h (none_here k p s none) q from to ∙ sym (rw (no_more k p s) (le-ltb q (p + 0) (omega arith)))
      go true s ih = at (eqb p q) refl
        where
          g : p + suc (sound_from m k (p + 1)) ≡ p + 1 + sound_from m k (p + 1)
          g = omega arith

          at : (t : Bool) → eqb p q ≡ t → numbered m q ≡ ltb q (p + sound_from m (suc k) p)
          at true same =
              let e = eqb-true p q same in
              ap (numbered m) (sym e) ∙ ap not (sound-numbered p h s)
              ∙ sym (rw (one_more k p s) (lt-ltb q (p + suc (sound_from m k (p + 1))) (omega (arith, e))))
          at false other =
              rw (one_more k p s, g) (ih (none-next k p s none) (omega (arith, from, eqb-false p q other)) (omega arith))

  pub first-open : (k p : ℕ) → 1 ≤ p → NoneBehind k p → first_from (unfinished_at m) k p ≡ cond (ltb (sound_from m k p) k) (p + sound_from m k p) 0
  first-open zero p h none = refl
  first-open (suc k) p h none = go (sound (block_at m p) p) refl (first-open k (p + 1) (omega arith))
    where
      go : (t : Bool) → sound (block_at m p) p ≡ t
          → (NoneBehind k (p + 1) → first_from (unfinished_at m) k (p + 1) ≡ cond (ltb (sound_from m k (p + 1)) k) (p + 1 + sound_from m k (p + 1)) 0)
          → first_from (unfinished_at m) (suc k) p ≡ cond (ltb (sound_from m (suc k) p) (suc k)) (p + sound_from m (suc k) p) 0
      go true s ih =
          let n = sound_from m k (p + 1) in
          let g : p + suc n ≡ p + 1 + n = omega arith in
          rw (sound-numbered p h s, one_more k p s, g, ltb-suc n k) (ih (none-next k p s none))
      go false s ih =
          let u = not-false (unfinished_at m p) (first-none (numbered m) (suc k) p h (none_here k p s none) p (omega arith) (omega arith)) in
          rw (u, no_more k p s, lt-ltb 0 (suc k) (omega arith)) (omega arith)

  pub sound-most : (k p : ℕ) → sound_from m k p ≤ k
  sound-most zero p = omega arith
  sound-most (suc k) p = go (sound (block_at m p) p) (sound-most k (p + 1))
    where
      go : (t : Bool) → sound_from m k (p + 1) ≤ k → cond t (suc (sound_from m k (p + 1))) 0 ≤ suc k
      go true ih = omega (arith, ih)
      go false ih = omega arith

  -- of the whole capture
  pub sound-first-most : sound_first m ≤ 128
  unfolding sound_first
  sound-first-most = sound-most 128 1

  starts : follows m 1 ≡ false
  starts = refl

  pub judged-bad : numbered_behind m (sound_first m) ≡ first_bad m
  unfolding numbered_behind sound_first first_bad
  judged-bad =
      let e : sound_first m + 1 ≡ 1 + sound_first m = omega arith in
      ap (first_from (numbered m) (128 - sound_first m)) e ∙ sym (behind-sound 128 1 (omega arith) starts)

  module _ (good : first_bad m ≡ 0) where
    none-behind : NoneBehind 128 1
    unfolding first_bad
    none-behind = sym (behind-sound 128 1 (omega arith) starts) ∙ good

    pub judged-long : length (found m) ≡ sound_first m
    unfolding found sound_first
    judged-long = found-long 128 1 (omega arith) none-behind

    pub judged-at : (q : ℕ) → 1 ≤ q → q ≤ 128 → numbered m q ≡ leb q (sound_first m)
    unfolding sound_first
    judged-at q from to =
        numbered-at 128 1 q (omega arith) none-behind from (omega arith) ∙ ltb-leb q (sound_first m)

    pub judged-open : first_unfinished m ≡ cond (ltb (sound_first m) 128) (sound_first m + 1) 0
    unfolding first_unfinished sound_first
    judged-open =
        let e : 1 + sound_first m ≡ sound_first m + 1 = omega arith in
        first-open 128 1 (omega arith) none-behind ∙ ap (λ (n : ℕ). cond (ltb (sound_first m) 128) n 0) e

    -- the finished blocks stand first
    pub found-most : length (found m) ≤ 128
    found-most = omega (arith, judged-long, sound-first-most)

    pub found_at : (q : ℕ) → 1 ≤ q → q ≤ 128 → numbered m q ≡ leb q (length (found m))
    found_at q from to = judged-at q from to ∙ ap (leb q) (sym judged-long)

    pub found-open : first_unfinished m ≡ cond (ltb (length (found m)) 128) (length (found m) + 1) 0
    found-open = judged-open ∙ ap (λ (n : ℕ). cond (ltb n 128) (n + 1) 0) (sym judged-long)
