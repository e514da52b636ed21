-- Rows: given while the line comes in pieces they are the rows of the whole line, and their figures are the walk's.
use Prim.Native.Nat.{ℕ, ◌+◌}
use mathlib.Core.Path.{◌≡◌, refl, sym, ap, ◌∙◌}
use mathlib.Core.Bool.{Bool, true, false, cond, ◌&&◌}
use mathlib.Core.List.{List, [], ◌∷◌, ◌++◌, append_assoc, append-nil, flatten}
use native.Mathlib.Omega.{arith}
use Rattle.walk.specs.Walk.{Reading, Move, walk_from, walk, rest_of}
use Rattle.walk.specs.Sound.{Sound}
use Rattle.walk.specs.Tally.{is_skipped, bytes_of}
use Rattle.walk.specs.Rows.{skips, longer, before, rows_of}
use Rattle.walk.specs.Pieces.{grown, given, kept, reach, in_pieces}
use Rattle.walk.proofs.MoreLaws.{walk_more}

module _ {A : Type 0} (R : Reading A) where
  -- ---- kept skipped bytes
  -- none, or one row of skipped bytes
  abbrev pub KeptRow : List (Move A) → Type 0
  KeptRow [] = Unit {0}
  KeptRow (r ∷ []) = skips R r ≡ true
  KeptRow (r ∷ s ∷ rs) = ⊥

  pub grown-kept : (run : List (Move A)) (m : Move A) → KeptRow run → skips R m ≡ true → KeptRow (grown run m)
  grown-kept [] m k s = s
  grown-kept (r ∷ []) m k s = k
  grown-kept (r ∷ q ∷ rs) m k s = absurd k

  pub kept-kept : (run ms : List (Move A)) → KeptRow run → KeptRow (kept R run ms)
  kept-kept run [] k = k
  kept-kept run (m ∷ ms) k = go (skips R m) refl (λ x. kept-kept (grown run m) ms x) (kept-kept [] ms tt)
    where
      go : (b : Bool) → skips R m ≡ b → (KeptRow (grown run m) → KeptRow (kept R (grown run m) ms)) → KeptRow (kept R [] ms)
          → KeptRow (cond b (kept R (grown run m) ms) (kept R [] ms))
      go true e ih rest = ih (grown-kept run m k e)
      go false e ih rest = rest

  -- ---- rows of moves, one after the other
  -- a frame joins nothing
  before-frame : (m : Move A) (rs : List (Move A)) → skips R m ≡ false → before R m rs ≡ m ∷ rs
  before-frame m [] e = refl
  before-frame m (r ∷ rs) e = rw e

  -- and nothing joins a frame
  before-before-frame : (r m : Move A) (rs : List (Move A)) → skips R m ≡ false → before R r (m ∷ rs) ≡ r ∷ m ∷ rs
  before-before-frame r m rs e = go (skips R r)
    where
      go : (b : Bool) → cond (b && skips R m) (longer r m.bytes ∷ rs) (r ∷ m ∷ rs) ≡ r ∷ m ∷ rs
      go true = rw e
      go false = refl

  -- skipped bytes join in any order
  before-longer : (r m : Move A) (rs : List (Move A)) → skips R r ≡ true → skips R m ≡ true → before R r (before R m rs) ≡ before R (longer r m.bytes) rs
  before-longer r m [] p q = rw (p, q)
  before-longer r m (x ∷ xs) p q = rw (p, q) (go (skips R x))
    where
      sum : r.bytes + (m.bytes + x.bytes) ≡ r.bytes + m.bytes + x.bytes
      sum = omega arith

      go : (b : Bool) → before R r (cond b (longer m x.bytes ∷ xs) (m ∷ x ∷ xs)) ≡ cond b (longer (longer r m.bytes) x.bytes ∷ xs) (longer r m.bytes ∷ x ∷ xs)
      go true = rw (p, q) (λ i. record { at = r.at; said = r.said; bytes = sum i } ∷ xs)
      go false = rw (p, q)

  rows_grown : (run : List (Move A)) (m : Move A) (ms : List (Move A)) → KeptRow run → skips R m ≡ true → rows_of R (grown run m ++ ms) ≡ rows_of R (run ++ (m ∷ ms))
  rows_grown [] m ms k s = refl
  rows_grown (r ∷ []) m ms k s = sym (before-longer r m (rows_of R ms) k s)
  rows_grown (r ∷ q ∷ rs) m ms k s = absurd k

  rows_frame : (run : List (Move A)) (m : Move A) (ms : List (Move A)) → KeptRow run → skips R m ≡ false → run ++ (m ∷ rows_of R ms) ≡ rows_of R (run ++ (m ∷ ms))
  rows_frame [] m ms k s = sym (before-frame m (rows_of R ms) s)
  rows_frame (r ∷ []) m ms k s = sym (ap (before R r) (before-frame m (rows_of R ms) s) ∙ before-before-frame r m (rows_of R ms) s)
  rows_frame (r ∷ q ∷ rs) m ms k s = absurd k

  -- on a closed line the rows given are the rows of the moves, with the kept skipped bytes in front
  pub given-closed : (run ms : List (Move A)) → KeptRow run → given R true run ms ≡ rows_of R (run ++ ms)
  given-closed [] [] k = refl
  given-closed (r ∷ []) [] k = refl
  given-closed (r ∷ q ∷ rs) [] k = absurd k
  given-closed run (m ∷ ms) k = go (skips R m) refl (λ x. given-closed (grown run m) ms x) (given-closed [] ms tt)
    where
      go : (b : Bool) → skips R m ≡ b → (KeptRow (grown run m) → given R true (grown run m) ms ≡ rows_of R (grown run m ++ ms)) → given R true [] ms ≡ rows_of R ms
          → cond b (given R true (grown run m) ms) (run ++ (m ∷ given R true [] ms)) ≡ rows_of R (run ++ (m ∷ ms))
      go true e ih rest = ih (grown-kept run m k e) ∙ rows_grown run m ms k e
      go false e ih rest = ap (λ (l : List (Move A)). run ++ (m ∷ l)) rest ∙ rows_frame run m ms k e

  -- moves and then more moves
  pub given-append : (c : Bool) (run ms ns : List (Move A)) → given R c run (ms ++ ns) ≡ given R false run ms ++ given R c (kept R run ms) ns
  given-append c run [] ns = refl
  given-append c run (m ∷ ms) ns = go (skips R m) (given-append c (grown run m) ms ns) (given-append c [] ms ns)
    where
      go : (b : Bool)
          → given R c (grown run m) (ms ++ ns) ≡ given R false (grown run m) ms ++ given R c (kept R (grown run m) ms) ns
          → given R c [] (ms ++ ns) ≡ given R false [] ms ++ given R c (kept R [] ms) ns
          → cond b (given R c (grown run m) (ms ++ ns)) (run ++ (m ∷ given R c [] (ms ++ ns)))
          ≡ cond b (given R false (grown run m) ms) (run ++ (m ∷ given R false [] ms)) ++ given R c (cond b (kept R (grown run m) ms) (kept R [] ms)) ns
      go true skip frame = skip
      go false skip frame =
          ap (λ (l : List (Move A)). run ++ (m ∷ l)) frame
          ∙ sym (append_assoc run (m ∷ given R false [] ms) (given R c (kept R [] ms) ns))

  -- ---- a line in pieces
  module _ (longest : ℕ) (S : Sound R longest) where
    -- bytes that follow take no row back
    pub given-more : (c : Bool) (at : ℕ) (run : List (Move A)) (t u : List ℕ)
        → given R c run (walk_from R c at (t ++ u))
        ≡ given R false run (walk_from R false at t) ++ given R c (kept R run (walk_from R false at t)) (walk_from R c (at + reach R false t) (rest_of R false t ++ u))
    given-more c at run t u =
        ap (given R c run) (walk_more R longest S u c at t).0
        ∙ given-append c run (walk_from R false at t) (walk_from R c (at + reach R false t) (rest_of R false t ++ u))

    pieces-given : (at : ℕ) (run : List (Move A)) (rest : List ℕ) (pieces : List (List ℕ))
        → in_pieces R at run rest pieces ≡ given R true run (walk_from R true at (rest ++ flatten pieces))
    unfolding flatten
    pieces-given at run rest [] = ap (λ (l : List ℕ). given R true run (walk_from R true at l)) (sym (append-nil rest))
    pieces-given at run rest (p ∷ ps) =
        let t = rest ++ p in
        ap (λ (l : List (Move A)). given R false run (walk_from R false at t) ++ l)
        (pieces-given (at + reach R false t) (kept R run (walk_from R false at t)) (rest_of R false t) ps)
        ∙ sym (given-more true at run t (flatten ps))
        ∙ ap (λ (l : List ℕ). given R true run (walk_from R true at l)) (append_assoc rest p (flatten ps))

    -- however a line is cut, the rows of its pieces are the rows of the whole
    pub pieces-are-rows : (pieces : List (List ℕ)) → in_pieces R 0 [] [] pieces ≡ rows_of R (walk R true (flatten pieces))
    pieces-are-rows pieces = pieces-given 0 [] [] pieces ∙ given-closed [] (walk R true (flatten pieces)) tt

  -- ---- figures
  module _ (kind : ℕ → Bool) (alike : (m n : ℕ) → is_skipped m ≡ true → is_skipped n ≡ true → kind m ≡ kind n) where
    bytes-before : (m : Move A) (rs : List (Move A)) → bytes_of R kind (before R m rs) ≡ bytes_of R kind (m ∷ rs)
    bytes-before m [] = refl
    bytes-before m (r ∷ rs) = go (skips R m) (skips R r) refl refl
      where
        split : (b : Bool) → cond b (m.bytes + r.bytes) 0 + bytes_of R kind rs ≡ cond b m.bytes 0 + (cond b r.bytes 0 + bytes_of R kind rs)
        split true = omega arith
        split false = omega arith

        go : (x y : Bool) → skips R m ≡ x → skips R r ≡ y → bytes_of R kind (cond (x && y) (longer m r.bytes ∷ rs) (m ∷ r ∷ rs)) ≡ bytes_of R kind (m ∷ r ∷ rs)
        go true true p q =
            split (kind (R.number m.said))
            ∙ ap (λ (b : Bool). cond (kind (R.number m.said)) m.bytes 0 + (cond b r.bytes 0 + bytes_of R kind rs)) (alike (R.number m.said) (R.number r.said) p q)
        go true false p q = refl
        go false y p q = refl

    -- rows have the figures of the moves
    pub bytes-rows : (ms : List (Move A)) → bytes_of R kind (rows_of R ms) ≡ bytes_of R kind ms
    bytes-rows [] = refl
    bytes-rows (m ∷ ms) = bytes-before m (rows_of R ms) ∙ ap (λ (n : ℕ). cond (kind (R.number m.said)) m.bytes 0 + n) (bytes-rows ms)
