-- However a line is cut, the rows that a program gives call by call are the rows of the whole line.
use Rattle.std.specs.Prelude.{Ok, Err, Result}
use Prim.Native.Nat.{ℕ, zero, suc, ◌+◌, ◌-◌, ◌≤◌, ◌<◌}
use mathlib.Core.Path.{◌≡◌, refl, sym, ap, ◌∙◌}
use mathlib.Core.Bool.{Bool, true, false, cond}
use mathlib.Core.List.{List, [], ◌∷◌, ◌++◌, map, append_assoc, append-nil, flatten}
use native.Mathlib.Omega.{arith}
use lib.ListN.{length, drop, length-drop, length-append}
use lib.Seq.{drop-append-le, drop-drop}
use lib.Dec.{eqb}
use borrow.Author.Tests.{le-leb}
use Rattle.answers.specs.declared.Answer.{Answer}
use Rattle.walk.specs.Walk.{Reading, Move, taken, stops, walk_from, walk}
use Rattle.walk.specs.Sound.{Sound}
use Rattle.walk.specs.Answers.{answering}
use Rattle.walk.specs.Tally.{largest}
use Rattle.walk.specs.Rows.{rows_of}
use Rattle.walk.specs.Pieces.{given}
use Rattle.walk.specs.Told.{move_of, fresh, holds, told_of, on_told, next_of}
use Rattle.walk.specs.Listed.{last_row, is_last, after_call, rows_by_calls}
use Rattle.walk.specs.declared.rows.Kept.{Kept}
use Rattle.walk.specs.declared.rows.Told.{Told}
use Rattle.walk.specs.declared.rows.Told.TheVariants.{Nothing, One, Two}
use Rattle.walk.specs.declared.rows.Next.{Next}
use Rattle.walk.specs.declared.rows.Next.TheVariants.{OneRow, TwoRows, Stopped}
use Rattle.walk.proofs.WalkLaws.{front, step, behind, takes-some, takes-within, walk-stops, walk-moves, walk-induct}
use Rattle.walk.proofs.MoreLaws.{settled_says}
use Rattle.walk.proofs.RowLaws.{given-closed}
use Rattle.walk.proofs.ToldLaws.{run_of, told_rows, kept_by, told-gives}
use Rattle.walk.specs.declared.rows.RowsError.TheVariants.{Full}
use Rattle.walk.specs.declared.rows.RowsError.{RowsError}

-- the place and the kept bytes can hold some bytes more
abbrev pub Fits : Kept → ℕ → Type 0
Fits k n = (k.at + n ≤ largest) × (k.skipped.bytes ≤ k.at)

fits-holds : (k : Kept) (n : ℕ) → Fits k n → holds k n ≡ true
fits-holds k n f = rw (le-leb (k.at + n) largest f.0, le-leb (k.skipped.bytes + n) largest (omega (arith, f.0, f.1))) refl

module _ (says : List ℕ → Answer) (longest : ℕ) (S : Sound (answering says) longest) where
  abbrev R : Reading Answer
  R = answering says

  -- ---- one call
  -- what a call gives of the bytes from a place on, which u follows: rows, and what is kept at a later place
  pub record Gives (u : List ℕ) (k : Kept) (at : ℕ) (t : List ℕ) (rows : List (Move Answer)) (j : Kept) (to : ℕ) : Type 0 where
    pub forward : at ≤ to
    pub within : to ≤ at + length t
    pub fits : Fits j (length t - (to - at) + length u)
    pub gives : given R true (run_of k.skipped) (walk_from R true k.at (t ++ u))
        ≡ rows ++ given R true (run_of j.skipped) (walk_from R true j.at (drop (to - at) t ++ u))

  -- a call that gives rows takes a byte at least, and one that stops is where the walk stops; none is refused
  abbrev pub Said : Bool → List ℕ → Kept → ℕ → List ℕ → Result Next RowsError → Type 0
  Said c u k at t (Ok (OneRow r j to)) = Gives u k at t (move_of r ∷ []) j to × (at < to)
  Said c u k at t (Ok (TwoRows s r j to)) = Gives u k at t (move_of s ∷ move_of r ∷ []) j to × (at < to)
  Said c u k at t (Ok (Stopped j to)) = Gives u k at t [] j to × (stops R c (drop (to - at) t) ≡ true)
  Said c u k at t (Err Full) = ⊥

  rows_are : (u : List ℕ) (k : Kept) (at : ℕ) (t : List ℕ) (rows rows' : List (Move Answer)) (j : Kept) (to : ℕ) → rows ≡ rows' → Gives u k at t rows j to → Gives u k at t rows' j to
  rows_are u k at t rows rows' j to e g = record {
    forward = g.forward;
    within = g.within;
    fits = g.fits;
    gives = g.gives ∙ ap (λ (l : List (Move Answer)). l ++ given R true (run_of j.skipped) (walk_from R true j.at (drop (to - at) t ++ u))) e;
  }

  module _ (c : Bool) (u : List ℕ) (same : (t : List ℕ) → stops R c t ≡ false → (says (t ++ u) ≡ says t) × (stops R true (t ++ u) ≡ false)) where
    -- the first move is the same with u behind
    whole-moves : (place : ℕ) (t : List ℕ) → stops R c t ≡ false
        → walk_from R true place (t ++ u) ≡ front R place t ∷ walk_from R true (place + step R t) (behind R t ++ u)
    whole-moves place t e =
        let s = same t e in
        let n : step R (t ++ u) ≡ step R t = ap (taken R) s.0 in
        let b : behind R (t ++ u) ≡ behind R t ++ u = ap (λ (x : ℕ). drop x (t ++ u)) n ∙ drop-append-le (step R t) t u (takes-within R longest S c t e) in
        (walk-moves R longest S true place (t ++ u) s.1).0
        ∙ (λ i. record { at = place; said = s.0 i; bytes = n i } ∷ walk_from R true (place + n i) (b i))

    -- what holds from the bytes behind a move on, holds from the move on
    module _ (k : Kept) (at : ℕ) (t : List ℕ) (e : stops R c t ≡ false) (f : Fits k (length t + length u)) where
      abbrev n : ℕ
      n = step R t

      abbrev told : Result Told RowsError
      told = told_of k (says t) n

      n-some : 1 ≤ n
      n-some = takes-some R longest S t

      n_within : n ≤ length t
      n_within = takes-within R longest S c t e

      length-behind : length (behind R t) ≡ length t - n
      length-behind = length-drop n t

      held : holds k n ≡ true
      held = fits-holds k n (omega (arith, f.0, n_within), f.1)

      law : (given R true (run_of k.skipped) (move_of (record { at = k.at; bytes = n; answer = says t }) ∷ walk_from R true (k.at + n) (behind R t ++ u))
          ≡ told_rows told ++ given R true (run_of (kept_by k told).skipped) (walk_from R true (k.at + n) (behind R t ++ u)))
          × ((kept_by k told).at ≡ k.at + n)
          × ((kept_by k told).skipped.bytes ≤ k.skipped.bytes + n)
      law = told-gives says k (says t) n held n-some true (walk_from R true (k.at + n) (behind R t ++ u))

      -- a call's own rows
      gives-told : (j : Kept) → kept_by k told ≡ j → Gives u k at t (told_rows told) j (at + n)
      gives-told j p =
          let place : j.at ≡ k.at + n = sym (ap (λ (x : Kept). x.at) p) ∙ law.1 in
          let bytes : j.skipped.bytes ≤ k.skipped.bytes + n = omega (arith, ap (λ (x : Kept). x.skipped.bytes) p, law.2) in
          let far : (at + n) - at ≡ n = omega arith in
          record {
            forward = omega arith;
            within = omega (arith, n_within);
            fits = (omega (arith, place, f.0, n_within, far), omega (arith, place, bytes, f.1));
            gives =
                ap (given R true (run_of k.skipped)) (whole-moves k.at t e)
                ∙ law.0
                ∙ (λ i. told_rows told ++ given R true (run_of (p i).skipped) (walk_from R true (sym place i) (drop (sym far i) t ++ u)));
          }

      -- nothing told yet: what follows is told from here
      gives-later : (j : Kept) → told ≡ Ok (Nothing j) → (rows : List (Move Answer)) (i : Kept) (to : ℕ) → Gives u j (at + n) (behind R t) rows i to → Gives u k at t rows i to
      gives-later j p rows i to g =
          let first = gives-told j (ap (kept_by k) p) in
          let far : n + (to - (at + n)) ≡ to - at = omega (arith, g.forward) in
          let none : told_rows told ≡ [] = ap told_rows p in
          let near : (at + n) - at ≡ n = omega arith in
          record {
            forward = omega (arith, g.forward);
            within = omega (arith, g.within, length-behind, n_within);
            fits = (omega (arith, g.fits.0, length-behind, n_within, g.forward, g.within), g.fits.1);
            gives =
                first.gives
                ∙ (λ x. none x ++ given R true (run_of j.skipped) (walk_from R true j.at (drop (near x) t ++ u)))
                ∙ g.gives
                ∙ ap (λ (l : List ℕ). rows ++ given R true (run_of i.skipped) (walk_from R true i.at (l ++ u)))
                (drop-drop (to - (at + n)) n t ∙ ap (λ (x : ℕ). drop x t) far);
          }

      said-later : (j : Kept) → told ≡ Ok (Nothing j) → (x : Result Next RowsError) → Said c u j (at + n) (behind R t) x → Said c u k at t x
      said-later j p (Ok (OneRow r i to)) s = (gives-later j p (move_of r ∷ []) i to s.0, omega (arith, s.1))
      said-later j p (Ok (TwoRows q r i to)) s = (gives-later j p (move_of q ∷ move_of r ∷ []) i to s.0, omega (arith, s.1))
      said-later j p (Ok (Stopped i to)) s =
          let far : n + (to - (at + n)) ≡ to - at = omega (arith, s.0.forward) in
          (gives-later j p [] i to s.0, sym (ap (stops R c) (drop-drop (to - (at + n)) n t ∙ ap (λ (x : ℕ). drop x t) far)) ∙ s.1)
      said-later j p (Err Full) s = s

      said-told : (x : Result Told RowsError) → told ≡ x → (more : Kept → ℕ → Result Next RowsError) → ((j : Kept) → j.at ≡ k.at + n → Fits j (length (behind R t) + length u) → Said c u j (at + n) (behind R t) (more j (at + n)))
          → Said c u k at t (on_told x (at + n) more)
      said-told (Ok (Nothing j)) p more ih =
          let g = gives-told j (ap (kept_by k) p) in
          said-later j p (more j (at + n)) (ih j (sym (ap (λ (x : Result Told RowsError). (kept_by k x).at) p) ∙ law.1) (omega (arith, g.fits.0, length-behind, n_within), g.fits.1))
      said-told (Ok (One r j)) p more ih =
          let g = gives-told j (ap (kept_by k) p) in
          (rows_are u k at t (told_rows told) (move_of r ∷ []) j (at + n) (ap told_rows p) g, omega (arith, n-some))
      said-told (Ok (Two s r j)) p more ih =
          let g = gives-told j (ap (kept_by k) p) in
          (rows_are u k at t (told_rows told) (move_of s ∷ move_of r ∷ []) j (at + n) (ap told_rows p) g, omega (arith, n-some))
      said-told (Err Full) p more ih = absurd (omega (arith, n-some, ap (λ (x : Result Told RowsError). (kept_by k x).at) p, law.1))

    -- one call over some bytes
    call-says : (place : ℕ) (t : List ℕ) (k : Kept) (at : ℕ) → k.at ≡ place → Fits k (length t + length u) → Said c u k at t (next_of (walk_from R c place t) k at)
    call-says = walk-induct R longest S c P stopped moved
      where
        P : ℕ → List ℕ → Type 0
        P place t = (k : Kept) (at : ℕ) → k.at ≡ place → Fits k (length t + length u) → Said c u k at t (next_of (walk_from R c place t) k at)

        stopped : (place : ℕ) (t : List ℕ) → stops R c t ≡ true → P place t
        stopped place t e k at p f =
            let none : at - at ≡ 0 = omega arith in
            rw (walk-stops R longest S c place t e).0
            ((
              record {
                forward = omega arith;
                within = omega arith;
                fits = (omega (arith, f.0, none), f.1);
                gives = sym (ap (λ (x : ℕ). given R true (run_of k.skipped) (walk_from R true k.at (drop x t ++ u))) none);
              },
              ap (λ (x : ℕ). stops R c (drop x t)) none ∙ e,
            ))

        moved : (place : ℕ) (t : List ℕ) → stops R c t ≡ false → P (place + step R t) (behind R t) → P place t
        moved place t e ih k at p f =
            rw (walk-moves R longest S c place t e).0
            (said-told k at t e f (told_of k (says t) (step R t)) refl (next_of (walk_from R c (place + step R t) (behind R t)))
            (λ j q g. ih j (at + step R t) (q ∙ ap (λ (x : ℕ). x + step R t) p) g))

  -- ---- all calls
  last-run : (k : Kept) → map move_of (last_row k) ≡ run_of k.skipped
  last-run k = go (eqb k.skipped.bytes 0)
    where
      go : (b : Bool) → map move_of (cond b [] (k.skipped ∷ [])) ≡ cond b [] (move_of k.skipped ∷ [])
      go true = refl
      go false = refl

  -- what is still to give: the bytes in hand, with the pieces to come behind them
  abbrev to_give : Kept → List ℕ → List (List ℕ) → List (Move Answer)
  to_give k hand pieces = given R true (run_of k.skipped) (walk_from R true k.at (hand ++ flatten pieces))

  abbrev Right : ℕ → Type 0
  Right n = (k : Kept) (hand : List ℕ) (pieces : List (List ℕ)) → length hand + length (flatten pieces) + length pieces < n
      → Fits k (length hand + length (flatten pieces)) → map move_of (rows_by_calls R n k hand pieces) ≡ to_give k hand pieces

  module _ (n : ℕ) (ih : Right n) (k : Kept) (hand : List ℕ) where
    -- behind a call that gave rows
    goes_on : (pieces : List (List ℕ)) (rows : List (Move Answer)) (j : Kept) (to : ℕ) → length hand + length (flatten pieces) + length pieces ≤ n
        → Gives (flatten pieces) k 0 hand rows j to → 0 < to → rows ++ map move_of (rows_by_calls R n j (drop to hand) pieces) ≡ to_give k hand pieces
    goes_on pieces rows j to less g h =
        let l : length (drop to hand) ≡ length hand - to = length-drop to hand in
        let z : to ≡ to - 0 = omega arith in
        ap (λ (x : List (Move Answer)). rows ++ x)
        (ih j (drop to hand) pieces (omega (arith, l, h, g.within, less)) (omega (arith, g.fits.0, l), g.fits.1))
        ∙ ap (λ (x : ℕ). rows ++ given R true (run_of j.skipped) (walk_from R true j.at (drop x hand ++ flatten pieces))) z
        ∙ sym g.gives

    -- behind a call that stopped, with a piece to come
    takes-piece : (p : List ℕ) (ps : List (List ℕ)) (j : Kept) (to : ℕ) → length hand + length (flatten (p ∷ ps)) + length (p ∷ ps) ≤ n
        → Gives (flatten (p ∷ ps)) k 0 hand [] j to → map move_of (rows_by_calls R n j (drop to hand ++ p) ps) ≡ to_give k hand (p ∷ ps)
    unfolding flatten
    takes-piece p ps j to less g =
        let z : to ≡ to - 0 = omega arith in
        let l : length (drop to hand ++ p) ≡ (length hand - to) + length p = length-append (drop to hand) p ∙ ap (λ (x : ℕ). x + length p) (length-drop to hand) in
        let m : length (p ++ flatten ps) ≡ length p + length (flatten ps) = length-append p (flatten ps) in
        ih j (drop to hand ++ p) ps (omega (arith, l, m, less)) (omega (arith, g.fits.0, l, m), g.fits.1)
        ∙ ap (λ (x : List ℕ). given R true (run_of j.skipped) (walk_from R true j.at x)) (append_assoc (drop to hand) p (flatten ps))
        ∙ ap (λ (x : ℕ). given R true (run_of j.skipped) (walk_from R true j.at (drop x hand ++ (p ++ flatten ps)))) z
        ∙ sym g.gives

    -- and without
    closes : (j : Kept) (to : ℕ) → Gives [] k 0 hand [] j to → stops R true (drop (to - 0) hand) ≡ true → map move_of (last_row j) ≡ to_give k hand []
    unfolding flatten
    closes j to g e =
        let none : walk_from R true j.at (drop (to - 0) hand ++ []) ≡ [] = ap (walk_from R true j.at) (append-nil (drop (to - 0) hand)) ∙ (walk-stops R longest S true j.at (drop (to - 0) hand) e).0 in
        last-run j ∙ sym (g.gives ∙ ap (given R true (run_of j.skipped)) none)

    rows-follow : (pieces : List (List ℕ)) → length hand + length (flatten pieces) + length pieces ≤ n → (x : Result Next RowsError) → Said (is_last pieces) (flatten pieces) k 0 hand x
        → map move_of (after_call x hand pieces (rows_by_calls R n)) ≡ to_give k hand pieces
    unfolding flatten
    rows-follow pieces less (Ok (OneRow r j to)) s = goes_on pieces (move_of r ∷ []) j to less s.0 s.1
    rows-follow pieces less (Ok (TwoRows q r j to)) s = goes_on pieces (move_of q ∷ move_of r ∷ []) j to less s.0 s.1
    rows-follow [] less (Ok (Stopped j to)) s = closes j to s.0 s.1
    rows-follow (p ∷ ps) less (Ok (Stopped j to)) s = takes-piece p ps j to less s.0
    rows-follow pieces less (Err Full) s = absurd s

  -- a call on an open line, and one on a closed line with nothing behind it
  same-open : (u t : List ℕ) → stops R false t ≡ false → (says (t ++ u) ≡ says t) × (stops R true (t ++ u) ≡ false)
  same-open u t e = settled_says R longest S u true t e

  same-closed : (t : List ℕ) → stops R true t ≡ false → (says (t ++ []) ≡ says t) × (stops R true (t ++ []) ≡ false)
  same-closed t e = (ap says (append-nil t), ap (stops R true) (append-nil t) ∙ e)

  first-call : (k : Kept) (hand : List ℕ) (pieces : List (List ℕ)) → Fits k (length hand + length (flatten pieces))
      → Said (is_last pieces) (flatten pieces) k 0 hand (next_of (walk_from R (is_last pieces) k.at hand) k 0)
  unfolding flatten
  first-call k hand [] f = call-says true [] same-closed k.at hand k 0 refl f
  first-call k hand (p ∷ ps) f = call-says false (p ++ flatten ps) (same-open (p ++ flatten ps)) k.at hand k 0 refl f

  right : (n : ℕ) → Right n
  right zero k hand pieces less f = absurd (omega arith)
  right (suc n) k hand pieces less f = rows-follow n (right n) k hand pieces (omega arith) (next_of (walk_from R (is_last pieces) k.at hand) k 0) (first-call k hand pieces f)

  -- for every line that its places can count and every way of cutting it, as soon as the calls are as many as bytes and pieces
  pub calls-are-rows : (pieces : List (List ℕ)) (n : ℕ) → length (flatten pieces) ≤ largest → length (flatten pieces) + length pieces < n
      → map move_of (rows_by_calls R n fresh [] pieces) ≡ rows_of R (walk R true (flatten pieces))
  calls-are-rows pieces n fits enough =
      right n fresh [] pieces (omega (arith, enough)) (omega (arith, fits), omega arith)
      ∙ given-closed R [] (walk R true (flatten pieces)) tt
