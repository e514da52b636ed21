-- After any series of messages from a clear board, refused ones among them, the board holds what each listed stock's own messages say, and
-- every message was answered as they say.
use Prim.Native.Nat.{ℕ, suc, ◌+◌, ◌-◌, ◌≤◌, ◌<◌}
use mathlib.Core.Path.{◌≡◌, refl, sym, ap, ap₂, ◌∙◌, subst}
use mathlib.Core.Bool.{Bool, true, false, cond, not, ◌&&◌, ◌||◌}
use mathlib.Core.List.{List, [], ◌∷◌, ◌++◌, map}
use native.Mathlib.Omega.{arith}
use lib.ListN.{length, get_or, set, take, replicate, length-append, length-map, length-replicate}
use lib.Dec.{leb, ltb}
use borrow.Author.Tests.{ltb-true, ltb-false, leb-true, lt-ltb, le-ltb, ne_eqb}
use Rattle.digits.proofs.Bools.{and_left, and_right, no_false}
use Rattle.codes_times.specs.Times.{code_byte, code_right, every}
use Rattle.stock_frame.specs.Codec.{legal}
use Rattle.stock_frame.proofs.CodecLaws.{legal-ruled}
use Rattle.stock_quotes.specs.Quotes.{six_codec}
use Rattle.stock_quotes.specs.declared.Quote.{Quote}
use Rattle.stock_board.specs.Rows.{free_code, free_row, row_after}
use Rattle.stock_board.specs.Board.{same_code, place_of, free_place, last_of_day, Changes, change_of, answer_of, changed}
use Rattle.stock_board.specs.declared.Row.{Row}
use Rattle.std.specs.Prelude.{None, Ok, Err}
use Rattle.stock_board.specs.declared.BoardError.TheVariants.{NotWritable, Full}
use Rattle.stock_board.proofs.ChangeLaws.{change-illegal, change-last, change-own, change-free, change-full}
use Rattle.laws_board.specs.History.{Code, counts, among, listed, taken, said, answer_by, board_of, after, answer_to}
use Rattle.laws_board.proofs.CodeLaws.{same_refl, same-eq, same-sym, among-end, or_left, or_right, place_in, Distinct, Coded, Stocks}
use Rattle.laws_board.proofs.ListedLaws.{rows, place-mapped, place-below, free-mapped, get-mapped, set-mapped, set_new, distinct-end, stocks-end, length-end}

-- ---- a message that can be written has a code that no free row has
first_byte : (b : ℕ) (s : Code) → code_byte b ≡ true → same_code (b ∷ s) free_code ≡ false
first_byte b s e =
    let low = leb-true 32 b (and_left (leb 32 b) (leb b 126) e) in
    ap (λ (t : Bool). t && same_code s (replicate 5 0)) (ne_eqb b 0 (λ z. absurd (omega (arith, low, z))))

pub right-code : (s : Code) → code_right s ≡ true → same_code s free_code ≡ false
right-code [] e = refl
right-code (b ∷ s) e = first_byte b s (and_left (code_byte b) (every code_byte s) e)

written-code : (s : Code) (vs : List ℕ) → every code_byte (take 6 (s ++ vs)) ≡ true → same_code s free_code ≡ false
written-code [] vs e = refl
written-code (b ∷ s) vs e = first_byte b s (and_left (code_byte b) (every code_byte (take 5 (s ++ vs))) e)

stock-code : (m : Quote) → legal six_codec m ≡ true → same_code m.code free_code ≡ false
stock-code m l = written-code m.code _ (legal-ruled six_codec m l)

-- ---- what is known of a series
pub record State (ms : List Quote) : Type 0 where
  pub distinct : Distinct (listed ms)
  pub stocks : Stocks (listed ms)
  pub few : length (listed ms) ≤ 256
  pub coded : Coded (λ c. said c ms) (listed ms)
  pub unlisted : (c : Code) → among c (listed ms) ≡ false → said c ms ≡ free_row
  pub board : after ms ≡ board_of ms

coded_by : (f g : Code → Row) → ((c : Code) → (f c).code ≡ c → (g c).code ≡ c) → (cs : List Code) → Coded f cs → Coded g cs
coded_by f g e [] h = tt
coded_by f g e (c ∷ cs) h = (e c h.0, coded_by f g e cs h.1)

coded-end : (f : Code → Row) (x : Code) (cs : List Code) → Coded f cs → (f x).code ≡ x → Coded f (cs ++ (x ∷ []))
coded-end f x [] h e = (e, tt)
coded-end f x (c ∷ cs) h e = (h.0, coded-end f x cs h.1 e)

map-all : (f g : Code → Row) → ((c : Code) → g c ≡ f c) → (cs : List Code) → map g cs ≡ map f cs
map-all f g e [] = refl
map-all f g e (c ∷ cs) = ap₂ (λ (r : Row) (l : List Row). r ∷ l) (e c) (map-all f g e cs)

-- before the first
pub empty-state : State []
empty-state = record { distinct = tt; stocks = tt; few = omega arith; coded = tt; unlisted = λ c e. refl; board = refl }

module _ (m : Quote) (ms : List Quote) (S : State ms) where
  abbrev cs : List Code
  cs = listed ms

  abbrev x : Code
  x = m.code

  abbrev f : Code → Row
  f c = said c ms

  abbrev g : Code → Row
  g c = said c (m ∷ ms)

  abbrev k : ℕ
  k = 256 - length cs

  abbrev R : List Row
  R = rows f cs k

  long : length R ≡ 256
  long = simp (length-append, length-map, length-replicate) (omega (arith, S.few))

  -- the board and the answer behind a change
  behind : (c : Changes) → c ≡ change_of R m → (after (m ∷ ms) ≡ changed R c) × (answer_to ms m ≡ answer_of c)
  behind c e =
      let d : change_of (after ms) m ≡ c = ap (λ (l : List Row). change_of l m) S.board ∙ sym e in
      (ap₂ changed S.board d, ap answer_of d)

  stays : (c : Changes) → changed R c ≡ R → c ≡ change_of R m → (after (m ∷ ms) ≡ after ms) × (answer_to ms m ≡ answer_of c)
  stays c same e = let b = behind c e in (b.0 ∙ same ∙ sym S.board, b.1)

  -- a message that is not taken changes nothing
  same-state : listed (m ∷ ms) ≡ cs → taken ms m ≡ false → after (m ∷ ms) ≡ after ms → State (m ∷ ms)
  same-state L T A =
      let same : (c : Code) → g c ≡ f c = λ c. ap (λ (t : Bool). cond (t && same_code c x) (row_after (f c) m) (f c)) T in
      record {
        distinct = subst Distinct (sym L) S.distinct;
        stocks = subst Stocks (sym L) S.stocks;
        few = subst (λ (l : List Code). length l ≤ 256) (sym L) S.few;
        coded = subst (Coded g) (sym L) (coded_by f g (λ c e. ap (λ (r : Row). r.code) (same c) ∙ e) cs S.coded);
        unlisted = λ c e. same c ∙ S.unlisted c (ap (among c) (sym L) ∙ e);
        board = A ∙ S.board ∙ sym (ap (λ (l : List Code). map g l ++ replicate (256 - length l) free_row) L ∙ ap (λ (l : List Row). l ++ replicate k free_row) (map-all f g same cs));
      }

  -- one that is taken changes its own stock's row
  module _ (T : taken ms m ≡ true) where
    is : (c : Code) → g c ≡ cond (same_code c x) (row_after (f c) m) (f c)
    is c = ap (λ (t : Bool). cond (t && same_code c x) (row_after (f c) m) (f c)) T

    own : g x ≡ row_after (f x) m
    own = is x ∙ ap (λ (t : Bool). cond t (row_after (f x) m) (f x)) (same_refl x)

    other : (c : Code) → same_code c x ≡ false → g c ≡ f c
    other c e = is c ∙ ap (λ (t : Bool). cond t (row_after (f c) m) (f c)) e

    code-kept : (c : Code) → (f c).code ≡ c → (g c).code ≡ c
    unfolding row_after
    code-kept c e = go (same_code c x) refl
      where
        go : (t : Bool) → same_code c x ≡ t → (g c).code ≡ c
        go true p = ap (λ (r : Row). r.code) (is c ∙ ap (λ (t : Bool). cond t (row_after (f c) m) (f c)) p) ∙ sym (same-eq c x p)
        go false p = ap (λ (r : Row). r.code) (other c p) ∙ e

    own_code : (g x).code ≡ x
    unfolding row_after
    own_code = ap (λ (r : Row). r.code) own

  -- ---- the cases
  module _ (no : counts m ≡ false) where
    no-list : listed (m ∷ ms) ≡ cs
    no-list = ap (λ (t : Bool). cond (t && (not (among x cs) && ltb (length cs) 256)) (cs ++ (x ∷ [])) cs) no

    no-taken : taken ms m ≡ false
    no-taken = ap (λ (t : Bool). t && among x (listed (m ∷ ms))) no

    no_change : (after (m ∷ ms) ≡ after ms) × (answer_to ms m ≡ answer_by ms m)
    unfolding counts change_of
    no_change = go (legal six_codec m) refl (last_of_day m) refl
      where
        go : (t : Bool) → legal six_codec m ≡ t → (u : Bool) → last_of_day m ≡ u → (after (m ∷ ms) ≡ after ms) × (answer_to ms m ≡ answer_by ms m)
        go false p u q = let s = stays (Err NotWritable) refl (change-illegal _ _ _ _ m long p) in (s.0, s.1 ∙ rw p)
        go true p true q = let s = stays (Ok None) refl (change-last _ _ _ _ m long p q) in (s.0, s.1 ∙ rw (p, q))
        go true p false q = absurd (no_false (sym no ∙ ap₂ (λ (t u : Bool). t && not u) p q))

  module _ (yes : counts m ≡ true) where
    right : legal six_codec m ≡ true
    unfolding counts
    right = and_left (legal six_codec m) (not (last_of_day m)) yes

    stock : last_of_day m ≡ false
    unfolding counts
    stock = flip (last_of_day m) (and_right (legal six_codec m) (not (last_of_day m)) yes)
      where
        flip : (t : Bool) → not t ≡ true → t ≡ false
        flip true e = absurd (no_false e)
        flip false e = refl

    unfree : same_code x free_code ≡ false
    unfree = stock-code m right

    list-is : listed (m ∷ ms) ≡ cond (not (among x cs) && ltb (length cs) 256) (cs ++ (x ∷ [])) cs
    list-is = ap (λ (t : Bool). cond (t && (not (among x cs) && ltb (length cs) 256)) (cs ++ (x ∷ [])) cs) yes

    taken_is : taken ms m ≡ among x (listed (m ∷ ms))
    taken_is = ap (λ (t : Bool). t && among x (listed (m ∷ ms))) yes

    answer-is : (t : Bool) → taken ms m ≡ t → cond t (Ok tt) (Err Full) ≡ answer_by ms m
    answer-is t e = sym (rw (right, stock, e))

    place_is : place_of x R ≡ cond (among x cs) (place_in x cs) (length cs + k)
    place_is = place-mapped x f cs k S.coded unfree

    -- its stock is listed already
    module _ (old : among x cs ≡ true) where
      old-list : listed (m ∷ ms) ≡ cs
      old-list = list-is ∙ ap (λ (t : Bool). cond (not t && ltb (length cs) 256) (cs ++ (x ∷ [])) cs) old

      old-taken : taken ms m ≡ true
      old-taken = taken_is ∙ ap (among x) old-list ∙ old

      own-place : place_of x R ≡ place_in x cs
      own-place = place_is ∙ ap (λ (t : Bool). cond t (place_in x cs) (length cs + k)) old

      old-change : (after (m ∷ ms) ≡ rows g cs k) × (answer_to ms m ≡ answer_by ms m)
      unfolding change_of
      old-change =
          let b = behind _ (change-own (length R) (place_of x R) (get_or R (place_of x R) free_row) (free_place R) m long right stock (omega (arith, own-place, place-below x cs old, S.few))) in
          let put : set R (place_of x R) (row_after (get_or R (place_of x R) free_row) m) ≡ rows g cs k =
          ap (λ (n : ℕ). set R n (row_after (get_or R n free_row) m)) own-place ∙ ap (λ (r : Row). set R (place_in x cs) (row_after r m)) (get-mapped x f cs (replicate k free_row) free_row old)
          ∙ set-mapped x f g (row_after (f x) m) cs (replicate k free_row) (own old-taken) (other old-taken) S.distinct old in
          (b.0 ∙ put, b.1 ∙ answer-is true old-taken)

      old-state : State (m ∷ ms)
      old-state = record {
        distinct = subst Distinct (sym old-list) S.distinct;
        stocks = subst Stocks (sym old-list) S.stocks;
        few = subst (λ (l : List Code). length l ≤ 256) (sym old-list) S.few;
        coded = subst (Coded g) (sym old-list) (coded_by f g (code-kept old-taken) cs S.coded);
        unlisted = λ c e. old-unlisted c (ap (among c) (sym old-list) ∙ e);
        board = old-change.0 ∙ sym (ap (λ (l : List Code). map g l ++ replicate (256 - length l) free_row) old-list);
      }
        where
          old-unlisted : (c : Code) → among c cs ≡ false → g c ≡ free_row
          old-unlisted c e = go (same_code c x) refl
            where
              go : (t : Bool) → same_code c x ≡ t → g c ≡ free_row
              go true p = absurd (no_false (sym e ∙ ap (λ (y : Code). among y cs) (same-eq c x p) ∙ old))
              go false p = other old-taken c p ∙ S.unlisted c e

    -- its stock is new
    module _ (new : among x cs ≡ false) where
      new-place : place_of x R ≡ 256
      new-place = place_is ∙ ap (λ (t : Bool). cond t (place_in x cs) (length cs + k)) new ∙ omega (arith, S.few)

      free-is : free_place R ≡ length cs
      free-is = free-mapped f cs k S.coded S.stocks

      -- and there is room
      module _ (room : length cs < 256) where
        new-list : listed (m ∷ ms) ≡ cs ++ (x ∷ [])
        new-list = list-is ∙ ap₂ (λ (t u : Bool). cond (not t && u) (cs ++ (x ∷ [])) cs) new (lt-ltb (length cs) 256 room)

        new-taken : taken ms m ≡ true
        new-taken = taken_is ∙ ap (among x) new-list ∙ among-end x cs

        from_nothing : g x ≡ row_after free_row m
        from_nothing = own new-taken ∙ ap (λ (r : Row). row_after r m) (S.unlisted x new)

        new-change : (after (m ∷ ms) ≡ rows g (cs ++ (x ∷ [])) (255 - length cs)) × (answer_to ms m ≡ answer_by ms m)
        unfolding change_of
        new-change =
            let b = behind _ (change-free (length R) (place_of x R) (get_or R (place_of x R) free_row) (free_place R) m long right stock (omega (arith, new-place)) (omega (arith, free-is))) in
            let one : k ≡ suc (255 - length cs) = omega arith in
            let put : set R (free_place R) (row_after free_row m) ≡ rows g (cs ++ (x ∷ [])) (255 - length cs) =
            ap₂ (λ (n j : ℕ). set (rows f cs j) n (row_after free_row m)) free-is one ∙ set_new x f g (row_after free_row m) cs (255 - length cs) from_nothing (other new-taken) new in
            (b.0 ∙ put, b.1 ∙ answer-is true new-taken)

        new-state : State (m ∷ ms)
        new-state = record {
          distinct = subst Distinct (sym new-list) (distinct-end x cs S.distinct new);
          stocks = subst Stocks (sym new-list) (stocks-end x cs S.stocks (same-sym x free_code false unfree));
          few = subst (λ (l : List Code). length l ≤ 256) (sym new-list) (omega (arith, length-end x cs));
          coded = subst (Coded g) (sym new-list) (coded-end g x cs (coded_by f g (code-kept new-taken) cs S.coded) (own_code new-taken));
          unlisted = λ c e. new-unlisted c (ap (among c) (sym new-list) ∙ e);
          board = new-change.0 ∙ ap (λ (n : ℕ). rows g (cs ++ (x ∷ [])) n) more ∙ sym (ap (λ (l : List Code). map g l ++ replicate (256 - length l) free_row) new-list);
        }
          where
            more : 255 - length cs ≡ 256 - length (cs ++ (x ∷ []))
            more = omega (arith, length-end x cs)

            split : (c : Code) (l : List Code) → among c (l ++ (x ∷ [])) ≡ false → (among c l ≡ false) × (same_code c x ≡ false)
            split c [] e = (refl, or_left (same_code c x) false e)
            split c (d ∷ l) e =
                let s = split c l (or_right (same_code c d) (among c (l ++ (x ∷ []))) e) in
                (ap₂ (λ (t u : Bool). t || u) (or_left (same_code c d) (among c (l ++ (x ∷ []))) e) s.0, s.1)

            new-unlisted : (c : Code) → among c (cs ++ (x ∷ [])) ≡ false → g c ≡ free_row
            new-unlisted c e = let s = split c cs e in other new-taken c s.1 ∙ S.unlisted c s.0

      -- and there is none
      module _ (full : 256 ≤ length cs) where
        full-list : listed (m ∷ ms) ≡ cs
        full-list = list-is ∙ ap₂ (λ (t u : Bool). cond (not t && u) (cs ++ (x ∷ [])) cs) new (le-ltb (length cs) 256 full)

        full-taken : taken ms m ≡ false
        full-taken = taken_is ∙ ap (among x) full-list ∙ new

        full-change : (after (m ∷ ms) ≡ after ms) × (answer_to ms m ≡ answer_by ms m)
        unfolding change_of
        full-change =
            let s = stays (Err Full) refl (change-full (length R) (place_of x R) (get_or R (place_of x R) free_row) (free_place R) m long right stock (omega (arith, new-place)) (omega (arith, free-is))) in
            (s.0, s.1 ∙ answer-is false full-taken)

  -- ---- one message more
  pub next : State (m ∷ ms) × (answer_to ms m ≡ answer_by ms m)
  next = go (counts m) refl (among x cs) refl (ltb (length cs) 256) refl
    where
      go : (t : Bool) → counts m ≡ t → (u : Bool) → among x cs ≡ u → (v : Bool) → ltb (length cs) 256 ≡ v → State (m ∷ ms) × (answer_to ms m ≡ answer_by ms m)
      go false p u q v r = let c = no_change p in (same-state (no-list p) (no-taken p) c.0, c.1)
      go true p true q v r = (old-state p q, (old-change p q).1)
      go true p false q true r = let h = ltb-true (length cs) 256 r in (new-state p q h, (new-change p q h).1)
      go true p false q false r =
          let h = ltb-false (length cs) 256 r in
          let c = full-change p q h in
          (same-state (full-list p q h) (full-taken p q h) c.0, c.1)

pub state : (ms : List Quote) → State ms
state [] = empty-state
state (m ∷ ms) = (next m ms (state ms)).0
