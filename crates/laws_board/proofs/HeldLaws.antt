-- A quote that was read off a line of bytes, and one that is told by bytes and numbers, is as memory holds it.
use Prim.Native.Nat.{ℕ, zero, suc, ◌-◌, ◌<◌}
use mathlib.Core.Path.{◌≡◌, refl, sym, ap, ◌∙◌, subst}
use mathlib.Core.List.{List, [], ◌∷◌}
use lib.ListN.{length, get_or, take, drop}
use lib.Seq.{get_or-take, get_or-drop}
use lib.Dec.{lit<}
use Rattle.layout.specs.Cells.{decode}
use Rattle.codes_times.proofs.RuleLaws.{length-code}
use Rattle.stock_frame.specs.Outline.{length_of, own, body}
use Rattle.stock_frame.proofs.CodecLaws.{Reads, shaped-read}
use Rattle.stock_quotes.specs.Reveal.{revealed, pair_count}
use Rattle.stock_quotes.specs.Quotes.{six_cells, reveal_place, six_codec, ShapedQuote}
use Rattle.stock_quotes.specs.declared.Quote.{Quote}
use Rattle.stock_quotes.proofs.QuoteLaws.{quotes-lawful}
use Rattle.stock_quotes_numbers.specs.Numbers.{quote_from}
use Rattle.laws_board.specs.Kept.{Held, Bytes}

-- ---- parts of a line of bytes are such lines
pub bytes_drop : (n : ℕ) (l : List ℕ) → Bytes l → Bytes (drop n l)
bytes_drop zero l h i = h i
bytes_drop (suc n) [] h i = h i
bytes_drop (suc n) (x ∷ l) h i = bytes_drop n l (λ k. h (suc k)) i

bytes_take : (n : ℕ) (l : List ℕ) → Bytes l → Bytes (take n l)
bytes_take zero l h i = lit< tt
bytes_take (suc n) [] h i = h i
bytes_take (suc n) (x ∷ l) h zero = h 0
bytes_take (suc n) (x ∷ l) h (suc i) = bytes_take n l (λ k. h (suc k)) i

-- ---- limit and status are bytes of the body
limit-read : (n : ℕ) (b : List ℕ) → get_or (decode (six_cells n) b) 8 0 ≡ get_or b 13 0
limit-read n b = let h : 0 < 1 = lit< tt in simp (get_or-take, get_or-drop)

status-read : (n : ℕ) (b : List ℕ) → get_or (decode (six_cells n) b) 9 0 ≡ get_or b 14 0
status-read n b = let h : 0 < 1 = lit< tt in simp (get_or-take, get_or-drop)

pub read_held : (t : List ℕ) → Bytes t → (m : Quote) → Reads six_codec t m → Held m
read_held t h m rd = record {
  shaped = shaped-read six_codec ShapedQuote quotes-lawful t m rd;
  limit-byte = subst (λ (x : ℕ). x < 256) (sym (ap (λ (q : Quote). q.limit) rd.meant ∙ limit-read pairs b)) (bytes-body 13);
  status-byte = subst (λ (x : ℕ). x < 256) (sym (ap (λ (q : Quote). q.status) rd.meant ∙ status-read pairs b)) (bytes-body 14);
}
  where
    b : List ℕ
    b = body (own t)

    pairs : ℕ
    pairs = pair_count (revealed (get_or b reveal_place 0))

    bytes-body : Bytes b
    bytes-body = bytes_take (length (own t) - 13) (drop 10 (own t)) (bytes_drop 10 (own t) (bytes_take (length_of t) t h))

-- ---- so is the quote of lent bytes and numbers, of which the calls for C and Rust speak
pub numbers-held : (seq : ℕ) (bytes : List ℕ) → Bytes bytes → (time : ℕ) (amounts : List ℕ) → Held (quote_from seq bytes time amounts)
numbers-held seq bytes h time amounts = record {
  shaped = record { code-long = length-code bytes 0; bids-long = refl; asks-long = refl };
  limit-byte = h 7;
  status-byte = h 8;
}
