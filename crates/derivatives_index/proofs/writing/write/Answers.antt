-- `writing::write` meets its contract: a law for each answer.
use Prim.Native.Nat.{ℕ, ◌+◌}
use mathlib.Core.Path.{◌≡◌, refl, sym, ap₂, ◌∙◌}
use mathlib.Core.Bool.{true}
use native.Mathlib.Omega.{arith}
use lib.ListN.{length}
use borrow.Author.Rules.{rules}
use Rattle.frame.specs.Header.{around}
use Rattle.frame.specs.Codec.{legal, frame_of}
use Rattle.frame.proofs.WriteLaws.{write-illegal}
use Rattle.layout.specs.Cells.{size}
use Rattle.derivatives_frame.specs.Outline.{header}
use Rattle.derivatives_frame.specs.Closing.{close_answer, closed_over}
use Rattle.derivatives_index.specs.Index.{version_of, index_cells, room, index_codec, ShapedIndex}
use Rattle.derivatives_index.proofs.IndexLaws.{size-index, index-lawful}
use Rattle.derivatives_index.proofs.MessageLaws.{message-short, message-closed}
use Rattle.derivatives_index.proofs.WriteSteps.{keeps-room}
use Rattle.derivatives_index.proofs.writing.write.Goals as goal

whole : (n : ℕ) → 26 + n ≡ around header + size (index_cells n)
whole n = omega (arith, size-index n)

pub returns-then-not-is_legal : goal.returns-then-not-is_legal
returns-then-not-is_legal c =
    let a = c.args in
    write-illegal (legal index_codec a.m) (frame_of index_codec a.m) a.buf.now (sym c.is_legal.ensures ∙ c.if-not-is_legal.true)

pub overflow_add-n : goal.overflow_add-n
overflow_add-n c =
    let legal-at : legal index_codec c.args.m ≡ true = sym c.is_legal.ensures ∙ c.if-not-is_legal.false in
    record { fits = omega (arith, keeps-room c.args.m legal-at) }

pub returns-then-buf-n : goal.returns-then-buf-n
returns-then-buf-n c =
    let shaped : ShapedIndex c.args.m = let n : length c.args.m.contract ≡ room = search rules in record { contract-long = n } in
    let legal-at : legal index_codec c.args.m ≡ true = sym c.is_legal.ensures ∙ c.if-not-is_legal.false in
    let a = c.args in
    message-short index_codec ShapedIndex index-lawful a.m shaped legal-at a.buf.now (omega (arith, c.if-buf-n.true, whole a.m.length))

pub put_body-requires : goal.put_body-requires
put_body-requires c =
    let legal-at : legal index_codec c.args.m ≡ true = sym c.is_legal.ensures ∙ c.if-not-is_legal.false in
    (search rules, legal-at)

pub returns : goal.returns
returns c =
    let shaped : ShapedIndex c.args.m = let n : length c.args.m.contract ≡ room = search rules in record { contract-long = n } in
    let legal-at : legal index_codec c.args.m ≡ true = sym c.is_legal.ensures ∙ c.if-not-is_legal.false in
    let a = c.args in
    let m = a.m in
    let t = c.put_body.new.buf in
    message-closed index_codec ShapedIndex index-lawful m shaped legal-at m.market m.kind m.sent m.seq (version_of m.kind) refl refl
    a.buf.now t c.close.new.buf c.close.result (omega (arith, c.if-buf-n.false, whole m.length)) c.put_body.ensures
    (c.close.ensures.0 ∙ ap₂ (λ (v n : ℕ). close_answer m.sent m.seq v n t) c.version_of-version.ensures (whole m.length))
    (c.close.ensures.1 ∙ ap₂ (λ (v n : ℕ). closed_over m.market m.kind m.sent m.seq v n t) c.version_of-version.ensures (whole m.length))
