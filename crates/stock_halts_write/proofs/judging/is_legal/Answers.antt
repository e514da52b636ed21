-- `judging::is_legal` meets its contract.
use mathlib.Core.Path.{◌≡◌, sym, ap, ap₂, ◌∙◌}
use mathlib.Core.Bool.{Bool, true, cond, ◌&&◌}
use native.Mathlib.Omega.{arith}
use lib.ListN.{length}
use Rattle.codes_times.specs.Times.{every, code_right}
use Rattle.stock_halts.specs.Halts.{times_right, digit_byte, code_fits, halt_number, resume_number_of, ShapedHalt}
use Rattle.stock_halts.specs.declared.Halt.{Halt}
use Rattle.stock_halts.proofs.RuleLaws.{round-told}
use Rattle.stock_halts_write.proofs.WriteLaws.{illegal-seq, illegal-times, illegal-code, legal-rest}
use borrow.Author.Rules.{rules}
use Rattle.stock_halts_write.proofs.judging.is_legal.Goals as goal

shaped : (m : Halt) → length m.code ≡ 6 → ShapedHalt m
shaped m l = record { code-long = l }

pub returns-then-m-gt99999999 : goal.returns-then-m-gt99999999
returns-then-m-gt99999999 c =
    let m = c.args.m in
    let l : length m.code ≡ 6 = search rules in
    sym (illegal-seq m (shaped m l) (omega arith))

pub returns-then-not-times_right : goal.returns-then-not-times_right
returns-then-not-times_right c =
    let shape : ShapedHalt c.args.m = let l : length c.args.m.code ≡ 6 = search rules in shaped c.args.m l in
    let times : c.times_right.result ≡ times_right (halt_number c.args.m.event) (resume_number_of c.args.m.event) = c.times_right.ensures ∙ ap₂ times_right c.halt_time-h.ensures c.resume_time-r.ensures in
    sym (illegal-times c.args.m shape (omega arith) (sym times ∙ c.if-not-times_right.true))

pub returns-then-not-code_fits : goal.returns-then-not-code_fits
returns-then-not-code_fits c =
    let shape : ShapedHalt c.args.m = let l : length c.args.m.code ≡ 6 = search rules in shaped c.args.m l in
    let times : c.times_right.result ≡ times_right (halt_number c.args.m.event) (resume_number_of c.args.m.event) = c.times_right.ensures ∙ ap₂ times_right c.halt_time-h.ensures c.resume_time-r.ensures in
    let code-told : c.code_fits.result ≡ code_fits c.args.m.code (halt_number c.args.m.event) (resume_number_of c.args.m.event) = let code = c.args.m.code in let t : times_right c.halt_time-h.result c.resume_time-r.result ≡ true = sym c.times_right.ensures ∙ c.if-not-times_right.false in c.code_fits.ensures ∙ ap (λ (x : Bool). code_right code && cond x (every digit_byte code) true) (round-told c.halt_time-h.result c.resume_time-r.result t) ∙ ap₂ (code_fits code) c.halt_time-h.ensures c.resume_time-r.ensures in
    sym (illegal-code c.args.m shape (omega (arith, c.if-m-gt99999999.false)) (sym times ∙ c.if-not-times_right.false) (sym code-told ∙ c.if-not-code_fits.true))

pub returns : goal.returns
returns c =
    let shape : ShapedHalt c.args.m = let l : length c.args.m.code ≡ 6 = search rules in shaped c.args.m l in
    let times : c.times_right.result ≡ times_right (halt_number c.args.m.event) (resume_number_of c.args.m.event) = c.times_right.ensures ∙ ap₂ times_right c.halt_time-h.ensures c.resume_time-r.ensures in
    let code-told : c.code_fits.result ≡ code_fits c.args.m.code (halt_number c.args.m.event) (resume_number_of c.args.m.event) = let code = c.args.m.code in let t : times_right c.halt_time-h.result c.resume_time-r.result ≡ true = sym c.times_right.ensures ∙ c.if-not-times_right.false in c.code_fits.ensures ∙ ap (λ (x : Bool). code_right code && cond x (every digit_byte code) true) (round-told c.halt_time-h.result c.resume_time-r.result t) ∙ ap₂ (code_fits code) c.halt_time-h.ensures c.resume_time-r.ensures in
    c.tidy_event.ensures
    ∙ sym (legal-rest c.args.m shape (omega (arith, c.if-m-gt99999999.false)) (sym times ∙ c.if-not-times_right.false) (sym code-told ∙ c.if-not-code_fits.false))
