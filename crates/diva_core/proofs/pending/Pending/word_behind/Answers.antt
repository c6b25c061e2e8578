-- The claims are walked over the bytes of the word, and a word that is not there is not there after them.
use Rattle.std.proofs.Common.{◌≡◌, ◌+◌, ℕ, Some, None, map, sym, ap, ◌∙◌, arith, rules}
use Rattle.diva_memory.specs.Bytes.{Bytes, byte_at, word_at}
use Rattle.diva_storeq.specs.Stores.{laid}
use Rattle.diva_isa.specs.State.{byte_of}
use Rattle.diva_isa.specs.Step.{effect_of}
use Rattle.diva_core.specs.Older.{older, with_claims}
use Rattle.diva_core.proofs.Laying.{effects_word_none}
use Rattle.diva_core.proofs.pending.Pending.word_behind.Goals as goal

pub returns-in_err-word : goal.returns-in_err-word
returns-in_err-word c = λ s reads.
    let a = c.args.addr in
    let outside : word_at (laid c.args.memory.now c.args.queue.now.items) a ≡ None = search rules in
    rw c.from_residual.ensures
    (sym (effects_word_none s (map effect_of (older c.args.self.now.items c.args.count)) a (ap (λ (m : Bytes). word_at m a) reads ∙ outside)))

pub returns : goal.returns
returns c = λ s reads.
    let a = c.args.addr in
    let m = laid c.args.memory.now c.args.queue.now.items in
    let t = with_claims s (older c.args.self.now.items c.in-Some.from) in
    let here : a + 0 ≡ a = omega arith in
    let kept = c.in-Some.ensures.some.1 s in
    let at : (b : ℕ) → byte_of s b ≡ byte_at m b = λ b. ap (λ (n : Bytes). byte_at n b) reads in
    let byte0 : byte_at m a ≡ Some c.in_ok-byte.field-0 = search rules in
    let byte1 : byte_at m (a + 1) ≡ Some c.in_ok-byte-2.field-0 = search rules in
    let byte2 : byte_at m (a + 2) ≡ Some c.in_ok-byte-3.field-0 = search rules in
    let byte3 : byte_at m (a + 3) ≡ Some c.in_ok-byte-4.field-0 = search rules in
    sym (c.word_after.ensures s (record {
      byte0 = ap (byte_of t) (sym here) ∙ kept 0 (omega arith) ∙ ap (byte_of s) here ∙ at a ∙ byte0;
      byte1 = kept 1 (omega arith) ∙ at (a + 1) ∙ byte1;
      byte2 = kept 2 (omega arith) ∙ at (a + 2) ∙ byte2;
      byte3 = kept 3 (omega arith) ∙ at (a + 3) ∙ byte3;
    }))
