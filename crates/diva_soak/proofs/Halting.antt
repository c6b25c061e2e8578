-- The state that the image of a seed starts halts.
use Rattle.std.proofs.Common.{◌≡◌, ◌≢◌, ◌≤◌, ◌<◌, ◌⊎◌, inl, inr, ℕ, zero, suc, ◌+◌, ◌-◌, ◌*◌, ◌%◌, ◌^◌, ◌==◌, List, [], ◌∷◌, ◌++◌, length, replicate, slice_get, true, false, Some, refl, ap, sym, ◌∙◌, subst, arith, length-append}
use Rattle.std.specs.Prelude.{pos}
use Rattle.std.proofs.lemmas.Grind.{common_steps}
use Rattle.std.proofs.lemmas.Bool.{cases_lt}
use Rattle.std.proofs.lemmas.Bool.Decides.{nat_tests}
use Rattle.std.proofs.lemmas.List.{append-nil}
use Rattle.diva_decode.specs.declared.op.Op.TheVariants.{Addi, Ecall}
use Rattle.diva_decode.specs.declared.instr.Instr.{Instr}
use Rattle.diva_decode.specs.Table.{row_of, encoding_of}
use Rattle.diva_isa.specs.State.{State, goes_on, reg_of, word_of}
use Rattle.diva_isa.specs.Step.{apply, call, record_by, step, steps}
use Rattle.diva_isa.specs.declared.effect.Effect.TheVariants.{Writes}
use Rattle.diva_isa.specs.declared.record.Record.{Record}
use Rattle.diva_core.proofs.Bypassing.{with_reg_reads}
use Rattle.diva_core.proofs.Steps.{step-on, steps-shift}
use Rattle.diva_image.specs.Layout.{most_size}
use Rattle.diva_hart.specs.Start.{start_of}
use Rattle.diva_soak.specs.Halts.{HaltsWithin}
use Rattle.diva_soak.specs.Soak.{words_as_bytes, drawn, last_words, of_immediate, of_sources, payload_of, soak_of, soak_size, words_after}
use Rattle.diva_soak.proofs.EachKind.{has_word}
use Rattle.diva_soak.proofs.Passing.{IsNext, passes, passes_addi}
use Rattle.diva_soak.proofs.Placed.{AreWords, code_below, code_of, drawn_at, last_at, length_words, word_placed}
use Rattle.diva_soak.proofs.Standing.{Stands, moved, record_is, steps_to}

-- ---- one instruction more

halts_at : (s : State) → goes_on s ≡ true → (step s).end ≡ 256 → HaltsWithin 1 s
halts_at s on e =
    record {
      after = 1;
      few = omega arith;
      ends = record { ended = grind (arith, nat_tests); before = λ k lt. let none : k ≡ 0 = omega arith in rw none on };
      status = e;
    }

before_more : (k after : ℕ) (s : State) → goes_on s ≡ true → k < suc after → ((j : ℕ) → j < after → goes_on (steps j (step s)) ≡ true) → goes_on (steps k s) ≡ true
before_more zero after s on lt rest = on
before_more (suc k) after s on lt rest = ap goes_on (sym (steps-shift k s)) ∙ rest k (omega arith)

halts_more : (most : ℕ) (s : State) → goes_on s ≡ true → HaltsWithin most (step s) → HaltsWithin (suc most) s
halts_more most s on h =
    record {
      after = suc h.after;
      few = (let f = h.few in omega arith);
      ends = record { ended = ap goes_on (sym (steps-shift h.after s)) ∙ h.ends.ended; before = λ k lt. before_more k h.after s on lt h.ends.before };
      status = ap (λ (t : State). t.end) (sym (steps-shift h.after s)) ∙ h.status;
    }

halts_later : (few most : ℕ) (s : State) → few ≤ most → HaltsWithin few s → HaltsWithin most s
halts_later few most s le h = record { after = h.after; few = (let f = h.few in omega arith); ends = h.ends; status = h.status }

-- ---- the last two words

row_nothing : row_of 0x00000013 ≡ Some (of_immediate Addi 0 0 (pos 0))
unfolding row_of
row_nothing = refl

row_service : row_of 0x05d00893 ≡ Some (of_immediate Addi 17 0 (pos 93))
unfolding row_of
row_service = refl

row_call : row_of 0x00000073 ≡ Some (of_sources Ecall 0 0 (pos 0))
unfolding row_of
row_call = refl

on_true : (s : State) → s.end ≡ 0 → goes_on s ≡ true
on_true s on = grind (arith, nat_tests)

ended_by : (s : State) (r : Record) → goes_on s ≡ true → r.end ≡ 256 → (apply s r).end ≡ 256
unfolding apply
ended_by s r on e =
    let test : (r.end == 0) ≡ false = grind (arith, nat_tests) in
    rw (on, test) e

call_halts : (s : State) (pc a b : ℕ) → a ≡ 93 → b ≡ 0 → (call s pc a b).end ≡ 256
call_halts s pc a b p q = rw (p, q) refl

-- the last word, with 93 in x17
call_ends : (code : List ℕ) (s : State) (at : ℕ) → IsNext code s at 0x00000073 (of_sources Ecall 0 0 (pos 0)) → reg_of s 17 ≡ 93 → HaltsWithin 1 s
call_ends code s at n service =
    let i : Instr = of_sources Ecall 0 0 (pos 0) in
    let on : goes_on s ≡ true = on_true s n.stands.on in
    let is : step s ≡ apply s (record_by s true 0x00000073 (Some i)) = step-on s ∙ ap (apply s) (record_is s 0x00000073 i n.there n.says) in
    halts_at s on (ap (λ (t : State). t.end) is ∙ ended_by s (record_by s true 0x00000073 (Some i)) on (call_halts s s.pc (reg_of s 17) (reg_of s 10) service n.stands.status))

sum_is : (z : ℕ) → z ≡ 0 → (z + 93) % 2 ^ 32 ≡ 93
sum_is z h = omega arith

service_read : (s : State) (value next : ℕ) → length s.regs ≡ 32 → reg_of (moved s (Writes 17 value) next) 17 ≡ value
service_read s value next h = grind (arith, common_steps, nat_tests, with_reg_reads s.regs 17 value 17 (omega arith))

service_is : (code : List ℕ) (s : State) (at : ℕ) → IsNext code s at 0x05d00893 (of_immediate Addi 17 0 (pos 93)) → reg_of (step s) 17 ≡ 93
service_is code s at n =
    let i : Instr = of_immediate Addi 17 0 (pos 93) in
    let r : Record = record_by s true 0x05d00893 (Some i) in
    ap (λ (t : State). reg_of t 17) (steps_to s 0x05d00893 i n.stands.on n.there n.says refl)
    ∙ service_read s r.value r.next n.stands.regs ∙ sum_is (reg_of s 0) n.stands.none

not_status : (r : ℕ) → r < 10 ⊎ 10 < r → r ≢ 10
not_status r (inl low) = omega arith
not_status r (inr high) = omega arith

-- ---- the code of a seed

module _ (seed n : ℕ) (small : soak_size n ≤ most_size) where
  abbrev code : List ℕ
  code = code_of seed n

  next_last : (s : State) (k w : ℕ) (i : Instr) → Stands code s (n + k) → k ≤ 2 → slice_get last_words k ≡ Some w → row_of w ≡ Some i → IsNext code s (n + k) w i
  next_last s k w i st low at row =
      record { stands = st; there = ap (word_of s) st.pc ∙ st.coded (n + k) w (last_at n seed k ∙ at); says = row; small = omega arith }

  last_two : (s : State) → Stands code s (n + 1) → HaltsWithin 2 s
  last_two s st =
      let first = next_last s 1 0x05d00893 (of_immediate Addi 17 0 (pos 93)) st (omega arith) refl row_service in
      let there : n + 1 + 1 ≡ n + 2 = omega arith in
      let behind : Stands code (step s) (n + 2) = subst (Stands code (step s)) there (passes_addi 17 0 93 (not_status 17 (inr (omega arith))) code s (n + 1) 0x05d00893 first) in
      let last = next_last (step s) 2 0x00000073 (of_sources Ecall 0 0 (pos 0)) behind (omega arith) refl row_call in
      halts_more 1 s (on_true s st.on) (call_ends code (step s) (n + 2) last (service_is code s (n + 1) first))

  last_three : (s : State) → Stands code s n → Stands code (step s) (n + 1)
  last_three s st =
      let here : n ≡ n + 0 = omega arith in
      passes_addi 0 0 0 (not_status 0 (inl (omega arith))) code s n 0x00000013
      (record { stands = st; there = ap (word_of s) st.pc ∙ st.coded n 0x00000013 (ap (slice_get code) here ∙ last_at n seed 0); says = row_nothing; small = omega arith })

  -- from a word of the code on, `left` words before the last two
  halts_from : (left : ℕ) (s : State) (at : ℕ) → Stands code s at → at ≤ n + 1 → n + 1 ≤ at + left → HaltsWithin (left + 2) s
  halts_from zero s at st low high =
      let here : at ≡ n + 1 = omega arith in last_two s (subst (Stands code s) here st)
  halts_from (suc left) s at st low high =
      elim (cases_lt at n) [
        | inl lt ↦
            let d = drawn_at n seed at lt in
            let word = has_word d.x in
            let next : IsNext code s at (encoding_of (drawn d.x)) (drawn d.x) = record { stands = st; there = ap (word_of s) st.pc ∙ st.coded at _ d.is; says = word.says; small = omega arith } in
            let more : HaltsWithin (left + 2) (step s) = elim (passes d.x code s at _ next) [
              | inl one ↦ halts_from left (step s) (at + 1) one (omega arith) (omega arith)
              | inr two ↦ halts_from left (step s) (at + 2) two (omega arith) (omega arith)
            ] in
            halts_later (suc (left + 2)) (suc left + 2) s (omega arith) (halts_more (left + 2) s (on_true s st.on) more)
        | inr ge ↦ elim (cases_lt n at) [
          | inl lt ↦ let here : at ≡ n + 1 = omega arith in halts_later 2 (suc left + 2) s (omega arith) (last_two s (subst (Stands code s) here st))
          | inr le ↦
              let here : at ≡ n = omega arith in
              halts_later 3 (suc left + 2) s (omega arith) (halts_more 2 s (on_true s st.on) (last_two (step s) (last_three s (subst (Stands code s) here st))))
        ]
      ]

-- ---- where it starts

length_zeros : (k : ℕ) → length (replicate {A = ℕ} k 0) ≡ k
length_zeros k = grind (arith, common_steps)

length_bytes : (words : List ℕ) → length (words_as_bytes words) ≡ 4 * length words
length_bytes [] = refl
length_bytes (w ∷ words) = let rest = length_bytes words in omega arith

length_code : (seed n : ℕ) → length (code_of seed n) ≡ n + 3
length_code seed n = length-append (words_after n seed) last_words ∙ ap (λ (k : ℕ). k + 3) (length_words n seed)

-- the state before the first instruction
abbrev begins : List ℕ → State
begins bytes = record { regs = replicate 32 0; pc = 2048; base = 0; bytes = bytes; output = []; instret = 0; end = 0 }

stands_first : (code zeros bytes : List ℕ) → AreWords code → length zeros ≡ 2048 → bytes ≡ zeros ++ words_as_bytes code → Stands code (begins bytes) 0
stands_first code zeros bytes are long is =
    record {
      on = refl;
      pc = refl;
      base = refl;
      long = (let l = ap length is in let m = length-append zeros (words_as_bytes code) in omega arith);
      coded = λ k w at.
          let place : 2048 + 4 * k ≡ length zeros + 4 * k = omega arith in
          let aligned : length zeros % 4 ≡ 0 = omega arith in
          ap (λ (items : List ℕ). word_of (begins items) (2048 + 4 * k)) is
          ∙ ap (word_of (begins (zeros ++ words_as_bytes code))) place
          ∙ word_placed code zeros k w are at aligned;
      regs = refl;
      none = refl;
      status = refl;
    }

payload_is : (seed n : ℕ) → payload_of seed n ≡ replicate 2048 0 ++ words_as_bytes (code_of seed n)
unfolding payload_of
payload_is seed n = refl

length_payload : (seed n : ℕ) → length (payload_of seed n) ≡ soak_size n
length_payload seed n =
    ap length (payload_is seed n)
    ∙ length-append (replicate 2048 0) (words_as_bytes (code_of seed n))
    ∙ (let z = length_zeros 2048 in let b = length_bytes (code_of seed n) in let c = length_code seed n in omega arith)

-- the payload fills memory
memory_is : (seed n : ℕ) → (start_of (soak_of seed n)).bytes ≡ payload_of seed n
memory_is seed n =
    let none : soak_size n - length (payload_of seed n) ≡ 0 = omega (arith, length_payload seed n) in
    ap (λ (k : ℕ). payload_of seed n ++ replicate k 0) none ∙ append-nil (payload_of seed n)

pub soak_halts : (seed n : ℕ) → soak_size n ≤ most_size → HaltsWithin (n + 3) (start_of (soak_of seed n))
soak_halts seed n small =
    let stands : Stands (code_of seed n) (begins (payload_of seed n)) 0 =
    stands_first (code_of seed n) (replicate 2048 0) (payload_of seed n) (code_below n seed) (length_zeros 2048) (payload_is seed n) in
    subst (λ (bytes : List ℕ). HaltsWithin (n + 3) (begins bytes)) (sym (memory_is seed n))
    (halts_later (suc n + 2) (n + 3) (begins (payload_of seed n)) (omega arith) (halts_from seed n small (suc n) (begins (payload_of seed n)) 0 stands (omega arith) (omega arith)))
