-- The lists that a core hands over that plays a tape.
use Rattle.std.proofs.Common.{◌≡◌, ◌≤◌, ℕ, suc, List, [], ◌∷◌, ◌++◌, length, take, drop, replicate, refl, ap, sym, ◌∙◌, arith, append_assoc, add-one, length-append, length-drop}
use Rattle.std.proofs.lemmas.List.{take-append-le, length-replicate, replicate_more}
use Rattle.std.proofs.lemmas.List.Elements.{All-drop}
use Rattle.std.proofs.lemmas.List.Sums.{sum_by-cons}
use Rattle.diva_isa.specs.declared.record.Record.{Record}
use Rattle.diva_core.specs.Cycle.{cycle_of}
use Rattle.diva_core.specs.History.{IsHistory, lists_of}
use Rattle.diva_core.specs.Timed.{Timed}
use Rattle.diva_tape.specs.TapeCalls.{next_list, later_lists, tape_call, played}
use Rattle.diva_tape.specs.TapeParts.{IsParted}

-- ---- one call

-- without the first list, those that are left are parted too
pub rest_parted : (count : ℕ) (counts : List ℕ) (claims : List Record) → IsParted (count ∷ counts) claims → IsParted counts (drop count claims)
rest_parted count counts claims is =
    record {
      most = All-drop (λ n. n ≤ 8) 1 (count ∷ counts) is.most;
      whole = (let w = is.whole in let s = sum_by-cons (λ n. n) count counts in let d = length-drop count claims in omega arith);
    }

-- ---- all calls

-- one list more behind those that are taken changes nothing
take-padded : (n : ℕ) (lists : List (List Record)) → take n (lists ++ replicate (suc n) []) ≡ take n (lists ++ replicate n [])
take-padded n lists =
    let enough : n ≤ length (lists ++ replicate n []) = (let a = length-append lists (replicate {A = List Record} n []) in let b = length-replicate {A = List Record} n [] in omega arith) in
    let pad : replicate {A = List Record} (suc n) [] ≡ replicate n [] ++ [] ∷ [] = ap (λ k. replicate k []) (sym (add-one n)) ∙ sym (replicate_more n []) in
    ap (λ ys. take n (lists ++ ys)) pad ∙ ap (take n) (sym (append_assoc lists (replicate n []) ([] ∷ []))) ∙ take-append-le n (lists ++ replicate n []) ([] ∷ []) enough

pub played-next : (n : ℕ) (lists : List (List Record)) → next_list lists ∷ played n (later_lists lists) ≡ played (suc n) lists
played-next n [] = refl
played-next n (list ∷ lists) = ap (λ later. list ∷ later) (sym (take-padded n lists))

pub log_played : (m last : Timed) (before after : List (List Record)) (history : List (List Record × List (List Record)))
    → IsHistory tape_call m before history last after
    → lists_of history ≡ played (length history) before
log_played m last before after [] h = refl
log_played m last before after (turn ∷ history) h =
    let more : lists_of history ≡ played (length history) turn.1 = log_played (cycle_of m turn.0) last turn.1 after history h.1.1 in
    ap (λ list. list ∷ lists_of history) h.1.0.next
    ∙ ap (λ lists. next_list before ∷ lists) (more ∙ ap (played (length history)) h.1.0.later)
    ∙ played-next (length history) before
