-- The registers so far are written.
use Rattle.std.proofs.Common.{◌≡◌, string_bytes}
use Rattle.std.specs.List.{flat_map, range_with_len}
use Rattle.diva_test_programs.specs.Texts.{register_text, value_in}
use Rattle.diva_test_programs.proofs.registers_text.Given as goal

abbrev pub invariant-loop-register : goal.invariant-loop-register
invariant-loop-register l =
    string_bytes l.text ≡ flat_map (λ register. register_text register (value_in l.set register)) (range_with_len 0 l.register)
