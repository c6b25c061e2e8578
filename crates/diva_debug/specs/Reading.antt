-- The commands of a text, or its first fault. A line's words are read from the left, each by a rule that gives what the first
-- word says, or the kind of its fault.
-- Cited by `commands`.
use Rattle.std.specs.Prelude.{ℕ, ◌-◌, ◌^◌, min, List, codes, Option, None, Result, Ok, Err, if◌then◌else◌}
use Rattle.std.specs.Str.{bytes_eq}
use Rattle.diva_outside.specs.Items.{items_of}
use Rattle.diva_outside.specs.Lines.{LineFault}
use Rattle.diva_outside.specs.NextWords.{and_no_more, hex_in, number_in, with_first}
use Rattle.diva_outside.specs.Steps.{and_then}
use Rattle.diva_outside.specs.Text.{Text}
use Rattle.diva_debug.specs.declared.command.Command.{Command}
use Rattle.diva_debug.specs.declared.command.Command.TheVariants.{Step, Until, Back, Reg, Mem, Why}
use Rattle.diva_debug.specs.declared.fault.Kind.{Kind}
use Rattle.diva_debug.specs.declared.fault.Kind.TheVariants.{Unknown}
use Rattle.diva_debug.specs.Kinds.{kind_of, command_kind_number}

-- ---- one command

-- after step or back: K
unfoldable pub count_in : List Text → Result ℕ Kind
count_in words =
    with_first (number_in kind_of 1 1000000) words (λ k words.
    and_no_more kind_of k words)

-- after until: PC
unfoldable pub until_in : List Text → Result Command Kind
until_in words =
    with_first (hex_in kind_of) words (λ pc words.
    and_no_more kind_of (Until pc) words)

-- after reg: N
unfoldable pub reg_in : List Text → Result Command Kind
reg_in words =
    with_first (number_in kind_of 0 31) words (λ n words.
    and_no_more kind_of (Reg n) words)

-- 32 bytes at most, and none past 2^32
abbrev pub most_bytes : ℕ → ℕ
most_bytes addr = min 32 (2 ^ 32 - addr)

-- after mem: ADDR LEN
unfoldable pub mem_in : List Text → Result Command Kind
mem_in words =
    with_first (hex_in kind_of) words (λ addr words.
    with_first (number_in kind_of 1 (most_bytes addr)) words (λ len words.
    and_no_more kind_of (Mem (record { addr = addr; len = len })) words))

-- a command by its first word, and the others
unfoldable pub command_in : Text → List Text → Result Command Kind
command_in word words =
    if bytes_eq word (codes "step") then and_then (count_in words) (λ k. Ok (Step k))
    else (if bytes_eq word (codes "until") then until_in words
    else (if bytes_eq word (codes "back") then and_then (count_in words) (λ k. Ok (Back k))
    else (if bytes_eq word (codes "reg") then reg_in words
    else (if bytes_eq word (codes "mem") then mem_in words
    else (if bytes_eq word (codes "why") then and_no_more kind_of Why words
    else Err Unknown)))))

-- ---- all commands

-- there may be any number
abbrev pub surplus_command : ℕ → Option Kind
surplus_command count = None

-- the commands of a text in their order, or its first fault
unfoldable pub commands_of : Text → Result (List Command) LineFault
commands_of text = items_of command_kind_number command_in surplus_command text
