-- The text that the command `debug` writes: the replies to commands.
-- Cited in `Texts.antt`, for `top`.
use Rattle.std.specs.Prelude.{◌≡◌, List, [], ◌++◌, length, Result, Ok, IfOk, IfErr}
use Rattle.diva_outside.specs.Text.{Text}
use Rattle.diva_outside.specs.declared.files.What.TheVariants.{Commands}
use Rattle.diva_core.specs.Timed.{Timed, new_timed}
use Rattle.diva_core.specs.History.{Meaning}
use Rattle.diva_args.specs.Options.{DebugOptions}
use Rattle.diva_debug.specs.Reading.{commands_of}
use Rattle.diva_debug.specs.declared.command.Command.{Command}
use Rattle.diva_cli.specs.Changes.{Change}
use Rattle.diva_process.specs.declared.status.Status.{Status}
use Rattle.diva_process.specs.declared.status.Status.TheVariants.{Halted}
use Rattle.diva_process.specs.Programs.{FileBytes}
use Rattle.diva_cli.specs.Sessions.{IsSessionOfFiles, start_in}
use Rattle.diva_cli.specs.Cuts.{BeforeLast}
use Rattle.diva_cli.specs.Replies.{AreLed, at_start, cycles_of, newest_after, replies_of}

-- the text of `debug` over files with these bytes, and how the writing of it ended. Each reply is told from the table's state at
-- its place, but for the newest flush; that is the machine's, which is driven as in any run, with undos between what is handed over
pub record HasReplies {C : Type 0} (gives : Meaning C) (options : DebugOptions) (bytes : FileBytes) (core : Change C)
    (ended : Result Status Text) (text : Text) : Type 0 where
  pub done : List Command
  pub left : List Command
  pub read : commands_of (bytes Commands) ≡ Ok (done ++ left)
  pub whole : IfOk ended (λ s. (s ≡ Halted) × (left ≡ []))
  pub last : Timed
  pub of_files : IsSessionOfFiles gives options.setup (cycles_of (length done) options.setup.config.limit) bytes core last
  -- a part for each command
  pub led : AreLed (start_in options.setup bytes) done at_start (new_timed options.setup.config (start_in options.setup bytes))
      of_files.holds.driven.parts
  pub lines : text ≡ replies_of (start_in options.setup bytes) done at_start
      (newest_after (new_timed options.setup.config (start_in options.setup bytes)) of_files.holds.driven.parts)
  -- where the sink failed, it did so at the last of these replies; those before it had been put
  pub cut : IfErr ended (λ put. BeforeLast done (λ earlier. put ≡ replies_of (start_in options.setup bytes) earlier at_start
      (newest_after (new_timed options.setup.config (start_in options.setup bytes)) of_files.holds.driven.parts)))
