-- What was loaded, as the machine, the core and the script that a command needs.
use Rattle.std.proofs.Common.{◌≡◌, ℕ, List, [], ◌∷◌, ◌++◌, Option, Some, None, sym, ap, subst, ◌∙◌}
use Rattle.diva_outside.specs.Files.{Contents}
use Rattle.diva_outside.specs.declared.files.What.TheVariants.{Image, Script, Tape as TapeFile, Commands}
use Rattle.diva_image.specs.ImageLayout.{layout}
use Rattle.diva_image.specs.Layout.{Layout}
use Rattle.diva_image.specs.Programs.{image_in}
use Rattle.diva_core.specs.Timed.{new_timed}
use Rattle.diva_hart.specs.Start.{start_of}
use Rattle.diva_args.specs.Options.{DebugOptions, Setup}
use Rattle.diva_cli.specs.declared.loading.Loaded.{Loaded}
use Rattle.diva_cli.specs.declared.loading.Ready.{Ready}
use Rattle.diva_cli.specs.declared.loading.SessionReady.{SessionReady}
use Rattle.diva_process.specs.Stops.{AreSound}
use Rattle.diva_process.specs.Programs.{FileBytes}
use Rattle.diva_cli.specs.Wanted.{file, file_if, file_rules, file_with, machine_files, tape_name}
use Rattle.diva_cli.specs.Parts.{AreCommands, Holds, HoldsRows, HoldsCore, HoldsSession}
use Rattle.diva_cli.specs.Ready.{HoldsLoaded, HoldsReady, IsCore}
use Rattle.diva_cli.specs.Sessions.{AreRows}
use Rattle.diva_cli.proofs.Stopping.{sound_both, sound_if}

-- the bytes of an image, a script and a tape
abbrev all : List ℕ → List ℕ → List ℕ → FileBytes
all image script tape Image = image
all image script tape Script = script
all image script tape TapeFile = tape
all image script tape _ = []

pub loaded_held : (contents : Contents) (setup : Setup) (loaded : Loaded)
    → Holds contents (file_with setup.room Image setup.image) (λ bytes. image_in setup.room bytes ≡ layout loaded.image)
    → HoldsRows contents setup.script loaded.script
    → HoldsCore contents setup.core loaded.core
    → HoldsLoaded contents setup loaded
loaded_held contents setup loaded image script core =
    record {
      bytes = all image.bytes script.bytes core.bytes;
      sound = (
        image.sound,
        sound_both contents (file_if Script setup.script) (file_if TapeFile (tape_name setup.core)) (all image.bytes script.bytes core.bytes)
            (sound_if contents Script setup.script (all image.bytes script.bytes core.bytes) script.sound)
            (sound_if contents TapeFile (tape_name setup.core) (all image.bytes script.bytes core.bytes) core.sound),
      );
      is = record { image = sym image.holds; rows = script.holds; core = core.holds };
    }

pub ready_held : (contents : Contents) (setup : Setup) (loaded : Loaded) (ready : Ready)
    → HoldsLoaded contents setup loaded
    → ready.machine.timed ≡ new_timed setup.config (start_of (layout loaded.image))
    → ready.script ≡ loaded.script
    → ready.core ≡ loaded.core
    → HoldsReady contents setup ready
ready_held contents setup loaded ready h begun script core =
    record {
      bytes = h.bytes;
      sound = h.sound;
      is = record {
        begun = begun ∙ ap (λ (l : Layout). new_timed setup.config (start_of l)) h.is.image;
        rows = subst (AreRows setup.script (h.bytes Script)) (sym script) h.is.rows;
        core = subst (IsCore setup.core (h.bytes TapeFile)) (sym core) h.is.core;
      };
    }

-- ---- a session

-- the same, and the bytes of commands
abbrev with_commands : FileBytes → List ℕ → FileBytes
with_commands bytes commands Commands = commands
with_commands bytes commands what = bytes what

machine_sound : (contents : Contents) (setup : Setup) (bytes : FileBytes) (commands : List ℕ) → AreSound file_rules contents (machine_files setup) bytes
    → AreSound file_rules contents (machine_files setup) (with_commands bytes commands)
machine_sound contents setup bytes commands s = (s.0, go setup.script (tape_name setup.core) s.1)
  where
    go : (script tape : Option (List ℕ)) → AreSound file_rules contents (file_if Script script ++ file_if TapeFile tape) bytes
        → AreSound file_rules contents (file_if Script script ++ file_if TapeFile tape) (with_commands bytes commands)
    go None None s = tt
    go None (Some t) s = (s.0, tt)
    go (Some x) None s = (s.0, tt)
    go (Some x) (Some t) s = (s.0, (s.1.0, tt))

pub session_held : (contents : Contents) (options : DebugOptions) (session : SessionReady)
    → HoldsReady contents options.setup session.ready
    → Holds contents (file Commands options.commands) (λ bytes. AreCommands bytes session.commands.items)
    → HoldsSession contents options session
session_held contents options session h k =
    record {
      bytes = with_commands h.bytes k.bytes;
      sound = sound_both contents (machine_files options.setup) (file Commands options.commands ∷ []) (with_commands h.bytes k.bytes) (machine_sound contents options.setup h.bytes k.bytes h.sound) (k.sound, tt);
      is = record { ready = record { begun = h.is.begun; rows = h.is.rows; core = h.is.core }; read = k.holds.read };
    }
