-- What is written of an image in version 2.
use Rattle.std.proofs.Common.{◌≡◌, ℕ, List, Result, IfOk, refl, ap, sym, subst, ◌∙◌}
use Rattle.diva_outside.specs.Text.{Text}
use Rattle.diva_outside.specs.declared.files.What.TheVariants.{Image as ImageFile}
use Rattle.diva_image.specs.Layout.{Layout}
use Rattle.diva_image.specs.Images.{image_of}
use Rattle.diva_image.specs.Migrated.{BeginsAgain, segmented_bytes}
use Rattle.diva_image.specs.Programs.{image_in}
use Rattle.diva_hart.specs.Start.{start_of}
use Rattle.diva_hart.proofs.Beginning.{starts_as}
use Rattle.diva_cli.specs.Changes.{change}
use Rattle.diva_cli.specs.ImageTexts.{HasMigrated}
use Rattle.diva_process.specs.declared.status.Status.{Status}
use Rattle.diva_process.specs.declared.status.Status.TheVariants.{Halted}
use Rattle.diva_process.specs.Programs.{FileBytes}

pub has_migrated : {C : Type 0} (room : ℕ) (bytes : FileBytes) (core : C) (ended : Result Status Text) (text : Text) (i : Layout) (spelled : List ℕ)
    → text ≡ spelled → image_in room (bytes ImageFile) ≡ i → spelled ≡ segmented_bytes i → BeginsAgain i spelled → IfOk ended (λ s. s ≡ Halted)
    → HasMigrated room bytes (change core core) ended text
has_migrated room bytes core ended text i spelled put read written begins whole =
    let again : BeginsAgain i text = subst (BeginsAgain i) (sym put) begins in
    record {
      written = put ∙ written ∙ ap segmented_bytes (sym read);
      faultless = again.faultless;
      starts = starts_as (image_of text) i again.begins ∙ ap start_of (sym read);
      alone = record { unasked = refl; whole = whole };
    }
