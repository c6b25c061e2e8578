-- What the commands `asm`, `dis` and `migrate` write. They ask no core.
-- Cited in `Texts.antt`, for `top`.
use Rattle.std.specs.Prelude.{◌≡◌, ℕ, Result, Ok, None, IfOk}
use Rattle.std.specs.List.{concat}
use Rattle.diva_outside.specs.Text.{Text}
use Rattle.diva_outside.specs.declared.files.What.TheVariants.{Image, Source}
use Rattle.diva_image.specs.Images.{fault_of, image_bytes, image_of}
use Rattle.diva_image.specs.Layout.{Layout}
use Rattle.diva_image.specs.Migrated.{segmented_bytes}
use Rattle.diva_image.specs.Programs.{image_in}
use Rattle.diva_hart.specs.Start.{start_of}
use Rattle.diva_asm.specs.Listing.{listing_of}
use Rattle.diva_asm.specs.Sources.{source_of}
use Rattle.diva_cli.specs.Changes.{Change}
use Rattle.diva_process.specs.declared.status.Status.{Status}
use Rattle.diva_process.specs.declared.status.Status.TheVariants.{Halted}
use Rattle.diva_process.specs.Programs.{FileBytes}

-- the core stays as it was, and the status is `Halted` where the text was written whole
pub record IsAlone {C : Type 0} (core : Change C) (ended : Result Status Text) : Type 0 where
  pub unasked : core.after ≡ core.before
  pub whole : IfOk ended (λ s. s ≡ Halted)

-- the bytes of the image of a source
pub record HasAssembled {C : Type 0} (bytes : FileBytes) (core : Change C) (ended : Result Status Text) (text : Text) : Type 0 where
  pub image : Layout
  pub assembled : source_of (bytes Source) ≡ Ok image
  pub written : text ≡ image_bytes image
  pub alone : IsAlone core ended

-- a line for each word of an image; an executable has no room here
pub record HasListing {C : Type 0} (bytes : FileBytes) (core : Change C) (ended : Result Status Text) (text : Text) : Type 0 where
  pub lines : text ≡ concat (listing_of (image_in 0 (bytes Image)))
  pub alone : IsAlone core ended

-- the bytes of an image file in version 2, without a fault, which start the state that the image starts with this room
pub record HasMigrated {C : Type 0} (room : ℕ) (bytes : FileBytes) (core : Change C) (ended : Result Status Text)
    (text : Text) : Type 0 where
  pub written : text ≡ segmented_bytes (image_in room (bytes Image))
  pub faultless : fault_of text ≡ None
  pub starts : start_of (image_of text) ≡ start_of (image_in room (bytes Image))
  pub alone : IsAlone core ended
