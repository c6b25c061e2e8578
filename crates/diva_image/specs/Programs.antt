-- What a command takes for an image: an image's file, or an executable, behind whose loads memory has room.
-- Cited by `read_program`.
use Rattle.std.specs.Prelude.{◌≡◌, ℕ, Bool, List, ◌∷◌, codes, nat_eq, Option, Result, Ok, Err, None, if◌then◌else◌}
use Rattle.std.specs.List.{starts_with}
use Rattle.diva_image.specs.declared.image.Image.{Image}
use Rattle.diva_image.specs.declared.fault.Fault.{Fault}
use Rattle.diva_image.specs.declared.fault.ImageFault.{ImageFault}
use Rattle.diva_image.specs.declared.fault.ImageFault.TheVariants.{Bad, Memory}
use Rattle.diva_image.specs.Layout.{Layout}
use Rattle.diva_image.specs.Header.{fault}
use Rattle.diva_image.specs.Elf.{elf_fault, elf_of}
use Rattle.diva_image.specs.Images.{fault_of, image_of}
use Rattle.diva_image.specs.ImageLayout.{layout}

-- it begins as an executable does
abbrev pub is_elf : List ℕ → Bool
is_elf bytes = starts_with nat_eq bytes (127 ∷ codes "ELF")

-- the first fault of a file
unfoldable pub fault_in : (room : ℕ) → List ℕ → Option Fault
fault_in room bytes = if is_elf bytes then elf_fault room bytes else fault_of bytes

-- the image of a file that has no fault
unfoldable pub image_in : (room : ℕ) → List ℕ → Layout
image_in room bytes = if is_elf bytes then elf_of room bytes else image_of bytes

-- the file is refused for its first fault; where it has none, it is read to its image, or memory runs out
abbrev pub ReadsIn : (room : ℕ) → List ℕ → Result Image ImageFault → Type 0
ReadsIn room bytes (Ok i) = (fault_in room bytes ≡ None) × (image_in room bytes ≡ layout i)
ReadsIn room bytes (Err (Bad kind place)) = fault_in room bytes ≡ fault kind place
ReadsIn room bytes (Err Memory) = fault_in room bytes ≡ None
