-- An image of the code as the definitions have it, and what its reading gives.
-- Cited by `Image::new`, `read`, `read_elf`, `write` and `write2`.
use Rattle.std.specs.Prelude.{◌≡◌, List, ℕ, Result, Ok, Err, None}
use Rattle.diva_image.specs.declared.image.Image.{Image}
use Rattle.diva_image.specs.declared.fault.ImageFault.{ImageFault}
use Rattle.diva_image.specs.declared.fault.ImageFault.TheVariants.{Bad, Memory}
use Rattle.diva_image.specs.Layout.{Layout}
use Rattle.diva_image.specs.Header.{fault}
use Rattle.diva_image.specs.Elf.{elf_fault, elf_of}
use Rattle.diva_image.specs.Images.{fault_of, image_of}

-- an image of the code as the definitions have it
abbrev pub layout : Image → Layout
layout i = record { base = i.base; size = i.size; entry = i.entry; payload = i.payload }

-- the bytes are refused for their first fault; where they have none, they are read to their image, or memory runs out
abbrev pub Reads : List ℕ → Result Image ImageFault → Type 0
Reads bytes (Ok i) = (fault_of bytes ≡ None) × (image_of bytes ≡ layout i)
Reads bytes (Err (Bad kind place)) = fault_of bytes ≡ fault kind place
Reads bytes (Err Memory) = fault_of bytes ≡ None

-- the same of an executable, with so much room behind its loads
abbrev pub ReadsElf : (room : ℕ) → List ℕ → Result Image ImageFault → Type 0
ReadsElf room bytes (Ok i) = (elf_fault room bytes ≡ None) × (elf_of room bytes ≡ layout i)
ReadsElf room bytes (Err (Bad kind place)) = elf_fault room bytes ≡ fault kind place
ReadsElf room bytes (Err Memory) = elf_fault room bytes ≡ None
